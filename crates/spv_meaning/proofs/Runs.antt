-- What a step of one invocation does to the runs of a world.
use Rattle.std.proofs.Common.{◌≡◌, ◌≢◌, ℕ, ◌<◌, List, [], ◌∷◌, ◌++◌, refl, ap, ◌∙◌}
use Rattle.launch_text.specs.WorkItems.{volume}
use Rattle.clv_steps.specs.Machines.{Status, Runs, Asks, Ends, Fails, IsLive, Machine, after}
use Rattle.clv_steps.proofs.Append.{after_append}
use Rattle.clv_worlds.specs.Worlds.{with_item, Moves, own, does}
use Rattle.clv_worlds.proofs.Picks.{pick_same, pick_other}
use Rattle.spv_module.specs.declared.module.Inst.{Inst}
use Rattle.spv_meaning.specs.Events.{Asked}
use Rattle.spv_meaning.specs.Start.{Start}
use Rattle.spv_meaning.specs.Invocation.{Run, Row, Steps, Questions, Traps, status_by, next, invocation, given_of, first_run}
use Rattle.spv_meaning.specs.Worlds.{shared_over, module_world}
use Rattle.spv_meaning.specs.Schedule.{Invocations, run_of, status_of, after_status}

-- an invocation that has an instruction has not ended
pub never_ends : (function : ℕ) (r : Row) → status_by function r ≢ Ends
never_ends function (Steps to) e = cc
never_ends function (Questions event to) e = cc
never_ends function (Traps kind) e = cc

module _ (body : List Inst) (start : Start) (w : Invocations) (i : ℕ) where
  abbrev machine_at : ℕ → Machine Run Asked
  machine_at j = invocation (given_of body start j)

  abbrev first_at : ℕ → Run
  first_at j = first_run (given_of body start j)

  grown_same : after (machine_at i) (with_item i (w.items i ++ 0 ∷ []) w.items i) (first_at i) ≡ next (given_of body start i) 0 (run_of body start w i)
  grown_same = ap (λ h. after (machine_at i) h (first_at i)) (pick_same i (w.items i ++ 0 ∷ []) (w.items i)) ∙ after_append (machine_at i) (w.items i) (0 ∷ []) (first_at i)

  grown_other : (j : ℕ) → (i ≡ j → ⊥) → after (machine_at j) (with_item i (w.items i ++ 0 ∷ []) w.items j) (first_at j) ≡ run_of body start w j
  grown_other j e = ap (λ h. after (machine_at j) h (first_at j)) (pick_other i j (w.items i ++ 0 ∷ []) (w.items j) e)

  pub step_same : (s : Status Asked) → IsLive s → run_of body start (after_status body start s w i) i ≡ next (given_of body start i) 0 (run_of body start w i)
  step_same Runs l = grown_same
  step_same (Asks a) l = grown_same
  step_same Ends l = absurd l
  step_same Fails l = absurd l

  pub step_other : (s : Status Asked) (j : ℕ) → (i ≡ j → ⊥) → run_of body start (after_status body start s w i) j ≡ run_of body start w j
  step_other Runs j e = grown_other j e
  step_other (Asks a) j e = grown_other j e
  step_other Ends j e = refl
  step_other Fails j e = refl

  -- a step is a move of the module's world
  pub step_moves : (s : Status Asked) → i < volume start.global → status_of body start w i ≡ s → IsLive s → Moves (shared_over start.global start.local) (module_world body start) w (after_status body start s w i)
  step_moves Runs low e l = own w i 0 low e
  step_moves (Asks a) low e l = does w i a low (record { asks = e; gate = refl }) refl
  step_moves Ends low e l = absurd l
  step_moves Fails low e l = absurd l

  pub step_items : (s : Status Asked) → IsLive s → (after_status body start s w i).items ≡ with_item i (w.items i ++ 0 ∷ []) w.items
  step_items Runs l = refl
  step_items (Asks a) l = refl
  step_items Ends l = absurd l
  step_items Fails l = absurd l
