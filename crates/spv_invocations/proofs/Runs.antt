-- What a step of one invocation, and the release of a group, do to the runs of a world.
use Rattle.std.proofs.Common.{◌≡◌, ◌≢◌, ℕ, ◌<◌, Bool, true, false, List, [], ◌∷◌, ◌++◌, Option, Some, None, refl, ap, ◌∙◌}
use Rattle.launch_text.specs.WorkItems.{volume, group_of}
use Rattle.clv_steps.specs.Machines.{Status, Runs, Asks, Ends, Fails, IsLive, Machine, after}
use Rattle.clv_steps.proofs.Append.{after_append}
use Rattle.clv_worlds.specs.Worlds.{with_item, pick, Moves, own, does, takes, opens, WaitsAt}
use Rattle.clv_worlds.proofs.Picks.{pick_same, pick_other}
use Rattle.spv_module.specs.declared.module.Inst.{Inst}
use Rattle.spv_invocations.specs.Events.{Asked}
use Rattle.spv_invocations.specs.Start.{Start}
use Rattle.spv_invocations.specs.Invocation.{Run, Row, Steps, Questions, Traps, status_by, next, invocation, given_of, first_run}
use Rattle.spv_invocations.specs.Worlds.{gate_of, shared_over, module_world}
use Rattle.spv_invocations.specs.Schedule.{Invocations, run_of, status_of, chain_by, chain_of, reply_of, after_status, opened}

-- an invocation that has an instruction has not ended
pub never_ends : (function : ℕ) (r : Row) → status_by function r ≢ Ends
never_ends function (Steps to) e = cc
never_ends function (Questions event to) e = cc
never_ends function (Traps kind) e = cc

-- what is asked at a barrier
pub waiting : (s : Status Asked) (chain : List ℕ) → chain_by s ≡ Some chain → (a : Asked) × (s ≡ Asks a) × (gate_of a ≡ Some chain)
waiting (Asks a) chain e = (a, refl, e)
waiting Runs chain e = absurd (let h : (let n : Option (List ℕ) = None in n) ≡ Some chain = e in cc)
waiting Ends chain e = absurd (let h : (let n : Option (List ℕ) = None in n) ≡ Some chain = e in cc)
waiting Fails chain e = absurd (let h : (let n : Option (List ℕ) = None in n) ≡ Some chain = e in cc)

pub ended_waits_not : (s : Status Asked) → s ≡ Ends → chain_by s ≡ None
ended_waits_not s e = ap chain_by e

module _ (body : List Inst) (start : Start) (w : Invocations) where
  abbrev machine_at : ℕ → Machine Run Asked
  machine_at j = invocation (given_of body start j)

  abbrev first_at : ℕ → Run
  first_at j = first_run (given_of body start j)

  pub waits_at : (j : ℕ) (chain : List ℕ) → chain_of body start w j ≡ Some chain → WaitsAt (module_world body start) w j chain
  waits_at j chain e = let h = waiting (status_of body start w j) chain e in record { event = h.0; asks = h.1; gate = h.2 }

  module _ (i : ℕ) where
    grown_same : (x : ℕ) → after (machine_at i) (with_item i (w.items i ++ x ∷ []) w.items i) (first_at i) ≡ next (given_of body start i) x (run_of body start w i)
    grown_same x = ap (λ h. after (machine_at i) h (first_at i)) (pick_same i (w.items i ++ x ∷ []) (w.items i)) ∙ after_append (machine_at i) (w.items i) (x ∷ []) (first_at i)

    grown_other : (x j : ℕ) → (i ≡ j → ⊥) → after (machine_at j) (with_item i (w.items i ++ x ∷ []) w.items j) (first_at j) ≡ run_of body start w j
    grown_other x j e = ap (λ h. after (machine_at j) h (first_at j)) (pick_other i j (w.items i ++ x ∷ []) (w.items j) e)

    -- the number that a step is given
    abbrev pub given_to : Status Asked → ℕ
    given_to (Asks a) = reply_of start a w i
    given_to _ = 0

    pub step_same : (s : Status Asked) → IsLive s → run_of body start (after_status body start s w i) i ≡ next (given_of body start i) (given_to s) (run_of body start w i)
    step_same Runs l = grown_same 0
    step_same (Asks a) l = grown_same (reply_of start a w i)
    step_same Ends l = absurd l
    step_same Fails l = absurd l

    pub step_other : (s : Status Asked) (j : ℕ) → (i ≡ j → ⊥) → run_of body start (after_status body start s w i) j ≡ run_of body start w j
    step_other Runs j e = grown_other 0 j e
    step_other (Asks a) j e = grown_other (reply_of start a w i) j e
    step_other Ends j e = refl
    step_other Fails j e = refl

    asks_moves : (a : Asked) → i < volume start.global → status_of body start w i ≡ Asks a → gate_of a ≡ None → (d : Bool) → (shared_over start.global start.local).denies i a w.memory ≡ d → Moves (shared_over start.global start.local) (module_world body start) w (after_status body start (Asks a) w i)
    asks_moves a low e open_ false d = does w i a low (record { asks = e; gate = open_ }) d
    asks_moves a low e open_ true d = takes w i a (reply_of start a w i) low (record { asks = e; gate = open_ }) d refl

    -- a step that is no barrier is a move of the module's world
    pub step_moves : (s : Status Asked) → i < volume start.global → status_of body start w i ≡ s → IsLive s → chain_by s ≡ None → Moves (shared_over start.global start.local) (module_world body start) w (after_status body start s w i)
    step_moves Runs low e l open_ = own w i 0 low e
    step_moves (Asks a) low e l open_ = asks_moves a low e open_ ((shared_over start.global start.local).denies i a w.memory) refl
    step_moves Ends low e l open_ = absurd l
    step_moves Fails low e l open_ = absurd l

    pub step_items : (s : Status Asked) → IsLive s → (after_status body start s w i).items ≡ with_item i (w.items i ++ given_to s ∷ []) w.items
    step_items Runs l = refl
    step_items (Asks a) l = refl
    step_items Ends l = absurd l
    step_items Fails l = absurd l

  -- ---- the release of a group

  module _ (g : ℕ) where
    abbrev group_at : ℕ → ℕ
    group_at = group_of start.global start.local

    pub opened_items_in : (j : ℕ) → group_at j ≡ g → (opened start w g).items j ≡ w.items j ++ 0 ∷ []
    opened_items_in j e = ap (λ k. pick k g (w.items j ++ 0 ∷ []) (w.items j)) e ∙ pick_same g (w.items j ++ 0 ∷ []) (w.items j)

    pub opened_items_out : (j : ℕ) → (group_at j ≡ g → ⊥) → (opened start w g).items j ≡ w.items j
    opened_items_out j e = pick_other (group_at j) g (w.items j ++ 0 ∷ []) (w.items j) e

    pub opened_in : (j : ℕ) → group_at j ≡ g → run_of body start (opened start w g) j ≡ next (given_of body start j) 0 (run_of body start w j)
    opened_in j e = ap (λ h. after (machine_at j) h (first_at j)) (opened_items_in j e) ∙ after_append (machine_at j) (w.items j) (0 ∷ []) (first_at j)

    pub opened_out : (j : ℕ) → (group_at j ≡ g → ⊥) → run_of body start (opened start w g) j ≡ run_of body start w j
    opened_out j e = ap (λ h. after (machine_at j) h (first_at j)) (opened_items_out j e)

    pub opens_moves : (chain : List ℕ) (i : ℕ) → i < volume start.global → group_at i ≡ g → ((j : ℕ) → j < volume start.global → group_at j ≡ g → chain_of body start w j ≡ Some chain) → Moves (shared_over start.global start.local) (module_world body start) w (opened start w g)
    opens_moves chain i low e each = opens w g chain i low e (λ j lower same. waits_at j chain (each j lower same))
