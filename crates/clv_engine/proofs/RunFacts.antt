-- What the machine's run comes to, for the launch.
use Rattle.std.proofs.Common.{◌≡◌, ℕ, zero, suc, ◌+◌, ◌≤◌, Bool, true, false, not, ◌&&◌, leb, List, [], ◌∷◌, length, None, refl, sym, ap, ◌∙◌, subst, arith}
use Rattle.std.proofs.lemmas.Bool.{leb-true}
use Rattle.launch_text.specs.WorkItems.{volume}
use Rattle.launch_text.specs.declared.launch.Launch.{Launch}
use Rattle.launch_text.specs.Rules.{LoadedLaunch, loaded}
use Rattle.spv_module.specs.declared.module.Inst.{Inst}
use Rattle.spv_module.specs.declared.module.Module.{Module}
use Rattle.clv_steps.specs.Machines.{Status, Runs, Asks, Ends, Fails}
use Rattle.spv_meaning.specs.Events.{Event, Write, Asked}
use Rattle.spv_meaning.specs.Start.{Bound, Start}
use Rattle.spv_meaning.specs.Worlds.{Buffers, put_in, after_event}
use Rattle.spv_meaning.specs.Schedule.{Invocations, Ending, after_status, after_step, status_of, Turns, complete, spent, turned, traps, ends, goes}
use Rattle.vk_bind.specs.Binding.{BindsTo}
use Rattle.vk_bind.specs.Answers.{bounds_from, start_from}
use Rattle.vk_bind.specs.declared.start.Start.{Start as Begin}
use Rattle.clv_engine.specs.declared.outcome.Outcome.{Outcome}
use Rattle.clv_engine.specs.declared.outcome.Outcome.TheVariants as outcome
use Rattle.clv_engine.specs.RunCommand.{is_marked}
use Rattle.clv_engine.specs.RunSteps.{marks, IsComplete, ComesOut, ComesFrom, DoneFrom, RunsFrom}
use Rattle.clv_engine.proofs.ScheduledFacts.{starts_from}

-- ---- buffers are neither made nor lost

put_count : (n offset : ℕ) (bytes : List ℕ) (bs : Buffers) → length (put_in n offset bytes bs) ≡ length bs
put_count n offset bytes [] = refl
put_count zero offset bytes (b ∷ bs) = refl
put_count (suc n) offset bytes (b ∷ bs) = ap suc (put_count n offset bytes bs)

event_count : (e : Event) (bs : Buffers) → length (after_event e bs) ≡ length bs
event_count (Write at value) bs = put_count _ _ _ bs

step_count : (body : List Inst) (start : Start) (s : Status Asked) (w : Invocations) (i : ℕ) → length (after_status body start s w i).memory ≡ length w.memory
step_count body start Runs w i = refl
step_count body start (Asks asked) w i = event_count asked.event w.memory
step_count body start Ends w i = refl
step_count body start Fails w i = refl

turns_count : (body : List Inst) (start : Start) (turn : ℕ) (q : List ℕ) (left budget made : ℕ) (w v : Invocations) (e : Ending) → Turns body start turn q left budget made w e v → length v.memory ≡ length w.memory
turns_count body start turn _ _ _ _ _ _ _ (complete left budget made w) = refl
turns_count body start turn _ _ _ _ _ _ _ (spent i queue left made w) = refl
turns_count body start turn _ _ _ _ _ _ _ (turned i queue budget made w v e t) = turns_count body start turn _ _ _ _ w v e t
turns_count body start turn _ _ _ _ _ _ _ (traps i queue left budget made w t f g) = refl
turns_count body start turn _ _ _ _ _ _ _ (ends i queue left budget made w v e live over t) = turns_count body start turn _ _ _ _ (after_step body start w i) v e t ∙ step_count body start (status_of body start w i) w i
turns_count body start turn _ _ _ _ _ _ _ (goes i queue left budget made w v e live on t) = turns_count body start turn _ _ _ _ (after_step body start w i) v e t ∙ step_count body start (status_of body start w i) w i

-- marks go by the number of buffers alone
marks_same : (body : List Inst) (bound : List Bound) (n : ℕ) (as_ bs : Buffers) → length as_ ≡ length bs → marks body bound n as_ ≡ marks body bound n bs
marks_same body bound n [] [] e = refl
marks_same body bound n [] (b ∷ bs) e = absurd (omega (arith, e))
marks_same body bound n (a ∷ as_) [] e = absurd (omega (arith, e))
marks_same body bound n (a ∷ as_) (b ∷ bs) e = ap (λ ms. is_marked body bound n ∷ ms) (marks_same body bound (n + 1) as_ bs (omega (arith, e)))

-- ---- from a start to the launch that binds there

done_comes : (s : Begin) (l : LoadedLaunch) (turn budget steps : ℕ) (buffers : Buffers) (stored : List Bool) → BindsTo s.checked.body l (start_from s) → DoneFrom s turn budget steps buffers stored → IsComplete s.checked l turn budget steps buffers stored
done_comes s l turn budget steps buffers stored b d =
    let from = starts_from s.checked.body l (start_from s) b in
    let kept : length buffers ≡ length s.buffers = ap length d.leaves ∙ turns_count _ _ _ _ _ _ _ _ _ _ d.run in
    record {
      world = d.world;
      runs = record { start = start_from s; binds = b; cells = d.cells; run = d.run };
      leaves = d.leaves;
      count = kept ∙ ap length from.buffers;
      marked = d.marked ∙ marks_same s.checked.body (bounds_from s.bound) 0 s.buffers buffers (sym kept);
    }

comes_out : (s : Begin) (l : LoadedLaunch) (turn budget : ℕ) (o : Outcome) → BindsTo s.checked.body l (start_from s) → RunsFrom s turn budget o → ComesOut s.checked l turn budget o
comes_out s l turn budget (outcome.Done steps buffers stored) b r = done_comes s l turn budget steps buffers stored b r
comes_out s l turn budget (outcome.Trapped t) b r = (r.0, r.1, record { start = start_from s; binds = b; cells = r.2; run = r.3 })
comes_out s l turn budget outcome.Spent b r = (r.0, record { start = start_from s; binds = b; cells = r.1; run = r.2 })
comes_out s l turn budget (outcome.Misfit number arg) b r = absurd r
comes_out s l turn budget outcome.TooMuch b r = record { start = start_from s; binds = b; over = r }

pub comes_from : (m : Module) (launch : Launch) (turn : ℕ) (bs : Buffers) (s : Begin) (o : Outcome) → s.checked ≡ m → BindsTo m.body (loaded launch bs) (start_from s) → RunsFrom s turn launch.steps o → ComesFrom m launch turn bs o
comes_from m launch turn bs s o e b r = subst (λ (k : Module). ComesFrom k launch turn bs o) e (record { is = comes_out s (loaded launch bs) turn launch.steps o (subst (λ (k : Module). BindsTo k.body (loaded launch bs) (start_from s)) (sym e) b) r })

-- the grid of a launch that binds
grid_kept : (a b : Bool) → not (a && b) ≡ false → b ≡ true
grid_kept a true e = refl
grid_kept true false e = (let never : true ≡ false = e in cc)
grid_kept false false e = (let never : true ≡ false = e in cc)

pub few_items : (m : Module) (launch : Launch) (bs : Buffers) (s : Begin) → BindsTo m.body (loaded launch bs) (start_from s) → volume (start_from s).global ≤ 16384
few_items m launch bs s b =
    let from = starts_from m.body (loaded launch bs) (start_from s) b in
    subst (λ g. volume g ≤ 16384) (sym from.global) (leb-true (volume (loaded launch bs).global) 16384 (grid_kept (leb (volume (loaded launch bs).local) 1024) (leb (volume (loaded launch bs).global) 16384) (b.rules.none 19 None)))
