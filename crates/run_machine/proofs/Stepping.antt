-- One step of an item, at a world.
use Rattle.std.proofs.Common.{◌≡◌, ◌≢◌, ℕ, zero, suc, ◌<◌, inl, inr, List, [], ◌∷◌, ◌++◌, refl, sym, ap, ◌∙◌, subst, length, get_or, set, map, arith}
use Rattle.std.specs.Prelude.{slice_get, Result, Ok, Err, OnOk, OnErr, IfOk}
use Rattle.std.proofs.Math.Seq.{map-set_same}
use Rattle.std.proofs.lemmas.Bool.{cases_eq}
use Rattle.std.proofs.lemmas.List.{length-set, get_or-set_same, get_or-set_other, map-set, length-map}
use Rattle.launch_text.specs.WorkItems.{volume}
use Rattle.clv_steps.specs.Machines.{Status, Runs, Asks, Ends, Fails, IsLive, Machine as Automaton, after}
use Rattle.clv_steps.proofs.Append.{after_append}
use Rattle.clv_worlds.specs.Worlds.{with_item}
use Rattle.clv_worlds.proofs.Picks.{pick_same, pick_other}
use Rattle.spv_module.specs.declared.module.Inst.{Inst}
use Rattle.spv_meaning.specs.Events.{Asked}
use Rattle.spv_meaning.specs.Start.{Start}
use Rattle.spv_meaning.specs.Invocation.{Run, over, Row, Steps, Questions, Traps, status_by, next_by, status, next, invocation, given_of, first_run, kind_by}
use Rattle.spv_meaning.specs.Worlds.{Buffers, after_event}
use Rattle.spv_meaning.specs.Schedule.{Invocations, run_of, status_of, after_status, after_step, Trapped, TrapsAt}
use Rattle.run_machine.specs.declared.invocation.Frame.{Frame}
use Rattle.run_machine.specs.declared.invocation.Run.{Run as PlainRun}
use Rattle.run_machine.specs.declared.invocation.Run.TheVariants.{At, Over}
use Rattle.run_machine.specs.declared.row.Did.{Did}
use Rattle.run_machine.specs.declared.row.Did.TheVariants as did
use Rattle.run_machine.specs.declared.ending.Stepped.{Stepped}
use Rattle.run_machine.specs.declared.ending.Stepped.TheVariants.{Went, Ended, Trapped as DidTrap}
use Rattle.run_machine.specs.declared.machine.Machine.{Machine}
use Rattle.clv_place.specs.declared.stop.NoMemory.{NoMemory}
use Rattle.spv_meaning.specs.declared.trap.TrapKind.{TrapKind}
use Rattle.run_machine.specs.Views.{run_by, frame_by, row_of, body_by, start_by}
use Rattle.run_machine.specs.Machines.{Stand, next_as, written_by, stepped_by, Does, IsGoing, IsReady, IsAt, StandsIn, StepsAt, Steps as StepsTo, runs_of}

-- ---- what is going

pub going_within : (runs : List PlainRun) (i : ℕ) → IsGoing (slice_get runs i) → i < length runs
going_within [] i g = absurd g
going_within (r ∷ rs) zero g = omega arith
going_within (r ∷ rs) (suc i) g = let h = going_within rs i g in omega (arith, h)

pub going_at : (runs : List PlainRun) (i : ℕ) (d : PlainRun) → IsGoing (slice_get runs i) → (f : Frame) × (get_or runs i d ≡ At f)
going_at [] i d g = absurd g
going_at (At f ∷ rs) zero d g = (f, refl)
going_at (Over ∷ rs) zero d g = absurd g
going_at (r ∷ rs) (suc i) d g = going_at rs i d g

get_any : (runs : List PlainRun) (i : ℕ) (d e : PlainRun) → i < length runs → get_or runs i d ≡ get_or runs i e
get_any [] i d e h = absurd (omega (arith, h))
get_any (r ∷ rs) zero d e h = refl
get_any (r ∷ rs) (suc i) d e h = get_any rs i d e (omega (arith, h))

pub seen : (runs : List PlainRun) (i : ℕ) (x : PlainRun) → IsGoing (slice_get runs i) → x ≡ get_or runs i x → x ≡ get_or runs i Over
seen runs i x g e = e ∙ get_any runs i x Over (going_within runs i g)

pub ruleset making = (going_within, map-set, map-set_same)

-- ---- the runs of a world after a step

module _ (body : List Inst) (start : Start) (w : Invocations) (i : ℕ) where
  abbrev machine_at : ℕ → Automaton Run Asked
  machine_at j = invocation (given_of body start j)

  abbrev first_at : ℕ → Run
  first_at j = first_run (given_of body start j)

  pub grown_same : after (machine_at i) (with_item i (w.items i ++ 0 ∷ []) w.items i) (first_at i) ≡ next (given_of body start i) 0 (run_of body start w i)
  grown_same = ap (λ h. after (machine_at i) h (first_at i)) (pick_same i (w.items i ++ 0 ∷ []) (w.items i)) ∙ after_append (machine_at i) (w.items i) (0 ∷ []) (first_at i)

  pub grown_other : (j : ℕ) → (i ≡ j → ⊥) → after (machine_at j) (with_item i (w.items i ++ 0 ∷ []) w.items j) (first_at j) ≡ run_of body start w j
  grown_other j e = ap (λ h. after (machine_at j) h (first_at j)) (pick_other i j (w.items i ++ 0 ∷ []) (w.items j) e)

  pub step_same : (s : Status Asked) → IsLive s → run_of body start (after_status body start s w i) i ≡ next (given_of body start i) 0 (run_of body start w i)
  step_same Runs l = grown_same
  step_same (Asks a) l = grown_same
  step_same Ends l = absurd l
  step_same Fails l = absurd l

  pub step_other : (s : Status Asked) (j : ℕ) → (i ≡ j → ⊥) → run_of body start (after_status body start s w i) j ≡ run_of body start w j
  step_other Runs j e = grown_other j e
  step_other (Asks a) j e = grown_other j e
  step_other Ends j e = refl
  step_other Fails j e = refl

abbrev memory_by : Status Asked → Buffers → Buffers
memory_by (Asks a) bs = after_event a.event bs
memory_by _ bs = bs

step_memory : (body : List Inst) (start : Start) (w : Invocations) (i : ℕ) (s : Status Asked) → (after_status body start s w i).memory ≡ memory_by s w.memory
step_memory body start w i Runs = refl
step_memory body start w i (Asks a) = refl
step_memory body start w i Ends = refl
step_memory body start w i Fails = refl

stand_after : (body : List Inst) (start : Start) (memory : Buffers) (runs : List Run) (w : Invocations) (i : ℕ) (s : Status Asked) → Stand body start memory runs w → i < volume start.global → IsLive s → Stand body start (memory_by s memory) (set runs i (next (given_of body start i) 0 (run_of body start w i))) (after_status body start s w i)
stand_after body start memory runs w i s k low live =
    let r = next (given_of body start i) 0 (run_of body start w i) in
    record {
      buffers = ap (memory_by s) k.buffers ∙ sym (step_memory body start w i s);
      count = length-set runs i r ∙ k.count;
      each = λ j below. elim (cases_eq i j) [
        | inl e ↦ subst (λ n. get_or (set runs i r) n over ≡ run_of body start (after_status body start s w i) n) e (get_or-set_same runs i r over (omega (arith, low, k.count)) ∙ sym (step_same body start w i s live))
        | inr other ↦ get_or-set_other runs i j r over (λ e. other (sym e)) ∙ k.each j below ∙ sym (step_other body start w i s j other)
      ];
    }

-- ---- one step

pub get_map : (runs : List PlainRun) (i : ℕ) → get_or (map run_by runs) i over ≡ run_by (get_or runs i Over)
get_map [] i = refl
get_map (r ∷ rs) zero = refl
get_map (r ∷ rs) (suc i) = get_map rs i

-- no trap
abbrev pub IsStep : Did → Type 0
IsStep (did.Traps kind) = ⊥
IsStep _ = Unit {0}

status_live : (f : Frame) (d : Did) → IsStep d → IsLive (status_by f.function (row_of f d))
status_live f did.Begins k = tt
status_live f (did.Gives id v) k = tt
status_live f (did.Moves n) k = tt
status_live f (did.Writes at n) k = tt
status_live f did.Returns k = tt
status_live f (did.Traps kind) k = absurd k

status_memory : (f : Frame) (d : Did) (bs : Buffers) → memory_by (status_by f.function (row_of f d)) bs ≡ written_by d bs
status_memory f did.Begins bs = refl
status_memory f (did.Gives id v) bs = refl
status_memory f (did.Moves n) bs = refl
status_memory f (did.Writes at n) bs = refl
status_memory f did.Returns bs = refl
status_memory f (did.Traps kind) bs = refl

pub never_ends : (function : ℕ) (r : Row) → status_by function r ≢ Ends
never_ends function (Steps to) e = let h : Runs ≡ Ends = e in cc
never_ends function (Questions event to) e = let h : Asks (record { function = function; event = event }) ≡ Ends = e in cc
never_ends function (Traps kind) e = let h : Fails ≡ Ends = e in cc

-- whether the next run is at its end
abbrev EndsAs : List Inst → Start → ℕ → Run → Stepped → Type 0
EndsAs body start i r Went = status (given_of body start i) r ≢ Ends
EndsAs body start i r Ended = status (given_of body start i) r ≡ Ends
EndsAs body start i r _ = ⊥

ends_as : (body : List Inst) (start : Start) (i : ℕ) (f : Frame) (d : Did) → IsStep d → EndsAs body start i (next_by 0 (row_of f d)) (stepped_by d)
ends_as body start i f did.Begins k = never_ends _ _
ends_as body start i f (did.Gives id v) k = never_ends _ _
ends_as body start i f (did.Moves n) k = never_ends _ _
ends_as body start i f (did.Writes at n) k = never_ends _ _
ends_as body start i f did.Returns k = refl
ends_as body start i f (did.Traps kind) k = absurd k

pub record Made (body : List Inst) (start : Start) (i : ℕ) (memory : Buffers) (runs : List PlainRun) (x : PlainRun) (d : Did) (w : Invocations) : Type 0 where
  pub live : IsLive (status_of body start w i)
  pub ends : EndsAs body start i (run_of body start (after_step body start w i) i) (stepped_by d)
  pub at : Stand body start (written_by d memory) (set (map run_by runs) i (next_as x d)) (after_step body start w i)

made_frame : (body : List Inst) (start : Start) (i : ℕ) (memory : Buffers) (runs : List PlainRun) (f : Frame) (d : Did) (w : Invocations) → Stand body start memory (map run_by runs) w → i < length runs → get_or runs i Over ≡ At f → Does body start i (At f) d → IsStep d → Made body start i memory runs (At f) d w
made_frame body start i memory runs f d w k within is does step =
    let low : i < volume start.global = omega (arith, within, k.count, length-map {A = PlainRun} {B = Run}) in
    let here : run_of body start w i ≡ frame_by f = sym (k.each i low) ∙ get_map runs i ∙ ap run_by is in
    let state : status_of body start w i ≡ status_by f.function (row_of f d) = ap (status (given_of body start i)) here ∙ ap (status_by f.function) (sym does) in
    let moved : next (given_of body start i) 0 (run_of body start w i) ≡ next_by 0 (row_of f d) = ap (next (given_of body start i) 0) here ∙ ap (next_by 0) (sym does) in
    let live : IsLive (status_of body start w i) = subst IsLive (sym state) (status_live f d step) in
    let there = stand_after body start memory (map run_by runs) w i (status_of body start w i) k low live in
    let same : memory_by (status_of body start w i) memory ≡ written_by d memory = ap (λ s. memory_by s memory) state ∙ status_memory f d memory in
    record {
      live = live;
      ends = subst (λ r. EndsAs body start i r (stepped_by d)) (sym (step_same body start w i (status_of body start w i) live ∙ moved)) (ends_as body start i f d step);
      at = subst (λ m. Stand body start m (set (map run_by runs) i (next_by 0 (row_of f d))) (after_step body start w i)) same (subst (λ r. Stand body start (memory_by (status_of body start w i) memory) (set (map run_by runs) i r) (after_step body start w i)) moved there);
    }

pub made : (body : List Inst) (start : Start) (i : ℕ) (memory : Buffers) (runs : List PlainRun) (x : PlainRun) (d : Did) (w : Invocations) → Stand body start memory (map run_by runs) w → IsGoing (slice_get runs i) → x ≡ get_or runs i Over → Does body start i x d → IsStep d → Made body start i memory runs x d w
made body start i memory runs x d w k going is does step =
    let at = going_at runs i Over going in
    let e : At at.0 ≡ x = sym (is ∙ at.1) in
    subst (λ y. Made body start i memory runs y d w) e (made_frame body start i memory runs at.0 d w k (going_within runs i going) at.1 (subst (λ y. Does body start i y d) (sym e) does) step)

pub stand_same : (body : List Inst) (start : Start) (memory after_it : Buffers) (runs rest : List Run) (w : Invocations) → after_it ≡ memory → rest ≡ runs → Stand body start memory runs w → Stand body start after_it rest w
stand_same body start memory after_it runs rest w e f k = subst (λ m. Stand body start m rest w) (sym e) (subst (λ r. Stand body start memory r w) (sym f) k)

-- ---- traps

trapped_frame : (body : List Inst) (start : Start) (i : ℕ) (f : Frame) (t : Trapped) (w : Invocations) → run_of body start w i ≡ frame_by f → Does body start i (At f) (did.Traps t.kind) → StandsIn body (At f) t.function t.word → t.item ≡ i → (status_of body start w i ≡ Fails) × TrapsAt body start i (run_of body start w i) t
trapped_frame body start i f t w here does stands item =
    let fails : status_of body start w i ≡ Fails = ap (status (given_of body start i)) here ∙ ap (status_by f.function) (sym does) in
    let why : TrapsAt body start i (frame_by f) t = (ap kind_by (sym does), stands.0, stands.1, item) in
    (fails, subst (λ r. TrapsAt body start i r t) (sym here) why)

pub trapped : (body : List Inst) (start : Start) (i : ℕ) (memory : Buffers) (runs : List PlainRun) (x : PlainRun) (t : Trapped) (w : Invocations) → Stand body start memory (map run_by runs) w → IsGoing (slice_get runs i) → x ≡ get_or runs i Over → Does body start i x (did.Traps t.kind) → StandsIn body (get_or runs i Over) t.function t.word → t.item ≡ i → (status_of body start w i ≡ Fails) × TrapsAt body start i (run_of body start w i) t
trapped body start i memory runs x t w k going is does stands item =
    let at = going_at runs i Over going in
    let low : i < volume start.global = let h = going_within runs i going in omega (arith, h, k.count, length-map {A = PlainRun} {B = Run}) in
    let here : run_of body start w i ≡ frame_by at.0 = sym (k.each i low) ∙ get_map runs i ∙ ap run_by at.1 in
    trapped_frame body start i at.0 t w here (subst (λ y. Does body start i y (did.Traps t.kind)) (is ∙ at.1) does) (subst (λ y. StandsIn body y t.function t.word) at.1 stands) item

-- ---- what is made, as the machine's contract says it

pub is_step : (d : Did) → ((kind : TrapKind) → d ≡ did.Traps kind → ⊥) → IsStep d
is_step did.Begins h = tt
is_step (did.Gives id v) h = tt
is_step (did.Moves n) h = tt
is_step (did.Writes at n) h = tt
is_step did.Returns h = tt
is_step (did.Traps kind) h = absurd (h kind refl)

steps_as : (old new : Machine) (i : ℕ) (s : Stepped) (w : Invocations) → IsLive (status_of (body_by old.start) (start_by old.start) w i) → EndsAs (body_by old.start) (start_by old.start) i (run_of (body_by old.start) (start_by old.start) (after_step (body_by old.start) (start_by old.start) w i) i) s → IsAt new (after_step (body_by old.start) (start_by old.start) w i) → StepsAt (body_by old.start) (start_by old.start) old i new s w
steps_as old new i Went w live ends at = (live, ends, at)
steps_as old new i Ended w live ends at = (live, ends, at)
steps_as old new i (DidTrap t) w live ends at = absurd ends

made_steps : (old new : Machine) (i : ℕ) (x : PlainRun) (d : Did) → IsReady old i → x ≡ get_or old.runs.items i Over → Does (body_by old.start) (start_by old.start) i x d → IsStep d → new.start ≡ old.start → runs_of new ≡ set (runs_of old) i (next_as (get_or old.runs.items i Over) d) → new.buffers.items ≡ written_by d old.buffers.items → StepsTo old i new (stepped_by d)
made_steps old new i x d going is does step same runs buffers w k =
    let m = made (body_by old.start) (start_by old.start) i old.buffers.items old.runs.items x d w k going is does step in
    let next : Invocations = after_step (body_by old.start) (start_by old.start) w i in
    let runs_as : runs_of new ≡ set (runs_of old) i (next_as x d) = runs ∙ ap (λ y. set (runs_of old) i (next_as y d)) (sym is) in
    steps_as old new i (stepped_by d) w m.live m.ends (subst (λ z. Stand (body_by z) (start_by z) new.buffers.items (runs_of new) next) (sym same) (stand_same (body_by old.start) (start_by old.start) _ new.buffers.items _ (runs_of new) next buffers runs_as m.at))

pub result_steps : (old new : Machine) (i : ℕ) (x : PlainRun) (d : Did) (r : Result Stepped NoMemory) → IsReady old i → x ≡ get_or old.runs.items i Over → Does (body_by old.start) (start_by old.start) i x d → IsStep d → new.start ≡ old.start → OnOk r (runs_of new ≡ set (runs_of old) i (next_as (get_or old.runs.items i Over) d)) → OnOk r (new.buffers.items ≡ written_by d old.buffers.items) → IfOk r (λ s. s ≡ stepped_by d) → IfOk r (StepsTo old i new)
result_steps old new i x d (Ok s) going is does step same runs buffers stepped = subst (StepsTo old i new) (sym stepped) (made_steps old new i x d going is does step same runs buffers)
result_steps old new i x d (Err e) going is does step same runs buffers stepped = tt

pub result_stays : (old new : Machine) (r : Result Stepped NoMemory) → new.start ≡ old.start → OnErr r ((runs_of new ≡ runs_of old) × (new.buffers.items ≡ old.buffers.items)) → OnErr r ((w : Invocations) → IsAt old w → IsAt new w)
result_stays old new (Ok s) same h = tt
result_stays old new (Err e) same h = λ w k. subst (λ z. Stand (body_by z) (start_by z) new.buffers.items (runs_of new) w) (sym same) (stand_same (body_by old.start) (start_by old.start) _ new.buffers.items _ (runs_of new) w h.1 h.0 k)

pub ruleset stepping = (going_within)
