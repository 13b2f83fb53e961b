-- Each schedule has a run, where its turns have steps.
use Rattle.std.proofs.Common.{◌≡◌, ◌⊎◌, ℕ, zero, suc, ◌+◌, ◌<◌, inl, inr, List, [], ◌∷◌, ◌++◌, Option, Some, None, refl, sym, subst, arith, length, map, slice_get, nat_lt, ◌%◌, ◌^◌}
use Rattle.std.proofs.lemmas.Bool.{cases_eq}
use Rattle.launch_text.specs.WorkItems.{volume, group_of}
use Rattle.clv_steps.specs.Machines.{Status, Runs, Asks, Ends, Fails, IsLive}
use Rattle.clv_worlds.specs.Worlds.{opening}
use Rattle.spv_module.specs.declared.module.Inst.{Inst}
use Rattle.spv_module.specs.Interface.{word_at}
use Rattle.spv_module.specs.Instructions.{Load, Store, AccessChain, Extract, Add}
use Rattle.spv_meaning.specs.declared.trap.TrapKind.{TrapKind}
use Rattle.spv_meaning.specs.declared.trap.TrapKind.TheVariants as trap
use Rattle.spv_invocations.specs.Events.{bits_of, Asked}
use Rattle.spv_invocations.specs.Start.{Start, Given}
use Rattle.spv_invocations.specs.Reading.{Line, Basic, Makes, Undefined, Call, ExtractAt, InsertAt, Shuffle, Construct, Insert, Bitcast, Operation, Atomic as AtomicOn, ControlBarrier, Branch, BranchConditional, Switch, ReturnValue, Making, line_at, line_in}
use Rattle.spv_invocations.specs.Values.{Value, Number, Unset, Parts, listed, scalars_in, numbers_of, part_at, with_part}
use Rattle.spv_invocations.specs.Types.{shape_of, width_in}
use Rattle.spv_module.specs.Options.{◌>>=◌, only_if}
use Rattle.spv_module.specs.declared.op.TheConstants as op
use Rattle.spv_invocations.specs.Operations.{Lanes, Each as EachLane, Stops, lanes_from}
use Rattle.spv_invocations.specs.Invocation as rows
use Rattle.spv_invocations.specs.Invocation.{Going, Run, run, over, Row, Steps as Goes, Questions, Traps, Scalar, Fixed, OfCall, Shared, Reached, Inside, Beyond, NoWay, row_by, row_at, status, next, given_of, first_run, trap_of, kind_by}
use Rattle.spv_invocations.specs.Worlds.{chain_by as chain_of_event, first_memory}
use Rattle.spv_invocations.specs.Schedule.{Invocations, run_of, status_of, chain_by, chain_of, after_step, Steps, Trapped, TrapsAt, MismatchesAt, numbers_from, members_of, Settled, GoesOn, Opens, Mismatches, settled, opened, Ending, IsDone, HasTrapped, IsSpent, Leaves, ended, waits, Turns, complete, spent, turned, traps, goes, leaves, opens, mismatches, ScheduledRun}
use Rattle.spv_invocations.proofs.Runs.{never_ends, step_other, opened_in, opened_out}
use Rattle.spv_invocations.proofs.Groups.{Each, each_append, each_back, each_of, each_has, Has, numbers_below, Distinct, distinct_append, distinct_back, distinct_numbers, in_group, is_member, distinct_members, opens_all, stops_at}

-- ---- what is behind a barrier goes on

abbrev IsRun : Run → Type 0
IsRun (run s) = Unit {0}
IsRun over = ⊥

abbrev Releases : Row → Type 0
Releases (Questions e to) = (chain : List ℕ) → chain_of_event e ≡ Some chain → IsRun (to 0)
Releases _ = Unit {0}

no_chain : (chain : List ℕ) (P : Type 0) → (let n : Option (List ℕ) = None in n) ≡ Some chain → P
no_chain chain P e = absurd (let h : (let n : Option (List ℕ) = None in n) ≡ Some chain = e in cc)

of_scalar : (to : ℕ → Run) (o : Option Scalar) → Releases (rows.loading_scalar to o)
of_scalar to (Some (Shared at)) = λ chain e. no_chain chain (IsRun (to (0 % 2 ^ bits_of at))) e
of_scalar to (Some (OfCall depth variable path (Number n))) = tt
of_scalar to (Some (OfCall depth variable path (Unset bits))) = tt
of_scalar to _ = tt

of_loading : (s : Going) (r : ℕ) (shape : Option Value) (scalars : Option (List Scalar)) → Releases (rows.loading s r shape scalars)
of_loading s r (Some shape) (Some scalars) = of_scalar (rows.loaded s r shape (length scalars)) (slice_get scalars (length s.part))
of_loading s r _ _ = tt

of_stored : (s : Going) (count : ℕ) (o : Option Scalar) (n : Option ℕ) → Releases (rows.storing_scalar s count o n)
of_stored s count (Some (Shared at)) (Some n) = λ chain e. no_chain chain (IsRun (rows.stored s count n)) e
of_stored s count (Some (OfCall depth variable path holds)) (Some n) = tt
of_stored s count (Some (OfCall depth variable path holds)) None = tt
of_stored s count (Some (Shared at)) None = tt
of_stored s count (Some (Fixed m)) n = tt
of_stored s count None n = tt

of_storing : (s : Going) (scalars : Option (List Scalar)) (v : Option Value) → Releases (rows.storing s scalars v)
of_storing s (Some scalars) (Some v) = of_stored s (length scalars) (slice_get scalars (length s.part)) (slice_get (numbers_of v) (length s.part))
of_storing s _ _ = tt

of_changing : (s : Going) (r code : ℕ) (scalars : Option (List Scalar)) (ns : Option (List ℕ)) → Releases (rows.changing s r code scalars ns)
of_changing s r code (Some (Shared at ∷ [])) (Some ns) = λ chain e. no_chain chain (IsRun (rows.given s r (Number (0 % 2 ^ bits_of at)))) e
of_changing s r code _ _ = tt

of_giving : (kind : TrapKind) (s : Going) (r : ℕ) (v : Option Value) → Releases (rows.giving kind s r v)
of_giving kind s r (Some v) = tt
of_giving kind s r None = tt

of_lanes : (s : Going) (r : ℕ) (shape : Value) (l : Lanes) → Releases (rows.giving_lanes s r shape l)
of_lanes s r shape (EachLane ns) = tt
of_lanes s r shape (Stops kind) = tt

of_operating : (s : Going) (r code : ℕ) (shape : Option Value) (from to : Option ℕ) (vs : Option (List Value)) → Releases (rows.operating s r code shape from to vs)
of_operating s r code (Some shape) (Some from) (Some to) (Some vs) = of_lanes s r shape (lanes_from code from to (map numbers_of vs) 0 (length (scalars_in shape)))
of_operating s r code _ _ _ _ = tt

of_undefined : (s : Going) (r : ℕ) (shape : Option Value) → Releases (rows.undefined s r shape)
of_undefined s r (Some shape) = tt
of_undefined s r None = tt

of_extracting : (s : Going) (r : ℕ) (v : Option Value) (i : Option ℕ) → Releases (rows.extracting s r v i)
of_extracting s r (Some (Parts parts)) (Some i) = of_giving trap.Range s r (slice_get (listed parts) i)
of_extracting s r _ _ = tt

of_inserting : (s : Going) (r : ℕ) (v new : Option Value) (i : Option ℕ) → Releases (rows.inserting s r v new i)
of_inserting s r (Some (Parts parts)) (Some v) (Some i) = of_giving trap.Range s r (only_if (nat_lt i (length (listed parts))) (with_part (Parts parts) (i ∷ []) v))
of_inserting s r _ _ _ = tt

of_calling : (g : Given) (s : Going) (r function : ℕ) (vs : Option (List Value)) → Releases (rows.calling g s r function vs)
of_calling g s r function (Some vs) = tt
of_calling g s r function None = tt

of_returning : (s : Going) (v : Option Value) → Releases (rows.returning s v)
of_returning s (Some v) = tt
of_returning s None = tt

of_branching : (g : Given) (s : Going) (target : Option ℕ) → Releases (rows.branching g s target)
of_branching g s (Some target) = tt
of_branching g s None = tt

of_pointing : (s : Going) (r : ℕ) (at : Reached) → Releases (rows.pointing s r at)
of_pointing s r (Inside at) = tt
of_pointing s r Beyond = tt
of_pointing s r NoWay = tt

of_operation : (g : Given) (s : Going) (t r code : ℕ) (ids : List ℕ) → Releases (rows.operation g s t r code ids)
of_operation g s t r code ids = of_operating s r code (shape_of g t) (rows.width_of_first g ids) (Some (rows.width_or_one (width_in g t))) (rows.values_at g s ids)

of_making : (g : Given) (s : Going) (t r : ℕ) (m : Making) → Releases (rows.row_of_making g s t r m)
of_making g s t r Undefined = of_undefined s r (shape_of g t)
of_making g s t r (Call function ids) = of_calling g s r function (rows.values_at g s ids)
of_making g s t r (ExtractAt vector index) = of_extracting s r (rows.value_at g s vector) (rows.number_of g s index)
of_making g s t r (InsertAt vector component index) = of_inserting s r (rows.value_at g s vector) (rows.value_at g s component) (rows.number_of g s index)
of_making g s t r (Shuffle a b components) = of_giving trap.Unreachable s r (rows.shuffled (rows.value_at g s a) (rows.value_at g s b) components)
of_making g s t r (Construct ids) = of_giving trap.Unreachable s r (rows.values_at g s ids >>= λ vs. Some (rows.constructed_by (line_in g.body t) vs))
of_making g s t r (Insert object whole at) = of_giving trap.Unreachable s r (rows.inserted (rows.value_at g s object) (rows.value_at g s whole) at)
of_making g s t r (Bitcast a) = of_giving trap.Unreachable s r (rows.cast_by (shape_of g t) (rows.width_of_id g a) (rows.value_at g s a))
of_making g s t r (Operation code ids) = of_operation g s t r code ids
of_making g s t r (AtomicOn code pointer ids) = of_changing s r code (rows.scalars_of g s (rows.place_at g s pointer)) (rows.indices_at g s ids)

releases : (g : Given) (s : Going) (l : Option Line) → Releases (row_by g s l)
releases g s (Some (Basic (Load t r pointer))) = of_loading s r (shape_of g t) (rows.scalars_of g s (rows.place_at g s pointer))
releases g s (Some (Basic (Store pointer value))) = of_storing s (rows.scalars_of g s (rows.place_at g s pointer)) (rows.value_at g s value)
releases g s (Some (Basic (AccessChain t r base indices))) = of_pointing s r (rows.chain_by g (rows.place_at g s base) (rows.indices_at g s indices))
releases g s (Some (Basic (Extract t r whole at))) = of_giving trap.Unreachable s r (rows.value_at g s whole >>= λ v. part_at v at)
releases g s (Some (Basic (Add t r a b))) = of_operation g s t r op.I_ADD (a ∷ b ∷ [])
releases g s (Some (Makes t r making)) = of_making g s t r making
releases g s (Some ControlBarrier) = λ chain e. tt
releases g s (Some (Branch target)) = tt
releases g s (Some (BranchConditional condition on_true on_false)) = of_branching g s (rows.chosen on_true on_false (rows.number_of g s condition))
releases g s (Some (Switch selector default cases)) = of_branching g s (rows.case_of cases default (rows.number_of g s selector))
releases g s (Some (ReturnValue value)) = of_returning s (rows.value_at g s value)
releases g s _ = tt

behind_row : (function : ℕ) (row : Row) → Releases row → (chain : List ℕ) → chain_by (rows.status_by function row) ≡ Some chain → IsRun (rows.next_by 0 row)
behind_row function (Questions e to) rel chain h = rel chain h
behind_row function (Goes to) rel chain h = no_chain chain (IsRun (to 0)) h
behind_row function (Traps kind) rel chain h = no_chain chain ⊥ h

pub behind_barrier : (g : Given) (r : Run) (chain : List ℕ) → chain_by (status g r) ≡ Some chain → IsRun (next g 0 r)
behind_barrier g (run s) chain h = behind_row s.frame.function (row_at g s) (releases g s (line_at g.body s.frame.place)) chain h
behind_barrier g over chain h = no_chain chain ⊥ h

-- ---- runs and their statuses

run_ends_not : (g : Given) (r : Run) → IsRun r → status g r ≡ Ends → ⊥
run_ends_not g (run s) k e = never_ends s.frame.function (row_at g s) e
run_ends_not g over k e = k

is_run : (g : Given) (r : Run) → (status g r ≡ Ends → ⊥) → IsRun r
is_run g (run s) k = tt
is_run g over k = k refl

ends_or_not : (s : Status Asked) → (s ≡ Ends) ⊎ (s ≡ Ends → ⊥)
ends_or_not Ends = inl refl
ends_or_not Runs = inr (λ e. cc)
ends_or_not (Asks a) = inr (λ e. cc)
ends_or_not Fails = inr (λ e. cc)

live_of : (s : Status Asked) → (s ≡ Ends → ⊥) → (s ≡ Fails → ⊥) → IsLive s
live_of Runs e f = tt
live_of (Asks a) e f = tt
live_of Ends e f = e refl
live_of Fails e f = f refl

fails_or_not : (s : Status Asked) → (s ≡ Fails) ⊎ (s ≡ Fails → ⊥)
fails_or_not Fails = inl refl
fails_or_not Runs = inr (λ e. cc)
fails_or_not (Asks a) = inr (λ e. cc)
fails_or_not Ends = inr (λ e. cc)

module _ (body : List Inst) (start : Start) (turn : ℕ → ℕ) where
  abbrev trap_at : (i : ℕ) → TrapKind → Going → Trapped
  trap_at i kind s = record { kind = kind; function = s.frame.function; word = word_at body s.frame.place; item = i }

  kind_of : (function : ℕ) (row : Row) → rows.status_by function row ≡ Fails → (k : TrapKind) × (kind_by row ≡ Some k)
  kind_of function (Traps kind) e = (kind, refl)
  kind_of function (Goes to) e = absurd (let h : (let s : Status Asked = Runs in s) ≡ Fails = e in cc)
  kind_of function (Questions q to) e = absurd (let h : (let s : Status Asked = Asks (record { function = function; event = q }) in s) ≡ Fails = e in cc)

  failing : (i : ℕ) (r : Run) → status (given_of body start i) r ≡ Fails → (t : Trapped) × TrapsAt body start i r t
  failing i (run s) e = let k = kind_of s.frame.function (row_at (given_of body start i) s) e in (trap_at i k.0 s, (k.1, (refl, refl, refl)))
  failing i over e = absurd (let h : (let s : Status Asked = Ends in s) ≡ Fails = e in cc)

  stopping : (j : ℕ) (r : Run) (chain : List ℕ) → chain_by (status (given_of body start j) r) ≡ Some chain → (t : Trapped) × MismatchesAt body j r t
  stopping j (run s) chain e = (trap_at j trap.Barrier s, (refl, (refl, refl, refl)))
  stopping j over chain e = no_chain chain ((t : Trapped) × MismatchesAt body j over t) e

  abbrev IsItem : ℕ → Type 0
  IsItem i = i < volume start.global

  abbrev group_at : ℕ → ℕ
  group_at = group_of start.global start.local

  abbrev IsReady : Invocations → ℕ → Type 0
  IsReady w j = IsRun (run_of body start w j)

  -- the items of the queue are different ones, and none has ended
  record Ready (queue : List ℕ) (w : Invocations) : Type 0 where
    items : Each IsItem queue
    apart : Distinct queue
    ready : Each (IsReady w) queue

  abbrev Found : ℕ → List ℕ → ℕ → ℕ → ℕ → Invocations → Type 0
  Found n queue left budget made w = (e : Ending) × (v : Invocations) × Turns body start turn n queue left budget made w e v

  ready_goes : (w : Invocations) (i : ℕ) (queue : List ℕ) → (status_of body start (after_step body start w i) i ≡ Ends → ⊥) → Ready (i ∷ queue) w → Ready (i ∷ queue) (after_step body start w i)
  ready_goes w i queue other k =
      record {
        items = k.items;
        apart = k.apart;
        ready = each_of (IsReady (after_step body start w i)) (i ∷ queue) (λ j h. elim (cases_eq i j) [
          | inl e ↦ subst (IsReady (after_step body start w i)) e (is_run (given_of body start i) (run_of body start (after_step body start w i) i) other)
          | inr apart ↦ subst IsRun (sym (step_other body start w i (status_of body start w i) j apart)) (each_has (IsReady w) (i ∷ queue) j k.ready h)
        ]);
      }

  ready_left : (w x : Invocations) (i : ℕ) (queue : List ℕ) → Leaves body start w i x → Ready (i ∷ queue) w → Each (IsReady x) queue
  ready_left w _ i queue (ended s e) k =
      each_of (IsReady (after_step body start w i)) queue (λ j h. subst IsRun (sym (step_other body start w i (status_of body start w i) j (λ q. k.apart.0 (subst (λ n. Has n queue) (sym q) h)))) (each_has (IsReady w) queue j k.ready.1 h))
  ready_left w _ i queue (waits c e) k = k.ready.1

  ready_leaves : (w x : Invocations) (i : ℕ) (queue : List ℕ) → Leaves body start w i x → Ready (i ∷ queue) w → Ready queue x
  ready_leaves w x i queue l k = record { items = k.items.1; apart = k.apart.1; ready = ready_left w x i queue l k }

  ready_opens : (x : Invocations) (i : ℕ) (queue : List ℕ) → settled body start x queue i ≡ Opens → Ready queue x → Ready (queue ++ members_of start (group_at i)) (opened start x (group_at i))
  ready_opens x i queue e k =
      let members = members_of start (group_at i) in
      let all = opens_all (chain_of body start x) queue (members_of start (group_at i)) e in
      let outside : (j : ℕ) → Has j queue → group_at j ≡ group_at i → ⊥ = λ j h same. all.1 j (is_member start (group_at i) j (each_has IsItem queue j k.items h) same) h in
      record {
        items = each_append IsItem queue (members_of start (group_at i)) k.items (each_of IsItem (members_of start (group_at i)) (λ j h. (in_group start (group_at i) j h).0));
        apart = distinct_append queue (members_of start (group_at i)) k.apart (distinct_members start (group_at i)) (λ j p q. all.1 j q p);
        ready = each_append (IsReady (opened start x (group_at i))) queue (members_of start (group_at i))
            (each_of (IsReady (opened start x (group_at i))) queue (λ j h. subst IsRun (sym (opened_out body start x (group_at i) j (outside j h))) (each_has (IsReady x) queue j k.ready h)))
            (each_of (IsReady (opened start x (group_at i))) (members_of start (group_at i)) (λ j h. subst IsRun (sym (opened_in body start x (group_at i) j (in_group start (group_at i) j h).1)) (behind_barrier (given_of body start j) (run_of body start x j) all.0.0 (all.0.1 j h))));
      }

  ready_back : (w : Invocations) (i : ℕ) (queue : List ℕ) → Ready (i ∷ queue) w → Ready (queue ++ i ∷ []) w
  ready_back w i queue k = record { items = each_back IsItem queue i k.items.1 k.items.0; apart = distinct_back i queue k.apart; ready = each_back (IsReady w) queue i k.ready.1 k.ready.0 }

  -- ---- a step of the item at the front

  module _ (budget : ℕ) (more : (n : ℕ) (queue : List ℕ) (left made : ℕ) (w : Invocations) → Ready queue w → Found n queue left budget made w) where
    found_left : (n i : ℕ) (queue : List ℕ) (left made : ℕ) (w x : Invocations) → Leaves body start w i x → Ready (i ∷ queue) w → (s : Settled) → settled body start x queue i ≡ s → Found n (i ∷ queue) (suc left) (suc budget) made w
    found_left n i queue left made w x l k GoesOn e = let f = more (suc n) queue (turn (suc n)) (made + 1) x (ready_leaves w x i queue l k) in (f.0, f.1, leaves n i queue left budget made w x f.1 f.0 l e f.2)
    found_left n i queue left made w x l k Opens e =
        let f = more (suc n) (queue ++ members_of start (group_at i)) (turn (suc n)) (made + 1) (opened start x (group_at i)) (ready_opens x i queue e (ready_leaves w x i queue l k)) in
        (f.0, f.1, opens n i queue left budget made w x f.1 f.0 l e f.2)
    found_left n i queue left made w x l k (Mismatches j) e =
        let s = stops_at (chain_of body start x) queue (members_of start (group_at i)) j e in
        let t = stopping j (run_of body start x j) s.0.1.0 s.0.1.1 in
        (HasTrapped t.0 (made + 1), x, mismatches n i j queue left budget made w x t.0 l e t.1)

    found_step : (n i : ℕ) (queue : List ℕ) (left made : ℕ) (w : Invocations) → Ready (i ∷ queue) w → IsLive (status_of body start w i) → (c : Option (List ℕ)) → chain_of body start w i ≡ c → Found n (i ∷ queue) (suc left) (suc budget) made w
    found_step n i queue left made w k live (Some chain) e = found_left n i queue left made w w (waits chain e) k (settled body start w queue i) refl
    found_step n i queue left made w k live None e =
        let step : Steps body start w i = record { live = live; no_barrier = e } in
        elim (ends_or_not (status_of body start (after_step body start w i) i)) [
          | inl done ↦ found_left n i queue left made w (after_step body start w i) (ended step done) k (settled body start (after_step body start w i) queue i) refl
          | inr on ↦ (let f = more n (i ∷ queue) left (made + 1) (after_step body start w i) (ready_goes w i queue on k) in (f.0, f.1, goes n i queue left budget made w f.1 f.0 step on f.2))
        ]

    found_front : (n i : ℕ) (queue : List ℕ) (left made : ℕ) (w : Invocations) → Ready (i ∷ queue) w → Found n (i ∷ queue) (suc left) (suc budget) made w
    found_front n i queue left made w k = elim (fails_or_not (status_of body start w i)) [
      | inl e ↦ (let t = failing i (run_of body start w i) e in (HasTrapped t.0 (made + 1), w, traps n i queue left budget made w t.0 e t.1))
      | inr on ↦ found_step n i queue left made w k (live_of (status_of body start w i) (run_ends_not (given_of body start i) (run_of body start w i) k.ready.0) on) (chain_of body start w i) refl
    ]

    found_queue : (longer : (n : ℕ) → (k : ℕ) × (turn n ≡ suc k)) (n : ℕ) (queue : List ℕ) (made : ℕ) (w : Invocations) → Ready queue w → Found n queue (turn n) (suc budget) made w
    found_queue longer n [] made w k = (IsDone made, w, complete n (turn n) (suc budget) made w)
    found_queue longer n (i ∷ queue) made w k = let t = longer n in subst (λ left. Found n (i ∷ queue) left (suc budget) made w) (sym t.1) (found_front n i queue t.0 made w k)

  module _ (longer : (n : ℕ) → (k : ℕ) × (turn n ≡ suc k)) where
    found : (budget n : ℕ) (queue : List ℕ) (left made : ℕ) (w : Invocations) → Ready queue w → Found n queue left budget made w
    found zero n [] left made w k = (IsDone made, w, complete n left zero made w)
    found zero n (i ∷ queue) left made w k = (IsSpent, w, spent n i queue left made w)
    found (suc budget) n [] left made w k = (IsDone made, w, complete n left (suc budget) made w)
    found (suc budget) n (i ∷ queue) (suc left) made w k = found_front budget (found budget) n i queue left made w k
    found (suc budget) n (i ∷ queue) zero made w k =
        let f = found_queue budget (found budget) longer (suc n) (queue ++ i ∷ []) made w (ready_back w i queue k) in
        (f.0, f.1, turned n i queue budget made w f.1 f.0 f.2)

    first_ready : Ready (numbers_from 0 (volume start.global)) (opening (first_memory body start))
    first_ready =
        record {
          items = each_of IsItem (numbers_from 0 (volume start.global)) (λ k h. let low = numbers_below 0 (volume start.global) k h in omega (arith, low));
          apart = distinct_numbers 0 (volume start.global);
          ready = each_of (IsReady (opening (first_memory body start))) (numbers_from 0 (volume start.global)) (λ k h. tt);
        }

    -- With proofs/Once.antt: exactly one.
    pub run_exists : (budget : ℕ) → (e : Ending) × (w : Invocations) × ScheduledRun body start turn budget e w
    run_exists budget = found budget 0 (numbers_from 0 (volume start.global)) (turn 0) 0 (opening (first_memory body start)) first_ready
