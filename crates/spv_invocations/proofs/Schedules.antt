-- What holds of a run by a schedule: it is a run of the module's world; where it is done all have ended and its steps are counted; and where it has trapped something has gone wrong.
use Rattle.std.proofs.Common.{◌≡◌, ◌⊎◌, ℕ, zero, suc, ◌+◌, ◌<◌, ◌≤◌, inl, inr, Bool, true, false, List, [], ◌∷◌, ◌++◌, Option, Some, None, refl, sym, ap, ◌∙◌, subst, arith}
use Rattle.std.proofs.lemmas.Bool.{cases_eq}
use Rattle.launch_text.specs.WorkItems.{volume, group_of}
use Rattle.clv_steps.specs.Machines.{Status, Ends, Fails, IsLive}
use Rattle.clv_steps.proofs.Append.{paid_append}
use Rattle.clv_worlds.specs.Worlds.{Leads, here, onward, WaitsAt, IsMismatched, IsComplete, opening, item_steps, steps_of}
use Rattle.clv_worlds.proofs.Picks.{pick_same, pick_other}
use Rattle.spv_module.specs.declared.module.Inst.{Inst}
use Rattle.spv_invocations.specs.Events.{Asked}
use Rattle.spv_invocations.specs.Start.{Start}
use Rattle.spv_invocations.specs.Invocation.{Run, run, over, status, given_of, first_run, invocation}
use Rattle.spv_invocations.specs.Worlds.{first_memory, shared_over, module_world}
use Rattle.spv_invocations.specs.Schedule.{Invocations, run_of, status_of, chain_by, chain_of, after_step, Steps, Trapped, StandsAt, TrapsAt, MismatchesAt, numbers_from, members_of, GoesOn, Opens, Mismatches, is_among, settled, opened, Ending, IsDone, HasTrapped, IsSpent, Leaves, ended, waits, Turns, complete, spent, turned, traps, goes, leaves, opens, mismatches, ScheduledRun}
use Rattle.spv_invocations.proofs.Runs.{waits_at, given_to, step_other, step_moves, step_items, opened_items_in, opened_items_out, opened_out, opens_moves}
use Rattle.spv_invocations.proofs.Groups.{Each, each_append, each_back, each_of, Has, has_left, has_right, has_either, has_back, back_has, has_numbers, numbers_below, Distinct, distinct_append, distinct_back, distinct_numbers, has_among, not_among, same_among, in_group, is_member, distinct_members, opens_all, stops_at, goes_on}

-- ---- sums

abbrev total : ℕ → (ℕ → ℕ) → ℕ
total zero f = 0
total (suc n) f = total n f + f n

total_same : (n : ℕ) (f g : ℕ → ℕ) → ((j : ℕ) → j < n → f j ≡ g j) → total n f ≡ total n g
total_same zero f g same = refl
total_same (suc n) f g same =
    let a = total_same n f g (λ j low. same j (omega (arith, low))) in
    let b = same n (omega arith) in
    omega (arith, a, b)

total_one : (n i : ℕ) (f g : ℕ → ℕ) → i < n → ((j : ℕ) → j < n → (i ≡ j → ⊥) → f j ≡ g j) → g i ≡ f i + 1 → total n g ≡ total n f + 1
total_one zero i f g low same one = absurd (omega (arith, low))
total_one (suc n) i f g low same one = elim (cases_eq i n) [
  | inl e ↦ (
      let a = total_same n f g (λ j lower. same j (omega (arith, lower)) (λ q. omega (arith, q, e, lower))) in
      let b : g n ≡ f n + 1 = subst (λ k. g k ≡ f k + 1) e one in
      omega (arith, a, b))
  | inr other ↦ (
      let a = total_one n i f g (omega (arith, low, other)) (λ j lower. same j (omega (arith, lower))) one in
      let b = same n (omega arith) other in
      omega (arith, a, b))
]

-- an item that waits outside the queue has made a step that its history doesn't have yet
abbrev owed_by : Bool → Option (List ℕ) → ℕ
owed_by true c = 0
owed_by false (Some c) = 1
owed_by false None = 0

ends_none : (s : Status Asked) → s ≡ Ends → chain_by s ≡ None
ends_none s e = ap chain_by e

none_some : (o : Option (List ℕ)) (chain : List ℕ) → o ≡ None → o ≡ Some chain → ⊥
none_some o chain a b = let h : None ≡ Some chain = sym a ∙ b in cc

module _ (body : List Inst) (start : Start) (turn : ℕ → ℕ) where
  abbrev IsItem : ℕ → Type 0
  IsItem i = i < volume start.global

  abbrev group_at : ℕ → ℕ
  group_at = group_of start.global start.local

  abbrev AreLed : Invocations → Invocations → Type 0
  AreLed = Leads (shared_over start.global start.local) (module_world body start)

  -- ---- it is a run of the module's world

  leave_leads : (u w x : Invocations) (i : ℕ) → IsItem i → Leaves body start w i x → AreLed u w → AreLed u x
  leave_leads u w _ i low (ended s e) so_far = onward u w (after_step body start w i) so_far (step_moves body start w i (status_of body start w i) low refl s.live s.no_barrier)
  leave_leads u w _ i low (waits c e) so_far = so_far

  open_leads : (u x : Invocations) (queue : List ℕ) (i : ℕ) → IsItem i → settled body start x queue i ≡ Opens → AreLed u x → AreLed u (opened start x (group_at i))
  open_leads u x queue i low e so_far =
      let all = opens_all (chain_of body start x) queue (members_of start (group_at i)) e in
      onward u x (opened start x (group_at i)) so_far (opens_moves body start x (group_at i) all.0.0 i low refl (λ j lower same. all.0.1 j (is_member start (group_at i) j lower same)))

  members_items : (g : ℕ) → Each IsItem (members_of start g)
  members_items g = each_of IsItem (members_of start g) (λ k h. (in_group start g k h).0)

  pub turns_lead : (u w v : Invocations) (n : ℕ) (queue : List ℕ) (left budget made : ℕ) (e : Ending) → Turns body start turn n queue left budget made w e v → Each IsItem queue → AreLed u w → AreLed u v
  turns_lead u _ _ _ _ _ _ _ _ (complete n left budget made w) k so_far = so_far
  turns_lead u _ _ _ _ _ _ _ _ (spent n i queue left made w) k so_far = so_far
  turns_lead u _ _ _ _ _ _ _ _ (turned n i queue budget made w v e t) k so_far = turns_lead u w v (suc n) (queue ++ i ∷ []) (turn (suc n)) (suc budget) made e t (each_back IsItem queue i k.1 k.0) so_far
  turns_lead u _ _ _ _ _ _ _ _ (traps n i queue left budget made w t f g) k so_far = so_far
  turns_lead u _ _ _ _ _ _ _ _ (goes n i queue left budget made w v e l f t) k so_far = turns_lead u (after_step body start w i) v n (i ∷ queue) left budget (made + 1) e t k (onward u w (after_step body start w i) so_far (step_moves body start w i (status_of body start w i) k.0 refl l.live l.no_barrier))
  turns_lead u _ _ _ _ _ _ _ _ (leaves n i queue left budget made w x v e l g t) k so_far = turns_lead u x v (suc n) queue (turn (suc n)) budget (made + 1) e t k.1 (leave_leads u w x i k.0 l so_far)
  turns_lead u _ _ _ _ _ _ _ _ (opens n i queue left budget made w x v e l g t) k so_far =
      turns_lead u (opened start x (group_at i)) v (suc n) (queue ++ members_of start (group_at i)) (turn (suc n)) budget (made + 1) e t (each_append IsItem queue (members_of start (group_at i)) k.1 (members_items (group_at i))) (open_leads u x queue i k.0 g (leave_leads u w x i k.0 l so_far))
  turns_lead u _ _ _ _ _ _ _ _ (mismatches n i j queue left budget made w x t l g m) k so_far = leave_leads u w x i k.0 l so_far

  -- ---- each item is in the queue, has ended, or waits for one of its group that is in the queue

  abbrev Behind : List ℕ → Invocations → ℕ → Type 0
  Behind queue w j = ((chain : List ℕ) × (chain_of body start w j ≡ Some chain)) × ((k : ℕ) × IsItem k × Has k queue × (group_at k ≡ group_at j))

  abbrev Covered : List ℕ → Invocations → ℕ → Type 0
  Covered queue w j = Has j queue ⊎ ((status_of body start w j ≡ Ends) ⊎ Behind queue w j)

  abbrev Covers : List ℕ → Invocations → Type 0
  Covers queue w = (j : ℕ) → IsItem j → Covered queue w j

  status_same : (w v : Invocations) (j : ℕ) → run_of body start v j ≡ run_of body start w j → status_of body start v j ≡ status_of body start w j
  status_same w v j e = ap (status (given_of body start j)) e

  chain_same : (w v : Invocations) (j : ℕ) → run_of body start v j ≡ run_of body start w j → chain_of body start v j ≡ chain_of body start w j
  chain_same w v j e = ap chain_by (status_same w v j e)

  -- the same with another world, in which the item is as it was, and another queue, which has those of its group
  moved : (w v : Invocations) (queue other : List ℕ) (j : ℕ) → run_of body start v j ≡ run_of body start w j → (Has j queue → Has j other) → ((k : ℕ) → group_at k ≡ group_at j → Has k queue → Has k other) → Covered queue w j → Covered other v j
  moved w v queue other j same own group (inl h) = inl (own h)
  moved w v queue other j same own group (inr (inl e)) = inr (inl (status_same w v j same ∙ e))
  moved w v queue other j same own group (inr (inr b)) = inr (inr ((b.0.0, chain_same w v j same ∙ b.0.1), (b.1.0, b.1.1, group b.1.0 b.1.3 b.1.2, b.1.3)))

  covers_goes : (w : Invocations) (i : ℕ) (queue : List ℕ) → Covers (i ∷ queue) w → Covers (i ∷ queue) (after_step body start w i)
  covers_goes w i queue k j low = elim (cases_eq i j) [
    | inl e ↦ inl (inl e)
    | inr other ↦ moved w (after_step body start w i) (i ∷ queue) (i ∷ queue) j (step_other body start w i (status_of body start w i) j other) (λ h. h) (λ n g h. h) (k j low)
  ]

  covers_back : (w : Invocations) (i : ℕ) (queue : List ℕ) → Covers (i ∷ queue) w → Covers (queue ++ i ∷ []) w
  covers_back w i queue k j low = moved w w (i ∷ queue) (queue ++ i ∷ []) j refl (has_back j i queue) (λ n g h. has_back n i queue h) (k j low)

  left_other : (w x : Invocations) (i j : ℕ) → Leaves body start w i x → (i ≡ j → ⊥) → run_of body start x j ≡ run_of body start w j
  left_other w _ i j (ended s e) other = step_other body start w i (status_of body start w i) j other
  left_other w _ i j (waits c e) other = refl

  left_own : (w x : Invocations) (i : ℕ) → Leaves body start w i x → (status_of body start x i ≡ Ends) ⊎ ((chain : List ℕ) × (chain_of body start x i ≡ Some chain))
  left_own w _ i (ended s e) = inl e
  left_own w _ i (waits c e) = inr (c, e)

  -- an item of the group that waits has another behind which it waits
  behind_another : (x : Invocations) (i j : ℕ) (queue : List ℕ) → IsItem j → group_at i ≡ group_at j → (chain : List ℕ) → chain_of body start x j ≡ Some chain → ((k : ℕ) × Has k (members_of start (group_at i)) × Has k queue) ⊎ ((k : ℕ) → Has k (members_of start (group_at i)) → chain_of body start x k ≡ None) → Behind queue x j
  behind_another x i j queue low same chain e (inl m) = let g = in_group start (group_at i) m.0 m.1 in ((chain, e), (m.0, g.0, m.2, g.1 ∙ same))
  behind_another x i j queue low same chain e (inr out) = absurd (none_some (chain_of body start x j) chain (out j (is_member start (group_at i) j low (sym same))) e)

  module _ (w x : Invocations) (i : ℕ) (queue : List ℕ) (low : IsItem i) (l : Leaves body start w i x) (k : Covers (i ∷ queue) w) where
    leave_own : ((m : ℕ) × Has m (members_of start (group_at i)) × Has m queue) ⊎ ((m : ℕ) → Has m (members_of start (group_at i)) → chain_of body start x m ≡ None) → (status_of body start x i ≡ Ends) ⊎ ((chain : List ℕ) × (chain_of body start x i ≡ Some chain)) → Covered queue x i
    leave_own g (inl e) = inr (inl e)
    leave_own g (inr c) = inr (inr (behind_another x i i queue low refl c.0 c.1 g))

    leave_other : (j : ℕ) → IsItem j → (i ≡ j → ⊥) → ((m : ℕ) × Has m (members_of start (group_at i)) × Has m queue) ⊎ ((m : ℕ) → Has m (members_of start (group_at i)) → chain_of body start x m ≡ None) → Covered (i ∷ queue) w j → Covered queue x j
    leave_other j lower other g (inl (inl e)) = absurd (other e)
    leave_other j lower other g (inl (inr h)) = inl h
    leave_other j lower other g (inr (inl e)) = inr (inl (status_same w x j (left_other w x i j l other) ∙ e))
    leave_other j lower other g (inr (inr b)) = elim b.1.2 [
      | inl q ↦ inr (inr (behind_another x i j queue lower (ap group_at q ∙ b.1.3) b.0.0 (chain_same w x j (left_other w x i j l other) ∙ b.0.1) g))
      | inr h ↦ inr (inr ((b.0.0, chain_same w x j (left_other w x i j l other) ∙ b.0.1), (b.1.0, b.1.1, h, b.1.3)))
    ]

    covers_leave : settled body start x queue i ≡ GoesOn → Covers queue x
    covers_leave e j lower =
        let g = goes_on (chain_of body start x) queue (members_of start (group_at i)) e in
        elim (cases_eq i j) [
          | inl same ↦ subst (Covered queue x) same (leave_own g (left_own w x i l))
          | inr other ↦ leave_other j lower other g (k j lower)
        ]

    open_other : (j : ℕ) → (group_at j ≡ group_at i → ⊥) → Covered (i ∷ queue) w j → Covered (queue ++ members_of start (group_at i)) (opened start x (group_at i)) j
    open_other j apart c =
        let other : i ≡ j → ⊥ = λ e. apart (ap group_at (sym e)) in
        moved w (opened start x (group_at i)) (i ∷ queue) (queue ++ members_of start (group_at i)) j (opened_out body start x (group_at i) j apart ∙ left_other w x i j l other)
        (λ h. elim h [ inl e ↦ absurd (other e) | inr m ↦ has_left j queue (members_of start (group_at i)) m ])
        (λ n same h. elim h [ inl e ↦ absurd (apart (sym same ∙ ap group_at (sym e))) | inr m ↦ has_left n queue (members_of start (group_at i)) m ]) c

    covers_open : Covers (queue ++ members_of start (group_at i)) (opened start x (group_at i))
    covers_open j lower = elim (cases_eq (group_at j) (group_at i)) [
      | inl same ↦ inl (has_right j queue (members_of start (group_at i)) (is_member start (group_at i) j lower same))
      | inr apart ↦ open_other j apart (k j lower)
    ]

  covers_all : (w : Invocations) → Covers [] w → IsComplete (shared_over start.global start.local) (module_world body start) w
  covers_all w k i low = elim (k i low) [ inl h ↦ absurd h | inr r ↦ elim r [ inl e ↦ e | inr b ↦ absurd b.1.2 ] ]

  -- ---- steps

  abbrev steps_at : Invocations → ℕ → ℕ
  steps_at w j = item_steps (module_world body start) j (w.items j)

  abbrev count : List ℕ → Invocations → ℕ → ℕ
  count queue w j = steps_at w j + owed_by (is_among queue j) (chain_of body start w j)

  abbrev made_in : List ℕ → Invocations → ℕ
  made_in queue w = total (volume start.global) (count queue w)

  steps_total : (n : ℕ) (w : Invocations) → steps_of (module_world body start) n w.items ≡ total n (steps_at w)
  steps_total zero w = refl
  steps_total (suc n) w = let a = steps_total n w in omega (arith, a)

  grown : (j x : ℕ) (h : List ℕ) → item_steps (module_world body start) j (h ++ x ∷ []) ≡ item_steps (module_world body start) j h + 1
  grown j x h = paid_append (invocation (given_of body start j)) (λ r. 1) h (x ∷ []) (first_run (given_of body start j))

  step_steps_other : (w : Invocations) (i j : ℕ) → IsLive (status_of body start w i) → (i ≡ j → ⊥) → steps_at (after_step body start w i) j ≡ steps_at w j
  step_steps_other w i j live other =
      ap (λ hs. item_steps (module_world body start) j (hs j)) (step_items body start w i (status_of body start w i) live) ∙ ap (item_steps (module_world body start) j) (pick_other i j (w.items i ++ given_to body start w i (status_of body start w i) ∷ []) (w.items j) other)

  step_steps_own : (w : Invocations) (i : ℕ) → IsLive (status_of body start w i) → steps_at (after_step body start w i) i ≡ steps_at w i + 1
  step_steps_own w i live =
      ap (λ hs. item_steps (module_world body start) i (hs i)) (step_items body start w i (status_of body start w i) live) ∙ ap (item_steps (module_world body start) i) (pick_same i (w.items i ++ given_to body start w i (status_of body start w i) ∷ []) (w.items i)) ∙ grown i (given_to body start w i (status_of body start w i)) (w.items i)

  owed_in : (queue : List ℕ) (w : Invocations) (j : ℕ) → Has j queue → owed_by (is_among queue j) (chain_of body start w j) ≡ 0
  owed_in queue w j h = ap (λ b. owed_by b (chain_of body start w j)) (has_among queue j h)

  owed_out : (queue : List ℕ) (w : Invocations) (j : ℕ) (c : Option (List ℕ)) → (Has j queue → ⊥) → chain_of body start w j ≡ c → owed_by (is_among queue j) (chain_of body start w j) ≡ owed_by false c
  owed_out queue w j c out e = ap (λ b. owed_by b (chain_of body start w j)) (not_among queue j out) ∙ ap (owed_by false) e

  made_goes : (w : Invocations) (i : ℕ) (queue : List ℕ) → IsItem i → IsLive (status_of body start w i) → made_in (i ∷ queue) (after_step body start w i) ≡ made_in (i ∷ queue) w + 1
  made_goes w i queue low live =
      total_one (volume start.global) i (count (i ∷ queue) w) (count (i ∷ queue) (after_step body start w i)) low
      (λ j lower other. let a = step_steps_other w i j live other in let b = ap (λ c. owed_by (is_among (i ∷ queue) j) c) (chain_same w (after_step body start w i) j (step_other body start w i (status_of body start w i) j other)) in omega (arith, a, b))
      (let a = step_steps_own w i live in let b = owed_in (i ∷ queue) w i (inl refl) in let c = owed_in (i ∷ queue) (after_step body start w i) i (inl refl) in omega (arith, a, b, c))

  leave_steps_other : (w x : Invocations) (i j : ℕ) → Leaves body start w i x → (i ≡ j → ⊥) → steps_at x j ≡ steps_at w j
  leave_steps_other w _ i j (ended s e) other = step_steps_other w i j s.live other
  leave_steps_other w _ i j (waits c e) other = refl

  leave_count : (w x : Invocations) (i : ℕ) (queue : List ℕ) → (Has i queue → ⊥) → Leaves body start w i x → count queue x i ≡ count (i ∷ queue) w i + 1
  leave_count w _ i queue out (ended s e) =
      let a = step_steps_own w i s.live in
      let b = owed_in (i ∷ queue) w i (inl refl) in
      let c = owed_out queue (after_step body start w i) i None out (ends_none (status_of body start (after_step body start w i) i) e) in
      omega (arith, a, b, c)
  leave_count w _ i queue out (waits chain e) =
      let b = owed_in (i ∷ queue) w i (inl refl) in
      let c = owed_out queue w i (Some chain) out e in
      omega (arith, b, c)

  made_leave : (w x : Invocations) (i : ℕ) (queue : List ℕ) → IsItem i → (Has i queue → ⊥) → Leaves body start w i x → made_in queue x ≡ made_in (i ∷ queue) w + 1
  made_leave w x i queue low out l =
      total_one (volume start.global) i (count (i ∷ queue) w) (count queue x) low
      (λ j lower other.
      let a = leave_steps_other w x i j l other in
      let b : owed_by (is_among queue j) (chain_of body start x j) ≡ owed_by (is_among queue j) (chain_of body start w j) = ap (owed_by (is_among queue j)) (chain_same w x j (left_other w x i j l other)) in
      let same : is_among (i ∷ queue) j ≡ is_among queue j = same_among (i ∷ queue) queue j (λ h. elim h [ inl e ↦ absurd (other e) | inr m ↦ m ]) (λ h. inr h) in
      let c : owed_by (is_among (i ∷ queue) j) (chain_of body start w j) ≡ owed_by (is_among queue j) (chain_of body start w j) = ap (λ b. owed_by b (chain_of body start w j)) same in
      omega (arith, a, b, c))
      (leave_count w x i queue out l)

  made_back : (w : Invocations) (i : ℕ) (queue : List ℕ) → made_in (queue ++ i ∷ []) w ≡ made_in (i ∷ queue) w
  made_back w i queue =
      total_same (volume start.global) (count (queue ++ i ∷ []) w) (count (i ∷ queue) w)
      (λ j low. let a : owed_by (is_among (queue ++ i ∷ []) j) (chain_of body start w j) ≡ owed_by (is_among (i ∷ queue) j) (chain_of body start w j) = ap (λ b. owed_by b (chain_of body start w j)) (same_among (queue ++ i ∷ []) (i ∷ queue) j (back_has j i queue) (has_back j i queue)) in omega (arith, a))

  module _ (x : Invocations) (i : ℕ) (queue : List ℕ) (opening_now : settled body start x queue i ≡ Opens) where
    abbrev members : List ℕ
    members = members_of start (group_at i)

    open_in : (j : ℕ) → IsItem j → group_at j ≡ group_at i → count (queue ++ members) (opened start x (group_at i)) j ≡ count queue x j
    open_in j low same =
        let all = opens_all (chain_of body start x) queue members opening_now in
        let m = is_member start (group_at i) j low same in
        let a : steps_at (opened start x (group_at i)) j ≡ steps_at x j + 1 = ap (item_steps (module_world body start) j) (opened_items_in body start x (group_at i) j same) ∙ grown j 0 (x.items j) in
        let b = owed_in (queue ++ members) (opened start x (group_at i)) j (has_right j queue members m) in
        let c = owed_out queue x j (Some all.0.0) (λ h. all.1 j m h) (all.0.1 j m) in
        omega (arith, a, b, c)

    open_out : (j : ℕ) → (group_at j ≡ group_at i → ⊥) → count (queue ++ members) (opened start x (group_at i)) j ≡ count queue x j
    open_out j apart =
        let a : steps_at (opened start x (group_at i)) j ≡ steps_at x j = ap (item_steps (module_world body start) j) (opened_items_out body start x (group_at i) j apart) in
        let same : is_among (queue ++ members) j ≡ is_among queue j = same_among (queue ++ members) queue j (λ h. elim (has_either j queue members h) [ inl p ↦ p | inr q ↦ absurd (apart (in_group start (group_at i) j q).1) ]) (has_left j queue members) in
        let b : owed_by (is_among (queue ++ members) j) (chain_of body start (opened start x (group_at i)) j) ≡ owed_by (is_among queue j) (chain_of body start (opened start x (group_at i)) j) = ap (λ t. owed_by t (chain_of body start (opened start x (group_at i)) j)) same in
        let c : owed_by (is_among queue j) (chain_of body start (opened start x (group_at i)) j) ≡ owed_by (is_among queue j) (chain_of body start x j) = ap (owed_by (is_among queue j)) (chain_same x (opened start x (group_at i)) j (opened_out body start x (group_at i) j apart)) in
        omega (arith, a, b, c)

    made_open : made_in (queue ++ members) (opened start x (group_at i)) ≡ made_in queue x
    made_open = total_same (volume start.global) (count (queue ++ members) (opened start x (group_at i))) (count queue x) (λ j low. elim (cases_eq (group_at j) (group_at i)) [ inl same ↦ open_in j low same | inr apart ↦ open_out j apart ])

    distinct_open : Distinct queue → Distinct (queue ++ members)
    distinct_open d = distinct_append queue members d (distinct_members start (group_at i)) (λ k p q. (opens_all (chain_of body start x) queue members opening_now).1 k q p)

  made_all : (w : Invocations) → IsComplete (shared_over start.global start.local) (module_world body start) w → made_in [] w ≡ steps_of (module_world body start) (volume start.global) w.items
  made_all w k =
      total_same (volume start.global) (count [] w) (steps_at w) (λ j low. let a = owed_out [] w j None (λ h. h) (ends_none (status_of body start w j) (k j low)) in omega (arith, a)) ∙ sym (steps_total (volume start.global) w)

  -- ---- where it is done, all have ended, and its steps are those of its world

  record Stands (queue : List ℕ) (w : Invocations) (made : ℕ) : Type 0 where
    items : Each IsItem queue
    apart : Distinct queue
    covers : Covers queue w
    counted : made ≡ made_in queue w

  stands_back : (i : ℕ) (queue : List ℕ) (w : Invocations) (made : ℕ) → Stands (i ∷ queue) w made → Stands (queue ++ i ∷ []) w made
  stands_back i queue w made k = record { items = each_back IsItem queue i k.items.1 k.items.0; apart = distinct_back i queue k.apart; covers = covers_back w i queue k.covers; counted = k.counted ∙ sym (made_back w i queue) }

  stands_goes : (i : ℕ) (queue : List ℕ) (w : Invocations) (made : ℕ) → Steps body start w i → Stands (i ∷ queue) w made → Stands (i ∷ queue) (after_step body start w i) (made + 1)
  stands_goes i queue w made l k = record { items = k.items; apart = k.apart; covers = covers_goes w i queue k.covers; counted = ap (λ n. n + 1) k.counted ∙ sym (made_goes w i queue k.items.0 l.live) }

  stands_leave : (i : ℕ) (queue : List ℕ) (w x : Invocations) (made : ℕ) → Leaves body start w i x → settled body start x queue i ≡ GoesOn → Stands (i ∷ queue) w made → Stands queue x (made + 1)
  stands_leave i queue w x made l g k = record { items = k.items.1; apart = k.apart.1; covers = covers_leave w x i queue k.items.0 l k.covers g; counted = ap (λ n. n + 1) k.counted ∙ sym (made_leave w x i queue k.items.0 k.apart.0 l) }

  stands_open : (i : ℕ) (queue : List ℕ) (w x : Invocations) (made : ℕ) → Leaves body start w i x → settled body start x queue i ≡ Opens → Stands (i ∷ queue) w made → Stands (queue ++ members_of start (group_at i)) (opened start x (group_at i)) (made + 1)
  stands_open i queue w x made l g k =
      record {
        items = each_append IsItem queue (members_of start (group_at i)) k.items.1 (members_items (group_at i));
        apart = distinct_open x i queue g k.apart.1;
        covers = covers_open w x i queue k.items.0 l k.covers;
        counted = ap (λ n. n + 1) k.counted ∙ sym (made_leave w x i queue k.items.0 k.apart.0 l) ∙ sym (made_open x i queue g);
      }

  abbrev IsOver : ℕ → Invocations → Type 0
  IsOver n v = IsComplete (shared_over start.global start.local) (module_world body start) v × (n ≡ steps_of (module_world body start) (volume start.global) v.items)

  turns_done : (w v : Invocations) (n : ℕ) (queue : List ℕ) (left budget made m : ℕ) (e : Ending) → Turns body start turn n queue left budget made w e v → e ≡ IsDone m → Stands queue w made → IsOver m v
  turns_done _ _ _ _ _ _ _ m _ (complete n left budget made w) q k =
      let h : IsDone made ≡ IsDone m = q in
      let same : m ≡ made = cc in
      let all = covers_all w k.covers in
      (all, same ∙ k.counted ∙ made_all w all)
  turns_done _ _ _ _ _ _ _ m _ (spent n i queue left made w) q k = absurd (let h : IsSpent ≡ IsDone m = q in cc)
  turns_done _ _ _ _ _ _ _ m _ (turned n i queue budget made w v e t) q k = turns_done w v (suc n) (queue ++ i ∷ []) (turn (suc n)) (suc budget) made m e t q (stands_back i queue w made k)
  turns_done _ _ _ _ _ _ _ m _ (traps n i queue left budget made w t f g) q k = absurd (let h : HasTrapped t (made + 1) ≡ IsDone m = q in cc)
  turns_done _ _ _ _ _ _ _ m _ (goes n i queue left budget made w v e l f t) q k = turns_done (after_step body start w i) v n (i ∷ queue) left budget (made + 1) m e t q (stands_goes i queue w made l k)
  turns_done _ _ _ _ _ _ _ m _ (leaves n i queue left budget made w x v e l g t) q k = turns_done x v (suc n) queue (turn (suc n)) budget (made + 1) m e t q (stands_leave i queue w x made l g k)
  turns_done _ _ _ _ _ _ _ m _ (opens n i queue left budget made w x v e l g t) q k = turns_done (opened start x (group_at i)) v (suc n) (queue ++ members_of start (group_at i)) (turn (suc n)) budget (made + 1) m e t q (stands_open i queue w x made l g k)
  turns_done _ _ _ _ _ _ _ m _ (mismatches n i j queue left budget made w x t l g f) q k = absurd (let h : HasTrapped t (made + 1) ≡ IsDone m = q in cc)

  -- ---- where it has trapped, an invocation fails, or a group's items don't meet

  stands_item : (i : ℕ) (r : Run) (t : Trapped) → StandsAt body i r t → t.item ≡ i
  stands_item i (run s) t h = h.2
  stands_item i over t h = absurd h

  abbrev Wrong : Trapped → Invocations → Type 0
  Wrong t v = ((status_of body start v t.item ≡ Fails) × TrapsAt body start t.item (run_of body start v t.item) t) ⊎ (IsMismatched (shared_over start.global start.local) (module_world body start) v (group_at t.item) × MismatchesAt body t.item (run_of body start v t.item) t)

  waits_chain : (v : Invocations) (j : ℕ) (chain : List ℕ) → WaitsAt (module_world body start) v j chain → chain_of body start v j ≡ Some chain
  waits_chain v j chain h = ap chain_by h.asks ∙ h.gate

  mismatched : (w x : Invocations) (i j : ℕ) (queue : List ℕ) → IsItem i → Leaves body start w i x → settled body start x queue i ≡ Mismatches j → Covers (i ∷ queue) w → IsItem j × (group_at j ≡ group_at i) × IsMismatched (shared_over start.global start.local) (module_world body start) x (group_at i)
  mismatched w x i j queue low l e k =
      let s = stops_at (chain_of body start x) queue (members_of start (group_at i)) j e in
      let g = in_group start (group_at i) j s.0.0 in (
        g.0,
        g.1,
        record {
          each = λ n lower same. each_stops n lower same s.1;
          one = (j, g.0, g.1, s.0.1.0, waits_at body start x j s.0.1.0 s.0.1.1);
          not_all = λ d all. s.0.2 d (λ n h. let m = in_group start (group_at i) n h in waits_chain x n d (all n m.0 m.1));
        },
      )
    where
      own : (status_of body start x i ≡ Ends) ⊎ ((chain : List ℕ) × (chain_of body start x i ≡ Some chain)) → ((chain : List ℕ) × WaitsAt (module_world body start) x i chain) ⊎ (status_of body start x i ≡ Ends)
      own (inl f) = inr f
      own (inr c) = inl (c.0, waits_at body start x i c.0 c.1)

      another : (n : ℕ) → (i ≡ n → ⊥) → (Has n queue → ⊥) → Covered (i ∷ queue) w n → ((chain : List ℕ) × WaitsAt (module_world body start) x n chain) ⊎ (status_of body start x n ≡ Ends)
      another n other out (inl (inl f)) = absurd (other f)
      another n other out (inl (inr h)) = absurd (out h)
      another n other out (inr (inl f)) = inr (status_same w x n (left_other w x i n l other) ∙ f)
      another n other out (inr (inr b)) = inl (b.0.0, waits_at body start x n b.0.0 (chain_same w x n (left_other w x i n l other) ∙ b.0.1))

      each_stops : (n : ℕ) → IsItem n → group_at n ≡ group_at i → ((m : ℕ) → Has m (members_of start (group_at i)) → Has m queue → ⊥) → ((chain : List ℕ) × WaitsAt (module_world body start) x n chain) ⊎ (status_of body start x n ≡ Ends)
      each_stops n lower same out = elim (cases_eq i n) [
        | inl f ↦ subst (λ m. ((chain : List ℕ) × WaitsAt (module_world body start) x m chain) ⊎ (status_of body start x m ≡ Ends)) f (own (left_own w x i l))
        | inr other ↦ another n other (out n (is_member start (group_at i) n lower same)) (k n lower)
      ]

  turns_wrong : (w v : Invocations) (n : ℕ) (queue : List ℕ) (left budget made m : ℕ) (z : Trapped) (e : Ending) → Turns body start turn n queue left budget made w e v → e ≡ HasTrapped z m → Stands queue w made → IsItem z.item × Wrong z v
  turns_wrong _ _ _ _ _ _ _ m z _ (complete n left budget made w) q k = absurd (let h : IsDone made ≡ HasTrapped z m = q in cc)
  turns_wrong _ _ _ _ _ _ _ m z _ (spent n i queue left made w) q k = absurd (let h : IsSpent ≡ HasTrapped z m = q in cc)
  turns_wrong _ _ _ _ _ _ _ m z _ (turned n i queue budget made w v e t) q k = turns_wrong w v (suc n) (queue ++ i ∷ []) (turn (suc n)) (suc budget) made m z e t q (stands_back i queue w made k)
  turns_wrong _ _ _ _ _ _ _ m z _ (traps n i queue left budget made w t f g) q k =
      let h : HasTrapped t (made + 1) ≡ HasTrapped z m = q in
      let same : t ≡ z = cc in
      let at : t.item ≡ i = stands_item i (run_of body start w i) t g.1 in
      subst (λ y. IsItem y.item × Wrong y w) same (subst (λ j. IsItem j × (((status_of body start w j ≡ Fails) × TrapsAt body start j (run_of body start w j) t) ⊎ (IsMismatched (shared_over start.global start.local) (module_world body start) w (group_at j) × MismatchesAt body j (run_of body start w j) t))) (sym at) (k.items.0, inl (f, g)))
  turns_wrong _ _ _ _ _ _ _ m z _ (goes n i queue left budget made w v e l f t) q k = turns_wrong (after_step body start w i) v n (i ∷ queue) left budget (made + 1) m z e t q (stands_goes i queue w made l k)
  turns_wrong _ _ _ _ _ _ _ m z _ (leaves n i queue left budget made w x v e l g t) q k = turns_wrong x v (suc n) queue (turn (suc n)) budget (made + 1) m z e t q (stands_leave i queue w x made l g k)
  turns_wrong _ _ _ _ _ _ _ m z _ (opens n i queue left budget made w x v e l g t) q k = turns_wrong (opened start x (group_at i)) v (suc n) (queue ++ members_of start (group_at i)) (turn (suc n)) budget (made + 1) m z e t q (stands_open i queue w x made l g k)
  turns_wrong _ _ _ _ _ _ _ m z _ (mismatches n i j queue left budget made w x t l g f) q k =
      let h : HasTrapped t (made + 1) ≡ HasTrapped z m = q in
      let same : t ≡ z = cc in
      let at : t.item ≡ j = stands_item j (run_of body start x j) t f.1 in
      let d = mismatched w x i j queue k.items.0 l g k.covers in
      let wrong : IsMismatched (shared_over start.global start.local) (module_world body start) x (group_at j) = subst (IsMismatched (shared_over start.global start.local) (module_world body start) x) (sym d.1) d.2 in
      subst (λ y. IsItem y.item × Wrong y x) same (subst (λ y. IsItem y × (((status_of body start x y ≡ Fails) × TrapsAt body start y (run_of body start x y) t) ⊎ (IsMismatched (shared_over start.global start.local) (module_world body start) x (group_at y) × MismatchesAt body y (run_of body start x y) t))) (sym at) (d.0, inr (wrong, f)))

  -- ---- the same, of whole runs

  abbrev first_world : Invocations
  first_world = opening (first_memory body start)

  abbrev all_items : List ℕ
  all_items = numbers_from 0 (volume start.global)

  items_all : Each IsItem all_items
  items_all = each_of IsItem all_items (λ k h. let low = numbers_below 0 (volume start.global) k h in omega (arith, low))

  first_made : (n : ℕ) → n ≤ volume start.global → total n (count all_items first_world) ≡ 0
  first_made zero low = refl
  first_made (suc n) low =
      let a = first_made n (omega (arith, low)) in
      let b = owed_in all_items first_world n (has_numbers 0 (volume start.global) n (omega arith) (omega (arith, low))) in
      omega (arith, a, b)

  first_stands : Stands all_items first_world 0
  first_stands = record { items = items_all; apart = distinct_numbers 0 (volume start.global); covers = λ j low. inl (has_numbers 0 (volume start.global) j (omega arith) (omega (arith, low))); counted = sym (first_made (volume start.global) (omega arith)) }

  -- it is a run of the module's world
  pub run_leads : (budget : ℕ) (e : Ending) (w : Invocations) → ScheduledRun body start turn budget e w → AreLed first_world w
  run_leads budget e w t = turns_lead first_world first_world w 0 all_items (turn 0) budget 0 e t items_all (here first_world)

  -- where it is done, all invocations have ended, and its steps are theirs
  pub run_completes : (budget n : ℕ) (w : Invocations) → ScheduledRun body start turn budget (IsDone n) w → IsComplete (shared_over start.global start.local) (module_world body start) w
  run_completes budget n w t = (turns_done first_world w 0 all_items (turn 0) budget 0 n (IsDone n) t refl first_stands).0

  pub run_counts : (budget n : ℕ) (w : Invocations) → ScheduledRun body start turn budget (IsDone n) w → n ≡ steps_of (module_world body start) (volume start.global) w.items
  run_counts budget n w t = (turns_done first_world w 0 all_items (turn 0) budget 0 n (IsDone n) t refl first_stands).1

  -- where it has trapped, the item that is named fails, or its group's items don't meet
  pub run_fails : (budget n : ℕ) (x : Trapped) (w : Invocations) → ScheduledRun body start turn budget (HasTrapped x n) w → IsItem x.item × Wrong x w
  run_fails budget n x w t = turns_wrong first_world w 0 all_items (turn 0) budget 0 n x (HasTrapped x n) t refl first_stands
