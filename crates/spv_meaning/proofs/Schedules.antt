-- What holds of a run by a schedule: it ends in one way, and is a run of the module's world.
use Rattle.std.proofs.Common.{◌≡◌, ◌⊎◌, ℕ, zero, suc, ◌+◌, ◌<◌, ◌≤◌, inl, inr, List, [], ◌∷◌, ◌++◌, refl, sym, ap, ◌∙◌, subst, arith}
use Rattle.std.proofs.lemmas.Bool.{cases_eq}
use Rattle.launch_text.specs.WorkItems.{volume}
use Rattle.clv_steps.specs.Machines.{Ends, Fails, IsLive}
use Rattle.clv_worlds.specs.Worlds.{Leads, here, onward, IsComplete, opening, steps_of}
use Rattle.clv_worlds.proofs.Steps.{no_steps, one_more}
use Rattle.spv_module.specs.declared.module.Inst.{Inst}
use Rattle.spv_meaning.specs.Start.{Start}
use Rattle.spv_meaning.specs.Invocation.{Run, run, over, status, given_of}
use Rattle.spv_meaning.specs.Worlds.{shared_over, module_world}
use Rattle.spv_meaning.specs.Schedule.{Invocations, run_of, status_of, after_step, Trapped, TrapsAt, Ending, IsDone, HasTrapped, IsSpent, Turns, complete, spent, turned, traps, ends, goes, numbers_from, ScheduledRun}
use Rattle.spv_meaning.proofs.Runs.{step_other, step_moves, step_items}

-- ---- queues

abbrev pub Each : (ℕ → Type 0) → List ℕ → Type 0
Each P [] = Unit {0}
Each P (x ∷ xs) = P x × Each P xs

pub each_back : (P : ℕ → Type 0) (xs : List ℕ) (y : ℕ) → Each P xs → P y → Each P (xs ++ y ∷ [])
each_back P [] y k p = (p, tt)
each_back P (x ∷ xs) y k p = (k.0, each_back P xs y k.1 p)

pub numbers_over : (P : ℕ → Type 0) (m n : ℕ) → ((k : ℕ) → m ≤ k → k < m + n → P k) → Each P (numbers_from m n)
numbers_over P m zero h = tt
numbers_over P m (suc n) h = (h m (omega arith) (omega arith), numbers_over P (m + 1) n (λ k low high. h k (omega (arith, low)) (omega (arith, high))))

abbrev Has : ℕ → List ℕ → Type 0
Has i [] = ⊥
Has i (x ∷ xs) = (x ≡ i) ⊎ Has i xs

has_back : (i x : ℕ) (xs : List ℕ) → Has i (x ∷ xs) → Has i (xs ++ x ∷ [])
has_back i x [] h = h
has_back i x (y ∷ xs) (inl e) = inr (has_back i x xs (inl e))
has_back i x (y ∷ xs) (inr (inl e)) = inl e
has_back i x (y ∷ xs) (inr (inr k)) = inr (has_back i x xs (inr k))

has_numbers : (m n i : ℕ) → m ≤ i → i < m + n → Has i (numbers_from m n)
has_numbers m zero i low high = absurd (omega (arith, low, high))
has_numbers m (suc n) i low high = elim (cases_eq m i) [
  | inl e ↦ inl e
  | inr other ↦ inr (has_numbers (m + 1) n i (omega (arith, low, other)) (omega (arith, high)))
]

module _ (body : List Inst) (start : Start) (turn : ℕ) where
  abbrev IsItem : ℕ → Type 0
  IsItem i = i < volume start.global

  -- ---- it is a run of the module's world

  pub turns_lead : (u w v : Invocations) (queue : List ℕ) (left budget made : ℕ) (e : Ending) → Turns body start turn queue left budget made w e v → Each IsItem queue → Leads (shared_over start.global start.local) (module_world body start) u w → Leads (shared_over start.global start.local) (module_world body start) u v
  turns_lead u _ _ _ _ _ _ _ (complete left budget made w) k run_so_far = run_so_far
  turns_lead u _ _ _ _ _ _ _ (spent i queue left made w) k run_so_far = run_so_far
  turns_lead u _ _ _ _ _ _ _ (turned i queue budget made w v e t) k run_so_far = turns_lead u w v (queue ++ i ∷ []) turn (suc budget) made e t (each_back IsItem queue i k.1 k.0) run_so_far
  turns_lead u _ _ _ _ _ _ _ (traps i queue left budget made w t f g) k run_so_far = run_so_far
  turns_lead u _ _ _ _ _ _ _ (ends i queue left budget made w v e l f t) k run_so_far = turns_lead u (after_step body start w i) v queue turn budget (made + 1) e t k.1 (onward u w (after_step body start w i) run_so_far (step_moves body start w i (status_of body start w i) k.0 refl l))
  turns_lead u _ _ _ _ _ _ _ (goes i queue left budget made w v e l f t) k run_so_far = turns_lead u (after_step body start w i) v (i ∷ queue) left budget (made + 1) e t k (onward u w (after_step body start w i) run_so_far (step_moves body start w i (status_of body start w i) k.0 refl l))

  -- ---- where it is done, all invocations have ended

  abbrev Covers : List ℕ → Invocations → Type 0
  Covers queue w = (j : ℕ) → IsItem j → Has j queue ⊎ (status_of body start w j ≡ Ends)

  still_ended : (w : Invocations) (i j : ℕ) → (i ≡ j → ⊥) → status_of body start w j ≡ Ends → status_of body start (after_step body start w i) j ≡ Ends
  still_ended w i j other e = ap (status (given_of body start j)) (step_other body start w i (status_of body start w i) j other) ∙ e

  covers_end : (w : Invocations) (i : ℕ) (queue : List ℕ) → status_of body start (after_step body start w i) i ≡ Ends → Covers (i ∷ queue) w → Covers queue (after_step body start w i)
  covers_end w i queue end_ k j low = elim (cases_eq i j) [
    | inl e ↦ inr (subst (λ n. status_of body start (after_step body start w i) n ≡ Ends) e end_)
    | inr other ↦ elim (k j low) [
      | inl h ↦ elim h [ inl e ↦ absurd (other e) | inr behind ↦ inl behind ]
      | inr e ↦ inr (still_ended w i j other e)
    ]
  ]

  covers_more : (w : Invocations) (i : ℕ) (queue : List ℕ) → Covers (i ∷ queue) w → Covers (i ∷ queue) (after_step body start w i)
  covers_more w i queue k j low = elim (cases_eq i j) [
    | inl e ↦ inl (inl e)
    | inr other ↦ elim (k j low) [ inl h ↦ inl h | inr e ↦ inr (still_ended w i j other e) ]
  ]

  covers_back : (w : Invocations) (i : ℕ) (queue : List ℕ) → Covers (i ∷ queue) w → Covers (queue ++ i ∷ []) w
  covers_back w i queue k j low = elim (k j low) [ inl h ↦ inl (has_back j i queue h) | inr e ↦ inr e ]

  covers_all : (w : Invocations) → Covers [] w → IsComplete (shared_over start.global start.local) (module_world body start) w
  covers_all w k i low = elim (k i low) [ inl h ↦ absurd h | inr e ↦ e ]

  pub turns_complete : (w v : Invocations) (queue : List ℕ) (left budget made n : ℕ) (e : Ending) → Turns body start turn queue left budget made w e v → e ≡ IsDone n → Covers queue w → IsComplete (shared_over start.global start.local) (module_world body start) v
  turns_complete _ _ _ _ _ _ n _ (complete left budget made w) q k = covers_all w k
  turns_complete _ _ _ _ _ _ n _ (spent i queue left made w) q k = absurd (let h : IsSpent ≡ IsDone n = q in cc)
  turns_complete _ _ _ _ _ _ n _ (turned i queue budget made w v e t) q k = turns_complete w v (queue ++ i ∷ []) turn (suc budget) made n e t q (covers_back w i queue k)
  turns_complete _ _ _ _ _ _ n _ (traps i queue left budget made w t f g) q k = absurd (let h : HasTrapped t (made + 1) ≡ IsDone n = q in cc)
  turns_complete _ _ _ _ _ _ n _ (ends i queue left budget made w v e l f t) q k = turns_complete (after_step body start w i) v queue turn budget (made + 1) n e t q (covers_end w i queue f k)
  turns_complete _ _ _ _ _ _ n _ (goes i queue left budget made w v e l f t) q k = turns_complete (after_step body start w i) v (i ∷ queue) left budget (made + 1) n e t q (covers_more w i queue k)

  -- ---- its steps are those of its world

  abbrev steps_in : Invocations → ℕ
  steps_in w = steps_of (module_world body start) (volume start.global) w.items

  step_counted : (w : Invocations) (i : ℕ) → IsItem i → IsLive (status_of body start w i) → steps_in (after_step body start w i) ≡ steps_in w + 1
  step_counted w i low l =
      ap (steps_of (module_world body start) (volume start.global)) (step_items body start w i (status_of body start w i) l) ∙ one_more (module_world body start) i 0 (volume start.global) w.items low

  pub turns_steps : (w v : Invocations) (queue : List ℕ) (left budget made n : ℕ) (e : Ending) → Turns body start turn queue left budget made w e v → e ≡ IsDone n → Each IsItem queue → made ≡ steps_in w → n ≡ steps_in v
  turns_steps _ _ _ _ _ _ n _ (complete left budget made w) q k m = let h : IsDone made ≡ IsDone n = q in let g : n ≡ made = cc in g ∙ m
  turns_steps _ _ _ _ _ _ n _ (spent i queue left made w) q k m = absurd (let h : IsSpent ≡ IsDone n = q in cc)
  turns_steps _ _ _ _ _ _ n _ (turned i queue budget made w v e t) q k m = turns_steps w v (queue ++ i ∷ []) turn (suc budget) made n e t q (each_back IsItem queue i k.1 k.0) m
  turns_steps _ _ _ _ _ _ n _ (traps i queue left budget made w t f g) q k m = absurd (let h : HasTrapped t (made + 1) ≡ IsDone n = q in cc)
  turns_steps _ _ _ _ _ _ n _ (ends i queue left budget made w v e l f t) q k m = turns_steps (after_step body start w i) v queue turn budget (made + 1) n e t q k.1 (ap (λ x. x + 1) m ∙ sym (step_counted w i k.0 l))
  turns_steps _ _ _ _ _ _ n _ (goes i queue left budget made w v e l f t) q k m = turns_steps (after_step body start w i) v (i ∷ queue) left budget (made + 1) n e t q k (ap (λ x. x + 1) m ∙ sym (step_counted w i k.0 l))

  -- ---- where it has trapped, an invocation fails

  trap_item : (i : ℕ) (r : Run) (t : Trapped) → TrapsAt body start i r t → t.item ≡ i
  trap_item i (run function place part values) t h = h.3
  trap_item i over t h = absurd h

  pub turns_fail : (w v : Invocations) (queue : List ℕ) (left budget made n : ℕ) (x : Trapped) (e : Ending) → Turns body start turn queue left budget made w e v → e ≡ HasTrapped x n → Each IsItem queue → IsItem x.item × (status_of body start v x.item ≡ Fails) × TrapsAt body start x.item (run_of body start v x.item) x
  turns_fail _ _ _ _ _ _ n x _ (complete left budget made w) q k = absurd (let h : IsDone made ≡ HasTrapped x n = q in cc)
  turns_fail _ _ _ _ _ _ n x _ (spent i queue left made w) q k = absurd (let h : IsSpent ≡ HasTrapped x n = q in cc)
  turns_fail _ _ _ _ _ _ n x _ (turned i queue budget made w v e t) q k = turns_fail w v (queue ++ i ∷ []) turn (suc budget) made n x e t q (each_back IsItem queue i k.1 k.0)
  turns_fail _ _ _ _ _ _ n x _ (traps i queue left budget made w t f g) q k =
      let h : HasTrapped t (made + 1) ≡ HasTrapped x n = q in
      let same : t ≡ x = cc in
      let at : t.item ≡ i = trap_item i (run_of body start w i) t g in
      subst (λ y. IsItem y.item × (status_of body start w y.item ≡ Fails) × TrapsAt body start y.item (run_of body start w y.item) y) same (subst (λ j. IsItem j × (status_of body start w j ≡ Fails) × TrapsAt body start j (run_of body start w j) t) (sym at) (k.0, f, g))
  turns_fail _ _ _ _ _ _ n x _ (ends i queue left budget made w v e l f t) q k = turns_fail (after_step body start w i) v queue turn budget (made + 1) n x e t q k.1
  turns_fail _ _ _ _ _ _ n x _ (goes i queue left budget made w v e l f t) q k = turns_fail (after_step body start w i) v (i ∷ queue) left budget (made + 1) n x e t q k

  -- ---- the same, of whole runs

  items_all : Each IsItem (numbers_from 0 (volume start.global))
  items_all = numbers_over IsItem 0 (volume start.global) (λ k low high. omega (arith, high))

  pub run_leads : (budget : ℕ) (e : Ending) (w : Invocations) → ScheduledRun body start turn budget e w → Leads (shared_over start.global start.local) (module_world body start) (opening start.buffers) w
  run_leads budget e w t = turns_lead (opening start.buffers) (opening start.buffers) w (numbers_from 0 (volume start.global)) turn budget 0 e t items_all (here (opening start.buffers))

  pub run_completes : (budget n : ℕ) (w : Invocations) → ScheduledRun body start turn budget (IsDone n) w → IsComplete (shared_over start.global start.local) (module_world body start) w
  run_completes budget n w t = turns_complete (opening start.buffers) w (numbers_from 0 (volume start.global)) turn budget 0 n (IsDone n) t refl (λ j low. inl (has_numbers 0 (volume start.global) j (omega arith) (omega (arith, low))))

  pub run_counts : (budget n : ℕ) (w : Invocations) → ScheduledRun body start turn budget (IsDone n) w → n ≡ steps_of (module_world body start) (volume start.global) w.items
  run_counts budget n w t = turns_steps (opening start.buffers) w (numbers_from 0 (volume start.global)) turn budget 0 n (IsDone n) t refl items_all (no_steps (module_world body start) (volume start.global))

  pub run_fails : (budget n : ℕ) (x : Trapped) (w : Invocations) → ScheduledRun body start turn budget (HasTrapped x n) w → IsItem x.item × (status_of body start w x.item ≡ Fails) × TrapsAt body start x.item (run_of body start w x.item) x
  run_fails budget n x w t = turns_fail (opening start.buffers) w (numbers_from 0 (volume start.global)) turn budget 0 n x (HasTrapped x n) t refl items_all
