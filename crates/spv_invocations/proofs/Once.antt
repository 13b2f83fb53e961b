-- A run by a schedule ends in one way.
use Rattle.std.proofs.Common.{◌≡◌, ◌≢◌, ℕ, suc, ◌+◌, List, [], ◌∷◌, ◌++◌, Option, Some, None, refl, sym, ap, ◌∙◌, subst}
use Rattle.launch_text.specs.WorkItems.{group_of}
use Rattle.clv_steps.specs.Machines.{Status, Ends, Fails, IsLive}
use Rattle.spv_module.specs.declared.module.Inst.{Inst}
use Rattle.spv_meaning.specs.declared.trap.TrapKind.{TrapKind}
use Rattle.spv_invocations.specs.Events.{Asked}
use Rattle.spv_invocations.specs.Start.{Start}
use Rattle.spv_invocations.specs.Invocation.{Run, run, over}
use Rattle.spv_invocations.specs.Schedule.{Invocations, run_of, status_of, chain_by, chain_of, after_step, Steps, Trapped, StandsAt, TrapsAt, MismatchesAt, members_of, Settled, GoesOn, Opens, Mismatches, settled, opened, Ending, HasTrapped, Leaves, ended, waits, Turns, complete, spent, turned, traps, goes, leaves, opens, mismatches, ScheduledRun}

live_fails : (s : Status Asked) → IsLive s → s ≡ Fails → ⊥
live_fails s l e = subst IsLive e l

same_kind : (k j : TrapKind) → Some k ≡ Some j → k ≡ j
same_kind k j e = cc

some_none : (o : Option (List ℕ)) (chain : List ℕ) → o ≡ None → o ≡ Some chain → ⊥
some_none o chain a b = let h : None ≡ Some chain = sym a ∙ b in cc

abbrev trapped : TrapKind → ℕ → ℕ → ℕ → Trapped
trapped kind function word item = record { kind = kind; function = function; word = word; item = item }

stands_same : (body : List Inst) (i : ℕ) (r : Run) (t s : Trapped) → t.kind ≡ s.kind → StandsAt body i r t → StandsAt body i r s → t ≡ s
stands_same body i (run at) t s kind a b =
    let function_same : t.function ≡ s.function = a.0 ∙ sym b.0 in
    let word : t.word ≡ s.word = a.1 ∙ sym b.1 in
    let item : t.item ≡ s.item = a.2 ∙ sym b.2 in
    ap (λ k. trapped k t.function t.word t.item) kind ∙ ap (λ n. trapped s.kind n t.word t.item) function_same ∙ ap (λ n. trapped s.kind s.function n t.item) word ∙ ap (trapped s.kind s.function s.word) item
stands_same body i over t s kind a b = absurd a

module _ (body : List Inst) (start : Start) (turn : ℕ → ℕ) where
  trap_same : (i : ℕ) (r : Run) (t s : Trapped) → TrapsAt body start i r t → TrapsAt body start i r s → t ≡ s
  trap_same i r t s a b = stands_same body i r t s (same_kind t.kind s.kind (sym a.0 ∙ b.0)) a.1 b.1

  mismatch_same : (i : ℕ) (r : Run) (t s : Trapped) → MismatchesAt body i r t → MismatchesAt body i r s → t ≡ s
  mismatch_same i r t s a b = stands_same body i r t s (a.0 ∙ sym b.0) a.1 b.1

  leaves_same : (w u v : Invocations) (i : ℕ) → Leaves body start w i u → Leaves body start w i v → u ≡ v
  leaves_same w _ _ i (ended s e) (ended t f) = refl
  leaves_same w _ _ i (waits c e) (waits d f) = refl
  leaves_same w _ _ i (ended s e) (waits d f) = absurd (some_none (chain_of body start w i) d s.no_barrier f)
  leaves_same w _ _ i (waits c e) (ended t f) = absurd (some_none (chain_of body start w i) c t.no_barrier e)

  leaves_fails : (w u : Invocations) (i : ℕ) → Leaves body start w i u → status_of body start w i ≡ Fails → ⊥
  leaves_fails w _ i (ended s e) fails = live_fails (status_of body start w i) s.live fails
  leaves_fails w _ i (waits c e) fails = some_none (chain_of body start w i) c (ap chain_by fails) e

  leaves_goes : (w u : Invocations) (i : ℕ) → Leaves body start w i u → Steps body start w i → status_of body start (after_step body start w i) i ≢ Ends → ⊥
  leaves_goes w _ i (ended s e) t other = other e
  leaves_goes w _ i (waits c e) t other = some_none (chain_of body start w i) c t.no_barrier e

  settled_same : (w u v : Invocations) (queue : List ℕ) (i : ℕ) (a b : Settled) → Leaves body start w i u → Leaves body start w i v → settled body start u queue i ≡ a → settled body start v queue i ≡ b → a ≡ b
  settled_same w u v queue i a b l k p q = sym p ∙ ap (λ z. settled body start z queue i) (leaves_same w u v i l k) ∙ q

  goes_opens : GoesOn ≡ Opens → ⊥
  goes_opens e = cc

  goes_stops : (j : ℕ) → GoesOn ≡ Mismatches j → ⊥
  goes_stops j e = cc

  opens_stops : (j : ℕ) → Opens ≡ Mismatches j → ⊥
  opens_stops j e = cc

  pub turns_once : (n : ℕ) (queue : List ℕ) (left budget made : ℕ) (w v u : Invocations) (e f : Ending) → Turns body start turn n queue left budget made w e v → Turns body start turn n queue left budget made w f u → (e ≡ f) × (v ≡ u)
  turns_once _ _ _ _ _ _ _ _ _ _ (complete n left budget made w) (complete _ _ _ _ _) = (refl, refl)
  turns_once _ _ _ _ _ _ _ _ _ _ (spent n i queue left made w) (spent _ _ _ _ _ _) = (refl, refl)
  turns_once _ _ _ _ _ _ _ u _ f (turned n i queue budget made w v e t) (turned _ _ _ _ _ _ _ _ s) = turns_once (suc n) (queue ++ i ∷ []) (turn (suc n)) (suc budget) made w v u e f t s
  turns_once _ _ _ _ _ _ _ _ _ _ (traps n i queue left budget made w t fails at) (traps _ _ _ _ _ _ _ s fails2 at2) = (ap (λ x. HasTrapped x (made + 1)) (trap_same i (run_of body start w i) t s at at2), refl)
  turns_once _ _ _ _ _ _ _ _ _ _ (traps n i queue left budget made w t fails at) (goes _ _ _ _ _ _ _ u f l g s) = absurd (live_fails (status_of body start w i) l.live fails)
  turns_once _ _ _ _ _ _ _ _ _ _ (traps n i queue left budget made w t fails at) (leaves _ _ _ _ _ _ _ x u f l g s) = absurd (leaves_fails w x i l fails)
  turns_once _ _ _ _ _ _ _ _ _ _ (traps n i queue left budget made w t fails at) (opens _ _ _ _ _ _ _ x u f l g s) = absurd (leaves_fails w x i l fails)
  turns_once _ _ _ _ _ _ _ _ _ _ (traps n i queue left budget made w t fails at) (mismatches _ _ k _ _ _ _ _ x s l g m) = absurd (leaves_fails w x i l fails)
  turns_once _ _ _ _ _ _ _ _ _ _ (goes n i queue left budget made w v e l g t) (traps _ _ _ _ _ _ _ s fails at) = absurd (live_fails (status_of body start w i) l.live fails)
  turns_once _ _ _ _ _ _ _ u _ f (goes n i queue left budget made w v e l g t) (goes _ _ _ _ _ _ _ _ _ l2 g2 s) = turns_once n (i ∷ queue) left budget (made + 1) (after_step body start w i) v u e f t s
  turns_once _ _ _ _ _ _ _ _ _ _ (goes n i queue left budget made w v e l g t) (leaves _ _ _ _ _ _ _ x u f l2 g2 s) = absurd (leaves_goes w x i l2 l g)
  turns_once _ _ _ _ _ _ _ _ _ _ (goes n i queue left budget made w v e l g t) (opens _ _ _ _ _ _ _ x u f l2 g2 s) = absurd (leaves_goes w x i l2 l g)
  turns_once _ _ _ _ _ _ _ _ _ _ (goes n i queue left budget made w v e l g t) (mismatches _ _ k _ _ _ _ _ x s l2 g2 m) = absurd (leaves_goes w x i l2 l g)
  turns_once _ _ _ _ _ _ _ _ _ _ (leaves n i queue left budget made w x v e l g t) (traps _ _ _ _ _ _ _ s fails at) = absurd (leaves_fails w x i l fails)
  turns_once _ _ _ _ _ _ _ _ _ _ (leaves n i queue left budget made w x v e l g t) (goes _ _ _ _ _ _ _ u f l2 g2 s) = absurd (leaves_goes w x i l l2 g2)
  turns_once _ _ _ _ _ _ _ u _ f (leaves n i queue left budget made w x v e l g t) (leaves _ _ _ _ _ _ _ y _ _ l2 g2 s) = turns_once (suc n) queue (turn (suc n)) budget (made + 1) x v u e f t (subst (λ z. Turns body start turn (suc n) queue (turn (suc n)) budget (made + 1) z f u) (leaves_same w y x i l2 l) s)
  turns_once _ _ _ _ _ _ _ _ _ _ (leaves n i queue left budget made w x v e l g t) (opens _ _ _ _ _ _ _ y u f l2 g2 s) = absurd (goes_opens (settled_same w x y queue i GoesOn Opens l l2 g g2))
  turns_once _ _ _ _ _ _ _ _ _ _ (leaves n i queue left budget made w x v e l g t) (mismatches _ _ k _ _ _ _ _ y s l2 g2 m) = absurd (goes_stops k (settled_same w x y queue i GoesOn (Mismatches k) l l2 g g2))
  turns_once _ _ _ _ _ _ _ _ _ _ (opens n i queue left budget made w x v e l g t) (traps _ _ _ _ _ _ _ s fails at) = absurd (leaves_fails w x i l fails)
  turns_once _ _ _ _ _ _ _ _ _ _ (opens n i queue left budget made w x v e l g t) (goes _ _ _ _ _ _ _ u f l2 g2 s) = absurd (leaves_goes w x i l l2 g2)
  turns_once _ _ _ _ _ _ _ _ _ _ (opens n i queue left budget made w x v e l g t) (leaves _ _ _ _ _ _ _ y u f l2 g2 s) = absurd (goes_opens (settled_same w y x queue i GoesOn Opens l2 l g2 g))
  turns_once _ _ _ _ _ _ _ u _ f (opens n i queue left budget made w x v e l g t) (opens _ _ _ _ _ _ _ y _ _ l2 g2 s) = turns_once (suc n) (queue ++ members_of start (group_of start.global start.local i)) (turn (suc n)) budget (made + 1) (opened start x (group_of start.global start.local i)) v u e f t (subst (λ z. Turns body start turn (suc n) (queue ++ members_of start (group_of start.global start.local i)) (turn (suc n)) budget (made + 1) (opened start z (group_of start.global start.local i)) f u) (leaves_same w y x i l2 l) s)
  turns_once _ _ _ _ _ _ _ _ _ _ (opens n i queue left budget made w x v e l g t) (mismatches _ _ k _ _ _ _ _ y s l2 g2 m) = absurd (opens_stops k (settled_same w x y queue i Opens (Mismatches k) l l2 g g2))
  turns_once _ _ _ _ _ _ _ _ _ _ (mismatches n i j queue left budget made w x t l g m) (traps _ _ _ _ _ _ _ s fails at) = absurd (leaves_fails w x i l fails)
  turns_once _ _ _ _ _ _ _ _ _ _ (mismatches n i j queue left budget made w x t l g m) (goes _ _ _ _ _ _ _ u f l2 g2 s) = absurd (leaves_goes w x i l l2 g2)
  turns_once _ _ _ _ _ _ _ _ _ _ (mismatches n i j queue left budget made w x t l g m) (leaves _ _ _ _ _ _ _ y u f l2 g2 s) = absurd (goes_stops j (settled_same w y x queue i GoesOn (Mismatches j) l2 l g2 g))
  turns_once _ _ _ _ _ _ _ _ _ _ (mismatches n i j queue left budget made w x t l g m) (opens _ _ _ _ _ _ _ y u f l2 g2 s) = absurd (opens_stops j (settled_same w y x queue i Opens (Mismatches j) l2 l g2 g))
  turns_once _ _ _ _ _ _ _ _ _ _ (mismatches n i j queue left budget made w x t l g m) (mismatches _ _ k _ _ _ _ _ y s l2 g2 m2) =
      let same : x ≡ y = leaves_same w x y i l l2 in
      let both : Mismatches j ≡ Mismatches k = settled_same w x y queue i (Mismatches j) (Mismatches k) l l2 g g2 in
      let item : j ≡ k = cc in
      let there : MismatchesAt body j (run_of body start x j) s = subst (λ z. MismatchesAt body j (run_of body start z j) s) (sym same) (subst (λ q. MismatchesAt body q (run_of body start y q) s) (sym item) m2) in
      (ap (λ z. HasTrapped z (made + 1)) (mismatch_same j (run_of body start x j) t s m there), same)

  pub run_once : (budget : ℕ) (w v : Invocations) (e f : Ending) → ScheduledRun body start turn budget e w → ScheduledRun body start turn budget f v → (e ≡ f) × (w ≡ v)
  run_once budget w v e f t s = turns_once _ _ _ _ _ _ w v e f t s
