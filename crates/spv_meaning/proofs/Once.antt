-- A run by a schedule ends in one way.
use Rattle.std.proofs.Common.{◌≡◌, ℕ, suc, ◌+◌, List, [], ◌∷◌, ◌++◌, Some, refl, sym, ap, ◌∙◌, subst}
use Rattle.clv_steps.specs.Machines.{Status, Fails, IsLive}
use Rattle.spv_module.specs.declared.module.Inst.{Inst}
use Rattle.spv_meaning.specs.declared.trap.TrapKind.{TrapKind}
use Rattle.spv_meaning.specs.Events.{Asked}
use Rattle.spv_meaning.specs.Start.{Start}
use Rattle.spv_meaning.specs.Invocation.{Run, run, over}
use Rattle.spv_meaning.specs.Schedule.{Invocations, run_of, status_of, after_step, Trapped, TrapsAt, Ending, HasTrapped, Turns, complete, spent, turned, traps, ends, goes, ScheduledRun}

live_fails : (s : Status Asked) → IsLive s → s ≡ Fails → ⊥
live_fails s l e = subst IsLive e l

same_kind : (k j : TrapKind) → Some k ≡ Some j → k ≡ j
same_kind k j e = cc

abbrev trapped : TrapKind → ℕ → ℕ → ℕ → Trapped
trapped kind function word item = record { kind = kind; function = function; word = word; item = item }

trap_same : (body : List Inst) (start : Start) (i : ℕ) (r : Run) (t s : Trapped) → TrapsAt body start i r t → TrapsAt body start i r s → t ≡ s
trap_same body start i (run function place part values) t s a b =
    let kind : t.kind ≡ s.kind = same_kind t.kind s.kind (sym a.0 ∙ b.0) in
    let function_same : t.function ≡ s.function = a.1 ∙ sym b.1 in
    let word : t.word ≡ s.word = a.2 ∙ sym b.2 in
    let item : t.item ≡ s.item = a.3 ∙ sym b.3 in
    ap (λ k. trapped k t.function t.word t.item) kind ∙ ap (λ n. trapped s.kind n t.word t.item) function_same ∙ ap (λ n. trapped s.kind s.function n t.item) word ∙ ap (trapped s.kind s.function s.word) item
trap_same body start i over t s a b = absurd a

module _ (body : List Inst) (start : Start) (turn : ℕ) where
  pub turns_once : (queue : List ℕ) (left budget made : ℕ) (w v u : Invocations) (e f : Ending) → Turns body start turn queue left budget made w e v → Turns body start turn queue left budget made w f u → (e ≡ f) × (v ≡ u)
  turns_once _ _ _ _ _ _ _ _ _ (complete left budget made w) (complete _ _ _ _) = (refl, refl)
  turns_once _ _ _ _ _ _ _ _ _ (spent i queue left made w) (spent _ _ _ _ _) = (refl, refl)
  turns_once _ _ _ _ _ _ u _ f (turned i queue budget made w v e t) (turned _ _ _ _ _ _ _ s) = turns_once (queue ++ i ∷ []) turn (suc budget) made w v u e f t s
  turns_once _ _ _ _ _ _ _ _ _ (traps i queue left budget made w t fails at) (traps _ _ _ _ _ _ s fails2 at2) = (ap (λ x. HasTrapped x (made + 1)) (trap_same body start i (run_of body start w i) t s at at2), refl)
  turns_once _ _ _ _ _ _ _ _ _ (traps i queue left budget made w t fails at) (ends _ _ _ _ _ _ u f l g s) = absurd (live_fails (status_of body start w i) l fails)
  turns_once _ _ _ _ _ _ _ _ _ (traps i queue left budget made w t fails at) (goes _ _ _ _ _ _ u f l g s) = absurd (live_fails (status_of body start w i) l fails)
  turns_once _ _ _ _ _ _ _ _ _ (ends i queue left budget made w v e l g t) (traps _ _ _ _ _ _ s fails at) = absurd (live_fails (status_of body start w i) l fails)
  turns_once _ _ _ _ _ _ _ _ _ (ends i queue left budget made w v e l g t) (ends _ _ _ _ _ _ u f l2 g2 s) = turns_once queue turn budget (made + 1) (after_step body start w i) v u e f t s
  turns_once _ _ _ _ _ _ _ _ _ (ends i queue left budget made w v e l g t) (goes _ _ _ _ _ _ u f l2 g2 s) = absurd (g2 g)
  turns_once _ _ _ _ _ _ _ _ _ (goes i queue left budget made w v e l g t) (traps _ _ _ _ _ _ s fails at) = absurd (live_fails (status_of body start w i) l fails)
  turns_once _ _ _ _ _ _ _ _ _ (goes i queue left budget made w v e l g t) (ends _ _ _ _ _ _ u f l2 g2 s) = absurd (g g2)
  turns_once _ _ _ _ _ _ _ _ _ (goes i queue left budget made w v e l g t) (goes _ _ _ _ _ _ u f l2 g2 s) = turns_once (i ∷ queue) left budget (made + 1) (after_step body start w i) v u e f t s

  pub run_once : (budget : ℕ) (w v : Invocations) (e f : Ending) → ScheduledRun body start turn budget e w → ScheduledRun body start turn budget f v → (e ≡ f) × (w ≡ v)
  run_once budget w v e f t s = turns_once _ _ _ _ _ w v e f t s
