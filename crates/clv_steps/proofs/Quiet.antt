-- Straight lines: moves of a machine's own, whatever numbers they are given.
use Rattle.std.proofs.Common.{◌≡◌, ℕ, suc, ◌+◌, ◌*◌, sym, subst, arith}
use Rattle.clv_steps.specs.Machines.{Runs, Machine}
use Rattle.clv_steps.specs.Runs.{Meter, counted, valued}
use Rattle.clv_steps.proofs.Follow.{Goes, quiet, skips, at_credit}

-- n such moves lead from the first state to the second
pub data Quietly {S E : Type 0} (m : Machine S E) : ℕ → S → S → Type 0 where
  stays : (s : S) → Quietly m 0 s s
  goes : (n : ℕ) (s u v : S) → m.status s ≡ Runs → ((x : ℕ) → m.next x s ≡ u) → Quietly m n u v → Quietly m (suc n) s v

pub at_count : {S E : Type 0} {m : Machine S E} {s u : S} (a b : ℕ) → a ≡ b → Quietly m a s u → Quietly m b s u
at_count {m = m} {s = s} {u = u} a b e q = subst (λ n. Quietly m n s u) e q

pub and_then : {S E : Type 0} (m : Machine S E) (a b : ℕ) (s u v : S) → Quietly m a s u → Quietly m b u v → Quietly m (a + b) s v
and_then m _ b _ _ v (stays s) r = at_count b (0 + b) (omega arith) r
and_then m _ b _ _ v (goes n s t u e f q) r = at_count (suc (n + b)) (suc n + b) (omega arith) (goes (n + b) s t v e f (and_then m n b t u v q r))

pub one_more : {S E : Type 0} (m : Machine S E) (n : ℕ) (s u v : S) → m.status u ≡ Runs → ((x : ℕ) → m.next x u ≡ v) → Quietly m n s u → Quietly m (n + 1) s v
one_more m n s u v e f q = and_then m n 1 s u v q (goes 0 u v v e f (stays v))

-- the source alone, where each of its moves is a step
pub source_quiet : {S T E F : Type 0} (a : Machine S E) (b : Machine T F) (word : E → F) (worth : ℕ) (due : Meter T) (R : ℕ → S → T → Type 0) (n c : ℕ) (s u : S) (t : T) → Quietly a n s u → Goes a b word (valued (λ z. 1) worth) due R (c + n * worth) u t → Goes a b word (valued (λ z. 1) worth) due R c s t
source_quiet a b word worth due R _ c _ u t (stays s) g = at_credit (c + 0 * worth) c (omega arith) g
source_quiet a b word worth due R _ c _ u t (goes n s v w e f q) g =
    let behind = source_quiet a b word worth due R n (c + worth) v w t q (at_credit (c + suc n * worth) (c + worth + n * worth) (omega arith) g) in
    skips c (c + worth) 0 s t e (subst (λ z. Goes a b word (valued (λ y. 1) worth) due R (c + worth) z t) (sym (f 0)) behind) (omega arith)

-- the target alone, where each of its moves is a step
pub target_quiet : {S T E F : Type 0} (a : Machine S E) (b : Machine T F) (word : E → F) (pay : Meter S) (R : ℕ → S → T → Type 0) (n c : ℕ) (s : S) (t u : T) → Quietly b n t u → Goes a b word pay (counted (λ z. 1)) R c s u → Goes a b word pay (counted (λ z. 1)) R (n + c) s t
target_quiet a b word pay R _ c s _ u (stays t) g = at_credit c (0 + c) (omega arith) g
target_quiet a b word pay R _ c s _ u (goes n t v w e f q) g =
    let behind = target_quiet a b word pay R n c s v w q g in
    quiet (suc n + c) (λ x. n + c) s t e (λ x. subst (λ z. Goes a b word pay (counted (λ y. 1)) R (n + c) s z) (sym (f x)) behind) (λ x. omega arith)
