-- One choice for all moments.
use Rattle.std.proofs.Common.{ℕ, inl, inr, List, ap, ◌∙◌, subst, arith}
use Rattle.clv_steps.specs.Machines.{Machine, IsLegal}
use Rattle.clv_steps.specs.Runs.{Meter, counted, valued, Keeps, Serves, Follows, Simulates}
use Rattle.clv_steps.proofs.Append.{legal_front, paid_length, paid_times}
use Rattle.clv_steps.proofs.Compose.{grows_all, composed}

-- each move of the target is a step
serves : {S T E F : Type 0} (a : Machine S E) (b : Machine T F) (word : E → F) (weight : S → ℕ) (worth : ℕ) (s : S) (t : T) (g h : List ℕ) → Keeps a b word (valued weight worth) (counted (λ z. 1)) s t g h → Serves a b word weight worth s t g h
serves a b word weight worth s t g h k =
    let steps = paid_times a weight worth g s in
    let moved = paid_length b h t in
    record {
      asked = k.asked;
      stands = k.stands;
      bound = let z = k.bound in omega (arith, z, steps, moved);
      ended = λ e. let z = k.ended e in omega (arith, z, steps, moved);
    }

pub moments : {S T E F : Type 0} (a : Machine S E) (b : Machine T F) (word : E → F) (weight : S → ℕ) (worth : ℕ) (s : S) (t : T) → Follows a b word (valued weight worth) (counted (λ z. 1)) s t → Simulates a b word weight worth s t
moments a b word weight worth s t f h legal = record {
  choice = f.choose h;
  legal = f.legal h legal;
  each = λ front back e.
      let all = grows_all a b word (valued weight worth) (counted (λ z. 1)) s t f back front in
      let ok = legal_front b front back t (subst (λ l. IsLegal b l t) e legal) in (
        f.choose front,
        all.0,
        ap f.choose e ∙ all.1,
        elim (f.serves front ok) [
          | inl w ↦ inl w
          | inr k ↦ inr (serves a b word weight worth s t (f.choose front) front k)
        ],
      );
}

-- The same by way of a machine between: the source's steps pay for what its moves cost, and these for the target's moves.
pub moments_by : {S T U E F G : Type 0} (a : Machine S E) (b : Machine T F) (c : Machine U G) (word : E → F) (word2 : F → G) (weight : S → ℕ) (worth : ℕ) (mid : Meter T) (s : S) (t : T) (u : U) → Follows a b word (valued weight worth) mid s t → Follows b c word2 mid (counted (λ z. 1)) t u → Simulates a c (λ e. word2 (word e)) weight worth s u
moments_by a b c word word2 weight worth mid s t u f f2 = moments a c (λ e. word2 (word e)) weight worth s u (composed a b c word word2 (valued weight worth) mid (counted (λ z. 1)) s t u f f2)
