-- Readers one after another: what a function of tokens answers that goes down a number of steps.
use Rattle.std.proofs.Common.{◌≡◌, ℕ, zero, suc, ◌+◌, ◌≤◌, Bool, true, if◌then◌else◌, List, [], ◌∷◌, Option, Some, None, refl, sym, ap, ◌∙◌, subst, arith}
use Rattle.cl_grammar.specs.declared.lexeme.Lexeme.{Lexeme}
use Rattle.cl_grammar.specs.declared.terminal.Terminal.{Terminal}

-- what goes on with what was read and the tokens that are left
pub and_then : {A B : Type 0} → Option (A × List Lexeme) → (A → List Lexeme → Option B) → Option B
and_then None f = None
and_then (Some p) f = f p.0 p.1

-- what goes on behind a token that must be there
pub past : {B : Type 0} → (Terminal → Bool) → List Lexeme → (Lexeme → List Lexeme → Option B) → Option B
past p [] f = None
past p (l ∷ ls) f = if p l.terminal then f l ls else None

module _ (Readers : Type 0) (readers : ℕ → Readers) where
  -- the answer with enough steps
  pub record Comes {A : Type 0} (m : Readers → Option A) (x : A) : Type 0 where
    pub count : ℕ
    pub is : (n : ℕ) → count ≤ n → m (readers n) ≡ Some x

  pub now : {A : Type 0} (x : A) → Comes (λ R. Some x) x
  now x = record { count = 0; is = λ n h. refl }

  pub on : {A B : Type 0} (m : Readers → Option (A × List Lexeme)) (g : Readers → A → List Lexeme → Option B) (x : A) (r : List Lexeme) (y : B)
      → Comes m (x, r) → Comes (λ R. g R x r) y → Comes (λ R. and_then (m R) (g R)) y
  unfolding and_then
  on m g x r y a b = record { count = a.count + b.count; is = λ n h. ap (λ z. and_then z (g (readers n))) (a.is n (omega arith)) ∙ b.is n (omega arith) }

  pub behind : {B : Type 0} (p : Terminal → Bool) (l : Lexeme) (ls : List Lexeme) (g : Readers → Lexeme → List Lexeme → Option B) (y : B)
      → p l.terminal ≡ true → Comes (λ R. g R l ls) y → Comes (λ R. past p (l ∷ ls) (g R)) y
  unfolding past
  behind p l ls g y e a = record { count = a.count; is = λ n h. ap (λ z. if z then g (readers n) l ls else None) e ∙ a.is n h }

  pub said : {A : Type 0} (m : Readers → Option (A × List Lexeme)) (x y : A) (r : List Lexeme) → x ≡ y → Comes m (y, r) → Comes m (x, r)
  said m x y r e a = subst (λ z. Comes m (z, r)) (sym e) a

  deeper : {A : Type 0} (m : Readers → Option A) (k : ℕ) (x : A) → ((n : ℕ) → k ≤ n → m (readers (suc n)) ≡ Some x) → (n : ℕ) → suc k ≤ n → m (readers n) ≡ Some x
  deeper m k x f zero h = absurd (omega (arith, h))
  deeper m k x f (suc n) h = f n (omega (arith, h))

  -- a step down
  pub down : {A : Type 0} (m k : Readers → Option A) (x : A) → ((n : ℕ) → m (readers (suc n)) ≡ k (readers n)) → Comes k x → Comes m x
  down m k x e a = record { count = suc a.count; is = deeper m a.count x (λ n h. e n ∙ a.is n h) }
