-- Whether operands are one alone.
use Rattle.std.proofs.Common.{◌≡◌, List, [], ◌∷◌, length, Bool, true, false, refl, sym, ap, ◌∙◌, arith}
use Rattle.std.specs.Prelude.{◌==◌}
use Rattle.std.proofs.lemmas.Bool.{eqb-true, eqb-false}
use Rattle.cl_ast.specs.declared.expression.Expr.{Expr}

empty_of : (xs : List Expr) → length xs ≡ 0 → xs ≡ []
empty_of [] h = refl
empty_of (x ∷ xs) h = absurd (omega (arith, h))

pub no_others : (xs ys : List Expr) (b : Bool) → xs ≡ ys → b ≡ (length xs == 0) → b ≡ true → ys ≡ []
no_others xs ys b z e h = empty_of ys (ap length (sym z) ∙ eqb-true (length xs) 0 (sym e ∙ h))

pub some_others : (xs ys : List Expr) (b : Bool) → xs ≡ ys → b ≡ (length xs == 0) → b ≡ false → ys ≡ [] → ⊥
some_others xs ys b z e h w = eqb-false (length xs) 0 (sym e ∙ h) (ap length (z ∙ w))
