-- Names beside none.
use Rattle.std.proofs.Common.{◌≡◌, List, [], ◌∷◌, ◌++◌, length, refl, sym, ap, ◌∙◌, arith}
use Rattle.cl_macro.specs.Names.{Name, without, joined}

without_none : (ns : List Name) → without [] ns ≡ ns
without_none [] = refl
without_none (n ∷ ns) = ap (λ l. n ∷ l) (without_none ns)

pub joined_none : (n ms ns : List Name) → length ms ≡ 0 → n ≡ ns → n ≡ joined ms ns
joined_none n [] ns e is = is ∙ sym (without_none ns)
joined_none n (m ∷ ms) ns e is = absurd (omega (arith, e))

pub ruleset joinings = (joined_none)
