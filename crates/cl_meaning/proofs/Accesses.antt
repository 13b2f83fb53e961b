-- What is accessed: the greatest of the components that are selected.
use Rattle.std.proofs.Common.{◌≡◌, ℕ, ◌+◌, ◌<◌, ◌≤◌, List, length, get_or, drop, ap, arith}
use Rattle.std.specs.Prelude.{max}
use Rattle.std.proofs.lemmas.List.{drop_more, drop_all}
use Rattle.cl_meaning.specs.Effects.{greatest}

-- the greatest so far, and of what is left
pub record GreatestTo (ns : List ℕ) (i best : ℕ) : Type 0 where
  pub rest : max best (greatest (drop i ns)) ≡ greatest ns

pub greatest_begin : (ns : List ℕ) → GreatestTo ns 0 0
greatest_begin ns = record { rest = omega arith }

pub greatest_more : (ns : List ℕ) (i best n new : ℕ) → GreatestTo ns i best → i < length ns → n ≡ get_or ns i 0 → new ≡ max best n → GreatestTo ns (i + 1) new
greatest_more ns i best n new to h e is = record {
  rest =
      let left : greatest (drop i ns) ≡ max (get_or ns i 0) (greatest (drop (i + 1) ns)) = ap greatest (drop_more ns i 0 h) in
      omega (arith, left, to.rest);
}

pub greatest_end : (ns : List ℕ) (i best : ℕ) → GreatestTo ns i best → length ns ≤ i → best ≡ greatest ns
greatest_end ns i best to h =
    let left : greatest (drop i ns) ≡ 0 = ap greatest (drop_all i ns h) in
    omega (arith, left, to.rest)

pub ruleset greatest_of = (greatest_begin, greatest_more, greatest_end)
