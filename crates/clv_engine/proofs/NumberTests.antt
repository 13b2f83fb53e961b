-- Tests of numbers, and what they tell.
use Rattle.std.proofs.Common.{◌≡◌, ℕ, suc, ◌<◌, ◌≤◌, ◌⊎◌, inl, inr, true, false, nat_eq, nat_lt, arith}
use Rattle.std.proofs.lemmas.Bool.Decides.{eqb_tells, leb_tells}

pub other_number : (a b : ℕ) → (a ≡ b → ⊥) → nat_eq a b ≡ false
other_number a b h = elim (eqb_tells a b) [ inl p ↦ absurd (h p.1) | inr p ↦ p.0 ]

pub less_or_not : (a b : ℕ) → ((nat_lt a b ≡ true) × (a < b)) ⊎ ((nat_lt a b ≡ false) × (b ≤ a))
less_or_not a b = elim (leb_tells (suc a) b) [
  | inl p ↦ inl p
  | inr p ↦ inr (p.0, let h = p.1 in omega (arith, h))
]
