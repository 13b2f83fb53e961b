-- There is one least broken rule, at one word.
use Rattle.std.proofs.Common.{◌≡◌, ℕ, ◌<◌, List, refl, subst, ap, inl, inr}
use Rattle.std.proofs.lemmas.Bool.{cases_order}
use Rattle.std.specs.Prelude.{◌⊎◌}
use Rattle.spv_module.specs.declared.module.Inst.{Inst}
use Rattle.spv_types_rules.specs.Rules.{Breaks, IsIntact, first_word, IsBrokenAt, at_line, at_none, IsLeastBroken, OneLeastBroken}

module _ (body : List Inst) where
  not_intact : (n word : ℕ) → IsBrokenAt body n word → IsIntact body n → ⊥
  not_intact n _ (at_line i b f) h = h.lines i b
  not_intact n _ (at_none l f) h = h.whole l

  same_line : (n i j : ℕ) → Breaks body n i → ((k : ℕ) → k < i → Breaks body n k → ⊥) → Breaks body n j → ((k : ℕ) → k < j → Breaks body n k → ⊥) → ((i ≡ j) ⊎ ((i < j) ⊎ (j < i))) → i ≡ j
  same_line n i j b f c g (inl e) = e
  same_line n i j b f c g (inr (inl p)) = absurd (g i p b)
  same_line n i j b f c g (inr (inr p)) = absurd (f j p c)

  same_word : (n word other : ℕ) → IsBrokenAt body n word → IsBrokenAt body n other → word ≡ other
  same_word n _ _ (at_line i b f) (at_line j c g) = ap (first_word body) (same_line n i j b f c g (cases_order i j))
  same_word n _ _ (at_line i b f) (at_none l g) = absurd (g i b)
  same_word n _ _ (at_none l f) (at_line j c g) = absurd (f j c)
  same_word n _ _ (at_none l f) (at_none m g) = refl

  same_rule : (n m word other : ℕ) → IsLeastBroken body n word → IsLeastBroken body m other → ((n ≡ m) ⊎ ((n < m) ⊎ (m < n))) → n ≡ m
  same_rule n m word other p q (inl e) = e
  same_rule n m word other p q (inr (inl h)) = absurd (not_intact n word p.broken (q.least n h))
  same_rule n m word other p q (inr (inr h)) = absurd (not_intact m other q.broken (p.least m h))

pub one_least_broken : OneLeastBroken
one_least_broken body n m word other p q =
    let e : n ≡ m = same_rule body n m word other p q (cases_order n m) in
    (e, same_word body m word other (subst (λ (k : ℕ). IsBrokenAt body k word) e p.broken) q.broken)
