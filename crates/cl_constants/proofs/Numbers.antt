-- Quotients and remainders that have a pattern.
use Rattle.std.proofs.Common.{◌≡◌, ℕ, ◌-◌, ◌^◌, Bool, true, false, ◌&&◌, ◌||◌, refl, sym, ap, ◌∙◌, subst, true≢false, eq-eqb}
use Rattle.std.specs.Prelude.{nat_eq, IsTrue}
use Rattle.std.specs.Cmp.{first_so, second_so}
use Rattle.std.proofs.lemmas.Bool.{eqb-true}
use Rattle.clv_num.specs.Numbers.{is_width, srem_of, NotLeastByMinusOne}
use Rattle.cl_tree.specs.Constants.{is_least}

pub not_least : (w a b : ℕ) (r : Bool) → r ≡ is_least w a b → r ≡ false → NotLeastByMinusOne w a b
not_least w a b r is isnt minus_one least =
    let it_is : is_least w a b ≡ true = (λ i. eq-eqb a (2 ^ (w - 1)) least i && eq-eqb b (2 ^ w - 1) minus_one i) in
    true≢false (sym it_is ∙ sym is ∙ isnt)

abbrev NoneLeft : ℕ → Type 0
NoneLeft w = 0 ≡ srem_of w (2 ^ (w - 1)) (2 ^ w - 1)

none_left : (w : ℕ) → is_width w ≡ true → NoneLeft w
none_left w h = by (nat_eq w 8) (nat_eq w 16) (nat_eq w 32) (nat_eq w 64) refl refl refl refl h
  where
    by : (a b c d : Bool) → nat_eq w 8 ≡ a → nat_eq w 16 ≡ b → nat_eq w 32 ≡ c → nat_eq w 64 ≡ d → (a || b || c || d) ≡ true → NoneLeft w
    by true b c d p q r s h = subst NoneLeft (sym (eqb-true w 8 p)) refl
    by false true c d p q r s h = subst NoneLeft (sym (eqb-true w 16 q)) refl
    by false false true d p q r s h = subst NoneLeft (sym (eqb-true w 32 r)) refl
    by false false false true p q r s h = subst NoneLeft (sym (eqb-true w 64 s)) refl
    by false false false false p q r s h = absurd (true≢false (sym h))

pub least_remainder : (w a b : ℕ) (r : Bool) → IsTrue (is_width w) → r ≡ is_least w a b → r ≡ true → 0 ≡ srem_of w a b
least_remainder w a b r h is it_is =
    let l : is_least w a b ≡ true = sym is ∙ it_is in
    let first : a ≡ 2 ^ (w - 1) = eqb-true a (2 ^ (w - 1)) (first_so (nat_eq a (2 ^ (w - 1))) (nat_eq b (2 ^ w - 1)) l) in
    let second : b ≡ 2 ^ w - 1 = eqb-true b (2 ^ w - 1) (second_so (nat_eq a (2 ^ (w - 1))) (nat_eq b (2 ^ w - 1)) l) in
    none_left w h ∙ sym (ap (λ z. srem_of w z (2 ^ w - 1)) first) ∙ sym (ap (srem_of w a) second)

pub ruleset quotients = (not_least, least_remainder)
