-- Three numbers above 0 with a product of at most 1,024.
use Rattle.std.proofs.Common.{◌≡◌, ℕ, ◌*◌, ◌<◌, ◌≤◌, nat_le, Bool, true, false, if◌then◌else◌, List, [], ◌∷◌, Some, None, sym, ap, arith}
use Rattle.std.proofs.lemmas.Bool.{le-leb, lt-leb}
use Rattle.std.proofs.lemmas.Nat.{mul-le}
use Rattle.cl_typing.specs.Units.{size_in}

-- no factor is above the product
first_below : (x y z : ℕ) → 0 < y → 0 < z → x ≤ x * y * z
first_below x y z p q = omega (arith, mul-le (x * 1) 1 (x * y) z (mul-le x 1 x y (omega arith) (omega arith)) (omega arith))

second_below : (x y z : ℕ) → 0 < x → 0 < z → y ≤ x * y * z
second_below x y z p q = omega (arith, mul-le (1 * y) 1 (x * y) z (mul-le 1 y x y (omega arith) (omega arith)) (omega arith))

third_below : (x y z : ℕ) → 0 < x → 0 < y → z ≤ x * y * z
third_below x y z p q = omega (arith, mul-le 1 z (x * y) z (mul-le 1 1 x y (omega arith) (omega arith)) (omega arith))

by_test : (b c : Bool) (ns : List ℕ) → b ≡ c → (if b then Some ns else None) ≡ (if c then Some ns else None)
by_test b c ns e = ap (λ t. if t then Some ns else None) e

pub size_over : (x y z : ℕ) → 1024 < x * y * z → None ≡ size_in (Some x ∷ Some y ∷ Some z ∷ [])
size_over x y z h = sym (by_test (nat_le (x * y * z) 1024) false (x ∷ y ∷ z ∷ []) (lt-leb (x * y * z) 1024 h))

pub size_fits : (x y z : ℕ) → x * y * z ≤ 1024 → Some (x ∷ y ∷ z ∷ []) ≡ size_in (Some x ∷ Some y ∷ Some z ∷ [])
size_fits x y z h = sym (by_test (nat_le (x * y * z) 1024) true (x ∷ y ∷ z ∷ []) (le-leb (x * y * z) 1024 h))

pub first_over : (x y z : ℕ) → 1024 < x → 0 < y → 0 < z → 1024 < x * y * z
first_over x y z h p q = omega (arith, first_below x y z p q)

pub second_over : (x y z : ℕ) → 1024 < y → 0 < x → 0 < z → 1024 < x * y * z
second_over x y z h p q = omega (arith, second_below x y z p q)

pub third_over : (x y z : ℕ) → 1024 < z → 0 < x → 0 < y → 1024 < x * y * z
third_over x y z h p q = omega (arith, third_below x y z p q)

pub products_low : (x y z : ℕ) → x ≤ 1024 → y ≤ 1024 → z ≤ 1024 → x * y * z ≤ 1073741824
products_low x y z h k l = mul-le (x * y) z 1048576 1024 (mul-le x y 1024 1024 h k) l

pub two_low : (x y : ℕ) → x ≤ 1024 → y ≤ 1024 → x * y ≤ 1048576
two_low x y h k = mul-le x y 1024 1024 h k

pub ruleset products = (size_over, size_fits, first_over, second_over, third_over, products_low, two_low)
