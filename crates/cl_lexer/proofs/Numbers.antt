-- The number that digits write, one digit later.
use Rattle.std.proofs.Common.{◌≡◌, ℕ, Bool, true, false, [], ◌∷◌, ◌+◌, ◌-◌, ◌*◌, ◌^◌, ◌<◌, ◌≤◌, Some, None, List, length, take, get_or, cond, refl, sym, ap, subst, ◌∙◌, arith, le_trans, length-take}
use Rattle.std.specs.Prelude.{nat_lt, if◌then◌else◌, take_while}
use Rattle.std.specs.Char.{digit_value}
use Rattle.std.specs.Str.Parse.{digits_value, AllDigits}
use Rattle.cl_lexer.specs.Numbers.{digits_of, is_digit_of}
use Rattle.std.proofs.lemmas.Bool.{lt-ltb, le-ltb, ltb-true}
use Rattle.std.proofs.lemmas.Int.Digits.{digits_value_more, digits_value-lt}
use Rattle.std.proofs.lemmas.List.Sums.{take_while-cons}
use Rattle.std.proofs.lemmas.Grind.{common_steps}
use Rattle.std.proofs.Math.Nat.{pow-le-pow_right}
use Rattle.std.proofs.lemmas.List.{take_all}
use Rattle.std.proofs.lemmas.Str.Parse.{digits_value-take-le}

pub value_more : (radix : ℕ) (ds : List ℕ) (i v m : ℕ) → i < length ds → digits_value radix (take i ds) ≡ v → m ≡ v * radix + digit_value (get_or ds i 0) → digits_value radix (take (i + 1) ds) ≡ m
value_more radix ds i v m within so_far e = digits_value_more radix ds i within ∙ ap (λ n. n * radix + digit_value (get_or ds i 0)) so_far ∙ sym e

chosen_small : (v w : ℕ) → w ≡ v → v < 2 ^ 64 → Some v ≡ (if nat_lt w (2 ^ 64) then Some w else None)
chosen_small v w e small =
    let test : nat_lt w (2 ^ 64) ≡ true = lt-ltb w (2 ^ 64) (omega (arith, e, small)) in
    rw test (ap Some (sym e))

chosen_large : (w : ℕ) → 2 ^ 64 ≤ w → None ≡ (if nat_lt w (2 ^ 64) then Some w else None)
chosen_large w large = rw (le-ltb w (2 ^ 64) large) refl

pub value_all : (radix : ℕ) (ds : List ℕ) (i v : ℕ) → length ds ≤ i → digits_value radix (take i ds) ≡ v → v < 2 ^ 64 → Some v ≡ (if nat_lt (digits_value radix ds) (2 ^ 64) then Some (digits_value radix ds) else None)
value_all radix ds i v past so_far small = chosen_small v (digits_value radix ds) (sym (ap (digits_value radix) (take_all i ds past)) ∙ so_far) small

pub value_too_large : (radix : ℕ) (ds : List ℕ) (i v m : ℕ) → 2 ≤ radix → i < length ds → digits_value radix (take i ds) ≡ v → m ≡ v * radix + digit_value (get_or ds i 0) → 2 ^ 64 - 1 < m → None ≡ (if nat_lt (digits_value radix ds) (2 ^ 64) then Some (digits_value radix ds) else None)
value_too_large radix ds i v m radix_is within so_far e large =
    let more = value_more radix ds i v m within so_far e in
    let less = digits_value-take-le radix ds (i + 1) (omega arith) in
    chosen_large (digits_value radix ds) (omega (arith, more, less))

all_digits_cons : (radix x : ℕ) (xs : List ℕ) (t : Bool) → is_digit_of radix x ≡ t → AllDigits radix (digits_of radix xs) → AllDigits radix (digits_of radix (x ∷ xs))
all_digits_cons radix x xs true e rest = subst (AllDigits radix) (sym (take_while-cons (is_digit_of radix) x xs ∙ ap (λ b. cond b (x ∷ digits_of radix xs) []) e)) (ltb-true (digit_value x) radix e, rest)
all_digits_cons radix x xs false e rest = subst (AllDigits radix) (sym (take_while-cons (is_digit_of radix) x xs ∙ ap (λ b. cond b (x ∷ digits_of radix xs) []) e)) tt

all_digits : (radix : ℕ) (xs : List ℕ) → AllDigits radix (digits_of radix xs)
all_digits radix [] = tt
all_digits radix (x ∷ xs) = all_digits_cons radix x xs (is_digit_of radix x) refl (all_digits radix xs)

length-prefix : (p : ℕ → Bool) (xs : List ℕ) → length (take_while p xs) ≤ length xs
length-prefix p [] = omega arith
length-prefix p (x ∷ xs) = grind (arith, common_steps, length-prefix p xs, take_while-cons p x xs)

few_digits : (radix most : ℕ) (xs : List ℕ) → length (digits_of radix (take most xs)) ≤ most
few_digits radix most xs = le_trans (length-prefix (is_digit_of radix) (take most xs)) (omega (arith, length-take most xs))

pub octal_small : (ds xs : List ℕ) → ds ≡ digits_of 8 (take 3 xs) → digits_value 8 ds < 2 ^ 64
octal_small ds xs e =
    let digits : AllDigits 8 ds = subst (AllDigits 8) (sym e) (all_digits 8 (take 3 xs)) in
    let few : length ds ≤ 3 = subst (λ d. length d ≤ 3) (sym e) (few_digits 8 3 xs) in
    let below = digits_value-lt 8 ds digits in
    let bound : 8 ^ length ds ≤ 8 ^ 3 = pow-le-pow_right (omega arith) few in
    omega (arith, below, bound)

pub hexadecimal_small : (ds xs : List ℕ) → ds ≡ digits_of 16 (take 2 xs) → digits_value 16 ds < 256
hexadecimal_small ds xs e =
    let digits : AllDigits 16 ds = subst (AllDigits 16) (sym e) (all_digits 16 (take 2 xs)) in
    let few : length ds ≤ 2 = subst (λ d. length d ≤ 2) (sym e) (few_digits 16 2 xs) in
    let below = digits_value-lt 16 ds digits in
    let bound : 16 ^ length ds ≤ 16 ^ 2 = pow-le-pow_right (omega arith) few in
    omega (arith, below, bound)

pub ruleset values = (value_more, value_all, value_too_large)
