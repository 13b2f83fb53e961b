-- Numbers of w bits: patterns below 2 ^ w, and what the operations of OpenCL C (sections 6.2 and 6.3) make of them.
-- All is said of plain numbers, as in `add_of 32 a b`. An operation on signed numbers is said of their signed views in ℤ,
-- where int_div rounds toward zero and int_rem has the dividend's sign; `pos n` is n, and `negsuc n` is -(n + 1).
-- proofs/Laws.antt and proofs/Quotients.antt have what these definitions come to.
use Rattle.std.specs.Prelude.{ℕ, suc, ◌+◌, ◌-◌, ◌*◌, ◌/◌, ◌%◌, ◌^◌, ◌≡◌, ◌≢◌, Bool, ◌==◌, ◌||◌, nat_lt, if◌then◌else◌, ℤ, pos, negsuc, ◌-ℤ◌, neg_ℤ, int_div, int_rem}

-- A width is 8, 16, 32 or 64 bits.
abbrev pub is_width : ℕ → Bool
is_width w = (w == 8) || (w == 16) || (w == 32) || (w == 64)

-- ---- the two readings of a pattern

-- The signed view, in two's complement: 2 ^ w less where the high bit is set.
abbrev pub signed_of : ℕ → ℕ → ℤ
signed_of w n = if nat_lt n (2 ^ (w - 1)) then pos n else (pos n -ℤ pos (2 ^ w))

-- The pattern of an exact integer: what is left of it modulo 2 ^ w.
abbrev pub pattern_of : ℕ → ℤ → ℕ
pattern_of w (pos n) = n % 2 ^ w
pattern_of w (negsuc n) = 2 ^ w - suc (n % 2 ^ w)

-- ---- arithmetic: the exact result modulo 2 ^ w

abbrev pub add_of : ℕ → ℕ → ℕ → ℕ
add_of w a b = (a + b) % 2 ^ w

abbrev pub sub_of : ℕ → ℕ → ℕ → ℕ
sub_of w a b = pattern_of w (pos a -ℤ pos b)

abbrev pub mul_of : ℕ → ℕ → ℕ → ℕ
mul_of w a b = (a * b) % 2 ^ w

abbrev pub neg_of : ℕ → ℕ → ℕ
neg_of w n = pattern_of w (neg_ℤ (pos n))

-- ---- quotients and remainders, of unsigned and of signed numbers

abbrev pub udiv_of : ℕ → ℕ → ℕ → ℕ
udiv_of w a b = a / b

abbrev pub urem_of : ℕ → ℕ → ℕ → ℕ
urem_of w a b = a % b

abbrev pub sdiv_of : ℕ → ℕ → ℕ → ℕ
sdiv_of w a b = pattern_of w (int_div (signed_of w a) (signed_of w b))

abbrev pub srem_of : ℕ → ℕ → ℕ → ℕ
srem_of w a b = pattern_of w (int_rem (signed_of w a) (signed_of w b))

-- Not the least signed number, whose pattern is 2 ^ (w - 1), by -1, whose pattern is 2 ^ w - 1.
abbrev pub NotLeastByMinusOne : ℕ → ℕ → ℕ → Type 0
NotLeastByMinusOne w a b = b ≡ 2 ^ w - 1 → a ≢ 2 ^ (w - 1)

-- ---- bits and shifts; and, or and xor are bit_and, bit_or and bit_xor of std

abbrev pub not_of : ℕ → ℕ → ℕ
not_of w n = 2 ^ w - 1 - n

abbrev pub shl_of : ℕ → ℕ → ℕ → ℕ
shl_of w n by = (n * 2 ^ by) % 2 ^ w

abbrev pub lshr_of : ℕ → ℕ → ℕ → ℕ
lshr_of w n by = n / 2 ^ by

-- The greatest integer that is not above z / d, where d is not 0.
abbrev pub floor_of : ℤ → ℕ → ℤ
floor_of (pos n) d = pos (n / d)
floor_of (negsuc n) d = negsuc (n / d)

abbrev pub ashr_of : ℕ → ℕ → ℕ → ℕ
ashr_of w n by = pattern_of w (floor_of (signed_of w n) (2 ^ by))

-- ---- conversions

-- The number n of w bits, signed or not, as one of `to` bits: its value modulo 2 ^ to.
abbrev pub convert_of : ℕ → ℕ → Bool → ℕ → ℕ
convert_of w n signed to = pattern_of to (if signed then signed_of w n else pos n)
