-- What the built-in functions on integers make of one component (OpenCL C 1.2, 6.12.3, with `convert_R` of 6.2.3 and `select` of 6.12.6).
-- All is said of exact numbers: a pattern is read as one, as its type is signed or not; the result is exact; and its pattern is what is left of it
-- modulo 2 ^ w, or of the nearest number in range where the function saturates. Patterns are plain numbers, as in clv_num.
use Rattle.std.specs.Prelude.{ℕ, zero, suc, ◌+◌, ◌-◌, ◌*◌, ◌/◌, ◌%◌, ◌^◌, nat_eq, nat_lt, nat_le, not, ◌&&◌, Bool, true, false, if◌then◌else◌, List, [], ◌∷◌, length, map, ℤ, pos, neg_ℤ, ◌+ℤ◌, ◌-ℤ◌, ◌*ℤ◌, unsigned_abs, bit_or, count_ones, IsTrue}
use Rattle.std.specs.Int.{int_min, int_max}
use Rattle.std.specs.Int.Count.{count_leading_zeros}
use Rattle.std.specs.List.{list_all, list_any}
use Rattle.clv_num.specs.declared.Bits.{Bits}
use Rattle.clv_num.specs.Numbers.{is_width, signed_of, pattern_of, add_of, mul_of, shl_of, lshr_of, floor_of}
use Rattle.cl_types.specs.declared.builtin.Builtin.{Builtin}
use Rattle.cl_types.specs.declared.builtin.Builtin.TheVariants as builtin

-- ---- exact numbers

-- the number that a pattern of w bits stands for
abbrev pub number : ℕ → Bool → ℕ → ℤ
number w signed n = if signed then signed_of w n else pos n

-- the least and the greatest number of a type, and that of its numbers which is nearest to z
abbrev pub least_of : ℕ → Bool → ℤ
least_of w signed = if signed then neg_ℤ (pos (2 ^ (w - 1))) else pos 0

abbrev pub greatest_of : ℕ → Bool → ℤ
greatest_of w signed = if signed then pos (2 ^ (w - 1) - 1) else pos (2 ^ w - 1)

abbrev pub nearest_of : ℕ → Bool → ℤ → ℤ
nearest_of w signed z = int_min (int_max z (least_of w signed)) (greatest_of w signed)

abbrev pub saturated : ℕ → Bool → ℤ → ℕ
saturated w signed z = pattern_of w (nearest_of w signed z)

-- half of a number, rounded down
abbrev pub half_of : ℤ → ℤ
half_of z = floor_of z 2

-- the upper w bits of an exact product of 2 * w bits
abbrev pub high_half : ℕ → ℤ → ℕ
high_half w z = pattern_of w (floor_of z (2 ^ w))

-- ---- patterns

-- moved up by so many places modulo w; what goes out at the top comes in below
abbrev pub rotated : ℕ → ℕ → ℕ → ℕ
rotated w n by = bit_or (shl_of w n (by % w)) (lshr_of w n (w - by % w))

abbrev pub high_bit : ℕ → ℕ → Bool
high_bit w n = nat_le (2 ^ (w - 1)) n

-- a scalar chooses where it is not 0, a component of a vector by its high bit
abbrev pub chooses : Bool → ℕ → ℕ → Bool
chooses vector w n = if vector then high_bit w n else not (nat_eq n 0)

-- ---- the functions

-- How many arguments a function takes; none where it has no value of one component.
abbrev pub count_of : Builtin → ℕ
count_of builtin.Abs = 1
count_of builtin.AbsDiff = 2
count_of builtin.AddSat = 2
count_of builtin.SubSat = 2
count_of builtin.MadSat = 3
count_of builtin.Hadd = 2
count_of builtin.Rhadd = 2
count_of builtin.Min = 2
count_of builtin.Max = 2
count_of builtin.Clamp = 3
count_of builtin.Clz = 1
count_of builtin.Popcount = 1
count_of builtin.MulHi = 2
count_of builtin.MadHi = 3
count_of builtin.Mul24 = 2
count_of builtin.Mad24 = 3
count_of builtin.Rotate = 2
count_of builtin.Upsample = 2
count_of (builtin.Convert bits to_signed sat) = 1
count_of (builtin.Select vector) = 3
count_of _ = 0

-- Which widths it takes; `convert_R` takes each, where R has one.
abbrev pub takes_width : Builtin → ℕ → Bool
takes_width builtin.Mul24 w = nat_eq w 32
takes_width builtin.Mad24 w = nat_eq w 32
takes_width builtin.Upsample w = nat_lt w 64
takes_width (builtin.Convert bits to_signed sat) w = is_width bits
takes_width _ w = true

-- as many arguments, all of one width that it takes
abbrev pub takes_widths : Builtin → List ℕ → Bool
takes_widths b [] = false
takes_widths b (w ∷ ws) = nat_eq (suc (length ws)) (count_of b) && list_all (nat_eq w) ws && takes_width b w

-- How many bits the value of arguments of w bits has.
abbrev pub width_of : Builtin → ℕ → ℕ
width_of (builtin.Convert bits to_signed sat) w = bits
width_of builtin.Upsample w = 2 * w
width_of _ w = w

-- The pattern of the value, of patterns of w bits that are signed or not; `select` does not care. `clamp` is this also where its limits cross, and
-- `mul24` and `mad24` also where a factor has more than 24 bits.
abbrev pub value_of : Builtin → ℕ → Bool → List ℕ → ℕ
value_of builtin.Abs w signed (x ∷ []) = pattern_of w (pos (unsigned_abs (number w signed x)))
value_of builtin.AbsDiff w signed (x ∷ y ∷ []) = pattern_of w (pos (unsigned_abs (number w signed x -ℤ number w signed y)))
value_of builtin.AddSat w signed (x ∷ y ∷ []) = saturated w signed (number w signed x +ℤ number w signed y)
value_of builtin.SubSat w signed (x ∷ y ∷ []) = saturated w signed (number w signed x -ℤ number w signed y)
value_of builtin.MadSat w signed (x ∷ y ∷ z ∷ []) = saturated w signed (number w signed x *ℤ number w signed y +ℤ number w signed z)
value_of builtin.Hadd w signed (x ∷ y ∷ []) = pattern_of w (half_of (number w signed x +ℤ number w signed y))
value_of builtin.Rhadd w signed (x ∷ y ∷ []) = pattern_of w (half_of (number w signed x +ℤ number w signed y +ℤ pos 1))
value_of builtin.Min w signed (x ∷ y ∷ []) = pattern_of w (int_min (number w signed x) (number w signed y))
value_of builtin.Max w signed (x ∷ y ∷ []) = pattern_of w (int_max (number w signed x) (number w signed y))
value_of builtin.Clamp w signed (x ∷ low ∷ high ∷ []) = pattern_of w (int_min (int_max (number w signed x) (number w signed low)) (number w signed high))
value_of builtin.Clz w signed (x ∷ []) = count_leading_zeros w x
value_of builtin.Popcount w signed (x ∷ []) = count_ones x
value_of builtin.MulHi w signed (x ∷ y ∷ []) = high_half w (number w signed x *ℤ number w signed y)
value_of builtin.MadHi w signed (x ∷ y ∷ z ∷ []) = add_of w (high_half w (number w signed x *ℤ number w signed y)) z
value_of builtin.Mul24 w signed (x ∷ y ∷ []) = mul_of w x y
value_of builtin.Mad24 w signed (x ∷ y ∷ z ∷ []) = add_of w (mul_of w x y) z
value_of builtin.Rotate w signed (x ∷ by ∷ []) = rotated w x by
value_of builtin.Upsample w signed (high ∷ low ∷ []) = high * 2 ^ w + low
value_of (builtin.Convert bits to_signed sat) w signed (x ∷ []) = if sat then saturated bits to_signed (number w signed x) else pattern_of bits (number w signed x)
value_of (builtin.Select vector) w signed (x ∷ y ∷ by ∷ []) = if chooses vector w by then y else x
value_of _ w signed _ = 0

-- ---- the arguments of the call

abbrev pub widths : List Bits → List ℕ
widths args = map (λ a. a.width) args

abbrev pub patterns : List Bits → List ℕ
patterns args = map (λ a. a.value) args

-- the width of the first, which is that of all
abbrev pub width_in : List Bits → ℕ
width_in [] = 0
width_in (a ∷ args) = a.width

abbrev pub TakesWidths : Builtin → List Bits → Type 0
TakesWidths b args = IsTrue (takes_widths b (widths args))

-- ---- functions of whole values: each takes the patterns of all components of w bits, the first one lowest

-- the bits of components in one number, and a number's bits in so many components
abbrev pub joined : ℕ → List ℕ → ℕ
joined w [] = 0
joined w (n ∷ ns) = n + 2 ^ w * joined w ns

abbrev pub parted : ℕ → ℕ → ℕ → List ℕ
parted w zero n = []
parted w (suc count) n = n % 2 ^ w ∷ parted w count (n / 2 ^ w)

-- `as_R`, where R has so many components of `to` bits (6.2.4.2)
abbrev pub reread_of : ℕ → ℕ → ℕ → List ℕ → List ℕ
reread_of w to count ns = parted to count (joined w ns)

-- `any` and `all` (6.12.6)
abbrev pub any_of : ℕ → List ℕ → ℕ
any_of w ns = if list_any (high_bit w) ns then 1 else 0

abbrev pub all_of : ℕ → List ℕ → ℕ
all_of w ns = if list_all (high_bit w) ns then 1 else 0
