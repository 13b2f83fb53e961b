-- Numbers: decimal, octal and hexadecimal, with suffixes (C99 6.4.4.1), at the widths of OpenCL C.
use Rattle.std.specs.Prelude.{ℕ, ◌^◌, Bool, true, false, ◌&&◌, ◌||◌, ◌==◌, nat_lt, if◌then◌else◌, List, [], ◌∷◌, length, take_while, drop, find, Option, Some, None, slice_index}
use Rattle.std.specs.Char.{is_digit}
use Rattle.std.specs.Str.Parse.{digits_value}
use Rattle.cl_lexer.specs.declared.number.Suffix.{Suffix}
use Rattle.cl_lexer.specs.declared.number.Number.{Number}

-- `0x` begins a hexadecimal number, another `0` an octal one
abbrev pub is_hexadecimal : List ℕ → Bool
is_hexadecimal word = (slice_index word 0 == 48) && ((slice_index word 1 == 120) || (slice_index word 1 == 88))

abbrev pub radix_of : List ℕ → ℕ
radix_of word = if is_hexadecimal word then 16 else if slice_index word 0 == 48 then 8 else 10

-- without `0x`
abbrev pub body_of : List ℕ → List ℕ
body_of word = if is_hexadecimal word then drop 2 word else word

abbrev pub is_digit_of : ℕ → ℕ → Bool
is_digit_of radix b = is_digit b radix

abbrev pub digits_of : ℕ → List ℕ → List ℕ
digits_of radix body = take_while (is_digit_of radix) body

-- `u` and `l` in either case and order, each at most once
abbrev pub is_u : ℕ → Bool
is_u b = (b == 117) || (b == 85)

abbrev pub is_l : ℕ → Bool
is_l b = (b == 108) || (b == 76)

abbrev pub suffix_of : List ℕ → Option Suffix
suffix_of [] = Some (record { unsigned = false; long = false })
suffix_of (a ∷ []) =
    if is_u a then Some (record { unsigned = true; long = false })
    else if is_l a then Some (record { unsigned = false; long = true })
    else None
suffix_of (a ∷ b ∷ []) = if (is_u a && is_l b) || (is_l a && is_u b) then Some (record { unsigned = true; long = true }) else None
suffix_of (a ∷ b ∷ c ∷ rest) = None

-- the types that a number may have, in order; 0 is int, 1 uint, 2 long and 3 ulong
abbrev pub types_of : ℕ → Bool → Bool → List ℕ
types_of radix false false = if radix == 10 then 0 ∷ 2 ∷ [] else 0 ∷ 1 ∷ 2 ∷ 3 ∷ []
types_of radix false true = if radix == 10 then 2 ∷ [] else 2 ∷ 3 ∷ []
types_of radix true false = 1 ∷ 3 ∷ []
types_of radix true true = 3 ∷ []

-- whether a type holds a value
abbrev pub holds : ℕ → ℕ → Bool
holds value ty = nat_lt value (if ty == 0 then 2 ^ 31 else if ty == 1 then 2 ^ 32 else if ty == 2 then 2 ^ 63 else 2 ^ 64)

-- the first type that holds the value
abbrev pub type_of : ℕ → Suffix → ℕ → Option ℕ
type_of radix suffix value = find (holds value) (types_of radix suffix.unsigned suffix.long)

abbrev pub typed : ℕ → Option ℕ → Option Number
typed value (Some ty) = Some (record { value = value; ty = ty })
typed value None = None

abbrev pub suffixed : ℕ → ℕ → Option Suffix → Option Number
suffixed radix value (Some suffix) = typed value (type_of radix suffix value)
suffixed radix value None = None

-- one digit or more, and a suffix
abbrev pub number_in : ℕ → List ℕ → Option Number
number_in radix body =
    if length (digits_of radix body) == 0 then None
    else suffixed radix (digits_value radix (digits_of radix body)) (suffix_of (drop (length (digits_of radix body)) body))

-- the number that a whole word writes, if it is well formed and has a type
abbrev pub number_of : List ℕ → Option Number
number_of word = number_in (radix_of word) (body_of word)
