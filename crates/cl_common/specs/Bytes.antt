-- The bytes of an object, each set or unset, and the numbers that stand there, the lowest byte first (C99, 6.2.6.1; OpenCL C 1.2, 6.1.5).
use Rattle.std.specs.Prelude.{ℕ, zero, suc, ◌+◌, ◌*◌, ◌/◌, ◌%◌, nat_eq, if◌then◌else◌, Option, Some, None}

-- by their offsets; None is a byte that was never set, or lies outside
abbrev pub Bytes : Type 0
Bytes = ℕ → Option ℕ

abbrev pub no_bytes : Bytes
no_bytes at = None

abbrev pub with_low : Option ℕ → Option ℕ → Option ℕ
with_low (Some low) (Some high) = Some (low + 256 * high)
with_low _ _ = None

-- the number of so many bytes; None where one of them isn't set
abbrev pub number_at : Bytes → ℕ → ℕ → Option ℕ
number_at bytes at zero = Some 0
number_at bytes at (suc count) = with_low (bytes at) (number_at bytes (suc at) count)

abbrev pub with_byte : ℕ → ℕ → Bytes → Bytes
with_byte at b bytes o = if nat_eq o at then Some b else bytes o

abbrev pub with_number : ℕ → ℕ → ℕ → Bytes → Bytes
with_number at zero n bytes = bytes
with_number at (suc count) n bytes = with_byte at (n % 256) (with_number (suc at) count (n / 256) bytes)
