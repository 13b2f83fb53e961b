-- What a byte may be.
use Rattle.std.specs.Prelude.{ℕ, Bool, ◌&&◌, ◌||◌, ◌==◌, not, nat_le}
use Rattle.std.specs.Char.{is_ascii_digit}

-- a letter or `_`
abbrev pub is_letter : ℕ → Bool
is_letter b = (nat_le 97 b && nat_le b 122) || (nat_le 65 b && nat_le b 90) || (b == 95)

abbrev pub is_word : ℕ → Bool
is_word b = is_letter b || is_ascii_digit b

-- what may follow the first digit of a number
abbrev pub is_number_part : ℕ → Bool
is_number_part b = is_word b || (b == 46)

-- space, tab, CR and form feed; an LF separates too, and ends a line
abbrev pub is_separator : ℕ → Bool
is_separator b = (b == 32) || (b == 9) || (b == 13) || (b == 12)

abbrev pub is_on_line : ℕ → Bool
is_on_line b = not (b == 10)
