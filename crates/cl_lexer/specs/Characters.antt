-- Character literals (C99 6.4.4.4): one printable character or an escape, between quotes.
use Rattle.std.specs.Prelude.{ℕ, ◌+◌, ◌%◌, Bool, ◌==◌, ◌&&◌, not, nat_le, nat_lt, if◌then◌else◌, List, length, take, drop, Option, Some, None, slice_index, ℤ, pos, ◌-ℤ◌}
use Rattle.std.specs.Str.Parse.{digits_value}
use Rattle.cl_lexer.specs.declared.character.Spelled.{Spelled}
use Rattle.cl_lexer.specs.Numbers.{is_digit_of, digits_of}

-- Spelled: the byte that is spelled, and in how many bytes.

-- printable ASCII but the quote
abbrev pub is_plain : ℕ → Bool
is_plain b = nat_le 32 b && nat_le b 126 && not (b == 39)

-- the escapes by one character
abbrev pub letter_escape : ℕ → Option ℕ
letter_escape b =
    if b == 110 then Some 10
    else if b == 116 then Some 9
    else if b == 114 then Some 13
    else if b == 97 then Some 7
    else if b == 98 then Some 8
    else if b == 102 then Some 12
    else if b == 118 then Some 11
    else if b == 92 then Some 92
    else if b == 39 then Some 39
    else if b == 34 then Some 34
    else if b == 63 then Some 63
    else None

abbrev pub by_letter : Option ℕ → Option Spelled
by_letter (Some value) = Some (record { value = value; length = 2 })
by_letter None = None

-- one to three octal digits write a number, of which a char has the low byte
abbrev pub by_octal : List ℕ → Option Spelled
by_octal digits = Some (record { value = digits_value 8 digits % 256; length = 1 + length digits })

-- `x`, and one or two hexadecimal digits
abbrev pub by_hexadecimal : List ℕ → Option Spelled
by_hexadecimal digits = if length digits == 0 then None else Some (record { value = digits_value 16 digits; length = 2 + length digits })

-- the escape whose backslash has this byte behind it, at the front of the text
abbrev pub escape_of : ℕ → List ℕ → Option Spelled
escape_of b text =
    if is_digit_of 8 b then by_octal (digits_of 8 (take 3 (drop 1 text)))
    else if b == 120 then by_hexadecimal (digits_of 16 (take 2 (drop 2 text)))
    else by_letter (letter_escape b)

abbrev pub spelled_of : List ℕ → Option Spelled
spelled_of text =
    if slice_index text 0 == 92 then escape_of (slice_index text 1) text
    else if is_plain (slice_index text 0) then Some (record { value = slice_index text 0; length = 1 })
    else None

-- where the other quote follows
abbrev pub closed : List ℕ → Option Spelled → Option Spelled
closed text (Some s) = if slice_index text s.length == 39 then Some s else None
closed text None = None

-- the literal that a text ends behind its first quote
abbrev pub character_of : List ℕ → Option Spelled
character_of text = closed text (spelled_of text)

-- the byte as a char, which is signed
abbrev pub char_value : ℕ → ℤ
char_value b = if nat_lt b 128 then pos b else pos b -ℤ pos 256
