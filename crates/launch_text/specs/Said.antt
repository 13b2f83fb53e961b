-- What one line says, or the least of the rules L1 to L6 that it breaks by itself.
--     L1 a byte other than printable ASCII, tab, or a CR at the end of a line
--     L2 an unknown first word
--     L3 other words than that line has
--     L4 a number that isn't decimal digits, or is too large
--     L5 hex that isn't an even number of hexadecimal digits, in either case
--     L6 a zero where a size, a turn or a count is wanted
use Rattle.std.specs.Prelude.{ℕ, ◌-◌, ◌^◌, Bool, false, ◌||◌, ◌&&◌, ◌==◌, nat_le, if◌then◌else◌, List, [], ◌∷◌, Option, Some, None, Result, Ok, Err, codes}
use Rattle.std.specs.Char.{is_ascii_digit}
use Rattle.std.specs.List.{list_all}
use Rattle.std.specs.Str.{bytes_eq}
use Rattle.std.specs.Str.Lines.{strip_carriage_return}
use Rattle.std.specs.Str.Parse.{digits_value}
use Rattle.hex.specs.Hex.{decode_of}
use Rattle.hex.specs.declared.error.FromHexError.{FromHexError}
use Rattle.launch_text.specs.declared.launch.Schedule.TheVariants.{Robin, Mixed}
use Rattle.launch_text.specs.declared.said.Given.TheVariants as given
use Rattle.launch_text.specs.declared.said.Grid.{Grid}
use Rattle.launch_text.specs.declared.said.Said.{Said}
use Rattle.launch_text.specs.declared.said.Said.TheVariants as said
use Rattle.launch_text.specs.Lines.{words_of}

-- what may stand in a line before the CR that may end it
abbrev pub is_text : ℕ → Bool
is_text b = (nat_le 32 b && nat_le b 126) || (b == 9)

-- the number that decimal digits write, up to a greatest one; leading zeros are allowed
abbrev pub number_of : ℕ → List ℕ → Option ℕ
number_of most word = if list_all is_ascii_digit word && nat_le (digits_value 10 word) most then Some (digits_value 10 word) else None

abbrev pub number32_of : List ℕ → Option ℕ
number32_of = number_of (2 ^ 32 - 1)

abbrev pub grid_of : ℕ → Option ℕ → Option ℕ → Option ℕ → Result Grid ℕ
grid_of dims (Some x) (Some y) (Some z) = if (x == 0) || (y == 0) || (z == 0) then Err 6 else Ok (record { dims = dims; sizes = x ∷ y ∷ z ∷ [] })
grid_of dims _ _ _ = Err 4

-- `X [Y [Z]]`: a size that is not given is 1
abbrev pub sizes_said : List (List ℕ) → Result Grid ℕ
sizes_said (x ∷ []) = grid_of 1 (number32_of x) (Some 1) (Some 1)
sizes_said (x ∷ y ∷ []) = grid_of 2 (number32_of x) (number32_of y) (Some 1)
sizes_said (x ∷ y ∷ z ∷ []) = grid_of 3 (number32_of x) (number32_of y) (number32_of z)
sizes_said _ = Err 3

abbrev pub global_said : Result Grid ℕ → Result Said ℕ
global_said (Ok grid) = Ok (said.Global grid)
global_said (Err rule) = Err rule

abbrev pub local_said : Result Grid ℕ → Result Said ℕ
local_said (Ok grid) = Ok (said.Local grid)
local_said (Err rule) = Err rule

-- `NAME`
abbrev pub kernel_said : List (List ℕ) → Result Said ℕ
kernel_said (name ∷ []) = Ok (said.Kernel name)
kernel_said _ = Err 3

-- `N buffer FILE`, `N local BYTES` and `N plain HEX`
abbrev pub buffer_given : Option ℕ → List ℕ → Result Said ℕ
buffer_given (Some n) file = Ok (said.Argument n (given.Buffer file))
buffer_given None file = Err 4

abbrev pub local_given : Option ℕ → Option ℕ → Result Said ℕ
local_given (Some n) (Some bytes) = if bytes == 0 then Err 6 else Ok (said.Argument n (given.Local bytes))
local_given _ _ = Err 4

abbrev pub plain_given : Option ℕ → Result (List ℕ) FromHexError → Result Said ℕ
plain_given (Some n) (Ok bytes) = Ok (said.Argument n (given.Plain bytes))
plain_given (Some n) (Err e) = Err 5
plain_given None _ = Err 4

abbrev pub given_said : Option ℕ → List ℕ → List ℕ → Result Said ℕ
given_said n kind value =
    if bytes_eq kind (codes "buffer") then buffer_given n value
    else if bytes_eq kind (codes "local") then local_given n (number32_of value)
    else if bytes_eq kind (codes "plain") then plain_given n (decode_of value)
    else Err 3

abbrev pub argument_said : List (List ℕ) → Result Said ℕ
argument_said (n ∷ kind ∷ value ∷ []) = given_said (number32_of n) kind value
argument_said _ = Err 3

-- `robin Q` and `seed S`
abbrev pub robin_given : Option ℕ → Result Said ℕ
robin_given (Some turn) = if turn == 0 then Err 6 else Ok (said.Schedule (Robin turn))
robin_given None = Err 4

abbrev pub seed_given : Option ℕ → Result Said ℕ
seed_given (Some seed) = Ok (said.Schedule (Mixed seed))
seed_given None = Err 4

abbrev pub turns_said : List ℕ → List ℕ → Result Said ℕ
turns_said kind value =
    if bytes_eq kind (codes "robin") then robin_given (number32_of value)
    else if bytes_eq kind (codes "seed") then seed_given (number_of (2 ^ 64 - 1) value)
    else Err 3

abbrev pub schedule_said : List (List ℕ) → Result Said ℕ
schedule_said (kind ∷ value ∷ []) = turns_said kind value
schedule_said _ = Err 3

-- `N`
abbrev pub steps_given : Option ℕ → Result Said ℕ
steps_given (Some count) = if count == 0 then Err 6 else Ok (said.Steps count)
steps_given None = Err 4

abbrev pub steps_said : List (List ℕ) → Result Said ℕ
steps_said (count ∷ []) = steps_given (number_of (10 ^ 12) count)
steps_said _ = Err 3

-- a word that begins with `#`
abbrev pub is_remark : List ℕ → Bool
is_remark [] = false
is_remark (b ∷ bs) = b == 35

-- A line without words, and one whose first word begins with `#`, says nothing.
abbrev pub words_said : List (List ℕ) → Result Said ℕ
words_said [] = Ok said.Nothing
words_said (first ∷ rest) =
    if is_remark first then Ok said.Nothing
    else if bytes_eq first (codes "kernel") then kernel_said rest
    else if bytes_eq first (codes "global") then global_said (sizes_said rest)
    else if bytes_eq first (codes "local") then local_said (sizes_said rest)
    else if bytes_eq first (codes "arg") then argument_said rest
    else if bytes_eq first (codes "schedule") then schedule_said rest
    else if bytes_eq first (codes "steps") then steps_said rest
    else Err 2

abbrev pub content_said : List ℕ → Result Said ℕ
content_said content = if list_all is_text content then words_said (words_of content) else Err 1

-- a CR at the end of a line belongs to no word
abbrev pub line_said : List ℕ → Result Said ℕ
line_said line = content_said (strip_carriage_return line)
