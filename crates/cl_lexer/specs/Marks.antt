-- The marks of the grammar, and `#`.
use Rattle.std.specs.Prelude.{ℕ, ◌+◌, Bool, true, ◌==◌, ◌||◌, slice_index, if◌then◌else◌, List, [], ◌∷◌, length, take, Option, Some, None, codes, bytes_eq, slice_index_or}
use Rattle.std.specs.Option.{option_or}

-- in the order of their bytes; a mark's number is its index
unfoldable pub marks : List (List ℕ)
marks =
    codes "!" ∷ codes "!=" ∷ codes "#" ∷ codes "%" ∷ codes "%=" ∷ codes "&" ∷ codes "&&" ∷ codes "&=" ∷ codes "(" ∷ codes ")" ∷
    codes "*" ∷ codes "*=" ∷ codes "+" ∷ codes "++" ∷ codes "+=" ∷ codes "," ∷ codes "-" ∷ codes "--" ∷ codes "-=" ∷ codes "->" ∷
    codes "." ∷ codes "/" ∷ codes "/=" ∷ codes ":" ∷ codes ";" ∷ codes "<" ∷ codes "<<" ∷ codes "<<=" ∷ codes "<=" ∷ codes "=" ∷
    codes "==" ∷ codes ">" ∷ codes ">=" ∷ codes ">>" ∷ codes ">>=" ∷ codes "?" ∷ codes "[" ∷ codes "]" ∷ codes "^" ∷ codes "^=" ∷
    codes "{" ∷ codes "|" ∷ codes "|=" ∷ codes "||" ∷ codes "}" ∷ codes "~" ∷ []

-- the number of the mark that a word is, among marks that are numbered from n on
abbrev pub number_among : ℕ → List (List ℕ) → List ℕ → Option ℕ
number_among n [] word = None
number_among n (m ∷ ms) word = if bytes_eq m word then Some n else number_among (n + 1) ms word

abbrev pub mark_number : List ℕ → Option ℕ
mark_number = number_among 0 marks

-- the longest mark that a text begins with
abbrev pub mark_of : List ℕ → Option ℕ
mark_of text = option_or (mark_number (take 3 text)) (option_or (mark_number (take 2 text)) (mark_number (take 1 text)))

abbrev pub mark_length : ℕ → ℕ
mark_length n = length (slice_index_or marks n [])

-- What the last byte of a word tells: no other word of two or three bytes is a mark. It spares looking most words up.
abbrev pub may_end_mark : ℕ → Bool
may_end_mark b = (b == 61) || (b == 38) || (b == 43) || (b == 45) || (b == 60) || (b == 62) || (b == 124)

abbrev pub may_be_mark : List ℕ → Bool
may_be_mark word =
    if length word == 3 then slice_index word 2 == 61
    else if length word == 2 then may_end_mark (slice_index word 1)
    else true
