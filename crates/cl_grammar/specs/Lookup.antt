-- Where a word stands among the spellings, if it is one of them. It spares comparing a word with all of them, and means nothing else.
use Rattle.std.specs.Prelude.{ℕ, ◌+◌, ◌*◌, ◌-◌, ◌/◌, ◌%◌, Bool, ◌&&◌, nat_lt, nat_le, List, [], ◌∷◌, length, slice_index}

-- no spelling is longer than 13 bytes
abbrev pub may_be_word : List ℕ → Bool
may_be_word word = nat_lt 0 (length word) && nat_le (length word) 13

-- a number from three bytes of a word and its length, another for each of the spellings
abbrev pub fingerprint : List ℕ → ℕ
fingerprint word = 16 * slice_index word 0 + 2 * slice_index word (length word / 2) + 11 * slice_index word (length word - 1) + 3 * length word

unfoldable pub shifts : List ℕ
shifts = 3 ∷ 66 ∷ 47 ∷ 115 ∷ 60 ∷ 0 ∷ 104 ∷ 80 ∷ 76 ∷ 21 ∷ 0 ∷ 47 ∷ 6 ∷ 93 ∷ 83 ∷ 51 ∷ 33 ∷ 79 ∷ 79 ∷ 99 ∷ 4 ∷ 40 ∷ 11 ∷ 55 ∷ 64 ∷ 29 ∷ 113 ∷ 0 ∷ 0 ∷ 88 ∷ 7 ∷ 90 ∷ []

unfoldable pub numbers : List ℕ
numbers =
    13 ∷ 87 ∷ 38 ∷ 111 ∷ 95 ∷ 23 ∷ 52 ∷ 106 ∷ 25 ∷ 37 ∷ 47 ∷ 90 ∷ 85 ∷ 3 ∷ 81 ∷ 51 ∷
    26 ∷ 1 ∷ 4 ∷ 21 ∷ 64 ∷ 45 ∷ 107 ∷ 6 ∷ 31 ∷ 30 ∷ 59 ∷ 22 ∷ 7 ∷ 48 ∷ 102 ∷ 50 ∷
    0 ∷ 32 ∷ 16 ∷ 78 ∷ 109 ∷ 0 ∷ 0 ∷ 93 ∷ 8 ∷ 84 ∷ 68 ∷ 67 ∷ 15 ∷ 41 ∷ 9 ∷ 117 ∷
    19 ∷ 61 ∷ 24 ∷ 101 ∷ 54 ∷ 58 ∷ 70 ∷ 104 ∷ 77 ∷ 113 ∷ 57 ∷ 72 ∷ 0 ∷ 103 ∷ 63 ∷ 0 ∷
    86 ∷ 0 ∷ 112 ∷ 66 ∷ 53 ∷ 115 ∷ 83 ∷ 110 ∷ 99 ∷ 0 ∷ 79 ∷ 73 ∷ 75 ∷ 42 ∷ 49 ∷ 0 ∷
    0 ∷ 44 ∷ 33 ∷ 94 ∷ 100 ∷ 97 ∷ 35 ∷ 40 ∷ 36 ∷ 46 ∷ 91 ∷ 96 ∷ 11 ∷ 17 ∷ 5 ∷ 10 ∷
    89 ∷ 76 ∷ 0 ∷ 20 ∷ 18 ∷ 29 ∷ 116 ∷ 12 ∷ 39 ∷ 27 ∷ 56 ∷ 98 ∷ 74 ∷ 28 ∷ 88 ∷ 114 ∷
    92 ∷ 69 ∷ 80 ∷ 108 ∷ 62 ∷ 43 ∷ 105 ∷ 71 ∷ 65 ∷ 60 ∷ 34 ∷ 82 ∷ 55 ∷ 2 ∷ 14 ∷ 0 ∷ []

-- the number of the only spelling that a word may be
unfoldable pub number_of : List ℕ → ℕ
number_of word = slice_index numbers ((fingerprint word / 32 + slice_index shifts (fingerprint word % 32)) % 128)
