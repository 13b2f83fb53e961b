-- Where the words of a file break the rules of modules (SPIR-V 2.2.1, 2.3 and 3), and which fault is the first.
use Rattle.std.specs.Prelude.{◌≡◌, ◌≢◌, ℕ, ◌+◌, ◌-◌, ◌/◌, ◌%◌, ◌<◌, ◌≤◌, ◌==◌, ◌⊎◌, Bool, true, false, if◌then◌else◌, List, [], ◌∷◌, ◌++◌, length, map, take, drop, suc, find, Option, None, Some, slice_get, slice_index}
use Rattle.std.specs.Int.{w32, to_le_bytes}
use Rattle.spv_module.specs.declared.module.TheConstants.{MAGIC, VERSION, MAX_BOUND, MAX_BYTES}
use Rattle.spv_module.specs.Grammar.{Kind, AnId, AnyWord, OneOf, AText, Rest, End, MaybeWord, AnyWords, AnyIds, AnyPairs, ADecoration, Row, Decoration, row_of, kinds_of, is_among, decorations, is_decoration}
use Rattle.spv_module.specs.Words.{word_of, string_words, IsString}
use Rattle.spv_binary.specs.declared.stop.rule.TheConstants as rule

-- a rule's number, and the index of the word where it is broken
pub record Fault : Type 0 where
  pub number : ℕ
  pub word : ℕ

abbrev pub fault : ℕ → ℕ → Fault
fault n w = record { number = n; word = w }

-- ---- the words of a file

-- the word of four bytes, the highest first or the lowest first
abbrev pub word_in_order : Bool → ℕ → ℕ → ℕ → ℕ → ℕ
word_in_order true a b c d = word_of d c b a
word_in_order false a b c d = word_of a b c d

-- whole words
abbrev pub words_in_order : Bool → List ℕ → List ℕ
words_in_order high_first (a ∷ b ∷ c ∷ d ∷ bytes) = word_in_order high_first a b c d ∷ words_in_order high_first bytes
words_in_order high_first _ = []

-- whether the first word is the magic number with the highest byte first
abbrev pub is_high_first : List ℕ → Bool
is_high_first (a ∷ b ∷ c ∷ d ∷ bytes) = word_of d c b a == MAGIC
is_high_first _ = false

-- whole words, in the order of bytes that the first shows
unfoldable pub words_of : List ℕ → List ℕ
words_of bytes = words_in_order (is_high_first bytes) bytes

-- how many words an instruction takes, by its first, and its opcode
abbrev pub count_of : ℕ → ℕ
count_of first = first / 65536

abbrev pub opcode_of : ℕ → ℕ
opcode_of first = first % 65536

-- its words behind the first, of those behind it
abbrev pub operand_part : ℕ → List ℕ → List ℕ
operand_part first others = take (count_of first - 1) others

-- ---- what the operands of an instruction must be

unfoldable pub has_zero : ℕ → Bool
has_zero w = is_among (to_le_bytes w32 w) 0

-- how many words the string at the front takes: up to the first with a zero byte, and all where none has one
abbrev pub string_len : List ℕ → ℕ
string_len [] = 0
string_len (w ∷ ws) = if has_zero w then 1 else suc (string_len ws)

-- how many words an operand at the front takes
abbrev pub width : Kind → List ℕ → ℕ
width AnId ws = 1
width AnyWord ws = 1
width (OneOf ns) ws = 1
width AText ws = string_len ws

-- the words behind operands of these kinds
abbrev pub behind : List Kind → List ℕ → List ℕ
behind [] ws = ws
behind (k ∷ ks) ws = behind ks (drop (width k ws) ws)

abbrev pub each_word : List ℕ → List Kind
each_word [] = []
each_word (w ∷ ws) = AnyWord ∷ each_word ws

abbrev pub each_id : List ℕ → List Kind
each_id [] = []
each_id (w ∷ ws) = AnId ∷ each_id ws

abbrev pub each_pair : List ℕ → List Kind
each_pair [] = []
each_pair (w ∷ []) = AnyWord ∷ AnId ∷ []
each_pair (w ∷ v ∷ ws) = AnyWord ∷ AnId ∷ each_pair ws

abbrev pub decoration_number : Decoration → ℕ
decoration_number d = d.number

abbrev pub decoration_numbers : List ℕ
decoration_numbers = map decoration_number decorations

-- the literals of a decoration: any number behind one that isn't known
abbrev pub literal_kinds : Option Decoration → List ℕ → List Kind
literal_kinds None ws = each_word ws
literal_kinds (Some d) ws = d.literals

-- what follows the operands that always stand, where these words are left
abbrev pub rest_kinds : Rest → List ℕ → List Kind
rest_kinds End ws = []
rest_kinds MaybeWord [] = []
rest_kinds MaybeWord (w ∷ ws) = AnyWord ∷ []
rest_kinds AnyWords ws = each_word ws
rest_kinds AnyIds ws = each_id ws
rest_kinds AnyPairs ws = each_pair ws
rest_kinds ADecoration [] = OneOf decoration_numbers ∷ []
rest_kinds ADecoration (w ∷ ws) = OneOf decoration_numbers ∷ literal_kinds (find (is_decoration w) decorations) ws

-- the kinds of all operands of an instruction of this row that has these words behind its first
abbrev pub operand_kinds : Row → List ℕ → List Kind
operand_kinds r ws = kinds_of r ++ rest_kinds r.rest (behind (kinds_of r) ws)

-- whether operands of these kinds take these words, no fewer and no more
abbrev pub fills : List Kind → List ℕ → Bool
fills [] [] = true
fills [] (w ∷ ws) = false
fills (k ∷ ks) [] = false
fills (k ∷ ks) (w ∷ ws) = fills ks (drop (width k (w ∷ ws)) (w ∷ ws))

-- Of operands of these kinds, which begin at the word `at` with these words, one is of the kind k. It begins at the word x with the
-- words `there`.
pub data HasOperand (k : Kind) (x : ℕ) (there : List ℕ) : List Kind → ℕ → List ℕ → Type 0 where
  first_operand : (ks : List Kind) → HasOperand k x there (k ∷ ks) x there
  later_operand : (j : Kind) (ks : List Kind) (at : ℕ) (ws : List ℕ) → HasOperand k x there ks (at + width j ws) (drop (width j ws) ws) → HasOperand k x there (j ∷ ks) at ws

-- ---- where rules are broken

-- At the first of these words an operand of this kind breaks the rule. A string does where none is spelled from there on.
pub data BadOperand (bound number : ℕ) : Kind → List ℕ → Type 0 where
  unknown_enumerant : (ns : List ℕ) (w : ℕ) (ws : List ℕ) → number ≡ rule.FORM → is_among ns w ≡ false → BadOperand bound number (OneOf ns) (w ∷ ws)
  no_string : (ws : List ℕ) → number ≡ rule.STRING → ((s others : List ℕ) → IsString s → ws ≡ string_words s ++ others → ⊥) → BadOperand bound number AText ws
  wrong_id : (w : ℕ) (ws : List ℕ) → number ≡ rule.ID → (w ≡ 0) ⊎ (bound ≤ w) → BadOperand bound number AnId (w ∷ ws)

-- The instruction whose first word has the index `at`, with the others of the file behind it, breaks a rule.
pub data BrokenInst (bound at first : ℕ) (others : List ℕ) (f : Fault) : Type 0 where
  wrong_count : f ≡ fault rule.COUNT at → (count_of first ≡ 0) ⊎ (suc (length others) < count_of first) → BrokenInst bound at first others f
  unknown_opcode : f ≡ fault rule.OPCODE at → row_of (opcode_of first) ≡ None → BrokenInst bound at first others f
  wrong_form : (r : Row) → f ≡ fault rule.FORM at → row_of (opcode_of first) ≡ Some r → fills (operand_kinds r (operand_part first others)) (operand_part first others) ≡ false → BrokenInst bound at first others f
  bad_operand : (r : Row) (k : Kind) (there : List ℕ) → row_of (opcode_of first) ≡ Some r → HasOperand k f.word there (operand_kinds r (operand_part first others)) (suc at) (operand_part first others) → BadOperand bound f.number k there → BrokenInst bound at first others f

-- The instructions from the word `at` on, with these words, break a rule: the first or one behind it. Behind one whose count is 0
-- or goes past the end there is none.
pub data BrokenBody (bound : ℕ) : ℕ → List ℕ → Fault → Type 0 where
  first_inst : (at first : ℕ) (others : List ℕ) (f : Fault) → BrokenInst bound at first others f → BrokenBody bound at (first ∷ others) f
  later_inst : (at first : ℕ) (others : List ℕ) (f : Fault) → 1 ≤ count_of first → count_of first ≤ suc (length others) → BrokenBody bound (at + count_of first) (drop (count_of first) (first ∷ others)) f → BrokenBody bound at (first ∷ others) f

-- The bytes break a rule. What is too short or ragged does behind its last whole word; what is too long does at once.
pub data Broken (bytes : List ℕ) (f : Fault) : Type 0 where
  too_long : f ≡ fault rule.SIZE 0 → MAX_BYTES < length bytes → Broken bytes f
  too_short : f ≡ fault rule.SIZE (length bytes / 4) → length bytes < 20 → Broken bytes f
  ragged : f ≡ fault rule.SIZE (length bytes / 4) → length bytes % 4 ≢ 0 → Broken bytes f
  wrong_magic : (w : ℕ) → f ≡ fault rule.MAGIC 0 → slice_get (words_of bytes) 0 ≡ Some w → w ≢ MAGIC → Broken bytes f
  wrong_version : (w : ℕ) → f ≡ fault rule.VERSION 1 → slice_get (words_of bytes) 1 ≡ Some w → w ≢ VERSION → Broken bytes f
  wrong_bound : (w : ℕ) → f ≡ fault rule.ID 3 → slice_get (words_of bytes) 3 ≡ Some w → (w ≡ 0) ⊎ (MAX_BOUND < w) → Broken bytes f
  wrong_schema : (w : ℕ) → f ≡ fault rule.SCHEMA 4 → slice_get (words_of bytes) 4 ≡ Some w → w ≢ 0 → Broken bytes f
  in_body : BrokenBody (slice_index (words_of bytes) 3) 5 (drop 5 (words_of bytes)) f → Broken bytes f

-- ---- the first fault

-- None is at an earlier word, and none at the same word has a lesser number.
pub record IsFirst (IsFault : Fault → Type 0) (f : Fault) : Type 0 where
  pub fault : IsFault f
  pub earliest : (g : Fault) → IsFault g → f.word ≤ g.word
  pub least : (g : Fault) → IsFault g → g.word ≡ f.word → f.number ≤ g.number

abbrev pub IsFirstFault : List ℕ → ℕ → ℕ → Type 0
IsFirstFault bytes number word = IsFirst (Broken bytes) (fault number word)
