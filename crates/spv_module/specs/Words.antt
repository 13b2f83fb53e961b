-- The words and the bytes that spell a module (SPIR-V 2.2.1 and 2.3).
use Rattle.std.specs.Prelude.{◌≡◌, ◌≢◌, ℕ, ◌+◌, ◌*◌, ◌^◌, ◌<◌, ◌≤◌, ◌⊎◌, List, [], ◌∷◌, ◌++◌, length, true, All, IsUtf8}
use Rattle.std.specs.List.{flat_map}
use Rattle.std.specs.Int.{w32, from_le_bytes, to_le_bytes, to_be_bytes}
use Rattle.spv_module.specs.declared.module.Module.{Module}
use Rattle.spv_module.specs.declared.module.Inst.{Inst}
use Rattle.spv_module.specs.declared.module.Operand.{Operand}
use Rattle.spv_module.specs.declared.module.Operand.TheVariants.{Id, Word, Str}
use Rattle.spv_module.specs.declared.module.TheConstants.{MAGIC, VERSION, MAX_BOUND, MAX_BYTES}
use Rattle.spv_module.specs.Grammar.{has_form}

-- ---- words

-- four bytes in a word, the first lowest
abbrev pub word_of : ℕ → ℕ → ℕ → ℕ → ℕ
word_of a b c d = from_le_bytes w32 (a ∷ b ∷ c ∷ d ∷ [])

-- a string: its bytes and a zero byte, padded by zero bytes to whole words
abbrev pub string_words : List ℕ → List ℕ
string_words [] = word_of 0 0 0 0 ∷ []
string_words (a ∷ []) = word_of a 0 0 0 ∷ []
string_words (a ∷ b ∷ []) = word_of a b 0 0 ∷ []
string_words (a ∷ b ∷ c ∷ []) = word_of a b c 0 ∷ []
string_words (a ∷ b ∷ c ∷ d ∷ rest) = word_of a b c d ∷ string_words rest

abbrev pub operand_words : Operand → List ℕ
operand_words (Id n) = n ∷ []
operand_words (Word n) = n ∷ []
operand_words (Str s) = string_words s

-- how many words an instruction takes, its first included
abbrev pub word_count : Inst → ℕ
word_count i = 1 + length (flat_map operand_words i.operands)

-- the first word has the count in its high half, and the opcode in its low half
abbrev pub inst_words : Inst → List ℕ
inst_words i = (word_count i * 65536 + i.op) ∷ flat_map operand_words i.operands

abbrev pub body_words : List Inst → List ℕ
body_words body = flat_map inst_words body

-- the last word of the header is the schema, which is 0
abbrev pub header_words : Module → List ℕ
header_words m = MAGIC ∷ m.version ∷ m.generator ∷ m.bound ∷ 0 ∷ []

abbrev pub module_words : Module → List ℕ
module_words m = header_words m ++ body_words m.body

-- ---- bytes

-- the bytes of words, of each word the lowest byte first
abbrev pub little_endian : List ℕ → List ℕ
little_endian words = flat_map (to_le_bytes w32) words

-- the same, of each word the highest byte first
abbrev pub big_endian : List ℕ → List ℕ
big_endian words = flat_map (to_be_bytes w32) words

-- ---- what some bytes spell

abbrev pub operand_ids : Operand → List ℕ
operand_ids (Id n) = n ∷ []
operand_ids (Word n) = []
operand_ids (Str s) = []

abbrev pub operand_numbers : Operand → List ℕ
operand_numbers (Id n) = []
operand_numbers (Word n) = n ∷ []
operand_numbers (Str s) = []

abbrev pub operand_texts : Operand → List (List ℕ)
operand_texts (Id n) = []
operand_texts (Word n) = []
operand_texts (Str s) = s ∷ []

-- the ids of an instruction, its result type and its result among them
abbrev pub ids_of : Inst → List ℕ
ids_of i = flat_map operand_ids i.operands

-- its literal words and enumerants
abbrev pub numbers_of : Inst → List ℕ
numbers_of i = flat_map operand_numbers i.operands

-- its strings
abbrev pub texts_of : Inst → List (List ℕ)
texts_of i = flat_map operand_texts i.operands

pub record HasForm (i : Inst) : Type 0 where
  pub form : has_form i.op i.operands ≡ true

-- the count of words fits the first word
pub record HasCount (i : Inst) : Type 0 where
  pub count : word_count i < 65536

pub record IsIdBelow (bound n : ℕ) : Type 0 where
  pub positive : 1 ≤ n
  pub below : n < bound

pub record IsWord (n : ℕ) : Type 0 where
  pub below : n < 2 ^ 32

pub record IsNotZero (n : ℕ) : Type 0 where
  pub other : n ≢ 0

-- a string that a zero byte can end
pub record IsString (s : List ℕ) : Type 0 where
  pub utf8 : IsUtf8 s
  pub no_zero : All IsNotZero s

-- Instructions that some words stand for, with ids below the bound.
pub record AreSpelled (bound : ℕ) (body : List Inst) : Type 0 where
  pub forms : All HasForm body
  pub counts : All HasCount body
  pub ids : All (IsIdBelow bound) (flat_map ids_of body)
  pub numbers : All IsWord (flat_map numbers_of body)
  pub texts : All IsString (flat_map texts_of body)

-- A module that some bytes stand for.
pub record IsSpelled (m : Module) : Type 0 where
  pub version : m.version ≡ VERSION
  pub generator : m.generator < 2 ^ 32
  pub bound_low : 1 ≤ m.bound
  pub bound_high : m.bound ≤ MAX_BOUND
  pub body : AreSpelled m.bound m.body
  pub size : 4 * length (module_words m) ≤ MAX_BYTES

-- These bytes stand for the module: its words, in one order of bytes or the other.
pub record Spells (m : Module) (bytes : List ℕ) : Type 0 where
  pub spelled : IsSpelled m
  pub spelling : (bytes ≡ little_endian (module_words m)) ⊎ (bytes ≡ big_endian (module_words m))

-- These bytes stand for the module, of each word the lowest first.
abbrev pub SpellsLittle : Module → List ℕ → Type 0
SpellsLittle m bytes = IsSpelled m × (bytes ≡ little_endian (module_words m))
