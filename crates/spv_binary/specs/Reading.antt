-- Reading word by word: what each reader of the code gives.
use Rattle.std.specs.Prelude.{◌≡◌, ℕ, ◌+◌, ◌<◌, ◌==◌, ◌&&◌, nat_lt, nat_le, Bool, true, false, if◌then◌else◌, List, [], ◌∷◌, ◌++◌, length, drop, zero, suc, Option, None, Some, Result, Ok, Err, slice_get}
use Rattle.std.specs.Int.{w32, to_le_bytes}
use Rattle.std.specs.Str.{is_utf8}
use Rattle.spv_module.specs.declared.module.Module.{Module}
use Rattle.spv_module.specs.declared.module.Inst.{Inst}
use Rattle.spv_module.specs.declared.module.Operand.{Operand}
use Rattle.spv_module.specs.declared.module.Operand.TheVariants.{Id, Word, Str}
use Rattle.spv_module.specs.declared.module.TheConstants.{MAGIC, VERSION, MAX_BOUND}
use Rattle.spv_module.specs.Grammar.{Kind, AnId, AnyWord, OneOf, AText, Row, row_of, is_among}
use Rattle.spv_module.specs.Words.{body_words, AreSpelled}
use Rattle.spv_binary.specs.declared.stop.ReadStop.{ReadStop}
use Rattle.spv_binary.specs.declared.stop.ReadStop.TheVariants as stop
use Rattle.spv_binary.specs.declared.stop.rule.TheConstants as rule
use Rattle.spv_binary.specs.Faults.{Fault, fault, has_zero, width, operand_kinds, fills, count_of, opcode_of, operand_part, BrokenBody, IsFirst, IsFirstFault}

-- ---- readers that stop at a fault

infixl 10 ◌>>=◌
abbrev pub ◌>>=◌ : {A B : Type 0} → Result A Fault → (A → Result B Fault) → Result B Fault
(Ok x) >>= f = f x
(Err e) >>= f = Err e

-- What was returned is what reading gives, unless memory ran out.
abbrev pub Gives : {X : Type 0} → Result X ReadStop → Result X Fault → Type 0
Gives (Ok x) read = read ≡ Ok x
Gives (Err stop.NoMemory) read = Unit {0}
Gives (Err (stop.Fault n w)) read = read ≡ Err (fault n w)

-- ---- strings

-- The bytes before the first zero of four, with zeros alone behind it. None where there is no zero.
abbrev pub last_bytes : List ℕ → Option (List ℕ)
last_bytes (zero ∷ zero ∷ zero ∷ zero ∷ []) = Some []
last_bytes (suc a ∷ zero ∷ zero ∷ zero ∷ []) = Some (suc a ∷ [])
last_bytes (suc a ∷ suc b ∷ zero ∷ zero ∷ []) = Some (suc a ∷ suc b ∷ [])
last_bytes (suc a ∷ suc b ∷ suc c ∷ zero ∷ []) = Some (suc a ∷ suc b ∷ suc c ∷ [])
last_bytes _ = None

abbrev pub before : List ℕ → Option (List ℕ) → Option (List ℕ)
before bs None = None
before bs (Some cs) = Some (bs ++ cs)

-- the bytes of the string at the front, if it is ended and padded by zeros
abbrev pub bytes_at : List ℕ → Option (List ℕ)
bytes_at [] = None
bytes_at (w ∷ ws) = if has_zero w then last_bytes (to_le_bytes w32 w) else before (to_le_bytes w32 w) (bytes_at ws)

abbrev pub if_text : Option (List ℕ) → Option (List ℕ)
if_text None = None
if_text (Some s) = if is_utf8 s then Some s else None

unfoldable pub string_at : List ℕ → Option (List ℕ)
string_at ws = if_text (bytes_at ws)

-- ---- operands

abbrev pub is_id : ℕ → ℕ → Bool
is_id bound n = nat_le 1 n && nat_lt n bound

-- the word passes a test, whose result this is
abbrev pub demand : Bool → Fault → Result (Unit {0}) Fault
demand true f = Ok tt
demand false f = Err f

abbrev pub id_at : ℕ → ℕ → ℕ → Result Operand Fault
id_at bound at w = demand (is_id bound w) (fault rule.ID at) >>= λ passed. Ok (Id w)

abbrev pub enumerant_at : List ℕ → ℕ → ℕ → Result Operand Fault
enumerant_at ns at w = demand (is_among ns w) (fault rule.FORM at) >>= λ passed. Ok (Word w)

abbrev pub text_or : Option (List ℕ) → ℕ → Result Operand Fault
text_or None at = Err (fault rule.STRING at)
text_or (Some s) at = Ok (Str s)

unfoldable pub operand_at : ℕ → Kind → ℕ → List ℕ → Result Operand Fault
operand_at bound k at [] = Err (fault rule.FORM at)
operand_at bound AnId at (w ∷ ws) = id_at bound at w
operand_at bound AnyWord at (w ∷ ws) = Ok (Word w)
operand_at bound (OneOf ns) at (w ∷ ws) = enumerant_at ns at w
operand_at bound AText at (w ∷ ws) = text_or (string_at (w ∷ ws)) at

unfoldable pub operands_at : ℕ → List Kind → ℕ → List ℕ → Result (List Operand) Fault
operands_at bound [] at ws = Ok []
operands_at bound (k ∷ ks) at ws = do
  o ← operand_at bound k at ws
  os ← operands_at bound ks (at + width k ws) (drop (width k ws) ws)
  Ok (o ∷ os)

-- ---- instructions

abbrev pub is_count : ℕ → List ℕ → Bool
is_count n others = nat_le 1 n && nat_le n (suc (length others))

abbrev pub inst_with : ℕ → ℕ → ℕ → Option Row → List ℕ → Result Inst Fault
inst_with bound at n None ws = Err (fault rule.OPCODE at)
inst_with bound at n (Some r) ws = if fills (operand_kinds r ws) ws then (operands_at bound (operand_kinds r ws) (suc at) ws >>= λ os. Ok (record { op = n; operands = os })) else Err (fault rule.FORM at)

-- the instruction with this first word and these behind it, and any behind those
unfoldable pub inst_at : ℕ → ℕ → List ℕ → Result Inst Fault
inst_at bound at [] = Err (fault rule.COUNT at)
inst_at bound at (first ∷ others) = if is_count (count_of first) others then inst_with bound at (opcode_of first) (row_of (opcode_of first)) (operand_part first others) else Err (fault rule.COUNT at)

-- All of these words spell the instructions, and none breaks a rule.
pub record IsBody (bound : ℕ) (words : List ℕ) (body : List Inst) : Type 0 where
  pub spelled : AreSpelled bound body
  pub words_are : words ≡ body_words body
  pub clean : (f : Fault) → BrokenBody bound 5 words f → ⊥

-- It is the first fault of the instructions, at one of these words.
pub record IsBodyFault (bound : ℕ) (words : List ℕ) (f : Fault) : Type 0 where
  pub first : IsFirst (BrokenBody bound 5 words) f
  pub within : f.word < 5 + length words

abbrev pub BodyRead : ℕ → List ℕ → Result (List Inst) ReadStop → Type 0
BodyRead bound words (Ok body) = IsBody bound words body
BodyRead bound words (Err stop.NoMemory) = Unit {0}
BodyRead bound words (Err (stop.Fault n w)) = IsBodyFault bound words (fault n w)

-- ---- the header

abbrev pub some_or : {A : Type 0} → Fault → Option A → Result A Fault
some_or f None = Err f
some_or f (Some x) = Ok x

-- a word of the header; where there are too few, the fault is behind the last
unfoldable pub word_at : List ℕ → ℕ → Result ℕ Fault
word_at ws at = some_or (fault rule.SIZE (length ws)) (slice_get ws at)

abbrev pub is_bound : ℕ → Bool
is_bound n = nat_le 1 n && nat_le n MAX_BOUND

-- the generator and the bound
unfoldable pub header_at : List ℕ → Result (ℕ × ℕ) Fault
header_at ws = do
  magic ← word_at ws 0
  _ ← demand (magic == MAGIC) (fault rule.MAGIC 0)
  version ← word_at ws 1
  _ ← demand (version == VERSION) (fault rule.VERSION 1)
  generator ← word_at ws 2
  bound ← word_at ws 3
  _ ← demand (is_bound bound) (fault rule.ID 3)
  schema ← word_at ws 4
  _ ← demand (schema == 0) (fault rule.SCHEMA 4)
  Ok (generator, bound)

-- ---- the whole

-- what is read where bytes spell this module
abbrev pub Answers : Module → Result Module ReadStop → Type 0
Answers m (Ok n) = n ≡ m
Answers m (Err stop.NoMemory) = Unit {0}
Answers m (Err (stop.Fault n w)) = ⊥

abbrev pub IsFaultOf : List ℕ → ReadStop → Type 0
IsFaultOf bytes stop.NoMemory = Unit {0}
IsFaultOf bytes (stop.Fault n w) = IsFirstFault bytes n w
