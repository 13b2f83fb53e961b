-- What is written is read again, and what is read is written again.
use Rattle.std.specs.Prelude.{◌≡◌, ℕ, ◌<◌, ◌⊎◌, Bool, List, get_or, Result, Err, IfOk, IfErr}
use Rattle.spv_module.specs.declared.module.Module.{Module}
use Rattle.spv_module.specs.Words.{module_words, IsSpelled, Spells}
use Rattle.spv_binary.specs.declared.stop.ReadStop.{ReadStop}
use Rattle.spv_binary.specs.declared.stop.ReadStop.TheVariants as stop
use Rattle.spv_binary.specs.Faults.{Fault, words_of, is_high_first, Broken, IsFirst}
use Rattle.spv_binary.specs.Reading.{Answers, IsFaultOf}

-- each is a byte
abbrev pub AreBytes : List ℕ → Type 0
AreBytes bytes = (i : ℕ) → get_or bytes i 0 < 256

-- ---- what bytes spell

-- Bytes spell one module at most.
abbrev pub SpellsOne : Type 0
SpellsOne = (m n : Module) (bytes : List ℕ) → Spells m bytes → Spells n bytes → m ≡ n

-- The words of bytes that spell a module, in the order that the first shows, are those of the module and no others.
abbrev pub SpelledByItsWords : Type 0
SpelledByItsWords = (m : Module) (bytes : List ℕ) → Spells m bytes → words_of bytes ≡ module_words m

-- So each order has one list of bytes that spells the module.
abbrev pub SpelledOnceInEachOrder : Type 0
SpelledOnceInEachOrder = (m : Module) (a b : List ℕ) → Spells m a → Spells m b → is_high_first a ≡ is_high_first b → a ≡ b

-- What spells a module breaks no rule.
abbrev pub SpelledIsWhole : Type 0
SpelledIsWhole = (m : Module) (bytes : List ℕ) (f : Fault) → Spells m bytes → Broken bytes f → ⊥

-- What spells no module breaks a rule, and first in one place.
abbrev pub SpelledOrBroken : Type 0
SpelledOrBroken = (bytes : List ℕ) → AreBytes bytes → ((m : Module) × Spells m bytes) ⊎ ((f : Fault) × IsFirst (Broken bytes) f)

-- ---- there and back

-- What may be answered of bytes: a module that they spell, their first fault, or want of memory.
abbrev pub IsAnswer : List ℕ → Result Module ReadStop → Type 0
IsAnswer bytes r = IfOk r (λ m. Spells m bytes) × IfErr r (IsFaultOf bytes)

-- Whatever is answered is the one thing to answer, want of memory apart.
abbrev pub AnsweredOnce : Type 0
AnsweredOnce = (bytes : List ℕ) (r s : Result Module ReadStop) → IsAnswer bytes r → IsAnswer bytes s → (r ≡ Err stop.NoMemory) ⊎ ((s ≡ Err stop.NoMemory) ⊎ (r ≡ s))

-- A module's words, in this order of bytes, are read as that module.
abbrev pub WrittenIsRead : (List ℕ → List ℕ) → Type 0
WrittenIsRead in_order = (m n : Module) (bytes : List ℕ) → IsSpelled m → bytes ≡ in_order (module_words m) → Spells n bytes → n ≡ m

-- The one answer there is to them, want of memory apart, is that module.
abbrev pub WrittenIsAnswered : (List ℕ → List ℕ) → Type 0
WrittenIsAnswered in_order = (m : Module) (bytes : List ℕ) (r : Result Module ReadStop) → IsSpelled m → bytes ≡ in_order (module_words m) → IsAnswer bytes r → Answers m r

-- What is read in one order of bytes, whose first word shows it, is the same bytes again in that order.
abbrev pub ReadIsWritten : Bool → (List ℕ → List ℕ) → Type 0
ReadIsWritten high_first in_order = (m : Module) (bytes : List ℕ) → Spells m bytes → is_high_first bytes ≡ high_first → in_order (module_words m) ≡ bytes
