-- What is written is read again, and what is read is written again.
use Rattle.std.proofs.Common.{◌≡◌, ℕ, ◌+◌, ◌*◌, ◌⊎◌, Bool, true, false, List, ◌∷◌, length, Result, sym, ap, ◌∙◌, refl, inl, inr, arith}
use Rattle.spv_module.specs.declared.module.Module.{Module}
use Rattle.spv_module.specs.declared.module.TheConstants.{MAGIC}
use Rattle.spv_module.specs.Words.{body_words, module_words, little_endian, big_endian, IsSpelled, Spells}
use Rattle.spv_module.proofs.Lengths.{length-little_endian, length-big_endian}
use Rattle.spv_binary.specs.declared.stop.ReadStop.{ReadStop}
use Rattle.spv_binary.specs.Faults.{words_of, is_high_first}
use Rattle.spv_binary.specs.Reading.{Answers}
use Rattle.spv_binary.specs.RoundTrip.{SpellsOne, SpelledByItsWords, SpelledOnceInEachOrder, SpelledIsWhole, IsAnswer, WrittenIsRead, WrittenIsAnswered, ReadIsWritten}
use Rattle.spv_binary.proofs.Files.{IsFileOf-Spells, Spells-clean, Spells-unique, reads_spelled}

-- ---- what is written spells

pub Spells-little : (m : Module) (bytes : List ℕ) → IsSpelled m → bytes ≡ little_endian (module_words m) → Spells m bytes
Spells-little m bytes h e = record { spelled = h; spelling = inl e }

pub Spells-big : (m : Module) (bytes : List ℕ) → IsSpelled m → bytes ≡ big_endian (module_words m) → Spells m bytes
Spells-big m bytes h e = record { spelled = h; spelling = inr e }

-- four bytes a word, of which the header has five
pub length-little : (m : Module) (bytes : List ℕ) → bytes ≡ little_endian (module_words m) → length bytes ≡ 4 * length (module_words m)
length-little m bytes e = ap length e ∙ length-little_endian (module_words m)

pub length-big : (m : Module) (bytes : List ℕ) → bytes ≡ big_endian (module_words m) → length bytes ≡ 4 * length (module_words m)
length-big m bytes e = ap length e ∙ length-big_endian (module_words m)

pub length-spelled : (m : Module) (bytes : List ℕ) → Spells m bytes → length bytes ≡ 20 + 4 * length (body_words m.body)
length-spelled m bytes h = let n = (IsFileOf-Spells m bytes h).long in omega arith

-- ---- what bytes spell

pub spells_one : SpellsOne
spells_one = Spells-unique

pub spelled_by_its_words : SpelledByItsWords
spelled_by_its_words m bytes h =
    (IsFileOf-Spells m bytes h).words ∙ ap (λ v. MAGIC ∷ v ∷ m.generator ∷ m.bound ∷ 0 ∷ body_words m.body) (sym h.spelled.version)

pub spelled_is_whole : SpelledIsWhole
spelled_is_whole = Spells-clean

-- the first four bytes show the order
little_low_first : (m : Module) → is_high_first (little_endian (module_words m)) ≡ false
little_low_first m = refl

big_high_first : (m : Module) → is_high_first (big_endian (module_words m)) ≡ true
big_high_first m = refl

pub low_again : ReadIsWritten false little_endian
low_again m bytes h low =
    elim h.spelling [
      | inl e ↦ sym e
      | inr e ↦ absurd (let no : true ≡ false = sym (big_high_first m) ∙ ap is_high_first (sym e) ∙ low in cc)
    ]

pub high_again : ReadIsWritten true big_endian
high_again m bytes h high =
    elim h.spelling [
      | inl e ↦ absurd (let no : false ≡ true = sym (little_low_first m) ∙ ap is_high_first (sym e) ∙ high in cc)
      | inr e ↦ sym e
    ]

once_by : (m : Module) (a b : List ℕ) → Spells m a → Spells m b → (high : Bool) → is_high_first a ≡ high → is_high_first b ≡ high → a ≡ b
once_by m a b p q true x y = sym (high_again m a p x) ∙ high_again m b q y
once_by m a b p q false x y = sym (low_again m a p x) ∙ low_again m b q y

pub spelled_once_in_each_order : SpelledOnceInEachOrder
spelled_once_in_each_order m a b p q same = once_by m a b p q (is_high_first b) same refl

-- ---- there and back

-- what contracts of a reader's caller use: of what spells m, an answer is m or want of memory
pub answers_spelled : (m : Module) (bytes : List ℕ) (r : Result Module ReadStop) → Spells m bytes → IsAnswer bytes r → Answers m r
answers_spelled m bytes r h answer = reads_spelled bytes r answer.0 answer.1 m h

pub little_again : WrittenIsRead little_endian
little_again m n bytes h e found = Spells-unique n m bytes found (Spells-little m bytes h e)

pub big_again : WrittenIsRead big_endian
big_again m n bytes h e found = Spells-unique n m bytes found (Spells-big m bytes h e)

pub little_answered : WrittenIsAnswered little_endian
little_answered m bytes r h e answer = answers_spelled m bytes r (Spells-little m bytes h e) answer

pub big_answered : WrittenIsAnswered big_endian
big_answered m bytes r h e answer = answers_spelled m bytes r (Spells-big m bytes h e) answer
