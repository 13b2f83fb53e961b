-- Instructions in a row: what is read is spelled, what is spelled breaks no rule and is spelled by nothing else, and the first fault.
use Rattle.std.proofs.Common.{◌≡◌, ℕ, ◌+◌, ◌*◌, ◌^◌, ◌<◌, ◌≤◌, ◌==◌, true, false, List, [], ◌∷◌, ◌++◌, length, drop, get_or, suc, Result, Ok, Err, refl, sym, ap, subst, ◌∙◌, arith, append_assoc}
use Rattle.std.specs.List.{flat_map, AllByRecursion}
use Rattle.std.proofs.lemmas.List.{append-nil, length-drop}
use Rattle.std.proofs.lemmas.List.Elements.{All-append, All-nil, All-cons, All-head}
use Rattle.std.proofs.Math.Seq.{drop-append_seam}
use Rattle.spv_module.specs.declared.module.Inst.{Inst}
use Rattle.spv_module.specs.declared.module.Operand.{Operand}
use Rattle.spv_module.specs.declared.module.Operand.TheVariants.{Id, Word, Str}
use Rattle.spv_module.specs.Words.{operand_words, string_words, word_count, inst_words, body_words, ids_of, numbers_of, texts_of, HasForm, HasCount, IsIdBelow, IsWord, IsString, AreSpelled}
use Rattle.spv_module.proofs.Spelling.{All-left, AreSpelled-nil, AreSpelled-append, AreSpelled-right}
use Rattle.spv_module.proofs.Lengths.{body_words-append}
use Rattle.spv_module.proofs.Fitting.{HasRow-has_form}
use Rattle.spv_binary.specs.declared.stop.ReadStop.{ReadStop}
use Rattle.spv_binary.specs.declared.stop.ReadStop.TheVariants as stops
use Rattle.spv_binary.specs.Faults.{Fault, fault, count_of, BrokenInst, BrokenBody, first_inst, later_inst}
use Rattle.spv_binary.specs.Reading.{Gives, inst_at, IsBody, IsBodyFault, BodyRead}
use Rattle.spv_binary.proofs.Operands.{AreOperands, AreOperands-first, AreOperands-others, IsOperand}
use Rattle.spv_binary.proofs.OperandLists.{words-drop}
use Rattle.spv_binary.proofs.Insts.{IsInst, inst_reads, IsBadInst, inst_fails, inst_again, BrokenInst-from}
use Rattle.spv_binary.proofs.Shapes.{not_zero}
use Rattle.spv_binary.proofs.Table.{opcode_small}
use Rattle.spv_binary.proofs.Texts.{IsTextByte, IsString-bytes}

-- ---- one instruction among others

pub IsInst-first : (bound : ℕ) (i : Inst) (is : List Inst) → AreSpelled bound (i ∷ is) → IsInst bound i
IsInst-first bound i is h = record {
  form = All-head HasForm i is h.forms;
  count = All-head HasCount i is h.counts;
  operands = record {
    ids = All-left (IsIdBelow bound) (ids_of i) (flat_map ids_of is) h.ids;
    numbers = All-left IsWord (numbers_of i) (flat_map numbers_of is) h.numbers;
    texts = All-left IsString (texts_of i) (flat_map texts_of is) h.texts;
  };
}

pub AreSpelled-others : (bound : ℕ) (i : Inst) (is : List Inst) → AreSpelled bound (i ∷ is) → AreSpelled bound is
AreSpelled-others bound i is h = AreSpelled-right bound (i ∷ []) is h

pub AreSpelled-one : (bound : ℕ) (i : Inst) → IsInst bound i → AreSpelled bound (i ∷ [])
AreSpelled-one bound i h = record {
  forms = All-cons HasForm i [] h.form (All-nil HasForm);
  counts = All-cons HasCount i [] h.count (All-nil HasCount);
  ids = All-append (IsIdBelow bound) (ids_of i) [] h.operands.ids (All-nil (IsIdBelow bound));
  numbers = All-append IsWord (numbers_of i) [] h.operands.numbers (All-nil IsWord);
  texts = All-append IsString (texts_of i) [] h.operands.texts (All-nil IsString);
}

-- ---- where rules are broken

pub BrokenBody-from : (bound at : ℕ) (words : List ℕ) (f : Fault) → BrokenBody bound at words f → at ≤ f.word
BrokenBody-from bound at words f (first_inst at2 first others f2 broken) = BrokenInst-from bound at first others f broken
BrokenBody-from bound at words f (later_inst at2 first others f2 some within broken) = let p = BrokenBody-from bound (at + count_of first) (drop (count_of first) (first ∷ others)) f broken in omega arith

no_body : (bound at : ℕ) (f : Fault) → BrokenBody bound at [] f → ⊥
no_body bound at f broken = elim broken [ ]

behind_good : (bound at first : ℕ) (others : List ℕ) (f : Fault) → ((g : Fault) → BrokenInst bound at first others g → ⊥) → BrokenBody bound at (first ∷ others) f → BrokenBody bound (at + count_of first) (drop (count_of first) (first ∷ others)) f
behind_good bound at first others f good (first_inst at2 first2 others2 f2 broken) = absurd (good f broken)
behind_good bound at first others f good (later_inst at2 first2 others2 f2 some within broken) = broken

-- at a bad instruction
module _ (bound at first : ℕ) (others : List ℕ) (f : Fault) (bad : IsBadInst bound at first others f) where
  body_earliest : (g : Fault) → BrokenBody bound at (first ∷ others) g → f.word ≤ g.word
  body_earliest g (first_inst at2 first2 others2 g2 broken) = bad.first_fault.earliest g broken
  body_earliest g (later_inst at2 first2 others2 g2 some within broken) =
      let p = BrokenBody-from bound (at + count_of first) (drop (count_of first) (first ∷ others)) g broken in
      let q = bad.within some within in
      omega arith

  body_least : (g : Fault) → BrokenBody bound at (first ∷ others) g → g.word ≡ f.word → f.number ≤ g.number
  body_least g (first_inst at2 first2 others2 g2 broken) e = bad.first_fault.least g broken e
  body_least g (later_inst at2 first2 others2 g2 some within broken) e =
      let p = BrokenBody-from bound (at + count_of first) (drop (count_of first) (first ∷ others)) g broken in
      let q = bad.within some within in
      absurd (omega arith)

-- ---- the loop

pub record IsReadingBody (bound : ℕ) (words : List ℕ) (body : List Inst) (at : ℕ) (rest : List ℕ) : Type 0 where
  pub place : at + length rest ≡ 5 + length words
  pub spelled : AreSpelled bound body
  pub words_are : words ≡ body_words body ++ rest
  pub fit : AllByRecursion IsWord rest
  pub back : (f : Fault) → BrokenBody bound 5 words f → BrokenBody bound at rest f
  pub forth : (f : Fault) → BrokenBody bound at rest f → BrokenBody bound 5 words f

pub IsReadingBody-start : (bound : ℕ) (words : List ℕ) → AllByRecursion IsWord words → IsReadingBody bound words [] 5 words
IsReadingBody-start bound words h = record { place = refl; spelled = AreSpelled-nil bound; words_are = refl; fit = h; back = λ f b. b; forth = λ f b. b }

pub reading_more : (bound : ℕ) (words : List ℕ) (body : List Inst) (at first : ℕ) (others : List ℕ) (i : Inst) → IsReadingBody bound words body at (first ∷ others) → inst_at bound at (first ∷ others) ≡ Ok i → IsReadingBody bound words (body ++ i ∷ []) (at + count_of first) (drop (count_of first) (first ∷ others))
reading_more bound words body at first others i p e =
    let r = inst_reads bound at first others i p.fit e in
    let n = count_of first in
    let rest = drop n (first ∷ others) in
    let more : body_words (body ++ i ∷ []) ≡ body_words body ++ inst_words i = body_words-append body (i ∷ []) ∙ ap (λ ws. body_words body ++ ws) (append-nil (inst_words i)) in
    record {
      place = let q = p.place in let some = r.some in let within = r.within in omega (arith, length-drop n (first ∷ others));
      spelled = AreSpelled-append bound body (i ∷ []) p.spelled (AreSpelled-one bound i r.inst);
      words_are = p.words_are ∙ ap (λ ws. body_words body ++ ws) r.words ∙ sym (append_assoc (body_words body) (inst_words i) rest) ∙ ap (λ ws. ws ++ rest) (sym more);
      fit = words-drop n (first ∷ others) p.fit;
      back = λ f broken. behind_good bound at first others f r.good (p.back f broken);
      forth = λ f broken. p.forth f (later_inst at first others f r.some r.within broken);
    }

pub body_more : (bound : ℕ) (words : List ℕ) (body : List Inst) (at : ℕ) (rest : List ℕ) (i : Inst) (count : ℕ) (more : List Inst) (after : List ℕ) → IsReadingBody bound words body at rest → (length rest == 0) ≡ false → inst_at bound at rest ≡ Ok i → count ≡ count_of (get_or rest 0 0) → more ≡ body ++ i ∷ [] → after ≡ drop count rest → IsReadingBody bound words more (at + count) after
body_more bound words body at [] i count more after p some e count-is more-is after-is = absurd (cc)
body_more bound words body at (first ∷ others) i count more after p some e count-is more-is after-is =
    rw (more-is, after-is, count-is) (reading_more bound words body at first others i p e)

-- how many words it takes
pub body_count : (bound : ℕ) (words : List ℕ) (body : List Inst) (at : ℕ) (rest : List ℕ) (i : Inst) (count : ℕ) → IsReadingBody bound words body at rest → (length rest == 0) ≡ false → inst_at bound at rest ≡ Ok i → count ≡ count_of (get_or rest 0 0) → (1 ≤ count) × (count ≤ length rest)
body_count bound words body at [] i count p some e count-is = absurd (cc)
body_count bound words body at (first ∷ others) i count p some e count-is = let r = inst_reads bound at first others i p.fit e in rw count-is (r.some, r.within)

pub first_in_body : (bound : ℕ) (words : List ℕ) (body : List Inst) (at : ℕ) (rest : List ℕ) (f : Fault) → IsReadingBody bound words body at rest → (length rest == 0) ≡ false → inst_at bound at rest ≡ Err f → IsBodyFault bound words f
first_in_body bound words body at [] f p some e = absurd (cc)
first_in_body bound words body at (first ∷ others) f p some e =
    let bad = inst_fails bound at first others f p.fit e in
    record {
      first = record {
        fault = p.forth f (first_inst at first others f bad.first_fault.fault);
        earliest = λ g broken. body_earliest bound at first others f bad g (p.back g broken);
        least = λ g broken same. body_least bound at first others f bad g (p.back g broken) same;
      };
      within = let q = p.place in let r = bad.inside in omega arith;
    }

pub body_fails : (bound : ℕ) (words : List ℕ) (body : List Inst) (at : ℕ) (rest : List ℕ) (stop : ReadStop) (r : Result (List Inst) ReadStop) → IsReadingBody bound words body at rest → (length rest == 0) ≡ false → Gives (Err stop) (inst_at bound at rest) → r ≡ Err stop → BodyRead bound words r
body_fails bound words body at rest stops.NoMemory r p some e is = rw is tt
body_fails bound words body at rest (stops.Fault n w) r p some e is = rw is (first_in_body bound words body at rest (fault n w) p some e)

pub body_ends : (bound : ℕ) (words : List ℕ) (body : List Inst) (at : ℕ) (rest : List ℕ) → IsReadingBody bound words body at rest → (length rest == 0) ≡ true → IsBody bound words body
body_ends bound words body at [] p none = record { spelled = p.spelled; words_are = p.words_are ∙ append-nil (body_words body); clean = λ f broken. no_body bound at f (p.back f broken) }
body_ends bound words body at (w ∷ ws) p none = absurd (not_zero (length ws) none)

-- ---- the words of what is spelled

four_fit : (a b c d : ℕ) → a < 256 → b < 256 → c < 256 → d < 256 → IsWord (a + b * 256 + c * 65536 + d * 16777216)
four_fit a b c d p q r s = record { below = omega arith }

string_words_fit : (s : List ℕ) → AllByRecursion IsTextByte s → AllByRecursion IsWord (string_words s)
string_words_fit [] h = (record { below = omega arith }, tt)
string_words_fit (a ∷ []) h = (four_fit a 0 0 0 h.0.below (omega arith) (omega arith) (omega arith), tt)
string_words_fit (a ∷ b ∷ []) h = (four_fit a b 0 0 h.0.below h.1.0.below (omega arith) (omega arith), tt)
string_words_fit (a ∷ b ∷ c ∷ []) h = (four_fit a b c 0 h.0.below h.1.0.below h.1.1.0.below (omega arith), tt)
string_words_fit (a ∷ b ∷ c ∷ d ∷ s) h = (four_fit a b c d h.0.below h.1.0.below h.1.1.0.below h.1.1.1.0.below, string_words_fit s h.1.1.1.1)

fit-append : (xs ys : List ℕ) → AllByRecursion IsWord xs → AllByRecursion IsWord ys → AllByRecursion IsWord (xs ++ ys)
fit-append [] ys p q = q
fit-append (x ∷ xs) ys p q = (p.0, fit-append xs ys p.1 q)

operand_fits : (bound : ℕ) (o : Operand) → bound ≤ 2 ^ 32 → IsOperand bound o → AllByRecursion IsWord (operand_words o)
operand_fits bound (Id n) small h = let p = (All-head (IsIdBelow bound) n [] h.ids).below in (record { below = omega arith }, tt)
operand_fits bound (Word n) small h = (All-head IsWord n [] h.numbers, tt)
operand_fits bound (Str s) small h = string_words_fit s (IsString-bytes s (All-head IsString s [] h.texts))

operands_fit : (bound : ℕ) (os : List Operand) → bound ≤ 2 ^ 32 → AreOperands bound os → AllByRecursion IsWord (flat_map operand_words os)
operands_fit bound [] small h = tt
operands_fit bound (o ∷ os) small h = fit-append (operand_words o) (flat_map operand_words os) (operand_fits bound o small (AreOperands-first bound o os h)) (operands_fit bound os small (AreOperands-others bound o os h))

inst_fits : (bound : ℕ) (i : Inst) → bound ≤ 2 ^ 32 → IsInst bound i → AllByRecursion IsWord (inst_words i)
inst_fits bound i small h =
    let a = HasRow-has_form i.op i.operands h.form.form in
    let op = opcode_small i.op a.row a.is in
    let count = h.count.count in
    (record { below = omega arith }, operands_fit bound i.operands small h.operands)

pub body_fits : (bound : ℕ) (body : List Inst) → bound ≤ 2 ^ 32 → AreSpelled bound body → AllByRecursion IsWord (body_words body)
body_fits bound [] small h = tt
body_fits bound (i ∷ is) small h = fit-append (inst_words i) (body_words is) (inst_fits bound i small (IsInst-first bound i is h)) (body_fits bound is small (AreSpelled-others bound i is h))

-- ---- what is spelled breaks no rule

behind_same : (xs ys zs : List ℕ) → xs ++ ys ≡ xs ++ zs → ys ≡ zs
behind_same xs ys zs e = sym (drop-append_seam xs ys) ∙ ap (drop (length xs)) e ∙ drop-append_seam xs zs

pub body_clean : (bound at : ℕ) (body : List Inst) (f : Fault) → bound ≤ 2 ^ 32 → AreSpelled bound body → BrokenBody bound at (body_words body) f → ⊥
body_clean bound at [] f small h broken = no_body bound at f broken
body_clean bound at (i ∷ is) f small h broken =
    let first = word_count i * 65536 + i.op in
    let others = flat_map operand_words i.operands ++ body_words is in
    let inst = IsInst-first bound i is h in
    let r = inst_reads bound at first others i (body_fits bound (i ∷ is) small h) (inst_again bound at i (body_words is) inst) in
    let left : drop (count_of first) (first ∷ others) ≡ body_words is = sym (behind_same (inst_words i) (body_words is) (drop (count_of first) (first ∷ others)) r.words) in
    body_clean bound (at + count_of first) is f small (AreSpelled-others bound i is h) (subst (λ ws. BrokenBody bound (at + count_of first) ws f) left (behind_good bound at first others f r.good broken))

-- ---- what is spelled is spelled by nothing else

abbrev done : Inst → Result Inst Fault
done i = Ok i

pub same_body : (bound : ℕ) (xs ys : List Inst) → AreSpelled bound xs → AreSpelled bound ys → body_words xs ≡ body_words ys → xs ≡ ys
same_body bound [] [] p q e = refl
same_body bound [] (y ∷ ys) p q e = absurd (cc)
same_body bound (x ∷ xs) [] p q e = absurd (cc)
same_body bound (x ∷ xs) (y ∷ ys) p q e =
    let both : done x ≡ done y = sym (inst_again bound 0 x (body_words xs) (IsInst-first bound x xs p)) ∙ ap (inst_at bound 0) e ∙ inst_again bound 0 y (body_words ys) (IsInst-first bound y ys q) in
    let first : x ≡ y = cc in
    let others : body_words xs ≡ body_words ys = behind_same (inst_words x) (body_words xs) (body_words ys) (e ∙ ap (λ i. inst_words i ++ body_words ys) (sym first)) in
    let rest = same_body bound xs ys (AreSpelled-others bound x xs p) (AreSpelled-others bound y ys q) others in
    ap (λ i. i ∷ xs) first ∙ ap (λ is. y ∷ is) rest

-- ---- what the loop uses

-- the words of a slice
pub words_fit : (ws : List ℕ) → ((i : ℕ) → get_or ws i 0 < 2 ^ 32) → AllByRecursion IsWord ws
words_fit [] h = tt
words_fit (w ∷ ws) h = (record { below = h 0 }, words_fit ws (λ i. h (suc i)))

pub ruleset body_steps = (body_ends, body_count, body_more)
