-- An instruction that is read is spelled by its words, and one that is spelled is read; where none is read, the first fault.
use Rattle.std.proofs.Common.{◌≡◌, ℕ, ◌+◌, ◌-◌, ◌*◌, ◌<◌, ◌≤◌, ◌⊎◌, Bool, true, false, List, ◌∷◌, ◌++◌, length, drop, suc, Option, None, Some, Result, Ok, Err, refl, sym, ap, subst, ◌∙◌, arith, inl, inr}
use Rattle.std.specs.Prelude.{nat_le, if◌then◌else◌}
use Rattle.std.specs.List.{flat_map, AllByRecursion}
use Rattle.std.proofs.lemmas.Bool.{and_parts, and_from, and_cases, leb-true, leb-false, le-leb, both_ways}
use Rattle.std.proofs.lemmas.List.{length-take, length-append, take_at, take-append-drop}
use Rattle.spv_module.specs.declared.module.Inst.{Inst}
use Rattle.spv_module.specs.declared.module.Operand.{Operand}
use Rattle.spv_module.specs.Grammar.{Kind, Row, row_of, has_form, fits_row, are_kinds}
use Rattle.spv_module.specs.Words.{operand_words, word_count, inst_words, HasForm, HasCount, IsWord}
use Rattle.spv_module.proofs.Fitting.{HasRow-has_form}
use Rattle.spv_binary.specs.declared.stop.rule.TheConstants as rule
use Rattle.spv_binary.specs.Faults.{Fault, fault, fills, operand_kinds, count_of, opcode_of, operand_part, HasOperand, BadOperand, BrokenInst, wrong_count, unknown_opcode, wrong_form, bad_operand, IsFirst}
use Rattle.spv_binary.specs.Reading.{◌>>=◌, operands_at, is_count, inst_with, inst_at}
use Rattle.spv_binary.proofs.Operands.{AreOperands}
use Rattle.spv_binary.proofs.OperandLists.{HasOperand-from, bind_ok, bind_err, words-take, operands_read, operands_fail, operands_again}
use Rattle.spv_binary.proofs.Forms.{form_same}
use Rattle.spv_binary.proofs.Table.{opcode_small}

-- ---- what an instruction is

pub record IsInst (bound : ℕ) (i : Inst) : Type 0 where
  pub form : HasForm i
  pub count : HasCount i
  pub operands : AreOperands bound i.operands

-- ---- counts

count_passes : (n : ℕ) (others : List ℕ) → is_count n others ≡ true → (1 ≤ n) × (n ≤ suc (length others))
count_passes n others e = let p = and_parts (nat_le 1 n) (nat_le n (suc (length others))) e in (leb-true _ _ p.0, leb-true _ _ p.1)

count_from : (n : ℕ) (others : List ℕ) → 1 ≤ n → n ≤ suc (length others) → is_count n others ≡ true
count_from n others p q = and_from (nat_le 1 n) (nat_le n (suc (length others))) (le-leb _ _ p) (le-leb _ _ q)

count_fails : (n : ℕ) (others : List ℕ) → is_count n others ≡ false → (n ≡ 0) ⊎ (suc (length others) < n)
count_fails n others e = elim (and_cases (nat_le 1 n) (nat_le n (suc (length others))) e) [ inl p ↦ inl (let h = leb-false 1 n p in omega arith) | inr p ↦ inr (leb-false _ _ p) ]

-- ---- where rules of an instruction are broken

module _ (bound at first : ℕ) (others : List ℕ) where
  pub BrokenInst-from : (g : Fault) → BrokenInst bound at first others g → at ≤ g.word
  BrokenInst-from g (wrong_count e h) = let w = ap (λ (x : Fault). x.word) e in omega arith
  BrokenInst-from g (unknown_opcode e h) = let w = ap (λ (x : Fault). x.word) e in omega arith
  BrokenInst-from g (wrong_form r e h fit) = let w = ap (λ (x : Fault). x.word) e in omega arith
  BrokenInst-from g (bad_operand r k there h has bad) = let w = HasOperand-from k g.word there (operand_kinds r (operand_part first others)) (suc at) (operand_part first others) has in omega arith

  -- at its first word
  least_count : (g : Fault) → BrokenInst bound at first others g → g.word ≡ at → rule.COUNT ≤ g.number
  least_count g (wrong_count e h) w = let n = ap (λ (x : Fault). x.number) e in omega arith
  least_count g (unknown_opcode e h) w = let n = ap (λ (x : Fault). x.number) e in omega arith
  least_count g (wrong_form r e h fit) w = let n = ap (λ (x : Fault). x.number) e in omega arith
  least_count g (bad_operand r k there h has bad) w = let v = HasOperand-from k g.word there (operand_kinds r (operand_part first others)) (suc at) (operand_part first others) has in absurd (omega arith)

  good_count : 1 ≤ count_of first → count_of first ≤ suc (length others) → (count_of first ≡ 0) ⊎ (suc (length others) < count_of first) → ⊥
  good_count some within bad = elim bad [ inl e ↦ absurd (omega arith) | inr e ↦ absurd (omega arith) ]

  module _ (some : 1 ≤ count_of first) (within : count_of first ≤ suc (length others)) where
    least_opcode : (g : Fault) → BrokenInst bound at first others g → g.word ≡ at → rule.OPCODE ≤ g.number
    least_opcode g (wrong_count e h) w = absurd (good_count some within h)
    least_opcode g (unknown_opcode e h) w = let n = ap (λ (x : Fault). x.number) e in omega arith
    least_opcode g (wrong_form r e h fit) w = let n = ap (λ (x : Fault). x.number) e in omega arith
    least_opcode g (bad_operand r k there h has bad) w = let v = HasOperand-from k g.word there (operand_kinds r (operand_part first others)) (suc at) (operand_part first others) has in absurd (omega arith)

    module _ (r : Row) (known : row_of (opcode_of first) ≡ Some r) where
      same_row : (q : Row) → row_of (opcode_of first) ≡ Some q → q ≡ r
      same_row q e = let both : Some q ≡ Some r = sym e ∙ known in cc

      least_form : (g : Fault) → BrokenInst bound at first others g → g.word ≡ at → rule.FORM ≤ g.number
      least_form g (wrong_count e h) w = absurd (good_count some within h)
      least_form g (unknown_opcode e h) w = absurd (let no : None ≡ Some r = sym h ∙ known in cc)
      least_form g (wrong_form q e h fit) w = let n = ap (λ (x : Fault). x.number) e in omega arith
      least_form g (bad_operand q k there h has bad) w = let v = HasOperand-from k g.word there (operand_kinds q (operand_part first others)) (suc at) (operand_part first others) has in absurd (omega arith)

      -- where its words are as many as its operands take, only operands are bad
      module _ (fit : fills (operand_kinds r (operand_part first others)) (operand_part first others) ≡ true) where
        record HasBadOperand (g : Fault) : Type 0 where
          kind : Kind
          there : List ℕ
          has : HasOperand kind g.word there (operand_kinds r (operand_part first others)) (suc at) (operand_part first others)
          bad : BadOperand bound g.number kind there

        in_operands : (g : Fault) → BrokenInst bound at first others g → HasBadOperand g
        in_operands g (wrong_count e h) = absurd (good_count some within h)
        in_operands g (unknown_opcode e h) = absurd (let no : None ≡ Some r = sym h ∙ known in cc)
        in_operands g (wrong_form q e h misfit) = absurd (both_ways (fills (operand_kinds r (operand_part first others)) (operand_part first others)) (subst (λ p. fills (operand_kinds p (operand_part first others)) (operand_part first others) ≡ false) (same_row q h) misfit) fit)
        in_operands g (bad_operand q k there h has bad) = record {
          kind = k;
          there = there;
          has = subst (λ p. HasOperand k g.word there (operand_kinds p (operand_part first others)) (suc at) (operand_part first others)) (same_row q h) has;
          bad = bad;
        }

-- ---- an instruction that is read

-- it stands first among words, and breaks no rule
pub record IsReadInst (bound at first : ℕ) (others : List ℕ) (i : Inst) : Type 0 where
  pub inst : IsInst bound i
  pub some : 1 ≤ count_of first
  pub within : count_of first ≤ suc (length others)
  pub words : first ∷ others ≡ inst_words i ++ drop (count_of first) (first ∷ others)
  pub good : (f : Fault) → BrokenInst bound at first others f → ⊥

chosen : {A : Type 0} (b : Bool) (x y z : A) → (if b then x else y) ≡ z → ((b ≡ true) × (x ≡ z)) ⊎ ((b ≡ false) × (y ≡ z))
chosen true x y z e = inl (refl, e)
chosen false x y z e = inr (refl, e)

abbrev done : Inst → Result Inst Fault
done i = Ok i

abbrev with_operands : ℕ → List Operand → Result Inst Fault
with_operands n os = done (record { op = n; operands = os })

-- the row and the operands of what inst_with gives
record HasOperands (bound at n : ℕ) (o : Option Row) (ws : List ℕ) (i : Inst) : Type 0 where
  row : Row
  known : o ≡ Some row
  fit : fills (operand_kinds row ws) ws ≡ true
  operands : List Operand
  read : operands_at bound (operand_kinds row ws) (suc at) ws ≡ Ok operands
  is : record { op = n; operands = operands } ≡ i

with_row : (bound at n : ℕ) (o : Option Row) (ws : List ℕ) (i : Inst) → inst_with bound at n o ws ≡ Ok i → HasOperands bound at n o ws i
with_row bound at n None ws i e = absurd (cc)
with_row bound at n (Some r) ws i e =
    elim (chosen (fills (operand_kinds r ws) ws) (operands_at bound (operand_kinds r ws) (suc at) ws >>= with_operands n) (Err (fault rule.FORM at)) (Ok i) e) [
      | inl p ↦
          let a = bind_ok (operands_at bound (operand_kinds r ws) (suc at) ws) (with_operands n) i p.1 in
          record { row = r; known = refl; fit = p.0; operands = a.0; read = a.1; is = let both : with_operands n a.0 ≡ done i = a.2 in cc }
      | inr p ↦ absurd (let no : Err (fault rule.FORM at) ≡ done i = p.1 in cc)
    ]

-- the words of the instruction, and those behind it
split_words : (first : ℕ) (others : List ℕ) → 1 ≤ count_of first → first ∷ others ≡ first ∷ (operand_part first others ++ drop (count_of first) (first ∷ others))
split_words first others some =
    let n : count_of first ≡ suc (count_of first - 1) = omega arith in
    let left : drop (count_of first) (first ∷ others) ≡ drop (count_of first - 1) others = ap (λ m. drop m (first ∷ others)) n in
    ap (λ ws. first ∷ ws) (sym (take-append-drop (count_of first - 1) others) ∙ ap (λ ws. operand_part first others ++ ws) (sym left))

length-part : (first : ℕ) (others : List ℕ) → 1 ≤ count_of first → count_of first ≤ suc (length others) → suc (length (operand_part first others)) ≡ count_of first
length-part first others some within = omega (arith, length-take (count_of first - 1) others)

pub inst_reads : (bound at first : ℕ) (others : List ℕ) (i : Inst) → AllByRecursion IsWord (first ∷ others) → inst_at bound at (first ∷ others) ≡ Ok i → IsReadInst bound at first others i
unfolding inst_at
inst_reads bound at first others i h e =
    let op = opcode_of first in
    let part = operand_part first others in
    elim (chosen (is_count (count_of first) others) (inst_with bound at op (row_of op) part) (Err (fault rule.COUNT at)) (Ok i) e) [
      | inr p ↦ absurd (let no : Err (fault rule.COUNT at) ≡ done i = p.1 in cc)
      | inl p ↦
          let count = count_passes (count_of first) others p.0 in
          let a = with_row bound at op (row_of op) part i p.1 in
          let b = operands_read bound (operand_kinds a.row part) (suc at) part a.operands a.fit (words-take (count_of first - 1) others h.1) a.read in
          let kinds : are_kinds (operand_kinds a.row (flat_map operand_words a.operands)) a.operands ≡ true = ap (λ ws. are_kinds (operand_kinds a.row ws) a.operands) (sym b.words) ∙ b.kinds in
          let form : has_form op a.operands ≡ true = ap (λ o. fits_row o a.operands) a.known ∙ sym (form_same bound a.row a.operands b.operands) ∙ kinds in
          let long = length-part first others count.0 count.1 in
          let counted : 1 + length (flat_map operand_words a.operands) ≡ count_of first = let same = ap length b.words in omega arith in
          let small = h.0.below in
          let first_is : first ≡ (1 + length (flat_map operand_words a.operands)) * 65536 + op = omega arith in
          let words : first ∷ others ≡ inst_words (record { op = op; operands = a.operands }) ++ drop (count_of first) (first ∷ others) =
          split_words first others count.0
          ∙ ap (λ ws. first ∷ (ws ++ drop (count_of first) (first ∷ others))) b.words
          ∙ ap (λ w. w ∷ (flat_map operand_words a.operands ++ drop (count_of first) (first ∷ others))) first_is in
          subst (IsReadInst bound at first others) a.is (record {
            inst = record { form = record { form = form }; count = record { count = omega arith }; operands = b.operands };
            some = count.0;
            within = count.1;
            words = words;
            good = λ f broken. let g = in_operands bound at first others count.0 count.1 a.row a.known a.fit f broken in b.good g.kind f.word g.there f.number g.has g.bad;
          })
    ]

-- ---- the first fault of an instruction

pub record IsBadInst (bound at first : ℕ) (others : List ℕ) (f : Fault) : Type 0 where
  pub first_fault : IsFirst (BrokenInst bound at first others) f
  pub within : 1 ≤ count_of first → count_of first ≤ suc (length others) → f.word < at + count_of first
  pub inside : f.word < at + suc (length others)

at_first : (bound at first number : ℕ) (others : List ℕ) → BrokenInst bound at first others (fault number at) → ((g : Fault) → BrokenInst bound at first others g → g.word ≡ at → number ≤ g.number) → IsBadInst bound at first others (fault number at)
at_first bound at first number others broken least = record {
  first_fault = record { fault = broken; earliest = BrokenInst-from bound at first others; least = least };
  within = λ some within. omega arith;
  inside = omega arith;
}

abbrev failed : Fault → Result Inst Fault
failed f = Err f

-- why inst_with fails
data FailsBy (bound at n : ℕ) (o : Option Row) (ws : List ℕ) (f : Fault) : Type 0 where
  no_row : o ≡ None → fault rule.OPCODE at ≡ f → FailsBy bound at n o ws f
  no_fit : (r : Row) → o ≡ Some r → fills (operand_kinds r ws) ws ≡ false → fault rule.FORM at ≡ f → FailsBy bound at n o ws f
  no_operand : (r : Row) → o ≡ Some r → fills (operand_kinds r ws) ws ≡ true → operands_at bound (operand_kinds r ws) (suc at) ws ≡ Err f → FailsBy bound at n o ws f

fails_by : (bound at n : ℕ) (o : Option Row) (ws : List ℕ) (f : Fault) → inst_with bound at n o ws ≡ Err f → FailsBy bound at n o ws f
fails_by bound at n None ws f e = no_row refl (cc)
fails_by bound at n (Some r) ws f e =
    elim (chosen (fills (operand_kinds r ws) ws) (operands_at bound (operand_kinds r ws) (suc at) ws >>= with_operands n) (Err (fault rule.FORM at)) (Err f) e) [
      | inl p ↦
          elim (bind_err (operands_at bound (operand_kinds r ws) (suc at) ws) (with_operands n) f p.1) [
            | inl q ↦ no_operand r refl p.0 q
            | inr q ↦ absurd (let no : with_operands n q.0 ≡ failed f = q.2 in cc)
          ]
      | inr p ↦ no_fit r refl p.0 (let both : failed (fault rule.FORM at) ≡ failed f = p.1 in cc)
    ]

pub inst_fails : (bound at first : ℕ) (others : List ℕ) (f : Fault) → AllByRecursion IsWord (first ∷ others) → inst_at bound at (first ∷ others) ≡ Err f → IsBadInst bound at first others f
unfolding inst_at
inst_fails bound at first others f h e =
    let op = opcode_of first in
    let part = operand_part first others in
    elim (chosen (is_count (count_of first) others) (inst_with bound at op (row_of op) part) (Err (fault rule.COUNT at)) (Err f) e) [
      | inr p ↦
          let is : fault rule.COUNT at ≡ f = let both : failed (fault rule.COUNT at) ≡ failed f = p.1 in cc in
          subst (IsBadInst bound at first others) is (at_first bound at first rule.COUNT others (wrong_count refl (count_fails (count_of first) others p.0)) (least_count bound at first others))
      | inl p ↦
          let count = count_passes (count_of first) others p.0 in
          elim (fails_by bound at op (row_of op) part f p.1) [
            | no_row none is ↦ subst (IsBadInst bound at first others) is (at_first bound at first rule.OPCODE others (unknown_opcode refl none) (least_opcode bound at first others count.0 count.1))
            | no_fit r known misfit is ↦ subst (IsBadInst bound at first others) is (at_first bound at first rule.FORM others (wrong_form r refl known misfit) (least_form bound at first others count.0 count.1 r known))
            | no_operand r known fit read ↦
                let bad = operands_fail bound (operand_kinds r part) (suc at) part f fit (words-take (count_of first - 1) others h.1) read in
                record {
                  first_fault = record {
                    fault = bad_operand r bad.kind bad.there known bad.has bad.bad;
                    earliest = λ g broken. let b = in_operands bound at first others count.0 count.1 r known fit g broken in bad.earliest b.kind g.word b.there g.number b.has b.bad;
                    least = λ g broken same. let b = in_operands bound at first others count.0 count.1 r known fit g broken in bad.least b.kind g.word b.there g.number b.has b.bad same;
                  };
                  within = λ some within. let q = bad.within in omega (arith, length-part first others some within);
                  inside = let q = bad.within in omega (arith, length-take (count_of first - 1) others);
                }
          ]
    ]

-- ---- an instruction that is spelled

pub inst_again : (bound at : ℕ) (i : Inst) (rest : List ℕ) → IsInst bound i → inst_at bound at (inst_words i ++ rest) ≡ Ok i
unfolding inst_at
inst_again bound at i rest h =
    let os = i.operands in
    let ws = flat_map operand_words os in
    let first = word_count i * 65536 + i.op in
    let a = HasRow-has_form i.op os h.form.form in
    let small = opcode_small i.op a.row a.is in
    let count : count_of first ≡ word_count i = omega arith in
    let op : opcode_of first ≡ i.op = omega arith in
    let part : operand_part first (ws ++ rest) ≡ ws = take_at ws rest (count_of first - 1) (omega arith) in
    let within : is_count (count_of first) (ws ++ rest) ≡ true = count_from (count_of first) (ws ++ rest) (omega arith) (omega (arith, length-append ws rest)) in
    let kinds : are_kinds (operand_kinds a.row ws) os ≡ true = form_same bound a.row os h.operands ∙ a.fit in
    let read = operands_again bound (operand_kinds a.row ws) (suc at) os kinds h.operands in
    ap (λ (b : Bool). if b then inst_with bound at (opcode_of first) (row_of (opcode_of first)) (operand_part first (ws ++ rest)) else Err (fault rule.COUNT at)) within
    ∙ ap (λ n. inst_with bound at n (row_of n) (operand_part first (ws ++ rest))) op
    ∙ ap (λ vs. inst_with bound at i.op (row_of i.op) vs) part
    ∙ ap (λ o. inst_with bound at i.op o ws) a.is
    ∙ ap (λ (b : Bool). if b then (operands_at bound (operand_kinds a.row ws) (suc at) ws >>= with_operands i.op) else Err (fault rule.FORM at)) read.1
    ∙ ap (λ r. r >>= with_operands i.op) read.0
