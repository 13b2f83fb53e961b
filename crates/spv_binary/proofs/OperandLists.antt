-- Operands in a row: what is read is spelled, what is spelled is read, and the first fault among them.
use Rattle.std.proofs.Common.{◌≡◌, ℕ, ◌+◌, ◌<◌, ◌≤◌, ◌⊎◌, Bool, true, List, [], ◌∷◌, ◌++◌, length, take, drop, zero, suc, Result, Ok, Err, refl, sym, ap, subst, ◌∙◌, arith, inl, inr}
use Rattle.std.specs.Prelude.{◌&&◌}
use Rattle.std.specs.List.{flat_map, AllByRecursion}
use Rattle.std.proofs.lemmas.Bool.{and_parts, false≢true}
use Rattle.std.proofs.lemmas.List.{length-drop}
use Rattle.std.proofs.Math.Seq.{drop-append_seam}
use Rattle.spv_module.specs.declared.module.Operand.{Operand}
use Rattle.spv_module.specs.Grammar.{Kind, is_kind, are_kinds}
use Rattle.spv_module.specs.Words.{operand_words, IsWord}
use Rattle.spv_binary.specs.Faults.{Fault, width, fills, HasOperand, first_operand, later_operand, BadOperand}
use Rattle.spv_binary.specs.Reading.{◌>>=◌, operand_at, operands_at}
use Rattle.spv_binary.proofs.Operands.{AreOperands, AreOperands-nil, AreOperands-cons, AreOperands-first, AreOperands-others, operand_reads, IsBad, operand_fails, HasWords, operand_words-some, operand_again}
use Rattle.spv_binary.proofs.Shapes.{width-bounds}

-- ---- steps

-- the value of a step that did not fail
pub bind_ok : {A B : Type 0} (r : Result A Fault) (f : A → Result B Fault) (y : B) → (r >>= f) ≡ Ok y → (x : A) × (r ≡ Ok x) × (f x ≡ Ok y)
bind_ok (Ok x) f y e = (x, refl, e)
bind_ok (Err d) f y e = absurd (cc)

-- the step that failed
pub bind_err : {A B : Type 0} (r : Result A Fault) (f : A → Result B Fault) (g : Fault) → (r >>= f) ≡ Err g → (r ≡ Err g) ⊎ ((x : A) × (r ≡ Ok x) × (f x ≡ Err g))
bind_err (Ok x) f g e = inr (x, refl, e)
bind_err (Err d) f g e = inl (cc)

pub words-drop : (n : ℕ) (ws : List ℕ) → AllByRecursion IsWord ws → AllByRecursion IsWord (drop n ws)
words-drop zero ws h = h
words-drop (suc n) [] h = tt
words-drop (suc n) (w ∷ ws) h = words-drop n ws h.1

pub words-take : (n : ℕ) (ws : List ℕ) → AllByRecursion IsWord ws → AllByRecursion IsWord (take n ws)
words-take zero ws h = tt
words-take (suc n) [] h = tt
words-take (suc n) (w ∷ ws) h = (h.0, words-take n ws h.1)

abbrev all : List Operand → Result (List Operand) Fault
all os = Ok os

-- ---- what is read

pub record AreRead (bound : ℕ) (ks : List Kind) (at : ℕ) (ws : List ℕ) (os : List Operand) : Type 0 where
  pub kinds : are_kinds ks os ≡ true
  pub words : ws ≡ flat_map operand_words os
  pub operands : AreOperands bound os
  pub good : (k : Kind) (x : ℕ) (there : List ℕ) (n : ℕ) → HasOperand k x there ks at ws → BadOperand bound n k there → ⊥

no_operand : (k : Kind) (x at : ℕ) (there ws : List ℕ) → HasOperand k x there [] at ws → ⊥
no_operand k x at there ws h = elim h [ ]

all_good : (bound : ℕ) (j : Kind) (ks : List Kind) (at : ℕ) (ws : List ℕ) → ((n : ℕ) → BadOperand bound n j ws → ⊥) → ((k : Kind) (x : ℕ) (there : List ℕ) (n : ℕ) → HasOperand k x there ks (at + width j ws) (drop (width j ws) ws) → BadOperand bound n k there → ⊥) → (k : Kind) (x : ℕ) (there : List ℕ) (n : ℕ) → HasOperand k x there (j ∷ ks) at ws → BadOperand bound n k there → ⊥
all_good bound j ks at ws first others k x there n (first_operand ks2) bad = first n bad
all_good bound j ks at ws first others k x there n (later_operand j2 ks2 at2 ws2 h) bad = others k x there n h bad

pub operands_read : (bound : ℕ) (ks : List Kind) (at : ℕ) (ws : List ℕ) (os : List Operand) → fills ks ws ≡ true → AllByRecursion IsWord ws → operands_at bound ks at ws ≡ Ok os → AreRead bound ks at ws os
unfolding operands_at
operands_read bound [] at [] os fit h e =
    let is : [] ≡ os = cc in
    subst (AreRead bound [] at []) is (record { kinds = refl; words = refl; operands = AreOperands-nil bound; good = λ k x there n has bad. no_operand k x at there [] has })
operands_read bound [] at (w ∷ ws) os fit h e = absurd (false≢true fit)
operands_read bound (k ∷ ks) at [] os fit h e = absurd (false≢true fit)
operands_read bound (k ∷ ks) at (w ∷ ws) os fit h e =
    let n = width k (w ∷ ws) in
    let rest = drop n (w ∷ ws) in
    let a = bind_ok (operand_at bound k at (w ∷ ws)) (λ o. operands_at bound ks (at + n) rest >>= λ ps. all (o ∷ ps)) os e in
    let o = a.0 in
    let b = bind_ok (operands_at bound ks (at + n) rest) (λ ps. all (o ∷ ps)) os a.2 in
    let is : o ∷ b.0 ≡ os = let both : all (o ∷ b.0) ≡ all os = b.2 in cc in
    let first = operand_reads bound k at (w ∷ ws) o h a.1 in
    let others = operands_read bound ks (at + n) rest b.0 fit (words-drop n (w ∷ ws) h) b.1 in
    subst (AreRead bound (k ∷ ks) at (w ∷ ws)) is (record {
      kinds = ap (λ (c : Bool). c && are_kinds ks b.0) first.kind ∙ others.kinds;
      words = first.words ∙ ap (λ vs. operand_words o ++ vs) others.words;
      operands = AreOperands-cons bound o b.0 first.operand others.operands;
      good = all_good bound k ks at (w ∷ ws) first.good others.good;
    })

-- ---- the first fault

pub record AreBad (bound : ℕ) (ks : List Kind) (at : ℕ) (ws : List ℕ) (f : Fault) : Type 0 where
  pub kind : Kind
  pub there : List ℕ
  pub has : HasOperand kind f.word there ks at ws
  pub bad : BadOperand bound f.number kind there
  pub from : at ≤ f.word
  pub within : f.word < at + length ws
  pub earliest : (k : Kind) (x : ℕ) (there : List ℕ) (n : ℕ) → HasOperand k x there ks at ws → BadOperand bound n k there → f.word ≤ x
  pub least : (k : Kind) (x : ℕ) (there : List ℕ) (n : ℕ) → HasOperand k x there ks at ws → BadOperand bound n k there → x ≡ f.word → f.number ≤ n

pub HasOperand-from : (k : Kind) (x : ℕ) (there : List ℕ) (ks : List Kind) (at : ℕ) (ws : List ℕ) → HasOperand k x there ks at ws → at ≤ x
HasOperand-from k x there [] at ws h = elim h [ ]
HasOperand-from k x there (j ∷ ks) at ws (first_operand ks2) = omega arith
HasOperand-from k x there (j ∷ ks) at ws (later_operand j2 ks2 at2 ws2 h) = let p = HasOperand-from k x there ks (at + width j ws) (drop (width j ws) ws) h in omega arith

-- where the first operand is bad
module _ (bound : ℕ) (j : Kind) (ks : List Kind) (at w : ℕ) (ws : List ℕ) (f : Fault) (first : IsBad bound j at (w ∷ ws) f) where
  first_earliest : (k : Kind) (x : ℕ) (there : List ℕ) (n : ℕ) → HasOperand k x there (j ∷ ks) at (w ∷ ws) → BadOperand bound n k there → f.word ≤ x
  first_earliest k x there n has bad = let p = HasOperand-from k x there (j ∷ ks) at (w ∷ ws) has in let q = first.place in omega arith

  first_least : (k : Kind) (x : ℕ) (there : List ℕ) (n : ℕ) → HasOperand k x there (j ∷ ks) at (w ∷ ws) → BadOperand bound n k there → x ≡ f.word → f.number ≤ n
  first_least k x there n (first_operand ks2) bad e = first.only n bad
  first_least k x there n (later_operand j2 ks2 at2 ws2 h) bad e =
      let p = HasOperand-from k x there ks (at + width j (w ∷ ws)) (drop (width j (w ∷ ws)) (w ∷ ws)) h in
      let q = (width-bounds j w ws).0 in
      let r = first.place in
      absurd (omega arith)

-- where it is good
module _ (bound : ℕ) (j : Kind) (ks : List Kind) (at : ℕ) (ws : List ℕ) (f : Fault) (good : (n : ℕ) → BadOperand bound n j ws → ⊥) (others : AreBad bound ks (at + width j ws) (drop (width j ws) ws) f) where
  later_earliest : (k : Kind) (x : ℕ) (there : List ℕ) (n : ℕ) → HasOperand k x there (j ∷ ks) at ws → BadOperand bound n k there → f.word ≤ x
  later_earliest k x there n (first_operand ks2) bad = absurd (good n bad)
  later_earliest k x there n (later_operand j2 ks2 at2 ws2 h) bad = others.earliest k x there n h bad

  later_least : (k : Kind) (x : ℕ) (there : List ℕ) (n : ℕ) → HasOperand k x there (j ∷ ks) at ws → BadOperand bound n k there → x ≡ f.word → f.number ≤ n
  later_least k x there n (first_operand ks2) bad e = absurd (good n bad)
  later_least k x there n (later_operand j2 ks2 at2 ws2 h) bad e = others.least k x there n h bad e

pub operands_fail : (bound : ℕ) (ks : List Kind) (at : ℕ) (ws : List ℕ) (f : Fault) → fills ks ws ≡ true → AllByRecursion IsWord ws → operands_at bound ks at ws ≡ Err f → AreBad bound ks at ws f
unfolding operands_at
operands_fail bound [] at ws f fit h e = absurd (cc)
operands_fail bound (k ∷ ks) at [] f fit h e = absurd (false≢true fit)
operands_fail bound (k ∷ ks) at (w ∷ ws) f fit h e =
    let n = width k (w ∷ ws) in
    let rest = drop n (w ∷ ws) in
    let long = width-bounds k w ws in
    elim (bind_err (operand_at bound k at (w ∷ ws)) (λ o. operands_at bound ks (at + n) rest >>= λ ps. all (o ∷ ps)) f e) [
      | inl one ↦
          let first = operand_fails bound k at w ws f one in
          let p = first.place in
          record {
            kind = k;
            there = w ∷ ws;
            has = subst (λ x. HasOperand k x (w ∷ ws) (k ∷ ks) at (w ∷ ws)) (sym p) (first_operand ks);
            bad = first.bad;
            from = omega arith;
            within = omega arith;
            earliest = first_earliest bound k ks at w ws f first;
            least = first_least bound k ks at w ws f first;
          }
      | inr a ↦
          elim (bind_err (operands_at bound ks (at + n) rest) (λ ps. all (a.0 ∷ ps)) f a.2) [
            | inl more ↦
                let first = operand_reads bound k at (w ∷ ws) a.0 h a.1 in
                let others = operands_fail bound ks (at + n) rest f fit (words-drop n (w ∷ ws) h) more in
                let p = others.from in
                let q = others.within in
                record {
                  kind = others.kind;
                  there = others.there;
                  has = later_operand k ks at (w ∷ ws) others.has;
                  bad = others.bad;
                  from = omega arith;
                  within = omega (arith, length-drop n (w ∷ ws));
                  earliest = later_earliest bound k ks at (w ∷ ws) f first.good others;
                  least = later_least bound k ks at (w ∷ ws) f first.good others;
                }
            | inr b ↦ absurd (let no : all (a.0 ∷ b.0) ≡ Err f = b.2 in cc)
          ]
    ]

-- ---- what is spelled

HasWords-more : (ws rest : List ℕ) → HasWords ws → HasWords (ws ++ rest)
HasWords-more ws rest h = record { first = h.first; others = h.others ++ rest; is = ap (λ vs. vs ++ rest) h.is }

pub operands-some : (o : Operand) (os : List Operand) → HasWords (flat_map operand_words (o ∷ os))
operands-some o os = HasWords-more (operand_words o) (flat_map operand_words os) (operand_words-some o)

fills-step : (k : Kind) (ks : List Kind) (ws : List ℕ) → HasWords ws → fills (k ∷ ks) ws ≡ fills ks (drop (width k ws) ws)
fills-step k ks ws h = subst (λ vs. fills (k ∷ ks) vs ≡ fills ks (drop (width k vs) vs)) (sym h.is) refl

-- the words behind the first operand
pub behind_first : (bound : ℕ) (k : Kind) (o : Operand) (os : List Operand) → is_kind k o ≡ true → AreOperands bound (o ∷ os) → drop (width k (flat_map operand_words (o ∷ os))) (flat_map operand_words (o ∷ os)) ≡ flat_map operand_words os
behind_first bound k o os e h =
    let again = operand_again bound k 0 o (flat_map operand_words os) e (AreOperands-first bound o os h) in
    ap (λ n. drop n (flat_map operand_words (o ∷ os))) again.1 ∙ drop-append_seam (operand_words o) (flat_map operand_words os)

pub operands_again : (bound : ℕ) (ks : List Kind) (at : ℕ) (os : List Operand) → are_kinds ks os ≡ true → AreOperands bound os → (operands_at bound ks at (flat_map operand_words os) ≡ Ok os) × (fills ks (flat_map operand_words os) ≡ true)
unfolding operands_at
operands_again bound [] at [] e h = (refl, refl)
operands_again bound [] at (o ∷ os) e h = absurd (false≢true e)
operands_again bound (k ∷ ks) at [] e h = absurd (false≢true e)
operands_again bound (k ∷ ks) at (o ∷ os) e h =
    let p = and_parts (is_kind k o) (are_kinds ks os) e in
    let ws = flat_map operand_words (o ∷ os) in
    let one = operand_again bound k at o (flat_map operand_words os) p.0 (AreOperands-first bound o os h) in
    let rest = behind_first bound k o os p.0 h in
    let others = operands_again bound ks (at + width k ws) os p.1 (AreOperands-others bound o os h) in
    let left : operands_at bound ks (at + width k ws) (drop (width k ws) ws) ≡ Ok os = ap (operands_at bound ks (at + width k ws)) rest ∙ others.0 in (
      ap (λ r. r >>= λ q. operands_at bound ks (at + width k ws) (drop (width k ws) ws) >>= λ qs. all (q ∷ qs)) one.0 ∙ ap (λ r. r >>= λ qs. all (o ∷ qs)) left,
      fills-step k ks ws (operands-some o os) ∙ ap (fills ks) rest ∙ others.1,
    )
