-- An operand that is read is spelled by its words, and one that is spelled is read; where none is read, the rule is broken.
use Rattle.std.proofs.Common.{◌≡◌, ℕ, ◌≤◌, ◌⊎◌, Bool, true, false, List, [], ◌∷◌, ◌++◌, length, drop, Option, None, Some, Result, Ok, Err, refl, sym, ap, subst, ◌∙◌, arith, inl, inr}
use Rattle.std.specs.Prelude.{All, nat_le, nat_lt}
use Rattle.std.specs.List.{flat_map, AllByRecursion}
use Rattle.std.proofs.lemmas.Bool.{and_parts, and_from, and_cases, ltb-true, ltb-false, leb-true, leb-false, lt-ltb, le-leb, both_ways, false≢true}
use Rattle.std.proofs.lemmas.List.Elements.{All-append, All-nil, All-cons, All-head}
use Rattle.spv_module.proofs.Spelling.{All-left, All-right}
use Rattle.spv_module.specs.declared.module.Operand.{Operand}
use Rattle.spv_module.specs.declared.module.Operand.TheVariants.{Id, Word, Str}
use Rattle.spv_module.specs.Grammar.{Kind, AnId, AnyWord, OneOf, AText, is_among, is_kind}
use Rattle.spv_module.specs.Words.{string_words, operand_words, operand_ids, operand_numbers, operand_texts, IsIdBelow, IsWord, IsString}
use Rattle.spv_binary.specs.declared.stop.rule.TheConstants as rule
use Rattle.spv_binary.specs.Faults.{Fault, fault, width, string_len, BadOperand, unknown_enumerant, no_string, wrong_id}
use Rattle.spv_binary.specs.Reading.{◌>>=◌, demand, is_id, text_or, string_at, operand_at}
use Rattle.spv_binary.proofs.Texts.{string_again, string_len_again, string_takes, no_string as none_spelled}

-- ---- what operands hold

pub record AreOperands (bound : ℕ) (os : List Operand) : Type 0 where
  pub ids : All (IsIdBelow bound) (flat_map operand_ids os)
  pub numbers : All IsWord (flat_map operand_numbers os)
  pub texts : All IsString (flat_map operand_texts os)

-- one operand
pub record IsOperand (bound : ℕ) (o : Operand) : Type 0 where
  pub ids : All (IsIdBelow bound) (operand_ids o)
  pub numbers : All IsWord (operand_numbers o)
  pub texts : All IsString (operand_texts o)

pub AreOperands-nil : (bound : ℕ) → AreOperands bound []
AreOperands-nil bound = record { ids = All-nil (IsIdBelow bound); numbers = All-nil IsWord; texts = All-nil IsString }

pub AreOperands-cons : (bound : ℕ) (o : Operand) (os : List Operand) → IsOperand bound o → AreOperands bound os → AreOperands bound (o ∷ os)
AreOperands-cons bound o os p q = record {
  ids = All-append (IsIdBelow bound) (operand_ids o) (flat_map operand_ids os) p.ids q.ids;
  numbers = All-append IsWord (operand_numbers o) (flat_map operand_numbers os) p.numbers q.numbers;
  texts = All-append IsString (operand_texts o) (flat_map operand_texts os) p.texts q.texts;
}

pub AreOperands-first : (bound : ℕ) (o : Operand) (os : List Operand) → AreOperands bound (o ∷ os) → IsOperand bound o
AreOperands-first bound o os p = record {
  ids = All-left (IsIdBelow bound) (operand_ids o) (flat_map operand_ids os) p.ids;
  numbers = All-left IsWord (operand_numbers o) (flat_map operand_numbers os) p.numbers;
  texts = All-left IsString (operand_texts o) (flat_map operand_texts os) p.texts;
}

pub AreOperands-others : (bound : ℕ) (o : Operand) (os : List Operand) → AreOperands bound (o ∷ os) → AreOperands bound os
AreOperands-others bound o os p = record {
  ids = All-right (IsIdBelow bound) (operand_ids o) (flat_map operand_ids os) p.ids;
  numbers = All-right IsWord (operand_numbers o) (flat_map operand_numbers os) p.numbers;
  texts = All-right IsString (operand_texts o) (flat_map operand_texts os) p.texts;
}

an_id : (bound n : ℕ) → IsIdBelow bound n → IsOperand bound (Id n)
an_id bound n h = record { ids = All-cons (IsIdBelow bound) n [] h (All-nil (IsIdBelow bound)); numbers = All-nil IsWord; texts = All-nil IsString }

a_word : (bound n : ℕ) → IsWord n → IsOperand bound (Word n)
a_word bound n h = record { ids = All-nil (IsIdBelow bound); numbers = All-cons IsWord n [] h (All-nil IsWord); texts = All-nil IsString }

a_text : (bound : ℕ) (s : List ℕ) → IsString s → IsOperand bound (Str s)
a_text bound s h = record { ids = All-nil (IsIdBelow bound); numbers = All-nil IsWord; texts = All-cons IsString s [] h (All-nil IsString) }

-- ---- tests

id_passes : (bound n : ℕ) → is_id bound n ≡ true → IsIdBelow bound n
id_passes bound n e = let p = and_parts (nat_le 1 n) (nat_lt n bound) e in record { positive = leb-true 1 n p.0; below = ltb-true n bound p.1 }

id_from : (bound n : ℕ) → IsIdBelow bound n → is_id bound n ≡ true
id_from bound n h = and_from (nat_le 1 n) (nat_lt n bound) (le-leb 1 n h.positive) (lt-ltb n bound h.below)

id_fails : (bound n : ℕ) → is_id bound n ≡ false → (n ≡ 0) ⊎ (bound ≤ n)
id_fails bound n e = elim (and_cases (nat_le 1 n) (nat_lt n bound) e) [ inl p ↦ inl (let h = leb-false 1 n p in omega arith) | inr p ↦ inr (ltb-false n bound p) ]

id_bad : (bound n : ℕ) → IsIdBelow bound n → (n ≡ 0) ⊎ (bound ≤ n) → ⊥
id_bad bound n h bad = let p = h.positive in let q = h.below in elim bad [ inl e ↦ absurd (omega arith) | inr e ↦ absurd (omega arith) ]

abbrev made : Operand → Result Operand Fault
made o = Ok o

passes : (b : Bool) (f : Fault) (x o : Operand) → (demand b f >>= λ passed. made x) ≡ Ok o → (b ≡ true) × (x ≡ o)
passes true f x o e = (refl, cc)
passes false f x o e = absurd (cc)

fails : (b : Bool) (f g : Fault) (x : Operand) → (demand b f >>= λ passed. made x) ≡ Err g → (b ≡ false) × (f ≡ g)
fails true f g x e = absurd (cc)
fails false f g x e = (refl, cc)

text_passes : (o : Option (List ℕ)) (at : ℕ) (x : Operand) → text_or o at ≡ Ok x → (s : List ℕ) × (o ≡ Some s) × (Str s ≡ x)
text_passes None at x e = absurd (cc)
text_passes (Some s) at x e = (s, refl, cc)

text_fails : (o : Option (List ℕ)) (at : ℕ) (f : Fault) → text_or o at ≡ Err f → (o ≡ None) × (fault rule.STRING at ≡ f)
text_fails None at f e = (refl, cc)
text_fails (Some s) at f e = absurd (cc)

-- ---- one operand that is read

pub record IsRead (bound : ℕ) (k : Kind) (ws : List ℕ) (o : Operand) : Type 0 where
  pub kind : is_kind k o ≡ true
  pub words : ws ≡ operand_words o ++ drop (width k ws) ws
  pub operand : IsOperand bound o
  pub good : (number : ℕ) → BadOperand bound number k ws → ⊥

good_id : (bound number w : ℕ) (ws : List ℕ) → IsIdBelow bound w → BadOperand bound number AnId (w ∷ ws) → ⊥
good_id bound number w ws h (wrong_id v vs n bad) = id_bad bound w h bad

good_word : (bound number w : ℕ) (ws : List ℕ) → BadOperand bound number AnyWord (w ∷ ws) → ⊥
good_word bound number w ws bad = elim bad [ ]

good_enumerant : (bound number w : ℕ) (ns ws : List ℕ) → is_among ns w ≡ true → BadOperand bound number (OneOf ns) (w ∷ ws) → ⊥
good_enumerant bound number w ns ws h (unknown_enumerant ms v vs n bad) = both_ways (is_among ns w) bad h

good_text : (bound number : ℕ) (s ws others : List ℕ) → IsString s → ws ≡ string_words s ++ others → BadOperand bound number AText ws → ⊥
good_text bound number s ws others h is (no_string vs n none) = none s others h is

pub operand_reads : (bound : ℕ) (k : Kind) (at : ℕ) (ws : List ℕ) (o : Operand) → AllByRecursion IsWord ws → operand_at bound k at ws ≡ Ok o → IsRead bound k ws o
unfolding operand_at
operand_reads bound k at [] o h e = absurd (cc)
operand_reads bound AnId at (w ∷ ws) o h e =
    let p = passes (is_id bound w) (fault rule.ID at) (Id w) o e in
    let is = id_passes bound w p.0 in
    subst (IsRead bound AnId (w ∷ ws)) p.1 (record { kind = refl; words = refl; operand = an_id bound w is; good = λ n bad. good_id bound n w ws is bad })
operand_reads bound AnyWord at (w ∷ ws) o h e =
    let is : Word w ≡ o = cc in
    subst (IsRead bound AnyWord (w ∷ ws)) is (record { kind = refl; words = refl; operand = a_word bound w h.0; good = λ n bad. good_word bound n w ws bad })
operand_reads bound (OneOf ns) at (w ∷ ws) o h e =
    let p = passes (is_among ns w) (fault rule.FORM at) (Word w) o e in
    subst (IsRead bound (OneOf ns) (w ∷ ws)) p.1 (record { kind = p.0; words = refl; operand = a_word bound w h.0; good = λ n bad. good_enumerant bound n w ns ws p.0 bad })
operand_reads bound AText at (w ∷ ws) o h e =
    let p = text_passes (string_at (w ∷ ws)) at o e in
    let s = p.0 in
    let t = string_takes (w ∷ ws) s h p.1 in
    subst (IsRead bound AText (w ∷ ws)) p.2 (record { kind = refl; words = t.1; operand = a_text bound s t.0; good = λ n bad. good_text bound n s (w ∷ ws) (drop (string_len (w ∷ ws)) (w ∷ ws)) t.0 t.1 bad })

-- ---- one operand at which a rule is broken

pub record IsBad (bound : ℕ) (k : Kind) (at : ℕ) (ws : List ℕ) (f : Fault) : Type 0 where
  pub place : f.word ≡ at
  pub bad : BadOperand bound f.number k ws
  pub only : (n : ℕ) → BadOperand bound n k ws → f.number ≤ n

number_id : (bound number w : ℕ) (ws : List ℕ) → BadOperand bound number AnId (w ∷ ws) → number ≡ rule.ID
number_id bound number w ws (wrong_id v vs n bad) = n

number_enumerant : (bound number w : ℕ) (ns ws : List ℕ) → BadOperand bound number (OneOf ns) (w ∷ ws) → number ≡ rule.FORM
number_enumerant bound number w ns ws (unknown_enumerant ms v vs n bad) = n

number_text : (bound number : ℕ) (ws : List ℕ) → BadOperand bound number AText ws → number ≡ rule.STRING
number_text bound number ws (no_string vs n none) = n

pub operand_fails : (bound : ℕ) (k : Kind) (at w : ℕ) (ws : List ℕ) (f : Fault) → operand_at bound k at (w ∷ ws) ≡ Err f → IsBad bound k at (w ∷ ws) f
unfolding operand_at
operand_fails bound AnId at w ws f e =
    let p = fails (is_id bound w) (fault rule.ID at) f (Id w) e in
    subst (IsBad bound AnId at (w ∷ ws)) p.1 (record { place = refl; bad = wrong_id w ws refl (id_fails bound w p.0); only = λ n bad. let h = number_id bound n w ws bad in omega arith })
operand_fails bound AnyWord at w ws f e = absurd (cc)
operand_fails bound (OneOf ns) at w ws f e =
    let p = fails (is_among ns w) (fault rule.FORM at) f (Word w) e in
    subst (IsBad bound (OneOf ns) at (w ∷ ws)) p.1 (record { place = refl; bad = unknown_enumerant ns w ws refl p.0; only = λ n bad. let h = number_enumerant bound n w ns ws bad in omega arith })
operand_fails bound AText at w ws f e =
    let p = text_fails (string_at (w ∷ ws)) at f e in
    subst (IsBad bound AText at (w ∷ ws)) p.1 (record { place = refl; bad = no_string (w ∷ ws) refl (λ s others h is. none_spelled (w ∷ ws) s others p.0 h is); only = λ n bad. let h = number_text bound n (w ∷ ws) bad in omega arith })

-- ---- one operand that is spelled

pub record HasWords (ws : List ℕ) : Type 0 where
  pub first : ℕ
  pub others : List ℕ
  pub is : ws ≡ first ∷ others

string_words-some : (s : List ℕ) → HasWords (string_words s)
string_words-some [] = record { first = _; others = _; is = refl }
string_words-some (a ∷ []) = record { first = _; others = _; is = refl }
string_words-some (a ∷ b ∷ []) = record { first = _; others = _; is = refl }
string_words-some (a ∷ b ∷ c ∷ []) = record { first = _; others = _; is = refl }
string_words-some (a ∷ b ∷ c ∷ d ∷ s) = record { first = _; others = _; is = refl }

pub operand_words-some : (o : Operand) → HasWords (operand_words o)
operand_words-some (Id n) = record { first = n; others = []; is = refl }
operand_words-some (Word n) = record { first = n; others = []; is = refl }
operand_words-some (Str s) = string_words-some s

text_at : (bound at : ℕ) (ws : List ℕ) → HasWords ws → operand_at bound AText at ws ≡ text_or (string_at ws) at
unfolding operand_at
text_at bound at ws h = subst (λ vs. operand_at bound AText at vs ≡ text_or (string_at vs) at) (sym h.is) refl

pub operand_again : (bound : ℕ) (k : Kind) (at : ℕ) (o : Operand) (rest : List ℕ) → is_kind k o ≡ true → IsOperand bound o → (operand_at bound k at (operand_words o ++ rest) ≡ Ok o) × (width k (operand_words o ++ rest) ≡ length (operand_words o))
unfolding operand_at
operand_again bound AnId at (Id n) rest e h = (ap (λ (b : Bool). demand b (fault rule.ID at) >>= λ passed. made (Id n)) (id_from bound n (All-head (IsIdBelow bound) n [] h.ids)), refl)
operand_again bound AnId at (Word n) rest e h = absurd (false≢true e)
operand_again bound AnId at (Str s) rest e h = absurd (false≢true e)
operand_again bound AnyWord at (Id n) rest e h = absurd (false≢true e)
operand_again bound AnyWord at (Word n) rest e h = (refl, refl)
operand_again bound AnyWord at (Str s) rest e h = absurd (false≢true e)
operand_again bound (OneOf ns) at (Id n) rest e h = absurd (false≢true e)
operand_again bound (OneOf ns) at (Word n) rest e h = (ap (λ (b : Bool). demand b (fault rule.FORM at) >>= λ passed. made (Word n)) e, refl)
operand_again bound (OneOf ns) at (Str s) rest e h = absurd (false≢true e)
operand_again bound AText at (Id n) rest e h = absurd (false≢true e)
operand_again bound AText at (Word n) rest e h = absurd (false≢true e)
operand_again bound AText at (Str s) rest e h =
    let is = All-head IsString s [] h.texts in
    let some = string_words-some s in
    let here : HasWords (string_words s ++ rest) = record { first = some.first; others = some.others ++ rest; is = ap (λ ws. ws ++ rest) some.is } in
    (text_at bound at (string_words s ++ rest) here ∙ ap (λ t. text_or t at) (string_again s rest is), string_len_again s rest is)
