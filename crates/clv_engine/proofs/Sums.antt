-- What the tokens of a sum are, one term later.
use Rattle.std.proofs.Common.{◌≡◌, ◌≢◌, ℕ, ◌<◌, ◌≤◌, List, [], ◌∷◌, ◌++◌, length, take, drop, get_or, refl, sym, ap, ◌∙◌, subst, arith, append_assoc, length-append, None}
use Rattle.std.specs.Prelude.{All}
use Rattle.std.proofs.lemmas.List.{take-append-drop}
use Rattle.std.proofs.Math.Seq.{get_or-append_seam}
use Rattle.std.proofs.lemmas.List.Elements.{All-append}
use Rattle.cl_lexer.specs.declared.token.TokenKind.{TokenKind}
use Rattle.cl_lexer.specs.declared.token.TokenKind.TheVariants.{Mark}
use Rattle.clv_engine.specs.declared.form.mark.TheConstants as mark
use Rattle.clv_engine.specs.declared.form.Term.{Term}
use Rattle.clv_engine.specs.declared.form.Term.TheVariants.{GlobalId, Literal}
use Rattle.clv_engine.specs.FirstForm.{term_tokens, sum_tokens, IsTerm}
use Rattle.clv_engine.specs.Forming.{end_tokens, IsSum, IsBody, IsFirstTerm}

-- what is behind a term: more terms, or the end
abbrev behind_tokens : List Term → List TokenKind
behind_tokens [] = end_tokens
behind_tokens (u ∷ us) = Mark mark.PLUS ∷ (term_tokens u ++ behind_tokens us)

sum-behind : (u : Term) (us : List Term) → sum_tokens (u ∷ us) ++ end_tokens ≡ term_tokens u ++ behind_tokens us
sum-behind u [] = refl
sum-behind u (v ∷ us) = append_assoc (term_tokens u) (Mark mark.PLUS ∷ sum_tokens (v ∷ us)) end_tokens ∙ ap (λ z. term_tokens u ++ Mark mark.PLUS ∷ z) (sum-behind v us)

-- tokens that begin with one term begin with no other
one_term : (t u : Term) (ts rest : List TokenKind) → take (length (term_tokens t)) ts ≡ term_tokens t → ts ≡ term_tokens u ++ rest → (u ≡ t) × (rest ≡ drop (length (term_tokens t)) ts)
one_term GlobalId GlobalId ts rest e f = (refl, ap (drop 4) (sym f))
one_term GlobalId (Literal n) ts rest e f = absurd (let x = sym (ap (take 4) f) ∙ e in cc)
one_term (Literal n) GlobalId ts rest e f = absurd (let x = sym (ap (take 1) f) ∙ e in cc)
one_term (Literal n) (Literal m) ts rest e f = (let x = sym (ap (take 1) f) ∙ e in let same : m ≡ n = cc in ap Literal same, ap (drop 1) (sym f))

first_term_tokens : (t : Term) (rest : List TokenKind) → take (length (term_tokens t)) (term_tokens t ++ rest) ≡ term_tokens t
first_term_tokens GlobalId rest = refl
first_term_tokens (Literal n) rest = refl

-- Some terms were read with a `+` behind each, and the rest is to begin with a term.
pub record ReadTerms (ts rest : List TokenKind) (terms : List Term) : Type 0 where
  pub builds : (v : Term) (vs : List Term) → rest ≡ term_tokens v ++ behind_tokens vs → ts ≡ sum_tokens (terms ++ v ∷ vs) ++ end_tokens
  pub only : (us : List Term) → 1 ≤ length us → ts ≡ sum_tokens us ++ end_tokens → (v : Term) × (vs : List Term) × (us ≡ terms ++ v ∷ vs) × (rest ≡ term_tokens v ++ behind_tokens vs)
  pub valid : All IsTerm terms

some_first : (ts : List TokenKind) (us : List Term) → 1 ≤ length us → ts ≡ sum_tokens us ++ end_tokens → (v : Term) × (vs : List Term) × (us ≡ v ∷ vs) × (ts ≡ term_tokens v ++ behind_tokens vs)
some_first ts [] some e = absurd (omega arith)
some_first ts (v ∷ vs) some e = (v, vs, refl, e ∙ sum-behind v vs)

terms_nil : (ts : List TokenKind) → ReadTerms ts ts []
terms_nil ts = record {
  builds = λ v vs e. e ∙ sym (sum-behind v vs);
  only = some_first ts;
  valid = λ k d within. absurd (omega arith);
}

pub terms_none : (ts : List TokenKind) (terms : List Term) → terms ≡ [] → ReadTerms ts ts terms
terms_none ts terms e = subst (ReadTerms ts ts) (sym e) (terms_nil ts)

-- a term stands first in the rest, and this behind it
pub record HasTerm (rest behind : List TokenKind) (t : Term) : Type 0 where
  pub valid : IsTerm t
  pub front : take (length (term_tokens t)) rest ≡ term_tokens t
  pub back : behind ≡ drop (length (term_tokens t)) rest

pub has_term : (rest behind : List TokenKind) (t : Term) (n : ℕ) → IsTerm t → take (length (term_tokens t)) rest ≡ term_tokens t → behind ≡ drop n rest → n ≡ length (term_tokens t) → HasTerm rest behind t
has_term rest behind t n valid front back e = record { valid = valid; front = front; back = back ∙ ap (λ m. drop m rest) e }

split_term : (rest behind : List TokenKind) (t : Term) → HasTerm rest behind t → rest ≡ term_tokens t ++ behind
split_term rest behind t h = sym (take-append-drop (length (term_tokens t)) rest) ∙ ap (λ z. z ++ drop (length (term_tokens t)) rest) h.front ∙ ap (λ z. term_tokens t ++ z) (sym h.back)

valid_more : (terms : List Term) (t : Term) → All IsTerm terms → IsTerm t → All IsTerm (terms ++ t ∷ [])
valid_more terms t all one = All-append IsTerm terms (t ∷ []) all (λ k d within. let first : k ≡ 0 = omega arith in subst (λ n. IsTerm (get_or (t ∷ []) n d)) (sym first) one)

a_term : (us terms : List Term) (v : Term) (vs : List Term) → us ≡ terms ++ v ∷ vs → All IsTerm us → IsTerm v
a_term us terms v vs e all =
    let within : length terms < length us = omega (arith, ap length e, length-append terms (v ∷ vs)) in
    subst IsTerm (ap (λ z. get_or z (length terms) v) e ∙ get_or-append_seam terms v vs v) (all (length terms) v within)

-- the terms of a whole sum, of which some were read, are these, and one more, and then others
only_more : (ts rest behind : List TokenKind) (terms us : List Term) (t : Term) → ReadTerms ts rest terms → HasTerm rest behind t → 1 ≤ length us → ts ≡ sum_tokens us ++ end_tokens → (vs : List Term) × (us ≡ terms ++ t ∷ vs) × (behind ≡ behind_tokens vs)
only_more ts rest behind terms us t r h some e =
    let f = r.only us some e in
    let g = one_term t f.0 rest (behind_tokens f.1) h.front f.3 in
    (f.1, f.2 ∙ ap (λ z. terms ++ z ∷ f.1) g.0, h.back ∙ sym g.1)

no_plus_first : (next : List TokenKind) → Mark mark.PLUS ∷ next ≡ end_tokens → ⊥
no_plus_first next e = let same : Mark mark.PLUS ≡ Mark mark.SEMICOLON = cc in let byte : ◌≡◌ {A = ℕ} 12 24 = cc in omega arith

plus_behind : (behind next : List TokenKind) (vs : List Term) → behind ≡ Mark mark.PLUS ∷ next → behind ≡ behind_tokens vs → (w : Term) × (ws : List Term) × (vs ≡ w ∷ ws) × (next ≡ term_tokens w ++ behind_tokens ws)
plus_behind behind next [] e f = absurd (no_plus_first next (sym e ∙ f))
plus_behind behind next (w ∷ ws) e f = (w, ws, refl, ap (drop 1) (sym e ∙ f))

-- the mark `+` stands first
plus_split : (behind next : List TokenKind) → take 1 behind ≡ Mark mark.PLUS ∷ [] → next ≡ drop 1 behind → behind ≡ Mark mark.PLUS ∷ next
plus_split [] next e f = absurd (cc)
plus_split (t ∷ behind) next e f = let same : t ≡ Mark mark.PLUS = cc in ap (λ z. z ∷ behind) same ∙ ap (λ z. Mark mark.PLUS ∷ z) (sym f)

pub terms_more : (ts rest behind next : List TokenKind) (terms new : List Term) (t : Term) → ReadTerms ts rest terms → HasTerm rest behind t → take 1 behind ≡ Mark mark.PLUS ∷ [] → next ≡ drop 1 behind → new ≡ terms ++ t ∷ [] → ReadTerms ts next new
terms_more ts rest behind next terms new t r h plus after e =
    let p = plus_split behind next plus after in
    subst (ReadTerms ts next) (sym e) (record {
      builds = λ v vs f. r.builds t (v ∷ vs) (split_term rest behind t h ∙ ap (λ z. term_tokens t ++ z) (p ∙ ap (λ z. Mark mark.PLUS ∷ z) f)) ∙ ap (λ z. sum_tokens z ++ end_tokens) (sym (append_assoc terms (t ∷ []) (v ∷ vs)));
      only = λ us some f.
          let g = only_more ts rest behind terms us t r h some f in
          let b = plus_behind behind next g.0 p g.2 in
          (b.0, b.1, g.1 ∙ ap (λ z. terms ++ t ∷ z) b.2 ∙ sym (append_assoc terms (t ∷ []) (b.0 ∷ b.1)), b.3);
      valid = valid_more terms t r.valid h.valid;
    })

pub sum_done : (ts rest behind : List TokenKind) (terms new : List Term) (t : Term) → ReadTerms ts rest terms → HasTerm rest behind t → behind ≡ end_tokens → new ≡ terms ++ t ∷ [] → length terms < 100 → IsSum new × (ts ≡ sum_tokens new ++ end_tokens)
sum_done ts rest behind terms new t r h last e few = (
  record {
    some = omega (arith, ap length e, length-append terms (t ∷ []));
    few = omega (arith, ap length e, length-append terms (t ∷ []));
    terms = subst (All IsTerm) (sym e) (valid_more terms t r.valid h.valid);
  },
  r.builds t [] (split_term rest behind t h ∙ ap (λ z. term_tokens t ++ z) last) ∙ ap (λ z. sum_tokens z ++ end_tokens) (sym e),
)

ends_or_goes_on : (behind : List TokenKind) (vs : List Term) → behind ≡ behind_tokens vs → behind ≢ end_tokens → take 1 behind ≢ Mark mark.PLUS ∷ [] → ⊥
ends_or_goes_on behind [] e no_end no_plus = no_end e
ends_or_goes_on behind (v ∷ vs) e no_end no_plus = no_plus (ap (take 1) e)

pub sum_broken : (ts rest behind : List TokenKind) (terms : List Term) (t : Term) → ReadTerms ts rest terms → HasTerm rest behind t → behind ≢ end_tokens → take 1 behind ≢ Mark mark.PLUS ∷ [] → IsBody ts None
sum_broken ts rest behind terms t r h no_end no_plus = λ us is e. let g = only_more ts rest behind terms us t r h is.some e in ends_or_goes_on behind g.0 g.2 no_end no_plus

pub sum_without_term : (ts rest : List TokenKind) (terms : List Term) → ReadTerms ts rest terms → IsFirstTerm rest None → IsBody ts None
sum_without_term ts rest terms r none = λ us is e.
    let f = r.only us is.some e in
    none f.0 (a_term us terms f.0 f.1 f.2 is.terms) (ap (take (length (term_tokens f.0))) f.3 ∙ first_term_tokens f.0 (behind_tokens f.1))

pub sum_too_long : (ts rest : List TokenKind) (terms : List Term) → ReadTerms ts rest terms → 100 ≤ length terms → IsBody ts None
sum_too_long ts rest terms r long = λ us is e.
    let f = r.only us is.some e in
    let few = is.few in
    omega (arith, ap length f.2, length-append terms (f.0 ∷ f.1))

pub ruleset sums = (terms_none, has_term, terms_more, sum_done, sum_broken, sum_without_term, sum_too_long)
