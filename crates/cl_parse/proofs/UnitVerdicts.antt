-- The verdict on tokens, from what was read of them up to an index.
use Rattle.std.proofs.Common.{◌≡◌, ℕ, zero, suc, ◌+◌, ◌-◌, ◌<◌, ◌≤◌, List, [], ◌∷◌, ◌++◌, length, take, drop, refl, sym, ap, ◌∙◌, subst, append_assoc, arith, length-append}
use Rattle.std.proofs.lemmas.List.{map-append, length-map, take-map, drop-map, take-append-drop, take-append-le, drop-drop, take_all, length-drop}
use Rattle.std.proofs.Math.Seq.{take-add, drop-append_seam}
use Rattle.clv_place.specs.declared.place.Place.{Place}
use Rattle.cl_ast.specs.declared.declaration.External.{External as Tree}
use Rattle.cl_lexer.specs.declared.token.Token.{Token}
use Rattle.cl_grammar.specs.declared.lexeme.Lexeme.{Lexeme}
use Rattle.cl_grammar.specs.declared.names.TypeName.{TypeName}
use Rattle.cl_grammar.specs.Statements.{IsExternal}
use Rattle.cl_grammar.specs.DeclarationSymbols.{External, any_external, IsAnyExternal}
use Rattle.cl_grammar.specs.Symbols.{D, Are}
use Rattle.cl_grammar.specs.Items.{between, ReadAt, NoneAt}
use Rattle.cl_grammar.specs.Lexemes.{lexeme_of, lexemes_of, end_lexeme, resolve, resolved}
use Rattle.cl_grammar.specs.Units as unit
use Rattle.cl_grammar.specs.Units.{IsUnit, IsSyntaxOffence, seen_as}
use Rattle.cl_parse.specs.UnitReading.{UnitRead}
use Rattle.cl_parse.proofs.UnitSteps.{AllStart, ExternalRead, ExternalOut, unit_out, unit_out_last}

-- ---- lists by indices

pub join_at : (ts : List Lexeme) (a b : ℕ) → a ≤ b → take a ts ++ between ts a b ≡ take b ts
join_at ts a b h = sym (take-add a (b - a) ts) ∙ (let e : a + (b - a) ≡ b = omega arith in ap (λ n. take n ts) e)

pub front_at : (ts : List Lexeme) (a b : ℕ) → a ≤ b → drop a ts ≡ between ts a b ++ drop b ts
front_at ts a b h =
    let d : drop (b - a) (drop a ts) ≡ drop b ts = drop-drop (b - a) a ts ∙ (let f : a + (b - a) ≡ b = omega arith in ap (λ n. drop n ts) f) in
    sym (take-append-drop (b - a) (drop a ts)) ∙ ap (λ z. between ts a b ++ z) d

resolved_drop : (names : List TypeName) (ts : List Lexeme) (n : ℕ) → drop n (resolved names ts) ≡ resolved names (drop n ts)
resolved_drop names ts n = drop-map (resolve names) n ts

pub resolved_between : (names : List TypeName) (ts : List Lexeme) (a b : ℕ) → between (resolved names ts) a b ≡ resolved names (between ts a b)
resolved_between names ts a b = ap (take (b - a)) (drop-map (resolve names) a ts) ∙ take-map (resolve names) (b - a) (drop a ts)

-- ---- an external between indices

pub external_read : (names declared : List TypeName) (ts : List Lexeme) (at next : ℕ) → ReadAt (D External) (resolved names ts) at next → IsExternal declared (between (resolved names ts) at next) → ((d : List TypeName) → IsExternal d (between (resolved names ts) at next) → d ≡ declared) → ExternalRead names declared (between ts at next) (drop next ts)
external_read names declared ts at next r is same = record {
  is = subst (IsExternal declared) (resolved_between names ts at next) is;
  same = λ d h. same d (subst (IsExternal d) (sym (resolved_between names ts at next)) h);
  only = λ others fits l v w first are. r.read.item.only others fits l v w (resolved_drop names ts next ∙ first) (subst (λ z. Are (D External ∷ others) (z ++ l ∷ w)) (sym (resolved_between names ts at next)) are);
}

pub external_out : (names : List TypeName) (ts : List Lexeme) (at k : ℕ) → NoneAt (D External) (resolved names ts) at k → ExternalOut names (between ts at k) (drop k ts)
external_out names ts at k n = record {
  no_more = λ others fits l v w first are. n.excluded.no_more others fits l v w (resolved_drop names ts k ∙ first) (subst (λ z. Are (D External ∷ others) (z ++ l ∷ w)) (sym (resolved_between names ts at k)) are);
}

-- ---- the offence

pub seen_length : (tokens : List Token) → length (seen_as tokens) ≡ length tokens
seen_length tokens = length-map tokens lexeme_of

-- the tokens before an index, as they are seen among all
pub seen_take : (tokens : List Token) (end : Place) (n : ℕ) → n ≤ length tokens → take n (lexemes_of tokens end) ≡ seen_as (take n tokens)
seen_take tokens end n h = take-append-le n (seen_as tokens) (end_lexeme end ∷ []) (omega (arith, seen_length tokens, h)) ∙ take-map lexeme_of n tokens

seen_end : (tokens : List Token) (end : Place) (k : ℕ) → k ≡ length tokens → drop k (lexemes_of tokens end) ≡ end_lexeme end ∷ []
seen_end tokens end k h = ap (λ n. drop n (lexemes_of tokens end)) (h ∙ sym (seen_length tokens)) ∙ drop-append_seam (seen_as tokens) (end_lexeme end ∷ [])

record First (ts : List Lexeme) : Type 0 where
  first : Lexeme
  rest : List Lexeme
  is : ts ≡ first ∷ rest

first_of : (ts : List Lexeme) (n : ℕ) → n < length ts → First (drop n ts)
first_of [] n h = absurd (omega (arith, h))
first_of (l ∷ ts) zero h = record { first = l; rest = ts; is = refl }
first_of (l ∷ ts) (suc n) h = first_of ts n (omega (arith, h))

pub take_none : (ts : List Lexeme) → take 0 ts ≡ []
take_none [] = refl
take_none (l ∷ ts) = refl

-- one token more is the one there
take_first : (ts : List Lexeme) (n : ℕ) (l : Lexeme) (v : List Lexeme) → drop n ts ≡ l ∷ v → take (n + 1) ts ≡ take n ts ++ l ∷ []
take_first ts n l v e = take-add n 1 ts ∙ ap (λ z. take n ts ++ take 1 z) e ∙ ap (λ z. take n ts ++ l ∷ z) (take_none v)

any_unit : (names : List TypeName) (c r : List Lexeme) → IsAnyExternal r → r ≡ resolved names c → IsUnit names c
any_unit names c _ (any_external d r x) e = unit.last names d c (subst (IsExternal d) e x)

-- nothing read is no way
pub nothing_read : (ts : List Lexeme) (at k : ℕ) → at ≤ k → k ≤ length ts → between ts at k ≡ [] → at ≡ k
nothing_read ts at k forth within e =
    let same : drop at ts ≡ drop k ts = front_at ts at k forth ∙ ap (λ z. z ++ drop k ts) e in
    let long : length (drop at ts) ≡ length (drop k ts) = ap length same in
    omega (arith, forth, within, long, length-drop at ts, length-drop k ts)

pub offence_at : AllStart → (tokens : List Token) (end : Place) (names : List TypeName) (trees : List Tree) (at k : ℕ)
    → UnitRead names trees (take at (lexemes_of tokens end)) (drop at (lexemes_of tokens end)) → at ≤ k → k ≤ length tokens → (at ≡ k → k ≡ length tokens → at ≡ 0)
    → ExternalOut names (between (lexemes_of tokens end) at k) (drop k (lexemes_of tokens end))
    → (more : List Token) → IsAnyExternal (resolved names (between (lexemes_of tokens end) at k ++ seen_as more)) → IsSyntaxOffence tokens k
offence_at all tokens end names trees at k so forth within again out more whole =
    let ts : List Lexeme = lexemes_of tokens end in
    let long : length ts ≡ length tokens + 1 = length-append (seen_as tokens) (end_lexeme end ∷ []) ∙ (let l = seen_length tokens in omega arith) in
    let read : List Lexeme = between ts at k in
    let here : UnitRead names trees (take at ts) (read ++ drop k ts) = subst (UnitRead names trees (take at ts)) (front_at ts at k forth) so in
    record {
      within = within;
      begun = (
        more,
        let unit_here : IsUnit [] (take at ts ++ (read ++ seen_as more)) = so.sentence (read ++ seen_as more) (any_unit names (read ++ seen_as more) (resolved names (read ++ seen_as more)) whole refl) in
            subst (IsUnit []) (sym (append_assoc (take at ts) read (seen_as more)) ∙ ap (λ z. z ++ seen_as more) (join_at ts at k forth ∙ seen_take tokens end k within) ∙ sym (map-append lexeme_of (take k tokens) more)) unit_here,
      );
      no_more = λ h b.
          let f = first_of ts k (omega (arith, long, h)) in
          let e : seen_as (take (k + 1) tokens ++ b.0) ≡ take at ts ++ (read ++ f.first ∷ seen_as b.0) =
          map-append lexeme_of (take (k + 1) tokens) b.0 ∙ ap (λ z. z ++ seen_as b.0) (sym (seen_take tokens end (k + 1) (omega (arith, h))) ∙ take_first ts k f.first f.rest f.is ∙ ap (λ z. z ++ f.first ∷ []) (sym (join_at ts at k forth)))
          ∙ append_assoc (take at ts ++ read) (f.first ∷ []) (seen_as b.0) ∙ append_assoc (take at ts) read (f.first ∷ seen_as b.0) in
          unit_out all names trees (take at ts) read (drop k ts) here out f.first f.rest (seen_as b.0) f.is (subst (IsUnit []) e b.1);
      no_end = λ h b.
          let last : drop k ts ≡ end_lexeme end ∷ [] = seen_end tokens end k h in
          let e : seen_as tokens ≡ take at ts ++ read = sym (ap seen_as (take_all k tokens (omega (arith, h)))) ∙ sym (seen_take tokens end k within) ∙ sym (join_at ts at k forth) in
          unit_out_last all names trees (take at ts) read (end_lexeme end) (subst (λ z. UnitRead names trees (take at ts) (read ++ z)) last here) (subst (ExternalOut names read) last out) refl
          (λ none. let start : at ≡ 0 = again (nothing_read ts at k forth (omega (arith, long, within)) none) h in ap (λ n. take n ts) start ∙ take_none ts)
          (subst (IsUnit []) e b);
    }
