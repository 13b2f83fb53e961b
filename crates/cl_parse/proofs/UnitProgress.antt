-- One more declaration of a unit, and its refusal.
use Rattle.std.proofs.Common.{◌≡◌, ℕ, ◌+◌, ◌-◌, ◌^◌, ◌<◌, ◌≤◌, Bool, true, false, List, [], ◌∷◌, ◌++◌, length, take, drop, refl, sym, ap, ◌∙◌, subst, arith, length-append}
use Rattle.std.specs.Prelude.{nat_lt}
use Rattle.std.proofs.lemmas.Bool.Decides.{nat_tests}
use Rattle.std.proofs.lemmas.List.{map-append, length-map, take_all}
use Rattle.clv_place.specs.declared.place.Place.{Place}
use Rattle.cl_ast.specs.declared.declaration.External.{External as Tree}
use Rattle.cl_lexer.specs.declared.token.Token.{Token}
use Rattle.cl_grammar.specs.declared.lexeme.Lexeme.{Lexeme}
use Rattle.cl_grammar.specs.declared.names.TypeName.{TypeName}
use Rattle.cl_grammar.specs.declared.stop.ExprStop.{ExprStop}
use Rattle.cl_grammar.specs.declared.stop.ExprStop.TheVariants.{Out, NoMemory}
use Rattle.cl_grammar.specs.Statements.{IsExternal}
use Rattle.cl_grammar.specs.StatementTrees.{ExternalTree}
use Rattle.cl_grammar.specs.DeclarationSymbols.{External, IsAnyExternal}
use Rattle.cl_grammar.specs.Symbols.{D}
use Rattle.cl_grammar.specs.Items.{between, EndsIn, ReadAt, OutAt, RefusedAt, IsRefused}
use Rattle.cl_grammar.specs.Lexemes.{lexemes_of, end_lexeme, resolve, resolved}
use Rattle.cl_grammar.specs.Units.{UnitTree, IsSyntaxOffence, seen_as}
use Rattle.cl_parse.specs.declared.unit.Progress.{Progress}
use Rattle.cl_parse.specs.Declaring.{Declares, AreNew, declared_by}
use Rattle.cl_parse.specs.UnitReading.{UnitRead, IsReadTo, EndsThere}
use Rattle.cl_parse.specs.Verdicts.{IsRefusal}
use Rattle.cl_parse.proofs.Completions.{Completion, completion}
use Rattle.cl_parse.proofs.Declared.{few_declared, are_new}
use Rattle.cl_parse.proofs.Starting.{all_start}
use Rattle.cl_parse.proofs.UnitSteps.{ExternalRead, unit_begins, unit_next, unit_ends}
use Rattle.cl_parse.proofs.UnitVerdicts.{external_read, external_out, front_at, join_at, resolved_between, offence_at, take_none, seen_length, seen_take}

-- ---- a declaration was read

-- what one declaration leaves
pub record Step (ts : List Lexeme) (old new : Progress) : Type 0 where
  pub read : IsReadTo ts new
  pub ends : EndsThere ts new
  pub forth : old.at < new.at

-- some token was read
forth_by : (names declared : List TypeName) (ts : List Lexeme) (at next : ℕ) (b : Bool) → nat_lt at next ≡ b → IsExternal declared (between (resolved names ts) at next) → at < next
forth_by names declared ts at next true e x = grind (arith, nat_tests, e)
forth_by names declared ts at next false e x =
    let back : next ≤ at = grind (arith, nat_tests, e) in
    let none : next - at ≡ 0 = omega (arith, back) in
    let s = all_start declared (between (resolved names ts) at next) x in
    absurd (let f : [] ≡ s.first ∷ s.rest = sym (ap (λ n. take n (drop at (resolved names ts))) none ∙ take_none (drop at (resolved names ts))) ∙ s.is in cc)

forth_of : (names declared : List TypeName) (ts : List Lexeme) (at next : ℕ) → IsExternal declared (between (resolved names ts) at next) → at < next
forth_of names declared ts at next x = forth_by names declared ts at next (nat_lt at next) refl x

pub step : (ts : List Lexeme) (old new : Progress) (declared : List TypeName) (x : Tree)
    → IsReadTo ts old → ReadAt (D External) (resolved old.names ts) old.at new.at → Declares declared (between (resolved old.names ts) old.at new.at) → ExternalTree (between (resolved old.names ts) old.at new.at) x
    → length declared ≤ 1 → new.names ≡ old.names ++ declared → new.externals ≡ old.externals ++ x ∷ [] → Step ts old new
step ts old new declared x so r d is one names trees =
    let far : old.at < new.at = forth_of old.names declared ts old.at new.at d.is in
    let e : ExternalRead old.names declared (between ts old.at new.at) (drop new.at ts) = external_read old.names declared ts old.at new.at r d.is d.same in
    let here : UnitRead old.names old.externals (take old.at ts) (between ts old.at new.at ++ drop new.at ts) = subst (UnitRead old.names old.externals (take old.at ts)) (front_at ts old.at new.at r.read.forth) so.read in
    let tree : ExternalTree (resolved old.names (between ts old.at new.at)) x = subst (λ z. ExternalTree z x) (resolved_between old.names ts old.at new.at) is in
    let join : take old.at ts ++ between ts old.at new.at ≡ take new.at ts = join_at ts old.at new.at r.read.forth in
    let next : UnitRead (old.names ++ declared) (old.externals ++ x ∷ []) (take old.at ts ++ between ts old.at new.at) (drop new.at ts) = unit_next all_start old.names declared old.externals x (take old.at ts) (between ts old.at new.at) (drop new.at ts) here e tree in
    let whole : UnitTree [] (take old.at ts ++ between ts old.at new.at) (old.externals ++ x ∷ []) = unit_ends old.names declared old.externals x (take old.at ts) (between ts old.at new.at) (drop new.at ts) here e tree in
    record {
      read = record {
        read = subst (λ z. UnitRead z new.externals (take new.at ts) (drop new.at ts)) (sym names) (subst (λ z. UnitRead (old.names ++ declared) z (take new.at ts) (drop new.at ts)) (sym trees) (subst (λ z. UnitRead (old.names ++ declared) (old.externals ++ x ∷ []) z (drop new.at ts)) join next));
        few = (let l : length new.names ≡ length old.names + length declared = ap length names ∙ length-append old.names declared in let f = so.few in omega (arith, l, f, one, far));
        within = (let l = length-map ts (resolve old.names) in let h = r.read.within in omega (arith, l, h));
      };
      ends = record { is = subst (λ z. UnitTree [] (take new.at ts) z) (sym trees) (subst (λ z. UnitTree [] z (old.externals ++ x ∷ [])) join whole) };
      forth = far;
    }

-- what the reader of these tokens behind these typedefs answered
pub declares_new : (names : List TypeName) (ts reader : List Lexeme) (at next : ℕ) (declared : List TypeName) → reader ≡ resolved names ts → Declares declared (between reader at next) → AreNew names declared
declares_new names ts reader at next declared is d = are_new names (between ts at next) (between reader at next) declared (sym (ap (λ z. between z at next) is ∙ resolved_between names ts at next)) d.is

pub went_on : (ts reader : List Lexeme) (old new : Progress) (x : Tree) (vector : Bool) → reader ≡ resolved old.names ts
    → IsReadTo ts old → ReadAt (D External) reader old.at new.at → Declares (declared_by x vector) (between reader old.at new.at) → ExternalTree (between reader old.at new.at) x
    → new.names ≡ old.names ++ declared_by x vector → new.externals ≡ old.externals ++ x ∷ [] → Step ts old new
went_on ts reader old new x vector is so r d tree names trees =
    step ts old new (declared_by x vector) x so (subst (λ z. ReadAt (D External) z old.at new.at) is r) (subst (λ z. Declares (declared_by x vector) (between z old.at new.at)) is d) (subst (λ z. ExternalTree (between z old.at new.at) x) is tree) (few_declared x vector) names trees

-- some declarations were read
pub record Going (ts : List Lexeme) (p : Progress) : Type 0 where
  pub read : IsReadTo ts p
  pub ends : EndsThere ts p

pub begins : (ts : List Lexeme) (p : Progress) → p.names ≡ [] → p.externals ≡ [] → p.at ≡ 0 → 0 < length ts → IsReadTo ts p
begins ts p names trees at some = record {
  read = subst (λ z. UnitRead z p.externals (take p.at ts) (drop p.at ts)) (sym names) (subst (λ z. UnitRead [] z (take p.at ts) (drop p.at ts)) (sym trees) (subst (λ z. UnitRead [] [] z (drop p.at ts)) (sym (ap (λ n. take n ts) at ∙ take_none ts)) (unit_begins (drop p.at ts))));
  few = (let l : length p.names ≡ 0 = ap length names in omega (arith, l));
  within = omega (arith, at, some);
}

pub ends_in : (names : List TypeName) (tokens : List Token) (end : Place) → EndsIn (resolved names (lexemes_of tokens end))
ends_in names tokens end = record { front = resolved names (seen_as tokens); last = end_lexeme end; is = map-append (resolve names) (seen_as tokens) (end_lexeme end ∷ []); ends = refl; no_word = refl }

pub ends_by : (names : List TypeName) (tokens : List Token) (end : Place) (ts : List Lexeme) → ts ≡ lexemes_of tokens end → EndsIn (resolved names ts)
ends_by names tokens end ts is = subst (λ z. EndsIn (resolved names z)) (sym is) (ends_in names tokens end)

pub begins_by : (tokens : List Token) (end : Place) (ts : List Lexeme) (p : Progress) → ts ≡ lexemes_of tokens end → p.names ≡ [] → p.externals ≡ [] → p.at ≡ 0 → IsReadTo ts p
begins_by tokens end ts p is names trees at =
    begins ts p names trees at (let l : length ts ≡ length (seen_as tokens) + 1 = ap length is ∙ length-append (seen_as tokens) (end_lexeme end ∷ []) in omega (arith, l))

-- ---- a declaration is refused

out_at : (tokens : List Token) (end : Place) (p : Progress) (k : ℕ) → p.at < 2 ^ 64 → IsReadTo (lexemes_of tokens end) p → (p.at ≡ k → k ≡ length tokens → p.at ≡ 0) → OutAt (D External) (resolved p.names (lexemes_of tokens end)) p.at k → IsSyntaxOffence tokens k
out_at tokens end p k small so again o =
    let ts : List Lexeme = lexemes_of tokens end in
    let few : length p.names < 2 ^ 64 = let f = so.few in omega (arith, small, f) in
    let c : Completion p.names o.begun.todo = completion p.names few o.begun.todo o.begun.there in
    let whole : IsAnyExternal (between (resolved p.names ts) p.at k ++ resolved p.names (seen_as c.tokens)) = o.begun.builds (resolved p.names (seen_as c.tokens)) c.are in
    let same : between (resolved p.names ts) p.at k ++ resolved p.names (seen_as c.tokens) ≡ resolved p.names (between ts p.at k ++ seen_as c.tokens) = ap (λ z. z ++ resolved p.names (seen_as c.tokens)) (resolved_between p.names ts p.at k) ∙ sym (map-append (resolve p.names) (between ts p.at k) (seen_as c.tokens)) in
    let within : k ≤ length tokens = (let h = o.none.within in let l = length-map ts (resolve p.names) in let m = length-append (seen_as tokens) (end_lexeme end ∷ []) in let n = seen_length tokens in omega (arith, h, l, m, n)) in
    offence_at all_start tokens end p.names p.externals p.at k so.read o.none.forth within again (external_out p.names ts p.at k o.none) c.tokens (subst IsAnyExternal same whole)

refusal_by : (tokens : List Token) (end : Place) (p : Progress) (stop : ExprStop) → p.at < 2 ^ 64 → IsReadTo (lexemes_of tokens end) p → ((k : ℕ) → p.at ≡ k → k ≡ length tokens → p.at ≡ 0) → IsRefused (D External) (resolved p.names (lexemes_of tokens end)) p.at stop → IsRefusal tokens stop
refusal_by tokens end p (Out k) small so again o = record { out = out_at tokens end p k small so (again k) o }
refusal_by tokens end p NoMemory small so again o = record { out = tt }

-- the first declaration is refused, or another before the end
pub first_refused : (tokens : List Token) (end : Place) (ts : List Lexeme) (p : Progress) (stop : ExprStop) → ts ≡ lexemes_of tokens end → IsReadTo ts p → p.at ≡ 0 → RefusedAt (D External) (resolved p.names ts) p.at stop → IsRefusal tokens stop
first_refused tokens end ts p stop is so at r =
    refusal_by tokens end p stop (omega (arith, at)) (subst (λ z. IsReadTo z p) is so) (λ k e f. at) (subst (λ z. IsRefused (D External) (resolved p.names z) p.at stop) is r.refused)

pub later_refused : (tokens : List Token) (end : Place) (ts : List Lexeme) (p : Progress) (stop : ExprStop) → ts ≡ lexemes_of tokens end → IsReadTo ts p → p.at < length tokens → p.at < 2 ^ 64 → RefusedAt (D External) (resolved p.names ts) p.at stop → IsRefusal tokens stop
later_refused tokens end ts p stop is so at small r =
    refusal_by tokens end p stop small (subst (λ z. IsReadTo z p) is so) (λ k e f. absurd (omega (arith, at, e, f))) (subst (λ z. IsRefused (D External) (resolved p.names z) p.at stop) is r.refused)

-- all tokens were read
pub all_read : (tokens : List Token) (end : Place) (ts : List Lexeme) (p : Progress) → ts ≡ lexemes_of tokens end → IsReadTo ts p → EndsThere ts p → length tokens ≤ p.at → UnitTree [] (seen_as tokens) p.externals
all_read tokens end ts p is so e past =
    let l : length ts ≡ length tokens + 1 = ap length is ∙ length-append (seen_as tokens) (end_lexeme end ∷ []) ∙ (let n = seen_length tokens in omega arith) in
    let at : p.at ≡ length tokens = (let h = so.within in omega (arith, l, h, past)) in
    let whole : take p.at ts ≡ seen_as tokens = ap (λ z. take p.at z) is ∙ seen_take tokens end p.at (omega (arith, at)) ∙ ap seen_as (take_all p.at tokens (omega (arith, at))) in
    subst (λ z. UnitTree [] z p.externals) whole e.is
