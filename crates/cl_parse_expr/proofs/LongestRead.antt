-- What a reading at the first token says of the longest expression there.
use Rattle.std.proofs.Common.{◌≡◌, ℕ, ◌+◌, ◌-◌, List, [], ◌∷◌, ◌++◌, take, drop, map, refl, sym, ap, ◌∙◌, subst, append_assoc, arith}
use Rattle.std.proofs.lemmas.List.{append-nil}
use Rattle.clv_place.specs.declared.place.Place.{Place}
use Rattle.cl_lexer.specs.declared.token.Token.{Token}
use Rattle.cl_ast.specs.declared.expression.Expr.{Expr}
use Rattle.cl_grammar.specs.declared.lexeme.Lexeme.{Lexeme}
use Rattle.cl_grammar.specs.declared.names.TypeName.{TypeName}
use Rattle.cl_grammar.specs.declared.stop.ExprStop.TheVariants.{Out, NoMemory}
use Rattle.cl_grammar.specs.Expressions.{AreAssigns}
use Rattle.cl_grammar.specs.ExpressionTrees.{ExprTree}
use Rattle.cl_grammar.specs.Lexemes.{lexemes_of, lexeme_of, end_lexeme, resolve, resolved}
use Rattle.cl_grammar.specs.Symbols as s
use Rattle.cl_grammar.specs.Symbols.{E}
use Rattle.cl_grammar.specs.Items.{Fits, between, EndsIn, ReadAt, NoneAt, OutAt, RefusedAt, IsRefused}
use Rattle.cl_grammar.proofs.Places.{between_one, between_join}
use Rattle.cl_parse_expr.specs.Longest.{Longest, FirstOut, IsOut, StopsAt}
use Rattle.cl_parse_expr.proofs.Choices.{token_at}
use Rattle.cl_parse_expr.proofs.Examples.{made}

from_start : (ts : List Lexeme) (n : ℕ) → between ts 0 n ≡ take n ts
from_start ts n = let e : n - 0 ≡ n = omega arith in ap (λ m. take m ts) e

one_more : (ts : List Lexeme) (n : ℕ) (l : Lexeme) → drop n ts ≡ l ∷ drop (n + 1) ts → take (n + 1) ts ≡ between ts 0 n ++ l ∷ []
one_more ts n l h = sym (from_start ts (n + 1)) ∙ sym (between_join ts 0 n (n + 1) (omega arith) (omega arith)) ∙ ap (λ z. between ts 0 n ++ z) (between_one ts n l h)

nothing_fits : Fits (E s.Assigns) []
nothing_fits = record { stops = λ l w are. absurd (let e : l ∷ w ≡ [] = are in cc) }

none_behind : (ts : List Lexeme) (n : ℕ) (w : List Lexeme) → NoneAt (E s.Assigns) ts 0 n → AreAssigns (take (n + 1) ts ++ w) → ⊥
none_behind ts n w h are =
    let k = token_at ts n h.within in
    let l = k.1.token in
    let e : take (n + 1) ts ++ w ≡ between ts 0 n ++ l ∷ w = ap (λ z. z ++ w) (one_more ts n l k.1.stands.here) ∙ append_assoc (between ts 0 n) (l ∷ []) w in
    h.excluded.no_more [] nothing_fits l (drop (n + 1) ts) w k.1.stands.here (between ts 0 n ++ l ∷ w, [], subst AreAssigns e are, refl, sym (append-nil (between ts 0 n ++ l ∷ w)))

read_behind : (ts : List Lexeme) (n : ℕ) (w : List Lexeme) → ReadAt (E s.Assigns) ts 0 n → AreAssigns (take (n + 1) ts ++ w) → ⊥
read_behind ts n w h are =
    let k = token_at ts n h.read.within in
    let l = k.1.token in
    let e : take (n + 1) ts ++ w ≡ between ts 0 n ++ l ∷ w = ap (λ z. z ++ w) (one_more ts n l k.1.stands.here) ∙ append_assoc (between ts 0 n) (l ∷ []) w in
    let nothing : l ∷ w ≡ [] = h.read.item.only [] nothing_fits l (drop (n + 1) ts) w k.1.stands.here (between ts 0 n ++ l ∷ w, [], subst AreAssigns e are, refl, sym (append-nil (between ts 0 n ++ l ∷ w))) in
    cc

pub longest_read : (ts : List Lexeme) (n : ℕ) (tree : Expr) → ReadAt (E s.Assigns) ts 0 n → ExprTree (between ts 0 n) tree → Longest ts n tree
longest_read ts n tree r h = record {
  within = r.read.within;
  are = subst AreAssigns (append-nil (between ts 0 n) ∙ from_start ts n) (r.read.item.builds [] refl);
  is = subst (λ z. ExprTree z tree) (from_start ts n) h;
  no_more = λ w are. read_behind ts n w r are;
}

first_out : (ts : List Lexeme) (n : ℕ) → OutAt (E s.Assigns) ts 0 n → FirstOut ts n
first_out ts n o = record {
  within = o.none.within;
  rest = (made o.begun.todo o.begun.there).0;
  begun = let m = made o.begun.todo o.begun.there in subst (λ z. AreAssigns (z ++ m.0)) (from_start ts n) (o.begun.builds m.0 m.1);
  no_more = λ w are. none_behind ts n w o.none are;
}

-- ---- tokens that end

map_last : (names : List TypeName) (xs : List Lexeme) (y : Lexeme) → map (resolve names) (xs ++ y ∷ []) ≡ map (resolve names) xs ++ resolve names y ∷ []
map_last names [] y = refl
map_last names (x ∷ xs) y = ap (λ z. resolve names x ∷ z) (map_last names xs y)

pub seen_ends : (names : List TypeName) (tokens : List Token) (end : Place) → EndsIn (resolved names (lexemes_of tokens end))
seen_ends names tokens end = record { front = map (resolve names) (map lexeme_of tokens); last = end_lexeme end; is = map_last names (map lexeme_of tokens) (end_lexeme end); ends = refl; no_word = refl }

-- ---- the same by indices of all tokens

pub longest_from : (ts : List Lexeme) (at n : ℕ) (tree : Expr) → ReadAt (E s.Assigns) ts 0 n → ExprTree (between ts 0 n) tree → Longest ts ((at + n) - at) tree
longest_from ts at n tree r h = let e : (at + n) - at ≡ n = omega arith in subst (λ z. Longest ts z tree) (sym e) (longest_read ts n tree r h)

out_of : (ts : List Lexeme) (at k : ℕ) → IsRefused (E s.Assigns) ts 0 (Out k) → IsOut ts at (Out (at + k))
out_of ts at k h = let e : (at + k) - at ≡ k = omega arith in (omega arith, subst (λ z. FirstOut ts z) (sym e) (first_out ts k h))

pub stops_from : (ts : List Lexeme) (at k : ℕ) → RefusedAt (E s.Assigns) ts 0 (Out k) → StopsAt ts at (Out (at + k))
stops_from ts at k h = record { stops = out_of ts at k h.refused }

pub no_memory_stop : (ts : List Lexeme) (at : ℕ) → StopsAt ts at NoMemory
no_memory_stop ts at = record { stops = tt }

pub ruleset longest = (longest_from, stops_from, no_memory_stop)
