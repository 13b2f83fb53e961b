-- Which row of symbols a part goes on with, by the kind of the token that stands there.
use Rattle.std.proofs.Common.{◌≡◌, ℕ, zero, suc, List, [], ◌∷◌, ◌++◌, Bool, true, false, refl, sym, ap, ◌∙◌, subst, ◌⊎◌, inl, inr}
use Rattle.std.specs.Prelude.{◌||◌, ◌&&◌}
use Rattle.cl_grammar.specs.declared.lexeme.Lexeme.{Lexeme}
use Rattle.cl_grammar.specs.declared.terminal.Terminal.{Terminal}
use Rattle.cl_grammar.specs.Symbols.{Sym, ExprSym, Class, Mark, Of, E, S, D, tails, Is, Are, continues}
use Rattle.cl_grammar.specs.Items.{Stops, Fits, Item, Excluded}
use Rattle.cl_grammar.proofs.TerminalKinds.{kind, any_has, any_kind, implies, implied, not, not_true, all_below, each, both_left, both_right, excluded_middle}
use Rattle.cl_grammar.proofs.Firsts.{Begins}
use Rattle.cl_grammar.proofs.StatementKinds.{stmt_continues_kind, stmt_tail}
use Rattle.cl_grammar.proofs.DeclarationKinds.{decl_continues_kind, decl_tail}
use Rattle.cl_grammar.proofs.Starts.{starts, symbol_firsts, empties, first_of_symbol}
use Rattle.cl_grammar.proofs.Rules.{rules, AnyOf, Fills}
use Rattle.cl_grammar.proofs.Unfolded.{rows_of, part_of}
use Rattle.cl_grammar.proofs.Steps.{Keeps, are_join}

abbrev pub continues_kind : Sym → ℕ → Bool
continues_kind (Mark terminal) k = false
continues_kind (Of class) k = false
continues_kind (E x) k = any_has (tails x) k
continues_kind (S x) k = stmt_continues_kind x k
continues_kind (D x) k = decl_continues_kind x k

pub tail_kind : (x : Sym) (t : Terminal) → continues x t ≡ continues_kind x (kind t)
tail_kind (Mark terminal) t = refl
tail_kind (Of class) t = refl
tail_kind (E x) t = any_kind (tails x) t
tail_kind (S x) t = stmt_tail x t
tail_kind (D x) t = decl_tail x t

-- whether a row of symbols may begin with a token of a kind, and may be no tokens
abbrev pub may : List Sym → ℕ → Bool
may [] k = false
may (y ∷ ys) k = starts y k || (empties y && may ys k)

abbrev pub blank : List Sym → Bool
blank [] = true
blank (y ∷ ys) = empties y && blank ys

or_left : (a b : Bool) → a ≡ true → (a || b) ≡ true
or_left true b h = refl
or_left false b h = absurd (let e : false ≡ true = h in cc)

or_right : (a b : Bool) → b ≡ true → (a || b) ≡ true
or_right true b h = refl
or_right false b h = h

and_both : (a b : Bool) → a ≡ true → b ≡ true → (a && b) ≡ true
and_both true b h g = g
and_both false b h g = absurd (let e : false ≡ true = h in cc)

-- Tokens of a row and others begin with one that the row may begin with, or the row is none of them.
abbrev pub FirstOf : List Sym → List Sym → Lexeme → List Lexeme → Type 0
FirstOf row others l w = (may row (kind l.terminal) ≡ true) ⊎ ((blank row ≡ true) × Are others (l ∷ w))

first_begun : (y : Sym) (ys others : List Sym) (l : Lexeme) (w u v : List Lexeme) → l ∷ w ≡ u ++ v → Begins (symbol_firsts y) u → FirstOf (y ∷ ys) others l w
first_begun y ys others l w u v e b =
    let h : l ∷ w ≡ b.first ∷ (b.rest ++ v) = e ∙ ap (λ z. z ++ v) b.is in
    let same : l ≡ b.first = cc in
    inl (or_left (starts y (kind l.terminal)) (empties y && may ys (kind l.terminal)) (subst (λ z. starts y (kind z.terminal) ≡ true) (sym same) b.fits))

first_later : (y : Sym) (ys others : List Sym) (l : Lexeme) (w : List Lexeme) → empties y ≡ true → FirstOf ys others l w → FirstOf (y ∷ ys) others l w
first_later y ys others l w h (inl f) = inl (or_right (starts y (kind l.terminal)) (empties y && may ys (kind l.terminal)) (and_both (empties y) (may ys (kind l.terminal)) h f))
first_later y ys others l w h (inr f) = inr (and_both (empties y) (blank ys) h f.0, f.1)

pub first_of_row : (row others : List Sym) (l : Lexeme) (w : List Lexeme) → Are (row ++ others) (l ∷ w) → FirstOf row others l w
first_of_row [] others l w are = inr (refl, are)
first_of_row (y ∷ ys) others l w are = elim (first_of_symbol y are.0 are.2) as (λ _. FirstOf (y ∷ ys) others l w) [
  | inl b ↦ first_begun y ys others l w are.0 are.1 are.4 b
  | inr e ↦ first_later y ys others l w e.1 (first_of_row ys others l w (subst (Are (ys ++ others)) (sym (are.4 ∙ ap (λ z. z ++ are.1) e.0)) are.3))
]

pub stops_of : (x : Sym) (others : List Sym) → Fits x others → Stops x others
stops_of (Mark terminal) others f = f
stops_of (Of class) others f = f
stops_of (E x) others f = f
stops_of (S x) others f = f.0
stops_of (D x) others f = f

pub stops_kind : (x : Sym) (others : List Sym) (l : Lexeme) (w : List Lexeme) → Fits x others → Are others (l ∷ w) → continues_kind x (kind l.terminal) ≡ false
stops_kind x others l w f are = sym (tail_kind x l.terminal) ∙ (stops_of x others f).stops l w are

-- ---- what may stand behind a symbol

abbrev pub keeps_check : Sym → Sym → List Sym → ℕ → Bool
keeps_check x y todo k = implies (may todo k) (not (continues_kind y k)) && implies (blank todo && continues_kind y k) (continues_kind x k)

abbrev pub keeps_ok : Sym → Sym → List Sym → Bool
keeps_ok x y todo = all_below 63 (keeps_check x y todo)

no_tail : (a b : Bool) → implies a b ≡ true → b ≡ false → a ≡ false
no_tail true b h e = absurd (let f : true ≡ false = sym h ∙ e in cc)
no_tail false b h e = refl

and_false : (a b : Bool) → a ≡ true → (a && b) ≡ false → b ≡ false
and_false true b h e = e
and_false false b h e = absurd (let f : false ≡ true = h in cc)

kept : (x y : Sym) (todo others : List Sym) (l : Lexeme) (w : List Lexeme) → keeps_check x y todo (kind l.terminal) ≡ true → Fits x others → FirstOf todo others l w → continues_kind y (kind l.terminal) ≡ false
kept x y todo others l w h f (inl m) =
    let k = kind l.terminal in
    not_true (continues_kind y k) (implied (may todo k) (not (continues_kind y k)) (both_left (implies (may todo k) (not (continues_kind y k))) (implies (blank todo && continues_kind y k) (continues_kind x k)) h) m)
kept x y todo others l w h f (inr m) =
    let k = kind l.terminal in
    and_false (blank todo) (continues_kind y k) m.0 (no_tail (blank todo && continues_kind y k) (continues_kind x k) (both_right (implies (may todo k) (not (continues_kind y k))) (implies (blank todo && continues_kind y k) (continues_kind x k)) h) (stops_kind x others l w f m.1))

pub kept_stops : (x y : Sym) (todo others : List Sym) → keeps_ok x y todo ≡ true → Fits x others → Stops y (todo ++ others)
kept_stops x y todo others h f = record { stops = λ l w are. tail_kind y l.terminal ∙ kept x y todo others l w (each (keeps_check x y todo) h l.terminal) f (first_of_row todo others l w are) }

pub keeps_part : (x : Sym) (y : ExprSym) (todo : List Sym) → keeps_ok x (E y) todo ≡ true → Keeps x (E y) todo
keeps_part x y todo h = record { keeps = λ others fits. kept_stops x (E y) todo others h fits }

pub keeps_mark : (x : Sym) (k : Terminal) (todo : List Sym) → Keeps x (Mark k) todo
keeps_mark x k todo = record { keeps = λ others fits. record { stops = λ l w are. refl } }

pub keeps_of : (x : Sym) (c : Class) (todo : List Sym) → Keeps x (Of c) todo
keeps_of x c todo = record { keeps = λ others fits. record { stops = λ l w are. refl } }

-- ---- which row it is

abbrev pub rejected : Sym → List Sym → ℕ → Bool
rejected x row k = not (may row k) && implies (blank row) (continues_kind x k)

abbrev pub all_rejected : Sym → List (List Sym) → ℕ → Bool
all_rejected x [] k = true
all_rejected x (row ∷ rows) k = rejected x row k && all_rejected x rows k

-- all rows but one are rejected
abbrev pub others_rejected : Sym → ℕ → List (List Sym) → ℕ → Bool
others_rejected x n [] k = false
others_rejected x zero (row ∷ rows) k = all_rejected x rows k
others_rejected x (suc n) (row ∷ rows) k = rejected x row k && others_rejected x n rows k

abbrev pub row_at : ℕ → List (List Sym) → List Sym
row_at n [] = []
row_at zero (row ∷ rows) = row
row_at (suc n) (row ∷ rows) = row_at n rows

reject : (x : Sym) (row others : List Sym) (l : Lexeme) (w u v : List Lexeme) → Fits x others → rejected x row (kind l.terminal) ≡ true → Fills row u → Are others v → l ∷ w ≡ u ++ v → ⊥
reject x row others l w u v fits h f are e =
    let k = kind l.terminal in
    elim (first_of_row row others l w (subst (Are (row ++ others)) (sym e) (are_join row others u v f.are are))) as (λ _. ⊥) [
      | inl m ↦ excluded_middle (may row k) m (not_true (may row k) (both_left (not (may row k)) (implies (blank row) (continues_kind x k)) h))
      | inr m ↦ excluded_middle (continues_kind x k) (implied (blank row) (continues_kind x k) (both_right (not (may row k)) (implies (blank row) (continues_kind x k)) h) m.0) (stops_kind x others l w fits m.1)
    ]

reject_all : (x : Sym) (rows : List (List Sym)) (others : List Sym) (l : Lexeme) (w u v : List Lexeme) → Fits x others → all_rejected x rows (kind l.terminal) ≡ true → AnyOf rows u → Are others v → l ∷ w ≡ u ++ v → ⊥
reject_all x [] others l w u v fits h f are e = f
reject_all x (row ∷ rows) others l w u v fits h (inl f) are e = reject x row others l w u v fits (both_left (rejected x row (kind l.terminal)) (all_rejected x rows (kind l.terminal)) h) f are e
reject_all x (row ∷ rows) others l w u v fits h (inr f) are e = reject_all x rows others l w u v fits (both_right (rejected x row (kind l.terminal)) (all_rejected x rows (kind l.terminal)) h) f are e

the_row : (x : Sym) (n : ℕ) (rows : List (List Sym)) (others : List Sym) (l : Lexeme) (w u v : List Lexeme) → Fits x others → others_rejected x n rows (kind l.terminal) ≡ true → AnyOf rows u → Are others v → l ∷ w ≡ u ++ v → Are (row_at n rows ++ others) (l ∷ w)
the_row x n [] others l w u v fits h f are e = absurd f
the_row x zero (row ∷ rows) others l w u v fits h (inl f) are e = subst (Are (row ++ others)) (sym e) (are_join row others u v f.are are)
the_row x zero (row ∷ rows) others l w u v fits h (inr f) are e = absurd (reject_all x rows others l w u v fits h f are e)
the_row x (suc n) (row ∷ rows) others l w u v fits h (inl f) are e = absurd (reject x row others l w u v fits (both_left (rejected x row (kind l.terminal)) (others_rejected x n rows (kind l.terminal)) h) f are e)
the_row x (suc n) (row ∷ rows) others l w u v fits h (inr f) are e = the_row x n rows others l w u v fits (both_right (rejected x row (kind l.terminal)) (others_rejected x n rows (kind l.terminal)) h) f are e

in_rows : (x : Sym) (n k : ℕ) (rows : List (List Sym)) (u : List Lexeme) → others_rejected x n rows k ≡ true → Are (row_at n rows) u → AnyOf rows u
in_rows x n k [] u h are = absurd (let e : false ≡ true = h in cc)
in_rows x zero k (row ∷ rows) u h are = inl (record { are = are })
in_rows x (suc n) k (row ∷ rows) u h are = inr (in_rows x n k rows u (both_right (rejected x row k) (others_rejected x n rows k) h) are)

-- A symbol that is one of some rows goes on with the row that alone is not rejected.
pub predict_row : (x : Sym) (rows : List (List Sym)) (n : ℕ) (l : Lexeme) (s v : List Lexeme) → ((u : List Lexeme) → Is x u → AnyOf rows u) → ((u : List Lexeme) → AnyOf rows u → Is x u) → s ≡ l ∷ v → others_rejected x n rows (kind l.terminal) ≡ true → Item x (row_at n rows) [] s s
predict_row x rows n l s v out into e h = record {
  split = refl;
  builds = λ u are. into u (in_rows x n (kind l.terminal) rows u h are);
  only = λ others fits m v2 w first are.
      let same : m ≡ l = cc in
      the_row x n rows others m w are.0 are.1 fits (subst (λ z. others_rejected x n rows (kind z.terminal) ≡ true) (sym same) h) (out are.0 are.2) are.3 are.4;
}

pub exclude_rows : (x : Sym) (rows : List (List Sym)) (l : Lexeme) (s v : List Lexeme) → ((u : List Lexeme) → Is x u → AnyOf rows u) → s ≡ l ∷ v → all_rejected x rows (kind l.terminal) ≡ true → Excluded x [] s s
exclude_rows x rows l s v out e h = record {
  split = refl;
  no_more = λ others fits m v2 w first are.
      let same : m ≡ l = cc in
      reject_all x rows others m w are.0 are.1 fits (subst (λ z. all_rejected x rows (kind z.terminal) ≡ true) (sym same) h) (out are.0 are.2) are.3 are.4;
}

-- the same of a part of expressions
abbrev pub picks : ExprSym → ℕ → ℕ → Bool
picks y n k = others_rejected (E y) n (rules y) k

abbrev pub bars : ExprSym → ℕ → Bool
bars y k = all_rejected (E y) (rules y) k

pub predict : (y : ExprSym) (n : ℕ) (l : Lexeme) (s v : List Lexeme) → s ≡ l ∷ v → picks y n (kind l.terminal) ≡ true → Item (E y) (row_at n (rules y)) [] s s
predict y n l s v e h = predict_row (E y) (rules y) n l s v (rows_of y) (part_of y) e h

pub exclude : (y : ExprSym) (l : Lexeme) (s v : List Lexeme) → s ≡ l ∷ v → bars y (kind l.terminal) ≡ true → Excluded (E y) [] s s
exclude y l s v e h = exclude_rows (E y) (rules y) l s v (rows_of y) e h
