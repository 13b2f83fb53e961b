-- Which parts an initialiser or a statement goes on with, by the token that stands there; what may stand behind each.
use Rattle.std.proofs.Common.{◌≡◌, ℕ, Bool, true, false, List, [], ◌∷◌, ◌++◌, refl, sym, ap, ◌∙◌, subst, append_assoc, inl, inr}
use Rattle.std.specs.Prelude.{◌&&◌}
use Rattle.cl_grammar.specs.declared.lexeme.Lexeme.{Lexeme}
use Rattle.cl_grammar.specs.declared.terminal.Terminal.TheVariants as t
use Rattle.cl_grammar.specs.Expressions.{IsA}
use Rattle.cl_grammar.specs.Statements as s
use Rattle.cl_grammar.specs.Statements.{IsLabel, AreItems, AreSections}
use Rattle.cl_grammar.specs.Symbols.{Sym, Mark, Of, E, S, D, Is, Are}
use Rattle.cl_grammar.specs.StatementSymbols as x
use Rattle.cl_grammar.specs.StatementSymbols.{StmtSym, is_stmt, IsBehindLabel, MayBeElse}
use Rattle.cl_grammar.specs.Items.{Elses, Item}
use Rattle.cl_grammar.proofs.TerminalKinds.{kind, implies, implied, not, not_true, both_left, both_right, excluded_middle}
use Rattle.cl_grammar.proofs.Firsts.{Begins}
use Rattle.cl_grammar.proofs.Starts.{starts, symbol_firsts, empties, first_of_symbol}
use Rattle.cl_grammar.proofs.StatementKinds.{stmt_empties}
use Rattle.cl_grammar.proofs.Steps.{Keeps}
use Rattle.cl_grammar.proofs.Rules.{Fills, AnyOf}
use Rattle.cl_grammar.proofs.Predicted.{continues_kind, may, blank, keeps_ok, kept_stops, stops_kind, others_rejected, row_at, predict_row, first_of_row}
use Rattle.cl_grammar.proofs.StatementRules.{stmt_rules, stmt_rows_of, stmt_part_of, from_part, from_last, part_are, last_are}

-- a symbol goes on with its row of this number
abbrev pub stmt_picks : StmtSym → ℕ → ℕ → Bool
stmt_picks y n k = others_rejected (S y) n (stmt_rules y) k

pub stmt_predict : (y : StmtSym) (n : ℕ) (l : Lexeme) (s v : List Lexeme) → s ≡ l ∷ v → stmt_picks y n (kind l.terminal) ≡ true → Item (S y) (row_at n (stmt_rules y)) [] s s
stmt_predict y n l s v e h = predict_row (S y) (stmt_rules y) n l s v (stmt_rows_of y) (stmt_part_of y) e h

-- ---- what may stand behind a symbol

-- no tokens at all
pub nothing_is : (y : StmtSym) → stmt_empties y ≡ true → is_stmt y []
nothing_is x.BehindDeclor h = x.no_equals
nothing_is x.MoreDeclors h = x.no_declor
nothing_is x.Items h = s.no_item
nothing_is x.MayElse h = x.no_else
nothing_is x.Sections h = s.no_section
nothing_is x.BehindLabel h = x.no_more_label [] [] s.no_item s.no_section
nothing_is _ h = absurd (let e : false ≡ true = h in cc)

abbrev pub stmt_blank : Sym → Bool
stmt_blank (S y) = stmt_empties y
stmt_blank _ = false

nothing_there : (y : Sym) → stmt_blank y ≡ true → Is y []
nothing_there (S y) h = nothing_is y h
nothing_there (Mark k) h = absurd (let e : false ≡ true = h in cc)
nothing_there (Of c) h = absurd (let e : false ≡ true = h in cc)
nothing_there (E y) h = absurd (let e : false ≡ true = h in cc)
nothing_there (D y) h = absurd (let e : false ≡ true = h in cc)

-- these symbols don't begin with `else`
abbrev pub elses_ok : List Sym → Bool
elses_ok [] = true
elses_ok (y ∷ ys) = not (starts y 26) && implies (empties y) (stmt_blank y && elses_ok ys)

put_nothing : (y : Sym) (ys : List Sym) (w : List Lexeme) → Is y [] → Are (S x.Statement ∷ ys) w → Are (S x.Statement ∷ y ∷ ys) w
put_nothing y ys w h a = (a.0, a.1, a.2, ([], a.1, h, a.3, refl), a.4)

no_else_first : (y : Sym) (e : Lexeme) (w u v : List Lexeme) → IsA t.Else e → starts y 26 ≡ false → e ∷ w ≡ u ++ v → Begins (symbol_firsts y) u → ⊥
no_else_first y e w u v h k is b =
    let both : e ∷ w ≡ b.first ∷ (b.rest ++ v) = is ∙ ap (λ z. z ++ v) b.is in
    let same : b.first ≡ e = cc in
    excluded_middle (starts y 26) (subst (λ z. starts y (kind z) ≡ true) (ap (λ z. z.terminal) same ∙ h) b.fits) k

pub elses_behind : (todo others : List Sym) → elses_ok todo ≡ true → Elses others → Elses (todo ++ others)
elses_behind [] others h el = el
elses_behind (y ∷ ys) others h el = record {
  elses = λ e w is are.
      let k = not_true (starts y 26) (both_left (not (starts y 26)) (implies (empties y) (stmt_blank y && elses_ok ys)) h) in
      elim (first_of_symbol y are.0 are.2) as (λ _. Are (S x.Statement ∷ y ∷ (ys ++ others)) w) [
        | inl b ↦ absurd (no_else_first y e w are.0 are.1 is k are.4 b)
        | inr b ↦
            let more = implied (empties y) (stmt_blank y && elses_ok ys) (both_right (not (starts y 26)) (implies (empties y) (stmt_blank y && elses_ok ys)) h) b.1 in
            put_nothing y (ys ++ others) w (nothing_there y (both_left (stmt_blank y) (elses_ok ys) more))
            ((elses_behind ys others (both_right (stmt_blank y) (elses_ok ys) more) el).elses e w is (subst (Are (ys ++ others)) (sym (are.4 ∙ ap (λ z. z ++ are.1) b.0)) are.3))
      ];
}

pub keeps_stmt : (y z : StmtSym) (todo : List Sym) → keeps_ok (S y) (S z) todo ≡ true → elses_ok todo ≡ true → Keeps (S y) (S z) todo
keeps_stmt y z todo h g = record { keeps = λ others fits. (kept_stops (S y) (S z) todo others h fits, elses_behind todo others g fits.1) }

-- An `else` behind the first statement of an `if` belongs to that `if`, or to another one before it.
else_there : (others : List Sym) (e : Lexeme) (w u v : List Lexeme) → Elses others → IsA t.Else e → MayBeElse u → Are others v → e ∷ w ≡ u ++ v → Are (S x.Statement ∷ S x.MayElse ∷ others) w
else_there others e w _ v el h x.no_else a is = put_nothing (S x.MayElse) others w x.no_else (el.elses e w h (subst (Are others) (sym is) a))
else_there others e w _ v el h (x.some_else k u b c) a is =
    let rest : w ≡ u ++ v = cc in
    put_nothing (S x.MayElse) others w x.no_else (u, v, c, a, rest)

pub keeps_arm : Keeps (S x.Statement) (S x.Statement) (S x.MayElse ∷ [])
keeps_arm = record { keeps = λ others fits. (record { stops = λ l w are. refl }, record { elses = λ e w is are. else_there others e w are.0 are.1 fits.1 is are.2 are.3 are.4 }) }

-- the same behind any symbol that `else` would go on with, where it may stand last
abbrev pub elses_kept : Sym → List Sym → Bool
elses_kept y todo = not (may todo 26) && implies (blank todo) (continues_kind y 26)

pub keeps_in : (y : Sym) (z : StmtSym) (todo : List Sym) → keeps_ok y (S z) todo ≡ true → elses_kept y todo ≡ true → Keeps y (S z) todo
keeps_in y z todo h g = record {
  keeps = λ others fits. (
    kept_stops y (S z) todo others h fits,
    record {
      elses = λ e w is are.
          let no = not_true (may todo 26) (both_left (not (may todo 26)) (implies (blank todo) (continues_kind y 26)) g) in
          absurd (elim (first_of_row todo others e w are) as (λ _. ⊥) [
            | inl m ↦ excluded_middle (may todo 26) (subst (λ z. may todo (kind z) ≡ true) is m) no
            | inr b ↦ excluded_middle (continues_kind y 26) (implied (blank todo) (continues_kind y 26) (both_right (not (may todo 26)) (implies (blank todo) (continues_kind y 26)) g) b.0) (subst (λ z. continues_kind y (kind z) ≡ false) is (stops_kind y others e w fits b.1))
          ]);
    },
  );
}

-- ---- two symbols of which more than one row may go on

-- an `else` belongs to the nearest `if`
else_taken : (others : List Sym) (e : Lexeme) (w u v : List Lexeme) → Elses others → IsA t.Else e → MayBeElse u → Are others v → e ∷ w ≡ u ++ v → Are (Mark t.Else ∷ S x.Statement ∷ others) (e ∷ w)
else_taken others e w _ v el h x.no_else a is = (e ∷ [], w, record { token = e; stands = h; alone = refl }, el.elses e w h (subst (Are others) (sym is) a), refl)
else_taken others e w _ v el h (x.some_else k u b c) a is =
    let rest : w ≡ u ++ v = cc in
    (e ∷ [], w, record { token = e; stands = h; alone = refl }, (u, v, c, a, rest), refl)

pub predict_else : (l : Lexeme) (s v : List Lexeme) → s ≡ l ∷ v → IsA t.Else l → Item (S x.MayElse) (Mark t.Else ∷ S x.Statement ∷ []) [] s s
predict_else l s v e h = record {
  split = refl;
  builds = λ u are. stmt_part_of x.MayElse u (inl (record { are = are }));
  only = λ others fits m v2 w first are.
      let same : m ≡ l = cc in
      else_taken others m w are.0 are.1 fits.1 (ap (λ z. z.terminal) same ∙ h) are.2 are.3 are.4;
}

-- labels that stand together are labels of one section
abbrev pub label_rows : List (List Sym)
label_rows = (S x.Label ∷ S x.BehindLabel ∷ []) ∷ (S x.Item ∷ S x.Items ∷ S x.Sections ∷ []) ∷ [] ∷ []

sections_rows : (v : List Lexeme) → AnyOf (stmt_rules x.Sections) v → AnyOf label_rows v
sections_rows v (inl r) = inl r
sections_rows v (inr (inl r)) = inr (inr (inl r))
sections_rows v (inr (inr r)) = absurd r

behind_label_rows : (u : List Lexeme) → IsBehindLabel u → AnyOf label_rows u
behind_label_rows _ (x.more_labels u v a b) = inl (part_are (S x.Label) (S x.BehindLabel ∷ []) u v a (last_are (S x.BehindLabel) v b))
behind_label_rows _ (x.no_more_label _ v s.no_item b) = sections_rows v (stmt_rows_of x.Sections v b)
behind_label_rows _ (x.no_more_label _ v (s.more_items p q c d) b) = inr (inl (subst (Fills (S x.Item ∷ S x.Items ∷ S x.Sections ∷ [])) (sym (append_assoc p q v)) (part_are (S x.Item) (S x.Items ∷ S x.Sections ∷ []) p (q ++ v) c (part_are (S x.Items) (S x.Sections ∷ []) q v d (last_are (S x.Sections) v b)))))

behind_label_part : (u : List Lexeme) → AnyOf label_rows u → IsBehindLabel u
behind_label_part u (inl r) = stmt_part_of x.BehindLabel u (inl r)
behind_label_part u (inr (inl r)) = from_part (S x.Item) (S x.Items ∷ S x.Sections ∷ []) u IsBehindLabel (λ a b c d. from_part (S x.Items) (S x.Sections ∷ []) b (λ z. IsBehindLabel (a ++ z)) (λ k l m n. from_last (S x.Sections) l (λ z. IsBehindLabel (a ++ (k ++ z))) (λ p q. subst IsBehindLabel (append_assoc a k p) (x.no_more_label (a ++ k) p (s.more_items a k c m) q)) n) d) r
behind_label_part u (inr (inr (inl r))) = subst IsBehindLabel (sym r.are) (x.no_more_label [] [] s.no_item s.no_section)
behind_label_part u (inr (inr (inr r))) = absurd r

pub predict_label : (l : Lexeme) (s v : List Lexeme) → s ≡ l ∷ v → others_rejected (S x.BehindLabel) 0 label_rows (kind l.terminal) ≡ true → Item (S x.BehindLabel) (S x.Label ∷ S x.BehindLabel ∷ []) [] s s
predict_label l s v e h = predict_row (S x.BehindLabel) label_rows 0 l s v behind_label_rows behind_label_part e h
