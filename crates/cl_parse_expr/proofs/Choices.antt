-- Parts that are one of two by tokens further on.
use Rattle.std.proofs.Common.{◌≡◌, ℕ, zero, suc, ◌+◌, ◌≤◌, ◌<◌, List, [], ◌∷◌, ◌++◌, length, drop, get_or, Bool, true, false, refl, sym, ap, ◌∙◌, subst, append_assoc, arith, ◌⊎◌, inl, inr}
use Rattle.std.specs.Prelude.{not, ◌||◌}
use Rattle.std.proofs.lemmas.List.{append-nil, drop_more}
use Rattle.cl_grammar.specs.declared.lexeme.Lexeme.{Lexeme}
use Rattle.cl_grammar.specs.declared.terminal.Terminal.{Terminal}
use Rattle.cl_grammar.specs.declared.terminal.Terminal.TheVariants as t
use Rattle.cl_grammar.specs.declared.stop.ExprStop.{ExprStop}
use Rattle.cl_grammar.specs.declared.stop.ExprStop.TheVariants.{Out, NoMemory}
use Rattle.cl_grammar.specs.Expressions as x
use Rattle.cl_grammar.specs.Expressions.{IsA, IsUnary, IsCond, IsPrimary}
use Rattle.cl_grammar.specs.Parts as p
use Rattle.cl_grammar.specs.Parts.{IsUnaryAssign, IsCastedAssign, IsCasted, IsTypeInBrackets}
use Rattle.cl_grammar.specs.Symbols as s
use Rattle.cl_grammar.specs.Symbols.{Sym, ExprSym, Class, Mark, E, belongs, Is, IsE, Are, continues, tails, is_any, have_some}
use Rattle.cl_grammar.specs.Items.{Fits, Item, Excluded, between, StandsAt, IsAt, OtherAt, GoesOn, ReadAt, NoneAt, OutAt, IsRefused, RefusedAt, IsBarred, BarredAt}
use Rattle.cl_parse_expr.specs.Reading.{BeginsTyped, BeginsUntyped, other, untyped}
use Rattle.cl_grammar.proofs.TerminalKinds.{kind, has, class_has, class_kind, any_has, any_kind, implies, not as negated, all_below, each, excluded_middle}
use Rattle.cl_grammar.proofs.Firsts.{Begins}
use Rattle.cl_grammar.proofs.ExpressionStarts.{expr_kinds, type_kinds, firsts, assigns_begins, type_begins}
use Rattle.cl_grammar.proofs.Rules.{rules, AnyOf, only, last, more, un_last}
use Rattle.cl_grammar.proofs.Unfolded.{rows_of, part_of}
use Rattle.cl_grammar.proofs.Predicted.{picks, bars, keeps_ok, keeps_mark, row_at}
use Rattle.cl_grammar.proofs.Examples.{token}
use Rattle.cl_grammar.proofs.Places.{between_same, between_one, between_join, between_front, none_more, by_class, by_other_class, by_kinds, by_other_kinds, bars_here, none_in, starts_with, expand, out_next}

only_of : (y : ExprSym) (u : List Lexeme) → Are (E y ∷ []) u → IsE y u
only_of y u are = un_last (E y) u are

-- A part is one of two, of which the first is always one, and nothing goes on with it but with the whole.
pub record Either (x y z : ExprSym) : Type 0 where
  pub parts : (u : List Lexeme) → IsE x u → IsE y u ⊎ IsE z u
  pub first : (u : List Lexeme) → IsE y u → IsE x u
  pub fits : (others : List Sym) → Fits (E x) others → Fits (E y) others
  pub second_fits : (others : List Sym) → Fits (E x) others → Fits (E z) others

either_item : (x y z : ExprSym) (read s s' : List Lexeme) → Either x y z → Item (E y) [] read s s' → Excluded (E z) read s s' → Item (E x) [] read s s'
either_item x y z read s s' e i n = record {
  split = i.split;
  builds = λ u are. e.first (read ++ u) (i.builds u are);
  only = λ others fits l v w first are. elim (e.parts are.0 are.2) as (λ _. Are others (l ∷ w)) [
    | inl h ↦ i.only others (e.fits others fits) l v w first (are.0, are.1, h, are.3, are.4)
    | inr h ↦ absurd (n.no_more others (e.second_fits others fits) l v w first (are.0, are.1, h, are.3, are.4))
  ];
}

either_none : (x y z : ExprSym) (read s s' : List Lexeme) → Either x y z → Excluded (E y) read s s' → Excluded (E z) read s s' → Excluded (E x) read s s'
either_none x y z read s s' e m n = record {
  split = m.split;
  no_more = λ others fits l v w first are. elim (e.parts are.0 are.2) as (λ _. ⊥) [
    | inl h ↦ m.no_more others (e.fits others fits) l v w first (are.0, are.1, h, are.3, are.4)
    | inr h ↦ n.no_more others (e.second_fits others fits) l v w first (are.0, are.1, h, are.3, are.4)
  ];
}

pub either_read : (x y z : ExprSym) (ts : List Lexeme) (a b : ℕ) → Either x y z → ReadAt (E y) ts a b → NoneAt (E z) ts a b → ReadAt (E x) ts a b
either_read x y z ts a b e r n = record { read = record { forth = r.read.forth; within = r.read.within; item = either_item x y z (between ts a b) (drop a ts) (drop b ts) e r.read.item n.excluded } }

pub none_of_both : (x y z : ExprSym) (ts : List Lexeme) (a b : ℕ) → Either x y z → NoneAt (E y) ts a b → NoneAt (E z) ts a b → NoneAt (E x) ts a b
none_of_both x y z ts a b e m n = record { forth = m.forth; within = m.within; excluded = either_none x y z (between ts a b) (drop a ts) (drop b ts) e m.excluded n.excluded }

either_out : (x y z : ExprSym) (ts : List Lexeme) (a b : ℕ) → Either x y z → OutAt (E y) ts a b → NoneAt (E z) ts a b → OutAt (E x) ts a b
either_out x y z ts a b e o n = record { none = none_of_both x y z ts a b e o.none n; begun = record { todo = o.begun.todo; there = o.begun.there; builds = λ u are. e.first (between ts a b ++ u) (o.begun.builds u are) } }

either_stop : (x y z : ExprSym) (ts : List Lexeme) (a : ℕ) (stop : ExprStop) → Either x y z → IsRefused (E y) ts a stop → IsBarred (E z) ts a stop → IsRefused (E x) ts a stop
either_stop x y z ts a (Out k) e h n = either_out x y z ts a k e h n
either_stop x y z ts a NoMemory e h n = tt

pub either_refused : (x y z : ExprSym) (ts : List Lexeme) (a : ℕ) (stop : ExprStop) → Either x y z → RefusedAt (E y) ts a stop → BarredAt (E z) ts a stop → RefusedAt (E x) ts a stop
either_refused x y z ts a stop e h n = record { refused = either_stop x y z ts a stop e h.refused n.barred }

-- ---- the second token

pub first_same : (l m : Lexeme) (w v : List Lexeme) → l ∷ w ≡ m ∷ v → l ≡ m
first_same l m w v e = cc

rest_same : (l m : Lexeme) (w v : List Lexeme) → l ∷ w ≡ m ∷ v → w ≡ v
rest_same l m w v e = cc

-- Tokens in brackets begin with an expression behind the bracket.
second_of : (kinds : List ℕ) (o l q : Lexeme) (w e r : List Lexeme) → o ∷ (l ∷ w) ≡ q ∷ (e ++ r) → Begins kinds e → has kinds (kind l.terminal) ≡ true
second_of kinds o l q w e r h b =
    let tail : l ∷ w ≡ b.first ∷ (b.rest ++ r) = rest_same o q (l ∷ w) (e ++ r) h ∙ ap (λ z. z ++ r) b.is in
    subst (λ z. has kinds (kind z.terminal) ≡ true) (sym (first_same l b.first w (b.rest ++ r) tail)) b.fits

-- another first token
pub not_first : {A : Type 0} (k : Terminal) (o q : Lexeme) (w v : List Lexeme) → o ∷ w ≡ q ∷ v → IsA t.OpenParen o → IsA k q → has (37 ∷ []) (kind k) ≡ false → A
not_first k o q w v e a b h =
    let same = first_same o q w v e in
    let g : t.OpenParen ≡ k = sym a ∙ ap (λ z. z.terminal) same ∙ b in
    absurd (let f : true ≡ false = subst (λ z. has (37 ∷ []) (kind z) ≡ false) (sym g) h in cc)

primary_second : (u v : List Lexeme) (o l : Lexeme) (w : List Lexeme) → IsPrimary u → o ∷ (l ∷ w) ≡ u ++ v → IsA t.OpenParen o → has expr_kinds (kind l.terminal) ≡ true
primary_second _ v o l w (x.name n a) e h = not_first t.Name o n (l ∷ w) v e h a refl
primary_second _ v o l w (x.call_of_none n q c a b d) e h = not_first t.Name o n (l ∷ w) (q ∷ c ∷ v) e h a refl
primary_second _ v o l w (x.call n q c u a b d f) e h = not_first t.Name o n (l ∷ w) _ e h a refl
primary_second _ v o l w (x.number n value ty a) e h = not_first (t.Number value ty) o n (l ∷ w) v e h a refl
primary_second _ v o l w (x.brackets q c u a b d) e h = second_of expr_kinds o l q w u ((c ∷ []) ++ v) (e ∙ ap (λ z. q ∷ z) (append_assoc u (c ∷ []) v)) (assigns_begins u b)

other_class : {A : Type 0} (c : Class) (o q : Lexeme) (w v : List Lexeme) → o ∷ w ≡ q ∷ v → IsA t.OpenParen o → belongs c q.terminal ≡ true → class_has c 37 ≡ false → A
other_class c o q w v e a b h =
    let same = first_same o q w v e in
    let g : q.terminal ≡ t.OpenParen = sym (ap (λ z. z.terminal) same) ∙ a in
    absurd (let f : class_has c 37 ≡ true = sym (class_kind c t.OpenParen) ∙ subst (λ z. belongs c z ≡ true) g b in let k : true ≡ false = sym f ∙ h in cc)

pub unary_second : (u v : List Lexeme) (o l : Lexeme) (w : List Lexeme) → IsUnary u → o ∷ (l ∷ w) ≡ u ++ v → IsA t.OpenParen o → has expr_kinds (kind l.terminal) ≡ true
unary_second _ v o l w (x.only_postfix _ (x.suffixed u r a b)) e h = primary_second u (r ++ v) o l w a (e ∙ append_assoc u r v) h
unary_second _ v o l w (x.incremented q op u a b) e h = other_class s.BeforeIncrement o q (l ∷ w) (u ++ v) e h (ap s.is_some a) refl
unary_second _ v o l w (x.prefixed q op u a b) e h = other_class s.Prefix o q (l ∷ w) (u ++ v) e h (ap s.is_some a) refl
unary_second _ v o l w (x.size_of q u a b) e h = not_first t.Sizeof o q (l ∷ w) (u ++ v) e h a refl
unary_second _ v o l w (x.size_of_type q r c vector u a b d f) e h = not_first t.Sizeof o q (l ∷ w) _ e h a refl

term_kinds_type : (vector : Bool) (k : Terminal) → has (firsts (s.TypeTerm vector)) (kind k) ≡ true → has type_kinds (kind k) ≡ true
term_kinds_type true k h = by_kinds (firsts (s.TypeTerm true)) (has type_kinds) k refl h
term_kinds_type false k h = h

pub casted_second : (u v : List Lexeme) (o l : Lexeme) (w : List Lexeme) → IsCasted u → o ∷ (l ∷ w) ≡ u ++ v → has type_kinds (kind l.terminal) ≡ true
casted_second _ v o l w (p.casted_plain _ (p.plain_cast q c u r a b d f)) e = term_kinds_type false l.terminal (second_of (firsts (s.TypeTerm false)) o l q w u ((c ∷ r) ++ v) (e ∙ ap (λ z. q ∷ z) (append_assoc u (c ∷ r) v)) (type_begins false u b))
casted_second _ v o l w (p.casted_vector _ (p.vector_cast q c u r a b d f)) e = term_kinds_type true l.terminal (second_of (firsts (s.TypeTerm true)) o l q w u ((c ∷ r) ++ v) (e ∙ ap (λ z. q ∷ z) (append_assoc u (c ∷ r) v)) (type_begins true u b))

pub bracketed_second : (u v : List Lexeme) (o l : Lexeme) (w : List Lexeme) → IsTypeInBrackets u → o ∷ (l ∷ w) ≡ u ++ v → has type_kinds (kind l.terminal) ≡ true
bracketed_second _ v o l w (p.type_in_brackets q c vector u a b d) e = term_kinds_type vector l.terminal (second_of (firsts (s.TypeTerm vector)) o l q w u ((c ∷ []) ++ v) (e ∙ ap (λ z. q ∷ z) (append_assoc u (c ∷ []) v)) (type_begins vector u b))

-- ---- other kinds

pub other_paren : (k : Terminal) → (k ≡ t.OpenParen → ⊥) → has (37 ∷ []) (kind k) ≡ false
other_paren t.OpenParen h = absurd (h refl)
other_paren (t.TypeName true) h = refl
other_paren (t.TypeName false) h = refl
other_paren _ h = refl

pub other_close : (k : Terminal) → (k ≡ t.CloseParen → ⊥) → has (38 ∷ []) (kind k) ≡ false
other_close t.CloseParen h = absurd (h refl)
other_close (t.TypeName true) h = refl
other_close (t.TypeName false) h = refl
other_close _ h = refl

pub other_bracket : (k : Terminal) → (k ≡ t.OpenBracket → ⊥) → has (39 ∷ []) (kind k) ≡ false
other_bracket t.OpenBracket h = absurd (h refl)
other_bracket (t.TypeName true) h = refl
other_bracket (t.TypeName false) h = refl
other_bracket _ h = refl

pub other_close_bracket : (k : Terminal) → (k ≡ t.CloseBracket → ⊥) → has (40 ∷ []) (kind k) ≡ false
other_close_bracket t.CloseBracket h = absurd (h refl)
other_close_bracket (t.TypeName true) h = refl
other_close_bracket (t.TypeName false) h = refl
other_close_bracket _ h = refl

pub other_brace : (k : Terminal) → (k ≡ t.OpenBrace → ⊥) → has (41 ∷ []) (kind k) ≡ false
other_brace t.OpenBrace h = absurd (h refl)
other_brace (t.TypeName true) h = refl
other_brace (t.TypeName false) h = refl
other_brace _ h = refl

pub other_close_brace : (k : Terminal) → (k ≡ t.CloseBrace → ⊥) → has (42 ∷ []) (kind k) ≡ false
other_close_brace t.CloseBrace h = absurd (h refl)
other_close_brace (t.TypeName true) h = refl
other_close_brace (t.TypeName false) h = refl
other_close_brace _ h = refl

pub other_comma : (k : Terminal) → (k ≡ t.Comma → ⊥) → has (43 ∷ []) (kind k) ≡ false
other_comma t.Comma h = absurd (h refl)
other_comma (t.TypeName true) h = refl
other_comma (t.TypeName false) h = refl
other_comma _ h = refl

pub other_semicolon : (k : Terminal) → (k ≡ t.Semicolon → ⊥) → has (44 ∷ []) (kind k) ≡ false
other_semicolon t.Semicolon h = absurd (h refl)
other_semicolon (t.TypeName true) h = refl
other_semicolon (t.TypeName false) h = refl
other_semicolon _ h = refl

pub other_colon : (k : Terminal) → (k ≡ t.Colon → ⊥) → has (45 ∷ []) (kind k) ≡ false
other_colon t.Colon h = absurd (h refl)
other_colon (t.TypeName true) h = refl
other_colon (t.TypeName false) h = refl
other_colon _ h = refl

pub other_question : (k : Terminal) → (k ≡ t.Question → ⊥) → has (46 ∷ []) (kind k) ≡ false
other_question t.Question h = absurd (h refl)
other_question (t.TypeName true) h = refl
other_question (t.TypeName false) h = refl
other_question _ h = refl

pub other_star : (k : Terminal) → (k ≡ t.Star → ⊥) → has (54 ∷ []) (kind k) ≡ false
other_star t.Star h = absurd (h refl)
other_star (t.TypeName true) h = refl
other_star (t.TypeName false) h = refl
other_star _ h = refl

pub other_name : (k : Terminal) → (k ≡ t.Name → ⊥) → has (1 ∷ []) (kind k) ≡ false
other_name t.Name h = absurd (h refl)
other_name (t.TypeName true) h = refl
other_name (t.TypeName false) h = refl
other_name _ h = refl

pub other_struct : (k : Terminal) → (k ≡ t.Struct → ⊥) → has (24 ∷ []) (kind k) ≡ false
other_struct t.Struct h = absurd (h refl)
other_struct (t.TypeName true) h = refl
other_struct (t.TypeName false) h = refl
other_struct _ h = refl

pub other_sizeof : (k : Terminal) → (k ≡ t.Sizeof → ⊥) → has (36 ∷ []) (kind k) ≡ false
other_sizeof t.Sizeof h = absurd (h refl)
other_sizeof (t.TypeName true) h = refl
other_sizeof (t.TypeName false) h = refl
other_sizeof _ h = refl

pub other_int : (k : Terminal) → (k ≡ t.Int → ⊥) → has (19 ∷ []) (kind k) ≡ false
other_int t.Int h = absurd (h refl)
other_int (t.TypeName true) h = refl
other_int (t.TypeName false) h = refl
other_int _ h = refl

-- ---- the choices

alike : (x y : ExprSym) (others : List Sym) → ((k : Terminal) → continues (E x) k ≡ false → continues (E y) k ≡ false) → Fits (E x) others → Fits (E y) others
alike x y others h f = record { stops = λ l w are. h l.terminal (f.stops l w are) }

no_more_of : (a b : Bool) → implies a b ≡ true → b ≡ false → a ≡ false
no_more_of true b h f = absurd (let e : true ≡ false = sym h ∙ f in cc)
no_more_of false b h f = refl

two_rows : (y z : Sym) (u : List Lexeme) → AnyOf ((y ∷ []) ∷ (z ∷ []) ∷ []) u → Is y u ⊎ Is z u
two_rows y z u (inl f) = inl (only y u f)
two_rows y z u (inr (inl f)) = inr (only z u f)
two_rows y z u (inr (inr e)) = absurd e

swapped : {A B : Type 0} → A ⊎ B → B ⊎ A
swapped (inl a) = inr a
swapped (inr b) = inl b

-- what goes on with less stops where what goes on with more does
fewer : (cs ds : List Class) (k : Terminal) → all_below 63 (λ n. implies (any_has ds n) (any_has cs n)) ≡ true → is_any cs k ≡ false → is_any ds k ≡ false
fewer cs ds k h f = any_kind ds k ∙ no_more_of (any_has ds (kind k)) (any_has cs (kind k)) (each (λ n. implies (any_has ds n) (any_has cs n)) h k) (sym (any_kind cs k) ∙ f)

pub cast_unary : Either s.Cast s.Unary s.Casted
cast_unary = record {
  parts = λ u a. two_rows (E s.Unary) (E s.Casted) u (rows_of s.Cast u a);
  first = λ u a. x.only_unary u a;
  fits = λ others f. alike s.Cast s.Unary others (λ k h. h) f;
  second_fits = λ others f. alike s.Cast s.Casted others (λ k h. h) f;
}

pub cast_casted : Either s.Cast s.Casted s.Unary
cast_casted = record {
  parts = λ u a. swapped (two_rows (E s.Unary) (E s.Casted) u (rows_of s.Cast u a));
  first = λ u a. part_of s.Cast u (inr (inl (last (E s.Casted) u a)));
  fits = λ others f. alike s.Cast s.Casted others (λ k h. h) f;
  second_fits = λ others f. alike s.Cast s.Unary others (λ k h. h) f;
}

pub casted_plain : Either s.Casted s.PlainCast s.VectorCast
casted_plain = record {
  parts = λ u a. two_rows (E s.PlainCast) (E s.VectorCast) u (rows_of s.Casted u a);
  first = λ u a. p.casted_plain u a;
  fits = λ others f. alike s.Casted s.PlainCast others (λ k h. h) f;
  second_fits = λ others f. alike s.Casted s.VectorCast others (λ k h. h) f;
}

pub casted_vector : Either s.Casted s.VectorCast s.PlainCast
casted_vector = record {
  parts = λ u a. swapped (two_rows (E s.PlainCast) (E s.VectorCast) u (rows_of s.Casted u a));
  first = λ u a. p.casted_vector u a;
  fits = λ others f. alike s.Casted s.VectorCast others (λ k h. h) f;
  second_fits = λ others f. alike s.Casted s.PlainCast others (λ k h. h) f;
}

pub assign_unary : Either s.Assign s.UnaryAssign s.CastedAssign
assign_unary = record {
  parts = λ u a. two_rows (E s.UnaryAssign) (E s.CastedAssign) u (rows_of s.Assign u a);
  first = λ u a. part_of s.Assign u (inl (last (E s.UnaryAssign) u a));
  fits = λ others f. alike s.Assign s.UnaryAssign others (λ k h. h) f;
  second_fits = λ others f. alike s.Assign s.CastedAssign others (λ k h. fewer (tails s.Assign) (tails s.CastedAssign) k refl h) f;
}

pub assign_casted : Either s.Assign s.CastedAssign s.UnaryAssign
assign_casted = record {
  parts = λ u a. swapped (two_rows (E s.UnaryAssign) (E s.CastedAssign) u (rows_of s.Assign u a));
  first = λ u a. part_of s.Assign u (inr (inl (last (E s.CastedAssign) u a)));
  fits = λ others f. alike s.Assign s.CastedAssign others (λ k h. fewer (tails s.Assign) (tails s.CastedAssign) k refl h) f;
  second_fits = λ others f. alike s.Assign s.UnaryAssign others (λ k h. h) f;
}

pub sized_unary : Either s.Sized s.Unary s.TypeInBrackets
sized_unary = record {
  parts = λ u a. swapped (two_rows (E s.TypeInBrackets) (E s.Unary) u (rows_of s.Sized u a));
  first = λ u a. p.sized_unary u a;
  fits = λ others f. alike s.Sized s.Unary others (λ k h. h) f;
  second_fits = λ others f. alike s.Sized s.TypeInBrackets others (λ k h. refl) f;
}

pub sized_type : Either s.Sized s.TypeInBrackets s.Unary
sized_type = record {
  parts = λ u a. two_rows (E s.TypeInBrackets) (E s.Unary) u (rows_of s.Sized u a);
  first = λ u a. p.sized_type u a;
  fits = λ others f. alike s.Sized s.TypeInBrackets others (λ k h. refl) f;
  second_fits = λ others f. alike s.Sized s.Unary others (λ k h. h) f;
}

pub any_type_plain : Either s.AnyType (s.TypeTerm false) (s.TypeTerm true)
any_type_plain = record {
  parts = λ u a. two_rows (E (s.TypeTerm false)) (E (s.TypeTerm true)) u (rows_of s.AnyType u a);
  first = λ u a. p.any_type false u a;
  fits = λ others f. alike s.AnyType (s.TypeTerm false) others (λ k h. h) f;
  second_fits = λ others f. alike s.AnyType (s.TypeTerm true) others (λ k h. h) f;
}

pub any_type_vector : Either s.AnyType (s.TypeTerm true) (s.TypeTerm false)
any_type_vector = record {
  parts = λ u a. swapped (two_rows (E (s.TypeTerm false)) (E (s.TypeTerm true)) u (rows_of s.AnyType u a));
  first = λ u a. p.any_type true u a;
  fits = λ others f. alike s.AnyType (s.TypeTerm true) others (λ k h. h) f;
  second_fits = λ others f. alike s.AnyType (s.TypeTerm false) others (λ k h. h) f;
}

pub any_spec_plain : Either s.AnySpec (s.Spec false) (s.Spec true)
any_spec_plain = record {
  parts = λ u a. two_rows (E (s.Spec false)) (E (s.Spec true)) u (rows_of s.AnySpec u a);
  first = λ u a. p.any_spec false u a;
  fits = λ others f. alike s.AnySpec (s.Spec false) others (λ k h. h) f;
  second_fits = λ others f. alike s.AnySpec (s.Spec true) others (λ k h. h) f;
}

pub any_spec_vector : Either s.AnySpec (s.Spec true) (s.Spec false)
any_spec_vector = record {
  parts = λ u a. swapped (two_rows (E (s.Spec false)) (E (s.Spec true)) u (rows_of s.AnySpec u a));
  first = λ u a. p.any_spec true u a;
  fits = λ others f. alike s.AnySpec (s.Spec true) others (λ k h. h) f;
  second_fits = λ others f. alike s.AnySpec (s.Spec false) others (λ k h. h) f;
}

-- A type of either sort was read, or is refused.
pub any_type_read : (vector : Bool) (ts : List Lexeme) (a b : ℕ) → ReadAt (E (s.TypeTerm vector)) ts a b → NoneAt (E (s.TypeTerm (not vector))) ts a b → ReadAt (E s.AnyType) ts a b
any_type_read true ts a b r n = either_read s.AnyType (s.TypeTerm true) (s.TypeTerm false) ts a b any_type_vector r n
any_type_read false ts a b r n = either_read s.AnyType (s.TypeTerm false) (s.TypeTerm true) ts a b any_type_plain r n

pub any_spec_read : (vector : Bool) (ts : List Lexeme) (a b : ℕ) → ReadAt (E (s.Spec vector)) ts a b → NoneAt (E (s.Spec (not vector))) ts a b → ReadAt (E s.AnySpec) ts a b
any_spec_read true ts a b r n = either_read s.AnySpec (s.Spec true) (s.Spec false) ts a b any_spec_vector r n
any_spec_read false ts a b r n = either_read s.AnySpec (s.Spec false) (s.Spec true) ts a b any_spec_plain r n

-- ---- which of the two it is

not_so : (a : Bool) → negated a ≡ true → a ≡ false
not_so true h = absurd (let e : false ≡ true = h in cc)
not_so false h = refl

not_type : (k : Terminal) → has expr_kinds (kind k) ≡ true → has type_kinds (kind k) ≡ true → ⊥
not_type k h g = excluded_middle (has type_kinds (kind k)) g (not_so (has type_kinds (kind k)) (by_kinds expr_kinds (λ n. negated (has type_kinds n)) k refl h))

unary_none : (ts : List Lexeme) (at : ℕ) (o l : Lexeme) → StandsAt ts at o → StandsAt ts (at + 1) l → IsA t.OpenParen o → has type_kinds (kind l.terminal) ≡ true → NoneAt (E s.Unary) ts at (at + 1)
unary_none ts at o l a b h g = record {
  forth = omega arith;
  within = b.within;
  excluded = record {
    split = between_front ts at (at + 1) (omega arith);
    no_more = λ others fits m v w first are.
        let same : m ≡ l = first_same m l v (drop ((at + 1) + 1) ts) (sym first ∙ b.here) in
        let e : o ∷ (m ∷ w) ≡ are.0 ++ are.1 = ap (λ z. z ++ m ∷ w) (sym (between_one ts at o a.here)) ∙ are.4 in
        not_type m.terminal (unary_second are.0 are.1 o m w are.2 e h) (subst (λ z. has type_kinds (kind z.terminal) ≡ true) (sym same) g);
  };
}

second_none : (y : ExprSym) (ts : List Lexeme) (at : ℕ) (o l : Lexeme) → ((u v : List Lexeme) (o l : Lexeme) (w : List Lexeme) → IsE y u → o ∷ (l ∷ w) ≡ u ++ v → has type_kinds (kind l.terminal) ≡ true) → StandsAt ts at o → StandsAt ts (at + 1) l → has type_kinds (kind l.terminal) ≡ false → NoneAt (E y) ts at (at + 1)
second_none y ts at o l second a b g = record {
  forth = omega arith;
  within = b.within;
  excluded = record {
    split = between_front ts at (at + 1) (omega arith);
    no_more = λ others fits m v w first are.
        let same : m ≡ l = first_same m l v (drop ((at + 1) + 1) ts) (sym first ∙ b.here) in
        let e : o ∷ (m ∷ w) ≡ are.0 ++ are.1 = ap (λ z. z ++ m ∷ w) (sym (between_one ts at o a.here)) ∙ are.4 in
        excluded_middle (has type_kinds (kind m.terminal)) (second are.0 are.1 o m w are.2 e) (subst (λ z. has type_kinds (kind z.terminal) ≡ false) (sym same) g);
  };
}

pub no_unary : (ts : List Lexeme) (at : ℕ) → BeginsTyped ts at → NoneAt (E s.Unary) ts at (at + 1)
no_unary ts at b = unary_none ts at b.opens.token b.stands.token b.opens.stands b.stands.stands b.opens.is (subst (λ z. has type_kinds (kind z) ≡ true) (sym b.stands.is) (by_class s.TypeWord (has type_kinds) b.second refl b.begins))

-- A part that begins with a type in brackets does not begin there.
pub data NotTyped (y : ExprSym) (ts : List Lexeme) (at : ℕ) : Type 0 where
  at_first : NoneAt (E y) ts at at → NotTyped y ts at
  at_second : IsAt ts at t.OpenParen → NoneAt (E y) ts at (at + 1) → NotTyped y ts at

begins_not : (y : ExprSym) (ts : List Lexeme) (at : ℕ) → all_below 63 (λ n. has (37 ∷ []) n || bars y n) ≡ true → ((u v : List Lexeme) (o l : Lexeme) (w : List Lexeme) → IsE y u → o ∷ (l ∷ w) ≡ u ++ v → has type_kinds (kind l.terminal) ≡ true) → BeginsUntyped ts at → NotTyped y ts at
begins_not y ts at h second (other o) = at_first (bars_here y ts at o.other o.stands (by_other_kinds (37 ∷ []) (bars y) o.other h (other_paren o.other o.differs)))
begins_not y ts at h second (untyped k a b g) = at_second a (second_none y ts at a.token b.token second a.stands b.stands (subst (λ z. has type_kinds (kind z) ≡ false) (sym b.is) (not_so (has type_kinds (kind k)) (by_other_class s.TypeWord (λ n. negated (has type_kinds n)) k refl g))))

pub no_casted : (ts : List Lexeme) (at : ℕ) → BeginsUntyped ts at → NotTyped s.Casted ts at
no_casted ts at b = begins_not s.Casted ts at refl casted_second b

pub no_bracketed : (ts : List Lexeme) (at : ℕ) → BeginsUntyped ts at → NotTyped s.TypeInBrackets ts at
no_bracketed ts at b = begins_not s.TypeInBrackets ts at refl bracketed_second b

-- The same of a part that begins with such a part.
pub not_led : (x y : ExprSym) (todo : List Sym) (ts : List Lexeme) (at : ℕ) → GoesOn (E x) (E y ∷ todo) ts at at → NotTyped y ts at → keeps_ok (E x) (E y) todo ≡ true → NotTyped x ts at
not_led x y todo ts at i (at_first n) g = at_first (none_in (E x) y todo ts at at at i n g)
not_led x y todo ts at i (at_second o n) g = at_second o (none_in (E x) y todo ts at at (at + 1) i n g)

pub not_typed_next : (y : ExprSym) (ts : List Lexeme) (at next : ℕ) → NotTyped y ts at → at < next → next < length ts → NoneAt (E y) ts at next
not_typed_next y ts at next (at_first n) h g = none_more (E y) ts at at next n (omega arith) g
not_typed_next y ts at next (at_second o n) h g = none_more (E y) ts at (at + 1) next n (omega arith) g

-- a part that can begin with a bracket
pub record Opens (z : ExprSym) : Type 0 where
  pub opens : (l : Lexeme) → IsA t.OpenParen l → (w : List Lexeme) × IsE z (l ∷ w)

not_here : (z : ExprSym) (ts : List Lexeme) (at : ℕ) → Opens z → IsAt ts at t.OpenParen → NoneAt (E z) ts at at → ⊥
not_here z ts at b s n =
    let w = b.opens s.token s.is in
    n.excluded.no_more [] (record { stops = λ l v are. absurd (let e : l ∷ v ≡ [] = are in cc) }) s.token (drop (at + 1) ts) w.0 s.stands.here
    (subst (λ z2. Are (E z ∷ []) (z2 ++ s.token ∷ w.0)) (sym (between_same ts at)) (s.token ∷ w.0, [], w.1, refl, sym (append-nil (s.token ∷ w.0))))

pub later_or : (a b : ℕ) → a ≤ b → (a ≡ b) ⊎ (a + 1 ≤ b)
later_or zero zero h = inl refl
later_or zero (suc b) h = inr (omega arith)
later_or (suc a) zero h = absurd (omega arith)
later_or (suc a) (suc b) h = elim (later_or a b (omega arith)) as (λ _. (suc a ≡ suc b) ⊎ (suc a + 1 ≤ suc b)) [ inl e ↦ inl (ap suc e) | inr g ↦ inr (omega arith) ]

later_barred : (y z : ExprSym) (ts : List Lexeme) (at k : ℕ) → Opens z → IsAt ts at t.OpenParen → NoneAt (E y) ts at (at + 1) → OutAt (E z) ts at k → (at ≡ k) ⊎ (at + 1 ≤ k) → NoneAt (E y) ts at k
later_barred y z ts at k b s n o (inl e) = absurd (not_here z ts at b s (subst (λ m. NoneAt (E z) ts at m) (sym e) o.none))
later_barred y z ts at k b s n o (inr g) = none_more (E y) ts at (at + 1) k n g o.none.within

barred_from : (y z : ExprSym) (ts : List Lexeme) (at : ℕ) (stop : ExprStop) → Opens z → NotTyped y ts at → IsRefused (E z) ts at stop → IsBarred (E y) ts at stop
barred_from y z ts at (Out k) b (at_first n) h = none_more (E y) ts at at k n h.none.forth h.none.within
barred_from y z ts at (Out k) b (at_second s n) h = later_barred y z ts at k b s n h (later_or at k h.none.forth)
barred_from y z ts at NoMemory b n h = tt

-- Where a part is refused, one that does not begin there is out of the question.
pub not_typed_stop : (y z : ExprSym) (ts : List Lexeme) (at : ℕ) (stop : ExprStop) → Opens z → NotTyped y ts at → RefusedAt (E z) ts at stop → BarredAt (E y) ts at stop
not_typed_stop y z ts at stop b n h = record { barred = barred_from y z ts at stop b n h.refused }

-- ---- parts that can begin with a bracket

in_brackets : (l : Lexeme) → IsA t.OpenParen l → IsPrimary (l ∷ token t.Name ∷ token t.CloseParen ∷ [])
in_brackets l a = x.brackets l (token t.CloseParen) (token t.Name ∷ []) a (x.last_assign _ (x.only_cond _ (x.only_bin _ (x.only_cast _ (x.only_unary _ (x.only_postfix _ (x.suffixed (token t.Name ∷ []) [] (x.name (token t.Name) refl) x.no_suffix))))))) refl

unary_in_brackets : (l : Lexeme) → IsA t.OpenParen l → IsUnary (l ∷ token t.Name ∷ token t.CloseParen ∷ [])
unary_in_brackets l a = x.only_postfix _ (x.suffixed (l ∷ token t.Name ∷ token t.CloseParen ∷ []) [] (in_brackets l a) x.no_suffix)

casted_in_brackets : (l : Lexeme) → IsA t.OpenParen l → IsCasted (l ∷ token t.Void ∷ token t.CloseParen ∷ token t.Name ∷ [])
casted_in_brackets l a = p.casted_plain _ (p.plain_cast l (token t.CloseParen) (token t.Void ∷ []) (token t.Name ∷ []) a (x.plain_type false (token t.Void ∷ []) (x.spec false [] (token t.Void ∷ []) [] tt (x.type_word false (token t.Void) refl) tt)) refl (x.only_unary _ (x.only_postfix _ (x.suffixed (token t.Name ∷ []) [] (x.name (token t.Name) refl) x.no_suffix))))

nothing_behind : p.IsBehindCast []
nothing_behind = p.behind_cast [] [] p.row_ends p.no_choice

pub unary_opens : Opens s.Unary
unary_opens = record { opens = λ l a. (token t.Name ∷ token t.CloseParen ∷ [], unary_in_brackets l a) }

pub casted_opens : Opens s.Casted
casted_opens = record { opens = λ l a. (token t.Void ∷ token t.CloseParen ∷ token t.Name ∷ [], casted_in_brackets l a) }

pub unary_assign_opens : Opens s.UnaryAssign
unary_assign_opens = record { opens = λ l a. (token t.Name ∷ token t.CloseParen ∷ [], p.unary_assign (l ∷ token t.Name ∷ token t.CloseParen ∷ []) [] (unary_in_brackets l a) (p.not_assigned [] nothing_behind)) }

pub casted_assign_opens : Opens s.CastedAssign
casted_assign_opens = record { opens = λ l a. (token t.Void ∷ token t.CloseParen ∷ token t.Name ∷ [], p.casted_assign (l ∷ token t.Void ∷ token t.CloseParen ∷ token t.Name ∷ []) [] (casted_in_brackets l a) nothing_behind) }

pub bracketed_opens : Opens s.TypeInBrackets
bracketed_opens = record { opens = λ l a. (token t.Void ∷ token t.CloseParen ∷ [], p.type_in_brackets l (token t.CloseParen) false (token t.Void ∷ []) a (x.plain_type false (token t.Void ∷ []) (x.spec false [] (token t.Void ∷ []) [] tt (x.type_word false (token t.Void) refl) tt)) refl) }

cond_of_casted : (u : List Lexeme) → IsCastedAssign u → IsCond u
cond_of_casted _ (p.casted_assign u v a b) = part_of s.Cond (u ++ v) (inl (more (E s.Cast) (E s.BehindCast ∷ []) u v (part_of s.Cast u (inr (inl (last (E s.Casted) u a)))) (last (E s.BehindCast) v b)))

cond_or : (u : List Lexeme) → IsUnaryAssign u ⊎ IsCastedAssign u → IsCond u ⊎ IsUnaryAssign u
cond_or u (inl a) = inr a
cond_or u (inr a) = inl (cond_of_casted u a)

pub assign_cond : Either s.Assign s.Cond s.UnaryAssign
assign_cond = record {
  parts = λ u a. cond_or u (two_rows (E s.UnaryAssign) (E s.CastedAssign) u (rows_of s.Assign u a));
  first = λ u a. x.only_cond u a;
  fits = λ others f. alike s.Assign s.Cond others (λ k h. fewer (tails s.Assign) (tails s.Cond) k refl h) f;
  second_fits = λ others f. alike s.Assign s.UnaryAssign others (λ k h. h) f;
}

pub cond_opens : Opens s.Cond
cond_opens = record { opens = λ l a. (token t.Name ∷ token t.CloseParen ∷ [], x.only_bin _ (x.only_cast _ (x.only_unary _ (unary_in_brackets l a)))) }

pub typed : (ts : List Lexeme) (at : ℕ) → BeginsTyped ts at → NotTyped s.Unary ts at
typed ts at b = at_second b.opens (no_unary ts at b)

-- ---- any token

pub token_at : (ts : List Lexeme) (at : ℕ) → at < length ts → (k : Terminal) × IsAt ts at k
token_at ts at h = let l = get_or ts at (token t.End) in (l.terminal, record { token = l; stands = record { within = h; here = drop_more ts at (token t.End) h }; is = refl })

-- the only row of a part
pub single : (y : ExprSym) (ts : List Lexeme) (at : ℕ) → at < length ts → ((k : ℕ) → picks y 0 k ≡ true) → GoesOn (E y) (row_at 0 (rules y)) ts at at
single y ts at h g = let k = token_at ts at h in starts_with y 0 ts at k.0 k.1 (g (kind k.0))

pub expand_single : (x : Sym) (y : ExprSym) (todo : List Sym) (ts : List Lexeme) (a b : ℕ) → GoesOn x (E y ∷ todo) ts a b → ((k : ℕ) → picks y 0 k ≡ true) → keeps_ok x (E y) todo ≡ true → GoesOn x (row_at 0 (rules y) ++ todo) ts a b
expand_single x y todo ts a b i g h = let k = token_at ts b i.within in expand x y todo 0 ts a b k.0 i k.1 (g (kind k.0)) h

-- a part of which nothing was read
pub itself : (y : ExprSym) (ts : List Lexeme) (at : ℕ) → at < length ts → GoesOn (E y) (E y ∷ []) ts at at
itself y ts at h = record {
  forth = omega arith;
  within = h;
  item = subst (λ z. Item (E y) (E y ∷ []) z (drop at ts) (drop at ts)) (sym (between_same ts at)) (record { split = refl; builds = λ u are. only_of y u are; only = λ others fits l v w first are. are });
}

-- a part that is no tokens here
pub dropped : (x : Sym) (y : ExprSym) (todo : List Sym) (n : ℕ) (c : Terminal) (ks : List ℕ) (ts : List Lexeme) (a b : ℕ) → GoesOn x (E y ∷ todo) ts a b → OtherAt ts b c → ((k : Terminal) → (k ≡ c → ⊥) → has ks (kind k) ≡ false) → all_below 63 (λ m. has ks m || picks y n m) ≡ true → keeps_ok x (E y) todo ≡ true → GoesOn x (row_at n (rules y) ++ todo) ts a b
dropped x y todo n c ks ts a b i o h g m = expand x y todo n ts a b o.other i o.stands (by_other_kinds ks (picks y n) o.other g (h o.other o.differs)) m

marked_out : (x : Sym) (k : Terminal) (todo : List Sym) (ts : List Lexeme) (a b : ℕ) (stop : ExprStop) → GoesOn x (Mark k ∷ todo) ts a b → IsRefused (Mark k) ts b stop → have_some todo ≡ true → IsRefused x ts a stop
marked_out x k todo ts a b (Out n) i h m = out_next x (Mark k) todo ts a b n (keeps_mark x k todo) m i h
marked_out x k todo ts a b NoMemory i h m = tt

-- Another token stands where a mark is to stand.
pub stops_in_mark : (x : Sym) (k : Terminal) (todo : List Sym) (ts : List Lexeme) (a b : ℕ) (stop : ExprStop) → GoesOn x (Mark k ∷ todo) ts a b → RefusedAt (Mark k) ts b stop → have_some todo ≡ true → RefusedAt x ts a stop
stops_in_mark x k todo ts a b stop i h m = record { refused = marked_out x k todo ts a b stop i h.refused m }

-- tokens from an index on by the first of them
pub between_first : (ts : List Lexeme) (b k : ℕ) (l : Lexeme) → drop b ts ≡ l ∷ drop (b + 1) ts → b + 1 ≤ k → between ts b k ≡ l ∷ between ts (b + 1) k
between_first ts b k l h g = sym (between_join ts b (b + 1) k (omega arith) g) ∙ ap (λ z. z ++ between ts (b + 1) k) (between_one ts b l h)
