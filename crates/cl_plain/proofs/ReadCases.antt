-- What the readers answer at each line of the grammar, from what they answer for its parts.
use Rattle.std.proofs.Common.{◌≡◌, ℕ, Bool, true, false, List, [], ◌∷◌, ◌++◌, Option, Some, None, refl, ap, ◌∙◌}
use Rattle.cl_types.specs.declared.operator.UnOp.{UnOp}
use Rattle.cl_types.specs.declared.operator.UnOp.TheVariants as un
use Rattle.cl_types.specs.declared.operator.BinOp.{BinOp}
use Rattle.cl_ast.specs.declared.expression.Qual.{Qual}
use Rattle.cl_ast.specs.declared.expression.ExprNode.TheVariants as node
use Rattle.cl_ast.specs.declared.expression.Base.{Base}
use Rattle.cl_ast.specs.declared.expression.Base.TheVariants as base
use Rattle.cl_grammar.specs.declared.lexeme.Lexeme.{Lexeme}
use Rattle.cl_grammar.specs.declared.operator.Operator.{Operator}
use Rattle.cl_grammar.specs.declared.terminal.Terminal.TheVariants as t
use Rattle.cl_grammar.specs.Terminals.{qualifier_of, width_of, takes_int, prefix_of, increment_before, increment_behind, arrow_of, binary_of, assignment_of}
use Rattle.cl_grammar.specs.Lexemes.{is_name}
use Rattle.cl_grammar.specs.Expressions.{IsA, is_open}
use Rattle.cl_grammar.specs.ExpressionTrees
use Rattle.cl_grammar.specs.ExpressionTrees.{WidthOf, IntegerOf, type_of_word}
use Rattle.cl_plain.specs.Plain.{Plain, expr, untyped, cast, vector, size_of_type, term, spec, word, tag, struct, field, declor, missing, given, over, leaf}
use Rattle.cl_plain.proofs.Reading.{first_is, begins_type}
use Rattle.cl_plain.proofs.ReadMarks.{is_close_paren, is_open_bracket, is_close_bracket, is_open_brace, is_close_brace, is_comma, is_semicolon, is_colon, is_question, is_int, no_suffix, first, first_suffix, begins_primary, primary_starts, whole_is, sign_is, width_is, increment_is, prefix_is, arrow_is, step_is}
use Rattle.cl_plain.proofs.Readers.{quals, star_step, past_int, past_int_by, signed_by, base_step, choice_by, opens_type, names_vector}
use Rattle.cl_plain.proofs.ReadGroups.{grouped}
use Rattle.cl_plain.proofs.ReadWords.{opens}
use Rattle.cl_plain.proofs.ReadDown.{Got, done, fixed, next, mark, spec_down, members_down, declors_down, declor_down, lengths_down, term_down, expr_down, args_down, assign_down, cond_down, row_down, cast_down, unary_down, primary_down, suffixes_down}

-- ---- types

pub word_case : (w : Lexeme) (b : Base) (r : List Lexeme) → type_of_word w w.terminal ≡ Some b → Got (λ R. base_step R (w ∷ r)) (leaf (word b), r)
word_case w b r h = rw (whole_is w b w.terminal h) (done _)

int_stays : (takes : Bool) (r : List Lexeme) → first_is is_int r ≡ false → past_int takes r ≡ r
int_stays true r e = ap (λ z. past_int_by z r) e
int_stays false r e = refl

int_passes : (takes : Bool) (i : Lexeme) (r : List Lexeme) → takes ≡ true → IsA t.Int i → past_int takes (i ∷ r) ≡ r
int_passes takes i r h e = (λ j. past_int (h j) (i ∷ r)) ∙ ap (λ z. past_int_by (is_int z) (i ∷ r)) e

width_case : (u : List Lexeme) (bits : ℕ) (r : List Lexeme) → WidthOf u bits → first_is is_int r ≡ false → Got (λ R. base_step R (u ++ r)) (leaf (word (base.Int bits true)), r)
width_case _ _ r (ExpressionTrees.WidthOf.word w bits h) e = rw (width_is w bits w.terminal h) (fixed (ap (λ z. Some (leaf (word (base.Int bits true)), z)) (int_stays (takes_int w.terminal) r e)))
width_case _ _ r (ExpressionTrees.WidthOf.with_int w i bits h k x) e = rw (width_is w bits w.terminal x) (fixed (ap (λ z. Some (leaf (word (base.Int bits true)), z)) (int_passes (takes_int w.terminal) i r h k)))

signed_is : (u : List Lexeme) (bits : ℕ) (signed : Bool) (r : List Lexeme) → WidthOf u bits → first_is is_int r ≡ false → signed_by signed (first width_of (u ++ r)) (u ++ r) ≡ Some (leaf (word (base.Int bits signed)), r)
signed_is _ _ signed r (ExpressionTrees.WidthOf.word w bits h) e =
    ap (λ z. signed_by signed z (w ∷ r)) h ∙ ap (λ z. Some (leaf (word (base.Int bits signed)), z)) (int_stays (takes_int w.terminal) r e)
signed_is _ _ signed r (ExpressionTrees.WidthOf.with_int w i bits h k x) e =
    ap (λ z. signed_by signed z (w ∷ i ∷ r)) x ∙ ap (λ z. Some (leaf (word (base.Int bits signed)), z)) (int_passes (takes_int w.terminal) i r h k)

pub integer_case : (u : List Lexeme) (b : Base) (r : List Lexeme) → IntegerOf u b → first_is is_int r ≡ false → first width_of r ≡ None → Got (λ R. base_step R (u ++ r)) (leaf (word b), r)
integer_case _ _ r (ExpressionTrees.IntegerOf.plain u bits h) e none = width_case u bits r h e
integer_case _ _ r (ExpressionTrees.IntegerOf.with_sign s signed u bits h k) e none = rw (sign_is s signed s.terminal h) (fixed (signed_is u bits signed r k e))
integer_case _ _ r (ExpressionTrees.IntegerOf.sign s signed h) e none = rw (sign_is s signed s.terminal h) (fixed (ap (λ z. signed_by signed z r) none))

pub struct_name_case : (s n : Lexeme) (r : List Lexeme) → IsA t.Struct s → IsA t.Name n → first_is is_open_brace r ≡ false → Got (λ R. base_step R (s ∷ n ∷ r)) (leaf (tag (Some n.text) n.place), r)
struct_name_case s n r h k e = rw h (rw k (rw e (done _)))

pub named_struct_case : (s n o c : Lexeme) (m r : List Lexeme) (fs : List Plain) → IsA t.Struct s → IsA t.Name n → IsA t.OpenBrace o → Got (λ R. R.members m) (fs, c ∷ r) → IsA t.CloseBrace c
    → Got (λ R. base_step R (s ∷ n ∷ o ∷ m)) (over (struct (Some n.text) n.place) fs, r)
named_struct_case s n o c m r fs h0 h1 h2 x h3 = rw h0 (rw h1 (rw h2 (next _ x (mark is_close_brace r _ h3 refl (done _)))))

pub struct_case : (s o c : Lexeme) (m r : List Lexeme) (fs : List Plain) → IsA t.Struct s → IsA t.OpenBrace o → Got (λ R. R.members m) (fs, c ∷ r) → IsA t.CloseBrace c
    → Got (λ R. base_step R (s ∷ o ∷ m)) (over (struct None s.place) fs, r)
struct_case s o c m r fs h0 h1 x h2 = let e : is_name o.terminal ≡ false = ap is_name h1 in rw h0 (rw e (mark is_open_brace m _ h1 refl (next _ x (mark is_close_brace r _ h2 refl (done _)))))

pub spec_case : (m v w r : List Lexeme) (before behind : List Qual) (b : Plain) → quals qualifier_of m ≡ (before, v) → Got (λ R. base_step R v) (b, w) → quals qualifier_of w ≡ (behind, r)
    → Got (λ R. R.spec m) (over (spec (before ++ behind)) (b ∷ []), r)
spec_case m v w r before behind b h x k = spec_down (rw h (next _ x (rw k (done _))))

pub last_member_case : (s : Lexeme) (m v r : List Lexeme) (sp : Plain) (ds : List Plain) → Got (λ R. R.spec m) (sp, v) → Got (λ R. R.declors v) (ds, s ∷ r) → IsA t.Semicolon s → first_is is_close_brace r ≡ true
    → Got (λ R. R.members m) (over field (sp ∷ ds) ∷ [], r)
last_member_case s m v r sp ds x y h e = members_down (next _ x (next _ y (mark is_semicolon r _ h refl (rw e (done _)))))

pub more_members_case : (s : Lexeme) (m v w r : List Lexeme) (sp : Plain) (ds fs : List Plain) → Got (λ R. R.spec m) (sp, v) → Got (λ R. R.declors v) (ds, s ∷ w) → IsA t.Semicolon s → first_is is_close_brace w ≡ false
    → Got (λ R. R.members w) (fs, r) → Got (λ R. R.members m) (over field (sp ∷ ds) ∷ fs, r)
more_members_case s m v w r sp ds fs x y h e z = members_down (next _ x (next _ y (mark is_semicolon w _ h refl (rw e (next _ z (done _))))))

pub last_declor_case : (m r : List Lexeme) (d : Plain) → Got (λ R. R.declor m) (d, r) → first_is is_comma r ≡ false → Got (λ R. R.declors m) (d ∷ [], r)
last_declor_case m r d x e = declors_down (next _ x (rw e (done _)))

pub more_declors_case : (c : Lexeme) (m v r : List Lexeme) (d : Plain) (ds : List Plain) → Got (λ R. R.declor m) (d, c ∷ v) → IsA t.Comma c → Got (λ R. R.declors v) (ds, r) → Got (λ R. R.declors m) (d ∷ ds, r)
more_declors_case c m v r d ds x h y = declors_down (next _ x (rw h (next _ y (done _))))

pub declor_case : (n : Lexeme) (m v r : List Lexeme) (s : Option (List Qual)) (es : List Plain) → star_step m ≡ Some (s, n ∷ v) → IsA t.Name n → Got (λ R. R.lengths v) (es, r) → Got (λ R. R.declor m) (over (declor s n.text n.place) es, r)
declor_case n m v r s es e h x = declor_down (next _ (fixed e) (mark is_name v _ h refl (next _ x (done _))))

pub no_length_case : (r : List Lexeme) → first_is is_open_bracket r ≡ false → Got (λ R. R.lengths r) ([], r)
no_length_case r e = lengths_down (rw e (done _))

pub missing_length_case : (o c : Lexeme) (v r : List Lexeme) (es : List Plain) → IsA t.OpenBracket o → IsA t.CloseBracket c → Got (λ R. R.lengths v) (es, r) → Got (λ R. R.lengths (o ∷ c ∷ v)) (leaf missing ∷ es, r)
missing_length_case o c v r es h k x = lengths_down (rw h (rw k (next _ x (done _))))

pub length_given_case : (o c : Lexeme) (m v r : List Lexeme) (e : Plain) (es : List Plain) → IsA t.OpenBracket o → first_is is_close_bracket m ≡ false → Got (λ R. R.cond m) (e, c ∷ v) → IsA t.CloseBracket c → Got (λ R. R.lengths v) (es, r)
    → Got (λ R. R.lengths (o ∷ m)) (over given (e ∷ []) ∷ es, r)
length_given_case o c m v r e es h f x k y = lengths_down (rw h (rw f (next _ x (mark is_close_bracket v _ k refl (next _ y (done _))))))

pub term_case : (m v r : List Lexeme) (s : Plain) (q : Option (List Qual)) → Got (λ R. R.spec m) (s, v) → star_step v ≡ Some (q, r) → Got (λ R. R.term m) (over (term q) (s ∷ []), r)
term_case m v r s q x e = term_down (next _ x (next _ (fixed e) (done _)))

-- ---- expressions

pub only_assign_case : (m r : List Lexeme) (a : Plain) → Got (λ R. R.assign m) (a, r) → first_is is_comma r ≡ false → Got (λ R. R.expr m) (a, r)
only_assign_case m r a x e = expr_down (next _ x (rw e (done _)))

pub comma_case : (c : Lexeme) (m v r : List Lexeme) (a : Plain) (xs : List Plain) → Got (λ R. R.assign m) (a, c ∷ v) → IsA t.Comma c → Got (λ R. R.args v) (xs, r) → Got (λ R. R.expr m) (over (expr c.place) (leaf (untyped node.Comma) ∷ a ∷ xs), r)
comma_case c m v r a xs x h y = expr_down (next _ x (rw h (next _ y (done _))))

pub last_assign_case : (m r : List Lexeme) (a : Plain) → Got (λ R. R.assign m) (a, r) → first_is is_comma r ≡ false → Got (λ R. R.args m) (a ∷ [], r)
last_assign_case m r a x e = args_down (next _ x (rw e (done _)))

pub more_assigns_case : (c : Lexeme) (m v r : List Lexeme) (a : Plain) (xs : List Plain) → Got (λ R. R.assign m) (a, c ∷ v) → IsA t.Comma c → Got (λ R. R.args v) (xs, r) → Got (λ R. R.args m) (a ∷ xs, r)
more_assigns_case c m v r a xs x h y = args_down (next _ x (rw h (next _ y (done _))))

pub assigned_case : (o : Lexeme) (op : Option BinOp) (m v r : List Lexeme) (a b : Plain) → Got (λ R. R.cast m) (a, o ∷ v) → assignment_of o.terminal ≡ Some op → Got (λ R. R.assign v) (b, r)
    → Got (λ R. R.assign m) (over (expr o.place) (leaf (untyped (node.Assign op)) ∷ a ∷ b ∷ []), r)
assigned_case o op m v r a b x h y = assign_down (next _ x (rw h (next _ y (done _))))

-- tokens read as a conditional expression, and as an assignment without an operator
pub record Both (m : List Lexeme) (y : Plain × List Lexeme) : Type 0 where
  pub cond : Got (λ R. R.cond m) y
  pub assign : Got (λ R. R.assign m) y

pub bin_case : (m v r : List Lexeme) (a : Plain) (row : List (Operator × Plain)) (y : Plain × List Lexeme) → Got (λ R. R.cast m) (a, v) → first assignment_of v ≡ None → Got (λ R. R.row v) (row, r)
    → Got (λ R. choice_by R (first_is is_question r) (grouped a row) r) y → Both m y
bin_case m v r a row y x e z w = record { cond = cond_down (next _ x (next _ z w)); assign = assign_down (next _ x (rw e (next _ z w))) }

pub choice_none : (a : Plain) (r : List Lexeme) → first_is is_question r ≡ false → Got (λ R. choice_by R (first_is is_question r) a r) (a, r)
choice_none a r e = rw e (done _)

pub choice_case : (q c : Lexeme) (m v r : List Lexeme) (a b d : Plain) → IsA t.Question q → Got (λ R. R.assign m) (b, c ∷ v) → IsA t.Colon c → Got (λ R. R.cond v) (d, r)
    → Got (λ R. choice_by R (first_is is_question (q ∷ m)) a (q ∷ m)) (over (expr q.place) (leaf (untyped node.Cond) ∷ a ∷ b ∷ d ∷ []), r)
choice_case q c m v r a b d h x k y = rw h (next _ x (mark is_colon v _ k refl (next _ y (done _))))

pub row_ends_case : (r : List Lexeme) → first binary_of r ≡ None → Got (λ R. R.row r) ([], r)
row_ends_case r e = row_down (rw e (done _))

pub row_goes_case : (o : Lexeme) (op : BinOp) (m v r : List Lexeme) (a : Plain) (row : List (Operator × Plain)) → binary_of o.terminal ≡ Some op → Got (λ R. R.cast m) (a, v) → Got (λ R. R.row v) (row, r)
    → Got (λ R. R.row (o ∷ m)) ((record { op = op; place = o.place }, a) ∷ row, r)
row_goes_case o op m v r a row h x y = row_down (rw h (next _ x (next _ y (done _))))

pub only_unary_case : (m r : List Lexeme) (a : Plain) → opens_type m ≡ false → Got (λ R. R.unary m) (a, r) → Got (λ R. R.cast m) (a, r)
only_unary_case m r a e x = cast_down (rw e x)

pub cast_case : (o c : Lexeme) (m v r : List Lexeme) (ty a : Plain) → IsA t.OpenParen o → first_is begins_type m ≡ true → names_vector m ≡ false → Got (λ R. R.term m) (ty, c ∷ v) → IsA t.CloseParen c → Got (λ R. R.cast v) (a, r)
    → Got (λ R. R.cast (o ∷ m)) (over (expr o.place) (over cast (ty ∷ []) ∷ a ∷ []), r)
cast_case o c m v r ty a h0 h1 h2 x h3 y = cast_down (rw (opens o m h0 h1) (next _ x (mark is_close_paren v _ h3 refl (rw h2 (next _ y (done _))))))

pub vector_cast_case : (o c : Lexeme) (m v r : List Lexeme) (ty a : Plain) → IsA t.OpenParen o → first_is begins_type m ≡ true → names_vector m ≡ true → Got (λ R. R.term m) (ty, c ∷ v) → IsA t.CloseParen c → first_is is_open v ≡ false → Got (λ R. R.cast v) (a, r)
    → Got (λ R. R.cast (o ∷ m)) (over (expr o.place) (over cast (ty ∷ []) ∷ a ∷ []), r)
vector_cast_case o c m v r ty a h0 h1 h2 x h3 h4 y = cast_down (rw (opens o m h0 h1) (next _ x (mark is_close_paren v _ h3 refl (rw h2 (rw h4 (next _ y (done _)))))))

pub vector_literal_case : (o c p d : Lexeme) (m v r : List Lexeme) (ty : Plain) (xs : List Plain) → IsA t.OpenParen o → first_is begins_type m ≡ true → names_vector m ≡ true → Got (λ R. R.term m) (ty, c ∷ p ∷ v) → IsA t.CloseParen c → IsA t.OpenParen p → Got (λ R. R.args v) (xs, d ∷ r) → IsA t.CloseParen d
    → Got (λ R. R.cast (o ∷ m)) (over (expr o.place) (over vector (ty ∷ []) ∷ xs), r)
vector_literal_case o c p d m v r ty xs h0 h1 h2 x h3 h4 y h5 =
    cast_down (rw (opens o m h0 h1) (next _ x (mark is_close_paren (p ∷ v) _ h3 refl (rw h2 (rw h4 (next _ y (mark is_close_paren r _ h5 refl (done _))))))))

pub incremented_case : (o : Lexeme) (op : UnOp) (m r : List Lexeme) (a : Plain) → increment_before o.terminal ≡ Some op → Got (λ R. R.unary m) (a, r) → Got (λ R. R.unary (o ∷ m)) (over (expr o.place) (leaf (untyped (node.Unary op)) ∷ a ∷ []), r)
incremented_case o op m r a h x = unary_down (rw (increment_is op o.terminal h) (next _ x (done _)))

pub prefixed_case : (o : Lexeme) (op : UnOp) (m r : List Lexeme) (a : Plain) → prefix_of o.terminal ≡ Some op → Got (λ R. R.cast m) (a, r) → Got (λ R. R.unary (o ∷ m)) (over (expr o.place) (leaf (untyped (node.Unary op)) ∷ a ∷ []), r)
prefixed_case o op m r a h x = unary_down (rw (prefix_is op o.terminal h) (next _ x (done _)))

pub size_of_case : (s : Lexeme) (m r : List Lexeme) (a : Plain) → IsA t.Sizeof s → opens_type m ≡ false → Got (λ R. R.unary m) (a, r) → Got (λ R. R.unary (s ∷ m)) (over (expr s.place) (leaf (untyped (node.Unary un.Sizeof)) ∷ a ∷ []), r)
size_of_case s m r a h e x = unary_down (rw h (rw e (next _ x (done _))))

pub size_of_type_case : (s o c : Lexeme) (m r : List Lexeme) (ty : Plain) → IsA t.Sizeof s → IsA t.OpenParen o → first_is begins_type m ≡ true → Got (λ R. R.term m) (ty, c ∷ r) → IsA t.CloseParen c
    → Got (λ R. R.unary (s ∷ o ∷ m)) (over (expr s.place) (over size_of_type (ty ∷ []) ∷ []), r)
size_of_type_case s o c m r ty h0 h1 h2 x h3 = unary_down (rw h0 (rw (opens o m h1 h2) (next _ x (mark is_close_paren r _ h3 refl (done _)))))

pub postfix_case : (m v r : List Lexeme) (a e : Plain) → first_is begins_primary m ≡ true → Got (λ R. R.primary m) (a, v) → Got (λ R. R.suffixes a v) (e, r) → Got (λ R. R.unary m) (e, r)
postfix_case [] v r a e h x y = cc
postfix_case (l ∷ ls) v r a e h x y = unary_down (rw (primary_starts l.terminal h) (next _ x y))

pub no_suffix_case : (a : Plain) (r : List Lexeme) → first_suffix r ≡ no_suffix → Got (λ R. R.suffixes a r) (a, r)
no_suffix_case a r e = suffixes_down (rw e (done _))

pub indexed_case : (o c : Lexeme) (m v r : List Lexeme) (a i e : Plain) → IsA t.OpenBracket o → Got (λ R. R.expr m) (i, c ∷ v) → IsA t.CloseBracket c → Got (λ R. R.suffixes (over (expr o.place) (leaf (untyped node.Index) ∷ a ∷ i ∷ [])) v) (e, r)
    → Got (λ R. R.suffixes a (o ∷ m)) (e, r)
indexed_case o c m v r a i e h x k y = suffixes_down (rw h (next _ x (mark is_close_bracket v _ k refl y)))

pub member_case : (d n : Lexeme) (arrow : Bool) (v r : List Lexeme) (a e : Plain) → arrow_of d.terminal ≡ Some arrow → IsA t.Name n → Got (λ R. R.suffixes (over (expr d.place) (leaf (untyped (node.Member n.text arrow)) ∷ a ∷ [])) v) (e, r)
    → Got (λ R. R.suffixes a (d ∷ n ∷ v)) (e, r)
member_case d n arrow v r a e h k x = suffixes_down (rw (arrow_is arrow d.terminal h) (mark is_name v _ k refl x))

pub increments_case : (o : Lexeme) (op : UnOp) (v r : List Lexeme) (a e : Plain) → increment_behind o.terminal ≡ Some op → Got (λ R. R.suffixes (over (expr o.place) (leaf (untyped (node.Unary op)) ∷ a ∷ [])) v) (e, r)
    → Got (λ R. R.suffixes a (o ∷ v)) (e, r)
increments_case o op v r a e h x = suffixes_down (rw (step_is op o.terminal h) x)

pub name_case : (n : Lexeme) (r : List Lexeme) → IsA t.Name n → first_is is_open r ≡ false → Got (λ R. R.primary (n ∷ r)) (over (expr n.place) (leaf (untyped (node.Name n.text)) ∷ []), r)
name_case n r h e = primary_down (rw h (rw e (done _)))

pub call_of_none_case : (n o c : Lexeme) (r : List Lexeme) → IsA t.Name n → IsA t.OpenParen o → IsA t.CloseParen c → Got (λ R. R.primary (n ∷ o ∷ c ∷ r)) (over (expr n.place) (leaf (untyped (node.Call n.text)) ∷ []), r)
call_of_none_case n o c r h0 h1 h2 = primary_down (rw h0 (rw h1 (rw h2 (done _))))

pub call_case : (n o c : Lexeme) (m r : List Lexeme) (xs : List Plain) → IsA t.Name n → IsA t.OpenParen o → first_is is_close_paren m ≡ false → Got (λ R. R.args m) (xs, c ∷ r) → IsA t.CloseParen c
    → Got (λ R. R.primary (n ∷ o ∷ m)) (over (expr n.place) (leaf (untyped (node.Call n.text)) ∷ xs), r)
call_case n o c m r xs h0 h1 e x h2 = primary_down (rw h0 (rw h1 (rw e (next _ x (mark is_close_paren r _ h2 refl (done _))))))

pub number_case : (n : Lexeme) (value ty : ℕ) (r : List Lexeme) → IsA (t.Number value ty) n → Got (λ R. R.primary (n ∷ r)) (over (expr n.place) (leaf (untyped (node.Number value ty)) ∷ []), r)
number_case n value ty r h = primary_down (rw h (done _))

pub brackets_case : (o c : Lexeme) (m r : List Lexeme) (e : Plain) → IsA t.OpenParen o → Got (λ R. R.expr m) (e, c ∷ r) → IsA t.CloseParen c → Got (λ R. R.primary (o ∷ m)) (e, r)
brackets_case o c m r e h x k = primary_down (rw h (next _ x (mark is_close_paren r _ k refl (done _))))
