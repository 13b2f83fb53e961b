-- The steps of the parser's functions.
use Rattle.std.proofs.Common.{◌≡◌, ℕ, ◌+◌, ◌≤◌, ◌<◌, List, [], ◌∷◌, ◌++◌, length, drop, Bool, true, false, refl, sym, ap, ◌∙◌, subst, arith, ◌⊎◌, inl, inr}
use Rattle.std.specs.Prelude.{not, Option, Some, None}
use Rattle.cl_types.specs.declared.operator.BinOp.{BinOp}
use Rattle.cl_types.specs.declared.operator.UnOp.{UnOp}
use Rattle.cl_types.specs.declared.operator.UnOp.TheVariants as un
use Rattle.cl_grammar.specs.declared.lexeme.Lexeme.{Lexeme}
use Rattle.cl_grammar.specs.declared.terminal.Terminal.{Terminal}
use Rattle.cl_grammar.specs.declared.terminal.Terminal.TheVariants as t
use Rattle.cl_grammar.specs.declared.stop.ExprStop.{ExprStop}
use Rattle.cl_grammar.specs.declared.stop.ExprStop.TheVariants.{Out, NoMemory}
use Rattle.std.proofs.lemmas.List.{append-nil}
use Rattle.cl_grammar.specs.Expressions.{IsCast, is_open, begins_open}
use Rattle.cl_grammar.specs.Parts.{IsClosedCast}
use Rattle.cl_grammar.proofs.ExpressionStarts.{cast_begins}
use Rattle.cl_grammar.proofs.Steps.{begun_of}
use Rattle.cl_grammar.specs.Terminals.{prefix_of, increment_before, binary_of, assignment_of}
use Rattle.cl_grammar.specs.Symbols as s
use Rattle.cl_grammar.specs.Symbols.{Sym, ExprSym, Mark, E, is_some}
use Rattle.cl_grammar.specs.Items.{between, EndsIn, IsAt, OtherAt, GoesOn, ReadAt, NoneAt, OutAt, IsRefused, RefusedAt, IsBarred, BarredAt, Fits, Begun}
use Rattle.cl_grammar.proofs.TerminalKinds.{kind, has, not as negated}
use Rattle.cl_grammar.proofs.Predicted.{picks, keeps_ok, keeps_part}
use Rattle.cl_grammar.proofs.Places.{between_same, starts_with, expand, then, then_mark, then_of, done, goes, stops_in, barred_in, none_in, none_more, by_class, by_other_class, by_other_kinds}
use Rattle.cl_parse_expr.specs.Reading.{BeginsTyped, BeginsUntyped, CallAt, NoSuffixAt, is_suffix_mark}
use Rattle.cl_parse_expr.proofs.Choices.{first_same, later_or, between_first, NotTyped, single, expand_single, itself, dropped, stops_in_mark, typed, no_casted, no_bracketed, not_led, not_typed_next, not_typed_stop, either_read, either_refused, assign_cond, assign_unary, cast_unary, cast_casted, casted_plain, casted_vector, sized_unary, sized_type, any_type_read, cond_opens, unary_opens, casted_opens, unary_assign_opens, bracketed_opens, other_comma, other_question, other_paren, other_close, any_type_plain}

is_none_of : {A : Type 0} (o : Option A) → o ≡ None → is_some o ≡ false
is_none_of o h = ap is_some h

-- ---- operands

pub operands_first : (ts : List Lexeme) (at : ℕ) → at < length ts → GoesOn (E s.Assigns) (E s.Assign ∷ E s.MoreAssigns ∷ []) ts at at
operands_first ts at h = single s.Assigns ts at h (λ k. refl)

pub operands_read : (ts : List Lexeme) (at a : ℕ) → at < length ts → ReadAt (E s.Assign) ts at a → GoesOn (E s.Assigns) (E s.MoreAssigns ∷ []) ts at a
operands_read ts at a h r = then (E s.Assigns) s.Assign (E s.MoreAssigns ∷ []) ts at at a (operands_first ts at h) r refl

pub operands_refused : (ts : List Lexeme) (at : ℕ) (stop : ExprStop) → at < length ts → RefusedAt (E s.Assign) ts at stop → RefusedAt (E s.Assigns) ts at stop
operands_refused ts at stop h r = stops_in (E s.Assigns) s.Assign (E s.MoreAssigns ∷ []) ts at at stop (operands_first ts at h) r refl refl

operands_next : (ts : List Lexeme) (at h : ℕ) → EndsIn ts → GoesOn (E s.Assigns) (E s.MoreAssigns ∷ []) ts at h → IsAt ts h t.Comma → GoesOn (E s.Assigns) (E s.Assign ∷ E s.MoreAssigns ∷ []) ts at (h + 1)
operands_next ts at h ends i c =
    let a = expand (E s.Assigns) s.MoreAssigns [] 1 ts at h t.Comma i c refl refl in
    let b = then_mark (E s.Assigns) t.Comma (E s.Assigns ∷ []) ts at h ends a c refl in
    expand_single (E s.Assigns) s.Assigns [] ts at (h + 1) b (λ k. refl) refl

pub operands_more : (ts : List Lexeme) (at h n : ℕ) → EndsIn ts → GoesOn (E s.Assigns) (E s.MoreAssigns ∷ []) ts at h → IsAt ts h t.Comma → ReadAt (E s.Assign) ts (h + 1) n → GoesOn (E s.Assigns) (E s.MoreAssigns ∷ []) ts at n
operands_more ts at h n ends i c r = then (E s.Assigns) s.Assign (E s.MoreAssigns ∷ []) ts at (h + 1) n (operands_next ts at h ends i c) r refl

pub operands_refused_more : (ts : List Lexeme) (at h : ℕ) (stop : ExprStop) → EndsIn ts → GoesOn (E s.Assigns) (E s.MoreAssigns ∷ []) ts at h → IsAt ts h t.Comma → RefusedAt (E s.Assign) ts (h + 1) stop → RefusedAt (E s.Assigns) ts at stop
operands_refused_more ts at h stop ends i c r = stops_in (E s.Assigns) s.Assign (E s.MoreAssigns ∷ []) ts at (h + 1) stop (operands_next ts at h ends i c) r refl refl

pub operands_done : (ts : List Lexeme) (at h : ℕ) → GoesOn (E s.Assigns) (E s.MoreAssigns ∷ []) ts at h → OtherAt ts h t.Comma → ReadAt (E s.Assigns) ts at h
operands_done ts at h i o = done (E s.Assigns) ts at h (dropped (E s.Assigns) s.MoreAssigns [] 0 t.Comma (43 ∷ []) ts at h i o other_comma refl refl)

-- ---- a condition

pub cond_first : (ts : List Lexeme) (at : ℕ) → at < length ts → GoesOn (E s.Cond) (E s.Cast ∷ E s.BehindCast ∷ []) ts at at
cond_first ts at h = single s.Cond ts at h (λ k. refl)

cond_next : (ts : List Lexeme) (at a : ℕ) → at < length ts → ReadAt (E s.Cast) ts at a → GoesOn (E s.Cond) (E s.BehindCast ∷ []) ts at a
cond_next ts at a h r = then (E s.Cond) s.Cast (E s.BehindCast ∷ []) ts at at a (cond_first ts at h) r refl

pub cond_read : (ts : List Lexeme) (at a b : ℕ) → at < length ts → ReadAt (E s.Cast) ts at a → ReadAt (E s.BehindCast) ts a b → ReadAt (E s.Cond) ts at b
cond_read ts at a b h r q = done (E s.Cond) ts at b (then (E s.Cond) s.BehindCast [] ts at a b (cond_next ts at a h r) q refl)

pub cond_refused : (ts : List Lexeme) (at : ℕ) (stop : ExprStop) → at < length ts → RefusedAt (E s.Cast) ts at stop → RefusedAt (E s.Cond) ts at stop
cond_refused ts at stop h r = stops_in (E s.Cond) s.Cast (E s.BehindCast ∷ []) ts at at stop (cond_first ts at h) r refl refl

pub cond_refused_behind : (ts : List Lexeme) (at a : ℕ) (stop : ExprStop) → at < length ts → ReadAt (E s.Cast) ts at a → RefusedAt (E s.BehindCast) ts a stop → RefusedAt (E s.Cond) ts at stop
cond_refused_behind ts at a stop h r q = stops_in (E s.Cond) s.BehindCast [] ts at a stop (cond_next ts at a h r) q refl refl

-- ---- an assignment

no_unary_assign : (ts : List Lexeme) (at : ℕ) → at < length ts → BeginsTyped ts at → NotTyped s.UnaryAssign ts at
no_unary_assign ts at h b = not_led s.UnaryAssign s.Unary (E s.BehindUnary ∷ []) ts at (single s.UnaryAssign ts at h (λ k. refl)) (typed ts at b) refl

no_casted_assign : (ts : List Lexeme) (at : ℕ) → at < length ts → BeginsUntyped ts at → NotTyped s.CastedAssign ts at
no_casted_assign ts at h b = not_led s.CastedAssign s.Casted (E s.BehindCast ∷ []) ts at (single s.CastedAssign ts at h (λ k. refl)) (no_casted ts at b) refl

pub assign_of_cond : (ts : List Lexeme) (at b : ℕ) → at < length ts → BeginsTyped ts at → at < b → ReadAt (E s.Cond) ts at b → ReadAt (E s.Assign) ts at b
assign_of_cond ts at b h t1 f c = either_read s.Assign s.Cond s.UnaryAssign ts at b assign_cond c (not_typed_next s.UnaryAssign ts at b (no_unary_assign ts at h t1) f c.read.within)

pub assign_refused_by_cond : (ts : List Lexeme) (at : ℕ) (stop : ExprStop) → at < length ts → BeginsTyped ts at → RefusedAt (E s.Cond) ts at stop → RefusedAt (E s.Assign) ts at stop
assign_refused_by_cond ts at stop h b r = either_refused s.Assign s.Cond s.UnaryAssign ts at stop assign_cond r (not_typed_stop s.UnaryAssign s.Cond ts at stop cond_opens (no_unary_assign ts at h b) r)

unary_assign_first : (ts : List Lexeme) (at : ℕ) → at < length ts → GoesOn (E s.UnaryAssign) (E s.Unary ∷ E s.BehindUnary ∷ []) ts at at
unary_assign_first ts at h = single s.UnaryAssign ts at h (λ k. refl)

unary_assign_next : (ts : List Lexeme) (at a : ℕ) → at < length ts → ReadAt (E s.Unary) ts at a → GoesOn (E s.UnaryAssign) (E s.BehindUnary ∷ []) ts at a
unary_assign_next ts at a h r = then (E s.UnaryAssign) s.Unary (E s.BehindUnary ∷ []) ts at at a (unary_assign_first ts at h) r refl

assign_refused_by_unary : (ts : List Lexeme) (at : ℕ) (stop : ExprStop) → at < length ts → BeginsUntyped ts at → RefusedAt (E s.UnaryAssign) ts at stop → RefusedAt (E s.Assign) ts at stop
assign_refused_by_unary ts at stop h b r = either_refused s.Assign s.UnaryAssign s.CastedAssign ts at stop assign_unary r (not_typed_stop s.CastedAssign s.UnaryAssign ts at stop unary_assign_opens (no_casted_assign ts at h b) r)

assign_by_unary : (ts : List Lexeme) (at a b : ℕ) → at < length ts → BeginsUntyped ts at → at < a → a ≤ b → ReadAt (E s.UnaryAssign) ts at b → ReadAt (E s.Assign) ts at b
assign_by_unary ts at a b h u f g r = either_read s.Assign s.UnaryAssign s.CastedAssign ts at b assign_unary r (not_typed_next s.CastedAssign ts at b (no_casted_assign ts at h u) (omega arith) r.read.within)

pub assign_refused_unary : (ts : List Lexeme) (at : ℕ) (stop : ExprStop) → at < length ts → BeginsUntyped ts at → RefusedAt (E s.Unary) ts at stop → RefusedAt (E s.Assign) ts at stop
assign_refused_unary ts at stop h b r = assign_refused_by_unary ts at stop h b (stops_in (E s.UnaryAssign) s.Unary (E s.BehindUnary ∷ []) ts at at stop (unary_assign_first ts at h) r refl refl)

not_assigned : (ts : List Lexeme) (at a : ℕ) (k : Terminal) → at < length ts → ReadAt (E s.Unary) ts at a → IsAt ts a k → assignment_of k ≡ None → GoesOn (E s.UnaryAssign) (E s.BehindCast ∷ []) ts at a
not_assigned ts at a k h r c e = expand (E s.UnaryAssign) s.BehindUnary [] 1 ts at a k (unary_assign_next ts at a h r) c (by_other_class s.Assignment (picks s.BehindUnary 1) k refl (is_none_of (assignment_of k) e)) refl

pub assign_not : (ts : List Lexeme) (at a b : ℕ) (k : Terminal) → at < length ts → BeginsUntyped ts at → at < a → ReadAt (E s.Unary) ts at a → IsAt ts a k → assignment_of k ≡ None → ReadAt (E s.BehindCast) ts a b → ReadAt (E s.Assign) ts at b
assign_not ts at a b k h u f r c e q = assign_by_unary ts at a b h u f q.read.forth (done (E s.UnaryAssign) ts at b (then (E s.UnaryAssign) s.BehindCast [] ts at a b (not_assigned ts at a k h r c e) q refl))

pub assign_not_refused : (ts : List Lexeme) (at a : ℕ) (k : Terminal) (stop : ExprStop) → at < length ts → BeginsUntyped ts at → ReadAt (E s.Unary) ts at a → IsAt ts a k → assignment_of k ≡ None → RefusedAt (E s.BehindCast) ts a stop → RefusedAt (E s.Assign) ts at stop
assign_not_refused ts at a k stop h u r c e q = assign_refused_by_unary ts at stop h u (stops_in (E s.UnaryAssign) s.BehindCast [] ts at a stop (not_assigned ts at a k h r c e) q refl refl)

pub assigned : (ts : List Lexeme) (at a : ℕ) (k : Terminal) (op : Option BinOp) → EndsIn ts → at < length ts → ReadAt (E s.Unary) ts at a → IsAt ts a k → assignment_of k ≡ Some op → GoesOn (E s.UnaryAssign) (E s.Assign ∷ []) ts at (a + 1)
assigned ts at a k op ends h r c e =
    let i = expand (E s.UnaryAssign) s.BehindUnary [] 0 ts at a k (unary_assign_next ts at a h r) c (by_class s.Assignment (picks s.BehindUnary 0) k refl (ap is_some e)) refl in
    then_of (E s.UnaryAssign) s.Assignment (E s.Assign ∷ []) ts at a k ends i c (ap is_some e) refl

pub assign_assigned : (ts : List Lexeme) (at a b : ℕ) (k : Terminal) (op : Option BinOp) → EndsIn ts → at < length ts → BeginsUntyped ts at → at < a → a + 1 ≤ b → ReadAt (E s.Unary) ts at a → IsAt ts a k → assignment_of k ≡ Some op → ReadAt (E s.Assign) ts (a + 1) b → ReadAt (E s.Assign) ts at b
assign_assigned ts at a b k op ends h u f g r c e q = assign_by_unary ts at a b h u f (omega arith) (done (E s.UnaryAssign) ts at b (then (E s.UnaryAssign) s.Assign [] ts at (a + 1) b (assigned ts at a k op ends h r c e) q refl))

pub assign_assigned_refused : (ts : List Lexeme) (at a : ℕ) (k : Terminal) (op : Option BinOp) (stop : ExprStop) → EndsIn ts → at < length ts → BeginsUntyped ts at → ReadAt (E s.Unary) ts at a → IsAt ts a k → assignment_of k ≡ Some op → RefusedAt (E s.Assign) ts (a + 1) stop → RefusedAt (E s.Assign) ts at stop
assign_assigned_refused ts at a k op stop ends h u r c e q = assign_refused_by_unary ts at stop h u (stops_in (E s.UnaryAssign) s.Assign [] ts at (a + 1) stop (assigned ts at a k op ends h r c e) q refl refl)

-- ---- behind a first operand

behind_first : (ts : List Lexeme) (at : ℕ) → at < length ts → GoesOn (E s.BehindCast) (E s.Row ∷ E s.Choice ∷ []) ts at at
behind_first ts at h = single s.BehindCast ts at h (λ k. refl)

behind_row : (ts : List Lexeme) (at a : ℕ) → at < length ts → ReadAt (E s.Row) ts at a → GoesOn (E s.BehindCast) (E s.Choice ∷ []) ts at a
behind_row ts at a h r = then (E s.BehindCast) s.Row (E s.Choice ∷ []) ts at at a (behind_first ts at h) r refl

pub behind_refused_row : (ts : List Lexeme) (at : ℕ) (stop : ExprStop) → at < length ts → RefusedAt (E s.Row) ts at stop → RefusedAt (E s.BehindCast) ts at stop
behind_refused_row ts at stop h r = stops_in (E s.BehindCast) s.Row (E s.Choice ∷ []) ts at at stop (behind_first ts at h) r refl refl

pub behind_no_choice : (ts : List Lexeme) (at a : ℕ) → at < length ts → ReadAt (E s.Row) ts at a → OtherAt ts a t.Question → ReadAt (E s.BehindCast) ts at a
behind_no_choice ts at a h r o = done (E s.BehindCast) ts at a (dropped (E s.BehindCast) s.Choice [] 0 t.Question (46 ∷ []) ts at a (behind_row ts at a h r) o other_question refl refl)

behind_asked : (ts : List Lexeme) (at a : ℕ) → EndsIn ts → at < length ts → ReadAt (E s.Row) ts at a → IsAt ts a t.Question → GoesOn (E s.BehindCast) (E s.Assign ∷ Mark t.Colon ∷ E s.Cond ∷ []) ts at (a + 1)
behind_asked ts at a ends h r q =
    let i = expand (E s.BehindCast) s.Choice [] 1 ts at a t.Question (behind_row ts at a h r) q refl refl in
    then_mark (E s.BehindCast) t.Question (E s.Assign ∷ Mark t.Colon ∷ E s.Cond ∷ []) ts at a ends i q refl

pub behind_refused_yes : (ts : List Lexeme) (at a : ℕ) (stop : ExprStop) → EndsIn ts → at < length ts → ReadAt (E s.Row) ts at a → IsAt ts a t.Question → RefusedAt (E s.Assign) ts (a + 1) stop → RefusedAt (E s.BehindCast) ts at stop
behind_refused_yes ts at a stop ends h r q e = stops_in (E s.BehindCast) s.Assign (Mark t.Colon ∷ E s.Cond ∷ []) ts at (a + 1) stop (behind_asked ts at a ends h r q) e refl refl

behind_yes : (ts : List Lexeme) (at a b : ℕ) → EndsIn ts → at < length ts → ReadAt (E s.Row) ts at a → IsAt ts a t.Question → ReadAt (E s.Assign) ts (a + 1) b → GoesOn (E s.BehindCast) (Mark t.Colon ∷ E s.Cond ∷ []) ts at b
behind_yes ts at a b ends h r q e = then (E s.BehindCast) s.Assign (Mark t.Colon ∷ E s.Cond ∷ []) ts at (a + 1) b (behind_asked ts at a ends h r q) e refl

pub behind_refused_colon : (ts : List Lexeme) (at a b : ℕ) (stop : ExprStop) → EndsIn ts → at < length ts → ReadAt (E s.Row) ts at a → IsAt ts a t.Question → ReadAt (E s.Assign) ts (a + 1) b → RefusedAt (Mark t.Colon) ts b stop → RefusedAt (E s.BehindCast) ts at stop
behind_refused_colon ts at a b stop ends h r q e m = stops_in_mark (E s.BehindCast) t.Colon (E s.Cond ∷ []) ts at b stop (behind_yes ts at a b ends h r q e) m refl

behind_no : (ts : List Lexeme) (at a b : ℕ) → EndsIn ts → at < length ts → ReadAt (E s.Row) ts at a → IsAt ts a t.Question → ReadAt (E s.Assign) ts (a + 1) b → IsAt ts b t.Colon → GoesOn (E s.BehindCast) (E s.Cond ∷ []) ts at (b + 1)
behind_no ts at a b ends h r q e c = then_mark (E s.BehindCast) t.Colon (E s.Cond ∷ []) ts at b ends (behind_yes ts at a b ends h r q e) c refl

pub behind_refused_no : (ts : List Lexeme) (at a b : ℕ) (stop : ExprStop) → EndsIn ts → at < length ts → ReadAt (E s.Row) ts at a → IsAt ts a t.Question → ReadAt (E s.Assign) ts (a + 1) b → IsAt ts b t.Colon → RefusedAt (E s.Cond) ts (b + 1) stop → RefusedAt (E s.BehindCast) ts at stop
behind_refused_no ts at a b stop ends h r q e c m = stops_in (E s.BehindCast) s.Cond [] ts at (b + 1) stop (behind_no ts at a b ends h r q e c) m refl refl

pub behind_choice : (ts : List Lexeme) (at a b n : ℕ) → EndsIn ts → at < length ts → ReadAt (E s.Row) ts at a → IsAt ts a t.Question → ReadAt (E s.Assign) ts (a + 1) b → IsAt ts b t.Colon → ReadAt (E s.Cond) ts (b + 1) n → ReadAt (E s.BehindCast) ts at n
behind_choice ts at a b n ends h r q e c m = done (E s.BehindCast) ts at n (then (E s.BehindCast) s.Cond [] ts at (b + 1) n (behind_no ts at a b ends h r q e c) m refl)

-- ---- a row

pub row_first : (ts : List Lexeme) (at : ℕ) → at < length ts → GoesOn (E s.Row) (E s.Row ∷ []) ts at at
row_first ts at h = itself s.Row ts at h

pub row_next : (ts : List Lexeme) (at a : ℕ) (k : Terminal) (op : BinOp) → EndsIn ts → GoesOn (E s.Row) (E s.Row ∷ []) ts at a → IsAt ts a k → binary_of k ≡ Some op → GoesOn (E s.Row) (E s.Cast ∷ E s.Row ∷ []) ts at (a + 1)
row_next ts at a k op ends i c e =
    let j = expand (E s.Row) s.Row [] 1 ts at a k i c (by_class s.Binary (picks s.Row 1) k refl (ap is_some e)) refl in
    let m = then_of (E s.Row) s.Binary (E s.Bin ∷ []) ts at a k ends j c (ap is_some e) refl in
    expand_single (E s.Row) s.Bin [] ts at (a + 1) m (λ k. refl) refl

pub row_more : (ts : List Lexeme) (at a b : ℕ) (k : Terminal) (op : BinOp) → EndsIn ts → GoesOn (E s.Row) (E s.Row ∷ []) ts at a → IsAt ts a k → binary_of k ≡ Some op → ReadAt (E s.Cast) ts (a + 1) b → GoesOn (E s.Row) (E s.Row ∷ []) ts at b
row_more ts at a b k op ends i c e r = then (E s.Row) s.Cast (E s.Row ∷ []) ts at (a + 1) b (row_next ts at a k op ends i c e) r refl

pub row_refused : (ts : List Lexeme) (at a : ℕ) (k : Terminal) (op : BinOp) (stop : ExprStop) → EndsIn ts → GoesOn (E s.Row) (E s.Row ∷ []) ts at a → IsAt ts a k → binary_of k ≡ Some op → RefusedAt (E s.Cast) ts (a + 1) stop → RefusedAt (E s.Row) ts at stop
row_refused ts at a k op stop ends i c e r = stops_in (E s.Row) s.Cast (E s.Row ∷ []) ts at (a + 1) stop (row_next ts at a k op ends i c e) r refl refl

pub row_done : (ts : List Lexeme) (at a : ℕ) (k : Terminal) → GoesOn (E s.Row) (E s.Row ∷ []) ts at a → IsAt ts a k → binary_of k ≡ None → ReadAt (E s.Row) ts at a
row_done ts at a k i c e = done (E s.Row) ts at a (expand (E s.Row) s.Row [] 0 ts at a k i c (by_other_class s.Binary (picks s.Row 0) k refl (is_none_of (binary_of k) e)) refl)

-- ---- a cast

pub cast_of_unary : (ts : List Lexeme) (at a : ℕ) → BeginsUntyped ts at → at < a → ReadAt (E s.Unary) ts at a → ReadAt (E s.Cast) ts at a
cast_of_unary ts at a u f r = either_read s.Cast s.Unary s.Casted ts at a cast_unary r (not_typed_next s.Casted ts at a (no_casted ts at u) f r.read.within)

pub cast_refused_unary : (ts : List Lexeme) (at : ℕ) (stop : ExprStop) → BeginsUntyped ts at → RefusedAt (E s.Unary) ts at stop → RefusedAt (E s.Cast) ts at stop
cast_refused_unary ts at stop u r = either_refused s.Cast s.Unary s.Casted ts at stop cast_unary r (not_typed_stop s.Casted s.Unary ts at stop unary_opens (no_casted ts at u) r)

cast_of_casted : (ts : List Lexeme) (at a : ℕ) → BeginsTyped ts at → at < a → ReadAt (E s.Casted) ts at a → ReadAt (E s.Cast) ts at a
cast_of_casted ts at a b f r = either_read s.Cast s.Casted s.Unary ts at a cast_casted r (not_typed_next s.Unary ts at a (typed ts at b) f r.read.within)

cast_refused : (ts : List Lexeme) (at : ℕ) (stop : ExprStop) → BeginsTyped ts at → RefusedAt (E s.Casted) ts at stop → RefusedAt (E s.Cast) ts at stop
cast_refused ts at stop b r = either_refused s.Cast s.Casted s.Unary ts at stop cast_casted r (not_typed_stop s.Unary s.Casted ts at stop casted_opens (typed ts at b) r)

plain_first : (ts : List Lexeme) (at : ℕ) → EndsIn ts → BeginsTyped ts at → GoesOn (E s.PlainCast) (E (s.TypeTerm false) ∷ Mark t.CloseParen ∷ E s.Cast ∷ []) ts at (at + 1)
plain_first ts at ends b = then_mark (E s.PlainCast) t.OpenParen (E (s.TypeTerm false) ∷ Mark t.CloseParen ∷ E s.Cast ∷ []) ts at at ends (starts_with s.PlainCast 0 ts at t.OpenParen b.opens refl) b.opens refl

vector_first : (ts : List Lexeme) (at : ℕ) → EndsIn ts → BeginsTyped ts at → GoesOn (E s.VectorCast) (E (s.TypeTerm true) ∷ Mark t.CloseParen ∷ E s.BehindVector ∷ []) ts at (at + 1)
vector_first ts at ends b = then_mark (E s.VectorCast) t.OpenParen (E (s.TypeTerm true) ∷ Mark t.CloseParen ∷ E s.BehindVector ∷ []) ts at at ends (starts_with s.VectorCast 0 ts at t.OpenParen b.opens refl) b.opens refl

-- the type was refused
pub cast_refused_type : (ts : List Lexeme) (at : ℕ) (stop : ExprStop) → EndsIn ts → BeginsTyped ts at → RefusedAt (E (s.TypeTerm false)) ts (at + 1) stop → BarredAt (E (s.TypeTerm true)) ts (at + 1) stop → RefusedAt (E s.Cast) ts at stop
cast_refused_type ts at stop ends b r n = cast_refused ts at stop b (either_refused s.Casted s.PlainCast s.VectorCast ts at stop casted_plain
    (stops_in (E s.PlainCast) (s.TypeTerm false) (Mark t.CloseParen ∷ E s.Cast ∷ []) ts at (at + 1) stop (plain_first ts at ends b) r refl refl)
    (barred_in (E s.VectorCast) (s.TypeTerm true) (Mark t.CloseParen ∷ E s.BehindVector ∷ []) ts at (at + 1) stop (vector_first ts at ends b) n refl))

-- the type was read
plain_type : (ts : List Lexeme) (at a : ℕ) → EndsIn ts → BeginsTyped ts at → ReadAt (E (s.TypeTerm false)) ts (at + 1) a → GoesOn (E s.PlainCast) (Mark t.CloseParen ∷ E s.Cast ∷ []) ts at a
plain_type ts at a ends b r = then (E s.PlainCast) (s.TypeTerm false) (Mark t.CloseParen ∷ E s.Cast ∷ []) ts at (at + 1) a (plain_first ts at ends b) r refl

no_plain : (ts : List Lexeme) (at a : ℕ) → EndsIn ts → BeginsTyped ts at → NoneAt (E (s.TypeTerm false)) ts (at + 1) a → NoneAt (E s.PlainCast) ts at a
no_plain ts at a ends b n = none_in (E s.PlainCast) (s.TypeTerm false) (Mark t.CloseParen ∷ E s.Cast ∷ []) ts at (at + 1) a (plain_first ts at ends b) n refl

vector_type : (ts : List Lexeme) (at a : ℕ) → EndsIn ts → BeginsTyped ts at → ReadAt (E (s.TypeTerm true)) ts (at + 1) a → GoesOn (E s.VectorCast) (Mark t.CloseParen ∷ E s.BehindVector ∷ []) ts at a
vector_type ts at a ends b r = then (E s.VectorCast) (s.TypeTerm true) (Mark t.CloseParen ∷ E s.BehindVector ∷ []) ts at (at + 1) a (vector_first ts at ends b) r refl

no_vector : (ts : List Lexeme) (at a : ℕ) → EndsIn ts → BeginsTyped ts at → NoneAt (E (s.TypeTerm true)) ts (at + 1) a → NoneAt (E s.VectorCast) ts at a
no_vector ts at a ends b n = none_in (E s.VectorCast) (s.TypeTerm true) (Mark t.CloseParen ∷ E s.BehindVector ∷ []) ts at (at + 1) a (vector_first ts at ends b) n refl

none_then : (z : ExprSym) (q : Sym) (ts : List Lexeme) (at a b : ℕ) (stop : ExprStop) → NoneAt (E z) ts at a → a ≤ b → IsRefused q ts b stop → IsBarred (E z) ts at stop
none_then z q ts at a b (Out k) n g h = let f = h.none.forth in none_more (E z) ts at a k n (omega arith) h.none.within
none_then z q ts at a b NoMemory n g h = tt

none_before_later : (z : ExprSym) (q : Sym) (ts : List Lexeme) (at a b : ℕ) (stop : ExprStop) → NoneAt (E z) ts at a → a ≤ b → RefusedAt q ts b stop → BarredAt (E z) ts at stop
none_before_later z q ts at a b stop n g h = record { barred = none_then z q ts at a b stop n g h.refused }

none_before : (z : ExprSym) (q : Sym) (ts : List Lexeme) (at a : ℕ) (stop : ExprStop) → NoneAt (E z) ts at a → RefusedAt q ts a stop → BarredAt (E z) ts at stop
none_before z q ts at a stop n h = none_before_later z q ts at a a stop n (omega arith) h

-- a plain type was read, and then no `)`
pub cast_refused_close : (vector : Bool) (ts : List Lexeme) (at a : ℕ) (stop : ExprStop) → EndsIn ts → BeginsTyped ts at → ReadAt (E (s.TypeTerm vector)) ts (at + 1) a → NoneAt (E (s.TypeTerm (not vector))) ts (at + 1) a → RefusedAt (Mark t.CloseParen) ts a stop → RefusedAt (E s.Cast) ts at stop
cast_refused_close false ts at a stop ends b r n m = cast_refused ts at stop b (either_refused s.Casted s.PlainCast s.VectorCast ts at stop casted_plain
    (stops_in_mark (E s.PlainCast) t.CloseParen (E s.Cast ∷ []) ts at a stop (plain_type ts at a ends b r) m refl)
    (none_before s.VectorCast (Mark t.CloseParen) ts at a stop (no_vector ts at a ends b n) m))
cast_refused_close true ts at a stop ends b r n m = cast_refused ts at stop b (either_refused s.Casted s.VectorCast s.PlainCast ts at stop casted_vector
    (stops_in_mark (E s.VectorCast) t.CloseParen (E s.BehindVector ∷ []) ts at a stop (vector_type ts at a ends b r) m refl)
    (none_before s.PlainCast (Mark t.CloseParen) ts at a stop (no_plain ts at a ends b n) m))

behind_plain : (ts : List Lexeme) (at a : ℕ) → EndsIn ts → BeginsTyped ts at → ReadAt (E (s.TypeTerm false)) ts (at + 1) a → IsAt ts a t.CloseParen → GoesOn (E s.PlainCast) (E s.Cast ∷ []) ts at (a + 1)
behind_plain ts at a ends b r c = then_mark (E s.PlainCast) t.CloseParen (E s.Cast ∷ []) ts at a ends (plain_type ts at a ends b r) c refl

behind_vector : (ts : List Lexeme) (at a : ℕ) → EndsIn ts → BeginsTyped ts at → ReadAt (E (s.TypeTerm true)) ts (at + 1) a → IsAt ts a t.CloseParen → GoesOn (E s.VectorCast) (E s.BehindVector ∷ []) ts at (a + 1)
behind_vector ts at a ends b r c = then_mark (E s.VectorCast) t.CloseParen (E s.BehindVector ∷ []) ts at a ends (vector_type ts at a ends b r) c refl

literal_operands : (ts : List Lexeme) (at a : ℕ) → EndsIn ts → BeginsTyped ts at → ReadAt (E (s.TypeTerm true)) ts (at + 1) a → IsAt ts a t.CloseParen → IsAt ts (a + 1) t.OpenParen → GoesOn (E s.VectorCast) (E s.Assigns ∷ Mark t.CloseParen ∷ []) ts at ((a + 1) + 1)
literal_operands ts at a ends b r c o =
    let i = expand (E s.VectorCast) s.BehindVector [] 0 ts at (a + 1) t.OpenParen (behind_vector ts at a ends b r c) o refl refl in
    then_mark (E s.VectorCast) t.OpenParen (E s.Assigns ∷ Mark t.CloseParen ∷ []) ts at (a + 1) ends i o refl

vector_refused : (ts : List Lexeme) (at a b : ℕ) (q : Sym) (stop : ExprStop) → EndsIn ts → BeginsTyped ts at → a ≤ b → NoneAt (E (s.TypeTerm false)) ts (at + 1) a → RefusedAt q ts b stop → RefusedAt (E s.VectorCast) ts at stop → RefusedAt (E s.Cast) ts at stop
vector_refused ts at a b q stop ends h g n m r = cast_refused ts at stop h (either_refused s.Casted s.VectorCast s.PlainCast ts at stop casted_vector r (none_before_later s.PlainCast q ts at a b stop (no_plain ts at a ends h n) g m))

pub cast_refused_operands : (ts : List Lexeme) (at a : ℕ) (stop : ExprStop) → EndsIn ts → BeginsTyped ts at → ReadAt (E (s.TypeTerm true)) ts (at + 1) a → NoneAt (E (s.TypeTerm false)) ts (at + 1) a → IsAt ts a t.CloseParen → IsAt ts (a + 1) t.OpenParen → RefusedAt (E s.Assigns) ts ((a + 1) + 1) stop → RefusedAt (E s.Cast) ts at stop
cast_refused_operands ts at a stop ends b r n c o m = vector_refused ts at a ((a + 1) + 1) (E s.Assigns) stop ends b (omega arith) n m (stops_in (E s.VectorCast) s.Assigns (Mark t.CloseParen ∷ []) ts at ((a + 1) + 1) stop (literal_operands ts at a ends b r c o) m refl refl)

literal_close : (ts : List Lexeme) (at a d : ℕ) → EndsIn ts → BeginsTyped ts at → ReadAt (E (s.TypeTerm true)) ts (at + 1) a → IsAt ts a t.CloseParen → IsAt ts (a + 1) t.OpenParen → ReadAt (E s.Assigns) ts ((a + 1) + 1) d → GoesOn (E s.VectorCast) (Mark t.CloseParen ∷ []) ts at d
literal_close ts at a d ends b r c o q = then (E s.VectorCast) s.Assigns (Mark t.CloseParen ∷ []) ts at ((a + 1) + 1) d (literal_operands ts at a ends b r c o) q refl

pub cast_refused_end : (ts : List Lexeme) (at a d : ℕ) (stop : ExprStop) → EndsIn ts → BeginsTyped ts at → ReadAt (E (s.TypeTerm true)) ts (at + 1) a → NoneAt (E (s.TypeTerm false)) ts (at + 1) a → IsAt ts a t.CloseParen → IsAt ts (a + 1) t.OpenParen → ReadAt (E s.Assigns) ts ((a + 1) + 1) d → RefusedAt (Mark t.CloseParen) ts d stop → RefusedAt (E s.Cast) ts at stop
cast_refused_end ts at a d stop ends b r n c o q m = vector_refused ts at a d (Mark t.CloseParen) stop ends b (let f = q.read.forth in omega arith) n m (stops_in_mark (E s.VectorCast) t.CloseParen [] ts at d stop (literal_close ts at a d ends b r c o q) m refl)

pub cast_literal : (ts : List Lexeme) (at a d : ℕ) → EndsIn ts → BeginsTyped ts at → at < a → ReadAt (E (s.TypeTerm true)) ts (at + 1) a → NoneAt (E (s.TypeTerm false)) ts (at + 1) a → IsAt ts a t.CloseParen → IsAt ts (a + 1) t.OpenParen → ReadAt (E s.Assigns) ts ((a + 1) + 1) d → IsAt ts d t.CloseParen → ReadAt (E s.Cast) ts at (d + 1)
cast_literal ts at a d ends b f r n c o q e =
    let v = then_mark (E s.VectorCast) t.CloseParen [] ts at d ends (literal_close ts at a d ends b r c o q) e refl in
    let w = q.read.forth in
    cast_of_casted ts at (d + 1) b (omega arith) (either_read s.Casted s.VectorCast s.PlainCast ts at (d + 1) casted_vector (done (E s.VectorCast) ts at (d + 1) v) (none_more (E s.PlainCast) ts at a (d + 1) (no_plain ts at a ends b n) (omega arith) v.within))

-- a cast behind a type that is no vector, or before another token than `(`
pub cast_plain : (ts : List Lexeme) (at a d : ℕ) → EndsIn ts → BeginsTyped ts at → at < a → ReadAt (E (s.TypeTerm false)) ts (at + 1) a → NoneAt (E (s.TypeTerm true)) ts (at + 1) a → IsAt ts a t.CloseParen → ReadAt (E s.Cast) ts (a + 1) d → ReadAt (E s.Cast) ts at d
cast_plain ts at a d ends b f r n c q =
    let v = then (E s.PlainCast) s.Cast [] ts at (a + 1) d (behind_plain ts at a ends b r c) q refl in
    let w = q.read.forth in
    cast_of_casted ts at d b (omega arith) (either_read s.Casted s.PlainCast s.VectorCast ts at d casted_plain (done (E s.PlainCast) ts at d v) (none_more (E s.VectorCast) ts at a d (no_vector ts at a ends b n) (omega arith) v.within))

pub cast_refused_plain : (ts : List Lexeme) (at a : ℕ) (stop : ExprStop) → EndsIn ts → BeginsTyped ts at → ReadAt (E (s.TypeTerm false)) ts (at + 1) a → NoneAt (E (s.TypeTerm true)) ts (at + 1) a → IsAt ts a t.CloseParen → RefusedAt (E s.Cast) ts (a + 1) stop → RefusedAt (E s.Cast) ts at stop
cast_refused_plain ts at a stop ends b r n c m = cast_refused ts at stop b (either_refused s.Casted s.PlainCast s.VectorCast ts at stop casted_plain
    (stops_in (E s.PlainCast) s.Cast [] ts at (a + 1) stop (behind_plain ts at a ends b r c) m refl refl)
    (none_before_later s.VectorCast (E s.Cast) ts at a (a + 1) stop (no_vector ts at a ends b n) (omega arith) m))

-- A cast that doesn't begin with `(` is a closed one.
closed_only : (u v : List Lexeme) (l : Lexeme) (w : List Lexeme) → IsCast u → l ∷ w ≡ u ++ v → is_open l.terminal ≡ false → IsClosedCast u
closed_only u v l w a e h =
    let b = cast_begins u a in
    let same : l ≡ b.first = first_same l b.first w (b.rest ++ v) (e ∙ ap (λ z. z ++ v) b.is) in
    record { is = a; closed = ap begins_open b.is ∙ subst (λ z. is_open z.terminal ≡ false) same h }

not_open : (k : Terminal) → (k ≡ t.OpenParen → ⊥) → is_open k ≡ false
not_open t.OpenParen h = absurd (h refl)
not_open _ h = refl

other_open : (ts : List Lexeme) (b : ℕ) (o : OtherAt ts b t.OpenParen) → is_open o.stands.token.terminal ≡ false
other_open ts b o = subst (λ z. is_open z ≡ false) (sym o.stands.is) (not_open o.other o.differs)

closed_fits : (others : List Sym) → Fits (E s.ClosedCast) others → Fits (E s.Cast) others
closed_fits others f = record { stops = λ l w are. f.stops l w are }

closed_read : (ts : List Lexeme) (b d : ℕ) → b < d → OtherAt ts b t.OpenParen → ReadAt (E s.Cast) ts b d → ReadAt (E s.ClosedCast) ts b d
closed_read ts b d g o r = record {
  read = record {
    forth = r.read.forth;
    within = r.read.within;
    item = record {
      split = r.read.item.split;
      builds = λ u are. closed_only (between ts b d ++ u) (drop d ts) o.stands.token (drop (b + 1) ts) (r.read.item.builds u are) (sym o.stands.stands.here ∙ r.read.item.split ∙ ap (λ z. z ++ drop d ts) (sym (append-nil (between ts b d)) ∙ ap (λ z. between ts b d ++ z) (sym are))) (other_open ts b o);
      only = λ others fits l v w first are. r.read.item.only others (closed_fits others fits) l v w first (are.0, are.1, are.2.is, are.3, are.4);
    };
  };
}

closed_out : (ts : List Lexeme) (b k : ℕ) → OtherAt ts b t.OpenParen → OutAt (E s.Cast) ts b k → (b ≡ k) ⊎ (b + 1 ≤ k) → OutAt (E s.ClosedCast) ts b k
closed_out ts b k o h c = record {
  none = record { forth = h.none.forth; within = h.none.within; excluded = record { split = h.none.excluded.split; no_more = λ others fits l v w first are. h.none.excluded.no_more others (closed_fits others fits) l v w first (are.0, are.1, are.2.is, are.3, are.4) } };
  begun = elim c as (λ _. Begun (E s.ClosedCast) (between ts b k)) [
    | inl e ↦ subst (λ n. Begun (E s.ClosedCast) (between ts b n)) e (subst (λ z. Begun (E s.ClosedCast) z) (sym (between_same ts b)) (begun_of (E s.ClosedCast) refl))
    | inr g ↦ record { todo = h.begun.todo; there = h.begun.there; builds = λ u are. closed_only (between ts b k ++ u) [] o.stands.token (between ts (b + 1) k ++ u) (h.begun.builds u are) (ap (λ z. z ++ u) (sym (between_first ts b k o.stands.token o.stands.stands.here g)) ∙ sym (append-nil (between ts b k ++ u))) (other_open ts b o) }
  ];
}

closed_stop : (ts : List Lexeme) (b : ℕ) (stop : ExprStop) → OtherAt ts b t.OpenParen → IsRefused (E s.Cast) ts b stop → IsRefused (E s.ClosedCast) ts b stop
closed_stop ts b (Out k) o h = closed_out ts b k o h (later_or b k h.none.forth)
closed_stop ts b NoMemory o h = tt

closed_refused : (ts : List Lexeme) (b : ℕ) (stop : ExprStop) → OtherAt ts b t.OpenParen → RefusedAt (E s.Cast) ts b stop → RefusedAt (E s.ClosedCast) ts b stop
closed_refused ts b stop o h = record { refused = closed_stop ts b stop o h.refused }

vector_closed : (ts : List Lexeme) (at a : ℕ) → EndsIn ts → BeginsTyped ts at → ReadAt (E (s.TypeTerm true)) ts (at + 1) a → IsAt ts a t.CloseParen → OtherAt ts (a + 1) t.OpenParen → GoesOn (E s.VectorCast) (E s.ClosedCast ∷ []) ts at (a + 1)
vector_closed ts at a ends b r c o = dropped (E s.VectorCast) s.BehindVector [] 1 t.OpenParen (37 ∷ []) ts at (a + 1) (behind_vector ts at a ends b r c) o other_paren refl refl

pub cast_vector : (ts : List Lexeme) (at a d : ℕ) → EndsIn ts → BeginsTyped ts at → at < a → a + 1 < d → ReadAt (E (s.TypeTerm true)) ts (at + 1) a → NoneAt (E (s.TypeTerm false)) ts (at + 1) a → IsAt ts a t.CloseParen → OtherAt ts (a + 1) t.OpenParen → ReadAt (E s.Cast) ts (a + 1) d → ReadAt (E s.Cast) ts at d
cast_vector ts at a d ends b f g r n c o q =
    let v = then (E s.VectorCast) s.ClosedCast [] ts at (a + 1) d (vector_closed ts at a ends b r c o) (closed_read ts (a + 1) d g o q) refl in
    cast_of_casted ts at d b (omega arith) (either_read s.Casted s.VectorCast s.PlainCast ts at d casted_vector (done (E s.VectorCast) ts at d v) (none_more (E s.PlainCast) ts at a d (no_plain ts at a ends b n) (omega arith) v.within))

pub cast_refused_vector : (ts : List Lexeme) (at a : ℕ) (stop : ExprStop) → EndsIn ts → BeginsTyped ts at → ReadAt (E (s.TypeTerm true)) ts (at + 1) a → NoneAt (E (s.TypeTerm false)) ts (at + 1) a → IsAt ts a t.CloseParen → OtherAt ts (a + 1) t.OpenParen → RefusedAt (E s.Cast) ts (a + 1) stop → RefusedAt (E s.Cast) ts at stop
cast_refused_vector ts at a stop ends b r n c o m = vector_refused ts at a (a + 1) (E s.Cast) stop ends b (omega arith) n m (stops_in (E s.VectorCast) s.ClosedCast [] ts at (a + 1) stop (vector_closed ts at a ends b r c o) (closed_refused ts (a + 1) stop o m) refl refl)

-- ---- a unary

pub unary_incremented : (ts : List Lexeme) (at : ℕ) (k : Terminal) (op : UnOp) → EndsIn ts → IsAt ts at k → increment_before k ≡ Some op → GoesOn (E s.Unary) (E s.Unary ∷ []) ts at (at + 1)
unary_incremented ts at k op ends c e = then_of (E s.Unary) s.BeforeIncrement (E s.Unary ∷ []) ts at at k ends (starts_with s.Unary 1 ts at k c (by_class s.BeforeIncrement (picks s.Unary 1) k refl (ap is_some e))) c (ap is_some e) refl

pub unary_prefixed : (ts : List Lexeme) (at : ℕ) (k : Terminal) (op : UnOp) → EndsIn ts → IsAt ts at k → prefix_of k ≡ Some op → GoesOn (E s.Unary) (E s.Cast ∷ []) ts at (at + 1)
unary_prefixed ts at k op ends c e = then_of (E s.Unary) s.Prefix (E s.Cast ∷ []) ts at at k ends (starts_with s.Unary 2 ts at k c (by_class s.Prefix (picks s.Unary 2) k refl (ap is_some e))) c (ap is_some e) refl

pub unary_sized : (ts : List Lexeme) (at : ℕ) → EndsIn ts → IsAt ts at t.Sizeof → GoesOn (E s.Unary) (E s.Sized ∷ []) ts at (at + 1)
unary_sized ts at ends c = then_mark (E s.Unary) t.Sizeof (E s.Sized ∷ []) ts at at ends (starts_with s.Unary 3 ts at t.Sizeof c refl) c refl

no_operator : (k : Terminal) → increment_before k ≡ None → prefix_of k ≡ None → (k ≡ t.Sizeof → ⊥) → picks s.Unary 0 (kind k) ≡ true
no_operator t.Sizeof a b h = absurd (h refl)
no_operator t.Increment a b h = absurd (let e : Some un.PreInc ≡ None = a in cc)
no_operator t.Decrement a b h = absurd (let e : Some un.PreDec ≡ None = a in cc)
no_operator t.Plus a b h = absurd (let e : Some un.Plus ≡ None = b in cc)
no_operator t.Minus a b h = absurd (let e : Some un.Minus ≡ None = b in cc)
no_operator t.Tilde a b h = absurd (let e : Some un.Not ≡ None = b in cc)
no_operator t.Exclamation a b h = absurd (let e : Some un.LogicalNot ≡ None = b in cc)
no_operator t.Star a b h = absurd (let e : Some un.Deref ≡ None = b in cc)
no_operator t.Ampersand a b h = absurd (let e : Some un.Address ≡ None = b in cc)
no_operator (t.TypeName true) a b h = refl
no_operator (t.TypeName false) a b h = refl
no_operator _ a b h = refl

same_terminal : (ts : List Lexeme) (at : ℕ) (k m : Terminal) → IsAt ts at k → IsAt ts at m → k ≡ m
same_terminal ts at k m a b = sym a.is ∙ ap (λ z. z.terminal) (first_same a.token b.token (drop (at + 1) ts) (drop (at + 1) ts) (sym a.stands.here ∙ b.stands.here)) ∙ b.is

unary_postfix : (ts : List Lexeme) (at : ℕ) (k : Terminal) → IsAt ts at k → increment_before k ≡ None → prefix_of k ≡ None → OtherAt ts at t.Sizeof → GoesOn (E s.Unary) (E s.Postfix ∷ []) ts at at
unary_postfix ts at k c a b o = starts_with s.Unary 0 ts at k c (no_operator k a b (λ e. o.differs (same_terminal ts at o.other k o.stands c ∙ e)))

pub unary_of_postfix : (ts : List Lexeme) (at n : ℕ) (k : Terminal) → IsAt ts at k → increment_before k ≡ None → prefix_of k ≡ None → OtherAt ts at t.Sizeof → ReadAt (E s.Postfix) ts at n → ReadAt (E s.Unary) ts at n
unary_of_postfix ts at n k c a b o r = done (E s.Unary) ts at n (then (E s.Unary) s.Postfix [] ts at at n (unary_postfix ts at k c a b o) r refl)

pub unary_refused_postfix : (ts : List Lexeme) (at : ℕ) (k : Terminal) (stop : ExprStop) → IsAt ts at k → increment_before k ≡ None → prefix_of k ≡ None → OtherAt ts at t.Sizeof → RefusedAt (E s.Postfix) ts at stop → RefusedAt (E s.Unary) ts at stop
unary_refused_postfix ts at k stop c a b o r = stops_in (E s.Unary) s.Postfix [] ts at at stop (unary_postfix ts at k c a b o) r refl refl

pub unary_of : (y : ExprSym) (ts : List Lexeme) (at n : ℕ) → GoesOn (E s.Unary) (E y ∷ []) ts at (at + 1) → ReadAt (E y) ts (at + 1) n → keeps_ok (E s.Unary) (E y) [] ≡ true → ReadAt (E s.Unary) ts at n
unary_of y ts at n i r h = done (E s.Unary) ts at n (then (E s.Unary) y [] ts at (at + 1) n i r h)

pub sized_of_unary : (ts : List Lexeme) (at n : ℕ) → EndsIn ts → IsAt ts at t.Sizeof → BeginsUntyped ts (at + 1) → at + 1 < n → ReadAt (E s.Unary) ts (at + 1) n → ReadAt (E s.Unary) ts at n
sized_of_unary ts at n ends c u f r = unary_of s.Sized ts at n (unary_sized ts at ends c) (either_read s.Sized s.Unary s.TypeInBrackets ts (at + 1) n sized_unary r (not_typed_next s.TypeInBrackets ts (at + 1) n (no_bracketed ts (at + 1) u) f r.read.within)) refl

pub sized_refused_unary : (ts : List Lexeme) (at : ℕ) (stop : ExprStop) → EndsIn ts → IsAt ts at t.Sizeof → BeginsUntyped ts (at + 1) → RefusedAt (E s.Unary) ts (at + 1) stop → RefusedAt (E s.Unary) ts at stop
sized_refused_unary ts at stop ends c u r = stops_in (E s.Unary) s.Sized [] ts at (at + 1) stop (unary_sized ts at ends c) (either_refused s.Sized s.Unary s.TypeInBrackets ts (at + 1) stop sized_unary r (not_typed_stop s.TypeInBrackets s.Unary ts (at + 1) stop unary_opens (no_bracketed ts (at + 1) u) r)) refl refl

bracketed_first : (ts : List Lexeme) (at : ℕ) → EndsIn ts → BeginsTyped ts at → GoesOn (E s.TypeInBrackets) (E s.AnyType ∷ Mark t.CloseParen ∷ []) ts at (at + 1)
bracketed_first ts at ends b = then_mark (E s.TypeInBrackets) t.OpenParen (E s.AnyType ∷ Mark t.CloseParen ∷ []) ts at at ends (starts_with s.TypeInBrackets 0 ts at t.OpenParen b.opens refl) b.opens refl

sized_refused : (ts : List Lexeme) (at : ℕ) (stop : ExprStop) → EndsIn ts → IsAt ts at t.Sizeof → BeginsTyped ts (at + 1) → RefusedAt (E s.TypeInBrackets) ts (at + 1) stop → RefusedAt (E s.Unary) ts at stop
sized_refused ts at stop ends c b r = stops_in (E s.Unary) s.Sized [] ts at (at + 1) stop (unary_sized ts at ends c) (either_refused s.Sized s.TypeInBrackets s.Unary ts (at + 1) stop sized_type r (not_typed_stop s.Unary s.TypeInBrackets ts (at + 1) stop bracketed_opens (typed ts (at + 1) b) r)) refl refl

any_type_refused : (ts : List Lexeme) (at : ℕ) (stop : ExprStop) → RefusedAt (E (s.TypeTerm false)) ts at stop → BarredAt (E (s.TypeTerm true)) ts at stop → RefusedAt (E s.AnyType) ts at stop
any_type_refused ts at stop r n = either_refused s.AnyType (s.TypeTerm false) (s.TypeTerm true) ts at stop any_type_plain r n

pub sized_refused_type : (ts : List Lexeme) (at : ℕ) (stop : ExprStop) → EndsIn ts → IsAt ts at t.Sizeof → BeginsTyped ts (at + 1) → RefusedAt (E (s.TypeTerm false)) ts ((at + 1) + 1) stop → BarredAt (E (s.TypeTerm true)) ts ((at + 1) + 1) stop → RefusedAt (E s.Unary) ts at stop
sized_refused_type ts at stop ends c b r n = sized_refused ts at stop ends c b (stops_in (E s.TypeInBrackets) s.AnyType (Mark t.CloseParen ∷ []) ts (at + 1) ((at + 1) + 1) stop (bracketed_first ts (at + 1) ends b) (any_type_refused ts ((at + 1) + 1) stop r n) refl refl)

bracketed_type : (vector : Bool) (ts : List Lexeme) (at a : ℕ) → EndsIn ts → BeginsTyped ts at → ReadAt (E (s.TypeTerm vector)) ts (at + 1) a → NoneAt (E (s.TypeTerm (not vector))) ts (at + 1) a → GoesOn (E s.TypeInBrackets) (Mark t.CloseParen ∷ []) ts at a
bracketed_type vector ts at a ends b r n = then (E s.TypeInBrackets) s.AnyType (Mark t.CloseParen ∷ []) ts at (at + 1) a (bracketed_first ts at ends b) (any_type_read vector ts (at + 1) a r n) refl

pub sized_refused_close : (vector : Bool) (ts : List Lexeme) (at a : ℕ) (stop : ExprStop) → EndsIn ts → IsAt ts at t.Sizeof → BeginsTyped ts (at + 1) → ReadAt (E (s.TypeTerm vector)) ts ((at + 1) + 1) a → NoneAt (E (s.TypeTerm (not vector))) ts ((at + 1) + 1) a → RefusedAt (Mark t.CloseParen) ts a stop → RefusedAt (E s.Unary) ts at stop
sized_refused_close vector ts at a stop ends c b r n m = sized_refused ts at stop ends c b (stops_in_mark (E s.TypeInBrackets) t.CloseParen [] ts (at + 1) a stop (bracketed_type vector ts (at + 1) a ends b r n) m refl)

pub sized_of_type : (vector : Bool) (ts : List Lexeme) (at a : ℕ) → EndsIn ts → IsAt ts at t.Sizeof → BeginsTyped ts (at + 1) → ReadAt (E (s.TypeTerm vector)) ts ((at + 1) + 1) a → NoneAt (E (s.TypeTerm (not vector))) ts ((at + 1) + 1) a → IsAt ts a t.CloseParen → ReadAt (E s.Unary) ts at (a + 1)
sized_of_type vector ts at a ends c b r n m =
    let v = then_mark (E s.TypeInBrackets) t.CloseParen [] ts (at + 1) a ends (bracketed_type vector ts (at + 1) a ends b r n) m refl in
    let f = r.read.forth in
    unary_of s.Sized ts at (a + 1) (unary_sized ts at ends c) (either_read s.Sized s.TypeInBrackets s.Unary ts (at + 1) (a + 1) sized_type (done (E s.TypeInBrackets) ts (at + 1) (a + 1) v) (not_typed_next s.Unary ts (at + 1) (a + 1) (typed ts (at + 1) b) (omega arith) v.within)) refl

-- ---- a postfix and a primary

postfix_first : (ts : List Lexeme) (at : ℕ) → at < length ts → GoesOn (E s.Postfix) (E s.Primary ∷ E s.Suffixes ∷ []) ts at at
postfix_first ts at h = single s.Postfix ts at h (λ k. refl)

pub postfix_primary : (ts : List Lexeme) (at a : ℕ) → at < length ts → ReadAt (E s.Primary) ts at a → GoesOn (E s.Postfix) (E s.Suffixes ∷ []) ts at a
postfix_primary ts at a h r = then (E s.Postfix) s.Primary (E s.Suffixes ∷ []) ts at at a (postfix_first ts at h) r refl

pub postfix_refused_primary : (ts : List Lexeme) (at : ℕ) (stop : ExprStop) → at < length ts → RefusedAt (E s.Primary) ts at stop → RefusedAt (E s.Postfix) ts at stop
postfix_refused_primary ts at stop h r = stops_in (E s.Postfix) s.Primary (E s.Suffixes ∷ []) ts at at stop (postfix_first ts at h) r refl refl

no_suffix_picked : (k : Terminal) → is_suffix_mark k ≡ false → (negated (has (39 ∷ 47 ∷ 48 ∷ 49 ∷ 50 ∷ []) (kind k))) ≡ true
no_suffix_picked t.OpenBracket h = absurd (let e : true ≡ false = h in cc)
no_suffix_picked t.Dot h = absurd (let e : true ≡ false = h in cc)
no_suffix_picked t.Arrow h = absurd (let e : true ≡ false = h in cc)
no_suffix_picked t.Increment h = absurd (let e : true ≡ false = h in cc)
no_suffix_picked t.Decrement h = absurd (let e : true ≡ false = h in cc)
no_suffix_picked (t.TypeName true) h = refl
no_suffix_picked (t.TypeName false) h = refl
no_suffix_picked _ h = refl

negation : (a : Bool) → negated a ≡ true → a ≡ false
negation true h = absurd (let e : false ≡ true = h in cc)
negation false h = refl

pub postfix_done : (ts : List Lexeme) (at a : ℕ) → GoesOn (E s.Postfix) (E s.Suffixes ∷ []) ts at a → NoSuffixAt ts a → ReadAt (E s.Postfix) ts at a
postfix_done ts at a i o = done (E s.Postfix) ts at a (expand (E s.Postfix) s.Suffixes [] 0 ts at a o.mark i o.stands (by_other_kinds (39 ∷ 47 ∷ 48 ∷ 49 ∷ 50 ∷ []) (picks s.Suffixes 0) o.mark refl (negation (has (39 ∷ 47 ∷ 48 ∷ 49 ∷ 50 ∷ []) (kind o.mark)) (no_suffix_picked o.mark o.other))) refl)

index_first : (ts : List Lexeme) (at a : ℕ) → EndsIn ts → GoesOn (E s.Postfix) (E s.Suffixes ∷ []) ts at a → IsAt ts a t.OpenBracket → GoesOn (E s.Postfix) (E s.Assigns ∷ Mark t.CloseBracket ∷ E s.Suffixes ∷ []) ts at (a + 1)
index_first ts at a ends i o = then_mark (E s.Postfix) t.OpenBracket (E s.Assigns ∷ Mark t.CloseBracket ∷ E s.Suffixes ∷ []) ts at a ends (expand (E s.Postfix) s.Suffixes [] 1 ts at a t.OpenBracket i o refl refl) o refl

pub postfix_refused_index : (ts : List Lexeme) (at a : ℕ) (stop : ExprStop) → EndsIn ts → GoesOn (E s.Postfix) (E s.Suffixes ∷ []) ts at a → IsAt ts a t.OpenBracket → RefusedAt (E s.Assigns) ts (a + 1) stop → RefusedAt (E s.Postfix) ts at stop
postfix_refused_index ts at a stop ends i o r = stops_in (E s.Postfix) s.Assigns (Mark t.CloseBracket ∷ E s.Suffixes ∷ []) ts at (a + 1) stop (index_first ts at a ends i o) r refl refl

index_read : (ts : List Lexeme) (at a b : ℕ) → EndsIn ts → GoesOn (E s.Postfix) (E s.Suffixes ∷ []) ts at a → IsAt ts a t.OpenBracket → ReadAt (E s.Assigns) ts (a + 1) b → GoesOn (E s.Postfix) (Mark t.CloseBracket ∷ E s.Suffixes ∷ []) ts at b
index_read ts at a b ends i o r = then (E s.Postfix) s.Assigns (Mark t.CloseBracket ∷ E s.Suffixes ∷ []) ts at (a + 1) b (index_first ts at a ends i o) r refl

pub postfix_refused_bracket : (ts : List Lexeme) (at a b : ℕ) (stop : ExprStop) → EndsIn ts → GoesOn (E s.Postfix) (E s.Suffixes ∷ []) ts at a → IsAt ts a t.OpenBracket → ReadAt (E s.Assigns) ts (a + 1) b → RefusedAt (Mark t.CloseBracket) ts b stop → RefusedAt (E s.Postfix) ts at stop
postfix_refused_bracket ts at a b stop ends i o r m = stops_in_mark (E s.Postfix) t.CloseBracket (E s.Suffixes ∷ []) ts at b stop (index_read ts at a b ends i o r) m refl

pub postfix_indexed : (ts : List Lexeme) (at a b : ℕ) → EndsIn ts → GoesOn (E s.Postfix) (E s.Suffixes ∷ []) ts at a → IsAt ts a t.OpenBracket → ReadAt (E s.Assigns) ts (a + 1) b → IsAt ts b t.CloseBracket → GoesOn (E s.Postfix) (E s.Suffixes ∷ []) ts at (b + 1)
postfix_indexed ts at a b ends i o r c = then_mark (E s.Postfix) t.CloseBracket (E s.Suffixes ∷ []) ts at b ends (index_read ts at a b ends i o r) c refl

pub postfix_suffixed : (ts : List Lexeme) (at a b : ℕ) → GoesOn (E s.Postfix) (E s.Suffixes ∷ []) ts at a → GoesOn (E s.Suffixes) (E s.Suffixes ∷ []) ts a b → GoesOn (E s.Postfix) (E s.Suffixes ∷ []) ts at b
postfix_suffixed ts at a b i j = goes (E s.Postfix) (E s.Suffixes) [] (E s.Suffixes ∷ []) ts at a b (keeps_part (E s.Postfix) s.Suffixes [] refl) i j

pub postfix_refused_suffix : (ts : List Lexeme) (at a : ℕ) (stop : ExprStop) → GoesOn (E s.Postfix) (E s.Suffixes ∷ []) ts at a → RefusedAt (E s.Suffixes) ts a stop → RefusedAt (E s.Postfix) ts at stop
postfix_refused_suffix ts at a stop i r = stops_in (E s.Postfix) s.Suffixes [] ts at a stop i r refl refl

brackets_first : (ts : List Lexeme) (at : ℕ) → EndsIn ts → IsAt ts at t.OpenParen → GoesOn (E s.Primary) (E s.Assigns ∷ Mark t.CloseParen ∷ []) ts at (at + 1)
brackets_first ts at ends o = then_mark (E s.Primary) t.OpenParen (E s.Assigns ∷ Mark t.CloseParen ∷ []) ts at at ends (starts_with s.Primary 2 ts at t.OpenParen o refl) o refl

pub primary_refused_inner : (ts : List Lexeme) (at : ℕ) (stop : ExprStop) → EndsIn ts → IsAt ts at t.OpenParen → RefusedAt (E s.Assigns) ts (at + 1) stop → RefusedAt (E s.Primary) ts at stop
primary_refused_inner ts at stop ends o r = stops_in (E s.Primary) s.Assigns (Mark t.CloseParen ∷ []) ts at (at + 1) stop (brackets_first ts at ends o) r refl refl

brackets_read : (ts : List Lexeme) (at a : ℕ) → EndsIn ts → IsAt ts at t.OpenParen → ReadAt (E s.Assigns) ts (at + 1) a → GoesOn (E s.Primary) (Mark t.CloseParen ∷ []) ts at a
brackets_read ts at a ends o r = then (E s.Primary) s.Assigns (Mark t.CloseParen ∷ []) ts at (at + 1) a (brackets_first ts at ends o) r refl

pub primary_refused_close : (ts : List Lexeme) (at a : ℕ) (stop : ExprStop) → EndsIn ts → IsAt ts at t.OpenParen → ReadAt (E s.Assigns) ts (at + 1) a → RefusedAt (Mark t.CloseParen) ts a stop → RefusedAt (E s.Primary) ts at stop
primary_refused_close ts at a stop ends o r m = stops_in_mark (E s.Primary) t.CloseParen [] ts at a stop (brackets_read ts at a ends o r) m refl

pub primary_brackets : (ts : List Lexeme) (at a : ℕ) → EndsIn ts → IsAt ts at t.OpenParen → ReadAt (E s.Assigns) ts (at + 1) a → IsAt ts a t.CloseParen → ReadAt (E s.Primary) ts at (a + 1)
primary_brackets ts at a ends o r c = done (E s.Primary) ts at (a + 1) (then_mark (E s.Primary) t.CloseParen [] ts at a ends (brackets_read ts at a ends o r) c refl)

call_first : (ts : List Lexeme) (at : ℕ) → EndsIn ts → CallAt ts at → GoesOn (E s.Primary) (E s.Assigns ∷ Mark t.CloseParen ∷ []) ts at (at + 2)
call_first ts at ends c =
    let i = then_mark (E s.Primary) t.Name (E s.Call ∷ []) ts at at ends (starts_with s.Primary 0 ts at t.Name c.name refl) c.name refl in
    let j = expand (E s.Primary) s.Call [] 1 ts at (at + 1) t.OpenParen i c.opens refl refl in
    let k = then_mark (E s.Primary) t.OpenParen (E s.Arguments ∷ []) ts at (at + 1) ends j c.opens refl in
    let e : (at + 1) + 1 ≡ at + 2 = omega arith in
    dropped (E s.Primary) s.Arguments [] 1 t.CloseParen (38 ∷ []) ts at (at + 2) (subst (λ n. GoesOn (E s.Primary) (E s.Arguments ∷ []) ts at n) e k) c.argument other_close refl refl

pub primary_refused_arguments : (ts : List Lexeme) (at : ℕ) (stop : ExprStop) → EndsIn ts → CallAt ts at → RefusedAt (E s.Assigns) ts (at + 2) stop → RefusedAt (E s.Primary) ts at stop
primary_refused_arguments ts at stop ends c r = stops_in (E s.Primary) s.Assigns (Mark t.CloseParen ∷ []) ts at (at + 2) stop (call_first ts at ends c) r refl refl

call_read : (ts : List Lexeme) (at a : ℕ) → EndsIn ts → CallAt ts at → ReadAt (E s.Assigns) ts (at + 2) a → GoesOn (E s.Primary) (Mark t.CloseParen ∷ []) ts at a
call_read ts at a ends c r = then (E s.Primary) s.Assigns (Mark t.CloseParen ∷ []) ts at (at + 2) a (call_first ts at ends c) r refl

pub primary_refused_call : (ts : List Lexeme) (at a : ℕ) (stop : ExprStop) → EndsIn ts → CallAt ts at → ReadAt (E s.Assigns) ts (at + 2) a → RefusedAt (Mark t.CloseParen) ts a stop → RefusedAt (E s.Primary) ts at stop
primary_refused_call ts at a stop ends c r m = stops_in_mark (E s.Primary) t.CloseParen [] ts at a stop (call_read ts at a ends c r) m refl

pub primary_call : (ts : List Lexeme) (at a : ℕ) → EndsIn ts → CallAt ts at → ReadAt (E s.Assigns) ts (at + 2) a → IsAt ts a t.CloseParen → ReadAt (E s.Primary) ts at (a + 1)
primary_call ts at a ends c r m = done (E s.Primary) ts at (a + 1) (then_mark (E s.Primary) t.CloseParen [] ts at a ends (call_read ts at a ends c r) m refl)
