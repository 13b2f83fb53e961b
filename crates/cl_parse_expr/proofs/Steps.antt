-- The parser's functions step by step: what each has read, and its tree.
use Rattle.std.proofs.Common.{◌≡◌, ℕ, ◌+◌, ◌<◌, List, [], ◌∷◌, ◌++◌, length, Bool, true, false, refl, sym, ap, ◌∙◌, subst, arith}
use Rattle.std.specs.Prelude.{not, Option, Some, None, Result, Ok, Err, IfOk, IfErr, MatchBool}
use Rattle.cl_types.specs.declared.operator.BinOp.{BinOp}
use Rattle.cl_types.specs.declared.operator.UnOp.{UnOp}
use Rattle.cl_types.specs.declared.operator.UnOp.TheVariants as un
use Rattle.clv_place.specs.declared.place.Place.{Place}
use Rattle.cl_ast.specs.declared.expression.Qual.{Qual}
use Rattle.cl_ast.specs.declared.expression.Expr.{Expr}
use Rattle.cl_ast.specs.declared.expression.ExprNode.TheVariants as node
use Rattle.cl_grammar.specs.declared.lexeme.Lexeme.{Lexeme}
use Rattle.cl_grammar.specs.declared.terminal.Terminal.{Terminal}
use Rattle.cl_grammar.specs.declared.terminal.Terminal.TheVariants as t
use Rattle.cl_grammar.specs.declared.stop.ExprStop.{ExprStop}
use Rattle.cl_grammar.specs.declared.stop.ExprStop.TheVariants.{NoMemory}
use Rattle.cl_grammar.specs.Terminals.{prefix_of, increment_before, assignment_of, qualifier_of}
use Rattle.cl_grammar.specs.ExpressionTrees as e
use Rattle.cl_grammar.specs.ExpressionTrees.{IsExpr, IsSpec, ExprTree, AssignTree, AssignTrees, CondTree, CastTree, UnaryTree, PostfixTree, PrimaryTree, SpecTree, Qualify}
use Rattle.cl_grammar.specs.Symbols as s
use Rattle.cl_grammar.specs.Symbols.{Sym, E, Mark}
use Rattle.cl_grammar.specs.Items.{between, EndsIn, IsAt, OtherAt, PlaceAt, TextAt, ReadAt, NoneAt, RefusedAt, BarredAt}
use Rattle.cl_grammar.proofs.TerminalKinds.{kind, has}
use Rattle.cl_grammar.proofs.Places.{between_join, more_tokens, stops_in}
use Rattle.cl_parse_expr.specs.declared.expression.Operands.{Operands}
use Rattle.cl_parse_expr.specs.declared.expression.SpecRead.{SpecRead}
use Rattle.cl_parse_expr.specs.declared.expression.Taken.{Taken}
use Rattle.cl_parse_expr.specs.declared.simple.TermRead.{TermRead}
use Rattle.cl_parse_expr.specs.declared.simple.BaseRead.{BaseRead}
use Rattle.cl_parse_expr.specs.Reading.{OperandsAt, one, many, WholeOf, CondFrom, BinFrom, PrefixedAt, BeginsTyped, BeginsUntyped, CallAt, Qualified, TakenAt, BehindAt, AssignsAt, SpecAt, BaseAt, TypeOut, AssignedAt, ChosenAt, QualifiedFrom, ClosedFrom, Unclosed, no_memory, unclosed, TypedAt, LiteralAt, NoLiteralAt, plain, closed}
use Rattle.cl_parse_expr.proofs.Readings.{assigned, cond_read, cond_refused_behind, assign_of_cond, assign_not, assign_not_refused, assign_assigned, assign_assigned_refused, behind_no_choice, behind_choice, behind_refused_no, cast_of_unary, cast_refused_type, cast_refused_close, cast_refused_operands, cast_refused_end, cast_literal, cast_plain, cast_refused_plain, cast_vector, cast_refused_vector, unary_incremented, unary_prefixed, unary_of, unary_of_postfix, sized_of_unary, sized_refused_type, sized_refused_close, sized_of_type, primary_brackets, primary_call}
use Rattle.cl_parse_expr.proofs.TypeReadings.{TermReads, term_reads, term_refused, term_barred, spec_read, spec_none, spec_refused, spec_barred}
use Rattle.cl_parse_expr.proofs.Trees.{args_tree, whole_tree, cond_tree, assign_unary_tree, assigned_tree, no_choice_tree, choice_tree, term_tree, cast_tree, vector_cast_tree, literal_tree, incremented_tree, prefixed_tree, sized_tree, sized_type_tree, brackets_tree, call_tree}

-- ---- memory ran out

pub no_memory_out : (x : Sym) (ts : List Lexeme) (at : ℕ) (stop : ExprStop) → stop ≡ NoMemory → RefusedAt x ts at stop
no_memory_out x ts at stop h = subst (λ z. RefusedAt x ts at z) (sym h) (record { refused = tt })

pub no_memory_barred : (x : Sym) (ts : List Lexeme) (at : ℕ) (stop : ExprStop) → stop ≡ NoMemory → BarredAt x ts at stop
no_memory_barred x ts at stop h = subst (λ z. BarredAt x ts at z) (sym h) (record { barred = tt })

-- ---- results that are passed on

pub kept : {T : Type 0} (P Q : T → Type 0) (r : Result T ExprStop) → ((x : T) → P x → Q x) → IfOk r P → IfOk r Q
kept P Q (Ok x) f h = f x h
kept P Q (Err e) f h = tt

pub failed : {T : Type 0} (P Q : ExprStop → Type 0) (r : Result T ExprStop) → ((e : ExprStop) → P e → Q e) → IfErr r P → IfErr r Q
failed P Q (Ok x) f h = tt
failed P Q (Err e) f h = f e h

pub kept_two : {T : Type 0} (P Q R : T → Type 0) (r : Result T ExprStop) → ((x : T) → P x → Q x → R x) → IfOk r P → IfOk r Q → IfOk r R
kept_two P Q R (Ok x) f h g = f x h g
kept_two P Q R (Err e) f h g = tt

pub kept_three : {T : Type 0} (P Q S R : T → Type 0) (r : Result T ExprStop) → ((x : T) → P x → Q x → S x → R x) → IfOk r P → IfOk r Q → IfOk r S → IfOk r R
kept_three P Q S R (Ok x) f h g k = f x h g k
kept_three P Q S R (Err e) f h g k = tt

-- ---- tokens that others follow

pub mark_more : (ts : List Lexeme) (at : ℕ) (k : Terminal) → EndsIn ts → IsAt ts at k → has (0 ∷ []) (kind k) ≡ false → at + 1 < length ts
mark_more ts at k ends i h = more_tokens ts at k ends i h

pub assigned_more : (ts : List Lexeme) (at : ℕ) (left : Taken) (k : Terminal) (op : Option BinOp) → EndsIn ts → at < length ts → TakenAt s.Unary UnaryTree ts at left → IsAt ts left.next k → assignment_of k ≡ Some op → left.next + 1 < length ts
assigned_more ts at left k op ends h m c o = (assigned ts at left.next k op ends h m.read c o).within

pub incremented_more : (ts : List Lexeme) (at : ℕ) (k : Terminal) (op : UnOp) → EndsIn ts → IsAt ts at k → increment_before k ≡ Some op → at + 1 < length ts
incremented_more ts at k op ends c o = (unary_incremented ts at k op ends c o).within

pub prefixed_more : (ts : List Lexeme) (at : ℕ) (k : Terminal) (op : UnOp) → EndsIn ts → IsAt ts at k → prefix_of k ≡ Some op → at + 1 < length ts
prefixed_more ts at k op ends c o = (unary_prefixed ts at k op ends c o).within

pub typed_more : (ts : List Lexeme) (at : ℕ) → EndsIn ts → BeginsTyped ts (at + 1) → at + 2 < length ts
typed_more ts at ends b = let h = b.stands.stands.within in omega (arith, h)

pub call_more : (ts : List Lexeme) (at : ℕ) → CallAt ts at → at + 2 < length ts
call_more ts at c = c.argument.stands.stands.within

comma_in : (ts : List Lexeme) (at : ℕ) (o : Operands) → o.next < length ts → OperandsAt ts at o → o.comma < length ts
comma_in ts at o h (one z y a) = omega (arith, y, h)
comma_in ts at o h (many i j k a b) = k.stands.within

pub comma_within : (ts : List Lexeme) (at : ℕ) (o : Operands) → AssignsAt ts at o → o.comma < length ts
comma_within ts at o m = comma_in ts at o m.read.read.within m.tree

-- ---- operands

pub whole_of : (ts : List Lexeme) (at : ℕ) (o : Operands) (whole : Taken) → AssignsAt ts at o → WholeOf ts o whole.tree → whole.next ≡ o.next → TakenAt s.Assigns ExprTree ts at whole
whole_of ts at o whole m w x = record {
  read = subst (λ z. ReadAt (E s.Assigns) ts at z) (sym x) m.read;
  forth = let f = m.forth in omega arith;
  tree = subst (λ z. ExprTree (between ts at z) whole.tree) (sym x) (whole_tree ts at o whole.tree m.tree w);
}

pub listed_of : (ts : List Lexeme) (at : ℕ) (o : Operands) (args : List Expr) → AssignsAt ts at o → args ≡ o.first ∷ o.others.items → AssignTrees (between ts at o.next) args
listed_of ts at o args m h = subst (λ z. AssignTrees (between ts at o.next) z) (sym h) (args_tree ts at o m.tree)

-- ---- assignments and conditions

pub cond_taken : (ts : List Lexeme) (at : ℕ) (first whole : Taken) → at < length ts → TakenAt s.Cast CastTree ts at first → BehindAt s.BehindCast CondFrom ts first whole → TakenAt s.Cond CondTree ts at whole
cond_taken ts at first whole h m n = record {
  read = cond_read ts at first.next whole.next h m.read n.read;
  forth = let f = m.forth in let g = n.read.read.forth in omega arith;
  tree = cond_tree ts at first.next whole.next first.tree whole.tree (let f = m.forth in omega arith) n.read.read.forth m.tree n.tree;
}

pub cond_out : (ts : List Lexeme) (at : ℕ) (first : Taken) (stop : ExprStop) → at < length ts → TakenAt s.Cast CastTree ts at first → RefusedAt (E s.BehindCast) ts first.next stop → RefusedAt (E s.Cond) ts at stop
cond_out ts at first stop h m r = cond_refused_behind ts at first.next stop h m.read r

pub assign_typed : (ts : List Lexeme) (at : ℕ) (whole : Taken) → at < length ts → BeginsTyped ts at → TakenAt s.Cond CondTree ts at whole → TakenAt s.Assign AssignTree ts at whole
assign_typed ts at whole h b m = record { read = assign_of_cond ts at whole.next h b m.forth m.read; forth = m.forth; tree = e.only_cond (between ts at whole.next) whole.tree m.tree }

pub assign_untyped : (ts : List Lexeme) (at : ℕ) (left whole : Taken) (k : Terminal) → at < length ts → BeginsUntyped ts at → TakenAt s.Unary UnaryTree ts at left → IsAt ts left.next k → assignment_of k ≡ None → BehindAt s.BehindCast CondFrom ts left whole → TakenAt s.Assign AssignTree ts at whole
assign_untyped ts at left whole k h b m c o n = record {
  read = assign_not ts at left.next whole.next k h b m.forth m.read c o n.read;
  forth = let f = m.forth in let g = n.read.read.forth in omega arith;
  tree = assign_unary_tree ts at left.next whole.next left.tree whole.tree (let f = m.forth in omega arith) n.read.read.forth m.tree n.tree;
}

pub assign_untyped_out : (ts : List Lexeme) (at : ℕ) (left : Taken) (k : Terminal) (stop : ExprStop) → at < length ts → BeginsUntyped ts at → TakenAt s.Unary UnaryTree ts at left → IsAt ts left.next k → assignment_of k ≡ None → RefusedAt (E s.BehindCast) ts left.next stop → RefusedAt (E s.Assign) ts at stop
assign_untyped_out ts at left k stop h b m c o r = assign_not_refused ts at left.next k stop h b m.read c o r

pub assigned_taken : (ts : List Lexeme) (at : ℕ) (left right whole : Taken) (k : Terminal) (op : Option BinOp) → EndsIn ts → at < length ts → BeginsUntyped ts at → TakenAt s.Unary UnaryTree ts at left → IsAt ts left.next k → assignment_of k ≡ Some op → TakenAt s.Assign AssignTree ts (left.next + 1) right → AssignedAt ts left.next op left.tree right.tree whole.tree → whole.next ≡ right.next → TakenAt s.Assign AssignTree ts at whole
assigned_taken ts at left right whole k op ends h b m c o n a x = record {
  read = subst (λ z. ReadAt (E s.Assign) ts at z) (sym x) (assign_assigned ts at left.next right.next k op ends h b m.forth (let g = n.forth in omega arith) m.read c o n.read);
  forth = let f = m.forth in let g = n.forth in omega arith;
  tree = subst (λ z. AssignTree (between ts at z) whole.tree) (sym x) (assigned_tree ts at left.next right.next k op a.place left.tree right.tree whole.tree (let f = m.forth in omega arith) (let g = n.forth in omega arith) m.tree c o n.tree a.stands a.is);
}

pub assigned_out : (ts : List Lexeme) (at : ℕ) (left : Taken) (k : Terminal) (op : Option BinOp) (stop : ExprStop) → EndsIn ts → at < length ts → BeginsUntyped ts at → TakenAt s.Unary UnaryTree ts at left → IsAt ts left.next k → assignment_of k ≡ Some op → RefusedAt (E s.Assign) ts (left.next + 1) stop → RefusedAt (E s.Assign) ts at stop
assigned_out ts at left k op stop ends h b m c o r = assign_assigned_refused ts at left.next k op stop ends h b m.read c o r

-- ---- behind a first operand

pub no_choice_taken : (ts : List Lexeme) (first test : Taken) → first.next < length ts → BehindAt s.Row BinFrom ts first test → OtherAt ts test.next t.Question → BehindAt s.BehindCast CondFrom ts first test
no_choice_taken ts first test h m o = record { read = behind_no_choice ts first.next test.next h m.read o; tree = no_choice_tree ts first.next test.next first.tree test.tree m.tree }

pub chosen_taken : (ts : List Lexeme) (first test chosen left whole : Taken) (colon : ℕ) → EndsIn ts → first.next < length ts → BehindAt s.Row BinFrom ts first test → IsAt ts test.next t.Question → TakenAt s.Assign AssignTree ts (test.next + 1) chosen → IsAt ts chosen.next t.Colon → colon ≡ chosen.next + 1 → TakenAt s.Cond CondTree ts colon left → ChosenAt ts test.next test.tree chosen.tree left.tree whole.tree → whole.next ≡ left.next → BehindAt s.BehindCast CondFrom ts first whole
chosen_taken ts first test chosen left whole colon ends h m q y c p n a x =
    let n2 : TakenAt s.Cond CondTree ts (chosen.next + 1) left = subst (λ z. TakenAt s.Cond CondTree ts z left) p n in
    record {
      read = subst (λ z. ReadAt (E s.BehindCast) ts first.next z) (sym x) (behind_choice ts first.next test.next chosen.next left.next ends h m.read q y.read c n2.read);
      tree = subst (λ z. CondFrom ts first.next z first.tree whole.tree) (sym x) (choice_tree ts first.next test.next chosen.next left.next a.place first.tree test.tree chosen.tree left.tree whole.tree m.read.read.forth (let f = y.forth in omega arith) (let f = n2.forth in omega arith) m.tree q y.tree c n2.tree a.stands a.is);
    }

pub chosen_out : (ts : List Lexeme) (first test chosen : Taken) (colon : ℕ) (stop : ExprStop) → EndsIn ts → first.next < length ts → BehindAt s.Row BinFrom ts first test → IsAt ts test.next t.Question → TakenAt s.Assign AssignTree ts (test.next + 1) chosen → IsAt ts chosen.next t.Colon → colon ≡ chosen.next + 1 → RefusedAt (E s.Cond) ts colon stop → RefusedAt (E s.BehindCast) ts first.next stop
chosen_out ts first test chosen colon stop ends h m q y c p r = behind_refused_no ts first.next test.next chosen.next stop ends h m.read q y.read c (subst (λ z. RefusedAt (E s.Cond) ts z stop) p r)

-- ---- casts

pub cast_untyped : (ts : List Lexeme) (at : ℕ) (whole : Taken) → BeginsUntyped ts at → TakenAt s.Unary UnaryTree ts at whole → TakenAt s.Cast CastTree ts at whole
cast_untyped ts at whole b m = record { read = cast_of_unary ts at whole.next b m.forth m.read; forth = m.forth; tree = e.only_unary (between ts at whole.next) whole.tree m.tree }

pub cast_out_words : (ts : List Lexeme) (at : ℕ) (stop : ExprStop) → EndsIn ts → BeginsTyped ts at → TypeOut s.Spec ts (at + 1) stop → RefusedAt (E s.Cast) ts at stop
cast_out_words ts at stop ends b o = cast_refused_type ts at stop ends b (term_refused ts (at + 1) stop b.stands.stands.within o.out o.barred) (term_barred ts (at + 1) stop b.stands.stands.within o.barred)

pub typed_at : (ts : List Lexeme) (at : ℕ) (words : SpecRead) (name : TermRead) → BeginsTyped ts at → SpecAt ts (at + 1) words → ClosedFrom ts words name → TypedAt ts at name
typed_at ts at words name b m c =
    let before : TermRead = record { term = name.term; vector = name.vector; next = c.close } in
    let r : TermReads name.vector ts (at + 1) c.close = term_reads ts (at + 1) words before b.stands.stands.within m.read m.none c.from in
    record { begins = b; close = c.close; read = r.read; none = r.none; tree = term_tree ts (at + 1) words before m.read.read.forth m.tree c.from; closes = c.closes; behind = c.behind }

pub cast_out_type : (ts : List Lexeme) (at : ℕ) (words : SpecRead) (stop : ExprStop) → EndsIn ts → BeginsTyped ts at → SpecAt ts (at + 1) words → Unclosed ts words stop → RefusedAt (E s.Cast) ts at stop
cast_out_type ts at words stop ends b m (no_memory h) = no_memory_out (E s.Cast) ts at stop h
cast_out_type ts at words stop ends b m (unclosed name f r) =
    let n : TermReads name.vector ts (at + 1) name.next = term_reads ts (at + 1) words name b.stands.stands.within m.read m.none f in
    cast_refused_close name.vector ts at name.next stop ends b n.read n.none r

vector_read : (ts : List Lexeme) (a b : ℕ) (vector : Bool) → vector ≡ true → ReadAt (E (s.TypeTerm vector)) ts a b → ReadAt (E (s.TypeTerm true)) ts a b
vector_read ts a b vector h r = subst (λ z. ReadAt (E (s.TypeTerm z)) ts a b) h r

vector_none : (ts : List Lexeme) (a b : ℕ) (vector : Bool) → vector ≡ true → NoneAt (E (s.TypeTerm (not vector))) ts a b → NoneAt (E (s.TypeTerm false)) ts a b
vector_none ts a b vector h n = subst (λ z. NoneAt (E (s.TypeTerm (not z))) ts a b) h n

plain_read : (ts : List Lexeme) (a b : ℕ) (vector : Bool) → vector ≡ false → ReadAt (E (s.TypeTerm vector)) ts a b → ReadAt (E (s.TypeTerm false)) ts a b
plain_read ts a b vector h r = subst (λ z. ReadAt (E (s.TypeTerm z)) ts a b) h r

plain_none : (ts : List Lexeme) (a b : ℕ) (vector : Bool) → vector ≡ false → NoneAt (E (s.TypeTerm (not vector))) ts a b → NoneAt (E (s.TypeTerm true)) ts a b
plain_none ts a b vector h n = subst (λ z. NoneAt (E (s.TypeTerm (not z))) ts a b) h n

pub literal_out_operands : (ts : List Lexeme) (at : ℕ) (name : TermRead) (stop : ExprStop) → EndsIn ts → TypedAt ts at name → LiteralAt ts name → RefusedAt (E s.Assigns) ts (name.next + 1) stop → RefusedAt (E s.Cast) ts at stop
literal_out_operands ts at name stop ends m l r = cast_refused_operands ts at m.close stop ends m.begins (vector_read ts (at + 1) m.close name.vector l.vector m.read) (vector_none ts (at + 1) m.close name.vector l.vector m.none) m.closes (subst (λ z. IsAt ts z t.OpenParen) m.behind l.opens) (subst (λ z. RefusedAt (E s.Assigns) ts (z + 1) stop) m.behind r)

pub literal_out_close : (ts : List Lexeme) (at : ℕ) (name : TermRead) (o : Operands) (stop : ExprStop) → EndsIn ts → TypedAt ts at name → LiteralAt ts name → AssignsAt ts (name.next + 1) o → RefusedAt (Mark t.CloseParen) ts o.next stop → RefusedAt (E s.Cast) ts at stop
literal_out_close ts at name o stop ends m l a r = cast_refused_end ts at m.close o.next stop ends m.begins (vector_read ts (at + 1) m.close name.vector l.vector m.read) (vector_none ts (at + 1) m.close name.vector l.vector m.none) m.closes (subst (λ z. IsAt ts z t.OpenParen) m.behind l.opens) (subst (λ z. ReadAt (E s.Assigns) ts (z + 1) o.next) m.behind a.read) r

pub literal_taken : (ts : List Lexeme) (at : ℕ) (name : TermRead) (o : Operands) (place : Place) (args : List Expr) (whole : Taken) → EndsIn ts → TypedAt ts at name → LiteralAt ts name → AssignsAt ts (name.next + 1) o → IsAt ts o.next t.CloseParen → PlaceAt ts at place → args ≡ o.first ∷ o.others.items → IsExpr whole.tree place (node.Vector name.term) args → whole.next ≡ o.next + 1 → TakenAt s.Cast CastTree ts at whole
literal_taken ts at name o place args whole ends m l a c p q i x =
    let v = vector_read ts (at + 1) m.close name.vector l.vector m.read in
    let n = vector_none ts (at + 1) m.close name.vector l.vector m.none in
    let b : IsAt ts (m.close + 1) t.OpenParen = subst (λ z. IsAt ts z t.OpenParen) m.behind l.opens in
    let r : ReadAt (E s.Assigns) ts ((m.close + 1) + 1) o.next = subst (λ z. ReadAt (E s.Assigns) ts (z + 1) o.next) m.behind a.read in
    let f = m.read.read.forth in
    let g = r.read.forth in
    record {
      read = subst (λ z. ReadAt (E s.Cast) ts at z) (sym x) (cast_literal ts at m.close o.next ends m.begins (omega arith) v n m.closes b r c);
      forth = omega arith;
      tree = subst (λ z. CastTree (between ts at z) whole.tree) (sym x) (literal_tree ts at m.close o.next place name.term args whole.tree (omega arith) (omega arith) m.begins.opens v m.tree m.closes b (subst (λ z. AssignTrees (between ts (z + 1) o.next) args) m.behind (listed_of ts (name.next + 1) o args a q)) c p i);
    }

pub cast_out_operand : (ts : List Lexeme) (at : ℕ) (name : TermRead) (stop : ExprStop) → EndsIn ts → TypedAt ts at name → NoLiteralAt ts name → RefusedAt (E s.Cast) ts name.next stop → RefusedAt (E s.Cast) ts at stop
cast_out_operand ts at name stop ends m (plain h) r = cast_refused_plain ts at m.close stop ends m.begins (plain_read ts (at + 1) m.close name.vector h m.read) (plain_none ts (at + 1) m.close name.vector h m.none) m.closes (subst (λ z. RefusedAt (E s.Cast) ts z stop) m.behind r)
cast_out_operand ts at name stop ends m (closed h o) r = cast_refused_vector ts at m.close stop ends m.begins (vector_read ts (at + 1) m.close name.vector h m.read) (vector_none ts (at + 1) m.close name.vector h m.none) m.closes (subst (λ z. OtherAt ts z t.OpenParen) m.behind o) (subst (λ z. RefusedAt (E s.Cast) ts z stop) m.behind r)

pub cast_taken : (ts : List Lexeme) (at : ℕ) (name : TermRead) (operand whole : Taken) (place : Place) → EndsIn ts → TypedAt ts at name → NoLiteralAt ts name → TakenAt s.Cast CastTree ts name.next operand → PlaceAt ts at place → IsExpr whole.tree place (node.Cast name.term) (operand.tree ∷ []) → whole.next ≡ operand.next → TakenAt s.Cast CastTree ts at whole
cast_taken ts at name operand whole place ends m (plain h) q p i x =
    let r : ReadAt (E s.Cast) ts (m.close + 1) operand.next = subst (λ z. ReadAt (E s.Cast) ts z operand.next) m.behind q.read in
    let u : CastTree (between ts (m.close + 1) operand.next) operand.tree = subst (λ z. CastTree (between ts z operand.next) operand.tree) m.behind q.tree in
    let v = plain_read ts (at + 1) m.close name.vector h m.read in
    let f = m.read.read.forth in
    let g = r.read.forth in
    record {
      read = subst (λ z. ReadAt (E s.Cast) ts at z) (sym x) (cast_plain ts at m.close operand.next ends m.begins (omega arith) v (plain_none ts (at + 1) m.close name.vector h m.none) m.closes r);
      forth = omega arith;
      tree = subst (λ z. CastTree (between ts at z) whole.tree) (sym x) (cast_tree ts at m.close operand.next place name.term operand.tree whole.tree (omega arith) (omega arith) m.begins.opens v m.tree m.closes u p i);
    }
cast_taken ts at name operand whole place ends m (closed h o) q p i x =
    let r : ReadAt (E s.Cast) ts (m.close + 1) operand.next = subst (λ z. ReadAt (E s.Cast) ts z operand.next) m.behind q.read in
    let u : CastTree (between ts (m.close + 1) operand.next) operand.tree = subst (λ z. CastTree (between ts z operand.next) operand.tree) m.behind q.tree in
    let v = vector_read ts (at + 1) m.close name.vector h m.read in
    let n : OtherAt ts (m.close + 1) t.OpenParen = subst (λ z. OtherAt ts z t.OpenParen) m.behind o in
    let f = m.read.read.forth in
    let g : m.close + 1 < operand.next = subst (λ z. z < operand.next) m.behind q.forth in
    record {
      read = subst (λ z. ReadAt (E s.Cast) ts at z) (sym x) (cast_vector ts at m.close operand.next ends m.begins (omega arith) g v (vector_none ts (at + 1) m.close name.vector h m.none) m.closes n r);
      forth = omega arith;
      tree = subst (λ z. CastTree (between ts at z) whole.tree) (sym x) (vector_cast_tree ts at m.close operand.next place name.term operand.tree whole.tree (omega arith) (omega arith) m.begins.opens v m.tree m.closes n u p i);
    }

-- ---- unaries

pub incremented_taken : (ts : List Lexeme) (at : ℕ) (k : Terminal) (op : UnOp) (operand whole : Taken) → EndsIn ts → IsAt ts at k → increment_before k ≡ Some op → TakenAt s.Unary UnaryTree ts (at + 1) operand → PrefixedAt ts at op operand.tree whole.tree → whole.next ≡ operand.next → TakenAt s.Unary UnaryTree ts at whole
incremented_taken ts at k op operand whole ends c o m p x = record {
  read = subst (λ z. ReadAt (E s.Unary) ts at z) (sym x) (unary_of s.Unary ts at operand.next (unary_incremented ts at k op ends c o) m.read refl);
  forth = let f = m.forth in omega arith;
  tree = subst (λ z. UnaryTree (between ts at z) whole.tree) (sym x) (incremented_tree ts at operand.next k op operand.tree whole.tree (let f = m.forth in omega arith) c o m.tree p);
}

pub prefixed_taken : (ts : List Lexeme) (at : ℕ) (k : Terminal) (op : UnOp) (operand whole : Taken) → EndsIn ts → IsAt ts at k → prefix_of k ≡ Some op → TakenAt s.Cast CastTree ts (at + 1) operand → PrefixedAt ts at op operand.tree whole.tree → whole.next ≡ operand.next → TakenAt s.Unary UnaryTree ts at whole
prefixed_taken ts at k op operand whole ends c o m p x = record {
  read = subst (λ z. ReadAt (E s.Unary) ts at z) (sym x) (unary_of s.Cast ts at operand.next (unary_prefixed ts at k op ends c o) m.read refl);
  forth = let f = m.forth in omega arith;
  tree = subst (λ z. UnaryTree (between ts at z) whole.tree) (sym x) (prefixed_tree ts at operand.next k op operand.tree whole.tree (let f = m.forth in omega arith) c o m.tree p);
}

pub postfix_taken : (ts : List Lexeme) (at : ℕ) (k : Terminal) (whole : Taken) → IsAt ts at k → increment_before k ≡ None → prefix_of k ≡ None → OtherAt ts at t.Sizeof → TakenAt s.Postfix PostfixTree ts at whole → TakenAt s.Unary UnaryTree ts at whole
postfix_taken ts at k whole c a b o m = record { read = unary_of_postfix ts at whole.next k c a b o m.read; forth = m.forth; tree = e.only_postfix (between ts at whole.next) whole.tree m.tree }

pub sized_taken : (ts : List Lexeme) (at : ℕ) (operand whole : Taken) → EndsIn ts → IsAt ts at t.Sizeof → BeginsUntyped ts (at + 1) → TakenAt s.Unary UnaryTree ts (at + 1) operand → PrefixedAt ts at un.Sizeof operand.tree whole.tree → whole.next ≡ operand.next → TakenAt s.Unary UnaryTree ts at whole
sized_taken ts at operand whole ends c b m p x = record {
  read = subst (λ z. ReadAt (E s.Unary) ts at z) (sym x) (sized_of_unary ts at operand.next ends c b m.forth m.read);
  forth = let f = m.forth in omega arith;
  tree = subst (λ z. UnaryTree (between ts at z) whole.tree) (sym x) (sized_tree ts at operand.next operand.tree whole.tree (let f = m.forth in omega arith) c m.tree p);
}

two : (at : ℕ) → at + 2 ≡ (at + 1) + 1
two at = omega arith

pub sized_out_words : (ts : List Lexeme) (at : ℕ) (stop : ExprStop) → EndsIn ts → IsAt ts at t.Sizeof → BeginsTyped ts (at + 1) → TypeOut s.Spec ts (at + 2) stop → RefusedAt (E s.Unary) ts at stop
sized_out_words ts at stop ends c b o =
    let o2 : TypeOut s.Spec ts ((at + 1) + 1) stop = subst (λ z. TypeOut s.Spec ts z stop) (two at) o in
    let h = b.stands.stands.within in
    sized_refused_type ts at stop ends c b (term_refused ts ((at + 1) + 1) stop h o2.out o2.barred) (term_barred ts ((at + 1) + 1) stop h o2.barred)

sized_words : (ts : List Lexeme) (at : ℕ) (words : SpecRead) → SpecAt ts (at + 2) words → SpecAt ts ((at + 1) + 1) words
sized_words ts at words m = subst (λ z. SpecAt ts z words) (two at) m

pub sized_out_type : (ts : List Lexeme) (at : ℕ) (words : SpecRead) (stop : ExprStop) → EndsIn ts → IsAt ts at t.Sizeof → BeginsTyped ts (at + 1) → SpecAt ts (at + 2) words → Unclosed ts words stop → RefusedAt (E s.Unary) ts at stop
sized_out_type ts at words stop ends c b m (no_memory h) = no_memory_out (E s.Unary) ts at stop h
sized_out_type ts at words stop ends c b m (unclosed name f r) =
    let m2 = sized_words ts at words m in
    let n : TermReads name.vector ts ((at + 1) + 1) name.next = term_reads ts ((at + 1) + 1) words name b.stands.stands.within m2.read m2.none f in
    sized_refused_close name.vector ts at name.next stop ends c b n.read n.none r

pub sized_type_taken : (ts : List Lexeme) (at : ℕ) (words : SpecRead) (name : TermRead) (place : Place) (whole : Taken) → EndsIn ts → IsAt ts at t.Sizeof → BeginsTyped ts (at + 1) → SpecAt ts (at + 2) words → ClosedFrom ts words name → PlaceAt ts at place → IsExpr whole.tree place (node.SizeofType name.term) [] → whole.next ≡ name.next → TakenAt s.Unary UnaryTree ts at whole
sized_type_taken ts at words name place whole ends c b m f p i x =
    let y : TypedAt ts (at + 1) name = typed_at ts (at + 1) words name b (sized_words ts at words m) f in
    let g = y.read.read.forth in
    let z2 : whole.next ≡ y.close + 1 = x ∙ y.behind in
    record {
      read = subst (λ z. ReadAt (E s.Unary) ts at z) (sym z2) (sized_of_type name.vector ts at y.close ends c b y.read y.none y.closes);
      forth = omega arith;
      tree = subst (λ z. UnaryTree (between ts at z) whole.tree) (sym z2) (sized_type_tree ts at y.close place name.term whole.tree g c b.opens y.tree y.closes p i);
    }

-- ---- primaries

pub brackets_taken : (ts : List Lexeme) (at : ℕ) (o : Operands) (whole : Taken) → EndsIn ts → IsAt ts at t.OpenParen → AssignsAt ts (at + 1) o → WholeOf ts o whole.tree → IsAt ts o.next t.CloseParen → whole.next ≡ o.next + 1 → TakenAt s.Primary PrimaryTree ts at whole
brackets_taken ts at o whole ends b m w c x = record {
  read = subst (λ z. ReadAt (E s.Primary) ts at z) (sym x) (primary_brackets ts at o.next ends b m.read c);
  forth = let f = m.forth in omega arith;
  tree = subst (λ z. PrimaryTree (between ts at z) whole.tree) (sym x) (brackets_tree ts at o.next whole.tree (let f = m.forth in omega arith) b (whole_tree ts (at + 1) o whole.tree m.tree w) c);
}

pub call_taken : (ts : List Lexeme) (at : ℕ) (o : Operands) (place : Place) (text : List ℕ) (args : List Expr) (whole : Taken) → EndsIn ts → CallAt ts at → AssignsAt ts (at + 2) o → IsAt ts o.next t.CloseParen → PlaceAt ts at place → TextAt ts at text → args ≡ o.first ∷ o.others.items → IsExpr whole.tree place (node.Call text) args → whole.next ≡ o.next + 1 → TakenAt s.Primary PrimaryTree ts at whole
call_taken ts at o place text args whole ends k m c p q h i x = record {
  read = subst (λ z. ReadAt (E s.Primary) ts at z) (sym x) (primary_call ts at o.next ends k m.read c);
  forth = let f = m.forth in omega arith;
  tree = subst (λ z. PrimaryTree (between ts at z) whole.tree) (sym x) (call_tree ts at o.next place text args whole.tree (let f = m.forth in omega arith) k (listed_of ts (at + 2) o args m h) c p q i);
}

-- ---- the words of a type

pub spec_taken : (ts : List Lexeme) (at here : ℕ) (before : List Qual) (b : BaseRead) (words : SpecRead) → at < length ts → ReadAt (E s.Qualifiers) ts at here → Qualified qualifier_of ts at here [] before → BaseAt ts here b → QualifiedFrom ts before b words → SpecAt ts at words
spec_taken ts at here before b words h r q m f =
    let g = r.read.forth in
    let k = m.forth in
    let l = f.read.read.forth in
    record {
      read = subst (λ z. ReadAt (E (s.Spec z)) ts at words.next) (sym f.vector) (spec_read b.vector ts at here b.next words.next h r m.read f.read);
      none = subst (λ z. NoneAt (E (s.Spec (not z))) ts at words.next) (sym f.vector) (spec_none (not b.vector) ts at here b.next words.next h r m.none f.read);
      forth = omega arith;
      tree = subst (λ z. SpecTree z words.spec) (ap (λ z. between ts at here ++ z) (between_join ts here b.next words.next (omega arith) l) ∙ between_join ts at here words.next g (omega arith))
          (e.spec (between ts at here) (between ts here b.next) (between ts b.next words.next) before f.added.added b.base words.spec
          (subst (λ z. Qualify qualifier_of (between ts at here) z) (sym q.is) q.words) m.tree f.added.words (subst (λ z. IsSpec words.spec z b.base) f.added.is f.is));
    }

pub spec_out : (ts : List Lexeme) (at here : ℕ) (stop : ExprStop) → at < length ts → ReadAt (E s.Qualifiers) ts at here → TypeOut s.Base ts here stop → TypeOut s.Spec ts at stop
spec_out ts at here stop h r o = record { barred = spec_barred ts at here stop h r o.barred; out = spec_refused ts at here stop h r o.out }

-- ---- a vector's operands

pub literal_or_not : (ts : List Lexeme) (name : TermRead) (b : Bool) → name.vector ≡ true → MatchBool b (IsAt ts name.next t.OpenParen) (OtherAt ts name.next t.OpenParen) → MatchBool b (LiteralAt ts name) (NoLiteralAt ts name)
literal_or_not ts name true h o = record { vector = h; opens = o }
literal_or_not ts name false h o = closed h o

pub typed_within : (ts : List Lexeme) (at : ℕ) (name : TermRead) → EndsIn ts → TypedAt ts at name → name.next < length ts
typed_within ts at name ends m = subst (λ z. z < length ts) (sym m.behind) (more_tokens ts m.close t.CloseParen ends m.closes refl)

pub typed_forth : (ts : List Lexeme) (at : ℕ) (name : TermRead) → TypedAt ts at name → at < name.next
typed_forth ts at name m = let f = m.read.read.forth in let g = m.behind in omega (arith, f, g)

pub incremented_out : (ts : List Lexeme) (at : ℕ) (k : Terminal) (op : UnOp) (stop : ExprStop) → EndsIn ts → IsAt ts at k → increment_before k ≡ Some op → RefusedAt (E s.Unary) ts (at + 1) stop → RefusedAt (E s.Unary) ts at stop
incremented_out ts at k op stop ends c o r = stops_in (E s.Unary) s.Unary [] ts at (at + 1) stop (unary_incremented ts at k op ends c o) r refl refl

pub prefixed_out : (ts : List Lexeme) (at : ℕ) (k : Terminal) (op : UnOp) (stop : ExprStop) → EndsIn ts → IsAt ts at k → prefix_of k ≡ Some op → RefusedAt (E s.Cast) ts (at + 1) stop → RefusedAt (E s.Unary) ts at stop
prefixed_out ts at k op stop ends c o r = stops_in (E s.Unary) s.Cast [] ts at (at + 1) stop (unary_prefixed ts at k op ends c o) r refl refl
