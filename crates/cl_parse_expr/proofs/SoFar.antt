-- What the loops of the parser's expressions have read so far.
use Rattle.std.proofs.Common.{◌≡◌, ℕ, ◌+◌, ◌<◌, List, [], ◌∷◌, ◌++◌, length, refl, sym, ap, ◌∙◌, subst, arith}
use Rattle.std.specs.Prelude.{Some, None}
use Rattle.cl_types.specs.declared.operator.BinOp.{BinOp}
use Rattle.cl_ast.specs.declared.expression.Expr.{Expr}
use Rattle.cl_grammar.specs.declared.lexeme.Lexeme.{Lexeme}
use Rattle.cl_grammar.specs.declared.operator.Operator.{Operator}
use Rattle.cl_grammar.specs.declared.terminal.Terminal.{Terminal}
use Rattle.cl_grammar.specs.declared.terminal.Terminal.TheVariants as t
use Rattle.cl_grammar.specs.declared.stop.ExprStop.{ExprStop}
use Rattle.cl_grammar.specs.Terminals.{binary_of}
use Rattle.cl_grammar.specs.ExpressionTrees.{Joins, level_at, AssignTree, CastTree, PrimaryTree, PostfixTree, RowTrees}
use Rattle.cl_grammar.specs.Symbols as s
use Rattle.cl_grammar.specs.Symbols.{E, Mark}
use Rattle.cl_grammar.specs.Items.{between, EndsIn, IsAt, OtherAt, GoesOn, ReadAt, RefusedAt}
use Rattle.cl_precedence.specs.Grouping.{Groups, viewed}
use Rattle.cl_precedence.proofs.Unique.{seen}
use Rattle.cl_parse_expr.specs.declared.expression.Operands.{Operands}
use Rattle.cl_parse_expr.specs.declared.expression.Taken.{Taken}
use Rattle.cl_parse_expr.specs.declared.grouping.Group.{Group}
use Rattle.cl_parse_expr.specs.declared.parts.Row.{Row}
use Rattle.cl_parse_expr.specs.Reading.{GroupJoins, group_of, OperandsAt, one, TakenAt, AssignsAt, BehindAt, BinFrom, JoinedAt, ElementAt, SuffixFrom, NoSuffixAt}
use Rattle.cl_parse_expr.proofs.Readings.{operands_read, operands_more, operands_refused_more, operands_done, row_first, row_more, row_refused, row_done, postfix_primary, postfix_indexed, postfix_suffixed, postfix_done, postfix_refused_index, postfix_refused_bracket, postfix_refused_suffix}
use Rattle.cl_parse_expr.proofs.Trees.{operands_step, row_start_tree, row_more_tree, row_done_tree, whole_tree, PostfixSoFar, postfix_start_tree, postfix_more_tree, postfix_done_tree, index_tree}

-- ---- operands

pub record OperandsSoFar (ts : List Lexeme) (at : ℕ) (o : Operands) : Type 0 where
  pub read : GoesOn (E s.Assigns) (E s.MoreAssigns ∷ []) ts at o.next
  pub forth : at < o.next
  pub trees : OperandsAt ts at o

pub operands_begin : (ts : List Lexeme) (at : ℕ) (first : Taken) (o : Operands) → at < length ts → TakenAt s.Assign AssignTree ts at first → o.first ≡ first.tree → o.comma ≡ first.next → o.others.items ≡ [] → o.next ≡ first.next → OperandsSoFar ts at o
operands_begin ts at first o h m e c n x = record {
  read = subst (λ z. GoesOn (E s.Assigns) (E s.MoreAssigns ∷ []) ts at z) (sym x) (operands_read ts at first.next h m.read);
  forth = let f = m.forth in omega arith;
  trees = one n (c ∙ sym x) (subst (λ z. AssignTree (between ts at z) o.first) (sym x) (subst (λ z. AssignTree (between ts at first.next) z) (sym e) m.tree));
}

pub operands_go_on : (ts : List Lexeme) (at : ℕ) (o : Operands) (other : Taken) (more : Operands) → EndsIn ts → OperandsSoFar ts at o → IsAt ts o.next t.Comma → TakenAt s.Assign AssignTree ts (o.next + 1) other → more.first ≡ o.first → more.comma ≡ o.comma → more.others.items ≡ o.others.items ++ other.tree ∷ [] → more.next ≡ other.next → OperandsSoFar ts at more
operands_go_on ts at o other more ends i k m e c n x = record {
  read = subst (λ z. GoesOn (E s.Assigns) (E s.MoreAssigns ∷ []) ts at z) (sym x) (operands_more ts at o.next other.next ends i.read k m.read);
  forth = let f = m.forth in let g = i.forth in omega arith;
  trees =
      let made : OperandsAt ts at (record { first = o.first; comma = o.comma; others = more.others; next = other.next }) = operands_step ts at o.next other.next o other.tree more.others refl (let f = m.forth in omega arith) k m.tree n (let g = i.forth in omega arith) i.trees in
      subst (λ z. OperandsAt ts at (record { first = z; comma = more.comma; others = more.others; next = more.next })) (sym e)
      (subst (λ z. OperandsAt ts at (record { first = o.first; comma = z; others = more.others; next = more.next })) (sym c)
      (subst (λ z. OperandsAt ts at (record { first = o.first; comma = o.comma; others = more.others; next = z })) (sym x) made));
}

pub operands_refused_next : (ts : List Lexeme) (at : ℕ) (o : Operands) (stop : ExprStop) → EndsIn ts → OperandsSoFar ts at o → IsAt ts o.next t.Comma → RefusedAt (E s.Assign) ts (o.next + 1) stop → RefusedAt (E s.Assigns) ts at stop
operands_refused_next ts at o stop ends i k r = operands_refused_more ts at o.next stop ends i.read k r

pub operands_end : (ts : List Lexeme) (at : ℕ) (o : Operands) → OperandsSoFar ts at o → OtherAt ts o.next t.Comma → AssignsAt ts at o
operands_end ts at o i k = record { read = operands_done ts at o.next i.read k; forth = i.forth; tree = i.trees }

-- ---- a row

abbrev pub tree_of : Group → Expr
tree_of g = g.tree

pub record RowSoFar (ts : List Lexeme) (first : Taken) (row : Row) : Type 0 where
  pub read : GoesOn (E s.Row) (E s.Row ∷ []) ts first.next row.next
  pub begins : row.first.tree ≡ first.tree
  pub trees : RowTrees (between ts first.next row.next) (viewed tree_of row.rest.items)

viewed_more : (rest : List (Operator × Group)) (o : Operator) (g : Group) → viewed tree_of (rest ++ (o, g) ∷ []) ≡ viewed tree_of rest ++ (o, g.tree) ∷ []
viewed_more [] o g = refl
viewed_more (x ∷ xs) o g = ap (λ z. (x.0, tree_of x.1) ∷ z) (viewed_more xs o g)

pub row_begins : (ts : List Lexeme) (first : Taken) (row : Row) → first.next < length ts → row.first.tree ≡ first.tree → row.rest.items ≡ [] → row.next ≡ first.next → RowSoFar ts first row
row_begins ts first row h b e x = record {
  read = subst (λ z. GoesOn (E s.Row) (E s.Row ∷ []) ts first.next z) (sym x) (row_first ts first.next h);
  begins = b;
  trees = subst (λ z. RowTrees (between ts first.next row.next) (viewed tree_of z)) (sym e) (subst (λ z. RowTrees (between ts first.next z) []) (sym x) (row_start_tree ts first.next));
}

pub row_goes_on : (ts : List Lexeme) (first : Taken) (row : Row) (k : Terminal) (op : BinOp) (operand : Taken) (more : Row) → EndsIn ts → RowSoFar ts first row → IsAt ts row.next k → binary_of k ≡ Some op → TakenAt s.Cast CastTree ts (row.next + 1) operand → more.first ≡ row.first → JoinedAt ts row.next op operand.tree row.rest.items more.rest.items → more.next ≡ operand.next → RowSoFar ts first more
row_goes_on ts first row k op operand more ends i c o m b j x = record {
  read = subst (λ z. GoesOn (E s.Row) (E s.Row ∷ []) ts first.next z) (sym x) (row_more ts first.next row.next operand.next k op ends i.read c o m.read);
  begins = ap (λ z. z.tree) b ∙ i.begins;
  trees = subst (λ z. RowTrees (between ts first.next z) (viewed tree_of more.rest.items)) (sym x)
      (subst (λ z. RowTrees (between ts first.next operand.next) z) (sym (ap (viewed tree_of) j.is ∙ viewed_more row.rest.items (record { op = op; place = j.place }) (group_of operand.tree)))
      (row_more_tree ts first.next row.next operand.next k op j.place (viewed tree_of row.rest.items) operand.tree i.read.forth (let f = m.forth in omega arith) i.trees c o j.stands m.tree));
}

pub row_refused_next : (ts : List Lexeme) (first : Taken) (row : Row) (k : Terminal) (op : BinOp) (stop : ExprStop) → EndsIn ts → RowSoFar ts first row → IsAt ts row.next k → binary_of k ≡ Some op → RefusedAt (E s.Cast) ts (row.next + 1) stop → RefusedAt (E s.Row) ts first.next stop
row_refused_next ts first row k op stop ends i c o r = row_refused ts first.next row.next k op stop ends i.read c o r

joins_seen : (op : Operator) (left right tree : Group) → GroupJoins op left right tree → Joins op (tree_of left) (tree_of right) (tree_of tree)
joins_seen op left right tree j = j

pub row_end : (ts : List Lexeme) (first : Taken) (row : Row) (k : Terminal) (whole : Taken) → RowSoFar ts first row → IsAt ts row.next k → binary_of k ≡ None → Groups level_at GroupJoins row.first row.rest.items (group_of whole.tree) → whole.next ≡ row.next → BehindAt s.Row BinFrom ts first whole
row_end ts first row k whole i c o g x = record {
  read = subst (λ z. ReadAt (E s.Row) ts first.next z) (sym x) (row_done ts first.next row.next k i.read c o);
  tree = subst (λ z. BinFrom ts first.next z first.tree whole.tree) (sym x) (subst (λ z. BinFrom ts first.next row.next z whole.tree) i.begins (row_done_tree ts first.next row.next row.first.tree whole.tree (viewed tree_of row.rest.items) i.trees (seen level_at GroupJoins Joins tree_of joins_seen row.first row.rest.items (group_of whole.tree) g)));
}

-- ---- suffixes

pub record SuffixesSoFar (ts : List Lexeme) (at : ℕ) (operand : Taken) : Type 0 where
  pub read : GoesOn (E s.Postfix) (E s.Suffixes ∷ []) ts at operand.next
  pub forth : at < operand.next
  pub trees : PostfixSoFar ts at operand.next operand.tree

pub suffixes_begin : (ts : List Lexeme) (at : ℕ) (operand : Taken) → at < length ts → TakenAt s.Primary PrimaryTree ts at operand → SuffixesSoFar ts at operand
suffixes_begin ts at operand h m = record { read = postfix_primary ts at operand.next h m.read; forth = m.forth; trees = postfix_start_tree ts at operand.next operand.tree (let f = m.forth in omega arith) m.tree }

pub suffixes_index : (ts : List Lexeme) (at : ℕ) (operand : Taken) (o : Operands) (more : Taken) → EndsIn ts → SuffixesSoFar ts at operand → IsAt ts operand.next t.OpenBracket → AssignsAt ts (operand.next + 1) o → ElementAt ts operand o more → SuffixesSoFar ts at more
suffixes_index ts at operand o more ends i b m j = record {
  read = subst (λ z. GoesOn (E s.Postfix) (E s.Suffixes ∷ []) ts at z) (sym j.behind) (postfix_indexed ts at operand.next o.next ends i.read b m.read j.closes);
  forth = let f = i.forth in let g = m.forth in let x = j.behind in omega arith;
  trees = subst (λ z. PostfixSoFar ts at z more.tree) (sym j.behind) (postfix_more_tree ts at operand.next (o.next + 1) operand.tree more.tree (let g = m.forth in omega arith) i.trees (index_tree ts operand.next o.next operand.tree j.index more.tree (let g = m.forth in omega arith) b (whole_tree ts (operand.next + 1) o j.index m.tree j.inside) j.closes j.is));
}

pub suffixes_refused_index : (ts : List Lexeme) (at : ℕ) (operand : Taken) (stop : ExprStop) → EndsIn ts → SuffixesSoFar ts at operand → IsAt ts operand.next t.OpenBracket → RefusedAt (E s.Assigns) ts (operand.next + 1) stop → RefusedAt (E s.Postfix) ts at stop
suffixes_refused_index ts at operand stop ends i b r = postfix_refused_index ts at operand.next stop ends i.read b r

pub suffixes_refused_bracket : (ts : List Lexeme) (at : ℕ) (operand : Taken) (o : Operands) (stop : ExprStop) → EndsIn ts → SuffixesSoFar ts at operand → IsAt ts operand.next t.OpenBracket → AssignsAt ts (operand.next + 1) o → RefusedAt (Mark t.CloseBracket) ts o.next stop → RefusedAt (E s.Postfix) ts at stop
suffixes_refused_bracket ts at operand o stop ends i b m r = postfix_refused_bracket ts at operand.next o.next stop ends i.read b m.read r

pub suffixes_go_on : (ts : List Lexeme) (at : ℕ) (operand more : Taken) → SuffixesSoFar ts at operand → operand.next < more.next → GoesOn (E s.Suffixes) (E s.Suffixes ∷ []) ts operand.next more.next → SuffixFrom ts operand.next more.next operand.tree more.tree → SuffixesSoFar ts at more
suffixes_go_on ts at operand more i f r m = record {
  read = postfix_suffixed ts at operand.next more.next i.read r;
  forth = let g = i.forth in omega arith;
  trees = postfix_more_tree ts at operand.next more.next operand.tree more.tree (omega arith) i.trees m;
}

pub suffixes_refused : (ts : List Lexeme) (at : ℕ) (operand : Taken) (stop : ExprStop) → SuffixesSoFar ts at operand → RefusedAt (E s.Suffixes) ts operand.next stop → RefusedAt (E s.Postfix) ts at stop
suffixes_refused ts at operand stop i r = postfix_refused_suffix ts at operand.next stop i.read r

pub suffixes_end : (ts : List Lexeme) (at : ℕ) (operand : Taken) → SuffixesSoFar ts at operand → NoSuffixAt ts operand.next → TakenAt s.Postfix PostfixTree ts at operand
suffixes_end ts at operand i n = record { read = postfix_done ts at operand.next i.read n; forth = i.forth; tree = postfix_done_tree ts at operand.next operand.tree i.trees }
