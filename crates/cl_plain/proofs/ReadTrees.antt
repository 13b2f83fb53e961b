-- Each tree of an expression or a type is what the reader reads.
use Rattle.std.proofs.Common.{◌≡◌, true, false, List, [], ◌∷◌, ◌++◌, map, Option, Some, None, ap, append_assoc}
use Rattle.cl_types.specs.declared.operator.UnOp.TheVariants as un
use Rattle.cl_ast.specs.declared.expression.Expr.{Expr}
use Rattle.cl_ast.specs.declared.expression.ExprNode.TheVariants as node
use Rattle.cl_ast.specs.declared.expression.TypeTerm.{TypeTerm}
use Rattle.cl_ast.specs.declared.expression.Spec.{Spec}
use Rattle.cl_ast.specs.declared.expression.Base.{Base}
use Rattle.cl_ast.specs.declared.expression.Field.{Field}
use Rattle.cl_ast.specs.declared.expression.Declor.{Declor}
use Rattle.cl_grammar.specs.declared.lexeme.Lexeme.{Lexeme}
use Rattle.cl_grammar.specs.declared.operator.Operator.{Operator}
use Rattle.cl_grammar.specs.Terminals.{qualifier_of}
use Rattle.cl_grammar.specs.Expressions.{is_open}
use Rattle.cl_grammar.specs.ExpressionTrees
use Rattle.cl_grammar.specs.ExpressionTrees.{SpecTree, BaseTree, MemberTrees, DeclorTrees, DeclorTree, LengthTrees, TypeTermTree, ExprTree, AssignTrees, AssignTree, CondTree, BinTree, RowTrees, CastTree, UnaryTree, PostfixTree, SuffixTrees, PrimaryTree}
use Rattle.cl_precedence.specs.Grouping.{viewed}
use Rattle.cl_plain.specs.Plain.{Plain, in_option, plain_expr, plain_spec, plain_base, plain_term, plain_field, plain_declor}
use Rattle.cl_plain.proofs.PlainParts.{term_of, spec_of, field_of, declor_of, name_node, number_node, unary_node, assign_node, cond_node, cast_node, vector_node, call_node, index_node, member_node, size_of_type_node, comma_node}
use Rattle.cl_plain.proofs.Reading.{first_is, is_end, is_close, is_spec_end, is_star_end, is_declor_end, begins_type}
use Rattle.cl_plain.proofs.ReadMarks.{first_more, is_close_paren, is_close_brace, is_semicolon, is_question, begins_base, begins_expr, begins_primary, ends_row, ends_operand, assignment_ends, row_behind, no_binary, no_question, no_suffix_behind, end_behind, no_comma, no_qualifier, no_bracket, no_qualifier_before, no_member, no_close_paren, no_close_bracket}
use Rattle.cl_plain.proofs.Readers.{base_step, choice_by}
use Rattle.cl_plain.proofs.ReadGroups.{grouped, groups_plain}
use Rattle.cl_plain.proofs.ReadWords.{quals_are, star_is, term_tells}
use Rattle.cl_plain.proofs.ReadBegins.{base_begins, term_first, members_first, cast_first, cond_first, args_first, primary_begins, unary_opens, row_first, row_assigns_not, suffixes_open_not}
use Rattle.cl_plain.proofs.ReadDown.{Got, as_said}
use Rattle.cl_plain.proofs.ReadSaid.{node_said, word_said, integer_said, tag_said, struct_said, BaseEnd, base_end, star_first, declors_first, declor_behind, no_declor, open_not}
use Rattle.cl_plain.proofs.ReadCases

choice_said : (a : Plain) (b : Plain) (r : List Lexeme) (y : Plain × List Lexeme) → a ≡ b → Got (λ R. choice_by R (first_is is_question r) a r) y → Got (λ R. choice_by R (first_is is_question r) b r) y
choice_said a b r y e h = rw (← e) h

mutual
  pub spec_got : (u : List Lexeme) (s : Spec) → SpecTree u s → (r : List Lexeme) → first_is is_spec_end r ≡ true → Got (λ R. R.spec (u ++ r)) (plain_spec s, r)
  spec_got _ _ (ExpressionTrees.SpecTree.spec u v w before behind b s h0 h1 h2 h3) r k =
      rw (append_assoc u (v ++ w) r) (rw (append_assoc v w r) (as_said (spec_of s (before ++ behind) b h3.has h3.is)
      (ReadCases.spec_case (u ++ (v ++ (w ++ r))) (v ++ (w ++ r)) (w ++ r) r before behind (plain_base b)
      (quals_are qualifier_of u before (v ++ (w ++ r)) h0 (no_qualifier_before (v ++ (w ++ r)) (first_more begins_base v (w ++ r) (base_begins v b h1))))
      (base_got v b h1 (w ++ r) (base_end w behind r h2 k)) (quals_are qualifier_of w behind r h2 (no_qualifier r k)))))

  pub base_got : (u : List Lexeme) (b : Base) → BaseTree u b → (r : List Lexeme) → BaseEnd r → Got (λ R. base_step R (u ++ r)) (plain_base b, r)
  base_got _ _ (ExpressionTrees.BaseTree.type_word w b h) r k = as_said (word_said w b w.terminal h) (ReadCases.word_case w b r h)
  base_got _ _ (ExpressionTrees.BaseTree.integer u b h) r k = as_said (integer_said u b h) (ReadCases.integer_case u b r h k.int k.width)
  base_got _ _ (ExpressionTrees.BaseTree.struct_name s n b h0 h1 h2) r k = as_said (tag_said b (Some n.text) n.place h2) (ReadCases.struct_name_case s n r h0 h1 k.brace)
  base_got _ _ (ExpressionTrees.BaseTree.named_struct s n o c u fields b h0 h1 h2 h3 h4 h5) r k =
      rw (append_assoc u (c ∷ []) r) (as_said (struct_said b (Some n.text) n.place fields h5)
      (ReadCases.named_struct_case s n o c (u ++ c ∷ r) r (map plain_field fields) h0 h1 h2 (members_got u fields h3 (c ∷ r) (ap is_close_brace h4)) h4))
  base_got _ _ (ExpressionTrees.BaseTree.struct s o c u fields b h0 h1 h2 h3 h4) r k =
      rw (append_assoc u (c ∷ []) r) (as_said (struct_said b None s.place fields h4)
      (ReadCases.struct_case s o c (u ++ c ∷ r) r (map plain_field fields) h0 h1 (members_got u fields h2 (c ∷ r) (ap is_close_brace h3)) h3))

  pub members_got : (u : List Lexeme) (fs : List Field) → MemberTrees u fs → (r : List Lexeme) → first_is is_close_brace r ≡ true → Got (λ R. R.members (u ++ r)) (map plain_field fs, r)
  members_got _ _ (ExpressionTrees.MemberTrees.last_member s u v sp names f h0 h1 h2 h3) r k =
      rw (append_assoc u (v ++ s ∷ []) r) (rw (append_assoc v (s ∷ []) r) (as_said (ap (λ z. z ∷ []) (field_of f sp names h3.is h3.has))
      (ReadCases.last_member_case s (u ++ (v ++ s ∷ r)) (v ++ s ∷ r) r (plain_spec sp) (map plain_declor names) (spec_got u sp h0 (v ++ s ∷ r) (declors_first v names (s ∷ r) h1))
      (declors_got v names h1 (s ∷ r) (ap is_semicolon h2)) h2 k)))
  members_got _ _ (ExpressionTrees.MemberTrees.more_members s u v w sp names f fs h0 h1 h2 h3 h4) r k =
      rw (append_assoc u (v ++ s ∷ w) r) (rw (append_assoc v (s ∷ w) r) (as_said (ap (λ z. z ∷ map plain_field fs) (field_of f sp names h3.is h3.has))
      (ReadCases.more_members_case s (u ++ (v ++ s ∷ (w ++ r))) (v ++ s ∷ (w ++ r)) (w ++ r) r (plain_spec sp) (map plain_declor names) (map plain_field fs) (spec_got u sp h0 (v ++ s ∷ (w ++ r)) (declors_first v names (s ∷ (w ++ r)) h1))
      (declors_got v names h1 (s ∷ (w ++ r)) (ap is_semicolon h2)) h2 (no_member (w ++ r) (first_more begins_type w r (members_first w fs h4))) (members_got w fs h4 r k))))

  pub declors_got : (u : List Lexeme) (ds : List Declor) → DeclorTrees u ds → (r : List Lexeme) → first_is is_semicolon r ≡ true → Got (λ R. R.declors (u ++ r)) (map plain_declor ds, r)
  declors_got _ _ (ExpressionTrees.DeclorTrees.last_declor u d h) r k = ReadCases.last_declor_case (u ++ r) r (plain_declor d) (declor_got u d h r (declor_behind r k)) (no_declor r k)
  declors_got _ _ (ExpressionTrees.DeclorTrees.more_declors c u v d ds h0 h1 h2) r k =
      rw (append_assoc u (c ∷ v) r) (ReadCases.more_declors_case c (u ++ c ∷ (v ++ r)) (v ++ r) r (plain_declor d) (map plain_declor ds) (declor_got u d h0 (c ∷ (v ++ r)) (ap is_declor_end h1)) h1 (declors_got v ds h2 r k))

  pub declor_got : (u : List Lexeme) (d : Declor) → DeclorTree u d → (r : List Lexeme) → first_is is_declor_end r ≡ true → Got (λ R. R.declor (u ++ r)) (plain_declor d, r)
  declor_got _ _ (ExpressionTrees.DeclorTree.declor n u v star lengths d h0 h1 h2 h3) r k =
      rw (append_assoc u (n ∷ v) r) (as_said (declor_of d star n.text n.place lengths h3.behind h3.is h3.at h3.has)
      (ReadCases.declor_case n (u ++ n ∷ (v ++ r)) (v ++ r) r star (map (in_option plain_expr) lengths) (star_is u star (n ∷ (v ++ r)) h0 (ap is_star_end h1)) h1 (lengths_got v lengths h2 r k)))

  pub lengths_got : (u : List Lexeme) (es : List (Option Expr)) → LengthTrees u es → (r : List Lexeme) → first_is is_declor_end r ≡ true → Got (λ R. R.lengths (u ++ r)) (map (in_option plain_expr) es, r)
  lengths_got _ _ ExpressionTrees.LengthTrees.no_length r k = ReadCases.no_length_case r (no_bracket r k)
  lengths_got _ _ (ExpressionTrees.LengthTrees.missing_length o c v es h0 h1 h2) r k = ReadCases.missing_length_case o c (v ++ r) r (map (in_option plain_expr) es) h0 h1 (lengths_got v es h2 r k)
  lengths_got _ _ (ExpressionTrees.LengthTrees.length_given o c u v e es h0 h1 h2 h3) r k =
      rw (append_assoc u (c ∷ v) r) (ReadCases.length_given_case o c (u ++ c ∷ (v ++ r)) (v ++ r) r (plain_expr e) (map (in_option plain_expr) es) h0
      (no_close_bracket (u ++ c ∷ (v ++ r)) (first_more begins_expr u (c ∷ (v ++ r)) (cond_first u e h1))) (cond_got u e h1 (c ∷ (v ++ r)) (ap is_end h2)).cond h2 (lengths_got v es h3 r k))

  pub term_got : (u : List Lexeme) (ty : TypeTerm) → TypeTermTree u ty → (r : List Lexeme) → first_is is_star_end r ≡ true → Got (λ R. R.term (u ++ r)) (plain_term ty, r)
  term_got _ _ (ExpressionTrees.TypeTermTree.type_term u v sp star ty h0 h1 h2) r k =
      rw (append_assoc u v r) (as_said (term_of ty sp star h2.is h2.has) (ReadCases.term_case (u ++ (v ++ r)) (v ++ r) r (plain_spec sp) star (spec_got u sp h0 (v ++ r) (star_first v star r h1 k)) (star_is v star r h1 k)))

  pub expr_got : (u : List Lexeme) (e : Expr) → ExprTree u e → (r : List Lexeme) → first_is is_close r ≡ true → Got (λ R. R.expr (u ++ r)) (plain_expr e, r)
  expr_got _ _ (ExpressionTrees.ExprTree.only_assign u e h) r k = ReadCases.only_assign_case (u ++ r) r (plain_expr e) (assign_got u e h r (end_behind r k)) (no_comma r k)
  expr_got _ _ (ExpressionTrees.ExprTree.comma c u v a e args h0 h1 h2 h3) r k =
      rw (append_assoc u (c ∷ v) r) (as_said (node_said e c.place node.Comma (a ∷ args) _ h3 comma_node)
      (ReadCases.comma_case c (u ++ c ∷ (v ++ r)) (v ++ r) r (plain_expr a) (map plain_expr args) (assign_got u a h0 (c ∷ (v ++ r)) (ap is_end h1)) h1 (args_got v args h2 r k)))

  pub args_got : (u : List Lexeme) (es : List Expr) → AssignTrees u es → (r : List Lexeme) → first_is is_close r ≡ true → Got (λ R. R.args (u ++ r)) (map plain_expr es, r)
  args_got _ _ (ExpressionTrees.AssignTrees.last_assign u e h) r k = ReadCases.last_assign_case (u ++ r) r (plain_expr e) (assign_got u e h r (end_behind r k)) (no_comma r k)
  args_got _ _ (ExpressionTrees.AssignTrees.more_assigns c u v e es h0 h1 h2) r k =
      rw (append_assoc u (c ∷ v) r) (ReadCases.more_assigns_case c (u ++ c ∷ (v ++ r)) (v ++ r) r (plain_expr e) (map plain_expr es) (assign_got u e h0 (c ∷ (v ++ r)) (ap is_end h1)) h1 (args_got v es h2 r k))

  pub assign_got : (u : List Lexeme) (e : Expr) → AssignTree u e → (r : List Lexeme) → first_is is_end r ≡ true → Got (λ R. R.assign (u ++ r)) (plain_expr e, r)
  assign_got _ _ (ExpressionTrees.AssignTree.only_cond u e h) r k = (cond_got u e h r k).assign
  assign_got _ _ (ExpressionTrees.AssignTree.assigned o op u v a b e h0 h1 h2 h3) r k =
      rw (append_assoc u (o ∷ v) r) (as_said (node_said e o.place (node.Assign op) (a ∷ b ∷ []) _ h3 (assign_node op))
      (ReadCases.assigned_case o op (u ++ o ∷ (v ++ r)) (v ++ r) r (plain_expr a) (plain_expr b)
      (ReadCases.only_unary_case (u ++ o ∷ (v ++ r)) (o ∷ (v ++ r)) (plain_expr a) (unary_opens u a (o ∷ (v ++ r)) h0) (unary_got u a h0 (o ∷ (v ++ r)) (assignment_ends op o.terminal h1))) h1 (assign_got v b h2 r k)))

  pub cond_got : (u : List Lexeme) (e : Expr) → CondTree u e → (r : List Lexeme) → first_is is_end r ≡ true → ReadCases.Both (u ++ r) (plain_expr e, r)
  cond_got _ _ (ExpressionTrees.CondTree.only_bin u e h) r k = bin_got u e h r (row_behind r k) (plain_expr e, r) (ReadCases.choice_none (plain_expr e) r (no_question r k))
  cond_got _ _ (ExpressionTrees.CondTree.conditional q c u v w a b d e h0 h1 h2 h3 h4 h5) r k =
      rw (append_assoc u (q ∷ (v ++ c ∷ w)) r) (rw (append_assoc v (c ∷ w) r) (bin_got u a h0 (q ∷ (v ++ c ∷ (w ++ r))) (ap ends_row h1) (plain_expr e, r)
      (as_said (node_said e q.place node.Cond (a ∷ b ∷ d ∷ []) _ h5 cond_node)
      (ReadCases.choice_case q c (v ++ c ∷ (w ++ r)) (w ++ r) r (plain_expr a) (plain_expr b) (plain_expr d) h1 (assign_got v b h2 (c ∷ (w ++ r)) (ap is_end h3)) h3 (cond_got w d h4 r k).cond))))

  pub bin_got : (u : List Lexeme) (e : Expr) → BinTree u e → (r : List Lexeme) → first_is ends_row r ≡ true → (y : Plain × List Lexeme) → Got (λ R. choice_by R (first_is is_question r) (plain_expr e) r) y → ReadCases.Both (u ++ r) y
  bin_got _ _ (ExpressionTrees.BinTree.bin u v a e row h0 h1 h2) r k y x =
      rw (append_assoc u v r) (ReadCases.bin_case (u ++ (v ++ r)) (v ++ r) r (plain_expr a) (viewed plain_expr row) y (cast_got u a h0 (v ++ r) (row_first v row r h1 k)) (row_assigns_not v row r h1 k) (row_got v row h1 r k)
      (choice_said (plain_expr e) (grouped (plain_expr a) (viewed plain_expr row)) r y (groups_plain a row e h2) x))

  pub row_got : (u : List Lexeme) (row : List (Operator × Expr)) → RowTrees u row → (r : List Lexeme) → first_is ends_row r ≡ true → Got (λ R. R.row (u ++ r)) (viewed plain_expr row, r)
  row_got _ _ ExpressionTrees.RowTrees.row_ends r k = ReadCases.row_ends_case r (no_binary r k)
  row_got _ _ (ExpressionTrees.RowTrees.row_goes_on o op u v e row h0 h1 h2) r k =
      rw (append_assoc u v r) (ReadCases.row_goes_case o op (u ++ (v ++ r)) (v ++ r) r (plain_expr e) (viewed plain_expr row) h0 (cast_got u e h1 (v ++ r) (row_first v row r h2 k)) (row_got v row h2 r k))

  pub cast_got : (u : List Lexeme) (e : Expr) → CastTree u e → (r : List Lexeme) → first_is ends_operand r ≡ true → Got (λ R. R.cast (u ++ r)) (plain_expr e, r)
  cast_got _ _ (ExpressionTrees.CastTree.only_unary u e h) r k = ReadCases.only_unary_case (u ++ r) r (plain_expr e) (unary_opens u e r h) (unary_got u e h r k)
  cast_got _ _ (ExpressionTrees.CastTree.cast o c u v ty a e h0 h1 h2 h3 h4 h5) r k =
      rw (append_assoc u (c ∷ v) r) (as_said (node_said e o.place (node.Cast ty) (a ∷ []) _ h5 (cast_node ty))
      (ReadCases.cast_case o c (u ++ c ∷ (v ++ r)) (v ++ r) r (plain_term ty) (plain_expr a) h0 (first_more begins_type u (c ∷ (v ++ r)) (term_first u ty h2)) (term_tells false u (c ∷ (v ++ r)) h1 (ap is_close_paren h3))
      (term_got u ty h2 (c ∷ (v ++ r)) (ap is_star_end h3)) h3 (cast_got v a h4 r k)))
  cast_got _ _ (ExpressionTrees.CastTree.vector_cast o c u v ty a e h0 h1 h2 h3 h4 h5 h6) r k =
      rw (append_assoc u (c ∷ v) r) (as_said (node_said e o.place (node.Cast ty) (a ∷ []) _ h6 (cast_node ty))
      (ReadCases.vector_cast_case o c (u ++ c ∷ (v ++ r)) (v ++ r) r (plain_term ty) (plain_expr a) h0 (first_more begins_type u (c ∷ (v ++ r)) (term_first u ty h2)) (term_tells true u (c ∷ (v ++ r)) h1 (ap is_close_paren h3))
      (term_got u ty h2 (c ∷ (v ++ r)) (ap is_star_end h3)) h3 (open_not v r (cast_first v a h4) h5) (cast_got v a h4 r k)))
  cast_got _ _ (ExpressionTrees.CastTree.vector_literal o c p d u v ty args e h0 h1 h2 h3 h4 h5 h6 h7) r k =
      rw (append_assoc u (c ∷ p ∷ (v ++ d ∷ [])) r) (rw (append_assoc v (d ∷ []) r) (as_said (node_said e o.place (node.Vector ty) args _ h7 (vector_node ty))
      (ReadCases.vector_literal_case o c p d (u ++ c ∷ p ∷ (v ++ d ∷ r)) (v ++ d ∷ r) r (plain_term ty) (map plain_expr args) h0 (first_more begins_type u (c ∷ p ∷ (v ++ d ∷ r)) (term_first u ty h2))
      (term_tells true u (c ∷ p ∷ (v ++ d ∷ r)) h1 (ap is_close_paren h3)) (term_got u ty h2 (c ∷ p ∷ (v ++ d ∷ r)) (ap is_star_end h3)) h3 h4 (args_got v args h5 (d ∷ r) (ap is_close h6)) h6)))

  pub unary_got : (u : List Lexeme) (e : Expr) → UnaryTree u e → (r : List Lexeme) → first_is ends_operand r ≡ true → Got (λ R. R.unary (u ++ r)) (plain_expr e, r)
  unary_got _ _ (ExpressionTrees.UnaryTree.only_postfix u e h) r k = postfix_got u e h r k
  unary_got _ _ (ExpressionTrees.UnaryTree.incremented o op u a e h0 h1 h2) r k =
      as_said (node_said e o.place (node.Unary op) (a ∷ []) _ h2 (unary_node op)) (ReadCases.incremented_case o op (u ++ r) r (plain_expr a) h0 (unary_got u a h1 r k))
  unary_got _ _ (ExpressionTrees.UnaryTree.prefixed o op u a e h0 h1 h2) r k =
      as_said (node_said e o.place (node.Unary op) (a ∷ []) _ h2 (unary_node op)) (ReadCases.prefixed_case o op (u ++ r) r (plain_expr a) h0 (cast_got u a h1 r k))
  unary_got _ _ (ExpressionTrees.UnaryTree.size_of s u a e h0 h1 h2) r k =
      as_said (node_said e s.place (node.Unary un.Sizeof) (a ∷ []) _ h2 (unary_node un.Sizeof)) (ReadCases.size_of_case s (u ++ r) r (plain_expr a) h0 (unary_opens u a r h1) (unary_got u a h1 r k))
  unary_got _ _ (ExpressionTrees.UnaryTree.size_of_type s o c u ty e h0 h1 h2 h3 h4) r k =
      rw (append_assoc u (c ∷ []) r) (as_said (node_said e s.place (node.SizeofType ty) [] _ h4 (size_of_type_node ty))
      (ReadCases.size_of_type_case s o c (u ++ c ∷ r) r (plain_term ty) h0 h1 (first_more begins_type u (c ∷ r) (term_first u ty h2)) (term_got u ty h2 (c ∷ r) (ap is_star_end h3)) h3))

  pub postfix_got : (u : List Lexeme) (e : Expr) → PostfixTree u e → (r : List Lexeme) → first_is ends_operand r ≡ true → Got (λ R. R.unary (u ++ r)) (plain_expr e, r)
  postfix_got _ _ (ExpressionTrees.PostfixTree.suffixed u v a e h0 h1) r k =
      rw (append_assoc u v r) (ReadCases.postfix_case (u ++ (v ++ r)) (v ++ r) r (plain_expr a) (plain_expr e) (first_more begins_primary u (v ++ r) (primary_begins u a h0))
      (primary_got u a h0 (v ++ r) (suffixes_open_not a v e r h1 k)) (suffixes_got a v e h1 r k))

  pub suffixes_got : (a : Expr) (u : List Lexeme) (e : Expr) → SuffixTrees a u e → (r : List Lexeme) → first_is ends_operand r ≡ true → Got (λ R. R.suffixes (plain_expr a) (u ++ r)) (plain_expr e, r)
  suffixes_got _ _ _ (ExpressionTrees.SuffixTrees.no_suffix a) r k = ReadCases.no_suffix_case (plain_expr a) r (no_suffix_behind r k)
  suffixes_got _ _ _ (ExpressionTrees.SuffixTrees.indexed o c u v a i b e h0 h1 h2 h3 h4) r k =
      rw (append_assoc u (c ∷ v) r) (ReadCases.indexed_case o c (u ++ c ∷ (v ++ r)) (v ++ r) r (plain_expr a) (plain_expr i) (plain_expr e) h0 (expr_got u i h1 (c ∷ (v ++ r)) (ap is_close h2)) h2
      (rw (← node_said b o.place node.Index (a ∷ i ∷ []) _ h3 index_node) (suffixes_got b v e h4 r k)))
  suffixes_got _ _ _ (ExpressionTrees.SuffixTrees.member d n arrow v a b e h0 h1 h2 h3) r k =
      ReadCases.member_case d n arrow (v ++ r) r (plain_expr a) (plain_expr e) h0 h1
      (rw (← node_said b d.place (node.Member n.text arrow) (a ∷ []) _ h2 (member_node n.text arrow)) (suffixes_got b v e h3 r k))
  suffixes_got _ _ _ (ExpressionTrees.SuffixTrees.increments o op v a b e h0 h1 h2) r k =
      ReadCases.increments_case o op (v ++ r) r (plain_expr a) (plain_expr e) h0 (rw (← node_said b o.place (node.Unary op) (a ∷ []) _ h1 (unary_node op)) (suffixes_got b v e h2 r k))

  pub primary_got : (u : List Lexeme) (e : Expr) → PrimaryTree u e → (r : List Lexeme) → first_is is_open r ≡ false → Got (λ R. R.primary (u ++ r)) (plain_expr e, r)
  primary_got _ _ (ExpressionTrees.PrimaryTree.name n e h0 h1) r k = as_said (node_said e n.place (node.Name n.text) [] _ h1 (name_node n.text)) (ReadCases.name_case n r h0 k)
  primary_got _ _ (ExpressionTrees.PrimaryTree.call_of_none n o c e h0 h1 h2 h3) r k = as_said (node_said e n.place (node.Call n.text) [] _ h3 (call_node n.text)) (ReadCases.call_of_none_case n o c r h0 h1 h2)
  primary_got _ _ (ExpressionTrees.PrimaryTree.call n o c u args e h0 h1 h2 h3 h4) r k =
      rw (append_assoc u (c ∷ []) r) (as_said (node_said e n.place (node.Call n.text) args _ h4 (call_node n.text))
      (ReadCases.call_case n o c (u ++ c ∷ r) r (map plain_expr args) h0 h1 (no_close_paren (u ++ c ∷ r) (first_more begins_expr u (c ∷ r) (args_first u args h2))) (args_got u args h2 (c ∷ r) (ap is_close h3)) h3))
  primary_got _ _ (ExpressionTrees.PrimaryTree.number n value ty e h0 h1) r k = as_said (node_said e n.place (node.Number value ty) [] _ h1 (number_node value ty)) (ReadCases.number_case n value ty r h0)
  primary_got _ _ (ExpressionTrees.PrimaryTree.brackets o c u e h0 h1 h2) r k =
      rw (append_assoc u (c ∷ []) r) (ReadCases.brackets_case o c (u ++ c ∷ r) r (plain_expr e) h0 (expr_got u e h1 (c ∷ r) (ap is_close h2)) h2)
