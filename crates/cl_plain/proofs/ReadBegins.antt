-- What expressions and types begin with.
use Rattle.std.proofs.Common.{◌≡◌, ℕ, true, false, List, [], ◌∷◌, ◌++◌, None, ap, ◌∙◌, append_assoc}
use Rattle.cl_ast.specs.declared.expression.Qual.{Qual}
use Rattle.cl_ast.specs.declared.expression.Expr.{Expr}
use Rattle.cl_ast.specs.declared.expression.Spec.{Spec}
use Rattle.cl_ast.specs.declared.expression.Base.{Base}
use Rattle.cl_ast.specs.declared.expression.Field.{Field}
use Rattle.cl_ast.specs.declared.expression.TypeTerm.{TypeTerm}
use Rattle.cl_grammar.specs.declared.lexeme.Lexeme.{Lexeme}
use Rattle.cl_grammar.specs.declared.operator.Operator.{Operator}
use Rattle.cl_grammar.specs.declared.terminal.Terminal.TheVariants as t
use Rattle.cl_grammar.specs.Terminals.{qualifier_of, assignment_of}
use Rattle.cl_grammar.specs.Expressions.{is_open}
use Rattle.cl_grammar.specs.ExpressionTrees
use Rattle.cl_grammar.specs.ExpressionTrees.{Qualify, WidthOf, IntegerOf, BaseTree, SpecTree, MemberTrees, TypeTermTree, ExprTree, AssignTrees, AssignTree, CondTree, BinTree, RowTrees, CastTree, UnaryTree, PostfixTree, SuffixTrees, PrimaryTree}
use Rattle.cl_plain.proofs.Reading.{first_is, begins_type}
use Rattle.cl_plain.proofs.ReadMarks.{first, first_more, begins_base, begins_primary, begins_expr, ends_row, ends_operand, whole_begins, sign_begins, width_begins, takes_int_begins, qualifier_begins, begins_so, is_no_type, increment_begins, increment_no_open, prefix_begins, prefix_no_open, arrow_no_open, step_no_open, operand_behind, binary_ends, binary_no_assignment, no_assignment, no_open}
use Rattle.cl_plain.proofs.Readers.{opens_type}
use Rattle.cl_plain.proofs.ReadWords.{opens_none, opens_not}

-- ---- types

integer_begins : (u : List Lexeme) (b : Base) → IntegerOf u b → first_is begins_base u ≡ true
integer_begins _ _ (ExpressionTrees.IntegerOf.plain u bits h) = width_first u bits h
  where
    width_first : (u : List Lexeme) (bits : ℕ) → WidthOf u bits → first_is begins_base u ≡ true
    width_first _ _ (ExpressionTrees.WidthOf.word w bits h) = width_begins bits w.terminal h
    width_first _ _ (ExpressionTrees.WidthOf.with_int w i bits h k e) = takes_int_begins w.terminal h
integer_begins _ _ (ExpressionTrees.IntegerOf.with_sign s signed u bits h k) = sign_begins signed s.terminal h
integer_begins _ _ (ExpressionTrees.IntegerOf.sign s signed h) = sign_begins signed s.terminal h

pub base_begins : (v : List Lexeme) (b : Base) → BaseTree v b → first_is begins_base v ≡ true
base_begins _ _ (ExpressionTrees.BaseTree.type_word w b h) = whole_begins w b w.terminal h
base_begins _ _ (ExpressionTrees.BaseTree.integer u b h) = integer_begins u b h
base_begins _ _ (ExpressionTrees.BaseTree.struct_name s n b h0 h1 h2) = ap begins_base h0
base_begins _ _ (ExpressionTrees.BaseTree.named_struct s n o c u fields b h0 h1 h2 h3 h4 h5) = ap begins_base h0
base_begins _ _ (ExpressionTrees.BaseTree.struct s o c u fields b h0 h1 h2 h3 h4) = ap begins_base h0

quals_begin : (u : List Lexeme) (qs : List Qual) (r : List Lexeme) → Qualify qualifier_of u qs → first_is begins_base r ≡ true → first_is begins_type (u ++ r) ≡ true
quals_begin [] qs r h e = begins_so r e
quals_begin (l ∷ ls) [] r h e = absurd h
quals_begin (l ∷ ls) (q ∷ qs) r h e = qualifier_begins q l.terminal h.0

pub spec_first : (u : List Lexeme) (s : Spec) → SpecTree u s → first_is begins_type u ≡ true
spec_first _ _ (ExpressionTrees.SpecTree.spec u v w before behind b s h0 h1 h2 h3) = quals_begin u before (v ++ w) h0 (first_more begins_base v w (base_begins v b h1))

pub term_first : (u : List Lexeme) (ty : TypeTerm) → TypeTermTree u ty → first_is begins_type u ≡ true
term_first _ _ (ExpressionTrees.TypeTermTree.type_term u v s star ty h0 h1 h2) = first_more begins_type u v (spec_first u s h0)

pub members_first : (u : List Lexeme) (fs : List Field) → MemberTrees u fs → first_is begins_type u ≡ true
members_first _ _ (ExpressionTrees.MemberTrees.last_member s u v sp names f h0 h1 h2 h3) = first_more begins_type u (v ++ s ∷ []) (spec_first u sp h0)
members_first _ _ (ExpressionTrees.MemberTrees.more_members s u v w sp names f fs h0 h1 h2 h3 h4) = first_more begins_type u (v ++ s ∷ w) (spec_first u sp h0)

-- ---- expressions

primary_first : (u : List Lexeme) (e : Expr) → PrimaryTree u e → first_is begins_expr u ≡ true
primary_first _ _ (ExpressionTrees.PrimaryTree.name n e h0 h1) = ap begins_expr h0
primary_first _ _ (ExpressionTrees.PrimaryTree.call_of_none n o c e h0 h1 h2 h3) = ap begins_expr h0
primary_first _ _ (ExpressionTrees.PrimaryTree.call n o c u args e h0 h1 h2 h3 h4) = ap begins_expr h0
primary_first _ _ (ExpressionTrees.PrimaryTree.number n value ty e h0 h1) = ap begins_expr h0
primary_first _ _ (ExpressionTrees.PrimaryTree.brackets o c u e h0 h1 h2) = ap begins_expr h0

pub primary_begins : (u : List Lexeme) (e : Expr) → PrimaryTree u e → first_is begins_primary u ≡ true
primary_begins _ _ (ExpressionTrees.PrimaryTree.name n e h0 h1) = ap begins_primary h0
primary_begins _ _ (ExpressionTrees.PrimaryTree.call_of_none n o c e h0 h1 h2 h3) = ap begins_primary h0
primary_begins _ _ (ExpressionTrees.PrimaryTree.call n o c u args e h0 h1 h2 h3 h4) = ap begins_primary h0
primary_begins _ _ (ExpressionTrees.PrimaryTree.number n value ty e h0 h1) = ap begins_primary h0
primary_begins _ _ (ExpressionTrees.PrimaryTree.brackets o c u e h0 h1 h2) = ap begins_primary h0

postfix_first : (u : List Lexeme) (e : Expr) → PostfixTree u e → first_is begins_expr u ≡ true
postfix_first _ _ (ExpressionTrees.PostfixTree.suffixed u v a e h k) = first_more begins_expr u v (primary_first u a h)

unary_first : (u : List Lexeme) (e : Expr) → UnaryTree u e → first_is begins_expr u ≡ true
unary_first _ _ (ExpressionTrees.UnaryTree.only_postfix u e h) = postfix_first u e h
unary_first _ _ (ExpressionTrees.UnaryTree.incremented o op u a e h0 h1 h2) = increment_begins op o.terminal h0
unary_first _ _ (ExpressionTrees.UnaryTree.prefixed o op u a e h0 h1 h2) = prefix_begins op o.terminal h0
unary_first _ _ (ExpressionTrees.UnaryTree.size_of s u a e h0 h1 h2) = ap begins_expr h0
unary_first _ _ (ExpressionTrees.UnaryTree.size_of_type s o c u ty e h0 h1 h2 h3 h4) = ap begins_expr h0

pub cast_first : (u : List Lexeme) (e : Expr) → CastTree u e → first_is begins_expr u ≡ true
cast_first _ _ (ExpressionTrees.CastTree.only_unary u e h) = unary_first u e h
cast_first _ _ (ExpressionTrees.CastTree.cast o c u v ty a e h0 h1 h2 h3 h4 h5) = ap begins_expr h0
cast_first _ _ (ExpressionTrees.CastTree.vector_cast o c u v ty a e h0 h1 h2 h3 h4 h5 h6) = ap begins_expr h0
cast_first _ _ (ExpressionTrees.CastTree.vector_literal o c p d u v ty args e h0 h1 h2 h3 h4 h5 h6 h7) = ap begins_expr h0

bin_first : (u : List Lexeme) (e : Expr) → BinTree u e → first_is begins_expr u ≡ true
bin_first _ _ (ExpressionTrees.BinTree.bin u v a e row h0 h1 h2) = first_more begins_expr u v (cast_first u a h0)

pub cond_first : (u : List Lexeme) (e : Expr) → CondTree u e → first_is begins_expr u ≡ true
cond_first _ _ (ExpressionTrees.CondTree.only_bin u e h) = bin_first u e h
cond_first _ _ (ExpressionTrees.CondTree.conditional q c u v w a b d e h0 h1 h2 h3 h4 h5) = first_more begins_expr u (q ∷ (v ++ c ∷ w)) (bin_first u a h0)

assign_first : (u : List Lexeme) (e : Expr) → AssignTree u e → first_is begins_expr u ≡ true
assign_first _ _ (ExpressionTrees.AssignTree.only_cond u e h) = cond_first u e h
assign_first _ _ (ExpressionTrees.AssignTree.assigned o op u v a b e h0 h1 h2 h3) = first_more begins_expr u (o ∷ v) (unary_first u a h0)

pub args_first : (u : List Lexeme) (es : List Expr) → AssignTrees u es → first_is begins_expr u ≡ true
args_first _ _ (ExpressionTrees.AssignTrees.last_assign u e h) = assign_first u e h
args_first _ _ (ExpressionTrees.AssignTrees.more_assigns c u v e es h0 h1 h2) = first_more begins_expr u (c ∷ v) (assign_first u e h0)

pub expr_first : (u : List Lexeme) (e : Expr) → ExprTree u e → first_is begins_expr u ≡ true
expr_first _ _ (ExpressionTrees.ExprTree.only_assign u e h) = assign_first u e h
expr_first _ _ (ExpressionTrees.ExprTree.comma c u v a e args h0 h1 h2 h3) = first_more begins_expr u (c ∷ v) (assign_first u a h0)

-- ---- no operand of a `sizeof` or a postfix begins with a `(` and a type

in_brackets : (o : Lexeme) (u r : List Lexeme) (e : Expr) → o.terminal ≡ t.OpenParen → ExprTree u e → opens_type (o ∷ (u ++ r)) ≡ false
in_brackets o u r e h k = opens_none o (u ++ r) h (is_no_type (u ++ r) (first_more begins_expr u r (expr_first u e k)))

primary_opens : (u : List Lexeme) (e : Expr) (r : List Lexeme) → PrimaryTree u e → opens_type (u ++ r) ≡ false
primary_opens _ _ r (ExpressionTrees.PrimaryTree.name n e h0 h1) = opens_not n r (ap is_open h0)
primary_opens _ _ r (ExpressionTrees.PrimaryTree.call_of_none n o c e h0 h1 h2 h3) = opens_not n (o ∷ c ∷ r) (ap is_open h0)
primary_opens _ _ r (ExpressionTrees.PrimaryTree.call n o c u args e h0 h1 h2 h3 h4) = opens_not n (o ∷ ((u ++ c ∷ []) ++ r)) (ap is_open h0)
primary_opens _ _ r (ExpressionTrees.PrimaryTree.number n value ty e h0 h1) = opens_not n r (ap is_open h0)
primary_opens _ _ r (ExpressionTrees.PrimaryTree.brackets o c u e h0 h1 h2) = ap (λ z. opens_type (o ∷ z)) (append_assoc u (c ∷ []) r) ∙ in_brackets o u (c ∷ r) e h0 h1

postfix_opens : (u : List Lexeme) (e : Expr) (r : List Lexeme) → PostfixTree u e → opens_type (u ++ r) ≡ false
postfix_opens _ _ r (ExpressionTrees.PostfixTree.suffixed u v a e h k) = ap opens_type (append_assoc u v r) ∙ primary_opens u a (v ++ r) h

pub unary_opens : (u : List Lexeme) (e : Expr) (r : List Lexeme) → UnaryTree u e → opens_type (u ++ r) ≡ false
unary_opens _ _ r (ExpressionTrees.UnaryTree.only_postfix u e h) = postfix_opens u e r h
unary_opens _ _ r (ExpressionTrees.UnaryTree.incremented o op u a e h0 h1 h2) = opens_not o (u ++ r) (increment_no_open op o.terminal h0)
unary_opens _ _ r (ExpressionTrees.UnaryTree.prefixed o op u a e h0 h1 h2) = opens_not o (u ++ r) (prefix_no_open op o.terminal h0)
unary_opens _ _ r (ExpressionTrees.UnaryTree.size_of s u a e h0 h1 h2) = opens_not s (u ++ r) (ap is_open h0)
unary_opens _ _ r (ExpressionTrees.UnaryTree.size_of_type s o c u ty e h0 h1 h2 h3 h4) = opens_not s (o ∷ ((u ++ c ∷ []) ++ r)) (ap is_open h0)

-- ---- what stands behind an operand and behind a primary

pub row_first : (u : List Lexeme) (row : List (Operator × Expr)) (r : List Lexeme) → RowTrees u row → first_is ends_row r ≡ true → first_is ends_operand (u ++ r) ≡ true
row_first _ _ r ExpressionTrees.RowTrees.row_ends e = operand_behind r e
row_first _ _ r (ExpressionTrees.RowTrees.row_goes_on o op u v a row h0 h1 h2) e = binary_ends op o.terminal h0

pub row_assigns_not : (u : List Lexeme) (row : List (Operator × Expr)) (r : List Lexeme) → RowTrees u row → first_is ends_row r ≡ true → first assignment_of (u ++ r) ≡ None
row_assigns_not _ _ r ExpressionTrees.RowTrees.row_ends e = no_assignment r e
row_assigns_not _ _ r (ExpressionTrees.RowTrees.row_goes_on o op u v a row h0 h1 h2) e = binary_no_assignment op o.terminal h0

pub suffixes_open_not : (a : Expr) (u : List Lexeme) (e : Expr) (r : List Lexeme) → SuffixTrees a u e → first_is ends_operand r ≡ true → first_is is_open (u ++ r) ≡ false
suffixes_open_not _ _ _ r (ExpressionTrees.SuffixTrees.no_suffix a) k = no_open r k
suffixes_open_not _ _ _ r (ExpressionTrees.SuffixTrees.indexed o c u v a i b e h0 h1 h2 h3 h4) k = ap is_open h0
suffixes_open_not _ _ _ r (ExpressionTrees.SuffixTrees.member d n arrow v a b e h0 h1 h2 h3) k = arrow_no_open arrow d.terminal h0
suffixes_open_not _ _ _ r (ExpressionTrees.SuffixTrees.increments o op v a b e h0 h1 h2) k = step_no_open op o.terminal h0
