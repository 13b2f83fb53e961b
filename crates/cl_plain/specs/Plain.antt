-- What a syntax tree says, without where its lists lie in memory.
use Rattle.std.specs.Prelude.{ℕ, Option, Some, None, List, [], ◌∷◌, map}
use Rattle.clv_place.specs.declared.place.Place.{Place}
use Rattle.cl_ast.specs.declared.expression.Qual.{Qual}
use Rattle.cl_ast.specs.declared.expression.Expr.{Expr}
use Rattle.cl_ast.specs.declared.expression.ExprNode.{ExprNode}
use Rattle.cl_ast.specs.declared.expression.ExprNode.TheVariants as node
use Rattle.cl_ast.specs.declared.expression.TypeTerm.{TypeTerm}
use Rattle.cl_ast.specs.declared.expression.Spec.{Spec}
use Rattle.cl_ast.specs.declared.expression.Base.{Base}
use Rattle.cl_ast.specs.declared.expression.Base.TheVariants as base
use Rattle.cl_ast.specs.declared.expression.Field.{Field}
use Rattle.cl_ast.specs.declared.expression.Declor.{Declor}
use Rattle.cl_ast.specs.declared.expression.Base.TheOpen.{Base-F, ExprNode-F, Declor-F, Expr-F, Field-F, Spec-F, TypeTerm-F}
use Rattle.cl_ast.specs.declared.expression.Base.TheOpen as o
use Rattle.cl_ast.specs.declared.expression.Base.TheFolds.{fold-Base, fold-ExprNode, fold-Declor, fold-Expr, fold-Field, fold-Spec, fold-TypeTerm}
use Rattle.cl_ast.specs.declared.statement.Stmt.{Stmt}
use Rattle.cl_ast.specs.declared.statement.StmtNode.{StmtNode}
use Rattle.cl_ast.specs.declared.statement.Group.{Group}
use Rattle.cl_ast.specs.declared.statement.Label.{Label}
use Rattle.cl_ast.specs.declared.statement.StmtNode.TheOpen.{StmtNode-F, Group-F, Stmt-F}
use Rattle.cl_ast.specs.declared.statement.StmtNode.TheOpen as s
use Rattle.cl_ast.specs.declared.statement.StmtNode.TheFolds.{fold-StmtNode, fold-Group, fold-Stmt}
use Rattle.cl_ast.specs.declared.declaration.Init.{Init}
use Rattle.cl_ast.specs.declared.declaration.Init.TheOpen.{Init-F}
use Rattle.cl_ast.specs.declared.declaration.Init.TheOpen as i
use Rattle.cl_ast.specs.declared.declaration.Init.TheFolds.{fold-Init}
use Rattle.cl_ast.specs.declared.declaration.InitDeclor.{InitDeclor}
use Rattle.cl_ast.specs.declared.declaration.External.{External}
use Rattle.cl_ast.specs.declared.declaration.External.TheVariants as external
use Rattle.cl_ast.specs.declared.declaration.FWord.{FWord}
use Rattle.cl_ast.specs.declared.declaration.FWord.TheVariants as fword
use Rattle.cl_ast.specs.declared.declaration.Param.{Param}

-- what stands at a node of a tree, but for its parts
pub data Head : Type 0 where
  -- an expression: its node, and its operands
  expr : Place → Head
  untyped : ExprNode → Head
  cast : Head
  vector : Head
  size_of_type : Head
  term : Option (List Qual) → Head
  spec : List Qual → Head
  -- what is no struct; a struct without and with its members
  word : Base → Head
  tag : Option (List ℕ) → Place → Head
  struct : Option (List ℕ) → Place → Head
  field : Head
  declor : Option (List Qual) → List ℕ → Place → Head
  -- something that may be missing, and a list
  missing : Head
  given : Head
  list : Head
  value : Head
  braces : Place → Head
  declared : Head
  stmt : Place → Head
  block : Head
  declaration : Head
  evaluated : Head
  choice : Head
  while_loop : Head
  do_loop : Head
  for_loop : Head
  switch : Head
  break : Head
  continue : Head
  return : Head
  empty : Head
  group : Head
  label : Place → Head
  kernel : Head
  inline : Head
  static : Head
  required : Place → Head
  hint : Head
  param : Option (List Qual) → Option (List ℕ) → Place → Head
  typedef : Head
  types : Head
  constants : Head
  function : List ℕ → Place → Head

mutual
  pub data Plain : Type 0 where
    tree : Head → Plains → Plain

  pub data Plains : Type 0 where
    none : Plains
    more : Plain → Plains → Plains

abbrev pub plains : List Plain → Plains
plains [] = none
plains (t ∷ ts) = more t (plains ts)

-- a tree with these parts
abbrev pub over : Head → List Plain → Plain
over h ts = tree h (plains ts)

abbrev pub leaf : Head → Plain
leaf h = tree h none

abbrev pub may_be : Option Plain → Plain
may_be None = leaf missing
may_be (Some t) = over given (t ∷ [])

-- ---- expressions and types

abbrev pub base_over : Base-F Plain Plain Plain Plain Plain Plain Plain → Plain
base_over o.Void = leaf (word base.Void)
base_over o.Bool = leaf (word base.Bool)
base_over (o.Int bits signed) = leaf (word (base.Int bits signed))
base_over (o.Base::Vector bits signed n) = leaf (word (base.Vector bits signed n))
base_over (o.Sized signed) = leaf (word (base.Sized signed))
base_over (o.Named name place) = leaf (word (base.Named name place))
base_over (o.Struct name place None) = leaf (tag name place)
base_over (o.Struct name place (Some members)) = over (struct name place) members.items

abbrev pub node_over : ExprNode-F Plain Plain Plain Plain Plain Plain Plain → Plain
node_over (o.Name text) = leaf (untyped (node.Name text))
node_over (o.Number n ty) = leaf (untyped (node.Number n ty))
node_over (o.Unary op) = leaf (untyped (node.Unary op))
node_over (o.Binary op) = leaf (untyped (node.Binary op))
node_over (o.Assign op) = leaf (untyped (node.Assign op))
node_over o.Cond = leaf (untyped node.Cond)
node_over (o.Cast t) = over cast (t ∷ [])
node_over (o.ExprNode::Vector t) = over vector (t ∷ [])
node_over (o.Call text) = leaf (untyped (node.Call text))
node_over o.Index = leaf (untyped node.Index)
node_over (o.Member text arrow) = leaf (untyped (node.Member text arrow))
node_over (o.SizeofType t) = over size_of_type (t ∷ [])
node_over o.Comma = leaf (untyped node.Comma)

abbrev pub declor_over : Declor-F Plain Plain Plain Plain Plain Plain Plain → Plain
declor_over d = over (declor d.star d.name d.place) (map may_be d.lengths.items)

abbrev pub expr_over : Expr-F Plain Plain Plain Plain Plain Plain Plain → Plain
expr_over e = over (expr e.place) (e.node ∷ e.args.items)

abbrev pub field_over : Field-F Plain Plain Plain Plain Plain Plain Plain → Plain
field_over f = over field (f.spec ∷ f.names.items)

abbrev pub spec_over : Spec-F Plain Plain Plain Plain Plain Plain Plain → Plain
spec_over s = over (spec s.quals) (s.base ∷ [])

abbrev pub term_over : TypeTerm-F Plain Plain Plain Plain Plain Plain Plain → Plain
term_over t = over (term t.star) (t.spec ∷ [])

abbrev pub plain_expr : Expr → Plain
plain_expr = fold-Expr Plain Plain Plain Plain Plain Plain Plain base_over node_over declor_over expr_over field_over spec_over term_over

abbrev pub plain_node : ExprNode → Plain
plain_node = fold-ExprNode Plain Plain Plain Plain Plain Plain Plain base_over node_over declor_over expr_over field_over spec_over term_over

abbrev pub plain_spec : Spec → Plain
plain_spec = fold-Spec Plain Plain Plain Plain Plain Plain Plain base_over node_over declor_over expr_over field_over spec_over term_over

abbrev pub plain_base : Base → Plain
plain_base = fold-Base Plain Plain Plain Plain Plain Plain Plain base_over node_over declor_over expr_over field_over spec_over term_over

abbrev pub plain_term : TypeTerm → Plain
plain_term = fold-TypeTerm Plain Plain Plain Plain Plain Plain Plain base_over node_over declor_over expr_over field_over spec_over term_over

abbrev pub plain_field : Field → Plain
plain_field = fold-Field Plain Plain Plain Plain Plain Plain Plain base_over node_over declor_over expr_over field_over spec_over term_over

abbrev pub plain_declor : Declor → Plain
plain_declor = fold-Declor Plain Plain Plain Plain Plain Plain Plain base_over node_over declor_over expr_over field_over spec_over term_over

abbrev pub in_option : {A : Type 0} → (A → Plain) → Option A → Plain
in_option f None = leaf missing
in_option f (Some x) = over given (f x ∷ [])

-- ---- declared names with their initialisers

abbrev pub init_over : Init-F Plain → Plain
init_over (i.Value e) = over value (plain_expr e ∷ [])
init_over (i.Braces place items) = over (braces place) items.items

abbrev pub plain_init : Init → Plain
plain_init = fold-Init Plain init_over

abbrev pub plain_declared : InitDeclor → Plain
plain_declared d = over declared (plain_declor d.name ∷ in_option plain_init d.init ∷ [])

-- ---- statements

abbrev pub plain_label : Label → Plain
plain_label l = over (label l.place) (in_option plain_expr l.value ∷ [])

abbrev pub stmt_node_over : StmtNode-F Plain Plain Plain → Plain
stmt_node_over (s.Block items) = over block items.items
stmt_node_over (s.Decl said items) = over declaration (plain_spec said ∷ map plain_declared items.items)
stmt_node_over (s.Expr e) = over evaluated (plain_expr e ∷ [])
stmt_node_over (s.If cond arms) = over choice (plain_expr cond ∷ arms.items)
stmt_node_over (s.While cond body) = over while_loop (plain_expr cond ∷ body.items)
stmt_node_over (s.Do body cond) = over do_loop (plain_expr cond ∷ body.items)
stmt_node_over (s.For decl first cond next body) = over for_loop (over list decl.items ∷ in_option plain_expr first ∷ in_option plain_expr cond ∷ in_option plain_expr next ∷ body.items)
stmt_node_over (s.Switch tested sections) = over switch (plain_expr tested ∷ sections.items)
stmt_node_over s.Break = leaf break
stmt_node_over s.Continue = leaf continue
stmt_node_over (s.Return e) = over return (in_option plain_expr e ∷ [])
stmt_node_over s.Empty = leaf empty

abbrev pub group_over : Group-F Plain Plain Plain → Plain
group_over g = over group (over list (map plain_label g.labels.items) ∷ g.body.items)

abbrev pub stmt_over : Stmt-F Plain Plain Plain → Plain
stmt_over x = over (stmt x.place) (x.node ∷ [])

abbrev pub plain_stmt : Stmt → Plain
plain_stmt = fold-Stmt Plain Plain Plain stmt_node_over group_over stmt_over

abbrev pub plain_stmt_node : StmtNode → Plain
plain_stmt_node = fold-StmtNode Plain Plain Plain stmt_node_over group_over stmt_over

abbrev pub plain_group : Group → Plain
plain_group = fold-Group Plain Plain Plain stmt_node_over group_over stmt_over

-- ---- what stands at file scope

abbrev pub plain_word : FWord → Plain
plain_word fword.Kernel = leaf kernel
plain_word fword.Inline = leaf inline
plain_word fword.Static = leaf static
plain_word (fword.Required place args) = over (required place) (map plain_expr args.items)
plain_word fword.Hint = leaf hint

abbrev pub plain_param : Param → Plain
plain_param p = over (param p.star p.name p.place) (plain_spec p.spec ∷ [])

abbrev pub plain_external : External → Plain
plain_external (external.Typedef said name) = over typedef (plain_spec said ∷ plain_declor name ∷ [])
plain_external (external.Struct said) = over types (plain_spec said ∷ [])
plain_external (external.Constant said items) = over constants (plain_spec said ∷ map plain_declared items.items)
plain_external (external.Function words said name place params body) = over (function name place) (over list (map plain_word words.items) ∷ plain_spec said ∷ over list (map plain_param params.items) ∷ in_option plain_stmt body ∷ [])

-- two units that say the same
abbrev pub plain_unit : List External → List Plain
plain_unit = map plain_external
