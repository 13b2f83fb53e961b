-- The trees of declarations and statements: for each line of the grammar, what its tokens mean. Each case has the tokens of
-- the case of `Statements` of the same name.
use Rattle.std.specs.Global.{Vec}
use Rattle.std.specs.Prelude.{◌≡◌, Bool, true, false, Option, Some, None, List, [], ◌∷◌, ◌++◌}
use Rattle.clv_place.specs.declared.place.Place.{Place}
use Rattle.cl_ast.specs.declared.expression.Qual.{Qual}
use Rattle.cl_ast.specs.declared.expression.Expr.{Expr}
use Rattle.cl_ast.specs.declared.expression.Spec.{Spec}
use Rattle.cl_ast.specs.declared.expression.Declor.{Declor}
use Rattle.cl_ast.specs.declared.declaration.External.{External}
use Rattle.cl_ast.specs.declared.declaration.External.TheVariants as external
use Rattle.cl_ast.specs.declared.declaration.FWord.{FWord}
use Rattle.cl_ast.specs.declared.declaration.FWord.TheVariants as fword
use Rattle.cl_ast.specs.declared.declaration.Param.{Param}
use Rattle.cl_ast.specs.declared.declaration.InitDeclor.{InitDeclor}
use Rattle.cl_ast.specs.declared.declaration.Init.{Init}
use Rattle.cl_ast.specs.declared.declaration.Init.TheVariants as init
use Rattle.cl_ast.specs.declared.statement.Stmt.{Stmt}
use Rattle.cl_ast.specs.declared.statement.StmtNode.{StmtNode}
use Rattle.cl_ast.specs.declared.statement.StmtNode.TheVariants as node
use Rattle.cl_ast.specs.declared.statement.Group.{Group}
use Rattle.cl_ast.specs.declared.statement.Label.{Label}
use Rattle.cl_ast.specs.declared.statement.StmtNode.TheViews.{out-Stmt, out-Group}
use Rattle.cl_grammar.specs.declared.lexeme.Lexeme.{Lexeme}
use Rattle.cl_grammar.specs.declared.terminal.Terminal.TheVariants as t
use Rattle.cl_grammar.specs.Expressions.{IsA}
use Rattle.cl_grammar.specs.ExpressionTrees.{StarOf, SpecTree, DeclorTree, ExprTree, AssignTree, AssignTrees, CondTree}
use Rattle.cl_grammar.specs.Statements.{IsHint, MayBeStatic, is_vector_hint, is_required_size, is_size_name}

-- tokens begin at a place
pub data BeginsAt : List Lexeme → Place → Type 0 where
  begins : (l : Lexeme) (u : List Lexeme) → BeginsAt (l ∷ u) l.place

-- a statement with this place and node
pub record IsStmt (s : Stmt) (place : Place) (node : StmtNode) : Type 0 where
  pub at : (out-Stmt s).place ≡ place
  pub is : (out-Stmt s).node ≡ node

pub record IsGroup (g : Group) (labels : List Label) (body : List Stmt) : Type 0 where
  pub under : (out-Group g).labels.items ≡ labels
  pub has : (out-Group g).body.items ≡ body

-- the tree of an expression that may be missing
pub data MayBeTree : List Lexeme → Option Expr → Type 0 where
  none : MayBeTree [] None
  some : (u : List Lexeme) (e : Expr) → ExprTree u e → MayBeTree u (Some e)

mutual
  pub data InitTree : List Lexeme → Init → Type 0 where
    value : (u : List Lexeme) (e : Expr) → AssignTree u e → InitTree u (init.Value e)
    braces : (o c : Lexeme) (u : List Lexeme) (items : Vec Init) → IsA t.OpenBrace o → InitTrees u items.items → IsA t.CloseBrace c → InitTree (o ∷ (u ++ c ∷ [])) (init.Braces o.place items)

  pub data InitTrees : List Lexeme → List Init → Type 0 where
    last_init : (u : List Lexeme) (i : Init) → InitTree u i → InitTrees u (i ∷ [])
    last_with_comma : (c : Lexeme) (u : List Lexeme) (i : Init) → InitTree u i → IsA t.Comma c → InitTrees (u ++ c ∷ []) (i ∷ [])
    more_inits : (c : Lexeme) (u v : List Lexeme) (i : Init) (is : List Init) → InitTree u i → IsA t.Comma c → InitTrees v is → InitTrees (u ++ c ∷ v) (i ∷ is)

pub data InitDeclorTree : List Lexeme → InitDeclor → Type 0 where
  bare : (u : List Lexeme) (d : Declor) → DeclorTree u d → InitDeclorTree u (record { name = d; init = None })
  initialised : (e : Lexeme) (u v : List Lexeme) (d : Declor) (i : Init) → DeclorTree u d → IsA t.Equals e → InitTree v i → InitDeclorTree (u ++ e ∷ v) (record { name = d; init = Some i })

pub data InitDeclorTrees : List Lexeme → List InitDeclor → Type 0 where
  last : (u : List Lexeme) (d : InitDeclor) → InitDeclorTree u d → InitDeclorTrees u (d ∷ [])
  more : (c : Lexeme) (u v : List Lexeme) (d : InitDeclor) (ds : List InitDeclor) → InitDeclorTree u d → IsA t.Comma c → InitDeclorTrees v ds → InitDeclorTrees (u ++ c ∷ v) (d ∷ ds)

-- The place of a label is its word.
pub data LabelTree : List Lexeme → Label → Type 0 where
  case : (l k : Lexeme) (u : List Lexeme) (e : Expr) → IsA t.Case l → CondTree u e → IsA t.Colon k → LabelTree (l ∷ (u ++ k ∷ [])) (record { place = l.place; value = Some e })
  default : (l k : Lexeme) → IsA t.Default l → IsA t.Colon k → LabelTree (l ∷ k ∷ []) (record { place = l.place; value = None })

pub data LabelTrees : List Lexeme → List Label → Type 0 where
  last : (u : List Lexeme) (l : Label) → LabelTree u l → LabelTrees u (l ∷ [])
  more : (u v : List Lexeme) (l : Label) (ls : List Label) → LabelTree u l → LabelTrees v ls → LabelTrees (u ++ v) (l ∷ ls)

-- a declaration or an expression, or neither
pub data ForStartTree : List Lexeme → List Stmt → Option Expr → Type 0 where
  declares : (s : Lexeme) (u v : List Lexeme) (place : Place) (spec : Spec) (items : Vec InitDeclor) (d : Stmt) → SpecTree u spec → InitDeclorTrees v items.items → IsA t.Semicolon s → BeginsAt u place → IsStmt d place (node.Decl spec items) → ForStartTree (u ++ (v ++ s ∷ [])) (d ∷ []) None
  evaluates : (s : Lexeme) (u : List Lexeme) (e : Option Expr) → MayBeTree u e → IsA t.Semicolon s → ForStartTree (u ++ s ∷ []) [] e

-- Labels that stand together are labels of one section: another section follows only behind a statement.
abbrev pub IsApart : List Stmt → List Group → Type 0
IsApart [] [] = Unit {0}
IsApart [] (g ∷ gs) = ⊥
IsApart (s ∷ ss) gs = Unit {0}

mutual
  pub data BlockTree : List Lexeme → Stmt → Type 0 where
    block : (o c : Lexeme) (u : List Lexeme) (items : Vec Stmt) (s : Stmt) → IsA t.OpenBrace o → ItemTrees u items.items → IsA t.CloseBrace c → IsStmt s o.place (node.Block items) → BlockTree (o ∷ (u ++ c ∷ [])) s

  pub data ItemTrees : List Lexeme → List Stmt → Type 0 where
    no_item : ItemTrees [] []
    more_items : (u v : List Lexeme) (s : Stmt) (ss : List Stmt) → ItemTree u s → ItemTrees v ss → ItemTrees (u ++ v) (s ∷ ss)

  -- The place of a declaration is its first token.
  pub data ItemTree : List Lexeme → Stmt → Type 0 where
    type_alone : (h : Lexeme) (u : List Lexeme) (place : Place) (spec : Spec) (items : Vec InitDeclor) (s : Stmt) → SpecTree u spec → IsA t.Semicolon h → BeginsAt u place → items.items ≡ [] → IsStmt s place (node.Decl spec items) → ItemTree (u ++ h ∷ []) s
    declaration : (h : Lexeme) (u v : List Lexeme) (place : Place) (spec : Spec) (items : Vec InitDeclor) (s : Stmt) → SpecTree u spec → InitDeclorTrees v items.items → IsA t.Semicolon h → BeginsAt u place → IsStmt s place (node.Decl spec items) → ItemTree (u ++ (v ++ h ∷ [])) s
    statement : (open_if : Bool) (u : List Lexeme) (s : Stmt) → StmtTree open_if u s → ItemTree u s

  -- Whether an `else` behind a statement would belong to an `if` in it; an `else` belongs to the nearest `if`. The place of a
  -- statement is its word, or its first token.
  pub data StmtTree : Bool → List Lexeme → Stmt → Type 0 where
    compound : (u : List Lexeme) (s : Stmt) → BlockTree u s → StmtTree false u s
    empty : (h : Lexeme) (s : Stmt) → IsA t.Semicolon h → IsStmt s h.place node.Empty → StmtTree false (h ∷ []) s
    expression : (h : Lexeme) (u : List Lexeme) (place : Place) (e : Expr) (s : Stmt) → ExprTree u e → IsA t.Semicolon h → BeginsAt u place → IsStmt s place (node.Expr e) → StmtTree false (u ++ h ∷ []) s
    only_if : (open_if : Bool) (i o c : Lexeme) (u v : List Lexeme) (e : Expr) (a : Stmt) (arms : Vec Stmt) (s : Stmt) → IsA t.If i → IsA t.OpenParen o → ExprTree u e → IsA t.CloseParen c → StmtTree open_if v a → arms.items ≡ a ∷ [] → IsStmt s i.place (node.If e arms) → StmtTree true (i ∷ o ∷ (u ++ c ∷ v)) s
    if_else : (open_if : Bool) (i o c h : Lexeme) (u v w : List Lexeme) (e : Expr) (a b : Stmt) (arms : Vec Stmt) (s : Stmt) → IsA t.If i → IsA t.OpenParen o → ExprTree u e → IsA t.CloseParen c → StmtTree false v a → IsA t.Else h → StmtTree open_if w b → arms.items ≡ a ∷ b ∷ [] → IsStmt s i.place (node.If e arms) → StmtTree open_if (i ∷ o ∷ (u ++ c ∷ (v ++ h ∷ w))) s
    while_loop : (open_if : Bool) (h o c : Lexeme) (u v : List Lexeme) (e : Expr) (a : Stmt) (body : Vec Stmt) (s : Stmt) → IsA t.While h → IsA t.OpenParen o → ExprTree u e → IsA t.CloseParen c → StmtTree open_if v a → body.items ≡ a ∷ [] → IsStmt s h.place (node.While e body) → StmtTree open_if (h ∷ o ∷ (u ++ c ∷ v)) s
    do_loop : (open_if : Bool) (d h o c k : Lexeme) (u v : List Lexeme) (e : Expr) (a : Stmt) (body : Vec Stmt) (s : Stmt) → IsA t.Do d → StmtTree open_if u a → IsA t.While h → IsA t.OpenParen o → ExprTree v e → IsA t.CloseParen c → IsA t.Semicolon k → body.items ≡ a ∷ [] → IsStmt s d.place (node.Do body e) → StmtTree false (d ∷ (u ++ h ∷ o ∷ (v ++ c ∷ k ∷ []))) s
    for_loop : (open_if : Bool) (f o h c : Lexeme) (u v w x : List Lexeme) (decl body : Vec Stmt) (first cond next : Option Expr) (a s : Stmt) → IsA t.For f → IsA t.OpenParen o → ForStartTree u decl.items first → MayBeTree v cond → IsA t.Semicolon h → MayBeTree w next → IsA t.CloseParen c → StmtTree open_if x a → body.items ≡ a ∷ [] → IsStmt s f.place (node.For decl first cond next body) → StmtTree open_if (f ∷ o ∷ (u ++ (v ++ h ∷ (w ++ c ∷ x)))) s
    switch : (h o c b d : Lexeme) (u v : List Lexeme) (e : Expr) (sections : Vec Group) (s : Stmt) → IsA t.Switch h → IsA t.OpenParen o → ExprTree u e → IsA t.CloseParen c → IsA t.OpenBrace b → SectionTrees v sections.items → IsA t.CloseBrace d → IsStmt s h.place (node.Switch e sections) → StmtTree false (h ∷ o ∷ (u ++ c ∷ b ∷ (v ++ d ∷ []))) s
    break : (h k : Lexeme) (s : Stmt) → IsA t.Break h → IsA t.Semicolon k → IsStmt s h.place node.Break → StmtTree false (h ∷ k ∷ []) s
    continue : (h k : Lexeme) (s : Stmt) → IsA t.Continue h → IsA t.Semicolon k → IsStmt s h.place node.Continue → StmtTree false (h ∷ k ∷ []) s
    return : (h k : Lexeme) (u : List Lexeme) (e : Option Expr) (s : Stmt) → IsA t.Return h → MayBeTree u e → IsA t.Semicolon k → IsStmt s h.place (node.Return e) → StmtTree false (h ∷ (u ++ k ∷ [])) s

  pub data SectionTrees : List Lexeme → List Group → Type 0 where
    no_section : SectionTrees [] []
    more_sections : (u v w : List Lexeme) (labels : List Label) (body : List Stmt) (g : Group) (gs : List Group) → LabelTrees u labels → ItemTrees v body → SectionTrees w gs → IsApart body gs → IsGroup g labels body → SectionTrees (u ++ (v ++ w)) (g ∷ gs)

-- The place of a parameter is its name, or its first token where it has none.
pub data ParamTree : List Lexeme → Param → Type 0 where
  unnamed : (u v : List Lexeme) (place : Place) (spec : Spec) (star : Option (List Qual)) → SpecTree u spec → StarOf v star → BeginsAt u place → ParamTree (u ++ v) (record { spec = spec; star = star; name = None; place = place })
  named : (n : Lexeme) (u v : List Lexeme) (spec : Spec) (star : Option (List Qual)) → SpecTree u spec → StarOf v star → IsA t.Name n → ParamTree (u ++ (v ++ n ∷ [])) (record { spec = spec; star = star; name = Some n.text; place = n.place })

pub data ParamTrees : List Lexeme → List Param → Type 0 where
  last : (u : List Lexeme) (p : Param) → ParamTree u p → ParamTrees u (p ∷ [])
  more : (c : Lexeme) (u v : List Lexeme) (p : Param) (ps : List Param) → ParamTree u p → IsA t.Comma c → ParamTrees v ps → ParamTrees (u ++ c ∷ v) (p ∷ ps)

-- `void` alone is no parameter.
abbrev pub IsVoidAlone : List Lexeme → Type 0
IsVoidAlone [] = ⊥
IsVoidAlone (l ∷ []) = IsA t.Void l
IsVoidAlone (l ∷ m ∷ ls) = ⊥

pub data ParamListTree : List Lexeme → List Param → Type 0 where
  none : ParamListTree [] []
  void : (v : Lexeme) → IsA t.Void v → ParamListTree (v ∷ []) []
  params : (u : List Lexeme) (ps : List Param) → ParamTrees u ps → (IsVoidAlone u → ⊥) → ParamListTree u ps

-- what the attribute of a size means: its place and its arguments where it is required, else nothing
pub data SizeOf : Lexeme → Vec Expr → FWord → Type 0 where
  required : (n : Lexeme) (args : Vec Expr) → is_required_size n.text ≡ true → SizeOf n args (fword.Required n.place args)
  hint : (n : Lexeme) (args : Vec Expr) → is_size_name n.text ≡ true → is_required_size n.text ≡ false → SizeOf n args fword.Hint

-- A hint changes nothing.
pub data WordTree : List Lexeme → FWord → Type 0 where
  kernel : (w : Lexeme) → IsA t.Kernel w → WordTree (w ∷ []) fword.Kernel
  inline : (w : Lexeme) → IsA t.Inline w → WordTree (w ∷ []) fword.Inline
  static : (w : Lexeme) → IsA t.Static w → WordTree (w ∷ []) fword.Static
  vector_hint : (a o p n q c d e : Lexeme) (u : List Lexeme) → IsA t.Attribute a → IsA t.OpenParen o → IsA t.OpenParen p → is_vector_hint n.text ≡ true → IsA t.OpenParen q → IsHint u → IsA t.CloseParen c → IsA t.CloseParen d → IsA t.CloseParen e → WordTree (a ∷ o ∷ p ∷ n ∷ q ∷ (u ++ c ∷ d ∷ e ∷ [])) fword.Hint
  size_alone : (a o p n d e : Lexeme) (f : FWord) (args : Vec Expr) → IsA t.Attribute a → IsA t.OpenParen o → IsA t.OpenParen p → IsA t.Name n → SizeOf n args f → args.items ≡ [] → IsA t.CloseParen d → IsA t.CloseParen e → WordTree (a ∷ o ∷ p ∷ n ∷ d ∷ e ∷ []) f
  size : (a o p n q c d e : Lexeme) (u : List Lexeme) (f : FWord) (args : Vec Expr) → IsA t.Attribute a → IsA t.OpenParen o → IsA t.OpenParen p → IsA t.Name n → SizeOf n args f → IsA t.OpenParen q → AssignTrees u args.items → IsA t.CloseParen c → IsA t.CloseParen d → IsA t.CloseParen e → WordTree (a ∷ o ∷ p ∷ n ∷ q ∷ (u ++ c ∷ d ∷ e ∷ [])) f

pub data WordTrees : List Lexeme → List FWord → Type 0 where
  none : WordTrees [] []
  more : (u v : List Lexeme) (f : FWord) (fs : List FWord) → WordTree u f → WordTrees v fs → WordTrees (u ++ v) (f ∷ fs)

pub data ExternalTree : List Lexeme → External → Type 0 where
  typedef : (h s : Lexeme) (u v : List Lexeme) (spec : Spec) (name : Declor) → IsA t.Typedef h → SpecTree u spec → DeclorTree v name → IsA t.Semicolon s → ExternalTree (h ∷ (u ++ (v ++ s ∷ []))) (external.Typedef spec name)
  types : (s : Lexeme) (u : List Lexeme) (spec : Spec) → SpecTree u spec → IsA t.Semicolon s → ExternalTree (u ++ s ∷ []) (external.Struct spec)
  constants : (s : Lexeme) (u v w : List Lexeme) (spec : Spec) (items : Vec InitDeclor) → MayBeStatic u → SpecTree v spec → InitDeclorTrees w items.items → IsA t.Semicolon s → ExternalTree (u ++ (v ++ (w ++ s ∷ []))) (external.Constant spec items)
  declared : (n o c s : Lexeme) (u v w : List Lexeme) (words : Vec FWord) (spec : Spec) (params : Vec Param) → WordTrees u words.items → SpecTree v spec → IsA t.Name n → IsA t.OpenParen o → ParamListTree w params.items → IsA t.CloseParen c → IsA t.Semicolon s → ExternalTree (u ++ (v ++ n ∷ o ∷ (w ++ c ∷ s ∷ []))) (external.Function words spec n.text n.place params None)
  defined : (n o c : Lexeme) (u v w x : List Lexeme) (words : Vec FWord) (spec : Spec) (params : Vec Param) (body : Stmt) → WordTrees u words.items → SpecTree v spec → IsA t.Name n → IsA t.OpenParen o → ParamListTree w params.items → IsA t.CloseParen c → BlockTree x body → ExternalTree (u ++ (v ++ n ∷ o ∷ (w ++ c ∷ x))) (external.Function words spec n.text n.place params (Some body))
