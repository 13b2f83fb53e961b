-- The parts of two statements that say the same.
use Rattle.std.proofs.Common.{◌≡◌, List, [], ◌∷◌, map, Option, refl, sym, ap, ◌∙◌, subst}
use Rattle.std.specs.Global.{Vec}
use Rattle.clv_place.specs.declared.place.Place.{Place}
use Rattle.cl_ast.specs.declared.declaration.InitDeclor.{InitDeclor}
use Rattle.cl_ast.specs.declared.expression.Expr.{Expr}
use Rattle.cl_ast.specs.declared.expression.Spec.{Spec}
use Rattle.cl_ast.specs.declared.statement.Group.{Group}
use Rattle.cl_ast.specs.declared.statement.Label.{Label}
use Rattle.cl_ast.specs.declared.statement.Stmt.{Stmt}
use Rattle.cl_ast.specs.declared.statement.StmtNode.{StmtNode}
use Rattle.cl_ast.specs.declared.statement.StmtNode.TheVariants as node
use Rattle.cl_ast.specs.declared.statement.StmtNode.TheVariants.{rolls-Block, rolls-Decl, rolls-Expr, rolls-If, rolls-While, rolls-Do, rolls-For, rolls-Switch, rolls-Break, rolls-Continue, rolls-Return, rolls-Empty}
use Rattle.cl_ast.specs.declared.statement.StmtNode.TheOpen.{StmtNode-F}
use Rattle.cl_ast.specs.declared.statement.StmtNode.TheOpen as layer
use Rattle.cl_ast.specs.declared.statement.StmtNode.TheViews.{out-Stmt, out-Group, out-StmtNode, roll-StmtNode, roll-out-StmtNode}
use Rattle.cl_ast.specs.declared.statement.StmtNode.TheFolds.{fold-roll-StmtNode, fold_out-Stmt, fold_out-Group}
use Rattle.cl_type_expr.specs.Syntax.{IsStmt, IsGroup}
use Rattle.cl_plain.specs.Plain.{Plain, Plains, Head, tree, plains, over, plain_expr, plain_spec, plain_declared, in_option, plain_label, stmt_node_over, group_over, stmt_over, plain_stmt, plain_stmt_node, plain_group}
use Rattle.cl_plain.specs.Plain as h
use Rattle.cl_verdicts.proofs.PlainAlike.{Alike, MayBeAlike, may_be_alike, plains_alike, head_of, parts_of, first_same, others_same}

-- ---- nodes

-- what a node is that says this
abbrev Said : Head → Plains → StmtNode → Type 0
Said h.block ts n = (items : Vec Stmt) × (n ≡ node.Block items) × (plains (map plain_stmt items.items) ≡ ts)
Said h.declaration ts n = (said : Spec) × (items : Vec InitDeclor) × (n ≡ node.Decl said items) × (plains (plain_spec said ∷ map plain_declared items.items) ≡ ts)
Said h.evaluated ts n = (e : Expr) × (n ≡ node.Expr e) × (plains (plain_expr e ∷ []) ≡ ts)
Said h.choice ts n = (e : Expr) × (arms : Vec Stmt) × (n ≡ node.If e arms) × (plains (plain_expr e ∷ map plain_stmt arms.items) ≡ ts)
Said h.while_loop ts n = (e : Expr) × (body : Vec Stmt) × (n ≡ node.While e body) × (plains (plain_expr e ∷ map plain_stmt body.items) ≡ ts)
Said h.do_loop ts n = (body : Vec Stmt) × (e : Expr) × (n ≡ node.Do body e) × (plains (plain_expr e ∷ map plain_stmt body.items) ≡ ts)
Said h.for_loop ts n = (decl : Vec Stmt) × (first : Option Expr) × (cond : Option Expr) × (next : Option Expr) × (body : Vec Stmt) × (n ≡ node.For decl first cond next body) × (plains (over h.list (map plain_stmt decl.items) ∷ in_option plain_expr first ∷ in_option plain_expr cond ∷ in_option plain_expr next ∷ map plain_stmt body.items) ≡ ts)
Said h.switch ts n = (e : Expr) × (groups : Vec Group) × (n ≡ node.Switch e groups) × (plains (plain_expr e ∷ map plain_group groups.items) ≡ ts)
Said h.break ts n = n ≡ node.Break
Said h.continue ts n = n ≡ node.Continue
Said h.return ts n = (e : Option Expr) × (n ≡ node.Return e) × (plains (in_option plain_expr e ∷ []) ≡ ts)
Said h.empty ts n = n ≡ node.Empty
Said _ ts n = Unit {0}

abbrev SaidIn : Plain → StmtNode → Type 0
SaidIn (tree h ts) n = Said h ts n

said_layer : (x : StmtNode-F StmtNode Group Stmt) → SaidIn (plain_stmt_node (roll-StmtNode x)) (roll-StmtNode x)
said_layer (layer.Block items) = subst (λ p. SaidIn p (roll-StmtNode (layer.Block items))) (sym (fold-roll-StmtNode Plain Plain Plain stmt_node_over group_over stmt_over (layer.Block items))) (items, rolls-Block items, refl)
said_layer (layer.Decl said items) = subst (λ p. SaidIn p (roll-StmtNode (layer.Decl said items))) (sym (fold-roll-StmtNode Plain Plain Plain stmt_node_over group_over stmt_over (layer.Decl said items))) (said, items, rolls-Decl said items, refl)
said_layer (layer.Expr e) = subst (λ p. SaidIn p (roll-StmtNode (layer.Expr e))) (sym (fold-roll-StmtNode Plain Plain Plain stmt_node_over group_over stmt_over (layer.Expr e))) (e, rolls-Expr e, refl)
said_layer (layer.If e arms) = subst (λ p. SaidIn p (roll-StmtNode (layer.If e arms))) (sym (fold-roll-StmtNode Plain Plain Plain stmt_node_over group_over stmt_over (layer.If e arms))) (e, arms, rolls-If e arms, refl)
said_layer (layer.While e body) = subst (λ p. SaidIn p (roll-StmtNode (layer.While e body))) (sym (fold-roll-StmtNode Plain Plain Plain stmt_node_over group_over stmt_over (layer.While e body))) (e, body, rolls-While e body, refl)
said_layer (layer.Do body e) = subst (λ p. SaidIn p (roll-StmtNode (layer.Do body e))) (sym (fold-roll-StmtNode Plain Plain Plain stmt_node_over group_over stmt_over (layer.Do body e))) (body, e, rolls-Do body e, refl)
said_layer (layer.For decl first cond next body) = subst (λ p. SaidIn p (roll-StmtNode (layer.For decl first cond next body))) (sym (fold-roll-StmtNode Plain Plain Plain stmt_node_over group_over stmt_over (layer.For decl first cond next body))) (decl, first, cond, next, body, rolls-For decl first cond next body, refl)
said_layer (layer.Switch e groups) = subst (λ p. SaidIn p (roll-StmtNode (layer.Switch e groups))) (sym (fold-roll-StmtNode Plain Plain Plain stmt_node_over group_over stmt_over (layer.Switch e groups))) (e, groups, rolls-Switch e groups, refl)
said_layer layer.Break = subst (λ p. SaidIn p (roll-StmtNode layer.Break)) (sym (fold-roll-StmtNode Plain Plain Plain stmt_node_over group_over stmt_over layer.Break)) rolls-Break
said_layer layer.Continue = subst (λ p. SaidIn p (roll-StmtNode layer.Continue)) (sym (fold-roll-StmtNode Plain Plain Plain stmt_node_over group_over stmt_over layer.Continue)) rolls-Continue
said_layer (layer.Return e) = subst (λ p. SaidIn p (roll-StmtNode (layer.Return e))) (sym (fold-roll-StmtNode Plain Plain Plain stmt_node_over group_over stmt_over (layer.Return e))) (e, rolls-Return e, refl)
said_layer layer.Empty = subst (λ p. SaidIn p (roll-StmtNode layer.Empty)) (sym (fold-roll-StmtNode Plain Plain Plain stmt_node_over group_over stmt_over layer.Empty)) rolls-Empty

said : (n : StmtNode) → SaidIn (plain_stmt_node n) n
said n = subst (λ m. SaidIn (plain_stmt_node m) m) (roll-out-StmtNode n) (said_layer (out-StmtNode n))

module _ (m n : StmtNode) (same : plain_stmt_node m ≡ plain_stmt_node n) (x : StmtNode-F StmtNode Group Stmt) (rolls : roll-StmtNode x ≡ n) (p : Plain) (is : plain_stmt_node (roll-StmtNode x) ≡ p) where
  said_as : SaidIn p m
  said_as = subst (λ t. SaidIn t m) (same ∙ sym (ap plain_stmt_node rolls) ∙ is) (said m)

-- ---- statements by their parts

stmt_says : (s : Stmt) → plain_stmt s ≡ over (h.stmt (out-Stmt s).place) (plain_stmt_node (out-Stmt s).node ∷ [])
stmt_says s = fold_out-Stmt Plain Plain Plain stmt_node_over group_over stmt_over s

abbrev place_in : Place → Head → Place
place_in p (h.stmt q) = q
place_in p _ = p

module _ (s f : Stmt) (same : plain_stmt f ≡ plain_stmt s) where
  whole : over (h.stmt (out-Stmt f).place) (plain_stmt_node (out-Stmt f).node ∷ []) ≡ over (h.stmt (out-Stmt s).place) (plain_stmt_node (out-Stmt s).node ∷ [])
  whole = sym (stmt_says f) ∙ same ∙ stmt_says s

  pub place_same : (out-Stmt f).place ≡ (out-Stmt s).place
  place_same = ap (λ t. place_in (out-Stmt f).place (head_of t)) whole

  node_same : plain_stmt_node (out-Stmt f).node ≡ plain_stmt_node (out-Stmt s).node
  node_same = first_same _ _ _ _ (ap parts_of whole)

-- a statement that says the same as one with these parts
pub record BlockAs (f : Stmt) (place : Place) (items : List Stmt) : Type 0 where
  pub all : Vec Stmt
  pub is : IsStmt f place (node.Block all)
  pub same : Alike plain_stmt all.items items

pub record DeclarationAs (f : Stmt) (place : Place) (spec : Spec) (items : List InitDeclor) : Type 0 where
  pub words : Spec
  pub all : Vec InitDeclor
  pub is : IsStmt f place (node.Decl words all)
  pub words_same : plain_spec words ≡ plain_spec spec
  pub same : Alike plain_declared all.items items

pub record ExpressionAs (f : Stmt) (place : Place) (e : Expr) : Type 0 where
  pub of : Expr
  pub is : IsStmt f place (node.Expr of)
  pub same : plain_expr of ≡ plain_expr e

pub record ChoiceAs (f : Stmt) (place : Place) (e : Expr) (arms : List Stmt) : Type 0 where
  pub of : Expr
  pub all : Vec Stmt
  pub is : IsStmt f place (node.If of all)
  pub of_same : plain_expr of ≡ plain_expr e
  pub same : Alike plain_stmt all.items arms

pub record WhileAs (f : Stmt) (place : Place) (e : Expr) (body : List Stmt) : Type 0 where
  pub of : Expr
  pub all : Vec Stmt
  pub is : IsStmt f place (node.While of all)
  pub of_same : plain_expr of ≡ plain_expr e
  pub same : Alike plain_stmt all.items body

pub record DoAs (f : Stmt) (place : Place) (body : List Stmt) (e : Expr) : Type 0 where
  pub of : Expr
  pub all : Vec Stmt
  pub is : IsStmt f place (node.Do all of)
  pub of_same : plain_expr of ≡ plain_expr e
  pub same : Alike plain_stmt all.items body

pub record ForAs (f : Stmt) (place : Place) (decl : List Stmt) (first cond next : Option Expr) (body : List Stmt) : Type 0 where
  pub declared : Vec Stmt
  pub begin : Option Expr
  pub test : Option Expr
  pub step : Option Expr
  pub all : Vec Stmt
  pub is : IsStmt f place (node.For declared begin test step all)
  pub declared_same : Alike plain_stmt declared.items decl
  pub begin_same : MayBeAlike plain_expr begin first
  pub test_same : MayBeAlike plain_expr test cond
  pub step_same : MayBeAlike plain_expr step next
  pub same : Alike plain_stmt all.items body

pub record SwitchAs (f : Stmt) (place : Place) (e : Expr) (groups : List Group) : Type 0 where
  pub of : Expr
  pub all : Vec Group
  pub is : IsStmt f place (node.Switch of all)
  pub of_same : plain_expr of ≡ plain_expr e
  pub same : Alike plain_group all.items groups

pub record ReturnAs (f : Stmt) (place : Place) (e : Option Expr) : Type 0 where
  pub of : Option Expr
  pub is : IsStmt f place (node.Return of)
  pub same : MayBeAlike plain_expr of e

module _ (s f : Stmt) (same : plain_stmt f ≡ plain_stmt s) (place : Place) where
  here : (n m : StmtNode) → IsStmt s place n → (out-Stmt f).node ≡ m → IsStmt f place m
  here n m x is = record { at = place_same s f same ∙ x.at; is = is }

  -- what the node of the second one is
  node_as : (x : StmtNode-F StmtNode Group Stmt) (n : StmtNode) → roll-StmtNode x ≡ n → (p : Plain) → plain_stmt_node (roll-StmtNode x) ≡ p → IsStmt s place n → SaidIn p (out-Stmt f).node
  node_as x n rolls p is at = said_as (out-Stmt f).node n (node_same s f same ∙ ap plain_stmt_node at.is) x rolls p is

  pub block_as : (items : Vec Stmt) → IsStmt s place (node.Block items) → BlockAs f place items.items
  block_as items x =
      let p = node_as (layer.Block items) _ (rolls-Block items) _ (fold-roll-StmtNode Plain Plain Plain stmt_node_over group_over stmt_over (layer.Block items)) x in
      record { all = p.0; is = here _ _ x p.1; same = plains_alike plain_stmt _ _ p.2 }

  pub declaration_as : (spec : Spec) (items : Vec InitDeclor) → IsStmt s place (node.Decl spec items) → DeclarationAs f place spec items.items
  declaration_as spec items x =
      let p = node_as (layer.Decl spec items) _ (rolls-Decl spec items) _ (fold-roll-StmtNode Plain Plain Plain stmt_node_over group_over stmt_over (layer.Decl spec items)) x in
      record { words = p.0; all = p.1; is = here _ _ x p.2; words_same = first_same _ _ _ _ p.3; same = plains_alike plain_declared _ _ (others_same _ _ _ _ p.3) }

  pub expression_as : (e : Expr) → IsStmt s place (node.Expr e) → ExpressionAs f place e
  expression_as e x =
      let p = node_as (layer.Expr e) _ (rolls-Expr e) _ (fold-roll-StmtNode Plain Plain Plain stmt_node_over group_over stmt_over (layer.Expr e)) x in
      record { of = p.0; is = here _ _ x p.1; same = first_same _ _ _ _ p.2 }

  pub choice_as : (e : Expr) (arms : Vec Stmt) → IsStmt s place (node.If e arms) → ChoiceAs f place e arms.items
  choice_as e arms x =
      let p = node_as (layer.If e arms) _ (rolls-If e arms) _ (fold-roll-StmtNode Plain Plain Plain stmt_node_over group_over stmt_over (layer.If e arms)) x in
      record { of = p.0; all = p.1; is = here _ _ x p.2; of_same = first_same _ _ _ _ p.3; same = plains_alike plain_stmt _ _ (others_same _ _ _ _ p.3) }

  pub while_as : (e : Expr) (body : Vec Stmt) → IsStmt s place (node.While e body) → WhileAs f place e body.items
  while_as e body x =
      let p = node_as (layer.While e body) _ (rolls-While e body) _ (fold-roll-StmtNode Plain Plain Plain stmt_node_over group_over stmt_over (layer.While e body)) x in
      record { of = p.0; all = p.1; is = here _ _ x p.2; of_same = first_same _ _ _ _ p.3; same = plains_alike plain_stmt _ _ (others_same _ _ _ _ p.3) }

  pub do_as : (body : Vec Stmt) (e : Expr) → IsStmt s place (node.Do body e) → DoAs f place body.items e
  do_as body e x =
      let p = node_as (layer.Do body e) _ (rolls-Do body e) _ (fold-roll-StmtNode Plain Plain Plain stmt_node_over group_over stmt_over (layer.Do body e)) x in
      record { of = p.1; all = p.0; is = here _ _ x p.2; of_same = first_same _ _ _ _ p.3; same = plains_alike plain_stmt _ _ (others_same _ _ _ _ p.3) }

  pub for_as : (decl : Vec Stmt) (first cond next : Option Expr) (body : Vec Stmt) → IsStmt s place (node.For decl first cond next body) → ForAs f place decl.items first cond next body.items
  for_as decl first cond next body x =
      let p = node_as (layer.For decl first cond next body) _ (rolls-For decl first cond next body) _ (fold-roll-StmtNode Plain Plain Plain stmt_node_over group_over stmt_over (layer.For decl first cond next body)) x in
      let b = others_same _ _ _ _ p.6 in
      let c = others_same _ _ _ _ b in
      let d = others_same _ _ _ _ c in
      record {
        declared = p.0;
        begin = p.1;
        test = p.2;
        step = p.3;
        all = p.4;
        is = here _ _ x p.5;
        declared_same = plains_alike plain_stmt _ _ (ap parts_of (first_same _ _ _ _ p.6));
        begin_same = may_be_alike plain_expr _ _ (first_same _ _ _ _ b);
        test_same = may_be_alike plain_expr _ _ (first_same _ _ _ _ c);
        step_same = may_be_alike plain_expr _ _ (first_same _ _ _ _ d);
        same = plains_alike plain_stmt _ _ (others_same _ _ _ _ d);
      }

  pub switch_as : (e : Expr) (groups : Vec Group) → IsStmt s place (node.Switch e groups) → SwitchAs f place e groups.items
  switch_as e groups x =
      let p = node_as (layer.Switch e groups) _ (rolls-Switch e groups) _ (fold-roll-StmtNode Plain Plain Plain stmt_node_over group_over stmt_over (layer.Switch e groups)) x in
      record { of = p.0; all = p.1; is = here _ _ x p.2; of_same = first_same _ _ _ _ p.3; same = plains_alike plain_group _ _ (others_same _ _ _ _ p.3) }

  pub break_as : IsStmt s place node.Break → IsStmt f place node.Break
  break_as x = here _ _ x (node_as layer.Break _ rolls-Break _ (fold-roll-StmtNode Plain Plain Plain stmt_node_over group_over stmt_over layer.Break) x)

  pub continue_as : IsStmt s place node.Continue → IsStmt f place node.Continue
  continue_as x = here _ _ x (node_as layer.Continue _ rolls-Continue _ (fold-roll-StmtNode Plain Plain Plain stmt_node_over group_over stmt_over layer.Continue) x)

  pub empty_as : IsStmt s place node.Empty → IsStmt f place node.Empty
  empty_as x = here _ _ x (node_as layer.Empty _ rolls-Empty _ (fold-roll-StmtNode Plain Plain Plain stmt_node_over group_over stmt_over layer.Empty) x)

  pub return_as : (e : Option Expr) → IsStmt s place (node.Return e) → ReturnAs f place e
  return_as e x =
      let p = node_as (layer.Return e) _ (rolls-Return e) _ (fold-roll-StmtNode Plain Plain Plain stmt_node_over group_over stmt_over (layer.Return e)) x in
      record { of = p.0; is = here _ _ x p.1; same = may_be_alike plain_expr _ _ (first_same _ _ _ _ p.2) }

-- ---- sections and labels

pub record GroupAs (g : Group) (labels : List Label) (body : List Stmt) : Type 0 where
  pub names : List Label
  pub all : List Stmt
  pub is : IsGroup g names all
  pub names_same : Alike plain_label names labels
  pub same : Alike plain_stmt all body

group_says : (g : Group) → plain_group g ≡ over h.group (over h.list (map plain_label (out-Group g).labels.items) ∷ map plain_stmt (out-Group g).body.items)
group_says g = fold_out-Group Plain Plain Plain stmt_node_over group_over stmt_over g

pub group_as : (g f : Group) → plain_group f ≡ plain_group g → (labels : List Label) (body : List Stmt) → IsGroup g labels body → GroupAs f labels body
group_as g f same labels body x =
    let p = ap parts_of (sym (group_says f) ∙ same ∙ group_says g) in
    record {
      names = (out-Group f).labels.items;
      all = (out-Group f).body.items;
      is = record { under = refl; has = refl };
      names_same = subst (λ ls. Alike plain_label (out-Group f).labels.items ls) x.under (plains_alike plain_label _ _ (ap parts_of (first_same _ _ _ _ p)));
      same = subst (λ ss. Alike plain_stmt (out-Group f).body.items ss) x.has (plains_alike plain_stmt _ _ (others_same _ _ _ _ p));
    }

abbrev label_place : Place → Head → Place
label_place p (h.label q) = q
label_place p _ = p

pub label_place_same : (l k : Label) → plain_label k ≡ plain_label l → k.place ≡ l.place
label_place_same l k p = ap (λ t. label_place k.place (head_of t)) p

pub label_same : (l k : Label) → plain_label k ≡ plain_label l → MayBeAlike plain_expr k.value l.value
label_same l k p = may_be_alike plain_expr _ _ (first_same _ _ _ _ (ap parts_of p))
