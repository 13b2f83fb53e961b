-- The parts of two trees that say the same: expressions, and the types in them.
use Rattle.std.specs.Global.{Vec}
use Rattle.std.proofs.Common.{◌≡◌, ℕ, List, [], ◌∷◌, map, refl, sym, ap, ◌∙◌, Bool, Option, Some, None}
use Rattle.clv_place.specs.declared.place.Place.{Place}
use Rattle.cl_types.specs.declared.operator.UnOp.{UnOp}
use Rattle.cl_types.specs.declared.types.ClType.{ClType}
use Rattle.cl_ast.specs.declared.expression.Base.{Base}
use Rattle.cl_ast.specs.declared.expression.Base.TheVariants as base
use Rattle.cl_ast.specs.declared.expression.Base.TheVariants.{rolls-Void, rolls-Bool, rolls-Int, rolls-Vector, rolls-Sized, rolls-Named, rolls-Struct}
use Rattle.cl_ast.specs.declared.expression.Base.TheOpen.{Base-F, ExprNode-F}
use Rattle.cl_ast.specs.declared.expression.Base.TheOpen as layer
use Rattle.cl_ast.specs.declared.expression.Base.TheViews.{out-Expr, out-TypeTerm, out-Spec, out-Field, out-Declor, out-Base, out-ExprNode, roll-Base, roll-ExprNode, roll-out-Base, roll-out-ExprNode}
use Rattle.cl_ast.specs.declared.expression.Base.TheFolds.{fold-roll-Base, fold-roll-ExprNode, fold_out-Expr, fold_out-TypeTerm, fold_out-Spec, fold_out-Field, fold_out-Declor}
use Rattle.cl_ast.specs.declared.expression.Declor.{Declor}
use Rattle.cl_ast.specs.declared.expression.Expr.{Expr}
use Rattle.cl_ast.specs.declared.expression.ExprNode.{ExprNode}
use Rattle.cl_ast.specs.declared.expression.ExprNode.TheVariants as node
use Rattle.cl_ast.specs.declared.expression.ExprNode.TheVariants.{rolls-Name, rolls-Number, rolls-Unary, rolls-Binary, rolls-Assign, rolls-Cond, rolls-Cast, rolls-Vector as rolls_literal, rolls-Call, rolls-Index, rolls-Member, rolls-SizeofType, rolls-Comma}
use Rattle.cl_ast.specs.declared.expression.Field.{Field}
use Rattle.cl_ast.specs.declared.expression.Qual.{Qual}
use Rattle.cl_ast.specs.declared.expression.Spec.{Spec}
use Rattle.cl_ast.specs.declared.expression.TypeTerm.{TypeTerm}
use Rattle.cl_tree.specs.declared.shape.Shape.{Shape}
use Rattle.cl_rules.specs.declared.rule.Judged.{Judged}
use Rattle.cl_rules.specs.declared.rule.Operand.{Operand}
use Rattle.cl_scope.specs.Names.{Env}
use Rattle.cl_type_expr.specs.Judging.{judge}
use Rattle.cl_type_expr.specs.Offences.{HoldsNoType}
use Rattle.cl_words.specs.Words.{word_shape}
use Rattle.cl_type_expr.specs.Syntax.{items_of, IsExpr, IsTerm, IsSpec, IsField, IsDeclor, IsStruct}
use Rattle.cl_plain.specs.Plain.{Head, Plain, plains, over, leaf, may_be, expr, untyped, cast, vector, size_of_type, term, spec, word, tag, struct, field, declor, base_over, node_over, declor_over, expr_over, field_over, spec_over, term_over, plain_expr, plain_node, plain_spec, plain_base, plain_term, plain_field, plain_declor, in_option}

-- ---- trees of what is said

pub plains_one : (ts us : List Plain) → plains ts ≡ plains us → ts ≡ us
plains_one [] [] h = refl
plains_one [] (u ∷ us) h = cc
plains_one (t ∷ ts) [] h = cc
plains_one (t ∷ ts) (u ∷ us) h = let e : plains ts ≡ plains us = cc in let f = plains_one ts us e in cc

pub over_one : (h k : Head) (ts us : List Plain) → over h ts ≡ over k us → (h ≡ k) × (ts ≡ us)
over_one h k ts us e = let f : plains ts ≡ plains us = cc in (cc, plains_one ts us f)

-- ---- what a node says, by its parts

pub expr_says : (e : Expr) → plain_expr e ≡ over (expr (out-Expr e).place) (plain_node (out-Expr e).node ∷ map plain_expr (out-Expr e).args.items)
expr_says e = fold_out-Expr Plain Plain Plain Plain Plain Plain Plain base_over node_over declor_over expr_over field_over spec_over term_over e

pub term_says : (t : TypeTerm) → plain_term t ≡ over (term (out-TypeTerm t).star) (plain_spec (out-TypeTerm t).spec ∷ [])
term_says t = fold_out-TypeTerm Plain Plain Plain Plain Plain Plain Plain base_over node_over declor_over expr_over field_over spec_over term_over t

pub spec_says : (s : Spec) → plain_spec s ≡ over (spec (out-Spec s).quals) (plain_base (out-Spec s).base ∷ [])
spec_says s = fold_out-Spec Plain Plain Plain Plain Plain Plain Plain base_over node_over declor_over expr_over field_over spec_over term_over s

pub field_says : (f : Field) → plain_field f ≡ over field (plain_spec (out-Field f).spec ∷ map plain_declor (out-Field f).names.items)
field_says f = fold_out-Field Plain Plain Plain Plain Plain Plain Plain base_over node_over declor_over expr_over field_over spec_over term_over f

options_say : (f : Option Expr → Option Plain) → ((e : Expr) → f (Some e) ≡ Some (plain_expr e)) → f None ≡ None → (es : List (Option Expr)) → map may_be (map f es) ≡ map (in_option plain_expr) es
options_say f at_some at_none [] = refl
options_say f at_some at_none (Some e ∷ es) = let h = options_say f at_some at_none es in let k : may_be (f (Some e)) ≡ in_option plain_expr (Some e) = ap may_be (at_some e) in cc
options_say f at_some at_none (None ∷ es) = let h = options_say f at_some at_none es in let k : may_be (f None) ≡ in_option plain_expr None = ap may_be at_none in cc

pub declor_says : (d : Declor) → plain_declor d ≡ over (declor (out-Declor d).star (out-Declor d).name (out-Declor d).place) (map (in_option plain_expr) (out-Declor d).lengths.items)
declor_says d = fold_out-Declor Plain Plain Plain Plain Plain Plain Plain base_over node_over declor_over expr_over field_over spec_over term_over d ∙ ap (over (declor (out-Declor d).star (out-Declor d).name (out-Declor d).place)) (options_say _ (λ e. refl) refl (out-Declor d).lengths.items)

-- ---- nodes of expressions

-- a node that holds no type, and the three that do
pub data NodeView (n : ExprNode) : Type 0 where
  plainly : plain_node n ≡ leaf (untyped n) → NodeView n
  as_cast : (t : TypeTerm) → n ≡ node.Cast t → plain_node n ≡ over cast (plain_term t ∷ []) → NodeView n
  as_vector : (t : TypeTerm) → n ≡ node.Vector t → plain_node n ≡ over vector (plain_term t ∷ []) → NodeView n
  as_size : (t : TypeTerm) → n ≡ node.SizeofType t → plain_node n ≡ over size_of_type (plain_term t ∷ []) → NodeView n

pub node_view : (n : ExprNode) → NodeView n
node_view n = by (out-ExprNode n) (roll-out-ExprNode n)
  where
    by : (l : ExprNode-F Base ExprNode Declor Expr Field Spec TypeTerm) → roll-ExprNode l ≡ n → NodeView n
    by (layer.Name text) e = let f : roll-ExprNode (layer.Name text) ≡ node.Name text = rolls-Name text in let g : plain_node (roll-ExprNode (layer.Name text)) ≡ leaf (untyped (node.Name text)) = fold-roll-ExprNode Plain Plain Plain Plain Plain Plain Plain base_over node_over declor_over expr_over field_over spec_over term_over (layer.Name text) in plainly cc
    by (layer.Number value ty) e = let f : roll-ExprNode (layer.Number value ty) ≡ node.Number value ty = rolls-Number value ty in let g : plain_node (roll-ExprNode (layer.Number value ty)) ≡ leaf (untyped (node.Number value ty)) = fold-roll-ExprNode Plain Plain Plain Plain Plain Plain Plain base_over node_over declor_over expr_over field_over spec_over term_over (layer.Number value ty) in plainly cc
    by (layer.Unary op) e = let f : roll-ExprNode (layer.Unary op) ≡ node.Unary op = rolls-Unary op in let g : plain_node (roll-ExprNode (layer.Unary op)) ≡ leaf (untyped (node.Unary op)) = fold-roll-ExprNode Plain Plain Plain Plain Plain Plain Plain base_over node_over declor_over expr_over field_over spec_over term_over (layer.Unary op) in plainly cc
    by (layer.Binary op) e = let f : roll-ExprNode (layer.Binary op) ≡ node.Binary op = rolls-Binary op in let g : plain_node (roll-ExprNode (layer.Binary op)) ≡ leaf (untyped (node.Binary op)) = fold-roll-ExprNode Plain Plain Plain Plain Plain Plain Plain base_over node_over declor_over expr_over field_over spec_over term_over (layer.Binary op) in plainly cc
    by (layer.Assign op) e = let f : roll-ExprNode (layer.Assign op) ≡ node.Assign op = rolls-Assign op in let g : plain_node (roll-ExprNode (layer.Assign op)) ≡ leaf (untyped (node.Assign op)) = fold-roll-ExprNode Plain Plain Plain Plain Plain Plain Plain base_over node_over declor_over expr_over field_over spec_over term_over (layer.Assign op) in plainly cc
    by layer.Cond e = let f : roll-ExprNode layer.Cond ≡ node.Cond = rolls-Cond in let g : plain_node (roll-ExprNode layer.Cond) ≡ leaf (untyped node.Cond) = fold-roll-ExprNode Plain Plain Plain Plain Plain Plain Plain base_over node_over declor_over expr_over field_over spec_over term_over layer.Cond in plainly cc
    by (layer.Call text) e = let f : roll-ExprNode (layer.Call text) ≡ node.Call text = rolls-Call text in let g : plain_node (roll-ExprNode (layer.Call text)) ≡ leaf (untyped (node.Call text)) = fold-roll-ExprNode Plain Plain Plain Plain Plain Plain Plain base_over node_over declor_over expr_over field_over spec_over term_over (layer.Call text) in plainly cc
    by layer.Index e = let f : roll-ExprNode layer.Index ≡ node.Index = rolls-Index in let g : plain_node (roll-ExprNode layer.Index) ≡ leaf (untyped node.Index) = fold-roll-ExprNode Plain Plain Plain Plain Plain Plain Plain base_over node_over declor_over expr_over field_over spec_over term_over layer.Index in plainly cc
    by (layer.Member text arrow) e = let f : roll-ExprNode (layer.Member text arrow) ≡ node.Member text arrow = rolls-Member text arrow in let g : plain_node (roll-ExprNode (layer.Member text arrow)) ≡ leaf (untyped (node.Member text arrow)) = fold-roll-ExprNode Plain Plain Plain Plain Plain Plain Plain base_over node_over declor_over expr_over field_over spec_over term_over (layer.Member text arrow) in plainly cc
    by layer.Comma e = let f : roll-ExprNode layer.Comma ≡ node.Comma = rolls-Comma in let g : plain_node (roll-ExprNode layer.Comma) ≡ leaf (untyped node.Comma) = fold-roll-ExprNode Plain Plain Plain Plain Plain Plain Plain base_over node_over declor_over expr_over field_over spec_over term_over layer.Comma in plainly cc
    by (layer.Cast t) e = let f : roll-ExprNode (layer.Cast t) ≡ node.Cast t = rolls-Cast t in let g : plain_node (roll-ExprNode (layer.Cast t)) ≡ over cast (plain_term t ∷ []) = fold-roll-ExprNode Plain Plain Plain Plain Plain Plain Plain base_over node_over declor_over expr_over field_over spec_over term_over (layer.Cast t) in let x : n ≡ node.Cast t = cc in let y : plain_node n ≡ over cast (plain_term t ∷ []) = cc in as_cast t x y
    by (layer.ExprNode::Vector t) e = let f : roll-ExprNode (layer.ExprNode::Vector t) ≡ node.Vector t = rolls_literal t in let g : plain_node (roll-ExprNode (layer.ExprNode::Vector t)) ≡ over vector (plain_term t ∷ []) = fold-roll-ExprNode Plain Plain Plain Plain Plain Plain Plain base_over node_over declor_over expr_over field_over spec_over term_over (layer.ExprNode::Vector t) in let x : n ≡ node.Vector t = cc in let y : plain_node n ≡ over vector (plain_term t ∷ []) = cc in as_vector t x y
    by (layer.SizeofType t) e = let f : roll-ExprNode (layer.SizeofType t) ≡ node.SizeofType t = rolls-SizeofType t in let g : plain_node (roll-ExprNode (layer.SizeofType t)) ≡ over size_of_type (plain_term t ∷ []) = fold-roll-ExprNode Plain Plain Plain Plain Plain Plain Plain base_over node_over declor_over expr_over field_over spec_over term_over (layer.SizeofType t) in let x : n ≡ node.SizeofType t = cc in let y : plain_node n ≡ over size_of_type (plain_term t ∷ []) = cc in as_size t x y

-- a node without a type is the only one that says so
pub untyped_one : (n m : ExprNode) → plain_node n ≡ leaf (untyped n) → plain_node m ≡ plain_node n → m ≡ n
untyped_one n m h p = by (node_view m)
  where
    by : NodeView m → m ≡ n
    by (plainly e) = cc
    by (as_cast t e f) = cc
    by (as_vector t e f) = cc
    by (as_size t e f) = cc

pub name_untyped : (text : List ℕ) → plain_node (node.Name text) ≡ leaf (untyped (node.Name text))
name_untyped text = ap plain_node (sym (rolls-Name text)) ∙ fold-roll-ExprNode Plain Plain Plain Plain Plain Plain Plain base_over node_over declor_over expr_over field_over spec_over term_over (layer.Name text)

pub number_untyped : (n ty : ℕ) → plain_node (node.Number n ty) ≡ leaf (untyped (node.Number n ty))
number_untyped n ty = ap plain_node (sym (rolls-Number n ty)) ∙ fold-roll-ExprNode Plain Plain Plain Plain Plain Plain Plain base_over node_over declor_over expr_over field_over spec_over term_over (layer.Number n ty)

pub unary_untyped : (op : UnOp) → plain_node (node.Unary op) ≡ leaf (untyped (node.Unary op))
unary_untyped op = ap plain_node (sym (rolls-Unary op)) ∙ fold-roll-ExprNode Plain Plain Plain Plain Plain Plain Plain base_over node_over declor_over expr_over field_over spec_over term_over (layer.Unary op)

pub index_untyped : plain_node node.Index ≡ leaf (untyped node.Index)
index_untyped = ap plain_node (sym rolls-Index) ∙ fold-roll-ExprNode Plain Plain Plain Plain Plain Plain Plain base_over node_over declor_over expr_over field_over spec_over term_over layer.Index

pub member_untyped : (text : List ℕ) (arrow : Bool) → plain_node (node.Member text arrow) ≡ leaf (untyped (node.Member text arrow))
member_untyped text arrow = ap plain_node (sym (rolls-Member text arrow)) ∙ fold-roll-ExprNode Plain Plain Plain Plain Plain Plain Plain base_over node_over declor_over expr_over field_over spec_over term_over (layer.Member text arrow)

pub call_untyped : (text : List ℕ) → plain_node (node.Call text) ≡ leaf (untyped (node.Call text))
call_untyped text = ap plain_node (sym (rolls-Call text)) ∙ fold-roll-ExprNode Plain Plain Plain Plain Plain Plain Plain base_over node_over declor_over expr_over field_over spec_over term_over (layer.Call text)

-- a node that a rule of its own judges by its operands holds no type
pub judged_untyped : (cs : List ClType) (env : Env) (left : Bool) (n : ExprNode) (os : List Operand) (j : Judged) → judge cs env left n os ≡ Some j → plain_node n ≡ leaf (untyped n)
judged_untyped cs env left n os j h = by (node_view n)
  where
    by : NodeView n → plain_node n ≡ leaf (untyped n)
    by (plainly e) = e
    by (as_cast t e f) = let x : judge cs env left n os ≡ None = ap (λ m. judge cs env left m os) e in absurd cc
    by (as_vector t e f) = let x : judge cs env left n os ≡ None = ap (λ m. judge cs env left m os) e in absurd cc
    by (as_size t e f) = let x : judge cs env left n os ≡ None = ap (λ m. judge cs env left m os) e in absurd cc

pub holds_untyped : (n : ExprNode) → HoldsNoType n → plain_node n ≡ leaf (untyped n)
holds_untyped n h = by (node_view n)
  where
    by : NodeView n → plain_node n ≡ leaf (untyped n)
    by (plainly e) = e
    by (as_cast t e f) = absurd (h.no_cast t e)
    by (as_vector t e f) = absurd (h.no_vector t e)
    by (as_size t e f) = absurd (h.no_size t e)

cast_says : (t : TypeTerm) → plain_node (node.Cast t) ≡ over cast (plain_term t ∷ [])
cast_says t = ap plain_node (sym (rolls-Cast t)) ∙ fold-roll-ExprNode Plain Plain Plain Plain Plain Plain Plain base_over node_over declor_over expr_over field_over spec_over term_over (layer.Cast t)

vector_says : (t : TypeTerm) → plain_node (node.Vector t) ≡ over vector (plain_term t ∷ [])
vector_says t = ap plain_node (sym (rolls_literal t)) ∙ fold-roll-ExprNode Plain Plain Plain Plain Plain Plain Plain base_over node_over declor_over expr_over field_over spec_over term_over (layer.ExprNode::Vector t)

size_says : (t : TypeTerm) → plain_node (node.SizeofType t) ≡ over size_of_type (plain_term t ∷ [])
size_says t = ap plain_node (sym (rolls-SizeofType t)) ∙ fold-roll-ExprNode Plain Plain Plain Plain Plain Plain Plain base_over node_over declor_over expr_over field_over spec_over term_over (layer.SizeofType t)

-- a node that says the same holds a type that says the same
abbrev Holds : (TypeTerm → ExprNode) → ExprNode → TypeTerm → Type 0
Holds of m t = (u : TypeTerm) × (m ≡ of u) × (plain_term u ≡ plain_term t)

cast_one : (t : TypeTerm) (m : ExprNode) → plain_node m ≡ plain_node (node.Cast t) → Holds (λ u. node.Cast u) m t
cast_one t m p = let h = cast_says t in by (node_view m)
  where
    by : NodeView m → Holds (λ u. node.Cast u) m t
    by (plainly e) = let h = cast_says t in let x : leaf (untyped m) ≡ over cast (plain_term t ∷ []) = cc in cc
    by (as_cast u e f) = let h = cast_says t in let x : plain_term u ≡ plain_term t = cc in (u, e, x)
    by (as_vector u e f) = let h = cast_says t in let x : over vector (plain_term u ∷ []) ≡ over cast (plain_term t ∷ []) = cc in absurd cc
    by (as_size u e f) = let h = cast_says t in let x : over size_of_type (plain_term u ∷ []) ≡ over cast (plain_term t ∷ []) = cc in absurd cc

vector_one : (t : TypeTerm) (m : ExprNode) → plain_node m ≡ plain_node (node.Vector t) → Holds (λ u. node.Vector u) m t
vector_one t m p = by (node_view m)
  where
    by : NodeView m → Holds (λ u. node.Vector u) m t
    by (plainly e) = let h = vector_says t in let x : leaf (untyped m) ≡ over vector (plain_term t ∷ []) = cc in absurd cc
    by (as_cast u e f) = let h = vector_says t in let x : over cast (plain_term u ∷ []) ≡ over vector (plain_term t ∷ []) = cc in absurd cc
    by (as_vector u e f) = let h = vector_says t in let x : plain_term u ≡ plain_term t = cc in (u, e, x)
    by (as_size u e f) = let h = vector_says t in let x : over size_of_type (plain_term u ∷ []) ≡ over vector (plain_term t ∷ []) = cc in absurd cc

size_one : (t : TypeTerm) (m : ExprNode) → plain_node m ≡ plain_node (node.SizeofType t) → Holds (λ u. node.SizeofType u) m t
size_one t m p = by (node_view m)
  where
    by : NodeView m → Holds (λ u. node.SizeofType u) m t
    by (plainly e) = let h = size_says t in let x : leaf (untyped m) ≡ over size_of_type (plain_term t ∷ []) = cc in absurd cc
    by (as_cast u e f) = let h = size_says t in let x : over cast (plain_term u ∷ []) ≡ over size_of_type (plain_term t ∷ []) = cc in absurd cc
    by (as_vector u e f) = let h = size_says t in let x : over vector (plain_term u ∷ []) ≡ over size_of_type (plain_term t ∷ []) = cc in absurd cc
    by (as_size u e f) = let h = size_says t in let x : plain_term u ≡ plain_term t = cc in (u, e, x)

-- ---- expressions by their fields

-- a node that holds no type, with operands that say the same
pub record IsNodeAs (e : Expr) (place : Place) (n : ExprNode) (args : List Expr) : Type 0 where
  pub operands : List Expr
  pub is : IsExpr e place n operands
  pub same : map plain_expr operands ≡ map plain_expr args

-- a node that holds a type
pub record IsTypeAs (of : TypeTerm → ExprNode) (e : Expr) (place : Place) (term : TypeTerm) (args : List Expr) : Type 0 where
  pub holds : TypeTerm
  pub operands : List Expr
  pub is : IsExpr e place (of holds) operands
  pub said : plain_term holds ≡ plain_term term
  pub same : map plain_expr operands ≡ map plain_expr args

-- what an expression says, by its fields
expr_by : (e : Expr) (place : Place) (n : ExprNode) (args : List Expr) → IsExpr e place n args → plain_expr e ≡ over (expr place) (plain_node n ∷ map plain_expr args)
expr_by e place n args h = let k = expr_says e in let a = h.at in let b = h.is in let c = h.has in cc

record ExprAs (e : Expr) (place : Place) (n : ExprNode) (args : List Expr) : Type 0 where
  at : (out-Expr e).place ≡ place
  node : plain_node (out-Expr e).node ≡ plain_node n
  has : map plain_expr (out-Expr e).args.items ≡ map plain_expr args

expr_as : (e : Expr) (place : Place) (n : ExprNode) (args : List Expr) → IsExpr e place n args → (e2 : Expr) → plain_expr e2 ≡ plain_expr e → ExprAs e2 place n args
expr_as e place n args h e2 p =
    let k = expr_by e place n args h in let l = expr_says e2 in
    let m = over_one (expr (out-Expr e2).place) (expr place) (plain_node (out-Expr e2).node ∷ map plain_expr (out-Expr e2).args.items) (plain_node n ∷ map plain_expr args) (sym l ∙ p ∙ k) in
    let a = m.0 in let b = m.1 in
    record { at = cc; node = cc; has = cc }

pub node_as : (e : Expr) (place : Place) (n : ExprNode) (args : List Expr) → IsExpr e place n args → plain_node n ≡ leaf (untyped n) → (e2 : Expr) → plain_expr e2 ≡ plain_expr e → IsNodeAs e2 place n args
node_as e place n args h u e2 p =
    let k = expr_as e place n args h e2 p in
    record { operands = (out-Expr e2).args.items; is = record { at = k.at; is = untyped_one n (out-Expr e2).node u k.node; has = refl }; same = k.has }

pub cast_as : (e : Expr) (place : Place) (t : TypeTerm) (args : List Expr) → IsExpr e place (node.Cast t) args → (e2 : Expr) → plain_expr e2 ≡ plain_expr e → IsTypeAs (λ u. node.Cast u) e2 place t args
cast_as e place t args h e2 p =
    let k = expr_as e place (node.Cast t) args h e2 p in let u = cast_one t (out-Expr e2).node k.node in
    record { holds = u.0; operands = (out-Expr e2).args.items; is = record { at = k.at; is = u.1; has = refl }; said = u.2; same = k.has }

pub vector_as : (e : Expr) (place : Place) (t : TypeTerm) (args : List Expr) → IsExpr e place (node.Vector t) args → (e2 : Expr) → plain_expr e2 ≡ plain_expr e → IsTypeAs (λ u. node.Vector u) e2 place t args
vector_as e place t args h e2 p =
    let k = expr_as e place (node.Vector t) args h e2 p in let u = vector_one t (out-Expr e2).node k.node in
    record { holds = u.0; operands = (out-Expr e2).args.items; is = record { at = k.at; is = u.1; has = refl }; said = u.2; same = k.has }

pub size_as : (e : Expr) (place : Place) (t : TypeTerm) (args : List Expr) → IsExpr e place (node.SizeofType t) args → (e2 : Expr) → plain_expr e2 ≡ plain_expr e → IsTypeAs (λ u. node.SizeofType u) e2 place t args
size_as e place t args h e2 p =
    let k = expr_as e place (node.SizeofType t) args h e2 p in let u = size_one t (out-Expr e2).node k.node in
    record { holds = u.0; operands = (out-Expr e2).args.items; is = record { at = k.at; is = u.1; has = refl }; said = u.2; same = k.has }

-- ---- types by their fields

pub record IsTermAs (t : TypeTerm) (s : Spec) (star : Option (List Qual)) : Type 0 where
  pub spec : Spec
  pub is : IsTerm t spec star
  pub same : plain_spec spec ≡ plain_spec s

pub term_as : (t : TypeTerm) (s : Spec) (star : Option (List Qual)) → IsTerm t s star → (t2 : TypeTerm) → plain_term t2 ≡ plain_term t → IsTermAs t2 s star
term_as t s star h t2 p =
    let k = term_says t in let l = term_says t2 in let a = h.is in let b = h.has in
    let x : (out-TypeTerm t2).star ≡ star = cc in let y : plain_spec (out-TypeTerm t2).spec ≡ plain_spec s = cc in
    record { spec = (out-TypeTerm t2).spec; is = record { is = refl; has = x }; same = y }

pub record IsSpecAs (s : Spec) (quals : List Qual) (b : Base) : Type 0 where
  pub base : Base
  pub is : IsSpec s quals base
  pub same : plain_base base ≡ plain_base b

pub spec_as : (s : Spec) (quals : List Qual) (b : Base) → IsSpec s quals b → (s2 : Spec) → plain_spec s2 ≡ plain_spec s → IsSpecAs s2 quals b
spec_as s quals b h s2 p =
    let k = spec_says s in let l = spec_says s2 in let c = h.has in let d = h.is in
    let x : (out-Spec s2).quals ≡ quals = cc in let y : plain_base (out-Spec s2).base ≡ plain_base b = cc in
    record { base = (out-Spec s2).base; is = record { has = x; is = refl }; same = y }

pub record IsFieldAs (f : Field) (s : Spec) (names : List Declor) : Type 0 where
  pub spec : Spec
  pub declared : List Declor
  pub is : IsField f spec declared
  pub said : plain_spec spec ≡ plain_spec s
  pub same : map plain_declor declared ≡ map plain_declor names

pub field_as : (f : Field) (s : Spec) (names : List Declor) → IsField f s names → (f2 : Field) → plain_field f2 ≡ plain_field f → IsFieldAs f2 s names
field_as f s names h f2 p =
    let k = field_says f in let l = field_says f2 in let a = h.is in let b = h.has in
    let e : over field (plain_spec (out-Field f2).spec ∷ map plain_declor (out-Field f2).names.items) ≡ over field (plain_spec s ∷ map plain_declor names) = cc in
    let c = (over_one field field (plain_spec (out-Field f2).spec ∷ map plain_declor (out-Field f2).names.items) (plain_spec s ∷ map plain_declor names) e).1 in
    let x : plain_spec (out-Field f2).spec ≡ plain_spec s = cc in let y : map plain_declor (out-Field f2).names.items ≡ map plain_declor names = cc in
    record { spec = (out-Field f2).spec; declared = (out-Field f2).names.items; is = record { is = refl; has = refl }; said = x; same = y }

-- a declared name that says the same
pub record IsDeclorAs (d : Declor) (star : Option (List Qual)) (name : List ℕ) (place : Place) (es : List (Option Expr)) : Type 0 where
  pub lengths : List (Option Expr)
  pub is : IsDeclor d star name place lengths
  pub same : map (in_option plain_expr) lengths ≡ map (in_option plain_expr) es

pub declor_plain : (d : Declor) (star : Option (List Qual)) (name : List ℕ) (place : Place) (es : List (Option Expr)) → IsDeclor d star name place es → (d2 : Declor) → plain_declor d2 ≡ plain_declor d → IsDeclorAs d2 star name place es
declor_plain d star name place es h d2 p =
    let k = declor_says d in let l = declor_says d2 in let a = h.behind in let b = h.is in let c = h.at in let f = h.has in
    let e : over (declor (out-Declor d2).star (out-Declor d2).name (out-Declor d2).place) (map (in_option plain_expr) (out-Declor d2).lengths.items) ≡ over (declor star name place) (map (in_option plain_expr) es) = cc in
    let g = over_one (declor (out-Declor d2).star (out-Declor d2).name (out-Declor d2).place) (declor star name place) (map (in_option plain_expr) (out-Declor d2).lengths.items) (map (in_option plain_expr) es) e in let i = g.0 in
    record { lengths = (out-Declor d2).lengths.items; is = record { behind = cc; is = cc; at = cc; has = refl }; same = g.1 }

-- ---- bases

-- what is no struct; a struct without its members, and with them
pub data BaseView (b : Base) : Type 0 where
  a_word : plain_base b ≡ leaf (word b) → BaseView b
  a_tag : (name : Option (List ℕ)) (place : Place) → b ≡ base.Struct name place None → plain_base b ≡ leaf (tag name place) → BaseView b
  a_struct : (name : Option (List ℕ)) (place : Place) (v : Vec Field) → b ≡ base.Struct name place (Some v) → plain_base b ≡ over (struct name place) (map plain_field v.items) → BaseView b

pub base_view : (b : Base) → BaseView b
base_view b = by (out-Base b) (roll-out-Base b)
  where
    by : (l : Base-F Base ExprNode Declor Expr Field Spec TypeTerm) → roll-Base l ≡ b → BaseView b
    by layer.Void e = let f : roll-Base layer.Void ≡ base.Void = rolls-Void in let g : plain_base (roll-Base layer.Void) ≡ leaf (word base.Void) = fold-roll-Base Plain Plain Plain Plain Plain Plain Plain base_over node_over declor_over expr_over field_over spec_over term_over layer.Void in a_word cc
    by layer.Bool e = let f : roll-Base layer.Bool ≡ base.Bool = rolls-Bool in let g : plain_base (roll-Base layer.Bool) ≡ leaf (word base.Bool) = fold-roll-Base Plain Plain Plain Plain Plain Plain Plain base_over node_over declor_over expr_over field_over spec_over term_over layer.Bool in a_word cc
    by (layer.Int bits signed) e = let f : roll-Base (layer.Int bits signed) ≡ base.Int bits signed = rolls-Int bits signed in let g : plain_base (roll-Base (layer.Int bits signed)) ≡ leaf (word (base.Int bits signed)) = fold-roll-Base Plain Plain Plain Plain Plain Plain Plain base_over node_over declor_over expr_over field_over spec_over term_over (layer.Int bits signed) in a_word cc
    by (layer.Base::Vector bits signed n) e = let f : roll-Base (layer.Base::Vector bits signed n) ≡ base.Vector bits signed n = rolls-Vector bits signed n in let g : plain_base (roll-Base (layer.Base::Vector bits signed n)) ≡ leaf (word (base.Vector bits signed n)) = fold-roll-Base Plain Plain Plain Plain Plain Plain Plain base_over node_over declor_over expr_over field_over spec_over term_over (layer.Base::Vector bits signed n) in a_word cc
    by (layer.Sized signed) e = let f : roll-Base (layer.Sized signed) ≡ base.Sized signed = rolls-Sized signed in let g : plain_base (roll-Base (layer.Sized signed)) ≡ leaf (word (base.Sized signed)) = fold-roll-Base Plain Plain Plain Plain Plain Plain Plain base_over node_over declor_over expr_over field_over spec_over term_over (layer.Sized signed) in a_word cc
    by (layer.Named name place) e = let f : roll-Base (layer.Named name place) ≡ base.Named name place = rolls-Named name place in let g : plain_base (roll-Base (layer.Named name place)) ≡ leaf (word (base.Named name place)) = fold-roll-Base Plain Plain Plain Plain Plain Plain Plain base_over node_over declor_over expr_over field_over spec_over term_over (layer.Named name place) in a_word cc
    by (layer.Struct name place None) e = let f : roll-Base (layer.Struct name place None) ≡ base.Struct name place None = rolls-Struct name place None in let g : plain_base (roll-Base (layer.Struct name place None)) ≡ leaf (tag name place) = fold-roll-Base Plain Plain Plain Plain Plain Plain Plain base_over node_over declor_over expr_over field_over spec_over term_over (layer.Struct name place None) in let x : b ≡ base.Struct name place None = cc in let y : plain_base b ≡ leaf (tag name place) = cc in a_tag name place x y
    by (layer.Struct name place (Some v)) e = let f : roll-Base (layer.Struct name place (Some v)) ≡ base.Struct name place (Some v) = rolls-Struct name place (Some v) in let g : plain_base (roll-Base (layer.Struct name place (Some v))) ≡ over (struct name place) (map plain_field v.items) = fold-roll-Base Plain Plain Plain Plain Plain Plain Plain base_over node_over declor_over expr_over field_over spec_over term_over (layer.Struct name place (Some v)) in let x : b ≡ base.Struct name place (Some v) = cc in let y : plain_base b ≡ over (struct name place) (map plain_field v.items) = cc in a_struct name place v x y

tag_says : (name : Option (List ℕ)) (place : Place) → plain_base (base.Struct name place None) ≡ leaf (tag name place)
tag_says name place = ap plain_base (sym (rolls-Struct name place None)) ∙ fold-roll-Base Plain Plain Plain Plain Plain Plain Plain base_over node_over declor_over expr_over field_over spec_over term_over (layer.Struct name place None)

struct_says : (name : Option (List ℕ)) (place : Place) (v : Vec Field) → plain_base (base.Struct name place (Some v)) ≡ over (struct name place) (map plain_field v.items)
struct_says name place v = ap plain_base (sym (rolls-Struct name place (Some v))) ∙ fold-roll-Base Plain Plain Plain Plain Plain Plain Plain base_over node_over declor_over expr_over field_over spec_over term_over (layer.Struct name place (Some v))

-- what is no struct says what it is
word_one : (b b2 : Base) → plain_base b ≡ leaf (word b) → plain_base b2 ≡ plain_base b → b2 ≡ b
word_one b b2 h p = by (base_view b2)
  where
    by : BaseView b2 → b2 ≡ b
    by (a_word e) = cc
    by (a_tag name place e f) = cc
    by (a_struct name place v e f) = let x : over (struct name place) (map plain_field v.items) ≡ leaf (word b) = cc in cc

no_word : (name : Option (List ℕ)) (place : Place) (d : Option (Vec Field)) (s : Shape) → word_shape (base.Struct name place d) ≡ Some s → ⊥
no_word name place None s e = cc
no_word name place (Some v) s e = cc

pub word_as : (b : Base) (s : Shape) → word_shape b ≡ Some s → (b2 : Base) → plain_base b2 ≡ plain_base b → b2 ≡ b
word_as b s h b2 p = by (base_view b)
  where
    by : BaseView b → b2 ≡ b
    by (a_word e) = word_one b b2 e p
    by (a_tag name place e f) = let x : word_shape (base.Struct name place None) ≡ Some s = cc in absurd (no_word name place None s x)
    by (a_struct name place v e f) = let x : word_shape (base.Struct name place (Some v)) ≡ Some s = cc in absurd (no_word name place (Some v) s x)

pub named_as : (name : List ℕ) (place : Place) (b2 : Base) → plain_base b2 ≡ plain_base (base.Named name place) → b2 ≡ base.Named name place
named_as name place b2 p = word_one (base.Named name place) b2 (ap plain_base (sym (rolls-Named name place)) ∙ fold-roll-Base Plain Plain Plain Plain Plain Plain Plain base_over node_over declor_over expr_over field_over spec_over term_over (layer.Named name place)) p

pub tag_as : (b : Base) (name : Option (List ℕ)) (place : Place) → IsStruct b name place None → (b2 : Base) → plain_base b2 ≡ plain_base b → IsStruct b2 name place None
tag_as b name place h b2 p = by h.declared h.is h.has (base_view b2)
  where
    by : (d : Option (Vec Field)) → b ≡ base.Struct name place d → items_of d ≡ None → BaseView b2 → IsStruct b2 name place None
    by (Some v) e f x = absurd cc
    by None e f (a_word g) = let l = tag_says name place in let x : leaf (word b2) ≡ leaf (tag name place) = cc in absurd cc
    by None e f (a_tag name2 place2 g k) = let l = tag_says name place in let x : leaf (tag name2 place2) ≡ leaf (tag name place) = cc in let y : name2 ≡ name = cc in let z : place2 ≡ place = cc in
        record { declared = None; is = cc; has = refl }
    by None e f (a_struct name2 place2 v g k) = let l = tag_says name place in let x : over (struct name2 place2) (map plain_field v.items) ≡ leaf (tag name place) = cc in absurd cc

pub record IsStructAs (b : Base) (name : Option (List ℕ)) (place : Place) (fields : List Field) : Type 0 where
  pub members : List Field
  pub is : IsStruct b name place (Some members)
  pub same : map plain_field members ≡ map plain_field fields

pub struct_as : (b : Base) (name : Option (List ℕ)) (place : Place) (fields : List Field) → IsStruct b name place (Some fields) → (b2 : Base) → plain_base b2 ≡ plain_base b → IsStructAs b2 name place fields
struct_as b name place fields h b2 p = by h.declared h.is h.has (base_view b2)
  where
    by : (d : Option (Vec Field)) → b ≡ base.Struct name place d → items_of d ≡ Some fields → BaseView b2 → IsStructAs b2 name place fields
    by None e f x = absurd cc
    by (Some v) e f (a_word g) = let l = struct_says name place v in let x : leaf (word b2) ≡ over (struct name place) (map plain_field v.items) = cc in absurd cc
    by (Some v) e f (a_tag name2 place2 g k) = let l = struct_says name place v in let x : leaf (tag name2 place2) ≡ over (struct name place) (map plain_field v.items) = cc in absurd cc
    by (Some v) e f (a_struct name2 place2 v2 g k) =
        let l = struct_says name place v in let x : over (struct name2 place2) (map plain_field v2.items) ≡ over (struct name place) (map plain_field v.items) = cc in
        let o = over_one (struct name2 place2) (struct name place) (map plain_field v2.items) (map plain_field v.items) x in let q = o.0 in let y : name2 ≡ name = cc in let z : place2 ≡ place = cc in let u : v.items ≡ fields = cc in
        record { members = v2.items; is = record { declared = Some v2; is = cc; has = refl }; same = o.1 ∙ ap (map plain_field) u }
