-- What trees of expressions and types say, part by part.
use Rattle.std.specs.Global.{Vec}
use Rattle.std.proofs.Common.{◌≡◌, ℕ, Bool, List, [], ◌∷◌, map, Option, Some, None, refl, sym, ap, ◌∙◌}
use Rattle.clv_place.specs.declared.place.Place.{Place}
use Rattle.cl_types.specs.declared.operator.UnOp.{UnOp}
use Rattle.cl_types.specs.declared.operator.BinOp.{BinOp}
use Rattle.cl_ast.specs.declared.expression.Qual.{Qual}
use Rattle.cl_ast.specs.declared.expression.Expr.{Expr}
use Rattle.cl_ast.specs.declared.expression.ExprNode.{ExprNode}
use Rattle.cl_ast.specs.declared.expression.ExprNode.TheVariants as node
use Rattle.cl_ast.specs.declared.expression.ExprNode.TheVariants.{rolls-Name, rolls-Number, rolls-Unary, rolls-Binary, rolls-Assign, rolls-Cond, rolls-Cast, rolls-Vector, rolls-Call, rolls-Index, rolls-Member, rolls-SizeofType, rolls-Comma}
use Rattle.cl_ast.specs.declared.expression.TypeTerm.{TypeTerm}
use Rattle.cl_ast.specs.declared.expression.Spec.{Spec}
use Rattle.cl_ast.specs.declared.expression.Base.{Base}
use Rattle.cl_ast.specs.declared.expression.Base.TheVariants as base
use Rattle.cl_ast.specs.declared.expression.Base.TheVariants.{rolls-Void, rolls-Bool as rolls_bool, rolls-Int, rolls-Vector as rolls_vector, rolls-Sized, rolls-Named, rolls-Struct}
use Rattle.cl_ast.specs.declared.expression.Field.{Field}
use Rattle.cl_ast.specs.declared.expression.Declor.{Declor}
use Rattle.cl_ast.specs.declared.expression.Base.TheOpen as layer
use Rattle.cl_ast.specs.declared.expression.Base.TheViews.{out-Expr, out-TypeTerm, out-Spec, out-Field, out-Declor}
use Rattle.cl_ast.specs.declared.expression.Base.TheFolds.{fold-roll-Base, fold-roll-ExprNode, fold_out-Expr, fold_out-TypeTerm, fold_out-Spec, fold_out-Field, fold_out-Declor}
use Rattle.cl_plain.specs.Plain.{Plain, expr, untyped, cast, vector, size_of_type, term, spec, word, tag, struct, field, declor, over, leaf, may_be, in_option, base_over, node_over, declor_over, expr_over, field_over, spec_over, term_over, plain_expr, plain_node, plain_spec, plain_base, plain_term, plain_field, plain_declor}

-- ---- a tree by its own parts

pub expr_out : (e : Expr) → plain_expr e ≡ over (expr (out-Expr e).place) (plain_node (out-Expr e).node ∷ map plain_expr (out-Expr e).args.items)
expr_out e = fold_out-Expr Plain Plain Plain Plain Plain Plain Plain base_over node_over declor_over expr_over field_over spec_over term_over e

pub term_out : (t : TypeTerm) → plain_term t ≡ over (term (out-TypeTerm t).star) (plain_spec (out-TypeTerm t).spec ∷ [])
term_out t = fold_out-TypeTerm Plain Plain Plain Plain Plain Plain Plain base_over node_over declor_over expr_over field_over spec_over term_over t

pub spec_out : (s : Spec) → plain_spec s ≡ over (spec (out-Spec s).quals) (plain_base (out-Spec s).base ∷ [])
spec_out s = fold_out-Spec Plain Plain Plain Plain Plain Plain Plain base_over node_over declor_over expr_over field_over spec_over term_over s

pub field_out : (f : Field) → plain_field f ≡ over field (plain_spec (out-Field f).spec ∷ map plain_declor (out-Field f).names.items)
field_out f = fold_out-Field Plain Plain Plain Plain Plain Plain Plain base_over node_over declor_over expr_over field_over spec_over term_over f

lengths_over : (g : Option Expr → Option Plain) → g None ≡ None → ((e : Expr) → g (Some e) ≡ Some (plain_expr e)) → (ls : List (Option Expr)) → map may_be (map g ls) ≡ map (in_option plain_expr) ls
lengths_over g none some [] = refl
lengths_over g none some (None ∷ ls) = (λ i. may_be (none i) ∷ lengths_over g none some ls i)
lengths_over g none some (Some e ∷ ls) = (λ i. may_be (some e i) ∷ lengths_over g none some ls i)

pub declor_out : (d : Declor) → plain_declor d ≡ over (declor (out-Declor d).star (out-Declor d).name (out-Declor d).place) (map (in_option plain_expr) (out-Declor d).lengths.items)
declor_out d = fold_out-Declor Plain Plain Plain Plain Plain Plain Plain base_over node_over declor_over expr_over field_over spec_over term_over d ∙ ap (λ z. over (declor (out-Declor d).star (out-Declor d).name (out-Declor d).place) z) (lengths_over _ refl (λ e. refl) (out-Declor d).lengths.items)

-- ---- a tree by parts that it is known to have

pub expr_of : (e : Expr) (place : Place) (n : ExprNode) (args : List Expr) → (out-Expr e).place ≡ place → (out-Expr e).node ≡ n → (out-Expr e).args.items ≡ args → plain_expr e ≡ over (expr place) (plain_node n ∷ map plain_expr args)
expr_of e place n args h0 h1 h2 = expr_out e ∙ (λ i. over (expr (h0 i)) (plain_node (h1 i) ∷ map plain_expr (h2 i)))

pub term_of : (t : TypeTerm) (s : Spec) (star : Option (List Qual)) → (out-TypeTerm t).spec ≡ s → (out-TypeTerm t).star ≡ star → plain_term t ≡ over (term star) (plain_spec s ∷ [])
term_of t s star h0 h1 = term_out t ∙ (λ i. over (term (h1 i)) (plain_spec (h0 i) ∷ []))

pub spec_of : (s : Spec) (quals : List Qual) (b : Base) → (out-Spec s).quals ≡ quals → (out-Spec s).base ≡ b → plain_spec s ≡ over (spec quals) (plain_base b ∷ [])
spec_of s quals b h0 h1 = spec_out s ∙ (λ i. over (spec (h0 i)) (plain_base (h1 i) ∷ []))

pub field_of : (f : Field) (s : Spec) (names : List Declor) → (out-Field f).spec ≡ s → (out-Field f).names.items ≡ names → plain_field f ≡ over field (plain_spec s ∷ map plain_declor names)
field_of f s names h0 h1 = field_out f ∙ (λ i. over field (plain_spec (h0 i) ∷ map plain_declor (h1 i)))

pub declor_of : (d : Declor) (star : Option (List Qual)) (name : List ℕ) (place : Place) (lengths : List (Option Expr)) → (out-Declor d).star ≡ star → (out-Declor d).name ≡ name → (out-Declor d).place ≡ place → (out-Declor d).lengths.items ≡ lengths → plain_declor d ≡ over (declor star name place) (map (in_option plain_expr) lengths)
declor_of d star name place lengths h0 h1 h2 h3 = declor_out d ∙ (λ i. over (declor (h0 i) (h1 i) (h2 i)) (map (in_option plain_expr) (h3 i)))

-- ---- nodes

pub name_node : (text : List ℕ) → plain_node (node.Name text) ≡ leaf (untyped (node.Name text))
name_node text = ap plain_node (sym (rolls-Name text)) ∙ fold-roll-ExprNode Plain Plain Plain Plain Plain Plain Plain base_over node_over declor_over expr_over field_over spec_over term_over (layer.Name text)

pub number_node : (n ty : ℕ) → plain_node (node.Number n ty) ≡ leaf (untyped (node.Number n ty))
number_node n ty = ap plain_node (sym (rolls-Number n ty)) ∙ fold-roll-ExprNode Plain Plain Plain Plain Plain Plain Plain base_over node_over declor_over expr_over field_over spec_over term_over (layer.Number n ty)

pub unary_node : (op : UnOp) → plain_node (node.Unary op) ≡ leaf (untyped (node.Unary op))
unary_node op = ap plain_node (sym (rolls-Unary op)) ∙ fold-roll-ExprNode Plain Plain Plain Plain Plain Plain Plain base_over node_over declor_over expr_over field_over spec_over term_over (layer.Unary op)

pub binary_node : (op : BinOp) → plain_node (node.Binary op) ≡ leaf (untyped (node.Binary op))
binary_node op = ap plain_node (sym (rolls-Binary op)) ∙ fold-roll-ExprNode Plain Plain Plain Plain Plain Plain Plain base_over node_over declor_over expr_over field_over spec_over term_over (layer.Binary op)

pub assign_node : (op : Option BinOp) → plain_node (node.Assign op) ≡ leaf (untyped (node.Assign op))
assign_node op = ap plain_node (sym (rolls-Assign op)) ∙ fold-roll-ExprNode Plain Plain Plain Plain Plain Plain Plain base_over node_over declor_over expr_over field_over spec_over term_over (layer.Assign op)

pub cond_node : plain_node node.Cond ≡ leaf (untyped node.Cond)
cond_node = ap plain_node (sym rolls-Cond) ∙ fold-roll-ExprNode Plain Plain Plain Plain Plain Plain Plain base_over node_over declor_over expr_over field_over spec_over term_over layer.Cond

pub call_node : (text : List ℕ) → plain_node (node.Call text) ≡ leaf (untyped (node.Call text))
call_node text = ap plain_node (sym (rolls-Call text)) ∙ fold-roll-ExprNode Plain Plain Plain Plain Plain Plain Plain base_over node_over declor_over expr_over field_over spec_over term_over (layer.Call text)

pub index_node : plain_node node.Index ≡ leaf (untyped node.Index)
index_node = ap plain_node (sym rolls-Index) ∙ fold-roll-ExprNode Plain Plain Plain Plain Plain Plain Plain base_over node_over declor_over expr_over field_over spec_over term_over layer.Index

pub member_node : (text : List ℕ) (arrow : Bool) → plain_node (node.Member text arrow) ≡ leaf (untyped (node.Member text arrow))
member_node text arrow = ap plain_node (sym (rolls-Member text arrow)) ∙ fold-roll-ExprNode Plain Plain Plain Plain Plain Plain Plain base_over node_over declor_over expr_over field_over spec_over term_over (layer.Member text arrow)

pub comma_node : plain_node node.Comma ≡ leaf (untyped node.Comma)
comma_node = ap plain_node (sym rolls-Comma) ∙ fold-roll-ExprNode Plain Plain Plain Plain Plain Plain Plain base_over node_over declor_over expr_over field_over spec_over term_over layer.Comma

pub cast_node : (t : TypeTerm) → plain_node (node.Cast t) ≡ over cast (plain_term t ∷ [])
cast_node t = ap plain_node (sym (rolls-Cast t)) ∙ fold-roll-ExprNode Plain Plain Plain Plain Plain Plain Plain base_over node_over declor_over expr_over field_over spec_over term_over (layer.Cast t)

pub vector_node : (t : TypeTerm) → plain_node (node.Vector t) ≡ over vector (plain_term t ∷ [])
vector_node t = ap plain_node (sym (rolls-Vector t)) ∙ fold-roll-ExprNode Plain Plain Plain Plain Plain Plain Plain base_over node_over declor_over expr_over field_over spec_over term_over (layer.ExprNode::Vector t)

pub size_of_type_node : (t : TypeTerm) → plain_node (node.SizeofType t) ≡ over size_of_type (plain_term t ∷ [])
size_of_type_node t = ap plain_node (sym (rolls-SizeofType t)) ∙ fold-roll-ExprNode Plain Plain Plain Plain Plain Plain Plain base_over node_over declor_over expr_over field_over spec_over term_over (layer.SizeofType t)

-- ---- what types are made of

pub void_base : plain_base base.Void ≡ leaf (word base.Void)
void_base = ap plain_base (sym rolls-Void) ∙ fold-roll-Base Plain Plain Plain Plain Plain Plain Plain base_over node_over declor_over expr_over field_over spec_over term_over layer.Void

pub bool_base : plain_base base.Bool ≡ leaf (word base.Bool)
bool_base = ap plain_base (sym rolls_bool) ∙ fold-roll-Base Plain Plain Plain Plain Plain Plain Plain base_over node_over declor_over expr_over field_over spec_over term_over layer.Bool

pub int_base : (bits : ℕ) (signed : Bool) → plain_base (base.Int bits signed) ≡ leaf (word (base.Int bits signed))
int_base bits signed = ap plain_base (sym (rolls-Int bits signed)) ∙ fold-roll-Base Plain Plain Plain Plain Plain Plain Plain base_over node_over declor_over expr_over field_over spec_over term_over (layer.Int bits signed)

pub vector_base : (bits : ℕ) (signed : Bool) (n : ℕ) → plain_base (base.Vector bits signed n) ≡ leaf (word (base.Vector bits signed n))
vector_base bits signed n = ap plain_base (sym (rolls_vector bits signed n)) ∙ fold-roll-Base Plain Plain Plain Plain Plain Plain Plain base_over node_over declor_over expr_over field_over spec_over term_over (layer.Base::Vector bits signed n)

pub sized_base : (signed : Bool) → plain_base (base.Sized signed) ≡ leaf (word (base.Sized signed))
sized_base signed = ap plain_base (sym (rolls-Sized signed)) ∙ fold-roll-Base Plain Plain Plain Plain Plain Plain Plain base_over node_over declor_over expr_over field_over spec_over term_over (layer.Sized signed)

pub named_base : (name : List ℕ) (place : Place) → plain_base (base.Named name place) ≡ leaf (word (base.Named name place))
named_base name place = ap plain_base (sym (rolls-Named name place)) ∙ fold-roll-Base Plain Plain Plain Plain Plain Plain Plain base_over node_over declor_over expr_over field_over spec_over term_over (layer.Named name place)

pub tag_base : (name : Option (List ℕ)) (place : Place) → plain_base (base.Struct name place None) ≡ leaf (tag name place)
tag_base name place = ap plain_base (sym (rolls-Struct name place None)) ∙ fold-roll-Base Plain Plain Plain Plain Plain Plain Plain base_over node_over declor_over expr_over field_over spec_over term_over (layer.Struct name place None)

pub struct_base : (name : Option (List ℕ)) (place : Place) (members : Vec Field) → plain_base (base.Struct name place (Some members)) ≡ over (struct name place) (map plain_field members.items)
struct_base name place members = ap plain_base (sym (rolls-Struct name place (Some members))) ∙ fold-roll-Base Plain Plain Plain Plain Plain Plain Plain base_over node_over declor_over expr_over field_over spec_over term_over (layer.Struct name place (Some members))
