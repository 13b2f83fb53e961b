-- The types and values of typed trees in a table that grows.
use Rattle.std.specs.Global.{Vec}
use Rattle.std.proofs.Common.{◌≡◌, ℕ, List, [], ◌∷◌, map, refl, sym, ap, ◌∙◌, subst, if◌then◌else◌}
use Rattle.clv_num.specs.declared.Bits.{Bits}
use Rattle.clv_place.specs.declared.place.Place.{Place}
use Rattle.cl_types.specs.declared.types.ClType.{ClType}
use Rattle.cl_types.specs.declared.types.TypeId.{TypeId}
use Rattle.cl_types.specs.declared.operator.UnOp.{UnOp}
use Rattle.cl_types.specs.declared.operator.BinOp.{BinOp}
use Rattle.cl_types.specs.Table.{IsTable}
use Rattle.cl_builtins.specs.Found.{IsKnown, IsGrown}
use Rattle.cl_builtins.proofs.Growth.{grown_known, grown_twice}
use Rattle.cl_tree.specs.declared.shape.Shape.{Shape}
use Rattle.cl_tree.specs.declared.expression.TExpr.{TExpr}
use Rattle.cl_tree.specs.declared.expression.TNode.{TNode}
use Rattle.cl_tree.specs.declared.expression.TNode.TheVariants as tnode
use Rattle.cl_tree.specs.declared.expression.TNode.TheVariants.{rolls-Param, rolls-Var, rolls-Constant, rolls-Number, rolls-Convert, rolls-Unary, rolls-Binary, rolls-Assign, rolls-Cond, rolls-Vector, rolls-Call, rolls-Builtin, rolls-Index, rolls-Member, rolls-Components, rolls-Fill, rolls-Comma}
use Rattle.cl_tree.specs.declared.expression.TNode.TheOpen as layer
use Rattle.cl_tree.specs.declared.expression.TNode.TheViews.{out-TExpr}
use Rattle.cl_tree.specs.declared.expression.TNode.TheFolds.{fold-TNode, fold-roll-TNode, fold_out-TExpr}
use Rattle.cl_tree.specs.declared.constant.Constancy.{Constancy}
use Rattle.cl_tree.specs.declared.constant.Constancy.TheVariants.{Varies, Divides, Is}
use Rattle.cl_tree.specs.declared.constant.Operands.{Operands}
use Rattle.cl_tree.specs.declared.constant.Operands.TheVariants.{Vary, Divide, Are}
use Rattle.cl_tree.specs.Constants.{GivenTypes, GivenNode, and_first, first_divides, and_known, operands, when_arithmetic, convert_to, converted, has_value, unaries_of, gentype_in, negated, or_divides, components_of, calculated, chosen, literal, node_step, expr_step, known_of}
use Rattle.cl_tree.specs.Shapes.{shape_of}
use Rattle.cl_rules.specs.declared.rule.Head.{Head}
use Rattle.cl_rules.specs.declared.rule.Head.TheVariants as head
use Rattle.cl_make.specs.declared.typed.Typed.{Typed}
use Rattle.cl_make.specs.Building.{IsTyped, IsFitted, as_it_is, by_node, node_of}
use Rattle.cl_make.specs.Ready.{From, IsReady, IsStable, AreStable}
use Rattle.cl_make.proofs.Growing.{shape_stays}

-- ---- a node by its operands

abbrev node_known : TNode → GivenNode
node_known = fold-TNode GivenNode GivenTypes node_step expr_step

known_out : (t : TExpr) (cs : List ClType) → known_of t cs ≡ record { ty = (out-TExpr t).ty; is = node_known (out-TExpr t).node cs (out-TExpr t).ty (out-TExpr t).place }
known_out t cs = ap (λ f. f cs) (fold_out-TExpr GivenNode GivenTypes node_step expr_step t)

-- the type of a root
pub root_is : (t : TExpr) (cs : List ClType) → (known_of t cs).ty ≡ (out-TExpr t).ty
root_is t cs = ap (λ k. k.ty) (known_out t cs)

-- what a node comes to by what its operands come to
abbrev head_step : Head → List ClType → TypeId → Place → Operands → Constancy
head_step head.Convert cs ty p ops = converted (shape_of cs ty) cs ops
head_step (head.Unary op) cs ty p ops = negated op cs ops
head_step (head.Binary op) cs ty p ops = calculated op p cs ops
head_step head.Cond cs ty p ops = chosen ops
head_step head.Vector cs ty p ops = literal (shape_of cs ty) ops
head_step _ cs ty p ops = Varies

module _ (cs : List ClType) (ty : TypeId) (p : Place) where
  number_step : (bits : Bits) → node_known (tnode.Number bits) cs ty p ≡ Is (bits.value ∷ [])
  number_step bits = ap (λ n. node_known n cs ty p) (sym (rolls-Number bits)) ∙ ap (λ f. f cs ty p) (fold-roll-TNode GivenNode GivenTypes node_step expr_step (layer.Number bits))

  head_known : (h : Head) (args : Vec TExpr) → node_known (node_of h args) cs ty p ≡ head_step h cs ty p (operands cs (map known_of args.items))
  head_known (head.Param k) args = ap (λ n. node_known n cs ty p) (sym (rolls-Param k)) ∙ ap (λ f. f cs ty p) (fold-roll-TNode GivenNode GivenTypes node_step expr_step (layer.Param k))
  head_known (head.Var k) args = ap (λ n. node_known n cs ty p) (sym (rolls-Var k)) ∙ ap (λ f. f cs ty p) (fold-roll-TNode GivenNode GivenTypes node_step expr_step (layer.Var k))
  head_known (head.Constant k) args = ap (λ n. node_known n cs ty p) (sym (rolls-Constant k)) ∙ ap (λ f. f cs ty p) (fold-roll-TNode GivenNode GivenTypes node_step expr_step (layer.Constant k))
  head_known head.Convert args = ap (λ n. node_known n cs ty p) (sym (rolls-Convert args)) ∙ ap (λ f. f cs ty p) (fold-roll-TNode GivenNode GivenTypes node_step expr_step (layer.Convert args))
  head_known (head.Unary op) args = ap (λ n. node_known n cs ty p) (sym (rolls-Unary op args)) ∙ ap (λ f. f cs ty p) (fold-roll-TNode GivenNode GivenTypes node_step expr_step (layer.Unary op args))
  head_known (head.Binary op) args = ap (λ n. node_known n cs ty p) (sym (rolls-Binary op args)) ∙ ap (λ f. f cs ty p) (fold-roll-TNode GivenNode GivenTypes node_step expr_step (layer.Binary op args))
  head_known (head.Assign op) args = ap (λ n. node_known n cs ty p) (sym (rolls-Assign op args)) ∙ ap (λ f. f cs ty p) (fold-roll-TNode GivenNode GivenTypes node_step expr_step (layer.Assign op args))
  head_known head.Cond args = ap (λ n. node_known n cs ty p) (sym (rolls-Cond args)) ∙ ap (λ f. f cs ty p) (fold-roll-TNode GivenNode GivenTypes node_step expr_step (layer.Cond args))
  head_known head.Vector args = ap (λ n. node_known n cs ty p) (sym (rolls-Vector args)) ∙ ap (λ f. f cs ty p) (fold-roll-TNode GivenNode GivenTypes node_step expr_step (layer.Vector args))
  head_known (head.Call f) args = ap (λ n. node_known n cs ty p) (sym (rolls-Call f args)) ∙ ap (λ g. g cs ty p) (fold-roll-TNode GivenNode GivenTypes node_step expr_step (layer.Call f args))
  head_known (head.Builtin b) args = ap (λ n. node_known n cs ty p) (sym (rolls-Builtin b args)) ∙ ap (λ f. f cs ty p) (fold-roll-TNode GivenNode GivenTypes node_step expr_step (layer.Builtin b args))
  head_known head.Index args = ap (λ n. node_known n cs ty p) (sym (rolls-Index args)) ∙ ap (λ f. f cs ty p) (fold-roll-TNode GivenNode GivenTypes node_step expr_step (layer.Index args))
  head_known (head.Member k) args = ap (λ n. node_known n cs ty p) (sym (rolls-Member k args)) ∙ ap (λ f. f cs ty p) (fold-roll-TNode GivenNode GivenTypes node_step expr_step (layer.Member k args))
  head_known (head.Components at) args = ap (λ n. node_known n cs ty p) (sym (rolls-Components at args)) ∙ ap (λ f. f cs ty p) (fold-roll-TNode GivenNode GivenTypes node_step expr_step (layer.Components at args))
  head_known head.Comma args = ap (λ n. node_known n cs ty p) (sym (rolls-Comma args)) ∙ ap (λ f. f cs ty p) (fold-roll-TNode GivenNode GivenTypes node_step expr_step (layer.Comma args))
  head_known head.Fill args = ap (λ n. node_known n cs ty p) (sym (rolls-Fill args)) ∙ ap (λ f. f cs ty p) (fold-roll-TNode GivenNode GivenTypes node_step expr_step (layer.Fill args))

-- ---- what operands come to stays

abbrev TypesKnown : List ClType → List TypeId → Type 0
TypesKnown cs [] = Unit {0}
TypesKnown cs (t ∷ ts) = IsKnown cs t × TypesKnown cs ts

abbrev OperandsKnown : List ClType → Operands → Type 0
OperandsKnown cs Vary = Unit {0}
OperandsKnown cs (Divide p) = Unit {0}
OperandsKnown cs (Are ts nss) = TypesKnown cs ts

first_known : (cs : List ClType) (t : TypeId) (ns : List ℕ) (ops : Operands) → IsKnown cs t → OperandsKnown cs ops → OperandsKnown cs (and_first t ns ops)
first_known cs t ns Vary k h = tt
first_known cs t ns (Divide p) k h = tt
first_known cs t ns (Are ts nss) k h = (k, h)

divides_known : (cs : List ClType) (p : Place) (ops : Operands) → OperandsKnown cs (first_divides p ops)
divides_known cs p Vary = tt
divides_known cs p (Divide q) = tt
divides_known cs p (Are ts nss) = tt

one_known : (cs : List ClType) (t : TypeId) (c : Constancy) (ops : Operands) → IsKnown cs t → OperandsKnown cs ops → OperandsKnown cs (and_known t c ops)
one_known cs t Varies ops k h = tt
one_known cs t (Divides p) ops k h = divides_known cs p ops
one_known cs t (Is ns) ops k h = first_known cs t ns ops k h

operands_known : (cs : List ClType) (ts : List TExpr) → AreStable cs ts → OperandsKnown cs (operands cs (map known_of ts))
operands_known cs [] h = tt
operands_known cs (t ∷ ts) h = one_known cs (known_of t cs).ty (known_of t cs).is (operands cs (map known_of ts)) h.0.known (operands_known cs ts h.1)

operands_stay : (old new : List ClType) (ts : List TExpr) → IsGrown old new → AreStable old ts → operands new (map known_of ts) ≡ operands old (map known_of ts)
operands_stay old new [] g h = refl
operands_stay old new (t ∷ ts) g h = λ i. and_known (h.0.steady new g i).ty (h.0.steady new g i).is (operands_stay old new ts g h.1 i)

module _ (old new : List ClType) (b : IsTable old) (g : IsGrown old new) where
  converted_stays : (to : Shape) (ops : Operands) → OperandsKnown old ops → converted to new ops ≡ converted to old ops
  converted_stays to Vary h = refl
  converted_stays to (Divide p) h = refl
  converted_stays to (Are [] nss) h = refl
  converted_stays to (Are (t ∷ []) []) h = refl
  converted_stays to (Are (t ∷ []) (ns ∷ [])) h = ap (λ s. when_arithmetic to (Is (convert_to s to ns))) (shape_stays old new t b g h.0)
  converted_stays to (Are (t ∷ []) (ns ∷ ms ∷ nss)) h = refl
  converted_stays to (Are (t ∷ u ∷ ts) nss) h = refl

  negated_stays : (op : UnOp) (ops : Operands) → OperandsKnown old ops → negated op new ops ≡ negated op old ops
  negated_stays op Vary h = refl
  negated_stays op (Divide p) h = refl
  negated_stays op (Are [] nss) h = refl
  negated_stays op (Are (t ∷ []) []) h = refl
  negated_stays op (Are (t ∷ []) (ns ∷ [])) h = ap (λ s. if has_value op then Is (unaries_of op (gentype_in s).bits ns) else Varies) (shape_stays old new t b g h.0)
  negated_stays op (Are (t ∷ []) (ns ∷ ms ∷ nss)) h = refl
  negated_stays op (Are (t ∷ u ∷ ts) nss) h = refl

  calculated_stays : (op : BinOp) (p : Place) (ops : Operands) → OperandsKnown old ops → calculated op p new ops ≡ calculated op p old ops
  calculated_stays op p Vary h = refl
  calculated_stays op p (Divide q) h = refl
  calculated_stays op p (Are [] nss) h = refl
  calculated_stays op p (Are (t ∷ []) nss) h = refl
  calculated_stays op p (Are (t ∷ u ∷ []) []) h = refl
  calculated_stays op p (Are (t ∷ u ∷ []) (ns ∷ [])) h = refl
  calculated_stays op p (Are (t ∷ u ∷ []) (ns ∷ ms ∷ [])) h = ap (λ s. or_divides p (components_of op (gentype_in s) ns ms)) (shape_stays old new t b g h.0)
  calculated_stays op p (Are (t ∷ u ∷ []) (ns ∷ ms ∷ ls ∷ nss)) h = refl
  calculated_stays op p (Are (t ∷ u ∷ v ∷ ts) nss) h = refl

  head_stays : (h : Head) (ty : TypeId) (p : Place) (ops : Operands) → IsKnown old ty → OperandsKnown old ops → head_step h new ty p ops ≡ head_step h old ty p ops
  head_stays (head.Param k) ty p ops t o = refl
  head_stays (head.Var k) ty p ops t o = refl
  head_stays (head.Constant k) ty p ops t o = refl
  head_stays head.Convert ty p ops t o = ap (λ s. converted s new ops) (shape_stays old new ty b g t) ∙ converted_stays (shape_of old ty) ops o
  head_stays (head.Unary op) ty p ops t o = negated_stays op ops o
  head_stays (head.Binary op) ty p ops t o = calculated_stays op p ops o
  head_stays (head.Assign op) ty p ops t o = refl
  head_stays head.Cond ty p ops t o = refl
  head_stays head.Vector ty p ops t o = ap (λ s. literal s ops) (shape_stays old new ty b g t)
  head_stays (head.Call f) ty p ops t o = refl
  head_stays (head.Builtin f) ty p ops t o = refl
  head_stays head.Index ty p ops t o = refl
  head_stays (head.Member k) ty p ops t o = refl
  head_stays (head.Components at) ty p ops t o = refl
  head_stays head.Comma ty p ops t o = refl
  head_stays head.Fill ty p ops t o = refl

  node_stays : (h : Head) (args : Vec TExpr) (ty : TypeId) (p : Place) → IsKnown old ty → AreStable old args.items → node_known (node_of h args) new ty p ≡ node_known (node_of h args) old ty p
  node_stays h args ty p t s =
      head_known new ty p h args ∙ ap (head_step h new ty p) (operands_stay old new args.items g s)
      ∙ head_stays h ty p (operands old (map known_of args.items)) t (operands_known old args.items s) ∙ sym (head_known old ty p h args)

-- ---- trees that stay

typed_known : (t : TExpr) (ty : TypeId) (p : Place) (n : TNode) (cs : List ClType) → IsTyped t ty p n → known_of t cs ≡ record { ty = ty; is = node_known n cs ty p }
typed_known t ty p n cs h = known_out t cs ∙ (λ i. record { ty = h.has i; is = node_known (h.is i) cs (h.has i) (h.at i) })

typed_stable : (cs : List ClType) (t : TExpr) (ty : TypeId) (p : Place) (n : TNode) → IsKnown cs ty → IsTyped t ty p n → From cs (λ more. node_known n more ty p ≡ node_known n cs ty p) → IsStable cs t
typed_stable cs t ty p n k h s = record {
  known = subst (IsKnown cs) (sym (ap (λ x. x.ty) (typed_known t ty p n cs h))) k;
  steady = λ more g. typed_known t ty p n more h ∙ (λ i. record { ty = ty; is = s more g i }) ∙ sym (typed_known t ty p n cs h);
}

pub made_stable : (cs : List ClType) (t : TExpr) (ty : TypeId) (p : Place) (h : Head) (args : Vec TExpr) → IsTable cs → IsKnown cs ty → AreStable cs args.items → IsTyped t ty p (node_of h args) → IsStable cs t
made_stable cs t ty p h args b k s n = typed_stable cs t ty p (node_of h args) k n (λ more g. node_stays cs more b g h args ty p k s)

pub number_stable : (cs : List ClType) (t : TExpr) (ty : TypeId) (p : Place) (bits : Bits) → IsKnown cs ty → IsTyped t ty p (tnode.Number bits) → IsStable cs t
number_stable cs t ty p bits k n = typed_stable cs t ty p (tnode.Number bits) k n (λ more g. number_step more ty p bits ∙ sym (number_step cs ty p bits))

pub ready_stable : (cs : List ClType) (r : Typed) → IsReady cs r → IsStable cs r.tree
ready_stable cs r h = record { known = subst (IsKnown cs) (sym h.root) h.operand.known; steady = h.steady }

pub fitted_stable : (cs : List ClType) (ty : TypeId) (t u : TExpr) → IsTable cs → IsKnown cs ty → IsStable cs t → IsFitted ty t u → IsStable cs u
fitted_stable cs ty t u b k s (as_it_is v e) = s
fitted_stable cs ty t u b k s (by_node v x e n) = made_stable cs x ty (out-TExpr v).place head.Convert n.args b k (subst (AreStable cs) (sym n.has) (s, tt)) n.is

pub stable_stays : (old new : List ClType) (t : TExpr) → IsGrown old new → IsStable old t → IsStable new t
stable_stays old new t g s = record {
  known = grown_known old new (known_of t new).ty g (subst (IsKnown old) (sym (ap (λ k. k.ty) (s.steady new g))) s.known);
  steady = λ more h. s.steady more (grown_twice old new more g h) ∙ sym (s.steady new g);
}

pub all_stable_stay : (old new : List ClType) (ts : List TExpr) → IsGrown old new → AreStable old ts → AreStable new ts
all_stable_stay old new [] g h = tt
all_stable_stay old new (t ∷ ts) g h = (stable_stays old new t g h.0, all_stable_stay old new ts g h.1)
