-- Typed trees that are one but for the numbers of their types are constants alike.
use Rattle.std.specs.Global.{Vec}
use Rattle.std.proofs.Common.{◌≡◌, ℕ, List, [], ◌∷◌, map, refl, sym, ap, ◌∙◌, nat_eq, ◌||◌, if◌then◌else◌, Option, Some, None}
use Rattle.std.specs.Prelude.{replicate}
use Rattle.clv_num.specs.declared.Bits.{Bits}
use Rattle.clv_place.specs.declared.place.Place.{Place}
use Rattle.cl_types.specs.declared.types.ClType.{ClType}
use Rattle.cl_types.specs.declared.types.TypeId.{TypeId}
use Rattle.cl_types.specs.declared.operator.UnOp.{UnOp}
use Rattle.cl_types.specs.declared.operator.BinOp.{BinOp}
use Rattle.cl_tree.specs.declared.shape.Shape.{Shape}
use Rattle.cl_tree.specs.declared.shape.Shape.TheVariants as shape
use Rattle.cl_tree.specs.declared.expression.TExpr.{TExpr}
use Rattle.cl_tree.specs.declared.expression.TNode.{TNode}
use Rattle.cl_tree.specs.declared.expression.TNode.TheVariants as tnode
use Rattle.cl_tree.specs.declared.expression.TNode.TheVariants.{rolls-Param, rolls-Var, rolls-Constant, rolls-Number, rolls-Convert, rolls-Unary, rolls-Binary, rolls-Assign, rolls-Cond, rolls-Vector, rolls-Call, rolls-Builtin, rolls-Index, rolls-Member, rolls-Components, rolls-Fill, rolls-Comma}
use Rattle.cl_tree.specs.declared.expression.TNode.TheOpen as layer
use Rattle.cl_tree.specs.declared.expression.TNode.TheViews.{out-TExpr}
use Rattle.cl_tree.specs.declared.expression.TNode.TheFolds.{fold-TNode, fold-roll-TNode, fold_out-TExpr}
use Rattle.cl_tree.specs.declared.constant.Constancy.{Constancy}
use Rattle.cl_tree.specs.declared.constant.Constancy.TheVariants.{Varies, Divides, Is}
use Rattle.cl_tree.specs.declared.constant.Operands.{Operands}
use Rattle.cl_tree.specs.declared.constant.Operands.TheVariants.{Vary, Divide, Are}
use Rattle.cl_tree.specs.Constants.{Known, GivenTypes, GivenNode, and_first, first_divides, and_known, operands, is_arithmetic, when_arithmetic, number_to, element_shape, count_in, convert_to, converted, has_value, unaries_of, gentype_in, negated, or_divides, components_of, calculated, chosen, joined, repeated, literal, node_step, expr_step, known_of, constancy_of, number_in, number_of, is_negative, positive_in, positive_of}
use Rattle.cl_tree.specs.Shapes.{shape_of}
use Rattle.cl_rules.specs.declared.rule.Head.{Head}
use Rattle.cl_rules.specs.declared.rule.Head.TheVariants as head
use Rattle.cl_make.specs.Building.{IsTyped, IsNode, node_of}
use Rattle.cl_renaming.specs.Renaming.{type_id, shape_as, IsRenaming}
use Rattle.cl_renaming.specs.Trees.{IsTreeAs, number, node, AreTreesAs, none, more}
use Rattle.cl_renaming.proofs.Shapes.{is_number_as, is_vector_as, shape_of_as}

-- ---- a node by its operands

abbrev node_known : TNode → GivenNode
node_known = fold-TNode GivenNode GivenTypes node_step expr_step

known_out : (t : TExpr) (cs : List ClType) → known_of t cs ≡ record { ty = (out-TExpr t).ty; is = node_known (out-TExpr t).node cs (out-TExpr t).ty (out-TExpr t).place }
known_out t cs = ap (λ f. f cs) (fold_out-TExpr GivenNode GivenTypes node_step expr_step t)

-- what a node comes to by what its operands come to
abbrev head_step : Head → List ClType → TypeId → Place → Operands → Constancy
head_step head.Convert cs ty p ops = converted (shape_of cs ty) cs ops
head_step (head.Unary op) cs ty p ops = negated op cs ops
head_step (head.Binary op) cs ty p ops = calculated op p cs ops
head_step head.Cond cs ty p ops = chosen ops
head_step head.Vector cs ty p ops = literal (shape_of cs ty) ops
head_step _ cs ty p ops = Varies

module _ (cs : List ClType) (ty : TypeId) (p : Place) where
  number_step : (bits : Bits) → node_known (tnode.Number bits) cs ty p ≡ Is (bits.value ∷ [])
  number_step bits = ap (λ n. node_known n cs ty p) (sym (rolls-Number bits)) ∙ ap (λ f. f cs ty p) (fold-roll-TNode GivenNode GivenTypes node_step expr_step (layer.Number bits))

  head_known : (h : Head) (args : Vec TExpr) → node_known (node_of h args) cs ty p ≡ head_step h cs ty p (operands cs (map known_of args.items))
  head_known (head.Param k) args = ap (λ n. node_known n cs ty p) (sym (rolls-Param k)) ∙ ap (λ f. f cs ty p) (fold-roll-TNode GivenNode GivenTypes node_step expr_step (layer.Param k))
  head_known (head.Var k) args = ap (λ n. node_known n cs ty p) (sym (rolls-Var k)) ∙ ap (λ f. f cs ty p) (fold-roll-TNode GivenNode GivenTypes node_step expr_step (layer.Var k))
  head_known (head.Constant k) args = ap (λ n. node_known n cs ty p) (sym (rolls-Constant k)) ∙ ap (λ f. f cs ty p) (fold-roll-TNode GivenNode GivenTypes node_step expr_step (layer.Constant k))
  head_known head.Convert args = ap (λ n. node_known n cs ty p) (sym (rolls-Convert args)) ∙ ap (λ f. f cs ty p) (fold-roll-TNode GivenNode GivenTypes node_step expr_step (layer.Convert args))
  head_known (head.Unary op) args = ap (λ n. node_known n cs ty p) (sym (rolls-Unary op args)) ∙ ap (λ f. f cs ty p) (fold-roll-TNode GivenNode GivenTypes node_step expr_step (layer.Unary op args))
  head_known (head.Binary op) args = ap (λ n. node_known n cs ty p) (sym (rolls-Binary op args)) ∙ ap (λ f. f cs ty p) (fold-roll-TNode GivenNode GivenTypes node_step expr_step (layer.Binary op args))
  head_known (head.Assign op) args = ap (λ n. node_known n cs ty p) (sym (rolls-Assign op args)) ∙ ap (λ f. f cs ty p) (fold-roll-TNode GivenNode GivenTypes node_step expr_step (layer.Assign op args))
  head_known head.Cond args = ap (λ n. node_known n cs ty p) (sym (rolls-Cond args)) ∙ ap (λ f. f cs ty p) (fold-roll-TNode GivenNode GivenTypes node_step expr_step (layer.Cond args))
  head_known head.Vector args = ap (λ n. node_known n cs ty p) (sym (rolls-Vector args)) ∙ ap (λ f. f cs ty p) (fold-roll-TNode GivenNode GivenTypes node_step expr_step (layer.Vector args))
  head_known (head.Call f) args = ap (λ n. node_known n cs ty p) (sym (rolls-Call f args)) ∙ ap (λ g. g cs ty p) (fold-roll-TNode GivenNode GivenTypes node_step expr_step (layer.Call f args))
  head_known (head.Builtin b) args = ap (λ n. node_known n cs ty p) (sym (rolls-Builtin b args)) ∙ ap (λ f. f cs ty p) (fold-roll-TNode GivenNode GivenTypes node_step expr_step (layer.Builtin b args))
  head_known head.Index args = ap (λ n. node_known n cs ty p) (sym (rolls-Index args)) ∙ ap (λ f. f cs ty p) (fold-roll-TNode GivenNode GivenTypes node_step expr_step (layer.Index args))
  head_known (head.Member k) args = ap (λ n. node_known n cs ty p) (sym (rolls-Member k args)) ∙ ap (λ f. f cs ty p) (fold-roll-TNode GivenNode GivenTypes node_step expr_step (layer.Member k args))
  head_known (head.Components at) args = ap (λ n. node_known n cs ty p) (sym (rolls-Components at args)) ∙ ap (λ f. f cs ty p) (fold-roll-TNode GivenNode GivenTypes node_step expr_step (layer.Components at args))
  head_known head.Comma args = ap (λ n. node_known n cs ty p) (sym (rolls-Comma args)) ∙ ap (λ f. f cs ty p) (fold-roll-TNode GivenNode GivenTypes node_step expr_step (layer.Comma args))
  head_known head.Fill args = ap (λ n. node_known n cs ty p) (sym (rolls-Fill args)) ∙ ap (λ f. f cs ty p) (fold-roll-TNode GivenNode GivenTypes node_step expr_step (layer.Fill args))

typed_known : (t : TExpr) (ty : TypeId) (p : Place) (n : TNode) (cs : List ClType) → IsTyped t ty p n → known_of t cs ≡ record { ty = ty; is = node_known n cs ty p }
typed_known t ty p n cs h = known_out t cs ∙ (λ i. record { ty = h.has i; is = node_known (h.is i) cs (h.has i) (h.at i) })

-- ---- shapes by other numbers

module _ (r : ℕ → ℕ) where
  is_arithmetic_as : (s : Shape) → is_arithmetic (shape_as r s) ≡ is_arithmetic s
  is_arithmetic_as s = λ i. is_number_as r s i || is_vector_as r s i

  when_arithmetic_as : (s : Shape) (c : Constancy) → when_arithmetic (shape_as r s) c ≡ when_arithmetic s c
  when_arithmetic_as s c = λ i. if is_arithmetic_as s i then c else Varies

  count_as : (s : Shape) → count_in (shape_as r s) ≡ count_in s
  count_as (shape.Integers t) = refl
  count_as _ = refl

  element_as : (s : Shape) → element_shape (shape_as r s) ≡ shape_as r (element_shape s)
  element_as (shape.Integers t) = refl
  element_as shape.Void = refl
  element_as shape.Bool = refl
  element_as shape.Struct = refl
  element_as (shape.Array elem len nested) = refl
  element_as (shape.Pointer space to readonly restricted) = refl

  gentype_as : (s : Shape) → gentype_in (shape_as r s) ≡ gentype_in s
  gentype_as (shape.Integers t) = refl
  gentype_as _ = refl

  number_to_as : (from to : Shape) (n : ℕ) → number_to (shape_as r from) (shape_as r to) n ≡ number_to from to n
  number_to_as from shape.Bool n = refl
  number_to_as (shape.Integers f) (shape.Integers t) n = refl
  number_to_as (shape.Integers f) _ n = refl
  number_to_as _ (shape.Integers t) n = refl
  number_to_as _ shape.Void n = refl
  number_to_as _ _ n = refl

  convert_as : (from to : Shape) (ns : List ℕ) → convert_to (shape_as r from) (shape_as r to) ns ≡ convert_to from to ns
  convert_as from to [] = refl
  convert_as from to (n ∷ []) = λ i. replicate (count_as to i) (((λ j. number_to (shape_as r from) (element_as to j) n) ∙ number_to_as from (element_shape to) n) i)
  convert_as from to (n ∷ m ∷ ns) = refl

  -- ---- operands

  abbrev pub folded_as : Operands → Operands
  folded_as Vary = Vary
  folded_as (Divide p) = Divide p
  folded_as (Are ts nss) = Are (map (type_id r) ts) nss

  abbrev pub known_as : Known → Known
  known_as k = record { ty = type_id r k.ty; is = k.is }

  and_first_as : (t : TypeId) (ns : List ℕ) (ops : Operands) → and_first (type_id r t) ns (folded_as ops) ≡ folded_as (and_first t ns ops)
  and_first_as t ns Vary = refl
  and_first_as t ns (Divide p) = refl
  and_first_as t ns (Are ts nss) = refl

  first_divides_as : (p : Place) (ops : Operands) → first_divides p (folded_as ops) ≡ folded_as (first_divides p ops)
  first_divides_as p Vary = refl
  first_divides_as p (Divide q) = refl
  first_divides_as p (Are ts nss) = refl

  and_known_as : (t : TypeId) (c : Constancy) (ops : Operands) → and_known (type_id r t) c (folded_as ops) ≡ folded_as (and_known t c ops)
  and_known_as t Varies ops = refl
  and_known_as t (Divides p) ops = first_divides_as p ops
  and_known_as t (Is ns) ops = and_first_as t ns ops

  chosen_folded : (ops : Operands) → chosen (folded_as ops) ≡ chosen ops
  chosen_folded Vary = refl
  chosen_folded (Divide p) = refl
  chosen_folded (Are ts []) = refl
  chosen_folded (Are ts (a ∷ [])) = refl
  chosen_folded (Are ts (a ∷ b ∷ [])) = refl
  chosen_folded (Are ts (a ∷ b ∷ c ∷ [])) = refl
  chosen_folded (Are ts (a ∷ b ∷ c ∷ d ∷ nss)) = refl

  literal_folded : (to : Shape) (ops : Operands) → literal (shape_as r to) (folded_as ops) ≡ literal to ops
  literal_folded to Vary = refl
  literal_folded to (Divide p) = refl
  literal_folded to (Are ts nss) = ap (λ n. Is (repeated n (joined nss))) (count_as to)

module _ (cs ds : List ClType) (r : ℕ → ℕ) (e : IsRenaming cs ds r) where
  converted_folded : (to : Shape) (ops : Operands) → converted (shape_as r to) ds (folded_as r ops) ≡ converted to cs ops
  converted_folded to Vary = refl
  converted_folded to (Divide p) = refl
  converted_folded to (Are [] nss) = refl
  converted_folded to (Are (t ∷ []) []) = refl
  converted_folded to (Are (t ∷ []) (ns ∷ [])) =
      (λ i. when_arithmetic (shape_as r to) (Is (convert_to (shape_of_as cs ds r e t i) (shape_as r to) ns)))
      ∙ (λ i. when_arithmetic_as r to (Is (convert_as r (shape_of cs t) to ns i)) i)
  converted_folded to (Are (t ∷ []) (ns ∷ ms ∷ nss)) = refl
  converted_folded to (Are (t ∷ u ∷ ts) nss) = refl

  gentype_at : (t : TypeId) → gentype_in (shape_of ds (type_id r t)) ≡ gentype_in (shape_of cs t)
  gentype_at t = ap gentype_in (shape_of_as cs ds r e t) ∙ gentype_as r (shape_of cs t)

  negated_folded : (op : UnOp) (ops : Operands) → negated op ds (folded_as r ops) ≡ negated op cs ops
  negated_folded op Vary = refl
  negated_folded op (Divide p) = refl
  negated_folded op (Are [] nss) = refl
  negated_folded op (Are (t ∷ []) []) = refl
  negated_folded op (Are (t ∷ []) (ns ∷ [])) = ap (λ g. if has_value op then Is (unaries_of op g.bits ns) else Varies) (gentype_at t)
  negated_folded op (Are (t ∷ []) (ns ∷ ms ∷ nss)) = refl
  negated_folded op (Are (t ∷ u ∷ ts) nss) = refl

  calculated_folded : (op : BinOp) (p : Place) (ops : Operands) → calculated op p ds (folded_as r ops) ≡ calculated op p cs ops
  calculated_folded op p Vary = refl
  calculated_folded op p (Divide q) = refl
  calculated_folded op p (Are [] nss) = refl
  calculated_folded op p (Are (t ∷ []) nss) = refl
  calculated_folded op p (Are (t ∷ u ∷ []) []) = refl
  calculated_folded op p (Are (t ∷ u ∷ []) (ns ∷ [])) = refl
  calculated_folded op p (Are (t ∷ u ∷ []) (ns ∷ ms ∷ [])) = ap (λ g. or_divides p (components_of op g ns ms)) (gentype_at t)
  calculated_folded op p (Are (t ∷ u ∷ []) (ns ∷ ms ∷ ls ∷ nss)) = refl
  calculated_folded op p (Are (t ∷ u ∷ v ∷ ts) nss) = refl

  head_folded : (h : Head) (ty : TypeId) (p : Place) (ops : Operands) → head_step h ds (type_id r ty) p (folded_as r ops) ≡ head_step h cs ty p ops
  head_folded (head.Param k) ty p ops = refl
  head_folded (head.Var k) ty p ops = refl
  head_folded (head.Constant k) ty p ops = refl
  head_folded head.Convert ty p ops = ap (λ s. converted s ds (folded_as r ops)) (shape_of_as cs ds r e ty) ∙ converted_folded (shape_of cs ty) ops
  head_folded (head.Unary op) ty p ops = negated_folded op ops
  head_folded (head.Binary op) ty p ops = calculated_folded op p ops
  head_folded (head.Assign op) ty p ops = refl
  head_folded head.Cond ty p ops = chosen_folded r ops
  head_folded head.Vector ty p ops = ap (λ s. literal s (folded_as r ops)) (shape_of_as cs ds r e ty) ∙ literal_folded r (shape_of cs ty) ops
  head_folded (head.Call f) ty p ops = refl
  head_folded (head.Builtin f) ty p ops = refl
  head_folded head.Index ty p ops = refl
  head_folded (head.Member k) ty p ops = refl
  head_folded (head.Components at) ty p ops = refl
  head_folded head.Comma ty p ops = refl
  head_folded head.Fill ty p ops = refl

  -- ---- trees

  node_folded : (t : TExpr) (ts : List ClType) (ty : TypeId) (p : Place) (h : Head) (xs : List TExpr) → IsNode t ty p h xs → known_of t ts ≡ record { ty = ty; is = head_step h ts ty p (operands ts (map known_of xs)) }
  node_folded t ts ty p h xs n =
      typed_known t ty p (node_of h n.args) ts n.is
      ∙ ap (λ c. record { ty = ty; is = c }) (head_known ts ty p h n.args ∙ ap (λ z. head_step h ts ty p (operands ts (map known_of z))) n.has)

  mutual
    pub known_of_as : (t u : TExpr) → IsTreeAs r t u → known_of u ds ≡ known_as r (known_of t cs)
    known_of_as t u (number x y ty place n m g h v w) =
        typed_known u (type_id r ty) place (tnode.Number m) ds h
        ∙ ap (λ c. record { ty = type_id r ty; is = c }) (number_step ds (type_id r ty) place m ∙ ap (λ k. Is (k ∷ [])) w ∙ sym (number_step cs ty place n))
        ∙ ap (known_as r) (sym (typed_known t ty place (tnode.Number n) cs g))
    known_of_as t u (node x y ty place k ts us g h s) =
        node_folded u ds (type_id r ty) place k us h
        ∙ ap (λ c. record { ty = type_id r ty; is = c }) (ap (head_step k ds (type_id r ty) place) (operands_as ts us s) ∙ head_folded k ty place (operands cs (map known_of ts)))
        ∙ ap (known_as r) (sym (node_folded t cs ty place k ts g))

    pub operands_as : (ts us : List TExpr) → AreTreesAs r ts us → operands ds (map known_of us) ≡ folded_as r (operands cs (map known_of ts))
    operands_as ts us none = refl
    operands_as ts us (more t u xs ys a s) =
        (λ i. and_known (known_of_as t u a i).ty (known_of_as t u a i).is (operands_as xs ys s i)) ∙ and_known_as r (known_of t cs).ty (known_of t cs).is (operands cs (map known_of xs))

  -- ---- what is asked of constants

  pub constancy_as : (t u : TExpr) → IsTreeAs r t u → constancy_of ds u ≡ constancy_of cs t
  constancy_as t u s = ap (λ k. k.is) (known_of_as t u s)

  root_shape : (t u : TExpr) → IsTreeAs r t u → shape_of ds (known_of u ds).ty ≡ shape_as r (shape_of cs (known_of t cs).ty)
  root_shape t u s = ap (λ k. shape_of ds k.ty) (known_of_as t u s) ∙ shape_of_as cs ds r e (known_of t cs).ty

  number_in_as : (s : Shape) (c : Constancy) → number_in (shape_as r s) c ≡ number_in s c
  number_in_as s Varies = refl
  number_in_as s (Divides p) = refl
  number_in_as s (Is []) = refl
  number_in_as s (Is (n ∷ [])) = ap (λ b. if b then Some n else None) (is_number_as r s)
  number_in_as s (Is (n ∷ m ∷ ns)) = refl

  negative_as : (s : Shape) (n : ℕ) → is_negative (shape_as r s) n ≡ is_negative s n
  negative_as (shape.Integers t) n = refl
  negative_as _ n = refl

  positive_in_as : (s : Shape) (o : Option ℕ) → positive_in (shape_as r s) o ≡ positive_in s o
  positive_in_as s None = refl
  positive_in_as s (Some n) = ap (λ b. if nat_eq n 0 || b then None else Some n) (negative_as s n)

  pub number_of_as : (t u : TExpr) → IsTreeAs r t u → number_of ds u ≡ number_of cs t
  number_of_as t u s = (λ i. number_in (root_shape t u s i) (constancy_as t u s i)) ∙ number_in_as (shape_of cs (known_of t cs).ty) (constancy_of cs t)

  pub positive_of_as : (t u : TExpr) → IsTreeAs r t u → positive_of ds u ≡ positive_of cs t
  positive_of_as t u s = (λ i. positive_in (root_shape t u s i) (number_of_as t u s i)) ∙ positive_in_as (shape_of cs (known_of t cs).ty) (number_of cs t)
