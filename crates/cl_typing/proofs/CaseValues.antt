-- The value of a case in the typed tree is what the rule takes it for.
use Rattle.std.proofs.Common.{◌≡◌, ℕ, ◌<◌, ◌%◌, ◌^◌, nat_eq, Bool, true, false, true≢false, not, ◌||◌, if◌then◌else◌, List, [], ◌∷◌, map, replicate, Option, Some, None, refl, sym, ap, ◌∙◌, subst, arith}
use Rattle.std.specs.Global.{Vec}
use Rattle.std.specs.Prelude.{is_some}
use Rattle.std.proofs.Math.Nat.{mod-eq_of_lt}
use Rattle.std.proofs.lemmas.Bool.{eqb-true}
use Rattle.clv_num.proofs.Laws.{pattern_of_below, convert_of-narrow}
use Rattle.clv_place.specs.declared.place.Place.{Place}
use Rattle.cl_types.specs.declared.types.ClType.{ClType}
use Rattle.cl_types.specs.declared.types.TypeId.{TypeId}
use Rattle.cl_builtins.specs.declared.kind.Gentype.{Gentype}
use Rattle.cl_tree.specs.declared.constant.Constancy.{Constancy}
use Rattle.cl_tree.specs.declared.constant.Constancy.TheVariants.{Varies, Divides, Is}
use Rattle.cl_tree.specs.declared.constant.Operands.TheVariants.{Are}
use Rattle.cl_tree.specs.declared.expression.Facts.{Facts}
use Rattle.cl_tree.specs.declared.expression.TExpr.{TExpr}
use Rattle.cl_tree.specs.declared.expression.TNode.{TNode}
use Rattle.cl_tree.specs.declared.expression.TNode.TheVariants as tnode
use Rattle.cl_tree.specs.declared.expression.TNode.TheVariants.{rolls-Convert}
use Rattle.cl_tree.specs.declared.expression.TNode.TheOpen as layer
use Rattle.cl_tree.specs.declared.expression.TNode.TheViews.{out-TExpr}
use Rattle.cl_tree.specs.declared.expression.TNode.TheFolds.{fold-TNode, fold-roll-TNode, fold_out-TExpr}
use Rattle.cl_tree.specs.declared.shape.Shape.{Shape}
use Rattle.cl_tree.specs.declared.shape.Shape.TheVariants as shape
use Rattle.cl_tree.specs.Constants.{GivenNode, GivenTypes, and_known, operands, converted, number_to, number_in, number_of, node_step, expr_step, known_of, constancy_of}
use Rattle.cl_tree.specs.Facts.{Lists, facts_of}
use Rattle.cl_tree.specs.Shapes.{shape_of, is_number}
use Rattle.cl_rules.specs.declared.rule.Head.TheVariants as head
use Rattle.cl_rules.specs.declared.rule.Operand.{Operand}
use Rattle.cl_rules.specs.declared.rule.Want.TheVariants as want
use Rattle.cl_make.specs.Building.{IsNode, IsConverted, fitting, converted as by_node}
use Rattle.cl_make.proofs.Trees.{root_is}
use Rattle.cl_laws.specs.Agreement.{IsTypedAs}
use Rattle.cl_laws.proofs.SameTypes.{shape_wanted}
use Rattle.cl_typing.specs.Statements.{case_in, case_of}

-- a number of a type as its pattern
abbrev pub canon : Gentype → ℕ → ℕ
canon g n = number_to (shape.Integers g) (shape.Integers g) n

same_inside : {A : Type 0} (x y : A) → Some x ≡ Some y → x ≡ y
same_inside x y e = cc

canon_low : (g : Gentype) (n : ℕ) → n < 2 ^ g.bits → canon g n ≡ n
canon_low g n low =
    let e : n % 2 ^ g.bits ≡ n = mod-eq_of_lt low in
    convert_of-narrow g.bits (n % 2 ^ g.bits) g.signed g.bits (omega arith) ∙ ap (λ k. k % 2 ^ g.bits) e ∙ e

-- ---- numbers

number_is : (s : Shape) (c : Constancy) (m : ℕ) → number_in s c ≡ Some m → c ≡ Is (m ∷ [])
number_is s Varies m e = absurd (true≢false (sym (ap is_some e)))
number_is s (Divides p) m e = absurd (true≢false (sym (ap is_some e)))
number_is s (Is []) m e = absurd (true≢false (sym (ap is_some e)))
number_is s (Is (n ∷ [])) m e = by (is_number s) e
  where
    by : (b : Bool) → (if b then Some n else None) ≡ Some m → Is (n ∷ []) ≡ Is (m ∷ [])
    by true e = ap (λ k. Is (k ∷ [])) (same_inside n m e)
    by false e = absurd (true≢false (sym (ap is_some e)))
number_is s (Is (n ∷ k ∷ ns)) m e = absurd (true≢false (sym (ap is_some e)))

abbrev single : Gentype → Gentype
single g = record g { count = 1 }

single_number : (from : Shape) (g : Gentype) (n : ℕ) → number_to from (shape.Integers (single g)) n ≡ number_to from (shape.Integers g) n
single_number shape.Void g n = refl
single_number shape.Bool g n = refl
single_number (shape.Integers f) g n = refl
single_number (shape.Array elem len nested) g n = refl
single_number shape.Struct g n = refl
single_number (shape.Pointer space to readonly restricted) g n = refl

either : (b : Bool) → (b || not b) ≡ true
either true = refl
either false = refl

-- what a conversion makes of a number
converted_number : (cs : List ClType) (t : TypeId) (g : Gentype) (m : ℕ) → nat_eq g.count 1 ≡ true → number_in (shape.Integers g) (converted (shape.Integers g) cs (and_known t (Is (m ∷ [])) (Are [] []))) ≡ Some (number_to (shape_of cs t) (shape.Integers g) m)
converted_number cs t g m one =
    let x = number_to (shape_of cs t) (shape.Integers (single g)) m in
    ap (λ b. number_in (shape.Integers g) (if b then Is (replicate g.count x) else Varies)) (either (nat_eq g.count 1)) ∙
    ap (λ k. number_in (shape.Integers g) (Is (replicate k x))) (eqb-true g.count 1 one) ∙
    ap (λ b. if b then Some x else None) one ∙
    ap Some (single_number (shape_of cs t) g m)

-- ---- a node that converts

abbrev node_known : TNode → GivenNode
node_known = fold-TNode GivenNode GivenTypes node_step expr_step

known_out : (t : TExpr) (cs : List ClType) → known_of t cs ≡ record { ty = (out-TExpr t).ty; is = node_known (out-TExpr t).node cs (out-TExpr t).ty (out-TExpr t).place }
known_out t cs = ap (λ f. f cs) (fold_out-TExpr GivenNode GivenTypes node_step expr_step t)

convert_known : (args : Vec TExpr) (cs : List ClType) (ty : TypeId) (p : Place) → node_known (tnode.Convert args) cs ty p ≡ converted (shape_of cs ty) cs (operands cs (map known_of args.items))
convert_known args cs ty p = ap (λ n. node_known n cs ty p) (sym (rolls-Convert args)) ∙ ap (λ f. f cs ty p) (fold-roll-TNode GivenNode GivenTypes node_step expr_step (layer.Convert args))

known_converted : (cs : List ClType) (u t : TExpr) (ty : TypeId) (place : Place) → IsNode u ty place head.Convert (t ∷ []) → known_of u cs ≡ record { ty = ty; is = converted (shape_of cs ty) cs (and_known (known_of t cs).ty (constancy_of cs t) (Are [] [])) }
known_converted cs u t ty place n =
    known_out u cs ∙
    (λ i. record { ty = n.is.has i; is = node_known (n.is.is i) cs (n.is.has i) (n.is.at i) }) ∙
    ap (λ c. record { ty = ty; is = c }) (convert_known n.args cs ty place) ∙
    ap (λ ts. record { ty = ty; is = converted (shape_of cs ty) cs (operands cs (map known_of ts)) }) n.has

-- ---- values of cases

-- the tree has a number, which the rule takes for this one
pub record IsValued (cs : List ClType) (g : Gentype) (u : TExpr) (n : ℕ) : Type 0 where
  pub m : ℕ
  pub is : number_of cs u ≡ Some m
  pub same : canon g m ≡ n

number_low : (s : Shape) (g : Gentype) (m : ℕ) → nat_eq g.bits 32 ≡ true → is_number s ≡ true → (s ≡ shape.Bool → m < 2) → number_to s (shape.Integers g) m < 2 ^ g.bits
number_low shape.Bool g m wide h low =
    let w : g.bits ≡ 32 = eqb-true g.bits 32 wide in
    let k : m < 2 = low refl in
    subst (λ b. m < 2 ^ b) (sym w) (omega arith)
number_low (shape.Integers f) g m wide h low = pattern_of_below g.bits _
number_low s g m wide h low = absurd (true≢false (sym h))

-- a constant bool is 0 or 1
abbrev pub BoolsLow : Lists → Type 0
BoolsLow l = (t : TExpr) (f : Facts) (n : ℕ) → facts_of t l ≡ Some f → shape_of l.types f.ty ≡ shape.Bool → constancy_of l.types t ≡ Is (n ∷ []) → n < 2

record IsGiven (s : Shape) (g : Gentype) (c : Option ℕ) (n : ℕ) : Type 0 where
  m : ℕ
  is : c ≡ Some m
  to : number_to s (shape.Integers g) m ≡ n

given : (s : Shape) (g : Gentype) (c : Option ℕ) (n : ℕ) → case_in s g c ≡ Some n → IsGiven s g c n
given s g None n e = absurd (true≢false (sym (ap is_some e)))
given s g (Some m) n e = record { m = m; is = refl; to = same_inside (number_to s (shape.Integers g) m) n e }

module _ (l : Lists) (bools : BoolsLow l) (g : Gentype) (one : nat_eq g.count 1 ≡ true) (wide : nat_eq g.bits 32 ≡ true) where
  pub case_value : (t u : TExpr) (o : Operand) (n : ℕ) → IsTypedAs l t o → is_number o.shape ≡ true → IsConverted l.types (want.Of (shape.Integers g)) t u → case_of l.types g o t ≡ Some n → IsValued l.types g u n
  case_value t u o n r num (fitting w v h) e =
      let c = given o.shape g (number_of l.types v) n e in
      let s : o.shape ≡ shape.Integers g = r.ready.shape ∙ ap (shape_of l.types) (sym r.root) ∙ shape_wanted l.types (shape.Integers g) (out-TExpr v).ty h in
      record { m = c.m; is = c.is; same = sym (ap (λ z. number_to z (shape.Integers g) c.m) s) ∙ c.to }
  case_value t u o n r num (by_node w ty v y h d node) e =
      let c = given o.shape g (number_of l.types v) n e in
      let own = (known_of v l.types).ty in
      let k = number_is (shape_of l.types own) (constancy_of l.types v) c.m c.is in
      let low = number_low o.shape g c.m wide num (λ b. bools v o.facts c.m r.facts (sym r.ready.shape ∙ b) k) in
      record {
        m = n;
        is =
            ap (λ z. number_in (shape_of l.types z.ty) z.is) (known_converted l.types y v ty (out-TExpr v).place node) ∙
            ap (λ z. number_in z (converted z l.types (and_known own (constancy_of l.types v) (Are [] [])))) (shape_wanted l.types (shape.Integers g) ty h) ∙
            ap (λ z. number_in (shape.Integers g) (converted (shape.Integers g) l.types (and_known own z (Are [] [])))) k ∙
            converted_number l.types own g c.m one ∙
            ap (λ z. Some (number_to z (shape.Integers g) c.m)) (ap (shape_of l.types) (root_is v l.types ∙ r.root) ∙ sym r.ready.shape) ∙
            ap Some c.to;
        same = canon_low g n (subst (λ z. z < 2 ^ g.bits) c.to low);
      }
