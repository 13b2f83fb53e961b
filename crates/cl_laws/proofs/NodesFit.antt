-- The facts of a node that a rule makes of typed operands, through their conversions; of a number; and of a name that is declared.
use Rattle.std.specs.Global.{Vec}
use Rattle.std.proofs.Common.{◌≡◌, ℕ, List, [], ◌∷◌, map, refl, sym, ap, ◌∙◌, subst, Bool, true, false, if◌then◌else◌, Some, Option}
use Rattle.std.specs.Prelude.{◌≢◌, nat_eq, slice_get}
use Rattle.std.specs.List.{All}
use Rattle.std.proofs.lemmas.Bool.{and_from, eq-eqb}
use Rattle.std.proofs.lemmas.List.Elements.{All-cons, All-nil}
use Rattle.clv_num.specs.declared.Bits.{Bits}
use Rattle.clv_place.specs.declared.place.Place.{Place}
use Rattle.cl_types.specs.declared.types.ClType.{ClType}
use Rattle.cl_types.specs.declared.types.TypeId.{TypeId}
use Rattle.cl_builtins.specs.declared.kind.Gentype.{Gentype}
use Rattle.cl_builtins.specs.Found.{IsKnown}
use Rattle.cl_builtins.specs.Kinds.{int, uint}
use Rattle.cl_tree.specs.declared.shape.Shape.TheVariants as shape
use Rattle.cl_tree.specs.declared.expression.Facts.{Facts}
use Rattle.cl_tree.specs.declared.expression.TExpr.{TExpr}
use Rattle.cl_tree.specs.declared.expression.TNode.{TNode}
use Rattle.cl_tree.specs.declared.expression.TNode.TheVariants as tnode
use Rattle.cl_tree.specs.declared.expression.TNode.TheVariants.{rolls-Param, rolls-Var, rolls-Constant, rolls-Number, rolls-Convert, rolls-Unary, rolls-Binary, rolls-Assign, rolls-Cond, rolls-Vector, rolls-Call, rolls-Builtin, rolls-Index, rolls-Member, rolls-Components, rolls-Fill, rolls-Comma}
use Rattle.cl_tree.specs.declared.expression.TNode.TheOpen as layer
use Rattle.cl_tree.specs.declared.expression.TNode.TheViews.{out-TExpr}
use Rattle.cl_tree.specs.declared.expression.TNode.TheFolds.{fold-TNode, fold-roll-TNode, fold_out-TExpr}
use Rattle.cl_tree.specs.Facts.{Lists, Given, GivenType, bind, before, each, when, value, place, named, variable, has_bits, number, converts_to, node_step, expr_step, facts_of}
use Rattle.cl_tree.specs.Shapes.{shape_of}
use Rattle.cl_rules.specs.declared.rule.Head.{Head}
use Rattle.cl_rules.specs.declared.rule.Head.TheVariants as head
use Rattle.cl_rules.specs.declared.rule.Made.{Made}
use Rattle.cl_rules.specs.declared.rule.Operand.{Operand}
use Rattle.cl_rules.specs.declared.rule.Want.{Want}
use Rattle.cl_rules.specs.declared.rule.Want.TheVariants as want
use Rattle.cl_scope.specs.declared.scope.Declared.{Declared}
use Rattle.cl_scope.specs.declared.scope.DeclaredKind.{DeclaredKind}
use Rattle.cl_scope.specs.declared.scope.DeclaredKind.TheVariants as kind
use Rattle.cl_make.specs.Building.{IsNode, node_of, IsConverted, unasked, fitting, converted as by_node, AreConverted, none, more, IsMade, IsNumber, number_type, name_head, operand_named}
use Rattle.cl_make.specs.Ready.{IsReadyOperand}
use Rattle.cl_make.specs.Wanted.{IsWanted, by_number, by_shape}
use Rattle.cl_make.proofs.Growing.{none_some, some_same}
use Rattle.cl_laws.specs.Agreement.{StandsAs, IsTypedAs, AreTypedAs}
use Rattle.cl_laws.specs.Fitting.{node_facts, IsAfter, unasked as is_unasked, fitting as is_fitting, changed as is_changed, AreAfter, none as none_after, more as more_after, IsConvertible, AreConvertible, none_converts, more_convert, RuleFits}
use Rattle.cl_laws.proofs.Opening.{facts_of as facts_in}
use Rattle.cl_laws.proofs.SameTypes.{known_wanted, shape_wanted}

-- ---- a node by its operands

abbrev the_facts : TNode → GivenType
the_facts = fold-TNode GivenType Given node_step expr_step

facts_out : (t : TExpr) (l : Lists) → facts_of t l ≡ the_facts (out-TExpr t).node l (out-TExpr t).ty
facts_out t l = ap (λ f. f l) (fold_out-TExpr GivenType Given node_step expr_step t)

-- what a node is by what its operands are, if they are typed
abbrev head_facts : Head → Lists → TypeId → Option (List Facts) → Option Facts
head_facts (head.Param k) l ty o = named ty (slice_get l.params k)
head_facts (head.Var k) l ty o = variable l ty (slice_get l.vars k)
head_facts (head.Constant k) l ty o = named ty (slice_get l.constants k)
head_facts h l ty o = bind o (node_facts h l ty)

typed_head : (h : Head) (l : Lists) (ty : TypeId) (fs : List Facts) → head_facts h l ty (Some fs) ≡ node_facts h l ty fs
typed_head (head.Param k) l ty fs = refl
typed_head (head.Var k) l ty fs = refl
typed_head (head.Constant k) l ty fs = refl
typed_head head.Convert l ty fs = refl
typed_head (head.Unary op) l ty fs = refl
typed_head (head.Binary op) l ty fs = refl
typed_head (head.Assign op) l ty fs = refl
typed_head head.Cond l ty fs = refl
typed_head head.Vector l ty fs = refl
typed_head (head.Call f) l ty fs = refl
typed_head (head.Builtin b) l ty fs = refl
typed_head head.Index l ty fs = refl
typed_head (head.Member k) l ty fs = refl
typed_head (head.Components at) l ty fs = refl
typed_head head.Comma l ty fs = refl
typed_head head.Fill l ty fs = refl

module _ (l : Lists) (ty : TypeId) where
  number_facts : (bits : Bits) → the_facts (tnode.Number bits) l ty ≡ number l ty bits.width
  number_facts bits = ap (λ n. the_facts n l ty) (sym (rolls-Number bits)) ∙ ap (λ f. f l ty) (fold-roll-TNode GivenType Given node_step expr_step (layer.Number bits))

  head_is : (h : Head) (args : Vec TExpr) → the_facts (node_of h args) l ty ≡ head_facts h l ty (each l (map facts_of args.items))
  head_is (head.Param k) args = ap (λ n. the_facts n l ty) (sym (rolls-Param k)) ∙ ap (λ f. f l ty) (fold-roll-TNode GivenType Given node_step expr_step (layer.Param k))
  head_is (head.Var k) args = ap (λ n. the_facts n l ty) (sym (rolls-Var k)) ∙ ap (λ f. f l ty) (fold-roll-TNode GivenType Given node_step expr_step (layer.Var k))
  head_is (head.Constant k) args = ap (λ n. the_facts n l ty) (sym (rolls-Constant k)) ∙ ap (λ f. f l ty) (fold-roll-TNode GivenType Given node_step expr_step (layer.Constant k))
  head_is head.Convert args = ap (λ n. the_facts n l ty) (sym (rolls-Convert args)) ∙ ap (λ f. f l ty) (fold-roll-TNode GivenType Given node_step expr_step (layer.Convert args))
  head_is (head.Unary op) args = ap (λ n. the_facts n l ty) (sym (rolls-Unary op args)) ∙ ap (λ f. f l ty) (fold-roll-TNode GivenType Given node_step expr_step (layer.Unary op args))
  head_is (head.Binary op) args = ap (λ n. the_facts n l ty) (sym (rolls-Binary op args)) ∙ ap (λ f. f l ty) (fold-roll-TNode GivenType Given node_step expr_step (layer.Binary op args))
  head_is (head.Assign op) args = ap (λ n. the_facts n l ty) (sym (rolls-Assign op args)) ∙ ap (λ f. f l ty) (fold-roll-TNode GivenType Given node_step expr_step (layer.Assign op args))
  head_is head.Cond args = ap (λ n. the_facts n l ty) (sym (rolls-Cond args)) ∙ ap (λ f. f l ty) (fold-roll-TNode GivenType Given node_step expr_step (layer.Cond args))
  head_is head.Vector args = ap (λ n. the_facts n l ty) (sym (rolls-Vector args)) ∙ ap (λ f. f l ty) (fold-roll-TNode GivenType Given node_step expr_step (layer.Vector args))
  head_is (head.Call f) args = ap (λ n. the_facts n l ty) (sym (rolls-Call f args)) ∙ ap (λ g. g l ty) (fold-roll-TNode GivenType Given node_step expr_step (layer.Call f args))
  head_is (head.Builtin b) args = ap (λ n. the_facts n l ty) (sym (rolls-Builtin b args)) ∙ ap (λ f. f l ty) (fold-roll-TNode GivenType Given node_step expr_step (layer.Builtin b args))
  head_is head.Index args = ap (λ n. the_facts n l ty) (sym (rolls-Index args)) ∙ ap (λ f. f l ty) (fold-roll-TNode GivenType Given node_step expr_step (layer.Index args))
  head_is (head.Member k) args = ap (λ n. the_facts n l ty) (sym (rolls-Member k args)) ∙ ap (λ f. f l ty) (fold-roll-TNode GivenType Given node_step expr_step (layer.Member k args))
  head_is (head.Components at) args = ap (λ n. the_facts n l ty) (sym (rolls-Components at args)) ∙ ap (λ f. f l ty) (fold-roll-TNode GivenType Given node_step expr_step (layer.Components at args))
  head_is head.Comma args = ap (λ n. the_facts n l ty) (sym (rolls-Comma args)) ∙ ap (λ f. f l ty) (fold-roll-TNode GivenType Given node_step expr_step (layer.Comma args))
  head_is head.Fill args = ap (λ n. the_facts n l ty) (sym (rolls-Fill args)) ∙ ap (λ f. f l ty) (fold-roll-TNode GivenType Given node_step expr_step (layer.Fill args))

node_is : (l : Lists) (t : TExpr) (ty : TypeId) (place : Place) (h : Head) (us : List TExpr) → IsNode t ty place h us → facts_of t l ≡ head_facts h l ty (each l (map facts_of us))
node_is l t ty place h us n =
    facts_out t l ∙ (λ i. the_facts (n.is.is i) l (n.is.has i)) ∙ head_is l ty h n.args ∙ ap (λ z. head_facts h l ty (each l (map facts_of z))) n.has

pub node_by : (l : Lists) (t : TExpr) (ty : TypeId) (place : Place) (h : Head) (us : List TExpr) (fs : List Facts) → IsNode t ty place h us → each l (map facts_of us) ≡ Some fs → facts_of t l ≡ node_facts h l ty fs
node_by l t ty place h us fs n e = node_is l t ty place h us n ∙ ap (head_facts h l ty) e ∙ typed_head h l ty fs

-- ---- operands behind their conversions

own_unwanted : (cs : List ClType) (w : Want) (t : TypeId) → IsWanted cs w t → w ≡ want.Own → ⊥
own_unwanted cs w t (by_number u k) e = cc
own_unwanted cs w t (by_shape s u k f) e = cc

convertible : (l : Lists) (w : Want) (f : Facts) (ty : TypeId) → IsConvertible l w f → IsWanted l.types w ty → f.ty ≢ ty → converts_to l f ty (shape_of l.types ty) ≡ true
convertible l want.Own f ty i h n = absurd (own_unwanted l.types want.Own ty h refl)
convertible l (want.Type u) f ty i h n = i ty h n
convertible l (want.Of s) f ty i h n = i ty h n

record IsBehind (l : Lists) (w : Want) (f : Facts) (u : TExpr) : Type 0 where
  is : Facts
  facts : facts_of u l ≡ Some is
  after : IsAfter l w f is

one_behind : (l : Lists) (w : Want) (f : Facts) (t u : TExpr) → facts_of t l ≡ Some f → (out-TExpr t).ty ≡ f.ty → IsConvertible l w f → IsConverted l.types w t u → IsBehind l w f u
one_behind l w f t u e r i (unasked v) = record { is = f; facts = e; after = is_unasked f }
one_behind l w f t u e r i (fitting x v h) = record { is = f; facts = e; after = is_fitting x f (subst (IsWanted l.types x) r h) }
one_behind l w f t u e r i (by_node x ty v y h n node) = record {
  is = value ty;
  facts =
      node_by l y ty (out-TExpr v).place head.Convert (v ∷ []) (f ∷ []) node (ap (λ z. bind z (before (Some []))) e) ∙
      ap (λ z. when z (value ty)) (convertible l x f ty i h (λ g. n (r ∙ g)));
  after = is_changed x f ty h;
}

record AreBehind (l : Lists) (ws : List Want) (fs : List Facts) (us : List TExpr) : Type 0 where
  are : List Facts
  facts : each l (map facts_of us) ≡ Some are
  after : AreAfter l ws fs are

abbrev FirstConverts : Lists → List Want → List Facts → Type 0
FirstConverts l (w ∷ ws) (f ∷ fs) = IsConvertible l w f × AreConvertible l ws fs
FirstConverts l _ _ = Unit {0}

first_converts : (l : Lists) (ws : List Want) (fs : List Facts) → AreConvertible l ws fs → FirstConverts l ws fs
first_converts l ws fs none_converts = tt
first_converts l ws fs (more_convert w vs f gs i r) = (i, r)

all_behind : (l : Lists) (ws : List Want) (ts us : List TExpr) (os : List Operand) → AreConverted l.types ws ts us → AreTypedAs l ts os → AreConvertible l ws (map facts_in os) → AreBehind l ws (map facts_in os) us
all_behind l ws ts us [] none a c = record { are = []; facts = refl; after = none_after }
all_behind l ws ts us (o ∷ os) none a c = absurd a
all_behind l ws ts us [] (more w vs t u xs ys i r) a c = absurd a
all_behind l ws ts us (o ∷ os) (more w vs t u xs ys i r) a c =
    let k = first_converts l (w ∷ vs) (o.facts ∷ map facts_in os) c in
    let b = one_behind l w o.facts t u a.0.facts a.0.root k.0 i in
    let m = all_behind l vs xs ys os r a.1 k.1 in
    record {
      are = b.is ∷ m.are;
      facts = λ i. bind (b.facts i) (before (m.facts i));
      after = more_after w vs o.facts b.is (map facts_in os) m.are b.after m.after;
    }

-- ---- nodes

-- what a rule makes of typed operands is typed
pub made_typed : (l : Lists) (m : Made) (place : Place) (ts : List TExpr) (os : List Operand) (t : TExpr) (o : Operand) → AreTypedAs l ts os → RuleFits l m (map facts_in os) → IsMade l.types m place ts t o → IsTypedAs l t o
made_typed l m place ts os t o a f h =
    let b = all_behind l m.wants ts h.operands os h.converts a f.converts in
    record {
      facts =
          node_by l t h.ty place m.head h.operands b.are h.is b.facts ∙
          f.gives b.are h.ty b.after h.gives ∙
          ap (λ x. Some x.facts) (sym h.known);
      root = h.is.is.has ∙ ap (λ x. x.facts.ty) (sym h.known);
      ready = subst (IsReadyOperand l.types) (sym h.known) (record { known = known_wanted l.types m.gives h.ty h.gives; shape = refl });
    }

-- a number of a scalar type is typed
pub number_typed : (l : Lists) (g : Gentype) (n : ℕ) (place : Place) (t : TExpr) (o : Operand) → g.count ≡ 1 → IsNumber l.types g n place t o → IsTypedAs l t o
number_typed l g n place t o c h =
    let s = shape_wanted l.types (shape.Integers g) h.ty h.gives in
    record {
      facts =
          facts_out t l ∙ (λ i. the_facts (h.is.is i) l (h.is.has i)) ∙ number_facts l h.ty h.bits ∙
          (λ i. when (has_bits (h.width i) (s i)) (value h.ty)) ∙
          ap (λ z. when z (value h.ty)) (and_from (nat_eq g.count 1) (nat_eq g.bits g.bits) (eq-eqb g.count 1 c) (eq-eqb g.bits g.bits refl)) ∙
          ap (λ x. Some x.facts) (sym h.known);
      root = h.is.has ∙ ap (λ x. x.facts.ty) (sym h.known);
      ready = subst (IsReadyOperand l.types) (sym h.known) (record { known = known_wanted l.types (want.Of (shape.Integers g)) h.ty h.gives; shape = refl });
    }

pub number_scalar : (ty : ℕ) → (number_type ty).count ≡ 1
number_scalar ty = by (nat_eq ty 0) (nat_eq ty 1)
  where
    by : (a b : Bool) → (if a then int else if b then uint else record { bits = 64; signed = nat_eq ty 2; count = 1 }).count ≡ 1
    by true b = refl
    by false true = refl
    by false false = refl

-- a name that is declared as it stands is typed
head_named : (l : Lists) (d : Declared) (h : Head) (k : DeclaredKind) → name_head k ≡ Some h → StandsAs l d k → node_facts h l d.ty [] ≡ Some (place d.ty d.space)
head_named l d h (kind.Param k) e s = subst (λ z. node_facts z l d.ty [] ≡ Some (place d.ty d.space)) (some_same (head.Param k) h e) s
head_named l d h (kind.Var k) e s = subst (λ z. node_facts z l d.ty [] ≡ Some (place d.ty d.space)) (some_same (head.Var k) h e) s
head_named l d h (kind.Constant k) e s = subst (λ z. node_facts z l d.ty [] ≡ Some (place d.ty d.space)) (some_same (head.Constant k) h e) s
head_named l d h kind.Typedef e s = absurd (none_some e)
head_named l d h kind.Tag e s = absurd (none_some e)

pub name_typed : (l : Lists) (d : Declared) (h : Head) (place : Place) (t : TExpr) → StandsAs l d d.kind → name_head d.kind ≡ Some h → IsKnown l.types d.ty → IsNode t d.ty place h [] → IsTypedAs l t (operand_named l.types d)
name_typed l d h place t s e k n = record {
  facts = node_by l t d.ty place h [] [] n refl ∙ head_named l d h d.kind e s;
  root = n.is.has;
  ready = record { known = k; shape = refl };
}

-- ---- operands in a row

pub all_ready : (l : Lists) (ts : List TExpr) (os : List Operand) → AreTypedAs l ts os → All (IsReadyOperand l.types) os
all_ready l [] [] a = All-nil (IsReadyOperand l.types)
all_ready l [] (o ∷ os) a = absurd a
all_ready l (t ∷ ts) [] a = absurd a
all_ready l (t ∷ ts) (o ∷ os) a = All-cons (IsReadyOperand l.types) o os a.0.ready (all_ready l ts os a.1)
