-- A typed constant bool is 0 or 1: only a conversion makes one, or `?:` of two.
use Rattle.std.proofs.Common.{◌≡◌, ℕ, ◌<◌, nat_eq, Bool, true, false, true≢false, not, ◌&&◌, ◌||◌, if◌then◌else◌, List, [], ◌∷◌, map, Option, Some, None, refl, sym, ap, ◌∙◌, subst, ◌⊎◌, inl, inr, arith}
use Rattle.std.specs.Global.{Vec}
use Rattle.std.specs.Prelude.{is_some}
use Rattle.std.proofs.lemmas.Bool.{and_parts, eqb-true}
use Rattle.clv_num.specs.declared.Bits.{Bits}
use Rattle.clv_place.specs.declared.place.Place.{Place}
use Rattle.cl_types.specs.declared.types.ClType.{ClType}
use Rattle.cl_types.specs.declared.types.TypeId.{TypeId}
use Rattle.cl_types.specs.declared.operator.UnOp.{UnOp}
use Rattle.cl_types.specs.declared.operator.UnOp.TheVariants as un
use Rattle.cl_types.specs.declared.operator.BinOp.{BinOp}
use Rattle.cl_types.specs.declared.operator.BinOp.TheVariants as bin
use Rattle.cl_builtins.specs.declared.kind.Gentype.{Gentype}
use Rattle.cl_builtins.specs.Kinds.{int}
use Rattle.cl_tree.specs.declared.constant.Constancy.{Constancy}
use Rattle.cl_tree.specs.declared.constant.Constancy.TheVariants.{Varies, Divides, Is}
use Rattle.cl_tree.specs.declared.constant.Operands.{Operands}
use Rattle.cl_tree.specs.declared.constant.Operands.TheVariants.{Vary, Divide, Are}
use Rattle.cl_tree.specs.declared.expression.Facts.{Facts}
use Rattle.cl_tree.specs.declared.expression.TExpr.{TExpr}
use Rattle.cl_tree.specs.declared.expression.TNode.{TNode}
use Rattle.cl_tree.specs.declared.expression.TNode.TheOpen as layer
use Rattle.cl_tree.specs.declared.expression.TNode.TheOpen.{TNode-F, TExpr-F}
use Rattle.cl_tree.specs.declared.expression.TNode.TheFolds.{map-TNode, map-TExpr, fold-TNode, fold-roll-TNode, fold-roll-TExpr, ind-TExpr}
use Rattle.cl_tree.specs.declared.expression.TNode.TheViews.{roll-TNode, roll-TExpr}
use Rattle.cl_tree.specs.declared.shape.Shape.{Shape}
use Rattle.cl_tree.specs.declared.shape.Shape.TheVariants as shape
use Rattle.cl_tree.specs.Constants.{GivenNode, GivenTypes, truth, and_known, operands, is_zero, known_of, constancy_of}
use Rattle.cl_tree.specs.Constants as constant
use Rattle.cl_tree.specs.Facts.{Lists, Given, GivenType, when, bind, before, each, value, has_bits, number, shape_at, facts_of}
use Rattle.cl_tree.specs.Facts as fact
use Rattle.cl_tree.specs.Shapes.{shape_of, same_type, is_number, is_array, is_type, relation_type}
use Rattle.cl_typing.proofs.CaseValues.{BoolsLow}

-- ---- words on options

none_some : {A B : Type 0} (x : A) → None ≡ Some x → B
none_some x e = absurd (true≢false (sym (ap is_some e)))

inside : {A : Type 0} (x y : A) → Some x ≡ Some y → x ≡ y
inside x y e = cc

-- what `when` gives
record IsWhen {A : Type 0} (b : Bool) (x y : A) : Type 0 where
  holds : b ≡ true
  same : x ≡ y

when_some : {A : Type 0} (b : Bool) (x y : A) → when b x ≡ Some y → IsWhen b x y
when_some true x y e = record { holds = refl; same = inside x y e }
when_some false x y e = none_some y e

record IsBound {A B : Type 0} (o : Option A) (f : A → Option B) (y : B) : Type 0 where
  x : A
  has : o ≡ Some x
  gives : f x ≡ Some y

bound : {A B : Type 0} (o : Option A) (f : A → Option B) (y : B) → bind o f ≡ Some y → IsBound o f y
bound None f y e = none_some y e
bound (Some x) f y e = record { x = x; has = refl; gives = e }

record IsFirst (l : Lists) (t : TExpr) (ts : List TExpr) (fs : List Facts) : Type 0 where
  first : Facts
  rest : List Facts
  is : fs ≡ first ∷ rest
  typed : facts_of t l ≡ Some first
  others : each l (map facts_of ts) ≡ Some rest

first_typed : (l : Lists) (t : TExpr) (ts : List TExpr) (fs : List Facts) → each l (map facts_of (t ∷ ts)) ≡ Some fs → IsFirst l t ts fs
first_typed l t ts fs e =
    let p = bound (facts_of t l) (before (each l (map facts_of ts))) fs e in
    by p.x p.has (each l (map facts_of ts)) refl p.gives
  where
    by : (f : Facts) → facts_of t l ≡ Some f → (o : Option (List Facts)) → each l (map facts_of ts) ≡ o → before o f ≡ Some fs → IsFirst l t ts fs
    by f h None k e = none_some fs e
    by f h (Some rest) k e = record { first = f; rest = rest; is = sym (inside (f ∷ rest) fs e); typed = h; others = k }

-- ---- what gives no bool

module _ (l : Lists) (ty : TypeId) (bool : shape_of l.types ty ≡ shape.Bool) where
  same_shape : (own : TypeId) → same_type ty own ≡ true → shape_of l.types own ≡ shape.Bool
  same_shape own h =
      let e : ty.0 ≡ own.0 = eqb-true ty.0 own.0 h in
      ap (λ k. shape_of l.types (record { 0 = k })) (sym e) ∙ bool

  no_promoted : (f : Facts) → same_type ty f.ty ≡ true → fact.is_promoted (shape_at l f) ≡ true → ⊥
  no_promoted f s h = true≢false (sym h ∙ ap fact.is_promoted (same_shape f.ty s))

  no_type : (t : Gentype) → is_type t (shape_of l.types ty) ≡ true → ⊥
  no_type t h = true≢false (sym h ∙ ap (is_type t) bool)

  no_plain : (f : Facts) → same_type ty f.ty ≡ true → fact.is_plain_pointer l (shape_at l f) ≡ true → ⊥
  no_plain f s h = true≢false (sym h ∙ ap (fact.is_plain_pointer l) (same_shape f.ty s))

  no_of_type : (a b : Facts) → fact.of_type l ty a b ≡ true → ⊥
  no_of_type a b h =
      let p = and_parts (fact.is_promoted (shape_at l a) && same_type a.ty b.ty) (same_type ty a.ty) h in
      no_promoted a p.1 (and_parts (fact.is_promoted (shape_at l a)) (same_type a.ty b.ty) p.0).0

  no_moved : (p n : Facts) → fact.moved l ty p n ≡ true → ⊥
  no_moved p n h =
      let q = and_parts (fact.is_plain_pointer l (shape_at l p) && is_number (shape_at l n)) (same_type ty p.ty) h in
      no_plain p q.1 (and_parts (fact.is_plain_pointer l (shape_at l p)) (is_number (shape_at l n)) q.0).0

  no_apart : (a b : Facts) → fact.apart l ty a b ≡ true → ⊥
  no_apart a b h = no_type int (and_parts (fact.is_plain_pointer l (shape_at l a) && same_type a.ty b.ty) (is_type int (shape_of l.types ty)) h).1

  no_relation_at : (s : Shape) → fact.gives_relation l ty s ≡ true → ⊥
  no_relation_at (shape.Integers t) h = no_type (relation_type t) (and_parts (fact.is_promoted (shape.Integers t)) (is_type (relation_type t) (shape_of l.types ty)) h).1
  no_relation_at s h = no_type int (and_parts (fact.is_plain_pointer l s) (is_type int (shape_of l.types ty)) h).1

  no_promotion : (f : Facts) → (fact.is_promoted (shape_at l f) && same_type ty f.ty) ≡ true → ⊥
  no_promotion f h =
      let p = and_parts (fact.is_promoted (shape_at l f)) (same_type ty f.ty) h in
      no_promoted f p.1 p.0

one_of : (a b c : Bool) → (a || b || c) ≡ true → (a ≡ true → ⊥) → (b ≡ true → ⊥) → (c ≡ true → ⊥) → ⊥
one_of true b c h x y z = x refl
one_of false true c h x y z = y refl
one_of false false c h x y z = z h

module _ (l : Lists) (ty : TypeId) where
  abbrev IsBool : TypeId → Type 0
  IsBool t = shape_of l.types t ≡ shape.Bool

  abbrev No : Option Facts → Type 0
  No o = (f : Facts) → o ≡ Some f → IsBool f.ty → ⊥

  -- a test that no bool passes
  no_when : (b : Bool) → (IsBool ty → b ≡ true → ⊥) → No (when b (value ty))
  no_when b h f e k =
      let w = when_some b (value ty) f e in
      h (ap (λ g. shape_of l.types g.ty) w.same ∙ k) w.holds

  no_calculated : (a b : Facts) → No (fact.calculated l ty a b)
  no_calculated a b = no_when (fact.of_type l ty a b) (λ bool. no_of_type l ty bool a b)

  no_related : (a b : Facts) → No (fact.related l ty a b)
  no_related a b = no_when (same_type a.ty b.ty && fact.gives_relation l ty (shape_at l a)) (λ bool h. no_relation_at l ty bool (shape_at l a) (and_parts (same_type a.ty b.ty) (fact.gives_relation l ty (shape_at l a)) h).1)

  no_joined : (a b : Facts) → No (fact.joined l ty a b)
  no_joined a b = no_when (is_number (shape_at l a) && is_number (shape_at l b) && is_type int (shape_of l.types ty)) (λ bool h. no_type l ty bool int (and_parts (is_number (shape_at l a) && is_number (shape_at l b)) (is_type int (shape_of l.types ty)) h).1)

  no_shifted : (a b : Facts) → No (fact.shifted l ty a b)
  no_shifted a b = no_when (fact.is_promoted (shape_at l a) && fact.is_amount (shape_at l a) (shape_at l b) && same_type ty a.ty) (λ bool h.
      let p = and_parts (fact.is_promoted (shape_at l a) && fact.is_amount (shape_at l a) (shape_at l b)) (same_type ty a.ty) h in
      no_promoted l ty bool a p.1 (and_parts (fact.is_promoted (shape_at l a)) (fact.is_amount (shape_at l a) (shape_at l b)) p.0).0)

  no_binary : (op : BinOp) (a b : Facts) → No (fact.binary op l ty a b)
  no_binary bin.Add a b = no_when (fact.of_type l ty a b || fact.moved l ty a b || fact.moved l ty b a) (λ bool h. one_of (fact.of_type l ty a b) (fact.moved l ty a b) (fact.moved l ty b a) h (no_of_type l ty bool a b) (no_moved l ty bool a b) (no_moved l ty bool b a))
  no_binary bin.Sub a b = no_when (fact.of_type l ty a b || fact.moved l ty a b || fact.apart l ty a b) (λ bool h. one_of (fact.of_type l ty a b) (fact.moved l ty a b) (fact.apart l ty a b) h (no_of_type l ty bool a b) (no_moved l ty bool a b) (no_apart l ty bool a b))
  no_binary bin.Shl a b = no_shifted a b
  no_binary bin.Shr a b = no_shifted a b
  no_binary bin.Less a b = no_related a b
  no_binary bin.Greater a b = no_related a b
  no_binary bin.LessEqual a b = no_related a b
  no_binary bin.GreaterEqual a b = no_related a b
  no_binary bin.Equal a b = no_related a b
  no_binary bin.NotEqual a b = no_related a b
  no_binary bin.LogicalAnd a b = no_joined a b
  no_binary bin.LogicalOr a b = no_joined a b
  no_binary bin.Mul a b = no_calculated a b
  no_binary bin.Div a b = no_calculated a b
  no_binary bin.Rem a b = no_calculated a b
  no_binary bin.And a b = no_calculated a b
  no_binary bin.Xor a b = no_calculated a b
  no_binary bin.Or a b = no_calculated a b

  no_binary_at : (op : BinOp) (fs : List Facts) → No (fact.binary_at op l ty fs)
  no_binary_at op [] f e k = none_some f e
  no_binary_at op (a ∷ []) f e k = none_some f e
  no_binary_at op (a ∷ b ∷ []) f e k = no_binary op a b f e k
  no_binary_at op (a ∷ b ∷ c ∷ fs) f e k = none_some f e

  -- an operator on one operand that has a value
  no_unary : (op : UnOp) (a : Facts) → constant.has_value op ≡ true → No (fact.unary op l ty a)
  no_unary un.Plus a v f e k = no_when (fact.is_promoted (shape_at l a) && same_type ty a.ty) (λ bool. no_promotion l ty bool a) f e k
  no_unary un.Minus a v f e k = no_when (fact.is_promoted (shape_at l a) && same_type ty a.ty) (λ bool. no_promotion l ty bool a) f e k
  no_unary un.Not a v f e k = no_when (fact.is_promoted (shape_at l a) && same_type ty a.ty) (λ bool. no_promotion l ty bool a) f e k
  no_unary un.LogicalNot a v f e k = no_when (is_number (shape_at l a) && is_type int (shape_of l.types ty)) (λ bool h. no_type l ty bool int (and_parts (is_number (shape_at l a)) (is_type int (shape_of l.types ty)) h).1) f e k
  no_unary op a v f e k = true≢false (sym v)

  no_unary_at : (op : UnOp) (fs : List Facts) → constant.has_value op ≡ true → No (fact.unary_at op l ty fs)
  no_unary_at op [] v f e k = none_some f e
  no_unary_at op (a ∷ []) v f e k = no_unary op a v f e k
  no_unary_at op (a ∷ b ∷ fs) v f e k = none_some f e

  no_vector : (fs : List Facts) → No (fact.vector l ty fs)
  no_vector fs = no_when (fact.makes_vector l fs (shape_of l.types ty)) (λ bool h. true≢false (sym h ∙ ap (fact.makes_vector l fs) bool))

  no_number : (w : ℕ) → No (number l ty w)
  no_number w = no_when (has_bits w (shape_of l.types ty)) (λ bool h. true≢false (sym h ∙ ap (has_bits w) bool))

  -- a conversion is to its node's type
  converts_bool : (fs : List Facts) (f : Facts) → fact.converted l ty fs ≡ Some f → IsBool f.ty → IsBool ty
  converts_bool [] f e k = none_some f e
  converts_bool (a ∷ []) f e k = ap (λ g. shape_of l.types g.ty) (when_some (fact.converts_to l a ty (shape_of l.types ty)) (value ty) f e).same ∙ k
  converts_bool (a ∷ b ∷ fs) f e k = none_some f e

-- ---- what makes a value of one number

varies_is : {A : Type 0} (ns : List ℕ) → Varies ≡ Is ns → A
varies_is ns e = absurd (let z : Varies ≡ Is ns = e in cc)

divides_is : {A : Type 0} (p : Place) (ns : List ℕ) → Divides p ≡ Is ns → A
divides_is p ns e = absurd (let z : Divides p ≡ Is ns = e in cc)

same_is : (ns ms : List ℕ) → Is ns ≡ Is ms → ns ≡ ms
same_is ns ms e = cc

truth_low : (b : Bool) → truth b < 2
truth_low true = omega arith
truth_low false = omega arith

one_number : (n m : ℕ) (ns : List ℕ) → n ∷ ns ≡ m ∷ [] → n ≡ m
one_number n m ns e = cc

not_one : {A : Type 0} (n k m : ℕ) (ns : List ℕ) → n ∷ k ∷ ns ≡ m ∷ [] → A
not_one n k m ns e = absurd (let z : n ∷ k ∷ ns ≡ m ∷ [] = e in cc)

not_empty : {A : Type 0} (m : ℕ) → [] ≡ m ∷ [] → A
not_empty m e = absurd (let z : [] ≡ m ∷ [] = e in cc)

converted_low : (cs : List ClType) (ops : Operands) (n : ℕ) → constant.converted shape.Bool cs ops ≡ Is (n ∷ []) → n < 2
converted_low cs Vary n e = varies_is (n ∷ []) e
converted_low cs (Divide p) n e = divides_is p (n ∷ []) e
converted_low cs (Are [] nss) n e = varies_is (n ∷ []) e
converted_low cs (Are (t ∷ []) []) n e = varies_is (n ∷ []) e
converted_low cs (Are (t ∷ []) ([] ∷ [])) n e = not_empty n (same_is [] (n ∷ []) e)
converted_low cs (Are (t ∷ []) ((a ∷ []) ∷ [])) n e =
    let z = truth (not (nat_eq a 0)) in
    subst (λ k. k < 2) (one_number z n [] (same_is (z ∷ []) (n ∷ []) e)) (truth_low (not (nat_eq a 0)))
converted_low cs (Are (t ∷ []) ((a ∷ b ∷ ns) ∷ [])) n e = not_one a b n ns (same_is (a ∷ b ∷ ns) (n ∷ []) e)
converted_low cs (Are (t ∷ []) (ns ∷ ms ∷ nss)) n e = varies_is (n ∷ []) e
converted_low cs (Are (t ∷ u ∷ ts) nss) n e = varies_is (n ∷ []) e

negated_value : (op : UnOp) (cs : List ClType) (ops : Operands) (ns : List ℕ) → constant.negated op cs ops ≡ Is ns → constant.has_value op ≡ true
negated_value op cs ops ns e = by (constant.has_value op) ops refl e
  where
    by : (b : Bool) (ops : Operands) → constant.has_value op ≡ b → constant.negated op cs ops ≡ Is ns → constant.has_value op ≡ true
    by true ops h e = h
    by false Vary h e = varies_is ns e
    by false (Divide p) h e = varies_is ns (sym (ap (λ b. if b then Divides p else Varies) h) ∙ e)
    by false (Are [] nss) h e = varies_is ns e
    by false (Are (t ∷ []) []) h e = varies_is ns e
    by false (Are (t ∷ []) (ms ∷ [])) h e = varies_is ns (sym (ap (λ b. if b then Is (constant.unaries_of op (constant.gentype_in (shape_of cs t)).bits ms) else Varies) h) ∙ e)
    by false (Are (t ∷ []) (ms ∷ ks ∷ nss)) h e = varies_is ns e
    by false (Are (t ∷ u ∷ ts) nss) h e = varies_is ns e

-- ---- `?:`

known_first : (t : TypeId) (c : Constancy) (rest : Operands) (ts : List TypeId) (nss : List (List ℕ)) → and_known t c rest ≡ Are ts nss → (ns : List ℕ) × (us : List TypeId) × (mss : List (List ℕ)) × (c ≡ Is ns) × (rest ≡ Are us mss) × (nss ≡ ns ∷ mss)
known_first t Varies rest ts nss e = absurd (let z : Vary ≡ Are ts nss = e in cc)
known_first t (Divides p) Vary ts nss e = absurd (let z : Vary ≡ Are ts nss = e in cc)
known_first t (Divides p) (Divide q) ts nss e = absurd (let z : Divide p ≡ Are ts nss = e in cc)
known_first t (Divides p) (Are us mss) ts nss e = absurd (let z : Divide p ≡ Are ts nss = e in cc)
known_first t (Is ns) Vary ts nss e = absurd (let z : Vary ≡ Are ts nss = e in cc)
known_first t (Is ns) (Divide q) ts nss e = absurd (let z : Divide q ≡ Are ts nss = e in cc)
known_first t (Is ns) (Are us mss) ts nss e = (ns, us, mss, refl, refl, (let z : Are (t ∷ us) (ns ∷ mss) ≡ Are ts nss = e in cc))

chosen_three : (ops : Operands) (n : ℕ) → constant.chosen ops ≡ Is (n ∷ []) → (ts : List TypeId) × (test : List ℕ) × (ns : List ℕ) × (ms : List ℕ) × (ops ≡ Are ts (test ∷ ns ∷ ms ∷ [])) × ((ns ≡ n ∷ []) ⊎ (ms ≡ n ∷ []))
chosen_three Vary n e = varies_is (n ∷ []) e
chosen_three (Divide p) n e = divides_is p (n ∷ []) e
chosen_three (Are ts []) n e = varies_is (n ∷ []) e
chosen_three (Are ts (a ∷ [])) n e = varies_is (n ∷ []) e
chosen_three (Are ts (a ∷ b ∷ [])) n e = varies_is (n ∷ []) e
chosen_three (Are ts (test ∷ ns ∷ ms ∷ [])) n e = (ts, test, ns, ms, refl, by (is_zero test) e)
  where
    by : (b : Bool) → Is (if b then ms else ns) ≡ Is (n ∷ []) → (ns ≡ n ∷ []) ⊎ (ms ≡ n ∷ [])
    by true e = inr (same_is ms (n ∷ []) e)
    by false e = inl (same_is ns (n ∷ []) e)
chosen_three (Are ts (a ∷ b ∷ c ∷ d ∷ nss)) n e = varies_is (n ∷ []) e

second_of : (a b : List ℕ) (cs : List (List ℕ)) (x y : List ℕ) (zs : List (List ℕ)) → a ∷ b ∷ cs ≡ x ∷ y ∷ zs → b ≡ y
second_of a b cs x y zs e = cc

third_of : (a b c : List ℕ) (ds : List (List ℕ)) (x y z : List ℕ) (zs : List (List ℕ)) → a ∷ b ∷ c ∷ ds ≡ x ∷ y ∷ z ∷ zs → c ≡ z
third_of a b c ds x y z zs e = cc

abbrev IsLow : TExpr → Type 0
IsLow t = (l : Lists) (f : Facts) (n : ℕ) → facts_of t l ≡ Some f → shape_of l.types f.ty ≡ shape.Bool → constancy_of l.types t ≡ Is (n ∷ []) → n < 2

abbrev tree_in : (t : TExpr) × IsLow t → TExpr
tree_in e = e.0

cond_low : (l : Lists) (ty : TypeId) (es : List ((t : TExpr) × IsLow t)) (f : Facts) (n : ℕ) → bind (each l (map facts_of (map tree_in es))) (fact.chosen l ty) ≡ Some f → shape_of l.types f.ty ≡ shape.Bool → constant.chosen (operands l.types (map known_of (map tree_in es))) ≡ Is (n ∷ []) → n < 2
cond_low l ty [] f n e bool k = none_some f e
cond_low l ty (x ∷ []) f n e bool k =
    let p = bound (each l (map facts_of (x.0 ∷ []))) (fact.chosen l ty) f e in
    let a = first_typed l x.0 [] p.x p.has in
    let is : p.x ≡ a.first ∷ [] = a.is ∙ ap (λ z. a.first ∷ z) (sym (inside [] a.rest a.others)) in
    let gives : fact.chosen l ty (a.first ∷ []) ≡ Some f = subst (λ z. fact.chosen l ty z ≡ Some f) is p.gives in
    none_some f gives
cond_low l ty (x ∷ y ∷ []) f n e bool k =
    let p = bound (each l (map facts_of (x.0 ∷ y.0 ∷ []))) (fact.chosen l ty) f e in
    let a = first_typed l x.0 (y.0 ∷ []) p.x p.has in
    let b = first_typed l y.0 [] a.rest a.others in
    let is : p.x ≡ a.first ∷ b.first ∷ [] = a.is ∙ ap (λ z. a.first ∷ z) (b.is ∙ ap (λ z. b.first ∷ z) (sym (inside [] b.rest b.others))) in
    let gives : fact.chosen l ty (a.first ∷ b.first ∷ []) ≡ Some f = subst (λ z. fact.chosen l ty z ≡ Some f) is p.gives in
    none_some f gives
cond_low l ty (x ∷ y ∷ z ∷ []) f n e bool k =
    let p = bound (each l (map facts_of (x.0 ∷ y.0 ∷ z.0 ∷ []))) (fact.chosen l ty) f e in
    let a = first_typed l x.0 (y.0 ∷ z.0 ∷ []) p.x p.has in
    let b = first_typed l y.0 (z.0 ∷ []) a.rest a.others in
    let c = first_typed l z.0 [] b.rest b.others in
    let is : p.x ≡ a.first ∷ b.first ∷ c.first ∷ [] = a.is ∙ ap (λ t. a.first ∷ t) (b.is ∙ ap (λ t. b.first ∷ t) (c.is ∙ ap (λ t. c.first ∷ t) (sym (inside [] c.rest c.others)))) in
    let gives : fact.chosen l ty (a.first ∷ b.first ∷ c.first ∷ []) ≡ Some f = subst (λ z. fact.chosen l ty z ≡ Some f) is p.gives in
    let w = when_some (is_number (shape_at l a.first) && same_type b.first.ty c.first.ty && same_type ty b.first.ty && not (is_array (shape_at l b.first))) (value ty) f gives in
    let q = and_parts (is_number (shape_at l a.first) && same_type b.first.ty c.first.ty && same_type ty b.first.ty) (not (is_array (shape_at l b.first))) w.holds in
    let r = and_parts (is_number (shape_at l a.first) && same_type b.first.ty c.first.ty) (same_type ty b.first.ty) q.0 in
    let s = and_parts (is_number (shape_at l a.first)) (same_type b.first.ty c.first.ty) r.0 in
    let own : shape_of l.types ty ≡ shape.Bool = ap (λ g. shape_of l.types g.ty) w.same ∙ bool in
    let second = same_shape l ty own b.first.ty r.1 in
    let third = same_shape l b.first.ty second c.first.ty s.1 in
    let g = chosen_three (operands l.types (map known_of (x.0 ∷ y.0 ∷ z.0 ∷ []))) n k in
    let k1 = known_first (known_of x.0 l.types).ty (known_of x.0 l.types).is (operands l.types (known_of y.0 ∷ known_of z.0 ∷ [])) g.0 (g.1 ∷ g.2 ∷ g.3 ∷ []) g.4 in
    let k2 = known_first (known_of y.0 l.types).ty (known_of y.0 l.types).is (operands l.types (known_of z.0 ∷ [])) k1.1 k1.2 k1.4 in
    let k3 = known_first (known_of z.0 l.types).ty (known_of z.0 l.types).is (operands l.types []) k2.1 k2.2 k2.4 in
    let m2 : g.2 ≡ k2.0 = second_of g.1 g.2 (g.3 ∷ []) k1.0 k2.0 k2.2 (k1.5 ∙ ap (λ t. k1.0 ∷ t) k2.5) in
    let m3 : g.3 ≡ k3.0 = third_of g.1 g.2 g.3 [] k1.0 k2.0 k3.0 k3.2 (k1.5 ∙ ap (λ t. k1.0 ∷ t) (k2.5 ∙ ap (λ t. k2.0 ∷ t) k3.5)) in
    by g.5 (λ h. y.1 l b.first n b.typed second (k2.3 ∙ ap Is (sym m2 ∙ h))) (λ h. z.1 l c.first n c.typed third (k3.3 ∙ ap Is (sym m3 ∙ h)))
  where
    by : {ns ms : List ℕ} → (ns ≡ n ∷ []) ⊎ (ms ≡ n ∷ []) → (ns ≡ n ∷ [] → n < 2) → (ms ≡ n ∷ [] → n < 2) → n < 2
    by (inl h) u v = u h
    by (inr h) u v = v h
cond_low l ty (x ∷ y ∷ z ∷ v ∷ es) f n e bool k =
    let p = bound (each l (map facts_of (x.0 ∷ y.0 ∷ z.0 ∷ v.0 ∷ map tree_in es))) (fact.chosen l ty) f e in
    let a = first_typed l x.0 (y.0 ∷ z.0 ∷ v.0 ∷ map tree_in es) p.x p.has in
    let b = first_typed l y.0 (z.0 ∷ v.0 ∷ map tree_in es) a.rest a.others in
    let c = first_typed l z.0 (v.0 ∷ map tree_in es) b.rest b.others in
    let d = first_typed l v.0 (map tree_in es) c.rest c.others in
    let is : p.x ≡ a.first ∷ b.first ∷ c.first ∷ d.first ∷ d.rest = a.is ∙ ap (λ t. a.first ∷ t) (b.is ∙ ap (λ t. b.first ∷ t) (c.is ∙ ap (λ t. c.first ∷ t) d.is)) in
    let gives : fact.chosen l ty (a.first ∷ b.first ∷ c.first ∷ d.first ∷ d.rest) ≡ Some f = subst (λ z. fact.chosen l ty z ≡ Some f) is p.gives in
    none_some f gives

-- ---- nodes

abbrev node_facts : TNode → GivenType
node_facts = fold-TNode GivenType Given fact.node_step fact.expr_step

abbrev node_known : TNode → GivenNode
node_known = fold-TNode GivenNode GivenTypes constant.node_step constant.expr_step

abbrev IsLowNode : TNode → Type 0
IsLowNode m = (l : Lists) (ty : TypeId) (p : Place) (f : Facts) (n : ℕ) → node_facts m l ty ≡ Some f → shape_of l.types f.ty ≡ shape.Bool → node_known m l.types ty p ≡ Is (n ∷ []) → n < 2

number_node : (bits : Bits) → IsLowNode (roll-TNode (layer.Number bits))
number_node bits l ty p f n e b k = absurd (no_number l ty bits.width f (sym (ap (λ g. g l ty) (fold-roll-TNode GivenType Given fact.node_step fact.expr_step (layer.Number bits))) ∙ e) b)

convert_node : (args : Vec TExpr) → IsLowNode (roll-TNode (layer.Convert args))
convert_node args l ty p f n e b k =
    let h = bound (each l (map facts_of args.items)) (fact.converted l ty) f (sym (ap (λ g. g l ty) (fold-roll-TNode GivenType Given fact.node_step fact.expr_step (layer.Convert args))) ∙ e) in
    let bool = converts_bool l ty h.x f h.gives b in
    let ops = operands l.types (map known_of args.items) in
    converted_low l.types ops n (ap (λ s. constant.converted s l.types ops) (sym bool) ∙ sym (ap (λ g. g l.types ty p) (fold-roll-TNode GivenNode GivenTypes constant.node_step constant.expr_step (layer.Convert args))) ∙ k)

unary_node : (op : UnOp) (args : Vec TExpr) → IsLowNode (roll-TNode (layer.Unary op args))
unary_node op args l ty p f n e b k =
    let h = bound (each l (map facts_of args.items)) (fact.unary_at op l ty) f (sym (ap (λ g. g l ty) (fold-roll-TNode GivenType Given fact.node_step fact.expr_step (layer.Unary op args))) ∙ e) in
    let v = negated_value op l.types (operands l.types (map known_of args.items)) (n ∷ []) (sym (ap (λ g. g l.types ty p) (fold-roll-TNode GivenNode GivenTypes constant.node_step constant.expr_step (layer.Unary op args))) ∙ k) in
    absurd (no_unary_at l ty op h.x v f h.gives b)

binary_node : (op : BinOp) (args : Vec TExpr) → IsLowNode (roll-TNode (layer.Binary op args))
binary_node op args l ty p f n e b k =
    let h = bound (each l (map facts_of args.items)) (fact.binary_at op l ty) f (sym (ap (λ g. g l ty) (fold-roll-TNode GivenType Given fact.node_step fact.expr_step (layer.Binary op args))) ∙ e) in
    absurd (no_binary_at l ty op h.x f h.gives b)

vector_node : (args : Vec TExpr) → IsLowNode (roll-TNode (layer.Vector args))
vector_node args l ty p f n e b k =
    let h = bound (each l (map facts_of args.items)) (fact.vector l ty) f (sym (ap (λ g. g l ty) (fold-roll-TNode GivenType Given fact.node_step fact.expr_step (layer.Vector args))) ∙ e) in
    absurd (no_vector l ty h.x f h.gives b)

cond_node : (args : Vec TExpr) (es : List ((t : TExpr) × IsLow t)) → args.items ≡ map tree_in es → IsLowNode (roll-TNode (layer.Cond args))
cond_node args es same l ty p f n e b k =
    cond_low l ty es f n
    (ap (λ ts. bind (each l (map facts_of ts)) (fact.chosen l ty)) (sym same) ∙ sym (ap (λ g. g l ty) (fold-roll-TNode GivenType Given fact.node_step fact.expr_step (layer.Cond args))) ∙ e) b
    (ap (λ ts. constant.chosen (operands l.types (map known_of ts))) (sym same) ∙ sym (ap (λ g. g l.types ty p) (fold-roll-TNode GivenNode GivenTypes constant.node_step constant.expr_step (layer.Cond args))) ∙ k)

-- any other node varies
varying : (x : TNode-F TNode TExpr) → ((l : Lists) (ty : TypeId) (p : Place) → node_known (roll-TNode x) l.types ty p ≡ Varies) → IsLowNode (roll-TNode x)
varying x h l ty p f n e b k = varies_is (n ∷ []) (sym (h l ty p) ∙ k)

abbrev LowNode : Type 0
LowNode = (m : TNode) × IsLowNode m

abbrev LowTree : Type 0
LowTree = (t : TExpr) × IsLow t

abbrev node_in : LowNode → TNode
node_in e = e.0

abbrev plain_node : TNode-F LowNode LowTree → TNode-F TNode TExpr
plain_node = map-TNode LowNode LowTree TNode TExpr node_in tree_in

abbrev plain_tree : TExpr-F LowNode LowTree → TExpr-F TNode TExpr
plain_tree = map-TExpr LowNode LowTree TNode TExpr node_in tree_in

low_plain : (y : TNode-F LowNode LowTree) → IsLowNode (roll-TNode (plain_node y))
low_plain (layer.Number bits) = number_node bits
low_plain (layer.Convert args) = convert_node _
low_plain (layer.Unary op args) = unary_node op _
low_plain (layer.Binary op args) = binary_node op _
low_plain (layer.Cond args) = cond_node _ args.items refl
low_plain (layer.Vector args) = vector_node _
low_plain (layer.Param k) = varying (layer.Param k) (λ l ty p. ap (λ g. g l.types ty p) (fold-roll-TNode GivenNode GivenTypes constant.node_step constant.expr_step (layer.Param k)))
low_plain (layer.Var k) = varying (layer.Var k) (λ l ty p. ap (λ g. g l.types ty p) (fold-roll-TNode GivenNode GivenTypes constant.node_step constant.expr_step (layer.Var k)))
low_plain (layer.Constant k) = varying (layer.Constant k) (λ l ty p. ap (λ g. g l.types ty p) (fold-roll-TNode GivenNode GivenTypes constant.node_step constant.expr_step (layer.Constant k)))
low_plain (layer.Assign op args) = varying (layer.Assign op _) (λ l ty p. ap (λ g. g l.types ty p) (fold-roll-TNode GivenNode GivenTypes constant.node_step constant.expr_step (layer.Assign op _)))
low_plain (layer.Call h args) = varying (layer.Call h _) (λ l ty p. ap (λ g. g l.types ty p) (fold-roll-TNode GivenNode GivenTypes constant.node_step constant.expr_step (layer.Call h _)))
low_plain (layer.Builtin b args) = varying (layer.Builtin b _) (λ l ty p. ap (λ g. g l.types ty p) (fold-roll-TNode GivenNode GivenTypes constant.node_step constant.expr_step (layer.Builtin b _)))
low_plain (layer.Index args) = varying (layer.Index _) (λ l ty p. ap (λ g. g l.types ty p) (fold-roll-TNode GivenNode GivenTypes constant.node_step constant.expr_step (layer.Index _)))
low_plain (layer.Member k args) = varying (layer.Member k _) (λ l ty p. ap (λ g. g l.types ty p) (fold-roll-TNode GivenNode GivenTypes constant.node_step constant.expr_step (layer.Member k _)))
low_plain (layer.Components at args) = varying (layer.Components at _) (λ l ty p. ap (λ g. g l.types ty p) (fold-roll-TNode GivenNode GivenTypes constant.node_step constant.expr_step (layer.Components at _)))
low_plain (layer.Fill args) = varying (layer.Fill _) (λ l ty p. ap (λ g. g l.types ty p) (fold-roll-TNode GivenNode GivenTypes constant.node_step constant.expr_step (layer.Fill _)))
low_plain (layer.Comma args) = varying (layer.Comma _) (λ l ty p. ap (λ g. g l.types ty p) (fold-roll-TNode GivenNode GivenTypes constant.node_step constant.expr_step (layer.Comma _)))

low_node : (x : TNode-F TNode TExpr) (y : TNode-F LowNode LowTree) → plain_node y ≡ x → IsLowNode (roll-TNode x)
low_node x y is = subst (λ z. IsLowNode (roll-TNode z)) is (low_plain y)

low_tree : (x : TExpr-F TNode TExpr) (y : TExpr-F LowNode LowTree) → plain_tree y ≡ x → IsLow (roll-TExpr x)
low_tree x y is l f n e b k =
    let low : IsLowNode x.node = subst IsLowNode (ap (λ z. z.node) is) y.node.1 in
    low l x.ty x.place f n (sym (ap (λ g. g l) (fold-roll-TExpr GivenType Given fact.node_step fact.expr_step x)) ∙ e) b
    (sym (ap (λ g. (g l.types).is) (fold-roll-TExpr GivenNode GivenTypes constant.node_step constant.expr_step x)) ∙ k)

low_trees : (t : TExpr) → IsLow t
low_trees = ind-TExpr IsLowNode IsLow (λ x y is. low_node x y is) (λ x y is. low_tree x y is)

-- a typed constant bool is 0 or 1
pub bools_low : (l : Lists) → BoolsLow l
bools_low l t f n e b k = low_trees t l f n e b k
