-- Two types are equal by `==` exactly where they are one.
use Rattle.std.specs.Prelude.{◌≡◌, ℕ, Bool, true, false, ◌&&◌, List, [], ◌∷◌, nat_eq, IsTrue}
use Rattle.std.proofs.Common.{refl, sym, ap, subst, ◌∙◌, true≢false}
use Rattle.std.proofs.lemmas.Bool.{eqb-true, eq-eqb}
use Rattle.std.specs.Cmp.{IsPartialEquivalence, IsEquivalence, partial_equiv_from_equiv, first_so, second_so}
use Rattle.std.specs.Cmp.Lexicographic.{pointwise, pointwise_decides, bytes_decides}
use Rattle.cl_types.specs.declared.space.Space.{Space}
use Rattle.cl_types.specs.declared.space.Space.TheVariants.{Global, Constant, Local, Private}
use Rattle.cl_types.specs.declared.types.ClType.{ClType}
use Rattle.cl_types.specs.declared.types.ClType.TheVariants.{Void, Bool as Truth, Int, Vector, Array, Struct, Pointer}
use Rattle.cl_types.specs.declared.types.Member.{Member}
use Rattle.cl_types.specs.declared.types.TypeId.{TypeId}
use Rattle.cl_types.specs.Same.{bit, space_number, key, name_of, members_of, member_eq, type_eq, type_input}

module _ {K : Type 0} (E : K → K → Bool) (same : (x y : K) → E x y ≡ true → x ≡ y) (own : (x : K) → E x x ≡ true) where
  pub decides : (x y : K) → (E x y ≡ true → x ≡ y) × (x ≡ y → E x y ≡ true)
  decides x y = (same x y, λ e. subst (λ z. E x z ≡ true) e (own x))

  turned : (x y : K) → E x y ≡ E y x
  turned x y = by (E x y) (E y x) refl refl
    where
      by : (a b : Bool) → E x y ≡ a → E y x ≡ b → E x y ≡ E y x
      by true b e f = e ∙ sym (subst (λ z. E z x ≡ true) (same x y e) (own x))
      by false true e f = absurd (true≢false (sym (subst (λ z. E z y ≡ true) (same y x f) (own y)) ∙ e))
      by false false e f = e ∙ sym f

  pub equivalence : IsEquivalence E
  equivalence = record { refl = own; symm = turned; congr = λ x y z h. ap (λ w. E w z) (same x y h) }

bit_same : (a b : Bool) → bit a ≡ bit b → a ≡ b
bit_same true true e = refl
bit_same true false e = cc
bit_same false true e = cc
bit_same false false e = refl

space_same : (a b : Space) → space_number a ≡ space_number b → a ≡ b
space_same Global Global e = refl
space_same Constant Constant e = refl
space_same Local Local e = refl
space_same Private Private e = refl
space_same Global Constant e = cc
space_same Global Local e = cc
space_same Global Private e = cc
space_same Constant Global e = cc
space_same Constant Local e = cc
space_same Constant Private e = cc
space_same Local Global e = cc
space_same Local Constant e = cc
space_same Local Private e = cc
space_same Private Global e = cc
space_same Private Constant e = cc
space_same Private Local e = cc

both : (a b : Bool) → a ≡ true → b ≡ true → (a && b) ≡ true
both a b h g = (λ i. h i && g i)

module _ (a b : Member) (h : member_eq a b ≡ true) where
  same_name : a.name ≡ b.name
  same_name = (bytes_decides a.name b.name).0 (first_so (pointwise nat_eq a.name b.name) (nat_eq a.ty.0 b.ty.0) h)

  same_number : a.ty.0 ≡ b.ty.0
  same_number = eqb-true a.ty.0 b.ty.0 (second_so (pointwise nat_eq a.name b.name) (nat_eq a.ty.0 b.ty.0) h)

  member_same : a ≡ b
  member_same i = record { name = same_name i; ty = record { 0 = same_number i } }

member_own : (a : Member) → member_eq a a ≡ true
member_own a = both (pointwise nat_eq a.name a.name) (nat_eq a.ty.0 a.ty.0) ((bytes_decides a.name a.name).1 refl) (eq-eqb a.ty.0 a.ty.0 refl)

number_same : (a b : TypeId) → a.0 ≡ b.0 → a ≡ b
number_same a b e i = record { 0 = e i }

key_same : (a b : ClType) → key a ≡ key b → name_of a ≡ name_of b → members_of a ≡ members_of b → a ≡ b
key_same Void Void k n m = refl
key_same Truth Truth k n m = refl
key_same (Int bits signed) (Int bits2 signed2) k n m = let e : bits ≡ bits2 = cc in let f = bit_same signed signed2 (cc) in (λ i. Int (e i) (f i))
key_same (Vector elem c) (Vector elem2 d) k n m = let e = number_same elem elem2 (cc) in let f : c ≡ d = cc in (λ i. Vector (e i) (f i))
key_same (Array elem len) (Array elem2 len2) k n m = let e = number_same elem elem2 (cc) in let f : len ≡ len2 = cc in (λ i. Array (e i) (f i))
key_same (Struct name members) (Struct name2 members2) k n m = (λ i. Struct (n i) (m i))
key_same (Pointer space to readonly restricted) (Pointer space2 to2 readonly2 restricted2) k n m =
    let s = space_same space space2 (cc) in
    let e = number_same to to2 (cc) in
    let r = bit_same readonly readonly2 (cc) in
    let q = bit_same restricted restricted2 (cc) in
    (λ i. Pointer (s i) (e i) (r i) (q i))
key_same _ _ k n m = cc

module _ (a b : ClType) (h : type_eq a b ≡ true) where
  rest : pointwise nat_eq (name_of a) (name_of b) && pointwise member_eq (members_of a) (members_of b) ≡ true
  rest = second_so (pointwise nat_eq (key a) (key b)) _ h

  pub type_same : a ≡ b
  type_same =
      key_same a b
      ((bytes_decides (key a) (key b)).0 (first_so (pointwise nat_eq (key a) (key b)) _ h))
      ((bytes_decides (name_of a) (name_of b)).0 (first_so (pointwise nat_eq (name_of a) (name_of b)) _ rest))
      ((pointwise_decides (decides member_eq member_same member_own) (members_of a) (members_of b)).0 (second_so (pointwise nat_eq (name_of a) (name_of b)) _ rest))

pub type_own : (a : ClType) → type_eq a a ≡ true
type_own a =
    both _ _ ((bytes_decides (key a) (key a)).1 refl)
    (both _ _ ((bytes_decides (name_of a) (name_of a)).1 refl) ((pointwise_decides (decides member_eq member_same member_own) (members_of a) (members_of a)).1 refl))

pub type_equivalence : IsEquivalence type_eq
type_equivalence = equivalence type_eq type_same type_own

pub type_partial : IsPartialEquivalence type_eq
type_partial = partial_equiv_from_equiv type_equivalence

pub fed_alike : (a b : ClType) → IsTrue (type_eq a b) → type_input a ≡ type_input b
fed_alike a b h = ap type_input (type_same a b h)
