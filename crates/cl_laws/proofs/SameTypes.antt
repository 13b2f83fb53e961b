-- In a table a type other than a struct is told by its shape: two such types of one shape are one.
use Rattle.std.proofs.Common.{◌≡◌, ℕ, zero, suc, List, [], ◌∷◌, take, refl, sym, ap, ◌∙◌, subst, true, false, true≢false, ◌⊎◌, inl, inr, Option, Some, slice_get}
use Rattle.cl_types.specs.declared.types.ClType.{ClType}
use Rattle.cl_types.specs.declared.types.ClType.TheVariants as ty
use Rattle.cl_types.specs.declared.types.TypeId.{TypeId}
use Rattle.cl_types.specs.Layout.{is_count}
use Rattle.cl_types.specs.Table.{is_integer, AreBuilt, IsTable}
use Rattle.cl_types.proofs.Rows.{built_at}
use Rattle.cl_builtins.specs.declared.kind.Gentype.{Gentype}
use Rattle.cl_builtins.specs.Found.{IsKnown}
use Rattle.cl_builtins.specs.Kinds.{integer_in}
use Rattle.cl_tree.specs.declared.shape.Shape.{Shape}
use Rattle.cl_tree.specs.declared.shape.Shape.TheVariants as shape
use Rattle.cl_tree.specs.Shapes.{vector_shape, shape_in, shape_of, is_struct}
use Rattle.cl_rules.specs.declared.rule.Want.{Want}
use Rattle.cl_rules.specs.declared.rule.Want.TheVariants as want
use Rattle.cl_make.specs.Wanted.{IsWanted, by_number, by_shape}
use Rattle.cl_make.proofs.Growing.{none_some, get_some}

-- ---- the type that has a shape

get_taken : {A : Type 0} (xs : List A) (n i : ℕ) (x : A) → slice_get (take n xs) i ≡ Some x → slice_get xs i ≡ Some x
get_taken [] zero i x e = e
get_taken [] (suc n) i x e = e
get_taken (a ∷ xs) zero i x e = absurd (none_some e)
get_taken (a ∷ xs) (suc n) zero x e = e
get_taken (a ∷ xs) (suc n) (suc i) x e = get_taken xs n i x e

record IsVector (cs : List ClType) (t : Gentype) (c : ClType) : Type 0 where
  elem : TypeId
  integer : slice_get cs elem.0 ≡ Some (ty.Int t.bits t.signed)
  is : c ≡ ty.Vector elem t.count
  count : is_count t.count ≡ true

abbrev IsIntegers : List ClType → Gentype → ClType → Type 0
IsIntegers cs t c = ((c ≡ ty.Int t.bits t.signed) × (t.count ≡ 1)) ⊎ IsVector cs t c

abbrev IsTypeOf : List ClType → Shape → ClType → Type 0
IsTypeOf cs shape.Void c = c ≡ ty.Void
IsTypeOf cs shape.Bool c = c ≡ ty.Bool
IsTypeOf cs (shape.Integers t) c = IsIntegers cs t c
IsTypeOf cs (shape.Array elem len nested) c = c ≡ ty.Array elem len
IsTypeOf cs shape.Struct c = Unit {0}
IsTypeOf cs (shape.Pointer space to readonly restricted) c = c ≡ ty.Pointer space to readonly restricted

vector_of_type : (cs : List ClType) (elem : TypeId) (n i : ℕ) (o : Option ClType) → o ≡ slice_get (take i cs) elem.0 → is_integer o ≡ true → is_count n ≡ true → IsTypeOf cs (vector_shape n (integer_in (slice_get cs elem.0))) (ty.Vector elem n)
vector_of_type cs elem n i (Some (ty.Int bits signed)) e h k =
    let g = get_taken cs i elem.0 (ty.Int bits signed) (sym e) in
    subst (λ o. IsTypeOf cs (vector_shape n (integer_in o)) (ty.Vector elem n)) (sym g) (inr (record { elem = elem; integer = g; is = refl; count = k }))
vector_of_type cs elem n i o e h k = absurd (true≢false (sym h))

type_of_shape : (cs : List ClType) (i : ℕ) (c : ClType) → AreBuilt [] cs → slice_get cs i ≡ Some c → IsTypeOf cs (shape_in cs (Some c)) c
type_of_shape cs i ty.Void b e = refl
type_of_shape cs i ty.Bool b e = refl
type_of_shape cs i (ty.Int bits signed) b e = inl (refl, refl)
type_of_shape cs i (ty.Vector elem n) b e =
    let h = built_at cs i (ty.Vector elem n) b e in
    vector_of_type cs elem n i (slice_get (take i cs) elem.0) refl h.0 h.1
type_of_shape cs i (ty.Array elem n) b e = refl
type_of_shape cs i (ty.Struct name ms) b e = tt
type_of_shape cs i (ty.Pointer space to readonly restricted) b e = refl

-- ---- types of one shape

no_vector_of_one : (n : ℕ) → n ≡ 1 → is_count n ≡ true → ⊥
no_vector_of_one n e h = true≢false (sym h ∙ ap is_count e)

module _ (cs : List ClType) (b : IsTable cs) where
  one_vector : (t : Gentype) (c d : ClType) → IsVector cs t c → IsVector cs t d → c ≡ d
  one_vector t c d x y =
      let e = b.distinct x.elem.0 y.elem.0 (ty.Int t.bits t.signed) x.integer y.integer in
      x.is ∙ (λ i. ty.Vector (record { 0 = e i }) t.count) ∙ sym y.is

  one_integers : (t : Gentype) (c d : ClType) → IsIntegers cs t c → IsIntegers cs t d → c ≡ d
  one_integers t c d (inl x) (inl y) = x.0 ∙ sym y.0
  one_integers t c d (inl x) (inr y) = absurd (no_vector_of_one t.count x.1 y.count)
  one_integers t c d (inr x) (inl y) = absurd (no_vector_of_one t.count y.1 x.count)
  one_integers t c d (inr x) (inr y) = one_vector t c d x y

  one_type : (s : Shape) (c d : ClType) → is_struct s ≡ false → IsTypeOf cs s c → IsTypeOf cs s d → c ≡ d
  one_type shape.Void c d n x y = x ∙ sym y
  one_type shape.Bool c d n x y = x ∙ sym y
  one_type (shape.Integers t) c d n x y = one_integers t c d x y
  one_type (shape.Array elem len nested) c d n x y = x ∙ sym y
  one_type shape.Struct c d n x y = absurd (true≢false n)
  one_type (shape.Pointer space to readonly restricted) c d n x y = x ∙ sym y

  -- the type at a place, by its shape
  at_shape : (t : TypeId) (c : ClType) → slice_get cs t.0 ≡ Some c → IsTypeOf cs (shape_of cs t) c
  at_shape t c e = subst (λ o. IsTypeOf cs (shape_in cs o) c) (sym e) (type_of_shape cs t.0 c b.built e)

  -- two types of one shape have one number
  pub same_number : (s : Shape) (t u : TypeId) → is_struct s ≡ false → IsKnown cs t → IsKnown cs u → shape_of cs t ≡ s → shape_of cs u ≡ s → t ≡ u
  same_number s t u n k l e f =
      let c = get_some cs t.0 k in
      let d = get_some cs u.0 l in
      let g = one_type s c.0 d.0 n (subst (λ z. IsTypeOf cs z c.0) e (at_shape t c.0 c.1)) (subst (λ z. IsTypeOf cs z d.0) f (at_shape u d.0 d.1)) in
      let h = b.distinct t.0 u.0 c.0 c.1 (d.1 ∙ ap Some (sym g)) in
      λ i. record { 0 = h i }

-- ---- types that are wanted

pub known_wanted : (cs : List ClType) (w : Want) (t : TypeId) → IsWanted cs w t → IsKnown cs t
known_wanted cs w t (by_number u k) = k
known_wanted cs w t (by_shape s u k e) = k

pub shape_wanted : (cs : List ClType) (s : Shape) (t : TypeId) → IsWanted cs (want.Of s) t → shape_of cs t ≡ s
shape_wanted cs s t (by_shape s0 u k e) = e

pub number_wanted : (cs : List ClType) (t u : TypeId) → IsWanted cs (want.Type t) u → u ≡ t
number_wanted cs t u (by_number v k) = refl

-- a want of a shape, which is no struct's, is for one type
pub same_wanted : (cs : List ClType) (s : Shape) (t u : TypeId) → IsTable cs → is_struct s ≡ false → IsWanted cs (want.Of s) t → IsWanted cs (want.Of s) u → t ≡ u
same_wanted cs s t u b n x y =
    same_number cs b s t u n (known_wanted cs (want.Of s) t x) (known_wanted cs (want.Of s) u y) (shape_wanted cs s t x) (shape_wanted cs s u y)
