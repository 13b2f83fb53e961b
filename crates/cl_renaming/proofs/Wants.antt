-- Types that are wanted, in two tables: each has one number, and the numbers are those by which the one table's types stand in the other.
use Rattle.std.proofs.Common.{◌≡◌, ℕ, zero, suc, List, [], ◌∷◌, take, refl, sym, ap, ◌∙◌, subst, true, false, true≢false, ◌⊎◌, inl, inr, Option, Some, slice_get}
use Rattle.cl_types.specs.declared.types.ClType.{ClType}
use Rattle.cl_types.specs.declared.types.ClType.TheVariants as ty
use Rattle.cl_types.specs.declared.types.TypeId.{TypeId}
use Rattle.cl_types.specs.Layout.{is_count}
use Rattle.cl_types.specs.Table.{is_integer, AreBuilt}
use Rattle.cl_types.proofs.Rows.{built_at}
use Rattle.cl_builtins.specs.declared.kind.Gentype.{Gentype}
use Rattle.cl_builtins.specs.Found.{IsKnown}
use Rattle.cl_builtins.specs.Kinds.{integer_in}
use Rattle.cl_builtins.specs.Tables.{IsAt}
use Rattle.cl_tree.specs.declared.shape.Shape.{Shape}
use Rattle.cl_tree.specs.declared.shape.Shape.TheVariants as shape
use Rattle.cl_tree.specs.Shapes.{vector_shape, shape_in, shape_of, is_struct}
use Rattle.cl_rules.specs.declared.rule.Want.{Want}
use Rattle.cl_rules.specs.declared.rule.Want.TheVariants as want
use Rattle.cl_words.specs.declared.naming.Sketch.{Sketch}
use Rattle.cl_words.specs.Words.{numbers}
use Rattle.cl_make.specs.Wanted.{IsArrayOf, no_array, array, IsWanted, by_number, by_shape, IsDeclaredAs}
use Rattle.cl_make.proofs.Growing.{none_some, get_some}
use Rattle.cl_renaming.specs.Renaming.{type_id, cl_type, shape_as, want_as, sketch_as, IsRenaming, AreTypes, IsOneType}
use Rattle.cl_renaming.proofs.Shapes.{shape_of_as, is_struct_as}
use Rattle.cl_renaming.proofs.Tables.{known_as}

-- ---- the types of one table stand in the other

module _ (cs ds : List ClType) (r : ℕ → ℕ) (e : IsRenaming cs ds r) where
  pub known_moves : (t : TypeId) → IsKnown cs t → IsKnown ds (type_id r t)
  known_moves t k = known_as cs ds r e t.0 k

  pub at_moves : (c : ClType) (t : TypeId) → IsAt cs c t → IsAt ds (cl_type r c) (type_id r t)
  at_moves c t h = e.has t.0 c h

  pub wanted_moves : (w : Want) (t : TypeId) → IsWanted cs w t → IsWanted ds (want_as r w) (type_id r t)
  wanted_moves w t (by_number u k) = by_number (type_id r u) (known_moves u k)
  wanted_moves w t (by_shape s u k f) = by_shape (shape_as r s) (type_id r u) (known_moves u k) (shape_of_as cs ds r e u ∙ ap (shape_as r) f)

  pub array_moves : (elem : TypeId) (ns : List ℕ) (t : TypeId) → IsArrayOf cs elem ns t → IsArrayOf ds (type_id r elem) ns (type_id r t)
  array_moves elem ns t (no_array u) = no_array (type_id r u)
  array_moves elem ns t (array x u v n ms h f) = array (type_id r x) (type_id r u) (type_id r v) n ms (array_moves x ms u h) (at_moves (ty.Array u n) v f)

  pub declared_moves : (k : Sketch) (first : ℕ) (t : TypeId) → IsDeclaredAs cs k first t → IsDeclaredAs ds (sketch_as r k) first (type_id r t)
  declared_moves k first t h = record { elem = type_id r h.elem; wanted = wanted_moves k.of h.elem h.wanted; arrays = array_moves h.elem (numbers first k.lengths) t h.arrays }

-- ---- the type that has a shape

get_taken : {A : Type 0} (xs : List A) (n i : ℕ) (x : A) → slice_get (take n xs) i ≡ Some x → slice_get xs i ≡ Some x
get_taken [] zero i x e = e
get_taken [] (suc n) i x e = e
get_taken (a ∷ xs) zero i x e = absurd (none_some e)
get_taken (a ∷ xs) (suc n) zero x e = e
get_taken (a ∷ xs) (suc n) (suc i) x e = get_taken xs n i x e

record IsVector (cs : List ClType) (t : Gentype) (c : ClType) : Type 0 where
  elem : TypeId
  integer : slice_get cs elem.0 ≡ Some (ty.Int t.bits t.signed)
  is : c ≡ ty.Vector elem t.count
  count : is_count t.count ≡ true

abbrev IsIntegers : List ClType → Gentype → ClType → Type 0
IsIntegers cs t c = ((c ≡ ty.Int t.bits t.signed) × (t.count ≡ 1)) ⊎ IsVector cs t c

abbrev IsTypeOf : List ClType → Shape → ClType → Type 0
IsTypeOf cs shape.Void c = c ≡ ty.Void
IsTypeOf cs shape.Bool c = c ≡ ty.Bool
IsTypeOf cs (shape.Integers t) c = IsIntegers cs t c
IsTypeOf cs (shape.Array elem len nested) c = c ≡ ty.Array elem len
IsTypeOf cs shape.Struct c = Unit {0}
IsTypeOf cs (shape.Pointer space to readonly restricted) c = c ≡ ty.Pointer space to readonly restricted

vector_of_type : (cs : List ClType) (elem : TypeId) (n i : ℕ) (o : Option ClType) → o ≡ slice_get (take i cs) elem.0 → is_integer o ≡ true → is_count n ≡ true → IsTypeOf cs (vector_shape n (integer_in (slice_get cs elem.0))) (ty.Vector elem n)
vector_of_type cs elem n i (Some (ty.Int bits signed)) e h k =
    let g = get_taken cs i elem.0 (ty.Int bits signed) (sym e) in
    subst (λ o. IsTypeOf cs (vector_shape n (integer_in o)) (ty.Vector elem n)) (sym g) (inr (record { elem = elem; integer = g; is = refl; count = k }))
vector_of_type cs elem n i o e h k = absurd (true≢false (sym h))

type_of_shape : (cs : List ClType) (i : ℕ) (c : ClType) → AreBuilt [] cs → slice_get cs i ≡ Some c → IsTypeOf cs (shape_in cs (Some c)) c
type_of_shape cs i ty.Void b e = refl
type_of_shape cs i ty.Bool b e = refl
type_of_shape cs i (ty.Int bits signed) b e = inl (refl, refl)
type_of_shape cs i (ty.Vector elem n) b e =
    let h = built_at cs i (ty.Vector elem n) b e in
    vector_of_type cs elem n i (slice_get (take i cs) elem.0) refl h.0 h.1
type_of_shape cs i (ty.Array elem n) b e = refl
type_of_shape cs i (ty.Struct name ms) b e = tt
type_of_shape cs i (ty.Pointer space to readonly restricted) b e = refl

-- ---- one number

no_vector_of_one : (n : ℕ) → n ≡ 1 → is_count n ≡ true → ⊥
no_vector_of_one n e h = true≢false (sym h ∙ ap is_count e)

module _ (cs : List ClType) (b : AreTypes cs) where
  pub one_at : (c : ClType) (t u : TypeId) → IsAt cs c t → IsAt cs c u → t ≡ u
  one_at c t u e f = let h = b.distinct t.0 u.0 c e f in λ i. record { 0 = h i }

  one_vector : (t : Gentype) (c d : ClType) → IsVector cs t c → IsVector cs t d → c ≡ d
  one_vector t c d x y = x.is ∙ ap (λ elem. ty.Vector elem t.count) (one_at (ty.Int t.bits t.signed) x.elem y.elem x.integer y.integer) ∙ sym y.is

  one_integers : (t : Gentype) (c d : ClType) → IsIntegers cs t c → IsIntegers cs t d → c ≡ d
  one_integers t c d (inl x) (inl y) = x.0 ∙ sym y.0
  one_integers t c d (inl x) (inr y) = absurd (no_vector_of_one t.count x.1 y.count)
  one_integers t c d (inr x) (inl y) = absurd (no_vector_of_one t.count y.1 x.count)
  one_integers t c d (inr x) (inr y) = one_vector t c d x y

  one_type : (s : Shape) (c d : ClType) → is_struct s ≡ false → IsTypeOf cs s c → IsTypeOf cs s d → c ≡ d
  one_type shape.Void c d n x y = x ∙ sym y
  one_type shape.Bool c d n x y = x ∙ sym y
  one_type (shape.Integers t) c d n x y = one_integers t c d x y
  one_type (shape.Array elem len nested) c d n x y = x ∙ sym y
  one_type shape.Struct c d n x y = absurd (true≢false n)
  one_type (shape.Pointer space to readonly restricted) c d n x y = x ∙ sym y

  at_shape : (t : TypeId) (c : ClType) → slice_get cs t.0 ≡ Some c → IsTypeOf cs (shape_of cs t) c
  at_shape t c e = subst (λ o. IsTypeOf cs (shape_in cs o) c) (sym e) (type_of_shape cs t.0 c b.built e)

  -- two types of one shape, which is no struct's, are one
  pub one_of_shape : (s : Shape) (t u : TypeId) → is_struct s ≡ false → IsKnown cs t → IsKnown cs u → shape_of cs t ≡ s → shape_of cs u ≡ s → t ≡ u
  one_of_shape s t u n k l e f =
      let c = get_some cs t.0 k in
      let d = get_some cs u.0 l in
      let g = one_type s c.0 d.0 n (subst (λ z. IsTypeOf cs z c.0) e (at_shape t c.0 c.1)) (subst (λ z. IsTypeOf cs z d.0) f (at_shape u d.0 d.1)) in
      one_at c.0 t u c.1 (d.1 ∙ ap Some (sym g))

-- ---- what is wanted in both tables

pub wanted_own : (cs : List ClType) (w : Want) (t : TypeId) → w ≡ want.Own → IsWanted cs w t → ⊥
wanted_own cs w t e (by_number u k) = cc
wanted_own cs w t e (by_shape s u k f) = cc

wanted_number : (cs : List ClType) (w : Want) (t u : TypeId) → w ≡ want.Type u → IsWanted cs w t → t ≡ u
wanted_number cs w t u e (by_number v k) = cc
wanted_number cs w t u e (by_shape s v k f) = cc

wanted_shape : (cs : List ClType) (w : Want) (s : Shape) (t : TypeId) → w ≡ want.Of s → IsWanted cs w t → IsKnown cs t × (shape_of cs t ≡ s)
wanted_shape cs w s t e (by_number v k) = cc
wanted_shape cs w s t e (by_shape z v k f) = (k, f ∙ (let g : z ≡ s = cc in g))

module _ (cs ds : List ClType) (r : ℕ → ℕ) (e : IsRenaming cs ds r) (b : AreTypes ds) where
  pub wanted_one : (w : Want) (t u : TypeId) → IsOneType w → IsWanted cs w t → IsWanted ds (want_as r w) u → u ≡ type_id r t
  wanted_one want.Own t u n x y = absurd (wanted_own cs want.Own t refl x)
  wanted_one (want.Type v) t u n x y =
      let f = wanted_number cs (want.Type v) t v refl x in
      wanted_number ds (want.Type (type_id r v)) u (type_id r v) refl y ∙ ap (type_id r) (sym f)
  wanted_one (want.Of s) t u n x y =
      let f = wanted_shape cs (want.Of s) s t refl x in
      let g = wanted_shape ds (want.Of (shape_as r s)) (shape_as r s) u refl y in
      one_of_shape ds b (shape_as r s) u (type_id r t) (is_struct_as r s ∙ n) g.0 (known_moves cs ds r e t f.0) g.1 (shape_of_as cs ds r e t ∙ ap (shape_as r) f.1)

  pub at_one : (c : ClType) (t u : TypeId) → IsAt cs c t → IsAt ds (cl_type r c) u → u ≡ type_id r t
  at_one c t u x y = one_at ds b (cl_type r c) u (type_id r t) y (at_moves cs ds r e c t x)

  pub array_one : (elem x : TypeId) (ns : List ℕ) (t u : TypeId) → x ≡ type_id r elem → IsArrayOf cs elem ns t → IsArrayOf ds x ns u → u ≡ type_id r t
  array_one elem x ns t u f (no_array v) (no_array w) = f
  array_one elem x ns t u f (array y v w n ms h g) (array y2 v2 w2 n2 ms2 h2 g2) =
      let k = array_one elem x ms v v2 f h h2 in
      at_one (ty.Array v n) w w2 g (subst (λ z. IsAt ds (ty.Array z n) w2) k g2)

  pub declared_one : (k : Sketch) (first : ℕ) (t u : TypeId) → IsOneType k.of → IsDeclaredAs cs k first t → IsDeclaredAs ds (sketch_as r k) first u → u ≡ type_id r t
  declared_one k first t u n x y = array_one x.elem y.elem (numbers first k.lengths) t u (wanted_one k.of x.elem y.elem n x.wanted y.wanted) x.arrays y.arrays
