-- A call of a built-in function means in two tables one function, whose types have in the one the numbers by which those of the other stand there.
use Rattle.std.proofs.Common.{◌≡◌, ℕ, List, [], ◌∷◌, map, refl, sym, ap, ◌∙◌, subst, Bool, false, ◌⊎◌, inl, inr, Option, Some, None, slice_get}
use Rattle.std.specs.Option.{option_map}
use Rattle.std.specs.List.{AllZip}
use Rattle.cl_types.specs.declared.types.ClType.{ClType}
use Rattle.cl_types.specs.declared.types.ClType.TheVariants as ty
use Rattle.cl_types.specs.declared.types.TypeId.{TypeId}
use Rattle.cl_types.specs.declared.space.Space.{Space}
use Rattle.cl_types.specs.declared.builtin.Builtin.{Builtin}
use Rattle.cl_types.specs.declared.builtin.Builtin.TheVariants.{Select}
use Rattle.cl_builtins.specs.declared.kind.Gentype.{Gentype}
use Rattle.cl_builtins.specs.declared.kind.Kind.{Kind}
use Rattle.cl_builtins.specs.declared.kind.Kind.TheVariants as kind
use Rattle.cl_builtins.specs.declared.call.Found.{Found}
use Rattle.cl_builtins.specs.Found.{IsKnown, HasKind, named_by, Means, HasNoForm}
use Rattle.cl_builtins.specs.Forms.{form_of}
use Rattle.cl_builtins.specs.Kinds.{integer_in, vector_in, pointer_in, kind_in, kind_of}
use Rattle.cl_builtins.specs.Names.{Entry}
use Rattle.cl_tree.specs.declared.shape.Shape.{Shape}
use Rattle.cl_tree.specs.declared.shape.Shape.TheVariants as shape
use Rattle.cl_tree.specs.Shapes.{vector_shape, shape_in, shape_of, is_struct}
use Rattle.cl_make.proofs.Growing.{none_some, some_same}
use Rattle.cl_renaming.specs.Renaming.{type_id, kind_as, form_as, IsRenaming, AreTypes}
use Rattle.cl_renaming.proofs.Forms.{kind_of_as, kinds_of_as, form_of_as}
use Rattle.cl_renaming.proofs.Wants.{known_moves, one_of_shape}

-- ---- a kind says which type it is: by its number, or by its shape

abbrev own_of : Kind → Option TypeId
own_of (kind.Pointer own space readonly to) = Some own
own_of (kind.Other own) = Some own
own_of _ = None

abbrev shape_by : Kind → Option Shape
shape_by kind.Void = Some shape.Void
shape_by kind.Bool = Some shape.Bool
shape_by (kind.Integers t) = Some (shape.Integers t)
shape_by _ = None

abbrev Tells : TypeId → Kind → Shape → Type 0
Tells t k s = (own_of k ≡ Some t) ⊎ ((shape_by k ≡ Some s) × (is_struct s ≡ false))

vector_tells : (t : TypeId) (n : ℕ) (o : Option Gentype) → Tells t (vector_in t n o) (vector_shape n o)
vector_tells t n None = inl refl
vector_tells t n (Some g) = inr (refl, refl)

pointer_tells : (t : TypeId) (space : Space) (readonly : Bool) (o : Option Gentype) (s : Shape) → Tells t (pointer_in t space readonly o) s
pointer_tells t space readonly None s = inl refl
pointer_tells t space readonly (Some g) s = inl refl

type_tells : (cs : List ClType) (t : TypeId) (o : Option ClType) → Tells t (kind_in cs t o) (shape_in cs o)
type_tells cs t None = inl refl
type_tells cs t (Some ty.Void) = inr (refl, refl)
type_tells cs t (Some ty.Bool) = inr (refl, refl)
type_tells cs t (Some (ty.Int bits signed)) = inr (refl, refl)
type_tells cs t (Some (ty.Vector elem n)) = vector_tells t n (integer_in (slice_get cs elem.0))
type_tells cs t (Some (ty.Array elem len)) = inl refl
type_tells cs t (Some (ty.Struct name members)) = inl refl
type_tells cs t (Some (ty.Pointer space to readonly restricted)) = pointer_tells t space readonly (integer_in (slice_get cs to.0)) _

not_both : {A : Type 0} (k : Kind) (t : TypeId) (s : Shape) → own_of k ≡ Some t → shape_by k ≡ Some s → A
not_both kind.Void t s e f = absurd (none_some e)
not_both kind.Bool t s e f = absurd (none_some e)
not_both (kind.Integers g) t s e f = absurd (none_some e)
not_both (kind.Pointer own space readonly to) t s e f = absurd (none_some f)
not_both (kind.Other own) t s e f = absurd (none_some f)

pub one_of_kind : (cs : List ClType) (t u : TypeId) → AreTypes cs → IsKnown cs t → IsKnown cs u → kind_of cs t ≡ kind_of cs u → t ≡ u
one_of_kind cs t u b k l e = by (type_tells cs t (slice_get cs t.0)) (type_tells cs u (slice_get cs u.0))
  where
    by : Tells t (kind_of cs t) (shape_of cs t) → Tells u (kind_of cs u) (shape_of cs u) → t ≡ u
    by (inl x) (inl y) = some_same t u (sym x ∙ ap own_of e ∙ y)
    by (inl x) (inr y) = not_both (kind_of cs u) t (shape_of cs u) (sym (ap own_of e) ∙ x) y.0
    by (inr x) (inl y) = not_both (kind_of cs t) u (shape_of cs t) (ap own_of e ∙ y) x.0
    by (inr x) (inr y) =
        let f = some_same (shape_of cs t) (shape_of cs u) (sym x.0 ∙ ap shape_by e ∙ y.0) in
        one_of_shape cs b (shape_of cs t) t u x.1 k l refl (sym f)

-- ---- one function

named_by_as : (r : ℕ → ℕ) (b : Builtin) (k : Kind) → named_by b (kind_as r k) ≡ named_by b k
named_by_as r (Select vector) kind.Void = refl
named_by_as r (Select vector) kind.Bool = refl
named_by_as r (Select vector) (kind.Integers t) = refl
named_by_as r (Select vector) (kind.Pointer own space readonly to) = refl
named_by_as r (Select vector) (kind.Other own) = refl
named_by_as r _ k = refl

module _ (cs ds : List ClType) (r : ℕ → ℕ) (e : IsRenaming cs ds r) (b : AreTypes ds) where
  kind_one : (k : Kind) (t u : TypeId) → HasKind cs k t → HasKind ds (kind_as r k) u → u ≡ type_id r t
  kind_one k t u x y = one_of_kind ds u (type_id r t) b y.known (known_moves cs ds r e t x.known) (y.is ∙ ap (kind_as r) (sym x.is) ∙ sym (kind_of_as cs ds r e t))

  kinds_one : (ks : List Kind) (ts us : List TypeId) → AllZip (HasKind cs) ks ts → AllZip (HasKind ds) (map (kind_as r) ks) us → us ≡ map (type_id r) ts
  kinds_one [] [] [] x y = refl
  kinds_one [] [] (u ∷ us) x y = absurd y
  kinds_one [] (t ∷ ts) us x y = absurd x
  kinds_one (k ∷ ks) [] us x y = absurd x
  kinds_one (k ∷ ks) (t ∷ ts) [] x y = absurd y
  kinds_one (k ∷ ks) (t ∷ ts) (u ∷ us) x y = λ i. kind_one k t u x.0 y.0 i ∷ kinds_one ks ts us x.1 y.1 i

  -- a form that fits in the one table fits in the other
  pub forms_one : (n : Entry) (ts : List TypeId) → form_of n.1 (map (kind_of ds) (map (type_id r) ts)) ≡ option_map (form_as r) (form_of n.1 (map (kind_of cs) ts))
  forms_one n ts = ap (form_of n.1) (kinds_of_as cs ds r e ts) ∙ form_of_as r n.1 (map (kind_of cs) ts)

  pub means_one : (name : List ℕ) (ts us : List TypeId) (f g : Found) → us ≡ map (type_id r) ts → Means name cs ts cs f → Means name ds us ds g → (g.builtin ≡ f.builtin) × (g.params ≡ map (type_id r) f.params) × (g.result ≡ type_id r f.result)
  means_one name ts us f g same x y =
      let n : x.entry ≡ y.entry = some_same x.entry y.entry (sym x.named ∙ y.named) in
      let m = sym n in
      let k : Some y.form ≡ Some (form_as r x.form) =
      sym y.fits ∙ (λ i. form_of (m i).1 (map (kind_of ds) (same i))) ∙ forms_one x.entry ts ∙ ap (option_map (form_as r)) x.fits in
      let h = some_same y.form (form_as r x.form) k in (
        y.is.builtin ∙ (λ i. named_by (m i).0 (h i).result) ∙ named_by_as r x.entry.0 x.form.result ∙ sym x.is.builtin,
        kinds_one x.form.params f.params g.params x.is.params (subst (λ z. AllZip (HasKind ds) z.params g.params) h y.is.params),
        kind_one x.form.result f.result g.result x.is.result (subst (λ z. HasKind ds z.result g.result) h y.is.result),
      )

  pub no_form_one : (name : List ℕ) (ts us : List TypeId) (g : Found) → us ≡ map (type_id r) ts → HasNoForm name cs ts → Means name ds us ds g → ⊥
  no_form_one name ts us g same x y =
      let n : x.entry ≡ y.entry = some_same x.entry y.entry (sym x.named ∙ y.named) in
      let m = sym n in
      none_some (sym (sym y.fits ∙ (λ i. form_of (m i).1 (map (kind_of ds) (same i))) ∙ forms_one x.entry ts ∙ ap (option_map (form_as r)) x.unfit))

  pub form_one : (name : List ℕ) (ts us : List TypeId) (f : Found) → us ≡ map (type_id r) ts → Means name cs ts cs f → HasNoForm name ds us → ⊥
  form_one name ts us f same x y =
      let n : x.entry ≡ y.entry = some_same x.entry y.entry (sym x.named ∙ y.named) in
      let m = sym n in
      none_some (sym y.unfit ∙ (λ i. form_of (m i).1 (map (kind_of ds) (same i))) ∙ forms_one x.entry ts ∙ ap (option_map (form_as r)) x.fits)
