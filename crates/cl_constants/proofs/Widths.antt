-- The integers of a table have widths.
use Rattle.std.proofs.Common.{◌≡◌, ℕ, zero, suc, ◌≤◌, true, Some, None, Option, List, [], ◌∷◌, length, slice_get, refl, sym, ap, ◌∙◌, arith}
use Rattle.cl_types.specs.declared.types.ClType.{ClType}
use Rattle.cl_types.specs.declared.types.ClType.TheVariants as ty
use Rattle.cl_types.specs.declared.types.TypeId.{TypeId}
use Rattle.cl_types.specs.Layout.{is_width}
use Rattle.cl_types.specs.Table.{AreBuilt}
use Rattle.cl_types.proofs.Rows.{built_at}
use Rattle.cl_builtins.specs.Kinds.{integer_in}
use Rattle.cl_tree.specs.declared.shape.Shape.{Shape}
use Rattle.cl_tree.specs.declared.shape.Shape.TheVariants as shape
use Rattle.cl_tree.specs.Shapes.{vector_shape, shape_in, shape_of}
use Rattle.cl_constants.specs.Widths.{has_width}

vector_width : (cs : List ClType) (i n : ℕ) (o : Option ClType) → AreBuilt [] cs → slice_get cs i ≡ o → has_width (vector_shape n (integer_in o)) ≡ true
vector_width cs i n None b e = refl
vector_width cs i n (Some ty.Void) b e = refl
vector_width cs i n (Some ty.Bool) b e = refl
vector_width cs i n (Some (ty.Int bits signed)) b e = built_at cs i (ty.Int bits signed) b e
vector_width cs i n (Some (ty.Vector elem m)) b e = refl
vector_width cs i n (Some (ty.Array elem m)) b e = refl
vector_width cs i n (Some (ty.Struct name members)) b e = refl
vector_width cs i n (Some (ty.Pointer space to readonly restricted)) b e = refl

width_in : (cs : List ClType) (i : ℕ) (o : Option ClType) → AreBuilt [] cs → slice_get cs i ≡ o → has_width (shape_in cs o) ≡ true
width_in cs i None b e = refl
width_in cs i (Some ty.Void) b e = refl
width_in cs i (Some ty.Bool) b e = refl
width_in cs i (Some (ty.Int bits signed)) b e = built_at cs i (ty.Int bits signed) b e
width_in cs i (Some (ty.Vector elem n)) b e = vector_width cs elem.0 n (slice_get cs elem.0) b refl
width_in cs i (Some (ty.Array elem n)) b e = refl
width_in cs i (Some (ty.Struct name members)) b e = refl
width_in cs i (Some (ty.Pointer space to readonly restricted)) b e = refl

pub shape_width : (cs : List ClType) (t : TypeId) → AreBuilt [] cs → has_width (shape_of cs t) ≡ true
shape_width cs t b = width_in cs t.0 (slice_get cs t.0) b refl

get_none : {A : Type 0} (xs : List A) (i : ℕ) → length xs ≤ i → slice_get xs i ≡ None
get_none [] i h = refl
get_none (x ∷ xs) zero h = absurd (omega arith)
get_none (x ∷ xs) (suc i) h = get_none xs i (omega arith)

pub no_shape : (cs : List ClType) (t : TypeId) → length cs ≤ t.0 → shape.Void ≡ shape_of cs t
no_shape cs t h = sym (ap (shape_in cs) (get_none cs t.0 h))

pub ruleset widths = (shape_width, no_shape)
