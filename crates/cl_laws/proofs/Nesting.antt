-- What the types of a table are made of: earlier types, which nest less deep.
use Rattle.std.proofs.Common.{◌≡◌, ℕ, suc, ◌<◌, ◌≤◌, List, [], ◌∷◌, length, refl, sym, ap, ◌∙◌, subst, arith, false, true≢false, Option, Some, None, slice_get}
use Rattle.std.specs.Prelude.{max}
use Rattle.std.proofs.lemmas.Option.{slice_get_within}
use Rattle.cl_types.specs.declared.types.ClType.{ClType}
use Rattle.cl_types.specs.declared.types.ClType.TheVariants as ty
use Rattle.cl_types.specs.declared.types.Member.{Member}
use Rattle.cl_types.specs.declared.types.TypeId.{TypeId}
use Rattle.cl_types.specs.Layout.{TypeTrees, none, more, depth_of, depths_of}
use Rattle.cl_types.specs.Table.{trees_at, trees, tree_of, AreBuilt}
use Rattle.cl_types.proofs.Rows.{tree_found, built_at, array_earlier, AreEarlier, members_earlier}
use Rattle.cl_builtins.specs.declared.kind.Gentype.{Gentype}
use Rattle.cl_builtins.specs.Found.{IsKnown}
use Rattle.cl_builtins.specs.Kinds.{integer_in}
use Rattle.cl_tree.specs.declared.shape.Shape.{Shape}
use Rattle.cl_tree.specs.declared.shape.Shape.TheVariants as shape
use Rattle.cl_tree.specs.Shapes.{vector_shape, shape_in, shape_of, is_array, is_struct, members_in, members_of}

-- ---- arrays and structs by their shapes

no_array : {A : Type 0} (s : Shape) (elem : TypeId) (len : ℕ) (nested : _) → is_array s ≡ false → s ≡ shape.Array elem len nested → A
no_array s elem len nested n e = absurd (true≢false (sym (ap is_array e) ∙ n))

no_struct : {A : Type 0} (s : Shape) → is_struct s ≡ false → s ≡ shape.Struct → A
no_struct s n e = absurd (true≢false (sym (ap is_struct e) ∙ n))

vector_no_array : (n : ℕ) (o : Option Gentype) → is_array (vector_shape n o) ≡ false
vector_no_array n None = refl
vector_no_array n (Some t) = refl

vector_no_struct : (n : ℕ) (o : Option Gentype) → is_struct (vector_shape n o) ≡ false
vector_no_struct n None = refl
vector_no_struct n (Some t) = refl

array_from : (cs : List ClType) (o : Option ClType) (elem : TypeId) (len : ℕ) (nested : _) → shape_in cs o ≡ shape.Array elem len nested → o ≡ Some (ty.Array elem len)
array_from cs None elem len nested e = no_array shape.Void elem len nested refl e
array_from cs (Some ty.Void) elem len nested e = no_array shape.Void elem len nested refl e
array_from cs (Some ty.Bool) elem len nested e = no_array shape.Bool elem len nested refl e
array_from cs (Some (ty.Int bits signed)) elem len nested e = no_array (shape_in cs (Some (ty.Int bits signed))) elem len nested refl e
array_from cs (Some (ty.Vector of n)) elem len nested e =
    no_array (vector_shape n (integer_in (slice_get cs of.0))) elem len nested (vector_no_array n (integer_in (slice_get cs of.0))) e
array_from cs (Some (ty.Array of n)) elem len nested e =
    let f : of ≡ elem = cc in
    let g : n ≡ len = cc in
    (λ i. Some (ty.Array (f i) (g i)))
array_from cs (Some (ty.Struct name ms)) elem len nested e = no_array shape.Struct elem len nested refl e
array_from cs (Some (ty.Pointer s to ro re)) elem len nested e = no_array (shape.Pointer s to ro re) elem len nested refl e

pub array_at : (cs : List ClType) (t elem : TypeId) (len : ℕ) (nested : _) → shape_of cs t ≡ shape.Array elem len nested → slice_get cs t.0 ≡ Some (ty.Array elem len)
array_at cs t elem len nested e = array_from cs (slice_get cs t.0) elem len nested e

record IsStructAt (o : Option ClType) : Type 0 where
  name : List ℕ
  members : List Member
  at : o ≡ Some (ty.Struct name members)

struct_from : (cs : List ClType) (o : Option ClType) → shape_in cs o ≡ shape.Struct → IsStructAt o
struct_from cs None e = no_struct shape.Void refl e
struct_from cs (Some ty.Void) e = no_struct shape.Void refl e
struct_from cs (Some ty.Bool) e = no_struct shape.Bool refl e
struct_from cs (Some (ty.Int bits signed)) e = no_struct (shape_in cs (Some (ty.Int bits signed))) refl e
struct_from cs (Some (ty.Vector of n)) e =
    no_struct (vector_shape n (integer_in (slice_get cs of.0))) (vector_no_struct n (integer_in (slice_get cs of.0))) e
struct_from cs (Some (ty.Array of n)) e = no_struct (shape_in cs (Some (ty.Array of n))) refl e
struct_from cs (Some (ty.Struct name ms)) e = record { name = name; members = ms; at = refl }
struct_from cs (Some (ty.Pointer s to ro re)) e = no_struct (shape.Pointer s to ro re) refl e

-- ---- elements and members

-- the elements of an array
pub record HoldsElements (cs : List ClType) (t elem : TypeId) (len : ℕ) : Type 0 where
  pub known : IsKnown cs t
  pub earlier : elem.0 < t.0
  pub some : 0 < len
  pub depth : depth_of (tree_of cs t.0) ≡ suc (depth_of (tree_of cs elem.0))

pub elements_inside : (cs : List ClType) (t elem : TypeId) (len : ℕ) (nested : _) → AreBuilt [] cs → shape_of cs t ≡ shape.Array elem len nested → HoldsElements cs t elem len
elements_inside cs t elem len nested b e =
    let at = array_at cs t elem len nested e in
    record {
      known = slice_get_within cs t.0 (ty.Array elem len) at;
      earlier = (array_earlier cs t.0 elem len b at).earlier;
      some = (built_at cs t.0 (ty.Array elem len) b at).1;
      depth = ap depth_of (tree_found cs t.0 (ty.Array elem len) b at);
    }

-- these members have types with numbers below this one, which are no deeper than this
abbrev pub AreInside : List ClType → ℕ → ℕ → List Member → Type 0
AreInside cs i deep [] = Unit {0}
AreInside cs i deep (m ∷ ms) = (m.ty.0 < i) × (depth_of (tree_of cs m.ty.0) ≤ deep) × AreInside cs i deep ms

deeper : (d : ℕ) (ts : TypeTrees) → d ≤ depths_of d ts
deeper d none = omega arith
deeper d (more t ts) = let h = deeper (max d (depth_of t)) ts in omega arith

members_low : (cs : List ClType) (i d deep : ℕ) (ms : List Member) → AreEarlier cs i ms → depths_of d (trees_at (trees cs) ms) ≤ deep → AreInside cs i deep ms
members_low cs i d deep [] e h = tt
members_low cs i d deep (m ∷ ms) e h =
    let here : ℕ = depth_of (tree_of cs m.ty.0) in
    let k = deeper (max d here) (trees_at (trees cs) ms) in
    (e.0.earlier, omega arith, members_low cs i (max d here) deep ms e.1 h)

-- the members of a struct
pub record HoldsMembers (cs : List ClType) (t : TypeId) : Type 0 where
  pub known : IsKnown cs t
  pub some : 0 < length (members_of cs t)
  pub deep : 0 < depth_of (tree_of cs t.0)
  pub inside : (d : ℕ) → depth_of (tree_of cs t.0) ≤ suc d → AreInside cs t.0 d (members_of cs t)

pub members_inside : (cs : List ClType) (t : TypeId) → AreBuilt [] cs → shape_of cs t ≡ shape.Struct → HoldsMembers cs t
members_inside cs t b e =
    let s = struct_from cs (slice_get cs t.0) e in
    let c = ty.Struct s.name s.members in
    let ms : members_of cs t ≡ s.members = ap members_in s.at in
    let depth : depth_of (tree_of cs t.0) ≡ suc (depths_of 0 (trees_at (trees cs) s.members)) = ap depth_of (tree_found cs t.0 c b s.at) in
    record {
      known = slice_get_within cs t.0 c s.at;
      some = subst (λ z. 0 < length z) (sym ms) (built_at cs t.0 c b s.at).1;
      deep = omega arith;
      inside = λ d h. subst (AreInside cs t.0 d) (sym ms) (members_low cs t.0 0 d s.members (members_earlier cs t.0 s.name s.members b s.at) (omega arith));
    }
