-- The parts of a type have smaller numbers than it, and there is one at least.
use Rattle.std.proofs.Common.{◌≡◌, ℕ, zero, suc, ◌+◌, ◌<◌, Bool, true, false, not, ◌&&◌, ◌||◌, List, [], ◌∷◌, ◌++◌, length, Option, Some, None, refl, sym, ap, ◌∙◌, subst, arith, true≢false}
use Rattle.std.specs.Prelude.{slice_get}
use Rattle.std.proofs.lemmas.List.{length-append}
use Rattle.cl_types.specs.declared.types.ClType.{ClType}
use Rattle.cl_types.specs.declared.types.ClType.TheVariants as ty
use Rattle.cl_types.specs.declared.types.Member.{Member}
use Rattle.cl_types.specs.declared.types.TypeId.{TypeId}
use Rattle.cl_types.specs.Table.{IsTable, IsBuilt, AreBuilt, AreSized, is_sized}
use Rattle.cl_builtins.specs.declared.kind.Gentype.{Gentype}
use Rattle.cl_builtins.specs.Found.{IsKnown}
use Rattle.cl_builtins.specs.Kinds.{integer_in}
use Rattle.cl_tree.specs.declared.shape.Shape.{Shape}
use Rattle.cl_tree.specs.declared.shape.Shape.TheVariants as shape
use Rattle.cl_tree.specs.Shapes.{shape_of, shape_in, vector_shape, members_in, members_of, is_array, is_struct}
use Rattle.cl_make.proofs.Growing.{none_some, some_same, get_some}

sized_low : (cs : List ClType) (i : ℕ) → is_sized (slice_get cs i) ≡ true → i < length cs
sized_low [] i h = absurd (true≢false (sym h))
sized_low (c ∷ cs) zero h = omega arith
sized_low (c ∷ cs) (suc i) h = let l = sized_low cs i h in omega (arith, l)

abbrev pub AllBelow : ℕ → List Member → Type 0
AllBelow n [] = Unit {0}
AllBelow n (m ∷ ms) = (m.ty.0 < n) × AllBelow n ms

all_below : (cs : List ClType) (ms : List Member) → AreSized cs ms → AllBelow (length cs) ms
all_below cs [] h = tt
all_below cs (m ∷ ms) h = (sized_low cs m.ty.0 h.0, all_below cs ms h.1)

-- what an array and a struct are built of
abbrev pub IsAbove : ℕ → ClType → Type 0
IsAbove n (ty.Array elem len) = (elem.0 < n) × (0 < len)
IsAbove n (ty.Struct name ms) = AllBelow n ms × (0 < length ms)
IsAbove n _ = Unit {0}

above_of : (cs : List ClType) (c : ClType) → IsBuilt cs c → IsAbove (length cs) c
above_of cs ty.Void h = tt
above_of cs ty.Bool h = tt
above_of cs (ty.Int bits signed) h = tt
above_of cs (ty.Vector elem n) h = tt
above_of cs (ty.Array elem len) h = (sized_low cs elem.0 h.0, h.1)
above_of cs (ty.Struct name ms) h = (all_below cs ms h.0, h.1)
above_of cs (ty.Pointer space to readonly restricted) h = tt

built_above : (before cs : List ClType) (i : ℕ) (c : ClType) → AreBuilt before cs → slice_get cs i ≡ Some c → IsAbove (length before + i) c
built_above before [] i c h e = absurd (none_some e)
built_above before (x ∷ cs) zero c h e = subst (λ n. IsAbove n c) (omega arith) (subst (IsAbove (length before)) (some_same x c e) (above_of before x h.0))
built_above before (x ∷ cs) (suc i) c h e =
    let l : length (before ++ x ∷ []) ≡ length before + 1 = length-append before (x ∷ []) in
    subst (λ n. IsAbove n c) (omega (arith, l)) (built_above (before ++ x ∷ []) cs i c h.1 e)

pub type_above : (cs : List ClType) (t : TypeId) (c : ClType) → IsTable cs → slice_get cs t.0 ≡ Some c → IsAbove t.0 c
type_above cs t c table e = subst (λ n. IsAbove n c) (omega arith) (built_above [] cs t.0 c table.built e)

-- ---- parts

-- a value that doesn't take a whole part leaves one that has parts
pub parts_by : (array structure same : Bool) → (not array && (not structure || same)) ≡ false → (array || structure) ≡ true
parts_by true s x h = refl
parts_by false true x h = refl
parts_by false false x h = absurd (true≢false h)

pub no_parts : (s : Shape) → (is_array s || is_struct s) ≡ true → ((elem : TypeId) (len : ℕ) (nested : Bool) → s ≡ shape.Array elem len nested → ⊥) → (s ≡ shape.Struct → ⊥) → ⊥
no_parts shape.Void h a b = true≢false (sym h)
no_parts shape.Bool h a b = true≢false (sym h)
no_parts (shape.Integers t) h a b = true≢false (sym h)
no_parts (shape.Array elem len nested) h a b = a elem len nested refl
no_parts shape.Struct h a b = b refl
no_parts (shape.Pointer space to readonly restricted) h a b = true≢false (sym h)

-- ---- arrays

abbrev elem_in : Shape → ℕ
elem_in (shape.Array elem len nested) = elem.0
elem_in _ = 0

abbrev len_in : Shape → ℕ
len_in (shape.Array elem len nested) = len
len_in _ = 0

no_vector_array : (n : ℕ) (o : Option Gentype) → is_array (vector_shape n o) ≡ false
no_vector_array n None = refl
no_vector_array n (Some e) = refl

no_vector_struct : (n : ℕ) (o : Option Gentype) → is_struct (vector_shape n o) ≡ false
no_vector_struct n None = refl
no_vector_struct n (Some e) = refl

array_above : (cs : List ClType) (t : ℕ) (c : ClType) → is_array (shape_in cs (Some c)) ≡ true → IsAbove t c → (elem_in (shape_in cs (Some c)) < t) × (0 < len_in (shape_in cs (Some c)))
array_above cs t ty.Void a h = absurd (true≢false (sym a))
array_above cs t ty.Bool a h = absurd (true≢false (sym a))
array_above cs t (ty.Int bits signed) a h = absurd (true≢false (sym a))
array_above cs t (ty.Vector elem n) a h = absurd (true≢false (sym a ∙ no_vector_array n (integer_in (slice_get cs elem.0))))
array_above cs t (ty.Array elem len) a h = h
array_above cs t (ty.Struct name ms) a h = absurd (true≢false (sym a))
array_above cs t (ty.Pointer space to readonly restricted) a h = absurd (true≢false (sym a))

pub element_below : (cs : List ClType) (t elem : TypeId) (len : ℕ) (nested : Bool) → IsTable cs → IsKnown cs t → shape_of cs t ≡ shape.Array elem len nested → (elem.0 < t.0) × (0 < len)
element_below cs t elem len nested table known e =
    let c = get_some cs t.0 known in
    let same : shape_in cs (Some c.0) ≡ shape.Array elem len nested = ap (shape_in cs) (sym c.1) ∙ e in
    let a = array_above cs t.0 c.0 (ap is_array same) (type_above cs t c.0 table c.1) in
    (subst (λ n. n < t.0) (ap elem_in same) a.0, subst (λ n. 0 < n) (ap len_in same) a.1)

-- ---- structs

struct_above : (cs : List ClType) (t : ℕ) (c : ClType) → is_struct (shape_in cs (Some c)) ≡ true → IsAbove t c → AllBelow t (members_in (Some c)) × (0 < length (members_in (Some c)))
struct_above cs t ty.Void a h = absurd (true≢false (sym a))
struct_above cs t ty.Bool a h = absurd (true≢false (sym a))
struct_above cs t (ty.Int bits signed) a h = absurd (true≢false (sym a))
struct_above cs t (ty.Vector elem n) a h = absurd (true≢false (sym a ∙ no_vector_struct n (integer_in (slice_get cs elem.0))))
struct_above cs t (ty.Array elem len) a h = absurd (true≢false (sym a))
struct_above cs t (ty.Struct name ms) a h = h
struct_above cs t (ty.Pointer space to readonly restricted) a h = absurd (true≢false (sym a))

pub struct_parts : (cs : List ClType) (t : TypeId) → IsTable cs → IsKnown cs t → shape_of cs t ≡ shape.Struct → AllBelow t.0 (members_of cs t) × (0 < length (members_of cs t))
struct_parts cs t table known e =
    let c = get_some cs t.0 known in
    let a = struct_above cs t.0 c.0 (ap is_struct (ap (shape_in cs) (sym c.1) ∙ e)) (type_above cs t c.0 table c.1) in
    subst (λ o. AllBelow t.0 (members_in o) × (0 < length (members_in o))) (sym c.1) a

pub member_below : (n : ℕ) (ms : List Member) (i : ℕ) (m : Member) → AllBelow n ms → slice_get ms i ≡ Some m → m.ty.0 < n
member_below n [] i m h e = absurd (none_some e)
member_below n (x ∷ ms) zero m h e = subst (λ z. z.ty.0 < n) (some_same x m e) h.0
member_below n (x ∷ ms) (suc i) m h e = member_below n ms i m h.1 e
