-- What the types of a table are stays when it grows, and so does what may stand in them.
use Rattle.std.proofs.Common.{◌≡◌, ℕ, zero, suc, ◌+◌, ◌<◌, ◌≤◌, List, [], ◌∷◌, ◌++◌, length, take, refl, sym, ap, ◌∙◌, subst, arith, append_assoc, true, false, ◌&&◌, Some, None, Option, slice_get, is_some, true≢false, Result, Ok, Err, IfOk, OnErr, All}
use Rattle.std.specs.Cmp.{first_so, second_so}
use Rattle.std.proofs.lemmas.Bool.{and_from}
use Rattle.std.proofs.lemmas.List.{append-nil, length_push}
use Rattle.std.proofs.lemmas.List.Elements.{All-head, All-tail}
use Rattle.cl_types.specs.declared.types.ClType.{ClType}
use Rattle.cl_types.specs.declared.types.ClType.TheVariants as ty
use Rattle.cl_types.specs.declared.types.Member.{Member}
use Rattle.cl_types.specs.declared.types.TypeId.{TypeId}
use Rattle.cl_types.specs.declared.stop.TypeStop.{TypeStop}
use Rattle.cl_types.specs.Layout.{TypeTree}
use Rattle.cl_types.specs.Table.{AreSized, IsBuilt, AreBuilt, IsTable, Interned, known as there, added as put, tree_at, tree_from, trees_after, trees, tree_of}
use Rattle.cl_types.proofs.Rows.{sized_low, integer_low, built_at, tree_left, trees_length}
use Rattle.cl_builtins.specs.declared.kind.Gentype.{Gentype}
use Rattle.cl_builtins.specs.Found.{IsKnown, IsGrown, IsSimple, Adds}
use Rattle.cl_builtins.specs.Kinds.{integer_in, vector_in, kind_in}
use Rattle.cl_builtins.specs.Tables.{IsOfTable}
use Rattle.cl_builtins.proofs.Growth.{grown_same, grown_twice, grown_known, grown_get, known_of_table}
use Rattle.cl_tree.specs.declared.shape.Shape.{Shape}
use Rattle.cl_tree.specs.declared.shape.Shape.TheVariants as shape
use Rattle.cl_tree.specs.Shapes.{vector_shape, holds_elements, shape_in, shape_of, is_array, members_in, members_of}
use Rattle.cl_tree.specs.Units.{is_object, is_pointee, are_objects, is_allowed, are_allowed}
use Rattle.cl_rules.specs.declared.rule.Want.{Want}
use Rattle.cl_rules.specs.declared.rule.Want.TheVariants as want
use Rattle.cl_make.specs.Ready.{Grows}
use Rattle.cl_make.specs.Wanted.{MayJoin, IsAskableShape, IsAskable, AreAskable, IsGivable}

pub none_some : {A : Type 0} {x : A} → None ≡ Some x → ⊥
none_some e = true≢false (sym (ap is_some e))

pub some_same : {A : Type 0} (x y : A) → Some x ≡ Some y → x ≡ y
some_same x y e = cc

pub get_some : {A : Type 0} (xs : List A) (i : ℕ) → i < length xs → (x : A) × (slice_get xs i ≡ Some x)
get_some [] i h = absurd (omega arith)
get_some (a ∷ xs) zero h = (a, refl)
get_some (a ∷ xs) (suc i) h = get_some xs i (omega arith)

taken_low : {A : Type 0} (xs : List A) (n : ℕ) → length (take n xs) ≤ length xs
taken_low [] zero = omega arith
taken_low [] (suc n) = omega arith
taken_low (a ∷ xs) zero = omega arith
taken_low (a ∷ xs) (suc n) = let h = taken_low xs n in omega arith

-- ---- the types that a type names are in the table

abbrev pub MembersKnown : List ClType → List Member → Type 0
MembersKnown cs [] = Unit {0}
MembersKnown cs (m ∷ ms) = IsKnown cs m.ty × MembersKnown cs ms

abbrev pub PartsKnown : List ClType → ClType → Type 0
PartsKnown cs (ty.Vector elem n) = IsKnown cs elem
PartsKnown cs (ty.Array elem n) = IsKnown cs elem
PartsKnown cs (ty.Struct name ms) = MembersKnown cs ms
PartsKnown cs (ty.Pointer space to readonly restricted) = IsKnown cs to
PartsKnown cs _ = Unit {0}

members_built : (cs : List ClType) (ms : List Member) → AreSized cs ms → MembersKnown cs ms
members_built cs [] h = tt
members_built cs (m ∷ ms) h = (sized_low cs m.ty.0 h.0, members_built cs ms h.1)

built_parts : (cs : List ClType) (c : ClType) → IsBuilt cs c → PartsKnown cs c
built_parts cs ty.Void b = tt
built_parts cs ty.Bool b = tt
built_parts cs (ty.Int bits signed) b = tt
built_parts cs (ty.Vector elem n) b = integer_low cs elem.0 b.0
built_parts cs (ty.Array elem n) b = sized_low cs elem.0 b.0
built_parts cs (ty.Struct name ms) b = members_built cs ms b.0
built_parts cs (ty.Pointer space to readonly restricted) b = b

low_longer : (a b : List ClType) (t : TypeId) → length a ≤ length b → IsKnown a t → IsKnown b t
low_longer a b t l h = omega (arith, l, h)

members_longer : (a b : List ClType) (ms : List Member) → length a ≤ length b → MembersKnown a ms → MembersKnown b ms
members_longer a b [] l h = tt
members_longer a b (m ∷ ms) l h = (low_longer a b m.ty l h.0, members_longer a b ms l h.1)

parts_longer : (a b : List ClType) (c : ClType) → length a ≤ length b → PartsKnown a c → PartsKnown b c
parts_longer a b ty.Void l h = tt
parts_longer a b ty.Bool l h = tt
parts_longer a b (ty.Int bits signed) l h = tt
parts_longer a b (ty.Vector elem n) l h = low_longer a b elem l h
parts_longer a b (ty.Array elem n) l h = low_longer a b elem l h
parts_longer a b (ty.Struct name ms) l h = members_longer a b ms l h
parts_longer a b (ty.Pointer space to readonly restricted) l h = low_longer a b to l h

pub parts_at : (cs : List ClType) (i : ℕ) (c : ClType) → AreBuilt [] cs → slice_get cs i ≡ Some c → PartsKnown cs c
parts_at cs i c b e = parts_longer (take i cs) cs c (taken_low cs i) (built_parts (take i cs) c (built_at cs i c b e))

abbrev AllParts : List ClType → List ClType → Type 0
AllParts cs [] = Unit {0}
AllParts cs (c ∷ rest) = PartsKnown cs c × AllParts cs rest

parts_all : (before cs all : List ClType) → AreBuilt before cs → length before + length cs ≤ length all → AllParts all cs
parts_all before [] all b l = tt
parts_all before (c ∷ cs) all b l =
    (parts_longer before all c (omega (arith, l)) (built_parts before c b.0), parts_all (before ++ c ∷ []) cs all b.1 (let e = length_push before c in omega (arith, e, l)))

table_parts : (cs : List ClType) → AreBuilt [] cs → AllParts cs cs
table_parts cs b = parts_all [] cs cs b (omega arith)

-- ---- what types are stays

shape_in_stays : (old new : List ClType) (c : ClType) → IsGrown old new → PartsKnown old c → shape_in new (Some c) ≡ shape_in old (Some c)
shape_in_stays old new ty.Void g h = refl
shape_in_stays old new ty.Bool g h = refl
shape_in_stays old new (ty.Int bits signed) g h = refl
shape_in_stays old new (ty.Vector elem n) g h = ap (λ o. vector_shape n (integer_in o)) (grown_get old new elem.0 g h)
shape_in_stays old new (ty.Array elem n) g h = ap (λ o. shape.Array elem n (holds_elements o)) (grown_get old new elem.0 g h)
shape_in_stays old new (ty.Struct name ms) g h = refl
shape_in_stays old new (ty.Pointer space to readonly restricted) g h = refl

pub shape_stays : (old new : List ClType) (t : TypeId) → IsTable old → IsGrown old new → IsKnown old t → shape_of new t ≡ shape_of old t
shape_stays old new t b g k =
    let c = get_some old t.0 k in
    ap (shape_in new) (grown_get old new t.0 g k ∙ c.1) ∙ shape_in_stays old new c.0 g (parts_at old t.0 c.0 b.built c.1) ∙ ap (shape_in old) (sym c.1)

pub members_stay : (old new : List ClType) (t : TypeId) → IsGrown old new → IsKnown old t → members_of new t ≡ members_of old t
members_stay old new t g k = ap members_in (grown_get old new t.0 g k)

after_more : (ts : List TypeTree) (cs : List ClType) → (rest : List TypeTree) × (trees_after ts cs ≡ ts ++ rest)
after_more ts [] = ([], sym (append-nil ts))
after_more ts (c ∷ cs) = let r = after_more (ts ++ tree_from ts c ∷ []) cs in (tree_from ts c ∷ r.0, r.1 ∙ append_assoc ts (tree_from ts c ∷ []) r.0)

after_twice : (ts : List TypeTree) (xs ys : List ClType) → trees_after ts (xs ++ ys) ≡ trees_after (trees_after ts xs) ys
after_twice ts [] ys = refl
after_twice ts (c ∷ xs) ys = after_twice (ts ++ tree_from ts c ∷ []) xs ys

-- the layout of a type
pub layout_stays : (old new : List ClType) (t : TypeId) → IsGrown old new → IsKnown old t → tree_of new t.0 ≡ tree_of old t.0
layout_stays old new t g k =
    let r = after_more (trees old) g.0 in
    ap (λ z. tree_at (trees z) t.0) g.1 ∙ ap (λ z. tree_at z t.0) (after_twice [] old g.0 ∙ r.1) ∙ tree_left (trees old) r.0 t.0 (let e = trees_length old in omega (arith, e, k))

-- ---- what may stand in a type stays

objects_stay : (old new : List ClType) (ms : List Member) → IsTable old → IsGrown old new → MembersKnown old ms → are_objects new ms ≡ are_objects old ms
objects_stay old new [] b g h = refl
objects_stay old new (m ∷ ms) b g h = λ i. is_object (shape_stays old new m.ty b g h.0 i) && objects_stay old new ms b g h.1 i

allowed_stays : (old new : List ClType) (c : ClType) → IsTable old → IsGrown old new → PartsKnown old c → is_allowed new c ≡ is_allowed old c
allowed_stays old new ty.Void b g h = refl
allowed_stays old new ty.Bool b g h = refl
allowed_stays old new (ty.Int bits signed) b g h = refl
allowed_stays old new (ty.Vector elem n) b g h = refl
allowed_stays old new (ty.Array elem n) b g h = ap is_object (shape_stays old new elem b g h)
allowed_stays old new (ty.Struct name ms) b g h = objects_stay old new ms b g h
allowed_stays old new (ty.Pointer space to readonly restricted) b g h = ap is_pointee (shape_stays old new to b g h)

all_allowed_stay : (old new xs : List ClType) → IsTable old → IsGrown old new → AllParts old xs → are_allowed new xs ≡ are_allowed old xs
all_allowed_stay old new [] b g h = refl
all_allowed_stay old new (c ∷ xs) b g h = λ i. allowed_stays old new c b g h.0 i && all_allowed_stay old new xs b g h.1 i

allowed_front : (cs xs ys : List ClType) → are_allowed cs (xs ++ ys) ≡ true → are_allowed cs xs ≡ true
allowed_front cs [] ys h = refl
allowed_front cs (c ∷ xs) ys h =
    and_from (is_allowed cs c) (are_allowed cs xs) (first_so (is_allowed cs c) (are_allowed cs (xs ++ ys)) h) (allowed_front cs xs ys (second_so (is_allowed cs c) (are_allowed cs (xs ++ ys)) h))

allowed_last : (cs xs : List ClType) (c : ClType) → are_allowed cs xs ≡ true → is_allowed cs c ≡ true → are_allowed cs (xs ++ c ∷ []) ≡ true
allowed_last cs [] c h k = and_from (is_allowed cs c) true k refl
allowed_last cs (x ∷ xs) c h k =
    and_from (is_allowed cs x) (are_allowed cs (xs ++ c ∷ [])) (first_so (is_allowed cs x) (are_allowed cs xs) h) (allowed_last cs xs c (second_so (is_allowed cs x) (are_allowed cs xs) h) k)

allowed_at : (cs xs : List ClType) (i : ℕ) (c : ClType) → are_allowed cs xs ≡ true → slice_get xs i ≡ Some c → is_allowed cs c ≡ true
allowed_at cs [] i c h e = absurd (none_some e)
allowed_at cs (x ∷ xs) zero c h e = subst (λ z. is_allowed cs z ≡ true) (some_same x c e) (first_so (is_allowed cs x) (are_allowed cs xs) h)
allowed_at cs (x ∷ xs) (suc i) c h e = allowed_at cs xs i c (second_so (is_allowed cs x) (are_allowed cs xs) h) e

pub allowed_before : (old new : List ClType) → IsTable old → IsGrown old new → are_allowed new new ≡ true → are_allowed old old ≡ true
allowed_before old new b g h = sym (all_allowed_stay old new old b g (table_parts old b.built)) ∙ allowed_front new old g.0 (ap (are_allowed new) (sym g.1) ∙ h)

-- ---- tables that grow

pub grows_same : (old new : List ClType) → IsTable new → new ≡ old → Grows old new
grows_same old new b e = record { table = b; grown = grown_same old new e; allowed = λ h. subst (λ z. are_allowed z z ≡ true) (sym e) h }

pub grows_itself : (cs : List ClType) → IsTable cs → Grows cs cs
grows_itself cs b = grows_same cs cs b refl

pub grows_twice : (old mid new : List ClType) → Grows old mid → Grows mid new → Grows old new
grows_twice old mid new g h = record { table = h.table; grown = grown_twice old mid new g.grown h.grown; allowed = λ a. h.allowed (g.allowed a) }

added_grows : (old new : List ClType) (c : ClType) → IsTable old → IsTable new → IsBuilt old c → MayJoin old c → new ≡ old ++ c ∷ [] → Grows old new
added_grows old new c b n h a e =
    let g : IsGrown old new = (c ∷ [], e) in
    record {
      table = n;
      grown = g;
      allowed = λ all. ap (are_allowed new) e ∙ allowed_last new old c (all_allowed_stay old new old b g (table_parts old b.built) ∙ all) (allowed_stays old new c b g (built_parts old c h) ∙ a all);
    }

found_grows : (old new : List ClType) (c : ClType) (t : ℕ) → IsTable old → IsTable new → IsBuilt old c → MayJoin old c → Interned old new c t → Grows old new
found_grows old new c t b n h a (there e f) = grows_same old new n e
found_grows old new c t b n h a (put e f d) = added_grows old new c b n h a e

-- what `intern` of a table leaves
pub interned_grows : (old new : List ClType) (c : ClType) (r : Result TypeId TypeStop) → IsTable old → IsTable new → IsBuilt old c → MayJoin old c → IfOk r (λ t. Interned old new c t.0) → OnErr r (new ≡ old) → Grows old new
interned_grows old new c (Ok t) b n h a i e = found_grows old new c t.0 b n h a i
interned_grows old new c (Err s) b n h a i e = grows_same old new n e

-- simple types are allowed wherever they stand
allowed_both : (cs xs ys : List ClType) → are_allowed cs xs ≡ true → are_allowed cs ys ≡ true → are_allowed cs (xs ++ ys) ≡ true
allowed_both cs [] ys h k = k
allowed_both cs (x ∷ xs) ys h k =
    and_from (is_allowed cs x) (are_allowed cs (xs ++ ys)) (first_so (is_allowed cs x) (are_allowed cs xs) h) (allowed_both cs xs ys (second_so (is_allowed cs x) (are_allowed cs xs) h) k)

simple_allowed : (cs : List ClType) (c : ClType) → IsSimple c → is_allowed cs c ≡ true
simple_allowed cs ty.Void h = refl
simple_allowed cs ty.Bool h = refl
simple_allowed cs (ty.Int bits signed) h = refl
simple_allowed cs (ty.Vector elem n) h = refl
simple_allowed cs (ty.Array elem n) h = absurd h
simple_allowed cs (ty.Struct name ms) h = absurd h
simple_allowed cs (ty.Pointer space to readonly restricted) h = absurd h

all_simple_allowed : (cs xs : List ClType) → All IsSimple xs → are_allowed cs xs ≡ true
all_simple_allowed cs [] h = refl
all_simple_allowed cs (c ∷ xs) h = and_from (is_allowed cs c) (are_allowed cs xs) (simple_allowed cs c (All-head IsSimple c xs h)) (all_simple_allowed cs xs (All-tail IsSimple c xs h))

pub adds_grows : (old new : List ClType) → IsTable old → IsTable new → Adds old new → Grows old new
adds_grows old new b n p =
    let g : IsGrown old new = (p.0, p.1) in
    record {
      table = n;
      grown = g;
      allowed = λ all. ap (are_allowed new) p.1 ∙ allowed_both new old p.0 (all_allowed_stay old new old b g (table_parts old b.built) ∙ all) (all_simple_allowed new p.0 p.2);
    }

-- ---- what a table holds

-- a shape whose types are in the table, and which may be that of one of its types
abbrev pub FitsTable : List ClType → Shape → Type 0
FitsTable cs shape.Void = Unit {0}
FitsTable cs shape.Bool = Unit {0}
FitsTable cs (shape.Integers t) = IsAskableShape cs (shape.Integers t)
FitsTable cs (shape.Array elem len nested) = IsKnown cs elem × (are_allowed cs cs ≡ true → is_object (shape_of cs elem) ≡ true) × (nested ≡ is_array (shape_of cs elem))
FitsTable cs shape.Struct = Unit {0}
FitsTable cs (shape.Pointer space to readonly restricted) = IsAskableShape cs (shape.Pointer space to readonly restricted)

vector_fits : (cs : List ClType) (t : TypeId) (n : ℕ) (o : Option Gentype) → IsOfTable cs (vector_in t n o) → FitsTable cs (vector_shape n o)
vector_fits cs t n None h = tt
vector_fits cs t n (Some g) h = h

no_array : (n : ℕ) (o : Option Gentype) → false ≡ is_array (vector_shape n o)
no_array n None = refl
no_array n (Some g) = refl

holds_arrays : (cs : List ClType) (o : Option ClType) → holds_elements o ≡ is_array (shape_in cs o)
holds_arrays cs None = refl
holds_arrays cs (Some ty.Void) = refl
holds_arrays cs (Some ty.Bool) = refl
holds_arrays cs (Some (ty.Int bits signed)) = refl
holds_arrays cs (Some (ty.Vector elem n)) = no_array n (integer_in (slice_get cs elem.0))
holds_arrays cs (Some (ty.Array elem n)) = refl
holds_arrays cs (Some (ty.Struct name ms)) = refl
holds_arrays cs (Some (ty.Pointer space to readonly restricted)) = refl

type_fits : (cs : List ClType) (t : TypeId) (c : ClType) → IsTable cs → slice_get cs t.0 ≡ Some c → IsOfTable cs (kind_in cs t (Some c)) → FitsTable cs (shape_in cs (Some c))
type_fits cs t ty.Void b e h = tt
type_fits cs t ty.Bool b e h = tt
type_fits cs t (ty.Int bits signed) b e h = h
type_fits cs t (ty.Vector elem n) b e h = vector_fits cs t n (integer_in (slice_get cs elem.0)) h
type_fits cs t (ty.Array elem n) b e h =
    (parts_at cs t.0 (ty.Array elem n) b.built e, λ a. allowed_at cs cs t.0 (ty.Array elem n) a e, holds_arrays cs (slice_get cs elem.0))
type_fits cs t (ty.Struct name ms) b e h = tt
type_fits cs t (ty.Pointer space to readonly restricted) b e h =
    (parts_at cs t.0 (ty.Pointer space to readonly restricted) b.built e, λ a. allowed_at cs cs t.0 (ty.Pointer space to readonly restricted) a e)

pub known_fits : (cs : List ClType) (t : TypeId) → IsTable cs → IsKnown cs t → FitsTable cs (shape_of cs t)
known_fits cs t b k =
    let c = get_some cs t.0 k in
    subst (λ o. FitsTable cs (shape_in cs o)) (sym c.1) (type_fits cs t c.0 b c.1 (subst (λ o. IsOfTable cs (kind_in cs t o)) c.1 (known_of_table cs b.built t k)))

type_members : (cs : List ClType) (c : ClType) → PartsKnown cs c → MembersKnown cs (members_in (Some c))
type_members cs ty.Void h = tt
type_members cs ty.Bool h = tt
type_members cs (ty.Int bits signed) h = tt
type_members cs (ty.Vector elem n) h = tt
type_members cs (ty.Array elem n) h = tt
type_members cs (ty.Struct name ms) h = h
type_members cs (ty.Pointer space to readonly restricted) h = tt

pub known_members : (cs : List ClType) (t : TypeId) → IsTable cs → IsKnown cs t → MembersKnown cs (members_of cs t)
known_members cs t b k =
    let c = get_some cs t.0 k in
    subst (λ o. MembersKnown cs (members_in o)) (sym c.1) (type_members cs c.0 (parts_at cs t.0 c.0 b.built c.1))

-- ---- what can be asked of a table stays

shape_askable_stays : (old new : List ClType) (s : Shape) → IsTable old → IsGrown old new → IsAskableShape old s → IsAskableShape new s
shape_askable_stays old new shape.Void b g h = tt
shape_askable_stays old new shape.Bool b g h = tt
shape_askable_stays old new (shape.Integers t) b g h = h
shape_askable_stays old new (shape.Array elem len nested) b g h = absurd h
shape_askable_stays old new shape.Struct b g h = absurd h
shape_askable_stays old new (shape.Pointer space to readonly restricted) b g h =
    (grown_known old new to g h.0, λ a. ap is_pointee (shape_stays old new to b g h.0) ∙ h.1 (allowed_before old new b g a))

pub askable_stays : (old new : List ClType) (w : Want) → IsTable old → IsGrown old new → IsAskable old w → IsAskable new w
askable_stays old new want.Own b g h = tt
askable_stays old new (want.Type t) b g h = grown_known old new t g h
askable_stays old new (want.Of s) b g h = shape_askable_stays old new s b g h

pub givable_stays : (old new : List ClType) (w : Want) → IsTable old → IsGrown old new → IsGivable old w → IsGivable new w
givable_stays old new want.Own b g h = absurd h
givable_stays old new (want.Type t) b g h = grown_known old new t g h
givable_stays old new (want.Of s) b g h = shape_askable_stays old new s b g h

pub want_askable : (cs : List ClType) (ws : List Want) (i : ℕ) (w : Want) → AreAskable cs ws → slice_get ws i ≡ Some w → IsAskable cs w
want_askable cs [] i w h e = absurd (none_some e)
want_askable cs (v ∷ ws) zero w h e = subst (IsAskable cs) (some_same v w e) h.0
want_askable cs (v ∷ ws) (suc i) w h e = want_askable cs ws i w h.1 e
