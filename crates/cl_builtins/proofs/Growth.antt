-- Types of a table that grows.
use Rattle.std.proofs.Common.{◌≡◌, ℕ, zero, suc, ◌<◌, ◌≤◌, List, [], ◌∷◌, ◌++◌, length, take, map, refl, sym, ap, ◌∙◌, subst, arith, append_assoc, Bool, true, false, ◌&&◌, ◌||◌, Some, None, Option, slice_get, get_or, true≢false}
use Rattle.std.specs.Prelude.{is_some, nat_eq, Result, Ok, Err, IfOk, OnErr}
use Rattle.std.specs.Cmp.{first_so, second_so}
use Rattle.std.specs.List.{All, AllZip}
use Rattle.std.proofs.lemmas.List.Elements.{All-append, All-cons, All-nil}
use Rattle.std.proofs.lemmas.List.{append-nil}
use Rattle.std.proofs.lemmas.Option.{slice_get_within}
use Rattle.cl_types.specs.declared.space.Space.{Space}
use Rattle.cl_types.specs.declared.types.ClType.{ClType}
use Rattle.cl_types.specs.declared.types.ClType.TheVariants as ty
use Rattle.cl_types.specs.declared.types.TypeId.{TypeId}
use Rattle.cl_types.specs.declared.stop.TypeStop.{TypeStop}
use Rattle.cl_types.specs.Layout.{is_width, is_count}
use Rattle.cl_types.specs.Table.{is_integer, IsBuilt, AreBuilt, Interned, known as there, added as put}
use Rattle.cl_types.proofs.Rows.{integer_low, built_at}
use Rattle.cl_builtins.specs.declared.kind.Gentype.{Gentype}
use Rattle.cl_builtins.specs.declared.kind.Kind.{Kind}
use Rattle.cl_builtins.specs.declared.kind.Kind.TheVariants as kind
use Rattle.cl_builtins.specs.Kinds.{is_gentype, integer_in, vector_in, pointer_in, kind_in, kind_of}
use Rattle.cl_builtins.specs.Found.{IsKnown, AreKnown, IsGrown, IsSimple, Adds, HasKind}
use Rattle.cl_builtins.specs.Tables.{Keeps, IsAt, IsOfTable, EachOfTable}

none_some : {A : Type 0} {x : A} → None ≡ Some x → ⊥
none_some e = true≢false (sym (ap is_some e))

some_same : {A : Type 0} (x y : A) → Some x ≡ Some y → x ≡ y
some_same x y e = cc

pub get_left : {A : Type 0} (xs ys : List A) (i : ℕ) → i < length xs → slice_get (xs ++ ys) i ≡ slice_get xs i
get_left [] ys i h = absurd (omega arith)
get_left (a ∷ xs) ys zero h = refl
get_left (a ∷ xs) ys (suc i) h = get_left xs ys i (omega arith)

get_last : {A : Type 0} (xs : List A) (x : A) → slice_get (xs ++ x ∷ []) (length xs) ≡ Some x
get_last [] x = refl
get_last (a ∷ xs) x = get_last xs x

get_some : {A : Type 0} (xs : List A) (i : ℕ) → i < length xs → (x : A) × (slice_get xs i ≡ Some x)
get_some [] i h = absurd (omega arith)
get_some (a ∷ xs) zero h = (a, refl)
get_some (a ∷ xs) (suc i) h = get_some xs i (omega arith)

get_taken : {A : Type 0} (xs : List A) (n i : ℕ) (x : A) → slice_get (take n xs) i ≡ Some x → slice_get xs i ≡ Some x
get_taken [] zero i x e = e
get_taken [] (suc n) i x e = e
get_taken (a ∷ xs) zero i x e = absurd (none_some e)
get_taken (a ∷ xs) (suc n) zero x e = e
get_taken (a ∷ xs) (suc n) (suc i) x e = get_taken xs n i x e

length_left : {A : Type 0} (xs ys : List A) → length xs ≤ length (xs ++ ys)
length_left [] ys = omega arith
length_left (a ∷ xs) ys = let h = length_left xs ys in omega arith

taken_low : {A : Type 0} (xs : List A) (n : ℕ) → length (take n xs) ≤ length xs
taken_low [] zero = omega arith
taken_low [] (suc n) = omega arith
taken_low (a ∷ xs) zero = omega arith
taken_low (a ∷ xs) (suc n) = let h = taken_low xs n in omega arith

-- ---- growing

pub grown_same : (old new : List ClType) → new ≡ old → IsGrown old new
grown_same old new e = ([], e ∙ sym (append-nil old))

pub grown_twice : (old mid new : List ClType) → IsGrown old mid → IsGrown mid new → IsGrown old new
grown_twice old mid new g h = (g.0 ++ h.0, h.1 ∙ ap (λ z. z ++ h.0) g.1 ∙ append_assoc old g.0 h.0)

pub grown_known : (old new : List ClType) (t : TypeId) → IsGrown old new → IsKnown old t → IsKnown new t
grown_known old new t g k =
    let l = length_left old g.0 in
    let e = ap length g.1 in
    omega (arith, l, e, k)

pub grown_get : (old new : List ClType) (i : ℕ) → IsGrown old new → i < length old → slice_get new i ≡ slice_get old i
grown_get old new i g h = ap (λ z. slice_get z i) g.1 ∙ get_left old g.0 i h

pub adds_grown : (old new : List ClType) → Adds old new → IsGrown old new
adds_grown old new g = (g.0, g.1)

pub adds_same : (old new : List ClType) → new ≡ old → Adds old new
adds_same old new e = ([], e ∙ sym (append-nil old), All-nil IsSimple)

pub adds_twice : (old mid new : List ClType) → Adds old mid → Adds mid new → Adds old new
adds_twice old mid new g h = (g.0 ++ h.0, h.1 ∙ ap (λ z. z ++ h.0) g.1 ∙ append_assoc old g.0 h.0, All-append IsSimple g.0 h.0 g.2 h.2)

interned_adds : (old new : List ClType) (c : ClType) (t : ℕ) → IsSimple c → Interned old new c t → Adds old new
interned_adds old new c t s (there e f) = adds_same old new e
interned_adds old new c t s (put e f a) = (c ∷ [], e, All-cons IsSimple c [] s (All-nil IsSimple))

interned_get : (old new : List ClType) (c : ClType) (t : ℕ) → Interned old new c t → slice_get new t ≡ Some c
interned_get old new c t (there e f) = ap (λ z. slice_get z t) e ∙ f
interned_get old new c t (put e f a) = ap (λ z. slice_get z t) e ∙ ap (slice_get (old ++ c ∷ [])) f ∙ get_last old c

-- ---- the types of which a type is made stand before it

-- the numbers that a type names are in the table
abbrev Names : List ClType → ClType → Type 0
Names cs (ty.Vector elem n) = elem.0 < length cs
Names cs (ty.Pointer space to readonly restricted) = to.0 < length cs
Names cs _ = Unit {0}

built_names : (cs : List ClType) (i : ℕ) (c : ClType) → IsBuilt (take i cs) c → Names cs c
built_names cs i ty.Void b = tt
built_names cs i ty.Bool b = tt
built_names cs i (ty.Int bits signed) b = tt
built_names cs i (ty.Vector elem n) b = let l = integer_low (take i cs) elem.0 b.0 in let h = taken_low cs i in omega (arith, l, h)
built_names cs i (ty.Array elem n) b = tt
built_names cs i (ty.Struct name members) b = tt
built_names cs i (ty.Pointer space to readonly restricted) b = let h = taken_low cs i in omega (arith, b, h)

names_at : (cs : List ClType) (i : ℕ) (c : ClType) → AreBuilt [] cs → slice_get cs i ≡ Some c → Names cs c
names_at cs i c b e = built_names cs i c (built_at cs i c b e)

pub vector_low : (cs : List ClType) (i : ℕ) (elem : TypeId) (n : ℕ) → AreBuilt [] cs → slice_get cs i ≡ Some (ty.Vector elem n) → elem.0 < length cs
vector_low cs i elem n b e = names_at cs i (ty.Vector elem n) b e

pub pointer_low : (cs : List ClType) (i : ℕ) (space : Space) (to : TypeId) (readonly restricted : Bool) → AreBuilt [] cs → slice_get cs i ≡ Some (ty.Pointer space to readonly restricted) → to.0 < length cs
pointer_low cs i space to readonly restricted b e = names_at cs i (ty.Pointer space to readonly restricted) b e

-- ---- what types are stays

kind_stays : (old new : List ClType) (t : TypeId) (c : ClType) → IsGrown old new → Names old c → kind_in new t (Some c) ≡ kind_in old t (Some c)
kind_stays old new t ty.Void g h = refl
kind_stays old new t ty.Bool g h = refl
kind_stays old new t (ty.Int bits signed) g h = refl
kind_stays old new t (ty.Vector elem n) g h = ap (λ o. vector_in t n (integer_in o)) (grown_get old new elem.0 g h)
kind_stays old new t (ty.Array elem n) g h = refl
kind_stays old new t (ty.Struct name members) g h = refl
kind_stays old new t (ty.Pointer space to readonly restricted) g h = ap (λ o. pointer_in t space readonly (integer_in o)) (grown_get old new to.0 g h)

pub kind_kept : (old new : List ClType) → AreBuilt [] old → IsGrown old new → (t : TypeId) → IsKnown old t → kind_of new t ≡ kind_of old t
kind_kept old new b g t k =
    let c = get_some old t.0 k in
    ap (kind_in new t) (grown_get old new t.0 g k ∙ c.1) ∙ kind_stays old new t c.0 g (names_at old t.0 c.0 b c.1) ∙ ap (kind_in old t) (sym c.1)

pub keeps_adds : (old new : List ClType) → AreBuilt [] old → Adds old new → Keeps old new
keeps_adds old new b g = record { adds = g; kinds = kind_kept old new b (adds_grown old new g) }

pub keeps_same : (old new : List ClType) → new ≡ old → Keeps old new
keeps_same old new e = record { adds = adds_same old new e; kinds = λ t k. ap (λ z. kind_of z t) e }

pub keeps_itself : (cs : List ClType) → Keeps cs cs
keeps_itself cs = keeps_same cs cs refl

pub keeps_twice : (old mid new : List ClType) → Keeps old mid → Keeps mid new → Keeps old new
keeps_twice old mid new g h = record {
  adds = adds_twice old mid new g.adds h.adds;
  kinds = λ t k. h.kinds t (grown_known old mid t (adds_grown old mid g.adds) k) ∙ g.kinds t k;
}

-- ---- the number of a type

-- what `intern` of a table says
pub interned_at : (old new : List ClType) (c : ClType) (r : Result TypeId TypeStop) → IfOk r (λ t. Interned old new c t.0) → IfOk r (IsAt new c)
interned_at old new c (Ok t) h = interned_get old new c t.0 h
interned_at old new c (Err s) h = h

pub interned_kept : (old new : List ClType) (c : ClType) (r : Result TypeId TypeStop) → AreBuilt [] old → IsSimple c → IfOk r (λ t. Interned old new c t.0) → OnErr r (new ≡ old) → Keeps old new
interned_kept old new c (Ok t) b p h e = keeps_adds old new b (interned_adds old new c t.0 p h)
interned_kept old new c (Err s) b p h e = keeps_same old new e

pub at_known : (cs : List ClType) (c : ClType) (t : TypeId) → IsAt cs c t → IsKnown cs t
at_known cs c t e = slice_get_within cs t.0 c e

at_kind : (cs : List ClType) (c : ClType) (t : TypeId) (k : Kind) → IsAt cs c t → kind_in cs t (Some c) ≡ k → HasKind cs k t
at_kind cs c t k e f = record { known = at_known cs c t e; is = ap (kind_in cs t) e ∙ f }

pub void_kind : (cs : List ClType) (t : TypeId) → IsAt cs ty.Void t → HasKind cs kind.Void t
void_kind cs t e = at_kind cs ty.Void t kind.Void e refl

pub bool_kind : (cs : List ClType) (t : TypeId) → IsAt cs ty.Bool t → HasKind cs kind.Bool t
bool_kind cs t e = at_kind cs ty.Bool t kind.Bool e refl

pub scalar_kind : (cs : List ClType) (g : Gentype) (t : TypeId) → g.count ≡ 1 → IsAt cs (ty.Int g.bits g.signed) t → HasKind cs (kind.Integers g) t
scalar_kind cs g t n e = at_kind cs (ty.Int g.bits g.signed) t (kind.Integers g) e (λ i. kind.Integers (record { bits = g.bits; signed = g.signed; count = sym n i }))

pub vector_kind : (mid new : List ClType) (g : Gentype) (elem t : TypeId) → IsAt mid (ty.Int g.bits g.signed) elem → Keeps mid new → IsAt new (ty.Vector elem g.count) t → HasKind new (kind.Integers g) t
vector_kind mid new g elem t e k f =
    at_kind new (ty.Vector elem g.count) t (kind.Integers g) f (ap (λ o. vector_in t g.count (integer_in o)) (grown_get mid new elem.0 (adds_grown mid new k.adds) (at_known mid (ty.Int g.bits g.signed) elem e) ∙ e))

pub has_kind_kept : (old new : List ClType) (k : Kind) (t : TypeId) → Keeps old new → HasKind old k t → HasKind new k t
has_kind_kept old new k t g h = record { known = grown_known old new t (adds_grown old new g.adds) h.known; is = g.kinds t h.known ∙ h.is }

-- ---- types that a table can have

width_of : (t : Gentype) → is_gentype t ≡ true → is_width t.bits ≡ true
width_of t h = first_so (is_width t.bits) (nat_eq t.count 1 || is_count t.count) h

or_second : (a b : Bool) → (a || b) ≡ true → a ≡ false → b ≡ true
or_second true b h n = absurd (true≢false n)
or_second false b h n = h

count_of : (t : Gentype) → is_gentype t ≡ true → nat_eq t.count 1 ≡ false → is_count t.count ≡ true
count_of t h n = or_second (nat_eq t.count 1) (is_count t.count) (second_so (is_width t.bits) (nat_eq t.count 1 || is_count t.count) h) n

pub scalar_built : (cs : List ClType) (t : Gentype) → IsOfTable cs (kind.Integers t) → IsBuilt cs (ty.Int t.bits t.signed)
scalar_built cs t h = width_of t h

pub vector_built : (old mid : List ClType) (t : Gentype) (elem : TypeId) → IsOfTable old (kind.Integers t) → nat_eq t.count 1 ≡ false → IsAt mid (ty.Int t.bits t.signed) elem → IsBuilt mid (ty.Vector elem t.count)
vector_built old mid t elem h n e = (ap is_integer e, count_of t h n)

pub of_table_kept : (old new : List ClType) (k : Kind) → Keeps old new → IsOfTable old k → IsOfTable new k
of_table_kept old new kind.Void g h = tt
of_table_kept old new kind.Bool g h = tt
of_table_kept old new (kind.Integers t) g h = h
of_table_kept old new (kind.Pointer own space readonly to) g h = (has_kind_kept old new (kind.Pointer own space readonly to) own g h.0, h.1)
of_table_kept old new (kind.Other own) g h = has_kind_kept old new (kind.Other own) own g h

-- an integer in the table has a width
integer_width : (cs : List ClType) (i : ℕ) (t : Gentype) → AreBuilt [] cs → integer_in (slice_get cs i) ≡ Some t → (is_width t.bits ≡ true) × (t.count ≡ 1)
integer_width cs i t b e = by (slice_get cs i) refl e
  where
    by : (o : Option ClType) → slice_get cs i ≡ o → integer_in o ≡ Some t → (is_width t.bits ≡ true) × (t.count ≡ 1)
    by None f e = absurd (none_some e)
    by (Some ty.Void) f e = absurd (none_some e)
    by (Some ty.Bool) f e = absurd (none_some e)
    by (Some (ty.Int bits signed)) f e =
        let g : Gentype = record { bits = bits; signed = signed; count = 1 } in
        let r : g ≡ t = some_same g t e in
        (ap (λ z. is_width z.bits) (sym r) ∙ built_at cs i (ty.Int bits signed) b f, ap (λ z. z.count) (sym r))
    by (Some (ty.Vector elem n)) f e = absurd (none_some e)
    by (Some (ty.Array elem n)) f e = absurd (none_some e)
    by (Some (ty.Struct name members)) f e = absurd (none_some e)
    by (Some (ty.Pointer space to readonly restricted)) f e = absurd (none_some e)

true_or : (a b : Bool) → b ≡ true → (a || b) ≡ true
true_or true b h = refl
true_or false b h = h

both : (a b : Bool) → a ≡ true → b ≡ true → (a && b) ≡ true
both a b h g = (λ i. h i && g i)

integer_fine : (cs : List ClType) (i : ℕ) (t : Gentype) → AreBuilt [] cs → integer_in (slice_get cs i) ≡ Some t → is_gentype t ≡ true
integer_fine cs i t b e =
    let w = integer_width cs i t b e in
    let one : nat_eq t.count 1 ≡ true = ap (λ n. nat_eq n 1) w.1 in
    both (is_width t.bits) (nat_eq t.count 1 || is_count t.count) w.0 (ap (λ z. z || is_count t.count) one)

-- what is found in a table is a type that it can have
module _ (cs : List ClType) (b : AreBuilt [] cs) (t : TypeId) (k : IsKnown cs t) where
  own_kind : (c : ClType) → slice_get cs t.0 ≡ Some c → kind_of cs t ≡ kind_in cs t (Some c)
  own_kind c e = ap (kind_in cs t) e

  vector_of_table : (n : ℕ) (o : Option Gentype) → is_count n ≡ true → ((g : Gentype) → o ≡ Some g → is_width g.bits ≡ true) → kind_of cs t ≡ vector_in t n o → IsOfTable cs (vector_in t n o)
  vector_of_table n (Some g) c w e = both (is_width g.bits) (nat_eq n 1 || is_count n) (w g refl) (true_or (nat_eq n 1) (is_count n) c)
  vector_of_table n None c w e = record { known = k; is = e }

  pointer_of_table : (space : Space) (readonly : Bool) (o : Option Gentype) → ((g : Gentype) → o ≡ Some g → is_gentype g ≡ true) → kind_of cs t ≡ pointer_in t space readonly o → IsOfTable cs (pointer_in t space readonly o)
  pointer_of_table space readonly (Some g) w e = (record { known = k; is = e }, w g refl)
  pointer_of_table space readonly None w e = record { known = k; is = e }

  by_type : (c : ClType) → slice_get cs t.0 ≡ Some c → IsOfTable cs (kind_in cs t (Some c))
  by_type ty.Void e = tt
  by_type ty.Bool e = tt
  by_type (ty.Int bits signed) e = both (is_width bits) true (built_at cs t.0 (ty.Int bits signed) b e) refl
  by_type (ty.Vector elem n) e =
      vector_of_table n (integer_in (slice_get cs elem.0)) (built_at cs t.0 (ty.Vector elem n) b e).1 (λ g f. (integer_width cs elem.0 g b f).0) (own_kind (ty.Vector elem n) e)
  by_type (ty.Array elem n) e = record { known = k; is = own_kind (ty.Array elem n) e }
  by_type (ty.Struct name members) e = record { known = k; is = own_kind (ty.Struct name members) e }
  by_type (ty.Pointer space to readonly restricted) e = pointer_of_table space readonly (integer_in (slice_get cs to.0)) (λ g f. integer_fine cs to.0 g b f) (own_kind (ty.Pointer space to readonly restricted) e)

  pub known_of_table : IsOfTable cs (kind_of cs t)
  known_of_table = let c = get_some cs t.0 k in subst (λ o. IsOfTable cs (kind_in cs t o)) (sym c.1) (by_type c.0 c.1)

pub kinds_of_table : (cs : List ClType) (ts : List TypeId) → AreBuilt [] cs → AreKnown cs ts → EachOfTable cs (map (kind_of cs) ts)
kinds_of_table cs [] b h = tt
kinds_of_table cs (t ∷ ts) b h = (known_of_table cs b t (h 0 t (omega arith)), kinds_of_table cs ts b (λ j d l. h (suc j) d (omega arith)))

-- ---- lists of types

pub each_at : (cs : List ClType) (ks : List Kind) (i : ℕ) (d : Kind) → EachOfTable cs ks → i < length ks → IsOfTable cs (get_or ks i d)
each_at cs [] i d h l = absurd (omega arith)
each_at cs (x ∷ ks) zero d h l = h.0
each_at cs (x ∷ ks) (suc i) d h l = each_at cs ks i d h.1 (omega arith)

pub zip_kept : (old new : List ClType) (ks : List Kind) (ts : List TypeId) → Keeps old new → AllZip (HasKind old) ks ts → AllZip (HasKind new) ks ts
zip_kept old new [] [] g h = h
zip_kept old new [] (t ∷ ts) g h = absurd h
zip_kept old new (k ∷ ks) [] g h = absurd h
zip_kept old new (k ∷ ks) (t ∷ ts) g h = (has_kind_kept old new k t g h.0, zip_kept old new ks ts g h.1)

pub zip_push : (cs : List ClType) (ks : List Kind) (ts : List TypeId) (k : Kind) (t : TypeId) → AllZip (HasKind cs) ks ts → HasKind cs k t → AllZip (HasKind cs) (ks ++ k ∷ []) (ts ++ t ∷ [])
zip_push cs [] [] k t h e = (e, tt)
zip_push cs [] (u ∷ ts) k t h e = absurd h
zip_push cs (l ∷ ks) [] k t h e = absurd h
zip_push cs (l ∷ ks) (u ∷ ts) k t h e = (h.0, zip_push cs ks ts k t h.1 e)

-- the types that a loop over these kinds has found so far
pub record Answered (old now : List ClType) (ks : List Kind) (ts : List TypeId) : Type 0 where
  pub kept : Keeps old now
  pub found : AllZip (HasKind now) ks ts

pub answered_start : (cs : List ClType) → Answered cs cs [] []
answered_start cs = record { kept = keeps_itself cs; found = tt }

pub answered_more : (old now new : List ClType) (ks all : List Kind) (ts : List TypeId) (k : Kind) (t : TypeId) → Answered old now ks ts → Keeps now new → HasKind new k t → all ≡ ks ++ k ∷ [] → Answered old new all (ts ++ t ∷ [])
answered_more old now new ks all ts k t a g h e = record {
  kept = keeps_twice old now new a.kept g;
  found = subst (λ z. AllZip (HasKind new) z (ts ++ t ∷ [])) (sym e) (zip_push new ks ts k t (zip_kept now new ks ts g a.found) h);
}
