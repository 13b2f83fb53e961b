-- The types of a table, their trees and their rows.
use Rattle.std.proofs.Common.{◌≡◌, ℕ, zero, suc, ◌+◌, ◌*◌, ◌<◌, ◌≤◌, ◌^◌, ◌⊎◌, inl, inr, List, [], ◌∷◌, ◌++◌, length, take, drop, refl, sym, ap, ◌∙◌, subst, arith, append_assoc, Bool, true, false, cond, Some, None, Option, slice_get, get_or, position, true≢false}
use Rattle.std.specs.Prelude.{is_some, max}
use Rattle.std.specs.Map.{keys_of, lookup}
use Rattle.std.proofs.lemmas.List.{append-nil}
use Rattle.std.proofs.lemmas.List.Quantifiers.{position-Some}
use Rattle.std.proofs.lemmas.Option.{slice_get-get_or, slice_get_within}
use Rattle.std.proofs.lemmas.Bool.{cases_lt}
use Rattle.cl_types.specs.declared.types.ClType.{ClType}
use Rattle.cl_types.specs.declared.types.ClType.TheVariants as ty
use Rattle.cl_types.specs.declared.types.Member.{Member}
use Rattle.cl_types.specs.declared.types.TypeId.{TypeId}
use Rattle.cl_types.specs.declared.table.Row.{Row}
use Rattle.cl_types.specs.Equal.{type_same, type_own}
use Rattle.cl_types.specs.Same.{type_eq}
use Rattle.cl_types.specs.Layout.{TypeTree, Void, Scalar, Vector, Array, Struct, TypeTrees, none, more, up, align_of, aligns_of, size_of, end_of, depth_of, depths_of, offset_in, is_width, IsScalar, IsSound, AreSound}
use Rattle.cl_types.specs.Laws.{TypesAreSound}
use Rattle.cl_types.specs.Rows.{IsRow, Fit, AreRows, offsets_in}
use Rattle.cl_types.specs.Table.{tree_at, trees_at, tree_from, trees_after, trees, tree_of, is_sized, is_integer, AreSized, IsBuilt, AreBuilt, IsWithin, IsTable, Interned}

-- ---- lists

none_some : {A : Type 0} {x : A} → None ≡ Some x → ⊥
none_some e = true≢false (sym (ap is_some e))

get_left : {A : Type 0} (xs ys : List A) (i : ℕ) (x : A) → slice_get xs i ≡ Some x → slice_get (xs ++ ys) i ≡ Some x
get_left [] ys i x e = absurd (none_some e)
get_left (a ∷ xs) ys zero x e = e
get_left (a ∷ xs) ys (suc i) x e = get_left xs ys i x e

get_last : {A : Type 0} (xs : List A) (x : A) → slice_get (xs ++ x ∷ []) (length xs) ≡ Some x
get_last [] x = refl
get_last (a ∷ xs) x = get_last xs x

get_more : {A : Type 0} (xs : List A) (y : A) (i : ℕ) (x : A) → slice_get (xs ++ y ∷ []) i ≡ Some x → (slice_get xs i ≡ Some x) ⊎ ((i ≡ length xs) × (y ≡ x))
get_more [] y zero x e = inr (refl, (let f : Some y ≡ Some x = e in cc))
get_more [] y (suc i) x e = absurd (none_some e)
get_more (a ∷ xs) y zero x e = inl e
get_more (a ∷ xs) y (suc i) x e = elim (get_more xs y i x e) [ inl f ↦ inl f | inr f ↦ inr (ap suc f.0, f.1) ]

get_taken : {A : Type 0} (xs : List A) (n i : ℕ) (x : A) → slice_get (take n xs) i ≡ Some x → slice_get xs i ≡ Some x
get_taken [] zero i x e = e
get_taken [] (suc n) i x e = e
get_taken (a ∷ xs) zero i x e = absurd (none_some e)
get_taken (a ∷ xs) (suc n) zero x e = e
get_taken (a ∷ xs) (suc n) (suc i) x e = get_taken xs n i x e

get_some : {A : Type 0} (xs : List A) (i : ℕ) → i < length xs → (x : A) × (slice_get xs i ≡ Some x)
get_some [] i h = absurd (omega arith)
get_some (a ∷ xs) zero h = (a, refl)
get_some (a ∷ xs) (suc i) h = get_some xs i (omega arith)

length_more : {A : Type 0} (xs : List A) (x : A) → length (xs ++ x ∷ []) ≡ suc (length xs)
length_more [] x = refl
length_more (a ∷ xs) x = ap suc (length_more xs x)

taken_low : {A : Type 0} (xs : List A) (n : ℕ) → length (take n xs) ≤ n
taken_low [] zero = omega arith
taken_low [] (suc n) = omega arith
taken_low (a ∷ xs) zero = omega arith
taken_low (a ∷ xs) (suc n) = let h = taken_low xs n in omega arith

-- ---- what is there

pub sized_some : (o : Option ClType) → is_sized o ≡ true → (c : ClType) × (o ≡ Some c)
sized_some None h = absurd (true≢false (sym h))
sized_some (Some c) h = (c, refl)

pub sized_low : (cs : List ClType) (i : ℕ) → is_sized (slice_get cs i) ≡ true → i < length cs
sized_low cs i h = let s = sized_some (slice_get cs i) h in slice_get_within cs i s.0 s.1

integer_sized : (o : Option ClType) → is_integer o ≡ true → is_sized o ≡ true
integer_sized None h = absurd (true≢false (sym h))
integer_sized (Some ty.Void) h = absurd (true≢false (sym h))
integer_sized (Some ty.Bool) h = refl
integer_sized (Some (ty.Int b s)) h = refl
integer_sized (Some (ty.Vector e n)) h = refl
integer_sized (Some (ty.Array e n)) h = refl
integer_sized (Some (ty.Struct n m)) h = refl
integer_sized (Some (ty.Pointer s t r q)) h = refl

pub integer_low : (cs : List ClType) (i : ℕ) → is_integer (slice_get cs i) ≡ true → i < length cs
integer_low cs i h = sized_low cs i (integer_sized (slice_get cs i) h)

-- ---- trees

pub tree_left : (ts us : List TypeTree) (i : ℕ) → i < length ts → tree_at (ts ++ us) i ≡ tree_at ts i
tree_left [] us i h = absurd (omega arith)
tree_left (a ∷ ts) us zero h = refl
tree_left (a ∷ ts) us (suc i) h = tree_left ts us i (omega arith)

pub tree_last : (ts : List TypeTree) (t : TypeTree) → tree_at (ts ++ t ∷ []) (length ts) ≡ t
tree_last [] t = refl
tree_last (a ∷ ts) t = tree_last ts t

after_more : (ts : List TypeTree) (cs : List ClType) (c : ClType) → trees_after ts (cs ++ c ∷ []) ≡ trees_after ts cs ++ tree_from (trees_after ts cs) c ∷ []
after_more ts [] c = refl
after_more ts (d ∷ cs) c = after_more (ts ++ tree_from ts d ∷ []) cs c

-- one more type behind, and the earlier ones as they were
pub trees_more : (cs : List ClType) (c : ClType) → trees (cs ++ c ∷ []) ≡ trees cs ++ tree_from (trees cs) c ∷ []
trees_more cs c = after_more [] cs c

after_length : (ts : List TypeTree) (cs : List ClType) → length (trees_after ts cs) ≡ length ts + length cs
after_length ts [] = omega arith
after_length ts (c ∷ cs) = let h = after_length (ts ++ tree_from ts c ∷ []) cs in let l = length_more ts (tree_from ts c) in omega arith

pub trees_length : (cs : List ClType) → length (trees cs) ≡ length cs
trees_length cs = let h = after_length [] cs in omega arith

after_keeps : (ts : List TypeTree) (cs : List ClType) (i : ℕ) → i < length ts → tree_at (trees_after ts cs) i ≡ tree_at ts i
after_keeps ts [] i h = refl
after_keeps ts (c ∷ cs) i h =
    let l = length_more ts (tree_from ts c) in
    after_keeps (ts ++ tree_from ts c ∷ []) cs i (omega arith) ∙ tree_left ts (tree_from ts c ∷ []) i h

-- a type's tree hangs only on the trees of the types before it
trees_keep : (ts us : List TypeTree) (bs : List ClType) (ms : List Member) → ((i : ℕ) → i < length bs → tree_at us i ≡ tree_at ts i) → AreSized bs ms → trees_at us ms ≡ trees_at ts ms
trees_keep ts us bs [] h b = refl
trees_keep ts us bs (m ∷ ms) h b =
    let e = h m.ty.0 (sized_low bs m.ty.0 b.0) in
    let f = trees_keep ts us bs ms h b.1 in
    (λ i. more (e i) (f i))

from_keeps : (ts us : List TypeTree) (bs : List ClType) (c : ClType) → ((i : ℕ) → i < length bs → tree_at us i ≡ tree_at ts i) → IsBuilt bs c → tree_from us c ≡ tree_from ts c
from_keeps ts us bs ty.Void h b = refl
from_keeps ts us bs ty.Bool h b = refl
from_keeps ts us bs (ty.Int bits signed) h b = refl
from_keeps ts us bs (ty.Vector elem n) h b = ap (λ t. Vector t n) (h elem.0 (integer_low bs elem.0 b.0))
from_keeps ts us bs (ty.Array elem n) h b = ap (λ t. Array t n) (h elem.0 (sized_low bs elem.0 b.0))
from_keeps ts us bs (ty.Struct name ms) h b = ap Struct (trees_keep ts us bs ms h b.0)
from_keeps ts us bs (ty.Pointer space to readonly restricted) h b = refl

found_after : (ts : List TypeTree) (bs cs : List ClType) (i : ℕ) (c : ClType) → length ts ≡ length bs → AreBuilt bs cs → slice_get cs i ≡ Some c → tree_at (trees_after ts cs) (length ts + i) ≡ tree_from (trees_after ts cs) c
found_after ts bs [] i c l b e = absurd (none_some e)
found_after ts bs (d ∷ cs) zero c l b e =
    let same : d ≡ c = (let f : Some d ≡ Some c = e in cc) in
    let us = ts ++ tree_from ts d ∷ [] in
    let m = length_more ts (tree_from ts d) in
    let z : length ts + 0 ≡ length ts = omega arith in
    let low : length ts < length us = omega arith in
    let here : tree_at (trees_after us cs) (length ts) ≡ tree_from ts d = after_keeps us cs (length ts) low ∙ tree_last ts (tree_from ts d) in
    let there : tree_from (trees_after us cs) d ≡ tree_from ts d = from_keeps ts (trees_after us cs) bs d (λ k h. let low2 : k < length ts = omega arith in let low3 : k < length us = omega arith in after_keeps us cs k low3 ∙ tree_left ts (tree_from ts d ∷ []) k low2) b.0 in
    ap (tree_at (trees_after us cs)) z ∙ here ∙ sym there ∙ ap (tree_from (trees_after us cs)) same
found_after ts bs (d ∷ cs) (suc i) c l b e =
    let us = ts ++ tree_from ts d ∷ [] in
    let m = length_more ts (tree_from ts d) in
    let n = length_more bs d in
    let z : length ts + suc i ≡ length us + i = omega arith in
    ap (tree_at (trees_after us cs)) z ∙ found_after us (bs ++ d ∷ []) cs i c (omega arith) b.1 e

-- the tree of a table's type is made from those of the types that it names
pub tree_found : (cs : List ClType) (i : ℕ) (c : ClType) → AreBuilt [] cs → slice_get cs i ≡ Some c → tree_of cs i ≡ tree_from (trees cs) c
tree_found cs i c b e =
    let h = found_after [] [] cs i c refl b e in
    let z : 0 + i ≡ i = omega arith in
    ap (tree_at (trees cs)) (sym z) ∙ h

-- ---- earlier types

built_after : (bs cs : List ClType) (i : ℕ) (c : ClType) → AreBuilt bs cs → slice_get cs i ≡ Some c → IsBuilt (bs ++ take i cs) c
built_after bs [] i c b e = absurd (none_some e)
built_after bs (d ∷ cs) zero c b e =
    let same : d ≡ c = (let f : Some d ≡ Some c = e in cc) in
    subst (λ z. IsBuilt z c) (sym (append-nil bs)) (subst (IsBuilt bs) same b.0)
built_after bs (d ∷ cs) (suc i) c b e = subst (λ z. IsBuilt z c) (append_assoc bs (d ∷ []) (take i cs)) (built_after (bs ++ d ∷ []) cs i c b.1 e)

pub built_at : (cs : List ClType) (i : ℕ) (c : ClType) → AreBuilt [] cs → slice_get cs i ≡ Some c → IsBuilt (take i cs) c
built_at cs i c b e = built_after [] cs i c b e

pub record IsEarlier (cs : List ClType) (i j : ℕ) : Type 0 where
  pub earlier : j < i
  pub sized : is_sized (slice_get cs j) ≡ true

sized_earlier : (cs : List ClType) (i j : ℕ) → is_sized (slice_get (take i cs) j) ≡ true → IsEarlier cs i j
sized_earlier cs i j h =
    let s = sized_some (slice_get (take i cs) j) h in
    let l = sized_low (take i cs) j h in
    let t = taken_low cs i in
    record { earlier = omega arith; sized = ap is_sized (get_taken cs i j s.0 s.1) ∙ ap is_sized (sym s.1) ∙ h }

pub vector_earlier : (cs : List ClType) (i : ℕ) (elem : TypeId) (n : ℕ) → AreBuilt [] cs → slice_get cs i ≡ Some (ty.Vector elem n) → IsEarlier cs i elem.0
vector_earlier cs i elem n b e = let h = built_at cs i (ty.Vector elem n) b e in sized_earlier cs i elem.0 (integer_sized (slice_get (take i cs) elem.0) h.0)

pub array_earlier : (cs : List ClType) (i : ℕ) (elem : TypeId) (n : ℕ) → AreBuilt [] cs → slice_get cs i ≡ Some (ty.Array elem n) → IsEarlier cs i elem.0
array_earlier cs i elem n b e = let h = built_at cs i (ty.Array elem n) b e in sized_earlier cs i elem.0 h.0

abbrev pub AreEarlier : List ClType → ℕ → List Member → Type 0
AreEarlier cs i [] = Unit {0}
AreEarlier cs i (m ∷ ms) = IsEarlier cs i m.ty.0 × AreEarlier cs i ms

pub members_earlier : (cs : List ClType) (i : ℕ) (name : List ℕ) (ms : List Member) → AreBuilt [] cs → slice_get cs i ≡ Some (ty.Struct name ms) → AreEarlier cs i ms
members_earlier cs i name ms b e = go ms (built_at cs i (ty.Struct name ms) b e).0
  where
    go : (ms : List Member) → AreSized (take i cs) ms → AreEarlier cs i ms
    go [] h = tt
    go (m ∷ ms) h = (sized_earlier cs i m.ty.0 h.0, go ms h.1)

-- ---- the trees of a table are sound

abbrev AllSound : List ClType → List TypeTree → Type 0
AllSound [] [] = Unit {0}
AllSound (c ∷ cs) (t ∷ ts) = IsSound t × (is_integer (Some c) ≡ true → IsScalar t) × AllSound cs ts
AllSound [] (t ∷ ts) = ⊥
AllSound (c ∷ cs) [] = ⊥

sound_at : (cs : List ClType) (ts : List TypeTree) (i : ℕ) → AllSound cs ts → i < length cs → IsSound (tree_at ts i)
sound_at [] ts i h l = absurd (omega arith)
sound_at (c ∷ cs) [] i h l = absurd h
sound_at (c ∷ cs) (t ∷ ts) zero h l = h.0
sound_at (c ∷ cs) (t ∷ ts) (suc i) h l = sound_at cs ts i h.2 (omega arith)

scalar_at : (cs : List ClType) (ts : List TypeTree) (i : ℕ) → AllSound cs ts → is_integer (slice_get cs i) ≡ true → IsScalar (tree_at ts i)
scalar_at [] ts i h e = absurd (true≢false (sym e))
scalar_at (c ∷ cs) [] i h e = absurd h
scalar_at (c ∷ cs) (t ∷ ts) zero h e = h.1 e
scalar_at (c ∷ cs) (t ∷ ts) (suc i) h e = scalar_at cs ts i h.2 e

all_sound : (cs : List ClType) (ts : List TypeTree) (ms : List Member) → AllSound cs ts → AreSized cs ms → AreSound (trees_at ts ms)
all_sound cs ts [] h b = tt
all_sound cs ts (m ∷ ms) h b = (sound_at cs ts m.ty.0 h (sized_low cs m.ty.0 b.0), all_sound cs ts ms h b.1)

from_sound : (cs : List ClType) (ts : List TypeTree) (c : ClType) → AllSound cs ts → IsBuilt cs c → IsSound (tree_from ts c)
from_sound cs ts ty.Void h b = tt
from_sound cs ts ty.Bool h b = refl
from_sound cs ts (ty.Int bits signed) h b = b
from_sound cs ts (ty.Vector elem n) h b = (scalar_at cs ts elem.0 h b.0, b.1)
from_sound cs ts (ty.Array elem n) h b = sound_at cs ts elem.0 h (sized_low cs elem.0 b.0)
from_sound cs ts (ty.Struct name ms) h b = all_sound cs ts ms h b.0
from_sound cs ts (ty.Pointer space to readonly restricted) h b = refl

from_scalar : (cs : List ClType) (ts : List TypeTree) (c : ClType) → IsBuilt cs c → is_integer (Some c) ≡ true → IsScalar (tree_from ts c)
from_scalar cs ts ty.Void b e = absurd (true≢false (sym e))
from_scalar cs ts ty.Bool b e = absurd (true≢false (sym e))
from_scalar cs ts (ty.Int bits signed) b e = b
from_scalar cs ts (ty.Vector elem n) b e = absurd (true≢false (sym e))
from_scalar cs ts (ty.Array elem n) b e = absurd (true≢false (sym e))
from_scalar cs ts (ty.Struct name ms) b e = absurd (true≢false (sym e))
from_scalar cs ts (ty.Pointer space to readonly restricted) b e = absurd (true≢false (sym e))

sound_more : (cs : List ClType) (ts : List TypeTree) (c : ClType) (t : TypeTree) → AllSound cs ts → IsSound t → (is_integer (Some c) ≡ true → IsScalar t) → AllSound (cs ++ c ∷ []) (ts ++ t ∷ [])
sound_more [] [] c t h s i = (s, i, tt)
sound_more [] (u ∷ ts) c t h s i = absurd h
sound_more (d ∷ cs) [] c t h s i = absurd h
sound_more (d ∷ cs) (u ∷ ts) c t h s i = (h.0, h.1, sound_more cs ts c t h.2 s i)

sound_after : (ts : List TypeTree) (bs cs : List ClType) → AllSound bs ts → AreBuilt bs cs → AllSound (bs ++ cs) (trees_after ts cs)
sound_after ts bs [] h b = subst (λ z. AllSound z ts) (sym (append-nil bs)) h
sound_after ts bs (c ∷ cs) h b =
    let m = sound_more bs ts c (tree_from ts c) h (from_sound bs ts c h b.0) (from_scalar bs ts c b.0) in
    subst (λ z. AllSound z (trees_after (ts ++ tree_from ts c ∷ []) cs)) (append_assoc bs (c ∷ []) cs) (sound_after (ts ++ tree_from ts c ∷ []) (bs ++ c ∷ []) cs m b.1)

trees_sound : (cs : List ClType) → AreBuilt [] cs → AllSound cs (trees cs)
trees_sound cs b = sound_after [] [] cs tt b

pub types_are_sound : TypesAreSound
types_are_sound cs t h l = sound_at cs (trees cs) t (trees_sound cs h.built) l

pub next_sound : (cs : List ClType) (c : ClType) → AreBuilt [] cs → IsBuilt cs c → IsSound (tree_from (trees cs) c)
next_sound cs c b h = from_sound cs (trees cs) c (trees_sound cs b) h

pub members_sound : (cs : List ClType) (ms : List Member) → AreBuilt [] cs → AreSized cs ms → AreSound (trees_at (trees cs) ms)
members_sound cs ms b h = all_sound cs (trees cs) ms (trees_sound cs b) h

pub integer_scalar : (cs : List ClType) (i : ℕ) → AreBuilt [] cs → is_integer (slice_get cs i) ≡ true → IsScalar (tree_of cs i)
integer_scalar cs i b e = scalar_at cs (trees cs) i (trees_sound cs b) e

-- ---- rows

keys_more : (es : List (ClType × Row)) (e : ClType × Row) → keys_of (es ++ e ∷ []) ≡ keys_of es ++ e.0 ∷ []
keys_more [] e = refl
keys_more (d ∷ es) e = ap (λ z. d.0 ∷ z) (keys_more es e)

key_at : (es : List (ClType × Row)) (i : ℕ) (e : ClType × Row) → slice_get es i ≡ Some e → slice_get (keys_of es) i ≡ Some e.0
key_at [] i e h = absurd (none_some h)
key_at (d ∷ es) zero e h = let f : Some d ≡ Some e = h in let g : d ≡ e = cc in ap (λ z. Some z.0) g
key_at (d ∷ es) (suc i) e h = key_at es i e h

row_at : (es : List (ClType × Row)) (ts : List TypeTree) (i : ℕ) (e : ClType × Row) → Fit es ts → slice_get es i ≡ Some e → IsRow e.1 (tree_at ts i)
row_at [] ts i e f h = absurd (none_some h)
row_at (d ∷ es) [] i e f h = absurd f
row_at (d ∷ es) (t ∷ ts) zero e f h = let g : Some d ≡ Some e = h in let k : d ≡ e = cc in subst (λ z. IsRow z.1 t) k f.0
row_at (d ∷ es) (t ∷ ts) (suc i) e f h = row_at es ts i e f.1 h

fit_more : (es : List (ClType × Row)) (ts : List TypeTree) (e : ClType × Row) (t : TypeTree) → Fit es ts → IsRow e.1 t → Fit (es ++ e ∷ []) (ts ++ t ∷ [])
fit_more [] [] e t f h = (h, tt)
fit_more [] (u ∷ ts) e t f h = absurd f
fit_more (d ∷ es) [] e t f h = absurd f
fit_more (d ∷ es) (u ∷ ts) e t f h = (f.0, fit_more es ts e t f.1 h)

built_more : (bs cs : List ClType) (c : ClType) → AreBuilt bs cs → IsBuilt (bs ++ cs) c → AreBuilt bs (cs ++ c ∷ [])
built_more bs [] c b h = (subst (λ z. IsBuilt z c) (append-nil bs) h, tt)
built_more bs (d ∷ cs) c b h = (b.0, built_more (bs ++ d ∷ []) cs c b.1 (subst (λ z. IsBuilt z c) (sym (append_assoc bs (d ∷ []) cs)) h))

pub absent : (es : List (ClType × Row)) (c : ClType) (i : ℕ) → lookup (type_eq c) es ≡ None → slice_get (keys_of es) i ≡ Some c → ⊥
absent [] c i n e = none_some e
absent (d ∷ es) c zero n e =
    let same : c ≡ d.0 = (let f : Some d.0 ≡ Some c = e in cc) in
    let t : type_eq c d.0 ≡ true = subst (λ z. type_eq c z ≡ true) same (type_own c) in
    none_some (sym n ∙ ap (λ b. cond b (Some d.1) (lookup (type_eq c) es)) t)
absent (d ∷ es) c (suc i) n e = by (type_eq c d.0) refl (λ h. absent es c i h e)
  where
    by : (b : Bool) → type_eq c d.0 ≡ b → (lookup (type_eq c) es ≡ None → ⊥) → ⊥
    by true t f = none_some (sym n ∙ ap (λ b. cond b (Some d.1) (lookup (type_eq c) es)) t)
    by false t f = f (sym (ap (λ b. cond b (Some d.1) (lookup (type_eq c) es)) t) ∙ n)

pub absent_key : (es : List (ClType × Row)) (cs : List ClType) (c : ClType) → keys_of es ≡ cs → lookup (type_eq c) es ≡ None → (i : ℕ) → slice_get cs i ≡ Some c → ⊥
absent_key es cs c v n i e = absent es c i n (subst (λ z. slice_get z i ≡ Some c) (sym v) e)

no_value : {A : Type 0} (o : Option A) → false ≡ is_some o → o ≡ None
no_value None e = refl
no_value (Some x) e = absurd (true≢false (sym e))

pub not_there : (es : List (ClType × Row)) (cs : List ClType) (c : ClType) → keys_of es ≡ cs → false ≡ is_some (lookup (type_eq c) es) → (i : ℕ) → slice_get cs i ≡ Some c → ⊥
not_there es cs c v n = absent_key es cs c v (no_value (lookup (type_eq c) es) n)

lookup_none : (es : List (ClType × Row)) (c : ClType) → ((i : ℕ) → slice_get (keys_of es) i ≡ Some c → ⊥) → lookup (type_eq c) es ≡ None
lookup_none [] c a = refl
lookup_none (d ∷ es) c a = by (type_eq c d.0) refl (lookup_none es c (λ i e. a (suc i) e))
  where
    by : (b : Bool) → type_eq c d.0 ≡ b → lookup (type_eq c) es ≡ None → cond (type_eq c d.0) (Some d.1) (lookup (type_eq c) es) ≡ None
    by true t r = absurd (a 0 (ap Some (sym (type_same c d.0 t))))
    by false t r = ap (λ b. cond b (Some d.1) (lookup (type_eq c) es)) t ∙ r

pub new_key : (es : List (ClType × Row)) (cs : List ClType) (c : ClType) → keys_of es ≡ cs → ((i : ℕ) → slice_get cs i ≡ Some c → ⊥) → lookup (type_eq c) es ≡ None
new_key es cs c v a = lookup_none es c (λ i e. a i (subst (λ z. slice_get z i ≡ Some c) v e))

pub known : (cs : List ClType) (c : ClType) (i : ℕ) → Some i ≡ position (type_eq c) cs → slice_get cs i ≡ Some c
known cs c i p =
    let h = position-Some (type_eq c) cs i c (sym p) in
    slice_get-get_or cs i c h.0 ∙ ap Some (sym (type_same c (get_or cs i c) h.1))

within_more : (cs : List ClType) (c : ClType) → ((i : ℕ) → i < length cs → IsWithin (tree_of cs i)) → IsWithin (tree_from (trees cs) c) → (i : ℕ) → i < length (cs ++ c ∷ []) → IsWithin (tree_of (cs ++ c ∷ []) i)
within_more cs c h w i l =
    let m = length_more cs c in
    let n = trees_length cs in
    elim (cases_lt i (length cs)) [
      | inl low ↦ subst IsWithin (sym (ap (λ ts. tree_at ts i) (trees_more cs c) ∙ tree_left (trees cs) (tree_from (trees cs) c ∷ []) i (omega arith))) (h i low)
      | inr high ↦
          let z : i ≡ length (trees cs) = omega arith in
          subst IsWithin (sym (ap (λ ts. tree_at ts i) (trees_more cs c) ∙ ap (tree_at (trees cs ++ tree_from (trees cs) c ∷ [])) z ∙ tree_last (trees cs) (tree_from (trees cs) c))) w
    ]

distinct_more : (cs : List ClType) (c : ClType) → ((i j : ℕ) (d : ClType) → slice_get cs i ≡ Some d → slice_get cs j ≡ Some d → i ≡ j) → ((i : ℕ) → slice_get cs i ≡ Some c → ⊥) → (i j : ℕ) (d : ClType) → slice_get (cs ++ c ∷ []) i ≡ Some d → slice_get (cs ++ c ∷ []) j ≡ Some d → i ≡ j
distinct_more cs c h a i j d e f = elim (get_more cs c i d e) [
  | inl x ↦ elim (get_more cs c j d f) [
    | inl y ↦ h i j d x y
    | inr y ↦ absurd (a i (x ∙ ap Some (sym y.1)))
  ]
  | inr x ↦ elim (get_more cs c j d f) [
    | inl y ↦ absurd (a j (y ∙ ap Some (sym x.1)))
    | inr y ↦ x.0 ∙ sym y.0
  ]
]

pub table_more : (cs : List ClType) (c : ClType) → IsTable cs → length cs < 2 ^ 32 → IsBuilt cs c → IsWithin (tree_from (trees cs) c) → ((i : ℕ) → slice_get cs i ≡ Some c → ⊥) → IsTable (cs ++ c ∷ [])
table_more cs c t l b w a = record {
  few = (let m = length_more cs c in omega arith);
  built = built_more [] cs c t.built b;
  distinct = distinct_more cs c t.distinct a;
  within = within_more cs c t.within w;
}

pub rows_more : (old new : List (ClType × Row)) (cs : List ClType) (c : ClType) (r : Row) → new ≡ old ++ (c, r) ∷ [] → keys_of old ≡ cs → AreRows old → length cs < 2 ^ 32 → IsBuilt cs c → IsRow r (tree_from (trees cs) c) → ((i : ℕ) → slice_get cs i ≡ Some c → ⊥) → AreRows new
rows_more old new cs c r e v h l b w a =
    let k : keys_of (old ++ (c, r) ∷ []) ≡ cs ++ c ∷ [] = keys_more old (c, r) ∙ ap (λ z. z ++ c ∷ []) v in
    let t = subst IsTable v h.table in
    let within : IsWithin (tree_from (trees cs) c) = record { size = subst (λ z. z ≤ 65536) w.size w.small; depth = subst (λ z. z ≤ 16) w.depth w.shallow } in
    let f = fit_more old (trees cs) (c, r) (tree_from (trees cs) c) (subst (λ z. Fit old (trees z)) v h.fit) w in
    let more : AreRows (old ++ (c, r) ∷ []) = record {
      table = subst IsTable (sym k) (table_more cs c t l b within a);
      fit = subst (Fit (old ++ (c, r) ∷ [])) (sym (ap trees k ∙ trees_more cs c)) f;
    } in
    subst AreRows (sym e) more

pub now_more : (old new : List (ClType × Row)) (cs : List ClType) (c : ClType) (r : Row) → new ≡ old ++ (c, r) ∷ [] → keys_of old ≡ cs → keys_of new ≡ cs ++ c ∷ []
now_more old new cs c r e v = ap keys_of e ∙ keys_more old (c, r) ∙ ap (λ z. z ++ c ∷ []) v

-- an entry's type and row
pub entry_row : (es : List (ClType × Row)) (cs : List ClType) (i : ℕ) (c : ClType) (r : Row) → keys_of es ≡ cs → AreRows es → slice_get es i ≡ Some (c, r) → IsRow r (tree_of cs i)
entry_row es cs i c r v h e = subst (λ z. IsRow r (tree_of z i)) v (row_at es (trees (keys_of es)) i (c, r) h.fit e)

pub entry_type : (es : List (ClType × Row)) (cs : List ClType) (i : ℕ) (c : ClType) (r : Row) → keys_of es ≡ cs → slice_get es i ≡ Some (c, r) → slice_get cs i ≡ Some c
entry_type es cs i c r v e = subst (λ z. slice_get z i ≡ Some c) v (key_at es i (c, r) e)

pub entries_length : (es : List (ClType × Row)) (cs : List ClType) → keys_of es ≡ cs → length es ≡ length cs
entries_length es cs v = go es ∙ ap length v
  where
    go : (es : List (ClType × Row)) → length es ≡ length (keys_of es)
    go [] = refl
    go (e ∷ es) = ap suc (go es)
