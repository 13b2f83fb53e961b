-- The scalars that are put so far.
use Rattle.std.proofs.Common.{◌≡◌, ℕ, zero, suc, ◌+◌, ◌*◌, ◌/◌, ◌<◌, ◌≤◌, List, [], ◌∷◌, ◌++◌, length, drop, get_or, slice_get, refl, sym, ap, ◌∙◌, subst, arith, append_assoc, Some, None, Option, Result, OnOk, true, true≢false}
use Rattle.std.proofs.Math.Nat.{mul-le-mul_right, mul-pos}
use Rattle.clv_place.specs.declared.stop.NoMemory.{NoMemory}
use Rattle.std.proofs.lemmas.List.{append-nil}
use Rattle.cl_types.specs.declared.types.ClType.{ClType}
use Rattle.cl_types.specs.declared.types.ClType.TheVariants as ty
use Rattle.cl_types.specs.declared.types.Member.{Member}
use Rattle.cl_types.specs.declared.types.TypeId.{TypeId}
use Rattle.cl_types.specs.declared.scalars.Scalar.{Scalar as Slot}
use Rattle.cl_types.specs.declared.table.Row.{Row}
use Rattle.cl_types.specs.Layout.{TypeTree, Void, Scalar, Vector, Array, Struct, TypeTrees, none, more, up, room_of, align_of, aligns_of, size_of, end_of, spread, scalars_at, scalars_in, AreSound}
use Rattle.cl_types.specs.Rows.{IsRow, members_at}
use Rattle.cl_types.specs.Table.{tree_at, trees_at, trees, tree_of, tree_from, is_sized, AreBuilt, AreSized, IsTable}
use Rattle.cl_types.proofs.Places.{up_from, ends_from, room_from, Width, byte, half, word, long, width_is, Count, two, three, four, eight, sixteen, count_is}
use Rattle.cl_types.proofs.Rows.{tree_found, built_at, IsEarlier, AreEarlier, members_earlier, vector_earlier, array_earlier, members_sound, sized_low}
use Rattle.cl_types.proofs.Measuring.{aligns_from, drop_next, drop_end}

-- ---- elements

-- the parts from i on complete the list
pub record Spread (f : ℕ → ℕ → List Slot) (far n base i : ℕ) (old out : List Slot) : Type 0 where
  pub left : (k : ℕ) → i + k ≡ n → out ++ spread f far k i (base + i * far) ≡ old ++ spread f far n 0 base

pub spread_start : (f : ℕ → ℕ → List Slot) (far n base : ℕ) (old : List Slot) → Spread f far n base 0 old old
spread_start f far n base old = record {
  left = λ k e.
      let a : k ≡ n = omega arith in
      let b : base + 0 * far ≡ base = omega arith in
      (λ j. old ++ spread f far (a j) 0 (b j));
}

pub spread_more : (f : ℕ → ℕ → List Slot) (far n base i : ℕ) (old out new : List Slot) (at : ℕ) → i < n → at ≡ base + i * far → new ≡ out ++ f i at → Spread f far n base i old out → Spread f far n base (i + 1) old new
spread_more f far n base i old out new at l e h s = record {
  left = λ k q.
      let z : i + suc k ≡ n = omega arith in
      let one : i + 1 ≡ suc i = omega arith in
      let b : base + (i + 1) * far ≡ base + i * far + far = omega arith in
      ap (λ x. x ++ spread f far k (i + 1) (base + (i + 1) * far)) (h ∙ ap (λ x. out ++ f i x) e)
      ∙ append_assoc out (f i (base + i * far)) (spread f far k (i + 1) (base + (i + 1) * far))
      ∙ (λ j. out ++ (f i (base + i * far) ++ spread f far k (one j) (b j)))
      ∙ s.left (suc k) z;
}

pub spread_all : (f : ℕ → ℕ → List Slot) (far n base i : ℕ) (old out : List Slot) → n ≤ i → i ≤ n → Spread f far n base i old out → out ≡ old ++ spread f far n 0 base
spread_all f far n base i old out a b s = let e : i + 0 ≡ n = omega arith in sym (append-nil out) ∙ s.left 0 e

-- ---- members

pub record Filled (cs : List ClType) (t : ℕ) (members : List Member) (path : List ℕ) (base k end : ℕ) (old out : List Slot) : Type 0 where
  pub left : out ++ scalars_in (trees_at (trees cs) (drop k members)) path k base end ≡ old ++ scalars_in (trees_at (trees cs) members) path 0 base 0
  pub ends : end_of end (trees_at (trees cs) (drop k members)) ≡ end_of 0 (trees_at (trees cs) members)
  pub earlier : AreEarlier cs t (drop k members)
  pub counted : k ≤ end

-- a struct of a table, with its members
pub record IsStruct (cs : List ClType) (t : ℕ) (members : List Member) : Type 0 where
  pub tree : tree_of cs t ≡ Struct (trees_at (trees cs) members)
  pub earlier : AreEarlier cs t members

some_same : (a b : List Member) → Some a ≡ Some b → a ≡ b
some_same a b e = cc

pub struct_is : (cs : List ClType) (t : ℕ) (members : List Member) → IsTable cs → members_at (slice_get cs t) ≡ Some members → IsStruct cs t members
struct_is cs t members h e = by (slice_get cs t) refl e
  where
    never : None ≡ Some members → IsStruct cs t members
    never f = absurd (let g : None ≡ Some members = f in cc)

    by : (o : Option ClType) → slice_get cs t ≡ o → members_at o ≡ Some members → IsStruct cs t members
    by None g f = never f
    by (Some ty.Void) g f = never f
    by (Some ty.Bool) g f = never f
    by (Some (ty.Int a b)) g f = never f
    by (Some (ty.Vector a b)) g f = never f
    by (Some (ty.Array a b)) g f = never f
    by (Some (ty.Struct name ms)) g f =
        let same = some_same ms members f in
        record {
          tree = tree_found cs t (ty.Struct name ms) h.built g ∙ ap (λ z. Struct (trees_at (trees cs) z)) same;
          earlier = subst (AreEarlier cs t) same (members_earlier cs t name ms h.built g);
        }
    by (Some (ty.Pointer a b c d)) g f = never f

pub filled_start : (cs : List ClType) (t : ℕ) (members : List Member) (path : List ℕ) (base : ℕ) (old : List Slot) → IsStruct cs t members → Filled cs t members path base 0 0 old old
filled_start cs t members path base old s = record { left = refl; ends = refl; earlier = s.earlier; counted = omega arith }

earlier_next : (cs : List ClType) (t : ℕ) (members : List Member) (k : ℕ) (d : Member) → k < length members → AreEarlier cs t (drop k members) → IsEarlier cs t (get_or members k d).ty.0 × AreEarlier cs t (drop (suc k) members)
earlier_next cs t [] k d l h = absurd (omega arith)
earlier_next cs t (m ∷ ms) zero d l h = h
earlier_next cs t (m ∷ ms) (suc k) d l h = earlier_next cs t ms k d (omega arith) h

sized_of : (cs : List ClType) (t : ℕ) (ms : List Member) → AreEarlier cs t ms → AreSized cs ms
sized_of cs t [] h = tt
sized_of cs t (m ∷ ms) h = (h.0.sized, sized_of cs t ms h.1)

-- ---- sizes aren't 0

width_some : (bits : ℕ) → Width bits → 0 < bits / 8
width_some _ byte = omega arith
width_some _ half = omega arith
width_some _ word = omega arith
width_some _ long = omega arith

count_some : (n : ℕ) → Count n → 0 < n
count_some _ two = omega arith
count_some _ three = omega arith
count_some _ four = omega arith
count_some _ eight = omega arith
count_some _ sixteen = omega arith

struct_some : (cs : List ClType) (i : ℕ) (ms : List Member) → AreBuilt [] cs → ((j : ℕ) → IsEarlier cs i j → 0 < size_of (tree_of cs j)) → AreEarlier cs i ms → 0 < length ms → 0 < size_of (Struct (trees_at (trees cs) ms))
struct_some cs i [] b f h l = absurd (omega arith)
struct_some cs i (m ∷ ms) b f h l =
    let ts = trees_at (trees cs) (m ∷ ms) in
    let s = f m.ty.0 h.0 in
    let e = ends_from (trees_at (trees cs) ms) (up (align_of (tree_of cs m.ty.0)) 0 + size_of (tree_of cs m.ty.0)) (members_sound cs ms b (sized_of cs i ms h.1)) in
    let g = up_from (aligns_of 1 ts) (end_of 0 ts) (aligns_from 1 ts) in
    omega (arith, s, e, g)

size_by : (cs : List ClType) (i : ℕ) → AreBuilt [] cs → ((j : ℕ) → IsEarlier cs i j → 0 < size_of (tree_of cs j)) → (o : Option ClType) → slice_get cs i ≡ o → is_sized o ≡ true → 0 < size_of (tree_of cs i)
size_by cs i b f None e h = absurd (true≢false (sym h))
size_by cs i b f (Some ty.Void) e h = absurd (true≢false (sym h))
size_by cs i b f (Some ty.Bool) e h =
    let l : 0 < 8 / 8 = omega arith in
    subst (λ z. 0 < size_of z) (sym (tree_found cs i ty.Bool b e)) l
size_by cs i b f (Some (ty.Int bits signed)) e h = subst (λ z. 0 < size_of z) (sym (tree_found cs i (ty.Int bits signed) b e)) (width_some bits (width_is bits (built_at cs i (ty.Int bits signed) b e)))
size_by cs i b f (Some (ty.Vector elem n)) e h =
    let c = count_some n (count_is n (built_at cs i (ty.Vector elem n) b e).1) in
    let r = room_from n in
    let p : 0 < room_of n = omega (arith, c, r) in
    subst (λ z. 0 < size_of z) (sym (tree_found cs i (ty.Vector elem n) b e)) (mul-pos p (f elem.0 (vector_earlier cs i elem n b e)))
size_by cs i b f (Some (ty.Array elem n)) e h = subst (λ z. 0 < size_of z) (sym (tree_found cs i (ty.Array elem n) b e)) (mul-pos (built_at cs i (ty.Array elem n) b e).1 (f elem.0 (array_earlier cs i elem n b e)))
size_by cs i b f (Some (ty.Struct name ms)) e h = subst (λ z. 0 < size_of z) (sym (tree_found cs i (ty.Struct name ms) b e)) (struct_some cs i ms b f (members_earlier cs i name ms b e) (built_at cs i (ty.Struct name ms) b e).1)
size_by cs i b f (Some (ty.Pointer space to readonly restricted)) e h =
    let l : 0 < 32 / 8 = omega arith in
    subst (λ z. 0 < size_of z) (sym (tree_found cs i (ty.Pointer space to readonly restricted) b e)) l

-- a type that isn't void has a byte at least
size_some : (n : ℕ) (cs : List ClType) (i : ℕ) → AreBuilt [] cs → is_sized (slice_get cs i) ≡ true → i < n → 0 < size_of (tree_of cs i)
size_some zero cs i b h l = absurd (omega arith)
size_some (suc n) cs i b h l = size_by cs i b (λ j e. let k = e.earlier in size_some n cs j b e.sized (omega (arith, k, l))) (slice_get cs i) refl h

-- ---- one member more

-- the numbers of a member fit
pub record Room (k base end : ℕ) (r : Row) : Type 0 where
  pub fits : end + r.align ≤ 131072
  pub number : k ≤ 65536
  pub ends : base + (up r.align end + r.size) ≤ 65536

fits_in : (base a b : ℕ) → a ≤ b → base + b ≤ 65536 → base + a ≤ 65536
fits_in base a b h l = omega arith

pub ends_at : (base at u s z : ℕ) → at ≡ u → s ≡ z → base + (u + s) ≤ 65536 → base + at + z ≤ 65536
ends_at base at u s z e f h = omega arith

module _ (cs : List ClType) (t : ℕ) (members : List Member) (path : List ℕ) (base k end : ℕ) (old out : List Slot) (m : Member) (h : Filled cs t members path base k end old out) (l : k < length members) (is : m ≡ get_or members k m) where
  pub member_earlier : IsEarlier cs t m.ty.0
  member_earlier = subst (λ z. IsEarlier cs t z.ty.0) (sym is) (earlier_next cs t members k m l h.earlier).0

  module _ (r : Row) (row : IsRow r (tree_of cs m.ty.0)) (table : IsTable cs) where
    next : trees_at (trees cs) (drop k members) ≡ more (tree_of cs m.ty.0) (trees_at (trees cs) (drop (suc k) members))
    next = drop_next (trees cs) members k m l ∙ ap (λ z. more (tree_of cs z.ty.0) (trees_at (trees cs) (drop (suc k) members))) (sym is)

    place_is : up r.align end ≡ up (align_of (tree_of cs m.ty.0)) end
    place_is = ap (λ a. up a end) row.align

    end_next : up r.align end + r.size ≡ up (align_of (tree_of cs m.ty.0)) end + size_of (tree_of cs m.ty.0)
    end_next = ap (λ z. z + r.size) place_is ∙ ap (λ z. up (align_of (tree_of cs m.ty.0)) end + z) row.size

    ends_next : end_of (up r.align end + r.size) (trees_at (trees cs) (drop (suc k) members)) ≡ end_of 0 (trees_at (trees cs) members)
    ends_next = ap (λ z. end_of z (trees_at (trees cs) (drop (suc k) members))) end_next ∙ ap (end_of end) (sym next) ∙ h.ends

    -- a member ends within its struct
    member_within : up r.align end + r.size ≤ size_of (Struct (trees_at (trees cs) members))
    member_within =
        let ts = trees_at (trees cs) members in
        let rest = trees_at (trees cs) (drop (suc k) members) in
        let sound = members_sound cs (drop (suc k) members) table.built (sized_of cs t (drop (suc k) members) (earlier_next cs t members k m l h.earlier).1) in
        let f = ends_from rest (up r.align end + r.size) sound in
        let g = up_from (aligns_of 1 ts) (end_of 0 ts) (aligns_from 1 ts) in
        let e = ends_next in
        omega (arith, f, g, e)

    pub member_room : IsStruct cs t members → base + size_of (tree_of cs t) ≤ 65536 → Room k base end r
    member_room s low =
        let ends = fits_in base (up r.align end + r.size) (size_of (Struct (trees_at (trees cs) members))) member_within (subst (λ z. base + size_of z ≤ 65536) s.tree low) in
        let f = up_from r.align end row.some in
        let c = h.counted in
        let l = row.low in
        record { fits = omega (arith, ends, f, l); number = omega (arith, ends, f, c); ends = ends }

    counted_next : k + 1 ≤ up r.align end + r.size
    counted_next =
        let f = up_from r.align end row.some in
        let c = h.counted in
        let s = size_some (suc m.ty.0) cs m.ty.0 table.built member_earlier.sized (omega arith) in
        let e = row.size in
        omega (arith, f, c, s, e)

    pub filled_more : (new : List Slot) (inner : List ℕ) (at end2 : ℕ) → inner ≡ path ++ k ∷ [] → at ≡ base + up r.align end → end2 ≡ up r.align end + r.size → new ≡ out ++ scalars_at (tree_of cs m.ty.0) inner at → Filled cs t members path base (k + 1) end2 old new
    filled_more new inner at end2 p q e n =
        let rest = trees_at (trees cs) (drop (suc k) members) in
        let one : suc k ≡ k + 1 = omega arith in
        let end3 = e ∙ end_next in
        let at2 = q ∙ ap (λ z. base + z) place_is in
        let done : Filled cs t members path base (suc k) end2 old new = record {
          left =
              ap (λ z. z ++ scalars_in rest path (suc k) base end2) (n ∙ (λ j. out ++ scalars_at (tree_of cs m.ty.0) (p j) (at2 j)))
              ∙ append_assoc out (scalars_at (tree_of cs m.ty.0) (path ++ k ∷ []) (base + up (align_of (tree_of cs m.ty.0)) end)) (scalars_in rest path (suc k) base end2)
              ∙ ap (λ z. out ++ (scalars_at (tree_of cs m.ty.0) (path ++ k ∷ []) (base + up (align_of (tree_of cs m.ty.0)) end) ++ scalars_in rest path (suc k) base z)) end3
              ∙ ap (λ z. out ++ scalars_in z path k base end) (sym next)
              ∙ h.left;
          ends = ap (λ z. end_of z rest) e ∙ ends_next;
          earlier = (earlier_next cs t members k m l h.earlier).1;
          counted = subst (λ z. suc k ≤ z) (sym e) (let c = counted_next in omega (arith, c));
        } in
        subst (λ z. Filled cs t members path base z end2 old new) one done

pub filled_all : (cs : List ClType) (t : ℕ) (members : List Member) (path : List ℕ) (base k end : ℕ) (old out : List Slot) → Filled cs t members path base k end old out → length members ≤ k → IsStruct cs t members → out ≡ old ++ scalars_at (tree_of cs t) path base
filled_all cs t members path base k end old out h l s =
    let gone = drop_end (trees cs) members k l in
    sym (append-nil out) ∙ ap (λ z. out ++ scalars_in z path k base end) (sym gone) ∙ h.left ∙ ap (λ z. old ++ scalars_at z path base) (sym s.tree)

-- ---- one type

pub nothing_put : (cs : List ClType) (t : ℕ) (path : List ℕ) (base : ℕ) (out : List Slot) → IsTable cs → slice_get cs t ≡ Some ty.Void → out ≡ out ++ scalars_at (tree_of cs t) path base
nothing_put cs t path base out h e = sym (append-nil out) ∙ ap (λ z. out ++ scalars_at z path base) (sym (tree_found cs t ty.Void h.built e))

pub scalar_put : (cs : List ClType) (t : ℕ) (c : ClType) (bits : ℕ) (path : List ℕ) (base : ℕ) (out new : List Slot) (r : Result (Unit {0}) NoMemory) → IsTable cs → slice_get cs t ≡ Some c → tree_from (trees cs) c ≡ Scalar bits → OnOk r (new ≡ out ++ record { path = path; offset = base; bits = bits } ∷ []) → OnOk r (new ≡ out ++ scalars_at (tree_of cs t) path base)
scalar_put cs t c bits path base out new r h e f p = subst (λ z. OnOk r (new ≡ out ++ scalars_at z path base)) (sym (tree_found cs t c h.built e ∙ f)) p

pub vector_put : (cs : List ClType) (t : ℕ) (elem : TypeId) (n : ℕ) (path : List ℕ) (base : ℕ) (out new : List Slot) (r : Result (Unit {0}) NoMemory) → IsTable cs → slice_get cs t ≡ Some (ty.Vector elem n) → OnOk r (new ≡ out ++ spread (λ i o. scalars_at (tree_of cs elem.0) (path ++ i ∷ []) o) (size_of (tree_of cs elem.0)) n 0 base) → OnOk r (new ≡ out ++ scalars_at (tree_of cs t) path base)
vector_put cs t elem n path base out new r h e p = subst (λ z. OnOk r (new ≡ out ++ scalars_at z path base)) (sym (tree_found cs t (ty.Vector elem n) h.built e)) p

pub array_put : (cs : List ClType) (t : ℕ) (elem : TypeId) (n : ℕ) (path : List ℕ) (base : ℕ) (out new : List Slot) (r : Result (Unit {0}) NoMemory) → IsTable cs → slice_get cs t ≡ Some (ty.Array elem n) → OnOk r (new ≡ out ++ spread (λ i o. scalars_at (tree_of cs elem.0) (path ++ i ∷ []) o) (size_of (tree_of cs elem.0)) n 0 base) → OnOk r (new ≡ out ++ scalars_at (tree_of cs t) path base)
array_put cs t elem n path base out new r h e p = subst (λ z. OnOk r (new ≡ out ++ scalars_at z path base)) (sym (tree_found cs t (ty.Array elem n) h.built e)) p

-- the elements of a vector or an array fit in its size
pub record Inner (cs : List ClType) (t elem n base : ℕ) : Type 0 where
  pub earlier : elem < t
  pub known : elem < length cs
  pub low : base + n * size_of (tree_of cs elem) ≤ 65536

pub vector_inner : (cs : List ClType) (t : ℕ) (elem : TypeId) (n base : ℕ) → IsTable cs → slice_get cs t ≡ Some (ty.Vector elem n) → base + size_of (tree_of cs t) ≤ 65536 → Inner cs t elem.0 n base
vector_inner cs t elem n base h e low =
    let s = vector_earlier cs t elem n h.built e in
    let f = ap size_of (tree_found cs t (ty.Vector elem n) h.built e) in
    let m = mul-le-mul_right (size_of (tree_of cs elem.0)) (room_from n) in
    let g : size_of (tree_of cs t) ≡ room_of n * size_of (tree_of cs elem.0) = f in
    record { earlier = s.earlier; known = sized_low cs elem.0 s.sized; low = omega (arith, g, m, low) }

pub array_inner : (cs : List ClType) (t : ℕ) (elem : TypeId) (n base : ℕ) → IsTable cs → slice_get cs t ≡ Some (ty.Array elem n) → base + size_of (tree_of cs t) ≤ 65536 → Inner cs t elem.0 n base
array_inner cs t elem n base h e low =
    let s = array_earlier cs t elem n h.built e in
    let f = ap size_of (tree_found cs t (ty.Array elem n) h.built e) in
    let g : size_of (tree_of cs t) ≡ n * size_of (tree_of cs elem.0) = f in
    record { earlier = s.earlier; known = sized_low cs elem.0 s.sized; low = omega (arith, g, low) }

-- one element more
pub element_more : (cs : List ClType) (elem n base i : ℕ) (path inner : List ℕ) (size at : ℕ) (old out new : List Slot) → i < n → inner ≡ path ++ i ∷ [] → size ≡ size_of (tree_of cs elem) → at ≡ base + i * size → new ≡ out ++ scalars_at (tree_of cs elem) inner at → Spread (λ k o. scalars_at (tree_of cs elem) (path ++ k ∷ []) o) (size_of (tree_of cs elem)) n base i old out → Spread (λ k o. scalars_at (tree_of cs elem) (path ++ k ∷ []) o) (size_of (tree_of cs elem)) n base (i + 1) old new
element_more cs elem n base i path inner size at old out new l p s a e h =
    spread_more (λ k o. scalars_at (tree_of cs elem) (path ++ k ∷ []) o) (size_of (tree_of cs elem)) n base i old out new at l (a ∙ ap (λ z. base + i * z) s) (e ∙ ap (λ z. out ++ scalars_at (tree_of cs elem) z at) p) h
