-- A type that isn't void has a byte at least.
use Rattle.std.proofs.Common.{◌≡◌, ℕ, zero, suc, ◌+◌, ◌/◌, ◌<◌, List, [], ◌∷◌, length, slice_get, refl, sym, subst, arith, Some, None, Option, true, true≢false}
use Rattle.std.proofs.Math.Nat.{mul-pos}
use Rattle.cl_types.specs.declared.types.ClType.{ClType}
use Rattle.cl_types.specs.declared.types.ClType.TheVariants as ty
use Rattle.cl_types.specs.declared.types.Member.{Member}
use Rattle.cl_types.specs.Layout.{Struct, up, room_of, align_of, aligns_of, size_of, end_of}
use Rattle.cl_types.specs.Table.{trees_at, trees, tree_of, is_sized, AreBuilt, AreSized}
use Rattle.cl_types.proofs.Places.{up_from, ends_from, room_from, Width, byte, half, word, long, width_is, Count, two, three, four, eight, sixteen, count_is}
use Rattle.cl_types.proofs.Rows.{tree_found, built_at, IsEarlier, AreEarlier, members_earlier, vector_earlier, array_earlier, members_sound}
use Rattle.cl_types.proofs.Measuring.{aligns_from}

sized_of : (cs : List ClType) (t : ℕ) (ms : List Member) → AreEarlier cs t ms → AreSized cs ms
sized_of cs t [] h = tt
sized_of cs t (m ∷ ms) h = (h.0.sized, sized_of cs t ms h.1)

width_some : (bits : ℕ) → Width bits → 0 < bits / 8
width_some _ byte = omega arith
width_some _ half = omega arith
width_some _ word = omega arith
width_some _ long = omega arith

count_some : (n : ℕ) → Count n → 0 < n
count_some _ two = omega arith
count_some _ three = omega arith
count_some _ four = omega arith
count_some _ eight = omega arith
count_some _ sixteen = omega arith

struct_some : (cs : List ClType) (i : ℕ) (ms : List Member) → AreBuilt [] cs → ((j : ℕ) → IsEarlier cs i j → 0 < size_of (tree_of cs j)) → AreEarlier cs i ms → 0 < length ms → 0 < size_of (Struct (trees_at (trees cs) ms))
struct_some cs i [] b f h l = absurd (omega arith)
struct_some cs i (m ∷ ms) b f h l =
    let ts = trees_at (trees cs) (m ∷ ms) in
    let s = f m.ty.0 h.0 in
    let e = ends_from (trees_at (trees cs) ms) (up (align_of (tree_of cs m.ty.0)) 0 + size_of (tree_of cs m.ty.0)) (members_sound cs ms b (sized_of cs i ms h.1)) in
    let g = up_from (aligns_of 1 ts) (end_of 0 ts) (aligns_from 1 ts) in
    omega (arith, s, e, g)

size_by : (cs : List ClType) (i : ℕ) → AreBuilt [] cs → ((j : ℕ) → IsEarlier cs i j → 0 < size_of (tree_of cs j)) → (o : Option ClType) → slice_get cs i ≡ o → is_sized o ≡ true → 0 < size_of (tree_of cs i)
size_by cs i b f None e h = absurd (true≢false (sym h))
size_by cs i b f (Some ty.Void) e h = absurd (true≢false (sym h))
size_by cs i b f (Some ty.Bool) e h =
    let l : 0 < 8 / 8 = omega arith in
    subst (λ z. 0 < size_of z) (sym (tree_found cs i ty.Bool b e)) l
size_by cs i b f (Some (ty.Int bits signed)) e h = subst (λ z. 0 < size_of z) (sym (tree_found cs i (ty.Int bits signed) b e)) (width_some bits (width_is bits (built_at cs i (ty.Int bits signed) b e)))
size_by cs i b f (Some (ty.Vector elem n)) e h =
    let c = count_some n (count_is n (built_at cs i (ty.Vector elem n) b e).1) in
    let r = room_from n in
    let p : 0 < room_of n = omega (arith, c, r) in
    subst (λ z. 0 < size_of z) (sym (tree_found cs i (ty.Vector elem n) b e)) (mul-pos p (f elem.0 (vector_earlier cs i elem n b e)))
size_by cs i b f (Some (ty.Array elem n)) e h = subst (λ z. 0 < size_of z) (sym (tree_found cs i (ty.Array elem n) b e)) (mul-pos (built_at cs i (ty.Array elem n) b e).1 (f elem.0 (array_earlier cs i elem n b e)))
size_by cs i b f (Some (ty.Struct name ms)) e h = subst (λ z. 0 < size_of z) (sym (tree_found cs i (ty.Struct name ms) b e)) (struct_some cs i ms b f (members_earlier cs i name ms b e) (built_at cs i (ty.Struct name ms) b e).1)
size_by cs i b f (Some (ty.Pointer space to readonly restricted)) e h =
    let l : 0 < 32 / 8 = omega arith in
    subst (λ z. 0 < size_of z) (sym (tree_found cs i (ty.Pointer space to readonly restricted) b e)) l

-- a type that isn't void has a byte at least
pub size_some : (n : ℕ) (cs : List ClType) (i : ℕ) → AreBuilt [] cs → is_sized (slice_get cs i) ≡ true → i < n → 0 < size_of (tree_of cs i)
size_some zero cs i b h l = absurd (omega arith)
size_some (suc n) cs i b h l = size_by cs i b (λ j e. let k = e.earlier in size_some n cs j b e.sized (omega (arith, k, l))) (slice_get cs i) refl h
