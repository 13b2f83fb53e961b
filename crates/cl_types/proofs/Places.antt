-- The scalars of a type, and the places in it.
use Rattle.std.proofs.Common.{◌≡◌, ℕ, zero, suc, ◌+◌, ◌-◌, ◌*◌, ◌/◌, ◌^◌, ◌<◌, ◌≤◌, ◌⊎◌, inl, inr, Some, None, List, [], ◌∷◌, ◌++◌, refl, sym, ap, ◌∙◌, subst, arith, append_assoc, Bool, true, false, ◌||◌, Contains}
use Rattle.std.specs.Prelude.{max, nat_eq, length, slice_index_or}
use Rattle.std.proofs.Math.Nat.{le-max_left, max-eq_left, max-eq_right, mod-lt, mul-pos, mul-le-mul_right}
use Rattle.std.proofs.lemmas.Nat.{div-add-mod', pow-add}
use Rattle.std.proofs.lemmas.Bool.{cases_lt, eqb-true}
use Rattle.std.proofs.lemmas.Grind.{common_steps}
use Rattle.std.proofs.lemmas.List.{append-nil}
use Rattle.std.proofs.lemmas.List.Elements.{Contains-append_left, Contains-append_right, Contains-append_cases}
use Rattle.cl_types.specs.declared.scalars.Scalar.{Scalar as Slot}
use Rattle.cl_types.specs.Layout.{TypeTree, Void, Scalar, Vector, Array, Struct, TypeTrees, none, more, up, room_of, align_of, aligns_of, size_of, end_of, Member, Part, Place, spread, scalars_at, scalars_in, scalars_of, is_width, is_count, IsScalar, IsSound, AreSound}
use Rattle.cl_types.specs.Laws.{Ascend, Divides, ScalarsAscend, ScalarsArePlaces, PlacesAreScalars, PlacesAreOne, ScalarsLieApart, PlacesLieWithin, PlacesAreAligned, SizesAreMultiples}

pub up_from : (a n : ℕ) → 0 < a → n ≤ up a n
up_from a n pos =
    let e = div-add-mod' (n + (a - 1)) a in
    let l = mod-lt (n + (a - 1)) pos in
    omega (arith, e, l)

-- an alignment's multiple comes before so many more
pub up_below : (a n : ℕ) → 0 < a → up a n < n + a
up_below a n pos =
    let e = div-add-mod' (n + (a - 1)) a in
    let l = mod-lt (n + (a - 1)) pos in
    omega (arith, e, l)

pub room_from : (n : ℕ) → n ≤ room_of n
room_from n = grind (arith, common_steps)

-- the four widths, and the five numbers of components
pub data Width : ℕ → Type 0 where
  byte : Width 8
  half : Width 16
  word : Width 32
  long : Width 64

pub width_is : (bits : ℕ) → is_width bits ≡ true → Width bits
width_is bits h = by (nat_eq bits 8) (nat_eq bits 16) (nat_eq bits 32) (nat_eq bits 64) refl refl refl refl h
  where
    by : (a b c d : Bool) → nat_eq bits 8 ≡ a → nat_eq bits 16 ≡ b → nat_eq bits 32 ≡ c → nat_eq bits 64 ≡ d → is_width bits ≡ true → Width bits
    by true b c d e f g i h = subst Width (sym (eqb-true bits 8 e)) byte
    by false true c d e f g i h = subst Width (sym (eqb-true bits 16 f)) half
    by false false true d e f g i h = subst Width (sym (eqb-true bits 32 g)) word
    by false false false true e f g i h = subst Width (sym (eqb-true bits 64 i)) long
    by false false false false e f g i h = absurd (let z : (((nat_eq bits 8) || (nat_eq bits 16)) || (nat_eq bits 32)) || (nat_eq bits 64) ≡ true = h in cc)

pub data Count : ℕ → Type 0 where
  two : Count 2
  three : Count 3
  four : Count 4
  eight : Count 8
  sixteen : Count 16

pub count_is : (n : ℕ) → is_count n ≡ true → Count n
count_is n h = by (nat_eq n 2) (nat_eq n 3) (nat_eq n 4) (nat_eq n 8) (nat_eq n 16) refl refl refl refl refl h
  where
    by : (a b c d x : Bool) → nat_eq n 2 ≡ a → nat_eq n 3 ≡ b → nat_eq n 4 ≡ c → nat_eq n 8 ≡ d → nat_eq n 16 ≡ x → is_count n ≡ true → Count n
    by true b c d x e f g i j h = subst Count (sym (eqb-true n 2 e)) two
    by false true c d x e f g i j h = subst Count (sym (eqb-true n 3 f)) three
    by false false true d x e f g i j h = subst Count (sym (eqb-true n 4 g)) four
    by false false false true x e f g i j h = subst Count (sym (eqb-true n 8 i)) eight
    by false false false false true e f g i j h = subst Count (sym (eqb-true n 16 j)) sixteen
    by false false false false false e f g i j h = absurd (let z : ((((nat_eq n 2) || (nat_eq n 3)) || (nat_eq n 4)) || (nat_eq n 8)) || (nat_eq n 16) ≡ true = h in cc)

-- a power of two
abbrev pub IsPower : ℕ → Type 0
IsPower n = (k : ℕ) × (n ≡ 2 ^ k)

width_power : (bits : ℕ) → Width bits → IsPower (bits / 8)
width_power _ byte = (0, refl)
width_power _ half = (1, refl)
width_power _ word = (2, refl)
width_power _ long = (3, refl)

count_power : (n : ℕ) → Count n → IsPower (room_of n)
count_power _ two = (1, refl)
count_power _ three = (2, refl)
count_power _ four = (2, refl)
count_power _ eight = (3, refl)
count_power _ sixteen = (4, refl)

pow_some : (k : ℕ) → 0 < 2 ^ k
pow_some zero = omega arith
pow_some (suc k) =
    let h = pow_some k in
    let e : suc k ≡ 1 + k = omega arith in
    let d = ap (λ z. 2 ^ z) e ∙ pow-add 2 1 k in
    omega (arith, d, h)

power_some : (n : ℕ) → IsPower n → 0 < n
power_some n h = let e = h.1 in let s = pow_some h.0 in omega arith

power_times : (m n : ℕ) → IsPower m → IsPower n → IsPower (m * n)
power_times m n h g = (h.0 + g.0, ap (λ z. z * n) h.1 ∙ ap (λ z. 2 ^ h.0 * z) g.1 ∙ sym (pow-add 2 h.0 g.0))

scalar_sound : (t : TypeTree) → IsScalar t → IsSound t
scalar_sound Void h = absurd h
scalar_sound (Scalar bits) h = h
scalar_sound (Vector t n) h = absurd h
scalar_sound (Array t n) h = absurd h
scalar_sound (Struct ts) h = absurd h

divides_up : (a n : ℕ) → Divides a (up a n)
divides_up a n = ((n + (a - 1)) / a, refl)

divides_add : (a m n : ℕ) → Divides a m → Divides a n → Divides a (m + n)
divides_add a m n h g = let e = h.1 in let f = g.1 in (h.0 + g.0, omega arith)

divides_times : (a n k : ℕ) → Divides a n → Divides a (k * n)
divides_times a n k h = let e = h.1 in (k * h.0, ap (λ z. k * z) e ∙ (let x : k * (h.0 * a) ≡ k * h.0 * a = omega arith in x))

divides_then : (a b n : ℕ) → Divides a b → Divides b n → Divides a n
divides_then a b n h g = let e = h.1 in (g.0 * h.0, g.1 ∙ ap (λ z. g.0 * z) e ∙ (let x : g.0 * (h.0 * a) ≡ g.0 * h.0 * a = omega arith in x))

divides_self : (a : ℕ) → Divides a a
divides_self a = (1, omega arith)

divides_both : (a b k : ℕ) → Divides a b → Divides (k * a) (k * b)
divides_both a b k h = (h.0, ap (λ z. k * z) h.1 ∙ (let x : k * (h.0 * a) ≡ h.0 * (k * a) = omega arith in x))

powers_divide : (i j : ℕ) → i ≤ j → Divides (2 ^ i) (2 ^ j)
powers_divide i j h =
    let e : j - i + i ≡ j = omega arith in
    (2 ^ (j - i), ap (λ z. 2 ^ z) (sym e) ∙ pow-add 2 (j - i) i)

powers_low : (i j : ℕ) → i ≤ j → 2 ^ i ≤ 2 ^ j
powers_low i j h =
    let e : j - i + i ≡ j = omega arith in
    let d = ap (λ z. 2 ^ z) (sym e) ∙ pow-add 2 (j - i) i in
    let low : 0 < 2 ^ (j - i) = pow_some (j - i) in
    let l = mul-le-mul_right (2 ^ i) (let s : 1 ≤ 2 ^ (j - i) = low in s) in
    omega (arith, d, l)

record Max (a b : ℕ) : Type 0 where
  is_power : IsPower (max a b)
  first : Divides a (max a b)
  second : Divides b (max a b)

max_power : (a b : ℕ) → IsPower a → IsPower b → Max a b
max_power a b h g = elim (cases_lt g.0 h.0) [
  | inl low ↦
      let d = subst (λ z. Divides z a) (sym g.1) (subst (Divides (2 ^ g.0)) (sym h.1) (powers_divide g.0 h.0 (omega arith))) in
      let l : b ≤ a = subst (λ z. z ≤ a) (sym g.1) (subst (λ z. 2 ^ g.0 ≤ z) (sym h.1) (powers_low g.0 h.0 (omega arith))) in
      let m = max-eq_left l in
      record { is_power = subst IsPower (sym m) h; first = subst (Divides a) (sym m) (divides_self a); second = subst (Divides b) (sym m) d }
  | inr high ↦
      let d = subst (λ z. Divides z b) (sym h.1) (subst (Divides (2 ^ h.0)) (sym g.1) (powers_divide h.0 g.0 high)) in
      let l : a ≤ b = subst (λ z. z ≤ b) (sym h.1) (subst (λ z. 2 ^ h.0 ≤ z) (sym g.1) (powers_low h.0 g.0 high)) in
      let m = max-eq_right l in
      record { is_power = subst IsPower (sym m) g; first = subst (Divides a) (sym m) d; second = subst (Divides b) (sym m) (divides_self b) }
]

mutual
  align_power : (t : TypeTree) → IsSound t → IsPower (align_of t)
  align_power Void h = (0, refl)
  align_power (Scalar bits) h = width_power bits (width_is bits h)
  align_power (Vector t n) h = power_times (room_of n) (align_of t) (count_power n (count_is n h.1)) (align_power t (scalar_sound t h.0))
  align_power (Array t n) h = align_power t h
  align_power (Struct ts) h = (aligns_power ts 1 h (0, refl)).0

  -- the greatest alignment is a power of two that the first divides
  aligns_power : (ts : TypeTrees) (a : ℕ) → AreSound ts → IsPower a → IsPower (aligns_of a ts) × Divides a (aligns_of a ts)
  aligns_power none a h p = (p, divides_self a)
  aligns_power (more t ts) a h p =
      let m = max_power a (align_of t) p (align_power t h.0) in
      let r = aligns_power ts (max a (align_of t)) h.1 m.is_power in
      (r.0, divides_then a (max a (align_of t)) (aligns_of (max a (align_of t)) ts) m.first r.1)

pub align_some : (t : TypeTree) → IsSound t → 0 < align_of t
align_some t h = power_some (align_of t) (align_power t h)

aligns_some : (ts : TypeTrees) → AreSound ts → 0 < aligns_of 1 ts
aligns_some ts h = power_some (aligns_of 1 ts) (aligns_power ts 1 h (0, refl)).0

-- members lie one behind the other
member_from : (ts : TypeTrees) (at k o : ℕ) (u : TypeTree) → AreSound ts → Member ts at k o u → at ≤ o
member_from none at k o u h m = absurd m
member_from (more t ts) at zero o u h m = let f = up_from (align_of t) at (align_some t h.0) in let e = m.0 in omega arith
member_from (more t ts) at (suc k) o u h m = let f = up_from (align_of t) at (align_some t h.0) in let e = member_from ts (up (align_of t) at + size_of t) k o u h.1 m in omega arith

pub ends_from : (ts : TypeTrees) (at : ℕ) → AreSound ts → at ≤ end_of at ts
ends_from none at h = omega arith
ends_from (more t ts) at h = let f = up_from (align_of t) at (align_some t h.0) in let e = ends_from ts (up (align_of t) at + size_of t) h.1 in omega arith

member_within : (ts : TypeTrees) (at k o : ℕ) (u : TypeTree) → AreSound ts → Member ts at k o u → o + size_of u ≤ end_of at ts
member_within none at k o u h m = absurd m
member_within (more t ts) at zero o u h m = let e = m.0 in let f = ap size_of m.1 in let g = ends_from ts (up (align_of t) at + size_of t) h.1 in omega arith
member_within (more t ts) at (suc k) o u h m = member_within ts (up (align_of t) at + size_of t) k o u h.1 m

member_apart : (ts : TypeTrees) (at j k o q : ℕ) (u v : TypeTree) → AreSound ts → j < k → Member ts at j o u → Member ts at k q v → o + size_of u ≤ q
member_apart none at j k o q u v h l m n = absurd m
member_apart (more t ts) at zero zero o q u v h l m n = absurd (omega arith)
member_apart (more t ts) at (suc j) zero o q u v h l m n = absurd (omega arith)
member_apart (more t ts) at zero (suc k) o q u v h l m n = let e = m.0 in let f = ap size_of m.1 in let g = member_from ts (up (align_of t) at + size_of t) k q v h.1 n in omega arith
member_apart (more t ts) at (suc j) (suc k) o q u v h l m n = member_apart ts (up (align_of t) at + size_of t) j k o q u v h.1 (omega arith) m n

member_same : (ts : TypeTrees) (at k o q : ℕ) (u v : TypeTree) → Member ts at k o u → Member ts at k q v → (o ≡ q) × (u ≡ v)
member_same none at k o q u v m n = absurd m
member_same (more t ts) at zero o q u v m n = (m.0 ∙ sym n.0, m.1 ∙ sym n.1)
member_same (more t ts) at (suc k) o q u v m n = member_same ts (up (align_of t) at + size_of t) k o q u v m n

member_sound : (ts : TypeTrees) (at k o : ℕ) (u : TypeTree) → AreSound ts → Member ts at k o u → IsSound u
member_sound none at k o u h m = absurd m
member_sound (more t ts) at zero o u h m = subst IsSound (sym m.1) h.0
member_sound (more t ts) at (suc k) o u h m = member_sound ts (up (align_of t) at + size_of t) k o u h.1 m

-- parts of a type
part_sound : (t : TypeTree) (i o : ℕ) (u : TypeTree) → IsSound t → Part t i o u → IsSound u
part_sound Void i o u h m = absurd m
part_sound (Scalar b) i o u h m = absurd m
part_sound (Vector t n) i o u h m = subst IsSound (sym m.2) (scalar_sound t h.0)
part_sound (Array t n) i o u h m = subst IsSound (sym m.2) h
part_sound (Struct ts) i o u h m = member_sound ts 0 i o u h m

row_within : (i n z : ℕ) → i < n → i * z + z ≤ n * z
row_within i n z h = let l = mul-le-mul_right z (let s : suc i ≤ n = h in s) in let e : suc i * z ≡ i * z + z = omega arith in omega arith

part_within : (t : TypeTree) (i o : ℕ) (u : TypeTree) → IsSound t → Part t i o u → o + size_of u ≤ size_of t
part_within Void i o u h m = absurd m
part_within (Scalar b) i o u h m = absurd m
part_within (Vector t n) i o u h m =
    let r = row_within i n (size_of t) m.0 in
    let s = mul-le-mul_right (size_of t) (room_from n) in
    let e = m.1 in let f = ap size_of m.2 in omega arith
part_within (Array t n) i o u h m = let r = row_within i n (size_of t) m.0 in let e = m.1 in let f = ap size_of m.2 in omega arith
part_within (Struct ts) i o u h m = let r = member_within ts 0 i o u h m in let f = up_from (aligns_of 1 ts) (end_of 0 ts) (aligns_some ts h) in omega arith

part_apart : (t : TypeTree) (i j o q : ℕ) (u v : TypeTree) → IsSound t → i < j → Part t i o u → Part t j q v → o + size_of u ≤ q
part_apart Void i j o q u v h l m n = absurd m
part_apart (Scalar b) i j o q u v h l m n = absurd m
part_apart (Vector t k) i j o q u v h l m n = let r = row_within i j (size_of t) l in let e = m.1 in let e2 = n.1 in let f = ap size_of m.2 in omega arith
part_apart (Array t k) i j o q u v h l m n = let r = row_within i j (size_of t) l in let e = m.1 in let e2 = n.1 in let f = ap size_of m.2 in omega arith
part_apart (Struct ts) i j o q u v h l m n = member_apart ts 0 i j o q u v h l m n

part_same : (t : TypeTree) (i o q : ℕ) (u v : TypeTree) → Part t i o u → Part t i q v → (o ≡ q) × (u ≡ v)
part_same Void i o q u v m n = absurd m
part_same (Scalar b) i o q u v m n = absurd m
part_same (Vector t k) i o q u v m n = (m.1 ∙ sym n.1, m.2 ∙ sym n.2)
part_same (Array t k) i o q u v m n = (m.1 ∙ sym n.1, m.2 ∙ sym n.2)
part_same (Struct ts) i o q u v m n = member_same ts 0 i o q u v m n

-- places
pub place_sound : (t : TypeTree) (p : List ℕ) (o : ℕ) (u : TypeTree) → IsSound t → Place t p o u → IsSound u
place_sound t [] o u h m = subst IsSound (sym m.1) h
place_sound t (i ∷ p) o u h m = place_sound m.2 p m.1 u (part_sound t i m.0 m.2 h m.3) m.4

pub place_within : PlacesLieWithin
place_within t h [] o u m = let e = m.0 in let f = ap size_of m.1 in omega arith
place_within t h (i ∷ p) o u m =
    let a = part_within t i m.0 m.2 h m.3 in
    let b = place_within m.2 (part_sound t i m.0 m.2 h m.3) p m.1 u m.4 in
    let e = m.5 in omega arith

pub place_same : PlacesAreOne
place_same t [] o q u v m n = (m.0 ∙ sym n.0, m.1 ∙ sym n.1)
place_same t (i ∷ p) o q u v m n =
    let s = part_same t i m.0 n.0 m.2 n.2 m.3 n.3 in
    let r = place_same n.2 p m.1 n.1 u v (subst (λ w. Place w p m.1 u) s.1 m.4) n.4 in
    let e = m.5 in let f = n.5 in let s0 = s.0 in let r0 = r.0 in (omega arith, r.1)

pub place_apart : ScalarsLieApart
place_apart t h [] [] o r b c m n = inl refl
place_apart t h [] (j ∷ q) o r b c m n = absurd (subst (λ w. Part w j n.0 n.2) (sym m.1) n.3)
place_apart t h (i ∷ p) [] o r b c m n = absurd (subst (λ w. Part w i m.0 m.2) (sym n.1) m.3)
place_apart t h (i ∷ p) (j ∷ q) o r b c m n =
    let in_m = place_within m.2 (part_sound t i m.0 m.2 h m.3) p m.1 (Scalar b) m.4 in
    let in_n = place_within n.2 (part_sound t j n.0 n.2 h n.3) q n.1 (Scalar c) n.4 in
    let em = m.5 in let en = n.5 in
    elim (cases_lt i j) [
      | inl low ↦ let a = part_apart t i j m.0 n.0 m.2 n.2 h low m.3 n.3 in inr (inl (omega arith))
      | inr high ↦ elim (cases_lt j i) [
        | inl low ↦ let a = part_apart t j i n.0 m.0 n.2 m.2 h low n.3 m.3 in inr (inr (omega arith))
        | inr high2 ↦
            let ij : j ≡ i = omega arith in
            let n3 = subst (λ k. Part t k n.0 n.2) ij n.3 in
            let s = part_same t i m.0 n.0 m.2 n.2 m.3 n3 in
            let s0 = s.0 in
            let n4 = subst (λ w. Place w q n.1 (Scalar c)) (sym s.1) n.4 in
            elim (place_apart m.2 (part_sound t i m.0 m.2 h m.3) p q m.1 n.1 b c m.4 n4) [
              | inl e ↦ inl (ap (λ k. k ∷ p) (sym ij) ∙ ap (λ ks. j ∷ ks) e)
              | inr far ↦ inr (elim far [ inl x ↦ inl (omega arith) | inr y ↦ inr (omega arith) ])
            ]
      ]
    ]

place_more : (t : TypeTree) (p : List ℕ) (i o a : ℕ) (u v : TypeTree) → Place t p o u → Part u i a v → Place t (p ++ i ∷ []) (o + a) v
place_more t [] i o a u v m n = let e = m.0 in (a, 0, v, subst (λ w. Part w i a v) m.1 n, (refl, refl), omega arith)
place_more t (j ∷ p) i o a u v m n = let e = m.5 in (m.0, m.1 + a, m.2, m.3, place_more m.2 p i m.1 a u v m.4 n, omega arith)

-- scalars in order
ascend_both : (xs ys : List Slot) (lo mid hi : ℕ) → Ascend lo mid xs → Ascend mid hi ys → Ascend lo hi (xs ++ ys)
ascend_both [] [] lo mid hi a b = let x : lo ≤ mid = a in let y : mid ≤ hi = b in omega arith
ascend_both [] (s ∷ ys) lo mid hi a b = let x : lo ≤ mid = a in let y = b.0 in (omega arith, b.1)
ascend_both (s ∷ xs) ys lo mid hi a b = (a.0, ascend_both xs ys (s.offset + s.bits / 8) mid hi a.1 b)

ascend_to : (xs : List Slot) (lo mid hi : ℕ) → Ascend lo mid xs → mid ≤ hi → Ascend lo hi xs
ascend_to [] lo mid hi a l = let x : lo ≤ mid = a in omega arith
ascend_to (s ∷ xs) lo mid hi a l = (a.0, ascend_to xs (s.offset + s.bits / 8) mid hi a.1 l)

ascend_from : (xs : List Slot) (lo mid hi : ℕ) → lo ≤ mid → Ascend mid hi xs → Ascend lo hi xs
ascend_from [] lo mid hi l a = let x : mid ≤ hi = a in omega arith
ascend_from (s ∷ xs) lo mid hi l a = let x = a.0 in (omega arith, a.1)

ascend_spread : (f : ℕ → ℕ → List Slot) (far n i at : ℕ) → ((j o : ℕ) → Ascend o (o + far) (f j o)) → Ascend at (at + n * far) (spread f far n i at)
ascend_spread f far zero i at h = omega arith
ascend_spread f far (suc n) i at h =
    let tail = ascend_spread f far n (suc i) (at + far) h in
    let e : at + far + n * far ≡ at + suc n * far = omega arith in
    ascend_both (f i at) (spread f far n (suc i) (at + far)) at (at + far) (at + suc n * far) (h i at) (subst (λ z. Ascend (at + far) z (spread f far n (suc i) (at + far))) e tail)

mutual
  ascend_at : (t : TypeTree) (path : List ℕ) (at : ℕ) → IsSound t → Ascend at (at + size_of t) (scalars_at t path at)
  ascend_at Void path at h = omega arith
  ascend_at (Scalar b) path at h = (omega arith, omega arith)
  ascend_at (Vector t n) path at h =
      let s = mul-le-mul_right (size_of t) (room_from n) in
      let f = λ (i o : ℕ). scalars_at t (path ++ i ∷ []) o in
      ascend_to (spread f (size_of t) n 0 at) at (at + n * size_of t) (at + room_of n * size_of t) (ascend_spread f (size_of t) n 0 at (λ j o. ascend_at t (path ++ j ∷ []) o (scalar_sound t h.0))) (omega arith)
  ascend_at (Array t n) path at h = ascend_spread (λ i o. scalars_at t (path ++ i ∷ []) o) (size_of t) n 0 at (λ j o. ascend_at t (path ++ j ∷ []) o h)
  ascend_at (Struct ts) path at h =
      let f = up_from (aligns_of 1 ts) (end_of 0 ts) (aligns_some ts h) in
      ascend_from (scalars_in ts path 0 at 0) at (at + 0) (at + size_of (Struct ts)) (omega arith) (ascend_to (scalars_in ts path 0 at 0) (at + 0) (at + end_of 0 ts) (at + size_of (Struct ts)) (ascend_in ts path 0 at 0 h) (omega arith))

  ascend_in : (ts : TypeTrees) (path : List ℕ) (k base at : ℕ) → AreSound ts → Ascend (base + at) (base + end_of at ts) (scalars_in ts path k base at)
  ascend_in none path k base at h = omega arith
  ascend_in (more t ts) path k base at h =
      let f = up_from (align_of t) at (align_some t h.0) in
      let here = scalars_at t (path ++ k ∷ []) (base + up (align_of t) at) in
      let others = scalars_in ts path (suc k) base (up (align_of t) at + size_of t) in
      let e : base + up (align_of t) at + size_of t ≡ base + (up (align_of t) at + size_of t) = omega arith in
      let one = ascend_from here (base + at) (base + up (align_of t) at) (base + up (align_of t) at + size_of t) (omega arith) (ascend_at t (path ++ k ∷ []) (base + up (align_of t) at) h.0) in
      ascend_both here others (base + at) (base + (up (align_of t) at + size_of t)) (base + end_of at (more t ts)) (subst (λ z. Ascend (base + at) z here) e one) (ascend_in ts path (suc k) base (up (align_of t) at + size_of t) h.1)

pub scalars_ascend : ScalarsAscend
scalars_ascend t h = subst (λ z. Ascend 0 z (scalars_of t)) (let e : 0 + size_of t ≡ size_of t = omega arith in e) (ascend_at t [] 0 h)

-- each scalar that is listed is a place, and each place of a scalar is listed
contains_one : (s : Slot) → Contains (s ∷ []) s
contains_one s = (0, omega arith, refl)

contains_spread : (s : Slot) (f : ℕ → ℕ → List Slot) (far n i at k : ℕ) → k < n → Contains (f (i + k) (at + k * far)) s → Contains (spread f far n i at) s
contains_spread s f far zero i at k h l = absurd (omega arith)
contains_spread s f far (suc n) i at zero h l =
    let a : i + 0 ≡ i = omega arith in
    let b : at + 0 * far ≡ at = omega arith in
    Contains-append_left (f i at) (spread f far n (suc i) (at + far)) s (subst (λ z. Contains (f z at) s) a (subst (λ z. Contains (f (i + 0) z) s) b l))
contains_spread s f far (suc n) i at (suc k) h l =
    let a : i + suc k ≡ suc i + k = omega arith in
    let b : at + suc k * far ≡ at + far + k * far = omega arith in
    Contains-append_right (f i at) (spread f far n (suc i) (at + far)) s (contains_spread s f far n (suc i) (at + far) k (omega arith) (subst (λ z. Contains (f z (at + far + k * far)) s) a (subst (λ z. Contains (f (i + suc k) z) s) b l)))

moved : (b : ℕ) (p q : List ℕ) (o r : ℕ) (ss : List Slot) → p ≡ q → o ≡ r → Contains ss (record { path = p; offset = o; bits = b }) → Contains ss (record { path = q; offset = r; bits = b })
moved b p q o r ss e f l = subst (λ z. Contains ss (record { path = z; offset = r; bits = b })) e (subst (λ z. Contains ss (record { path = p; offset = z; bits = b })) f l)

path_flat : (path : List ℕ) (i : ℕ) (p : List ℕ) → (path ++ i ∷ []) ++ p ≡ path ++ i ∷ p
path_flat path i p = append_assoc path (i ∷ []) p

abbrev bits_of : TypeTree → ℕ
bits_of (Scalar b) = b
bits_of _ = 0

abbrev is_scalar : TypeTree → Bool
is_scalar (Scalar b) = true
is_scalar _ = false

not_scalar : (t : TypeTree) (b : ℕ) → t ≡ Scalar b → is_scalar t ≡ false → ⊥
not_scalar t b e f = let g : true ≡ false = sym (ap is_scalar e) ∙ f in absurd (let h : true ≡ false = g in cc)

scalar_contained : (c : ℕ) (path : List ℕ) (at o b : ℕ) → o ≡ 0 → Scalar b ≡ Scalar c → Contains {X = Slot} (record { path = path; offset = at; bits = c } ∷ []) (record { path = path ++ []; offset = at + o; bits = b })
scalar_contained c path at o b e f =
    let w : c ≡ b = ap bits_of (sym f) in
    let g : path ≡ path ++ [] = sym (append-nil path) in
    let q : at ≡ at + o = omega arith in
    (0, omega arith, λ i. record { path = g i; offset = q i; bits = w i })

element_contained : (t : TypeTree) (n : ℕ) (path : List ℕ) (i : ℕ) (p : List ℕ) (at o b a c : ℕ) → i < n → a ≡ i * size_of t → o ≡ a + c → Contains (scalars_at t (path ++ i ∷ []) (at + i * size_of t)) (record { path = (path ++ i ∷ []) ++ p; offset = at + i * size_of t + c; bits = b }) → Contains (spread (λ j x. scalars_at t (path ++ j ∷ []) x) (size_of t) n 0 at) (record { path = path ++ i ∷ p; offset = at + o; bits = b })
element_contained t n path i p at o b a c h g f l =
    let S : Slot = record { path = path ++ i ∷ p; offset = at + o; bits = b } in
    let e : at + i * size_of t + c ≡ at + o = omega arith in
    let l2 = moved b ((path ++ i ∷ []) ++ p) (path ++ i ∷ p) (at + i * size_of t + c) (at + o) (scalars_at t (path ++ i ∷ []) (at + i * size_of t)) (path_flat path i p) e l in
    contains_spread S (λ j x. scalars_at t (path ++ j ∷ []) x) (size_of t) n 0 at i h
    (subst (λ z. Contains (scalars_at t (path ++ z ∷ []) (at + i * size_of t)) S) (let z : i ≡ 0 + i = omega arith in z) l2)

mutual
  place_contained : (t : TypeTree) (path p : List ℕ) (at o b : ℕ) → Place t p o (Scalar b) → Contains (scalars_at t path at) (record { path = path ++ p; offset = at + o; bits = b })
  place_contained Void path [] at o b m = absurd (not_scalar Void b (sym m.1) refl)
  place_contained Void path (i ∷ p) at o b m = absurd m.3
  place_contained (Scalar c) path [] at o b m = scalar_contained c path at o b m.0 m.1
  place_contained (Scalar c) path (i ∷ p) at o b m = absurd m.3
  place_contained (Vector t n) path [] at o b m = absurd (not_scalar (Vector t n) b (sym m.1) refl)
  place_contained (Vector t n) path (i ∷ p) at o b m = element_contained t n path i p at o b m.0 m.1 m.3.0 m.3.1 m.5 (place_contained t (path ++ i ∷ []) p (at + i * size_of t) m.1 b (subst (λ w. Place w p m.1 (Scalar b)) m.3.2 m.4))
  place_contained (Array t n) path [] at o b m = absurd (not_scalar (Array t n) b (sym m.1) refl)
  place_contained (Array t n) path (i ∷ p) at o b m = element_contained t n path i p at o b m.0 m.1 m.3.0 m.3.1 m.5 (place_contained t (path ++ i ∷ []) p (at + i * size_of t) m.1 b (subst (λ w. Place w p m.1 (Scalar b)) m.3.2 m.4))
  place_contained (Struct ts) path [] at o b m = absurd (not_scalar (Struct ts) b (sym m.1) refl)
  place_contained (Struct ts) path (i ∷ p) at o b m =
      let l = member_contained ts path i p at 0 m.0 m.1 b m.2 0 m.3 m.4 in
      moved b (path ++ (0 + i) ∷ p) (path ++ i ∷ p) (at + (m.0 + m.1)) (at + o) (scalars_in ts path 0 at 0) (ap (λ z. path ++ z ∷ p) (let z : 0 + i ≡ i = omega arith in z)) (ap (λ z. at + z) (sym m.5)) l

  member_contained : (ts : TypeTrees) (path : List ℕ) (i : ℕ) (p : List ℕ) (base at a c b : ℕ) (u : TypeTree) (k : ℕ) → Member ts at i a u → Place u p c (Scalar b) → Contains (scalars_in ts path k base at) (record { path = path ++ (k + i) ∷ p; offset = base + (a + c); bits = b })
  member_contained none path i p base at a c b u k m l = absurd m
  member_contained (more t ts) path zero p base at a c b u k m l =
      let here = place_contained t (path ++ k ∷ []) p (base + up (align_of t) at) c b (subst (λ w. Place w p c (Scalar b)) m.1 l) in
      let e : base + up (align_of t) at + c ≡ base + (a + c) = (let x = m.0 in omega arith) in
      let e2 : (path ++ k ∷ []) ++ p ≡ path ++ (k + 0) ∷ p = path_flat path k p ∙ ap (λ z. path ++ z ∷ p) (let z : k ≡ k + 0 = omega arith in z) in
      Contains-append_left (scalars_at t (path ++ k ∷ []) (base + up (align_of t) at)) (scalars_in ts path (suc k) base (up (align_of t) at + size_of t)) _
      (moved b ((path ++ k ∷ []) ++ p) (path ++ (k + 0) ∷ p) (base + up (align_of t) at + c) (base + (a + c)) (scalars_at t (path ++ k ∷ []) (base + up (align_of t) at)) e2 e here)
  member_contained (more t ts) path (suc i) p base at a c b u k m l =
      let there = member_contained ts path i p base (up (align_of t) at + size_of t) a c b u (suc k) m l in
      Contains-append_right (scalars_at t (path ++ k ∷ []) (base + up (align_of t) at)) (scalars_in ts path (suc k) base (up (align_of t) at + size_of t)) _
      (moved b (path ++ (suc k + i) ∷ p) (path ++ (k + suc i) ∷ p) (base + (a + c)) (base + (a + c)) (scalars_in ts path (suc k) base (up (align_of t) at + size_of t)) (ap (λ z. path ++ z ∷ p) (let z : suc k + i ≡ k + suc i = omega arith in z)) refl there)

pub places_are_scalars : PlacesAreScalars
places_are_scalars t p o b m = moved b ([] ++ p) p (0 + o) o (scalars_of t) refl (let z : 0 + o ≡ o = omega arith in z) (place_contained t [] p 0 o b m)

-- a fact of each scalar
abbrev Each : (Slot → Type 0) → List Slot → Type 0
Each fact [] = Unit {0}
Each fact (s ∷ ss) = fact s × Each fact ss

each_both : (fact : Slot → Type 0) (xs ys : List Slot) → Each fact xs → Each fact ys → Each fact (xs ++ ys)
each_both fact [] ys h g = g
each_both fact (s ∷ xs) ys h g = (h.0, each_both fact xs ys h.1 g)

each_at : (fact : Slot → Type 0) (xs : List Slot) (s : Slot) → Each fact xs → Contains xs s → fact s
each_at fact [] s h c = absurd (let l = c.1 in omega arith)
each_at fact (x ∷ xs) s h c = by c.0 c.1 c.2 (λ d. each_at fact xs s h.1 d)
  where
    by : (k : ℕ) → k < length (x ∷ xs) → slice_index_or (x ∷ xs) k s ≡ s → (Contains xs s → fact s) → fact s
    by zero l e f = subst fact e h.0
    by (suc k) l e f = f (k, omega arith, e)

each_spread : (fact : Slot → Type 0) (f : ℕ → ℕ → List Slot) (far n i at : ℕ) → ((k : ℕ) → k < n → Each fact (f (i + k) (at + k * far))) → Each fact (spread f far n i at)
each_spread fact f far zero i at h = tt
each_spread fact f far (suc n) i at h =
    let a : i + 0 ≡ i = omega arith in
    let b : at + 0 * far ≡ at = omega arith in
    each_both fact (f i at) (spread f far n (suc i) (at + far))
    (subst (λ z. Each fact (f z at)) a (subst (λ z. Each fact (f (i + 0) z)) b (h 0 (omega arith))))
    (each_spread fact f far n (suc i) (at + far) (λ k l.
    let c : i + suc k ≡ suc i + k = omega arith in
    let d : at + suc k * far ≡ at + far + k * far = omega arith in
    subst (λ z. Each fact (f z (at + far + k * far))) c (subst (λ z. Each fact (f (i + suc k) z)) d (h (suc k) (omega arith)))))

abbrev IsPlace : TypeTree → Slot → Type 0
IsPlace whole s = Place whole s.path s.offset (Scalar s.bits)

mutual
  listed_places : (whole t : TypeTree) (path : List ℕ) (at : ℕ) → Place whole path at t → Each (IsPlace whole) (scalars_at t path at)
  listed_places whole Void path at h = tt
  listed_places whole (Scalar b) path at h = (h, tt)
  listed_places whole (Vector t n) path at h =
      each_spread (IsPlace whole) (λ i o. scalars_at t (path ++ i ∷ []) o) (size_of t) n 0 at (λ k l.
      let z : k ≡ 0 + k = omega arith in
      listed_places whole t (path ++ (0 + k) ∷ []) (at + k * size_of t) (place_more whole path (0 + k) at (k * size_of t) (Vector t n) t h (omega arith, ap (λ x. x * size_of t) z, refl)))
  listed_places whole (Array t n) path at h =
      each_spread (IsPlace whole) (λ i o. scalars_at t (path ++ i ∷ []) o) (size_of t) n 0 at (λ k l.
      let z : k ≡ 0 + k = omega arith in
      listed_places whole t (path ++ (0 + k) ∷ []) (at + k * size_of t) (place_more whole path (0 + k) at (k * size_of t) (Array t n) t h (omega arith, ap (λ x. x * size_of t) z, refl)))
  listed_places whole (Struct ts) path at h = members_listed whole ts path 0 at 0 (λ k o u m. place_more whole path (0 + k) at o (Struct ts) u h (subst (λ z. Member ts 0 z o u) (let z : k ≡ 0 + k = omega arith in z) m))

  members_listed : (whole : TypeTree) (ts : TypeTrees) (path : List ℕ) (i base at : ℕ) → ((k o : ℕ) (u : TypeTree) → Member ts at k o u → Place whole (path ++ (i + k) ∷ []) (base + o) u) → Each (IsPlace whole) (scalars_in ts path i base at)
  members_listed whole none path i base at h = tt
  members_listed whole (more t ts) path i base at h =
      let here = subst (λ z. Place whole (path ++ z ∷ []) (base + up (align_of t) at) t) (let z : i + 0 ≡ i = omega arith in z) (h 0 (up (align_of t) at) t (refl, refl)) in
      each_both (IsPlace whole) (scalars_at t (path ++ i ∷ []) (base + up (align_of t) at)) (scalars_in ts path (suc i) base (up (align_of t) at + size_of t))
      (listed_places whole t (path ++ i ∷ []) (base + up (align_of t) at) here)
      (members_listed whole ts path (suc i) base (up (align_of t) at + size_of t) (λ k o u m. subst (λ z. Place whole (path ++ z ∷ []) (base + o) u) (let z : i + suc k ≡ suc i + k = omega arith in z) (h (suc k) o u m)))

pub scalars_are_places : ScalarsArePlaces
scalars_are_places t s c = each_at (IsPlace t) (scalars_of t) s (listed_places t t [] 0 (refl, refl)) c

-- each part lies at a multiple of its alignment
member_divides : (ts : TypeTrees) (a at k o : ℕ) (u : TypeTree) → AreSound ts → IsPower a → Member ts at k o u → Divides (align_of u) (aligns_of a ts) × Divides (align_of u) o
member_divides none a at k o u h p m = absurd m
member_divides (more t ts) a at zero o u h p m =
    let x = max_power a (align_of t) p (align_power t h.0) in
    let r = aligns_power ts (max a (align_of t)) h.1 x.is_power in
    subst (λ w. Divides (align_of w) (aligns_of a (more t ts)) × Divides (align_of w) o) (sym m.1)
    (divides_then (align_of t) (max a (align_of t)) (aligns_of (max a (align_of t)) ts) x.second r.1, subst (Divides (align_of t)) (sym m.0) (divides_up (align_of t) at))
member_divides (more t ts) a at (suc k) o u h p m =
    let x = max_power a (align_of t) p (align_power t h.0) in
    member_divides ts (max a (align_of t)) (up (align_of t) at + size_of t) k o u h.1 x.is_power m

size_multiple : (t : TypeTree) → Divides (align_of t) (size_of t)
size_multiple Void = (0, refl)
size_multiple (Scalar b) = divides_self (b / 8)
size_multiple (Vector t n) = divides_both (align_of t) (size_of t) (room_of n) (size_multiple t)
size_multiple (Array t n) = divides_times (align_of t) (size_of t) n (size_multiple t)
size_multiple (Struct ts) = divides_up (aligns_of 1 ts) (end_of 0 ts)

pub sizes_are_multiples : SizesAreMultiples
sizes_are_multiples t h = size_multiple t

part_aligned : (t : TypeTree) (i o : ℕ) (u : TypeTree) → IsSound t → Part t i o u → Divides (align_of u) (align_of t) × Divides (align_of u) o
part_aligned Void i o u h m = absurd m
part_aligned (Scalar b) i o u h m = absurd m
part_aligned (Vector t n) i o u h m = subst (λ w. Divides (align_of w) (room_of n * align_of t) × Divides (align_of w) o) (sym m.2) ((room_of n, refl), subst (Divides (align_of t)) (sym m.1) (divides_times (align_of t) (size_of t) i (size_multiple t)))
part_aligned (Array t n) i o u h m = subst (λ w. Divides (align_of w) (align_of t) × Divides (align_of w) o) (sym m.2) (divides_self (align_of t), subst (Divides (align_of t)) (sym m.1) (divides_times (align_of t) (size_of t) i (size_multiple t)))
part_aligned (Struct ts) i o u h m = member_divides ts 1 0 i o u h (0, refl) m

place_divides : (t : TypeTree) (p : List ℕ) (o : ℕ) (u : TypeTree) → IsSound t → Place t p o u → Divides (align_of u) (align_of t) × Divides (align_of u) o
place_divides t [] o u h m = subst (λ w. Divides (align_of w) (align_of t) × Divides (align_of w) o) (sym m.1) (divides_self (align_of t), (0, let e = m.0 in omega arith))
place_divides t (i ∷ p) o u h m =
    let a = part_aligned t i m.0 m.2 h m.3 in
    let b = place_divides m.2 p m.1 u (part_sound t i m.0 m.2 h m.3) m.4 in
    (divides_then (align_of u) (align_of m.2) (align_of t) b.0 a.0, subst (Divides (align_of u)) (sym m.5) (divides_add (align_of u) m.0 m.1 (divides_then (align_of u) (align_of m.2) m.0 b.0 a.1) b.1))

pub places_are_aligned : PlacesAreAligned
places_are_aligned t h p o u m = (place_divides t p o u h m).1
