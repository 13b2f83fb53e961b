-- Two tables of types have a common longer one: the second, with the types of the first that it lacks behind it.
use Rattle.std.proofs.Common.{◌≡◌, ℕ, zero, suc, ◌+◌, ◌<◌, ◌≤◌, ◌^◌, ◌⊎◌, inl, inr, List, [], ◌∷◌, ◌++◌, length, map, refl, sym, ap, ◌∙◌, subst, arith, append_assoc, nat_lt, if◌then◌else◌, Bool, true, false, true≢false, Option, Some, None, slice_get}
use Rattle.std.specs.Option.{option_map}
use Rattle.std.proofs.lemmas.Bool.{cases_lt, lt-ltb, le-ltb}
use Rattle.std.proofs.lemmas.List.{append-nil, length-map, length-append}
use Rattle.std.proofs.lemmas.Option.{slice_get_within, slice_get_past}
use Rattle.cl_types.specs.declared.types.ClType.{ClType}
use Rattle.cl_types.specs.declared.types.ClType.TheVariants as ty
use Rattle.cl_types.specs.declared.types.Member.{Member}
use Rattle.cl_types.specs.declared.types.TypeId.{TypeId}
use Rattle.cl_types.specs.Equal.{type_same, type_own}
use Rattle.cl_types.specs.Same.{type_eq}
use Rattle.cl_types.specs.Table.{tree_at, tree_from, trees, tree_of, is_sized, is_integer, AreSized, IsBuilt, AreBuilt, IsWithin, IsTable}
use Rattle.cl_types.proofs.Rows.{sized_low, integer_low, tree_left, tree_last, trees_more, trees_length}
use Rattle.cl_builtins.specs.Found.{IsGrown}
use Rattle.cl_builtins.proofs.Growth.{grown_same, grown_twice, grown_get, get_left}
use Rattle.cl_make.proofs.Growing.{none_some, some_same, get_some, MembersKnown, PartsKnown, parts_at, layout_stays}
use Rattle.cl_renaming.specs.Renaming.{type_id, member, cl_type, TellsApart, IsRenaming, AreTypes, Joins}
use Rattle.cl_renaming.proofs.Shapes.{found_as}
use Rattle.cl_renaming.proofs.Layouts.{tree_from_as}

-- ---- lists

length_more : {A : Type 0} (xs : List A) (x : A) → length (xs ++ x ∷ []) ≡ suc (length xs)
length_more [] x = refl
length_more (a ∷ xs) x = ap suc (length_more xs x)

get_last : {A : Type 0} (xs : List A) (x : A) → slice_get (xs ++ x ∷ []) (length xs) ≡ Some x
get_last [] x = refl
get_last (a ∷ xs) x = get_last xs x

get_more : {A : Type 0} (xs : List A) (y : A) (i : ℕ) (x : A) → slice_get (xs ++ y ∷ []) i ≡ Some x → (slice_get xs i ≡ Some x) ⊎ ((i ≡ length xs) × (y ≡ x))
get_more [] y zero x e = inr (refl, some_same y x e)
get_more [] y (suc i) x e = absurd (none_some e)
get_more (a ∷ xs) y zero x e = inl e
get_more (a ∷ xs) y (suc i) x e = elim (get_more xs y i x e) [ inl f ↦ inl f | inr f ↦ inr (ap suc f.0, f.1) ]

get_past : {A : Type 0} (xs : List A) (i : ℕ) → slice_get xs i ≡ None → length xs ≤ i
get_past [] i e = omega arith
get_past (x ∷ xs) zero e = absurd (none_some (sym e))
get_past (x ∷ xs) (suc i) e = let h = get_past xs i e in omega arith

-- where a type stands
is_there : (cs : List ClType) (c : ClType) → ((k : ℕ) × (slice_get cs k ≡ Some c)) ⊎ ((k : ℕ) → slice_get cs k ≡ Some c → ⊥)
is_there [] c = inr (λ k e. none_some e)
is_there (d ∷ cs) c = by (type_eq d c) refl (is_there cs c)
  where
    other : (type_eq d c ≡ false) → ((k : ℕ) → slice_get cs k ≡ Some c → ⊥) → (k : ℕ) → slice_get (d ∷ cs) k ≡ Some c → ⊥
    other n a zero e = true≢false (sym (subst (λ z. type_eq d z ≡ true) (some_same d c e) (type_own d)) ∙ n)
    other n a (suc k) e = a k e

    by : (b : Bool) → type_eq d c ≡ b → ((k : ℕ) × (slice_get cs k ≡ Some c)) ⊎ ((k : ℕ) → slice_get cs k ≡ Some c → ⊥) → ((k : ℕ) × (slice_get (d ∷ cs) k ≡ Some c)) ⊎ ((k : ℕ) → slice_get (d ∷ cs) k ≡ Some c → ⊥)
    by true t h = inl (zero, ap Some (type_same d c t))
    by false t (inl h) = inl (suc h.0, h.1)
    by false t (inr a) = inr (other t a)

-- ---- other numbers tell types apart

module _ (r : ℕ → ℕ) (d : TellsApart r) where
  number_told : (a b : TypeId) → r a.0 ≡ r b.0 → a ≡ b
  number_told a b e = let f = d a.0 b.0 e in λ i. record { 0 = f i }

  members_told : (ms ns : List Member) → map (member r) ms ≡ map (member r) ns → ms ≡ ns
  members_told [] [] e = refl
  members_told [] (n ∷ ns) e = cc
  members_told (m ∷ ms) [] e = cc
  members_told (m ∷ ms) (n ∷ ns) e =
      let f : member r m ≡ member r n = cc in
      let g : map (member r) ms ≡ map (member r) ns = cc in
      let h = number_told m.ty n.ty (ap (λ z. z.ty.0) f) in
      let k : m.name ≡ n.name = ap (λ z. z.name) f in
      let rest = members_told ms ns g in
      λ i. record { name = k i; ty = h i } ∷ rest i

  type_told : (a b : ClType) → cl_type r a ≡ cl_type r b → a ≡ b
  type_told ty.Void ty.Void e = refl
  type_told ty.Bool ty.Bool e = refl
  type_told (ty.Int bits signed) (ty.Int bits2 signed2) e = e
  type_told (ty.Vector elem n) (ty.Vector elem2 n2) e =
      let f : type_id r elem ≡ type_id r elem2 = cc in
      let g : n ≡ n2 = cc in
      let h = number_told elem elem2 (ap (λ z. z.0) f) in
      λ i. ty.Vector (h i) (g i)
  type_told (ty.Array elem n) (ty.Array elem2 n2) e =
      let f : type_id r elem ≡ type_id r elem2 = cc in
      let g : n ≡ n2 = cc in
      let h = number_told elem elem2 (ap (λ z. z.0) f) in
      λ i. ty.Array (h i) (g i)
  type_told (ty.Struct name ms) (ty.Struct name2 ns) e =
      let f : name ≡ name2 = cc in
      let g : map (member r) ms ≡ map (member r) ns = cc in
      let h = members_told ms ns g in
      λ i. ty.Struct (f i) (h i)
  type_told (ty.Pointer s to ro re) (ty.Pointer s2 to2 ro2 re2) e =
      let f : type_id r to ≡ type_id r to2 = cc in
      let g : s ≡ s2 = cc in
      let k : ro ≡ ro2 = cc in
      let l : re ≡ re2 = cc in
      let h = number_told to to2 (ap (λ z. z.0) f) in
      λ i. ty.Pointer (g i) (h i) (k i) (l i)
  type_told _ _ e = cc

-- ---- numbers that agree on what a type is made of

module _ (cs : List ClType) (r s : ℕ → ℕ) (h : (i : ℕ) → i < length cs → r i ≡ s i) where
  same_number : (t : TypeId) → t.0 < length cs → type_id r t ≡ type_id s t
  same_number t l = let e = h t.0 l in λ i. record { 0 = e i }

  same_members : (ms : List Member) → MembersKnown cs ms → map (member r) ms ≡ map (member s) ms
  same_members [] k = refl
  same_members (m ∷ ms) k = let e = same_number m.ty k.0 in let f = same_members ms k.1 in λ i. record { name = m.name; ty = e i } ∷ f i

  pub same_type_as : (c : ClType) → PartsKnown cs c → cl_type r c ≡ cl_type s c
  same_type_as ty.Void k = refl
  same_type_as ty.Bool k = refl
  same_type_as (ty.Int bits signed) k = refl
  same_type_as (ty.Vector elem n) k = ap (λ t. ty.Vector t n) (same_number elem k)
  same_type_as (ty.Array elem n) k = ap (λ t. ty.Array t n) (same_number elem k)
  same_type_as (ty.Struct name ms) k = ap (ty.Struct name) (same_members ms k)
  same_type_as (ty.Pointer space to readonly restricted) k = ap (λ t. ty.Pointer space t readonly restricted) (same_number to k)

-- ---- types by other numbers are built of types

module _ (cs ds : List ClType) (r : ℕ → ℕ) (e : IsRenaming cs ds r) where
  pub known_as : (i : ℕ) → i < length cs → r i < length ds
  known_as i l = let c = get_some cs i l in slice_get_within ds (r i) (cl_type r c.0) (e.has i c.0 c.1)

  sized_in : (o : Option ClType) → is_sized (option_map (cl_type r) o) ≡ is_sized o
  sized_in None = refl
  sized_in (Some ty.Void) = refl
  sized_in (Some _) = refl

  integer_in : (o : Option ClType) → is_integer (option_map (cl_type r) o) ≡ is_integer o
  integer_in None = refl
  integer_in (Some (ty.Int bits signed)) = refl
  integer_in (Some _) = refl

  sized_as : (i : ℕ) → is_sized (slice_get ds (r i)) ≡ is_sized (slice_get cs i)
  sized_as i = ap is_sized (found_as cs ds r e i) ∙ sized_in (slice_get cs i)

  all_sized_as : (ms : List Member) → AreSized cs ms → AreSized ds (map (member r) ms)
  all_sized_as [] h = tt
  all_sized_as (m ∷ ms) h = (sized_as m.ty.0 ∙ h.0, all_sized_as ms h.1)

  pub built_as : (c : ClType) → IsBuilt cs c → IsBuilt ds (cl_type r c)
  built_as ty.Void b = tt
  built_as ty.Bool b = tt
  built_as (ty.Int bits signed) b = b
  built_as (ty.Vector elem n) b = (ap is_integer (found_as cs ds r e elem.0) ∙ integer_in (slice_get cs elem.0) ∙ b.0, b.1)
  built_as (ty.Array elem n) b = (sized_as elem.0 ∙ b.0, b.1)
  built_as (ty.Struct name ms) b = (all_sized_as ms b.0, subst (λ k. 0 < k) (sym (length-map ms (member r))) b.1)
  built_as (ty.Pointer space to readonly restricted) b = known_as to.0 b

-- ---- a number for one more type

-- the numbers below n, one for n, and numbers from m on for those above it
abbrev pub with_number : (ℕ → ℕ) → ℕ → ℕ → ℕ → ℕ → ℕ
with_number r n k m i = if nat_lt i n then r i else (if nat_lt n i then m + i else k)

three_ways : (i n : ℕ) → (i < n) ⊎ ((i ≡ n) ⊎ (n < i))
three_ways i n = elim (cases_lt i n) [
  | inl low ↦ inl low
  | inr high ↦ elim (cases_lt n i) [
    | inl above ↦ inr (inr above)
    | inr equal ↦ inr (inl (omega arith))
  ]
]

module _ (r : ℕ → ℕ) (n k m : ℕ) where
  below : (i : ℕ) → i < n → with_number r n k m i ≡ r i
  below i l = ap (λ b. if b then r i else (if nat_lt n i then m + i else k)) (lt-ltb i n l)

  above : (i : ℕ) → n < i → with_number r n k m i ≡ m + i
  above i l = (λ j. if le-ltb i n (let h : n ≤ i = omega arith in h) j then r i else (if lt-ltb n i l j then m + i else k))

  here : (i : ℕ) → i ≡ n → with_number r n k m i ≡ k
  here i e = (λ j. if le-ltb i n (let h : n ≤ i = omega arith in h) j then r i else (if le-ltb n i (let h : i ≤ n = omega arith in h) j then m + i else k))

  with_number_tells : ((a b : ℕ) → r a ≡ r b → a ≡ b) → ((a : ℕ) → a < n → r a < m) → k < m → ((a : ℕ) → a < n → r a ≡ k → ⊥) → TellsApart (with_number r n k m)
  with_number_tells t low small other a b e = by (three_ways a n) (three_ways b n)
    where
      by : (a < n) ⊎ ((a ≡ n) ⊎ (n < a)) → (b < n) ⊎ ((b ≡ n) ⊎ (n < b)) → a ≡ b
      by (inl x) (inl y) = t a b (sym (below a x) ∙ e ∙ below b y)
      by (inl x) (inr (inl y)) = absurd (other a x (sym (below a x) ∙ e ∙ here b y))
      by (inl x) (inr (inr y)) = absurd (let f : r a ≡ m + b = sym (below a x) ∙ e ∙ above b y in let l = low a x in omega arith)
      by (inr (inl x)) (inl y) = absurd (other b y (sym (below b y) ∙ sym e ∙ here a x))
      by (inr (inl x)) (inr (inl y)) = x ∙ sym y
      by (inr (inl x)) (inr (inr y)) = absurd (let f : k ≡ m + b = sym (here a x) ∙ e ∙ above b y in omega arith)
      by (inr (inr x)) (inl y) = absurd (let f : r b ≡ m + a = sym (below b y) ∙ sym e ∙ above a x in let l = low b y in omega arith)
      by (inr (inr x)) (inr (inl y)) = absurd (let f : k ≡ m + a = sym (here b y) ∙ sym e ∙ above a x in omega arith)
      by (inr (inr x)) (inr (inr y)) = let f : m + a ≡ m + b = sym (above a x) ∙ e ∙ above b y in omega arith

grown_length : (old new : List ClType) → IsGrown old new → length old ≤ length new
grown_length old new g = let e = ap length g.1 in let l = length-append old g.0 in omega arith

module _ (cs all new : List ClType) (c : ClType) (r : ℕ → ℕ) (k : ℕ) (e : IsRenaming cs all r) (b : AreBuilt [] cs) (p : PartsKnown cs c) (g : IsGrown all new) (f : slice_get new k ≡ Some (cl_type r c)) (a : (i : ℕ) → i < length cs → r i ≡ k → ⊥) where
  abbrev more_numbers : ℕ → ℕ
  more_numbers = with_number r (length cs) k (length new)

  agree : (i : ℕ) → i < length cs → r i ≡ more_numbers i
  agree i l = sym (below r (length cs) k (length new) i l)

  low_number : (i : ℕ) → i < length cs → r i < length new
  low_number i l = let h = known_as cs all r e i l in let m = grown_length all new g in omega arith

  has_more : (i : ℕ) (d : ClType) → slice_get (cs ++ c ∷ []) i ≡ Some d → slice_get new (more_numbers i) ≡ Some (cl_type more_numbers d)
  has_more i d h = elim (get_more cs c i d h) [
    | inl x ↦
        let l = slice_get_within cs i d x in
        ap (slice_get new) (sym (agree i l)) ∙ grown_get all new (r i) g (known_as cs all r e i l) ∙ e.has i d x ∙ ap Some (same_type_as cs r more_numbers agree d (parts_at cs i d b x))
    | inr x ↦
        ap (slice_get new) (here r (length cs) k (length new) i x.0) ∙ f ∙ ap Some (same_type_as cs r more_numbers agree c p) ∙ ap (λ z. Some (cl_type more_numbers z)) x.1
  ]

  lacks_more : (i : ℕ) → slice_get (cs ++ c ∷ []) i ≡ None → slice_get new (more_numbers i) ≡ None
  lacks_more i h =
      let l = get_past (cs ++ c ∷ []) i h in
      let m = length_more cs c in
      let q : length cs < i = omega arith in
      ap (slice_get new) (above r (length cs) k (length new) i q) ∙ slice_get_past new (length new + i) (omega arith)

  renaming_more : IsRenaming (cs ++ c ∷ []) new more_numbers
  renaming_more = record {
    differ = with_number_tells r (length cs) k (length new) e.differ low_number (slice_get_within new k (cl_type r c) f) a;
    has = has_more;
    lacks = lacks_more;
  }

-- ---- one more type

built_front : (bs xs ys : List ClType) → AreBuilt bs (xs ++ ys) → AreBuilt bs xs
built_front bs [] ys b = tt
built_front bs (x ∷ xs) ys b = (b.0, built_front (bs ++ x ∷ []) xs ys b.1)

built_next : (bs xs : List ClType) (c : ClType) (ys : List ClType) → AreBuilt bs (xs ++ c ∷ ys) → IsBuilt (bs ++ xs) c
built_next bs [] c ys b = subst (λ z. IsBuilt z c) (sym (append-nil bs)) b.0
built_next bs (x ∷ xs) c ys b = subst (λ z. IsBuilt z c) (append_assoc bs (x ∷ []) xs) (built_next (bs ++ x ∷ []) xs c ys b.1)

built_more : (bs cs : List ClType) (c : ClType) → AreBuilt bs cs → IsBuilt (bs ++ cs) c → AreBuilt bs (cs ++ c ∷ [])
built_more bs [] c b h = (subst (λ z. IsBuilt z c) (append-nil bs) h, tt)
built_more bs (d ∷ cs) c b h = (b.0, built_more (bs ++ d ∷ []) cs c b.1 (subst (λ z. IsBuilt z c) (sym (append_assoc bs (d ∷ []) cs)) h))

members_built : (cs : List ClType) (ms : List Member) → AreSized cs ms → MembersKnown cs ms
members_built cs [] h = tt
members_built cs (m ∷ ms) h = (sized_low cs m.ty.0 h.0, members_built cs ms h.1)

built_parts : (cs : List ClType) (c : ClType) → IsBuilt cs c → PartsKnown cs c
built_parts cs ty.Void b = tt
built_parts cs ty.Bool b = tt
built_parts cs (ty.Int bits signed) b = tt
built_parts cs (ty.Vector elem n) b = integer_low cs elem.0 b.0
built_parts cs (ty.Array elem n) b = sized_low cs elem.0 b.0
built_parts cs (ty.Struct name ms) b = members_built cs ms b.0
built_parts cs (ty.Pointer space to readonly restricted) b = b

-- the tree of the last type
last_tree : (cs : List ClType) (c : ClType) → tree_of (cs ++ c ∷ []) (length cs) ≡ tree_from (trees cs) c
last_tree cs c =
    let n = trees_length cs in
    ap (λ ts. tree_at ts (length cs)) (trees_more cs c) ∙ ap (tree_at (trees cs ++ tree_from (trees cs) c ∷ [])) (sym n) ∙ tree_last (trees cs) (tree_from (trees cs) c)

within_more : (cs : List ClType) (c : ClType) → ((i : ℕ) → i < length cs → IsWithin (tree_of cs i)) → IsWithin (tree_from (trees cs) c) → (i : ℕ) → i < length (cs ++ c ∷ []) → IsWithin (tree_of (cs ++ c ∷ []) i)
within_more cs c h w i l =
    let m = length_more cs c in
    let n = trees_length cs in
    elim (cases_lt i (length cs)) [
      | inl low ↦ subst IsWithin (sym (ap (λ ts. tree_at ts i) (trees_more cs c) ∙ tree_left (trees cs) (tree_from (trees cs) c ∷ []) i (omega arith))) (h i low)
      | inr high ↦
          let z : i ≡ length cs = omega arith in
          subst IsWithin (sym (ap (tree_of (cs ++ c ∷ [])) z ∙ last_tree cs c)) w
    ]

distinct_more : (cs : List ClType) (c : ClType) → ((i j : ℕ) (d : ClType) → slice_get cs i ≡ Some d → slice_get cs j ≡ Some d → i ≡ j) → ((i : ℕ) → slice_get cs i ≡ Some c → ⊥) → (i j : ℕ) (d : ClType) → slice_get (cs ++ c ∷ []) i ≡ Some d → slice_get (cs ++ c ∷ []) j ≡ Some d → i ≡ j
distinct_more cs c h a i j d e f = elim (get_more cs c i d e) [
  | inl x ↦ elim (get_more cs c j d f) [
    | inl y ↦ h i j d x y
    | inr y ↦ absurd (a i (x ∙ ap Some (sym y.1)))
  ]
  | inr x ↦ elim (get_more cs c j d f) [
    | inl y ↦ absurd (a j (y ∙ ap Some (sym x.1)))
    | inr y ↦ x.0 ∙ sym y.0
  ]
]

types_more : (cs : List ClType) (c : ClType) → AreTypes cs → IsBuilt cs c → IsWithin (tree_from (trees cs) c) → ((i : ℕ) → slice_get cs i ≡ Some c → ⊥) → AreTypes (cs ++ c ∷ [])
types_more cs c t b w a = record { built = built_more [] cs c t.built b; distinct = distinct_more cs c t.distinct a; within = within_more cs c t.within w }

-- the first of types
module _ (xs ys : List ClType) (t : AreTypes (xs ++ ys)) where
  get_front : (i : ℕ) (c : ClType) → slice_get xs i ≡ Some c → slice_get (xs ++ ys) i ≡ Some c
  get_front i c e = get_left xs ys i (slice_get_within xs i c e) ∙ e

  pub types_front : AreTypes xs
  types_front = record {
    built = built_front [] xs ys t.built;
    distinct = λ i j c e f. t.distinct i j c (get_front i c e) (get_front j c f);
    within = λ i l.
        subst IsWithin (layout_stays xs (xs ++ ys) (record { 0 = i }) (ys, refl) l) (t.within i (let h = length-append xs ys in omega arith));
  }

-- ---- one type after the other

module _ (cs : List ClType) (c : ClType) (ds : List ClType) (t : AreTypes (cs ++ c ∷ [])) (j : Joins cs ds) where
  first_built : AreBuilt [] cs
  first_built = built_front [] cs (c ∷ []) t.built

  next_built : IsBuilt cs c
  next_built = built_next [] cs c [] t.built

  next_new : (i : ℕ) → slice_get cs i ≡ Some c → ⊥
  next_new i e =
      let l = slice_get_within cs i c e in
      let f = t.distinct i (length cs) c (get_front cs (c ∷ []) t i c e) (get_last cs c) in
      absurd (omega arith)

  next_within : IsWithin (tree_from (trees cs) c)
  next_within = subst IsWithin (last_tree cs c) (t.within (length cs) (let h = length_more cs c in omega arith))

  -- the type is there by a number that no other has
  known_next : (k : ℕ) → slice_get j.all k ≡ Some (cl_type j.numbers c) → (i : ℕ) → i < length cs → j.numbers i ≡ k → ⊥
  known_next k e i l f =
      let d = get_some cs i l in
      let g : Some (cl_type j.numbers d.0) ≡ Some (cl_type j.numbers c) = sym (j.is.renaming.has i d.0 d.1) ∙ ap (slice_get j.all) f ∙ e in
      let h = type_told j.numbers j.is.renaming.differ d.0 c (some_same (cl_type j.numbers d.0) (cl_type j.numbers c) g) in
      next_new i (d.1 ∙ ap Some h)

  with_known : (k : ℕ) → slice_get j.all k ≡ Some (cl_type j.numbers c) → Joins (cs ++ c ∷ []) ds
  with_known k e = record {
    all = j.all;
    numbers = with_number j.numbers (length cs) k (length j.all);
    is = record {
      types = j.is.types;
      grown = j.is.grown;
      renaming = renaming_more cs j.all j.all c j.numbers k j.is.renaming first_built (built_parts cs c next_built) (grown_same j.all j.all refl) e (known_next k e);
      few = (let h = length_more cs c in let f = j.is.few in omega arith);
    };
  }

  with_new : ((k : ℕ) → slice_get j.all k ≡ Some (cl_type j.numbers c) → ⊥) → Joins (cs ++ c ∷ []) ds
  with_new a =
      let d = cl_type j.numbers c in
      let g : IsGrown j.all (j.all ++ d ∷ []) = (d ∷ [], refl) in
      let w : IsWithin (tree_from (trees j.all) d) = subst IsWithin (sym (tree_from_as cs j.all j.numbers first_built j.is.types.built j.is.renaming c)) next_within in
      record {
        all = j.all ++ d ∷ [];
        numbers = with_number j.numbers (length cs) (length j.all) (length (j.all ++ d ∷ []));
        is = record {
          types = types_more j.all d j.is.types (built_as cs j.all j.numbers j.is.renaming c next_built) w a;
          grown = grown_twice ds j.all (j.all ++ d ∷ []) j.is.grown g;
          renaming =
              renaming_more cs j.all (j.all ++ d ∷ []) c j.numbers (length j.all) j.is.renaming first_built (built_parts cs c next_built) g (get_last j.all d)
              (λ i l f. let h = known_as cs j.all j.numbers j.is.renaming i l in absurd (omega arith));
          few = (let h = length_more cs c in let k = length_more j.all d in let f = j.is.few in omega arith);
        };
      }

  join_one : Joins (cs ++ c ∷ []) ds
  join_one = elim (is_there j.all (cl_type j.numbers c)) [ inl h ↦ with_known h.0 h.1 | inr a ↦ with_new a ]

join_none : (ds : List ClType) → AreTypes ds → Joins [] ds
join_none ds t = record {
  all = ds;
  numbers = λ i. length ds + i;
  is = record {
    types = t;
    grown = grown_same ds ds refl;
    renaming = record { differ = λ a b e. omega arith; has = λ i c e. absurd (none_some e); lacks = λ i e. slice_get_past ds (length ds + i) (omega arith) };
    few = omega arith;
  };
}

join_more : (done rest ds : List ClType) → AreTypes (done ++ rest) → Joins done ds → Joins (done ++ rest) ds
join_more done [] ds t j = subst (λ z. Joins z ds) (sym (append-nil done)) j
join_more done (c ∷ rest) ds t j =
    let s : (done ++ c ∷ []) ++ rest ≡ done ++ c ∷ rest = append_assoc done (c ∷ []) rest in
    let u : AreTypes ((done ++ c ∷ []) ++ rest) = subst AreTypes (sym s) t in
    subst (λ z. Joins z ds) s (join_more (done ++ c ∷ []) rest ds u (join_one done c ds (types_front (done ++ c ∷ []) rest u) j))

-- ---- two tables

pub joined : (cs ds : List ClType) → AreTypes cs → AreTypes ds → Joins cs ds
joined cs ds t u = join_more [] cs ds t (join_none ds u)

pub table_types : (cs : List ClType) → IsTable cs → AreTypes cs
table_types cs t = record { built = t.built; distinct = t.distinct; within = t.within }

pub types_table : (cs : List ClType) → AreTypes cs → length cs ≤ 2 ^ 32 → IsTable cs
types_table cs t l = record { few = l; built = t.built; distinct = t.distinct; within = t.within }

pub joined_tables : (cs ds : List ClType) → IsTable cs → IsTable ds → length cs + length ds ≤ 2 ^ 32 → (j : Joins cs ds) × IsTable j.all
joined_tables cs ds t u l =
    let j = joined cs ds (table_types cs t) (table_types ds u) in
    (j, types_table j.all j.is.types (let f = j.is.few in omega arith))
