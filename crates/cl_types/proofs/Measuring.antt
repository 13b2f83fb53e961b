-- The layout of a type that is to come.
use Rattle.std.proofs.Common.{◌≡◌, ℕ, zero, suc, ◌+◌, ◌*◌, ◌<◌, ◌≤◌, List, [], ◌∷◌, ◌++◌, length, drop, get_or, slice_get, refl, sym, ap, ◌∙◌, subst, arith, append_assoc, Bool, true, Result, Ok, Err, Option, Some, None}
use Rattle.std.proofs.lemmas.Option.{slice_get_within}
use Rattle.std.specs.Prelude.{max}
use Rattle.std.proofs.lemmas.List.{append-nil}
use Rattle.std.proofs.Math.Nat.{le-max_left, mul-le-mul_right}
use Rattle.cl_types.specs.declared.types.ClType.{ClType}
use Rattle.cl_types.specs.declared.types.ClType.TheVariants as ty
use Rattle.cl_types.specs.declared.types.Member.{Member}
use Rattle.cl_types.specs.declared.stop.TypeStop.{TypeStop}
use Rattle.cl_types.specs.declared.stop.TypeStop.TheVariants.{TooLarge, TooDeep, NoMemory}
use Rattle.cl_types.specs.declared.table.Row.{Row}
use Rattle.cl_types.specs.Layout.{TypeTree, Void, Scalar, Vector, Array, Struct, TypeTrees, none, more, up, room_of, align_of, aligns_of, size_of, end_of, depth_of, depths_of, offset_in, offset_of, is_width, is_count, IsScalar, IsSound, AreSound}
use Rattle.cl_types.specs.Rows.{IsRow, IsLimited, Measures, offsets_in, offsets_of}
use Rattle.cl_types.specs.Table.{tree_at, trees_at, trees, tree_of, is_sized, AreSized, AreBuilt, IsTable, member_count}
use Rattle.cl_types.proofs.Places.{up_from, up_below, ends_from, Width, byte, half, word, long, width_is, Count, two, three, four, eight, sixteen, count_is}
use Rattle.cl_types.proofs.Rows.{sized_low, members_sound, types_are_sound, tree_found}

-- numbers that are those of a type's layout
pub measured : (t : TypeTree) (size align depth : ℕ) (offsets : List ℕ) (r : Result Row TypeStop) → size ≡ size_of t → align ≡ align_of t → depth ≡ depth_of t → offsets ≡ offsets_of t → 0 < align → align ≤ 65536 → IsLimited size align depth offsets r → Measures t r
measured t size align depth offsets (Ok r) s a d o some low h = record {
  size = h.0 ∙ s;
  align = h.1 ∙ a;
  depth = h.2 ∙ d;
  offsets = h.3 ∙ o;
  small = (let e = h.0 in let f = h.4 in omega arith);
  some = (let e = h.1 in omega arith);
  low = (let e = h.1 in omega arith);
  shallow = (let e = h.2 in let f = h.5 in omega arith);
}
measured t size align depth offsets (Err TooLarge) s a d o some low h = subst (λ z. 65536 < z) s h
measured t size align depth offsets (Err TooDeep) s a d o some low h = (subst (λ z. z ≤ 65536) s h.0, subst (λ z. 16 < z) d h.1)
measured t size align depth offsets (Err NoMemory) s a d o some low h = tt

scalar_align : (t : TypeTree) → IsScalar t → (0 < align_of t) × (align_of t ≤ 8)
scalar_align Void h = absurd h
scalar_align (Scalar bits) h = by bits (width_is bits h)
  where
    by : (b : ℕ) → Width b → (0 < align_of (Scalar b)) × (align_of (Scalar b) ≤ 8)
    by _ byte = (omega arith, omega arith)
    by _ half = (omega arith, omega arith)
    by _ word = (omega arith, omega arith)
    by _ long = (omega arith, omega arith)
scalar_align (Vector t n) h = absurd h
scalar_align (Array t n) h = absurd h
scalar_align (Struct ts) h = absurd h

room_low : (n : ℕ) → Count n → (0 < room_of n) × (room_of n ≤ 16)
room_low _ two = (omega arith, omega arith)
room_low _ three = (omega arith, omega arith)
room_low _ four = (omega arith, omega arith)
room_low _ eight = (omega arith, omega arith)
room_low _ sixteen = (omega arith, omega arith)

product_some : (m n : ℕ) → 0 < m → 0 < n → 0 < m * n
product_some zero n h g = absurd (omega arith)
product_some (suc m) n h g = let e : suc m * n ≡ m * n + n = omega arith in omega arith

product_low : (m n : ℕ) → m ≤ 16 → n ≤ 8 → m * n ≤ 65536
product_low m n h g = let a = mul-le-mul_right n h in omega arith

pub vector_measured : (t : TypeTree) (n : ℕ) (row : Row) (r : Result Row TypeStop) (room room2 : ℕ) (offsets : List ℕ) → IsScalar t → is_count n ≡ true → IsRow row t → room ≡ room_of n → room2 ≡ room_of n → offsets ≡ [] → IsLimited (room * row.size) (room2 * row.align) (row.depth + 1) offsets r → Measures (Vector t n) r
vector_measured t n row r room room2 offsets s c h p q o l =
    let a = scalar_align t s in
    let c2 = room_low n (count_is n c) in
    let some = product_some (room_of n) (align_of t) c2.0 a.0 in
    let low = product_low (room_of n) (align_of t) c2.1 a.1 in
    let e : room2 * row.align ≡ room_of n * align_of t = (λ i. q i * h.align i) in
    measured (Vector t n) (room * row.size) (room2 * row.align) (row.depth + 1) offsets r (λ i. p i * h.size i) e (let d = h.depth in omega arith) o
    (subst (λ z. 0 < z) (sym e) some) (subst (λ z. z ≤ 65536) (sym e) low) l

pub aligns_from : (a : ℕ) (ts : TypeTrees) → a ≤ aligns_of a ts
aligns_from a none = omega arith
aligns_from a (more t ts) = let h = le-max_left a (align_of t) in let g = aligns_from (max a (align_of t)) ts in omega arith

-- what the members up to an index give
pub record Measured (cs : List ClType) (members : List Member) (at end align depth : ℕ) (offsets : List ℕ) : Type 0 where
  pub end_is : end_of end (trees_at (trees cs) (drop at members)) ≡ end_of 0 (trees_at (trees cs) members)
  pub align_is : aligns_of align (trees_at (trees cs) (drop at members)) ≡ aligns_of 1 (trees_at (trees cs) members)
  pub depth_is : depths_of depth (trees_at (trees cs) (drop at members)) ≡ depths_of 0 (trees_at (trees cs) members)
  pub offsets_are : offsets ++ offsets_in (trees_at (trees cs) (drop at members)) end ≡ offsets_in (trees_at (trees cs) members) 0
  pub sized : AreSized cs (drop at members)
  pub small : end ≤ 65536
  pub some : 0 < align
  pub low : align ≤ 65536
  pub shallow : depth ≤ 16

pub measured_start : (cs : List ClType) (members : List Member) (offsets : List ℕ) → offsets ≡ [] → AreSized cs members → Measured cs members 0 0 1 0 offsets
measured_start cs members offsets e h = record { end_is = refl; align_is = refl; depth_is = refl; offsets_are = ap (λ z. z ++ offsets_in (trees_at (trees cs) members) 0) e; sized = h; small = omega arith; some = omega arith; low = omega arith; shallow = omega arith }

pub drop_next : (ts : List TypeTree) (members : List Member) (i : ℕ) (d : Member) → i < length members → trees_at ts (drop i members) ≡ more (tree_at ts (get_or members i d).ty.0) (trees_at ts (drop (suc i) members))
drop_next ts [] i d h = absurd (omega arith)
drop_next ts (m ∷ ms) zero d h = refl
drop_next ts (m ∷ ms) (suc i) d h = drop_next ts ms i d (omega arith)

sized_next : (cs : List ClType) (members : List Member) (i : ℕ) (d : Member) → i < length members → AreSized cs (drop i members) → (is_sized (slice_get cs (get_or members i d).ty.0) ≡ true) × AreSized cs (drop (suc i) members)
sized_next cs [] i d h b = absurd (omega arith)
sized_next cs (m ∷ ms) zero d h b = b
sized_next cs (m ∷ ms) (suc i) d h b = sized_next cs ms i d (omega arith) b

pub drop_end : (ts : List TypeTree) (members : List Member) (i : ℕ) → length members ≤ i → trees_at ts (drop i members) ≡ none
drop_end ts [] zero h = refl
drop_end ts [] (suc i) h = refl
drop_end ts (m ∷ ms) zero h = absurd (omega arith)
drop_end ts (m ∷ ms) (suc i) h = drop_end ts ms i (omega arith)

-- the member at an index is there
pub member_low : (cs : List ClType) (members : List Member) (at end align depth : ℕ) (offsets : List ℕ) (m : Member) → Measured cs members at end align depth offsets → at < length members → m ≡ get_or members at m → m.ty.0 < length cs
member_low cs members at end align depth offsets m h l is =
    let s = (sized_next cs members at m l h.sized).0 in
    sized_low cs m.ty.0 (subst (λ z. is_sized (slice_get cs z.ty.0) ≡ true) (sym is) s)

module _ (cs : List ClType) (members : List Member) (at end align depth : ℕ) (offsets : List ℕ) (m : Member) (r : Row) (h : Measured cs members at end align depth offsets) (l : at < length members) (is : m ≡ get_or members at m) (row : IsRow r (tree_of cs m.ty.0)) where
  next : trees_at (trees cs) (drop at members) ≡ more (tree_of cs m.ty.0) (trees_at (trees cs) (drop (suc at) members))
  next = drop_next (trees cs) members at m l ∙ ap (λ z. more (tree_of cs z.ty.0) (trees_at (trees cs) (drop (suc at) members))) (sym is)

  place_is : up r.align end ≡ up (align_of (tree_of cs m.ty.0)) end
  place_is = ap (λ a. up a end) row.align

  end_next : up r.align end + r.size ≡ up (align_of (tree_of cs m.ty.0)) end + size_of (tree_of cs m.ty.0)
  end_next = ap (λ z. z + r.size) place_is ∙ ap (λ z. up (align_of (tree_of cs m.ty.0)) end + z) row.size

  pub end_more : end_of (up r.align end + r.size) (trees_at (trees cs) (drop (suc at) members)) ≡ end_of 0 (trees_at (trees cs) members)
  end_more = ap (λ z. end_of z (trees_at (trees cs) (drop (suc at) members))) end_next ∙ ap (end_of end) (sym next) ∙ h.end_is

  -- one member more
  pub measured_more : (end2 align2 depth2 : ℕ) (offsets2 : List ℕ) → end2 ≡ up r.align end + r.size → align2 ≡ max align r.align → depth2 ≡ max depth r.depth → offsets2 ≡ offsets ++ up r.align end ∷ [] → end2 ≤ 65536 → Measured cs members (at + 1) end2 align2 depth2 offsets2
  measured_more end2 align2 depth2 offsets2 e a d o small =
      let one : suc at ≡ at + 1 = omega arith in
      let after = trees_at (trees cs) (drop (suc at) members) in
      let end3 = e ∙ end_next in
      let step : (up r.align end ∷ offsets_in after end2) ≡ offsets_in (trees_at (trees cs) (drop at members)) end = (λ i. place_is i ∷ offsets_in after (end3 i)) ∙ ap (λ z. offsets_in z end) (sym next) in
      let done : Measured cs members (suc at) end2 align2 depth2 offsets2 = record {
        end_is = ap (λ z. end_of z (trees_at (trees cs) (drop (suc at) members))) e ∙ end_more;
        align_is = ap (λ z. aligns_of z (trees_at (trees cs) (drop (suc at) members))) (a ∙ ap (max align) row.align) ∙ ap (aligns_of align) (sym next) ∙ h.align_is;
        depth_is = ap (λ z. depths_of z (trees_at (trees cs) (drop (suc at) members))) (d ∙ ap (max depth) row.depth) ∙ ap (depths_of depth) (sym next) ∙ h.depth_is;
        offsets_are = ap (λ z. z ++ offsets_in after end2) o ∙ append_assoc offsets (up r.align end ∷ []) (offsets_in after end2) ∙ ap (λ z. offsets ++ z) step ∙ h.offsets_are;
        sized = (sized_next cs members at m l h.sized).1;
        small = small;
        some = (let s = le-max_left align r.align in let t = h.some in omega (arith, a, s, t));
        low = (let s = h.low in let t = row.low in omega (arith, a, s, t));
        shallow = (let s = h.shallow in let t = row.shallow in omega (arith, d, s, t));
      } in
      subst (λ z. Measured cs members z end2 align2 depth2 offsets2) one done

  -- members that end beyond the limit are of a struct that is too large
  pub too_large : (end2 : ℕ) → AreBuilt [] cs → end2 ≡ up r.align end + r.size → 65536 < end2 → 65536 < size_of (Struct (trees_at (trees cs) members))
  too_large end2 b e over =
      let ts = trees_at (trees cs) members in
      let after = trees_at (trees cs) (drop (suc at) members) in
      let s = members_sound cs (drop (suc at) members) b (sized_next cs members at m l h.sized).1 in
      let f = ends_from after (up r.align end + r.size) s in
      let g = up_from (aligns_of 1 ts) (end_of 0 ts) (aligns_from 1 ts) in
      let k = end_more in
      omega (arith, e, f, g, k, over)

-- all members
pub measured_all : (cs : List ClType) (members : List Member) (at end align depth : ℕ) (offsets : List ℕ) (r : Result Row TypeStop) → Measured cs members at end align depth offsets → length members ≤ at → IsLimited (up align end) align (depth + 1) offsets r → Measures (Struct (trees_at (trees cs) members)) r
measured_all cs members at end align depth offsets r h l lim =
    let ts = trees_at (trees cs) members in
    let gone = drop_end (trees cs) members at l in
    let e : end ≡ end_of 0 ts = ap (end_of end) (sym gone) ∙ h.end_is in
    let a : align ≡ aligns_of 1 ts = ap (aligns_of align) (sym gone) ∙ h.align_is in
    let d : depth ≡ depths_of 0 ts = ap (depths_of depth) (sym gone) ∙ h.depth_is in
    let o : offsets ≡ offsets_in ts 0 = sym (append-nil offsets) ∙ ap (λ z. offsets ++ offsets_in z end) (sym gone) ∙ h.offsets_are in
    measured (Struct ts) (up align end) align (depth + 1) offsets r ((λ i. up (a i) (e i))) a ((let z : depth + 1 ≡ suc depth = omega arith in z) ∙ ap suc d) o h.some h.low lim

-- a member's offset stands in the list
offset_listed : (ts : TypeTrees) (at k d : ℕ) → k < length (offsets_in ts at) → get_or (offsets_in ts at) k d ≡ offset_in ts at k
offset_listed none at k d l = absurd (omega arith)
offset_listed (more t ts) at zero d l = refl
offset_listed (more t ts) at (suc k) d l = offset_listed ts (up (align_of t) at + size_of t) k d (omega arith)

offsets_length : (ts : List TypeTree) (ms : List Member) (at : ℕ) → length (offsets_in (trees_at ts ms) at) ≡ length ms
offsets_length ts [] at = refl
offsets_length ts (m ∷ ms) at = ap suc (offsets_length ts ms (up (align_of (tree_at ts m.ty.0)) at + size_of (tree_at ts m.ty.0)))

record IsStruct (o : Option ClType) (k : ℕ) : Type 0 where
  name : List ℕ
  members : List Member
  is : o ≡ Some (ty.Struct name members)
  low : k < length members

struct_at : (o : Option ClType) (k : ℕ) → k < member_count o → IsStruct o k
struct_at None k h = absurd (omega arith)
struct_at (Some ty.Void) k h = absurd (omega arith)
struct_at (Some ty.Bool) k h = absurd (omega arith)
struct_at (Some (ty.Int b s)) k h = absurd (omega arith)
struct_at (Some (ty.Vector e n)) k h = absurd (omega arith)
struct_at (Some (ty.Array e n)) k h = absurd (omega arith)
struct_at (Some (ty.Struct n m)) k h = record { name = n; members = m; is = refl; low = h }
struct_at (Some (ty.Pointer s t r q)) k h = absurd (omega arith)

pub struct_low : (cs : List ClType) (t k : ℕ) → k < member_count (slice_get cs t) → t < length cs
struct_low cs t k h = let s = struct_at (slice_get cs t) k h in slice_get_within cs t (ty.Struct s.name s.members) s.is

pub offset_low : (cs : List ClType) (t k : ℕ) (row : Row) → AreBuilt [] cs → k < member_count (slice_get cs t) → IsRow row (tree_of cs t) → k < length row.offsets.items
offset_low cs t k row b h r =
    let s = struct_at (slice_get cs t) k h in
    let e = r.offsets ∙ ap offsets_of (tree_found cs t (ty.Struct s.name s.members) b s.is) in
    let l = offsets_length (trees cs) s.members 0 in
    let low = s.low in
    let f = ap length e in
    omega (arith, l, low, f)

pub offset_found : (cs : List ClType) (t k : ℕ) (row : Row) (x : ℕ) → AreBuilt [] cs → k < member_count (slice_get cs t) → IsRow row (tree_of cs t) → x ≡ get_or row.offsets.items k x → x ≡ offset_of (tree_of cs t) k
offset_found cs t k row x b h r is =
    let s = struct_at (slice_get cs t) k h in
    let found = tree_found cs t (ty.Struct s.name s.members) b s.is in
    let e = r.offsets ∙ ap offsets_of found in
    let ts = trees_at (trees cs) s.members in
    let l = offsets_length (trees cs) s.members 0 in
    let low = s.low in
    let within : k < length (offsets_in ts 0) = omega arith in
    is ∙ ap (λ z. get_or z k x) e ∙ offset_listed ts 0 k x within ∙ ap (λ z. offset_of z k) (sym found)
