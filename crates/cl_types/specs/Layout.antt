-- Types as trees, and how their scalars lie in memory (C99 6.2.5 and 6.7.2.1; OpenCL C 1.2, 6.1.2 and 6.1.5).
use Rattle.std.specs.Prelude.{◌≡◌, ℕ, zero, suc, ◌+◌, ◌-◌, ◌*◌, ◌/◌, ◌<◌, ◌≤◌, ◌||◌, max, nat_eq, if◌then◌else◌, Bool, true, List, [], ◌∷◌, ◌++◌}
use Rattle.cl_types.specs.declared.scalars.Scalar.{Scalar as Slot}

-- A bool is a scalar of 8 bits, and a pointer one of 32. A vector has scalars, an array elements, a struct members.
mutual
  pub data TypeTree : Type 0 where
    Void : TypeTree
    Scalar : (bits : ℕ) → TypeTree
    Vector : (of : TypeTree) (n : ℕ) → TypeTree
    Array : (of : TypeTree) (n : ℕ) → TypeTree
    Struct : (members : TypeTrees) → TypeTree

  pub data TypeTrees : Type 0 where
    none : TypeTrees
    more : TypeTree → TypeTrees → TypeTrees

-- the next multiple of a
abbrev pub up : ℕ → ℕ → ℕ
up a n = (n + (a - 1)) / a * a

-- as many components as a vector has room for: one of three has the room of four
abbrev pub room_of : ℕ → ℕ
room_of n = if nat_eq n 3 then 4 else n

-- the bytes; of members, where they end that begin so far behind their struct's start. Void has none.
abbrev mutual
  pub align_of : TypeTree → ℕ
  align_of Void = 1
  align_of (Scalar bits) = bits / 8
  align_of (Vector t n) = room_of n * align_of t
  align_of (Array t n) = align_of t
  align_of (Struct ts) = aligns_of 1 ts

  pub aligns_of : ℕ → TypeTrees → ℕ
  aligns_of a none = a
  aligns_of a (more t ts) = aligns_of (max a (align_of t)) ts

abbrev mutual
  pub size_of : TypeTree → ℕ
  size_of Void = 0
  size_of (Scalar bits) = bits / 8
  size_of (Vector t n) = room_of n * size_of t
  size_of (Array t n) = n * size_of t
  size_of (Struct ts) = up (aligns_of 1 ts) (end_of 0 ts)

  pub end_of : ℕ → TypeTrees → ℕ
  end_of at none = at
  end_of at (more t ts) = end_of (up (align_of t) at + size_of t) ts

-- a scalar is 1 deep, a vector and an array one deeper than what is in them, and a struct one deeper than its deepest member
abbrev mutual
  pub depth_of : TypeTree → ℕ
  depth_of Void = 0
  depth_of (Scalar bits) = 1
  depth_of (Vector t n) = suc (depth_of t)
  depth_of (Array t n) = suc (depth_of t)
  depth_of (Struct ts) = suc (depths_of 0 ts)

  pub depths_of : ℕ → TypeTrees → ℕ
  depths_of d none = d
  depths_of d (more t ts) = depths_of (max d (depth_of t)) ts

-- a struct's member lies so far behind its start; of members that begin at a place
abbrev pub offset_in : TypeTrees → ℕ → ℕ → ℕ
offset_in none at k = 0
offset_in (more t ts) at zero = up (align_of t) at
offset_in (more t ts) at (suc k) = offset_in ts (up (align_of t) at + size_of t) k

abbrev pub offset_of : TypeTree → ℕ → ℕ
offset_of (Struct ts) k = offset_in ts 0 k
offset_of _ k = 0

-- the scalars of n equal parts from the number i on, each so far behind the one before
abbrev pub spread : (ℕ → ℕ → List Slot) → ℕ → ℕ → ℕ → ℕ → List Slot
spread f far zero i at = []
spread f far (suc n) i at = f i at ++ spread f far n (suc i) (at + far)

-- the scalars in order, of a part that a path leads to and that lies at a place
abbrev mutual
  pub scalars_at : TypeTree → List ℕ → ℕ → List Slot
  scalars_at Void path at = []
  scalars_at (Scalar bits) path at = record { path = path; offset = at; bits = bits } ∷ []
  scalars_at (Vector t n) path at = spread (λ i o. scalars_at t (path ++ i ∷ []) o) (size_of t) n 0 at
  scalars_at (Array t n) path at = spread (λ i o. scalars_at t (path ++ i ∷ []) o) (size_of t) n 0 at
  scalars_at (Struct ts) path at = scalars_in ts path 0 at 0

  pub scalars_in : TypeTrees → List ℕ → ℕ → ℕ → ℕ → List Slot
  scalars_in none path k base at = []
  scalars_in (more t ts) path k base at = scalars_at t (path ++ k ∷ []) (base + up (align_of t) at) ++ scalars_in ts path (suc k) base (up (align_of t) at + size_of t)

-- a type's scalars
abbrev pub scalars_of : TypeTree → List Slot
scalars_of t = scalars_at t [] 0

-- ---- places in a type

-- the member k of these lies so far behind their struct's start, and has this type; they begin at
abbrev pub Member : TypeTrees → ℕ → ℕ → ℕ → TypeTree → Type 0
Member none at k o u = ⊥
Member (more t ts) at zero o u = (o ≡ up (align_of t) at) × (u ≡ t)
Member (more t ts) at (suc k) o u = Member ts (up (align_of t) at + size_of t) k o u

-- the part of this number: a component, an element or a member
abbrev pub Part : TypeTree → ℕ → ℕ → TypeTree → Type 0
Part Void i o u = ⊥
Part (Scalar bits) i o u = ⊥
Part (Vector t n) i o u = (i < n) × (o ≡ i * size_of t) × (u ≡ t)
Part (Array t n) i o u = (i < n) × (o ≡ i * size_of t) × (u ≡ t)
Part (Struct ts) i o u = Member ts 0 i o u

-- the place that a path leads to, from the outermost number on: its offset and its type
abbrev pub Place : TypeTree → List ℕ → ℕ → TypeTree → Type 0
Place t [] o u = (o ≡ 0) × (u ≡ t)
Place t (i ∷ p) o u = (a b : ℕ) × (v : TypeTree) × Part t i a v × Place v p b u × (o ≡ a + b)

-- ---- which trees types have

-- the widths of scalars, and the numbers of components
abbrev pub is_width : ℕ → Bool
is_width bits = nat_eq bits 8 || nat_eq bits 16 || nat_eq bits 32 || nat_eq bits 64

abbrev pub is_count : ℕ → Bool
is_count n = nat_eq n 2 || nat_eq n 3 || nat_eq n 4 || nat_eq n 8 || nat_eq n 16

abbrev pub IsScalar : TypeTree → Type 0
IsScalar (Scalar bits) = is_width bits ≡ true
IsScalar _ = ⊥

abbrev mutual
  pub IsSound : TypeTree → Type 0
  IsSound Void = Unit {0}
  IsSound (Scalar bits) = is_width bits ≡ true
  IsSound (Vector t n) = IsScalar t × (is_count n ≡ true)
  IsSound (Array t n) = IsSound t
  IsSound (Struct ts) = AreSound ts

  pub AreSound : TypeTrees → Type 0
  AreSound none = Unit {0}
  AreSound (more t ts) = IsSound t × AreSound ts
