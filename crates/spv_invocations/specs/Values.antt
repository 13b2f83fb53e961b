-- Values of a module: numbers, pointers, and composites of values (SPIR-V 1.3, section 2.2.1).
use Rattle.std.specs.Prelude.{ℕ, ◌+◌, ◌*◌, ◌/◌, ◌%◌, ◌^◌, List, [], ◌∷◌, ◌++◌, map, Option, Some, None, slice_get, slice_set}
use Rattle.spv_module.specs.Options.{◌>>=◌}

-- Memory that has bytes: a buffer by its number in the start, or the push constants.
pub data Block : Type 0 where
  Buffer : (number : ℕ) → Block
  Push : Block

-- Memory that has no bytes: a variable of the group, of a call of the invocation by the number of calls below it, or of what the pipeline gives.
pub data Cells : Type 0 where
  Group : (variable : ℕ) → Cells
  Own : (depth variable : ℕ) → Cells
  Input : (variable : ℕ) → Cells

-- Where a pointer points, and the type of what lies there: an offset in bytes, or a path of members and elements.
pub data Place : Type 0 where
  InBytes : (block : Block) (offset type : ℕ) → Place
  InCells : (cells : Cells) (path : List ℕ) (type : ℕ) → Place

-- The pattern of an integer, and 1 or 0 for a bool; a scalar of so many bits that isn't set; a pointer; or a composite. What is not set stands in variables alone.
mutual
  pub data Value : Type 0 where
    Number : (n : ℕ) → Value
    Unset : (bits : ℕ) → Value
    PointsAt : (at : Place) → Value
    Parts : (parts : Values) → Value

  pub data Values : Type 0 where
    NoValue : Values
    AndValue : (v : Value) (vs : Values) → Values

abbrev pub listed : Values → List Value
listed NoValue = []
listed (AndValue v vs) = v ∷ listed vs

abbrev pub gathered : List Value → Values
gathered [] = NoValue
gathered (v ∷ vs) = AndValue v (gathered vs)

abbrev pub composite : List Value → Value
composite vs = Parts (gathered vs)

-- ---- the scalars of a value, in order, each with its path

abbrev pub Scalars : Type 0
Scalars = List (List ℕ × Value)

abbrev pub within : ℕ → List ℕ × Value → List ℕ × Value
within k s = (k ∷ s.0, s.1)

abbrev mutual
  pub scalars_in : Value → Scalars
  scalars_in (Number n) = ([], Number n) ∷ []
  scalars_in (Unset bits) = ([], Unset bits) ∷ []
  scalars_in (PointsAt at) = ([], PointsAt at) ∷ []
  scalars_in (Parts parts) = scalars_from 0 parts

  pub scalars_from : ℕ → Values → Scalars
  scalars_from k NoValue = []
  scalars_from k (AndValue v vs) = map (within k) (scalars_in v) ++ scalars_from (k + 1) vs

abbrev pub leaves_of : Value → List Value
leaves_of v = map (λ s. s.1) (scalars_in v)

-- the patterns of those that are numbers
abbrev pub numbers_among : List Value → List ℕ
numbers_among [] = []
numbers_among (Number n ∷ vs) = n ∷ numbers_among vs
numbers_among (_ ∷ vs) = numbers_among vs

abbrev pub numbers_of : Value → List ℕ
numbers_of v = numbers_among (leaves_of v)

-- ---- parts by paths

abbrev pub part_at : Value → List ℕ → Option Value
part_at v [] = Some v
part_at (Parts parts) (k ∷ ks) = slice_get (listed parts) k >>= λ v. part_at v ks
part_at _ (k ∷ ks) = None

abbrev pub changed_by : List Value → ℕ → Option Value → Value
changed_by vs k (Some v) = composite (slice_set vs k v)
changed_by vs k None = composite vs

-- the value with another part there
abbrev pub with_part : Value → List ℕ → Value → Value
with_part v [] new = new
with_part (Parts parts) (k ∷ ks) new = changed_by (listed parts) k (slice_get (listed parts) k >>= λ v. Some (with_part v ks new))
with_part v (k ∷ ks) new = v

-- a composite with its scalars set to these patterns, in order
abbrev pub with_scalars : Value → Scalars → List ℕ → Value
with_scalars v (s ∷ ss) (n ∷ ns) = with_scalars (with_part v s.0 (Number n)) ss ns
with_scalars v _ _ = v

abbrev pub filled : Value → List ℕ → Value
filled shape ns = with_scalars shape (scalars_in shape) ns

-- ---- widths

abbrev pub bits_of_leaf : Value → ℕ
bits_of_leaf (Unset bits) = bits
bits_of_leaf _ = 0

-- the widths of the scalars of a composite that has none set
abbrev pub widths_of : Value → List ℕ
widths_of shape = map bits_of_leaf (leaves_of shape)

-- a number dealt out to scalars of these widths, the lowest bits first
abbrev pub dealt : List ℕ → ℕ → List ℕ
dealt [] x = []
dealt (bits ∷ more) x = x % 2 ^ bits ∷ dealt more (x / 2 ^ bits)

-- the number that scalars of a width make, the first in the lowest bits
abbrev pub joined : ℕ → List ℕ → ℕ
joined bits [] = 0
joined bits (n ∷ ns) = n + 2 ^ bits * joined bits ns

abbrev pub zeros : List ℕ → List ℕ
zeros = map (λ bits. 0)
