-- How a value of a type stands in bytes: each scalar with its lowest byte first, the elements of a vector one behind another, and each member of a struct at its Offset (SPIR-V 1.3, 2.18 and 3.20; Vulkan, 15.6.4). Arrays have no place here so far.
use Rattle.std.specs.Prelude.{◌≡◌, ℕ, zero, suc, ◌+◌, ◌*◌, ◌/◌, ◌^◌, Bool, true, false, ◌&&◌, ◌||◌, nat_eq, nat_le, nat_lt, List, [], ◌∷◌, length, Option, Some, None, IsTrue, slice_get, slice_index}
use Rattle.clv_num.specs.declared.Bits.{Bits}
use Rattle.clv_num.specs.Numbers.{is_width}
use Rattle.spv_module.specs.declared.module.Inst.{Inst}
use Rattle.spv_module.specs.declared.enumerant.decoration.TheConstants as decoration
use Rattle.spv_module.specs.Options.{only_if}
use Rattle.spv_module.specs.Instructions.{Said, IntType, VectorType, StructType, definition_in, member_decoration_in}
use Rattle.spv_module.specs.Interface.{number_of}
use Rattle.spv_value.specs.declared.value.Value.{Value}
use Rattle.spv_value.specs.declared.value.Value.TheOpen.{Value-F, Scalar, Truth, Parts}
use Rattle.spv_value.specs.declared.value.Value.TheFolds.{fold-Value}

-- the number of so many bytes from a place on, the lowest first
abbrev pub number_at : List ℕ → ℕ → ℕ → ℕ
number_at bytes at zero = 0
number_at bytes at (suc n) = slice_index bytes at + 256 * number_at bytes (suc at) n

-- the width of a scalar type, in bits
abbrev pub width_by : Option Said → Option ℕ
width_by (Some (IntType r width signedness)) = only_if (is_width width) width
width_by _ = None

abbrev pub width_in : List Inst → ℕ → Option ℕ
width_in body t = width_by (definition_in body t)

-- where a member of a struct begins, from the struct's first byte on
abbrev pub offset_in : List Inst → ℕ → ℕ → Option ℕ
offset_in body struct member = number_of (member_decoration_in body struct member decoration.OFFSET)

-- ---- the view of bytes

-- whether a value is what stands at a place, read as of a type
abbrev pub Reading : Type 0
Reading = ℕ → ℕ → Bool

abbrev pub scalar_stands : List ℕ → Option ℕ → Bits → ℕ → Bool
scalar_stands bytes None b at = false
scalar_stands bytes (Some width) b at = nat_le (at + width / 8) (length bytes) && nat_eq b.width width && nat_eq b.value (number_at bytes at (width / 8))

-- so many elements of a type, each so many bytes behind the one before it
abbrev pub elements_stand : ℕ → ℕ → ℕ → ℕ → List Reading → Bool
elements_stand element size zero at [] = true
elements_stand element size (suc n) at (f ∷ fs) = f element at && elements_stand element size n (at + size) fs
elements_stand element size _ at _ = false

abbrev pub vector_stands : Option ℕ → ℕ → ℕ → ℕ → List Reading → Bool
vector_stands None element count at fs = false
vector_stands (Some width) element count at fs = elements_stand element (width / 8) count at fs

abbrev pub member_stands : Option ℕ → ℕ → ℕ → Reading → Bool
member_stands None t at f = false
member_stands (Some offset) t at f = f t (at + offset)

-- the members of a struct from the nth on
abbrev pub members_stand : List Inst → ℕ → ℕ → ℕ → List ℕ → List Reading → Bool
members_stand body struct at n [] [] = true
members_stand body struct at n (t ∷ ts) (f ∷ fs) = member_stands (offset_in body struct n) t at f && members_stand body struct at (suc n) ts fs
members_stand body struct at n _ _ = false

abbrev pub parts_stand : List Inst → Option Said → ℕ → ℕ → List Reading → Bool
parts_stand body (Some (VectorType r element count)) t at fs = vector_stands (width_in body element) element count at fs
parts_stand body (Some (StructType r members)) t at fs = members_stand body t at 0 members fs
parts_stand body _ t at fs = false

abbrev pub value_step : List Inst → List ℕ → Value-F Reading → Reading
value_step body bytes (Scalar (Some b)) t at = scalar_stands bytes (width_in body t) b at
value_step body bytes (Scalar None) t at = false
value_step body bytes (Truth b) t at = false
value_step body bytes (Parts fs) t at = parts_stand body (definition_in body t) t at fs.items

abbrev pub stands : List Inst → List ℕ → Value → Reading
stands body bytes = fold-Value Reading (value_step body bytes)

-- The value of a type that the bytes have at a place.
abbrev pub ViewOf : List Inst → List ℕ → ℕ → ℕ → Value → Type 0
ViewOf body bytes t at v = IsTrue (stands body bytes v t at)

-- ---- the types that have a view

abbrev pub vector_fits : Option ℕ → ℕ → ℕ → ℕ → Bool
vector_fits None count at end = false
vector_fits (Some width) count at end = nat_le (at + count * (width / 8)) end

abbrev pub member_fits : (ℕ → ℕ → ℕ → Bool) → Option ℕ → ℕ → ℕ → ℕ → Bool
member_fits fits None t at end = false
member_fits fits (Some offset) t at end = nat_le (at + offset) end && fits t (at + offset) end

-- the members from the nth on; the number of a member is a word
abbrev pub members_fit : List Inst → (ℕ → ℕ → ℕ → Bool) → ℕ → ℕ → ℕ → ℕ → List ℕ → Bool
members_fit body fits struct at end n [] = true
members_fit body fits struct at end n (t ∷ ts) = nat_lt n (2 ^ 32) && member_fits fits (offset_in body struct n) t at end && members_fit body fits struct at end (suc n) ts

abbrev pub fits_by : List Inst → (ℕ → ℕ → ℕ → Bool) → Option Said → ℕ → ℕ → ℕ → Bool
fits_by body fits (Some (IntType r width signedness)) t at end = is_width width && nat_le (at + width / 8) end
fits_by body fits (Some (VectorType r element count)) t at end = vector_fits (width_in body element) count at end
fits_by body fits (Some (StructType r members)) t at end = members_fit body fits t at end 0 members
fits_by body fits _ t at end = false

-- the type nests so deep at the most, and at this place its members begin and its scalars stand before the end
abbrev pub fits_within : ℕ → List Inst → ℕ → ℕ → ℕ → Bool
fits_within zero body t at end = false
fits_within (suc depth) body t at end = fits_by body (fits_within depth body) (definition_in body t) t at end

-- types nest 18 deep at the most
abbrev pub DEPTH : ℕ
DEPTH = 18

-- The type has a layout, and a value of it at this place stands before the end.
abbrev pub HasLayout : List Inst → ℕ → ℕ → ℕ → Type 0
HasLayout body t at end = IsTrue (fits_within DEPTH body t at end)

-- ---- what is laid into bytes

-- the bytes from a place on, so many
abbrev pub is_between : ℕ → ℕ → ℕ → Bool
is_between at count k = nat_le at k && nat_lt k (at + count)

abbrev pub vector_covers : Option ℕ → ℕ → ℕ → ℕ → Bool
vector_covers None count at k = false
vector_covers (Some width) count at k = is_between at (count * (width / 8)) k

abbrev pub member_covers : (ℕ → ℕ → ℕ → Bool) → Option ℕ → ℕ → ℕ → ℕ → Bool
member_covers covers None t at k = false
member_covers covers (Some offset) t at k = covers t (at + offset) k

abbrev pub members_cover : List Inst → (ℕ → ℕ → ℕ → Bool) → ℕ → ℕ → ℕ → ℕ → List ℕ → Bool
members_cover body covers struct at k n [] = false
members_cover body covers struct at k n (t ∷ ts) = member_covers covers (offset_in body struct n) t at k || members_cover body covers struct at k (suc n) ts

abbrev pub covers_by : List Inst → (ℕ → ℕ → ℕ → Bool) → Option Said → ℕ → ℕ → ℕ → Bool
covers_by body covers (Some (IntType r width signedness)) t at k = is_between at (width / 8) k
covers_by body covers (Some (VectorType r element count)) t at k = vector_covers (width_in body element) count at k
covers_by body covers (Some (StructType r members)) t at k = members_cover body covers t at k 0 members
covers_by body covers _ t at k = false

-- whether a byte is one of a scalar of the type at this place, and no padding
abbrev pub covers_within : ℕ → List Inst → ℕ → ℕ → ℕ → Bool
covers_within zero body t at k = false
covers_within (suc depth) body t at k = covers_by body (covers_within depth body) (definition_in body t) t at k

-- The value stands in the new bytes as one of the type at this place, and all bytes but those of its scalars are the old ones.
pub record Laid (body : List Inst) (old new : List ℕ) (t at : ℕ) (v : Value) : Type 0 where
  pub same_length : length new ≡ length old
  pub view : ViewOf body new t at v
  pub others : (k : ℕ) → covers_within DEPTH body t at k ≡ false → slice_get new k ≡ slice_get old k
