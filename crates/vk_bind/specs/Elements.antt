-- Where the scalars of a type lie in a buffer: the components of a vector one behind another, and each member of a struct at its Offset (SPIR-V 1.3, 2.18 and 3.20; Vulkan, 15.6.4). Arrays have no place here so far.
use Rattle.std.specs.Prelude.{ℕ, zero, suc, ◌+◌, ◌/◌, ◌^◌, nat_lt, if◌then◌else◌, List, [], ◌∷◌, ◌++◌, Option, Some, None}
use Rattle.spv_module.specs.declared.module.Inst.{Inst}
use Rattle.spv_module.specs.declared.enumerant.decoration.TheConstants as decoration
use Rattle.spv_module.specs.Instructions.{Said, IntType, VectorType, RuntimeArray, StructType, definition_in, member_decoration_in}
use Rattle.spv_module.specs.Interface.{number_of}

-- an integer's bits, a vector's components and how many there are, a struct's members, and the elements of a runtime array
abbrev pub width_by : Option Said → Option ℕ
width_by (Some (IntType r width signedness)) = Some width
width_by _ = None

abbrev pub width_in : List Inst → ℕ → Option ℕ
width_in body t = width_by (definition_in body t)

abbrev pub vector_by : Option Said → Option (ℕ × ℕ)
vector_by (Some (VectorType r component count)) = Some (component, count)
vector_by _ = None

abbrev pub vector_in : List Inst → ℕ → Option (ℕ × ℕ)
vector_in body t = vector_by (definition_in body t)

abbrev pub members_by : Option Said → Option (List ℕ)
members_by (Some (StructType r members)) = Some members
members_by _ = None

abbrev pub members_in : List Inst → ℕ → Option (List ℕ)
members_in body t = members_by (definition_in body t)

abbrev pub element_by : Option Said → Option ℕ
element_by (Some (RuntimeArray r element)) = Some element
element_by _ = None

abbrev pub element_in : List Inst → ℕ → Option ℕ
element_in body t = element_by (definition_in body t)

-- where a member of a struct begins, from the struct's first byte on; the number of a member is a word
abbrev pub offset_in : List Inst → ℕ → ℕ → Option ℕ
offset_in body struct member = if nat_lt member (2 ^ 32) then number_of (member_decoration_in body struct member decoration.OFFSET) else None

-- where each scalar of a type begins that begins at a place, and its bits
abbrev pub Laid : Type 0
Laid = ℕ → ℕ → List (ℕ × ℕ)

-- so many scalars, one behind another
abbrev pub scalars_from : ℕ → ℕ → ℕ → List (ℕ × ℕ)
scalars_from width zero at = []
scalars_from width (suc count) at = (at, width) ∷ scalars_from width count (at + width / 8)

abbrev pub components_laid : Option ℕ → ℕ → ℕ → List (ℕ × ℕ)
components_laid None count at = []
components_laid (Some width) count at = scalars_from width count at

abbrev pub member_laid : Laid → Option ℕ → ℕ → ℕ → List (ℕ × ℕ)
member_laid laid None t at = []
member_laid laid (Some offset) t at = laid t (at + offset)

-- the members from the nth on
abbrev pub members_laid : List Inst → Laid → ℕ → ℕ → ℕ → List ℕ → List (ℕ × ℕ)
members_laid body laid struct at n [] = []
members_laid body laid struct at n (t ∷ ts) = member_laid laid (offset_in body struct n) t at ++ members_laid body laid struct at (n + 1) ts

abbrev pub laid_by : List Inst → Laid → ℕ → ℕ → Option ℕ → Option (ℕ × ℕ) → Option (List ℕ) → List (ℕ × ℕ)
laid_by body laid t at (Some width) vector members = (at, width) ∷ []
laid_by body laid t at None (Some vector) members = components_laid (width_in body vector.0) vector.1 at
laid_by body laid t at None None (Some members) = members_laid body laid t at 0 members
laid_by body laid t at None None None = []

-- of types that nest so deep at the most
abbrev pub laid_within : ℕ → List Inst → Laid
laid_within zero body t at = []
laid_within (suc depth) body t at = laid_by body (laid_within depth body) t at (width_in body t) (vector_in body t) (members_in body t)

-- The scalars of a type. Types nest 18 deep at the most.
abbrev pub scalars_in : List Inst → ℕ → List (ℕ × ℕ)
scalars_in body t = laid_within 18 body t 0
