-- The types of a module on a launch: what composites they have, and where their parts lie (SPIR-V 1.3, sections 2.16.1 and 3.20; Vulkan, 15.6.4).
use Rattle.std.specs.Prelude.{ℕ, zero, suc, ◌+◌, ◌*◌, ◌/◌, nat_eq, nat_lt, if◌then◌else◌, List, [], ◌∷◌, ◌++◌, replicate, Option, Some, None, slice_get}
use Rattle.spv_module.specs.declared.module.Inst.{Inst}
use Rattle.spv_module.specs.declared.enumerant.decoration.TheConstants as decoration
use Rattle.spv_module.specs.Options.{◌>>=◌, or_default, for_each}
use Rattle.spv_module.specs.Interface.{number_of}
use Rattle.spv_module.specs.Instructions.{IntType, VectorType, RuntimeArray, StructType, Constant, SpecConstant, decoration_in, member_decoration_in}
use Rattle.spv_invocations.specs.Reading.{Line, Basic, BoolType, ArrayType, line_in}
use Rattle.spv_meaning.specs.Start.{Specialised}
use Rattle.spv_invocations.specs.Start.{Given}
use Rattle.spv_invocations.specs.Values.{Value, Unset, composite}

-- types nest 18 deep at the most
abbrev pub DEPTH : ℕ
DEPTH = 18

-- ---- constants of one number

abbrev pub specialised_to : List Specialised → Option (List ℕ) → Option ℕ
specialised_to (s ∷ ss) (Some (id ∷ [])) = if nat_eq s.id id then Some s.value else specialised_to ss (Some (id ∷ []))
specialised_to _ _ = None

-- the value that a specialisation constant has on this launch
abbrev pub specialised_as : Given → ℕ → ℕ → ℕ
specialised_as g r default = or_default (specialised_to g.start.specialised (decoration_in g.body r decoration.SPEC_ID)) default

abbrev pub length_by : Given → Option Line → Option ℕ
length_by g (Some (Basic (Constant t r value))) = Some value
length_by g (Some (Basic (SpecConstant t r default))) = Some (specialised_as g r default)
length_by g _ = None

-- the length of an array
abbrev pub length_of : Given → ℕ → Option ℕ
length_of g id = length_by g (line_in g.body id)

-- ---- the composites of a type

abbrev pub repeated : Option Value → Option ℕ → Option Value
repeated (Some v) (Some n) = Some (composite (replicate n v))
repeated _ _ = None

abbrev pub shape_by : Given → (ℕ → Option Value) → Option Line → Option Value
shape_by g inner (Some (Basic (IntType r width signedness))) = Some (Unset width)
shape_by g inner (Some (BoolType r)) = Some (Unset 1)
shape_by g inner (Some (Basic (VectorType r component count))) = repeated (inner component) (Some count)
shape_by g inner (Some (ArrayType r element count)) = repeated (inner element) (length_of g count)
shape_by g inner (Some (Basic (StructType r members))) = for_each inner members >>= λ vs. Some (composite vs)
shape_by g inner _ = None

abbrev pub shape_within : ℕ → Given → ℕ → Option Value
shape_within zero g t = None
shape_within (suc depth) g t = shape_by g (shape_within depth g) (line_in g.body t)

-- A value of the type with no scalar set. A bool is a scalar of one bit.
abbrev pub shape_of : Given → ℕ → Option Value
shape_of g t = shape_within DEPTH g t

abbrev pub width_by : Option Line → Option ℕ
width_by (Some (Basic (IntType r width signedness))) = Some width
width_by _ = None

abbrev pub component_by : Given → ℕ → Option Line → ℕ
component_by g t (Some (Basic (VectorType r component count))) = component
component_by g t _ = t

-- the width of a number, or of a vector's components
abbrev pub width_in : Given → ℕ → Option ℕ
width_in g t = width_by (line_in g.body (component_by g t (line_in g.body t)))

-- ---- offsets

abbrev pub offset_in : List Inst → ℕ → ℕ → Option ℕ
offset_in body struct member = number_of (member_decoration_in body struct member decoration.OFFSET)

abbrev pub stride_in : List Inst → ℕ → Option ℕ
stride_in body array = number_of (decoration_in body array decoration.ARRAY_STRIDE)

-- the scalars of a type from an offset on, each with its own offset and its width
abbrev pub Laid : Type 0
Laid = Option (List (ℕ × ℕ))

abbrev pub and_laid : Laid → Laid → Laid
and_laid (Some a) (Some b) = Some (a ++ b)
and_laid _ _ = None

-- so many elements, each so many bytes behind the one before it
abbrev pub elements_laid : (ℕ → Laid) → ℕ → ℕ → ℕ → Laid
elements_laid inner stride zero offset = Some []
elements_laid inner stride (suc n) offset = and_laid (inner offset) (elements_laid inner stride n (offset + stride))

abbrev pub vector_laid : Option ℕ → ℕ → ℕ → Laid
vector_laid (Some width) count offset = elements_laid (λ o. Some ((o, width) ∷ [])) (width / 8) count offset
vector_laid None count offset = None

abbrev pub array_laid : (ℕ → Laid) → Option ℕ → Option ℕ → ℕ → Laid
array_laid inner (Some stride) (Some count) offset = elements_laid inner stride count offset
array_laid inner _ _ offset = None

abbrev pub member_laid : (ℕ → Laid) → Option ℕ → ℕ → Laid
member_laid inner (Some distance) offset = inner (offset + distance)
member_laid inner None offset = None

-- the members of a struct from the nth on
abbrev pub members_laid : List Inst → (ℕ → ℕ → Laid) → ℕ → ℕ → ℕ → List ℕ → Laid
members_laid body inner struct offset n [] = Some []
members_laid body inner struct offset n (t ∷ ts) = and_laid (member_laid (inner t) (offset_in body struct n) offset) (members_laid body inner struct offset (suc n) ts)

abbrev pub laid_by : Given → (ℕ → ℕ → Laid) → ℕ → Option Line → Laid
laid_by g inner offset (Some (Basic (IntType r width signedness))) = Some ((offset, width) ∷ [])
laid_by g inner offset (Some (Basic (VectorType r component count))) = vector_laid (width_by (line_in g.body component)) count offset
laid_by g inner offset (Some (ArrayType r element count)) = array_laid (inner element) (stride_in g.body r) (length_of g count) offset
laid_by g inner offset (Some (Basic (StructType r members))) = members_laid g.body inner r offset 0 members
laid_by g inner offset _ = None

abbrev pub laid_within : ℕ → Given → ℕ → ℕ → Laid
laid_within zero g t offset = None
laid_within (suc depth) g t offset = laid_by g (laid_within depth g) offset (line_in g.body t)

abbrev pub laid_at : Given → ℕ → ℕ → Laid
laid_at g t offset = laid_within DEPTH g t offset

-- ---- parts by an index

-- What an index leads to: a part with its type, and its distance in bytes where it has one; past the end; or nothing.
pub data Led : Type 0 where
  ToPart : (type : ℕ) (distance : Option ℕ) → Led
  PastEnd : Led
  Nowhere : Led

abbrev pub times : ℕ → Option ℕ → Option ℕ
times i (Some bytes) = Some (i * bytes)
times i None = None

abbrev pub bytes_of_width : Option ℕ → Option ℕ
bytes_of_width (Some width) = Some (width / 8)
bytes_of_width None = None

abbrev pub element_by : ℕ → ℕ → Option ℕ → Option ℕ → Led
element_by i element (Some count) stride = if nat_lt i count then ToPart element (times i stride) else PastEnd
element_by i element None stride = Nowhere

abbrev pub member_by : Option ℕ → Option ℕ → Led
member_by (Some type) distance = ToPart type distance
member_by None distance = Nowhere

-- A runtime array goes on to the end of the bytes that are left, in whole elements.
abbrev pub whole_elements : ℕ → Option ℕ → Option ℕ
whole_elements left (Some stride) = Some (left / stride)
whole_elements left None = None

abbrev pub led_by : Given → ℕ → ℕ → Option Line → Led
led_by g left i (Some (Basic (StructType r members))) = member_by (slice_get members i) (offset_in g.body r i)
led_by g left i (Some (Basic (VectorType r component count))) = element_by i component (Some count) (bytes_of_width (width_by (line_in g.body component)))
led_by g left i (Some (ArrayType r element count)) = element_by i element (length_of g count) (stride_in g.body r)
led_by g left i (Some (Basic (RuntimeArray r element))) = element_by i element (whole_elements left (stride_in g.body r)) (stride_in g.body r)
led_by g left i _ = Nowhere

-- where an index leads in a type, with so many bytes left
abbrev pub led : Given → ℕ → ℕ → ℕ → Led
led g left type i = led_by g left i (line_in g.body type)
