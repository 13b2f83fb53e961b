-- Where the arguments and constants of a unit stand in its module: descriptor sets, bindings, offsets and SpecIds (OpenCL C 1.2, 6.5; Vulkan, 15.6;
-- NonSemantic.ClspvReflection.1).
use Rattle.std.specs.Prelude.{ℕ, ◌+◌, ◌-◌, Bool, true, false, ◌&&◌, ◌||◌, if◌then◌else◌, List, [], ◌∷◌, ◌++◌, length, map, replicate, Option, Some, None}
use Rattle.cl_types.specs.declared.types.ClType.{ClType}
use Rattle.cl_types.specs.declared.types.TypeId.{TypeId}
use Rattle.cl_types.specs.declared.space.Space.TheVariants as space
use Rattle.cl_types.specs.declared.builtin.Builtin.TheVariants as builtin
use Rattle.cl_types.specs.Layout.{TypeTree, TypeTrees, Struct, none, more, up, align_of, size_of, offset_of}
use Rattle.cl_types.specs.Table.{tree_of}
use Rattle.cl_tree.specs.declared.shape.Shape.{Shape}
use Rattle.cl_tree.specs.declared.shape.Shape.TheVariants as shape
use Rattle.cl_tree.specs.declared.unit.ConstantVar.{ConstantVar}
use Rattle.cl_tree.specs.declared.unit.Variable.{Variable}
use Rattle.cl_tree.specs.Shapes.{shape_of}
use Rattle.cl_meaning.specs.Code.{Tree}
use Rattle.cl_meaning.specs.declared.code.Node.TheVariants as node
use Rattle.spv_reflect.specs.declared.rows.ArgKindRow.{ArgKindRow}
use Rattle.spv_reflect.specs.declared.rows.ArgKindRow.TheVariants as kind
use Rattle.spv_reflect.specs.declared.rows.ArgRow.{ArgRow}
use Rattle.spv_reflect.specs.declared.rows.ConstantRow.{ConstantRow}
use Rattle.spv_reflect.specs.declared.rows.KernelRow.{KernelRow}
use Rattle.spv_reflect.specs.declared.rows.Reflection.{Reflection}
use Rattle.vk_layout.specs.declared.options.Pod.{Pod}
use Rattle.vk_layout.specs.declared.options.Pod.TheVariants.{Storage, Push}
use Rattle.cl_provenance.specs.Routines.{Routine, Unit as Functions, Point, At, in_stmt, reached}

-- ---- what a kernel takes

-- A pointer into global or constant memory is a buffer, one into local memory an array that the launch sizes; anything else is a plain argument.
pub data Taken : Type 0 where
  Buffer : (element : TypeId) (is_constant is_restrict : Bool) → Taken
  Sized : (element : TypeId) → Taken
  Plain : (ty : TypeId) → Taken

abbrev pub taken_by : TypeId → Shape → Taken
taken_by ty (shape.Pointer space.Constant to readonly restricted) = Buffer to true restricted
taken_by ty (shape.Pointer space.Local to readonly restricted) = Sized to
taken_by ty (shape.Pointer s to readonly restricted) = Buffer to false restricted
taken_by ty _ = Plain ty

-- those of a kind, by their types
abbrev pub a_buffer : Taken → List TypeId
a_buffer (Buffer element is_constant is_restrict) = element ∷ []
a_buffer _ = []

abbrev pub a_sized : Taken → List TypeId
a_sized (Sized element) = element ∷ []
a_sized _ = []

abbrev pub a_plain : Taken → List TypeId
a_plain (Plain ty) = ty ∷ []
a_plain _ = []

abbrev pub all_of : (Taken → List TypeId) → List Taken → List TypeId
all_of kind [] = []
all_of kind (a ∷ as_) = kind a ++ all_of kind as_

abbrev pub number_of : (Taken → List TypeId) → List Taken → ℕ
number_of kind as_ = length (all_of kind as_)

abbrev pub is_some : List TypeId → Bool
is_some [] = false
is_some (t ∷ ts) = true

-- ---- blocks

module _ (cs : List ClType) where
  abbrev pub taken : Variable → Taken
  taken p = taken_by p.ty (shape_of cs p.ty)

  abbrev pub taken_of : Routine → List Taken
  taken_of f = map taken f.params

  -- A block places what it holds like the members of a struct.
  abbrev pub members : List TypeId → TypeTrees
  members [] = none
  members (t ∷ ts) = more (tree_of cs t.0) (members ts)

  abbrev pub block : List TypeId → TypeTree
  block ts = Struct (members ts)

  -- ---- the numbers that come before a kernel's own

  -- the buffer variables of kernels: their buffers, and a block of plain arguments where these stand in one
  abbrev pub blocks_of : Pod → List Taken → ℕ
  blocks_of Storage as_ = if is_some (all_of a_plain as_) then 1 else 0
  blocks_of Push as_ = 0

  abbrev pub bindings_of : Pod → List Routine → ℕ
  bindings_of pod [] = 0
  bindings_of pod (k ∷ ks) = number_of a_buffer (taken_of k) + (blocks_of pod (taken_of k) + bindings_of pod ks)

  -- SpecIds 0 to 2 are those of the sizes
  abbrev pub specs_of : List Routine → ℕ
  specs_of [] = 3
  specs_of (k ∷ ks) = number_of a_sized (taken_of k) + specs_of ks

  -- ---- rows

  -- Where an argument stands, behind the kernels and arguments before it. The block of plain arguments has the kernel's last binding.
  abbrev pub plain_row : Pod → List Routine → List Taken → List Taken → TypeId → ArgKindRow
  plain_row Storage kernels all before ty =
      kind.PlainStorage 0 (bindings_of Storage kernels + number_of a_buffer all) (offset_of (block (all_of a_plain all)) (number_of a_plain before)) (size_of (tree_of cs ty.0))
  plain_row Push kernels all before ty = kind.PlainPush (offset_of (block (all_of a_plain all)) (number_of a_plain before)) (size_of (tree_of cs ty.0))

  abbrev pub kind_of : Pod → List Routine → List Taken → List Taken → Taken → ArgKindRow
  kind_of pod kernels all before (Buffer element is_constant is_restrict) = kind.Buffer 0 (bindings_of pod kernels + number_of a_buffer before)
  kind_of pod kernels all before (Sized element) = kind.Local (specs_of kernels + number_of a_sized before) (size_of (tree_of cs element.0))
  kind_of pod kernels all before (Plain ty) = plain_row pod kernels all before ty

  abbrev pub args_from : Pod → List Routine → List Taken → List Variable → List Variable → List ArgRow
  args_from pod kernels all before [] = []
  args_from pod kernels all before (p ∷ ps) = record { name = p.name; kind = kind_of pod kernels all (map taken before) (taken p) } ∷ args_from pod kernels all (before ++ p ∷ []) ps

  abbrev pub args_of : Pod → List Routine → Routine → List ArgRow
  args_of pod kernels k = args_from pod kernels (taken_of k) [] k.params

  -- the kernels, whose functions have these ids
  abbrev pub kernel_row : Pod → List Routine → Routine → ℕ → KernelRow
  kernel_row pod kernels k function = record { function = function; name = k.name; args = args_of pod kernels k; required = k.required }

  abbrev pub kernel_rows : Pod → List Routine → List Routine → List ℕ → List KernelRow
  kernel_rows pod before (k ∷ ks) (f ∷ fs) = kernel_row pod before k f ∷ kernel_rows pod (before ++ k ∷ []) ks fs
  kernel_rows pod before _ _ = []

  -- ---- constants

  abbrev pub constant_types : List ConstantVar → List TypeId
  constant_types [] = []
  constant_types (c ∷ rest) = c.variable.ty ∷ constant_types rest

  -- the bytes of the constant block from a place on: those of each constant, and 0 in the gaps and at the end
  abbrev pub bytes_from : ℕ → ℕ → List ConstantVar → List ℕ
  bytes_from end at [] = replicate (end - at) 0
  bytes_from end at (c ∷ rest) =
      replicate (up (align_of (tree_of cs c.variable.ty.0)) at - at) 0 ++ (c.bytes ++ bytes_from end (up (align_of (tree_of cs c.variable.ty.0)) at + size_of (tree_of cs c.variable.ty.0)) rest)

  abbrev pub constant_bytes : List ConstantVar → List ℕ
  constant_bytes constants = bytes_from (size_of (block (constant_types constants))) 0 constants

  abbrev pub constant_row : List ConstantVar → Option ConstantRow
  constant_row [] = None
  constant_row (c ∷ rest) = Some (record { set = 1; binding = 0; bytes = constant_bytes (c ∷ rest) })

-- ---- sizes and the work dimension

abbrev pub is_required : Option (List ℕ) → Bool
is_required None = false
is_required (Some sizes) = true

abbrev pub all_required : List Routine → Bool
all_required [] = true
all_required (k ∷ ks) = is_required k.required && all_required ks

-- Where each kernel requires a size of group, each entry point says its own; else the launch gives the sizes.
abbrev pub sizes_row : List Routine → Option (List ℕ)
sizes_row kernels = if all_required kernels then None else Some (0 ∷ 1 ∷ 2 ∷ [])

-- whether a function asks for the work dimension, where that isn't passed over
abbrev pub asks_dimension : Point → Bool
asks_dimension (At (Tree (node.Builtin builtin.GetWorkDim) ty n es)) = true
asks_dimension _ = false

abbrev pub some_ask : List Point → Bool
some_ask [] = false
some_ask (at ∷ ps) = asks_dimension at || some_ask ps

abbrev pub function_asks : List ClType → Routine → Bool
function_asks cs f = some_ask (in_stmt cs (reached f.body))

abbrev pub functions_ask : List ClType → List Routine → Bool
functions_ask cs [] = false
functions_ask cs (f ∷ fs) = function_asks cs f || functions_ask cs fs

-- ---- all rows

abbrev pub kernels_of : List Routine → List Routine
kernels_of [] = []
kernels_of (f ∷ fs) = (if f.kernel then f ∷ [] else []) ++ kernels_of fs

-- The rows of a unit of which these functions have copies, where the kernels' functions have these ids.
abbrev pub rows_with : Pod → Functions → List Routine → List ℕ → Reflection
rows_with pod u copied functions = record {
  kernels = kernel_rows u.types pod [] (kernels_of u.functions) functions;
  sizes = sizes_row (kernels_of u.functions);
  dim = if functions_ask u.types copied then Some (specs_of u.types (kernels_of u.functions)) else None;
  constants = constant_row u.types u.constants;
}
