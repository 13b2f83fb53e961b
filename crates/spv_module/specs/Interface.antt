-- What a module shows to those who launch it: its entry points, and the variables that a launch is bound to, with their types and decorations (SPIR-V 1.3, 3.20; Vulkan, 15.6).
use Rattle.std.specs.Prelude.{◌≡◌, ℕ, Bool, false, ◌&&◌, nat_eq, ◌+◌, List, [], ◌∷◌, length, take, Option, Some, None}
use Rattle.spv_module.specs.declared.module.Inst.{Inst}
use Rattle.spv_module.specs.declared.enumerant.storage_class.TheConstants as storage_class
use Rattle.spv_module.specs.declared.enumerant.decoration.TheConstants as decoration
use Rattle.spv_module.specs.declared.enumerant.built_in.TheConstants as built_in
use Rattle.spv_module.specs.Words.{body_words}
use Rattle.spv_module.specs.Instructions.{Said, Capability, MemoryModel, EntryPoint, ExecutionMode, IntType, VectorType, RuntimeArray, StructType, PointerType, SpecConstant, SpecComposite, Function, Variable, said, definition_in, decoration_in, member_decoration_in}

-- the decoration stands there with this one number
abbrev pub is_number : Option (List ℕ) → ℕ → Bool
is_number (Some (n ∷ [])) m = nat_eq n m
is_number _ m = false

abbrev pub is_bound_at : List Inst → ℕ → ℕ → ℕ → Bool
is_bound_at body v set binding = is_number (decoration_in body v decoration.DESCRIPTOR_SET) set && is_number (decoration_in body v decoration.BINDING) binding

-- the variables and their storage classes
abbrev pub variable_by : Said → List (ℕ × ℕ) → List (ℕ × ℕ)
variable_by (Variable t r storage) vs = (r, storage) ∷ vs
variable_by _ vs = vs

abbrev pub variables_in : List Inst → List (ℕ × ℕ)
variables_in [] = []
variables_in (i ∷ is) = variable_by (said i) (variables_in is)

-- the functions
abbrev pub function_by : Said → List ℕ → List ℕ
function_by (Function t r type) fs = r ∷ fs
function_by _ fs = fs

abbrev pub functions_in : List Inst → List ℕ
functions_in [] = []
functions_in (i ∷ is) = function_by (said i) (functions_in is)

-- The capabilities, the memory models, the execution modes, and the entry points with their models, functions and names.
abbrev pub capability_by : Said → List ℕ → List ℕ
capability_by (Capability c) cs = c ∷ cs
capability_by _ cs = cs

abbrev pub capabilities_in : List Inst → List ℕ
capabilities_in [] = []
capabilities_in (i ∷ is) = capability_by (said i) (capabilities_in is)

abbrev pub memory_model_by : Said → List (ℕ × ℕ) → List (ℕ × ℕ)
memory_model_by (MemoryModel addressing memory) ms = (addressing, memory) ∷ ms
memory_model_by _ ms = ms

abbrev pub memory_models_in : List Inst → List (ℕ × ℕ)
memory_models_in [] = []
memory_models_in (i ∷ is) = memory_model_by (said i) (memory_models_in is)

abbrev pub mode_by : Said → List (ℕ × ℕ) → List (ℕ × ℕ)
mode_by (ExecutionMode function mode) ms = (function, mode) ∷ ms
mode_by _ ms = ms

abbrev pub modes_in : List Inst → List (ℕ × ℕ)
modes_in [] = []
modes_in (i ∷ is) = mode_by (said i) (modes_in is)

pub record Entry : Type 0 where
  pub model : ℕ
  pub function : ℕ
  pub name : List ℕ

abbrev pub entry_by : Said → List Entry → List Entry
entry_by (EntryPoint model function name interface) es = record { model = model; function = function; name = name } ∷ es
entry_by _ es = es

abbrev pub entry_points_in : List Inst → List Entry
entry_points_in [] = []
entry_points_in (i ∷ is) = entry_by (said i) (entry_points_in is)

-- A storage buffer: a block with one member at offset 0, a runtime array of elements so many bytes apart.
pub record IsBufferVariable (body : List Inst) (v element stride : ℕ) : Type 0 where
  pub pointer : ℕ
  pub block : ℕ
  pub array : ℕ
  pub variable : definition_in body v ≡ Some (Variable pointer v storage_class.STORAGE_BUFFER)
  pub points : definition_in body pointer ≡ Some (PointerType pointer storage_class.STORAGE_BUFFER block)
  pub struct : definition_in body block ≡ Some (StructType block (array ∷ []))
  pub is_block : decoration_in body block decoration.BLOCK ≡ Some []
  pub offset : member_decoration_in body block 0 decoration.OFFSET ≡ Some (0 ∷ [])
  pub elements : definition_in body array ≡ Some (RuntimeArray array element)
  pub apart : decoration_in body array decoration.ARRAY_STRIDE ≡ Some (stride ∷ [])

abbrev pub IsUint : List Inst → ℕ → Type 0
IsUint body t = definition_in body t ≡ Some (IntType t 32 0)

-- the constant is a specialisation constant with this SpecId and the default 1
pub record IsSize (body : List Inst) (c id : ℕ) : Type 0 where
  pub type : ℕ
  pub word : IsUint body type
  pub constant : definition_in body c ≡ Some (SpecConstant type c 1)
  pub bound : decoration_in body c decoration.SPEC_ID ≡ Some (id ∷ [])

-- The size of a group is three specialisation constants with the SpecIds 0, 1 and 2.
pub record HasGroupSize (body : List Inst) : Type 0 where
  pub composite : ℕ
  pub type : ℕ
  pub element : ℕ
  pub x : ℕ
  pub y : ℕ
  pub z : ℕ
  pub parts : definition_in body composite ≡ Some (SpecComposite type composite (x ∷ y ∷ z ∷ []))
  pub vector : definition_in body type ≡ Some (VectorType type element 3)
  pub uint : IsUint body element
  pub is_size : decoration_in body composite decoration.BUILT_IN ≡ Some (built_in.WORKGROUP_SIZE ∷ [])
  pub size_x : IsSize body x 0
  pub size_y : IsSize body y 1
  pub size_z : IsSize body z 2

-- what a variable, a pointer type, or a struct of one member leads to
abbrev pub pointee_by : Option Said → Option ℕ
pointee_by (Some (Variable t r storage)) = Some t
pointee_by (Some (PointerType r storage pointee)) = Some pointee
pointee_by (Some (StructType r (member ∷ []))) = Some member
pointee_by _ = None

-- the one number of a decoration
abbrev pub number_of : Option (List ℕ) → Option ℕ
number_of (Some (n ∷ [])) = Some n
number_of _ = None

-- the index of the first word of the instruction at a place (SPIR-V 2.3)
abbrev pub word_at : List Inst → ℕ → ℕ
word_at body place = 5 + length (body_words (take place body))
