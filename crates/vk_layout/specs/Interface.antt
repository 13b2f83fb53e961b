-- The variables that a module has for a unit: of the arguments and `__local` variables of kernels, and of constants, with their types and decorations
-- (Vulkan, 15.6).
use Rattle.std.specs.Prelude.{◌≡◌, ℕ, ◌+◌, ◌==◌, Bool, true, false, not, ◌&&◌, ◌||◌, if◌then◌else◌, List, [], ◌∷◌, ◌++◌, Option, Some, None}
use Rattle.cl_types.specs.declared.types.ClType.{ClType}
use Rattle.cl_types.specs.Layout.{TypeTree, TypeTrees, size_of}
use Rattle.cl_types.specs.Table.{tree_of}
use Rattle.cl_tree.specs.declared.unit.ConstantVar.{ConstantVar}
use Rattle.cl_tree.specs.declared.unit.Variable.{Variable}
use Rattle.cl_tree.specs.Statements.{is_local}
use Rattle.spv_module.specs.declared.op.TheConstants as op
use Rattle.spv_module.specs.declared.enumerant.decoration.TheConstants as decoration
use Rattle.spv_module.specs.declared.enumerant.storage_class.TheConstants as storage_class
use Rattle.spv_module.specs.Grammar.{is_among}
use Rattle.spv_types_rules.specs.Entries.{are_distinct}
use Rattle.spv_types_rules.specs.Lines.{Line, Whole, defined, has_op, decorations, member_decorations, is_decorated, is_member_decorated, is_int_of, is_some_of, first, pointer}
use Rattle.vk_layout.specs.declared.options.Pod.{Pod}
use Rattle.vk_layout.specs.declared.options.Pod.TheVariants.{Storage, Push}
use Rattle.cl_provenance.specs.Routines.{Routine, Unit as Functions, joined}
use Rattle.vk_layout.specs.Rows.{Taken, Buffer, Sized, Plain, a_buffer, a_sized, a_plain, all_of, number_of, is_some, taken_of, members, bindings_of, specs_of, constant_types, kernels_of}
use Rattle.vk_layout.specs.Types.{stands_for, stand_for, ids_at, is_one, is_none, with_one, with_two, with_all}

-- ---- what is wanted of a variable

-- A buffer argument at a binding; an array that the launch sizes, by the SpecId of its length; a `__local` variable; the plain arguments of a kernel, in a
-- buffer or in push constants; and the constants.
pub data Wanted : Type 0 where
  ABuffer : (binding : ℕ) (element : TypeTree) (is_constant is_restrict : Bool) → Wanted
  ASized : (spec : ℕ) (element : TypeTree) → Wanted
  ALocal : (of : TypeTree) → Wanted
  APlainBlock : (binding : ℕ) (of : TypeTrees) → Wanted
  APushBlock : (of : TypeTrees) → Wanted
  AConstantBlock : (of : TypeTrees) → Wanted

-- those of a kernel, behind other kernels, and those of a unit
module _ (cs : List ClType) where
  abbrev pub of_argument : Pod → List Routine → List Taken → Taken → List Wanted
  of_argument pod kernels before (Buffer element is_constant is_restrict) = ABuffer (bindings_of cs pod kernels + number_of a_buffer before) (tree_of cs element.0) is_constant is_restrict ∷ []
  of_argument pod kernels before (Sized element) = ASized (specs_of cs kernels + number_of a_sized before) (tree_of cs element.0) ∷ []
  of_argument pod kernels before (Plain t) = []

  abbrev pub of_arguments : Pod → List Routine → List Taken → List Taken → List Wanted
  of_arguments pod kernels before [] = []
  of_arguments pod kernels before (a ∷ as_) = of_argument pod kernels before a ++ of_arguments pod kernels (before ++ a ∷ []) as_

  abbrev pub plain_block : Pod → List Routine → List Taken → List Wanted
  plain_block Storage kernels all = APlainBlock (bindings_of cs Storage kernels + number_of a_buffer all) (members cs (all_of a_plain all)) ∷ []
  plain_block Push kernels all = APushBlock (members cs (all_of a_plain all)) ∷ []

  abbrev pub of_plain : Pod → List Routine → List Taken → List Wanted
  of_plain pod kernels all = if is_some (all_of a_plain all) then plain_block pod kernels all else []

  abbrev pub of_locals : List Variable → List Wanted
  of_locals [] = []
  of_locals (v ∷ vs) = (if is_local v.space then ALocal (tree_of cs v.ty.0) ∷ [] else []) ++ of_locals vs

  abbrev pub of_kernel : Pod → List Routine → Routine → List Wanted
  of_kernel pod kernels k = of_arguments pod kernels [] (taken_of cs k) ++ (of_plain pod kernels (taken_of cs k) ++ of_locals k.vars)

  abbrev pub of_kernels : Pod → List Routine → List Routine → List (List Wanted)
  of_kernels pod before [] = []
  of_kernels pod before (k ∷ ks) = of_kernel pod before k ∷ of_kernels pod (before ++ k ∷ []) ks

  abbrev pub of_constants : List ConstantVar → List Wanted
  of_constants [] = []
  of_constants (c ∷ rest) = AConstantBlock (members cs (constant_types cs (c ∷ rest))) ∷ []

-- ---- which variable is what is wanted

module _ (w : Whole) where
  -- a variable of this storage class that points to such a type
  abbrev pub points_to : ℕ → (ℕ → Bool) → Option (ℕ × ℕ) → Bool
  points_to storage test None = false
  points_to storage test (Some p) = (p.0 == storage) && test p.1

  abbrev pub is_variable : ℕ → (ℕ → Bool) → ℕ → Bool
  is_variable storage test v = is_some_of (defined w v) (λ l. has_op op.VARIABLE l && (first l.numbers == storage) && points_to storage test (pointer w l.type))

  -- one descriptor set and one binding
  abbrev pub is_at : ℕ → ℕ → ℕ → Bool
  is_at set binding v = is_one (decorations w v decoration.DESCRIPTOR_SET) set && is_one (decorations w v decoration.BINDING) binding

  -- A buffer variable is Restrict where its parameter is `restrict`, and else Aliased.
  abbrev pub is_aliasing : Bool → ℕ → Bool
  is_aliasing true v = is_decorated w v decoration.RESTRICT && not (is_decorated w v decoration.ALIASED)
  is_aliasing false v = is_decorated w v decoration.ALIASED && not (is_decorated w v decoration.RESTRICT)

  abbrev pub is_writable : Bool → ℕ → ℕ → Bool
  is_writable true block k = not (is_member_decorated w block k decoration.NON_WRITABLE)
  is_writable false block k = is_member_decorated w block k decoration.NON_WRITABLE

  -- A block with one member at offset 0: elements of this type, of which the launch says how many.
  abbrev pub is_elements : TypeTree → ℕ → Bool
  is_elements t array = with_one (stands_for w true t) (ids_at w op.TYPE_RUNTIME_ARRAY [] array) && is_one (decorations w array decoration.ARRAY_STRIDE) (size_of t)

  abbrev pub is_buffer : TypeTree → Bool → ℕ → Bool
  is_buffer t is_constant block =
      is_decorated w block decoration.BLOCK && is_one (member_decorations w block 0 decoration.OFFSET) 0 && is_writable (not is_constant) block 0
      && with_one (is_elements t) (ids_at w op.TYPE_STRUCT [] block)

  -- a block of members of these types, which are laid out like those of a struct
  abbrev pub all_unwritable : ℕ → ℕ → List ℕ → Bool
  all_unwritable block k [] = true
  all_unwritable block k (m ∷ ms) = is_writable false block k && all_unwritable block (k + 1) ms

  abbrev pub is_block : TypeTrees → ℕ → Bool
  is_block ts block = is_decorated w block decoration.BLOCK && with_all (stand_for w true block ts 0 0) (ids_at w op.TYPE_STRUCT [] block)

  abbrev pub is_constant_block : TypeTrees → ℕ → Bool
  is_constant_block ts block = is_block ts block && with_all (all_unwritable block 0) (ids_at w op.TYPE_STRUCT [] block)

  -- an array without a layout, whose length is a 32-bit specialisation constant with this SpecId and the default 1
  abbrev pub is_size : ℕ → ℕ → Bool
  is_size spec id = is_some_of (defined w id) (λ l. has_op op.SPEC_CONSTANT l && is_int_of w 32 l.type && (first l.numbers == 1)) && is_one (decorations w id decoration.SPEC_ID) spec

  abbrev pub is_sized : ℕ → TypeTree → ℕ → Bool
  is_sized spec t array = with_two (stands_for w false t) (is_size spec) (ids_at w op.TYPE_ARRAY [] array) && is_none (decorations w array decoration.ARRAY_STRIDE)

  abbrev pub is_wanted : Wanted → ℕ → Bool
  is_wanted (ABuffer binding t is_constant is_restrict) v = is_variable storage_class.STORAGE_BUFFER (is_buffer t is_constant) v && is_at 0 binding v && is_aliasing is_restrict v
  is_wanted (ASized spec t) v = is_variable storage_class.WORKGROUP (is_sized spec t) v
  is_wanted (ALocal t) v = is_variable storage_class.WORKGROUP (stands_for w false t) v
  is_wanted (APlainBlock binding ts) v = is_variable storage_class.STORAGE_BUFFER (is_block ts) v && is_at 0 binding v
  is_wanted (APushBlock ts) v = is_variable storage_class.PUSH_CONSTANT (is_block ts) v
  is_wanted (AConstantBlock ts) v = is_variable storage_class.STORAGE_BUFFER (is_constant_block ts) v && is_at 1 0 v

  -- variables in the order of what is wanted
  abbrev pub are_wanted : List Wanted → List ℕ → Bool
  are_wanted [] [] = true
  are_wanted (a ∷ as_) (v ∷ vs) = is_wanted a v && are_wanted as_ vs
  are_wanted _ _ = false

  -- ---- no others

  abbrev pub result_among : List ℕ → Option ℕ → Bool
  result_among vs None = false
  result_among vs (Some v) = is_among vs v

  -- a variable of a function, an input, or one of these
  abbrev pub is_expected : List ℕ → Line → Bool
  is_expected vs l = l.inside || (first l.numbers == storage_class.INPUT) || result_among vs l.result

  abbrev pub all_expected : List ℕ → List Line → Bool
  all_expected vs [] = true
  all_expected vs (l ∷ ls) = is_expected vs l && all_expected vs ls

abbrev pub all_wanted : Whole → List (List Wanted) → List (List ℕ) → Bool
all_wanted w [] [] = true
all_wanted w (a ∷ as_) (v ∷ vs) = are_wanted w a v && all_wanted w as_ vs
all_wanted w _ _ = false

-- The module's variables: those of each kernel in order, and that of the constants. It has no others but inputs and variables of functions.
pub record InterfaceStands (w : Whole) (pod : Pod) (u : Functions) : Type 0 where
  pub kernels : List (List ℕ)
  pub constants : List ℕ
  pub of_each_kernel : all_wanted w (of_kernels u.types pod [] (kernels_of u.functions)) kernels ≡ true
  pub of_all_constants : are_wanted w (of_constants u.types u.constants) constants ≡ true
  pub distinct : are_distinct (joined kernels ++ constants) ≡ true
  pub others : all_expected w (joined kernels ++ constants) w.variables ≡ true
