-- How a launch is bound to a module: through its reflection rows, its variables' types and decorations, and nothing of a source (Vulkan, 15.6; OpenCL 1.2, 5.7.2).
use Rattle.std.specs.Prelude.{◌≡◌, ℕ, suc, ◌/◌, ◌==◌, nat_eq, Bool, true, false, ◌&&◌, if◌then◌else◌, List, [], ◌∷◌, ◌++◌, length, map, replicate, Option, Some, None, unwrap_or}
use Rattle.launch_text.specs.declared.launch.ArgKind.{ArgKind}
use Rattle.launch_text.specs.declared.launch.ArgKind.TheVariants.{Buffer, Local, Plain}
use Rattle.launch_text.specs.WorkItems.{Sizes}
use Rattle.launch_text.specs.Rules.{LoadedLaunch, Element, Parameter, BufferPointer, LocalPointer, PlainValue, Taken, required_by, KeepsRules, given_to}
use Rattle.spv_module.specs.declared.module.Inst.{Inst}
use Rattle.spv_module.specs.declared.op.TheConstants as op
use Rattle.spv_module.specs.declared.enumerant.storage_class.TheConstants as storage_class
use Rattle.spv_module.specs.declared.enumerant.decoration.TheConstants as decoration
use Rattle.spv_module.specs.declared.enumerant.execution_mode.TheConstants as execution_mode
use Rattle.spv_module.specs.Options.{◌>>=◌, for_each, is_there}
use Rattle.spv_module.specs.Instructions.{Said, RuntimeArray, ids, words, definition_in, decoration_in}
use Rattle.spv_module.specs.Interface.{variables_in, pointee_by}
use Rattle.spv_types_rules.specs.Lines.{Whole, whole, lines_of}
use Rattle.spv_types_rules.specs.Layout.{size}
use Rattle.spv_types_rules.specs.Variables.{used}
use Rattle.spv_reflect.specs.declared.rows.ArgKindRow.{ArgKindRow}
use Rattle.spv_reflect.specs.declared.rows.ArgKindRow.TheVariants as kind
use Rattle.spv_reflect.specs.declared.rows.ArgRow.{ArgRow}
use Rattle.spv_reflect.specs.declared.rows.ConstantRow.{ConstantRow}
use Rattle.spv_reflect.specs.declared.rows.KernelRow.{KernelRow}
use Rattle.spv_reflect.specs.declared.rows.Reflection.{Reflection}
use Rattle.spv_meaning.specs.Start.{Bound, Specialised}
use Rattle.spv_invocations.specs.Start.{Start, Given}
use Rattle.spv_invocations.specs.Types.{laid_at, stride_in}
use Rattle.spv_invocations.specs.Worlds.{put_at}
use Rattle.vk_bind.specs.Binding.{variable_among, array_of, kernel_among, specialised_by}
use Rattle.clv_promises.specs.Rows.{rows_of}

-- ---- a module where nothing is launched

abbrev pub no_sizes : Sizes
no_sizes = record { x = 0; y = 0; z = 0 }

abbrev pub no_start : Start
no_start = record { function = 0; global = no_sizes; local = no_sizes; buffers = []; shared = 0; bound = []; push = []; specialised = [] }

-- Specialisation constants have their defaults.
abbrev pub at_rest : List Inst → Given
at_rest body = record { body = body; start = no_start; place = no_sizes }

module _ (body : List Inst) where
  abbrev pub whole_module : Whole
  whole_module = whole (lines_of body)

  -- ---- what a kernel takes

  -- the variable of a set and binding
  abbrev pub variable_at : ℕ → ℕ → Option ℕ
  variable_at set binding = variable_among body set binding (variables_in body)

  -- the block that a variable's pointer type points to
  abbrev pub block_of : ℕ → Option ℕ
  block_of v = pointee_by (definition_in body v) >>= λ pointer. pointee_by (definition_in body pointer)

  abbrev pub element_by : Option Said → Option ℕ
  element_by (Some (RuntimeArray r element)) = Some element
  element_by _ = None

  -- its elements: how far one lies behind the other, and where the scalars of one lie
  abbrev pub elements_of : ℕ → Option Element
  elements_of array = stride_in body array >>= λ stride. element_by (definition_in body array) >>= λ element. laid_at (at_rest body) element 0 >>= λ laid. Some (record { size = stride; scalars = laid })

  abbrev pub buffer_of : ℕ → Option Parameter
  buffer_of v = array_of body v >>= λ array. elements_of array >>= λ element. Some (BufferPointer element (is_there (decoration_in body v decoration.RESTRICT)))

  -- what the row of an argument asks for
  abbrev pub parameter_by : ArgKindRow → Option Parameter
  parameter_by (kind.Buffer set binding) = variable_at set binding >>= buffer_of
  parameter_by (kind.PlainStorage set binding offset bytes) = Some (PlainValue bytes)
  parameter_by (kind.PlainPush offset bytes) = Some (PlainValue bytes)
  parameter_by (kind.Local spec bytes) = Some (LocalPointer bytes)

  abbrev pub parameter_of : ArgRow → Option Parameter
  parameter_of row = parameter_by row.kind

  -- the size of a group that an entry point's mode says (LocalSize), beside the one that its row requires
  abbrev pub mode_sizes : ℕ → List ℕ → List ℕ → List Sizes
  mode_sizes function (f ∷ []) (mode ∷ x ∷ y ∷ z ∷ []) = if nat_eq f function && nat_eq mode execution_mode.LOCAL_SIZE then record { x = x; y = y; z = z } ∷ [] else []
  mode_sizes function _ _ = []

  abbrev pub entry_sizes : ℕ → List Inst → List Sizes
  entry_sizes function [] = []
  entry_sizes function (i ∷ is) = (if i.op == op.EXECUTION_MODE then mode_sizes function (ids i.operands) (words i.operands) else []) ++ entry_sizes function is

  abbrev pub taken_of : KernelRow → Option Taken
  taken_of row = for_each parameter_of row.args >>= λ parameters. Some (record { parameters = parameters; required = required_by row.required ++ entry_sizes row.function body })

  -- the row of the kernel of a name, and what it takes; none where there is no such kernel
  abbrev pub kernel_of : List ℕ → Option KernelRow
  kernel_of name = kernel_among name (rows_of whole_module).kernels

  abbrev pub takes_in : List ℕ → Option Taken
  takes_in name = kernel_of name >>= taken_of

  -- ---- blocks of plain arguments: their bytes stand at their offsets, and every other byte of the block is 0

  abbrev pub block_size : Option ℕ → ℕ
  block_size None = 0
  block_size (Some v) = unwrap_or (block_of v >>= λ block. Some (size whole_module block)) 0

  abbrev pub with_plain : ℕ → Option ArgKind → List ℕ → List ℕ
  with_plain offset (Some (Plain bytes)) block = put_at offset bytes block
  with_plain offset _ block = block

  -- a place in a block, by the row of an argument: none where it stands in another
  abbrev pub in_block : ℕ → ℕ → ArgKindRow → Option ℕ
  in_block set binding (kind.PlainStorage s b offset bytes) = if nat_eq s set && nat_eq b binding then Some offset else None
  in_block set binding _ = None

  abbrev pub in_push : ArgKindRow → Option ℕ
  in_push (kind.PlainPush offset bytes) = Some offset
  in_push _ = None

  abbrev pub put_plain : Option ℕ → Option ArgKind → List ℕ → List ℕ
  put_plain None given block = block
  put_plain (Some offset) given block = with_plain offset given block

  -- the block with the arguments from the nth on
  abbrev pub filled_by : (ArgKindRow → Option ℕ) → LoadedLaunch → ℕ → List ArgRow → List ℕ → List ℕ
  filled_by place l n [] block = block
  filled_by place l n (row ∷ rows) block = filled_by place l (suc n) rows (put_plain (place row.kind) (given_to n l.arguments) block)

  abbrev pub plain_bytes : LoadedLaunch → List ArgRow → ℕ × ℕ → List ℕ
  plain_bytes l rows at = filled_by (in_block at.0 at.1) l 0 rows (replicate (block_size (variable_at at.0 at.1)) 0)

  -- the push constants that the kernel's function uses: one variable at most (rule 19)
  abbrev pub first_of : List ℕ → Option ℕ
  first_of [] = None
  first_of (v ∷ vs) = Some v

  abbrev pub push_bytes : LoadedLaunch → KernelRow → List ℕ
  push_bytes l row = filled_by in_push l 0 row.args (replicate (block_size (first_of (used whole_module row.function storage_class.PUSH_CONSTANT))) 0)

  -- the sets and bindings of the kernel's blocks in buffers, each once
  abbrev pub is_pair_among : ℕ × ℕ → List (ℕ × ℕ) → Bool
  is_pair_among a [] = false
  is_pair_among a (b ∷ bs) = if nat_eq a.0 b.0 && nat_eq a.1 b.1 then true else is_pair_among a bs

  abbrev pub with_pair : ArgKindRow → List (ℕ × ℕ) → List (ℕ × ℕ)
  with_pair (kind.PlainStorage set binding offset bytes) seen = if is_pair_among (set, binding) seen then seen else seen ++ (set, binding) ∷ []
  with_pair _ seen = seen

  abbrev pub blocks_from : List (ℕ × ℕ) → List ArgRow → List (ℕ × ℕ)
  blocks_from seen [] = seen
  blocks_from seen (row ∷ rows) = blocks_from (with_pair row.kind seen) rows

  abbrev pub blocks_of : KernelRow → List (ℕ × ℕ)
  blocks_of row = blocks_from [] row.args

  -- ---- what is bound: the launch's buffers, behind them the constant data, and behind this the plain blocks

  abbrev pub bound_by : ArgKindRow → Option ArgKind → List Bound
  bound_by (kind.Buffer set binding) (Some (Buffer file)) = record { set = set; binding = binding; buffer = file } ∷ []
  bound_by _ _ = []

  abbrev pub bound_from : LoadedLaunch → ℕ → List ArgRow → List Bound
  bound_from l n [] = []
  bound_from l n (row ∷ rows) = bound_by row.kind (given_to n l.arguments) ++ bound_from l (suc n) rows

  abbrev pub constant_bound : ℕ → Option ConstantRow → List Bound
  constant_bound n None = []
  constant_bound n (Some c) = record { set = c.set; binding = c.binding; buffer = n } ∷ []

  abbrev pub constant_buffers : Option ConstantRow → List (List ℕ)
  constant_buffers None = []
  constant_buffers (Some c) = c.bytes ∷ []

  abbrev pub blocks_bound : ℕ → List (ℕ × ℕ) → List Bound
  blocks_bound n [] = []
  blocks_bound n (at ∷ rest) = record { set = at.0; binding = at.1; buffer = n } ∷ blocks_bound (suc n) rest

  -- ---- specialisation constants: the size of a group, the lengths of arguments in local memory, the work dimension

  abbrev pub specialised_length : ArgKindRow → Option ArgKind → List Specialised
  specialised_length (kind.Local spec element) (Some (Local bytes)) = record { id = spec; value = bytes / element } ∷ []
  specialised_length _ _ = []

  abbrev pub specialised_lengths : LoadedLaunch → ℕ → List ArgRow → List Specialised
  specialised_lengths l n [] = []
  specialised_lengths l n (row ∷ rows) = specialised_length row.kind (given_to n l.arguments) ++ specialised_lengths l (suc n) rows

  abbrev pub specialised_dimension : Option ℕ → ℕ → List Specialised
  specialised_dimension None dims = []
  specialised_dimension (Some spec) dims = record { id = spec; value = dims } ∷ []

  -- ---- the start

  -- The items share the launch's buffers and the constant data.
  abbrev pub shared_buffers : LoadedLaunch → Reflection → List (List ℕ)
  shared_buffers l r = l.buffers ++ constant_buffers r.constants

  abbrev pub start_by : LoadedLaunch → Reflection → KernelRow → Start
  start_by l r row = record {
    function = row.function;
    global = l.global;
    local = l.local;
    buffers = shared_buffers l r ++ map (plain_bytes l row.args) (blocks_of row);
    shared = length (shared_buffers l r);
    bound = bound_from l 0 row.args ++ (constant_bound (length l.buffers) r.constants ++ blocks_bound (length (shared_buffers l r)) (blocks_of row));
    push = push_bytes l row;
    specialised = specialised_by r.sizes l.local ++ (specialised_lengths l 0 row.args ++ specialised_dimension r.dim l.dims);
  }

  -- the start that a launch gives; none where the module has no kernel of its name
  abbrev pub start_of : LoadedLaunch → Option Start
  start_of l = kernel_of l.kernel >>= λ row. Some (start_by l (rows_of whole_module) row)

-- The launch binds to the module with this start: it breaks no rule on what the kernel takes.
pub record BindsTo (body : List Inst) (l : LoadedLaunch) (start : Start) : Type 0 where
  pub taken : Taken
  pub takes : takes_in body l.kernel ≡ Some taken
  pub begins : start_of body l ≡ Some start
  pub rules : KeepsRules taken l
