-- How a launch is bound to a module: through its reflection rows, its variables' types and decorations, and nothing of a source.
use Rattle.std.specs.Prelude.{◌≡◌, ℕ, ◌+◌, if◌then◌else◌, List, [], ◌∷◌, Option, Some, None}
use Rattle.std.specs.Str.{bytes_eq}
use Rattle.spv_module.specs.declared.module.Inst.{Inst}
use Rattle.spv_module.specs.declared.enumerant.decoration.TheConstants as decoration
use Rattle.spv_module.specs.Options.{◌>>=◌, for_each, is_there}
use Rattle.launch_text.specs.declared.launch.ArgLine.{ArgLine}
use Rattle.launch_text.specs.WorkItems.{Sizes, sizes_of}
use Rattle.launch_text.specs.Rules.{LoadedLaunch, Element, Parameter, BufferPointer, Taken, required_by, KeepsRules, buffer_given}
use Rattle.spv_meaning.specs.Start.{Bound, Specialised, Start}
use Rattle.spv_module.specs.Instructions.{definition_in, decoration_in}
use Rattle.spv_module.specs.Interface.{is_bound_at, variables_in, pointee_by, number_of}
use Rattle.spv_reflect.specs.declared.rows.ArgKindRow.{ArgKindRow}
use Rattle.spv_reflect.specs.declared.rows.ArgKindRow.TheVariants.{Buffer}
use Rattle.spv_reflect.specs.declared.rows.ArgRow.{ArgRow}
use Rattle.spv_reflect.specs.declared.rows.KernelRow.{KernelRow}
use Rattle.spv_reflect.specs.declared.rows.Reflection.{Reflection}
use Rattle.spv_reflect.specs.Reflection.{rows_of}
use Rattle.vk_bind.specs.Elements.{element_in, scalars_in}

-- the variable of a set and binding
abbrev pub variable_among : List Inst → ℕ → ℕ → List (ℕ × ℕ) → Option ℕ
variable_among body set binding [] = None
variable_among body set binding (v ∷ vs) = if is_bound_at body v.0 set binding then Some v.0 else variable_among body set binding vs

-- the array of a buffer variable
abbrev pub array_of : List Inst → ℕ → Option ℕ
array_of body v = pointee_by (definition_in body v) >>= λ pointer. pointee_by (definition_in body pointer) >>= λ block. pointee_by (definition_in body block)

-- its elements: their size is what lies from one to the next
abbrev pub elements_of : List Inst → ℕ → Option Element
elements_of body array = number_of (decoration_in body array decoration.ARRAY_STRIDE) >>= λ stride. element_in body array >>= λ element. Some (record { size = stride; scalars = scalars_in body element })

-- what a buffer variable takes
abbrev pub pointer_to : List Inst → ℕ → Option Parameter
pointer_to body v = array_of body v >>= λ array. elements_of body array >>= λ element. Some (BufferPointer element (is_there (decoration_in body v decoration.RESTRICT)))

-- what an argument's row asks for
abbrev pub parameter_by : List Inst → ArgKindRow → Option Parameter
parameter_by body (Buffer set binding) = variable_among body set binding (variables_in body) >>= pointer_to body
parameter_by body _ = None

abbrev pub parameter_of : List Inst → ArgRow → Option Parameter
parameter_of body row = parameter_by body row.kind

-- What a kernel takes, by its row. No opcode so far says the size of a group (LocalSize).
abbrev pub taken_of : List Inst → KernelRow → Option Taken
taken_of body row = for_each (parameter_of body) row.args >>= λ parameters. Some (record { parameters = parameters; required = required_by row.required })

-- the row of the kernel of this name
abbrev pub kernel_among : List ℕ → List KernelRow → Option KernelRow
kernel_among name [] = None
kernel_among name (row ∷ rows) = if bytes_eq row.name name then Some row else kernel_among name rows

-- what is bound by the arguments' rows
abbrev pub bound_by : ArgKindRow → Option ℕ → List Bound → List Bound
bound_by (Buffer set binding) (Some buffer) bs = record { set = set; binding = binding; buffer = buffer } ∷ bs
bound_by _ _ bs = bs

abbrev pub bound_from : List ArgLine → ℕ → List ArgRow → List Bound
bound_from args n [] = []
bound_from args n (row ∷ rows) = bound_by row.kind (buffer_given n args) (bound_from args (n + 1) rows)

abbrev pub specialised_by : Option (List ℕ) → Sizes → List Specialised
specialised_by None local = []
specialised_by (Some s) local =
    let ids = sizes_of s in
    record { id = ids.x; value = local.x } ∷ record { id = ids.y; value = local.y } ∷ record { id = ids.z; value = local.z } ∷ []

abbrev pub start_of : Reflection → KernelRow → LoadedLaunch → Start
start_of r row l = record { function = row.function; global = l.global; local = l.local; buffers = l.buffers; bound = bound_from l.arguments 0 row.args; specialised = specialised_by r.sizes l.local }

-- What the kernel of the launch's name takes, and the start that the launch gives it. None where there is no such kernel (L10).
abbrev pub binding_of : List Inst → LoadedLaunch → Option (Taken × Start)
binding_of body l = rows_of body >>= λ r. kernel_among l.kernel r.kernels >>= λ row. taken_of body row >>= λ taken. Some (taken, start_of r row l)

-- what the kernel of a name takes, by the module's rows; none where there is no such kernel
abbrev pub takes_in : List Inst → List ℕ → Option Taken
takes_in body name = rows_of body >>= λ r. kernel_among name r.kernels >>= taken_of body

-- The launch binds to the module with this start: it breaks no rule on what the kernel takes.
pub record BindsTo (body : List Inst) (l : LoadedLaunch) (start : Start) : Type 0 where
  pub taken : Taken
  pub binding : binding_of body l ≡ Some (taken, start)
  pub rules : KeepsRules taken l
