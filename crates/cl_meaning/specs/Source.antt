-- A launch of a unit: what each work-item sees and begins with, the shared memory, and all items together (OpenCL C 1.2, 6.5, 6.7 and 6.12.11).
use Rattle.std.specs.Prelude.{ℕ, suc, ◌&&◌, Bool, true, false, if◌then◌else◌, List, [], ◌∷◌, length, map, Option, Some, None, unwrap_or, slice_get, bytes_eq}
use Rattle.clv_worlds.specs.Worlds.{Program, IsDefined}
use Rattle.cl_types.specs.declared.types.ClType.{ClType}
use Rattle.cl_tree.specs.declared.unit.ConstantVar.{ConstantVar}
use Rattle.cl_tree.specs.declared.unit.Function.{Function}
use Rattle.cl_tree.specs.declared.unit.Variable.{Variable}
use Rattle.launch_text.specs.declared.launch.ArgSize.{ArgSize}
use Rattle.launch_text.specs.declared.launch.ArgSize.TheVariants as argument
use Rattle.launch_text.specs.Rules.{LoadedLaunch}
use Rattle.launch_text.specs.Seen.{launch_seen}
use Rattle.cl_tree.specs.declared.event.Shared.TheVariants as shared
use Rattle.cl_common.specs.Bytes.{no_bytes}
use Rattle.cl_common.specs.Events.{Asked, gate_of}
use Rattle.cl_common.specs.SharedMemory.{shared_by, opening_memory}
use Rattle.cl_meaning.specs.Code.{Code, code_of}
use Rattle.cl_meaning.specs.Values.{InShared, whole_of}
use Rattle.cl_meaning.specs.Tasks.{Step, Pass}
use Rattle.cl_meaning.specs.Statements.{function_tasks}
use Rattle.cl_meaning.specs.States.{Surroundings, Memory, Item, with_bytes, with_pointer}
use Rattle.cl_meaning.specs.Items.{source_item, weight}

-- A unit: its types, its constants and its functions.
pub record Unit : Type 0 where
  pub types : List ClType
  pub constants : List ConstantVar
  pub functions : List Function

-- ---- what an item sees

-- the kernel of a name, and its number
abbrev pub is_kernel_of : List ℕ → Function → Bool
is_kernel_of name f = f.kernel && bytes_eq name f.name

abbrev pub kernel_from : ℕ → List ℕ → List Function → Option ℕ
kernel_from k name [] = None
kernel_from k name (f ∷ fs) = if is_kernel_of name f then Some k else kernel_from (suc k) name fs

abbrev pub kernel_of : List ℕ → List Function → ℕ
kernel_of name fs = unwrap_or (kernel_from 0 name fs) 0

abbrev pub params_of : Option Function → List Variable
params_of None = []
params_of (Some f) = f.params

abbrev pub surroundings_of : Unit → LoadedLaunch → ℕ → Surroundings
surroundings_of u l item = record { types = u.types; functions = map (code_of u.types) u.functions; launch = launch_seen l (length (params_of (slice_get u.functions (kernel_of l.kernel u.functions)))); item = item }

-- ---- what an item begins with

-- A parameter of the kernel: a pointer to the whole of a buffer or of an argument in local memory, or the bytes of a plain argument, which are all
-- set (6.5, 6.7).
abbrev pub with_argument : ℕ → ArgSize → Memory → Memory
with_argument k (argument.Buffer file bytes) m = with_pointer (record { calls = []; is_param = true; number = k }) (Some (whole_of (InShared (shared.Buffer file)) bytes)) m
with_argument k (argument.Local bytes) m = with_pointer (record { calls = []; is_param = true; number = k }) (Some (whole_of (InShared (shared.LocalArgument k)) bytes)) m
with_argument k (argument.Plain bytes) m = with_bytes (record { calls = []; is_param = true; number = k }) (slice_get bytes) m

abbrev pub with_arguments : ℕ → List ArgSize → Memory → Memory
with_arguments k [] m = m
with_arguments k (a ∷ as_) m = with_arguments (suc k) as_ (with_argument k a m)

abbrev pub unset : Memory
unset = record { bytes = λ name. no_bytes; pointers = λ name. None }

-- Entering the kernel is a step.
abbrev pub begun : Surroundings → ℕ → Option Code → Item
begun s kernel None = record { todo = []; stack = []; memory = unset; frame = record { function = kernel; calls = [] }; around = []; callers = [] }
begun s kernel (Some code) = record {
  todo = Step Pass ∷ function_tasks s.types code;
  stack = [];
  memory = with_arguments 0 s.launch.args unset;
  frame = record { function = kernel; calls = [] };
  around = [];
  callers = [];
}

abbrev pub first_item : Surroundings → ℕ → Item
first_item s kernel = begun s kernel (slice_get s.functions kernel)

-- ---- all items of a launch

-- An item that asks for a byte that was never set is not answered.
abbrev pub source_world : Unit → LoadedLaunch → Program Item Asked Asked
source_world u l = record {
  machine = λ item. source_item (surroundings_of u l item);
  start = λ item. first_item (surroundings_of u l item) (kernel_of l.kernel u.functions);
  weight = weight;
  word = λ a. a;
  gate = λ a. gate_of a.event;
  takes_any = false;
}

-- No run of the launch's items comes to undefined behaviour.
abbrev pub IsDefinedLaunch : Unit → LoadedLaunch → Type 0
IsDefinedLaunch u l = IsDefined (shared_by u.constants l) (source_world u l) (opening_memory l.buffers)
