-- A launch of an object program: what each work-item sees and begins with, and all items together (OpenCL C 1.2, 6.5 and 6.7).
use Rattle.std.specs.Prelude.{ℕ, suc, ◌/◌, nat_eq, not, false, if◌then◌else◌, List, [], ◌∷◌, map, length, replicate, Option, Some, None, slice_get, bytes_eq}
use Rattle.clv_worlds.specs.Worlds.{Program as Launched}
use Rattle.cl_types.specs.declared.types.ClType.{ClType}
use Rattle.cl_types.specs.declared.types.TypeId.{TypeId}
use Rattle.cl_types.specs.declared.scalars.Scalar.{Scalar as Slot}
use Rattle.cl_tree.specs.declared.unit.ConstantVar.{ConstantVar}
use Rattle.cl_tree.specs.declared.unit.Variable.{Variable}
use Rattle.cl_tree.specs.Shapes.{shape_of, is_pointer}
use Rattle.cl_tree.specs.Units.{types_of}
use Rattle.launch_text.specs.declared.launch.ArgSize.{ArgSize}
use Rattle.launch_text.specs.declared.launch.ArgSize.TheVariants as argument
use Rattle.launch_text.specs.Rules.{LoadedLaunch}
use Rattle.launch_text.specs.Seen.{launch_seen}
use Rattle.cl_common.specs.Bytes.{Bytes, no_bytes, number_at}
use Rattle.cl_common.specs.Events.{Asked, gate_of}
use Rattle.obj_tree.specs.declared.program.Copy.{Copy}
use Rattle.obj_tree.specs.declared.program.KernelInfo.{KernelInfo}
use Rattle.obj_tree.specs.Code.{Code, code_of}
use Rattle.cl_common.specs.Types.{slots_at}
use Rattle.obj_tree.specs.Places.{OneIndex}
use Rattle.obj_tree.specs.Tasks.{Step, Pass, Other}
use Rattle.obj_tree.specs.Statements.{copy_tasks}
use Rattle.obj_tree.specs.States.{Surroundings, Cells, Memory, Item, no_cells, with_object, with_values}
use Rattle.obj_tree.specs.Items.{object_item, weight}

-- An object program: its types, its constants, its kernels and its copies.
pub record Parts : Type 0 where
  pub types : List ClType
  pub constants : List ConstantVar
  pub kernels : List KernelInfo
  pub copies : List Copy

-- ---- what an item sees

-- the kernel of a name
abbrev pub kernel_of : List ℕ → List KernelInfo → Option KernelInfo
kernel_of name [] = None
kernel_of name (k ∷ ks) = if bytes_eq name k.name then Some k else kernel_of name ks

abbrev pub params_of : Option KernelInfo → List Variable
params_of None = []
params_of (Some k) = k.params

abbrev pub locals_of : Option KernelInfo → List Variable
locals_of None = []
locals_of (Some k) = k.locals

abbrev pub copy_of : Option KernelInfo → ℕ
copy_of None = 0
copy_of (Some k) = k.copy

abbrev pub constant_types : List ConstantVar → List TypeId
constant_types [] = []
constant_types (c ∷ cs) = c.variable.ty ∷ constant_types cs

abbrev pub surroundings_in : Parts → Option KernelInfo → LoadedLaunch → ℕ → Surroundings
surroundings_in p k l item = record {
  types = p.types;
  constants = constant_types p.constants;
  copies = map code_of p.copies;
  params = types_of (params_of k);
  locals = types_of (locals_of k);
  launch = launch_seen l (length (params_of k));
  item = item;
}

abbrev pub surroundings_of : Parts → LoadedLaunch → ℕ → Surroundings
surroundings_of p l item = surroundings_in p (kernel_of l.kernel p.kernels) l item

-- ---- what an item begins with

-- the scalars of a plain argument, which are all set (6.7)
abbrev pub cells_in : List Slot → Bytes → Cells
cells_in [] bytes at = None
cells_in (s ∷ ss) bytes at = if nat_eq at s.offset then number_at bytes s.offset (s.bits / 8) else cells_in ss bytes at

abbrev pub plain_bytes : ArgSize → Bytes
plain_bytes (argument.Plain bytes) = slice_get bytes
plain_bytes _ = no_bytes

-- what stands in the plain arguments, the first of which is the object of this number; pointers have no object of their own
abbrev pub with_arguments : List ClType → ℕ → List TypeId → List ArgSize → Memory → Memory
with_arguments cs k (t ∷ ts) (a ∷ as_) m =
    let plain = not (is_pointer (shape_of cs t)) in
    with_arguments cs (if plain then suc k else k) ts as_ (if plain then with_object (record { calls = []; number = k }) (cells_in (slots_at cs t) (plain_bytes a)) m else m)
with_arguments cs k _ _ m = m

abbrev pub no_memory : Memory
no_memory name = no_cells

-- The kernel's pointers point to the first elements of what their arguments are.
abbrev pub with_indices : Code → Memory → Memory
with_indices c m = with_values [] [] (length c.plain) (replicate c.indices OneIndex) (replicate c.indices (0 ∷ [])) m

-- Entering the kernel is a step.
abbrev pub begun : Surroundings → ℕ → Option Code → Item
begun s copy None = record { todo = []; stack = []; memory = no_memory; frame = record { copy = copy; calls = []; passed = [] }; around = []; callers = [] }
begun s copy (Some code) = record {
  todo = Step Other Pass ∷ copy_tasks s.types code;
  stack = [];
  memory = with_indices code (with_arguments s.types 0 s.params s.launch.args no_memory);
  frame = record { copy = copy; calls = []; passed = [] };
  around = [];
  callers = [];
}

abbrev pub first_item : Surroundings → ℕ → Item
first_item s copy = begun s copy (slice_get s.copies copy)

-- ---- all items of a launch

-- An item that asks for a byte that was never set is not answered.
abbrev pub object_world : Parts → LoadedLaunch → Launched Item Asked Asked
object_world p l = record {
  machine = λ item. object_item (surroundings_of p l item);
  start = λ item. first_item (surroundings_of p l item) (copy_of (kernel_of l.kernel p.kernels));
  weight = weight;
  word = λ a. a;
  gate = λ a. gate_of a.event;
  takes_any = false;
}
