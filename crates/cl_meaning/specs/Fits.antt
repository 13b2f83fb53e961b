-- What the kernels of a unit take, and which launches fit it.
use Rattle.std.specs.Prelude.{◌≡◌, ℕ, List, [], ◌∷◌, map, Option, Some, None, slice_get}
use Rattle.cl_types.specs.declared.types.ClType.{ClType}
use Rattle.cl_types.specs.declared.types.TypeId.{TypeId}
use Rattle.cl_types.specs.declared.scalars.Scalar.{Scalar as Slot}
use Rattle.cl_types.specs.declared.space.Space.TheVariants as space
use Rattle.cl_tree.specs.declared.shape.Shape.{Shape}
use Rattle.cl_tree.specs.declared.shape.Shape.TheVariants as shape
use Rattle.cl_tree.specs.declared.unit.Function.{Function}
use Rattle.cl_tree.specs.declared.unit.Variable.{Variable}
use Rattle.cl_tree.specs.Shapes.{shape_of}
use Rattle.launch_text.specs.WorkItems.{Sizes, sizes_of}
use Rattle.launch_text.specs.Rules.{LoadedLaunch, IsLaunch, Parameter, BufferPointer, LocalPointer, PlainValue, Taken, KeepsRules}
use Rattle.cl_common.specs.Types.{size_at, slots_at}
use Rattle.cl_meaning.specs.Source.{Unit, kernel_from}

-- where a scalar lies, and its bits
abbrev pub laid : List Slot → List (ℕ × ℕ)
laid [] = []
laid (s ∷ ss) = (s.offset, s.bits) ∷ laid ss

abbrev pub parameter_in : List ClType → TypeId → Shape → Parameter
parameter_in cs t (shape.Pointer space.Local to readonly restricted) = LocalPointer (size_at cs to)
parameter_in cs t (shape.Pointer s to readonly restricted) = BufferPointer (record { size = size_at cs to; scalars = laid (slots_at cs to) }) restricted
parameter_in cs t s = PlainValue (size_at cs t)

abbrev pub parameter_of : List ClType → Variable → Parameter
parameter_of cs v = parameter_in cs v.ty (shape_of cs v.ty)

abbrev pub required_by : Option (List ℕ) → List Sizes
required_by None = []
required_by (Some sizes) = sizes_of sizes ∷ []

abbrev pub taken_by : List ClType → Option Function → Option Taken
taken_by cs None = None
taken_by cs (Some f) = Some (record { parameters = map (parameter_of cs) f.params; required = required_by f.required })

abbrev pub function_at : List Function → Option ℕ → Option Function
function_at fs None = None
function_at fs (Some k) = slice_get fs k

-- what the kernel of this name takes; None where there is none
abbrev pub takes_of : Unit → List ℕ → Option Taken
takes_of u name = taken_by u.types (function_at u.functions (kernel_from 0 name u.functions))

-- A launch that can be written, names a kernel of the unit, and keeps the rules on what it takes.
pub record Fits (u : Unit) (l : LoadedLaunch) : Type 0 where
  pub launch : IsLaunch l
  pub taken : Taken
  pub kernel : takes_of u l.kernel ≡ Some taken
  pub rules : KeepsRules taken l
