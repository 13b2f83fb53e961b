-- Which units are well typed: their types, their constants, and their functions.
use Rattle.std.specs.Prelude.{ℕ, ◌*◌, nat_eq, nat_le, not, ◌&&◌, ◌||◌, Bool, true, false, if◌then◌else◌, List, [], ◌∷◌, length, map, Option, Some, None, bytes_eq}
use Rattle.cl_types.specs.declared.types.ClType.{ClType}
use Rattle.cl_types.specs.declared.types.ClType.TheVariants as ty
use Rattle.cl_types.specs.declared.types.Member.{Member}
use Rattle.cl_types.specs.declared.types.TypeId.{TypeId}
use Rattle.cl_types.specs.declared.space.Space.{Space}
use Rattle.cl_types.specs.declared.space.Space.TheVariants as space
use Rattle.cl_tree.specs.declared.shape.Shape.{Shape}
use Rattle.cl_tree.specs.declared.shape.Shape.TheVariants as shape
use Rattle.cl_tree.specs.declared.unit.Variable.{Variable}
use Rattle.cl_tree.specs.declared.unit.ConstantVar.{ConstantVar}
use Rattle.cl_tree.specs.declared.unit.Function.{Function}
use Rattle.cl_tree.specs.Facts.{Lists, Callee}
use Rattle.cl_tree.specs.Shapes.{shape_of, is_void, is_array, is_pointer}
use Rattle.cl_tree.specs.Statements.{Frame, tested}

-- ---- which types may stand where

-- 303: what lies in memory that others see, as an element, a member or a constant: an integer, a vector, an array or a struct
abbrev pub is_object : Shape → Bool
is_object (shape.Integers t) = true
is_object (shape.Array elem len nested) = true
is_object shape.Struct = true
is_object _ = false

-- what a pointer points to is no array besides
abbrev pub is_pointee : Shape → Bool
is_pointee s = is_object s && not (is_array s)

abbrev pub are_objects : List ClType → List Member → Bool
are_objects cs [] = true
are_objects cs (m ∷ ms) = is_object (shape_of cs m.ty) && are_objects cs ms

abbrev pub is_allowed : List ClType → ClType → Bool
is_allowed cs (ty.Array elem len) = is_object (shape_of cs elem)
is_allowed cs (ty.Struct name members) = are_objects cs members
is_allowed cs (ty.Pointer s to readonly restricted) = is_pointee (shape_of cs to)
is_allowed cs _ = true

abbrev pub are_allowed : List ClType → List ClType → Bool
are_allowed cs [] = true
are_allowed cs (c ∷ rest) = is_allowed cs c && are_allowed cs rest

-- ---- variables

abbrev pub is_private : Space → Bool
is_private space.Private = true
is_private _ = false

-- 303 and 326: a private variable is no void; one in local memory is an object
abbrev pub is_variable_in : Space → Shape → Bool
is_variable_in space.Private s = not (is_void s)
is_variable_in space.Local s = is_object s
is_variable_in _ s = false

abbrev pub is_variable : List ClType → Bool → Variable → Bool
is_variable cs kernel v = is_variable_in v.space (shape_of cs v.ty) && (kernel || is_private v.space)

abbrev pub are_variables : List ClType → Bool → List Variable → Bool
are_variables cs kernel [] = true
are_variables cs kernel (v ∷ vs) = is_variable cs kernel v && are_variables cs kernel vs

-- 327: a parameter of a kernel is an integer, a vector, a struct or a pointer out of private memory; of another function no void and no array
abbrev pub is_outside : Space → Bool
is_outside space.Private = false
is_outside _ = true

abbrev pub is_kernel_param : Shape → Bool
is_kernel_param (shape.Integers t) = true
is_kernel_param shape.Struct = true
is_kernel_param (shape.Pointer s to readonly restricted) = is_outside s
is_kernel_param _ = false

abbrev pub is_param : List ClType → Bool → Variable → Bool
is_param cs kernel v = is_private v.space && (if kernel then is_kernel_param (shape_of cs v.ty) else not (is_void (shape_of cs v.ty) || is_array (shape_of cs v.ty)))

abbrev pub are_params : List ClType → Bool → List Variable → Bool
are_params cs kernel [] = true
are_params cs kernel (v ∷ vs) = is_param cs kernel v && are_params cs kernel vs

abbrev pub is_constant_space : Space → Bool
is_constant_space space.Constant = true
is_constant_space _ = false

abbrev pub are_constants : List ClType → List ConstantVar → Bool
are_constants cs [] = true
are_constants cs (c ∷ rest) = is_constant_space c.variable.space && is_object (shape_of cs c.variable.ty) && are_constants cs rest

-- ---- functions

-- 327: a kernel gives void; 303: no function gives an array or a pointer
abbrev pub is_result : Bool → Shape → Bool
is_result kernel s = if kernel then is_void s else not (is_array s || is_pointer s)

-- 328: a required size has positive numbers with a product of at most 1,024
abbrev pub is_required : Option (List ℕ) → Bool
is_required None = true
is_required (Some (x ∷ y ∷ z ∷ [])) = not (nat_eq x 0 || nat_eq y 0 || nat_eq z 0) && nat_le (x * y * z) 1024
is_required (Some _) = false

abbrev pub types_of : List Variable → List TypeId
types_of [] = []
types_of (v ∷ vs) = v.ty ∷ types_of vs

abbrev pub callee_of : Function → Callee
callee_of f = record { params = types_of f.params; result = f.result; kernel = f.kernel }

abbrev pub variables_of : List ConstantVar → List Variable
variables_of [] = []
variables_of (c ∷ cs) = c.variable ∷ variables_of cs

abbrev pub lists_of : List ClType → List ConstantVar → List Function → Function → Lists
lists_of cs constants functions f =
    record { types = cs; params = f.params; vars = f.vars; constants = variables_of constants; functions = map callee_of functions }

abbrev pub frame_of : List ClType → List ConstantVar → List Function → Function → Frame
frame_of cs constants functions f = record { lists = lists_of cs constants functions f; result = f.result; breaks = false; continues = false }

-- 504: at most 32 parameters
abbrev pub is_function : List ClType → List ConstantVar → List Function → Function → Bool
is_function cs constants functions f =
    nat_le (length f.params) 32 && are_params cs f.kernel f.params && are_variables cs f.kernel f.vars && is_result f.kernel (shape_of cs f.result)
    && is_required f.required && (tested f.body).fits (frame_of cs constants functions f)

abbrev pub are_functions : List ClType → List ConstantVar → List Function → List Function → Bool
are_functions cs constants all [] = true
are_functions cs constants all (f ∷ fs) = is_function cs constants all f && are_functions cs constants all fs

-- 332: no two functions have one name
abbrev pub has_name : List ℕ → List Function → Bool
has_name name [] = false
has_name name (f ∷ fs) = bytes_eq name f.name || has_name name fs

abbrev pub names_differ : List Function → Bool
names_differ [] = true
names_differ (f ∷ fs) = not (has_name f.name fs) && names_differ fs

-- 335: some kernel has a body
abbrev pub has_kernel : List Function → Bool
has_kernel [] = false
has_kernel (f ∷ fs) = f.kernel || has_kernel fs

unfoldable pub is_unit : List ClType → List ConstantVar → List Function → Bool
is_unit cs constants functions = are_allowed cs cs && are_constants cs constants && are_functions cs constants functions functions && names_differ functions && has_kernel functions
