-- Which object programs are well formed: their types, constants, kernels and copies.
use Rattle.std.specs.Prelude.{ℕ, suc, ◌+◌, max, nat_eq, not, ◌&&◌, ◌||◌, Bool, true, false, if◌then◌else◌, List, [], ◌∷◌, ◌++◌, length, map, Option, Some, None, slice_get, bytes_eq}
use Rattle.cl_types.specs.declared.types.ClType.{ClType}
use Rattle.cl_types.specs.declared.types.TypeId.{TypeId}
use Rattle.cl_tree.specs.declared.unit.Variable.{Variable}
use Rattle.cl_tree.specs.declared.unit.ConstantVar.{ConstantVar}
use Rattle.cl_tree.specs.Shapes.{shape_of, same_type, is_void, is_array, is_pointer}
use Rattle.cl_tree.specs.Statements.{is_local}
use Rattle.cl_tree.specs.Units.{are_allowed, are_constants, are_params, is_object, is_required, types_of}
use Rattle.obj_tree.specs.declared.object.Mark.{Mark}
use Rattle.obj_tree.specs.declared.object.Mark.TheVariants as mark
use Rattle.obj_tree.specs.declared.object.Where.{Where}
use Rattle.obj_tree.specs.declared.program.Copy.{Copy}
use Rattle.obj_tree.specs.declared.program.KernelInfo.{KernelInfo}
use Rattle.obj_tree.specs.Code.{code_of}
use Rattle.obj_tree.specs.Places.{OneValue}
use Rattle.obj_tree.specs.States.{privates_of}
use Rattle.obj_tree.specs.Launches.{constant_types}
use Rattle.obj_tree.specs.Typing.{Callee, Scope, Aimed, root_at, stepped, member_part, element_part, single_part}
use Rattle.obj_tree.specs.Bodies.{Frame, tested}
use Rattle.obj_tree.specs.Sites.{sites, all_differ}

-- ---- types

abbrev pub same_lists : List TypeId → List TypeId → Bool
same_lists [] [] = true
same_lists (t ∷ ts) (u ∷ us) = same_type t u && same_lists ts us
same_lists [] (u ∷ us) = false
same_lists (t ∷ ts) [] = false

-- no private object is void or a pointer
abbrev pub is_private_object : List ClType → TypeId → Bool
is_private_object cs t = not (is_void (shape_of cs t) || is_pointer (shape_of cs t))

abbrev pub are_private_objects : List ClType → List TypeId → Bool
are_private_objects cs [] = true
are_private_objects cs (t ∷ ts) = is_private_object cs t && are_private_objects cs ts

-- no function gives an array or a pointer
abbrev pub is_result : List ClType → TypeId → Bool
is_result cs t = not (is_array (shape_of cs t) || is_pointer (shape_of cs t))

-- ---- kernels

abbrev pub are_locals : List ClType → List Variable → Bool
are_locals cs [] = true
are_locals cs (v ∷ vs) = is_local v.space && is_object (shape_of cs v.ty) && are_locals cs vs

abbrev pub plain_of : List ClType → List TypeId → List TypeId
plain_of cs [] = []
plain_of cs (t ∷ ts) = (if is_pointer (shape_of cs t) then [] else t ∷ []) ++ plain_of cs ts

-- The kernel's own copy takes the kernel's plain arguments, and gives void. Nothing is passed to it but these.
abbrev pub is_own_copy : List ClType → ℕ → List TypeId → Option Copy → Bool
is_own_copy cs k params None = false
is_own_copy cs k params (Some c) =
    nat_eq c.kernel k && same_lists c.plain (plain_of cs params) && nat_eq (length c.privates) 0 && is_void (shape_of cs c.result)

-- the parameters and variables in local memory are ones that a kernel may have, and so is the required size
abbrev pub is_kernel : List ClType → List Copy → ℕ → KernelInfo → Bool
is_kernel cs copies k info = are_params cs true info.params && are_locals cs info.locals && is_required info.required && is_own_copy cs k (types_of info.params) (slice_get copies info.copy)

abbrev pub are_kernels : List ClType → List Copy → ℕ → List KernelInfo → Bool
are_kernels cs copies k [] = true
are_kernels cs copies k (i ∷ is) = is_kernel cs copies k i && are_kernels cs copies (suc k) is

-- no two kernels have one name
abbrev pub has_name : List ℕ → List KernelInfo → Bool
has_name name [] = false
has_name name (k ∷ ks) = bytes_eq name k.name || has_name name ks

abbrev pub names_differ : List KernelInfo → Bool
names_differ [] = true
names_differ (k ∷ ks) = not (has_name k.name ks) && names_differ ks

-- ---- copies

-- whether a copy is the own one of a kernel
abbrev pub is_own : List KernelInfo → ℕ → Bool
is_own [] n = false
is_own (k ∷ ks) n = nat_eq k.copy n || is_own ks n

abbrev pub callees_from : List KernelInfo → ℕ → List Copy → List Callee
callees_from kernels n [] = []
callees_from kernels n (c ∷ cs) =
    record { kernel = c.kernel; is_own = is_own kernels n; privates = c.privates; plain = c.plain; indices = c.indices; result = c.result } ∷ callees_from kernels (suc n) cs

abbrev pub scope_of : List ClType → List ConstantVar → List KernelInfo → List Copy → KernelInfo → Copy → Scope
scope_of cs constants kernels copies info c = record {
  types = cs;
  constants = constant_types constants;
  params = types_of info.params;
  locals = types_of info.locals;
  privates = privates_of (code_of c);
  kernel = c.kernel;
  copies = callees_from kernels 0 copies;
}

-- A shape leads into its object. Of the private ones a pointer parameter names those alone that are passed.
abbrev pub marked : Scope → Mark → Aimed → Option Aimed
marked s (mark.Member k) a = stepped false a (member_part s k a.part)
marked s mark.Index a = stepped true a (element_part s a.part)
marked s mark.Single a = stepped true a (single_part a.part)

abbrev pub leads : Scope → List Mark → Option Aimed → Bool
leads s ms None = false
leads s [] (Some a) = true
leads s (m ∷ ms) (Some a) = leads s ms (marked s m a)

abbrev pub with_passed : Scope → Copy → Scope
with_passed s c = record s { privates = map OneValue c.privates }

abbrev pub are_places : Scope → List Where → Bool
are_places s [] = true
are_places s (w ∷ ws) = leads s w.shape (root_at s w.root) && are_places s ws

abbrev pub are_pointers : Scope → List (List Where) → Bool
are_pointers s [] = true
are_pointers s (ws ∷ rest) = are_places s ws && are_pointers s rest

-- The indices of a pointer: as many as its shape has; where there are several, as many as the one has that has most, and one more that tells which it is.
abbrev pub indices_in : List Mark → ℕ
indices_in [] = 0
indices_in (mark.Member k ∷ ms) = indices_in ms
indices_in (m ∷ ms) = suc (indices_in ms)

abbrev pub most_indices : List Where → ℕ
most_indices [] = 0
most_indices (w ∷ ws) = max (indices_in w.shape) (most_indices ws)

abbrev pub indices_of : List Where → ℕ
indices_of (w ∷ x ∷ ws) = suc (most_indices (w ∷ x ∷ ws))
indices_of ws = most_indices ws

abbrev pub all_indices : List (List Where) → ℕ
all_indices [] = 0
all_indices (ws ∷ rest) = indices_of ws + all_indices rest

abbrev pub frame_of : Scope → Copy → Frame
frame_of s c = record { scope = s; vars = c.vars; result = c.result; breaks = false; continues = false }

abbrev pub is_copy_in : List ClType → Scope → Copy → Bool
is_copy_in cs s c =
    are_private_objects cs c.privates && are_private_objects cs c.plain && are_private_objects cs c.vars && is_result cs c.result
    && are_pointers (with_passed s c) c.pointers && nat_eq c.indices (all_indices c.pointers)
    && (tested c.body).fits (frame_of s c) && all_differ (sites (code_of c).body)

abbrev pub is_copy_of : List ClType → List ConstantVar → List KernelInfo → List Copy → Copy → Option KernelInfo → Bool
is_copy_of cs constants kernels copies c None = false
is_copy_of cs constants kernels copies c (Some info) = is_copy_in cs (scope_of cs constants kernels copies info c) c

abbrev pub are_copies : List ClType → List ConstantVar → List KernelInfo → List Copy → List Copy → Bool
are_copies cs constants kernels all [] = true
are_copies cs constants kernels all (c ∷ rest) = is_copy_of cs constants kernels all c (slice_get kernels c.kernel) && are_copies cs constants kernels all rest

-- ---- programs

unfoldable pub is_program : List ClType → List KernelInfo → List Copy → List ConstantVar → Bool
is_program cs kernels copies constants =
    are_allowed cs cs && are_constants cs constants && are_kernels cs copies 0 kernels && names_differ kernels && are_copies cs constants kernels copies copies
