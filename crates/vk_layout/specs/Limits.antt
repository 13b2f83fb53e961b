-- Which limits of a module's interface a unit breaks first, and where (Vulkan, 36.1).
use Rattle.std.specs.Prelude.{ℕ, ◌+◌, nat_lt, if◌then◌else◌, List, [], ◌∷◌, ◌++◌, map, Option, Some, None}
use Rattle.clv_place.specs.declared.place.Place.{Place}
use Rattle.clv_place.specs.declared.stop.Offence.{Offence}
use Rattle.cl_types.specs.declared.types.ClType.{ClType}
use Rattle.cl_types.specs.declared.types.TypeId.{TypeId}
use Rattle.cl_types.specs.Layout.{size_of, offset_of}
use Rattle.cl_types.specs.Table.{tree_of}
use Rattle.cl_tree.specs.declared.unit.ConstantVar.{ConstantVar}
use Rattle.cl_tree.specs.declared.unit.Variable.{Variable}
use Rattle.vk_layout.specs.declared.options.Pod.{Pod}
use Rattle.vk_layout.specs.declared.options.Pod.TheVariants.{Storage, Push}
use Rattle.cl_provenance.specs.Routines.{Routine, Unit as Functions}
use Rattle.cl_provenance.specs.Objects.{first_of}
use Rattle.vk_layout.specs.Rows.{Taken, Plain, a_buffer, a_plain, all_of, number_of, taken, taken_of, block, blocks_of, constant_types, kernels_of}

module _ (cs : List ClType) where
  -- where the member of this number ends, among those of a block
  abbrev pub end_of_member : List TypeId → ℕ → TypeId → ℕ
  end_of_member all k ty = offset_of (block cs all) k + size_of (tree_of cs ty.0)

  abbrev pub when_over : ℕ → ℕ → ℕ → Place → Option Offence
  when_over most n code at = if nat_lt most n then Some (record { code = code; place = at }) else None

  -- 510: the constant data is over 65,536 bytes; at the first constant that goes over
  abbrev pub constants_from : List TypeId → ℕ → List ConstantVar → Option Offence
  constants_from all k [] = None
  constants_from all k (c ∷ rest) = first_of (when_over 65536 (end_of_member all k c.variable.ty) 510 c.variable.place) (constants_from all (k + 1) rest)

  -- 507: in push constants a plain argument ends past byte 128; at the first that does
  abbrev pub plain_ends : List TypeId → ℕ → Place → Taken → Option Offence
  plain_ends all k at (Plain ty) = when_over 128 (end_of_member all k ty) 507 at
  plain_ends all k at _ = None

  abbrev pub pushed_from : List TypeId → List Variable → List Variable → Option Offence
  pushed_from all before [] = None
  pushed_from all before (p ∷ ps) = first_of (plain_ends all (number_of a_plain (map (taken cs) before)) p.place (taken cs p)) (pushed_from all (before ++ p ∷ []) ps)

  abbrev pub pushed : Pod → Routine → Option Offence
  pushed Storage k = None
  pushed Push k = pushed_from (all_of a_plain (taken_of cs k)) [] k.params

  -- 508: a kernel has over 32 storage buffers, its plain block and the constant block counted
  abbrev pub constant_blocks : List ConstantVar → ℕ
  constant_blocks [] = 0
  constant_blocks (c ∷ rest) = 1

  abbrev pub buffers : Pod → List ConstantVar → Routine → Option Offence
  buffers pod constants k = when_over 32 (number_of a_buffer (taken_of cs k) + (blocks_of cs pod (taken_of cs k) + constant_blocks constants)) 508 k.place

  abbrev pub kernels_from : Pod → List ConstantVar → List Routine → Option Offence
  kernels_from pod constants [] = None
  kernels_from pod constants (k ∷ ks) = first_of (first_of (pushed pod k) (buffers pod constants k)) (kernels_from pod constants ks)

-- The constant data first, then kernel after kernel.
abbrev pub laying : Pod → Functions → Option Offence
laying pod u = first_of (constants_from u.types (constant_types u.types u.constants) 0 u.constants) (kernels_from u.types pod u.constants (kernels_of u.functions))
