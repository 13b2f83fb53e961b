-- Operators on whole values, each by the patterns of its scalars, and the work-item functions.
use Rattle.std.specs.Prelude.{ℕ, zero, suc, ◌%◌, ◌^◌, if◌then◌else◌, List, [], ◌∷◌, ◌++◌, map, length, replicate, slice_index}
use Rattle.cl_types.specs.declared.types.ClType.{ClType}
use Rattle.cl_types.specs.declared.types.Member.{Member}
use Rattle.cl_types.specs.declared.types.TypeId.{TypeId}
use Rattle.cl_types.specs.declared.builtin.Builtin.{Builtin}
use Rattle.cl_types.specs.declared.builtin.Builtin.TheVariants as builtin
use Rattle.cl_types.specs.Layout.{scalars_of}
use Rattle.cl_types.specs.Table.{tree_of}
use Rattle.cl_builtins.specs.declared.kind.Gentype.{Gentype}
use Rattle.cl_builtins.specs.Values.{takes_widths, value_of, reread_of, any_of, all_of}
use Rattle.cl_tree.specs.declared.shape.Shape.{Shape}
use Rattle.cl_tree.specs.declared.shape.Shape.TheVariants as shape
use Rattle.cl_tree.specs.Shapes.{shape_of, same_type, members_of}
use Rattle.cl_tree.specs.Constants.{gentype_in}
use Rattle.launch_text.specs.declared.launch.LaunchSizes.{LaunchSizes}
use Rattle.launch_text.specs.WorkItems.{work_dim_of, global_size_of, local_size_of, global_id_of, num_groups_of, group_id_of, local_id_of, global_offset_of}

-- the low bits of a number
abbrev pub cut : ℕ → ℕ → ℕ
cut bits n = n % 2 ^ bits

-- f k, f (k + 1) and so on, so many
abbrev pub each_from : {A : Type 0} → (ℕ → A) → ℕ → ℕ → List A
each_from f k zero = []
each_from f k (suc n) = f k ∷ each_from f (suc k) n

-- ---- initialiser lists (C99, 6.7.8)

-- an operand of the list, by its type and the patterns of its scalars
pub record Given : Type 0 where
  pub ty : TypeId
  pub patterns : List ℕ

abbrev pub given : List TypeId → List (List ℕ) → List Given
given (t ∷ ts) (v ∷ vs) = record { ty = t; patterns = v } ∷ given ts vs
given _ _ = []

-- the patterns of what was filled, and the operands that are left
pub record Filled : Type 0 where
  pub patterns : List ℕ
  pub left : List Given

abbrev pub and_then : Filled → (List Given → Filled) → Filled
and_then first rest = record { patterns = first.patterns ++ (rest first.left).patterns; left = (rest first.left).left }

abbrev pub fill_elements : (List Given → Filled) → ℕ → List Given → Filled
fill_elements one zero gs = record { patterns = []; left = gs }
fill_elements one (suc n) gs = and_then (one gs) (fill_elements one n)

abbrev pub fill_members : (TypeId → List Given → Filled) → List Member → List Given → Filled
fill_members one [] gs = record { patterns = []; left = gs }
fill_members one (m ∷ ms) gs = and_then (one m.ty gs) (fill_members one ms)

-- The elements or members of a part are filled one after another. Anything else is filled by one operand.
abbrev pub fill_inside : (TypeId → List Given → Filled) → List ClType → TypeId → Shape → List Given → Filled
fill_inside one cs t (shape.Array elem len nested) gs = fill_elements (one elem) len gs
fill_inside one cs t shape.Struct gs = fill_members one (members_of cs t) gs
fill_inside one cs t s (g ∷ gs) = record { patterns = g.patterns; left = gs }
fill_inside one cs t s [] = record { patterns = []; left = [] }

-- An operand of the part's own type fills it as a whole; else it is filled inside, where the text leaves out braces. What no operand fills is 0.
-- Types nest so deep.
abbrev pub fill_part : ℕ → List ClType → TypeId → List Given → Filled
fill_part deep cs t [] = record { patterns = replicate (length (scalars_of (tree_of cs t.0))) 0; left = [] }
fill_part zero cs t (g ∷ gs) = record { patterns = g.patterns; left = gs }
fill_part (suc deep) cs t (g ∷ gs) = if same_type t g.ty then record { patterns = g.patterns; left = gs } else fill_inside (fill_part deep cs) cs t (shape_of cs t) (g ∷ gs)

abbrev pub filled : List ClType → TypeId → List Given → List ℕ
filled cs t gs = (fill_inside (fill_part 16 cs) cs t (shape_of cs t) gs).patterns

-- ---- built-in functions (OpenCL C 1.2, 6.12.3 and 6.12.6)

-- the kth component of an argument; a scalar stands for each
abbrev pub component_at : ℕ → List ℕ → ℕ
component_at k (n ∷ []) = n
component_at k ns = slice_index ns k

-- A function on components of so many bits makes its value of the low bits of each; where it doesn't take them, which no unit has, it is 0.
abbrev pub component_value : Builtin → Gentype → List ℕ → ℕ
component_value f from ns = if takes_widths f (map (λ n. from.bits) ns) then value_of f from.bits from.signed (map (cut from.bits) ns) else 0

abbrev pub applied : Builtin → Gentype → Gentype → List (List ℕ) → List ℕ
applied builtin.As from to (ns ∷ nss) = reread_of from.bits to.bits to.count (map (cut from.bits) ns)
applied builtin.Any from to (ns ∷ nss) = any_of from.bits ns ∷ []
applied builtin.All from to (ns ∷ nss) = all_of from.bits ns ∷ []
applied f from to nss = each_from (λ k. component_value f from (map (component_at k) nss)) 0 to.count

abbrev pub gentype_at : List ClType → TypeId → Gentype
gentype_at cs t = gentype_in (shape_of cs t)

-- ---- the work-item functions (6.12.1)

-- by their argument
abbrev pub grid_value : LaunchSizes → ℕ → Builtin → ℕ → ℕ
grid_value l item builtin.GetWorkDim d = work_dim_of l
grid_value l item builtin.GetGlobalSize d = global_size_of l d
grid_value l item builtin.GetGlobalId d = global_id_of l item d
grid_value l item builtin.GetLocalSize d = local_size_of l d
grid_value l item builtin.GetLocalId d = local_id_of l item d
grid_value l item builtin.GetNumGroups d = num_groups_of l d
grid_value l item builtin.GetGroupId d = group_id_of l item d
grid_value l item builtin.GetGlobalOffset d = global_offset_of l d
grid_value l item _ d = 0

abbrev pub arguments_of : Builtin → ℕ
arguments_of builtin.GetWorkDim = 0
arguments_of _ = 1
