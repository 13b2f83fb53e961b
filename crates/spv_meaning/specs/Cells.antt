-- How many cells a launch takes in the machine: one for each scalar that it holds.
use Rattle.std.specs.Prelude.{ℕ, zero, suc, ◌+◌, ◌*◌, ◌/◌, ◌&&◌, Bool, true, false, nat_eq, if◌then◌else◌, List, [], ◌∷◌, drop, map, sum, max, Option, Some, None}
use Rattle.std.specs.List.{list_any}
use Rattle.launch_text.specs.WorkItems.{volume}
use Rattle.spv_module.specs.declared.module.Inst.{Inst}
use Rattle.spv_module.specs.declared.enumerant.storage_class.TheConstants as storage_class
use Rattle.spv_module.specs.Instructions.{Said, IntType, VectorType, StructType, PointerType, Variable, Load, AccessChain, Extract, Add, Label, FunctionEnd, ids, said, definition_in}
use Rattle.spv_module.specs.Interface.{pointee_by}
use Rattle.spv_meaning.specs.Start.{Start}
use Rattle.spv_meaning.specs.Invocation.{place_after}

-- the scalars of a value of a type by its definition, where those of each member are known; a pointer counts two
abbrev pub scalars_by : (ℕ → ℕ) → Option Said → ℕ
scalars_by inner (Some (IntType r width signedness)) = 1
scalars_by inner (Some (VectorType r component count)) = count
scalars_by inner (Some (StructType r members)) = sum (map inner members)
scalars_by inner (Some (PointerType r storage pointee)) = 2
scalars_by inner _ = 0

-- the same of a type, which nests so deep at the most
abbrev pub scalars_within : ℕ → List Inst → ℕ → ℕ
scalars_within zero body t = 0
scalars_within (suc depth) body t = scalars_by (scalars_within depth body) (definition_in body t)

-- types nest 18 deep at the most
abbrev pub scalars_of : List Inst → ℕ → ℕ
scalars_of body t = scalars_within 18 body t

-- the lines of a function, up to its end
abbrev pub is_end : Said → Bool
is_end FunctionEnd = true
is_end _ = false

abbrev pub up_to_end : List Inst → List Inst
up_to_end [] = []
up_to_end (i ∷ is) = if is_end (said i) then [] else i ∷ up_to_end is

abbrev pub lines_of : List Inst → ℕ → List Inst
lines_of body function = up_to_end (drop (place_after body function) body)

-- the scalars of the result that a line makes in its block, and of the variable that a line makes
abbrev pub result_cells : List Inst → Said → ℕ
result_cells body (Load t r pointer) = scalars_of body t
result_cells body (AccessChain t r base indices) = scalars_of body t
result_cells body (Extract t r composite at) = scalars_of body t
result_cells body (Add t r a b) = scalars_of body t
result_cells body _ = 0

abbrev pub pointee_cells : List Inst → Option ℕ → ℕ
pointee_cells body (Some t) = scalars_of body t
pointee_cells body None = 0

abbrev pub variable_cells : List Inst → Said → ℕ
variable_cells body (Variable t r storage) = pointee_cells body (pointee_by (definition_in body t))
variable_cells body _ = 0

abbrev pub is_label : Said → Bool
is_label (Label r) = true
is_label _ = false

-- the greatest number of scalars of the results of one block, where so many were made so far in the first
abbrev pub greatest_block : List Inst → ℕ → List Inst → ℕ
greatest_block body made [] = made
greatest_block body made (i ∷ is) = if is_label (said i) then max made (greatest_block body 0 is) else greatest_block body (made + result_cells body (said i)) is

abbrev pub line_variable_cells : List Inst → Inst → ℕ
line_variable_cells body i = variable_cells body (said i)

-- The cells of an invocation: one for the call, those of the function's variables, and those of its greatest block. No function calls another so far.
abbrev pub cells_of : List Inst → ℕ → ℕ
cells_of body function = 1 + sum (map (line_variable_cells body) (lines_of body function)) + greatest_block body 0 (lines_of body function)

-- the cells of a group: the workgroup variables that the function names
abbrev pub is_named_by : ℕ → Inst → Bool
is_named_by v i = list_any (nat_eq v) (ids i.operands)

abbrev pub is_named_in : ℕ → List Inst → Bool
is_named_in v is = list_any (is_named_by v) is

abbrev pub local_cells : List Inst → List Inst → Said → ℕ
local_cells body lines (Variable t r storage) = if nat_eq storage storage_class.WORKGROUP && is_named_in r lines then pointee_cells body (pointee_by (definition_in body t)) else 0
local_cells body lines _ = 0

abbrev pub line_local_cells : List Inst → List Inst → Inst → ℕ
line_local_cells body lines i = local_cells body lines (said i)

abbrev pub group_cells_of : List Inst → ℕ → ℕ
group_cells_of body function = sum (map (line_local_cells body (lines_of body function)) body)

-- the cells that a launch needs: those of each invocation and of each group
abbrev pub cells_needed : List Inst → Start → ℕ
cells_needed body start = volume start.global * cells_of body start.function + (volume start.global / volume start.local) * group_cells_of body start.function

-- the most that there may be
abbrev pub MAX_CELLS : ℕ
MAX_CELLS = 16777216
