-- How many cells a launch takes in the machine: one for each scalar that it holds.
use Rattle.std.specs.Prelude.{ℕ, zero, suc, ◌+◌, ◌*◌, ◌/◌, ◌&&◌, ◌||◌, Bool, true, false, nat_eq, if◌then◌else◌, List, [], ◌∷◌, map, sum, max, length, Option, Some, None}
use Rattle.std.specs.List.{list_any}
use Rattle.launch_text.specs.WorkItems.{volume}
use Rattle.spv_module.specs.declared.module.Inst.{Inst}
use Rattle.spv_module.specs.declared.enumerant.storage_class.TheConstants as storage_class
use Rattle.spv_module.specs.Instructions.{Said, IntType, VectorType, StructType, PointerType, Variable, Load, AccessChain, Extract, Add, Label, ids, said}
use Rattle.spv_module.specs.Interface.{functions_in}
use Rattle.spv_invocations.specs.Start.{Start, Given}
use Rattle.spv_invocations.specs.Reading.{Line, Basic, BoolType, ArrayType, Makes, Call, line_of, line_in, pointee_in, lines_of, parameters_of, variables_of}
use Rattle.spv_invocations.specs.Types.{DEPTH, length_of}
use Rattle.spv_invocations.specs.Invocation.{given_of}

-- ---- scalars of types

abbrev pub so_many : Option ℕ → ℕ
so_many (Some n) = n
so_many None = 0

-- the scalars of a value of a type by its definition, where those of each part are known; a pointer counts two
abbrev pub scalars_by : Given → (ℕ → ℕ) → Option Line → ℕ
scalars_by g inner (Some (Basic (IntType r width signedness))) = 1
scalars_by g inner (Some (BoolType r)) = 1
scalars_by g inner (Some (Basic (VectorType r component count))) = count
scalars_by g inner (Some (ArrayType r element count)) = so_many (length_of g count) * inner element
scalars_by g inner (Some (Basic (StructType r members))) = sum (map inner members)
scalars_by g inner (Some (Basic (PointerType r storage pointee))) = 2
scalars_by g inner _ = 0

-- the same of a type, which nests so deep at the most
abbrev pub scalars_within : ℕ → Given → ℕ → ℕ
scalars_within zero g t = 0
scalars_within (suc depth) g t = scalars_by g (scalars_within depth g) (line_in g.body t)

abbrev pub scalars_of : Given → ℕ → ℕ
scalars_of g t = scalars_within DEPTH g t

abbrev pub pointee_cells : Given → Option ℕ → ℕ
pointee_cells g (Some t) = scalars_of g t
pointee_cells g None = 0

-- ---- a call

-- those of the result that a line makes in its block; a variable is made by the call
abbrev pub result_cells : Given → Line → ℕ
result_cells g (Basic (Load t r pointer)) = scalars_of g t
result_cells g (Basic (AccessChain t r base indices)) = scalars_of g t
result_cells g (Basic (Extract t r composite at)) = scalars_of g t
result_cells g (Basic (Add t r a b)) = scalars_of g t
result_cells g (Makes t r making) = scalars_of g t
result_cells g _ = 0

abbrev pub is_label : Said → Bool
is_label (Label r) = true
is_label _ = false

-- the greatest number of scalars of the results of one block, where so many were made so far in the first
abbrev pub greatest_block : Given → ℕ → List Inst → ℕ
greatest_block g made [] = made
greatest_block g made (i ∷ is) = if is_label (said i) then max made (greatest_block g 0 is) else greatest_block g (made + result_cells g (line_of i)) is

abbrev pub parameter_cells : Given → ℕ × ℕ → ℕ
parameter_cells g p = scalars_of g p.1

abbrev pub variable_cells : Given → ℕ × ℕ → ℕ
variable_cells g v = pointee_cells g (pointee_in g.body v.1)

-- one for the call, those of its parameters and variables, and those of its greatest block
abbrev pub frame_cells : Given → ℕ → ℕ
frame_cells g function =
    1 + sum (map (parameter_cells g) (parameters_of g.body function)) + sum (map (variable_cells g) (variables_of g.body function)) + greatest_block g 0 (lines_of g.body function)

-- ---- calls in calls

abbrev pub callee_by : Line → List ℕ → List ℕ
callee_by (Makes t r (Call function arguments)) fs = function ∷ fs
callee_by _ fs = fs

abbrev pub callees_in : List Inst → List ℕ
callees_in [] = []
callees_in (i ∷ is) = callee_by (line_of i) (callees_in is)

abbrev pub callees_of : Given → ℕ → List ℕ
callees_of g function = callees_in (lines_of g.body function)

abbrev pub greatest : List ℕ → ℕ
greatest [] = 0
greatest (n ∷ ns) = max n (greatest ns)

-- with calls that nest so deep at the most
abbrev pub cells_within : ℕ → Given → ℕ → ℕ
cells_within zero g function = 0
cells_within (suc depth) g function = frame_cells g function + greatest (map (cells_within depth g) (callees_of g function))

-- No function calls itself, so calls nest no deeper than there are functions.
abbrev pub most_calls : Given → ℕ
most_calls g = length (functions_in g.body)

-- The cells of an invocation: those of the call, and those of the greatest call in it.
abbrev pub cells_of : Given → ℕ → ℕ
cells_of g function = cells_within (most_calls g) g function

-- ---- groups

-- Whether a function, or one that it calls so deep at the most, names an id.
abbrev pub is_named_by : ℕ → Inst → Bool
is_named_by v i = list_any (nat_eq v) (ids i.operands)

abbrev pub is_named_within : ℕ → Given → ℕ → ℕ → Bool
is_named_within zero g v function = false
is_named_within (suc depth) g v function = list_any (is_named_by v) (lines_of g.body function) || list_any (is_named_within depth g v) (callees_of g function)

abbrev pub local_cells : Given → ℕ → Said → ℕ
local_cells g function (Variable t r storage) = if nat_eq storage storage_class.WORKGROUP && is_named_within (most_calls g) g r function then pointee_cells g (pointee_in g.body t) else 0
local_cells g function _ = 0

abbrev pub line_local_cells : Given → ℕ → Inst → ℕ
line_local_cells g function i = local_cells g function (said i)

-- the cells of a group: those of the variables of groups that the entry function or one below it names
abbrev pub group_cells_of : Given → ℕ → ℕ
group_cells_of g function = sum (map (line_local_cells g function) g.body)

-- the cells that a launch needs: those of each invocation and of each group
abbrev pub cells_needed : List Inst → Start → ℕ
cells_needed body start =
    let g = given_of body start 0 in
    volume start.global * cells_of g start.function + (volume start.global / volume start.local) * group_cells_of g start.function

-- the most that there may be
abbrev pub MAX_CELLS : ℕ
MAX_CELLS = 16777216
