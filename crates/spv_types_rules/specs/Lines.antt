-- A module's instructions as the rules of validity read them, and where one of them stands.
use Rattle.std.specs.Prelude.{ℕ, ◌+◌, ◌*◌, ◌^◌, Bool, true, false, not, ◌==◌, nat_eq, ◌&&◌, ◌||◌, if◌then◌else◌, List, [], ◌∷◌, ◌++◌, map, filter, find, Option, Some, None}
use Rattle.std.specs.List.{list_any}
use Rattle.spv_module.specs.declared.module.Inst.{Inst}
use Rattle.spv_module.specs.declared.module.Operand.{Operand}
use Rattle.spv_module.specs.declared.module.Operand.TheVariants.{Str}
use Rattle.spv_module.specs.declared.op.TheConstants as op
use Rattle.spv_module.specs.Grammar.{is_among}
use Rattle.spv_module.specs.Instructions.{ids, words}

-- ---- the opcodes that the rules speak of

abbrev pub type_opcodes : List ℕ
type_opcodes = op.TYPE_VOID ∷ op.TYPE_BOOL ∷ op.TYPE_INT ∷ op.TYPE_VECTOR ∷ op.TYPE_ARRAY ∷ op.TYPE_RUNTIME_ARRAY ∷ op.TYPE_STRUCT ∷ op.TYPE_POINTER ∷ op.TYPE_FUNCTION ∷ []

-- the types that may stand in memory
abbrev pub data_opcodes : List ℕ
data_opcodes = op.TYPE_BOOL ∷ op.TYPE_INT ∷ op.TYPE_VECTOR ∷ op.TYPE_ARRAY ∷ op.TYPE_RUNTIME_ARRAY ∷ op.TYPE_STRUCT ∷ []

abbrev pub array_opcodes : List ℕ
array_opcodes = op.TYPE_ARRAY ∷ op.TYPE_RUNTIME_ARRAY ∷ []

abbrev pub constant_opcodes : List ℕ
constant_opcodes = op.CONSTANT ∷ op.SPEC_CONSTANT ∷ op.SPEC_CONSTANT_COMPOSITE ∷ op.CONSTANT_TRUE ∷ op.CONSTANT_FALSE ∷ op.CONSTANT_COMPOSITE ∷ op.CONSTANT_NULL ∷ []

-- operators on ints; on bools; those that compare ints; shifts; conversions of a width
abbrev pub arithmetic_opcodes : List ℕ
arithmetic_opcodes = op.I_ADD ∷ op.I_SUB ∷ op.I_MUL ∷ op.U_DIV ∷ op.S_DIV ∷ op.U_MOD ∷ op.S_REM ∷ op.S_NEGATE ∷ op.BITWISE_OR ∷ op.BITWISE_XOR ∷ op.BITWISE_AND ∷ op.NOT ∷ []

abbrev pub logic_opcodes : List ℕ
logic_opcodes = op.LOGICAL_OR ∷ op.LOGICAL_AND ∷ op.LOGICAL_NOT ∷ []

abbrev pub comparison_opcodes : List ℕ
comparison_opcodes =
    op.I_EQUAL ∷ op.I_NOT_EQUAL ∷ op.U_GREATER_THAN ∷ op.S_GREATER_THAN ∷ op.U_GREATER_THAN_EQUAL ∷ op.S_GREATER_THAN_EQUAL
    ∷ op.U_LESS_THAN ∷ op.S_LESS_THAN ∷ op.U_LESS_THAN_EQUAL ∷ op.S_LESS_THAN_EQUAL ∷ []

abbrev pub shift_opcodes : List ℕ
shift_opcodes = op.SHIFT_RIGHT_LOGICAL ∷ op.SHIFT_RIGHT_ARITHMETIC ∷ op.SHIFT_LEFT_LOGICAL ∷ []

abbrev pub conversion_opcodes : List ℕ
conversion_opcodes = op.U_CONVERT ∷ op.S_CONVERT ∷ []

abbrev pub atomic_opcodes : List ℕ
atomic_opcodes =
    op.ATOMIC_EXCHANGE ∷ op.ATOMIC_COMPARE_EXCHANGE ∷ op.ATOMIC_I_INCREMENT ∷ op.ATOMIC_I_DECREMENT ∷ op.ATOMIC_I_ADD ∷ op.ATOMIC_I_SUB ∷ op.ATOMIC_S_MIN
    ∷ op.ATOMIC_U_MIN ∷ op.ATOMIC_S_MAX ∷ op.ATOMIC_U_MAX ∷ op.ATOMIC_AND ∷ op.ATOMIC_OR ∷ op.ATOMIC_XOR ∷ []

abbrev pub composite_opcodes : List ℕ
composite_opcodes = op.VECTOR_EXTRACT_DYNAMIC ∷ op.VECTOR_INSERT_DYNAMIC ∷ op.VECTOR_SHUFFLE ∷ op.COMPOSITE_CONSTRUCT ∷ op.COMPOSITE_EXTRACT ∷ op.COMPOSITE_INSERT ∷ []

-- what makes a value in a block
abbrev pub value_opcodes : List ℕ
value_opcodes =
    op.UNDEF ∷ op.FUNCTION_CALL ∷ op.LOAD ∷ op.ACCESS_CHAIN ∷ op.SELECT ∷ op.BITCAST
    ∷ (conversion_opcodes ++ (composite_opcodes ++ (arithmetic_opcodes ++ (logic_opcodes ++ (comparison_opcodes ++ (shift_opcodes ++ atomic_opcodes))))))

-- what a function has in all its blocks
abbrev pub own_opcodes : List ℕ
own_opcodes = op.VARIABLE ∷ op.FUNCTION_PARAMETER ∷ []

abbrev pub merge_opcodes : List ℕ
merge_opcodes = op.LOOP_MERGE ∷ op.SELECTION_MERGE ∷ []

abbrev pub terminator_opcodes : List ℕ
terminator_opcodes = op.RETURN ∷ op.RETURN_VALUE ∷ op.UNREACHABLE ∷ op.BRANCH ∷ op.BRANCH_CONDITIONAL ∷ op.SWITCH ∷ []

-- those with a result type and a result, and those with a result alone; all others have neither
abbrev pub typed_opcodes : List ℕ
typed_opcodes = op.EXT_INST ∷ op.FUNCTION ∷ op.VARIABLE ∷ op.FUNCTION_PARAMETER ∷ (constant_opcodes ++ value_opcodes)

abbrev pub untyped_opcodes : List ℕ
untyped_opcodes = op.STRING ∷ op.EXT_INST_IMPORT ∷ op.LABEL ∷ type_opcodes

-- ---- lines

-- An instruction: its opcode, whether it stands in a function, the ids of its result type and its result, and of the operands behind these the ids, the literals and enumerants, and the strings, each in order.
pub record Line : Type 0 where
  pub op : ℕ
  pub inside : Bool
  pub type : Option ℕ
  pub result : Option ℕ
  pub ids : List ℕ
  pub numbers : List ℕ
  pub texts : List (List ℕ)

abbrev pub strings : List Operand → List (List ℕ)
strings [] = []
strings (Str s ∷ os) = s ∷ strings os
strings (_ ∷ os) = strings os

abbrev pub typed_line : Bool → ℕ → List ℕ → List Operand → Line
typed_line inside code (t ∷ r ∷ is) os = record { op = code; inside = inside; type = Some t; result = Some r; ids = is; numbers = words os; texts = strings os }
typed_line inside code is os = record { op = code; inside = inside; type = None; result = None; ids = is; numbers = words os; texts = strings os }

abbrev pub untyped_line : Bool → ℕ → List ℕ → List Operand → Line
untyped_line inside code (r ∷ is) os = record { op = code; inside = inside; type = None; result = Some r; ids = is; numbers = words os; texts = strings os }
untyped_line inside code [] os = record { op = code; inside = inside; type = None; result = None; ids = []; numbers = words os; texts = strings os }

abbrev pub plain_line : Bool → ℕ → List ℕ → List Operand → Line
plain_line inside code is os = record { op = code; inside = inside; type = None; result = None; ids = is; numbers = words os; texts = strings os }

abbrev pub line : Bool → Inst → Line
line inside i =
    if is_among typed_opcodes i.op then typed_line inside i.op (ids i.operands) i.operands else (
    if is_among untyped_opcodes i.op then untyped_line inside i.op (ids i.operands) i.operands else
    plain_line inside i.op (ids i.operands) i.operands)

-- A function goes from OpFunction to OpFunctionEnd; where that is missing, to the next OpFunction, the first OpExtInst or the end. Of these lines OpFunctionEnd alone stands in it.
abbrev pub inside_at : Bool → ℕ → Bool
inside_at inside code = inside && not ((code == op.FUNCTION) || (code == op.EXT_INST))

abbrev pub inside_after : Bool → ℕ → Bool
inside_after inside code = (code == op.FUNCTION) || (inside && not ((code == op.FUNCTION_END) || (code == op.EXT_INST)))

abbrev pub lines_from : Bool → List Inst → List Line
lines_from inside [] = []
lines_from inside (i ∷ is) = line (inside_at inside i.op) i ∷ lines_from (inside_after inside i.op) is

abbrev pub lines_of : List Inst → List Line
lines_of body = lines_from false body

-- ---- what is asked of a line

abbrev pub has_op : ℕ → Line → Bool
has_op code l = l.op == code

abbrev pub has_op_among : List ℕ → Line → Bool
has_op_among codes l = is_among codes l.op

abbrev pub is_id : Option ℕ → ℕ → Bool
is_id None id = false
is_id (Some r) id = nat_eq r id

abbrev pub defines : ℕ → Line → Bool
defines id l = is_id l.result id

abbrev pub with_id : Option ℕ → List ℕ → List ℕ
with_id None is = is
with_id (Some t) is = t ∷ is

-- the ids that a line names: its result type, and those among its operands
abbrev pub named : Line → List ℕ
named l = with_id l.type l.ids

abbrev pub names : ℕ → Line → Bool
names id l = is_among (named l) id

-- decorations and names
abbrev pub is_mark : Line → Bool
is_mark l = has_op_among (op.DECORATE ∷ op.MEMBER_DECORATE ∷ op.NAME ∷ op.MEMBER_NAME ∷ []) l

-- one number or two of a list, in order; 0 where it is shorter
abbrev pub first : List ℕ → ℕ
first [] = 0
first (a ∷ _) = a

abbrev pub second : List ℕ → ℕ
second (_ ∷ b ∷ _) = b
second _ = 0

abbrev pub rest : List ℕ → List ℕ
rest [] = []
rest (_ ∷ as_) = as_

abbrev pub is_empty : {A : Type 0} → List A → Bool
is_empty [] = true
is_empty (_ ∷ _) = false

-- the id that a line defines
abbrev pub id_or_zero : Option ℕ → ℕ
id_or_zero None = 0
id_or_zero (Some r) = r

abbrev pub id_of : Line → ℕ
id_of l = id_or_zero l.result

-- lines, the last first, put in front of others
abbrev pub onto : List Line → List Line → List Line
onto [] ls = ls
onto (b ∷ before) ls = onto before (b ∷ ls)

abbrev pub is_some_of : Option Line → (Line → Bool) → Bool
is_some_of (Some l) test = test l
is_some_of None test = false

-- ---- functions

abbrev pub ends_function : Line → Bool
ends_function l = has_op_among (op.FUNCTION ∷ op.FUNCTION_END ∷ op.EXT_INST ∷ []) l

-- the lines up to the function's end, and whether that is an OpFunctionEnd
abbrev pub to_end : List Line → List Line
to_end [] = []
to_end (l ∷ ls) = if ends_function l then [] else l ∷ to_end ls

abbrev pub is_ended : List Line → Bool
is_ended [] = false
is_ended (l ∷ ls) = if ends_function l then has_op op.FUNCTION_END l else is_ended ls

-- An OpFunction line, and the lines between it and the function's end.
pub record Func : Type 0 where
  pub head : Line
  pub lines : List Line

abbrev pub functions_in : List Line → List Func
functions_in [] = []
functions_in (l ∷ ls) = if has_op op.FUNCTION l then record { head = l; lines = to_end ls } ∷ functions_in ls else functions_in ls

-- ---- a module as a whole, and a line in it

pub record Whole : Type 0 where
  pub lines : List Line
  -- the lines of capabilities, entry points, their modes, names and decorations, types, variables and calls, and the functions
  pub capabilities : List Line
  pub entries : List Line
  pub modes : List Line
  pub marks : List Line
  pub types : List Line
  pub variables : List Line
  pub calls : List Line
  pub functions : List Func

abbrev pub whole : List Line → Whole
whole lines = record {
  lines = lines;
  capabilities = filter (has_op op.CAPABILITY) lines;
  entries = filter (has_op op.ENTRY_POINT) lines;
  modes = filter (has_op op.EXECUTION_MODE) lines;
  marks = filter is_mark lines;
  types = filter (has_op_among type_opcodes) lines;
  variables = filter (has_op op.VARIABLE) lines;
  calls = filter (has_op op.FUNCTION_CALL) lines;
  functions = functions_in lines;
}

-- a line, with those before it, the last first, and those after it
pub record Spot : Type 0 where
  pub whole : Whole
  pub before : List Line
  pub here : Line
  pub after : List Line

-- the lines of the function in which a line stands
abbrev pub function_lines : Spot → List Line
function_lines s = onto (to_end s.before) (to_end (s.here ∷ s.after))

-- the OpFunctionParameter lines with which a function begins, and what stands behind them
abbrev pub parameters : List Line → List Line
parameters [] = []
parameters (l ∷ ls) = if has_op op.FUNCTION_PARAMETER l then l ∷ parameters ls else []

abbrev pub behind_parameters : List Line → List Line
behind_parameters [] = []
behind_parameters (l ∷ ls) = if has_op op.FUNCTION_PARAMETER l then behind_parameters ls else l ∷ ls

-- the function of an id
abbrev pub function_in : List Func → ℕ → List Line
function_in [] id = []
function_in (f ∷ fs) id = if defines id f.head then f.lines else function_in fs id

abbrev pub function_of : Whole → ℕ → List Line
function_of w id = function_in w.functions id

-- a test of the lines of some opcodes
abbrev pub only : Bool → (Spot → Bool) → Spot → Bool
only true test s = test s
only false test s = true

abbrev pub on : ℕ → (Spot → Bool) → Spot → Bool
on code test s = only (has_op code s.here) test s

-- ---- what is asked of ids, each by the first line that defines it

abbrev pub defined : Whole → ℕ → Option Line
defined w id = find (defines id) w.lines

abbrev pub is_op : Whole → ℕ → ℕ → Bool
is_op w code id = is_some_of (defined w id) (has_op code)

abbrev pub is_op_among : Whole → List ℕ → ℕ → Bool
is_op_among w codes id = is_some_of (defined w id) (has_op_among codes)

abbrev pub is_op_of : Whole → ℕ → Option ℕ → Bool
is_op_of w code None = false
is_op_of w code (Some id) = is_op w code id

-- the type of a value; a function and a reflection line are none
abbrev pub type_by : Option Line → Option ℕ
type_by None = None
type_by (Some l) = if has_op_among (op.FUNCTION ∷ op.EXT_INST ∷ []) l then None else l.type

abbrev pub type_of : Whole → ℕ → Option ℕ
type_of w id = type_by (defined w id)

abbrev pub same_id : Option ℕ → Option ℕ → Bool
same_id (Some a) (Some b) = nat_eq a b
same_id _ _ = false

-- a pointer type's storage class and what it points to
abbrev pub pointer_by : Option Line → Option (ℕ × ℕ)
pointer_by None = None
pointer_by (Some l) = if has_op op.TYPE_POINTER l then Some (first l.numbers, first l.ids) else None

abbrev pub pointer : Whole → Option ℕ → Option (ℕ × ℕ)
pointer w None = None
pointer w (Some t) = pointer_by (defined w t)

abbrev pub storage_by : Option (ℕ × ℕ) → Option ℕ
storage_by None = None
storage_by (Some p) = Some p.0

abbrev pub pointee_by : Option (ℕ × ℕ) → Option ℕ
pointee_by None = None
pointee_by (Some p) = Some p.1

abbrev pub storage : Whole → Option ℕ → Option ℕ
storage w t = storage_by (pointer w t)

abbrev pub pointee : Whole → Option ℕ → Option ℕ
pointee w t = pointee_by (pointer w t)

-- an int type of this width
abbrev pub is_int : Whole → ℕ → ℕ → Bool
is_int w width t = is_some_of (defined w t) (λ l. has_op op.TYPE_INT l && (first l.numbers == width))

abbrev pub is_int_of : Whole → ℕ → Option ℕ → Bool
is_int_of w width None = false
is_int_of w width (Some t) = is_int w width t

abbrev pub is_bool_of : Whole → Option ℕ → Bool
is_bool_of w t = is_op_of w op.TYPE_BOOL t

-- the types that a type holds, pointer and function types aside; an array's second operand is its length
abbrev pub head_alone : List ℕ → List ℕ
head_alone [] = []
head_alone (t ∷ _) = t ∷ []

abbrev pub held : Line → List ℕ
held l =
    if has_op op.TYPE_ARRAY l then head_alone l.ids else (
    if has_op_among (op.TYPE_VECTOR ∷ op.TYPE_RUNTIME_ARRAY ∷ op.TYPE_STRUCT ∷ []) l then l.ids else [])

abbrev pub parts_by : Option Line → List ℕ
parts_by None = []
parts_by (Some l) = held l

abbrev pub parts : Whole → ℕ → List ℕ
parts w t = parts_by (defined w t)

abbrev pub flattened : List (List ℕ) → List ℕ
flattened [] = []
flattened (is ∷ iss) = is ++ flattened iss

-- The type and all that it holds at any depth. No way down is longer than the list of types.
abbrev pub within_by : Whole → List Line → ℕ → List ℕ
within_by w [] t = t ∷ []
within_by w (_ ∷ fuel) t = t ∷ flattened (map (within_by w fuel) (parts w t))

abbrev pub within : Whole → ℕ → List ℕ
within w t = within_by w w.types t

abbrev pub is_under_by : Whole → List ℕ → ℕ → Line → Bool
is_under_by w storages t l = has_op op.TYPE_POINTER l && is_among storages (first l.numbers) && is_among (within w (first l.ids)) t

-- whether a type stands within what some pointer type of these storage classes points to
abbrev pub is_under : Whole → List ℕ → ℕ → Bool
is_under w storages t = list_any (is_under_by w storages t) w.types

-- ---- decorations

abbrev pub literals_by : ℕ → ℕ → Line → List (List ℕ) → List (List ℕ)
literals_by id kind l found = if has_op op.DECORATE l && (first l.ids == id) && (first l.numbers == kind) then rest l.numbers ∷ found else found

abbrev pub literals_in : ℕ → ℕ → List Line → List (List ℕ)
literals_in id kind [] = []
literals_in id kind (l ∷ ls) = literals_by id kind l (literals_in id kind ls)

-- the literals of each decoration of a kind on an id
abbrev pub decorations : Whole → ℕ → ℕ → List (List ℕ)
decorations w id kind = literals_in id kind w.marks

abbrev pub member_literals_by : ℕ → ℕ → ℕ → Line → List (List ℕ) → List (List ℕ)
member_literals_by id member kind l found = if has_op op.MEMBER_DECORATE l && (first l.ids == id) && (first l.numbers == member) && (second l.numbers == kind) then rest (rest l.numbers) ∷ found else found

abbrev pub member_literals_in : ℕ → ℕ → ℕ → List Line → List (List ℕ)
member_literals_in id member kind [] = []
member_literals_in id member kind (l ∷ ls) = member_literals_by id member kind l (member_literals_in id member kind ls)

abbrev pub member_decorations : Whole → ℕ → ℕ → ℕ → List (List ℕ)
member_decorations w id member kind = member_literals_in id member kind w.marks

abbrev pub is_none : List (List ℕ) → Bool
is_none [] = true
is_none _ = false

abbrev pub is_decorated : Whole → ℕ → ℕ → Bool
is_decorated w id kind = not (is_none (decorations w id kind))

abbrev pub is_member_decorated : Whole → ℕ → ℕ → ℕ → Bool
is_member_decorated w id member kind = not (is_none (member_decorations w id member kind))

-- ---- numbers of constants

abbrev pub number_of_constant : Line → ℕ
number_of_constant l = first l.numbers + 2 ^ 32 * second l.numbers

abbrev pub literal_by : Whole → Option Line → Option ℕ
literal_by w None = None
literal_by w (Some l) =
    if has_op op.CONSTANT l && is_op_of w op.TYPE_INT l.type then Some (number_of_constant l) else (
    if has_op op.CONSTANT_NULL l && is_op_of w op.TYPE_INT l.type then Some 0 else None)

-- the number of a constant of an int type, of two words the low one first; that of an OpConstantNull is 0, and a spec constant has none yet
abbrev pub literal : Whole → ℕ → Option ℕ
literal w id = literal_by w (defined w id)

-- the length of an array: its constant, or the default of its spec constant
abbrev pub length_by : Option Line → ℕ
length_by None = 0
length_by (Some l) = first l.numbers

abbrev pub length_of : Whole → Line → ℕ
length_of w l = length_by (defined w (second l.ids))

-- ---- calls

abbrev pub callees_in : List Line → List ℕ
callees_in [] = []
callees_in (l ∷ ls) = if has_op op.FUNCTION_CALL l then first l.ids ∷ callees_in ls else callees_in ls

-- the functions that a function calls
abbrev pub callees : Whole → ℕ → List ℕ
callees w f = callees_in (function_of w f)

abbrev pub below_by : Whole → List Func → ℕ → List ℕ
below_by w [] f = f ∷ []
below_by w (_ ∷ fuel) f = f ∷ flattened (map (below_by w fuel) (callees w f))

-- A function and all that it reaches by calls. No shortest way is longer than the list of functions.
abbrev pub below : Whole → ℕ → List ℕ
below w f = below_by w w.functions f
