-- What the instructions of a module say that its functions, types and constants are made of (SPIR-V 1.3, sections 2.4 and 3.32): those that spv_module reads, and the rest.
use Rattle.std.specs.Prelude.{ℕ, ◌+◌, ◌==◌, nat_eq, Bool, true, false, if◌then◌else◌, List, [], ◌∷◌, drop, length, Option, Some, None, slice_get}
use Rattle.spv_module.specs.declared.module.Inst.{Inst}
use Rattle.spv_module.specs.declared.module.Operand.{Operand}
use Rattle.spv_module.specs.declared.module.Operand.TheVariants.{Id, Word}
use Rattle.spv_module.specs.declared.op.TheConstants as op
use Rattle.spv_module.specs.Options.{◌>>=◌}
use Rattle.spv_module.specs.Instructions.{Said, PointerType, Constant, SpecConstant, SpecComposite, Function, FunctionEnd, Variable, Load, AccessChain, Extract, Add, Label, Other, ids, said, result_of}

-- What makes a value. Ids and words stand in the order of the operands.
pub data Making : Type 0 where
  Undefined : Making
  Call : (function : ℕ) (arguments : List ℕ) → Making
  ExtractAt : (vector index : ℕ) → Making
  InsertAt : (vector component index : ℕ) → Making
  Shuffle : (a b : ℕ) (components : List ℕ) → Making
  Construct : (parts : List ℕ) → Making
  Insert : (object composite : ℕ) (at : List ℕ) → Making
  Bitcast : (a : ℕ) → Making
  -- conversions, arithmetic, logic, comparisons, shifts, bits and selection, by their opcodes
  Operation : (code : ℕ) (operands : List ℕ) → Making
  -- a pointer, and the values that stand behind the scopes and semantics
  Atomic : (code pointer : ℕ) (operands : List ℕ) → Making

-- What an instruction says; `t` is the id of its result's type, `r` that of its result.
pub data Line : Type 0 where
  -- what spv_module reads
  Basic : (says : Said) → Line
  BoolType : (r : ℕ) → Line
  ArrayType : (r element length : ℕ) → Line
  -- a bool, 1 or 0; a number of two words, the low one first
  TruthConstant : (t r n : ℕ) → Line
  LongConstant : (t r low high : ℕ) → Line
  CompositeConstant : (t r : ℕ) (parts : List ℕ) → Line
  NullConstant : (t r : ℕ) → Line
  Parameter : (t r : ℕ) → Line
  Makes : (t r : ℕ) (making : Making) → Line
  ControlBarrier : Line
  MemoryBarrier : Line
  Merge : Line
  Branch : (target : ℕ) → Line
  BranchConditional : (condition on_true on_false : ℕ) → Line
  -- the literals with their targets, in order
  Switch : (selector default : ℕ) (cases : List (ℕ × ℕ)) → Line
  ReturnValue : (value : ℕ) → Line

-- ---- the operands of each instruction

abbrev pub other : Line
other = Basic Other

abbrev pub undef : List Operand → Line
undef (Id t ∷ Id r ∷ []) = Makes t r Undefined
undef _ = other

abbrev pub bool_type : List Operand → Line
bool_type (Id r ∷ []) = BoolType r
bool_type _ = other

abbrev pub array_type : List Operand → Line
array_type (Id r ∷ Id element ∷ Id length ∷ []) = ArrayType r element length
array_type _ = other

abbrev pub truth : ℕ → List Operand → Line
truth n (Id t ∷ Id r ∷ []) = TruthConstant t r n
truth n _ = other

abbrev pub long_constant : List Operand → Line
long_constant (Id t ∷ Id r ∷ Word low ∷ Word high ∷ []) = LongConstant t r low high
long_constant _ = other

abbrev pub composite_constant : List Operand → Line
composite_constant (Id t ∷ Id r ∷ os) = CompositeConstant t r (ids os)
composite_constant _ = other

abbrev pub null_constant : List Operand → Line
null_constant (Id t ∷ Id r ∷ []) = NullConstant t r
null_constant _ = other

abbrev pub parameter : List Operand → Line
parameter (Id t ∷ Id r ∷ []) = Parameter t r
parameter _ = other

abbrev pub call : List Operand → Line
call (Id t ∷ Id r ∷ Id function ∷ os) = Makes t r (Call function (ids os))
call _ = other

abbrev pub extract_at : List Operand → Line
extract_at (Id t ∷ Id r ∷ Id vector ∷ Id index ∷ []) = Makes t r (ExtractAt vector index)
extract_at _ = other

abbrev pub insert_at : List Operand → Line
insert_at (Id t ∷ Id r ∷ Id vector ∷ Id component ∷ Id index ∷ []) = Makes t r (InsertAt vector component index)
insert_at _ = other

abbrev pub words_of : List Operand → List ℕ
words_of [] = []
words_of (Word w ∷ os) = w ∷ words_of os
words_of (_ ∷ os) = words_of os

abbrev pub shuffle : List Operand → Line
shuffle (Id t ∷ Id r ∷ Id a ∷ Id b ∷ os) = Makes t r (Shuffle a b (words_of os))
shuffle _ = other

abbrev pub construct : List Operand → Line
construct (Id t ∷ Id r ∷ os) = Makes t r (Construct (ids os))
construct _ = other

abbrev pub insert : List Operand → Line
insert (Id t ∷ Id r ∷ Id object ∷ Id composite ∷ os) = Makes t r (Insert object composite (words_of os))
insert _ = other

abbrev pub bitcast : List Operand → Line
bitcast (Id t ∷ Id r ∷ Id a ∷ []) = Makes t r (Bitcast a)
bitcast _ = other

-- operations on one, two and three values
abbrev pub on_one : ℕ → List Operand → Line
on_one code (Id t ∷ Id r ∷ Id a ∷ []) = Makes t r (Operation code (a ∷ []))
on_one code _ = other

abbrev pub on_two : ℕ → List Operand → Line
on_two code (Id t ∷ Id r ∷ Id a ∷ Id b ∷ []) = Makes t r (Operation code (a ∷ b ∷ []))
on_two code _ = other

abbrev pub on_three : ℕ → List Operand → Line
on_three code (Id t ∷ Id r ∷ Id a ∷ Id b ∷ Id c ∷ []) = Makes t r (Operation code (a ∷ b ∷ c ∷ []))
on_three code _ = other

-- Atomics with a value, without one, and the exchange by a comparison: the value and what is compared.
abbrev pub atomic : ℕ → List Operand → Line
atomic code (Id t ∷ Id r ∷ Id pointer ∷ Id scope ∷ Id semantics ∷ Id value ∷ []) = Makes t r (Atomic code pointer (value ∷ []))
atomic code _ = other

abbrev pub atomic_by_one : ℕ → List Operand → Line
atomic_by_one code (Id t ∷ Id r ∷ Id pointer ∷ Id scope ∷ Id semantics ∷ []) = Makes t r (Atomic code pointer [])
atomic_by_one code _ = other

abbrev pub atomic_compare : List Operand → Line
atomic_compare (Id t ∷ Id r ∷ Id pointer ∷ Id scope ∷ Id equal ∷ Id unequal ∷ Id value ∷ Id comparator ∷ []) = Makes t r (Atomic op.ATOMIC_COMPARE_EXCHANGE pointer (value ∷ comparator ∷ []))
atomic_compare _ = other

abbrev pub control_barrier : List Operand → Line
control_barrier (Id execution ∷ Id memory ∷ Id semantics ∷ []) = ControlBarrier
control_barrier _ = other

abbrev pub memory_barrier : List Operand → Line
memory_barrier (Id memory ∷ Id semantics ∷ []) = MemoryBarrier
memory_barrier _ = other

abbrev pub loop_merge : List Operand → Line
loop_merge (Id merge ∷ Id continue ∷ Word control ∷ []) = Merge
loop_merge _ = other

abbrev pub selection_merge : List Operand → Line
selection_merge (Id merge ∷ Word control ∷ []) = Merge
selection_merge _ = other

abbrev pub branch : List Operand → Line
branch (Id target ∷ []) = Branch target
branch _ = other

abbrev pub branch_conditional : List Operand → Line
branch_conditional (Id condition ∷ Id on_true ∷ Id on_false ∷ []) = BranchConditional condition on_true on_false
branch_conditional _ = other

abbrev pub cases_of : List Operand → List (ℕ × ℕ)
cases_of (Word literal ∷ Id target ∷ os) = (literal, target) ∷ cases_of os
cases_of _ = []

abbrev pub switch : List Operand → Line
switch (Id selector ∷ Id default ∷ os) = Switch selector default (cases_of os)
switch _ = other

abbrev pub return_value : List Operand → Line
return_value (Id value ∷ []) = ReturnValue value
return_value _ = other

-- how each opcode's operands are read; an instruction that has no row says nothing
abbrev pub further : List (ℕ × (List Operand → Line))
further =
    (op.BRANCH, branch) ∷ (op.BRANCH_CONDITIONAL, branch_conditional) ∷ (op.SELECTION_MERGE, selection_merge) ∷ (op.LOOP_MERGE, loop_merge) ∷ (op.SWITCH, switch)
    ∷ (op.RETURN_VALUE, return_value) ∷ (op.FUNCTION_CALL, call) ∷ (op.FUNCTION_PARAMETER, parameter) ∷ (op.CONTROL_BARRIER, control_barrier) ∷ (op.MEMORY_BARRIER, memory_barrier)
    ∷ (op.TYPE_BOOL, bool_type) ∷ (op.TYPE_ARRAY, array_type) ∷ (op.CONSTANT_TRUE, truth 1) ∷ (op.CONSTANT_FALSE, truth 0) ∷ (op.CONSTANT, long_constant)
    ∷ (op.CONSTANT_COMPOSITE, composite_constant) ∷ (op.CONSTANT_NULL, null_constant) ∷ (op.UNDEF, undef)
    ∷ (op.VECTOR_EXTRACT_DYNAMIC, extract_at) ∷ (op.VECTOR_INSERT_DYNAMIC, insert_at) ∷ (op.VECTOR_SHUFFLE, shuffle) ∷ (op.COMPOSITE_CONSTRUCT, construct) ∷ (op.COMPOSITE_INSERT, insert)
    ∷ (op.BITCAST, bitcast) ∷ (op.U_CONVERT, on_one op.U_CONVERT) ∷ (op.S_CONVERT, on_one op.S_CONVERT) ∷ (op.S_NEGATE, on_one op.S_NEGATE) ∷ (op.LOGICAL_NOT, on_one op.LOGICAL_NOT) ∷ (op.NOT, on_one op.NOT)
    ∷ (op.I_SUB, on_two op.I_SUB) ∷ (op.I_MUL, on_two op.I_MUL) ∷ (op.U_DIV, on_two op.U_DIV) ∷ (op.S_DIV, on_two op.S_DIV) ∷ (op.U_MOD, on_two op.U_MOD) ∷ (op.S_REM, on_two op.S_REM)
    ∷ (op.LOGICAL_OR, on_two op.LOGICAL_OR) ∷ (op.LOGICAL_AND, on_two op.LOGICAL_AND) ∷ (op.I_EQUAL, on_two op.I_EQUAL) ∷ (op.I_NOT_EQUAL, on_two op.I_NOT_EQUAL)
    ∷ (op.U_GREATER_THAN, on_two op.U_GREATER_THAN) ∷ (op.S_GREATER_THAN, on_two op.S_GREATER_THAN) ∷ (op.U_GREATER_THAN_EQUAL, on_two op.U_GREATER_THAN_EQUAL) ∷ (op.S_GREATER_THAN_EQUAL, on_two op.S_GREATER_THAN_EQUAL)
    ∷ (op.U_LESS_THAN, on_two op.U_LESS_THAN) ∷ (op.S_LESS_THAN, on_two op.S_LESS_THAN) ∷ (op.U_LESS_THAN_EQUAL, on_two op.U_LESS_THAN_EQUAL) ∷ (op.S_LESS_THAN_EQUAL, on_two op.S_LESS_THAN_EQUAL)
    ∷ (op.SHIFT_RIGHT_LOGICAL, on_two op.SHIFT_RIGHT_LOGICAL) ∷ (op.SHIFT_RIGHT_ARITHMETIC, on_two op.SHIFT_RIGHT_ARITHMETIC) ∷ (op.SHIFT_LEFT_LOGICAL, on_two op.SHIFT_LEFT_LOGICAL)
    ∷ (op.BITWISE_OR, on_two op.BITWISE_OR) ∷ (op.BITWISE_XOR, on_two op.BITWISE_XOR) ∷ (op.BITWISE_AND, on_two op.BITWISE_AND) ∷ (op.SELECT, on_three op.SELECT)
    ∷ (op.ATOMIC_EXCHANGE, atomic op.ATOMIC_EXCHANGE) ∷ (op.ATOMIC_COMPARE_EXCHANGE, atomic_compare) ∷ (op.ATOMIC_I_INCREMENT, atomic_by_one op.ATOMIC_I_INCREMENT) ∷ (op.ATOMIC_I_DECREMENT, atomic_by_one op.ATOMIC_I_DECREMENT)
    ∷ (op.ATOMIC_I_ADD, atomic op.ATOMIC_I_ADD) ∷ (op.ATOMIC_I_SUB, atomic op.ATOMIC_I_SUB) ∷ (op.ATOMIC_S_MIN, atomic op.ATOMIC_S_MIN) ∷ (op.ATOMIC_U_MIN, atomic op.ATOMIC_U_MIN) ∷ (op.ATOMIC_S_MAX, atomic op.ATOMIC_S_MAX)
    ∷ (op.ATOMIC_U_MAX, atomic op.ATOMIC_U_MAX) ∷ (op.ATOMIC_AND, atomic op.ATOMIC_AND) ∷ (op.ATOMIC_OR, atomic op.ATOMIC_OR) ∷ (op.ATOMIC_XOR, atomic op.ATOMIC_XOR) ∷ []

abbrev pub read_further : List (ℕ × (List Operand → Line)) → ℕ → List Operand → Line
read_further [] code os = other
read_further (row ∷ rows) code os = if code == row.0 then row.1 os else read_further rows code os

abbrev pub line_by : Said → Inst → Line
line_by Other i = read_further further i.op i.operands
line_by s i = Basic s

abbrev pub line_of : Inst → Line
line_of i = line_by (said i) i

abbrev pub line_at : List Inst → ℕ → Option Line
line_at body place = slice_get body place >>= λ i. Some (line_of i)

-- ---- results

-- the id that a line defines, and the id of its type
abbrev pub result_in : Line → Option ℕ
result_in (Basic s) = result_of s
result_in (BoolType r) = Some r
result_in (ArrayType r element length) = Some r
result_in (TruthConstant t r n) = Some r
result_in (LongConstant t r low high) = Some r
result_in (CompositeConstant t r parts) = Some r
result_in (NullConstant t r) = Some r
result_in (Parameter t r) = Some r
result_in (Makes t r making) = Some r
result_in _ = None

abbrev pub type_by : Line → Option ℕ
type_by (Basic (Constant t r value)) = Some t
type_by (Basic (SpecConstant t r default)) = Some t
type_by (Basic (SpecComposite t r parts)) = Some t
type_by (Basic (Variable t r storage)) = Some t
type_by (Basic (Load t r pointer)) = Some t
type_by (Basic (AccessChain t r base indices)) = Some t
type_by (Basic (Extract t r composite at)) = Some t
type_by (Basic (Add t r a b)) = Some t
type_by (TruthConstant t r n) = Some t
type_by (LongConstant t r low high) = Some t
type_by (CompositeConstant t r parts) = Some t
type_by (NullConstant t r) = Some t
type_by (Parameter t r) = Some t
type_by (Makes t r making) = Some t
type_by _ = None

abbrev pub is_result : Option ℕ → ℕ → Bool
is_result None id = false
is_result (Some r) id = nat_eq r id

-- the line that defines an id
abbrev pub line_in : List Inst → ℕ → Option Line
line_in [] id = None
line_in (i ∷ is) id = if is_result (result_in (line_of i)) id then Some (line_of i) else line_in is id

abbrev pub type_of_line : Option Line → Option ℕ
type_of_line (Some l) = type_by l
type_of_line None = None

-- the type of the value that an id has
abbrev pub type_in : List Inst → ℕ → Option ℕ
type_in body id = type_of_line (line_in body id)

abbrev pub pointee_of_line : Option Line → Option ℕ
pointee_of_line (Some (Basic (PointerType r storage pointee))) = Some pointee
pointee_of_line _ = None

-- what a pointer type points to
abbrev pub pointee_in : List Inst → ℕ → Option ℕ
pointee_in body t = pointee_of_line (line_in body t)

-- ---- functions

-- a function begins behind its line
abbrev pub is_function : Said → ℕ → Bool
is_function (Function t r type) id = nat_eq r id
is_function _ id = false

abbrev pub place_after : List Inst → ℕ → ℕ
place_after [] id = 0
place_after (i ∷ is) id = if is_function (said i) id then 1 else (1 + place_after is id)

-- the lines of a function, up to its end
abbrev pub is_end : Said → Bool
is_end FunctionEnd = true
is_end _ = false

abbrev pub up_to_end : List Inst → List Inst
up_to_end [] = []
up_to_end (i ∷ is) = if is_end (said i) then [] else i ∷ up_to_end is

abbrev pub lines_of : List Inst → ℕ → List Inst
lines_of body function = up_to_end (drop (place_after body function) body)

-- the ids of its parameters, which stand first, with their types
abbrev pub parameter_by : Line → List (ℕ × ℕ) → List (ℕ × ℕ)
parameter_by (Parameter t r) ps = (r, t) ∷ ps
parameter_by _ ps = []

abbrev pub parameters_at : List Inst → List (ℕ × ℕ)
parameters_at [] = []
parameters_at (i ∷ is) = parameter_by (line_of i) (parameters_at is)

abbrev pub parameters_of : List Inst → ℕ → List (ℕ × ℕ)
parameters_of body function = parameters_at (lines_of body function)

-- the place of its first instruction
abbrev pub first_place : List Inst → ℕ → ℕ
first_place body function = place_after body function + length (parameters_of body function)

-- the ids of its variables, with their types
abbrev pub variables_by : Said → List (ℕ × ℕ) → List (ℕ × ℕ)
variables_by (Variable t r storage) vs = (r, t) ∷ vs
variables_by _ vs = vs

abbrev pub variables_among : List Inst → List (ℕ × ℕ)
variables_among [] = []
variables_among (i ∷ is) = variables_by (said i) (variables_among is)

abbrev pub variables_of : List Inst → ℕ → List (ℕ × ℕ)
variables_of body function = variables_among (lines_of body function)

-- the variables that stand first, behind a label
abbrev pub is_variable : Said → Bool
is_variable (Variable t r storage) = true
is_variable _ = false

abbrev pub count_variables : List Inst → ℕ
count_variables [] = 0
count_variables (i ∷ is) = if is_variable (said i) then 1 + count_variables is else 0

-- where the block of a label begins
abbrev pub is_label : Said → ℕ → Bool
is_label (Label r) id = nat_eq r id
is_label _ id = false

abbrev pub place_of : List Inst → ℕ → ℕ
place_of [] id = 0
place_of (i ∷ is) id = if is_label (said i) id then 0 else 1 + place_of is id
