-- The instructions of a module, read by what they say (SPIR-V 1.3, section 3.32).
use Rattle.std.specs.Prelude.{ℕ, Bool, false, ◌==◌, ◌&&◌, if◌then◌else◌, List, [], ◌∷◌, Option, Some, None, nat_eq}
use Rattle.spv_module.specs.Options.{or_else}
use Rattle.spv_module.specs.declared.module.Inst.{Inst}
use Rattle.spv_module.specs.declared.module.Operand.{Operand}
use Rattle.spv_module.specs.declared.module.Operand.TheVariants.{Id, Word, Str}
use Rattle.spv_module.specs.declared.op.TheConstants as op

-- What an instruction says. Ids and numbers stand in the order of its operands; a result's id is `r`, its type's `t`.
pub data Said : Type 0 where
  Capability : (capability : ℕ) → Said
  Extension : (name : List ℕ) → Said
  MemoryModel : (addressing memory : ℕ) → Said
  String : (r : ℕ) (text : List ℕ) → Said
  Import : (r : ℕ) (name : List ℕ) → Said
  Extended : (t r set number : ℕ) (operands : List ℕ) → Said
  EntryPoint : (model function : ℕ) (name : List ℕ) (interface : List ℕ) → Said
  ExecutionMode : (function mode : ℕ) → Said
  VoidType : (r : ℕ) → Said
  IntType : (r width signedness : ℕ) → Said
  VectorType : (r component count : ℕ) → Said
  RuntimeArray : (r element : ℕ) → Said
  StructType : (r : ℕ) (members : List ℕ) → Said
  PointerType : (r storage pointee : ℕ) → Said
  FunctionType : (r result : ℕ) (parameters : List ℕ) → Said
  Constant : (t r value : ℕ) → Said
  SpecConstant : (t r default : ℕ) → Said
  SpecComposite : (t r : ℕ) (parts : List ℕ) → Said
  Function : (t r type : ℕ) → Said
  FunctionEnd : Said
  Variable : (t r storage : ℕ) → Said
  Load : (t r pointer : ℕ) → Said
  Store : (pointer value : ℕ) → Said
  AccessChain : (t r base : ℕ) (indices : List ℕ) → Said
  Decorate : (target decoration : ℕ) (numbers : List ℕ) → Said
  MemberDecorate : (type member decoration : ℕ) (numbers : List ℕ) → Said
  Extract : (t r composite : ℕ) (at : List ℕ) → Said
  Add : (t r a b : ℕ) → Said
  Label : (r : ℕ) → Said
  Return : Said
  -- any other instruction, or operands that do not fit
  Other : Said

abbrev pub ids : List Operand → List ℕ
ids [] = []
ids (Id i ∷ os) = i ∷ ids os
ids (_ ∷ os) = ids os

abbrev pub words : List Operand → List ℕ
words [] = []
words (Word w ∷ os) = w ∷ words os
words (_ ∷ os) = words os

-- the operands of each instruction, result type and result first
abbrev pub capability : List Operand → Said
capability (Word c ∷ []) = Capability c
capability _ = Other

abbrev pub extension : List Operand → Said
extension (Str name ∷ []) = Extension name
extension _ = Other

abbrev pub memory_model : List Operand → Said
memory_model (Word addressing ∷ Word memory ∷ []) = MemoryModel addressing memory
memory_model _ = Other

abbrev pub string : List Operand → Said
string (Id r ∷ Str text ∷ []) = String r text
string _ = Other

abbrev pub import : List Operand → Said
import (Id r ∷ Str name ∷ []) = Import r name
import _ = Other

abbrev pub extended : List Operand → Said
extended (Id t ∷ Id r ∷ Id set ∷ Word number ∷ os) = Extended t r set number (ids os)
extended _ = Other

abbrev pub entry_point : List Operand → Said
entry_point (Word model ∷ Id function ∷ Str name ∷ os) = EntryPoint model function name (ids os)
entry_point _ = Other

abbrev pub execution_mode : List Operand → Said
execution_mode (Id function ∷ Word mode ∷ os) = ExecutionMode function mode
execution_mode _ = Other

abbrev pub void_type : List Operand → Said
void_type (Id r ∷ []) = VoidType r
void_type _ = Other

abbrev pub int_type : List Operand → Said
int_type (Id r ∷ Word width ∷ Word signedness ∷ []) = IntType r width signedness
int_type _ = Other

abbrev pub vector_type : List Operand → Said
vector_type (Id r ∷ Id component ∷ Word count ∷ []) = VectorType r component count
vector_type _ = Other

abbrev pub runtime_array : List Operand → Said
runtime_array (Id r ∷ Id element ∷ []) = RuntimeArray r element
runtime_array _ = Other

abbrev pub struct_type : List Operand → Said
struct_type (Id r ∷ os) = StructType r (ids os)
struct_type _ = Other

abbrev pub pointer_type : List Operand → Said
pointer_type (Id r ∷ Word storage ∷ Id pointee ∷ []) = PointerType r storage pointee
pointer_type _ = Other

abbrev pub function_type : List Operand → Said
function_type (Id r ∷ Id result ∷ os) = FunctionType r result (ids os)
function_type _ = Other

abbrev pub constant : List Operand → Said
constant (Id t ∷ Id r ∷ Word value ∷ []) = Constant t r value
constant _ = Other

abbrev pub spec_constant : List Operand → Said
spec_constant (Id t ∷ Id r ∷ Word default ∷ []) = SpecConstant t r default
spec_constant _ = Other

abbrev pub spec_composite : List Operand → Said
spec_composite (Id t ∷ Id r ∷ os) = SpecComposite t r (ids os)
spec_composite _ = Other

abbrev pub function : List Operand → Said
function (Id t ∷ Id r ∷ Word control ∷ Id type ∷ []) = Function t r type
function _ = Other

abbrev pub function_end : List Operand → Said
function_end [] = FunctionEnd
function_end _ = Other

abbrev pub variable : List Operand → Said
variable (Id t ∷ Id r ∷ Word storage ∷ []) = Variable t r storage
variable _ = Other

abbrev pub load : List Operand → Said
load (Id t ∷ Id r ∷ Id pointer ∷ []) = Load t r pointer
load _ = Other

abbrev pub store : List Operand → Said
store (Id pointer ∷ Id value ∷ []) = Store pointer value
store _ = Other

abbrev pub access_chain : List Operand → Said
access_chain (Id t ∷ Id r ∷ Id base ∷ os) = AccessChain t r base (ids os)
access_chain _ = Other

abbrev pub decorate : List Operand → Said
decorate (Id target ∷ Word kind ∷ os) = Decorate target kind (words os)
decorate _ = Other

abbrev pub member_decorate : List Operand → Said
member_decorate (Id type ∷ Word member ∷ Word kind ∷ os) = MemberDecorate type member kind (words os)
member_decorate _ = Other

abbrev pub extract : List Operand → Said
extract (Id t ∷ Id r ∷ Id composite ∷ os) = Extract t r composite (words os)
extract _ = Other

abbrev pub add : List Operand → Said
add (Id t ∷ Id r ∷ Id a ∷ Id b ∷ []) = Add t r a b
add _ = Other

abbrev pub label : List Operand → Said
label (Id r ∷ []) = Label r
label _ = Other

abbrev pub return : List Operand → Said
return [] = Return
return _ = Other

-- how each opcode's operands are read
abbrev pub readings : List (ℕ × (List Operand → Said))
readings =
    (op.STRING, string) ∷ (op.EXT_INST_IMPORT, import) ∷ (op.EXT_INST, extended) ∷ (op.ENTRY_POINT, entry_point) ∷ (op.EXECUTION_MODE, execution_mode)
    ∷ (op.TYPE_VOID, void_type) ∷ (op.TYPE_INT, int_type) ∷ (op.TYPE_VECTOR, vector_type) ∷ (op.TYPE_RUNTIME_ARRAY, runtime_array) ∷ (op.TYPE_STRUCT, struct_type)
    ∷ (op.TYPE_POINTER, pointer_type) ∷ (op.TYPE_FUNCTION, function_type) ∷ (op.CONSTANT, constant) ∷ (op.SPEC_CONSTANT, spec_constant) ∷ (op.SPEC_CONSTANT_COMPOSITE, spec_composite)
    ∷ (op.FUNCTION, function) ∷ (op.FUNCTION_END, function_end) ∷ (op.VARIABLE, variable) ∷ (op.LOAD, load) ∷ (op.STORE, store)
    ∷ (op.ACCESS_CHAIN, access_chain) ∷ (op.DECORATE, decorate) ∷ (op.MEMBER_DECORATE, member_decorate) ∷ (op.COMPOSITE_EXTRACT, extract) ∷ (op.I_ADD, add)
    ∷ (op.LABEL, label) ∷ (op.RETURN, return) ∷ (op.CAPABILITY, capability) ∷ (op.EXTENSION, extension) ∷ (op.MEMORY_MODEL, memory_model) ∷ []

abbrev pub read_by : List (ℕ × (List Operand → Said)) → ℕ → List Operand → Said
read_by [] code os = Other
read_by (row ∷ rows) code os = if code == row.0 then row.1 os else read_by rows code os

abbrev pub said : Inst → Said
said i = read_by readings i.op i.operands

-- the id that an instruction defines, where it is one of these
abbrev pub result_of : Said → Option ℕ
result_of (String r text) = Some r
result_of (Import r name) = Some r
result_of (Extended t r set number os) = Some r
result_of (VoidType r) = Some r
result_of (IntType r width signedness) = Some r
result_of (VectorType r component count) = Some r
result_of (RuntimeArray r element) = Some r
result_of (StructType r members) = Some r
result_of (PointerType r storage pointee) = Some r
result_of (FunctionType r result parameters) = Some r
result_of (Constant t r value) = Some r
result_of (SpecConstant t r default) = Some r
result_of (SpecComposite t r parts) = Some r
result_of (Function t r type) = Some r
result_of (Variable t r storage) = Some r
result_of (Load t r pointer) = Some r
result_of (AccessChain t r base indices) = Some r
result_of (Extract t r composite at) = Some r
result_of (Add t r a b) = Some r
result_of (Label r) = Some r
result_of _ = None

abbrev pub is_result : Option ℕ → ℕ → Bool
is_result None id = false
is_result (Some r) id = nat_eq r id

-- what the instruction says that defines an id
abbrev pub definition_in : List Inst → ℕ → Option Said
definition_in [] id = None
definition_in (i ∷ is) id = if is_result (result_of (said i)) id then Some (said i) else definition_in is id

-- A decoration of a target, or of a member of it, as the numbers that follow the decoration.
abbrev pub decoration_by : Said → ℕ → ℕ → Option (List ℕ)
decoration_by (Decorate target kind numbers) id wanted = if nat_eq target id && nat_eq kind wanted then Some numbers else None
decoration_by _ id wanted = None

abbrev pub member_decoration_by : Said → ℕ → ℕ → ℕ → Option (List ℕ)
member_decoration_by (MemberDecorate type at kind numbers) id member wanted = if nat_eq type id && nat_eq at member && nat_eq kind wanted then Some numbers else None
member_decoration_by _ id member wanted = None

abbrev pub decoration_in : List Inst → ℕ → ℕ → Option (List ℕ)
decoration_in [] id wanted = None
decoration_in (i ∷ is) id wanted = or_else (decoration_by (said i) id wanted) (decoration_in is id wanted)

abbrev pub member_decoration_in : List Inst → ℕ → ℕ → ℕ → Option (List ℕ)
member_decoration_in [] id member wanted = None
member_decoration_in (i ∷ is) id member wanted = or_else (member_decoration_by (said i) id member wanted) (member_decoration_in is id member wanted)
