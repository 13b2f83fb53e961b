-- What the code's readings of instructions mean.
use Rattle.std.specs.Prelude.{ℕ, Bool, true, false, List, [], ◌∷◌}
use Rattle.spv_module.specs.declared.reading.Said.{Said as Reading}
use Rattle.spv_module.specs.declared.reading.Said.TheVariants as reading
use Rattle.spv_module.specs.Instructions.{Said, Capability, Extension, MemoryModel, String, Import, Extended, EntryPoint, ExecutionMode, VoidType, IntType, VectorType, RuntimeArray, StructType, PointerType, FunctionType, Constant, SpecConstant, SpecComposite, Function, FunctionEnd, Variable, Load, Store, AccessChain, Decorate, MemberDecorate, Extract, Add, Label, Return, Other, ids, words}

abbrev pub said_by : Reading → Said
said_by (reading.Capability c) = Capability c
said_by (reading.Extension name) = Extension name.now
said_by (reading.MemoryModel addressing memory) = MemoryModel addressing memory
said_by (reading.String id text) = String id text.now
said_by (reading.Import id name) = Import id name.now
said_by (reading.Extended ty id set number operands) = Extended ty id set number (ids operands.now)
said_by (reading.EntryPoint model function name interface) = EntryPoint model function name.now (ids interface.now)
said_by (reading.ExecutionMode function mode) = ExecutionMode function mode
said_by (reading.VoidType id) = VoidType id
said_by (reading.IntType id width signedness) = IntType id width signedness
said_by (reading.VectorType id component count) = VectorType id component count
said_by (reading.RuntimeArray id element) = RuntimeArray id element
said_by (reading.StructType id members) = StructType id (ids members.now)
said_by (reading.PointerType id storage pointee) = PointerType id storage pointee
said_by (reading.FunctionType id result parameters) = FunctionType id result (ids parameters.now)
said_by (reading.Constant ty id value) = Constant ty id value
said_by (reading.SpecConstant ty id default) = SpecConstant ty id default
said_by (reading.SpecComposite ty id parts) = SpecComposite ty id (ids parts.now)
said_by (reading.Function ty id kind) = Function ty id kind
said_by reading.FunctionEnd = FunctionEnd
said_by (reading.Variable ty id storage) = Variable ty id storage
said_by (reading.Load ty id pointer) = Load ty id pointer
said_by (reading.Store pointer value) = Store pointer value
said_by (reading.AccessChain ty id base indices) = AccessChain ty id base (ids indices.now)
said_by (reading.Decorate target decoration numbers) = Decorate target decoration (words numbers.now)
said_by (reading.MemberDecorate ty member decoration numbers) = MemberDecorate ty member decoration (words numbers.now)
said_by (reading.Extract ty id composite at) = Extract ty id composite (words at.now)
said_by (reading.Add ty id a b) = Add ty id a b
said_by (reading.Label id) = Label id
said_by reading.Return = Return
said_by reading.Other = Other

abbrev pub is_nil : List ℕ → Bool
is_nil [] = true
is_nil (n ∷ ns) = false
