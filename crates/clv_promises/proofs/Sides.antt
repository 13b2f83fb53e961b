-- One work-item and its invocation, run side by side on a launch: they ask the same.
use Rattle.std.proofs.Common.{◌≡◌, ℕ, true, false, List, [], ◌∷◌, None, codes, refl}
use Rattle.std.specs.Prelude.{replicate}
use Rattle.clv_steps.specs.Machines.{Ends, after, told, paid, in_words}
use Rattle.clv_place.specs.declared.place.Place.{Place}
use Rattle.cl_types.specs.declared.types.ClType.{ClType}
use Rattle.cl_types.specs.declared.types.ClType.TheVariants as ty
use Rattle.cl_types.specs.declared.types.TypeId.{TypeId}
use Rattle.cl_types.specs.declared.space.Space.TheVariants as space
use Rattle.cl_types.specs.declared.operator.BinOp.TheVariants as bin
use Rattle.cl_types.specs.declared.builtin.Builtin.TheVariants as builtin
use Rattle.launch_text.specs.declared.launch.ArgKind.TheVariants.{Buffer}
use Rattle.launch_text.specs.WorkItems.{Sizes}
use Rattle.launch_text.specs.Rules.{LoadedLaunch}
use Rattle.launch_text.specs.Seen.{launch_seen}
use Rattle.cl_meaning.specs.declared.code.Node.{Node}
use Rattle.cl_meaning.specs.declared.code.Node.TheVariants.{Param, Number, Convert, Binary, Assign, Builtin, Index}
use Rattle.cl_meaning.specs.Code.{Expr, Tree, NoExpr, AndExpr, Stmt, Block, Evaluate, NoStmt, AndStmt}
use Rattle.cl_meaning.specs.States.{Surroundings}
use Rattle.cl_meaning.specs.Items.{source_item, weight}
use Rattle.cl_meaning.specs.Source.{first_item}
use Rattle.spv_module.specs.declared.module.Inst.{Inst}
use Rattle.spv_module.specs.declared.module.Operand.{Operand}
use Rattle.spv_module.specs.declared.module.Operand.TheVariants.{Id, Word, Str}
use Rattle.spv_module.specs.declared.op.TheConstants as op
use Rattle.spv_module.specs.Options.{or_default}
use Rattle.spv_types_rules.specs.Lines.{whole, lines_of}
use Rattle.spv_invocations.specs.Events as invocation
use Rattle.spv_invocations.specs.Start.{Start}
use Rattle.spv_invocations.specs.Invocation.{invocation, first_run, given_of}
use Rattle.cl_provenance.specs.Routines.{Routine, Unit as Functions}
use Rattle.vk_layout.specs.declared.options.Pod.TheVariants.{Storage}
use Rattle.vk_layout.specs.Interface.{InterfaceStands}
use Rattle.spv_invocations.specs.Cells.{cells_of}
use Rattle.cl_specialise.specs.Copies.{copies_of}
use Rattle.clv_promises.specs.Copied.{AreCopied, function_of_kernel, reflection}
use Rattle.clv_promises.specs.Rooms.{KernelsKeepApart, measure}
use Rattle.clv_promises.specs.RowRules.{KeepsRowRules}
use Rattle.clv_promises.specs.Rows.{rows_of}
use Rattle.clv_promises.specs.Binding.{at_rest, no_start, start_of}
use Rattle.clv_promises.specs.Questions.{Meeting, asked_of}

-- ---- the unit: __kernel void k(__global uint*a){a[get_global_id(0)]=get_global_id(0)+7;}

abbrev t : ℕ → TypeId
t n = record { 0 = n }

abbrev types : List ClType
types = ty.Void ∷ ty.Int 32 true ∷ ty.Int 32 false ∷ ty.Pointer space.Global (t 2) false false ∷ []

abbrev leaf : Node → TypeId → ℕ → Expr
leaf node type n = Tree node type n NoExpr

abbrev one : Node → TypeId → ℕ → Expr → Expr
one node type n a = Tree node type n (AndExpr a NoExpr)

abbrev two : Node → TypeId → ℕ → Expr → Expr → Expr
two node type n a b = Tree node type n (AndExpr a (AndExpr b NoExpr))

abbrev assignment : Expr
assignment = two (Assign None) (t 2) 11
    (two Index (t 2) 4 (leaf (Param 0) (t 3) 0) (one (Builtin builtin.GetGlobalId) (t 2) 3 (one Convert (t 2) 2 (leaf (Number 0) (t 1) 1))))
    (two (Binary bin.Add) (t 2) 10 (one (Builtin builtin.GetGlobalId) (t 2) 7 (one Convert (t 2) 6 (leaf (Number 0) (t 1) 5))) (one Convert (t 2) 9 (leaf (Number 7) (t 1) 8)))

abbrev stores : Stmt
stores = Block (AndStmt (Evaluate assignment) NoStmt)

abbrev nowhere : Place
nowhere = record { line = 1; col = 1 }

abbrev k : Routine
k = record {
  name = codes "k";
  place = nowhere;
  kernel = true;
  required = None;
  params = record { name = codes "a"; ty = t 3; space = space.Private; place = nowhere } ∷ [];
  vars = [];
  result = t 0;
  body = stores;
  places = [];
  trees = assignment ∷ [];
}

abbrev unit : Functions
unit = record { types = types; constants = []; functions = k ∷ [] }

-- ---- a module for it

abbrev inst : ℕ → List Operand → Inst
inst code operands = record { op = code; operands = operands }

abbrev body : List Inst
body =
    inst op.CAPABILITY (Word 1 ∷ [])
    ∷ inst op.EXTENSION (Str (codes "SPV_KHR_non_semantic_info") ∷ [])
    ∷ inst op.EXT_INST_IMPORT (Id 1 ∷ Str (codes "NonSemantic.ClspvReflection.1") ∷ [])
    ∷ inst op.MEMORY_MODEL (Word 0 ∷ Word 1 ∷ [])
    ∷ inst op.ENTRY_POINT (Word 5 ∷ Id 9 ∷ Str (codes "k") ∷ Id 15 ∷ [])
    ∷ inst op.STRING (Id 11 ∷ Str (codes "k") ∷ [])
    ∷ inst op.STRING (Id 23 ∷ Str (codes "a") ∷ [])
    ∷ inst op.DECORATE (Id 3 ∷ Word 6 ∷ Word 4 ∷ [])
    ∷ inst op.DECORATE (Id 4 ∷ Word 2 ∷ [])
    ∷ inst op.MEMBER_DECORATE (Id 4 ∷ Word 0 ∷ Word 35 ∷ Word 0 ∷ [])
    ∷ inst op.DECORATE (Id 6 ∷ Word 34 ∷ Word 0 ∷ [])
    ∷ inst op.DECORATE (Id 6 ∷ Word 33 ∷ Word 0 ∷ [])
    ∷ inst op.DECORATE (Id 6 ∷ Word 20 ∷ [])
    ∷ inst op.DECORATE (Id 15 ∷ Word 11 ∷ Word 28 ∷ [])
    ∷ inst op.DECORATE (Id 26 ∷ Word 1 ∷ Word 0 ∷ [])
    ∷ inst op.DECORATE (Id 27 ∷ Word 1 ∷ Word 1 ∷ [])
    ∷ inst op.DECORATE (Id 28 ∷ Word 1 ∷ Word 2 ∷ [])
    ∷ inst op.DECORATE (Id 29 ∷ Word 11 ∷ Word 25 ∷ [])
    ∷ inst op.TYPE_INT (Id 2 ∷ Word 32 ∷ Word 0 ∷ [])
    ∷ inst op.TYPE_RUNTIME_ARRAY (Id 3 ∷ Id 2 ∷ [])
    ∷ inst op.TYPE_STRUCT (Id 4 ∷ Id 3 ∷ [])
    ∷ inst op.TYPE_POINTER (Id 5 ∷ Word 12 ∷ Id 4 ∷ [])
    ∷ inst op.VARIABLE (Id 5 ∷ Id 6 ∷ Word 12 ∷ [])
    ∷ inst op.TYPE_VOID (Id 7 ∷ [])
    ∷ inst op.TYPE_FUNCTION (Id 8 ∷ Id 7 ∷ [])
    ∷ inst op.TYPE_VECTOR (Id 13 ∷ Id 2 ∷ Word 3 ∷ [])
    ∷ inst op.TYPE_POINTER (Id 14 ∷ Word 1 ∷ Id 13 ∷ [])
    ∷ inst op.VARIABLE (Id 14 ∷ Id 15 ∷ Word 1 ∷ [])
    ∷ inst op.CONSTANT (Id 2 ∷ Id 18 ∷ Word 0 ∷ [])
    ∷ inst op.TYPE_POINTER (Id 19 ∷ Word 12 ∷ Id 2 ∷ [])
    ∷ inst op.CONSTANT (Id 2 ∷ Id 21 ∷ Word 7 ∷ [])
    ∷ inst op.SPEC_CONSTANT (Id 2 ∷ Id 26 ∷ Word 1 ∷ [])
    ∷ inst op.SPEC_CONSTANT (Id 2 ∷ Id 27 ∷ Word 1 ∷ [])
    ∷ inst op.SPEC_CONSTANT (Id 2 ∷ Id 28 ∷ Word 1 ∷ [])
    ∷ inst op.SPEC_CONSTANT_COMPOSITE (Id 13 ∷ Id 29 ∷ Id 26 ∷ Id 27 ∷ Id 28 ∷ [])
    ∷ inst op.CONSTANT (Id 2 ∷ Id 30 ∷ Word 1 ∷ [])
    ∷ inst op.CONSTANT (Id 2 ∷ Id 31 ∷ Word 2 ∷ [])
    ∷ inst op.FUNCTION (Id 7 ∷ Id 9 ∷ Word 0 ∷ Id 8 ∷ [])
    ∷ inst op.LABEL (Id 10 ∷ [])
    ∷ inst op.LOAD (Id 13 ∷ Id 16 ∷ Id 15 ∷ [])
    ∷ inst op.COMPOSITE_EXTRACT (Id 2 ∷ Id 17 ∷ Id 16 ∷ Word 0 ∷ [])
    ∷ inst op.ACCESS_CHAIN (Id 19 ∷ Id 20 ∷ Id 6 ∷ Id 18 ∷ Id 17 ∷ [])
    ∷ inst op.I_ADD (Id 2 ∷ Id 22 ∷ Id 17 ∷ Id 21 ∷ [])
    ∷ inst op.STORE (Id 20 ∷ Id 22 ∷ [])
    ∷ inst op.RETURN ([])
    ∷ inst op.FUNCTION_END ([])
    ∷ inst op.EXT_INST (Id 7 ∷ Id 12 ∷ Id 1 ∷ Word 1 ∷ Id 9 ∷ Id 11 ∷ [])
    ∷ inst op.EXT_INST (Id 7 ∷ Id 24 ∷ Id 1 ∷ Word 2 ∷ Id 23 ∷ [])
    ∷ inst op.EXT_INST (Id 7 ∷ Id 25 ∷ Id 1 ∷ Word 3 ∷ Id 12 ∷ Id 18 ∷ Id 18 ∷ Id 18 ∷ Id 24 ∷ [])
    ∷ inst op.EXT_INST (Id 7 ∷ Id 32 ∷ Id 1 ∷ Word 12 ∷ Id 18 ∷ Id 30 ∷ Id 31 ∷ [])
    ∷ []

rows : rows_of (whole (lines_of body)) ≡ reflection (whole (lines_of body)) unit Storage
rows = refl

functions : AreCopied (whole (lines_of body)) unit
functions = refl

interface : InterfaceStands (whole (lines_of body)) Storage unit
interface = record { kernels = (6 ∷ []) ∷ []; constants = []; of_each_kernel = refl; of_all_constants = refl; distinct = refl; others = refl }

rules : KeepsRowRules (whole (lines_of body))
rules = record { known = refl; operands = refl; kernels = refl; entries = refl; ordinals = refl; forms = refl; uses = refl; ranges = refl; sizes = refl; one_dimension = refl; one_constants = refl; data_fills = refl; one_required = refl }

apart : KernelsKeepApart (whole (lines_of body)) unit ((6 ∷ []) ∷ [])
apart = refl

-- one for the call, and three, one, two and one for its results
cells : cells_of (at_rest body) (function_of_kernel (whole (lines_of body)) unit 0) ≡ 8
cells = refl

-- 12 nodes, of which two count an argument besides, and a pointer
measured : measure unit (copies_of unit 0) ≡ 15
measured = refl

-- ---- a launch of four items in groups of two, on eight uints

abbrev along_x : ℕ → Sizes
along_x n = record { x = n; y = 1; z = 1 }

abbrev launch : LoadedLaunch
launch = record { kernel = codes "k"; dims = 1; global = along_x 4; local = along_x 2; buffers = replicate 32 0 ∷ []; arguments = record { ordinal = 0; kind = Buffer 0 } ∷ [] }

abbrev start : Start
start = or_default (start_of body launch) no_start

abbrev seen : Surroundings
seen = record { types = types; functions = record { params = t 3 ∷ []; result = t 0; body = stores } ∷ []; launch = launch_seen launch 1; item = 2 }

abbrev here : Meeting
here = record { unit = unit; whole = whole (lines_of body); kernel = 0; variables = 6 ∷ []; buffers = 1; words = λ nodes. nodes }

-- ---- item 2 on both sides, to the end and beyond

abbrev moves : List ℕ
moves = replicate 60 0

abbrev steps : List ℕ
steps = replicate 9 0

item_ends : (source_item seen).status (after (source_item seen) moves (first_item seen 0)) ≡ Ends
item_ends = refl

invocation_ends : (invocation (given_of body start 2)).status (after (invocation (given_of body start 2)) steps (first_run (given_of body start 2))) ≡ Ends
invocation_ends = refl

-- they ask the same
ask : told (invocation (given_of body start 2)) steps (first_run (given_of body start 2)) ≡ in_words (asked_of here) (told (source_item seen) moves (first_item seen 0))
ask = refl

asked : told (invocation (given_of body start 2)) steps (first_run (given_of body start 2)) ≡ (record { function = 9; event = invocation.Write (invocation.InBuffer 0 8 32) 9 }, 0) ∷ []
asked = refl

-- in 18 steps of the item
counts : paid (source_item seen) weight moves (first_item seen 0) ≡ 18
counts = refl
