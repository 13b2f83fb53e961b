-- What the program's values mean: trees by their folds, and tasks, private memory and items by what they are made of.
use Rattle.std.specs.Prelude.{◌≡◌, ℕ, ◌+◌, ◌&&◌, Bool, true, false, if◌then◌else◌, List, [], ◌∷◌, ◌++◌, map, Option, Some, None, option_map, slice_get}
use Rattle.cl_types.specs.declared.types.ClType.{ClType}
use Rattle.cl_types.specs.declared.builtin.Builtin.{Builtin}
use Rattle.cl_types.specs.declared.builtin.Builtin.TheVariants as builtin
use Rattle.cl_tree.specs.declared.event.Event.{Event}
use Rattle.cl_tree.specs.declared.event.Answer.{Answer}
use Rattle.cl_tree.specs.declared.tree.Tree.{Tree}
use Rattle.cl_tree.specs.declared.unit.Variable.{Variable}
use Rattle.cl_tree.specs.declared.statement.TStmt.{TStmt}
use Rattle.cl_tree.specs.declared.statement.Section.{Section as TSection}
use Rattle.cl_tree.specs.declared.statement.TStmtNode.TheFolds.{fold-TStmt, fold-Section}
use Rattle.launch_text.specs.declared.launch.LaunchSizes.{LaunchSizes}
use Rattle.cl_common.specs.Bytes.{Bytes}
use Rattle.cl_common.specs.Operators.{cut}
use Rattle.cl_meaning.specs.declared.code.Expr.{Expr as PlainExpr}
use Rattle.cl_meaning.specs.declared.code.Expr.TheOpen.{Expr-F}
use Rattle.cl_meaning.specs.declared.code.Expr.TheFolds.{fold-Expr}
use Rattle.cl_meaning.specs.declared.code.Stmt.{Stmt as PlainStmt}
use Rattle.cl_meaning.specs.declared.code.Section.{Section as PlainSection}
use Rattle.cl_meaning.specs.declared.code.Stmt.TheOpen.{Stmt-F, Section-F}
use Rattle.cl_meaning.specs.declared.code.Stmt.TheOpen as stmt
use Rattle.cl_meaning.specs.declared.code.Stmt.TheFolds.{fold-Stmt, fold-Section as fold-PlainSection}
use Rattle.cl_meaning.specs.declared.code.Code.{Code as PlainCode}
use Rattle.cl_meaning.specs.declared.task.Act.{Act as PlainAct}
use Rattle.cl_meaning.specs.declared.task.Act.TheVariants as act
use Rattle.cl_meaning.specs.declared.task.Task.{Task as PlainTask}
use Rattle.cl_meaning.specs.declared.task.Task.TheVariants as task
use Rattle.cl_meaning.specs.declared.task.Mark.{Mark}
use Rattle.cl_meaning.specs.declared.task.Mark.TheVariants as mark
use Rattle.cl_meaning.specs.declared.memory.Private.{Private}
use Rattle.cl_meaning.specs.declared.memory.Memory.{Memory as PlainMemory}
use Rattle.cl_meaning.specs.declared.item.Around.{Around as PlainAround}
use Rattle.cl_meaning.specs.declared.item.Around.TheVariants as around
use Rattle.cl_meaning.specs.declared.item.Caller.{Caller as PlainCaller}
use Rattle.cl_meaning.specs.declared.item.Item.{Item as PlainItem}
use Rattle.cl_meaning.specs.declared.item.Surroundings.{Surroundings as PlainSurroundings}
use Rattle.cl_meaning.specs.declared.did.Then.{Then}
use Rattle.cl_meaning.specs.declared.did.Then.TheVariants as after
use Rattle.cl_meaning.specs.declared.did.Did.{Did}
use Rattle.cl_meaning.specs.declared.did.Did.TheVariants as did
use Rattle.cl_meaning.specs.Code.{Placed, SectionAt, node_over, section_over, stmt_over, code_of, Expr, Exprs, Tree as TreeOf, NoExpr, AndExpr, Stmt, Stmts, Block, Declare, Initialise, Evaluate, If, While, Do, For, Switch, Break, Continue, Return, Empty, NoStmt, AndStmt, Sections, NoSection, AndSection, Code}
use Rattle.cl_meaning.specs.Values.{Name, same_name, Pointer, is_inside, Scalar, Pattern, Points, Entry, Value}
use Rattle.cl_meaning.specs.Operations.{Push}
use Rattle.cl_meaning.specs.declared.access.Part.{Part as PlainPart}
use Rattle.cl_meaning.specs.Tasks.{Act, Task, Step, Quiet, quiet}
use Rattle.cl_meaning.specs.Tasks as tasks
use Rattle.cl_meaning.specs.Expressions.{uses, may_drop}
use Rattle.cl_meaning.specs.Statements.{test_tasks}
use Rattle.cl_meaning.specs.States.{Surroundings, Memory, Around, InLoop, InSwitch, Caller, Item}
use Rattle.cl_meaning.specs.Effects.{Part, is_part_of, Effect, Goes, Picks, Questions, Undefined, with_stack, appended}

-- ---- trees

abbrev pub exprs_from : List Expr → Exprs
exprs_from [] = NoExpr
exprs_from (e ∷ es) = AndExpr e (exprs_from es)

abbrev pub expr_step : Expr-F Expr → Expr
expr_step e = TreeOf e.node e.ty e.number (exprs_from e.operands.items)

abbrev pub expr_by : PlainExpr → Expr
expr_by = fold-Expr Expr expr_step

abbrev pub stmts_from : List Stmt → Stmts
stmts_from [] = NoStmt
stmts_from (s ∷ ss) = AndStmt s (stmts_from ss)

-- sections, each before those behind it
abbrev pub sections_from : List (Sections → Sections) → Sections
sections_from [] = NoSection
sections_from (s ∷ ss) = s (sections_from ss)

abbrev pub option_by : Option PlainExpr → Option Expr
option_by = option_map expr_by

abbrev pub stmt_step : Stmt-F Stmt (Sections → Sections) → Stmt
stmt_step (stmt.Block ss) = Block (stmts_from ss.items)
stmt_step (stmt.Declare k) = Declare k
stmt_step (stmt.Initialise k e) = Initialise k (expr_by e)
stmt_step (stmt.Evaluate e) = Evaluate (expr_by e)
stmt_step (stmt.If test on_true on_false) = If (expr_by test) (stmts_from on_true.items) (stmts_from on_false.items)
stmt_step (stmt.While test body) = While (expr_by test) (stmts_from body.items)
stmt_step (stmt.Do body test) = Do (stmts_from body.items) (expr_by test)
stmt_step (stmt.For declarations first test next body) = For (stmts_from declarations.items) (option_by first) (expr_by test) (option_by next) (stmts_from body.items)
stmt_step (stmt.Switch on sections) = Switch (expr_by on) (sections_from sections.items)
stmt_step stmt.Break = Break
stmt_step stmt.Continue = Continue
stmt_step (stmt.Return e) = Return (option_by e)
stmt_step stmt.Empty = Empty

abbrev pub section_step : Section-F Stmt (Sections → Sections) → Sections → Sections
section_step s rest = AndSection s.labels (stmts_from s.body.items) rest

abbrev pub stmt_by : PlainStmt → Stmt
stmt_by = fold-Stmt Stmt (Sections → Sections) stmt_step section_step

abbrev pub section_by : PlainSection → Sections → Sections
section_by = fold-PlainSection Stmt (Sections → Sections) stmt_step section_step

abbrev pub stmts_by : List PlainStmt → Stmts
stmts_by ss = stmts_from (map stmt_by ss)

abbrev pub sections_by : List PlainSection → Sections
sections_by ss = sections_from (map section_by ss)

abbrev pub code_by : PlainCode → Code
code_by c = record { params = c.params; result = c.result; body = stmt_by c.body }

-- ---- tasks

abbrev pub act_by : PlainAct → Act
act_by act.Reach = tasks.Reach
act_by act.Pass = tasks.Pass
act_by (act.Operate op) = tasks.Operate op
act_by (act.Variable is_param k size) = tasks.Variable is_param k size
act_by (act.Recall is_param k) = tasks.Recall is_param k
act_by (act.Point is_param k) = tasks.Point is_param k
act_by (act.Read ty k) = tasks.Read ty k
act_by (act.Write ty k) = tasks.Write ty k
act_by (act.Component op operands k) = tasks.Component op operands k
act_by (act.Enter function number args least) = tasks.Enter function number args least
act_by act.Leave = tasks.Leave
act_by (act.WorkItem f) = tasks.WorkItem f
act_by (act.Wait number) = tasks.Wait number
act_by (act.Atomic op signed args) = tasks.Atomic op signed args
act_by (act.Unless decided other) = tasks.Unless decided (expr_by other.now)
act_by (act.Choose on_true on_false) = tasks.Choose (expr_by on_true.now) (expr_by on_false.now)
act_by (act.Unset k) = tasks.Unset k
act_by (act.Set k ty) = tasks.Set k ty
act_by (act.Decide on_true on_false) = tasks.Decide (stmts_by on_true.now) (stmts_by on_false.now)
act_by (act.SelectSection sections) = tasks.SelectSection (sections_by sections.now)
act_by (act.Test body) = tasks.Test (stmts_by body.now)
act_by (act.Loop test next body) = tasks.Loop (expr_by test.now) (option_map (λ e. expr_by e.now) next) (stmts_by body.now)
act_by (act.LoopOnce body test) = tasks.LoopOnce (stmts_by body.now) (expr_by test.now)
act_by act.Break = tasks.Break
act_by act.Continue = tasks.Continue

abbrev pub task_by : PlainTask → Task
task_by (task.Step a) = Step (act_by a)
task_by (task.Quiet a) = Quiet (act_by a)

abbrev pub tasks_by : List PlainTask → List Task
tasks_by = map task_by

abbrev pub marked : Mark → Act → Task
marked mark.Step = Step
marked mark.Quiet = Quiet

-- ---- private memory

-- bytes by their offsets: none where there is none, or it is unset
abbrev pub byte_in : Option (Option ℕ) → Option ℕ
byte_in None = None
byte_in (Some b) = b

abbrev pub bytes_by : List (Option ℕ) → Bytes
bytes_by bs at = byte_in (slice_get bs at)

abbrev pub bytes_in : List Private → Name → Bytes
bytes_in [] n = bytes_by []
bytes_in (o ∷ os) n = if same_name o.name n then bytes_by o.bytes.items else bytes_in os n

abbrev pub pointers_in : List Private → Name → Option Pointer
pointers_in [] n = None
pointers_in (o ∷ os) n = if same_name o.name n then o.pointer else pointers_in os n

abbrev pub memory_by : PlainMemory → Memory
memory_by m = record { bytes = bytes_in m.objects.items; pointers = pointers_in m.objects.items }

-- ---- items

module _ (cs : List ClType) where
  abbrev pub again_by : Expr → Option Expr → Stmts → List Task
  again_by test next body = may_drop cs next ++ test_tasks cs test body

  abbrev pub around_by : PlainAround → Around
  around_by (around.InLoop test next body behind) = InLoop (again_by (expr_by test.now) (option_map (λ e. expr_by e.now) next) (stmts_by body.now)) (tasks_by behind)
  around_by (around.InSwitch behind) = InSwitch (tasks_by behind)

  abbrev pub caller_by : PlainCaller → Caller
  caller_by c = record { todo = tasks_by c.todo; around = map around_by c.around; frame = c.frame; least = c.least }

  abbrev pub item_by : PlainItem → Item
  item_by i = record { todo = tasks_by i.todo; stack = i.stack; memory = memory_by i.memory; frame = i.frame; around = map around_by i.around; callers = map caller_by i.callers }

abbrev pub surroundings_by : PlainSurroundings → Surroundings
surroundings_by s = record { types = s.types.now; functions = map code_by s.functions.now; launch = s.launch.now; item = s.item }

-- ---- what a task came to

abbrev pub appended_on : ℕ → Item → List Entry → Item
appended_on n i (Value v ∷ st) = appended v st i n
appended_on n i st = i

-- what is done with an answer
abbrev pub answered_by : Then → ℕ → Item → Item
answered_by after.Nothing x i = i
answered_by (after.Append bits) x i = appended_on (cut bits x) i i.stack
answered_by (after.Give bits) x i = with_stack (Value (Pattern (cut bits x) ∷ []) ∷ i.stack) i

abbrev pub PicksFor : ℕ → (ℕ → Item) → Effect → Type 0
PicksFor n on (Picks bits to) = (bits ≡ n) × ((x : ℕ) → to x ≡ on x)
PicksFor n on _ = ⊥

abbrev pub QuestionsFor : Event → (ℕ → Item) → Effect → Type 0
QuestionsFor e on (Questions event to) = (event ≡ e) × ((x : ℕ) → to x ≡ on x)
QuestionsFor e on _ = ⊥

-- This is what an effect comes to, and where the item then stands, but for the answer.
abbrev pub Comes : Effect → Did → Item → Type 0
Comes e did.Went i = e ≡ Goes i
Comes e (did.Picks bits how) i = PicksFor bits (λ x. answered_by how x i) e
Comes e (did.Asks event how) i = QuestionsFor event (λ x. answered_by how x i) e
Comes e did.Undefined i = e ≡ Undefined

-- ---- in what the contracts of parts speak

-- what `return` does behind its step
abbrev pub returned_by : List ClType → Option Expr → List Task
returned_by cs None = quiet (Push (Value [])) ∷ Quiet tasks.Leave ∷ []
returned_by cs (Some e) = uses cs e ++ Quiet tasks.Leave ∷ []

abbrev pub pointer_in : List Scalar → Option Pointer
pointer_in (Points p ∷ []) = Some p
pointer_in _ = None

abbrev pub number_in : List Scalar → Option ℕ
number_in (Pattern n ∷ []) = Some n
number_in _ = None

-- the object of a name
abbrev pub object_in : List Private → Name → Option Private
object_in [] n = None
object_in (o ∷ os) n = if same_name o.name n then Some o else object_in os n

-- where a scalar stands of what is accessed, and its bits
abbrev pub reached_by : ℕ → Part → Pointer → Option (ℕ × ℕ)
reached_by extent part p = if is_inside extent p && is_part_of extent part then Some (p.offset + part.far, part.bits) else None

abbrev pub part_by : PlainPart → Part
part_by p = record { far = p.far; bits = p.bits }

-- the work-item functions of a dimension
abbrev pub beyond : Builtin → ℕ
beyond builtin.GetGlobalSize = 1
beyond builtin.GetLocalSize = 1
beyond builtin.GetNumGroups = 1
beyond _ = 0

abbrev pub is_dimensional : Builtin → Bool
is_dimensional builtin.GetWorkDim = false
is_dimensional _ = true

abbrev pub values_of : List Answer → List ℕ
values_of = map (λ a. a.value)

abbrev pub surroundings_in : Tree → LaunchSizes → ℕ → Surroundings
surroundings_in t launch item = record { types = t.types; functions = map (code_of t.types) t.functions; launch = launch; item = item }

-- statements and sections of typed trees, placed
abbrev pub placed : List ClType → List Variable → TStmt → Placed
placed cs vars = fold-TStmt Placed (ℕ → SectionAt) Placed (node_over cs vars) (section_over cs vars) (stmt_over cs vars)

abbrev pub section_at : List ClType → List Variable → TSection → ℕ → SectionAt
section_at cs vars = fold-Section Placed (ℕ → SectionAt) Placed (node_over cs vars) (section_over cs vars) (stmt_over cs vars)

abbrev pub IsSectionAt : (Sections → Sections) → ℕ → SectionAt → Type 0
IsSectionAt section behind at = (section ≡ AndSection at.labels at.body) × (behind ≡ at.behind)

-- a tree and the number behind it
abbrev pub IsPair : {A : Type 0} → A → ℕ → A × ℕ → Type 0
IsPair x n p = (x ≡ p.0) × (n ≡ p.1)
