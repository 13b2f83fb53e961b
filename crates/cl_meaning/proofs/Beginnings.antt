-- What an item begins with.
use Rattle.std.proofs.Common.{◌≡◌, ℕ, ◌+◌, ◌<◌, ◌≤◌, Some, List, [], ◌∷◌, ◌++◌, length, get_or, drop, map, slice_get, sym, ap, ◌∙◌, add-one}
use Rattle.std.specs.Prelude.{option_map}
use Rattle.std.proofs.lemmas.List.{append-nil, drop_more, drop_all, map-append}
use Rattle.std.proofs.lemmas.Option.{slice_get-map}
use Rattle.cl_types.specs.declared.types.ClType.{ClType}
use Rattle.launch_text.specs.declared.launch.ArgSize.{ArgSize}
use Rattle.cl_meaning.specs.declared.code.Code.{Code as PlainCode}
use Rattle.cl_meaning.specs.declared.memory.Memory.{Memory as PlainMemory}
use Rattle.cl_meaning.specs.declared.task.Act.TheVariants as act
use Rattle.cl_meaning.specs.declared.task.Task.{Task as PlainTask}
use Rattle.cl_meaning.specs.declared.task.Task.TheVariants as task
use Rattle.cl_meaning.specs.declared.item.Item.{Item as PlainItem}
use Rattle.cl_meaning.specs.declared.item.Surroundings.{Surroundings as PlainSurroundings}
use Rattle.cl_meaning.specs.Tasks.{Step, Pass}
use Rattle.cl_meaning.specs.Statements.{function_tasks}
use Rattle.cl_meaning.specs.States.{Memory, Item}
use Rattle.cl_meaning.specs.Source.{begun, first_item, unset, with_argument, with_arguments}
use Rattle.cl_meaning.specs.Views.{code_by, item_by, memory_by, surroundings_by, task_by, tasks_by}

-- ---- the arguments: what is left makes the whole

pub record ArgumentsTo (args : List ArgSize) (k : ℕ) (m : Memory) : Type 0 where
  pub rest : with_arguments k (drop k args) m ≡ with_arguments 0 args unset

pub arguments_begin : (args : List ArgSize) (m : Memory) → m ≡ unset → ArgumentsTo args 0 m
arguments_begin args m e = record { rest = ap (with_arguments 0 args) e }

pub arguments_more : (args : List ArgSize) (k : ℕ) (m new : Memory) (a : ArgSize) → ArgumentsTo args k m → k < length args → a ≡ get_or args k a → new ≡ with_argument k a m → ArgumentsTo args (k + 1) new
arguments_more args k m new a to h is made = record {
  rest =
      ap (with_arguments (k + 1) (drop (k + 1) args)) made
      ∙ ap (λ z. with_arguments z (drop (k + 1) args) (with_argument k a m)) (add-one k)
      ∙ ap (λ z. with_arguments k (z ∷ drop (k + 1) args) m) is
      ∙ sym (ap (λ z. with_arguments k z m) (drop_more args k a h))
      ∙ to.rest;
}

pub arguments_end : (args : List ArgSize) (k : ℕ) (m : Memory) → ArgumentsTo args k m → length args ≤ k → m ≡ with_arguments 0 args unset
arguments_end args k m to h = sym (ap (λ z. with_arguments k z m) (drop_all k args h)) ∙ to.rest

pub ruleset all_arguments = (arguments_begin, arguments_more, arguments_end)

-- ---- the item

-- an item with nothing to do that has a memory, and to which the tasks of the kernel are given behind a step
pub item_begun : (s : PlainSurroundings) (kernel : ℕ) (code : PlainCode) (idle : PlainItem) (m : PlainMemory) (before tasks todo : List PlainTask) (cs : List ClType) → slice_get s.functions.now kernel ≡ Some code → ((ts : List ClType) → item_by ts idle ≡ record { todo = []; stack = []; memory = memory_by m; frame = record { function = kernel; calls = [] }; around = []; callers = [] }) → memory_by m ≡ with_arguments 0 s.launch.now.args unset → before ≡ task.Step act.Pass ∷ [] → tasks_by tasks ≡ tasks_by before ++ function_tasks cs (code_by code) → cs ≡ s.types.now → todo ≡ tasks ++ idle.todo → item_by s.types.now (record idle { todo = todo }) ≡ first_item (surroundings_by s) kernel
item_begun s kernel code idle m before tasks todo cs there is args one all types e =
    let rest : tasks_by idle.todo ≡ [] = ap (λ i. i.todo) (is s.types.now) in
    let made : tasks_by todo ≡ Step Pass ∷ function_tasks s.types.now (code_by code) =
    ap tasks_by e
    ∙ map-append task_by tasks idle.todo
    ∙ ap (λ z. tasks_by tasks ++ z) rest
    ∙ append-nil (tasks_by tasks)
    ∙ all
    ∙ ap (λ z. tasks_by z ++ function_tasks cs (code_by code)) one
    ∙ ap (λ z. Step Pass ∷ function_tasks z (code_by code)) types in
    let found : slice_get (map code_by s.functions.now) kernel ≡ Some (code_by code) = slice_get-map code_by s.functions.now kernel ∙ ap (option_map code_by) there in
    ap (λ (i : Item). record i { todo = tasks_by todo }) (is s.types.now)
    ∙ ap {B = Item} (λ z. record { todo = z; stack = []; memory = memory_by m; frame = record { function = kernel; calls = [] }; around = []; callers = [] }) made
    ∙ ap {B = Item} (λ z. record { todo = Step Pass ∷ function_tasks s.types.now (code_by code); stack = []; memory = z; frame = record { function = kernel; calls = [] }; around = []; callers = [] }) args
    ∙ sym (ap (begun (surroundings_by s) kernel) found)
