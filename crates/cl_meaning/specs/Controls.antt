-- Loops and switches around a statement, as the parts of control see them.
use Rattle.std.specs.Prelude.{ℕ, suc, Bool, true, false, List, [], ◌∷◌, Option, Some, None}
use Rattle.cl_meaning.specs.declared.task.Task.{Task as PlainTask}
use Rattle.cl_meaning.specs.declared.item.Around.{Around as PlainAround}
use Rattle.cl_meaning.specs.declared.item.Around.TheVariants as around
use Rattle.cl_meaning.specs.Tasks.{Task}
use Rattle.cl_meaning.specs.States.{Around, InLoop, InSwitch}

-- what is done behind a loop or a switch
abbrev pub behind_of : PlainAround → List PlainTask
behind_of (around.InLoop test next body behind) = behind
behind_of (around.InSwitch behind) = behind

-- what a loop does next; a switch does nothing
abbrev pub again_of : Around → List Task
again_of (InLoop again behind) = again
again_of (InSwitch behind) = []

abbrev pub is_loop : Option PlainAround → Bool
is_loop None = false
is_loop (Some (around.InLoop test next body behind)) = true
is_loop (Some (around.InSwitch behind)) = false

-- how many switches there are inside of the innermost loop, where there is a loop, and k more
abbrev pub switches_from : ℕ → List PlainAround → Option ℕ
switches_from k [] = None
switches_from k (around.InLoop test next body behind ∷ rest) = Some k
switches_from k (around.InSwitch behind ∷ rest) = switches_from (suc k) rest
