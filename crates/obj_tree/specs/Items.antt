-- A work-item as a machine, which makes one task after another.
use Rattle.std.specs.Prelude.{ℕ, List, [], ◌∷◌, Option, Some, None}
use Rattle.clv_steps.specs.Machines.{Status, Runs, Asks, Ends, Fails, Machine}
use Rattle.cl_tree.specs.declared.event.NodeId.{NodeId}
use Rattle.cl_common.specs.Events.{Asked}
use Rattle.obj_tree.specs.Tasks.{Act, Task, Step, Quiet, instructions}
use Rattle.obj_tree.specs.States.{Surroundings, Item}
use Rattle.obj_tree.specs.Effects.{Effect, Goes, Picks, Questions, Undefined, effect_of}

abbrev pub act_of : Task → Act
act_of (Step price act) = act
act_of (Quiet act) = act

abbrev pub effect_by : Surroundings → Item → List Task → Option Effect
effect_by s i [] = None
effect_by s i (t ∷ ts) = Some (effect_of s (act_of t) (record i { todo = ts }))

-- what comes of the next task; None where there is none, and the item has ended
abbrev pub next_effect : Surroundings → Item → Option Effect
next_effect s i = effect_by s i i.todo

abbrev pub status_by : List NodeId → Option Effect → Status Asked
status_by calls None = Ends
status_by calls (Some (Goes to)) = Runs
status_by calls (Some (Picks bits to)) = Runs
status_by calls (Some (Questions e to)) = Asks (record { calls = calls; event = e })
status_by calls (Some Undefined) = Fails

abbrev pub move_by : ℕ → Item → Option Effect → Item
move_by x i (Some (Goes to)) = to
move_by x i (Some (Picks bits to)) = to x
move_by x i (Some (Questions e to)) = to x
move_by x i _ = i

-- Each task is one move. Its number is the answer to what is asked, or the unspecified value.
abbrev pub object_item : Surroundings → Machine Item Asked
object_item s = record { status = λ i. status_by i.frame.calls (next_effect s i); next = λ x i. move_by x i (next_effect s i) }

-- of how many bits the unspecified value is that the next move takes; None where it takes none
abbrev pub picks_by : Option Effect → Option ℕ
picks_by (Some (Picks bits to)) = Some bits
picks_by _ = None

abbrev pub picks : Surroundings → Item → Option ℕ
picks s i = picks_by (next_effect s i)

-- the steps that a move is: one or none
abbrev pub weight_by : List Task → ℕ
weight_by (Step price act ∷ ts) = 1
weight_by _ = 0

abbrev pub weight : Item → ℕ
weight i = weight_by i.todo

-- What the step of the next move may cost a module; 0 for a move that is no step.
abbrev pub cost_by : List Task → ℕ
cost_by (Step price act ∷ ts) = instructions price
cost_by _ = 0

abbrev pub cost : Item → ℕ
cost i = cost_by i.todo
