-- What the machine's values mean.
use Rattle.std.specs.Prelude.{ℕ, ◌+◌, ◌<◌, List, [], ◌∷◌, ◌++◌, Option, Some}
use Rattle.std.specs.Global.{Vec}
use Rattle.clv_num.specs.Numbers.{add_of}
use Rattle.launch_text.specs.Rules.{size_of}
use Rattle.spv_module.specs.Options.{◌>>=◌}
use Rattle.launch_text.specs.WorkItems.{Sizes}
use Rattle.spv_module.specs.declared.module.Inst.{Inst}
use Rattle.spv_meaning.specs.Events.{Spot, Write}
use Rattle.spv_meaning.specs.Start.{Bound, Specialised, Start}
use Rattle.spv_meaning.specs.Invocation.{Value, Scalars, PointsAt, Run, run, over, Row, Steps, Questions, Traps, Reached, Inside, Beyond, NoWay, Given, buffer_among, scalar_at}
use Rattle.vk_bind.specs.declared.start.Start.{Start as Launched}
use Rattle.vk_bind.specs.Answers.{bound_of, spec_of, start_from}
use Rattle.run_machine.specs.declared.launch.Scene.{Scene}
use Rattle.vk_bind.specs.declared.start.Bound.{Bound as LaunchedBound}
use Rattle.vk_bind.specs.declared.start.Spec.{Spec as LaunchedSpec}
use Rattle.run_machine.specs.declared.invocation.Point.{Point}
use Rattle.run_machine.specs.declared.spot.Spot.{Spot as PlainSpot}
use Rattle.run_machine.specs.declared.invocation.Value.{Value as PlainValue}
use Rattle.run_machine.specs.declared.invocation.Value.TheVariants as value
use Rattle.run_machine.specs.declared.invocation.Named.{Named}
use Rattle.run_machine.specs.declared.invocation.Frame.{Frame}
use Rattle.run_machine.specs.declared.invocation.Run.{Run as PlainRun}
use Rattle.run_machine.specs.declared.invocation.Run.TheVariants as invocation
use Rattle.run_machine.specs.declared.row.Did.{Did}
use Rattle.run_machine.specs.declared.row.Did.TheVariants as did
use Rattle.run_machine.specs.declared.chain.Reached.{Reached as PlainReached}
use Rattle.run_machine.specs.declared.chain.Reached.TheVariants as way

abbrev pub bound_by : LaunchedBound → Bound
bound_by = bound_of

abbrev pub specialised_by : LaunchedSpec → Specialised
specialised_by = spec_of

abbrev pub body_by : Launched → List Inst
body_by s = s.checked.body

abbrev pub start_by : Launched → Start
start_by = start_from

abbrev pub point_by : Point → Sizes
point_by p = record { x = p.x; y = p.y; z = p.z }

abbrev pub given_by : Scene → Given
given_by s = record { body = body_by s.start.now; start = start_by s.start.now; place = point_by s.place }

-- the buffer that a variable is bound to, and how many bytes it has
abbrev pub buffer_size : Given → ℕ → Option (ℕ × ℕ)
buffer_size g v = buffer_among g.body v g.start.bound >>= λ b. size_of g.start.buffers b >>= λ n. Some (b, n)

abbrev pub spot_of : PlainSpot → Spot
spot_of s = record { buffer = s.buffer; offset = s.offset; bits = s.bits }

abbrev pub value_by : PlainValue → Value
value_by (value.One n) = Scalars (n ∷ [])
value_by (value.Many ns) = Scalars ns.items
value_by (value.PointsAt at) = PointsAt (spot_of at)

-- The machine keeps the newest value last.
abbrev pub newest_first : List Named → List (ℕ × Value) → List (ℕ × Value)
newest_first [] vs = vs
newest_first (n ∷ ns) vs = newest_first ns ((n.id, value_by n.value) ∷ vs)

abbrev pub values_by : Frame → List (ℕ × Value)
values_by f = newest_first f.values.items []

abbrev pub frame_by : Frame → Run
frame_by f = run f.function f.place f.part.items (values_by f)

abbrev pub run_by : PlainRun → Run
run_by (invocation.At f) = frame_by f
run_by invocation.Over = over

-- the sum of the values of two ids
abbrev pub sum_at : Given → List (ℕ × Value) → ℕ → ℕ → Option ℕ
sum_at g values a b = scalar_at g values a >>= λ m. scalar_at g values b >>= λ n. Some (add_of 32 m n)

abbrev pub reached_by : PlainReached → Reached
reached_by (way.Inside type offset) = Inside type offset
reached_by way.Beyond = Beyond
reached_by way.NoWay = NoWay

abbrev pub chain_by : ℕ × PlainReached → ℕ × Reached
chain_by c = (c.0, reached_by c.1)

abbrev pub vec_items : {A : Type 0} → Vec A → List A
vec_items v = v.items

-- the offset that was come to is so small
abbrev pub IsBelow : PlainReached → ℕ → Type 0
IsBelow (way.Inside type offset) limit = offset < limit
IsBelow way.Beyond limit = Unit {0}
IsBelow way.NoWay limit = Unit {0}

-- the row of what an instruction does
abbrev pub row_of : Frame → Did → Row
row_of f did.Begins = Steps (λ _. run f.function (f.place + 1) [] [])
row_of f (did.Gives id v) = Steps (λ _. run f.function (f.place + 1) [] ((id, value_by v) ∷ values_by f))
row_of f (did.Moves n) = Steps (λ _. run f.function f.place (f.part.items ++ n ∷ []) (values_by f))
row_of f (did.Writes at n) = Questions (Write (spot_of at) n) (λ _. run f.function (f.place + 1) [] (values_by f))
row_of f did.Returns = Steps (λ _. over)
row_of f (did.Traps kind) = Traps kind
