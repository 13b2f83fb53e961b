use Rattle.std.proofs.Common.{◌≡◌, ℕ, List, [], ◌∷◌, ap, subst, arith}
use Rattle.clv_worlds.specs.Worlds.{opening}
use Rattle.launch_text.specs.WorkItems.{volume, sizes_of}
use Rattle.spv_meaning.specs.Schedule.{numbers_from}
use Rattle.run_machine.specs.declared.machine.Machine.{Machine}
use Rattle.run_machine.specs.Machines.{IsAt, IsReady}
use Rattle.run_machine.specs.Views.{start_by}
use Rattle.run_machine.proofs.Turning.{Held, held_start, held_ready}
use Rattle.spv_tests.proofs.run_machine_tests.begins_a_block_in_a_step.Goals as goal

-- the first of four items is ready at the opening
ready : (m : Machine) → IsAt m (opening (start_by m.start).buffers) → m.start.global ≡ 4 ∷ 1 ∷ 1 ∷ [] → IsReady m 0
ready m k e =
    let queue : numbers_from 0 (volume (start_by m.start).global) ≡ 0 ∷ numbers_from 1 3 = ap (λ s. numbers_from 0 (volume (sizes_of s))) e in
    held_ready m m 1 0 (numbers_from 1 3) 1 0 0 (subst (λ q. Held m m 1 0 q 1 0) queue (held_start m 1 0 (omega arith) k))

pub step-requires : goal.step-requires
step-requires g c = ready c.in_ok-machine.machine c.in_ok-machine.ensures.at c.in_ok-machine.ensures.sizes
