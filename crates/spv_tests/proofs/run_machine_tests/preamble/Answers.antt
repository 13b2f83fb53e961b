use Rattle.std.proofs.Common.{append_assoc}
use Rattle.spv_tests.proofs.run_machine_tests.preamble.Goals as goal

pub returns : goal.returns
returns c =
    let e1 = c.in_ok-push.ensures in
    let e2 = c.in_ok-extension.ensures in
    let e3 = c.in_ok-import.ensures in
    let e4 = c.in_ok-push-2.ensures in
    simp append_assoc at (rw (e4, e3, e2, e1) at c.entry_point.ensures)
