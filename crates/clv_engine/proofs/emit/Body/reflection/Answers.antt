use Rattle.std.proofs.Common.{append_assoc}
use Rattle.clv_engine.proofs.emit.Body.reflection.Goals as goal

pub returns : goal.returns
returns c =
    let e1 = c.in_ok-line.ensures in
    let e2 = c.in_ok-line-2.ensures in
    let e3 = c.in_ok-line-3.ensures in
    simp append_assoc at (rw (e3, e2, e1) at c.line-4.ensures)
