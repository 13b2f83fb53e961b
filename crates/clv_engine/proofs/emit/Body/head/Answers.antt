use Rattle.std.proofs.Common.{append_assoc}
use Rattle.clv_engine.proofs.emit.Body.head.Goals as goal

pub returns : goal.returns
returns c =
    let e1 = c.in_ok-preamble.ensures in
    let e2 = c.in_ok-strings.ensures in
    let e3 = c.in_ok-type_decorations.ensures in
    let e4 = c.in_ok-buffer_decorations.ensures in
    let e5 = c.in_ok-size_decorations.ensures in
    let e6 = c.in_ok-plain_types.ensures in
    let e7 = c.in_ok-pointer_types.ensures in
    let e8 = c.in_ok-sizes.ensures in
    simp append_assoc at (rw (e8, e7, e6, e5, e4, e3, e2, e1) at c.globals.ensures)
