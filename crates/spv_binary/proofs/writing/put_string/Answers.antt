use Rattle.std.proofs.Common.{append_assoc, arith}
use Rattle.spv_binary.proofs.Bytes.{string_bytes}
use Rattle.spv_binary.proofs.writing.put_string.Goals as goal

pub returns : goal.returns
returns c =
    let text = c.in_ok-extend.ensures.ok in
    let end = c.string_end.ensures in
    let whole = string_bytes c.args.string.now (λ i. omega (arith, c.type_inv.string i)) in
    rw whole (simp append_assoc at (rw (text, end) at c.extend-2.ensures.ok))
