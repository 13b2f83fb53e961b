use Rattle.std.proofs.Common.{◌+◌, ◌-◌, ◌/◌, ap, ◌∙◌, arith}
use Rattle.cl_common.specs.Bytes.{with_number}
use Rattle.cl_meaning.specs.Views.{bytes_by}
use Rattle.cl_meaning.proofs.Privates.{next_byte}
use Rattle.cl_meaning.proofs.memory.put_number.Goals as goal

pub loop-k-preserved : goal.loop-k-preserved
loop-k-preserved c =
    ap (with_number (c.args.at + (c.loop-k.k + 1)) (c.args.count - (c.loop-k.k + 1)) (c.loop-k.left / 256)) c.in_ok-put_byte.ensures
    ∙ next_byte (c.args.at + c.loop-k.k) (c.args.at + (c.loop-k.k + 1)) (c.args.count - (c.loop-k.k + 1)) (c.args.count - c.loop-k.k) c.loop-k.left (bytes_by c.loop-k.bytes.items) (omega arith) (omega (arith, c.loop-k-test.true))
    ∙ c.loop-k.invariant
