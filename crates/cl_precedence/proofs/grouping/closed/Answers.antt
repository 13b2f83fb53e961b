use Rattle.cl_precedence.proofs.Last.{last_smaller}
use Rattle.cl_precedence.proofs.Standing.{keeps_more}
use Rattle.cl_precedence.proofs.grouping.closed.Goals as goal

pub loop-left-smaller : goal.loop-left-smaller
loop-left-smaller g c = last_smaller g.N.Operand.level c.loop-left.waiting.items c.last_at_least.new.waiting.items c.in-Some.left c.in-Some.operator c.args.level c.in-Some.ensures

pub loop-left-preserved : goal.loop-left-preserved
loop-left-preserved g c =
    keeps_more g.N.Operand.level g.N.Operand.Joins c.args.waiting.now.items c.loop-left.waiting.items c.last_at_least.new.waiting.items
    c.args.right c.loop-left.here c.in_ok-here.here c.in-Some.left c.in-Some.operator c.args.level c.loop-left.invariant c.in-Some.ensures c.in_ok-here.ensures
