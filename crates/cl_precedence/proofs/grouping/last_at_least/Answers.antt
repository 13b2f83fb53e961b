use Rattle.std.proofs.Common.{◌-◌, ◌∙◌, ap, take, arith}
use Rattle.cl_precedence.proofs.Last.{last_read, last_loose, none_loose, last_taken}
use Rattle.cl_precedence.proofs.grouping.last_at_least.Goals as goal
use Rattle.cl_precedence.proofs.grouping.last_at_least.Goals.{in_default-via-in-Some+else-level, in_default-via-in_default}

pub returns-in-Some : goal.returns-in-Some
returns-in-Some g c =
    last_taken g.N.Operand.level c.args.waiting.now.items c.pop.new.self.items c.in-Some.last.now c.pop.result c.args.level (last_read _ _ _ c.in-Some.ensures.value c.deref.ensures.value)
    (rw (← c.level.ensures) c.if-level.true) c.pop.ensures.items (omega (arith, c.pop.ensures.len, c.args.waiting.now.ok.0, c.pop.new.self.ok.0)) (c.pop.ensures.rest ∙ ap (λ z. take (z - 1) c.args.waiting.now.items) c.args.waiting.now.ok.0)

pub returns-in_default : goal.returns-in_default
returns-in_default g c =
    elim c.in_default.branch [
      | in_default-via-in-Some+else-level w ↦ last_loose g.N.Operand.level c.args.waiting.now.items w.in-Some.last.now c.args.level (last_read _ _ _ w.in-Some.ensures.value c.deref.ensures.value)
          (rw (← w.level.ensures) w.if-level.false)
      | in_default-via-in_default w ↦ none_loose g.N.Operand.level c.args.waiting.now.items c.args.level (last_read _ _ _ w.in_default.ensures.value c.deref.ensures.value)
    ]
