use Rattle.std.proofs.Common.{[], length, subst, sym, ap, arith}
use Rattle.cl_precedence.specs.Waiting.{Held}
use Rattle.cl_precedence.proofs.Rows.{read_more, read_all, next_held, last_held}
use Rattle.cl_precedence.proofs.Standing.{held_first}
use Rattle.cl_precedence.proofs.grouping.grouped.Goals as goal

pub loop-operator-init : goal.loop-operator-init
loop-operator-init g c = record {
  read = record { split = sym c.into_iter-operator-iterator.ensures.into_iter_gives.0; counted = let h = c.into_iter-operator-iterator.ensures.into_iter_gives in omega (arith, ap length h.0, h.1, c.args.rest.ok.0) };
  held = λ l. subst (λ z. Held g.N.Operand.level g.N.Operand.Joins c.args.first [] z c.args.first l) (sym c.new-waiting.ensures.items)
      (held_first g.N.Operand.level g.N.Operand.Joins c.args.first l);
}

pub loop-operator-preserved : goal.loop-operator-preserved
loop-operator-preserved g c = record {
  read = read_more _ _ _ _ _ _ _ c.loop-operator.invariant.read c.in-Some.ensures.steps.0 c.in-Some.ensures.steps.1;
  held = λ l. next_held g.N.Operand.level g.N.Operand.Joins c.args.first c.loop-operator.yielded c.loop-operator.waiting.items c.closed.new.waiting.items c.push.new.self.items
      c.loop-operator.here c.in_ok-here.here (c.in-Some.operator, c.in-Some.next) c.level.result l c.level.ensures (c.loop-operator.invariant.held c.level.result) c.in_ok-here.ensures.held c.in_ok-here.ensures.loose c.in_ok-push.ensures.items;
}

pub returns : goal.returns
returns g c =
    last_held g.N.Operand.level g.N.Operand.Joins c.args.first c.args.rest.items c.loop-operator.yielded c.loop-operator.waiting.items c.closed-2.new.waiting.items
    c.loop-operator.here c.closed-2.result (c.loop-operator.invariant.held 0) (read_all _ _ _ _ c.loop-operator.invariant.read c.in-None.ensures.steps.0) c.closed-2.ensures.held c.closed-2.ensures.loose
