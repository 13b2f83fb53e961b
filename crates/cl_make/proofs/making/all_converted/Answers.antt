use Rattle.std.proofs.Common.{arith, ◌∙◌}
use Rattle.cl_make.proofs.Answering.{read_start, read_more, read_all, next_low, next_ready, so_far_start, so_far_more, so_far_all}
use Rattle.cl_make.proofs.Growing.{want_askable, askable_stays}
use Rattle.cl_make.proofs.Stays.{ready_stays}
use Rattle.cl_make.proofs.making.all_converted.Goals as goal

pub loop-operand-init : goal.loop-operand-init
loop-operand-init c = record {
  read = let h = c.into_iter-operand-iterator.ensures.into_iter_gives in read_start c.args.operands.items _ _ h.0 (h.1 ∙ c.args.operands.ok.0);
  done = so_far_start c.args.types.now c.args.wants.now _ c.is_table.ensures c.new-args.ensures.items;
}

pub want_at-want-requires : goal.want_at-want-requires
want_at-want-requires c =
    let d = c.loop-operand.invariant.done in
    next_low c.args.operands.items c.loop-operand.yielded _ _ c.in-Some.operand _ c.len.result c.args.wants.now c.loop-operand.invariant.read c.in-Some.ensures.steps.0 c.requires.each (omega (arith, d.counted, c.len.ensures, c.loop-operand.args.ok.0))

pub converted-requires-clause-ready : goal.converted-requires-clause-ready
converted-requires-clause-ready c =
    let d = c.loop-operand.invariant.done in
    ready_stays c.args.types.now c.loop-operand.types c.in-Some.operand c.is_table.ensures d.grows.grown (next_ready c.args.types.now c.args.operands.items c.loop-operand.yielded _ _ c.in-Some.operand _ c.loop-operand.invariant.read c.in-Some.ensures.steps.0 c.requires.ready)

pub converted-requires-clause-asked : goal.converted-requires-clause-asked
converted-requires-clause-asked c =
    let d = c.loop-operand.invariant.done in
    askable_stays c.args.types.now c.loop-operand.types c.want_at-want.result c.is_table.ensures d.grows.grown (want_askable c.args.types.now c.args.wants.now c.len.result c.want_at-want.result c.requires.asked c.want_at-want.ensures)

pub loop-operand-preserved : goal.loop-operand-preserved
loop-operand-preserved c =
    let d = c.loop-operand.invariant.done in
    record {
      read = read_more _ _ _ _ _ _ _ c.loop-operand.invariant.read c.in-Some.ensures.steps.0 c.in-Some.ensures.steps.1;
      done = so_far_more c.args.types.now c.loop-operand.types c.converted.new.types c.args.wants.now c.loop-operand.yielded c.in-Some.operand c.loop-operand.args.items c.push.new.self.items c.in_ok-converted.field-0 c.len.result c.want_at-want.result
          d c.converted.ensures.grows (omega (arith, d.counted, c.len.ensures, c.loop-operand.args.ok.0)) c.want_at-want.ensures c.in_ok-converted.ensures.converted c.in_ok-push.ensures.items;
    }

pub returns-clause-converted : goal.returns-clause-converted
returns-clause-converted c =
    so_far_all c.args.types.now c.loop-operand.types c.args.wants.now c.args.operands.items c.loop-operand.yielded c.loop-operand.args.items c.loop-operand.invariant.done
    (read_all _ _ _ _ c.loop-operand.invariant.read c.in-None.ensures.steps.0) c.requires.each

pub returns-clause-grows : goal.returns-clause-grows
returns-clause-grows c = c.loop-operand.invariant.done.grows
