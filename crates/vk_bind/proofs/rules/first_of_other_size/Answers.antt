use Rattle.std.proofs.Common.{None, arith}
use Rattle.launch_text.specs.Rules.{loaded}
use Rattle.vk_bind.proofs.Breaking.{summed_more, sizes_end}
use Rattle.vk_bind.proofs.rules.first_of_other_size.Goals as goal

pub sum_after-requires-clause-sum : goal.sum_after-requires-clause-sum
sum_after-requires-clause-sum c = (c.loop-ordinal.invariant None).is

pub sum_after-requires-clause-within : goal.sum_after-requires-clause-within
sum_after-requires-clause-within c = (c.loop-ordinal.invariant None).within

pub loop-ordinal-preserved : goal.loop-ordinal-preserved
loop-ordinal-preserved c = λ required. summed_more _ _ _ _ (c.loop-ordinal.invariant required).none (c.in-Some.ensures required)

pub returns : goal.returns
returns c = λ required. sizes_end (loaded c.args.launch.now c.args.buffers.now) c.args.parameters.now required _ (c.loop-ordinal.invariant required).none (omega arith)
