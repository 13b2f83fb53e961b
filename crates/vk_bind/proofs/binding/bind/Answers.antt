use Rattle.std.proofs.Common.{arith, ap, length}
use Rattle.vk_bind.proofs.Starting.{few_instructions, few_buffers}
use Rattle.vk_bind.proofs.binding.bind.Goals as goal

pub accepted-requires-clause-few : goal.accepted-requires-clause-few
accepted-requires-clause-few c = let few = few_instructions c.module.result.now c.module.ensures.spelled in let same = ap length c.as_slice-body.ensures in omega (arith, few, same)

pub overflow_cast-result : goal.overflow_cast-result
overflow_cast-result c = let few = few_buffers c.args.launch.now c.args.buffers c.requires.readable c.requires.loaded in omega (arith, few)
