use Rattle.std.proofs.Common.{arith}
use Rattle.launch_text.specs.Rules.{loaded}
use Rattle.vk_bind.specs.Answers.{taken_from}
use Rattle.vk_bind.proofs.Breaking.{alone_said, none_more, first_here, alone_end}
use Rattle.vk_bind.proofs.rules.first_breaking.Goals as goal

pub returns-then-breaks : goal.returns-then-breaks
returns-then-breaks c = λ buffers required. first_here _ _ _ _ (c.loop-ordinal.invariant buffers required) (alone_said (loaded c.args.launch.now buffers) (taken_from c.args.parameters.now required) c.args.rule _ _ _ c.as_slice-args.ensures c.if-breaks.ensures)

pub loop-ordinal-preserved : goal.loop-ordinal-preserved
loop-ordinal-preserved c = λ buffers required. none_more _ _ _ _ (c.loop-ordinal.invariant buffers required) (alone_said (loaded c.args.launch.now buffers) (taken_from c.args.parameters.now required) c.args.rule _ _ _ c.as_slice-args.ensures c.if-breaks.ensures)

pub returns : goal.returns
returns c = λ buffers required. alone_end (loaded c.args.launch.now buffers) c.args.parameters.now required c.args.rule _ (c.loop-ordinal.invariant buffers required) (omega arith)
