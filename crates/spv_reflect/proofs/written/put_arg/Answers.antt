use Rattle.spv_reflect.proofs.Puts.{two_put}
use Rattle.spv_reflect.proofs.written.put_arg.Goals as goal

pub returns : goal.returns
returns c = two_put _ _ _ _ _ _ _ c.in_ok-push.ensures.ok c.in_ok-push-2.ensures.ok c.in_ok-extended_line.ensures c.in_ok-buffer_line.ensures
