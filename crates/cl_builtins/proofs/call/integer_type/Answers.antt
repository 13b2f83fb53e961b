use Rattle.cl_builtins.proofs.Growth.{keeps_twice}
use Rattle.cl_builtins.proofs.call.integer_type.Goals as goal

pub returns-clause-kept : goal.returns-clause-kept
returns-clause-kept c = keeps_twice c.args.types.now c.intern.new.types c.intern-2.new.types c.intern.ensures.kept c.intern-2.ensures.kept
