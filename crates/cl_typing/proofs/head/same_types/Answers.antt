use Rattle.std.proofs.Common.{rules}
use Rattle.cl_typing.proofs.Heads.{unequal}
use Rattle.cl_typing.proofs.head.same_types.Goals as goal

pub returns-then-ts-us : goal.returns-then-ts-us
returns-then-ts-us c = unequal c.args.ts.now c.args.us.now (λ e. search rules)
