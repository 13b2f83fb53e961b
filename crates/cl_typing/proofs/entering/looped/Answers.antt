use Rattle.std.proofs.Common.{sym, subst}
use Rattle.cl_builtins.specs.Found.{IsKnown}
use Rattle.cl_typing.proofs.entering.looped.Goals as goal

pub returns-clause-known : goal.returns-clause-known
returns-clause-known c = subst (λ q. IsKnown c.args.types.now q.result) (sym c.in_loop.ensures) c.requires
