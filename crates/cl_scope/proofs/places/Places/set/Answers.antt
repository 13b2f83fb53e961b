use Rattle.std.proofs.Common.{rules}
use Rattle.cl_scope.proofs.Mapped.{moved}
use Rattle.cl_scope.proofs.places.Places.set.Goals as goal

pub returns-in-Some : goal.returns-in-Some
returns-in-Some c = λ other. moved c.args.self.now.by_name (c.get_mut.follows.lender c.args.place) c.args.name.now other c.args.place ((c.get_mut.follows.holds c.args.place).3 (search rules))
