use Rattle.std.proofs.Common.{◌≡◌, drop}
use Rattle.cl_scope.specs.Scopes.{declared_in}
use Rattle.cl_scope.proofs.names.Names.declare_all.Given as goal

abbrev pub invariant-loop-declared : goal.invariant-loop-declared
invariant-loop-declared l = declared_in (drop l.declared-index l.block) l.self ≡ declared_in l.block l.fn.self
