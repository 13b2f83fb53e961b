use Rattle.std.proofs.Common.{◌≡◌, drop}
use Rattle.cl_scope.specs.Scopes.{blocks_in}
use Rattle.cl_scope.proofs.names.Names.enter_all.Given as goal

abbrev pub invariant-loop-block : goal.invariant-loop-block
invariant-loop-block l = blocks_in (drop l.block-index l.blocks) l.self ≡ blocks_in l.blocks l.fn.self
