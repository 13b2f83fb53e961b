use Rattle.std.proofs.Common.{◌≡◌, drop}
use Rattle.cl_typing.specs.Units.{body_names, bodies_behind}
use Rattle.cl_typing.proofs.unit.body_names.Given as goal

abbrev pub invariant-loop-one : goal.invariant-loop-one
invariant-loop-one l = body_names l.all ≡ bodies_behind l.names (drop l.one-index l.all)
