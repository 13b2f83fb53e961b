use Rattle.std.proofs.Common.{◌≡◌, take, map}
use Rattle.cl_make.specs.Wanted.{target}
use Rattle.cl_type_expr.proofs.judge.targets.Given as goal

abbrev pub invariant-loop-param : goal.invariant-loop-param
invariant-loop-param l = l.targets ≡ map (target l.types) (take l.param-index l.params)
