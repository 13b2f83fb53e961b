use Rattle.std.proofs.Common.{◌≡◌, true, take}
use Rattle.std.specs.List.{list_all}
use Rattle.cl_builtins.specs.Kinds.{is_scalar}
use Rattle.cl_builtins.proofs.form.are_scalars.Given as goal

abbrev pub invariant-loop-arg : goal.invariant-loop-arg
invariant-loop-arg l = list_all is_scalar (take l.arg-index l.args) ≡ true
