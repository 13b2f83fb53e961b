use Rattle.std.proofs.Common.{◌≡◌, true, take}
use Rattle.std.specs.List.{list_all}
use Rattle.cl_builtins.specs.Kinds.{converts}
use Rattle.cl_builtins.proofs.form.all_convert.Given as goal

abbrev pub invariant-loop-arg : goal.invariant-loop-arg
invariant-loop-arg l = list_all (converts l.to) (take l.arg-index l.args) ≡ true
