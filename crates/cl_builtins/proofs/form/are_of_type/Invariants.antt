use Rattle.std.proofs.Common.{◌≡◌, true, take}
use Rattle.std.specs.List.{list_all}
use Rattle.cl_builtins.specs.Kinds.{is_type}
use Rattle.cl_builtins.proofs.form.are_of_type.Given as goal

abbrev pub invariant-loop-arg : goal.invariant-loop-arg
invariant-loop-arg l = list_all (is_type l.t) (take l.arg-index l.args) ≡ true
