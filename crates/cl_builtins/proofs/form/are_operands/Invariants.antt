use Rattle.std.proofs.Common.{◌≡◌, true, take}
use Rattle.std.specs.List.{list_all}
use Rattle.cl_builtins.specs.Forms.{is_operand}
use Rattle.cl_builtins.proofs.form.are_operands.Given as goal

abbrev pub invariant-loop-arg : goal.invariant-loop-arg
invariant-loop-arg l = list_all (is_operand l.t) (take l.arg-index l.args) ≡ true
