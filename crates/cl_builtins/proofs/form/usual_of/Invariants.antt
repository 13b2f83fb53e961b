use Rattle.std.proofs.Common.{◌≡◌, take, fold}
use Rattle.cl_builtins.specs.Forms.{usual_with}
use Rattle.cl_builtins.specs.Kinds.{int}
use Rattle.cl_builtins.proofs.form.usual_of.Given as goal

abbrev pub invariant-loop-arg : goal.invariant-loop-arg
invariant-loop-arg l = l.usual ≡ fold usual_with int (take l.arg-index l.args)
