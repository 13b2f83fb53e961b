use Rattle.std.proofs.Common.{◌≡◌, ◌++◌, replicate}
use Rattle.cl_builtins.proofs.form.push_copies.Given as goal

abbrev pub invariant-loop-copy : goal.invariant-loop-copy
invariant-loop-copy l = l.list ≡ l.fn.list ++ replicate l._copy l.kind
