use Rattle.std.proofs.Common.{◌≡◌, ◌≤◌, take}
use Rattle.cl_meaning.specs.Code.{locals_among}
use Rattle.cl_meaning.proofs.numbering.locals_among.Given as goal

abbrev pub invariant-loop-k : goal.invariant-loop-k
invariant-loop-k l = record { all : l.locals ≡ locals_among (take l.k l.vars); few : l.locals ≤ l.k }
