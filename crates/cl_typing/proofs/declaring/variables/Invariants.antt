use Rattle.cl_typing.specs.Settings.{state}
use Rattle.cl_typing.proofs.Sequences.{VariablesSoFar}
use Rattle.cl_typing.proofs.declaring.variables.Given as goal

abbrev pub invariant-loop-one : goal.invariant-loop-one
invariant-loop-one l = VariablesSoFar l.p l.q l.initial.types l.types (state l.initial.names l.initial.vars) l.all l.one-index (state l.names l.vars) l.initial.typed.items l.typed.items
