use Rattle.cl_typing.specs.Settings.{state}
use Rattle.cl_typing.proofs.Sequences.{ItemsSoFar, ArmsSoFar}
use Rattle.cl_typing.proofs.Switches.{SectionsSoFar}
use Rattle.cl_typing.proofs.statement.+statement.Given as goal

abbrev pub invariant-items-loop-one : goal.invariant-items-loop-one
invariant-items-loop-one l = ItemsSoFar l.p l.initial.types l.types (state l.initial.names l.initial.vars) l.all l.one-index (state l.names l.vars) l.typed.items

abbrev pub invariant-arms-loop-one : goal.invariant-arms-loop-one
invariant-arms-loop-one l = ArmsSoFar l.p l.initial.types l.types (state l.initial.names l.initial.vars) l.all l.one-index (state l.names l.vars) l.typed.items

abbrev pub invariant-sections-loop-one : goal.invariant-sections-loop-one
invariant-sections-loop-one l = SectionsSoFar l.p l.initial.types l.types l.initial.known (state l.initial.names l.initial.vars) l.all l.one-index l.behind l.known (state l.names l.vars) l.typed.items
