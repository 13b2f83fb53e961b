use Rattle.cl_meaning.proofs.Trees.{SlotsTo}
use Rattle.cl_meaning.proofs.layouts.Layouts.new.Given as goal

abbrev pub invariant-loop-t : goal.invariant-loop-t
invariant-loop-t l = SlotsTo l.types l.t l.slots.items
