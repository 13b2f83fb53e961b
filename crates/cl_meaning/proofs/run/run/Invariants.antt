use Rattle.std.proofs.Common.{◌≤◌, ◌-◌, drop, length}
use Rattle.cl_meaning.specs.Views.{item_by, surroundings_by, values_of}
use Rattle.cl_meaning.proofs.Quiet.{IsSteady}
use Rattle.cl_meaning.proofs.Turns.{GoesOnFrom, moves_left}
use Rattle.cl_meaning.proofs.run.run.Given as goal

abbrev pub invariant-turns : goal.invariant-turns
invariant-turns l = record {
  within : l.made.steps ≤ l.fuel;
  steady : IsSteady (item_by l.s.types.now l.item);
  goes_on : GoesOnFrom (surroundings_by l.s) (values_of l.answers) l.fuel (item_by l.s.types.now l.fn.first) (item_by l.s.types.now l.item) l.made;
}

abbrev pub decreases-turns : goal.decreases-turns
decreases-turns l = moves_left (surroundings_by l.s) (l.fuel - l.made.steps) (item_by l.s.types.now l.item) (drop (length l.made.events) (values_of l.answers))
