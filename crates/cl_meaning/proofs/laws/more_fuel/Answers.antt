use Rattle.cl_meaning.proofs.Runs.{more_fuel_law}
use Rattle.cl_meaning.proofs.laws.more_fuel.Goals as goal

pub returns : goal.returns
returns c = more_fuel_law
