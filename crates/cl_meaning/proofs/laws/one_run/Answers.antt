use Rattle.cl_meaning.proofs.Runs.{one_run as law}
use Rattle.cl_meaning.proofs.laws.one_run.Goals as goal

pub returns : goal.returns
returns c = law
