use Rattle.cl_meaning.proofs.Steady.{calls_change_calls as law}
use Rattle.cl_meaning.proofs.laws.calls_change_calls.Goals as goal

pub returns : goal.returns
returns c = law
