use Rattle.cl_meaning.proofs.Runs.{more_answers_law}
use Rattle.cl_meaning.proofs.laws.more_answers.Goals as goal

pub returns : goal.returns
returns c = more_answers_law
