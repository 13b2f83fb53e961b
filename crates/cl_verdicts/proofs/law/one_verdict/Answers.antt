use Rattle.cl_verdicts.proofs.OneVerdict.{never_both, one_offence}
use Rattle.cl_verdicts.proofs.law.one_verdict.Goals as goal

pub returns-clause-no_both : goal.returns-clause-no_both
returns-clause-no_both c = never_both

pub returns-clause-one : goal.returns-clause-one
returns-clause-one c = one_offence
