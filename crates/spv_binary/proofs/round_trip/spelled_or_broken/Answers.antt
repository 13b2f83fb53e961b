use Rattle.spv_binary.proofs.Verdicts.{spelled_or_broken, answered_once}
use Rattle.spv_binary.proofs.round_trip.spelled_or_broken.Goals as goal

pub returns-clause-some : goal.returns-clause-some
returns-clause-some c = spelled_or_broken

pub returns-clause-one : goal.returns-clause-one
returns-clause-one c = answered_once
