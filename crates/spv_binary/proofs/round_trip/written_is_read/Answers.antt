use Rattle.spv_binary.proofs.RoundTrip.{little_again, big_again, little_answered, big_answered}
use Rattle.spv_binary.proofs.round_trip.written_is_read.Goals as goal

pub returns-clause-little : goal.returns-clause-little
returns-clause-little c = little_again

pub returns-clause-big : goal.returns-clause-big
returns-clause-big c = big_again

pub returns-clause-little_answered : goal.returns-clause-little_answered
returns-clause-little_answered c = little_answered

pub returns-clause-big_answered : goal.returns-clause-big_answered
returns-clause-big_answered c = big_answered
