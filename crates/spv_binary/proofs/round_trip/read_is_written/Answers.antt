use Rattle.spv_binary.proofs.RoundTrip.{low_again, high_again}
use Rattle.spv_binary.proofs.round_trip.read_is_written.Goals as goal

pub returns-clause-little : goal.returns-clause-little
returns-clause-little c = low_again

pub returns-clause-big : goal.returns-clause-big
returns-clause-big c = high_again
