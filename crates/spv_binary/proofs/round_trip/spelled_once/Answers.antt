use Rattle.spv_binary.proofs.RoundTrip.{spells_one, spelled_by_its_words, spelled_once_in_each_order, spelled_is_whole}
use Rattle.spv_binary.proofs.round_trip.spelled_once.Goals as goal

pub returns-clause-one : goal.returns-clause-one
returns-clause-one c = spells_one

pub returns-clause-words : goal.returns-clause-words
returns-clause-words c = spelled_by_its_words

pub returns-clause-each_order : goal.returns-clause-each_order
returns-clause-each_order c = spelled_once_in_each_order

pub returns-clause-whole : goal.returns-clause-whole
returns-clause-whole c = spelled_is_whole
