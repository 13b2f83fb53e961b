use Rattle.cl_types.proofs.Places.{place_same, place_apart, place_within, places_are_aligned, sizes_are_multiples}
use Rattle.cl_types.proofs.laws.places_lie_apart.Goals as goal

pub returns : goal.returns
returns c = record { one = place_same; apart = place_apart; within = place_within; aligned = places_are_aligned; multiple = sizes_are_multiples }
