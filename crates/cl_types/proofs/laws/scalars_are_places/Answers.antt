use Rattle.cl_types.proofs.Places.{scalars_ascend, scalars_are_places, places_are_scalars}
use Rattle.cl_types.proofs.laws.scalars_are_places.Goals as goal

pub returns : goal.returns
returns c = record { ascend = scalars_ascend; are_places = scalars_are_places; are_all = places_are_scalars }
