use Rattle.cl_types.proofs.Rows.{types_are_sound}
use Rattle.cl_types.proofs.laws.types_are_sound.Goals as goal

pub returns : goal.returns
returns c = types_are_sound
