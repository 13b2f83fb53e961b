-- What stops a text in which an `#if` is not ended.
use Rattle.clv_place.specs.declared.stop.Offence.{Offence}
use Rattle.clv_place.specs.declared.stop.Stop.{Stop}
use Rattle.clv_place.specs.declared.stop.Stop.TheVariants.{Out, NoMemory}
use Rattle.cl_pre.specs.Expansion.{earlier_of}

-- the first of two offences, unless memory ran out
abbrev pub stop_of : Offence → Stop → Stop
stop_of missing NoMemory = NoMemory
stop_of missing (Out e) = Out (earlier_of missing e)
