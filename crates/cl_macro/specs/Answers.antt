-- What a phase answers.
use Rattle.std.specs.Prelude.{Result, Ok, Err}
use Rattle.clv_place.specs.declared.stop.Offence.{Offence}
use Rattle.clv_place.specs.declared.stop.Stop.{Stop}
use Rattle.clv_place.specs.declared.stop.Stop.TheVariants.{Out, NoMemory}

-- A verdict, unless memory ran out, of which nothing is said.
abbrev pub AnswersStop : {A : Type 0} → Stop → (Result A Offence → Type 0) → Type 0
AnswersStop NoMemory Meets = Unit {0}
AnswersStop (Out offence) Meets = Meets (Err offence)

abbrev pub Answers : {A : Type 0} → Result A Stop → (Result A Offence → Type 0) → Type 0
Answers (Ok answer) Meets = Meets (Ok answer)
Answers (Err stop) Meets = AnswersStop stop Meets
