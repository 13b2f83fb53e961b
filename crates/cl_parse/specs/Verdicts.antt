-- What the calls of this crate answer.
use Rattle.std.specs.Prelude.{◌≡◌, ℕ, ◌<◌, List, take, Option, Some, None, Result, Ok, Err}
use Rattle.clv_place.specs.declared.stop.Offence.{Offence}
use Rattle.clv_place.specs.declared.stop.Stop.{Stop}
use Rattle.clv_place.specs.declared.stop.Stop.TheVariants.{Out, NoMemory}
use Rattle.cl_ast.specs.declared.declaration.Ast.{Ast}
use Rattle.cl_lexer.specs.declared.token.Token.{Token}
use Rattle.cl_lexer.specs.declared.token.Tokens.{Tokens}
use Rattle.cl_grammar.specs.declared.stop.ExprStop.{ExprStop}
use Rattle.cl_grammar.specs.declared.stop.ExprStop.TheVariants as why
use Rattle.cl_grammar.specs.Units.{IsBegun, IsSyntaxOffence, Judges}

-- A verdict, unless memory ran out, of which nothing is said.
abbrev pub AnswersStop : Stop → (Result Ast Offence → Type 0) → Type 0
AnswersStop NoMemory Meets = Unit {0}
AnswersStop (Out offence) Meets = Meets (Err offence)

abbrev pub Answers : Result Ast Stop → (Result Ast Offence → Type 0) → Type 0
Answers (Ok ast) Meets = Meets (Ok ast)
Answers (Err stop) Meets = AnswersStop stop Meets

-- the syntax offence stands at an index, unless memory ran out
abbrev pub IsOut : List Token → ExprStop → Type 0
IsOut tokens (why.Out k) = IsSyntaxOffence tokens k
IsOut tokens why.NoMemory = Unit {0}

pub record IsRefusal (tokens : List Token) (stop : ExprStop) : Type 0 where
  pub out : IsOut tokens stop

-- The syntax offence stands at one of the first tokens, or some sentence begins with these.
pub data Among (tokens : List Token) (count : ℕ) : Option ℕ → Type 0 where
  stands : (k : ℕ) → k < count → IsSyntaxOffence tokens k → Among tokens count (Some k)
  none : IsBegun (take count tokens) → Among tokens count None

-- Tokens that have an offence have no other verdict.
abbrev pub OneOffence : Type 0
OneOffence = (tokens : Tokens) (offence : Offence) (verdict : Result Ast Offence) → Judges tokens (Err offence) → Judges tokens verdict → verdict ≡ Err offence
