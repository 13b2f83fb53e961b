-- The answer for the whole.
use Rattle.std.proofs.Common.{◌≡◌, List, Option, Some, None, Ok, Err, refl, sym, ap, ◌∙◌}
use Rattle.clv_place.specs.declared.place.Place.{Place}
use Rattle.clv_place.specs.declared.stop.Offence.{Offence}
use Rattle.clv_place.specs.declared.stop.Stop.{Stop}
use Rattle.clv_place.specs.declared.stop.Stop.TheVariants.{Out, NoMemory}
use Rattle.cl_lexer.specs.declared.token.Token.{Token}
use Rattle.cl_lexer.specs.declared.token.Tokens.{Tokens}
use Rattle.cl_macro.specs.Answers.{AnswersStop}
use Rattle.cl_macro.specs.Items.{offence}
use Rattle.cl_pre.specs.Expansion.{Verdict, Preprocesses, earlier_of, settled, beginning, most, Expansion, whole}
use Rattle.cl_pre.specs.Settled.{stop_of}
use Rattle.cl_pre.specs.Unended.{unended_from}

settles : (tokens : Tokens) (u : Option Place) (v : Verdict) → u ≡ unended_from None 0 tokens.list → Preprocesses most (beginning tokens.list) v → Expansion tokens (settled u tokens.end v)
settles tokens u v is h = whole v _ h (ap (λ p. settled p tokens.end v) is)

pub kept_whole : (tokens : Tokens) (list : List Token) → None ≡ unended_from None 0 tokens.list → Preprocesses most (beginning tokens.list) (Ok list) → Expansion tokens (Ok (record { list = list; end = tokens.end }))
kept_whole tokens list is h = settles tokens None (Ok list) is h

pub kept_stop : (tokens : Tokens) (stop : Stop) → None ≡ unended_from None 0 tokens.list → AnswersStop stop (Preprocesses most (beginning tokens.list)) → AnswersStop stop (Expansion tokens)
kept_stop tokens NoMemory is h = h
kept_stop tokens (Out e) is h = settles tokens None (Err e) is h

pub missing_whole : (tokens : Tokens) (place : Place) (list : List Token) → Some place ≡ unended_from None 0 tokens.list → Preprocesses most (beginning tokens.list) (Ok list) → Expansion tokens (Err (offence 117 place))
missing_whole tokens place list is h = settles tokens (Some place) (Ok list) is h

pub missing_stop : (tokens : Tokens) (place : Place) (stop : Stop) → Some place ≡ unended_from None 0 tokens.list → AnswersStop stop (Preprocesses most (beginning tokens.list)) → AnswersStop (stop_of (offence 117 place) stop) (Expansion tokens)
missing_stop tokens place NoMemory is h = h
missing_stop tokens place (Out e) is h = settles tokens (Some place) (Err e) is h

pub ruleset settling = (kept_whole, kept_stop, missing_whole, missing_stop)
