-- What stands for the use of a macro (C99 6.10.3).
use Rattle.std.specs.Prelude.{ℕ, ◌+◌, Bool, false, nat_le, if◌then◌else◌, List, [], ◌∷◌, ◌++◌, length, Option, Some, None, Result, Ok, Err, slice_get}
use Rattle.clv_place.specs.declared.place.Place.{Place}
use Rattle.clv_place.specs.declared.stop.Offence.{Offence}
use Rattle.cl_lexer.specs.declared.token.Token.{Token}
use Rattle.cl_lexer.specs.declared.token.TokenKind.{TokenKind}
use Rattle.cl_lexer.specs.declared.token.TokenKind.TheVariants as kind
use Rattle.cl_macro.specs.declared.item.Item.{Item}
use Rattle.cl_macro.specs.declared.macros.Macro.{Macro}
use Rattle.cl_macro.specs.Items.{offence, placed, fresh}
use Rattle.cl_macro.specs.Names.{Name, joined, index_from}

-- tokens, or the first offence
abbrev pub Verdict : Type 0
Verdict = Result (List Item) Offence

-- A token of a replacement: it has the place of the macro's name, and these names are hidden from it beside those before.
abbrev pub hidden_in : Place → List Name → Item → Item
hidden_in place hidden t = record { token = placed place t.token; hidden = joined t.hidden hidden; raw = false }

abbrev pub is_over : List Name → Item → Bool
is_over hidden t = nat_le 65 (length (joined t.hidden hidden))

-- A replacement, behind tokens that are replaced already. 123: over 64 names are hidden from one of its tokens.
abbrev pub replacement : Place → List Name → List Item → List Item → Verdict
replacement place hidden front [] = Ok front
replacement place hidden front (t ∷ ts) = if is_over hidden t then Err (offence 123 place) else replacement place hidden (front ++ hidden_in place hidden t ∷ []) ts

abbrev pub argument_or : Token → Option (List Item) → List Item
argument_or t None = fresh t ∷ []
argument_or t (Some argument) = argument

abbrev pub chosen : List (List Item) → Token → Option ℕ → List Item
chosen args t None = fresh t ∷ []
chosen args t (Some i) = argument_or t (slice_get args i)

abbrev pub stand_in_by : List Name → List (List Item) → Token → TokenKind → List Item
stand_in_by params args t (kind.Name n) = chosen args t (index_from 0 n params)
stand_in_by params args t _ = fresh t ∷ []

-- What stands for a token of a body: the argument, where it is a parameter (6.10.3.1).
abbrev pub stand_in : List Name → List (List Item) → Token → List Item
stand_in params args t = stand_in_by params args t t.kind

-- a body with arguments in the place of parameters, behind others
abbrev pub substituted : List Name → List (List Item) → List Item → List Token → List Item
substituted params args front [] = front
substituted params args front (t ∷ ts) = substituted params args (front ++ stand_in params args t) ts

abbrev pub names_or_none : Option (List Name) → List Name
names_or_none None = []
names_or_none (Some names) = names

abbrev pub params_of : Option Macro → List Name
params_of None = []
params_of (Some m) = names_or_none m.params

abbrev pub body_of : Option Macro → List Token
body_of None = []
body_of (Some m) = m.body
