-- What stands first in the rest of a text.
use Rattle.std.specs.Prelude.{ℕ, Bool, false, if◌then◌else◌, List, [], ◌∷◌, ◌++◌, drop, Result, Ok, Err}
use Rattle.clv_place.specs.declared.place.Place.{Place}
use Rattle.clv_place.specs.declared.stop.Offence.{Offence}
use Rattle.cl_lexer.specs.declared.token.Token.{Token}
use Rattle.cl_macro.specs.declared.macros.Entry.{Entry}
use Rattle.cl_macro.specs.declared.item.Item.{Item}
use Rattle.cl_macro.specs.declared.item.First.{First}
use Rattle.cl_macro.specs.declared.item.First.TheVariants as stands
use Rattle.cl_macro.specs.Firsts.{first}
use Rattle.cl_macro.specs.Items.{offence, begins_line, begins_directive}
use Rattle.cl_pre.specs.declared.directive.Effect.{Effect}
use Rattle.cl_pre.specs.declared.directive.Effect.TheVariants as effect
use Rattle.cl_pre.specs.declared.front.Front.{Front}
use Rattle.cl_pre.specs.declared.front.Front.TheVariants as front
use Rattle.cl_pre.specs.declared.front.Line.{Line}
use Rattle.cl_pre.specs.declared.front.Progress.{Progress}
use Rattle.cl_pre.specs.declared.front.Progress.TheVariants as leads
use Rattle.cl_pre.specs.declared.front.State.{State}
use Rattle.cl_pre.specs.declared.group.Group.{Group}
use Rattle.cl_pre.specs.Directives.{effect_of}
use Rattle.cl_pre.specs.Groups.{is_read, top_of}

-- State: the table, the open groups and the tokens that are left.
-- Progress: the end; a token that goes out, and what is left; or what is left.
-- Front: a progress or an offence, a call to be replaced, or a condition to be judged.

-- whether another line begins
abbrev pub starts_line : List Item → Bool
starts_line [] = false
starts_line (t ∷ rest) = begins_line t

-- the tokens up to the next line, behind others, and what follows
abbrev pub line_from : List Token → List Item → Line
line_from front [] = record { tokens = front; beyond = [] }
line_from front (t ∷ ts) = if begins_line t then record { tokens = front; beyond = t ∷ ts } else line_from (front ++ t.token ∷ []) ts

abbrev pub going : List Entry → List Group → List Item → Front
going entries groups rest = front.Plain (Ok (leads.Goes (record { table = entries; groups = groups; input = rest })))

-- an effect of the directive at a place, and what follows its line
abbrev pub obeyed : List Entry → List Group → Place → List Item → Effect → Front
obeyed entries groups place beyond effect.Nothing = going entries groups beyond
obeyed entries groups place beyond (effect.Defines e) = going (entries ++ e ∷ []) groups beyond
obeyed entries groups place beyond (effect.Opens g) = going entries (g ∷ groups) beyond
obeyed entries groups place beyond (effect.Turns g) = going entries (g ∷ drop 1 groups) beyond
obeyed entries groups place beyond effect.Closes = going entries (drop 1 groups) beyond
obeyed entries groups place beyond (effect.Asks items) = front.Asks place items (record { table = entries; groups = groups; input = beyond })
obeyed entries groups place beyond (effect.AsksAgain items) = front.Asks place items (record { table = entries; groups = drop 1 groups; input = beyond })
obeyed entries groups place beyond (effect.Fails code) = front.Plain (Err (offence code place))

-- what stands first in the text, for the whole
abbrev pub text_front : List Entry → List Group → First → Front
text_front entries groups stands.End = front.Plain (Ok leads.Ends)
text_front entries groups (stands.Kept t rest) = front.Plain (Ok (leads.Gives t.token (record { table = entries; groups = groups; input = rest })))
text_front entries groups (stands.Becomes rest) = going entries groups rest
text_front entries groups (stands.Bad e) = front.Plain (Err e)
text_front entries groups (stands.Calls c args) = front.Calls entries groups c args

abbrev pub directive_front : List Entry → List Group → Place → Line → Front
directive_front entries groups place line = obeyed entries groups place line.beyond (effect_of entries (top_of groups) line.tokens)

-- whether a directive stands first
abbrev pub starts_directive : List Item → Bool
starts_directive [] = false
starts_directive (t ∷ rest) = begins_directive t

abbrev pub first_front : List Entry → List Group → List Item → Front
first_front entries groups [] = front.Plain (Ok leads.Ends)
first_front entries groups (t ∷ rest) = directive_front entries groups t.token.place (line_from [] rest)

-- where no directive stands first: a token in a skipped group is passed over, and others are text
abbrev pub passed_front : List Entry → List Group → List Item → Front
passed_front entries groups [] = front.Plain (Ok leads.Ends)
passed_front entries groups (t ∷ rest) = if is_read (top_of groups) then text_front entries groups (first entries (t ∷ rest)) else going entries groups rest

-- what stands first in what is left
abbrev pub front_of : State → Front
front_of s = if starts_directive s.input then first_front s.table s.groups s.input else passed_front s.table s.groups s.input
