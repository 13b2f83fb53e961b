-- The tokens of a text without directives and macros, or its first offence (C99 6.10).
use Rattle.std.specs.Prelude.{◌≡◌, ℕ, zero, suc, ◌==◌, Bool, true, false, nat_lt, nat_le, if◌then◌else◌, List, [], ◌∷◌, map, Option, Some, None, Result, Ok, Err}
use Rattle.clv_place.specs.declared.place.Place.{Place}
use Rattle.clv_place.specs.declared.stop.Offence.{Offence}
use Rattle.cl_lexer.specs.declared.token.Token.{Token}
use Rattle.cl_lexer.specs.declared.token.Tokens.{Tokens}
use Rattle.cl_macro.specs.declared.macros.Entry.{Entry}
use Rattle.cl_macro.specs.declared.item.Item.{Item}
use Rattle.cl_macro.specs.declared.item.Call.{Call}
use Rattle.cl_macro.specs.Expansions.{Replaces}
use Rattle.cl_macro.specs.Items.{offence, of_text}
use Rattle.cl_pre.specs.declared.front.Front.TheVariants as front
use Rattle.cl_pre.specs.declared.front.Progress.{Progress}
use Rattle.cl_pre.specs.declared.front.Progress.TheVariants as leads
use Rattle.cl_pre.specs.declared.front.State.{State}
use Rattle.cl_pre.specs.declared.group.Group.{Group}
use Rattle.cl_pre.specs.Conditions.{Holds}
use Rattle.cl_pre.specs.Fronts.{front_of}
use Rattle.cl_pre.specs.Groups.{opened}
use Rattle.cl_pre.specs.Predefined.{predefined}
use Rattle.cl_pre.specs.Unended.{unended_from}

-- goes on with these tokens, where there are any
abbrev pub resumed : List Entry → List Group → Result (List Item) Offence → Result Progress Offence
resumed entries groups (Ok items) = Ok (leads.Goes (record { table = entries; groups = groups; input = items }))
resumed entries groups (Err e) = Err e

-- goes on within a group whose condition is judged
abbrev pub grouped : State → Result Bool Offence → Result Progress Offence
grouped s (Ok holds) = Ok (leads.Goes (record { table = s.table; groups = opened holds ∷ s.groups; input = s.input }))
grouped s (Err e) = Err e

-- What comes next in a text of which this is left, or the first offence.
--     plain    what stands first says it alone
--     call     a call stands first, and its replacement says it
--     asked    the condition of a directive does
pub data Step : State → Result Progress Offence → Type 0 where
  plain : (s : State) (v : Result Progress Offence) → front_of s ≡ front.Plain v → Step s v
  call : (s : State) (entries : List Entry) (groups : List Group) (c : Call) (args : List (List Item)) (u : Result (List Item) Offence) (v : Result Progress Offence) → front_of s ≡ front.Calls entries groups c args → Replaces entries c args u → v ≡ resumed entries groups u → Step s v
  asked : (s t : State) (place : Place) (items : List Item) (u : Result Bool Offence) (v : Result Progress Offence) → front_of s ≡ front.Asks place items t → Holds t.table place items u → v ≡ grouped t u → Step s v

-- tokens, or the first offence
abbrev pub Verdict : Type 0
Verdict = Result (List Token) Offence

abbrev pub with_front : Token → Verdict → Verdict
with_front t (Ok ts) = Ok (t ∷ ts)
with_front t (Err e) = Err e

-- What is left of a text gives these tokens, or has this first offence, where so many more may come out.
--     ended    nothing is left
--     stopped  an offence stands first
--     gone     what comes next gives no token
--     given    a token goes out, and then comes what the rest gives
--     full     a token for which there is no room: 124
pub data Preprocesses : ℕ → State → Verdict → Type 0 where
  ended : (room : ℕ) (s : State) → Step s (Ok leads.Ends) → Preprocesses room s (Ok [])
  stopped : (room : ℕ) (s : State) (e : Offence) → Step s (Err e) → Preprocesses room s (Err e)
  gone : (room : ℕ) (s t : State) (v : Verdict) → Step s (Ok (leads.Goes t)) → Preprocesses room t v → Preprocesses room s v
  given : (room : ℕ) (s t : State) (token : Token) (r v : Verdict) → Step s (Ok (leads.Gives token t)) → Preprocesses room t r → v ≡ with_front token r → Preprocesses (suc room) s v
  full : (s t : State) (token : Token) → Step s (Ok (leads.Gives token t)) → Preprocesses zero s (Err (offence 124 token.place))

-- whether an offence comes before another: the one that stands earlier, and at one place the lesser code
abbrev pub is_before : Offence → Offence → Bool
is_before d e =
    if nat_lt d.place.line e.place.line then true
    else if nat_lt e.place.line d.place.line then false
    else if nat_lt d.place.col e.place.col then true
    else if nat_lt e.place.col d.place.col then false
    else nat_lt d.code e.code

abbrev pub earlier_of : Offence → Offence → Offence
earlier_of d e = if is_before d e then d else e

abbrev pub refused : Offence → Verdict → Offence
refused d (Ok ts) = d
refused d (Err e) = earlier_of d e

abbrev pub kept_to : Place → Verdict → Result Tokens Offence
kept_to end (Ok ts) = Ok (record { list = ts; end = end })
kept_to end (Err e) = Err e

-- The verdict on the whole. 117: an `#if` is not ended. It can be told from the names of the directives alone, so by its place it may come before what else is found.
abbrev pub settled : Option Place → Place → Verdict → Result Tokens Offence
settled None end v = kept_to end v
settled (Some place) end v = Err (refused (offence 117 place) v)

-- the most tokens that may come out
abbrev pub most : ℕ
most = 262144

abbrev pub beginning : List Token → State
beginning ts = record { table = predefined; groups = []; input = map of_text ts }

-- What a text of these tokens preprocesses to: tokens and the place of the end, or its first offence.
pub data Expansion (tokens : Tokens) : Result Tokens Offence → Type 0 where
  whole : (v : Verdict) (w : Result Tokens Offence) → Preprocesses most (beginning tokens.list) v → w ≡ settled (unended_from None 0 tokens.list) tokens.end v → Expansion tokens w

-- Each text has one verdict.
abbrev pub OneVerdict : Type 0
OneVerdict = (tokens : Tokens) (v w : Result Tokens Offence) → Expansion tokens v → Expansion tokens w → v ≡ w
