-- How calls are expanded: the calls that are open, and one step.
use Rattle.std.specs.Prelude.{ℕ, suc, ◌-◌, nat_le, length, if◌then◌else◌, Option, Some, None, List, [], ◌∷◌, ◌++◌, Result, Ok, Err}
use Rattle.clv_place.specs.declared.stop.Offence.{Offence}
use Rattle.cl_macro.specs.declared.macros.Entry.{Entry}
use Rattle.cl_macro.specs.declared.item.Item.{Item}
use Rattle.cl_macro.specs.declared.item.Room.{Room}
use Rattle.cl_macro.specs.declared.item.Room.TheVariants as limit
use Rattle.cl_macro.specs.declared.item.First.{First}
use Rattle.cl_macro.specs.declared.item.First.TheVariants as stands
use Rattle.cl_macro.specs.declared.expansion.Frame.{Frame}
use Rattle.cl_macro.specs.declared.expansion.State.{State}
use Rattle.cl_macro.specs.declared.expansion.Progress.{Progress}
use Rattle.cl_macro.specs.declared.expansion.Progress.TheVariants.{Goes, Ends, Fails}
use Rattle.cl_macro.specs.Replacements.{Verdict}
use Rattle.cl_macro.specs.Expansions.{call_becomes, before}
use Rattle.cl_macro.specs.Firsts.{first}

-- a call whose arguments are expanded
abbrev pub filled : List Frame → List Item → Verdict → Progress
filled frames out (Ok items) = Goes (record { frames = frames; out = out; input = items })
filled frames out (Err e) = Fails e

abbrev pub opened_by : List Entry → List Frame → Frame → List (List Item) → Progress
opened_by entries frames f [] = filled frames f.out (before f.call.beyond (call_becomes entries f.call f.done))
opened_by entries frames f (a ∷ left) = Goes (record { frames = record { call = f.call; left = left; done = f.done; out = f.out } ∷ frames; out = []; input = a })

-- goes on with the next argument of a call, or with what follows it
abbrev pub opened : List Entry → List Frame → Frame → Progress
opened entries frames f = opened_by entries frames f f.left

abbrev pub popped : List Entry → List Item → List Frame → Progress
popped entries out [] = Ends out
popped entries out (f ∷ fs) = opened entries fs (record { call = f.call; left = f.left; done = f.done ++ out ∷ []; out = f.out })

-- what room is left behind so many tokens
abbrev pub room_less : Room → ℕ → Room
room_less limit.Endless n = limit.Endless
room_less (limit.Tokens most full) n = limit.Tokens (most - n) full

-- it holds outside all calls alone
abbrev pub room_of : Room → List Frame → List Item → Room
room_of room [] out = room_less room (length out)
room_of room (f ∷ fs) out = limit.Endless

abbrev pub over_by : Room → ℕ → Option Offence
over_by limit.Endless n = None
over_by (limit.Tokens most full) n = if nat_le most n then Some full else None

-- the offence of one more token
abbrev pub over : Room → List Frame → List Item → Option Offence
over room [] out = over_by room (length out)
over room (f ∷ fs) out = None

abbrev pub kept_by : List Frame → List Item → Item → List Item → Option Offence → Progress
kept_by frames out t rest (Some e) = Fails e
kept_by frames out t rest None = Goes (record { frames = frames; out = out ++ t ∷ []; input = rest })

abbrev pub step_by : Room → List Entry → List Frame → List Item → First → Progress
step_by room entries frames out stands.End = popped entries out frames
step_by room entries frames out (stands.Kept t rest) = kept_by frames out t rest (over room frames out)
step_by room entries frames out (stands.Becomes rest) = Goes (record { frames = frames; out = out; input = rest })
step_by room entries frames out (stands.Bad e) = Fails e
step_by room entries frames out (stands.Calls c args) = opened entries frames (record { call = c; left = args; done = []; out = out })

abbrev pub step : Room → List Entry → State → Progress
step room entries s = step_by room entries s.frames s.out (first entries s.input)
