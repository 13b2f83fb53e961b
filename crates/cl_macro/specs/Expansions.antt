-- The expansion of a list of tokens.
use Rattle.std.specs.Prelude.{◌≡◌, ℕ, zero, suc, ◌+◌, List, [], ◌∷◌, ◌++◌, Option, Some, None, Result, Ok, Err, slice_get}
use Rattle.clv_place.specs.declared.stop.Offence.{Offence}
use Rattle.cl_macro.specs.declared.macros.Entry.{Entry}
use Rattle.cl_macro.specs.declared.item.Item.{Item}
use Rattle.cl_macro.specs.declared.item.Call.{Call}
use Rattle.cl_macro.specs.declared.item.Room.{Room}
use Rattle.cl_macro.specs.declared.item.Room.TheVariants as limit
use Rattle.cl_macro.specs.declared.item.First.TheVariants as stands
use Rattle.cl_macro.specs.Firsts.{first}
use Rattle.cl_macro.specs.Replacements.{Verdict, replacement, substituted, params_of, body_of}
use Rattle.cl_macro.specs.Tables.{means_of}

abbrev pub with_front : Item → Verdict → Verdict
with_front t (Ok ts) = Ok (t ∷ ts)
with_front t (Err e) = Err e

-- arguments that are expanded, or the first offence in one of them
abbrev pub ArgumentsVerdict : Type 0
ArgumentsVerdict = Result (List (List Item)) Offence

abbrev pub with_argument : List Item → ArgumentsVerdict → ArgumentsVerdict
with_argument a (Ok rest) = Ok (a ∷ rest)
with_argument a (Err e) = Err e

-- what replaces a call whose arguments are expanded so
abbrev pub call_becomes : List Entry → Call → List (List Item) → Verdict
call_becomes entries c args = replacement c.place c.hidden [] (substituted (params_of (means_of (slice_get entries c.at))) args [] (body_of (means_of (slice_get entries c.at))))

-- a replacement before other tokens
abbrev pub before : List Item → Verdict → Verdict
before beyond (Ok items) = Ok (items ++ beyond)
before beyond (Err e) = Err e

-- how much room is left behind one more token, where there is room for it
abbrev pub room_behind : Room → Option Room
room_behind limit.Endless = Some limit.Endless
room_behind (limit.Tokens zero full) = None
room_behind (limit.Tokens (suc n) full) = Some (limit.Tokens n full)

mutual
  -- Where there is such room, these tokens expand to these, or have this first offence.
  --     ended     nothing is left
  --     kept      a token stays, and then comes what the rest expands to
  --     full      a token stays for which there is no room
  --     replaced  a macro without parameters is replaced
  --     bad       an offence stands first
  --     called    a call is replaced
  --     stopped   a call is not
  pub data Expands (entries : List Entry) : Room → List Item → Verdict → Type 0 where
    ended : (room : Room) (ts : List Item) → first entries ts ≡ stands.End → Expands entries room ts (Ok [])
    kept : (room less : Room) (ts rest : List Item) (t : Item) (r v : Verdict) → first entries ts ≡ stands.Kept t rest → room_behind room ≡ Some less → Expands entries less rest r → v ≡ with_front t r → Expands entries room ts v
    full : (e : Offence) (ts rest : List Item) (t : Item) → first entries ts ≡ stands.Kept t rest → Expands entries (limit.Tokens zero e) ts (Err e)
    replaced : (room : Room) (ts rest : List Item) (r : Verdict) → first entries ts ≡ stands.Becomes rest → Expands entries room rest r → Expands entries room ts r
    bad : (room : Room) (ts : List Item) (e : Offence) → first entries ts ≡ stands.Bad e → Expands entries room ts (Err e)
    called : (room : Room) (ts next : List Item) (c : Call) (args : List (List Item)) (r : Verdict) → first entries ts ≡ stands.Calls c args → Replaces entries c args (Ok next) → Expands entries room next r → Expands entries room ts r
    stopped : (room : Room) (ts : List Item) (c : Call) (args : List (List Item)) (e : Offence) → first entries ts ≡ stands.Calls c args → Replaces entries c args (Err e) → Expands entries room ts (Err e)

  -- Each argument by itself, from left to right, as if nothing followed it, and whether or not its parameter is used.
  pub data EachExpands (entries : List Entry) : List (List Item) → ArgumentsVerdict → Type 0 where
    none : EachExpands entries [] (Ok [])
    fails : (a : List Item) (rest : List (List Item)) (e : Offence) → Expands entries limit.Endless a (Err e) → EachExpands entries (a ∷ rest) (Err e)
    more : (a xs : List Item) (rest : List (List Item)) (u v : ArgumentsVerdict) → Expands entries limit.Endless a (Ok xs) → EachExpands entries rest u → v ≡ with_argument xs u → EachExpands entries (a ∷ rest) v

  -- A call with these arguments leaves these tokens to be read on, or has this first offence.
  pub data Replaces (entries : List Entry) : Call → List (List Item) → Verdict → Type 0 where
    within : (c : Call) (args : List (List Item)) (e : Offence) → EachExpands entries args (Err e) → Replaces entries c args (Err e)
    put_in : (c : Call) (args xs : List (List Item)) (v : Verdict) → EachExpands entries args (Ok xs) → v ≡ before c.beyond (call_becomes entries c xs) → Replaces entries c args v

-- Each list of tokens has one verdict, and each call.
abbrev pub OneVerdict : Type 0
OneVerdict = (entries : List Entry) (room : Room) (ts : List Item) (v w : Verdict) → Expands entries room ts v → Expands entries room ts w → v ≡ w

abbrev pub OneReplacement : Type 0
OneReplacement = (entries : List Entry) (c : Call) (args : List (List Item)) (v w : Verdict) → Replaces entries c args v → Replaces entries c args w → v ≡ w
