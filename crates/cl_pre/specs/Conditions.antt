-- The conditions of `#if` and `#elif` (C99 6.10.1).
use Rattle.std.specs.Prelude.{◌≡◌, ℕ, ◌-◌, ◌==◌, nat_lt, ◌||◌, ◌&&◌, Bool, true, false, not, is_some, if◌then◌else◌, List, [], ◌∷◌, ◌++◌, map, Option, Some, None, Result, Ok, Err}
use Rattle.std.specs.Int.{w64, cast_unsigned}
use Rattle.clv_place.specs.declared.place.Place.{Place}
use Rattle.clv_place.specs.declared.stop.Offence.{Offence}
use Rattle.cl_condition.specs.Conditions.{Judges}
use Rattle.cl_condition.specs.declared.term.Term.{Term}
use Rattle.cl_condition.specs.declared.term.Term.TheVariants as term
use Rattle.cl_condition.specs.declared.term.Judged.{Judged}
use Rattle.cl_condition.specs.declared.term.Judged.TheVariants as judged
use Rattle.cl_lexer.specs.declared.token.Token.{Token}
use Rattle.cl_lexer.specs.declared.token.TokenKind.{TokenKind}
use Rattle.cl_lexer.specs.declared.token.TokenKind.TheVariants as kind
use Rattle.cl_macro.specs.declared.macros.Entry.{Entry}
use Rattle.cl_macro.specs.declared.item.Item.{Item}
use Rattle.cl_macro.specs.declared.item.Room.TheVariants as limit
use Rattle.cl_macro.specs.Expansions.{Expands}
use Rattle.cl_macro.specs.Items.{offence, is_mark, fresh}
use Rattle.cl_macro.specs.Names.{Name}
use Rattle.cl_macro.specs.Tables.{look_up}
use Rattle.cl_pre.specs.Definitions.{is_name, name_of}
use Rattle.cl_pre.specs.Words.{is_defined_word}

-- whether a token is the operator `defined`
abbrev pub asks_defined : Token → Bool
asks_defined t = is_name t.kind && is_defined_word (name_of t.kind)

-- `(` name `)`
abbrev pub is_bracketed : List Token → Bool
is_bracketed (a ∷ b ∷ c ∷ rest) = is_mark 8 a.kind && is_name b.kind && is_mark 9 c.kind
is_bracketed _ = false

-- how many tokens behind `defined` are its operand: a name, or a name in brackets; or none
abbrev pub extent_of : List Token → ℕ
extent_of [] = 0
extent_of (t ∷ ts) = if is_name t.kind then 1 else if is_bracketed (t ∷ ts) then 3 else 0

-- the name that an operand asks for
abbrev pub asked_of : List Token → Name
asked_of (a ∷ b ∷ rest) = if is_name a.kind then name_of a.kind else name_of b.kind
asked_of (a ∷ []) = name_of a.kind
asked_of [] = []

abbrev pub truth : Bool → ℕ
truth true = 1
truth false = 0

-- What `defined` before these tokens is: 1 or 0; without an operand, what stands in no condition.
abbrev pub answer_of : List Entry → List Token → TokenKind
answer_of entries ts = if extent_of ts == 0 then kind.Rest [] else kind.Number (truth (is_some (look_up (asked_of ts) entries))) 0

abbrev pub with_kind : TokenKind → Token → Token
with_kind k t = record { kind = k; place = t.place; first = t.first; spaced = t.spaced }

-- a token of a condition, before these
abbrev pub condition_item : List Entry → Token → List Token → Item
condition_item entries t ts = if asks_defined t then fresh (with_kind (answer_of entries ts) t) else fresh t

-- how many tokens behind it go with it
abbrev pub goes_with : Token → List Token → ℕ
goes_with t ts = if asks_defined t then extent_of ts else 0

-- The tokens of a condition behind others, in which `defined` is read before macros are replaced; so many tokens go with one before.
abbrev pub condition_from : List Entry → List Item → ℕ → List Token → List Item
condition_from entries front n [] = front
condition_from entries front n (t ∷ ts) =
    if nat_lt 0 n then condition_from entries front (n - 1) ts
    else condition_from entries (front ++ condition_item entries t ts ∷ []) (goes_with t ts) ts

-- uint and ulong are unsigned
abbrev pub is_unsigned : ℕ → Bool
is_unsigned ty = (ty == 1) || (ty == 3)

-- What a token is in a condition: names that are left are 0, and characters and signed numbers are signed.
abbrev pub term_of_kind : TokenKind → Term
term_of_kind (kind.Name n) = term.Value 0 false
term_of_kind (kind.Number value ty) = term.Value value (is_unsigned ty)
term_of_kind (kind.Char c) = term.Value (cast_unsigned w64 c) false
term_of_kind (kind.Mark n) = term.Mark n
term_of_kind (kind.Rest rest) = term.Stray

abbrev pub term_of : Item → Term
term_of t = term_of_kind t.token.kind

-- whether a condition holds; 119: it is malformed; 120: it divides by zero in an operand that is evaluated
abbrev pub held : Place → Judged → Result Bool Offence
held place (judged.Value bits unsigned) = Ok (not (bits == 0))
held place judged.Malformed = Err (offence 119 place)
held place judged.DividesByZero = Err (offence 120 place)

-- Whether the condition of a directive at a place holds, or its first offence, which one of a macro is, or 121: there are over 256 tokens after macros are replaced.
pub data Holds (entries : List Entry) (place : Place) (ts : List Item) : Result Bool Offence → Type 0 where
  stopped : (e : Offence) → Expands entries (limit.Tokens 256 (offence 121 place)) ts (Err e) → Holds entries place ts (Err e)
  decided : (out : List Item) (j : Judged) (v : Result Bool Offence) → Expands entries (limit.Tokens 256 (offence 121 place)) ts (Ok out) → Judges (map term_of out) j → v ≡ held place j → Holds entries place ts v
