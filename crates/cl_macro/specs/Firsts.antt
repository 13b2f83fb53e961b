-- What stands first in a list of tokens.
use Rattle.std.specs.Prelude.{ℕ, ◌+◌, ◌-◌, ◌&&◌, ◌==◌, Bool, true, false, if◌then◌else◌, List, [], ◌∷◌, ◌++◌, length, drop, Option, Some, None, Result, Ok, Err, slice_get}
use Rattle.cl_lexer.specs.declared.token.TokenKind.{TokenKind}
use Rattle.cl_lexer.specs.declared.token.TokenKind.TheVariants as kind
use Rattle.cl_macro.specs.declared.macros.Entry.{Entry}
use Rattle.cl_macro.specs.declared.macros.Macro.{Macro}
use Rattle.cl_macro.specs.declared.item.Item.{Item}
use Rattle.cl_macro.specs.declared.item.Arguments.{Arguments}
use Rattle.cl_macro.specs.declared.item.First.{First}
use Rattle.cl_macro.specs.declared.item.First.TheVariants as stands
use Rattle.cl_macro.specs.Items.{offence, is_mark, begins_directive}
use Rattle.cl_macro.specs.Names.{Name, has, with_name, common}
use Rattle.cl_macro.specs.Replacements.{Verdict, replacement, substituted}
use Rattle.cl_macro.specs.Tables.{latest, means_of}

-- First: the end; a token that stays, and the rest; a macro without parameters, and what stands in its place with the rest; an offence; or a call and its arguments.

-- whether a token ends the arguments, or one of them, where so many brackets are open in it; how many are open behind it
abbrev pub ends : TokenKind → ℕ → Bool
ends k depth = is_mark 9 k && (depth == 0)

abbrev pub parts : TokenKind → ℕ → Bool
parts k depth = is_mark 15 k && (depth == 0)

abbrev pub depth_behind : TokenKind → ℕ → ℕ
depth_behind k depth = if is_mark 8 k then depth + 1 else if is_mark 9 k then depth - 1 else depth

-- The arguments up to the `)` that ends them, behind arguments that are whole and the tokens of the present one, in which so many brackets are open; none where the list or the text before a directive ends first.
abbrev pub arguments : List (List Item) → List Item → ℕ → List Item → Option Arguments
arguments whole now depth [] = None
arguments whole now depth (t ∷ rest) =
    if begins_directive t then None
    else if ends t.token.kind depth then Some (record { list = whole ++ now ∷ []; hidden = t.hidden; beyond = rest })
    else if parts t.token.kind depth then arguments (whole ++ now ∷ []) [] 0 rest
    else arguments whole (now ++ t ∷ []) (depth_behind t.token.kind depth) rest

abbrev pub is_first_empty : List (List Item) → Bool
is_first_empty [] = false
is_first_empty (a ∷ rest) = length a == 0

-- whether so many parameters take these arguments; one argument without tokens counts for none too
abbrev pub takes : ℕ → List (List Item) → Bool
takes params args = if (params == 0) && (length args == 1) then is_first_empty args else params == length args

-- A call of a macro with so many parameters, by the entry where it stands and its name. 115: its arguments are not ended; 114: they are not as many as the parameters.
-- From its replacement are hidden the names that are hidden both from the name and from the `)`, and its own.
abbrev pub call_of : ℕ → ℕ → Name → Item → Option Arguments → First
call_of params at n t None = stands.Bad (offence 115 t.token.place)
call_of params at n t (Some a) =
    if takes params a.list
    then stands.Calls (record { at = at; place = t.token.place; hidden = with_name n (common t.hidden a.hidden); beyond = a.beyond }) a.list
    else stands.Bad (offence 114 t.token.place)

abbrev pub becomes : Verdict → List Item → First
becomes (Ok items) rest = stands.Becomes (items ++ rest)
becomes (Err e) rest = stands.Bad e

abbrev pub starts_open : List Item → Bool
starts_open [] = false
starts_open (t ∷ rest) = is_mark 8 t.token.kind

-- a name before a list, by the parameters of its macro: without `(` behind it, that of a macro with parameters stays
abbrev pub use_by : ℕ → Name → Item → List Item → Macro → Option (List Name) → First
use_by at n t rest m (Some params) = if starts_open rest then call_of (length params) at n t (arguments [] [] 0 (drop 1 rest)) else stands.Kept t rest
use_by at n t rest m None = becomes (replacement t.token.place (with_name n t.hidden) [] (substituted [] [] [] m.body)) rest

abbrev pub use_of : ℕ → Name → Item → List Item → Option Macro → First
use_of at n t rest None = stands.Kept t rest
use_of at n t rest (Some m) = use_by at n t rest m m.params

abbrev pub named : List Entry → Name → Item → List Item → Option ℕ → First
named entries n t rest None = stands.Kept t rest
named entries n t rest (Some at) = use_of at n t rest (means_of (slice_get entries at))

-- the name of a token that may be replaced: a name that is not hidden from itself (6.10.3.4)
abbrev pub open_name_by : List Name → TokenKind → Option Name
open_name_by hidden (kind.Name n) = if has n hidden then None else Some n
open_name_by hidden _ = None

abbrev pub open_name : Item → Option Name
open_name t = open_name_by t.hidden t.token.kind

abbrev pub first_by : List Entry → Item → List Item → Option Name → First
first_by entries t rest None = stands.Kept t rest
first_by entries t rest (Some n) = named entries n t rest (latest n entries)

abbrev pub first : List Entry → List Item → First
first entries [] = stands.End
first entries (t ∷ rest) = first_by entries t rest (open_name t)
