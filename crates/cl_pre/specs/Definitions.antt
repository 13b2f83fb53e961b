-- What a `#define` defines (C99 6.10.3).
use Rattle.std.specs.Prelude.{ℕ, ◌+◌, ◌&&◌, ◌==◌, Bool, true, false, not, if◌then◌else◌, List, [], ◌∷◌, ◌++◌, drop, Option, Some, None, Result, Ok, Err, bytes_eq}
use Rattle.std.specs.Ordering.{int_eq}
use Rattle.cl_lexer.specs.declared.token.Token.{Token}
use Rattle.cl_lexer.specs.declared.token.TokenKind.{TokenKind}
use Rattle.cl_lexer.specs.declared.token.TokenKind.TheVariants as kind
use Rattle.cl_macro.specs.declared.macros.Entry.{Entry}
use Rattle.cl_macro.specs.declared.macros.Macro.{Macro}
use Rattle.cl_macro.specs.Items.{is_mark}
use Rattle.cl_macro.specs.Names.{Name, has}
use Rattle.cl_macro.specs.Tables.{look_up}
use Rattle.cl_pre.specs.declared.definition.Parameters.{Parameters}
use Rattle.cl_pre.specs.Predefined.{is_predefined}
use Rattle.cl_pre.specs.Words.{is_defined_word}

-- whether two tokens are the same: numbers are where their values and types are
abbrev pub same_kind : TokenKind → TokenKind → Bool
same_kind (kind.Name a) (kind.Name b) = bytes_eq a b
same_kind (kind.Number v t) (kind.Number w u) = (v == w) && (t == u)
same_kind (kind.Char a) (kind.Char b) = int_eq a b
same_kind (kind.Mark a) (kind.Mark b) = a == b
same_kind (kind.Rest a) (kind.Rest b) = bytes_eq a b
same_kind _ _ = false

abbrev pub same_kinds : List Token → List Token → Bool
same_kinds [] [] = true
same_kinds (a ∷ more) (b ∷ bs) = if same_kind a.kind b.kind then same_kinds more bs else false
same_kinds _ _ = false

abbrev pub same_names : List Name → List Name → Bool
same_names [] [] = true
same_names (m ∷ ms) (n ∷ ns) = if bytes_eq m n then same_names ms ns else false
same_names _ _ = false

abbrev pub same_params : Option (List Name) → Option (List Name) → Bool
same_params None None = true
same_params (Some ms) (Some ns) = same_names ms ns
same_params _ _ = false

-- whether two macros have the same parameters and the same tokens
abbrev pub same_macro : Macro → Macro → Bool
same_macro a b = if same_params a.params b.params then same_kinds a.body b.body else false

abbrev pub has_hash : List Token → Bool
has_hash [] = false
has_hash (t ∷ ts) = if is_mark 2 t.kind then true else has_hash ts

abbrev pub repeats : List Name → Bool
repeats [] = false
repeats (n ∷ ns) = if has n ns then true else repeats ns

abbrev pub repeats_any : Option (List Name) → Bool
repeats_any None = false
repeats_any (Some names) = repeats names

abbrev pub is_name : TokenKind → Bool
is_name (kind.Name n) = true
is_name _ = false

-- the name of a token that is a name
abbrev pub name_of : TokenKind → Name
name_of (kind.Name n) = n
name_of _ = []

-- Parameters up to the `)`, behind others, where so many tokens are read: a name is wanted, or else a `,` or the `)` behind one.
abbrev pub params_from : List Name → Bool → ℕ → List Token → Option Parameters
params_from front wants_name n [] = None
params_from front wants_name n (t ∷ ts) =
    if wants_name then (if is_name t.kind then params_from (front ++ name_of t.kind ∷ []) false (n + 1) ts else None)
    else if is_mark 9 t.kind then Some (record { names = front; length = n + 1 })
    else if is_mark 15 t.kind then params_from front true (n + 1) ts
    else None

-- the parameters behind the `(`, or none
abbrev pub params_in : List Token → Option Parameters
params_in [] = None
params_in (t ∷ ts) = if is_mark 9 t.kind then Some (record { names = []; length = 1 }) else params_from [] true 0 (t ∷ ts)

-- whether a `(` follows a name with no space between
abbrev pub opens_parameters : List Token → Bool
opens_parameters [] = false
opens_parameters (t ∷ ts) = is_mark 8 t.kind && not t.spaced

abbrev pub with_parameters : List Token → Option Parameters → Option Macro
with_parameters ts None = None
with_parameters ts (Some p) = Some (record { params = Some p.names; body = drop p.length ts })

-- the macro that these tokens behind its name make, unless its parameters are malformed
abbrev pub form_of : List Token → Option Macro
form_of ts = if opens_parameters ts then with_parameters (drop 1 ts) (params_in (drop 1 ts)) else Some (record { params = None; body = ts })

abbrev pub differs : Macro → Option Macro → Bool
differs m None = false
differs m (Some old) = not (same_macro old m)

-- 113: it is defined with other tokens, or predefined
abbrev pub clashes : List Entry → Name → Macro → Bool
clashes entries n m = if is_predefined n then true else differs m (look_up n entries)

-- The least code of those that a definition offends by, if any: 110 a `#` in the replacement, 111 the name `defined`, 112 a parameter that repeats, 113.
abbrev pub code_of : List Entry → Name → Macro → Option ℕ
code_of entries n m =
    if has_hash m.body then Some 110
    else if is_defined_word n then Some 111
    else if repeats_any m.params then Some 112
    else if clashes entries n m then Some 113
    else None

abbrev pub unless : Entry → Option ℕ → Result Entry ℕ
unless e None = Ok e
unless e (Some code) = Err code

-- a name and its form: 111 before 112 where the form is malformed
abbrev pub defined_as : List Entry → Name → Option Macro → Result Entry ℕ
defined_as entries n None = Err (if is_defined_word n then 111 else 112)
defined_as entries n (Some m) = unless (record { name = n; means = Some m }) (code_of entries n m)

-- what stands behind `#define`: 111 where no name does
abbrev pub definition_of : List Entry → List Token → Result Entry ℕ
definition_of entries [] = Err 111
definition_of entries (t ∷ ts) = if is_name t.kind then defined_as entries (name_of t.kind) (form_of ts) else Err 111

abbrev pub alone : Name → List Token → Result Name ℕ
alone n [] = if is_defined_word n then Err 111 else Ok n
alone n (t ∷ ts) = if is_defined_word n then Err 111 else Err 122

-- the one name that stands behind `#undef`, `#ifdef` or `#ifndef`: 111 where none does, 122 where more follows
abbrev pub lone_name : List Token → Result Name ℕ
lone_name [] = Err 111
lone_name (t ∷ ts) = if is_name t.kind then alone (name_of t.kind) ts else Err 111
