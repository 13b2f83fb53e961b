-- What a directive does (C99 6.10).
use Rattle.std.specs.Prelude.{ℕ, ◌&&◌, ◌==◌, Bool, true, false, not, is_some, if◌then◌else◌, List, [], ◌∷◌, Option, Some, None, Result, Ok, Err}
use Rattle.cl_lexer.specs.declared.token.Token.{Token}
use Rattle.cl_macro.specs.declared.macros.Entry.{Entry}
use Rattle.cl_macro.specs.Names.{Name}
use Rattle.cl_macro.specs.Tables.{look_up}
use Rattle.cl_pre.specs.declared.directive.Effect.{Effect}
use Rattle.cl_pre.specs.declared.directive.Effect.TheVariants as effect
use Rattle.cl_pre.specs.declared.group.Group.{Group}
use Rattle.cl_pre.specs.declared.word.Word.{Word}
use Rattle.cl_pre.specs.declared.word.Word.TheVariants as word
use Rattle.cl_pre.specs.Conditions.{condition_from}
use Rattle.cl_pre.specs.Definitions.{definition_of, lone_name}
use Rattle.cl_pre.specs.Groups.{opened, nested, behind_else, passed, is_read}
use Rattle.cl_pre.specs.Words.{word_of}

-- Effect: nothing; an entry for the table; a group opens within the others; the innermost group turns into this one; it closes; a condition is to be judged, for a group that opens, or that stands for the innermost one; or a code, of an offence at the `#`.

abbrev pub defines : Result Entry ℕ → Effect
defines (Ok e) = effect.Defines e
defines (Err code) = effect.Fails code

-- `#undef`, also of a name that names no macro
abbrev pub undefines : Result Name ℕ → Effect
undefines (Ok n) = effect.Defines (record { name = n; means = None })
undefines (Err code) = effect.Fails code

-- `#ifdef`, and `#ifndef`, by whether the name is to be defined
abbrev pub tested : List Entry → Bool → Result Name ℕ → Effect
tested entries wanted (Ok n) = effect.Opens (opened (if wanted then is_some (look_up n entries) else not (is_some (look_up n entries))))
tested entries wanted (Err code) = effect.Fails code

-- 116: it has no `#if`, or comes behind the `#else`; behind a group that was taken its condition is not read
abbrev pub elif_of : List Entry → Option Group → List Token → Effect
elif_of entries None ts = effect.Fails 116
elif_of entries (Some g) ts =
    if g.after_else then effect.Fails 116
    else if g.taken then effect.Turns (passed g)
    else effect.AsksAgain (condition_from entries [] 0 ts)

abbrev pub is_empty : List Token → Bool
is_empty [] = true
is_empty (t ∷ ts) = false

-- 122: tokens follow, where the `#if` itself is read
abbrev pub has_excess : Group → List Token → Bool
has_excess g ts = g.outer && not (is_empty ts)

abbrev pub else_of : Option Group → List Token → Effect
else_of None ts = effect.Fails 116
else_of (Some g) ts =
    if g.after_else then effect.Fails 116
    else if has_excess g ts then effect.Fails 122
    else effect.Turns (behind_else g)

abbrev pub endif_of : Option Group → List Token → Effect
endif_of None ts = effect.Fails 116
endif_of (Some g) ts = if has_excess g ts then effect.Fails 122 else effect.Closes

-- in a group that is read
abbrev pub read_by : Word → List Entry → Option Group → List Token → Effect
read_by word.If entries top ts = effect.Asks (condition_from entries [] 0 ts)
read_by word.Ifdef entries top ts = tested entries true (lone_name ts)
read_by word.Ifndef entries top ts = tested entries false (lone_name ts)
read_by word.Elif entries top ts = elif_of entries top ts
read_by word.Else entries top ts = else_of top ts
read_by word.Endif entries top ts = endif_of top ts
read_by word.Define entries top ts = defines (definition_of entries ts)
read_by word.Undef entries top ts = undefines (lone_name ts)
read_by word.Error entries top ts = effect.Fails 118
read_by word.Pragma entries top ts = effect.Nothing
read_by word.Unknown entries top ts = effect.Fails 110

-- in a group that is skipped: only conditional directives, and of those that open one only the name
abbrev pub skipped_by : Word → List Entry → Option Group → List Token → Effect
skipped_by word.If entries top ts = effect.Opens nested
skipped_by word.Ifdef entries top ts = effect.Opens nested
skipped_by word.Ifndef entries top ts = effect.Opens nested
skipped_by word.Elif entries top ts = elif_of entries top ts
skipped_by word.Else entries top ts = else_of top ts
skipped_by word.Endif entries top ts = endif_of top ts
skipped_by word.Define entries top ts = effect.Nothing
skipped_by word.Undef entries top ts = effect.Nothing
skipped_by word.Error entries top ts = effect.Nothing
skipped_by word.Pragma entries top ts = effect.Nothing
skipped_by word.Unknown entries top ts = effect.Nothing

-- what the tokens of a line behind its `#` do, within an innermost open group
abbrev pub effect_of : List Entry → Option Group → List Token → Effect
effect_of entries top [] = effect.Nothing
effect_of entries top (t ∷ ts) = if is_read top then read_by (word_of t.kind) entries top ts else skipped_by (word_of t.kind) entries top ts
