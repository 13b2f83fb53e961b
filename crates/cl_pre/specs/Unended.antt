-- Conditional directives that are not ended.
use Rattle.std.specs.Prelude.{ℕ, ◌+◌, ◌-◌, ◌==◌, ◌&&◌, Bool, true, false, if◌then◌else◌, List, [], ◌∷◌, Option, Some, None}
use Rattle.clv_place.specs.declared.place.Place.{Place}
use Rattle.cl_lexer.specs.declared.token.Token.{Token}
use Rattle.cl_macro.specs.Items.{is_mark}
use Rattle.cl_pre.specs.declared.word.Word.{Word}
use Rattle.cl_pre.specs.declared.word.Word.TheVariants as word
use Rattle.cl_pre.specs.Words.{word_of}

abbrev pub is_hash : Token → Bool
is_hash t = t.first && is_mark 2 t.kind

-- the directive that the first of these tokens names, unless it begins a line of its own
abbrev pub word_behind : List Token → Word
word_behind [] = word.Unknown
word_behind (t ∷ ts) = if t.first then word.Unknown else word_of t.kind

-- the directive that a token begins with those behind it
abbrev pub word_at : Token → List Token → Word
word_at t ts = if is_hash t then word_behind ts else word.Unknown

abbrev pub opens_group : Word → Bool
opens_group word.If = true
opens_group word.Ifdef = true
opens_group word.Ifndef = true
opens_group _ = false

abbrev pub closes_group : Word → Bool
closes_group word.Endif = true
closes_group _ = false

-- the outermost of so many open `#if`s, behind a directive that opens one at a place, or closes one
abbrev pub outer_behind : Option Place → ℕ → Place → Option Place
outer_behind outer depth place = if depth == 0 then Some place else outer

abbrev pub outer_left : Option Place → ℕ → Option Place
outer_left outer depth = if depth - 1 == 0 then None else outer

-- The place of the outermost `#if` that no `#endif` ends, by the names of the directives of these tokens alone, where so many are open before, the outermost there.
abbrev pub unended_from : Option Place → ℕ → List Token → Option Place
unended_from outer depth [] = outer
unended_from outer depth (t ∷ ts) =
    if opens_group (word_at t ts) then unended_from (outer_behind outer depth t.place) (depth + 1) ts
    else if closes_group (word_at t ts) then unended_from (outer_left outer depth) (depth - 1) ts
    else unended_from outer depth ts
