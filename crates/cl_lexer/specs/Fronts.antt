-- What stands first in a text whose lines are joined.
use Rattle.std.specs.Prelude.{ℕ, suc, ◌+◌, ◌&&◌, ◌||◌, Bool, true, false, ◌==◌, if◌then◌else◌, List, [], ◌∷◌, length, drop, take_while, Option, Some, None, option_map, slice_index, codes, bytes_eq}
use Rattle.std.specs.Char.{is_ascii_digit}
use Rattle.cl_lexer.specs.declared.token.TokenKind.{TokenKind}
use Rattle.cl_lexer.specs.declared.token.TokenKind.TheVariants as kind
use Rattle.cl_lexer.specs.declared.character.Spelled.{Spelled}
use Rattle.cl_lexer.specs.declared.number.Number.{Number}
use Rattle.cl_lexer.specs.declared.front.Front.{Front}
use Rattle.cl_lexer.specs.declared.front.Front.TheVariants as stands
use Rattle.cl_lexer.specs.declared.front.Stage.{Stage}
use Rattle.cl_lexer.specs.declared.front.Stage.TheVariants.{Beginning, Hash, Message, Inside}
use Rattle.cl_lexer.specs.Bytes.{is_letter, is_word, is_number_part, is_separator, is_on_line}
use Rattle.cl_lexer.specs.Characters.{character_of, char_value}
use Rattle.cl_lexer.specs.Marks.{mark_of, mark_length}
use Rattle.cl_lexer.specs.Numbers.{number_of}

-- Front: the end; the end of a line; so many bytes of a separator or a comment; a token of a kind and a length; or an offence.
-- Stage: the line has no token yet; only `#`; only `#error` or `#pragma`; or others.

-- what stands up to the end of the line
abbrev pub line_of : List ℕ → List ℕ
line_of text = take_while is_on_line text

abbrev pub word_front : List ℕ → Front
word_front word = stands.Begins (kind.Name word) (length word)

-- 103: a malformed number, or one with no type
abbrev pub number_front : ℕ → Option Number → Front
number_front n (Some number) = stands.Begins (kind.Number number.value number.ty) n
number_front n None = stands.Bad 103

-- 104: a malformed character literal
abbrev pub character_front : Option Spelled → Front
character_front (Some s) = stands.Begins (kind.Char (char_value s.value)) (s.length + 2)
character_front None = stands.Bad 104

-- how many bytes there are up to the first `*/`, and with it
abbrev pub comment_end : List ℕ → Option ℕ
comment_end [] = None
comment_end (b ∷ bs) = if (b == 42) && (slice_index bs 0 == 47) then Some 2 else option_map suc (comment_end bs)

-- 102: a comment that is not ended
abbrev pub comment_front : Option ℕ → Front
comment_front (Some n) = stands.Apart (n + 2)
comment_front None = stands.Bad 102

-- 101: a byte that begins nothing
abbrev pub mark_front : Option ℕ → Front
mark_front (Some n) = stands.Begins (kind.Mark n) (mark_length n)
mark_front None = stands.Bad 101

-- Behind a slash `/` begins a comment up to the end of the line, and `*` one up to `*/` (C99 6.4.9).
abbrev pub slash_front : ℕ → List ℕ → Front
slash_front b text =
    if b == 47 then stands.Apart (length (line_of text))
    else if b == 42 then comment_front (comment_end (drop 2 text))
    else mark_front (mark_of text)

-- by the first byte: 10 is LF, 39 a quote and 47 a slash
abbrev pub front_at : ℕ → List ℕ → Front
front_at b text =
    if b == 10 then stands.LineEnd
    else if is_separator b then stands.Apart 1
    else if is_letter b then word_front (take_while is_word text)
    else if is_ascii_digit b then number_front (length (take_while is_number_part text)) (number_of (take_while is_number_part text))
    else if b == 39 then character_front (character_of (drop 1 text))
    else if b == 47 then slash_front (slice_index text 1) text
    else mark_front (mark_of text)

-- behind `#error` or `#pragma` all that the line still has is one token
abbrev pub is_message : Stage → Bool
is_message Message = true
is_message _ = false

abbrev pub rest_front : List ℕ → Front
rest_front line = stands.Begins (kind.Rest line) (length line)

abbrev pub front_in : List ℕ → Front
front_in [] = stands.End
front_in (b ∷ bs) = front_at b (b ∷ bs)

-- what stands first at a stage of a line
unfoldable pub front_of : Stage → List ℕ → Front
front_of stage text = if is_message stage then rest_front (line_of text) else front_in text

abbrev pub is_message_name : List ℕ → Bool
is_message_name name = bytes_eq name (codes "error") || bytes_eq name (codes "pragma")

-- the stage of a line behind one more token; 2 is the number of `#`
abbrev pub stage_after : Stage → TokenKind → Stage
stage_after Beginning (kind.Mark n) = if n == 2 then Hash else Inside
stage_after Hash (kind.Name name) = if is_message_name name then Message else Inside
stage_after _ _ = Inside

abbrev pub is_beginning : Stage → Bool
is_beginning Beginning = true
is_beginning _ = false
