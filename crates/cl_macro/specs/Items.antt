-- Tokens with the names that are hidden from them.
use Rattle.std.specs.Prelude.{ℕ, ◌&&◌, ◌==◌, Bool, true, false, List, [], ◌∷◌}
use Rattle.clv_place.specs.declared.place.Place.{Place}
use Rattle.clv_place.specs.declared.stop.Offence.{Offence}
use Rattle.cl_lexer.specs.declared.token.Token.{Token}
use Rattle.cl_lexer.specs.declared.token.TokenKind.{TokenKind}
use Rattle.cl_lexer.specs.declared.token.TokenKind.TheVariants as kind
use Rattle.cl_macro.specs.declared.item.Item.{Item}

abbrev pub offence : ℕ → Place → Offence
offence code place = record { code = code; place = place }

-- whether a token is the mark of a number: 2 is `#`, 8 `(`, 9 `)` and 15 `,`
abbrev pub is_mark : ℕ → TokenKind → Bool
is_mark n (kind.Mark m) = m == n
is_mark n _ = false

-- the token at a place
abbrev pub placed : Place → Token → Token
placed place t = record { kind = t.kind; place = place; first = t.first; spaced = t.spaced }

-- a token that does not stand in the text itself, and from which nothing is hidden
abbrev pub fresh : Token → Item
fresh t = record { token = t; hidden = []; raw = false }

-- a token of the text itself
abbrev pub of_text : Token → Item
of_text t = record { token = t; hidden = []; raw = true }

-- It is the first token of a line of the text.
abbrev pub begins_line : Item → Bool
begins_line t = t.raw && t.token.first

-- It begins a directive: it is a `#`, and the first token of a line of the text itself (C99 6.10). What comes from a macro begins none (6.10.3.4).
abbrev pub begins_directive : Item → Bool
begins_directive t = begins_line t && is_mark 2 t.token.kind
