-- A token of a terminal, and some declarations of such tokens.
use Rattle.std.proofs.Common.{Bool, true, [], ◌∷◌, refl}
use Rattle.cl_grammar.specs.declared.lexeme.Lexeme.{Lexeme}
use Rattle.cl_grammar.specs.declared.terminal.Terminal.{Terminal}
use Rattle.cl_grammar.specs.declared.terminal.Terminal.TheVariants as t
use Rattle.cl_grammar.specs.DeclarationSymbols as d
use Rattle.cl_grammar.specs.DeclarationSymbols.{IsBehindParam, IsParams, IsFunction}

abbrev pub token : Terminal → Lexeme
token terminal = record { terminal = terminal; text = []; place = record { line = 1; col = 1 } }

pub closed : (named : Bool) → IsBehindParam named (token t.CloseParen ∷ token t.Semicolon ∷ [])
closed named = d.close named (token t.CloseParen) _ refl (d.declared named (token t.Semicolon) refl)

pub no_params : IsParams (token t.CloseParen ∷ token t.Semicolon ∷ [])
no_params = d.no_param (token t.CloseParen) (token t.Semicolon ∷ []) refl (d.declared true (token t.Semicolon) refl)

pub some_function : IsFunction (token t.Name ∷ token t.OpenParen ∷ token t.CloseParen ∷ token t.Semicolon ∷ [])
some_function = d.function (token t.Name) (token t.OpenParen) _ refl refl no_params
