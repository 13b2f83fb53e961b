use Rattle.std.proofs.Common.{◌≡◌, map, take}
use Rattle.cl_grammar.specs.Lexemes.{lexeme_of}
use Rattle.cl_grammar.proofs.lexeme.lexemes.Given as goal

abbrev pub invariant-loop-token : goal.invariant-loop-token
invariant-loop-token l = l.lexemes ≡ map lexeme_of (take l.token-index l.tokens)
