use Rattle.std.proofs.Common.{ap, sym, ◌∙◌, subst}
use Rattle.std.specs.Prelude.{[]}
use Rattle.cl_grammar.specs.Lexemes.{lexemes_of}
use Rattle.cl_grammar.specs.Units.{UnitTree, seen_as}
use Rattle.cl_parse.proofs.Verdicts.{is_parsed, refusal_of, refusal_within, refused_light}
use Rattle.cl_parse.proofs.verdict.light.Goals as goal

pub unit-requires : goal.unit-requires
unit-requires c = c.requires.all ∙ ap (λ z. lexemes_of z c.args.tokens.now.end) (sym c.as_slice.ensures)

pub offence-requires : goal.offence-requires
offence-requires c = refusal_within c.args.tokens.now.list _ _ c.requires.seen (refusal_of _ _ _ c.in-Err-Out.at c.as_slice.ensures c.in-Err-Out.field-0-is c.in-Err-Out.ensures.out)

pub returns-in-Ok : goal.returns-in-Ok
returns-in-Ok c = is_parsed _ _ _ c.requires.seen c.requires.light (subst (λ z. UnitTree [] (seen_as z) c.in-Ok.ast.externals) c.as_slice.ensures c.in-Ok.ensures.tree)

pub returns-in-Err-Out : goal.returns-in-Err-Out
returns-in-Err-Out c = refused_light _ _ c.in-Err-Out.at _ c.requires.seen c.requires.light (refusal_of _ _ _ c.in-Err-Out.at c.as_slice.ensures c.in-Err-Out.field-0-is c.in-Err-Out.ensures.out) c.offence.ensures.code c.offence.ensures.place
