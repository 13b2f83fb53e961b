use Rattle.std.proofs.Common.{ap, sym, ◌∙◌}
use Rattle.cl_grammar.specs.Lexemes.{lexemes_of}
use Rattle.cl_parse.proofs.Verdicts.{seen_front, seen_room}
use Rattle.cl_parse.proofs.verdict.parse.Goals as goal

pub front-seen-requires : goal.front-seen-requires
front-seen-requires c = seen_room c.args.tokens.now.list _ c.args.tokens.now.end _ _ _ c.len.ensures c.as_slice-2.ensures c.in_ok-all.ensures c.as_slice.ensures

pub light-requires-clause-all : goal.light-requires-clause-all
light-requires-clause-all c = c.as_slice-in-None.ensures ∙ c.in_ok-all.ensures ∙ ap (λ z. lexemes_of z c.args.tokens.now.end) c.as_slice.ensures

pub light-requires-clause-seen : goal.light-requires-clause-seen
light-requires-clause-seen c = seen_front _ _ c.args.tokens.now.end _ _ _ _ c.front-seen.ensures c.len.ensures c.as_slice-2.ensures c.in_ok-all.ensures c.as_slice.ensures

pub light-requires-clause-light : goal.light-requires-clause-light
light-requires-clause-light c = sym c.in_ok-first_over.ensures ∙ c.in-None.is

pub returns-in-None : goal.returns-in-None
returns-in-None c = c.light.ensures

pub too_heavy-requires-clause-seen : goal.too_heavy-requires-clause-seen
too_heavy-requires-clause-seen c = seen_front _ _ c.args.tokens.now.end _ _ _ _ c.front-seen.ensures c.len.ensures c.as_slice-2.ensures c.in_ok-all.ensures c.as_slice.ensures

pub too_heavy-requires-clause-over : goal.too_heavy-requires-clause-over
too_heavy-requires-clause-over c = sym c.in_ok-first_over.ensures ∙ c.in-Some.is

pub returns : goal.returns
returns c = c.too_heavy.ensures
