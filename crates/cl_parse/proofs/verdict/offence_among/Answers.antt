use Rattle.std.proofs.Common.{take, ap, refl, ◌∙◌}
use Rattle.cl_parse.proofs.Verdicts.{among_end, among_none, among_stands, refusal_of}
use Rattle.cl_parse.proofs.verdict.offence_among.Goals as goal

pub unit-requires : goal.unit-requires
unit-requires c = c.as_slice-2.ensures ∙ c.in_ok-all.ensures

pub returns-in-Ok : goal.returns-in-Ok
returns-in-Ok c = among_none _ c.front-list.result.now _ c.in-Ok.field-0.externals (c.front-list.ensures ∙ ap (take c.args.count) c.as_slice.ensures) c.in-Ok.ensures.tree

pub returns-then-at-count : goal.returns-then-at-count
returns-then-at-count c = among_stands _ c.front-list.result.now _ _ (c.front-list.ensures ∙ ap (take c.args.count) c.as_slice.ensures) c.requires c.if-at-count.true (refusal_of _ _ _ c.in-Err-Out.at refl c.in-Err-Out.field-0-is c.in-Err-Out.ensures.out)

pub returns-in-Err-Out : goal.returns-in-Err-Out
returns-in-Err-Out c = among_end _ c.front-list.result.now _ c.in-Err-Out.at (c.front-list.ensures ∙ ap (take c.args.count) c.as_slice.ensures) c.requires c.if-at-count.false (refusal_of _ _ _ c.in-Err-Out.at refl c.in-Err-Out.field-0-is c.in-Err-Out.ensures.out)
