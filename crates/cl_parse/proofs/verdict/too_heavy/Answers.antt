use Rattle.std.proofs.Common.{◌+◌, rules, subst}
use Rattle.cl_parse.specs.Verdicts.{Among}
use Rattle.cl_parse.proofs.Verdicts.{among_within, is_heavy, over_room, over_within, refused_heavy}
use Rattle.cl_parse.proofs.verdict.too_heavy.Goals as goal

pub overflow_add-over : goal.overflow_add-over
overflow_add-over c = let h = over_within c.args.seen.now c.args.over c.requires.over in search (rules, h)

pub offence_among-requires : goal.offence_among-requires
offence_among-requires c = over_room c.args.tokens.now.list c.args.seen.now c.args.over c.requires.seen c.requires.over

pub offence-requires : goal.offence-requires
offence-requires c = among_within c.args.tokens.now.list _ (c.args.over + 1) _ c.requires.seen (subst (Among c.args.tokens.now.list (c.args.over + 1)) c.in-Some.is c.in_ok-at.ensures)

pub returns-in-Some : goal.returns-in-Some
returns-in-Some c = refused_heavy _ _ c.args.over c.in-Some.at _ c.requires.seen c.requires.over (subst (Among c.args.tokens.now.list (c.args.over + 1)) c.in-Some.is c.in_ok-at.ensures) c.offence.ensures.code c.offence.ensures.place

pub returns-in-None : goal.returns-in-None
returns-in-None c = is_heavy _ _ c.args.over _ c.requires.seen c.requires.over (subst (Among c.args.tokens.now.list (c.args.over + 1)) c.in-None.is c.in_ok-at.ensures) c.place_at.ensures
