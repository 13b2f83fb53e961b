use Rattle.std.proofs.Common.{refl}
use Rattle.std.proofs.lemmas.Result.{err_from_is_err_and}
use Rattle.cl_parse.proofs.AttributeSteps.{mark_within, size_at, size_unclosed, size_half_closed}
use Rattle.cl_parse.proofs.word.size.Goals as goal

pub returns-in_err-args-clause-out : goal.returns-in_err-args-clause-out
returns-in_err-args-clause-out c =
    let p = err_from_is_err_and c.from_residual.result c.from_residual.ensures.1 in
    rw (p.1, p.2) (c.in_err-args.ensures.out)

pub expect-requires-clause-within : goal.expect-requires-clause-within
expect-requires-clause-within c = let a = c.in_ok-args.ensures.ok in let g = a.reads in g.within

pub returns-in_err-second-clause-out : goal.returns-in_err-second-clause-out
returns-in_err-second-clause-out c =
    let p = err_from_is_err_and c.from_residual-in_err-second.result c.from_residual-in_err-second.ensures.1 in
    rw (p.1, p.2) (size_unclosed _ _ _ _ _ c.in_ok-args.ensures.ok c.in_err-second.ensures.out)

pub expect-requires-2-clause-within : goal.expect-requires-2-clause-within
expect-requires-2-clause-within c = mark_within _ _ _ _ c.requires.ends c.in_ok-second.ensures.ok c.in_ok-second.ensures.next refl

pub returns-in_err-next-clause-out : goal.returns-in_err-next-clause-out
returns-in_err-next-clause-out c =
    let p = err_from_is_err_and c.from_residual-in_err-next.result c.from_residual-in_err-next.ensures.1 in
    rw (p.1, p.2) (size_half_closed _ _ _ _ _ _ c.requires.ends c.in_ok-args.ensures.ok c.in_ok-second.ensures.ok c.in_ok-second.ensures.next c.in_err-next.ensures.out)

pub returns-clause-ok : goal.returns-clause-ok
returns-clause-ok c = size_at _ _ _ _ _ _ c.requires.ends c.in_ok-args.ensures.ok c.in_ok-second.ensures.ok c.in_ok-second.ensures.next c.in_ok-next.ensures.ok c.in_ok-next.ensures.next
