use Rattle.std.proofs.Common.{refl}
use Rattle.std.proofs.lemmas.Result.{err_from_is_err_and}
use Rattle.cl_grammar.proofs.Places.{more_tokens}
use Rattle.cl_parse.proofs.AttributeSteps.{read_within, arguments_at, no_arguments_at, arguments_refused, arguments_unclosed}
use Rattle.cl_parse.proofs.word.arguments.Goals as goal

pub args-requires-clause-within : goal.args-requires-clause-within
args-requires-clause-within c = more_tokens _ _ _ c.requires.ends c.if-is_at.ensures.stands refl

pub returns-in_err-args-clause-out : goal.returns-in_err-args-clause-out
returns-in_err-args-clause-out c =
    let p = err_from_is_err_and c.from_residual.result c.from_residual.ensures.1 in
    rw (p.1, p.2) (arguments_refused _ _ _ c.requires.ends c.if-is_at.ensures.stands c.in_err-args.ensures.out)

pub expect-requires-clause-within : goal.expect-requires-clause-within
expect-requires-clause-within c = read_within _ _ _ _ c.in_ok-args.ensures.read

pub returns-in_err-next-clause-out : goal.returns-in_err-next-clause-out
returns-in_err-next-clause-out c =
    let p = err_from_is_err_and c.from_residual-in_err-next.result c.from_residual-in_err-next.ensures.1 in
    rw (p.1, p.2) (arguments_unclosed _ _ _ _ c.requires.ends c.if-is_at.ensures.stands c.in_ok-args.ensures.read c.in_err-next.ensures.out)

pub returns-in_ok-next-clause-ok : goal.returns-in_ok-next-clause-ok
returns-in_ok-next-clause-ok c = arguments_at _ _ _ _ _ c.requires.ends c.if-is_at.ensures.stands c.in_ok-args.ensures.read c.in_ok-args.ensures.tree c.in_ok-next.ensures.ok c.in_ok-next.ensures.next

pub returns-else-is_at-clause-ok : goal.returns-else-is_at-clause-ok
returns-else-is_at-clause-ok c = rw c.new.ensures.items (no_arguments_at _ _ c.if-is_at.ensures.stands)
