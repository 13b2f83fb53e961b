use Rattle.std.proofs.lemmas.Result.{err_from_is_err_and}
use Rattle.cl_parse.proofs.Externals.{body_at, body_refused, end_at, end_refused}
use Rattle.cl_parse.proofs.file_scope.behind_params.Goals as goal

pub returns-in_ok-body-clause-ok : goal.returns-in_ok-body-clause-ok
returns-in_ok-body-clause-ok c = body_at _ _ _ _ _ c.if-begins_body.ensures c.in_ok-body.ensures.ok.read c.in_ok-body.ensures.ok.tree

pub returns-in_err-body-clause-out : goal.returns-in_err-body-clause-out
returns-in_err-body-clause-out c =
    let p = err_from_is_err_and c.from_residual.result c.from_residual.ensures.1 in
    rw (p.1, p.2) (body_refused _ _ _ _ c.if-begins_body.ensures c.in_err-body.ensures.out)

pub returns-in_ok-next-clause-ok : goal.returns-in_ok-next-clause-ok
returns-in_ok-next-clause-ok c = end_at _ _ _ _ c.requires.ends c.if-begins_body.ensures c.in_ok-next.ensures.ok c.in_ok-next.ensures.next

pub returns-in_err-next-clause-out : goal.returns-in_err-next-clause-out
returns-in_err-next-clause-out c =
    let p = err_from_is_err_and c.from_residual-in_err-next.result c.from_residual-in_err-next.ensures.1 in
    rw (p.1, p.2) (end_refused _ _ _ _ c.requires.within c.if-begins_body.ensures c.in_err-next.ensures.out)
