use Rattle.std.proofs.Common.{refl}
use Rattle.std.proofs.lemmas.Result.{err_from_is_err_and}
use Rattle.cl_parse.proofs.Externals.{refused_name, refused_open, refused_params, refused_close, refused_end, function_at}
use Rattle.cl_parse.proofs.AttributeSteps.{mark_within}
use Rattle.cl_parse.proofs.file_scope.function.Goals as goal

pub returns-in_err-name_end-clause-out : goal.returns-in_err-name_end-clause-out
returns-in_err-name_end-clause-out c =
    let p = err_from_is_err_and c.from_residual.result c.from_residual.ensures.1 in
    rw (p.1, p.2) (refused_name _ _ _ c.requires.within c.in_err-name_end.ensures.out)

pub returns-in_err-inside-clause-out : goal.returns-in_err-inside-clause-out
returns-in_err-inside-clause-out c =
    let p = err_from_is_err_and c.from_residual-in_err-inside.result c.from_residual-in_err-inside.ensures.1 in
    rw (p.1, p.2) (refused_open _ _ _ _ c.requires.ends c.in_ok-name_end.ensures.next c.in_ok-name_end.ensures.ok c.in_err-inside.ensures.out)

pub returns-in_err-list-clause-out : goal.returns-in_err-list-clause-out
returns-in_err-list-clause-out c =
    let p = err_from_is_err_and c.from_residual-in_err-list.result c.from_residual-in_err-list.ensures.1 in
    rw (p.1, p.2) (refused_params _ _ _ _ _ c.requires.ends c.in_ok-name_end.ensures.next c.in_ok-inside.ensures.next c.in_ok-name_end.ensures.ok c.in_ok-inside.ensures.ok c.in_err-list.ensures.out)

pub returns-in_err-close_end-clause-out : goal.returns-in_err-close_end-clause-out
returns-in_err-close_end-clause-out c =
    let p = err_from_is_err_and c.from_residual-in_err-close_end.result c.from_residual-in_err-close_end.ensures.1 in
    rw (p.1, p.2) (refused_close _ _ _ _ _ _ _ _ c.requires.ends c.in_ok-name_end.ensures.next c.in_ok-inside.ensures.next c.in_ok-name_end.ensures.ok c.in_ok-inside.ensures.ok c.in_ok-list.ensures.ok c.in_err-close_end.ensures.out)

pub returns-in_err-body-clause-out : goal.returns-in_err-body-clause-out
returns-in_err-body-clause-out c =
    let p = err_from_is_err_and c.from_residual-in_err-body.result c.from_residual-in_err-body.ensures.1 in
    rw (p.1, p.2) (refused_end _ _ _ _ _ _ _ _ _ c.requires.ends c.in_ok-name_end.ensures.next c.in_ok-inside.ensures.next c.in_ok-close_end.ensures.next c.in_ok-name_end.ensures.ok c.in_ok-inside.ensures.ok c.in_ok-list.ensures.ok c.in_ok-close_end.ensures.ok c.in_err-body.ensures.out)

pub returns-clause-ok : goal.returns-clause-ok
returns-clause-ok c = function_at _ _ _ _ _ _ _ _ _ _ _ _ c.requires.ends c.in_ok-name_end.ensures.next c.in_ok-inside.ensures.next c.in_ok-close_end.ensures.next c.in_ok-name_end.ensures.ok c.in_ok-name.ensures c.place-place.ensures c.in_ok-inside.ensures.ok c.in_ok-list.ensures.ok c.in_ok-close_end.ensures.ok c.in_ok-body.ensures.ok

pub expect-requires-2-clause-within : goal.expect-requires-2-clause-within
expect-requires-2-clause-within c = mark_within _ _ _ _ c.requires.ends c.in_ok-name_end.ensures.ok c.in_ok-name_end.ensures.next refl

pub params-requires-clause-within : goal.params-requires-clause-within
params-requires-clause-within c = mark_within _ _ _ _ c.requires.ends c.in_ok-inside.ensures.ok c.in_ok-inside.ensures.next refl

pub expect-requires-3-clause-within : goal.expect-requires-3-clause-within
expect-requires-3-clause-within c = let a = c.in_ok-list.ensures.ok in let g = a.reads in g.within

pub behind_params-requires-clause-within : goal.behind_params-requires-clause-within
behind_params-requires-clause-within c = mark_within _ _ _ _ c.requires.ends c.in_ok-close_end.ensures.ok c.in_ok-close_end.ensures.next refl
