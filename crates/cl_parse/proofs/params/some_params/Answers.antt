use Rattle.std.proofs.Common.{ap, ◌∙◌}
use Rattle.std.specs.Prelude.{◌&&◌}
use Rattle.std.proofs.lemmas.Result.{err_from_is_err_and}
use Rattle.cl_parse.proofs.Parameters.{first_param, more_params, params_done, first_refused, more_refused}
use Rattle.cl_parse.proofs.params.some_params.Goals as goal

pub returns-in_err-first-clause-out : goal.returns-in_err-first-clause-out
returns-in_err-first-clause-out c =
    let p = err_from_is_err_and c.from_residual.result c.from_residual.ensures.1 in
    rw (p.1, p.2) (first_refused _ _ _ c.in_err-first.ensures.out)

pub loop-alloc-init : goal.loop-alloc-init
loop-alloc-init c = rw (c.in_ok-push.ensures.items, c.new-list.ensures.items) (first_param _ _ _ _ _ c.in_ok-first.ensures.ok c.has_name-named.ensures)

pub returns-in_err-another-clause-out : goal.returns-in_err-another-clause-out
returns-in_err-another-clause-out c =
    let p = err_from_is_err_and c.from_residual-in_err-another.result c.from_residual-in_err-another.ensures.1 in
    rw (p.1, p.2) (more_refused _ _ _ _ _ _ c.requires.ends c.loop-alloc.invariant c.loop-alloc-test.ensures.stands c.in_err-another.ensures.out)

pub loop-alloc-preserved : goal.loop-alloc-preserved
loop-alloc-preserved c =
    rw (c.in_ok-push-2.ensures.items) (more_params _ _ _ _ _ _ _ _ c.requires.ends c.loop-alloc.invariant c.loop-alloc-test.ensures.stands c.in_ok-another.ensures.ok (c.both-named.ensures ∙ ap (λ z. c.loop-alloc.named && z) c.has_name.ensures))

pub returns-clause-ok : goal.returns-clause-ok
returns-clause-ok c = params_done _ _ _ _ _ c.loop-alloc.invariant c.loop-alloc-test.ensures.stands
