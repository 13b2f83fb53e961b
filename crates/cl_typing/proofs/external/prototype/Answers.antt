use Rattle.std.proofs.Common.{false, None, refl, ◌∙◌}
use Rattle.cl_typing.specs.Units.{with_env, and_size}
use Rattle.cl_typing.proofs.Externals.{external_head_out, external_prototype}
use Rattle.cl_typing.proofs.Results.{stop_exit}
use Rattle.cl_typing.proofs.external.prototype.Goals as goal

pub returns-in_err-head-clause-out : goal.returns-in_err-head-clause-out
returns-in_err-head-clause-out c =
    stop_exit c.from_residual.result _ _ c.from_residual.ensures.1
    (external_head_out c.typed_head.new.types c.args.bodies.now c.args.unit.now c.args.before.now c.args.spec.now c.args.name.now c.args.place c.args.params.now None false c.args.e.now c.requires.is _ refl (rw (c.deref.ensures.value, c.deref-2.ensures.value) at c.in_err-head.ensures.out))

pub returns-clause-ok : goal.returns-clause-ok
returns-clause-ok c =
    external_prototype c.typed_head.new.types c.args.bodies.now c.args.unit.now c.args.before.now c.args.spec.now c.args.name.now c.args.place c.args.params.now c.args.e.now c.typed_head.new.unit.env c.in_ok-head.head c.leave.new.self _ c.requires.is (rw (c.deref.ensures.value, c.deref-2.ensures.value) at c.in_ok-head.ensures.ok) c.leave.ensures.behind
    (c.in_ok-add_size.ensures ∙ (λ i. and_size (c.as_slice.ensures i) c.in_ok-head.head.size (with_env c.leave.new.self (c.in_ok-head.ensures.rest i))))
