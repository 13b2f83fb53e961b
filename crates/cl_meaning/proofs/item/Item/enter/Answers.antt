use Rattle.std.proofs.Common.{◌∷◌, map, ap, ◌∙◌}
use Rattle.cl_meaning.specs.Operations.{scalars_in}
use Rattle.cl_meaning.specs.States.{with_params, without_own}
use Rattle.cl_meaning.specs.Views.{memory_by}
use Rattle.cl_meaning.proofs.Callings.{enters}
use Rattle.cl_meaning.proofs.item.Item.enter.Goals as goal

pub returns : goal.returns
returns c =
    let types = c.args.s.types.now in
    let calls = c.in_ok-calls.calls in
    let old = c.args.self.now in
    enters c.call.result types c.args.s.functions.now c.args.function c.args.number c.args.args c.args.least old c.call.new.self c.in-Some.code.now calls c.newest-values.result.now c.drop_newest.new.self c.unset_own.new.self c.set_params.new.memory c.in_ok-todo.todo
    c.in-Some.ensures
    (c.in_ok-calls.ensures
    ∙ ap (λ z. z ∷ c.as_slice.result.now) c.node.ensures
    ∙ ap (λ z. record { function = old.frame.function; node = c.args.number } ∷ z) c.as_slice.ensures)
    (c.unset_own.ensures ∙ ap (λ z. without_own z (memory_by old.memory)) c.as_slice-2.ensures)
    c.newest-values.ensures
    (c.in_ok-set_params.ensures
    ∙ ap (λ z. with_params types z 0 c.as_slice-types.result.now (map scalars_in c.newest-values.result.now) (memory_by c.unset_own.new.self)) c.as_slice-3.ensures
    ∙ ap (λ z. with_params types calls 0 z (map scalars_in c.newest-values.result.now) (memory_by c.unset_own.new.self)) c.as_slice-types.ensures)
    c.drop_newest.ensures
    c.in_ok-todo.ensures
    c.call.ensures
