use Rattle.std.proofs.Common.{[], ◌∷◌, ◌++◌, length, refl, ap, ◌∙◌}
use Rattle.std.proofs.lemmas.Option.{slice_get_read}
use Rattle.cl_meaning.specs.declared.task.Act.TheVariants as act
use Rattle.cl_meaning.specs.declared.task.Task.TheVariants as task
use Rattle.cl_meaning.proofs.Beginnings.{item_begun}
use Rattle.cl_meaning.proofs.item.Item.first.Goals as goal

pub returns : goal.returns
returns c =
    item_begun c.args.s c.args.kernel c.in-Some.code.now c.idle-item.result c.in_ok-arguments.field-0 c.push.new.self.items c.function.new.out.items c.push_all.new.self c.unfolding.result.types.now (slice_get_read c.args.s.functions.now (length c.args.s.functions.now) c.args.kernel c.in-Some.code.now refl c.in-Some.ensures.lookup.3.0 c.in-Some.ensures.lookup.1) c.idle-item.ensures c.in_ok-arguments.ensures (c.in_ok-push.ensures.items ∙ ap (λ z. z ++ task.Step act.Pass ∷ []) c.new-tasks.ensures.items) c.in_ok-function.ensures c.unfolding.ensures c.in_ok-push_all.ensures
