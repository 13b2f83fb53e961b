use Rattle.vk_bind.proofs.Rows.{pointer_found}
use Rattle.vk_bind.proofs.parameters.pointer_to.Goals as goal

pub returns-in_ok-scalars-in-Some : goal.returns-in_ok-scalars-in-Some
returns-in_ok-scalars-in-Some c = pointer_found c.args.body.now c.args.variable c.in-Some.stride c.in-Some.element _ _ c.in-Some.ensures c.in_ok-scalars-in-Some.ensures c.is_decorated.ensures
