use Rattle.std.proofs.Common.{sym, subst}
use Rattle.cl_rules.specs.declared.rule.Want.TheVariants as want
use Rattle.cl_tree.specs.declared.shape.Shape.TheVariants as shape
use Rattle.cl_make.specs.Wanted.{IsAskable}
use Rattle.cl_typing.proofs.Conditions.{tested_fine}
use Rattle.cl_typing.proofs.condition.switched.Goals as goal

pub converted-requires-clause-asked : goal.converted-requires-clause-asked
converted-requires-clause-asked c = subst (λ g. IsAskable c.args.types.now (want.Of (shape.Integers g))) (sym c.tested_type.ensures) (tested_fine c.args.types.now c.args.typed.operand c.is_table.ensures c.requires.ready.operand)
