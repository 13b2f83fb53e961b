use Rattle.std.proofs.Common.{nat_eq, ◌||◌, rules}
use Rattle.std.specs.Cmp.{first_so}
use Rattle.cl_types.specs.Layout.{is_width, is_count}
use Rattle.cl_make.proofs.Answering.{given_known, number_of}
use Rattle.cl_rules.specs.declared.rule.Want.TheVariants as want
use Rattle.cl_tree.specs.declared.shape.Shape.TheVariants as shape
use Rattle.cl_make.proofs.making.number.Goals as goal

pub value_of-operand-requires : goal.value_of-operand-requires
value_of-operand-requires c = given_known c.of_shape.new.types (want.Of (shape.Integers c.args.t)) c.in_ok-ty.ty c.in_ok-ty.ensures.number

pub new-requires : goal.new-requires
new-requires c = first_so (is_width c.args.t.bits) (nat_eq c.args.t.count 1 || is_count c.args.t.count) c.requires

pub returns-clause-number : goal.returns-clause-number
returns-clause-number c =
    number_of c.of_shape.new.types c.args.t c.args.n c.args.place c.new.result c.in_ok-ty.ty _ c.value_of-operand.result c.of_shape.ensures.grows.table c.in_ok-ty.ensures.number
    c.new.ensures.width c.new.ensures.value (record { has = search rules; at = search rules; is = search rules }) c.value_of-operand.ensures
