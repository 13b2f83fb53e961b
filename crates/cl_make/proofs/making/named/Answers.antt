use Rattle.std.proofs.Common.{rules}
use Rattle.cl_make.proofs.Answering.{named_of}
use Rattle.cl_make.proofs.making.named.Goals as goal

pub returns : goal.returns
returns c =
    named_of c.args.types.now c.args.d.now c.args.head c.args.place c.new.result _ c.operand_named-operand.result c.is_table.ensures c.requires c.new.ensures.items
    (record { has = search rules; at = search rules; is = search rules }) c.operand_named-operand.ensures
