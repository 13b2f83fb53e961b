use Rattle.std.proofs.Common.{rules}
use Rattle.cl_make.proofs.Answering.{given_known, made_of}
use Rattle.cl_make.proofs.Growing.{givable_stays, grows_twice}
use Rattle.cl_make.proofs.making.made.Goals as goal

pub given-requires : goal.given-requires
given-requires c = givable_stays c.args.types.now c.all_converted.new.types c.args.m.gives c.is_table.ensures c.all_converted.ensures.grows.grown c.requires.asked.gives

pub operand_of-operand-requires : goal.operand_of-operand-requires
operand_of-operand-requires c = given_known c.given.new.types c.args.m.gives c.in_ok-ty.ty c.in_ok-ty.ensures.number

pub returns-clause-made : goal.returns-clause-made
returns-clause-made c =
    made_of c.all_converted.new.types c.given.new.types c.args.m c.args.place c.args.operands.items c.in_ok-args.args c.in_ok-ty.ty _ c.operand_of-operand.result
    c.given.ensures.grows.table c.given.ensures.grows.grown c.in_ok-args.ensures.converted c.in_ok-ty.ensures.number (record { has = search rules; at = search rules; is = search rules }) c.operand_of-operand.ensures

pub returns-clause-grows : goal.returns-clause-grows
returns-clause-grows c = grows_twice c.args.types.now c.all_converted.new.types c.given.new.types c.all_converted.ensures.grows c.given.ensures.grows
