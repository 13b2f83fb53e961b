use Rattle.std.proofs.Common.{Ok}
use Rattle.cl_builtins.proofs.Growth.{interned_at}
use Rattle.cl_make.proofs.Growing.{interned_grows}
use Rattle.cl_make.proofs.Limits.{flat_not_large, flat_not_deep}
use Rattle.cl_make.proofs.asking.intern.Goals as goal

pub returns-in-Ok-clause-at : goal.returns-in-Ok-clause-at
returns-in-Ok-clause-at c = interned_at c.args.types.now c.intern.new.self c.args.ty (Ok c.in-Ok.t) c.in-Ok.ensures.number

pub returns-in-Ok-clause-grows : goal.returns-in-Ok-clause-grows
returns-in-Ok-clause-grows c =
    interned_grows c.args.types.now c.intern.new.self c.args.ty c.intern.result c.is_table.ensures c.is_table-in-Ok.ensures c.requires.built c.requires.allowed c.intern.ensures.number c.intern.ensures.refused

pub returns-in-Err-NoMemory-clause-grows : goal.returns-in-Err-NoMemory-clause-grows
returns-in-Err-NoMemory-clause-grows c =
    interned_grows c.args.types.now c.intern.new.self c.args.ty c.intern.result c.is_table.ensures c.is_table-in-Err-NoMemory.ensures c.requires.built c.requires.allowed c.intern.ensures.number c.intern.ensures.refused

pub unreachable-requires : goal.unreachable-requires
unreachable-requires c =
    let e = c.in-Err-TooLarge in
    flat_not_large c.args.types.now e.field-0 c.is_table.ensures.built c.args.ty c.requires.built c.requires.flat e.ensures.over e.field-0-is

pub unreachable-requires-in-Err-TooDeep : goal.unreachable-requires-in-Err-TooDeep
unreachable-requires-in-Err-TooDeep c =
    let e = c.in-Err-TooDeep in
    flat_not_deep c.args.types.now e.field-0 c.is_table.ensures.built c.args.ty c.requires.built c.requires.flat e.ensures.over e.field-0-is
