use Rattle.std.proofs.Common.{Ok}
use Rattle.cl_builtins.proofs.Growth.{interned_at, interned_kept}
use Rattle.cl_builtins.proofs.Limits.{not_large, not_deep}
use Rattle.cl_builtins.proofs.call.intern.Goals as goal

pub returns-in-Ok-clause-kept : goal.returns-in-Ok-clause-kept
returns-in-Ok-clause-kept c = interned_kept c.args.types.now c.intern.new.self c.args.ty c.intern.result c.is_table.ensures.built c.requires.simple c.intern.ensures.number c.intern.ensures.refused

pub returns-in-Ok-clause-at : goal.returns-in-Ok-clause-at
returns-in-Ok-clause-at c = interned_at c.args.types.now c.intern.new.self c.args.ty (Ok c.in-Ok.t) c.in-Ok.ensures.number

pub unreachable-requires : goal.unreachable-requires
unreachable-requires c =
    let e = c.in-Err-TooLarge in
    not_large c.args.types.now c.args.ty e.field-0 c.is_table.ensures.built c.requires.built c.requires.simple e.ensures.over e.field-0-is

pub unreachable-requires-in-Err-TooDeep : goal.unreachable-requires-in-Err-TooDeep
unreachable-requires-in-Err-TooDeep c =
    let e = c.in-Err-TooDeep in
    not_deep c.args.types.now c.args.ty e.field-0 c.is_table.ensures.built c.requires.built c.requires.simple e.ensures.over e.field-0-is
