use Rattle.std.proofs.Common.{Some, ap, ◌∙◌}
use Rattle.cl_builtins.proofs.Growth.{vector_low, pointer_low}
use Rattle.cl_builtins.proofs.kind.Kind.of.Goals as goal

pub integer-requires : goal.integer-requires
integer-requires c =
    let v = c.in-Vector in
    vector_low c.args.types.now c.args.t.0 v.elem v.n c.is_table.ensures.built (c.get.ensures ∙ ap Some v.is)

pub integer-requires-in-Pointer : goal.integer-requires-in-Pointer
integer-requires-in-Pointer c =
    let p = c.in-Pointer in
    pointer_low c.args.types.now c.args.t.0 p.space p.to p.readonly p.restricted c.is_table.ensures.built (c.get.ensures ∙ ap Some p.is)
