use Rattle.std.proofs.Common.{Some, ap, ◌∙◌}
use Rattle.cl_types.proofs.Rows.{array_earlier, sized_low}
use Rattle.cl_builtins.proofs.Growth.{vector_low}
use Rattle.cl_tree.proofs.shape.Shape.of.Goals as goal

pub vector-requires : goal.vector-requires
vector-requires c =
    let v = c.in-Vector in
    vector_low c.args.types.now c.args.t.0 v.elem v.n c.is_table.ensures.built (c.get.ensures ∙ ap Some v.is)

pub holds_elements-requires : goal.holds_elements-requires
holds_elements-requires c =
    let a = c.in-Array in
    let earlier = array_earlier c.args.types.now c.args.t.0 a.elem a.len c.is_table.ensures.built (c.get.ensures ∙ ap Some a.is) in
    sized_low c.args.types.now a.elem.0 earlier.sized
