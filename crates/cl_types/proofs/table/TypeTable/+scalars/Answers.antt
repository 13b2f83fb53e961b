use Rattle.std.proofs.Common.{◌≡◌, ◌+◌, ◌*◌, ◌≤◌, ◌<◌, refl, ap, ◌∙◌, arith, Some}
use Rattle.cl_types.proofs.Rows.{sized_low}
use Rattle.cl_types.proofs.Filling.{spread_all, element_more, filled_start, filled_more, filled_all, struct_is, member_earlier, member_room, ends_at, nothing_put, scalar_put, vector_put, array_put, vector_inner, array_inner}
use Rattle.cl_types.proofs.table.TypeTable.+scalars.Goals as goal

pub put_elements-loop-i-preserved : goal.put_elements-loop-i-preserved
put_elements-loop-i-preserved t c = element_more c.args.self.now c.args.elem.0 c.args.n c.args.base c.loop-i.i c.args.path.now c.deref.result.now c.row.result.now.size _ c.args.out.now c.loop-i.out _ c.loop-i-test.true (c.deref.ensures.value ∙ c.in_ok-path.ensures) c.row.ensures.size refl c.in_ok-put_scalars.ensures c.loop-i.invariant

pub put_elements-returns : goal.put_elements-returns
put_elements-returns t c =
    let l = c.loop-i-test.false in
    let e = c.loop-i.auto.i-end in
    spread_all _ _ _ _ _ _ _ (omega (arith, l)) (omega (arith, e)) c.loop-i.invariant

pub put_members-loop-k-init : goal.put_members-loop-k-init
put_members-loop-k-init t c = filled_start _ _ _ _ _ _ (struct_is _ _ _ c.is_table.ensures c.requires.members)

pub put_members-row-row-requires : goal.put_members-row-row-requires
put_members-row-row-requires t c = sized_low c.args.self.now c.index-members-k.result.ty.0 (member_earlier _ _ _ _ _ _ _ _ _ c.index-members-k.result c.loop-k.invariant c.loop-k-test.true c.index-members-k.is).sized

pub put_members-round_up-at-requires-clause-fits : goal.put_members-round_up-at-requires-clause-fits
put_members-round_up-at-requires-clause-fits t c =
    let s = struct_is _ _ _ c.is_table.ensures c.requires.members in
    let f = (member_room _ _ _ _ _ _ _ _ _ c.index-members-k.result c.loop-k.invariant c.loop-k-test.true c.index-members-k.is c.row-row.result.now c.row-row.ensures c.is_table.ensures s c.requires.low).fits in
    omega (arith, f)

pub put_members-overflow_cast-k : goal.put_members-overflow_cast-k
put_members-overflow_cast-k t c =
    let s = struct_is _ _ _ c.is_table.ensures c.requires.members in
    let f = (member_room _ _ _ _ _ _ _ _ _ c.index-members-k.result c.loop-k.invariant c.loop-k-test.true c.index-members-k.is c.row-row.result.now c.row-row.ensures c.is_table.ensures s c.requires.low).number in
    omega (arith, f)

pub put_members-overflow_add-base : goal.put_members-overflow_add-base
put_members-overflow_add-base t c =
    let s = struct_is _ _ _ c.is_table.ensures c.requires.members in
    let f = (member_room _ _ _ _ _ _ _ _ _ c.index-members-k.result c.loop-k.invariant c.loop-k-test.true c.index-members-k.is c.row-row.result.now c.row-row.ensures c.is_table.ensures s c.requires.low).ends in
    let l = ends_at _ c.round_up-at.result _ _ _ c.round_up-at.ensures c.row-row.ensures.size f in
    omega (arith, l)

pub put_members-put_scalars-requires : goal.put_members-put_scalars-requires
put_members-put_scalars-requires t c =
    let s = struct_is _ _ _ c.is_table.ensures c.requires.members in
    let e = member_earlier _ _ _ _ _ _ _ _ _ c.index-members-k.result c.loop-k.invariant c.loop-k-test.true c.index-members-k.is in
    let f = (member_room _ _ _ _ _ _ _ _ _ c.index-members-k.result c.loop-k.invariant c.loop-k-test.true c.index-members-k.is c.row-row.result.now c.row-row.ensures c.is_table.ensures s c.requires.low).ends in
    let before = e.earlier in
    (omega (arith, before, c.decreases), (sized_low c.args.self.now c.index-members-k.result.ty.0 e.sized, ends_at _ c.round_up-at.result _ _ _ c.round_up-at.ensures c.row-row.ensures.size f))

pub put_members-overflow_add-end : goal.put_members-overflow_add-end
put_members-overflow_add-end t c =
    let s = struct_is _ _ _ c.is_table.ensures c.requires.members in
    let f = (member_room _ _ _ _ _ _ _ _ _ c.index-members-k.result c.loop-k.invariant c.loop-k-test.true c.index-members-k.is c.row-row.result.now c.row-row.ensures c.is_table.ensures s c.requires.low).ends in
    let l = ends_at _ c.round_up-at.result _ _ c.row-row.result.now.size c.round_up-at.ensures refl f in
    omega (arith, l)

pub put_members-loop-k-preserved : goal.put_members-loop-k-preserved
put_members-loop-k-preserved t c = filled_more _ _ _ _ _ _ _ _ _ c.index-members-k.result c.loop-k.invariant c.loop-k-test.true c.index-members-k.is c.row-row.result.now c.row-row.ensures c.is_table.ensures _ c.deref.result.now _ _ (c.deref.ensures.value ∙ c.in_ok-path.ensures) (ap (λ z. c.args.base + z) c.round_up-at.ensures) (ap (λ z. z + c.row-row.result.now.size) c.round_up-at.ensures) c.in_ok-put_scalars.ensures

pub put_members-returns : goal.put_members-returns
put_members-returns t c =
    let l = c.loop-k-test.false in
    filled_all _ _ _ _ _ _ _ _ _ c.loop-k.invariant (omega (arith, l)) (struct_is _ _ _ c.is_table.ensures c.requires.members)

pub put_scalars-put_elements-requires : goal.put_scalars-put_elements-requires
put_scalars-put_elements-requires t c =
    let i = vector_inner c.args.self.now c.args.t.0 c.in-Vector.elem c.in-Vector.n c.args.base c.is_table.ensures (c.get.ensures ∙ ap Some c.in-Vector.is) c.requires.low in
    let before = i.earlier in
    (omega (arith, before, c.decreases), (i.known, i.low))

pub put_scalars-put_elements-requires-in-Array : goal.put_scalars-put_elements-requires-in-Array
put_scalars-put_elements-requires-in-Array t c =
    let i = array_inner c.args.self.now c.args.t.0 c.in-Array.elem c.in-Array.len c.args.base c.is_table.ensures (c.get.ensures ∙ ap Some c.in-Array.is) c.requires.low in
    let before = i.earlier in
    (omega (arith, before, c.decreases), (i.known, i.low))

pub put_scalars-returns-in-Void : goal.put_scalars-returns-in-Void
put_scalars-returns-in-Void t c = nothing_put _ _ _ _ _ c.is_table.ensures (c.get.ensures ∙ ap Some c.in-Void.is)

pub put_scalars-returns-in-Bool : goal.put_scalars-returns-in-Bool
put_scalars-returns-in-Bool t c = scalar_put _ _ _ _ _ _ _ _ _ c.is_table.ensures (c.get.ensures ∙ ap Some c.in-Bool.is) refl c.put.ensures

pub put_scalars-returns-in-Int : goal.put_scalars-returns-in-Int
put_scalars-returns-in-Int t c = scalar_put _ _ _ _ _ _ _ _ _ c.is_table.ensures (c.get.ensures ∙ ap Some c.in-Int.is) refl c.put-in-Int.ensures

pub put_scalars-returns-in-Pointer : goal.put_scalars-returns-in-Pointer
put_scalars-returns-in-Pointer t c = scalar_put _ _ _ _ _ _ _ _ _ c.is_table.ensures (c.get.ensures ∙ ap Some c.in-Pointer.is) refl c.put-in-Pointer.ensures

pub put_scalars-returns-in-Vector : goal.put_scalars-returns-in-Vector
put_scalars-returns-in-Vector t c = vector_put _ _ c.in-Vector.elem c.in-Vector.n _ _ _ _ _ c.is_table.ensures (c.get.ensures ∙ ap Some c.in-Vector.is) c.put_elements.ensures

pub put_scalars-returns-in-Array : goal.put_scalars-returns-in-Array
put_scalars-returns-in-Array t c = array_put _ _ c.in-Array.elem c.in-Array.len _ _ _ _ _ c.is_table.ensures (c.get.ensures ∙ ap Some c.in-Array.is) c.put_elements-in-Array.ensures
