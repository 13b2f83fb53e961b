use Rattle.std.proofs.Common.{◌≡◌, ◌+◌, ◌-◌, ◌++◌, length, replicate, get_or, drop, arith, sym, ap, ◌∙◌, subst}
use Rattle.cl_tree.specs.Shapes.{shape_of}
use Rattle.cl_types.specs.Layout.{up}
use Rattle.cl_variables.specs.Bytes.{size_at, align_at, first_bytes, behind, inside, part}
use Rattle.cl_variables.specs.Placing.{IsPut}
use Rattle.cl_variables.proofs.Pieces.{part_first, part_parts, elements_more, members_more}
use Rattle.cl_variables.proofs.image.+placing.Goals.{put_part-then-is_put_whole+in_ok-next, put_part-else-is_put_whole+in_ok-next-2}
use Rattle.cl_variables.proofs.image.+placing.Goals as goal

pub put_elements-loop-element-preserved : goal.put_elements-loop-element-preserved
put_elements-loop-element-preserved t c =
    elements_more c.args.deep c.args.types.now c.args.elem c.args.len c.args.pieces.now c.args.at c.args.out.now.items c.loop-element._element c.loop-element.next c.in_ok-next.next c.loop-element.out.items c.put_part.new.out.items c.loop-element.invariant c.loop-element-test.true c.in_ok-next.ensures

pub put_members-loop-i-preserved : goal.put_members-loop-i-preserved
put_members-loop-i-preserved t c =
    let cs = c.loop-i.out.items in
    let start = c.len-start.result in
    let m = get_or c.args.members.now c.loop-i.i c.index-members-i.result in
    let l : c.loop-i.out.len ≡ length cs = omega (arith, c.loop-i.out.ok.0) in
    let here : c.len.result ≡ length cs = c.len.ensures ∙ l in
    let padded : c.pad.new.out.items ≡ cs ++ replicate (start + up (align_at c.args.types.now m.ty) (length cs - start) - length cs) 0 =
    c.in_ok-pad.ensures ∙ ap (λ k. cs ++ replicate (start + k - length cs) 0) (c.up-offset.ensures ∙ (λ i. up (c.align_at.ensures.is i) (here i - start))) in
    members_more c.args.deep c.args.types.now c.args.members.now c.args.pieces.now c.args.at c.args.out.now.items start c.loop-i.i c.loop-i.next cs c.loop-i.invariant m c.in_ok-next.next c.pad.new.out.items c.put_part.new.out.items c.loop-i-test.true (ap (get_or c.args.members.now c.loop-i.i) c.index-members-i.is) padded c.in_ok-next.ensures

pub put_part-returns : goal.put_part-returns
put_part-returns t c =
    let types = c.args.types.now in
    let bs = c.args.out.now.items in
    let cs = c.if-is_put_whole.out.items in
    let ps = c.args.pieces.now in
    let rest = drop c.args.at ps in
    let l : c.args.out.now.len ≡ length bs = omega (arith, c.args.out.now.ok.0) in
    let here : c.len.result ≡ length bs = c.len.ensures ∙ l in
    let padded : c.pad.new.out.items ≡ cs ++ replicate (length bs + size_at types c.args.t - length cs) 0 =
    c.in_ok-pad.ensures ∙ (λ i. cs ++ replicate (here i + c.size_at.ensures.is i - length cs) 0) in
    elim c.if-is_put_whole.branch [
      | put_part-then-is_put_whole+in_ok-next w ↦
          part_first c.args.deep types c.args.t ps c.args.at c.if-is_put_whole.next bs cs c.pad.new.out.items padded (sym c.is_put_whole.ensures ∙ w.if-is_put_whole.true)
          (subst (λ n. IsPut (first_bytes rest, behind rest) bs cs ps n) (sym w.next-is) (subst (λ z. IsPut (first_bytes rest, behind rest) bs z ps w.in_ok-next.next) (sym (ap (λ o. o.items) w.out-is)) w.in_ok-next.ensures))
      | put_part-else-is_put_whole+in_ok-next-2 w ↦
          part_parts c.args.deep types c.args.t ps c.args.at c.if-is_put_whole.next bs cs c.pad.new.out.items padded (sym c.is_put_whole.ensures ∙ w.if-is_put_whole.false)
          (subst (λ n. IsPut (inside types (part (c.args.deep - 1) types) c.args.t (shape_of types c.args.t) rest) bs cs ps n) (sym w.next-is) (subst (λ z. IsPut (inside types (part (c.args.deep - 1) types) c.args.t (shape_of types c.args.t) rest) bs z ps w.in_ok-next-2.next) (sym (ap (λ o. o.items) w.out-is)) w.in_ok-next-2.ensures))
    ]
