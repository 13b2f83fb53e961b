use Rattle.std.proofs.Common.{◌≡◌, ◌+◌, ◌<◌, List, true, false, length, refl, sym, ap, ◌∙◌, subst, arith}
use Rattle.std.proofs.lemmas.Grind.{common_steps}
use Rattle.std.proofs.lemmas.List.{with_items_is}
use Rattle.std.proofs.lemmas.Option.{slice_get_read}
use Rattle.cl_common.specs.Events.{same_nodes}
use Rattle.cl_meaning.specs.declared.memory.Private.{Private}
use Rattle.cl_meaning.specs.States.{without_own}
use Rattle.cl_meaning.proofs.Privates.{memory_of}
use Rattle.cl_meaning.proofs.Emptying.{AreEmptied, one_emptied, one_kept, others_kept, all_emptied}
use Rattle.cl_meaning.proofs.memory.Memory.unset_own.Goals.{then-same_nodes, else-same_nodes}
use Rattle.cl_meaning.proofs.memory.Memory.unset_own.Goals as goal

pub loop-object-preserved : goal.loop-object-preserved
loop-object-preserved c =
    let calls = c.args.calls.now in
    let items = c.loop-object.object-items in
    let index = c.loop-object.object-index in
    let object = c.object-item.result in
    let inside : index < length items = omega arith in
    let here = slice_get_read items (length items) index object refl inside c.object-item.is in
    elim c.if-same_nodes.branch [
      | then-same_nodes w ↦
          let led : same_nodes object.name.calls calls ≡ true = cc (c.same_nodes.ensures, c.as_slice.ensures, w.if-same_nodes.true) in
          record {
            emptied = subst (λ (z : List Private). AreEmptied calls (index + 1) z) (sym w.object-items-is) (one_emptied calls items index (index + 1) w.clear.new.self c.loop-object.invariant.emptied (record { bytes = λ g. w.clear.ensures.bytes; pointer = λ g. w.clear.ensures.pointer }) refl);
            kept = ap (λ (z : List Private). without_own calls (memory_of z)) w.object-items-is ∙ others_kept calls items index object w.clear.new.self here (w.clear.ensures.name ∙ ap (λ (z : Private). z.name) (sym c.object-item.is)) led ∙ c.loop-object.invariant.kept;
          }
      | else-same_nodes w ↦
          let apart : same_nodes object.name.calls calls ≡ false = cc (c.same_nodes.ensures, c.as_slice.ensures, w.if-same_nodes.false) in
          let same : c.if-same_nodes.object-items ≡ items = grind (arith, common_steps, w.object-items-is) in
          record {
            emptied = subst (λ (z : List Private). AreEmptied calls (index + 1) z) (sym same) (one_kept calls items index (index + 1) object c.loop-object.invariant.emptied here apart refl);
            kept = ap (λ (z : List Private). without_own calls (memory_of z)) same ∙ c.loop-object.invariant.kept;
          }
    ]

pub returns : goal.returns
returns c =
    let objects = c.args.self.now.objects in
    let items = c.loop-object.object-items in
    ap memory_of (with_items_is objects items (grind (arith, common_steps)))
    ∙ all_emptied c.args.calls.now items c.loop-object.object-index c.loop-object.invariant.emptied (omega arith)
    ∙ c.loop-object.invariant.kept
