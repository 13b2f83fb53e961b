use Rattle.std.proofs.Common.{◌≡◌, sym, ◌∙◌}
use Rattle.spv_module.specs.Instructions.{said}
use Rattle.spv_module.specs.Readings.{said_by}
use Rattle.run_machine.proofs.Counting.{block_step, capped_low}
use Rattle.run_machine.proofs.cells.greatest_block.Goals as goal

pub loop-rest-preserved : goal.loop-rest-preserved
loop-rest-preserved c =
    let x = said_by c.says-said.result in
    let d : x ≡ said c.inst-item.result = c.says-said.ensures in
    (c.loop-rest.invariant.0, capped_low c.plus-made.result _ c.plus-made.ensures, block_step c.args.body.now c.loop-rest.best c.loop-rest.made _ c.result_cells.result c.plus-made.result x c.inst-item.result c.loop-rest.rest.now c.in-len1-up.len_at_least c.inst-item.is d (sym c.is_label.ensures ∙ c.if-is_label.false) c.result_cells.ensures c.plus-made.ensures c.loop-rest.invariant.2)
