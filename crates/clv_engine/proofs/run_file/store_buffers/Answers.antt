use Rattle.std.proofs.Common.{sym, ap, ◌∙◌}
use Rattle.clv_engine.proofs.Loading.{utf8_at}
use Rattle.clv_engine.proofs.Storing.{holds_none, stored_next, left_next, stored_cut, all_stores}
use Rattle.clv_engine.proofs.run_file.store_buffers.Goals as goal
use Rattle.clv_engine.proofs.run_file.store_buffers.Goals.{then-stored-at+else-is_err, else-stored-at}

pub loop-at-init : goal.loop-at-init
loop-at-init g c = holds_none _

pub name_of-requires : goal.name_of-requires
name_of-requires g c = utf8_at _ _ _ c.requires.names c.loop-at-test.true c.index-names-at.is

pub returns-then-is_err : goal.returns-then-is_err
returns-then-is_err g c = stored_cut _ _ _ _ _ _ _ c.index-names-at.result c.index-buffers-at.result _ _ _ (record { distinct = c.requires.distinct; buffers = c.requires.buffers; marks = c.requires.marks; low = c.loop-at-test.true; mark = c.if-stored-at.true; name_is = c.index-names-at.is; bytes_are = c.index-buffers-at.is }) c.loop-at.invariant c.name_of.ensures c.as_slice.ensures c.store-stored_now.ensures (sym c.is_err.ensures.value ∙ c.if-is_err.true)

pub loop-at-preserved : goal.loop-at-preserved
loop-at-preserved g c = elim c.if-stored-at.branch [
  | then-stored-at+else-is_err w ↦ stored_next _ _ _ _ _ _ _ _ w.index-names-at.result w.index-buffers-at.result _ _ _ (ap g.F.Files.state w.files-is) (record { distinct = c.requires.distinct; buffers = c.requires.buffers; marks = c.requires.marks; low = c.loop-at-test.true; mark = w.if-stored-at.true; name_is = w.index-names-at.is; bytes_are = w.index-buffers-at.is }) c.loop-at.invariant w.name_of.ensures w.as_slice.ensures w.store-stored_now.ensures (sym w.is_err.ensures.value ∙ w.if-is_err.false)
  | else-stored-at w ↦ left_next _ _ _ _ _ _ _ (ap g.F.Files.state w.files-is) c.requires.buffers c.requires.marks c.loop-at-test.true w.if-stored-at.false c.loop-at.invariant
]

pub returns : goal.returns
returns g c = all_stores _ _ _ _ _ _ c.loop-at-test.false c.loop-at.invariant
