use Rattle.clv_engine.proofs.Loading.{utf8_at, is_load, buffers_large, buffers_absent, more_loaded}
use Rattle.clv_engine.proofs.load.load_buffers.Goals as goal

pub name_of-requires : goal.name_of-requires
name_of-requires g c = utf8_at _ _ _ c.requires c.loop-name-test.true c.name-item.is

pub returns-in-TooLarge-clause-ok : goal.returns-in-TooLarge-clause-ok
returns-in-TooLarge-clause-ok g c = buffers_large _ _ _ _ _ _ _ _ _ (is_load _ _ _ _ _ _ _ _ _ _ c.loop-name.invariant c.loop-name-test.true c.name-item.is c.name_of.ensures c.in_ok-buffer.ensures.ok) c.in-TooLarge.is

pub returns-in-Absent-clause-ok : goal.returns-in-Absent-clause-ok
returns-in-Absent-clause-ok g c = buffers_absent _ _ _ _ _ _ _ _ _ (g.met.F.Files.steady_tells c.args.files.now) (is_load _ _ _ _ _ _ _ _ _ _ c.loop-name.invariant c.loop-name-test.true c.name-item.is c.name_of.ensures c.in_ok-buffer.ensures.ok) c.in-Absent.is

pub loop-name-preserved : goal.loop-name-preserved
loop-name-preserved g c = more_loaded _ _ _ _ _ _ _ _ _ _ _ (is_load _ _ _ _ _ _ _ _ _ _ c.loop-name.invariant c.loop-name-test.true c.name-item.is c.name_of.ensures c.in_ok-buffer.ensures.ok) c.in-Held.is c.in_ok-push-in-Held.ensures.ok
