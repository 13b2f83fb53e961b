use Rattle.clv_engine.proofs.Loading.{utf8_at}
use Rattle.clv_engine.proofs.Storing.{none_reported, more_reported, all_reported}
use Rattle.clv_engine.proofs.run_file.report_files.Goals as goal

pub loop-name-init : goal.loop-name-init
loop-name-init c = none_reported _ _ c.new-reports.ensures.items

pub name_of-requires : goal.name_of-requires
name_of-requires c = utf8_at _ _ _ c.requires c.loop-name-test.true c.name-item.is

pub loop-name-preserved : goal.loop-name-preserved
loop-name-preserved c = more_reported _ _ _ _ _ _ _ c.loop-name.invariant c.loop-name-test.true c.name-item.is c.name_of.ensures c.in_ok-report_file.ensures c.in_ok-push.ensures.items

pub returns : goal.returns
returns c = all_reported _ _ _ c.loop-name.auto.name-index-end c.loop-name-test.false c.loop-name.invariant
