use Rattle.clv_engine.proofs.Storing.{failed_ends}
use Rattle.clv_engine.proofs.run_file.store_all.Goals as goal

pub returns-in-Err-clause-ok : goal.returns-in-Err-clause-ok
returns-in-Err-clause-ok g c = failed_ends _ _ _ _ _ c.in-Err.at _ _ c.in_ok-failed.ensures c.in-Err.ensures c.swap_remove.ensures.value
