use Rattle.clv_engine.proofs.TopSteps.{if_ok}
use Rattle.clv_engine.proofs.RunStages.{seeded_goes}
use Rattle.clv_engine.proofs.run_file.schedule.Goals as goal

pub returns-in-Mixed-clause-ok : goal.returns-in-Mixed-clause-ok
returns-in-Mixed-clause-ok g c = if_ok _ _ _ (λ r h. seeded_goes _ _ _ _ _ _ c.in-Mixed.is h.0 h.1) c.report_launch_rule.ensures
