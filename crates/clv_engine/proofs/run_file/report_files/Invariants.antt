use Rattle.clv_engine.proofs.Storing.{ReportedSoFar}
use Rattle.clv_engine.proofs.run_file.report_files.Given as goal

abbrev pub invariant-loop-name : goal.invariant-loop-name
invariant-loop-name l = ReportedSoFar l.names l.reports.items l.name-index
