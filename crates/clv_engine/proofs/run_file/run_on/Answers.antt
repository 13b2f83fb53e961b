-- Each way to a report, from what the module's run came to.
use Rattle.std.proofs.Common.{length, sym, ap, ◌∙◌, subst}
use Rattle.launch_text.specs.Readable.{AreDistinct}
use Rattle.clv_engine.proofs.TopSteps.{if_ok}
use Rattle.clv_engine.proofs.RunStages.{done_marks, done_buffers, done_goes, trapped_goes, spent_goes, misfit_goes, too_much_goes}
use Rattle.clv_engine.proofs.run_file.run_on.Goals as goal

pub store_all-requires-clause-distinct : goal.store_all-requires-clause-distinct
store_all-requires-clause-distinct g c = subst (λ ns. AreDistinct ns) (sym c.as_slice.ensures) c.requires.readable.files

pub store_all-requires-clause-buffers : goal.store_all-requires-clause-buffers
store_all-requires-clause-buffers g c = ap length c.as_slice-in-Done.ensures ∙ done_buffers _ c.args.launch.now _ _ _ _ _ _ c.requires.runnable c.requires.sizes c.in_ok-steps.ensures c.in-Done.is ∙ ap length (sym c.as_slice.ensures)

pub store_all-requires-clause-marks : goal.store_all-requires-clause-marks
store_all-requires-clause-marks g c = ap length c.as_slice-in-Done-2.ensures ∙ done_marks _ c.args.launch.now _ _ _ _ _ _ c.requires.runnable c.requires.sizes c.in_ok-steps.ensures c.in-Done.is ∙ ap length (sym c.as_slice.ensures)

pub returns-in-Done-clause-ok : goal.returns-in-Done-clause-ok
returns-in-Done-clause-ok g c = if_ok _ _ _ (λ r h. done_goes _ _ _ _ _ _ _ _ _ _ _ _ _ _ _ c.requires.readable c.in_ok-steps.ensures c.in-Done.is (record { names = c.as_slice.ensures; left_is = c.as_slice-in-Done.ensures; stored_are = c.as_slice-in-Done-2.ensures }) h) c.store_all.ensures.ok

pub returns-in-Trapped-clause-ok : goal.returns-in-Trapped-clause-ok
returns-in-Trapped-clause-ok g c = if_ok _ _ _ (λ r h. trapped_goes _ _ _ _ _ _ _ _ _ c.in_ok-steps.ensures c.in-Trapped.is h.0 h.1) c.report_trap.ensures

pub returns-in-Spent-clause-ok : goal.returns-in-Spent-clause-ok
returns-in-Spent-clause-ok g c = if_ok _ _ _ (λ r h. spent_goes _ _ _ _ _ _ _ _ c.in_ok-steps.ensures c.in-Spent.is h.0 h.1) c.report_spent.ensures

pub returns-in-Misfit-clause-ok : goal.returns-in-Misfit-clause-ok
returns-in-Misfit-clause-ok g c = if_ok _ _ _ (λ r h. misfit_goes _ _ _ _ _ _ _ _ _ _ c.in_ok-steps.ensures c.in-Misfit.is h.0 h.1) c.report_launch_rule.ensures

pub returns-in-TooMuch-clause-ok : goal.returns-in-TooMuch-clause-ok
returns-in-TooMuch-clause-ok g c = if_ok _ _ _ (λ r h. too_much_goes _ _ _ _ _ _ _ _ c.in_ok-steps.ensures c.in-TooMuch.is h.0 h.1) c.report_launch_rule-in-TooMuch.ensures
