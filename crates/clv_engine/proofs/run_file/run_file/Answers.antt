-- Each way to a report, from what the two loads have answered.
use Rattle.clv_engine.specs.RunCommand.{Reads}
use Rattle.clv_engine.proofs.TopSteps.{if_ok}
use Rattle.clv_engine.proofs.RunStages.{source_absent, no_launch, since_both, reads_held, reads_over, reads_before, judged}
use Rattle.clv_engine.proofs.run_file.run_file.Goals as goal
use Rattle.clv_engine.proofs.run_file.run_file.Goals.{in-Held, in-TooLarge, in-Held-2, in-TooLarge-2}

pub returns-in-Absent-clause-ok : goal.returns-in-Absent-clause-ok
returns-in-Absent-clause-ok g c = if_ok _ _ _ (λ r h. source_absent _ _ _ _ _ _ _ _ c.in_ok-text.ensures.ok c.in-Absent.is h.0 h.1) c.report_file.ensures

pub returns-in-Absent-2-clause-ok : goal.returns-in-Absent-2-clause-ok
returns-in-Absent-2-clause-ok g c =
    let text : Reads (g.F.Files.state c.args.files.now) c.args.source.now 1048576 c.match-branch-2.text = elim c.match-branch-2.branch [
      | in-Held w ↦ reads_held _ _ _ _ _ _ _ c.in_ok-text.ensures.ok w.in-Held.is w.text-is
      | in-TooLarge w ↦ reads_over _ _ _ _ _ _ c.in_ok-text.ensures.ok w.in-TooLarge.is w.text-is
    ] in
    if_ok _ _ _ (λ r h. no_launch _ _ _ _ _ _ _ _ _ _ _ _ text c.in_ok-text.ensures.ok (g.met.F.Files.steady_tells c.args.files.now) c.in_ok-words.ensures.ok c.in-Absent-2.is h.0 h.1) c.report_file-in-Absent-2.ensures

pub returns-clause-ok : goal.returns-clause-ok
returns-clause-ok g c =
    let text : Reads (g.F.Files.state c.args.files.now) c.args.source.now 1048576 c.match-branch-2.text = elim c.match-branch-2.branch [
      | in-Held w ↦ reads_held _ _ _ _ _ _ _ c.in_ok-text.ensures.ok w.in-Held.is w.text-is
      | in-TooLarge w ↦ reads_over _ _ _ _ _ _ c.in_ok-text.ensures.ok w.in-TooLarge.is w.text-is
    ] in
    let words : Reads (g.F.Files.state c.load.new.files) c.args.launch.now 65536 c.match-branch-4.words = elim c.match-branch-4.branch [
      | in-Held-2 w ↦ reads_held _ _ _ _ _ _ _ c.in_ok-words.ensures.ok w.in-Held-2.is w.words-is
      | in-TooLarge-2 w ↦ reads_over _ _ _ _ _ _ c.in_ok-words.ensures.ok w.in-TooLarge-2.is w.words-is
    ] in
    let since = since_both _ _ _ _ _ _ _ _ _ c.in_ok-text.ensures.ok (g.met.F.Files.steady_tells c.args.files.now) c.in_ok-words.ensures.ok in
    if_ok _ _ _ (λ r h. judged _ _ _ _ _ _ _ _ _ since text (reads_before _ _ _ _ _ c.in_ok-text.ensures.ok.same words) h) c.judge.ensures.ok
