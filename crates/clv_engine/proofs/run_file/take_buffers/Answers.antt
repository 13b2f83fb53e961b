-- Each way to a report, from what the buffers' load has answered.
use Rattle.std.proofs.Common.{◌<◌, length, sym, subst}
use Rattle.std.specs.Prelude.{All, IsUtf8}
use Rattle.launch_text.specs.Readable.{IsGiven}
use Rattle.clv_engine.proofs.TopSteps.{if_ok}
use Rattle.clv_engine.proofs.Loading.{utf8_at}
use Rattle.clv_engine.proofs.RunStages.{are_loaded, held_sizes, absent_low, large_given, held_goes, absent_goes, large_goes}
use Rattle.clv_engine.proofs.run_file.take_buffers.Goals as goal

pub run_on-requires-clause-sizes : goal.run_on-requires-clause-sizes
run_on-requires-clause-sizes g c = held_sizes _ _ _ _ (are_loaded c.args.launch.now _ _ _ _ _ c.in_ok-buffers.ensures.ok c.in-Held.is c.as_slice-names.ensures)

pub bounds-names-at : goal.bounds-names-at
bounds-names-at g c =
    let low = absent_low _ _ _ _ (are_loaded c.args.launch.now _ _ _ _ _ c.in_ok-buffers.ensures.ok c.in-Absent.is c.as_slice-names.ensures) in
    subst (λ ns. c.in-Absent.at < length ns) (sym c.as_slice-names.ensures) low

pub name_of-requires : goal.name_of-requires
name_of-requires g c =
    let low = absent_low _ _ _ _ (are_loaded c.args.launch.now _ _ _ _ _ c.in_ok-buffers.ensures.ok c.in-Absent.is c.as_slice-names.ensures) in
    utf8_at c.as_slice-names.result.now c.in-Absent.at _ (subst (λ ns. All IsUtf8 ns) (sym c.as_slice-names.ensures) c.requires.readable.names) (subst (λ ns. c.in-Absent.at < length ns) (sym c.as_slice-names.ensures) low) c.index-names-at.is

pub least_given-requires : goal.least_given-requires
least_given-requires g c = subst (λ as_. IsGiven as_ c.in-TooLarge.at) (sym c.as_slice.ensures) (large_given _ _ _ _ c.requires.readable (are_loaded c.args.launch.now _ _ _ _ _ c.in_ok-buffers.ensures.ok c.in-TooLarge.is c.as_slice-names.ensures))

pub returns-in-Held-clause-ok : goal.returns-in-Held-clause-ok
returns-in-Held-clause-ok g c = if_ok _ _ _ (λ r h. held_goes _ _ _ _ _ _ _ _ _ (are_loaded c.args.launch.now _ _ _ _ _ c.in_ok-buffers.ensures.ok c.in-Held.is c.as_slice-names.ensures) c.requires.robin h) c.run_on.ensures.ok

pub returns-in-Absent-clause-ok : goal.returns-in-Absent-clause-ok
returns-in-Absent-clause-ok g c = if_ok _ _ _ (λ r h. absent_goes _ _ _ _ _ _ _ _ _ _ (are_loaded c.args.launch.now _ _ _ _ _ c.in_ok-buffers.ensures.ok c.in-Absent.is c.as_slice-names.ensures) c.as_slice-names.ensures c.index-names-at.is c.name_of.ensures h.0 h.1) c.report_file.ensures

pub returns-in-TooLarge-clause-ok : goal.returns-in-TooLarge-clause-ok
returns-in-TooLarge-clause-ok g c = if_ok _ _ _ (λ r h. large_goes _ _ _ _ _ _ _ _ _ (are_loaded c.args.launch.now _ _ _ _ _ c.in_ok-buffers.ensures.ok c.in-TooLarge.is c.as_slice-names.ensures) c.as_slice.ensures c.least_given.ensures h.0 h.1) c.report_launch_rule.ensures
