use Rattle.std.proofs.Common.{◌+◌, ap}
use Rattle.cl_lexer.proofs.Joining.{Joins, joins_as, joins_inside, joins_begin, joins_stay, joins_end, is_at, is_at_end, Counts, counts_lf, counts_other}
use Rattle.cl_lexer.proofs.joined.join.Goals as goal
use Rattle.cl_lexer.proofs.joined.join.Goals.{then-joining-gt0, else-joining-gt0+then-length-gt0, else-joining-gt0+else-length-gt0+in_ok-push+in_ok-push-2, then-text-at-eq10, else-text-at-eq10}

joins_after : (c : goal.Joined-text-at-eq10) → Joins c.args.text.now (c.loop-at.at + 1) c.if-joining-gt0.joining c.if-joining-gt0.bytes.items c.if-joining-gt0.places.items
joins_after c =
    elim c.if-joining-gt0.branch [
      | then-joining-gt0 w ↦ joins_as c.args.text.now (c.loop-at.at + 1) _ _ _ _ _ _ w.joining-is (ap (λ v. v.items) w.bytes-is) (ap (λ v. v.items) w.places-is) (joins_inside c.args.text.now c.loop-at.at c.loop-at.joining _ _ c.loop-at-test.true w.if-joining-gt0.true c.loop-at.invariant.joins)
      | else-joining-gt0+then-length-gt0 w ↦ joins_as c.args.text.now (c.loop-at.at + 1) _ _ _ _ _ _ w.joining-is (ap (λ v. v.items) w.bytes-is) (ap (λ v. v.items) w.places-is) (joins_begin c.args.text.now c.loop-at.at c.loop-at.joining c.join_length-length.result _ _ c.loop-at-test.true w.if-joining-gt0.false c.join_length-length.ensures w.if-length-gt0.true c.loop-at.invariant.joins)
      | else-joining-gt0+else-length-gt0+in_ok-push+in_ok-push-2 w ↦ joins_as c.args.text.now (c.loop-at.at + 1) _ _ _ _ _ _ w.joining-is (ap (λ v. v.items) w.bytes-is) (ap (λ v. v.items) w.places-is) (joins_stay c.args.text.now c.loop-at.at c.loop-at.joining c.join_length-length.result c.loop-at.line _ _ _ _ _ c.loop-at-test.true w.if-joining-gt0.false c.join_length-length.ensures w.if-length-gt0.false (is_at c.args.text.now c.loop-at.at c.loop-at.line c.loop-at.start c.loop-at.invariant.line c.loop-at.invariant.start) w.in_ok-push.ensures.items w.in_ok-push-2.ensures.items c.loop-at.invariant.joins)
    ]

counts_after : (c : goal.Joined-text-at-eq10) → Counts c.args.text.now (c.loop-at.at + 1) c.if-text-at-eq10.line c.if-text-at-eq10.start
counts_after c =
    elim c.if-text-at-eq10.branch [
      | then-text-at-eq10 w ↦ counts_lf c.args.text.now c.loop-at.at c.loop-at.line c.loop-at.start _ _ c.loop-at-test.true w.if-text-at-eq10.true c.loop-at.invariant.line c.loop-at.invariant.bound w.line-is w.start-is
      | else-text-at-eq10 w ↦ counts_other c.args.text.now c.loop-at.at c.loop-at.line c.loop-at.start _ _ c.loop-at-test.true w.if-text-at-eq10.false c.loop-at.invariant.line c.loop-at.invariant.bound c.loop-at.invariant.start w.line-is w.start-is
    ]

pub loop-at-preserved : goal.loop-at-preserved
loop-at-preserved c = let counts = counts_after c in record {
  line = counts.counted;
  bound = counts.bound;
  start = counts.begins;
  joins = joins_after c;
}

pub returns : goal.returns
returns c = joins_end c.args.text.now c.loop-at.at c.loop-at.joining c.loop-at.line _ _ _ _ c.loop-at-test.false (is_at_end c.args.text.now c.loop-at.at c.loop-at.line c.loop-at.start c.loop-at-test.false c.loop-at.auto.at-end c.loop-at.invariant.line c.loop-at.invariant.start) c.in_ok-push-3.ensures.items c.loop-at.invariant.joins
