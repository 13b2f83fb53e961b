use Rattle.std.proofs.Common.{sym, subst, arith}
use Rattle.cl_meaning.specs.ItemRuns.{IsItemRun}
use Rattle.cl_meaning.specs.Views.{item_by, surroundings_by, values_of}
use Rattle.cl_meaning.proofs.Turns.{first_steady, goes_on_first, seen_bodies, stands_whole, turn_falls, turn_goes_on, turn_steady}
use Rattle.cl_meaning.proofs.run.run.Goals as goal

pub turns-init : goal.turns-init
turns-init c =
    let s = surroundings_by c.args.s in
    let first = item_by c.args.s.types.now c.args.first in
    record {
      within = omega arith;
      steady = first_steady s first c.requires.seen c.requires.begun;
      goes_on = goes_on_first s (values_of c.args.answers.now) c.args.fuel first c.begun-made.result c.begun-made.ensures.events c.begun-made.ensures.steps;
    }

pub returns-in-Some : goal.returns-in-Some
returns-in-Some c =
    let s = surroundings_by c.args.s in
    let cs = c.args.s.types.now in
    let answers = values_of c.args.answers.now in
    let first = item_by cs c.args.first in
    let stands = rw c.in-Some.is at c.in_ok-outcome.ensures in
    subst (λ r. IsItemRun s first answers c.args.fuel r) (sym c.ended.ensures)
    (stands_whole s answers c.args.fuel first (item_by cs c.turns.item) (item_by cs c.turn.new.item) c.turns.made c.turn.new.self c.in-Some.outcome c.turns.invariant.goes_on stands)

pub turns-smaller : goal.turns-smaller
turns-smaller c =
    let s = surroundings_by c.args.s in
    let cs = c.args.s.types.now in
    let turn = rw c.in_default.is at c.in_ok-outcome.ensures in
    turn_falls s (seen_bodies s c.requires.seen) (values_of c.args.answers.now) c.args.fuel (item_by cs c.turns.item) (item_by cs c.turn.new.item) c.turns.made c.turn.new.self c.turns.invariant.steady turn

pub turns-preserved : goal.turns-preserved
turns-preserved c =
    let s = surroundings_by c.args.s in
    let cs = c.args.s.types.now in
    let answers = values_of c.args.answers.now in
    let i = item_by cs c.turns.item in
    let j = item_by cs c.turn.new.item in
    let turn = rw c.in_default.is at c.in_ok-outcome.ensures in
    record {
      within = turn.within;
      steady = turn_steady s answers c.args.fuel i j c.turns.made c.turn.new.self c.requires.seen c.turns.invariant.steady turn;
      goes_on = turn_goes_on s answers c.args.fuel (item_by cs c.args.first) i j c.turns.made c.turn.new.self c.turns.invariant.goes_on turn;
    }
