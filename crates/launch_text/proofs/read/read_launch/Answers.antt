use Rattle.std.proofs.Common.{arith, refl, subst, sym}
use Rattle.launch_text.proofs.LaunchLaws.{readable_answer}
use Rattle.launch_text.proofs.Reading.{files_fit, read_stops_at, read_ends, ends_ok, ends_fault}
use Rattle.launch_text.specs.LaunchText.{launch_of, IsStopOf}
use Rattle.launch_text.proofs.read.read_launch.Goals as goal

pub take_line-requires : goal.take_line-requires
take_line-requires c = let fit = files_fit _ _ _ _ c.loop-rest.invariant in record { few = omega arith }

pub returns-in-Err-clause-fault : goal.returns-in-Err-clause-fault
returns-in-Err-clause-fault c = subst (IsStopOf (launch_of c.args.bytes.now)) (sym c.stop_at.ensures) (read_stops_at c.args.bytes.now c.loop-rest.rest.now c.first_line.result.0.now c.first_line.result.1.now c.loop-rest.draft c.take_line.new.draft c.loop-rest.lines _ c.in-Err.stop c.in-Err.ensures c.loop-rest.invariant c.first_line.ensures.lines refl c.if-bytes-gt-MAX_TEXT.false)

pub returns-clause-ok : goal.returns-clause-ok
returns-clause-ok c = ends_ok _ _ c.launch.result (read_ends _ _ _ _ c.loop-rest.invariant c.loop-rest-test.ensures c.if-bytes-gt-MAX_TEXT.false) c.launch.ensures.ok

pub returns-clause-readable : goal.returns-clause-readable
returns-clause-readable c = readable_answer c.args.bytes.now c.launch.result (ends_ok _ _ c.launch.result (read_ends _ _ _ _ c.loop-rest.invariant c.loop-rest-test.ensures c.if-bytes-gt-MAX_TEXT.false) c.launch.ensures.ok)

pub returns-clause-fault : goal.returns-clause-fault
returns-clause-fault c = ends_fault _ _ c.launch.result (read_ends _ _ _ _ c.loop-rest.invariant c.loop-rest-test.ensures c.if-bytes-gt-MAX_TEXT.false) c.launch.ensures.fault
