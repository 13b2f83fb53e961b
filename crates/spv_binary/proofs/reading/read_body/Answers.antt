use Rattle.std.proofs.Common.{◌≡◌, ◌==◌, ◌∙◌, ap, Err, length, false, arith}
use Rattle.std.proofs.lemmas.Result.{err_from_is_err_and}
use Rattle.std.proofs.lemmas.List.{length-drop}
use Rattle.spv_binary.proofs.Bodies.{body_fails, body_more, body_count, body_ends}
use Rattle.spv_binary.proofs.reading.read_body.Goals as goal

pub returns-in_err-inst : goal.returns-in_err-inst
returns-in_err-inst c =
    let some : (length c.loop-rest.rest.now == 0) ≡ false = cc (c.loop-rest-test.ensures) in
    let p = err_from_is_err_and c.from_residual.result c.from_residual.ensures.1 in
    body_fails c.args.bound c.args.words.now c.loop-rest.body c.loop-rest.at c.loop-rest.rest.now c.in_err-inst.field-0.0 c.from_residual.result c.loop-rest.invariant some c.in_err-inst.ensures (p.1 ∙ ap Err p.2)

pub loop-rest-smaller : goal.loop-rest-smaller
loop-rest-smaller c =
    let some : (length c.loop-rest.rest.now == 0) ≡ false = cc (c.loop-rest-test.ensures) in
    let h = body_count c.args.bound c.args.words.now c.loop-rest.body c.loop-rest.at c.loop-rest.rest.now c.in_ok-inst.inst c.count_of-count.result c.loop-rest.invariant some c.in_ok-inst.ensures c.count_of-count.ensures in
    rw c.behind-rest.ensures (omega (arith, length-drop c.count_of-count.result c.loop-rest.rest.now))

pub loop-rest-preserved : goal.loop-rest-preserved
loop-rest-preserved c =
    let some : (length c.loop-rest.rest.now == 0) ≡ false = cc (c.loop-rest-test.ensures) in
    body_more c.args.bound c.args.words.now c.loop-rest.body c.loop-rest.at c.loop-rest.rest.now c.in_ok-inst.inst c.count_of-count.result c.push.new.self c.behind-rest.result.now c.loop-rest.invariant some c.in_ok-inst.ensures c.count_of-count.ensures c.in_ok-push.ensures.ok c.behind-rest.ensures

pub returns : goal.returns
returns c = body_ends c.args.bound c.args.words.now c.loop-rest.body c.loop-rest.at c.loop-rest.rest.now c.loop-rest.invariant (cc (c.loop-rest-test.ensures))
