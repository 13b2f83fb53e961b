use Rattle.std.proofs.Common.{◌≡◌, ◌==◌, ◌≤◌, ◌∙◌, ap, Err, length, false, arith}
use Rattle.std.proofs.lemmas.Result.{err_from_is_err_and}
use Rattle.spv_binary.proofs.Loops.{operand_fails, operand_more}
use Rattle.spv_binary.proofs.reading.read_operands.Goals as goal

pub returns-in_err-read_operand : goal.returns-in_err-read_operand
returns-in_err-read_operand c =
    let some : (length c.loop-rest.rest.now == 0) ≡ false = cc (c.loop-rest-test.ensures) in
    let long : c.args.shape.now.count ≤ length c.args.shape.now.kinds = omega arith in
    let p = err_from_is_err_and c.from_residual.result c.from_residual.ensures.1 in
    operand_fails c.args.bound c.args.shape.now c.args.start c.args.words.now c.loop-rest.operands c.loop-rest.at c.loop-rest.rest.now c.kind-kind.result c.len.result c.in_err-read_operand.field-0.0 c.from_residual.result c.loop-rest.invariant long some c.kind-kind.ensures c.len.ensures c.in_err-read_operand.ensures (p.1 ∙ ap Err p.2)

pub loop-rest-preserved : goal.loop-rest-preserved
loop-rest-preserved c =
    let some : (length c.loop-rest.rest.now == 0) ≡ false = cc (c.loop-rest-test.ensures) in
    let long : c.args.shape.now.count ≤ length c.args.shape.now.kinds = omega arith in
    operand_more c.args.bound c.args.shape.now c.args.start c.args.words.now c.loop-rest.operands c.loop-rest.at c.loop-rest.rest.now c.kind-kind.result c.len.result c.width-width.result c.in_ok-read_operand.field-0 c.push.new.self c.behind-rest.result.now c.loop-rest.invariant long some c.kind-kind.ensures c.len.ensures c.width-width.ensures c.in_ok-read_operand.ensures c.in_ok-push.ensures.ok c.behind-rest.ensures
