use Rattle.std.proofs.Common.{◌≡◌, ap, ◌∙◌, subst, refl, arith, IfOk}
use Rattle.cl_tree.specs.declared.expression.TNode.TheViews.{out-TExpr}
use Rattle.cl_tree.specs.Shapes.{shape_of}
use Rattle.cl_variables.specs.Bytes.{HavePieces, list_bytes, patterns}
use Rattle.cl_variables.proofs.Pieces.{list_has, value_has, pieces_more, pieces_end}
use Rattle.cl_variables.proofs.image.+bytes.Goals as goal

pub bytes-returns-in_ok-pieces-in-Fill : goal.bytes-returns-in_ok-pieces-in-Fill
bytes-returns-in_ok-pieces-in-Fill t c =
    let cs = c.args.types.now in
    let ty = (out-TExpr c.args.t.now).ty in
    let ps = c.in_ok-pieces-in-Fill.pieces.items in
    list_has cs c.args.t.now c.in-Fill.args ps c.list_bytes.result c.in-Fill.is
    (subst (λ z. HavePieces cs z ps) c.deref.ensures.value c.in_ok-pieces-in-Fill.ensures)
    (subst (λ z. IfOk c.list_bytes.result (λ bs. bs ≡ list_bytes cs ty (shape_of cs ty) z)) c.deref-in-Fill.ensures.value c.list_bytes.ensures)

pub bytes-returns-in_ok-value-in_default : goal.bytes-returns-in_ok-value-in_default
bytes-returns-in_ok-value-in_default t c =
    value_has c.args.types.now c.args.t.now c.patterns.result.now c.value_bytes.result c.in_default.not-Fill (c.patterns.ensures ∙ ap patterns c.in_ok-value-in_default.ensures) c.value_bytes.ensures

pub pieces-loop-arg-preserved : goal.pieces-loop-arg-preserved
pieces-loop-arg-preserved t c =
    pieces_more c.args.types.now c.args.args.now c.loop-arg.arg-index c.loop-arg.pieces.items c.push.new.self.items c.arg-item.result (out-TExpr c.arg-item.result).ty c.in_ok-bytes.field-0 c.loop-arg.invariant c.loop-arg-test.true c.arg-item.is refl c.in_ok-bytes.ensures c.in_ok-push.ensures.items

pub pieces-returns : goal.pieces-returns
pieces-returns t c = pieces_end c.args.types.now c.args.args.now c.loop-arg.arg-index c.loop-arg.pieces.items c.loop-arg.invariant (omega arith)
