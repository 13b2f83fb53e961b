use Rattle.std.proofs.Common.{sym, ap, ◌∙◌, subst, map}
use Rattle.cl_ast.specs.declared.expression.Base.TheViews.{out-Expr}
use Rattle.cl_make.specs.Ready.{operand_in, AreKnownOperands}
use Rattle.cl_type_expr.proofs.Nodes.{if_ok, if_err, judged_same, node_asks, node_ok, node_out, operands_known}
use Rattle.cl_type_expr.proofs.node.node.Goals as goal

pub judge-requires-clause-operands : goal.judge-requires-clause-operands
judge-requires-clause-operands c = subst (AreKnownOperands c.args.types.now) (sym (c.as_slice.ensures ∙ c.in_ok-os.ensures ∙ ap (map operand_in) c.deref.ensures.value)) (operands_known c.args.types.now c.args.operands.items c.requires.ready)

pub judged-requires-clause-asked : goal.judged-requires-clause-asked
judged-requires-clause-asked c =
    let same = judged_same c.args.types.now c.args.names.now c.args.left (out-Expr c.args.e.now).node c.args.operands.items _ _ _ (c.as_slice.ensures ∙ c.in_ok-os.ensures ∙ ap (map operand_in) c.deref.ensures.value) c.in_ok-rule.ensures c.in-Some.is in
    node_asks c.args.types.now c.args.names.now c.args.left (out-Expr c.args.e.now).node c.args.operands.items _ c.is_table.ensures c.requires.known c.requires.ready same

pub returns-in-Some-clause-ok : goal.returns-in-Some-clause-ok
returns-in-Some-clause-ok c =
    let same = judged_same c.args.types.now c.args.names.now c.args.left (out-Expr c.args.e.now).node c.args.operands.items _ _ _ (c.as_slice.ensures ∙ c.in_ok-os.ensures ∙ ap (map operand_in) c.deref.ensures.value) c.in_ok-rule.ensures c.in-Some.is in
    if_ok c.judged.result _ _ (λ r m. node_ok c.args.types.now c.judged.new.types c.is_table.ensures c.judged.ensures.grows.grown c.args.names.now c.args.left c.args.e.now c.args.operands.items c.requires.known c.requires.ready _ r same m) c.judged.ensures.ok

pub returns-in-Some-clause-out : goal.returns-in-Some-clause-out
returns-in-Some-clause-out c =
    let same = judged_same c.args.types.now c.args.names.now c.args.left (out-Expr c.args.e.now).node c.args.operands.items _ _ _ (c.as_slice.ensures ∙ c.in_ok-os.ensures ∙ ap (map operand_in) c.deref.ensures.value) c.in_ok-rule.ensures c.in-Some.is in
    if_err c.judged.result _ _ (λ s m. node_out c.args.types.now c.judged.new.types c.is_table.ensures c.judged.ensures.grows.grown c.args.names.now c.args.left c.args.e.now c.args.operands.items c.requires.known c.requires.ready _ s same m) c.judged.ensures.out

pub special-requires-clause-apart : goal.special-requires-clause-apart
special-requires-clause-apart c =
    let same = judged_same c.args.types.now c.args.names.now c.args.left (out-Expr c.args.e.now).node c.args.operands.items _ _ _ (c.as_slice.ensures ∙ c.in_ok-os.ensures ∙ ap (map operand_in) c.deref.ensures.value) c.in_ok-rule.ensures c.in-None.is in
    same
