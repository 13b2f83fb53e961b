use Rattle.std.proofs.Common.{sym, ap, ◌∙◌, subst, length, []}
use Rattle.cl_make.specs.Ready.{IsReady, AreReady}
use Rattle.cl_rules.specs.Parts.{member}
use Rattle.cl_make.proofs.Asked.{Asked, member_asked}
use Rattle.std.proofs.lemmas.List.Elements.{All-cons, All-nil}
use Rattle.cl_type_expr.proofs.Nodes.{if_ok, if_err, judged_asks, member_ok, member_out}
use Rattle.cl_type_expr.proofs.special.member_of.Goals as goal

pub judged-requires-clause-ready : goal.judged-requires-clause-ready
judged-requires-clause-ready c = subst (AreReady c.args.types.now) (sym c.in_ok-operands.ensures) (All-cons (IsReady c.args.types.now) c.args.whole [] c.requires.ready (All-nil (IsReady c.args.types.now)))

pub judged-requires-clause-asked : goal.judged-requires-clause-asked
judged-requires-clause-asked c =
    judged_asks c.args.types.now 1 (length c.in_ok-operands.operands.items) c.in_ok-rule.rule (sym (ap length c.in_ok-operands.ensures))
    (subst (Asked c.args.types.now 1) (sym (c.in_ok-rule.ensures ∙ ap (λ ms. member c.args.left ms c.args.name.now c.args.whole.operand) c.members.ensures)) (member_asked c.args.types.now c.is_table.ensures c.args.left c.args.name.now c.args.whole.operand c.requires.ready.operand))

pub returns-clause-ok : goal.returns-clause-ok
returns-clause-ok c =
    if_ok c.judged.result _ _ (λ r m. member_ok c.args.types.now c.judged.new.types c.args.place c.args.left c.args.name.now c.args.whole c.judged.ensures.grows.grown c.requires.ready.operand.known _ _ r c.in_ok-operands.ensures (c.in_ok-rule.ensures ∙ ap (λ ms. member c.args.left ms c.args.name.now c.args.whole.operand) c.members.ensures) m) c.judged.ensures.ok

pub returns-clause-out : goal.returns-clause-out
returns-clause-out c =
    if_err c.judged.result _ _ (λ s m. member_out c.args.types.now c.judged.new.types c.args.place c.args.left c.args.name.now c.args.whole c.judged.ensures.grows.grown c.requires.ready.operand.known _ s (c.in_ok-rule.ensures ∙ ap (λ ms. member c.args.left ms c.args.name.now c.args.whole.operand) c.members.ensures) m) c.judged.ensures.out
