use Rattle.std.proofs.Common.{sym, ap, ◌∙◌, subst, map, length}
use Rattle.cl_make.specs.Ready.{operand_in}
use Rattle.cl_rules.specs.Calls.{cast_rule}
use Rattle.cl_make.proofs.Asked.{Asked, cast_asked}
use Rattle.std.proofs.lemmas.List.{length-map}
use Rattle.cl_type_expr.proofs.Nodes.{Star, if_ok, if_err, judged_asks, cast_ok, cast_out}
use Rattle.cl_type_expr.proofs.term.cast.Goals as goal

pub judged-requires-clause-asked : goal.judged-requires-clause-asked
judged-requires-clause-asked c =
    judged_asks c.args.types.now _ (length c.args.operands.items) _ (ap length (c.as_slice.ensures ∙ c.in_ok-os.ensures ∙ ap (map operand_in) c.deref.ensures.value) ∙ length-map c.args.operands.items operand_in) (subst (Asked c.args.types.now (length c.as_slice.result.now)) (sym c.in_ok-rule.ensures) (cast_asked c.args.types.now c.is_table.ensures c.args.q _ c.as_slice.result.now c.requires.type_ready))

pub returns-clause-ok : goal.returns-clause-ok
returns-clause-ok c =
    let rule = c.in_ok-rule.ensures ∙ ap (λ s. cast_rule c.args.q s c.as_slice.result.now) c.restrict_behind.ensures ∙ ap (cast_rule c.args.q (Star c.args.term.now)) (c.as_slice.ensures ∙ c.in_ok-os.ensures ∙ ap (map operand_in) c.deref.ensures.value) in
    if_ok c.judged.result _ _ (λ r m. cast_ok c.judged.new.types c.args.names.now c.args.left c.args.e.now c.args.term.now c.args.q c.args.operands.items _ r c.requires.is rule m) c.judged.ensures.ok

pub returns-clause-out : goal.returns-clause-out
returns-clause-out c =
    let rule = c.in_ok-rule.ensures ∙ ap (λ s. cast_rule c.args.q s c.as_slice.result.now) c.restrict_behind.ensures ∙ ap (cast_rule c.args.q (Star c.args.term.now)) (c.as_slice.ensures ∙ c.in_ok-os.ensures ∙ ap (map operand_in) c.deref.ensures.value) in
    if_err c.judged.result _ _ (λ s m. cast_out c.judged.new.types c.args.names.now c.args.left c.args.e.now c.args.term.now c.args.q c.args.operands.items _ s c.requires.is rule m) c.judged.ensures.out
