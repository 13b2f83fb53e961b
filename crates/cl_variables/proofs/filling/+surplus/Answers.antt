use Rattle.std.proofs.Common.{◌≡◌, ◌+◌, get_or, sym, subst, arith}
use Rattle.cl_ast.specs.declared.declaration.Init.{Init}
use Rattle.cl_type_expr.proofs.Nodes.{stop_exit}
use Rattle.cl_variables.specs.Answers.{SurplusIs, SurplusStops}
use Rattle.cl_variables.proofs.Lists.{SurplusSoFar, surplus_value_next, surplus_value_stop, surplus_braces_next, surplus_braces_stop, surplus_end}
use Rattle.cl_variables.proofs.filling.+surplus.Goals.{in-Braces+in_ok-surplus-in-Braces, in-Value+in_ok-alone-in-Value}
use Rattle.cl_variables.proofs.filling.+surplus.Goals as goal

pub returns-in_err-surplus-in-Braces-clause-out : goal.returns-in_err-surplus-in-Braces-clause-out
returns-in_err-surplus-in-Braces-clause-out t c =
    let new = c.surplus.new.types in
    let s = c.in_err-surplus-in-Braces.field-0.0 in
    stop_exit c.from_residual.result _ _ c.from_residual.ensures.1
    (surplus_braces_stop c.args.types.now c.loop-item.types new c.args.constant c.args.names.now c.args.items.now c.loop-item.item-index c.loop-item.names c.loop-item.invariant c.loop-item-test.true c.surplus.ensures.grows
    c.in-Braces.place c.in-Braces.inside (subst (λ (z : Init). z ≡ get_or c.args.items.now c.loop-item.item-index z) c.in-Braces.is c.item-item.is) s
    (subst (λ z. SurplusStops new c.args.constant c.loop-item.names z s) c.deref.ensures.value c.in_err-surplus-in-Braces.ensures.out))

pub returns-in_err-alone-in-Value-clause-out : goal.returns-in_err-alone-in-Value-clause-out
returns-in_err-alone-in-Value-clause-out t c =
    stop_exit c.from_residual-in_err-alone-in-Value.result _ _ c.from_residual-in_err-alone-in-Value.ensures.1
    (surplus_value_stop c.args.types.now c.loop-item.types c.alone.new.types c.args.constant c.args.names.now c.args.items.now c.loop-item.item-index c.loop-item.names c.loop-item.invariant c.loop-item-test.true c.alone.ensures.grows
    c.in-Value.e (subst (λ (z : Init). z ≡ get_or c.args.items.now c.loop-item.item-index z) c.in-Value.is c.item-item.is) c.in_err-alone-in-Value.field-0.0 c.in_err-alone-in-Value.ensures.out)

pub loop-item-preserved : goal.loop-item-preserved
loop-item-preserved t c =
    let i = c.loop-item.item-index in
    let here = c.loop-item.names in
    elim c.match-item.branch [
      | in-Braces+in_ok-surplus-in-Braces w ↦
          subst (λ z. SurplusSoFar c.args.types.now z c.args.constant c.args.names.now c.args.items.now (i + 1) c.match-item.names) (sym w.types-is)
          (subst (λ z. SurplusSoFar c.args.types.now w.surplus.new.types c.args.constant c.args.names.now c.args.items.now (i + 1) z) (sym w.names-is)
          (surplus_braces_next c.args.types.now c.loop-item.types w.surplus.new.types c.args.constant c.args.names.now c.args.items.now i here c.loop-item.invariant c.loop-item-test.true w.surplus.ensures.grows
          w.in-Braces.place w.in-Braces.inside (subst (λ (z : Init). z ≡ get_or c.args.items.now i z) w.in-Braces.is c.item-item.is) w.surplus.new.names
          (subst (λ z. SurplusIs w.surplus.new.types c.args.constant here z w.surplus.new.names) w.deref.ensures.value w.in_ok-surplus-in-Braces.ensures.ok)))
      | in-Value+in_ok-alone-in-Value w ↦
          subst (λ z. SurplusSoFar c.args.types.now z c.args.constant c.args.names.now c.args.items.now (i + 1) c.match-item.names) (sym w.types-is)
          (subst (λ z. SurplusSoFar c.args.types.now w.alone.new.types c.args.constant c.args.names.now c.args.items.now (i + 1) z) (sym w.names-is)
          (surplus_value_next c.args.types.now c.loop-item.types w.alone.new.types c.args.constant c.args.names.now c.args.items.now i here c.loop-item.invariant c.loop-item-test.true w.alone.ensures.grows
          w.in-Value.e (subst (λ (z : Init). z ≡ get_or c.args.items.now i z) w.in-Value.is c.item-item.is) w.alone.new.names w.in_ok-alone-in-Value.ensures.ok.valued w.in_ok-alone-in-Value.ensures.ok.is))
    ]

pub returns-clause-ok : goal.returns-clause-ok
returns-clause-ok t c = surplus_end c.args.types.now c.loop-item.types c.args.constant c.args.names.now c.args.items.now c.loop-item.item-index c.loop-item.names c.loop-item.invariant (omega arith)
