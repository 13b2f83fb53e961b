use Rattle.std.proofs.Common.{refl, sym, ap, ◌∙◌, subst, map, All}
use Rattle.cl_ast.specs.declared.expression.Base.TheViews.{out-Expr}
use Rattle.cl_make.specs.Ready.{operand_in, tree_of}
use Rattle.cl_builtins.proofs.Growth.{grown_same}
use Rattle.cl_make.specs.Ready.{IsReadyOperand}
use Rattle.cl_make.proofs.Stays.{all_ready_stay}
use Rattle.cl_make.proofs.Asked.{operands_ready}
use Rattle.cl_type_expr.specs.Expressions.{flag_divides, flags_fit}
use Rattle.cl_type_expr.specs.Typing.{NodeStops, IsFoundAt, FoundStops}
use Rattle.cl_type_expr.proofs.Nodes.{stop_exit}
use Rattle.cl_type_expr.proofs.BuiltIns.{flag_divided, call_stops, call_unfit, call_asks, call_ok}
use Rattle.cl_type_expr.proofs.built_in.built_in.Goals as goal

pub returns-in-Some-clause-out : goal.returns-in-Some-clause-out
returns-in-Some-clause-out c =
    subst (NodeStops c.args.types.now c.args.names.now c.args.left c.args.e.now c.args.operands.items) (sym c.out.ensures)
    (flag_divided c.args.types.now c.args.types.now c.args.types.now c.is_table.ensures c.is_table.ensures (grown_same c.args.types.now c.args.types.now refl) (grown_same c.args.types.now c.args.types.now refl) c.args.names.now c.args.left c.args.e.now c.args.name.now c.args.operands.items c.requires.known c.requires.ready c.requires.is c.requires.apart c.in-Some.place (ap (λ xs. flag_divides c.args.types.now c.args.name.now (map tree_of xs)) (sym c.deref.ensures.value) ∙ sym c.in_ok-place.ensures ∙ c.in-Some.is))

pub found_at-requires : goal.found_at-requires
found_at-requires c = subst (All (IsReadyOperand c.args.types.now)) (sym (c.as_slice.ensures ∙ c.in_ok-os.ensures ∙ ap (map operand_in) c.deref-2.ensures.value)) (operands_ready c.args.types.now c.args.operands.items c.requires.ready)

pub returns-in_err-found-clause-out : goal.returns-in_err-found-clause-out
returns-in_err-found-clause-out c =
    let s = c.in_err-found.field-0.0 in
    stop_exit c.from_residual-in_err-found.result s _ c.from_residual-in_err-found.ensures.1
    (call_stops c.args.types.now c.found_at.new.types c.found_at.new.types c.is_table.ensures c.in_err-found.ensures.grows.table c.in_err-found.ensures.grows.grown (grown_same c.found_at.new.types c.found_at.new.types refl) c.args.names.now c.args.left c.args.e.now c.args.name.now c.args.operands.items c.requires.known c.requires.ready c.requires.is c.requires.apart s (ap (λ xs. flag_divides c.args.types.now c.args.name.now (map tree_of xs)) (sym c.deref.ensures.value) ∙ sym c.in_ok-place.ensures ∙ c.in_default.is) (subst (λ os. FoundStops c.found_at.new.types c.args.name.now (out-Expr c.args.e.now).place os s) (c.as_slice.ensures ∙ c.in_ok-os.ensures ∙ ap (map operand_in) c.deref-2.ensures.value) c.in_err-found.ensures.out))

pub returns-then-not-branch-clause-out : goal.returns-then-not-branch-clause-out
returns-then-not-branch-clause-out c =
    subst (NodeStops c.found_at.new.types c.args.names.now c.args.left c.args.e.now c.args.operands.items) (sym c.out-then-not-branch.ensures)
    (call_unfit c.args.types.now c.found_at.new.types c.found_at.new.types c.is_table.ensures c.in_ok-found.ensures.grows.table c.in_ok-found.ensures.grows.grown (grown_same c.found_at.new.types c.found_at.new.types refl) c.args.names.now c.args.left c.args.e.now c.args.name.now c.args.operands.items c.requires.known c.requires.ready c.requires.is c.requires.apart c.in_ok-found.found (ap (λ xs. flag_divides c.args.types.now c.args.name.now (map tree_of xs)) (sym c.deref.ensures.value) ∙ sym c.in_ok-place.ensures ∙ c.in_default.is) (subst (λ os. IsFoundAt c.found_at.new.types c.args.name.now os c.in_ok-found.found) (c.as_slice.ensures ∙ c.in_ok-os.ensures ∙ ap (map operand_in) c.deref-2.ensures.value) c.in_ok-found.ensures.ok) (ap (λ xs. flags_fit c.found_at.new.types c.args.name.now (map tree_of xs)) (sym c.deref-3.ensures.value) ∙ sym c.in_ok-flags_fit.ensures ∙ c.if-not-branch.true))

pub made-requires-clause-ready : goal.made-requires-clause-ready
made-requires-clause-ready c = all_ready_stay c.args.types.now c.found_at.new.types c.args.operands.items c.is_table.ensures c.in_ok-found.ensures.grows.grown c.requires.ready

pub made-requires-clause-asked : goal.made-requires-clause-asked
made-requires-clause-asked c = call_asks c.args.types.now c.found_at.new.types c.found_at.new.types c.is_table.ensures c.in_ok-found.ensures.grows.table c.in_ok-found.ensures.grows.grown (grown_same c.found_at.new.types c.found_at.new.types refl) c.args.names.now c.args.left c.args.e.now c.args.name.now c.args.operands.items c.requires.known c.requires.ready c.requires.is c.requires.apart c.in_ok-found.found c.in_ok-rule.rule (subst (λ os. IsFoundAt c.found_at.new.types c.args.name.now os c.in_ok-found.found) (c.as_slice.ensures ∙ c.in_ok-os.ensures ∙ ap (map operand_in) c.deref-2.ensures.value) c.in_ok-found.ensures.ok) c.in_ok-rule.ensures

pub returns-clause-ok : goal.returns-clause-ok
returns-clause-ok c =
    call_ok c.args.types.now c.found_at.new.types c.made.new.types c.is_table.ensures c.in_ok-found.ensures.grows.table c.in_ok-found.ensures.grows.grown c.in_ok-made.ensures.grows.grown c.args.names.now c.args.left c.args.e.now c.args.name.now c.args.operands.items c.requires.known c.requires.ready c.requires.is c.requires.apart c.in_ok-found.found c.in_ok-rule.rule c.in_ok-made.field-0 (subst (λ os. IsFoundAt c.found_at.new.types c.args.name.now os c.in_ok-found.found) (c.as_slice.ensures ∙ c.in_ok-os.ensures ∙ ap (map operand_in) c.deref-2.ensures.value) c.in_ok-found.ensures.ok) (ap (λ xs. flags_fit c.found_at.new.types c.args.name.now (map tree_of xs)) (sym c.deref-3.ensures.value) ∙ sym c.in_ok-flags_fit.ensures ∙ c.if-not-branch.false) c.in_ok-rule.ensures c.in_ok-made.ensures.made
