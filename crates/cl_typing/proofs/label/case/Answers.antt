use Rattle.std.proofs.Common.{sym, ◌∙◌, subst, not}
use Rattle.cl_make.proofs.Growing.{grows_itself, grows_twice}
use Rattle.cl_make.proofs.Stays.{env_stays}
use Rattle.cl_tree.specs.Shapes.{is_number}
use Rattle.cl_typing.specs.Answers.{CaseStops}
use Rattle.cl_typing.specs.Statements.{no_case}
use Rattle.cl_typing.proofs.Results.{stop_exit, none_of_not}
use Rattle.cl_typing.proofs.Switches.{case_expr_out, case_divided, case_broken, case_fits, case_kept}
use Rattle.cl_typing.proofs.label.case.Goals as goal

pub returns-in_err-typed-clause-out : goal.returns-in_err-typed-clause-out
returns-in_err-typed-clause-out c =
    stop_exit c.from_residual.result _ _ c.from_residual.ensures.1 (case_expr_out c.expr.new.types c.args.tested.now c.args.names.now c.args.e.now c.args.place _ c.in_err-typed.ensures.out)

pub returns-in_err-n-clause-out : goal.returns-in_err-n-clause-out
returns-in_err-n-clause-out c =
    stop_exit c.from_residual-in_err-n.result _ _ c.from_residual-in_err-n.ensures.1
    (case_divided c.expr.new.types c.expr.new.types c.args.tested.now c.args.names.now c.expr.new.names c.args.e.now c.in_ok-typed.typed c.in_ok-typed.ensures.ok (grows_itself c.expr.new.types c.is_table-2.ensures).grown c.args.place _ c.in_err-n.ensures.out)

pub returns-in-Some-clause-out : goal.returns-in-Some-clause-out
returns-in-Some-clause-out c =
    subst (CaseStops c.expr.new.types c.args.tested.now c.args.names.now c.args.e.now c.args.place) (sym c.out.ensures)
    (case_broken c.expr.new.types c.expr.new.types c.args.tested.now c.args.names.now c.expr.new.names c.args.e.now c.in_ok-typed.typed c.in_ok-typed.ensures.ok (grows_itself c.expr.new.types c.is_table-2.ensures).grown c.in_ok-n.n c.in_ok-n.ensures.ok c.args.place c.in-Some.code (sym c.case_broken.ensures ∙ c.in-Some.is))

pub see-requires : goal.see-requires
see-requires c = case_kept (not (is_number c.in_ok-typed.typed.operand.shape)) (no_case c.in_ok-n.n c.args.tested.now.seen) (sym c.case_broken.ensures ∙ none_of_not _ c.in_default.not-Some)

pub returns-clause-ok : goal.returns-clause-ok
returns-clause-ok c =
    case_fits c.expr.new.types c.expr.new.types c.args.tested.now c.args.names.now c.expr.new.names c.args.e.now c.in_ok-typed.typed c.in_ok-typed.ensures.ok (grows_itself c.expr.new.types c.is_table-2.ensures).grown c.in_ok-n.n c.in_ok-n.ensures.ok c.converted.new.types c.in_ok-converted.field-0 c.see.new.self c.converted.ensures.grows.grown
    (sym c.case_broken.ensures ∙ none_of_not _ c.in_default.not-Some) c.in_ok-see.ensures c.in_ok-converted.ensures.converted (env_stays _ _ _ c.converted.ensures.grows.grown c.in_ok-typed.ensures.ok.known)

pub returns-clause-grows : goal.returns-clause-grows
returns-clause-grows c = grows_twice _ _ _ c.in_ok-typed.ensures.grows c.converted.ensures.grows
