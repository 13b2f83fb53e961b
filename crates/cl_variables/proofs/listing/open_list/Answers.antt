use Rattle.std.proofs.Common.{sym, ◌∙◌, subst}
use Rattle.cl_type_expr.proofs.Nodes.{stop_exit}
use Rattle.cl_variables.specs.Answers.{OpenListStops}
use Rattle.cl_variables.proofs.Lists.{open_none_out, open_all_out, open_broken_out, some_by, none_by}
use Rattle.cl_variables.proofs.listing.open_list.Goals as goal

pub returns-then-is_empty-clause-out : goal.returns-then-is_empty-clause-out
returns-then-is_empty-clause-out c =
    subst (OpenListStops c.args.types.now c.args.constant c.args.names.now c.args.place c.args.items.now c.args.elem) (sym c.out.ensures)
    (open_none_out c.args.types.now c.args.constant c.args.names.now c.args.place c.args.items.now c.args.elem (none_by c.args.items.now (sym c.is_empty.ensures ∙ c.if-is_empty.true)))

pub returns-in_err-filled-clause-out : goal.returns-in_err-filled-clause-out
returns-in_err-filled-clause-out c =
    stop_exit c.from_residual.result _ _ c.from_residual.ensures.1
    (open_all_out c.all.new.types c.args.constant c.args.names.now c.args.place c.args.items.now c.args.elem c.in_err-filled.field-0.0 c.in_err-filled.ensures.out)

pub returns-in-Some-clause-out : goal.returns-in-Some-clause-out
returns-in-Some-clause-out c =
    subst (OpenListStops c.all.new.types c.args.constant c.args.names.now c.args.place c.args.items.now c.args.elem) (sym c.out-in-Some.ensures)
    (open_broken_out c.all.new.types c.args.constant c.args.names.now c.args.place c.args.items.now c.args.elem c.all.new.names (c.in_ok-filled.filled, c.in_ok-filled.count) c.in-Some.code (some_by c.args.items.now (sym c.is_empty.ensures ∙ c.if-is_empty.false)) c.in_ok-filled.ensures.ok (sym c.list_broken.ensures ∙ c.in-Some.is))
