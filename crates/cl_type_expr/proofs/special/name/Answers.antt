use Rattle.std.proofs.Common.{sym, ap, ◌∙◌, subst}
use Rattle.cl_type_expr.specs.Expressions.{is_value}
use Rattle.cl_type_expr.specs.Typing.{NodeStops}
use Rattle.cl_type_expr.proofs.WordTypes.{found_known}
use Rattle.cl_type_expr.proofs.Nodes.{name_out, name_ok, no_value}
use Rattle.cl_type_expr.proofs.special.name.Goals as goal

pub returns-in_default-clause-out : goal.returns-in_default-clause-out
returns-in_default-clause-out c =
    subst (NodeStops c.args.types.now c.args.names.now c.args.left c.args.e.now c.args.operands.items) (sym c.out.ensures)
    (name_out c.args.types.now c.args.names.now c.args.left c.args.e.now c.args.operands.items c.args.text.now c.requires.is (ap is_value (sym c.in_default.ensures)))

pub returns-in_default-head_of-clause-out : goal.returns-in_default-head_of-clause-out
returns-in_default-head_of-clause-out c =
    subst (NodeStops c.args.types.now c.args.names.now c.args.left c.args.e.now c.args.operands.items) (sym c.out-in_default-head_of.ensures)
    (name_out c.args.types.now c.args.names.now c.args.left c.args.e.now c.args.operands.items c.args.text.now c.requires.is (ap is_value (sym c.in-Some.ensures) ∙ no_value c.in-Some.declared.now (sym c.in_default-head_of.ensures)))

pub named-requires : goal.named-requires
named-requires c = found_known c.args.types.now c.args.names.now c.args.text.now _ c.requires.known (sym c.in-Some.ensures)

pub returns-clause-ok : goal.returns-clause-ok
returns-clause-ok c =
    name_ok c.args.types.now c.args.names.now c.args.left c.args.e.now c.args.operands.items c.args.text.now _ _ _ c.requires.is (sym c.in-Some.ensures) (sym c.in-Some-head_of.ensures) (found_known c.args.types.now c.args.names.now c.args.text.now _ c.requires.known (sym c.in-Some.ensures)) c.named.ensures
