use Rattle.std.proofs.Common.{refl, sym, ap, ◌∙◌, subst, [], ◌∷◌}
use Rattle.cl_builtins.proofs.Growth.{grown_same}
use Rattle.cl_builtins.specs.Kinds.{element_of}
use Rattle.cl_tree.specs.Constants.{number_of}
use Rattle.cl_rules.specs.declared.rule.Head.TheVariants as head
use Rattle.cl_rules.specs.Operands.{component, integers}
use Rattle.cl_type_expr.specs.Expressions.{component_in}
use Rattle.cl_type_expr.specs.Typing.{NodeStops}
use Rattle.cl_type_expr.proofs.Nodes.{both, second_ready, alone_ready, component_asks, component_divides, component_past, component_ok}
use Rattle.cl_type_expr.proofs.special.component_at.Goals as goal

pub returns-in-Some-clause-out : goal.returns-in-Some-clause-out
returns-in-Some-clause-out c =
    let two = both c.args.operands.items c.index.result.now c.index-2.result.now c.requires.two c.index.ensures c.index-2.ensures in
    subst (NodeStops c.args.types.now c.args.names.now c.args.left c.args.e.now c.args.operands.items) (sym c.out.ensures)
    (component_divides c.args.types.now c.args.types.now c.is_table.ensures c.args.names.now c.args.left c.args.e.now c.args.operands.items c.index.result.now c.index-2.result.now (grown_same c.args.types.now c.args.types.now refl) (second_ready c.args.types.now c.args.operands.items c.index.result.now c.index-2.result.now two c.requires.ready) c.requires.is two c.requires.vector c.in-Some.place (sym c.in_ok-divided.ensures.divides ∙ c.in-Some.is))

pub made-requires-clause-ready : goal.made-requires-clause-ready
made-requires-clause-ready c =
    let two = both c.args.operands.items c.index.result.now c.index-2.result.now c.requires.two c.index.ensures c.index-2.ensures in
    alone_ready c.args.types.now c.args.operands.items c.first.result.items c.index.result.now c.index-2.result.now two c.first.ensures c.requires.ready

pub made-requires-clause-asked : goal.made-requires-clause-asked
made-requires-clause-asked c =
    let two = both c.args.operands.items c.index.result.now c.index-2.result.now c.requires.two c.index.ensures c.index-2.ensures in
    component_asks c.args.types.now c.in-Some-component_in.k c.args.operands.items c.first.result.items c.index.result.now c.index-2.result.now c.in_ok-rule-in-Some-component_in.rule c.is_table.ensures two c.first.ensures c.requires.ready (c.in_ok-rule-in-Some-component_in.ensures ∙ ap (λ t. component (head.Components (c.in-Some-component_in.k ∷ [])) (integers (element_of t)) c.index.result.now.operand) c.type_of-t.ensures)

pub returns-in_ok-made-in-Some-component_in-clause-ok : goal.returns-in_ok-made-in-Some-component_in-clause-ok
returns-in_ok-made-in-Some-component_in-clause-ok c =
    let two = both c.args.operands.items c.index.result.now c.index-2.result.now c.requires.two c.index.ensures c.index-2.ensures in
    component_ok c.args.types.now c.made.new.types c.is_table.ensures c.args.names.now c.args.left c.args.e.now c.args.operands.items c.index.result.now c.index-2.result.now c.in_ok-made-in-Some-component_in.ensures.grows.grown (second_ready c.args.types.now c.args.operands.items c.index.result.now c.index-2.result.now two c.requires.ready) c.requires.is two c.requires.vector c.in-Some-component_in.k c.in_ok-rule-in-Some-component_in.rule c.first.result.items c.in_ok-made-in-Some-component_in.field-0 (ap (λ z. component_in z.count (number_of c.args.types.now c.index-2.result.now.tree)) (sym c.type_of-t.ensures) ∙ ap (component_in c.type_of-t.result.count) (sym c.in_ok-divided.ensures.number) ∙ sym c.in-Some-component_in.ensures) (c.in_ok-rule-in-Some-component_in.ensures ∙ ap (λ t. component (head.Components (c.in-Some-component_in.k ∷ [])) (integers (element_of t)) c.index.result.now.operand) c.type_of-t.ensures) c.first.ensures c.in_ok-made-in-Some-component_in.ensures.made

pub returns-in-None-clause-out : goal.returns-in-None-clause-out
returns-in-None-clause-out c =
    let two = both c.args.operands.items c.index.result.now c.index-2.result.now c.requires.two c.index.ensures c.index-2.ensures in
    subst (NodeStops c.args.types.now c.args.names.now c.args.left c.args.e.now c.args.operands.items) (sym c.out-in-None.ensures)
    (component_past c.args.types.now c.args.types.now c.is_table.ensures c.args.names.now c.args.left c.args.e.now c.args.operands.items c.index.result.now c.index-2.result.now (grown_same c.args.types.now c.args.types.now refl) (second_ready c.args.types.now c.args.operands.items c.index.result.now c.index-2.result.now two c.requires.ready) c.requires.is two c.requires.vector (sym c.in_ok-divided.ensures.divides ∙ c.in_default.is) (ap (λ z. component_in z.count (number_of c.args.types.now c.index-2.result.now.tree)) (sym c.type_of-t.ensures) ∙ ap (component_in c.type_of-t.result.count) (sym c.in_ok-divided.ensures.number) ∙ sym c.in-None.ensures))
