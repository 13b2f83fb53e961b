use Rattle.std.proofs.Common.{sym, ◌∙◌, subst}
use Rattle.cl_make.specs.Wanted.{IsAsked}
use Rattle.cl_make.proofs.Asked.{asked_made, dereferenced_asked}
use Rattle.cl_type_expr.specs.Typing.{NodeStops}
use Rattle.cl_type_expr.proofs.Nodes.{if_ok, if_err, alone, one_ready, arrow_no_pointer, arrow_ok, arrow_out}
use Rattle.cl_type_expr.proofs.special.arrow.Goals as goal

pub returns-in-Broken-clause-out : goal.returns-in-Broken-clause-out
returns-in-Broken-clause-out c =
    subst (NodeStops c.args.types.now c.args.names.now c.args.left c.args.e.now c.args.operands.items) (sym c.out.ensures)
    (arrow_no_pointer c.args.types.now c.args.types.now c.args.types.now c.args.names.now c.args.left c.args.e.now c.args.name.now c.args.operands.items c.index.result.now c.requires.is (alone c.args.operands.items c.index.result.now c.requires.one c.index.ensures) _ (sym c.in_ok-code.ensures ∙ c.in-Broken.is))

pub made-requires-clause-asked : goal.made-requires-clause-asked
made-requires-clause-asked c =
    let ready = one_ready c.args.types.now c.args.operands.items c.index.result.now c.requires.one c.index.ensures c.requires.ready in
    subst (IsAsked c.args.types.now c.in-Makes.rule) (sym c.requires.one) (asked_made c.args.types.now 1 _ c.in-Makes.rule (sym c.in_ok-code.ensures ∙ c.in-Makes.is) (dereferenced_asked c.args.types.now c.is_table.ensures _ ready.operand))

pub returns-in_ok-whole-in-Makes-clause-ok : goal.returns-in_ok-whole-in-Makes-clause-ok
returns-in_ok-whole-in-Makes-clause-ok c =
    if_ok c.member_of.result _ _ (λ r m. arrow_ok c.args.types.now c.made.new.types c.member_of.new.types c.args.names.now c.args.left c.args.e.now c.args.name.now c.args.operands.items c.index.result.now c.requires.is (alone c.args.operands.items c.index.result.now c.requires.one c.index.ensures) c.in-Makes.rule c.in_ok-whole-in-Makes.whole r c.member_of.ensures.grows.grown (sym c.in_ok-code.ensures ∙ c.in-Makes.is) c.in_ok-whole-in-Makes.ensures.made m) c.member_of.ensures.ok

pub returns-in_ok-whole-in-Makes-clause-out : goal.returns-in_ok-whole-in-Makes-clause-out
returns-in_ok-whole-in-Makes-clause-out c =
    if_err c.member_of.result _ _ (λ s m. arrow_out c.args.types.now c.made.new.types c.member_of.new.types c.args.names.now c.args.left c.args.e.now c.args.name.now c.args.operands.items c.index.result.now c.requires.is (alone c.args.operands.items c.index.result.now c.requires.one c.index.ensures) c.in-Makes.rule c.in_ok-whole-in-Makes.whole s c.member_of.ensures.grows.grown (sym c.in_ok-code.ensures ∙ c.in-Makes.is) c.in_ok-whole-in-Makes.ensures.made m) c.member_of.ensures.out
