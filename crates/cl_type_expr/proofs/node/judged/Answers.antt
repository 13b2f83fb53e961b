use Rattle.std.proofs.Common.{subst, length}
use Rattle.cl_type_expr.specs.Typing.{JudgedAsks}
use Rattle.cl_type_expr.proofs.Nodes.{judged_broken}
use Rattle.cl_type_expr.proofs.node.judged.Goals as goal

pub returns-in-Broken-clause-out : goal.returns-in-Broken-clause-out
returns-in-Broken-clause-out c = judged_broken c.args.judged c.args.place _ _ c.in-Broken.is c.out.ensures

pub made-requires-clause-asked : goal.made-requires-clause-asked
made-requires-clause-asked c = subst (JudgedAsks c.args.types.now (length c.args.operands.items)) c.in-Makes.is c.requires.asked

pub returns-in_ok-made-in-Makes-clause-ok : goal.returns-in_ok-made-in-Makes-clause-ok
returns-in_ok-made-in-Makes-clause-ok c = record { rule = c.in-Makes.rule; judged = c.in-Makes.is; made = c.in_ok-made-in-Makes.ensures.made }
