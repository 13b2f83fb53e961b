use Rattle.std.proofs.Common.{rules}
use Rattle.cl_make.proofs.Answering.{as_it_was, by_conversion}
use Rattle.cl_make.proofs.making.fitted.Goals as goal

pub returns-then-tree-ty : goal.returns-then-tree-ty
returns-then-tree-ty c = as_it_was c.args.ty c.args.tree c.if-tree-ty.true

pub returns : goal.returns
returns c = by_conversion c.args.ty c.args.tree _ c.in_ok-args.args c.if-tree-ty.false c.in_ok-args.ensures (record { has = search rules; at = search rules; is = search rules })
