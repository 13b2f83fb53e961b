use Rattle.std.proofs.Common.{◌≡◌, map}
use Rattle.cl_meaning.specs.Code.{numbered}
use Rattle.cl_meaning.specs.Views.{expr_by}
use Rattle.cl_meaning.proofs.Numberings.{ListedTo}
use Rattle.cl_meaning.proofs.numbering.+numbering.Given as goal

abbrev pub invariant-behind_operands-loop-arg : goal.invariant-behind_operands-loop-arg
invariant-behind_operands-loop-arg l = record {
  listed : ListedTo (numbered l.vars) l.args l.n l.arg-index (map expr_by l.operands.items) l.number;
  node : l.node ≡ l.fn.node;
}
