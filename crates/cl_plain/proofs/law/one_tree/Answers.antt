use Rattle.cl_plain.proofs.ReadUnits
use Rattle.cl_plain.proofs.law.one_tree.Goals as goal

pub returns : goal.returns
returns c = ReadUnits.one_tree
