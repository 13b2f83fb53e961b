use Rattle.cl_laws.specs.TypedTrees.{EachTreeIsTyped}
use Rattle.cl_laws.proofs.TreesFit.{types_fit}

pub each_tree_is_typed : EachTreeIsTyped
each_tree_is_typed l env after left e t o b allowed h a = types_fit l b allowed env left e after t o h a
