-- Nodes of calls, one by one.
use Rattle.std.proofs.Common.{◌≡◌, ◌<◌, false, List, [], ◌∷◌, length, refl, arith}
use Rattle.cl_tree.specs.declared.event.NodeId.{NodeId}
use Rattle.cl_common.specs.Events.{same_nodes}

pub only_left : (xs ys : List NodeId) → 0 < length xs → length ys < 1 → same_nodes xs ys ≡ false
only_left [] ys h g = absurd (omega arith)
only_left (x ∷ xs) [] h g = refl
only_left (x ∷ xs) (y ∷ ys) h g = absurd (omega arith)
