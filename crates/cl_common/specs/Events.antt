-- What a work-item asks, and which barriers are the same (OpenCL C 1.2, 6.12.8).
use Rattle.std.specs.Prelude.{ℕ, nat_eq, ◌&&◌, Bool, true, false, List, [], ◌∷◌, Option, Some, None}
use Rattle.cl_tree.specs.declared.event.NodeId.{NodeId}
use Rattle.cl_tree.specs.declared.event.Shared.{Shared}
use Rattle.cl_tree.specs.declared.event.Shared.TheVariants as shared
use Rattle.cl_tree.specs.declared.event.Event.{Event}
use Rattle.cl_tree.specs.declared.event.Event.TheVariants as event

-- an event, and the nodes of the calls that are pending where it is asked, the innermost first
pub record Asked : Type 0 where
  pub calls : List NodeId
  pub event : Event

abbrev pub same_node : NodeId → NodeId → Bool
same_node a b = nat_eq a.function b.function && nat_eq a.node b.node

abbrev pub same_nodes : List NodeId → List NodeId → Bool
same_nodes [] [] = true
same_nodes (m ∷ ms) (n ∷ ns) = same_node m n && same_nodes ms ns
same_nodes _ _ = false

abbrev pub same_shared : Shared → Shared → Bool
same_shared (shared.Buffer a) (shared.Buffer b) = nat_eq a b
same_shared (shared.Constant a) (shared.Constant b) = nat_eq a b
same_shared (shared.LocalArgument a) (shared.LocalArgument b) = nat_eq a b
same_shared (shared.LocalVariable a) (shared.LocalVariable b) = nat_eq a b
same_shared _ _ = false

-- Two items meet at a barrier where these numbers are the same: the functions and numbers of the nodes of its chain.
abbrev pub numbers_of : List NodeId → List ℕ
numbers_of [] = []
numbers_of (n ∷ ns) = n.function ∷ n.node ∷ numbers_of ns

-- None for what is no barrier
abbrev pub gate_of : Event → Option (List ℕ)
gate_of (event.Barrier chain) = Some (numbers_of chain)
gate_of _ = None
