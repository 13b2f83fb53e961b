use Rattle.std.proofs.Common.{ℕ, ◌+◌, ◌*◌, ◌++◌, ◌∷◌, []}
use Rattle.cl_types.specs.Layout.{scalars_at, size_of}
use Rattle.cl_types.specs.Table.{tree_of}
use Rattle.cl_types.proofs.Filling.{Spread, Filled}
use Rattle.cl_types.proofs.table.TypeTable.+scalars.Given as goal

abbrev pub decreases-put_scalars : goal.decreases-put_scalars
decreases-put_scalars l = 2 * l.t.0 + 1

abbrev pub decreases-put_members : goal.decreases-put_members
decreases-put_members l = 2 * l.t.0

abbrev pub decreases-put_elements : goal.decreases-put_elements
decreases-put_elements l = 2 * l.elem.0 + 2

abbrev pub invariant-put_elements-loop-i : goal.invariant-put_elements-loop-i
invariant-put_elements-loop-i l = Spread (λ i o. scalars_at (tree_of l.self l.elem.0) (l.path ++ i ∷ []) o) (size_of (tree_of l.self l.elem.0)) l.n l.base l.i l.fn.out l.out

abbrev pub invariant-put_members-loop-k : goal.invariant-put_members-loop-k
invariant-put_members-loop-k l = Filled l.self l.fn.t.0 l.members l.path l.base l.k l.end l.fn.out l.out
