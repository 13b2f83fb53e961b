use Rattle.cl_variables.proofs.Pieces.{PiecesGo}
use Rattle.cl_variables.proofs.image.+bytes.Given as goal

abbrev pub invariant-pieces-loop-arg : goal.invariant-pieces-loop-arg
invariant-pieces-loop-arg l = PiecesGo l.types l.args l.arg-index l.pieces.items
