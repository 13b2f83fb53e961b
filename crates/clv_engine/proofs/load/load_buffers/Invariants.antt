use Rattle.clv_engine.proofs.Loading.{LoadedSoFar}
use Rattle.clv_engine.proofs.load.load_buffers.Given as goal

abbrev pub invariant-loop-name : goal.invariant-loop-name
invariant-loop-name g l = LoadedSoFar (g.F.Files.state l.fn.files) (g.F.Files.state l.files) l.names l.buffers l.name-index l.at
