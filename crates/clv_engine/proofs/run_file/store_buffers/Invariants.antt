use Rattle.clv_engine.specs.RunCommand.{HoldsStores}
use Rattle.clv_engine.proofs.Storing.{first_stores}
use Rattle.clv_engine.proofs.run_file.store_buffers.Given as goal

abbrev pub invariant-loop-at : goal.invariant-loop-at
invariant-loop-at g l = HoldsStores (g.F.Files.state l.fn.files) (g.F.Files.state l.files) (first_stores l.at l.names l.buffers l.stored)
