use Rattle.spv_binary.proofs.Files.{reads_spelled}
use Rattle.spv_binary.proofs.reading.read.Goals as goal

pub returns-clause-only : goal.returns-clause-only
returns-clause-only c = reads_spelled c.args.bytes.now c.read_all.result c.read_all.ensures.found c.read_all.ensures.first
