use Rattle.cl_parse_stmt.proofs.Seen.{read_ends, read_some}
use Rattle.cl_parse_tests.proofs.cl_parse_stmt_tests.block_of.Goals as goal

pub block-requires-clause-ends : goal.block-requires-clause-ends
block-requires-clause-ends c = read_ends _ _ _ _ _ _ c.in_ok-seen.ensures c.as_slice-2.ensures c.new-reader.ensures

pub block-requires-clause-within : goal.block-requires-clause-within
block-requires-clause-within c = read_some _ _ _ _ _ _ c.in_ok-seen.ensures c.as_slice-2.ensures c.new-reader.ensures
