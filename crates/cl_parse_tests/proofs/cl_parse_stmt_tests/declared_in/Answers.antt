use Rattle.cl_parse_stmt.proofs.Seen.{read_ends, read_some}
use Rattle.cl_parse_tests.proofs.cl_parse_stmt_tests.declared_in.Goals as goal

pub init_declors-requires-clause-ends : goal.init_declors-requires-clause-ends
init_declors-requires-clause-ends c = read_ends _ _ _ _ _ _ c.in_ok-seen.ensures c.as_slice-2.ensures c.new-reader.ensures

pub init_declors-requires-clause-within : goal.init_declors-requires-clause-within
init_declors-requires-clause-within c = read_some _ _ _ _ _ _ c.in_ok-seen.ensures c.as_slice-2.ensures c.new-reader.ensures
