use Rattle.spv_reflect.proofs.Faults.{read_where, whole}
use Rattle.spv_reflect.proofs.reading.read_rows.Goals as goal

pub returns-clause-only : goal.returns-clause-only
returns-clause-only c = read_where c.args.module.now.body c.read_all.result c.read_all.ensures.found c.read_all.ensures.first

pub returns-clause-whole : goal.returns-clause-whole
returns-clause-whole c = whole c.args.module.now.body
