use Rattle.std.proofs.Common.{refl, Some}
use Rattle.cl_parse_expr.proofs.reader.Reader.declared.Goals as goal

pub returns-clause-base : goal.returns-clause-base
returns-clause-base c = record { declared = Some c.args.members.fields; is = refl; has = refl }
