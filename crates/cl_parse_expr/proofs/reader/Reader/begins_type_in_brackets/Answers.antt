use Rattle.cl_parse_expr.proofs.Words.{begins_by}
use Rattle.cl_parse_expr.proofs.reader.Reader.begins_type_in_brackets.Goals as goal

pub returns-then-is_at-clause-stands : goal.returns-then-is_at-clause-stands
returns-then-is_at-clause-stands c = begins_by c.args.self.now c.args.at c.peek.result c.begins_type.result c.if-is_at.ensures.stands c.peek.ensures.stands c.begins_type.ensures
