use Rattle.cl_parse_expr.specs.Reading.{plain}
use Rattle.cl_parse_expr.proofs.Steps.{literal_or_not}
use Rattle.cl_parse_expr.proofs.reader.Reader.begins_literal.Goals as goal

pub returns-then-not-name : goal.returns-then-not-name
returns-then-not-name c = plain c.if-not-name.true

pub returns : goal.returns
returns c = literal_or_not _ _ _ c.if-not-name.false c.is_at.ensures.stands
