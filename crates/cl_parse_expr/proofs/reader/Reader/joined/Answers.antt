use Rattle.cl_parse_expr.proofs.reader.Reader.joined.Goals as goal

pub returns-clause-rest : goal.returns-clause-rest
returns-clause-rest c = record { place = c.place-place.result; stands = c.place-place.ensures; is = c.in_ok-push.ensures.items }
