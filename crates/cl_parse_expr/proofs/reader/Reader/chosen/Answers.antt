use Rattle.cl_parse_expr.proofs.Nodes.{built}
use Rattle.cl_parse_expr.proofs.reader.Reader.chosen.Goals as goal

pub returns-clause-tree : goal.returns-clause-tree
returns-clause-tree c = record { place = c.place-place.result; stands = c.place-place.ensures; is = built _ _ _ _ c.in_ok-args.ensures }
