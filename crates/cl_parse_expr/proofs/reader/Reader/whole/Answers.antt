use Rattle.std.proofs.Common.{refl}
use Rattle.cl_parse_expr.specs.Reading.{alone, comma}
use Rattle.cl_parse_expr.proofs.Nodes.{built}
use Rattle.cl_parse_expr.proofs.Whole.{no_others, some_others}
use Rattle.cl_parse_expr.proofs.reader.Reader.whole.Goals as goal

pub returns-then-is_empty-clause-tree : goal.returns-then-is_empty-clause-tree
returns-then-is_empty-clause-tree c = alone (no_others _ _ _ c.as_slice.ensures.value c.is_empty.ensures c.if-is_empty.true) refl

pub returns-clause-tree : goal.returns-clause-tree
returns-clause-tree c = comma c.place-place.result c.place-place.ensures (some_others _ _ _ c.as_slice.ensures.value c.is_empty.ensures c.if-is_empty.false) (built _ _ _ _ c.in_ok-args.ensures)
