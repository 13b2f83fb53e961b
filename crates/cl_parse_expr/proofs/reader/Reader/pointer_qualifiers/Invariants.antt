use Rattle.std.proofs.Common.{◌-◌, length}
use Rattle.cl_grammar.specs.Symbols as s
use Rattle.cl_grammar.specs.Terminals.{pointer_qualifier_of}
use Rattle.cl_parse_expr.proofs.Words.{QualifiersTo}
use Rattle.cl_parse_expr.proofs.reader.Reader.pointer_qualifiers.Given as goal

abbrev pub invariant-loop-qualifier : goal.invariant-loop-qualifier
invariant-loop-qualifier l = QualifiersTo s.PointerQualifiers pointer_qualifier_of l.self l.at l.here l.fn.quals l.quals

abbrev pub decreases-loop-qualifier : goal.decreases-loop-qualifier
decreases-loop-qualifier l = length l.self - l.here
