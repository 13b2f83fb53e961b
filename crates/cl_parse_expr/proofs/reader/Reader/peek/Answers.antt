use Rattle.std.proofs.Common.{arith}
use Rattle.cl_parse_expr.proofs.Tokens.{resolved_length, seen_at}
use Rattle.cl_parse_expr.proofs.reader.Reader.peek.Goals as goal

pub returns-clause-stands : goal.returns-clause-stands
returns-clause-stands c = seen_at c.self.inside.names.now c.self.inside.lexemes.now c.args.self.now c.args.at c.index-lexemes-at.result c.seen.result c.self.view_is c.index-lexemes-at.is c.requires c.seen.ensures

pub returns-clause-room : goal.returns-clause-room
returns-clause-room c = let n = resolved_length c.self.inside.names.now c.self.inside.lexemes.now c.args.self.now c.self.view_is in omega (arith, n, c.self.told)
