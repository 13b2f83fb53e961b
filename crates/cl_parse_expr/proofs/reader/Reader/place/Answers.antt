use Rattle.std.proofs.Common.{ap, sym}
use Rattle.cl_parse_expr.proofs.Tokens.{place_seen}
use Rattle.cl_parse_expr.proofs.reader.Reader.place.Goals as goal

pub returns : goal.returns
returns c = place_seen c.self.inside.names.now c.self.inside.lexemes.now c.args.self.now c.args.at c.index-lexemes-at.result _ c.self.view_is c.index-lexemes-at.is c.requires (ap (λ z. z.place) (sym c.index-lexemes-at.is))
