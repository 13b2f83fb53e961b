use Rattle.std.proofs.Common.{ap, sym, ◌∙◌}
use Rattle.cl_parse_expr.proofs.Tokens.{text_seen, text_given}
use Rattle.cl_parse_expr.proofs.reader.Reader.text.Goals as goal

pub returns : goal.returns
returns c = text_given c.args.self.now c.args.at c.from_bytes.result c.as_slice.result.now (text_seen c.self.inside.names.now c.self.inside.lexemes.now c.args.self.now c.args.at c.index-lexemes-at.result c.as_slice.result.now c.self.view_is c.index-lexemes-at.is c.requires (c.as_slice.ensures ∙ ap (λ z. z.text) (sym c.index-lexemes-at.is))) c.from_bytes.ensures
