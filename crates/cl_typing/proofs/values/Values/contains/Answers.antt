use Rattle.std.proofs.Common.{ap, ◌∙◌}
use Rattle.cl_typing.specs.Statements.{is_among}
use Rattle.cl_typing.proofs.Numbers.{number_found}
use Rattle.cl_typing.proofs.values.Values.contains.Goals as goal

pub returns : goal.returns
returns c = c.contains_key.ensures ∙ number_found c.args.n c.self.inside.numbers.entries ∙ ap (is_among c.args.n) c.self.view_is
