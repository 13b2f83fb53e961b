use Rattle.std.proofs.Common.{ap, ◌∙◌}
use Rattle.cl_grammar.specs.Lexemes.{vector_of}
use Rattle.cl_grammar.proofs.Entries.{name_found}
use Rattle.cl_grammar.proofs.names.TypeNames.get.Goals as goal

pub returns : goal.returns
returns c = c.copied.ensures ∙ c.get.ensures.value ∙ name_found c.args.name.now c.self.inside.vectors.entries ∙ ap (λ names. vector_of names c.args.name.now) c.self.view_is
