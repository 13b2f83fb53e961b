use Rattle.std.proofs.Common.{◌≡◌, [], ◌∷◌, ◌++◌, None, ap, ◌∙◌}
use Rattle.cl_grammar.specs.Lexemes.{vector_of}
use Rattle.cl_grammar.specs.Names.{names_of}
use Rattle.cl_grammar.proofs.Entries.{name_added}
use Rattle.cl_grammar.proofs.names.TypeNames.add.Goals as goal

pub returns-clause-ok : goal.returns-clause-ok
returns-clause-ok c =
    let none : vector_of (names_of c.self.inside.vectors.entries) c.args.name.now ≡ None = ap (λ names. vector_of names c.args.name.now) c.self.view_is ∙ c.requires in
    let added : names_of c.insert.new.self.entries ≡ names_of c.self.inside.vectors.entries ++ record { name = c.args.name.now; vector = c.args.vector } ∷ [] =
    ap names_of c.in_ok-insert.ensures.entries ∙ name_added c.self.inside.vectors c.in_ok-key.key c.args.name.now c.args.vector (c.in_ok-key.ensures.items_if_clones_equal (λ x y e. e)) none in
    added ∙ ap (λ names. names ++ record { name = c.args.name.now; vector = c.args.vector } ∷ []) c.self.view_is
