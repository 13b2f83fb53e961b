use Rattle.std.proofs.Common.{sym, ap, ◌∙◌}
use Rattle.cl_typing.specs.Positions.{and_name}
use Rattle.cl_typing.proofs.NamePlaces.{name_stands, name_added}
use Rattle.cl_typing.proofs.name_list.NameList.add.Goals as goal

pub returns-then-contains_key-clause-ok : goal.returns-then-contains_key-clause-ok
returns-then-contains_key-clause-ok c = sym c.self.view_is ∙ name_stands c.self.inside.names c.args.name.now (sym c.contains_key.ensures ∙ c.if-contains_key.true) ∙ ap (and_name c.args.name.now) c.self.view_is

pub returns-clause-ok : goal.returns-clause-ok
returns-clause-ok c =
    name_added c.self.inside.names c.insert.new.self c.in_ok-key.key c.args.name.now (c.in_ok-key.ensures.items_if_clones_equal (λ x y e. e)) (sym c.contains_key.ensures ∙ c.if-contains_key.false) c.in_ok-insert.ensures.entries ∙ ap (and_name c.args.name.now) c.self.view_is
