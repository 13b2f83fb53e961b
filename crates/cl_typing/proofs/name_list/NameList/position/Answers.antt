use Rattle.std.proofs.Common.{ap, ◌∙◌}
use Rattle.cl_typing.specs.Positions.{position_of}
use Rattle.cl_typing.proofs.NamePlaces.{name_place}
use Rattle.cl_typing.proofs.name_list.NameList.position.Goals as goal

pub returns : goal.returns
returns c = c.get_index_of.ensures.index ∙ name_place c.self.inside.names c.args.name.now ∙ ap (position_of c.args.name.now) c.self.view_is
