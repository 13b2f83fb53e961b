use Rattle.std.proofs.Common.{ap, ◌∙◌}
use Rattle.cl_words.specs.Words.{has_member}
use Rattle.cl_type_expr.proofs.Entries.{member_found}
use Rattle.cl_type_expr.proofs.members.Members.contains.Goals as goal

pub returns : goal.returns
returns c = c.contains_key.ensures ∙ member_found c.args.name.now c.self.inside.types.entries ∙ ap (has_member c.args.name.now) c.self.view_is
