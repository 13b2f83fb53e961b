use Rattle.std.proofs.Common.{ap, ◌∙◌, [], ◌∷◌, ◌++◌}
use Rattle.cl_words.specs.Words.{has_member}
use Rattle.cl_type_expr.specs.Members.{members_of_entries}
use Rattle.cl_type_expr.proofs.Entries.{member_added}
use Rattle.cl_type_expr.proofs.members.Members.push.Goals as goal

pub returns-clause-ok : goal.returns-clause-ok
returns-clause-ok c =
    ap members_of_entries c.in_ok-insert.ensures.entries ∙ member_added c.self.inside.types c.in_ok-key.key c.args.name.now c.args.ty (c.in_ok-key.ensures.items_if_clones_equal (λ x y e. e)) (ap (has_member c.args.name.now) c.self.view_is ∙ c.requires)
    ∙ ap (λ ms. ms ++ record { name = c.args.name.now; ty = c.args.ty } ∷ []) c.self.view_is
