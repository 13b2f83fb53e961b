use Rattle.std.proofs.Common.{true, sym, ap, ◌∙◌}
use Rattle.cl_scope.specs.Names.{newest, find_tag}
use Rattle.cl_scope.proofs.Blocks.{parts}
use Rattle.cl_scope.proofs.names.Names.find_tag.Goals as goal

pub returns : goal.returns
returns c = c.find.ensures ∙ ap (newest true c.args.name.now) (sym (parts c.self.inside.block c.self.inside.declared)) ∙ ap (λ env. find_tag env c.args.name.now) c.self.view_is
