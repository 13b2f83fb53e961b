use Rattle.std.proofs.Common.{false, sym, ap, ◌∙◌}
use Rattle.cl_scope.specs.Names.{newest, find}
use Rattle.cl_scope.proofs.Blocks.{parts}
use Rattle.cl_scope.proofs.names.Names.find.Goals as goal

pub returns : goal.returns
returns c = c.find.ensures ∙ ap (newest false c.args.name.now) (sym (parts c.self.inside.block c.self.inside.declared)) ∙ ap (λ env. find env c.args.name.now) c.self.view_is
