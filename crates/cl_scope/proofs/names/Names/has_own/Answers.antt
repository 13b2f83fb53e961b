use Rattle.std.proofs.Common.{sym, ap, ◌∙◌}
use Rattle.std.specs.Prelude.{is_some}
use Rattle.cl_scope.specs.Names.{newest}
use Rattle.cl_scope.proofs.Blocks.{is_inside, inside}
use Rattle.cl_scope.proofs.names.Names.has_own.Goals as goal

pub returns-in-None : goal.returns-in-None
returns-in-None c = ap (is_inside c.self.inside.block) (sym c.in-None.is ∙ c.place.ensures) ∙ inside c.args.tag c.args.name.now c.self.inside.block c.self.inside.declared ∙ ap (λ env. is_some (newest c.args.tag c.args.name.now env.inner)) c.self.view_is

pub returns-in-Some : goal.returns-in-Some
returns-in-Some c = ap (is_inside c.self.inside.block) (sym c.in-Some.is ∙ c.place.ensures) ∙ inside c.args.tag c.args.name.now c.self.inside.block c.self.inside.declared ∙ ap (λ env. is_some (newest c.args.tag c.args.name.now env.inner)) c.self.view_is
