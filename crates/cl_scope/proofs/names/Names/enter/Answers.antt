use Rattle.std.proofs.Common.{length, sym, ap, ◌∙◌}
use Rattle.cl_scope.specs.Names.{entered}
use Rattle.cl_scope.proofs.Blocks.{enters, outer_length}
use Rattle.cl_scope.proofs.names.Names.enter.Goals as goal

pub returns-clause-block : goal.returns-clause-block
returns-clause-block c = enters c.self.inside.block c.len-self-inside.result c.self.inside.declared c.self.inside.functions c.len-self-inside.ensures ∙ ap entered c.self.view_is

pub returns-clause-mark : goal.returns-clause-mark
returns-clause-mark c = sym (outer_length c.self.inside.block c.self.inside.declared c.self.invariant) ∙ ap (λ env. length env.outer) c.self.view_is
