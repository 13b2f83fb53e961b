use Rattle.std.proofs.Common.{◌≡◌, min, rules, ap, ◌∙◌}
use Rattle.cl_scope.specs.Names.{left_at}
use Rattle.cl_scope.proofs.Blocks.{names_at, leaves, mark_fits, goes_back}
use Rattle.cl_scope.proofs.names.Names.leave.Goals as goal

pub invariant_of-self : goal.invariant_of-self
invariant_of-self c =
    let low : c.min-self-inside.result ≡ min c.args.mark c.self.inside.block = search rules in
    mark_fits c.args.mark c.self.inside.block c.min-self-inside.result c.self.inside.declared c.truncate.new.self c.self.invariant c.truncate.ensures low

pub returns-clause-left : goal.returns-clause-left
returns-clause-left c =
    let low : c.min-self-inside.result ≡ min c.args.mark c.self.inside.block = search rules in
    leaves c.args.mark c.self.inside.block c.min-self-inside.result c.self.inside.declared c.truncate.new.self c.self.inside.functions c.self.invariant c.truncate.ensures low ∙ ap (left_at c.args.mark) c.self.view_is

pub returns-clause-behind : goal.returns-clause-behind
returns-clause-behind c =
    let low : c.min-self-inside.result ≡ min c.args.mark c.self.inside.block = search rules in
    goes_back c.args.self.now (names_at c.min-self-inside.result c.truncate.new.self c.self.inside.functions) c.args.mark
    (leaves c.args.mark c.self.inside.block c.min-self-inside.result c.self.inside.declared c.truncate.new.self c.self.inside.functions c.self.invariant c.truncate.ensures low ∙ ap (left_at c.args.mark) c.self.view_is)
