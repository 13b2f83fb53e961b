use Rattle.std.proofs.Common.{sym, ◌∙◌}
use Rattle.cl_scope.proofs.Mapped.{key_added}
use Rattle.cl_scope.proofs.places.Places.make_room.Goals as goal

pub returns-clause-same : goal.returns-clause-same
returns-clause-same c = λ other. key_added c.args.self.now.by_name c.insert.new.self c.in_ok-key.key c.args.name.now other (c.in_ok-key.ensures.items_if_clones_equal (λ x y e. e)) (sym c.contains_key.ensures ∙ c.if-contains_key.false) c.in_ok-insert.ensures.updates
