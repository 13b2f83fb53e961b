use Rattle.std.proofs.Common.{refl, ◌∙◌}
use Rattle.cl_macro.proofs.Indexing.{indexed_more}
use Rattle.cl_macro.proofs.table.Table.with.Goals as goal

pub invariant_of-result : goal.invariant_of-result
invariant_of-result c = indexed_more c.self.inside.entries _ c.args.entry c.self.inside.latest _ c.in_ok-name.name c.len.result c.self.invariant c.in_ok-push.ensures.ok (c.in_ok-name.ensures.items_if_clones_equal (λ x y e. e) ∙ c.as_slice.ensures) c.len.ensures c.in_ok-insert.ensures.updates
