use Rattle.std.proofs.Common.{◌&&◌, sym, ap, ◌∙◌}
use Rattle.cl_typing.specs.Statements.{ends, list_ends}
use Rattle.cl_typing.proofs.Endings.{block_ends, both_end, few_end, many_end}
use Rattle.cl_typing.proofs.ends.+ends.Goals as goal

pub ends-returns-in-Block : goal.ends-returns-in-Block
ends-returns-in-Block t c = c.list_ends.ensures ∙ ap list_ends c.deref.ensures.value ∙ block_ends c.args.s.now c.in-Block.items c.in-Block.is

pub ends-returns-then-ends : goal.ends-returns-then-ends
ends-returns-then-ends t c =
    c.ends-then-ends.ensures ∙ ap (λ b. b && ends c.second-item.result) (sym c.if-ends.true ∙ c.ends.ensures)
    ∙ both_end c.args.s.now c.in-If.cond c.in-If.arms c.in-If.is c.as_slice.result.now c.as_slice.ensures.value c.first-item.result c.second-item.result c.in-len2.len_at_least c.in-len2.len_below c.first-item.is c.second-item.is

pub ends-returns-else-ends : goal.ends-returns-else-ends
ends-returns-else-ends t c =
    c.if-ends.false ∙ ap (λ b. b && ends c.second-item.result) (sym c.if-ends.false ∙ c.ends.ensures)
    ∙ both_end c.args.s.now c.in-If.cond c.in-If.arms c.in-If.is c.as_slice.result.now c.as_slice.ensures.value c.first-item.result c.second-item.result c.in-len2.len_at_least c.in-len2.len_below c.first-item.is c.second-item.is

pub ends-returns-in_default-as_slice : goal.ends-returns-in_default-as_slice
ends-returns-in_default-as_slice t c = few_end c.args.s.now c.in-If.cond c.in-If.arms c.in-If.is c.as_slice.result.now c.as_slice.ensures.value c.in_default-as_slice.len_below

pub ends-returns-in_default-as_slice-2 : goal.ends-returns-in_default-as_slice-2
ends-returns-in_default-as_slice-2 t c = many_end c.args.s.now c.in-If.cond c.in-If.arms c.in-If.is c.as_slice.result.now c.as_slice.ensures.value c.in_default-as_slice.len_at_least
