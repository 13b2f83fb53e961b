use Rattle.std.proofs.Common.{◌≡◌, ◌+◌, ◌-◌, ◌++◌, OnOk, length, refl, subst, arith, rules}
use Rattle.cl_types.specs.declared.operator.UnOp.TheVariants as un
use Rattle.cl_meaning.specs.declared.code.Expr.{out-Expr}
use Rattle.cl_meaning.specs.declared.code.Node.TheVariants as code
use Rattle.cl_meaning.specs.Views.{tasks_by}
use Rattle.cl_meaning.proofs.Unfolded.{built_in_whole, deref_found, fill_whole, index_found, loads_whole, member_found, parts_more, recalls_whole, selection_found, updated_whole}
use Rattle.cl_meaning.proofs.expression.Unfolding.+unfolding.Goals as goal

pub built_in-returns : goal.built_in-returns
built_in-returns t c =
    subst (λ z. OnOk c.built_in.result (tasks_by c.built_in.new.out.items ≡ z))
    (built_in_whole _ _ _ _ _ _ _ _ c.in_ok-all_used.ensures c.as_slice.ensures.value)
    c.built_in.ensures

pub commas-loop-part-preserved : goal.commas-loop-part-preserved
commas-loop-part-preserved t c =
    let count : c.loop-part.left - 1 + (c.loop-part.part-index + 1) ≡ length c.args.operands.now = omega (arith, c.loop-part.invariant.count, c.loop-part-test.true) in
    record {
      going = parts_more _ _ _ _ _ _ _ _ _ _ c.loop-part.invariant.going c.loop-part-test.true c.part-item.is count refl c.in_ok-part.ensures;
      count = count;
    }

pub finds-returns-in-Unary-Deref : goal.finds-returns-in-Unary-Deref
finds-returns-in-Unary-Deref t c =
    let is : (out-Expr c.args.e.now).node ≡ code.Unary un.Deref = search rules in
    subst (λ z. OnOk c.pointee.result (tasks_by c.pointee.new.out.items ≡ tasks_by c.args.out.now.items ++ z))
    (deref_found _ _ _ is c.as_slice-operands.ensures.value)
    c.pointee.ensures

pub finds-returns-in-Index : goal.finds-returns-in-Index
finds-returns-in-Index t c =
    subst (λ z. OnOk c.indexed.result (tasks_by c.indexed.new.out.items ≡ tasks_by c.args.out.now.items ++ z))
    (index_found _ _ _ c.in-Index.is c.as_slice-operands.ensures.value)
    c.indexed.ensures

pub finds-returns-in-Member : goal.finds-returns-in-Member
finds-returns-in-Member t c =
    subst (λ z. OnOk c.member.result (tasks_by c.member.new.out.items ≡ tasks_by c.args.out.now.items ++ z))
    (member_found _ _ _ _ c.in-Member.is c.as_slice-operands.ensures.value)
    c.member.ensures

pub finds-returns-in-Components : goal.finds-returns-in-Components
finds-returns-in-Components t c =
    subst (λ z. OnOk c.selection.result (tasks_by c.selection.new.out.items ≡ tasks_by c.args.out.now.items ++ z))
    (selection_found _ _ _ _ c.in-Components.is c.as_slice-operands.ensures.value)
    c.selection.ensures

pub loads-returns-then-points : goal.loads-returns-then-points
loads-returns-then-points t c =
    subst (λ z. OnOk c.pointer_loaded.result (tasks_by c.pointer_loaded.new.out.items ≡ z))
    (recalls_whole _ _ _ c.if-points.ensures)
    c.pointer_loaded.ensures

pub loads-returns : goal.loads-returns
loads-returns t c =
    subst (λ z. OnOk c.loaded.result (tasks_by c.loaded.new.out.items ≡ z))
    (loads_whole _ _ _ _ c.if-points.ensures c.in_ok-finds.ensures)
    c.loaded.ensures

pub makes-returns-in-Fill-default : goal.makes-returns-in-Fill-default
makes-returns-in-Fill-default t c =
    subst (λ z. OnOk c.filled.result (tasks_by c.filled.new.out.items ≡ z))
    (fill_whole _ _ _ _ c.in-Fill-default.is-0 c.as_slice-operands.ensures.value)
    c.filled.ensures

pub updated-returns : goal.updated-returns
updated-returns t c =
    subst (λ z. OnOk c.updated.result (tasks_by c.updated.new.out.items ≡ z))
    (updated_whole _ _ _ _ _ _ _ _ _ _ _ _ c.in-len2-up.len_at_least c.a-item.is c.b-item.is c.shape.ensures c.shape-2.ensures c.working-inner.ensures c.in_ok-named.ensures c.in_ok-old_value.ensures c.in_ok-used.ensures)
    c.updated.ensures
