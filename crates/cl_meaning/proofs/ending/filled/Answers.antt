use Rattle.std.proofs.Common.{◌≡◌, ◌++◌, OnOk, sym, ◌∙◌, subst, rules}
use Rattle.cl_common.specs.Types.{count_at}
use Rattle.cl_meaning.specs.Operations.{Fill}
use Rattle.cl_meaning.specs.Tasks.{making}
use Rattle.cl_meaning.specs.Views.{tasks_by}
use Rattle.cl_meaning.proofs.Unfolded.{types_seen}
use Rattle.cl_meaning.proofs.ending.filled.Goals as goal

pub returns : goal.returns
returns c =
    subst (λ ts. OnOk c.making.result (tasks_by c.making.new.out.items ≡ tasks_by c.args.out.now.items ++ making (count_at c.args.types.now c.args.ty) (Fill ts c.args.ty)))
    (c.in_ok-types_of.ensures ∙ sym (types_seen c.args.types.now c.args.operands.now))
    (search rules)
