use Rattle.std.proofs.Common.{sym, subst, ap, ◌∙◌, [], ◌∷◌, length}
use Rattle.std.proofs.lemmas.List.Elements.{All-cons, All-nil}
use Rattle.cl_types.specs.declared.operator.BinOp.TheVariants as bin
use Rattle.cl_rules.specs.Operators.{binary}
use Rattle.cl_make.specs.Ready.{IsReady, AreReady}
use Rattle.cl_make.specs.Wanted.{IsAsked}
use Rattle.cl_make.proofs.Asked.{asked_made, binary_asked}
use Rattle.cl_make.proofs.Stays.{ready_stays}
use Rattle.cl_unit_tests.proofs.cl_make_tests.sum.Goals as goal

pub made-requires : goal.made-requires
made-requires c =
    let new = c.number-2.new.types in
    let g = c.number-2.ensures.grows in
    let a = c.in_ok-a.a in
    let b = c.in_ok-b.b in
    let ra = ready_stays c.number.new.types new a c.number.ensures.grows.table g.grown c.in_ok-a.ensures.number.ready in
    let rb = c.in_ok-b.ensures.number.ready in
    record {
      ready = subst (AreReady new) (sym c.in_ok-operands-in-Makes.ensures) (All-cons (IsReady new) a (b ∷ []) ra (All-cons (IsReady new) b [] rb (All-nil (IsReady new))));
      asked = subst (IsAsked new c.in-Makes.m) (sym (ap length c.in_ok-operands-in-Makes.ensures))
          (asked_made new 2 (binary bin.Add a.operand b.operand) c.in-Makes.m (sym c.in_ok-m.ensures ∙ c.in-Makes.is) (binary_asked new g.table bin.Add a.operand b.operand ra.operand rb.operand));
    }
