use Rattle.std.proofs.Common.{map, refl, sym, ap, ◌∙◌, subst}
use Rattle.cl_tree.specs.Units.{are_allowed}
use Rattle.cl_typing.specs.Units.{StopsAt, with_size_in}
use Rattle.cl_typing.proofs.Results.{stop_exit}
use Rattle.cl_typing.proofs.Verdicts.{unit_out, unit_has_no_kernel, unit_typed, unit_stands}
use Rattle.cl_typing.proofs.unit.type_unit.Goals as goal

pub returns-in_err-unit-clause-out : goal.returns-in_err-unit-clause-out
returns-in_err-unit-clause-out c =
    stop_exit c.from_residual-in_err-unit.result _ _ c.from_residual-in_err-unit.ensures.1
    (unit_out c.args.ast.now c.externals.new.types c.externals.ensures.grows.table _ (rw (c.in_ok-bodies.ensures, c.as_slice.ensures, c.as_slice-2.ensures) at c.in_err-unit.ensures.out))

pub returns-then-not-has_kernel-clause-out : goal.returns-then-not-has_kernel-clause-out
returns-then-not-has_kernel-clause-out c =
    subst (StopsAt c.args.ast.now) (sym c.out.ensures)
    (unit_has_no_kernel c.args.ast.now c.externals.new.types c.externals.ensures.grows.table c.in_ok-unit.unit (rw (c.in_ok-bodies.ensures, c.as_slice.ensures, c.as_slice-2.ensures) at c.in_ok-unit.ensures.ok) (sym c.has_kernel.ensures ∙ c.if-not-has_kernel.true))

pub returns-clause-tree : goal.returns-clause-tree
returns-clause-tree c =
    unit_typed c.args.ast.now c.externals.new.types c.externals.ensures.grows.table c.in_ok-unit.unit (rw (c.in_ok-bodies.ensures, c.as_slice.ensures, c.as_slice-2.ensures) at c.in_ok-unit.ensures.ok) _ refl refl
    (c.in_ok-functions.ensures ∙ ap (λ z. map (with_size_in c.in_ok-unit.unit.sized z) c.in_ok-unit.unit.functions) c.as_slice-3.ensures) (sym c.has_kernel.ensures ∙ c.if-not-has_kernel.false)

pub returns-in_err-functions-clause-out : goal.returns-in_err-functions-clause-out
returns-in_err-functions-clause-out c = stop_exit c.from_residual-in_err-functions.result _ _ c.from_residual-in_err-functions.ensures.1 tt

pub invariant_of-result : goal.invariant_of-result
invariant_of-result c = record {
  typed = unit_stands c.args.ast.now c.externals.new.types c.externals.ensures.grows.table c.in_ok-unit.unit (rw (c.in_ok-bodies.ensures, c.as_slice.ensures, c.as_slice-2.ensures) at c.in_ok-unit.ensures.ok) c.in_ok-functions.functions
      (c.in_ok-functions.ensures ∙ ap (λ z. map (with_size_in c.in_ok-unit.unit.sized z) c.in_ok-unit.unit.functions) c.as_slice-3.ensures)
      (c.externals.ensures.grows.allowed (ap (λ z. are_allowed z z) c.in_ok-types.ensures)) (sym c.has_kernel.ensures ∙ c.if-not-has_kernel.false);
}
