use Rattle.std.proofs.Common.{Some, refl, sym, subst}
use Rattle.cl_type_expr.proofs.Nodes.{stop_exit}
use Rattle.cl_variables.specs.declared.initial.Initial.{Initial}
use Rattle.cl_variables.specs.Answers.{InitialIs, InitialStops}
use Rattle.cl_variables.proofs.Variables.{initial_value, initial_value_out}
use Rattle.cl_variables.proofs.initial.initialised_by.Goals as goal

pub returns-in_err-valued-in-Value-clause-out : goal.returns-in_err-valued-in-Value-clause-out
returns-in_err-valued-in-Value-clause-out c =
    let new = c.value.new.types in
    let s = c.in_err-valued-in-Value.field-0.0 in
    stop_exit c.from_residual.result _ _ c.from_residual.ensures.1
    (subst (λ i. InitialStops new c.args.constant c.args.names.now (Some i) c.args.sketch.now c.args.ty s) (sym c.in-Value.is)
    (initial_value_out new c.args.constant c.args.names.now c.in-Value.e c.args.sketch.now c.args.ty s c.in_err-valued-in-Value.ensures.out))

pub returns-in_ok-taken-in-Value-clause-ok : goal.returns-in_ok-taken-in-Value-clause-ok
returns-in_ok-taken-in-Value-clause-ok c =
    let mid = c.value.new.types in
    let new = c.as_wanted.new.types in
    let after = c.value.new.names in
    let t = c.in_ok-taken-in-Value.taken in
    let r : Initial = record { tree = t.tree; count = 1; tally = t.tally } in
    subst (λ i. InitialIs new c.args.constant c.args.names.now (Some i) c.args.sketch.now c.args.ty after r) (sym c.in-Value.is)
    (initial_value mid new c.args.constant c.args.names.now after c.in-Value.e c.args.sketch.now c.args.ty c.in_ok-valued-in-Value.valued t r c.as_wanted.ensures.grows c.in_ok-valued-in-Value.ensures.ok c.in_ok-taken-in-Value.ensures.taken refl refl refl)
