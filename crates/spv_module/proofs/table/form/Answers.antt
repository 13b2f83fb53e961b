use Rattle.std.proofs.Common.{◌∙◌}
use Rattle.spv_module.proofs.Rows.{no_row, some_row}
use Rattle.spv_module.proofs.table.form.Goals as goal

pub returns-in_err-typed : goal.returns-in_err-typed
returns-in_err-typed c = c.from_residual.ensures ∙ no_row c.args.op c.in_err-typed.ensures

pub returns : goal.returns
returns c = some_row c.args.op c.in_ok-typed.field-0.now c.in_ok-typed.ensures
