use Rattle.std.proofs.Common.{rules, ◌∙◌}
use Rattle.cl_make.proofs.Growing.{grows_itself}
use Rattle.cl_typing.proofs.Results.{stop_exit}
use Rattle.cl_typing.proofs.Sequences.{variable_typed, variable_out}
use Rattle.cl_typing.proofs.declaring.declaration.Goals as goal

pub returns-in_err-var-clause-grows : goal.returns-in_err-var-clause-grows
returns-in_err-var-clause-grows c = grows_itself c.args.types.now c.is_table.ensures

pub returns-in_err-read-clause-out : goal.returns-in_err-read-clause-out
returns-in_err-read-clause-out c =
    stop_exit c.from_residual-in_err-read.result _ _ c.from_residual-in_err-read.ensures.1
    (variable_out c.variable.new.types c.args.p c.args.names.now c.variable.new.names c.args.vars.now c.args.vars.now c.args.q c.args.d.now c.in_ok-var.var (c.in_ok-var.ensures ∙ c.len.ensures) _ c.in_err-read.ensures.out)

pub returns-clause-ok : goal.returns-clause-ok
returns-clause-ok c =
    variable_typed c.variable.new.types c.args.p c.args.names.now c.variable.new.names c.args.vars.now c.push.new.self c.args.q c.args.d.now c.in_ok-var.var (c.in_ok-var.ensures ∙ c.len.ensures) c.in_ok-read.read _ c.in_ok-read.ensures.ok c.in_ok-push.ensures.ok
    (record { at = search rules; is = search rules })
