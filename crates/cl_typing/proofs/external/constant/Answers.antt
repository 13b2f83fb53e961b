use Rattle.std.proofs.Common.{ap, ◌∙◌}
use Rattle.cl_make.proofs.Growing.{grows_itself}
use Rattle.cl_typing.proofs.FileConstants.{constant_out, constant_declared, constant_read_tree}
use Rattle.cl_typing.proofs.Results.{stop_exit}
use Rattle.cl_typing.proofs.external.constant.Goals as goal

pub returns-in_err-next_number-clause-grows : goal.returns-in_err-next_number-clause-grows
returns-in_err-next_number-clause-grows c = grows_itself c.args.types.now c.is_table.ensures

pub returns-in_err-read-clause-out : goal.returns-in_err-read-clause-out
returns-in_err-read-clause-out c =
    stop_exit c.from_residual-in_err-read.result _ _ c.from_residual-in_err-read.ensures.1
    (constant_out c.variable.new.types c.args.q c.args.unit.now c.args.d.now c.in_ok-next_number.field-0 (c.in_ok-next_number.ensures ∙ c.len.ensures) _ c.in_err-read.ensures.out)

pub initialiser-tree-requires : goal.initialiser-tree-requires
initialiser-tree-requires c = constant_read_tree c.variable.new.types c.args.q c.args.unit.now c.args.d.now c.in_ok-next_number.field-0 (c.in_ok-next_number.ensures ∙ c.len.ensures) c.variable.new.names c.in_ok-read.read c.in_ok-read.ensures.ok

pub returns-clause-ok : goal.returns-clause-ok
returns-clause-ok c =
    constant_declared c.variable.new.types c.args.q c.args.unit.now c.args.d.now c.in_ok-next_number.field-0 (c.in_ok-next_number.ensures ∙ c.len.ensures) c.in_ok-read.ensures.grows.table c.variable.new.names c.in_ok-read.read c.initialiser-tree.result c.in_ok-bytes.bytes _ c.in_ok-read.ensures.ok c.initialiser-tree.ensures c.in_ok-bytes.ensures
    (ap (λ z. record { env = c.variable.new.names; constants = z; functions = c.args.unit.now.functions; defined = c.args.unit.now.defined; sized = c.args.unit.now.sized; sizes = c.args.unit.now.sizes }) c.in_ok-push.ensures.ok)
