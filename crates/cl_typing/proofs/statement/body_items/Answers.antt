use Rattle.cl_typing.specs.Settings.{state}
use Rattle.cl_typing.proofs.Bodies.{body_block, body_block_out, body_other, body_other_out}
use Rattle.cl_typing.proofs.Results.{stop_exit}
use Rattle.cl_typing.proofs.statement.body_items.Goals as goal

pub returns-in-Block-clause-ok : goal.returns-in-Block-clause-ok
returns-in-Block-clause-ok c =
    body_block c.items.new.types c.args.p (state c.args.names.now c.args.vars.now) c.args.body.now c.in-Block.all c.in-Block.is (state c.items.new.names c.items.new.vars) c.items.result (rw c.deref.ensures.value at c.items.ensures.ok)

pub returns-in-Block-clause-out : goal.returns-in-Block-clause-out
returns-in-Block-clause-out c =
    body_block_out c.items.new.types c.args.p (state c.args.names.now c.args.vars.now) c.args.body.now c.in-Block.all c.in-Block.is c.items.result (rw c.deref.ensures.value at c.items.ensures.out)

pub returns-in_err-item-in_default-clause-out : goal.returns-in_err-item-in_default-clause-out
returns-in_err-item-in_default-clause-out c =
    stop_exit c.from_residual.result _ _ c.from_residual.ensures.1
    (body_other_out c.item.new.types c.args.p (state c.args.names.now c.args.vars.now) c.args.body.now c.in_default.not-Block _ c.in_err-item-in_default.ensures.out)

pub returns-in_ok-item-in_default-clause-ok : goal.returns-in_ok-item-in_default-clause-ok
returns-in_ok-item-in_default-clause-ok c =
    body_other c.item.new.types c.args.p (state c.args.names.now c.args.vars.now) c.args.body.now c.in_default.not-Block (state c.item.new.names c.item.new.vars) _ _ c.new-typed.ensures.items c.in_ok-item-in_default.ensures.ok
