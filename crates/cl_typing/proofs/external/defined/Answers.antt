use Rattle.std.proofs.Common.{true, Some, refl, sym, ap, ◌∙◌, subst}
use Rattle.cl_builtins.specs.Found.{IsKnown}
use Rattle.cl_ast.specs.declared.statement.StmtNode.TheViews.{out-Stmt}
use Rattle.cl_tree.specs.declared.statement.TStmtNode.TheVariants as tnode
use Rattle.cl_tree.specs.declared.statement.TStmtNode.TheViews.{roll-TStmt}
use Rattle.cl_make.proofs.Growing.{grows_twice}
use Rattle.cl_typing.specs.Units.{with_env, and_size, and_function, is_kernel, function_of}
use Rattle.cl_typing.proofs.Externals.{external_head_out, external_body_stops, external_made}
use Rattle.cl_typing.proofs.Switches.{built_stmt}
use Rattle.cl_typing.proofs.Results.{stop_exit}
use Rattle.cl_typing.proofs.external.defined.Goals as goal

pub returns-in_err-head-clause-out : goal.returns-in_err-head-clause-out
returns-in_err-head-clause-out c =
    stop_exit c.from_residual.result _ _ c.from_residual.ensures.1
    (external_head_out c.typed_head.new.types c.args.bodies.now c.args.unit.now c.args.before.now c.args.spec.now c.args.name.now c.args.place c.args.params.now (Some c.args.body.now) true c.args.e.now c.requires.is _ refl (rw (c.deref.ensures.value, c.deref-2.ensures.value) at c.in_err-head.ensures.out))

pub body_items-requires-clause-known : goal.body_items-requires-clause-known
body_items-requires-clause-known c = c.in_ok-head.ensures.ok.known

pub body_items-requires-clause-result : goal.body_items-requires-clause-result
body_items-requires-clause-result c = subst (λ p. IsKnown c.typed_head.new.types p.result) (sym c.of-p.ensures) c.in_ok-head.ensures.ok.result

pub returns-in_err-typed-clause-out : goal.returns-in_err-typed-clause-out
returns-in_err-typed-clause-out c =
    stop_exit c.from_residual-in_err-typed.result _ _ c.from_residual-in_err-typed.ensures.1
    (external_body_stops c.typed_head.new.types c.args.bodies.now c.args.unit.now c.args.before.now c.args.spec.now c.args.name.now c.args.place c.args.params.now c.args.e.now c.typed_head.new.unit.env c.in_ok-head.head c.body_items.new.types c.args.body.now c.requires.is (rw (c.deref.ensures.value, c.deref-2.ensures.value) at c.in_ok-head.ensures.ok) c.in_err-typed.ensures.grows.grown _
    (rw (c.new-vars.ensures, c.of-p.ensures, c.is_kernel-kernel.ensures, c.deref-3.ensures.value) at c.in_err-typed.ensures.out))

pub returns-clause-ok : goal.returns-clause-ok
returns-clause-ok c =
    external_made c.typed_head.new.types c.args.bodies.now c.args.unit.now c.args.before.now c.args.spec.now c.args.name.now c.args.place c.args.params.now c.args.e.now c.typed_head.new.unit.env c.in_ok-head.head c.body_items.new.types c.args.body.now c.requires.is (rw (c.deref.ensures.value, c.deref-2.ensures.value) at c.in_ok-head.ensures.ok) c.in_ok-typed.ensures.grows.grown c.body_items.new.names c.leave.new.self c.body_items.new.vars c.in_ok-typed.typed _ _ _
    (rw (c.new-vars.ensures, c.of-p.ensures, c.is_kernel-kernel.ensures, c.deref-3.ensures.value) at c.in_ok-typed.ensures.ok) c.leave.ensures.behind (built_stmt (out-Stmt c.args.body.now).place (tnode.Block c.in_ok-typed.typed))
    (λ i. function_of ((c.in_ok-from_bytes.ensures ∙ c.as_slice-2.ensures) i) c.args.place ((c.is_kernel-kernel.ensures ∙ ap is_kernel c.deref-3.ensures.value) i) c.in_ok-head.head.q.ty c.in_ok-head.head.params c.body_items.new.vars (roll-TStmt record { place = (out-Stmt c.args.body.now).place; node = tnode.Block c.in_ok-typed.typed }))
    (c.in_ok-add_function.ensures ∙ ap (and_function _) (c.in_ok-add_size.ensures ∙ (λ i. and_size (c.as_slice.ensures i) c.in_ok-head.head.size (with_env c.leave.new.self (c.in_ok-head.ensures.rest i)))))

pub returns-in_err-typed-clause-grows : goal.returns-in_err-typed-clause-grows
returns-in_err-typed-clause-grows c = grows_twice _ _ _ c.in_ok-head.ensures.grows c.in_err-typed.ensures.grows

pub returns-clause-grows : goal.returns-clause-grows
returns-clause-grows c = grows_twice _ _ _ c.in_ok-head.ensures.grows c.in_ok-typed.ensures.grows
