use Rattle.std.proofs.Common.{true, sym, ap, ◌∙◌, subst}
use Rattle.cl_ast.specs.declared.expression.Base.TheViews.{out-Declor}
use Rattle.cl_make.proofs.Growing.{grows_twice}
use Rattle.cl_make.proofs.Stays.{ready_type_stays}
use Rattle.cl_scope.specs.declared.scope.DeclaredKind.TheVariants as kind
use Rattle.cl_scope.specs.Names.{declare}
use Rattle.cl_words.specs.Words.{no_declared_type}
use Rattle.cl_type_expr.specs.Typing.{ArePositive, IsReadySketch}
use Rattle.cl_variables.specs.Answers.{is_taken}
use Rattle.cl_typing.specs.Units.{space_or_private}
use Rattle.cl_typing.proofs.Externals.{typedef_words_out, typedef_lengths_out, typedef_out, typedef_typed}
use Rattle.cl_typing.proofs.Results.{stop_exit}
use Rattle.cl_typing.proofs.Typedefs.{sketch_ready, sketch_lengths}
use Rattle.cl_typing.proofs.external.typedef.Goals as goal

pub returns-in_err-q-clause-out : goal.returns-in_err-q-clause-out
returns-in_err-q-clause-out c =
    stop_exit c.from_residual.result _ _ c.from_residual.ensures.1
    (typedef_words_out c.words.new.types c.words.new.types c.words.new.types c.args.names.now c.words.new.names c.args.spec.now c.args.d.now _ c.in_err-q.ensures.out)

pub lengths-requires : goal.lengths-requires
lengths-requires c = record { known = c.in_ok-q.ensures.ok.known }

pub returns-in_err-lengths-clause-out : goal.returns-in_err-lengths-clause-out
returns-in_err-lengths-clause-out c =
    stop_exit c.from_residual-in_err-lengths.result _ _ c.from_residual-in_err-lengths.ensures.1
    (typedef_lengths_out c.words.new.types c.lengths.new.types c.lengths.new.types c.args.names.now c.words.new.names c.args.spec.now c.args.d.now c.in_ok-q.q c.in_ok-q.ensures.ok c.in_err-lengths.ensures.grows.grown _ (rw c.deref.ensures.value at c.in_err-lengths.ensures.out))

pub returns-in_err-lengths-clause-grows : goal.returns-in_err-lengths-clause-grows
returns-in_err-lengths-clause-grows c = grows_twice _ _ _ c.in_ok-q.ensures.grows c.in_err-lengths.ensures.grows

pub typedef_type-requires-clause-ready : goal.typedef_type-requires-clause-ready
typedef_type-requires-clause-ready c = λ e.
    subst (IsReadySketch c.lengths.new.types) (sym c.new-sketch.ensures)
    (sketch_ready c.lengths.new.types c.in_ok-q.q (out-Declor c.args.d.now).star c.in_ok-lengths.lengths c.in_ok-lengths.ensures.grows.table
    (ready_type_stays c.words.new.types c.lengths.new.types c.in_ok-q.q c.in_ok-q.ensures.grows.table c.in_ok-lengths.ensures.grows.grown c.in_ok-q.ensures.ok.ready)
    (sym (ap no_declared_type c.new-sketch.ensures) ∙ e))

pub typedef_type-requires-clause-positive : goal.typedef_type-requires-clause-positive
typedef_type-requires-clause-positive c =
    subst ArePositive (sym (ap (λ k. k.lengths) c.new-sketch.ensures ∙ sketch_lengths c.in_ok-q.q (out-Declor c.args.d.now).star c.in_ok-lengths.lengths)) c.in_ok-lengths.ensures.ok.positive

pub returns-in_err-ty-clause-out : goal.returns-in_err-ty-clause-out
returns-in_err-ty-clause-out c =
    stop_exit c.from_residual-in_err-ty.result _ _ c.from_residual-in_err-ty.ensures.1
    (typedef_out c.words.new.types c.lengths.new.types c.typedef_type.new.types c.args.names.now c.words.new.names c.args.spec.now c.args.d.now c.in_ok-q.q c.in_ok-q.ensures.ok c.in_ok-lengths.ensures.grows.grown c.lengths.new.names c.in_ok-lengths.lengths (rw c.deref.ensures.value at c.in_ok-lengths.ensures.ok) c.in_err-ty.ensures.grows.grown c.is_taken-again.result
    (c.is_taken-again.ensures ∙ ap (λ n. is_taken c.lengths.new.names n) c.as_slice-name.ensures) _ (rw c.new-sketch.ensures at c.in_err-ty.ensures.out))

pub returns-in_err-ty-clause-grows : goal.returns-in_err-ty-clause-grows
returns-in_err-ty-clause-grows c = grows_twice _ _ _ (grows_twice _ _ _ c.in_ok-q.ensures.grows c.in_ok-lengths.ensures.grows) c.in_err-ty.ensures.grows

pub returns-clause-ok : goal.returns-clause-ok
returns-clause-ok c =
    typedef_typed c.words.new.types c.lengths.new.types c.typedef_type.new.types c.args.names.now c.words.new.names c.args.spec.now c.args.d.now c.in_ok-q.q c.in_ok-q.ensures.ok c.in_ok-lengths.ensures.grows.grown c.lengths.new.names c.in_ok-lengths.lengths (rw c.deref.ensures.value at c.in_ok-lengths.ensures.ok) c.in_ok-ty.ensures.grows.grown c.is_taken-again.result
    (c.is_taken-again.ensures ∙ ap (λ n. is_taken c.lengths.new.names n) c.as_slice-name.ensures) c.declare.new.self c.in_ok-ty.ty (rw c.new-sketch.ensures at c.in_ok-ty.ensures.ok)
    (c.in_ok-declare.ensures.ok ∙ (λ i. declare (record { name = (c.in_ok-from_bytes.ensures ∙ c.as_slice-name.ensures) i; ty = c.in_ok-ty.ty; space = (c.space_or_private.ensures ∙ ap (λ k. space_or_private k.space) c.new-sketch.ensures) i; readonly = (c.new-sketch.ensures i).readonly; kind = kind.Typedef; complete = true }) c.lengths.new.names))

pub returns-clause-grows : goal.returns-clause-grows
returns-clause-grows c = grows_twice _ _ _ (grows_twice _ _ _ c.in_ok-q.ensures.grows c.in_ok-lengths.ensures.grows) c.in_ok-ty.ensures.grows
