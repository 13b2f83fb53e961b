use Rattle.std.proofs.Common.{◌&&◌, is_some, refl, sym, ap, ◌∙◌, subst}
use Rattle.cl_make.proofs.Growing.{grows_twice}
use Rattle.cl_rules.specs.Operands.{first_broken}
use Rattle.cl_scope.specs.Names.{is_declared, find_function, declared_function}
use Rattle.cl_tree.specs.Units.{types_of}
use Rattle.cl_typing.specs.UnitAnswers.{HeadStops}
use Rattle.cl_typing.specs.Units.{size_for, is_made, differs, function_tests_at, signature}
use Rattle.cl_typing.proofs.Blocks.{entered_known}
use Rattle.cl_typing.proofs.Heads.{head_sizes_out, head_words_out, head_params_out, head_broken, head_typed}
use Rattle.cl_typing.proofs.Results.{stop_exit, none_of_not}
use Rattle.cl_typing.proofs.head.typed_head.Goals as goal

pub returns-in_err-size-clause-out : goal.returns-in_err-size-clause-out
returns-in_err-size-clause-out c =
    stop_exit c.from_residual.result _ _ c.from_residual.ensures.1
    (head_sizes_out c.sizes.new.types c.sizes.new.types c.sizes.new.types c.args.bodies.now c.args.unit.now c.args.before.now c.args.spec.now c.args.name.now c.args.place c.args.all.now c.args.body c.is_some-given.result (c.is_some-given.ensures ∙ ap is_some (c.size_for.ensures ∙ ap (λ n. size_for n c.args.unit.now) c.as_slice.ensures)) _ c.in_err-size.ensures.out)

pub words-requires : goal.words-requires
words-requires c = record { known = c.in_ok-size.ensures.ok.known }

pub returns-in_err-q-clause-out : goal.returns-in_err-q-clause-out
returns-in_err-q-clause-out c =
    stop_exit c.from_residual-in_err-q.result _ _ c.from_residual-in_err-q.ensures.1
    (head_words_out c.sizes.new.types c.words.new.types c.words.new.types c.args.bodies.now c.args.unit.now c.args.before.now c.args.spec.now c.args.name.now c.args.place c.args.all.now c.args.body c.is_some-given.result (c.is_some-given.ensures ∙ ap is_some (c.size_for.ensures ∙ ap (λ n. size_for n c.args.unit.now) c.as_slice.ensures)) c.sizes.new.names c.in_ok-size.size c.in_ok-size.ensures.ok c.in_err-q.ensures.grows.grown _ c.in_err-q.ensures.out)

pub returns-in_err-q-clause-grows : goal.returns-in_err-q-clause-grows
returns-in_err-q-clause-grows c = grows_twice _ _ _ c.in_ok-size.ensures.grows c.in_err-q.ensures.grows

pub params-requires : goal.params-requires
params-requires c = record { known = entered_known c.words.new.types c.words.new.names c.enter-mark.new.self c.enter-mark.ensures.block c.in_ok-q.ensures.ok.known }

pub returns-in_err-params-clause-out : goal.returns-in_err-params-clause-out
returns-in_err-params-clause-out c =
    stop_exit c.from_residual-in_err-params.result _ _ c.from_residual-in_err-params.ensures.1
    (head_params_out c.sizes.new.types c.words.new.types c.params.new.types c.args.bodies.now c.args.unit.now c.args.before.now c.args.spec.now c.args.name.now c.args.place c.args.all.now c.args.body c.is_some-given.result (c.is_some-given.ensures ∙ ap is_some (c.size_for.ensures ∙ ap (λ n. size_for n c.args.unit.now) c.as_slice.ensures)) c.sizes.new.names c.in_ok-size.size c.in_ok-size.ensures.ok c.in_ok-q.ensures.grows.grown c.words.new.names c.enter-mark.new.self c.in_ok-q.q c.in_ok-q.ensures.ok c.enter-mark.ensures.block c.in_err-params.ensures.grows.grown _ (rw c.is_kernel-kernel.ensures at c.in_err-params.ensures.out))

pub returns-in_err-params-clause-grows : goal.returns-in_err-params-clause-grows
returns-in_err-params-clause-grows c = grows_twice _ _ _ (grows_twice _ _ _ c.in_ok-size.ensures.grows c.in_ok-q.ensures.grows) c.in_err-params.ensures.grows

pub returns-in_err-param_types-clause-grows : goal.returns-in_err-param_types-clause-grows
returns-in_err-param_types-clause-grows c = grows_twice _ _ _ (grows_twice _ _ _ c.in_ok-size.ensures.grows c.in_ok-q.ensures.grows) c.in_ok-params.ensures.grows

pub returns-in-Some-clause-out : goal.returns-in-Some-clause-out
returns-in-Some-clause-out c =
    subst (HeadStops c.params.new.types c.args.unit.now c.args.before.now c.args.spec.now c.args.name.now c.args.place c.args.all.now c.args.body) (sym c.out.ensures)
    (head_broken c.sizes.new.types c.words.new.types c.params.new.types c.args.bodies.now c.args.unit.now c.args.before.now c.args.spec.now c.args.name.now c.args.place c.args.all.now c.args.body c.is_some-given.result (c.is_some-given.ensures ∙ ap is_some (c.size_for.ensures ∙ ap (λ n. size_for n c.args.unit.now) c.as_slice.ensures)) c.sizes.new.names c.in_ok-size.size c.in_ok-size.ensures.ok c.in_ok-q.ensures.grows.grown c.words.new.names c.enter-mark.new.self c.in_ok-q.q c.in_ok-q.ensures.ok c.enter-mark.ensures.block c.in_ok-params.ensures.grows.grown c.params.new.names c.in_ok-params.params (rw c.is_kernel-kernel.ensures at c.in_ok-params.ensures.ok) c.in-Some.code
    (sym (c.function_broken.ensures ∙ (λ i. first_broken (function_tests_at c.in_ok-q.q.shape ((c.is_declared-taken.ensures ∙ ap (λ n. is_declared c.words.new.names n) c.as_slice-2.ensures) i) (c.is_some.ensures i) (c.is_kernel-kernel.ensures i) ((c.differs-differ.ensures ∙ (λ j. differs ((c.find_function-earlier.ensures ∙ ap (λ n. find_function c.params.new.names n) c.as_slice-4.ensures) j) ((c.as_slice-5.ensures ∙ c.in_ok-param_types.ensures ∙ ap types_of c.as_slice-3.ensures) j) c.in_ok-q.q.ty (c.is_kernel-kernel.ensures j))) i) ((c.has_two_bodies-again.ensures ∙ ap (λ n. c.args.body && is_made n c.args.unit.now) c.as_slice-6.ensures) i)))) ∙ c.in-Some.is))

pub returns-in-Some-clause-grows : goal.returns-in-Some-clause-grows
returns-in-Some-clause-grows c = grows_twice _ _ _ (grows_twice _ _ _ c.in_ok-size.ensures.grows c.in_ok-q.ensures.grows) c.in_ok-params.ensures.grows

pub returns-clause-ok : goal.returns-clause-ok
returns-clause-ok c =
    head_typed c.sizes.new.types c.words.new.types c.params.new.types c.args.bodies.now c.args.unit.now c.args.before.now c.args.spec.now c.args.name.now c.args.place c.args.all.now c.args.body c.is_some-given.result (c.is_some-given.ensures ∙ ap is_some (c.size_for.ensures ∙ ap (λ n. size_for n c.args.unit.now) c.as_slice.ensures)) c.sizes.new.names c.in_ok-size.size c.in_ok-size.ensures.ok c.in_ok-q.ensures.grows.grown c.words.new.names c.enter-mark.new.self c.in_ok-q.q c.in_ok-q.ensures.ok c.enter-mark.ensures.block c.in_ok-params.ensures.grows.grown c.params.new.names c.in_ok-params.params (rw c.is_kernel-kernel.ensures at c.in_ok-params.ensures.ok) _ _
    (sym (c.function_broken.ensures ∙ (λ i. first_broken (function_tests_at c.in_ok-q.q.shape ((c.is_declared-taken.ensures ∙ ap (λ n. is_declared c.words.new.names n) c.as_slice-2.ensures) i) (c.is_some.ensures i) (c.is_kernel-kernel.ensures i) ((c.differs-differ.ensures ∙ (λ j. differs ((c.find_function-earlier.ensures ∙ ap (λ n. find_function c.params.new.names n) c.as_slice-4.ensures) j) ((c.as_slice-5.ensures ∙ c.in_ok-param_types.ensures ∙ ap types_of c.as_slice-3.ensures) j) c.in_ok-q.q.ty (c.is_kernel-kernel.ensures j))) i) ((c.has_two_bodies-again.ensures ∙ ap (λ n. c.args.body && is_made n c.args.unit.now) c.as_slice-6.ensures) i)))) ∙ none_of_not _ c.in_default.not-Some)
    (c.in_ok-add_function.ensures.ok ∙ (λ i. declared_function ((c.in_ok-function.ensures ∙ (λ j. signature c.args.bodies.now (c.as_slice-7.ensures j) ((c.in_ok-param_types.ensures ∙ ap types_of c.as_slice-3.ensures) j) c.in_ok-q.q.ty (c.is_kernel-kernel.ensures j))) i) c.params.new.names)) refl refl refl c.enter-mark.ensures.mark

pub returns-clause-grows : goal.returns-clause-grows
returns-clause-grows c = grows_twice _ _ _ (grows_twice _ _ _ c.in_ok-size.ensures.grows c.in_ok-q.ensures.grows) c.in_ok-params.ensures.grows
