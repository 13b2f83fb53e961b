use Rattle.std.proofs.Common.{length, [], ◌∷◌, ◌++◌, sym, ap, ◌∙◌, subst}
use Rattle.cl_make.proofs.Growing.{grows_twice}
use Rattle.cl_types.specs.declared.space.Space.TheVariants as space
use Rattle.cl_make.specs.Wanted.{IsGivable}
use Rattle.cl_rules.specs.Operands.{first_broken}
use Rattle.cl_words.specs.Words.{sketch}
use Rattle.cl_typing.specs.UnitAnswers.{ParamStops}
use Rattle.cl_typing.specs.Units.{param_tests_at, param_named}
use Rattle.cl_typing.proofs.Parameters.{plain_givable, param_type, param_words_out, param_broken, param_typed, star_is}
use Rattle.cl_typing.proofs.Results.{stop_exit, none_of_not}
use Rattle.cl_typing.proofs.param.param.Goals as goal

pub returns-in_err-q-clause-out : goal.returns-in_err-q-clause-out
returns-in_err-q-clause-out c =
    stop_exit c.from_residual.result _ _ c.from_residual.ensures.1
    (param_words_out c.words.new.types c.words.new.types c.args.kernel c.args.names.now c.words.new.names c.args.before.now c.args.one.now _ c.in_err-q.ensures.out)

pub returns-in-Some-clause-out : goal.returns-in-Some-clause-out
returns-in-Some-clause-out c =
    subst (ParamStops c.words.new.types c.args.kernel c.args.names.now c.args.before.now c.args.one.now) (sym c.out.ensures)
    (param_broken c.words.new.types c.words.new.types c.args.kernel c.args.names.now c.words.new.names c.args.before.now c.args.one.now c.in_ok-q.q c.in_ok-q.ensures.ok c.in-Some.code
    (sym (c.param_broken.ensures ∙ (λ i. first_broken (param_tests_at c.args.kernel (c.is_again-again.ensures i) c.in_ok-q.q.sized ((c.is_some-star.ensures ∙ star_is c.args.one.now.star) i) ((c.new-sketch.ensures ∙ ap (sketch c.in_ok-q.q c.args.one.now.star) c.new.ensures) i) (c.len.ensures i)))) ∙ c.in-Some.is))

pub given-requires : goal.given-requires
given-requires c =
    let fits = sym (c.param_broken.ensures ∙ (λ i. first_broken (param_tests_at c.args.kernel (c.is_again-again.ensures i) c.in_ok-q.q.sized ((c.is_some-star.ensures ∙ star_is c.args.one.now.star) i) ((c.new-sketch.ensures ∙ ap (sketch c.in_ok-q.q c.args.one.now.star) c.new.ensures) i) (c.len.ensures i)))) ∙ none_of_not _ c.in_default.not-Some in
    subst (λ k. IsGivable c.words.new.types k.of) (sym (c.new-sketch.ensures ∙ ap (sketch c.in_ok-q.q c.args.one.now.star) c.new.ensures))
    (plain_givable c.words.new.types c.in_ok-q.q c.args.one.now.star c.is_table.ensures c.in_ok-q.ensures.ok.ready (param_type c.args.kernel c.words.new.names c.in_ok-q.q c.args.one.now (length c.args.before.now) fits))

pub returns-clause-ok : goal.returns-clause-ok
returns-clause-ok c =
    let fits = sym (c.param_broken.ensures ∙ (λ i. first_broken (param_tests_at c.args.kernel (c.is_again-again.ensures i) c.in_ok-q.q.sized ((c.is_some-star.ensures ∙ star_is c.args.one.now.star) i) ((c.new-sketch.ensures ∙ ap (sketch c.in_ok-q.q c.args.one.now.star) c.new.ensures) i) (c.len.ensures i)))) ∙ none_of_not _ c.in_default.not-Some in
    param_typed c.words.new.types c.given.new.types c.args.kernel c.args.names.now c.words.new.names c.args.before.now c.args.one.now c.in_ok-q.q c.in_ok-q.ensures.ok c.in_ok-ty.ty c.declare.new.names _ c.in_ok-ty.ensures.grows.grown fits
    (rw (c.new-sketch.ensures, c.new.ensures) at c.in_ok-ty.ensures.number)
    (c.in_ok-declare.ensures ∙ (λ i. param_named c.args.one.now.name c.in_ok-ty.ty ((c.new-sketch.ensures ∙ ap (sketch c.in_ok-q.q c.args.one.now.star) c.new.ensures) i) (c.len-2.ensures i) c.words.new.names))
    (c.in_ok-push.ensures.ok ∙ ap (λ n. c.args.before.now ++ (record { name = n; ty = c.in_ok-ty.ty; space = space.Private; place = c.args.one.now.place } ∷ [])) c.in_ok-name_of.ensures)

pub returns-clause-grows : goal.returns-clause-grows
returns-clause-grows c = grows_twice _ _ _ c.in_ok-q.ensures.grows c.in_ok-ty.ensures.grows
