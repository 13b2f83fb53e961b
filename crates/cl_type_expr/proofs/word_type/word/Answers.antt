use Rattle.std.proofs.Common.{sym, ap, ◌∙◌, subst}
use Rattle.cl_type_expr.specs.Typing.{BaseIs}
use Rattle.cl_words.specs.Words.{plain}
use Rattle.cl_make.proofs.Stays.{env_stays}
use Rattle.cl_type_expr.proofs.WordTypes.{word_askable, word_ok}
use Rattle.cl_type_expr.proofs.word_type.word.Goals as goal

pub of_shape-requires : goal.of_shape-requires
of_shape-requires c = word_askable c.args.types.now c.args.word.now c.in-Some.shape (sym c.in-Some.ensures)

pub returns-clause-ok : goal.returns-clause-ok
returns-clause-ok c =
    subst (BaseIs c.of_shape.new.types c.args.names.now c.args.word.now c.args.names.now) (sym (c.plain.ensures ∙ ap (plain (record { ty = c.in_ok-ty-in-Some.ty; shape = c.in-Some.shape })) c.is_sized.ensures))
    (word_ok c.of_shape.new.types c.args.names.now c.args.word.now c.in-Some.shape c.in_ok-ty-in-Some.ty (env_stays c.args.types.now c.of_shape.new.types c.args.names.now c.in_ok-ty-in-Some.ensures.grows.grown c.requires.known) (sym c.in-Some.ensures) c.in_ok-ty-in-Some.ensures.number)
