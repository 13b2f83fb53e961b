use Rattle.std.proofs.lemmas.Result.{err_from_is_err_and}
use Rattle.cl_parse.proofs.AttributeSteps.{hint_word_at, hint_integer_at, hint_refused}
use Rattle.cl_parse.proofs.word.hint.Goals as goal

pub returns-then-is_hint_word-clause-ok : goal.returns-then-is_hint_word-clause-ok
returns-then-is_hint_word-clause-ok c = hint_word_at _ _ c.peek.result c.requires.ends c.peek.ensures.stands c.if-is_hint_word.ensures

pub returns-in_ok-_base-clause-ok : goal.returns-in_ok-_base-clause-ok
returns-in_ok-_base-clause-ok c = hint_integer_at _ _ _ c.peek.result c.peek.ensures.stands c.if-is_hint_word.ensures c.in_ok-_base.ensures.read

pub returns-in_err-_base-clause-out : goal.returns-in_err-_base-clause-out
returns-in_err-_base-clause-out c =
    let p = err_from_is_err_and c.from_residual.result c.from_residual.ensures.1 in
    rw (p.1, p.2) (hint_refused _ _ c.peek.result _ c.peek.ensures.stands c.if-is_hint_word.ensures c.in_err-_base.ensures.out)
