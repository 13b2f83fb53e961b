use Rattle.std.proofs.lemmas.Result.{err_from_is_err_and}
use Rattle.cl_parse.proofs.Parameters.{TypedAt, named_at, unnamed_at, param_refused}
use Rattle.cl_parse.proofs.AttributeSteps.{read_within}
use Rattle.cl_parse.proofs.params.param.Goals as goal

pub returns-in_err-words-clause-out : goal.returns-in_err-words-clause-out
returns-in_err-words-clause-out c =
    let p = err_from_is_err_and c.from_residual.result c.from_residual.ensures.1 in
    rw (p.1, p.2) (param_refused _ _ _ c.requires.within c.in_err-words.ensures.out.out c.in_err-words.ensures.out.barred)

pub returns-in_ok-text-clause-ok : goal.returns-in_ok-text-clause-ok
returns-in_ok-text-clause-ok c =
    let p : TypedAt c.args.reader.now c.args.at c.in_ok-words.words.next c.in_ok-star.next = record { vector = c.in_ok-words.words.vector; forth = c.in_ok-words.ensures.ok.forth; spec = c.in_ok-words.ensures.ok.read; none = c.in_ok-words.ensures.ok.none; star = c.in_ok-star.ensures.read } in
    named_at _ _ _ _ _ _ _ _ c.requires.ends c.requires.within p c.in_ok-words.ensures.ok.tree c.in_ok-star.ensures.tree c.if-is_at.ensures.stands c.in_ok-text.ensures c.place-place.ensures

pub returns-else-is_at-clause-ok : goal.returns-else-is_at-clause-ok
returns-else-is_at-clause-ok c =
    let p : TypedAt c.args.reader.now c.args.at c.in_ok-words.words.next c.in_ok-star.next = record { vector = c.in_ok-words.words.vector; forth = c.in_ok-words.ensures.ok.forth; spec = c.in_ok-words.ensures.ok.read; none = c.in_ok-words.ensures.ok.none; star = c.in_ok-star.ensures.read } in
    unnamed_at _ _ _ _ _ _ _ c.requires.within p c.in_ok-words.ensures.ok.tree c.in_ok-star.ensures.tree c.if-is_at.ensures.stands c.place-place-else-is_at.ensures

pub star-requires-clause-within : goal.star-requires-clause-within
star-requires-clause-within c = read_within _ _ _ _ c.in_ok-words.ensures.ok.read
