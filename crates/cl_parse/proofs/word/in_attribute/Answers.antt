use Rattle.std.proofs.lemmas.Result.{err_from_is_err_and}
use Rattle.cl_parse.proofs.AttributeSteps.{vector_named, required_named, hint_named, unknown_named, behind_size, size_refused, required_at, size_hint_at, name_refused}
use Rattle.cl_parse.proofs.word.in_attribute.Goals as goal

pub vector_hint-requires-clause-name : goal.vector_hint-requires-clause-name
vector_hint-requires-clause-name c = vector_named _ _ _ c.in_ok-name.ensures c.in-VectorHint.is

pub returns-in_err-next-in-VectorHint-clause-out : goal.returns-in_err-next-in-VectorHint-clause-out
returns-in_err-next-in-VectorHint-clause-out c =
    let p = err_from_is_err_and c.from_residual-in_err-next-in-VectorHint.result c.from_residual-in_err-next-in-VectorHint.ensures.1 in
    rw (p.1, p.2) (c.in_err-next-in-VectorHint.ensures.out)

pub size-requires-clause-within : goal.size-requires-clause-within
size-requires-clause-within c = behind_size _ _ _ c.requires.ends (required_named _ _ _ c.in_ok-name.ensures c.in-Required.is)

pub returns-in_err-args-in-Required-clause-out : goal.returns-in_err-args-in-Required-clause-out
returns-in_err-args-in-Required-clause-out c =
    let p = err_from_is_err_and c.from_residual-in_err-args-in-Required.result c.from_residual-in_err-args-in-Required.ensures.1 in
    rw (p.1, p.2) (size_refused _ _ _ _ c.requires.ends (required_named _ _ _ c.in_ok-name.ensures c.in-Required.is) c.in_err-args-in-Required.ensures.out)

pub size-requires-in-SizeHint-clause-within : goal.size-requires-in-SizeHint-clause-within
size-requires-in-SizeHint-clause-within c = behind_size _ _ _ c.requires.ends (hint_named _ _ _ c.in_ok-name.ensures c.in-SizeHint.is)

pub returns-in_err-_args-in-SizeHint-clause-out : goal.returns-in_err-_args-in-SizeHint-clause-out
returns-in_err-_args-in-SizeHint-clause-out c =
    let p = err_from_is_err_and c.from_residual-in_err-_args-in-SizeHint.result c.from_residual-in_err-_args-in-SizeHint.ensures.1 in
    rw (p.1, p.2) (size_refused _ _ _ _ c.requires.ends (hint_named _ _ _ c.in_ok-name.ensures c.in-SizeHint.is) c.in_err-_args-in-SizeHint.ensures.out)

pub returns-in_ok-next-in-VectorHint-clause-ok : goal.returns-in_ok-next-in-VectorHint-clause-ok
returns-in_ok-next-in-VectorHint-clause-ok c = c.in_ok-next-in-VectorHint.ensures.ok

pub returns-in_ok-args-in-Required-clause-ok : goal.returns-in_ok-args-in-Required-clause-ok
returns-in_ok-args-in-Required-clause-ok c = required_at _ _ _ _ _ c.requires.ends (required_named _ _ _ c.in_ok-name.ensures c.in-Required.is) c.place-place.ensures c.in_ok-args-in-Required.ensures.ok

pub returns-in_ok-_args-in-SizeHint-clause-ok : goal.returns-in_ok-_args-in-SizeHint-clause-ok
returns-in_ok-_args-in-SizeHint-clause-ok c = size_hint_at _ _ _ c.in_ok-_args-in-SizeHint._args c.requires.ends (hint_named _ _ _ c.in_ok-name.ensures c.in-SizeHint.is) c.in_ok-_args-in-SizeHint.ensures.ok

pub returns-in-Unknown-clause-out : goal.returns-in-Unknown-clause-out
returns-in-Unknown-clause-out c = name_refused _ _ (unknown_named _ _ _ c.in_ok-name.ensures c.in-Unknown.is)
