use Rattle.std.proofs.Common.{refl}
use Rattle.std.proofs.lemmas.Result.{err_from_is_err_and}
use Rattle.cl_parse.proofs.Parameters.{map_err}
use Rattle.cl_parse.proofs.AttributeSteps.{both_ok, mark_then, mark_refused, mark_within, read_within, behind_vector, vector_name, vector_hinted, vector_hint_refused, vector_at}
use Rattle.cl_parse.proofs.word.vector_hint.Goals as goal

pub expect-requires-clause-within : goal.expect-requires-clause-within
expect-requires-clause-within c = behind_vector _ _ c.requires.ends c.requires.name

pub returns-in_err-inside-clause-out : goal.returns-in_err-inside-clause-out
returns-in_err-inside-clause-out c =
    let p = err_from_is_err_and c.from_residual.result c.from_residual.ensures.1 in
    rw (p.1, p.2) (mark_refused _ _ _ _ _ _ _ (vector_name _ _ c.requires.ends c.requires.name) c.in_err-inside.ensures.out refl)

pub hint-requires-clause-within : goal.hint-requires-clause-within
hint-requires-clause-within c = mark_within _ _ _ _ c.requires.ends c.in_ok-inside.ensures.ok c.in_ok-inside.ensures.next refl

pub returns-in_err-close-clause-out : goal.returns-in_err-close-clause-out
returns-in_err-close-clause-out c =
    let p = err_from_is_err_and c.from_residual-in_err-close.result c.from_residual-in_err-close.ensures.1 in
    rw (p.1, p.2) (vector_hint_refused _ _ _ _ c.requires.ends c.requires.name c.in_ok-inside.ensures.ok c.in_ok-inside.ensures.next c.in_err-close.ensures.out)

pub expect-requires-2-clause-within : goal.expect-requires-2-clause-within
expect-requires-2-clause-within c = read_within _ _ _ _ c.in_ok-close.ensures.ok

pub returns-in_err-second-clause-out : goal.returns-in_err-second-clause-out
returns-in_err-second-clause-out c =
    let p = err_from_is_err_and c.from_residual-in_err-second.result c.from_residual-in_err-second.ensures.1 in
    rw (p.1, p.2) (mark_refused _ _ _ _ _ _ _ (vector_hinted _ _ _ _ c.requires.ends c.requires.name c.in_ok-inside.ensures.ok c.in_ok-inside.ensures.next c.in_ok-close.ensures.ok) c.in_err-second.ensures.out refl)

pub expect-requires-3-clause-within : goal.expect-requires-3-clause-within
expect-requires-3-clause-within c = mark_within _ _ _ _ c.requires.ends c.in_ok-second.ensures.ok c.in_ok-second.ensures.next refl

pub returns-in_err-third-clause-out : goal.returns-in_err-third-clause-out
returns-in_err-third-clause-out c =
    let p = err_from_is_err_and c.from_residual-in_err-third.result c.from_residual-in_err-third.ensures.1 in
    rw (p.1, p.2) (mark_refused _ _ _ _ _ _ _ (mark_then _ _ _ _ _ _ _ c.requires.ends (vector_hinted _ _ _ _ c.requires.ends c.requires.name c.in_ok-inside.ensures.ok c.in_ok-inside.ensures.next c.in_ok-close.ensures.ok) c.in_ok-second.ensures.ok c.in_ok-second.ensures.next refl) c.in_err-third.ensures.out refl)

pub expect-requires-4-clause-within : goal.expect-requires-4-clause-within
expect-requires-4-clause-within c = mark_within _ _ _ _ c.requires.ends c.in_ok-third.ensures.ok c.in_ok-third.ensures.next refl

pub returns-clause-out : goal.returns-clause-out
returns-clause-out c = map_err c.expect-4.result _ _ (λ s f. mark_refused _ _ _ _ _ _ s (mark_then _ _ _ _ _ _ _ c.requires.ends (mark_then _ _ _ _ _ _ _ c.requires.ends (vector_hinted _ _ _ _ c.requires.ends c.requires.name c.in_ok-inside.ensures.ok c.in_ok-inside.ensures.next c.in_ok-close.ensures.ok) c.in_ok-second.ensures.ok c.in_ok-second.ensures.next refl) c.in_ok-third.ensures.ok c.in_ok-third.ensures.next refl) f refl) c.expect-4.ensures.out

pub returns-clause-ok : goal.returns-clause-ok
returns-clause-ok c = both_ok c.expect-4.result _ _ _ (λ n h e. vector_at _ _ _ _ _ _ n c.requires.ends c.requires.name c.in_ok-inside.ensures.ok c.in_ok-inside.ensures.next c.in_ok-close.ensures.ok c.in_ok-second.ensures.ok c.in_ok-second.ensures.next c.in_ok-third.ensures.ok c.in_ok-third.ensures.next h e) c.expect-4.ensures.ok c.expect-4.ensures.next
