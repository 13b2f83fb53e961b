use Rattle.std.proofs.Common.{refl}
use Rattle.std.proofs.lemmas.Result.{err_from_is_err_and}
use Rattle.cl_grammar.proofs.Places.{more_tokens}
use Rattle.cl_parse.proofs.Parameters.{map_ok, map_err}
use Rattle.cl_parse.proofs.AttributeSteps.{mark_within, attribute_refused, attribute_half_open, attribute_inside_refused, attribute_at}
use Rattle.cl_parse.proofs.word.attribute.Goals as goal

pub expect-requires-clause-within : goal.expect-requires-clause-within
expect-requires-clause-within c = more_tokens _ _ _ c.requires.ends c.requires.begins refl

pub returns-in_err-second-clause-out : goal.returns-in_err-second-clause-out
returns-in_err-second-clause-out c =
    let p = err_from_is_err_and c.from_residual.result c.from_residual.ensures.1 in
    rw (p.1, p.2) (attribute_refused _ _ _ c.requires.ends c.requires.begins c.in_err-second.ensures.out)

pub expect-requires-2-clause-within : goal.expect-requires-2-clause-within
expect-requires-2-clause-within c = mark_within _ _ _ _ c.requires.ends c.in_ok-second.ensures.ok c.in_ok-second.ensures.next refl

pub returns-in_err-inside-clause-out : goal.returns-in_err-inside-clause-out
returns-in_err-inside-clause-out c =
    let p = err_from_is_err_and c.from_residual-in_err-inside.result c.from_residual-in_err-inside.ensures.1 in
    rw (p.1, p.2) (attribute_half_open _ _ _ _ c.requires.ends c.requires.begins c.in_ok-second.ensures.ok c.in_ok-second.ensures.next c.in_err-inside.ensures.out)

pub in_attribute-requires-clause-within : goal.in_attribute-requires-clause-within
in_attribute-requires-clause-within c = mark_within _ _ _ _ c.requires.ends c.in_ok-inside.ensures.ok c.in_ok-inside.ensures.next refl

pub returns-clause-out : goal.returns-clause-out
returns-clause-out c = map_err c.in_attribute.result _ _ (λ s f. attribute_inside_refused _ _ _ _ s c.requires.ends c.requires.begins c.in_ok-second.ensures.ok c.in_ok-second.ensures.next c.in_ok-inside.ensures.ok c.in_ok-inside.ensures.next f) c.in_attribute.ensures.out

pub returns-clause-ok : goal.returns-clause-ok
returns-clause-ok c = map_ok c.in_attribute.result _ _ (λ t h. attribute_at _ _ _ _ _ _ c.requires.ends c.requires.begins c.in_ok-second.ensures.ok c.in_ok-second.ensures.next c.in_ok-inside.ensures.ok c.in_ok-inside.ensures.next h) c.in_attribute.ensures.ok
