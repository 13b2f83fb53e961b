use Rattle.std.proofs.Common.{refl}
use Rattle.cl_parse.proofs.Parameters.{map_ok, map_err}
use Rattle.cl_parse.proofs.FWords.{other_word, word_refused, static_at, kernel_at, last_at}
use Rattle.cl_parse.proofs.word.word.Goals as goal

pub returns-then-is_at-clause-ok : goal.returns-then-is_at-clause-ok
returns-then-is_at-clause-ok c = map_ok c.attribute.result _ _ (λ t h. other_word _ _ _ _ _ c.if-is_at.ensures.stands refl h) c.attribute.ensures.ok

pub returns-then-is_at-clause-out : goal.returns-then-is_at-clause-out
returns-then-is_at-clause-out c = map_err c.attribute.result _ _ (λ s h. word_refused _ _ _ s c.if-is_at.ensures.stands refl h) c.attribute.ensures.out

pub returns-then-is_at-2-clause-ok : goal.returns-then-is_at-2-clause-ok
returns-then-is_at-2-clause-ok c = static_at _ _ c.requires.ends c.if-is_at-2.ensures.stands

pub returns-then-is_at-3-clause-ok : goal.returns-then-is_at-3-clause-ok
returns-then-is_at-3-clause-ok c = kernel_at _ _ c.requires.ends c.if-is_at-3.ensures.stands

pub returns-else-is_at-3-clause-ok : goal.returns-else-is_at-3-clause-ok
returns-else-is_at-3-clause-ok c = last_at _ _ c.requires.ends c.requires.begins c.if-is_at.ensures.stands c.if-is_at-2.ensures.stands c.if-is_at-3.ensures.stands
