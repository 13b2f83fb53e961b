use Rattle.cl_parse.proofs.Parameters.{no_params_at, void_at, params_at, params_refused, map_ok, map_err}
use Rattle.cl_parse.proofs.params.params.Goals as goal

pub returns-then-is_at-clause-ok : goal.returns-then-is_at-clause-ok
returns-then-is_at-clause-ok c = rw c.new.ensures.items (no_params_at _ _ c.if-is_at.ensures.stands)

pub returns-then-is_void_alone-clause-ok : goal.returns-then-is_void_alone-clause-ok
returns-then-is_void_alone-clause-ok c = rw (c.new-then-is_void_alone.ensures.items) (void_at _ _ c.requires.ends c.if-is_void_alone.ensures)

pub returns-else-is_void_alone-clause-ok : goal.returns-else-is_void_alone-clause-ok
returns-else-is_void_alone-clause-ok c = map_ok c.some_params.result _ _ (λ t h. params_at _ _ _ _ _ c.if-is_at.ensures.stands c.if-is_void_alone.ensures h) c.some_params.ensures.ok

pub returns-else-is_void_alone-clause-out : goal.returns-else-is_void_alone-clause-out
returns-else-is_void_alone-clause-out c = map_err c.some_params.result _ _ (λ s h. params_refused _ _ s c.if-is_at.ensures.stands c.if-is_void_alone.ensures h) c.some_params.ensures.out
