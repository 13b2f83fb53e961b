use Rattle.cl_parse.proofs.Parameters.{map_ok}
use Rattle.cl_parse.proofs.file_scope.external.Goals as goal

pub returns-then-is_at-clause-ok : goal.returns-then-is_at-clause-ok
returns-then-is_at-clause-ok c = map_ok c.typedef.result _ _ (λ t h. h.read) c.typedef.ensures.ok

pub returns-then-is_at-clause-declares : goal.returns-then-is_at-clause-declares
returns-then-is_at-clause-declares c = map_ok c.typedef.result _ _ (λ t h. h.declares) c.typedef.ensures.ok

pub returns-then-is_at-clause-tree : goal.returns-then-is_at-clause-tree
returns-then-is_at-clause-tree c = map_ok c.typedef.result _ _ (λ t h. h.means) c.typedef.ensures.ok

pub returns-else-is_at-clause-ok : goal.returns-else-is_at-clause-ok
returns-else-is_at-clause-ok c = map_ok c.no_typedef.result _ _ (λ t h. h.read) c.no_typedef.ensures.ok

pub returns-else-is_at-clause-declares : goal.returns-else-is_at-clause-declares
returns-else-is_at-clause-declares c = map_ok c.no_typedef.result _ _ (λ t h. h.declares) c.no_typedef.ensures.ok

pub returns-else-is_at-clause-tree : goal.returns-else-is_at-clause-tree
returns-else-is_at-clause-tree c = map_ok c.no_typedef.result _ _ (λ t h. h.means) c.no_typedef.ensures.ok
