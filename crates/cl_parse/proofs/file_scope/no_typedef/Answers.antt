use Rattle.cl_parse.proofs.AttributeSteps.{read_within}
use Rattle.std.proofs.lemmas.Result.{err_from_is_err_and}
use Rattle.cl_parse.proofs.Externals.{external_at, words_refused, type_refused, behind_refused}
use Rattle.cl_parse.proofs.file_scope.no_typedef.Goals as goal

pub returns-in_err-words-clause-out : goal.returns-in_err-words-clause-out
returns-in_err-words-clause-out c =
    let p = err_from_is_err_and c.from_residual.result c.from_residual.ensures.1 in
    rw (p.1, p.2) (words_refused _ _ _ c.requires.other c.in_err-words.ensures.out)

pub returns-in_err-read-clause-out : goal.returns-in_err-read-clause-out
returns-in_err-read-clause-out c =
    let p = err_from_is_err_and c.from_residual-in_err-read.result c.from_residual-in_err-read.ensures.1 in
    rw (p.1, p.2) (type_refused _ _ _ _ _ _ _ c.requires.other c.in_ok-words.ensures.ok c.in_err-read.ensures.out.out c.in_err-read.ensures.out.barred)

pub returns-in_err-tree-clause-out : goal.returns-in_err-tree-clause-out
returns-in_err-tree-clause-out c =
    let p = err_from_is_err_and c.from_residual-in_err-tree.result c.from_residual-in_err-tree.ensures.1 in
    rw (p.1, p.2) (behind_refused _ _ _ _ _ _ _ _ _ c.requires.other c.in_ok-words.ensures.ok c.in_ok-read.ensures.ok.read c.in_ok-read.ensures.ok.none c.in_err-tree.ensures.out)

pub returns-clause-ok : goal.returns-clause-ok
returns-clause-ok c = external_at _ _ _ _ _ _ _ _ _ _ _ c.requires.other c.in_ok-words.ensures.ok c.in_ok-read.ensures.ok.forth c.in_ok-read.ensures.ok.read c.in_ok-read.ensures.ok.none c.in_ok-read.ensures.ok.tree c.in_ok-tree.ensures.ok

pub spec-requires-clause-within : goal.spec-requires-clause-within
spec-requires-clause-within c = let a = c.in_ok-words.ensures.ok in let g = a.reads in g.within

pub behind_type-requires-clause-within : goal.behind_type-requires-clause-within
behind_type-requires-clause-within c = read_within _ _ _ _ c.in_ok-read.ensures.ok.read
