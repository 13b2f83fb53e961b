use Rattle.std.proofs.Common.{◌∙◌, ap}
use Rattle.std.specs.Prelude.{◌&&◌}
use Rattle.std.proofs.lemmas.Result.{err_from_is_err_and}
use Rattle.cl_parse.proofs.FWords.{no_words, more_words, words_done, words_stop}
use Rattle.cl_parse.proofs.word.words.Goals as goal

pub loop-alloc-init : goal.loop-alloc-init
loop-alloc-init c = rw c.new-list.ensures.items (no_words _ _ c.requires.within)

pub returns-in_err-another-clause-out : goal.returns-in_err-another-clause-out
returns-in_err-another-clause-out c =
    let p = err_from_is_err_and c.from_residual.result c.from_residual.ensures.1 in
    rw (p.1, p.2) (words_stop _ _ _ _ _ _ _ c.loop-alloc.invariant c.in_err-another.ensures.out)

pub loop-alloc-preserved : goal.loop-alloc-preserved
loop-alloc-preserved c = rw c.in_ok-push.ensures.items (more_words _ _ _ _ _ _ _ _ _ c.loop-alloc.invariant c.in_ok-another.ensures.ok (c.both-variables.ensures ∙ ap (λ z. c.loop-alloc.lone && z) c.is_static.ensures))

pub returns-clause-ok : goal.returns-clause-ok
returns-clause-ok c = words_done _ _ _ _ _ _ c.loop-alloc.invariant c.loop-alloc-test.ensures
