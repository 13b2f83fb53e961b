use Rattle.cl_parse.proofs.AttributeSteps.{mark_within, read_within}
use Rattle.std.proofs.Common.{refl, ◌∙◌, ap}
use Rattle.std.specs.Prelude.{◌&&◌}
use Rattle.std.proofs.lemmas.Result.{err_from_is_err_and}
use Rattle.cl_parse.proofs.Typedefs.{typedef_at, typedef_word_refused, typedef_type_refused, typedef_name_refused, typedef_end_refused}
use Rattle.cl_parse.proofs.file_scope.typedef.Goals as goal

pub returns-in_err-words-clause-out : goal.returns-in_err-words-clause-out
returns-in_err-words-clause-out c =
    let p = err_from_is_err_and c.from_residual-in_err-words.result c.from_residual-in_err-words.ensures.1 in
    rw (p.1, p.2) (typedef_type_refused _ _ _ _ c.requires.ends c.in_ok-inside.ensures.next c.in_ok-inside.ensures.ok c.in_err-words.ensures.out.out c.in_err-words.ensures.out.barred)

pub returns-in_err-name-clause-out : goal.returns-in_err-name-clause-out
returns-in_err-name-clause-out c =
    let p = err_from_is_err_and c.from_residual-in_err-name.result c.from_residual-in_err-name.ensures.1 in
    rw (p.1, p.2) (typedef_name_refused _ _ _ _ _ _ c.requires.ends c.in_ok-inside.ensures.next c.in_ok-inside.ensures.ok c.in_ok-words.ensures.ok.read c.in_ok-words.ensures.ok.none c.in_err-name.ensures.out)

pub returns-in_err-next-clause-out : goal.returns-in_err-next-clause-out
returns-in_err-next-clause-out c =
    let p = err_from_is_err_and c.from_residual-in_err-next.result c.from_residual-in_err-next.ensures.1 in
    rw (p.1, p.2) (typedef_end_refused _ _ _ _ _ _ _ c.requires.ends c.in_ok-inside.ensures.next c.in_ok-inside.ensures.ok c.in_ok-words.ensures.ok.read c.in_ok-words.ensures.ok.none c.in_ok-name.ensures.ok.read c.in_err-next.ensures.out)

pub returns-clause-ok : goal.returns-clause-ok
returns-clause-ok c = typedef_at _ _ _ _ _ _ _ _ _ _ c.requires.ends c.in_ok-inside.ensures.next c.in_ok-next.ensures.next (c.both-vector.ensures ∙ ap (λ z. c.in_ok-words.words.vector && z) c.is_plain.ensures) c.in_ok-inside.ensures.ok c.in_ok-words.ensures.ok.read c.in_ok-words.ensures.ok.none c.in_ok-words.ensures.ok.tree c.in_ok-name.ensures.ok.read c.in_ok-name.ensures.ok.forth c.in_ok-name.ensures.ok.tree c.in_ok-next.ensures.ok

pub returns-in_err-inside-clause-out : goal.returns-in_err-inside-clause-out
returns-in_err-inside-clause-out c =
    let p = err_from_is_err_and c.from_residual.result c.from_residual.ensures.1 in
    rw (p.1, p.2) (typedef_word_refused _ _ _ c.requires.begins c.in_err-inside.ensures.out)

pub spec-requires-clause-within : goal.spec-requires-clause-within
spec-requires-clause-within c = mark_within _ _ _ _ c.requires.ends c.in_ok-inside.ensures.ok c.in_ok-inside.ensures.next refl

pub declor-requires-clause-within : goal.declor-requires-clause-within
declor-requires-clause-within c = read_within _ _ _ _ c.in_ok-words.ensures.ok.read

pub expect-requires-2-clause-within : goal.expect-requires-2-clause-within
expect-requires-2-clause-within c = read_within _ _ _ _ c.in_ok-name.ensures.ok.read
