use Rattle.cl_parse.proofs.AttributeSteps.{read_within}
use Rattle.std.proofs.lemmas.Result.{err_from_is_err_and}
use Rattle.cl_parse.proofs.Externals.{function_behind, function_refused, type_alone_at, type_alone_refused, names_at, names_refused, semicolon_refused}
use Rattle.cl_parse.proofs.file_scope.behind_type.Goals as goal

pub returns-then-only_function-clause-ok : goal.returns-then-only_function-clause-ok
returns-then-only_function-clause-ok c = function_behind _ _ _ _ _ _ _ _ _ _ _ c.if-only_function.ensures.either c.in_ok-called.ensures.ok

pub returns-in_err-called-clause-out : goal.returns-in_err-called-clause-out
returns-in_err-called-clause-out c =
    let p = err_from_is_err_and c.from_residual.result c.from_residual.ensures.1 in
    rw (p.1, p.2) (function_refused _ _ _ _ _ c.requires.within c.if-only_function.ensures.either c.in_err-called.ensures.out)

pub returns-in_err-behind-clause-out : goal.returns-in_err-behind-clause-out
returns-in_err-behind-clause-out c =
    let p = err_from_is_err_and c.from_residual-in_err-behind.result c.from_residual-in_err-behind.ensures.1 in
    rw (p.1, p.2) (type_alone_refused _ _ _ _ _ c.if-only_function.ensures.may c.if-is_type_alone.ensures.may c.if-is_type_alone.ensures.ends c.in_err-behind.ensures.out)

pub returns-then-is_type_alone-clause-ok : goal.returns-then-is_type_alone-clause-ok
returns-then-is_type_alone-clause-ok c = type_alone_at _ _ _ _ _ _ _ c.requires.ends c.if-only_function.ensures.may c.if-is_type_alone.ensures.may c.if-is_type_alone.ensures.ends c.in_ok-behind.ensures.next

pub returns-in_err-items-clause-out : goal.returns-in_err-items-clause-out
returns-in_err-items-clause-out c =
    let p = err_from_is_err_and c.from_residual-in_err-items.result c.from_residual-in_err-items.ensures.1 in
    rw (p.1, p.2) (names_refused _ _ _ _ _ c.if-only_function.ensures.may c.if-only_function.ensures.other c.if-is_type_alone.ensures.other c.in_err-items.ensures.out)

pub returns-in_err-next-clause-out : goal.returns-in_err-next-clause-out
returns-in_err-next-clause-out c =
    let p = err_from_is_err_and c.from_residual-in_err-next.result c.from_residual-in_err-next.ensures.1 in
    rw (p.1, p.2) (semicolon_refused _ _ _ _ _ _ c.if-only_function.ensures.may c.in_ok-items.ensures.ok.forth c.if-only_function.ensures.other c.if-is_type_alone.ensures.other c.in_ok-items.ensures.ok.read c.in_err-next.ensures.out)

pub returns-clause-ok : goal.returns-clause-ok
returns-clause-ok c = names_at _ _ _ _ _ _ _ _ _ c.requires.ends c.if-only_function.ensures.may c.in_ok-next.ensures.next c.in_ok-items.ensures.ok.forth c.if-only_function.ensures.other c.if-is_type_alone.ensures.other c.in_ok-items.ensures.ok.read c.in_ok-items.ensures.ok.tree c.in_ok-next.ensures.ok

pub expect-requires-else-is_type_alone-clause-within : goal.expect-requires-else-is_type_alone-clause-within
expect-requires-else-is_type_alone-clause-within c = let a = c.in_ok-items.ensures.ok in read_within _ _ _ _ a.read
