use Rattle.std.proofs.Common.{refl, arith, rules}
use Rattle.std.proofs.lemmas.Result.{err_from_is_err_and}
use Rattle.cl_parse.specs.declared.unit.Progress.{Progress}
use Rattle.cl_parse.proofs.UnitProgress.{all_read, begins_by, ends_by, first_refused, later_refused}
use Rattle.cl_parse.proofs.unit.unit.Goals as goal

pub go_on-requires-clause-ends : goal.go_on-requires-clause-ends
go_on-requires-clause-ends c = ends_by c.new.result c.args.tokens.now c.args.end c.args.lexemes.now c.requires

pub go_on-requires-clause-read : goal.go_on-requires-clause-read
go_on-requires-clause-read c =
    let start : Progress = record { names = c.new.result; externals = c.new-2.result; at = 0 } in
    begins_by c.args.tokens.now c.args.end c.args.lexemes.now start c.requires c.new.ensures c.new-2.ensures refl

pub returns-in_err-go_on-clause-out : goal.returns-in_err-go_on-clause-out
returns-in_err-go_on-clause-out c =
    let start : Progress = record { names = c.new.result; externals = c.new-2.result; at = 0 } in
    let p = err_from_is_err_and c.from_residual.result c.from_residual.ensures.1 in
    rw (p.1, p.2) (first_refused c.args.tokens.now c.args.end c.args.lexemes.now start _ c.requires (begins_by c.args.tokens.now c.args.end c.args.lexemes.now start c.requires c.new.ensures c.new-2.ensures refl) refl c.in_err-go_on.ensures.out)

pub loop-progress-init : goal.loop-progress-init
loop-progress-init c = record { read = c.in_ok-go_on.ensures.read; ends = c.in_ok-go_on.ensures.ends }

pub go_on-requires-in-loop-progress-clause-ends : goal.go_on-requires-in-loop-progress-clause-ends
go_on-requires-in-loop-progress-clause-ends c = ends_by c.loop-progress.progress.names c.args.tokens.now c.args.end c.args.lexemes.now c.requires

pub go_on-requires-in-loop-progress-clause-read : goal.go_on-requires-in-loop-progress-clause-read
go_on-requires-in-loop-progress-clause-read c = c.loop-progress.invariant.read

pub loop-progress-smaller : goal.loop-progress-smaller
loop-progress-smaller c = let h = c.in_ok-go_on-2.ensures.forth in let w = c.in_ok-go_on-2.ensures.read.within in omega (arith, h, w)

pub loop-progress-preserved : goal.loop-progress-preserved
loop-progress-preserved c = record { read = c.in_ok-go_on-2.ensures.read; ends = c.in_ok-go_on-2.ensures.ends }

pub returns-in_err-go_on-2-clause-out : goal.returns-in_err-go_on-2-clause-out
returns-in_err-go_on-2-clause-out c =
    let p = err_from_is_err_and c.from_residual-in_err-go_on-2.result c.from_residual-in_err-go_on-2.ensures.1 in
    let t = c.loop-progress-test.true in
    rw (p.1, p.2) (later_refused c.args.tokens.now c.args.end c.args.lexemes.now c.loop-progress.progress _ c.requires c.loop-progress.invariant.read t (search rules) c.in_err-go_on-2.ensures.out)

pub returns-clause-tree : goal.returns-clause-tree
returns-clause-tree c = let t = c.loop-progress-test.false in all_read c.args.tokens.now c.args.end c.args.lexemes.now c.loop-progress.progress c.requires c.loop-progress.invariant.read c.loop-progress.invariant.ends t
