use Rattle.cl_parse.specs.declared.unit.Progress.{Progress}
use Rattle.cl_parse.proofs.UnitProgress.{declares_new, went_on}
use Rattle.cl_parse.proofs.unit.Progress.go_on.Goals as goal

pub declare-requires : goal.declare-requires
declare-requires c = declares_new c.args.self.now.names c.args.lexemes.now _ _ _ _ c.new.ensures c.in_ok-read.ensures.declares

pub returns-clause-read : goal.returns-clause-read
returns-clause-read c =
    let new : Progress = record { names = c.declare.new.names; externals = c.push.new.self; at = c.in_ok-read.read.next } in
    (went_on c.args.lexemes.now _ c.args.self.now new c.in_ok-read.read.tree c.in_ok-read.read.vector c.new.ensures c.requires.read c.in_ok-read.ensures.ok c.in_ok-read.ensures.declares c.in_ok-read.ensures.tree c.in_ok-declare.ensures c.in_ok-push.ensures.ok).read

pub returns-clause-ends : goal.returns-clause-ends
returns-clause-ends c =
    let new : Progress = record { names = c.declare.new.names; externals = c.push.new.self; at = c.in_ok-read.read.next } in
    (went_on c.args.lexemes.now _ c.args.self.now new c.in_ok-read.read.tree c.in_ok-read.read.vector c.new.ensures c.requires.read c.in_ok-read.ensures.ok c.in_ok-read.ensures.declares c.in_ok-read.ensures.tree c.in_ok-declare.ensures c.in_ok-push.ensures.ok).ends

pub returns-clause-forth : goal.returns-clause-forth
returns-clause-forth c =
    let new : Progress = record { names = c.declare.new.names; externals = c.push.new.self; at = c.in_ok-read.read.next } in
    (went_on c.args.lexemes.now _ c.args.self.now new c.in_ok-read.read.tree c.in_ok-read.read.vector c.new.ensures c.requires.read c.in_ok-read.ensures.ok c.in_ok-read.ensures.declares c.in_ok-read.ensures.tree c.in_ok-declare.ensures c.in_ok-push.ensures.ok).forth
