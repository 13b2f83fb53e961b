use Rattle.std.proofs.lemmas.Option.{MatchOption-at_none, MatchOption-at_some}
use Rattle.std.proofs.lemmas.Result.{err_from_is_err_and}
use Rattle.cl_parse_expr.proofs.Bases.{word_base_read, word_base_tree, word_base_none, struct_barred, no_vector_struct, integer_refused, integer_barred, integer_base_read, integer_base_tree, integer_base_none}
use Rattle.cl_parse_expr.proofs.reader.Reader.base.Goals as goal

pub returns-in_err-base-clause-barred : goal.returns-in_err-base-clause-barred
returns-in_err-base-clause-barred c =
    let p = err_from_is_err_and c.from_residual.result c.from_residual.ensures.1 in
    rw (p.1, p.2) (struct_barred c.args.self.now c.args.at _ c.if-is_at.ensures.stands c.in_err-base.ensures.out)

pub returns-then-is_at-clause-none : goal.returns-then-is_at-clause-none
returns-then-is_at-clause-none c = no_vector_struct c.args.self.now c.args.at _ c.if-is_at.ensures.stands c.in_ok-base.ensures.read

pub returns-in-Some-clause-read : goal.returns-in-Some-clause-read
returns-in-Some-clause-read c = word_base_read c.args.self.now c.args.at c.in-Some.word.vector c.in-Some.word.base c.requires.ends (MatchOption-at_some _ _ _ c.in-Some.is c.in_ok-word.ensures)

pub returns-in-Some-clause-tree : goal.returns-in-Some-clause-tree
returns-in-Some-clause-tree c = word_base_tree c.args.self.now c.args.at c.in-Some.word.vector c.in-Some.word.base (MatchOption-at_some _ _ _ c.in-Some.is c.in_ok-word.ensures)

pub returns-in-Some-clause-none : goal.returns-in-Some-clause-none
returns-in-Some-clause-none c = word_base_none c.args.self.now c.args.at c.in-Some.word.vector c.in-Some.word.base c.requires.ends (MatchOption-at_some _ _ _ c.in-Some.is c.in_ok-word.ensures)

pub returns-in_err-base-2-clause-barred : goal.returns-in_err-base-2-clause-barred
returns-in_err-base-2-clause-barred c =
    let p = err_from_is_err_and c.from_residual-in_err-base-2.result c.from_residual-in_err-base-2.ensures.1 in
    rw (p.1, p.2) (integer_barred c.args.self.now c.args.at _ (MatchOption-at_none _ _ c.in_default.is c.in_ok-word.ensures) c.if-is_at.ensures.stands c.in_err-base-2.ensures.out)

pub returns-in_err-base-2-clause-out : goal.returns-in_err-base-2-clause-out
returns-in_err-base-2-clause-out c =
    let p = err_from_is_err_and c.from_residual-in_err-base-2.result c.from_residual-in_err-base-2.ensures.1 in
    rw (p.1, p.2) (integer_refused c.args.self.now c.args.at _ (MatchOption-at_none _ _ c.in_default.is c.in_ok-word.ensures) c.if-is_at.ensures.stands c.in_err-base-2.ensures.out)

pub returns-clause-read : goal.returns-clause-read
returns-clause-read c = integer_base_read c.args.self.now c.args.at _ (MatchOption-at_none _ _ c.in_default.is c.in_ok-word.ensures) c.if-is_at.ensures.stands c.in_ok-base-2.ensures.read

pub returns-clause-tree : goal.returns-clause-tree
returns-clause-tree c = integer_base_tree c.args.self.now c.args.at _ _ c.in_ok-base-2.ensures.tree

pub returns-clause-none : goal.returns-clause-none
returns-clause-none c = integer_base_none c.args.self.now c.args.at _ (MatchOption-at_none _ _ c.in_default.is c.in_ok-word.ensures) c.if-is_at.ensures.stands c.in_ok-base-2.ensures.read
