use Rattle.std.proofs.Common.{refl}
use Rattle.cl_parse_stmt.proofs.Moves.{out_by}
use Rattle.cl_parse_stmt.proofs.Specs.{any_spec_read, any_spec_refused}
use Rattle.cl_parse_stmt.proofs.Statements.{type_item}
use Rattle.cl_parse_stmt.proofs.Chains.{declaration_stop_0, declaration_stop_1, declaration_ok}
use Rattle.cl_parse_stmt.proofs.declaration.declaration.Goals as goal

pub returns-in_err-read-clause-out : goal.returns-in_err-read-clause-out
returns-in_err-read-clause-out c = out_by _ _ _ _ _ c.from_residual.ensures.1 (declaration_stop_0 _ _ c.requires.ends c.requires.begins.terminal c.requires.begins.stands (type_item _ c.requires.begins.is) _ (any_spec_refused _ _ _ c.in_err-read.ensures.out.out c.in_err-read.ensures.out.barred))

pub returns-in_err-items-clause-out : goal.returns-in_err-items-clause-out
returns-in_err-items-clause-out c = out_by _ _ _ _ _ c.from_residual-in_err-items.ensures.1 (declaration_stop_1 _ _ c.requires.ends c.requires.begins.terminal c.requires.begins.stands (type_item _ c.requires.begins.is) _ _ (any_spec_read _ _ _ _ c.in_ok-read.ensures.ok.read c.in_ok-read.ensures.ok.none) c.in_ok-read.ensures.ok.tree _ c.in_err-items.ensures.out)

pub returns-clause-ok : goal.returns-clause-ok
returns-clause-ok c = declaration_ok _ _ c.requires.ends c.requires.begins.terminal c.requires.begins.stands (type_item _ c.requires.begins.is) _ _ (any_spec_read _ _ _ _ c.in_ok-read.ensures.ok.read c.in_ok-read.ensures.ok.none) c.in_ok-read.ensures.ok.tree _ c.in_ok-items.items c.in_ok-items.ensures.ok _ _ c.place-place.ensures (record { at = refl; is = refl })
