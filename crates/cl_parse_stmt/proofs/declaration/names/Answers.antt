use Rattle.std.proofs.Common.{refl, sym, subst}
use Rattle.cl_grammar.specs.StatementSymbols.{BehindSpec}
use Rattle.cl_grammar.specs.Symbols.{S}
use Rattle.cl_parse_stmt.specs.Readings.{Has, NamesTree}
use Rattle.cl_parse_stmt.proofs.Moves.{out_by}
use Rattle.cl_parse_stmt.proofs.Statements.{names_picks}
use Rattle.cl_parse_stmt.proofs.Chains.{names_stop_0, names_stop_1, names_ok, no_names_stop_0, no_names_ok}
use Rattle.cl_parse_stmt.proofs.declaration.names.Goals as goal

pub returns-in_err-next-clause-out : goal.returns-in_err-next-clause-out
returns-in_err-next-clause-out c = out_by _ _ _ _ _ c.from_residual.ensures.1 (no_names_stop_0 _ _ c.requires.ends _ c.if-is_at.ensures.stands refl _ c.in_err-next.ensures.out)

pub returns-then-is_at-clause-ok : goal.returns-then-is_at-clause-ok
returns-then-is_at-clause-ok c = subst (λ z. Has NamesTree (S BehindSpec) c.args.reader.now c.args.at c.in_ok-next.next z) (sym c.new.ensures.items) (no_names_ok _ _ c.requires.ends _ c.if-is_at.ensures.stands refl _ c.in_ok-next.ensures.ok c.in_ok-next.ensures.next)

pub returns-in_err-items-clause-out : goal.returns-in_err-items-clause-out
returns-in_err-items-clause-out c = out_by _ _ _ _ _ c.from_residual-in_err-items.ensures.1 (names_stop_0 _ _ c.requires.ends c.if-is_at.ensures.stands.other c.if-is_at.ensures.stands.stands (names_picks _ c.if-is_at.ensures.stands.differs) _ c.in_err-items.ensures.out)

pub returns-in_err-behind-clause-out : goal.returns-in_err-behind-clause-out
returns-in_err-behind-clause-out c = out_by _ _ _ _ _ c.from_residual-in_err-behind.ensures.1 (names_stop_1 _ _ c.requires.ends c.if-is_at.ensures.stands.other c.if-is_at.ensures.stands.stands (names_picks _ c.if-is_at.ensures.stands.differs) _ _ c.in_ok-items.ensures.ok _ c.in_err-behind.ensures.out)

pub returns-clause-ok : goal.returns-clause-ok
returns-clause-ok c = names_ok _ _ c.requires.ends c.if-is_at.ensures.stands.other c.if-is_at.ensures.stands.stands (names_picks _ c.if-is_at.ensures.stands.differs) _ _ c.in_ok-items.ensures.ok _ c.in_ok-behind.ensures.ok c.in_ok-behind.ensures.next
