use Rattle.std.proofs.Common.{sym, ◌∙◌}
use Rattle.std.proofs.lemmas.Bool.{eqb-false}
use Rattle.cl_meaning.proofs.Applications.{takes_true}
use Rattle.cl_meaning.proofs.applied.takes.Goals as goal

pub returns-then-nss-count_of : goal.returns-then-nss-count_of
returns-then-nss-count_of c =
    takes_true c.args.function c.args.width c.args.nss.now c.takes_width.result (eqb-false _ 0 (sym c.is_empty.ensures ∙ c.if-is_empty.false)) (c.if-nss-count_of.true ∙ c.count_of.ensures) c.takes_width.ensures
