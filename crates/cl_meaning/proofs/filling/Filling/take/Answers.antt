use Rattle.std.proofs.Common.{sym, ◌∙◌, arith}
use Rattle.std.proofs.lemmas.Bool.{eqb-true}
use Rattle.cl_meaning.proofs.Fillings.{no_value_taken}
use Rattle.cl_meaning.proofs.filling.Filling.take.Goals as goal

pub returns-then-is_empty-2 : goal.returns-then-is_empty-2
returns-then-is_empty-2 c =
    let s = c.args.self.now in
    no_value_taken s.filled.items s.types.now s.values.now (omega (arith, eqb-true _ 0 (sym c.is_empty-2.ensures ∙ c.if-is_empty-2.true)))
