use Rattle.clv_engine.proofs.Refusals.{read_of, not_built}
use Rattle.clv_engine.proofs.front.first_form.Goals as goal

-- a unit that keeps the typing rules and is no kernel of the form
pub returns-clause-out : goal.returns-clause-out
returns-clause-out c =
    not_built c.args.text.now c.in_ok-tokens.tokens c.in_ok-expanded.expanded c.in_ok-tree.tree c.in_ok-_typed._typed c.not_built.result
    (read_of c.args.text.now c.in_ok-tokens.tokens c.in_ok-expanded.expanded c.in_ok-tokens.ensures c.in_ok-expanded.ensures) c.in_ok-tree.ensures c.in_ok-_typed.ensures.tree
    (rw (c.as_slice.ensures, c.in-None.is) at c.in_ok-kernel.ensures) c.not_built.ensures.code c.not_built.ensures.line c.not_built.ensures.col
