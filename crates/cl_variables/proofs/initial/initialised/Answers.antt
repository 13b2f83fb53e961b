use Rattle.std.proofs.Common.{sym, ◌∙◌, subst}
use Rattle.cl_variables.specs.Answers.{InitialIs}
use Rattle.cl_variables.proofs.Variables.{initial_none}
use Rattle.cl_variables.proofs.initial.initialised.Goals as goal

pub returns-in-None-clause-ok : goal.returns-in-None-clause-ok
returns-in-None-clause-ok c =
    subst (λ i. InitialIs c.args.types.now c.args.constant c.args.names.now i c.args.sketch.now c.args.ty c.args.names.now c.untold.result) (sym c.in-None.is)
    (initial_none c.args.types.now c.args.constant c.args.names.now c.args.sketch.now c.args.ty c.untold.result c.requires.known c.untold.ensures.tree c.untold.ensures.count (c.untold.ensures.tally ∙ c.clean.ensures))
