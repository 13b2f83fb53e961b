use Rattle.cl_meaning.proofs.Applications.{other}
use Rattle.cl_meaning.proofs.applied.applied.Goals as goal

pub returns-in_default : goal.returns-in_default
returns-in_default c =
    other c.args.function c.args.from c.args.to c.args.nss.now c.components-in_default.result c.in_default.not-As c.in_default.not-Any c.in_default.not-All c.components-in_default.ensures
