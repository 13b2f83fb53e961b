use Rattle.cl_common.specs.Operators.{fill_part}
use Rattle.cl_meaning.proofs.Fillings.{elements_more}
use Rattle.cl_meaning.proofs.filling.Filling.+filling.Goals as goal

pub elements-loop-element-preserved : goal.elements-loop-element-preserved
elements-loop-element-preserved t c =
    elements_more (fill_part c.args.deep c.args.types.now c.args.elem) c.args.len c.loop-element._element _ _ _ _ _ _ c.loop-element.invariant c.loop-element-test.true c.in_ok-part.ensures
