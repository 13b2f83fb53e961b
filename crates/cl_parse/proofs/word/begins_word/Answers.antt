use Rattle.cl_parse.proofs.FWords.{begins_by}
use Rattle.cl_parse.proofs.word.begins_word.Goals as goal

pub returns : goal.returns
returns c = begins_by _ _ _ _ c.peek.ensures.stands c.is_word.ensures
