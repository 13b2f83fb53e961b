use Rattle.clv_engine.proofs.Decided.{decided}
use Rattle.clv_engine.proofs.top.clv_top.Goals as goal

pub returns-clause-decided : goal.returns-clause-decided
returns-clause-decided g c = decided c.one_verdict.ensures.no_both _ _ _ _ _ _ c.answer_words.ensures
