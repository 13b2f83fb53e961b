use Rattle.clv_engine.proofs.DecidedTexts.{in_out, one_offence}
use Rattle.clv_engine.proofs.front.one_verdict.Goals as goal

pub returns : goal.returns
returns c = record {
  no_both = in_out c.one_verdict.ensures c.one_verdict-2.ensures c.one_offence.ensures c.one_tree.ensures c.one_verdict-3.ensures.no_both c.one_verdict-3.ensures.one;
  one = one_offence c.one_verdict.ensures c.one_verdict-2.ensures c.one_offence.ensures c.one_tree.ensures c.one_verdict-3.ensures.no_both c.one_verdict-3.ensures.one;
}
