use Rattle.std.proofs.Common.{eqb, refl, ◌∙◌, rules, tests}
use Rattle.std.proofs.lemmas.Iterator.{YieldsList-from_slice}
use Rattle.std.proofs.lemmas.Iterator.Search.{position_from_yields_List}
use Rattle.launch_text.proofs.Places.{place_found}
use Rattle.launch_text.proofs.line.line_end.Goals as goal

pub returns-clause-place : goal.returns-clause-place
returns-clause-place c =
    c.unwrap_or.ensures ∙ place_found (λ b. eqb b 10) c.args.text.now c.position.result _ refl (position_from_yields_List (λ b. eqb b 10) _ _ c.position.result c.position.ensures.ran (YieldsList-from_slice c.args.text.now cc) (λ x b q k. search (rules, tests)))
