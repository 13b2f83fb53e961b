use Rattle.launch_text.proofs.LineBreaks.{first_line_is, last_line_is}
use Rattle.launch_text.proofs.line.first_line.Goals as goal

pub returns-in-Some-clause-lines : goal.returns-in-Some-clause-lines
returns-in-Some-clause-lines c = first_line_is c.args.text.now _ _ _ c.line_end-end.result _ c.requires c.line_end-end.ensures.place c.split_at.ensures.front c.split_at.ensures.back c.in-Some.ensures.cases.0

pub returns-in-None-clause-lines : goal.returns-in-None-clause-lines
returns-in-None-clause-lines c = last_line_is c.args.text.now _ _ c.line_end-end.result c.requires c.line_end-end.ensures.place c.split_at.ensures.front c.split_at.ensures.back c.in-None.ensures.cases
