use Rattle.cl_variables.proofs.filling.alone.Goals as goal

pub returns-clause-ok : goal.returns-clause-ok
returns-clause-ok c = record { valued = c.in_ok-_valued._valued; is = c.in_ok-_valued.ensures.ok }
