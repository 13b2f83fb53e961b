use Rattle.cl_renaming.proofs.OneVerdict.{never_both, never_typed, one_offence, renamed_tree, renamed_never_both, renamed_never_typed, renamed_offence}
use Rattle.cl_renaming.proofs.law.one_verdict.Goals as goal

pub returns-clause-no_offence : goal.returns-clause-no_offence
returns-clause-no_offence c = never_both

pub returns-clause-no_tree : goal.returns-clause-no_tree
returns-clause-no_tree c = never_typed

pub returns-clause-offence : goal.returns-clause-offence
returns-clause-offence c = one_offence

pub returns-clause-renamed_tree : goal.returns-clause-renamed_tree
returns-clause-renamed_tree c = renamed_tree

pub returns-clause-renamed_no_offence : goal.returns-clause-renamed_no_offence
returns-clause-renamed_no_offence c = renamed_never_both

pub returns-clause-renamed_no_tree : goal.returns-clause-renamed_no_tree
returns-clause-renamed_no_tree c = renamed_never_typed

pub returns-clause-renamed_offence : goal.returns-clause-renamed_offence
returns-clause-renamed_offence c = renamed_offence
