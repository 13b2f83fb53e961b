use Rattle.std.proofs.Common.{◌≡◌, length}
use Rattle.std.specs.List.{list_any}
use Rattle.launch_text.specs.Rules.{gives_other_elements}
use Rattle.vk_bind.specs.Answers.{parameter_from, parameters_from}
use Rattle.vk_bind.proofs.rules.are_other_elements.Given as goal

abbrev pub invariant-loop-rest : goal.invariant-loop-rest
invariant-loop-rest l = list_any (gives_other_elements (parameters_from l.fn.parameters) (parameter_from l.fn.parameter) l.fn.file) l.rest ≡ list_any (gives_other_elements (parameters_from l.fn.parameters) (parameter_from l.fn.parameter) l.fn.file) l.fn.args

abbrev pub decreases-loop-rest : goal.decreases-loop-rest
decreases-loop-rest l = length l.rest
