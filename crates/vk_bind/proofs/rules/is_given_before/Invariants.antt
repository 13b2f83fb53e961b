use Rattle.std.proofs.Common.{◌≡◌, length}
use Rattle.std.specs.List.{list_any}
use Rattle.launch_text.specs.Rules.{gives_before}
use Rattle.vk_bind.proofs.rules.is_given_before.Given as goal

abbrev pub invariant-loop-rest : goal.invariant-loop-rest
invariant-loop-rest l = list_any (gives_before l.fn.file l.fn.ordinal) l.rest ≡ list_any (gives_before l.fn.file l.fn.ordinal) l.fn.args

abbrev pub decreases-loop-rest : goal.decreases-loop-rest
decreases-loop-rest l = length l.rest
