use Rattle.std.proofs.Common.{sym, ◌∙◌, drop, arith}
use Rattle.std.proofs.lemmas.List.{at_drop_all}
use Rattle.cl_rules.specs.Calls.{some_no_value}
use Rattle.cl_rules.proofs.Arguments.{no_value_left}
use Rattle.cl_rules.proofs.call.some_no_value.Goals as goal

pub returns-then-i-targets : goal.returns-then-i-targets
returns-then-i-targets c =
    let os = drop c.loop-i.i c.args.os.now in
    let h = c.if-i-targets.true in
    let left = at_drop_all (some_no_value os) c.args.targets.now c.loop-i.i (omega (arith, h)) in
    sym (c.loop-i.invariant ∙ left ∙ no_value_left os)
