use Rattle.std.proofs.Common.{◌≡◌, [], drop}
use Rattle.cl_macro.specs.Replacements.{substituted}
use Rattle.cl_macro.proofs.replace.substitute.Given as goal

abbrev pub invariant-loop-token : goal.invariant-loop-token
invariant-loop-token l = substituted l.params l.args l.all (drop l.token-index l.body) ≡ substituted l.params l.args [] l.body
