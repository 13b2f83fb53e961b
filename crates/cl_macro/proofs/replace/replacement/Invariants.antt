use Rattle.std.proofs.Common.{◌≡◌, [], drop}
use Rattle.cl_macro.specs.Replacements.{replacement}
use Rattle.cl_macro.proofs.replace.replacement.Given as goal

abbrev pub invariant-loop-item : goal.invariant-loop-item
invariant-loop-item l = replacement l.place l.hidden l.all (drop l.item-index l.items) ≡ replacement l.place l.hidden [] l.items
