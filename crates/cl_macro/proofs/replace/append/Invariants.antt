use Rattle.std.proofs.Common.{◌≡◌, ◌++◌, take}
use Rattle.cl_macro.proofs.replace.append.Given as goal

abbrev pub invariant-loop-item : goal.invariant-loop-item
invariant-loop-item l = l.all ≡ l.fn.front ++ take l.item-index l.items
