use Rattle.std.proofs.Common.{◌≡◌, take}
use Rattle.run_machine.proofs.begin.copies.Given as goal

abbrev pub invariant-loop-buffer : goal.invariant-loop-buffer
invariant-loop-buffer l = l.copies.items ≡ take l.buffer-index l.fn.buffers
