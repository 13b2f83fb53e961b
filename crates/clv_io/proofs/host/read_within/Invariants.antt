-- What the reader has lost is the text, and the text is at most a byte too long.
use Rattle.std.proofs.Common.{◌+◌, ◌-◌, ◌≤◌, length}
use Rattle.std.specs.Io.KnownBytes.{Consumes}
use Rattle.clv_io.proofs.host.read_within.Given as goal

abbrev pub invariant-loop-text : goal.invariant-loop-text
invariant-loop-text g l =
    Consumes (g.R.Read.remaining l.initial.reader) (g.R.Read.remaining l.reader) l.text × (length l.text ≤ l.max + 1)

abbrev pub decreases-loop-text : goal.decreases-loop-text
decreases-loop-text g l = l.max + 1 - length l.text
