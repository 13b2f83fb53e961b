use Rattle.std.proofs.Common.{◌≡◌, take}
use Rattle.std.specs.Prelude.{map}
use Rattle.clv_engine.specs.FirstForm.{kinds_of}
use Rattle.clv_engine.specs.Forming.{token_of}
use Rattle.clv_engine.proofs.form.starts_with.Given as goal

abbrev pub invariant-loop-i : goal.invariant-loop-i
invariant-loop-i l = take l.i (kinds_of l.tokens) ≡ map token_of (take l.i l.pieces)
