use Rattle.std.proofs.Common.{◌≡◌, ◌+◌, ◌≤◌, take, ◌==◌}
use Rattle.std.specs.Prelude.{count_by}
use Rattle.clv_place.specs.Places.{IsLineStart}
use Rattle.clv_place.proofs.place.place_at.Given as goal

abbrev pub invariant-loop-i : goal.invariant-loop-i
invariant-loop-i l =
    record {
      line : l.line ≡ 1 + count_by (λ b. b == 10) (take l.i l.text);
      bound : l.line ≤ l.i + 1;
      start : IsLineStart l.text l.i l.start;
    }
