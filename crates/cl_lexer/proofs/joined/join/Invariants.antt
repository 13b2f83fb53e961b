use Rattle.std.proofs.Common.{◌≡◌, ◌+◌, ◌≤◌, take, ◌==◌}
use Rattle.std.specs.Prelude.{count_by}
use Rattle.clv_place.specs.Places.{IsLineStart}
use Rattle.cl_lexer.proofs.Joining.{Joins}
use Rattle.cl_lexer.proofs.joined.join.Given as goal

abbrev pub invariant-loop-at : goal.invariant-loop-at
invariant-loop-at l =
    record {
      line : l.line ≡ 1 + count_by (λ b. b == 10) (take l.at l.text);
      bound : l.line ≤ l.at + 1;
      start : IsLineStart l.text l.at l.start;
      joins : Joins l.text l.at l.joining l.bytes.items l.places.items;
    }
