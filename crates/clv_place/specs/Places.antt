-- Lines and columns of a text.
use Rattle.std.specs.Prelude.{◌≡◌, ◌≢◌, ℕ, suc, ◌+◌, ◌<◌, ◌≤◌, List, take, count_by, ◌==◌, slice_index}

-- Where the line begins that the byte `at` stands in: after the last LF before it, or at 0.
pub record IsLineStart (text : List ℕ) (at start : ℕ) : Type 0 where
  pub within : start ≤ at
  pub after : (k : ℕ) → suc k ≡ start → slice_index text k ≡ 10
  pub inside : (k : ℕ) → start ≤ k → k < at → slice_index text k ≢ 10

-- The line is one more than the LFs before; the column counts bytes from the line's start.
pub record IsAt (text : List ℕ) (at line col : ℕ) : Type 0 where
  pub lines : line ≡ 1 + count_by (λ b. b == 10) (take at text)
  pub column : (start : ℕ) × IsLineStart text at start × (col + start ≡ at + 1)
