-- The least argument that is given a buffer.
use Rattle.std.proofs.Common.{◌≡◌, ℕ, ◌≤◌, ◌<◌, List, Option, Some, get_or, Contains}
use Rattle.launch_text.specs.declared.launch.ArgKind.TheVariants.{Buffer}
use Rattle.launch_text.specs.declared.launch.ArgLine.{ArgLine}

abbrev pub line : ℕ → ℕ → ArgLine
line file n = record { ordinal = n; kind = Buffer file }

pub record IsAtMost (found : Option ℕ) (n : ℕ) : Type 0 where
  pub least : ℕ
  pub found_is : found ≡ Some least
  pub low : least ≤ n

-- Of the first arguments: the least that is given the buffer, if one is.
pub record LeastSoFar (arguments : List ArgLine) (file i : ℕ) (found : Option ℕ) : Type 0 where
  pub each : (k n : ℕ) → k < i → get_or arguments k (line file n) ≡ line file n → IsAtMost found n
  pub there : (n : ℕ) → found ≡ Some n → Contains arguments (line file n)
