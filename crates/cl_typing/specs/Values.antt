-- The entries of a map as the numbers that were read.
use Rattle.std.specs.Prelude.{ℕ, List, map}

abbrev pub numbers_in : List (ℕ × Unit {0}) → List ℕ
numbers_in entries = map (λ e. e.0) entries
