-- The trees that wait for an operator's right operand while a row is read, each with its operator, the last one last.
use Rattle.std.specs.Prelude.{◌≡◌, ℕ, ◌≤◌, ◌<◌, List, [], ◌∷◌, ◌++◌}
use Rattle.cl_precedence.specs.Grouping.{AllAtLeast, AllAbove, Groups}

-- The last that waits has an operator that binds looser than a level.
pub record IsLoose {Op Node : Type 0} (level : Op → ℕ) (waiting : List (Node × Op)) (l : ℕ) : Type 0 where
  pub loose : (front : List (Node × Op)) (last : Node × Op) → waiting ≡ front ++ last ∷ [] → level last.1 < l

-- A row that was read is what waits, and behind it a part of the row, which begins with this operand.
pub data Stands {Op Node : Type 0} (level : Op → ℕ) (Joins : Op → Node → Node → Node → Type 0) (first : Node) : List (Op × Node) → List (Node × Op) → Node → List (Op × Node) → Type 0 where
  bottom : (part : List (Op × Node)) → Stands level Joins first part [] first part
  above : (read : List (Op × Node)) (waiting : List (Node × Op)) (start : Node) (before : List (Op × Node)) (left : Node) (op : Op) (next : Node) (part : List (Op × Node)) (whole : List (Op × Node)) (all : List (Node × Op))
      → Stands level Joins first read waiting start before → Groups level Joins start before left
      → AllAtLeast level (level op) before → IsLoose level waiting (level op)
      → whole ≡ read ++ (op, next) ∷ part → all ≡ waiting ++ (left, op) ∷ []
      → Stands level Joins first whole all next part

-- What was read of a row, with the tree since the last that waits: its operators bind at least as tight as a level, and
-- tighter than the last that waits.
pub record Held {Op Node : Type 0} (level : Op → ℕ) (Joins : Op → Node → Node → Node → Type 0) (first : Node) (read : List (Op × Node)) (waiting : List (Node × Op)) (here : Node) (l : ℕ) : Type 0 where
  pub start : Node
  pub part : List (Op × Node)
  pub stands : Stands level Joins first read waiting start part
  pub groups : Groups level Joins start part here
  pub least : AllAtLeast level l part
  pub tighter : (front : List (Node × Op)) (last : Node × Op) → waiting ≡ front ++ last ∷ [] → AllAbove level (level last.1) part

-- What was held is held after some were closed.
pub record Keeps {Op Node : Type 0} (level : Op → ℕ) (Joins : Op → Node → Node → Node → Type 0) (old : List (Node × Op)) (right : Node) (new : List (Node × Op)) (tree : Node) (l : ℕ) : Type 0 where
  pub keeps : (first : Node) (read : List (Op × Node)) → Held level Joins first read old right l → Held level Joins first read new tree l

-- None that waits last binds so tight, and they stay.
pub record LeavesLoose {Op Node : Type 0} (level : Op → ℕ) (old new : List (Node × Op)) (l : ℕ) : Type 0 where
  pub same : new ≡ old
  pub loose : IsLoose level old l

-- The last that waits binds so tight, and was taken.
pub record TakesLast {Op Node : Type 0} (level : Op → ℕ) (old new : List (Node × Op)) (left : Node) (op : Op) (l : ℕ) : Type 0 where
  pub taken : old ≡ new ++ (left, op) ∷ []
  pub binds : l ≤ level op
