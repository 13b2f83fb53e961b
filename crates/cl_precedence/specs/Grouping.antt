-- How a row of operands with operators between them groups (C99 section 6.5: the order of its subsections is the order
-- of binding, and binary operators of one level group to the left).
use Rattle.std.specs.Prelude.{◌≡◌, ℕ, ◌≤◌, ◌<◌, List, [], ◌∷◌, ◌++◌}

-- Each operator of these binds at least as tight as a level; a greater level binds tighter.
abbrev pub AllAtLeast : {Op Node : Type 0} → (Op → ℕ) → ℕ → List (Op × Node) → Type 0
AllAtLeast level l [] = Unit {0}
AllAtLeast level l (x ∷ xs) = (l ≤ level x.0) × AllAtLeast level l xs

-- Each operator of these binds tighter than a level.
abbrev pub AllAbove : {Op Node : Type 0} → (Op → ℕ) → ℕ → List (Op × Node) → Type 0
AllAbove level l [] = Unit {0}
AllAbove level l (x ∷ xs) = (l < level x.0) × AllAbove level l xs

-- The first operand and the operators behind it, each with its right operand, group to a tree: the operand alone, or a
-- tree of an operator and the trees of its two sides, where those to the left of it bind at least as tight, and those
-- to the right tighter. `Joins op left right tree` says that the tree is that of an operator and its operands.
pub data Groups {Op Node : Type 0} (level : Op → ℕ) (Joins : Op → Node → Node → Node → Type 0) : Node → List (Op × Node) → Node → Type 0 where
  alone : (a : Node) → Groups level Joins a [] a
  joined : (first : Node) (before : List (Op × Node)) (op : Op) (next : Node) (after : List (Op × Node)) (left right tree : Node)
      → AllAtLeast level (level op) before → AllAbove level (level op) after
      → Groups level Joins first before left → Groups level Joins next after right → Joins op left right tree
      → Groups level Joins first (before ++ (op, next) ∷ after) tree

-- Operands that an operator joins have a tree.
pub record JoinsSome {Op Node : Type 0} (Joins : Op → Node → Node → Node → Type 0) : Type 0 where
  pub some : (op : Op) (left right : Node) → (tree : Node) × Joins op left right tree

-- They have at most one.
pub record JoinsOne {Op Node : Type 0} (Joins : Op → Node → Node → Node → Type 0) : Type 0 where
  pub one : (op : Op) (left right a b : Node) → Joins op left right a → Joins op left right b → a ≡ b

-- Some tree is a row's grouping.
abbrev pub HasGrouping : {Op Node : Type 0} → (Op → ℕ) → (Op → Node → Node → Node → Type 0) → Node → List (Op × Node) → Type 0
HasGrouping {Op} {Node} level Joins first row = (tree : Node) × Groups level Joins first row tree

-- Each row has a grouping where operands have a tree, and at most one where they have at most one.
pub record GroupsOnce {Op Node : Type 0} (level : Op → ℕ) (Joins : Op → Node → Node → Node → Type 0) : Type 0 where
  pub some : JoinsSome Joins → (first : Node) (row : List (Op × Node)) → HasGrouping level Joins first row
  pub one : JoinsOne Joins → (first : Node) (row : List (Op × Node)) (a b : Node) → Groups level Joins first row a → Groups level Joins first row b → a ≡ b

-- A row of what is seen of trees.
abbrev pub viewed : {Op Tree Node : Type 0} → (Tree → Node) → List (Op × Tree) → List (Op × Node)
viewed view [] = []
viewed view (x ∷ xs) = (x.0, view x.1) ∷ viewed view xs
