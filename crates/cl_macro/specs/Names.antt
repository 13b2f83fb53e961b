-- Names as lists of bytes, and lists of names as sets.
use Rattle.std.specs.Prelude.{ℕ, ◌+◌, Bool, true, false, if◌then◌else◌, List, [], ◌∷◌, ◌++◌, Option, Some, None, bytes_eq}

-- a name
abbrev pub Name : Type 0
Name = List ℕ

-- whether a name is among others
abbrev pub has : Name → List Name → Bool
has n [] = false
has n (m ∷ ms) = if bytes_eq m n then true else has n ms

-- those of the second names that are not among the first
abbrev pub without : List Name → List Name → List Name
without ms [] = []
without ms (n ∷ ns) = if has n ms then without ms ns else n ∷ without ms ns

-- these names and those
abbrev pub joined : List Name → List Name → List Name
joined ms ns = ms ++ without ms ns

-- these names and this one
abbrev pub with_name : Name → List Name → List Name
with_name n ms = joined ms (n ∷ [])

-- the names that are among both
abbrev pub common : List Name → List Name → List Name
common [] ns = []
common (m ∷ ms) ns = if has m ns then m ∷ common ms ns else common ms ns

-- where a name stands first among names that are numbered from a number on
abbrev pub index_from : ℕ → Name → List Name → Option ℕ
index_from at n [] = None
index_from at n (m ∷ ms) = if bytes_eq m n then Some at else index_from (at + 1) n ms
