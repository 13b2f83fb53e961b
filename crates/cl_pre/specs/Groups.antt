-- The groups of conditional directives that are open (C99 6.10.1).
use Rattle.std.specs.Prelude.{◌&&◌, Bool, true, false, not, List, [], ◌∷◌, Option, Some, None}
use Rattle.cl_pre.specs.declared.group.Group.{Group}

-- an `#if` in a group that is read, by whether its condition holds; also behind an `#elif` whose condition is judged
abbrev pub opened : Bool → Group
opened holds = record { outer = true; taken = holds; reading = holds; after_else = false }

-- an `#if` in a group that is skipped
abbrev pub nested : Group
nested = record { outer = false; taken = true; reading = false; after_else = false }

-- behind its `#else`, which is read where no group was taken
abbrev pub behind_else : Group → Group
behind_else g = record { outer = g.outer; taken = true; reading = g.outer && not g.taken; after_else = true }

-- behind an `#elif` where a group was taken
abbrev pub passed : Group → Group
passed g = record { outer = g.outer; taken = g.taken; reading = false; after_else = g.after_else }

-- whether the text is read within an innermost group
abbrev pub is_read : Option Group → Bool
is_read None = true
is_read (Some g) = g.reading

-- the innermost group
abbrev pub top_of : List Group → Option Group
top_of [] = None
top_of (g ∷ gs) = Some g
