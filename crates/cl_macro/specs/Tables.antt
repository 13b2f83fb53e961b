-- What names are defined as.
use Rattle.std.specs.Prelude.{◌≡◌, ℕ, ◌+◌, Bool, true, false, if◌then◌else◌, List, [], ◌∷◌, Option, Some, None, bytes_eq, slice_get}
use Rattle.cl_macro.specs.declared.macros.Entry.{Entry}
use Rattle.cl_macro.specs.declared.macros.Macro.{Macro}
use Rattle.cl_macro.specs.Names.{Name}

-- where the last entry of a name stands, among entries that are numbered from a number on, and where it stood before these
abbrev pub latest_from : ℕ → Option ℕ → Name → List Entry → Option ℕ
latest_from at found n [] = found
latest_from at found n (e ∷ es) = latest_from (at + 1) (if bytes_eq e.name n then Some at else found) n es

-- where the entry that counts for a name stands: the last one
unfoldable pub latest : Name → List Entry → Option ℕ
latest n es = latest_from 0 None n es

abbrev pub means_of : Option Entry → Option Macro
means_of None = None
means_of (Some e) = e.means

abbrev pub entry_at : List Entry → Option ℕ → Option Entry
entry_at es None = None
entry_at es (Some at) = slice_get es at

-- the macro that a name names now
abbrev pub look_up : Name → List Entry → Option Macro
look_up n es = means_of (entry_at es (latest n es))
