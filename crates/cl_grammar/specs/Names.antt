-- The entries of a map as the names that typedefs declared.
use Rattle.std.specs.Prelude.{ℕ, Bool, List, map}
use Rattle.std.specs.Global.{Vec}
use Rattle.cl_grammar.specs.declared.names.TypeName.{TypeName}

abbrev pub name_of : Vec ℕ × Bool → TypeName
name_of entry = record { name = entry.0.items; vector = entry.1 }

abbrev pub names_of : List (Vec ℕ × Bool) → List TypeName
names_of entries = map name_of entries
