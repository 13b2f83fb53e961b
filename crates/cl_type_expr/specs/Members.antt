-- The entries of a map as the members that were read.
use Rattle.std.specs.Prelude.{ℕ, List, map}
use Rattle.std.specs.Global.{Vec}
use Rattle.cl_types.specs.declared.types.Member.{Member}
use Rattle.cl_types.specs.declared.types.TypeId.{TypeId}

abbrev pub member_of_entry : Vec ℕ × TypeId → Member
member_of_entry entry = record { name = entry.0.items; ty = entry.1 }

abbrev pub members_of_entries : List (Vec ℕ × TypeId) → List Member
members_of_entries entries = map member_of_entry entries
