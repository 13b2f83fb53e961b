-- What files in memory hold, name by name.
use Rattle.std.specs.Prelude.{◌≡◌, ◌≢◌, ℕ, Bool, if◌then◌else◌, max, List, Option, Some, None, find, unwrap_or}
use Rattle.std.specs.Str.{bytes_eq}

-- A name, the bytes that it holds, and the room reserved for it, in bytes.
pub record Holding : Type 0 where
  pub name : List ℕ
  pub held : Option (List ℕ)
  pub room : ℕ

abbrev pub held_if : Bool → List ℕ → Option (List ℕ)
held_if is_held bytes = if is_held then Some bytes else None

abbrev pub is_named : List ℕ → Holding → Bool
is_named name holding = bytes_eq holding.name name

-- what stands under a name; the first of a name counts
abbrev pub holding_of : List Holding → List ℕ → Option Holding
holding_of holdings name = find (is_named name) holdings

abbrev pub held_by : Option Holding → Option (List ℕ)
held_by None = None
held_by (Some holding) = holding.held

abbrev pub room_by : Option Holding → Option ℕ
room_by None = None
room_by (Some holding) = Some holding.room

-- the name with at least this room, and what it held
abbrev pub with_room : List Holding → List ℕ → ℕ → Holding
with_room holdings name room =
    record { name = name; held = held_by (holding_of holdings name); room = max (unwrap_or (room_by (holding_of holdings name)) 0) room }

-- the name with these bytes, in the room that it had
abbrev pub with_bytes : List Holding → List ℕ → List ℕ → Holding
with_bytes holdings name bytes =
    record { name = name; held = Some bytes; room = unwrap_or (room_by (holding_of holdings name)) 0 }

-- This stands under its name now, and nothing else is changed.
pub record Gets (old new : List Holding) (holding : Holding) : Type 0 where
  pub here : holding_of new holding.name ≡ Some holding
  pub others : (other : List ℕ) → other ≢ holding.name → holding_of new other ≡ holding_of old other
