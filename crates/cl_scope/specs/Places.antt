-- Where names stand in a list, as a map keeps it.
use Rattle.std.specs.Prelude.{◌≡◌, ℕ, suc, ◌&&◌, Bool, true, false, if◌then◌else◌, List, [], ◌∷◌, Option, Some, None, is_some, bytes_eq}
use Rattle.std.specs.Global.{Vec}
use Rattle.std.specs.HashMap.{get_by}
use Rattle.cl_builtins.specs.Kinds.{alike}
use Rattle.cl_scope.specs.declared.places.Places.{Places}
use Rattle.cl_scope.specs.declared.spaces.NameSpaces.{NameSpaces}
use Rattle.cl_scope.specs.declared.scope.Signature.{Signature}

-- the test by which a name is looked up
abbrev pub is_key : List ℕ → Vec ℕ → Bool
is_key name key = bytes_eq name key.items

abbrev pub joined : Option (Option ℕ) → Option ℕ
joined None = None
joined (Some place) = place

abbrev pub place_of : Places → List ℕ → Option ℕ
place_of places name = joined (get_by (is_key name) places.by_name)

abbrev pub has_room : Places → List ℕ → Bool
has_room places name = is_some (get_by (is_key name) places.by_name)

abbrev pub HasNone : Places → Type 0
HasNone places = (name : List ℕ) → place_of places name ≡ None

-- each name stands where it stood
abbrev pub AreSame : Places → Places → Type 0
AreSame old new = (name : List ℕ) → place_of new name ≡ place_of old name

-- the name stands at this place, and each other name where it stood
abbrev pub IsMoved : Places → Places → List ℕ → Option ℕ → Type 0
IsMoved old new name place = (other : List ℕ) → place_of new other ≡ (if bytes_eq other name then place else place_of old other)

-- ---- the same in two name spaces

abbrev pub place_in : NameSpaces → Bool → List ℕ → Option ℕ
place_in spaces true name = place_of spaces.tags name
place_in spaces false name = place_of spaces.names name

abbrev pub has_room_in : NameSpaces → Bool → List ℕ → Bool
has_room_in spaces true name = has_room spaces.tags name
has_room_in spaces false name = has_room spaces.names name

abbrev pub HasNoneIn : NameSpaces → Type 0
HasNoneIn spaces = (tag : Bool) (name : List ℕ) → place_in spaces tag name ≡ None

abbrev pub AreSameIn : NameSpaces → NameSpaces → Type 0
AreSameIn old new = (tag : Bool) (name : List ℕ) → place_in new tag name ≡ place_in old tag name

abbrev pub IsMovedIn : NameSpaces → NameSpaces → Bool → List ℕ → Option ℕ → Type 0
IsMovedIn old new tag name place =
    (space : Bool) (other : List ℕ) → place_in new space other ≡ (if bytes_eq other name && alike space tag then place else place_in old space other)

-- ---- the first function of each name

abbrev pub one_later : Option ℕ → Option ℕ
one_later None = None
one_later (Some at) = Some (suc at)

abbrev pub first_at : List ℕ → List Signature → Option ℕ
first_at name [] = None
first_at name (s ∷ ss) = if bytes_eq name s.name then Some 0 else one_later (first_at name ss)

pub record AreFirst (functions : List Signature) (places : Places) : Type 0 where
  pub each : (name : List ℕ) → place_of places name ≡ first_at name functions
