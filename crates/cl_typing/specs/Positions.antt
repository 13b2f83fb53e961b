-- Where names stand in a list.
use Rattle.std.specs.Global.{Vec}
use Rattle.std.specs.Prelude.{ℕ, suc, map, if◌then◌else◌, List, [], ◌∷◌, ◌++◌, is_some, Option, Some, None, bytes_eq}

abbrev pub one_later : Option ℕ → Option ℕ
one_later None = None
one_later (Some at) = Some (suc at)

-- the index of the first one
abbrev pub position_of : List ℕ → List (List ℕ) → Option ℕ
position_of name [] = None
position_of name (n ∷ ns) = if bytes_eq name n then Some 0 else one_later (position_of name ns)

-- a name behind others, unless it stands there
abbrev pub and_name : List ℕ → List (List ℕ) → List (List ℕ)
and_name name names = if is_some (position_of name names) then names else names ++ name ∷ []

-- the entries of a map as names
abbrev pub names_in : List (Vec ℕ × Unit {0}) → List (List ℕ)
names_in entries = map (λ e. e.0.items) entries
