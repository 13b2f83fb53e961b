-- What is taken off either end of a list.
use Rattle.std.specs.Prelude.{◌≡◌, List, [], ◌∷◌, ◌++◌, Option, Some, None}

-- the first item, of which the rest is left, or nothing of the empty list
abbrev pub IsFirstOf : {A : Type 0} → Option A → List A → List A → Type 0
IsFirstOf (Some x) old new = old ≡ x ∷ new
IsFirstOf None old new = (old ≡ []) × (new ≡ [])

-- the last item, before which the rest is left, or nothing of the empty list
abbrev pub IsLastOf : {A : Type 0} → Option A → List A → List A → Type 0
IsLastOf (Some x) old new = old ≡ new ++ x ∷ []
IsLastOf None old new = (old ≡ []) × (new ≡ [])
