-- What a stack gives.
use Rattle.std.specs.Prelude.{◌≡◌, List, [], ◌∷◌, Option, Some, None}

-- the newest item is taken away, where there is one
abbrev pub Popped : {A : Type 0} → List A → Option A → List A → Type 0
Popped old None new = (old ≡ []) × (new ≡ [])
Popped old (Some x) new = old ≡ x ∷ new
