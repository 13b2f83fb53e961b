-- Declarations with what each of them hides, the newest first.
use Rattle.std.specs.Prelude.{◌≡◌, ℕ, Bool, if◌then◌else◌, List, [], ◌∷◌, length, map, Option, Some, None}
use Rattle.cl_scope.specs.declared.declarations.Row.{Row}
use Rattle.cl_scope.specs.declared.scope.Declared.{Declared}
use Rattle.cl_scope.specs.declared.spaces.NameSpaces.{NameSpaces}
use Rattle.cl_scope.specs.Names.{is_tag, is_called}
use Rattle.cl_scope.specs.Places.{place_in}

abbrev pub declared_by : List Row → List Declared
declared_by rows = map (λ r. r.declared) rows

-- the index of the newest declaration of a name, where the oldest one has the index 0
abbrev pub newest_at : Bool → List ℕ → List Declared → Option ℕ
newest_at tag name [] = None
newest_at tag name (d ∷ ds) = if is_called tag name d then Some (length ds) else newest_at tag name ds

-- each declaration hides the newest one of its name before it
abbrev pub HideRightly : List Row → Type 0
HideRightly [] = Unit {0}
HideRightly (r ∷ rs) = (r.hides ≡ newest_at (is_tag r.declared.kind) r.declared.name (declared_by rs)) × HideRightly rs

-- Each name stands where its newest declaration does.
pub record IsIndexed (rows : List Row) (spaces : NameSpaces) : Type 0 where
  pub each : (tag : Bool) (name : List ℕ) → place_in spaces tag name ≡ newest_at tag name (declared_by rows)
  pub hides : HideRightly rows
