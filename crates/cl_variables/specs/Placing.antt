-- What putting parts into bytes leaves.
use Rattle.std.specs.Prelude.{◌≡◌, ℕ, List, [], ◌++◌, drop}
use Rattle.cl_types.specs.declared.types.ClType.{ClType}
use Rattle.cl_types.specs.declared.types.Member.{Member}
use Rattle.cl_types.specs.declared.types.TypeId.{TypeId}
use Rattle.cl_variables.specs.declared.image.Piece.{Piece}
use Rattle.cl_variables.specs.Bytes.{Filled, part, elements, members, first_bytes, behind}

-- bytes behind those before, and the index of the pieces that are left
pub record IsPut (f : Filled) (before after : List ℕ) (pieces : List Piece) (next : ℕ) : Type 0 where
  pub bytes : after ≡ before ++ f.0
  pub left : drop next pieces ≡ f.1

-- the first piece
abbrev pub IsFirstPut : List Piece → List ℕ → List ℕ → List Piece → ℕ → Type 0
IsFirstPut ps before after pieces next = IsPut (first_bytes ps, behind ps) before after pieces next

abbrev pub elements_at : ℕ → List ClType → TypeId → ℕ → List Piece → Filled
elements_at deep cs elem len ps = elements (part deep cs elem) len ps

abbrev pub members_at : ℕ → List ClType → List Member → List Piece → Filled
members_at deep cs ms ps = members cs (part deep cs) ms [] ps
