-- What an initialiser list has filled so far (C99, 6.7.8).
use Rattle.std.specs.Prelude.{◌≡◌, ℕ, List, [], ◌∷◌, ◌++◌, Option, Some, None}
use Rattle.cl_types.specs.declared.types.TypeId.{TypeId}
use Rattle.cl_common.specs.Operators.{Given, Filled}

-- the numbers, those of the part behind what was there, and the operands that are left
pub record IsFilled (old : List ℕ) (part : Filled) (new : List ℕ) (left : List Given) : Type 0 where
  pub numbers : new ≡ old ++ part.patterns
  pub operands : left ≡ part.left

abbrev pub next_type : List Given → Option TypeId
next_type [] = None
next_type (g ∷ gs) = Some g.ty

-- one operand fills a part, where there is one
abbrev pub taken : List Given → Filled
taken [] = record { patterns = []; left = [] }
taken (g ∷ gs) = record { patterns = g.patterns; left = gs }
