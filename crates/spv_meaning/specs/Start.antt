-- Where a run of a module begins: what a launch gives it.
use Rattle.std.specs.Prelude.{ℕ, List}
use Rattle.launch_text.specs.WorkItems.{Sizes}

-- A buffer of the launch, bound to a set and binding; and the value of the specialisation constant of a SpecId.
pub record Bound : Type 0 where
  pub set : ℕ
  pub binding : ℕ
  pub buffer : ℕ

pub record Specialised : Type 0 where
  pub id : ℕ
  pub value : ℕ

-- The entry function, the sizes of the grid and of a group, the bytes of each buffer by its number, and what is bound to them.
pub record Start : Type 0 where
  pub function : ℕ
  pub global : Sizes
  pub local : Sizes
  pub buffers : List (List ℕ)
  pub bound : List Bound
  pub specialised : List Specialised
