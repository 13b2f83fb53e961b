-- What a work-item, or an invocation of a module, asks of shared memory.
use Rattle.std.specs.Prelude.{ℕ}

-- One scalar of a buffer: the number of the launch's buffer, the offset in bytes, the width in bits.
pub record Spot : Type 0 where
  pub buffer : ℕ
  pub offset : ℕ
  pub bits : ℕ

pub data Event : Type 0 where
  Write : (at : Spot) (value : ℕ) → Event

-- An event and where it is asked: for an item the number of the function's copy, for an invocation the id of the function.
pub record Asked : Type 0 where
  pub function : ℕ
  pub event : Event
