-- What an invocation of a module asks of what the invocations share.
use Rattle.std.specs.Prelude.{ℕ, List}

-- One scalar of shared memory, with its width in bits: an offset in bytes in a buffer of the start, or a path in a variable of the group.
pub data Spot : Type 0 where
  InBuffer : (buffer offset bits : ℕ) → Spot
  InGroup : (variable : ℕ) (path : List ℕ) (bits : ℕ) → Spot

abbrev pub bits_of : Spot → ℕ
bits_of (InBuffer buffer offset bits) = bits
bits_of (InGroup variable path bits) = bits

-- A read, a write, an atomic by its opcode with the values behind the pointer, or a barrier by the words of the calls that are pending there, the outermost first, and last its own.
pub data Event : Type 0 where
  Read : (at : Spot) → Event
  Write : (at : Spot) (value : ℕ) → Event
  Atomic : (code : ℕ) (at : Spot) (operands : List ℕ) → Event
  Barrier : (words : List ℕ) → Event

-- An event, and the id of the function in which it is asked.
pub record Asked : Type 0 where
  pub function : ℕ
  pub event : Event
