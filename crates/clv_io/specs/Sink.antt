-- What a sink is to those who call it.
use Rattle.std.specs.Prelude.{◌≡◌, ℕ, ◌+◌, ◌<◌, ◌≤◌, Bool, IsTrue, List, ◌++◌, length, Result, OnOk, OnErr}
use Rattle.clv_io.specs.declared.sink.SinkFault.{SinkFault}
use Rattle.clv_io.specs.Faults.{Rose}

-- A sink at one moment. The bytes put and the room left, in bytes, count only where they are told.
pub record SinkState : Type 0 where
  pub tells : Bool
  pub is_steady : Bool
  pub bytes : List ℕ
  pub room : ℕ
  pub faults : ℕ

-- The sink has gained these bytes, and lost as much room.
pub record Gains (old new : SinkState) (bytes : List ℕ) : Type 0 where
  pub gained : new.bytes ≡ old.bytes ++ bytes
  pub left : new.room + length bytes ≡ old.room

-- The sink has gained a front of these bytes.
pub record GainsFront (old new : SinkState) (bytes : List ℕ) : Type 0 where
  pub front : List ℕ
  pub rest : List ℕ
  pub split : bytes ≡ front ++ rest
  pub gains : Gains old new front

-- A call of put and its result.
pub record Puts (old new : SinkState) (bytes : List ℕ) (result : Result Unit SinkFault) : Type 0 where
  pub tells : new.tells ≡ old.tells
  pub is_steady : new.is_steady ≡ old.is_steady
  pub later : old.faults ≤ new.faults
  pub all : IsTrue old.tells → OnOk result (Gains old new bytes)
  pub partial : IsTrue old.tells → OnErr result (GainsFront old new bytes)
  pub failed : OnErr result (Rose old.faults new.faults)
  pub full : IsTrue old.is_steady → OnErr result (old.room < length bytes)
