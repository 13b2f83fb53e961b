-- What the steady fakes are to those who call them.
use Rattle.std.specs.Prelude.{◌≡◌, ◌≢◌, ℕ, ◌<◌, ◌≤◌, max, true, List, length, Option, Some, None, unwrap_or, Result, Err, OnOk, OnErr, IfErr}
use Rattle.clv_io.specs.declared.files.LoadFault.{LoadFault}
use Rattle.clv_io.specs.declared.files.LoadFault.TheVariants.{Failed, TooLarge, NoMemory}
use Rattle.clv_io.specs.declared.files.StoreFault.{StoreFault}
use Rattle.clv_io.specs.declared.sink.SinkFault.{SinkFault}
use Rattle.clv_io.specs.declared.steady.SteadyFiles.{SteadyFiles}
use Rattle.clv_io.specs.declared.steady.SteadySink.{SteadySink}
use Rattle.clv_io.specs.Faults.{one_more}
use Rattle.clv_io.specs.Files.{FilesState, Lacks}
use Rattle.clv_io.specs.Holdings.{Holding, holding_of, held_by, room_by}
use Rattle.clv_io.specs.Sink.{SinkState}

abbrev pub held_in : List Holding → List ℕ → Option (List ℕ)
held_in holdings name = held_by (holding_of holdings name)

abbrev pub room_in : List Holding → List ℕ → Option ℕ
room_in holdings name = room_by (holding_of holdings name)

-- Steady files tell what they hold and reserve, by look-up.
abbrev pub files_of : SteadyFiles → FilesState
files_of files =
    record { tells = true; is_steady = true; held = held_in files.shelf; room = room_in files.shelf; faults = files.faults }

-- A steady sink tells what was put and the room that is left.
abbrev pub sink_of : SteadySink → SinkState
sink_of sink =
    record { tells = true; is_steady = true; bytes = sink.bytes.items; room = sink.left; faults = sink.faults }

-- No name holds bytes or has room, and nothing has failed.
pub record IsBare (files : FilesState) : Type 0 where
  pub held : (name : List ℕ) → files.held name ≡ None
  pub room : (name : List ℕ) → files.room name ≡ None
  pub faults : files.faults ≡ 0

-- The name holds this now, in the larger of its room and `least`. Nothing else is changed.
pub record Reserves (old new : FilesState) (name : List ℕ) (holds : Option (List ℕ)) (least : ℕ) : Type 0 where
  pub held : new.held name ≡ holds
  pub room : new.room name ≡ Some (max (unwrap_or (old.room name) 0) least)
  pub held_by_others : (other : List ℕ) → other ≢ name → new.held other ≡ old.held other
  pub room_of_others : (other : List ℕ) → other ≢ name → new.room other ≡ old.room other
  pub faults : new.faults ≡ old.faults

-- What a load answers, want of memory apart, and what it counts.
pub record LoadsSteadily (old new : FilesState) (name : List ℕ) (max : ℕ) (result : Result (List ℕ) LoadFault) : Type 0 where
  pub absent : old.held name ≡ None → (result ≡ Err Failed) × (new.faults ≡ one_more old.faults)
  pub present : (bytes : List ℕ) → old.held name ≡ Some bytes → new.faults ≡ old.faults
  pub over : (bytes : List ℕ) → old.held name ≡ Some bytes → max < length bytes → result ≡ Err (TooLarge (length bytes))
  pub within : (bytes : List ℕ) → old.held name ≡ Some bytes → length bytes ≤ max → IfErr result (λ fault. fault ≡ NoMemory)

-- What a store answers, and what it counts.
pub record StoresSteadily (old new : FilesState) (name bytes : List ℕ) (result : Result Unit StoreFault) : Type 0 where
  pub stored : OnOk result (new.faults ≡ old.faults)
  pub fits : OnOk result (Lacks (old.room name) (length bytes) → ⊥)
  pub refused : OnErr result (new.faults ≡ one_more old.faults)
  pub same : OnErr result ((other : List ℕ) → new.held other ≡ old.held other)

-- What a put answers, and what it counts.
pub record PutsSteadily (old new : SinkState) (bytes : List ℕ) (result : Result Unit SinkFault) : Type 0 where
  pub put : OnOk result (new.faults ≡ old.faults)
  pub fits : OnOk result (length bytes ≤ old.room)
  pub refused : OnErr result (new.faults ≡ one_more old.faults)
  pub same : OnErr result ((new.bytes ≡ old.bytes) × (new.room ≡ old.room))
