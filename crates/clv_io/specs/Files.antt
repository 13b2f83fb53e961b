-- What files are to those who call them.
use Rattle.std.specs.Prelude.{◌≡◌, ◌≢◌, ◌⊎◌, ℕ, ◌<◌, ◌≤◌, Bool, IsTrue, List, ◌++◌, length, Option, Some, None, Result, IfOk, OnOk, OnErr, IsErrOf}
use Rattle.clv_io.specs.declared.files.LoadFault.{LoadFault}
use Rattle.clv_io.specs.declared.files.LoadFault.TheVariants.{Failed, TooLarge}
use Rattle.clv_io.specs.declared.files.StoreFault.{StoreFault}
use Rattle.clv_io.specs.Faults.{Rose}

-- Files at one moment. What is held and reserved counts only where it is told. Room is in bytes; a name without an entry has none.
pub record FilesState : Type 0 where
  pub tells : Bool
  pub is_steady : Bool
  pub held : List ℕ → Option (List ℕ)
  pub room : List ℕ → Option ℕ
  pub faults : ℕ

-- what no call changes
pub record IsSameKind (old new : FilesState) : Type 0 where
  pub tells : new.tells ≡ old.tells
  pub is_steady : new.is_steady ≡ old.is_steady
  pub room : (name : List ℕ) → new.room name ≡ old.room name
  pub later : old.faults ≤ new.faults

-- the same files are held, where that is told
abbrev pub HoldsTheSame : FilesState → FilesState → Type 0
HoldsTheSame old new = IsTrue old.tells → (name : List ℕ) → new.held name ≡ old.held name

-- more bytes of a file were seen than were allowed
pub record IsTooLarge (files : FilesState) (name : List ℕ) (max seen : ℕ) : Type 0 where
  pub over : max < seen
  pub there : IsTrue files.tells → (bytes : List ℕ) × (files.held name ≡ Some bytes) × (seen ≤ length bytes)

-- A call of load and its result.
pub record Loads (old new : FilesState) (name : List ℕ) (max : ℕ) (result : Result (List ℕ) LoadFault) : Type 0 where
  pub kind : IsSameKind old new
  pub same : HoldsTheSame old new
  pub whole : IsTrue old.tells → IfOk result (λ bytes. old.held name ≡ Some bytes)
  pub within : IfOk result (λ bytes. length bytes ≤ max)
  pub failed : IsErrOf result Failed → Rose old.faults new.faults
  pub absent : IsTrue old.is_steady → IsErrOf result Failed → old.held name ≡ None
  pub too_large : (seen : ℕ) → IsErrOf result (TooLarge seen) → IsTooLarge old name max seen

-- the bytes have no room
abbrev pub Lacks : Option ℕ → ℕ → Type 0
Lacks None n = Unit {0}
Lacks (Some room) n = room < n

-- bytes is begun by front
abbrev pub IsBegunBy : List ℕ → List ℕ → Type 0
IsBegunBy bytes front = (rest : List ℕ) × (bytes ≡ front ++ rest)

-- the name is as before, or holds a front of the bytes
abbrev pub IsCutShort : FilesState → FilesState → List ℕ → List ℕ → Type 0
IsCutShort old new name bytes = (new.held name ≡ old.held name) ⊎ ((front : List ℕ) × (new.held name ≡ Some front) × IsBegunBy bytes front)

-- A call of store and its result.
pub record Stores (old new : FilesState) (name bytes : List ℕ) (result : Result Unit StoreFault) : Type 0 where
  pub kind : IsSameKind old new
  pub others : IsTrue old.tells → (other : List ℕ) → other ≢ name → new.held other ≡ old.held other
  pub stored : IsTrue old.tells → OnOk result (new.held name ≡ Some bytes)
  pub partial : IsTrue old.tells → OnErr result (IsCutShort old new name bytes)
  pub failed : OnErr result (Rose old.faults new.faults)
  pub full : IsTrue old.is_steady → OnErr result (Lacks (old.room name) (length bytes))
