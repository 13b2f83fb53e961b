-- What the adapters over the real outside are to those who call them, and what their loops do.
use Rattle.std.specs.Prelude.{◌≡◌, ℕ, ◌+◌, ◌<◌, ◌≤◌, false, List, [], ◌++◌, length, Option, None, Result, Ok, Err, IfOk, OnOk, IsErrOf}
use Rattle.std.specs.Io.KnownBytes.{Consumes, IsAtEnd}
use Rattle.clv_io.specs.declared.files.LoadFault.{LoadFault}
use Rattle.clv_io.specs.declared.files.LoadFault.TheVariants.{Failed, TooLarge, NoMemory}
use Rattle.clv_io.specs.declared.host.HostFiles.{HostFiles}
use Rattle.clv_io.specs.declared.host.HostSink.{HostSink}
use Rattle.clv_io.specs.Faults.{one_more}
use Rattle.clv_io.specs.Files.{FilesState}
use Rattle.clv_io.specs.Sink.{SinkState}

-- Real files tell nothing but their faults.
abbrev pub host_files_of : {R : Type 0} → HostFiles R → FilesState
host_files_of files =
    record { tells = false; is_steady = false; held = λ name. None; room = λ name. None; faults = files.faults }

-- A real sink tells nothing but its faults.
abbrev pub host_sink_of : {R : Type 0} → HostSink R → SinkState
host_sink_of sink = record { tells = false; is_steady = false; bytes = []; room = 0; faults = sink.faults }

-- The count rises by one where a load fails, and stays at any other answer.
abbrev pub CountsLoad : ℕ → ℕ → Result (List ℕ) LoadFault → Type 0
CountsLoad before now (Ok text) = now ≡ before
CountsLoad before now (Err Failed) = now ≡ one_more before
CountsLoad before now (Err (TooLarge seen)) = now ≡ before
CountsLoad before now (Err NoMemory) = now ≡ before

-- The count rises by one at an Err, and stays at Ok.
abbrev pub CountsErr : {E : Type 0} → ℕ → ℕ → Result Unit E → Type 0
CountsErr before now (Ok done) = now ≡ before
CountsErr before now (Err fault) = now ≡ one_more before

-- One read, of no more than `most` bytes, and what it adds to a text. Left is what the reader tells of the bytes before it.
pub record ReadsChunk (left left' : Option (List ℕ)) (old new : List ℕ) (most : ℕ) (result : Result ℕ LoadFault) : Type 0 where
  pub chunk : List ℕ
  pub within : length chunk ≤ most
  pub taken : Consumes left left' chunk
  pub added : IfOk result (λ count. (count ≡ length chunk) × (new ≡ old ++ chunk))
  pub end : IfOk result (λ count. count ≡ 0 → IsAtEnd left')
  pub fault : (seen : ℕ) → IsErrOf result (TooLarge seen) → ⊥

-- All bytes of a reader, of at most `max`. It takes one more at the most, and then says so.
pub record ReadsWithin (left left' : Option (List ℕ)) (max : ℕ) (result : Result (List ℕ) LoadFault) : Type 0 where
  pub taken : (bytes : List ℕ) × (length bytes ≤ max + 1) × Consumes left left' bytes
  pub whole : IfOk result (λ text. Consumes left left' text)
  pub end : OnOk result (IsAtEnd left')
  pub within : IfOk result (λ text. length text ≤ max)
  pub over : (seen : ℕ) → IsErrOf result (TooLarge seen) → max < seen
