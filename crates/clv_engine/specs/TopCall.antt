-- What a call with some words of a command line comes to, and what it answers.
use Rattle.std.specs.Prelude.{◌≡◌, ◌≢◌, ◌⊎◌, ℕ, ◌<◌, IsTrue, List, length, Some, Ok, Err}
use Rattle.clv_place.specs.declared.stop.Offence.{Offence}
use Rattle.clv_io.specs.Faults.{Rose}
use Rattle.clv_io.specs.Files.{FilesState}
use Rattle.clv_io.specs.Sink.{SinkState, Gains, GainsFront}
use Rattle.launch_text.specs.declared.launch.Launch.{Launch}
use Rattle.launch_text.specs.declared.launch.Schedule.TheVariants.{Robin, Mixed}
use Rattle.launch_text.specs.LaunchText.{Fault, launch_of}
use Rattle.launch_text.specs.Rules.{BrokenRule, IsLeastBroken, loaded}
use Rattle.clv_worlds.specs.Worlds.{IsDefined}
use Rattle.clv_engine.specs.declared.form.Kernel.{Kernel}
use Rattle.clv_engine.specs.FirstForm.{IsIn, IsOut}
use Rattle.clv_engine.specs.Command.{Command, Compile, Run, IsCommand, CompileComesTo, words_text}
use Rattle.clv_engine.specs.LaunchWorlds.{shared_of, source_world}
use Rattle.clv_engine.specs.Promises.{Fits, takes_of}
use Rattle.clv_engine.specs.RunCommand.{HoldBuffers, RunComesTo}

-- What a command comes to: its status and the text that it prints.
abbrev pub CommandComesTo : Command → FilesState → FilesState → ℕ → List ℕ → Type 0
CommandComesTo (Compile source target) old new status text = CompileComesTo source target old new status text
CommandComesTo (Run source launch) old new status text = RunComesTo source launch old new status text

-- What a call with these words comes to.
pub data ComesTo (words : List (List ℕ)) (old new : FilesState) : ℕ → List ℕ → Type 0 where
  comes : (c : Command) (status : ℕ) (text : List ℕ) → IsCommand words c → CommandComesTo c old new status text → ComesTo words old new status text
  misused : ((c : Command) → IsCommand words c → ⊥) → new ≡ old → ComesTo words old new 2 words_text

-- ---- what it answers

-- The text is printed whole, and the status is its own.
pub record IsPrinted (old new : SinkState) (text : List ℕ) : Type 0 where
  pub tells : new.tells ≡ old.tells
  pub is_steady : new.is_steady ≡ old.is_steady
  pub gained : IsTrue old.tells → Gains old new text

-- Printing has failed: status 9, whatever it was. A front of the text is there; in a steady sink the text had no room.
pub record IsNotPrinted (old new : SinkState) (text : List ℕ) : Type 0 where
  pub rose : Rose old.faults new.faults
  pub front : IsTrue old.tells → GainsFront old new text
  pub full : IsTrue old.is_steady → old.room < length text

-- The answer to a text that is to be printed under a status.
abbrev pub Prints : SinkState → SinkState → ℕ → List ℕ → ℕ → Type 0
Prints old new status text answer = ((answer ≡ status) × IsPrinted old new text) ⊎ ((answer ≡ 9) × IsNotPrinted old new text)

pub record Answers (words : List (List ℕ)) (files files' : FilesState) (sink sink' : SinkState) (answer : ℕ) : Type 0 where
  pub status : ℕ
  pub text : List ℕ
  pub comes : ComesTo words files files' status text
  pub printed : Prints sink sink' status text answer

-- Where the files tell what they hold, and neither they nor the sink have failed in this call, what the source holds decides: an accepted text gives 0, any other gives 1, unless memory is wanted.
pub record Decides (text : List ℕ) (answer : ℕ) : Type 0 where
  pub accepted : (k : Kernel) → IsIn text k → (answer ≡ 0) ⊎ (answer ≡ 4)
  pub refused : (o : Offence) → IsOut text o → (answer ≡ 1) ⊎ (answer ≡ 4)

-- What a run of a module may answer.
pub data EndsRun (answer : ℕ) : Type 0 where
  done : answer ≡ 0 → EndsRun answer
  not_run : answer ≡ 6 → EndsRun answer
  trapped : answer ≡ 7 → EndsRun answer
  spent : answer ≡ 8 → EndsRun answer
  starved : answer ≡ 4 → EndsRun answer

-- A source that is accepted, a launch with turns of so many steps, and its buffers, which are held.
pub record IsAsked (files : FilesState) (text words : List ℕ) (l : Launch) (turn : ℕ) (bs : List (List ℕ)) : Type 0 where
  pub accepted : (k : Kernel) × IsIn text k
  pub is_launch : launch_of words ≡ Ok l
  pub robin : l.schedule ≡ Robin turn
  pub held : HoldBuffers files l.files bs

-- The same for a run, from what the source and the launch hold: any other source gives 1; a launch text that breaks a rule gives 6, and so does one with a seed, or one that breaks a rule for the kernel; else the module may run, and no run traps where the source is defined. Unless memory is wanted.
pub record RunDecides (files : FilesState) (text words : List ℕ) (answer : ℕ) : Type 0 where
  pub refused : (o : Offence) → IsOut text o → (answer ≡ 1) ⊎ (answer ≡ 4)
  pub faulty : (k : Kernel) (f : Fault) → IsIn text k → launch_of words ≡ Err f → (answer ≡ 6) ⊎ (answer ≡ 4)
  pub seeded : (k : Kernel) (l : Launch) (seed : ℕ) → IsIn text k → launch_of words ≡ Ok l → l.schedule ≡ Mixed seed → (answer ≡ 6) ⊎ (answer ≡ 4)
  pub misfit : (l : Launch) (turn : ℕ) (bs : List (List ℕ)) → IsAsked files text words l turn bs → ((k : Kernel) → IsIn text k → (b : BrokenRule) × IsLeastBroken (loaded l bs) (takes_of k l.kernel) b) → (answer ≡ 6) ⊎ (answer ≡ 4)
  pub runs : (l : Launch) (turn : ℕ) (bs : List (List ℕ)) → IsAsked files text words l turn bs → EndsRun answer
  pub defined : (l : Launch) (turn : ℕ) (bs : List (List ℕ)) → IsAsked files text words l turn bs → ((k : Kernel) → IsIn text k → Fits k (loaded l bs)) → ((k : Kernel) (function : ℕ) → IsIn text k → IsDefined (shared_of (loaded l bs)) (source_world k (loaded l bs) function) bs) → answer ≢ 7

pub record IsDecided (words : List (List ℕ)) (files files' : FilesState) (sink sink' : SinkState) (answer : ℕ) : Type 0 where
  pub each : (source target text : List ℕ) → IsCommand words (Compile source target) → IsTrue files.tells → files.held source ≡ Some text → (Rose files.faults files'.faults → ⊥) → (Rose sink.faults sink'.faults → ⊥) → Decides text answer
  pub each_run : (source launch text said : List ℕ) → IsCommand words (Run source launch) → IsTrue files.tells → files.held source ≡ Some text → files.held launch ≡ Some said → (Rose files.faults files'.faults → ⊥) → (Rose sink.faults sink'.faults → ⊥) → RunDecides files text said answer
