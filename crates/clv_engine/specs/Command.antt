-- What the program does with the words of its command line, and what it prints.
use Rattle.std.specs.Prelude.{◌≡◌, ◌⊎◌, ℕ, ◌*◌, ◌/◌, ◌^◌, ◌≤◌, Bool, true, false, not, ◌==◌, IsTrue, List, [], ◌∷◌, ◌++◌, length, codes, Some, None}
use Rattle.std.specs.Fmt.{decimal}
use Rattle.clv_place.specs.declared.stop.Offence.{Offence}
use Rattle.spv_module.specs.declared.module.Module.{Module}
use Rattle.spv_module.specs.Words.{module_words, SpellsLittle}
use Rattle.clv_io.specs.Faults.{Rose}
use Rattle.clv_io.specs.Files.{FilesState, IsSameKind, HoldsTheSame, IsTooLarge, IsCutShort, Lacks}
use Rattle.spv_types_rules.specs.Rules.{IsValid}
use Rattle.clv_engine.specs.declared.form.Kernel.{Kernel}
use Rattle.clv_engine.specs.FirstForm.{IsIn, IsOut}
use Rattle.clv_engine.specs.KernelRows.{ReflectionAgrees}
use Rattle.clv_engine.specs.Interface.{InterfaceAgrees}
use Rattle.clv_engine.specs.Promises.{BindingAgrees, ItemSimulation}
use Rattle.clv_engine.specs.LaunchWorlds.{WorldSimulation}

-- A word that names a file is not empty and does not begin with `-`.
abbrev pub is_file_word : List ℕ → Bool
is_file_word [] = false
is_file_word (b ∷ bs) = not (b == 45)

-- What the words of a command line ask for.
pub data Command : Type 0 where
  Compile : (source target : List ℕ) → Command
  Run : (source launch : List ℕ) → Command

-- `compile SOURCE MODULE`, `run SOURCE LAUNCH`
abbrev pub words_of : Command → List (List ℕ)
words_of (Compile source target) = codes "compile" ∷ source ∷ target ∷ []
words_of (Run source launch) = codes "run" ∷ source ∷ launch ∷ []

abbrev pub first_file : Command → List ℕ
first_file (Compile source target) = source
first_file (Run source launch) = source

abbrev pub second_file : Command → List ℕ
second_file (Compile source target) = target
second_file (Run source launch) = launch

pub record IsCommand (words : List (List ℕ)) (c : Command) : Type 0 where
  pub words_are : words ≡ words_of c
  pub first_word : is_file_word (first_file c) ≡ true
  pub second_word : is_file_word (second_file c) ≡ true

-- A module that is good for a text: the text is accepted as a kernel, the module is valid, the reflection and the interface are the kernel's, launches bind to it as they fit the kernel, and the module serves each of its work-items, and all of them together in any order. Two bounds.
pub record IsGood (text : List ℕ) (m : Module) : Type 0 where
  pub kernel : Kernel
  pub accepted : IsIn text kernel
  pub valid : IsValid m.body
  pub reflection : ReflectionAgrees m.body kernel
  pub interface : InterfaceAgrees m.body kernel
  pub binding : BindingAgrees m.body kernel
  pub items : ItemSimulation m.body kernel
  pub worlds : WorldSimulation m.body kernel
  pub bound : m.bound ≤ 4194303
  pub size : 4 * length (module_words m) ≤ 2 ^ 28

-- These bytes are what the compiler makes of the text: the little-endian words of a good module without a generator's number.
pub record IsCompiled (text bytes : List ℕ) : Type 0 where
  pub made : Module
  pub spells : SpellsLittle made bytes
  pub good : IsGood text made
  pub generator : made.generator ≡ 0

-- ---- what is printed

abbrev pub module_text : ℕ → List ℕ
module_text count = codes "module " ++ (decimal count ++ codes " words\n")

abbrev pub source_text : Offence → List ℕ
source_text o = codes "source " ++ (decimal o.code ++ (codes " " ++ (decimal o.place.line ++ (codes ":" ++ (decimal o.place.col ++ codes "\n")))))

abbrev pub words_text : List ℕ
words_text = codes "words\n"

abbrev pub file_text : List ℕ → List ℕ
file_text name = codes "file " ++ (name ++ codes "\n")

abbrev pub memory_text : List ℕ
memory_text = codes "memory\n"

-- ---- what a call comes to, before it prints

-- No file has changed.
pub record IsUnchanged (old new : FilesState) : Type 0 where
  pub kind : IsSameKind old new
  pub same : HoldsTheSame old new

-- One file holds these bytes, and no other has changed.
pub record HoldsNow (old new : FilesState) (name bytes : List ℕ) : Type 0 where
  pub kind : IsSameKind old new
  pub stored : IsTrue old.tells → new.held name ≡ Some bytes
  pub others : IsTrue old.tells → (other : List ℕ) → (other ≡ name → ⊥) → new.held other ≡ old.held other

-- One file is as before or was cut short, and no other has changed.
pub record HoldsCut (old new : FilesState) (name bytes : List ℕ) : Type 0 where
  pub kind : IsSameKind old new
  pub cut : IsTrue old.tells → IsCutShort old new name bytes
  pub others : IsTrue old.tells → (other : List ℕ) → (other ≡ name → ⊥) → new.held other ≡ old.held other

-- the file is held with this text
abbrev pub IsText : FilesState → List ℕ → List ℕ → Type 0
IsText files name text = IsTrue files.tells → files.held name ≡ Some text

-- The source is read and is out, or it is over 1 MiB.
pub record IsRead (old : FilesState) (source text : List ℕ) (o : Offence) : Type 0 where
  pub read : IsText old source text
  pub is_out : IsOut text o

pub record IsOver (old : FilesState) (source : List ℕ) (o : Offence) : Type 0 where
  pub seen : ℕ
  pub large : IsTooLarge old source 1048576 seen
  pub code : o.code ≡ 105
  pub line : o.place.line ≡ 1
  pub col : o.place.col ≡ 1

-- The module is stored, in so many words: status 0.
pub record Stored (old new : FilesState) (source target : List ℕ) (count : ℕ) : Type 0 where
  pub text : List ℕ
  pub bytes : List ℕ
  pub read : IsText old source text
  pub compiled : IsCompiled text bytes
  pub four_a_word : 4 * count ≡ length bytes
  pub files : HoldsNow old new target bytes

-- The source is refused: status 1.
pub record Refused (old new : FilesState) (source : List ℕ) (o : Offence) : Type 0 where
  pub cause : ((text : List ℕ) × IsRead old source text o) ⊎ IsOver old source o
  pub files : IsUnchanged old new

-- A load or a store has failed: status 3.
pub record NotLoaded (old new : FilesState) (source : List ℕ) : Type 0 where
  pub rose : Rose old.faults new.faults
  pub absent : IsTrue old.is_steady → old.held source ≡ None
  pub files : IsUnchanged old new

pub record NotStored (old new : FilesState) (source target : List ℕ) : Type 0 where
  pub text : List ℕ
  pub bytes : List ℕ
  pub read : IsText old source text
  pub compiled : IsCompiled text bytes
  pub rose : Rose old.faults new.faults
  pub full : IsTrue old.is_steady → Lacks (old.room target) (length bytes)
  pub files : HoldsCut old new target bytes

-- What `compile` comes to: its status and the text that it prints.
pub data CompileComesTo (source target : List ℕ) (old new : FilesState) : ℕ → List ℕ → Type 0 where
  compiled : (count : ℕ) → Stored old new source target count → CompileComesTo source target old new 0 (module_text count)
  refused : (o : Offence) → Refused old new source o → CompileComesTo source target old new 1 (source_text o)
  not_loaded : NotLoaded old new source → CompileComesTo source target old new 3 (file_text source)
  not_stored : NotStored old new source target → CompileComesTo source target old new 3 (file_text target)
  starved : IsUnchanged old new → CompileComesTo source target old new 4 memory_text

-- ---- parts

-- What storing a module comes to: its status and text.
pub data StoreEnds (old new : FilesState) (name bytes : List ℕ) (status : ℕ) (text : List ℕ) : Type 0 where
  is_stored : status ≡ 0 → text ≡ module_text (length bytes / 4) → HoldsNow old new name bytes → StoreEnds old new name bytes status text
  is_cut : status ≡ 3 → text ≡ file_text name → Rose old.faults new.faults → (IsTrue old.is_steady → Lacks (old.room name) (length bytes)) → HoldsCut old new name bytes → StoreEnds old new name bytes status text
