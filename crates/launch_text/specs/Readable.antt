-- What holds of each launch that a text gives.
use Rattle.std.specs.Prelude.{◌≡◌, ℕ, ◌^◌, ◌<◌, ◌≤◌, List, length, Some, slice_get, All, Contains, IsUtf8}
use Rattle.launch_text.specs.declared.launch.ArgKind.TheVariants.{Buffer}
use Rattle.launch_text.specs.declared.launch.ArgLine.{ArgLine}
use Rattle.launch_text.specs.declared.launch.Launch.{Launch}
use Rattle.launch_text.specs.declared.launch.Schedule.{Schedule}
use Rattle.launch_text.specs.declared.launch.Schedule.TheVariants.{Robin, Mixed}
use Rattle.launch_text.specs.Rules.{IsLaunch, loaded}

-- a turn has at least one step
abbrev pub IsSchedule : Schedule → Type 0
IsSchedule (Robin turn) = 1 ≤ turn
IsSchedule (Mixed seed) = Unit {0}

-- a run may take at least one step, and at most 10^12
pub record IsCount (steps : ℕ) : Type 0 where
  pub some : 1 ≤ steps
  pub few : steps ≤ 10 ^ 12

-- no two files have one name
abbrev pub AreDistinct : List (List ℕ) → Type 0
AreDistinct files = (m n : ℕ) (name : List ℕ) → slice_get files m ≡ Some name → slice_get files n ≡ Some name → m ≡ n

-- printable ASCII other than the space
pub record IsVisible (b : ℕ) : Type 0 where
  pub first : 33 ≤ b
  pub last : b ≤ 126

-- A name is a word.
pub record IsName (name : List ℕ) : Type 0 where
  pub some : 1 ≤ length name
  pub visible : All IsVisible name

-- some argument is given the buffer
abbrev pub IsGiven : List ArgLine → ℕ → Type 0
IsGiven arguments file = (n : ℕ) × Contains arguments (record { ordinal = n; kind = Buffer file })

-- With one buffer for each name it is a launch, and each is given to some argument.
pub record IsReadable (l : Launch) : Type 0 where
  pub launch : (buffers : List (List ℕ)) → length buffers ≡ length l.files → IsLaunch (loaded l buffers)
  pub kernel : IsName l.kernel
  pub files : AreDistinct l.files
  pub named : All IsName l.files
  pub names : All IsUtf8 l.files
  pub few : length l.files < 2 ^ 32
  pub given : (file : ℕ) → file < length l.files → IsGiven l.args file
  pub schedule : IsSchedule l.schedule
  pub steps : IsCount l.steps
