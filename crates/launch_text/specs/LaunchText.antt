-- The launch that a text gives, or the first fault in it: the first line that breaks a rule, and the least rule that it breaks.
--     L7 the line or the argument is given already
--     L8 kernel, global or local is missing; the line is the number of lines plus 1
--     L9 global and local have different counts; at the local line
use Rattle.std.specs.Prelude.{ℕ, ◌≡◌, ◌+◌, Bool, false, ◌==◌, nat_le, if◌then◌else◌, List, [], ◌∷◌, ◌++◌, length, Option, Some, None, is_some, unwrap_or, Result, Ok, Err, fold}
use Rattle.std.specs.List.{filter_map, list_any, position_or_len}
use Rattle.std.specs.Option.{option_or}
use Rattle.std.specs.Str.{bytes_eq}
use Rattle.launch_text.specs.declared.launch.ArgKind.{ArgKind}
use Rattle.launch_text.specs.declared.launch.ArgKind.TheVariants as kind
use Rattle.launch_text.specs.declared.launch.ArgLine.{ArgLine}
use Rattle.launch_text.specs.declared.launch.Launch.{Launch}
use Rattle.launch_text.specs.declared.launch.LaunchStop.{LaunchStop}
use Rattle.launch_text.specs.declared.launch.LaunchStop.TheVariants as stop
use Rattle.launch_text.specs.declared.launch.Schedule.{Schedule}
use Rattle.launch_text.specs.declared.launch.Schedule.TheVariants.{Robin}
use Rattle.launch_text.specs.declared.said.Given.{Given}
use Rattle.launch_text.specs.declared.said.Given.TheVariants as given
use Rattle.launch_text.specs.declared.said.Grid.{Grid}
use Rattle.launch_text.specs.declared.said.Said.{Said}
use Rattle.launch_text.specs.declared.said.Said.TheVariants as said
use Rattle.launch_text.specs.Lines.{lines_of}
use Rattle.launch_text.specs.Said.{line_said}

-- A rule that a text breaks, by its number, and where: a line from 1.
pub record Fault : Type 0 where
  pub rule : ℕ
  pub line : ℕ

-- ---- what the lines say of one thing

-- what the lines say of it, by the first that does
abbrev pub first_of : {A : Type 0} → (Said → Option A) → List Said → Option A
first_of what [] = None
first_of what (s ∷ rest) = option_or (what s) (first_of what rest)

abbrev pub kernel_of : Said → Option (List ℕ)
kernel_of (said.Kernel name) = Some name
kernel_of _ = None

abbrev pub global_of : Said → Option Grid
global_of (said.Global grid) = Some grid
global_of _ = None

abbrev pub local_of : Said → Option Grid
local_of (said.Local grid) = Some grid
local_of _ = None

abbrev pub given_to : ℕ → Said → Option Given
given_to n (said.Argument ordinal given) = if ordinal == n then Some given else None
given_to n _ = None

abbrev pub schedule_of : Said → Option Schedule
schedule_of (said.Schedule schedule) = Some schedule
schedule_of _ = None

abbrev pub steps_of : Said → Option ℕ
steps_of (said.Steps count) = Some count
steps_of _ = None

abbrev pub is_given : List Said → Said → Bool
is_given before said.Nothing = false
is_given before (said.Kernel name) = is_some (first_of kernel_of before)
is_given before (said.Global grid) = is_some (first_of global_of before)
is_given before (said.Local grid) = is_some (first_of local_of before)
is_given before (said.Argument n given) = is_some (first_of (given_to n) before)
is_given before (said.Schedule schedule) = is_some (first_of schedule_of before)
is_given before (said.Steps count) = is_some (first_of steps_of before)

-- ---- what all lines say

-- what a line says after others, or the least rule that it breaks
abbrev pub once : List Said → Result Said ℕ → Result Said ℕ
once before (Ok s) = if is_given before s then Err 7 else Ok s
once before (Err rule) = Err rule

abbrev pub said_after : List Said → List ℕ → Result Said ℕ
said_after before line = once before (line_said line)

-- what follows a line, unless it breaks a rule
abbrev pub at_line : ℕ → Result Said ℕ → (Said → Result (List Said) Fault) → Result (List Said) Fault
at_line line (Ok s) next = next s
at_line line (Err rule) next = Err (record { rule = rule; line = line })

-- what lines say, each in its place, after those that said `before`; or the first fault
abbrev pub all_said : List Said → List (List ℕ) → Result (List Said) Fault
all_said before [] = Ok before
all_said before (line ∷ lines) = at_line (length before + 1) (said_after before line) (λ s. all_said (before ++ s ∷ []) lines)

-- ---- the launch

-- the names of the buffers' files, each once, in the order of first mention
abbrev pub file_of : Said → Option (List ℕ)
file_of (said.Argument n (given.Buffer file)) = Some file
file_of _ = None

abbrev pub with_file : List (List ℕ) → List ℕ → List (List ℕ)
with_file files file = if list_any (bytes_eq file) files then files else files ++ file ∷ []

abbrev pub files_of : List Said → List (List ℕ)
files_of lines = fold with_file [] (filter_map file_of lines)

-- the arguments in the order of the lines; a file goes by its index
abbrev pub kind_of : List (List ℕ) → Given → ArgKind
kind_of files (given.Buffer file) = kind.Buffer (position_or_len (bytes_eq file) files)
kind_of files (given.Local bytes) = kind.Local bytes
kind_of files (given.Plain bytes) = kind.Plain bytes

abbrev pub argument_of : List (List ℕ) → Said → Option ArgLine
argument_of files (said.Argument n given) = Some (record { ordinal = n; kind = kind_of files given })
argument_of files _ = None

abbrev pub arguments_of : List Said → List ArgLine
arguments_of lines = filter_map (argument_of (files_of lines)) lines

-- what lines say that give a kernel, its global and its local sizes
abbrev pub launch_with : List Said → List ℕ → Grid → Grid → Launch
launch_with lines kernel global local =
    record {
      kernel = kernel;
      dims = global.dims;
      global = global.sizes;
      local = local.sizes;
      files = files_of lines;
      args = arguments_of lines;
      schedule = unwrap_or (first_of schedule_of lines) (Robin 1);
      steps = unwrap_or (first_of steps_of lines) 100000000;
    }

abbrev pub is_local : Said → Bool
is_local s = is_some (local_of s)

abbrev pub local_line : List Said → ℕ
local_line lines = position_or_len is_local lines + 1

abbrev pub launch_from : List Said → Option (List ℕ) → Option Grid → Option Grid → Result Launch Fault
launch_from lines (Some kernel) (Some global) (Some local) =
    if global.dims == local.dims then Ok (launch_with lines kernel global local)
    else Err (record { rule = 9; line = local_line lines })
launch_from lines _ _ _ = Err (record { rule = 8; line = length lines + 1 })

abbrev pub launch_said : Result (List Said) Fault → Result Launch Fault
launch_said (Ok lines) = launch_from lines (first_of kernel_of lines) (first_of global_of lines) (first_of local_of lines)
launch_said (Err fault) = Err fault

-- The launch that a text gives, or the first fault in it. A text over 65,536 bytes breaks L1 at line 1.
unfoldable pub launch_of : List ℕ → Result Launch Fault
launch_of text = if nat_le (length text) 65536 then launch_said (all_said [] (lines_of text)) else Err (record { rule = 1; line = 1 })

-- What stops a text from giving a launch: its first fault, or want of memory, of which nothing is said.
abbrev pub IsStopOf : Result Launch Fault → LaunchStop → Type 0
IsStopOf verdict (stop.Fault number line) = verdict ≡ Err (record { rule = number; line = line })
IsStopOf verdict stop.NoMemory = Unit {0}
