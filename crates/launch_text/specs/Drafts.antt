-- How what a line says is put to what the lines before it have said.
use Rattle.std.specs.Prelude.{ℕ, ◌+◌, Bool, ◌==◌, if◌then◌else◌, List, [], ◌∷◌, ◌++◌, Option, Some, None, is_some, unwrap_or, Result, Ok, Err}
use Rattle.std.specs.List.{list_any}
use Rattle.launch_text.specs.declared.draft.Draft.{Draft}
use Rattle.launch_text.specs.declared.draft.LocalLine.{LocalLine}
use Rattle.launch_text.specs.declared.launch.ArgLine.{ArgLine}
use Rattle.launch_text.specs.declared.launch.Launch.{Launch}
use Rattle.launch_text.specs.declared.launch.Schedule.TheVariants.{Robin}
use Rattle.launch_text.specs.declared.said.Given.{Given}
use Rattle.launch_text.specs.declared.said.Given.TheVariants as given
use Rattle.launch_text.specs.declared.said.Grid.{Grid}
use Rattle.launch_text.specs.declared.said.Said.{Said}
use Rattle.launch_text.specs.declared.said.Said.TheVariants as said
use Rattle.launch_text.specs.LaunchText.{Fault, with_file, kind_of}

abbrev pub nothing_said : Draft
nothing_said = record { kernel = None; global = None; local = None; files = []; args = []; schedule = None; steps = None }

abbrev pub has_ordinal : ℕ → ArgLine → Bool
has_ordinal n argument = argument.ordinal == n

abbrev pub files_with : List (List ℕ) → Given → List (List ℕ)
files_with files (given.Buffer file) = with_file files file
files_with files (given.Local bytes) = files
files_with files (given.Plain bytes) = files

abbrev pub with_argument : Draft → ℕ → Given → Draft
with_argument d n given = record d { files = files_with d.files given; args = d.args ++ (record { ordinal = n; kind = kind_of (files_with d.files given) given } ∷ []) }

abbrev pub argument_taken : Draft → ℕ → Given → Result Draft ℕ
argument_taken d n given = if list_any (has_ordinal n) d.args then Err 7 else Ok (with_argument d n given)

-- with what the line of a number says; L7: once
abbrev pub taken : Draft → ℕ → Said → Result Draft ℕ
taken d line said.Nothing = Ok d
taken d line (said.Kernel name) = if is_some d.kernel then Err 7 else Ok (record d { kernel = Some name })
taken d line (said.Global grid) = if is_some d.global then Err 7 else Ok (record d { global = Some grid })
taken d line (said.Local grid) = if is_some d.local then Err 7 else Ok (record d { local = Some (record { grid = grid; line = line }) })
taken d line (said.Argument n given) = argument_taken d n given
taken d line (said.Schedule schedule) = if is_some d.schedule then Err 7 else Ok (record d { schedule = Some schedule })
taken d line (said.Steps count) = if is_some d.steps then Err 7 else Ok (record d { steps = Some count })

abbrev pub line_taken : Draft → ℕ → Result Said ℕ → Result Draft ℕ
line_taken d line (Ok s) = taken d line s
line_taken d line (Err rule) = Err rule

-- the launch at the end of so many lines
abbrev pub finished : Draft → ℕ → Option (List ℕ) → Option Grid → Option LocalLine → Result Launch Fault
finished d lines (Some kernel) (Some global) (Some local) =
    if global.dims == local.grid.dims then Ok (record {
      kernel = kernel;
      dims = global.dims;
      global = global.sizes;
      local = local.grid.sizes;
      files = d.files;
      args = d.args;
      schedule = unwrap_or d.schedule (Robin 1);
      steps = unwrap_or d.steps 100000000;
    })
    else Err (record { rule = 9; line = local.line })
finished d lines _ _ _ = Err (record { rule = 8; line = lines + 1 })

abbrev pub drafted : Draft → ℕ → Result Launch Fault
drafted d lines = finished d lines d.kernel d.global d.local
