-- What a work-item sees of a launch: the sizes, and what each argument is given (OpenCL C 1.2, 6.12.1; OpenCL 1.2, 5.7.2).
use Rattle.std.specs.Prelude.{ℕ, zero, suc, List, [], ◌∷◌, Option, Some, None}
use Rattle.launch_text.specs.declared.launch.ArgKind.{ArgKind}
use Rattle.launch_text.specs.declared.launch.ArgKind.TheVariants.{Buffer, Local, Plain}
use Rattle.launch_text.specs.declared.launch.ArgSize.{ArgSize}
use Rattle.launch_text.specs.declared.launch.ArgSize.TheVariants as size
use Rattle.launch_text.specs.declared.launch.LaunchSizes.{LaunchSizes}
use Rattle.launch_text.specs.Rules.{LoadedLaunch, given_to, bytes_in}
use Rattle.launch_text.specs.WorkItems.{sizes_list}

-- Of a buffer it sees which one it is and how many bytes it has, and of a plain argument the bytes. An argument without a line breaks a rule.
abbrev pub seen_by : List (List ℕ) → Option ArgKind → ArgSize
seen_by buffers (Some (Buffer file)) = size.Buffer file (bytes_in buffers file)
seen_by buffers (Some (Local bytes)) = size.Local bytes
seen_by buffers (Some (Plain bytes)) = size.Plain bytes
seen_by buffers None = size.Plain []

-- so many arguments, the first of which has this number
abbrev pub arguments_from : LoadedLaunch → ℕ → ℕ → List ArgSize
arguments_from l n zero = []
arguments_from l n (suc count) = seen_by l.buffers (given_to n l.arguments) ∷ arguments_from l (suc n) count

-- for a kernel of so many parameters
abbrev pub launch_seen : LoadedLaunch → ℕ → LaunchSizes
launch_seen l count = record { kernel = l.kernel; dims = l.dims; global = sizes_list l.global; local = sizes_list l.local; args = arguments_from l 0 count }
