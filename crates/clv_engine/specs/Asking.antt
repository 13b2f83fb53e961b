-- What the code's commands mean.
use Rattle.std.specs.Prelude.{ℕ, List, Option, Some, None, codes, if◌then◌else◌}
use Rattle.std.specs.Str.{bytes_eq}
use Rattle.clv_engine.specs.declared.command.Command.{Command as Said}
use Rattle.clv_engine.specs.declared.command.Command.TheVariants as said
use Rattle.clv_engine.specs.Command.{Command, Compile, Run}

abbrev pub asked_by : Said → Command
asked_by (said.Compile source target) = Compile source.now target.now
asked_by (said.Run source launch) = Run source.now launch.now

-- the command of a name, with two files
abbrev pub asked_of : List ℕ → List ℕ → List ℕ → Option Command
asked_of name first second = if bytes_eq name (codes "compile") then Some (Compile first second) else (if bytes_eq name (codes "run") then Some (Run first second) else None)
