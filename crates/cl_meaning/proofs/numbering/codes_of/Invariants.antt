use Rattle.std.proofs.Common.{◌≡◌, map, take}
use Rattle.cl_meaning.specs.Code.{code_of}
use Rattle.cl_meaning.specs.Views.{code_by}
use Rattle.cl_meaning.proofs.numbering.codes_of.Given as goal

abbrev pub invariant-loop-function : goal.invariant-loop-function
invariant-loop-function l = map code_by l.codes.items ≡ map (code_of l.types) (take l.function-index l.functions)
