use Rattle.std.proofs.Common.{◌≡◌, map, drop}
use Rattle.spv_binary.specs.Kinds.{kind_of, behind_all}
use Rattle.spv_binary.proofs.shape.behind_all.Given as goal

abbrev pub invariant-loop-kind : goal.invariant-loop-kind
invariant-loop-kind l = behind_all (map kind_of (drop l.kind-index l.kinds)) l.rest ≡ behind_all (map kind_of l.kinds) l.words
