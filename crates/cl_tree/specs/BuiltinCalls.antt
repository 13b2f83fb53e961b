-- Which typed calls of built-in functions are typed by their arguments (OpenCL C 1.2, 6.12).
use Rattle.std.specs.Prelude.{nat_eq, not, ◌&&◌, Bool, true, false, List, [], ◌∷◌, Option, Some, None}
use Rattle.cl_types.specs.declared.builtin.Builtin.{Builtin}
use Rattle.cl_types.specs.declared.builtin.Builtin.TheVariants as b
use Rattle.cl_builtins.specs.declared.form.Form.{Form}
use Rattle.cl_builtins.specs.declared.kind.Gentype.{Gentype}
use Rattle.cl_builtins.specs.declared.kind.Kind.{Kind}
use Rattle.cl_builtins.specs.declared.kind.Kind.TheVariants as kind
use Rattle.cl_builtins.specs.declared.name.Rule.{Rule}
use Rattle.cl_builtins.specs.declared.name.Rule.TheVariants as rule
use Rattle.cl_builtins.specs.Kinds.{int, alike, is_same}
use Rattle.cl_builtins.specs.Forms.{form_of}

-- the integer type that a call of this result converts to
abbrev pub target : Kind → Gentype
target (kind.Integers t) = t
target _ = int

-- how arguments fit a built-in function that gives this
abbrev pub rule_for : Builtin → Kind → Rule
rule_for b.GetWorkDim k = rule.Nothing
rule_for b.GetGlobalSize k = rule.Dimension
rule_for b.GetGlobalId k = rule.Dimension
rule_for b.GetLocalSize k = rule.Dimension
rule_for b.GetLocalId k = rule.Dimension
rule_for b.GetNumGroups k = rule.Dimension
rule_for b.GetGroupId k = rule.Dimension
rule_for b.GetGlobalOffset k = rule.Dimension
rule_for b.Abs k = rule.Unsigned 1
rule_for b.AbsDiff k = rule.Unsigned 2
rule_for b.AddSat k = rule.Alike 2
rule_for b.SubSat k = rule.Alike 2
rule_for b.MadSat k = rule.Alike 3
rule_for b.Hadd k = rule.Alike 2
rule_for b.Rhadd k = rule.Alike 2
rule_for b.Min k = rule.Limited 2
rule_for b.Max k = rule.Limited 2
rule_for b.Clamp k = rule.Limited 3
rule_for b.Clz k = rule.Alike 1
rule_for b.Popcount k = rule.Alike 1
rule_for b.MulHi k = rule.Alike 2
rule_for b.MadHi k = rule.Alike 3
rule_for b.Mul24 k = rule.Narrow 2
rule_for b.Mad24 k = rule.Narrow 3
rule_for b.Rotate k = rule.Alike 2
rule_for b.Upsample k = rule.Upsample
rule_for (b.Convert bits signed sat) k = rule.Convert (target k)
rule_for b.As k = rule.Reread (target k)
rule_for (b.Select vector) k = rule.Select
rule_for b.Any k = rule.Test
rule_for b.All k = rule.Test
rule_for (b.Vload n) k = rule.Load n
rule_for (b.Vstore n) k = rule.Store n
rule_for b.Barrier k = rule.Fence
rule_for b.MemFence k = rule.Fence
rule_for b.ReadMemFence k = rule.Fence
rule_for b.WriteMemFence k = rule.Fence
rule_for b.AtomicAdd k = rule.Atomic 1
rule_for b.AtomicSub k = rule.Atomic 1
rule_for b.AtomicXchg k = rule.Atomic 1
rule_for b.AtomicMin k = rule.Atomic 1
rule_for b.AtomicMax k = rule.Atomic 1
rule_for b.AtomicAnd k = rule.Atomic 1
rule_for b.AtomicOr k = rule.Atomic 1
rule_for b.AtomicXor k = rule.Atomic 1
rule_for b.AtomicInc k = rule.Atomic 0
rule_for b.AtomicDec k = rule.Atomic 0
rule_for b.AtomicCmpxchg k = rule.Atomic 2

-- what the word of a built-in function says of its result
abbrev pub says : Builtin → Kind → Bool
says (b.Convert bits signed sat) k = nat_eq bits (target k).bits && alike signed (target k).signed
says (b.Select vector) k = alike vector (not (nat_eq (target k).count 1))
says b k = true

abbrev pub same_kind : Kind → Kind → Bool
same_kind kind.Void kind.Void = true
same_kind kind.Bool kind.Bool = true
same_kind (kind.Integers t) (kind.Integers x) = is_same t x
same_kind (kind.Pointer own s readonly to) (kind.Pointer own2 s2 readonly2 to2) = nat_eq own.0 own2.0
same_kind (kind.Other own) (kind.Other own2) = nat_eq own.0 own2.0
same_kind _ _ = false

abbrev pub same_kinds : List Kind → List Kind → Bool
same_kinds [] [] = true
same_kinds (k ∷ ks) (j ∷ js) = same_kind k j && same_kinds ks js
same_kinds _ _ = false

abbrev pub fits_form : List Kind → Kind → Option Form → Bool
fits_form ks k None = false
fits_form ks k (Some f) = same_kinds f.params ks && same_kind f.result k

-- the arguments have the types that the function takes, and the result the one that it gives
abbrev pub fits_call : Builtin → List Kind → Kind → Bool
fits_call b ks k = says b k && fits_form ks k (form_of (rule_for b k) ks)
