-- A module with a row of each kind, and launches that bind to it and that don't.
use Rattle.std.proofs.Common.{◌≡◌, ℕ, false, List, [], ◌∷◌, Some, None, codes, refl}
use Rattle.launch_text.specs.declared.launch.ArgKind.{ArgKind}
use Rattle.launch_text.specs.declared.launch.ArgKind.TheVariants.{Buffer, Local, Plain}
use Rattle.launch_text.specs.declared.launch.ArgLine.{ArgLine}
use Rattle.launch_text.specs.WorkItems.{Sizes}
use Rattle.launch_text.specs.Rules.{LoadedLaunch, BufferPointer, LocalPointer, PlainValue, broken}
use Rattle.launch_text.specs.BrokenRule.{broken_rule}
use Rattle.spv_module.specs.declared.module.Inst.{Inst}
use Rattle.spv_module.specs.declared.module.Operand.{Operand}
use Rattle.spv_module.specs.declared.module.Operand.TheVariants.{Id, Word, Str}
use Rattle.spv_module.specs.declared.op.TheConstants as op
use Rattle.spv_reflect.specs.declared.rows.ArgKindRow.TheVariants as kind
use Rattle.spv_types_rules.specs.Lines.{whole, lines_of}
use Rattle.spv_meaning.specs.Start.{Bound, Specialised}
use Rattle.clv_promises.specs.Rows.{rows_of}
use Rattle.clv_promises.specs.RowRules.{KeepsRowRules}
use Rattle.clv_promises.specs.Binding.{takes_in, start_of}

abbrev inst : ℕ → List Operand → Inst
inst code operands = record { op = code; operands = operands }

-- __constant uchar t[]={1,2,255};__kernel void k(__global int*a,int n,__local int*s,__constant int*c,uchar3 v){a[0]=n+t[2];}
abbrev body : List Inst
body =
    inst op.CAPABILITY (Word 1 ∷ [])
    ∷ inst op.CAPABILITY (Word 39 ∷ [])
    ∷ inst op.CAPABILITY (Word 4448 ∷ [])
    ∷ inst op.EXTENSION (Str (codes "SPV_KHR_non_semantic_info") ∷ [])
    ∷ inst op.EXTENSION (Str (codes "SPV_KHR_8bit_storage") ∷ [])
    ∷ inst op.EXT_INST_IMPORT (Id 1 ∷ Str (codes "NonSemantic.ClspvReflection.1") ∷ [])
    ∷ inst op.MEMORY_MODEL (Word 0 ∷ Word 1 ∷ [])
    ∷ inst op.ENTRY_POINT (Word 5 ∷ Id 27 ∷ Str (codes "k") ∷ [])
    ∷ inst op.STRING (Id 29 ∷ Str (codes "k") ∷ [])
    ∷ inst op.STRING (Id 42 ∷ Str (codes "a") ∷ [])
    ∷ inst op.STRING (Id 45 ∷ Str (codes "n") ∷ [])
    ∷ inst op.STRING (Id 50 ∷ Str (codes "s") ∷ [])
    ∷ inst op.STRING (Id 53 ∷ Str (codes "c") ∷ [])
    ∷ inst op.STRING (Id 56 ∷ Str (codes "v") ∷ [])
    ∷ inst op.STRING (Id 65 ∷ Str (codes "0102ff") ∷ [])
    ∷ inst op.DECORATE (Id 4 ∷ Word 6 ∷ Word 4 ∷ [])
    ∷ inst op.DECORATE (Id 5 ∷ Word 2 ∷ [])
    ∷ inst op.MEMBER_DECORATE (Id 5 ∷ Word 0 ∷ Word 35 ∷ Word 0 ∷ [])
    ∷ inst op.DECORATE (Id 7 ∷ Word 34 ∷ Word 0 ∷ [])
    ∷ inst op.DECORATE (Id 7 ∷ Word 33 ∷ Word 0 ∷ [])
    ∷ inst op.DECORATE (Id 7 ∷ Word 20 ∷ [])
    ∷ inst op.DECORATE (Id 8 ∷ Word 6 ∷ Word 4 ∷ [])
    ∷ inst op.DECORATE (Id 9 ∷ Word 2 ∷ [])
    ∷ inst op.MEMBER_DECORATE (Id 9 ∷ Word 0 ∷ Word 35 ∷ Word 0 ∷ [])
    ∷ inst op.MEMBER_DECORATE (Id 9 ∷ Word 0 ∷ Word 24 ∷ [])
    ∷ inst op.DECORATE (Id 11 ∷ Word 34 ∷ Word 0 ∷ [])
    ∷ inst op.DECORATE (Id 11 ∷ Word 33 ∷ Word 1 ∷ [])
    ∷ inst op.DECORATE (Id 11 ∷ Word 20 ∷ [])
    ∷ inst op.DECORATE (Id 13 ∷ Word 2 ∷ [])
    ∷ inst op.MEMBER_DECORATE (Id 13 ∷ Word 0 ∷ Word 35 ∷ Word 0 ∷ [])
    ∷ inst op.MEMBER_DECORATE (Id 13 ∷ Word 1 ∷ Word 35 ∷ Word 4 ∷ [])
    ∷ inst op.DECORATE (Id 15 ∷ Word 34 ∷ Word 0 ∷ [])
    ∷ inst op.DECORATE (Id 15 ∷ Word 33 ∷ Word 2 ∷ [])
    ∷ inst op.DECORATE (Id 15 ∷ Word 20 ∷ [])
    ∷ inst op.DECORATE (Id 17 ∷ Word 6 ∷ Word 1 ∷ [])
    ∷ inst op.DECORATE (Id 18 ∷ Word 2 ∷ [])
    ∷ inst op.MEMBER_DECORATE (Id 18 ∷ Word 0 ∷ Word 35 ∷ Word 0 ∷ [])
    ∷ inst op.MEMBER_DECORATE (Id 18 ∷ Word 0 ∷ Word 24 ∷ [])
    ∷ inst op.DECORATE (Id 20 ∷ Word 34 ∷ Word 1 ∷ [])
    ∷ inst op.DECORATE (Id 20 ∷ Word 33 ∷ Word 0 ∷ [])
    ∷ inst op.DECORATE (Id 20 ∷ Word 20 ∷ [])
    ∷ inst op.DECORATE (Id 21 ∷ Word 1 ∷ Word 3 ∷ [])
    ∷ inst op.DECORATE (Id 59 ∷ Word 1 ∷ Word 0 ∷ [])
    ∷ inst op.DECORATE (Id 60 ∷ Word 1 ∷ Word 1 ∷ [])
    ∷ inst op.DECORATE (Id 61 ∷ Word 1 ∷ Word 2 ∷ [])
    ∷ inst op.DECORATE (Id 63 ∷ Word 11 ∷ Word 25 ∷ [])
    ∷ inst op.TYPE_INT (Id 2 ∷ Word 32 ∷ Word 0 ∷ [])
    ∷ inst op.TYPE_INT (Id 3 ∷ Word 8 ∷ Word 0 ∷ [])
    ∷ inst op.TYPE_RUNTIME_ARRAY (Id 4 ∷ Id 2 ∷ [])
    ∷ inst op.TYPE_STRUCT (Id 5 ∷ Id 4 ∷ [])
    ∷ inst op.TYPE_POINTER (Id 6 ∷ Word 12 ∷ Id 5 ∷ [])
    ∷ inst op.VARIABLE (Id 6 ∷ Id 7 ∷ Word 12 ∷ [])
    ∷ inst op.TYPE_RUNTIME_ARRAY (Id 8 ∷ Id 2 ∷ [])
    ∷ inst op.TYPE_STRUCT (Id 9 ∷ Id 8 ∷ [])
    ∷ inst op.TYPE_POINTER (Id 10 ∷ Word 12 ∷ Id 9 ∷ [])
    ∷ inst op.VARIABLE (Id 10 ∷ Id 11 ∷ Word 12 ∷ [])
    ∷ inst op.TYPE_VECTOR (Id 12 ∷ Id 3 ∷ Word 3 ∷ [])
    ∷ inst op.TYPE_STRUCT (Id 13 ∷ Id 2 ∷ Id 12 ∷ [])
    ∷ inst op.TYPE_POINTER (Id 14 ∷ Word 12 ∷ Id 13 ∷ [])
    ∷ inst op.VARIABLE (Id 14 ∷ Id 15 ∷ Word 12 ∷ [])
    ∷ inst op.CONSTANT (Id 2 ∷ Id 16 ∷ Word 3 ∷ [])
    ∷ inst op.TYPE_ARRAY (Id 17 ∷ Id 3 ∷ Id 16 ∷ [])
    ∷ inst op.TYPE_STRUCT (Id 18 ∷ Id 17 ∷ [])
    ∷ inst op.TYPE_POINTER (Id 19 ∷ Word 12 ∷ Id 18 ∷ [])
    ∷ inst op.VARIABLE (Id 19 ∷ Id 20 ∷ Word 12 ∷ [])
    ∷ inst op.SPEC_CONSTANT (Id 2 ∷ Id 21 ∷ Word 1 ∷ [])
    ∷ inst op.TYPE_ARRAY (Id 22 ∷ Id 2 ∷ Id 21 ∷ [])
    ∷ inst op.TYPE_POINTER (Id 23 ∷ Word 4 ∷ Id 22 ∷ [])
    ∷ inst op.VARIABLE (Id 23 ∷ Id 24 ∷ Word 4 ∷ [])
    ∷ inst op.TYPE_VOID (Id 25 ∷ [])
    ∷ inst op.TYPE_FUNCTION (Id 26 ∷ Id 25 ∷ [])
    ∷ inst op.CONSTANT (Id 2 ∷ Id 31 ∷ Word 0 ∷ [])
    ∷ inst op.TYPE_POINTER (Id 32 ∷ Word 12 ∷ Id 2 ∷ [])
    ∷ inst op.CONSTANT (Id 2 ∷ Id 35 ∷ Word 2 ∷ [])
    ∷ inst op.TYPE_POINTER (Id 36 ∷ Word 12 ∷ Id 3 ∷ [])
    ∷ inst op.CONSTANT (Id 2 ∷ Id 47 ∷ Word 1 ∷ [])
    ∷ inst op.CONSTANT (Id 2 ∷ Id 48 ∷ Word 4 ∷ [])
    ∷ inst op.SPEC_CONSTANT (Id 2 ∷ Id 59 ∷ Word 1 ∷ [])
    ∷ inst op.SPEC_CONSTANT (Id 2 ∷ Id 60 ∷ Word 1 ∷ [])
    ∷ inst op.SPEC_CONSTANT (Id 2 ∷ Id 61 ∷ Word 1 ∷ [])
    ∷ inst op.TYPE_VECTOR (Id 62 ∷ Id 2 ∷ Word 3 ∷ [])
    ∷ inst op.SPEC_CONSTANT_COMPOSITE (Id 62 ∷ Id 63 ∷ Id 59 ∷ Id 60 ∷ Id 61 ∷ [])
    ∷ inst op.FUNCTION (Id 25 ∷ Id 27 ∷ Word 0 ∷ Id 26 ∷ [])
    ∷ inst op.LABEL (Id 28 ∷ [])
    ∷ inst op.ACCESS_CHAIN (Id 32 ∷ Id 33 ∷ Id 15 ∷ Id 31 ∷ [])
    ∷ inst op.LOAD (Id 2 ∷ Id 34 ∷ Id 33 ∷ [])
    ∷ inst op.ACCESS_CHAIN (Id 36 ∷ Id 37 ∷ Id 20 ∷ Id 31 ∷ Id 35 ∷ [])
    ∷ inst op.LOAD (Id 3 ∷ Id 38 ∷ Id 37 ∷ [])
    ∷ inst op.ACCESS_CHAIN (Id 32 ∷ Id 39 ∷ Id 7 ∷ Id 31 ∷ Id 31 ∷ [])
    ∷ inst op.U_CONVERT (Id 2 ∷ Id 40 ∷ Id 38 ∷ [])
    ∷ inst op.I_ADD (Id 2 ∷ Id 41 ∷ Id 34 ∷ Id 40 ∷ [])
    ∷ inst op.STORE (Id 39 ∷ Id 41 ∷ [])
    ∷ inst op.RETURN ([])
    ∷ inst op.FUNCTION_END ([])
    ∷ inst op.EXT_INST (Id 25 ∷ Id 30 ∷ Id 1 ∷ Word 1 ∷ Id 27 ∷ Id 29 ∷ [])
    ∷ inst op.EXT_INST (Id 25 ∷ Id 43 ∷ Id 1 ∷ Word 2 ∷ Id 42 ∷ [])
    ∷ inst op.EXT_INST (Id 25 ∷ Id 44 ∷ Id 1 ∷ Word 3 ∷ Id 30 ∷ Id 31 ∷ Id 31 ∷ Id 31 ∷ Id 43 ∷ [])
    ∷ inst op.EXT_INST (Id 25 ∷ Id 46 ∷ Id 1 ∷ Word 2 ∷ Id 45 ∷ [])
    ∷ inst op.EXT_INST (Id 25 ∷ Id 49 ∷ Id 1 ∷ Word 5 ∷ Id 30 ∷ Id 47 ∷ Id 31 ∷ Id 35 ∷ Id 31 ∷ Id 48 ∷ Id 46 ∷ [])
    ∷ inst op.EXT_INST (Id 25 ∷ Id 51 ∷ Id 1 ∷ Word 2 ∷ Id 50 ∷ [])
    ∷ inst op.EXT_INST (Id 25 ∷ Id 52 ∷ Id 1 ∷ Word 11 ∷ Id 30 ∷ Id 35 ∷ Id 16 ∷ Id 48 ∷ Id 51 ∷ [])
    ∷ inst op.EXT_INST (Id 25 ∷ Id 54 ∷ Id 1 ∷ Word 2 ∷ Id 53 ∷ [])
    ∷ inst op.EXT_INST (Id 25 ∷ Id 55 ∷ Id 1 ∷ Word 3 ∷ Id 30 ∷ Id 16 ∷ Id 31 ∷ Id 47 ∷ Id 54 ∷ [])
    ∷ inst op.EXT_INST (Id 25 ∷ Id 57 ∷ Id 1 ∷ Word 2 ∷ Id 56 ∷ [])
    ∷ inst op.EXT_INST (Id 25 ∷ Id 58 ∷ Id 1 ∷ Word 5 ∷ Id 30 ∷ Id 48 ∷ Id 31 ∷ Id 35 ∷ Id 48 ∷ Id 48 ∷ Id 57 ∷ [])
    ∷ inst op.EXT_INST (Id 25 ∷ Id 64 ∷ Id 1 ∷ Word 12 ∷ Id 31 ∷ Id 47 ∷ Id 35 ∷ [])
    ∷ inst op.EXT_INST (Id 25 ∷ Id 66 ∷ Id 1 ∷ Word 21 ∷ Id 47 ∷ Id 31 ∷ Id 65 ∷ [])
    ∷ []

-- ---- its rows

rows : rows_of (whole (lines_of body)) ≡ record {
  kernels = record {
    function = 27;
    name = codes "k";
    args = record { name = codes "a"; kind = kind.Buffer 0 0 } ∷ record { name = codes "n"; kind = kind.PlainStorage 0 2 0 4 } ∷ record { name = codes "s"; kind = kind.Local 3 4 } ∷ record { name = codes "c"; kind = kind.Buffer 0 1 } ∷ record { name = codes "v"; kind = kind.PlainStorage 0 2 4 4 } ∷ [];
    required = None;
  } ∷ [];
  sizes = Some (0 ∷ 1 ∷ 2 ∷ []);
  dim = None;
  constants = Some (record { set = 1; binding = 0; bytes = 1 ∷ 2 ∷ 255 ∷ [] });
}
rows = refl

rules : KeepsRowRules (whole (lines_of body))
rules = record { known = refl; operands = refl; kernels = refl; entries = refl; ordinals = refl; forms = refl; uses = refl; ranges = refl; sizes = refl; one_dimension = refl; one_constants = refl; data_fills = refl; one_required = refl }

-- ---- launches

abbrev line : ℕ → ArgKind → ArgLine
line ordinal given = record { ordinal = ordinal; kind = given }

abbrev along_x : ℕ → Sizes
along_x n = record { x = n; y = 1; z = 1 }

-- with so many bytes of local memory, and these bytes for the last argument
abbrev launch : ℕ → List ℕ → LoadedLaunch
launch bytes v = record {
  kernel = codes "k";
  dims = 1;
  global = along_x 4;
  local = along_x 2;
  buffers = (10 ∷ 11 ∷ 12 ∷ 13 ∷ []) ∷ (20 ∷ 21 ∷ 22 ∷ 23 ∷ []) ∷ [];
  arguments = line 3 (Buffer 0) ∷ line 0 (Buffer 1) ∷ line 1 (Plain (5 ∷ 0 ∷ 0 ∷ 1 ∷ [])) ∷ line 2 (Local bytes) ∷ line 4 (Plain v) ∷ [];
}

takes : takes_in body (codes "k") ≡ Some (record {
  parameters = BufferPointer (record { size = 4; scalars = (0, 32) ∷ [] }) false ∷ PlainValue 4 ∷ LocalPointer 4 ∷ BufferPointer (record { size = 4; scalars = (0, 32) ∷ [] }) false ∷ PlainValue 4 ∷ [];
  required = [];
})
takes = refl

fits : broken_rule (launch 32 (7 ∷ 8 ∷ 9 ∷ 0 ∷ [])) (takes_in body (codes "k")) ≡ None
fits = refl

-- 33 bytes are no whole number of ints, and 3 bytes no uchar3
odd_local : broken_rule (launch 33 (7 ∷ 8 ∷ 9 ∷ 0 ∷ [])) (takes_in body (codes "k")) ≡ Some (broken 17 (Some 2))
odd_local = refl

short_plain : broken_rule (launch 33 (7 ∷ 8 ∷ 9 ∷ [])) (takes_in body (codes "k")) ≡ Some (broken 13 (Some 4))
short_plain = refl

abbrev bound : ℕ → ℕ → ℕ → Bound
bound set binding buffer = record { set = set; binding = binding; buffer = buffer }

abbrev spec : ℕ → ℕ → Specialised
spec id value = record { id = id; value = value }

-- The launch's two buffers and the constant data are shared, and the plain block stands behind them. The local argument has eight ints.
start : start_of body (launch 32 (7 ∷ 8 ∷ 9 ∷ 0 ∷ [])) ≡ Some (record {
  function = 27;
  global = along_x 4;
  local = along_x 2;
  buffers = (10 ∷ 11 ∷ 12 ∷ 13 ∷ []) ∷ (20 ∷ 21 ∷ 22 ∷ 23 ∷ []) ∷ (1 ∷ 2 ∷ 255 ∷ []) ∷ (5 ∷ 0 ∷ 0 ∷ 1 ∷ 7 ∷ 8 ∷ 9 ∷ 0 ∷ []) ∷ [];
  shared = 3;
  bound = bound 0 0 1 ∷ bound 0 1 0 ∷ bound 1 0 2 ∷ bound 0 2 3 ∷ [];
  push = [];
  specialised = spec 0 2 ∷ spec 1 1 ∷ spec 2 1 ∷ spec 3 8 ∷ [];
})
start = refl
