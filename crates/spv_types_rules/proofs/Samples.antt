-- Three modules that keep the rules 1 to 44, and damaged ones that break one, to see that the definitions mean what they say.
use Rattle.std.proofs.Common.{◌≡◌, ℕ, zero, suc, ◌+◌, Bool, true, false, List, [], ◌∷◌, ◌++◌, Option, Some, None, codes, refl}
use Rattle.std.specs.Prelude.{◌&&◌, ◌||◌, not}
use Rattle.std.specs.List.{list_all}
use Rattle.spv_module.specs.declared.module.Inst.{Inst}
use Rattle.spv_module.specs.declared.module.Operand.{Operand}
use Rattle.spv_module.specs.declared.module.Operand.TheVariants.{Id, Word, Str}
use Rattle.spv_module.specs.declared.op.TheConstants as op
use Rattle.spv_module.specs.Grammar.{Row, row_of, table, is_among}
use Rattle.spv_types_rules.specs.Lines.{typed_opcodes, untyped_opcodes}
use Rattle.spv_types_rules.specs.Rules.{first_word}
use Rattle.spv_types_rules.proofs.Breaking.{least_broken, all_broken, by, without}

abbrev inst : ℕ → List Operand → Inst
inst code operands = record { op = code; operands = operands }

-- `a[get_global_id(0)]=get_global_id(0)+7` over a buffer
abbrev sample : List Inst
sample =
    inst op.CAPABILITY (Word 1 ∷ []) ∷ inst op.EXTENSION (Str (codes "SPV_KHR_non_semantic_info") ∷ []) ∷ inst op.EXT_INST_IMPORT (Id 1 ∷ Str (codes "NonSemantic.ClspvReflection.1") ∷ []) ∷
    inst op.MEMORY_MODEL (Word 0 ∷ Word 1 ∷ []) ∷ inst op.ENTRY_POINT (Word 5 ∷ Id 2 ∷ Str (codes "k") ∷ Id 3 ∷ []) ∷ inst op.STRING (Id 4 ∷ Str (codes "k") ∷ []) ∷
    inst op.STRING (Id 5 ∷ Str (codes "a") ∷ []) ∷ inst op.DECORATE (Id 3 ∷ Word 11 ∷ Word 28 ∷ []) ∷ inst op.DECORATE (Id 10 ∷ Word 6 ∷ Word 4 ∷ []) ∷
    inst op.MEMBER_DECORATE (Id 11 ∷ Word 0 ∷ Word 35 ∷ Word 0 ∷ []) ∷ inst op.DECORATE (Id 11 ∷ Word 2 ∷ []) ∷ inst op.DECORATE (Id 22 ∷ Word 34 ∷ Word 0 ∷ []) ∷
    inst op.DECORATE (Id 22 ∷ Word 33 ∷ Word 0 ∷ []) ∷ inst op.DECORATE (Id 22 ∷ Word 20 ∷ []) ∷ inst op.DECORATE (Id 15 ∷ Word 1 ∷ Word 0 ∷ []) ∷
    inst op.DECORATE (Id 16 ∷ Word 1 ∷ Word 1 ∷ []) ∷ inst op.DECORATE (Id 17 ∷ Word 1 ∷ Word 2 ∷ []) ∷ inst op.DECORATE (Id 18 ∷ Word 11 ∷ Word 25 ∷ []) ∷ inst op.TYPE_VOID (Id 6 ∷ []) ∷
    inst op.TYPE_FUNCTION (Id 7 ∷ Id 6 ∷ []) ∷ inst op.TYPE_INT (Id 8 ∷ Word 32 ∷ Word 0 ∷ []) ∷ inst op.TYPE_VECTOR (Id 9 ∷ Id 8 ∷ Word 3 ∷ []) ∷
    inst op.TYPE_RUNTIME_ARRAY (Id 10 ∷ Id 8 ∷ []) ∷ inst op.TYPE_STRUCT (Id 11 ∷ Id 10 ∷ []) ∷ inst op.TYPE_POINTER (Id 12 ∷ Word 12 ∷ Id 11 ∷ []) ∷
    inst op.TYPE_POINTER (Id 13 ∷ Word 12 ∷ Id 8 ∷ []) ∷ inst op.TYPE_POINTER (Id 14 ∷ Word 1 ∷ Id 9 ∷ []) ∷ inst op.SPEC_CONSTANT (Id 8 ∷ Id 15 ∷ Word 1 ∷ []) ∷
    inst op.SPEC_CONSTANT (Id 8 ∷ Id 16 ∷ Word 1 ∷ []) ∷ inst op.SPEC_CONSTANT (Id 8 ∷ Id 17 ∷ Word 1 ∷ []) ∷ inst op.SPEC_CONSTANT_COMPOSITE (Id 9 ∷ Id 18 ∷ Id 15 ∷ Id 16 ∷ Id 17 ∷ []) ∷
    inst op.CONSTANT (Id 8 ∷ Id 19 ∷ Word 0 ∷ []) ∷ inst op.CONSTANT (Id 8 ∷ Id 20 ∷ Word 1 ∷ []) ∷ inst op.CONSTANT (Id 8 ∷ Id 21 ∷ Word 2 ∷ []) ∷
    inst op.VARIABLE (Id 14 ∷ Id 3 ∷ Word 1 ∷ []) ∷ inst op.VARIABLE (Id 12 ∷ Id 22 ∷ Word 12 ∷ []) ∷ inst op.CONSTANT (Id 8 ∷ Id 34 ∷ Word 7 ∷ []) ∷
    inst op.FUNCTION (Id 6 ∷ Id 2 ∷ Word 0 ∷ Id 7 ∷ []) ∷ inst op.LABEL (Id 23 ∷ []) ∷ inst op.LOAD (Id 9 ∷ Id 24 ∷ Id 3 ∷ []) ∷
    inst op.COMPOSITE_EXTRACT (Id 8 ∷ Id 25 ∷ Id 24 ∷ Word 0 ∷ []) ∷ inst op.LOAD (Id 9 ∷ Id 31 ∷ Id 3 ∷ []) ∷ inst op.COMPOSITE_EXTRACT (Id 8 ∷ Id 32 ∷ Id 31 ∷ Word 0 ∷ []) ∷
    inst op.I_ADD (Id 8 ∷ Id 36 ∷ Id 32 ∷ Id 34 ∷ []) ∷ inst op.ACCESS_CHAIN (Id 13 ∷ Id 26 ∷ Id 22 ∷ Id 19 ∷ Id 25 ∷ []) ∷ inst op.STORE (Id 26 ∷ Id 36 ∷ []) ∷ inst op.RETURN [] ∷
    inst op.FUNCTION_END [] ∷ inst op.EXT_INST (Id 6 ∷ Id 27 ∷ Id 1 ∷ Word 1 ∷ Id 2 ∷ Id 4 ∷ []) ∷ inst op.EXT_INST (Id 6 ∷ Id 28 ∷ Id 1 ∷ Word 2 ∷ Id 5 ∷ []) ∷
    inst op.EXT_INST (Id 6 ∷ Id 29 ∷ Id 1 ∷ Word 3 ∷ Id 27 ∷ Id 19 ∷ Id 19 ∷ Id 19 ∷ Id 28 ∷ []) ∷ inst op.EXT_INST (Id 6 ∷ Id 30 ∷ Id 1 ∷ Word 12 ∷ Id 19 ∷ Id 20 ∷ Id 21 ∷ []) ∷ []

-- two entry points over buffers, push constants, ints of each width, composites and a variable of a function
abbrev rich : List Inst
rich =
    inst op.CAPABILITY (Word 1 ∷ []) ∷ inst op.CAPABILITY (Word 11 ∷ []) ∷ inst op.CAPABILITY (Word 22 ∷ []) ∷ inst op.CAPABILITY (Word 39 ∷ []) ∷ inst op.CAPABILITY (Word 4433 ∷ []) ∷
    inst op.CAPABILITY (Word 4450 ∷ []) ∷ inst op.EXTENSION (Str (codes "SPV_KHR_non_semantic_info") ∷ []) ∷ inst op.EXTENSION (Str (codes "SPV_KHR_8bit_storage") ∷ []) ∷
    inst op.EXT_INST_IMPORT (Id 1 ∷ Str (codes "NonSemantic.ClspvReflection.1") ∷ []) ∷ inst op.MEMORY_MODEL (Word 0 ∷ Word 1 ∷ []) ∷
    inst op.ENTRY_POINT (Word 5 ∷ Id 2 ∷ Str (codes "k") ∷ Id 3 ∷ Id 50 ∷ []) ∷ inst op.ENTRY_POINT (Word 5 ∷ Id 40 ∷ Str (codes "m") ∷ []) ∷ inst op.STRING (Id 4 ∷ Str (codes "k") ∷ []) ∷
    inst op.DECORATE (Id 3 ∷ Word 11 ∷ Word 28 ∷ []) ∷ inst op.DECORATE (Id 50 ∷ Word 11 ∷ Word 24 ∷ []) ∷ inst op.DECORATE (Id 10 ∷ Word 6 ∷ Word 32 ∷ []) ∷
    inst op.MEMBER_DECORATE (Id 11 ∷ Word 0 ∷ Word 35 ∷ Word 0 ∷ []) ∷ inst op.MEMBER_DECORATE (Id 11 ∷ Word 1 ∷ Word 35 ∷ Word 16 ∷ []) ∷
    inst op.MEMBER_DECORATE (Id 11 ∷ Word 2 ∷ Word 35 ∷ Word 32 ∷ []) ∷ inst op.DECORATE (Id 11 ∷ Word 2 ∷ []) ∷ inst op.MEMBER_DECORATE (Id 51 ∷ Word 0 ∷ Word 35 ∷ Word 0 ∷ []) ∷
    inst op.MEMBER_DECORATE (Id 51 ∷ Word 1 ∷ Word 35 ∷ Word 16 ∷ []) ∷ inst op.MEMBER_DECORATE (Id 51 ∷ Word 1 ∷ Word 24 ∷ []) ∷ inst op.DECORATE (Id 22 ∷ Word 34 ∷ Word 0 ∷ []) ∷
    inst op.DECORATE (Id 22 ∷ Word 33 ∷ Word 0 ∷ []) ∷ inst op.DECORATE (Id 22 ∷ Word 20 ∷ []) ∷ inst op.DECORATE (Id 60 ∷ Word 34 ∷ Word 0 ∷ []) ∷
    inst op.DECORATE (Id 60 ∷ Word 33 ∷ Word 1 ∷ []) ∷ inst op.DECORATE (Id 60 ∷ Word 19 ∷ []) ∷ inst op.DECORATE (Id 60 ∷ Word 24 ∷ []) ∷ inst op.DECORATE (Id 61 ∷ Word 2 ∷ []) ∷
    inst op.MEMBER_DECORATE (Id 61 ∷ Word 0 ∷ Word 35 ∷ Word 0 ∷ []) ∷ inst op.MEMBER_DECORATE (Id 61 ∷ Word 1 ∷ Word 35 ∷ Word 4 ∷ []) ∷ inst op.DECORATE (Id 15 ∷ Word 1 ∷ Word 0 ∷ []) ∷
    inst op.DECORATE (Id 16 ∷ Word 1 ∷ Word 1 ∷ []) ∷ inst op.DECORATE (Id 17 ∷ Word 1 ∷ Word 2 ∷ []) ∷ inst op.DECORATE (Id 18 ∷ Word 11 ∷ Word 25 ∷ []) ∷
    inst op.DECORATE (Id 70 ∷ Word 1 ∷ Word 7 ∷ []) ∷ inst op.TYPE_VOID (Id 6 ∷ []) ∷ inst op.TYPE_FUNCTION (Id 7 ∷ Id 6 ∷ []) ∷ inst op.TYPE_INT (Id 8 ∷ Word 32 ∷ Word 0 ∷ []) ∷
    inst op.TYPE_INT (Id 52 ∷ Word 64 ∷ Word 0 ∷ []) ∷ inst op.TYPE_INT (Id 53 ∷ Word 16 ∷ Word 0 ∷ []) ∷ inst op.TYPE_INT (Id 54 ∷ Word 8 ∷ Word 0 ∷ []) ∷
    inst op.TYPE_VECTOR (Id 9 ∷ Id 8 ∷ Word 3 ∷ []) ∷ inst op.TYPE_VECTOR (Id 55 ∷ Id 53 ∷ Word 4 ∷ []) ∷ inst op.TYPE_VECTOR (Id 56 ∷ Id 52 ∷ Word 2 ∷ []) ∷
    inst op.TYPE_STRUCT (Id 51 ∷ Id 56 ∷ Id 55 ∷ []) ∷ inst op.TYPE_RUNTIME_ARRAY (Id 10 ∷ Id 51 ∷ []) ∷ inst op.TYPE_STRUCT (Id 11 ∷ Id 8 ∷ Id 9 ∷ Id 10 ∷ []) ∷
    inst op.TYPE_POINTER (Id 12 ∷ Word 12 ∷ Id 11 ∷ []) ∷ inst op.TYPE_POINTER (Id 13 ∷ Word 12 ∷ Id 8 ∷ []) ∷ inst op.TYPE_POINTER (Id 14 ∷ Word 1 ∷ Id 9 ∷ []) ∷
    inst op.TYPE_STRUCT (Id 61 ∷ Id 8 ∷ Id 54 ∷ []) ∷ inst op.TYPE_POINTER (Id 62 ∷ Word 9 ∷ Id 61 ∷ []) ∷ inst op.TYPE_POINTER (Id 63 ∷ Word 7 ∷ Id 9 ∷ []) ∷
    inst op.TYPE_POINTER (Id 64 ∷ Word 4 ∷ Id 9 ∷ []) ∷ inst op.TYPE_POINTER (Id 65 ∷ Word 12 ∷ Id 56 ∷ []) ∷ inst op.TYPE_POINTER (Id 66 ∷ Word 12 ∷ Id 52 ∷ []) ∷
    inst op.TYPE_POINTER (Id 67 ∷ Word 12 ∷ Id 55 ∷ []) ∷ inst op.TYPE_STRUCT (Id 68 ∷ Id 8 ∷ Id 9 ∷ []) ∷ inst op.TYPE_POINTER (Id 69 ∷ Word 9 ∷ Id 8 ∷ []) ∷
    inst op.SPEC_CONSTANT (Id 8 ∷ Id 15 ∷ Word 1 ∷ []) ∷ inst op.SPEC_CONSTANT (Id 8 ∷ Id 16 ∷ Word 1 ∷ []) ∷ inst op.SPEC_CONSTANT (Id 8 ∷ Id 17 ∷ Word 1 ∷ []) ∷
    inst op.SPEC_CONSTANT_COMPOSITE (Id 9 ∷ Id 18 ∷ Id 15 ∷ Id 16 ∷ Id 17 ∷ []) ∷ inst op.SPEC_CONSTANT (Id 53 ∷ Id 70 ∷ Word 5 ∷ []) ∷ inst op.CONSTANT (Id 8 ∷ Id 19 ∷ Word 0 ∷ []) ∷
    inst op.CONSTANT (Id 8 ∷ Id 20 ∷ Word 1 ∷ []) ∷ inst op.CONSTANT (Id 8 ∷ Id 21 ∷ Word 2 ∷ []) ∷ inst op.CONSTANT (Id 52 ∷ Id 71 ∷ Word 2 ∷ Word 3 ∷ []) ∷
    inst op.CONSTANT (Id 53 ∷ Id 72 ∷ Word 65535 ∷ []) ∷ inst op.VARIABLE (Id 14 ∷ Id 3 ∷ Word 1 ∷ []) ∷ inst op.VARIABLE (Id 14 ∷ Id 50 ∷ Word 1 ∷ []) ∷
    inst op.VARIABLE (Id 12 ∷ Id 22 ∷ Word 12 ∷ []) ∷ inst op.VARIABLE (Id 12 ∷ Id 60 ∷ Word 12 ∷ []) ∷ inst op.VARIABLE (Id 62 ∷ Id 73 ∷ Word 9 ∷ []) ∷
    inst op.VARIABLE (Id 64 ∷ Id 74 ∷ Word 4 ∷ []) ∷ inst op.SPEC_CONSTANT_COMPOSITE (Id 68 ∷ Id 75 ∷ Id 19 ∷ Id 18 ∷ []) ∷ inst op.FUNCTION (Id 6 ∷ Id 2 ∷ Word 0 ∷ Id 7 ∷ []) ∷
    inst op.LABEL (Id 23 ∷ []) ∷ inst op.VARIABLE (Id 63 ∷ Id 76 ∷ Word 7 ∷ []) ∷ inst op.LOAD (Id 9 ∷ Id 24 ∷ Id 3 ∷ []) ∷ inst op.COMPOSITE_EXTRACT (Id 8 ∷ Id 25 ∷ Id 24 ∷ Word 0 ∷ []) ∷
    inst op.LOAD (Id 9 ∷ Id 77 ∷ Id 50 ∷ []) ∷ inst op.I_ADD (Id 9 ∷ Id 78 ∷ Id 24 ∷ Id 77 ∷ []) ∷ inst op.STORE (Id 76 ∷ Id 78 ∷ []) ∷ inst op.STORE (Id 74 ∷ Id 78 ∷ []) ∷
    inst op.ACCESS_CHAIN (Id 65 ∷ Id 26 ∷ Id 22 ∷ Id 21 ∷ Id 25 ∷ Id 19 ∷ []) ∷ inst op.ACCESS_CHAIN (Id 66 ∷ Id 27 ∷ Id 26 ∷ Id 20 ∷ []) ∷ inst op.LOAD (Id 52 ∷ Id 28 ∷ Id 27 ∷ []) ∷
    inst op.I_ADD (Id 52 ∷ Id 29 ∷ Id 28 ∷ Id 71 ∷ []) ∷ inst op.STORE (Id 27 ∷ Id 29 ∷ []) ∷ inst op.ACCESS_CHAIN (Id 69 ∷ Id 30 ∷ Id 73 ∷ Id 19 ∷ []) ∷
    inst op.LOAD (Id 8 ∷ Id 31 ∷ Id 30 ∷ []) ∷ inst op.COMPOSITE_EXTRACT (Id 8 ∷ Id 32 ∷ Id 75 ∷ Word 1 ∷ Word 2 ∷ []) ∷ inst op.RETURN [] ∷ inst op.FUNCTION_END [] ∷
    inst op.FUNCTION (Id 6 ∷ Id 40 ∷ Word 0 ∷ Id 7 ∷ []) ∷ inst op.LABEL (Id 41 ∷ []) ∷ inst op.ACCESS_CHAIN (Id 67 ∷ Id 42 ∷ Id 60 ∷ Id 21 ∷ Id 19 ∷ Id 20 ∷ []) ∷
    inst op.LOAD (Id 55 ∷ Id 43 ∷ Id 42 ∷ []) ∷ inst op.STORE (Id 74 ∷ Id 18 ∷ []) ∷ inst op.RETURN [] ∷ inst op.FUNCTION_END [] ∷
    inst op.EXT_INST (Id 6 ∷ Id 33 ∷ Id 1 ∷ Word 1 ∷ Id 2 ∷ Id 4 ∷ []) ∷ []

sample_is_valid : all_broken sample ≡ []
sample_is_valid = refl

rich_is_valid : all_broken rich ≡ []
rich_is_valid = refl

-- ---- damage: another instruction at a place, one more before it, one less

abbrev put : ℕ → Inst → List Inst → List Inst
put n i [] = []
put zero i (_ ∷ is) = i ∷ is
put (suc n) i (j ∷ is) = j ∷ put n i is

abbrev put_in : ℕ → Inst → List Inst → List Inst
put_in n i [] = i ∷ []
put_in zero i (j ∷ is) = i ∷ (j ∷ is)
put_in (suc n) i (j ∷ is) = j ∷ put_in n i is

abbrev drop : ℕ → List Inst → List Inst
drop n [] = []
drop zero (_ ∷ is) = is
drop (suc n) (j ∷ is) = j ∷ drop n is

order : all_broken (put_in 4 (inst op.STRING (Id 4 ∷ Str (codes "k") ∷ [])) (drop 5 sample)) ≡ by 1 5 ∷ []
order = refl

models : all_broken (put_in 3 (inst op.MEMORY_MODEL (Word 0 ∷ Word 1 ∷ [])) sample) ≡ by 2 4 ∷ []
models = refl

capability : all_broken (put_in 0 (inst op.CAPABILITY (Word 11 ∷ [])) sample) ≡ by 3 0 ∷ []
capability = refl

extension : all_broken (drop 1 sample) ≡ without 4 ∷ []
extension = refl

import : all_broken (put 2 (inst op.EXT_INST_IMPORT (Id 1 ∷ Str (codes "GLSL.std.450") ∷ [])) sample) ≡ by 5 2 ∷ []
import = refl

defined_twice : all_broken (put_in 6 (inst op.STRING (Id 4 ∷ Str (codes "x") ∷ [])) sample) ≡ by 6 6 ∷ []
defined_twice = refl

kind : all_broken (put 48 (inst op.EXT_INST (Id 6 ∷ Id 27 ∷ Id 4 ∷ Word 1 ∷ Id 2 ∷ Id 4 ∷ [])) sample) ≡ by 7 48 ∷ []
kind = refl

type_order : all_broken (put_in 20 (inst op.TYPE_VECTOR (Id 9 ∷ Id 8 ∷ Word 3 ∷ [])) (drop 21 sample)) ≡ by 8 20 ∷ []
type_order = refl

use_before : all_broken (put_in 42 (inst op.I_ADD (Id 8 ∷ Id 36 ∷ Id 32 ∷ Id 34 ∷ [])) (drop 43 sample)) ≡ by 9 42 ∷ []
use_before = refl

second_void : all_broken (put_in 22 (inst op.TYPE_VOID (Id 40 ∷ [])) sample) ≡ by 10 22 ∷ []
second_void = refl

signed : all_broken (put_in 22 (inst op.TYPE_INT (Id 40 ∷ Word 32 ∷ Word 1 ∷ [])) sample) ≡ by 11 22 ∷ []
signed = refl

array_pointer : all_broken (put_in 24 (inst op.TYPE_POINTER (Id 40 ∷ Word 9 ∷ Id 10 ∷ [])) sample) ≡ by 12 22 ∷ []
array_pointer = refl

no_offset : all_broken (drop 9 sample) ≡ by 13 22 ∷ []
no_offset = refl

stride : all_broken (put 8 (inst op.DECORATE (Id 10 ∷ Word 6 ∷ Word 2 ∷ [])) sample) ≡ by 14 22 ∷ []
stride = refl

global_storage : all_broken (put_in 34 (inst op.VARIABLE (Id 14 ∷ Id 40 ∷ Word 7 ∷ [])) sample) ≡ by 16 34 ∷ []
global_storage = refl

no_set : all_broken (drop 11 sample) ≡ by 17 34 ∷ []
no_set = refl

same_place : all_broken (put_in 11 (inst op.DECORATE (Id 40 ∷ Word 33 ∷ Word 0 ∷ [])) (put_in 11 (inst op.DECORATE (Id 40 ∷ Word 34 ∷ Word 0 ∷ [])) (put_in 35 (inst op.VARIABLE (Id 12 ∷ Id 40 ∷ Word 12 ∷ [])) sample))) ≡ by 18 38 ∷ []
same_place = refl

push_block : all_broken (put_in 9 (inst op.MEMBER_DECORATE (Id 40 ∷ Word 0 ∷ Word 35 ∷ Word 0 ∷ [])) (put_in 25 (inst op.TYPE_STRUCT (Id 40 ∷ Id 8 ∷ [])) (put_in 25 (inst op.TYPE_POINTER (Id 41 ∷ Word 9 ∷ Id 40 ∷ [])) (put_in 34 (inst op.VARIABLE (Id 41 ∷ Id 42 ∷ Word 9 ∷ [])) sample)))) ≡ by 19 37 ∷ []
push_block = refl

no_built_in : all_broken (drop 7 sample) ≡ by 20 33 ∷ []
no_built_in = refl

twice_aliased : all_broken (put_in 13 (inst op.DECORATE (Id 22 ∷ Word 20 ∷ [])) sample) ≡ by 21 14 ∷ []
twice_aliased = refl

not_writable : all_broken (put_in 13 (inst op.DECORATE (Id 22 ∷ Word 24 ∷ [])) sample) ≡ by 22 46 ∷ []
not_writable = refl

two_entries : all_broken (put_in 4 (inst op.ENTRY_POINT (Word 5 ∷ Id 2 ∷ Str (codes "m") ∷ Id 3 ∷ [])) sample) ≡ by 25 5 ∷ []
two_entries = refl

interface : all_broken (put 4 (inst op.ENTRY_POINT (Word 5 ∷ Id 2 ∷ Str (codes "k") ∷ [])) sample) ≡ by 27 4 ∷ []
interface = refl

no_group_size : all_broken (drop 17 sample) ≡ without 28 ∷ []
no_group_size = refl

no_spec_id : all_broken (put_in 30 (inst op.SPEC_CONSTANT (Id 8 ∷ Id 40 ∷ Word 1 ∷ [])) sample) ≡ by 29 30 ∷ []
no_spec_id = refl

no_end : all_broken (drop 47 sample) ≡ by 31 37 ∷ []
no_end = refl

no_terminator : all_broken (drop 46 sample) ≡ by 33 38 ∷ by 35 37 ∷ []
no_terminator = refl

vector_operand : all_broken (put 43 (inst op.I_ADD (Id 8 ∷ Id 36 ∷ Id 24 ∷ Id 34 ∷ [])) sample) ≡ by 36 43 ∷ []
vector_operand = refl

stored_vector : all_broken (put 45 (inst op.STORE (Id 26 ∷ Id 24 ∷ [])) sample) ≡ by 37 45 ∷ []
stored_vector = refl

index : all_broken (put 44 (inst op.ACCESS_CHAIN (Id 13 ∷ Id 26 ∷ Id 22 ∷ Id 20 ∷ Id 25 ∷ [])) sample) ≡ by 38 44 ∷ []
index = refl

part : all_broken (put 40 (inst op.COMPOSITE_EXTRACT (Id 8 ∷ Id 25 ∷ Id 24 ∷ Word 3 ∷ [])) sample) ≡ by 41 40 ∷ []
part = refl

returns_nothing : all_broken (put_in 21 (inst op.TYPE_FUNCTION (Id 40 ∷ Id 8 ∷ [])) (put_in 48 (inst op.FUNCTION (Id 8 ∷ Id 41 ∷ Word 0 ∷ Id 40 ∷ [])) (put_in 48 (inst op.LABEL (Id 42 ∷ [])) (put_in 48 (inst op.RETURN []) (put_in 48 (inst op.FUNCTION_END []) sample))))) ≡ by 43 51 ∷ []
returns_nothing = refl

line_type : all_broken (put 48 (inst op.EXT_INST (Id 8 ∷ Id 27 ∷ Id 1 ∷ Word 1 ∷ Id 2 ∷ Id 4 ∷ [])) sample) ≡ by 44 48 ∷ []
line_type = refl

-- ---- the rules on opcodes that the compiler doesn't use yet

-- a kernel that calls a function with a loop, a switch and an if, and uses arrays, composites, an atomic and a barrier
abbrev flow : List Inst
flow =
    inst op.CAPABILITY (Word 1 ∷ []) ∷ inst op.EXTENSION (Str (codes "SPV_KHR_non_semantic_info") ∷ []) ∷
    inst op.EXT_INST_IMPORT (Id 1 ∷ Str (codes "NonSemantic.ClspvReflection.1") ∷ []) ∷ inst op.MEMORY_MODEL (Word 0 ∷ Word 1 ∷ []) ∷
    inst op.ENTRY_POINT (Word 5 ∷ Id 10 ∷ Str (codes "k") ∷ Id 60 ∷ []) ∷ inst op.EXECUTION_MODE (Id 10 ∷ Word 17 ∷ Word 4 ∷ Word 1 ∷ Word 1 ∷ []) ∷
    inst op.STRING (Id 12 ∷ Str (codes "k") ∷ []) ∷ inst op.STRING (Id 78 ∷ Str (codes "a") ∷ []) ∷ inst op.STRING (Id 81 ∷ Str (codes "s") ∷ []) ∷
    inst op.DECORATE (Id 4 ∷ Word 6 ∷ Word 4 ∷ []) ∷ inst op.DECORATE (Id 5 ∷ Word 2 ∷ []) ∷ inst op.MEMBER_DECORATE (Id 5 ∷ Word 0 ∷ Word 35 ∷ Word 0 ∷ []) ∷
    inst op.DECORATE (Id 7 ∷ Word 34 ∷ Word 0 ∷ []) ∷ inst op.DECORATE (Id 7 ∷ Word 33 ∷ Word 0 ∷ []) ∷ inst op.DECORATE (Id 7 ∷ Word 20 ∷ []) ∷
    inst op.DECORATE (Id 16 ∷ Word 1 ∷ Word 3 ∷ []) ∷ inst op.DECORATE (Id 60 ∷ Word 11 ∷ Word 28 ∷ []) ∷ inst op.TYPE_INT (Id 2 ∷ Word 32 ∷ Word 0 ∷ []) ∷
    inst op.TYPE_BOOL (Id 3 ∷ []) ∷ inst op.TYPE_RUNTIME_ARRAY (Id 4 ∷ Id 2 ∷ []) ∷ inst op.TYPE_STRUCT (Id 5 ∷ Id 4 ∷ []) ∷ inst op.TYPE_POINTER (Id 6 ∷ Word 12 ∷ Id 5 ∷ []) ∷
    inst op.VARIABLE (Id 6 ∷ Id 7 ∷ Word 12 ∷ []) ∷ inst op.TYPE_VOID (Id 8 ∷ []) ∷ inst op.TYPE_FUNCTION (Id 9 ∷ Id 8 ∷ []) ∷ inst op.TYPE_VECTOR (Id 14 ∷ Id 2 ∷ Word 2 ∷ []) ∷
    inst op.TYPE_VECTOR (Id 15 ∷ Id 2 ∷ Word 3 ∷ []) ∷ inst op.SPEC_CONSTANT (Id 2 ∷ Id 16 ∷ Word 1 ∷ []) ∷ inst op.TYPE_ARRAY (Id 17 ∷ Id 2 ∷ Id 16 ∷ []) ∷
    inst op.TYPE_POINTER (Id 18 ∷ Word 4 ∷ Id 17 ∷ []) ∷ inst op.VARIABLE (Id 18 ∷ Id 19 ∷ Word 4 ∷ []) ∷ inst op.CONSTANT (Id 2 ∷ Id 20 ∷ Word 3 ∷ []) ∷
    inst op.TYPE_ARRAY (Id 21 ∷ Id 2 ∷ Id 20 ∷ []) ∷ inst op.CONSTANT (Id 2 ∷ Id 22 ∷ Word 5 ∷ []) ∷ inst op.CONSTANT (Id 2 ∷ Id 23 ∷ Word 6 ∷ []) ∷
    inst op.CONSTANT (Id 2 ∷ Id 24 ∷ Word 7 ∷ []) ∷ inst op.CONSTANT_COMPOSITE (Id 21 ∷ Id 25 ∷ Id 22 ∷ Id 23 ∷ Id 24 ∷ []) ∷ inst op.TYPE_POINTER (Id 26 ∷ Word 7 ∷ Id 2 ∷ []) ∷
    inst op.TYPE_FUNCTION (Id 27 ∷ Id 2 ∷ Id 26 ∷ Id 2 ∷ []) ∷ inst op.CONSTANT (Id 2 ∷ Id 33 ∷ Word 0 ∷ []) ∷ inst op.CONSTANT (Id 2 ∷ Id 47 ∷ Word 2 ∷ []) ∷
    inst op.CONSTANT (Id 2 ∷ Id 54 ∷ Word 1 ∷ []) ∷ inst op.TYPE_POINTER (Id 59 ∷ Word 1 ∷ Id 15 ∷ []) ∷ inst op.VARIABLE (Id 59 ∷ Id 60 ∷ Word 1 ∷ []) ∷
    inst op.TYPE_POINTER (Id 72 ∷ Word 4 ∷ Id 2 ∷ []) ∷ inst op.CONSTANT (Id 2 ∷ Id 74 ∷ Word 264 ∷ []) ∷ inst op.TYPE_POINTER (Id 75 ∷ Word 12 ∷ Id 2 ∷ []) ∷
    inst op.CONSTANT (Id 2 ∷ Id 83 ∷ Word 4 ∷ []) ∷ inst op.FUNCTION (Id 8 ∷ Id 10 ∷ Word 0 ∷ Id 9 ∷ []) ∷ inst op.LABEL (Id 11 ∷ []) ∷
    inst op.VARIABLE (Id 26 ∷ Id 58 ∷ Word 7 ∷ []) ∷ inst op.LOAD (Id 15 ∷ Id 61 ∷ Id 60 ∷ []) ∷ inst op.COMPOSITE_EXTRACT (Id 2 ∷ Id 62 ∷ Id 61 ∷ Word 0 ∷ []) ∷
    inst op.STORE (Id 58 ∷ Id 62 ∷ []) ∷ inst op.FUNCTION_CALL (Id 2 ∷ Id 63 ∷ Id 28 ∷ Id 58 ∷ Id 62 ∷ []) ∷ inst op.COMPOSITE_CONSTRUCT (Id 14 ∷ Id 64 ∷ Id 63 ∷ Id 62 ∷ []) ∷
    inst op.VECTOR_SHUFFLE (Id 15 ∷ Id 65 ∷ Id 64 ∷ Id 64 ∷ Word 0 ∷ Word 3 ∷ Word 1 ∷ []) ∷ inst op.COMPOSITE_INSERT (Id 15 ∷ Id 66 ∷ Id 63 ∷ Id 65 ∷ Word 1 ∷ []) ∷
    inst op.VECTOR_EXTRACT_DYNAMIC (Id 2 ∷ Id 67 ∷ Id 66 ∷ Id 62 ∷ []) ∷ inst op.U_LESS_THAN (Id 3 ∷ Id 68 ∷ Id 67 ∷ Id 63 ∷ []) ∷
    inst op.SELECT (Id 2 ∷ Id 69 ∷ Id 68 ∷ Id 67 ∷ Id 63 ∷ []) ∷ inst op.SHIFT_LEFT_LOGICAL (Id 2 ∷ Id 70 ∷ Id 69 ∷ Id 54 ∷ []) ∷
    inst op.COMPOSITE_EXTRACT (Id 2 ∷ Id 71 ∷ Id 25 ∷ Word 2 ∷ []) ∷ inst op.ACCESS_CHAIN (Id 72 ∷ Id 73 ∷ Id 19 ∷ Id 62 ∷ []) ∷ inst op.STORE (Id 73 ∷ Id 70 ∷ []) ∷
    inst op.CONTROL_BARRIER (Id 47 ∷ Id 47 ∷ Id 74 ∷ []) ∷ inst op.ACCESS_CHAIN (Id 75 ∷ Id 76 ∷ Id 7 ∷ Id 33 ∷ Id 62 ∷ []) ∷
    inst op.ATOMIC_I_ADD (Id 2 ∷ Id 77 ∷ Id 76 ∷ Id 54 ∷ Id 33 ∷ Id 71 ∷ []) ∷ inst op.RETURN [] ∷ inst op.FUNCTION_END [] ∷ inst op.FUNCTION (Id 2 ∷ Id 28 ∷ Word 0 ∷ Id 27 ∷ []) ∷
    inst op.FUNCTION_PARAMETER (Id 26 ∷ Id 29 ∷ []) ∷ inst op.FUNCTION_PARAMETER (Id 2 ∷ Id 30 ∷ []) ∷ inst op.LABEL (Id 31 ∷ []) ∷ inst op.VARIABLE (Id 26 ∷ Id 32 ∷ Word 7 ∷ []) ∷
    inst op.STORE (Id 32 ∷ Id 33 ∷ []) ∷ inst op.BRANCH (Id 34 ∷ []) ∷ inst op.LABEL (Id 34 ∷ []) ∷ inst op.LOOP_MERGE (Id 38 ∷ Id 37 ∷ Word 0 ∷ []) ∷ inst op.BRANCH (Id 35 ∷ []) ∷
    inst op.LABEL (Id 35 ∷ []) ∷ inst op.LOAD (Id 2 ∷ Id 39 ∷ Id 32 ∷ []) ∷ inst op.U_LESS_THAN (Id 3 ∷ Id 40 ∷ Id 39 ∷ Id 30 ∷ []) ∷
    inst op.SELECTION_MERGE (Id 41 ∷ Word 0 ∷ []) ∷ inst op.BRANCH_CONDITIONAL (Id 40 ∷ Id 41 ∷ Id 36 ∷ []) ∷ inst op.LABEL (Id 36 ∷ []) ∷ inst op.BRANCH (Id 38 ∷ []) ∷
    inst op.LABEL (Id 41 ∷ []) ∷ inst op.LOAD (Id 2 ∷ Id 46 ∷ Id 32 ∷ []) ∷ inst op.SELECTION_MERGE (Id 42 ∷ Word 0 ∷ []) ∷
    inst op.SWITCH (Id 46 ∷ Id 45 ∷ Word 1 ∷ Id 43 ∷ Word 2 ∷ Id 44 ∷ Word 3 ∷ Id 43 ∷ []) ∷ inst op.LABEL (Id 43 ∷ []) ∷ inst op.STORE (Id 29 ∷ Id 47 ∷ []) ∷
    inst op.BRANCH (Id 44 ∷ []) ∷ inst op.LABEL (Id 44 ∷ []) ∷ inst op.BRANCH (Id 42 ∷ []) ∷ inst op.LABEL (Id 45 ∷ []) ∷ inst op.BRANCH (Id 37 ∷ []) ∷ inst op.LABEL (Id 42 ∷ []) ∷
    inst op.LOAD (Id 2 ∷ Id 48 ∷ Id 32 ∷ []) ∷ inst op.I_EQUAL (Id 3 ∷ Id 49 ∷ Id 48 ∷ Id 30 ∷ []) ∷ inst op.LOGICAL_NOT (Id 3 ∷ Id 50 ∷ Id 49 ∷ []) ∷
    inst op.SELECTION_MERGE (Id 51 ∷ Word 0 ∷ []) ∷ inst op.BRANCH_CONDITIONAL (Id 50 ∷ Id 52 ∷ Id 53 ∷ []) ∷ inst op.LABEL (Id 52 ∷ []) ∷ inst op.RETURN_VALUE (Id 54 ∷ []) ∷
    inst op.LABEL (Id 53 ∷ []) ∷ inst op.STORE (Id 29 ∷ Id 30 ∷ []) ∷ inst op.BRANCH (Id 51 ∷ []) ∷ inst op.LABEL (Id 51 ∷ []) ∷ inst op.BRANCH (Id 37 ∷ []) ∷
    inst op.LABEL (Id 37 ∷ []) ∷ inst op.LOAD (Id 2 ∷ Id 55 ∷ Id 32 ∷ []) ∷ inst op.I_ADD (Id 2 ∷ Id 56 ∷ Id 55 ∷ Id 54 ∷ []) ∷ inst op.STORE (Id 32 ∷ Id 56 ∷ []) ∷
    inst op.BRANCH (Id 34 ∷ []) ∷ inst op.LABEL (Id 38 ∷ []) ∷ inst op.LOAD (Id 2 ∷ Id 57 ∷ Id 29 ∷ []) ∷ inst op.RETURN_VALUE (Id 57 ∷ []) ∷ inst op.FUNCTION_END [] ∷
    inst op.EXT_INST (Id 8 ∷ Id 13 ∷ Id 1 ∷ Word 1 ∷ Id 10 ∷ Id 12 ∷ []) ∷ inst op.EXT_INST (Id 8 ∷ Id 79 ∷ Id 1 ∷ Word 2 ∷ Id 78 ∷ []) ∷
    inst op.EXT_INST (Id 8 ∷ Id 80 ∷ Id 1 ∷ Word 3 ∷ Id 13 ∷ Id 33 ∷ Id 33 ∷ Id 33 ∷ Id 79 ∷ []) ∷ inst op.EXT_INST (Id 8 ∷ Id 82 ∷ Id 1 ∷ Word 2 ∷ Id 81 ∷ []) ∷
    inst op.EXT_INST (Id 8 ∷ Id 84 ∷ Id 1 ∷ Word 11 ∷ Id 13 ∷ Id 54 ∷ Id 20 ∷ Id 83 ∷ Id 82 ∷ []) ∷ []

flow_is_valid : all_broken flow ≡ []
flow_is_valid = refl

abbrev first_of : ℕ → List Inst → List Inst
first_of zero is = []
first_of (suc n) [] = []
first_of (suc n) (i ∷ is) = i ∷ first_of n is

abbrev behind : ℕ → List Inst → List Inst
behind zero is = is
behind (suc n) [] = []
behind (suc n) (i ∷ is) = behind n is

-- other instructions in place of some from a place on
abbrev edit : ℕ → ℕ → List Inst → List Inst → List Inst
edit n count new is = first_of n is ++ (new ++ behind (n + count) is)

mode_of_a_helper : least_broken (edit 5 1 (inst op.EXECUTION_MODE (Id 28 ∷ Word 17 ∷ Word 4 ∷ Word 1 ∷ Word 1 ∷ []) ∷ []) (flow)) ≡ Some (by 7 5)
mode_of_a_helper = refl

branch_to_a_value : least_broken (edit 76 1 (inst op.BRANCH (Id 2 ∷ []) ∷ []) (flow)) ≡ Some (by 7 76)
branch_to_a_value = refl

value_of_another_block : least_broken (edit 107 1 (inst op.STORE (Id 29 ∷ Id 48 ∷ []) ∷ []) (flow)) ≡ Some (by 9 107)
value_of_another_block = refl

parameter_of_another_function : least_broken (edit 53 1 (inst op.STORE (Id 58 ∷ Id 30 ∷ []) ∷ []) (flow)) ≡ Some (by 9 53)
parameter_of_another_function = refl

second_bool : least_broken (edit 28 0 (inst op.TYPE_BOOL (Id 85 ∷ []) ∷ []) (flow)) ≡ Some (by 10 28)
second_bool = refl

array_of_pointers : least_broken (edit 48 0 (inst op.TYPE_ARRAY (Id 85 ∷ Id 6 ∷ Id 20 ∷ []) ∷ []) (flow)) ≡ Some (by 11 48)
array_of_pointers = refl

length_of_zero : least_broken (edit 32 1 (inst op.CONSTANT (Id 2 ∷ Id 85 ∷ Word 0 ∷ []) ∷ inst op.TYPE_ARRAY (Id 21 ∷ Id 2 ∷ Id 85 ∷ []) ∷ []) (flow)) ≡ Some (by 12 33)
length_of_zero = refl

open_array_in_function : least_broken (edit 48 0 (inst op.TYPE_POINTER (Id 85 ∷ Word 7 ∷ Id 17 ∷ []) ∷ []) (flow)) ≡ Some (by 12 28)
open_array_in_function = refl

stride_in_a_group : least_broken (edit 10 0 (inst op.DECORATE (Id 17 ∷ Word 6 ∷ Word 4 ∷ []) ∷ []) (flow)) ≡ Some (by 13 29)
stride_in_a_group = refl

bool_in_a_group : least_broken (edit 48 0 (inst op.TYPE_POINTER (Id 85 ∷ Word 4 ∷ Id 3 ∷ []) ∷ []) (flow)) ≡ Some (by 23 18)
bool_in_a_group = refl

undefined_pointer : least_broken (edit 53 0 (inst op.UNDEF (Id 6 ∷ Id 85 ∷ []) ∷ []) (flow)) ≡ Some (by 24 53)
undefined_pointer = refl

entry_is_called : least_broken (edit 63 0 (inst op.FUNCTION_CALL (Id 8 ∷ Id 85 ∷ Id 10 ∷ []) ∷ []) (flow)) ≡ Some (by 26 48)
entry_is_called = refl

size_of_zero : least_broken (edit 5 1 (inst op.EXECUTION_MODE (Id 10 ∷ Word 17 ∷ Word 4 ∷ Word 1 ∷ Word 0 ∷ []) ∷ []) (flow)) ≡ Some (without 28)
size_of_zero = refl

two_sizes : least_broken (edit 5 0 (inst op.EXECUTION_MODE (Id 10 ∷ Word 17 ∷ Word 4 ∷ Word 1 ∷ Word 1 ∷ []) ∷ []) (flow)) ≡ Some (without 28)
two_sizes = refl

calls_itself : least_broken (edit 113 0 (inst op.FUNCTION_CALL (Id 2 ∷ Id 85 ∷ Id 28 ∷ Id 32 ∷ Id 20 ∷ []) ∷ []) (flow)) ≡ Some (by 30 70)
calls_itself = refl

parameters_in_the_wrong_order : least_broken (edit 71 2 (inst op.FUNCTION_PARAMETER (Id 2 ∷ Id 30 ∷ []) ∷ inst op.FUNCTION_PARAMETER (Id 26 ∷ Id 29 ∷ []) ∷ []) (flow)) ≡ Some (by 31 70)
parameters_in_the_wrong_order = refl

part_of_a_group_passed : least_broken (edit 54 0 (inst op.ACCESS_CHAIN (Id 26 ∷ Id 85 ∷ Id 58 ∷ []) ∷ []) (edit 54 1 (inst op.FUNCTION_CALL (Id 2 ∷ Id 63 ∷ Id 28 ∷ Id 85 ∷ Id 62 ∷ []) ∷ []) (flow))) ≡ Some (by 32 55)
part_of_a_group_passed = refl

merge_too_early : least_broken (edit 83 1 (inst op.SELECTION_MERGE (Id 41 ∷ Word 0 ∷ []) ∷ inst op.UNDEF (Id 2 ∷ Id 85 ∷ []) ∷ []) (flow)) ≡ Some (by 33 80)
merge_too_early = refl

branch_to_the_first_block : least_broken (edit 76 1 (inst op.BRANCH (Id 31 ∷ []) ∷ []) (flow)) ≡ Some (by 34 76)
branch_to_the_first_block = refl

arms_out_of_order : least_broken (edit 90 1 (inst op.SWITCH (Id 46 ∷ Id 45 ∷ Word 1 ∷ Id 44 ∷ Word 2 ∷ Id 43 ∷ Word 3 ∷ Id 43 ∷ []) ∷ []) (flow)) ≡ Some (by 35 70)
arms_out_of_order = refl

exit_in_a_continue_part : least_broken (edit 115 1 (inst op.BRANCH (Id 38 ∷ []) ∷ []) (flow)) ≡ Some (by 35 70)
exit_in_a_continue_part = refl

bools_added : least_broken (edit 101 1 (inst op.NOT (Id 3 ∷ Id 50 ∷ Id 49 ∷ []) ∷ []) (flow)) ≡ Some (by 36 101)
bools_added = refl

stored_bool : least_broken (edit 64 1 (inst op.STORE (Id 73 ∷ Id 68 ∷ []) ∷ []) (flow)) ≡ Some (by 37 64)
stored_bool = refl

argument_of_another_type : least_broken (edit 54 1 (inst op.FUNCTION_CALL (Id 2 ∷ Id 63 ∷ Id 28 ∷ Id 58 ∷ Id 61 ∷ []) ∷ []) (flow)) ≡ Some (by 39 54)
argument_of_another_type = refl

scope_of_another_use : least_broken (edit 67 1 (inst op.ATOMIC_I_ADD (Id 2 ∷ Id 77 ∷ Id 76 ∷ Id 47 ∷ Id 33 ∷ Id 71 ∷ []) ∷ []) (flow)) ≡ Some (by 40 67)
scope_of_another_use = refl

shuffle_past_the_end : least_broken (edit 56 1 (inst op.VECTOR_SHUFFLE (Id 15 ∷ Id 65 ∷ Id 64 ∷ Id 64 ∷ Word 0 ∷ Word 4 ∷ Word 1 ∷ []) ∷ []) (flow)) ≡ Some (by 41 56)
shuffle_past_the_end = refl

literal_twice : least_broken (edit 90 1 (inst op.SWITCH (Id 46 ∷ Id 45 ∷ Word 1 ∷ Id 43 ∷ Word 1 ∷ Id 44 ∷ Word 3 ∷ Id 43 ∷ []) ∷ []) (flow)) ≡ Some (by 42 90)
literal_twice = refl

condition_of_ints : least_broken (edit 84 1 (inst op.BRANCH_CONDITIONAL (Id 30 ∷ Id 41 ∷ Id 36 ∷ []) ∷ []) (flow)) ≡ Some (by 42 84)
condition_of_ints = refl

returned_vector : least_broken (edit 118 1 (inst op.RETURN [] ∷ []) (flow)) ≡ Some (by 43 118)
returned_vector = refl

-- the word of its OpAtomicIAdd
word : first_word flow 67 ≡ 291
word = refl

-- ---- the operands of each opcode are read as its row of the table says

abbrev is_same : Bool → Bool → Bool
is_same true b = b
is_same false b = not b

abbrev reads_by : ℕ → Option Row → Bool
reads_by code None = false
reads_by code (Some r) = is_same r.typed (is_among typed_opcodes code) && is_same (r.makes) (is_among typed_opcodes code || is_among untyped_opcodes code)

abbrev reads : ℕ → Bool
reads code = reads_by code (row_of code)

reads_all : list_all (λ (r : Row). reads r.opcode) table ≡ true
unfolding row_of
reads_all = refl
