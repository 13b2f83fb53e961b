-- The definitions at values that another assembler gives.
use Rattle.std.proofs.Common.{◌≡◌, ℕ, true, false, List, [], ◌∷◌, refl, arith}
use Rattle.std.specs.Prelude.{codes, map}
use Rattle.std.proofs.Common.{inl}
use Rattle.std.specs.List.{flat_map}
use Rattle.spv_module.specs.declared.op.TheConstants as op
use Rattle.spv_module.specs.declared.enumerant.capability.TheConstants as capability
use Rattle.spv_module.specs.declared.enumerant.decoration.TheConstants as decoration
use Rattle.spv_module.specs.declared.enumerant.built_in.TheConstants as built_in
use Rattle.spv_module.specs.declared.enumerant.storage_class.TheConstants as storage_class
use Rattle.spv_module.specs.declared.enumerant.scope.TheConstants as scope
use Rattle.spv_module.specs.declared.enumerant.memory_semantics.TheConstants as semantics
use Rattle.spv_module.specs.declared.module.Module.{Module}
use Rattle.spv_module.specs.declared.module.Inst.{Inst}
use Rattle.spv_module.specs.declared.module.Operand.{Operand}
use Rattle.spv_module.specs.declared.module.Operand.TheVariants.{Id, Word, Str}
use Rattle.spv_module.specs.Grammar.{Row, Decoration, row_of, has_form, table, capabilities, storage_classes, decorations, built_ins}
use Rattle.spv_module.specs.Words.{string_words, module_words, little_endian, big_endian, AreSpelled, IsSpelled, Spells}
use Rattle.spv_module.proofs.Lists.{all_ids-map, all_pairs-flat_map, pair_of}
use Rattle.spv_module.proofs.Tests.{AreSpelled-tested}

abbrev opcode_of : Row → ℕ
opcode_of r = r.opcode

abbrev number_of : Decoration → ℕ
number_of d = d.number

-- ---- numbers, in the order of the table and of the lists

opcodes : map opcode_of table ≡
    1 ∷ 5 ∷ 6 ∷ 7 ∷ 10 ∷ 11 ∷ 12 ∷ 14 ∷ 15 ∷ 16 ∷ 17 ∷ 19 ∷ 20 ∷ 21 ∷ 23 ∷ 28 ∷ 29 ∷ 30 ∷ 32 ∷ 33
    ∷ 41 ∷ 42 ∷ 43 ∷ 44 ∷ 46 ∷ 50 ∷ 51 ∷ 54 ∷ 55 ∷ 56 ∷ 57 ∷ 59 ∷ 61 ∷ 62 ∷ 65 ∷ 71 ∷ 72 ∷ 77 ∷ 78 ∷ 79
    ∷ 80 ∷ 81 ∷ 82 ∷ 113 ∷ 114 ∷ 124 ∷ 126 ∷ 128 ∷ 130 ∷ 132 ∷ 134 ∷ 135 ∷ 137 ∷ 138 ∷ 166 ∷ 167 ∷ 168 ∷ 169 ∷ 170 ∷ 171
    ∷ 172 ∷ 173 ∷ 174 ∷ 175 ∷ 176 ∷ 177 ∷ 178 ∷ 179 ∷ 194 ∷ 195 ∷ 196 ∷ 197 ∷ 198 ∷ 199 ∷ 200 ∷ 224 ∷ 225 ∷ 229 ∷ 230 ∷ 232
    ∷ 233 ∷ 234 ∷ 235 ∷ 236 ∷ 237 ∷ 238 ∷ 239 ∷ 240 ∷ 241 ∷ 242 ∷ 246 ∷ 247 ∷ 248 ∷ 249 ∷ 250 ∷ 251 ∷ 253 ∷ 254 ∷ 255
    ∷ []
opcodes = refl

known_capabilities : capabilities ≡ 1 ∷ 11 ∷ 22 ∷ 39 ∷ 4433 ∷ 4435 ∷ 4448 ∷ 4450 ∷ []
known_capabilities = refl

known_storage_classes : storage_classes ≡ 1 ∷ 4 ∷ 7 ∷ 9 ∷ 12 ∷ []
known_storage_classes = refl

known_decorations : map number_of decorations ≡ 1 ∷ 2 ∷ 6 ∷ 11 ∷ 19 ∷ 20 ∷ 24 ∷ 33 ∷ 34 ∷ 35 ∷ []
known_decorations = refl

known_built_ins : built_ins ≡ 24 ∷ 25 ∷ 26 ∷ 27 ∷ 28 ∷ []
known_built_ins = refl

known_scopes : scope.DEVICE ∷ scope.WORKGROUP ∷ [] ≡ 1 ∷ 2 ∷ []
known_scopes = refl

known_semantics : semantics.NONE ∷ semantics.ACQUIRE_RELEASE ∷ semantics.UNIFORM_MEMORY ∷ semantics.WORKGROUP_MEMORY ∷ [] ≡ 0 ∷ 8 ∷ 64 ∷ 256 ∷ []
known_semantics = refl

-- ---- forms, at any ids and any words

module _ (a b c d : ℕ) where
  capability_form : has_form op.CAPABILITY (Word capability.INT8 ∷ []) ≡ true
  unfolding row_of
  capability_form = refl

  -- of Geometry, which the compiler doesn't know
  other_capability_form : has_form op.CAPABILITY (Word 2 ∷ []) ≡ false
  unfolding row_of
  other_capability_form = refl

  entry_point_form : has_form op.ENTRY_POINT (Word 5 ∷ Id a ∷ Str (codes "main") ∷ Id b ∷ Id c ∷ []) ≡ true
  unfolding row_of
  entry_point_form = refl

  type_int_form : has_form op.TYPE_INT (Id a ∷ Word b ∷ Word c ∷ []) ≡ true
  unfolding row_of
  type_int_form = refl

  constant_form : has_form op.CONSTANT (Id a ∷ Id b ∷ Word c ∷ []) ≡ true
  unfolding row_of
  constant_form = refl

  long_constant_form : has_form op.CONSTANT (Id a ∷ Id b ∷ Word c ∷ Word d ∷ []) ≡ true
  unfolding row_of
  long_constant_form = refl

  longer_constant_form : has_form op.CONSTANT (Id a ∷ Id b ∷ Word c ∷ Word d ∷ Word d ∷ []) ≡ false
  unfolding row_of
  longer_constant_form = refl

  variable_form : has_form op.VARIABLE (Id a ∷ Id b ∷ Word storage_class.FUNCTION ∷ []) ≡ true
  unfolding row_of
  variable_form = refl

  -- Private storage
  other_variable_form : has_form op.VARIABLE (Id a ∷ Id b ∷ Word 6 ∷ []) ≡ false
  unfolding row_of
  other_variable_form = refl

  switch_form : has_form op.SWITCH (Id a ∷ Id b ∷ Word c ∷ Id d ∷ Word d ∷ Id c ∷ []) ≡ true
  unfolding row_of
  switch_form = refl

  half_switch_form : has_form op.SWITCH (Id a ∷ Id b ∷ Word c ∷ []) ≡ false
  unfolding row_of
  half_switch_form = refl

  loop_merge_form : has_form op.LOOP_MERGE (Id a ∷ Id b ∷ Word 0 ∷ []) ≡ true
  unfolding row_of
  loop_merge_form = refl

  -- Unroll
  other_loop_merge_form : has_form op.LOOP_MERGE (Id a ∷ Id b ∷ Word 1 ∷ []) ≡ false
  unfolding row_of
  other_loop_merge_form = refl

  -- a result type is missing, and an id stands where a word should
  load_form : has_form op.LOAD (Id a ∷ Id b ∷ []) ≡ false
  unfolding row_of
  load_form = refl

  extract_form : has_form op.COMPOSITE_EXTRACT (Id a ∷ Id b ∷ Id c ∷ Id d ∷ []) ≡ false
  unfolding row_of
  extract_form = refl

  block_form : has_form op.DECORATE (Id a ∷ Word decoration.BLOCK ∷ []) ≡ true
  unfolding row_of
  block_form = refl

  block_with_a_word_form : has_form op.DECORATE (Id a ∷ Word decoration.BLOCK ∷ Word b ∷ []) ≡ false
  unfolding row_of
  block_with_a_word_form = refl

  offset_form : has_form op.MEMBER_DECORATE (Id a ∷ Word b ∷ Word decoration.OFFSET ∷ Word c ∷ []) ≡ true
  unfolding row_of
  offset_form = refl

  offset_alone_form : has_form op.MEMBER_DECORATE (Id a ∷ Word b ∷ Word decoration.OFFSET ∷ []) ≡ false
  unfolding row_of
  offset_alone_form = refl

  built_in_form : has_form op.DECORATE (Id a ∷ Word decoration.BUILT_IN ∷ Word built_in.WORKGROUP_SIZE ∷ []) ≡ true
  unfolding row_of
  built_in_form = refl

  -- Position
  other_built_in_form : has_form op.DECORATE (Id a ∷ Word decoration.BUILT_IN ∷ Word 0 ∷ []) ≡ false
  unfolding row_of
  other_built_in_form = refl

  -- ColMajor
  other_decoration_form : has_form op.DECORATE (Id a ∷ Word 5 ∷ []) ≡ false
  unfolding row_of
  other_decoration_form = refl

  -- OpFAdd
  no_form : has_form 129 (Id a ∷ Id b ∷ Id c ∷ Id d ∷ []) ≡ false
  unfolding row_of
  no_form = refl

-- ---- forms of operands that a list gives

name_form : (a : ℕ) (s : List ℕ) → has_form op.NAME (Id a ∷ Str s ∷ []) ≡ true
unfolding row_of
name_form a s = refl

type_struct_form : (a : ℕ) (members : List ℕ) → has_form op.TYPE_STRUCT (Id a ∷ map Id members) ≡ true
unfolding row_of
type_struct_form a members = all_ids-map members

switch_cases_form : (a b : ℕ) (cases : List (ℕ × ℕ)) → has_form op.SWITCH (Id a ∷ Id b ∷ flat_map pair_of cases) ≡ true
unfolding row_of
switch_cases_form a b cases = all_pairs-flat_map cases

-- ---- words

empty_text : string_words [] ≡ 0 ∷ []
empty_text = refl

whole_text : string_words (codes "main") ≡ 0x6e69616d ∷ 0 ∷ []
whole_text = refl

other_text : string_words (codes "entry") ≡ 0x72746e65 ∷ 0x79 ∷ []
other_text = refl

abbrev inst : ℕ → List Operand → Inst
inst n os = record { op = n; operands = os }

-- a kernel that does nothing, and a long constant
abbrev body : List Inst
body =
    inst op.CAPABILITY (Word 1 ∷ [])
    ∷ inst op.MEMORY_MODEL (Word 0 ∷ Word 1 ∷ [])
    ∷ inst op.ENTRY_POINT (Word 5 ∷ Id 4 ∷ Str (codes "main") ∷ Id 2 ∷ [])
    ∷ inst op.EXECUTION_MODE (Id 4 ∷ Word 17 ∷ Word 8 ∷ Word 1 ∷ Word 1 ∷ [])
    ∷ inst op.NAME (Id 4 ∷ Str (codes "entry") ∷ [])
    ∷ inst op.DECORATE (Id 2 ∷ Word 11 ∷ Word 28 ∷ [])
    ∷ inst op.TYPE_VOID (Id 1 ∷ [])
    ∷ inst op.TYPE_INT (Id 3 ∷ Word 64 ∷ Word 0 ∷ [])
    ∷ inst op.CONSTANT (Id 3 ∷ Id 5 ∷ Word 2 ∷ Word 1 ∷ [])
    ∷ inst op.TYPE_FUNCTION (Id 7 ∷ Id 1 ∷ [])
    ∷ inst op.FUNCTION (Id 1 ∷ Id 4 ∷ Word 0 ∷ Id 7 ∷ [])
    ∷ inst op.LABEL (Id 6 ∷ [])
    ∷ inst op.RETURN []
    ∷ inst op.FUNCTION_END []
    ∷ []

abbrev kernel : Module
kernel = record { version = 0x00010300; generator = 0x00070000; bound = 8; body = body }

-- what spirv-as gives
abbrev words : List ℕ
words =
    0x07230203 ∷ 0x00010300 ∷ 0x00070000 ∷ 0x00000008
    ∷ 0x00000000 ∷ 0x00020011 ∷ 0x00000001 ∷ 0x0003000e
    ∷ 0x00000000 ∷ 0x00000001 ∷ 0x0006000f ∷ 0x00000005
    ∷ 0x00000004 ∷ 0x6e69616d ∷ 0x00000000 ∷ 0x00000002
    ∷ 0x00060010 ∷ 0x00000004 ∷ 0x00000011 ∷ 0x00000008
    ∷ 0x00000001 ∷ 0x00000001 ∷ 0x00040005 ∷ 0x00000004
    ∷ 0x72746e65 ∷ 0x00000079 ∷ 0x00040047 ∷ 0x00000002
    ∷ 0x0000000b ∷ 0x0000001c ∷ 0x00020013 ∷ 0x00000001
    ∷ 0x00040015 ∷ 0x00000003 ∷ 0x00000040 ∷ 0x00000000
    ∷ 0x0005002b ∷ 0x00000003 ∷ 0x00000005 ∷ 0x00000002
    ∷ 0x00000001 ∷ 0x00030021 ∷ 0x00000007 ∷ 0x00000001
    ∷ 0x00050036 ∷ 0x00000001 ∷ 0x00000004 ∷ 0x00000000
    ∷ 0x00000007 ∷ 0x000200f8 ∷ 0x00000006 ∷ 0x000100fd
    ∷ 0x00010038
    ∷ []

kernel_words : module_words kernel ≡ words
kernel_words = refl

-- the bytes of the second word and of one with four different bytes
bytes_low_first : little_endian (0x00010300 ∷ 0x6e69616d ∷ []) ≡ 0x00 ∷ 0x03 ∷ 0x01 ∷ 0x00 ∷ 0x6d ∷ 0x61 ∷ 0x69 ∷ 0x6e ∷ []
bytes_low_first = refl

bytes_high_first : big_endian (0x00010300 ∷ 0x6e69616d ∷ []) ≡ 0x00 ∷ 0x01 ∷ 0x03 ∷ 0x00 ∷ 0x6e ∷ 0x69 ∷ 0x61 ∷ 0x6d ∷ []
bytes_high_first = refl

-- ---- a module that is spelled

body_spelled : AreSpelled 8 body
unfolding row_of
body_spelled = AreSpelled-tested 8 body refl

kernel_spelled : IsSpelled kernel
kernel_spelled = record { version = refl; generator = omega arith; bound_low = omega arith; bound_high = omega arith; body = body_spelled; size = omega arith }

kernel_spells : Spells kernel (little_endian words)
kernel_spells = record { spelled = kernel_spelled; spelling = inl refl }
