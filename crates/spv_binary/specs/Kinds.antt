-- What the code's kinds and shapes of operands mean.
use Rattle.std.specs.Prelude.{◌≡◌, ℕ, ◌+◌, ◌-◌, ◌%◌, ◌≤◌, ◌==◌, ◌&&◌, nat_lt, nat_le, Bool, true, false, if◌then◌else◌, List, [], ◌∷◌, ◌++◌, length, map, take, drop, find, Option, None, Some, option_map, slice_get, slice_index_or, unwrap_or}
use Rattle.spv_module.specs.declared.op.TheConstants as op
use Rattle.spv_module.specs.declared.forms.Form.{Form}
use Rattle.spv_module.specs.declared.forms.Slot.{Slot}
use Rattle.spv_module.specs.declared.forms.Slot.TheVariants as slot
use Rattle.spv_module.specs.declared.forms.Last.{Last}
use Rattle.spv_module.specs.declared.forms.Last.TheVariants as last
use Rattle.spv_module.specs.Grammar.{Kind, AnId, AnyWord, OneOf, AText, Row, row_of, capabilities, storage_classes, built_ins, execution_models, execution_modes, addressing_models, memory_models, controls}
use Rattle.spv_binary.specs.declared.kind.Kind.{Kind as CodeKind}
use Rattle.spv_binary.specs.declared.kind.Kind.TheVariants as code
use Rattle.spv_binary.specs.declared.kind.Set.{Set}
use Rattle.spv_binary.specs.declared.kind.Set.TheVariants as set
use Rattle.spv_binary.specs.declared.kind.TheConstants.{ENUMERANTS}
use Rattle.spv_binary.specs.declared.shape.Shape.{Shape}
use Rattle.spv_binary.specs.declared.shape.Tail.{Tail}
use Rattle.spv_binary.specs.declared.shape.Tail.TheVariants as tail
use Rattle.spv_binary.specs.declared.shape.TheConstants.{LITERALS}
use Rattle.spv_binary.specs.Faults.{width, behind, each_word, each_id, each_pair, decoration_numbers, operand_kinds}

-- ---- kinds

abbrev pub numbers_of : Set → List ℕ
numbers_of set.AddressingModels = addressing_models
numbers_of set.BuiltIns = built_ins
numbers_of set.Capabilities = capabilities
numbers_of set.Controls = controls
numbers_of set.Decorations = decoration_numbers
numbers_of set.ExecutionModels = execution_models
numbers_of set.ExecutionModes = execution_modes
numbers_of set.MemoryModels = memory_models
numbers_of set.StorageClasses = storage_classes

abbrev pub kind_of : CodeKind → Kind
kind_of code.Id = AnId
kind_of code.Word = AnyWord
kind_of (code.OneOf s) = OneOf (numbers_of s)
kind_of code.Str = AText

-- the enumerants of a slot, by the table of the code
abbrev pub is_enumerant : ℕ → ℕ → ℕ × ℕ × Set → Bool
is_enumerant n at row = (row.0 == n) && (row.1 == at)

abbrev pub row_set : ℕ × ℕ × Set → Set
row_set row = row.2

unfoldable pub set_at : ℕ → ℕ → Option Set
set_at n at = option_map row_set (find (is_enumerant n at) ENUMERANTS)

abbrev pub word_kind : Option Set → CodeKind
word_kind None = code.Word
word_kind (Some s) = code.OneOf s

abbrev pub slot_kind : ℕ → ℕ → Slot → CodeKind
slot_kind n at slot.Id = code.Id
slot_kind n at slot.Str = code.Str
slot_kind n at slot.Word = word_kind (set_at n at)

-- ---- shapes

abbrev pub slot_kinds : ℕ → ℕ → List Slot → List CodeKind
slot_kinds n at [] = []
slot_kinds n at (s ∷ ss) = slot_kind n at s ∷ slot_kinds n (at + 1) ss

-- with results before the slots, and fillers up to eight
abbrev pub with_results : Bool → Bool → List CodeKind → List CodeKind
with_results true true ks = code.Id ∷ code.Id ∷ ks
with_results true false ks = code.Id ∷ (ks ++ code.Id ∷ [])
with_results false true ks = code.Id ∷ (ks ++ code.Id ∷ [])
with_results false false ks = ks ++ code.Id ∷ code.Id ∷ []

abbrev pub one_if : Bool → ℕ
one_if true = 1
one_if false = 0

abbrev pub tail_of_last : Last → Tail
tail_of_last last.Nothing = tail.Nothing
tail_of_last last.OneWord = tail.MaybeWord
tail_of_last last.Words = tail.Words
tail_of_last last.Ids = tail.Ids
tail_of_last last.Pairs = tail.Pairs

abbrev pub is_literals : ℕ → ℕ × Tail → Bool
is_literals n row = row.0 == n

abbrev pub row_tail : ℕ × Tail → Tail
row_tail row = row.1

-- what follows a decoration, by the table of the code
unfoldable pub literals : ℕ → Tail
literals n = unwrap_or (option_map row_tail (find (is_literals n) LITERALS)) tail.Words

-- the decoration among the words of an instruction
unfoldable pub decoration_of : ℕ → List ℕ → Option ℕ
decoration_of n ws = if n == op.DECORATE then slice_get ws 1 else (if n == op.MEMBER_DECORATE then slice_get ws 2 else None)

abbrev pub tail_at : Option ℕ → Last → Tail
tail_at None l = tail_of_last l
tail_at (Some d) l = literals d

-- the shape of an instruction with this opcode, these words behind its first, and this form
abbrev pub shape_of_form : ℕ → List ℕ → Form → Shape
shape_of_form n ws f = record { kinds = with_results f.typed f.makes (slot_kinds n 0 f.slots); count = one_if f.typed + one_if f.makes + f.count; tail = tail_at (decoration_of n ws) f.last }

-- ---- what a shape says of words

abbrev pub fixed_kinds : Shape → List Kind
fixed_kinds s = map kind_of (take s.count s.kinds)

abbrev pub tail_kinds : Tail → List ℕ → List Kind
tail_kinds tail.Nothing ws = []
tail_kinds tail.MaybeWord [] = []
tail_kinds tail.MaybeWord (w ∷ ws) = AnyWord ∷ []
tail_kinds tail.OneWord ws = AnyWord ∷ []
tail_kinds (tail.OneOf s) ws = OneOf (numbers_of s) ∷ []
tail_kinds tail.Words ws = each_word ws
tail_kinds tail.Ids ws = each_id ws
tail_kinds tail.Pairs ws = each_pair ws

abbrev pub shape_kinds : Shape → List ℕ → List Kind
shape_kinds s ws = fixed_kinds s ++ tail_kinds s.tail (behind (fixed_kinds s) ws)

-- The shape says what the operands of a row are.
pub record HasShape (o : Option Row) (ws : List ℕ) (s : Shape) : Type 0 where
  pub row : Row
  pub is : o ≡ Some row
  pub count : s.count ≤ 8
  pub long : length s.kinds ≡ 8
  pub kinds : shape_kinds s ws ≡ operand_kinds row ws

abbrev pub IsShapeOf : ℕ → List ℕ → Option Shape → Type 0
IsShapeOf n ws None = row_of n ≡ None
IsShapeOf n ws (Some s) = HasShape (row_of n) ws s

-- the words behind operands of these kinds, and none where the words are too few
abbrev pub behind_all : List Kind → List ℕ → Option (List ℕ)
behind_all [] ws = Some ws
behind_all (k ∷ ks) [] = None
behind_all (k ∷ ks) (w ∷ ws) = behind_all ks (drop (width k (w ∷ ws)) (w ∷ ws))

-- whether so many words can follow
abbrev pub tail_fits : Tail → ℕ → Bool
tail_fits tail.Nothing left = left == 0
tail_fits tail.MaybeWord left = nat_le left 1
tail_fits tail.OneWord left = left == 1
tail_fits (tail.OneOf s) left = left == 1
tail_fits tail.Words left = true
tail_fits tail.Ids left = true
tail_fits tail.Pairs left = left % 2 == 0

-- what the one at an index may be
abbrev pub tail_kind : Tail → ℕ → CodeKind
tail_kind tail.Nothing at = code.Word
tail_kind tail.MaybeWord at = code.Word
tail_kind tail.OneWord at = code.Word
tail_kind (tail.OneOf s) at = code.OneOf s
tail_kind tail.Words at = code.Word
tail_kind tail.Ids at = code.Id
tail_kind tail.Pairs at = if at % 2 == 0 then code.Word else code.Id

-- what the operand at an index may be
abbrev pub kind_at : Shape → ℕ → CodeKind
kind_at s at = if nat_lt at s.count then slice_index_or s.kinds at code.Word else tail_kind s.tail (at - s.count)
