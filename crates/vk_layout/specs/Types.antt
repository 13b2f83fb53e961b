-- Which types of a module stand for types of a unit (SPIR-V 1.3, 3.32.6; Vulkan, 15.6.4). Every int has signedness 0. In buffers and push constants types
-- carry their layout as decorations, and elsewhere none.
use Rattle.std.specs.Prelude.{ℕ, suc, ◌+◌, nat_eq, ◌==◌, Bool, true, false, ◌&&◌, if◌then◌else◌, List, [], ◌∷◌, Option, Some, None, slice_get}
use Rattle.cl_types.specs.declared.types.ClType.{ClType}
use Rattle.cl_types.specs.declared.types.ClType.TheVariants as ty
use Rattle.cl_types.specs.declared.types.TypeId.{TypeId}
use Rattle.cl_types.specs.Layout.{TypeTree, Void, Scalar, Vector, Array, Struct, TypeTrees, none, more, up, align_of, size_of}
use Rattle.cl_types.specs.Table.{tree_of}
use Rattle.spv_module.specs.declared.op.TheConstants as op
use Rattle.spv_module.specs.declared.enumerant.decoration.TheConstants as decoration
use Rattle.spv_types_rules.specs.Lines.{Line, Whole, defined, has_op, decorations, member_decorations, is_int_of, is_some_of, first}

-- ---- words

abbrev pub same_numbers : List ℕ → List ℕ → Bool
same_numbers [] [] = true
same_numbers (a ∷ as_) (b ∷ bs) = nat_eq a b && same_numbers as_ bs
same_numbers _ _ = false

-- one decoration with this number, and none at all
abbrev pub is_one : List (List ℕ) → ℕ → Bool
is_one ((n ∷ []) ∷ []) m = nat_eq n m
is_one _ m = false

abbrev pub is_none : List (List ℕ) → Bool
is_none [] = true
is_none _ = false

abbrev pub is_empty : Option (List ℕ) → Bool
is_empty (Some []) = true
is_empty _ = false

abbrev pub with_one : (ℕ → Bool) → Option (List ℕ) → Bool
with_one test (Some (a ∷ [])) = test a
with_one test _ = false

abbrev pub with_two : (ℕ → Bool) → (ℕ → Bool) → Option (List ℕ) → Bool
with_two test other (Some (a ∷ b ∷ [])) = test a && other b
with_two test other _ = false

abbrev pub with_all : (List ℕ → Bool) → Option (List ℕ) → Bool
with_all test (Some ids) = test ids
with_all test None = false

-- a decoration with this number where there is a layout, and none elsewhere
abbrev pub laid_out : Bool → List (List ℕ) → ℕ → Bool
laid_out true found n = is_one found n
laid_out false found n = is_none found

module _ (w : Whole) where
  -- the ids that the line names that defines an id, where it has this opcode and these numbers
  abbrev pub ids_by : ℕ → List ℕ → Option Line → Option (List ℕ)
  ids_by code numbers None = None
  ids_by code numbers (Some l) = if has_op code l && same_numbers l.numbers numbers then Some l.ids else None

  abbrev pub ids_at : ℕ → List ℕ → ℕ → Option (List ℕ)
  ids_at code numbers id = ids_by code numbers (defined w id)

  -- a 32-bit constant
  abbrev pub is_length : ℕ → ℕ → Bool
  is_length n id = is_some_of (defined w id) (λ l. has_op op.CONSTANT l && is_int_of w 32 l.type && (first l.numbers == n))

  -- ---- types of objects

  -- An int, a vector of them, an array with a constant length, a struct: laid out or not.
  abbrev mutual
    pub stands_for : Bool → TypeTree → ℕ → Bool
    stands_for laid Void id = is_empty (ids_at op.TYPE_VOID [] id)
    stands_for laid (Scalar bits) id = is_empty (ids_at op.TYPE_INT (bits ∷ 0 ∷ []) id)
    stands_for laid (Vector t n) id = with_one (stands_for laid t) (ids_at op.TYPE_VECTOR (n ∷ []) id)
    stands_for laid (Array t n) id = with_two (stands_for laid t) (is_length n) (ids_at op.TYPE_ARRAY [] id) && laid_out laid (decorations w id decoration.ARRAY_STRIDE) (size_of t)
    stands_for laid (Struct ts) id = with_all (stand_for laid id ts 0 0) (ids_at op.TYPE_STRUCT [] id)

    -- the members of a struct from a number and a place on
    pub stand_for : Bool → ℕ → TypeTrees → ℕ → ℕ → List ℕ → Bool
    stand_for laid struct none k at [] = true
    stand_for laid struct (more t ts) k at (m ∷ ms) =
        stands_for laid t m && (laid_out laid (member_decorations w struct k decoration.OFFSET) (up (align_of t) at) && stand_for laid struct ts (suc k) (up (align_of t) at + size_of t) ms)
    stand_for laid struct _ k at _ = false

  -- ---- types of values

  -- A bool is an OpTypeBool. No other value but a bool is one, and none is a pointer.
  abbrev pub value_by : Option ClType → TypeTree → ℕ → Bool
  value_by (Some ty.Bool) t id = is_empty (ids_at op.TYPE_BOOL [] id)
  value_by _ t id = stands_for false t id

  abbrev pub stands_for_value : List ClType → TypeId → ℕ → Bool
  stands_for_value cs t id = value_by (slice_get cs t.0) (tree_of cs t.0) id
