-- Words on types that trees and object programs share (OpenCL C 1.2, 6.1 and 6.2; C99, 6.3 and 6.5).
use Rattle.std.specs.Prelude.{ℕ, Bool, true, false, if◌then◌else◌, List, [], ◌∷◌, length}
use Rattle.cl_types.specs.declared.types.ClType.{ClType}
use Rattle.cl_types.specs.declared.types.Member.{Member}
use Rattle.cl_types.specs.declared.types.TypeId.{TypeId}
use Rattle.cl_types.specs.declared.operator.BinOp.{BinOp}
use Rattle.cl_types.specs.declared.operator.BinOp.TheVariants as bin
use Rattle.cl_types.specs.declared.scalars.Scalar.{Scalar as Slot}
use Rattle.cl_types.specs.Layout.{size_of, scalars_of}
use Rattle.cl_types.specs.Table.{tree_of}
use Rattle.cl_builtins.specs.Kinds.{int}
use Rattle.cl_tree.specs.declared.shape.Shape.{Shape}
use Rattle.cl_tree.specs.declared.shape.Shape.TheVariants as shape
use Rattle.cl_tree.specs.Shapes.{is_vector, promoted}

-- the bytes of a type, where its scalars lie in them, and how many these are
abbrev pub size_at : List ClType → TypeId → ℕ
size_at cs t = size_of (tree_of cs t.0)

abbrev pub slots_at : List ClType → TypeId → List Slot
slots_at cs t = scalars_of (tree_of cs t.0)

abbrev pub count_at : List ClType → TypeId → ℕ
count_at cs t = length (slots_at cs t)

abbrev pub elements_in : Shape → ℕ
elements_in (shape.Array elem len nested) = len
elements_in _ = 0

abbrev pub member_types : List Member → List TypeId
member_types [] = []
member_types (m ∷ ms) = m.ty ∷ member_types ms

abbrev pub promoted_in : Shape → Shape
promoted_in shape.Bool = shape.Integers int
promoted_in (shape.Integers t) = shape.Integers (promoted t)
promoted_in s = s

abbrev pub is_shift : BinOp → Bool
is_shift bin.Shl = true
is_shift bin.Shr = true
is_shift _ = false

-- The type in which `a op= b` calculates: that of a vector; of a shift the promoted type of a; else b's, which is converted to it already
-- (C99, 6.5.7, 6.5.16.2; OpenCL C 1.2, 6.3.j).
abbrev pub working : BinOp → Shape → Shape → Shape
working op left right = if is_vector left then left else if is_shift op then promoted_in left else right
