-- What was evaluated, and what operators make of it (C99, 6.5; OpenCL C 1.2, 6.2 to 6.4 and 6.12).
use Rattle.std.specs.Prelude.{ℕ, ◌*◌, nat_lt, if◌then◌else◌, List, [], ◌∷◌, map, length, reverse, take, drop, Option, Some, None, slice_index}
use Rattle.cl_types.specs.declared.types.ClType.{ClType}
use Rattle.cl_types.specs.declared.types.TypeId.{TypeId}
use Rattle.cl_types.specs.declared.operator.UnOp.{UnOp}
use Rattle.cl_types.specs.declared.builtin.Builtin.{Builtin}
use Rattle.cl_builtins.specs.declared.kind.Gentype.{Gentype}
use Rattle.cl_builtins.specs.Kinds.{uint}
use Rattle.cl_tree.specs.declared.shape.Shape.{Shape}
use Rattle.cl_tree.specs.declared.shape.Shape.TheVariants as shape
use Rattle.cl_tree.specs.Constants.{unaries_of, convert_to, number_to, joined, repeated}
use Rattle.cl_common.specs.Operators.{given, filled, applied}
use Rattle.obj_tree.specs.Places.{Place}

-- What was evaluated: a value by the patterns of its scalars, of which one of type void has none; the missing value of a function that fell off its end;
-- or a place.
pub data Entry : Type 0 where
  Value : List ℕ → Entry
  Missing : Entry
  Placed : Place → Entry

-- An operation on the newest entries of a stack, the newest written last.
pub data Operation : Type 0 where
  -- put an entry there; take away the newest, or the one beneath it; exchange these two; put a copy of the newest beneath these two
  Push : Entry → Operation
  Drop : Operation
  DropSecond : Operation
  Swap : Operation
  Keep : Operation
  -- a value that is used may not be missing
  Sure : Operation
  -- a value: converted; by `+`, `-`, `~` or `!`; so many scalars from one on; the components in this order
  Convert : (from to : Shape) → Operation
  Unary : (op : UnOp) (bits : ℕ) → Operation
  Slice : (from count : ℕ) → Operation
  Components : (at : List ℕ) → Operation
  -- an array's value, of `len` elements of so many scalars, and an index
  Element : (index : Shape) (count len : ℕ) → Operation
  -- so many values: a vector literal; an initialiser list; the arguments of a built-in function that depends on these alone, the first of which
  -- has the components `from`, and the result `to`
  Vector : (parts count : ℕ) → Operation
  Fill : (types : List TypeId) (ty : TypeId) → Operation
  Apply : (function : Builtin) (args : ℕ) (from to : Gentype) → Operation

-- the values of the n newest entries, the newest last
abbrev pub scalars_in : Entry → List ℕ
scalars_in (Value v) = v
scalars_in _ = []

abbrev pub newest : ℕ → List Entry → List (List ℕ)
newest n st = reverse (map scalars_in (take n st))

-- an index, converted by its type to 32 bits and read as unsigned
abbrev pub index_of : Shape → ℕ → ℕ
index_of from n = number_to from (shape.Integers uint) n

-- the element at an index, which must be below the length
abbrev pub element : ℕ → ℕ → List ℕ → ℕ → Option (List ℕ)
element count len v i = if nat_lt i len then Some (take count (drop (i * count) v)) else None

abbrev pub and_value : List Entry → Option (List ℕ) → Option (List Entry)
and_value st None = None
and_value st (Some v) = Some (Value v ∷ st)

-- The stack after an operation; None where it is undefined. An operation to which the entries don't belong, which no program has, does nothing.
abbrev pub operated : List ClType → Operation → List Entry → Option (List Entry)
operated cs (Push e) st = Some (e ∷ st)
operated cs Drop (e ∷ st) = Some st
operated cs DropSecond (a ∷ b ∷ st) = Some (a ∷ st)
operated cs Swap (a ∷ b ∷ st) = Some (b ∷ a ∷ st)
operated cs Keep (a ∷ b ∷ st) = Some (a ∷ b ∷ a ∷ st)
operated cs Sure (Missing ∷ st) = None
operated cs (Convert from to) (Value v ∷ st) = Some (Value (convert_to from to v) ∷ st)
operated cs (Unary op bits) (Value v ∷ st) = Some (Value (unaries_of op bits v) ∷ st)
operated cs (Slice from count) (Value v ∷ st) = Some (Value (take count (drop from v)) ∷ st)
operated cs (Components at) (Value v ∷ st) = Some (Value (map (slice_index v) at) ∷ st)
operated cs (Element index count len) (Value (i ∷ []) ∷ Value v ∷ st) = and_value st (element count len v (index_of index i))
operated cs (Vector parts count) st = Some (Value (repeated count (joined (newest parts st))) ∷ drop parts st)
operated cs (Fill types ty) st = Some (Value (filled cs ty (given types (newest (length types) st))) ∷ drop (length types) st)
operated cs (Apply f args from to) st = Some (Value (applied f from to (newest args st)) ∷ drop args st)
operated cs _ st = Some st
