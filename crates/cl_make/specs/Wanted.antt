-- Types that rules ask for, by their numbers in a table.
use Rattle.std.specs.Prelude.{◌≡◌, ℕ, true, List, [], ◌∷◌, length}
use Rattle.cl_types.specs.declared.types.ClType.{ClType}
use Rattle.cl_types.specs.declared.types.ClType.TheVariants as ty
use Rattle.cl_types.specs.declared.types.TypeId.{TypeId}
use Rattle.cl_builtins.specs.Tables.{IsAt}
use Rattle.cl_builtins.specs.Found.{IsKnown}
use Rattle.cl_builtins.specs.Kinds.{is_gentype}
use Rattle.cl_tree.specs.declared.shape.Shape.{Shape}
use Rattle.cl_tree.specs.declared.shape.Shape.TheVariants as shape
use Rattle.cl_tree.specs.Shapes.{shape_of}
use Rattle.cl_tree.specs.Units.{is_pointee, is_allowed, are_allowed}
use Rattle.cl_rules.specs.declared.rule.Made.{Made}
use Rattle.cl_words.specs.declared.naming.Sketch.{Sketch}
use Rattle.cl_rules.specs.declared.rule.Target.{Target}
use Rattle.cl_rules.specs.declared.rule.Want.{Want}
use Rattle.cl_rules.specs.declared.rule.Want.TheVariants as want
use Rattle.cl_words.specs.Words.{numbers}

-- a type of a table, with what it is
abbrev pub target : List ClType → TypeId → Target
target cs t = record { ty = t; shape = shape_of cs t }

-- the number of an array of arrays, the outermost length first
pub data IsArrayOf (cs : List ClType) : TypeId → List ℕ → TypeId → Type 0 where
  no_array : (t : TypeId) → IsArrayOf cs t [] t
  array : (elem t u : TypeId) (n : ℕ) (ns : List ℕ) → IsArrayOf cs elem ns t → IsAt cs (ty.Array t n) u → IsArrayOf cs elem (n ∷ ns) u

-- the type that is wanted, in a table
pub data IsWanted (cs : List ClType) : Want → TypeId → Type 0 where
  by_number : (t : TypeId) → IsKnown cs t → IsWanted cs (want.Type t) t
  by_shape : (s : Shape) (t : TypeId) → IsKnown cs t → shape_of cs t ≡ s → IsWanted cs (want.Of s) t

pub record IsDeclaredAs (cs : List ClType) (k : Sketch) (first : ℕ) (t : TypeId) : Type 0 where
  pub elem : TypeId
  pub wanted : IsWanted cs k.of elem
  pub arrays : IsArrayOf cs elem (numbers first k.lengths) t

-- ---- what can be asked of a table

-- a type without elements and members
abbrev pub IsFlat : ClType → Type 0
IsFlat (ty.Array elem len) = ⊥
IsFlat (ty.Struct name members) = ⊥
IsFlat _ = Unit {0}

-- Where each type of a table is allowed where it stands, so is this one.
abbrev pub MayJoin : List ClType → ClType → Type 0
MayJoin cs c = are_allowed cs cs ≡ true → is_allowed cs c ≡ true

-- A shape that a table has or can take at once. An array and a struct are asked for by their numbers alone.
abbrev pub IsAskableShape : List ClType → Shape → Type 0
IsAskableShape cs shape.Void = Unit {0}
IsAskableShape cs shape.Bool = Unit {0}
IsAskableShape cs (shape.Integers t) = is_gentype t ≡ true
IsAskableShape cs (shape.Array elem len nested) = ⊥
IsAskableShape cs shape.Struct = ⊥
IsAskableShape cs (shape.Pointer space to readonly restricted) = IsKnown cs to × (are_allowed cs cs ≡ true → is_pointee (shape_of cs to) ≡ true)

abbrev pub IsAskable : List ClType → Want → Type 0
IsAskable cs want.Own = Unit {0}
IsAskable cs (want.Type t) = IsKnown cs t
IsAskable cs (want.Of s) = IsAskableShape cs s

abbrev pub AreAskable : List ClType → List Want → Type 0
AreAskable cs [] = Unit {0}
AreAskable cs (w ∷ ws) = IsAskable cs w × AreAskable cs ws

-- A node gives no type of its own.
abbrev pub IsGivable : List ClType → Want → Type 0
IsGivable cs want.Own = ⊥
IsGivable cs (want.Type t) = IsKnown cs t
IsGivable cs (want.Of s) = IsAskableShape cs s

-- what a rule makes of so many operands can be made: it asks of each for one type that the table has or can take
pub record IsAsked (cs : List ClType) (m : Made) (count : ℕ) : Type 0 where
  pub wants : AreAskable cs m.wants
  pub gives : IsGivable cs m.gives
  pub each : length m.wants ≡ count
