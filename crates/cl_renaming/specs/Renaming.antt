-- Types that have other numbers in another table.
use Rattle.std.specs.Prelude.{◌≡◌, ℕ, ◌+◌, ◌<◌, ◌≤◌, false, List, [], ◌∷◌, length, map, Some, None, slice_get}
use Rattle.cl_types.specs.declared.types.ClType.{ClType}
use Rattle.cl_types.specs.declared.types.ClType.TheVariants as ty
use Rattle.cl_types.specs.declared.types.Member.{Member}
use Rattle.cl_types.specs.declared.types.TypeId.{TypeId}
use Rattle.cl_types.specs.Table.{AreBuilt, IsWithin, tree_of}
use Rattle.cl_builtins.specs.Found.{IsGrown}
use Rattle.cl_tree.specs.declared.shape.Shape.{Shape}
use Rattle.cl_tree.specs.declared.shape.Shape.TheVariants as shape
use Rattle.cl_tree.specs.Shapes.{is_struct}
use Rattle.cl_builtins.specs.declared.form.Form.{Form}
use Rattle.cl_builtins.specs.declared.kind.Kind.{Kind}
use Rattle.cl_builtins.specs.declared.kind.Kind.TheVariants as kind
use Rattle.cl_rules.specs.declared.rule.Operand.{Operand}
use Rattle.cl_rules.specs.declared.rule.Target.{Target}
use Rattle.cl_rules.specs.declared.rule.Qualified.{Qualified}
use Rattle.cl_rules.specs.declared.rule.Amount.{Amount}
use Rattle.cl_rules.specs.declared.rule.Amount.TheVariants.{Wanted, NoAmount, TooWide}
use Rattle.cl_rules.specs.declared.rule.Changing.{Changing}
use Rattle.cl_rules.specs.declared.rule.Want.{Want}
use Rattle.cl_rules.specs.declared.rule.Want.TheVariants as want
use Rattle.cl_rules.specs.declared.rule.Made.{Made}
use Rattle.cl_rules.specs.declared.rule.Judged.{Judged}
use Rattle.cl_rules.specs.declared.rule.Judged.TheVariants.{Broken, Makes}
use Rattle.cl_scope.specs.declared.scope.Declared.{Declared}
use Rattle.cl_scope.specs.declared.scope.Signature.{Signature}
use Rattle.cl_scope.specs.Names.{Env}
use Rattle.cl_words.specs.declared.naming.Sketch.{Sketch}

abbrev pub type_id : (ℕ → ℕ) → TypeId → TypeId
type_id r t = record t { 0 = r t.0 }

abbrev pub member : (ℕ → ℕ) → Member → Member
member r m = record { name = m.name; ty = type_id r m.ty }

abbrev pub cl_type : (ℕ → ℕ) → ClType → ClType
cl_type r ty.Void = ty.Void
cl_type r ty.Bool = ty.Bool
cl_type r (ty.Int bits signed) = ty.Int bits signed
cl_type r (ty.Vector elem n) = ty.Vector (type_id r elem) n
cl_type r (ty.Array elem n) = ty.Array (type_id r elem) n
cl_type r (ty.Struct name members) = ty.Struct name (map (member r) members)
cl_type r (ty.Pointer space to readonly restricted) = ty.Pointer space (type_id r to) readonly restricted

abbrev pub shape_as : (ℕ → ℕ) → Shape → Shape
shape_as r shape.Void = shape.Void
shape_as r shape.Bool = shape.Bool
shape_as r (shape.Integers t) = shape.Integers t
shape_as r (shape.Array elem len nested) = shape.Array (type_id r elem) len nested
shape_as r shape.Struct = shape.Struct
shape_as r (shape.Pointer space to readonly restricted) = shape.Pointer space (type_id r to) readonly restricted

abbrev pub want_as : (ℕ → ℕ) → Want → Want
want_as r want.Own = want.Own
want_as r (want.Type t) = want.Type (type_id r t)
want_as r (want.Of s) = want.Of (shape_as r s)

abbrev pub operand_as : (ℕ → ℕ) → Operand → Operand
operand_as r o = record o { facts = record { ty = type_id r o.facts.ty; lies = o.facts.lies; component = o.facts.component }; shape = shape_as r o.shape }

abbrev pub made_as : (ℕ → ℕ) → Made → Made
made_as r m = record m { wants = map (want_as r) m.wants; gives = want_as r m.gives }

abbrev pub judged_as : (ℕ → ℕ) → Judged → Judged
judged_as r (Broken code) = Broken code
judged_as r (Makes m) = Makes (made_as r m)

abbrev pub target_as : (ℕ → ℕ) → Target → Target
target_as r t = record { ty = type_id r t.ty; shape = shape_as r t.shape }

abbrev pub qualified_as : (ℕ → ℕ) → Qualified → Qualified
qualified_as r q = record q { ty = type_id r q.ty; shape = shape_as r q.shape }

abbrev pub amount_as : (ℕ → ℕ) → Amount → Amount
amount_as r (Wanted w) = Wanted (want_as r w)
amount_as r NoAmount = NoAmount
amount_as r TooWide = TooWide

abbrev pub changing_as : (ℕ → ℕ) → Changing → Changing
changing_as r c = record c { wanted = want_as r c.wanted }

abbrev pub sketch_as : (ℕ → ℕ) → Sketch → Sketch
sketch_as r k = record k { of = want_as r k.of; shape = shape_as r k.shape }

abbrev pub signature_as : (ℕ → ℕ) → Signature → Signature
signature_as r s = record s { params = map (type_id r) s.params; result = type_id r s.result }

abbrev pub declared_as : (ℕ → ℕ) → Declared → Declared
declared_as r d = record d { ty = type_id r d.ty }

abbrev pub env_as : (ℕ → ℕ) → Env → Env
env_as r env = record { outer = map (declared_as r) env.outer; inner = map (declared_as r) env.inner; functions = map (signature_as r) env.functions }

abbrev pub kind_as : (ℕ → ℕ) → Kind → Kind
kind_as r (kind.Pointer own space readonly to) = kind.Pointer (type_id r own) space readonly to
kind_as r (kind.Other own) = kind.Other (type_id r own)
kind_as r k = k

abbrev pub form_as : (ℕ → ℕ) → Form → Form
form_as r f = record { params = map (kind_as r) f.params; result = kind_as r f.result }

-- no two numbers become one
abbrev pub TellsApart : (ℕ → ℕ) → Type 0
TellsApart r = (a b : ℕ) → r a ≡ r b → a ≡ b

-- the types of one table in another, each by another number; numbers of no type stay so
pub record IsRenaming (cs ds : List ClType) (r : ℕ → ℕ) : Type 0 where
  pub differ : TellsApart r
  pub has : (i : ℕ) (c : ClType) → slice_get cs i ≡ Some c → slice_get ds (r i) ≡ Some (cl_type r c)
  pub lacks : (i : ℕ) → slice_get cs i ≡ None → slice_get ds (r i) ≡ None

-- Types each built of earlier ones, no two of them one: a table but for how many it has. Two tables with all the types that their numbers
-- allow have no common one.
pub record AreTypes (cs : List ClType) : Type 0 where
  pub built : AreBuilt [] cs
  pub distinct : (i j : ℕ) (c : ClType) → slice_get cs i ≡ Some c → slice_get cs j ≡ Some c → i ≡ j
  pub within : (i : ℕ) → i < length cs → IsWithin (tree_of cs i)

-- the types of one table and of another, which are there by the numbers that they have
pub record IsJoined (cs ds all : List ClType) (r : ℕ → ℕ) : Type 0 where
  pub types : AreTypes all
  pub grown : IsGrown ds all
  pub renaming : IsRenaming cs all r
  pub few : length all ≤ length ds + length cs

pub record Joins (cs ds : List ClType) : Type 0 where
  pub all : List ClType
  pub numbers : ℕ → ℕ
  pub is : IsJoined cs ds all numbers

-- a want for at most one type of a table: structs of one shape are many
abbrev pub IsOneType : Want → Type 0
IsOneType (want.Of s) = is_struct s ≡ false
IsOneType _ = Unit {0}

abbrev pub AreOneType : List Want → Type 0
AreOneType [] = Unit {0}
AreOneType (w ∷ ws) = IsOneType w × AreOneType ws

-- what a rule makes asks of each operand for one type, and gives one
pub record AsksOneType (m : Made) : Type 0 where
  pub wants : AreOneType m.wants
  pub gives : IsOneType m.gives
