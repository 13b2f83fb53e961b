-- Types that a table has or can have, and what stays when it grows.
use Rattle.std.specs.Prelude.{◌≡◌, true, List, [], ◌∷◌, map, Some, slice_get}
use Rattle.cl_types.specs.declared.types.ClType.{ClType}
use Rattle.cl_types.specs.declared.types.TypeId.{TypeId}
use Rattle.cl_builtins.specs.declared.form.Form.{Form}
use Rattle.cl_builtins.specs.declared.kind.Kind.{Kind}
use Rattle.cl_builtins.specs.declared.kind.Kind.TheVariants as kind
use Rattle.cl_builtins.specs.Found.{IsKnown, Adds, HasKind}
use Rattle.cl_builtins.specs.Kinds.{is_gentype, kind_of}

-- the types of the old table stay, and are what they were
pub record Keeps (old new : List ClType) : Type 0 where
  pub adds : Adds old new
  pub kinds : (t : TypeId) → IsKnown old t → kind_of new t ≡ kind_of old t

-- what the types are
abbrev pub AreKinds : List ClType → List TypeId → List Kind → Type 0
AreKinds cs ts ks = ks ≡ map (kind_of cs) ts

-- the table has the type by this number
abbrev pub IsAt : List ClType → ClType → TypeId → Type 0
IsAt cs c t = slice_get cs t.0 ≡ Some c

-- a pointer or another type is what its number in the table says
abbrev pub IsOfTable : List ClType → Kind → Type 0
IsOfTable cs kind.Void = Unit {0}
IsOfTable cs kind.Bool = Unit {0}
IsOfTable cs (kind.Integers t) = is_gentype t ≡ true
IsOfTable cs (kind.Pointer own space readonly to) = HasKind cs (kind.Pointer own space readonly to) own × (is_gentype to ≡ true)
IsOfTable cs (kind.Other own) = HasKind cs (kind.Other own) own

abbrev pub EachOfTable : List ClType → List Kind → Type 0
EachOfTable cs [] = Unit {0}
EachOfTable cs (k ∷ ks) = IsOfTable cs k × EachOfTable cs ks

abbrev pub AreOfTable : List ClType → Form → Type 0
AreOfTable cs f = EachOfTable cs f.params × IsOfTable cs f.result
