-- What `find` answers.
use Rattle.std.specs.Prelude.{◌≡◌, ℕ, ◌<◌, nat_eq, not, List, ◌++◌, length, map, All, Some, None, Result, Ok, Err}
use Rattle.std.specs.List.{AllZip}
use Rattle.cl_types.specs.declared.builtin.Builtin.{Builtin}
use Rattle.cl_types.specs.declared.builtin.Builtin.TheVariants.{Select}
use Rattle.cl_types.specs.declared.types.ClType.{ClType}
use Rattle.cl_types.specs.declared.types.ClType.TheVariants as ty
use Rattle.cl_types.specs.declared.types.TypeId.{TypeId}
use Rattle.cl_builtins.specs.declared.call.Found.{Found}
use Rattle.cl_builtins.specs.declared.call.FindStop.{FindStop}
use Rattle.cl_builtins.specs.declared.call.FindStop.TheVariants.{NoName, NoForm, NoMemory}
use Rattle.cl_builtins.specs.declared.form.Form.{Form}
use Rattle.cl_builtins.specs.declared.kind.Kind.{Kind}
use Rattle.cl_builtins.specs.declared.kind.Kind.TheVariants as kind
use Rattle.cl_builtins.specs.Forms.{form_of}
use Rattle.cl_builtins.specs.Kinds.{kind_of}
use Rattle.cl_builtins.specs.Names.{Entry, lookup, entries}

-- the types are in the table
abbrev pub IsKnown : List ClType → TypeId → Type 0
IsKnown cs t = t.0 < length cs

abbrev pub AreKnown : List ClType → List TypeId → Type 0
AreKnown cs ts = All (IsKnown cs) ts

-- the new table has the types of the old one, by the same numbers
abbrev pub IsGrown : List ClType → List ClType → Type 0
IsGrown old new = (more : List ClType) × (new ≡ old ++ more)

-- void, bool, an integer or a vector
abbrev pub IsSimple : ClType → Type 0
IsSimple (ty.Array elem len) = ⊥
IsSimple (ty.Struct name members) = ⊥
IsSimple (ty.Pointer space to readonly restricted) = ⊥
IsSimple _ = Unit {0}

-- the new table has the types of the old one, and maybe more of these
abbrev pub Adds : List ClType → List ClType → Type 0
Adds old new = (more : List ClType) × (new ≡ old ++ more) × All IsSimple more

-- the type is in the table, and is this
pub record HasKind (cs : List ClType) (k : Kind) (t : TypeId) : Type 0 where
  pub known : IsKnown cs t
  pub is : kind_of cs t ≡ k

-- ---- the answer

-- select is told apart by whether it chooses components
abbrev pub named_by : Builtin → Kind → Builtin
named_by (Select vector) (kind.Integers t) = Select (not (nat_eq t.count 1))
named_by b k = b

-- the built-in function with the types of this form
pub record IsFound (cs : List ClType) (b : Builtin) (f : Form) (found : Found) : Type 0 where
  pub builtin : found.builtin ≡ named_by b f.result
  pub params : AllZip (HasKind cs) f.params found.params
  pub result : HasKind cs f.result found.result

-- a call of a name with arguments of these types of the old table means this, in the new one
pub record Means (name : List ℕ) (old : List ClType) (args : List TypeId) (new : List ClType) (found : Found) : Type 0 where
  pub entry : Entry
  pub form : Form
  pub named : lookup entries name ≡ Some entry
  pub fits : form_of entry.1 (map (kind_of old) args) ≡ Some form
  pub is : IsFound new entry.0 form found

-- the name is there, and takes no such arguments
pub record HasNoForm (name : List ℕ) (old : List ClType) (args : List TypeId) : Type 0 where
  pub entry : Entry
  pub named : lookup entries name ≡ Some entry
  pub unfit : form_of entry.1 (map (kind_of old) args) ≡ None

abbrev pub Finds : List ℕ → List ClType → List TypeId → List ClType → Result Found FindStop → Type 0
Finds name old args new (Ok found) = Means name old args new found
Finds name old args new (Err NoName) = lookup entries name ≡ None
Finds name old args new (Err NoForm) = HasNoForm name old args
Finds name old args new (Err NoMemory) = Unit {0}
