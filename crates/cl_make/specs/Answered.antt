-- What the calls answer, in the table that they leave and in each that has its types and maybe more.
use Rattle.std.specs.Prelude.{◌≡◌, ℕ, List, [], map}
use Rattle.clv_place.specs.declared.place.Place.{Place}
use Rattle.cl_types.specs.declared.types.ClType.{ClType}
use Rattle.cl_types.specs.declared.types.TypeId.{TypeId}
use Rattle.cl_builtins.specs.declared.kind.Gentype.{Gentype}
use Rattle.cl_tree.specs.declared.expression.TExpr.{TExpr}
use Rattle.cl_rules.specs.declared.rule.Head.{Head}
use Rattle.cl_rules.specs.declared.rule.Made.{Made}
use Rattle.cl_rules.specs.declared.rule.Want.{Want}
use Rattle.cl_rules.specs.declared.rule.Want.TheVariants as want
use Rattle.cl_scope.specs.declared.scope.Declared.{Declared}
use Rattle.cl_make.specs.declared.typed.Typed.{Typed}
use Rattle.cl_make.specs.Building.{IsNode, IsConverted, AreConverted, IsMade, IsNumber, operand_named}
use Rattle.cl_make.specs.Ready.{From, IsReady, IsStable, AreStable, tree_of}
use Rattle.cl_make.specs.Wanted.{IsWanted}

-- the number of the type that a node gives
abbrev pub IsGiven : List ClType → Want → TypeId → Type 0
IsGiven cs w t = From cs (λ more. IsWanted more w t)

-- the number of the type that is wanted of an operand of a type
abbrev pub IsOwnOr : List ClType → Want → TypeId → TypeId → Type 0
IsOwnOr cs want.Own own t = t ≡ own
IsOwnOr cs (want.Type u) own t = IsGiven cs (want.Type u) t
IsOwnOr cs (want.Of s) own t = IsGiven cs (want.Of s) t

-- an operand's tree, converted
pub record IsConvertedOf (cs : List ClType) (w : Want) (t u : TExpr) : Type 0 where
  pub converts : From cs (λ more. IsConverted more w t u)
  pub stable : IsStable cs u

pub record AllConverted (cs : List ClType) (ws : List Want) (rs : List Typed) (us : List TExpr) : Type 0 where
  pub converts : From cs (λ more. AreConverted more ws (map tree_of rs) us)
  pub stable : AreStable cs us

-- the node that a rule makes
pub record IsMadeOf (cs : List ClType) (m : Made) (place : Place) (rs : List Typed) (r : Typed) : Type 0 where
  pub made : From cs (λ more. IsMade more m place (map tree_of rs) r.tree r.operand)
  pub ready : IsReady cs r

-- a number
pub record IsNumberOf (cs : List ClType) (t : Gentype) (n : ℕ) (place : Place) (r : Typed) : Type 0 where
  pub number : From cs (λ more. IsNumber more t n place r.tree r.operand)
  pub ready : IsReady cs r

-- a declared name
pub record IsNamedOf (cs : List ClType) (d : Declared) (h : Head) (place : Place) (r : Typed) : Type 0 where
  pub node : IsNode r.tree d.ty place h []
  pub operand : From cs (λ more. r.operand ≡ operand_named more d)
  pub ready : IsReady cs r
