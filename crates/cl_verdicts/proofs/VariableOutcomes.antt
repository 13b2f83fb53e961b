-- What values, lists and declared variables come to: what later judgements see of them, or an offence.
use Rattle.std.proofs.Common.{◌≡◌, ℕ, List, sym, ap, ◌∙◌, Bool, Option, Some, None}
use Rattle.std.specs.Global.{Vec}
use Rattle.clv_place.specs.declared.place.Place.{Place}
use Rattle.clv_place.specs.declared.stop.Offence.{Offence}
use Rattle.cl_types.specs.declared.types.TypeId.{TypeId}
use Rattle.cl_types.specs.declared.space.Space.{Space}
use Rattle.cl_ast.specs.declared.declaration.Init.{Init}
use Rattle.cl_ast.specs.declared.declaration.Init.TheVariants as init
use Rattle.cl_ast.specs.declared.declaration.Init.TheVariants.{rolls-Value, rolls-Braces}
use Rattle.cl_ast.specs.declared.declaration.Init.TheOpen.{Init-F}
use Rattle.cl_ast.specs.declared.declaration.Init.TheOpen as layer
use Rattle.cl_ast.specs.declared.declaration.Init.TheViews.{out-Init, out-roll-Init}
use Rattle.cl_ast.specs.declared.expression.Expr.{Expr}
use Rattle.cl_rules.specs.declared.rule.Operand.{Operand}
use Rattle.cl_scope.specs.Names.{Env}
use Rattle.cl_variables.specs.declared.tally.Tally.{Tally}
use Rattle.cl_renaming.specs.Renaming.{type_id, operand_as, env_as}

-- ---- outcomes

pub data Outcome (A : Type 0) : Type 0 where
  gives : A → Outcome A
  stops : Offence → Outcome A

abbrev pub outcome_as : {A : Type 0} → (A → A) → Outcome A → Outcome A
outcome_as f (gives x) = gives (f x)
outcome_as f (stops o) = stops o

pub gives_same : {A : Type 0} (x y : A) → gives x ≡ gives y → x ≡ y
gives_same x y e = cc

pub gives_stops : {A B : Type 0} (x : A) (o : Offence) → gives x ≡ stops o → B
gives_stops x o e = cc

pub stops_same : {A : Type 0} (o p : Offence) (v : Outcome A) → v ≡ stops o → v ≡ stops p → o ≡ p
stops_same o p v e f = cc

-- ---- what comes of values, fillings, lists and variables

pub record Valuing : Type 0 where
  pub env : Env
  pub operand : Operand
  pub varies : Bool

pub record Filling : Type 0 where
  pub env : Env
  pub left : List Init
  pub tally : Tally

pub record Listing : Type 0 where
  pub env : Env
  pub varies : Bool

-- so many elements, of an array or of an initialiser that says their number
pub record Counting : Type 0 where
  pub env : Env
  pub count : ℕ
  pub tally : Tally

pub record Making : Type 0 where
  pub env : Env
  pub ty : TypeId
  pub own : Space

abbrev pub valuing : Env → Operand → Bool → Valuing
valuing env o varies = record { env = env; operand = o; varies = varies }

abbrev pub filling : Env → List Init → Tally → Filling
filling env left tally = record { env = env; left = left; tally = tally }

abbrev pub listing : Env → Bool → Listing
listing env varies = record { env = env; varies = varies }

abbrev pub counting : Env → ℕ → Tally → Counting
counting env n tally = record { env = env; count = n; tally = tally }

abbrev pub making : Env → TypeId → Space → Making
making env ty own = record { env = env; ty = ty; own = own }

-- the same by other numbers of types
abbrev pub valuing_as : (ℕ → ℕ) → Valuing → Valuing
valuing_as r v = valuing (env_as r v.env) (operand_as r v.operand) v.varies

abbrev pub filling_as : (ℕ → ℕ) → Filling → Filling
filling_as r f = filling (env_as r f.env) f.left f.tally

abbrev pub listing_as : (ℕ → ℕ) → Listing → Listing
listing_as r l = listing (env_as r l.env) l.varies

abbrev pub counting_as : (ℕ → ℕ) → Counting → Counting
counting_as r c = counting (env_as r c.env) c.count c.tally

abbrev pub making_as : (ℕ → ℕ) → Making → Making
making_as r m = making (env_as r m.env) (type_id r m.ty) m.own

-- ---- items of lists

pub data Item : Type 0 where
  one : Expr → Item
  braces : Place → List Init → Item

abbrev pub item_in : Init-F Init → Item
item_in (layer.Value e) = one e
item_in (layer.Braces place items) = braces place items.items

abbrev pub item_of : Init → Item
item_of i = item_in (out-Init i)

pub value_item : (e : Expr) → item_of (init.Value e) ≡ one e
value_item e = ap item_of (sym (rolls-Value e)) ∙ ap item_in (out-roll-Init (layer.Value e))

pub braces_item : (place : Place) (items : Vec Init) → item_of (init.Braces place items) ≡ braces place items.items
braces_item place items = ap item_of (sym (rolls-Braces place items)) ∙ ap item_in (out-roll-Init (layer.Braces place items))

-- an initialiser, where there is one
abbrev pub item_if : Option Init → Option Item
item_if None = None
item_if (Some i) = Some (item_of i)

pub one_same : (x y : Expr) → one x ≡ one y → x ≡ y
one_same x y e = cc

pub one_braces : {A : Type 0} (x : Expr) (place : Place) (items : List Init) → one x ≡ braces place items → A
one_braces x place items e = cc
