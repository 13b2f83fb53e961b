-- The typing rules of initialisers (C99, 6.7.8). Braces may be left out round the parts of a part; a vector is filled by one value.
use Rattle.std.specs.Global.{Vec}
use Rattle.std.specs.Prelude.{◌≡◌, ℕ, zero, suc, ◌&&◌, ◌||◌, not, Bool, true, false, List, [], ◌∷◌, ◌++◌, Some, None}
use Rattle.clv_place.specs.declared.place.Place.{Place}
use Rattle.clv_place.specs.declared.stop.Offence.{Offence}
use Rattle.cl_types.specs.declared.types.ClType.{ClType}
use Rattle.cl_types.specs.declared.types.Member.{Member}
use Rattle.cl_types.specs.declared.types.TypeId.{TypeId}
use Rattle.cl_ast.specs.declared.declaration.Init.{Init}
use Rattle.cl_ast.specs.declared.declaration.Init.TheVariants as init
use Rattle.cl_ast.specs.declared.expression.Expr.{Expr}
use Rattle.cl_tree.specs.declared.expression.TExpr.{TExpr}
use Rattle.cl_tree.specs.declared.shape.Shape.{Shape}
use Rattle.cl_tree.specs.declared.shape.Shape.TheVariants as shape
use Rattle.cl_tree.specs.declared.constant.Constancy.{Constancy}
use Rattle.cl_tree.specs.declared.constant.Constancy.TheVariants.{Varies}
use Rattle.cl_tree.specs.Constants.{constancy_of, divides}
use Rattle.cl_tree.specs.Shapes.{shape_of, same_type, members_of, is_array, is_struct}
use Rattle.cl_rules.specs.declared.rule.Head.TheVariants as head
use Rattle.cl_rules.specs.declared.rule.Operand.{Operand}
use Rattle.cl_rules.specs.declared.rule.Target.{Target}
use Rattle.cl_rules.specs.declared.rule.Want.TheVariants as want
use Rattle.cl_scope.specs.Names.{Env}
use Rattle.cl_rules.specs.Operands.{first_broken, no_value, no_pointer}
use Rattle.cl_make.specs.Building.{IsConverted, IsNode}
use Rattle.cl_make.specs.Wanted.{target}
use Rattle.cl_type_expr.specs.Expressions.{Types}
use Rattle.cl_type_expr.specs.Offences.{Offends, at}
use Rattle.cl_variables.specs.declared.tally.Tally.{Tally}

-- ---- what goes wrong with values of a list, which is told at its `{`; and whether something isn't constant that must be

abbrev pub clean : Tally
clean = record { no_value = false; no_pointer = false; varies = false }

abbrev pub with : Tally → Tally → Tally
with a b = record { no_value = a.no_value || b.no_value; no_pointer = a.no_pointer || b.no_pointer; varies = a.varies || b.varies }

abbrev pub only : Bool → Tally
only varies = record clean { varies = varies }

abbrev pub tally_at : Operand → Target → Bool → Tally
tally_at o t varies = record { no_value = no_value o t; no_pointer = no_pointer o t; varies = varies }

abbrev pub tally_of : List ClType → Operand → TypeId → Bool → Tally
tally_of cs o t varies = tally_at o (target cs t) varies

abbrev pub is_right : Tally → Bool
is_right t = not (t.no_value || t.no_pointer)

-- 311, 324 and 333: a list with a wrong value, or with more than there is to fill
abbrev pub list_tests : Tally → Bool → List (ℕ × Bool)
list_tests t surplus = (311, t.no_value) ∷ (324, surplus) ∷ (333, t.no_pointer) ∷ []

abbrev pub some : List Init → Bool
some [] = false
some (i ∷ is) = true

-- A value stands for a whole part, but for an array, and for a struct of another type: these are filled by their own parts.
abbrev pub takes_whole_at : Target → Operand → Bool
takes_whole_at t o = not (is_array t.shape) && (not (is_struct t.shape) || same_type t.ty o.facts.ty)

abbrev pub takes_whole : List ClType → TypeId → Operand → Bool
takes_whole cs t o = takes_whole_at (target cs t) o

abbrev pub has_parts : Shape → Bool
has_parts s = is_array s || is_struct s

abbrev pub is_varying : Constancy → Bool
is_varying Varies = true
is_varying _ = false

-- a value, which must be constant or needn't be, and whether it isn't
pub record IsValue (cs : List ClType) (constant : Bool) (env : Env) (e : Expr) (after : Env) (t : TExpr) (o : Operand) (varies : Bool) : Type 0 where
  pub types : Types cs env false e after t o
  pub exact : constant ≡ true → divides (constancy_of cs t) ≡ None
  pub is : varies ≡ (constant && is_varying (constancy_of cs t))

-- 334: a value that must be constant divides by zero or out of range
pub data ValueOffends (cs : List ClType) (constant : Bool) : Env → Expr → Offence → Type 0 where
  in_expression : (env : Env) (e : Expr) (o : Offence) → Offends cs env false e o → ValueOffends cs constant env e o
  value_divides : (env after : Env) (e : Expr) (t : TExpr) (o : Operand) (p : Place) → constant ≡ true → Types cs env false e after t o → divides (constancy_of cs t) ≡ Some p → ValueOffends cs constant env e (at 334 p)

-- ---- lists

mutual
  -- A part of this type is filled from the first items on: the declarations and the items behind it, and the trees of what fills it.
  pub data FillsPart (cs : List ClType) (constant : Bool) : Env → List Init → TypeId → Env → List Init → List TExpr → Tally → Type 0 where
    by_list : (env after : Env) (place : Place) (items : Vec Init) (rest : List Init) (ty : TypeId) (t : TExpr) (varies : Bool) → IsList cs constant env place items.items ty after t varies → FillsPart cs constant env (init.Braces place items ∷ rest) ty after rest (t ∷ []) (only varies)
    by_value : (env after : Env) (e : Expr) (rest : List Init) (ty : TypeId) (t u : TExpr) (o : Operand) (varies : Bool) (tally : Tally) → IsValue cs constant env e after t o varies → takes_whole cs ty o ≡ true → tally ≡ tally_of cs o ty varies → is_right tally ≡ true → IsConverted cs (want.Type ty) t u → FillsPart cs constant env (init.Value e ∷ rest) ty after rest (u ∷ []) tally
    by_wrong_value : (env after : Env) (e : Expr) (rest : List Init) (ty : TypeId) (t : TExpr) (o : Operand) (varies : Bool) (tally : Tally) → IsValue cs constant env e after t o varies → takes_whole cs ty o ≡ true → tally ≡ tally_of cs o ty varies → is_right tally ≡ false → FillsPart cs constant env (init.Value e ∷ rest) ty after rest [] tally
    by_parts : (env seen after : Env) (e : Expr) (rest left : List Init) (ty : TypeId) (t : TExpr) (ts : List TExpr) (o : Operand) (varies : Bool) (tally : Tally) → IsValue cs constant env e seen t o varies → takes_whole cs ty o ≡ false → FillsParts cs constant env (init.Value e ∷ rest) ty after left ts tally → FillsPart cs constant env (init.Value e ∷ rest) ty after left ts tally

  -- the elements of an array, or the members of a struct, as far as the items go
  pub data FillsParts (cs : List ClType) (constant : Bool) : Env → List Init → TypeId → Env → List Init → List TExpr → Tally → Type 0 where
    its_elements : (env after : Env) (items left : List Init) (ty elem : TypeId) (len : ℕ) (nested : Bool) (ts : List TExpr) (tally : Tally) → shape_of cs ty ≡ shape.Array elem len nested → FillsElements cs constant env items elem len after left ts tally → FillsParts cs constant env items ty after left ts tally
    its_members : (env after : Env) (items left : List Init) (ty : TypeId) (ts : List TExpr) (tally : Tally) → shape_of cs ty ≡ shape.Struct → FillsMembers cs constant env items (members_of cs ty) after left ts tally → FillsParts cs constant env items ty after left ts tally

  pub data FillsElements (cs : List ClType) (constant : Bool) : Env → List Init → TypeId → ℕ → Env → List Init → List TExpr → Tally → Type 0 where
    elements_full : (env : Env) (items : List Init) (elem : TypeId) → FillsElements cs constant env items elem zero env items [] clean
    elements_ended : (env : Env) (elem : TypeId) (n : ℕ) → FillsElements cs constant env [] elem (suc n) env [] [] clean
    more_elements : (env middle after : Env) (i : Init) (items between left : List Init) (elem : TypeId) (n : ℕ) (ts us : List TExpr) (a b : Tally) → FillsPart cs constant env (i ∷ items) elem middle between ts a → FillsElements cs constant middle between elem n after left us b → FillsElements cs constant env (i ∷ items) elem (suc n) after left (ts ++ us) (with a b)

  pub data FillsMembers (cs : List ClType) (constant : Bool) : Env → List Init → List Member → Env → List Init → List TExpr → Tally → Type 0 where
    members_full : (env : Env) (items : List Init) → FillsMembers cs constant env items [] env items [] clean
    members_ended : (env : Env) (m : Member) (ms : List Member) → FillsMembers cs constant env [] (m ∷ ms) env [] [] clean
    more_members : (env middle after : Env) (i : Init) (items between left : List Init) (m : Member) (ms : List Member) (ts us : List TExpr) (a b : Tally) → FillsPart cs constant env (i ∷ items) m.ty middle between ts a → FillsMembers cs constant middle between ms after left us b → FillsMembers cs constant env (i ∷ items) (m ∷ ms) after left (ts ++ us) (with a b)

  -- what items in braces fill, from the first on: the parts of the type, or a type without parts by one value
  pub data FillsBraces (cs : List ClType) (constant : Bool) : Env → List Init → TypeId → Env → List Init → List TExpr → Tally → Type 0 where
    its_parts : (env after : Env) (items left : List Init) (ty : TypeId) (ts : List TExpr) (tally : Tally) → some items ≡ true → FillsParts cs constant env items ty after left ts tally → FillsBraces cs constant env items ty after left ts tally
    itself : (env after : Env) (e : Expr) (left : List Init) (ty : TypeId) (ts : List TExpr) (tally : Tally) → has_parts (shape_of cs ty) ≡ false → FillsPart cs constant env (init.Value e ∷ left) ty after left ts tally → FillsBraces cs constant env (init.Value e ∷ left) ty after left ts tally

  -- a list in braces that fills this type
  pub data IsList (cs : List ClType) (constant : Bool) : Env → Place → List Init → TypeId → Env → TExpr → Bool → Type 0 where
    filled : (env after : Env) (place : Place) (items : List Init) (ty : TypeId) (ts : List TExpr) (t : TExpr) (tally : Tally) → FillsBraces cs constant env items ty after [] ts tally → is_right tally ≡ true → IsNode t ty place head.Fill ts → IsList cs constant env place items ty after t tally.varies

-- all items fill elements of an array whose length isn't known: how many they fill
pub data FillsAll (cs : List ClType) (constant : Bool) : Env → List Init → TypeId → ℕ → Env → List TExpr → Tally → Type 0 where
  all_ended : (env : Env) (elem : TypeId) → FillsAll cs constant env [] elem zero env [] clean
  more_all : (env middle after : Env) (i : Init) (items between : List Init) (elem : TypeId) (n : ℕ) (ts us : List TExpr) (a b : Tally) → FillsPart cs constant env (i ∷ items) elem middle between ts a → FillsAll cs constant middle between elem n after us b → FillsAll cs constant env (i ∷ items) elem (suc n) after (ts ++ us) (with a b)

-- items for which nothing is left to fill are typed all the same
mutual
  pub data AreSurplus (cs : List ClType) (constant : Bool) : Env → List Init → Env → Type 0 where
    no_surplus : (env : Env) → AreSurplus cs constant env [] env
    surplus_value : (env middle after : Env) (e : Expr) (items : List Init) (t : TExpr) (o : Operand) (varies : Bool) → IsValue cs constant env e middle t o varies → AreSurplus cs constant middle items after → AreSurplus cs constant env (init.Value e ∷ items) after
    surplus_braces : (env middle after : Env) (place : Place) (inside : Vec Init) (items : List Init) → AreSurplus cs constant env inside.items middle → AreSurplus cs constant middle items after → AreSurplus cs constant env (init.Braces place inside ∷ items) after

  pub data SurplusOffends (cs : List ClType) (constant : Bool) : Env → List Init → Offence → Type 0 where
    in_surplus_value : (env : Env) (e : Expr) (items : List Init) (o : Offence) → ValueOffends cs constant env e o → SurplusOffends cs constant env (init.Value e ∷ items) o
    in_surplus_braces : (env : Env) (place : Place) (inside : Vec Init) (items : List Init) (o : Offence) → SurplusOffends cs constant env inside.items o → SurplusOffends cs constant env (init.Braces place inside ∷ items) o
    behind_surplus_value : (env middle : Env) (e : Expr) (items : List Init) (t : TExpr) (p : Operand) (varies : Bool) (o : Offence) → IsValue cs constant env e middle t p varies → SurplusOffends cs constant middle items o → SurplusOffends cs constant env (init.Value e ∷ items) o
    behind_surplus_braces : (env middle : Env) (place : Place) (inside : Vec Init) (items : List Init) (o : Offence) → AreSurplus cs constant env inside.items middle → SurplusOffends cs constant middle items o → SurplusOffends cs constant env (init.Braces place inside ∷ items) o

-- ---- the first offence of a list

mutual
  pub data PartOffends (cs : List ClType) (constant : Bool) : Env → List Init → TypeId → Offence → Type 0 where
    in_list : (env : Env) (place : Place) (items : Vec Init) (rest : List Init) (ty : TypeId) (o : Offence) → ListOffends cs constant env place items.items ty o → PartOffends cs constant env (init.Braces place items ∷ rest) ty o
    in_part_value : (env : Env) (e : Expr) (rest : List Init) (ty : TypeId) (o : Offence) → ValueOffends cs constant env e o → PartOffends cs constant env (init.Value e ∷ rest) ty o
    in_parts : (env seen : Env) (e : Expr) (rest : List Init) (ty : TypeId) (t : TExpr) (p : Operand) (varies : Bool) (o : Offence) → IsValue cs constant env e seen t p varies → takes_whole cs ty p ≡ false → PartsOffend cs constant env (init.Value e ∷ rest) ty o → PartOffends cs constant env (init.Value e ∷ rest) ty o

  pub data PartsOffend (cs : List ClType) (constant : Bool) : Env → List Init → TypeId → Offence → Type 0 where
    in_elements : (env : Env) (items : List Init) (ty elem : TypeId) (len : ℕ) (nested : Bool) (o : Offence) → shape_of cs ty ≡ shape.Array elem len nested → ElementsOffend cs constant env items elem len o → PartsOffend cs constant env items ty o
    in_members : (env : Env) (items : List Init) (ty : TypeId) (o : Offence) → shape_of cs ty ≡ shape.Struct → MembersOffend cs constant env items (members_of cs ty) o → PartsOffend cs constant env items ty o

  pub data ElementsOffend (cs : List ClType) (constant : Bool) : Env → List Init → TypeId → ℕ → Offence → Type 0 where
    in_element : (env : Env) (i : Init) (items : List Init) (elem : TypeId) (n : ℕ) (o : Offence) → PartOffends cs constant env (i ∷ items) elem o → ElementsOffend cs constant env (i ∷ items) elem (suc n) o
    behind_element : (env middle : Env) (i : Init) (items between : List Init) (elem : TypeId) (n : ℕ) (ts : List TExpr) (a : Tally) (o : Offence) → FillsPart cs constant env (i ∷ items) elem middle between ts a → ElementsOffend cs constant middle between elem n o → ElementsOffend cs constant env (i ∷ items) elem (suc n) o

  pub data MembersOffend (cs : List ClType) (constant : Bool) : Env → List Init → List Member → Offence → Type 0 where
    in_member : (env : Env) (i : Init) (items : List Init) (m : Member) (ms : List Member) (o : Offence) → PartOffends cs constant env (i ∷ items) m.ty o → MembersOffend cs constant env (i ∷ items) (m ∷ ms) o
    behind_member : (env middle : Env) (i : Init) (items between : List Init) (m : Member) (ms : List Member) (ts : List TExpr) (a : Tally) (o : Offence) → FillsPart cs constant env (i ∷ items) m.ty middle between ts a → MembersOffend cs constant middle between ms o → MembersOffend cs constant env (i ∷ items) (m ∷ ms) o

  pub data ListOffends (cs : List ClType) (constant : Bool) : Env → Place → List Init → TypeId → Offence → Type 0 where
    in_filling : (env : Env) (place : Place) (items : List Init) (ty : TypeId) (o : Offence) → PartsOffend cs constant env items ty o → ListOffends cs constant env place items ty o
    in_one : (env : Env) (place : Place) (e : Expr) (items : List Init) (ty : TypeId) (o : Offence) → has_parts (shape_of cs ty) ≡ false → ValueOffends cs constant env e o → ListOffends cs constant env place (init.Value e ∷ items) ty o
    -- in items behind those that fill the type
    in_surplus : (env middle : Env) (place : Place) (items left : List Init) (ty : TypeId) (ts : List TExpr) (tally : Tally) (o : Offence) → FillsBraces cs constant env items ty middle left ts tally → SurplusOffends cs constant middle left o → ListOffends cs constant env place items ty o
    in_braces_for_one : (env : Env) (place p : Place) (inside : Vec Init) (left : List Init) (ty : TypeId) (o : Offence) → has_parts (shape_of cs ty) ≡ false → SurplusOffends cs constant env (init.Braces p inside ∷ left) o → ListOffends cs constant env place (init.Braces p inside ∷ left) ty o
    -- 311, 324, 333: the list itself
    broken : (env middle after : Env) (place : Place) (items left : List Init) (ty : TypeId) (ts : List TExpr) (tally : Tally) (code : ℕ) → FillsBraces cs constant env items ty middle left ts tally → AreSurplus cs constant middle left after → first_broken (list_tests tally (some left)) ≡ Some code → ListOffends cs constant env place items ty (at code place)
    -- 324: braces round none, which no text has; two pairs of braces round one value
    round_none : (env : Env) (place : Place) (ty : TypeId) → ListOffends cs constant env place [] ty (at 324 place)
    two_braces : (env after : Env) (place p : Place) (inside : Vec Init) (left : List Init) (ty : TypeId) → has_parts (shape_of cs ty) ≡ false → AreSurplus cs constant env (init.Braces p inside ∷ left) after → ListOffends cs constant env place (init.Braces p inside ∷ left) ty (at 324 place)

pub data AllOffend (cs : List ClType) (constant : Bool) : Env → List Init → TypeId → Offence → Type 0 where
  all_here : (env : Env) (i : Init) (items : List Init) (elem : TypeId) (o : Offence) → PartOffends cs constant env (i ∷ items) elem o → AllOffend cs constant env (i ∷ items) elem o
  all_later : (env middle : Env) (i : Init) (items between : List Init) (elem : TypeId) (ts : List TExpr) (a : Tally) (o : Offence) → FillsPart cs constant env (i ∷ items) elem middle between ts a → AllOffend cs constant middle between elem o → AllOffend cs constant env (i ∷ items) elem o

-- ---- lists that say the length of their array

-- a list that says the length: its parts, and how many elements they fill
pub record IsOpenList (cs : List ClType) (constant : Bool) (env : Env) (items : List Init) (elem : TypeId) (after : Env) (n : ℕ) (ts : List TExpr) (varies : Bool) : Type 0 where
  pub tally : Tally
  pub some : some items ≡ true
  pub fills : FillsAll cs constant env items elem n after ts tally
  pub right : is_right tally ≡ true
  pub is : varies ≡ tally.varies

-- the first offence of such a list
pub data OpenListOffends (cs : List ClType) (constant : Bool) : Env → Place → List Init → TypeId → Offence → Type 0 where
  in_all : (env : Env) (place : Place) (items : List Init) (elem : TypeId) (o : Offence) → AllOffend cs constant env items elem o → OpenListOffends cs constant env place items elem o
  -- 311, 333
  open_broken : (env after : Env) (place : Place) (items : List Init) (elem : TypeId) (n : ℕ) (ts : List TExpr) (tally : Tally) (code : ℕ) → some items ≡ true → FillsAll cs constant env items elem n after ts tally → first_broken (list_tests tally false) ≡ Some code → OpenListOffends cs constant env place items elem (at code place)
  open_round_none : (env : Env) (place : Place) (elem : TypeId) → OpenListOffends cs constant env place [] elem (at 324 place)
