-- What items fill: what they come to, and that each judgement of them comes to it.
use Rattle.std.proofs.Common.{◌≡◌, ℕ, zero, suc, List, [], ◌∷◌, refl, sym, ap, ◌∙◌, subst, Bool, true, false, true≢false, not, ◌||◌, Option, Some, None}
use Rattle.clv_place.specs.declared.stop.Offence.{Offence}
use Rattle.clv_place.specs.declared.place.Place.{Place}
use Rattle.cl_types.specs.declared.types.ClType.{ClType}
use Rattle.cl_types.specs.declared.types.Member.{Member}
use Rattle.cl_types.specs.declared.types.TypeId.{TypeId}
use Rattle.cl_ast.specs.declared.declaration.Init.{Init}
use Rattle.cl_ast.specs.declared.declaration.Init.TheVariants as init
use Rattle.cl_ast.specs.declared.expression.Expr.{Expr}
use Rattle.cl_tree.specs.declared.expression.TExpr.{TExpr}
use Rattle.cl_tree.specs.declared.shape.Shape.TheVariants as shape
use Rattle.cl_tree.specs.Shapes.{shape_of, members_of}
use Rattle.cl_rules.specs.Operands.{first_broken}
use Rattle.cl_scope.specs.Names.{Env}
use Rattle.cl_type_expr.specs.Offences.{at}
use Rattle.cl_variables.specs.declared.tally.Tally.{Tally}
use Rattle.cl_variables.specs.Initialisers.{clean, with, only, tally_of, is_right, list_tests, some, takes_whole, has_parts, FillsPart, by_list, by_value, by_wrong_value, by_parts, FillsParts, its_elements, its_members, FillsElements, elements_full, elements_ended, more_elements, FillsMembers, members_full, members_ended, more_members, FillsBraces, its_parts, itself, IsList, filled, FillsAll, all_ended, more_all, AreSurplus, no_surplus, surplus_value, surplus_braces, SurplusOffends, in_surplus_value, in_surplus_braces, behind_surplus_value, behind_surplus_braces, PartOffends, in_list, in_part_value, in_parts, PartsOffend, in_elements, in_members, ElementsOffend, in_element, behind_element, MembersOffend, in_member, behind_member, ListOffends, in_filling, in_one, in_surplus, in_braces_for_one, broken, round_none, two_braces, AllOffend, all_here, all_later, IsOpenList, OpenListOffends, in_all, open_broken, open_round_none}
use Rattle.cl_verdicts.proofs.VariableOutcomes.{Outcome, gives, stops, Valuing, valuing, Filling, filling, Listing, listing, Counting, counting, Item, one, braces, item_of, value_item, braces_item}
use Rattle.cl_verdicts.proofs.VariableValues.{ValueComes, value_gives, value_stops}

-- ---- what comes behind what

-- what a value declares
abbrev pub env_behind : Outcome Valuing → Outcome Env
env_behind (gives v) = gives v.env
env_behind (stops o) = stops o

-- a list fills its part
abbrev pub list_fills : List Init → Outcome Listing → Outcome Filling
list_fills rest (gives l) = gives (filling l.env rest (only l.varies))
list_fills rest (stops o) = stops o

-- what comes behind a part that was tallied so
abbrev pub fills_behind : Tally → Outcome Filling → Outcome Filling
fills_behind a (gives f) = gives (filling f.env f.left (with a f.tally))
fills_behind a (stops o) = stops o

abbrev pub counts_behind : Tally → Outcome Counting → Outcome Counting
counts_behind a (gives c) = gives (counting c.env (suc c.count) (with a c.tally))
counts_behind a (stops o) = stops o

-- what the tests of a list say, which have a first broken one or none
abbrev pub tested : Place → Env → Bool → Option ℕ → Outcome Listing
tested place env varies None = gives (listing env varies)
tested place env varies (Some code) = stops (at code place)

-- a list of which this is behind what fills its type
abbrev pub closed : Place → Tally → Bool → Outcome Env → Outcome Listing
closed place tally more (gives env) = tested place env tally.varies (first_broken (list_tests tally more))
closed place tally more (stops o) = stops o

-- two pairs of braces round one value
abbrev pub doubled : Place → Outcome Env → Outcome Listing
doubled place (gives env) = stops (at 324 place)
doubled place (stops o) = stops o

-- ---- items for which nothing is left

mutual
  pub data SurplusComes (cs : List ClType) (constant : Bool) : Env → List Init → Outcome Env → Type 0 where
    surplus_ends : (env : Env) → SurplusComes cs constant env [] (gives env)
    surplus_stops : (env : Env) (i : Init) (items : List Init) (o : Offence) → ItemComes cs constant env (item_of i) (stops o) → SurplusComes cs constant env (i ∷ items) (stops o)
    surplus_more : (env middle : Env) (i : Init) (items : List Init) (v : Outcome Env) → ItemComes cs constant env (item_of i) (gives middle) → SurplusComes cs constant middle items v → SurplusComes cs constant env (i ∷ items) v

  pub data ItemComes (cs : List ClType) (constant : Bool) : Env → Item → Outcome Env → Type 0 where
    item_value : (env : Env) (x : Expr) (v : Outcome Valuing) → ValueComes cs constant env x v → ItemComes cs constant env (one x) (env_behind v)
    item_braces : (env : Env) (place : Place) (items : List Init) (v : Outcome Env) → SurplusComes cs constant env items v → ItemComes cs constant env (braces place items) v

-- what fills the type of a list, with the items behind
pub data ListCloses (cs : List ClType) (constant : Bool) : Place → Outcome Filling → Outcome Listing → Type 0 where
  never_closes : (place : Place) (o : Offence) → ListCloses cs constant place (stops o) (stops o)
  closes : (place : Place) (f : Filling) (v : Outcome Env) → SurplusComes cs constant f.env f.left v → ListCloses cs constant place (gives f) (closed place f.tally (some f.left) v)

-- ---- items that fill a part, and lists

mutual
  pub data PartComes (cs : List ClType) (constant : Bool) : Env → Item → List Init → TypeId → Outcome Filling → Type 0 where
    part_list : (env : Env) (place : Place) (items rest : List Init) (ty : TypeId) (v : Outcome Listing) → ListComes cs constant env place items ty v → PartComes cs constant env (braces place items) rest ty (list_fills rest v)
    part_stops : (env : Env) (x : Expr) (rest : List Init) (ty : TypeId) (o : Offence) → ValueComes cs constant env x (stops o) → PartComes cs constant env (one x) rest ty (stops o)
    part_whole : (env : Env) (x : Expr) (rest : List Init) (ty : TypeId) (v : Valuing) (tally : Tally) → ValueComes cs constant env x (gives v) → takes_whole cs ty v.operand ≡ true → tally ≡ tally_of cs v.operand ty v.varies → PartComes cs constant env (one x) rest ty (gives (filling v.env rest tally))
    part_inside : (env : Env) (x : Expr) (rest : List Init) (ty : TypeId) (v : Valuing) (w : Outcome Filling) → ValueComes cs constant env x (gives v) → takes_whole cs ty v.operand ≡ false → PartsCome cs constant env (init.Value x ∷ rest) ty w → PartComes cs constant env (one x) rest ty w

  pub data PartsCome (cs : List ClType) (constant : Bool) : Env → List Init → TypeId → Outcome Filling → Type 0 where
    parts_elements : (env : Env) (items : List Init) (ty elem : TypeId) (len : ℕ) (nested : Bool) (v : Outcome Filling) → shape_of cs ty ≡ shape.Array elem len nested → ElementsCome cs constant env items elem len v → PartsCome cs constant env items ty v
    parts_members : (env : Env) (items : List Init) (ty : TypeId) (v : Outcome Filling) → shape_of cs ty ≡ shape.Struct → MembersCome cs constant env items (members_of cs ty) v → PartsCome cs constant env items ty v

  pub data ElementsCome (cs : List ClType) (constant : Bool) : Env → List Init → TypeId → ℕ → Outcome Filling → Type 0 where
    all_elements : (env : Env) (items : List Init) (elem : TypeId) → ElementsCome cs constant env items elem zero (gives (filling env items clean))
    few_elements : (env : Env) (elem : TypeId) (n : ℕ) → ElementsCome cs constant env [] elem (suc n) (gives (filling env [] clean))
    element_stops : (env : Env) (i : Init) (items : List Init) (elem : TypeId) (n : ℕ) (o : Offence) → PartComes cs constant env (item_of i) items elem (stops o) → ElementsCome cs constant env (i ∷ items) elem (suc n) (stops o)
    element_fills : (env : Env) (i : Init) (items : List Init) (elem : TypeId) (n : ℕ) (f : Filling) (v : Outcome Filling) → PartComes cs constant env (item_of i) items elem (gives f) → ElementsCome cs constant f.env f.left elem n v → ElementsCome cs constant env (i ∷ items) elem (suc n) (fills_behind f.tally v)

  pub data MembersCome (cs : List ClType) (constant : Bool) : Env → List Init → List Member → Outcome Filling → Type 0 where
    all_members : (env : Env) (items : List Init) → MembersCome cs constant env items [] (gives (filling env items clean))
    few_members : (env : Env) (m : Member) (ms : List Member) → MembersCome cs constant env [] (m ∷ ms) (gives (filling env [] clean))
    member_stops : (env : Env) (i : Init) (items : List Init) (m : Member) (ms : List Member) (o : Offence) → PartComes cs constant env (item_of i) items m.ty (stops o) → MembersCome cs constant env (i ∷ items) (m ∷ ms) (stops o)
    member_fills : (env : Env) (i : Init) (items : List Init) (m : Member) (ms : List Member) (f : Filling) (v : Outcome Filling) → PartComes cs constant env (item_of i) items m.ty (gives f) → MembersCome cs constant f.env f.left ms v → MembersCome cs constant env (i ∷ items) (m ∷ ms) (fills_behind f.tally v)

  -- A type with parts is filled by them, another one by one value in one pair of braces.
  pub data ListComes (cs : List ClType) (constant : Bool) : Env → Place → List Init → TypeId → Outcome Listing → Type 0 where
    list_none : (env : Env) (place : Place) (ty : TypeId) → ListComes cs constant env place [] ty (stops (at 324 place))
    list_parts : (env : Env) (place : Place) (i : Init) (items : List Init) (ty : TypeId) (v : Outcome Filling) (w : Outcome Listing) → has_parts (shape_of cs ty) ≡ true → PartsCome cs constant env (i ∷ items) ty v → ListCloses cs constant place v w → ListComes cs constant env place (i ∷ items) ty w
    list_value : (env : Env) (place : Place) (i : Init) (x : Expr) (items : List Init) (ty : TypeId) (v : Outcome Filling) (w : Outcome Listing) → has_parts (shape_of cs ty) ≡ false → item_of i ≡ one x → PartComes cs constant env (one x) items ty v → ListCloses cs constant place v w → ListComes cs constant env place (i ∷ items) ty w
    list_braces : (env : Env) (place : Place) (i : Init) (p : Place) (inside items : List Init) (ty : TypeId) (v : Outcome Env) → has_parts (shape_of cs ty) ≡ false → item_of i ≡ braces p inside → SurplusComes cs constant env (i ∷ items) v → ListComes cs constant env place (i ∷ items) ty (doubled place v)

-- ---- elements that are counted

pub data AllCome (cs : List ClType) (constant : Bool) : Env → List Init → TypeId → Outcome Counting → Type 0 where
  all_end : (env : Env) (elem : TypeId) → AllCome cs constant env [] elem (gives (counting env zero clean))
  all_stop : (env : Env) (i : Init) (items : List Init) (elem : TypeId) (o : Offence) → PartComes cs constant env (item_of i) items elem (stops o) → AllCome cs constant env (i ∷ items) elem (stops o)
  all_more : (env : Env) (i : Init) (items : List Init) (elem : TypeId) (f : Filling) (v : Outcome Counting) → PartComes cs constant env (item_of i) items elem (gives f) → AllCome cs constant f.env f.left elem v → AllCome cs constant env (i ∷ items) elem (counts_behind f.tally v)

-- what the tests of a list that says a length say
abbrev pub counted : Place → Env → ℕ → Bool → Option ℕ → Outcome Counting
counted place env n varies None = gives (counting env n (only varies))
counted place env n varies (Some code) = stops (at code place)

abbrev pub opened : Place → Outcome Counting → Outcome Counting
opened place (gives c) = counted place c.env c.count c.tally.varies (first_broken (list_tests c.tally false))
opened place (stops o) = stops o

pub data OpenListComes (cs : List ClType) (constant : Bool) : Env → Place → List Init → TypeId → Outcome Counting → Type 0 where
  open_none : (env : Env) (place : Place) (elem : TypeId) → OpenListComes cs constant env place [] elem (stops (at 324 place))
  open_some : (env : Env) (place : Place) (i : Init) (items : List Init) (elem : TypeId) (v : Outcome Counting) → AllCome cs constant env (i ∷ items) elem v → OpenListComes cs constant env place (i ∷ items) elem (opened place v)

-- ---- each judgement comes to it

-- a list that is right breaks no test
right_passes : (t : Tally) → is_right t ≡ true → first_broken (list_tests t false) ≡ None
right_passes t h = by t.no_value t.no_pointer h
  where
    by : (a b : Bool) → not (a || b) ≡ true → first_broken ((311, a) ∷ (324, false) ∷ (333, b) ∷ []) ≡ None
    by true b k = absurd (true≢false (sym k))
    by false true k = absurd (true≢false (sym k))
    by false false k = refl

module _ (cs : List ClType) (constant : Bool) where
  pub surplus_comes : (env : Env) (items : List Init) (after : Env) → AreSurplus cs constant env items after → SurplusComes cs constant env items (gives after)
  surplus_comes _ _ _ (no_surplus env) = surplus_ends env
  surplus_comes _ _ _ (surplus_value env middle after x items t o varies h k) =
      surplus_more env middle (init.Value x) items (gives after) (subst (λ i. ItemComes cs constant env i (gives middle)) (sym (value_item x)) (item_value env x (gives (valuing middle o varies)) (value_gives env middle x t o varies h))) (surplus_comes _ _ _ k)
  surplus_comes _ _ _ (surplus_braces env middle after place inside items h k) =
      surplus_more env middle (init.Braces place inside) items (gives after) (subst (λ i. ItemComes cs constant env i (gives middle)) (sym (braces_item place inside)) (item_braces env place inside.items (gives middle) (surplus_comes _ _ _ h))) (surplus_comes _ _ _ k)

  pub surplus_breaks : (env : Env) (items : List Init) (o : Offence) → SurplusOffends cs constant env items o → SurplusComes cs constant env items (stops o)
  surplus_breaks _ _ _ (in_surplus_value env x items o h) =
      surplus_stops env (init.Value x) items o (subst (λ i. ItemComes cs constant env i (stops o)) (sym (value_item x)) (item_value env x (stops o) (value_stops env x o h)))
  surplus_breaks _ _ _ (in_surplus_braces env place inside items o h) =
      surplus_stops env (init.Braces place inside) items o (subst (λ i. ItemComes cs constant env i (stops o)) (sym (braces_item place inside)) (item_braces env place inside.items (stops o) (surplus_breaks _ _ _ h)))
  surplus_breaks _ _ _ (behind_surplus_value env middle x items t p varies o h k) =
      surplus_more env middle (init.Value x) items (stops o) (subst (λ i. ItemComes cs constant env i (gives middle)) (sym (value_item x)) (item_value env x (gives (valuing middle p varies)) (value_gives env middle x t p varies h))) (surplus_breaks _ _ _ k)
  surplus_breaks _ _ _ (behind_surplus_braces env middle place inside items o h k) =
      surplus_more env middle (init.Braces place inside) items (stops o) (subst (λ i. ItemComes cs constant env i (gives middle)) (sym (braces_item place inside)) (item_braces env place inside.items (gives middle) (surplus_comes _ _ _ h))) (surplus_breaks _ _ _ k)

  -- the first of items, with those behind it
  abbrev PartAt : Env → List Init → TypeId → Outcome Filling → Type 0
  PartAt env [] ty v = ⊥
  PartAt env (i ∷ rest) ty v = PartComes cs constant env (item_of i) rest ty v

  parts_have : (env : Env) (items : List Init) (ty : TypeId) (v : Outcome Filling) → PartsCome cs constant env items ty v → has_parts (shape_of cs ty) ≡ true
  parts_have _ _ _ _ (parts_elements env items ty elem len nested v h k) = ap has_parts h
  parts_have _ _ _ _ (parts_members env items ty v h k) = ap has_parts h

  list_by_parts : (env : Env) (place : Place) (items : List Init) (ty : TypeId) (v : Outcome Filling) (w : Outcome Listing) → some items ≡ true → PartsCome cs constant env items ty v → ListCloses cs constant place v w → ListComes cs constant env place items ty w
  list_by_parts env place [] ty v w h k c = absurd (true≢false (sym h))
  list_by_parts env place (i ∷ items) ty v w h k c = list_parts env place i items ty v w (parts_have env (i ∷ items) ty v k) k c

  some_break : (env : Env) (items : List Init) (ty : TypeId) (o : Offence) → PartsOffend cs constant env items ty o → some items ≡ true
  some_break _ _ _ _ (in_elements env items ty elem len nested o h k) = some_element env items elem len o k
    where
      some_element : (env : Env) (items : List Init) (elem : TypeId) (n : ℕ) (o : Offence) → ElementsOffend cs constant env items elem n o → some items ≡ true
      some_element _ _ _ _ _ (in_element env i items elem n o h) = refl
      some_element _ _ _ _ _ (behind_element env middle i items between elem n ts a o h k) = refl
  some_break _ _ _ _ (in_members env items ty o h k) = some_member env items (members_of cs ty) o k
    where
      some_member : (env : Env) (items : List Init) (ms : List Member) (o : Offence) → MembersOffend cs constant env items ms o → some items ≡ true
      some_member _ _ _ _ (in_member env i items m ms o h) = refl
      some_member _ _ _ _ (behind_member env middle i items between m ms ts a o h k) = refl

  mutual
    pub part_comes : (env : Env) (items : List Init) (ty : TypeId) (after : Env) (left : List Init) (ts : List TExpr) (tally : Tally) → FillsPart cs constant env items ty after left ts tally → PartAt env items ty (gives (filling after left tally))
    part_comes _ _ _ _ _ _ _ (by_list env after place items rest ty t varies h) =
        subst (λ i. PartComes cs constant env i rest ty (gives (filling after rest (only varies)))) (sym (braces_item place items)) (part_list env place items.items rest ty (gives (listing after varies)) (list_comes _ _ _ _ _ _ _ h))
    part_comes _ _ _ _ _ _ _ (by_value env after x rest ty t u o varies tally h h1 h2 h3 h4) =
        subst (λ i. PartComes cs constant env i rest ty (gives (filling after rest tally))) (sym (value_item x)) (part_whole env x rest ty (valuing after o varies) tally (value_gives env after x t o varies h) h1 h2)
    part_comes _ _ _ _ _ _ _ (by_wrong_value env after x rest ty t o varies tally h h1 h2 h3) =
        subst (λ i. PartComes cs constant env i rest ty (gives (filling after rest tally))) (sym (value_item x)) (part_whole env x rest ty (valuing after o varies) tally (value_gives env after x t o varies h) h1 h2)
    part_comes _ _ _ _ _ _ _ (by_parts env seen after x rest left ty t ts o varies tally h h1 h2) =
        subst (λ i. PartComes cs constant env i rest ty (gives (filling after left tally))) (sym (value_item x)) (part_inside env x rest ty (valuing seen o varies) (gives (filling after left tally)) (value_gives env seen x t o varies h) h1 (parts_come _ _ _ _ _ _ _ h2))

    parts_come : (env : Env) (items : List Init) (ty : TypeId) (after : Env) (left : List Init) (ts : List TExpr) (tally : Tally) → FillsParts cs constant env items ty after left ts tally → PartsCome cs constant env items ty (gives (filling after left tally))
    parts_come _ _ _ _ _ _ _ (its_elements env after items left ty elem len nested ts tally h k) = parts_elements env items ty elem len nested (gives (filling after left tally)) h (elements_come _ _ _ _ _ _ _ _ k)
    parts_come _ _ _ _ _ _ _ (its_members env after items left ty ts tally h k) = parts_members env items ty (gives (filling after left tally)) h (members_come _ _ _ _ _ _ _ k)

    elements_come : (env : Env) (items : List Init) (elem : TypeId) (n : ℕ) (after : Env) (left : List Init) (ts : List TExpr) (tally : Tally) → FillsElements cs constant env items elem n after left ts tally → ElementsCome cs constant env items elem n (gives (filling after left tally))
    elements_come _ _ _ _ _ _ _ _ (elements_full env items elem) = all_elements env items elem
    elements_come _ _ _ _ _ _ _ _ (elements_ended env elem n) = few_elements env elem n
    elements_come _ _ _ _ _ _ _ _ (more_elements env middle after i items between left elem n ts us a c h k) =
        element_fills env i items elem n (filling middle between a) (gives (filling after left c)) (part_comes _ _ _ _ _ _ _ h) (elements_come _ _ _ _ _ _ _ _ k)

    members_come : (env : Env) (items : List Init) (ms : List Member) (after : Env) (left : List Init) (ts : List TExpr) (tally : Tally) → FillsMembers cs constant env items ms after left ts tally → MembersCome cs constant env items ms (gives (filling after left tally))
    members_come _ _ _ _ _ _ _ (members_full env items) = all_members env items
    members_come _ _ _ _ _ _ _ (members_ended env m ms) = few_members env m ms
    members_come _ _ _ _ _ _ _ (more_members env middle after i items between left m ms ts us a c h k) =
        member_fills env i items m ms (filling middle between a) (gives (filling after left c)) (part_comes _ _ _ _ _ _ _ h) (members_come _ _ _ _ _ _ _ k)

    braces_come : (env : Env) (items : List Init) (ty : TypeId) (after : Env) (left : List Init) (ts : List TExpr) (tally : Tally) → FillsBraces cs constant env items ty after left ts tally → (place : Place) (w : Outcome Listing) → ListCloses cs constant place (gives (filling after left tally)) w → ListComes cs constant env place items ty w
    braces_come _ _ _ _ _ _ _ (its_parts env after items left ty ts tally h k) place w c = list_by_parts env place items ty (gives (filling after left tally)) w h (parts_come _ _ _ _ _ _ _ k) c
    braces_come _ _ _ _ _ _ _ (itself env after x left ty ts tally h k) place w c =
        list_value env place (init.Value x) x left ty (gives (filling after left tally)) w h (value_item x) (subst (λ i. PartComes cs constant env i left ty (gives (filling after left tally))) (value_item x) (part_comes _ _ _ _ _ _ _ k)) c

    pub list_comes : (env : Env) (place : Place) (items : List Init) (ty : TypeId) (after : Env) (t : TExpr) (varies : Bool) → IsList cs constant env place items ty after t varies → ListComes cs constant env place items ty (gives (listing after varies))
    list_comes _ _ _ _ _ _ _ (filled env after place items ty ts t tally h k n) =
        braces_come _ _ _ _ _ _ _ h place (gives (listing after tally.varies))
        (subst (ListCloses cs constant place (gives (filling after [] tally))) (ap (tested place after tally.varies) (right_passes tally k)) (closes place (filling after [] tally) (gives after) (surplus_ends after)))

  mutual
    pub part_breaks : (env : Env) (items : List Init) (ty : TypeId) (o : Offence) → PartOffends cs constant env items ty o → PartAt env items ty (stops o)
    part_breaks _ _ _ _ (in_list env place items rest ty o h) =
        subst (λ i. PartComes cs constant env i rest ty (stops o)) (sym (braces_item place items)) (part_list env place items.items rest ty (stops o) (list_breaks _ _ _ _ _ h))
    part_breaks _ _ _ _ (in_part_value env x rest ty o h) =
        subst (λ i. PartComes cs constant env i rest ty (stops o)) (sym (value_item x)) (part_stops env x rest ty o (value_stops env x o h))
    part_breaks _ _ _ _ (in_parts env seen x rest ty t p varies o h h1 h2) =
        subst (λ i. PartComes cs constant env i rest ty (stops o)) (sym (value_item x)) (part_inside env x rest ty (valuing seen p varies) (stops o) (value_gives env seen x t p varies h) h1 (parts_break _ _ _ _ h2))

    parts_break : (env : Env) (items : List Init) (ty : TypeId) (o : Offence) → PartsOffend cs constant env items ty o → PartsCome cs constant env items ty (stops o)
    parts_break _ _ _ _ (in_elements env items ty elem len nested o h k) = parts_elements env items ty elem len nested (stops o) h (elements_break _ _ _ _ _ k)
    parts_break _ _ _ _ (in_members env items ty o h k) = parts_members env items ty (stops o) h (members_break _ _ _ _ k)

    elements_break : (env : Env) (items : List Init) (elem : TypeId) (n : ℕ) (o : Offence) → ElementsOffend cs constant env items elem n o → ElementsCome cs constant env items elem n (stops o)
    elements_break _ _ _ _ _ (in_element env i items elem n o h) = element_stops env i items elem n o (part_breaks _ _ _ _ h)
    elements_break _ _ _ _ _ (behind_element env middle i items between elem n ts a o h k) =
        element_fills env i items elem n (filling middle between a) (stops o) (part_comes _ _ _ _ _ _ _ h) (elements_break _ _ _ _ _ k)

    members_break : (env : Env) (items : List Init) (ms : List Member) (o : Offence) → MembersOffend cs constant env items ms o → MembersCome cs constant env items ms (stops o)
    members_break _ _ _ _ (in_member env i items m ms o h) = member_stops env i items m ms o (part_breaks _ _ _ _ h)
    members_break _ _ _ _ (behind_member env middle i items between m ms ts a o h k) =
        member_fills env i items m ms (filling middle between a) (stops o) (part_comes _ _ _ _ _ _ _ h) (members_break _ _ _ _ k)

    pub list_breaks : (env : Env) (place : Place) (items : List Init) (ty : TypeId) (o : Offence) → ListOffends cs constant env place items ty o → ListComes cs constant env place items ty (stops o)
    list_breaks _ _ _ _ _ (in_filling env place items ty o h) = list_by_parts env place items ty (stops o) (stops o) (some_break _ _ _ _ h) (parts_break _ _ _ _ h) (never_closes place o)
    list_breaks _ _ _ _ _ (in_one env place x items ty o h k) =
        list_value env place (init.Value x) x items ty (stops o) (stops o) h (value_item x) (part_stops env x items ty o (value_stops env x o k)) (never_closes place o)
    list_breaks _ _ _ _ _ (in_surplus env middle place items left ty ts tally o h k) =
        braces_come _ _ _ _ _ _ _ h place (stops o) (closes place (filling middle left tally) (stops o) (surplus_breaks _ _ _ k))
    list_breaks _ _ _ _ _ (in_braces_for_one env place p inside left ty o h k) =
        list_braces env place (init.Braces p inside) p inside.items left ty (stops o) h (braces_item p inside) (surplus_breaks _ _ _ k)
    list_breaks _ _ _ _ _ (broken env middle after place items left ty ts tally code h k n) =
        braces_come _ _ _ _ _ _ _ h place (stops (at code place))
        (subst (ListCloses cs constant place (gives (filling middle left tally))) (ap (tested place after tally.varies) n) (closes place (filling middle left tally) (gives after) (surplus_comes _ _ _ k)))
    list_breaks _ _ _ _ _ (round_none env place ty) = list_none env place ty
    list_breaks _ _ _ _ _ (two_braces env after place p inside left ty h k) =
        list_braces env place (init.Braces p inside) p inside.items left ty (gives after) h (braces_item p inside) (surplus_comes _ _ _ k)

  all_comes : (env : Env) (items : List Init) (elem : TypeId) (n : ℕ) (after : Env) (ts : List TExpr) (tally : Tally) → FillsAll cs constant env items elem n after ts tally → AllCome cs constant env items elem (gives (counting after n tally))
  all_comes _ _ _ _ _ _ _ (all_ended env elem) = all_end env elem
  all_comes _ _ _ _ _ _ _ (more_all env middle after i items between elem n ts us a c h k) =
      all_more env i items elem (filling middle between a) (gives (counting after n c)) (part_comes _ _ _ _ _ _ _ h) (all_comes _ _ _ _ _ _ _ k)

  all_breaks : (env : Env) (items : List Init) (elem : TypeId) (o : Offence) → AllOffend cs constant env items elem o → AllCome cs constant env items elem (stops o)
  all_breaks _ _ _ _ (all_here env i items elem o h) = all_stop env i items elem o (part_breaks _ _ _ _ h)
  all_breaks _ _ _ _ (all_later env middle i items between elem ts a o h k) =
      all_more env i items elem (filling middle between a) (stops o) (part_comes _ _ _ _ _ _ _ h) (all_breaks _ _ _ _ k)

  open_by_all : (env : Env) (place : Place) (items : List Init) (elem : TypeId) (v : Outcome Counting) → some items ≡ true → AllCome cs constant env items elem v → OpenListComes cs constant env place items elem (opened place v)
  open_by_all env place [] elem v h k = absurd (true≢false (sym h))
  open_by_all env place (i ∷ items) elem v h k = open_some env place i items elem v k

  pub open_list_comes : (env : Env) (place : Place) (items : List Init) (elem : TypeId) (after : Env) (n : ℕ) (ts : List TExpr) (varies : Bool) → IsOpenList cs constant env items elem after n ts varies → OpenListComes cs constant env place items elem (gives (counting after n (only varies)))
  open_list_comes env place items elem after n ts varies h =
      subst (OpenListComes cs constant env place items elem) (ap (counted place after n h.tally.varies) (right_passes h.tally h.right) ∙ ap (λ z. gives (counting after n (only z))) (sym h.is))
      (open_by_all env place items elem (gives (counting after n h.tally)) h.some (all_comes _ _ _ _ _ _ _ h.fills))

  pub open_list_breaks : (env : Env) (place : Place) (items : List Init) (elem : TypeId) (o : Offence) → OpenListOffends cs constant env place items elem o → OpenListComes cs constant env place items elem (stops o)
  open_list_breaks _ _ _ _ _ (in_all env place items elem o h) = open_by_all env place items elem (stops o) (some_all env items elem o h) (all_breaks _ _ _ _ h)
    where
      some_all : (env : Env) (items : List Init) (elem : TypeId) (o : Offence) → AllOffend cs constant env items elem o → some items ≡ true
      some_all _ _ _ _ (all_here env i items elem o h) = refl
      some_all _ _ _ _ (all_later env middle i items between elem ts a o h k) = refl
  open_list_breaks _ _ _ _ _ (open_broken env after place items elem n ts tally code h k m) =
      subst (OpenListComes cs constant env place items elem) (ap (counted place after n tally.varies) m) (open_by_all env place items elem (gives (counting after n tally)) h (all_comes _ _ _ _ _ _ _ k))
  open_list_breaks _ _ _ _ _ (open_round_none env place elem) = open_none env place elem
