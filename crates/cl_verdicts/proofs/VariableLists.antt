-- What items fill comes to one outcome, whatever numbers types have.
use Rattle.std.proofs.Common.{◌≡◌, ℕ, zero, List, [], map, refl, sym, ap, ◌∙◌, subst, Bool, true, false, true≢false, Option, Some, None}
use Rattle.clv_place.specs.declared.place.Place.{Place}
use Rattle.cl_types.specs.declared.types.ClType.{ClType}
use Rattle.cl_types.specs.declared.types.Member.{Member}
use Rattle.cl_types.specs.declared.types.TypeId.{TypeId}
use Rattle.cl_types.specs.Table.{AreBuilt}
use Rattle.cl_ast.specs.declared.declaration.Init.{Init}
use Rattle.cl_tree.specs.declared.shape.Shape.TheVariants as shape
use Rattle.cl_tree.specs.Shapes.{shape_of, members_of}
use Rattle.cl_rules.specs.Operands.{first_broken}
use Rattle.cl_scope.specs.Names.{Env}
use Rattle.cl_variables.specs.declared.tally.Tally.{Tally}
use Rattle.cl_variables.specs.Initialisers.{clean, tally_of, list_tests, some, takes_whole, has_parts}
use Rattle.cl_renaming.specs.Renaming.{type_id, member, shape_as, env_as, IsRenaming, AreTypes}
use Rattle.cl_renaming.proofs.Shapes.{shape_of_as, members_of_as}
use Rattle.cl_verdicts.proofs.VariableOutcomes.{Outcome, gives, stops, outcome_as, gives_same, gives_stops, stops_same, Valuing, valuing_as, Filling, filling, filling_as, Listing, listing_as, Counting, counting, counting_as, Item, one, one_same, one_braces}
use Rattle.cl_verdicts.proofs.VariableValues.{tally_of_as, takes_whole_as, has_parts_as, value_one}
use Rattle.cl_verdicts.proofs.VariableFillings.{env_behind, list_fills, fills_behind, counts_behind, tested, closed, doubled, SurplusComes, surplus_ends, surplus_stops, surplus_more, ItemComes, item_value, item_braces, ListCloses, never_closes, closes, PartComes, part_list, part_stops, part_whole, part_inside, PartsCome, parts_elements, parts_members, ElementsCome, all_elements, few_elements, element_stops, element_fills, MembersCome, all_members, few_members, member_stops, member_fills, ListComes, list_none, list_parts, list_value, list_braces, AllCome, all_end, all_stop, all_more, counted, opened, OpenListComes, open_none, open_some}

-- ---- what comes behind what, by other numbers of types

module _ (r : ℕ → ℕ) where
  env_behind_as : (v : Outcome Valuing) → env_behind (outcome_as (valuing_as r) v) ≡ outcome_as (env_as r) (env_behind v)
  env_behind_as (gives v) = refl
  env_behind_as (stops o) = refl

  list_fills_as : (rest : List Init) (v : Outcome Listing) → list_fills rest (outcome_as (listing_as r) v) ≡ outcome_as (filling_as r) (list_fills rest v)
  list_fills_as rest (gives l) = refl
  list_fills_as rest (stops o) = refl

  fills_behind_as : (a : Tally) (v : Outcome Filling) → fills_behind a (outcome_as (filling_as r) v) ≡ outcome_as (filling_as r) (fills_behind a v)
  fills_behind_as a (gives f) = refl
  fills_behind_as a (stops o) = refl

  counts_behind_as : (a : Tally) (v : Outcome Counting) → counts_behind a (outcome_as (counting_as r) v) ≡ outcome_as (counting_as r) (counts_behind a v)
  counts_behind_as a (gives c) = refl
  counts_behind_as a (stops o) = refl

  tested_as : (place : Place) (env : Env) (varies : Bool) (code : Option ℕ) → tested place (env_as r env) varies code ≡ outcome_as (listing_as r) (tested place env varies code)
  tested_as place env varies None = refl
  tested_as place env varies (Some code) = refl

  closed_as : (place : Place) (tally : Tally) (more : Bool) (v : Outcome Env) → closed place tally more (outcome_as (env_as r) v) ≡ outcome_as (listing_as r) (closed place tally more v)
  closed_as place tally more (gives env) = tested_as place env tally.varies (first_broken (list_tests tally more))
  closed_as place tally more (stops o) = refl

  doubled_as : (place : Place) (v : Outcome Env) → doubled place (outcome_as (env_as r) v) ≡ outcome_as (listing_as r) (doubled place v)
  doubled_as place (gives env) = refl
  doubled_as place (stops o) = refl

  counted_as : (place : Place) (env : Env) (n : ℕ) (varies : Bool) (code : Option ℕ) → counted place (env_as r env) n varies code ≡ outcome_as (counting_as r) (counted place env n varies code)
  counted_as place env n varies None = refl
  counted_as place env n varies (Some code) = refl

  opened_as : (place : Place) (v : Outcome Counting) → opened place (outcome_as (counting_as r) v) ≡ outcome_as (counting_as r) (opened place v)
  opened_as place (gives c) = counted_as place c.env c.count c.tally.varies (first_broken (list_tests c.tally false))
  opened_as place (stops o) = refl

pub array_elem : (elem elem2 : TypeId) (len len2 : ℕ) (nested nested2 : Bool) → shape.Array elem2 len2 nested2 ≡ shape.Array elem len nested → elem2 ≡ elem
array_elem elem elem2 len len2 nested nested2 e = cc

array_len : (elem elem2 : TypeId) (len len2 : ℕ) (nested nested2 : Bool) → shape.Array elem2 len2 nested2 ≡ shape.Array elem len nested → len2 ≡ len
array_len elem elem2 len len2 nested nested2 e = cc

array_struct : {A : Type 0} (elem : TypeId) (len : ℕ) (nested : Bool) → shape.Array elem len nested ≡ shape.Struct → A
array_struct elem len nested e = cc

pub so_not : {A : Type 0} (x y : Bool) → y ≡ x → x ≡ true → y ≡ false → A
so_not x y e h k = absurd (true≢false (sym h ∙ sym e ∙ k))

module _ (cs ds : List ClType) (r : ℕ → ℕ) (e : IsRenaming cs ds r) (bc : AreBuilt [] cs) (b : AreTypes ds) (constant : Bool) where
  -- ---- items for which nothing is left

  mutual
    pub surplus_one : (env : Env) (items : List Init) (v : Outcome Env) → SurplusComes cs constant env items v → (env2 : Env) (w : Outcome Env) → env2 ≡ env_as r env → SurplusComes ds constant env2 items w → w ≡ outcome_as (env_as r) v
    surplus_one _ _ _ (surplus_ends env) _ _ f (surplus_ends env2) = ap gives f
    surplus_one _ _ _ (surplus_stops env i items o h) _ _ f (surplus_stops env2 i2 items2 o2 k) = item_one _ _ _ h env2 (stops o2) f k
    surplus_one _ _ _ (surplus_stops env i items o h) _ _ f (surplus_more env2 middle2 i2 items2 w k l) = gives_stops middle2 o (item_one _ _ _ h env2 (gives middle2) f k)
    surplus_one _ _ _ (surplus_more env middle i items v h g) _ _ f (surplus_stops env2 i2 items2 o2 k) = gives_stops (env_as r middle) o2 (sym (item_one _ _ _ h env2 (stops o2) f k))
    surplus_one _ _ _ (surplus_more env middle i items v h g) _ _ f (surplus_more env2 middle2 i2 items2 w k l) =
        surplus_one _ _ _ g middle2 w (gives_same middle2 (env_as r middle) (item_one _ _ _ h env2 (gives middle2) f k)) l

    item_one : (env : Env) (i : Item) (v : Outcome Env) → ItemComes cs constant env i v → (env2 : Env) (w : Outcome Env) → env2 ≡ env_as r env → ItemComes ds constant env2 i w → w ≡ outcome_as (env_as r) v
    item_one _ _ _ (item_value env x v h) _ _ f (item_value env2 x2 w k) = ap env_behind (value_one cs ds r e bc b constant env x v h env2 w f k) ∙ env_behind_as r v
    item_one _ _ _ (item_braces env place items v h) _ _ f (item_braces env2 place2 items2 w k) = surplus_one _ _ _ h env2 w f k

  closes_one : (place : Place) (v : Outcome Filling) (x : Outcome Listing) → ListCloses cs constant place v x → (w : Outcome Filling) (y : Outcome Listing) → w ≡ outcome_as (filling_as r) v → ListCloses ds constant place w y → y ≡ outcome_as (listing_as r) x
  closes_one _ _ _ (never_closes place o) _ _ f (never_closes place2 o2) = ap stops (stops_same o2 o (stops o2) refl f)
  closes_one _ _ _ (never_closes place o) _ _ f (closes place2 g w k) = gives_stops g o f
  closes_one _ _ _ (closes place l v h) _ _ f (never_closes place2 o2) = gives_stops (filling_as r l) o2 (sym f)
  closes_one _ _ _ (closes place l v h) _ _ f (closes place2 g w k) =
      let p : g ≡ filling_as r l = gives_same g (filling_as r l) f in
      let s = surplus_one l.env l.left v h g.env w (ap (λ z. z.env) p) (subst (λ z. SurplusComes ds constant g.env z w) (ap (λ z. z.left) p) k) in
      (λ i. closed place (p i).tally (some (p i).left) (s i)) ∙ closed_as r place l.tally (some l.left) v

  -- ---- shapes

  pub shape_there : (ty ty2 : TypeId) → ty2 ≡ type_id r ty → shape_of ds ty2 ≡ shape_as r (shape_of cs ty)
  shape_there ty ty2 g = ap (shape_of ds) g ∙ shape_of_as cs ds r e ty

  parts_there : (ty ty2 : TypeId) → ty2 ≡ type_id r ty → has_parts (shape_of ds ty2) ≡ has_parts (shape_of cs ty)
  parts_there ty ty2 g = ap (λ z. has_parts (shape_of ds z)) g ∙ has_parts_as cs ds r e ty

  taken_there : (v w : Valuing) (ty ty2 : TypeId) → w ≡ valuing_as r v → ty2 ≡ type_id r ty → takes_whole ds ty2 w.operand ≡ takes_whole cs ty v.operand
  taken_there v w ty ty2 p g = (λ i. takes_whole ds (g i) (p i).operand) ∙ takes_whole_as cs ds r e ty v.operand

  tallied_there : (v w : Valuing) (ty ty2 : TypeId) → w ≡ valuing_as r v → ty2 ≡ type_id r ty → tally_of ds w.operand ty2 w.varies ≡ tally_of cs v.operand ty v.varies
  tallied_there v w ty ty2 p g = (λ i. tally_of ds (p i).operand (g i) (p i).varies) ∙ tally_of_as cs ds r e v.operand ty v.varies

  -- ---- items that fill a part, and lists

  mutual
    pub part_one : (env : Env) (i : Item) (rest : List Init) (ty : TypeId) (v : Outcome Filling) → PartComes cs constant env i rest ty v → (env2 : Env) (ty2 : TypeId) (w : Outcome Filling) → env2 ≡ env_as r env → ty2 ≡ type_id r ty → PartComes ds constant env2 i rest ty2 w → w ≡ outcome_as (filling_as r) v
    part_one _ _ _ _ _ (part_list env place items rest ty v h) _ _ _ f g (part_list env2 place2 items2 rest2 ty2 w k) = ap (list_fills rest) (list_one _ _ _ _ _ h env2 ty2 w f g k) ∙ list_fills_as r rest v
    part_one _ _ _ _ _ (part_stops env x rest ty o h) _ _ _ f g (part_stops env2 x2 rest2 ty2 o2 k) =
        ap stops (stops_same o2 o (stops o2) refl (value_one cs ds r e bc b constant env x (stops o) h env2 (stops o2) f k))
    part_one _ _ _ _ _ (part_stops env x rest ty o h) _ _ _ f g (part_whole env2 x2 rest2 ty2 w tally2 k k1 k2) = gives_stops w o (value_one cs ds r e bc b constant env x (stops o) h env2 (gives w) f k)
    part_one _ _ _ _ _ (part_stops env x rest ty o h) _ _ _ f g (part_inside env2 x2 rest2 ty2 w y k k1 k2) = gives_stops w o (value_one cs ds r e bc b constant env x (stops o) h env2 (gives w) f k)
    part_one _ _ _ _ _ (part_whole env x rest ty v tally h h1 h2) _ _ _ f g (part_stops env2 x2 rest2 ty2 o2 k) =
        gives_stops (valuing_as r v) o2 (sym (value_one cs ds r e bc b constant env x (gives v) h env2 (stops o2) f k))
    part_one _ _ _ _ _ (part_whole env x rest ty v tally h h1 h2) _ _ _ f g (part_whole env2 x2 rest2 ty2 w tally2 k k1 k2) =
        let p : w ≡ valuing_as r v = gives_same w (valuing_as r v) (value_one cs ds r e bc b constant env x (gives v) h env2 (gives w) f k) in
        let q : tally2 ≡ tally = k2 ∙ tallied_there v w ty ty2 p g ∙ sym h2 in
        λ i. gives (filling (p i).env rest (q i))
    part_one _ _ _ _ _ (part_whole env x rest ty v tally h h1 h2) _ _ _ f g (part_inside env2 x2 rest2 ty2 w y k k1 k2) =
        let p : w ≡ valuing_as r v = gives_same w (valuing_as r v) (value_one cs ds r e bc b constant env x (gives v) h env2 (gives w) f k) in
        so_not (takes_whole cs ty v.operand) (takes_whole ds ty2 w.operand) (taken_there v w ty ty2 p g) h1 k1
    part_one _ _ _ _ _ (part_inside env x rest ty v z h h1 h2) _ _ _ f g (part_stops env2 x2 rest2 ty2 o2 k) =
        gives_stops (valuing_as r v) o2 (sym (value_one cs ds r e bc b constant env x (gives v) h env2 (stops o2) f k))
    part_one _ _ _ _ _ (part_inside env x rest ty v z h h1 h2) _ _ _ f g (part_whole env2 x2 rest2 ty2 w tally2 k k1 k2) =
        let p : w ≡ valuing_as r v = gives_same w (valuing_as r v) (value_one cs ds r e bc b constant env x (gives v) h env2 (gives w) f k) in
        so_not (takes_whole ds ty2 w.operand) (takes_whole cs ty v.operand) (sym (taken_there v w ty ty2 p g)) k1 h1
    part_one _ _ _ _ _ (part_inside env x rest ty v z h h1 h2) _ _ _ f g (part_inside env2 x2 rest2 ty2 w y k k1 k2) = parts_one _ _ _ _ h2 env2 ty2 y f g k2

    parts_one : (env : Env) (items : List Init) (ty : TypeId) (v : Outcome Filling) → PartsCome cs constant env items ty v → (env2 : Env) (ty2 : TypeId) (w : Outcome Filling) → env2 ≡ env_as r env → ty2 ≡ type_id r ty → PartsCome ds constant env2 items ty2 w → w ≡ outcome_as (filling_as r) v
    parts_one _ _ _ _ (parts_elements env items ty elem len nested v h h1) _ _ _ f g (parts_elements env2 items2 ty2 elem2 len2 nested2 w k k1) =
        let s : shape.Array elem2 len2 nested2 ≡ shape.Array (type_id r elem) len nested = sym k ∙ shape_there ty ty2 g ∙ ap (shape_as r) h in
        elements_one _ _ _ _ _ h1 env2 elem2 w f (array_elem (type_id r elem) elem2 len len2 nested nested2 s)
        (subst (λ n. ElementsCome ds constant env2 items elem2 n w) (array_len (type_id r elem) elem2 len len2 nested nested2 s) k1)
    parts_one _ _ _ _ (parts_elements env items ty elem len nested v h h1) _ _ _ f g (parts_members env2 items2 ty2 w k k1) =
        array_struct (type_id r elem) len nested (sym (sym k ∙ shape_there ty ty2 g ∙ ap (shape_as r) h))
    parts_one _ _ _ _ (parts_members env items ty v h h1) _ _ _ f g (parts_elements env2 items2 ty2 elem2 len2 nested2 w k k1) =
        array_struct elem2 len2 nested2 (sym k ∙ shape_there ty ty2 g ∙ ap (shape_as r) h)
    parts_one _ _ _ _ (parts_members env items ty v h h1) _ _ _ f g (parts_members env2 items2 ty2 w k k1) =
        members_one _ _ _ _ h1 env2 w f (subst (λ ms. MembersCome ds constant env2 items ms w) (ap (members_of ds) g ∙ members_of_as cs ds r e ty) k1)

    elements_one : (env : Env) (items : List Init) (elem : TypeId) (n : ℕ) (v : Outcome Filling) → ElementsCome cs constant env items elem n v → (env2 : Env) (elem2 : TypeId) (w : Outcome Filling) → env2 ≡ env_as r env → elem2 ≡ type_id r elem → ElementsCome ds constant env2 items elem2 n w → w ≡ outcome_as (filling_as r) v
    elements_one _ _ _ _ _ (all_elements env items elem) _ _ _ f g (all_elements env2 items2 elem2) = λ i. gives (filling (f i) items clean)
    elements_one _ _ _ _ _ (few_elements env elem n) _ _ _ f g (few_elements env2 elem2 n2) = λ i. gives (filling (f i) [] clean)
    elements_one _ _ _ _ _ (element_stops env i items elem n o h) _ _ _ f g (element_stops env2 i2 items2 elem2 n2 o2 k) = part_one _ _ _ _ _ h env2 elem2 (stops o2) f g k
    elements_one _ _ _ _ _ (element_stops env i items elem n o h) _ _ _ f g (element_fills env2 i2 items2 elem2 n2 m w k l) = gives_stops m o (part_one _ _ _ _ _ h env2 elem2 (gives m) f g k)
    elements_one _ _ _ _ _ (element_fills env i items elem n m v h h1) _ _ _ f g (element_stops env2 i2 items2 elem2 n2 o2 k) = gives_stops (filling_as r m) o2 (sym (part_one _ _ _ _ _ h env2 elem2 (stops o2) f g k))
    elements_one _ _ _ _ _ (element_fills env i items elem n m v h h1) _ _ _ f g (element_fills env2 i2 items2 elem2 n2 m2 w k l) =
        let p : m2 ≡ filling_as r m = gives_same m2 (filling_as r m) (part_one _ _ _ _ _ h env2 elem2 (gives m2) f g k) in
        let s = elements_one _ _ _ _ _ h1 m2.env elem2 w (ap (λ z. z.env) p) g (subst (λ z. ElementsCome ds constant m2.env z elem2 n w) (ap (λ z. z.left) p) l) in
        (λ i. fills_behind (p i).tally (s i)) ∙ fills_behind_as r m.tally v

    members_one : (env : Env) (items : List Init) (ms : List Member) (v : Outcome Filling) → MembersCome cs constant env items ms v → (env2 : Env) (w : Outcome Filling) → env2 ≡ env_as r env → MembersCome ds constant env2 items (map (member r) ms) w → w ≡ outcome_as (filling_as r) v
    members_one _ _ _ _ (all_members env items) _ _ f (all_members env2 items2) = λ i. gives (filling (f i) items clean)
    members_one _ _ _ _ (few_members env m ms) _ _ f (few_members env2 m2 ms2) = λ i. gives (filling (f i) [] clean)
    members_one _ _ _ _ (member_stops env i items m ms o h) _ _ f (member_stops env2 i2 items2 m2 ms2 o2 k) = part_one _ _ _ _ _ h env2 (type_id r m.ty) (stops o2) f refl k
    members_one _ _ _ _ (member_stops env i items m ms o h) _ _ f (member_fills env2 i2 items2 m2 ms2 n w k l) = gives_stops n o (part_one _ _ _ _ _ h env2 (type_id r m.ty) (gives n) f refl k)
    members_one _ _ _ _ (member_fills env i items m ms n v h h1) _ _ f (member_stops env2 i2 items2 m2 ms2 o2 k) =
        gives_stops (filling_as r n) o2 (sym (part_one _ _ _ _ _ h env2 (type_id r m.ty) (stops o2) f refl k))
    members_one _ _ _ _ (member_fills env i items m ms n v h h1) _ _ f (member_fills env2 i2 items2 m2 ms2 n2 w k l) =
        let p : n2 ≡ filling_as r n = gives_same n2 (filling_as r n) (part_one _ _ _ _ _ h env2 (type_id r m.ty) (gives n2) f refl k) in
        let s = members_one _ _ _ _ h1 n2.env w (ap (λ z. z.env) p) (subst (λ z. MembersCome ds constant n2.env z (map (member r) ms) w) (ap (λ z. z.left) p) l) in
        (λ i. fills_behind (p i).tally (s i)) ∙ fills_behind_as r n.tally v

    pub list_one : (env : Env) (place : Place) (items : List Init) (ty : TypeId) (v : Outcome Listing) → ListComes cs constant env place items ty v → (env2 : Env) (ty2 : TypeId) (w : Outcome Listing) → env2 ≡ env_as r env → ty2 ≡ type_id r ty → ListComes ds constant env2 place items ty2 w → w ≡ outcome_as (listing_as r) v
    list_one _ _ _ _ _ (list_none env place ty) _ _ _ f g (list_none env2 place2 ty2) = refl
    list_one _ _ _ _ _ (list_parts env place i items ty v x h h1 h2) _ _ _ f g (list_parts env2 place2 i2 items2 ty2 w y k k1 k2) = closes_one place v x h2 w y (parts_one _ _ _ _ h1 env2 ty2 w f g k1) k2
    list_one _ _ _ _ _ (list_parts env place i items ty v x h h1 h2) _ _ _ f g (list_value env2 place2 i2 y items2 ty2 w z k k1 k2 k3) = so_not (has_parts (shape_of cs ty)) (has_parts (shape_of ds ty2)) (parts_there ty ty2 g) h k
    list_one _ _ _ _ _ (list_parts env place i items ty v x h h1 h2) _ _ _ f g (list_braces env2 place2 i2 p2 inside2 items2 ty2 w k k1 k2) = so_not (has_parts (shape_of cs ty)) (has_parts (shape_of ds ty2)) (parts_there ty ty2 g) h k
    list_one _ _ _ _ _ (list_value env place i x items ty v z h h1 h2 h3) _ _ _ f g (list_parts env2 place2 i2 items2 ty2 w y k k1 k2) = so_not (has_parts (shape_of ds ty2)) (has_parts (shape_of cs ty)) (sym (parts_there ty ty2 g)) k h
    list_one _ _ _ _ _ (list_value env place i x items ty v z h h1 h2 h3) _ _ _ f g (list_value env2 place2 i2 x2 items2 ty2 w y k k1 k2 k3) =
        let s : x2 ≡ x = one_same x2 x (sym k1 ∙ h1) in
        closes_one place v z h3 w y (part_one _ _ _ _ _ h2 env2 ty2 w f g (subst (λ q. PartComes ds constant env2 (one q) items ty2 w) s k2)) k3
    list_one _ _ _ _ _ (list_value env place i x items ty v z h h1 h2 h3) _ _ _ f g (list_braces env2 place2 i2 p2 inside2 items2 ty2 w k k1 k2) = one_braces x p2 inside2 (sym h1 ∙ k1)
    list_one _ _ _ _ _ (list_braces env place i p inside items ty v h h1 h2) _ _ _ f g (list_parts env2 place2 i2 items2 ty2 w y k k1 k2) = so_not (has_parts (shape_of ds ty2)) (has_parts (shape_of cs ty)) (sym (parts_there ty ty2 g)) k h
    list_one _ _ _ _ _ (list_braces env place i p inside items ty v h h1 h2) _ _ _ f g (list_value env2 place2 i2 x2 items2 ty2 w y k k1 k2 k3) = one_braces x2 p inside (sym k1 ∙ h1)
    list_one _ _ _ _ _ (list_braces env place i p inside items ty v h h1 h2) _ _ _ f g (list_braces env2 place2 i2 p2 inside2 items2 ty2 w k k1 k2) = ap (doubled place) (surplus_one _ _ _ h2 env2 w f k2) ∙ doubled_as r place v

  -- ---- elements that are counted

  all_one : (env : Env) (items : List Init) (elem : TypeId) (v : Outcome Counting) → AllCome cs constant env items elem v → (env2 : Env) (elem2 : TypeId) (w : Outcome Counting) → env2 ≡ env_as r env → elem2 ≡ type_id r elem → AllCome ds constant env2 items elem2 w → w ≡ outcome_as (counting_as r) v
  all_one _ _ _ _ (all_end env elem) _ _ _ f g (all_end env2 elem2) = λ i. gives (counting (f i) zero clean)
  all_one _ _ _ _ (all_stop env i items elem o h) _ _ _ f g (all_stop env2 i2 items2 elem2 o2 k) =
      ap stops (stops_same o2 o (stops o2) refl (part_one _ _ _ _ _ h env2 elem2 (stops o2) f g k))
  all_one _ _ _ _ (all_stop env i items elem o h) _ _ _ f g (all_more env2 i2 items2 elem2 m w k l) = gives_stops m o (part_one _ _ _ _ _ h env2 elem2 (gives m) f g k)
  all_one _ _ _ _ (all_more env i items elem m v h h1) _ _ _ f g (all_stop env2 i2 items2 elem2 o2 k) = gives_stops (filling_as r m) o2 (sym (part_one _ _ _ _ _ h env2 elem2 (stops o2) f g k))
  all_one _ _ _ _ (all_more env i items elem m v h h1) _ _ _ f g (all_more env2 i2 items2 elem2 m2 w k l) =
      let p : m2 ≡ filling_as r m = gives_same m2 (filling_as r m) (part_one _ _ _ _ _ h env2 elem2 (gives m2) f g k) in
      let s = all_one _ _ _ _ h1 m2.env elem2 w (ap (λ z. z.env) p) g (subst (λ z. AllCome ds constant m2.env z elem2 w) (ap (λ z. z.left) p) l) in
      (λ i. counts_behind (p i).tally (s i)) ∙ counts_behind_as r m.tally v

  pub open_list_one : (env : Env) (place : Place) (items : List Init) (elem : TypeId) (v : Outcome Counting) → OpenListComes cs constant env place items elem v → (env2 : Env) (elem2 : TypeId) (w : Outcome Counting) → env2 ≡ env_as r env → elem2 ≡ type_id r elem → OpenListComes ds constant env2 place items elem2 w → w ≡ outcome_as (counting_as r) v
  open_list_one _ _ _ _ _ (open_none env place elem) _ _ _ f g (open_none env2 place2 elem2) = refl
  open_list_one _ _ _ _ _ (open_some env place i items elem v h) _ _ _ f g (open_some env2 place2 i2 items2 elem2 w k) = ap (opened place) (all_one _ _ _ _ h env2 elem2 w f g k) ∙ opened_as r place v
