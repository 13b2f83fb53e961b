-- Lists in braces, and items that are left.
use Rattle.std.proofs.Common.{◌≡◌, ℕ, zero, suc, ◌+◌, ◌-◌, ◌<◌, ◌≤◌, Bool, true, false, ◌&&◌, ◌||◌, not, nat_eq, nat_lt, List, [], ◌∷◌, ◌++◌, length, length-drop, take, drop, get_or, Some, None, refl, sym, ap, ◌∙◌, subst, arith, append_assoc, true≢false}
use Rattle.std.proofs.Math.Dec.{eqb-suc-zero}
use Rattle.std.proofs.lemmas.Bool.{lt-ltb}
use Rattle.std.proofs.lemmas.Bool.Decides.{nat_tests}
use Rattle.std.proofs.lemmas.List.{drop_all, take_all, append-nil}
use Rattle.std.specs.Global.{Vec}
use Rattle.clv_place.specs.declared.place.Place.{Place}
use Rattle.clv_place.specs.declared.stop.Offence.{Offence}
use Rattle.clv_place.specs.declared.stop.Stop.{Stop}
use Rattle.clv_place.specs.declared.stop.Stop.TheVariants.{Out, NoMemory}
use Rattle.cl_types.specs.declared.types.ClType.{ClType}
use Rattle.cl_types.specs.declared.types.TypeId.{TypeId}
use Rattle.cl_types.specs.Table.{IsTable}
use Rattle.cl_builtins.specs.Found.{IsKnown, IsGrown}
use Rattle.cl_builtins.proofs.Growth.{grown_twice, grown_known}
use Rattle.cl_ast.specs.declared.declaration.Init.{Init}
use Rattle.cl_ast.specs.declared.declaration.Init.TheVariants as init
use Rattle.cl_ast.specs.declared.expression.Expr.{Expr}
use Rattle.cl_tree.specs.declared.expression.TExpr.{TExpr}
use Rattle.cl_tree.specs.Shapes.{shape_of, same_type, is_array, is_struct}
use Rattle.cl_rules.specs.declared.rule.Head.TheVariants as head
use Rattle.cl_rules.specs.Operands.{first_broken}
use Rattle.cl_scope.specs.Names.{Env}
use Rattle.cl_scope.specs.Scopes.{IsKnownEnv}
use Rattle.cl_make.specs.Building.{IsNode}
use Rattle.cl_make.specs.Ready.{From, Grows}
use Rattle.cl_make.proofs.Growing.{none_some, grows_itself, grows_twice, shape_stays}
use Rattle.cl_make.proofs.Stays.{env_stays}
use Rattle.cl_type_expr.specs.Offences.{at}
use Rattle.cl_variables.specs.declared.filling.Filled.{Filled}
use Rattle.cl_variables.specs.declared.filling.Listed.{Listed}
use Rattle.cl_variables.specs.declared.listing.Opened.{Opened}
use Rattle.cl_variables.specs.declared.tally.Tally.{Tally}
use Rattle.cl_variables.specs.declared.valued.Valued.{Valued}
use Rattle.cl_variables.specs.Initialisers.{clean, with, is_right, list_tests, some, has_parts, takes_whole, FillsPart, FillsBraces, its_parts, itself, IsList, filled, FillsAll, all_ended, more_all, AreSurplus, no_surplus, surplus_value, surplus_braces, SurplusOffends, in_surplus_value, in_surplus_braces, behind_surplus_value, behind_surplus_braces, PartOffends, ListOffends, in_filling, in_one, in_surplus, in_braces_for_one, broken, round_none, two_braces, AllOffend, all_here, all_later, OpenListOffends, in_all, open_broken, open_round_none}
use Rattle.cl_variables.specs.Answers.{IsValued, ValueStops, IsWhole, PartIs, PartStops, PartsAre, PartsStop, BracesAre, BracesStop, ListIs, ListStops, SurplusIs, SurplusStops, AllAre, AllStop, OpenListIs, OpenListStops}
use Rattle.cl_variables.proofs.Fills.{first_of, FirstOf, first_in, with_assoc, with_none, whole_fills}

-- ---- items that are left

pub record SurplusSoFar (old now : List ClType) (constant : Bool) (env : Env) (items : List Init) (i : ℕ) (here : Env) : Type 0 where
  pub goes : From now (λ more. (last : Env) → AreSurplus more constant here (drop i items) last → AreSurplus more constant env items last)
  pub stops : From now (λ more. (o : Offence) → SurplusOffends more constant here (drop i items) o → SurplusOffends more constant env items o)
  pub known : IsKnownEnv now here
  pub grown : Grows old now

pub surplus_start : (cs : List ClType) (constant : Bool) (env : Env) (items : List Init) → IsTable cs → IsKnownEnv cs env → SurplusSoFar cs cs constant env items 0 env
surplus_start cs constant env items table known = record { goes = λ more m last h. h; stops = λ more m o h. h; known = known; grown = grows_itself cs table }

module _ (old now new : List ClType) (constant : Bool) (env : Env) (items : List Init) (i : ℕ) (here : Env) (h : SurplusSoFar old now constant env items i here) (low : i < length items) (g : Grows now new) where
  since : (more : List ClType) → IsGrown new more → IsGrown now more
  since more m = grown_twice now new more g.grown m

  module _ (e : Expr) (is : init.Value e ≡ get_or items i (init.Value e)) where
    value_left : drop i items ≡ init.Value e ∷ drop (i + 1) items
    value_left = first_of items i (init.Value e) low is

    pub surplus_value_next : (after : Env) (v : Valued) → IsValued new constant here e after v → SurplusSoFar old new constant env items (i + 1) after
    surplus_value_next after v w = record {
      goes = λ more m last rest. h.goes more (since more m) last (subst (λ z. AreSurplus more constant here z last) (sym value_left) (surplus_value here after last e (drop (i + 1) items) v.typed.tree v.typed.operand v.varies (w.value more m) rest));
      stops = λ more m o rest. h.stops more (since more m) o (subst (λ z. SurplusOffends more constant here z o) (sym value_left) (behind_surplus_value here after e (drop (i + 1) items) v.typed.tree v.typed.operand v.varies o (w.value more m) rest));
      known = w.known;
      grown = grows_twice old now new h.grown g;
    }

    pub surplus_value_stop : (s : Stop) → ValueStops new constant here e s → SurplusStops new constant env items s
    surplus_value_stop NoMemory p = tt
    surplus_value_stop (Out o) p = λ more m. h.stops more (since more m) o (subst (λ z. SurplusOffends more constant here z o) (sym value_left) (in_surplus_value here e (drop (i + 1) items) o (p more m)))

  module _ (place : Place) (inside : Vec Init) (is : init.Braces place inside ≡ get_or items i (init.Braces place inside)) where
    braces_left : drop i items ≡ init.Braces place inside ∷ drop (i + 1) items
    braces_left = first_of items i (init.Braces place inside) low is

    pub surplus_braces_next : (after : Env) → SurplusIs new constant here inside.items after → SurplusSoFar old new constant env items (i + 1) after
    surplus_braces_next after w = record {
      goes = λ more m last rest. h.goes more (since more m) last (subst (λ z. AreSurplus more constant here z last) (sym braces_left) (surplus_braces here after last place inside (drop (i + 1) items) (w.is more m) rest));
      stops = λ more m o rest. h.stops more (since more m) o (subst (λ z. SurplusOffends more constant here z o) (sym braces_left) (behind_surplus_braces here after place inside (drop (i + 1) items) o (w.is more m) rest));
      known = w.known;
      grown = grows_twice old now new h.grown g;
    }

    pub surplus_braces_stop : (s : Stop) → SurplusStops new constant here inside.items s → SurplusStops new constant env items s
    surplus_braces_stop NoMemory p = tt
    surplus_braces_stop (Out o) p = λ more m. h.stops more (since more m) o (subst (λ z. SurplusOffends more constant here z o) (sym braces_left) (in_surplus_braces here place inside (drop (i + 1) items) o (p more m)))

pub surplus_end : (old now : List ClType) (constant : Bool) (env : Env) (items : List Init) (i : ℕ) (here : Env) → SurplusSoFar old now constant env items i here → length items ≤ i → SurplusIs now constant env items here
surplus_end old now constant env items i here h done = record {
  is = λ more m. h.goes more m here (subst (λ z. AreSurplus more constant here z here) (sym (drop_all i items done)) (no_surplus here));
  known = h.known;
}

-- whether there are items, as the code tests it
pub some_by : (items : List Init) → nat_eq (length items) 0 ≡ false → 0 < length items
some_by [] h = absurd (true≢false h)
some_by (i ∷ is) h = omega arith

pub none_by : (items : List Init) → nat_eq (length items) 0 ≡ true → items ≡ []
none_by [] h = refl
none_by (i ∷ is) h = absurd (true≢false (sym h ∙ eqb-suc-zero (length is)))

-- ---- what items in braces fill

some_length : (items : List Init) → 0 < length items → some items ≡ true
some_length [] h = absurd (omega arith)
some_length (i ∷ is) h = refl

pub braces_parts : (new : List ClType) (constant : Bool) (env : Env) (items : List Init) (ty : TypeId) (after : Env) (f : Filled) → 0 < length items → PartsAre new constant env None items 0 ty after f → BracesAre new constant env items ty after f
braces_parts new constant env items ty after f n h = record {
  fills = λ more m. its_parts env after items (drop f.next items) ty f.trees.items f.tally (some_length items n) (h.fills more m env refl);
  low = h.low;
  known = h.known;
}

pub braces_parts_out : (new : List ClType) (constant : Bool) (env : Env) (place : Place) (items : List Init) (ty : TypeId) (s : Stop) → PartsStop new constant env None items 0 ty s → BracesStop new constant env place items ty s
braces_parts_out new constant env place items ty NoMemory h = tt
braces_parts_out new constant env place items ty (Out o) h = λ more m. in_filling env place items ty o (h more m env refl)

pub braces_none_out : (new : List ClType) (constant : Bool) (env : Env) (place : Place) (items : List Init) (ty : TypeId) → items ≡ [] → BracesStop new constant env place items ty (Out (at 324 place))
braces_none_out new constant env place items ty e = λ more m. subst (λ z. ListOffends more constant env place z ty (at 324 place)) (sym e) (round_none env place ty)

takes_by : (array structure same : Bool) → (array || structure) ≡ false → (not array && (not structure || same)) ≡ true
takes_by true s x h = absurd (true≢false h)
takes_by false true x h = absurd (true≢false h)
takes_by false false x h = refl

module _ (old : List ClType) (constant : Bool) (env : Env) (items : List Init) (ty : TypeId) (table : IsTable old) (known : IsKnown old ty) (apart : has_parts (shape_of old ty) ≡ false) (some : 0 < length items) where
  apart_later : (more : List ClType) → IsGrown old more → has_parts (shape_of more ty) ≡ false
  apart_later more m = ap has_parts (shape_stays old more ty table m known) ∙ apart

  module _ (e : Expr) (is : init.Value e ≡ get_or items 0 (init.Value e)) where
    one_rest : items ≡ init.Value e ∷ drop 1 items
    one_rest = first_of items 0 (init.Value e) some is

    pub braces_one : (mid new : List ClType) (after : Env) (v : Valued) (f : Filled) → Grows old mid → Grows mid new → IsValued mid constant env e after v → IsWhole new ty v 1 f → BracesAre new constant env items ty after f
    braces_one mid new after v f u g n w = record {
      fills = λ more m.
          let m2 = grown_twice mid new more g.grown m in
          let m3 = grown_twice old mid more u.grown m2 in
          let takes : takes_whole more ty v.typed.operand ≡ true = takes_by (is_array (shape_of more ty)) (is_struct (shape_of more ty)) (same_type ty v.typed.operand.facts.ty) (apart_later more m3) in
          subst (λ z. FillsBraces more constant env items ty after (drop z items) f.trees.items f.tally) (sym w.behind)
          (subst (λ z. FillsBraces more constant env z ty after (drop 1 items) f.trees.items f.tally) (sym one_rest)
          (itself env after e (drop 1 items) ty f.trees.items f.tally (apart_later more m3)
          (whole_fills more constant env after e (drop 1 items) ty v f w.tree (is_right f.tally) (n.value more m2) takes w.trees refl (w.converts more m) (w.wrong more m))));
      low = omega (arith, w.behind, some);
      known = env_stays mid new after g.grown n.known;
    }

    pub braces_one_out : (new : List ClType) (place : Place) (s : Stop) → Grows old new → ValueStops new constant env e s → BracesStop new constant env place items ty s
    braces_one_out new place NoMemory g h = tt
    braces_one_out new place (Out o) g h = λ more m.
        subst (λ z. ListOffends more constant env place z ty o) (sym one_rest) (in_one env place e (drop 1 items) ty o (apart_later more (grown_twice old new more g.grown m)) (h more m))

  module _ (p : Place) (inside : Vec Init) (is : init.Braces p inside ≡ get_or items 0 (init.Braces p inside)) where
    twice_rest : items ≡ init.Braces p inside ∷ drop 1 items
    twice_rest = first_of items 0 (init.Braces p inside) some is

    pub braces_twice : (new : List ClType) (place : Place) (after : Env) → Grows old new → SurplusIs new constant env items after → BracesStop new constant env place items ty (Out (at 324 place))
    braces_twice new place after g h = λ more m.
        subst (λ z. ListOffends more constant env place z ty (at 324 place)) (sym twice_rest)
        (two_braces env after place p inside (drop 1 items) ty (apart_later more (grown_twice old new more g.grown m)) (subst (λ z. AreSurplus more constant env z after) twice_rest (h.is more m)))

    pub braces_twice_out : (new : List ClType) (place : Place) (s : Stop) → Grows old new → SurplusStops new constant env items s → BracesStop new constant env place items ty s
    braces_twice_out new place NoMemory g h = tt
    braces_twice_out new place (Out o) g h = λ more m.
        subst (λ z. ListOffends more constant env place z ty o) (sym twice_rest)
        (in_braces_for_one env place p inside (drop 1 items) ty o (apart_later more (grown_twice old new more g.grown m)) (subst (λ z. SurplusOffends more constant env z o) twice_rest (h more m)))

-- the items behind those that fill, as the code names them
pub rest_is : (items : List Init) (n : ℕ) → take (length items - n) (drop n items) ≡ drop n items
rest_is items n = let l = length-drop n items in take_all (length items - n) (drop n items) (omega (arith, l))

-- ---- a list in braces

less_suc : (a b : ℕ) → nat_lt a b ≡ nat_lt (suc a) (suc b)
less_suc a b = grind (arith, nat_tests)

some_drop : (items : List Init) (n : ℕ) → n ≤ length items → some (drop n items) ≡ nat_lt n (length items)
some_drop [] zero h = refl
some_drop [] (suc n) h = absurd (omega (arith, h))
some_drop (i ∷ is) zero h = sym (lt-ltb 0 (length (i ∷ is)) (omega arith))
some_drop (i ∷ is) (suc n) h = some_drop is n (omega (arith, h)) ∙ less_suc n (length is)

none_left : (items : List Init) → some items ≡ false → items ≡ []
none_left [] h = refl
none_left (i ∷ is) h = absurd (true≢false h)

abbrev three : Bool → Bool → Bool → List (ℕ × Bool)
three a b c = (311, a) ∷ (324, b) ∷ (333, c) ∷ []

pub record Unbroken (a b c : Bool) : Type 0 where
  pub no_value : a ≡ false
  pub surplus : b ≡ false
  pub no_pointer : c ≡ false

pub unbroken : (a b c : Bool) → first_broken (three a b c) ≡ None → Unbroken a b c
unbroken true b c h = absurd (none_some (sym h))
unbroken false true c h = absurd (none_some (sym h))
unbroken false false true h = absurd (none_some (sym h))
unbroken false false false h = record { no_value = refl; surplus = refl; no_pointer = refl }

right_by : (a b : Bool) → a ≡ false → b ≡ false → not (a || b) ≡ true
right_by a b x y = ap (λ z. not (z || b)) x ∙ ap (λ z. not (false || z)) y

surplus_none : (cs : List ClType) (constant : Bool) (env after : Env) (left : List Init) → left ≡ [] → AreSurplus cs constant env left after → env ≡ after
surplus_none cs constant env after left e (no_surplus env0) = refl
surplus_none cs constant env after left e (surplus_value env0 middle after0 x items t o v q r) = absurd (omega (arith, ap length e))
surplus_none cs constant env after left e (surplus_braces env0 middle after0 p inside items q r) = absurd (omega (arith, ap length e))

module _ (mid new : List ClType) (constant : Bool) (env : Env) (place : Place) (items left : List Init) (ty : TypeId) (middle : Env) (f : Filled) (b : BracesAre mid constant env items ty middle f) (g : Grows mid new) (is : left ≡ drop f.next items) where
  pub list_surplus_out : (s : Stop) → SurplusStops new constant middle left s → ListStops new constant env place items ty s
  list_surplus_out NoMemory h = tt
  list_surplus_out (Out o) h = λ more m.
      in_surplus env middle place items (drop f.next items) ty f.trees.items f.tally o (b.fills more (grown_twice mid new more g.grown m)) (subst (λ z. SurplusOffends more constant middle z o) is (h more m))

  module _ (after : Env) (h : SurplusIs new constant middle left after) (flag : Bool) (says : flag ≡ nat_lt f.next (length items)) where
    flag_is : flag ≡ some (drop f.next items)
    flag_is = says ∙ sym (some_drop items f.next b.low)

    pub list_broken_out : (code : ℕ) → first_broken (list_tests f.tally flag) ≡ Some code → ListStops new constant env place items ty (Out (at code place))
    list_broken_out code e = λ more m.
        broken env middle after place items (drop f.next items) ty f.trees.items f.tally code (b.fills more (grown_twice mid new more g.grown m)) (subst (λ z. AreSurplus more constant middle z after) is (h.is more m))
        (subst (λ z. first_broken (list_tests f.tally z) ≡ Some code) flag_is e)

    pub list_is : (r : Listed) → first_broken (list_tests f.tally flag) ≡ None → IsNode r.tree ty place head.Fill f.trees.items → r.varies ≡ f.tally.varies → ListIs new constant env place items ty after r
    list_is r e node v =
        let u = unbroken f.tally.no_value flag f.tally.no_pointer e in
        let ended : drop f.next items ≡ [] = none_left (drop f.next items) (sym flag_is ∙ u.surplus) in
        record {
          is = λ more m.
              let same : middle ≡ after = surplus_none more constant middle after left (is ∙ ended) (h.is more m) in
              subst (λ z. IsList more constant env place items ty z r.tree r.varies) same
              (subst (λ z. IsList more constant env place items ty middle r.tree z) (sym v)
              (filled env middle place items ty f.trees.items r.tree f.tally (subst (λ z. FillsBraces more constant env items ty middle z f.trees.items f.tally) ended (b.fills more (grown_twice mid new more g.grown m))) (right_by f.tally.no_value f.tally.no_pointer u.no_value u.no_pointer) node));
          known = h.known;
        }

-- ---- lists that say the length

pub record AllSoFar (old now : List ClType) (constant : Bool) (env : Env) (items : List Init) (elem : TypeId) (here : Env) (count : ℕ) (f : Filled) : Type 0 where
  pub goes : From now (λ more. (n : ℕ) (last : Env) (us : List TExpr) (b : Tally) → FillsAll more constant here (drop f.next items) elem n last us b → FillsAll more constant env items elem (count + n) last (f.trees.items ++ us) (with f.tally b))
  pub stops : From now (λ more. (o : Offence) → AllOffend more constant here (drop f.next items) elem o → AllOffend more constant env items elem o)
  pub counted : count ≤ f.next
  pub begun : 0 < f.next → 0 < count
  pub low : f.next ≤ length items
  pub known : IsKnownEnv now here
  pub elem_known : IsKnown now elem
  pub grown : Grows old now

zero_left : (n : ℕ) → 0 + n ≡ n
zero_left n = omega arith

pub all_start : (cs : List ClType) (constant : Bool) (env : Env) (items : List Init) (elem : TypeId) (f : Filled) → IsTable cs → IsKnown cs elem → IsKnownEnv cs env → f.trees.items ≡ [] → f.next ≡ 0 → f.tally ≡ clean → AllSoFar cs cs constant env items elem env 0 f
all_start cs constant env items elem f table known env_known trees next tally = record {
  goes = λ more m n last us b h.
      subst (λ z. FillsAll more constant env items elem (0 + n) last (z ++ us) (with f.tally b)) (sym trees)
      (subst (λ z. FillsAll more constant env items elem (0 + n) last us (with z b)) (sym tally)
      (subst (λ k. FillsAll more constant env items elem k last us b) (sym (zero_left n)) (subst (λ k. FillsAll more constant env (drop k items) elem n last us b) next h)));
  stops = λ more m o h. subst (λ k. AllOffend more constant env (drop k items) elem o) next h;
  counted = omega (arith, next);
  begun = λ more. absurd (omega (arith, next, more));
  low = omega (arith, next);
  known = env_known;
  elem_known = known;
  grown = grows_itself cs table;
}

module _ (old now new : List ClType) (constant : Bool) (env : Env) (items : List Init) (elem : TypeId) (here : Env) (count : ℕ) (f : Filled) (h : AllSoFar old now constant env items elem here count f) (low : f.next < length items) (g : Grows now new) where
  one_in : FirstOf items f.next
  one_in = first_in items f.next low

  pub all_stop : (s : Stop) → PartStops new constant here None items f.next elem s → AllStop new constant env items elem s
  all_stop NoMemory p = tt
  all_stop (Out o) p = λ more m. h.stops more (grown_twice now new more g.grown m) o
      (subst (λ z. AllOffend more constant here z elem o) (sym one_in.is) (all_here here one_in.first (drop (f.next + 1) items) elem o (subst (λ z. PartOffends more constant here z elem o) one_in.is (p more m here refl))))

  pub all_next : (after : Env) (p j : Filled) → PartIs new constant here None items f.next elem after p → j.trees.items ≡ f.trees.items ++ p.trees.items → j.next ≡ p.next → j.tally ≡ with f.tally p.tally → AllSoFar old new constant env items elem after (count + 1) j
  all_next after p j part trees next tally = record {
    goes = λ more m n last us b rest.
        let e : count + suc n ≡ count + 1 + n = omega arith in
        subst (λ z. FillsAll more constant env items elem (count + 1 + n) last (z ++ us) (with j.tally b)) (sym trees)
        (subst (λ z. FillsAll more constant env items elem (count + 1 + n) last ((f.trees.items ++ p.trees.items) ++ us) (with z b)) (sym tally)
        (subst (λ z. FillsAll more constant env items elem (count + 1 + n) last z (with (with f.tally p.tally) b)) (sym (append_assoc f.trees.items p.trees.items us))
        (subst (λ z. FillsAll more constant env items elem (count + 1 + n) last (f.trees.items ++ (p.trees.items ++ us)) z) (sym (with_assoc f.tally p.tally b))
        (subst (λ k. FillsAll more constant env items elem k last (f.trees.items ++ (p.trees.items ++ us)) (with f.tally (with p.tally b))) e
        (h.goes more (grown_twice now new more g.grown m) (suc n) last (p.trees.items ++ us) (with p.tally b)
        (subst (λ z. FillsAll more constant here z elem (suc n) last (p.trees.items ++ us) (with p.tally b)) (sym one_in.is)
        (more_all here after last one_in.first (drop (f.next + 1) items) (drop p.next items) elem n p.trees.items us p.tally b (here_part more m) (subst (λ k. FillsAll more constant after (drop k items) elem n last us b) next rest))))))));
    stops = λ more m o rest. h.stops more (grown_twice now new more g.grown m) o
        (subst (λ z. AllOffend more constant here z elem o) (sym one_in.is)
        (all_later here after one_in.first (drop (f.next + 1) items) (drop p.next items) elem p.trees.items p.tally o (here_part more m) (subst (λ k. AllOffend more constant after (drop k items) elem o) next rest)));
    counted = omega (arith, next, part.moved, h.counted);
    begun = λ some. omega arith;
    low = omega (arith, next, part.low);
    known = part.known;
    elem_known = grown_known now new elem g.grown h.elem_known;
    grown = grows_twice old now new h.grown g;
  }
    where
      here_part : (more : List ClType) → IsGrown new more → FillsPart more constant here (one_in.first ∷ drop (f.next + 1) items) elem after (drop p.next items) p.trees.items p.tally
      here_part more m = subst (λ z. FillsPart more constant here z elem after (drop p.next items) p.trees.items p.tally) one_in.is (part.fills more m here refl)

zero_right : (n : ℕ) → n + 0 ≡ n
zero_right n = omega arith

some_above : (items : List Init) (n : ℕ) → some items ≡ true → length items ≤ n → 0 < n
some_above [] n h low = absurd (true≢false (sym h))
some_above (i ∷ is) n h low = omega (arith, low)

pub all_end : (old now : List ClType) (constant : Bool) (env : Env) (items : List Init) (elem : TypeId) (here : Env) (count : ℕ) (f : Filled) → AllSoFar old now constant env items elem here count f → length items ≤ f.next → AllAre now constant env items elem here (f, count)
all_end old now constant env items elem here count f h done = record {
  fills = λ more m.
      subst (λ k. FillsAll more constant env items elem k here f.trees.items f.tally) (zero_right count)
      (subst (λ z. FillsAll more constant env items elem (count + 0) here z f.tally) (append-nil f.trees.items)
      (subst (λ z. FillsAll more constant env items elem (count + 0) here (f.trees.items ++ []) z) (with_none f.tally)
      (h.goes more m 0 here [] clean (subst (λ z. FillsAll more constant here z elem 0 here [] clean) (sym (drop_all f.next items done)) (all_ended here elem)))));
  some = λ s. h.begun (some_above items f.next s done);
  known = h.known;
}

pub open_none_out : (new : List ClType) (constant : Bool) (env : Env) (place : Place) (items : List Init) (elem : TypeId) → items ≡ [] → OpenListStops new constant env place items elem (Out (at 324 place))
open_none_out new constant env place items elem e = λ more m. subst (λ z. OpenListOffends more constant env place z elem (at 324 place)) (sym e) (open_round_none env place elem)

pub open_all_out : (new : List ClType) (constant : Bool) (env : Env) (place : Place) (items : List Init) (elem : TypeId) (s : Stop) → AllStop new constant env items elem s → OpenListStops new constant env place items elem s
open_all_out new constant env place items elem NoMemory h = tt
open_all_out new constant env place items elem (Out o) h = λ more m. in_all env place items elem o (h more m)

pub open_broken_out : (new : List ClType) (constant : Bool) (env : Env) (place : Place) (items : List Init) (elem : TypeId) (after : Env) (r : Filled × ℕ) (code : ℕ) → 0 < length items → AllAre new constant env items elem after r → first_broken (list_tests r.0.tally false) ≡ Some code → OpenListStops new constant env place items elem (Out (at code place))
open_broken_out new constant env place items elem after r code n h e = λ more m.
    open_broken env after place items elem r.1 r.0.trees.items r.0.tally code (some_length items n) (h.fills more m) e

pub open_is : (new : List ClType) (constant : Bool) (env : Env) (items : List Init) (elem : TypeId) (after : Env) (r : Filled × ℕ) (o : Opened) → 0 < length items → AllAre new constant env items elem after r → first_broken (list_tests r.0.tally false) ≡ None → o.trees.items ≡ r.0.trees.items → o.count ≡ r.1 → o.varies ≡ r.0.tally.varies → OpenListIs new constant env items elem after o
open_is new constant env items elem after r o n h e trees count varies =
    let u = unbroken r.0.tally.no_value false r.0.tally.no_pointer e in
    record {
      is = λ more m. record {
        tally = r.0.tally;
        some = some_length items n;
        fills = subst (λ k. FillsAll more constant env items elem k after o.trees.items r.0.tally) (sym count) (subst (λ z. FillsAll more constant env items elem r.1 after z r.0.tally) (sym trees) (h.fills more m));
        right = right_by r.0.tally.no_value r.0.tally.no_pointer u.no_value u.no_pointer;
        is = varies;
      };
      some = subst (λ k. 0 < k) (sym count) (h.some (some_length items n));
      known = h.known;
    }
