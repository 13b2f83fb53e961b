-- Declared variables, from what the calls answer.
use Rattle.std.proofs.Common.{◌≡◌, ℕ, ◌<◌, Bool, true, false, ◌&&◌, ◌||◌, not, List, [], ◌∷◌, ◌++◌, Option, Some, None, is_some, refl, sym, ap, ◌∙◌, subst, arith, true≢false}
use Rattle.std.proofs.lemmas.List.{append-nil}
use Rattle.std.specs.Global.{Vec}
use Rattle.clv_place.specs.declared.place.Place.{Place}
use Rattle.clv_place.specs.declared.stop.Stop.{Stop}
use Rattle.clv_place.specs.declared.stop.Stop.TheVariants.{Out, NoMemory}
use Rattle.cl_types.specs.declared.types.ClType.{ClType}
use Rattle.cl_types.specs.declared.types.TypeId.{TypeId}
use Rattle.cl_types.specs.declared.stop.TypeStop.TheVariants.{TooLarge, TooDeep}
use Rattle.cl_types.specs.Table.{IsTable}
use Rattle.cl_builtins.specs.Found.{IsKnown, IsGrown}
use Rattle.cl_builtins.proofs.Growth.{grown_twice, grown_known}
use Rattle.cl_ast.specs.declared.declaration.Init.{Init}
use Rattle.cl_ast.specs.declared.declaration.Init.TheVariants as init
use Rattle.cl_ast.specs.declared.declaration.InitDeclor.{InitDeclor}
use Rattle.cl_ast.specs.declared.expression.Base.TheViews.{out-Declor}
use Rattle.cl_ast.specs.declared.expression.Expr.{Expr}
use Rattle.cl_ast.specs.declared.expression.Qual.{Qual}
use Rattle.cl_tree.specs.declared.expression.TExpr.{TExpr}
use Rattle.cl_tree.specs.declared.shape.Shape.{Shape}
use Rattle.cl_tree.specs.declared.shape.Shape.TheVariants as shape
use Rattle.cl_tree.specs.Shapes.{shape_of, shape_in, is_array}
use Rattle.cl_rules.specs.declared.rule.Head.TheVariants as head
use Rattle.cl_rules.specs.declared.rule.Qualified.{Qualified}
use Rattle.cl_rules.specs.declared.rule.Want.{Want}
use Rattle.cl_rules.specs.declared.rule.Want.TheVariants as want
use Rattle.cl_rules.specs.Calls.{is_no_pointee}
use Rattle.cl_rules.specs.Operands.{first_broken}
use Rattle.cl_scope.specs.declared.scope.Declared.{Declared}
use Rattle.cl_scope.specs.declared.scope.DeclaredKind.{DeclaredKind}
use Rattle.cl_scope.specs.Names.{Env, declare}
use Rattle.cl_scope.specs.Scopes.{IsKnownEnv}
use Rattle.cl_words.specs.declared.naming.Length.{Length}
use Rattle.cl_words.specs.declared.naming.Sketch.{Sketch}
use Rattle.cl_words.specs.Words.{has_restrict, sketch, is_open, some_wrong, no_declared_type, is_large, is_deep, declared_tree, declared_limits_at, numbers}
use Rattle.cl_make.specs.Building.{IsNode}
use Rattle.cl_make.specs.Ready.{Grows, IsReadyType}
use Rattle.cl_make.specs.Wanted.{IsArrayOf, array, IsDeclaredAs}
use Rattle.cl_make.proofs.Asked.{pointer_askable}
use Rattle.cl_make.proofs.Growing.{none_some, shape_stays, askable_stays, FitsTable, known_fits}
use Rattle.cl_make.proofs.Stays.{env_stays, ready_type_stays}
use Rattle.cl_type_expr.specs.Expressions.{AreLengths}
use Rattle.cl_type_expr.specs.Offences.{at}
use Rattle.cl_type_expr.specs.Typing.{ArePositive, IsReadyWant, IsReadySketch, LengthsAre, LengthsStop, DeclaredIs, DeclaredStops}
use Rattle.cl_type_expr.specs.Syntax.{IsDeclor}
use Rattle.cl_ast.specs.declared.expression.Declor.{Declor}
use Rattle.cl_variables.specs.declared.initial.Initial.{Initial}
use Rattle.cl_variables.specs.declared.filling.Listed.{Listed}
use Rattle.cl_variables.specs.declared.listing.Opened.{Opened}
use Rattle.cl_variables.specs.declared.tally.Tally.{Tally}
use Rattle.cl_variables.specs.declared.valued.Taken.{Taken}
use Rattle.cl_variables.specs.declared.valued.Valued.{Valued}
use Rattle.cl_variables.specs.declared.declaring.VariableRead.{VariableRead}
use Rattle.cl_variables.specs.declared.declaring.Where.{Where}
use Rattle.cl_variables.specs.Initialisers.{clean, only, tally_of, is_right, IsValue}
use Rattle.cl_variables.specs.Declarations.{space_at, no_space_at, no_type_at, is_file, is_local, is_braced, name_tests_at, name_tests, whole_tests_at, whole_tests, open_large, open_deep, variable, IsInitialised, no_init, init_value, init_wrong_value, init_list, init_open_list, init_over_list, in_init_value, in_init_list, in_init_open_list, IsVariable, VariableOffends, in_lengths, broken_name, in_init, broken_whole}
use Rattle.cl_variables.specs.Answers.{IsValued, ValueStops, IsTakenTree, IsTaken, ListIs, ListStops, OpenListIs, OpenListStops, IsElementOf, IsOpenedTree, OpenedIs, OpenedStops, InitialIs, InitialStops, again_at, NameIs, NameStops, WholeIs, WholeStops, VariableIs, VariableStops}

-- ---- tests one behind the other

broken_front : (xs ys : List (ℕ × Bool)) (code : ℕ) → first_broken xs ≡ Some code → first_broken (xs ++ ys) ≡ Some code
broken_front [] ys code h = absurd (none_some h)
broken_front ((c, true) ∷ xs) ys code h = h
broken_front ((c, false) ∷ xs) ys code h = broken_front xs ys code h

broken_behind : (xs ys : List (ℕ × Bool)) → first_broken xs ≡ None → first_broken (xs ++ ys) ≡ first_broken ys
broken_behind [] ys h = refl
broken_behind ((c, true) ∷ xs) ys h = absurd (none_some (sym h))
broken_behind ((c, false) ∷ xs) ys h = broken_behind xs ys h

abbrev limit : Bool → Bool → List (ℕ × Bool)
limit large deep = (501, large) ∷ (502, deep) ∷ []

without_limits : (xs : List (ℕ × Bool)) → first_broken (xs ++ limit false false) ≡ first_broken xs
without_limits [] = refl
without_limits ((c, true) ∷ xs) = refl
without_limits ((c, false) ∷ xs) = without_limits xs

-- ---- the name

abbrev name_front : Where → Bool → Sketch → List (ℕ × Bool)
name_front w again k = (302, again) ∷ (303, no_type_at w k) ∷ (304, some_wrong k.lengths) ∷ (326, k.clash || no_space_at w k.space) ∷ []

second_false : (a b : Bool) (xs : List (ℕ × Bool)) → first_broken ((302, a) ∷ (303, b) ∷ xs) ≡ None → b ≡ false
second_false true b xs h = absurd (none_some (sym h))
second_false false true xs h = absurd (none_some (sym h))
second_false false false xs h = refl

first_of_three : (a b c : Bool) → (a || b || c) ≡ false → a ≡ false
first_of_three true b c h = absurd (true≢false h)
first_of_three false b c h = refl

module _ (w : Where) (again : Bool) (k : Sketch) where
  pub name_code : (cs : List ClType) (place : Place) (code : ℕ) → first_broken (name_tests_at w again k false false) ≡ Some code → NameStops cs w again place k (Out (at code place))
  name_code cs place code h = (refl, λ more m. broken_front (name_front w again k) (limit (is_large (declared_tree more k 1)) (is_deep (declared_tree more k 1))) code (sym (without_limits (name_front w again k)) ∙ h))

  module _ (fine : first_broken (name_tests_at w again k false false) ≡ None) where
    pub name_element : no_declared_type k ≡ false
    name_element = first_of_three (no_declared_type k) _ _ (second_false again (no_type_at w k) ((304, some_wrong k.lengths) ∷ (326, k.clash || no_space_at w k.space) ∷ (501, false) ∷ (502, false) ∷ []) fine)

    rest_of : (more : List ClType) → first_broken (name_tests more w again k) ≡ first_broken (declared_limits_at more k 1)
    rest_of more = broken_behind (name_front w again k) (declared_limits_at more k 1) (sym (without_limits (name_front w again k)) ∙ fine)

    pub name_is : (cs : List ClType) (t : TypeId) → DeclaredIs cs k 1 t → NameIs cs w again k t
    name_is cs t h = record { is = h; fits = λ more m. rest_of more ∙ h.fits more m; element = name_element }

    pub name_large : (cs : List ClType) (place : Place) → DeclaredStops cs k 1 TooLarge → NameStops cs w again place k (Out (at 501 place))
    name_large cs place h = (refl, λ more m. rest_of more ∙ h more m)

    pub name_deep : (cs : List ClType) (place : Place) → DeclaredStops cs k 1 TooDeep → NameStops cs w again place k (Out (at 502 place))
    name_deep cs place h = (refl, λ more m. rest_of more ∙ h more m)

-- ---- the name with its initialiser

abbrev whole_front : Where → Sketch → Option Init → Tally → List (ℕ × Bool)
whole_front w k i tally =
    (304, is_open k.lengths && not (is_braced i)) ∷ (311, tally.no_value) ∷ (325, is_file w && (not (is_some i) || tally.varies))
    ∷ (326, is_local (space_at w k.space) && is_some i) ∷ (333, tally.no_pointer) ∷ []

module _ (w : Where) (d : InitDeclor) (k : Sketch) (tally : Tally) (n : ℕ) where
  pub whole_code : (cs : List ClType) (place : Place) (code : ℕ) → place ≡ (out-Declor d.name).place → first_broken (whole_tests_at w k d.init tally false false) ≡ Some code → WholeStops cs w d k tally n (Out (at code place))
  whole_code cs place code p h = (p, λ more m. broken_front (whole_front w k d.init tally) (limit (open_large more k n) (open_deep more k n)) code (sym (without_limits (whole_front w k d.init tally)) ∙ h))

  module _ (fine : first_broken (whole_tests_at w k d.init tally false false) ≡ None) where
    whole_rest : (more : List ClType) → first_broken (whole_tests more w k d.init tally n) ≡ first_broken (limit (open_large more k n) (open_deep more k n))
    whole_rest more = broken_behind (whole_front w k d.init tally) (limit (open_large more k n) (open_deep more k n)) (sym (without_limits (whole_front w k d.init tally)) ∙ fine)

    pub whole_closed : (cs : List ClType) (t : TypeId) → is_open k.lengths ≡ false → n ≡ 1 → DeclaredIs cs k 1 t → WholeIs cs w d k tally n t
    whole_closed cs t closed one h = record {
      is = λ more m. subst (λ z. IsDeclaredAs more k z t) (sym one) (h.is more m);
      known = h.known;
      fits = λ more m. whole_rest more ∙ ap (λ o. first_broken (limit (o && is_large (declared_tree more k n)) (o && is_deep (declared_tree more k n)))) closed;
    }

    whole_limits : (more : List ClType) → is_open k.lengths ≡ true → first_broken (whole_tests more w k d.init tally n) ≡ first_broken (declared_limits_at more k n)
    whole_limits more open_up = whole_rest more ∙ ap (λ o. first_broken (limit (o && is_large (declared_tree more k n)) (o && is_deep (declared_tree more k n)))) open_up

    pub whole_open : (cs : List ClType) (t : TypeId) → is_open k.lengths ≡ true → DeclaredIs cs k n t → WholeIs cs w d k tally n t
    whole_open cs t open_up h = record { is = h.is; known = h.known; fits = λ more m. whole_limits more open_up ∙ h.fits more m }

    pub whole_large : (cs : List ClType) (place : Place) → place ≡ (out-Declor d.name).place → is_open k.lengths ≡ true → DeclaredStops cs k n TooLarge → WholeStops cs w d k tally n (Out (at 501 place))
    whole_large cs place p open_up h = (p, λ more m. whole_limits more open_up ∙ h more m)

    pub whole_deep : (cs : List ClType) (place : Place) → place ≡ (out-Declor d.name).place → is_open k.lengths ≡ true → DeclaredStops cs k n TooDeep → WholeStops cs w d k tally n (Out (at 502 place))
    whole_deep cs place p open_up h = (p, λ more m. whole_limits more open_up ∙ h more m)

-- ---- initialisers

pub initial_none : (cs : List ClType) (constant : Bool) (env : Env) (k : Sketch) (ty : TypeId) (r : Initial) → IsKnownEnv cs env → r.tree ≡ None → r.count ≡ 1 → r.tally ≡ clean → InitialIs cs constant env None k ty env r
initial_none cs constant env k ty r known tree count tally = record {
  is = λ more m.
      subst (λ t. IsInitialised more constant env None k ty env t r.count r.tally) (sym tree)
      (subst (λ n. IsInitialised more constant env None k ty env None n r.tally) (sym count)
      (subst (λ t. IsInitialised more constant env None k ty env None 1 t) (sym tally) (no_init env k ty)));
  some = omega (arith, count);
  one = λ closed. count;
  known = known;
}

value_by : (more : List ClType) (constant : Bool) (env after : Env) (e : Expr) (k : Sketch) (ty : TypeId) (v : Valued) (tally : Tally) (tree : Option TExpr) (right : Bool) → IsValue more constant env e after v.typed.tree v.typed.operand v.varies → tally ≡ tally_of more v.typed.operand ty v.varies → is_right tally ≡ right → IsTakenTree more ty v.typed.tree right tree → IsInitialised more constant env (Some (init.Value e)) k ty after tree 1 tally
value_by more constant env after e k ty v tally (Some u) true value same right c = init_value env after e k ty v.typed.tree u v.typed.operand v.varies tally value same right c
value_by more constant env after e k ty v tally None false value same right c = init_wrong_value env after e k ty v.typed.tree v.typed.operand v.varies tally value same right
value_by more constant env after e k ty v tally None true value same right c = absurd c
value_by more constant env after e k ty v tally (Some u) false value same right c = absurd c

pub initial_value : (mid new : List ClType) (constant : Bool) (env after : Env) (e : Expr) (k : Sketch) (ty : TypeId) (v : Valued) (t : Taken) (r : Initial) → Grows mid new → IsValued mid constant env e after v → IsTaken new ty v t → r.tree ≡ t.tree → r.count ≡ 1 → r.tally ≡ t.tally → InitialIs new constant env (Some (init.Value e)) k ty after r
initial_value mid new constant env after e k ty v t r g h taken tree count tally = record {
  is = λ more m.
      subst (λ z. IsInitialised more constant env (Some (init.Value e)) k ty after z r.count r.tally) (sym tree)
      (subst (λ n. IsInitialised more constant env (Some (init.Value e)) k ty after t.tree n r.tally) (sym count)
      (subst (λ z. IsInitialised more constant env (Some (init.Value e)) k ty after t.tree 1 z) (sym tally)
      (value_by more constant env after e k ty v t.tally t.tree (is_right t.tally) (h.value more (grown_twice mid new more g.grown m)) (taken.tally more m) refl (taken.tree more m))));
  some = omega (arith, count);
  one = λ closed. count;
  known = env_stays mid new after g.grown h.known;
}

pub initial_value_out : (cs : List ClType) (constant : Bool) (env : Env) (e : Expr) (k : Sketch) (ty : TypeId) (s : Stop) → ValueStops cs constant env e s → InitialStops cs constant env (Some (init.Value e)) k ty s
initial_value_out cs constant env e k ty NoMemory h = tt
initial_value_out cs constant env e k ty (Out o) h = λ more m. in_init_value env e k ty o (h more m)

module _ (new : List ClType) (constant : Bool) (env : Env) (place : Place) (items : Vec Init) (k : Sketch) (ty : TypeId) where
  pub initial_list : (after : Env) (l : Listed) (r : Initial) → is_open k.lengths ≡ false → ListIs new constant env place items.items ty after l → r.tree ≡ Some l.tree → r.count ≡ 1 → r.tally ≡ only l.varies → InitialIs new constant env (Some (init.Braces place items)) k ty after r
  initial_list after l r closed h tree count tally = record {
    is = λ more m.
        subst (λ z. IsInitialised more constant env (Some (init.Braces place items)) k ty after z r.count r.tally) (sym tree)
        (subst (λ n. IsInitialised more constant env (Some (init.Braces place items)) k ty after (Some l.tree) n r.tally) (sym count)
        (subst (λ z. IsInitialised more constant env (Some (init.Braces place items)) k ty after (Some l.tree) 1 z) (sym tally)
        (init_list env after place items k ty l.tree l.varies closed (h.is more m))));
    some = omega (arith, count);
    one = λ again. count;
    known = h.known;
  }

  pub initial_list_out : (s : Stop) → is_open k.lengths ≡ false → ListStops new constant env place items.items ty s → InitialStops new constant env (Some (init.Braces place items)) k ty s
  initial_list_out NoMemory closed h = tt
  initial_list_out (Out o) closed h = λ more m. in_init_list env place items k ty o closed (h more m)

module _ (old mid : List ClType) (constant : Bool) (env : Env) (place : Place) (items : Vec Init) (k : Sketch) (ty elem : TypeId) (open_up : is_open k.lengths ≡ true) (table : IsTable old) (known : IsKnown old ty) (e : IsElementOf old ty elem) (u : Grows old mid) where
  array_later : (more : List ClType) → IsGrown mid more → shape_of more ty ≡ shape.Array elem e.0 e.1
  array_later more m = shape_stays old more ty table (grown_twice old mid more u.grown m) known ∙ e.2

  pub initial_open_out : (s : Stop) → OpenListStops mid constant env place items.items elem s → InitialStops mid constant env (Some (init.Braces place items)) k ty s
  initial_open_out NoMemory h = tt
  initial_open_out (Out o) h = λ more m. in_init_open_list env place items k ty elem e.0 e.1 o open_up (array_later more m) (h more m)

  module _ (new : List ClType) (after : Env) (l : Opened) (h : OpenListIs mid constant env items.items elem after l) (g : Grows mid new) where
    opened_by : (more : List ClType) → IsGrown new more → (t : Option TExpr) → IsOpenedTree more place k l.trees.items l.count t → IsInitialised more constant env (Some (init.Braces place items)) k ty after t l.count (only l.varies)
    opened_by more m (Some t) (whole, is, node) = let m2 = grown_twice mid new more g.grown m in
        init_open_list env after place items k ty elem whole e.0 l.count e.1 l.trees.items t l.varies open_up (array_later more m2) (h.is more m2) is node
    opened_by more m None over = let m2 = grown_twice mid new more g.grown m in
        init_over_list env after place items k ty elem e.0 l.count e.1 l.trees.items l.varies open_up (array_later more m2) (h.is more m2) over

    pub initial_open : (r : Initial) → OpenedIs new place k l r → InitialIs new constant env (Some (init.Braces place items)) k ty after r
    initial_open r o = record {
      is = λ more m.
          subst (λ n. IsInitialised more constant env (Some (init.Braces place items)) k ty after r.tree n r.tally) (sym o.counted)
          (subst (λ z. IsInitialised more constant env (Some (init.Braces place items)) k ty after r.tree l.count z) (sym o.wrong) (opened_by more m r.tree (o.tree more m)));
      some = subst (λ n. 0 < n) (sym o.counted) h.some;
      one = λ closed. absurd (true≢false (sym open_up ∙ closed));
      known = env_stays mid new after g.grown h.known;
    }

-- an array of which the first length is missing is one
open_array_by : (cs : List ClType) (elem t : TypeId) (ls : List Length) → is_open ls ≡ true → IsArrayOf cs elem (numbers 1 ls) t → is_array (shape_of cs t) ≡ true
open_array_by cs elem t [] h a = absurd (true≢false (sym h))
open_array_by cs elem t (l ∷ ls) h (array elem0 t0 u n ns inner at) = ap (λ o. is_array (shape_in cs o)) at

pub open_array : (cs : List ClType) (k : Sketch) (t : TypeId) → DeclaredIs cs k 1 t → is_open k.lengths ≡ true → is_array (shape_of cs t) ≡ true
open_array cs k t d h = let is = d.is cs ([], sym (append-nil cs)) in open_array_by cs is.elem t k.lengths h is.arrays

pub open_elem_known : (cs : List ClType) (t elem : TypeId) → IsTable cs → IsKnown cs t → IsElementOf cs t elem → IsKnown cs elem
open_elem_known cs t elem table known e = (subst (FitsTable cs) e.2 (known_fits cs t table known)).0

-- ---- the array that a list says

first_limits : (a b : Bool) (code : ℕ) → first_broken (limit a b) ≡ Some code → (a || b) ≡ true
first_limits true b code h = refl
first_limits false true code h = refl
first_limits false false code h = absurd (none_some h)

over_by : (more : List ClType) (k : Sketch) (n code : ℕ) → is_open k.lengths ≡ true → first_broken (declared_limits_at more k n) ≡ Some code → (open_large more k n || open_deep more k n) ≡ true
over_by more k n code open_up h =
    ap (λ o. (o && is_large (declared_tree more k n)) || (o && is_deep (declared_tree more k n))) open_up ∙ first_limits (is_large (declared_tree more k n)) (is_deep (declared_tree more k n)) code h

module _ (new : List ClType) (place : Place) (k : Sketch) (l : Opened) (r : Initial) (count : r.count ≡ l.count) (tally : r.tally ≡ only l.varies) where
  pub opened_tree : (ty : TypeId) (t : TExpr) → DeclaredIs new k l.count ty → IsNode t ty place head.Fill l.trees.items → r.tree ≡ Some t → OpenedIs new place k l r
  opened_tree ty t h node tree = record { counted = count; wrong = tally; tree = λ more m. subst (IsOpenedTree more place k l.trees.items l.count) (sym tree) (ty, h.is more m, node) }

  pub opened_large : is_open k.lengths ≡ true → DeclaredStops new k l.count TooLarge → r.tree ≡ None → OpenedIs new place k l r
  opened_large open_up h tree = record { counted = count; wrong = tally; tree = λ more m. subst (IsOpenedTree more place k l.trees.items l.count) (sym tree) (over_by more k l.count 501 open_up (h more m)) }

  pub opened_deep : is_open k.lengths ≡ true → DeclaredStops new k l.count TooDeep → r.tree ≡ None → OpenedIs new place k l r
  opened_deep open_up h tree = record { counted = count; wrong = tally; tree = λ more m. subst (IsOpenedTree more place k l.trees.items l.count) (sym tree) (over_by more k l.count 502 open_up (h more m)) }

pub opened_out : (cs : List ClType) (constant : Bool) (env : Env) (i : Init) (k : Sketch) (ty : TypeId) (s : Stop) → OpenedStops s → InitialStops cs constant env (Some i) k ty s
opened_out cs constant env i k ty NoMemory h = tt
opened_out cs constant env i k ty (Out o) h = absurd h

want_later : (old new : List ClType) (w : Want) (s : Shape) → IsTable old → IsGrown old new → IsReadyWant old w s → IsReadyWant new w s
want_later old new want.Own s b g h = h
want_later old new (want.Type t) s b g h = (grown_known old new t g h.0, h.1 ∙ sym (shape_stays old new t b g h.0))
want_later old new (want.Of u) s b g h = (askable_stays old new (want.Of u) b g h.0, h.1, h.2)

pub ready_later_sketch : (old new : List ClType) (k : Sketch) → IsTable old → Grows old new → IsReadySketch old k → IsReadySketch new k
ready_later_sketch old new k b g h = want_later old new k.of k.shape b g.grown h

-- ---- what a declared name is before its type

first_or : (a b : Bool) → (a || b) ≡ false → a ≡ false
first_or true b h = absurd (true≢false h)
first_or false b h = refl

sketch_by : (cs : List ClType) (q : Qualified) (star : Option (List Qual)) (ls : List Length) → IsTable cs → IsReadyType cs q → no_declared_type (sketch q star ls) ≡ false → IsReadySketch cs (sketch q star ls)
sketch_by cs q None ls b r e = (r.known, r.shape)
sketch_by cs q (Some qs) ls b r e = (pointer_askable cs b q (has_restrict qs) r (first_or (is_no_pointee q.shape) _ e), refl, refl)

lengths_by : (q : Qualified) (star : Option (List Qual)) (ls : List Length) → (sketch q star ls).lengths ≡ ls
lengths_by q None ls = refl
lengths_by q (Some qs) ls = refl

module _ (old cs : List ClType) (q : Qualified) (star : Option (List Qual)) (ls : List Length) (k : Sketch) (is : k ≡ sketch q star ls) where
  pub sketch_ready : IsTable old → Grows old cs → IsReadyType old q → no_declared_type k ≡ false → IsReadySketch cs k
  sketch_ready b g r e =
      subst (IsReadySketch cs) (sym is) (sketch_by cs q star ls g.table (ready_type_stays old cs q b g.grown r) (subst (λ z. no_declared_type z ≡ false) is e))

  pub sketch_positive : ArePositive ls → ArePositive k.lengths
  sketch_positive p = subst (λ z. ArePositive z.lengths) (sym is) (subst ArePositive (sym (lengths_by q star ls)) p)

pub declared_later : (old new : List ClType) (k : Sketch) (n : ℕ) (t : TypeId) → IsGrown old new → DeclaredIs old k n t → DeclaredIs new k n t
declared_later old new k n t g h = record {
  is = λ more m. h.is more (grown_twice old new more g m);
  known = grown_known old new t g h.known;
  fits = λ more m. h.fits more (grown_twice old new more g m);
}

-- ---- a declared variable

is_declor : (d : Declor) → IsDeclor d (out-Declor d).star (out-Declor d).name (out-Declor d).place (out-Declor d).lengths.items
is_declor d = record { behind = refl; is = refl; at = refl; has = refl }

pub env_declared : (cs : List ClType) (env : Env) (d : Declared) → IsKnownEnv cs env → IsKnown cs d.ty → IsKnownEnv cs (declare d env)
env_declared cs env d h k = record { outer = h.outer; inner = (k, h.inner); functions = h.functions }

pub lengths_out : (cs : List ClType) (w : Where) (kind : DeclaredKind) (env : Env) (q : Qualified) (d : InitDeclor) (s : Stop) → LengthsStop cs env true (out-Declor d.name).lengths.items s → VariableStops cs w kind env q d s
lengths_out cs w kind env q d NoMemory h = tt
lengths_out cs w kind env q d (Out o) h = λ more m. in_lengths env q d (out-Declor d.name).star (out-Declor d.name).name (out-Declor d.name).place (out-Declor d.name).lengths.items o (is_declor d.name) (h more m)

abbrev name_of : InitDeclor → List ℕ
name_of d = (out-Declor d.name).name

-- the name is right: what comes behind it, in longer and longer tables
module _ (w : Where) (kind : DeclaredKind) (env typed : Env) (q : Qualified) (d : InitDeclor) (ls : List Length) (t1 t2 : List ClType) (lengths : LengthsAre t1 env true (out-Declor d.name).lengths.items typed ls) (g2 : Grows t1 t2) where
  abbrev kept : Sketch
  kept = sketch q (out-Declor d.name).star ls

  lengths_later : (more : List ClType) → IsGrown t2 more → AreLengths more env true (out-Declor d.name).lengths.items typed ls
  lengths_later more m = lengths.lengths more (grown_twice t1 t2 more g2.grown m)

  pub name_out : (s : Stop) → NameStops t2 w (again_at w typed (name_of d)) (out-Declor d.name).place kept s → VariableStops t2 w kind env q d s
  name_out NoMemory h = tt
  name_out (Out o) h = λ more m.
      subst (λ p. VariableOffends more w kind (again_at w) env q d (at o.code p)) (sym h.0)
      (broken_name env typed q d (out-Declor d.name).star (name_of d) (out-Declor d.name).place (out-Declor d.name).lengths.items ls o.code (is_declor d.name) (lengths_later more m) (h.1 more m))

  module _ (first : TypeId) (name : NameIs t2 w (again_at w typed (name_of d)) kept first) (t3 : List ClType) (g3 : Grows t2 t3) where
    abbrev within : Env
    within = declare (variable w (name_of d) first kept kind (not (is_open ls))) typed

    -- the name as it is declared before its initialiser
    pub within_is : (k : Sketch) (complete : Bool) (now : Env) → k ≡ kept → complete ≡ not (is_open k.lengths) → now ≡ declare (variable w (name_of d) first k kind complete) typed → now ≡ within
    within_is k complete now same open_up is =
        is ∙ ap (λ z. declare (variable w (name_of d) first k kind z) typed) open_up ∙ ap (λ z. declare (variable w (name_of d) first z kind (not (is_open z.lengths))) typed) same
        ∙ ap (λ z. declare (variable w (name_of d) first kept kind (not (is_open z))) typed) (lengths_by q (out-Declor d.name).star ls)

    back : (more : List ClType) → IsGrown t3 more → IsGrown t2 more
    back more m = grown_twice t2 t3 more g3.grown m

    pub init_out : (s : Stop) → InitialStops t3 (is_file w) within d.init kept first s → VariableStops t3 w kind env q d s
    init_out s h = by d.init refl s h
      where
        by : (i : Option Init) → d.init ≡ i → (s : Stop) → InitialStops t3 (is_file w) within i kept first s → VariableStops t3 w kind env q d s
        by None e NoMemory h = tt
        by (Some i) e NoMemory h = tt
        by None e (Out o) h = absurd h
        by (Some i) e (Out o) h = λ more m.
            in_init env typed q d (out-Declor d.name).star (name_of d) (out-Declor d.name).place (out-Declor d.name).lengths.items ls first i o (is_declor d.name) (lengths_later more (back more m)) (name.fits more (back more m)) (name.is.is more (back more m)) e (h more m)

    module _ (behind : Env) (r : Initial) (initial : InitialIs t3 (is_file w) within d.init kept first behind r) (t4 : List ClType) (g4 : Grows t3 t4) where
      back3 : (more : List ClType) → IsGrown t4 more → IsGrown t3 more
      back3 more m = grown_twice t3 t4 more g4.grown m

      pub whole_out : (s : Stop) → WholeStops t4 w d kept r.tally r.count s → VariableStops t4 w kind env q d s
      whole_out NoMemory h = tt
      whole_out (Out o) h = λ more m.
          let m3 = back3 more m in
          let m2 = back more m3 in
          subst (λ p. VariableOffends more w kind (again_at w) env q d (at o.code p)) (sym h.0)
          (broken_whole env typed behind q d (out-Declor d.name).star (name_of d) (out-Declor d.name).place (out-Declor d.name).lengths.items ls first r.tree r.count r.tally o.code (is_declor d.name) (lengths_later more m2) (name.fits more m2) (name.is.is more m2) (initial.is more m3) (h.1 more m))

      pub variable_is : (ty : TypeId) (after : Env) (v : VariableRead) → WholeIs t4 w d kept r.tally r.count ty → after ≡ declare (variable w (name_of d) ty kept kind true) behind → v.variable.name ≡ name_of d → v.variable.place ≡ (out-Declor d.name).place → v.variable.ty ≡ ty → v.variable.space ≡ space_at w kept.space → v.tree ≡ r.tree → VariableIs t4 w kind env q d after v
      variable_is ty after v whole scope n p t s tree = record {
        is = λ more m.
            let m3 = back3 more m in
            let m2 = back more m3 in
            subst (λ z. IsVariable more w kind (again_at w) env q d after z v.variable.place v.variable.ty v.variable.space v.tree) (sym n)
            (subst (λ z. IsVariable more w kind (again_at w) env q d after (name_of d) z v.variable.ty v.variable.space v.tree) (sym p)
            (subst (λ z. IsVariable more w kind (again_at w) env q d after (name_of d) (out-Declor d.name).place z v.variable.space v.tree) (sym t)
            (subst (λ z. IsVariable more w kind (again_at w) env q d after (name_of d) (out-Declor d.name).place ty v.variable.space z) (sym tree)
            (record {
              star = (out-Declor d.name).star;
              es = (out-Declor d.name).lengths.items;
              ls = ls;
              is = is_declor d.name;
              typed = typed;
              lengths = lengths_later more m2;
              fits = name.fits more m2;
              first = first;
              of = name.is.is more m2;
              behind = behind;
              n = r.count;
              tally = r.tally;
              initialised = initial.is more m3;
              whole = whole.fits more m;
              gives = whole.is more m;
              in_space = s;
              scope = scope;
            }))));
        known = subst (IsKnownEnv t4) (sym scope) (env_declared t4 behind (variable w (name_of d) ty kept kind true) (env_stays t3 t4 behind g4.grown initial.known) whole.known);
      }
