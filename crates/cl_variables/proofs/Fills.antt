-- What items fill: one part, and parts one behind the other.
use Rattle.std.proofs.Common.{◌≡◌, ℕ, zero, suc, ◌+◌, ◌-◌, ◌<◌, ◌≤◌, ◌⊎◌, inl, inr, Bool, true, false, ◌||◌, List, [], ◌∷◌, ◌++◌, length, drop, get_or, Option, Some, None, refl, sym, ap, ◌∙◌, subst, arith, add-one, drop-cons, append_assoc}
use Rattle.std.proofs.lemmas.List.{drop_all, append-nil}
use Rattle.std.specs.Global.{Vec}
use Rattle.std.specs.Prelude.{slice_get}
use Rattle.clv_place.specs.declared.place.Place.{Place}
use Rattle.clv_place.specs.declared.stop.Offence.{Offence}
use Rattle.clv_place.specs.declared.stop.Stop.{Stop}
use Rattle.clv_place.specs.declared.stop.Stop.TheVariants.{Out, NoMemory}
use Rattle.cl_types.specs.declared.types.ClType.{ClType}
use Rattle.cl_types.specs.declared.types.Member.{Member}
use Rattle.cl_types.specs.declared.types.TypeId.{TypeId}
use Rattle.cl_types.specs.Table.{IsTable}
use Rattle.cl_builtins.specs.Found.{IsKnown, IsGrown}
use Rattle.cl_builtins.proofs.Growth.{grown_twice, grown_known}
use Rattle.cl_ast.specs.declared.declaration.Init.{Init}
use Rattle.cl_ast.specs.declared.declaration.Init.TheVariants as init
use Rattle.cl_ast.specs.declared.expression.Expr.{Expr}
use Rattle.cl_tree.specs.declared.expression.TExpr.{TExpr}
use Rattle.cl_tree.specs.declared.shape.Shape.TheVariants as shape
use Rattle.cl_tree.specs.Shapes.{shape_of, members_of}
use Rattle.cl_scope.specs.Names.{Env}
use Rattle.cl_scope.specs.Scopes.{IsKnownEnv}
use Rattle.cl_make.specs.Ready.{From, Grows}
use Rattle.cl_make.specs.Wanted.{target}
use Rattle.cl_make.proofs.Growing.{none_some, some_same, grows_itself, grows_twice, shape_stays, members_stay}
use Rattle.cl_make.proofs.Stays.{env_stays}
use Rattle.cl_variables.specs.declared.filling.Filled.{Filled}
use Rattle.cl_variables.specs.declared.filling.Listed.{Listed}
use Rattle.cl_variables.specs.declared.tally.Tally.{Tally}
use Rattle.cl_variables.specs.declared.valued.Taken.{Taken}
use Rattle.cl_variables.specs.declared.valued.Valued.{Valued}
use Rattle.cl_variables.specs.Initialisers.{clean, only, with, tally_of, is_right, takes_whole, takes_whole_at, IsValue, FillsPart, by_list, by_value, by_wrong_value, by_parts, FillsParts, its_elements, its_members, FillsElements, elements_full, elements_ended, more_elements, FillsMembers, members_full, members_ended, more_members, PartOffends, in_list, in_part_value, in_parts, PartsOffend, in_elements, in_members, ElementsOffend, in_element, behind_element, MembersOffend, in_member, behind_member}
use Rattle.cl_variables.specs.Answers.{IsBegun, Begins, BeginsAt, IsNext, NextStops, IsTakenTree, IsTaken, IsWhole, IsOneFilled, trees_in, IsMemberAt, Filling, Breaking, FillingIs, FillingStops, PartIs, PartStops, PartsAre, PartsStop, ElementsAre, ElementsStop, MembersAre, MembersStop, ListIs, ListStops}
use Rattle.cl_variables.proofs.Values.{target_stays}

-- ---- items by their rest

pub first_of : {A : Type 0} (xs : List A) (at : ℕ) (x : A) → at < length xs → x ≡ get_or xs at x → drop at xs ≡ x ∷ drop (at + 1) xs
first_of xs at x h e = drop-cons xs at x h ∙ ap (λ z. z ∷ drop (suc at) xs) (sym e) ∙ ap (λ n. x ∷ drop n xs) (sym (add-one at))

pub record FirstOf {A : Type 0} (xs : List A) (at : ℕ) : Type 0 where
  pub first : A
  pub is : drop at xs ≡ first ∷ drop (at + 1) xs

some_in : {A : Type 0} (xs : List A) (at : ℕ) → at < length xs → (x : A) × (x ≡ get_or xs at x)
some_in [] at h = absurd (omega arith)
some_in (x ∷ xs) zero h = (x, refl)
some_in (x ∷ xs) (suc at) h = some_in xs at (omega arith)

pub first_in : {A : Type 0} (xs : List A) (at : ℕ) → at < length xs → FirstOf xs at
first_in xs at h = let s = some_in xs at h in record { first = s.0; is = first_of xs at s.0 h s.1 }

-- ---- tallies

or_assoc : (a b c : Bool) → ((a || b) || c) ≡ (a || (b || c))
or_assoc true b c = refl
or_assoc false b c = refl

or_false : (a : Bool) → (a || false) ≡ a
or_false true = refl
or_false false = refl

pub with_assoc : (x y z : Tally) → with (with x y) z ≡ with x (with y z)
with_assoc x y z = λ i. record { no_value = or_assoc x.no_value y.no_value z.no_value i; no_pointer = or_assoc x.no_pointer y.no_pointer z.no_pointer i; varies = or_assoc x.varies y.varies z.varies i }

pub with_none : (x : Tally) → with x clean ≡ x
with_none x = λ i. record { no_value = or_false x.no_value i; no_pointer = or_false x.no_pointer i; varies = or_false x.varies i }

pub none_with : (x : Tally) → with clean x ≡ x
none_with x = refl

-- ---- the first item

begins_braces : (cs : List ClType) (constant : Bool) (env here : Env) (place : Place) (inside : Vec Init) (rest : List Init) (first : Option Valued) → BeginsAt cs constant env here (init.Braces place inside ∷ rest) first → env ≡ here
begins_braces cs constant env here place inside rest None b = b
begins_braces cs constant env here place inside rest (Some v) b = absurd b

begins_value : (cs : List ClType) (constant : Bool) (env here : Env) (e : Expr) (rest : List Init) (first : Option Valued) → BeginsAt cs constant env here (init.Value e ∷ rest) first → Begins cs constant env here e first
begins_value cs constant env here e rest None b = b
begins_value cs constant env here e rest (Some v) b = b

-- what is filled, by its fields
as_filled : (P : List Init → List TExpr → Tally → Type 0) (items : List Init) (f : Filled) (n : ℕ) (ts : List TExpr) (t : Tally) → f.next ≡ n → f.trees.items ≡ ts → f.tally ≡ t → P (drop n items) ts t → P (drop f.next items) f.trees.items f.tally
as_filled P items f n ts t a b c h =
    subst (λ z. P (drop z items) f.trees.items f.tally) (sym a) (subst (λ z. P (drop n items) z f.tally) (sym b) (subst (P (drop n items) ts) (sym c) h))

-- ---- a part by one item

module _ (new : List ClType) (constant : Bool) (here : Env) (first : Option Valued) (items : List Init) (at : ℕ) (ty : TypeId) (place : Place) (inside : Vec Init) (low : at < length items) (is : init.Braces place inside ≡ get_or items at (init.Braces place inside)) where
  braces_rest : drop at items ≡ init.Braces place inside ∷ drop (at + 1) items
  braces_rest = first_of items at (init.Braces place inside) low is

  pub part_list : (after : Env) (r : Listed) (f : Filled) → ListIs new constant here place inside.items ty after r → IsOneFilled (Some r.tree) (at + 1) (only r.varies) f → PartIs new constant here first items at ty after f
  part_list after r f h one = record {
    fills = λ more m env b.
        let same = begins_braces more constant env here place inside (drop (at + 1) items) first (subst (λ z. BeginsAt more constant env here z first) braces_rest b) in
        as_filled (λ left ts t. FillsPart more constant env (drop at items) ty after left ts t) items f (at + 1) (r.tree ∷ []) (only r.varies) one.behind one.trees one.wrong
        (subst (λ z. FillsPart more constant z (drop at items) ty after (drop (at + 1) items) (r.tree ∷ []) (only r.varies)) (sym same)
        (subst (λ z. FillsPart more constant here z ty after (drop (at + 1) items) (r.tree ∷ []) (only r.varies)) (sym braces_rest)
        (by_list here after place inside (drop (at + 1) items) ty r.tree r.varies (h.is more m))));
    moved = omega (arith, one.behind);
    low = omega (arith, one.behind, low);
    known = h.known;
  }

  pub part_list_out : (s : Stop) → ListStops new constant here place inside.items ty s → PartStops new constant here first items at ty s
  part_list_out NoMemory h = tt
  part_list_out (Out o) h = λ more m env b.
      let same = begins_braces more constant env here place inside (drop (at + 1) items) first (subst (λ z. BeginsAt more constant env here z first) braces_rest b) in
      subst (λ z. PartOffends more constant z (drop at items) ty o) (sym same)
      (subst (λ z. PartOffends more constant here z ty o) (sym braces_rest) (in_list here place inside (drop (at + 1) items) ty o (h more m)))

-- by a value of the type that is wanted
pub whole_by : (cs : List ClType) (ty : TypeId) (v : Valued) (next : ℕ) (t : Taken) (f : Filled) → IsTaken cs ty v t → IsOneFilled t.tree next t.tally f → IsWhole cs ty v next f
whole_by cs ty v next t f h one = record {
  tree = t.tree;
  trees = one.trees;
  wrong = λ more m. one.wrong ∙ h.tally more m;
  converts = λ more m. subst (λ z. IsTakenTree more ty v.typed.tree (is_right z) t.tree) (sym one.wrong) (h.tree more m);
  behind = one.behind;
}

-- by a value that takes the whole part
pub whole_fills : (more : List ClType) (constant : Bool) (env after : Env) (e : Expr) (rest : List Init) (ty : TypeId) (v : Valued) (f : Filled) (tree : Option TExpr) (right : Bool) → IsValue more constant env e after v.typed.tree v.typed.operand v.varies → takes_whole more ty v.typed.operand ≡ true → f.trees.items ≡ trees_in tree → is_right f.tally ≡ right → IsTakenTree more ty v.typed.tree right tree → f.tally ≡ tally_of more v.typed.operand ty v.varies → FillsPart more constant env (init.Value e ∷ rest) ty after rest f.trees.items f.tally
whole_fills more constant env after e rest ty v f (Some u) true value takes trees right c tally =
    subst (λ z. FillsPart more constant env (init.Value e ∷ rest) ty after rest z f.tally) (sym trees) (by_value env after e rest ty v.typed.tree u v.typed.operand v.varies f.tally value takes tally right c)
whole_fills more constant env after e rest ty v f None false value takes trees right c tally =
    subst (λ z. FillsPart more constant env (init.Value e ∷ rest) ty after rest z f.tally) (sym trees) (by_wrong_value env after e rest ty v.typed.tree v.typed.operand v.varies f.tally value takes tally right)
whole_fills more constant env after e rest ty v f None true value takes trees right c tally = absurd c
whole_fills more constant env after e rest ty v f (Some u) false value takes trees right c tally = absurd c

module _ (mid new : List ClType) (constant : Bool) (here : Env) (first : Option Valued) (items : List Init) (at : ℕ) (ty : TypeId) (e : Expr) (low : at < length items) (is : init.Value e ≡ get_or items at (init.Value e)) where
  value_rest : drop at items ≡ init.Value e ∷ drop (at + 1) items
  value_rest = first_of items at (init.Value e) low is

  value_begins : (more : List ClType) (env : Env) → BeginsAt more constant env here (drop at items) first → Begins more constant env here e first
  value_begins more env b = begins_value more constant env here e (drop (at + 1) items) first (subst (λ z. BeginsAt more constant env here z first) value_rest b)

  pub part_value_out : (s : Stop) → NextStops mid constant here first e s → PartStops mid constant here first items at ty s
  part_value_out NoMemory h = tt
  part_value_out (Out o) h = λ more m env b.
      subst (λ z. PartOffends more constant env z ty o) (sym value_rest) (in_part_value env e (drop (at + 1) items) ty o (h more m env (value_begins more env b)))

  module _ (after : Env) (v : Valued) (table : IsTable mid) (known : IsKnown mid ty) (g : Grows mid new) (n : IsNext mid constant here first e after v) where
    takes_later : (more : List ClType) (b : Bool) → IsGrown mid more → takes_whole_at (target mid ty) v.typed.operand ≡ b → takes_whole more ty v.typed.operand ≡ b
    takes_later more b m h = ap (λ z. takes_whole_at z v.typed.operand) (target_stays mid more ty table m known) ∙ h

    pub part_whole : (f : Filled) → takes_whole_at (target mid ty) v.typed.operand ≡ true → IsWhole new ty v (at + 1) f → PartIs new constant here first items at ty after f
    part_whole f takes w = record {
      fills = λ more m env b.
          let m2 = grown_twice mid new more g.grown m in
          subst (λ z. FillsPart more constant env (drop at items) ty after (drop z items) f.trees.items f.tally) (sym w.behind)
          (subst (λ z. FillsPart more constant env z ty after (drop (at + 1) items) f.trees.items f.tally) (sym value_rest)
          (whole_fills more constant env after e (drop (at + 1) items) ty v f w.tree (is_right f.tally) (n.value more m2 env (value_begins more env b)) (takes_later more true m2 takes) w.trees refl (w.converts more m) (w.wrong more m)));
      moved = omega (arith, w.behind);
      low = omega (arith, w.behind, low);
      known = env_stays mid new after g.grown n.known;
    }

    parts_begin : (more : List ClType) (env : Env) → IsGrown mid more → BeginsAt more constant env here (drop at items) first → BeginsAt more constant env after (drop at items) (Some v)
    parts_begin more env m b = subst (λ z. BeginsAt more constant env after z (Some v)) (sym value_rest) (n.value more m env (value_begins more env b))

    pub part_parts : (last : Env) (f : Filled) → takes_whole_at (target mid ty) v.typed.operand ≡ false → PartsAre new constant after (Some v) items at ty last f → PartIs new constant here first items at ty last f
    part_parts last f takes p = record {
      fills = λ more m env b.
          let m2 = grown_twice mid new more g.grown m in
          subst (λ z. FillsPart more constant env z ty last (drop f.next items) f.trees.items f.tally) (sym value_rest)
          (by_parts env after last e (drop (at + 1) items) (drop f.next items) ty v.typed.tree f.trees.items v.typed.operand v.varies f.tally (n.value more m2 env (value_begins more env b)) (takes_later more false m2 takes)
          (subst (λ z. FillsParts more constant env z ty last (drop f.next items) f.trees.items f.tally) value_rest (p.fills more m env (parts_begin more env m2 b))));
      moved = p.moved;
      low = p.low;
      known = p.known;
    }

    pub part_parts_out : (s : Stop) → takes_whole_at (target mid ty) v.typed.operand ≡ false → PartsStop new constant after (Some v) items at ty s → PartStops new constant here first items at ty s
    part_parts_out NoMemory takes p = tt
    part_parts_out (Out o) takes p = λ more m env b.
        let m2 = grown_twice mid new more g.grown m in
        subst (λ z. PartOffends more constant env z ty o) (sym value_rest)
        (in_parts env after e (drop (at + 1) items) ty v.typed.tree v.typed.operand v.varies o (n.value more m2 env (value_begins more env b)) (takes_later more false m2 takes)
        (subst (λ z. PartsOffend more constant env z ty o) value_rest (p more m env (parts_begin more env m2 b))))

-- ---- the parts of a type

module _ (old new : List ClType) (constant : Bool) (here : Env) (first : Option Valued) (items : List Init) (at : ℕ) (ty : TypeId) (table : IsTable old) (known : IsKnown old ty) (g : Grows old new) where
  shape_later : (more : List ClType) (s : _) → IsGrown new more → shape_of old ty ≡ s → shape_of more ty ≡ s
  shape_later more s m is = shape_stays old more ty table (grown_twice old new more g.grown m) known ∙ is

  pub parts_elements : (elem : TypeId) (len : ℕ) (nested : Bool) (after : Env) (f : Filled) → shape_of old ty ≡ shape.Array elem len nested → ElementsAre new constant here first items at elem len after f → PartsAre new constant here first items at ty after f
  parts_elements elem len nested after f is h = record {
    fills = λ more m env b. its_elements env after (drop at items) (drop f.next items) ty elem len nested f.trees.items f.tally (shape_later more (shape.Array elem len nested) m is) (h.fills more m env b);
    moved = h.moved;
    low = h.low;
    known = h.known;
  }

  pub parts_elements_out : (elem : TypeId) (len : ℕ) (nested : Bool) (s : Stop) → shape_of old ty ≡ shape.Array elem len nested → ElementsStop new constant here first items at elem len s → PartsStop new constant here first items at ty s
  parts_elements_out elem len nested NoMemory is h = tt
  parts_elements_out elem len nested (Out o) is h = λ more m env b. in_elements env (drop at items) ty elem len nested o (shape_later more (shape.Array elem len nested) m is) (h more m env b)

  pub parts_members : (after : Env) (f : Filled) → shape_of old ty ≡ shape.Struct → MembersAre new constant here first items at ty after f → PartsAre new constant here first items at ty after f
  parts_members after f is h = record {
    fills = λ more m env b. its_members env after (drop at items) (drop f.next items) ty f.trees.items f.tally (shape_later more shape.Struct m is) (h.fills more m env b);
    moved = h.moved;
    low = h.low;
    known = h.known;
  }

  pub parts_members_out : (s : Stop) → shape_of old ty ≡ shape.Struct → MembersStop new constant here first items at ty s → PartsStop new constant here first items at ty s
  parts_members_out NoMemory is h = tt
  parts_members_out (Out o) is h = λ more m env b. in_members env (drop at items) ty o (shape_later more shape.Struct m is) (h more m env b)

-- ---- parts one behind the other: what is left makes the whole

pub record SoFar (Q P : Filling) (C B : Breaking) (old now : List ClType) (constant : Bool) (env0 : Env) (first0 : Option Valued) (items : List Init) (at : ℕ) (here : Env) (first : Option Valued) (f : Filled) : Type 0 where
  pub goes : From now (λ more. (env last : Env) (left : List Init) (us : List TExpr) (b : Tally) → BeginsAt more constant env env0 (drop at items) first0 → ((e : Env) → BeginsAt more constant e here (drop f.next items) first → P more e (drop f.next items) last left us b) → Q more env (drop at items) last left (f.trees.items ++ us) (with f.tally b))
  pub stops : From now (λ more. (env : Env) (o : Offence) → BeginsAt more constant env env0 (drop at items) first0 → ((e : Env) → BeginsAt more constant e here (drop f.next items) first → B more e (drop f.next items) o) → C more env (drop at items) o)
  pub moved : (f.next ≡ at) ⊎ ((at < f.next) × (first ≡ None))
  pub low : f.next ≤ length items
  pub begun : IsBegun now first
  pub known : IsKnownEnv now here
  pub grown : Grows old now

pub so_far_start : (Q : Filling) (C : Breaking) (cs : List ClType) (constant : Bool) (env0 : Env) (first0 : Option Valued) (items : List Init) (at : ℕ) (f : Filled) → IsTable cs → at ≤ length items → IsBegun cs first0 → IsKnownEnv cs env0 → f.trees.items ≡ [] → f.next ≡ at → f.tally ≡ clean → SoFar Q Q C C cs cs constant env0 first0 items at env0 first0 f
so_far_start Q C cs constant env0 first0 items at f table low begun known trees next tally = record {
  goes = λ more m env last left us b begins rest.
      subst (λ z. Q more env (drop at items) last left (z ++ us) (with f.tally b)) (sym trees)
      (subst (λ z. Q more env (drop at items) last left us (with z b)) (sym tally)
      (subst (λ n. Q more env (drop n items) last left us b) next (rest env (subst (λ n. BeginsAt more constant env env0 (drop n items) first0) (sym next) begins))));
  stops = λ more m env o begins rest. subst (λ n. C more env (drop n items) o) next (rest env (subst (λ n. BeginsAt more constant env env0 (drop n items) first0) (sym next) begins));
  moved = inl next;
  low = omega (arith, next, low);
  begun = begun;
  known = known;
  grown = grows_itself cs table;
}

module _ (Q P : Filling) (C B : Breaking) (old now new : List ClType) (constant : Bool) (env0 : Env) (first0 : Option Valued) (items : List Init) (at : ℕ) (here : Env) (first : Option Valued) (f : Filled) (h : SoFar Q P C B old now constant env0 first0 items at here first f) (low : f.next < length items) (g : Grows now new) (ty : TypeId) where
  pub so_far_stop : (s : Stop) → ((more : List ClType) → IsGrown new more → (e : Env) (o : Offence) → PartOffends more constant e (drop f.next items) ty o → B more e (drop f.next items) o) → PartStops new constant here first items f.next ty s → FillingStops C new constant env0 first0 items at s
  so_far_stop NoMemory inside p = tt
  so_far_stop (Out o) inside p = λ more m env begins. h.stops more (grown_twice now new more g.grown m) env o begins (λ e b. inside more m e o (p more m e b))

  module _ (N : Filling) (D : Breaking) (after : Env) (p j : Filled) (part : PartIs new constant here first items f.next ty after p) (trees : j.trees.items ≡ f.trees.items ++ p.trees.items) (next : j.next ≡ p.next) (tally : j.tally ≡ with f.tally p.tally) where
    pub so_far_more : ((more : List ClType) → IsGrown new more → (e last : Env) (left : List Init) (us : List TExpr) (b : Tally) → FillsPart more constant e (drop f.next items) ty after (drop p.next items) p.trees.items p.tally → N more after (drop p.next items) last left us b → P more e (drop f.next items) last left (p.trees.items ++ us) (with p.tally b))
        → ((more : List ClType) → IsGrown new more → (e : Env) (o : Offence) → FillsPart more constant e (drop f.next items) ty after (drop p.next items) p.trees.items p.tally → D more after (drop p.next items) o → B more e (drop f.next items) o)
        → SoFar Q N C D old new constant env0 first0 items at after None j
    so_far_more step break = record {
      goes = λ more m env last left us b begins rest.
          let behind = subst (λ n. N more after (drop n items) last left us b) next (rest after refl) in
          subst (λ z. Q more env (drop at items) last left (z ++ us) (with j.tally b)) (sym trees)
          (subst (λ z. Q more env (drop at items) last left ((f.trees.items ++ p.trees.items) ++ us) (with z b)) (sym tally)
          (subst (λ z. Q more env (drop at items) last left z (with (with f.tally p.tally) b)) (sym (append_assoc f.trees.items p.trees.items us))
          (subst (λ z. Q more env (drop at items) last left (f.trees.items ++ (p.trees.items ++ us)) z) (sym (with_assoc f.tally p.tally b))
          (h.goes more (grown_twice now new more g.grown m) env last left (p.trees.items ++ us) (with p.tally b) begins
          (λ e bg. step more m e last left us b (part.fills more m e bg) behind)))));
      stops = λ more m env o begins rest.
          let behind = subst (λ n. D more after (drop n items) o) next (rest after refl) in
          h.stops more (grown_twice now new more g.grown m) env o begins (λ e bg. break more m e o (part.fills more m e bg) behind);
      moved = inr (further h.moved, refl);
      low = omega (arith, next, part.low);
      begun = tt;
      known = part.known;
      grown = grows_twice old now new h.grown g;
    }
      where
        further : (f.next ≡ at) ⊎ ((at < f.next) × (first ≡ None)) → at < j.next
        further (inl e) = omega (arith, e, next, part.moved)
        further (inr e) = omega (arith, e.0, next, part.moved)

-- the end: something was filled, and nothing is left
pub so_far_end : (Q P : Filling) (C B : Breaking) (old now : List ClType) (constant : Bool) (env0 : Env) (first0 : Option Valued) (items : List Init) (at : ℕ) (here : Env) (first : Option Valued) (f : Filled) → SoFar Q P C B old now constant env0 first0 items at here first f → at < f.next → ((more : List ClType) → IsGrown now more → P more here (drop f.next items) here (drop f.next items) [] clean) → FillingIs Q now constant env0 first0 items at here f
so_far_end Q P C B old now constant env0 first0 items at here first f h moved none = record {
  fills = λ more m env begins.
      subst (λ z. Q more env (drop at items) here (drop f.next items) z f.tally) (append-nil f.trees.items)
      (subst (λ z. Q more env (drop at items) here (drop f.next items) (f.trees.items ++ []) z) (with_none f.tally)
      (h.goes more m env here (drop f.next items) [] clean begins (λ e b. subst (λ z. P more z (drop f.next items) here (drop f.next items) [] clean) (sym (same more e b)) (none more m))));
  moved = moved;
  low = h.low;
  known = h.known;
}
  where
    fresh : first ≡ None
    fresh = by h.moved
      where
        by : (f.next ≡ at) ⊎ ((at < f.next) × (first ≡ None)) → first ≡ None
        by (inl e) = absurd (omega (arith, e, moved))
        by (inr e) = e.1

    same : (more : List ClType) (e : Env) → BeginsAt more constant e here (drop f.next items) first → e ≡ here
    same more e b = subst (BeginsAt more constant e here (drop f.next items)) fresh b

-- ---- elements

abbrev pub elements_left : Bool → TypeId → ℕ → Filling
elements_left constant elem n = λ more env items last left ts tally. FillsElements more constant env items elem n last left ts tally

abbrev pub elements_break : Bool → TypeId → ℕ → Breaking
elements_break constant elem n = λ more env items o. ElementsOffend more constant env items elem n o

pub record ElementsSoFar (old now : List ClType) (constant : Bool) (env0 : Env) (first0 : Option Valued) (items : List Init) (at : ℕ) (elem : TypeId) (len : ℕ) (here : Env) (first : Option Valued) (left : ℕ) (f : Filled) : Type 0 where
  pub so : SoFar (elements_left constant elem len) (elements_left constant elem left) (elements_break constant elem len) (elements_break constant elem left) old now constant env0 first0 items at here first f
  pub stands : f.next ≡ at → left ≡ len
  pub elem_known : IsKnown now elem

pub elements_start : (cs : List ClType) (constant : Bool) (env0 : Env) (first0 : Option Valued) (items : List Init) (at : ℕ) (elem : TypeId) (len : ℕ) (f : Filled) → IsTable cs → at < length items → IsKnown cs elem → IsBegun cs first0 → IsKnownEnv cs env0 → f.trees.items ≡ [] → f.next ≡ at → f.tally ≡ clean → ElementsSoFar cs cs constant env0 first0 items at elem len env0 first0 len f
elements_start cs constant env0 first0 items at elem len f table low known begun env trees next tally = record {
  so = so_far_start (elements_left constant elem len) (elements_break constant elem len) cs constant env0 first0 items at f table (omega (arith, low)) begun env trees next tally;
  stands = λ e. refl;
  elem_known = known;
}

module _ (old now new : List ClType) (constant : Bool) (env0 : Env) (first0 : Option Valued) (items : List Init) (at : ℕ) (elem : TypeId) (len : ℕ) (here : Env) (first : Option Valued) (left : ℕ) (f : Filled) (h : ElementsSoFar old now constant env0 first0 items at elem len here first left f) (low : f.next < length items) (some : 0 < left) (g : Grows now new) where
  one_of : FirstOf items f.next
  one_of = first_in items f.next low

  one_less : left ≡ suc (left - 1)
  one_less = omega (arith, some)

  pub elements_stop : (s : Stop) → PartStops new constant here first items f.next elem s → ElementsStop new constant env0 first0 items at elem len s
  elements_stop s p = so_far_stop _ _ _ _ old now new constant env0 first0 items at here first f h.so low g elem s
      (λ more m e o q. subst (λ k. ElementsOffend more constant e (drop f.next items) elem k o) (sym one_less)
      (subst (λ z. ElementsOffend more constant e z elem (suc (left - 1)) o) (sym one_of.is)
      (in_element e one_of.first (drop (f.next + 1) items) elem (left - 1) o (subst (λ z. PartOffends more constant e z elem o) one_of.is q)))) p

  pub elements_next : (after : Env) (p j : Filled) (less : ℕ) → PartIs new constant here first items f.next elem after p → j.trees.items ≡ f.trees.items ++ p.trees.items → j.next ≡ p.next → j.tally ≡ with f.tally p.tally → less ≡ left - 1 → ElementsSoFar old new constant env0 first0 items at elem len after None less j
  elements_next after p j less part trees next tally e = record {
    so = so_far_more _ _ _ _ old now new constant env0 first0 items at here first f h.so low g elem (elements_left constant elem less) (elements_break constant elem less) after p j part trees next tally
        (λ more m e1 last rest us b q behind.
        subst (λ k. FillsElements more constant e1 (drop f.next items) elem k last rest (p.trees.items ++ us) (with p.tally b)) (sym count)
        (subst (λ z. FillsElements more constant e1 z elem (suc less) last rest (p.trees.items ++ us) (with p.tally b)) (sym one_of.is)
        (more_elements e1 after last one_of.first (drop (f.next + 1) items) (drop p.next items) rest elem less p.trees.items us p.tally b (subst (λ z. FillsPart more constant e1 z elem after (drop p.next items) p.trees.items p.tally) one_of.is q) behind)))
        (λ more m e1 o q behind.
        subst (λ k. ElementsOffend more constant e1 (drop f.next items) elem k o) (sym count)
        (subst (λ z. ElementsOffend more constant e1 z elem (suc less) o) (sym one_of.is)
        (behind_element e1 after one_of.first (drop (f.next + 1) items) (drop p.next items) elem less p.trees.items p.tally o (subst (λ z. FillsPart more constant e1 z elem after (drop p.next items) p.trees.items p.tally) one_of.is q) behind)));
    stands = λ stuck. absurd (omega (arith, stuck, next, part.moved, further h.so.moved));
    elem_known = grown_known now new elem g.grown h.elem_known;
  }
    where
      count : left ≡ suc less
      count = one_less ∙ ap suc (sym e)

      further : (f.next ≡ at) ⊎ ((at < f.next) × (first ≡ None)) → at ≤ f.next
      further (inl e) = omega (arith, e)
      further (inr e) = omega (arith, e.0)

no_elements : (more : List ClType) (constant : Bool) (env : Env) (items : List Init) (elem : TypeId) (left : ℕ) → (left ≡ 0) ⊎ (items ≡ []) → FillsElements more constant env items elem left env items [] clean
no_elements more constant env items elem zero e = elements_full env items elem
no_elements more constant env items elem (suc n) (inl e) = absurd (omega (arith, e))
no_elements more constant env items elem (suc n) (inr e) = subst (λ z. FillsElements more constant env z elem (suc n) env z [] clean) (sym e) (elements_ended env elem n)

pub elements_end : (old now : List ClType) (constant : Bool) (env0 : Env) (first0 : Option Valued) (items : List Init) (at : ℕ) (elem : TypeId) (len : ℕ) (here : Env) (first : Option Valued) (left : ℕ) (f : Filled) → ElementsSoFar old now constant env0 first0 items at elem len here first left f → 0 < len → at < length items → (left ≡ 0) ⊎ (length items ≤ f.next) → ElementsAre now constant env0 first0 items at elem len here f
elements_end old now constant env0 first0 items at elem len here first left f h some low done =
    so_far_end _ _ _ _ old now constant env0 first0 items at here first f h.so (moved h.so.moved done) (λ more m. no_elements more constant here (drop f.next items) elem left (ended done))
  where
    ended : (left ≡ 0) ⊎ (length items ≤ f.next) → (left ≡ 0) ⊎ (drop f.next items ≡ [])
    ended (inl e) = inl e
    ended (inr e) = inr (drop_all f.next items e)

    moved : (f.next ≡ at) ⊎ ((at < f.next) × (first ≡ None)) → (left ≡ 0) ⊎ (length items ≤ f.next) → at < f.next
    moved (inr e) d = e.0
    moved (inl e) (inl d) = absurd (omega (arith, h.stands e, d, some))
    moved (inl e) (inr d) = absurd (omega (arith, e, d, low))

-- ---- members

abbrev pub members_left : Bool → TypeId → ℕ → Filling
members_left constant ty k = λ more env items last left ts tally. FillsMembers more constant env items (drop k (members_of more ty)) last left ts tally

abbrev pub members_break : Bool → TypeId → ℕ → Breaking
members_break constant ty k = λ more env items o. MembersOffend more constant env items (drop k (members_of more ty)) o

pub record MembersSoFar (old now : List ClType) (constant : Bool) (env0 : Env) (first0 : Option Valued) (items : List Init) (at : ℕ) (ty : TypeId) (here : Env) (first : Option Valued) (done : ℕ) (f : Filled) : Type 0 where
  pub so : SoFar (members_left constant ty 0) (members_left constant ty done) (members_break constant ty 0) (members_break constant ty done) old now constant env0 first0 items at here first f
  pub stands : f.next ≡ at → done ≡ 0
  pub type_known : IsKnown now ty

pub members_start : (cs : List ClType) (constant : Bool) (env0 : Env) (first0 : Option Valued) (items : List Init) (at : ℕ) (ty : TypeId) (f : Filled) → IsTable cs → at < length items → IsKnown cs ty → IsBegun cs first0 → IsKnownEnv cs env0 → f.trees.items ≡ [] → f.next ≡ at → f.tally ≡ clean → MembersSoFar cs cs constant env0 first0 items at ty env0 first0 0 f
members_start cs constant env0 first0 items at ty f table low known begun env trees next tally = record {
  so = so_far_start (members_left constant ty 0) (members_break constant ty 0) cs constant env0 first0 items at f table (omega (arith, low)) begun env trees next tally;
  stands = λ e. refl;
  type_known = known;
}

module _ (old now new : List ClType) (constant : Bool) (env0 : Env) (first0 : Option Valued) (items : List Init) (at : ℕ) (ty : TypeId) (here : Env) (first : Option Valued) (done : ℕ) (f : Filled) (h : MembersSoFar old now constant env0 first0 items at ty here first done f) (low : f.next < length items) (some : done < length (members_of now ty)) (g : Grows now new) (t : TypeId) (is : IsMemberAt (members_of now ty) done t) where
  item_of : FirstOf items f.next
  item_of = first_in items f.next low

  abbrev member_of : Member
  member_of = is.0

  members_rest : (more : List ClType) → IsGrown new more → drop done (members_of more ty) ≡ member_of ∷ drop (done + 1) (members_of more ty)
  members_rest more m =
      let same : members_of more ty ≡ members_of now ty = members_stay now more ty (grown_twice now new more g.grown m) h.type_known in
      ap (drop done) same ∙ first_by (members_of now ty) done member_of is.1 ∙ ap (λ n. member_of ∷ drop n (members_of now ty)) (sym (add-one done)) ∙ ap (λ z. member_of ∷ drop (done + 1) z) (sym same)
    where
      first_by : (ms : List Member) (i : ℕ) (x : Member) → slice_get ms i ≡ Some x → drop i ms ≡ x ∷ drop (suc i) ms
      first_by [] i x e = absurd (none_some e)
      first_by (y ∷ ms) zero x e = ap (λ z. z ∷ ms) (some_same y x e)
      first_by (y ∷ ms) (suc i) x e = first_by ms i x e

  pub members_stop : (s : Stop) → PartStops new constant here first items f.next t s → MembersStop new constant env0 first0 items at ty s
  members_stop s p = so_far_stop _ _ _ _ old now new constant env0 first0 items at here first f h.so low g t s
      (λ more m e o q. subst (λ k. MembersOffend more constant e (drop f.next items) k o) (sym (members_rest more m))
      (subst (λ z. MembersOffend more constant e z (member_of ∷ drop (done + 1) (members_of more ty)) o) (sym item_of.is)
      (in_member e item_of.first (drop (f.next + 1) items) member_of (drop (done + 1) (members_of more ty)) o
      (subst (λ u. PartOffends more constant e (item_of.first ∷ drop (f.next + 1) items) u o) (sym is.2) (subst (λ z. PartOffends more constant e z t o) item_of.is q))))) p

  pub members_next : (after : Env) (p j : Filled) → PartIs new constant here first items f.next t after p → j.trees.items ≡ f.trees.items ++ p.trees.items → j.next ≡ p.next → j.tally ≡ with f.tally p.tally → MembersSoFar old new constant env0 first0 items at ty after None (done + 1) j
  members_next after p j part trees next tally = record {
    so = so_far_more _ _ _ _ old now new constant env0 first0 items at here first f h.so low g t (members_left constant ty (done + 1)) (members_break constant ty (done + 1)) after p j part trees next tally
        (λ more m e1 last rest us b q behind.
        subst (λ k. FillsMembers more constant e1 (drop f.next items) k last rest (p.trees.items ++ us) (with p.tally b)) (sym (members_rest more m))
        (subst (λ z. FillsMembers more constant e1 z (member_of ∷ drop (done + 1) (members_of more ty)) last rest (p.trees.items ++ us) (with p.tally b)) (sym item_of.is)
        (more_members e1 after last item_of.first (drop (f.next + 1) items) (drop p.next items) rest member_of (drop (done + 1) (members_of more ty)) p.trees.items us p.tally b (by_member more m e1 q) behind)))
        (λ more m e1 o q behind.
        subst (λ k. MembersOffend more constant e1 (drop f.next items) k o) (sym (members_rest more m))
        (subst (λ z. MembersOffend more constant e1 z (member_of ∷ drop (done + 1) (members_of more ty)) o) (sym item_of.is)
        (behind_member e1 after item_of.first (drop (f.next + 1) items) (drop p.next items) member_of (drop (done + 1) (members_of more ty)) p.trees.items p.tally o (by_member more m e1 q) behind)));
    stands = λ stuck. absurd (omega (arith, stuck, next, part.moved, further h.so.moved));
    type_known = grown_known now new ty g.grown h.type_known;
  }
    where
      by_member : (more : List ClType) → IsGrown new more → (e1 : Env) → FillsPart more constant e1 (drop f.next items) t after (drop p.next items) p.trees.items p.tally → FillsPart more constant e1 (item_of.first ∷ drop (f.next + 1) items) member_of.ty after (drop p.next items) p.trees.items p.tally
      by_member more m e1 q = subst (λ u. FillsPart more constant e1 (item_of.first ∷ drop (f.next + 1) items) u after (drop p.next items) p.trees.items p.tally) (sym is.2)
          (subst (λ z. FillsPart more constant e1 z t after (drop p.next items) p.trees.items p.tally) item_of.is q)

      further : (f.next ≡ at) ⊎ ((at < f.next) × (first ≡ None)) → at ≤ f.next
      further (inl e) = omega (arith, e)
      further (inr e) = omega (arith, e.0)

no_members : (more : List ClType) (constant : Bool) (env : Env) (items : List Init) (ms : List Member) → (ms ≡ []) ⊎ (items ≡ []) → FillsMembers more constant env items ms env items [] clean
no_members more constant env items [] e = members_full env items
no_members more constant env items (m ∷ ms) (inl e) = absurd (cons_nil e)
  where
    cons_nil : {x : Member} {xs : List Member} → (x ∷ xs) ≡ [] → ⊥
    cons_nil p = absurd (omega (arith, ap length p))
no_members more constant env items (m ∷ ms) (inr e) = subst (λ z. FillsMembers more constant env z (m ∷ ms) env z [] clean) (sym e) (members_ended env m ms)

pub members_end : (old now : List ClType) (constant : Bool) (env0 : Env) (first0 : Option Valued) (items : List Init) (at : ℕ) (ty : TypeId) (here : Env) (first : Option Valued) (done : ℕ) (f : Filled) → MembersSoFar old now constant env0 first0 items at ty here first done f → 0 < length (members_of now ty) → at < length items → (length (members_of now ty) ≤ done) ⊎ (length items ≤ f.next) → MembersAre now constant env0 first0 items at ty here f
members_end old now constant env0 first0 items at ty here first done f h some low end =
    so_far_end _ _ _ _ old now constant env0 first0 items at here first f h.so (moved h.so.moved end) (λ more m. no_members more constant here (drop f.next items) (drop done (members_of more ty)) (ended more m end))
  where
    ended : (more : List ClType) → IsGrown now more → (length (members_of now ty) ≤ done) ⊎ (length items ≤ f.next) → (drop done (members_of more ty) ≡ []) ⊎ (drop f.next items ≡ [])
    ended more m (inl e) = inl (ap (drop done) (members_stay now more ty m h.type_known) ∙ drop_all done (members_of now ty) e)
    ended more m (inr e) = inr (drop_all f.next items e)

    moved : (f.next ≡ at) ⊎ ((at < f.next) × (first ≡ None)) → (length (members_of now ty) ≤ done) ⊎ (length items ≤ f.next) → at < f.next
    moved (inr e) d = e.0
    moved (inl e) (inl d) = absurd (omega (arith, h.stands e, d, some))
    moved (inl e) (inr d) = absurd (omega (arith, e, d, low))
