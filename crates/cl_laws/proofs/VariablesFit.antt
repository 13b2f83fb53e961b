-- Declared variables stand where they may, with initialisers of their types, and lists that have them agree with the declarations behind them.
use Rattle.std.proofs.Common.{◌≡◌, ℕ, List, [], ◌∷◌, ◌++◌, refl, sym, ap, ◌∙◌, subst, Bool, true, false, not, ◌&&◌, ◌||◌, cond, true≢false, Option, Some, None, slice_get}
use Rattle.std.specs.Prelude.{is_some}
use Rattle.std.proofs.lemmas.Bool.{and_from, or_left, or_right, or_parts, not_from_false}
use Rattle.clv_place.specs.declared.place.Place.{Place}
use Rattle.cl_types.specs.declared.space.Space.{Space}
use Rattle.cl_types.specs.declared.space.Space.TheVariants as space
use Rattle.cl_types.specs.declared.types.ClType.{ClType}
use Rattle.cl_types.specs.declared.types.TypeId.{TypeId}
use Rattle.cl_types.specs.Table.{IsTable}
use Rattle.cl_ast.specs.declared.declaration.Init.{Init}
use Rattle.cl_ast.specs.declared.declaration.InitDeclor.{InitDeclor}
use Rattle.cl_tree.specs.declared.expression.TExpr.{TExpr}
use Rattle.cl_tree.specs.declared.shape.Shape.{Shape}
use Rattle.cl_tree.specs.declared.unit.Variable.{Variable}
use Rattle.cl_tree.specs.Facts.{Lists, value, place, named, same_elements, facts_of}
use Rattle.cl_tree.specs.Facts as tree
use Rattle.cl_tree.specs.Shapes.{shape_of, same_type, is_void}
use Rattle.cl_tree.specs.Statements.{type_in, has_type, declares}
use Rattle.cl_tree.specs.Statements as statement
use Rattle.cl_tree.specs.Units.{is_object, is_variable_in, is_variable}
use Rattle.cl_tree.specs.Units as unit
use Rattle.cl_rules.specs.declared.rule.Qualified.{Qualified}
use Rattle.cl_rules.specs.Operands.{first_broken}
use Rattle.cl_scope.specs.declared.scope.Declared.{Declared}
use Rattle.cl_scope.specs.declared.scope.DeclaredKind.{DeclaredKind}
use Rattle.cl_scope.specs.declared.scope.DeclaredKind.TheVariants as kind
use Rattle.cl_scope.specs.Names.{Env, declare, is_called, newest, find, function_in}
use Rattle.cl_words.specs.declared.naming.Sketch.{Sketch}
use Rattle.cl_words.specs.Words.{sketch, some_wrong, is_open, has_lengths, is_no_element, no_declared_type, is_declared, is_large, is_deep, declared_tree}
use Rattle.cl_make.proofs.Growing.{some_same}
use Rattle.cl_make.specs.Ready.{IsReadyType}
use Rattle.cl_make.specs.Wanted.{IsDeclaredAs}
use Rattle.cl_variables.specs.declared.declaring.Where.{Where}
use Rattle.cl_variables.specs.declared.declaring.Where.TheVariants.{AtFileScope, InKernel, Inside}
use Rattle.cl_variables.specs.declared.tally.Tally.{Tally}
use Rattle.cl_variables.specs.Declarations.{space_at, is_private, is_local, no_space_at, no_type_at, is_braced, is_file, name_tests, whole_tests, open_large, open_deep, IsInitialised, no_init, init_value, init_wrong_value, init_list, init_open_list, init_over_list, IsVariable}
use Rattle.cl_variables.specs.Declarations as declared
use Rattle.cl_laws.specs.Agreement.{StandsAs, Agrees}
use Rattle.cl_laws.proofs.DeclaredTypes.{IsTold, sketch_told, declared_one, opened, opened_shape, opened_elements, closed_declared, IsShapeOf, declared_shape, shape_no_void, shape_object}
use Rattle.cl_laws.proofs.Fitted.{test_kept, tests_kept, kept_when, same_types}
use Rattle.cl_laws.proofs.InitialisersFit.{TypesFit, HasType, converted_to, right_converts, list_keeps, list_fits, open_list_keeps, open_list_fits}
use Rattle.cl_laws.proofs.NamesKept.{IsKept, kept, kept_agrees, types_keep, are_lengths_keep}

-- ---- where it stands

abbrev pub MayStand : Where → Bool → Type 0
MayStand AtFileScope kernel = ⊥
MayStand InKernel kernel = kernel ≡ true
MayStand Inside kernel = Unit {0}

-- what is declared is no void, and out of private memory it is an object
record IsStanding (w : Where) (k : Sketch) (s : Shape) : Type 0 where
  some : is_void s ≡ false
  object : is_private (space_at w k.space) ≡ false → is_object s ≡ true
  spaced : no_space_at w k.space ≡ false

out_of_private : (p x : Bool) → (not p && x) ≡ false → p ≡ false → x ≡ false
out_of_private true x h e = absurd (true≢false e)
out_of_private false x h e = h

second_kept : (t u : ℕ × Bool) (ts : List (ℕ × Bool)) → first_broken (t ∷ u ∷ ts) ≡ None → u.1 ≡ false
second_kept t u ts h = test_kept u ts (tests_kept t (u ∷ ts) h)

fourth_kept : (t u v x : ℕ × Bool) (ts : List (ℕ × Bool)) → first_broken (t ∷ u ∷ v ∷ x ∷ ts) ≡ None → x.1 ≡ false
fourth_kept t u v x ts h = second_kept v x ts (tests_kept u (v ∷ x ∷ ts) (tests_kept t (u ∷ v ∷ x ∷ ts) h))

name_stands : (cs : List ClType) (w : Where) (again : Bool) (k : Sketch) (s : Shape) → IsShapeOf (has_lengths k.lengths) k.shape s → first_broken (name_tests cs w again k) ≡ None → IsStanding w k s
name_stands cs w again k s x h =
    let t302 : ℕ × Bool = (302, again) in
    let t303 : ℕ × Bool = (303, no_type_at w k) in
    let t304 : ℕ × Bool = (304, some_wrong k.lengths) in
    let t326 : ℕ × Bool = (326, k.clash || no_space_at w k.space) in
    let rest : List (ℕ × Bool) = (501, is_large (declared_tree cs k 1)) ∷ (502, is_deep (declared_tree cs k 1)) ∷ [] in
    let outside = not (is_private (space_at w k.space)) && is_declared is_no_element k in
    let a = or_parts (no_declared_type k || is_declared is_void k) outside (second_kept t302 t303 (t304 ∷ t326 ∷ rest) h) in
    let c = or_parts (no_declared_type k) (is_declared is_void k) a.0 in
    record {
      some = shape_no_void (has_lengths k.lengths) k.shape s x c.1;
      object = λ e. shape_object (has_lengths k.lengths) k.shape s x (out_of_private (is_private (space_at w k.space)) (is_declared is_no_element k) a.1 e);
      spaced = (or_parts k.clash (no_space_at w k.space) (fourth_kept t302 t303 t304 t326 rest h)).1;
    }

private_stands : (kernel : Bool) (s : Shape) → is_void s ≡ false → (is_variable_in space.Private s && (kernel || unit.is_private space.Private)) ≡ true
private_stands kernel s v = and_from (not (is_void s)) (kernel || true) (not_from_false (is_void s) v) (or_right kernel true refl)

local_stands : (kernel : Bool) (s : Shape) → kernel ≡ true → is_object s ≡ true → (is_variable_in space.Local s && (kernel || unit.is_private space.Local)) ≡ true
local_stands kernel s k o = and_from (is_object s) (kernel || false) o (or_left kernel false k)

stands_in : (w : Where) (kernel : Bool) (o : Option Space) (s : Shape) → MayStand w kernel → no_space_at w o ≡ false → is_void s ≡ false → (is_private (space_at w o) ≡ false → is_object s ≡ true) → (is_variable_in (space_at w o) s && (kernel || unit.is_private (space_at w o))) ≡ true
stands_in AtFileScope kernel o s m n v f = absurd m
stands_in InKernel kernel None s m n v f = private_stands kernel s v
stands_in InKernel kernel (Some space.Private) s m n v f = private_stands kernel s v
stands_in InKernel kernel (Some space.Local) s m n v f = local_stands kernel s m (f refl)
stands_in InKernel kernel (Some space.Global) s m n v f = absurd (true≢false n)
stands_in InKernel kernel (Some space.Constant) s m n v f = absurd (true≢false n)
stands_in Inside kernel None s m n v f = private_stands kernel s v
stands_in Inside kernel (Some space.Private) s m n v f = private_stands kernel s v
stands_in Inside kernel (Some space.Local) s m n v f = absurd (true≢false n)
stands_in Inside kernel (Some space.Global) s m n v f = absurd (true≢false n)
stands_in Inside kernel (Some space.Constant) s m n v f = absurd (true≢false n)

module _ (cs : List ClType) (w : Where) (what : DeclaredKind) (again : Env → List ℕ → Bool) (env : Env) (q : Qualified) (d : InitDeclor) (after : Env) (name : List ℕ) (at : Place) (ty : TypeId) (own : Space) (t : Option TExpr) (r : IsReadyType cs q) (h : IsVariable cs w what again env q d after name at ty own t) where
  standing : IsStanding w (sketch q h.star h.ls) (shape_of cs ty)
  standing = name_stands cs w (again h.typed name) (sketch q h.star h.ls) (shape_of cs ty) (declared_shape cs q h.star h.ls h.n ty r h.gives) h.fits

  -- a variable of a function may stand there
  pub variable_stands : (kernel : Bool) (v : Variable) → MayStand w kernel → v.ty ≡ ty → v.space ≡ own → is_variable cs kernel v ≡ true
  variable_stands kernel v m e f =
      (λ i. is_variable_in ((f ∙ h.in_space) i) (shape_of cs (e i)) && (kernel || unit.is_private ((f ∙ h.in_space) i))) ∙
      stands_in w kernel (sketch q h.star h.ls).space (shape_of cs ty) m standing.spaced standing.some standing.object

-- a constant is an object of constant memory
module _ (cs : List ClType) (what : DeclaredKind) (again : Env → List ℕ → Bool) (env : Env) (q : Qualified) (d : InitDeclor) (after : Env) (name : List ℕ) (at : Place) (ty : TypeId) (own : Space) (t : Option TExpr) (r : IsReadyType cs q) (h : IsVariable cs AtFileScope what again env q d after name at ty own t) where
  pub constant_stands : (own ≡ space.Constant) × (is_object (shape_of cs ty) ≡ true)
  constant_stands = (h.in_space, (standing cs AtFileScope what again env q d after name at ty own t r h).object refl)

-- ---- initialisers

-- an initialiser has this type, where there is one
abbrev pub InitHasType : Lists → TypeId → Option TExpr → Type 0
InitHasType l t None = Unit {0}
InitHasType l t (Some u) = HasType l t u

-- a tree comes of an initialiser
abbrev IsGiven : Option Init → Option TExpr → Type 0
IsGiven None (Some t) = ⊥
IsGiven _ _ = Unit {0}

module _ (l : Lists) (b : IsTable l.types) (typed : TypesFit l) (constant : Bool) where
  record Initialises (env : Env) (i : Option Init) (k : Sketch) (first : TypeId) (after : Env) (t : Option TExpr) (n : ℕ) : Type 0 where
    names : IsKept env after
    given : IsGiven i t
    fits : (whole : TypeId) → IsTold k.of → IsDeclaredAs l.types k 1 first → IsDeclaredAs l.types k n whole → Agrees l env → InitHasType l whole t

  initialised_fits : (i0 : Env) (i1 : Option Init) (i2 : Sketch) (i3 : TypeId) (i4 : Env) (i5 : Option TExpr) (i6 : ℕ) (i7 : Tally) → IsInitialised l.types constant i0 i1 i2 i3 i4 i5 i6 i7 → Initialises i0 i1 i2 i3 i4 i5 i6
  initialised_fits _ _ _ _ _ _ _ _ (no_init env k own) = record { names = kept env; given = tt; fits = λ whole o x y a. tt }
  initialised_fits _ _ _ _ _ _ _ _ (init_value env after e k own t u o varies tally v told right h) = record {
    names = types_keep l.types env false e after t o v.types;
    given = tt;
    fits = λ whole s x y a.
        let is = (typed env false e after t o v.types a).1 in
        subst (λ z. HasType l z u) (declared_one l.types b k 1 own whole s x y)
        (converted_to l own t u o is (right_converts l own o varies tally is.ready told right).converts h);
  }
  initialised_fits _ _ _ _ _ _ _ _ (init_wrong_value env after e k own t o varies tally v told wrong) = record {
    names = types_keep l.types env false e after t o v.types;
    given = tt;
    fits = λ whole s x y a. tt;
  }
  initialised_fits _ _ _ _ _ _ _ _ (init_list env after at items k own t varies closed_length h) = record {
    names = list_keeps l b typed constant env at items.items own after t varies h;
    given = tt;
    fits = λ whole s x y a.
        subst (λ z. HasType l z t) (declared_one l.types b k 1 own whole s x y)
        (record { is = value own; facts = (list_fits l b typed constant env at items.items own after t varies h a).1; type = refl });
  }
  initialised_fits _ _ _ _ _ _ _ _ (init_open_list env after at items k own elem all len n nested ts t varies missing e h known node) = record {
    names = open_list_keeps l b typed constant env items.items elem after n ts varies h;
    given = tt;
    fits = λ whole s x y a.
        let shape_is = opened_shape l.types b 1 n own all elem len nested (opened l.types b k 1 n own all s missing x known) e in
        subst (λ z. HasType l z t) (declared_one l.types b k n all whole s known y)
        (record { is = value all; facts = (open_list_fits l b typed constant env items.items elem after n ts varies all nested at t shape_is h node a).1; type = refl });
  }
  initialised_fits _ _ _ _ _ _ _ _ (init_over_list env after at items k own elem len n nested ts varies missing e h over) = record {
    names = open_list_keeps l b typed constant env items.items elem after n ts varies h;
    given = tt;
    fits = λ whole s x y a. tt;
  }

-- ---- the declarations behind

agrees_declared : (l : Lists) (d : Declared) (env : Env) → Agrees l env → StandsAs l d d.kind → Agrees l (declare d env)
agrees_declared l d env a s = record {
  names = λ text x e. by text x (is_called false text d) e;
  functions = a.functions;
}
  where
    by : (text : List ℕ) (x : Declared) (c : Bool) → cond c (Some d) (newest false text (env.inner ++ env.outer)) ≡ Some x → StandsAs l x x.kind
    by text x true e = subst (λ z. StandsAs l z z.kind) (some_same d x e) s
    by text x false e = a.names text x e

-- A name that is declared again with its whole type, behind its initialiser, which was typed where it was declared with its first one.
module _ (l : Lists) (w : Where) (name : List ℕ) (k : Sketch) (what : DeclaredKind) (first whole : TypeId) (complete : Bool) (env behind : Env) (kept_names : IsKept (declare (declared.variable w name first k what complete) env) behind) (a : Agrees l env) (s : StandsAs l (declared.variable w name whole k what true) what) where
  agrees_again : Agrees l (declare (declared.variable w name whole k what true) behind)
  agrees_again = record {
    names = λ text x e. by text x (is_called false text (declared.variable w name whole k what true)) refl e;
    functions = λ text x e. a.functions text x (ap (function_in text) (sym kept_names.functions) ∙ e);
  }
    where
      hidden : (text : List ℕ) → is_called false text (declared.variable w name whole k what true) ≡ false → find behind text ≡ find env text
      hidden text c = kept_names.names text ∙ ap (λ z. cond z (Some (declared.variable w name first k what complete)) (find env text)) c

      by : (text : List ℕ) (x : Declared) (c : Bool) → is_called false text (declared.variable w name whole k what true) ≡ c → cond c (Some (declared.variable w name whole k what true)) (find behind text) ≡ Some x → StandsAs l x x.kind
      by text x true c e = subst (λ z. StandsAs l z z.kind) (some_same (declared.variable w name whole k what true) x e) s
      by text x false c e = a.names text x (sym (hidden text c) ∙ e)

named_as : (l : Lists) (o : Option Variable) (v : Variable) (t : TypeId) (s : Space) → o ≡ Some v → v.ty ≡ t → v.space ≡ s → named t o ≡ Some (place t s)
named_as l o v t s e f g =
    ap (named t) e ∙ kept_when (same_type t v.ty) (place t v.space) (same_types t v.ty (sym f)) ∙ ap (λ z. Some (place t z)) g

variable_as : (l : Lists) (o : Option Variable) (v : Variable) (t : TypeId) (s : Space) → o ≡ Some v → (same_type t v.ty || same_elements (shape_of l.types t) (shape_of l.types v.ty)) ≡ true → v.space ≡ s → tree.variable l t o ≡ Some (place t s)
variable_as l o v t s e f g =
    ap (tree.variable l t) e ∙ kept_when (same_type t v.ty || same_elements (shape_of l.types t) (shape_of l.types v.ty)) (place t v.space) f ∙ ap (λ z. Some (place t z)) g

given_some : (i : Option Init) (u : TExpr) → IsGiven i (Some u) → is_some i ≡ true
given_some None u g = absurd g
given_some (Some i) u g = refl

-- the two words for local memory are one
one_local : (s : Space) → is_local s ≡ false → statement.is_local s ≡ false
one_local space.Private e = refl
one_local space.Local e = absurd (true≢false e)
one_local space.Global e = refl
one_local space.Constant e = refl

not_given : (x y : Bool) → (x && y) ≡ false → y ≡ true → x ≡ false
not_given true y h e = absurd (true≢false (sym e ∙ h))
not_given false y h e = refl

-- a variable in local memory has no initialiser
no_local : (cs : List ClType) (w : Where) (k : Sketch) (i : Option Init) (tally : Tally) (n : ℕ) → first_broken (whole_tests cs w k i tally n) ≡ None → is_some i ≡ true → is_local (space_at w k.space) ≡ false
no_local cs w k i tally n h g =
    let t304 : ℕ × Bool = (304, is_open k.lengths && not (is_braced i)) in
    let t311 : ℕ × Bool = (311, tally.no_value) in
    let t325 : ℕ × Bool = (325, is_file w && (not (is_some i) || tally.varies)) in
    let t326 : ℕ × Bool = (326, is_local (space_at w k.space) && is_some i) in
    let rest : List (ℕ × Bool) = (333, tally.no_pointer) ∷ (501, open_large cs k n) ∷ (502, open_deep cs k n) ∷ [] in
    not_given (is_local (space_at w k.space)) (is_some i) (fourth_kept t304 t311 t325 t326 rest h) g

module _ (l : Lists) (b : IsTable l.types) (typed : TypesFit l) (w : Where) (again : Env → List ℕ → Bool) (env : Env) (q : Qualified) (d : InitDeclor) (after : Env) (name : List ℕ) (at : Place) (ty : TypeId) (own : Space) (t : Option TExpr) where
  -- a constant that the lists have
  pub constant_agrees : (n : ℕ) (v : Variable) → IsVariable l.types w (kind.Constant n) again env q d after name at ty own t → slice_get l.constants n ≡ Some v → v.ty ≡ ty → v.space ≡ own → Agrees l env → Agrees l after
  constant_agrees n v h e f g a =
      let k = sketch q h.star h.ls in
      let i = initialised_fits l b typed (is_file w) (declare (declared.variable w name h.first k (kind.Constant n) (not (is_open h.ls))) h.typed) d.init k h.first h.behind t h.n h.tally h.initialised in
      subst (Agrees l) (sym h.scope)
      (agrees_again l w name k (kind.Constant n) h.first ty (not (is_open h.ls)) h.typed h.behind i.names
      (kept_agrees l env h.typed (are_lengths_keep l.types env true h.es h.typed h.ls h.lengths) a)
      (named_as l (slice_get l.constants n) v ty (space_at w k.space) e f (g ∙ h.in_space)))

  -- a variable of a function that the lists have
  pub variable_fits : (n : ℕ) (v : Variable) → IsVariable l.types w (kind.Var n) again env q d after name at ty own t → slice_get l.vars n ≡ Some v → v.ty ≡ ty → v.space ≡ own → Agrees l env → Agrees l after × (declares l (Some v) t ≡ true)
  variable_fits n v h e f g a = (behind, init_declares t i.given (i.fits ty told h.of h.gives inside))
    where
      k : Sketch
      k = sketch q h.star h.ls

      told : IsTold k.of
      told = sketch_told q h.star h.ls

      outside : Agrees l h.typed
      outside = kept_agrees l env h.typed (are_lengths_keep l.types env true h.es h.typed h.ls h.lengths) a

      in_space : v.space ≡ space_at w k.space
      in_space = g ∙ h.in_space

      begun : Declared
      begun = declared.variable w name h.first k (kind.Var n) (not (is_open h.ls))

      same_by : (o : Bool) → is_open k.lengths ≡ o → (same_type h.first v.ty || same_elements (shape_of l.types h.first) (shape_of l.types v.ty)) ≡ true
      same_by true o =
          or_right (same_type h.first v.ty) (same_elements (shape_of l.types h.first) (shape_of l.types v.ty))
          (subst (λ z. same_elements (shape_of l.types h.first) (shape_of l.types z) ≡ true) (sym f)
          (opened_elements l.types b 1 h.n h.first ty (opened l.types b k 1 h.n h.first ty told o h.of h.gives)))
      same_by false o =
          or_left (same_type h.first v.ty) (same_elements (shape_of l.types h.first) (shape_of l.types v.ty))
          (same_types h.first v.ty (declared_one l.types b k 1 h.first ty told h.of (closed_declared l.types k h.n 1 ty o h.gives) ∙ sym f))

      inside : Agrees l (declare begun h.typed)
      inside = agrees_declared l begun h.typed outside (variable_as l (slice_get l.vars n) v h.first (space_at w k.space) e (same_by (is_open k.lengths) refl) in_space)

      i : Initialises l b typed (is_file w) (declare begun h.typed) d.init k h.first h.behind t h.n
      i = initialised_fits l b typed (is_file w) (declare begun h.typed) d.init k h.first h.behind t h.n h.tally h.initialised

      behind : Agrees l after
      behind =
          subst (Agrees l) (sym h.scope)
          (agrees_again l w name k (kind.Var n) h.first ty (not (is_open h.ls)) h.typed h.behind i.names outside
          (variable_as l (slice_get l.vars n) v ty (space_at w k.space) e (or_left (same_type ty v.ty) (same_elements (shape_of l.types ty) (shape_of l.types v.ty)) (same_types ty v.ty (sym f))) in_space))

      init_declares : (t : Option TExpr) → IsGiven d.init t → InitHasType l ty t → declares l (Some v) t ≡ true
      init_declares None s x = refl
      init_declares (Some u) s x =
          and_from (has_type v.ty (type_in (facts_of u l))) (not (statement.is_local v.space))
          (ap (λ z. has_type v.ty (type_in z)) x.facts ∙ same_types v.ty x.is.ty (f ∙ sym x.type))
          (not_from_false (statement.is_local v.space)
          (one_local v.space (subst (λ z. is_local z ≡ false) (sym in_space) (no_local l.types w k d.init h.tally h.n h.whole (given_some d.init u s)))))
