-- What a unit leaves at its end: functions of different names, each as its name was declared first, and required sizes that may be.
use Rattle.std.proofs.Common.{◌≡◌, ℕ, zero, suc, Bool, true, false, true≢false, not, ◌&&◌, ◌||◌, if◌then◌else◌, List, [], ◌∷◌, ◌++◌, map, Option, Some, None, refl, sym, ap, ◌∙◌, subst, ◌⊎◌, inl, inr, slice_get}
use Rattle.std.specs.Prelude.{bytes_eq, is_some}
use Rattle.std.proofs.lemmas.Bool.{and_from, and_parts, not-false, eqb-true}
use Rattle.std.proofs.lemmas.Slice.Eq.{bytes_eq-Decides}
use Rattle.cl_types.specs.declared.types.ClType.{ClType}
use Rattle.cl_types.specs.declared.types.TypeId.{TypeId}
use Rattle.cl_ast.specs.declared.declaration.External.{External}
use Rattle.cl_ast.specs.declared.declaration.FWord.{FWord}
use Rattle.cl_ast.specs.declared.declaration.InitDeclor.{InitDeclor}
use Rattle.cl_ast.specs.declared.declaration.Param.{Param}
use Rattle.cl_ast.specs.declared.expression.Spec.{Spec}
use Rattle.cl_tree.specs.declared.shape.Shape.{Shape}
use Rattle.cl_tree.specs.declared.unit.Function.{Function}
use Rattle.cl_tree.specs.declared.unit.Variable.{Variable}
use Rattle.cl_tree.specs.Shapes.{same_type, is_void, is_array, is_pointer}
use Rattle.cl_tree.specs.Units.{types_of, callee_of, has_name, names_differ, is_required}
use Rattle.cl_rules.specs.declared.rule.Qualified.{Qualified}
use Rattle.cl_rules.specs.Operands.{first_broken}
use Rattle.cl_scope.specs.declared.scope.Signature.{Signature}
use Rattle.cl_scope.specs.Names.{Env, is_declared, function_in, find_function, declared_function, left_behind}
use Rattle.cl_laws.specs.Agreement.{callee_of as signature_callee}
use Rattle.cl_laws.proofs.Fitted.{test_kept, tests_kept}
use Rattle.cl_typing.specs.declared.unit_state.UnitState.{UnitState}
use Rattle.cl_typing.specs.Positions.{one_later, position_of, and_name}
use Rattle.cl_typing.specs.Units.{with_body, bodies_behind, number_or_0, empty, with_env, and_size, is_made, and_function, is_kernel, same_types, alike, differs, function_tests, signature, IsHead, ConstantsDeclared, none_declared, one_declared, ExternalIs, typedef, types, constants, declared, defined, UnitIs, no_external, more_externals}
use Rattle.cl_typing.proofs.FunctionsKept.{is_specified_functions, are_lengths_functions, is_variable_functions}
use Rattle.cl_typing.proofs.StatementsGo.{items_go}
use Rattle.cl_typing.proofs.UnitGoes.{declared_found, declared_among, head_functions, head_persists}
use Rattle.cl_typing.proofs.UnitParts.{sizes_required}

-- ---- lists that grow

pub get_either : {A : Type 0} (xs : List A) (x : A) (k : ℕ) (v : A) → slice_get (xs ++ x ∷ []) k ≡ Some v → (slice_get xs k ≡ Some v) ⊎ (v ≡ x)
get_either [] x zero v e = inr (let k : Some x ≡ Some v = e in cc)
get_either [] x (suc k) v e = inl e
get_either (y ∷ xs) x zero v e = inl e
get_either (y ∷ xs) x (suc k) v e = get_either xs x k v e

pub some_equal : {A : Type 0} (x y : A) → Some x ≡ Some y → x ≡ y
some_equal x y e = cc

-- ---- names

abbrev pub name_in : Function → List ℕ
name_in f = f.name

no_name_there : (name other : List ℕ) (o : Option ℕ) → (if bytes_eq name other then Some 0 else one_later o) ≡ None → (bytes_eq name other ≡ false) × (o ≡ None)
no_name_there name other o h = by (bytes_eq name other) o h
  where
    by : (b : Bool) (o : Option ℕ) → (if b then Some 0 else one_later o) ≡ None → (b ≡ false) × (o ≡ None)
    by true o h = absurd (true≢false (ap is_some h))
    by false None h = (refl, refl)
    by false (Some i) h = absurd (true≢false (ap is_some h))

pub name_found : (name : List ℕ) (fs : List Function) (i : ℕ) → position_of name (map name_in fs) ≡ Some i → (f : Function) × (slice_get fs i ≡ Some f) × (f.name ≡ name)
name_found name [] i h = absurd (true≢false (sym (ap is_some h)))
name_found name (f ∷ fs) i h = by (bytes_eq name f.name) (position_of name (map name_in fs)) refl refl h (λ j e. name_found name fs j e)
  where
    by : (b : Bool) (o : Option ℕ) → bytes_eq name f.name ≡ b → position_of name (map name_in fs) ≡ o → (if b then Some 0 else one_later o) ≡ Some i → ((j : ℕ) → position_of name (map name_in fs) ≡ Some j → (g : Function) × (slice_get fs j ≡ Some g) × (g.name ≡ name)) → (g : Function) × (slice_get (f ∷ fs) i ≡ Some g) × (g.name ≡ name)
    by true o e p h k =
        let z : 0 ≡ i = (let q : Some 0 ≡ Some i = h in cc) in
        (f, subst (λ n. slice_get (f ∷ fs) n ≡ Some f) z refl, sym ((bytes_eq-Decides name f.name).0 e))
    by false None e p h k = absurd (true≢false (sym (ap is_some h)))
    by false (Some j) e p h k =
        let z : suc j ≡ i = (let q : Some (suc j) ≡ Some i = h in cc) in
        let r = k j p in
        (r.0, subst (λ n. slice_get (f ∷ fs) n ≡ Some r.0) z r.1, r.2)

other_name : (a b : List ℕ) → bytes_eq a b ≡ false → bytes_eq b a ≡ false
other_name a b h = by (bytes_eq b a) refl
  where
    by : (c : Bool) → bytes_eq b a ≡ c → bytes_eq b a ≡ false
    by true e = absurd (true≢false (sym ((bytes_eq-Decides a b).1 (sym ((bytes_eq-Decides b a).0 e))) ∙ h))
    by false e = e

has_append : (name : List ℕ) (fs : List Function) (g : Function) → has_name name fs ≡ false → bytes_eq name g.name ≡ false → has_name name (fs ++ g ∷ []) ≡ false
has_append name [] g h k = ap (λ b. b || false) k
has_append name (f ∷ fs) g h k = by (bytes_eq name f.name) h (λ e. has_append name fs g e k)
  where
    by : (b : Bool) {c : Bool} → (b || has_name name fs) ≡ false → (has_name name fs ≡ false → c ≡ false) → (b || c) ≡ false
    by true h k = absurd (true≢false h)
    by false h k = k h

apart_more : (fs : List Function) (g : Function) → names_differ fs ≡ true → position_of g.name (map name_in fs) ≡ None → names_differ (fs ++ g ∷ []) ≡ true
apart_more [] g h k = refl
apart_more (f ∷ fs) g h k =
    let p = no_name_there g.name f.name (position_of g.name (map name_in fs)) k in
    let q = and_parts (not (has_name f.name fs)) (names_differ fs) h in
    and_from (not (has_name f.name (fs ++ g ∷ []))) (names_differ (fs ++ g ∷ []))
    (ap not (has_append f.name fs g (not_true (has_name f.name fs) q.0) (other_name g.name f.name p.0)))
    (apart_more fs g q.1 p.1)
  where
    not_true : (b : Bool) → not b ≡ true → b ≡ false
    not_true true e = absurd (true≢false (sym e))
    not_true false e = refl

-- ---- what stands

pub record IsSigned (env : Env) (f : Function) : Type 0 where
  pub first : Signature
  pub found : find_function env f.name ≡ Some first
  pub same : signature_callee first ≡ callee_of f

pub record IsNumbered (bodies : List (List ℕ)) (name : List ℕ) (s : Signature) : Type 0 where
  pub number : s.number ≡ number_or_0 (position_of name bodies)
  pub body : s.body ≡ is_some (position_of name bodies)

pub record Made (bodies : List (List ℕ)) (u : UnitState) : Type 0 where
  pub names : u.defined ≡ map name_in u.functions
  pub apart : names_differ u.functions ≡ true
  pub sizes : (k : ℕ) (size : List ℕ) → slice_get u.sizes k ≡ Some size → is_required (Some size) ≡ true
  pub signed : (k : ℕ) (f : Function) → slice_get u.functions k ≡ Some f → IsSigned u.env f
  pub numbered : (name : List ℕ) (s : Signature) → find_function u.env name ≡ Some s → IsNumbered bodies name s

pub nothing_made : (bodies : List (List ℕ)) → Made bodies empty
nothing_made bodies = record {
  names = refl;
  apart = refl;
  sizes = λ k size e. absurd (true≢false (sym (ap is_some e)));
  signed = λ k f e. absurd (true≢false (sym (ap is_some e)));
  numbered = λ name s e. absurd (true≢false (sym (ap is_some e)));
}

-- no function was declared, and no size given
env_made : (bodies : List (List ℕ)) (u : UnitState) (env : Env) → env.functions ≡ u.env.functions → Made bodies u → Made bodies (with_env env u)
env_made bodies u env e m = record {
  names = m.names;
  apart = m.apart;
  sizes = m.sizes;
  signed = λ k f h.
      let s = m.signed k f h in
      record { first = s.first; found = ap (function_in f.name) e ∙ s.found; same = s.same };
  numbered = λ name s h. m.numbered name s (ap (function_in name) (sym e) ∙ h);
}

constants_made : (cs : List ClType) (bodies : List (List ℕ)) (u : UnitState) (q : Qualified) (ds : List InitDeclor) (after : UnitState) → ConstantsDeclared cs u q ds after → Made bodies u → Made bodies after
constants_made cs bodies _ _ _ _ (none_declared u q) m = m
constants_made cs bodies _ _ _ _ (one_declared u after q d ds env name place ty own t bytes h0 h1 h2) m =
    let n = env_made bodies u env (is_variable_functions cs _ _ _ _ _ _ _ _ _ _ _ _ h0) m in
    constants_made cs bodies _ _ _ _ h2 (record { names = n.names; apart = n.apart; sizes = n.sizes; signed = n.signed; numbered = n.numbered })

size_made : (bodies : List (List ℕ)) (name : List ℕ) (size : Option (List ℕ)) (u : UnitState) → is_required size ≡ true → Made bodies u → Made bodies (and_size name size u)
size_made bodies name None u r m = m
size_made bodies name (Some size) u r m = record {
  names = m.names;
  apart = m.apart;
  sizes = λ k one e. by k one (get_either u.sizes size k one e);
  signed = m.signed;
  numbered = m.numbered;
}
  where
    by : (k : ℕ) (one : List ℕ) → (slice_get u.sizes k ≡ Some one) ⊎ (one ≡ size) → is_required (Some one) ≡ true
    by k one (inl e) = m.sizes k one e
    by k one (inr e) = ap (λ z. is_required (Some z)) e ∙ r

nothing_there : (o : Option ℕ) → is_some o ≡ false → o ≡ None
nothing_there None e = refl
nothing_there (Some i) e = absurd (true≢false e)

function_made : (bodies : List (List ℕ)) (u : UnitState) (f : Function) → is_made f.name u ≡ false → IsSigned u.env f → Made bodies u → Made bodies (and_function f u)
function_made bodies u f new signed m =
    let none : position_of f.name u.defined ≡ None = nothing_there (position_of f.name u.defined) new in
    record {
      names = ap (λ o. if is_some o then u.defined else u.defined ++ f.name ∷ []) none ∙ ap (λ z. z ++ f.name ∷ []) m.names ∙ sym (map_append u.functions f);
      apart = apart_more u.functions f m.apart (ap (position_of f.name) (sym m.names) ∙ none);
      sizes = m.sizes;
      signed = λ k g e. by k g (get_either u.functions f k g e);
      numbered = m.numbered;
    }
  where
    map_append : (fs : List Function) (g : Function) → map name_in (fs ++ g ∷ []) ≡ map name_in fs ++ g.name ∷ []
    map_append [] g = refl
    map_append (h ∷ fs) g = ap (λ z. h.name ∷ z) (map_append fs g)

    by : (k : ℕ) (g : Function) → (slice_get u.functions k ≡ Some g) ⊎ (g ≡ f) → IsSigned u.env g
    by k g (inl e) = m.signed k g e
    by k g (inr e) = subst (IsSigned u.env) (sym e) signed

-- ---- heads

pub record HeadKept (result : Shape) (kernel differ again : Bool) : Type 0 where
  pub plain : (is_array result || is_pointer result) ≡ false
  pub void : (kernel && not (is_void result)) ≡ false
  pub same : differ ≡ false
  pub new : again ≡ false

pub head_kept : (u : UnitState) (typed behind : Env) (kernel body : Bool) (name : List ℕ) (q : Qualified) (vars : List Variable) → first_broken (function_tests u typed behind kernel body name q vars) ≡ None → HeadKept q.shape kernel (differs (find_function behind name) (types_of vars) q.ty kernel) (body && is_made name u)
head_kept u typed behind kernel body name q vars h =
    let b5 = differs (find_function behind name) (types_of vars) q.ty kernel || (body && is_made name u) in
    let t4 : List (ℕ × Bool) = (332, b5) ∷ [] in
    let b4 = kernel && not (is_void q.shape) in
    let t3 : List (ℕ × Bool) = (327, b4) ∷ t4 in
    let t2 : List (ℕ × Bool) = (326, is_some q.space) ∷ t3 in
    let b2 = is_array q.shape || is_pointer q.shape in
    let t1 : List (ℕ × Bool) = (303, b2) ∷ t2 in
    let h1 = tests_kept (302, is_declared typed name) t1 h in
    let h2 = tests_kept (303, b2) t2 h1 in
    let h3 = tests_kept (326, is_some q.space) t3 h2 in
    let h4 = tests_kept (327, b4) t4 h3 in
    let last = or_both (differs (find_function behind name) (types_of vars) q.ty kernel) (body && is_made name u) (test_kept (332, b5) [] h4) in
    record { plain = test_kept (303, b2) t2 h1; void = test_kept (327, b4) t4 h3; same = last.0; new = last.1 }
  where
    or_both : (a b : Bool) → (a || b) ≡ false → (a ≡ false) × (b ≡ false)
    or_both true b h = absurd (true≢false h)
    or_both false b h = (refl, h)

one_number : (t u : TypeId) → same_type t u ≡ true → t ≡ u
one_number t u h = let e : t.0 ≡ u.0 = eqb-true t.0 u.0 h in λ i. record { 0 = e i }

types_equal : (ts us : List TypeId) → same_types ts us ≡ true → ts ≡ us
types_equal [] [] h = refl
types_equal [] (u ∷ us) h = absurd (true≢false (sym h))
types_equal (t ∷ ts) [] h = absurd (true≢false (sym h))
types_equal (t ∷ ts) (u ∷ us) h =
    let p = and_parts (same_type t u) (same_types ts us) h in
    λ i. one_number t u p.0 i ∷ types_equal ts us p.1 i

alike_equal : (a b : Bool) → alike a b ≡ true → a ≡ b
alike_equal true b h = sym h
alike_equal false true h = absurd (true≢false (sym h))
alike_equal false false h = refl

-- one that was declared before has the same types
same_callee : (s : Signature) (params : List TypeId) (result : TypeId) (kernel : Bool) → differs (Some s) params result kernel ≡ false → signature_callee s ≡ record { params = params; result = result; kernel = kernel }
same_callee s params result kernel h =
    let all = not-false (same_types s.params params && same_type s.result result && alike s.kernel kernel) h in
    let p = and_parts (same_types s.params params && same_type s.result result) (alike s.kernel kernel) all in
    let q = and_parts (same_types s.params params) (same_type s.result result) p.0 in
    λ i. record { params = types_equal s.params params q.0 i; result = one_number s.result result q.1 i; kernel = alike_equal s.kernel kernel p.1 i }

module _ (cs : List ClType) (bodies : List (List ℕ)) where
  module _ (u : UnitState) (words : List FWord) (spec : Spec) (name : List ℕ) (params : List Param) (body : Bool) (typed inner : Env) (q : Qualified) (vars : List Variable) (size : Option (List ℕ)) (h : IsHead cs bodies u words spec name params body typed inner q vars size) where
    head_made : (env : Env) → env.functions ≡ inner.functions → Made bodies u → Made bodies (with_env env u)
    head_made env e m = record {
      names = m.names;
      apart = m.apart;
      sizes = m.sizes;
      signed = λ k f g.
          let s = m.signed k f g in
          record { first = s.first; found = ap (function_in f.name) e ∙ head_persists cs bodies u words spec name params body typed inner q vars size h f.name s.first s.found; same = s.same };
      numbered = λ text s g. by text s (declared_among (signature bodies name (types_of vars) q.ty (is_kernel words)) h.behind text s (ap (λ z. find_function z text) (sym h.scope) ∙ ap (function_in text) (sym e) ∙ g));
    }
      where
        by : (text : List ℕ) (s : Signature) → (find_function h.behind text ≡ Some s) ⊎ ((s ≡ signature bodies name (types_of vars) q.ty (is_kernel words)) × (text ≡ name)) → IsNumbered bodies text s
        by text s (inl g) = m.numbered text s (ap (function_in text) (sym (head_functions cs bodies u words spec name params body typed inner q vars size h)) ∙ g)
        by text s (inr g) = record {
          number = ap (λ z. z.number) g.0 ∙ ap (λ z. number_or_0 (position_of z bodies)) (sym g.1);
          body = ap (λ z. z.body) g.0 ∙ ap (λ z. is_some (position_of z bodies)) (sym g.1);
        }

    -- the function of a head is as its name was declared first
    head_callee : (s : Signature) → find_function inner name ≡ Some s → signature_callee s ≡ record { params = types_of vars; result = q.ty; kernel = is_kernel words }
    head_callee s e = by (declared_found (signature bodies name (types_of vars) q.ty (is_kernel words)) h.behind) (ap (λ z. find_function z name) (sym h.scope) ∙ e) (head_kept u typed h.behind (is_kernel words) body name q vars h.fits).same
      where
        by : ((find_function h.behind name ≡ None) × (find_function (declared_function (signature bodies name (types_of vars) q.ty (is_kernel words)) h.behind) name ≡ Some (signature bodies name (types_of vars) q.ty (is_kernel words)))) ⊎ ((own : Signature) × (find_function h.behind name ≡ Some own) × (find_function (declared_function (signature bodies name (types_of vars) q.ty (is_kernel words)) h.behind) name ≡ Some own)) → find_function (declared_function (signature bodies name (types_of vars) q.ty (is_kernel words)) h.behind) name ≡ Some s → differs (find_function h.behind name) (types_of vars) q.ty (is_kernel words) ≡ false → signature_callee s ≡ record { params = types_of vars; result = q.ty; kernel = is_kernel words }
        by (inl g) e d = let k : s ≡ signature bodies name (types_of vars) q.ty (is_kernel words) = some_equal s (signature bodies name (types_of vars) q.ty (is_kernel words)) (sym e ∙ g.1) in ap signature_callee k
        by (inr g) e d =
            let k : s ≡ g.0 = some_equal s g.0 (sym e ∙ g.2) in
            ap signature_callee k ∙ same_callee g.0 (types_of vars) q.ty (is_kernel words) (ap (λ o. differs o (types_of vars) q.ty (is_kernel words)) (sym g.1) ∙ d)

    head_found : (s : Signature) × (find_function inner name ≡ Some s)
    head_found = by (declared_found (signature bodies name (types_of vars) q.ty (is_kernel words)) h.behind)
      where
        by : ((find_function h.behind name ≡ None) × (find_function (declared_function (signature bodies name (types_of vars) q.ty (is_kernel words)) h.behind) name ≡ Some (signature bodies name (types_of vars) q.ty (is_kernel words)))) ⊎ ((own : Signature) × (find_function h.behind name ≡ Some own) × (find_function (declared_function (signature bodies name (types_of vars) q.ty (is_kernel words)) h.behind) name ≡ Some own)) → (s : Signature) × (find_function inner name ≡ Some s)
        by (inl g) = (signature bodies name (types_of vars) q.ty (is_kernel words), ap (λ z. find_function z name) h.scope ∙ g.1)
        by (inr g) = (g.0, ap (λ z. find_function z name) h.scope ∙ g.2)

  -- ---- externals

  pub external_made : (u : UnitState) (e : External) (after : UnitState) → ExternalIs cs bodies u e after → Made bodies u → Made bodies after
  external_made _ _ _ (typedef u spec d typed env q star name place es ls t h0 h1 h2 h3 h4) m =
      env_made bodies u _ (are_lengths_functions cs _ _ _ _ _ h2 ∙ is_specified_functions cs _ _ _ _ h0) m
  external_made _ _ _ (types u spec env q h0) m = env_made bodies u env (is_specified_functions cs _ _ _ _ h0) m
  external_made _ _ _ (constants u after spec items env q h0 h1) m = constants_made cs bodies _ _ _ _ h1 (env_made bodies u env (is_specified_functions cs _ _ _ _ h0) m)
  external_made _ _ _ (declared u words spec name place params typed inner q vars size h0) m =
      size_made bodies name size (with_env (left_behind typed inner) u) (sizes_required cs _ _ _ _ _ h0.sizes)
      (head_made u words.items spec name params.items false typed inner q vars size h0 (left_behind typed inner) refl m)
  external_made _ _ _ (defined u words spec name place params b typed inner q vars size items after ts t f h0 h1 h2 h3 h4) m =
      let go = items_go cs _ _ _ _ _ h2 in
      let env = left_behind typed after.env in
      let w = with_env env u in
      let n = size_made bodies name size w (sizes_required cs _ _ _ _ _ h0.sizes) (head_made u words.items spec name params.items true typed inner q vars size h0 env go.functions m) in
      let first = head_found u words.items spec name params.items true typed inner q vars size h0 in
      let called : f.name ≡ name = ap name_in h4 in
      let signed : IsSigned env f = record {
        first = first.0;
        found = ap (function_in f.name) go.functions ∙ ap (λ z. find_function inner z) called ∙ first.1;
        same = head_callee u words.items spec name params.items true typed inner q vars size h0 first.0 first.1 ∙ ap callee_of (sym h4);
      } in
      let kept = head_kept u typed h0.behind (is_kernel words.items) true name q vars h0.fits in
      sized name size w f (ap (λ z. is_made z u) called ∙ kept.new) signed n
    where
      sized : (name : List ℕ) (size : Option (List ℕ)) (w : UnitState) (f : Function) → is_made f.name w ≡ false → IsSigned w.env f → Made bodies (and_size name size w) → Made bodies (and_function f (and_size name size w))
      sized name None w f new signed n = function_made bodies w f new signed n
      sized name (Some size) w f new signed n = function_made bodies (and_size name (Some size) w) f new signed n

  pub unit_made : (u : UnitState) (es : List External) (after : UnitState) → UnitIs cs bodies u es after → Made bodies u → Made bodies after
  unit_made _ _ _ (no_external u) m = m
  unit_made _ _ _ (more_externals u middle after e es h0 h1) m = unit_made _ _ _ h1 (external_made _ _ _ h0 m)

  -- ---- the bodies of a unit are its functions

  sized_defined : (name : List ℕ) (size : Option (List ℕ)) (u : UnitState) → (and_size name size u).defined ≡ u.defined
  sized_defined name None u = refl
  sized_defined name (Some size) u = refl

  constants_defined : (u : UnitState) (q : Qualified) (ds : List InitDeclor) (after : UnitState) → ConstantsDeclared cs u q ds after → after.defined ≡ u.defined
  constants_defined _ _ _ _ (none_declared u q) = refl
  constants_defined _ _ _ _ (one_declared u after q d ds env name place ty own t bytes h0 h1 h2) = constants_defined _ _ _ _ h2

  external_defined : (u : UnitState) (e : External) (after : UnitState) → ExternalIs cs bodies u e after → after.defined ≡ with_body e u.defined
  external_defined _ _ _ (typedef u spec d typed env q star name place es ls t h0 h1 h2 h3 h4) = refl
  external_defined _ _ _ (types u spec env q h0) = refl
  external_defined _ _ _ (constants u after spec items env q h0 h1) = constants_defined _ _ _ _ h1
  external_defined _ _ _ (declared u words spec name place params typed inner q vars size h0) = sized_defined name size (with_env (left_behind typed inner) u)
  external_defined _ _ _ (defined u words spec name place params b typed inner q vars size items after ts t f h0 h1 h2 h3 h4) =
      (λ i. and_name (ap name_in h4 i) (sized_defined name size (with_env (left_behind typed after.env) u) i))

  pub unit_defined : (u : UnitState) (es : List External) (after : UnitState) → UnitIs cs bodies u es after → after.defined ≡ bodies_behind u.defined es
  unit_defined _ _ _ (no_external u) = refl
  unit_defined _ _ _ (more_externals u middle after e es h0 h1) = unit_defined _ _ _ h1 ∙ ap (λ z. bodies_behind z es) (external_defined _ _ _ h0)
