-- What stands at file scope stays: the first declaration of a function, and the constants.
use Rattle.std.proofs.Common.{◌≡◌, ℕ, Bool, true, false, true≢false, if◌then◌else◌, List, [], ◌∷◌, ◌++◌, Option, Some, None, refl, sym, ap, ◌∙◌, ◌⊎◌, inl, inr, slice_get}
use Rattle.std.specs.Prelude.{bytes_eq, is_some}
use Rattle.std.proofs.lemmas.Slice.Eq.{bytes_eq-Decides}
use Rattle.cl_types.specs.declared.types.ClType.{ClType}
use Rattle.cl_ast.specs.declared.declaration.External.{External}
use Rattle.cl_ast.specs.declared.declaration.FWord.{FWord}
use Rattle.cl_ast.specs.declared.declaration.InitDeclor.{InitDeclor}
use Rattle.cl_ast.specs.declared.declaration.Param.{Param}
use Rattle.cl_ast.specs.declared.expression.Spec.{Spec}
use Rattle.cl_tree.specs.declared.unit.ConstantVar.{ConstantVar}
use Rattle.cl_tree.specs.declared.unit.Variable.{Variable}
use Rattle.cl_tree.specs.Units.{types_of}
use Rattle.cl_rules.specs.declared.rule.Qualified.{Qualified}
use Rattle.cl_scope.specs.declared.scope.Signature.{Signature}
use Rattle.cl_scope.specs.Names.{Env, declared_function, function_in, find_function, and_function, left_behind}
use Rattle.cl_typing.specs.declared.unit_state.UnitState.{UnitState}
use Rattle.cl_typing.specs.Units.{with_env, and_size, and_constant, constant_of, is_kernel, signature, IsHead, ConstantsDeclared, none_declared, one_declared, ExternalIs, typedef, types, constants, declared, defined, UnitIs, no_external, more_externals}
use Rattle.cl_typing.proofs.FunctionsKept.{is_specified_functions, are_lengths_functions, is_variable_functions}
use Rattle.cl_typing.proofs.HeadsKept.{sizes_are_functions, params_are_functions}
use Rattle.cl_typing.proofs.StatementsGo.{get_before, items_go}

-- ---- functions

abbrev pub Persists : Env → Env → Type 0
Persists a b = (name : List ℕ) (s : Signature) → find_function a name ≡ Some s → find_function b name ≡ Some s

pub same_functions : (a b : Env) → b.functions ≡ a.functions → Persists a b
same_functions a b e = λ name s h. ap (function_in name) e ∙ h

function_before : (name : List ℕ) (ss : List Signature) (t s : Signature) → function_in name ss ≡ Some s → function_in name (ss ++ t ∷ []) ≡ Some s
function_before name [] t s h = absurd (true≢false (sym (ap is_some h)))
function_before name (u ∷ ss) t s h = by (bytes_eq name u.name) h (λ k. function_before name ss t s k)
  where
    by : (b : Bool) {o : Option Signature} → (if b then Some u else function_in name ss) ≡ Some s → (function_in name ss ≡ Some s → o ≡ Some s) → (if b then Some u else o) ≡ Some s
    by true h k = h
    by false h k = k h

function_last : (name : List ℕ) (ss : List Signature) (t : Signature) → function_in name ss ≡ None → bytes_eq name t.name ≡ true → function_in name (ss ++ t ∷ []) ≡ Some t
function_last name [] t h k = ap (λ b. if b then Some t else None) k
function_last name (u ∷ ss) t h k = by (bytes_eq name u.name) h (λ e. function_last name ss t e k)
  where
    by : (b : Bool) {o : Option Signature} → (if b then Some u else function_in name ss) ≡ None → (function_in name ss ≡ None → o ≡ Some t) → (if b then Some u else o) ≡ Some t
    by true h k = absurd (true≢false (ap is_some h))
    by false h k = k h

-- a name's function in longer lists is one of the shorter list, or the last
pub function_among : (name : List ℕ) (ss : List Signature) (t s : Signature) → function_in name (ss ++ t ∷ []) ≡ Some s → (function_in name ss ≡ Some s) ⊎ ((s ≡ t) × (name ≡ t.name))
function_among name [] t s h = by (bytes_eq name t.name) refl h
  where
    by : (b : Bool) → bytes_eq name t.name ≡ b → (if b then Some t else None) ≡ Some s → (None ≡ Some s) ⊎ ((s ≡ t) × (name ≡ t.name))
    by true e h = inr ((let k : Some t ≡ Some s = h in cc), (bytes_eq-Decides name t.name).0 e)
    by false e h = inl h
function_among name (u ∷ ss) t s h = by (bytes_eq name u.name) h (λ k. function_among name ss t s k)
  where
    by : (b : Bool) {o : Option Signature} → (if b then Some u else o) ≡ Some s → (o ≡ Some s → (function_in name ss ≡ Some s) ⊎ ((s ≡ t) × (name ≡ t.name))) → ((if b then Some u else function_in name ss) ≡ Some s) ⊎ ((s ≡ t) × (name ≡ t.name))
    by true h k = inl h
    by false h k = k h

pub declared_persists : (s : Signature) (env : Env) → Persists env (declared_function s env)
declared_persists s env = λ name t h. by (find_function env s.name) name t h
  where
    by : (o : Option Signature) (name : List ℕ) (t : Signature) → find_function env name ≡ Some t → function_in name (and_function o s env.functions) ≡ Some t
    by None name t h = function_before name env.functions s t h
    by (Some own) name t h = h

-- the function that a head declares is found behind it: the first declaration of its name
pub declared_found : (s : Signature) (env : Env) → ((find_function env s.name ≡ None) × (find_function (declared_function s env) s.name ≡ Some s)) ⊎ ((own : Signature) × (find_function env s.name ≡ Some own) × (find_function (declared_function s env) s.name ≡ Some own))
declared_found s env = by (find_function env s.name) refl
  where
    by : (o : Option Signature) → find_function env s.name ≡ o → ((find_function env s.name ≡ None) × (find_function (declared_function s env) s.name ≡ Some s)) ⊎ ((own : Signature) × (find_function env s.name ≡ Some own) × (find_function (declared_function s env) s.name ≡ Some own))
    by None e = inl (e, ap (λ o. function_in s.name (and_function o s env.functions)) e ∙ function_last s.name env.functions s e ((bytes_eq-Decides s.name s.name).1 refl))
    by (Some own) e = inr (own, e, ap (λ o. function_in s.name (and_function o s env.functions)) e ∙ e)

pub declared_among : (t : Signature) (env : Env) (name : List ℕ) (s : Signature) → find_function (declared_function t env) name ≡ Some s → (find_function env name ≡ Some s) ⊎ ((s ≡ t) × (name ≡ t.name))
declared_among t env name s h = by (find_function env t.name) h
  where
    by : (o : Option Signature) → function_in name (and_function o t env.functions) ≡ Some s → (find_function env name ≡ Some s) ⊎ ((s ≡ t) × (name ≡ t.name))
    by None h = function_among name env.functions t s h
    by (Some own) h = inl h

-- ---- externals

pub record UnitGoes (u after : UnitState) : Type 0 where
  pub persists : Persists u.env after.env
  pub constants : (k : ℕ) (c : ConstantVar) → slice_get u.constants k ≡ Some c → slice_get after.constants k ≡ Some c

here : (u : UnitState) → UnitGoes u u
here u = record { persists = λ name s h. h; constants = λ k c e. e }

on : (a b c : UnitState) → UnitGoes a b → UnitGoes b c → UnitGoes a c
on a b c g h = record { persists = λ name s e. h.persists name s (g.persists name s e); constants = λ k x e. h.constants k x (g.constants k x e) }

pub sized_goes : (name : List ℕ) (size : Option (List ℕ)) (u v : UnitState) → UnitGoes u v → UnitGoes u (and_size name size v)
sized_goes name None u v g = g
sized_goes name (Some size) u v g = record { persists = g.persists; constants = g.constants }

module _ (cs : List ClType) (bodies : List (List ℕ)) where
  pub constants_go : (u : UnitState) (q : Qualified) (ds : List InitDeclor) (after : UnitState) → ConstantsDeclared cs u q ds after → UnitGoes u after
  constants_go _ _ _ _ (none_declared u q) = here u
  constants_go _ _ _ _ (one_declared u after q d ds env name place ty own t bytes h0 h1 h2) =
      let c = constant_of name ty own place bytes in
      on u (and_constant env c u) after
      (record { persists = same_functions u.env env (is_variable_functions cs _ _ _ _ _ _ _ _ _ _ _ _ h0); constants = λ k x e. get_before u.constants (c ∷ []) k x e })
      (constants_go _ _ _ _ h2)

  -- the functions behind the head's parameters are those before it
  pub head_functions : (u : UnitState) (words : List FWord) (spec : Spec) (name : List ℕ) (params : List Param) (body : Bool) (typed inner : Env) (q : Qualified) (vars : List Variable) (size : Option (List ℕ)) (h : IsHead cs bodies u words spec name params body typed inner q vars size) → h.behind.functions ≡ u.env.functions
  head_functions u words spec name params body typed inner q vars size h =
      params_are_functions cs (is_kernel words) _ _ _ _ _ h.takes ∙ is_specified_functions cs _ _ _ _ h.result ∙ sizes_are_functions cs _ _ _ _ _ h.sizes

  pub head_persists : (u : UnitState) (words : List FWord) (spec : Spec) (name : List ℕ) (params : List Param) (body : Bool) (typed inner : Env) (q : Qualified) (vars : List Variable) (size : Option (List ℕ)) → IsHead cs bodies u words spec name params body typed inner q vars size → Persists u.env inner
  head_persists u words spec name params body typed inner q vars size h = λ text s e.
      ap (λ z. find_function z text) h.scope ∙
      declared_persists (signature bodies name (types_of vars) q.ty (is_kernel words)) h.behind text s (same_functions u.env h.behind (head_functions u words spec name params body typed inner q vars size h) text s e)

  pub external_goes : (u : UnitState) (e : External) (after : UnitState) → ExternalIs cs bodies u e after → UnitGoes u after
  external_goes _ _ _ (typedef u spec d typed env q star name place es ls t h0 h1 h2 h3 h4) =
      record { persists = same_functions u.env env (are_lengths_functions cs _ _ _ _ _ h2 ∙ is_specified_functions cs _ _ _ _ h0); constants = λ k c e. e }
  external_goes _ _ _ (types u spec env q h0) = record { persists = same_functions u.env env (is_specified_functions cs _ _ _ _ h0); constants = λ k c e. e }
  external_goes _ _ _ (constants u after spec items env q h0 h1) =
      on u (with_env env u) after (record { persists = same_functions u.env env (is_specified_functions cs _ _ _ _ h0); constants = λ k c e. e }) (constants_go _ _ _ _ h1)
  external_goes _ _ _ (declared u words spec name place params typed inner q vars size h0) =
      sized_goes name size u _ (record { persists = head_persists u words.items spec name params.items false typed inner q vars size h0; constants = λ k c e. e })
  external_goes _ _ _ (defined u words spec name place params b typed inner q vars size items after ts t f h0 h1 h2 h3 h4) =
      let g = items_go cs _ _ _ _ _ h2 in
      let p = head_persists u words.items spec name params.items true typed inner q vars size h0 in
      let s = sized_goes name size u (with_env (left_behind typed after.env) u) (record { persists = λ text s e. same_functions inner after.env g.functions text s (p text s e); constants = λ k c e. e }) in
      record { persists = s.persists; constants = s.constants }

  pub unit_goes : (u : UnitState) (es : List External) (after : UnitState) → UnitIs cs bodies u es after → UnitGoes u after
  unit_goes _ _ _ (no_external u) = here u
  unit_goes _ _ _ (more_externals u middle after e es h0 h1) = on u middle after (external_goes _ _ _ h0) (unit_goes _ _ _ h1)
