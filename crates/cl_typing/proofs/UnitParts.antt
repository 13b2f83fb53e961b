-- What the tests of a unit say of its typed tree: parameters, results, required sizes, names of functions, and a kernel.
use Rattle.std.proofs.Common.{◌≡◌, ℕ, ◌≤◌, nat_eq, Bool, true, false, true≢false, not, ◌&&◌, ◌||◌, if◌then◌else◌, List, [], ◌∷◌, ◌++◌, length, map, Option, Some, None, refl, sym, ap, ◌∙◌, subst, arith, slice_get}
use Rattle.std.specs.Prelude.{is_some}
use Rattle.std.proofs.lemmas.Bool.{and_from, not-false, or_parts, eqb-false, eq-eqb}
use Rattle.std.proofs.lemmas.List.{length-append}
use Rattle.cl_types.specs.declared.types.ClType.{ClType}
use Rattle.cl_types.specs.declared.types.TypeId.{TypeId}
use Rattle.cl_types.specs.declared.space.Space.TheVariants as space
use Rattle.cl_ast.specs.declared.declaration.FWord.{FWord}
use Rattle.cl_ast.specs.declared.declaration.Param.{Param}
use Rattle.cl_ast.specs.declared.expression.Expr.{Expr}
use Rattle.cl_ast.specs.declared.expression.Qual.{Qual}
use Rattle.cl_tree.specs.declared.shape.Shape.{Shape}
use Rattle.cl_tree.specs.declared.unit.Function.{Function}
use Rattle.cl_tree.specs.declared.unit.Variable.{Variable}
use Rattle.cl_tree.specs.Constants.{number_of, positive_in, is_negative, known_of}
use Rattle.cl_tree.specs.Facts.{Lists, when, place, named}
use Rattle.cl_tree.specs.Shapes.{shape_of, same_type, is_void, is_array, is_pointer}
use Rattle.cl_tree.specs.Units.{has_kernel, is_required, is_kernel_param, is_param, are_params, is_result}
use Rattle.cl_rules.specs.declared.rule.Qualified.{Qualified}
use Rattle.cl_rules.specs.Calls.{pointer_to}
use Rattle.cl_rules.specs.Operands.{first_broken}
use Rattle.cl_scope.specs.declared.scope.Declared.{Declared}
use Rattle.cl_scope.specs.declared.scope.DeclaredKind.TheVariants as kind
use Rattle.cl_scope.specs.Names.{Env, declare, newest, find, is_called}
use Rattle.cl_words.specs.declared.naming.Sketch.{Sketch}
use Rattle.cl_words.specs.Words.{sketch, no_declared_type, has_restrict}
use Rattle.cl_make.specs.Ready.{IsReadyType}
use Rattle.cl_make.specs.Wanted.{IsDeclaredAs, IsArrayOf, no_array}
use Rattle.cl_laws.specs.Agreement.{StandsAs, Agrees}
use Rattle.cl_laws.proofs.Fitted.{test_kept, tests_kept}
use Rattle.cl_laws.proofs.SameTypes.{shape_wanted, number_wanted}
use Rattle.cl_typing.specs.Units.{is_size, size_of, has_space, has_star, is_again, param_of, param_named, param_tests, with_size_in, ConstantsAre, no_constant, more_constants, SizesAre, no_word, other_word, required, ParamsAre, no_param, more_params}
use Rattle.cl_typing.proofs.StatementsFit.{ExpressionsFit}
use Rattle.cl_typing.proofs.StatementsGo.{get_before, get_here}

-- ---- a kernel

pub has_kernel_sized : (sized sizes : List (List ℕ)) (fs : List Function) → has_kernel (map (with_size_in sized sizes) fs) ≡ has_kernel fs
has_kernel_sized sized sizes [] = refl
has_kernel_sized sized sizes (f ∷ fs) = ap (λ b. f.kernel || b) (has_kernel_sized sized sizes fs)

-- ---- required sizes

abbrev AllPositive : List (Option ℕ) → Type 0
AllPositive [] = Unit {0}
AllPositive (None ∷ ns) = AllPositive ns
AllPositive (Some n ∷ ns) = (nat_eq n 0 ≡ false) × AllPositive ns

positive_some : (s : Shape) (o : Option ℕ) (n : ℕ) → positive_in s o ≡ Some n → nat_eq n 0 ≡ false
positive_some s None n e = absurd (true≢false (sym (ap is_some e)))
positive_some s (Some m) n e = by (nat_eq m 0) (is_negative s m) refl e
  where
    by : (a b : Bool) → nat_eq m 0 ≡ a → (if a || b then None else Some m) ≡ Some n → nat_eq n 0 ≡ false
    by true b h e = absurd (true≢false (sym (ap is_some e)))
    by false true h e = absurd (true≢false (sym (ap is_some e)))
    by false false h e = let same : m ≡ n = cc in ap (λ k. nat_eq k 0) (sym same) ∙ h

constants_above : (cs : List ClType) (env : Env) (es : List Expr) (after : Env) (ns : List (Option ℕ)) → ConstantsAre cs env es after ns → AllPositive ns
constants_above cs _ _ _ _ (no_constant env) = tt
constants_above cs _ _ _ _ (more_constants env middle after e es t o n ns h0 h1 h2 h3) =
    first n ns (λ m k. positive_some (shape_of cs (known_of t cs).ty) (number_of cs t) m (h2 ∙ k)) (constants_above cs _ _ _ _ h3)
  where
    first : (n : Option ℕ) (ns : List (Option ℕ)) → ((m : ℕ) → n ≡ Some m → nat_eq m 0 ≡ false) → AllPositive ns → AllPositive (n ∷ ns)
    first None ns h k = k
    first (Some m) ns h k = (h m refl, k)

size_required : (ns : List (Option ℕ)) → is_size ns ≡ true → AllPositive ns → is_required (Some (size_of ns)) ≡ true
size_required [] h a = absurd (true≢false (sym h))
size_required (None ∷ ns) h a = absurd (true≢false (sym h))
size_required (Some x ∷ []) h a = absurd (true≢false (sym h))
size_required (Some x ∷ None ∷ ns) h a = absurd (true≢false (sym h))
size_required (Some x ∷ Some y ∷ []) h a = absurd (true≢false (sym h))
size_required (Some x ∷ Some y ∷ None ∷ ns) h a = absurd (true≢false (sym h))
size_required (Some x ∷ Some y ∷ Some z ∷ []) h a = λ i. not (a.0 i || a.1.0 i || a.1.1.0 i) && h i
size_required (Some x ∷ Some y ∷ Some z ∷ n ∷ ns) h a = absurd (true≢false (sym h))

kept_size : (given b : Bool) → first_broken ((328, given || not b) ∷ []) ≡ None → b ≡ true
kept_size given b h = not-false b (or_parts given (not b) (test_kept (328, given || not b) [] h)).1

pub sizes_required : (cs : List ClType) (env : Env) (given : Bool) (ws : List FWord) (after : Env) (size : Option (List ℕ)) → SizesAre cs env given ws after size → is_required size ≡ true
sizes_required cs _ _ _ _ _ (no_word env given) = refl
sizes_required cs _ _ _ _ _ (other_word env after given w ws size plain rest) = sizes_required cs _ _ _ _ _ rest
sizes_required cs _ _ _ _ _ (required env middle after given place args ws ns has fits rest) = size_required ns (kept_size given (is_size ns) fits) (constants_above cs _ _ _ _ has)

-- ---- declarations

called_some : (tag : Bool) (name : List ℕ) (d : Declared) (ds : List Declared) (e : Declared) → newest tag name (d ∷ ds) ≡ Some e → (is_called tag name d ≡ true → d ≡ e) × (is_called tag name d ≡ false → newest tag name ds ≡ Some e)
called_some tag name d ds e h =
    (λ c. let k : Some d ≡ Some e = sym (ap (λ b. if b then Some d else newest tag name ds) c) ∙ h in cc, λ c. sym (ap (λ b. if b then Some d else newest tag name ds) c) ∙ h)

pub declared_agrees : (l : Lists) (d : Declared) (env : Env) → StandsAs l d d.kind → Agrees l env → Agrees l (declare d env)
declared_agrees l d env s a = record {
  names = λ name e h.
      let c = called_some false name d (env.inner ++ env.outer) e h in
      by name e (is_called false name d) refl c;
  functions = a.functions;
}
  where
    by : (name : List ℕ) (e : Declared) (b : Bool) → is_called false name d ≡ b → (is_called false name d ≡ true → d ≡ e) × (is_called false name d ≡ false → find env name ≡ Some e) → StandsAs l e e.kind
    by name e true h c = subst (λ z. StandsAs l z z.kind) (c.0 h) s
    by name e false h c = a.names name e (c.1 h)

-- ---- types of declared names without lengths

pub plain_shape : (cs : List ClType) (q : Qualified) (star : Option (List Qual)) (n : ℕ) (t : TypeId) → IsReadyType cs q → IsDeclaredAs cs (sketch q star []) n t → shape_of cs t ≡ (sketch q star []).shape
plain_shape cs q None n t r h = by h.elem t h.arrays ∙ ap (shape_of cs) (number_wanted cs q.ty h.elem h.wanted) ∙ sym r.shape
  where
    by : (elem t : TypeId) → IsArrayOf cs elem [] t → shape_of cs t ≡ shape_of cs elem
    by _ _ (no_array t) = refl
plain_shape cs q (Some qs) n t r h = by h.elem t h.arrays ∙ shape_wanted cs (pointer_to q (has_restrict qs)) h.elem h.wanted
  where
    by : (elem t : TypeId) → IsArrayOf cs elem [] t → shape_of cs t ≡ shape_of cs elem
    by _ _ (no_array t) = refl

-- ---- parameters

record ParamKept (kernel : Bool) (k : Sketch) (before : ℕ) : Type 0 where
  some : is_void k.shape ≡ false
  plain : is_array k.shape ≡ false
  taken : (kernel && not (is_kernel_param k.shape)) ≡ false
  few : nat_eq before 32 ≡ false

and_or : (a b c : Bool) → (a && (b || c)) ≡ false → (a && b) ≡ false
and_or true b c h = (or_parts b c h).0
and_or false b c h = refl

param_kept : (kernel : Bool) (env : Env) (q : Qualified) (star : Option (List Qual)) (name : Option (List ℕ)) (k : Sketch) (before : ℕ) → first_broken (param_tests kernel env q star name k before) ≡ None → ParamKept kernel k before
param_kept kernel env q star name k before h =
    let t4 : List (ℕ × Bool) = (504, nat_eq before 32) ∷ [] in
    let b3 = kernel && (not (is_kernel_param k.shape) || (q.sized && not (has_star star))) in
    let t3 : List (ℕ × Bool) = (327, b3) ∷ t4 in
    let b2 = k.clash || has_space k.space in
    let t2 : List (ℕ × Bool) = (326, b2) ∷ t3 in
    let b1 = no_declared_type k || is_void k.shape || is_array k.shape in
    let t1 : List (ℕ × Bool) = (303, b1) ∷ t2 in
    let h1 = tests_kept (302, is_again env name) t1 h in
    let h2 = tests_kept (303, b1) t2 h1 in
    let h3 = tests_kept (326, b2) t3 h2 in
    let h4 = tests_kept (327, b3) t4 h3 in
    let p = or_parts (no_declared_type k || is_void k.shape) (is_array k.shape) (test_kept (303, b1) t2 h1) in
    record {
      some = (or_parts (no_declared_type k) (is_void k.shape) p.0).1;
      plain = p.1;
      taken = and_or kernel (not (is_kernel_param k.shape)) (q.sized && not (has_star star)) (test_kept (327, b3) t4 h3);
      few = test_kept (504, nat_eq before 32) [] h4;
    }

one_more : {A : Type 0} (xs : List A) (x : A) → length xs ≤ 32 → nat_eq (length xs) 32 ≡ false → length (xs ++ x ∷ []) ≤ 32
one_more xs x low apart =
    let e = length-append xs (x ∷ []) in
    let n = eqb-false (length xs) 32 apart in
    omega (arith, e, n)

pub params_few : (cs : List ClType) (kernel : Bool) (env : Env) (before : List Variable) (ps : List Param) (after : Env) (all : List Variable) → ParamsAre cs kernel env before ps after all → length before ≤ 32 → length all ≤ 32
params_few cs kernel _ _ _ _ _ (no_param env before) low = low
params_few cs kernel _ _ _ _ _ (more_params env typed after before all p ps q t h0 h1 h2 h3) low =
    params_few cs kernel _ _ _ _ _ h3 (one_more before (param_of p t) low (param_kept kernel typed q p.star p.name (sketch q p.star []) (length before) h1).few)

params_go : (cs : List ClType) (kernel : Bool) (env : Env) (before : List Variable) (ps : List Param) (after : Env) (all : List Variable) → ParamsAre cs kernel env before ps after all → (k : ℕ) (v : Variable) → slice_get before k ≡ Some v → slice_get all k ≡ Some v
params_go cs kernel _ _ _ _ _ (no_param env before) k v e = e
params_go cs kernel _ _ _ _ _ (more_params env typed after before all p ps q t h0 h1 h2 h3) k v e = params_go cs kernel _ _ _ _ _ h3 k v (get_before before (param_of p t ∷ []) k v e)

params_append : (cs : List ClType) (kernel : Bool) (vs : List Variable) (v : Variable) → are_params cs kernel vs ≡ true → is_param cs kernel v ≡ true → are_params cs kernel (vs ++ v ∷ []) ≡ true
params_append cs kernel [] v h k = and_from (is_param cs kernel v) true k refl
params_append cs kernel (u ∷ vs) v h k = by (is_param cs kernel u) (are_params cs kernel vs) h (λ r. params_append cs kernel vs v r k)
  where
    by : (a b : Bool) {c : Bool} → (a && b) ≡ true → (b ≡ true → c ≡ true) → (a && c) ≡ true
    by true b h k = k h
    by false b h k = absurd (true≢false (sym h))

param_is : (kernel : Bool) (s : Shape) → is_void s ≡ false → is_array s ≡ false → (kernel && not (is_kernel_param s)) ≡ false → (if kernel then is_kernel_param s else not (is_void s || is_array s)) ≡ true
param_is true s v a k = not-false (is_kernel_param s) k
param_is false s v a k = λ i. not (v i || a i)

same_itself : (t : TypeId) → same_type t t ≡ true
same_itself t = eq-eqb t.0 t.0 refl

pub record ParamsFit (l : Lists) (kernel : Bool) (before all : List Variable) (after : Env) : Type 0 where
  pub agrees : Agrees l after
  pub params : are_params l.types kernel before ≡ true → are_params l.types kernel all ≡ true

module _ (l : Lists) (parts : ExpressionsFit l) (kernel : Bool) where
  named_agrees : (name : Option (List ℕ)) (p : Param) (t : TypeId) (k : Sketch) (n : ℕ) (env : Env) → slice_get l.params n ≡ Some (param_of p t) → Agrees l env → Agrees l (param_named name t k n env)
  named_agrees None p t k n env e a = a
  named_agrees (Some name) p t k n env e a =
      declared_agrees l (record { name = name; ty = t; space = space.Private; readonly = k.readonly; kind = kind.Param n; complete = true }) env
      (ap (named t) e ∙ ap (λ b. when b (place t space.Private)) (same_itself t)) a

  pub params_fit : (env : Env) (before : List Variable) (ps : List Param) (after : Env) (all : List Variable) → ParamsAre l.types kernel env before ps after all → l.params ≡ all → Agrees l env → ParamsFit l kernel before all after
  params_fit _ _ _ _ _ (no_param env before) same a = record { agrees = a; params = λ h. h }
  params_fit _ _ _ _ _ (more_params env typed after before all p ps q t h0 h1 h2 h3) same a =
      let r = parts.specified _ _ _ _ h0 a in
      let k : Sketch = sketch q p.star [] in
      let v = param_of p t in
      let at : slice_get l.params (length before) ≡ Some v = ap (λ z. slice_get z (length before)) same ∙ params_go l.types kernel _ _ _ _ _ h3 (length before) v (get_here before v) in
      let i = params_fit _ _ _ _ _ h3 same (named_agrees p.name p t k (length before) typed at r.0) in
      let kept = param_kept kernel typed q p.star p.name k (length before) h1 in
      let s : shape_of l.types t ≡ k.shape = plain_shape l.types q p.star 1 t r.1 h2 in
      let one : is_param l.types kernel v ≡ true = subst (λ z. (if kernel then is_kernel_param z else not (is_void z || is_array z)) ≡ true) (sym s) (param_is kernel k.shape kept.some kept.plain kept.taken) in
      record { agrees = i.agrees; params = λ h. i.params (params_append l.types kernel before v h one) }

-- ---- results

pub result_is : (kernel : Bool) (s : Shape) → (is_array s || is_pointer s) ≡ false → (kernel && not (is_void s)) ≡ false → is_result kernel s ≡ true
result_is true s p k = not-false (is_void s) k
result_is false s p k = ap not p
