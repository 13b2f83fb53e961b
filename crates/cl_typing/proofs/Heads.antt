-- Heads of functions.
use Rattle.std.proofs.Common.{◌≡◌, ℕ, zero, suc, ◌+◌, ◌<◌, Bool, true, false, ◌&&◌, List, [], ◌∷◌, ◌++◌, length, take, get_or, Option, Some, None, is_some, refl, sym, ap, ◌∙◌, subst, arith, add-one}
use Rattle.clv_place.specs.declared.place.Place.{Place}
use Rattle.clv_place.specs.declared.stop.Stop.{Stop}
use Rattle.clv_place.specs.declared.stop.Stop.TheVariants.{Out, NoMemory}
use Rattle.cl_types.specs.declared.types.ClType.{ClType}
use Rattle.cl_types.specs.declared.types.TypeId.{TypeId}
use Rattle.cl_builtins.specs.Found.{IsGrown, IsKnown, AreKnown}
use Rattle.cl_builtins.proofs.Growth.{grown_twice, grown_known}
use Rattle.cl_ast.specs.declared.declaration.FWord.{FWord}
use Rattle.cl_ast.specs.declared.declaration.Param.{Param}
use Rattle.cl_ast.specs.declared.expression.Spec.{Spec}
use Rattle.cl_tree.specs.declared.unit.Variable.{Variable}
use Rattle.cl_tree.specs.Shapes.{same_type}
use Rattle.cl_tree.specs.Units.{types_of}
use Rattle.cl_rules.specs.declared.rule.Qualified.{Qualified}
use Rattle.cl_rules.specs.Operands.{first_broken}
use Rattle.cl_scope.specs.declared.scope.Signature.{Signature}
use Rattle.cl_scope.specs.Names.{Env, entered, and_function, declared_function, find_function}
use Rattle.cl_scope.specs.Scopes.{IsKnownEnv, SignaturesKnownIn}
use Rattle.cl_make.proofs.Stays.{env_stays}
use Rattle.cl_type_expr.specs.Offences.{at}
use Rattle.cl_type_expr.specs.Typing.{WordsAre, WordsStop}
use Rattle.cl_typing.specs.declared.head.Head.{Head}
use Rattle.cl_typing.specs.declared.unit_state.UnitState.{UnitState}
use Rattle.cl_typing.specs.UnitAnswers.{SizesAreTyped, SizesStop, ParamsAreTyped, ParamsStop, HeadIs, HeadStops}
use Rattle.cl_typing.specs.Units.{is_kernel, same_types, size_for, signature, function_tests, SizesAre, SizesOffend, ParamsAre, ParamsOffend, IsHead, in_sizes, in_result, in_params, no_function}

-- ---- types of parameters

and_types : (b : Bool) (ts us : List TypeId) → false ≡ same_types ts us → false ≡ (b && same_types ts us)
and_types true ts us e = e
and_types false ts us e = refl

pub unequal : (ts us : List TypeId) → (length ts ≡ length us → ⊥) → false ≡ same_types ts us
unequal [] [] h = absurd (h refl)
unequal [] (u ∷ us) h = refl
unequal (t ∷ ts) [] h = refl
unequal (t ∷ ts) (u ∷ us) h = and_types (same_type t u) ts us (unequal ts us (λ e. h (ap suc e)))

types_suc : (vs : List Variable) (i : ℕ) (v : Variable) → i < length vs → v ≡ get_or vs i v → types_of (take (suc i) vs) ≡ types_of (take i vs) ++ (v.ty ∷ [])
types_suc [] i v low is = absurd (omega arith)
types_suc (w ∷ vs) zero v low is = ap (λ z. z.ty ∷ []) (sym is)
types_suc (w ∷ vs) (suc i) v low is = ap (λ z. w.ty ∷ z) (types_suc vs i v (omega arith) is)

pub types_more : (vs : List Variable) (i : ℕ) (v : Variable) → i < length vs → v ≡ get_or vs i v → types_of (take (i + 1) vs) ≡ types_of (take i vs) ++ (v.ty ∷ [])
types_more vs i v low is = ap (λ n. types_of (take n vs)) (add-one i) ∙ types_suc vs i v low is

-- ---- signatures

signatures_end : (cs : List ClType) (fs : List Signature) (f : Signature) → SignaturesKnownIn cs fs → AreKnown cs f.params → IsKnown cs f.result → SignaturesKnownIn cs (fs ++ f ∷ [])
signatures_end cs [] f h k r = (k, r, tt)
signatures_end cs (g ∷ fs) f h k r = (h.0, h.1, signatures_end cs fs f h.2 k r)

function_known : (cs : List ClType) (f : Signature) (env : Env) → IsKnownEnv cs env → AreKnown cs f.params → IsKnown cs f.result → IsKnownEnv cs (declared_function f env)
function_known cs f env h k r = record { outer = h.outer; inner = h.inner; functions = by (find_function env f.name) }
  where
    by : (o : Option Signature) → SignaturesKnownIn cs (and_function o f env.functions)
    by None = signatures_end cs env.functions f h.functions k r
    by (Some g) = h.functions

-- the tables behind the sizes, behind the words and behind the parameters
module _ (one two three : List ClType) (bodies : List (List ℕ)) (u : UnitState) (ws : List FWord) (spec : Spec) (name : List ℕ) (place : Place) (ps : List Param) (body : Bool) (given : Bool) (g : given ≡ is_some (size_for name u)) where
  pub head_sizes_out : (x : Stop) → SizesStop one u.env given ws x → HeadStops one u ws spec name place ps body x
  head_sizes_out NoMemory h = tt
  head_sizes_out (Out o) h = λ more m. in_sizes o (subst (λ z. SizesOffend more u.env z ws o) g (h more m))

  module _ (sized : Env) (size : Option (List ℕ)) (s : SizesAreTyped one u.env given ws sized size) (v : IsGrown one two) where
    head_sizes : (more : List ClType) → IsGrown two more → SizesAre more u.env (is_some (size_for name u)) ws sized size
    head_sizes more m = subst (λ z. SizesAre more u.env z ws sized size) g (s.sizes more (grown_twice one two more v m))

    pub head_words_out : (x : Stop) → WordsStop two sized spec x → HeadStops two u ws spec name place ps body x
    head_words_out NoMemory h = tt
    head_words_out (Out o) h = λ more m. in_result sized size o (head_sizes more m) (h more m)

    module _ (typed within : Env) (q : Qualified) (w : WordsAre two sized spec typed q) (enters : within ≡ entered typed) (z : IsGrown two three) where
      pub head_params_out : (x : Stop) → ParamsStop three (is_kernel ws) within ps x → HeadStops three u ws spec name place ps body x
      head_params_out NoMemory h = tt
      head_params_out (Out o) h = λ more m. let t = grown_twice two three more z m in
          in_params sized typed size q o (head_sizes more t) (w.words more t) (subst (λ e. ParamsOffend more (is_kernel ws) e [] ps o) enters (h more m))

      module _ (behind : Env) (vars : List Variable) (p : ParamsAreTyped three (is_kernel ws) within ps behind vars) where
        head_takes : (more : List ClType) → IsGrown three more → ParamsAre more (is_kernel ws) (entered typed) [] ps behind vars
        head_takes more m = subst (λ e. ParamsAre more (is_kernel ws) e [] ps behind vars) enters (p.params more m)

        pub head_broken : (code : ℕ) → first_broken (function_tests u typed behind (is_kernel ws) body name q vars) ≡ Some code → HeadStops three u ws spec name place ps body (Out (at code place))
        head_broken code h = λ more m. let t = grown_twice two three more z m in
            no_function sized typed behind size q vars code (head_sizes more t) (w.words more t) (head_takes more m) h

        pub head_typed : (inner : Env) (h : Head) → first_broken (function_tests u typed behind (is_kernel ws) body name q vars) ≡ None → inner ≡ declared_function (signature bodies name (types_of vars) q.ty (is_kernel ws)) behind → h.q ≡ q → h.params ≡ vars → h.size ≡ size → h.mark ≡ length typed.outer → HeadIs three bodies u ws spec name ps body inner h
        head_typed inner h fits scope a b c d =
            let head : (more : List ClType) → IsGrown three more → IsHead more bodies u ws spec name ps body typed inner q vars size = λ more m. let t = grown_twice two three more z m in record {
              sized = sized;
              sizes = head_sizes more t;
              result = w.words more t;
              behind = behind;
              takes = head_takes more m;
              fits = fits;
              scope = scope;
            } in
            let result : IsKnown three q.ty = grown_known two three q.ty z w.ready.known in
            record {
              typed = typed;
              head = λ more m. subst (λ e. IsHead more bodies u ws spec name ps body typed inner e h.params h.size) (sym a)
                  (subst (λ e. IsHead more bodies u ws spec name ps body typed inner q e h.size) (sym b)
                  (subst (λ e. IsHead more bodies u ws spec name ps body typed inner q vars e) (sym c) (head more m)));
              mark = d;
              around = env_stays two three typed z w.known;
              result = subst (λ e. IsKnown three e.ty) (sym a) result;
              known = subst (IsKnownEnv three) (sym scope) (function_known three (signature bodies name (types_of vars) q.ty (is_kernel ws)) behind p.known p.types result);
            }
