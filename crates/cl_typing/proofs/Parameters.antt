-- Parameters of functions.
use Rattle.std.proofs.Common.{◌≡◌, ℕ, nat_eq, Bool, true, false, true≢false, not, ◌&&◌, ◌||◌, List, [], ◌∷◌, ◌++◌, length, Option, Some, None, is_some, refl, sym, ap, ◌∙◌, subst}
use Rattle.std.proofs.lemmas.List.Elements.{All-push}
use Rattle.clv_place.specs.declared.stop.Stop.{Stop}
use Rattle.clv_place.specs.declared.stop.Stop.TheVariants.{Out, NoMemory}
use Rattle.cl_types.specs.declared.types.ClType.{ClType}
use Rattle.cl_types.specs.declared.types.TypeId.{TypeId}
use Rattle.cl_types.specs.Table.{IsTable}
use Rattle.cl_builtins.specs.Found.{IsGrown, IsKnown, AreKnown}
use Rattle.cl_builtins.proofs.Growth.{grown_twice}
use Rattle.cl_ast.specs.declared.declaration.Param.{Param}
use Rattle.cl_ast.specs.declared.expression.Qual.{Qual}
use Rattle.cl_tree.specs.declared.unit.Variable.{Variable}
use Rattle.cl_tree.specs.Shapes.{is_void, is_array}
use Rattle.cl_tree.specs.Units.{types_of, is_kernel_param}
use Rattle.cl_rules.specs.declared.rule.Qualified.{Qualified}
use Rattle.cl_rules.specs.Calls.{is_no_pointee}
use Rattle.cl_rules.specs.Operands.{first_broken}
use Rattle.cl_scope.specs.Names.{Env}
use Rattle.cl_scope.specs.Scopes.{IsKnownEnv}
use Rattle.cl_words.specs.declared.naming.Sketch.{Sketch}
use Rattle.cl_words.specs.Words.{sketch, no_declared_type, has_restrict}
use Rattle.cl_make.specs.Answered.{IsGiven}
use Rattle.cl_make.specs.Ready.{IsReadyType}
use Rattle.cl_make.specs.Wanted.{IsGivable, IsWanted, no_array, IsDeclaredAs}
use Rattle.cl_make.proofs.Asked.{pointer_askable}
use Rattle.cl_make.proofs.Stays.{env_stays, from_now, wanted_known}
use Rattle.cl_type_expr.specs.Offences.{at}
use Rattle.cl_type_expr.specs.Typing.{WordsAre, WordsStop}
use Rattle.cl_typing.specs.UnitAnswers.{ParamIs, ParamStops}
use Rattle.cl_typing.specs.Units.{has_space, has_star, is_again, param_tests, param_of, param_named, ParamsAre, ParamsOffend, more_params, in_param_words, broken_param, behind_param}

or_left : (a b : Bool) → (a || b) ≡ false → a ≡ false
or_left true b h = absurd (true≢false h)
or_left false b h = refl

-- the type of a declared name without lengths can be asked for
pub plain_givable : (cs : List ClType) (q : Qualified) (star : Option (List Qual)) → IsTable cs → IsReadyType cs q → no_declared_type (sketch q star []) ≡ false → IsGivable cs (sketch q star []).of
plain_givable cs q None b r h = r.known
plain_givable cs q (Some qs) b r h = pointer_askable cs b q (has_restrict qs) r (or_left (is_no_pointee q.shape) false h)

tests_kept : (a b : Bool) (ts : List (ℕ × Bool)) → first_broken ((302, a) ∷ (303, b) ∷ ts) ≡ None → b ≡ false
tests_kept true b ts h = absurd (true≢false (ap is_some h))
tests_kept false true ts h = absurd (true≢false (ap is_some h))
tests_kept false false ts h = refl

pub param_type : (kernel : Bool) (env : Env) (q : Qualified) (p : Param) (n : ℕ) → first_broken (param_tests kernel env q p.star p.name (sketch q p.star []) n) ≡ None → no_declared_type (sketch q p.star []) ≡ false
param_type kernel env q p n h =
    let k : Sketch = sketch q p.star [] in
    or_left (no_declared_type k) (is_void k.shape) (or_left (no_declared_type k || is_void k.shape) (is_array k.shape)
    (tests_kept (is_again env p.name) (no_declared_type k || is_void k.shape || is_array k.shape)
    ((326, k.clash || has_space k.space) ∷ (327, kernel && (not (is_kernel_param k.shape) || (q.sized && not (has_star p.star)))) ∷ (504, nat_eq n 32) ∷ []) h))

plain_declared : (cs : List ClType) (q : Qualified) (star : Option (List Qual)) (t : TypeId) → IsWanted cs (sketch q star []).of t → IsDeclaredAs cs (sketch q star []) 1 t
plain_declared cs q None t h = record { elem = t; wanted = h; arrays = no_array t }
plain_declared cs q (Some qs) t h = record { elem = t; wanted = h; arrays = no_array t }

types_push : (vs : List Variable) (v : Variable) → types_of (vs ++ v ∷ []) ≡ types_of vs ++ v.ty ∷ []
types_push [] v = refl
types_push (w ∷ vs) v = ap (λ z. w.ty ∷ z) (types_push vs v)

named_known : (cs : List ClType) (kernel : Bool) (name : Option (List ℕ)) (t : TypeId) (k : Sketch) (n : ℕ) (env : Env) → IsKnown cs t → IsKnownEnv cs env → IsKnownEnv cs (param_named name t k n env)
named_known cs kernel None t k n env h e = e
named_known cs kernel (Some name) t k n env h e = record { outer = e.outer; inner = (h, e.inner); functions = e.functions }

-- the tables behind the words and behind the type
module _ (mid new : List ClType) (kernel : Bool) (n0 nq : Env) (before : List Variable) (p : Param) where
  pub param_words_out : (x : Stop) → WordsStop mid n0 p.spec x → ParamStops mid kernel n0 before p x
  param_words_out NoMemory h = tt
  param_words_out (Out o) h = λ more m ps. in_param_words n0 before p ps o (h more m)

  module _ (q : Qualified) (w : WordsAre mid n0 p.spec nq q) where
    pub param_broken : (code : ℕ) → first_broken (param_tests kernel nq q p.star p.name (sketch q p.star []) (length before)) ≡ Some code → ParamStops mid kernel n0 before p (Out (at code p.place))
    param_broken code h = λ more m ps. broken_param n0 nq before p ps q code (w.words more m) h

    pub param_typed : (t : TypeId) (n1 : Env) (all : List Variable) → IsGrown mid new → first_broken (param_tests kernel nq q p.star p.name (sketch q p.star []) (length before)) ≡ None → IsGiven new (sketch q p.star []).of t → n1 ≡ param_named p.name t (sketch q p.star []) (length before) nq → all ≡ before ++ param_of p t ∷ [] → ParamIs new kernel n0 before p n1 all
    param_typed t n1 all g fits given scope pushed =
        let known : IsKnown new t = wanted_known new (sketch q p.star []).of t (from_now new (λ more. IsWanted more (sketch q p.star []).of t) given) in
        record {
          params = λ more m ps after whole rest.
              more_params n0 nq after before whole p ps q t (w.words more (grown_twice mid new more g m)) fits (plain_declared more q p.star t (given more m))
              (subst (λ z. ParamsAre more kernel z (before ++ param_of p t ∷ []) ps after whole) scope (subst (λ z. ParamsAre more kernel n1 z ps after whole) pushed rest));
          stops = λ more m ps o rest.
              behind_param n0 nq before p ps q t o (w.words more (grown_twice mid new more g m)) fits (plain_declared more q p.star t (given more m))
              (subst (λ z. ParamsOffend more kernel z (before ++ param_of p t ∷ []) ps o) scope (subst (λ z. ParamsOffend more kernel n1 z ps o) pushed rest));
          types = λ k. subst (AreKnown new) (sym (ap types_of pushed ∙ types_push before (param_of p t))) (All-push (IsKnown new) (types_of before) t k known);
          known = subst (IsKnownEnv new) (sym scope) (named_known new kernel p.name t (sketch q p.star []) (length before) nq known (env_stays mid new nq g w.known));
        }

pub star_is : (o : Option (List Qual)) → is_some o ≡ has_star o
star_is None = refl
star_is (Some qs) = refl
