-- Values of initialisers.
use Rattle.std.proofs.Common.{◌≡◌, Bool, true, false, ◌&&◌, List, Option, Some, None, refl, sym, ap, ◌∙◌, subst, true≢false}
use Rattle.clv_place.specs.declared.place.Place.{Place}
use Rattle.clv_place.specs.declared.stop.Stop.{Stop}
use Rattle.clv_place.specs.declared.stop.Stop.TheVariants.{Out, NoMemory}
use Rattle.cl_types.specs.declared.types.ClType.{ClType}
use Rattle.cl_types.specs.declared.types.TypeId.{TypeId}
use Rattle.cl_types.specs.Table.{IsTable}
use Rattle.cl_builtins.specs.Found.{IsKnown, IsGrown}
use Rattle.cl_builtins.proofs.Growth.{grown_twice}
use Rattle.cl_ast.specs.declared.expression.Expr.{Expr}
use Rattle.cl_tree.specs.declared.constant.Constancy.{Constancy}
use Rattle.cl_tree.specs.declared.expression.TExpr.{TExpr}
use Rattle.cl_tree.specs.Constants.{constancy_of, divides}
use Rattle.cl_rules.specs.declared.rule.Want.TheVariants as want
use Rattle.cl_scope.specs.Names.{Env}
use Rattle.cl_scope.specs.Scopes.{IsKnownEnv}
use Rattle.cl_make.specs.declared.typed.Typed.{Typed}
use Rattle.cl_make.specs.Answered.{IsConvertedOf}
use Rattle.cl_make.specs.Ready.{Grows, IsReady}
use Rattle.cl_make.specs.Wanted.{target}
use Rattle.cl_make.proofs.Growing.{shape_stays}
use Rattle.cl_make.proofs.Stays.{constancy_stays}
use Rattle.cl_type_expr.specs.Offences.{at}
use Rattle.cl_type_expr.specs.Typing.{IsTypedAs, StopsIn}
use Rattle.cl_variables.specs.declared.tally.Tally.{Tally}
use Rattle.cl_variables.specs.declared.valued.Taken.{Taken}
use Rattle.cl_variables.specs.declared.valued.Valued.{Valued}
use Rattle.cl_variables.specs.Initialisers.{tally_at, is_right, is_varying, IsValue, ValueOffends, in_expression, value_divides}
use Rattle.cl_variables.specs.Answers.{IsValued, ValueStops, VariesAs, VaryingStops, IsBegun, Begins, IsNext, NextStops, IsTakenTree, IsTaken}

-- ---- whether a value is constant

module _ (cs : List ClType) (r : Typed) (c : Constancy) (ready : IsReady cs r) (is : c ≡ constancy_of cs r.tree) where
  later : (more : List ClType) → IsGrown cs more → c ≡ constancy_of more r.tree
  later more m = is ∙ sym (constancy_stays cs more r.tree m ready.steady)

  pub varies_as : (v : Bool) → divides c ≡ None → v ≡ is_varying c → VariesAs cs r.tree v
  varies_as v none e = record { exact = λ more m. ap divides (sym (later more m)) ∙ none; is = λ more m. e ∙ ap is_varying (later more m) }

  pub value_out : (p : Place) → divides c ≡ Some p → VaryingStops cs r.tree (Out (at 334 p))
  value_out p some = (refl, λ more m. ap divides (sym (later more m)) ∙ some)

-- ---- a value

and_true : (a b : Bool) → a ≡ true → b ≡ (a && b)
and_true a b e = sym (ap (λ z. z && b) e)

module _ (cs : List ClType) (constant : Bool) (env : Env) (e : Expr) (after : Env) where
  pub valued_any : (v : Valued) → constant ≡ false → v.varies ≡ false → IsTypedAs cs env false e after v.typed → IsValued cs constant env e after v
  valued_any v free w h = record {
    value = λ more m. record {
      types = h.types more m;
      exact = λ must. absurd (true≢false (sym must ∙ free));
      is = w ∙ sym (ap (λ z. z && is_varying (constancy_of more v.typed.tree)) free);
    };
    ready = h.ready;
    known = h.known;
  }

  pub valued_constant : (v : Valued) → constant ≡ true → VariesAs cs v.typed.tree v.varies → IsTypedAs cs env false e after v.typed → IsValued cs constant env e after v
  valued_constant v must w h = record {
    value = λ more m. record {
      types = h.types more m;
      exact = λ again. w.exact more m;
      is = w.is more m ∙ and_true constant (is_varying (constancy_of more v.typed.tree)) must;
    };
    ready = h.ready;
    known = h.known;
  }

  pub value_expr_out : (s : Stop) → StopsIn cs env false e s → ValueStops cs constant env e s
  value_expr_out NoMemory h = tt
  value_expr_out (Out o) h = λ more m. in_expression env e o (h more m)

  pub value_varies_out : (r : Typed) (s : Stop) → constant ≡ true → IsTypedAs cs env false e after r → VaryingStops cs r.tree s → ValueStops cs constant env e s
  value_varies_out r NoMemory must t h = tt
  value_varies_out r (Out o) must t h = λ more m.
      subst (λ c. ValueOffends more constant env e (at c o.place)) (sym h.0) (value_divides env after e r.tree r.operand o.place must (t.types more m) (h.1 more m))

-- ---- a value that may have been typed already

pub next_begun : (cs : List ClType) (constant : Bool) (here : Env) (first : Option Valued) (e : Expr) (v : Valued) → first ≡ Some v → IsBegun cs first → IsKnownEnv cs here → IsNext cs constant here first e here v
next_begun cs constant here first e v is ready known = record {
  value = λ more m env b. subst (Begins more constant env here e) is b;
  ready = subst (IsBegun cs) is ready;
  known = known;
}

pub next_fresh : (cs : List ClType) (constant : Bool) (here : Env) (first : Option Valued) (e : Expr) (after : Env) (v : Valued) → first ≡ None → IsValued cs constant here e after v → IsNext cs constant here first e after v
next_fresh cs constant here first e after v is h = record {
  value = λ more m env b. subst (λ z. IsValue more constant z e after v.typed.tree v.typed.operand v.varies) (sym (subst (Begins more constant env here e) is b)) (h.value more m);
  ready = h.ready;
  known = h.known;
}

pub next_out : (cs : List ClType) (constant : Bool) (here : Env) (first : Option Valued) (e : Expr) (s : Stop) → first ≡ None → ValueStops cs constant here e s → NextStops cs constant here first e s
next_out cs constant here first e NoMemory is h = tt
next_out cs constant here first e (Out o) is h = λ more m env b.
    subst (λ z. ValueOffends more constant z e o) (sym (subst (Begins more constant env here e) is b)) (h more m)

-- ---- a value as one of the type that is wanted

pub target_stays : (old new : List ClType) (t : TypeId) → IsTable old → IsGrown old new → IsKnown old t → target new t ≡ target old t
target_stays old new t b g k = ap (λ s. record { ty = t; shape = s }) (shape_stays old new t b g k)

pub tally_later : (old more : List ClType) (ty : TypeId) (v : Valued) (t : Tally) → IsTable old → IsGrown old more → IsKnown old ty → t ≡ tally_at v.typed.operand (target old ty) v.varies → t ≡ tally_at v.typed.operand (target more ty) v.varies
tally_later old more ty v t b g k e = e ∙ ap (λ z. tally_at v.typed.operand z v.varies) (sym (target_stays old more ty b g k))

pub taken_wrong : (cs : List ClType) (ty : TypeId) (v : Valued) (r : Taken) → IsTable cs → IsKnown cs ty → r.tally ≡ tally_at v.typed.operand (target cs ty) v.varies → is_right r.tally ≡ false → r.tree ≡ None → IsTaken cs ty v r
taken_wrong cs ty v r b k e wrong none = record {
  tally = λ more m. tally_later cs more ty v r.tally b m k e;
  tree = λ more m. subst (λ z. IsTakenTree more ty v.typed.tree z r.tree) (sym wrong) (subst (IsTakenTree more ty v.typed.tree false) (sym none) tt);
}

pub taken_right : (old cs : List ClType) (ty : TypeId) (v : Valued) (r : Taken) (u : TExpr) → IsTable old → IsKnown old ty → Grows old cs → r.tally ≡ tally_at v.typed.operand (target old ty) v.varies → is_right r.tally ≡ true → r.tree ≡ Some u → IsConvertedOf cs (want.Type ty) v.typed.tree u → IsTaken cs ty v r
taken_right old cs ty v r u b k g e right some c = record {
  tally = λ more m. tally_later old more ty v r.tally b (grown_twice old cs more g.grown m) k e;
  tree = λ more m. subst (λ z. IsTakenTree more ty v.typed.tree z r.tree) (sym right) (subst (IsTakenTree more ty v.typed.tree true) (sym some) (c.converts more m));
}
