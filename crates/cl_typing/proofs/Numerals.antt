-- Numbers that typed expressions come to: values of cases, and required sizes.
use Rattle.std.proofs.Common.{◌≡◌, ℕ, zero, suc, ◌+◌, ◌<◌, ◌≤◌, nat_eq, Bool, true, false, true≢false, ◌||◌, if◌then◌else◌, List, [], ◌∷◌, ◌++◌, length, drop, get_or, Option, Some, None, refl, sym, ap, ◌∙◌, subst, arith}
use Rattle.clv_place.specs.declared.place.Place.{Place}
use Rattle.clv_place.specs.declared.stop.Offence.{Offence}
use Rattle.clv_place.specs.declared.stop.Stop.{Stop}
use Rattle.clv_place.specs.declared.stop.Stop.TheVariants.{Out, NoMemory}
use Rattle.cl_types.specs.declared.types.ClType.{ClType}
use Rattle.cl_types.specs.declared.types.TypeId.{TypeId}
use Rattle.cl_types.specs.Table.{IsTable}
use Rattle.cl_builtins.specs.declared.kind.Gentype.{Gentype}
use Rattle.cl_types.specs.Layout.{is_width, is_count}
use Rattle.cl_builtins.specs.Kinds.{is_gentype}
use Rattle.cl_constants.specs.Widths.{has_width}
use Rattle.std.proofs.lemmas.Bool.{and_parts}
use Rattle.cl_tree.specs.declared.shape.Shape.TheVariants as shape
use Rattle.cl_ast.specs.declared.expression.Expr.{Expr}
use Rattle.cl_tree.specs.declared.constant.Constancy.{Constancy}
use Rattle.cl_tree.specs.declared.expression.TNode.TheViews.{out-TExpr}
use Rattle.cl_tree.specs.declared.shape.Shape.{Shape}
use Rattle.cl_tree.specs.Constants.{known_of, constancy_of, divides, number_in, number_of, positive_in, positive_of, is_negative}
use Rattle.cl_tree.specs.Shapes.{shape_of}
use Rattle.cl_scope.specs.Names.{Env}
use Rattle.cl_scope.specs.Scopes.{IsKnownEnv}
use Rattle.cl_make.specs.declared.typed.Typed.{Typed}
use Rattle.cl_make.specs.Ready.{From, Grows, IsReady}
use Rattle.cl_make.proofs.Stays.{from_now, constancy_stays, number_of_stays, positive_stays}
use Rattle.cl_make.proofs.Trees.{root_is, ready_stable}
use Rattle.cl_type_expr.specs.Offences.{at}
use Rattle.cl_type_expr.specs.Typing.{IsTypedAs, StopsIn}
use Rattle.cl_typing.specs.Answers.{CaseValueIs, CaseValueStops}
use Rattle.cl_typing.specs.Statements.{case_in}
use Rattle.cl_typing.specs.UnitAnswers.{AreAbove0, PositiveIs, PositiveStops, ConstantsAreTyped, ConstantsStop}
use Rattle.cl_typing.specs.Units.{ConstantsAre, ConstantsOffend, no_constant, more_constants, in_constant, constant_divides, behind_constant}
use Rattle.cl_typing.proofs.SoFar.{SoFar, so_far_start, so_far_next, so_far_stop, so_far_end}

pub gentype_width : (t : Gentype) → is_gentype t ≡ true → has_width (shape.Integers t) ≡ true
gentype_width t h = (and_parts (is_width t.bits) (nat_eq t.count 1 || is_count t.count) h).0

module _ (cs : List ClType) (r : Typed) (b : IsTable cs) (h : IsReady cs r) where
  abbrev pub own : TypeId
  own = (out-TExpr r.tree).ty

  whole_stays : divides (constancy_of cs r.tree) ≡ None → From cs (λ more. divides (constancy_of more r.tree) ≡ None)
  whole_stays none more m = subst (λ z. divides z ≡ None) (sym (constancy_stays cs more r.tree m h.steady)) none

  pub divides_stays : (p : Place) → divides (constancy_of cs r.tree) ≡ Some p → From cs (λ more. divides (constancy_of more r.tree) ≡ Some p)
  divides_stays p some more m = subst (λ z. divides z ≡ Some p) (sym (constancy_stays cs more r.tree m h.steady)) some

  number_is : number_in (shape_of cs own) (constancy_of cs r.tree) ≡ number_of cs r.tree
  number_is = ap (λ t. number_in (shape_of cs t) (constancy_of cs r.tree)) (sym (root_is r.tree cs))

  shape_is : shape_of cs own ≡ r.operand.shape
  shape_is = ap (shape_of cs) (sym (root_is r.tree cs) ∙ h.root) ∙ sym h.operand.shape

  pub case_value_is : (of : Gentype) (n : Option ℕ) → divides (constancy_of cs r.tree) ≡ None → n ≡ case_in (shape_of cs own) of (number_in (shape_of cs own) (constancy_of cs r.tree)) → CaseValueIs cs of r n
  case_value_is of n none is = record {
    whole = whole_stays none;
    is = λ more m. is ∙ ap (case_in (shape_of cs own) of) number_is ∙ ap (λ s. case_in s of (number_of cs r.tree)) shape_is
        ∙ ap (case_in r.operand.shape of) (sym (number_of_stays cs more r.tree b m (ready_stable cs r h)));
  }

  -- the same, of the type and the value that the calls answered
  pub case_value_was : (of : Gentype) (n : Option ℕ) (from : Shape) (value : Constancy) → value ≡ constancy_of cs r.tree → from ≡ shape_of cs own → divides value ≡ None → n ≡ case_in from of (number_in from value) → CaseValueIs cs of r n
  case_value_was of n from value v f none is = case_value_is of n (ap divides (sym v) ∙ none) (is ∙ (λ i. case_in (f i) of (number_in (f i) (v i))))

  pub case_value_out : (p : Place) → divides (constancy_of cs r.tree) ≡ Some p → CaseValueStops cs r.tree (Out (at 334 p))
  case_value_out p some = (refl, divides_stays p some)

  positive_same : positive_in (shape_of cs own) (number_in (shape_of cs own) (constancy_of cs r.tree)) ≡ positive_of cs r.tree
  positive_same = ap (positive_in (shape_of cs own)) number_is ∙ ap (λ t. positive_in (shape_of cs t) (number_of cs r.tree)) (sym (root_is r.tree cs))

  pub positive_is : (n : Option ℕ) → divides (constancy_of cs r.tree) ≡ None → n ≡ positive_in (shape_of cs own) (number_in (shape_of cs own) (constancy_of cs r.tree)) → PositiveIs cs r.tree n
  positive_is n none is = record {
    whole = whole_stays none;
    is = λ more m. positive_stays cs more r.tree b m (ready_stable cs r h) ∙ sym (is ∙ positive_same);
  }

  pub positive_was : (n : Option ℕ) (from : Shape) (value : Constancy) → value ≡ constancy_of cs r.tree → from ≡ shape_of cs own → divides value ≡ None → n ≡ positive_in from (number_in from value) → PositiveIs cs r.tree n
  positive_was n from value v f none is = positive_is n (ap divides (sym v) ∙ none) (is ∙ (λ i. positive_in (f i) (number_in (f i) (v i))))

  pub positive_out : (p : Place) → divides (constancy_of cs r.tree) ≡ Some p → PositiveStops cs r.tree (Out (at 334 p))
  positive_out p some = (refl, divides_stays p some)

-- ---- the loop over what stands in brackets

positive_some : (s : Shape) (b : Bool) (n : ℕ) → (nat_eq n 0 ≡ true → b ≡ true) → AreAbove0 ((if b then None else Some n) ∷ [])
positive_some s true n h = tt
positive_some s false zero h = absurd (true≢false (sym (h refl)))
positive_some s false (suc n) h = (omega arith, tt)

or_first : (a b : Bool) → a ≡ true → (a || b) ≡ true
or_first true b h = refl
or_first false b h = absurd (true≢false (sym h))

positive_above : (s : Shape) (n : Option ℕ) → AreAbove0 (positive_in s n ∷ [])
positive_above s None = tt
positive_above s (Some n) = positive_some s (nat_eq n 0 || is_negative s n) n (or_first (nat_eq n 0) (is_negative s n))

above_end : (ns : List (Option ℕ)) (n : Option ℕ) → AreAbove0 ns → AreAbove0 (n ∷ []) → AreAbove0 (ns ++ n ∷ [])
above_end [] n h k = k
above_end (None ∷ ns) n h k = above_end ns n h k
above_end (Some m ∷ ns) n h k = (h.0, above_end ns n h.1 k)

abbrev pub PositivesGo : List ClType → Env → List Expr → Env → List (Option ℕ) → Type 0
PositivesGo cs env es after ns = ConstantsAre cs env es after ns

abbrev pub PositivesHold : List ClType → Env → List Expr → Offence → Type 0
PositivesHold cs env es o = ConstantsOffend cs env es o

pub record PositivesSoFar (first now : List ClType) (env : Env) (es : List Expr) (i : ℕ) (here : Env) (ns : List (Option ℕ)) : Type 0 where
  pub goes : SoFar PositivesGo PositivesHold first now env es i here ns
  pub positive : AreAbove0 ns
  pub known : IsKnownEnv now here

pub positives_start : (cs : List ClType) (env : Env) (es : List Expr) (ns : List (Option ℕ)) → ns ≡ [] → IsTable cs → IsKnownEnv cs env → PositivesSoFar cs cs env es 0 env ns
positives_start cs env es ns none b known = record {
  goes = so_far_start PositivesGo PositivesHold cs env es ns none b;
  positive = subst AreAbove0 (sym none) tt;
  known = known;
}

module _ (first now new : List ClType) (env : Env) (es : List Expr) (i : ℕ) (here : Env) (ns : List (Option ℕ)) (e : Expr) (h : PositivesSoFar first now env es i here ns) (low : i < length es) (is : e ≡ get_or es i e) (g : Grows now new) where
  pub positives_expr_out : (x : Stop) → StopsIn new here false e x → ConstantsStop new env es x
  positives_expr_out NoMemory stops = tt
  positives_expr_out (Out o) stops = so_far_stop PositivesGo PositivesHold first now new env here es i ns e h.goes low is g o (λ more m. in_constant here e (drop (i + 1) es) o (stops more m))

  module _ (there : Env) (r : Typed) (typed : IsTypedAs new here false e there r) where
    pub positives_divided : (x : Stop) → PositiveStops new r.tree x → ConstantsStop new env es x
    positives_divided NoMemory stops = tt
    positives_divided (Out o) stops = so_far_stop PositivesGo PositivesHold first now new env here es i ns e h.goes low is g o
        (λ more m. subst (λ c. ConstantsOffend more here (e ∷ drop (i + 1) es) (record { code = c; place = o.place })) (sym stops.0) (constant_divides here there e (drop (i + 1) es) r.tree r.operand o.place (typed.types more m) (stops.1 more m)))

    pub positives_next : (n : Option ℕ) (all : List (Option ℕ)) → all ≡ ns ++ n ∷ [] → PositiveIs new r.tree n → PositivesSoFar first new env es (i + 1) there all
    positives_next n all added one = record {
      goes = so_far_next PositivesGo PositivesHold first now new env here es i ns e h.goes low is g there (n ∷ []) all added
          (λ more m after us rest. more_constants here there after e (drop (i + 1) es) r.tree r.operand n us (typed.types more m) (one.whole more m) (one.is more m) rest)
          (λ more m o rest. behind_constant here there e (drop (i + 1) es) r.tree r.operand o (typed.types more m) (one.whole more m) rest);
      positive = subst AreAbove0 (sym added) (above_end ns n h.positive (subst (λ z. AreAbove0 (z ∷ [])) (from_now new (λ more. positive_of more r.tree ≡ n) one.is) (positive_above (shape_of new (known_of r.tree new).ty) (number_of new r.tree))));
      known = typed.known;
    }

pub positives_end : (first now : List ClType) (env : Env) (es : List Expr) (i : ℕ) (here : Env) (ns : List (Option ℕ)) → PositivesSoFar first now env es i here ns → length es ≤ i → ConstantsAreTyped now env es here ns
positives_end first now env es i here ns h done = record {
  constants = so_far_end PositivesGo PositivesHold first now env here es i ns h.goes done (λ more m. no_constant here);
  positive = h.positive;
  known = h.known;
}
