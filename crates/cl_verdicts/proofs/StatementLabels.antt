-- The labels of a section have one verdict.
use Rattle.std.proofs.Common.{◌≡◌, ℕ, List, [], ◌∷◌, refl, sym, ap, ◌∙◌, subst, Bool, Option, Some, None}
use Rattle.clv_place.specs.declared.place.Place.{Place}
use Rattle.clv_place.specs.declared.stop.Offence.{Offence}
use Rattle.cl_types.specs.declared.types.ClType.{ClType}
use Rattle.cl_types.specs.Table.{AreBuilt}
use Rattle.cl_ast.specs.declared.expression.Expr.{Expr}
use Rattle.cl_ast.specs.declared.statement.Label.{Label}
use Rattle.cl_tree.specs.declared.expression.TExpr.{TExpr}
use Rattle.cl_tree.specs.Constants.{constancy_of, divides}
use Rattle.cl_rules.specs.declared.rule.Operand.{Operand}
use Rattle.cl_rules.specs.Operands.{first_broken}
use Rattle.cl_scope.specs.Names.{Env}
use Rattle.cl_type_expr.specs.Offences.{at}
use Rattle.cl_typing.specs.declared.label.Tested.{Tested}
use Rattle.cl_typing.specs.Statements.{case_of, case_tests, default_tests, and_seen, and_default, LabelsAre, no_label, case_label, default_label, LabelsOffend, in_case, case_divides, no_case_value, no_default, behind_case, behind_default}
use Rattle.cl_renaming.specs.Renaming.{env_as, IsRenaming, AreTypes}
use Rattle.cl_verdicts.proofs.StatementOutcomes.{Outcome, gives, stops, Agree, offence_at, division, Unless, no_offence, an_offence, First, behind, stopped, gives_then, stops_then, passes, fails, given, broken}
use Rattle.cl_verdicts.proofs.StatementParts.{Typing, ExprComes, TypingSame, typed_one, expr_off_one}
use Rattle.cl_verdicts.proofs.StatementTests.{case_same, case_tests_same, divides_same}

abbrev pub LabelsCome : List ClType → Bool → Tested → Env → List Label → Outcome (Tested × Env) → Type 0
LabelsCome cs falls k env ls (gives a) = (ts : List (Option TExpr)) × LabelsAre cs falls k env ls a.0 a.1 ts
LabelsCome cs falls k env ls (stops o) = LabelsOffend cs falls k env ls o

-- ---- views

abbrev CaseBy : List ClType → Bool → Tested → Place → List Label → Typing → Outcome (Tested × Env) → Type 0
CaseBy cs falls k place ls a v =
    Unless (division (divides (constancy_of cs a.1)))
    (λ w. Unless (offence_at (first_broken (case_tests cs a.2 (case_of cs k.of a.2 a.1) k.seen)) place) (λ x. LabelsCome cs falls (and_seen (case_of cs k.of a.2 a.1) k) a.0 ls x) w) v

abbrev LabelBy : List ClType → Bool → Tested → Env → Place → List Label → Option Expr → Outcome (Tested × Env) → Type 0
LabelBy cs falls k env place ls None v = Unless (offence_at (first_broken (default_tests k.has_default falls)) place) (λ w. LabelsCome cs falls (and_default k) env ls w) v
LabelBy cs falls k env place ls (Some e) v = First (ExprComes cs env e) (λ a w. CaseBy cs falls k place ls a w) v

abbrev LabelsBy : List ClType → Bool → Tested → Env → List Label → Outcome (Tested × Env) → Type 0
LabelsBy cs falls k env [] v = v ≡ gives (k, env)
LabelsBy cs falls k env (l ∷ ls) v = LabelBy cs falls k env l.place ls l.value v

module _ (cs : List ClType) (falls : Bool) (k : Tested) (env : Env) (l : Label) (ls : List Label) (e : Option Expr) (v : Outcome (Tested × Env)) where
  to_label : l.value ≡ e → LabelBy cs falls k env l.place ls e v → LabelsBy cs falls k env (l ∷ ls) v
  to_label h x = subst (λ z. LabelBy cs falls k env l.place ls z v) (sym h) x

  from_label : l.value ≡ e → LabelsBy cs falls k env (l ∷ ls) v → LabelBy cs falls k env l.place ls e v
  from_label h x = subst (λ z. LabelBy cs falls k env l.place ls z v) h x

labels_view : (cs : List ClType) (i0 : Bool) (i1 : Tested) (i2 : Env) (i3 : List Label) (i4 : Tested) (i5 : Env) (i6 : List (Option TExpr)) → LabelsAre cs i0 i1 i2 i3 i4 i5 i6 → LabelsBy cs i0 i1 i2 i3 (gives (i4, i5))
labels_view cs _ _ _ _ _ _ _ (no_label falls k env) = refl
labels_view cs _ _ _ _ _ _ _ (case_label falls k j env middle after l ls e t u o ts h0 h1 h2 h3 h4 h5) =
    to_label cs falls k env l ls (Some e) (gives (j, after)) h0
    (behind (middle, t, o) (gives (j, after)) h1 (passes (ap division h2) (passes (no_offence (first_broken (case_tests cs o (case_of cs k.of o t) k.seen)) l.place h3) (ts, h5))))
labels_view cs _ _ _ _ _ _ _ (default_label falls k j env after l ls ts h0 h1 h2) =
    to_label cs falls k env l ls None (gives (j, after)) h0 (passes (no_offence (first_broken (default_tests k.has_default falls)) l.place h1) (ts, h2))

labels_off_view : (cs : List ClType) (i0 : Bool) (i1 : Tested) (i2 : Env) (i3 : List Label) (i4 : Offence) → LabelsOffend cs i0 i1 i2 i3 i4 → LabelsBy cs i0 i1 i2 i3 (stops i4)
labels_off_view cs _ _ _ _ _ (in_case falls k env l ls e o h0 h1) = to_label cs falls k env l ls (Some e) (stops o) h0 (stopped o h1)
labels_off_view cs _ _ _ _ _ (case_divides falls k env middle l ls e t q p h0 h1 h2) =
    to_label cs falls k env l ls (Some e) (stops (at 334 p)) h0 (behind (middle, t, q) (stops (at 334 p)) h1 (fails (at 334 p) (ap division h2)))
labels_off_view cs _ _ _ _ _ (no_case_value falls k env middle l ls e t q code h0 h1 h2 h3) =
    to_label cs falls k env l ls (Some e) (stops (at code l.place)) h0
    (behind (middle, t, q) (stops (at code l.place)) h1 (passes (ap division h2) (fails (at code l.place) (an_offence (first_broken (case_tests cs q (case_of cs k.of q t) k.seen)) code l.place h3))))
labels_off_view cs _ _ _ _ _ (no_default falls k env l ls code h0 h1) =
    to_label cs falls k env l ls None (stops (at code l.place)) h0 (fails (at code l.place) (an_offence (first_broken (default_tests k.has_default falls)) code l.place h1))
labels_off_view cs _ _ _ _ _ (behind_case falls k env middle l ls e t q o h0 h1 h2 h3 h4) =
    to_label cs falls k env l ls (Some e) (stops o) h0
    (behind (middle, t, q) (stops o) h1 (passes (ap division h2) (passes (no_offence (first_broken (case_tests cs q (case_of cs k.of q t) k.seen)) l.place h3) h4)))
labels_off_view cs _ _ _ _ _ (behind_default falls k env l ls o h0 h1 h2) =
    to_label cs falls k env l ls None (stops o) h0 (passes (no_offence (first_broken (default_tests k.has_default falls)) l.place h1) h2)

labels_viewed : (cs : List ClType) (falls : Bool) (k : Tested) (env : Env) (ls : List Label) (v : Outcome (Tested × Env)) → LabelsCome cs falls k env ls v → LabelsBy cs falls k env ls v
labels_viewed cs falls k env ls (gives a) c = labels_view cs falls k env ls a.0 a.1 c.0 c.1
labels_viewed cs falls k env ls (stops o) c = labels_off_view cs falls k env ls o c

label_viewed : (cs : List ClType) (falls : Bool) (k : Tested) (env : Env) (l : Label) (ls : List Label) (e : Option Expr) (v : Outcome (Tested × Env)) → l.value ≡ e → LabelsCome cs falls k env (l ∷ ls) v → LabelBy cs falls k env l.place ls e v
label_viewed cs falls k env l ls e v h c = from_label cs falls k env l ls e v h (labels_viewed cs falls k env (l ∷ ls) v c)

-- ---- agreement

abbrev pub LabelsSame : (ℕ → ℕ) → Tested × Env → Tested × Env → Type 0
LabelsSame r a b = (b.0 ≡ a.0) × (b.1 ≡ env_as r a.1)

module _ (cs ds : List ClType) (r : ℕ → ℕ) (e : IsRenaming cs ds r) (bc : AreBuilt [] cs) (b : AreTypes ds) where
  default_code : (falls fall2 : Bool) (k k2 : Tested) → fall2 ≡ falls → k2 ≡ k → first_broken (default_tests k2.has_default fall2) ≡ first_broken (default_tests k.has_default falls)
  default_code falls fall2 k k2 f g = λ i. first_broken (default_tests (g i).has_default (f i))

  -- a case value in both tables
  module _ (k k2 : Tested) (env env2 : Env) (t t2 : TExpr) (o o2 : Operand) (g : k2 ≡ k) (s : TypingSame r (env, t, o) (env2, t2, o2)) where
    division_same : division (divides (constancy_of ds t2)) ≡ division (divides (constancy_of cs t))
    division_same = ap division (divides_same cs ds r e t t2 s.2)

    case_code : first_broken (case_tests ds o2 (case_of ds k2.of o2 t2) k2.seen) ≡ first_broken (case_tests cs o (case_of cs k.of o t) k.seen)
    case_code = ap first_broken (case_tests_same cs ds r e k k2 o o2 t t2 g s.1 s.2)

    seen_same : and_seen (case_of ds k2.of o2 t2) k2 ≡ and_seen (case_of cs k.of o t) k
    seen_same = λ i. and_seen (case_same cs ds r e k.of k2.of o o2 t t2 (ap (λ z. z.of) g) s.1 s.2 i) (g i)

  pub labels_one : (i0 : Bool) (i1 : Tested) (i2 : Env) (i3 : List Label) (i4 : Tested) (i5 : Env) (i6 : List (Option TExpr)) → LabelsAre cs i0 i1 i2 i3 i4 i5 i6 → (fall2 : Bool) (k2 : Tested) (env2 : Env) → fall2 ≡ i0 → k2 ≡ i1 → env2 ≡ env_as r i2 → (w : Outcome (Tested × Env)) → LabelsCome ds fall2 k2 env2 i3 w → Agree (LabelsSame r) (gives (i4, i5)) w
  labels_one _ _ _ _ _ _ _ (no_label falls k env) fall2 k2 env2 f g h w c = given (LabelsSame r) (gives (k, env)) w (gives (k2, env2)) (g, h) (labels_viewed ds fall2 k2 env2 [] w c)
  labels_one _ _ _ _ _ _ _ (case_label falls k j env middle after l ls x t u o ts h0 h1 h2 h3 h4 h5) fall2 k2 env2 f g h w c =
      gives_then (TypingSame r) (LabelsSame r) (middle, t, o) (gives (j, after)) w (label_viewed ds fall2 k2 env2 l ls (Some x) w h0 c) (typed_one cs ds r e bc b env env2 x middle t o h h1)
      (λ z s n.
      let m = n.pass (division_same k k2 middle z.0 t z.1 o z.2 g s ∙ ap division h2) in
      let y = m.pass (no_offence (first_broken (case_tests ds z.2 (case_of ds k2.of z.2 z.1) k2.seen)) l.place (case_code k k2 middle z.0 t z.1 o z.2 g s ∙ h3)) in
      labels_one _ _ _ _ _ _ _ h5 fall2 (and_seen (case_of ds k2.of z.2 z.1) k2) z.0 f (seen_same k k2 middle z.0 t z.1 o z.2 g s) s.0 w y)
  labels_one _ _ _ _ _ _ _ (default_label falls k j env after l ls ts h0 h1 h2) fall2 k2 env2 f g h w c =
      let n = label_viewed ds fall2 k2 env2 l ls None w h0 c in
      labels_one _ _ _ _ _ _ _ h2 fall2 (and_default k2) env2 f (ap and_default g) h w (n.pass (no_offence (first_broken (default_tests k2.has_default fall2)) l.place (default_code falls fall2 k k2 f g ∙ h1)))

  pub labels_off_one : (i0 : Bool) (i1 : Tested) (i2 : Env) (i3 : List Label) (i4 : Offence) → LabelsOffend cs i0 i1 i2 i3 i4 → (fall2 : Bool) (k2 : Tested) (env2 : Env) → fall2 ≡ i0 → k2 ≡ i1 → env2 ≡ env_as r i2 → (w : Outcome (Tested × Env)) → LabelsCome ds fall2 k2 env2 i3 w → Agree (LabelsSame r) (stops i4) w
  labels_off_one _ _ _ _ _ (in_case falls k env l ls x o h0 h1) fall2 k2 env2 f g h w c =
      stops_then (TypingSame r) (LabelsSame r) o w (label_viewed ds fall2 k2 env2 l ls (Some x) w h0 c) (expr_off_one cs ds r e bc b env env2 x o h h1)
  labels_off_one _ _ _ _ _ (case_divides falls k env middle l ls x t o p h0 h1 h2) fall2 k2 env2 f g h w c =
      gives_then (TypingSame r) (LabelsSame r) (middle, t, o) (stops (at 334 p)) w (label_viewed ds fall2 k2 env2 l ls (Some x) w h0 c) (typed_one cs ds r e bc b env env2 x middle t o h h1)
      (λ z s n. broken (LabelsSame r) (at 334 p) w (n.fail (at 334 p) (division_same k k2 middle z.0 t z.1 o z.2 g s ∙ ap division h2)))
  labels_off_one _ _ _ _ _ (no_case_value falls k env middle l ls x t o code h0 h1 h2 h3) fall2 k2 env2 f g h w c =
      gives_then (TypingSame r) (LabelsSame r) (middle, t, o) (stops (at code l.place)) w (label_viewed ds fall2 k2 env2 l ls (Some x) w h0 c) (typed_one cs ds r e bc b env env2 x middle t o h h1)
      (λ z s n.
      let m = n.pass (division_same k k2 middle z.0 t z.1 o z.2 g s ∙ ap division h2) in
      broken (LabelsSame r) (at code l.place) w (m.fail (at code l.place) (an_offence (first_broken (case_tests ds z.2 (case_of ds k2.of z.2 z.1) k2.seen)) code l.place (case_code k k2 middle z.0 t z.1 o z.2 g s ∙ h3))))
  labels_off_one _ _ _ _ _ (no_default falls k env l ls code h0 h1) fall2 k2 env2 f g h w c =
      let n = label_viewed ds fall2 k2 env2 l ls None w h0 c in
      broken (LabelsSame r) (at code l.place) w (n.fail (at code l.place) (an_offence (first_broken (default_tests k2.has_default fall2)) code l.place (default_code falls fall2 k k2 f g ∙ h1)))
  labels_off_one _ _ _ _ _ (behind_case falls k env middle l ls x t o p h0 h1 h2 h3 h4) fall2 k2 env2 f g h w c =
      gives_then (TypingSame r) (LabelsSame r) (middle, t, o) (stops p) w (label_viewed ds fall2 k2 env2 l ls (Some x) w h0 c) (typed_one cs ds r e bc b env env2 x middle t o h h1)
      (λ z s n.
      let m = n.pass (division_same k k2 middle z.0 t z.1 o z.2 g s ∙ ap division h2) in
      let y = m.pass (no_offence (first_broken (case_tests ds z.2 (case_of ds k2.of z.2 z.1) k2.seen)) l.place (case_code k k2 middle z.0 t z.1 o z.2 g s ∙ h3)) in
      labels_off_one _ _ _ _ _ h4 fall2 (and_seen (case_of ds k2.of z.2 z.1) k2) z.0 f (seen_same k k2 middle z.0 t z.1 o z.2 g s) s.0 w y)
  labels_off_one _ _ _ _ _ (behind_default falls k env l ls o h0 h1 h2) fall2 k2 env2 f g h w c =
      let n = label_viewed ds fall2 k2 env2 l ls None w h0 c in
      labels_off_one _ _ _ _ _ h2 fall2 (and_default k2) env2 f (ap and_default g) h w (n.pass (no_offence (first_broken (default_tests k2.has_default fall2)) l.place (default_code falls fall2 k k2 f g ∙ h1)))
