-- The tests of statements where types have other numbers: the same.
use Rattle.std.proofs.Common.{◌≡◌, ℕ, List, [], ◌∷◌, refl, ap, ◌∙◌, true, false, not, ◌||◌, nat_lt, if◌then◌else◌, Option, Some, None}
use Rattle.cl_types.specs.declared.types.ClType.{ClType}
use Rattle.cl_builtins.specs.declared.kind.Gentype.{Gentype}
use Rattle.cl_builtins.specs.Kinds.{int}
use Rattle.cl_tree.specs.declared.expression.TExpr.{TExpr}
use Rattle.cl_tree.specs.declared.shape.Shape.{Shape}
use Rattle.cl_tree.specs.declared.shape.Shape.TheVariants as shape
use Rattle.cl_tree.specs.Constants.{constancy_of, divides, number_of, number_to}
use Rattle.cl_tree.specs.Shapes.{promoted}
use Rattle.cl_rules.specs.declared.rule.Operand.{Operand}
use Rattle.cl_rules.specs.declared.rule.Target.{Target}
use Rattle.cl_make.specs.Wanted.{target}
use Rattle.cl_typing.specs.declared.label.Tested.{Tested}
use Rattle.cl_typing.specs.declared.setting.Setting.{Setting}
use Rattle.cl_typing.specs.Statements.{no_condition, tested_type, no_switch, tested_first, return_tests, return_tests_of, case_in, case_of, no_case, case_tests}
use Rattle.cl_renaming.specs.Renaming.{shape_as, operand_as, target_as, TellsApart, IsRenaming}
use Rattle.cl_renaming.specs.Trees.{IsTreeAs}
use Rattle.cl_renaming.proofs.Shapes.{is_void_as, is_number_as, type_of_as, no_value_as, no_pointer_as}
use Rattle.cl_renaming.proofs.Words.{target_of_as}
use Rattle.cl_renaming.proofs.Values.{constancy_as, number_of_as}
use Rattle.cl_verdicts.proofs.States.{setting_as}

module _ (r : ℕ → ℕ) where
  pub no_condition_same : (o o2 : Operand) → o2 ≡ operand_as r o → no_condition o2 ≡ no_condition o
  no_condition_same o o2 f = ap no_condition f ∙ ap not (is_number_as r o.shape)

  tested_type_as : (s : Shape) → tested_type (shape_as r s) ≡ tested_type s
  tested_type_as s = λ i. if is_number_as r s i then promoted (type_of_as r s i) else int

  pub tested_first_same : (o o2 : Operand) → o2 ≡ operand_as r o → tested_first o2.shape ≡ tested_first o.shape
  tested_first_same o o2 f = ap (λ z. tested_first z.shape) f ∙ (λ i. record { of = tested_type_as o.shape i; seen = []; has_default = false; before = true })

  pub no_switch_same : (o o2 : Operand) → o2 ≡ operand_as r o → no_switch o2.shape ≡ no_switch o.shape
  no_switch_same o o2 f = ap (λ z. no_switch z.shape) f ∙ (λ i. not (is_number_as r o.shape i) || nat_lt 32 (tested_type_as o.shape i).bits)

  number_to_as : (s : Shape) (g : Gentype) (n : ℕ) → number_to (shape_as r s) (shape.Integers g) n ≡ number_to s (shape.Integers g) n
  number_to_as (shape.Integers f) g n = refl
  number_to_as _ g n = refl

  case_in_as : (s : Shape) (g : Gentype) (n : Option ℕ) → case_in (shape_as r s) g n ≡ case_in s g n
  case_in_as s g None = refl
  case_in_as s g (Some n) = ap Some (number_to_as s g n)

  return_tests_none : (t : Target) → return_tests_of (target_as r t) None ≡ return_tests_of t None
  return_tests_none t = ap (λ z. (323, not z) ∷ []) (is_void_as r t.shape)

  return_tests_some : TellsApart r → (t : Target) (o : Operand) → return_tests_of (target_as r t) (Some (operand_as r o)) ≡ return_tests_of t (Some o)
  return_tests_some d t o = λ i. if is_void_as r t.shape i then (323, true) ∷ [] else ((311, no_value_as r d o t i) ∷ (333, no_pointer_as r d o t i) ∷ [])

module _ (cs ds : List ClType) (r : ℕ → ℕ) (e : IsRenaming cs ds r) where
  result_same : (p p2 : Setting) → p2 ≡ setting_as r p → target ds p2.result ≡ target_as r (target cs p.result)
  result_same p p2 f = ap (λ z. target ds z.result) f ∙ target_of_as cs ds r e p.result

  pub no_return_same : (p p2 : Setting) → p2 ≡ setting_as r p → return_tests ds p2.result None ≡ return_tests cs p.result None
  no_return_same p p2 f = ap (λ z. return_tests_of z None) (result_same p p2 f) ∙ return_tests_none r (target cs p.result)

  pub return_same : (p p2 : Setting) (o o2 : Operand) → p2 ≡ setting_as r p → o2 ≡ operand_as r o → return_tests ds p2.result (Some o2) ≡ return_tests cs p.result (Some o)
  return_same p p2 o o2 f g = (λ i. return_tests_of (result_same p p2 f i) (Some (g i))) ∙ return_tests_some r e.differ (target cs p.result) o

  pub case_same : (g g2 : Gentype) (o o2 : Operand) (t t2 : TExpr) → g2 ≡ g → o2 ≡ operand_as r o → IsTreeAs r t t2 → case_of ds g2 o2 t2 ≡ case_of cs g o t
  case_same g g2 o o2 t t2 f h s = (λ i. case_in (h i).shape (f i) (number_of_as cs ds r e t t2 s i)) ∙ case_in_as r o.shape g (number_of cs t)

  pub case_tests_same : (k k2 : Tested) (o o2 : Operand) (t t2 : TExpr) → k2 ≡ k → o2 ≡ operand_as r o → IsTreeAs r t t2 → case_tests ds o2 (case_of ds k2.of o2 t2) k2.seen ≡ case_tests cs o (case_of cs k.of o t) k.seen
  case_tests_same k k2 o o2 t t2 f h s =
      (λ i. case_tests ds (h i) (case_same k.of k2.of o o2 t t2 (ap (λ z. z.of) f) h s i) (f i).seen)
      ∙ ap (λ z. (311, not z) ∷ (320, no_case (case_of cs k.of o t) k.seen) ∷ []) (is_number_as r o.shape)

  pub divides_same : (t t2 : TExpr) → IsTreeAs r t t2 → divides (constancy_of ds t2) ≡ divides (constancy_of cs t)
  divides_same t t2 s = ap divides (constancy_as cs ds r e t t2 s)
