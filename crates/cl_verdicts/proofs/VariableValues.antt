-- A value comes to one outcome, whatever numbers types have.
use Rattle.std.proofs.Common.{◌≡◌, ℕ, List, [], sym, ap, ◌∙◌, Bool, ◌&&◌, not, ◌||◌}
use Rattle.clv_place.specs.declared.stop.Offence.{Offence}
use Rattle.cl_types.specs.declared.types.ClType.{ClType}
use Rattle.cl_types.specs.declared.types.TypeId.{TypeId}
use Rattle.cl_types.specs.Table.{AreBuilt}
use Rattle.cl_ast.specs.declared.expression.Expr.{Expr}
use Rattle.cl_tree.specs.declared.expression.TExpr.{TExpr}
use Rattle.cl_tree.specs.Constants.{divides}
use Rattle.cl_tree.specs.Shapes.{shape_of}
use Rattle.cl_rules.specs.declared.rule.Operand.{Operand}
use Rattle.cl_rules.specs.declared.rule.Target.{Target}
use Rattle.cl_scope.specs.Names.{Env}
use Rattle.cl_make.specs.Wanted.{target}
use Rattle.cl_make.proofs.Growing.{none_some, some_same}
use Rattle.cl_type_expr.specs.Offences.{at}
use Rattle.cl_variables.specs.Initialisers.{tally_at, tally_of, takes_whole_at, takes_whole, has_parts, is_varying, IsValue, ValueOffends, in_expression, value_divides}
use Rattle.cl_renaming.specs.Renaming.{type_id, operand_as, target_as, env_as, IsRenaming, AreTypes}
use Rattle.cl_renaming.proofs.Shapes.{shape_of_as, is_array_as, is_struct_as, same_as, no_value_as, no_pointer_as}
use Rattle.cl_renaming.proofs.Words.{target_of_as}
use Rattle.cl_renaming.proofs.Values.{constancy_as}
use Rattle.cl_renaming.proofs.Agreement.{types_same}
use Rattle.cl_renaming.proofs.Excluded.{typed_no_offence}
use Rattle.cl_renaming.proofs.Excluding.{offence_no_type}
use Rattle.cl_renaming.proofs.OneOffence.{offences_one}
use Rattle.cl_verdicts.proofs.VariableOutcomes.{Outcome, gives, stops, outcome_as, Valuing, valuing, valuing_as}

-- what a value comes to
pub data ValueComes (cs : List ClType) (constant : Bool) : Env → Expr → Outcome Valuing → Type 0 where
  value_gives : (env after : Env) (x : Expr) (t : TExpr) (o : Operand) (varies : Bool) → IsValue cs constant env x after t o varies → ValueComes cs constant env x (gives (valuing after o varies))
  value_stops : (env : Env) (x : Expr) (o : Offence) → ValueOffends cs constant env x o → ValueComes cs constant env x (stops o)

-- ---- what values are asked

module _ (cs ds : List ClType) (r : ℕ → ℕ) (e : IsRenaming cs ds r) where
  target_tally : (o : Operand) (t : Target) (varies : Bool) → tally_at (operand_as r o) (target_as r t) varies ≡ tally_at o t varies
  target_tally o t varies = λ i. record { no_value = no_value_as r e.differ o t i; no_pointer = no_pointer_as r e.differ o t i; varies = varies }

  pub tally_of_as : (o : Operand) (ty : TypeId) (varies : Bool) → tally_of ds (operand_as r o) (type_id r ty) varies ≡ tally_of cs o ty varies
  tally_of_as o ty varies = ap (λ t. tally_at (operand_as r o) t varies) (target_of_as cs ds r e ty) ∙ target_tally o (target cs ty) varies

  target_taken : (t : Target) (o : Operand) → takes_whole_at (target_as r t) (operand_as r o) ≡ takes_whole_at t o
  target_taken t o = λ i. not (is_array_as r t.shape i) && (not (is_struct_as r t.shape i) || same_as r e.differ t.ty o.facts.ty i)

  pub takes_whole_as : (ty : TypeId) (o : Operand) → takes_whole ds (type_id r ty) (operand_as r o) ≡ takes_whole cs ty o
  takes_whole_as ty o = ap (λ t. takes_whole_at t (operand_as r o)) (target_of_as cs ds r e ty) ∙ target_taken (target cs ty) o

  pub has_parts_as : (ty : TypeId) → has_parts (shape_of ds (type_id r ty)) ≡ has_parts (shape_of cs ty)
  has_parts_as ty = ap has_parts (shape_of_as cs ds r e ty) ∙ (λ i. is_array_as r (shape_of cs ty) i || is_struct_as r (shape_of cs ty) i)

-- ---- one outcome

module _ (cs ds : List ClType) (r : ℕ → ℕ) (e : IsRenaming cs ds r) (bc : AreBuilt [] cs) (b : AreTypes ds) (constant : Bool) where
  values_same : (env : Env) (x : Expr) (after : Env) (t : TExpr) (o : Operand) (varies : Bool) → IsValue cs constant env x after t o varies → (env2 after2 : Env) (t2 : TExpr) (o2 : Operand) (varies2 : Bool) → env2 ≡ env_as r env → IsValue ds constant env2 x after2 t2 o2 varies2 → valuing after2 o2 varies2 ≡ valuing_as r (valuing after o varies)
  values_same env x after t o varies h env2 after2 t2 o2 varies2 f k =
      let a = types_same cs ds r e bc b _ _ _ _ _ _ h.types env2 after2 t2 o2 f k.types in
      let v : varies2 ≡ varies = k.is ∙ ap (λ c. constant && is_varying c) (constancy_as cs ds r e t t2 a.2) ∙ sym h.is in
      λ i. valuing (a.0 i) (a.1 i) (v i)

  value_no_offence : (env2 : Env) (x : Expr) (p : Offence) → ValueOffends ds constant env2 x p → (env after : Env) (t : TExpr) (o : Operand) (varies : Bool) → env2 ≡ env_as r env → IsValue cs constant env x after t o varies → ⊥
  value_no_offence _ _ _ (in_expression env2 x p h) env after t o varies f k = typed_no_offence cs ds r e bc b _ _ _ _ h env after t o f k.types
  value_no_offence _ _ _ (value_divides env2 after2 x t2 o2 p c h g) env after t o varies f k =
      let a = types_same cs ds r e bc b _ _ _ _ _ _ k.types env2 after2 t2 o2 f h in
      none_some (sym (k.exact c) ∙ ap divides (sym (constancy_as cs ds r e t t2 a.2)) ∙ g)

  offence_no_value : (env : Env) (x : Expr) (p : Offence) → ValueOffends cs constant env x p → (env2 after2 : Env) (t2 : TExpr) (o2 : Operand) (varies2 : Bool) → env2 ≡ env_as r env → IsValue ds constant env2 x after2 t2 o2 varies2 → ⊥
  offence_no_value _ _ _ (in_expression env x p h) env2 after2 t2 o2 varies2 f k = offence_no_type cs ds r e bc b _ _ _ _ h env2 after2 t2 o2 f k.types
  offence_no_value _ _ _ (value_divides env after x t o p c h g) env2 after2 t2 o2 varies2 f k =
      let a = types_same cs ds r e bc b _ _ _ _ _ _ h env2 after2 t2 o2 f k.types in
      none_some (sym (k.exact c) ∙ ap divides (constancy_as cs ds r e t t2 a.2) ∙ g)

  value_offences_one : (env : Env) (x : Expr) (p : Offence) → ValueOffends cs constant env x p → (env2 : Env) (p2 : Offence) → env2 ≡ env_as r env → ValueOffends ds constant env2 x p2 → p2 ≡ p
  value_offences_one _ _ _ (in_expression env x p h) _ _ f (in_expression env2 x2 p2 k) = offences_one cs ds r e bc b _ _ _ _ h env2 p2 f k
  value_offences_one _ _ _ (in_expression env x p h) _ _ f (value_divides env2 after2 x2 t2 o2 p2 c k g) = absurd (offence_no_type cs ds r e bc b _ _ _ _ h env2 after2 t2 o2 f k)
  value_offences_one _ _ _ (value_divides env after x t o p c h g) _ _ f (in_expression env2 x2 p2 k) = absurd (typed_no_offence cs ds r e bc b _ _ _ _ k env after t o f h)
  value_offences_one _ _ _ (value_divides env after x t o p c h g) _ _ f (value_divides env2 after2 x2 t2 o2 p2 c2 k g2) =
      let a = types_same cs ds r e bc b _ _ _ _ _ _ h env2 after2 t2 o2 f k in
      ap (at 334) (some_same p2 p (sym g2 ∙ ap divides (constancy_as cs ds r e t t2 a.2) ∙ g))

  pub value_one : (env : Env) (x : Expr) (v : Outcome Valuing) → ValueComes cs constant env x v → (env2 : Env) (w : Outcome Valuing) → env2 ≡ env_as r env → ValueComes ds constant env2 x w → w ≡ outcome_as (valuing_as r) v
  value_one _ _ _ (value_gives env after x t o varies h) _ _ f (value_gives env2 after2 x2 t2 o2 varies2 k) = ap gives (values_same env x after t o varies h env2 after2 t2 o2 varies2 f k)
  value_one _ _ _ (value_gives env after x t o varies h) _ _ f (value_stops env2 x2 p2 k) = absurd (value_no_offence env2 x p2 k env after t o varies f h)
  value_one _ _ _ (value_stops env x p h) _ _ f (value_gives env2 after2 x2 t2 o2 varies2 k) = absurd (offence_no_value env x p h env2 after2 t2 o2 varies2 f k)
  value_one _ _ _ (value_stops env x p h) _ _ f (value_stops env2 x2 p2 k) = ap stops (value_offences_one env x p h env2 p2 f k)
