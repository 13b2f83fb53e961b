-- What the rules say of a node, where types have other numbers: the same, by those numbers.
use Rattle.std.proofs.Common.{◌≡◌, ℕ, List, [], ◌∷◌, map, refl, ap, ◌∙◌, Bool, Option, Some, None}
use Rattle.std.specs.Prelude.{is_some}
use Rattle.std.specs.Option.{option_map}
use Rattle.cl_types.specs.declared.types.ClType.{ClType}
use Rattle.cl_types.specs.declared.types.TypeId.{TypeId}
use Rattle.cl_types.specs.declared.operator.UnOp.{UnOp}
use Rattle.cl_types.specs.declared.operator.BinOp.{BinOp}
use Rattle.cl_ast.specs.declared.expression.ExprNode.{ExprNode}
use Rattle.cl_ast.specs.declared.expression.ExprNode.TheVariants as node
use Rattle.cl_tree.specs.Shapes.{members_of}
use Rattle.cl_rules.specs.declared.rule.Operand.{Operand}
use Rattle.cl_rules.specs.Parts.{member as member_rule_of}
use Rattle.cl_rules.specs.Calls.{call_of}
use Rattle.cl_scope.specs.declared.scope.Signature.{Signature}
use Rattle.cl_scope.specs.Names.{Env, find, find_function}
use Rattle.cl_make.specs.Wanted.{target}
use Rattle.cl_type_expr.specs.Judging.{call_at, call, unary_rule, binary_rule, assign_rule, cond_rule, index_rule, member_rule, comma_rule, judge}
use Rattle.cl_renaming.specs.Renaming.{type_id, operand_as, judged_as, target_as, signature_as, env_as, IsRenaming}
use Rattle.cl_renaming.proofs.Shapes.{members_of_as}
use Rattle.cl_renaming.proofs.Operators.{if_as, unary_as, binary_as, assignment_as}
use Rattle.cl_renaming.proofs.Parts.{chosen_as, indexed_as, comma_as, member_as}
use Rattle.cl_renaming.proofs.Calls.{call_of_as}
use Rattle.cl_renaming.proofs.Words.{target_of_as}
use Rattle.cl_renaming.proofs.Scopes.{is_some_as, find_as, find_function_as}

module _ (cs ds : List ClType) (r : ℕ → ℕ) (e : IsRenaming cs ds r) where
  pub targets_as : (ts : List TypeId) → map (target ds) (map (type_id r) ts) ≡ map (target_as r) (map (target cs) ts)
  targets_as [] = refl
  targets_as (t ∷ ts) = λ i. target_of_as cs ds r e t i ∷ targets_as ts i

  call_at_as : (os : List Operand) (f : Option Signature) → call_at ds (map (operand_as r) os) (option_map (signature_as r) f) ≡ option_map (judged_as r) (call_at cs os f)
  call_at_as os None = refl
  call_at_as os (Some f) =
      ap Some (ap (λ ts. call_of (map (operand_as r) os) ts (signature_as r f)) (targets_as f.params) ∙ call_of_as r e.differ os (map (target cs) f.params) f)

  pub call_as : (env : Env) (name : List ℕ) (os : List Operand) → call ds (env_as r env) name (map (operand_as r) os) ≡ option_map (judged_as r) (call cs env name os)
  call_as env name os =
      if_as (option_map (judged_as r)) _ _ _ _ _ _
      (ap is_some (find_as r env name) ∙ is_some_as _ (find env name))
      refl
      (ap (call_at ds (map (operand_as r) os)) (find_function_as r env name) ∙ call_at_as os (find_function env name))

  unary_rule_as : (op : UnOp) (os : List Operand) → unary_rule op (map (operand_as r) os) ≡ option_map (judged_as r) (unary_rule op os)
  unary_rule_as op [] = refl
  unary_rule_as op (o ∷ []) = unary_as r op o
  unary_rule_as op (o ∷ p ∷ os) = refl

  binary_rule_as : (op : BinOp) (os : List Operand) → binary_rule op (map (operand_as r) os) ≡ option_map (judged_as r) (binary_rule op os)
  binary_rule_as op [] = refl
  binary_rule_as op (a ∷ []) = refl
  binary_rule_as op (a ∷ b ∷ []) = ap Some (binary_as r e.differ op a b)
  binary_rule_as op (a ∷ b ∷ c ∷ os) = refl

  assign_rule_as : (op : Option BinOp) (os : List Operand) → assign_rule op (map (operand_as r) os) ≡ option_map (judged_as r) (assign_rule op os)
  assign_rule_as op [] = refl
  assign_rule_as op (a ∷ []) = refl
  assign_rule_as op (a ∷ b ∷ []) = ap Some (assignment_as r e.differ op a b)
  assign_rule_as op (a ∷ b ∷ c ∷ os) = refl

  cond_rule_as : (os : List Operand) → cond_rule (map (operand_as r) os) ≡ option_map (judged_as r) (cond_rule os)
  cond_rule_as [] = refl
  cond_rule_as (a ∷ []) = refl
  cond_rule_as (a ∷ b ∷ []) = refl
  cond_rule_as (a ∷ b ∷ c ∷ []) = ap Some (chosen_as r e.differ a b c)
  cond_rule_as (a ∷ b ∷ c ∷ d ∷ os) = refl

  index_rule_as : (os : List Operand) → index_rule (map (operand_as r) os) ≡ option_map (judged_as r) (index_rule os)
  index_rule_as [] = refl
  index_rule_as (p ∷ []) = refl
  index_rule_as (p ∷ i ∷ []) = indexed_as r p i
  index_rule_as (p ∷ i ∷ o ∷ os) = refl

  pub member_of_as : (left : Bool) (name : List ℕ) (o : Operand) → member_rule_of left (members_of ds (type_id r o.facts.ty)) name (operand_as r o) ≡ judged_as r (member_rule_of left (members_of cs o.facts.ty) name o)
  member_of_as left name o = ap (λ ms. member_rule_of left ms name (operand_as r o)) (members_of_as cs ds r e o.facts.ty) ∙ member_as r left (members_of cs o.facts.ty) name o

  member_rule_as : (left : Bool) (name : List ℕ) (arrow : Bool) (os : List Operand) → member_rule ds left name arrow (map (operand_as r) os) ≡ option_map (judged_as r) (member_rule cs left name arrow os)
  member_rule_as left name arrow [] = refl
  member_rule_as left name arrow (o ∷ []) = if_as (option_map (judged_as r)) _ arrow _ _ None _ refl refl (ap Some (member_of_as left name o))
  member_rule_as left name arrow (o ∷ p ∷ os) = refl

  comma_rule_as : (os : List Operand) → comma_rule (map (operand_as r) os) ≡ option_map (judged_as r) (comma_rule os)
  comma_rule_as [] = refl
  comma_rule_as (o ∷ os) = comma_as r (o ∷ os)

  pub judge_as : (env : Env) (left : Bool) (n : ExprNode) (os : List Operand) → judge ds (env_as r env) left n (map (operand_as r) os) ≡ option_map (judged_as r) (judge cs env left n os)
  judge_as env left (node.Unary op) os = unary_rule_as op os
  judge_as env left (node.Binary op) os = binary_rule_as op os
  judge_as env left (node.Assign op) os = assign_rule_as op os
  judge_as env left node.Cond os = cond_rule_as os
  judge_as env left node.Index os = index_rule_as os
  judge_as env left (node.Member name arrow) os = member_rule_as left name arrow os
  judge_as env left node.Comma os = comma_rule_as os
  judge_as env left (node.Call name) os = call_as env name os
  judge_as env left _ os = refl
