-- What the rules say of a node, from what its operands are.
use Rattle.std.specs.Prelude.{◌≡◌, ℕ, Bool, true, if◌then◌else◌, List, [], ◌∷◌, map, Option, Some, None, is_some}
use Rattle.cl_types.specs.declared.types.ClType.{ClType}
use Rattle.cl_types.specs.declared.operator.UnOp.{UnOp}
use Rattle.cl_types.specs.declared.operator.BinOp.{BinOp}
use Rattle.cl_ast.specs.declared.expression.ExprNode.{ExprNode}
use Rattle.cl_ast.specs.declared.expression.ExprNode.TheVariants as node
use Rattle.cl_tree.specs.Shapes.{members_of, is_vector}
use Rattle.cl_scope.specs.declared.scope.Signature.{Signature}
use Rattle.cl_scope.specs.Names.{Env, find, find_function}
use Rattle.cl_rules.specs.declared.rule.Judged.{Judged}
use Rattle.cl_rules.specs.declared.rule.Judged.TheVariants.{Broken}
use Rattle.cl_rules.specs.declared.rule.Operand.{Operand}
use Rattle.cl_rules.specs.Operators.{unary, binary, assignment}
use Rattle.cl_rules.specs.Parts.{chosen, indexed, comma, member}
use Rattle.cl_rules.specs.Calls.{call_of}
use Rattle.cl_make.specs.Wanted.{target}

-- ---- calls of functions of the unit

abbrev pub call_at : List ClType → List Operand → Option Signature → Option Judged
call_at cs os None = None
call_at cs os (Some f) = Some (call_of os (map (target cs) f.params) f)

-- 314: what is called is a variable; a function that the unit declares hides a built-in one
abbrev pub call : List ClType → Env → List ℕ → List Operand → Option Judged
call cs env name os = if is_some (find env name) then Some (Broken 314) else call_at cs os (find_function env name)

-- ---- the rules of nodes that hold no type

-- An operator has as many operands as the grammar gives it: a tree with others stands for no text, and breaks 308.
abbrev pub odd : Option Judged
odd = Some (Broken 308)

abbrev pub unary_rule : UnOp → List Operand → Option Judged
unary_rule op (o ∷ []) = unary op o
unary_rule op os = odd

abbrev pub binary_rule : BinOp → List Operand → Option Judged
binary_rule op (a ∷ b ∷ []) = Some (binary op a b)
binary_rule op os = odd

abbrev pub assign_rule : Option BinOp → List Operand → Option Judged
assign_rule op (p ∷ v ∷ []) = Some (assignment op p v)
assign_rule op os = odd

abbrev pub cond_rule : List Operand → Option Judged
cond_rule (test ∷ a ∷ b ∷ []) = Some (chosen test a b)
cond_rule os = odd

abbrev pub index_rule : List Operand → Option Judged
index_rule (p ∷ i ∷ []) = indexed p i
index_rule os = odd

-- a member behind `->` is a rule of its own
abbrev pub member_rule : List ClType → Bool → List ℕ → Bool → List Operand → Option Judged
member_rule cs left name arrow (o ∷ []) = if arrow then None else Some (member left (members_of cs o.facts.ty) name o)
member_rule cs left name arrow os = odd

abbrev pub comma_rule : List Operand → Option Judged
comma_rule [] = odd
comma_rule (o ∷ os) = comma (o ∷ os)

-- what a node's rule says of typed operands; none where the node has a rule of its own
abbrev pub judge : List ClType → Env → Bool → ExprNode → List Operand → Option Judged
judge cs env left (node.Unary op) os = unary_rule op os
judge cs env left (node.Binary op) os = binary_rule op os
judge cs env left (node.Assign op) os = assign_rule op os
judge cs env left node.Cond os = cond_rule os
judge cs env left node.Index os = index_rule os
judge cs env left (node.Member name arrow) os = member_rule cs left name arrow os
judge cs env left node.Comma os = comma_rule os
judge cs env left (node.Call name) os = call cs env name os
judge cs env left _ os = None

-- a vector before `[` and what stands between the brackets
abbrev pub IsVectorIndexed : List Operand → Type 0
IsVectorIndexed (o ∷ i ∷ []) = is_vector o.shape ≡ true
IsVectorIndexed _ = ⊥
