-- What the rules say of a node stays in longer tables, can be made, and is none only of nodes with rules of their own.
use Rattle.std.proofs.Common.{◌≡◌, ℕ, Bool, true, false, if◌then◌else◌, List, [], ◌∷◌, length, map, Option, Some, None, is_some, bytes_eq, All, refl, sym, ap, ◌∙◌, subst}
use Rattle.std.proofs.lemmas.List.{length-map}
use Rattle.std.proofs.lemmas.List.Elements.{All-head, All-tail}
use Rattle.cl_types.specs.declared.types.ClType.{ClType}
use Rattle.cl_types.specs.declared.types.TypeId.{TypeId}
use Rattle.cl_types.specs.declared.operator.UnOp.{UnOp}
use Rattle.cl_types.specs.declared.operator.UnOp.TheVariants as un
use Rattle.cl_types.specs.declared.operator.BinOp.{BinOp}
use Rattle.cl_types.specs.Table.{IsTable}
use Rattle.cl_builtins.specs.Found.{IsKnown, AreKnown, IsGrown}
use Rattle.cl_ast.specs.declared.expression.ExprNode.{ExprNode}
use Rattle.cl_ast.specs.declared.expression.ExprNode.TheVariants as node
use Rattle.cl_tree.specs.declared.shape.Shape.{Shape}
use Rattle.cl_tree.specs.Shapes.{is_vector}
use Rattle.cl_scope.specs.declared.scope.Signature.{Signature}
use Rattle.cl_scope.specs.Names.{Env, find, find_function, function_in}
use Rattle.cl_scope.specs.Scopes.{SignaturesKnownIn, IsKnownEnv}
use Rattle.cl_rules.specs.declared.rule.Judged.{Judged}
use Rattle.cl_rules.specs.declared.rule.Judged.TheVariants.{Broken}
use Rattle.cl_rules.specs.declared.rule.Operand.{Operand}
use Rattle.cl_rules.specs.declared.rule.Target.{Target}
use Rattle.cl_rules.specs.Parts.{at_index, member}
use Rattle.cl_rules.specs.Calls.{call_of}
use Rattle.cl_make.specs.Ready.{IsReadyOperand, AreKnownOperands}
use Rattle.cl_make.specs.Wanted.{target}
use Rattle.cl_make.proofs.Growing.{none_some, some_same, shape_stays, members_stay}
use Rattle.cl_make.proofs.Asked.{AskedIf, unary_asked, binary_asked, assignment_asked, chosen_asked, indexed_asked, comma_asked, member_asked, call_asked}
use Rattle.cl_type_expr.specs.Judging.{call_at, call, unary_rule, binary_rule, assign_rule, cond_rule, index_rule, member_rule, comma_rule, judge, IsVectorIndexed}

-- ---- functions of the unit

pub record FunctionKnown (cs : List ClType) (f : Signature) : Type 0 where
  pub params : AreKnown cs f.params
  pub result : IsKnown cs f.result

function_in_known : (cs : List ClType) (ss : List Signature) (name : List ℕ) (f : Signature) → SignaturesKnownIn cs ss → function_in name ss ≡ Some f → FunctionKnown cs f
function_in_known cs [] name f k e = absurd (none_some e)
function_in_known cs (s ∷ ss) name f k e = by (bytes_eq name s.name) (function_in_known cs ss name f k.2) e
  where
    by : (found : Bool) → (function_in name ss ≡ Some f → FunctionKnown cs f) → (if found then Some s else function_in name ss) ≡ Some f → FunctionKnown cs f
    by true rest e = subst (FunctionKnown cs) (some_same s f e) (record { params = k.0; result = k.1 })
    by false rest e = rest e

pub function_known : (cs : List ClType) (env : Env) (name : List ℕ) (f : Signature) → IsKnownEnv cs env → find_function env name ≡ Some f → FunctionKnown cs f
function_known cs env name f k e = function_in_known cs env.functions name f k.functions e

-- ---- longer tables

abbrev shaped : TypeId → Shape → Target
shaped t s = record { ty = t; shape = s }

module _ (old new : List ClType) (b : IsTable old) (g : IsGrown old new) where
  pub target_stays : (t : TypeId) → IsKnown old t → target new t ≡ target old t
  target_stays t k = ap (shaped t) (shape_stays old new t b g k)

  targets_stay : (ts : List TypeId) → AreKnown old ts → map (target new) ts ≡ map (target old) ts
  targets_stay [] h = refl
  targets_stay (t ∷ ts) h =
      ap (λ z. z ∷ map (target new) ts) (target_stays t (All-head (IsKnown old) t ts h)) ∙ ap (λ z. target old t ∷ z) (targets_stay ts (All-tail (IsKnown old) t ts h))

  call_at_stays : (os : List Operand) (found : Option Signature) → ((f : Signature) → found ≡ Some f → FunctionKnown old f) → call_at new os found ≡ call_at old os found
  call_at_stays os None k = refl
  call_at_stays os (Some f) k = ap (λ ts. Some (call_of os ts f)) (targets_stay f.params (k f refl).params)

  call_stays : (env : Env) (name : List ℕ) (os : List Operand) → IsKnownEnv old env → call new env name os ≡ call old env name os
  call_stays env name os k =
      ap (λ z. if is_some (find env name) then Some (Broken 314) else z) (call_at_stays os (find_function env name) (λ f e. function_known old env name f k e))

  member_stays : (left : Bool) (name : List ℕ) (arrow : Bool) (os : List Operand) → AreKnownOperands old os → member_rule new left name arrow os ≡ member_rule old left name arrow os
  member_stays left name arrow [] k = refl
  member_stays left name arrow (o ∷ []) k =
      ap (λ ms. if arrow then None else Some (member left ms name o)) (members_stay old new o.facts.ty g (All-head (λ p. IsKnown old p.facts.ty) o [] k))
  member_stays left name arrow (o ∷ p ∷ os) k = refl

  pub judge_stays : (env : Env) (left : Bool) (n : ExprNode) (os : List Operand) → IsKnownEnv old env → AreKnownOperands old os → judge new env left n os ≡ judge old env left n os
  judge_stays env left (node.Unary op) os k h = refl
  judge_stays env left (node.Binary op) os k h = refl
  judge_stays env left (node.Assign op) os k h = refl
  judge_stays env left node.Cond os k h = refl
  judge_stays env left node.Index os k h = refl
  judge_stays env left (node.Member name arrow) os k h = member_stays left name arrow os h
  judge_stays env left node.Comma os k h = refl
  judge_stays env left (node.Call name) os k h = call_stays env name os k
  judge_stays env left _ os k h = refl

-- ---- what a rule makes can be made

abbrev Ready : List ClType → List Operand → Type 0
Ready cs os = All (IsReadyOperand cs) os

call_rule_by : (cs : List ClType) (n : ℕ) (hidden : Bool) (j : Option Judged) → AskedIf cs n j → AskedIf cs n (if hidden then Some (Broken 314) else j)
call_rule_by cs n true j h = tt
call_rule_by cs n false j h = h

module _ (cs : List ClType) (b : IsTable cs) where
  first_ready : (o : Operand) (os : List Operand) → Ready cs (o ∷ os) → IsReadyOperand cs o
  first_ready o os h = All-head (IsReadyOperand cs) o os h

  rest_ready : (o : Operand) (os : List Operand) → Ready cs (o ∷ os) → Ready cs os
  rest_ready o os h = All-tail (IsReadyOperand cs) o os h

  unary_rule_asked : (op : UnOp) (os : List Operand) → Ready cs os → AskedIf cs (length os) (unary_rule op os)
  unary_rule_asked op [] h = tt
  unary_rule_asked op (o ∷ []) h = unary_asked cs b op o (first_ready o [] h)
  unary_rule_asked op (o ∷ p ∷ os) h = tt

  binary_rule_asked : (op : BinOp) (os : List Operand) → Ready cs os → AskedIf cs (length os) (binary_rule op os)
  binary_rule_asked op [] h = tt
  binary_rule_asked op (o ∷ []) h = tt
  binary_rule_asked op (o ∷ p ∷ []) h = binary_asked cs b op o p (first_ready o (p ∷ []) h) (first_ready p [] (rest_ready o (p ∷ []) h))
  binary_rule_asked op (o ∷ p ∷ q ∷ os) h = tt

  assign_rule_asked : (op : Option BinOp) (os : List Operand) → Ready cs os → AskedIf cs (length os) (assign_rule op os)
  assign_rule_asked op [] h = tt
  assign_rule_asked op (o ∷ []) h = tt
  assign_rule_asked op (o ∷ p ∷ []) h = assignment_asked cs b op o p (first_ready o (p ∷ []) h) (first_ready p [] (rest_ready o (p ∷ []) h))
  assign_rule_asked op (o ∷ p ∷ q ∷ os) h = tt

  cond_rule_asked : (os : List Operand) → Ready cs os → AskedIf cs (length os) (cond_rule os)
  cond_rule_asked [] h = tt
  cond_rule_asked (o ∷ []) h = tt
  cond_rule_asked (o ∷ p ∷ []) h = tt
  cond_rule_asked (o ∷ p ∷ q ∷ []) h =
      let rest = rest_ready o (p ∷ q ∷ []) h in
      chosen_asked cs b o p q (first_ready p (q ∷ []) rest) (first_ready q [] (rest_ready p (q ∷ []) rest))
  cond_rule_asked (o ∷ p ∷ q ∷ r ∷ os) h = tt

  index_rule_asked : (os : List Operand) → Ready cs os → AskedIf cs (length os) (index_rule os)
  index_rule_asked [] h = tt
  index_rule_asked (o ∷ []) h = tt
  index_rule_asked (o ∷ p ∷ []) h = indexed_asked cs b o p (first_ready o (p ∷ []) h)
  index_rule_asked (o ∷ p ∷ q ∷ os) h = tt

  member_rule_asked : (left : Bool) (name : List ℕ) (arrow : Bool) (os : List Operand) → Ready cs os → AskedIf cs (length os) (member_rule cs left name arrow os)
  member_rule_asked left name arrow [] h = tt
  member_rule_asked left name true (o ∷ []) h = tt
  member_rule_asked left name false (o ∷ []) h = member_asked cs b left name o (first_ready o [] h)
  member_rule_asked left name arrow (o ∷ p ∷ os) h = tt

  comma_rule_asked : (os : List Operand) → Ready cs os → AskedIf cs (length os) (comma_rule os)
  comma_rule_asked [] h = tt
  comma_rule_asked (o ∷ os) h = comma_asked cs b (o ∷ os) h

  call_at_asked : (os : List Operand) (found : Option Signature) → ((f : Signature) → found ≡ Some f → FunctionKnown cs f) → AskedIf cs (length os) (call_at cs os found)
  call_at_asked os None k = tt
  call_at_asked os (Some f) k = call_asked cs b os (map (target cs) f.params) f (k f refl).params (k f refl).result (length-map f.params (target cs))

  call_rule_asked : (env : Env) (name : List ℕ) (os : List Operand) → IsKnownEnv cs env → AskedIf cs (length os) (call cs env name os)
  call_rule_asked env name os k = call_rule_by cs (length os) (is_some (find env name)) (call_at cs os (find_function env name)) (call_at_asked os (find_function env name) (λ f e. function_known cs env name f k e))

  pub judge_asks : (env : Env) (left : Bool) (n : ExprNode) (os : List Operand) → IsKnownEnv cs env → Ready cs os → AskedIf cs (length os) (judge cs env left n os)
  judge_asks env left (node.Unary op) os k h = unary_rule_asked op os h
  judge_asks env left (node.Binary op) os k h = binary_rule_asked op os h
  judge_asks env left (node.Assign op) os k h = assign_rule_asked op os h
  judge_asks env left node.Cond os k h = cond_rule_asked os h
  judge_asks env left node.Index os k h = index_rule_asked os h
  judge_asks env left (node.Member name arrow) os k h = member_rule_asked left name arrow os h
  judge_asks env left node.Comma os k h = comma_rule_asked os h
  judge_asks env left (node.Call name) os k h = call_rule_asked env name os k
  judge_asks env left _ os k h = tt

-- ---- nodes with rules of their own

pub size_alone : (op : UnOp) (os : List Operand) → unary_rule op os ≡ None → (op ≡ un.Sizeof) × (length os ≡ 1)
size_alone op [] e = absurd (none_some (sym e))
size_alone op (o ∷ p ∷ os) e = absurd (none_some (sym e))
size_alone un.Plus (o ∷ []) e = absurd (none_some (sym e))
size_alone un.Minus (o ∷ []) e = absurd (none_some (sym e))
size_alone un.Not (o ∷ []) e = absurd (none_some (sym e))
size_alone un.LogicalNot (o ∷ []) e = absurd (none_some (sym e))
size_alone un.Deref (o ∷ []) e = absurd (none_some (sym e))
size_alone un.Address (o ∷ []) e = absurd (none_some (sym e))
size_alone un.PreInc (o ∷ []) e = absurd (none_some (sym e))
size_alone un.PreDec (o ∷ []) e = absurd (none_some (sym e))
size_alone un.PostInc (o ∷ []) e = absurd (none_some (sym e))
size_alone un.PostDec (o ∷ []) e = absurd (none_some (sym e))
size_alone un.Sizeof (o ∷ []) e = (refl, refl)

pub arrow_alone : (cs : List ClType) (left : Bool) (name : List ℕ) (arrow : Bool) (os : List Operand) → member_rule cs left name arrow os ≡ None → (arrow ≡ true) × (length os ≡ 1)
arrow_alone cs left name arrow [] e = absurd (none_some (sym e))
arrow_alone cs left name true (o ∷ []) e = (refl, refl)
arrow_alone cs left name false (o ∷ []) e = absurd (none_some (sym e))
arrow_alone cs left name arrow (o ∷ p ∷ os) e = absurd (none_some (sym e))

vector_alone : (vector : Bool) (j : Judged) → (if vector then None else Some j) ≡ None → vector ≡ true
vector_alone true j e = refl
vector_alone false j e = absurd (none_some (sym e))

pub index_alone : (os : List Operand) → index_rule os ≡ None → (length os ≡ 2) × IsVectorIndexed os
index_alone [] e = absurd (none_some (sym e))
index_alone (o ∷ []) e = absurd (none_some (sym e))
index_alone (o ∷ p ∷ []) e = (refl, vector_alone (is_vector o.shape) (at_index o o.shape p.shape) e)
index_alone (o ∷ p ∷ q ∷ os) e = absurd (none_some (sym e))

pub binary_always : (op : BinOp) (os : List Operand) → binary_rule op os ≡ None → ⊥
binary_always op [] e = none_some (sym e)
binary_always op (o ∷ []) e = none_some (sym e)
binary_always op (o ∷ p ∷ []) e = none_some (sym e)
binary_always op (o ∷ p ∷ q ∷ os) e = none_some (sym e)

pub assign_always : (op : Option BinOp) (os : List Operand) → assign_rule op os ≡ None → ⊥
assign_always op [] e = none_some (sym e)
assign_always op (o ∷ []) e = none_some (sym e)
assign_always op (o ∷ p ∷ []) e = none_some (sym e)
assign_always op (o ∷ p ∷ q ∷ os) e = none_some (sym e)

pub cond_always : (os : List Operand) → cond_rule os ≡ None → ⊥
cond_always [] e = none_some (sym e)
cond_always (o ∷ []) e = none_some (sym e)
cond_always (o ∷ p ∷ []) e = none_some (sym e)
cond_always (o ∷ p ∷ q ∷ []) e = none_some (sym e)
cond_always (o ∷ p ∷ q ∷ r ∷ os) e = none_some (sym e)

pub comma_always : (os : List Operand) → comma_rule os ≡ None → ⊥
comma_always [] e = none_some (sym e)
comma_always (o ∷ os) e = none_some (sym e)
