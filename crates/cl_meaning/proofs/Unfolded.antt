-- Expressions, as their views unfold.
use Rattle.std.proofs.Common.{◌≡◌, Some, ℕ, suc, ◌+◌, ◌-◌, ◌<◌, ◌≤◌, Bool, true, false, eqb, List, [], ◌∷◌, ◌++◌, length, map, get_or, drop, refl, sym, ap, ◌∙◌, subst, arith, add-one, drop-cons, append_assoc}
use Rattle.std.specs.Prelude.{if◌then◌else◌}
use Rattle.std.proofs.lemmas.Bool.{false≢true}
use Rattle.std.proofs.Math.Dec.{eqb-suc-zero}
use Rattle.std.proofs.lemmas.List.{drop_all, append-nil, length-drop}
use Rattle.cl_types.specs.declared.types.ClType.{ClType}
use Rattle.cl_types.specs.declared.types.TypeId.{TypeId}
use Rattle.cl_types.specs.declared.builtin.Builtin.{Builtin}
use Rattle.cl_types.specs.declared.builtin.Builtin.TheVariants as builtin
use Rattle.cl_common.specs.Operators.{gentype_at}
use Rattle.cl_common.specs.Types.{count_at, working}
use Rattle.cl_meaning.specs.declared.code.Expr.{Expr as PlainExpr, out-Expr}
use Rattle.cl_meaning.specs.declared.code.Expr.TheFolds.{fold_out-Expr}
use Rattle.cl_types.specs.declared.operator.BinOp.{BinOp}
use Rattle.cl_types.specs.declared.operator.UnOp.TheVariants as un
use Rattle.cl_tree.specs.declared.shape.Shape.{Shape}
use Rattle.cl_tree.specs.Constants.{gentype_in}
use Rattle.cl_tree.specs.Shapes.{is_pointer, shape_of}
use Rattle.cl_meaning.specs.declared.code.Node.TheVariants as code
use Rattle.cl_meaning.specs.Code.{Node, Expr, Tree}
use Rattle.cl_meaning.specs.Operations.{Convert, Elements, DropSecond, Apply, Fill, Select}
use Rattle.cl_meaning.specs.Tasks.{WorkItem, Atomic, Recall, Task, Step, Quiet, quiet, steps, making}
use Rattle.cl_meaning.specs.Expressions.{Operand, assigned, calculates, changes, indexed, named, of_variable, points, shape_at, writes, used, all_used, types_of, total, operand_of, operands_of, is_place, finds_of, loads, makes, commas, reads, element_bytes, first_gentype, vector_load, built_in}
use Rattle.cl_meaning.specs.Endings.{member_end, on_one, on_two, part, pointee, built_in_end, updated_end, vector_load_end}
use Rattle.cl_meaning.specs.Views.{expr_by, expr_step, exprs_from}

-- an expression as an operand
abbrev pub seen : List ClType → PlainExpr → Operand
seen cs e = operand_of cs (expr_by e)

view_out : (e : PlainExpr) → expr_by e ≡ Tree (out-Expr e).node (out-Expr e).ty (out-Expr e).number (exprs_from (map expr_by (out-Expr e).operands.items))
view_out e = fold_out-Expr Expr expr_step e

operands_seen : (cs : List ClType) (es : List PlainExpr) → operands_of cs (exprs_from (map expr_by es)) ≡ map (λ e. operand_of cs (expr_by e)) es
operands_seen cs [] = refl
operands_seen cs (e ∷ es) = ap (λ os. operand_of cs (expr_by e) ∷ os) (operands_seen cs es)

pub type_seen : (cs : List ClType) (e : PlainExpr) → (operand_of cs (expr_by e)).ty ≡ (out-Expr e).ty
type_seen cs e = ap (λ t. (operand_of cs t).ty) (view_out e)

pub types_seen : (cs : List ClType) (es : List PlainExpr) → types_of (map (λ e. operand_of cs (expr_by e)) es) ≡ map (λ e. (out-Expr e).ty) es
types_seen cs [] = refl
types_seen cs (e ∷ es) = ap (λ t. t ∷ types_of (map (seen cs) es)) (type_seen cs e) ∙ ap (λ ts. (out-Expr e).ty ∷ ts) (types_seen cs es)

pub ruleset operand_types = (types_seen)

-- ---- a node

pub finds_seen : (cs : List ClType) (e : PlainExpr) → (operand_of cs (expr_by e)).finds ≡ finds_of cs (out-Expr e).node (out-Expr e).ty (map (λ e. operand_of cs (expr_by e)) (out-Expr e).operands.items)
finds_seen cs e = ap (λ t. (operand_of cs t).finds) (view_out e) ∙ ap (finds_of cs (out-Expr e).node (out-Expr e).ty) (operands_seen cs (out-Expr e).operands.items)

gives_seen : (cs : List ClType) (e : PlainExpr) (os : List Operand) → os ≡ map (λ e. operand_of cs (expr_by e)) (out-Expr e).operands.items → (operand_of cs (expr_by e)).gives ≡ (if is_place cs (out-Expr e).node os then loads cs (out-Expr e).node (out-Expr e).ty os else makes cs (out-Expr e).node (out-Expr e).ty (out-Expr e).number os)
gives_seen cs e os is =
    ap (λ t. (operand_of cs t).gives) (view_out e)
    ∙ ap (λ os. if is_place cs (out-Expr e).node os then loads cs (out-Expr e).node (out-Expr e).ty os else makes cs (out-Expr e).node (out-Expr e).ty (out-Expr e).number os) (operands_seen cs (out-Expr e).operands.items ∙ sym is)

place_seen : (cs : List ClType) (e : PlainExpr) → (operand_of cs (expr_by e)).is_place ≡ is_place cs (out-Expr e).node (map (λ e. operand_of cs (expr_by e)) (out-Expr e).operands.items)
place_seen cs e = ap (λ t. (operand_of cs t).is_place) (view_out e) ∙ ap (is_place cs (out-Expr e).node) (operands_seen cs (out-Expr e).operands.items)

if_true : {A : Type 0} (b : Bool) (x y : A) → b ≡ true → (if b then x else y) ≡ x
if_true true x y p = refl
if_true false x y p = absurd (false≢true p)

if_false : {A : Type 0} (b : Bool) (x y : A) → b ≡ false → (if b then x else y) ≡ y
if_false true x y p = absurd (false≢true (sym p))
if_false false x y p = refl

pub gives_place : (cs : List ClType) (e : PlainExpr) → (operand_of cs (expr_by e)).is_place ≡ true → (operand_of cs (expr_by e)).gives ≡ loads cs (out-Expr e).node (out-Expr e).ty (map (λ e. operand_of cs (expr_by e)) (out-Expr e).operands.items)
gives_place cs e p = gives_seen cs e _ refl ∙ if_true _ _ _ (sym (place_seen cs e) ∙ p)

pub gives_value : (cs : List ClType) (e : PlainExpr) → (operand_of cs (expr_by e)).is_place ≡ false → (operand_of cs (expr_by e)).gives ≡ makes cs (out-Expr e).node (out-Expr e).ty (out-Expr e).number (map (λ e. operand_of cs (expr_by e)) (out-Expr e).operands.items)
gives_value cs e p = gives_seen cs e _ refl ∙ if_false _ _ _ (sym (place_seen cs e) ∙ p)

pub ruleset values_seen = (gives_place, gives_value)

pub ruleset places_seen = (finds_seen)

-- ---- operands one by one

-- what is left makes the whole
pub record Left (old whole so_far rest : List Task) : Type 0 where
  pub tasks : so_far ++ rest ≡ old ++ whole

first_of : {A : Type 0} (xs : List A) (at : ℕ) (x : A) → at < length xs → x ≡ get_or xs at x → drop at xs ≡ x ∷ drop (at + 1) xs
first_of xs at x h e = drop-cons xs at x h ∙ ap (λ z. z ∷ drop (suc at) xs) (sym e) ∙ ap (λ n. x ∷ drop n xs) (sym (add-one at))

next_on : (old whole so_far new one rest : List Task) → Left old whole so_far (one ++ rest) → new ≡ so_far ++ one → Left old whole new rest
next_on old whole so_far new one rest left is = record { tasks = ap (λ z. z ++ rest) is ∙ append_assoc so_far one rest ∙ left.tasks }

at_end : (old whole so_far : List Task) → Left old whole so_far [] → so_far ≡ old ++ whole
at_end old whole so_far left = sym (append-nil so_far) ∙ left.tasks

pub used_begin : (cs : List ClType) (es : List PlainExpr) (old : List Task) → Left old (all_used (map (λ e. operand_of cs (expr_by e)) es)) old (all_used (map (λ e. operand_of cs (expr_by e)) (drop 0 es)))
used_begin cs es old = record { tasks = refl }

pub used_more : (cs : List ClType) (es : List PlainExpr) (k : ℕ) (e : PlainExpr) (old whole so_far new : List Task) → Left old whole so_far (all_used (map (λ e. operand_of cs (expr_by e)) (drop k es))) → k < length es → e ≡ get_or es k e → new ≡ so_far ++ used (operand_of cs (expr_by e)) → Left old whole new (all_used (map (λ e. operand_of cs (expr_by e)) (drop (k + 1) es)))
used_more cs es k e old whole so_far new left h is made =
    next_on old whole so_far new (used (seen cs e)) (all_used (map (seen cs) (drop (k + 1) es))) (subst (λ l. Left old whole so_far (all_used (map (seen cs) l))) (first_of es k e h is) left) made

pub used_end : (cs : List ClType) (es : List PlainExpr) (k : ℕ) (old whole so_far : List Task) → Left old whole so_far (all_used (map (λ e. operand_of cs (expr_by e)) (drop k es))) → length es ≤ k → so_far ≡ old ++ whole
used_end cs es k old whole so_far left h =
    at_end old whole so_far (subst (λ l. Left old whole so_far (all_used (map (seen cs) l))) (drop_all k es h) left)

pub ruleset operands_left = (used_begin, used_more, used_end)

pub parts_begin : (cs : List ClType) (es : List PlainExpr) (old : List Task) → Left old (commas cs (map (λ e. operand_of cs (expr_by e)) es)) old (commas cs (map (λ e. operand_of cs (expr_by e)) (drop 0 es)))
parts_begin cs es old = record { tasks = refl }

-- the last of a comma is the one behind which there is none
commas_part : (cs : List ClType) (o : Operand) (os : List Operand) (is_last : Bool) → is_last ≡ eqb (length os) 0 → commas cs (o ∷ os) ≡ part cs is_last o ++ commas cs os
commas_part cs o [] is_last is = sym (append-nil (used o)) ∙ ap (λ b. part cs b o ++ []) (sym is)
commas_part cs o (p ∷ os) is_last is = sym (ap (λ b. part cs b o ++ commas cs (p ∷ os)) (is ∙ eqb-suc-zero (length os)))

length_map : (cs : List ClType) (es : List PlainExpr) → length (map (seen cs) es) ≡ length es
length_map cs [] = refl
length_map cs (e ∷ es) = ap suc (length_map cs es)

pub parts_more : (cs : List ClType) (es : List PlainExpr) (k left : ℕ) (is_last : Bool) (e : PlainExpr) (old whole so_far new : List Task) → Left old whole so_far (commas cs (map (λ e. operand_of cs (expr_by e)) (drop k es))) → k < length es → e ≡ get_or es k e → left + (k + 1) ≡ length es → is_last ≡ eqb left 0 → new ≡ so_far ++ part cs is_last (operand_of cs (expr_by e)) → Left old whole new (commas cs (map (λ e. operand_of cs (expr_by e)) (drop (k + 1) es)))
parts_more cs es k left is_last e old whole so_far new going h is count last made =
    let behind : left ≡ length (map (seen cs) (drop (k + 1) es)) = omega (arith, length_map cs (drop (k + 1) es), length-drop (k + 1) es) in
    next_on old whole so_far new (part cs is_last (seen cs e)) (commas cs (map (seen cs) (drop (k + 1) es)))
    (subst (λ l. Left old whole so_far l) (ap (λ l. commas cs (map (seen cs) l)) (first_of es k e h is) ∙ commas_part cs (seen cs e) (map (seen cs) (drop (k + 1) es)) is_last (last ∙ ap (λ n. eqb n 0) behind)) going) made

pub parts_end : (cs : List ClType) (es : List PlainExpr) (k : ℕ) (old whole so_far : List Task) → Left old whole so_far (commas cs (map (λ e. operand_of cs (expr_by e)) (drop k es))) → length es ≤ k → so_far ≡ old ++ whole
parts_end cs es k old whole so_far left h =
    at_end old whole so_far (subst (λ l. Left old whole so_far (commas cs (map (seen cs) l))) (drop_all k es h) left)

pub ruleset parts_left = (parts_begin, parts_more, parts_end)

-- ---- calls of built-in functions

applied_all : (cs : List ClType) (f : Builtin) (ty : TypeId) (os : List Operand) → (all_used os ++ steps (total cs (types_of os))) ++ making (count_at cs ty) (Apply f (length os) (first_gentype cs (types_of os)) (gentype_at cs ty)) ≡ all_used os ++ (steps (total cs (types_of os)) ++ making (count_at cs ty) (Apply f (length os) (first_gentype cs (types_of os)) (gentype_at cs ty)))
applied_all cs f ty os = append_assoc (all_used os) (steps (total cs (types_of os))) (making (count_at cs ty) (Apply f (length os) (first_gentype cs (types_of os)) (gentype_at cs ty)))

vector_load_all : (cs : List ClType) (n : ℕ) (ty : TypeId) (os : List Operand) → vector_load cs n ty os ≡ all_used os ++ vector_load_end cs n ty os
vector_load_all cs n ty os =
    ap (λ z. z ++ (quiet DropSecond ∷ [])) (append_assoc (all_used os) (steps (total cs (types_of os))) (quiet (Elements n (element_bytes cs ty)) ∷ reads cs Step ty))
    ∙ append_assoc (all_used os) (steps (total cs (types_of os)) ++ (quiet (Elements n (element_bytes cs ty)) ∷ reads cs Step ty)) (quiet DropSecond ∷ [])

vector_store_all : (cs : List ClType) (n : ℕ) (ty : TypeId) (number : ℕ) (os : List Operand) → built_in cs (builtin.Vstore n) ty number os ≡ all_used os ++ built_in_end cs (builtin.Vstore n) ty number os
vector_store_all cs n ty number [] = refl
vector_store_all cs n ty number (v ∷ os) = refl

-- the arguments are evaluated, and the rest follows
pub built_in_all : (cs : List ClType) (f : Builtin) (ty : TypeId) (number : ℕ) (os : List Operand) → built_in cs f ty number os ≡ all_used os ++ built_in_end cs f ty number os
built_in_all cs builtin.GetWorkDim ty number os = append_assoc (all_used os) (steps (total cs (types_of os))) (Step (WorkItem builtin.GetWorkDim) ∷ [])
built_in_all cs builtin.GetGlobalSize ty number os = append_assoc (all_used os) (steps (total cs (types_of os))) (Step (WorkItem builtin.GetGlobalSize) ∷ [])
built_in_all cs builtin.GetGlobalId ty number os = append_assoc (all_used os) (steps (total cs (types_of os))) (Step (WorkItem builtin.GetGlobalId) ∷ [])
built_in_all cs builtin.GetLocalSize ty number os = append_assoc (all_used os) (steps (total cs (types_of os))) (Step (WorkItem builtin.GetLocalSize) ∷ [])
built_in_all cs builtin.GetLocalId ty number os = append_assoc (all_used os) (steps (total cs (types_of os))) (Step (WorkItem builtin.GetLocalId) ∷ [])
built_in_all cs builtin.GetNumGroups ty number os = append_assoc (all_used os) (steps (total cs (types_of os))) (Step (WorkItem builtin.GetNumGroups) ∷ [])
built_in_all cs builtin.GetGroupId ty number os = append_assoc (all_used os) (steps (total cs (types_of os))) (Step (WorkItem builtin.GetGroupId) ∷ [])
built_in_all cs builtin.GetGlobalOffset ty number os = append_assoc (all_used os) (steps (total cs (types_of os))) (Step (WorkItem builtin.GetGlobalOffset) ∷ [])
built_in_all cs builtin.Abs ty number os = applied_all cs builtin.Abs ty os
built_in_all cs builtin.AbsDiff ty number os = applied_all cs builtin.AbsDiff ty os
built_in_all cs builtin.AddSat ty number os = applied_all cs builtin.AddSat ty os
built_in_all cs builtin.SubSat ty number os = applied_all cs builtin.SubSat ty os
built_in_all cs builtin.MadSat ty number os = applied_all cs builtin.MadSat ty os
built_in_all cs builtin.Hadd ty number os = applied_all cs builtin.Hadd ty os
built_in_all cs builtin.Rhadd ty number os = applied_all cs builtin.Rhadd ty os
built_in_all cs builtin.Min ty number os = applied_all cs builtin.Min ty os
built_in_all cs builtin.Max ty number os = applied_all cs builtin.Max ty os
built_in_all cs builtin.Clamp ty number os = applied_all cs builtin.Clamp ty os
built_in_all cs builtin.Clz ty number os = applied_all cs builtin.Clz ty os
built_in_all cs builtin.Popcount ty number os = applied_all cs builtin.Popcount ty os
built_in_all cs builtin.MulHi ty number os = applied_all cs builtin.MulHi ty os
built_in_all cs builtin.MadHi ty number os = applied_all cs builtin.MadHi ty os
built_in_all cs builtin.Mul24 ty number os = applied_all cs builtin.Mul24 ty os
built_in_all cs builtin.Mad24 ty number os = applied_all cs builtin.Mad24 ty os
built_in_all cs builtin.Rotate ty number os = applied_all cs builtin.Rotate ty os
built_in_all cs builtin.Upsample ty number os = applied_all cs builtin.Upsample ty os
built_in_all cs builtin.As ty number os = applied_all cs builtin.As ty os
built_in_all cs builtin.Any ty number os = applied_all cs builtin.Any ty os
built_in_all cs builtin.All ty number os = applied_all cs builtin.All ty os
built_in_all cs (builtin.Convert bits signed sat) ty number os = applied_all cs (builtin.Convert bits signed sat) ty os
built_in_all cs (builtin.Select vector) ty number os = applied_all cs (builtin.Select vector) ty os
built_in_all cs (builtin.Vload n) ty number os = vector_load_all cs n ty os
built_in_all cs (builtin.Vstore n) ty number os = vector_store_all cs n ty number os
built_in_all cs builtin.Barrier ty number os = refl
built_in_all cs builtin.MemFence ty number os = refl
built_in_all cs builtin.ReadMemFence ty number os = refl
built_in_all cs builtin.WriteMemFence ty number os = refl
built_in_all cs builtin.AtomicAdd ty number os = append_assoc (all_used os) (steps (total cs (types_of os))) (Step (Atomic builtin.AtomicAdd false (length os - 1)) ∷ [])
built_in_all cs builtin.AtomicSub ty number os = append_assoc (all_used os) (steps (total cs (types_of os))) (Step (Atomic builtin.AtomicSub false (length os - 1)) ∷ [])
built_in_all cs builtin.AtomicXchg ty number os = append_assoc (all_used os) (steps (total cs (types_of os))) (Step (Atomic builtin.AtomicXchg false (length os - 1)) ∷ [])
built_in_all cs builtin.AtomicMin ty number os = append_assoc (all_used os) (steps (total cs (types_of os))) (Step (Atomic builtin.AtomicMin (gentype_at cs ty).signed (length os - 1)) ∷ [])
built_in_all cs builtin.AtomicMax ty number os = append_assoc (all_used os) (steps (total cs (types_of os))) (Step (Atomic builtin.AtomicMax (gentype_at cs ty).signed (length os - 1)) ∷ [])
built_in_all cs builtin.AtomicAnd ty number os = append_assoc (all_used os) (steps (total cs (types_of os))) (Step (Atomic builtin.AtomicAnd false (length os - 1)) ∷ [])
built_in_all cs builtin.AtomicOr ty number os = append_assoc (all_used os) (steps (total cs (types_of os))) (Step (Atomic builtin.AtomicOr false (length os - 1)) ∷ [])
built_in_all cs builtin.AtomicXor ty number os = append_assoc (all_used os) (steps (total cs (types_of os))) (Step (Atomic builtin.AtomicXor false (length os - 1)) ∷ [])
built_in_all cs builtin.AtomicInc ty number os = append_assoc (all_used os) (steps (total cs (types_of os))) (Step (Atomic builtin.AtomicInc false (length os - 1)) ∷ [])
built_in_all cs builtin.AtomicDec ty number os = append_assoc (all_used os) (steps (total cs (types_of os))) (Step (Atomic builtin.AtomicDec false (length os - 1)) ∷ [])
built_in_all cs builtin.AtomicCmpxchg ty number os = append_assoc (all_used os) (steps (total cs (types_of os))) (Step (Atomic builtin.AtomicCmpxchg false (length os - 1)) ∷ [])

-- ---- functions whole: what was made, and what is made behind it

pub built_in_whole : (cs : List ClType) (f : Builtin) (ty : TypeId) (number : ℕ) (es l : List PlainExpr) (old made : List Task) → made ≡ old ++ all_used (map (λ e. operand_of cs (expr_by e)) l) → l ≡ es → made ++ built_in_end cs f ty number (map (λ e. operand_of cs (expr_by e)) es) ≡ old ++ built_in cs f ty number (map (λ e. operand_of cs (expr_by e)) es)
built_in_whole cs f ty number es l old made is same =
    ap (λ z. z ++ built_in_end cs f ty number (map (seen cs) es)) (is ∙ ap (λ l. old ++ all_used (map (seen cs) l)) same)
    ∙ append_assoc old (all_used (map (seen cs) es)) (built_in_end cs f ty number (map (seen cs) es))
    ∙ ap (λ z. old ++ z) (sym (built_in_all cs f ty number (map (seen cs) es)))

-- a node's place, by the node and the operands as they are matched
finds_as : (cs : List ClType) (e : PlainExpr) (l : List PlainExpr) (node : Node) → (out-Expr e).node ≡ node → l ≡ (out-Expr e).operands.items → finds_of cs node (out-Expr e).ty (map (λ e. operand_of cs (expr_by e)) l) ≡ (operand_of cs (expr_by e)).finds
finds_as cs e l node is same =
    ap (λ l. finds_of cs node (out-Expr e).ty (map (seen cs) l)) same
    ∙ ap (λ n. finds_of cs n (out-Expr e).ty (map (seen cs) (out-Expr e).operands.items)) (sym is)
    ∙ sym (finds_seen cs e)

deref_one : (cs : List ClType) (ty : TypeId) (os : List Operand) → on_one (pointee cs) os ≡ finds_of cs (code.Unary un.Deref) ty os
deref_one cs ty [] = refl
deref_one cs ty (a ∷ os) = refl

index_two : (cs : List ClType) (ty : TypeId) (os : List Operand) → on_two (λ a i. indexed cs a i ty) os ≡ finds_of cs code.Index ty os
index_two cs ty [] = refl
index_two cs ty (a ∷ []) = refl
index_two cs ty (a ∷ i ∷ os) = refl

member_one : (cs : List ClType) (k : ℕ) (ty : TypeId) (os : List Operand) → on_one (λ a. named a ++ member_end cs k a.ty ty ∷ []) os ≡ finds_of cs (code.Member k) ty os
member_one cs k ty [] = refl
member_one cs k ty (a ∷ os) = refl

selection_one : (cs : List ClType) (at : List ℕ) (ty : TypeId) (os : List Operand) → on_one (λ a. named a ++ quiet (Select at) ∷ []) os ≡ finds_of cs (code.Components at) ty os
selection_one cs at ty [] = refl
selection_one cs at ty (a ∷ os) = refl

pub deref_found : (cs : List ClType) (e : PlainExpr) (l : List PlainExpr) → (out-Expr e).node ≡ code.Unary un.Deref → l ≡ (out-Expr e).operands.items → on_one (pointee cs) (map (λ e. operand_of cs (expr_by e)) l) ≡ (operand_of cs (expr_by e)).finds
deref_found cs e l is same = deref_one cs (out-Expr e).ty (map (seen cs) l) ∙ finds_as cs e l (code.Unary un.Deref) is same

pub index_found : (cs : List ClType) (e : PlainExpr) (l : List PlainExpr) → (out-Expr e).node ≡ code.Index → l ≡ (out-Expr e).operands.items → on_two (λ a i. indexed cs a i (out-Expr e).ty) (map (λ e. operand_of cs (expr_by e)) l) ≡ (operand_of cs (expr_by e)).finds
index_found cs e l is same = index_two cs (out-Expr e).ty (map (seen cs) l) ∙ finds_as cs e l code.Index is same

pub member_found : (cs : List ClType) (e : PlainExpr) (l : List PlainExpr) (k : ℕ) → (out-Expr e).node ≡ code.Member k → l ≡ (out-Expr e).operands.items → on_one (λ a. named a ++ member_end cs k a.ty (out-Expr e).ty ∷ []) (map (λ e. operand_of cs (expr_by e)) l) ≡ (operand_of cs (expr_by e)).finds
member_found cs e l k is same = member_one cs k (out-Expr e).ty (map (seen cs) l) ∙ finds_as cs e l (code.Member k) is same

pub selection_found : (cs : List ClType) (e : PlainExpr) (l : List PlainExpr) (at : List ℕ) → (out-Expr e).node ≡ code.Components at → l ≡ (out-Expr e).operands.items → on_one (λ a. named a ++ quiet (Select at) ∷ []) (map (λ e. operand_of cs (expr_by e)) l) ≡ (operand_of cs (expr_by e)).finds
selection_found cs e l at is same = selection_one cs at (out-Expr e).ty (map (seen cs) l) ∙ finds_as cs e l (code.Components at) is same

pub loads_whole : (cs : List ClType) (e : PlainExpr) (old made : List Task) → false ≡ points cs (operand_of cs (expr_by e)) → made ≡ old ++ (operand_of cs (expr_by e)).finds → (made ++ reads cs Step (out-Expr e).ty) ++ (quiet DropSecond ∷ []) ≡ old ++ loads cs (out-Expr e).node (out-Expr e).ty (map (λ e. operand_of cs (expr_by e)) (out-Expr e).operands.items)
loads_whole cs e old made other is =
    let os = map (seen cs) (out-Expr e).operands.items in
    let plain : is_pointer (shape_of cs (out-Expr e).ty) ≡ false = sym (other ∙ ap (λ t. is_pointer (shape_of cs t)) (type_seen cs e)) in
    ap (λ z. (z ++ reads cs Step (out-Expr e).ty) ++ (quiet DropSecond ∷ [])) (is ∙ ap (λ z. old ++ z) (finds_seen cs e))
    ∙ append_assoc (old ++ finds_of cs (out-Expr e).node (out-Expr e).ty os) (reads cs Step (out-Expr e).ty) (quiet DropSecond ∷ [])
    ∙ append_assoc old (finds_of cs (out-Expr e).node (out-Expr e).ty os) (reads cs Step (out-Expr e).ty ++ (quiet DropSecond ∷ []))
    ∙ ap (λ z. old ++ z) (sym (if_false (is_pointer (shape_of cs (out-Expr e).ty)) _ _ plain))

pub recalls_whole : (cs : List ClType) (e : PlainExpr) (old : List Task) → true ≡ points cs (operand_of cs (expr_by e)) → old ++ (Step (of_variable Recall (out-Expr e).node) ∷ []) ≡ old ++ loads cs (out-Expr e).node (out-Expr e).ty (map (λ e. operand_of cs (expr_by e)) (out-Expr e).operands.items)
recalls_whole cs e old pointer =
    ap (λ z. old ++ z) (sym (if_true (is_pointer (shape_of cs (out-Expr e).ty)) _ _ (sym (pointer ∙ ap (λ t. is_pointer (shape_of cs t)) (type_seen cs e)))))

pub fill_whole : (cs : List ClType) (e : PlainExpr) (l : List PlainExpr) (old : List Task) → (out-Expr e).node ≡ code.Fill → l ≡ (out-Expr e).operands.items → (old ++ all_used (map (λ e. operand_of cs (expr_by e)) l)) ++ making (count_at cs (out-Expr e).ty) (Fill (types_of (map (λ e. operand_of cs (expr_by e)) l)) (out-Expr e).ty) ≡ old ++ makes cs (out-Expr e).node (out-Expr e).ty (out-Expr e).number (map (λ e. operand_of cs (expr_by e)) (out-Expr e).operands.items)
fill_whole cs e l old is same =
    append_assoc old (all_used (map (seen cs) l)) (making (count_at cs (out-Expr e).ty) (Fill (types_of (map (seen cs) l)) (out-Expr e).ty))
    ∙ ap (λ l. old ++ makes cs code.Fill (out-Expr e).ty (out-Expr e).number (map (seen cs) l)) same
    ∙ ap (λ n. old ++ makes cs n (out-Expr e).ty (out-Expr e).number (map (seen cs) (out-Expr e).operands.items)) (sym is)

-- ---- an operator with an assignment

two_of : (cs : List ClType) (make : Operand → Operand → List Task) (es : List PlainExpr) (a b : PlainExpr) → 2 ≤ length es → a ≡ get_or es 0 a → b ≡ get_or es 1 b → on_two make (map (λ e. operand_of cs (expr_by e)) es) ≡ make (operand_of cs (expr_by a)) (operand_of cs (expr_by b))
two_of cs make [] a b low p q = absurd (omega arith)
two_of cs make (e ∷ []) a b low p q = absurd (omega arith)
two_of cs make (e ∷ f ∷ es) a b low p q = ap (λ x. make (seen cs x) (seen cs f)) (sym p) ∙ ap (λ y. make (seen cs a) (seen cs y)) (sym q)

regrouped : (o n r c u y d : List Task) → ((((o ++ n) ++ r) ++ c) ++ u) ++ (y ++ d) ≡ o ++ (n ++ ((r ++ ((c ++ u) ++ y)) ++ d))
regrouped o n r c u y d =
    append_assoc (((o ++ n) ++ r) ++ c) u (y ++ d)
    ∙ append_assoc ((o ++ n) ++ r) c (u ++ (y ++ d))
    ∙ append_assoc (o ++ n) r (c ++ (u ++ (y ++ d)))
    ∙ append_assoc o n (r ++ (c ++ (u ++ (y ++ d))))
    ∙ ap (λ z. o ++ (n ++ z)) (sym (append_assoc r ((c ++ u) ++ y) d ∙ ap (λ z. r ++ z) (append_assoc (c ++ u) y d ∙ append_assoc c u (y ++ d))))

-- what is assigned, by the type of the place and the type in which the operator calculates
abbrev change_by : (cs : List ClType) (op : BinOp) (a b : Operand) (ty : TypeId) (inner : Shape) → List Task
change_by cs op a b ty inner = named a ++ (changes cs op ty inner [] (used b) ++ quiet DropSecond ∷ [])

pub updated_whole : (cs : List ClType) (op : BinOp) (es : List PlainExpr) (a b : PlainExpr) (s t inner : Shape) (old first second third : List Task) → 2 ≤ length es → a ≡ get_or es 0 a → b ≡ get_or es 1 b → s ≡ shape_of cs (out-Expr a).ty → t ≡ shape_of cs (out-Expr b).ty → inner ≡ working op s t → first ≡ old ++ named (operand_of cs (expr_by a)) → second ≡ (first ++ reads cs Quiet (out-Expr a).ty) ++ (quiet (Convert (shape_of cs (out-Expr a).ty) inner) ∷ []) → third ≡ second ++ used (operand_of cs (expr_by b)) → third ++ updated_end cs op (out-Expr a).ty inner ≡ old ++ on_two (assigned cs (Some op)) (map (λ e. operand_of cs (expr_by e)) es)
updated_whole cs op es a b s t inner old first second third low p q is_s is_t is_inner one two three =
    let c = quiet (Convert (shape_of cs (out-Expr a).ty) inner) ∷ [] in
    let y = calculates cs Quiet op (gentype_in inner) ++ (quiet (Convert inner (shape_of cs (out-Expr a).ty)) ∷ writes cs (out-Expr a).ty) in
    let shapes : inner ≡ working op (shape_at cs (seen cs a)) (shape_at cs (seen cs b)) =
    is_inner
    ∙ ap (λ z. working op z t) (is_s ∙ ap (shape_of cs) (sym (type_seen cs a)))
    ∙ ap (λ z. working op (shape_at cs (seen cs a)) z) (is_t ∙ ap (shape_of cs) (sym (type_seen cs b))) in
    ap (λ z. z ++ updated_end cs op (out-Expr a).ty inner) (three ∙ ap (λ z. z ++ used (seen cs b)) (two ∙ ap (λ z. (z ++ reads cs Quiet (out-Expr a).ty) ++ c) one))
    ∙ regrouped old (named (seen cs a)) (reads cs Quiet (out-Expr a).ty) c (used (seen cs b)) y (quiet DropSecond ∷ [])
    ∙ ap (λ z. old ++ change_by cs op (seen cs a) (seen cs b) z inner) (sym (type_seen cs a))
    ∙ ap (λ z. old ++ change_by cs op (seen cs a) (seen cs b) (seen cs a).ty z) shapes
    ∙ ap (λ z. old ++ z) (sym (two_of cs (assigned cs (Some op)) es a b low p q))
