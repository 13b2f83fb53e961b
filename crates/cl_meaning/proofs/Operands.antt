-- The tasks of each expression are those of expressions, with at most `room` moves before the first step.
use Rattle.std.proofs.Common.{◌≡◌, ℕ, suc, ◌+◌, max, ◌&&◌, Bool, true, false, if◌then◌else◌, List, [], ◌∷◌, ◌++◌, Option, Some, None, refl, ap, subst, arith}
use Rattle.cl_types.specs.declared.types.ClType.{ClType}
use Rattle.cl_types.specs.declared.types.TypeId.{TypeId}
use Rattle.cl_types.specs.declared.operator.UnOp.{UnOp}
use Rattle.cl_types.specs.declared.operator.UnOp.TheVariants as un
use Rattle.cl_types.specs.declared.operator.BinOp.{BinOp}
use Rattle.cl_types.specs.declared.operator.BinOp.TheVariants as bin
use Rattle.cl_types.specs.declared.builtin.Builtin.{Builtin}
use Rattle.cl_types.specs.declared.builtin.Builtin.TheVariants as builtin
use Rattle.cl_builtins.specs.declared.kind.Gentype.{Gentype}
use Rattle.cl_tree.specs.declared.shape.Shape.{Shape}
use Rattle.cl_tree.specs.Shapes.{shape_of, is_pointer, is_array}
use Rattle.cl_meaning.specs.Code.{Node, Expr, Exprs, Tree, NoExpr, AndExpr}
use Rattle.cl_meaning.specs.Code as code
use Rattle.cl_common.specs.Types.{count_at, promoted_in}
use Rattle.cl_meaning.specs.Operations.{Operation, Drop, DropSecond, Swap, Keep, Sure, Follow, Address}
use Rattle.cl_meaning.specs.Tasks.{Act, Pass, Operate, Recall, Point, Read, Write, Component, Unless, Task, Step, Quiet}
use Rattle.cl_meaning.specs.Expressions.{Operand, used, all_used, named, of_variable, of_named, node_of, ones, shape_at, points, further, indexed, finds_of, is_place, is_call, reads, writes, calculates, changes, assigned, number_prefix, number_postfix, points_to, one_further, converts, prefix, postfix, unary, calculated, binary, dropped, commas, passes, fence, vector_load, vector_store, built_in, makes, loads, operand_in, operand_of, operands_of, uses, drops}
use Rattle.cl_meaning.proofs.Plain.{room, rooms, IsPlain, IsSimple, Fine, none, more, both, stepped, quieted, either, behind_step, at_step, steps_fine, making_fine, each_step, each_quiet}

op_fine : {ts : List Task} {n : ℕ} (op : Operation) → Fine ts n → Fine (Quiet (Operate op) ∷ ts) (suc n)
op_fine op f = quieted (Operate op) tt f

-- what a variable's node does with its pointer
variable_simple : (act : Bool → ℕ → Act) → ((is_param : Bool) (k : ℕ) → IsSimple (act is_param k)) → (node : Node) → IsSimple (of_variable act node)
variable_simple act h (code.Param k) = h true k
variable_simple act h (code.Var k) = h false k
variable_simple act h _ = tt

variable_plain : (act : Bool → ℕ → Act) → ((is_param : Bool) (k : ℕ) → IsPlain (act is_param k)) → (node : Node) → IsPlain (of_variable act node)
variable_plain act h (code.Param k) = h true k
variable_plain act h (code.Var k) = h false k
variable_plain act h _ = tt

module _ (cs : List ClType) where
  -- What an operand's tasks are.
  pub record Good (o : Operand) : Type 0 where
    pub finds : Fine o.finds (room o.tree)
    pub whole : Fine (used o) (room o.tree)
    pub drops : Fine (dropped cs o) (room o.tree)

  abbrev pub room_of : List Operand → ℕ
  room_of [] = 0
  room_of (o ∷ os) = room o.tree + room_of os

  abbrev pub AllGood : List Operand → Type 0
  AllGood [] = Unit {0}
  AllGood (o ∷ os) = Good o × AllGood os

  named_fine : (o : Operand) → Good o → Fine (named o) (room o.tree)
  named_fine o g = at_step Pass tt g.finds

  -- ---- places

  further_fine : (i : Operand) (ty : TypeId) → Fine (further cs i ty) 2
  further_fine i ty = op_fine _ (op_fine Follow none)

  indexed_fine : (a i : Operand) (ty : TypeId) → Good a → Good i → Fine (indexed cs a i ty) (room a.tree + (room i.tree + 6))
  indexed_fine a i ty g h = either (points cs a)
      (both g.whole (both h.whole (more 2 6 (further_fine i ty) (omega arith))))
      (both (named_fine a g) (both h.whole (op_fine Swap (op_fine _ (op_fine Address (op_fine Swap (further_fine i ty)))))))

  finds_fine : (node : Node) (ty : TypeId) (os : List Operand) → AllGood os → Fine (finds_of cs node ty os) (6 + room_of os)
  finds_fine (code.Param k) ty os g = more 1 (6 + room_of os) (quieted _ tt none) (omega arith)
  finds_fine (code.Var k) ty os g = more 1 (6 + room_of os) (quieted _ tt none) (omega arith)
  finds_fine (code.Local k) ty os g = more 1 (6 + room_of os) (op_fine _ none) (omega arith)
  finds_fine (code.Constant k) ty os g = more 1 (6 + room_of os) (op_fine _ none) (omega arith)
  finds_fine (code.Unary un.Deref) ty (a ∷ os) g = more (room a.tree + 1) _ (either (points cs a) (both g.0.whole (op_fine Follow none)) (both (named_fine a g.0) (op_fine _ none))) (omega arith)
  finds_fine code.Index ty (a ∷ i ∷ os) g = more _ _ (indexed_fine a i ty g.0 g.1.0) (omega arith)
  finds_fine (code.Member k) ty (a ∷ os) g = more _ _ (both (named_fine a g.0) (op_fine _ none)) (omega arith)
  finds_fine (code.Components at) ty (a ∷ os) g = more _ _ (both (named_fine a g.0) (op_fine _ none)) (omega arith)
  finds_fine _ ty os g = more _ _ none (omega arith)

  -- ---- scalars one by one

  reads_step : (ty : TypeId) → Fine (reads cs Step ty) 1
  reads_step ty = op_fine _ (each_step (Read ty) (λ k. tt) 0 (count_at cs ty))

  reads_quiet : (ty : TypeId) → Fine (reads cs Quiet ty) (suc (count_at cs ty))
  reads_quiet ty = op_fine _ (each_quiet (Read ty) (λ k. tt) 0 (count_at cs ty))

  writes_fine : (ty : TypeId) → Fine (writes cs ty) 0
  writes_fine ty = each_step (Write ty) (λ k. tt) 0 (count_at cs ty)

  calculates_step : (op : BinOp) (t : Gentype) → Fine (calculates cs Step op t) 3
  calculates_step op t = op_fine _ (both (each_step (Component op t) (λ k. tt) 0 t.count) (op_fine DropSecond (op_fine DropSecond none)))

  calculates_quiet : (op : BinOp) (t : Gentype) → Fine (calculates cs Quiet op t) (suc (t.count + 2))
  calculates_quiet op t = op_fine _ (both (each_quiet (Component op t) (λ k. tt) 0 t.count) (op_fine DropSecond (op_fine DropSecond none)))

  -- ---- assignments

  -- however many: they come behind a step
  record Some_fine (ts : List Task) : Type 0 where
    most : ℕ
    fine : Fine ts most

  changes_fine : (op : BinOp) (ty : TypeId) (inner : Shape) (kept right : List Task) → Some_fine kept → Some_fine right → Some_fine (changes cs op ty inner kept right)
  changes_fine op ty inner kept right k r = record { most = _; fine = both (reads_quiet ty) (both k.fine (op_fine _ (both r.fine (both (calculates_quiet op _) (op_fine _ (writes_fine ty)))))) }

  assigned_fine : (op : Option BinOp) (a b : Operand) → Good a → Good b → Fine (assigned cs op a b) (room a.tree)
  assigned_fine None a b g h = behind_step Pass tt g.finds (both h.whole (both (writes_fine a.ty) (op_fine DropSecond none)))
  assigned_fine (Some op) a b g h = behind_step Pass tt g.finds (both (changes_fine op a.ty _ [] (used b) (record { most = _; fine = none }) (record { most = _; fine = h.whole })).fine (op_fine DropSecond none))

  ones_fine : (s : Shape) → Some_fine (ones s)
  ones_fine s = record { most = _; fine = op_fine _ none }

  number_prefix_fine : (op : BinOp) (a : Operand) → Good a → Fine (number_prefix cs op a) (room a.tree)
  number_prefix_fine op a g = behind_step Pass tt g.finds (both (changes_fine op a.ty _ [] _ (record { most = _; fine = none }) (ones_fine (promoted_in (shape_at cs a)))).fine (op_fine DropSecond none))

  number_postfix_fine : (op : BinOp) (a : Operand) → Good a → Fine (number_postfix cs op a) (room a.tree)
  number_postfix_fine op a g = behind_step Pass tt g.finds (both (changes_fine op a.ty _ _ _ (record { most = _; fine = op_fine Keep none }) (ones_fine (promoted_in (shape_at cs a)))).fine (op_fine Drop (op_fine Drop none)))

  -- ---- pointers

  recalls : (o : Operand) → IsSimple (of_named Recall o)
  recalls o = variable_simple Recall (λ b k. tt) (node_of o.tree)

  points_plain : (o : Operand) → IsPlain (of_named Point o)
  points_plain o = variable_plain Point (λ b k. tt) (node_of o.tree)

  points_to_fine : (op : Option BinOp) (p q : Operand) → Good p → Good q → Fine (points_to cs op p q) 0
  points_to_fine None p q g h = stepped Pass tt (both h.whole (stepped _ (points_plain p) none))
  points_to_fine (Some op) p q g h = stepped Pass tt (quieted _ (recalls p) (both h.whole (op_fine _ (stepped _ (points_plain p) none))))

  one_further_fine : (op : BinOp) (p : Operand) → Fine (one_further cs op p) 3
  one_further_fine op p = quieted _ (recalls p) (op_fine _ (op_fine _ (stepped _ (points_plain p) none)))

  -- ---- values

  converts_fine : (ty : TypeId) (a : Operand) → Good a → Fine (converts cs ty a) (room a.tree + 1)
  converts_fine ty a g = either (is_array (shape_at cs a))
      (both (named_fine a g) (op_fine _ (stepped _ tt none)))
      (more (room a.tree + 0) (room a.tree + 1) (both g.whole (making_fine _ _)) (omega arith))

  prefix_fine : (op : BinOp) (a : Operand) → Good a → Fine (prefix cs op a) (room a.tree)
  prefix_fine op a g = either (points cs a) (more 0 (room a.tree) (stepped Pass tt (one_further_fine op a)) (omega arith)) (number_prefix_fine op a g)

  postfix_fine : (op : BinOp) (a : Operand) → Good a → Fine (postfix cs op a) (room a.tree)
  postfix_fine op a g = either (points cs a) (more 0 (room a.tree) (stepped Pass tt (quieted _ (recalls a) (both (one_further_fine op a) (op_fine Drop none)))) (omega arith)) (number_postfix_fine op a g)

  unary_fine : (op : UnOp) (ty : TypeId) (a : Operand) → Good a → Fine (unary cs op ty a) (room a.tree)
  unary_fine un.Address ty a g = more (room a.tree + 0) _ (both (named_fine a g) (stepped _ tt none)) (omega arith)
  unary_fine un.Deref ty a g = more (room a.tree + 0) _ (both g.whole (making_fine _ _)) (omega arith)
  unary_fine un.PreInc ty a g = prefix_fine bin.Add a g
  unary_fine un.PreDec ty a g = prefix_fine bin.Sub a g
  unary_fine un.PostInc ty a g = postfix_fine bin.Add a g
  unary_fine un.PostDec ty a g = postfix_fine bin.Sub a g
  unary_fine op ty a g = more (room a.tree + 0) _ (both g.whole (making_fine _ _)) (omega arith)

  calculated_fine : (op : BinOp) (a b : Operand) → Fine (calculated cs op a b) 3
  calculated_fine op a b =
      either (points cs a && points cs b) (more 0 3 (stepped _ tt none) (omega arith))
      (either (points cs a) (more 0 3 (stepped _ tt none) (omega arith))
      (either (points cs b) (more 1 3 (op_fine Swap (stepped _ tt none)) (omega arith))
      (calculates_step op _)))

  unless_fine : (decided : Bool) (a b : Operand) → Good a → Fine (used a ++ Quiet (Unless decided b.tree) ∷ Step Pass ∷ []) (room a.tree + (room b.tree + 2))
  unless_fine decided a b g = both g.whole (record { bound = λ w. omega arith; plain = (tt, (tt, tt)) })

  binary_fine : (op : BinOp) (a b : Operand) → Good a → Good b → Fine (binary cs op a b) (room a.tree + (room b.tree + 3))
  binary_fine bin.LogicalAnd a b g h = more (room a.tree + (room b.tree + 2)) _ (unless_fine false a b g) (omega arith)
  binary_fine bin.LogicalOr a b g h = more (room a.tree + (room b.tree + 2)) _ (unless_fine true a b g) (omega arith)
  binary_fine op a b g h = both g.whole (both h.whole (calculated_fine op a b))

  all_used_fine : (os : List Operand) → AllGood os → Fine (all_used os) (room_of os)
  all_used_fine [] g = none
  all_used_fine (o ∷ os) g = both g.0.whole (all_used_fine os g.1)

  commas_fine : (os : List Operand) → AllGood os → Fine (commas cs os) (room_of os)
  commas_fine [] g = none
  commas_fine (o ∷ []) g = more (room o.tree) _ g.0.whole (omega arith)
  commas_fine (o ∷ p ∷ os) g = both g.0.drops (commas_fine (p ∷ os) g.1)

  passes_fine : (os : List Operand) → AllGood os → Fine (passes cs os) (room_of os)
  passes_fine os g = more (room_of os + 0) _ (both (all_used_fine os g) (steps_fine _)) (omega arith)

  -- ---- calls

  behind_passes : (os : List Operand) (a : Act) → IsPlain a → AllGood os → Fine (passes cs os ++ Step a ∷ []) (5 + room_of os)
  behind_passes os a h g = more (room_of os + 0) _ (both (passes_fine os g) (stepped a h none)) (omega arith)

  fence_fine : (os : List Operand) → AllGood os → Fine (fence cs os) (5 + room_of os)
  fence_fine os g = more (room_of os + 1) _ (both (all_used_fine os g) (op_fine Drop (stepped _ tt none))) (omega arith)

  vector_load_fine : (n : ℕ) (ty : TypeId) (os : List Operand) → AllGood os → Fine (vector_load cs n ty os) (5 + room_of os)
  vector_load_fine n ty os g = more (room_of os + 2 + 1) _ (both (both (passes_fine os g) (op_fine _ (reads_step ty))) (op_fine DropSecond none)) (omega arith)

  vector_store_fine : (n : ℕ) (os : List Operand) → AllGood os → Fine (vector_store cs n os) (5 + room_of os)
  vector_store_fine n [] g = more 0 _ none (omega arith)
  vector_store_fine n (v ∷ os) g =
      more (room_of (v ∷ os) + (0 + suc (suc (0 + 3)))) _ (both (all_used_fine (v ∷ os) g) (both (steps_fine _) (op_fine _ (op_fine Swap (both (writes_fine v.ty) (op_fine Drop (op_fine Drop (op_fine _ none)))))))) (omega arith)

  behind_used : (os : List Operand) (ts : List Task) → Fine ts 0 → AllGood os → Fine (all_used os ++ ts) (5 + room_of os)
  behind_used os ts f g = more (room_of os + 0) _ (both (all_used_fine os g) f) (omega arith)

  built_in_fine : (f : Builtin) (ty : TypeId) (number : ℕ) (os : List Operand) → AllGood os → Fine (built_in cs f ty number os) (5 + room_of os)
  built_in_fine builtin.GetWorkDim ty number os g = behind_passes os _ tt g
  built_in_fine builtin.GetGlobalSize ty number os g = behind_passes os _ tt g
  built_in_fine builtin.GetGlobalId ty number os g = behind_passes os _ tt g
  built_in_fine builtin.GetLocalSize ty number os g = behind_passes os _ tt g
  built_in_fine builtin.GetLocalId ty number os g = behind_passes os _ tt g
  built_in_fine builtin.GetNumGroups ty number os g = behind_passes os _ tt g
  built_in_fine builtin.GetGroupId ty number os g = behind_passes os _ tt g
  built_in_fine builtin.GetGlobalOffset ty number os g = behind_passes os _ tt g
  built_in_fine builtin.Barrier ty number os g = behind_used os _ (stepped _ tt none) g
  built_in_fine builtin.MemFence ty number os g = fence_fine os g
  built_in_fine builtin.ReadMemFence ty number os g = fence_fine os g
  built_in_fine builtin.WriteMemFence ty number os g = fence_fine os g
  built_in_fine (builtin.Vload n) ty number os g = vector_load_fine n ty os g
  built_in_fine (builtin.Vstore n) ty number os g = vector_store_fine n os g
  built_in_fine builtin.AtomicAdd ty number os g = behind_passes os _ tt g
  built_in_fine builtin.AtomicSub ty number os g = behind_passes os _ tt g
  built_in_fine builtin.AtomicXchg ty number os g = behind_passes os _ tt g
  built_in_fine builtin.AtomicMin ty number os g = behind_passes os _ tt g
  built_in_fine builtin.AtomicMax ty number os g = behind_passes os _ tt g
  built_in_fine builtin.AtomicAnd ty number os g = behind_passes os _ tt g
  built_in_fine builtin.AtomicOr ty number os g = behind_passes os _ tt g
  built_in_fine builtin.AtomicXor ty number os g = behind_passes os _ tt g
  built_in_fine builtin.AtomicInc ty number os g = behind_passes os _ tt g
  built_in_fine builtin.AtomicDec ty number os g = behind_passes os _ tt g
  built_in_fine builtin.AtomicCmpxchg ty number os g = behind_passes os _ tt g
  built_in_fine f ty number os g = more (room_of os + 0) _ (both (passes_fine os g) (making_fine _ _)) (omega arith)

  -- ---- expressions

  makes_fine : (node : Node) (ty : TypeId) (number : ℕ) (os : List Operand) → AllGood os → Fine (makes cs node ty number os) (5 + room_of os)
  makes_fine (code.Number n) ty number os g = more 0 _ (stepped _ tt none) (omega arith)
  makes_fine code.Convert ty number (a ∷ os) g = more (room a.tree + 1) _ (converts_fine ty a g.0) (omega arith)
  makes_fine (code.Unary op) ty number (a ∷ os) g = more (room a.tree) _ (unary_fine op ty a g.0) (omega arith)
  makes_fine (code.Binary op) ty number (a ∷ b ∷ os) g = more (room a.tree + (room b.tree + 3)) _ (binary_fine op a b g.0 g.1.0) (omega arith)
  makes_fine (code.Assign op) ty number (a ∷ b ∷ os) g = either (points cs a) (more 0 _ (points_to_fine op a b g.0 g.1.0) (omega arith)) (more (room a.tree) _ (assigned_fine op a b g.0 g.1.0) (omega arith))
  makes_fine code.Cond ty number (test ∷ on_true ∷ on_false ∷ os) g =
      more (room test.tree + suc (room on_true.tree + room on_false.tree + 0)) _ (both g.0.whole (record { bound = λ w. (let b = (steps_fine (max 1 (count_at cs ty))).bound w in omega (arith, b)); plain = (tt, (steps_fine (max 1 (count_at cs ty))).plain) })) (omega arith)
  makes_fine code.Vector ty number os g = behind_used os _ (making_fine _ _) g
  makes_fine (code.Call f) ty number os g = behind_passes os _ tt g
  makes_fine (code.Builtin f) ty number os g = built_in_fine f ty number os g
  makes_fine code.Index ty number (a ∷ i ∷ os) g = more (room a.tree + (room i.tree + 0)) _ (both g.0.whole (both g.1.0.whole (making_fine _ _))) (omega arith)
  makes_fine (code.Member k) ty number (a ∷ os) g = more (room a.tree + 0) _ (both g.0.whole (making_fine _ _)) (omega arith)
  makes_fine (code.Components at) ty number (a ∷ os) g = more (room a.tree + 0) _ (both g.0.whole (making_fine _ _)) (omega arith)
  makes_fine code.Fill ty number os g = behind_used os _ (making_fine _ _) g
  makes_fine code.Comma ty number os g = more (room_of os + 0) _ (both (commas_fine os g) (steps_fine _)) (omega arith)
  makes_fine _ ty number os g = more 0 _ none (omega arith)

  loads_fine : (node : Node) (ty : TypeId) (os : List Operand) → AllGood os → Fine (loads cs node ty os) (8 + room_of os)
  loads_fine node ty os g = either (is_pointer (shape_of cs ty))
      (more 0 _ (stepped _ (variable_plain Recall (λ b k. tt) node) none) (omega arith))
      (more (6 + room_of os + (1 + 1)) _ (both (finds_fine node ty os g) (both (reads_step ty) (op_fine DropSecond none))) (omega arith))

  gives_fine : (node : Node) (ty : TypeId) (number : ℕ) (os : List Operand) → AllGood os → Fine (if is_place cs node os then loads cs node ty os else makes cs node ty number os) (8 + room_of os)
  gives_fine node ty number os g = either (is_place cs node os) (loads_fine node ty os g) (more (5 + room_of os) _ (makes_fine node ty number os g) (omega arith))

  good_in : (node : Node) (ty : TypeId) (number : ℕ) (es : Exprs) (os : List Operand) → AllGood os → room_of os ≡ rooms es → Good (operand_in cs node ty number os (Tree node ty number es))
  good_in node ty number es os g e =
      let finds = finds_fine node ty os g in
      let gives = gives_fine node ty number os g in
      record {
        finds = more (6 + room_of os) _ finds (omega (arith, e));
        whole = more (8 + room_of os + 1) _ (both gives (either (is_call node) (op_fine Sure none) (more 0 1 none (omega arith)))) (omega (arith, e));
        drops = more (8 + room_of os + 1) _ (both (either _ (more (6 + room_of os) (8 + room_of os) (at_step Pass tt finds) (omega arith)) gives) (op_fine Drop none)) (omega (arith, e));
      }

  tree_of : (e : Expr) → (operand_of cs e).tree ≡ e
  tree_of (Tree node ty number es) = refl

  same_room : (es : Exprs) → room_of (operands_of cs es) ≡ rooms es
  same_room NoExpr = refl
  same_room (AndExpr e es) = let a = ap room (tree_of e) in let b = same_room es in omega (arith, a, b)

  mutual
    pub good : (e : Expr) → Good (operand_of cs e)
    good (Tree node ty number es) = good_in node ty number es (operands_of cs es) (all_good es) (same_room es)

    all_good : (es : Exprs) → AllGood (operands_of cs es)
    all_good NoExpr = tt
    all_good (AndExpr e es) = (good e, all_good es)

  pub uses_fine : (e : Expr) → Fine (uses cs e) (room e)
  uses_fine e = subst (λ t. Fine (uses cs e) (room t)) (tree_of e) (good e).whole

  pub drops_fine : (e : Expr) → Fine (drops cs e) (room e)
  drops_fine e = subst (λ t. Fine (drops cs e) (room t)) (tree_of e) (good e).drops
