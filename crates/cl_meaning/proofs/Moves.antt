-- What one move does to what is left to do, and to the calls.
use Rattle.std.proofs.Common.{◌&&◌, ◌≡◌, ℕ, zero, suc, ◌+◌, ◌≤◌, max, Bool, true, false, if◌then◌else◌, List, [], ◌∷◌, ◌++◌, length, drop, Option, Some, None, refl, sym, ap, ◌∙◌, subst, arith, append_assoc}
use Rattle.std.specs.Prelude.{slice_get}
use Rattle.cl_types.specs.declared.types.ClType.{ClType}
use Rattle.cl_types.specs.declared.types.TypeId.{TypeId}
use Rattle.cl_types.specs.declared.operator.BinOp.{BinOp}
use Rattle.cl_types.specs.declared.builtin.Builtin.{Builtin}
use Rattle.cl_builtins.specs.declared.kind.Gentype.{Gentype}
use Rattle.cl_builtins.specs.Kinds.{alike}
use Rattle.cl_tree.specs.Shapes.{shape_of}
use Rattle.cl_tree.specs.declared.shape.Shape.TheVariants as shape
use Rattle.cl_meaning.specs.Code.{Expr, Stmts, Sections, NoSection, AndSection, Label, Code}
use Rattle.cl_meaning.specs.Values.{Name, Object, InShared, InPrivate, Pointer, is_inside, Scalar, Points, Entry, Value, Place}
use Rattle.cl_meaning.specs.Operations.{Convert}
use Rattle.cl_meaning.specs.Tasks.{Act, Reach, Pass, Operate, Variable, Recall, Point, Read, Write, Component, Enter, Leave, WorkItem, Wait, Atomic, Unless, Choose, Unset, Set, Decide, SelectSection, Test, Loop, LoopOnce, Break, Continue, Task, Quiet, quiet, steps}
use Rattle.cl_meaning.specs.Expressions.{type_of, uses, may_drop}
use Rattle.cl_meaning.specs.Statements.{stmts_tasks, sections_tasks, body_tasks, test_tasks}
use Rattle.cl_meaning.specs.States.{Surroundings, Around, InLoop, InSwitch, Caller, Item}
use Rattle.cl_meaning.specs.Effects.{Effect, Goes, Picks, Questions, Undefined, extent_of, is_part_of, part_in, reads_in, read_effect, writes_in, write_effect, specified, component_effect, operate_effect, recall_effect, pointing, scalars_on, entered, left, atomic_at, atomic_effect, arguments_on, unless_effect, is_true, popped, first, pushed_truth, broken, continued, tested, is_case, is_default, some_label, from_label, or_else, switched, select_effect, effect_of, found, number_on, appended}
use Rattle.cl_meaning.proofs.Loops.{IsBody, HasBodies, AllHaveBodies, SectionsHaveBodies, FunctionsHaveBodies}
use Rattle.cl_meaning.proofs.Plain.{room, Ways, extra, lead, IsPlain, Each, each_append, steps_fine}
use Rattle.cl_meaning.proofs.Operands.{uses_fine}
use Rattle.cl_meaning.proofs.Quiet.{jumps, ways, returned, quiet_left, IsSteadyAct, AreSteady, CallersSteady, IsSteady, steady, round_lead, stmts_steady, sections_steady, body_steady, test_steady, again_steady, test_round, again_round, function_steady, stmts_lead, body_lead, sections_lead, uses_lead, steps_lead, function_lead}

-- each state that an effect comes to, by whatever number
abbrev pub AllOf : (Item → Type 0) → Effect → Type 0
AllOf P (Goes to) = P to
AllOf P (Picks bits to) = (x : ℕ) → P (to x)
AllOf P (Questions e to) = (x : ℕ) → P (to x)
AllOf P Undefined = Unit {0}

pub if_either : {A : Type 0} (P : A → Type 0) (b : Bool) (x y : A) → P x → P y → P (if b then x else y)
if_either P true x y h k = h
if_either P false x y h k = k

pub all_of : (P Q : Item → Type 0) → ((j : Item) → P j → Q j) → (e : Effect) → AllOf P e → AllOf Q e
all_of P Q f (Goes to) h = f to h
all_of P Q f (Picks bits to) h = λ x. f (to x) (h x)
all_of P Q f (Questions e to) h = λ x. f (to x) (h x)
all_of P Q f Undefined h = tt

-- ---- what most acts keep: all but the stack and the private objects

pub record Stays (i j : Item) : Type 0 where
  pub todo : j.todo ≡ i.todo
  pub around : j.around ≡ i.around
  pub frame : j.frame ≡ i.frame
  pub callers : j.callers ≡ i.callers

same : (i : Item) → Stays i i
same i = record { todo = refl; around = refl; frame = refl; callers = refl }

-- an act after which the tasks behind it come next, in the same call
abbrev pub IsStraight : Act → Type 0
IsStraight (Unless decided other) = ⊥
IsStraight (Choose on_true on_false) = ⊥
IsStraight (Enter f number args least) = ⊥
IsStraight a = IsPlain a

module _ (i : Item) where
  abbrev Kept : Effect → Type 0
  Kept = AllOf (Stays i)

  found_keeps : (to : ℕ → Item) → ((x : ℕ) → Stays i (to x)) → (n : Option ℕ) → Kept (found to n)
  found_keeps to h None = tt
  found_keeps to h (Some n) = h n

  reads_keeps : (o : Object) (at bits : ℕ) (to : ℕ → Item) → ((x : ℕ) → Stays i (to x)) → (j : Item) → Kept (reads_in o at bits to j)
  reads_keeps (InShared o) at bits to h j = λ x. h _
  reads_keeps (InPrivate name) at bits to h j = found_keeps to h _

  read_keeps : (cs : List ClType) (ty : TypeId) (k : ℕ) (st : List Entry) → Kept (read_effect cs ty k i st)
  read_keeps cs ty k (Value v ∷ Place p at ∷ st) = if_either Kept (is_inside (extent_of cs ty at) p && is_part_of (extent_of cs ty at) (part_in cs ty at k)) _ Undefined (reads_keeps p.object _ _ _ (λ x. record { todo = refl; around = refl; frame = refl; callers = refl }) i) tt
  read_keeps cs ty k _ = same i

  writes_keeps : (o : Object) (at bits n : ℕ) → Kept (writes_in o at bits n i)
  writes_keeps (InShared o) at bits n = λ x. record { todo = refl; around = refl; frame = refl; callers = refl }
  writes_keeps (InPrivate name) at bits n = record { todo = refl; around = refl; frame = refl; callers = refl }

  write_keeps : (cs : List ClType) (ty : TypeId) (k : ℕ) (st : List Entry) → Kept (write_effect cs ty k i st)
  write_keeps cs ty k (Value v ∷ Place p at ∷ st) = if_either Kept (is_inside (extent_of cs ty at) p && is_part_of (extent_of cs ty at) (part_in cs ty at k)) _ Undefined (writes_keeps p.object _ _ _) tt
  write_keeps cs ty k _ = same i

  specified_keeps : (bits : ℕ) (to : ℕ → Item) → ((x : ℕ) → Stays i (to x)) → (n : Option ℕ) → Kept (specified bits to n)
  specified_keeps bits to h None = λ x. h _
  specified_keeps bits to h (Some n) = h n

  component_keeps : (op : BinOp) (t : Gentype) (k : ℕ) (st : List Entry) → Kept (component_effect op t k i st)
  component_keeps op t k (Value v ∷ Value b ∷ Value a ∷ st) = specified_keeps _ (appended v (Value b ∷ Value a ∷ st) i) (λ x. record { todo = refl; around = refl; frame = refl; callers = refl }) _
  component_keeps op t k _ = same i

  operate_keeps : (st : Option (List Entry)) → Kept (operate_effect i st)
  operate_keeps None = tt
  operate_keeps (Some st) = record { todo = refl; around = refl; frame = refl; callers = refl }

  recall_keeps : (p : Option Pointer) → Kept (recall_effect i p)
  recall_keeps None = tt
  recall_keeps (Some p) = record { todo = refl; around = refl; frame = refl; callers = refl }

  pointing_keeps : (name : Name) (v : List Scalar) → Stays i (pointing name i v)
  pointing_keeps name (Points p ∷ []) = record { todo = refl; around = refl; frame = refl; callers = refl }
  pointing_keeps name _ = same i

  atomic_at_keeps : (f : Builtin) (signed : Bool) (args : List ℕ) (st : List Entry) (o : Object) (p : Pointer) → Kept (atomic_at f signed args st i o p)
  atomic_at_keeps f signed args st (InShared o) p = if_either Kept (is_inside 4 p) _ Undefined (λ x. record { todo = refl; around = refl; frame = refl; callers = refl }) tt
  atomic_at_keeps f signed args st (InPrivate name) p = same i

  atomic_keeps : (f : Builtin) (signed : Bool) (args : List ℕ) (st : List Entry) → Kept (atomic_effect f signed args i st)
  atomic_keeps f signed args (Value (Points p ∷ []) ∷ st) = atomic_at_keeps f signed args st p.object p
  atomic_keeps f signed args _ = same i

  pub straight : (s : Surroundings) (a : Act) → IsStraight a → Kept (effect_of s a i)
  straight s Reach h = same i
  straight s Pass h = same i
  straight s (Operate op) h = operate_keeps _
  straight s (Variable is_param k size) h = record { todo = refl; around = refl; frame = refl; callers = refl }
  straight s (Recall is_param k) h = recall_keeps _
  straight s (Point is_param k) h = pointing_keeps _ _
  straight s (Read ty k) h = read_keeps s.types ty k i.stack
  straight s (Write ty k) h = write_keeps s.types ty k i.stack
  straight s (Component op t k) h = component_keeps op t k i.stack
  straight s (WorkItem f) h = record { todo = refl; around = refl; frame = refl; callers = refl }
  straight s (Wait number) h = λ x. record { todo = refl; around = refl; frame = refl; callers = refl }
  straight s (Atomic f signed args) h = atomic_keeps f signed (arguments_on args i.stack) (drop args i.stack)
  straight s (Unset k) h = record { todo = refl; around = refl; frame = refl; callers = refl }
  straight s (Set k ty) h = record { todo = refl; around = refl; frame = refl; callers = refl }
  straight s (Enter f number args least) h = absurd h
  straight s Leave h = absurd h
  straight s (Unless decided other) h = absurd h
  straight s (Choose on_true on_false) h = absurd h
  straight s (Decide on_true on_false) h = absurd h
  straight s (SelectSection sections) h = absurd h
  straight s (Test body) h = absurd h
  straight s (Loop test next body) h = absurd h
  straight s (LoopOnce body test) h = absurd h
  straight s Break h = absurd h
  straight s Continue h = absurd h

-- ---- what is left to do

-- A state that is steady, with at most so many moves before its next step.
pub record Less (n : ℕ) (j : Item) : Type 0 where
  pub steady : IsSteady j
  pub left : quiet_left j ≤ n

pub bodies_of : (fs : List Code) (g : ℕ) (code : Code) → FunctionsHaveBodies fs → slice_get fs g ≡ Some code → HasBodies code.body
bodies_of [] g code k e = cc
bodies_of (c ∷ fs) zero code k e = let z : c ≡ code = cc in subst (λ q. HasBodies q.body) z k.0
bodies_of (c ∷ fs) (suc g) code k e = bodies_of fs g code k.1 e

module _ (s : Surroundings) (f : FunctionsHaveBodies s.functions) (i : Item) (h : IsSteady i) where
  abbrev here : Ways
  here = ways i.around (returned i.callers)

  abbrev Lessens : Act → Effect → Type 0
  Lessens a = AllOf (Less (extra here a + quiet_left i))

  -- the same tasks next
  stays_less : (n : ℕ) (j : Item) → Stays i j → Less (n + quiet_left i) j
  stays_less n j k = record {
    steady = record { todo = subst (Each IsSteadyAct) (sym k.todo) h.todo; around = subst AreSteady (sym k.around) h.around; callers = subst CallersSteady (sym k.callers) h.callers };
    left =
        let e : quiet_left j ≡ quiet_left i = ap (λ ts. lead (ways j.around (returned j.callers)) ts) k.todo ∙ ap (λ z. lead (ways z (returned j.callers)) i.todo) k.around ∙ ap (λ z. lead (ways i.around (returned z)) i.todo) k.callers in
        omega (arith, e);
  }

  straight_less : (a : Act) → IsStraight a → Lessens a (effect_of s a i)
  straight_less a k = all_of (Stays i) (Less (extra here a + quiet_left i)) (λ j. stays_less (extra here a) j) (effect_of s a i) (straight i s a k)

  popped_stays : Stays i (popped i)
  popped_stays = record { todo = refl; around = refl; frame = refl; callers = refl }

  -- tasks of an expression first
  first_less : (n : ℕ) (ts : List Task) (j : Item) → Stays i j → Each IsPlain ts → ((us : List Task) → lead here (ts ++ us) ≤ n + lead here us) → Less (n + quiet_left i) (first ts j)
  first_less n ts j k plain bound =
      let z = stays_less 0 j k in
      record {
        steady = record { todo = steady ts j.todo plain z.steady.todo; around = z.steady.around; callers = z.steady.callers };
        left =
            let e : lead (ways j.around (returned j.callers)) (ts ++ j.todo) ≡ lead here (ts ++ i.todo) = ap (λ us. lead (ways j.around (returned j.callers)) (ts ++ us)) k.todo ∙ ap (λ z. lead (ways z (returned j.callers)) (ts ++ i.todo)) k.around ∙ ap (λ z. lead (ways i.around (returned z)) (ts ++ i.todo)) k.callers in
            let b = bound i.todo in
            omega (arith, e, b);
      }

  unless_less : (decided : Bool) (other : Expr) → Lessens (Unless decided other) (unless_effect s.types decided other i)
  unless_less decided other = if_either (Less (extra here (Unless decided other) + quiet_left i)) (alike decided (is_true i)) (pushed_truth decided (popped i)) _
      (stays_less _ _ (record { todo = refl; around = refl; frame = refl; callers = refl }))
      (first_less (extra here (Unless decided other)) _ (popped i) popped_stays
      (each_append IsPlain (uses s.types other) _ (uses_fine s.types other).plain (tt, tt))
      (λ us.
      let c = quiet (Convert (shape_of s.types (type_of other)) shape.Bool) in
      let e = ap (lead here) (append_assoc (uses s.types other) (c ∷ []) us) in
      let b = uses_lead s.types here other (c ∷ us) in
      omega (arith, e, b)))

  choose_less : (on_true on_false : Expr) → Lessens (Choose on_true on_false) (effect_of s (Choose on_true on_false) i)
  choose_less on_true on_false = if_either (λ e. Less (room on_true + room on_false + quiet_left i) (first (uses s.types e) (popped i))) (is_true i) on_true on_false
      (first_less _ (uses s.types on_true) (popped i) popped_stays (uses_fine s.types on_true).plain (λ us. (let b = uses_lead s.types here on_true us in omega (arith, b))))
      (first_less _ (uses s.types on_false) (popped i) popped_stays (uses_fine s.types on_false).plain (λ us. (let b = uses_lead s.types here on_false us in omega (arith, b))))

  -- ---- calls

  entered_less : (g number args least : ℕ) (code : Option Code) → slice_get s.functions g ≡ code → Less (0 + quiet_left i) (entered s.types g number args least i code)
  entered_less g number args least None e = stays_less 0 i (same i)
  entered_less g number args least (Some code) e = record {
    steady = record { todo = function_steady s.types code (bodies_of s.functions g code f e); around = tt; callers = (h.todo, h.around, h.callers) };
    left = let b = function_lead s.types (ways [] (returned (record { todo = i.todo; around = i.around; frame = i.frame; least = least } ∷ i.callers))) code in omega (arith, b);
  }

  left_less : (n : ℕ) (callers : List Caller) → CallersSteady callers → returned callers ≤ n → Less (n + quiet_left i) (left i callers)
  left_less n [] k low = record { steady = record { todo = tt; around = tt; callers = h.callers }; left = omega arith }
  left_less n (c ∷ cs) k low = record {
    steady = record { todo = steady (steps _) c.todo (steps_fine _).plain k.0; around = k.1; callers = k.2 };
    left = let b = steps_lead s.types (ways c.around (returned cs)) (max c.least (length (scalars_on i.stack))) c.todo in omega (arith, b, low);
  }

  -- ---- loops and switches

  broken_less : (n : ℕ) (around : List Around) (j : Item) → AreSteady around → (jumps around (returned i.callers)).0 ≤ n → Stays i j → Less (n + quiet_left i) (broken around j)
  broken_less n [] j k low e = stays_less n j e
  broken_less n (InLoop again behind ∷ rest) j k low e = record {
    steady = record { todo = k.2; around = k.3; callers = subst CallersSteady (sym e.callers) h.callers };
    left = let same_way = ap (λ z. lead (ways rest (returned z)) behind) e.callers in omega (arith, same_way, low);
  }
  broken_less n (InSwitch behind ∷ rest) j k low e = record {
    steady = record { todo = k.0; around = k.1; callers = subst CallersSteady (sym e.callers) h.callers };
    left = let same_way = ap (λ z. lead (ways rest (returned z)) behind) e.callers in omega (arith, same_way, low);
  }

  continued_less : (n : ℕ) (around : List Around) → AreSteady around → (jumps around (returned i.callers)).1 ≤ n → Less (n + quiet_left i) (continued around i)
  continued_less n [] k low = stays_less n i (same i)
  continued_less n (InLoop again behind ∷ rest) k low = record {
    steady = record { todo = k.0; around = (k.0, k.1, k.2, k.3); callers = h.callers };
    left = let e = round_lead (lead (ways rest (returned i.callers)) behind) (jumps (InLoop again behind ∷ rest) (returned i.callers)).1 (returned i.callers) again k.1 in omega (arith, e, low);
  }
  continued_less n (InSwitch behind ∷ rest) k low = continued_less n rest k.1 low

  loop_less : (test : Expr) (next : Option Expr) (body : Stmts) → IsBody body × AllHaveBodies body → Lessens (Loop test next body) (effect_of s (Loop test next body) i)
  loop_less test next body k = record {
    steady = record { todo = test_steady s.types test body k; around = (again_steady s.types next test body k, again_round s.types next test body, h.todo, h.around); callers = h.callers };
    left = let b = uses_lead s.types (ways (InLoop (may_drop s.types next ++ test_tasks s.types test body) i.todo ∷ i.around) (returned i.callers)) test (Quiet (Test body) ∷ []) in omega (arith, b);
  }

  loop_once_less : (body : Stmts) (test : Expr) → IsBody body × AllHaveBodies body → Lessens (LoopOnce body test) (effect_of s (LoopOnce body test) i)
  loop_once_less body test k = record {
    steady = record { todo = body_steady s.types body k.1; around = (test_steady s.types test body k, test_round s.types test body, h.todo, h.around); callers = h.callers };
    left = let b = body_lead s.types (ways (InLoop (test_tasks s.types test body) i.todo ∷ i.around) (returned i.callers)) body k.0 in omega (arith, b);
  }

  test_less : (body : Stmts) → IsBody body × AllHaveBodies body → Less (here.breaks + quiet_left i) (tested s.types body i)
  test_less body k = if_either (Less (here.breaks + quiet_left i)) (is_true i) (record (popped i) { todo = body_tasks s.types body }) (broken i.around (popped i))
      (record {
        steady = record { todo = body_steady s.types body k.1; around = h.around; callers = h.callers };
        left = let b = body_lead s.types here body k.0 in omega (arith, b);
      })
      (broken_less here.breaks i.around (popped i) h.around (omega arith) popped_stays)

  decide_less : (ss : Stmts) → AllHaveBodies ss → Less (0 + quiet_left i) (first (stmts_tasks s.types ss) (popped i))
  decide_less ss k = record {
    steady = record { todo = each_append IsSteadyAct (stmts_tasks s.types ss) i.todo (stmts_steady s.types ss k) h.todo; around = h.around; callers = h.callers };
    left = let b = stmts_lead s.types here ss i.todo in omega (arith, b);
  }

  switched_less : (sections : Sections) → SectionsHaveBodies sections → Less (1 + quiet_left i) (switched s.types sections (popped i))
  switched_less NoSection k = stays_less 1 (popped i) popped_stays
  switched_less (AndSection labels body rest) k = record {
    steady = record { todo = each_append IsSteadyAct (sections_tasks s.types (AndSection labels body rest)) _ (sections_steady s.types (AndSection labels body rest) k) (tt, tt); around = (h.todo, h.around); callers = h.callers };
    left = let b = sections_lead s.types (ways (InSwitch i.todo ∷ i.around) (returned i.callers)) (AndSection labels body rest) (Quiet Break ∷ []) in omega (arith, b);
  }

  from_label_bodies : (is : Label → Bool) (sections : Sections) → SectionsHaveBodies sections → SectionsHaveBodies (from_label is sections)
  from_label_bodies is NoSection k = tt
  from_label_bodies is (AndSection labels body rest) k = if_either SectionsHaveBodies (some_label is labels) (AndSection labels body rest) (from_label is rest) k (from_label_bodies is rest k.1)

  or_else_bodies : (a b : Sections) → SectionsHaveBodies a → SectionsHaveBodies b → SectionsHaveBodies (or_else a b)
  or_else_bodies NoSection b k m = m
  or_else_bodies (AndSection labels body rest) b k m = k

  select_less : (sections : Sections) → SectionsHaveBodies sections → Lessens (SelectSection sections) (select_effect s.types sections i)
  select_less sections k = switched_less _ (or_else_bodies (from_label (is_case (number_on i.stack)) sections) (from_label is_default sections) (from_label_bodies _ sections k) (from_label_bodies _ sections k))

  pub act_less : (a : Act) → IsSteadyAct a → Lessens a (effect_of s a i)
  act_less (Enter g number args least) k = entered_less g number args least (slice_get s.functions g) refl
  act_less Leave k = left_less (returned i.callers) i.callers h.callers (omega arith)
  act_less (Unless decided other) k = unless_less decided other
  act_less (Choose on_true on_false) k = choose_less on_true on_false
  act_less (Decide on_true on_false) k = if_either (λ ss. Less (0 + quiet_left i) (first (stmts_tasks s.types ss) (popped i))) (is_true i) on_true on_false (decide_less on_true k.0) (decide_less on_false k.1)
  act_less (SelectSection sections) k = select_less sections k
  act_less (Test body) k = test_less body k
  act_less (Loop test next body) k = loop_less test next body k
  act_less (LoopOnce body test) k = loop_once_less body test k
  act_less Break k = broken_less here.breaks i.around i h.around (omega arith) (same i)
  act_less Continue k = continued_less here.continues i.around h.around (omega arith)
  act_less (Operate op) k = straight_less (Operate op) tt
  act_less a k = straight_less a tt
