-- Each move keeps the invariant, and one that is no step makes the measure fall; and what a move does to calls.
use Rattle.std.proofs.Common.{◌≡◌, ℕ, suc, ◌+◌, ◌<◌, false, List, [], ◌∷◌, Option, Some, None, refl, sym, subst, arith}
use Rattle.std.specs.Prelude.{slice_get}
use Rattle.clv_steps.specs.Machines.{IsLive, after}
use Rattle.cl_builtins.specs.Kinds.{alike}
use Rattle.cl_tree.specs.declared.event.NodeId.{NodeId}
use Rattle.cl_meaning.specs.Code.{Stmts, Sections, NoSection, AndSection, Code}
use Rattle.cl_meaning.specs.Tasks.{Act, Operate, Enter, Leave, Unless, Choose, Decide, SelectSection, Test, Loop, LoopOnce, Break, Continue, Task, Step, Quiet}
use Rattle.cl_meaning.specs.Statements.{body_tasks}
use Rattle.cl_meaning.specs.States.{Surroundings, Around, InLoop, InSwitch, Item}
use Rattle.cl_meaning.specs.Effects.{Effect, Goes, Picks, Questions, Undefined, is_true, popped, pushed_truth, broken, continued, tested, is_case, is_default, from_label, or_else, switched, number_on, effect_of}
use Rattle.cl_meaning.specs.Items.{act_of, status_by, move_by, source_item, weight}
use Rattle.cl_meaning.specs.Source.{begun, first_item}
use Rattle.cl_meaning.specs.Laws.{SameCalls, is_call, CallsChangeCalls}
use Rattle.cl_meaning.proofs.Loops.{FunctionsHaveBodies}
use Rattle.cl_meaning.proofs.Plain.{extra}
use Rattle.cl_meaning.proofs.Quiet.{ways, returned, quiet_left, IsSteady, function_steady}
use Rattle.cl_meaning.proofs.Moves.{AllOf, if_either, all_of, Stays, straight, Less, act_less, bodies_of}

moved : (P : Item → Type 0) (x : ℕ) (i : Item) (e : Effect) → AllOf P e → P i → P (move_by x i (Some e))
moved P x i (Goes to) h k = h
moved P x i (Picks bits to) h k = h x
moved P x i (Questions event to) h k = h x
moved P x i Undefined h k = k

moved_live : (P : Item → Type 0) (x : ℕ) (i : Item) (calls : List NodeId) (e : Effect) → AllOf P e → IsLive (status_by calls (Some e)) → P (move_by x i (Some e))
moved_live P x i calls (Goes to) h k = h
moved_live P x i calls (Picks bits to) h k = h x
moved_live P x i calls (Questions event to) h k = h x
moved_live P x i calls Undefined h k = absurd k

module _ (s : Surroundings) (f : FunctionsHaveBodies s.functions) where
  behind : (i : Item) (t : Task) (ts : List Task) → IsSteady (record i { todo = t ∷ ts }) → IsSteady (record i { todo = ts })
  behind i t ts h = record { todo = h.todo.1; around = h.around; callers = h.callers }

  less_steady : (n : ℕ) (j : Item) → Less n j → IsSteady j
  less_steady n j h = h.steady

  keeps_at : (i : Item) (ts : List Task) → IsSteady (record i { todo = ts }) → (x : ℕ) → IsSteady ((source_item s).next x (record i { todo = ts }))
  keeps_at i [] h x = h
  keeps_at i (Step a ∷ ts) h x = moved IsSteady x _ (effect_of s a (record i { todo = ts })) (all_of (Less _) IsSteady (less_steady _) _ (act_less s f (record i { todo = ts }) (behind i (Step a) ts h) a h.todo.0)) h
  keeps_at i (Quiet a ∷ ts) h x = moved IsSteady x _ (effect_of s a (record i { todo = ts })) (all_of (Less _) IsSteady (less_steady _) _ (act_less s f (record i { todo = ts }) (behind i (Quiet a) ts h) a h.todo.0)) h

  pub keeps : (i : Item) → IsSteady i → (x : ℕ) → IsSteady ((source_item s).next x i)
  keeps i h x = keeps_at i i.todo h x

  pub keeps_all : (history : List ℕ) (i : Item) → IsSteady i → IsSteady (after (source_item s) history i)
  keeps_all [] i h = h
  keeps_all (x ∷ history) i h = keeps_all history ((source_item s).next x i) (keeps i h x)

  abbrev Below : ℕ → Item → Type 0
  Below n j = quiet_left j < n

  less_below : (n : ℕ) (j : Item) → Less n j → Below (suc n) j
  less_below n j h = let b = h.left in omega (arith, b)

  falls_at : (i : Item) (ts : List Task) → IsSteady (record i { todo = ts }) → IsLive ((source_item s).status (record i { todo = ts })) → weight (record i { todo = ts }) ≡ 0 → (x : ℕ) → quiet_left ((source_item s).next x (record i { todo = ts })) < quiet_left (record i { todo = ts })
  falls_at i [] h live none x = absurd live
  falls_at i (Step a ∷ ts) h live none x = absurd (let e : 1 ≡ 0 = none in omega (arith, e))
  falls_at i (Quiet a ∷ ts) h live none x =
      let n = extra (ways i.around (returned i.callers)) a + quiet_left (record i { todo = ts }) in
      moved_live (Below (suc n)) x (record i { todo = Quiet a ∷ ts }) i.frame.calls (effect_of s a (record i { todo = ts })) (all_of (Less n) (Below (suc n)) (less_below n) _ (act_less s f (record i { todo = ts }) (behind i (Quiet a) ts h) a h.todo.0)) live

  -- the measure falls with each move that is no step
  pub falls : (i : Item) → IsSteady i → IsLive ((source_item s).status i) → weight i ≡ 0 → (x : ℕ) → quiet_left ((source_item s).next x i) < quiet_left i
  falls i h live none x = falls_at i i.todo h live none x

  begun_at : (kernel : ℕ) (code : Option Code) → slice_get s.functions kernel ≡ code → IsSteady (begun s kernel code)
  begun_at kernel None e = record { todo = tt; around = tt; callers = tt }
  begun_at kernel (Some code) e = record { todo = (tt, function_steady s.types code (bodies_of s.functions kernel code f e)); around = tt; callers = tt }

  pub begun_steady : (kernel : ℕ) → IsSteady (first_item s kernel)
  begun_steady kernel = begun_at kernel (slice_get s.functions kernel) refl

-- ---- calls

same_calls : (i : Item) → SameCalls i i
same_calls i = record { frame = refl; callers = refl }

of_stays : (i j : Item) → Stays i j → SameCalls i j
of_stays i j h = record { frame = h.frame; callers = h.callers }

broken_calls : (around : List Around) (j : Item) → SameCalls j (broken around j)
broken_calls [] j = same_calls j
broken_calls (InLoop again behind ∷ rest) j = record { frame = refl; callers = refl }
broken_calls (InSwitch behind ∷ rest) j = record { frame = refl; callers = refl }

continued_calls : (around : List Around) (j : Item) → SameCalls j (continued around j)
continued_calls [] j = same_calls j
continued_calls (InLoop again behind ∷ rest) j = record { frame = refl; callers = refl }
continued_calls (InSwitch behind ∷ rest) j = continued_calls rest j

module _ (s : Surroundings) (i : Item) where
  switched_calls : (sections : Sections) → SameCalls i (switched s.types sections (popped i))
  switched_calls NoSection = record { frame = refl; callers = refl }
  switched_calls (AndSection labels body rest) = record { frame = refl; callers = refl }

  test_calls : (body : Stmts) → SameCalls i (tested s.types body i)
  test_calls body = if_either (SameCalls i) (is_true i) (record (popped i) { todo = body_tasks s.types body }) (broken i.around (popped i)) (record { frame = refl; callers = refl })
      (let b = broken_calls i.around (popped i) in record { frame = b.frame; callers = b.callers })

  act_calls : (a : Act) → is_call a ≡ false → AllOf (SameCalls i) (effect_of s a i)
  act_calls (Enter g number args least) e = cc
  act_calls Leave e = cc
  act_calls (Unless decided other) e = if_either (SameCalls i) (alike decided (is_true i)) (pushed_truth decided (popped i)) _ (record { frame = refl; callers = refl }) (record { frame = refl; callers = refl })
  act_calls (Choose on_true on_false) e = record { frame = refl; callers = refl }
  act_calls (Decide on_true on_false) e = record { frame = refl; callers = refl }
  act_calls (SelectSection sections) e = switched_calls (or_else (from_label (is_case (number_on i.stack)) sections) (from_label is_default sections))
  act_calls (Test body) e = test_calls body
  act_calls (Loop test next body) e = record { frame = refl; callers = refl }
  act_calls (LoopOnce body test) e = record { frame = refl; callers = refl }
  act_calls Break e = broken_calls i.around i
  act_calls Continue e = continued_calls i.around i
  act_calls (Operate op) e = all_of (Stays i) (SameCalls i) (of_stays i) (effect_of s (Operate op) i) (straight i s (Operate op) tt)
  act_calls a e = all_of (Stays i) (SameCalls i) (of_stays i) (effect_of s a i) (straight i s a tt)

calls_at : (s : Surroundings) (i : Item) (todo : List Task) (t : Task) (ts : List Task) (x : ℕ) → todo ≡ t ∷ ts → is_call (act_of t) ≡ false → SameCalls i ((source_item s).next x (record i { todo = todo }))
calls_at s i todo t ts x e none = subst (λ z. SameCalls i ((source_item s).next x (record i { todo = z }))) (sym e)
    (moved (SameCalls i) x (record i { todo = t ∷ ts }) (effect_of s (act_of t) (record i { todo = ts })) (all_of (SameCalls (record i { todo = ts })) (SameCalls i) (λ j h. record { frame = h.frame; callers = h.callers }) (effect_of s (act_of t) (record i { todo = ts })) (act_calls s (record i { todo = ts }) (act_of t) none)) (record { frame = refl; callers = refl }))

pub calls_change_calls : CallsChangeCalls
calls_change_calls s i t ts x e none = calls_at s i i.todo t ts x e none
