-- Calls: their nodes, parameters one by one, arguments, tasks before others, and where an atomic acts.
use Rattle.std.proofs.Common.{◌≡◌, ℕ, zero, suc, ◌+◌, ◌<◌, ◌≤◌, Bool, true, false, List, [], ◌∷◌, ◌++◌, length, take, drop, map, reverse, Some, None, slice_get, refl, sym, ap, ◌∙◌, subst, arith, add-one, append_assoc}
use Rattle.std.specs.Prelude.{if◌then◌else◌, slice_index, option_map, Result, Ok, Err, OnOk}
use Rattle.std.proofs.lemmas.List.{append-nil, map-append, reverse-append, take_all}
use Rattle.std.proofs.lemmas.Option.{slice_get-map}
use Rattle.cl_types.specs.declared.types.ClType.{ClType}
use Rattle.cl_types.specs.declared.types.TypeId.{TypeId}
use Rattle.cl_types.specs.declared.builtin.Builtin.{Builtin}
use Rattle.cl_tree.specs.declared.event.NodeId.{NodeId}
use Rattle.cl_tree.specs.declared.event.Shared.{Shared}
use Rattle.cl_tree.specs.declared.event.Event.{Event}
use Rattle.cl_tree.specs.declared.event.Event.TheVariants as event
use Rattle.cl_common.specs.Operators.{cut}
use Rattle.cl_meaning.specs.declared.code.Code.{Code as PlainCode}
use Rattle.cl_meaning.specs.declared.task.Task.{Task as PlainTask}
use Rattle.cl_meaning.specs.declared.memory.Memory.{Memory as PlainMemory}
use Rattle.cl_meaning.specs.declared.item.Item.{Item as PlainItem}
use Rattle.cl_meaning.specs.declared.did.Then.TheVariants as after
use Rattle.cl_meaning.specs.Values.{Name, InShared, InPrivate, Pointer, is_inside, Scalar, Pattern, Points, patterns_in, Entry, Value, Missing, Place}
use Rattle.cl_meaning.specs.Operations.{scalars_in}
use Rattle.cl_meaning.specs.Tasks.{Task}
use Rattle.cl_meaning.specs.Statements.{function_tasks}
use Rattle.cl_meaning.specs.States.{Memory, Item, with_value, with_params, without_own}
use Rattle.cl_meaning.specs.Effects.{Effect, Goes, Questions, Undefined, scalars_on, with_stack, entered, atomic_at, atomic_effect}
use Rattle.cl_meaning.specs.Views.{code_by, tasks_by, memory_by, around_by, caller_by, item_by, pointer_in, answered_by, QuestionsFor}
use Rattle.cl_meaning.proofs.Operating.{map_reversed}

-- ---- the nodes of a barrier, the last of those left before the others

pub chain_more : (left rest chain new whole : List NodeId) (call : NodeId) → left ≡ rest ++ call ∷ [] → new ≡ chain ++ call ∷ [] → chain ++ reverse left ≡ whole → new ++ reverse rest ≡ whole
chain_more left rest chain new whole call e made all =
    ap (λ z. z ++ reverse rest) made
    ∙ append_assoc chain (call ∷ []) (reverse rest)
    ∙ ap (λ z. chain ++ z) (sym (reverse-append rest (call ∷ [])))
    ∙ ap (λ z. chain ++ reverse z) (sym e)
    ∙ all

none_left : (left : List NodeId) → length left < 1 → left ≡ []
none_left [] h = refl
none_left (n ∷ left) h = absurd (omega arith)

pub chain_end : (left chain new calls : List NodeId) (node : NodeId) → length left < 1 → chain ++ reverse left ≡ reverse calls → new ≡ chain ++ node ∷ [] → new ≡ reverse (node ∷ calls)
chain_end left chain new calls node h all made =
    made
    ∙ ap (λ z. z ++ node ∷ []) (sym (append-nil chain) ∙ sym (ap (λ z. chain ++ reverse z) (none_left left h)) ∙ all)
    ∙ sym (reverse-append (node ∷ []) calls)

-- ---- parameters

pub next_param : (cs : List ClType) (calls : List NodeId) (k j : ℕ) (t : TypeId) (ts : List TypeId) (v : List Scalar) (vs : List (List Scalar)) (name : Name) (m new : Memory) → name ≡ record { calls = calls; is_param = true; number = k } → new ≡ with_value cs name t v m → j ≡ k + 1 → with_params cs calls j ts vs new ≡ with_params cs calls k (t ∷ ts) (v ∷ vs) m
next_param cs calls k j t ts v vs name m new is set next =
    ap (λ i. with_params cs calls i ts vs new) (next ∙ add-one k)
    ∙ ap (λ z. with_params cs calls (suc k) ts vs z) (set ∙ ap (λ z. with_value cs z t v m) is)

-- ---- arguments

abbrev pub first_pattern : List Scalar → ℕ
first_pattern v = slice_index (patterns_in v) 0

abbrev pub first_patterns : List Entry → List ℕ
first_patterns = map (λ e. slice_index (patterns_in (scalars_in e)) 0)

one_by_one : (es : List Entry) → first_patterns es ≡ map first_pattern (map scalars_in es)
one_by_one [] = refl
one_by_one (e ∷ es) = ap (λ z. first_pattern (scalars_in e) ∷ z) (one_by_one es)

pub all_arguments : (n i : ℕ) (st es : List Entry) (ns : List ℕ) → es ≡ reverse (take n st) → ns ≡ first_patterns (take i es) → length es ≤ i → ns ≡ map (λ v. slice_index (patterns_in v) 0) (reverse (map scalars_in (take n st)))
all_arguments n i st es ns is made all =
    made
    ∙ ap first_patterns (take_all i es all ∙ is)
    ∙ one_by_one (reverse (take n st))
    ∙ ap (map first_pattern) (map_reversed scalars_in (take n st))

-- ---- tasks before others

pub before : (new items old : List PlainTask) (ts : List Task) → new ≡ items ++ old → tasks_by items ≡ ts → tasks_by new ≡ ts ++ tasks_by old
before new items old ts e is = ap tasks_by e ∙ map-append _ items old ∙ ap (λ z. z ++ tasks_by old) is

-- ---- entering a function

abbrev inside : List ClType → ℕ → ℕ → PlainItem → List NodeId → List Entry → List Task → Memory → Item
inside cs f least i calls stack todo memory = record {
  todo = todo;
  stack = stack;
  memory = memory;
  frame = record { function = f; calls = calls };
  around = [];
  callers = record { todo = tasks_by i.todo; around = map (around_by cs) i.around; frame = i.frame; least = least } ∷ map (caller_by cs) i.callers;
}

pub enters : {X E : Type 0} (r : Result X E) (cs : List ClType) (fs : List PlainCode) (f number args least : ℕ) (i new : PlainItem) (code : PlainCode) (calls : List NodeId) (values stack : List Entry) (unset set : PlainMemory) (todo : List PlainTask) →
    Some code ≡ slice_get fs f →
    calls ≡ record { function = i.frame.function; node = number } ∷ i.frame.calls →
    memory_by unset ≡ without_own calls (memory_by i.memory) →
    values ≡ reverse (take args i.stack) →
    memory_by set ≡ with_params cs calls 0 code.params (map scalars_in values) (memory_by unset) →
    stack ≡ drop args i.stack →
    tasks_by todo ≡ function_tasks cs (code_by code) →
    OnOk r (new ≡ record { todo = todo; stack = stack; memory = set; frame = record { function = f; calls = calls }; around = []; callers = record { todo = i.todo; around = i.around; frame = i.frame; least = least } ∷ i.callers }) →
    OnOk r (Goes (entered cs f number args least (item_by cs i) (slice_get (map code_by fs) f)) ≡ Goes (item_by cs new))
enters (Ok x) cs fs f number args least i new code calls values stack unset set todo found are clear newest params rest tasks made =
    ap (λ z. Goes (entered cs f number args least (item_by cs i) z)) (slice_get-map code_by fs f ∙ ap (option_map code_by) (sym found))
    ∙ ap (λ z. Goes (inside cs f least i z (drop args i.stack) (function_tasks cs (code_by code)) (with_params cs z 0 code.params (reverse (map scalars_in (take args i.stack))) (without_own z (memory_by i.memory))))) (sym are)
    ∙ ap (λ z. Goes (inside cs f least i calls (drop args i.stack) (function_tasks cs (code_by code)) (with_params cs calls 0 code.params z (without_own calls (memory_by i.memory))))) (sym (ap (map scalars_in) newest ∙ map_reversed scalars_in (take args i.stack)))
    ∙ ap (λ z. Goes (inside cs f least i calls (drop args i.stack) (function_tasks cs (code_by code)) (with_params cs calls 0 code.params (map scalars_in values) z))) (sym clear)
    ∙ ap (λ z. Goes (inside cs f least i calls (drop args i.stack) (function_tasks cs (code_by code)) z)) (sym params)
    ∙ ap (λ z. Goes (inside cs f least i calls (drop args i.stack) z (memory_by set))) (sym tasks)
    ∙ ap (λ z. Goes (inside cs f least i calls z (tasks_by todo) (memory_by set))) (sym rest)
    ∙ ap (λ z. Goes (item_by cs z)) (sym made)
enters (Err e) cs fs f number args least i new code calls values stack unset set todo found are clear newest params rest tasks made = made

pub enters_nothing : (cs : List ClType) (fs : List PlainCode) (f number args least : ℕ) (i : Item) → slice_get fs f ≡ None → entered cs f number args least i (slice_get (map code_by fs) f) ≡ i
enters_nothing cs fs f number args least i e = ap (entered cs f number args least i) (slice_get-map code_by fs f ∙ ap (option_map code_by) e)

-- ---- atomics

on_top : (e : Entry) (st : List Entry) → scalars_on (e ∷ st) ≡ scalars_in e
on_top (Value v) st = refl
on_top Missing st = refl
on_top (Place p at) st = refl

pub beneath : (st : List Entry) (n : ℕ) (e : Entry) → slice_get st n ≡ Some e → scalars_on (drop n st) ≡ scalars_in e
beneath [] n e is = absurd (cc)
beneath (x ∷ st) zero e is = let same : x ≡ e = cc in on_top x st ∙ ap scalars_in same
beneath (x ∷ st) (suc n) e is = beneath st n e is

pub nothing_beneath : (st : List Entry) (n : ℕ) → slice_get st n ≡ None → scalars_on (drop n st) ≡ []
nothing_beneath [] zero is = refl
nothing_beneath [] (suc n) is = refl
nothing_beneath (x ∷ st) zero is = absurd (cc)
nothing_beneath (x ∷ st) (suc n) is = nothing_beneath st n is

pub no_atomic : (f : Builtin) (signed : Bool) (ns : List ℕ) (i : Item) (st : List Entry) → pointer_in (scalars_on st) ≡ None → atomic_effect f signed ns i st ≡ Goes i
no_atomic f signed ns i [] e = refl
no_atomic f signed ns i (Value [] ∷ st) e = refl
no_atomic f signed ns i (Value (Pattern n ∷ v) ∷ st) e = refl
no_atomic f signed ns i (Value (Points p ∷ []) ∷ st) e = absurd (cc)
no_atomic f signed ns i (Value (Points p ∷ x ∷ v) ∷ st) e = refl
no_atomic f signed ns i (Missing ∷ st) e = refl
no_atomic f signed ns i (Place p at ∷ st) e = refl

acts : (f : Builtin) (signed : Bool) (ns : List ℕ) (i : Item) (st : List Entry) (p : Pointer) → pointer_in (scalars_on st) ≡ Some p → atomic_effect f signed ns i st ≡ atomic_at f signed ns (drop 1 st) i p.object p
acts f signed ns i [] p e = absurd (cc)
acts f signed ns i (Value [] ∷ st) p e = absurd (cc)
acts f signed ns i (Value (Pattern n ∷ v) ∷ st) p e = absurd (cc)
acts f signed ns i (Value (Points q ∷ []) ∷ st) p e = let same : q ≡ p = cc in ap (λ z. atomic_at f signed ns st i z.object z) same
acts f signed ns i (Value (Points q ∷ x ∷ v) ∷ st) p e = absurd (cc)
acts f signed ns i (Missing ∷ st) p e = absurd (cc)
acts f signed ns i (Place q at ∷ st) p e = absurd (cc)

pub private_atomic : (f : Builtin) (signed : Bool) (ns : List ℕ) (i : Item) (st : List Entry) (p : Pointer) (name : Name) → pointer_in (scalars_on st) ≡ Some p → p.object ≡ InPrivate name → atomic_effect f signed ns i st ≡ Goes i
private_atomic f signed ns i st p name e is = acts f signed ns i st p e ∙ ap (λ o. atomic_at f signed ns (drop 1 st) i o p) is

at_shared : (f : Builtin) (signed : Bool) (ns : List ℕ) (i : Item) (st : List Entry) (p : Pointer) (o : Shared) (inside : Bool) → pointer_in (scalars_on st) ≡ Some p → p.object ≡ InShared o → is_inside 4 p ≡ inside → atomic_effect f signed ns i st ≡ (if inside then Questions (event.Atomic f signed (record { object = o; offset = p.offset; bits = 32 }) ns) (λ x. with_stack (Value (Pattern (cut 32 x) ∷ []) ∷ drop 1 st) i) else Undefined)
at_shared f signed ns i st p o inside e is within =
    acts f signed ns i st p e
    ∙ ap (λ z. atomic_at f signed ns (drop 1 st) i z p) is
    ∙ ap (λ b. if b then Questions (event.Atomic f signed (record { object = o; offset = p.offset; bits = 32 }) ns) (λ x. with_stack (Value (Pattern (cut 32 x) ∷ []) ∷ drop 1 st) i) else Undefined) within

pub atomic_outside : (f : Builtin) (signed : Bool) (ns : List ℕ) (i : Item) (st : List Entry) (p : Pointer) (o : Shared) → pointer_in (scalars_on st) ≡ Some p → p.object ≡ InShared o → is_inside 4 p ≡ false → atomic_effect f signed ns i st ≡ Undefined
atomic_outside f signed ns i st p o e is outside = at_shared f signed ns i st p o false e is outside

asked : (e : Effect) (asks : Event) (to on : ℕ → Item) → e ≡ Questions asks to → ((x : ℕ) → to x ≡ on x) → QuestionsFor asks on e
asked e asks to on is same = subst (QuestionsFor asks on) (sym is) (refl, same)

pub atomic_asks : (f : Builtin) (signed : Bool) (ns : List ℕ) (i new : Item) (st : List Entry) (p : Pointer) (o : Shared) (asks : Event) → pointer_in (scalars_on st) ≡ Some p → p.object ≡ InShared o → is_inside 4 p ≡ true → asks ≡ event.Atomic f signed (record { object = o; offset = p.offset; bits = 32 }) ns → new ≡ with_stack (drop 1 st) i → QuestionsFor asks (λ x. answered_by (after.Give 32) x new) (atomic_effect f signed ns i st)
atomic_asks f signed ns i new st p o asks e is inside it made =
    asked (atomic_effect f signed ns i st) asks (λ x. with_stack (Value (Pattern (cut 32 x) ∷ []) ∷ drop 1 st) i) (λ x. answered_by (after.Give 32) x new)
    (at_shared f signed ns i st p o true e is inside ∙ ap (λ z. Questions z (λ x. with_stack (Value (Pattern (cut 32 x) ∷ []) ∷ drop 1 st) i)) (sym it))
    (λ x. ap (answered_by (after.Give 32) x) (sym made))
