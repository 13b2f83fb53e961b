-- Where an item goes on.
use Rattle.std.proofs.Common.{◌≡◌, ℕ, zero, suc, ◌+◌, ◌<◌, ◌≤◌, Bool, true, false, true≢false, if◌then◌else◌, List, [], ◌∷◌, map, length, drop, Some, None, slice_get, refl, sym, ap, ◌∙◌, subst, add-one, arith}
use Rattle.cl_meaning.specs.declared.task.Task.{Task as PlainTask}
use Rattle.cl_types.specs.declared.types.ClType.{ClType}
use Rattle.cl_meaning.specs.Code.{Label, Stmt, Sections}
use Rattle.cl_meaning.specs.declared.code.Section.{Section as PlainSection}
use Rattle.cl_meaning.specs.declared.code.Stmt.TheViews.{out-Section}
use Rattle.cl_meaning.specs.declared.code.Stmt.TheFolds.{fold_out-Section}
use Rattle.cl_meaning.specs.declared.item.Around.{Around as PlainAround}
use Rattle.cl_meaning.specs.declared.item.Around.TheVariants as around
use Rattle.cl_meaning.specs.declared.item.Item.{Item as PlainItem}
use Rattle.cl_meaning.specs.Values.{Entry}
use Rattle.cl_meaning.specs.States.{InSwitch, Item}
use Rattle.cl_meaning.specs.Statements.{switch_tasks}
use Rattle.cl_meaning.specs.Effects.{popped, continued, is_case, is_default, some_label, from_label, or_else, switched, number_on}
use Rattle.cl_meaning.specs.Views.{stmt_step, section_step, sections_by, tasks_by, around_by, item_by}
use Rattle.cl_meaning.specs.Controls.{again_of, is_loop, switches_from}

if_true : {X : Type 0} (b : Bool) (x y : X) → b ≡ true → (if b then x else y) ≡ x
if_true true x y h = refl
if_true false x y h = absurd (true≢false (sym h))

if_false : {X : Type 0} (b : Bool) (x y : X) → b ≡ false → (if b then x else y) ≡ y
if_false true x y h = absurd (true≢false h)
if_false false x y h = refl

-- ---- sections

pub found_here : (is : Label → Bool) (s : PlainSection) (ss : List PlainSection) → some_label is (out-Section s).labels ≡ true → from_label is (sections_by (s ∷ ss)) ≡ sections_by (s ∷ ss)
found_here is s ss h =
    let e = fold_out-Section Stmt (Sections → Sections) stmt_step section_step s in
    ap (λ f. from_label is (f (sections_by ss))) e ∙ if_true _ _ _ h ∙ sym (ap (λ (f : Sections → Sections). f (sections_by ss)) e)

pub found_later : (is : Label → Bool) (s : PlainSection) (ss : List PlainSection) → some_label is (out-Section s).labels ≡ false → from_label is (sections_by (s ∷ ss)) ≡ from_label is (sections_by ss)
found_later is s ss h =
    let e = fold_out-Section Stmt (Sections → Sections) stmt_step section_step s in
    ap (λ f. from_label is (f (sections_by ss))) e ∙ if_false _ _ _ h

pub this_rather : (ss : List PlainSection) (other : Sections) → (length ss ≡ 0 → ⊥) → or_else (sections_by ss) other ≡ sections_by ss
this_rather [] other h = absurd (h refl)
this_rather (s ∷ ss) other h =
    let e = fold_out-Section Stmt (Sections → Sections) stmt_step section_step s in
    ap (λ f. or_else (f (sections_by ss)) other) e ∙ sym (ap (λ (f : Sections → Sections). f (sections_by ss)) e)

switched_to : (cs : List ClType) (ss : List PlainSection) (i : Item) → (length ss ≡ 0 → ⊥) → switched cs (sections_by ss) i ≡ record i { todo = switch_tasks cs (sections_by ss); around = InSwitch i.todo ∷ i.around }
switched_to cs [] i h = absurd (h refl)
switched_to cs (s ∷ ss) i h =
    let e = fold_out-Section Stmt (Sections → Sections) stmt_step section_step s in
    ap (λ f. switched cs (f (sections_by ss)) i) e ∙ sym (ap (λ (f : Sections → Sections). record i { todo = switch_tasks cs (f (sections_by ss)); around = InSwitch i.todo ∷ i.around }) e)

-- the section of the case, or else of `default`
abbrev selected_by : ℕ → Sections → Sections
selected_by n all = or_else (from_label (is_case n) all) (from_label is_default all)

pub selects_some : (cs : List ClType) (all : Sections) (ss : List PlainSection) (old new : PlainItem) (n : ℕ) (stack : List Entry) (these todo : List PlainTask) → n ≡ number_on old.stack → sections_by ss ≡ selected_by n all → (length ss ≡ 0 → ⊥) → stack ≡ drop 1 old.stack → tasks_by these ≡ switch_tasks cs (sections_by ss) → tasks_by todo ≡ tasks_by these → new ≡ record old { stack = stack; todo = todo; around = around.InSwitch old.todo ∷ old.around } → switched cs (selected_by (number_on old.stack) all) (popped (item_by cs old)) ≡ item_by cs new
selects_some cs all ss old new n stack these todo is found some dropped are as_stack made =
    ap (λ z. switched cs (selected_by z all) (popped (item_by cs old))) (sym is)
    ∙ ap (λ z. switched cs z (popped (item_by cs old))) (sym found)
    ∙ switched_to cs ss (popped (item_by cs old)) some
    ∙ ap (λ z. record (popped (item_by cs old)) { todo = z; around = InSwitch (tasks_by old.todo) ∷ map (around_by cs) old.around }) (sym (as_stack ∙ are))
    ∙ ap (λ z. item_by cs (record old { stack = z; todo = todo; around = around.InSwitch old.todo ∷ old.around })) (sym dropped)
    ∙ sym (ap (item_by cs) made)

-- ---- what is around

pub at_loop : (m : ℕ) (arounds : List PlainAround) (k : ℕ) → is_loop (slice_get arounds k) ≡ true → switches_from m (drop k arounds) ≡ Some m
at_loop m [] k h = absurd (true≢false (sym h))
at_loop m (around.InLoop test next body behind ∷ arounds) zero h = refl
at_loop m (around.InSwitch behind ∷ arounds) zero h = absurd (true≢false (sym h))
at_loop m (a ∷ arounds) (suc k) h = at_loop m arounds k h

at_switch : (m : ℕ) (arounds : List PlainAround) (k : ℕ) → k < length arounds → is_loop (slice_get arounds k) ≡ false → switches_from m (drop k arounds) ≡ switches_from (suc m) (drop (suc k) arounds)
at_switch m [] k l h = absurd (omega arith)
at_switch m (around.InLoop test next body behind ∷ arounds) zero l h = absurd (true≢false h)
at_switch m (around.InSwitch behind ∷ arounds) zero l h = refl
at_switch m (a ∷ arounds) (suc k) l h = at_switch m arounds k (omega arith) h

pub counted_past : (arounds : List PlainAround) (k : ℕ) → k < length arounds → is_loop (slice_get arounds k) ≡ false → switches_from (k + 1) (drop (k + 1) arounds) ≡ switches_from k (drop k arounds)
counted_past arounds k l h = ap (λ z. switches_from z (drop z arounds)) (add-one k) ∙ sym (at_switch k arounds k l h)

pub counted_all : (arounds : List PlainAround) (k : ℕ) → length arounds ≤ k → switches_from k (drop k arounds) ≡ None
counted_all arounds k l = by arounds k l k
  where
    by : (arounds : List PlainAround) (k : ℕ) → length arounds ≤ k → (m : ℕ) → switches_from m (drop k arounds) ≡ None
    by [] zero l m = refl
    by [] (suc k) l m = refl
    by (a ∷ arounds) zero l m = absurd (omega arith)
    by (a ∷ arounds) (suc k) l m = by arounds k (omega arith) m

-- the innermost loop beneath d switches, and what `continue` does
record LoopBeneath (cs : List ClType) (arounds : List PlainAround) (d : ℕ) : Type 0 where
  top : PlainAround
  rest : List PlainAround
  at : drop d arounds ≡ top ∷ rest
  goes : (i : Item) → continued (map (around_by cs) arounds) i ≡ record i { todo = again_of (around_by cs top); around = map (around_by cs) (top ∷ rest) }

loop_beneath : (cs : List ClType) (arounds : List PlainAround) (m n : ℕ) → switches_from m arounds ≡ Some n → (d : ℕ) × (n ≡ m + d) × LoopBeneath cs arounds d
loop_beneath cs [] m n h = absurd (cc)
loop_beneath cs (around.InLoop test next body behind ∷ arounds) m n h =
    let e : m ≡ n = cc in
    (0, omega arith, record { top = around.InLoop test next body behind; rest = arounds; at = refl; goes = λ i. refl })
loop_beneath cs (around.InSwitch behind ∷ arounds) m n h =
    let w = loop_beneath cs arounds (suc m) n h in
    let e : n ≡ suc m + w.0 = w.1 in
    (suc w.0, omega arith, record { top = w.2.top; rest = w.2.rest; at = w.2.at; goes = w.2.goes })

beneath : (cs : List ClType) (arounds : List PlainAround) (n : ℕ) → switches_from 0 arounds ≡ Some n → LoopBeneath cs arounds n
beneath cs arounds n h =
    let w = loop_beneath cs arounds 0 n h in
    let e : w.0 ≡ n = let k : n ≡ 0 + w.0 = w.1 in omega arith in
    subst (LoopBeneath cs arounds) e w.2

-- there is no loop
pub goes_nowhere : (cs : List ClType) (arounds : List PlainAround) (m : ℕ) (i : Item) → switches_from m arounds ≡ None → continued (map (around_by cs) arounds) i ≡ i
goes_nowhere cs [] m i h = refl
goes_nowhere cs (around.InLoop test next body behind ∷ arounds) m i h = absurd (cc)
goes_nowhere cs (around.InSwitch behind ∷ arounds) m i h = goes_nowhere cs arounds (suc m) i h

goes_on : (cs : List ClType) (arounds : List PlainAround) (n : ℕ) (a : PlainAround) (i : Item) → switches_from 0 arounds ≡ Some n → slice_get (drop n arounds) 0 ≡ Some a → continued (map (around_by cs) arounds) i ≡ record i { todo = again_of (around_by cs a); around = map (around_by cs) (drop n arounds) }
goes_on cs arounds n a i h g =
    let w = beneath cs arounds n h in
    let same : w.top ≡ a = let e : Some w.top ≡ Some a = sym (ap (λ z. slice_get z 0) w.at) ∙ g in cc in
    w.goes i ∙ ap (λ z. record i { todo = again_of (around_by cs z); around = map (around_by cs) (w.top ∷ w.rest) }) same
    ∙ ap (λ z. record i { todo = again_of (around_by cs a); around = map (around_by cs) z }) (sym w.at)

pub is_beneath : (arounds : List PlainAround) (n : ℕ) → switches_from 0 arounds ≡ Some n → slice_get (drop n arounds) 0 ≡ None → ⊥
is_beneath arounds n h g =
    let w = beneath [] arounds n h in
    let e : Some w.top ≡ None = sym (ap (λ z. slice_get z 0) w.at) ∙ g in cc

-- the innermost loop goes on
pub loop_goes_on : (cs : List ClType) (old new : PlainItem) (n : ℕ) (kept : List PlainAround) (a : PlainAround) (these todo : List PlainTask) → switches_from 0 old.around ≡ Some n → kept ≡ drop n old.around → slice_get kept 0 ≡ Some a → tasks_by these ≡ again_of (around_by cs a) → tasks_by todo ≡ tasks_by these → new ≡ record old { around = kept; todo = todo } → continued (map (around_by cs) old.around) (item_by cs old) ≡ item_by cs new
loop_goes_on cs old new n kept a these todo counted rest is are as_stack made =
    goes_on cs old.around n a (item_by cs old) counted (ap (λ z. slice_get z 0) (sym rest) ∙ is)
    ∙ ap (λ z. record (item_by cs old) { todo = z; around = map (around_by cs) (drop n old.around) }) (sym (as_stack ∙ are))
    ∙ ap (λ z. item_by cs (record old { around = z; todo = todo })) (sym rest)
    ∙ sym (ap (item_by cs) made)

pub ruleset sections_found = (found_here, found_later)

pub ruleset counting = (at_loop, counted_past, counted_all)
