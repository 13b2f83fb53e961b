-- What the lines have said is put together as they say it, one line later.
use Rattle.std.proofs.Common.{◌≡◌, ℕ, ◌+◌, Bool, true, false, cond, List, [], ◌∷◌, ◌++◌, length, Option, Some, None, is_some, Result, Ok, Err, refl, sym, ap, ◌∙◌}
use Rattle.launch_text.specs.declared.draft.Draft.{Draft}
use Rattle.launch_text.specs.declared.draft.LocalLine.{LocalLine}
use Rattle.launch_text.specs.declared.launch.ArgLine.{ArgLine}
use Rattle.launch_text.specs.declared.launch.Schedule.{Schedule}
use Rattle.launch_text.specs.declared.said.Given.{Given}
use Rattle.launch_text.specs.declared.said.Grid.{Grid}
use Rattle.launch_text.specs.declared.said.Said.{Said}
use Rattle.launch_text.specs.declared.said.Said.TheVariants as said
use Rattle.launch_text.specs.Drafts.{with_argument, taken, line_taken, finished, drafted}
use Rattle.launch_text.specs.LaunchText.{first_of, kernel_of, global_of, local_of, given_to, schedule_of, steps_of, is_given, once, files_of, arguments_of, local_line, launch_from, launch_said}
use Rattle.launch_text.proofs.Files.{files_same, files_given, arguments_same, arguments_given}
use Rattle.launch_text.proofs.Firsts.{first_of_same, first_of_new, located, some_located, local_in, local_same, local_new, any_ordinal}

abbrev made : Option (List ℕ) → Option Grid → Option LocalLine → List (List ℕ) → List ArgLine → Option Schedule → Option ℕ → Draft
made kernel global local files args schedule steps = record { kernel = kernel; global = global; local = local; files = files; args = args; schedule = schedule; steps = steps }

abbrev pub draft_of : List Said → Draft
draft_of lines = made (first_of kernel_of lines) (first_of global_of lines) (local_in lines) (files_of lines) (arguments_of lines) (first_of schedule_of lines) (first_of steps_of lines)

same_draft : (k k' : Option (List ℕ)) (g g' : Option Grid) (l l' : Option LocalLine) (f f' : List (List ℕ)) (a a' : List ArgLine) (s s' : Option Schedule) (t t' : Option ℕ) → k ≡ k' → g ≡ g' → l ≡ l' → f ≡ f' → a ≡ a' → s ≡ s' → t ≡ t' → made k g l f a s t ≡ made k' g' l' f' a' s' t'
same_draft k k' g g' l l' f f' a a' s s' t t' ek eg el ef ea es et = cc (ek, eg, el, ef, ea, es, et)

unless : (b : Bool) (x y : Result Draft ℕ) → (b ≡ false → x ≡ y) → cond b (Err 7) x ≡ cond b (Err 7) y
unless true x y e = refl
unless false x y e = e refl

none_is : {A : Type 0} (o : Option A) → is_some o ≡ false → o ≡ None
none_is None e = refl
none_is (Some x) e = cc

with_kernel : (lines : List Said) (name : List ℕ) → first_of kernel_of lines ≡ None → record (draft_of lines) { kernel = Some name } ≡ draft_of (lines ++ said.Kernel name ∷ [])
with_kernel lines name none = let s = said.Kernel name in same_draft _ _ _ _ _ _ _ _ _ _ _ _ _ _
    (sym (first_of_new kernel_of lines s none)) (sym (first_of_same global_of lines s refl)) (sym (local_same lines s refl)) (sym (files_same lines s refl)) (sym (arguments_same lines s refl (λ files. refl))) (sym (first_of_same schedule_of lines s refl)) (sym (first_of_same steps_of lines s refl))

with_global : (lines : List Said) (grid : Grid) → first_of global_of lines ≡ None → record (draft_of lines) { global = Some grid } ≡ draft_of (lines ++ said.Global grid ∷ [])
with_global lines grid none = let s = said.Global grid in same_draft _ _ _ _ _ _ _ _ _ _ _ _ _ _
    (sym (first_of_same kernel_of lines s refl)) (sym (first_of_new global_of lines s none)) (sym (local_same lines s refl)) (sym (files_same lines s refl)) (sym (arguments_same lines s refl (λ files. refl))) (sym (first_of_same schedule_of lines s refl)) (sym (first_of_same steps_of lines s refl))

with_local : (lines : List Said) (grid : Grid) → first_of local_of lines ≡ None → record (draft_of lines) { local = Some (record { grid = grid; line = length lines + 1 }) } ≡ draft_of (lines ++ said.Local grid ∷ [])
with_local lines grid none = let s = said.Local grid in same_draft _ _ _ _ _ _ _ _ _ _ _ _ _ _
    (sym (first_of_same kernel_of lines s refl)) (sym (first_of_same global_of lines s refl)) (sym (local_new lines grid none)) (sym (files_same lines s refl)) (sym (arguments_same lines s refl (λ files. refl))) (sym (first_of_same schedule_of lines s refl)) (sym (first_of_same steps_of lines s refl))

with_schedule : (lines : List Said) (schedule : Schedule) → first_of schedule_of lines ≡ None → record (draft_of lines) { schedule = Some schedule } ≡ draft_of (lines ++ said.Schedule schedule ∷ [])
with_schedule lines schedule none = let s = said.Schedule schedule in same_draft _ _ _ _ _ _ _ _ _ _ _ _ _ _
    (sym (first_of_same kernel_of lines s refl)) (sym (first_of_same global_of lines s refl)) (sym (local_same lines s refl)) (sym (files_same lines s refl)) (sym (arguments_same lines s refl (λ files. refl))) (sym (first_of_new schedule_of lines s none)) (sym (first_of_same steps_of lines s refl))

with_steps : (lines : List Said) (count : ℕ) → first_of steps_of lines ≡ None → record (draft_of lines) { steps = Some count } ≡ draft_of (lines ++ said.Steps count ∷ [])
with_steps lines count none = let s = said.Steps count in same_draft _ _ _ _ _ _ _ _ _ _ _ _ _ _
    (sym (first_of_same kernel_of lines s refl)) (sym (first_of_same global_of lines s refl)) (sym (local_same lines s refl)) (sym (files_same lines s refl)) (sym (arguments_same lines s refl (λ files. refl))) (sym (first_of_same schedule_of lines s refl)) (sym (first_of_new steps_of lines s none))

with_nothing : (lines : List Said) → draft_of lines ≡ draft_of (lines ++ said.Nothing ∷ [])
with_nothing lines = let s = said.Nothing in same_draft _ _ _ _ _ _ _ _ _ _ _ _ _ _
    (sym (first_of_same kernel_of lines s refl)) (sym (first_of_same global_of lines s refl)) (sym (local_same lines s refl)) (sym (files_same lines s refl)) (sym (arguments_same lines s refl (λ files. refl))) (sym (first_of_same schedule_of lines s refl)) (sym (first_of_same steps_of lines s refl))

with_given : (lines : List Said) (n : ℕ) (g : Given) → with_argument (draft_of lines) n g ≡ draft_of (lines ++ said.Argument n g ∷ [])
with_given lines n g = let s = said.Argument n g in same_draft _ _ _ _ _ _ _ _ _ _ _ _ _ _
    (sym (first_of_same kernel_of lines s refl)) (sym (first_of_same global_of lines s refl)) (sym (local_same lines s refl)) (sym (files_given lines n g)) (sym (arguments_given lines n g)) (sym (first_of_same schedule_of lines s refl)) (sym (first_of_same steps_of lines s refl))

abbrev pub After : List Said → Said → Result Draft ℕ
After lines s = cond (is_given lines s) (Err 7) (Ok (draft_of (lines ++ s ∷ [])))

pub taken_is : (lines : List Said) (s : Said) → taken (draft_of lines) (length lines + 1) s ≡ After lines s
taken_is lines said.Nothing = ap Ok (with_nothing lines)
taken_is lines (said.Kernel name) = unless (is_some (first_of kernel_of lines)) _ _ (λ e. ap Ok (with_kernel lines name (none_is _ e)))
taken_is lines (said.Global grid) = unless (is_some (first_of global_of lines)) _ _ (λ e. ap Ok (with_global lines grid (none_is _ e)))
taken_is lines (said.Local grid) = ap (λ b. cond b (Err 7) (Ok (record (draft_of lines) { local = Some (record { grid = grid; line = length lines + 1 }) }))) (some_located (local_line lines) (first_of local_of lines)) ∙ unless (is_some (first_of local_of lines)) _ _ (λ e. ap Ok (with_local lines grid (none_is _ e)))
taken_is lines (said.Argument n g) = ap (λ b. cond b (Err 7) (Ok (with_argument (draft_of lines) n g))) (any_ordinal n (files_of lines) lines) ∙ unless (is_some (first_of (given_to n) lines)) _ _ (λ e. ap Ok (with_given lines n g))
taken_is lines (said.Schedule schedule) = unless (is_some (first_of schedule_of lines)) _ _ (λ e. ap Ok (with_schedule lines schedule (none_is _ e)))
taken_is lines (said.Steps count) = unless (is_some (first_of steps_of lines)) _ _ (λ e. ap Ok (with_steps lines count (none_is _ e)))

-- ---- a line is taken, or breaks a rule

pub record Goes (lines : List Said) (verdict : Result Said ℕ) (d : Draft) : Type 0 where
  pub said : Said
  pub once_said : once lines verdict ≡ Ok said
  pub drafted : d ≡ draft_of (lines ++ said ∷ [])

goes_by : (lines : List Said) (s : Said) (d : Draft) (b : Bool) → is_given lines s ≡ b → cond {A = Result Draft ℕ} b (Err 7) (Ok (draft_of (lines ++ s ∷ []))) ≡ Ok d → Goes lines (Ok s) d
goes_by lines s d true e h = cc
goes_by lines s d false e h = record { said = s; once_said = rw e refl; drafted = (let same : draft_of (lines ++ s ∷ []) ≡ d = cc in sym same) }

pub line_goes : (lines : List Said) (verdict : Result Said ℕ) (d : Draft) → line_taken (draft_of lines) (length lines + 1) verdict ≡ Ok d → Goes lines verdict d
line_goes lines (Ok s) d h = goes_by lines s d (is_given lines s) refl (sym (taken_is lines s) ∙ h)
line_goes lines (Err rule) d h = cc

stops_by : (lines : List Said) (s : Said) (rule : ℕ) (b : Bool) → is_given lines s ≡ b → cond {A = Result Draft ℕ} b (Err 7) (Ok (draft_of (lines ++ s ∷ []))) ≡ Err rule → once lines (Ok s) ≡ Err rule
stops_by lines s rule true e h = let seven : 7 ≡ rule = cc in rw e (ap Err seven)
stops_by lines s rule false e h = cc

pub line_stops : (lines : List Said) (verdict : Result Said ℕ) (rule : ℕ) → line_taken (draft_of lines) (length lines + 1) verdict ≡ Err rule → once lines verdict ≡ Err rule
line_stops lines (Ok s) rule h = stops_by lines s rule (is_given lines s) refl (sym (taken_is lines s) ∙ h)
line_stops lines (Err broken) rule h = let same : broken ≡ rule = cc in ap Err same

-- ---- the end

finished_is : (lines : List Said) (k : Option (List ℕ)) (g l : Option Grid) → finished (draft_of lines) (length lines) k g (located (local_line lines) l) ≡ launch_from lines k g l
finished_is lines (Some k) (Some g) (Some l) = refl
finished_is lines (Some k) (Some g) None = refl
finished_is lines (Some k) None (Some l) = refl
finished_is lines (Some k) None None = refl
finished_is lines None (Some g) (Some l) = refl
finished_is lines None (Some g) None = refl
finished_is lines None None (Some l) = refl
finished_is lines None None None = refl

pub drafted_is : (lines : List Said) → drafted (draft_of lines) (length lines) ≡ launch_said (Ok lines)
drafted_is lines = finished_is lines (first_of kernel_of lines) (first_of global_of lines) (first_of local_of lines)
