-- What the steps of `run` come to, each from what its callee came to.
use Rattle.std.proofs.Common.{◌≡◌, ℕ, zero, suc, ◌+◌, ◌≤◌, ◌<◌, Bool, true, false, cond, List, [], ◌∷◌, length, IsTrue, Option, Some, None, Ok, Err, refl, sym, ap, ◌∙◌, subst, arith, get_or, slice_get, take}
use Rattle.std.proofs.lemmas.Option.{slice_get_within, get_or_from_slice_get}
use Rattle.clv_place.specs.declared.stop.Offence.{Offence}
use Rattle.clv_io.specs.Files.{FilesState}
use Rattle.launch_text.specs.declared.launch.ArgLine.{ArgLine}
use Rattle.launch_text.specs.declared.launch.Launch.{Launch}
use Rattle.launch_text.specs.declared.launch.Schedule.TheVariants.{Robin, Mixed}
use Rattle.launch_text.specs.LaunchText.{launch_of}
use Rattle.launch_text.specs.Readable.{IsReadable, IsGiven}
use Rattle.launch_text.specs.Rules.{LoadedLaunch, loaded}
use Rattle.spv_module.specs.declared.module.Inst.{Inst}
use Rattle.spv_meaning.specs.Start.{Bound}
use Rattle.spv_meaning.specs.Worlds.{Buffers}
use Rattle.run_machine.specs.declared.ending.Trap.{Trap}
use Rattle.clv_engine.specs.declared.load.Loaded.{Loaded}
use Rattle.clv_engine.specs.declared.load.Loaded.TheVariants.{Held, TooLarge, Absent}
use Rattle.clv_engine.specs.declared.load.Buffers.{Buffers as LoadedBuffers}
use Rattle.clv_engine.specs.declared.load.Buffers.TheVariants as buffers
use Rattle.clv_engine.specs.declared.outcome.Outcome.{Outcome}
use Rattle.clv_engine.specs.declared.outcome.Outcome.TheVariants as outcome
use Rattle.clv_engine.specs.FirstForm.{IsOut}
use Rattle.clv_engine.specs.Command.{IsText, IsUnchanged, IsCompiled, file_text, source_text}
use Rattle.clv_engine.specs.RunCommand.{launch_line_text, launch_rule_text, trap_text, spent_text, Reads, whole, over, IsFaulty, is_broken, is_long, IsRefused, is_out, is_over, HoldBuffers, IsReady, IsLeastGiven, is_marked, stores_from, IsRun, IsLoaded, RunComesTo, absent, launch_absent, refused, faulty, seeded, buffer_absent, buffer_over, misfit, too_much, trapped, spent, ran, unstored}
use Rattle.run_machine.specs.Machines.{trap_by}
use Rattle.clv_engine.specs.RunSteps.{Since, LoadsAs, LoadAnswers, BuffersLoad, BuffersAnswer, marks, IsComplete, ComesOut, stores_of, StoresComeTo, all_stored, one_failed, AreBuffers, JudgesTo, PlansTo, IsPlanned, GoesTo, BuffersGoTo, IsRunnable, OutcomeOf}
use Rattle.clv_engine.proofs.Loading.{unchanged_then, text_before, absent_before, large_before, HoldBuffers-length}
use Rattle.clv_engine.proofs.Storing.{stores_later, cut_stores_later}
use Rattle.clv_engine.proofs.ScheduledFacts.{served}

run_at : (source launch : List ℕ) (old new : FilesState) (s s' : ℕ) (t t' : List ℕ) → RunComesTo source launch old new s t → s' ≡ s → t' ≡ t → RunComesTo source launch old new s' t'
run_at source launch old new s s' t t' c e f = subst (λ n. RunComesTo source launch old new n t') (sym e) (subst (RunComesTo source launch old new s) (sym f) c)

some_same : {A : Type 0} (a b : A) → Some a ≡ Some b → a ≡ b
some_same a b e = cc

no_some : {A : Type 0} (a : A) → None ≡ Some a → ⊥
no_some a e = cc

-- ---- the source and the launch are loaded

pub reads_held : (old new : FilesState) (name : List ℕ) (max : ℕ) (l : Loaded) (text : List ℕ) (s : Option (List ℕ)) → LoadsAs old new name max l → l ≡ Held text → s ≡ Some text → Reads old name max s
reads_held old new name max l text s h e f =
    let x : LoadAnswers old new name max (Held text) = subst (LoadAnswers old new name max) e h.answers in
    subst (Reads old name max) (sym f) (whole text x.0 x.1)

pub reads_over : (old new : FilesState) (name : List ℕ) (max : ℕ) (l : Loaded) (s : Option (List ℕ)) → LoadsAs old new name max l → l ≡ TooLarge → s ≡ None → Reads old name max s
reads_over old new name max l s h e f =
    let x : LoadAnswers old new name max TooLarge = subst (LoadAnswers old new name max) e h.answers in
    subst (Reads old name max) (sym f) (over x.0 x.1)

pub reads_before : (old mid : FilesState) (name : List ℕ) (max : ℕ) (s : Option (List ℕ)) → IsUnchanged old mid → Reads mid name max s → Reads old name max s
reads_before old mid name max _ u (whole text i l) = whole text (text_before old mid name text u i) l
reads_before old mid name max _ u (over seen l) = over seen (large_before old mid name max seen u l)

pub source_absent : (source launch : List ℕ) (old new : FilesState) (max : ℕ) (l : Loaded) (status : ℕ) (text : List ℕ) → LoadsAs old new source max l → l ≡ Absent → status ≡ 3 → text ≡ file_text source → RunComesTo source launch old new status text
source_absent source launch old new max l status text h e f g = run_at source launch old new 3 status _ text (absent (subst (LoadAnswers old new source max) e h.answers)) f g

pub no_launch : (source launch : List ℕ) (old mid new : FilesState) (max max2 : ℕ) (l l2 : Loaded) (status : ℕ) (text : List ℕ) (s : Option (List ℕ)) → Reads old source 1048576 s → LoadsAs old mid source max l → (IsTrue old.is_steady → IsTrue old.tells) → LoadsAs mid new launch max2 l2 → l2 ≡ Absent → status ≡ 3 → text ≡ file_text launch → RunComesTo source launch old new status text
no_launch source launch old mid new max max2 l l2 status text s r h tells k e f g = run_at source launch old new 3 status _ text (launch_absent s r (absent_before old mid new launch (record { same = h.same; tells = tells }) (subst (LoadAnswers mid new launch max2) e k.answers))) f g

pub since_both : (old mid new : FilesState) (a b : List ℕ) (max max2 : ℕ) (l l2 : Loaded) → LoadsAs old mid a max l → (IsTrue old.is_steady → IsTrue old.tells) → LoadsAs mid new b max2 l2 → Since old new
since_both old mid new a b max max2 l l2 h tells k = record { same = unchanged_then old mid new h.same k.same; tells = tells }

pub judged : (source launch : List ℕ) (old mid new : FilesState) (s w : Option (List ℕ)) (status : ℕ) (text : List ℕ) → Since old mid → Reads old source 1048576 s → Reads old launch 65536 w → JudgesTo s w mid new status text → RunComesTo source launch old new status text
judged source launch old mid new s w status text since rs rw h = h source launch old since rs rw

-- ---- the source is judged

pub read_some : (old : FilesState) (name : List ℕ) (max : ℕ) (s : Option (List ℕ)) (text : List ℕ) → Reads old name max s → s ≡ Some text → IsText old name text
read_some old name max _ text (whole t i l) e = subst (IsText old name) (some_same t text e) i
read_some old name max _ text (over seen l) e = absurd (no_some text e)

pub too_long : (s w : Option (List ℕ)) (mid : FilesState) (status : ℕ) (text : List ℕ) (o : Offence) → s ≡ None → o.code ≡ 105 → o.place.line ≡ 1 → o.place.col ≡ 1 → status ≡ 1 → text ≡ source_text o → JudgesTo s w mid mid status text
too_long s w mid status text o e a b c f g = λ source launch old since rs rw. run_at source launch old mid 1 status _ text (refused o s rs (subst (IsRefused o) (sym e) (is_over a b c)) since.same) f g

pub refuses : (s w : Option (List ℕ)) (mid : FilesState) (status : ℕ) (text bytes lent : List ℕ) (o : Offence) → s ≡ Some bytes → lent ≡ bytes → IsOut lent o → status ≡ 1 → text ≡ source_text o → JudgesTo s w mid mid status text
refuses s w mid status text bytes lent o e l out f g = λ source launch old since rs rw. run_at source launch old mid 1 status _ text (refused o s rs (subst (IsRefused o) (sym e) (is_out bytes (subst (λ t. IsOut t o) l out))) since.same) f g

pub plans : (s w : Option (List ℕ)) (text lent bytes slice : List ℕ) (mid new : FilesState) (status : ℕ) (out : List ℕ) → s ≡ Some text → lent ≡ text → IsCompiled lent bytes → slice ≡ bytes → PlansTo slice w mid new status out → JudgesTo s w mid new status out
plans s w text lent bytes slice mid new status out e l c f h = λ source launch old since rs rw. h source launch text old since (read_some old source 1048576 s text rs e) (subst (IsCompiled text) (sym f) (subst (λ t. IsCompiled t bytes) l c)) rw

-- ---- the launch is read

pub launch_long : (bytes : List ℕ) (w : Option (List ℕ)) (mid : FilesState) (status : ℕ) (text : List ℕ) → w ≡ None → status ≡ 6 → text ≡ launch_line_text 1 1 → PlansTo bytes w mid mid status text
launch_long bytes w mid status text e f g = λ source launch t old since is compiled rw. run_at source launch old mid 6 status _ text (faulty t bytes 1 1 w is compiled rw (subst (IsFaulty 1 1) (sym e) (is_long refl refl)) since.same) f g

pub launch_faulty : (bytes : List ℕ) (w : Option (List ℕ)) (mid : FilesState) (status number line : ℕ) (text words lent : List ℕ) → w ≡ Some words → lent ≡ words → launch_of lent ≡ Err (record { rule = number; line = line }) → status ≡ 6 → text ≡ launch_line_text number line → PlansTo bytes w mid mid status text
launch_faulty bytes w mid status number line text words lent e l h f g = λ source launch t old since is compiled rw. run_at source launch old mid 6 status _ text (faulty t bytes number line w is compiled rw (subst (IsFaulty number line) (sym e) (is_broken words (ap launch_of (sym l) ∙ h))) since.same) f g

pub plan_goes : (bytes : List ℕ) (w : Option (List ℕ)) (words lent : List ℕ) (plan : Launch) (mid new : FilesState) (status : ℕ) (text : List ℕ) → w ≡ Some words → lent ≡ words → launch_of lent ≡ Ok plan → GoesTo bytes plan mid new status text → PlansTo bytes w mid new status text
plan_goes bytes w words lent plan mid new status text e l h k = λ source launch t old since is compiled rw. k source launch old (record {
  text = t;
  bytes = bytes;
  words = words;
  plan = plan;
  read_source = is;
  compiled = compiled;
  read_launch = read_some old launch 65536 w words rw e;
  is_launch = ap launch_of (sym l) ∙ h;
}) (record { bytes_are = refl; plan_is = refl }) since

pub seeded_goes : (bytes : List ℕ) (plan : Launch) (seed : ℕ) (mid : FilesState) (status : ℕ) (text : List ℕ) → plan.schedule ≡ Mixed seed → status ≡ 6 → text ≡ launch_rule_text (record { number = 30; argument = None }) → GoesTo bytes plan mid mid status text
seeded_goes bytes plan seed mid status text e f g = λ source launch old r p since. run_at source launch old mid 6 status _ text (seeded r seed (ap (λ (q : Launch). q.schedule) p.plan_is ∙ e) since.same) f g

-- ---- the buffers are loaded

small_each : (old : FilesState) (names bs : List (List ℕ)) → HoldBuffers old names bs → (n : ℕ) (b : List ℕ) → slice_get bs n ≡ Some b → length b ≤ 16777216
small_each old [] [] h n b e = absurd (no_some b e)
small_each old [] (c ∷ bs) h n b e = absurd h
small_each old (x ∷ names) [] h n b e = absurd h
small_each old (x ∷ names) (c ∷ bs) h zero b e = subst (λ (z : List ℕ). length z ≤ 16777216) (some_same c b e) h.1
small_each old (x ∷ names) (c ∷ bs) h (suc n) b e = small_each old names bs h.2 n b e

hold_before : (old mid : FilesState) (names bs : List (List ℕ)) → IsUnchanged old mid → HoldBuffers mid names bs → HoldBuffers old names bs
hold_before old mid [] [] u h = tt
hold_before old mid [] (c ∷ bs) u h = absurd h
hold_before old mid (x ∷ names) [] u h = absurd h
hold_before old mid (x ∷ names) (c ∷ bs) u h = (text_before old mid x c u h.0, h.1, hold_before old mid names bs u h.2)

-- what the load of the buffers has answered, by the names of the launch
pub record AreLoaded (plan : Launch) (mid new : FilesState) (b : LoadedBuffers) : Type 0 where
  pub same : IsUnchanged mid new
  pub answers : BuffersAnswer mid new plan.files b

pub are_loaded : (plan : Launch) (lent : List (List ℕ)) (mid new : FilesState) (b c : LoadedBuffers) → BuffersLoad mid new lent b → b ≡ c → lent ≡ plan.files → AreLoaded plan mid new c
are_loaded plan lent mid new b c h e l = record { same = h.same; answers = subst (BuffersAnswer mid new plan.files) e (subst (λ ns. BuffersAnswer mid new ns b) l h.answers) }

pub held_sizes : (plan : Launch) (mid new : FilesState) (bs : List (List ℕ)) → AreLoaded plan mid new (buffers.Held bs) → AreBuffers plan.files bs
held_sizes plan mid new bs h = record { count = HoldBuffers-length mid plan.files bs h.answers; small = small_each mid plan.files bs h.answers }

pub absent_low : (plan : Launch) (mid new : FilesState) (at : ℕ) → AreLoaded plan mid new (buffers.Absent at) → at < length plan.files
absent_low plan mid new at h = slice_get_within plan.files at h.answers.0 h.answers.1

pub large_given : (plan : Launch) (mid new : FilesState) (at : ℕ) → IsReadable plan → AreLoaded plan mid new (buffers.TooLarge at) → IsGiven plan.args at
large_given plan mid new at readable h = readable.given at (slice_get_within plan.files at h.answers.0 h.answers.2)

since_then : (old mid new : FilesState) → Since old mid → IsUnchanged mid new → Since old new
since_then old mid new s u = record { same = unchanged_then old mid new s.same u; tells = s.tells }

pub held_goes : (bytes : List ℕ) (plan : Launch) (turn : ℕ) (bs : List (List ℕ)) (mid mid2 new : FilesState) (status : ℕ) (text : List ℕ) → AreLoaded plan mid mid2 (buffers.Held bs) → plan.schedule ≡ Robin turn → BuffersGoTo bytes plan turn bs mid2 new status text → GoesTo bytes plan mid new status text
held_goes bytes plan turn bs mid mid2 new status text h robin k = λ source launch old r p since. k source launch old r p robin (hold_before old mid plan.files bs since.same h.answers) (since_then old mid mid2 since h.same)

pub absent_goes : (bytes : List ℕ) (plan : Launch) (at : ℕ) (mid new : FilesState) (lent : List (List ℕ)) (name shown : List ℕ) (status : ℕ) (text : List ℕ) → AreLoaded plan mid new (buffers.Absent at) → lent ≡ plan.files → name ≡ get_or lent at name → shown ≡ name → status ≡ 3 → text ≡ file_text shown → GoesTo bytes plan mid new status text
absent_goes bytes plan at mid new lent name shown status text h l e s f g = λ source launch old r p since.
    let x = h.answers in
    let named : name ≡ x.0 = e ∙ ap (λ (ns : List (List ℕ)). get_or ns at name) l ∙ get_or_from_slice_get plan.files at x.0 name x.1 in
    run_at source launch old new 3 status _ text (buffer_absent r at x.0 x.3 (subst (λ (q : Launch). slice_get q.files at ≡ Some x.0) (sym p.plan_is) x.1) (subst (λ (q : Launch). HoldBuffers old (take at q.files) x.3) (sym p.plan_is) (hold_before old mid (take at plan.files) x.3 since.same x.4)) (absent_before old mid new x.0 since x.2)) f (g ∙ ap file_text (s ∙ named))

pub large_goes : (bytes : List ℕ) (plan : Launch) (at least : ℕ) (mid new : FilesState) (lent : List ArgLine) (status : ℕ) (text : List ℕ) → AreLoaded plan mid new (buffers.TooLarge at) → lent ≡ plan.args → IsLeastGiven lent at least → status ≡ 6 → text ≡ launch_rule_text (record { number = 14; argument = Some least }) → GoesTo bytes plan mid new status text
large_goes bytes plan at least mid new lent status text h l k f g = λ source launch old r p since.
    let x = h.answers in
    let given = subst (λ (q : Launch). IsLeastGiven q.args at least) (sym p.plan_is) (subst (λ (as_ : List ArgLine). IsLeastGiven as_ at least) l k) in
    run_at source launch old new 6 status _ text (buffer_over r at x.1 least x.0 x.4 (subst (λ (q : Launch). slice_get q.files at ≡ Some x.0) (sym p.plan_is) x.2) (subst (λ (q : Launch). HoldBuffers old (take at q.files) x.4) (sym p.plan_is) (hold_before old mid (take at plan.files) x.4 since.same x.5)) (large_before old mid x.0 16777216 x.1 since.same x.3) given (unchanged_then old mid new since.same h.same)) f g

-- ---- the module is run

marks_length : (body : List Inst) (bound : List Bound) (file : ℕ) (bs : Buffers) → length (marks body bound file bs) ≡ length bs
marks_length body bound file [] = refl
marks_length body bound file (b ∷ bs) = let e = marks_length body bound (file + 1) bs in omega (arith, e)

marked_either : (name : List ℕ) (names : List (List ℕ)) (b : List ℕ) (bs : Buffers) (ms : List Bool) (m : Bool) → stores_of (name ∷ names) (b ∷ bs) (m ∷ ms) ≡ cond m ((name, b) ∷ stores_of names bs ms) (stores_of names bs ms)
marked_either name names b bs ms true = refl
marked_either name names b bs ms false = refl

marked_stores : (body : List Inst) (bound : List Bound) (file : ℕ) (names : List (List ℕ)) (bs : Buffers) → stores_of names bs (marks body bound file bs) ≡ stores_from body bound file names bs
marked_stores body bound file [] bs = refl
marked_stores body bound file (name ∷ names) [] = refl
marked_stores body bound file (name ∷ names) (b ∷ bs) = marked_either name names b bs (marks body bound (file + 1) bs) (is_marked body bound file) ∙ ap (λ (s : List (List ℕ × List ℕ)). cond (is_marked body bound file) ((name, b) ∷ s) s) (marked_stores body bound (file + 1) names bs)

comes_out : (bytes : List ℕ) (plan : Launch) (turn : ℕ) (bs : Buffers) (o c : Outcome) (source launch : List ℕ) (old : FilesState) (r : IsReady old source launch) → IsPlanned r bytes plan → OutcomeOf bytes plan turn bs o → o ≡ c → ComesOut r.compiled.made (loaded r.plan bs) turn r.plan.steps c
comes_out bytes plan turn bs o c source launch old r p h e =
    let by_bytes = subst (λ z. OutcomeOf z plan turn bs o) (sym p.bytes_are) h in
    let by_plan = subst (λ q. OutcomeOf r.bytes q turn bs o) (sym p.plan_is) by_bytes in
    subst (ComesOut r.compiled.made (loaded r.plan bs) turn r.plan.steps) e (by_plan.each r.compiled.made r.compiled.spells)

pub is_loaded : (bytes : List ℕ) (plan : Launch) (turn : ℕ) (bs : Buffers) (source launch : List ℕ) (old : FilesState) (r : IsReady old source launch) → IsPlanned r bytes plan → plan.schedule ≡ Robin turn → HoldBuffers old plan.files bs → IsLoaded r turn (loaded r.plan bs)
is_loaded bytes plan turn bs source launch old r p robin held = record {
  robin = ap (λ (q : Launch). q.schedule) p.plan_is ∙ robin;
  buffers = bs;
  held = subst (λ (q : Launch). HoldBuffers old q.files bs) (sym p.plan_is) held;
  is = refl;
}

pub trapped_goes : (bytes : List ℕ) (plan : Launch) (turn : ℕ) (bs : Buffers) (o : Outcome) (t : Trap) (mid : FilesState) (status : ℕ) (text : List ℕ) → OutcomeOf bytes plan turn bs o → o ≡ outcome.Trapped t → status ≡ 7 → text ≡ trap_text (trap_by t) → BuffersGoTo bytes plan turn bs mid mid status text
trapped_goes bytes plan turn bs o t mid status text h e f g = λ source launch old r p robin held since.
    let x = comes_out bytes plan turn bs o (outcome.Trapped t) source launch old r p h e in
    run_at source launch old mid 7 status _ text (trapped r turn (loaded r.plan bs) (trap_by t) x.0 x.1 (is_loaded bytes plan turn bs source launch old r p robin held) x.2 since.same) f g

pub spent_goes : (bytes : List ℕ) (plan : Launch) (turn : ℕ) (bs : Buffers) (o : Outcome) (mid : FilesState) (status : ℕ) (text : List ℕ) → OutcomeOf bytes plan turn bs o → o ≡ outcome.Spent → status ≡ 8 → text ≡ spent_text plan.steps → BuffersGoTo bytes plan turn bs mid mid status text
spent_goes bytes plan turn bs o mid status text h e f g = λ source launch old r p robin held since.
    let x = comes_out bytes plan turn bs o outcome.Spent source launch old r p h e in
    run_at source launch old mid 8 status _ text (spent r turn (loaded r.plan bs) x.0 (is_loaded bytes plan turn bs source launch old r p robin held) x.1 since.same) f (g ∙ ap (λ (q : Launch). spent_text q.steps) (sym p.plan_is))

pub misfit_goes : (bytes : List ℕ) (plan : Launch) (turn : ℕ) (bs : Buffers) (o : Outcome) (number : ℕ) (argument : Option ℕ) (mid : FilesState) (status : ℕ) (text : List ℕ) → OutcomeOf bytes plan turn bs o → o ≡ outcome.Misfit number argument → status ≡ 6 → text ≡ launch_rule_text (record { number = number; argument = argument }) → BuffersGoTo bytes plan turn bs mid mid status text
misfit_goes bytes plan turn bs o number argument mid status text h e f g = λ source launch old r p robin held since.
    let x = comes_out bytes plan turn bs o (outcome.Misfit number argument) source launch old r p h e in
    run_at source launch old mid 6 status _ text (misfit r turn (loaded r.plan bs) (record { number = number; argument = argument }) (is_loaded bytes plan turn bs source launch old r p robin held) (r.compiled.good.binding.is_broken (loaded r.plan bs) (record { number = number; argument = argument }) x) since.same) f g

pub too_much_goes : (bytes : List ℕ) (plan : Launch) (turn : ℕ) (bs : Buffers) (o : Outcome) (mid : FilesState) (status : ℕ) (text : List ℕ) → OutcomeOf bytes plan turn bs o → o ≡ outcome.TooMuch → status ≡ 6 → text ≡ launch_rule_text (record { number = 22; argument = None }) → BuffersGoTo bytes plan turn bs mid mid status text
too_much_goes bytes plan turn bs o mid status text h e f g = λ source launch old r p robin held since.
    let x = comes_out bytes plan turn bs o outcome.TooMuch source launch old r p h e in
    run_at source launch old mid 6 status _ text (too_much r turn (loaded r.plan bs) (is_loaded bytes plan turn bs source launch old r p robin held) x since.same) f g

pub done_marks : (bytes : List ℕ) (plan : Launch) (turn : ℕ) (bs : Buffers) (o : Outcome) (steps : ℕ) (left : Buffers) (stored : List Bool) → IsRunnable bytes → AreBuffers plan.files bs → OutcomeOf bytes plan turn bs o → o ≡ outcome.Done steps left stored → length stored ≡ length plan.files
done_marks bytes plan turn bs o steps left stored run sizes h e =
    let x : IsComplete run.made (loaded plan bs) turn plan.steps steps left stored = subst (ComesOut run.made (loaded plan bs) turn plan.steps) e (h.each run.made run.spells) in
    ap length x.marked ∙ marks_length run.made.body x.runs.start.bound 0 left ∙ x.count ∙ sizes.count

pub done_buffers : (bytes : List ℕ) (plan : Launch) (turn : ℕ) (bs : Buffers) (o : Outcome) (steps : ℕ) (left : Buffers) (stored : List Bool) → IsRunnable bytes → AreBuffers plan.files bs → OutcomeOf bytes plan turn bs o → o ≡ outcome.Done steps left stored → length left ≡ length plan.files
done_buffers bytes plan turn bs o steps left stored run sizes h e =
    let x : IsComplete run.made (loaded plan bs) turn plan.steps steps left stored = subst (ComesOut run.made (loaded plan bs) turn plan.steps) e (h.each run.made run.spells) in
    x.count ∙ sizes.count

stores_end : (source launch : List ℕ) (old mid new : FilesState) (r : IsReady old source launch) (turn : ℕ) (l : LoadedLaunch) (steps : ℕ) (names : List (List ℕ)) (stores : List (List ℕ × List ℕ)) (status : ℕ) (text : List ℕ) → IsLoaded r turn l → IsRun r.compiled.made r.compiled.good.kernel l turn r.plan.steps steps r.plan.files stores → IsUnchanged old mid → StoresComeTo mid new names stores steps status text → RunComesTo source launch old new status text
stores_end source launch old mid new r turn l steps names stores status text is run u (all_stored f g h) = run_at source launch old new 0 status _ text (ran r turn l steps stores is run (stores_later old mid new stores u h)) f g
stores_end source launch old mid new r turn l steps names stores status text is run u (one_failed at cut f g) = run_at source launch old new 3 status _ text (unstored r turn l steps cut.before cut.behind cut.name cut.bytes is (subst (IsRun r.compiled.made r.compiled.good.kernel l turn r.plan.steps steps r.plan.files) cut.split run) (cut_stores_later old mid new cut.before cut.name cut.bytes u cut.holds)) f g

is_run : (source launch : List ℕ) (old : FilesState) (r : IsReady old source launch) (bs : Buffers) (turn steps : ℕ) (left : Buffers) (stored : List Bool) → IsReadable r.plan → length bs ≡ length r.plan.files → IsComplete r.compiled.made (loaded r.plan bs) turn r.plan.steps steps left stored → IsRun r.compiled.made r.compiled.good.kernel (loaded r.plan bs) turn r.plan.steps steps r.plan.files (stores_of r.plan.files left stored)
is_run source launch old r bs turn steps left stored readable count x =
    let m = r.compiled.made in
    let good = r.compiled.good in
    let l = loaded r.plan bs in
    let fits = good.binding.fits l x.runs.start (readable.launch bs count) x.runs.binds in
    record {
      world = x.world;
      runs = x.runs;
      served = served m good.kernel l turn r.plan.steps steps x.world x.runs fits good.worlds;
      marked = ap (stores_of r.plan.files left) x.marked ∙ marked_stores m.body x.runs.start.bound 0 r.plan.files left ∙ ap (stores_from m.body x.runs.start.bound 0 r.plan.files) x.leaves;
    }

-- the lists that are stored, as they are lent
pub record AreLent (plan : Launch) (left : Buffers) (stored : List Bool) (lent lent_left : List (List ℕ)) (lent_stored : List Bool) : Type 0 where
  pub names : lent ≡ plan.files
  pub left_is : lent_left ≡ left
  pub stored_are : lent_stored ≡ stored

pub done_goes : (bytes : List ℕ) (plan : Launch) (turn : ℕ) (bs : Buffers) (o : Outcome) (steps : ℕ) (left : Buffers) (stored : List Bool) (lent lent_left : List (List ℕ)) (lent_stored : List Bool) (mid new : FilesState) (status : ℕ) (text : List ℕ) → IsReadable plan → OutcomeOf bytes plan turn bs o → o ≡ outcome.Done steps left stored → AreLent plan left stored lent lent_left lent_stored → StoresComeTo mid new lent (stores_of lent lent_left lent_stored) steps status text → BuffersGoTo bytes plan turn bs mid new status text
done_goes bytes plan turn bs o steps left stored lent lent_left lent_stored mid new status text readable h e a c = λ source launch old r p robin held since.
    let x = comes_out bytes plan turn bs o (outcome.Done steps left stored) source launch old r p h e in
    let l : IsLoaded r turn (loaded r.plan bs) = is_loaded bytes plan turn bs source launch old r p robin held in
    let run = is_run source launch old r bs turn steps left stored (subst IsReadable (sym p.plan_is) readable) (HoldBuffers-length old r.plan.files bs (subst (λ (q : Launch). HoldBuffers old q.files bs) (sym p.plan_is) held)) x in
    let by_stored = subst (λ (z : List Bool). StoresComeTo mid new lent (stores_of lent lent_left z) steps status text) a.stored_are c in
    let by_left = subst (λ (z : Buffers). StoresComeTo mid new lent (stores_of lent z stored) steps status text) a.left_is by_stored in
    let by_names = subst (λ (z : List (List ℕ)). StoresComeTo mid new z (stores_of z left stored) steps status text) (a.names ∙ ap (λ (q : Launch). q.files) (sym p.plan_is)) by_left in
    stores_end source launch old mid new r turn (loaded r.plan bs) steps r.plan.files (stores_of r.plan.files left stored) status text l run since.same by_names
