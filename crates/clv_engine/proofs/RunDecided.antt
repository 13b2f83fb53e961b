-- What the source, the launch and the buffers hold decides the answer of a run, where nothing outside fails.
use Rattle.std.proofs.Common.{◌≡◌, ℕ, ◌⊎◌, inl, inr, true, false, IsTrue, List, [], ◌∷◌, Option, Some, None, Result, Ok, Err, refl, sym, ap, ◌∙◌, subst, arith}
use Rattle.clv_place.specs.declared.stop.Offence.{Offence}
use Rattle.clv_io.specs.Faults.{Rose}
use Rattle.clv_io.specs.Files.{FilesState, IsTooLarge}
use Rattle.launch_text.specs.declared.launch.Launch.{Launch}
use Rattle.launch_text.specs.declared.launch.Schedule.{Schedule}
use Rattle.launch_text.specs.declared.launch.Schedule.TheVariants.{Robin, Mixed}
use Rattle.launch_text.specs.LaunchText.{Fault, launch_of}
use Rattle.launch_text.specs.Rules.{LoadedLaunch, loaded, Taken, KeepsRules, BrokenRule, breaks, Breaks, IsLeastBroken}
use Rattle.clv_worlds.specs.Worlds.{IsDefined}
use Rattle.spv_meaning.specs.Schedule.{Invocations, Ending, IsDone, HasTrapped, IsSpent}
use Rattle.clv_engine.specs.declared.form.Kernel.{Kernel}
use Rattle.clv_engine.specs.FirstForm.{IsIn, IsOut, InOrOut}
use Rattle.clv_engine.specs.LaunchWorlds.{shared_of, source_world}
use Rattle.clv_engine.specs.Promises.{Fits, takes_of}
use Rattle.clv_engine.specs.RunCommand.{Reads, whole, over, IsRefused, is_out, is_over, HoldBuffers, IsReady, IsLoaded, ModuleRuns, RunComesTo, absent, launch_absent, refused, faulty, seeded, buffer_absent, buffer_over, misfit, too_much, trapped, spent, ran, unstored, starved}
use Rattle.clv_engine.specs.TopCall.{EndsRun, IsAsked, RunDecides}
use Rattle.clv_engine.specs.TopCall.{done as ends_done, not_run as ends_not_run, trapped as ends_trapped, spent as ends_spent, starved as ends_starved}
use Rattle.clv_engine.proofs.BindingFacts.{bound_taken}
use Rattle.clv_engine.proofs.DecidedTexts.{text_is, over_out}
use Rattle.clv_engine.proofs.RunStages.{read_some}
use Rattle.clv_engine.proofs.ScheduledFacts.{never_traps}

-- what is known of a call: what its source and its launch hold, and that no file has failed
pub record RunGiven (files files2 : FilesState) (source launch text said : List ℕ) : Type 0 where
  pub told : IsTrue files.tells
  pub held : files.held source ≡ Some text
  pub there : files.held launch ≡ Some said
  pub calm : Rose files.faults files2.faults → ⊥

some_same : {A : Type 0} (a b : A) → Some a ≡ Some b → a ≡ b
some_same a b e = cc

ok_same : (a b : Launch) → ◌≡◌ {A = Result Launch Fault} (Ok a) (Ok b) → a ≡ b
ok_same a b e = cc

none_never : {A : Type 0} (a : A) → None ≡ Some a → ⊥
none_never a e = cc

some_never : {A : Type 0} (a : A) → Some a ≡ None → ⊥
some_never a e = cc

read_none : (old : FilesState) (name : List ℕ) (max : ℕ) (s : Option (List ℕ)) → Reads old name max s → s ≡ None → (seen : ℕ) × IsTooLarge old name max seen
read_none old name max _ (whole t i l) e = absurd (some_never t e)
read_none old name max _ (over seen l) e = (seen, l)

refused_in : InOrOut → (files files2 : FilesState) (source launch text said : List ℕ) (k : Kernel) (o : Offence) (s t : Option (List ℕ)) → RunGiven files files2 source launch text said → IsIn text k → Reads files source 1048576 s → s ≡ t → IsRefused o t → ⊥
refused_in in_out files files2 source launch text said k o s _ g i rs e (is_out bytes out) = in_out text k o i (subst (λ z. IsOut z o) (text_is files source text bytes g.told g.held (read_some files source 1048576 s bytes rs e)) out)
refused_in in_out files files2 source launch text said k o s _ g i rs e (is_over a b c) = (let x = read_none files source 1048576 s rs e in over_out files source text x.0 k g.told g.held x.1 i)

-- ---- how it ends

abbrev status_by : Ending → ℕ
status_by (IsDone steps) = 0
status_by (HasTrapped t steps) = 7
status_by IsSpent = 8

-- It ends with 6 or 4, or the module was run.
data Ended (source launch : List ℕ) (files : FilesState) (status : ℕ) : Type 0 where
  is_told : (status ≡ 6) ⊎ (status ≡ 4) → Ended source launch files status
  has_run : (r : IsReady files source launch) (turn : ℕ) (l : LoadedLaunch) (e : Ending) (w : Invocations) → IsLoaded r turn l → ModuleRuns r.compiled.made l turn r.plan.steps e w → status ≡ status_by e → Ended source launch files status

ends_so : InOrOut → (files files2 : FilesState) (source launch text said : List ℕ) (k : Kernel) (status : ℕ) (out : List ℕ) → RunGiven files files2 source launch text said → IsIn text k → RunComesTo source launch files files2 status out → Ended source launch files status
ends_so in_out files files2 source launch text said k _ _ g i (absent n) = absurd (g.calm n.rose)
ends_so in_out files files2 source launch text said k _ _ g i (launch_absent s h n) = absurd (g.calm n.rose)
ends_so in_out files files2 source launch text said k _ _ g i (refused o s rs x u) = absurd (refused_in in_out files files2 source launch text said k o s s g i rs refl x)
ends_so in_out files files2 source launch text said k _ _ g i (faulty t bytes number line s is c rs x u) = is_told (inl refl)
ends_so in_out files files2 source launch text said k _ _ g i (seeded r seed e u) = is_told (inl refl)
ends_so in_out files files2 source launch text said k _ _ g i (buffer_absent r file name bs c d n) = absurd (g.calm n.rose)
ends_so in_out files files2 source launch text said k _ _ g i (buffer_over r file seen n name bs e h x y u) = is_told (inl refl)
ends_so in_out files files2 source launch text said k _ _ g i (misfit r turn l b is x u) = is_told (inl refl)
ends_so in_out files files2 source launch text said k _ _ g i (too_much r turn l is x u) = is_told (inl refl)
ends_so in_out files files2 source launch text said k _ _ g i (trapped r turn l t steps w is x u) = has_run r turn l (HasTrapped t steps) w is x refl
ends_so in_out files files2 source launch text said k _ _ g i (spent r turn l w is x u) = has_run r turn l IsSpent w is x refl
ends_so in_out files files2 source launch text said k _ _ g i (ran r turn l steps stores is x h) = has_run r turn l (IsDone steps) x.world is x.runs refl
ends_so in_out files files2 source launch text said k _ _ g i (unstored r turn l steps before behind name bytes is x h) = absurd (g.calm h.rose)
ends_so in_out files files2 source launch text said k _ _ g i (starved u) = is_told (inr refl)

-- ---- what was read is what is held

ready_in : (files files2 : FilesState) (source launch text said : List ℕ) → RunGiven files files2 source launch text said → (r : IsReady files source launch) → IsIn text r.compiled.good.kernel
ready_in files files2 source launch text said g r = subst (λ t. IsIn t r.compiled.good.kernel) (text_is files source text r.text g.told g.held r.read_source) r.compiled.good.accepted

ready_said : (files files2 : FilesState) (source launch text said : List ℕ) → RunGiven files files2 source launch text said → (r : IsReady files source launch) → launch_of said ≡ Ok r.plan
ready_said files files2 source launch text said g r = ap launch_of (sym (text_is files launch said r.words g.told g.there r.read_launch)) ∙ r.is_launch

hold_same : (files : FilesState) (names bs cs : List (List ℕ)) → IsTrue files.tells → HoldBuffers files names bs → HoldBuffers files names cs → bs ≡ cs
hold_same files [] [] [] told h k = refl
hold_same files [] [] (c ∷ cs) told h k = absurd k
hold_same files [] (b ∷ bs) cs told h k = absurd h
hold_same files (x ∷ names) [] cs told h k = absurd h
hold_same files (x ∷ names) (b ∷ bs) [] told h k = absurd k
hold_same files (x ∷ names) (b ∷ bs) (c ∷ cs) told h k =
    let e : b ≡ c = some_same b c (sym (h.0 told) ∙ k.0 told) in
    let f = hold_same files names bs cs told h.2 k.2 in
    ap (λ (z : List ℕ). z ∷ bs) e ∙ ap (λ (zs : List (List ℕ)). c ∷ zs) f

loaded_is : (files files2 : FilesState) (source launch text said : List ℕ) (q : Launch) (turn : ℕ) (bs : List (List ℕ)) → RunGiven files files2 source launch text said → IsAsked files text said q turn bs → (r : IsReady files source launch) (turn2 : ℕ) (l : LoadedLaunch) → IsLoaded r turn2 l → l ≡ loaded q bs
loaded_is files files2 source launch text said q turn bs g a r turn2 l is =
    let plan : r.plan ≡ q = ok_same r.plan q (sym (ready_said files files2 source launch text said g r) ∙ a.is_launch) in
    let held = subst (λ (p : Launch). HoldBuffers files p.files is.buffers) plan is.held in
    is.is ∙ ap (λ (p : Launch). loaded p is.buffers) plan ∙ ap (loaded q) (hold_same files q.files is.buffers bs g.told held a.held)

-- ---- no run where a rule is broken

keeps_breaks : (l : LoadedLaunch) (takes : Option Taken) (t : Taken) (b : BrokenRule) → takes ≡ Some t → KeepsRules t l → Breaks l takes b → ⊥
keeps_breaks l takes t b e k broken =
    let here : breaks l (Some t) b.number b.argument ≡ true = subst (λ o. breaks l o b.number b.argument ≡ true) e broken in
    let never : true ≡ false = sym here ∙ k.none b.number b.argument in
    cc

broken_runs : (files files2 : FilesState) (source launch text said : List ℕ) (q : Launch) (turn : ℕ) (bs : List (List ℕ)) → RunGiven files files2 source launch text said → IsAsked files text said q turn bs → ((k : Kernel) → IsIn text k → (b : BrokenRule) × IsLeastBroken (loaded q bs) (takes_of k q.kernel) b) → (r : IsReady files source launch) (turn2 : ℕ) (l : LoadedLaunch) (e : Ending) (w : Invocations) → IsLoaded r turn2 l → ModuleRuns r.compiled.made l turn2 r.plan.steps e w → ⊥
broken_runs files files2 source launch text said q turn bs g a h r turn2 l e w is runs =
    let k = r.compiled.good.kernel in
    let body = r.compiled.made.body in
    let x = h k (ready_in files files2 source launch text said g r) in
    let here : IsLeastBroken l (takes_of k l.kernel) x.0 = subst (λ (z : LoadedLaunch). IsLeastBroken z (takes_of k z.kernel) x.0) (sym (loaded_is files files2 source launch text said q turn bs g a r turn2 l is)) x.1 in
    let there = r.compiled.good.binding.breaks l x.0 here in
    keeps_breaks l _ runs.binds.taken x.0 (bound_taken body l runs.start runs.binds) runs.binds.rules there.breaks

-- ---- no trap where the source is defined

no_trap : (files files2 : FilesState) (source launch text said : List ℕ) (q : Launch) (turn : ℕ) (bs : List (List ℕ)) → RunGiven files files2 source launch text said → IsAsked files text said q turn bs → ((k : Kernel) → IsIn text k → Fits k (loaded q bs)) → ((k : Kernel) (function : ℕ) → IsIn text k → IsDefined (shared_of (loaded q bs)) (source_world k (loaded q bs) function) bs) → (r : IsReady files source launch) (turn2 : ℕ) (l : LoadedLaunch) (e : Ending) (w : Invocations) → IsLoaded r turn2 l → ModuleRuns r.compiled.made l turn2 r.plan.steps e w → status_by e ≡ 7 → ⊥
no_trap files files2 source launch text said q turn bs g a f d r turn2 l (IsDone steps) w is runs e = absurd (let h : 0 ≡ 7 = e in omega (arith, h))
no_trap files files2 source launch text said q turn bs g a f d r turn2 l IsSpent w is runs e = absurd (let h : 8 ≡ 7 = e in omega (arith, h))
no_trap files files2 source launch text said q turn bs g a f d r turn2 l (HasTrapped t steps) w is runs e =
    let k = r.compiled.good.kernel in
    let accepted = ready_in files files2 source launch text said g r in
    let same = sym (loaded_is files files2 source launch text said q turn bs g a r turn2 l is) in
    let fits = subst (λ (z : LoadedLaunch). Fits k z) same (f k accepted) in
    let defined = subst (λ (z : LoadedLaunch). IsDefined (shared_of z) (source_world k z runs.start.function) z.buffers) same (d k runs.start.function accepted) in
    never_traps r.compiled.made k l turn2 r.plan.steps steps t w runs fits r.compiled.good.worlds defined

-- ---- the answer

six_or_four : (answer status : ℕ) → answer ≡ status → (status ≡ 6) ⊎ (status ≡ 4) → (answer ≡ 6) ⊎ (answer ≡ 4)
six_or_four answer status e (inl f) = inl (e ∙ f)
six_or_four answer status e (inr f) = inr (e ∙ f)

-- with 6 or 4, where no module can be run
told_only : (source launch : List ℕ) (files : FilesState) (status answer : ℕ) → answer ≡ status → Ended source launch files status → ((r : IsReady files source launch) (turn : ℕ) (l : LoadedLaunch) (e : Ending) (w : Invocations) → IsLoaded r turn l → ModuleRuns r.compiled.made l turn r.plan.steps e w → ⊥) → (answer ≡ 6) ⊎ (answer ≡ 4)
told_only source launch files status answer is (is_told h) never = six_or_four answer status is h
told_only source launch files status answer is (has_run r turn l e w x runs f) never = absurd (never r turn l e w x runs)

run_status : (answer : ℕ) (e : Ending) → answer ≡ status_by e → EndsRun answer
run_status answer (IsDone steps) h = ends_done h
run_status answer (HasTrapped t steps) h = ends_trapped h
run_status answer IsSpent h = ends_spent h

told_status : (answer : ℕ) → (answer ≡ 6) ⊎ (answer ≡ 4) → EndsRun answer
told_status answer (inl e) = ends_not_run e
told_status answer (inr e) = ends_starved e

any_status : (source launch : List ℕ) (files : FilesState) (status answer : ℕ) → answer ≡ status → Ended source launch files status → EndsRun answer
any_status source launch files status answer is (is_told h) = told_status answer (six_or_four answer status is h)
any_status source launch files status answer is (has_run r turn l e w x runs f) = run_status answer e (is ∙ f)

told_no_seven : (status : ℕ) → (status ≡ 6) ⊎ (status ≡ 4) → status ≡ 7 → ⊥
told_no_seven status (inl e) f = omega (arith, e, f)
told_no_seven status (inr e) f = omega (arith, e, f)

no_seven : (source launch : List ℕ) (files : FilesState) (status : ℕ) → Ended source launch files status → ((r : IsReady files source launch) (turn : ℕ) (l : LoadedLaunch) (e : Ending) (w : Invocations) → IsLoaded r turn l → ModuleRuns r.compiled.made l turn r.plan.steps e w → status_by e ≡ 7 → ⊥) → status ≡ 7 → ⊥
no_seven source launch files status (is_told h) never seven = told_no_seven status h seven
no_seven source launch files status (has_run r turn l e w x runs f) never seven = never r turn l e w x runs (sym f ∙ seven)

out_ready : InOrOut → (files files2 : FilesState) (source launch text said : List ℕ) (o : Offence) → RunGiven files files2 source launch text said → IsOut text o → IsReady files source launch → ⊥
out_ready in_out files files2 source launch text said o g x r = in_out text r.compiled.good.kernel o (ready_in files files2 source launch text said g r) x

out_gives : InOrOut → (files files2 : FilesState) (source launch text said : List ℕ) (o : Offence) (status : ℕ) (out : List ℕ) → RunGiven files files2 source launch text said → IsOut text o → RunComesTo source launch files files2 status out → (status ≡ 1) ⊎ (status ≡ 4)
out_gives in_out files files2 source launch text said o _ _ g i (absent n) = absurd (g.calm n.rose)
out_gives in_out files files2 source launch text said o _ _ g i (launch_absent s h n) = absurd (g.calm n.rose)
out_gives in_out files files2 source launch text said o _ _ g i (refused p s rs x u) = inl refl
out_gives in_out files files2 source launch text said o _ _ g i (faulty t bytes number line s is c rs x u) = absurd (in_out text c.good.kernel o (subst (λ z. IsIn z c.good.kernel) (text_is files source text t g.told g.held is) c.good.accepted) i)
out_gives in_out files files2 source launch text said o _ _ g i (seeded r seed e u) = absurd (out_ready in_out files files2 source launch text said o g i r)
out_gives in_out files files2 source launch text said o _ _ g i (buffer_absent r file name bs c d n) = absurd (g.calm n.rose)
out_gives in_out files files2 source launch text said o _ _ g i (buffer_over r file seen n name bs e h x y u) = absurd (out_ready in_out files files2 source launch text said o g i r)
out_gives in_out files files2 source launch text said o _ _ g i (misfit r turn l b is x u) = absurd (out_ready in_out files files2 source launch text said o g i r)
out_gives in_out files files2 source launch text said o _ _ g i (too_much r turn l is x u) = absurd (out_ready in_out files files2 source launch text said o g i r)
out_gives in_out files files2 source launch text said o _ _ g i (trapped r turn l t steps w is x u) = absurd (out_ready in_out files files2 source launch text said o g i r)
out_gives in_out files files2 source launch text said o _ _ g i (spent r turn l w is x u) = absurd (out_ready in_out files files2 source launch text said o g i r)
out_gives in_out files files2 source launch text said o _ _ g i (ran r turn l steps stores is x h) = absurd (out_ready in_out files files2 source launch text said o g i r)
out_gives in_out files files2 source launch text said o _ _ g i (unstored r turn l steps before behind name bytes is x h) = absurd (g.calm h.rose)
out_gives in_out files files2 source launch text said o _ _ g i (starved u) = inr refl

one_or_four : (answer status : ℕ) → answer ≡ status → (status ≡ 1) ⊎ (status ≡ 4) → (answer ≡ 1) ⊎ (answer ≡ 4)
one_or_four answer status e (inl f) = inl (e ∙ f)
one_or_four answer status e (inr f) = inr (e ∙ f)

err_ok : (f : Fault) (l : Launch) → ◌≡◌ {A = Result Launch Fault} (Err f) (Ok l) → ⊥
err_ok f l e = cc

mixed_robin : (seed turn : ℕ) → ◌≡◌ {A = Schedule} (Mixed seed) (Robin turn) → ⊥
mixed_robin seed turn e = cc

pub run_decided : InOrOut → (files files2 : FilesState) (source launch text said : List ℕ) (status answer : ℕ) (out : List ℕ) → answer ≡ status → RunGiven files files2 source launch text said → RunComesTo source launch files files2 status out → RunDecides files text said answer
run_decided in_out files files2 source launch text said status answer out is g c =
    let ended = λ (k : Kernel) (i : IsIn text k). ends_so in_out files files2 source launch text said k status out g i c in
    record {
      refused = λ o i. one_or_four answer status is (out_gives in_out files files2 source launch text said o status out g i c);
      faulty = λ k f i e. told_only source launch files status answer is (ended k i) (λ r turn l end w x runs. err_ok f r.plan (sym e ∙ ready_said files files2 source launch text said g r));
      seeded = λ k q seed i e m. told_only source launch files status answer is (ended k i) (λ r turn l end w x runs. (
          let same : q ≡ r.plan = ok_same q r.plan (sym e ∙ ready_said files files2 source launch text said g r) in
          mixed_robin seed turn (sym m ∙ ap (λ (p : Launch). p.schedule) same ∙ x.robin)
          ));
      misfit = λ q turn bs a h. told_only source launch files status answer is (ended a.accepted.0 a.accepted.1) (broken_runs files files2 source launch text said q turn bs g a h);
      runs = λ q turn bs a. any_status source launch files status answer is (ended a.accepted.0 a.accepted.1);
      defined = λ q turn bs a f d e. no_seven source launch files status (ended a.accepted.0 a.accepted.1) (no_trap files files2 source launch text said q turn bs g a f d) (sym is ∙ e);
    }
