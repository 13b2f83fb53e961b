-- What a run by turns comes to: it is a run of the module's world, and where it is done that is complete.
use Rattle.std.proofs.Common.{◌≡◌, ℕ, ◌*◌, ◌≤◌, List, Option, Some, None, sym, ap, subst}
use Rattle.launch_text.specs.WorkItems.{Sizes}
use Rattle.launch_text.specs.Rules.{LoadedLaunch, Taken}
use Rattle.spv_module.specs.declared.module.Inst.{Inst}
use Rattle.spv_module.specs.declared.module.Module.{Module}
use Rattle.spv_module.specs.Options.{◌>>=◌}
use Rattle.spv_reflect.specs.declared.rows.KernelRow.{KernelRow}
use Rattle.spv_reflect.specs.declared.rows.Reflection.{Reflection}
use Rattle.spv_reflect.specs.Reflection.{rows_of}
use Rattle.clv_worlds.specs.Worlds.{Shared, Leads, opening, IsWrong, fails, IsDefined, IsComplete, steps_of}
use Rattle.spv_meaning.specs.Events.{Asked}
use Rattle.spv_meaning.specs.Start.{Start}
use Rattle.spv_meaning.specs.Worlds.{Buffers, shared_over, module_world}
use Rattle.spv_meaning.proofs.Schedules.{run_leads, run_completes, run_counts, run_fails}
use Rattle.spv_meaning.specs.Schedule.{Invocations, Trapped, Ending, IsDone, HasTrapped, IsSpent, ScheduledRun}
use Rattle.vk_bind.specs.Binding.{taken_of, kernel_among, start_of, BindsTo}
use Rattle.clv_engine.specs.declared.form.Kernel.{Kernel}
use Rattle.clv_engine.specs.Promises.{Fits}
use Rattle.clv_engine.specs.LaunchWorlds.{shared_of, source_world, WorldSimulation}
use Rattle.clv_engine.specs.RunCommand.{ModuleRuns, IsServed}

-- ---- what it comes to

-- A complete run, and its steps.
pub record IsWhole (body : List Inst) (start : Start) (l : Shared Asked Buffers) (u w : Invocations) (steps : ℕ) : Type 0 where
  pub leads : Leads l (module_world body start) u w
  pub complete : IsComplete l (module_world body start) w
  pub steps_are : steps ≡ steps_of (module_world body start) l.count w.items

-- A run to a trap.
pub record IsTrap (body : List Inst) (start : Start) (l : Shared Asked Buffers) (u w : Invocations) : Type 0 where
  pub leads : Leads l (module_world body start) u w
  pub wrong : IsWrong l (module_world body start) w

abbrev pub Comes : List Inst → Start → Shared Asked Buffers → Invocations → Ending → Invocations → Type 0
Comes body start l u (IsDone steps) w = IsWhole body start l u w steps
Comes body start l u (HasTrapped t steps) w = IsTrap body start l u w
Comes body start l u IsSpent w = Unit {0}

scheduled : (body : List Inst) (start : Start) (turn budget : ℕ) (e : Ending) (v : Invocations) → ScheduledRun body start turn budget e v → Comes body start (shared_over start.global start.local) (opening start.buffers) e v
scheduled body start turn budget (IsDone steps) v t = record {
  leads = run_leads body start turn budget (IsDone steps) v t;
  complete = run_completes body start turn budget steps v t;
  steps_are = run_counts body start turn budget steps v t;
}
scheduled body start turn budget (HasTrapped x steps) v t =
    let failed = run_fails body start turn budget steps x v t in
    record { leads = run_leads body start turn budget (HasTrapped x steps) v t; wrong = fails x.item failed.0 failed.1 }
scheduled body start turn budget IsSpent v t = tt

-- ---- on a launch that binds

pub record StartsFrom (l : LoadedLaunch) (start : Start) : Type 0 where
  pub global : start.global ≡ l.global
  pub local : start.local ≡ l.local
  pub buffers : start.buffers ≡ l.buffers

abbrev Starting : LoadedLaunch → Option (Taken × Start) → Type 0
Starting l bound = (ps : Taken) (start : Start) → bound ≡ Some (ps, start) → StartsFrom l start

starting_none : (l : LoadedLaunch) → Starting l None
starting_none l ps start e = absurd (let c : ◌≡◌ {A = Option (Taken × Start)} None (Some (ps, start)) = e in cc)

starting_last : (r : Reflection) (row : KernelRow) (l : LoadedLaunch) (o : Option Taken) → Starting l (o >>= λ ps. Some (ps, start_of r row l))
starting_last r row l None ps start e = starting_none l ps start e
starting_last r row l (Some qs) ps start e =
    let c : ◌≡◌ {A = Taken × Start} (qs, start_of r row l) (ps, start) = cc in
    let s : start_of r row l ≡ start = ap (λ (q : Taken × Start). q.1) c in
    record { global = ap (λ (z : Start). z.global) (sym s); local = ap (λ (z : Start). z.local) (sym s); buffers = ap (λ (z : Start). z.buffers) (sym s) }

starting_row : (body : List Inst) (r : Reflection) (l : LoadedLaunch) (o : Option KernelRow) → Starting l (o >>= λ row. taken_of body row >>= λ ps. Some (ps, start_of r row l))
starting_row body r l None = starting_none l
starting_row body r l (Some row) = starting_last r row l (taken_of body row)

starting_rows : (body : List Inst) (l : LoadedLaunch) (o : Option Reflection) → Starting l (o >>= λ r. kernel_among l.kernel r.kernels >>= λ row. taken_of body row >>= λ ps. Some (ps, start_of r row l))
starting_rows body l None = starting_none l
starting_rows body l (Some r) = starting_row body r l (kernel_among l.kernel r.kernels)

pub starts_from : (body : List Inst) (l : LoadedLaunch) (start : Start) → BindsTo body l start → StartsFrom l start
starts_from body l start b = starting_rows body l (rows_of body) b.taken start b.binding

pub run_comes : (m : Module) (l : LoadedLaunch) (turn budget : ℕ) (e : Ending) (w : Invocations) (r : ModuleRuns m l turn budget e w) → Comes m.body r.start (shared_of l) (opening l.buffers) e w
run_comes m l turn budget e w r =
    let s = starts_from m.body l r.start r.binds in
    let c = scheduled m.body r.start turn budget e w r.run in
    let by_global = subst (λ (g : Sizes). Comes m.body r.start (shared_over g r.start.local) (opening r.start.buffers) e w) s.global c in
    let by_sizes = subst (λ (g : Sizes). Comes m.body r.start (shared_over l.global g) (opening r.start.buffers) e w) s.local by_global in
    subst (λ (bs : Buffers). Comes m.body r.start (shared_of l) (opening bs) e w) s.buffers by_sizes

-- Where no run of the source comes to what is undefined, a complete run of the module has one of the source beside it.
pub served : (m : Module) (k : Kernel) (l : LoadedLaunch) (turn budget steps : ℕ) (w : Invocations) (r : ModuleRuns m l turn budget (IsDone steps) w) → Fits k l → WorldSimulation m.body k → IsServed k l r.start.function steps w.memory
served m k l turn budget steps w r f s = record {
  by_source = λ defined. (
      let c = run_comes m l turn budget (IsDone steps) w r in
      let x = (s.worlds l r.start f r.binds defined).runs w c.leads in
      let a = x.2 in
      (x.0, x.1, a.complete c.complete, a.memory, subst (λ n. n ≤ 256 * steps_of (source_world k l r.start.function) (shared_of l).count x.0.items) (sym c.steps_are) (a.steps c.complete))
      );
}

-- and no run traps there
pub never_traps : (m : Module) (k : Kernel) (l : LoadedLaunch) (turn budget steps : ℕ) (t : Trapped) (w : Invocations) (r : ModuleRuns m l turn budget (HasTrapped t steps) w) → Fits k l → WorldSimulation m.body k → IsDefined (shared_of l) (source_world k l r.start.function) l.buffers → ⊥
never_traps m k l turn budget steps t w r f s defined =
    let c = run_comes m l turn budget (HasTrapped t steps) w r in
    (s.worlds l r.start f r.binds defined).right w c.leads c.wrong
