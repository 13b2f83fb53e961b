use Rattle.std.proofs.Common.{sym, ap, ◌∙◌, subst}
use Rattle.run_machine.specs.declared.row.Did.TheVariants as did
use Rattle.run_machine.specs.Views.{body_by, start_by}
use Rattle.run_machine.specs.Machines.{Does, trap_by}
use Rattle.run_machine.proofs.Stepping.{seen, is_step, trapped, result_steps, result_stays}
use Rattle.run_machine.proofs.machine.Machine.step.Goals as goal

pub returns-in-Traps-clause-stepped : goal.returns-in-Traps-clause-stepped
returns-in-Traps-clause-stepped c = λ w k.
    let m = c.args.self.now in
    let x = c.index.result.now in
    let is = seen m.runs.items c.args.item x c.requires c.index.ensures in
    let does = subst (λ d. Does (body_by m.start) (start_by m.start) c.args.item x d) (c.in-Traps.is ∙ ap did.Traps (sym c.trap.ensures.kind)) c.in_ok-did.ensures.does in
    let t = trapped (body_by m.start) (start_by m.start) c.args.item m.buffers.items m.runs.items x (trap_by c.trap.result) w k c.requires is does c.trap.ensures.at c.trap.ensures.item in
    (t.0, t.1, k)

pub returns-in_default : goal.returns-in_default
returns-in_default c =
    let m = c.args.self.now in
    let x = c.index.result.now in
    let is = seen m.runs.items c.args.item x c.requires c.index.ensures in
    let d = c.in_ok-did.did in
    record {
      start = c.make.ensures.start;
      stepped = result_steps m c.make.new.self c.args.item x d c.make.result c.requires is c.in_ok-did.ensures.does (is_step d (λ kind e. c.in_default.not-Traps kind e)) c.make.ensures.start c.make.ensures.runs c.make.ensures.buffers c.make.ensures.stepped;
      refused = result_stays m c.make.new.self c.make.result c.make.ensures.start c.make.ensures.refused;
    }
