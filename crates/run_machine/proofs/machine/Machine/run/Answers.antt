use Rattle.std.proofs.Common.{◌≡◌, ℕ, ◌+◌, ◌<◌, ◌≤◌, List, [], ◌∷◌, ◌++◌, sym, ap, ◌∙◌, subst, arith}
use Rattle.launch_text.specs.WorkItems.{volume}
use Rattle.spv_meaning.specs.Schedule.{numbers_from}
use Rattle.run_machine.specs.Views.{start_by}
use Rattle.run_machine.specs.Machines.{Steps}
use Rattle.run_machine.proofs.Turning.{Held, held_start, held_ready, held_end, held_turn, held_more, held_trap, held_done, held_spent}
use Rattle.run_machine.proofs.machine.Machine.run.Goals as goal
use Rattle.run_machine.proofs.machine.Machine.run.Goals.{in-Ended, in-Went+in_ok-push_back-in-Went, in-Went-2+in_ok-push_front-in-Went-2}

several : (left : ℕ) → 1 ≤ left → (left ≡ 1 → ⊥) → 1 < left
several left some not_one = omega (arith, some, not_one)

pub loop-made-init : goal.loop-made-init
loop-made-init c =
    let m = c.args.self.now in
    let e : c.in_ok-queue.queue.items ≡ numbers_from 0 (volume (start_by m.start).global) = c.in_ok-queue.ensures ∙ ap (numbers_from 0) c.items_of.ensures in
    subst (λ q. Held m m c.args.turn c.args.budget q c.args.turn 0) (sym e) (held_start m c.args.turn c.args.budget c.requires.turn c.requires.begins)

pub returns-in_default : goal.returns-in_default
returns-in_default c = held_done c.args.self.now c.loop-made.self c.args.turn c.args.budget c.loop-made.left c.loop-made.made (subst (λ q. Held c.args.self.now c.loop-made.self c.args.turn c.args.budget q c.loop-made.left c.loop-made.made) c.in_default.ensures c.loop-made.invariant)

pub step-requires : goal.step-requires
step-requires c = held_ready c.args.self.now c.loop-made.self c.args.turn c.args.budget c.front.new.queue.items c.loop-made.left c.loop-made.made c.in-Some.item (subst (λ q. Held c.args.self.now c.loop-made.self c.args.turn c.args.budget q c.loop-made.left c.loop-made.made) c.in-Some.ensures c.loop-made.invariant)

pub returns-in-Trapped : goal.returns-in-Trapped
returns-in-Trapped c =
    let h = subst (λ q. Held c.args.self.now c.loop-made.self c.args.turn c.args.budget q c.loop-made.left c.loop-made.made) c.in-Some.ensures c.loop-made.invariant in
    held_trap c.args.self.now c.loop-made.self c.step.new.self c.args.turn c.args.budget c.front.new.queue.items c.loop-made.left c.loop-made.made c.in-Some.item c.in-Trapped.trap h c.loop-made-test.true c.step.ensures.start (subst (Steps c.loop-made.self c.in-Some.item c.step.new.self) c.in-Trapped.is c.in_ok-trap.ensures.stepped)

pub loop-made-preserved : goal.loop-made-preserved
loop-made-preserved c =
    let h = subst (λ q. Held c.args.self.now c.loop-made.self c.args.turn c.args.budget q c.loop-made.left c.loop-made.made) c.in-Some.ensures c.loop-made.invariant in
    let first = c.args.self.now in
    let now = c.loop-made.self in
    let new = c.step.new.self in
    let low = c.loop-made-test.true in
    let stepped = c.in_ok-trap.ensures.stepped in
    elim c.match-branch-3.branch [
      | in-Ended w ↦ subst (λ q. Held first new c.args.turn c.args.budget q.items c.match-branch-3.left (c.loop-made.made + 1)) (sym w.queue-is) (subst (λ l. Held first new c.args.turn c.args.budget c.front.new.queue.items l (c.loop-made.made + 1)) (sym w.left-is) (held_end first now new c.args.turn c.args.budget c.front.new.queue.items c.loop-made.left c.loop-made.made c.in-Some.item h low c.requires.turn c.step.ensures.start (subst (Steps now c.in-Some.item new) w.in-Ended.is stepped)))
      | in-Went+in_ok-push_back-in-Went w ↦ subst (λ q. Held first new c.args.turn c.args.budget q.items c.match-branch-3.left (c.loop-made.made + 1)) (sym w.queue-is) (subst (λ q. Held first new c.args.turn c.args.budget q c.match-branch-3.left (c.loop-made.made + 1)) (sym w.in_ok-push_back-in-Went.ensures.items) (subst (λ l. Held first new c.args.turn c.args.budget (c.front.new.queue.items ++ c.in-Some.item ∷ []) l (c.loop-made.made + 1)) (sym w.left-is) (held_turn first now new c.args.turn c.args.budget c.front.new.queue.items c.loop-made.left c.loop-made.made c.in-Some.item h low c.requires.turn w.if-left-eq1.true c.step.ensures.start (subst (Steps now c.in-Some.item new) w.in-Went.is stepped))))
      | in-Went-2+in_ok-push_front-in-Went-2 w ↦ subst (λ q. Held first new c.args.turn c.args.budget q.items c.match-branch-3.left (c.loop-made.made + 1)) (sym w.queue-is) (subst (λ q. Held first new c.args.turn c.args.budget q c.match-branch-3.left (c.loop-made.made + 1)) (sym w.in_ok-push_front-in-Went-2.ensures.items) (subst (λ l. Held first new c.args.turn c.args.budget (c.in-Some.item ∷ c.front.new.queue.items) l (c.loop-made.made + 1)) (sym w.left-is) (held_more first now new c.args.turn c.args.budget c.front.new.queue.items c.loop-made.left c.loop-made.made c.in-Some.item h low (several c.loop-made.left c.loop-made.invariant.still.some w.if-left-eq1.false) c.step.ensures.start (subst (Steps now c.in-Some.item new) w.in-Went.is stepped))))
    ]

made_all : (made budget : ℕ) → made ≤ budget → budget ≤ made → made ≡ budget
made_all made budget low high = omega (arith, low, high)

not_empty : (queue : List ℕ) (i : ℕ) (rest : List ℕ) → queue ≡ i ∷ rest → queue ≡ [] → ⊥
not_empty queue i rest e f = let g : i ∷ rest ≡ [] = sym e ∙ f in cc

pub returns-in-Some-front : goal.returns-in-Some-front
returns-in-Some-front c =
    let made : c.loop-made.made ≡ c.args.budget = made_all c.loop-made.made c.args.budget c.loop-made.auto.made-end c.loop-made-test.false in
    held_spent c.args.self.now c.loop-made.self c.args.turn c.args.budget c.loop-made.queue.items c.loop-made.left (not_empty c.loop-made.queue.items c.in-Some-front.field-0 c.front-2.new.queue.items c.in-Some-front.ensures) (subst (λ n. Held c.args.self.now c.loop-made.self c.args.turn c.args.budget c.loop-made.queue.items c.loop-made.left n) made c.loop-made.invariant)

pub returns : goal.returns
returns c =
    let made : c.loop-made.made ≡ c.args.budget = made_all c.loop-made.made c.args.budget c.loop-made.auto.made-end c.loop-made-test.false in
    held_done c.args.self.now c.loop-made.self c.args.turn c.args.budget c.loop-made.left c.args.budget (subst (λ n. Held c.args.self.now c.loop-made.self c.args.turn c.args.budget [] c.loop-made.left n) made (subst (λ q. Held c.args.self.now c.loop-made.self c.args.turn c.args.budget q c.loop-made.left c.loop-made.made) c.in-None.ensures c.loop-made.invariant))
