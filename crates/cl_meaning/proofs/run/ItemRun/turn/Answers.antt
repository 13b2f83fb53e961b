use Rattle.std.proofs.Common.{◌≡◌, ◌+◌, None, Some, refl, sym, ◌∙◌, subst}
use Rattle.std.specs.Prelude.{slice_get}
use Rattle.cl_meaning.specs.Views.{item_by, surroundings_by, values_of}
use Rattle.cl_meaning.proofs.Turns.{no_answer, one_answer, no_fuel_left, no_answer_left, went_on_with}
use Rattle.cl_meaning.proofs.run.ItemRun.turn.Goals as goal

pub returns-then-fuel-self : goal.returns-then-fuel-self
returns-then-fuel-self c =
    let cs = c.args.s.types.now in
    let moved = rw c.in-Some.is at c.in_ok-did.ensures in
    no_fuel_left (surroundings_by c.args.s) (values_of c.args.answers.now) c.args.fuel (item_by cs c.args.item.now) (item_by cs c.advance.new.self) c.args.self.now c.in-Some.did c.in-Some.steps moved.0 moved.1 (sym c.is_undefined.ensures ∙ c.if-is_undefined.false) c.if-fuel-self.true

pub returns-in_default-get : goal.returns-in_default-get
returns-in_default-get c =
    let cs = c.args.s.types.now in
    let made = c.args.self.now in
    let moved = rw c.in-Some.is at c.in_ok-did.ensures in
    let none = subst (λ n. slice_get (values_of c.args.answers.now) n ≡ None) c.len.ensures (no_answer c.args.answers.now c.len.result c.in_default-get.ensures.lookup.0) in
    no_answer_left (surroundings_by c.args.s) (values_of c.args.answers.now) c.args.fuel (item_by cs c.args.item.now) (item_by cs c.advance.new.self) made (record made { steps = made.steps + c.in-Some.steps }) c.in-Some.did c.in-Some.steps c.in-Some-question.event c.in-Some-question.then moved.0 moved.1 (sym c.is_undefined.ensures ∙ c.if-is_undefined.false) c.if-fuel-self.false (sym c.question.ensures ∙ c.in-Some-question.is) none refl refl

pub returns : goal.returns
returns c =
    let cs = c.args.s.types.now in
    let made = c.args.self.now in
    let answer = c.in-Some-get.answer.now in
    let moved = rw c.in-Some.is at c.in_ok-did.ensures in
    let there = subst (λ n. slice_get (values_of c.args.answers.now) n ≡ Some answer.value) c.len.ensures (one_answer c.args.answers.now c.len.result answer c.in-Some-get.ensures.lookup.0 c.in-Some-get.ensures.lookup.1) in
    went_on_with (surroundings_by c.args.s) (values_of c.args.answers.now) c.args.fuel (item_by cs c.args.item.now) (item_by cs c.advance.new.self) (item_by cs c.answer.new.self) made (record made { events = c.push.new.self; steps = made.steps + c.in-Some.steps }) c.in-Some.did c.in-Some.steps answer.value c.in-Some-question.event c.in-Some-question.then moved.0 moved.1 (sym c.is_undefined.ensures ∙ c.if-is_undefined.false) c.if-fuel-self.false c.requires (sym c.question.ensures ∙ c.in-Some-question.is) there (c.in_ok-answer.ensures cs) refl c.in_ok-push.ensures.ok
