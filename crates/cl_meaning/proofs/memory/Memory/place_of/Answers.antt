use Rattle.std.proofs.Common.{arith}
use Rattle.std.proofs.lemmas.Grind.{common_steps}
use Rattle.cl_meaning.proofs.Privates.{at_place}
use Rattle.cl_meaning.proofs.memory.Memory.place_of.Goals as goal

pub returns-then-is_same-clause-at : goal.returns-then-is_same-clause-at
returns-then-is_same-clause-at c = at_place c.args.self.now.objects.items c.args.name.now c.loop-object.place (grind (arith, common_steps))

pub returns-clause-at : goal.returns-clause-at
returns-clause-at c = at_place c.args.self.now.objects.items c.args.name.now c.loop-object.place (grind (arith, common_steps))
