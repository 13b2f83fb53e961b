use Rattle.std.proofs.Common.{None, arith, refl}
use Rattle.cl_meaning.proofs.Privates.{added, added_first}
use Rattle.std.proofs.lemmas.Grind.{common_steps}
use Rattle.cl_meaning.proofs.memory.Memory.place.Goals as goal

pub returns-in_ok-push-clause-kept : goal.returns-in_ok-push-clause-kept
returns-in_ok-push-clause-kept c = added c.args.self.now.objects.items c.push.new.self.items (record { name = c.in_ok-copied.field-0; bytes = c.new.result; pointer = None }) c.in_ok-push.ensures.items c.new.ensures.items refl

pub returns-in_ok-push-clause-first : goal.returns-in_ok-push-clause-first
returns-in_ok-push-clause-first c = added_first c.args.self.now.objects.items c.push.new.self.items (record { name = c.in_ok-copied.field-0; bytes = c.new.result; pointer = None }) c.args.name.now c.place_of-place.result c.in_ok-push.ensures.items c.in_ok-copied.ensures c.place_of-place.ensures.first (grind (arith, common_steps))
