use Rattle.std.proofs.Common.{◌∙◌}
use Rattle.cl_type_expr.proofs.Entries.{list_more}
use Rattle.cl_type_expr.proofs.members.Members.list.Goals as goal

pub loop-i-preserved : goal.loop-i-preserved
loop-i-preserved c =
    list_more c.self.inside.types.entries c.args.self.now c.loop-i.list c.push.new.self c.loop-i.i c.in-Some.name.now c.in-Some.ty.now c.in_ok-from_bytes-in-Some.field-0 c.self.view_is c.in-Some.ensures.entry (c.in_ok-from_bytes-in-Some.ensures ∙ c.deref.ensures.value) c.loop-i.invariant c.in_ok-push-in-Some.ensures.ok
