use Rattle.std.proofs.Common.{◌≡◌, length, ap, ◌∙◌, rules}
use Rattle.std.specs.Prelude.{unwrap_or}
use Rattle.cl_scope.specs.Places.{place_of}
use Rattle.cl_scope.proofs.Firsts.{function_pushed}
use Rattle.cl_scope.proofs.functions.Functions.push.Goals as goal

pub invariant_of-self-2 : goal.invariant_of-self-2
invariant_of-self-2 c =
    let named : c.as_slice-3.result.now ≡ c.args.function.name = search rules in
    let last : c.len-at.result ≡ length c.self.inside.list.items = search rules in
    function_pushed c.self.inside.list.items c.push.new.self.items c.args.function c.self.inside.places c.make_room.new.self c.set.new.self c.as_slice-3.result.now c.len-at.result c.unwrap_or-first.result c.self.invariant c.in_ok-push.ensures.items c.make_room.ensures.same named last
    (c.unwrap_or-first.ensures ∙ ap (λ o. unwrap_or o c.len-at.result) (c.get.ensures ∙ ap (place_of c.make_room.new.self) c.as_slice-2.ensures)) c.set.ensures
