use Rattle.std.proofs.Common.{None, Some, sym, ap, ◌∙◌, slice_get, option_copied, ◌≡◌}
use Rattle.cl_scope.specs.Names.{function_in}
use Rattle.cl_scope.proofs.Choice.{looked_up}
use Rattle.cl_scope.proofs.Firsts.{first_found}
use Rattle.cl_scope.proofs.functions.Functions.find.Goals as goal

pub returns-in-None : goal.returns-in-None
returns-in-None c = first_found c.args.name.now c.self.inside.list.items c.self.inside.places None c.self.invariant (sym c.in-None.is ∙ c.get.ensures) ∙ ap (function_in c.args.name.now) c.self.view_is

pub returns-in-Some : goal.returns-in-Some
returns-in-Some c =
    let looked : option_copied c.get-in-Some.result ≡ slice_get c.deref.result.now c.in-Some.at = looked_up c.deref.result.now c.in-Some.at c.get-in-Some.result c.get-in-Some.ensures.lookup.0 c.get-in-Some.ensures.lookup.1 in
    looked ∙ ap (λ l. slice_get l c.in-Some.at) c.deref.ensures.value ∙ first_found c.args.name.now c.self.inside.list.items c.self.inside.places (Some c.in-Some.at) c.self.invariant (sym c.in-Some.is ∙ c.get.ensures) ∙ ap (function_in c.args.name.now) c.self.view_is
