use Rattle.std.proofs.Common.{None, Some, sym, ap, ◌∙◌, slice_get, option_copied, ◌≡◌}
use Rattle.cl_scope.specs.Names.{newest}
use Rattle.cl_scope.proofs.Choice.{looked_up}
use Rattle.cl_scope.proofs.Indexed.{found, row_declared}
use Rattle.cl_scope.proofs.declarations.Declarations.find.Goals as goal

pub returns-in-None : goal.returns-in-None
returns-in-None c = found c.args.tag c.args.name.now c.self.inside.rows.items c.self.inside.spaces None c.self.invariant (sym c.in-None.is ∙ c.get.ensures) ∙ ap (newest c.args.tag c.args.name.now) c.self.view_is

pub returns-in-None-get : goal.returns-in-None-get
returns-in-None-get c =
    let looked : option_copied c.get-in-Some.result ≡ slice_get c.deref.result.now c.in-Some.at = looked_up c.deref.result.now c.in-Some.at c.get-in-Some.result c.get-in-Some.ensures.lookup.0 c.get-in-Some.ensures.lookup.1 in
    ap (λ o. row_declared (option_copied o)) (sym c.in-None-get.is) ∙ ap row_declared (looked ∙ ap (λ l. slice_get l c.in-Some.at) c.deref.ensures.value)
    ∙ found c.args.tag c.args.name.now c.self.inside.rows.items c.self.inside.spaces (Some c.in-Some.at) c.self.invariant (sym c.in-Some.is ∙ c.get.ensures) ∙ ap (newest c.args.tag c.args.name.now) c.self.view_is

pub returns-in-Some-get : goal.returns-in-Some-get
returns-in-Some-get c =
    let looked : option_copied c.get-in-Some.result ≡ slice_get c.deref.result.now c.in-Some.at = looked_up c.deref.result.now c.in-Some.at c.get-in-Some.result c.get-in-Some.ensures.lookup.0 c.get-in-Some.ensures.lookup.1 in
    ap (λ o. row_declared (option_copied o)) (sym c.in-Some-get.is) ∙ ap row_declared (looked ∙ ap (λ l. slice_get l c.in-Some.at) c.deref.ensures.value)
    ∙ found c.args.tag c.args.name.now c.self.inside.rows.items c.self.inside.spaces (Some c.in-Some.at) c.self.invariant (sym c.in-Some.is ∙ c.get.ensures) ∙ ap (newest c.args.tag c.args.name.now) c.self.view_is
