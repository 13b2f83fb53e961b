use Rattle.std.proofs.Common.{◌≡◌, false, sym, ap, ◌∙◌, subst, ◌++◌, ◌∷◌, []}
use Rattle.cl_typing.specs.Statements.{is_among}
use Rattle.cl_typing.specs.Values.{numbers_in}
use Rattle.cl_typing.proofs.Numbers.{number_added}
use Rattle.cl_typing.proofs.values.Values.push.Goals as goal

pub returns-clause-ok : goal.returns-clause-ok
returns-clause-ok c =
    ap numbers_in c.in_ok-insert.ensures.entries ∙ number_added c.self.inside.numbers c.args.n (subst (λ ns. is_among c.args.n ns ≡ false) (sym c.self.view_is) c.requires) ∙ ap (λ ns. ns ++ c.args.n ∷ []) c.self.view_is
