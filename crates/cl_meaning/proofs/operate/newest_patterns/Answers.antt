use Rattle.std.proofs.Common.{◌≡◌, ap, ◌∙◌, subst, map, take}
use Rattle.std.specs.Prelude.{IfOk}
use Rattle.cl_meaning.specs.Values.{patterns_in}
use Rattle.cl_meaning.specs.Operations.{scalars_in}
use Rattle.cl_meaning.proofs.Operating.{map_reversed}
use Rattle.cl_meaning.proofs.operate.newest_patterns.Goals as goal

pub returns : goal.returns
returns c =
    subst (λ z. IfOk c.patterns_of_all.result (λ nss. nss.items ≡ map patterns_in z))
    (ap (map scalars_in) c.newest.ensures ∙ map_reversed scalars_in (take c.args.n c.args.stack.now))
    c.patterns_of_all.ensures
