use Rattle.std.proofs.Common.{◌<◌, ◌^◌, ◌*ℤ◌, ◌+ℤ◌, to_z, of_z, sym, ap, ◌∙◌, subst}
use Rattle.std.specs.Int.{saturate_signed, w128}
use Rattle.cl_builtins.specs.Values.{number, saturated}
use Rattle.cl_builtins.proofs.Saturated.{held, mad_is}
use Rattle.cl_builtins.proofs.component.mad_sat.Goals as goal

pub returns-clause-value : goal.returns-clause-value
returns-clause-value c =
    let s = c.args.signed in
    let w = c.args.x.width in
    let a = c.args.x.value in
    let b = c.args.y.value in
    let x = held c.exact.result c.exact.type_inv ∙ c.exact.ensures.is in
    let y = held c.exact-2.result c.exact-2.type_inv ∙ c.exact-2.ensures.is ∙ ap (λ v. number v s b) (sym c.requires.second) in
    let z = held c.exact-3.result c.exact-3.type_inv ∙ c.exact-3.ensures.is ∙ ap (λ v. number v s c.args.z.value) (sym c.requires.third) in
    let product = held c.saturating_mul-product.result c.saturating_mul-product.type_inv ∙ c.saturating_mul-product.ensures
    ∙ ap (λ t. saturate_signed w128 (t *ℤ to_z w128 (of_z w128 c.exact-2.result))) x ∙ ap (λ t. saturate_signed w128 (number w s a *ℤ t)) y in
    let total = held c.saturating_add.result c.saturating_add.type_inv ∙ c.saturating_add.ensures
    ∙ ap (λ t. saturate_signed w128 (t +ℤ to_z w128 (of_z w128 c.exact-3.result))) product
    ∙ ap (λ t. saturate_signed w128 (saturate_signed w128 (number w s a *ℤ number w s b) +ℤ t)) z in
    c.saturate.ensures.value ∙ ap (saturated w s) total
    ∙ mad_is s w a b c.args.z.value c.args.x.is_width c.args.x.in_range (subst (λ v. b < 2 ^ v) (sym c.requires.second) c.args.y.in_range)
    (subst (λ v. c.args.z.value < 2 ^ v) (sym c.requires.third) c.args.z.in_range)
