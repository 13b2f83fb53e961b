use Rattle.std.proofs.Common.{ap, ◌∙◌, map, arith}
use Rattle.cl_builtins.specs.Values.{takes_widths, value_of, width_in, patterns}
use Rattle.cl_meaning.proofs.Applications.{not_taken, args_take, args_value}
use Rattle.cl_meaning.proofs.applied.component.Goals as goal

pub returns-then-not-takes : goal.returns-then-not-takes
returns-then-not-takes c =
    not_taken c.args.function c.args.from c.args.k c.args.nss.now c.takes.result
    (c.takes.ensures ∙ ap (λ w. takes_widths c.args.function (map (λ n. w) c.args.nss.now)) c.bits.ensures.is) c.if-not-takes.true

pub value-requires : goal.value-requires
value-requires c =
    rw c.deref.ensures.value
    (args_take c.args.function c.args.from.bits c.args.k c.args.nss.now c.loop-ns.ns-index c.loop-ns.args.items c.takes.result c.loop-ns.invariant (omega arith)
    (c.takes.ensures ∙ ap (λ w. takes_widths c.args.function (map (λ n. w) c.args.nss.now)) c.bits.ensures.is) c.if-not-takes.false)

pub returns : goal.returns
returns c =
    let items = c.loop-ns.args.items in
    args_value c.args.function c.args.from c.args.k c.args.nss.now c.loop-ns.ns-index items c.takes.result c.value.result.value c.loop-ns.invariant (omega arith)
    (c.takes.ensures ∙ ap (λ w. takes_widths c.args.function (map (λ n. w) c.args.nss.now)) c.bits.ensures.is) c.if-not-takes.false
    (c.value.ensures.value
    ∙ ap (λ z. value_of c.args.function (width_in z) c.ty.result.signed (patterns z)) c.deref.ensures.value
    ∙ ap (λ t. value_of c.args.function (width_in items) t.signed (patterns items)) c.ty.ensures.is)
