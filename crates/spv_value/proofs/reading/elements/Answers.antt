use Rattle.std.proofs.Common.{◌≡◌, ◌∙◌, map, suc, ◌-◌, ap, arith}
use Rattle.std.proofs.lemmas.List.{map-append}
use Rattle.spv_value.specs.Views.{stands}
use Rattle.spv_value.proofs.Steps.{inside_more, elements_more, elements_end, scalar_reads}
use Rattle.spv_value.proofs.reading.elements.Goals as goal

pub loop-left-preserved : goal.loop-left-preserved
loop-left-preserved c =
    let next : suc (c.loop-left.left - 1) ≡ c.loop-left.left = omega (arith, c.loop-left-test.true) in
    let step = c.from-size.ensures in
    record {
      inside = inside_more _ _ _ _ _ _ next step c.loop-left.invariant.inside;
      left = elements_more _ _ _ _ _ _ _ _ _ _ _ next step (ap (map (stands c.args.body.now c.args.bytes.now)) c.in_ok-push.ensures.items ∙ map-append _ c.loop-left.values.items _)
          (scalar_reads c.args.body.now c.args.bytes.now c.args.element c.loop-left.place c.args.width c.scalar.result c.requires.typed c.scalar.ensures.inside c.scalar.ensures.width c.scalar.ensures.value) c.loop-left.invariant.left;
    }

pub returns : goal.returns
returns c = elements_end _ _ _ _ _ _ _ c.loop-left-test.false c.loop-left.invariant.left
