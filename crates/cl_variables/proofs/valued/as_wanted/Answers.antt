use Rattle.std.proofs.Common.{◌≡◌, None, Some, refl, sym, ap, ◌∙◌}
use Rattle.cl_make.specs.Wanted.{target}
use Rattle.cl_variables.specs.Initialisers.{tally_at}
use Rattle.cl_variables.proofs.Values.{taken_wrong, taken_right}
use Rattle.cl_variables.proofs.valued.as_wanted.Goals as goal

pub returns-then-not-is_right-clause-taken : goal.returns-then-not-is_right-clause-taken
returns-then-not-is_right-clause-taken c =
    let tally : c.of-tally.result ≡ tally_at c.args.valued.typed.operand (target c.args.types.now c.args.ty) c.args.valued.varies = c.of-tally.ensures ∙ ap (λ z. tally_at c.args.valued.typed.operand z c.args.valued.varies) c.shaped.ensures in
    taken_wrong c.args.types.now c.args.ty c.args.valued (record { tree = None; tally = c.of-tally.result }) c.is_table.ensures c.requires.known tally (sym c.is_right.ensures ∙ c.if-not-is_right.true) refl

pub returns-clause-taken : goal.returns-clause-taken
returns-clause-taken c =
    let tally : c.of-tally.result ≡ tally_at c.args.valued.typed.operand (target c.args.types.now c.args.ty) c.args.valued.varies = c.of-tally.ensures ∙ ap (λ z. tally_at c.args.valued.typed.operand z c.args.valued.varies) c.shaped.ensures in
    let u = c.in_ok-converted.field-0 in
    taken_right c.args.types.now c.converted.new.types c.args.ty c.args.valued (record { tree = Some u; tally = c.of-tally.result }) u c.is_table.ensures c.requires.known c.converted.ensures.grows tally (sym c.is_right.ensures ∙ c.if-not-is_right.false) refl c.in_ok-converted.ensures.converted
