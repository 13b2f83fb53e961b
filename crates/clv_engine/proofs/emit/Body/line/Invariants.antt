use Rattle.std.proofs.Common.{◌≡◌, ◌∷◌, take, map}
use Rattle.spv_module.specs.declared.module.Operand.TheVariants.{Id, Word}
use Rattle.clv_engine.specs.declared.id.TheConstants as id
use Rattle.clv_engine.proofs.emit.Body.line.Given as goal

abbrev pub invariant-loop-operand : goal.invariant-loop-operand
invariant-loop-operand l =
    l.all.items ≡ Id id.VOID ∷ Id l.fn.line ∷ Id id.REFLECTION ∷ Word l.fn.number ∷ map (λ i. Id i) (take l.operand-index l.operands)
