-- Arguments behind the last parameter.
use Rattle.std.proofs.Common.{◌≡◌, refl, false, List, [], ◌∷◌}
use Rattle.cl_rules.specs.declared.rule.Operand.{Operand}
use Rattle.cl_rules.specs.Calls.{some_no_value, some_no_pointer}

pub no_value_left : (os : List Operand) → some_no_value os [] ≡ false
no_value_left [] = refl
no_value_left (o ∷ os) = refl

pub no_pointer_left : (os : List Operand) → some_no_pointer os [] ≡ false
no_pointer_left [] = refl
no_pointer_left (o ∷ os) = refl
