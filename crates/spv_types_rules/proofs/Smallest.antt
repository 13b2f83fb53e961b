-- The smallest module is valid.
use Rattle.std.proofs.Common.{◌≡◌, true, false, List, [], ◌∷◌, refl, sym, subst, arith}
use Rattle.std.specs.Prelude.{All}
use Rattle.std.specs.List.{list_all}
use Rattle.std.proofs.lemmas.List.Elements.{All-nil, All-cons}
use Rattle.std.proofs.lemmas.List.Sums.{AllPass-from_list_all}
use Rattle.spv_module.specs.declared.module.Module.{Module}
use Rattle.spv_module.specs.Grammar.{row_of}
use Rattle.spv_module.specs.Words.{AreSpelled, IsSpelled}
use Rattle.spv_module.proofs.Tests.{AreSpelled-tested}
use Rattle.spv_types_rules.specs.Lines.{Func, line, whole, lines_of}
use Rattle.spv_types_rules.proofs.Structured.{passes_structured}
use Rattle.spv_types_rules.specs.Rules.{Rule, rules, is_kept_in, IsFunctionStructured, IsValid}
use Rattle.spv_types_rules.specs.Smallest.{inst, smallest, smallest_body}

body_spelled : AreSpelled 12 smallest_body
unfolding row_of
body_spelled = AreSpelled-tested 12 smallest_body refl

smallest_spelled : IsSpelled smallest
smallest_spelled = record { version = refl; generator = omega arith; bound_low = omega arith; bound_high = omega arith; body = body_spelled; size = omega arith }

abbrev first_function : List Func → Func
first_function [] = record { head = line false (inst 0 []); lines = [] }
first_function (f ∷ _) = f

abbrev the_function : Func
the_function = first_function (whole (lines_of smallest_body)).functions

structured : All IsFunctionStructured (whole (lines_of smallest_body)).functions
structured = All-cons IsFunctionStructured the_function [] (passes_structured the_function.lines refl) (All-nil IsFunctionStructured)

kept : list_all (λ (r : Rule). is_kept_in r (whole (lines_of smallest_body))) rules ≡ true
kept = refl

smallest_valid : IsValid smallest_body
smallest_valid = record { built = refl; kept = AllPass-from_list_all (λ (r : Rule). is_kept_in r (whole (lines_of smallest_body))) rules kept; structured = structured }

pub is_spelled : (m : Module) → m ≡ smallest → IsSpelled m
is_spelled m e = subst IsSpelled (sym e) smallest_spelled

pub is_valid : (m : Module) → m ≡ smallest → IsValid m.body
is_valid m e = subst (λ (n : Module). IsValid n.body) (sym e) smallest_valid
