-- The least broken rule of a module, computed: its number, and the line that breaks it, if one does. That it is the least is proved beside; the samples use it.
use Rattle.std.proofs.Common.{ℕ, zero, suc, Bool, true, false, List, [], ◌∷◌, Option, Some, None}
use Rattle.std.specs.Prelude.{if◌then◌else◌, not, ◌==◌, ◌&&◌, ◌||◌}
use Rattle.spv_module.specs.declared.module.Inst.{Inst}
use Rattle.spv_module.specs.declared.op.TheConstants as op
use Rattle.spv_types_rules.specs.Lines.{Line, Whole, Spot, on, whole, lines_of, to_end}
use Rattle.spv_types_rules.specs.Rules.{Rule, rule, rules}
use Rattle.spv_types_rules.proofs.Structured.{is_structured}

-- rule 35 by the test of sequences
abbrev pub structure_test : Spot → Bool
structure_test s = is_structured (to_end s.after)

abbrev pub structure_rule : Rule
structure_rule = rule 35 (on op.FUNCTION structure_test)

-- whether the rules of a number among some pass a test
abbrev pub tests_by : (Rule → Bool) → List Rule → ℕ → Bool
tests_by test [] n = true
tests_by test (r ∷ rs) n = (not (r.number == n) || test r) && tests_by test rs n

abbrev pub keeps_number : ℕ → Spot → Bool
keeps_number n s = tests_by (λ r. r.keeps s) (structure_rule ∷ rules) n

abbrev pub has_number : ℕ → Whole → Bool
has_number n w = tests_by (λ r. r.has w) rules n

-- the first line that doesn't keep a rule
abbrev pub line_from : (Spot → Bool) → Whole → List Line → ℕ → List Line → Option ℕ
line_from keeps w before n [] = None
line_from keeps w before n (l ∷ ls) = if keeps (record { whole = w; before = before; here = l; after = ls }) then line_from keeps w (l ∷ before) (suc n) ls else Some n

-- a broken rule, and its line
pub record Break : Type 0 where
  pub number : ℕ
  pub line : Option ℕ

abbrev pub by : ℕ → ℕ → Break
by n i = record { number = n; line = Some i }

abbrev pub without : ℕ → Break
without n = record { number = n; line = None }

abbrev pub break_by : ℕ → Option ℕ → Bool → Option Break
break_by n (Some i) has = Some (by n i)
break_by n None true = None
break_by n None false = Some (without n)

abbrev pub break_of : Whole → ℕ → Option Break
break_of w n = break_by n (line_from (keeps_number n) w [] 0 w.lines) (has_number n w)

abbrev pub or_next : Option Break → Option Break → Option Break
or_next (Some b) next = Some b
or_next None next = next

-- the first of some numbers in order
abbrev pub first_from : ℕ → ℕ → Whole → Option Break
first_from zero n w = None
first_from (suc left) n w = or_next (break_of w n) (first_from left (suc n) w)

abbrev pub least_broken : List Inst → Option Break
least_broken body = first_from 45 0 (whole (lines_of body))

-- all of them
abbrev pub with_break : Option Break → List Break → List Break
with_break None bs = bs
with_break (Some b) bs = b ∷ bs

abbrev pub all_from : ℕ → ℕ → Whole → List Break
all_from zero n w = []
all_from (suc left) n w = with_break (break_of w n) (all_from left (suc n) w)

abbrev pub all_broken : List Inst → List Break
all_broken body = all_from 45 0 (whole (lines_of body))
