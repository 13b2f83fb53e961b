-- The rule that a launch breaks, computed by trying one after another, and for each one argument after another.
use Rattle.std.specs.Prelude.{ℕ, zero, suc, ◌+◌, Bool, if◌then◌else◌, List, [], ◌∷◌, length, Option, Some, None}
use Rattle.std.specs.Option.{option_or}
use Rattle.launch_text.specs.declared.launch.ArgLine.{ArgLine}
use Rattle.launch_text.specs.Rules.{LoadedLaunch, Taken, BrokenRule, broken, breaks_at, breaks_whole, IsLeastBroken, KeepsRules}

-- the least number below a bound that passes a test
abbrev pub least_below : ℕ → (ℕ → Bool) → Option ℕ
least_below zero test = None
least_below (suc n) test = option_or (least_below n test) (if test n then Some n else None)

-- no line is of this argument or of a later one
abbrev pub end_of : List ArgLine → ℕ
end_of [] = 0
end_of (a ∷ as_) = a.ordinal + 1 + end_of as_

abbrev pub least_at : LoadedLaunch → Taken → ℕ → Option ℕ
least_at l t rule = least_below (length t.parameters + end_of l.arguments) (breaks_at l t rule)

abbrev pub broken_by : LoadedLaunch → Taken → ℕ → Option ℕ → Option BrokenRule
broken_by l t rule (Some n) = Some (broken rule (Some n))
broken_by l t rule None = if breaks_whole l t rule then Some (broken rule None) else None

-- the first that is broken of so many rules, this one first
abbrev pub broken_among : LoadedLaunch → Taken → ℕ → ℕ → Option BrokenRule
broken_among l t zero rule = None
broken_among l t (suc count) rule = option_or (broken_by l t rule (least_at l t rule)) (broken_among l t count (rule + 1))

-- L10, or the first of L11 to L21
abbrev pub broken_rule : LoadedLaunch → Option Taken → Option BrokenRule
broken_rule l None = Some (broken 10 None)
broken_rule l (Some t) = broken_among l t 11 11

-- It is the rule that is named; where there is none, the launch keeps all.
abbrev pub IsNamed : LoadedLaunch → Option Taken → Option BrokenRule → Type 0
IsNamed l takes (Some r) = IsLeastBroken l takes r
IsNamed l (Some t) None = KeepsRules t l
IsNamed l None None = ⊥

abbrev pub NamesOne : Type 0
NamesOne = (l : LoadedLaunch) (takes : Option Taken) → IsNamed l takes (broken_rule l takes)
