-- How far the terms of a condition were read, and what a part of it came to.
use Rattle.std.specs.Prelude.{◌≡◌, ◌≢◌, ℕ, ◌+◌, ◌<◌, ◌≤◌, ◌||◌, Bool, Option, Some, None, List, [], ◌∷◌, ◌++◌, length, drop}
use Rattle.cl_condition.specs.declared.outcome.Outcome.{Outcome}
use Rattle.cl_condition.specs.declared.term.Term.{Term}
use Rattle.cl_condition.specs.declared.term.Term.TheVariants as term
use Rattle.cl_condition.specs.declared.operator.UnaryOperator.{UnaryOperator}
use Rattle.cl_condition.specs.declared.operator.BinaryOperator.{BinaryOperator}
use Rattle.cl_condition.specs.declared.read.Halt.{Halt}
use Rattle.cl_condition.specs.declared.read.Halt.TheVariants as halt
use Rattle.cl_condition.specs.declared.term.Judged.{Judged}
use Rattle.cl_condition.specs.declared.term.Judged.TheVariants as judged
use Rattle.cl_precedence.specs.Grouping.{Groups, viewed}
use Rattle.cl_condition.specs.Conditions.{IsBinary, IsCondition, IsRow, IsUnary}
use Rattle.cl_condition.specs.Operators.{binary_of, level_of, reads_unsigned, gives_unsigned}
use Rattle.cl_condition.specs.Values.{Tree, is_unsigned, value_of, unary_unsigned, unary_evaluated, evaluated, chosen}

-- What a tree comes to, and what trees come to by what their parts do.
abbrev pub outcome_of : Tree → Outcome
outcome_of tree = record { unsigned = is_unsigned tree; value = value_of tree }

abbrev pub unary_outcome : UnaryOperator → Outcome → Outcome
unary_outcome op a = record { unsigned = unary_unsigned op a.unsigned; value = unary_evaluated op a.value }

abbrev pub binary_outcome : BinaryOperator → Outcome → Outcome → Outcome
binary_outcome op a b = record { unsigned = gives_unsigned op a.unsigned b.unsigned; value = evaluated op (reads_unsigned op a.unsigned b.unsigned) a.value b.value }

abbrev pub choice_outcome : Outcome → Outcome → Outcome → Outcome
choice_outcome test passed failed = record { unsigned = passed.unsigned || failed.unsigned; value = chosen test.value passed.value failed.value }

-- ---- what may stand behind

-- No operator stands first.
abbrev pub EndsRow : List Term → Type 0
EndsRow [] = Unit {0}
EndsRow (term.Value bits unsigned ∷ rest) = Unit {0}
EndsRow (term.Mark mark ∷ rest) = binary_of mark ≡ None
EndsRow (term.Stray ∷ rest) = Unit {0}

-- No operator and no `?` stands first.
abbrev pub EndsCondition : List Term → Type 0
EndsCondition [] = Unit {0}
EndsCondition (term.Value bits unsigned ∷ rest) = Unit {0}
EndsCondition (term.Mark mark ∷ rest) = (binary_of mark ≡ None) × (mark ≢ 35)
EndsCondition (term.Stray ∷ rest) = Unit {0}

-- ---- how far terms were read, from an index on

-- This term stands at an index.
pub record StandsAt (terms : List Term) (at : ℕ) (t : Term) : Type 0 where
  pub within : at < length terms
  pub here : drop at terms ≡ t ∷ drop (at + 1) terms

-- No term does.
pub record IsEndAt (terms : List Term) (at : ℕ) : Type 0 where
  pub none : drop at terms ≡ []

-- A mark stands at an index.
abbrev pub MarkAt : List Term → ℕ → ℕ → Type 0
MarkAt terms at mark = StandsAt terms at (term.Mark mark)

-- Another term or none does.
pub record OtherAt (terms : List Term) (at mark : ℕ) : Type 0 where
  pub other : (rest : List Term) → drop at terms ≡ term.Mark mark ∷ rest → ⊥

-- The mark of an operator stands at an index.
pub record OperatorAt (terms : List Term) (at : ℕ) (op : BinaryOperator) : Type 0 where
  pub mark : ℕ
  pub stands : StandsAt terms at (term.Mark mark)
  pub is : binary_of mark ≡ Some op

-- No operator does.
pub record NoOperatorAt (terms : List Term) (at : ℕ) : Type 0 where
  pub ends : EndsRow (drop at terms)

-- A unary with this outcome stands from one index to another, of what comes behind it.
pub record UnaryAt (terms : List Term) (at next : ℕ) (outcome : Outcome) : Type 0 where
  pub forth : at < next
  pub within : next ≤ length terms
  pub used : List Term
  pub tree : Tree
  pub split : drop at terms ≡ used ++ drop next terms
  pub is : IsUnary used tree
  pub comes : outcome ≡ outcome_of tree

-- A row does, as far as it goes.
pub record RowAt (terms : List Term) (at next : ℕ) (outcome : Outcome) : Type 0 where
  pub forth : at < next
  pub within : next ≤ length terms
  pub used : List Term
  pub first : Tree
  pub rest : List (BinaryOperator × Tree)
  pub tree : Tree
  pub split : drop at terms ≡ used ++ drop next terms
  pub is : IsRow used first rest
  pub groups : Groups level_of IsBinary first rest tree
  pub comes : outcome ≡ outcome_of tree
  pub ends : EndsRow (drop next terms)

-- A condition does, as far as it goes.
pub record ConditionAt (terms : List Term) (at next : ℕ) (outcome : Outcome) : Type 0 where
  pub forth : at < next
  pub within : next ≤ length terms
  pub used : List Term
  pub tree : Tree
  pub split : drop at terms ≡ used ++ drop next terms
  pub is : IsCondition used tree
  pub comes : outcome ≡ outcome_of tree
  pub ends : EndsCondition (drop next terms)

-- Operands of a row were read up to an index, with these outcomes.
pub record PartAt (terms : List Term) (at here : ℕ) (outcome : Outcome) (outcomes : List (BinaryOperator × Outcome)) : Type 0 where
  pub forth : at < here
  pub within : here ≤ length terms
  pub used : List Term
  pub first : Tree
  pub rest : List (BinaryOperator × Tree)
  pub split : drop at terms ≡ used ++ drop here terms
  pub is : IsRow used first rest
  pub comes : outcome ≡ outcome_of first
  pub come : outcomes ≡ viewed outcome_of rest

-- What stands from an index on begins with no unary, no row, no condition.
pub record NoUnaryAt (terms : List Term) (at : ℕ) : Type 0 where
  pub none : (u v : List Term) (tree : Tree) → drop at terms ≡ u ++ v → IsUnary u tree → ⊥

pub record NoRowAt (terms : List Term) (at : ℕ) : Type 0 where
  pub none : (u v : List Term) (first : Tree) (rest : List (BinaryOperator × Tree)) → drop at terms ≡ u ++ v → IsRow u first rest → EndsRow v → ⊥

pub record NoConditionAt (terms : List Term) (at : ℕ) : Type 0 where
  pub none : (u v : List Term) (tree : Tree) → drop at terms ≡ u ++ v → IsCondition u tree → EndsCondition v → ⊥

-- A reading was stopped, for this reason or for want of memory.
abbrev pub Unless : Halt → Type 0 → Type 0
Unless halt.Malformed P = P
Unless halt.NoMemory P = Unit {0}

pub record UnaryStopped (terms : List Term) (at : ℕ) (stop : Halt) : Type 0 where
  pub stopped : Unless stop (NoUnaryAt terms at)

pub record RowStopped (terms : List Term) (at : ℕ) (stop : Halt) : Type 0 where
  pub stopped : Unless stop (NoRowAt terms at)

pub record ConditionStopped (terms : List Term) (at : ℕ) (stop : Halt) : Type 0 where
  pub stopped : Unless stop (NoConditionAt terms at)

abbrev pub of_value : Bool → Option ℕ → Judged
of_value unsigned None = judged.DividesByZero
of_value unsigned (Some bits) = judged.Value bits unsigned

-- The judgement of an outcome.
abbrev pub judged_of : Outcome → Judged
judged_of outcome = of_value outcome.unsigned outcome.value
