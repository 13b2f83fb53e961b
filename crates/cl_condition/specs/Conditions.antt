-- The condition of an `#if` line (C99 sections 6.10.1, 6.5 and 6.6): terms that are a condition, and what they come to.
-- Marks stand by their numbers: `(` is 8, `)` 9, `:` 23, and `?` 35.
use Rattle.std.specs.Prelude.{◌≡◌, ℕ, Bool, Some, None, List, [], ◌∷◌, ◌++◌}
use Rattle.cl_condition.specs.declared.term.Term.{Term}
use Rattle.cl_condition.specs.declared.term.Term.TheVariants as term
use Rattle.cl_condition.specs.declared.term.Judged.{Judged}
use Rattle.cl_condition.specs.declared.term.Judged.TheVariants as judged
use Rattle.cl_condition.specs.declared.operator.UnaryOperator.{UnaryOperator}
use Rattle.cl_condition.specs.declared.operator.BinaryOperator.{BinaryOperator}
use Rattle.cl_precedence.specs.Grouping.{Groups}
use Rattle.cl_condition.specs.Operators.{unary_of, binary_of, level_of}
use Rattle.cl_condition.specs.Values.{Tree, Number, Unary, Binary, Choice, is_unsigned, value_of}

-- A tree is that of an operator over its operands.
abbrev pub IsBinary : BinaryOperator → Tree → Tree → Tree → Type 0
IsBinary op left right tree = tree ≡ Binary op left right

-- condition = row [ "?" condition ":" condition ]; row = unary { binary-operator unary }, which groups by how tight the
-- operators bind; unary = NUMBER | unary-operator unary | "(" condition ")".
mutual
  pub data IsCondition : List Term → Tree → Type 0 where
    plain : (u : List Term) (first : Tree) (rest : List (BinaryOperator × Tree)) (tree : Tree)
        → IsRow u first rest → Groups level_of IsBinary first rest tree → IsCondition u tree
    choice : (u v w : List Term) (first : Tree) (rest : List (BinaryOperator × Tree)) (test passed failed : Tree)
        → IsRow u first rest → Groups level_of IsBinary first rest test → IsCondition v passed → IsCondition w failed
        → IsCondition (u ++ term.Mark 35 ∷ (v ++ term.Mark 23 ∷ w)) (Choice test passed failed)

  pub data IsRow : List Term → Tree → List (BinaryOperator × Tree) → Type 0 where
    single : (u : List Term) (first : Tree) → IsUnary u first → IsRow u first []
    more : (u v : List Term) (mark : ℕ) (op : BinaryOperator) (first next : Tree) (rest : List (BinaryOperator × Tree))
        → IsUnary u first → binary_of mark ≡ Some op → IsRow v next rest → IsRow (u ++ term.Mark mark ∷ v) first ((op, next) ∷ rest)

  pub data IsUnary : List Term → Tree → Type 0 where
    number : (bits : ℕ) (unsigned : Bool) → IsUnary (term.Value bits unsigned ∷ []) (Number bits unsigned)
    prefix : (u : List Term) (mark : ℕ) (op : UnaryOperator) (a : Tree) → unary_of mark ≡ Some op → IsUnary u a → IsUnary (term.Mark mark ∷ u) (Unary op a)
    bracket : (u : List Term) (a : Tree) → IsCondition u a → IsUnary (term.Mark 8 ∷ (u ++ term.Mark 9 ∷ [])) a

-- What terms come to.
pub data Judges (terms : List Term) : Judged → Type 0 where
  valued : (tree : Tree) (bits : ℕ) → IsCondition terms tree → value_of tree ≡ Some bits → Judges terms (judged.Value bits (is_unsigned tree))
  divides : (tree : Tree) → IsCondition terms tree → value_of tree ≡ None → Judges terms judged.DividesByZero
  malformed : ((tree : Tree) → IsCondition terms tree → ⊥) → Judges terms judged.Malformed

-- Terms have one judgement.
pub record OneJudgement : Type 0 where
  pub one : (terms : List Term) (a b : Judged) → Judges terms a → Judges terms b → a ≡ b
