-- What a condition's tree is worth: whether its value is signed, and its value of 64 bits (C99 sections 6.10.1 and 6.5).
use Rattle.std.specs.Prelude.{ℕ, ◌%◌, Bool, true, false, ◌==◌, ◌||◌, not, nat_lt, if◌then◌else◌, Option, Some, None, bit_and, bit_or, bit_xor, int_lt}
use Rattle.clv_num.specs.Numbers.{signed_of, add_of, sub_of, mul_of, neg_of, not_of, udiv_of, urem_of, sdiv_of, srem_of, shl_of, lshr_of, ashr_of}
use Rattle.cl_condition.specs.declared.operator.UnaryOperator.{UnaryOperator}
use Rattle.cl_condition.specs.declared.operator.UnaryOperator.TheVariants.{Plus, Minus, Complement, Not}
use Rattle.cl_condition.specs.declared.operator.BinaryOperator.{BinaryOperator}
use Rattle.cl_condition.specs.declared.operator.BinaryOperator.TheVariants.{Multiply, Divide, Remainder, Add, Subtract, ShiftLeft, ShiftRight, Less, Greater, LessEqual, GreaterEqual, Equal, NotEqual, And, Xor, Or, LogicalAnd, LogicalOr}
use Rattle.cl_condition.specs.Operators.{reads_unsigned, gives_unsigned}

-- A condition read, without its brackets.
pub data Tree : Type 0 where
  Number : ℕ → Bool → Tree
  Unary : UnaryOperator → Tree → Tree
  Binary : BinaryOperator → Tree → Tree → Tree
  Choice : Tree → Tree → Tree → Tree

-- The number of a truth.
abbrev pub truth_of : Bool → ℕ
truth_of true = 1
truth_of false = 0

abbrev pub unary_unsigned : UnaryOperator → Bool → Bool
unary_unsigned Not unsigned = false
unary_unsigned op unsigned = unsigned

abbrev pub unary_value : UnaryOperator → ℕ → ℕ
unary_value Plus a = a
unary_value Minus a = neg_of 64 a
unary_value Complement a = not_of 64 a
unary_value Not a = truth_of (a == 0)

-- Whether a is less than b, as unsigned or as signed numbers.
abbrev pub is_less : Bool → ℕ → ℕ → Bool
is_less true a b = nat_lt a b
is_less false a b = int_lt (signed_of 64 a) (signed_of 64 b)

abbrev pub quotient_of : Bool → ℕ → ℕ → ℕ
quotient_of true a b = udiv_of 64 a b
quotient_of false a b = sdiv_of 64 a b

abbrev pub remainder_of : Bool → ℕ → ℕ → ℕ
remainder_of true a b = urem_of 64 a b
remainder_of false a b = srem_of 64 a b

-- A number moved down by so many places, modulo 64.
abbrev pub down_of : Bool → ℕ → ℕ → ℕ
down_of true a b = lshr_of 64 a (b % 64)
down_of false a b = ashr_of 64 a (b % 64)

-- An operator's value at two operands that it reads as unsigned or signed; a quotient or remainder by 0 has none. Shift
-- amounts are taken modulo 64, and what doesn't fit 64 bits wraps.
abbrev pub binary_value : BinaryOperator → Bool → ℕ → ℕ → Option ℕ
binary_value Multiply unsigned a b = Some (mul_of 64 a b)
binary_value Divide unsigned a b = if b == 0 then None else Some (quotient_of unsigned a b)
binary_value Remainder unsigned a b = if b == 0 then None else Some (remainder_of unsigned a b)
binary_value Add unsigned a b = Some (add_of 64 a b)
binary_value Subtract unsigned a b = Some (sub_of 64 a b)
binary_value ShiftLeft unsigned a b = Some (shl_of 64 a (b % 64))
binary_value ShiftRight unsigned a b = Some (down_of unsigned a b)
binary_value Less unsigned a b = Some (truth_of (is_less unsigned a b))
binary_value Greater unsigned a b = Some (truth_of (is_less unsigned b a))
binary_value LessEqual unsigned a b = Some (truth_of (not (is_less unsigned b a)))
binary_value GreaterEqual unsigned a b = Some (truth_of (not (is_less unsigned a b)))
binary_value Equal unsigned a b = Some (truth_of (a == b))
binary_value NotEqual unsigned a b = Some (truth_of (not (a == b)))
binary_value And unsigned a b = Some (bit_and a b)
binary_value Xor unsigned a b = Some (bit_xor a b)
binary_value Or unsigned a b = Some (bit_or a b)
binary_value LogicalAnd unsigned a b = Some (truth_of (not (a == 0 || b == 0)))
binary_value LogicalOr unsigned a b = Some (truth_of (not (a == 0) || not (b == 0)))

-- The value that the left operand of `&&` or `||` decides alone: the right one is then not evaluated (sections 6.5.13
-- and 6.5.14).
abbrev pub decided_by : BinaryOperator → ℕ → Option ℕ
decided_by LogicalAnd a = if a == 0 then Some 0 else None
decided_by LogicalOr a = if a == 0 then None else Some 1
decided_by op a = None

-- An operator's value at the values of its operands, of which one has none where it divides by zero.
abbrev pub at_right : BinaryOperator → Bool → ℕ → Option ℕ → Option ℕ
at_right op unsigned a None = None
at_right op unsigned a (Some b) = binary_value op unsigned a b

abbrev pub unless_decided : Option ℕ → Option ℕ → Option ℕ
unless_decided (Some value) other = Some value
unless_decided None other = other

abbrev pub evaluated : BinaryOperator → Bool → Option ℕ → Option ℕ → Option ℕ
evaluated op unsigned None right = None
evaluated op unsigned (Some a) right = unless_decided (decided_by op a) (at_right op unsigned a right)

abbrev pub unary_evaluated : UnaryOperator → Option ℕ → Option ℕ
unary_evaluated op None = None
unary_evaluated op (Some a) = Some (unary_value op a)

-- The value of the arm that the test chooses; the other one is not evaluated (section 6.5.15).
abbrev pub chosen : Option ℕ → Option ℕ → Option ℕ → Option ℕ
chosen None passed failed = None
chosen (Some test) passed failed = if test == 0 then failed else passed

-- Whether a tree's value is unsigned, be it evaluated or not.
abbrev pub is_unsigned : Tree → Bool
is_unsigned (Number bits unsigned) = unsigned
is_unsigned (Unary op a) = unary_unsigned op (is_unsigned a)
is_unsigned (Binary op a b) = gives_unsigned op (is_unsigned a) (is_unsigned b)
is_unsigned (Choice test passed failed) = is_unsigned passed || is_unsigned failed

-- A tree's value, and none where an operand that is evaluated divides by zero.
abbrev pub value_of : Tree → Option ℕ
value_of (Number bits unsigned) = Some bits
value_of (Unary op a) = unary_evaluated op (value_of a)
value_of (Binary op a b) = evaluated op (reads_unsigned op (is_unsigned a) (is_unsigned b)) (value_of a) (value_of b)
value_of (Choice test passed failed) = chosen (value_of test) (value_of passed) (value_of failed)
