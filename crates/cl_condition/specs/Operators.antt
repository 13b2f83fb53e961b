-- The operators of a condition (C99 sections 6.5.3.3 and 6.5.5 to 6.5.14). A mark is a number, its place from 0 in the
-- order of the marks' bytes.
use Rattle.std.specs.Prelude.{ℕ, Bool, false, ◌==◌, ◌||◌, if◌then◌else◌, Option, Some, None}
use Rattle.cl_condition.specs.declared.operator.UnaryOperator.{UnaryOperator}
use Rattle.cl_condition.specs.declared.operator.UnaryOperator.TheVariants.{Plus, Minus, Complement, Not}
use Rattle.cl_condition.specs.declared.operator.BinaryOperator.{BinaryOperator}
use Rattle.cl_condition.specs.declared.operator.BinaryOperator.TheVariants.{Multiply, Divide, Remainder, Add, Subtract, ShiftLeft, ShiftRight, Less, Greater, LessEqual, GreaterEqual, Equal, NotEqual, And, Xor, Or, LogicalAnd, LogicalOr}

-- The unary operator that a mark is: ! + - ~
abbrev pub unary_of : ℕ → Option UnaryOperator
unary_of m = if m == 0 then Some Not else if m == 12 then Some Plus else if m == 16 then Some Minus else if m == 45 then Some Complement else None

-- The binary operator that a mark is: * / % + - << >> < > <= >= == != & ^ | && ||
abbrev pub binary_of : ℕ → Option BinaryOperator
binary_of m =
    if m == 10 then Some Multiply else if m == 21 then Some Divide else if m == 3 then Some Remainder
    else if m == 12 then Some Add else if m == 16 then Some Subtract
    else if m == 26 then Some ShiftLeft else if m == 33 then Some ShiftRight
    else if m == 25 then Some Less else if m == 31 then Some Greater else if m == 28 then Some LessEqual else if m == 32 then Some GreaterEqual
    else if m == 30 then Some Equal else if m == 1 then Some NotEqual
    else if m == 5 then Some And else if m == 38 then Some Xor else if m == 41 then Some Or
    else if m == 6 then Some LogicalAnd else if m == 43 then Some LogicalOr
    else None

-- How tight an operator binds: the levels are the subsections of section 6.5, and a greater one binds tighter.
abbrev pub level_of : BinaryOperator → ℕ
level_of Multiply = 10
level_of Divide = 10
level_of Remainder = 10
level_of Add = 9
level_of Subtract = 9
level_of ShiftLeft = 8
level_of ShiftRight = 8
level_of Less = 7
level_of Greater = 7
level_of LessEqual = 7
level_of GreaterEqual = 7
level_of Equal = 6
level_of NotEqual = 6
level_of And = 5
level_of Xor = 4
level_of Or = 3
level_of LogicalAnd = 2
level_of LogicalOr = 1

-- Whether an operator reads its operands as unsigned numbers: where one is (section 6.3.1.8), and a shift by its left
-- operand alone (section 6.5.7).
abbrev pub reads_unsigned : BinaryOperator → Bool → Bool → Bool
reads_unsigned ShiftLeft left right = left
reads_unsigned ShiftRight left right = left
reads_unsigned op left right = left || right

-- Whether an operator's value is unsigned: not that of a comparison, nor of `&&` and `||`, which is 0 or 1.
abbrev pub gives_unsigned : BinaryOperator → Bool → Bool → Bool
gives_unsigned Less left right = false
gives_unsigned Greater left right = false
gives_unsigned LessEqual left right = false
gives_unsigned GreaterEqual left right = false
gives_unsigned Equal left right = false
gives_unsigned NotEqual left right = false
gives_unsigned LogicalAnd left right = false
gives_unsigned LogicalOr left right = false
gives_unsigned op left right = reads_unsigned op left right
