-- Which terminals stand at a place of the grammar, and what they mean there.
use Rattle.std.specs.Prelude.{ℕ, Bool, true, false, Option, Some, None}
use Rattle.cl_types.specs.declared.operator.UnOp.{UnOp}
use Rattle.cl_types.specs.declared.operator.UnOp.TheVariants as un
use Rattle.cl_types.specs.declared.operator.BinOp.{BinOp}
use Rattle.cl_types.specs.declared.operator.BinOp.TheVariants as bin
use Rattle.cl_ast.specs.declared.expression.Qual.{Qual}
use Rattle.cl_ast.specs.declared.expression.Qual.TheVariants as qual
use Rattle.cl_grammar.specs.declared.terminal.Terminal.{Terminal}
use Rattle.cl_grammar.specs.declared.terminal.Terminal.TheVariants as t

-- the qualifier of a type that a terminal is (OpenCL C 1.2, 6.5 and 6.7)
abbrev pub qualifier_of : Terminal → Option Qual
qualifier_of t.Const = Some qual.Const
qualifier_of t.Volatile = Some qual.Volatile
qualifier_of (t.Space space) = Some (qual.Space space)
qualifier_of _ = None

-- the qualifier of a pointer behind its `*`
abbrev pub pointer_qualifier_of : Terminal → Option Qual
pointer_qualifier_of t.Const = Some qual.Const
pointer_qualifier_of t.Volatile = Some qual.Volatile
pointer_qualifier_of t.Restrict = Some qual.Restrict
pointer_qualifier_of _ = None

-- whether a terminal is a whole type by itself; if so, whether that type is a vector
abbrev pub whole_type : Terminal → Option Bool
whole_type t.Void = Some false
whole_type t.Bool = Some false
whole_type (t.UnsignedInt bits) = Some false
whole_type (t.Vector bits signed n) = Some true
whole_type (t.Sized signed) = Some false
whole_type (t.TypeName vector) = Some vector
whole_type _ = None

-- whether the type that `signed` and `unsigned` stand before is signed
abbrev pub sign_of : Terminal → Option Bool
sign_of t.Signed = Some true
sign_of t.Unsigned = Some false
sign_of _ = None

-- the bits of the integer types that have a word
abbrev pub width_of : Terminal → Option ℕ
width_of t.Char = Some 8
width_of t.Short = Some 16
width_of t.Int = Some 32
width_of t.Long = Some 64
width_of _ = None

-- `short` and `long` may have `int` behind them
abbrev pub takes_int : Terminal → Bool
takes_int t.Short = true
takes_int t.Long = true
takes_int _ = false

-- the operators before an operand that is a `cast`
abbrev pub prefix_of : Terminal → Option UnOp
prefix_of t.Plus = Some un.Plus
prefix_of t.Minus = Some un.Minus
prefix_of t.Tilde = Some un.Not
prefix_of t.Exclamation = Some un.LogicalNot
prefix_of t.Star = Some un.Deref
prefix_of t.Ampersand = Some un.Address
prefix_of _ = None

-- `++` and `--`, before an operand and behind it
abbrev pub increment_before : Terminal → Option UnOp
increment_before t.Increment = Some un.PreInc
increment_before t.Decrement = Some un.PreDec
increment_before _ = None

abbrev pub increment_behind : Terminal → Option UnOp
increment_behind t.Increment = Some un.PostInc
increment_behind t.Decrement = Some un.PostDec
increment_behind _ = None

-- whether a member stands behind `->`, or `.`
abbrev pub arrow_of : Terminal → Option Bool
arrow_of t.Dot = Some false
arrow_of t.Arrow = Some true
arrow_of _ = None

-- the operators between two operands
abbrev pub binary_of : Terminal → Option BinOp
binary_of t.Star = Some bin.Mul
binary_of t.Plus = Some bin.Add
binary_of t.Minus = Some bin.Sub
binary_of t.Ampersand = Some bin.And
binary_of (t.Infix op) = Some op
binary_of _ = None

-- an assignment, with its operator where it has one
abbrev pub assignment_of : Terminal → Option (Option BinOp)
assignment_of t.Equals = Some None
assignment_of (t.Compound op) = Some (Some op)
assignment_of _ = None

-- How tight a binary operator binds (C99 6.5.5 to 6.5.14); a greater level binds tighter.
abbrev pub level_of : BinOp → ℕ
level_of bin.Mul = 10
level_of bin.Div = 10
level_of bin.Rem = 10
level_of bin.Add = 9
level_of bin.Sub = 9
level_of bin.Shl = 8
level_of bin.Shr = 8
level_of bin.Less = 7
level_of bin.Greater = 7
level_of bin.LessEqual = 7
level_of bin.GreaterEqual = 7
level_of bin.Equal = 6
level_of bin.NotEqual = 6
level_of bin.And = 5
level_of bin.Xor = 4
level_of bin.Or = 3
level_of bin.LogicalAnd = 2
level_of bin.LogicalOr = 1
