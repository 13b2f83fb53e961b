-- What a work-item does, task by task. A statement that is reached takes one step. A node takes one for each scalar that it makes, copies or
-- passes, and at least one; a place that is named and not read takes one. A call passes its arguments and makes its result; entering a function takes
-- one step, and one for each scalar of its parameters. A value of a scalar type or a pointer is one scalar.
use Rattle.std.specs.Prelude.{ℕ, ◌-◌, Bool, List, ◌∷◌, replicate, Option}
use Rattle.cl_types.specs.declared.types.TypeId.{TypeId}
use Rattle.cl_types.specs.declared.operator.BinOp.{BinOp}
use Rattle.cl_types.specs.declared.builtin.Builtin.{Builtin}
use Rattle.cl_builtins.specs.declared.kind.Gentype.{Gentype}
use Rattle.cl_meaning.specs.Code.{Expr, Stmts, Sections}
use Rattle.cl_meaning.specs.Operations.{Operation}

-- What a task does, mostly to the newest of what was evaluated. `k` counts the scalars of a value, or is a variable's number in its function.
pub data Act : Type 0 where
  -- nothing: a statement is reached; a scalar is made, copied or passed, or a place is named
  Reach : Act
  Pass : Act
  Operate : Operation → Act
  -- the place of a private variable or parameter of so many bytes; of a pointer variable: its pointer; the newest becomes its pointer, and stays
  Variable : (is_param : Bool) (k size : ℕ) → Act
  Recall : (is_param : Bool) (k : ℕ) → Act
  Point : (is_param : Bool) (k : ℕ) → Act
  -- scalar k of a type: read at the place beneath the newest, behind which it is put; of the newest, written at the place beneath it
  Read : (ty : TypeId) (k : ℕ) → Act
  Write : (ty : TypeId) (k : ℕ) → Act
  -- component k of an operator on the two values beneath the newest, behind which it is put
  Component : (op : BinOp) (operands : Gentype) (k : ℕ) → Act
  -- a call of a function, from the node of this number, with so many arguments; behind it the node takes so many steps at least; back to the caller
  Enter : (function number args least : ℕ) → Act
  Leave : Act
  -- calls of built-in functions: of the grid's sizes and places; of a barrier; atomics, with so many arguments behind the pointer
  WorkItem : Builtin → Act
  Wait : (number : ℕ) → Act
  Atomic : (op : Builtin) (signed : Bool) (args : ℕ) → Act
  -- `&&` and `||`: decided by the newest where it is this truth, and else by the other operand; `?:`
  Unless : (decided : Bool) (other : Expr) → Act
  Choose : (on_true on_false : Expr) → Act
  -- a private variable: unset; set to the newest
  Unset : (k : ℕ) → Act
  Set : (k : ℕ) (ty : TypeId) → Act
  -- by the newest: an arm of `if`; a section of `switch`; the body of a loop, or what is behind it
  Decide : (on_true on_false : Stmts) → Act
  SelectSection : Sections → Act
  Test : (body : Stmts) → Act
  -- a loop that begins with its test, and one that begins with its body
  Loop : (test : Expr) (next : Option Expr) (body : Stmts) → Act
  LoopOnce : (body : Stmts) (test : Expr) → Act
  Break : Act
  Continue : Act

-- A task with its step, or one that takes none: finding a place, deciding where to go on, setting a variable by its declaration, and in a compound
-- assignment all but the writes, whose steps stand for the reading and the making too.
pub data Task : Type 0 where
  Step : Act → Task
  Quiet : Act → Task

abbrev pub step : Operation → Task
step op = Step (Operate op)

abbrev pub quiet : Operation → Task
quiet op = Quiet (Operate op)

abbrev pub steps : ℕ → List Task
steps n = replicate n (Step Pass)

-- One task makes all scalars of a value, with the first step; the others follow.
abbrev pub making : ℕ → Operation → List Task
making count op = step op ∷ steps (count - 1)
