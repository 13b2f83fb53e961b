-- What a work-item does, task by task. A statement that is reached takes one step. A node takes one for each scalar that it makes, copies or
-- passes, and at least one. The indices of a place take one step together once they are evaluated, and so do those that come with a pointer, where a call
-- passes them and where the copy is entered. Entering a copy takes one step more, and one for each scalar of the parameters that are no pointers.
use Rattle.std.specs.Prelude.{ℕ, ◌-◌, Bool, List, ◌∷◌, replicate, Option}
use Rattle.cl_types.specs.declared.operator.BinOp.{BinOp}
use Rattle.cl_types.specs.declared.builtin.Builtin.{Builtin}
use Rattle.cl_builtins.specs.declared.kind.Gentype.{Gentype}
use Rattle.cl_tree.specs.declared.event.NodeId.{NodeId}
use Rattle.cl_tree.specs.declared.shape.Shape.{Shape}
use Rattle.obj_tree.specs.declared.object.Root.{Root}
use Rattle.obj_tree.specs.Code.{Expr, Stmts, Sections}
use Rattle.obj_tree.specs.Places.{Extent}
use Rattle.obj_tree.specs.Operations.{Operation}

-- One step into an object, where the number of an index, which has such a type, is among what was evaluated.
pub data Want : Type 0 where
  IntoMember : (k : ℕ) → Want
  ByIndex : (index : Shape) → Want
  BySingle : (index : Shape) → Want
  IntoComponents : (at : List ℕ) → Want

-- What a task does, mostly to the newest of what was evaluated. `k` counts the scalars of a value, or is a variable's number in its copy.
pub data Act : Type 0 where
  -- nothing: a statement is reached; a scalar is made, copied or passed
  Reach : Act
  Pass : Act
  Operate : Operation → Act
  -- the place that the newest numbers lead to as indices, with the steps that lead there, the last first
  Aim : (root : Root) (wants : List Want) → Act
  -- scalar k of what is accessed: read at the place beneath the newest, behind which it is put; of the newest, written at the place beneath it
  Read : (extent : Extent) (k : ℕ) → Act
  Write : (extent : Extent) (k : ℕ) → Act
  -- component k of an operator on the two values beneath the newest, behind which it is put
  Component : (op : BinOp) (operands : Gentype) (k : ℕ) → Act
  -- a call of a copy, with so many arguments that are no pointers, indices of these types, and these private objects, from a node of the text; behind
  -- it the node takes so many steps at least; back to the caller
  Enter : (copy plain : ℕ) (indices : List Shape) (privates : List ℕ) (from : NodeId) (least : ℕ) → Act
  Leave : Act
  -- calls of built-in functions: of the grid's sizes and places; of a barrier; atomics, with so many arguments behind the place
  WorkItem : Builtin → Act
  Wait : (from : NodeId) → Act
  Atomic : (op : Builtin) (signed : Bool) (args : ℕ) → Act
  -- `&&` and `||`: decided by the newest where it is this truth, and else by the other operand; `?:`
  Unless : (decided : Bool) (other : Expr) → Act
  Choose : (on_true on_false : Expr) → Act
  -- variables: unset; set to the newest
  Unset : (vars : List ℕ) → Act
  Set : (vars : List ℕ) → Act
  -- by the newest: an arm of `if`; a section of `switch`; the body of a loop, or what is behind it
  Decide : (on_true on_false : Stmts) → Act
  SelectSection : Sections → Act
  Test : (body : Stmts) → Act
  -- a loop that begins with its test, and one that begins with its body
  Loop : (test : Expr) (next : Option Expr) (body : Stmts) → Act
  LoopOnce : (body : Stmts) (test : Expr) → Act
  Break : Act
  Continue : Act

-- What a step may cost a module: so many instructions.
pub data Price : Type 0 where
  Small : Price
  Middle : Price
  Long : Price
  Other : Price

abbrev pub instructions : Price → ℕ
instructions Small = 12
instructions Middle = 32
instructions Long = 256
instructions Other = 160

-- A task with its step, or one that takes none: finding a place without indices, deciding where to go on, setting a variable by its declaration, and in a
-- compound assignment all but the writes, whose steps stand for the reading and the making too.
pub data Task : Type 0 where
  Step : (price : Price) → Act → Task
  Quiet : Act → Task

abbrev pub step : Price → Operation → Task
step p op = Step p (Operate op)

abbrev pub quiet : Operation → Task
quiet op = Quiet (Operate op)

abbrev pub steps : Price → ℕ → List Task
steps p n = replicate n (Step p Pass)

-- One task makes all scalars of a value, with the first step; the others follow.
abbrev pub making : Price → ℕ → Operation → List Task
making p count op = step p op ∷ steps p (count - 1)
