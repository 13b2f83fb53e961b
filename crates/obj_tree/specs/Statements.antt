-- What a work-item has to do for a statement and for a copy (C99, 6.8 and 6.9.1).
use Rattle.std.specs.Prelude.{ℕ, ◌+◌, nat_eq, if◌then◌else◌, List, [], ◌∷◌, ◌++◌, Some, None}
use Rattle.cl_types.specs.declared.types.ClType.{ClType}
use Rattle.cl_tree.specs.declared.shape.Shape.{Shape}
use Rattle.cl_tree.specs.declared.shape.Shape.TheVariants as shape
use Rattle.cl_tree.specs.Shapes.{shape_of}
use Rattle.obj_tree.specs.Code.{Expr, Stmt, Stmts, NoStmt, AndStmt, Sections, Code}
use Rattle.obj_tree.specs.Code as code
use Rattle.obj_tree.specs.Operations.{Entry, Value, Missing, Push}
use Rattle.obj_tree.specs.Tasks.{Reach, Leave, Unset, Set, Decide, SelectSection, Test, Loop, LoopOnce, Break, Continue, Other, Task, Step, Quiet, quiet, steps}
use Rattle.obj_tree.specs.Expressions.{total, uses, drops, may_drop}

module _ (cs : List ClType) where
  -- ---- statements

  abbrev mutual
    pub stmt_tasks : Stmt → List Task
    stmt_tasks (code.Block ss) = Step Other Reach ∷ stmts_tasks ss
    stmt_tasks (code.Declare vars) = Step Other Reach ∷ Quiet (Unset vars) ∷ []
    stmt_tasks (code.Initialise vars e) = Step Other Reach ∷ uses cs e ++ Quiet (Set vars) ∷ []
    stmt_tasks (code.Evaluate e) = Step Other Reach ∷ drops cs e
    stmt_tasks (code.If test on_true on_false) = Step Other Reach ∷ uses cs test ++ Quiet (Decide on_true on_false) ∷ []
    stmt_tasks (code.While test body) = Step Other Reach ∷ Quiet (Loop test None body) ∷ []
    stmt_tasks (code.Do body test) = Step Other Reach ∷ Quiet (LoopOnce body test) ∷ []
    stmt_tasks (code.For declarations first test next body) = Step Other Reach ∷ stmts_tasks declarations ++ (may_drop cs first ++ Quiet (Loop test next body) ∷ [])
    stmt_tasks (code.Switch on sections) = Step Other Reach ∷ uses cs on ++ Quiet (SelectSection sections) ∷ []
    stmt_tasks code.Break = Step Other Reach ∷ Quiet Break ∷ []
    stmt_tasks code.Continue = Step Other Reach ∷ Quiet Continue ∷ []
    stmt_tasks (code.Return None) = Step Other Reach ∷ quiet (Push (Value [])) ∷ Quiet Leave ∷ []
    stmt_tasks (code.Return (Some e)) = Step Other Reach ∷ uses cs e ++ Quiet Leave ∷ []
    stmt_tasks code.Empty = Step Other Reach ∷ []

    pub stmts_tasks : Stmts → List Task
    stmts_tasks NoStmt = []
    stmts_tasks (AndStmt s ss) = stmt_tasks s ++ stmts_tasks ss

  -- Each section goes on in the one behind it.
  abbrev pub sections_tasks : Sections → List Task
  sections_tasks code.NoSection = []
  sections_tasks (code.AndSection labels body rest) = stmts_tasks body ++ sections_tasks rest

  -- The end of a loop's body is as `continue`, and that of a switch as `break` (C99, 6.8.6.2 and 6.8.4.2).
  abbrev pub body_tasks : Stmts → List Task
  body_tasks body = stmts_tasks body ++ Quiet Continue ∷ []

  abbrev pub switch_tasks : Sections → List Task
  switch_tasks sections = sections_tasks sections ++ Quiet Break ∷ []

  abbrev pub test_tasks : Expr → Stmts → List Task
  test_tasks test body = uses cs test ++ Quiet (Test body) ∷ []

  -- ---- copies

  -- where a function falls off its end
  abbrev pub fallen : Shape → Entry
  fallen shape.Void = Value []
  fallen _ = Missing

  -- indices that come with pointers take one step together
  abbrev pub index_steps : ℕ → ℕ
  index_steps n = if nat_eq n 0 then 0 else 1

  -- behind the step that enters it: the steps for its parameters, and the body
  abbrev pub copy_tasks : Code → List Task
  copy_tasks c = steps Other (total cs c.plain + index_steps c.indices) ++ (stmt_tasks c.body ++ quiet (Push (fallen (shape_of cs c.result))) ∷ Quiet Leave ∷ [])
