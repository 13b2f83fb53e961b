-- What a work-item has to do for a statement and for a function (C99, 6.8 and 6.9.1).
use Rattle.std.specs.Prelude.{List, [], ◌∷◌, ◌++◌, Some, None}
use Rattle.cl_types.specs.declared.types.ClType.{ClType}
use Rattle.cl_tree.specs.declared.shape.Shape.{Shape}
use Rattle.cl_tree.specs.declared.shape.Shape.TheVariants as shape
use Rattle.cl_tree.specs.Shapes.{shape_of}
use Rattle.cl_meaning.specs.Code.{Node, Expr, Exprs, Tree, NoExpr, AndExpr, Stmt, Stmts, NoStmt, AndStmt, Sections, Code}
use Rattle.cl_meaning.specs.Code as code
use Rattle.cl_meaning.specs.Values.{Entry, Value, Missing}
use Rattle.cl_meaning.specs.Operations.{Push}
use Rattle.cl_meaning.specs.Tasks.{Reach, Leave, Unset, Set, Decide, SelectSection, Test, Loop, LoopOnce, Break, Continue, Task, Step, Quiet, quiet, steps}
use Rattle.cl_meaning.specs.Expressions.{type_of, total, uses, drops, may_drop}

module _ (cs : List ClType) where
  -- ---- statements

  abbrev mutual
    pub stmt_tasks : Stmt → List Task
    stmt_tasks (code.Block ss) = Step Reach ∷ stmts_tasks ss
    stmt_tasks (code.Declare k) = Step Reach ∷ Quiet (Unset k) ∷ []
    stmt_tasks (code.Initialise k e) = Step Reach ∷ uses cs e ++ Quiet (Set k (type_of e)) ∷ []
    stmt_tasks (code.Evaluate e) = Step Reach ∷ drops cs e
    stmt_tasks (code.If test on_true on_false) = Step Reach ∷ uses cs test ++ Quiet (Decide on_true on_false) ∷ []
    stmt_tasks (code.While test body) = Step Reach ∷ Quiet (Loop test None body) ∷ []
    stmt_tasks (code.Do body test) = Step Reach ∷ Quiet (LoopOnce body test) ∷ []
    stmt_tasks (code.For declarations first test next body) = Step Reach ∷ stmts_tasks declarations ++ (may_drop cs first ++ Quiet (Loop test next body) ∷ [])
    stmt_tasks (code.Switch on sections) = Step Reach ∷ uses cs on ++ Quiet (SelectSection sections) ∷ []
    stmt_tasks code.Break = Step Reach ∷ Quiet Break ∷ []
    stmt_tasks code.Continue = Step Reach ∷ Quiet Continue ∷ []
    stmt_tasks (code.Return None) = Step Reach ∷ quiet (Push (Value [])) ∷ Quiet Leave ∷ []
    stmt_tasks (code.Return (Some e)) = Step Reach ∷ uses cs e ++ Quiet Leave ∷ []
    stmt_tasks code.Empty = Step Reach ∷ []

    pub stmts_tasks : Stmts → List Task
    stmts_tasks NoStmt = []
    stmts_tasks (AndStmt s ss) = stmt_tasks s ++ stmts_tasks ss

  -- Each section goes on in the one behind it.
  abbrev pub sections_tasks : Sections → List Task
  sections_tasks code.NoSection = []
  sections_tasks (code.AndSection labels body rest) = stmts_tasks body ++ sections_tasks rest

  -- The end of a loop's body is as `continue`, and that of a switch as `break` (C99, 6.8.6.2 and 6.8.4.2).
  abbrev pub body_tasks : Stmts → List Task
  body_tasks body = stmts_tasks body ++ Quiet Continue ∷ []

  abbrev pub switch_tasks : Sections → List Task
  switch_tasks sections = sections_tasks sections ++ Quiet Break ∷ []

  abbrev pub test_tasks : Expr → Stmts → List Task
  test_tasks test body = uses cs test ++ Quiet (Test body) ∷ []

  -- ---- functions

  -- where a function falls off its end
  abbrev pub fallen : Shape → Entry
  fallen shape.Void = Value []
  fallen _ = Missing

  -- behind the step that enters it: one for each scalar of the parameters, and the body
  abbrev pub function_tasks : Code → List Task
  function_tasks f = steps (total cs f.params) ++ (stmt_tasks f.body ++ quiet (Push (fallen (shape_of cs f.result))) ∷ Quiet Leave ∷ [])
