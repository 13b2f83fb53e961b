-- Where statements stand, and the declarations and variables that are there.
use Rattle.std.specs.Prelude.{◌≡◌, Bool, true, false, if◌then◌else◌, List, Option}
use Rattle.clv_place.specs.declared.place.Place.{Place}
use Rattle.cl_types.specs.declared.types.TypeId.{TypeId}
use Rattle.cl_tree.specs.declared.expression.TExpr.{TExpr}
use Rattle.cl_tree.specs.declared.statement.TStmt.{TStmt}
use Rattle.cl_tree.specs.declared.statement.TStmtNode.{TStmtNode}
use Rattle.cl_tree.specs.declared.statement.Section.{Section}
use Rattle.cl_tree.specs.declared.statement.TStmtNode.TheViews.{out-TStmt, out-Section}
use Rattle.cl_tree.specs.declared.unit.Variable.{Variable}
use Rattle.cl_scope.specs.Names.{Env, entered, left_behind}
use Rattle.cl_variables.specs.declared.declaring.Where.TheVariants.{InKernel, Inside}
use Rattle.cl_typing.specs.declared.setting.Setting.{Setting}

-- the outermost block of a function
abbrev pub setting : Bool → TypeId → Setting
setting kernel result = record { result = result; breaks = false; continues = false; variables = if kernel then InKernel else Inside }

abbrev pub inside : Setting → Setting
inside p = record p { variables = Inside }

abbrev pub in_loop : Setting → Setting
in_loop p = record p { breaks = true; continues = true; variables = Inside }

abbrev pub in_switch : Setting → Setting
in_switch p = record p { breaks = true; variables = Inside }

-- the declarations round a statement, and the variables that the function has so far
pub record State : Type 0 where
  pub env : Env
  pub vars : List Variable

abbrev pub state : Env → List Variable → State
state env vars = record { env = env; vars = vars }

abbrev pub with_env : Env → State → State
with_env env st = state env st.vars

abbrev pub entering : State → State
entering st = state (entered st.env) st.vars

abbrev pub leaving : State → State → State
leaving st inner = state (left_behind st.env inner.env) inner.vars

-- ---- typed nodes by their fields

pub record IsTStmt (t : TStmt) (place : Place) (n : TStmtNode) : Type 0 where
  pub at : (out-TStmt t).place ≡ place
  pub is : (out-TStmt t).node ≡ n

pub record IsSection (s : Section) (labels : List (Option TExpr)) (body : List TStmt) : Type 0 where
  pub under : (out-Section s).labels.items ≡ labels
  pub has : (out-Section s).body.items ≡ body
