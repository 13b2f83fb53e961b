-- What the nodes of a copy cost, each evaluated once, and how much room its values take at most.
use Rattle.std.specs.Prelude.{ℕ, ◌+◌, ◌*◌, List, [], ◌∷◌, length}
use Rattle.cl_types.specs.declared.types.ClType.{ClType}
use Rattle.obj_tree.specs.Code.{Stmt, Stmts, NoStmt, AndStmt, Label, Default, Case, Sections, NoSection, AndSection, Code}
use Rattle.obj_tree.specs.Code as code
use Rattle.obj_tree.specs.Tasks.{Small, instructions}
use Rattle.obj_tree.specs.Expressions.{total, node_costs, may_cost}

-- the value of a case is a node, a literal
abbrev pub label_costs : List Label → ℕ
label_costs [] = 0
label_costs (Default ∷ ls) = label_costs ls
label_costs (Case n ∷ ls) = instructions Small + label_costs ls

module _ (cs : List ClType) where
  abbrev mutual
    pub stmt_costs : Stmt → ℕ
    stmt_costs (code.Block ss) = stmts_costs ss
    stmt_costs (code.Declare vars) = 0
    stmt_costs (code.Initialise vars e) = node_costs cs e
    stmt_costs (code.Evaluate e) = node_costs cs e
    stmt_costs (code.If test on_true on_false) = node_costs cs test + (stmts_costs on_true + stmts_costs on_false)
    stmt_costs (code.While test body) = node_costs cs test + stmts_costs body
    stmt_costs (code.Do body test) = stmts_costs body + node_costs cs test
    stmt_costs (code.For declarations first test next body) = stmts_costs declarations + (may_cost cs first + (node_costs cs test + (may_cost cs next + stmts_costs body)))
    stmt_costs (code.Switch on sections) = node_costs cs on + sections_costs sections
    stmt_costs code.Break = 0
    stmt_costs code.Continue = 0
    stmt_costs (code.Return e) = may_cost cs e
    stmt_costs code.Empty = 0

    pub stmts_costs : Stmts → ℕ
    stmts_costs NoStmt = 0
    stmts_costs (AndStmt s ss) = stmt_costs s + stmts_costs ss

    pub sections_costs : Sections → ℕ
    sections_costs NoSection = 0
    sections_costs (AndSection labels body rest) = label_costs labels + (stmts_costs body + sections_costs rest)

  abbrev pub copy_costs : Code → ℕ
  copy_costs c = stmt_costs c.body

  -- Room for what the nodes make, for the parameters and the variables beside them, and for the call.
  abbrev pub room_of : Code → ℕ
  room_of c = 32 + (copy_costs c + (4 * total cs c.plain + (total cs c.vars + (2 * c.indices + 2 * length c.privates))))
