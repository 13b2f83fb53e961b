-- The nodes of the text from which the calls and barriers of a copy come. No two come from one, so that a chain of them tells each from the others
-- (OpenCL C 1.2, 6.12.8).
use Rattle.std.specs.Prelude.{not, ◌&&◌, ◌||◌, Bool, true, false, List, [], ◌∷◌, ◌++◌, Option, Some, None}
use Rattle.cl_tree.specs.declared.event.NodeId.{NodeId}
use Rattle.cl_common.specs.Events.{same_node}
use Rattle.obj_tree.specs.Code.{Node, Call, Builtin, Expr, Exprs, Tree, NoExpr, AndExpr, Place, NoPlace, At, Steps, NoStep, AndMember, AndIndex, AndSingle, AndComponents, Stmt, Stmts, NoStmt, AndStmt, Sections, NoSection, AndSection}
use Rattle.obj_tree.specs.Code as code

abbrev pub site_of : Node → List NodeId
site_of (Call copy plain privates from) = from ∷ []
site_of (Builtin f (Some from)) = from ∷ []
site_of _ = []

abbrev mutual
  pub sites_in : Expr → List NodeId
  sites_in (Tree node ty at es) = site_of node ++ (sites_at at ++ sites_in_all es)

  pub sites_in_all : Exprs → List NodeId
  sites_in_all NoExpr = []
  sites_in_all (AndExpr e es) = sites_in e ++ sites_in_all es

  pub sites_at : Place → List NodeId
  sites_at NoPlace = []
  sites_at (At r ss) = sites_along ss

  pub sites_along : Steps → List NodeId
  sites_along NoStep = []
  sites_along (AndMember k ss) = sites_along ss
  sites_along (AndIndex e ss) = sites_in e ++ sites_along ss
  sites_along (AndSingle e ss) = sites_in e ++ sites_along ss
  sites_along (AndComponents at ss) = sites_along ss

abbrev pub sites_in_some : Option Expr → List NodeId
sites_in_some None = []
sites_in_some (Some e) = sites_in e

abbrev mutual
  pub sites : Stmt → List NodeId
  sites (code.Block ss) = sites_of ss
  sites (code.Declare vars) = []
  sites (code.Initialise vars e) = sites_in e
  sites (code.Evaluate e) = sites_in e
  sites (code.If test on_true on_false) = sites_in test ++ (sites_of on_true ++ sites_of on_false)
  sites (code.While test body) = sites_in test ++ sites_of body
  sites (code.Do body test) = sites_of body ++ sites_in test
  sites (code.For declarations first test next body) = sites_of declarations ++ (sites_in_some first ++ (sites_in test ++ (sites_in_some next ++ sites_of body)))
  sites (code.Switch on sections) = sites_in on ++ sites_among sections
  sites code.Break = []
  sites code.Continue = []
  sites (code.Return e) = sites_in_some e
  sites code.Empty = []

  pub sites_of : Stmts → List NodeId
  sites_of NoStmt = []
  sites_of (AndStmt s ss) = sites s ++ sites_of ss

  pub sites_among : Sections → List NodeId
  sites_among NoSection = []
  sites_among (AndSection labels body rest) = sites_of body ++ sites_among rest

abbrev pub is_among : NodeId → List NodeId → Bool
is_among n [] = false
is_among n (m ∷ ms) = same_node n m || is_among n ms

abbrev pub all_differ : List NodeId → Bool
all_differ [] = true
all_differ (n ∷ ns) = not (is_among n ns) && all_differ ns
