-- A unit has one verdict, whatever numbers its types have in the tables in which it is judged, and wherever its tree lies in memory.
use Rattle.std.specs.Prelude.{◌≡◌}
use Rattle.clv_place.specs.declared.stop.Offence.{Offence}
use Rattle.cl_ast.specs.declared.declaration.Ast.{Ast}
use Rattle.cl_plain.specs.Laws.{SaysTheSame}
use Rattle.cl_tree.specs.declared.tree.Tree.{Tree}
use Rattle.cl_typing.specs.Units.{IsTyped, IsOffence}

-- no unit is typed and has an offence
abbrev pub NeverBoth : Type 0
NeverBoth = (a b : Ast) (tree : Tree) (o : Offence) → SaysTheSame a b → IsTyped a tree → IsOffence b o → ⊥

abbrev pub OneOffence : Type 0
OneOffence = (a b : Ast) (o p : Offence) → SaysTheSame a b → IsOffence a o → IsOffence b p → p ≡ o
