-- Which statements have bodies in all their loops.
use Rattle.std.proofs.Common.{List, [], ◌∷◌}
use Rattle.cl_meaning.specs.Code.{Stmt, Stmts, NoStmt, AndStmt, Sections, NoSection, AndSection, Code}
use Rattle.cl_meaning.specs.Code as code

-- Each loop has a body (C99, 6.8.5). In it a statement is reached, which is a step.
abbrev pub IsBody : Stmts → Type 0
IsBody NoStmt = ⊥
IsBody (AndStmt s ss) = Unit {0}

abbrev mutual
  pub HasBodies : Stmt → Type 0
  HasBodies (code.Block ss) = AllHaveBodies ss
  HasBodies (code.If test on_true on_false) = AllHaveBodies on_true × AllHaveBodies on_false
  HasBodies (code.While test body) = IsBody body × AllHaveBodies body
  HasBodies (code.Do body test) = IsBody body × AllHaveBodies body
  HasBodies (code.For declarations first test next body) = AllHaveBodies declarations × IsBody body × AllHaveBodies body
  HasBodies (code.Switch on sections) = SectionsHaveBodies sections
  HasBodies _ = Unit {0}

  pub AllHaveBodies : Stmts → Type 0
  AllHaveBodies NoStmt = Unit {0}
  AllHaveBodies (AndStmt s ss) = HasBodies s × AllHaveBodies ss

  pub SectionsHaveBodies : Sections → Type 0
  SectionsHaveBodies NoSection = Unit {0}
  SectionsHaveBodies (AndSection labels body rest) = AllHaveBodies body × SectionsHaveBodies rest

abbrev pub FunctionsHaveBodies : List Code → Type 0
FunctionsHaveBodies [] = Unit {0}
FunctionsHaveBodies (f ∷ fs) = HasBodies f.body × FunctionsHaveBodies fs
