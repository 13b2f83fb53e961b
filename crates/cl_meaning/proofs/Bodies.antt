-- In the meaning each loop has a body.
use Rattle.std.proofs.Common.{ℕ, List, [], ◌∷◌, map, Option, Some, None, sym, subst}
use Rattle.cl_types.specs.declared.types.ClType.{ClType}
use Rattle.cl_tree.specs.declared.statement.TStmt.{TStmt}
use Rattle.cl_tree.specs.declared.statement.TStmtNode.{TStmtNode}
use Rattle.cl_tree.specs.declared.statement.Section.{Section}
use Rattle.cl_tree.specs.declared.statement.TStmtNode.TheOpen.{TStmtNode-F, Section-F, TStmt-F}
use Rattle.cl_tree.specs.declared.statement.TStmtNode.TheOpen as layer
use Rattle.cl_tree.specs.declared.statement.TStmtNode.TheViews.{roll-TStmtNode, roll-Section, roll-TStmt}
use Rattle.cl_tree.specs.declared.statement.TStmtNode.TheFolds.{map-TStmtNode, map-Section, map-TStmt, fold-TStmtNode, fold-Section, fold-TStmt, fold-roll-TStmtNode, fold-roll-Section, fold-roll-TStmt, ind-TStmt}
use Rattle.cl_tree.specs.declared.unit.Variable.{Variable}
use Rattle.cl_tree.specs.declared.unit.Function.{Function}
use Rattle.cl_meaning.specs.Code.{Expr, Declare, Empty, Stmts, NoStmt, AndStmt, Placed, SectionAt, placed_all, placed_sections, arms, loop_body, numbered, numbered_option, labelled, declared, section_over, node_over, stmt_over, is_in_local, code_of}
use Rattle.std.specs.Prelude.{slice_get}
use Rattle.cl_meaning.proofs.Moves.{if_either}
use Rattle.cl_meaning.proofs.Loops.{IsBody, HasBodies, AllHaveBodies, SectionsHaveBodies, FunctionsHaveBodies}

-- statements by the number of their first node, whose loops have bodies at each
abbrev Sound : Placed → Type 0
Sound f = (n : ℕ) → HasBodies (f n).0

abbrev SoundSection : (ℕ → SectionAt) → Type 0
SoundSection f = (n : ℕ) → AllHaveBodies (f n).body

arms_sound : (ss : Stmts) → AllHaveBodies ss → AllHaveBodies (arms ss).0 × AllHaveBodies (arms ss).1
arms_sound NoStmt h = (tt, tt)
arms_sound (AndStmt s ss) h = ((h.0, tt), h.1)

loop_is_body : (ss : Stmts) → IsBody (loop_body ss)
loop_is_body NoStmt = tt
loop_is_body (AndStmt s ss) = tt

loop_sound : (ss : Stmts) → AllHaveBodies ss → AllHaveBodies (loop_body ss)
loop_sound NoStmt h = (tt, tt)
loop_sound (AndStmt s ss) h = h

module _ (cs : List ClType) (vars : List Variable) where
  declared_sound : (k : ℕ) (e : Option Expr) → HasBodies (declared cs vars k e)
  declared_sound k None = if_either HasBodies (is_in_local (slice_get vars k)) Empty (Declare k) tt tt
  declared_sound k (Some e) = tt

  abbrev node_placed : TStmtNode → Placed
  node_placed = fold-TStmtNode Placed (ℕ → SectionAt) Placed (node_over cs vars) (section_over cs vars) (stmt_over cs vars)

  abbrev section_placed : Section → ℕ → SectionAt
  section_placed = fold-Section Placed (ℕ → SectionAt) Placed (node_over cs vars) (section_over cs vars) (stmt_over cs vars)

  abbrev stmt_placed : TStmt → Placed
  stmt_placed = fold-TStmt Placed (ℕ → SectionAt) Placed (node_over cs vars) (section_over cs vars) (stmt_over cs vars)

  abbrev IsNode : TStmtNode → Type 0
  IsNode x = Sound (node_placed x)

  abbrev IsSection : Section → Type 0
  IsSection x = SoundSection (section_placed x)

  abbrev IsStmt : TStmt → Type 0
  IsStmt x = Sound (stmt_placed x)

  -- ---- a layer whose parts are sound

  abbrev GoodNode : Type 0
  GoodNode = (x : TStmtNode) × IsNode x

  abbrev GoodSection : Type 0
  GoodSection = (x : Section) × IsSection x

  abbrev GoodStmt : Type 0
  GoodStmt = (x : TStmt) × IsStmt x

  abbrev node_in : GoodNode → TStmtNode
  node_in g = g.0

  abbrev section_in : GoodSection → Section
  section_in g = g.0

  abbrev stmt_in : GoodStmt → TStmt
  stmt_in g = g.0

  abbrev all_placed : List GoodStmt → ℕ → Stmts × ℕ
  all_placed gs = placed_all (map stmt_placed (map stmt_in gs))

  all_sound : (gs : List GoodStmt) (n : ℕ) → AllHaveBodies (all_placed gs n).0
  all_sound [] n = tt
  all_sound (g ∷ gs) n = (g.1 n, all_sound gs (stmt_placed g.0 n).1)

  sections_sound : (gs : List GoodSection) (n : ℕ) → SectionsHaveBodies (placed_sections (map section_placed (map section_in gs)) n).0
  sections_sound [] n = tt
  sections_sound (g ∷ gs) n = (g.1 n, sections_sound gs (section_placed g.0 n).behind)

  abbrev bare_node : TStmtNode-F GoodNode GoodSection GoodStmt → TStmtNode-F TStmtNode Section TStmt
  bare_node = map-TStmtNode GoodNode GoodSection GoodStmt TStmtNode Section TStmt node_in section_in stmt_in

  abbrev bare_section : Section-F GoodNode GoodSection GoodStmt → Section-F TStmtNode Section TStmt
  bare_section = map-Section GoodNode GoodSection GoodStmt TStmtNode Section TStmt node_in section_in stmt_in

  abbrev bare_stmt : TStmt-F GoodNode GoodSection GoodStmt → TStmt-F TStmtNode Section TStmt
  bare_stmt = map-TStmt GoodNode GoodSection GoodStmt TStmtNode Section TStmt node_in section_in stmt_in

  abbrev placed_node : TStmtNode-F TStmtNode Section TStmt → TStmtNode-F Placed (ℕ → SectionAt) Placed
  placed_node = map-TStmtNode TStmtNode Section TStmt Placed (ℕ → SectionAt) Placed node_placed section_placed stmt_placed

  abbrev placed_section : Section-F TStmtNode Section TStmt → Section-F Placed (ℕ → SectionAt) Placed
  placed_section = map-Section TStmtNode Section TStmt Placed (ℕ → SectionAt) Placed node_placed section_placed stmt_placed

  loop_over : (gs : List GoodStmt) (n : ℕ) → IsBody (loop_body (all_placed gs n).0) × AllHaveBodies (loop_body (all_placed gs n).0)
  loop_over gs n = (loop_is_body (all_placed gs n).0, loop_sound (all_placed gs n).0 (all_sound gs n))

  node_sound : (y : TStmtNode-F GoodNode GoodSection GoodStmt) (n : ℕ) → HasBodies (node_over cs vars (placed_node (bare_node y)) n).0
  node_sound (layer.Block items) n = all_sound items.items n
  node_sound (layer.Decl k init) n = declared_sound k (numbered_option cs vars init n).0
  node_sound (layer.Expr e) n = tt
  node_sound (layer.If cond items) n = arms_sound (all_placed items.items (numbered vars cond n).1).0 (all_sound items.items (numbered vars cond n).1)
  node_sound (layer.While cond items) n = loop_over items.items (numbered vars cond n).1
  node_sound (layer.Do items cond) n = loop_over items.items n
  node_sound (layer.For decls begin cond onward items) n =
      let first = numbered_option cs vars begin (all_placed decls.items n).1 in
      let test = numbered vars cond first.1 in
      let k = (numbered_option cs vars onward test.1).1 in
      let body = loop_over items.items k in
      (all_sound decls.items n, body.0, body.1)
  node_sound (layer.Switch value sections) n = sections_sound sections.items (numbered vars value n).1
  node_sound layer.Break n = tt
  node_sound layer.Continue n = tt
  node_sound (layer.Return e) n = tt
  node_sound layer.Empty n = tt

  section_sound : (y : Section-F GoodNode GoodSection GoodStmt) (n : ℕ) → AllHaveBodies (section_over cs vars (placed_section (bare_section y)) n).body
  section_sound y n = all_sound y.body.items (labelled cs vars y.labels.items n).1

  -- ---- by induction

  node_layer : (y : TStmtNode-F GoodNode GoodSection GoodStmt) → IsNode (roll-TStmtNode (bare_node y))
  node_layer y n = subst (λ f. HasBodies (f n).0) (sym (fold-roll-TStmtNode Placed (ℕ → SectionAt) Placed (node_over cs vars) (section_over cs vars) (stmt_over cs vars) (bare_node y))) (node_sound y n)

  section_layer : (y : Section-F GoodNode GoodSection GoodStmt) → IsSection (roll-Section (bare_section y))
  section_layer y n = subst (λ f. AllHaveBodies (f n).body) (sym (fold-roll-Section Placed (ℕ → SectionAt) Placed (node_over cs vars) (section_over cs vars) (stmt_over cs vars) (bare_section y))) (section_sound y n)

  stmt_layer : (y : TStmt-F GoodNode GoodSection GoodStmt) → IsStmt (roll-TStmt (bare_stmt y))
  stmt_layer y n = subst (λ f. HasBodies (f n).0) (sym (fold-roll-TStmt Placed (ℕ → SectionAt) Placed (node_over cs vars) (section_over cs vars) (stmt_over cs vars) (bare_stmt y))) (y.node.1 n)

  stmt_has_bodies : (s : TStmt) → IsStmt s
  stmt_has_bodies = ind-TStmt IsNode IsSection IsStmt
      (λ x y is. subst (λ z. IsNode (roll-TStmtNode z)) is (node_layer y))
      (λ x y is. subst (λ z. IsSection (roll-Section z)) is (section_layer y))
      (λ x y is. subst (λ z. IsStmt (roll-TStmt z)) is (stmt_layer y))

-- each function's loops have bodies
pub functions_have_bodies : (cs : List ClType) (fs : List Function) → FunctionsHaveBodies (map (code_of cs) fs)
functions_have_bodies cs [] = tt
functions_have_bodies cs (f ∷ fs) = (stmt_has_bodies cs f.vars f.body 0, functions_have_bodies cs fs)
