-- A reader of statements.
use Rattle.std.proofs.Common.{◌≡◌, ℕ, suc, zero, ◌+◌, Bool, true, false, if◌then◌else◌, List, [], ◌∷◌, ◌++◌, map, Option, Some, None, refl, sym, ap, ◌∙◌, append_assoc, arith}
use Rattle.clv_place.specs.declared.place.Place.{Place}
use Rattle.cl_ast.specs.declared.statement.Group.{Group}
use Rattle.cl_ast.specs.declared.statement.Stmt.{Stmt}
use Rattle.cl_ast.specs.declared.statement.StmtNode.{StmtNode}
use Rattle.cl_ast.specs.declared.statement.StmtNode.TheVariants as node
use Rattle.cl_grammar.specs.declared.lexeme.Lexeme.{Lexeme}
use Rattle.cl_grammar.specs.declared.terminal.Terminal.{Terminal}
use Rattle.cl_grammar.specs.declared.terminal.Terminal.TheVariants as t
use Rattle.cl_grammar.specs.Expressions.{IsA}
use Rattle.cl_grammar.specs.StatementTrees.{begins, IsStmt, BlockTree, block, ItemTrees, no_item, more_items, ItemTree, type_alone, declaration, statement, StmtTree, compound, empty, expression, only_if, if_else, while_loop, do_loop, for_loop, switch, break, continue, return, SectionTrees, no_section, more_sections}
use Rattle.cl_plain.specs.Plain.{Plain, Head, over, leaf, in_option, plain_expr, plain_label, plain_stmt, plain_stmt_node, plain_group}
use Rattle.cl_plain.specs.Plain as p
use Rattle.cl_plain.proofs.Reading.{Reads, first_is, is_close, begins_type}
use Rattle.cl_plain.proofs.ReadSteps.{and_then, skip, first_of, then_is, if_true, if_false, enough, reads_from, reads_with, first_apart}
use Rattle.cl_plain.proofs.PartBegins.{expr_first}
use Rattle.cl_plain.proofs.StatementBegins.{is_else, is_label_word, ends_items, begins_stmt, begins_no_item, stmt_first, stmt_no_type, item_first, no_end, not_first, items_no_else, labels_first, sections_end, apart_no_label}
use Rattle.cl_plain.proofs.ReadDeclarations.{stmt_of, read_maybe, maybe_reads, read_labels, labels_read, read_decl, type_reads, decl_reads, read_start, start_reads}
use Rattle.cl_plain.proofs.ReadExpressions.{read_expr, expr_reads, spec_begins}
use Rattle.cl_plain.proofs.PlainStatements.{stmt_is, block_node, expr_node, if_node, while_node, do_node, for_node, switch_node, break_node, continue_node, return_node, empty_node, group_is}
use Rattle.cl_plain.proofs.ReadMarks.{begins_expr, first_excludes}

-- ---- each kind of statement, by readers of its parts

abbrev pub One : Type 0
One = List Lexeme → Option (Plain × List Lexeme)

abbrev pub Several : Type 0
Several = List Lexeme → Option (List Plain × List Lexeme)

abbrev pub block_at : Several → One
block_at items [] = None
block_at items (l ∷ ls) = and_then (items ls) (λ ss rest. Some (stmt_of l.place (over p.block ss), skip rest))

abbrev pub if_at : One → ℕ → One
if_at arm n [] = None
if_at arm n (l ∷ ls) =
    and_then (read_expr n (skip ls)) (λ e rest.
    and_then (arm (skip rest)) (λ a more.
    if first_is is_else more then and_then (arm (skip more)) (λ b last. Some (stmt_of l.place (over p.choice (e ∷ a ∷ b ∷ [])), last)) else Some (stmt_of l.place (over p.choice (e ∷ a ∷ [])), more)))

abbrev pub while_at : One → ℕ → One
while_at body n [] = None
while_at body n (l ∷ ls) = and_then (read_expr n (skip ls)) (λ e rest. and_then (body (skip rest)) (λ a more. Some (stmt_of l.place (over p.while_loop (e ∷ a ∷ [])), more)))

abbrev pub do_at : One → ℕ → One
do_at body n [] = None
do_at body n (l ∷ ls) = and_then (body ls) (λ a rest. and_then (read_expr n (skip (skip rest))) (λ e more. Some (stmt_of l.place (over p.do_loop (e ∷ a ∷ [])), skip (skip more))))

abbrev pub for_at : One → ℕ → One
for_at body n [] = None
for_at body n (l ∷ ls) =
    and_then (read_start n (skip ls)) (λ start at_cond.
    and_then (read_maybe n at_cond) (λ cond rest.
    and_then (read_maybe n (skip rest)) (λ next more. and_then (body (skip more)) (λ a last. Some (stmt_of l.place (over p.for_loop (start.0 ∷ start.1 ∷ cond ∷ next ∷ a ∷ [])), last)))))

abbrev pub switch_at : Several → ℕ → One
switch_at sections n [] = None
switch_at sections n (l ∷ ls) = and_then (read_expr n (skip ls)) (λ e rest. and_then (sections (skip (skip rest))) (λ gs more. Some (stmt_of l.place (over p.switch (e ∷ gs)), skip more)))

abbrev pub word_at : Head → One
word_at head [] = None
word_at head (l ∷ ls) = Some (stmt_of l.place (leaf head), skip ls)

abbrev pub empty_at : One
empty_at [] = None
empty_at (l ∷ ls) = Some (stmt_of l.place (leaf p.empty), ls)

abbrev pub return_at : ℕ → One
return_at n [] = None
return_at n (l ∷ ls) = and_then (read_maybe n ls) (λ e rest. Some (stmt_of l.place (over p.return (e ∷ [])), skip rest))

abbrev pub expression_at : ℕ → One
expression_at n [] = None
expression_at n (l ∷ ls) = and_then (read_expr n (l ∷ ls)) (λ e rest. Some (stmt_of l.place (over p.evaluated (e ∷ [])), skip rest))

abbrev pub stmt_at : One → Several → Several → ℕ → Terminal → One
stmt_at stmt items sections n t.OpenBrace ls = block_at items ls
stmt_at stmt items sections n t.Semicolon ls = empty_at ls
stmt_at stmt items sections n t.If ls = if_at stmt n ls
stmt_at stmt items sections n t.While ls = while_at stmt n ls
stmt_at stmt items sections n t.Do ls = do_at stmt n ls
stmt_at stmt items sections n t.For ls = for_at stmt n ls
stmt_at stmt items sections n t.Switch ls = switch_at sections n ls
stmt_at stmt items sections n t.Break ls = word_at p.break ls
stmt_at stmt items sections n t.Continue ls = word_at p.continue ls
stmt_at stmt items sections n t.Return ls = return_at n ls
stmt_at stmt items sections n _ ls = expression_at n ls

abbrev pub item_at : One → One → One
item_at decl stmt ls = if first_is begins_type ls then decl ls else stmt ls

abbrev mutual
  pub read_stmt : ℕ → List Lexeme → Option (Plain × List Lexeme)
  read_stmt zero ls = None
  read_stmt (suc n) ls = stmt_at (read_stmt n) (read_items n) (read_sections n) n (first_of ls) ls

  -- up to what ends items
  pub read_items : ℕ → List Lexeme → Option (List Plain × List Lexeme)
  read_items zero ls = None
  read_items (suc n) ls = if first_is ends_items ls then Some ([], ls) else and_then (item_at (read_decl n) (read_stmt n) ls) (λ s rest. and_then (read_items n rest) (λ ss more. Some (s ∷ ss, more)))

  pub read_sections : ℕ → List Lexeme → Option (List Plain × List Lexeme)
  read_sections zero ls = None
  read_sections (suc n) ls =
      if first_is is_label_word ls then
      and_then (read_labels n ls) (λ labels rest. and_then (read_items n rest) (λ body more. and_then (read_sections n more) (λ gs last. Some (over p.group (over p.list labels ∷ body) ∷ gs, last))))
      else
      Some ([], ls)

abbrev pub read_item : ℕ → List Lexeme → Option (Plain × List Lexeme)
read_item n ls = item_at (read_decl n) (read_stmt n) ls

-- by the terminal at its head
at_head : (m : ℕ) (l : Lexeme) (ls : List Lexeme) (head : Terminal) → IsA head l → read_stmt (suc m) (l ∷ ls) ≡ stmt_at (read_stmt m) (read_items m) (read_sections m) m head (l ∷ ls)
at_head m l ls head is = ap (λ z. stmt_at (read_stmt m) (read_items m) (read_sections m) m z (l ∷ ls)) is

at_expression : (stmt : One) (items sections : Several) (n : ℕ) (head : Terminal) (ls : List Lexeme) → begins_expr head ≡ true → stmt_at stmt items sections n head ls ≡ expression_at n ls
at_expression stmt items sections n t.OpenBrace ls e = absurd (cc)
at_expression stmt items sections n t.Semicolon ls e = absurd (cc)
at_expression stmt items sections n t.If ls e = absurd (cc)
at_expression stmt items sections n t.While ls e = absurd (cc)
at_expression stmt items sections n t.Do ls e = absurd (cc)
at_expression stmt items sections n t.For ls e = absurd (cc)
at_expression stmt items sections n t.Switch ls e = absurd (cc)
at_expression stmt items sections n t.Break ls e = absurd (cc)
at_expression stmt items sections n t.Continue ls e = absurd (cc)
at_expression stmt items sections n t.Return ls e = absurd (cc)
at_expression stmt items sections n _ ls e = refl

-- what a statement says, from what its node says
says : (s : Stmt) (place : Place) (n : StmtNode) (m : Plain) → IsStmt s place n → plain_stmt_node n ≡ m → plain_stmt s ≡ stmt_of place m
says s place n m is e = stmt_is s place n is.at is.is ∙ ap (stmt_of place) e

no_open_if : (b : Bool) → b ≡ true → b ≡ false → ⊥
no_open_if b e k = cc

-- ---- statements

-- behind a statement with an open `if` stands no `else`
mutual
  pub stmt_reads : (open_if : Bool) (u : List Lexeme) (s : Stmt) → StmtTree open_if u s → (r : List Lexeme) → (open_if ≡ true → first_is is_else r ≡ false) → Reads read_stmt u r (plain_stmt s)
  stmt_reads _ _ _ (compound u s h) r k = block_reads u s h r
  stmt_reads _ _ _ (empty h s hh is) r k =
      let e = says s h.place node.Empty (leaf p.empty) is empty_node in
      reads_from read_stmt (h ∷ []) r _ 0 (λ m le. at_head m h r t.Semicolon hh ∙ ap (λ z. Some (z, r)) (sym e))
  stmt_reads _ _ _ (expression h _ _ e s he hh (begins l u) is) r k =
      let a = expr_reads (l ∷ u) e he (h ∷ r) (ap is_close hh) in
      let q = says s l.place (node.Expr e) (over p.evaluated (plain_expr e ∷ [])) is (expr_node e) in
      reads_from read_stmt ((l ∷ u) ++ h ∷ []) r _ a.steps (λ m le.
      ap (read_stmt (suc m)) (append_assoc (l ∷ u) (h ∷ []) r)
      ∙ (at_expression (read_stmt m) (read_items m) (read_sections m) m l.terminal ((l ∷ u) ++ h ∷ r) (expr_first (l ∷ u) e he (h ∷ r)) ∙ (then_is _ (enough a m le) ∙ ap (λ z. Some (z, r)) (sym q))))
  stmt_reads _ _ _ (only_if f i o c u v e a arms s hi ho he hc ha are is) r k =
      let x = expr_reads u e he (c ∷ (v ++ r)) (ap is_close hc) in
      let y = stmt_reads f v a ha r (λ z. k refl) in
      let q = says s i.place (node.If e arms) (over p.choice (plain_expr e ∷ plain_stmt a ∷ [])) is (if_node e arms ∙ ap (λ z. over p.choice (plain_expr e ∷ map plain_stmt z)) are) in
      reads_from read_stmt (i ∷ o ∷ (u ++ c ∷ v)) r _ (x.steps + y.steps) (λ m le.
      ap (λ z. read_stmt (suc m) (i ∷ o ∷ z)) (append_assoc u (c ∷ v) r)
      ∙ (at_head m i (o ∷ (u ++ c ∷ (v ++ r))) t.If hi ∙ (then_is _ (enough x m (omega arith)) ∙ (then_is _ (enough y m (omega arith)) ∙ (if_false _ (k refl) ∙ ap (λ z. Some (z, r)) (sym q))))))
  stmt_reads _ _ _ (if_else f i o c h u v w e a b arms s hi ho he hc ha hh hb are is) r k =
      let x = expr_reads u e he (c ∷ (v ++ h ∷ (w ++ r))) (ap is_close hc) in
      let y = stmt_reads false v a ha (h ∷ (w ++ r)) (λ z. absurd (no_open_if false z refl)) in
      let y2 = stmt_reads f w b hb r k in
      let q = says s i.place (node.If e arms) (over p.choice (plain_expr e ∷ plain_stmt a ∷ plain_stmt b ∷ [])) is (if_node e arms ∙ ap (λ z. over p.choice (plain_expr e ∷ map plain_stmt z)) are) in
      reads_from read_stmt (i ∷ o ∷ (u ++ c ∷ (v ++ h ∷ w))) r _ (x.steps + (y.steps + y2.steps)) (λ m le.
      ap (λ z. read_stmt (suc m) (i ∷ o ∷ z)) (append_assoc u (c ∷ (v ++ h ∷ w)) r ∙ ap (λ z. u ++ c ∷ z) (append_assoc v (h ∷ w) r))
      ∙ (at_head m i (o ∷ (u ++ c ∷ (v ++ h ∷ (w ++ r)))) t.If hi
      ∙ (then_is _ (enough x m (omega arith)) ∙ (then_is _ (enough y m (omega arith)) ∙ (if_true _ (ap is_else hh) ∙ (then_is _ (enough y2 m (omega arith)) ∙ ap (λ z. Some (z, r)) (sym q)))))))
  stmt_reads _ _ _ (while_loop f h o c u v e a body s hh ho he hc ha are is) r k =
      let x = expr_reads u e he (c ∷ (v ++ r)) (ap is_close hc) in
      let y = stmt_reads f v a ha r k in
      let q = says s h.place (node.While e body) (over p.while_loop (plain_expr e ∷ plain_stmt a ∷ [])) is (while_node e body ∙ ap (λ z. over p.while_loop (plain_expr e ∷ map plain_stmt z)) are) in
      reads_from read_stmt (h ∷ o ∷ (u ++ c ∷ v)) r _ (x.steps + y.steps) (λ m le.
      ap (λ z. read_stmt (suc m) (h ∷ o ∷ z)) (append_assoc u (c ∷ v) r)
      ∙ (at_head m h (o ∷ (u ++ c ∷ (v ++ r))) t.While hh ∙ (then_is _ (enough x m (omega arith)) ∙ (then_is _ (enough y m (omega arith)) ∙ ap (λ z. Some (z, r)) (sym q)))))
  stmt_reads _ _ _ (do_loop f d h o c j u v e a body s hd ha hh ho he hc hj are is) r k =
      let x = stmt_reads f u a ha (h ∷ o ∷ (v ++ c ∷ j ∷ r)) (λ z. ap is_else hh) in
      let y = expr_reads v e he (c ∷ j ∷ r) (ap is_close hc) in
      let q = says s d.place (node.Do body e) (over p.do_loop (plain_expr e ∷ plain_stmt a ∷ [])) is (do_node body e ∙ ap (λ z. over p.do_loop (plain_expr e ∷ map plain_stmt z)) are) in
      reads_from read_stmt (d ∷ (u ++ h ∷ o ∷ (v ++ c ∷ j ∷ []))) r _ (x.steps + y.steps) (λ m le.
      ap (λ z. read_stmt (suc m) (d ∷ z)) (append_assoc u (h ∷ o ∷ (v ++ c ∷ j ∷ [])) r ∙ ap (λ z. u ++ h ∷ o ∷ z) (append_assoc v (c ∷ j ∷ []) r))
      ∙ (at_head m d (u ++ h ∷ o ∷ (v ++ c ∷ j ∷ r)) t.Do hd ∙ (then_is _ (enough x m (omega arith)) ∙ (then_is _ (enough y m (omega arith)) ∙ ap (λ z. Some (z, r)) (sym q)))))
  stmt_reads _ _ _ (for_loop f g o h c u v w x decl body first cond next a s hg ho hu hv hh hw hc ha are is) r k =
      let x1 = start_reads u decl.items first hu (v ++ h ∷ (w ++ c ∷ (x ++ r))) in
      let x2 = maybe_reads v cond hv (h ∷ (w ++ c ∷ (x ++ r))) (ap is_close hh) in
      let x3 = maybe_reads w next hw (c ∷ (x ++ r)) (ap is_close hc) in
      let x4 = stmt_reads f x a ha r k in
      let q = says s g.place (node.For decl first cond next body) (over p.for_loop (over p.list (map plain_stmt decl.items) ∷ in_option plain_expr first ∷ in_option plain_expr cond ∷ in_option plain_expr next ∷ plain_stmt a ∷ [])) is
      (for_node decl first cond next body ∙ ap (λ z. over p.for_loop (over p.list (map plain_stmt decl.items) ∷ in_option plain_expr first ∷ in_option plain_expr cond ∷ in_option plain_expr next ∷ map plain_stmt z)) are) in
      reads_from read_stmt (g ∷ o ∷ (u ++ (v ++ h ∷ (w ++ c ∷ x)))) r _ (x1.steps + (x2.steps + (x3.steps + x4.steps))) (λ m le.
      ap (λ z. read_stmt (suc m) (g ∷ o ∷ z)) (append_assoc u (v ++ h ∷ (w ++ c ∷ x)) r ∙ (ap (λ z. u ++ z) (append_assoc v (h ∷ (w ++ c ∷ x)) r) ∙ ap (λ z. u ++ (v ++ h ∷ z)) (append_assoc w (c ∷ x) r)))
      ∙ (at_head m g (o ∷ (u ++ (v ++ h ∷ (w ++ c ∷ (x ++ r))))) t.For hg
      ∙ (then_is _ (enough x1 m (omega arith)) ∙ (then_is _ (enough x2 m (omega arith)) ∙ (then_is _ (enough x3 m (omega arith)) ∙ (then_is _ (enough x4 m (omega arith)) ∙ ap (λ z. Some (z, r)) (sym q)))))))
  stmt_reads _ _ _ (switch h o c b d u v e gs s hh ho he hc hb hs hd is) r k =
      let x = expr_reads u e he (c ∷ b ∷ (v ++ d ∷ r)) (ap is_close hc) in
      let y = sections_read v gs.items hs d r hd in
      let q = says s h.place (node.Switch e gs) (over p.switch (plain_expr e ∷ map plain_group gs.items)) is (switch_node e gs) in
      reads_from read_stmt (h ∷ o ∷ (u ++ c ∷ b ∷ (v ++ d ∷ []))) r _ (x.steps + y.steps) (λ m le.
      ap (λ z. read_stmt (suc m) (h ∷ o ∷ z)) (append_assoc u (c ∷ b ∷ (v ++ d ∷ [])) r ∙ ap (λ z. u ++ c ∷ b ∷ z) (append_assoc v (d ∷ []) r))
      ∙ (at_head m h (o ∷ (u ++ c ∷ b ∷ (v ++ d ∷ r))) t.Switch hh ∙ (then_is _ (enough x m (omega arith)) ∙ (then_is _ (enough y m (omega arith)) ∙ ap (λ z. Some (z, r)) (sym q)))))
  stmt_reads _ _ _ (break h j s hh hj is) r k =
      let e = says s h.place node.Break (leaf p.break) is break_node in
      reads_from read_stmt (h ∷ j ∷ []) r _ 0 (λ m le. at_head m h (j ∷ r) t.Break hh ∙ ap (λ z. Some (z, r)) (sym e))
  stmt_reads _ _ _ (continue h j s hh hj is) r k =
      let e = says s h.place node.Continue (leaf p.continue) is continue_node in
      reads_from read_stmt (h ∷ j ∷ []) r _ 0 (λ m le. at_head m h (j ∷ r) t.Continue hh ∙ ap (λ z. Some (z, r)) (sym e))
  stmt_reads _ _ _ (return h j u e s hh he hj is) r k =
      let x = maybe_reads u e he (j ∷ r) (ap is_close hj) in
      let q = says s h.place (node.Return e) (over p.return (in_option plain_expr e ∷ [])) is (return_node e) in
      reads_from read_stmt (h ∷ (u ++ j ∷ [])) r _ x.steps (λ m le.
      ap (λ z. read_stmt (suc m) (h ∷ z)) (append_assoc u (j ∷ []) r) ∙ (at_head m h (u ++ j ∷ r) t.Return hh ∙ (then_is _ (enough x m le) ∙ ap (λ z. Some (z, r)) (sym q))))

  pub block_reads : (u : List Lexeme) (s : Stmt) → BlockTree u s → (r : List Lexeme) → Reads read_stmt u r (plain_stmt s)
  block_reads _ _ (block o c u items s ho h hc is) r =
      let x = items_read u items.items h (c ∷ r) (ap ends_items hc) in
      let q = says s o.place (node.Block items) (over p.block (map plain_stmt items.items)) is (block_node items) in
      reads_from read_stmt (o ∷ (u ++ c ∷ [])) r _ x.steps (λ m le.
      ap (λ z. read_stmt (suc m) (o ∷ z)) (append_assoc u (c ∷ []) r) ∙ (at_head m o (u ++ c ∷ r) t.OpenBrace ho ∙ (then_is _ (enough x m le) ∙ ap (λ z. Some (z, r)) (sym q))))

  pub items_read : (u : List Lexeme) (ss : List Stmt) → ItemTrees u ss → (r : List Lexeme) → first_is ends_items r ≡ true → Reads read_items u r (map plain_stmt ss)
  items_read _ _ no_item r k = reads_from read_items [] r _ 0 (λ m le. if_true _ k)
  items_read _ _ (more_items u v s ss h hs) r k =
      let x = item_reads u s h (v ++ r) (items_no_else v ss hs r k) in
      let y = items_read v ss hs r k in
      reads_from read_items (u ++ v) r _ (x.steps + y.steps) (λ m le.
      ap (read_items (suc m)) (append_assoc u v r)
      ∙ (if_false _ (not_first begins_no_item ends_items no_end (u ++ (v ++ r)) (item_first u s h (v ++ r))) ∙ (then_is _ (enough x m (omega arith)) ∙ then_is _ (enough y m (omega arith)))))

  pub item_reads : (u : List Lexeme) (s : Stmt) → ItemTree u s → (r : List Lexeme) → first_is is_else r ≡ false → Reads read_item u r (plain_stmt s)
  item_reads _ _ (type_alone h u place spec items s k hh b bare is) r e =
      let x = type_reads h u place spec items s k hh b bare is r in
      reads_with read_item (u ++ h ∷ []) r _ x.steps (λ m le. if_true _ (first_apart begins_type u (h ∷ []) r (spec_begins u spec k (h ∷ r))) ∙ enough x m le)
  item_reads _ _ (declaration h u v place spec items s k ks hh b is) r e =
      let x = decl_reads h u v place spec items s k ks hh b is r in
      reads_with read_item (u ++ (v ++ h ∷ [])) r _ x.steps (λ m le. if_true _ (first_apart begins_type u (v ++ h ∷ []) r (spec_begins u spec k ((v ++ h ∷ []) ++ r))) ∙ enough x m le)
  item_reads _ _ (statement f u s h) r e =
      let x = stmt_reads f u s h r (λ z. e) in
      reads_with read_item u r _ x.steps (λ m le. if_false _ (first_excludes begins_stmt begins_type stmt_no_type (u ++ r) (stmt_first f u s h r)) ∙ enough x m le)

  pub sections_read : (u : List Lexeme) (gs : List Group) → SectionTrees u gs → (c : Lexeme) (r : List Lexeme) → IsA t.CloseBrace c → Reads read_sections u (c ∷ r) (map plain_group gs)
  sections_read _ _ no_section c r hc = reads_from read_sections [] (c ∷ r) _ 0 (λ m le. if_false _ (ap is_label_word hc))
  sections_read _ _ (more_sections u v w labels body g gs h hb hs apart is) c r hc =
      let x = labels_read u labels h (v ++ (w ++ c ∷ r)) (apart_no_label v w body gs hb hs apart c r hc) in
      let y = items_read v body hb (w ++ c ∷ r) (sections_end w gs hs c r hc) in
      let y2 = sections_read w gs hs c r hc in
      let q = group_is g labels body is.under is.has in
      reads_from read_sections (u ++ (v ++ w)) (c ∷ r) _ (x.steps + (y.steps + y2.steps)) (λ m le.
      ap (read_sections (suc m)) (append_assoc u (v ++ w) (c ∷ r) ∙ ap (λ z. u ++ z) (append_assoc v w (c ∷ r)))
      ∙ (if_true _ (labels_first u labels h (v ++ (w ++ c ∷ r)))
      ∙ (then_is _ (enough x m (omega arith)) ∙ (then_is _ (enough y m (omega arith)) ∙ (then_is _ (enough y2 m (omega arith)) ∙ ap (λ z. Some (z ∷ map plain_group gs, c ∷ r)) (sym q))))))
