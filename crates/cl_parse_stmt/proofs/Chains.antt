-- The readings of functions that read one part after another: what they have read, and what refuses it.
use Rattle.std.proofs.Common.{◌≡◌, ℕ, ◌+◌, true, false, List, [], ◌∷◌, ◌++◌, refl, sym, subst, arith}
use Rattle.std.specs.Prelude.{Option, Some, None}
use Rattle.std.specs.Global.{Vec}
use Rattle.cl_ast.specs.declared.expression.Expr.{Expr}
use Rattle.cl_ast.specs.declared.expression.Spec.{Spec}
use Rattle.cl_ast.specs.declared.declaration.Init.{Init}
use Rattle.cl_ast.specs.declared.declaration.Init.TheVariants as init
use Rattle.cl_ast.specs.declared.declaration.InitDeclor.{InitDeclor}
use Rattle.cl_ast.specs.declared.statement.Stmt.{Stmt}
use Rattle.cl_ast.specs.declared.statement.Group.{Group}
use Rattle.cl_ast.specs.declared.statement.Label.{Label}
use Rattle.cl_ast.specs.declared.statement.StmtNode.TheVariants as node
use Rattle.clv_place.specs.declared.place.Place.{Place}
use Rattle.cl_grammar.specs.declared.lexeme.Lexeme.{Lexeme}
use Rattle.cl_grammar.specs.declared.terminal.Terminal.{Terminal}
use Rattle.cl_grammar.specs.declared.terminal.Terminal.TheVariants as t
use Rattle.cl_grammar.specs.declared.stop.ExprStop.{ExprStop}
use Rattle.cl_grammar.specs.Symbols as e
use Rattle.cl_grammar.specs.Symbols.{Mark, E, S}
use Rattle.cl_grammar.specs.StatementSymbols as x
use Rattle.cl_grammar.specs.ExpressionTrees.{ExprTree, AssignTree, CondTree, SpecTree}
use Rattle.cl_grammar.specs.StatementTrees as s
use Rattle.cl_grammar.specs.StatementTrees.{InitTree, InitDeclorTrees, LabelTree, BlockTree, ItemTree, StmtTree, IsStmt}
use Rattle.cl_grammar.specs.Items.{between, EndsIn, IsAt, PlaceAt, ReadAt, RefusedAt}
use Rattle.cl_grammar.proofs.TerminalKinds.{kind}
use Rattle.cl_grammar.proofs.Predicted.{keeps_mark, keeps_part}
use Rattle.cl_grammar.proofs.Places.{then, done, goes}
use Rattle.cl_grammar.proofs.StatementPredicted.{stmt_picks, keeps_stmt}
use Rattle.cl_grammar.proofs.StatementPlaces.{stmt_starts, then_stmt, stops_next}
use Rattle.cl_parse_stmt.specs.declared.clause.ForHead.{ForHead}
use Rattle.cl_parse_stmt.specs.Readings as r
use Rattle.cl_parse_stmt.specs.Readings.{Has, HasStmt, HasItems, HasSections, BracketsTree, ClauseTree, NamesTree, DeclaresTree, ForHeadTree}
use Rattle.cl_parse_stmt.proofs.TreeParts.{while_tree, for_tree, do_tree, switch_tree, return_tree, empty_tree, expression_tree, item_tree}
use Rattle.cl_parse_stmt.proofs.Moves.{then_expect, reads_some, tokens_mark, tokens_end, tokens_part, place_of, begins_there}

-- ---- brackets

pub brackets_stop_0 : (ts : List Lexeme) → (at : ℕ) → EndsIn ts → (k : Terminal) → IsAt ts at k → (stop : ExprStop) → RefusedAt (Mark t.OpenParen) ts at stop → RefusedAt (S x.Bracketed) ts at stop
brackets_stop_0 ts at ends k b stop h = stops_next (S x.Bracketed) (Mark t.OpenParen) (E e.Assigns ∷ Mark t.CloseParen ∷ []) ts at at stop (keeps_mark (S x.Bracketed) (t.OpenParen) (E e.Assigns ∷ Mark t.CloseParen ∷ [])) (stmt_starts x.Bracketed 0 ts at k b refl) h refl

pub brackets_stop_1 : (ts : List Lexeme) → (at : ℕ) → EndsIn ts → (k : Terminal) → IsAt ts at k → (p1 : ℕ) → IsAt ts at t.OpenParen → p1 ≡ at + 1 → (stop : ExprStop) → RefusedAt (E e.Assigns) ts p1 stop → RefusedAt (S x.Bracketed) ts at stop
brackets_stop_1 ts at ends k b p1 s0 e0 stop h = stops_next (S x.Bracketed) (E e.Assigns) (Mark t.CloseParen ∷ []) ts at p1 stop (keeps_part (S x.Bracketed) e.Assigns (Mark t.CloseParen ∷ []) refl) (then_expect (S x.Bracketed) (t.OpenParen) (E e.Assigns ∷ Mark t.CloseParen ∷ []) ts at at p1 ends (stmt_starts x.Bracketed 0 ts at k b refl) s0 e0 refl) h refl

pub brackets_stop_2 : (ts : List Lexeme) → (at : ℕ) → EndsIn ts → (k : Terminal) → IsAt ts at k → (p1 : ℕ) → IsAt ts at t.OpenParen → p1 ≡ at + 1 → (p2 : ℕ) → (v1 : Expr) → ReadAt (E e.Assigns) ts p1 p2 → ExprTree (between ts p1 p2) v1 → (stop : ExprStop) → RefusedAt (Mark t.CloseParen) ts p2 stop → RefusedAt (S x.Bracketed) ts at stop
brackets_stop_2 ts at ends k b p1 s0 e0 p2 v1 r1 t1 stop h = stops_next (S x.Bracketed) (Mark t.CloseParen) [] ts at p2 stop (keeps_mark (S x.Bracketed) (t.CloseParen) []) (then (S x.Bracketed) e.Assigns (Mark t.CloseParen ∷ []) ts at p1 p2 (then_expect (S x.Bracketed) (t.OpenParen) (E e.Assigns ∷ Mark t.CloseParen ∷ []) ts at at p1 ends (stmt_starts x.Bracketed 0 ts at k b refl) s0 e0 refl) r1 refl) h refl

pub brackets_ok : (ts : List Lexeme) → (at : ℕ) → EndsIn ts → (k : Terminal) → IsAt ts at k → (p1 : ℕ) → IsAt ts at t.OpenParen → p1 ≡ at + 1 → (p2 : ℕ) → (v1 : Expr) → ReadAt (E e.Assigns) ts p1 p2 → ExprTree (between ts p1 p2) v1 → (p3 : ℕ) → IsAt ts p2 t.CloseParen → p3 ≡ p2 + 1 → Has BracketsTree (S x.Bracketed) ts at p3 v1
brackets_ok ts at ends k b p1 s0 e0 p2 v1 r1 t1 p3 s2 e2 = record { forth = let f1 = reads_some (E e.Assigns) ts p1 p2 refl r1 in omega arith; read = done (S x.Bracketed) ts at p3 (then_expect (S x.Bracketed) (t.CloseParen) [] ts at p2 p3 ends (then (S x.Bracketed) e.Assigns (Mark t.CloseParen ∷ []) ts at p1 p2 (then_expect (S x.Bracketed) (t.OpenParen) (E e.Assigns ∷ Mark t.CloseParen ∷ []) ts at at p1 ends (stmt_starts x.Bracketed 0 ts at k b refl) s0 e0 refl) r1 refl) s2 e2 refl); tree = let f1 = reads_some (E e.Assigns) ts p1 p2 refl r1 in (tokens_mark (λ z. BracketsTree z v1) ts at p1 p3 s0.token s0.stands e0 (omega arith) (tokens_part (λ z. BracketsTree (s0.token ∷ z) v1) ts p1 p2 p3 (omega arith) (omega arith) (tokens_end (λ z. BracketsTree (s0.token ∷ (between ts p1 p2 ++ z)) v1) ts p2 p3 s2.token s2.stands e2 (r.brackets s0.token s2.token (between ts p1 p2) v1 s0.is t1 s2.is)))) }

-- ---- value

pub value_stop_0 : (ts : List Lexeme) → (at : ℕ) → EndsIn ts → (k : Terminal) → IsAt ts at k → stmt_picks x.Init 1 (kind k) ≡ true → (stop : ExprStop) → RefusedAt (E e.Assign) ts at stop → RefusedAt (S x.Init) ts at stop
value_stop_0 ts at ends k b hh stop h = stops_next (S x.Init) (E e.Assign) [] ts at at stop (keeps_part (S x.Init) e.Assign [] refl) (stmt_starts x.Init 1 ts at k b hh) h refl

pub value_ok : (ts : List Lexeme) → (at : ℕ) → EndsIn ts → (k : Terminal) → IsAt ts at k → stmt_picks x.Init 1 (kind k) ≡ true → (p1 : ℕ) → (v0 : Expr) → ReadAt (E e.Assign) ts at p1 → AssignTree (between ts at p1) v0 → Has InitTree (S x.Init) ts at p1 (init.Value v0)
value_ok ts at ends k b hh p1 v0 r0 t0 = record { forth = let f0 = reads_some (E e.Assign) ts at p1 refl r0 in omega arith; read = done (S x.Init) ts at p1 (then (S x.Init) e.Assign [] ts at at p1 (stmt_starts x.Init 1 ts at k b hh) r0 refl); tree = let f0 = reads_some (E e.Assign) ts at p1 refl r0 in (s.value (between ts at p1) v0 t0) }

-- ---- declaration

pub declaration_stop_0 : (ts : List Lexeme) → (at : ℕ) → EndsIn ts → (k : Terminal) → IsAt ts at k → stmt_picks x.Item 0 (kind k) ≡ true → (stop : ExprStop) → RefusedAt (E e.AnySpec) ts at stop → RefusedAt (S x.Item) ts at stop
declaration_stop_0 ts at ends k b hh stop h = stops_next (S x.Item) (E e.AnySpec) (S x.BehindSpec ∷ []) ts at at stop (keeps_part (S x.Item) e.AnySpec (S x.BehindSpec ∷ []) refl) (stmt_starts x.Item 0 ts at k b hh) h refl

pub declaration_stop_1 : (ts : List Lexeme) → (at : ℕ) → EndsIn ts → (k : Terminal) → IsAt ts at k → stmt_picks x.Item 0 (kind k) ≡ true → (p1 : ℕ) → (v0 : Spec) → ReadAt (E e.AnySpec) ts at p1 → SpecTree (between ts at p1) v0 → (stop : ExprStop) → RefusedAt (S x.BehindSpec) ts p1 stop → RefusedAt (S x.Item) ts at stop
declaration_stop_1 ts at ends k b hh p1 v0 r0 t0 stop h = stops_next (S x.Item) (S x.BehindSpec) [] ts at p1 stop (keeps_stmt x.Item x.BehindSpec [] refl refl) (then (S x.Item) e.AnySpec (S x.BehindSpec ∷ []) ts at at p1 (stmt_starts x.Item 0 ts at k b hh) r0 refl) h refl

pub declaration_ok : (ts : List Lexeme) → (at : ℕ) → EndsIn ts → (k : Terminal) → IsAt ts at k → stmt_picks x.Item 0 (kind k) ≡ true → (p1 : ℕ) → (v0 : Spec) → ReadAt (E e.AnySpec) ts at p1 → SpecTree (between ts at p1) v0 → (p2 : ℕ) → (v1 : Vec InitDeclor) → Has NamesTree (S x.BehindSpec) ts p1 p2 (v1.items) → (w : Stmt) → (place : Place) → PlaceAt ts at place → IsStmt w place (node.Decl v0 v1) → Has ItemTree (S x.Item) ts at p2 w
declaration_ok ts at ends k b hh p1 v0 r0 t0 p2 v1 h1 w place there is = record { forth = let f0 = reads_some (E e.AnySpec) ts at p1 refl r0 in let f1 = h1.forth in omega arith; read = done (S x.Item) ts at p2 (then_stmt (S x.Item) x.BehindSpec [] ts at p1 p2 (keeps_stmt x.Item x.BehindSpec [] refl refl) (then (S x.Item) e.AnySpec (S x.BehindSpec ∷ []) ts at at p1 (stmt_starts x.Item 0 ts at k b hh) r0 refl) h1.read); tree = let f0 = reads_some (E e.AnySpec) ts at p1 refl r0 in let f1 = h1.forth in (tokens_part (λ z. ItemTree z w) ts at p1 p2 (omega arith) (omega arith) (item_tree (between ts at p1) (between ts p1 p2) place v0 v1 v1.items w refl t0 h1.tree (begins_there ts at p1 place there f0) is)) }

-- ---- names

pub names_stop_0 : (ts : List Lexeme) → (at : ℕ) → EndsIn ts → (k : Terminal) → IsAt ts at k → stmt_picks x.BehindSpec 1 (kind k) ≡ true → (stop : ExprStop) → RefusedAt (S x.InitDeclors) ts at stop → RefusedAt (S x.BehindSpec) ts at stop
names_stop_0 ts at ends k b hh stop h = stops_next (S x.BehindSpec) (S x.InitDeclors) (Mark t.Semicolon ∷ []) ts at at stop (keeps_stmt x.BehindSpec x.InitDeclors (Mark t.Semicolon ∷ []) refl refl) (stmt_starts x.BehindSpec 1 ts at k b hh) h refl

pub names_stop_1 : (ts : List Lexeme) → (at : ℕ) → EndsIn ts → (k : Terminal) → IsAt ts at k → stmt_picks x.BehindSpec 1 (kind k) ≡ true → (p1 : ℕ) → (v0 : List InitDeclor) → Has InitDeclorTrees (S x.InitDeclors) ts at p1 v0 → (stop : ExprStop) → RefusedAt (Mark t.Semicolon) ts p1 stop → RefusedAt (S x.BehindSpec) ts at stop
names_stop_1 ts at ends k b hh p1 v0 h0 stop h = stops_next (S x.BehindSpec) (Mark t.Semicolon) [] ts at p1 stop (keeps_mark (S x.BehindSpec) (t.Semicolon) []) (then_stmt (S x.BehindSpec) x.InitDeclors (Mark t.Semicolon ∷ []) ts at at p1 (keeps_stmt x.BehindSpec x.InitDeclors (Mark t.Semicolon ∷ []) refl refl) (stmt_starts x.BehindSpec 1 ts at k b hh) h0.read) h refl

pub names_ok : (ts : List Lexeme) → (at : ℕ) → EndsIn ts → (k : Terminal) → IsAt ts at k → stmt_picks x.BehindSpec 1 (kind k) ≡ true → (p1 : ℕ) → (v0 : List InitDeclor) → Has InitDeclorTrees (S x.InitDeclors) ts at p1 v0 → (p2 : ℕ) → IsAt ts p1 t.Semicolon → p2 ≡ p1 + 1 → Has NamesTree (S x.BehindSpec) ts at p2 v0
names_ok ts at ends k b hh p1 v0 h0 p2 s1 e1 = record { forth = let f0 = h0.forth in omega arith; read = done (S x.BehindSpec) ts at p2 (then_expect (S x.BehindSpec) (t.Semicolon) [] ts at p1 p2 ends (then_stmt (S x.BehindSpec) x.InitDeclors (Mark t.Semicolon ∷ []) ts at at p1 (keeps_stmt x.BehindSpec x.InitDeclors (Mark t.Semicolon ∷ []) refl refl) (stmt_starts x.BehindSpec 1 ts at k b hh) h0.read) s1 e1 refl); tree = let f0 = h0.forth in (tokens_part (λ z. NamesTree z v0) ts at p1 p2 (omega arith) (omega arith) (tokens_end (λ z. NamesTree (between ts at p1 ++ z) v0) ts p1 p2 s1.token s1.stands e1 (r.names s1.token (between ts at p1) v0 h0.tree s1.is))) }

-- ---- no_names

pub no_names_stop_0 : (ts : List Lexeme) → (at : ℕ) → EndsIn ts → (k : Terminal) → IsAt ts at k → stmt_picks x.BehindSpec 0 (kind k) ≡ true → (stop : ExprStop) → RefusedAt (Mark t.Semicolon) ts at stop → RefusedAt (S x.BehindSpec) ts at stop
no_names_stop_0 ts at ends k b hh stop h = stops_next (S x.BehindSpec) (Mark t.Semicolon) [] ts at at stop (keeps_mark (S x.BehindSpec) (t.Semicolon) []) (stmt_starts x.BehindSpec 0 ts at k b hh) h refl

pub no_names_ok : (ts : List Lexeme) → (at : ℕ) → EndsIn ts → (k : Terminal) → IsAt ts at k → stmt_picks x.BehindSpec 0 (kind k) ≡ true → (p1 : ℕ) → IsAt ts at t.Semicolon → p1 ≡ at + 1 → Has NamesTree (S x.BehindSpec) ts at p1 []
no_names_ok ts at ends k b hh p1 s0 e0 = record { forth = omega arith; read = done (S x.BehindSpec) ts at p1 (then_expect (S x.BehindSpec) (t.Semicolon) [] ts at at p1 ends (stmt_starts x.BehindSpec 0 ts at k b hh) s0 e0 refl); tree = (tokens_end (λ z. NamesTree z []) ts at p1 s0.token s0.stands e0 (r.no_name s0.token s0.is)) }

-- ---- declares

pub declares_stop_0 : (ts : List Lexeme) → (at : ℕ) → EndsIn ts → (k : Terminal) → IsAt ts at k → stmt_picks x.ForStart 0 (kind k) ≡ true → (stop : ExprStop) → RefusedAt (E e.AnySpec) ts at stop → RefusedAt (S x.ForStart) ts at stop
declares_stop_0 ts at ends k b hh stop h = stops_next (S x.ForStart) (E e.AnySpec) (S x.InitDeclors ∷ Mark t.Semicolon ∷ []) ts at at stop (keeps_part (S x.ForStart) e.AnySpec (S x.InitDeclors ∷ Mark t.Semicolon ∷ []) refl) (stmt_starts x.ForStart 0 ts at k b hh) h refl

pub declares_stop_1 : (ts : List Lexeme) → (at : ℕ) → EndsIn ts → (k : Terminal) → IsAt ts at k → stmt_picks x.ForStart 0 (kind k) ≡ true → (p1 : ℕ) → (v0 : Spec) → ReadAt (E e.AnySpec) ts at p1 → SpecTree (between ts at p1) v0 → (stop : ExprStop) → RefusedAt (S x.InitDeclors) ts p1 stop → RefusedAt (S x.ForStart) ts at stop
declares_stop_1 ts at ends k b hh p1 v0 r0 t0 stop h = stops_next (S x.ForStart) (S x.InitDeclors) (Mark t.Semicolon ∷ []) ts at p1 stop (keeps_stmt x.ForStart x.InitDeclors (Mark t.Semicolon ∷ []) refl refl) (then (S x.ForStart) e.AnySpec (S x.InitDeclors ∷ Mark t.Semicolon ∷ []) ts at at p1 (stmt_starts x.ForStart 0 ts at k b hh) r0 refl) h refl

pub declares_stop_2 : (ts : List Lexeme) → (at : ℕ) → EndsIn ts → (k : Terminal) → IsAt ts at k → stmt_picks x.ForStart 0 (kind k) ≡ true → (p1 : ℕ) → (v0 : Spec) → ReadAt (E e.AnySpec) ts at p1 → SpecTree (between ts at p1) v0 → (p2 : ℕ) → (v1 : Vec InitDeclor) → Has InitDeclorTrees (S x.InitDeclors) ts p1 p2 (v1.items) → (stop : ExprStop) → RefusedAt (Mark t.Semicolon) ts p2 stop → RefusedAt (S x.ForStart) ts at stop
declares_stop_2 ts at ends k b hh p1 v0 r0 t0 p2 v1 h1 stop h = stops_next (S x.ForStart) (Mark t.Semicolon) [] ts at p2 stop (keeps_mark (S x.ForStart) (t.Semicolon) []) (then_stmt (S x.ForStart) x.InitDeclors (Mark t.Semicolon ∷ []) ts at p1 p2 (keeps_stmt x.ForStart x.InitDeclors (Mark t.Semicolon ∷ []) refl refl) (then (S x.ForStart) e.AnySpec (S x.InitDeclors ∷ Mark t.Semicolon ∷ []) ts at at p1 (stmt_starts x.ForStart 0 ts at k b hh) r0 refl) h1.read) h refl

pub declares_ok : (ts : List Lexeme) → (at : ℕ) → EndsIn ts → (k : Terminal) → IsAt ts at k → stmt_picks x.ForStart 0 (kind k) ≡ true → (p1 : ℕ) → (v0 : Spec) → ReadAt (E e.AnySpec) ts at p1 → SpecTree (between ts at p1) v0 → (p2 : ℕ) → (v1 : Vec InitDeclor) → Has InitDeclorTrees (S x.InitDeclors) ts p1 p2 (v1.items) → (p3 : ℕ) → IsAt ts p2 t.Semicolon → p3 ≡ p2 + 1 → (w : Stmt) → (place : Place) → PlaceAt ts at place → IsStmt w place (node.Decl v0 v1) → Has DeclaresTree (S x.ForStart) ts at p3 w
declares_ok ts at ends k b hh p1 v0 r0 t0 p2 v1 h1 p3 s2 e2 w place there is = record { forth = let f0 = reads_some (E e.AnySpec) ts at p1 refl r0 in let f1 = h1.forth in omega arith; read = done (S x.ForStart) ts at p3 (then_expect (S x.ForStart) (t.Semicolon) [] ts at p2 p3 ends (then_stmt (S x.ForStart) x.InitDeclors (Mark t.Semicolon ∷ []) ts at p1 p2 (keeps_stmt x.ForStart x.InitDeclors (Mark t.Semicolon ∷ []) refl refl) (then (S x.ForStart) e.AnySpec (S x.InitDeclors ∷ Mark t.Semicolon ∷ []) ts at at p1 (stmt_starts x.ForStart 0 ts at k b hh) r0 refl) h1.read) s2 e2 refl); tree = let f0 = reads_some (E e.AnySpec) ts at p1 refl r0 in let f1 = h1.forth in (tokens_part (λ z. DeclaresTree z w) ts at p1 p3 (omega arith) (omega arith) (tokens_part (λ z. DeclaresTree (between ts at p1 ++ z) w) ts p1 p2 p3 (omega arith) (omega arith) (tokens_end (λ z. DeclaresTree (between ts at p1 ++ (between ts p1 p2 ++ z)) w) ts p2 p3 s2.token s2.stands e2 (s.declares s2.token (between ts at p1) (between ts p1 p2) place v0 v1 w t0 h1.tree s2.is (begins_there ts at p1 place there f0) is)))) }

-- ---- case_label

pub case_label_stop_0 : (ts : List Lexeme) → (at : ℕ) → EndsIn ts → (k : Terminal) → IsAt ts at k → stmt_picks x.Label 0 (kind k) ≡ true → (stop : ExprStop) → RefusedAt (Mark t.Case) ts at stop → RefusedAt (S x.Label) ts at stop
case_label_stop_0 ts at ends k b hh stop h = stops_next (S x.Label) (Mark t.Case) (E e.Cond ∷ Mark t.Colon ∷ []) ts at at stop (keeps_mark (S x.Label) (t.Case) (E e.Cond ∷ Mark t.Colon ∷ [])) (stmt_starts x.Label 0 ts at k b hh) h refl

pub case_label_stop_1 : (ts : List Lexeme) → (at : ℕ) → EndsIn ts → (k : Terminal) → IsAt ts at k → stmt_picks x.Label 0 (kind k) ≡ true → (p1 : ℕ) → IsAt ts at t.Case → p1 ≡ at + 1 → (stop : ExprStop) → RefusedAt (E e.Cond) ts p1 stop → RefusedAt (S x.Label) ts at stop
case_label_stop_1 ts at ends k b hh p1 s0 e0 stop h = stops_next (S x.Label) (E e.Cond) (Mark t.Colon ∷ []) ts at p1 stop (keeps_part (S x.Label) e.Cond (Mark t.Colon ∷ []) refl) (then_expect (S x.Label) (t.Case) (E e.Cond ∷ Mark t.Colon ∷ []) ts at at p1 ends (stmt_starts x.Label 0 ts at k b hh) s0 e0 refl) h refl

pub case_label_stop_2 : (ts : List Lexeme) → (at : ℕ) → EndsIn ts → (k : Terminal) → IsAt ts at k → stmt_picks x.Label 0 (kind k) ≡ true → (p1 : ℕ) → IsAt ts at t.Case → p1 ≡ at + 1 → (p2 : ℕ) → (v1 : Expr) → ReadAt (E e.Cond) ts p1 p2 → CondTree (between ts p1 p2) v1 → (stop : ExprStop) → RefusedAt (Mark t.Colon) ts p2 stop → RefusedAt (S x.Label) ts at stop
case_label_stop_2 ts at ends k b hh p1 s0 e0 p2 v1 r1 t1 stop h = stops_next (S x.Label) (Mark t.Colon) [] ts at p2 stop (keeps_mark (S x.Label) (t.Colon) []) (then (S x.Label) e.Cond (Mark t.Colon ∷ []) ts at p1 p2 (then_expect (S x.Label) (t.Case) (E e.Cond ∷ Mark t.Colon ∷ []) ts at at p1 ends (stmt_starts x.Label 0 ts at k b hh) s0 e0 refl) r1 refl) h refl

pub case_label_ok : (ts : List Lexeme) → (at : ℕ) → EndsIn ts → (k : Terminal) → IsAt ts at k → stmt_picks x.Label 0 (kind k) ≡ true → (p1 : ℕ) → IsAt ts at t.Case → p1 ≡ at + 1 → (p2 : ℕ) → (v1 : Expr) → ReadAt (E e.Cond) ts p1 p2 → CondTree (between ts p1 p2) v1 → (p3 : ℕ) → IsAt ts p2 t.Colon → p3 ≡ p2 + 1 → (place : Place) → PlaceAt ts at place → Has LabelTree (S x.Label) ts at p3 (record { place = place; value = Some v1 })
case_label_ok ts at ends k b hh p1 s0 e0 p2 v1 r1 t1 p3 s2 e2 place there = record { forth = let f1 = reads_some (E e.Cond) ts p1 p2 refl r1 in omega arith; read = done (S x.Label) ts at p3 (then_expect (S x.Label) (t.Colon) [] ts at p2 p3 ends (then (S x.Label) e.Cond (Mark t.Colon ∷ []) ts at p1 p2 (then_expect (S x.Label) (t.Case) (E e.Cond ∷ Mark t.Colon ∷ []) ts at at p1 ends (stmt_starts x.Label 0 ts at k b hh) s0 e0 refl) r1 refl) s2 e2 refl); tree = let f1 = reads_some (E e.Cond) ts p1 p2 refl r1 in (tokens_mark (λ z. LabelTree z (record { place = place; value = Some v1 })) ts at p1 p3 s0.token s0.stands e0 (omega arith) (tokens_part (λ z. LabelTree (s0.token ∷ z) (record { place = place; value = Some v1 })) ts p1 p2 p3 (omega arith) (omega arith) (tokens_end (λ z. LabelTree (s0.token ∷ (between ts p1 p2 ++ z)) (record { place = place; value = Some v1 })) ts p2 p3 s2.token s2.stands e2 (subst (λ q. LabelTree (s0.token ∷ (between ts p1 p2 ++ s2.token ∷ [])) (record { place = q; value = Some v1 })) (sym (place_of ts at s0.token place s0.stands there)) (s.case s0.token s2.token (between ts p1 p2) v1 s0.is t1 s2.is))))) }

-- ---- default_label

pub default_label_stop_0 : (ts : List Lexeme) → (at : ℕ) → EndsIn ts → (k : Terminal) → IsAt ts at k → stmt_picks x.Label 1 (kind k) ≡ true → (stop : ExprStop) → RefusedAt (Mark t.Default) ts at stop → RefusedAt (S x.Label) ts at stop
default_label_stop_0 ts at ends k b hh stop h = stops_next (S x.Label) (Mark t.Default) (Mark t.Colon ∷ []) ts at at stop (keeps_mark (S x.Label) (t.Default) (Mark t.Colon ∷ [])) (stmt_starts x.Label 1 ts at k b hh) h refl

pub default_label_stop_1 : (ts : List Lexeme) → (at : ℕ) → EndsIn ts → (k : Terminal) → IsAt ts at k → stmt_picks x.Label 1 (kind k) ≡ true → (p1 : ℕ) → IsAt ts at t.Default → p1 ≡ at + 1 → (stop : ExprStop) → RefusedAt (Mark t.Colon) ts p1 stop → RefusedAt (S x.Label) ts at stop
default_label_stop_1 ts at ends k b hh p1 s0 e0 stop h = stops_next (S x.Label) (Mark t.Colon) [] ts at p1 stop (keeps_mark (S x.Label) (t.Colon) []) (then_expect (S x.Label) (t.Default) (Mark t.Colon ∷ []) ts at at p1 ends (stmt_starts x.Label 1 ts at k b hh) s0 e0 refl) h refl

pub default_label_ok : (ts : List Lexeme) → (at : ℕ) → EndsIn ts → (k : Terminal) → IsAt ts at k → stmt_picks x.Label 1 (kind k) ≡ true → (p1 : ℕ) → IsAt ts at t.Default → p1 ≡ at + 1 → (p2 : ℕ) → IsAt ts p1 t.Colon → p2 ≡ p1 + 1 → (place : Place) → PlaceAt ts at place → Has LabelTree (S x.Label) ts at p2 (record { place = place; value = None })
default_label_ok ts at ends k b hh p1 s0 e0 p2 s1 e1 place there = record { forth = omega arith; read = done (S x.Label) ts at p2 (then_expect (S x.Label) (t.Colon) [] ts at p1 p2 ends (then_expect (S x.Label) (t.Default) (Mark t.Colon ∷ []) ts at at p1 ends (stmt_starts x.Label 1 ts at k b hh) s0 e0 refl) s1 e1 refl); tree = (tokens_mark (λ z. LabelTree z (record { place = place; value = None })) ts at p1 p2 s0.token s0.stands e0 (omega arith) (tokens_end (λ z. LabelTree (s0.token ∷ z) (record { place = place; value = None })) ts p1 p2 s1.token s1.stands e1 (subst (λ q. LabelTree (s0.token ∷ s1.token ∷ []) (record { place = q; value = None })) (sym (place_of ts at s0.token place s0.stands there)) (s.default s0.token s1.token s0.is s1.is)))) }

-- ---- for_head

pub for_head_stop_0 : (ts : List Lexeme) → (at : ℕ) → EndsIn ts → (k : Terminal) → IsAt ts at k → stmt_picks x.LoopHead 1 (kind k) ≡ true → (stop : ExprStop) → RefusedAt (Mark t.For) ts at stop → RefusedAt (S x.LoopHead) ts at stop
for_head_stop_0 ts at ends k b hh stop h = stops_next (S x.LoopHead) (Mark t.For) (Mark t.OpenParen ∷ S x.ForStart ∷ S (x.Clause t.Semicolon) ∷ S (x.Clause t.CloseParen) ∷ []) ts at at stop (keeps_mark (S x.LoopHead) (t.For) (Mark t.OpenParen ∷ S x.ForStart ∷ S (x.Clause t.Semicolon) ∷ S (x.Clause t.CloseParen) ∷ [])) (stmt_starts x.LoopHead 1 ts at k b hh) h refl

pub for_head_stop_1 : (ts : List Lexeme) → (at : ℕ) → EndsIn ts → (k : Terminal) → IsAt ts at k → stmt_picks x.LoopHead 1 (kind k) ≡ true → (p1 : ℕ) → IsAt ts at t.For → p1 ≡ at + 1 → (stop : ExprStop) → RefusedAt (Mark t.OpenParen) ts p1 stop → RefusedAt (S x.LoopHead) ts at stop
for_head_stop_1 ts at ends k b hh p1 s0 e0 stop h = stops_next (S x.LoopHead) (Mark t.OpenParen) (S x.ForStart ∷ S (x.Clause t.Semicolon) ∷ S (x.Clause t.CloseParen) ∷ []) ts at p1 stop (keeps_mark (S x.LoopHead) (t.OpenParen) (S x.ForStart ∷ S (x.Clause t.Semicolon) ∷ S (x.Clause t.CloseParen) ∷ [])) (then_expect (S x.LoopHead) (t.For) (Mark t.OpenParen ∷ S x.ForStart ∷ S (x.Clause t.Semicolon) ∷ S (x.Clause t.CloseParen) ∷ []) ts at at p1 ends (stmt_starts x.LoopHead 1 ts at k b hh) s0 e0 refl) h refl

pub for_head_stop_2 : (ts : List Lexeme) → (at : ℕ) → EndsIn ts → (k : Terminal) → IsAt ts at k → stmt_picks x.LoopHead 1 (kind k) ≡ true → (p1 : ℕ) → IsAt ts at t.For → p1 ≡ at + 1 → (p2 : ℕ) → IsAt ts p1 t.OpenParen → p2 ≡ p1 + 1 → (stop : ExprStop) → RefusedAt (S x.ForStart) ts p2 stop → RefusedAt (S x.LoopHead) ts at stop
for_head_stop_2 ts at ends k b hh p1 s0 e0 p2 s1 e1 stop h = stops_next (S x.LoopHead) (S x.ForStart) (S (x.Clause t.Semicolon) ∷ S (x.Clause t.CloseParen) ∷ []) ts at p2 stop (keeps_stmt x.LoopHead x.ForStart (S (x.Clause t.Semicolon) ∷ S (x.Clause t.CloseParen) ∷ []) refl refl) (then_expect (S x.LoopHead) (t.OpenParen) (S x.ForStart ∷ S (x.Clause t.Semicolon) ∷ S (x.Clause t.CloseParen) ∷ []) ts at p1 p2 ends (then_expect (S x.LoopHead) (t.For) (Mark t.OpenParen ∷ S x.ForStart ∷ S (x.Clause t.Semicolon) ∷ S (x.Clause t.CloseParen) ∷ []) ts at at p1 ends (stmt_starts x.LoopHead 1 ts at k b hh) s0 e0 refl) s1 e1 refl) h refl

pub for_head_stop_3 : (ts : List Lexeme) → (at : ℕ) → EndsIn ts → (k : Terminal) → IsAt ts at k → stmt_picks x.LoopHead 1 (kind k) ≡ true → (p1 : ℕ) → IsAt ts at t.For → p1 ≡ at + 1 → (p2 : ℕ) → IsAt ts p1 t.OpenParen → p2 ≡ p1 + 1 → (p3 : ℕ) → (v2 : r.Start) → Has r.StartTree (S x.ForStart) ts p2 p3 v2 → (stop : ExprStop) → RefusedAt (S (x.Clause t.Semicolon)) ts p3 stop → RefusedAt (S x.LoopHead) ts at stop
for_head_stop_3 ts at ends k b hh p1 s0 e0 p2 s1 e1 p3 v2 h2 stop h = stops_next (S x.LoopHead) (S (x.Clause t.Semicolon)) (S (x.Clause t.CloseParen) ∷ []) ts at p3 stop (keeps_stmt x.LoopHead (x.Clause t.Semicolon) (S (x.Clause t.CloseParen) ∷ []) refl refl) (then_stmt (S x.LoopHead) x.ForStart (S (x.Clause t.Semicolon) ∷ S (x.Clause t.CloseParen) ∷ []) ts at p2 p3 (keeps_stmt x.LoopHead x.ForStart (S (x.Clause t.Semicolon) ∷ S (x.Clause t.CloseParen) ∷ []) refl refl) (then_expect (S x.LoopHead) (t.OpenParen) (S x.ForStart ∷ S (x.Clause t.Semicolon) ∷ S (x.Clause t.CloseParen) ∷ []) ts at p1 p2 ends (then_expect (S x.LoopHead) (t.For) (Mark t.OpenParen ∷ S x.ForStart ∷ S (x.Clause t.Semicolon) ∷ S (x.Clause t.CloseParen) ∷ []) ts at at p1 ends (stmt_starts x.LoopHead 1 ts at k b hh) s0 e0 refl) s1 e1 refl) h2.read) h refl

pub for_head_stop_4 : (ts : List Lexeme) → (at : ℕ) → EndsIn ts → (k : Terminal) → IsAt ts at k → stmt_picks x.LoopHead 1 (kind k) ≡ true → (p1 : ℕ) → IsAt ts at t.For → p1 ≡ at + 1 → (p2 : ℕ) → IsAt ts p1 t.OpenParen → p2 ≡ p1 + 1 → (p3 : ℕ) → (v2 : r.Start) → Has r.StartTree (S x.ForStart) ts p2 p3 v2 → (p4 : ℕ) → (v3 : Option Expr) → Has (ClauseTree t.Semicolon) (S (x.Clause t.Semicolon)) ts p3 p4 v3 → (stop : ExprStop) → RefusedAt (S (x.Clause t.CloseParen)) ts p4 stop → RefusedAt (S x.LoopHead) ts at stop
for_head_stop_4 ts at ends k b hh p1 s0 e0 p2 s1 e1 p3 v2 h2 p4 v3 h3 stop h = stops_next (S x.LoopHead) (S (x.Clause t.CloseParen)) [] ts at p4 stop (keeps_stmt x.LoopHead (x.Clause t.CloseParen) [] refl refl) (then_stmt (S x.LoopHead) (x.Clause t.Semicolon) (S (x.Clause t.CloseParen) ∷ []) ts at p3 p4 (keeps_stmt x.LoopHead (x.Clause t.Semicolon) (S (x.Clause t.CloseParen) ∷ []) refl refl) (then_stmt (S x.LoopHead) x.ForStart (S (x.Clause t.Semicolon) ∷ S (x.Clause t.CloseParen) ∷ []) ts at p2 p3 (keeps_stmt x.LoopHead x.ForStart (S (x.Clause t.Semicolon) ∷ S (x.Clause t.CloseParen) ∷ []) refl refl) (then_expect (S x.LoopHead) (t.OpenParen) (S x.ForStart ∷ S (x.Clause t.Semicolon) ∷ S (x.Clause t.CloseParen) ∷ []) ts at p1 p2 ends (then_expect (S x.LoopHead) (t.For) (Mark t.OpenParen ∷ S x.ForStart ∷ S (x.Clause t.Semicolon) ∷ S (x.Clause t.CloseParen) ∷ []) ts at at p1 ends (stmt_starts x.LoopHead 1 ts at k b hh) s0 e0 refl) s1 e1 refl) h2.read) h3.read) h refl

pub for_head_ok : (ts : List Lexeme) → (at : ℕ) → EndsIn ts → (k : Terminal) → IsAt ts at k → stmt_picks x.LoopHead 1 (kind k) ≡ true → (p1 : ℕ) → IsAt ts at t.For → p1 ≡ at + 1 → (p2 : ℕ) → IsAt ts p1 t.OpenParen → p2 ≡ p1 + 1 → (p3 : ℕ) → (v2 : r.Start) → Has r.StartTree (S x.ForStart) ts p2 p3 v2 → (p4 : ℕ) → (v3 : Option Expr) → Has (ClauseTree t.Semicolon) (S (x.Clause t.Semicolon)) ts p3 p4 v3 → (p5 : ℕ) → (v4 : Option Expr) → Has (ClauseTree t.CloseParen) (S (x.Clause t.CloseParen)) ts p4 p5 v4 → Has ForHeadTree (S x.LoopHead) ts at p5 (record { decl = v2.0; first = v2.1; cond = v3; next = v4 })
for_head_ok ts at ends k b hh p1 s0 e0 p2 s1 e1 p3 v2 h2 p4 v3 h3 p5 v4 h4 = record { forth = let f2 = h2.forth in let f3 = h3.forth in let f4 = h4.forth in omega arith; read = done (S x.LoopHead) ts at p5 (then_stmt (S x.LoopHead) (x.Clause t.CloseParen) [] ts at p4 p5 (keeps_stmt x.LoopHead (x.Clause t.CloseParen) [] refl refl) (then_stmt (S x.LoopHead) (x.Clause t.Semicolon) (S (x.Clause t.CloseParen) ∷ []) ts at p3 p4 (keeps_stmt x.LoopHead (x.Clause t.Semicolon) (S (x.Clause t.CloseParen) ∷ []) refl refl) (then_stmt (S x.LoopHead) x.ForStart (S (x.Clause t.Semicolon) ∷ S (x.Clause t.CloseParen) ∷ []) ts at p2 p3 (keeps_stmt x.LoopHead x.ForStart (S (x.Clause t.Semicolon) ∷ S (x.Clause t.CloseParen) ∷ []) refl refl) (then_expect (S x.LoopHead) (t.OpenParen) (S x.ForStart ∷ S (x.Clause t.Semicolon) ∷ S (x.Clause t.CloseParen) ∷ []) ts at p1 p2 ends (then_expect (S x.LoopHead) (t.For) (Mark t.OpenParen ∷ S x.ForStart ∷ S (x.Clause t.Semicolon) ∷ S (x.Clause t.CloseParen) ∷ []) ts at at p1 ends (stmt_starts x.LoopHead 1 ts at k b hh) s0 e0 refl) s1 e1 refl) h2.read) h3.read) h4.read); tree = let f2 = h2.forth in let f3 = h3.forth in let f4 = h4.forth in (tokens_mark (λ z. ForHeadTree z (record { decl = v2.0; first = v2.1; cond = v3; next = v4 })) ts at p1 p5 s0.token s0.stands e0 (omega arith) (tokens_mark (λ z. ForHeadTree (s0.token ∷ z) (record { decl = v2.0; first = v2.1; cond = v3; next = v4 })) ts p1 p2 p5 s1.token s1.stands e1 (omega arith) (tokens_part (λ z. ForHeadTree (s0.token ∷ (s1.token ∷ z)) (record { decl = v2.0; first = v2.1; cond = v3; next = v4 })) ts p2 p3 p5 (omega arith) (omega arith) (tokens_part (λ z. ForHeadTree (s0.token ∷ (s1.token ∷ (between ts p2 p3 ++ z))) (record { decl = v2.0; first = v2.1; cond = v3; next = v4 })) ts p3 p4 p5 (omega arith) (omega arith) (r.for_head s0.token s1.token (between ts p2 p3) (between ts p3 p4) (between ts p4 p5) (record { decl = v2.0; first = v2.1; cond = v3; next = v4 }) s0.is s1.is h2.tree h3.tree h4.tree))))) }

-- ---- block

pub block_stop_0 : (ts : List Lexeme) → (at : ℕ) → EndsIn ts → (k : Terminal) → IsAt ts at k → (stop : ExprStop) → RefusedAt (Mark t.OpenBrace) ts at stop → RefusedAt (S x.Block) ts at stop
block_stop_0 ts at ends k b stop h = stops_next (S x.Block) (Mark t.OpenBrace) (S x.Items ∷ Mark t.CloseBrace ∷ []) ts at at stop (keeps_mark (S x.Block) (t.OpenBrace) (S x.Items ∷ Mark t.CloseBrace ∷ [])) (stmt_starts x.Block 0 ts at k b refl) h refl

pub block_stop_1 : (ts : List Lexeme) → (at : ℕ) → EndsIn ts → (k : Terminal) → IsAt ts at k → (p1 : ℕ) → IsAt ts at t.OpenBrace → p1 ≡ at + 1 → (stop : ExprStop) → RefusedAt (S x.Items) ts p1 stop → RefusedAt (S x.Block) ts at stop
block_stop_1 ts at ends k b p1 s0 e0 stop h = stops_next (S x.Block) (S x.Items) (Mark t.CloseBrace ∷ []) ts at p1 stop (keeps_stmt x.Block x.Items (Mark t.CloseBrace ∷ []) refl refl) (then_expect (S x.Block) (t.OpenBrace) (S x.Items ∷ Mark t.CloseBrace ∷ []) ts at at p1 ends (stmt_starts x.Block 0 ts at k b refl) s0 e0 refl) h refl

pub block_stop_2 : (ts : List Lexeme) → (at : ℕ) → EndsIn ts → (k : Terminal) → IsAt ts at k → (p1 : ℕ) → IsAt ts at t.OpenBrace → p1 ≡ at + 1 → (p2 : ℕ) → (v1 : Vec Stmt) → HasItems ts p1 p2 (v1.items) → (stop : ExprStop) → RefusedAt (Mark t.CloseBrace) ts p2 stop → RefusedAt (S x.Block) ts at stop
block_stop_2 ts at ends k b p1 s0 e0 p2 v1 h1 stop h = stops_next (S x.Block) (Mark t.CloseBrace) [] ts at p2 stop (keeps_mark (S x.Block) (t.CloseBrace) []) (then_stmt (S x.Block) x.Items (Mark t.CloseBrace ∷ []) ts at p1 p2 (keeps_stmt x.Block x.Items (Mark t.CloseBrace ∷ []) refl refl) (then_expect (S x.Block) (t.OpenBrace) (S x.Items ∷ Mark t.CloseBrace ∷ []) ts at at p1 ends (stmt_starts x.Block 0 ts at k b refl) s0 e0 refl) h1.read) h refl

pub block_ok : (ts : List Lexeme) → (at : ℕ) → EndsIn ts → (k : Terminal) → IsAt ts at k → (p1 : ℕ) → IsAt ts at t.OpenBrace → p1 ≡ at + 1 → (p2 : ℕ) → (v1 : Vec Stmt) → HasItems ts p1 p2 (v1.items) → (p3 : ℕ) → IsAt ts p2 t.CloseBrace → p3 ≡ p2 + 1 → (w : Stmt) → (place : Place) → PlaceAt ts at place → IsStmt w place (node.Block v1) → Has BlockTree (S x.Block) ts at p3 w
block_ok ts at ends k b p1 s0 e0 p2 v1 h1 p3 s2 e2 w place there is = record { forth = let f1 = h1.read.read.forth in omega arith; read = done (S x.Block) ts at p3 (then_expect (S x.Block) (t.CloseBrace) [] ts at p2 p3 ends (then_stmt (S x.Block) x.Items (Mark t.CloseBrace ∷ []) ts at p1 p2 (keeps_stmt x.Block x.Items (Mark t.CloseBrace ∷ []) refl refl) (then_expect (S x.Block) (t.OpenBrace) (S x.Items ∷ Mark t.CloseBrace ∷ []) ts at at p1 ends (stmt_starts x.Block 0 ts at k b refl) s0 e0 refl) h1.read) s2 e2 refl); tree = let f1 = h1.read.read.forth in (tokens_mark (λ z. BlockTree z w) ts at p1 p3 s0.token s0.stands e0 (omega arith) (tokens_part (λ z. BlockTree (s0.token ∷ z) w) ts p1 p2 p3 (omega arith) (omega arith) (tokens_end (λ z. BlockTree (s0.token ∷ (between ts p1 p2 ++ z)) w) ts p2 p3 s2.token s2.stands e2 (s.block s0.token s2.token (between ts p1 p2) v1 w s0.is h1.tree s2.is (subst (λ q. IsStmt w q (node.Block v1)) (place_of ts at s0.token place s0.stands there) is))))) }

-- ---- while_loop

pub while_loop_stop_0 : (ts : List Lexeme) → (at : ℕ) → EndsIn ts → (k : Terminal) → IsAt ts at k → stmt_picks x.Statement 2 (kind k) ≡ true → stmt_picks x.LoopHead 0 (kind k) ≡ true → (stop : ExprStop) → RefusedAt (Mark t.While) ts at stop → RefusedAt (S x.Statement) ts at stop
while_loop_stop_0 ts at ends k b hh g0 stop h = stops_next (S x.Statement) (Mark t.While) (S x.Bracketed ∷ S x.Statement ∷ []) ts at at stop (keeps_mark (S x.Statement) (t.While) (S x.Bracketed ∷ S x.Statement ∷ [])) (goes (S x.Statement) (S x.LoopHead) (S x.Statement ∷ []) (Mark t.While ∷ S x.Bracketed ∷ []) ts at at at (keeps_stmt x.Statement x.LoopHead (S x.Statement ∷ []) refl refl) (stmt_starts x.Statement 2 ts at k b hh) (stmt_starts x.LoopHead 0 ts at k b g0)) h refl

pub while_loop_stop_1 : (ts : List Lexeme) → (at : ℕ) → EndsIn ts → (k : Terminal) → IsAt ts at k → stmt_picks x.Statement 2 (kind k) ≡ true → stmt_picks x.LoopHead 0 (kind k) ≡ true → (p1 : ℕ) → IsAt ts at t.While → p1 ≡ at + 1 → (stop : ExprStop) → RefusedAt (S x.Bracketed) ts p1 stop → RefusedAt (S x.Statement) ts at stop
while_loop_stop_1 ts at ends k b hh g0 p1 s0 e0 stop h = stops_next (S x.Statement) (S x.Bracketed) (S x.Statement ∷ []) ts at p1 stop (keeps_stmt x.Statement x.Bracketed (S x.Statement ∷ []) refl refl) (then_expect (S x.Statement) (t.While) (S x.Bracketed ∷ S x.Statement ∷ []) ts at at p1 ends (goes (S x.Statement) (S x.LoopHead) (S x.Statement ∷ []) (Mark t.While ∷ S x.Bracketed ∷ []) ts at at at (keeps_stmt x.Statement x.LoopHead (S x.Statement ∷ []) refl refl) (stmt_starts x.Statement 2 ts at k b hh) (stmt_starts x.LoopHead 0 ts at k b g0)) s0 e0 refl) h refl

pub while_loop_stop_2 : (ts : List Lexeme) → (at : ℕ) → EndsIn ts → (k : Terminal) → IsAt ts at k → stmt_picks x.Statement 2 (kind k) ≡ true → stmt_picks x.LoopHead 0 (kind k) ≡ true → (p1 : ℕ) → IsAt ts at t.While → p1 ≡ at + 1 → (p2 : ℕ) → (v1 : Expr) → Has BracketsTree (S x.Bracketed) ts p1 p2 v1 → (stop : ExprStop) → RefusedAt (S x.Statement) ts p2 stop → RefusedAt (S x.Statement) ts at stop
while_loop_stop_2 ts at ends k b hh g0 p1 s0 e0 p2 v1 h1 stop h = stops_next (S x.Statement) (S x.Statement) [] ts at p2 stop (keeps_stmt x.Statement x.Statement [] refl refl) (then_stmt (S x.Statement) x.Bracketed (S x.Statement ∷ []) ts at p1 p2 (keeps_stmt x.Statement x.Bracketed (S x.Statement ∷ []) refl refl) (then_expect (S x.Statement) (t.While) (S x.Bracketed ∷ S x.Statement ∷ []) ts at at p1 ends (goes (S x.Statement) (S x.LoopHead) (S x.Statement ∷ []) (Mark t.While ∷ S x.Bracketed ∷ []) ts at at at (keeps_stmt x.Statement x.LoopHead (S x.Statement ∷ []) refl refl) (stmt_starts x.Statement 2 ts at k b hh) (stmt_starts x.LoopHead 0 ts at k b g0)) s0 e0 refl) h1.read) h refl

pub while_loop_ok : (ts : List Lexeme) → (at : ℕ) → EndsIn ts → (k : Terminal) → IsAt ts at k → stmt_picks x.Statement 2 (kind k) ≡ true → stmt_picks x.LoopHead 0 (kind k) ≡ true → (p1 : ℕ) → IsAt ts at t.While → p1 ≡ at + 1 → (p2 : ℕ) → (v1 : Expr) → Has BracketsTree (S x.Bracketed) ts p1 p2 v1 → (p3 : ℕ) → (v2 : Stmt) → HasStmt ts p2 p3 v2 → (body : Vec Stmt) → body.items ≡ v2 ∷ [] → (w : Stmt) → (place : Place) → PlaceAt ts at place → IsStmt w place (node.While v1 body) → HasStmt ts at p3 w
while_loop_ok ts at ends k b hh g0 p1 s0 e0 p2 v1 h1 p3 v2 h2 body one w place there is = record { forth = let f1 = h1.forth in let f2 = h2.forth in omega arith; read = done (S x.Statement) ts at p3 (then_stmt (S x.Statement) x.Statement [] ts at p2 p3 (keeps_stmt x.Statement x.Statement [] refl refl) (then_stmt (S x.Statement) x.Bracketed (S x.Statement ∷ []) ts at p1 p2 (keeps_stmt x.Statement x.Bracketed (S x.Statement ∷ []) refl refl) (then_expect (S x.Statement) (t.While) (S x.Bracketed ∷ S x.Statement ∷ []) ts at at p1 ends (goes (S x.Statement) (S x.LoopHead) (S x.Statement ∷ []) (Mark t.While ∷ S x.Bracketed ∷ []) ts at at at (keeps_stmt x.Statement x.LoopHead (S x.Statement ∷ []) refl refl) (stmt_starts x.Statement 2 ts at k b hh) (stmt_starts x.LoopHead 0 ts at k b g0)) s0 e0 refl) h1.read) h2.read); open_if = h2.open_if; closed = h2.closed; tree = let f1 = h1.forth in let f2 = h2.forth in (tokens_mark (λ z. StmtTree h2.open_if z w) ts at p1 p3 s0.token s0.stands e0 (omega arith) (tokens_part (λ z. StmtTree h2.open_if (s0.token ∷ z) w) ts p1 p2 p3 (omega arith) (omega arith) (while_tree h2.open_if s0.token (between ts p1 p2) (between ts p2 p3) v1 v2 body w s0.is h1.tree h2.tree one (subst (λ q. IsStmt w q (node.While v1 body)) (place_of ts at s0.token place s0.stands there) is)))) }

-- ---- for_loop

pub for_loop_stop_0 : (ts : List Lexeme) → (at : ℕ) → EndsIn ts → (k : Terminal) → IsAt ts at k → stmt_picks x.Statement 2 (kind k) ≡ true → (stop : ExprStop) → RefusedAt (S x.LoopHead) ts at stop → RefusedAt (S x.Statement) ts at stop
for_loop_stop_0 ts at ends k b hh stop h = stops_next (S x.Statement) (S x.LoopHead) (S x.Statement ∷ []) ts at at stop (keeps_stmt x.Statement x.LoopHead (S x.Statement ∷ []) refl refl) (stmt_starts x.Statement 2 ts at k b hh) h refl

pub for_loop_stop_1 : (ts : List Lexeme) → (at : ℕ) → EndsIn ts → (k : Terminal) → IsAt ts at k → stmt_picks x.Statement 2 (kind k) ≡ true → (p1 : ℕ) → (v0 : ForHead) → Has ForHeadTree (S x.LoopHead) ts at p1 v0 → (stop : ExprStop) → RefusedAt (S x.Statement) ts p1 stop → RefusedAt (S x.Statement) ts at stop
for_loop_stop_1 ts at ends k b hh p1 v0 h0 stop h = stops_next (S x.Statement) (S x.Statement) [] ts at p1 stop (keeps_stmt x.Statement x.Statement [] refl refl) (then_stmt (S x.Statement) x.LoopHead (S x.Statement ∷ []) ts at at p1 (keeps_stmt x.Statement x.LoopHead (S x.Statement ∷ []) refl refl) (stmt_starts x.Statement 2 ts at k b hh) h0.read) h refl

pub for_loop_ok : (ts : List Lexeme) → (at : ℕ) → EndsIn ts → (k : Terminal) → IsAt ts at k → stmt_picks x.Statement 2 (kind k) ≡ true → (p1 : ℕ) → (v0 : ForHead) → Has ForHeadTree (S x.LoopHead) ts at p1 v0 → (p2 : ℕ) → (v1 : Stmt) → HasStmt ts p1 p2 v1 → (body : Vec Stmt) → body.items ≡ v1 ∷ [] → (w : Stmt) → (place : Place) → PlaceAt ts at place → IsStmt w place (node.For v0.decl v0.first v0.cond v0.next body) → HasStmt ts at p2 w
for_loop_ok ts at ends k b hh p1 v0 h0 p2 v1 h1 body one w place there is = record { forth = let f0 = h0.forth in let f1 = h1.forth in omega arith; read = done (S x.Statement) ts at p2 (then_stmt (S x.Statement) x.Statement [] ts at p1 p2 (keeps_stmt x.Statement x.Statement [] refl refl) (then_stmt (S x.Statement) x.LoopHead (S x.Statement ∷ []) ts at at p1 (keeps_stmt x.Statement x.LoopHead (S x.Statement ∷ []) refl refl) (stmt_starts x.Statement 2 ts at k b hh) h0.read) h1.read); open_if = h1.open_if; closed = h1.closed; tree = let f0 = h0.forth in let f1 = h1.forth in (tokens_part (λ z. StmtTree h1.open_if z w) ts at p1 p2 (omega arith) (omega arith) (for_tree h1.open_if (between ts at p1) (between ts p1 p2) place v0 v1 body w h0.tree (begins_there ts at p1 place there f0) h1.tree one is)) }

-- ---- do_loop

pub do_loop_stop_0 : (ts : List Lexeme) → (at : ℕ) → EndsIn ts → (k : Terminal) → IsAt ts at k → stmt_picks x.Statement 3 (kind k) ≡ true → (stop : ExprStop) → RefusedAt (Mark t.Do) ts at stop → RefusedAt (S x.Statement) ts at stop
do_loop_stop_0 ts at ends k b hh stop h = stops_next (S x.Statement) (Mark t.Do) (S x.Statement ∷ Mark t.While ∷ S x.Bracketed ∷ Mark t.Semicolon ∷ []) ts at at stop (keeps_mark (S x.Statement) (t.Do) (S x.Statement ∷ Mark t.While ∷ S x.Bracketed ∷ Mark t.Semicolon ∷ [])) (stmt_starts x.Statement 3 ts at k b hh) h refl

pub do_loop_stop_1 : (ts : List Lexeme) → (at : ℕ) → EndsIn ts → (k : Terminal) → IsAt ts at k → stmt_picks x.Statement 3 (kind k) ≡ true → (p1 : ℕ) → IsAt ts at t.Do → p1 ≡ at + 1 → (stop : ExprStop) → RefusedAt (S x.Statement) ts p1 stop → RefusedAt (S x.Statement) ts at stop
do_loop_stop_1 ts at ends k b hh p1 s0 e0 stop h = stops_next (S x.Statement) (S x.Statement) (Mark t.While ∷ S x.Bracketed ∷ Mark t.Semicolon ∷ []) ts at p1 stop (keeps_stmt x.Statement x.Statement (Mark t.While ∷ S x.Bracketed ∷ Mark t.Semicolon ∷ []) refl refl) (then_expect (S x.Statement) (t.Do) (S x.Statement ∷ Mark t.While ∷ S x.Bracketed ∷ Mark t.Semicolon ∷ []) ts at at p1 ends (stmt_starts x.Statement 3 ts at k b hh) s0 e0 refl) h refl

pub do_loop_stop_2 : (ts : List Lexeme) → (at : ℕ) → EndsIn ts → (k : Terminal) → IsAt ts at k → stmt_picks x.Statement 3 (kind k) ≡ true → (p1 : ℕ) → IsAt ts at t.Do → p1 ≡ at + 1 → (p2 : ℕ) → (v1 : Stmt) → HasStmt ts p1 p2 v1 → (stop : ExprStop) → RefusedAt (Mark t.While) ts p2 stop → RefusedAt (S x.Statement) ts at stop
do_loop_stop_2 ts at ends k b hh p1 s0 e0 p2 v1 h1 stop h = stops_next (S x.Statement) (Mark t.While) (S x.Bracketed ∷ Mark t.Semicolon ∷ []) ts at p2 stop (keeps_mark (S x.Statement) (t.While) (S x.Bracketed ∷ Mark t.Semicolon ∷ [])) (then_stmt (S x.Statement) x.Statement (Mark t.While ∷ S x.Bracketed ∷ Mark t.Semicolon ∷ []) ts at p1 p2 (keeps_stmt x.Statement x.Statement (Mark t.While ∷ S x.Bracketed ∷ Mark t.Semicolon ∷ []) refl refl) (then_expect (S x.Statement) (t.Do) (S x.Statement ∷ Mark t.While ∷ S x.Bracketed ∷ Mark t.Semicolon ∷ []) ts at at p1 ends (stmt_starts x.Statement 3 ts at k b hh) s0 e0 refl) h1.read) h refl

pub do_loop_stop_3 : (ts : List Lexeme) → (at : ℕ) → EndsIn ts → (k : Terminal) → IsAt ts at k → stmt_picks x.Statement 3 (kind k) ≡ true → (p1 : ℕ) → IsAt ts at t.Do → p1 ≡ at + 1 → (p2 : ℕ) → (v1 : Stmt) → HasStmt ts p1 p2 v1 → (p3 : ℕ) → IsAt ts p2 t.While → p3 ≡ p2 + 1 → (stop : ExprStop) → RefusedAt (S x.Bracketed) ts p3 stop → RefusedAt (S x.Statement) ts at stop
do_loop_stop_3 ts at ends k b hh p1 s0 e0 p2 v1 h1 p3 s2 e2 stop h = stops_next (S x.Statement) (S x.Bracketed) (Mark t.Semicolon ∷ []) ts at p3 stop (keeps_stmt x.Statement x.Bracketed (Mark t.Semicolon ∷ []) refl refl) (then_expect (S x.Statement) (t.While) (S x.Bracketed ∷ Mark t.Semicolon ∷ []) ts at p2 p3 ends (then_stmt (S x.Statement) x.Statement (Mark t.While ∷ S x.Bracketed ∷ Mark t.Semicolon ∷ []) ts at p1 p2 (keeps_stmt x.Statement x.Statement (Mark t.While ∷ S x.Bracketed ∷ Mark t.Semicolon ∷ []) refl refl) (then_expect (S x.Statement) (t.Do) (S x.Statement ∷ Mark t.While ∷ S x.Bracketed ∷ Mark t.Semicolon ∷ []) ts at at p1 ends (stmt_starts x.Statement 3 ts at k b hh) s0 e0 refl) h1.read) s2 e2 refl) h refl

pub do_loop_stop_4 : (ts : List Lexeme) → (at : ℕ) → EndsIn ts → (k : Terminal) → IsAt ts at k → stmt_picks x.Statement 3 (kind k) ≡ true → (p1 : ℕ) → IsAt ts at t.Do → p1 ≡ at + 1 → (p2 : ℕ) → (v1 : Stmt) → HasStmt ts p1 p2 v1 → (p3 : ℕ) → IsAt ts p2 t.While → p3 ≡ p2 + 1 → (p4 : ℕ) → (v3 : Expr) → Has BracketsTree (S x.Bracketed) ts p3 p4 v3 → (stop : ExprStop) → RefusedAt (Mark t.Semicolon) ts p4 stop → RefusedAt (S x.Statement) ts at stop
do_loop_stop_4 ts at ends k b hh p1 s0 e0 p2 v1 h1 p3 s2 e2 p4 v3 h3 stop h = stops_next (S x.Statement) (Mark t.Semicolon) [] ts at p4 stop (keeps_mark (S x.Statement) (t.Semicolon) []) (then_stmt (S x.Statement) x.Bracketed (Mark t.Semicolon ∷ []) ts at p3 p4 (keeps_stmt x.Statement x.Bracketed (Mark t.Semicolon ∷ []) refl refl) (then_expect (S x.Statement) (t.While) (S x.Bracketed ∷ Mark t.Semicolon ∷ []) ts at p2 p3 ends (then_stmt (S x.Statement) x.Statement (Mark t.While ∷ S x.Bracketed ∷ Mark t.Semicolon ∷ []) ts at p1 p2 (keeps_stmt x.Statement x.Statement (Mark t.While ∷ S x.Bracketed ∷ Mark t.Semicolon ∷ []) refl refl) (then_expect (S x.Statement) (t.Do) (S x.Statement ∷ Mark t.While ∷ S x.Bracketed ∷ Mark t.Semicolon ∷ []) ts at at p1 ends (stmt_starts x.Statement 3 ts at k b hh) s0 e0 refl) h1.read) s2 e2 refl) h3.read) h refl

pub do_loop_ok : (ts : List Lexeme) → (at : ℕ) → EndsIn ts → (k : Terminal) → IsAt ts at k → stmt_picks x.Statement 3 (kind k) ≡ true → (p1 : ℕ) → IsAt ts at t.Do → p1 ≡ at + 1 → (p2 : ℕ) → (v1 : Stmt) → HasStmt ts p1 p2 v1 → (p3 : ℕ) → IsAt ts p2 t.While → p3 ≡ p2 + 1 → (p4 : ℕ) → (v3 : Expr) → Has BracketsTree (S x.Bracketed) ts p3 p4 v3 → (p5 : ℕ) → IsAt ts p4 t.Semicolon → p5 ≡ p4 + 1 → (body : Vec Stmt) → body.items ≡ v1 ∷ [] → (w : Stmt) → (place : Place) → PlaceAt ts at place → IsStmt w place (node.Do body v3) → HasStmt ts at p5 w
do_loop_ok ts at ends k b hh p1 s0 e0 p2 v1 h1 p3 s2 e2 p4 v3 h3 p5 s4 e4 body one w place there is = record { forth = let f1 = h1.forth in let f3 = h3.forth in omega arith; read = done (S x.Statement) ts at p5 (then_expect (S x.Statement) (t.Semicolon) [] ts at p4 p5 ends (then_stmt (S x.Statement) x.Bracketed (Mark t.Semicolon ∷ []) ts at p3 p4 (keeps_stmt x.Statement x.Bracketed (Mark t.Semicolon ∷ []) refl refl) (then_expect (S x.Statement) (t.While) (S x.Bracketed ∷ Mark t.Semicolon ∷ []) ts at p2 p3 ends (then_stmt (S x.Statement) x.Statement (Mark t.While ∷ S x.Bracketed ∷ Mark t.Semicolon ∷ []) ts at p1 p2 (keeps_stmt x.Statement x.Statement (Mark t.While ∷ S x.Bracketed ∷ Mark t.Semicolon ∷ []) refl refl) (then_expect (S x.Statement) (t.Do) (S x.Statement ∷ Mark t.While ∷ S x.Bracketed ∷ Mark t.Semicolon ∷ []) ts at at p1 ends (stmt_starts x.Statement 3 ts at k b hh) s0 e0 refl) h1.read) s2 e2 refl) h3.read) s4 e4 refl); open_if = false; closed = λ q. let d : false ≡ true = q in cc; tree = let f1 = h1.forth in let f3 = h3.forth in (tokens_mark (λ z. StmtTree false z w) ts at p1 p5 s0.token s0.stands e0 (omega arith) (tokens_part (λ z. StmtTree false (s0.token ∷ z) w) ts p1 p2 p5 (omega arith) (omega arith) (tokens_mark (λ z. StmtTree false (s0.token ∷ (between ts p1 p2 ++ z)) w) ts p2 p3 p5 s2.token s2.stands e2 (omega arith) (tokens_part (λ z. StmtTree false (s0.token ∷ (between ts p1 p2 ++ (s2.token ∷ z))) w) ts p3 p4 p5 (omega arith) (omega arith) (tokens_end (λ z. StmtTree false (s0.token ∷ (between ts p1 p2 ++ (s2.token ∷ (between ts p3 p4 ++ z)))) w) ts p4 p5 s4.token s4.stands e4 (do_tree h1.open_if s0.token s2.token s4.token (between ts p1 p2) (between ts p3 p4) v3 v1 body w s0.is h1.tree s2.is h3.tree s4.is one (subst (λ q. IsStmt w q (node.Do body v3)) (place_of ts at s0.token place s0.stands there) is))))))) }

-- ---- switch

pub switch_stop_0 : (ts : List Lexeme) → (at : ℕ) → EndsIn ts → (k : Terminal) → IsAt ts at k → stmt_picks x.Statement 4 (kind k) ≡ true → (stop : ExprStop) → RefusedAt (Mark t.Switch) ts at stop → RefusedAt (S x.Statement) ts at stop
switch_stop_0 ts at ends k b hh stop h = stops_next (S x.Statement) (Mark t.Switch) (S x.Bracketed ∷ Mark t.OpenBrace ∷ S x.Sections ∷ Mark t.CloseBrace ∷ []) ts at at stop (keeps_mark (S x.Statement) (t.Switch) (S x.Bracketed ∷ Mark t.OpenBrace ∷ S x.Sections ∷ Mark t.CloseBrace ∷ [])) (stmt_starts x.Statement 4 ts at k b hh) h refl

pub switch_stop_1 : (ts : List Lexeme) → (at : ℕ) → EndsIn ts → (k : Terminal) → IsAt ts at k → stmt_picks x.Statement 4 (kind k) ≡ true → (p1 : ℕ) → IsAt ts at t.Switch → p1 ≡ at + 1 → (stop : ExprStop) → RefusedAt (S x.Bracketed) ts p1 stop → RefusedAt (S x.Statement) ts at stop
switch_stop_1 ts at ends k b hh p1 s0 e0 stop h = stops_next (S x.Statement) (S x.Bracketed) (Mark t.OpenBrace ∷ S x.Sections ∷ Mark t.CloseBrace ∷ []) ts at p1 stop (keeps_stmt x.Statement x.Bracketed (Mark t.OpenBrace ∷ S x.Sections ∷ Mark t.CloseBrace ∷ []) refl refl) (then_expect (S x.Statement) (t.Switch) (S x.Bracketed ∷ Mark t.OpenBrace ∷ S x.Sections ∷ Mark t.CloseBrace ∷ []) ts at at p1 ends (stmt_starts x.Statement 4 ts at k b hh) s0 e0 refl) h refl

pub switch_stop_2 : (ts : List Lexeme) → (at : ℕ) → EndsIn ts → (k : Terminal) → IsAt ts at k → stmt_picks x.Statement 4 (kind k) ≡ true → (p1 : ℕ) → IsAt ts at t.Switch → p1 ≡ at + 1 → (p2 : ℕ) → (v1 : Expr) → Has BracketsTree (S x.Bracketed) ts p1 p2 v1 → (stop : ExprStop) → RefusedAt (Mark t.OpenBrace) ts p2 stop → RefusedAt (S x.Statement) ts at stop
switch_stop_2 ts at ends k b hh p1 s0 e0 p2 v1 h1 stop h = stops_next (S x.Statement) (Mark t.OpenBrace) (S x.Sections ∷ Mark t.CloseBrace ∷ []) ts at p2 stop (keeps_mark (S x.Statement) (t.OpenBrace) (S x.Sections ∷ Mark t.CloseBrace ∷ [])) (then_stmt (S x.Statement) x.Bracketed (Mark t.OpenBrace ∷ S x.Sections ∷ Mark t.CloseBrace ∷ []) ts at p1 p2 (keeps_stmt x.Statement x.Bracketed (Mark t.OpenBrace ∷ S x.Sections ∷ Mark t.CloseBrace ∷ []) refl refl) (then_expect (S x.Statement) (t.Switch) (S x.Bracketed ∷ Mark t.OpenBrace ∷ S x.Sections ∷ Mark t.CloseBrace ∷ []) ts at at p1 ends (stmt_starts x.Statement 4 ts at k b hh) s0 e0 refl) h1.read) h refl

pub switch_stop_3 : (ts : List Lexeme) → (at : ℕ) → EndsIn ts → (k : Terminal) → IsAt ts at k → stmt_picks x.Statement 4 (kind k) ≡ true → (p1 : ℕ) → IsAt ts at t.Switch → p1 ≡ at + 1 → (p2 : ℕ) → (v1 : Expr) → Has BracketsTree (S x.Bracketed) ts p1 p2 v1 → (p3 : ℕ) → IsAt ts p2 t.OpenBrace → p3 ≡ p2 + 1 → (stop : ExprStop) → RefusedAt (S x.Sections) ts p3 stop → RefusedAt (S x.Statement) ts at stop
switch_stop_3 ts at ends k b hh p1 s0 e0 p2 v1 h1 p3 s2 e2 stop h = stops_next (S x.Statement) (S x.Sections) (Mark t.CloseBrace ∷ []) ts at p3 stop (keeps_stmt x.Statement x.Sections (Mark t.CloseBrace ∷ []) refl refl) (then_expect (S x.Statement) (t.OpenBrace) (S x.Sections ∷ Mark t.CloseBrace ∷ []) ts at p2 p3 ends (then_stmt (S x.Statement) x.Bracketed (Mark t.OpenBrace ∷ S x.Sections ∷ Mark t.CloseBrace ∷ []) ts at p1 p2 (keeps_stmt x.Statement x.Bracketed (Mark t.OpenBrace ∷ S x.Sections ∷ Mark t.CloseBrace ∷ []) refl refl) (then_expect (S x.Statement) (t.Switch) (S x.Bracketed ∷ Mark t.OpenBrace ∷ S x.Sections ∷ Mark t.CloseBrace ∷ []) ts at at p1 ends (stmt_starts x.Statement 4 ts at k b hh) s0 e0 refl) h1.read) s2 e2 refl) h refl

pub switch_stop_4 : (ts : List Lexeme) → (at : ℕ) → EndsIn ts → (k : Terminal) → IsAt ts at k → stmt_picks x.Statement 4 (kind k) ≡ true → (p1 : ℕ) → IsAt ts at t.Switch → p1 ≡ at + 1 → (p2 : ℕ) → (v1 : Expr) → Has BracketsTree (S x.Bracketed) ts p1 p2 v1 → (p3 : ℕ) → IsAt ts p2 t.OpenBrace → p3 ≡ p2 + 1 → (p4 : ℕ) → (v3 : Vec Group) → HasSections ts p3 p4 (v3.items) → (stop : ExprStop) → RefusedAt (Mark t.CloseBrace) ts p4 stop → RefusedAt (S x.Statement) ts at stop
switch_stop_4 ts at ends k b hh p1 s0 e0 p2 v1 h1 p3 s2 e2 p4 v3 h3 stop h = stops_next (S x.Statement) (Mark t.CloseBrace) [] ts at p4 stop (keeps_mark (S x.Statement) (t.CloseBrace) []) (then_stmt (S x.Statement) x.Sections (Mark t.CloseBrace ∷ []) ts at p3 p4 (keeps_stmt x.Statement x.Sections (Mark t.CloseBrace ∷ []) refl refl) (then_expect (S x.Statement) (t.OpenBrace) (S x.Sections ∷ Mark t.CloseBrace ∷ []) ts at p2 p3 ends (then_stmt (S x.Statement) x.Bracketed (Mark t.OpenBrace ∷ S x.Sections ∷ Mark t.CloseBrace ∷ []) ts at p1 p2 (keeps_stmt x.Statement x.Bracketed (Mark t.OpenBrace ∷ S x.Sections ∷ Mark t.CloseBrace ∷ []) refl refl) (then_expect (S x.Statement) (t.Switch) (S x.Bracketed ∷ Mark t.OpenBrace ∷ S x.Sections ∷ Mark t.CloseBrace ∷ []) ts at at p1 ends (stmt_starts x.Statement 4 ts at k b hh) s0 e0 refl) h1.read) s2 e2 refl) h3.read) h refl

pub switch_ok : (ts : List Lexeme) → (at : ℕ) → EndsIn ts → (k : Terminal) → IsAt ts at k → stmt_picks x.Statement 4 (kind k) ≡ true → (p1 : ℕ) → IsAt ts at t.Switch → p1 ≡ at + 1 → (p2 : ℕ) → (v1 : Expr) → Has BracketsTree (S x.Bracketed) ts p1 p2 v1 → (p3 : ℕ) → IsAt ts p2 t.OpenBrace → p3 ≡ p2 + 1 → (p4 : ℕ) → (v3 : Vec Group) → HasSections ts p3 p4 (v3.items) → (p5 : ℕ) → IsAt ts p4 t.CloseBrace → p5 ≡ p4 + 1 → (w : Stmt) → (place : Place) → PlaceAt ts at place → IsStmt w place (node.Switch v1 v3) → HasStmt ts at p5 w
switch_ok ts at ends k b hh p1 s0 e0 p2 v1 h1 p3 s2 e2 p4 v3 h3 p5 s4 e4 w place there is = record { forth = let f1 = h1.forth in let f3 = h3.read.read.forth in omega arith; read = done (S x.Statement) ts at p5 (then_expect (S x.Statement) (t.CloseBrace) [] ts at p4 p5 ends (then_stmt (S x.Statement) x.Sections (Mark t.CloseBrace ∷ []) ts at p3 p4 (keeps_stmt x.Statement x.Sections (Mark t.CloseBrace ∷ []) refl refl) (then_expect (S x.Statement) (t.OpenBrace) (S x.Sections ∷ Mark t.CloseBrace ∷ []) ts at p2 p3 ends (then_stmt (S x.Statement) x.Bracketed (Mark t.OpenBrace ∷ S x.Sections ∷ Mark t.CloseBrace ∷ []) ts at p1 p2 (keeps_stmt x.Statement x.Bracketed (Mark t.OpenBrace ∷ S x.Sections ∷ Mark t.CloseBrace ∷ []) refl refl) (then_expect (S x.Statement) (t.Switch) (S x.Bracketed ∷ Mark t.OpenBrace ∷ S x.Sections ∷ Mark t.CloseBrace ∷ []) ts at at p1 ends (stmt_starts x.Statement 4 ts at k b hh) s0 e0 refl) h1.read) s2 e2 refl) h3.read) s4 e4 refl); open_if = false; closed = λ q. let d : false ≡ true = q in cc; tree = let f1 = h1.forth in let f3 = h3.read.read.forth in (tokens_mark (λ z. StmtTree false z w) ts at p1 p5 s0.token s0.stands e0 (omega arith) (tokens_part (λ z. StmtTree false (s0.token ∷ z) w) ts p1 p2 p5 (omega arith) (omega arith) (tokens_mark (λ z. StmtTree false (s0.token ∷ (between ts p1 p2 ++ z)) w) ts p2 p3 p5 s2.token s2.stands e2 (omega arith) (tokens_part (λ z. StmtTree false (s0.token ∷ (between ts p1 p2 ++ (s2.token ∷ z))) w) ts p3 p4 p5 (omega arith) (omega arith) (tokens_end (λ z. StmtTree false (s0.token ∷ (between ts p1 p2 ++ (s2.token ∷ (between ts p3 p4 ++ z)))) w) ts p4 p5 s4.token s4.stands e4 (switch_tree s0.token s2.token s4.token (between ts p1 p2) (between ts p3 p4) v1 v3 w s0.is h1.tree s2.is h3.tree s4.is (subst (λ q. IsStmt w q (node.Switch v1 v3)) (place_of ts at s0.token place s0.stands there) is))))))) }

-- ---- break

pub break_stop_0 : (ts : List Lexeme) → (at : ℕ) → EndsIn ts → (k : Terminal) → IsAt ts at k → stmt_picks x.Statement 5 (kind k) ≡ true → (stop : ExprStop) → RefusedAt (Mark t.Break) ts at stop → RefusedAt (S x.Statement) ts at stop
break_stop_0 ts at ends k b hh stop h = stops_next (S x.Statement) (Mark t.Break) (Mark t.Semicolon ∷ []) ts at at stop (keeps_mark (S x.Statement) (t.Break) (Mark t.Semicolon ∷ [])) (stmt_starts x.Statement 5 ts at k b hh) h refl

pub break_stop_1 : (ts : List Lexeme) → (at : ℕ) → EndsIn ts → (k : Terminal) → IsAt ts at k → stmt_picks x.Statement 5 (kind k) ≡ true → (p1 : ℕ) → IsAt ts at t.Break → p1 ≡ at + 1 → (stop : ExprStop) → RefusedAt (Mark t.Semicolon) ts p1 stop → RefusedAt (S x.Statement) ts at stop
break_stop_1 ts at ends k b hh p1 s0 e0 stop h = stops_next (S x.Statement) (Mark t.Semicolon) [] ts at p1 stop (keeps_mark (S x.Statement) (t.Semicolon) []) (then_expect (S x.Statement) (t.Break) (Mark t.Semicolon ∷ []) ts at at p1 ends (stmt_starts x.Statement 5 ts at k b hh) s0 e0 refl) h refl

pub break_ok : (ts : List Lexeme) → (at : ℕ) → EndsIn ts → (k : Terminal) → IsAt ts at k → stmt_picks x.Statement 5 (kind k) ≡ true → (p1 : ℕ) → IsAt ts at t.Break → p1 ≡ at + 1 → (p2 : ℕ) → IsAt ts p1 t.Semicolon → p2 ≡ p1 + 1 → (w : Stmt) → (place : Place) → PlaceAt ts at place → IsStmt w place node.Break → HasStmt ts at p2 w
break_ok ts at ends k b hh p1 s0 e0 p2 s1 e1 w place there is = record { forth = omega arith; read = done (S x.Statement) ts at p2 (then_expect (S x.Statement) (t.Semicolon) [] ts at p1 p2 ends (then_expect (S x.Statement) (t.Break) (Mark t.Semicolon ∷ []) ts at at p1 ends (stmt_starts x.Statement 5 ts at k b hh) s0 e0 refl) s1 e1 refl); open_if = false; closed = λ q. let d : false ≡ true = q in cc; tree = (tokens_mark (λ z. StmtTree false z w) ts at p1 p2 s0.token s0.stands e0 (omega arith) (tokens_end (λ z. StmtTree false (s0.token ∷ z) w) ts p1 p2 s1.token s1.stands e1 (s.break s0.token s1.token w s0.is s1.is (subst (λ q. IsStmt w q node.Break) (place_of ts at s0.token place s0.stands there) is)))) }

-- ---- continue

pub continue_stop_0 : (ts : List Lexeme) → (at : ℕ) → EndsIn ts → (k : Terminal) → IsAt ts at k → stmt_picks x.Statement 6 (kind k) ≡ true → (stop : ExprStop) → RefusedAt (Mark t.Continue) ts at stop → RefusedAt (S x.Statement) ts at stop
continue_stop_0 ts at ends k b hh stop h = stops_next (S x.Statement) (Mark t.Continue) (Mark t.Semicolon ∷ []) ts at at stop (keeps_mark (S x.Statement) (t.Continue) (Mark t.Semicolon ∷ [])) (stmt_starts x.Statement 6 ts at k b hh) h refl

pub continue_stop_1 : (ts : List Lexeme) → (at : ℕ) → EndsIn ts → (k : Terminal) → IsAt ts at k → stmt_picks x.Statement 6 (kind k) ≡ true → (p1 : ℕ) → IsAt ts at t.Continue → p1 ≡ at + 1 → (stop : ExprStop) → RefusedAt (Mark t.Semicolon) ts p1 stop → RefusedAt (S x.Statement) ts at stop
continue_stop_1 ts at ends k b hh p1 s0 e0 stop h = stops_next (S x.Statement) (Mark t.Semicolon) [] ts at p1 stop (keeps_mark (S x.Statement) (t.Semicolon) []) (then_expect (S x.Statement) (t.Continue) (Mark t.Semicolon ∷ []) ts at at p1 ends (stmt_starts x.Statement 6 ts at k b hh) s0 e0 refl) h refl

pub continue_ok : (ts : List Lexeme) → (at : ℕ) → EndsIn ts → (k : Terminal) → IsAt ts at k → stmt_picks x.Statement 6 (kind k) ≡ true → (p1 : ℕ) → IsAt ts at t.Continue → p1 ≡ at + 1 → (p2 : ℕ) → IsAt ts p1 t.Semicolon → p2 ≡ p1 + 1 → (w : Stmt) → (place : Place) → PlaceAt ts at place → IsStmt w place node.Continue → HasStmt ts at p2 w
continue_ok ts at ends k b hh p1 s0 e0 p2 s1 e1 w place there is = record { forth = omega arith; read = done (S x.Statement) ts at p2 (then_expect (S x.Statement) (t.Semicolon) [] ts at p1 p2 ends (then_expect (S x.Statement) (t.Continue) (Mark t.Semicolon ∷ []) ts at at p1 ends (stmt_starts x.Statement 6 ts at k b hh) s0 e0 refl) s1 e1 refl); open_if = false; closed = λ q. let d : false ≡ true = q in cc; tree = (tokens_mark (λ z. StmtTree false z w) ts at p1 p2 s0.token s0.stands e0 (omega arith) (tokens_end (λ z. StmtTree false (s0.token ∷ z) w) ts p1 p2 s1.token s1.stands e1 (s.continue s0.token s1.token w s0.is s1.is (subst (λ q. IsStmt w q node.Continue) (place_of ts at s0.token place s0.stands there) is)))) }

-- ---- return

pub return_stop_0 : (ts : List Lexeme) → (at : ℕ) → EndsIn ts → (k : Terminal) → IsAt ts at k → stmt_picks x.Statement 7 (kind k) ≡ true → (stop : ExprStop) → RefusedAt (Mark t.Return) ts at stop → RefusedAt (S x.Statement) ts at stop
return_stop_0 ts at ends k b hh stop h = stops_next (S x.Statement) (Mark t.Return) (S (x.Clause t.Semicolon) ∷ []) ts at at stop (keeps_mark (S x.Statement) (t.Return) (S (x.Clause t.Semicolon) ∷ [])) (stmt_starts x.Statement 7 ts at k b hh) h refl

pub return_stop_1 : (ts : List Lexeme) → (at : ℕ) → EndsIn ts → (k : Terminal) → IsAt ts at k → stmt_picks x.Statement 7 (kind k) ≡ true → (p1 : ℕ) → IsAt ts at t.Return → p1 ≡ at + 1 → (stop : ExprStop) → RefusedAt (S (x.Clause t.Semicolon)) ts p1 stop → RefusedAt (S x.Statement) ts at stop
return_stop_1 ts at ends k b hh p1 s0 e0 stop h = stops_next (S x.Statement) (S (x.Clause t.Semicolon)) [] ts at p1 stop (keeps_stmt x.Statement (x.Clause t.Semicolon) [] refl refl) (then_expect (S x.Statement) (t.Return) (S (x.Clause t.Semicolon) ∷ []) ts at at p1 ends (stmt_starts x.Statement 7 ts at k b hh) s0 e0 refl) h refl

pub return_ok : (ts : List Lexeme) → (at : ℕ) → EndsIn ts → (k : Terminal) → IsAt ts at k → stmt_picks x.Statement 7 (kind k) ≡ true → (p1 : ℕ) → IsAt ts at t.Return → p1 ≡ at + 1 → (p2 : ℕ) → (v1 : Option Expr) → Has (ClauseTree t.Semicolon) (S (x.Clause t.Semicolon)) ts p1 p2 v1 → (w : Stmt) → (place : Place) → PlaceAt ts at place → IsStmt w place (node.Return v1) → HasStmt ts at p2 w
return_ok ts at ends k b hh p1 s0 e0 p2 v1 h1 w place there is = record { forth = let f1 = h1.forth in omega arith; read = done (S x.Statement) ts at p2 (then_stmt (S x.Statement) (x.Clause t.Semicolon) [] ts at p1 p2 (keeps_stmt x.Statement (x.Clause t.Semicolon) [] refl refl) (then_expect (S x.Statement) (t.Return) (S (x.Clause t.Semicolon) ∷ []) ts at at p1 ends (stmt_starts x.Statement 7 ts at k b hh) s0 e0 refl) h1.read); open_if = false; closed = λ q. let d : false ≡ true = q in cc; tree = let f1 = h1.forth in (tokens_mark (λ z. StmtTree false z w) ts at p1 p2 s0.token s0.stands e0 (omega arith) (return_tree s0.token (between ts p1 p2) v1 w s0.is h1.tree (subst (λ q. IsStmt w q (node.Return v1)) (place_of ts at s0.token place s0.stands there) is))) }

-- ---- empty

pub empty_stop_0 : (ts : List Lexeme) → (at : ℕ) → EndsIn ts → (k : Terminal) → IsAt ts at k → stmt_picks x.Statement 8 (kind k) ≡ true → (stop : ExprStop) → RefusedAt (S (x.Clause t.Semicolon)) ts at stop → RefusedAt (S x.Statement) ts at stop
empty_stop_0 ts at ends k b hh stop h = stops_next (S x.Statement) (S (x.Clause t.Semicolon)) [] ts at at stop (keeps_stmt x.Statement (x.Clause t.Semicolon) [] refl refl) (stmt_starts x.Statement 8 ts at k b hh) h refl

pub empty_ok : (ts : List Lexeme) → (at : ℕ) → EndsIn ts → (k : Terminal) → IsAt ts at k → stmt_picks x.Statement 8 (kind k) ≡ true → (p1 : ℕ) → (v0 : Option Expr) → Has (ClauseTree t.Semicolon) (S (x.Clause t.Semicolon)) ts at p1 v0 → v0 ≡ None → (w : Stmt) → (place : Place) → PlaceAt ts at place → IsStmt w place node.Empty → HasStmt ts at p1 w
empty_ok ts at ends k b hh p1 v0 h0 none w place there is = record { forth = let f0 = h0.forth in omega arith; read = done (S x.Statement) ts at p1 (then_stmt (S x.Statement) (x.Clause t.Semicolon) [] ts at at p1 (keeps_stmt x.Statement (x.Clause t.Semicolon) [] refl refl) (stmt_starts x.Statement 8 ts at k b hh) h0.read); open_if = false; closed = λ q. let d : false ≡ true = q in cc; tree = let f0 = h0.forth in (empty_tree (between ts at p1) place v0 w none h0.tree (begins_there ts at p1 place there f0) is) }

-- ---- expression

pub expression_stop_0 : (ts : List Lexeme) → (at : ℕ) → EndsIn ts → (k : Terminal) → IsAt ts at k → stmt_picks x.Statement 8 (kind k) ≡ true → (stop : ExprStop) → RefusedAt (S (x.Clause t.Semicolon)) ts at stop → RefusedAt (S x.Statement) ts at stop
expression_stop_0 ts at ends k b hh stop h = stops_next (S x.Statement) (S (x.Clause t.Semicolon)) [] ts at at stop (keeps_stmt x.Statement (x.Clause t.Semicolon) [] refl refl) (stmt_starts x.Statement 8 ts at k b hh) h refl

pub expression_ok : (ts : List Lexeme) → (at : ℕ) → EndsIn ts → (k : Terminal) → IsAt ts at k → stmt_picks x.Statement 8 (kind k) ≡ true → (p1 : ℕ) → (v0 : Option Expr) → Has (ClauseTree t.Semicolon) (S (x.Clause t.Semicolon)) ts at p1 v0 → (a : Expr) → v0 ≡ Some a → (w : Stmt) → (place : Place) → PlaceAt ts at place → IsStmt w place (node.Expr a) → HasStmt ts at p1 w
expression_ok ts at ends k b hh p1 v0 h0 a some w place there is = record { forth = let f0 = h0.forth in omega arith; read = done (S x.Statement) ts at p1 (then_stmt (S x.Statement) (x.Clause t.Semicolon) [] ts at at p1 (keeps_stmt x.Statement (x.Clause t.Semicolon) [] refl refl) (stmt_starts x.Statement 8 ts at k b hh) h0.read); open_if = false; closed = λ q. let d : false ≡ true = q in cc; tree = let f0 = h0.forth in (expression_tree (between ts at p1) place v0 a w some h0.tree (begins_there ts at p1 place there f0) is) }
