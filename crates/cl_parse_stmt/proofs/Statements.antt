-- Which row of parts a statement is, by what its first token is; and statements that are made of one part, or end with `else`.
use Rattle.std.proofs.Common.{◌≡◌, ℕ, ◌+◌, ◌<◌, Bool, true, false, List, [], ◌∷◌, ◌++◌, refl, sym, ap, ◌∙◌, subst, arith}
use Rattle.std.specs.Prelude.{Option, None}
use Rattle.std.specs.Global.{Vec}
use Rattle.cl_ast.specs.declared.expression.Expr.{Expr}
use Rattle.cl_ast.specs.declared.declaration.Init.{Init}
use Rattle.cl_ast.specs.declared.statement.Stmt.{Stmt}
use Rattle.cl_ast.specs.declared.statement.StmtNode.TheVariants as node
use Rattle.clv_place.specs.declared.place.Place.{Place}
use Rattle.cl_grammar.specs.declared.lexeme.Lexeme.{Lexeme}
use Rattle.cl_grammar.specs.declared.terminal.Terminal.{Terminal}
use Rattle.cl_grammar.specs.declared.terminal.Terminal.TheVariants as t
use Rattle.cl_grammar.specs.declared.stop.ExprStop.{ExprStop}
use Rattle.cl_grammar.specs.Symbols as e
use Rattle.cl_grammar.specs.Symbols.{Mark, S, is_type_word}
use Rattle.cl_grammar.specs.StatementSymbols as x
use Rattle.cl_grammar.specs.StatementTrees as s
use Rattle.cl_grammar.specs.StatementTrees.{BlockTree, ItemTree, StmtTree, IsStmt}
use Rattle.cl_grammar.specs.Items.{between, EndsIn, IsAt, OtherAt, PlaceAt, GoesOn, RefusedAt}
use Rattle.cl_grammar.proofs.TerminalKinds.{kind}
use Rattle.cl_grammar.proofs.Steps.{Keeps}
use Rattle.cl_grammar.proofs.Predicted.{keeps_mark}
use Rattle.cl_grammar.proofs.Places.{done, goes, by_class, by_other_class}
use Rattle.cl_grammar.proofs.StatementPredicted.{stmt_picks, keeps_stmt, keeps_arm}
use Rattle.cl_grammar.proofs.StatementPlaces.{stmt_starts, else_starts, then_stmt, stops_next}
use Rattle.cl_parse_stmt.specs.declared.look.Kind.TheVariants as look
use Rattle.cl_parse_stmt.specs.Looks.{kind_of, KindAt, NoTypeAt, LabelAt, is_label}
use Rattle.cl_parse_stmt.specs.Readings.{Has, HasStmt, BracketsTree, ClauseTree, DeclaresTree, StartTree}
use Rattle.cl_parse_stmt.proofs.TreeParts.{only_if_tree, if_else_tree, start_tree, declares_tree}
use Rattle.cl_parse_stmt.proofs.Moves.{same_token, then_expect, tokens_mark, tokens_part, place_of}

-- ---- rows

pub type_item : (k : Terminal) → is_type_word k ≡ true → stmt_picks x.Item 0 (kind k) ≡ true
type_item k h = by_class e.TypeWord (λ j. stmt_picks x.Item 0 j) k refl h

pub no_type_item : (k : Terminal) → is_type_word k ≡ false → stmt_picks x.Item 1 (kind k) ≡ true
no_type_item k h = by_other_class e.TypeWord (λ j. stmt_picks x.Item 1 j) k refl h

pub type_start : (k : Terminal) → is_type_word k ≡ true → stmt_picks x.ForStart 0 (kind k) ≡ true
type_start k h = by_class e.TypeWord (λ j. stmt_picks x.ForStart 0 j) k refl h

pub no_type_start : (k : Terminal) → is_type_word k ≡ false → stmt_picks x.ForStart 1 (kind k) ≡ true
no_type_start k h = by_other_class e.TypeWord (λ j. stmt_picks x.ForStart 1 j) k refl h

pub names_picks : (k : Terminal) → (k ≡ t.Semicolon → ⊥) → stmt_picks x.BehindSpec 1 (kind k) ≡ true
names_picks t.Semicolon h = absurd (h refl)
names_picks (t.TypeName true) h = refl
names_picks (t.TypeName false) h = refl
names_picks _ h = refl

pub brace_value : (k : Terminal) → (k ≡ t.OpenBrace → ⊥) → stmt_picks x.Init 1 (kind k) ≡ true
brace_value t.OpenBrace h = absurd (h refl)
brace_value (t.TypeName true) h = refl
brace_value (t.TypeName false) h = refl
brace_value _ h = refl

no_else_picks : (k : Terminal) → (k ≡ t.Else → ⊥) → stmt_picks x.MayElse 1 (kind k) ≡ true
no_else_picks t.Else h = absurd (h refl)
no_else_picks (t.TypeName true) h = refl
no_else_picks (t.TypeName false) h = refl
no_else_picks _ h = refl

pub expression_picks : (k : Terminal) → look.Expression ≡ kind_of k → stmt_picks x.Statement 8 (kind k) ≡ true
expression_picks t.OpenBrace h = absurd (cc)
expression_picks t.If h = absurd (cc)
expression_picks t.While h = absurd (cc)
expression_picks t.For h = absurd (cc)
expression_picks t.Do h = absurd (cc)
expression_picks t.Switch h = absurd (cc)
expression_picks t.Break h = absurd (cc)
expression_picks t.Continue h = absurd (cc)
expression_picks t.Return h = absurd (cc)
expression_picks (t.TypeName true) h = refl
expression_picks (t.TypeName false) h = refl
expression_picks _ h = refl

kind_OpenBrace : (k : Terminal) → look.Block ≡ kind_of k → k ≡ t.OpenBrace
kind_OpenBrace t.OpenBrace h = refl
kind_OpenBrace t.If h = absurd (cc)
kind_OpenBrace t.While h = absurd (cc)
kind_OpenBrace t.For h = absurd (cc)
kind_OpenBrace t.Do h = absurd (cc)
kind_OpenBrace t.Switch h = absurd (cc)
kind_OpenBrace t.Break h = absurd (cc)
kind_OpenBrace t.Continue h = absurd (cc)
kind_OpenBrace t.Return h = absurd (cc)
kind_OpenBrace _ h = absurd (cc)

pub is_OpenBrace : (ts : List Lexeme) (at : ℕ) → KindAt ts at look.Block → IsAt ts at t.OpenBrace
is_OpenBrace ts at k = subst (IsAt ts at) (kind_OpenBrace k.terminal k.is) k.stands

kind_If : (k : Terminal) → look.If ≡ kind_of k → k ≡ t.If
kind_If t.If h = refl
kind_If t.OpenBrace h = absurd (cc)
kind_If t.While h = absurd (cc)
kind_If t.For h = absurd (cc)
kind_If t.Do h = absurd (cc)
kind_If t.Switch h = absurd (cc)
kind_If t.Break h = absurd (cc)
kind_If t.Continue h = absurd (cc)
kind_If t.Return h = absurd (cc)
kind_If _ h = absurd (cc)

pub is_If : (ts : List Lexeme) (at : ℕ) → KindAt ts at look.If → IsAt ts at t.If
is_If ts at k = subst (IsAt ts at) (kind_If k.terminal k.is) k.stands

kind_While : (k : Terminal) → look.While ≡ kind_of k → k ≡ t.While
kind_While t.While h = refl
kind_While t.OpenBrace h = absurd (cc)
kind_While t.If h = absurd (cc)
kind_While t.For h = absurd (cc)
kind_While t.Do h = absurd (cc)
kind_While t.Switch h = absurd (cc)
kind_While t.Break h = absurd (cc)
kind_While t.Continue h = absurd (cc)
kind_While t.Return h = absurd (cc)
kind_While _ h = absurd (cc)

pub is_While : (ts : List Lexeme) (at : ℕ) → KindAt ts at look.While → IsAt ts at t.While
is_While ts at k = subst (IsAt ts at) (kind_While k.terminal k.is) k.stands

kind_For : (k : Terminal) → look.For ≡ kind_of k → k ≡ t.For
kind_For t.For h = refl
kind_For t.OpenBrace h = absurd (cc)
kind_For t.If h = absurd (cc)
kind_For t.While h = absurd (cc)
kind_For t.Do h = absurd (cc)
kind_For t.Switch h = absurd (cc)
kind_For t.Break h = absurd (cc)
kind_For t.Continue h = absurd (cc)
kind_For t.Return h = absurd (cc)
kind_For _ h = absurd (cc)

pub is_For : (ts : List Lexeme) (at : ℕ) → KindAt ts at look.For → IsAt ts at t.For
is_For ts at k = subst (IsAt ts at) (kind_For k.terminal k.is) k.stands

kind_Do : (k : Terminal) → look.Do ≡ kind_of k → k ≡ t.Do
kind_Do t.Do h = refl
kind_Do t.OpenBrace h = absurd (cc)
kind_Do t.If h = absurd (cc)
kind_Do t.While h = absurd (cc)
kind_Do t.For h = absurd (cc)
kind_Do t.Switch h = absurd (cc)
kind_Do t.Break h = absurd (cc)
kind_Do t.Continue h = absurd (cc)
kind_Do t.Return h = absurd (cc)
kind_Do _ h = absurd (cc)

pub is_Do : (ts : List Lexeme) (at : ℕ) → KindAt ts at look.Do → IsAt ts at t.Do
is_Do ts at k = subst (IsAt ts at) (kind_Do k.terminal k.is) k.stands

kind_Switch : (k : Terminal) → look.Switch ≡ kind_of k → k ≡ t.Switch
kind_Switch t.Switch h = refl
kind_Switch t.OpenBrace h = absurd (cc)
kind_Switch t.If h = absurd (cc)
kind_Switch t.While h = absurd (cc)
kind_Switch t.For h = absurd (cc)
kind_Switch t.Do h = absurd (cc)
kind_Switch t.Break h = absurd (cc)
kind_Switch t.Continue h = absurd (cc)
kind_Switch t.Return h = absurd (cc)
kind_Switch _ h = absurd (cc)

pub is_Switch : (ts : List Lexeme) (at : ℕ) → KindAt ts at look.Switch → IsAt ts at t.Switch
is_Switch ts at k = subst (IsAt ts at) (kind_Switch k.terminal k.is) k.stands

kind_Break : (k : Terminal) → look.Break ≡ kind_of k → k ≡ t.Break
kind_Break t.Break h = refl
kind_Break t.OpenBrace h = absurd (cc)
kind_Break t.If h = absurd (cc)
kind_Break t.While h = absurd (cc)
kind_Break t.For h = absurd (cc)
kind_Break t.Do h = absurd (cc)
kind_Break t.Switch h = absurd (cc)
kind_Break t.Continue h = absurd (cc)
kind_Break t.Return h = absurd (cc)
kind_Break _ h = absurd (cc)

pub is_Break : (ts : List Lexeme) (at : ℕ) → KindAt ts at look.Break → IsAt ts at t.Break
is_Break ts at k = subst (IsAt ts at) (kind_Break k.terminal k.is) k.stands

kind_Continue : (k : Terminal) → look.Continue ≡ kind_of k → k ≡ t.Continue
kind_Continue t.Continue h = refl
kind_Continue t.OpenBrace h = absurd (cc)
kind_Continue t.If h = absurd (cc)
kind_Continue t.While h = absurd (cc)
kind_Continue t.For h = absurd (cc)
kind_Continue t.Do h = absurd (cc)
kind_Continue t.Switch h = absurd (cc)
kind_Continue t.Break h = absurd (cc)
kind_Continue t.Return h = absurd (cc)
kind_Continue _ h = absurd (cc)

pub is_Continue : (ts : List Lexeme) (at : ℕ) → KindAt ts at look.Continue → IsAt ts at t.Continue
is_Continue ts at k = subst (IsAt ts at) (kind_Continue k.terminal k.is) k.stands

kind_Return : (k : Terminal) → look.Return ≡ kind_of k → k ≡ t.Return
kind_Return t.Return h = refl
kind_Return t.OpenBrace h = absurd (cc)
kind_Return t.If h = absurd (cc)
kind_Return t.While h = absurd (cc)
kind_Return t.For h = absurd (cc)
kind_Return t.Do h = absurd (cc)
kind_Return t.Switch h = absurd (cc)
kind_Return t.Break h = absurd (cc)
kind_Return t.Continue h = absurd (cc)
kind_Return _ h = absurd (cc)

pub is_Return : (ts : List Lexeme) (at : ℕ) → KindAt ts at look.Return → IsAt ts at t.Return
is_Return ts at k = subst (IsAt ts at) (kind_Return k.terminal k.is) k.stands

-- ---- a label is one of two

only_default : (k : Terminal) → is_label k ≡ true → (k ≡ t.Case → ⊥) → k ≡ t.Default
only_default t.Case h n = absurd (n refl)
only_default t.Default h n = refl
only_default _ h n = absurd (let f : false ≡ true = h in cc)

pub not_case : (ts : List Lexeme) (at : ℕ) → LabelAt ts at → OtherAt ts at t.Case → IsAt ts at t.Default
not_case ts at l o = subst (IsAt ts at) (only_default l.terminal l.is (λ e. o.differs (sym (sym l.stands.is ∙ ap (λ z. z.terminal) (same_token ts at l.stands.token o.stands.token l.stands.stands o.stands.stands) ∙ o.stands.is) ∙ e))) l.stands

-- ---- a block, a statement as an item, and the start of a `for`

block_begun : (ts : List Lexeme) (at : ℕ) → IsAt ts at t.OpenBrace → GoesOn (S x.Statement) (S x.Block ∷ []) ts at at
block_begun ts at s = stmt_starts x.Statement 0 ts at t.OpenBrace s refl

block_keeps : Keeps (S x.Statement) (S x.Block) []
block_keeps = keeps_stmt x.Statement x.Block [] refl refl

pub block_stop : (ts : List Lexeme) (at : ℕ) → IsAt ts at t.OpenBrace → (stop : ExprStop) → RefusedAt (S x.Block) ts at stop → RefusedAt (S x.Statement) ts at stop
block_stop ts at s stop h = stops_next (S x.Statement) (S x.Block) [] ts at at stop block_keeps (block_begun ts at s) h refl

pub block_ok : (ts : List Lexeme) (at next : ℕ) (w : Stmt) → IsAt ts at t.OpenBrace → Has BlockTree (S x.Block) ts at next w → HasStmt ts at next w
block_ok ts at next w b h = record { forth = h.forth; read = done (S x.Statement) ts at next (then_stmt (S x.Statement) x.Block [] ts at at next block_keeps (block_begun ts at b) h.read); open_if = false; closed = λ q. let d : false ≡ true = q in cc; tree = s.compound (between ts at next) w h.tree }

item_begun : (ts : List Lexeme) (at : ℕ) → NoTypeAt ts at → GoesOn (S x.Item) (S x.Statement ∷ []) ts at at
item_begun ts at n = stmt_starts x.Item 1 ts at n.terminal n.stands (no_type_item n.terminal n.is)

item_stmt_keeps : Keeps (S x.Item) (S x.Statement) []
item_stmt_keeps = keeps_stmt x.Item x.Statement [] refl refl

pub item_stop : (ts : List Lexeme) (at : ℕ) → NoTypeAt ts at → (stop : ExprStop) → RefusedAt (S x.Statement) ts at stop → RefusedAt (S x.Item) ts at stop
item_stop ts at n stop h = stops_next (S x.Item) (S x.Statement) [] ts at at stop item_stmt_keeps (item_begun ts at n) h refl

pub item_ok : (ts : List Lexeme) (at next : ℕ) (w : Stmt) → NoTypeAt ts at → HasStmt ts at next w → Has ItemTree (S x.Item) ts at next w
item_ok ts at next w n h = record { forth = h.forth; read = done (S x.Item) ts at next (then_stmt (S x.Item) x.Statement [] ts at at next item_stmt_keeps (item_begun ts at n) h.read); tree = s.statement h.open_if (between ts at next) w h.tree }

start_begun : (ts : List Lexeme) (at : ℕ) → NoTypeAt ts at → GoesOn (S x.ForStart) (S (x.Clause t.Semicolon) ∷ []) ts at at
start_begun ts at n = stmt_starts x.ForStart 1 ts at n.terminal n.stands (no_type_start n.terminal n.is)

start_keeps : Keeps (S x.ForStart) (S (x.Clause t.Semicolon)) []
start_keeps = keeps_stmt x.ForStart (x.Clause t.Semicolon) [] refl refl

pub start_stop : (ts : List Lexeme) (at : ℕ) → NoTypeAt ts at → (stop : ExprStop) → RefusedAt (S (x.Clause t.Semicolon)) ts at stop → RefusedAt (S x.ForStart) ts at stop
start_stop ts at n stop h = stops_next (S x.ForStart) (S (x.Clause t.Semicolon)) [] ts at at stop start_keeps (start_begun ts at n) h refl

pub start_ok : (ts : List Lexeme) (at next : ℕ) (decl : Vec Stmt) (e : Option Expr) → NoTypeAt ts at → decl.items ≡ [] → Has (ClauseTree t.Semicolon) (S (x.Clause t.Semicolon)) ts at next e → Has StartTree (S x.ForStart) ts at next (decl, e)
start_ok ts at next decl e n none h = record { forth = h.forth; read = done (S x.ForStart) ts at next (then_stmt (S x.ForStart) (x.Clause t.Semicolon) [] ts at at next start_keeps (start_begun ts at n) h.read); tree = start_tree (between ts at next) decl.items e none h.tree }

pub start_declares : (ts : List Lexeme) (at next : ℕ) (decl : Vec Stmt) (d : Stmt) → decl.items ≡ d ∷ [] → Has DeclaresTree (S x.ForStart) ts at next d → Has StartTree (S x.ForStart) ts at next (decl, None)
start_declares ts at next decl d one h = record { forth = h.forth; read = h.read; tree = declares_tree (between ts at next) decl.items d one h.tree }

-- ---- `if`

if_begun : (ts : List Lexeme) (at : ℕ) → IsAt ts at t.If → GoesOn (S x.Statement) (Mark t.If ∷ S x.Bracketed ∷ S x.Statement ∷ S x.MayElse ∷ []) ts at at
if_begun ts at s = stmt_starts x.Statement 1 ts at t.If s refl

pub if_stop_0 : (ts : List Lexeme) (at : ℕ) → IsAt ts at t.If → (stop : ExprStop) → RefusedAt (Mark t.If) ts at stop → RefusedAt (S x.Statement) ts at stop
if_stop_0 ts at s stop h = stops_next (S x.Statement) (Mark t.If) (S x.Bracketed ∷ S x.Statement ∷ S x.MayElse ∷ []) ts at at stop (keeps_mark (S x.Statement) t.If (S x.Bracketed ∷ S x.Statement ∷ S x.MayElse ∷ [])) (if_begun ts at s) h refl

if_1 : (ts : List Lexeme) (at p1 : ℕ) → EndsIn ts → IsAt ts at t.If → p1 ≡ at + 1 → GoesOn (S x.Statement) (S x.Bracketed ∷ S x.Statement ∷ S x.MayElse ∷ []) ts at p1
if_1 ts at p1 ends s q = then_expect (S x.Statement) t.If (S x.Bracketed ∷ S x.Statement ∷ S x.MayElse ∷ []) ts at at p1 ends (if_begun ts at s) s q refl

cond_keeps : Keeps (S x.Statement) (S x.Bracketed) (S x.Statement ∷ S x.MayElse ∷ [])
cond_keeps = keeps_stmt x.Statement x.Bracketed (S x.Statement ∷ S x.MayElse ∷ []) refl refl

pub if_stop_1 : (ts : List Lexeme) (at p1 : ℕ) → EndsIn ts → IsAt ts at t.If → p1 ≡ at + 1 → (stop : ExprStop) → RefusedAt (S x.Bracketed) ts p1 stop → RefusedAt (S x.Statement) ts at stop
if_stop_1 ts at p1 ends s q stop h = stops_next (S x.Statement) (S x.Bracketed) (S x.Statement ∷ S x.MayElse ∷ []) ts at p1 stop cond_keeps (if_1 ts at p1 ends s q) h refl

if_2 : (ts : List Lexeme) (at p1 p2 : ℕ) (v : Expr) → EndsIn ts → IsAt ts at t.If → p1 ≡ at + 1 → Has BracketsTree (S x.Bracketed) ts p1 p2 v → GoesOn (S x.Statement) (S x.Statement ∷ S x.MayElse ∷ []) ts at p2
if_2 ts at p1 p2 v ends s q h = then_stmt (S x.Statement) x.Bracketed (S x.Statement ∷ S x.MayElse ∷ []) ts at p1 p2 cond_keeps (if_1 ts at p1 ends s q) h.read

pub if_stop_2 : (ts : List Lexeme) (at p1 p2 : ℕ) (v : Expr) → EndsIn ts → IsAt ts at t.If → p1 ≡ at + 1 → Has BracketsTree (S x.Bracketed) ts p1 p2 v → (stop : ExprStop) → RefusedAt (S x.Statement) ts p2 stop → RefusedAt (S x.Statement) ts at stop
if_stop_2 ts at p1 p2 v ends s q b stop h = stops_next (S x.Statement) (S x.Statement) (S x.MayElse ∷ []) ts at p2 stop keeps_arm (if_2 ts at p1 p2 v ends s q b) h refl

-- an `if` with its first statement
pub record IfAt (ts : List Lexeme) (at next : ℕ) (e : Expr) (a : Stmt) : Type 0 where
  pub forth : at < next
  pub opens : IsAt ts at t.If
  pub begun : GoesOn (S x.Statement) (S x.MayElse ∷ []) ts at next
  pub mid : ℕ
  pub cond : Has BracketsTree (S x.Bracketed) ts (at + 1) mid e
  pub arm : HasStmt ts mid next a

pub if_at : (ts : List Lexeme) (at p1 p2 p3 : ℕ) (v : Expr) (a : Stmt) → EndsIn ts → IsAt ts at t.If → p1 ≡ at + 1 → Has BracketsTree (S x.Bracketed) ts p1 p2 v → HasStmt ts p2 p3 a → IfAt ts at p3 v a
if_at ts at p1 p2 p3 v a ends s q b h =
    let f = b.forth in let g = h.forth in
    record { forth = omega arith; opens = s; begun = then_stmt (S x.Statement) x.Statement (S x.MayElse ∷ []) ts at p2 p3 keeps_arm (if_2 ts at p1 p2 v ends s q b) h.read; mid = p2; cond = subst (λ n. Has BracketsTree (S x.Bracketed) ts n p2 v) q b; arm = h }

may_keeps : Keeps (S x.Statement) (S x.MayElse) []
may_keeps = keeps_stmt x.Statement x.MayElse [] refl refl

pub if_alone : (ts : List Lexeme) (at next : ℕ) (e : Expr) (a : Stmt) (arms : Vec Stmt) (w : Stmt) (place : Place) → IfAt ts at next e a → OtherAt ts next t.Else → arms.items ≡ a ∷ [] → PlaceAt ts at place → IsStmt w place (node.If e arms) → HasStmt ts at next w
if_alone ts at next e a arms w place i o one there is =
    let f = i.forth in let f1 = i.cond.forth in let f2 = i.arm.forth in
    record {
      forth = i.forth;
      read = done (S x.Statement) ts at next (goes (S x.Statement) (S x.MayElse) [] [] ts at next next may_keeps i.begun (stmt_starts x.MayElse 1 ts next o.other o.stands (no_else_picks o.other o.differs)));
      open_if = true;
      closed = λ q. o;
      tree = tokens_mark (λ z. StmtTree true z w) ts at (at + 1) next i.opens.token i.opens.stands refl (omega arith) (tokens_part (λ z. StmtTree true (i.opens.token ∷ z) w) ts (at + 1) i.mid next (omega arith) (omega arith)
          (only_if_tree i.arm.open_if i.opens.token (between ts (at + 1) i.mid) (between ts i.mid next) e a arms w i.opens.is i.cond.tree i.arm.tree one (subst (λ q. IsStmt w q (node.If e arms)) (place_of ts at i.opens.token place i.opens.stands there) is)));
    }

else_begun : (ts : List Lexeme) (at next : ℕ) (e : Expr) (a : Stmt) → IfAt ts at next e a → IsAt ts next t.Else → GoesOn (S x.Statement) (Mark t.Else ∷ S x.Statement ∷ []) ts at next
else_begun ts at next e a i l = goes (S x.Statement) (S x.MayElse) [] (Mark t.Else ∷ S x.Statement ∷ []) ts at next next may_keeps i.begun (else_starts ts next l)

pub else_stop_0 : (ts : List Lexeme) (at next : ℕ) (e : Expr) (a : Stmt) → IfAt ts at next e a → IsAt ts next t.Else → (stop : ExprStop) → RefusedAt (Mark t.Else) ts next stop → RefusedAt (S x.Statement) ts at stop
else_stop_0 ts at next e a i l stop h = stops_next (S x.Statement) (Mark t.Else) (S x.Statement ∷ []) ts at next stop (keeps_mark (S x.Statement) t.Else (S x.Statement ∷ [])) (else_begun ts at next e a i l) h refl

else_1 : (ts : List Lexeme) (at next p1 : ℕ) (e : Expr) (a : Stmt) → EndsIn ts → IfAt ts at next e a → IsAt ts next t.Else → p1 ≡ next + 1 → GoesOn (S x.Statement) (S x.Statement ∷ []) ts at p1
else_1 ts at next p1 e a ends i l q = then_expect (S x.Statement) t.Else (S x.Statement ∷ []) ts at next p1 ends (else_begun ts at next e a i l) l q refl

arm_keeps : Keeps (S x.Statement) (S x.Statement) []
arm_keeps = keeps_stmt x.Statement x.Statement [] refl refl

pub else_stop_1 : (ts : List Lexeme) (at next p1 : ℕ) (e : Expr) (a : Stmt) → EndsIn ts → IfAt ts at next e a → IsAt ts next t.Else → p1 ≡ next + 1 → (stop : ExprStop) → RefusedAt (S x.Statement) ts p1 stop → RefusedAt (S x.Statement) ts at stop
else_stop_1 ts at next p1 e a ends i l q stop h = stops_next (S x.Statement) (S x.Statement) [] ts at p1 stop arm_keeps (else_1 ts at next p1 e a ends i l q) h refl

not_open : (ts : List Lexeme) (next : ℕ) (o : Bool) → (o ≡ true → OtherAt ts next t.Else) → IsAt ts next t.Else → o ≡ false
not_open ts next false c l = refl
not_open ts next true c l = let d = c refl in absurd (d.differs (sym d.stands.is ∙ ap (λ z. z.terminal) (same_token ts next d.stands.token l.token d.stands.stands l.stands) ∙ l.is))

-- The statement before an `else` has no `if` that this would belong to.
no_open_if : (ts : List Lexeme) (at next : ℕ) (a : Stmt) (h : HasStmt ts at next a) → IsAt ts next t.Else → h.open_if ≡ false
no_open_if ts at next a h l = not_open ts next h.open_if h.closed l

pub if_else_ok : (ts : List Lexeme) (at next p1 p2 : ℕ) (e : Expr) (a b : Stmt) (arms : Vec Stmt) (w : Stmt) (place : Place) → EndsIn ts → IfAt ts at next e a → IsAt ts next t.Else → p1 ≡ next + 1 → HasStmt ts p1 p2 b → arms.items ≡ a ∷ b ∷ [] → PlaceAt ts at place → IsStmt w place (node.If e arms) → HasStmt ts at p2 w
if_else_ok ts at next p1 p2 e a b arms w place ends i l q h two there is =
    let f = i.forth in let f1 = i.cond.forth in let f2 = i.arm.forth in let f3 = h.forth in
    record {
      forth = omega arith;
      read = done (S x.Statement) ts at p2 (then_stmt (S x.Statement) x.Statement [] ts at p1 p2 arm_keeps (else_1 ts at next p1 e a ends i l q) h.read);
      open_if = h.open_if;
      closed = h.closed;
      tree = tokens_mark (λ z. StmtTree h.open_if z w) ts at (at + 1) p2 i.opens.token i.opens.stands refl (omega arith) (tokens_part (λ z. StmtTree h.open_if (i.opens.token ∷ z) w) ts (at + 1) i.mid p2 (omega arith) (omega arith)
          (tokens_part (λ z. StmtTree h.open_if (i.opens.token ∷ (between ts (at + 1) i.mid ++ z)) w) ts i.mid next p2 (omega arith) (omega arith)
          (tokens_mark (λ z. StmtTree h.open_if (i.opens.token ∷ (between ts (at + 1) i.mid ++ (between ts i.mid next ++ z))) w) ts next p1 p2 l.token l.stands q (omega arith)
          (if_else_tree h.open_if i.opens.token l.token (between ts (at + 1) i.mid) (between ts i.mid next) (between ts p1 p2) e a b arms w i.opens.is i.cond.tree (subst (λ o. StmtTree o (between ts i.mid next) a) (no_open_if ts i.mid next a i.arm l) i.arm.tree) l.is h.tree two (subst (λ q. IsStmt w q (node.If e arms)) (place_of ts at i.opens.token place i.opens.stands there) is)))));
    }
