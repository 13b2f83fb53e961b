-- A reader of labels and declarations, and of what stands in a `for`.
use Rattle.std.specs.Global.{Vec}
use Rattle.std.proofs.Common.{◌≡◌, ℕ, suc, zero, ◌+◌, true, false, if◌then◌else◌, List, [], ◌∷◌, ◌++◌, map, Option, Some, None, refl, sym, ap, ◌∙◌, append_assoc, arith}
use Rattle.clv_place.specs.declared.place.Place.{Place}
use Rattle.cl_ast.specs.declared.expression.Expr.{Expr}
use Rattle.cl_ast.specs.declared.expression.Spec.{Spec}
use Rattle.cl_ast.specs.declared.declaration.InitDeclor.{InitDeclor}
use Rattle.cl_ast.specs.declared.statement.Label.{Label}
use Rattle.cl_ast.specs.declared.statement.Stmt.{Stmt}
use Rattle.cl_ast.specs.declared.statement.StmtNode.TheVariants as node
use Rattle.cl_grammar.specs.declared.lexeme.Lexeme.{Lexeme}
use Rattle.cl_grammar.specs.declared.terminal.Terminal.{Terminal}
use Rattle.cl_grammar.specs.declared.terminal.Terminal.TheVariants as t
use Rattle.cl_grammar.specs.Expressions.{IsA}
use Rattle.cl_grammar.specs.ExpressionTrees.{SpecTree}
use Rattle.cl_grammar.specs.StatementTrees.{BeginsAt, begins, IsStmt, MayBeTree, InitDeclorTrees, LabelTree, LabelTrees, ForStartTree, declares, evaluates, declaration, expression}
use Rattle.cl_grammar.specs.StatementTrees as trees
use Rattle.cl_plain.specs.Plain.{Plain, over, leaf, in_option, plain_expr, plain_spec, plain_declared, plain_label, plain_stmt}
use Rattle.cl_plain.specs.Plain as p
use Rattle.cl_plain.proofs.Reading.{Reads, first_is, is_end, is_close, is_spec_end, begins_type}
use Rattle.cl_plain.proofs.ReadSteps.{and_then, skip, then_is, if_true, if_false, enough, reads_from, reads_with, first_apart}
use Rattle.cl_plain.proofs.PartBegins.{begins_declor, expr_first, declareds_first}
use Rattle.cl_plain.proofs.ReadInits.{read_declareds, declareds_read}
use Rattle.cl_plain.proofs.ReadExpressions.{read_spec, spec_reads, spec_begins, read_cond, cond_reads, read_expr, expr_reads}
use Rattle.cl_plain.proofs.PlainStatements.{stmt_is, decl_node}
use Rattle.cl_plain.proofs.StatementBegins.{is_case, is_label_word, expr_stmt, stmt_no_type, label_first}
use Rattle.cl_plain.proofs.ReadMarks.{is_semicolon, begins_expr, first_excludes, first_implies}

abbrev pub stmt_of : Place → Plain → Plain
stmt_of place n = over (p.stmt place) (n ∷ [])

-- an expression that may be missing
abbrev pub read_maybe : ℕ → List Lexeme → Option (Plain × List Lexeme)
read_maybe n ls = if first_is is_close ls then Some (leaf p.missing, ls) else and_then (read_expr n ls) (λ e rest. Some (over p.given (e ∷ []), rest))

expr_no_close : (l : Terminal) → begins_expr l ≡ true → is_close l ≡ false
expr_no_close t.CloseParen e = absurd (cc)
expr_no_close t.CloseBracket e = absurd (cc)
expr_no_close t.Semicolon e = absurd (cc)
expr_no_close _ e = refl

pub maybe_reads : (u : List Lexeme) (e : Option Expr) → MayBeTree u e → (r : List Lexeme) → first_is is_close r ≡ true → Reads read_maybe u r (in_option plain_expr e)
maybe_reads _ _ trees.none r k = reads_with read_maybe [] r _ 0 (λ m le. if_true _ k)
maybe_reads _ _ (trees.some u e h) r k =
    let a = expr_reads u e h r k in
    reads_with read_maybe u r _ a.steps (λ m le. if_false _ (first_excludes begins_expr is_close expr_no_close (u ++ r) (expr_first u e h r)) ∙ then_is _ (enough a m le))

abbrev pub label_at : (List Lexeme → Option (Plain × List Lexeme)) → List Lexeme → Option (Plain × List Lexeme)
label_at cond [] = None
label_at cond (l ∷ ls) = if is_case l.terminal then and_then (cond ls) (λ e rest. Some (over (p.label l.place) (over p.given (e ∷ []) ∷ []), skip rest)) else Some (over (p.label l.place) (leaf p.missing ∷ []), skip ls)

abbrev pub read_label : ℕ → List Lexeme → Option (Plain × List Lexeme)
read_label n ls = label_at (read_cond n) ls

abbrev pub read_labels : ℕ → List Lexeme → Option (List Plain × List Lexeme)
read_labels zero ls = None
read_labels (suc n) ls = if first_is is_label_word ls then and_then (read_label n ls) (λ x rest. and_then (read_labels n rest) (λ xs more. Some (x ∷ xs, more))) else Some ([], ls)

pub label_reads : (u : List Lexeme) (l : Label) → LabelTree u l → (r : List Lexeme) → Reads read_label u r (plain_label l)
label_reads _ _ (trees.case l k u e hl h hk) r =
    let a = cond_reads u e h (k ∷ r) (ap is_end hk) in
    reads_with read_label (l ∷ (u ++ k ∷ [])) r _ a.steps (λ m le. ap (λ z. read_label m (l ∷ z)) (append_assoc u (k ∷ []) r) ∙ (if_true _ (ap is_case hl) ∙ then_is _ (enough a m le)))
label_reads _ _ (trees.default l k hl hk) r = reads_with read_label (l ∷ k ∷ []) r _ 0 (λ m le. if_false _ (ap is_case hl))

pub labels_read : (u : List Lexeme) (ls : List Label) → LabelTrees u ls → (r : List Lexeme) → first_is is_label_word r ≡ false → Reads read_labels u r (map plain_label ls)
labels_read _ _ (trees.last u l h) r k =
    let a = label_reads u l h r in
    let b : Reads read_labels [] r [] = reads_from read_labels [] r [] 0 (λ m le. if_false _ k) in
    reads_from read_labels u r _ (a.steps + b.steps) (λ m le. if_true _ (label_first u l h r) ∙ (then_is _ (enough a m (omega arith)) ∙ then_is _ (enough b m (omega arith))))
labels_read _ _ (trees.more u v l ls h hs) r k =
    let a = label_reads u l h (v ++ r) in
    let b = labels_read v ls hs r k in
    reads_from read_labels (u ++ v) r _ (a.steps + b.steps) (λ m le.
    ap (read_labels (suc m)) (append_assoc u v r) ∙ (if_true _ (label_first u l h (v ++ r)) ∙ (then_is _ (enough a m (omega arith)) ∙ then_is _ (enough b m (omega arith)))))

-- a declaration, with its `;`
abbrev pub decl_at : (List Lexeme → Option (Plain × List Lexeme)) → (List Lexeme → Option (List Plain × List Lexeme)) → List Lexeme → Option (Plain × List Lexeme)
decl_at spec names [] = None
decl_at spec names (l ∷ ls) =
    and_then (spec (l ∷ ls)) (λ s rest.
    if first_is is_semicolon rest then Some (stmt_of l.place (over p.declaration (s ∷ [])), skip rest) else and_then (names rest) (λ ds more. Some (stmt_of l.place (over p.declaration (s ∷ ds)), skip more)))

abbrev pub read_decl : ℕ → List Lexeme → Option (Plain × List Lexeme)
read_decl n ls = decl_at (read_spec n) (read_declareds n) ls

pub declor_ends_spec : (l : Terminal) → begins_declor l ≡ true → is_spec_end l ≡ true
declor_ends_spec t.Star e = refl
declor_ends_spec t.Name e = refl
declor_ends_spec _ e = absurd (cc)

pub declor_no_semicolon : (l : Terminal) → begins_declor l ≡ true → is_semicolon l ≡ false
declor_no_semicolon t.Semicolon e = absurd (cc)
declor_no_semicolon _ e = refl

pub decl_says : (d : Stmt) (place : Place) (spec : Spec) (items : Vec InitDeclor) → IsStmt d place (node.Decl spec items) → plain_stmt d ≡ stmt_of place (over p.declaration (plain_spec spec ∷ map plain_declared items.items))
decl_says d place spec items is = stmt_is d place (node.Decl spec items) is.at is.is ∙ ap (stmt_of place) (decl_node spec items)

pub type_reads : (h : Lexeme) (u : List Lexeme) (place : Place) (spec : Spec) (items : Vec InitDeclor) (s : Stmt) → SpecTree u spec → IsA t.Semicolon h → BeginsAt u place → items.items ≡ [] → IsStmt s place (node.Decl spec items) → (r : List Lexeme) → Reads read_decl (u ++ h ∷ []) r (plain_stmt s)
type_reads h _ _ spec items s k hh (begins l u) bare is r =
    let a = spec_reads (l ∷ u) spec k (h ∷ r) (ap is_spec_end hh) in
    let e = decl_says s l.place spec items is ∙ ap (λ z. stmt_of l.place (over p.declaration (plain_spec spec ∷ map plain_declared z))) bare in
    reads_with read_decl ((l ∷ u) ++ h ∷ []) r _ a.steps (λ m le. ap (read_decl m) (append_assoc (l ∷ u) (h ∷ []) r) ∙ (then_is _ (enough a m le) ∙ (if_true _ (ap is_semicolon hh) ∙ ap (λ z. Some (z, r)) (sym e))))

pub decl_reads : (h : Lexeme) (u v : List Lexeme) (place : Place) (spec : Spec) (items : Vec InitDeclor) (s : Stmt) → SpecTree u spec → InitDeclorTrees v items.items → IsA t.Semicolon h → BeginsAt u place → IsStmt s place (node.Decl spec items) → (r : List Lexeme) → Reads read_decl (u ++ (v ++ h ∷ [])) r (plain_stmt s)
decl_reads h _ v _ spec items s k ks hh (begins l u) is r =
    let first = declareds_first v items.items ks (h ∷ r) in
    let a = spec_reads (l ∷ u) spec k (v ++ h ∷ r) (first_implies begins_declor is_spec_end declor_ends_spec (v ++ h ∷ r) first) in
    let b = declareds_read v items.items ks h r hh in
    reads_with read_decl ((l ∷ u) ++ (v ++ h ∷ [])) r _ (a.steps + b.steps) (λ m le.
    ap (read_decl m) (append_assoc (l ∷ u) (v ++ h ∷ []) r ∙ ap (λ z. (l ∷ u) ++ z) (append_assoc v (h ∷ []) r))
    ∙ (then_is _ (enough a m (omega arith)) ∙ (if_false _ (first_excludes begins_declor is_semicolon declor_no_semicolon (v ++ h ∷ r) first) ∙ (then_is _ (enough b m (omega arith)) ∙ ap (λ z. Some (z, r)) (sym (decl_says s l.place spec items is))))))

-- what stands up to the first `;` of a `for`: its declaration and its expression
abbrev pub read_start : ℕ → List Lexeme → Option ((Plain × Plain) × List Lexeme)
read_start n ls =
    if first_is begins_type ls then and_then (read_decl n ls) (λ d rest. Some ((over p.list (d ∷ []), leaf p.missing), rest)) else and_then (read_maybe n ls) (λ e rest. Some ((over p.list [], e), skip rest))

expr_no_type : (l : Terminal) → begins_expr l ≡ true → begins_type l ≡ false
expr_no_type l e = stmt_no_type l (expr_stmt l e)

maybe_no_type : (u : List Lexeme) (e : Option Expr) → MayBeTree u e → (s : Lexeme) (r : List Lexeme) → IsA t.Semicolon s → first_is begins_type (u ++ s ∷ r) ≡ false
maybe_no_type _ _ trees.none s r hs = ap begins_type hs
maybe_no_type _ _ (trees.some u e h) s r hs = first_excludes begins_expr begins_type expr_no_type (u ++ s ∷ r) (expr_first u e h (s ∷ r))

pub start_reads : (u : List Lexeme) (decl : List Stmt) (first : Option Expr) → ForStartTree u decl first → (r : List Lexeme) → Reads read_start u r (over p.list (map plain_stmt decl), in_option plain_expr first)
start_reads _ _ _ (declares s u v place spec items d k ks hs b is) r =
    let a = decl_reads s u v place spec items d k ks hs b is r in
    reads_with read_start (u ++ (v ++ s ∷ [])) r _ a.steps (λ m le. if_true _ (first_apart begins_type u (v ++ s ∷ []) r (spec_begins u spec k ((v ++ s ∷ []) ++ r))) ∙ then_is _ (enough a m le))
start_reads _ _ _ (evaluates s u e h hs) r =
    let a = maybe_reads u e h (s ∷ r) (ap is_close hs) in
    reads_with read_start (u ++ s ∷ []) r _ a.steps (λ m le. ap (read_start m) (append_assoc u (s ∷ []) r) ∙ (if_false _ (maybe_no_type u e h s r hs) ∙ then_is _ (enough a m le)))
