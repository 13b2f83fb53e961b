-- The trees of statements from those of their parts.
use Rattle.std.proofs.Common.{◌≡◌, Bool, true, false, List, [], ◌∷◌, ◌++◌, refl, sym, ap, ◌∙◌, subst, append_assoc}
use Rattle.std.specs.Prelude.{Option, Some, None}
use Rattle.std.proofs.lemmas.List.{append-nil}
use Rattle.std.specs.Global.{Vec}
use Rattle.clv_place.specs.declared.place.Place.{Place}
use Rattle.cl_ast.specs.declared.expression.Expr.{Expr}
use Rattle.cl_ast.specs.declared.expression.Spec.{Spec}
use Rattle.cl_ast.specs.declared.declaration.InitDeclor.{InitDeclor}
use Rattle.cl_ast.specs.declared.statement.Stmt.{Stmt}
use Rattle.cl_ast.specs.declared.statement.Group.{Group}
use Rattle.cl_ast.specs.declared.statement.StmtNode.TheVariants as node
use Rattle.cl_grammar.specs.declared.lexeme.Lexeme.{Lexeme}
use Rattle.cl_grammar.specs.declared.terminal.Terminal.{Terminal}
use Rattle.cl_grammar.specs.declared.terminal.Terminal.TheVariants as t
use Rattle.cl_grammar.specs.Expressions.{IsA}
use Rattle.cl_grammar.specs.ExpressionTrees.{ExprTree, SpecTree}
use Rattle.cl_grammar.specs.StatementTrees as s
use Rattle.cl_grammar.specs.StatementTrees.{BeginsAt, begins, MayBeTree, InitDeclorTrees, ForStartTree, ItemTree, StmtTree, SectionTrees, IsStmt}
use Rattle.cl_parse_stmt.specs.declared.clause.ForHead.{ForHead}
use Rattle.cl_parse_stmt.specs.Readings as r
use Rattle.cl_parse_stmt.specs.Readings.{BracketsTree, ClauseTree, NamesTree, DeclaresTree, ForHeadTree}

-- tokens begin at one place
same_beginning : (u v : List Lexeme) (p q : Place) → BeginsAt u p → BeginsAt (u ++ v) q → p ≡ q
same_beginning _ v _ _ (begins l u) (begins _ _) = refl

brackets_then : (P : List Lexeme → Type 0) (z y : List Lexeme) (e : Expr) → BracketsTree z e → ((o c : Lexeme) (u : List Lexeme) → IsA t.OpenParen o → ExprTree u e → IsA t.CloseParen c → P (o ∷ (u ++ c ∷ y))) → P (z ++ y)
brackets_then P _ y e (r.brackets o c u _ a b d) f = subst P (ap (λ z. o ∷ z) (sym (append_assoc u (c ∷ []) y))) (f o c u a b d)

clause_then : (end : Terminal) (P : List Lexeme → Type 0) (z y : List Lexeme) (e : Option Expr) → ClauseTree end z e → ((c : Lexeme) (u : List Lexeme) → MayBeTree u e → IsA end c → P (u ++ c ∷ y)) → P (z ++ y)
clause_then end P _ y _ (r.no_expression c h) f = f c [] s.none h
clause_then end P _ y _ (r.expression c u place e a b h) f = subst P (sym (append_assoc u (c ∷ []) y)) (f c u (s.some u e a) h)

clause_alone : (end : Terminal) (P : List Lexeme → Type 0) (z : List Lexeme) (e : Option Expr) → ClauseTree end z e → ((c : Lexeme) (u : List Lexeme) → MayBeTree u e → IsA end c → P (u ++ c ∷ [])) → P z
clause_alone end P z e a f = subst P (append-nil z) (clause_then end P z [] e a f)

pub only_if_tree : (open_if : Bool) (i : Lexeme) (z v : List Lexeme) (e : Expr) (a : Stmt) (arms : Vec Stmt) (w : Stmt) → IsA t.If i → BracketsTree z e → StmtTree open_if v a → arms.items ≡ a ∷ [] → IsStmt w i.place (node.If e arms) → StmtTree true (i ∷ (z ++ v)) w
only_if_tree open_if i z v e a arms w h b d g k = brackets_then (λ y. StmtTree true (i ∷ y) w) z v e b (λ o c u l m n. s.only_if open_if i o c u v e a arms w h l m n d g k)

pub if_else_tree : (open_if : Bool) (i k : Lexeme) (z v y : List Lexeme) (e : Expr) (a b : Stmt) (arms : Vec Stmt) (w : Stmt) → IsA t.If i → BracketsTree z e → StmtTree false v a → IsA t.Else k → StmtTree open_if y b → arms.items ≡ a ∷ b ∷ [] → IsStmt w i.place (node.If e arms) → StmtTree open_if (i ∷ (z ++ (v ++ k ∷ y))) w
if_else_tree open_if i k z v y e a b arms w h g d l m n p = brackets_then (λ q. StmtTree open_if (i ∷ q) w) z (v ++ k ∷ y) e g (λ o c u q r j. s.if_else open_if i o c k u v y e a b arms w h q r j d l m n p)

pub while_tree : (open_if : Bool) (h : Lexeme) (z v : List Lexeme) (e : Expr) (a : Stmt) (body : Vec Stmt) (w : Stmt) → IsA t.While h → BracketsTree z e → StmtTree open_if v a → body.items ≡ a ∷ [] → IsStmt w h.place (node.While e body) → StmtTree open_if (h ∷ (z ++ v)) w
while_tree open_if h z v e a body w g b d k l = brackets_then (λ y. StmtTree open_if (h ∷ y) w) z v e b (λ o c u m n p. s.while_loop open_if h o c u v e a body w g m n p d k l)

for_parts : (open_if : Bool) (f o : Lexeme) (u v x z : List Lexeme) (head : ForHead) (a : Stmt) (body : Vec Stmt) (w : Stmt) → IsA t.For f → IsA t.OpenParen o → ForStartTree u head.decl.items head.first → ClauseTree t.Semicolon v head.cond → ClauseTree t.CloseParen x head.next → StmtTree open_if z a → body.items ≡ a ∷ [] → IsStmt w f.place (node.For head.decl head.first head.cond head.next body) → StmtTree open_if (f ∷ o ∷ ((u ++ (v ++ x)) ++ z)) w
for_parts open_if f o u v x z head a body w h g d b k l m n =
    subst (λ y. StmtTree open_if (f ∷ o ∷ y) w) (sym (append_assoc u (v ++ x) z ∙ ap (λ y. u ++ y) (append_assoc v x z)))
    (clause_then t.Semicolon (λ y. StmtTree open_if (f ∷ o ∷ (u ++ y)) w) v (x ++ z) head.cond b (λ c p q i.
    clause_then t.CloseParen (λ y. StmtTree open_if (f ∷ o ∷ (u ++ (p ++ c ∷ y))) w) x z head.next k (λ j y1 y2 y3. s.for_loop open_if f o c j u p y1 z head.decl body head.first head.cond head.next a w h g d q i y2 y3 l m n)))

pub for_tree : (open_if : Bool) (x z : List Lexeme) (place : Place) (head : ForHead) (a : Stmt) (body : Vec Stmt) (w : Stmt) → ForHeadTree x head → BeginsAt x place → StmtTree open_if z a → body.items ≡ a ∷ [] → IsStmt w place (node.For head.decl head.first head.cond head.next body) → StmtTree open_if (x ++ z) w
for_tree open_if _ z _ _ a body w (r.for_head f o u v y head h g d b k) (begins _ _) l m n = for_parts open_if f o u v y z head a body w h g d b k l m n

pub do_tree : (open_if : Bool) (d h k : Lexeme) (u z : List Lexeme) (e : Expr) (a : Stmt) (body : Vec Stmt) (w : Stmt) → IsA t.Do d → StmtTree open_if u a → IsA t.While h → BracketsTree z e → IsA t.Semicolon k → body.items ≡ a ∷ [] → IsStmt w d.place (node.Do body e) → StmtTree false (d ∷ (u ++ h ∷ (z ++ k ∷ []))) w
do_tree open_if d h k u z e a body w g l m b n p q = brackets_then (λ y. StmtTree false (d ∷ (u ++ h ∷ y)) w) z (k ∷ []) e b (λ o c v i j y. s.do_loop open_if d h o c k u v e a body w g l m i j y n p q)

pub switch_tree : (h b d : Lexeme) (z v : List Lexeme) (e : Expr) (sections : Vec Group) (w : Stmt) → IsA t.Switch h → BracketsTree z e → IsA t.OpenBrace b → SectionTrees v sections.items → IsA t.CloseBrace d → IsStmt w h.place (node.Switch e sections) → StmtTree false (h ∷ (z ++ b ∷ (v ++ d ∷ []))) w
switch_tree h b d z v e sections w g l m n p q = brackets_then (λ y. StmtTree false (h ∷ y) w) z (b ∷ (v ++ d ∷ [])) e l (λ o c u i j y. s.switch h o c b d u v e sections w g i j y m n p q)

pub return_tree : (h : Lexeme) (z : List Lexeme) (e : Option Expr) (w : Stmt) → IsA t.Return h → ClauseTree t.Semicolon z e → IsStmt w h.place (node.Return e) → StmtTree false (h ∷ z) w
return_tree h z e w g a k = clause_alone t.Semicolon (λ y. StmtTree false (h ∷ y) w) z e a (λ c u m n. s.return h c u e w g m n k)

pub empty_tree : (z : List Lexeme) (place : Place) (e : Option Expr) (w : Stmt) → e ≡ None → ClauseTree t.Semicolon z e → BeginsAt z place → IsStmt w place node.Empty → StmtTree false z w
empty_tree _ _ _ w n (r.no_expression c h) (begins _ _) k = s.empty c w h k
empty_tree _ place _ w n (r.expression c u q e a b h) g k = absurd (let f : Some e ≡ None = n in cc)

pub expression_tree : (z : List Lexeme) (place : Place) (e : Option Expr) (a : Expr) (w : Stmt) → e ≡ Some a → ClauseTree t.Semicolon z e → BeginsAt z place → IsStmt w place (node.Expr a) → StmtTree false z w
expression_tree _ place _ a w n (r.no_expression c h) g k = absurd (let f : None ≡ Some a = n in cc)
expression_tree _ place _ a w n (r.expression c u q e d b h) g k =
    let same : q ≡ place = same_beginning u (c ∷ []) q place b g in
    let tree : e ≡ a = cc in
    s.expression c u place a w (subst (λ z. ExprTree u z) tree d) h (subst (BeginsAt u) same b) k

pub item_tree : (u v : List Lexeme) (place : Place) (spec : Spec) (items : Vec InitDeclor) (ds : List InitDeclor) (w : Stmt) → ds ≡ items.items → SpecTree u spec → NamesTree v ds → BeginsAt u place → IsStmt w place (node.Decl spec items) → ItemTree (u ++ v) w
item_tree u _ place spec items _ w e a (r.no_name h g) b k = s.type_alone h u place spec items w a g b (sym e) k
item_tree u _ place spec items _ w e a (r.names h v ds d g) b k = s.declaration h u v place spec items w a (subst (InitDeclorTrees v) e d) g b k

pub start_tree : (z : List Lexeme) (decls : List Stmt) (e : Option Expr) → decls ≡ [] → ClauseTree t.Semicolon z e → ForStartTree z decls e
start_tree z decls e n a = subst (λ d. ForStartTree z d e) (sym n) (clause_alone t.Semicolon (λ y. ForStartTree y [] e) z e a (λ c u m h. s.evaluates c u e m h))

pub declares_tree : (z : List Lexeme) (decls : List Stmt) (d : Stmt) → decls ≡ d ∷ [] → DeclaresTree z d → ForStartTree z decls None
declares_tree z decls d n a = subst (λ y. ForStartTree z y None) (sym n) a
