-- The rules of initialisers and statements: the parts that each symbol consists of, in the order in which the code tries them.
use Rattle.std.proofs.Common.{◌≡◌, List, [], ◌∷◌, ◌++◌, refl, sym, ap, ◌∙◌, subst, append_assoc, inl, inr}
use Rattle.std.proofs.lemmas.List.{append-nil}
use Rattle.cl_grammar.specs.declared.lexeme.Lexeme.{Lexeme}
use Rattle.cl_grammar.specs.declared.terminal.Terminal.{Terminal}
use Rattle.cl_grammar.specs.declared.terminal.Terminal.TheVariants as t
use Rattle.cl_grammar.specs.Expressions.{IsA, AreAssigns, IsDeclor}
use Rattle.cl_grammar.specs.Parts.{IsAnySpec, any_spec}
use Rattle.cl_grammar.specs.Symbols as e
use Rattle.cl_grammar.specs.Symbols.{Sym, Mark, E, S, Is, Are, IsToken}
use Rattle.cl_grammar.specs.Statements as s
use Rattle.cl_grammar.specs.Statements.{MayBeAssigns, IsInit, AreInits, IsInitDeclor, AreInitDeclors, IsLabel, AreLabels, IsForStart, IsBlock, AreItems, IsItem, IsStmt, AreSections}
use Rattle.cl_grammar.proofs.Rules.{Fills, AnyOf}
use Rattle.cl_grammar.specs.StatementSymbols as x
use Rattle.cl_grammar.specs.StatementSymbols.{StmtSym, is_stmt, IsMoreInits, IsBehindInit, IsBehindDeclor, IsMoreDeclors, IsClause, IsBracketed, IsLoopHead, IsBehindSpec, MayBeElse, IsBehindLabel}

abbrev pub stmt_rules : StmtSym → List (List Sym)
stmt_rules x.Init = (Mark t.OpenBrace ∷ S x.Init ∷ S x.BehindInit ∷ []) ∷ (E e.Assign ∷ []) ∷ []
stmt_rules x.BehindInit = (Mark t.CloseBrace ∷ []) ∷ (Mark t.Comma ∷ S x.MoreInits ∷ []) ∷ []
stmt_rules x.MoreInits = (Mark t.CloseBrace ∷ []) ∷ (S x.Init ∷ S x.BehindInit ∷ []) ∷ []
stmt_rules x.InitDeclor = (E e.Declor ∷ S x.BehindDeclor ∷ []) ∷ []
stmt_rules x.BehindDeclor = (Mark t.Equals ∷ S x.Init ∷ []) ∷ [] ∷ []
stmt_rules x.InitDeclors = (S x.InitDeclor ∷ S x.MoreDeclors ∷ []) ∷ []
stmt_rules x.MoreDeclors = (Mark t.Comma ∷ S x.InitDeclors ∷ []) ∷ [] ∷ []
stmt_rules x.Label = (Mark t.Case ∷ E e.Cond ∷ Mark t.Colon ∷ []) ∷ (Mark t.Default ∷ Mark t.Colon ∷ []) ∷ []
stmt_rules (x.Clause end) = (Mark end ∷ []) ∷ (E e.Assigns ∷ Mark end ∷ []) ∷ []
stmt_rules x.Bracketed = (Mark t.OpenParen ∷ E e.Assigns ∷ Mark t.CloseParen ∷ []) ∷ []
stmt_rules x.ForStart = (E e.AnySpec ∷ S x.InitDeclors ∷ Mark t.Semicolon ∷ []) ∷ (S (x.Clause t.Semicolon) ∷ []) ∷ []
stmt_rules x.LoopHead = (Mark t.While ∷ S x.Bracketed ∷ []) ∷ (Mark t.For ∷ Mark t.OpenParen ∷ S x.ForStart ∷ S (x.Clause t.Semicolon) ∷ S (x.Clause t.CloseParen) ∷ []) ∷ []
stmt_rules x.Block = (Mark t.OpenBrace ∷ S x.Items ∷ Mark t.CloseBrace ∷ []) ∷ []
stmt_rules x.Items = (S x.Item ∷ S x.Items ∷ []) ∷ [] ∷ []
stmt_rules x.Item = (E e.AnySpec ∷ S x.BehindSpec ∷ []) ∷ (S x.Statement ∷ []) ∷ []
stmt_rules x.BehindSpec = (Mark t.Semicolon ∷ []) ∷ (S x.InitDeclors ∷ Mark t.Semicolon ∷ []) ∷ []
stmt_rules x.Statement =
    (S x.Block ∷ []) ∷ (Mark t.If ∷ S x.Bracketed ∷ S x.Statement ∷ S x.MayElse ∷ []) ∷ (S x.LoopHead ∷ S x.Statement ∷ []) ∷
    (Mark t.Do ∷ S x.Statement ∷ Mark t.While ∷ S x.Bracketed ∷ Mark t.Semicolon ∷ []) ∷ (Mark t.Switch ∷ S x.Bracketed ∷ Mark t.OpenBrace ∷ S x.Sections ∷ Mark t.CloseBrace ∷ []) ∷
    (Mark t.Break ∷ Mark t.Semicolon ∷ []) ∷ (Mark t.Continue ∷ Mark t.Semicolon ∷ []) ∷ (Mark t.Return ∷ S (x.Clause t.Semicolon) ∷ []) ∷ (S (x.Clause t.Semicolon) ∷ []) ∷ []
stmt_rules x.MayElse = (Mark t.Else ∷ S x.Statement ∷ []) ∷ [] ∷ []
stmt_rules x.Sections = (S x.Label ∷ S x.BehindLabel ∷ []) ∷ [] ∷ []
stmt_rules x.BehindLabel = (S x.Label ∷ S x.BehindLabel ∷ []) ∷ (S x.Items ∷ S x.Sections ∷ []) ∷ []

-- ---- tokens before and behind parts

pub mark_are : (k : Terminal) (xs : List Sym) (l : Lexeme) (v : List Lexeme) → IsA k l → Fills xs v → Fills (Mark k ∷ xs) (l ∷ v)
mark_are k xs l v h a = record { are = (l ∷ [], v, record { token = l; stands = h; alone = refl }, a.are, refl) }

pub part_are : (x : Sym) (xs : List Sym) (u v : List Lexeme) → Is x u → Fills xs v → Fills (x ∷ xs) (u ++ v)
part_are x xs u v h a = record { are = (u, v, h, a.are, refl) }

pub last_are : (x : Sym) (u : List Lexeme) → Is x u → Fills (x ∷ []) u
last_are x u h = record { are = (u, [], h, refl, sym (append-nil u)) }

pub none_are : Fills [] []
none_are = record { are = refl }

pub end_are : (k : Terminal) (l : Lexeme) → IsA k l → Fills (Mark k ∷ []) (l ∷ [])
end_are k l h = mark_are k [] l [] h none_are

pub from_mark : (k : Terminal) (xs : List Sym) (u : List Lexeme) (P : List Lexeme → Type 0) → ((l : Lexeme) (v : List Lexeme) → IsA k l → Fills xs v → P (l ∷ v)) → Fills (Mark k ∷ xs) u → P u
from_mark k xs u P f r = let a = r.are in let m = a.2 in subst P (sym (a.4 ∙ ap (λ z. z ++ a.1) m.alone)) (f m.token a.1 m.stands (record { are = a.3 }))

pub from_part : (x : Sym) (xs : List Sym) (u : List Lexeme) (P : List Lexeme → Type 0) → ((v w : List Lexeme) → Is x v → Fills xs w → P (v ++ w)) → Fills (x ∷ xs) u → P u
from_part x xs u P f r = let a = r.are in subst P (sym a.4) (f a.0 a.1 a.2 (record { are = a.3 }))

pub from_last : (x : Sym) (u : List Lexeme) (P : List Lexeme → Type 0) → ((v : List Lexeme) → Is x v → P v) → Fills (x ∷ []) u → P u
from_last x u P f r = let a = r.are in subst P (sym (a.4 ∙ ap (λ z. a.0 ++ z) a.3 ∙ append-nil a.0)) (f a.0 a.2)

pub from_end : (k : Terminal) (u : List Lexeme) (P : List Lexeme → Type 0) → ((l : Lexeme) → IsA k l → P (l ∷ [])) → Fills (Mark k ∷ []) u → P u
from_end k u P f a = from_mark k [] u P (λ l v h r. subst (λ z. P (l ∷ z)) (sym r.are) (f l h)) a

-- ---- what each is made of

inits_part : (c : Lexeme) (u : List Lexeme) → AreInits u → IsA t.CloseBrace c → Fills (S x.Init ∷ S x.BehindInit ∷ []) (u ++ c ∷ [])
inits_part c _ (s.last_init u a) h = part_are (S x.Init) _ u (c ∷ []) a (last_are (S x.BehindInit) (c ∷ []) (x.closed c h))
inits_part c _ (s.last_with_comma k u a b) h =
    subst (Fills (S x.Init ∷ S x.BehindInit ∷ [])) (sym (append_assoc u (k ∷ []) (c ∷ [])))
    (part_are (S x.Init) _ u (k ∷ c ∷ []) a (last_are (S x.BehindInit) (k ∷ c ∷ []) (x.listed k (c ∷ []) b (x.no_init c h))))
inits_part c _ (s.more_inits k u v a b d) h =
    subst (Fills (S x.Init ∷ S x.BehindInit ∷ [])) (sym (append_assoc u (k ∷ v) (c ∷ [])))
    (part_are (S x.Init) _ u (k ∷ (v ++ c ∷ [])) a (last_are (S x.BehindInit) (k ∷ (v ++ c ∷ [])) (x.listed k (v ++ c ∷ []) b (x.inits c v d h))))

for_part : (f o s c : Lexeme) (u v w z : List Lexeme) → IsA t.For f → IsA t.OpenParen o → IsForStart u → MayBeAssigns v → IsA t.Semicolon s → MayBeAssigns w → IsA t.CloseParen c → IsStmt z → Fills (S x.LoopHead ∷ S x.Statement ∷ []) (f ∷ o ∷ (u ++ (v ++ s ∷ (w ++ c ∷ z))))
for_part f o s c u v w z a b d g h k l m =
    let is : u ++ (v ++ s ∷ (w ++ c ∷ z)) ≡ (u ++ ((v ++ s ∷ []) ++ (w ++ c ∷ []))) ++ z =
    ap (λ y. u ++ y) (sym (append_assoc v (s ∷ []) (w ++ c ∷ z)) ∙ ap (λ y. (v ++ s ∷ []) ++ y) (sym (append_assoc w (c ∷ []) z)) ∙ sym (append_assoc (v ++ s ∷ []) (w ++ c ∷ []) z))
    ∙ sym (append_assoc u ((v ++ s ∷ []) ++ (w ++ c ∷ [])) z) in
    subst (λ y. Fills (S x.LoopHead ∷ S x.Statement ∷ []) (f ∷ o ∷ y)) (sym is)
    (part_are (S x.LoopHead) _ (f ∷ o ∷ (u ++ ((v ++ s ∷ []) ++ (w ++ c ∷ [])))) z (x.for_head f o u (v ++ s ∷ []) (w ++ c ∷ []) a b d (x.clause t.Semicolon s v g h) (x.clause t.CloseParen c w k l)) (last_are (S x.Statement) z m))

-- brackets, and what stands behind them
brackets_part : (xs : List Sym) (o c : Lexeme) (u v : List Lexeme) → IsA t.OpenParen o → AreAssigns u → IsA t.CloseParen c → Fills xs v → Fills (S x.Bracketed ∷ xs) (o ∷ (u ++ c ∷ v))
brackets_part xs o c u v a b d r = subst (λ y. Fills (S x.Bracketed ∷ xs) (o ∷ y)) (append_assoc u (c ∷ []) v) (part_are (S x.Bracketed) xs (o ∷ (u ++ c ∷ [])) v (x.bracketed o c u a b d) r)

while_part : (h o c : Lexeme) (u v : List Lexeme) → IsA t.While h → IsA t.OpenParen o → AreAssigns u → IsA t.CloseParen c → IsStmt v → Fills (S x.LoopHead ∷ S x.Statement ∷ []) (h ∷ o ∷ (u ++ c ∷ v))
while_part h o c u v a b d g k =
    subst (λ y. Fills (S x.LoopHead ∷ S x.Statement ∷ []) (h ∷ o ∷ y)) (append_assoc u (c ∷ []) v)
    (part_are (S x.LoopHead) _ (h ∷ o ∷ (u ++ c ∷ [])) v (x.while_head h (o ∷ (u ++ c ∷ [])) a (x.bracketed o c u b d g)) (last_are (S x.Statement) v k))

clause_part : (end : Terminal) (c : Lexeme) (u : List Lexeme) → MayBeAssigns u → IsA end c → AnyOf (stmt_rules (x.Clause end)) (u ++ c ∷ [])
clause_part end c _ s.none h = inl (end_are end c h)
clause_part end c _ (s.some u a) h = inr (inl (part_are (E e.Assigns) _ u (c ∷ []) a (end_are end c h)))

labels_part : (u v w : List Lexeme) → AreLabels u → AreItems v → AreSections w → Fills (S x.Label ∷ S x.BehindLabel ∷ []) (u ++ (v ++ w))
labels_part _ v w (s.last u a) b c = part_are (S x.Label) _ u (v ++ w) a (last_are (S x.BehindLabel) (v ++ w) (x.no_more_label v w b c))
labels_part _ v w (s.more u z a d) b c =
    let r = labels_part z v w d b c in
    subst (Fills (S x.Label ∷ S x.BehindLabel ∷ [])) (sym (append_assoc u z (v ++ w)))
    (part_are (S x.Label) _ u (z ++ (v ++ w)) a (last_are (S x.BehindLabel) (z ++ (v ++ w)) (from_part (S x.Label) _ (z ++ (v ++ w)) IsBehindLabel (λ p q h g. from_last (S x.BehindLabel) q (λ y. IsBehindLabel (p ++ y)) (λ y k. x.more_labels p y h k) g) r)))

statement_parts : (u : List Lexeme) → IsStmt u → AnyOf (stmt_rules x.Statement) u
statement_parts _ (s.compound u a) = inl (last_are (S x.Block) u a)
statement_parts _ (s.only_if i o c u v a b d g h) = inr (inl (mark_are t.If _ i _ a (brackets_part _ o c u v b d g (subst (Fills (S x.Statement ∷ S x.MayElse ∷ [])) (append-nil v) (part_are (S x.Statement) _ v [] h (last_are (S x.MayElse) [] x.no_else))))))
statement_parts _ (s.if_else i o c k u v w a b d g h l m) = inr (inl (mark_are t.If _ i _ a (brackets_part _ o c u (v ++ k ∷ w) b d g (part_are (S x.Statement) _ v (k ∷ w) h (last_are (S x.MayElse) (k ∷ w) (x.some_else k w l m))))))
statement_parts _ (s.while_loop h o c u v a b d g k) = inr (inr (inl (while_part h o c u v a b d g k)))
statement_parts _ (s.for_loop f o c d u v w z a b g h k l m n) = inr (inr (inl (for_part f o c d u v w z a b g h k l m n)))
statement_parts _ (s.do_loop d h o c k u v a b g l m n p) = inr (inr (inr (inl (mark_are t.Do _ d _ a (part_are (S x.Statement) _ u _ b (mark_are t.While _ h _ g (brackets_part _ o c v (k ∷ []) l m n (end_are t.Semicolon k p))))))))
statement_parts _ (s.switch h o c b d u v a g k l m n p) = inr (inr (inr (inr (inl (mark_are t.Switch _ h _ a (brackets_part _ o c u _ g k l (mark_are t.OpenBrace _ b _ m (part_are (S x.Sections) _ v (d ∷ []) n (end_are t.CloseBrace d p)))))))))
statement_parts _ (s.break h k a b) = inr (inr (inr (inr (inr (inl (mark_are t.Break _ h _ a (end_are t.Semicolon k b)))))))
statement_parts _ (s.continue h k a b) = inr (inr (inr (inr (inr (inr (inl (mark_are t.Continue _ h _ a (end_are t.Semicolon k b))))))))
statement_parts _ (s.return h k u a b c) = inr (inr (inr (inr (inr (inr (inr (inl (mark_are t.Return _ h _ a (last_are (S (x.Clause t.Semicolon)) (u ++ k ∷ []) (x.clause t.Semicolon k u b c))))))))))
statement_parts _ (s.empty k a) = inr (inr (inr (inr (inr (inr (inr (inr (inl (last_are (S (x.Clause t.Semicolon)) (k ∷ []) (x.clause t.Semicolon k [] s.none a))))))))))
statement_parts _ (s.expression k u a b) = inr (inr (inr (inr (inr (inr (inr (inr (inl (last_are (S (x.Clause t.Semicolon)) (u ++ k ∷ []) (x.clause t.Semicolon k u (s.some u a) b))))))))))

pub stmt_rows_of : (y : StmtSym) (u : List Lexeme) → is_stmt y u → AnyOf (stmt_rules y) u
stmt_rows_of x.Init _ (s.value u a) = inr (inl (last_are (E e.Assign) u a))
stmt_rows_of x.Init _ (s.braces o c u a b d) = inl (mark_are t.OpenBrace _ o _ a (inits_part c u b d))
stmt_rows_of x.BehindInit _ (x.closed c a) = inl (end_are t.CloseBrace c a)
stmt_rows_of x.BehindInit _ (x.listed k u a b) = inr (inl (mark_are t.Comma _ k u a (last_are (S x.MoreInits) u b)))
stmt_rows_of x.MoreInits _ (x.no_init c a) = inl (end_are t.CloseBrace c a)
stmt_rows_of x.MoreInits _ (x.inits c u a b) = inr (inl (inits_part c u a b))
stmt_rows_of x.InitDeclor _ (s.bare u a) = inl (subst (Fills (E e.Declor ∷ S x.BehindDeclor ∷ [])) (append-nil u) (part_are (E e.Declor) _ u [] a (last_are (S x.BehindDeclor) [] x.no_equals)))
stmt_rows_of x.InitDeclor _ (s.initialised k u v a b c) = inl (part_are (E e.Declor) _ u (k ∷ v) a (last_are (S x.BehindDeclor) (k ∷ v) (x.equals k v b c)))
stmt_rows_of x.BehindDeclor _ x.no_equals = inr (inl none_are)
stmt_rows_of x.BehindDeclor _ (x.equals k u a b) = inl (mark_are t.Equals _ k u a (last_are (S x.Init) u b))
stmt_rows_of x.InitDeclors _ (s.last u a) = inl (subst (Fills (S x.InitDeclor ∷ S x.MoreDeclors ∷ [])) (append-nil u) (part_are (S x.InitDeclor) _ u [] a (last_are (S x.MoreDeclors) [] x.no_declor)))
stmt_rows_of x.InitDeclors _ (s.more c u v a b d) = inl (part_are (S x.InitDeclor) _ u (c ∷ v) a (last_are (S x.MoreDeclors) (c ∷ v) (x.declors c v b d)))
stmt_rows_of x.MoreDeclors _ x.no_declor = inr (inl none_are)
stmt_rows_of x.MoreDeclors _ (x.declors c u a b) = inl (mark_are t.Comma _ c u a (last_are (S x.InitDeclors) u b))
stmt_rows_of x.Label _ (s.case l k u a b c) = inl (mark_are t.Case _ l _ a (part_are (E e.Cond) _ u (k ∷ []) b (end_are t.Colon k c)))
stmt_rows_of x.Label _ (s.default l k a b) = inr (inl (mark_are t.Default _ l _ a (end_are t.Colon k b)))
stmt_rows_of (x.Clause end) _ (x.clause _ c u a b) = clause_part end c u a b
stmt_rows_of x.Bracketed _ (x.bracketed o c u a b d) = inl (mark_are t.OpenParen _ o _ a (part_are (E e.Assigns) _ u (c ∷ []) b (end_are t.CloseParen c d)))
stmt_rows_of x.ForStart _ (s.declares vector k u v a b c) = inl (part_are (E e.AnySpec) _ u _ (any_spec vector u a) (part_are (S x.InitDeclors) _ v (k ∷ []) b (end_are t.Semicolon k c)))
stmt_rows_of x.ForStart _ (s.evaluates k u a b) = inr (inl (last_are (S (x.Clause t.Semicolon)) (u ++ k ∷ []) (x.clause t.Semicolon k u a b)))
stmt_rows_of x.LoopHead _ (x.while_head h u a b) = inl (mark_are t.While _ h u a (last_are (S x.Bracketed) u b))
stmt_rows_of x.LoopHead _ (x.for_head f o u v w a b c d g) = inr (inl (mark_are t.For _ f _ a (mark_are t.OpenParen _ o _ b (part_are (S x.ForStart) _ u _ c (part_are (S (x.Clause t.Semicolon)) _ v w d (last_are (S (x.Clause t.CloseParen)) w g))))))
stmt_rows_of x.Block _ (s.block o c u a b d) = inl (mark_are t.OpenBrace _ o _ a (part_are (S x.Items) _ u (c ∷ []) b (end_are t.CloseBrace c d)))
stmt_rows_of x.Items _ s.no_item = inr (inl none_are)
stmt_rows_of x.Items _ (s.more_items u v a b) = inl (part_are (S x.Item) _ u v a (last_are (S x.Items) v b))
stmt_rows_of x.Item _ (s.type_alone vector k u a b) = inl (part_are (E e.AnySpec) _ u _ (any_spec vector u a) (last_are (S x.BehindSpec) (k ∷ []) (x.no_name k b)))
stmt_rows_of x.Item _ (s.declaration vector k u v a b c) = inl (part_are (E e.AnySpec) _ u _ (any_spec vector u a) (last_are (S x.BehindSpec) (v ++ k ∷ []) (x.names k v b c)))
stmt_rows_of x.Item _ (s.statement u a) = inr (inl (last_are (S x.Statement) u a))
stmt_rows_of x.BehindSpec _ (x.no_name k a) = inl (end_are t.Semicolon k a)
stmt_rows_of x.BehindSpec _ (x.names k u a b) = inr (inl (part_are (S x.InitDeclors) _ u (k ∷ []) a (end_are t.Semicolon k b)))
stmt_rows_of x.Statement u a = statement_parts u a
stmt_rows_of x.MayElse _ x.no_else = inr (inl none_are)
stmt_rows_of x.MayElse _ (x.some_else k u a b) = inl (mark_are t.Else _ k u a (last_are (S x.Statement) u b))
stmt_rows_of x.Sections _ s.no_section = inr (inl none_are)
stmt_rows_of x.Sections _ (s.more_sections u v w a b c) = inl (labels_part u v w a b c)
stmt_rows_of x.BehindLabel _ (x.more_labels u v a b) = inl (part_are (S x.Label) _ u v a (last_are (S x.BehindLabel) v b))
stmt_rows_of x.BehindLabel _ (x.no_more_label u v a b) = inr (inl (part_are (S x.Items) _ u v a (last_are (S x.Sections) v b)))

-- ---- what parts make

in_brackets : (z y : List Lexeme) (P : List Lexeme → Type 0) → IsBracketed z → ((o c : Lexeme) (u : List Lexeme) → IsA t.OpenParen o → AreAssigns u → IsA t.CloseParen c → P (o ∷ (u ++ c ∷ y))) → P (z ++ y)
in_brackets _ y P (x.bracketed o c u a b d) f = subst P (ap (λ z. o ∷ z) (sym (append_assoc u (c ∷ []) y))) (f o c u a b d)

inits_made : (p z : List Lexeme) (P : List Lexeme → Type 0) → IsInit p → IsBehindInit z → ((c : Lexeme) (w : List Lexeme) → AreInits w → IsA t.CloseBrace c → P (w ++ c ∷ [])) → P (p ++ z)
inits_made p _ P a (x.closed c h) f = f c p (s.last_init p a) h
inits_made p _ P a (x.listed k _ h (x.no_init c g)) f = subst P (append_assoc p (k ∷ []) (c ∷ [])) (f c (p ++ k ∷ []) (s.last_with_comma k p a h) g)
inits_made p _ P a (x.listed k _ h (x.inits c u b g)) f = subst P (append_assoc p (k ∷ u) (c ∷ [])) (f c (p ++ k ∷ u) (s.more_inits k p u a h b) g)

init_declor_made : (p z : List Lexeme) → IsDeclor p → IsBehindDeclor z → IsInitDeclor (p ++ z)
init_declor_made p _ a x.no_equals = subst IsInitDeclor (sym (append-nil p)) (s.bare p a)
init_declor_made p _ a (x.equals k u h b) = s.initialised k p u a h b

init_declors_made : (p z : List Lexeme) → IsInitDeclor p → IsMoreDeclors z → AreInitDeclors (p ++ z)
init_declors_made p _ a x.no_declor = subst AreInitDeclors (sym (append-nil p)) (s.last p a)
init_declors_made p _ a (x.declors c u h b) = s.more c p u a h b

declares_made : (k : Lexeme) (p v : List Lexeme) → IsAnySpec p → AreInitDeclors v → IsA t.Semicolon k → IsForStart (p ++ (v ++ k ∷ []))
declares_made k _ v (any_spec vector u a) b c = s.declares vector k u v a b c

evaluates_made : (u : List Lexeme) → IsClause t.Semicolon u → IsForStart u
evaluates_made _ (x.clause _ c u a b) = s.evaluates c u a b

item_made : (p z : List Lexeme) → IsAnySpec p → IsBehindSpec z → IsItem (p ++ z)
item_made _ _ (any_spec vector u a) (x.no_name k b) = s.type_alone vector k u a b
item_made _ _ (any_spec vector u a) (x.names k v b c) = s.declaration vector k u v a b c

if_made : (i : Lexeme) (z v w : List Lexeme) → IsA t.If i → IsBracketed z → IsStmt v → MayBeElse w → IsStmt (i ∷ (z ++ (v ++ w)))
if_made i z v _ h b a x.no_else = subst (λ y. IsStmt (i ∷ (z ++ y))) (sym (append-nil v)) (in_brackets z v (λ y. IsStmt (i ∷ y)) b (λ o c u d g k. s.only_if i o c u v h d g k a))
if_made i z v _ h b a (x.some_else e w k d) = in_brackets z (v ++ e ∷ w) (λ y. IsStmt (i ∷ y)) b (λ o c u l m n. s.if_else i o c e u v w h l m n a k d)

while_made : (h : Lexeme) (z v : List Lexeme) → IsA t.While h → IsBracketed z → IsStmt v → IsStmt (h ∷ (z ++ v))
while_made h z v a b d = in_brackets z v (λ y. IsStmt (h ∷ y)) b (λ o c u l m n. s.while_loop h o c u v a l m n d)

for_made : (f o : Lexeme) (u v w z : List Lexeme) → IsA t.For f → IsA t.OpenParen o → IsForStart u → IsClause t.Semicolon v → IsClause t.CloseParen w → IsStmt z → IsStmt (f ∷ o ∷ ((u ++ (v ++ w)) ++ z))
for_made f o u _ _ z a b d (x.clause _ c v g h) (x.clause _ k w l m) n =
    let is : (u ++ ((v ++ c ∷ []) ++ (w ++ k ∷ []))) ++ z ≡ u ++ (v ++ c ∷ (w ++ k ∷ z)) =
    append_assoc u ((v ++ c ∷ []) ++ (w ++ k ∷ [])) z ∙ ap (λ y. u ++ y) (append_assoc (v ++ c ∷ []) (w ++ k ∷ []) z ∙ ap (λ y. (v ++ c ∷ []) ++ y) (append_assoc w (k ∷ []) z) ∙ append_assoc v (c ∷ []) (w ++ k ∷ z)) in
    subst (λ y. IsStmt (f ∷ o ∷ y)) (sym is) (s.for_loop f o c k u v w z a b d g h l m n)

loop_made : (p v : List Lexeme) → IsLoopHead p → IsStmt v → IsStmt (p ++ v)
loop_made _ v (x.while_head h u a b) d = while_made h u v a b d
loop_made _ z (x.for_head f o u v w a b d g h) n = for_made f o u v w z a b d g h n

do_made : (d h k : Lexeme) (u z : List Lexeme) → IsA t.Do d → IsStmt u → IsA t.While h → IsBracketed z → IsA t.Semicolon k → IsStmt (d ∷ (u ++ h ∷ (z ++ k ∷ [])))
do_made d h k u z a b g l m = in_brackets z (k ∷ []) (λ y. IsStmt (d ∷ (u ++ h ∷ y))) l (λ o c v n p q. s.do_loop d h o c k u v a b g n p q m)

switch_made : (h b d : Lexeme) (z v : List Lexeme) → IsA t.Switch h → IsBracketed z → IsA t.OpenBrace b → AreSections v → IsA t.CloseBrace d → IsStmt (h ∷ (z ++ b ∷ (v ++ d ∷ [])))
switch_made h b d z v a l m n p = in_brackets z (b ∷ (v ++ d ∷ [])) (λ y. IsStmt (h ∷ y)) l (λ o c u g k q. s.switch h o c b d u v a g k q m n p)

return_made : (h : Lexeme) (u : List Lexeme) → IsA t.Return h → IsClause t.Semicolon u → IsStmt (h ∷ u)
return_made h _ a (x.clause _ c u b d) = s.return h c u a b d

evaluated_made : (u : List Lexeme) → IsClause t.Semicolon u → IsStmt u
evaluated_made _ (x.clause _ c _ s.none d) = s.empty c d
evaluated_made _ (x.clause _ c _ (s.some u b) d) = s.expression c u b d

-- labels, items and sections behind a label are one section or more
sections_made : (p z : List Lexeme) → IsLabel p → IsBehindLabel z → AreSections (p ++ z)
sections_made p _ a (x.no_more_label u v b c) = s.more_sections p u v (s.last p a) b c
sections_made p _ a (x.more_labels u v b c) = s.more_sections p [] (u ++ v) (s.last p a) s.no_item (sections_made u v b c)

statement_made : (u : List Lexeme) → AnyOf (stmt_rules x.Statement) u → IsStmt u
statement_made u (inl r) = from_last (S x.Block) u IsStmt (λ v a. s.compound v a) r
statement_made u (inr (inl r)) = from_mark t.If _ u IsStmt (λ i v h q. from_part (S x.Bracketed) _ v (λ z. IsStmt (i ∷ z)) (λ a b g l. from_part (S x.Statement) _ b (λ z. IsStmt (i ∷ (a ++ z))) (λ c d m n. from_last (S x.MayElse) d (λ z. IsStmt (i ∷ (a ++ (c ++ z)))) (λ k f. if_made i a c k h g m f) n) l) q) r
statement_made u (inr (inr (inl r))) = from_part (S x.LoopHead) _ u IsStmt (λ a b g l. from_last (S x.Statement) b (λ z. IsStmt (a ++ z)) (λ k f. loop_made a k g f) l) r
statement_made u (inr (inr (inr (inl r)))) = from_mark t.Do _ u IsStmt (λ d v h q. from_part (S x.Statement) _ v (λ z. IsStmt (d ∷ z)) (λ a b g l. from_mark t.While _ b (λ z. IsStmt (d ∷ (a ++ z))) (λ w c m n. from_part (S x.Bracketed) _ c (λ z. IsStmt (d ∷ (a ++ w ∷ z))) (λ i j y f. from_end t.Semicolon j (λ z. IsStmt (d ∷ (a ++ w ∷ (i ++ z)))) (λ k p. do_made d w k a i h g m y p) f) n) l) q) r
statement_made u (inr (inr (inr (inr (inl r))))) = from_mark t.Switch _ u IsStmt (λ d v h q. from_part (S x.Bracketed) _ v (λ z. IsStmt (d ∷ z)) (λ a b g l. from_mark t.OpenBrace _ b (λ z. IsStmt (d ∷ (a ++ z))) (λ w c m n. from_part (S x.Sections) _ c (λ z. IsStmt (d ∷ (a ++ w ∷ z))) (λ i j y f. from_end t.CloseBrace j (λ z. IsStmt (d ∷ (a ++ w ∷ (i ++ z)))) (λ k p. switch_made d w k a i h g m y p) f) n) l) q) r
statement_made u (inr (inr (inr (inr (inr (inl r)))))) = from_mark t.Break _ u IsStmt (λ d v h q. from_end t.Semicolon v (λ z. IsStmt (d ∷ z)) (λ k p. s.break d k h p) q) r
statement_made u (inr (inr (inr (inr (inr (inr (inl r))))))) = from_mark t.Continue _ u IsStmt (λ d v h q. from_end t.Semicolon v (λ z. IsStmt (d ∷ z)) (λ k p. s.continue d k h p) q) r
statement_made u (inr (inr (inr (inr (inr (inr (inr (inl r)))))))) = from_mark t.Return _ u IsStmt (λ d v h q. from_last (S (x.Clause t.Semicolon)) v (λ z. IsStmt (d ∷ z)) (λ k p. return_made d k h p) q) r
statement_made u (inr (inr (inr (inr (inr (inr (inr (inr (inl r))))))))) = from_last (S (x.Clause t.Semicolon)) u IsStmt (λ k p. evaluated_made k p) r
statement_made u (inr (inr (inr (inr (inr (inr (inr (inr (inr r))))))))) = absurd r

one_clause : (end : Terminal) (u : List Lexeme) → AnyOf (stmt_rules (x.Clause end)) u → IsClause end u
one_clause end u (inl r) = from_end end u (IsClause end) (λ c h. x.clause end c [] s.none h) r
one_clause end u (inr (inl r)) = from_part (E e.Assigns) _ u (IsClause end) (λ a b g l. from_end end b (λ z. IsClause end (a ++ z)) (λ c h. x.clause end c a (s.some a g) h) l) r
one_clause end u (inr (inr r)) = absurd r

pub stmt_part_of : (y : StmtSym) (u : List Lexeme) → AnyOf (stmt_rules y) u → is_stmt y u
stmt_part_of x.Init u (inl r) = from_mark t.OpenBrace _ u IsInit (λ o v h q. from_part (S x.Init) _ v (λ z. IsInit (o ∷ z)) (λ a b g l. from_last (S x.BehindInit) b (λ z. IsInit (o ∷ (a ++ z))) (λ k p. inits_made a k (λ z. IsInit (o ∷ z)) g p (λ c w m n. s.braces o c w h m n)) l) q) r
stmt_part_of x.Init u (inr (inl r)) = from_last (E e.Assign) u IsInit (λ v a. s.value v a) r
stmt_part_of x.Init u (inr (inr r)) = absurd r
stmt_part_of x.BehindInit u (inl r) = from_end t.CloseBrace u IsBehindInit (λ c h. x.closed c h) r
stmt_part_of x.BehindInit u (inr (inl r)) = from_mark t.Comma _ u IsBehindInit (λ k v h q. from_last (S x.MoreInits) v (λ z. IsBehindInit (k ∷ z)) (λ w a. x.listed k w h a) q) r
stmt_part_of x.BehindInit u (inr (inr r)) = absurd r
stmt_part_of x.MoreInits u (inl r) = from_end t.CloseBrace u IsMoreInits (λ c h. x.no_init c h) r
stmt_part_of x.MoreInits u (inr (inl r)) = from_part (S x.Init) _ u IsMoreInits (λ a b g l. from_last (S x.BehindInit) b (λ z. IsMoreInits (a ++ z)) (λ k p. inits_made a k IsMoreInits g p (λ c w m n. x.inits c w m n)) l) r
stmt_part_of x.MoreInits u (inr (inr r)) = absurd r
stmt_part_of x.InitDeclor u (inl r) = from_part (E e.Declor) _ u IsInitDeclor (λ a b g l. from_last (S x.BehindDeclor) b (λ z. IsInitDeclor (a ++ z)) (λ k p. init_declor_made a k g p) l) r
stmt_part_of x.InitDeclor u (inr r) = absurd r
stmt_part_of x.BehindDeclor u (inl r) = from_mark t.Equals _ u IsBehindDeclor (λ k v h q. from_last (S x.Init) v (λ z. IsBehindDeclor (k ∷ z)) (λ w a. x.equals k w h a) q) r
stmt_part_of x.BehindDeclor u (inr (inl r)) = subst IsBehindDeclor (sym r.are) x.no_equals
stmt_part_of x.BehindDeclor u (inr (inr r)) = absurd r
stmt_part_of x.InitDeclors u (inl r) = from_part (S x.InitDeclor) _ u AreInitDeclors (λ a b g l. from_last (S x.MoreDeclors) b (λ z. AreInitDeclors (a ++ z)) (λ k p. init_declors_made a k g p) l) r
stmt_part_of x.InitDeclors u (inr r) = absurd r
stmt_part_of x.MoreDeclors u (inl r) = from_mark t.Comma _ u IsMoreDeclors (λ k v h q. from_last (S x.InitDeclors) v (λ z. IsMoreDeclors (k ∷ z)) (λ w a. x.declors k w h a) q) r
stmt_part_of x.MoreDeclors u (inr (inl r)) = subst IsMoreDeclors (sym r.are) x.no_declor
stmt_part_of x.MoreDeclors u (inr (inr r)) = absurd r
stmt_part_of x.Label u (inl r) = from_mark t.Case _ u IsLabel (λ d v h q. from_part (E e.Cond) _ v (λ z. IsLabel (d ∷ z)) (λ a b g l. from_end t.Colon b (λ z. IsLabel (d ∷ (a ++ z))) (λ k p. s.case d k a h g p) l) q) r
stmt_part_of x.Label u (inr (inl r)) = from_mark t.Default _ u IsLabel (λ d v h q. from_end t.Colon v (λ z. IsLabel (d ∷ z)) (λ k p. s.default d k h p) q) r
stmt_part_of x.Label u (inr (inr r)) = absurd r
stmt_part_of (x.Clause end) u r = one_clause end u r
stmt_part_of x.Bracketed u (inl r) = from_mark t.OpenParen _ u IsBracketed (λ o v h q. from_part (E e.Assigns) _ v (λ z. IsBracketed (o ∷ z)) (λ a b g l. from_end t.CloseParen b (λ z. IsBracketed (o ∷ (a ++ z))) (λ c p. x.bracketed o c a h g p) l) q) r
stmt_part_of x.Bracketed u (inr r) = absurd r
stmt_part_of x.ForStart u (inl r) = from_part (E e.AnySpec) _ u IsForStart (λ a b g l. from_part (S x.InitDeclors) _ b (λ z. IsForStart (a ++ z)) (λ c d m n. from_end t.Semicolon d (λ z. IsForStart (a ++ (c ++ z))) (λ k p. declares_made k a c g m p) n) l) r
stmt_part_of x.ForStart u (inr (inl r)) = from_last (S (x.Clause t.Semicolon)) u IsForStart (λ v a. evaluates_made v a) r
stmt_part_of x.ForStart u (inr (inr r)) = absurd r
stmt_part_of x.LoopHead u (inl r) = from_mark t.While _ u IsLoopHead (λ k v h q. from_last (S x.Bracketed) v (λ z. IsLoopHead (k ∷ z)) (λ w a. x.while_head k w h a) q) r
stmt_part_of x.LoopHead u (inr (inl r)) = from_mark t.For _ u IsLoopHead (λ f v h q. from_mark t.OpenParen _ v (λ z. IsLoopHead (f ∷ z)) (λ o w m n. from_part (S x.ForStart) _ w (λ z. IsLoopHead (f ∷ o ∷ z)) (λ a b g l. from_part (S (x.Clause t.Semicolon)) _ b (λ z. IsLoopHead (f ∷ o ∷ (a ++ z))) (λ c d i j. from_last (S (x.Clause t.CloseParen)) d (λ z. IsLoopHead (f ∷ o ∷ (a ++ (c ++ z)))) (λ k p. x.for_head f o a c k h m g i p) j) l) n) q) r
stmt_part_of x.LoopHead u (inr (inr r)) = absurd r
stmt_part_of x.Block u (inl r) = from_mark t.OpenBrace _ u IsBlock (λ o v h q. from_part (S x.Items) _ v (λ z. IsBlock (o ∷ z)) (λ a b g l. from_end t.CloseBrace b (λ z. IsBlock (o ∷ (a ++ z))) (λ c p. s.block o c a h g p) l) q) r
stmt_part_of x.Block u (inr r) = absurd r
stmt_part_of x.Items u (inl r) = from_part (S x.Item) _ u AreItems (λ a b g l. from_last (S x.Items) b (λ z. AreItems (a ++ z)) (λ k p. s.more_items a k g p) l) r
stmt_part_of x.Items u (inr (inl r)) = subst AreItems (sym r.are) s.no_item
stmt_part_of x.Items u (inr (inr r)) = absurd r
stmt_part_of x.Item u (inl r) = from_part (E e.AnySpec) _ u IsItem (λ a b g l. from_last (S x.BehindSpec) b (λ z. IsItem (a ++ z)) (λ k p. item_made a k g p) l) r
stmt_part_of x.Item u (inr (inl r)) = from_last (S x.Statement) u IsItem (λ v a. s.statement v a) r
stmt_part_of x.Item u (inr (inr r)) = absurd r
stmt_part_of x.BehindSpec u (inl r) = from_end t.Semicolon u IsBehindSpec (λ c h. x.no_name c h) r
stmt_part_of x.BehindSpec u (inr (inl r)) = from_part (S x.InitDeclors) _ u IsBehindSpec (λ a b g l. from_end t.Semicolon b (λ z. IsBehindSpec (a ++ z)) (λ k p. x.names k a g p) l) r
stmt_part_of x.BehindSpec u (inr (inr r)) = absurd r
stmt_part_of x.Statement u r = statement_made u r
stmt_part_of x.MayElse u (inl r) = from_mark t.Else _ u MayBeElse (λ k v h q. from_last (S x.Statement) v (λ z. MayBeElse (k ∷ z)) (λ w a. x.some_else k w h a) q) r
stmt_part_of x.MayElse u (inr (inl r)) = subst MayBeElse (sym r.are) x.no_else
stmt_part_of x.MayElse u (inr (inr r)) = absurd r
stmt_part_of x.Sections u (inl r) = from_part (S x.Label) _ u AreSections (λ a b g l. from_last (S x.BehindLabel) b (λ z. AreSections (a ++ z)) (λ k p. sections_made a k g p) l) r
stmt_part_of x.Sections u (inr (inl r)) = subst AreSections (sym r.are) s.no_section
stmt_part_of x.Sections u (inr (inr r)) = absurd r
stmt_part_of x.BehindLabel u (inl r) = from_part (S x.Label) _ u IsBehindLabel (λ a b g l. from_last (S x.BehindLabel) b (λ z. IsBehindLabel (a ++ z)) (λ k p. x.more_labels a k g p) l) r
stmt_part_of x.BehindLabel u (inr (inl r)) = from_part (S x.Items) _ u IsBehindLabel (λ a b g l. from_last (S x.Sections) b (λ z. IsBehindLabel (a ++ z)) (λ k p. x.no_more_label a k g p) l) r
stmt_part_of x.BehindLabel u (inr (inr r)) = absurd r
