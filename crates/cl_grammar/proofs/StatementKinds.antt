-- What may stand first in a part of statements and of declarations.
use Rattle.std.proofs.Common.{◌≡◌, ℕ, Bool, true, false, List, [], ◌∷◌, ◌++◌, refl, ap, ◌⊎◌, inl, inr}
use Rattle.std.specs.Prelude.{not, ◌||◌, ◌==◌}
use Rattle.cl_grammar.specs.declared.lexeme.Lexeme.{Lexeme}
use Rattle.cl_grammar.specs.declared.terminal.Terminal.{Terminal}
use Rattle.cl_grammar.specs.declared.terminal.Terminal.TheVariants as t
use Rattle.cl_grammar.specs.Expressions.{IsA}
use Rattle.cl_grammar.specs.Statements as s
use Rattle.cl_grammar.specs.Statements.{MayBeAssigns, IsInit, AreInits, IsInitDeclor, AreInitDeclors, IsLabel, AreLabels, IsForStart, IsBlock, AreItems, IsItem, IsStmt, AreSections}
use Rattle.cl_grammar.specs.StatementSymbols as x
use Rattle.cl_grammar.specs.StatementSymbols.{StmtSym, is_stmt, stmt_continues, IsMoreInits, IsBehindInit, IsBehindDeclor, IsMoreDeclors, IsClause, IsBracketed, IsLoopHead, IsBehindSpec, MayBeElse, IsBehindLabel, is_behind_init, is_behind_declor, is_behind_declors, is_behind_items, is_behind_sections}
use Rattle.cl_grammar.proofs.TerminalKinds.{kind, has}
use Rattle.cl_grammar.proofs.Firsts.{Begins, begins, begins_more}
use Rattle.cl_grammar.proofs.ExpressionStarts.{expr_kinds, type_kinds, wider, of_mark, self_kind, joined_first, assign_begins, assigns_begins, any_spec_begins, declor_begins}

abbrev pub init_kinds : List ℕ
init_kinds = 41 ∷ 1 ∷ 3 ∷ 36 ∷ 37 ∷ 49 ∷ 50 ∷ 51 ∷ 52 ∷ 53 ∷ 54 ∷ 55 ∷ 56 ∷ []

abbrev pub more_inits_kinds : List ℕ
more_inits_kinds = 42 ∷ 41 ∷ 1 ∷ 3 ∷ 36 ∷ 37 ∷ 49 ∷ 50 ∷ 51 ∷ 52 ∷ 53 ∷ 54 ∷ 55 ∷ 56 ∷ []

abbrev pub for_start_kinds : List ℕ
for_start_kinds = 44 ∷ 2 ∷ 9 ∷ 10 ∷ 12 ∷ 13 ∷ 14 ∷ 15 ∷ 16 ∷ 17 ∷ 18 ∷ 19 ∷ 20 ∷ 21 ∷ 22 ∷ 23 ∷ 24 ∷ 62 ∷ 1 ∷ 3 ∷ 36 ∷ 37 ∷ 49 ∷ 50 ∷ 51 ∷ 52 ∷ 53 ∷ 54 ∷ 55 ∷ 56 ∷ []

abbrev pub statement_kinds : List ℕ
statement_kinds = 41 ∷ 44 ∷ 25 ∷ 27 ∷ 28 ∷ 29 ∷ 30 ∷ 33 ∷ 34 ∷ 35 ∷ 1 ∷ 3 ∷ 36 ∷ 37 ∷ 49 ∷ 50 ∷ 51 ∷ 52 ∷ 53 ∷ 54 ∷ 55 ∷ 56 ∷ []

abbrev pub item_kinds : List ℕ
item_kinds = 41 ∷ 44 ∷ 25 ∷ 27 ∷ 28 ∷ 29 ∷ 30 ∷ 33 ∷ 34 ∷ 35 ∷ 1 ∷ 3 ∷ 36 ∷ 37 ∷ 49 ∷ 50 ∷ 51 ∷ 52 ∷ 53 ∷ 54 ∷ 55 ∷ 56 ∷ 2 ∷ 9 ∷ 10 ∷ 12 ∷ 13 ∷ 14 ∷ 15 ∷ 16 ∷ 17 ∷ 18 ∷ 19 ∷ 20 ∷ 21 ∷ 22 ∷ 23 ∷ 24 ∷ 62 ∷ []

abbrev pub behind_label_kinds : List ℕ
behind_label_kinds = 31 ∷ 32 ∷ 41 ∷ 44 ∷ 25 ∷ 27 ∷ 28 ∷ 29 ∷ 30 ∷ 33 ∷ 34 ∷ 35 ∷ 1 ∷ 3 ∷ 36 ∷ 37 ∷ 49 ∷ 50 ∷ 51 ∷ 52 ∷ 53 ∷ 54 ∷ 55 ∷ 56 ∷ 2 ∷ 9 ∷ 10 ∷ 12 ∷ 13 ∷ 14 ∷ 15 ∷ 16 ∷ 17 ∷ 18 ∷ 19 ∷ 20 ∷ 21 ∷ 22 ∷ 23 ∷ 24 ∷ 62 ∷ []

-- the kinds that begin a part of statements
abbrev pub stmt_firsts : StmtSym → List ℕ
stmt_firsts x.Init = init_kinds
stmt_firsts x.BehindInit = 42 ∷ 43 ∷ []
stmt_firsts x.MoreInits = more_inits_kinds
stmt_firsts x.InitDeclor = 1 ∷ 54 ∷ []
stmt_firsts x.BehindDeclor = 58 ∷ []
stmt_firsts x.InitDeclors = 1 ∷ 54 ∷ []
stmt_firsts x.MoreDeclors = 43 ∷ []
stmt_firsts x.Label = 31 ∷ 32 ∷ []
stmt_firsts (x.Clause end) = kind end ∷ expr_kinds
stmt_firsts x.Bracketed = 37 ∷ []
stmt_firsts x.ForStart = for_start_kinds
stmt_firsts x.LoopHead = 27 ∷ 29 ∷ []
stmt_firsts x.Block = 41 ∷ []
stmt_firsts x.Items = item_kinds
stmt_firsts x.Item = item_kinds
stmt_firsts x.BehindSpec = 44 ∷ 1 ∷ 54 ∷ []
stmt_firsts x.Statement = statement_kinds
stmt_firsts x.MayElse = 26 ∷ []
stmt_firsts x.Sections = 31 ∷ 32 ∷ []
stmt_firsts x.BehindLabel = behind_label_kinds

-- the parts that may be no tokens
abbrev pub stmt_empties : StmtSym → Bool
stmt_empties x.BehindDeclor = true
stmt_empties x.MoreDeclors = true
stmt_empties x.Items = true
stmt_empties x.MayElse = true
stmt_empties x.Sections = true
stmt_empties x.BehindLabel = true
stmt_empties _ = false

abbrev pub stmt_continues_kind : StmtSym → ℕ → Bool
stmt_continues_kind x.Init k = not (has (42 ∷ 43 ∷ 44 ∷ []) k)
stmt_continues_kind x.InitDeclor k = not (has (43 ∷ 44 ∷ []) k)
stmt_continues_kind x.BehindDeclor k = not (has (43 ∷ 44 ∷ []) k)
stmt_continues_kind x.InitDeclors k = not (has (44 ∷ []) k)
stmt_continues_kind x.MoreDeclors k = not (has (44 ∷ []) k)
stmt_continues_kind x.Items k = not (has (42 ∷ 31 ∷ 32 ∷ []) k)
stmt_continues_kind x.Sections k = not (has (42 ∷ []) k)
stmt_continues_kind x.BehindLabel k = not (has (42 ∷ []) k)
stmt_continues_kind _ k = false

behind_init_kind : (t : Terminal) → is_behind_init t ≡ has (42 ∷ 43 ∷ 44 ∷ []) (kind t)
behind_init_kind (t.TypeName true) = refl
behind_init_kind (t.TypeName false) = refl
behind_init_kind _ = refl

behind_declor_kind : (t : Terminal) → is_behind_declor t ≡ has (43 ∷ 44 ∷ []) (kind t)
behind_declor_kind (t.TypeName true) = refl
behind_declor_kind (t.TypeName false) = refl
behind_declor_kind _ = refl

behind_declors_kind : (t : Terminal) → is_behind_declors t ≡ has (44 ∷ []) (kind t)
behind_declors_kind (t.TypeName true) = refl
behind_declors_kind (t.TypeName false) = refl
behind_declors_kind _ = refl

behind_items_kind : (t : Terminal) → is_behind_items t ≡ has (42 ∷ 31 ∷ 32 ∷ []) (kind t)
behind_items_kind (t.TypeName true) = refl
behind_items_kind (t.TypeName false) = refl
behind_items_kind _ = refl

behind_sections_kind : (t : Terminal) → is_behind_sections t ≡ has (42 ∷ []) (kind t)
behind_sections_kind (t.TypeName true) = refl
behind_sections_kind (t.TypeName false) = refl
behind_sections_kind _ = refl

pub stmt_tail : (x : StmtSym) (t : Terminal) → stmt_continues x t ≡ stmt_continues_kind x (kind t)
stmt_tail x.Init t = ap not (behind_init_kind t)
stmt_tail x.InitDeclor t = ap not (behind_declor_kind t)
stmt_tail x.BehindDeclor t = ap not (behind_declor_kind t)
stmt_tail x.InitDeclors t = ap not (behind_declors_kind t)
stmt_tail x.MoreDeclors t = ap not (behind_declors_kind t)
stmt_tail x.Items t = ap not (behind_items_kind t)
stmt_tail x.Sections t = ap not (behind_sections_kind t)
stmt_tail x.BehindLabel t = ap not (behind_sections_kind t)
stmt_tail x.BehindInit t = refl
stmt_tail x.MoreInits t = refl
stmt_tail x.Label t = refl
stmt_tail (x.Clause end) t = refl
stmt_tail x.Bracketed t = refl
stmt_tail x.ForStart t = refl
stmt_tail x.LoopHead t = refl
stmt_tail x.Block t = refl
stmt_tail x.Item t = refl
stmt_tail x.BehindSpec t = refl
stmt_tail x.Statement t = refl
stmt_tail x.MayElse t = refl

init_begins : (u : List Lexeme) → IsInit u → Begins init_kinds u
init_begins _ (s.value u a) = wider expr_kinds init_kinds u refl (assign_begins u a)
init_begins _ (s.braces o c u a b d) = of_mark t.OpenBrace _ o _ refl a

inits_begin : (u : List Lexeme) → AreInits u → Begins init_kinds u
inits_begin _ (s.last_init u a) = init_begins u a
inits_begin _ (s.last_with_comma c u a b) = begins_more _ u _ (init_begins u a)
inits_begin _ (s.more_inits c u v a b d) = begins_more _ u _ (init_begins u a)

more_inits_begin : (u : List Lexeme) → IsMoreInits u → Begins more_inits_kinds u
more_inits_begin _ (x.no_init c a) = of_mark t.CloseBrace _ c _ refl a
more_inits_begin _ (x.inits c u a b) = begins_more _ u _ (wider init_kinds more_inits_kinds u refl (inits_begin u a))

behind_init_begins : (u : List Lexeme) → IsBehindInit u → Begins (42 ∷ 43 ∷ []) u
behind_init_begins _ (x.closed c a) = of_mark t.CloseBrace _ c _ refl a
behind_init_begins _ (x.listed k u a b) = of_mark t.Comma _ k _ refl a

init_declor_begins : (u : List Lexeme) → IsInitDeclor u → Begins (1 ∷ 54 ∷ []) u
init_declor_begins _ (s.bare u a) = declor_begins u a
init_declor_begins _ (s.initialised e u v a b c) = begins_more _ u _ (declor_begins u a)

init_declors_begin : (u : List Lexeme) → AreInitDeclors u → Begins (1 ∷ 54 ∷ []) u
init_declors_begin _ (s.last u a) = init_declor_begins u a
init_declors_begin _ (s.more c u v a b d) = begins_more _ u _ (init_declor_begins u a)

label_begins : (u : List Lexeme) → IsLabel u → Begins (31 ∷ 32 ∷ []) u
label_begins _ (s.case l k u a b c) = of_mark t.Case _ l _ refl a
label_begins _ (s.default l k a b) = of_mark t.Default _ l _ refl a

labels_begin : (u : List Lexeme) → AreLabels u → Begins (31 ∷ 32 ∷ []) u
labels_begin _ (s.last u a) = label_begins u a
labels_begin _ (s.more u v a b) = begins_more _ u _ (label_begins u a)

or_left : (a b : Bool) → a ≡ true → (a || b) ≡ true
or_left true b h = refl
or_left false b h = absurd (let e : false ≡ true = h in cc)

or_right : (a b : Bool) → b ≡ true → (a || b) ≡ true
or_right true b h = refl
or_right false b h = h

or_one : (a : Bool) → (a || false) ≡ true → a ≡ true
or_one true h = refl
or_one false h = h

more_kinds : (k : ℕ) (u : List Lexeme) → Begins expr_kinds u → Begins (k ∷ expr_kinds) u
more_kinds k u b = begins expr_kinds (k ∷ expr_kinds) u (λ l h. or_right (kind l.terminal == k) (has expr_kinds (kind l.terminal)) h) b

-- the first kind of a list
first_kind : (k : ℕ) (rest : List ℕ) → has (k ∷ []) k ≡ true → has (k ∷ rest) k ≡ true
first_kind k rest h = or_left (k == k) (has rest k) (or_one (k == k) h)

clause_begins : (end : Terminal) (u : List Lexeme) → IsClause end u → Begins (kind end ∷ expr_kinds) u
clause_begins _ _ (x.clause end c _ s.none a) = of_mark end _ c _ (first_kind (kind end) expr_kinds (self_kind end)) a
clause_begins _ _ (x.clause end c _ (s.some u b) a) = begins_more _ u _ (more_kinds (kind end) u (assigns_begins u b))

bracketed_begins : (u : List Lexeme) → IsBracketed u → Begins (37 ∷ []) u
bracketed_begins _ (x.bracketed o c u a b d) = of_mark t.OpenParen _ o _ refl a

loop_head_begins : (u : List Lexeme) → IsLoopHead u → Begins (27 ∷ 29 ∷ []) u
loop_head_begins _ (x.while_head h u a b) = of_mark t.While _ h _ refl a
loop_head_begins _ (x.for_head f o u v w a b c d e) = of_mark t.For _ f _ refl a

behind_spec_begins : (u : List Lexeme) → IsBehindSpec u → Begins (44 ∷ 1 ∷ 54 ∷ []) u
behind_spec_begins _ (x.no_name s a) = of_mark t.Semicolon _ s _ refl a
behind_spec_begins _ (x.names s u a b) = begins_more _ u _ (wider (1 ∷ 54 ∷ []) (44 ∷ 1 ∷ 54 ∷ []) u refl (init_declors_begin u a))

may_assigns_begin : (s : Lexeme) (u : List Lexeme) (kinds : List ℕ) → has kinds 44 ≡ true → ((v : List Lexeme) → Begins expr_kinds v → Begins kinds v) → MayBeAssigns u → IsA t.Semicolon s → Begins kinds (u ++ s ∷ [])
may_assigns_begin l _ kinds h more s.none b = of_mark t.Semicolon _ l _ h b
may_assigns_begin l _ kinds h more (s.some u a) b = begins_more _ u _ (more u (assigns_begins u a))

for_start_begins : (u : List Lexeme) → IsForStart u → Begins for_start_kinds u
for_start_begins _ (s.declares vector s u v a b c) = begins_more _ u _ (wider type_kinds for_start_kinds u refl (any_spec_begins vector u a))
for_start_begins _ (s.evaluates s u a b) = may_assigns_begin s u for_start_kinds refl (λ v g. wider expr_kinds for_start_kinds v refl g) a b

block_begins : (u : List Lexeme) → IsBlock u → Begins (41 ∷ []) u
block_begins _ (s.block o c u a b d) = of_mark t.OpenBrace _ o _ refl a

statement_begins : (u : List Lexeme) → IsStmt u → Begins statement_kinds u
statement_begins _ (s.compound u a) = wider (41 ∷ []) statement_kinds u refl (block_begins u a)
statement_begins _ (s.empty s a) = of_mark t.Semicolon _ s _ refl a
statement_begins _ (s.expression s u a b) = begins_more _ u _ (wider expr_kinds statement_kinds u refl (assigns_begins u a))
statement_begins _ (s.only_if i o c u v a b d e f) = of_mark t.If _ i _ refl a
statement_begins _ (s.if_else i o c e u v w a b d f g h k) = of_mark t.If _ i _ refl a
statement_begins _ (s.while_loop h o c u v a b d e f) = of_mark t.While _ h _ refl a
statement_begins _ (s.do_loop d h o c s u v a b e f g k l) = of_mark t.Do _ d _ refl a
statement_begins _ (s.for_loop f o s c u v w x a b d e g h k l) = of_mark t.For _ f _ refl a
statement_begins _ (s.switch h o c b d u v a e f g k l m) = of_mark t.Switch _ h _ refl a
statement_begins _ (s.break h s a b) = of_mark t.Break _ h _ refl a
statement_begins _ (s.continue h s a b) = of_mark t.Continue _ h _ refl a
statement_begins _ (s.return h s u a b c) = of_mark t.Return _ h _ refl a

item_begins : (u : List Lexeme) → IsItem u → Begins item_kinds u
item_begins _ (s.type_alone vector s u a b) = begins_more _ u _ (wider type_kinds item_kinds u refl (any_spec_begins vector u a))
item_begins _ (s.declaration vector s u v a b c) = begins_more _ u _ (wider type_kinds item_kinds u refl (any_spec_begins vector u a))
item_begins _ (s.statement u a) = wider statement_kinds item_kinds u refl (statement_begins u a)

abbrev pub MayBegin : StmtSym → List Lexeme → Type 0
MayBegin x u = Begins (stmt_firsts x) u ⊎ ((u ≡ []) × (stmt_empties x ≡ true))

items_first : (u : List Lexeme) → AreItems u → MayBegin x.Items u
items_first _ s.no_item = inr (refl, refl)
items_first _ (s.more_items u v a b) = inl (begins_more _ u v (item_begins u a))

sections_first : (u : List Lexeme) → AreSections u → MayBegin x.Sections u
sections_first _ s.no_section = inr (refl, refl)
sections_first _ (s.more_sections u v w a b c) = inl (begins_more _ u _ (labels_begin u a))

behind_label_first : (u : List Lexeme) → IsBehindLabel u → MayBegin x.BehindLabel u
behind_label_first _ (x.more_labels u v a b) = inl (begins_more _ u v (wider (31 ∷ 32 ∷ []) behind_label_kinds u refl (label_begins u a)))
behind_label_first _ (x.no_more_label u v a b) = joined_first item_kinds (31 ∷ 32 ∷ []) behind_label_kinds u v refl refl (items_first u a) (sections_first v b)

pub stmt_first : (x : StmtSym) (u : List Lexeme) → is_stmt x u → MayBegin x u
stmt_first x.Init u a = inl (init_begins u a)
stmt_first x.BehindInit u a = inl (behind_init_begins u a)
stmt_first x.MoreInits u a = inl (more_inits_begin u a)
stmt_first x.InitDeclor u a = inl (init_declor_begins u a)
stmt_first x.BehindDeclor _ x.no_equals = inr (refl, refl)
stmt_first x.BehindDeclor _ (x.equals e u a b) = inl (of_mark t.Equals _ e _ refl a)
stmt_first x.InitDeclors u a = inl (init_declors_begin u a)
stmt_first x.MoreDeclors _ x.no_declor = inr (refl, refl)
stmt_first x.MoreDeclors _ (x.declors c u a b) = inl (of_mark t.Comma _ c _ refl a)
stmt_first x.Label u a = inl (label_begins u a)
stmt_first (x.Clause end) u a = inl (clause_begins end u a)
stmt_first x.Bracketed u a = inl (bracketed_begins u a)
stmt_first x.ForStart u a = inl (for_start_begins u a)
stmt_first x.LoopHead u a = inl (loop_head_begins u a)
stmt_first x.Block u a = inl (block_begins u a)
stmt_first x.Items u a = items_first u a
stmt_first x.Item u a = inl (item_begins u a)
stmt_first x.BehindSpec u a = inl (behind_spec_begins u a)
stmt_first x.Statement u a = inl (statement_begins u a)
stmt_first x.MayElse _ x.no_else = inr (refl, refl)
stmt_first x.MayElse _ (x.some_else e u a b) = inl (of_mark t.Else _ e _ refl a)
stmt_first x.Sections u a = sections_first u a
stmt_first x.BehindLabel u a = behind_label_first u a
