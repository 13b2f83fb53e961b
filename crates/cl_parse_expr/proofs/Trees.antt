-- The trees of what the parser's functions read.
use Rattle.std.proofs.Common.{◌≡◌, ℕ, ◌+◌, ◌≤◌, List, [], ◌∷◌, ◌++◌, drop, Bool, true, false, refl, sym, ap, ◌∙◌, subst, append_assoc, arith}
use Rattle.std.specs.Prelude.{Option, Some, None}
use Rattle.std.specs.Global.{Vec}
use Rattle.std.proofs.lemmas.List.{append-nil}
use Rattle.clv_place.specs.declared.place.Place.{Place}
use Rattle.cl_types.specs.declared.operator.BinOp.{BinOp}
use Rattle.cl_types.specs.declared.operator.UnOp.{UnOp}
use Rattle.cl_types.specs.declared.operator.UnOp.TheVariants as un
use Rattle.cl_ast.specs.declared.expression.Expr.{Expr}
use Rattle.cl_ast.specs.declared.expression.ExprNode.{ExprNode}
use Rattle.cl_ast.specs.declared.expression.ExprNode.TheVariants as node
use Rattle.cl_ast.specs.declared.expression.TypeTerm.{TypeTerm}
use Rattle.cl_ast.specs.declared.expression.Spec.{Spec}
use Rattle.cl_grammar.specs.declared.lexeme.Lexeme.{Lexeme}
use Rattle.cl_grammar.specs.declared.operator.Operator.{Operator}
use Rattle.cl_grammar.specs.declared.terminal.Terminal.{Terminal}
use Rattle.cl_grammar.specs.declared.terminal.Terminal.TheVariants as t
use Rattle.cl_grammar.specs.Terminals.{prefix_of, increment_before, binary_of, assignment_of}
use Rattle.cl_grammar.specs.Expressions.{IsA, IsTypeTerm, begins_open, is_open}
use Rattle.cl_grammar.specs.ExpressionTrees as e
use Rattle.cl_grammar.specs.ExpressionTrees.{IsExpr, ExprTree, AssignTree, AssignTrees, CondTree, RowTrees, CastTree, UnaryTree, PostfixTree, SuffixTrees, PrimaryTree, TypeTermTree, SpecTree, StarOf, Joins, level_at}
use Rattle.cl_precedence.specs.Grouping.{Groups}
use Rattle.cl_grammar.specs.Symbols as s
use Rattle.cl_grammar.specs.Symbols.{E}
use Rattle.cl_grammar.specs.Items.{between, StandsAt, IsAt, OtherAt, PlaceAt, TextAt, ReadAt}
use Rattle.cl_grammar.proofs.Places.{between_same, between_one, between_join}
use Rattle.cl_parse_expr.specs.declared.expression.Operands.{Operands}
use Rattle.cl_parse_expr.specs.declared.expression.SpecRead.{SpecRead}
use Rattle.cl_parse_expr.specs.declared.simple.TermRead.{TermRead}
use Rattle.cl_parse_expr.specs.declared.simple.Head.{Head}
use Rattle.cl_parse_expr.specs.declared.simple.Tag.{Tag}
use Rattle.cl_ast.specs.declared.expression.Declor.{Declor}
use Rattle.cl_ast.specs.declared.expression.Field.{Field}
use Rattle.cl_ast.specs.declared.expression.Base.{Base}
use Rattle.cl_parse_expr.specs.Reading.{OperandsAt, one, many, WholeOf, alone, comma, CondFrom, BinFrom, PrefixedAt, IndexedAt, SuffixFrom, TermFrom, HeadAt, TagAt, bare, tagged, CallAt}
use Rattle.cl_parse_expr.proofs.Choices.{first_same, between_first}

-- ---- tokens of an index

same_token : (ts : List Lexeme) (at : ℕ) (l m : Lexeme) → StandsAt ts at l → StandsAt ts at m → l ≡ m
same_token ts at l m a b = first_same l m (drop (at + 1) ts) (drop (at + 1) ts) (sym a.here ∙ b.here)

pub place_of : (ts : List Lexeme) (at : ℕ) (k : Terminal) (place : Place) (c : IsAt ts at k) → PlaceAt ts at place → c.token.place ≡ place
place_of ts at k place c p = ap (λ z. z.place) (same_token ts at c.token p.token c.stands p.stands) ∙ p.is

pub text_of : (ts : List Lexeme) (at : ℕ) (k : Terminal) (text : List ℕ) (c : IsAt ts at k) → TextAt ts at text → c.token.text ≡ text
text_of ts at k text c p = ap (λ z. z.text) (same_token ts at c.token p.token c.stands p.stands) ∙ p.is

-- an expression at the place of a token
pub at_token : (ts : List Lexeme) (at : ℕ) (k : Terminal) (place : Place) (c : IsAt ts at k) (tree : Expr) (n : ExprNode) (args : List Expr) → PlaceAt ts at place → IsExpr tree place n args → IsExpr tree c.token.place n args
at_token ts at k place c tree n args p i = subst (λ z. IsExpr tree z n args) (sym (place_of ts at k place c p)) i

-- a token, and what stands behind it
pub lead : (ts : List Lexeme) (a b : ℕ) (k : Terminal) (c : IsAt ts a k) → a + 1 ≤ b → between ts a b ≡ c.token ∷ between ts (a + 1) b
lead ts a b k c h = between_first ts a b c.token c.stands.here h

-- a part, a token, and what stands behind it
pub middle : (ts : List Lexeme) (a b d : ℕ) (k : Terminal) (c : IsAt ts b k) → a ≤ b → b + 1 ≤ d → between ts a d ≡ between ts a b ++ c.token ∷ between ts (b + 1) d
middle ts a b d k c h g = sym (between_join ts a b d h (omega arith)) ∙ ap (λ z. between ts a b ++ z) (lead ts b d k c g)

pub ending : (ts : List Lexeme) (a b : ℕ) (k : Terminal) (c : IsAt ts b k) → a ≤ b → between ts a (b + 1) ≡ between ts a b ++ c.token ∷ []
ending ts a b k c h = sym (between_join ts a b (b + 1) h (omega arith)) ∙ ap (λ z. between ts a b ++ z) (between_one ts b c.token c.stands.here)

-- ---- operands

append_assigns : (u v : List Lexeme) (c : Lexeme) (es : List Expr) (d : Expr) → AssignTrees u es → IsA t.Comma c → AssignTree v d → AssignTrees (u ++ c ∷ v) (es ++ d ∷ [])
append_assigns _ v c _ d (e.last_assign u a h) k g = e.more_assigns c u v a (d ∷ []) h k (e.last_assign v d g)
append_assigns _ v c _ d (e.more_assigns q u w a es h m r) k g = subst (λ z. AssignTrees z (a ∷ (es ++ d ∷ []))) (sym (append_assoc u (q ∷ w) (c ∷ v))) (e.more_assigns q u (w ++ c ∷ v) a (es ++ d ∷ []) h m (append_assigns w v c es d r k g))

pub operands_start : (ts : List Lexeme) (at n : ℕ) (a : Expr) (none : Vec Expr) → none.items ≡ [] → AssignTree (between ts at n) a → OperandsAt ts at (record { first = a; comma = n; others = none; next = n })
operands_start ts at n a none z h = one z refl h

pub operands_step : (ts : List Lexeme) (at here n : ℕ) (o : Operands) (d : Expr) (more : Vec Expr) → o.next ≡ here → here + 1 ≤ n → IsAt ts here t.Comma → AssignTree (between ts (here + 1) n) d → more.items ≡ o.others.items ++ d ∷ [] → at ≤ here → OperandsAt ts at o → OperandsAt ts at (record { first = o.first; comma = o.comma; others = more; next = n })
operands_step ts at here n o d more x h c g q f (one z y a) =
    let e1 : o.comma ≡ here = y ∙ x in
    many (omega arith) (omega arith) (subst (λ z2. IsAt ts z2 t.Comma) (sym e1) c) (subst (λ z2. AssignTree (between ts at z2) o.first) (sym y) a)
    (subst (λ z2. AssignTrees (between ts (o.comma + 1) n) z2) (sym (q ∙ ap (λ z2. z2 ++ d ∷ []) z)) (subst (λ z2. AssignTrees (between ts (z2 + 1) n) (d ∷ [])) (sym e1) (e.last_assign (between ts (here + 1) n) d g)))
operands_step ts at here n o d more x h c g q f (many i j k a b) =
    many i (omega arith) k a (subst (λ z. AssignTrees (between ts (o.comma + 1) n) z) (sym q)
    (subst (λ z. AssignTrees z (o.others.items ++ d ∷ [])) (sym (middle ts (o.comma + 1) here n t.Comma c (omega arith) h))
    (append_assigns (between ts (o.comma + 1) here) (between ts (here + 1) n) c.token o.others.items d (subst (λ z. AssignTrees (between ts (o.comma + 1) z) o.others.items) x b) c.is g)))

pub operands_more_tree : (ts : List Lexeme) (at here n mid : ℕ) (a d : Expr) (before more : Vec Expr) → here + 1 ≤ n → at ≤ here → IsAt ts here t.Comma → AssignTree (between ts (here + 1) n) d → more.items ≡ before.items ++ d ∷ [] → OperandsAt ts at (record { first = a; comma = mid; others = before; next = here }) → OperandsAt ts at (record { first = a; comma = mid; others = more; next = n })
operands_more_tree ts at here n mid a d before more h f c g q o = operands_step ts at here n (record { first = a; comma = mid; others = before; next = here }) d more refl h c g q f o

pub args_tree : (ts : List Lexeme) (at : ℕ) (o : Operands) → OperandsAt ts at o → AssignTrees (between ts at o.next) (o.first ∷ o.others.items)
args_tree ts at o (one z y a) = subst (λ z2. AssignTrees (between ts at o.next) (o.first ∷ z2)) (sym z) (e.last_assign (between ts at o.next) o.first a)
args_tree ts at o (many i j k a b) = subst (λ z. AssignTrees z (o.first ∷ o.others.items)) (sym (middle ts at o.comma o.next t.Comma k i j)) (e.more_assigns k.token (between ts at o.comma) (between ts (o.comma + 1) o.next) o.first o.others.items a k.is b)

some_assigns : (u : List Lexeme) → AssignTrees u [] → ⊥
some_assigns u h = elim h [ ]

pub whole_tree : (ts : List Lexeme) (at : ℕ) (o : Operands) (tree : Expr) → OperandsAt ts at o → WholeOf ts o tree → ExprTree (between ts at o.next) tree
whole_tree ts at o tree (one z y a) (alone x q) = e.only_assign (between ts at o.next) tree (subst (λ z2. AssignTree (between ts at o.next) z2) (sym q) a)
whole_tree ts at o tree (one z y a) (comma place p x q) = absurd (x z)
whole_tree ts at o tree (many i j k a b) (alone x q) = absurd (some_assigns (between ts (o.comma + 1) o.next) (subst (λ z. AssignTrees (between ts (o.comma + 1) o.next) z) x b))
whole_tree ts at o tree (many i j k a b) (comma place p x q) = subst (λ z. ExprTree z tree) (sym (middle ts at o.comma o.next t.Comma k i j)) (e.comma k.token (between ts at o.comma) (between ts (o.comma + 1) o.next) o.first tree o.others.items a k.is b (at_token ts o.comma t.Comma place k tree node.Comma (o.first ∷ o.others.items) p q))

-- ---- assignments and conditions

pub cond_tree : (ts : List Lexeme) (at a b : ℕ) (first tree : Expr) → at ≤ a → a ≤ b → CastTree (between ts at a) first → CondFrom ts a b first tree → CondTree (between ts at b) tree
cond_tree ts at a b first tree h g c f = subst (λ z. CondTree z tree) (between_join ts at a b h g) (f.tree (between ts at a) c)

pub assign_tree : (ts : List Lexeme) (at a b : ℕ) (first tree : Expr) → at ≤ a → a ≤ b → CastTree (between ts at a) first → CondFrom ts a b first tree → AssignTree (between ts at b) tree
assign_tree ts at a b first tree h g c f = e.only_cond (between ts at b) tree (cond_tree ts at a b first tree h g c f)

pub assign_unary_tree : (ts : List Lexeme) (at a b : ℕ) (first tree : Expr) → at ≤ a → a ≤ b → UnaryTree (between ts at a) first → CondFrom ts a b first tree → AssignTree (between ts at b) tree
assign_unary_tree ts at a b first tree h g c f = assign_tree ts at a b first tree h g (e.only_unary (between ts at a) first c) f

pub assigned_tree : (ts : List Lexeme) (at a b : ℕ) (k : Terminal) (op : Option BinOp) (place : Place) (left right tree : Expr) → at ≤ a → a + 1 ≤ b → UnaryTree (between ts at a) left → IsAt ts a k → assignment_of k ≡ Some op → AssignTree (between ts (a + 1) b) right → PlaceAt ts a place → IsExpr tree place (node.Assign op) (left ∷ right ∷ []) → AssignTree (between ts at b) tree
assigned_tree ts at a b k op place left right tree h g u c o r p i = subst (λ z. AssignTree z tree) (sym (middle ts at a b k c h g)) (e.assigned c.token op (between ts at a) (between ts (a + 1) b) left right tree u (subst (λ z. assignment_of z ≡ Some op) (sym c.is) o) r (at_token ts a k place c tree (node.Assign op) (left ∷ right ∷ []) p i))

pub no_choice_tree : (ts : List Lexeme) (at a : ℕ) (first tree : Expr) → BinFrom ts at a first tree → CondFrom ts at a first tree
no_choice_tree ts at a first tree f = record { tree = λ u c. e.only_bin (u ++ between ts at a) tree (f.tree u c) }

pub choice_tree : (ts : List Lexeme) (at a b n : ℕ) (place : Place) (first test chosen left tree : Expr) → at ≤ a → a + 1 ≤ b → b + 1 ≤ n → BinFrom ts at a first test → IsAt ts a t.Question → AssignTree (between ts (a + 1) b) chosen → IsAt ts b t.Colon → CondTree (between ts (b + 1) n) left → PlaceAt ts a place → IsExpr tree place node.Cond (test ∷ chosen ∷ left ∷ []) → CondFrom ts at n first tree
choice_tree ts at a b n place first test chosen left tree h1 h2 h3 f q y c m p i = record {
  tree = λ u r.
      let split : u ++ between ts at n ≡ (u ++ between ts at a) ++ q.token ∷ (between ts (a + 1) b ++ c.token ∷ between ts (b + 1) n) =
      ap (λ z. u ++ z) (middle ts at a n t.Question q h1 (omega arith) ∙ ap (λ z. between ts at a ++ q.token ∷ z) (middle ts (a + 1) b n t.Colon c h2 (omega arith)))
      ∙ sym (append_assoc u (between ts at a) (q.token ∷ (between ts (a + 1) b ++ c.token ∷ between ts (b + 1) n))) in
      subst (λ z. CondTree z tree) (sym split) (e.conditional q.token c.token (u ++ between ts at a) (between ts (a + 1) b) (between ts (b + 1) n) test chosen left tree (f.tree u r) q.is y c.is m (at_token ts a t.Question place q tree node.Cond (test ∷ chosen ∷ left ∷ []) p i));
}

-- ---- a row

append_rows : (u v : List Lexeme) (o : Lexeme) (op : BinOp) (row : List (Operator × Expr)) (d : Expr) → RowTrees u row → binary_of o.terminal ≡ Some op → CastTree v d → RowTrees (u ++ o ∷ v) (row ++ (record { op = op; place = o.place }, d) ∷ [])
append_rows _ v o op _ d e.row_ends k g = subst (λ z. RowTrees z ((record { op = op; place = o.place }, d) ∷ [])) (ap (λ z. o ∷ z) (append-nil v)) (e.row_goes_on o op v [] d [] k g e.row_ends)
append_rows _ v o op _ d (e.row_goes_on q oq u w a row h c r) k g = subst (λ z. RowTrees z ((record { op = oq; place = q.place }, a) ∷ (row ++ (record { op = op; place = o.place }, d) ∷ []))) (ap (λ z. q ∷ z) (sym (append_assoc u w (o ∷ v)))) (e.row_goes_on q oq u (w ++ o ∷ v) a (row ++ (record { op = op; place = o.place }, d) ∷ []) h c (append_rows w v o op row d r k g))

pub row_start_tree : (ts : List Lexeme) (at : ℕ) → RowTrees (between ts at at) []
row_start_tree ts at = subst (λ z. RowTrees z []) (sym (between_same ts at)) e.row_ends

pub row_more_tree : (ts : List Lexeme) (at a b : ℕ) (k : Terminal) (op : BinOp) (place : Place) (row : List (Operator × Expr)) (d : Expr) → at ≤ a → a + 1 ≤ b → RowTrees (between ts at a) row → IsAt ts a k → binary_of k ≡ Some op → PlaceAt ts a place → CastTree (between ts (a + 1) b) d → RowTrees (between ts at b) (row ++ (record { op = op; place = place }, d) ∷ [])
row_more_tree ts at a b k op place row d h g r c o p m = subst (λ z. RowTrees (between ts at b) (row ++ (record { op = op; place = z }, d) ∷ [])) (place_of ts a k place c p) (subst (λ z. RowTrees z (row ++ (record { op = op; place = c.token.place }, d) ∷ [])) (sym (middle ts at a b k c h g)) (append_rows (between ts at a) (between ts (a + 1) b) c.token op row d r (subst (λ z. binary_of z ≡ Some op) (sym c.is) o) m))

pub row_done_tree : (ts : List Lexeme) (at a : ℕ) (first tree : Expr) (row : List (Operator × Expr)) → RowTrees (between ts at a) row → Groups level_at Joins first row tree → BinFrom ts at a first tree
row_done_tree ts at a first tree row r g = record { tree = λ u c. e.bin u (between ts at a) first tree row c r g }

-- ---- types

pub term_tree : (ts : List Lexeme) (at : ℕ) (words : SpecRead) (name : TermRead) → at ≤ words.next → SpecTree (between ts at words.next) words.spec → TermFrom ts words name → TypeTermTree (between ts at name.next) name.term
term_tree ts at words name h r f =
    subst (λ z. TypeTermTree z name.term) (between_join ts at words.next name.next h (let g = f.stars.read.forth in let k = f.here in omega arith))
    (e.type_term (between ts at words.next) (between ts words.next name.next) words.spec f.star name.term r (subst (λ z. StarOf (between ts z name.next) f.star) f.here f.means) f.is)

-- what a reading of a part has read
pub is_type : (vector : Bool) (ts : List Lexeme) (a b : ℕ) → ReadAt (E (s.TypeTerm vector)) ts a b → IsTypeTerm vector (between ts a b)
is_type vector ts a b r = subst (IsTypeTerm vector) (append-nil (between ts a b)) (r.read.item.builds [] refl)

enclosing : (ts : List Lexeme) (at a d : ℕ) (k m : Terminal) (o : IsAt ts at k) (c : IsAt ts a m) → at + 1 ≤ a → a + 1 ≤ d → between ts at d ≡ o.token ∷ (between ts (at + 1) a ++ c.token ∷ between ts (a + 1) d)
enclosing ts at a d k m o c h g = lead ts at d k o (omega arith) ∙ ap (λ z. o.token ∷ z) (middle ts (at + 1) a d m c h g)

pub cast_tree : (ts : List Lexeme) (at a d : ℕ) (place : Place) (term : TypeTerm) (b tree : Expr) → at + 1 ≤ a → a + 1 ≤ d → IsAt ts at t.OpenParen → ReadAt (E (s.TypeTerm false)) ts (at + 1) a → TypeTermTree (between ts (at + 1) a) term → IsAt ts a t.CloseParen → CastTree (between ts (a + 1) d) b → PlaceAt ts at place → IsExpr tree place (node.Cast term) (b ∷ []) → CastTree (between ts at d) tree
cast_tree ts at a d place term b tree h g o r w c q p i = subst (λ z. CastTree z tree) (sym (enclosing ts at a d t.OpenParen t.CloseParen o c h g)) (e.cast o.token c.token (between ts (at + 1) a) (between ts (a + 1) d) term b tree o.is (is_type false ts (at + 1) a r) w c.is q (at_token ts at t.OpenParen place o tree (node.Cast term) (b ∷ []) p i))

not_open : (k : Terminal) → (k ≡ t.OpenParen → ⊥) → is_open k ≡ false
not_open t.OpenParen h = absurd (h refl)
not_open _ h = refl

begins_closed : (ts : List Lexeme) (a d : ℕ) → a + 1 ≤ d → (o : OtherAt ts a t.OpenParen) → begins_open (between ts a d) ≡ false
begins_closed ts a d h o = ap begins_open (lead ts a d o.other o.stands h) ∙ subst (λ z. is_open z ≡ false) (sym o.stands.is) (not_open o.other o.differs)

pub vector_cast_tree : (ts : List Lexeme) (at a d : ℕ) (place : Place) (term : TypeTerm) (b tree : Expr) → at + 1 ≤ a → (a + 1) + 1 ≤ d → IsAt ts at t.OpenParen → ReadAt (E (s.TypeTerm true)) ts (at + 1) a → TypeTermTree (between ts (at + 1) a) term → IsAt ts a t.CloseParen → OtherAt ts (a + 1) t.OpenParen → CastTree (between ts (a + 1) d) b → PlaceAt ts at place → IsExpr tree place (node.Cast term) (b ∷ []) → CastTree (between ts at d) tree
vector_cast_tree ts at a d place term b tree h g o r w c n q p i = subst (λ z. CastTree z tree) (sym (enclosing ts at a d t.OpenParen t.CloseParen o c h (omega arith))) (e.vector_cast o.token c.token (between ts (at + 1) a) (between ts (a + 1) d) term b tree o.is (is_type true ts (at + 1) a r) w c.is q (begins_closed ts (a + 1) d g n) (at_token ts at t.OpenParen place o tree (node.Cast term) (b ∷ []) p i))

pub literal_tree : (ts : List Lexeme) (at a d : ℕ) (place : Place) (term : TypeTerm) (args : List Expr) (tree : Expr) → at + 1 ≤ a → (a + 1) + 1 ≤ d → IsAt ts at t.OpenParen → ReadAt (E (s.TypeTerm true)) ts (at + 1) a → TypeTermTree (between ts (at + 1) a) term → IsAt ts a t.CloseParen → IsAt ts (a + 1) t.OpenParen → AssignTrees (between ts ((a + 1) + 1) d) args → IsAt ts d t.CloseParen → PlaceAt ts at place → IsExpr tree place (node.Vector term) args → CastTree (between ts at (d + 1)) tree
literal_tree ts at a d place term args tree h g o r w c b q m p i =
    let split : between ts at (d + 1) ≡ o.token ∷ (between ts (at + 1) a ++ c.token ∷ (b.token ∷ (between ts ((a + 1) + 1) d ++ m.token ∷ []))) =
    enclosing ts at a (d + 1) t.OpenParen t.CloseParen o c h (omega arith) ∙ ap (λ z. o.token ∷ (between ts (at + 1) a ++ c.token ∷ z)) (lead ts (a + 1) (d + 1) t.OpenParen b (omega arith) ∙ ap (λ z. b.token ∷ z) (ending ts ((a + 1) + 1) d t.CloseParen m g)) in
    subst (λ z. CastTree z tree) (sym split) (e.vector_literal o.token c.token b.token m.token (between ts (at + 1) a) (between ts ((a + 1) + 1) d) term args tree o.is (is_type true ts (at + 1) a r) w c.is b.is q m.is (at_token ts at t.OpenParen place o tree (node.Vector term) args p i))

-- ---- unaries

pub incremented_tree : (ts : List Lexeme) (at n : ℕ) (k : Terminal) (op : UnOp) (a tree : Expr) → at + 1 ≤ n → IsAt ts at k → increment_before k ≡ Some op → UnaryTree (between ts (at + 1) n) a → PrefixedAt ts at op a tree → UnaryTree (between ts at n) tree
incremented_tree ts at n k op a tree h c o u p = subst (λ z. UnaryTree z tree) (sym (lead ts at n k c h)) (e.incremented c.token op (between ts (at + 1) n) a tree (subst (λ z. increment_before z ≡ Some op) (sym c.is) o) u (at_token ts at k p.place c tree (node.Unary op) (a ∷ []) p.stands p.is))

pub prefixed_tree : (ts : List Lexeme) (at n : ℕ) (k : Terminal) (op : UnOp) (a tree : Expr) → at + 1 ≤ n → IsAt ts at k → prefix_of k ≡ Some op → CastTree (between ts (at + 1) n) a → PrefixedAt ts at op a tree → UnaryTree (between ts at n) tree
prefixed_tree ts at n k op a tree h c o u p = subst (λ z. UnaryTree z tree) (sym (lead ts at n k c h)) (e.prefixed c.token op (between ts (at + 1) n) a tree (subst (λ z. prefix_of z ≡ Some op) (sym c.is) o) u (at_token ts at k p.place c tree (node.Unary op) (a ∷ []) p.stands p.is))

pub sized_tree : (ts : List Lexeme) (at n : ℕ) (a tree : Expr) → at + 1 ≤ n → IsAt ts at t.Sizeof → UnaryTree (between ts (at + 1) n) a → PrefixedAt ts at un.Sizeof a tree → UnaryTree (between ts at n) tree
sized_tree ts at n a tree h c u p = subst (λ z. UnaryTree z tree) (sym (lead ts at n t.Sizeof c h)) (e.size_of c.token (between ts (at + 1) n) a tree c.is u (at_token ts at t.Sizeof p.place c tree (node.Unary un.Sizeof) (a ∷ []) p.stands p.is))

pub sized_type_tree : (ts : List Lexeme) (at a : ℕ) (place : Place) (term : TypeTerm) (tree : Expr) → (at + 1) + 1 ≤ a → IsAt ts at t.Sizeof → IsAt ts (at + 1) t.OpenParen → TypeTermTree (between ts ((at + 1) + 1) a) term → IsAt ts a t.CloseParen → PlaceAt ts at place → IsExpr tree place (node.SizeofType term) [] → UnaryTree (between ts at (a + 1)) tree
sized_type_tree ts at a place term tree h c o w m p i =
    let split : between ts at (a + 1) ≡ c.token ∷ (o.token ∷ (between ts ((at + 1) + 1) a ++ m.token ∷ [])) = lead ts at (a + 1) t.Sizeof c (omega arith) ∙ ap (λ z. c.token ∷ z) (lead ts (at + 1) (a + 1) t.OpenParen o (omega arith) ∙ ap (λ z. o.token ∷ z) (ending ts ((at + 1) + 1) a t.CloseParen m h)) in
    subst (λ z. UnaryTree z tree) (sym split) (e.size_of_type c.token o.token m.token (between ts ((at + 1) + 1) a) term tree c.is o.is w m.is (at_token ts at t.Sizeof place c tree (node.SizeofType term) [] p i))

-- ---- postfixes and primaries

-- suffixes so far make this of an operand
pub record PostfixSoFar (ts : List Lexeme) (at here : ℕ) (tree : Expr) : Type 0 where
  pub start : ℕ
  pub operand : Expr
  pub after : at ≤ start
  pub before : start ≤ here
  pub primary : PrimaryTree (between ts at start) operand
  pub suffixes : (v : List Lexeme) (whole : Expr) → SuffixTrees tree v whole → SuffixTrees operand (between ts start here ++ v) whole

pub postfix_start_tree : (ts : List Lexeme) (at a : ℕ) (tree : Expr) → at ≤ a → PrimaryTree (between ts at a) tree → PostfixSoFar ts at a tree
postfix_start_tree ts at a tree h p = record { start = a; operand = tree; after = h; before = omega arith; primary = p; suffixes = λ v whole m. subst (λ z. SuffixTrees tree (z ++ v) whole) (sym (between_same ts a)) m }

pub postfix_more_tree : (ts : List Lexeme) (at here next : ℕ) (tree more : Expr) → here ≤ next → PostfixSoFar ts at here tree → SuffixFrom ts here next tree more → PostfixSoFar ts at next more
postfix_more_tree ts at here next tree more h f m = record { start = f.start; operand = f.operand; after = f.after; before = let g = f.before in omega arith; primary = f.primary; suffixes = λ v whole q. subst (λ z. SuffixTrees f.operand z whole) (sym (append_assoc (between ts f.start here) (between ts here next) v) ∙ ap (λ z. z ++ v) (between_join ts f.start here next f.before h)) (f.suffixes (between ts here next ++ v) whole (m.tree v whole q)) }

pub index_tree : (ts : List Lexeme) (here b : ℕ) (tree index more : Expr) → here + 1 ≤ b → IsAt ts here t.OpenBracket → ExprTree (between ts (here + 1) b) index → IsAt ts b t.CloseBracket → IndexedAt ts here tree index more → SuffixFrom ts here (b + 1) tree more
index_tree ts here b tree index more h o x c p = record {
  tree = λ v whole q.
      let split : between ts here (b + 1) ++ v ≡ o.token ∷ (between ts (here + 1) b ++ c.token ∷ v) = ap (λ z. z ++ v) (lead ts here (b + 1) t.OpenBracket o (omega arith) ∙ ap (λ z. o.token ∷ z) (ending ts (here + 1) b t.CloseBracket c h)) ∙ ap (λ z. o.token ∷ z) (append_assoc (between ts (here + 1) b) (c.token ∷ []) v) in
      subst (λ z. SuffixTrees tree z whole) (sym split) (e.indexed o.token c.token (between ts (here + 1) b) v tree index more whole o.is x c.is (at_token ts here t.OpenBracket p.place o more node.Index (tree ∷ index ∷ []) p.stands p.is) q);
}

pub postfix_done_tree : (ts : List Lexeme) (at here : ℕ) (tree : Expr) → PostfixSoFar ts at here tree → PostfixTree (between ts at here) tree
postfix_done_tree ts at here tree f = subst (λ z. PostfixTree z tree) (between_join ts at f.start here f.after f.before) (e.suffixed (between ts at f.start) (between ts f.start here) f.operand tree f.primary (subst (λ z. SuffixTrees f.operand z tree) (append-nil (between ts f.start here)) (f.suffixes [] tree (e.no_suffix tree))))

pub brackets_tree : (ts : List Lexeme) (at a : ℕ) (tree : Expr) → at + 1 ≤ a → IsAt ts at t.OpenParen → ExprTree (between ts (at + 1) a) tree → IsAt ts a t.CloseParen → PrimaryTree (between ts at (a + 1)) tree
brackets_tree ts at a tree h o x c = subst (λ z. PrimaryTree z tree) (sym (lead ts at (a + 1) t.OpenParen o (omega arith) ∙ ap (λ z. o.token ∷ z) (ending ts (at + 1) a t.CloseParen c h))) (e.brackets o.token c.token (between ts (at + 1) a) tree o.is x c.is)

pub call_tree : (ts : List Lexeme) (at a : ℕ) (place : Place) (text : List ℕ) (args : List Expr) (tree : Expr) → at + 2 ≤ a → CallAt ts at → AssignTrees (between ts (at + 2) a) args → IsAt ts a t.CloseParen → PlaceAt ts at place → TextAt ts at text → IsExpr tree place (node.Call text) args → PrimaryTree (between ts at (a + 1)) tree
call_tree ts at a place text args tree h k r c p x i =
    let two : (at + 1) + 1 ≡ at + 2 = omega arith in
    let split : between ts at (a + 1) ≡ k.name.token ∷ (k.opens.token ∷ (between ts (at + 2) a ++ c.token ∷ [])) = lead ts at (a + 1) t.Name k.name (omega arith) ∙ ap (λ z. k.name.token ∷ z) (lead ts (at + 1) (a + 1) t.OpenParen k.opens (omega arith) ∙ ap (λ z. k.opens.token ∷ z) (ap (λ z. between ts z (a + 1)) two ∙ ending ts (at + 2) a t.CloseParen c h)) in
    subst (λ z. PrimaryTree z tree) (sym split) (e.call k.name.token k.opens.token c.token (between ts (at + 2) a) args tree k.name.is k.opens.is r c.is (at_token ts at t.Name place k.name tree (node.Call k.name.token.text) args p (subst (λ z. IsExpr tree place (node.Call z) args) (sym (text_of ts at t.Name text k.name x)) i)))

-- ---- members and lengths

pub lengths_start_tree : (ts : List Lexeme) (at : ℕ) → e.LengthTrees (between ts at at) []
lengths_start_tree ts at = subst (λ z. e.LengthTrees z []) (sym (between_same ts at)) e.no_length

append_lengths : (u v : List Lexeme) (es ds : List (Option Expr)) → e.LengthTrees u es → e.LengthTrees v ds → e.LengthTrees (u ++ v) (es ++ ds)
append_lengths _ v _ ds e.no_length g = g
append_lengths _ v _ ds (e.missing_length o c w es a b h) g = e.missing_length o c (w ++ v) (es ++ ds) a b (append_lengths w v es ds h g)
append_lengths _ v _ ds (e.length_given o c u w a es h k m r) g = subst (λ z. e.LengthTrees z (Some a ∷ (es ++ ds))) (ap (λ z. o ∷ z) (sym (append_assoc u (c ∷ w) v))) (e.length_given o c u (w ++ v) a (es ++ ds) h k m (append_lengths w v es ds r g))

pub lengths_missing_tree : (ts : List Lexeme) (start here : ℕ) (es : List (Option Expr)) → start ≤ here → e.LengthTrees (between ts start here) es → IsAt ts here t.OpenBracket → IsAt ts (here + 1) t.CloseBracket → e.LengthTrees (between ts start (here + 2)) (es ++ None ∷ [])
lengths_missing_tree ts start here es h g o c =
    let two : (here + 1) + 1 ≡ here + 2 = omega arith in
    let split : between ts here (here + 2) ≡ o.token ∷ (c.token ∷ []) = lead ts here (here + 2) t.OpenBracket o (omega arith) ∙ ap (λ z. o.token ∷ z) (ap (λ z. between ts (here + 1) z) (sym two) ∙ between_one ts (here + 1) c.token c.stands.here) in
    subst (λ z. e.LengthTrees z (es ++ None ∷ [])) (between_join ts start here (here + 2) h (omega arith)) (append_lengths (between ts start here) (between ts here (here + 2)) es (None ∷ []) g (subst (λ z. e.LengthTrees z (None ∷ [])) (sym split) (e.missing_length o.token c.token [] [] o.is c.is e.no_length)))

pub lengths_given_tree : (ts : List Lexeme) (start here a : ℕ) (es : List (Option Expr)) (d : Expr) → start ≤ here → here + 1 ≤ a → e.LengthTrees (between ts start here) es → IsAt ts here t.OpenBracket → CondTree (between ts (here + 1) a) d → IsAt ts a t.CloseBracket → e.LengthTrees (between ts start (a + 1)) (es ++ Some d ∷ [])
lengths_given_tree ts start here a es d h k g o q c =
    let split : between ts here (a + 1) ≡ o.token ∷ (between ts (here + 1) a ++ c.token ∷ []) = lead ts here (a + 1) t.OpenBracket o (omega arith) ∙ ap (λ z. o.token ∷ z) (ending ts (here + 1) a t.CloseBracket c k) in
    subst (λ z. e.LengthTrees z (es ++ Some d ∷ [])) (between_join ts start here (a + 1) h (omega arith)) (append_lengths (between ts start here) (between ts here (a + 1)) es (Some d ∷ []) g (subst (λ z. e.LengthTrees z (Some d ∷ [])) (sym split) (e.length_given o.token c.token (between ts (here + 1) a) [] d [] o.is q c.is e.no_length)))

pub declor_tree : (ts : List Lexeme) (at here : ℕ) (head : Head) (d : Declor) (lengths : List (Option Expr)) → head.next ≤ here → HeadAt ts at head → e.LengthTrees (between ts head.next here) lengths → e.IsDeclor d head.star head.name head.place lengths → e.DeclorTree (between ts at here) d
declor_tree ts at here head d lengths h f g i =
    let split : between ts at here ≡ between ts at f.name ++ f.stands.token ∷ between ts head.next here = middle ts at f.name here t.Name f.stands f.from (let k = f.next in omega arith) ∙ ap (λ z. between ts at f.name ++ f.stands.token ∷ between ts z here) (sym f.next) in
    subst (λ z. e.DeclorTree z d) (sym split) (e.declor f.stands.token (between ts at f.name) (between ts head.next here) head.star lengths d f.star f.stands.is g
    (subst (λ z. e.IsDeclor d head.star z f.stands.token.place lengths) (sym (text_of ts f.name t.Name head.name f.stands f.text)) (subst (λ z. e.IsDeclor d head.star head.name z lengths) (sym (place_of ts f.name t.Name head.place f.stands f.place)) i)))

pub names_start_tree : (ts : List Lexeme) (at a : ℕ) (d : Declor) → e.DeclorTree (between ts at a) d → e.DeclorTrees (between ts at a) (d ∷ [])
names_start_tree ts at a d h = e.last_declor (between ts at a) d h

append_names : (u v : List Lexeme) (c : Lexeme) (ds : List Declor) (d : Declor) → e.DeclorTrees u ds → IsA t.Comma c → e.DeclorTree v d → e.DeclorTrees (u ++ c ∷ v) (ds ++ d ∷ [])
append_names _ v c _ d (e.last_declor u a h) k g = e.more_declors c u v a (d ∷ []) h k (e.last_declor v d g)
append_names _ v c _ d (e.more_declors q u w a ds h m r) k g = subst (λ z. e.DeclorTrees z (a ∷ (ds ++ d ∷ []))) (sym (append_assoc u (q ∷ w) (c ∷ v))) (e.more_declors q u (w ++ c ∷ v) a (ds ++ d ∷ []) h m (append_names w v c ds d r k g))

pub names_more_tree : (ts : List Lexeme) (at a b : ℕ) (ds : List Declor) (d : Declor) → at ≤ a → a + 1 ≤ b → e.DeclorTrees (between ts at a) ds → IsAt ts a t.Comma → e.DeclorTree (between ts (a + 1) b) d → e.DeclorTrees (between ts at b) (ds ++ d ∷ [])
names_more_tree ts at a b ds d h g r c m = subst (λ z. e.DeclorTrees z (ds ++ d ∷ [])) (sym (middle ts at a b t.Comma c h g)) (append_names (between ts at a) (between ts (a + 1) b) c.token ds d r c.is m)

-- members so far: with more behind them they are members
pub record MembersSoFar (ts : List Lexeme) (start here : ℕ) (fields : List Field) : Type 0 where
  pub trees : (v : List Lexeme) (rest : List Field) → e.MemberTrees v rest → e.MemberTrees (between ts start here ++ v) (fields ++ rest)

pub members_start_tree : (ts : List Lexeme) (start : ℕ) → MembersSoFar ts start start []
members_start_tree ts start = record { trees = λ v rest m. subst (λ z. e.MemberTrees (z ++ v) rest) (sym (between_same ts start)) m }

member_split : (ts : List Lexeme) (here a b : ℕ) (c : IsAt ts b t.Semicolon) → here ≤ a → a ≤ b → between ts here (b + 1) ≡ between ts here a ++ (between ts a b ++ c.token ∷ [])
member_split ts here a b c h g = sym (between_join ts here a (b + 1) h (omega arith)) ∙ ap (λ z. between ts here a ++ z) (ending ts a b t.Semicolon c g)

pub members_more_tree : (ts : List Lexeme) (start here a b : ℕ) (fields : List Field) (spec : Spec) (names : List Declor) (f : Field) → start ≤ here → here ≤ a → a ≤ b → MembersSoFar ts start here fields → SpecTree (between ts here a) spec → e.DeclorTrees (between ts a b) names → IsAt ts b t.Semicolon → e.IsField f spec names → MembersSoFar ts start (b + 1) (fields ++ f ∷ [])
members_more_tree ts start here a b fields spec names f h g k m q r c i = record {
  trees = λ v rest w.
      let one1 : between ts start (b + 1) ++ v ≡ between ts start here ++ (between ts here a ++ (between ts a b ++ c.token ∷ v)) =
      ap (λ z. z ++ v) (sym (between_join ts start here (b + 1) h (omega arith)) ∙ ap (λ z. between ts start here ++ z) (member_split ts here a b c g k))
      ∙ append_assoc (between ts start here) (between ts here a ++ (between ts a b ++ c.token ∷ [])) v
      ∙ ap (λ z. between ts start here ++ z) (append_assoc (between ts here a) (between ts a b ++ c.token ∷ []) v ∙ ap (λ z. between ts here a ++ z) (append_assoc (between ts a b) (c.token ∷ []) v)) in
      subst (λ z. e.MemberTrees z ((fields ++ f ∷ []) ++ rest)) (sym one1) (subst (λ z. e.MemberTrees (between ts start here ++ (between ts here a ++ (between ts a b ++ c.token ∷ v))) z) (sym (append_assoc fields (f ∷ []) rest))
      (m.trees (between ts here a ++ (between ts a b ++ c.token ∷ v)) (f ∷ rest) (e.more_members c.token (between ts here a) (between ts a b) v spec names f rest q r c.is i w)));
}

-- the members with the last of them
pub members_last_tree : (ts : List Lexeme) (start here a b : ℕ) (fields : List Field) (spec : Spec) (names : List Declor) (f : Field) → start ≤ here → here ≤ a → a ≤ b → MembersSoFar ts start here fields → SpecTree (between ts here a) spec → e.DeclorTrees (between ts a b) names → IsAt ts b t.Semicolon → e.IsField f spec names → e.MemberTrees (between ts start (b + 1)) (fields ++ f ∷ [])
members_last_tree ts start here a b fields spec names f h g k m q r c i =
    subst (λ z. e.MemberTrees z (fields ++ f ∷ [])) (ap (λ z. between ts start here ++ z) (sym (member_split ts here a b c g k)) ∙ between_join ts start here (b + 1) h (omega arith))
    (m.trees (between ts here a ++ (between ts a b ++ c.token ∷ [])) (f ∷ []) (e.last_member c.token (between ts here a) (between ts a b) spec names f q r c.is i))

pub struct_tree : (ts : List Lexeme) (at here : ℕ) (tag : Tag) (fields : List Field) (b : Base) → TagAt ts at tag → tag.brace + 1 ≤ here → e.MemberTrees (between ts (tag.brace + 1) here) fields → IsAt ts here t.CloseBrace → e.IsStruct b tag.name tag.place (Some fields) → e.BaseTree (between ts at (here + 1)) b
struct_tree ts at here tag fields b (bare c p n q o) h m d i =
    let m2 = subst (λ z. e.MemberTrees (between ts (z + 1) here) fields) q m in
    let split : between ts at (here + 1) ≡ c.token ∷ (o.token ∷ (between ts ((at + 1) + 1) here ++ d.token ∷ [])) = lead ts at (here + 1) t.Struct c (omega arith) ∙ ap (λ z. c.token ∷ z) (lead ts (at + 1) (here + 1) t.OpenBrace o (omega arith) ∙ ap (λ z. o.token ∷ z) (ending ts ((at + 1) + 1) here t.CloseBrace d (omega arith))) in
    subst (λ z. e.BaseTree z b) (sym split) (e.struct c.token o.token d.token (between ts ((at + 1) + 1) here) fields b c.is o.is m2 d.is (subst (λ z. e.IsStruct b None z (Some fields)) (sym (place_of ts at t.Struct tag.place c p)) (subst (λ z. e.IsStruct b z tag.place (Some fields)) n i)))
struct_tree ts at here tag fields b (tagged name c k x p n q o) h m d i =
    let two : (at + 1) + 1 ≡ at + 2 = omega arith in
    let m2 = subst (λ z. e.MemberTrees (between ts (z + 1) here) fields) q m in
    let split : between ts at (here + 1) ≡ c.token ∷ (k.token ∷ (o.token ∷ (between ts ((at + 2) + 1) here ++ d.token ∷ []))) = lead ts at (here + 1) t.Struct c (omega arith) ∙ ap (λ z. c.token ∷ z) (lead ts (at + 1) (here + 1) t.Name k (omega arith) ∙ ap (λ z. k.token ∷ z) (ap (λ z. between ts z (here + 1)) two ∙ lead ts (at + 2) (here + 1) t.OpenBrace o (omega arith) ∙ ap (λ z. o.token ∷ z) (ending ts ((at + 2) + 1) here t.CloseBrace d (omega arith)))) in
    subst (λ z. e.BaseTree z b) (sym split) (e.named_struct c.token k.token o.token d.token (between ts ((at + 2) + 1) here) fields b c.is k.is o.is m2 d.is
    (subst (λ z. e.IsStruct b (Some z) k.token.place (Some fields)) (sym (text_of ts (at + 1) t.Name name k x)) (subst (λ z. e.IsStruct b (Some name) z (Some fields)) (sym (place_of ts (at + 1) t.Name tag.place k p)) (subst (λ z. e.IsStruct b z tag.place (Some fields)) n i))))
