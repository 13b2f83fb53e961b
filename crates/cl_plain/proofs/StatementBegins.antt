-- What statements, items and labels begin with.
use Rattle.std.proofs.Common.{◌≡◌, Bool, true, false, List, [], ◌∷◌, ◌++◌, refl, ap}
use Rattle.cl_ast.specs.declared.statement.Group.{Group}
use Rattle.cl_ast.specs.declared.statement.Label.{Label}
use Rattle.cl_ast.specs.declared.statement.Stmt.{Stmt}
use Rattle.cl_grammar.specs.declared.lexeme.Lexeme.{Lexeme}
use Rattle.cl_grammar.specs.declared.terminal.Terminal.{Terminal}
use Rattle.cl_grammar.specs.declared.terminal.Terminal.TheVariants as t
use Rattle.cl_grammar.specs.Expressions.{IsA}
use Rattle.cl_grammar.specs.StatementTrees.{LabelTree, LabelTrees, IsApart, BlockTree, block, ItemTrees, no_item, more_items, ItemTree, type_alone, declaration, statement, StmtTree, compound, empty, expression, only_if, if_else, while_loop, do_loop, for_loop, switch, break, continue, return, SectionTrees, no_section, more_sections}
use Rattle.cl_grammar.specs.StatementTrees as trees
use Rattle.cl_plain.proofs.Reading.{first_is, begins_type}
use Rattle.cl_plain.proofs.ReadSteps.{first_apart}
use Rattle.cl_plain.proofs.PartBegins.{expr_first}
use Rattle.cl_plain.proofs.ReadExpressions.{spec_begins}
use Rattle.cl_plain.proofs.ReadMarks.{begins_expr, first_excludes, first_implies}

abbrev pub is_else : Terminal → Bool
is_else t.Else = true
is_else _ = false

abbrev pub is_case : Terminal → Bool
is_case t.Case = true
is_case _ = false

abbrev pub is_label_word : Terminal → Bool
is_label_word t.Case = true
is_label_word t.Default = true
is_label_word _ = false

-- behind items
abbrev pub ends_items : Terminal → Bool
ends_items t.CloseBrace = true
ends_items l = is_label_word l

-- ---- what statements begin with

abbrev pub begins_stmt : Terminal → Bool
begins_stmt t.OpenBrace = true
begins_stmt t.Semicolon = true
begins_stmt t.If = true
begins_stmt t.While = true
begins_stmt t.Do = true
begins_stmt t.For = true
begins_stmt t.Switch = true
begins_stmt t.Break = true
begins_stmt t.Continue = true
begins_stmt t.Return = true
begins_stmt l = begins_expr l

-- words that no item has at its beginning: an `else`, a label and the end
abbrev pub begins_no_item : Terminal → Bool
begins_no_item t.Else = true
begins_no_item l = ends_items l

pub expr_stmt : (l : Terminal) → begins_expr l ≡ true → begins_stmt l ≡ true
expr_stmt t.OpenBrace e = refl
expr_stmt t.Semicolon e = refl
expr_stmt t.If e = refl
expr_stmt t.While e = refl
expr_stmt t.Do e = refl
expr_stmt t.For e = refl
expr_stmt t.Switch e = refl
expr_stmt t.Break e = refl
expr_stmt t.Continue e = refl
expr_stmt t.Return e = refl
expr_stmt _ e = e

pub block_first : (u : List Lexeme) (s : Stmt) → BlockTree u s → (r : List Lexeme) → first_is begins_stmt (u ++ r) ≡ true
block_first _ _ (block o c u items s ho h hc is) r = ap begins_stmt ho

pub stmt_first : (open_if : Bool) (u : List Lexeme) (s : Stmt) → StmtTree open_if u s → (r : List Lexeme) → first_is begins_stmt (u ++ r) ≡ true
stmt_first _ _ _ (compound u s h) r = block_first u s h r
stmt_first _ _ _ (empty h s k is) r = ap begins_stmt k
stmt_first _ _ _ (expression h u place e s k hh b is) r = first_apart begins_stmt u (h ∷ []) r (first_implies begins_expr begins_stmt expr_stmt (u ++ h ∷ r) (expr_first u e k (h ∷ r)))
stmt_first _ _ _ (only_if f i o c u v e a arms s hi ho k hc k2 is1 is) r = ap begins_stmt hi
stmt_first _ _ _ (if_else f i o c h u v w e a b arms s hi ho k hc k2 hh k3 is1 is) r = ap begins_stmt hi
stmt_first _ _ _ (while_loop f h o c u v e a body s hh ho k hc k2 is1 is) r = ap begins_stmt hh
stmt_first _ _ _ (do_loop f d h o c k u v e a body s hd k1 hh ho k2 hc hk is1 is) r = ap begins_stmt hd
stmt_first _ _ _ (for_loop f g o h c u v w x decl body first cond next a s hg ho k1 k2 hh k3 hc k4 is1 is) r = ap begins_stmt hg
stmt_first _ _ _ (switch h o c b d u v e gs s hh ho k1 hc hb k2 hd is) r = ap begins_stmt hh
stmt_first _ _ _ (break h k s hh hk is) r = ap begins_stmt hh
stmt_first _ _ _ (continue h k s hh hk is) r = ap begins_stmt hh
stmt_first _ _ _ (return h k u e s hh k1 hk is) r = ap begins_stmt hh

pub stmt_no_type : (l : Terminal) → begins_stmt l ≡ true → begins_type l ≡ false
stmt_no_type (t.TypeName vector) e = absurd (cc)
stmt_no_type t.Const e = absurd (cc)
stmt_no_type t.Volatile e = absurd (cc)
stmt_no_type (t.Space s) e = absurd (cc)
stmt_no_type t.Void e = absurd (cc)
stmt_no_type t.Bool e = absurd (cc)
stmt_no_type t.Signed e = absurd (cc)
stmt_no_type t.Unsigned e = absurd (cc)
stmt_no_type t.Char e = absurd (cc)
stmt_no_type t.Short e = absurd (cc)
stmt_no_type t.Int e = absurd (cc)
stmt_no_type t.Long e = absurd (cc)
stmt_no_type (t.UnsignedInt bits) e = absurd (cc)
stmt_no_type (t.Vector bits signed n) e = absurd (cc)
stmt_no_type (t.Sized signed) e = absurd (cc)
stmt_no_type t.Struct e = absurd (cc)
stmt_no_type _ e = refl

stmt_item : (l : Terminal) → begins_stmt l ≡ true → begins_no_item l ≡ false
stmt_item t.Else e = absurd (cc)
stmt_item t.CloseBrace e = absurd (cc)
stmt_item t.Case e = absurd (cc)
stmt_item t.Default e = absurd (cc)
stmt_item _ e = refl

type_item : (l : Terminal) → begins_type l ≡ true → begins_no_item l ≡ false
type_item t.Else e = absurd (cc)
type_item t.CloseBrace e = absurd (cc)
type_item t.Case e = absurd (cc)
type_item t.Default e = absurd (cc)
type_item _ e = refl

pub item_first : (u : List Lexeme) (s : Stmt) → ItemTree u s → (r : List Lexeme) → first_is begins_no_item (u ++ r) ≡ false
item_first _ _ (type_alone h u place spec items s k hh b bare is) r = first_apart begins_no_item u (h ∷ []) r (first_excludes begins_type begins_no_item type_item (u ++ h ∷ r) (spec_begins u spec k (h ∷ r)))
item_first _ _ (declaration h u v place spec items s k ks hh b is) r =
    first_apart begins_no_item u (v ++ h ∷ []) r (first_excludes begins_type begins_no_item type_item (u ++ ((v ++ h ∷ []) ++ r)) (spec_begins u spec k ((v ++ h ∷ []) ++ r)))
item_first _ _ (statement f u s h) r = first_excludes begins_stmt begins_no_item stmt_item (u ++ r) (stmt_first f u s h r)

no_else : (l : Terminal) → begins_no_item l ≡ false → is_else l ≡ false
no_else t.Else e = absurd (cc)
no_else _ e = refl

pub no_end : (l : Terminal) → begins_no_item l ≡ false → ends_items l ≡ false
no_end t.CloseBrace e = absurd (cc)
no_end t.Else e = refl
no_end _ e = e

no_label : (l : Terminal) → begins_no_item l ≡ false → is_label_word l ≡ false
no_label t.Case e = absurd (cc)
no_label t.Default e = absurd (cc)
no_label _ e = refl

pub not_first : (p q : Terminal → Bool) → ((l : Terminal) → p l ≡ false → q l ≡ false) → (ls : List Lexeme) → first_is p ls ≡ false → first_is q ls ≡ false
not_first p q f [] e = refl
not_first p q f (l ∷ ls) e = f l.terminal e

end_no_else : (l : Terminal) → ends_items l ≡ true → is_else l ≡ false
end_no_else t.Else e = absurd (cc)
end_no_else _ e = refl

pub items_no_else : (u : List Lexeme) (ss : List Stmt) → ItemTrees u ss → (r : List Lexeme) → first_is ends_items r ≡ true → first_is is_else (u ++ r) ≡ false
items_no_else _ _ no_item r k = first_excludes ends_items is_else end_no_else r k
items_no_else _ _ (more_items u v s ss h hs) r k = first_apart is_else u v r (not_first begins_no_item is_else no_else (u ++ (v ++ r)) (item_first u s h (v ++ r)))

pub label_first : (u : List Lexeme) (l : Label) → LabelTree u l → (r : List Lexeme) → first_is is_label_word (u ++ r) ≡ true
label_first _ _ (trees.case l k u e hl h hk) r = ap is_label_word hl
label_first _ _ (trees.default l k hl hk) r = ap is_label_word hl

pub labels_first : (u : List Lexeme) (ls : List Label) → LabelTrees u ls → (r : List Lexeme) → first_is is_label_word (u ++ r) ≡ true
labels_first _ _ (trees.last u l h) r = label_first u l h r
labels_first _ _ (trees.more u v l ls h hs) r = first_apart is_label_word u v r (label_first u l h (v ++ r))

label_ends : (l : Terminal) → is_label_word l ≡ true → ends_items l ≡ true
label_ends t.CloseBrace e = refl
label_ends _ e = e

-- behind the items of a section
pub sections_end : (u : List Lexeme) (gs : List Group) → SectionTrees u gs → (c : Lexeme) (r : List Lexeme) → IsA t.CloseBrace c → first_is ends_items (u ++ c ∷ r) ≡ true
sections_end _ _ no_section c r hc = ap ends_items hc
sections_end _ _ (more_sections u v w labels body g gs h k1 k2 apart is) c r hc =
    first_apart ends_items u (v ++ w) (c ∷ r) (first_implies is_label_word ends_items label_ends (u ++ ((v ++ w) ++ c ∷ r)) (labels_first u labels h ((v ++ w) ++ c ∷ r)))

-- behind the labels of a section
pub apart_no_label : (v w : List Lexeme) (body : List Stmt) (gs : List Group) → ItemTrees v body → SectionTrees w gs → IsApart body gs → (c : Lexeme) (r : List Lexeme) → IsA t.CloseBrace c → first_is is_label_word (v ++ (w ++ c ∷ r)) ≡ false
apart_no_label _ _ _ _ no_item no_section apart c r hc = ap is_label_word hc
apart_no_label _ _ _ _ no_item (more_sections u v w labels body g gs h k1 k2 x is) apart c r hc = absurd apart
apart_no_label _ w _ _ (more_items u v s ss h hs) k apart c r hc = first_apart is_label_word u v (w ++ c ∷ r) (not_first begins_no_item is_label_word no_label (u ++ (v ++ (w ++ c ∷ r))) (item_first u s h (v ++ (w ++ c ∷ r))))
