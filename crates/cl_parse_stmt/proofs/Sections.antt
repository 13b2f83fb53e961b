-- The readings of functions that read labels, items and sections in a loop: what they have read so far, and what refuses it.
use Rattle.std.proofs.Common.{◌≡◌, ℕ, ◌+◌, ◌<◌, true, false, List, [], ◌∷◌, ◌++◌, length, refl, sym, ap, ◌∙◌, subst, arith, append_assoc, ◌⊎◌, inl, inr}
use Rattle.std.specs.Global.{Vec}
use Rattle.std.proofs.lemmas.List.{append-nil}
use Rattle.cl_ast.specs.declared.statement.Stmt.{Stmt}
use Rattle.cl_ast.specs.declared.statement.Group.{Group}
use Rattle.cl_ast.specs.declared.statement.Label.{Label}
use Rattle.cl_ast.specs.declared.statement.StmtNode.TheViews.{roll-Group, out-roll-Group}
use Rattle.cl_grammar.specs.declared.lexeme.Lexeme.{Lexeme}
use Rattle.cl_grammar.specs.declared.terminal.Terminal.{Terminal}
use Rattle.cl_grammar.specs.declared.terminal.Terminal.TheVariants as t
use Rattle.cl_grammar.specs.declared.stop.ExprStop.{ExprStop}
use Rattle.cl_grammar.specs.Symbols as e
use Rattle.cl_grammar.specs.Symbols.{S}
use Rattle.cl_grammar.specs.StatementSymbols as x
use Rattle.cl_grammar.specs.StatementTrees as s
use Rattle.cl_grammar.specs.StatementTrees.{LabelTree, LabelTrees, ItemTree, ItemTrees, SectionTrees, IsGroup, IsApart}
use Rattle.cl_grammar.specs.Items.{between, IsAt, GoesOn, RefusedAt}
use Rattle.cl_grammar.proofs.TerminalKinds.{kind, has}
use Rattle.cl_grammar.proofs.Steps.{Keeps}
use Rattle.cl_grammar.proofs.Predicted.{others_rejected}
use Rattle.cl_grammar.proofs.Places.{done, goes, by_kinds, by_other_kinds, between_same, between_join}
use Rattle.cl_grammar.proofs.StatementPredicted.{stmt_picks, label_rows, keeps_stmt}
use Rattle.cl_grammar.proofs.StatementPlaces.{stmt_starts, label_starts, then_stmt, stops_next}
use Rattle.cl_parse_stmt.specs.Looks.{LabelAt, NoLabelAt, ItemsEndAt, MoreItemsAt, is_label, is_items_end}
use Rattle.cl_parse_stmt.specs.Readings as r
use Rattle.cl_parse_stmt.specs.Readings.{Has, HasItems, HasLabels, HasSections}
use Rattle.cl_parse_stmt.proofs.Moves.{same_token, itself, tokens_part}

label_kind : (k : Terminal) → is_label k ≡ has (31 ∷ 32 ∷ []) (kind k)
label_kind (t.TypeName true) = refl
label_kind (t.TypeName false) = refl
label_kind _ = refl

end_kind : (k : Terminal) → is_items_end k ≡ has (42 ∷ 31 ∷ 32 ∷ []) (kind k)
end_kind (t.TypeName true) = refl
end_kind (t.TypeName false) = refl
end_kind _ = refl

-- ---- labels

pub record LabelsRead (u : List Lexeme) (ls : List Label) : Type 0 where
  pub ends : LabelTrees u ls
  pub goes_on : (v : List Lexeme) (ms : List Label) → LabelTrees v ms → LabelTrees (u ++ v) (ls ++ ms)

pub record LabelsAt (ts : List Lexeme) (at here : ℕ) (ls : List Label) : Type 0 where
  pub forth : at < here
  pub begun : GoesOn (S x.Sections) (S x.BehindLabel ∷ []) ts at here
  pub tree : LabelsRead (between ts at here) ls

section_begun : (ts : List Lexeme) (at : ℕ) → LabelAt ts at → GoesOn (S x.Sections) (S x.Label ∷ S x.BehindLabel ∷ []) ts at at
section_begun ts at l = stmt_starts x.Sections 0 ts at l.terminal l.stands (by_kinds (31 ∷ 32 ∷ []) (λ j. stmt_picks x.Sections 0 j) l.terminal refl (sym (label_kind l.terminal) ∙ l.is))

label_keeps : Keeps (S x.Sections) (S x.Label) (S x.BehindLabel ∷ [])
label_keeps = keeps_stmt x.Sections x.Label (S x.BehindLabel ∷ []) refl refl

pub labels_stop_first : (ts : List Lexeme) (at : ℕ) → LabelAt ts at → (stop : ExprStop) → RefusedAt (S x.Label) ts at stop → RefusedAt (S x.Sections) ts at stop
labels_stop_first ts at l stop h = stops_next (S x.Sections) (S x.Label) (S x.BehindLabel ∷ []) ts at at stop label_keeps (section_begun ts at l) h refl

pub labels_at_first : (ts : List Lexeme) (at here : ℕ) (l : Label) → LabelAt ts at → Has LabelTree (S x.Label) ts at here l → LabelsAt ts at here (l ∷ [])
labels_at_first ts at here l b h = record {
  forth = h.forth;
  begun = then_stmt (S x.Sections) x.Label (S x.BehindLabel ∷ []) ts at at here label_keeps (section_begun ts at b) h.read;
  tree = record { ends = s.last (between ts at here) l h.tree; goes_on = λ v ms b. s.more (between ts at here) v l ms h.tree b };
}

behind_label_keeps : Keeps (S x.Sections) (S x.BehindLabel) []
behind_label_keeps = keeps_stmt x.Sections x.BehindLabel [] refl refl

label_begun : (ts : List Lexeme) (at here : ℕ) (ls : List Label) → LabelsAt ts at here ls → LabelAt ts here → GoesOn (S x.Sections) (S x.Label ∷ S x.BehindLabel ∷ []) ts at here
label_begun ts at here ls a l = goes (S x.Sections) (S x.BehindLabel) [] (S x.Label ∷ S x.BehindLabel ∷ []) ts at here here behind_label_keeps a.begun (label_starts ts here l.terminal l.stands (by_kinds (31 ∷ 32 ∷ []) (λ j. others_rejected (S x.BehindLabel) 0 label_rows j) l.terminal refl (sym (label_kind l.terminal) ∙ l.is)))

pub labels_stop_more : (ts : List Lexeme) (at here : ℕ) (ls : List Label) → LabelsAt ts at here ls → LabelAt ts here → (stop : ExprStop) → RefusedAt (S x.Label) ts here stop → RefusedAt (S x.Sections) ts at stop
labels_stop_more ts at here ls a l stop h = stops_next (S x.Sections) (S x.Label) (S x.BehindLabel ∷ []) ts at here stop label_keeps (label_begun ts at here ls a l) h refl

labels_more : (u v : List Lexeme) (ls : List Label) (l : Label) → LabelsRead u ls → LabelTree v l → LabelsRead (u ++ v) (ls ++ l ∷ [])
labels_more u v ls l r b = record {
  ends = r.goes_on v (l ∷ []) (s.last v l b);
  goes_on = λ w ms c. subst (λ z. LabelTrees ((u ++ v) ++ w) z) (sym (append_assoc ls (l ∷ []) ms)) (subst (λ z. LabelTrees z (ls ++ l ∷ ms)) (sym (append_assoc u v w)) (r.goes_on (v ++ w) (l ∷ ms) (s.more v w l ms b c)));
}

pub labels_at_more : (ts : List Lexeme) (at here behind : ℕ) (ls : List Label) (l : Label) → LabelsAt ts at here ls → LabelAt ts here → Has LabelTree (S x.Label) ts here behind l → LabelsAt ts at behind (ls ++ l ∷ [])
labels_at_more ts at here behind ls l a b h =
    let f = a.forth in let g = h.forth in
    record {
      forth = omega arith;
      begun = then_stmt (S x.Sections) x.Label (S x.BehindLabel ∷ []) ts at here behind label_keeps (label_begun ts at here ls a b) h.read;
      tree = tokens_part (λ z. LabelsRead z (ls ++ l ∷ [])) ts at here behind (omega arith) (omega arith) (labels_more (between ts at here) (between ts here behind) ls l a.tree h.tree);
    }

pub labels_done : (ts : List Lexeme) (at here : ℕ) (ls : List Label) → LabelsAt ts at here ls → NoLabelAt ts here → HasLabels ts at here ls
labels_done ts at here ls a n = record {
  forth = a.forth;
  begun = goes (S x.Sections) (S x.BehindLabel) [] (S x.Items ∷ S x.Sections ∷ []) ts at here here behind_label_keeps a.begun (stmt_starts x.BehindLabel 1 ts here n.terminal n.stands (by_other_kinds (31 ∷ 32 ∷ []) (λ j. stmt_picks x.BehindLabel 1 j) n.terminal refl (sym (label_kind n.terminal) ∙ n.is)));
  tree = a.tree.ends;
  ends = n;
}

-- ---- items

pub record ItemsRead (u : List Lexeme) (ss : List Stmt) : Type 0 where
  pub goes_on : (v : List Lexeme) (qs : List Stmt) → ItemTrees v qs → ItemTrees (u ++ v) (ss ++ qs)

pub record ItemsAt (ts : List Lexeme) (at here : ℕ) (ss : List Stmt) : Type 0 where
  pub begun : GoesOn (S x.Items) (S x.Items ∷ []) ts at here
  pub tree : ItemsRead (between ts at here) ss
  pub none : ss ≡ [] → here ≡ at

pub items_at_first : (ts : List Lexeme) (at : ℕ) → at < length ts → ItemsAt ts at at []
items_at_first ts at w = record {
  begun = itself (S x.Items) ts at w;
  tree = subst (λ z. ItemsRead z []) (sym (between_same ts at)) (record { goes_on = λ v qs b. b });
  none = λ h. refl;
}

items_keeps : Keeps (S x.Items) (S x.Items) []
items_keeps = keeps_stmt x.Items x.Items [] refl refl

item_keeps : Keeps (S x.Items) (S x.Item) (S x.Items ∷ [])
item_keeps = keeps_stmt x.Items x.Item (S x.Items ∷ []) refl refl

item_begun : (ts : List Lexeme) (at here : ℕ) (ss : List Stmt) → ItemsAt ts at here ss → MoreItemsAt ts here → GoesOn (S x.Items) (S x.Item ∷ S x.Items ∷ []) ts at here
item_begun ts at here ss a m = goes (S x.Items) (S x.Items) [] (S x.Item ∷ S x.Items ∷ []) ts at here here items_keeps a.begun (stmt_starts x.Items 0 ts here m.terminal m.stands (by_other_kinds (42 ∷ 31 ∷ 32 ∷ []) (λ j. stmt_picks x.Items 0 j) m.terminal refl (sym (end_kind m.terminal) ∙ m.is)))

pub items_stop : (ts : List Lexeme) (at here : ℕ) (ss : List Stmt) → ItemsAt ts at here ss → MoreItemsAt ts here → (stop : ExprStop) → RefusedAt (S x.Item) ts here stop → RefusedAt (S x.Items) ts at stop
items_stop ts at here ss a m stop h = stops_next (S x.Items) (S x.Item) (S x.Items ∷ []) ts at here stop item_keeps (item_begun ts at here ss a m) h refl

no_empty : (ss : List Stmt) (w : Stmt) → ss ++ w ∷ [] ≡ [] → ⊥
no_empty [] w h = cc
no_empty (q ∷ ss) w h = cc

items_more : (u v : List Lexeme) (ss : List Stmt) (w : Stmt) → ItemsRead u ss → ItemTree v w → ItemsRead (u ++ v) (ss ++ w ∷ [])
items_more u v ss w r b = record {
  goes_on = λ y qs c. subst (λ z. ItemTrees ((u ++ v) ++ y) z) (sym (append_assoc ss (w ∷ []) qs)) (subst (λ z. ItemTrees z (ss ++ w ∷ qs)) (sym (append_assoc u v y)) (r.goes_on (v ++ y) (w ∷ qs) (s.more_items v y w qs b c)));
}

pub items_at_more : (ts : List Lexeme) (at here behind : ℕ) (ss : List Stmt) (w : Stmt) → ItemsAt ts at here ss → MoreItemsAt ts here → Has ItemTree (S x.Item) ts here behind w → ItemsAt ts at behind (ss ++ w ∷ [])
items_at_more ts at here behind ss w a m h =
    let f = a.begun.forth in let g = h.forth in
    record {
      begun = then_stmt (S x.Items) x.Item (S x.Items ∷ []) ts at here behind item_keeps (item_begun ts at here ss a m) h.read;
      tree = tokens_part (λ z. ItemsRead z (ss ++ w ∷ [])) ts at here behind f (omega arith) (items_more (between ts at here) (between ts here behind) ss w a.tree h.tree);
      none = λ q. absurd (no_empty ss w q);
    }

pub items_done : (ts : List Lexeme) (at here : ℕ) (ss : List Stmt) → ItemsAt ts at here ss → ItemsEndAt ts here → HasItems ts at here ss
items_done ts at here ss a m = record {
  read = done (S x.Items) ts at here (goes (S x.Items) (S x.Items) [] [] ts at here here items_keeps a.begun (stmt_starts x.Items 1 ts here m.terminal m.stands (by_kinds (42 ∷ 31 ∷ 32 ∷ []) (λ j. stmt_picks x.Items 1 j) m.terminal refl (sym (end_kind m.terminal) ∙ m.is))));
  tree = subst (λ z. ItemTrees z ss) (append-nil (between ts at here)) (subst (ItemTrees (between ts at here ++ [])) (append-nil ss) (a.tree.goes_on [] [] s.no_item));
  none = a.none;
}

-- ---- sections

pub record SectionsAt (ts : List Lexeme) (at here : ℕ) (gs : List Group) : Type 0 where
  pub begun : GoesOn (S x.Sections) (S x.Sections ∷ []) ts at here
  pub goes_on : (w : List Lexeme) (hs : List Group) → SectionTrees w hs → (hs ≡ []) ⊎ LabelAt ts here → SectionTrees (between ts at here ++ w) (gs ++ hs)

pub sections_at_first : (ts : List Lexeme) (at : ℕ) → at < length ts → SectionsAt ts at at []
sections_at_first ts at w = record {
  begun = itself (S x.Sections) ts at w;
  goes_on = λ v hs b c. subst (λ z. SectionTrees (z ++ v) hs) (sym (between_same ts at)) b;
}

sections_keeps : Keeps (S x.Sections) (S x.Sections) []
sections_keeps = keeps_stmt x.Sections x.Sections [] refl refl

section_keeps : Keeps (S x.Sections) (S x.Items) (S x.Sections ∷ [])
section_keeps = keeps_stmt x.Sections x.Items (S x.Sections ∷ []) refl refl

labels_refused : (ts : List Lexeme) (at here : ℕ) (gs : List Group) → SectionsAt ts at here gs → (stop : ExprStop) → RefusedAt (S x.Sections) ts here stop → RefusedAt (S x.Sections) ts at stop
labels_refused ts at here gs a stop h = stops_next (S x.Sections) (S x.Sections) [] ts at here stop sections_keeps a.begun h refl

pub sections_stop_labels : (ts : List Lexeme) (at here : ℕ) (gs : List Group) → SectionsAt ts at here gs → (stop : ExprStop) → RefusedAt (S x.Sections) ts here stop → RefusedAt (S x.Sections) ts at stop
sections_stop_labels ts at here gs a stop h = labels_refused ts at here gs a stop h

labels_there : (ts : List Lexeme) (at here next : ℕ) (gs : List Group) (ls : List Label) → SectionsAt ts at here gs → HasLabels ts here next ls → GoesOn (S x.Sections) (S x.Items ∷ S x.Sections ∷ []) ts at next
labels_there ts at here next gs ls a l = goes (S x.Sections) (S x.Sections) [] (S x.Items ∷ S x.Sections ∷ []) ts at here next sections_keeps a.begun l.begun

pub sections_stop_items : (ts : List Lexeme) (at here next : ℕ) (gs : List Group) (ls : List Label) → SectionsAt ts at here gs → HasLabels ts here next ls → (stop : ExprStop) → RefusedAt (S x.Items) ts next stop → RefusedAt (S x.Sections) ts at stop
sections_stop_items ts at here next gs ls a l stop h = stops_next (S x.Sections) (S x.Items) (S x.Sections ∷ []) ts at next stop section_keeps (labels_there ts at here next gs ls a l) h refl

same_terminal : (ts : List Lexeme) (at : ℕ) (j k : Terminal) → IsAt ts at j → IsAt ts at k → j ≡ k
same_terminal ts at j k p q = sym p.is ∙ ap (λ z. z.terminal) (same_token ts at p.token q.token p.stands q.stands) ∙ q.is

no_label : (ts : List Lexeme) (at : ℕ) → LabelAt ts at → NoLabelAt ts at → ⊥
no_label ts at p q = let e : true ≡ false = sym p.is ∙ ap is_label (same_terminal ts at p.terminal q.terminal p.stands q.stands) ∙ q.is in cc

apart : (ts : List Lexeme) (next behind : ℕ) (body : List Stmt) (hs : List Group) → (body ≡ [] → behind ≡ next) → NoLabelAt ts next → (hs ≡ []) ⊎ LabelAt ts behind → IsApart body hs
apart ts next behind (q ∷ body) hs n l c = tt
apart ts next behind [] [] n l c = tt
apart ts next behind [] (g ∷ hs) n l (inl e) = absurd (let f : g ∷ hs ≡ [] = e in cc)
apart ts next behind [] (g ∷ hs) n l (inr b) = absurd (no_label ts next (subst (LabelAt ts) (n refl) b) l)

pub sections_at_more : (ts : List Lexeme) (at here next behind : ℕ) (gs : List Group) (ls : List Label) (body : List Stmt) (g : Group) → SectionsAt ts at here gs → LabelAt ts here → HasLabels ts here next ls → HasItems ts next behind body → IsGroup g ls body → SectionsAt ts at behind (gs ++ g ∷ [])
sections_at_more ts at here next behind gs ls body g a b l h is =
    let f = a.begun.forth in let f2 = l.forth in let f3 = h.read.read.forth in
    let split : between ts at behind ≡ between ts at here ++ (between ts here next ++ between ts next behind) = sym (ap (λ z. between ts at here ++ z) (between_join ts here next behind (omega arith) f3) ∙ between_join ts at here behind f (omega arith)) in
    record {
      begun = then_stmt (S x.Sections) x.Items (S x.Sections ∷ []) ts at next behind section_keeps (labels_there ts at here next gs ls a l) h.read;
      goes_on = λ w hs c d.
          let one = s.more_sections (between ts here next) (between ts next behind) w ls body g hs l.tree h.tree c (apart ts next behind body hs h.none l.ends d) is in
          let all = a.goes_on (between ts here next ++ (between ts next behind ++ w)) (g ∷ hs) one (inr b) in
          let e : between ts at behind ++ w ≡ between ts at here ++ (between ts here next ++ (between ts next behind ++ w)) =
          ap (λ z. z ++ w) split ∙ append_assoc (between ts at here) (between ts here next ++ between ts next behind) w ∙ ap (λ z. between ts at here ++ z) (append_assoc (between ts here next) (between ts next behind) w) in
          subst (λ z. SectionTrees (between ts at behind ++ w) z) (sym (append_assoc gs (g ∷ []) hs)) (subst (λ z. SectionTrees z (gs ++ g ∷ hs)) (sym e) all);
    }

-- a section that was built
pub built_group : (labels : Vec Label) (body : Vec Stmt) → IsGroup (roll-Group record { labels = labels; body = body }) labels.items body.items
built_group labels body = let e = out-roll-Group record { labels = labels; body = body } in record { under = ap (λ z. z.labels.items) e; has = ap (λ z. z.body.items) e }

pub sections_pushed : (ts : List Lexeme) (at here next behind : ℕ) (new old : List Group) (ls : List Label) (body : List Stmt) (g : Group) → new ≡ old ++ g ∷ [] → SectionsAt ts at here old → LabelAt ts here → HasLabels ts here next ls → HasItems ts next behind body → IsGroup g ls body → SectionsAt ts at behind new
sections_pushed ts at here next behind new old ls body g e a b l h is = subst (λ z. SectionsAt ts at behind z) (sym e) (sections_at_more ts at here next behind old ls body g a b l h is)

pub sections_done : (ts : List Lexeme) (at here : ℕ) (gs : List Group) → SectionsAt ts at here gs → NoLabelAt ts here → HasSections ts at here gs
sections_done ts at here gs a n = record {
  read = done (S x.Sections) ts at here (goes (S x.Sections) (S x.Sections) [] [] ts at here here sections_keeps a.begun (stmt_starts x.Sections 1 ts here n.terminal n.stands (by_other_kinds (31 ∷ 32 ∷ []) (λ j. stmt_picks x.Sections 1 j) n.terminal refl (sym (label_kind n.terminal) ∙ n.is))));
  tree = subst (λ z. SectionTrees z gs) (append-nil (between ts at here)) (subst (SectionTrees (between ts at here ++ [])) (append-nil gs) (a.goes_on [] [] s.no_section (inl refl)));
}
