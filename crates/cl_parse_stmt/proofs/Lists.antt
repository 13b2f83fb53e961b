-- The readings of functions that read parts in a loop: what they have read so far, and what refuses it.
use Rattle.std.proofs.Common.{◌≡◌, ℕ, ◌+◌, ◌<◌, true, false, List, [], ◌∷◌, ◌++◌, length, refl, sym, subst, arith, append_assoc}
use Rattle.std.specs.Prelude.{Some, None, ◌||◌}
use Rattle.std.specs.Global.{Vec}
use Rattle.cl_ast.specs.declared.expression.Declor.{Declor}
use Rattle.cl_ast.specs.declared.declaration.Init.{Init}
use Rattle.cl_ast.specs.declared.declaration.Init.TheVariants as init
use Rattle.cl_ast.specs.declared.declaration.InitDeclor.{InitDeclor}
use Rattle.clv_place.specs.declared.place.Place.{Place}
use Rattle.cl_grammar.specs.declared.lexeme.Lexeme.{Lexeme}
use Rattle.cl_grammar.specs.declared.terminal.Terminal.{Terminal}
use Rattle.cl_grammar.specs.declared.terminal.Terminal.TheVariants as t
use Rattle.cl_grammar.specs.declared.stop.ExprStop.{ExprStop}
use Rattle.cl_grammar.specs.Symbols as e
use Rattle.cl_grammar.specs.Symbols.{Mark, E, S}
use Rattle.cl_grammar.specs.StatementSymbols as x
use Rattle.cl_grammar.specs.ExpressionTrees.{DeclorTree}
use Rattle.cl_grammar.specs.StatementTrees as s
use Rattle.cl_grammar.specs.StatementTrees.{InitTree, InitTrees, InitDeclorTree, InitDeclorTrees}
use Rattle.cl_grammar.specs.Items.{between, EndsIn, IsAt, OtherAt, PlaceAt, GoesOn, ReadAt, RefusedAt}
use Rattle.cl_grammar.specs.Expressions.{IsA}
use Rattle.cl_grammar.proofs.TerminalKinds.{kind, has, all_below}
use Rattle.cl_grammar.proofs.Steps.{Keeps}
use Rattle.cl_grammar.proofs.Predicted.{keeps_mark, keeps_part}
use Rattle.cl_grammar.proofs.Places.{then, done, goes, by_other_kinds}
use Rattle.cl_grammar.proofs.StatementPredicted.{stmt_picks, keeps_stmt}
use Rattle.cl_grammar.proofs.StatementPlaces.{stmt_starts, then_stmt, stops_next}
use Rattle.cl_parse_stmt.specs.Readings as r
use Rattle.cl_parse_stmt.specs.Readings.{Has}
use Rattle.cl_parse_stmt.proofs.Moves.{more_behind, token_at, then_expect, reads_some, tokens_mark, tokens_end, tokens_part, place_of}

-- ---- kinds of tokens

other_kind_comma : (k : Terminal) → (k ≡ t.Comma → ⊥) → has (43 ∷ []) (kind k) ≡ false
other_kind_comma t.Comma h = absurd (h refl)
other_kind_comma (t.TypeName true) h = refl
other_kind_comma (t.TypeName false) h = refl
other_kind_comma _ h = refl

other_kind_close : (k : Terminal) → (k ≡ t.CloseBrace → ⊥) → has (42 ∷ []) (kind k) ≡ false
other_kind_close t.CloseBrace h = absurd (h refl)
other_kind_close (t.TypeName true) h = refl
other_kind_close (t.TypeName false) h = refl
other_kind_close _ h = refl

other_kind_equals : (k : Terminal) → (k ≡ t.Equals → ⊥) → has (58 ∷ []) (kind k) ≡ false
other_kind_equals t.Equals h = absurd (h refl)
other_kind_equals (t.TypeName true) h = refl
other_kind_equals (t.TypeName false) h = refl
other_kind_equals _ h = refl

by_not_comma : (y : x.StmtSym) (n : ℕ) (k : Terminal) → all_below 63 (λ j. has (43 ∷ []) j || stmt_picks y n j) ≡ true → (k ≡ t.Comma → ⊥) → stmt_picks y n (kind k) ≡ true
by_not_comma y n k c h = by_other_kinds (43 ∷ []) (λ j. stmt_picks y n j) k c (other_kind_comma k h)

by_not_close : (y : x.StmtSym) (n : ℕ) (k : Terminal) → all_below 63 (λ j. has (42 ∷ []) j || stmt_picks y n j) ≡ true → (k ≡ t.CloseBrace → ⊥) → stmt_picks y n (kind k) ≡ true
by_not_close y n k c h = by_other_kinds (42 ∷ []) (λ j. stmt_picks y n j) k c (other_kind_close k h)

by_not_equals : (y : x.StmtSym) (n : ℕ) (k : Terminal) → all_below 63 (λ j. has (58 ∷ []) j || stmt_picks y n j) ≡ true → (k ≡ t.Equals → ⊥) → stmt_picks y n (kind k) ≡ true
by_not_equals y n k c h = by_other_kinds (58 ∷ []) (λ j. stmt_picks y n j) k c (other_kind_equals k h)

pub comma_within : (ts : List Lexeme) (at next : ℕ) → EndsIn ts → IsAt ts at t.Comma → next ≡ at + 1 → next < length ts
comma_within ts at next ends s e = more_behind t.Comma ts at next ends s refl e

pub equals_within : (ts : List Lexeme) (at next : ℕ) → EndsIn ts → IsAt ts at t.Equals → next ≡ at + 1 → next < length ts
equals_within ts at next ends s e = more_behind t.Equals ts at next ends s refl e

pub brace_within : (ts : List Lexeme) (at next : ℕ) → EndsIn ts → IsAt ts at t.OpenBrace → next ≡ at + 1 → next < length ts
brace_within ts at next ends s e = more_behind t.OpenBrace ts at next ends s refl e

-- ---- initialisers in braces

-- initialisers with commas between them; another comma and more of them may follow
pub record InitsRead (u : List Lexeme) (is : List Init) : Type 0 where
  pub ends : InitTrees u is
  pub ends_with_comma : (k : Lexeme) → IsA t.Comma k → InitTrees (u ++ k ∷ []) is
  pub goes_on : (k : Lexeme) (v : List Lexeme) (js : List Init) → IsA t.Comma k → InitTrees v js → InitTrees (u ++ k ∷ v) (is ++ js)

inits_first : (u : List Lexeme) (i : Init) → InitTree u i → InitsRead u (i ∷ [])
inits_first u i a = record { ends = s.last_init u i a; ends_with_comma = λ k h. s.last_with_comma k u i a h; goes_on = λ k v js h b. s.more_inits k u v i js a h b }

inits_more : (u v : List Lexeme) (is : List Init) (i : Init) (k : Lexeme) → InitsRead u is → IsA t.Comma k → InitTree v i → InitsRead (u ++ k ∷ v) (is ++ i ∷ [])
inits_more u v is i k r h b = record {
  ends = r.goes_on k v (i ∷ []) h (s.last_init v i b);
  ends_with_comma = λ j g. subst (λ z. InitTrees z (is ++ i ∷ [])) (sym (append_assoc u (k ∷ v) (j ∷ []))) (r.goes_on k (v ++ j ∷ []) (i ∷ []) h (s.last_with_comma j v i b g));
  goes_on = λ j w js g c. subst (λ z. InitTrees ((u ++ k ∷ v) ++ j ∷ w) z) (sym (append_assoc is (i ∷ []) js)) (subst (λ z. InitTrees z (is ++ i ∷ js)) (sym (append_assoc u (k ∷ v) (j ∷ w))) (r.goes_on k (v ++ j ∷ w) (i ∷ js) h (s.more_inits j v w i js b g c)));
}

pub record InitsAt (ts : List Lexeme) (at here : ℕ) (is : List Init) : Type 0 where
  pub forth : at + 1 < here
  pub opens : IsAt ts at t.OpenBrace
  pub begun : GoesOn (S x.Init) (S x.BehindInit ∷ []) ts at here
  pub tree : InitsRead (between ts (at + 1) here) is

brace_begun : (ts : List Lexeme) (at : ℕ) → IsAt ts at t.OpenBrace → GoesOn (S x.Init) (Mark t.OpenBrace ∷ S x.Init ∷ S x.BehindInit ∷ []) ts at at
brace_begun ts at s = stmt_starts x.Init 0 ts at t.OpenBrace s refl

brace_read : (ts : List Lexeme) (at p1 : ℕ) → EndsIn ts → IsAt ts at t.OpenBrace → p1 ≡ at + 1 → GoesOn (S x.Init) (S x.Init ∷ S x.BehindInit ∷ []) ts at p1
brace_read ts at p1 ends s e = then_expect (S x.Init) t.OpenBrace (S x.Init ∷ S x.BehindInit ∷ []) ts at at p1 ends (brace_begun ts at s) s e refl

init_keeps : Keeps (S x.Init) (S x.Init) (S x.BehindInit ∷ [])
init_keeps = keeps_stmt x.Init x.Init (S x.BehindInit ∷ []) refl refl

behind_keeps : Keeps (S x.Init) (S x.BehindInit) []
behind_keeps = keeps_stmt x.Init x.BehindInit [] refl refl

more_keeps : Keeps (S x.Init) (S x.MoreInits) []
more_keeps = keeps_stmt x.Init x.MoreInits [] refl refl

pub braces_stop_open : (ts : List Lexeme) (at : ℕ) → IsAt ts at t.OpenBrace → (stop : ExprStop) → RefusedAt (Mark t.OpenBrace) ts at stop → RefusedAt (S x.Init) ts at stop
braces_stop_open ts at s stop h = stops_next (S x.Init) (Mark t.OpenBrace) (S x.Init ∷ S x.BehindInit ∷ []) ts at at stop (keeps_mark (S x.Init) t.OpenBrace (S x.Init ∷ S x.BehindInit ∷ [])) (brace_begun ts at s) h refl

pub braces_stop_first : (ts : List Lexeme) (at p1 : ℕ) → EndsIn ts → IsAt ts at t.OpenBrace → p1 ≡ at + 1 → (stop : ExprStop) → RefusedAt (S x.Init) ts p1 stop → RefusedAt (S x.Init) ts at stop
braces_stop_first ts at p1 ends s e stop h = stops_next (S x.Init) (S x.Init) (S x.BehindInit ∷ []) ts at p1 stop init_keeps (brace_read ts at p1 ends s e) h refl

pub inits_at_first : (ts : List Lexeme) (at p1 here : ℕ) (i : Init) → EndsIn ts → IsAt ts at t.OpenBrace → p1 ≡ at + 1 → Has InitTree (S x.Init) ts p1 here i → InitsAt ts at here (i ∷ [])
inits_at_first ts at p1 here i ends s e h = record {
  forth = let f = h.forth in omega arith;
  opens = s;
  begun = then_stmt (S x.Init) x.Init (S x.BehindInit ∷ []) ts at p1 here init_keeps (brace_read ts at p1 ends s e) h.read;
  tree = inits_first (between ts (at + 1) here) i (subst (λ n. InitTree (between ts n here) i) e h.tree);
}

comma_begun : (ts : List Lexeme) (at here : ℕ) (is : List Init) → InitsAt ts at here is → IsAt ts here t.Comma → GoesOn (S x.Init) (Mark t.Comma ∷ S x.MoreInits ∷ []) ts at here
comma_begun ts at here is a s = goes (S x.Init) (S x.BehindInit) [] (Mark t.Comma ∷ S x.MoreInits ∷ []) ts at here here behind_keeps a.begun (stmt_starts x.BehindInit 1 ts here t.Comma s refl)

comma_read : (ts : List Lexeme) (at here next : ℕ) (is : List Init) → EndsIn ts → InitsAt ts at here is → IsAt ts here t.Comma → next ≡ here + 1 → GoesOn (S x.Init) (S x.MoreInits ∷ []) ts at next
comma_read ts at here next is ends a s e = then_expect (S x.Init) t.Comma (S x.MoreInits ∷ []) ts at here next ends (comma_begun ts at here is a s) s e refl

trailing : (ts : List Lexeme) (at here next : ℕ) (is : List Init) → EndsIn ts → InitsAt ts at here is → IsAt ts here t.Comma → next ≡ here + 1 → IsAt ts next t.CloseBrace → GoesOn (S x.Init) (Mark t.CloseBrace ∷ []) ts at next
trailing ts at here next is ends a s e c = goes (S x.Init) (S x.MoreInits) [] (Mark t.CloseBrace ∷ []) ts at next next more_keeps (comma_read ts at here next is ends a s e) (stmt_starts x.MoreInits 0 ts next t.CloseBrace c refl)

another : (ts : List Lexeme) (at here next : ℕ) (is : List Init) → EndsIn ts → InitsAt ts at here is → IsAt ts here t.Comma → next ≡ here + 1 → OtherAt ts next t.CloseBrace → GoesOn (S x.Init) (S x.Init ∷ S x.BehindInit ∷ []) ts at next
another ts at here next is ends a s e o = goes (S x.Init) (S x.MoreInits) [] (S x.Init ∷ S x.BehindInit ∷ []) ts at next next more_keeps (comma_read ts at here next is ends a s e) (stmt_starts x.MoreInits 1 ts next o.other o.stands (by_not_close x.MoreInits 1 o.other refl o.differs))

closing : (ts : List Lexeme) (at here : ℕ) (is : List Init) → InitsAt ts at here is → OtherAt ts here t.Comma → GoesOn (S x.Init) (Mark t.CloseBrace ∷ []) ts at here
closing ts at here is a o = goes (S x.Init) (S x.BehindInit) [] (Mark t.CloseBrace ∷ []) ts at here here behind_keeps a.begun (stmt_starts x.BehindInit 0 ts here o.other o.stands (by_not_comma x.BehindInit 0 o.other refl o.differs))

pub braces_stop_comma : (ts : List Lexeme) (at here : ℕ) (is : List Init) → InitsAt ts at here is → IsAt ts here t.Comma → (stop : ExprStop) → RefusedAt (Mark t.Comma) ts here stop → RefusedAt (S x.Init) ts at stop
braces_stop_comma ts at here is a s stop h = stops_next (S x.Init) (Mark t.Comma) (S x.MoreInits ∷ []) ts at here stop (keeps_mark (S x.Init) t.Comma (S x.MoreInits ∷ [])) (comma_begun ts at here is a s) h refl

pub braces_stop_trailing : (ts : List Lexeme) (at here next : ℕ) (is : List Init) → EndsIn ts → InitsAt ts at here is → IsAt ts here t.Comma → next ≡ here + 1 → IsAt ts next t.CloseBrace → (stop : ExprStop) → RefusedAt (Mark t.CloseBrace) ts next stop → RefusedAt (S x.Init) ts at stop
braces_stop_trailing ts at here next is ends a s e c stop h = stops_next (S x.Init) (Mark t.CloseBrace) [] ts at next stop (keeps_mark (S x.Init) t.CloseBrace []) (trailing ts at here next is ends a s e c) h refl

pub braces_stop_item : (ts : List Lexeme) (at here next : ℕ) (is : List Init) → EndsIn ts → InitsAt ts at here is → IsAt ts here t.Comma → next ≡ here + 1 → OtherAt ts next t.CloseBrace → (stop : ExprStop) → RefusedAt (S x.Init) ts next stop → RefusedAt (S x.Init) ts at stop
braces_stop_item ts at here next is ends a s e o stop h = stops_next (S x.Init) (S x.Init) (S x.BehindInit ∷ []) ts at next stop init_keeps (another ts at here next is ends a s e o) h refl

pub braces_stop_close : (ts : List Lexeme) (at here : ℕ) (is : List Init) → InitsAt ts at here is → OtherAt ts here t.Comma → (stop : ExprStop) → RefusedAt (Mark t.CloseBrace) ts here stop → RefusedAt (S x.Init) ts at stop
braces_stop_close ts at here is a o stop h = stops_next (S x.Init) (Mark t.CloseBrace) [] ts at here stop (keeps_mark (S x.Init) t.CloseBrace []) (closing ts at here is a o) h refl

pub inits_at_more : (ts : List Lexeme) (at here next behind : ℕ) (is : List Init) (i : Init) → EndsIn ts → InitsAt ts at here is → IsAt ts here t.Comma → next ≡ here + 1 → OtherAt ts next t.CloseBrace → Has InitTree (S x.Init) ts next behind i → InitsAt ts at behind (is ++ i ∷ [])
inits_at_more ts at here next behind is i ends a s e o h =
    let f = a.forth in let g = h.forth in
    record {
      forth = omega arith;
      opens = a.opens;
      begun = then_stmt (S x.Init) x.Init (S x.BehindInit ∷ []) ts at next behind init_keeps (another ts at here next is ends a s e o) h.read;
      tree = tokens_part (λ z. InitsRead z (is ++ i ∷ [])) ts (at + 1) here behind (omega arith) (omega arith) (tokens_mark (λ z. InitsRead (between ts (at + 1) here ++ z) (is ++ i ∷ [])) ts here next behind s.token s.stands e (omega arith) (inits_more (between ts (at + 1) here) (between ts next behind) is i s.token a.tree s.is h.tree));
    }

braces_tree : (ts : List Lexeme) (at last end : ℕ) (place : Place) (items : Vec Init) (o : IsAt ts at t.OpenBrace) (c : IsAt ts last t.CloseBrace) → at + 1 < last → end ≡ last + 1 → PlaceAt ts at place → InitTrees (between ts (at + 1) last) items.items → InitTree (between ts at end) (init.Braces place items)
braces_tree ts at last end place items o c f e p tr =
    tokens_mark (λ z. InitTree z (init.Braces place items)) ts at (at + 1) end o.token o.stands refl (omega arith)
    (tokens_part (λ z. InitTree (o.token ∷ z) (init.Braces place items)) ts (at + 1) last end (omega arith) (omega arith)
    (tokens_end (λ z. InitTree (o.token ∷ (between ts (at + 1) last ++ z)) (init.Braces place items)) ts last end c.token c.stands e
    (subst (λ q. InitTree (o.token ∷ (between ts (at + 1) last ++ c.token ∷ [])) (init.Braces q items)) (sym (place_of ts at o.token place o.stands p)) (s.braces o.token c.token (between ts (at + 1) last) items o.is tr c.is))))

pub braces_trailing : (ts : List Lexeme) (at here next end : ℕ) (place : Place) (items : Vec Init) → EndsIn ts → InitsAt ts at here items.items → IsAt ts here t.Comma → next ≡ here + 1 → IsAt ts next t.CloseBrace → end ≡ next + 1 → PlaceAt ts at place → Has InitTree (S x.Init) ts at end (init.Braces place items)
braces_trailing ts at here next end place items ends a s e c g p =
    let f = a.forth in
    record {
      forth = omega arith;
      read = done (S x.Init) ts at end (then_expect (S x.Init) t.CloseBrace [] ts at next end ends (trailing ts at here next items.items ends a s e c) c g refl);
      tree = braces_tree ts at next end place items a.opens c (omega arith) g p (tokens_part (λ z. InitTrees z items.items) ts (at + 1) here next (omega arith) (omega arith) (tokens_end (λ z. InitTrees (between ts (at + 1) here ++ z) items.items) ts here next s.token s.stands e (a.tree.ends_with_comma s.token s.is)));
    }

pub braces_closed : (ts : List Lexeme) (at here end : ℕ) (place : Place) (items : Vec Init) → EndsIn ts → InitsAt ts at here items.items → OtherAt ts here t.Comma → IsAt ts here t.CloseBrace → end ≡ here + 1 → PlaceAt ts at place → Has InitTree (S x.Init) ts at end (init.Braces place items)
braces_closed ts at here end place items ends a o c g p =
    let f = a.forth in
    record {
      forth = omega arith;
      read = done (S x.Init) ts at end (then_expect (S x.Init) t.CloseBrace [] ts at here end ends (closing ts at here items.items a o) c g refl);
      tree = braces_tree ts at here end place items a.opens c f g p a.tree.ends;
    }

-- ---- a declared name with its initialiser

declor_begun : (ts : List Lexeme) (at : ℕ) → at < length ts → GoesOn (S x.InitDeclor) (E e.Declor ∷ S x.BehindDeclor ∷ []) ts at at
declor_begun ts at h = let w = token_at ts at h in stmt_starts x.InitDeclor 0 ts at w.terminal w.stands refl

pub declor_stop : (ts : List Lexeme) (at : ℕ) → at < length ts → (stop : ExprStop) → RefusedAt (E e.Declor) ts at stop → RefusedAt (S x.InitDeclor) ts at stop
declor_stop ts at w stop h = stops_next (S x.InitDeclor) (E e.Declor) (S x.BehindDeclor ∷ []) ts at at stop (keeps_part (S x.InitDeclor) e.Declor (S x.BehindDeclor ∷ []) refl) (declor_begun ts at w) h refl

declor_read : (ts : List Lexeme) (at here : ℕ) → at < length ts → ReadAt (E e.Declor) ts at here → GoesOn (S x.InitDeclor) (S x.BehindDeclor ∷ []) ts at here
declor_read ts at here w r = then (S x.InitDeclor) e.Declor (S x.BehindDeclor ∷ []) ts at at here (declor_begun ts at w) r refl

behind_declor_keeps : Keeps (S x.InitDeclor) (S x.BehindDeclor) []
behind_declor_keeps = keeps_stmt x.InitDeclor x.BehindDeclor [] refl refl

pub declor_alone : (ts : List Lexeme) (at here : ℕ) (d : Declor) → at < length ts → ReadAt (E e.Declor) ts at here → DeclorTree (between ts at here) d → OtherAt ts here t.Equals → Has InitDeclorTree (S x.InitDeclor) ts at here (record { name = d; init = None })
declor_alone ts at here d w r tr o = record {
  forth = reads_some (E e.Declor) ts at here refl r;
  read = done (S x.InitDeclor) ts at here (goes (S x.InitDeclor) (S x.BehindDeclor) [] [] ts at here here behind_declor_keeps (declor_read ts at here w r) (stmt_starts x.BehindDeclor 1 ts here o.other o.stands (by_not_equals x.BehindDeclor 1 o.other refl o.differs)));
  tree = s.bare (between ts at here) d tr;
}

equals_begun : (ts : List Lexeme) (at here : ℕ) → at < length ts → ReadAt (E e.Declor) ts at here → IsAt ts here t.Equals → GoesOn (S x.InitDeclor) (Mark t.Equals ∷ S x.Init ∷ []) ts at here
equals_begun ts at here w r s = goes (S x.InitDeclor) (S x.BehindDeclor) [] (Mark t.Equals ∷ S x.Init ∷ []) ts at here here behind_declor_keeps (declor_read ts at here w r) (stmt_starts x.BehindDeclor 0 ts here t.Equals s refl)

pub declor_stop_equals : (ts : List Lexeme) (at here : ℕ) → at < length ts → ReadAt (E e.Declor) ts at here → IsAt ts here t.Equals → (stop : ExprStop) → RefusedAt (Mark t.Equals) ts here stop → RefusedAt (S x.InitDeclor) ts at stop
declor_stop_equals ts at here w r s stop h = stops_next (S x.InitDeclor) (Mark t.Equals) (S x.Init ∷ []) ts at here stop (keeps_mark (S x.InitDeclor) t.Equals (S x.Init ∷ [])) (equals_begun ts at here w r s) h refl

equals_read : (ts : List Lexeme) (at here next : ℕ) → EndsIn ts → at < length ts → ReadAt (E e.Declor) ts at here → IsAt ts here t.Equals → next ≡ here + 1 → GoesOn (S x.InitDeclor) (S x.Init ∷ []) ts at next
equals_read ts at here next ends w r s q = then_expect (S x.InitDeclor) t.Equals (S x.Init ∷ []) ts at here next ends (equals_begun ts at here w r s) s q refl

declor_init_keeps : Keeps (S x.InitDeclor) (S x.Init) []
declor_init_keeps = keeps_stmt x.InitDeclor x.Init [] refl refl

pub declor_stop_init : (ts : List Lexeme) (at here next : ℕ) → EndsIn ts → at < length ts → ReadAt (E e.Declor) ts at here → IsAt ts here t.Equals → next ≡ here + 1 → (stop : ExprStop) → RefusedAt (S x.Init) ts next stop → RefusedAt (S x.InitDeclor) ts at stop
declor_stop_init ts at here next ends w r s q stop h = stops_next (S x.InitDeclor) (S x.Init) [] ts at next stop declor_init_keeps (equals_read ts at here next ends w r s q) h refl

pub declor_with : (ts : List Lexeme) (at here next end : ℕ) (d : Declor) (i : Init) → EndsIn ts → at < length ts → ReadAt (E e.Declor) ts at here → DeclorTree (between ts at here) d → IsAt ts here t.Equals → next ≡ here + 1 → Has InitTree (S x.Init) ts next end i → Has InitDeclorTree (S x.InitDeclor) ts at end (record { name = d; init = Some i })
declor_with ts at here next end d i ends w rd tree m q h =
    let f = reads_some (E e.Declor) ts at here refl rd in let g = h.forth in
    record {
      forth = omega arith;
      read = done (S x.InitDeclor) ts at end (then_stmt (S x.InitDeclor) x.Init [] ts at next end declor_init_keeps (equals_read ts at here next ends w rd m q) h.read);
      tree = tokens_part (λ z. InitDeclorTree z (record { name = d; init = Some i })) ts at here end (omega arith) (omega arith) (tokens_mark (λ z. InitDeclorTree (between ts at here ++ z) (record { name = d; init = Some i })) ts here next end m.token m.stands q (omega arith) (s.initialised m.token (between ts at here) (between ts next end) d i tree m.is h.tree));
    }

-- ---- declared names

pub record DeclorsRead (u : List Lexeme) (ds : List InitDeclor) : Type 0 where
  pub ends : InitDeclorTrees u ds
  pub goes_on : (k : Lexeme) (v : List Lexeme) (es : List InitDeclor) → IsA t.Comma k → InitDeclorTrees v es → InitDeclorTrees (u ++ k ∷ v) (ds ++ es)

pub record DeclorsAt (ts : List Lexeme) (at here : ℕ) (ds : List InitDeclor) : Type 0 where
  pub forth : at < here
  pub begun : GoesOn (S x.InitDeclors) (S x.MoreDeclors ∷ []) ts at here
  pub tree : DeclorsRead (between ts at here) ds

declors_begun : (ts : List Lexeme) (at : ℕ) → at < length ts → GoesOn (S x.InitDeclors) (S x.InitDeclor ∷ S x.MoreDeclors ∷ []) ts at at
declors_begun ts at h = let w = token_at ts at h in stmt_starts x.InitDeclors 0 ts at w.terminal w.stands refl

one_keeps : Keeps (S x.InitDeclors) (S x.InitDeclor) (S x.MoreDeclors ∷ [])
one_keeps = keeps_stmt x.InitDeclors x.InitDeclor (S x.MoreDeclors ∷ []) refl refl

pub declors_stop_first : (ts : List Lexeme) (at : ℕ) → at < length ts → (stop : ExprStop) → RefusedAt (S x.InitDeclor) ts at stop → RefusedAt (S x.InitDeclors) ts at stop
declors_stop_first ts at w stop h = stops_next (S x.InitDeclors) (S x.InitDeclor) (S x.MoreDeclors ∷ []) ts at at stop one_keeps (declors_begun ts at w) h refl

pub declors_at_first : (ts : List Lexeme) (at here : ℕ) (d : InitDeclor) → at < length ts → Has InitDeclorTree (S x.InitDeclor) ts at here d → DeclorsAt ts at here (d ∷ [])
declors_at_first ts at here d w h = record {
  forth = h.forth;
  begun = then_stmt (S x.InitDeclors) x.InitDeclor (S x.MoreDeclors ∷ []) ts at at here one_keeps (declors_begun ts at w) h.read;
  tree = record { ends = s.last (between ts at here) d h.tree; goes_on = λ k v es g b. s.more k (between ts at here) v d es h.tree g b };
}

more_declors_keeps : Keeps (S x.InitDeclors) (S x.MoreDeclors) []
more_declors_keeps = keeps_stmt x.InitDeclors x.MoreDeclors [] refl refl

all_keeps : Keeps (S x.InitDeclors) (S x.InitDeclors) []
all_keeps = keeps_stmt x.InitDeclors x.InitDeclors [] refl refl

list_begun : (ts : List Lexeme) (at here : ℕ) (ds : List InitDeclor) → DeclorsAt ts at here ds → IsAt ts here t.Comma → GoesOn (S x.InitDeclors) (Mark t.Comma ∷ S x.InitDeclors ∷ []) ts at here
list_begun ts at here ds a s = goes (S x.InitDeclors) (S x.MoreDeclors) [] (Mark t.Comma ∷ S x.InitDeclors ∷ []) ts at here here more_declors_keeps a.begun (stmt_starts x.MoreDeclors 0 ts here t.Comma s refl)

list_read : (ts : List Lexeme) (at here next : ℕ) (ds : List InitDeclor) → EndsIn ts → DeclorsAt ts at here ds → IsAt ts here t.Comma → next ≡ here + 1 → GoesOn (S x.InitDeclors) (S x.InitDeclor ∷ S x.MoreDeclors ∷ []) ts at next
list_read ts at here next ds ends a s q =
    let i = then_expect (S x.InitDeclors) t.Comma (S x.InitDeclors ∷ []) ts at here next ends (list_begun ts at here ds a s) s q refl in
    goes (S x.InitDeclors) (S x.InitDeclors) [] (S x.InitDeclor ∷ S x.MoreDeclors ∷ []) ts at next next all_keeps i (declors_begun ts next i.within)

pub declors_stop_comma : (ts : List Lexeme) (at here : ℕ) (ds : List InitDeclor) → DeclorsAt ts at here ds → IsAt ts here t.Comma → (stop : ExprStop) → RefusedAt (Mark t.Comma) ts here stop → RefusedAt (S x.InitDeclors) ts at stop
declors_stop_comma ts at here ds a s stop h = stops_next (S x.InitDeclors) (Mark t.Comma) (S x.InitDeclors ∷ []) ts at here stop (keeps_mark (S x.InitDeclors) t.Comma (S x.InitDeclors ∷ [])) (list_begun ts at here ds a s) h refl

pub declors_stop_item : (ts : List Lexeme) (at here next : ℕ) (ds : List InitDeclor) → EndsIn ts → DeclorsAt ts at here ds → IsAt ts here t.Comma → next ≡ here + 1 → (stop : ExprStop) → RefusedAt (S x.InitDeclor) ts next stop → RefusedAt (S x.InitDeclors) ts at stop
declors_stop_item ts at here next ds ends a s q stop h = stops_next (S x.InitDeclors) (S x.InitDeclor) (S x.MoreDeclors ∷ []) ts at next stop one_keeps (list_read ts at here next ds ends a s q) h refl

declors_more : (u v : List Lexeme) (ds : List InitDeclor) (d : InitDeclor) (k : Lexeme) → DeclorsRead u ds → IsA t.Comma k → InitDeclorTree v d → DeclorsRead (u ++ k ∷ v) (ds ++ d ∷ [])
declors_more u v ds d k r h b = record {
  ends = r.goes_on k v (d ∷ []) h (s.last v d b);
  goes_on = λ j w es g c. subst (λ z. InitDeclorTrees ((u ++ k ∷ v) ++ j ∷ w) z) (sym (append_assoc ds (d ∷ []) es)) (subst (λ z. InitDeclorTrees z (ds ++ d ∷ es)) (sym (append_assoc u (k ∷ v) (j ∷ w))) (r.goes_on k (v ++ j ∷ w) (d ∷ es) h (s.more j v w d es b g c)));
}

pub declors_at_more : (ts : List Lexeme) (at here next behind : ℕ) (ds : List InitDeclor) (d : InitDeclor) → EndsIn ts → DeclorsAt ts at here ds → IsAt ts here t.Comma → next ≡ here + 1 → Has InitDeclorTree (S x.InitDeclor) ts next behind d → DeclorsAt ts at behind (ds ++ d ∷ [])
declors_at_more ts at here next behind ds d ends a s q h =
    let f = a.forth in let g = h.forth in
    record {
      forth = omega arith;
      begun = then_stmt (S x.InitDeclors) x.InitDeclor (S x.MoreDeclors ∷ []) ts at next behind one_keeps (list_read ts at here next ds ends a s q) h.read;
      tree = tokens_part (λ z. DeclorsRead z (ds ++ d ∷ [])) ts at here behind (omega arith) (omega arith) (tokens_mark (λ z. DeclorsRead (between ts at here ++ z) (ds ++ d ∷ [])) ts here next behind s.token s.stands q (omega arith) (declors_more (between ts at here) (between ts next behind) ds d s.token a.tree s.is h.tree));
    }

pub declors_done : (ts : List Lexeme) (at here : ℕ) (ds : List InitDeclor) → DeclorsAt ts at here ds → OtherAt ts here t.Comma → Has InitDeclorTrees (S x.InitDeclors) ts at here ds
declors_done ts at here ds a o = record {
  forth = a.forth;
  read = done (S x.InitDeclors) ts at here (goes (S x.InitDeclors) (S x.MoreDeclors) [] [] ts at here here more_declors_keeps a.begun (stmt_starts x.MoreDeclors 1 ts here o.other o.stands (by_not_comma x.MoreDeclors 1 o.other refl o.differs)));
  tree = a.tree.ends;
}
