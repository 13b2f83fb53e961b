-- An expression that may be missing, and the mark behind it.
use Rattle.std.proofs.Common.{◌≡◌, ℕ, ◌+◌, true, false, List, [], ◌∷◌, ◌++◌, refl, arith}
use Rattle.std.specs.Prelude.{Some, None}
use Rattle.cl_ast.specs.declared.expression.Expr.{Expr}
use Rattle.cl_grammar.specs.declared.lexeme.Lexeme.{Lexeme}
use Rattle.cl_grammar.specs.declared.terminal.Terminal.{Terminal}
use Rattle.cl_grammar.specs.declared.terminal.Terminal.TheVariants as t
use Rattle.cl_grammar.specs.declared.stop.ExprStop.{ExprStop}
use Rattle.cl_grammar.specs.Symbols as e
use Rattle.cl_grammar.specs.Symbols.{Mark, E, S, makes, have_some}
use Rattle.cl_grammar.specs.StatementSymbols as x
use Rattle.cl_grammar.specs.ExpressionTrees.{ExprTree}
use Rattle.cl_grammar.specs.Items.{between, EndsIn, IsAt, OtherAt, GoesOn, ReadAt, RefusedAt}
use Rattle.cl_grammar.proofs.TerminalKinds.{kind, has}
use Rattle.cl_grammar.proofs.Predicted.{keeps_mark, keeps_part, keeps_ok}
use Rattle.cl_grammar.proofs.Places.{then, done}
use Rattle.cl_grammar.proofs.StatementPredicted.{stmt_picks}
use Rattle.cl_grammar.proofs.StatementPlaces.{stmt_starts, stops_next}
use Rattle.cl_parse_stmt.specs.Looks.{is_clause_end}
use Rattle.cl_parse_stmt.specs.Readings as r
use Rattle.cl_parse_stmt.specs.Readings.{Has, ClauseTree}
use Rattle.cl_parse_stmt.proofs.Moves.{then_expect, reads_some, tokens_end, tokens_part, begins_there, place_at}

picks_end : (end : Terminal) → is_clause_end end ≡ true → stmt_picks (x.Clause end) 0 (kind end) ≡ true
picks_end t.Semicolon h = refl
picks_end t.CloseParen h = refl
picks_end _ h = absurd (let f : false ≡ true = h in cc)

not_semicolon : (k : Terminal) → (k ≡ t.Semicolon → ⊥) → stmt_picks (x.Clause t.Semicolon) 1 (kind k) ≡ true
not_semicolon t.Semicolon h = absurd (h refl)
not_semicolon (t.TypeName true) h = refl
not_semicolon (t.TypeName false) h = refl
not_semicolon _ h = refl

not_close : (k : Terminal) → (k ≡ t.CloseParen → ⊥) → stmt_picks (x.Clause t.CloseParen) 1 (kind k) ≡ true
not_close t.CloseParen h = absurd (h refl)
not_close (t.TypeName true) h = refl
not_close (t.TypeName false) h = refl
not_close _ h = refl

picks_other : (end k : Terminal) → is_clause_end end ≡ true → (k ≡ end → ⊥) → stmt_picks (x.Clause end) 1 (kind k) ≡ true
picks_other t.Semicolon k h f = not_semicolon k f
picks_other t.CloseParen k h f = not_close k f
picks_other _ k h f = absurd (let g : false ≡ true = h in cc)

no_end : (end : Terminal) → is_clause_end end ≡ true → has (0 ∷ []) (kind end) ≡ false
no_end t.Semicolon h = refl
no_end t.CloseParen h = refl
no_end _ h = absurd (let f : false ≡ true = h in cc)

behind_ok : (end : Terminal) → is_clause_end end ≡ true → keeps_ok (S (x.Clause end)) (E e.Assigns) (Mark end ∷ []) ≡ true
behind_ok t.Semicolon h = refl
behind_ok t.CloseParen h = refl
behind_ok _ h = absurd (let f : false ≡ true = h in cc)

pub makes_end : (end : Terminal) → is_clause_end end ≡ true → makes end ≡ true
makes_end t.Semicolon h = refl
makes_end t.CloseParen h = refl
makes_end _ h = absurd (let f : false ≡ true = h in cc)

end_there : (end : Terminal) → is_clause_end end ≡ true → have_some (Mark end ∷ []) ≡ true
end_there t.Semicolon h = refl
end_there t.CloseParen h = refl
end_there _ h = absurd (let f : false ≡ true = h in cc)

pub clause_stop_here : (ts : List Lexeme) (at : ℕ) (end : Terminal) → is_clause_end end ≡ true → IsAt ts at end → (stop : ExprStop) → RefusedAt (Mark end) ts at stop → RefusedAt (S (x.Clause end)) ts at stop
clause_stop_here ts at end h s stop g = stops_next (S (x.Clause end)) (Mark end) [] ts at at stop (keeps_mark (S (x.Clause end)) end []) (stmt_starts (x.Clause end) 0 ts at end s (picks_end end h)) g refl

pub clause_none : (ts : List Lexeme) (at : ℕ) (end : Terminal) → EndsIn ts → is_clause_end end ≡ true → (p1 : ℕ) → IsAt ts at end → p1 ≡ at + 1 → Has (ClauseTree end) (S (x.Clause end)) ts at p1 None
clause_none ts at end ends h p1 s q = record {
  forth = omega arith;
  read = done (S (x.Clause end)) ts at p1 (then_expect (S (x.Clause end)) end [] ts at at p1 ends (stmt_starts (x.Clause end) 0 ts at end s (picks_end end h)) s q (no_end end h));
  tree = tokens_end (λ z. ClauseTree end z None) ts at p1 s.token s.stands q (r.no_expression s.token s.is);
}

clause_begins : (ts : List Lexeme) (at : ℕ) (end : Terminal) → is_clause_end end ≡ true → OtherAt ts at end → GoesOn (S (x.Clause end)) (E e.Assigns ∷ Mark end ∷ []) ts at at
clause_begins ts at end h o = stmt_starts (x.Clause end) 1 ts at o.other o.stands (picks_other end o.other h o.differs)

pub clause_stop_0 : (ts : List Lexeme) (at : ℕ) (end : Terminal) → is_clause_end end ≡ true → OtherAt ts at end → (stop : ExprStop) → RefusedAt (E e.Assigns) ts at stop → RefusedAt (S (x.Clause end)) ts at stop
clause_stop_0 ts at end h o stop g = stops_next (S (x.Clause end)) (E e.Assigns) (Mark end ∷ []) ts at at stop (keeps_part (S (x.Clause end)) e.Assigns (Mark end ∷ []) (behind_ok end h)) (clause_begins ts at end h o) g (end_there end h)

clause_read : (ts : List Lexeme) (at : ℕ) (end : Terminal) (p1 : ℕ) → is_clause_end end ≡ true → OtherAt ts at end → ReadAt (E e.Assigns) ts at p1 → GoesOn (S (x.Clause end)) (Mark end ∷ []) ts at p1
clause_read ts at end p1 h o r = then (S (x.Clause end)) e.Assigns (Mark end ∷ []) ts at at p1 (clause_begins ts at end h o) r (behind_ok end h)

pub clause_stop_1 : (ts : List Lexeme) (at : ℕ) (end : Terminal) → is_clause_end end ≡ true → OtherAt ts at end → (p1 : ℕ) → ReadAt (E e.Assigns) ts at p1 → (stop : ExprStop) → RefusedAt (Mark end) ts p1 stop → RefusedAt (S (x.Clause end)) ts at stop
clause_stop_1 ts at end h o p1 r stop g = stops_next (S (x.Clause end)) (Mark end) [] ts at p1 stop (keeps_mark (S (x.Clause end)) end []) (clause_read ts at end p1 h o r) g refl

pub clause_some : (ts : List Lexeme) (at : ℕ) (end : Terminal) → EndsIn ts → is_clause_end end ≡ true → OtherAt ts at end → (p1 p2 : ℕ) (v : Expr) → ReadAt (E e.Assigns) ts at p1 → ExprTree (between ts at p1) v → IsAt ts p1 end → p2 ≡ p1 + 1 → Has (ClauseTree end) (S (x.Clause end)) ts at p2 (Some v)
clause_some ts at end ends h o p1 p2 v rd tr s q =
    let f = reads_some (E e.Assigns) ts at p1 refl rd in
    record {
      forth = omega arith;
      read = done (S (x.Clause end)) ts at p2 (then_expect (S (x.Clause end)) end [] ts at p1 p2 ends (clause_read ts at end p1 h o rd) s q (no_end end h));
      tree = let pl = place_at ts at o.other o.stands in
          tokens_part (λ z. ClauseTree end z (Some v)) ts at p1 p2 (omega arith) (omega arith) (tokens_end (λ z. ClauseTree end (between ts at p1 ++ z) (Some v)) ts p1 p2 s.token s.stands q (r.expression s.token (between ts at p1) o.stands.token.place v tr (begins_there ts at p1 o.stands.token.place pl f) s.is));
    }
