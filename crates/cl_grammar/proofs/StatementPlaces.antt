-- The steps of a reading of statements by the indices of its tokens.
use Rattle.std.proofs.Common.{◌≡◌, ℕ, ◌+◌, List, [], ◌∷◌, drop, true, sym, subst, arith}
use Rattle.cl_grammar.specs.declared.lexeme.Lexeme.{Lexeme}
use Rattle.cl_grammar.specs.declared.terminal.Terminal.{Terminal}
use Rattle.cl_grammar.specs.declared.terminal.Terminal.TheVariants as t
use Rattle.cl_grammar.specs.declared.stop.ExprStop.{ExprStop}
use Rattle.cl_grammar.specs.declared.stop.ExprStop.TheVariants.{Out, NoMemory}
use Rattle.cl_grammar.specs.Symbols.{Sym, Mark, S, have_some}
use Rattle.cl_grammar.specs.StatementSymbols as x
use Rattle.cl_grammar.specs.StatementSymbols.{StmtSym}
use Rattle.cl_grammar.specs.Items.{Item, IsAt, GoesOn, ReadAt, IsRefused, RefusedAt}
use Rattle.cl_grammar.proofs.TerminalKinds.{kind}
use Rattle.cl_grammar.proofs.Steps.{Keeps}
use Rattle.cl_grammar.proofs.Predicted.{row_at, others_rejected}
use Rattle.cl_grammar.proofs.Places.{between_same, goes, out_next}
use Rattle.cl_grammar.proofs.StatementRules.{stmt_rules}
use Rattle.cl_grammar.proofs.StatementPredicted.{stmt_picks, stmt_predict, predict_else, predict_label, label_rows}

at_once : (y : StmtSym) (row : List Sym) (ts : List Lexeme) (at : ℕ) (k : Terminal) → IsAt ts at k → Item (S y) row [] (drop at ts) (drop at ts) → GoesOn (S y) row ts at at
at_once y row ts at k s i = record { forth = omega arith; within = s.stands.within; item = subst (λ z. Item (S y) row z (drop at ts) (drop at ts)) (sym (between_same ts at)) i }

-- A reading begins with the row that the token there picks.
pub stmt_starts : (y : StmtSym) (n : ℕ) (ts : List Lexeme) (at : ℕ) (k : Terminal) → IsAt ts at k → stmt_picks y n (kind k) ≡ true → GoesOn (S y) (row_at n (stmt_rules y)) ts at at
stmt_starts y n ts at k s h = at_once y (row_at n (stmt_rules y)) ts at k s (stmt_predict y n s.token (drop at ts) (drop (at + 1) ts) s.stands.here (subst (λ z. stmt_picks y n (kind z) ≡ true) (sym s.is) h))

pub else_starts : (ts : List Lexeme) (at : ℕ) → IsAt ts at t.Else → GoesOn (S x.MayElse) (Mark t.Else ∷ S x.Statement ∷ []) ts at at
else_starts ts at s = at_once x.MayElse _ ts at t.Else s (predict_else s.token (drop at ts) (drop (at + 1) ts) s.stands.here s.is)

pub label_starts : (ts : List Lexeme) (at : ℕ) (k : Terminal) → IsAt ts at k → others_rejected (S x.BehindLabel) 0 label_rows (kind k) ≡ true → GoesOn (S x.BehindLabel) (S x.Label ∷ S x.BehindLabel ∷ []) ts at at
label_starts ts at k s h = at_once x.BehindLabel _ ts at k s (predict_label s.token (drop at ts) (drop (at + 1) ts) s.stands.here (subst (λ z. others_rejected (S x.BehindLabel) 0 label_rows (kind z) ≡ true) (sym s.is) h))

-- The next symbol was read.
pub then_stmt : (y : Sym) (z : StmtSym) (todo : List Sym) (ts : List Lexeme) (a b c : ℕ) → Keeps y (S z) todo → GoesOn y (S z ∷ todo) ts a b → ReadAt (S z) ts b c → GoesOn y todo ts a c
then_stmt y z todo ts a b c k i r = goes y (S z) todo [] ts a b c k i r.read

-- The next symbol was refused.
refused_next : (y z : Sym) (todo : List Sym) (ts : List Lexeme) (a b : ℕ) (stop : ExprStop) → Keeps y z todo → have_some todo ≡ true → GoesOn y (z ∷ todo) ts a b → IsRefused z ts b stop → IsRefused y ts a stop
refused_next y z todo ts a b (Out k) keeps m i h = out_next y z todo ts a b k keeps m i h
refused_next y z todo ts a b NoMemory keeps m i h = tt

pub stops_next : (y z : Sym) (todo : List Sym) (ts : List Lexeme) (a b : ℕ) (stop : ExprStop) → Keeps y z todo → GoesOn y (z ∷ todo) ts a b → RefusedAt z ts b stop → have_some todo ≡ true → RefusedAt y ts a stop
stops_next y z todo ts a b stop keeps i h m = record { refused = refused_next y z todo ts a b stop keeps m i h.refused }
