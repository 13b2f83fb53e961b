-- What the next token begins, from the token.
use Rattle.std.proofs.Common.{◌≡◌, ℕ, Bool, true, false, List, sym}
use Rattle.std.specs.Prelude.{MatchBool}
use Rattle.cl_grammar.specs.declared.lexeme.Lexeme.{Lexeme}
use Rattle.cl_grammar.specs.declared.terminal.Terminal.{Terminal}
use Rattle.cl_grammar.specs.Symbols.{is_type_word}
use Rattle.cl_grammar.specs.Items.{IsAt}
use Rattle.cl_parse_stmt.specs.declared.look.Kind.{Kind}
use Rattle.cl_parse_stmt.specs.Looks.{kind_of, is_label, is_items_end, KindAt, TypeAt, NoTypeAt, LabelAt, NoLabelAt, ItemsEndAt, MoreItemsAt}

pub kind_there : (ts : List Lexeme) (at : ℕ) (k : Terminal) (r : Kind) → IsAt ts at k → r ≡ kind_of k → KindAt ts at r
kind_there ts at k r s h = record { terminal = k; stands = s; is = h }

pub type_there : (ts : List Lexeme) (at : ℕ) (k : Terminal) (r : Bool) → IsAt ts at k → r ≡ is_type_word k → MatchBool r (TypeAt ts at) (NoTypeAt ts at)
type_there ts at k true s h = record { terminal = k; stands = s; is = sym h }
type_there ts at k false s h = record { terminal = k; stands = s; is = sym h }

pub label_there : (ts : List Lexeme) (at : ℕ) (k : Terminal) (r : Bool) → IsAt ts at k → r ≡ is_label k → MatchBool r (LabelAt ts at) (NoLabelAt ts at)
label_there ts at k true s h = record { terminal = k; stands = s; is = sym h }
label_there ts at k false s h = record { terminal = k; stands = s; is = sym h }

pub end_there : (ts : List Lexeme) (at : ℕ) (k : Terminal) (r : Bool) → IsAt ts at k → r ≡ is_items_end k → MatchBool r (ItemsEndAt ts at) (MoreItemsAt ts at)
end_there ts at k true s h = record { terminal = k; stands = s; is = sym h }
end_there ts at k false s h = record { terminal = k; stands = s; is = sym h }
