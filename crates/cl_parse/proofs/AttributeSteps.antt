-- The steps of the reading of attributes.
use Rattle.std.proofs.Common.{◌≡◌, ◌≢◌, ℕ, ◌+◌, ◌≤◌, ◌<◌, List, [], ◌∷◌, ◌++◌, length, drop, Bool, true, false, refl, sym, ap, ◌∙◌, subst, append_assoc, arith}
use Rattle.std.specs.Prelude.{not, Result, Ok, Err, IfOk}
use Rattle.std.specs.Global.{Vec}
use Rattle.std.proofs.lemmas.List.{append-nil}
use Rattle.clv_place.specs.declared.place.Place.{Place}
use Rattle.cl_ast.specs.declared.expression.Expr.{Expr}
use Rattle.cl_ast.specs.declared.declaration.FWord.{FWord}
use Rattle.cl_ast.specs.declared.declaration.FWord.TheVariants as fword
use Rattle.cl_grammar.specs.declared.lexeme.Lexeme.{Lexeme}
use Rattle.cl_grammar.specs.declared.terminal.Terminal.{Terminal}
use Rattle.cl_grammar.specs.declared.terminal.Terminal.TheVariants as t
use Rattle.cl_grammar.specs.declared.stop.ExprStop.{ExprStop}
use Rattle.cl_grammar.specs.declared.stop.ExprStop.TheVariants.{Out}
use Rattle.cl_grammar.specs.Expressions.{IsA}
use Rattle.cl_grammar.specs.ExpressionTrees.{AssignTrees}
use Rattle.cl_grammar.specs.Statements.{IsHint, hints, is_vector_hint, is_required_size, is_size_name}
use Rattle.cl_grammar.specs.StatementTrees as tree
use Rattle.cl_grammar.specs.StatementTrees.{SizeOf, WordTree}
use Rattle.cl_grammar.specs.Symbols as e
use Rattle.cl_grammar.specs.Symbols.{Sym, Mark, E, D, have_some}
use Rattle.cl_grammar.specs.DeclarationSymbols as d
use Rattle.cl_grammar.specs.DeclarationSymbols.{DeclSym}
use Rattle.cl_grammar.specs.Items.{Item, Excluded, Begun, between, EndsIn, StandsAt, IsAt, OtherAt, PlaceAt, TextAt, GoesOn, ReadAt, NoneAt, RefusedAt}
use Rattle.cl_grammar.proofs.TerminalKinds.{kind, has, not_true}
use Rattle.cl_grammar.proofs.Predicted.{row_at, keeps_part, keeps_mark}
use Rattle.cl_grammar.proofs.Steps.{begun_of}
use Rattle.cl_grammar.proofs.Places.{between_same, between_one, between_join, more_tokens, more_behind_word, then_mark, none_next, by_kinds, by_other_kinds, done}
use Rattle.cl_grammar.proofs.StatementPlaces.{stops_next}
use Rattle.cl_grammar.proofs.DeclarationRules.{decl_rules}
use Rattle.cl_grammar.proofs.DeclarationPredicted.{decl_picks, keeps_decl, take_hint, take_vector, take_size, pick_vector, pick_size, no_size}
use Rattle.cl_parse.specs.Attributes as a
use Rattle.cl_parse.specs.declared.word.AttributeName.{AttributeName}
use Rattle.cl_parse.specs.declared.word.AttributeName.TheVariants as name
use Rattle.cl_parse.specs.Attributes.{NamedAt, VectorNameAt, SizeNameAt, NoNameAt, ArgumentsTree, SizeTree, InAttributeTree, ArgumentsAt, SizeAt, InAttributeAt, OtherWordAt, is_static}
use Rattle.cl_parse.proofs.Places.{decl_starts, then_decl, then_part, no_open}
use Rattle.cl_parse.proofs.Parameters.{same_token, not_there, between_first}

-- what an answer says by two facts of it
pub both_ok : {A X : Type 0} (r : Result A X) (P Q R : A → Type 0) → ((a : A) → P a → Q a → R a) → IfOk r P → IfOk r Q → IfOk r R
both_ok (Ok a) P Q R f h g = f a h g
both_ok (Err x) P Q R f h g = tt

-- ---- names

pub vector_named : (ts : List Lexeme) (at : ℕ) (n : AttributeName) → NamedAt ts at n → n ≡ name.VectorHint → VectorNameAt ts at
vector_named ts at n h e = let g = subst (NamedAt ts at) e h in g.is

pub required_named : (ts : List Lexeme) (at : ℕ) (n : AttributeName) → NamedAt ts at n → n ≡ name.Required → SizeNameAt ts at true
required_named ts at n h e = let g = subst (NamedAt ts at) e h in g.is

pub hint_named : (ts : List Lexeme) (at : ℕ) (n : AttributeName) → NamedAt ts at n → n ≡ name.SizeHint → SizeNameAt ts at false
hint_named ts at n h e = let g = subst (NamedAt ts at) e h in g.is

pub unknown_named : (ts : List Lexeme) (at : ℕ) (n : AttributeName) → NamedAt ts at n → n ≡ name.Unknown → NoNameAt ts at
unknown_named ts at n h e = let g = subst (NamedAt ts at) e h in g.is

-- the text that was read there
text_same : (ts : List Lexeme) (at : ℕ) (text word : List ℕ) (x : TextAt ts at text) → word ≡ text → word ≡ x.token.text
text_same ts at text word x e = e ∙ sym x.is

name_same : (ts : List Lexeme) (at : ℕ) (text : List ℕ) (x : TextAt ts at text) → IsAt ts at t.Name → IsA t.Name x.token
name_same ts at text x s = ap (λ l. l.terminal) (same_token ts at x.token s.token x.stands s.stands) ∙ s.is

pub is_vector : (ts : List Lexeme) (at : ℕ) (text word : List ℕ) → TextAt ts at text → word ≡ text → true ≡ is_vector_hint word → NamedAt ts at name.VectorHint
is_vector ts at text word x e h = record { is = record { token = x.token; stands = x.stands; is = sym (h ∙ ap is_vector_hint (text_same ts at text word x e)) } }

pub is_no_name : (ts : List Lexeme) (at : ℕ) (text word : List ℕ) → TextAt ts at text → word ≡ text → false ≡ is_vector_hint word → OtherAt ts at t.Name → NamedAt ts at name.Unknown
is_no_name ts at text word x e h o = record {
  is = record {
    token = x.token;
    stands = x.stands;
    other = sym (h ∙ ap is_vector_hint (text_same ts at text word x e));
    none = λ n g. not_there ts at x.token t.Name x.stands o n;
  };
}

pub is_no_size : (ts : List Lexeme) (at : ℕ) (text word : List ℕ) → TextAt ts at text → word ≡ text → false ≡ is_vector_hint word → false ≡ is_size_name word → NamedAt ts at name.Unknown
is_no_size ts at text word x e h f = record {
  is = record {
    token = x.token;
    stands = x.stands;
    other = sym (h ∙ ap is_vector_hint (text_same ts at text word x e));
    none = λ n g. let q : false ≡ true = f ∙ ap is_size_name (text_same ts at text word x e) ∙ g in cc;
  };
}

size_name : (ts : List Lexeme) (at : ℕ) (text word : List ℕ) (required : Bool) → TextAt ts at text → word ≡ text → false ≡ is_vector_hint word → IsAt ts at t.Name → true ≡ is_size_name word → required ≡ is_required_size word → SizeNameAt ts at required
size_name ts at text word required x e h s f g = record {
  token = x.token;
  stands = x.stands;
  other = sym (h ∙ ap is_vector_hint (text_same ts at text word x e));
  name = name_same ts at text x s;
  is = sym (f ∙ ap is_size_name (text_same ts at text word x e));
  means = sym (g ∙ ap is_required_size (text_same ts at text word x e));
}

pub is_required : (ts : List Lexeme) (at : ℕ) (text word : List ℕ) → TextAt ts at text → word ≡ text → false ≡ is_vector_hint word → IsAt ts at t.Name → true ≡ is_size_name word → true ≡ is_required_size word → NamedAt ts at name.Required
is_required ts at text word x e h s f g = record { is = size_name ts at text word true x e h s f g }

pub is_size_hint : (ts : List Lexeme) (at : ℕ) (text word : List ℕ) → TextAt ts at text → word ≡ text → false ≡ is_vector_hint word → IsAt ts at t.Name → true ≡ is_size_name word → false ≡ is_required_size word → NamedAt ts at name.SizeHint
is_size_hint ts at text word x e h s f g = record { is = size_name ts at text word false x e h s f g }

-- ---- one token more

-- The next token was read, by the index behind it.
pub mark_then : (x : Sym) (k : Terminal) (todo : List Sym) (ts : List Lexeme) (at i j : ℕ) → EndsIn ts → GoesOn x (Mark k ∷ todo) ts at i → IsAt ts i k → j ≡ i + 1 → has (0 ∷ []) (kind k) ≡ false → GoesOn x todo ts at j
mark_then x k todo ts at i j ends g s h f = subst (GoesOn x todo ts at) (sym h) (then_mark x k todo ts at i ends g s f)

pub mark_within : (k : Terminal) (ts : List Lexeme) (i j : ℕ) → EndsIn ts → IsAt ts i k → j ≡ i + 1 → has (0 ∷ []) (kind k) ≡ false → j < length ts
mark_within k ts i j ends s h f = subst (λ z. z < length ts) (sym h) (more_tokens ts i k ends s f)

pub read_within : (x : Sym) (ts : List Lexeme) (at next : ℕ) → ReadAt x ts at next → next < length ts
read_within x ts at next r = let g = r.read in g.within

-- It was refused.
pub mark_refused : (x : Sym) (k : Terminal) (todo : List Sym) (ts : List Lexeme) (at i : ℕ) (stop : ExprStop) → GoesOn x (Mark k ∷ todo) ts at i → RefusedAt (Mark k) ts i stop → have_some todo ≡ true → RefusedAt x ts at stop
mark_refused x k todo ts at i stop g f h = stops_next x (Mark k) todo ts at i stop (keeps_mark x k todo) g f h

-- the tokens from one index on, by the index behind the first
first_of : (ts : List Lexeme) (a i b : ℕ) (l : Lexeme) → StandsAt ts a l → i ≡ a + 1 → a < b → between ts a b ≡ l ∷ between ts i b
first_of ts a i b l s e h = between_first ts a b l s h ∙ ap (λ z. l ∷ between ts z b) (sym e)

only_of : (ts : List Lexeme) (a b : ℕ) (l : Lexeme) → StandsAt ts a l → b ≡ a + 1 → between ts a b ≡ l ∷ []
only_of ts a b l s e = ap (between ts a) e ∙ between_one ts a l s.here

-- a symbol of one token
one_read : (y : DeclSym) (ts : List Lexeme) (at : ℕ) (l : Lexeme) → StandsAt ts at l → at + 1 < length ts → Item (D y) [] (l ∷ []) (drop at ts) (drop (at + 1) ts) → GoesOn (D y) [] ts at (at + 1)
one_read y ts at l s h i = record { forth = omega arith; within = h; item = subst (λ z. Item (D y) [] z (drop at ts) (drop (at + 1) ts)) (sym (between_one ts at l s.here)) i }

-- a row that was picked by the token there
row_read : (y : DeclSym) (row : List Sym) (ts : List Lexeme) (at : ℕ) → at < length ts → Item (D y) row [] (drop at ts) (drop at ts) → GoesOn (D y) row ts at at
row_read y row ts at h i = record { forth = omega arith; within = h; item = subst (λ z. Item (D y) row z (drop at ts) (drop at ts)) (sym (between_same ts at)) i }

-- ---- the type of a hint

hint_kind : (m : Terminal) → hints m ≡ has (21 ∷ 22 ∷ 2 ∷ 62 ∷ []) (kind m)
hint_kind (t.TypeName true) = refl
hint_kind (t.TypeName false) = refl
hint_kind _ = refl

pub hint_word_at : (ts : List Lexeme) (at : ℕ) (k : Terminal) → EndsIn ts → IsAt ts at k → true ≡ hints k → ReadAt (D d.Hint) ts at (at + 1)
hint_word_at ts at k ends s h =
    let f : has (21 ∷ 22 ∷ 2 ∷ 62 ∷ []) (kind k) ≡ true = sym (h ∙ hint_kind k) in
    let w = more_tokens ts at k ends s (not_true (has (0 ∷ []) (kind k)) (by_kinds (21 ∷ 22 ∷ 2 ∷ 62 ∷ []) (λ n. not (has (0 ∷ []) n)) k refl f)) in
    let i = take_hint s.token (drop at ts) (drop (at + 1) ts) (let q = s.stands in q.here) (ap hints s.is ∙ sym h) in
    done (D d.Hint) ts at (at + 1) (then_decl (D d.Hint) d.HintWord [] [] ts at at (at + 1) (decl_starts d.Hint 0 ts at k s (by_kinds (21 ∷ 22 ∷ 2 ∷ 62 ∷ []) (decl_picks d.Hint 0) k refl f)) (one_read d.HintWord ts at s.token s.stands w i) refl)

hint_integer : (ts : List Lexeme) (at : ℕ) (k : Terminal) → IsAt ts at k → false ≡ hints k → GoesOn (D d.Hint) (E e.Integer ∷ []) ts at at
hint_integer ts at k s h = decl_starts d.Hint 1 ts at k s (by_other_kinds (21 ∷ 22 ∷ 2 ∷ 62 ∷ []) (decl_picks d.Hint 1) k refl (sym (h ∙ hint_kind k)))

pub hint_integer_at : (ts : List Lexeme) (at next : ℕ) (k : Terminal) → IsAt ts at k → false ≡ hints k → ReadAt (E e.Integer) ts at next → ReadAt (D d.Hint) ts at next
hint_integer_at ts at next k s h r = done (D d.Hint) ts at next (then_part (D d.Hint) e.Integer [] ts at at next (hint_integer ts at k s h) r refl)

pub hint_refused : (ts : List Lexeme) (at : ℕ) (k : Terminal) (stop : ExprStop) → IsAt ts at k → false ≡ hints k → RefusedAt (E e.Integer) ts at stop → RefusedAt (D d.Hint) ts at stop
hint_refused ts at k stop s h f = stops_next (D d.Hint) (E e.Integer) [] ts at at stop (keeps_part (D d.Hint) e.Integer [] refl) (hint_integer ts at k s h) f refl

is_hint : (ts : List Lexeme) (at next : ℕ) → ReadAt (D d.Hint) ts at next → IsHint (between ts at next)
is_hint ts at next r = let i = r.read in let j = i.item in subst IsHint (append-nil (between ts at next)) (j.builds [] refl)

-- ---- a hint of a vector

word_behind : (text : List ℕ) → is_vector_hint text ≡ true → text ≢ []
word_behind text h e = let f : false ≡ true = subst (λ z. is_vector_hint z ≡ true) e h in cc

pub behind_vector : (ts : List Lexeme) (at : ℕ) → EndsIn ts → VectorNameAt ts at → at + 1 < length ts
behind_vector ts at ends n = more_behind_word ts at n.token ends n.stands (word_behind (let l = n.token in l.text) n.is)

pub vector_name : (ts : List Lexeme) (at : ℕ) → EndsIn ts → VectorNameAt ts at → GoesOn (D d.InAttribute) (Mark t.OpenParen ∷ D d.Hint ∷ Mark t.CloseParen ∷ Mark t.CloseParen ∷ Mark t.CloseParen ∷ []) ts at (at + 1)
vector_name ts at ends n =
    let s = n.stands in
    let g = row_read d.InAttribute (row_at 0 (decl_rules d.InAttribute)) ts at s.within (pick_vector n.token (drop at ts) (drop (at + 1) ts) s.here n.is) in
    then_decl (D d.InAttribute) d.VectorHint (Mark t.OpenParen ∷ D d.Hint ∷ Mark t.CloseParen ∷ Mark t.CloseParen ∷ Mark t.CloseParen ∷ []) [] ts at at (at + 1) g
    (one_read d.VectorHint ts at n.token s (behind_vector ts at ends n) (take_vector n.token (drop at ts) (drop (at + 1) ts) s.here n.is)) refl

pub vector_open : (ts : List Lexeme) (at i : ℕ) → EndsIn ts → VectorNameAt ts at → IsAt ts (at + 1) t.OpenParen → i ≡ (at + 1) + 1 → GoesOn (D d.InAttribute) (D d.Hint ∷ Mark t.CloseParen ∷ Mark t.CloseParen ∷ Mark t.CloseParen ∷ []) ts at i
vector_open ts at i ends n o h = mark_then (D d.InAttribute) t.OpenParen (D d.Hint ∷ Mark t.CloseParen ∷ Mark t.CloseParen ∷ Mark t.CloseParen ∷ []) ts at (at + 1) i ends (vector_name ts at ends n) o h refl

pub vector_hinted : (ts : List Lexeme) (at i j : ℕ) → EndsIn ts → VectorNameAt ts at → IsAt ts (at + 1) t.OpenParen → i ≡ (at + 1) + 1 → ReadAt (D d.Hint) ts i j → GoesOn (D d.InAttribute) (Mark t.CloseParen ∷ Mark t.CloseParen ∷ Mark t.CloseParen ∷ []) ts at j
vector_hinted ts at i j ends n o h r = then_decl (D d.InAttribute) d.Hint (Mark t.CloseParen ∷ Mark t.CloseParen ∷ Mark t.CloseParen ∷ []) [] ts at i j (vector_open ts at i ends n o h) r.read refl

pub vector_hint_refused : (ts : List Lexeme) (at i : ℕ) (stop : ExprStop) → EndsIn ts → VectorNameAt ts at → IsAt ts (at + 1) t.OpenParen → i ≡ (at + 1) + 1 → RefusedAt (D d.Hint) ts i stop → RefusedAt (D d.InAttribute) ts at stop
vector_hint_refused ts at i stop ends n o h f = stops_next (D d.InAttribute) (D d.Hint) (Mark t.CloseParen ∷ Mark t.CloseParen ∷ Mark t.CloseParen ∷ []) ts at i stop (keeps_decl (D d.InAttribute) d.Hint (Mark t.CloseParen ∷ Mark t.CloseParen ∷ Mark t.CloseParen ∷ []) refl) (vector_open ts at i ends n o h) f refl

vector_split : (ts : List Lexeme) (at i j k l next : ℕ) (n o b c p : Lexeme) → StandsAt ts at n → StandsAt ts (at + 1) o → i ≡ (at + 1) + 1 → i ≤ j → StandsAt ts j b → k ≡ j + 1 → StandsAt ts k c → l ≡ k + 1 → StandsAt ts l p → next ≡ l + 1 → n ∷ o ∷ (between ts i j ++ b ∷ c ∷ p ∷ []) ≡ between ts at next
vector_split ts at i j k l next n o b c p sn so ei h sb ek sc el sp en =
    let last : between ts j next ≡ b ∷ c ∷ p ∷ [] = first_of ts j k next b sb ek (omega arith) ∙ ap (λ z. b ∷ z) (first_of ts k l next c sc el (omega arith) ∙ ap (λ z. c ∷ z) (only_of ts l next p sp en)) in
    sym (first_of ts at (at + 1) next n sn refl (omega arith) ∙ ap (λ z. n ∷ z) (first_of ts (at + 1) i next o so ei (omega arith)
    ∙ ap (λ z. o ∷ z) (sym (between_join ts i j next h (omega arith)) ∙ ap (λ z. between ts i j ++ z) last)))

pub vector_at : (ts : List Lexeme) (at i j k l next : ℕ) → EndsIn ts → VectorNameAt ts at → IsAt ts (at + 1) t.OpenParen → i ≡ (at + 1) + 1 → ReadAt (D d.Hint) ts i j → IsAt ts j t.CloseParen → k ≡ j + 1 → IsAt ts k t.CloseParen → l ≡ k + 1 → IsAt ts l t.CloseParen → next ≡ l + 1 → InAttributeAt ts at next fword.Hint
vector_at ts at i j k l next ends n o ei r b ek c el p en =
    let g = vector_hinted ts at i j ends n o ei r in
    let g1 = mark_then (D d.InAttribute) t.CloseParen (Mark t.CloseParen ∷ Mark t.CloseParen ∷ []) ts at j k ends g b ek refl in
    let g2 = mark_then (D d.InAttribute) t.CloseParen (Mark t.CloseParen ∷ []) ts at k l ends g1 c el refl in
    let g3 = mark_then (D d.InAttribute) t.CloseParen [] ts at l next ends g2 p en refl in
    let f = let q = r.read in q.forth in
    record {
      forth = omega arith;
      read = done (D d.InAttribute) ts at next g3;
      tree = subst (λ z. InAttributeTree z fword.Hint) (vector_split ts at i j k l next n.token o.token b.token c.token p.token n.stands o.stands ei f b.stands ek c.stands el p.stands en)
          (a.vector n.token o.token b.token c.token p.token (between ts i j) n.is o.is (is_hint ts i j r) b.is c.is p.is);
    }

-- ---- arguments

arguments_open : (ts : List Lexeme) (at : ℕ) → EndsIn ts → IsAt ts at t.OpenParen → GoesOn (D d.BehindSize) (E e.Assigns ∷ Mark t.CloseParen ∷ Mark t.CloseParen ∷ Mark t.CloseParen ∷ []) ts at (at + 1)
arguments_open ts at ends s = then_mark (D d.BehindSize) t.OpenParen (E e.Assigns ∷ Mark t.CloseParen ∷ Mark t.CloseParen ∷ Mark t.CloseParen ∷ []) ts at at ends (decl_starts d.BehindSize 0 ts at t.OpenParen s refl) s refl

arguments_read : (ts : List Lexeme) (at i : ℕ) → EndsIn ts → IsAt ts at t.OpenParen → ReadAt (E e.Assigns) ts (at + 1) i → GoesOn (D d.BehindSize) (Mark t.CloseParen ∷ Mark t.CloseParen ∷ Mark t.CloseParen ∷ []) ts at i
arguments_read ts at i ends s r = then_part (D d.BehindSize) e.Assigns (Mark t.CloseParen ∷ Mark t.CloseParen ∷ Mark t.CloseParen ∷ []) ts at (at + 1) i (arguments_open ts at ends s) r refl

pub arguments_at : (ts : List Lexeme) (at i next : ℕ) (es : List Expr) → EndsIn ts → IsAt ts at t.OpenParen → ReadAt (E e.Assigns) ts (at + 1) i → AssignTrees (between ts (at + 1) i) es → IsAt ts i t.CloseParen → next ≡ i + 1 → ArgumentsAt ts at next es
arguments_at ts at i next es ends s r as_given c en =
    let f = let q = r.read in q.forth in
    let split : s.token ∷ (between ts (at + 1) i ++ c.token ∷ []) ≡ between ts at next =
    ap (λ z. s.token ∷ (between ts (at + 1) i ++ z)) (sym (only_of ts i next c.token c.stands en)) ∙ ap (λ z. s.token ∷ z) (between_join ts (at + 1) i next f (omega arith)) ∙ sym (first_of ts at (at + 1) next s.token s.stands refl (omega arith)) in
    record {
      reads = mark_then (D d.BehindSize) t.CloseParen (Mark t.CloseParen ∷ Mark t.CloseParen ∷ []) ts at i next ends (arguments_read ts at i ends s r) c en refl;
      tree = subst (λ z. ArgumentsTree z es) split (a.given s.token c.token (between ts (at + 1) i) es s.is as_given c.is);
    }

pub no_arguments_at : (ts : List Lexeme) (at : ℕ) → OtherAt ts at t.OpenParen → ArgumentsAt ts at at []
no_arguments_at ts at o = record {
  reads = decl_starts d.BehindSize 1 ts at o.other o.stands (by_other_kinds (37 ∷ []) (decl_picks d.BehindSize 1) o.other refl (no_open o.other o.differs));
  tree = subst (λ z. ArgumentsTree z []) (sym (between_same ts at)) a.none;
}

pub arguments_refused : (ts : List Lexeme) (at : ℕ) (stop : ExprStop) → EndsIn ts → IsAt ts at t.OpenParen → RefusedAt (E e.Assigns) ts (at + 1) stop → RefusedAt (D d.BehindSize) ts at stop
arguments_refused ts at stop ends s f = stops_next (D d.BehindSize) (E e.Assigns) (Mark t.CloseParen ∷ Mark t.CloseParen ∷ Mark t.CloseParen ∷ []) ts at (at + 1) stop (keeps_part (D d.BehindSize) e.Assigns (Mark t.CloseParen ∷ Mark t.CloseParen ∷ Mark t.CloseParen ∷ []) refl) (arguments_open ts at ends s) f refl

pub arguments_unclosed : (ts : List Lexeme) (at i : ℕ) (stop : ExprStop) → EndsIn ts → IsAt ts at t.OpenParen → ReadAt (E e.Assigns) ts (at + 1) i → RefusedAt (Mark t.CloseParen) ts i stop → RefusedAt (D d.BehindSize) ts at stop
arguments_unclosed ts at i stop ends s r f = mark_refused (D d.BehindSize) t.CloseParen (Mark t.CloseParen ∷ Mark t.CloseParen ∷ []) ts at i stop (arguments_read ts at i ends s r) f refl

-- ---- the size of a group

size_second : (ts : List Lexeme) (at i j : ℕ) (es : List Expr) → EndsIn ts → ArgumentsAt ts at i es → IsAt ts i t.CloseParen → j ≡ i + 1 → GoesOn (D d.BehindSize) (Mark t.CloseParen ∷ []) ts at j
size_second ts at i j es ends r c ej = mark_then (D d.BehindSize) t.CloseParen (Mark t.CloseParen ∷ []) ts at i j ends r.reads c ej refl

pub size_at : (ts : List Lexeme) (at i j next : ℕ) (es : List Expr) → EndsIn ts → ArgumentsAt ts at i es → IsAt ts i t.CloseParen → j ≡ i + 1 → IsAt ts j t.CloseParen → next ≡ j + 1 → SizeAt ts at next es
size_at ts at i j next es ends r c ej p en =
    let f = let q = r.reads in q.forth in
    let split : between ts at i ++ c.token ∷ p.token ∷ [] ≡ between ts at next =
    ap (λ z. between ts at i ++ z) (sym (first_of ts i j next c.token c.stands ej (omega arith) ∙ ap (λ z. c.token ∷ z) (only_of ts j next p.token p.stands en))) ∙ between_join ts at i next f (omega arith) in
    record {
      read = done (D d.BehindSize) ts at next (mark_then (D d.BehindSize) t.CloseParen [] ts at j next ends (size_second ts at i j es ends r c ej) p en refl);
      tree = subst (λ z. SizeTree z es) split (a.behind c.token p.token (between ts at i) es r.tree c.is p.is);
    }

pub size_unclosed : (ts : List Lexeme) (at i : ℕ) (es : List Expr) (stop : ExprStop) → ArgumentsAt ts at i es → RefusedAt (Mark t.CloseParen) ts i stop → RefusedAt (D d.BehindSize) ts at stop
size_unclosed ts at i es stop r f = mark_refused (D d.BehindSize) t.CloseParen (Mark t.CloseParen ∷ []) ts at i stop r.reads f refl

pub size_half_closed : (ts : List Lexeme) (at i j : ℕ) (es : List Expr) (stop : ExprStop) → EndsIn ts → ArgumentsAt ts at i es → IsAt ts i t.CloseParen → j ≡ i + 1 → RefusedAt (Mark t.CloseParen) ts j stop → RefusedAt (D d.BehindSize) ts at stop
size_half_closed ts at i j es stop ends r c ej f = mark_refused (D d.BehindSize) t.CloseParen [] ts at j stop (size_second ts at i j es ends r c ej) f refl

-- ---- behind the name of a size

name_at : (ts : List Lexeme) (at : ℕ) (required : Bool) → SizeNameAt ts at required → IsAt ts at t.Name
name_at ts at required n = record { token = n.token; stands = n.stands; is = n.name }

pub behind_size : (ts : List Lexeme) (at : ℕ) (required : Bool) → EndsIn ts → SizeNameAt ts at required → at + 1 < length ts
behind_size ts at required ends n = more_tokens ts at t.Name ends (name_at ts at required n) refl

size_row : (ts : List Lexeme) (at : ℕ) (l : Lexeme) → StandsAt ts at l → is_vector_hint l.text ≡ false → GoesOn (D d.InAttribute) (D d.SizeName ∷ D d.BehindSize ∷ []) ts at at
size_row ts at l s h = row_read d.InAttribute (D d.SizeName ∷ D d.BehindSize ∷ []) ts at s.within (pick_size l (drop at ts) (drop (at + 1) ts) s.here h)

size_named : (ts : List Lexeme) (at : ℕ) (required : Bool) → EndsIn ts → SizeNameAt ts at required → GoesOn (D d.InAttribute) (D d.BehindSize ∷ []) ts at (at + 1)
size_named ts at required ends n =
    let s = n.stands in
    then_decl (D d.InAttribute) d.SizeName (D d.BehindSize ∷ []) [] ts at at (at + 1) (size_row ts at n.token s n.other)
    (one_read d.SizeName ts at n.token s (behind_size ts at required ends n) (take_size n.token (drop at ts) (drop (at + 1) ts) s.here n.name n.is)) refl

pub size_refused : (ts : List Lexeme) (at : ℕ) (required : Bool) (stop : ExprStop) → EndsIn ts → SizeNameAt ts at required → RefusedAt (D d.BehindSize) ts (at + 1) stop → RefusedAt (D d.InAttribute) ts at stop
size_refused ts at required stop ends n f = stops_next (D d.InAttribute) (D d.BehindSize) [] ts at (at + 1) stop (keeps_decl (D d.InAttribute) d.BehindSize [] refl) (size_named ts at required ends n) f refl

sized : (ts : List Lexeme) (at next : ℕ) (required : Bool) (f : FWord) (args : Vec Expr) → EndsIn ts → (n : SizeNameAt ts at required) → SizeOf n.token args f → SizeAt ts (at + 1) next args.items → InAttributeAt ts at next f
sized ts at next required f args ends n means r =
    let g = let q = r.read in q.read in
    let h = g.forth in
    record {
      forth = omega arith;
      read = done (D d.InAttribute) ts at next (then_decl (D d.InAttribute) d.BehindSize [] [] ts at (at + 1) next (size_named ts at required ends n) g refl);
      tree = subst (λ z. InAttributeTree z f) (sym (first_of ts at (at + 1) next n.token n.stands refl (omega arith))) (a.size n.token (between ts (at + 1) next) f args n.name means r.tree);
    }

pub required_at : (ts : List Lexeme) (at next : ℕ) (place : Place) (args : Vec Expr) → EndsIn ts → SizeNameAt ts at true → PlaceAt ts at place → SizeAt ts (at + 1) next args.items → InAttributeAt ts at next (fword.Required place args)
required_at ts at next place args ends n p r =
    let same = same_token ts at n.token p.token n.stands p.stands in
    sized ts at next true (fword.Required place args) args ends n (subst (λ z. SizeOf n.token args (fword.Required z args)) (ap (λ l. l.place) same ∙ p.is) (tree.required n.token args n.means)) r

pub size_hint_at : (ts : List Lexeme) (at next : ℕ) (args : Vec Expr) → EndsIn ts → SizeNameAt ts at false → SizeAt ts (at + 1) next args.items → InAttributeAt ts at next fword.Hint
size_hint_at ts at next args ends n r = sized ts at next false fword.Hint args ends n (tree.hint n.token args n.is n.means) r

-- ---- no attribute of that name

no_size_at : (ts : List Lexeme) (at : ℕ) → NoNameAt ts at → NoneAt (D d.SizeName) ts at at
no_size_at ts at n =
    let s = n.stands in
    record {
      forth = omega arith;
      within = s.within;
      excluded = subst (λ z. Excluded (D d.SizeName) z (drop at ts) (drop at ts)) (sym (between_same ts at)) (no_size n.token (drop at ts) (drop (at + 1) ts) s.here n.none);
    }

pub name_refused : (ts : List Lexeme) (at : ℕ) → NoNameAt ts at → RefusedAt (D d.InAttribute) ts at (Out at)
name_refused ts at n = record {
  refused = record {
    none = none_next (D d.InAttribute) (D d.SizeName) (D d.BehindSize ∷ []) ts at at at (keeps_decl (D d.InAttribute) d.SizeName (D d.BehindSize ∷ []) refl) (size_row ts at n.token n.stands n.other) (no_size_at ts at n);
    begun = subst (Begun (D d.InAttribute)) (sym (between_same ts at)) (begun_of (D d.InAttribute) refl);
  };
}

-- ---- an attribute

attribute_first : (ts : List Lexeme) (at : ℕ) → EndsIn ts → IsAt ts at t.Attribute → GoesOn (D d.Word) (Mark t.OpenParen ∷ Mark t.OpenParen ∷ D d.InAttribute ∷ []) ts at (at + 1)
attribute_first ts at ends s = then_mark (D d.Word) t.Attribute (Mark t.OpenParen ∷ Mark t.OpenParen ∷ D d.InAttribute ∷ []) ts at at ends (decl_starts d.Word 2 ts at t.Attribute s refl) s refl

attribute_second : (ts : List Lexeme) (at i : ℕ) → EndsIn ts → IsAt ts at t.Attribute → IsAt ts (at + 1) t.OpenParen → i ≡ (at + 1) + 1 → GoesOn (D d.Word) (Mark t.OpenParen ∷ D d.InAttribute ∷ []) ts at i
attribute_second ts at i ends s o ei = mark_then (D d.Word) t.OpenParen (Mark t.OpenParen ∷ D d.InAttribute ∷ []) ts at (at + 1) i ends (attribute_first ts at ends s) o ei refl

attribute_inside : (ts : List Lexeme) (at i j : ℕ) → EndsIn ts → IsAt ts at t.Attribute → IsAt ts (at + 1) t.OpenParen → i ≡ (at + 1) + 1 → IsAt ts i t.OpenParen → j ≡ i + 1 → GoesOn (D d.Word) (D d.InAttribute ∷ []) ts at j
attribute_inside ts at i j ends s o ei p ej = mark_then (D d.Word) t.OpenParen (D d.InAttribute ∷ []) ts at i j ends (attribute_second ts at i ends s o ei) p ej refl

pub attribute_refused : (ts : List Lexeme) (at : ℕ) (stop : ExprStop) → EndsIn ts → IsAt ts at t.Attribute → RefusedAt (Mark t.OpenParen) ts (at + 1) stop → RefusedAt (D d.Word) ts at stop
attribute_refused ts at stop ends s f = mark_refused (D d.Word) t.OpenParen (Mark t.OpenParen ∷ D d.InAttribute ∷ []) ts at (at + 1) stop (attribute_first ts at ends s) f refl

pub attribute_half_open : (ts : List Lexeme) (at i : ℕ) (stop : ExprStop) → EndsIn ts → IsAt ts at t.Attribute → IsAt ts (at + 1) t.OpenParen → i ≡ (at + 1) + 1 → RefusedAt (Mark t.OpenParen) ts i stop → RefusedAt (D d.Word) ts at stop
attribute_half_open ts at i stop ends s o ei f = mark_refused (D d.Word) t.OpenParen (D d.InAttribute ∷ []) ts at i stop (attribute_second ts at i ends s o ei) f refl

pub attribute_inside_refused : (ts : List Lexeme) (at i j : ℕ) (stop : ExprStop) → EndsIn ts → IsAt ts at t.Attribute → IsAt ts (at + 1) t.OpenParen → i ≡ (at + 1) + 1 → IsAt ts i t.OpenParen → j ≡ i + 1 → RefusedAt (D d.InAttribute) ts j stop → RefusedAt (D d.Word) ts at stop
attribute_inside_refused ts at i j stop ends s o ei p ej f = stops_next (D d.Word) (D d.InAttribute) [] ts at j stop (keeps_decl (D d.Word) d.InAttribute [] refl) (attribute_inside ts at i j ends s o ei p ej) f refl

size_tree : (w o p n i j : Lexeme) (u : List Lexeme) (f : FWord) (args : Vec Expr) (es : List Expr) → args.items ≡ es → IsA t.Attribute w → IsA t.OpenParen o → IsA t.OpenParen p → IsA t.Name n → SizeOf n args f → ArgumentsTree u es → IsA t.CloseParen i → IsA t.CloseParen j → WordTree (w ∷ o ∷ p ∷ n ∷ (u ++ i ∷ j ∷ [])) f
size_tree w o p n i j _ f args _ same x y z h m a.none k l = tree.size_alone w o p n i j f args x y z h m same k l
size_tree w o p n i j _ f args _ same x y z h m (a.given q c u es b r v) k l =
    subst (λ s. WordTree (w ∷ o ∷ p ∷ n ∷ q ∷ s) f) (sym (append_assoc u (c ∷ []) (i ∷ j ∷ []))) (tree.size w o p n q c i j u f args x y z h m b (subst (AssignTrees u) (sym same) r) v k l)

sized_tree : (w o p n : Lexeme) (u : List Lexeme) (f : FWord) (args : Vec Expr) (es : List Expr) → args.items ≡ es → IsA t.Attribute w → IsA t.OpenParen o → IsA t.OpenParen p → IsA t.Name n → SizeOf n args f → SizeTree u es → WordTree (w ∷ o ∷ p ∷ n ∷ u) f
sized_tree w o p n _ f args _ same x y z h m (a.behind i j u es b k l) = size_tree w o p n i j u f args es same x y z h m b k l

attribute_tree : (w o p : Lexeme) (u : List Lexeme) (f : FWord) → IsA t.Attribute w → IsA t.OpenParen o → IsA t.OpenParen p → InAttributeTree u f → WordTree (w ∷ o ∷ p ∷ u) f
attribute_tree w o p _ _ x y z (a.vector n q c i j u h b r k l m) = tree.vector_hint w o p n q c i j u x y z h b r k l m
attribute_tree w o p _ f x y z (a.size n u _ args h m b) = sized_tree w o p n u f args args.items refl x y z h m b

size_no_static : (n : Lexeme) (args : Vec Expr) (f : FWord) → SizeOf n args f → is_static f ≡ false
size_no_static _ _ _ (tree.required n args h) = refl
size_no_static _ _ _ (tree.hint n args h g) = refl

no_static : (u : List Lexeme) (f : FWord) → InAttributeTree u f → is_static f ≡ false
no_static _ _ (a.vector n q c i j u h b r k l m) = refl
no_static _ f (a.size n u _ args h m b) = size_no_static n args f m

pub attribute_at : (ts : List Lexeme) (at i j next : ℕ) (f : FWord) → EndsIn ts → IsAt ts at t.Attribute → IsAt ts (at + 1) t.OpenParen → i ≡ (at + 1) + 1 → IsAt ts i t.OpenParen → j ≡ i + 1 → InAttributeAt ts j next f → OtherWordAt ts at next f
attribute_at ts at i j next f ends s o ei p ej r =
    let h = r.forth in
    let g = let q = r.read in q.read in
    let split : s.token ∷ o.token ∷ p.token ∷ between ts j next ≡ between ts at next =
    sym (first_of ts at (at + 1) next s.token s.stands refl (omega arith) ∙ ap (λ z. s.token ∷ z) (first_of ts (at + 1) i next o.token o.stands ei (omega arith) ∙ ap (λ z. o.token ∷ z) (first_of ts i j next p.token p.stands ej (omega arith)))) in
    record {
      forth = omega arith;
      read = done (D d.Word) ts at next (then_decl (D d.Word) d.InAttribute [] [] ts at j next (attribute_inside ts at i j ends s o ei p ej) g refl);
      tree = subst (λ z. WordTree z f) split (attribute_tree s.token o.token p.token (between ts j next) f s.is o.is p.is r.tree);
      other = no_static (between ts j next) f r.tree;
    }
