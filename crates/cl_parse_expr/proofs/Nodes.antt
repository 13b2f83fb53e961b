-- Names, suffixes and leaves by the indices of their tokens.
use Rattle.std.proofs.Common.{◌≡◌, ℕ, suc, ◌+◌, ◌<◌, List, [], ◌∷◌, ◌++◌, length, drop, get_or, Bool, true, false, refl, sym, ap, ◌∙◌, subst, arith}
use Rattle.std.specs.Prelude.{Option, Some, None, not, MatchBool}
use Rattle.std.specs.Global.{Vec}
use Rattle.std.proofs.Math.Seq.{drop-cons}
use Rattle.clv_place.specs.declared.place.Place.{Place}
use Rattle.cl_types.specs.declared.operator.UnOp.{UnOp}
use Rattle.cl_ast.specs.declared.expression.Expr.{Expr}
use Rattle.cl_ast.specs.declared.expression.ExprNode.{ExprNode}
use Rattle.cl_ast.specs.declared.expression.ExprNode.TheVariants as node
use Rattle.cl_ast.specs.declared.expression.Base.TheViews.{roll-Expr, out-roll-Expr}
use Rattle.cl_grammar.specs.declared.lexeme.Lexeme.{Lexeme}
use Rattle.cl_grammar.specs.declared.terminal.Terminal.{Terminal}
use Rattle.cl_grammar.specs.declared.terminal.Terminal.TheVariants as t
use Rattle.cl_grammar.specs.declared.stop.ExprStop.{ExprStop}
use Rattle.cl_grammar.specs.declared.stop.ExprStop.TheVariants.{Out, NoMemory}
use Rattle.cl_grammar.specs.Terminals.{increment_behind, arrow_of}
use Rattle.cl_grammar.specs.Expressions.{IsA}
use Rattle.cl_grammar.specs.ExpressionTrees as tree
use Rattle.cl_grammar.specs.ExpressionTrees.{IsExpr, SuffixTrees, PrimaryTree}
use Rattle.cl_grammar.specs.Symbols as s
use Rattle.cl_grammar.specs.Symbols.{Sym, Mark, E, is_some, is_type_word, have_some}
use Rattle.cl_grammar.specs.Items.{between, EndsIn, StandsAt, IsAt, OtherAt, PlaceAt, TextAt, GoesOn, ReadAt, IsRefused, RefusedAt}
use Rattle.cl_grammar.proofs.TerminalKinds.{kind, has}
use Rattle.cl_grammar.proofs.Steps.{bar, begun_by}
use Rattle.cl_grammar.proofs.Predicted.{keeps_mark, picks, bars}
use Rattle.cl_grammar.proofs.Examples.{token}
use Rattle.cl_grammar.proofs.Places.{between_one, between_join, starts_with, expand, then, then_mark, then_of, done, stops_here, no_memory, by_class, by_other_kinds, more_tokens}
use Rattle.cl_parse_expr.proofs.Words.{same_token, same_terminal}
use Rattle.cl_parse_expr.specs.Reading as r
use Rattle.cl_parse_expr.specs.Reading.{is_suffix_mark, BeginsStruct, TagAt, MemberAt, NoMemberAt, SuffixAt, NoSuffixAt, SuffixFrom, CallAt, NoCallAt}

-- ---- tokens

-- the place and the bytes of the token there
pub place_of : (ts : List Lexeme) (at : ℕ) (l : Lexeme) (place : Place) → StandsAt ts at l → PlaceAt ts at place → place ≡ l.place
place_of ts at l place a p = sym p.is ∙ ap (λ z. z.place) (same_token ts at p.token l p.stands a)

pub text_of : (ts : List Lexeme) (at : ℕ) (l : Lexeme) (text : List ℕ) → StandsAt ts at l → TextAt ts at text → text ≡ l.text
text_of ts at l text a p = sym p.is ∙ ap (λ z. z.text) (same_token ts at p.token l p.stands a)

token_there : (ts : List Lexeme) (at : ℕ) → at < length ts → StandsAt ts at (get_or ts at (token t.End))
token_there ts at h =
    let n : suc at ≡ at + 1 = omega arith in
    record { within = h; here = drop-cons ts at (token t.End) h ∙ ap (λ z. get_or ts at (token t.End) ∷ drop z ts) n }

pub some_token : (ts : List Lexeme) (at : ℕ) → at < length ts → (k : Terminal) × IsAt ts at k
some_token ts at h = ((get_or ts at (token t.End)).terminal, record { token = get_or ts at (token t.End); stands = token_there ts at h; is = refl })

pub two_between : (ts : List Lexeme) (at : ℕ) (l m : Lexeme) → StandsAt ts at l → StandsAt ts (at + 1) m → between ts at (at + 2) ≡ l ∷ m ∷ []
two_between ts at l m a b =
    let e : at + 1 + 1 ≡ at + 2 = omega arith in
    sym (between_join ts at (at + 1) (at + 2) (omega arith) (omega arith)) ∙ ap (λ z. z ++ between ts (at + 1) (at + 2)) (between_one ts at l a.here) ∙ ap (λ z. l ∷ z) (ap (between ts (at + 1)) (sym e) ∙ between_one ts (at + 1) m b.here)

three_between : (ts : List Lexeme) (at : ℕ) (l m n : Lexeme) → StandsAt ts at l → StandsAt ts (at + 1) m → StandsAt ts (at + 2) n → between ts at (at + 3) ≡ l ∷ m ∷ n ∷ []
three_between ts at l m n a b c =
    let e : at + 2 + 1 ≡ at + 3 = omega arith in
    sym (between_join ts at (at + 2) (at + 3) (omega arith) (omega arith)) ∙ ap (λ z. z ++ between ts (at + 2) (at + 3)) (two_between ts at l m a b) ∙ ap (λ z. l ∷ m ∷ z) (ap (between ts (at + 2)) (sym e) ∙ between_one ts (at + 2) n c.here)

-- an expression that was built
pub built : (place : Place) (n : ExprNode) (args : Vec Expr) (xs : List Expr) → args.items ≡ xs → IsExpr (roll-Expr record { place = place; node = n; args = args }) place n xs
built place n args xs h =
    let e = out-roll-Expr record { place = place; node = n; args = args } in
    record { at = ap (λ z. z.place) e; is = ap (λ z. z.node) e; has = ap (λ z. z.args.items) e ∙ h }

pub is_expr_as : (e : Expr) (p q : Place) (n m : ExprNode) (xs ys : List Expr) → IsExpr e p n xs → p ≡ q → n ≡ m → xs ≡ ys → IsExpr e q m ys
is_expr_as e p q n m xs ys h a b c = record { at = h.at ∙ a; is = h.is ∙ b; has = h.has ∙ c }

-- ---- a mark that another token stands for

mark_out : (x : Sym) (k : Terminal) (todo : List Sym) (ts : List Lexeme) (a b : ℕ) (stop : ExprStop) → have_some todo ≡ true → GoesOn x (Mark k ∷ todo) ts a b → IsRefused (Mark k) ts b stop → IsRefused x ts a stop
mark_out x k todo ts a b (Out c) m i o = record {
  none = record {
    forth = let p = i.forth in let q = o.none.forth in omega arith;
    within = o.none.within;
    excluded = subst (λ z. Rattle.cl_grammar.specs.Items.Excluded x z (drop a ts) (drop c ts)) (between_join ts a b c i.forth o.none.forth) (bar x (Mark k) todo (between ts a b) (between ts b c) (drop a ts) (drop b ts) (drop c ts) (keeps_mark x k todo) i.item o.none.excluded);
  };
  begun = subst (λ z. Rattle.cl_grammar.specs.Items.Begun x z) (between_join ts a b c i.forth o.none.forth) (begun_by x (Mark k) todo (between ts a b) (between ts b c) (drop a ts) (drop b ts) i.item m o.begun);
}
mark_out x k todo ts a b NoMemory m i o = tt

pub mark_refused : (x : Sym) (k : Terminal) (todo : List Sym) (ts : List Lexeme) (a b : ℕ) (stop : ExprStop) → GoesOn x (Mark k ∷ todo) ts a b → RefusedAt (Mark k) ts b stop → have_some todo ≡ true → RefusedAt x ts a stop
mark_refused x k todo ts a b stop i h m = record { refused = mark_out x k todo ts a b stop m i h.refused }

-- ---- structs and members

pub struct_more : (ts : List Lexeme) (at : ℕ) → EndsIn ts → BeginsStruct ts at → at + 1 < length ts
struct_more ts at ends (r.bare a b) = b.stands.within
struct_more ts at ends (r.tagged a b c) = b.stands.within

pub at_struct : (ts : List Lexeme) (at : ℕ) → BeginsStruct ts at → IsAt ts at t.Struct
at_struct ts at (r.bare a b) = a
at_struct ts at (r.tagged a b c) = a

pub bare_tag : (ts : List Lexeme) (at : ℕ) (place : Place) → BeginsStruct ts at → IsAt ts (at + 1) t.OpenBrace → PlaceAt ts at place → TagAt ts at (record { name = None; place = place; brace = at + 1 })
bare_tag ts at place b o p = r.bare (at_struct ts at b) p refl refl o

pub named_tag : (ts : List Lexeme) (at : ℕ) (name : List ℕ) (place : Place) → BeginsStruct ts at → OtherAt ts (at + 1) t.OpenBrace → TextAt ts (at + 1) name → PlaceAt ts (at + 1) place → TagAt ts at (record { name = Some name; place = place; brace = at + 2 })
named_tag ts at name place (r.bare a b) o x p = absurd (o.differs (same_terminal ts (at + 1) o.other t.OpenBrace o.stands b))
named_tag ts at name place (r.tagged a b c) o x p = r.tagged name a b x p refl refl c

pub member_or_not : (ts : List Lexeme) (at room : ℕ) (word : Terminal) (b : Bool) → IsAt ts at word → 0 < room → b ≡ is_type_word word → MatchBool b (MemberAt ts at room) (NoMemberAt ts at room)
member_or_not ts at room word true i h e = record { word = word; stands = i; begins = sym e; free = h }
member_or_not ts at room word false i h e = r.other word i (sym e)

-- ---- declared names

pub name_awaited : (ts : List Lexeme) (at here : ℕ) → ReadAt (E s.MayStar) ts at here → at < length ts → GoesOn (E s.Declor) (Mark t.Name ∷ E s.Lengths ∷ []) ts at here
name_awaited ts at here q h = let k = some_token ts at h in then (E s.Declor) s.MayStar (Mark t.Name ∷ E s.Lengths ∷ []) ts at at here (starts_with s.Declor 0 ts at k.0 k.1 refl) q refl

pub head_read : (ts : List Lexeme) (at here : ℕ) → EndsIn ts → at < length ts → ReadAt (E s.MayStar) ts at here → IsAt ts here t.Name → GoesOn (E s.Declor) (E s.Lengths ∷ []) ts at (here + 1)
head_read ts at here ends h q n = then_mark (E s.Declor) t.Name (E s.Lengths ∷ []) ts at here ends (name_awaited ts at here q h) n refl

pub head_refused : (ts : List Lexeme) (at here : ℕ) (stop : ExprStop) → at < length ts → ReadAt (E s.MayStar) ts at here → RefusedAt (Mark t.Name) ts here stop → RefusedAt (E s.Declor) ts at stop
head_refused ts at here stop h q n = mark_refused (E s.Declor) t.Name (E s.Lengths ∷ []) ts at here stop (name_awaited ts at here q h) n refl

-- ---- suffixes

pub suffix_or_not : (ts : List Lexeme) (at : ℕ) (mark : Terminal) (b : Bool) → IsAt ts at mark → b ≡ is_suffix_mark mark → MatchBool b (SuffixAt ts at) (NoSuffixAt ts at)
suffix_or_not ts at mark true i e = record { mark = mark; stands = i; begins = sym e }
suffix_or_not ts at mark false i e = record { mark = mark; stands = i; other = sym e }

has_some : {A : Type 0} (o : Option A) (a : A) → o ≡ Some a → is_some o ≡ true
has_some o a e = ap is_some e

member_begun : (ts : List Lexeme) (at : ℕ) (mark : Terminal) (arrow : Bool) → EndsIn ts → IsAt ts at mark → arrow_of mark ≡ Some arrow → GoesOn (E s.Suffixes) (Mark t.Name ∷ E s.Suffixes ∷ []) ts at (at + 1)
member_begun ts at mark arrow ends i e =
    let b = has_some (arrow_of mark) arrow e in
    then_of (E s.Suffixes) s.OfMember (Mark t.Name ∷ E s.Suffixes ∷ []) ts at at mark ends (starts_with s.Suffixes 2 ts at mark i (by_class s.OfMember (picks s.Suffixes 2) mark refl b)) i b refl

pub member_more : (ts : List Lexeme) (at : ℕ) (mark : Terminal) (arrow : Bool) → EndsIn ts → IsAt ts at mark → arrow_of mark ≡ Some arrow → at + 1 < length ts
member_more ts at mark arrow ends i e = (member_begun ts at mark arrow ends i e).within

pub member_read : (ts : List Lexeme) (at next : ℕ) (mark : Terminal) (arrow : Bool) → EndsIn ts → IsAt ts at mark → arrow_of mark ≡ Some arrow → IsAt ts (at + 1) t.Name → next ≡ at + 1 + 1 → GoesOn (E s.Suffixes) (E s.Suffixes ∷ []) ts at next
member_read ts at next mark arrow ends i e n h = subst (GoesOn (E s.Suffixes) (E s.Suffixes ∷ []) ts at) (sym h) (then_mark (E s.Suffixes) t.Name (E s.Suffixes ∷ []) ts at (at + 1) ends (member_begun ts at mark arrow ends i e) n refl)

pub member_refused : (ts : List Lexeme) (at : ℕ) (mark : Terminal) (arrow : Bool) (stop : ExprStop) → EndsIn ts → IsAt ts at mark → arrow_of mark ≡ Some arrow → RefusedAt (Mark t.Name) ts (at + 1) stop → RefusedAt (E s.Suffixes) ts at stop
member_refused ts at mark arrow stop ends i e h = mark_refused (E s.Suffixes) t.Name (E s.Suffixes ∷ []) ts at (at + 1) stop (member_begun ts at mark arrow ends i e) h refl

member_trees : (ts : List Lexeme) (at : ℕ) (d n : Lexeme) (arrow : Bool) (operand whole e : Expr) (v u : List Lexeme) → u ≡ d ∷ n ∷ [] → arrow_of d.terminal ≡ Some arrow → IsA t.Name n → IsExpr whole d.place (node.Member n.text arrow) (operand ∷ []) → SuffixTrees whole v e → SuffixTrees operand (u ++ v) e
member_trees ts at d n arrow operand whole e v u h a b c k = subst (λ z. SuffixTrees operand (z ++ v) e) (sym h) (tree.member d n arrow v operand whole e a b c k)

pub member_tree : (ts : List Lexeme) (at next : ℕ) (mark : Terminal) (arrow : Bool) (place : Place) (name : List ℕ) (operand whole : Expr) → IsAt ts at mark → arrow_of mark ≡ Some arrow → IsAt ts (at + 1) t.Name → next ≡ at + 1 + 1 → PlaceAt ts at place → TextAt ts (at + 1) name → IsExpr whole place (node.Member name arrow) (operand ∷ []) → SuffixFrom ts at next operand whole
member_tree ts at next mark arrow place name operand whole i e n h p x b =
    let two : next ≡ at + 2 = h ∙ (let f : at + 1 + 1 ≡ at + 2 = omega arith in f) in
    let here = is_expr_as whole place i.token.place (node.Member name arrow) (node.Member n.token.text arrow) (operand ∷ []) (operand ∷ []) b (place_of ts at i.token place i.stands p) (ap (λ z. node.Member z arrow) (text_of ts (at + 1) n.token name n.stands x)) refl in
    record { tree = λ v e2 k. member_trees ts at i.token n.token arrow operand whole e2 v (between ts at next) (ap (between ts at) two ∙ two_between ts at i.token n.token i.stands n.stands) (ap arrow_of i.is ∙ e) n.is here k }

pub increment_read : (ts : List Lexeme) (at : ℕ) (mark : Terminal) (op : UnOp) → EndsIn ts → IsAt ts at mark → increment_behind mark ≡ Some op → GoesOn (E s.Suffixes) (E s.Suffixes ∷ []) ts at (at + 1)
increment_read ts at mark op ends i e =
    let b = has_some (increment_behind mark) op e in
    then_of (E s.Suffixes) s.BehindIncrement (E s.Suffixes ∷ []) ts at at mark ends (starts_with s.Suffixes 3 ts at mark i (by_class s.BehindIncrement (picks s.Suffixes 3) mark refl b)) i b refl

increment_trees : (o : Lexeme) (op : UnOp) (operand whole e : Expr) (v u : List Lexeme) → u ≡ o ∷ [] → increment_behind o.terminal ≡ Some op → IsExpr whole o.place (node.Unary op) (operand ∷ []) → SuffixTrees whole v e → SuffixTrees operand (u ++ v) e
increment_trees o op operand whole e v u h a c k = subst (λ z. SuffixTrees operand (z ++ v) e) (sym h) (tree.increments o op v operand whole e a c k)

pub increment_tree : (ts : List Lexeme) (at : ℕ) (mark : Terminal) (op : UnOp) (place : Place) (operand whole : Expr) → IsAt ts at mark → increment_behind mark ≡ Some op → PlaceAt ts at place → IsExpr whole place (node.Unary op) (operand ∷ []) → SuffixFrom ts at (at + 1) operand whole
increment_tree ts at mark op place operand whole i e p b =
    let here = is_expr_as whole place i.token.place (node.Unary op) (node.Unary op) (operand ∷ []) (operand ∷ []) b (place_of ts at i.token place i.stands p) refl refl in
    record { tree = λ v e2 k. increment_trees i.token op operand whole e2 v (between ts at (at + 1)) (between_one ts at i.token i.stands.here) (ap increment_behind i.is ∙ e) here k }

marked_so : (k : Terminal) → is_suffix_mark k ≡ true → (k ≡ t.OpenBracket → ⊥) → arrow_of k ≡ None → increment_behind k ≡ None → ⊥
marked_so t.OpenBracket h o a b = o refl
marked_so t.Dot h o a b = let e : Some false ≡ None = a in cc
marked_so t.Arrow h o a b = let e : Some true ≡ None = a in cc
marked_so t.Increment h o a b = let e : increment_behind t.Increment ≡ None = b in cc
marked_so t.Decrement h o a b = let e : increment_behind t.Decrement ≡ None = b in cc
marked_so _ h o a b = let e : false ≡ true = h in cc

pub no_other_suffix : (ts : List Lexeme) (at : ℕ) (mark : Terminal) → SuffixAt ts at → OtherAt ts at t.OpenBracket → IsAt ts at mark → arrow_of mark ≡ None → increment_behind mark ≡ None → ⊥
no_other_suffix ts at mark x o i a b =
    let e : x.mark ≡ mark = same_terminal ts at x.mark mark x.stands i in
    let f : o.other ≡ mark = same_terminal ts at o.other mark o.stands i in
    marked_so mark (ap is_suffix_mark (sym e) ∙ x.begins) (λ h. o.differs (f ∙ h)) a b

-- ---- names, numbers and calls without arguments

not_open : (k : Terminal) → (k ≡ t.OpenParen → ⊥) → has (37 ∷ []) (kind k) ≡ false
not_open t.OpenParen h = absurd (h refl)
not_open (t.TypeName true) h = refl
not_open (t.TypeName false) h = refl
not_open _ h = refl

call_awaited : (ts : List Lexeme) (at : ℕ) → EndsIn ts → IsAt ts at t.Name → GoesOn (E s.Primary) (E s.Call ∷ []) ts at (at + 1)
call_awaited ts at ends n = then_mark (E s.Primary) t.Name (E s.Call ∷ []) ts at at ends (starts_with s.Primary 0 ts at t.Name n refl) n refl

pub name_more : (ts : List Lexeme) (at : ℕ) → EndsIn ts → IsAt ts at t.Name → at + 1 < length ts
name_more ts at ends n = more_tokens ts at t.Name ends n refl

pub open_more : (ts : List Lexeme) (at : ℕ) → EndsIn ts → IsAt ts (at + 1) t.OpenParen → at + 2 < length ts
open_more ts at ends n = let h = more_tokens ts (at + 1) t.OpenParen ends n refl in omega (arith, h)

pub name_read : (ts : List Lexeme) (at : ℕ) → EndsIn ts → IsAt ts at t.Name → OtherAt ts (at + 1) t.OpenParen → ReadAt (E s.Primary) ts at (at + 1)
name_read ts at ends n o = done (E s.Primary) ts at (at + 1) (expand (E s.Primary) s.Call [] 0 ts at (at + 1) o.other (call_awaited ts at ends n) o.stands (by_other_kinds (37 ∷ []) (picks s.Call 0) o.other refl (not_open o.other o.differs)) refl)

call_opened : (ts : List Lexeme) (at : ℕ) → EndsIn ts → IsAt ts at t.Name → IsAt ts (at + 1) t.OpenParen → GoesOn (E s.Primary) (E s.Arguments ∷ []) ts at (at + 2)
call_opened ts at ends n o =
    let e : at + 1 + 1 ≡ at + 2 = omega arith in
    subst (GoesOn (E s.Primary) (E s.Arguments ∷ []) ts at) e (then_mark (E s.Primary) t.OpenParen (E s.Arguments ∷ []) ts at (at + 1) ends (expand (E s.Primary) s.Call [] 1 ts at (at + 1) t.OpenParen (call_awaited ts at ends n) o refl refl) o refl)

closing : (ts : List Lexeme) (at : ℕ) → NoCallAt ts at → IsAt ts at t.Name → IsAt ts (at + 1) t.OpenParen → IsAt ts (at + 2) t.CloseParen
closing ts at (r.no_name o) n p = absurd (o.differs (same_terminal ts at o.other t.Name o.stands n))
closing ts at (r.name_alone a o) n p = absurd (o.differs (same_terminal ts (at + 1) o.other t.OpenParen o.stands p))
closing ts at (r.no_argument a b c) n p = c

pub call_read : (ts : List Lexeme) (at : ℕ) → EndsIn ts → IsAt ts at t.Name → IsAt ts (at + 1) t.OpenParen → NoCallAt ts at → ReadAt (E s.Primary) ts at (at + 3)
call_read ts at ends n o h =
    let c = closing ts at h n o in
    let e : at + 2 + 1 ≡ at + 3 = omega arith in
    subst (ReadAt (E s.Primary) ts at) e (done (E s.Primary) ts at (at + 2 + 1) (then_mark (E s.Primary) t.CloseParen [] ts at (at + 2) ends (expand (E s.Primary) s.Arguments [] 0 ts at (at + 2) t.CloseParen (call_opened ts at ends n o) c refl refl) c refl))

pub name_tree : (ts : List Lexeme) (at : ℕ) (place : Place) (name : List ℕ) (e : Expr) → IsAt ts at t.Name → PlaceAt ts at place → TextAt ts at name → IsExpr e place (node.Name name) [] → PrimaryTree (between ts at (at + 1)) e
name_tree ts at place name e n p x b =
    subst (λ z. PrimaryTree z e) (sym (between_one ts at n.token n.stands.here)) (tree.name n.token e n.is (is_expr_as e place n.token.place (node.Name name) (node.Name n.token.text) [] [] b (place_of ts at n.token place n.stands p) (ap (λ z. node.Name z) (text_of ts at n.token name n.stands x)) refl))

pub call_tree : (ts : List Lexeme) (at : ℕ) (place : Place) (name : List ℕ) (e : Expr) → IsAt ts at t.Name → IsAt ts (at + 1) t.OpenParen → NoCallAt ts at → PlaceAt ts at place → TextAt ts at name → IsExpr e place (node.Call name) [] → PrimaryTree (between ts at (at + 3)) e
call_tree ts at place name e n o h p x b =
    let c = closing ts at h n o in
    subst (λ z. PrimaryTree z e) (sym (three_between ts at n.token o.token c.token n.stands o.stands c.stands)) (tree.call_of_none n.token o.token c.token e n.is o.is c.is (is_expr_as e place n.token.place (node.Call name) (node.Call n.token.text) [] [] b (place_of ts at n.token place n.stands p) (ap (λ z. node.Call z) (text_of ts at n.token name n.stands x)) refl))

number_kind : (value ty : ℕ) → picks s.Primary 1 (kind (t.Number value ty)) ≡ true
number_kind value ty = refl

pub number_read : (ts : List Lexeme) (at : ℕ) (k : Terminal) (value ty : ℕ) → EndsIn ts → IsAt ts at k → k ≡ t.Number value ty → ReadAt (E s.Primary) ts at (at + 1)
number_read ts at k value ty ends i e =
    let j : IsAt ts at (t.Number value ty) = subst (IsAt ts at) e i in
    done (E s.Primary) ts at (at + 1) (then_of (E s.Primary) s.Number [] ts at at (t.Number value ty) ends (starts_with s.Primary 1 ts at (t.Number value ty) j (number_kind value ty)) j refl refl)

pub number_tree : (ts : List Lexeme) (at : ℕ) (k : Terminal) (value ty : ℕ) (place : Place) (e : Expr) → IsAt ts at k → k ≡ t.Number value ty → PlaceAt ts at place → IsExpr e place (node.Number value ty) [] → PrimaryTree (between ts at (at + 1)) e
number_tree ts at k value ty place e n h p b =
    subst (λ z. PrimaryTree z e) (sym (between_one ts at n.token n.stands.here)) (tree.number n.token value ty e (n.is ∙ h) (is_expr_as e place n.token.place (node.Number value ty) (node.Number value ty) [] [] b (place_of ts at n.token place n.stands p) refl refl))

no_primary : (k : Terminal) → (k ≡ t.Name → ⊥) → ((value ty : ℕ) → k ≡ t.Number value ty → ⊥) → (k ≡ t.OpenParen → ⊥) → bars s.Primary (kind k) ≡ true
no_primary t.Name a b c = absurd (a refl)
no_primary (t.Number value ty) a b c = absurd (b value ty refl)
no_primary t.OpenParen a b c = absurd (c refl)
no_primary (t.TypeName true) a b c = refl
no_primary (t.TypeName false) a b c = refl
no_primary _ a b c = refl

pub primary_refused : (ts : List Lexeme) (at : ℕ) (k : Terminal) → IsAt ts at k → OtherAt ts at t.OpenParen → (k ≡ t.Name → ⊥) → ((value ty : ℕ) → k ≡ t.Number value ty → ⊥) → RefusedAt (E s.Primary) ts at (Out at)
primary_refused ts at k i o a b = stops_here s.Primary ts at k i (no_primary k a b (λ h. o.differs (same_terminal ts at o.other k o.stands i ∙ h))) refl

pub call_or_not : (ts : List Lexeme) (at : ℕ) (b : Bool) → IsAt ts at t.Name → IsAt ts (at + 1) t.OpenParen → MatchBool b (IsAt ts (at + 2) t.CloseParen) (OtherAt ts (at + 2) t.CloseParen) → MatchBool (not b) (CallAt ts at) (NoCallAt ts at)
call_or_not ts at true n o h = r.no_argument n o h
call_or_not ts at false n o h = record { name = n; opens = o; argument = h }

pub ruleset nodes = (built, struct_more, bare_tag, named_tag, member_or_not, head_read, head_refused, suffix_or_not, member_more, member_read, member_refused, member_tree, increment_read, increment_tree, name_more, open_more, name_read, call_read, name_tree, call_tree, number_read, number_tree, primary_refused, call_or_not, no_memory)
