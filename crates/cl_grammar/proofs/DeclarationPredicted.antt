-- Which parts a declaration goes on with, by the token that stands there or by two, and what may stand behind each.
use Rattle.std.proofs.Common.{◌≡◌, ℕ, Bool, true, false, List, [], ◌∷◌, ◌++◌, refl, sym, ap, ◌∙◌, subst, append_assoc, inl, inr}
use Rattle.std.specs.Prelude.{codes}
use Rattle.std.proofs.lemmas.Slice.Eq.{bytes_eq-Decides}
use Rattle.cl_grammar.specs.declared.lexeme.Lexeme.{Lexeme}
use Rattle.cl_grammar.specs.declared.terminal.Terminal.{Terminal}
use Rattle.cl_grammar.specs.declared.terminal.Terminal.TheVariants as t
use Rattle.cl_grammar.specs.Expressions as g
use Rattle.cl_grammar.specs.Terminals.{whole_type}
use Rattle.cl_grammar.specs.Expressions.{IsA, IsDeclor, MayBeStar, AreLengths}
use Rattle.cl_grammar.specs.Statements as st
use Rattle.cl_grammar.specs.Statements.{IsInitDeclor, AreInitDeclors, hints, is_vector_hint, is_size_name}
use Rattle.cl_grammar.specs.StatementSymbols as x
use Rattle.cl_grammar.specs.Symbols.{Sym, Mark, S, D, Is, Are}
use Rattle.cl_grammar.specs.DeclarationSymbols as d
use Rattle.cl_grammar.specs.DeclarationSymbols.{DeclSym, is_decl, IsParams, IsFunction, IsBehindType, IsInAttribute}
use Rattle.cl_grammar.specs.Items.{Fits, Item, Excluded}
use Rattle.cl_grammar.proofs.TerminalKinds.{kind}
use Rattle.cl_grammar.proofs.Steps.{Keeps, are_part, are_join}
use Rattle.cl_grammar.proofs.Rules.{Fills}
use Rattle.cl_grammar.proofs.Predicted.{keeps_ok, kept_stops, others_rejected, all_rejected, row_at, predict_row, exclude_rows}
use Rattle.cl_grammar.proofs.StatementRules.{mark_are, part_are, end_are}
use Rattle.cl_grammar.proofs.StatementPredicted.{keeps_in}
use Rattle.cl_grammar.proofs.DeclarationRules.{decl_rules, decl_rows_of, decl_part_of}
use Rattle.cl_grammar.proofs.Examples.{token, closed, no_params}

-- a symbol goes on with its row of this number
abbrev pub decl_picks : DeclSym → ℕ → ℕ → Bool
decl_picks y n k = others_rejected (D y) n (decl_rules y) k

pub decl_predict : (y : DeclSym) (n : ℕ) (l : Lexeme) (s v : List Lexeme) → s ≡ l ∷ v → decl_picks y n (kind l.terminal) ≡ true → Item (D y) (row_at n (decl_rules y)) [] s s
decl_predict y n l s v e h = predict_row (D y) (decl_rules y) n l s v (decl_rows_of y) (decl_part_of y) e h

abbrev pub decl_bars : DeclSym → ℕ → Bool
decl_bars y k = all_rejected (D y) (decl_rules y) k

pub decl_exclude : (y : DeclSym) (l : Lexeme) (s v : List Lexeme) → s ≡ l ∷ v → decl_bars y (kind l.terminal) ≡ true → Excluded (D y) [] s s
decl_exclude y l s v e h = exclude_rows (D y) (decl_rules y) l s v (decl_rows_of y) e h

pub keeps_decl : (x : Sym) (y : DeclSym) (todo : List Sym) → keeps_ok x (D y) todo ≡ true → Keeps x (D y) todo
keeps_decl x y todo h = record { keeps = λ others fits. kept_stops x (D y) todo others h fits }

-- ---- a symbol of one token

pub take_one : (x : Sym) (l : Lexeme) (s v : List Lexeme) → s ≡ l ∷ v → Is x (l ∷ []) → ((u : List Lexeme) → Is x u → (m : Lexeme) × (u ≡ m ∷ [])) → Item x [] (l ∷ []) s v
take_one x l s v e h one = record {
  split = e;
  builds = λ u are. subst (λ z. Is x (l ∷ z)) (sym are) h;
  only = λ others fits k v2 w first are.
      let m = one are.0 are.2 in
      let is : l ∷ (k ∷ w) ≡ m.0 ∷ are.1 = are.4 ∙ ap (λ z. z ++ are.1) m.1 in
      let rest : are.1 ≡ k ∷ w = cc in
      subst (Are others) rest are.3;
}

hint_one : (u : List Lexeme) → d.IsHintWord u → (m : Lexeme) × (u ≡ m ∷ [])
hint_one _ (d.hint_word w h) = (w, refl)

vector_one : (u : List Lexeme) → d.IsVectorHint u → (m : Lexeme) × (u ≡ m ∷ [])
vector_one _ (d.vector_hint n a) = (n, refl)

size_one : (u : List Lexeme) → d.IsSizeName u → (m : Lexeme) × (u ≡ m ∷ [])
size_one _ (d.size_name n a b) = (n, refl)

pub take_hint : (l : Lexeme) (s v : List Lexeme) → s ≡ l ∷ v → hints l.terminal ≡ true → Item (D d.HintWord) [] (l ∷ []) s v
take_hint l s v e h = take_one (D d.HintWord) l s v e (d.hint_word l h) hint_one

pub take_vector : (l : Lexeme) (s v : List Lexeme) → s ≡ l ∷ v → is_vector_hint l.text ≡ true → Item (D d.VectorHint) [] (l ∷ []) s v
take_vector l s v e h = take_one (D d.VectorHint) l s v e (d.vector_hint l h) vector_one

pub take_size : (l : Lexeme) (s v : List Lexeme) → s ≡ l ∷ v → IsA t.Name l → is_size_name l.text ≡ true → Item (D d.SizeName) [] (l ∷ []) s v
take_size l s v e h g = take_one (D d.SizeName) l s v e (d.size_name l h g) size_one

-- ---- two tokens

-- what was read, and then k, begins with the first two tokens of what was there, if anything was read
pub second_of : (r s s1 : List Lexeme) (l m : Lexeme) (v0 : List Lexeme) (k : Lexeme) (v w : List Lexeme) → s ≡ r ++ s1 → s ≡ l ∷ m ∷ v0 → s1 ≡ k ∷ v → (r ≡ [] → ⊥) → (rest : List Lexeme) × (r ++ k ∷ w ≡ l ∷ m ∷ rest)
second_of [] s s1 l m v0 k v w a b c some = absurd (some refl)
second_of (p ∷ []) s s1 l m v0 k v w a b c some = let h : l ∷ m ∷ v0 ≡ p ∷ k ∷ v = sym b ∙ a ∙ ap (λ z. p ∷ z) c in (w, (let i : l ≡ p = cc in let j : m ≡ k = cc in cc))
second_of (p ∷ q ∷ r) s s1 l m v0 k v w a b c some = let h : l ∷ m ∷ v0 ≡ p ∷ q ∷ (r ++ s1) = sym b ∙ a in (r ++ k ∷ w, (let i : l ≡ p = cc in let j : m ≡ q = cc in cc))

-- One part of a symbol is the only one where these two tokens come first.
pub record Chosen (x y : Sym) (todo : List Sym) (l m : Lexeme) : Type 0 where
  pub chosen : (others : List Sym) → Fits x others → (w : List Lexeme) → Are (x ∷ others) (l ∷ m ∷ w) → Are (y ∷ (todo ++ others)) (l ∷ m ∷ w)

pub choose : (x y : Sym) (todo rhs : List Sym) (r s s1 : List Lexeme) (l m : Lexeme) (v0 : List Lexeme) → Chosen x y todo l m → ((u : List Lexeme) → Are (y ∷ todo) u → Is x u) → Keeps x y todo → s ≡ l ∷ m ∷ v0 → (r ≡ [] → ⊥) → Item y rhs r s s1 → Item x (rhs ++ todo) r s s1
choose x y todo rhs r s s1 l m v0 c into keeps e some i = record {
  split = i.split;
  builds = λ u are.
      let p = are_part rhs todo u are in
      into (r ++ u) (r ++ p.0, p.1, i.builds p.0 p.2, p.3, ap (λ z. r ++ z) p.4 ∙ sym (append_assoc r p.0 p.1));
  only = λ others fits k v w first are.
      let f = second_of r s s1 l m v0 k v w i.split e first some in
      let a = c.chosen others fits f.0 (subst (Are (x ∷ others)) f.1 are) in
      subst (λ z. Are z (k ∷ w)) (sym (append_assoc rhs todo others))
      (i.only (todo ++ others) (keeps.keeps others fits) k v w first (subst (Are (y ∷ (todo ++ others))) (sym f.1) a));
}

pub bar_chosen : (x y : Sym) (todo : List Sym) (r s s1 : List Lexeme) (l m : Lexeme) (v0 : List Lexeme) → Chosen x y todo l m → Keeps x y todo → s ≡ l ∷ m ∷ v0 → (r ≡ [] → ⊥) → Excluded y r s s1 → Excluded x r s s1
bar_chosen x y todo r s s1 l m v0 c keeps e some i = record {
  split = i.split;
  no_more = λ others fits k v w first are.
      let f = second_of r s s1 l m v0 k v w i.split e first some in
      let a = c.chosen others fits f.0 (subst (Are (x ∷ others)) f.1 are) in
      i.no_more (todo ++ others) (keeps.keeps others fits) k v w first (subst (Are (y ∷ (todo ++ others))) (sym f.1) a);
}

-- ---- parameters, or `void` alone

params_chosen : (l m : Lexeme) (others : List Sym) (w u v : List Lexeme) → (IsA t.CloseParen l → ⊥) → (IsA t.Void l → IsA t.CloseParen m → ⊥) → IsParams u → Are others v → l ∷ m ∷ w ≡ u ++ v → Are (D (d.NextParam true) ∷ others) (l ∷ m ∷ w)
params_chosen l m others w _ v no_close no_void (d.no_param c u a b) rest e = absurd (no_close (let h : l ∷ m ∷ w ≡ c ∷ (u ++ v) = e in let same : c ≡ l = cc in ap (λ z. z.terminal) (sym same) ∙ a))
params_chosen l m others w _ v no_close no_void (d.only_void k c u a b f) rest e =
    let h : l ∷ m ∷ w ≡ k ∷ c ∷ (u ++ v) = e in
    let one : l ≡ k = cc in
    let two : m ≡ c = cc in
    absurd (no_void (ap (λ z. z.terminal) one ∙ a) (ap (λ z. z.terminal) two ∙ b))
params_chosen l m others w u v no_close no_void (d.some_params _ a) rest e = (u, v, a, rest, e)

pub choose_params : (l m : Lexeme) → (IsA t.CloseParen l → ⊥) → (IsA t.Void l → IsA t.CloseParen m → ⊥) → Chosen (D d.Params) (D (d.NextParam true)) [] l m
choose_params l m no_close no_void = record { chosen = λ others fits w are. params_chosen l m others w are.0 are.1 no_close no_void are.2 are.3 are.4 }

-- ---- names, or a function

-- tokens that don't begin with `(`
pub record NotOpen (v : List Lexeme) : Type 0 where
  pub closed : (m : Lexeme) (w : List Lexeme) → v ≡ m ∷ w → IsA t.OpenParen m → ⊥

other_first : (k : Terminal) (c : Lexeme) (v : List Lexeme) → IsA k c → (k ≡ t.OpenParen → ⊥) → NotOpen (c ∷ v)
other_first k c v a other = record { closed = λ m w e h. other (let same : c ≡ m = cc in sym a ∙ ap (λ z. z.terminal) same ∙ h) }

lengths_closed : (u v : List Lexeme) → AreLengths u → NotOpen v → NotOpen (u ++ v)
lengths_closed _ v g.no_length n = n
lengths_closed _ v (g.missing_length o c u a b f) n = other_first t.OpenBracket o _ a (λ e. cc)
lengths_closed _ v (g.length_given o c u w a b f h) n = other_first t.OpenBracket o _ a (λ e. cc)

name_closed : (n l m : Lexeme) (u v w : List Lexeme) → MayBeStar u → NotOpen v → u ++ n ∷ v ≡ l ∷ m ∷ w → IsA t.Name l → IsA t.OpenParen m → ⊥
name_closed n l m _ v w g.none c e a b = c.closed m w (let h : n ∷ v ≡ l ∷ m ∷ w = e in cc) b
name_closed n l m _ v w (g.some _ (g.star k u f h)) c e a b = let i : k ∷ (u ++ n ∷ v) ≡ l ∷ m ∷ w = e in let same : k ≡ l = cc in let j : t.Name ≡ t.Star = sym a ∙ ap (λ z. z.terminal) (sym same) ∙ f in cc

declor_closed : (u v : List Lexeme) (l m : Lexeme) (w : List Lexeme) → IsDeclor u → NotOpen v → u ++ v ≡ l ∷ m ∷ w → IsA t.Name l → IsA t.OpenParen m → ⊥
declor_closed _ v l m w (g.declor n u k a b f) c e h i = name_closed n l m u (k ++ v) w a (lengths_closed k v f c) (sym (append_assoc u (n ∷ k) v) ∙ e) h i

init_declor_closed : (u v : List Lexeme) (l m : Lexeme) (w : List Lexeme) → IsInitDeclor u → NotOpen v → u ++ v ≡ l ∷ m ∷ w → IsA t.Name l → IsA t.OpenParen m → ⊥
init_declor_closed u v l m w (st.bare _ a) c e h i = declor_closed u v l m w a c e h i
init_declor_closed _ v l m w (st.initialised q u k a b f) c e h i = declor_closed u (q ∷ (k ++ v)) l m w a (other_first t.Equals q _ b (λ p. cc)) (sym (append_assoc u (q ∷ k) v) ∙ e) h i

names_closed : (u v : List Lexeme) (l m : Lexeme) (w : List Lexeme) → AreInitDeclors u → NotOpen v → u ++ v ≡ l ∷ m ∷ w → IsA t.Name l → IsA t.OpenParen m → ⊥
names_closed u v l m w (st.last _ a) c e h i = init_declor_closed u v l m w a c e h i
names_closed _ v l m w (st.more q u k a b f) c e h i = init_declor_closed u (q ∷ (k ++ v)) l m w a (other_first t.Comma q _ b (λ p. cc)) (sym (append_assoc u (q ∷ k) v) ∙ e) h i

semicolon_last : (k l m : Lexeme) (u v w : List Lexeme) → AreInitDeclors u → IsA t.Semicolon k → l ∷ m ∷ w ≡ (u ++ k ∷ []) ++ v → IsA t.Name l → IsA t.OpenParen m → ⊥
semicolon_last k l m u v w a b e h i = names_closed u (k ∷ v) l m w a (other_first t.Semicolon k v b (λ p. cc)) (sym (append_assoc u (k ∷ []) v) ∙ sym e) h i

function_chosen : (lone variables : Bool) (l m : Lexeme) (others : List Sym) (w u v : List Lexeme) → IsA t.Name l → IsA t.OpenParen m → IsBehindType lone variables u → Are others v → l ∷ m ∷ w ≡ u ++ v → Are (D d.Function ∷ others) (l ∷ m ∷ w)
function_chosen _ _ l m others w _ v a b (d.type_alone k h) rest e = let i : l ∷ m ∷ w ≡ k ∷ v = e in let same : l ≡ k = cc in absurd (let j : t.Name ≡ t.Semicolon = sym a ∙ ap (λ z. z.terminal) same ∙ h in cc)
function_chosen _ _ l m others w _ v a b (d.names lone k u c h) rest e = absurd (semicolon_last k l m u v w c h e a b)
function_chosen _ _ l m others w u v a b (d.of_function lone variables _ f) rest e = (u, v, f, rest, e)

pub choose_function : (lone variables : Bool) (l m : Lexeme) → IsA t.Name l → IsA t.OpenParen m → Chosen (D (d.BehindType lone variables)) (D d.Function) [] l m
choose_function lone variables l m a b = record { chosen = λ others fits w are. function_chosen lone variables l m others w are.0 are.1 a b are.2 are.3 are.4 }

names_chosen : (lone variables : Bool) (l m : Lexeme) (others : List Sym) (w u v : List Lexeme) → (lone ≡ true → IsA t.Semicolon l → ⊥) → (IsA t.Name l → IsA t.OpenParen m → ⊥) → IsBehindType lone variables u → Are others v → l ∷ m ∷ w ≡ u ++ v → Are (S x.InitDeclors ∷ Mark t.Semicolon ∷ others) (l ∷ m ∷ w)
names_chosen _ _ l m others w _ v no_type no_function (d.type_alone k h) rest e = let i : l ∷ m ∷ w ≡ k ∷ v = e in let same : l ≡ k = cc in absurd (no_type refl (ap (λ z. z.terminal) same ∙ h))
names_chosen _ _ l m others w _ v no_type no_function (d.names lone k u c h) rest e = (u, k ∷ v, c, (k ∷ [], v, record { token = k; stands = h; alone = refl }, rest, refl), e ∙ append_assoc u (k ∷ []) v)
names_chosen _ _ l m others w _ v no_type no_function (d.of_function lone variables _ (d.function n o u a b f)) rest e =
    let i : l ∷ m ∷ w ≡ n ∷ o ∷ (u ++ v) = e in
    let one : l ≡ n = cc in
    let two : m ≡ o = cc in
    absurd (no_function (ap (λ z. z.terminal) one ∙ a) (ap (λ z. z.terminal) two ∙ b))

pub choose_names : (lone variables : Bool) (l m : Lexeme) → (lone ≡ true → IsA t.Semicolon l → ⊥) → (IsA t.Name l → IsA t.OpenParen m → ⊥) → Chosen (D (d.BehindType lone variables)) (S x.InitDeclors) (Mark t.Semicolon ∷ []) l m
choose_names lone variables l m no_type no_function = record { chosen = λ others fits w are. names_chosen lone variables l m others w are.0 are.1 no_type no_function are.2 are.3 are.4 }

-- ---- where nothing was read: what could be read there isn't refused there

fits_nothing : (y : DeclSym) → Fits (D y) []
fits_nothing y = record { stops = λ l w are. absurd (let e : l ∷ w ≡ [] = are in cc) }

pub function_begun : (l : Lexeme) (s v : List Lexeme) → s ≡ l ∷ v → IsA t.Name l → Excluded (D d.Function) [] s s → ⊥
function_begun l s v e a h =
    let f : IsFunction (l ∷ token t.OpenParen ∷ token t.CloseParen ∷ token t.Semicolon ∷ []) = d.function l (token t.OpenParen) (token t.CloseParen ∷ token t.Semicolon ∷ []) a refl no_params in
    h.no_more [] (fits_nothing d.Function) l v _ e (_, [], f, refl, refl)

pub names_begun : (l : Lexeme) (s v : List Lexeme) → s ≡ l ∷ v → IsA t.Name l → Excluded (S x.InitDeclors) [] s s → ⊥
names_begun l s v e a h =
    let one : AreInitDeclors (l ∷ []) = st.last (l ∷ []) (st.bare (l ∷ []) (g.declor l [] [] g.none a g.no_length)) in
    let k : Keeps (D (d.BehindType true true)) (S x.InitDeclors) (Mark t.Semicolon ∷ []) = keeps_in (D (d.BehindType true true)) x.InitDeclors (Mark t.Semicolon ∷ []) refl refl in
    h.no_more (Mark t.Semicolon ∷ []) (k.keeps [] (fits_nothing (d.BehindType true true))) l v (token t.Semicolon ∷ []) e (l ∷ [], token t.Semicolon ∷ [], one, (token t.Semicolon ∷ [], [], record { token = token t.Semicolon; stands = refl; alone = refl }, refl, refl), refl)

pub params_begun : (l : Lexeme) (s v : List Lexeme) → s ≡ l ∷ v → IsA t.Void l → Excluded (D (d.NextParam true)) [] s s → ⊥
params_begun l s v e a h =
    let void : g.IsSpec false (l ∷ []) = g.spec false [] (l ∷ []) [] tt (g.type_word false l (ap whole_type a)) tt in
    let one : d.IsNextParam true (l ∷ token t.CloseParen ∷ token t.Semicolon ∷ []) = d.next_param true false (l ∷ []) [] _ void g.none (d.has_none true _ (closed false)) in
    h.no_more [] (fits_nothing (d.NextParam true)) l v _ e (_, [], one, refl, refl)

-- ---- by the first token alone

params_barred : (l : Lexeme) (others : List Sym) (w u v : List Lexeme) → (IsA t.CloseParen l → ⊥) → (IsA t.Void l → ⊥) → IsParams u → Are others v → l ∷ w ≡ u ++ v → Are (D (d.NextParam true) ∷ others) (l ∷ w)
params_barred l others w _ v no_close no_void (d.no_param c u a b) rest e = absurd (no_close (let h : l ∷ w ≡ c ∷ (u ++ v) = e in let same : l ≡ c = cc in ap (λ z. z.terminal) same ∙ a))
params_barred l others w _ v no_close no_void (d.only_void k c u a b f) rest e = absurd (no_void (let h : l ∷ w ≡ k ∷ c ∷ (u ++ v) = e in let same : l ≡ k = cc in ap (λ z. z.terminal) same ∙ a))
params_barred l others w u v no_close no_void (d.some_params _ a) rest e = (u, v, a, rest, e)

pub bar_params_here : (l : Lexeme) (s v : List Lexeme) → s ≡ l ∷ v → (IsA t.CloseParen l → ⊥) → (IsA t.Void l → ⊥) → Excluded (D (d.NextParam true)) [] s s → Excluded (D d.Params) [] s s
bar_params_here l s v e no_close no_void h = record {
  split = refl;
  no_more = λ others fits m v2 w first are.
      let same : m ≡ l = cc in
      let a = params_barred l others w are.0 are.1 no_close no_void are.2 are.3 (ap (λ z. z ∷ w) (sym same) ∙ are.4) in
      h.no_more others (record { stops = fits.stops }) m v2 w first (subst (λ z. Are (D (d.NextParam true) ∷ others) (z ∷ w)) (sym same) a);
}

names_barred : (lone variables : Bool) (l : Lexeme) (others : List Sym) (w u v : List Lexeme) → (lone ≡ true → IsA t.Semicolon l → ⊥) → (IsA t.Name l → ⊥) → IsBehindType lone variables u → Are others v → l ∷ w ≡ u ++ v → Are (S x.InitDeclors ∷ Mark t.Semicolon ∷ others) (l ∷ w)
names_barred _ _ l others w _ v no_type no_name (d.type_alone k h) rest e = let i : l ∷ w ≡ k ∷ v = e in let same : l ≡ k = cc in absurd (no_type refl (ap (λ z. z.terminal) same ∙ h))
names_barred _ _ l others w _ v no_type no_name (d.names lone k u c h) rest e = (u, k ∷ v, c, (k ∷ [], v, record { token = k; stands = h; alone = refl }, rest, refl), e ∙ append_assoc u (k ∷ []) v)
names_barred _ _ l others w _ v no_type no_name (d.of_function lone variables _ (d.function n o u a b f)) rest e =
    let i : l ∷ w ≡ n ∷ o ∷ (u ++ v) = e in
    let one : l ≡ n = cc in
    absurd (no_name (ap (λ z. z.terminal) one ∙ a))

pub keeps_names : (lone variables : Bool) → Keeps (D (d.BehindType lone variables)) (S x.InitDeclors) (Mark t.Semicolon ∷ [])
keeps_names lone variables = keeps_in (D (d.BehindType lone variables)) x.InitDeclors (Mark t.Semicolon ∷ []) refl refl

pub bar_names_here : (lone variables : Bool) (l : Lexeme) (s v : List Lexeme) → s ≡ l ∷ v → (lone ≡ true → IsA t.Semicolon l → ⊥) → (IsA t.Name l → ⊥) → Excluded (S x.InitDeclors) [] s s → Excluded (D (d.BehindType lone variables)) [] s s
bar_names_here lone variables l s v e no_type no_name h = record {
  split = refl;
  no_more = λ others fits m v2 w first are.
      let same : m ≡ l = cc in
      let a = names_barred lone variables l others w are.0 are.1 no_type no_name are.2 are.3 (ap (λ z. z ∷ w) (sym same) ∙ are.4) in
      let k = keeps_names lone variables in
      h.no_more (Mark t.Semicolon ∷ others) (k.keeps others fits) m v2 w first (subst (λ z. Are (S x.InitDeclors ∷ Mark t.Semicolon ∷ others) (z ∷ w)) (sym same) a);
}

-- ---- attributes, by their names

vector_no_size : (text : List ℕ) → is_vector_hint text ≡ true → is_size_name text ≡ true → ⊥
vector_no_size text h g =
    let e : text ≡ codes "vec_type_hint" = (bytes_eq-Decides text (codes "vec_type_hint")).0 h in
    let f : false ≡ true = subst (λ z. is_size_name z ≡ true) e g in
    cc

vector_row : (n q i j k : Lexeme) (u : List Lexeme) → d.IsVectorHint (n ∷ []) → IsA t.OpenParen q → st.IsHint u → IsA t.CloseParen i → IsA t.CloseParen j → IsA t.CloseParen k → Fills (row_at 0 (decl_rules d.InAttribute)) (n ∷ q ∷ (u ++ i ∷ j ∷ k ∷ []))
vector_row n q i j k u h a b c l m = part_are (D d.VectorHint) _ (n ∷ []) _ h (mark_are t.OpenParen _ q _ a (part_are (D d.Hint) _ u _ b (mark_are t.CloseParen _ i _ c (mark_are t.CloseParen _ j _ l (end_are t.CloseParen k m)))))

vector_chosen : (l : Lexeme) (others : List Sym) (w u v : List Lexeme) → is_vector_hint l.text ≡ true → IsInAttribute u → Are others v → l ∷ w ≡ u ++ v → Are (row_at 0 (decl_rules d.InAttribute) ++ others) (l ∷ w)
vector_chosen l others w _ v h (d.of_vector n q i j k u a b f m p z) rest e =
    let r = vector_row n q i j k u a b f m p z in
    subst (Are (row_at 0 (decl_rules d.InAttribute) ++ others)) (sym e) (are_join (row_at 0 (decl_rules d.InAttribute)) others (n ∷ q ∷ (u ++ i ∷ j ∷ k ∷ [])) v r.are rest)
vector_chosen l others w _ v h (d.of_size n u (d.size_name _ a b) f) rest e = let i : l ∷ w ≡ n ∷ (u ++ v) = e in let same : l ≡ n = cc in absurd (vector_no_size n.text (subst (λ z. is_vector_hint z.text ≡ true) same h) b)

size_chosen : (l : Lexeme) (others : List Sym) (w u v : List Lexeme) → is_vector_hint l.text ≡ false → IsInAttribute u → Are others v → l ∷ w ≡ u ++ v → Are (D d.SizeName ∷ D d.BehindSize ∷ others) (l ∷ w)
size_chosen l others w _ v h (d.of_vector n q i j k u (d.vector_hint _ y) b f m p z) rest e =
    let g : l ∷ w ≡ n ∷ q ∷ ((u ++ i ∷ j ∷ k ∷ []) ++ v) = e in
    let same : l ≡ n = cc in
    absurd (let o : true ≡ false = sym y ∙ subst (λ z. is_vector_hint z.text ≡ false) same h in cc)
size_chosen l others w _ v h (d.of_size n u a f) rest e = (n ∷ [], u ++ v, a, (u, v, f, rest, refl), e)

pub pick_vector : (l : Lexeme) (s v : List Lexeme) → s ≡ l ∷ v → is_vector_hint l.text ≡ true → Item (D d.InAttribute) (row_at 0 (decl_rules d.InAttribute)) [] s s
pick_vector l s v e h = record {
  split = refl;
  builds = λ u are. decl_part_of d.InAttribute u (inl (record { are = are }));
  only = λ others fits m v2 w first are.
      let same : l ≡ m = cc in
      vector_chosen m others w are.0 are.1 (subst (λ z. is_vector_hint z.text ≡ true) same h) are.2 are.3 are.4;
}

pub pick_size : (l : Lexeme) (s v : List Lexeme) → s ≡ l ∷ v → is_vector_hint l.text ≡ false → Item (D d.InAttribute) (row_at 1 (decl_rules d.InAttribute)) [] s s
pick_size l s v e h = record {
  split = refl;
  builds = λ u are. decl_part_of d.InAttribute u (inr (inl (record { are = are })));
  only = λ others fits m v2 w first are.
      let same : l ≡ m = cc in
      size_chosen m others w are.0 are.1 (subst (λ z. is_vector_hint z.text ≡ false) same h) are.2 are.3 are.4;
}

size_of : (u : List Lexeme) → d.IsSizeName u → (n : Lexeme) × IsA t.Name n × (is_size_name n.text ≡ true) × (u ≡ n ∷ [])
size_of _ (d.size_name n a b) = (n, a, b, refl)

-- no name of a size stands there
pub no_size : (l : Lexeme) (s v : List Lexeme) → s ≡ l ∷ v → (IsA t.Name l → is_size_name l.text ≡ true → ⊥) → Excluded (D d.SizeName) [] s s
no_size l s v e other = record {
  split = refl;
  no_more = λ others fits m v2 w first are.
      let n = size_of are.0 are.2 in
      let is : m ∷ w ≡ n.0 ∷ are.1 = are.4 ∙ ap (λ z. z ++ are.1) n.3 in
      let same : n.0 ≡ l = cc in
      other (subst (IsA t.Name) same n.1) (subst (λ z. is_size_name z.text ≡ true) same n.2);
}
