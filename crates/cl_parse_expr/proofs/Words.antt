-- Words, numbers and names of types by the indices of their tokens.
use Rattle.std.proofs.Common.{◌≡◌, ℕ, ◌+◌, ◌≤◌, ◌<◌, List, [], ◌∷◌, ◌++◌, length, drop, Bool, true, false, refl, sym, ap, ◌∙◌, subst, append_assoc, arith, inl, inr}
use Rattle.std.specs.Prelude.{Option, Some, None, MatchBool}
use Rattle.std.proofs.lemmas.List.{append-nil}
use Rattle.clv_place.specs.declared.place.Place.{Place}
use Rattle.cl_ast.specs.declared.expression.Qual.{Qual}
use Rattle.cl_ast.specs.declared.expression.Base.{Base}
use Rattle.cl_ast.specs.declared.expression.Base.TheVariants as base
use Rattle.cl_grammar.specs.declared.lexeme.Lexeme.{Lexeme}
use Rattle.cl_grammar.specs.declared.terminal.Terminal.{Terminal}
use Rattle.cl_grammar.specs.declared.terminal.Terminal.TheVariants as t
use Rattle.cl_grammar.specs.declared.stop.ExprStop.TheVariants.{Out}
use Rattle.cl_grammar.specs.Terminals.{qualifier_of, pointer_qualifier_of, whole_type, sign_of, width_of, takes_int}
use Rattle.cl_grammar.specs.Symbols as s
use Rattle.cl_grammar.specs.Symbols.{ExprSym, Mark, E, is_some, is_lone, is_type_word, makes}
use Rattle.cl_grammar.specs.ExpressionTrees as x
use Rattle.cl_grammar.specs.ExpressionTrees.{Qualify, StarOf, WidthOf, IntegerOf, type_of_word}
use Rattle.cl_grammar.specs.Items.{Item, between, EndsIn, StandsAt, IsAt, OtherAt, GoesOn, ReadAt, RefusedAt, PlaceAt, TextAt}
use Rattle.cl_grammar.proofs.TerminalKinds.{kind, has}
use Rattle.cl_grammar.proofs.Rules.{width_word}
use Rattle.cl_grammar.proofs.Predicted.{picks, bars}
use Rattle.cl_grammar.proofs.Places.{between_same, between_one, between_join, by_class, by_other_class, by_kinds, by_other_kinds, starts_with, expand, then, then_mark, then_of, done, stops_here, out_at_mark}
use Rattle.cl_parse_expr.specs.Reading.{Qualified, WordAt, NoWordAt, BeginsTyped, BeginsUntyped, untyped, HasWidth, WidthFrom, SignedFrom}

pub other_refused : (ts : List Lexeme) (at : ℕ) (k : Terminal) → makes k ≡ true → OtherAt ts at k → RefusedAt (Mark k) ts at (Out at)
other_refused ts at k m o = record { refused = out_at_mark ts at k m o }

-- two tokens at one index are one
pub same_token : (ts : List Lexeme) (at : ℕ) (l m : Lexeme) → StandsAt ts at l → StandsAt ts at m → l ≡ m
same_token ts at l m a b = let h : l ∷ drop (at + 1) ts ≡ m ∷ drop (at + 1) ts = sym a.here ∙ b.here in cc

pub same_terminal : (ts : List Lexeme) (at : ℕ) (a b : Terminal) → IsAt ts at a → IsAt ts at b → a ≡ b
same_terminal ts at a b i j = sym i.is ∙ ap (λ z. z.terminal) (same_token ts at i.token j.token i.stands j.stands) ∙ j.is

-- one token more in front, or behind
pub between_first : (ts : List Lexeme) (a c : ℕ) (l : Lexeme) → StandsAt ts a l → a + 1 ≤ c → between ts a c ≡ l ∷ between ts (a + 1) c
between_first ts a c l i h = sym (between_join ts a (a + 1) c (omega arith) h) ∙ ap (λ z. z ++ between ts (a + 1) c) (between_one ts a l i.here)

between_last : (ts : List Lexeme) (a h : ℕ) (l : Lexeme) → a ≤ h → StandsAt ts h l → between ts a (h + 1) ≡ between ts a h ++ l ∷ []
between_last ts a h l e i = sym (between_join ts a h (h + 1) e (omega arith)) ∙ ap (λ z. between ts a h ++ z) (between_one ts h l i.here)

none_of_some : {A : Type 0} (o : Option A) → o ≡ None → is_some o ≡ false
none_of_some o h = ap is_some h

-- ---- qualifiers

itself_item : (y : ExprSym) (ts : List Lexeme) → Item (E y) (E y ∷ []) [] ts ts
itself_item y ts = record {
  split = refl;
  builds = λ u are. let e : are.0 ≡ u = sym (are.4 ∙ ap (λ z. are.0 ++ z) are.3 ∙ append-nil are.0) in subst (s.IsE y) e are.2;
  only = λ others fits l v w first are. are;
}

itself : (y : ExprSym) (ts : List Lexeme) (at : ℕ) → at < length ts → GoesOn (E y) (E y ∷ []) ts at at
itself y ts at h = record { forth = omega arith; within = h; item = subst (λ z. Item (E y) (E y ∷ []) z (drop at ts) (drop at ts)) (sym (between_same ts at)) (itself_item y (drop at ts)) }

qualify_more : (word : Terminal → Option Qual) (u : List Lexeme) (qs : List Qual) (l : Lexeme) (q : Qual) → Qualify word u qs → word l.terminal ≡ Some q → Qualify word (u ++ l ∷ []) (qs ++ q ∷ [])
qualify_more word [] [] l q a e = (e, tt)
qualify_more word [] (p ∷ qs) l q a e = absurd a
qualify_more word (m ∷ u) [] l q a e = absurd a
qualify_more word (m ∷ u) (p ∷ qs) l q a e = (a.0, qualify_more word u qs l q a.1 e)

-- Words were read so far, and these are the qualifiers that they add.
pub record QualifiersTo (y : ExprSym) (word : Terminal → Option Qual) (ts : List Lexeme) (at here : ℕ) (before after : List Qual) : Type 0 where
  pub read : GoesOn (E y) (E y ∷ []) ts at here
  pub quals : Qualified word ts at here before after

pub no_qualifier : (y : ExprSym) (word : Terminal → Option Qual) (ts : List Lexeme) (at : ℕ) (before : List Qual) → at < length ts → QualifiersTo y word ts at at before before
no_qualifier y word ts at before h = record {
  read = itself y ts at h;
  quals = record { added = []; is = sym (append-nil before); words = subst (λ z. Qualify word z []) (sym (between_same ts at)) tt };
}

qualified_more : (word : Terminal → Option Qual) (ts : List Lexeme) (at here : ℕ) (before after now : List Qual) (k : Terminal) (q : Qual) → at ≤ here → Qualified word ts at here before after → IsAt ts here k → word k ≡ Some q → now ≡ after ++ q ∷ [] → Qualified word ts at (here + 1) before now
qualified_more word ts at here before after now k q h a i e n = record {
  added = a.added ++ q ∷ [];
  is = n ∙ ap (λ z. z ++ q ∷ []) a.is ∙ append_assoc before a.added (q ∷ []);
  words = subst (λ z. Qualify word z (a.added ++ q ∷ [])) (sym (between_last ts at here i.token h i.stands)) (qualify_more word (between ts at here) a.added i.token q a.words (ap word i.is ∙ e));
}

pub one_qualifier_more : (ts : List Lexeme) (at here : ℕ) (before after now : List Qual) (k : Terminal) (q : Qual) → EndsIn ts → QualifiersTo s.Qualifiers qualifier_of ts at here before after → IsAt ts here k → qualifier_of k ≡ Some q → now ≡ after ++ q ∷ [] → QualifiersTo s.Qualifiers qualifier_of ts at (here + 1) before now
one_qualifier_more ts at here before after now k q ends a i e n = record {
  read = then_of (E s.Qualifiers) s.Qualifier (E s.Qualifiers ∷ []) ts at here k ends (expand (E s.Qualifiers) s.Qualifiers [] 1 ts at here k a.read i (by_class s.Qualifier (picks s.Qualifiers 1) k refl (ap is_some e)) refl) i (ap is_some e) refl;
  quals = qualified_more qualifier_of ts at here before after now k q a.read.forth a.quals i e n;
}

pub qualifiers_end : (ts : List Lexeme) (at here : ℕ) (before after : List Qual) (k : Terminal) → QualifiersTo s.Qualifiers qualifier_of ts at here before after → IsAt ts here k → qualifier_of k ≡ None → ReadAt (E s.Qualifiers) ts at here
qualifiers_end ts at here before after k a i e = done (E s.Qualifiers) ts at here (expand (E s.Qualifiers) s.Qualifiers [] 0 ts at here k a.read i (by_other_class s.Qualifier (picks s.Qualifiers 0) k refl (none_of_some (qualifier_of k) e)) refl)

pub one_pointer_qualifier_more : (ts : List Lexeme) (at here : ℕ) (before after now : List Qual) (k : Terminal) (q : Qual) → EndsIn ts → QualifiersTo s.PointerQualifiers pointer_qualifier_of ts at here before after → IsAt ts here k → pointer_qualifier_of k ≡ Some q → now ≡ after ++ q ∷ [] → QualifiersTo s.PointerQualifiers pointer_qualifier_of ts at (here + 1) before now
one_pointer_qualifier_more ts at here before after now k q ends a i e n = record {
  read = then_of (E s.PointerQualifiers) s.PointerQualifier (E s.PointerQualifiers ∷ []) ts at here k ends (expand (E s.PointerQualifiers) s.PointerQualifiers [] 1 ts at here k a.read i (by_class s.PointerQualifier (picks s.PointerQualifiers 1) k refl (ap is_some e)) refl) i (ap is_some e) refl;
  quals = qualified_more pointer_qualifier_of ts at here before after now k q a.read.forth a.quals i e n;
}

pub pointer_qualifiers_end : (ts : List Lexeme) (at here : ℕ) (before after : List Qual) (k : Terminal) → QualifiersTo s.PointerQualifiers pointer_qualifier_of ts at here before after → IsAt ts here k → pointer_qualifier_of k ≡ None → ReadAt (E s.PointerQualifiers) ts at here
pointer_qualifiers_end ts at here before after k a i e = done (E s.PointerQualifiers) ts at here (expand (E s.PointerQualifiers) s.PointerQualifiers [] 0 ts at here k a.read i (by_other_class s.PointerQualifier (picks s.PointerQualifiers 0) k refl (none_of_some (pointer_qualifier_of k) e)) refl)

-- ---- `*`

other_star : (k : Terminal) → (k ≡ t.Star → ⊥) → has (54 ∷ []) (kind k) ≡ false
other_star t.Star h = absurd (h refl)
other_star (t.TypeName true) h = refl
other_star (t.TypeName false) h = refl
other_star _ h = refl

pub no_star : (ts : List Lexeme) (at : ℕ) → OtherAt ts at t.Star → ReadAt (E s.MayStar) ts at at
no_star ts at o = done (E s.MayStar) ts at at (starts_with s.MayStar 0 ts at o.other o.stands (by_other_kinds (54 ∷ []) (picks s.MayStar 0) o.other refl (other_star o.other o.differs)))

pub no_star_of : (ts : List Lexeme) (at : ℕ) → StarOf (between ts at at) None
no_star_of ts at = subst (λ z. StarOf z None) (sym (between_same ts at)) x.none

pub star_read : (ts : List Lexeme) (at next : ℕ) → EndsIn ts → IsAt ts at t.Star → ReadAt (E s.PointerQualifiers) ts (at + 1) next → ReadAt (E s.MayStar) ts at next
star_read ts at next ends i r =
    let a = expand (E s.MayStar) s.Star [] 0 ts at at t.Star (starts_with s.MayStar 1 ts at t.Star i refl) i refl refl in
    done (E s.MayStar) ts at next (then (E s.MayStar) s.PointerQualifiers [] ts at (at + 1) next (then_mark (E s.MayStar) t.Star (E s.PointerQualifiers ∷ []) ts at at ends a i refl) r refl)

pub star_of : (ts : List Lexeme) (at next : ℕ) (before after : List Qual) → IsAt ts at t.Star → at + 1 ≤ next → before ≡ [] → Qualified pointer_qualifier_of ts (at + 1) next before after → StarOf (between ts at next) (Some after)
star_of ts at next before after i h e q =
    let f : q.added ≡ after = sym (q.is ∙ ap (λ z. z ++ q.added) e) in
    subst (λ z. StarOf z (Some after)) (sym (between_first ts at next i.token i.stands h)) (x.some i.token (between ts (at + 1) next) after i.is (subst (λ z. Qualify pointer_qualifier_of (between ts (at + 1) next) z) f q.words))

-- ---- a type in brackets

pub begins_by : (ts : List Lexeme) (at : ℕ) (k : Terminal) (b : Bool) → IsAt ts at t.OpenParen → IsAt ts (at + 1) k → b ≡ is_type_word k → MatchBool b (BeginsTyped ts at) (BeginsUntyped ts at)
begins_by ts at k true i j e = record { opens = i; second = k; stands = j; begins = sym e }
begins_by ts at k false i j e = untyped k i j (sym e)

-- ---- integer types

other_int : (k : Terminal) → (k ≡ t.Int → ⊥) → has (19 ∷ []) (kind k) ≡ false
other_int t.Int h = absurd (h refl)
other_int (t.TypeName true) h = refl
other_int (t.TypeName false) h = refl
other_int _ h = refl

no_bits : {A : Type 0} (n : ℕ) → Some n ≡ None → A
no_bits n h = absurd (let e : true ≡ false = ap is_some h in cc)

no_bool : {A : Type 0} (b : Bool) → Some b ≡ None → A
no_bool b h = absurd (let e : true ≡ false = ap is_some h in cc)

no_width_word : (k : Terminal) → width_of k ≡ None → has (17 ∷ 18 ∷ 19 ∷ 20 ∷ []) (kind k) ≡ false
no_width_word t.Char h = no_bits 8 h
no_width_word t.Short h = no_bits 16 h
no_width_word t.Int h = no_bits 32 h
no_width_word t.Long h = no_bits 64 h
no_width_word (t.TypeName true) h = refl
no_width_word (t.TypeName false) h = refl
no_width_word _ h = refl

no_integer_word : (k : Terminal) → sign_of k ≡ None → width_of k ≡ None → has (15 ∷ 16 ∷ 17 ∷ 18 ∷ 19 ∷ 20 ∷ []) (kind k) ≡ false
no_integer_word t.Signed g h = no_bool true g
no_integer_word t.Unsigned g h = no_bool false g
no_integer_word t.Char g h = no_bits 8 h
no_integer_word t.Short g h = no_bits 16 h
no_integer_word t.Int g h = no_bits 32 h
no_integer_word t.Long g h = no_bits 64 h
no_integer_word (t.TypeName true) g h = refl
no_integer_word (t.TypeName false) g h = refl
no_integer_word _ g h = refl

width_kind : (k : Terminal) (bits : ℕ) → width_of k ≡ Some bits → has (17 ∷ 18 ∷ 19 ∷ 20 ∷ []) (kind k) ≡ true
width_kind t.Char bits h = refl
width_kind t.Short bits h = refl
width_kind t.Int bits h = refl
width_kind t.Long bits h = refl
width_kind _ bits h = no_bits bits (sym h)

lone : (k : Terminal) (bits : ℕ) → width_of k ≡ Some bits → takes_int k ≡ false → is_lone k ≡ true
lone k bits h g = elim (width_word k bits h) as (λ _. is_lone k ≡ true) [ inl a ↦ a | inr a ↦ absurd (let e : true ≡ false = sym a ∙ g in cc) ]

long_begun : (ts : List Lexeme) (at : ℕ) (k : Terminal) → EndsIn ts → IsAt ts at k → takes_int k ≡ true → GoesOn (E s.Width) (E s.MayInt ∷ []) ts at (at + 1)
long_begun ts at k ends i h = then_of (E s.Width) s.LongWidth (E s.MayInt ∷ []) ts at at k ends (starts_with s.Width 1 ts at k i (by_class s.LongWidth (picks s.Width 1) k refl h)) i h refl

pub width_with_int : (ts : List Lexeme) (at : ℕ) (k : Terminal) → EndsIn ts → IsAt ts at k → takes_int k ≡ true → IsAt ts (at + 1) t.Int → ReadAt (E s.Width) ts at (at + 2)
width_with_int ts at k ends i h j =
    let a = expand (E s.Width) s.MayInt [] 1 ts at (at + 1) t.Int (long_begun ts at k ends i h) j refl refl in
    let e : at + 1 + 1 ≡ at + 2 = omega arith in
    subst (λ z. ReadAt (E s.Width) ts at z) e (done (E s.Width) ts at (at + 1 + 1) (then_mark (E s.Width) t.Int [] ts at (at + 1) ends a j refl))

pub width_without_int : (ts : List Lexeme) (at : ℕ) (k : Terminal) → EndsIn ts → IsAt ts at k → takes_int k ≡ true → OtherAt ts (at + 1) t.Int → ReadAt (E s.Width) ts at (at + 1)
width_without_int ts at k ends i h o = done (E s.Width) ts at (at + 1) (expand (E s.Width) s.MayInt [] 0 ts at (at + 1) o.other (long_begun ts at k ends i h) o.stands (by_other_kinds (19 ∷ []) (picks s.MayInt 0) o.other refl (other_int o.other o.differs)) refl)

pub width_alone : (ts : List Lexeme) (at : ℕ) (k : Terminal) → EndsIn ts → IsAt ts at k → HasWidth ts at → takes_int k ≡ false → ReadAt (E s.Width) ts at (at + 1)
width_alone ts at k ends i w h =
    let f = lone k w.bits (ap width_of (same_terminal ts at k w.word i w.stands) ∙ w.has) h in
    done (E s.Width) ts at (at + 1) (then_of (E s.Width) s.LoneWidth [] ts at at k ends (starts_with s.Width 0 ts at k i (by_class s.LoneWidth (picks s.Width 0) k refl f)) i f refl)

pub width_of_word : (ts : List Lexeme) (at : ℕ) → WidthFrom ts at (at + 1)
width_of_word ts at = record { is = λ word bits i e. subst (λ z. WidthOf z bits) (sym (between_one ts at i.token i.stands.here)) (x.word i.token bits (ap width_of i.is ∙ e)) }

pub width_of_two : (ts : List Lexeme) (at : ℕ) (k : Terminal) → IsAt ts at k → takes_int k ≡ true → IsAt ts (at + 1) t.Int → WidthFrom ts at (at + 2)
width_of_two ts at k i h j = record {
  is = λ word bits m e.
      let f : at + 1 + 1 ≡ at + 2 = omega arith in
      let g : between ts (at + 1) (at + 2) ≡ j.token ∷ [] = subst (λ z. between ts (at + 1) z ≡ j.token ∷ []) f (between_one ts (at + 1) j.token j.stands.here) in
      subst (λ z. WidthOf z bits) (sym (between_first ts at (at + 2) m.token m.stands (omega arith) ∙ ap (λ z. m.token ∷ z) g)) (x.with_int m.token j.token bits (ap takes_int (m.is ∙ same_terminal ts at word k m i) ∙ h) j.is (ap width_of m.is ∙ e));
}

pub has_width : (ts : List Lexeme) (at : ℕ) (k : Terminal) (bits : ℕ) → IsAt ts at k → width_of k ≡ Some bits → HasWidth ts at
has_width ts at k bits i e = record { word = k; bits = bits; stands = i; has = e }

pub some_width_read : (ts : List Lexeme) (at next : ℕ) (k : Terminal) (bits : ℕ) → IsAt ts at k → width_of k ≡ Some bits → ReadAt (E s.Width) ts at next → ReadAt (E s.MayWidth) ts at next
some_width_read ts at next k bits i e r = done (E s.MayWidth) ts at next (then (E s.MayWidth) s.Width [] ts at at next (starts_with s.MayWidth 1 ts at k i (by_kinds (17 ∷ 18 ∷ 19 ∷ 20 ∷ []) (picks s.MayWidth 1) k refl (width_kind k bits e))) r refl)

pub no_width_read : (ts : List Lexeme) (at : ℕ) (k : Terminal) → IsAt ts at k → width_of k ≡ None → ReadAt (E s.MayWidth) ts at at
no_width_read ts at k i e = done (E s.MayWidth) ts at at (starts_with s.MayWidth 0 ts at k i (by_other_kinds (17 ∷ 18 ∷ 19 ∷ 20 ∷ []) (picks s.MayWidth 0) k refl (no_width_word k e)))

pub signed_width : (ts : List Lexeme) (at next : ℕ) (k : Terminal) (bits : ℕ) (signed : Bool) → IsAt ts at k → width_of k ≡ Some bits → WidthFrom ts at next → SignedFrom ts at next signed (base.Int bits signed)
signed_width ts at next k bits signed i e w = record { is = λ l f. x.with_sign l signed (between ts at next) bits f (w.is k bits i e) }

pub signed_alone : (ts : List Lexeme) (at : ℕ) (signed : Bool) → SignedFrom ts at at signed (base.Int 32 signed)
signed_alone ts at signed = record { is = λ l f. subst (λ z. IntegerOf (l ∷ z) (base.Int 32 signed)) (sym (between_same ts at)) (x.sign l signed f) }

pub signed_read : (ts : List Lexeme) (at next : ℕ) (k : Terminal) (signed : Bool) → EndsIn ts → IsAt ts at k → sign_of k ≡ Some signed → ReadAt (E s.MayWidth) ts (at + 1) next → ReadAt (E s.Integer) ts at next
signed_read ts at next k signed ends i e r =
    let f = ap is_some e in
    done (E s.Integer) ts at next (then (E s.Integer) s.MayWidth [] ts at (at + 1) next (then_of (E s.Integer) s.Sign (E s.MayWidth ∷ []) ts at at k ends (starts_with s.Integer 0 ts at k i (by_class s.Sign (picks s.Integer 0) k refl f)) i f refl) r refl)

pub signed_tree : (ts : List Lexeme) (at next : ℕ) (k : Terminal) (signed : Bool) (b : Base) → IsAt ts at k → sign_of k ≡ Some signed → at + 1 ≤ next → SignedFrom ts (at + 1) next signed b → IntegerOf (between ts at next) b
signed_tree ts at next k signed b i e h f = subst (λ z. IntegerOf z b) (sym (between_first ts at next i.token i.stands h)) (f.is i.token (ap sign_of i.is ∙ e))

pub width_read : (ts : List Lexeme) (at next : ℕ) (k : Terminal) (bits : ℕ) → IsAt ts at k → width_of k ≡ Some bits → ReadAt (E s.Width) ts at next → ReadAt (E s.Integer) ts at next
width_read ts at next k bits i e r = done (E s.Integer) ts at next (then (E s.Integer) s.Width [] ts at at next (starts_with s.Integer 1 ts at k i (by_kinds (17 ∷ 18 ∷ 19 ∷ 20 ∷ []) (picks s.Integer 1) k refl (width_kind k bits e))) r refl)

pub width_tree : (ts : List Lexeme) (at next : ℕ) (k : Terminal) (bits : ℕ) → IsAt ts at k → width_of k ≡ Some bits → WidthFrom ts at next → IntegerOf (between ts at next) (base.Int bits true)
width_tree ts at next k bits i e w = x.plain (between ts at next) bits (w.is k bits i e)

pub no_integer : (ts : List Lexeme) (at : ℕ) (k : Terminal) → IsAt ts at k → sign_of k ≡ None → width_of k ≡ None → RefusedAt (E s.Integer) ts at (Out at)
no_integer ts at k i e f = stops_here s.Integer ts at k i (by_other_kinds (15 ∷ 16 ∷ 17 ∷ 18 ∷ 19 ∷ 20 ∷ []) (bars s.Integer) k refl (no_integer_word k e f)) refl

-- ---- words that are whole types

pub word_at : (ts : List Lexeme) (at : ℕ) (k : Terminal) (vector : Bool) (b : Base) → IsAt ts at k → whole_type k ≡ Some vector → ((l : Lexeme) → type_of_word l k ≡ Some b) → WordAt ts at vector b
word_at ts at k vector b i e f = record { token = i.token; stands = i.stands; whole = ap whole_type i.is ∙ e; means = ap (type_of_word i.token) i.is ∙ f i.token }

pub named_word : (ts : List Lexeme) (at : ℕ) (vector : Bool) (name : List ℕ) (place : Place) → IsAt ts at (t.TypeName vector) → TextAt ts at name → PlaceAt ts at place → WordAt ts at vector (base.Named name place)
named_word ts at vector name place i n p =
    let a : i.token.text ≡ name = ap (λ z. z.text) (same_token ts at i.token n.token i.stands n.stands) ∙ n.is in
    let b : i.token.place ≡ place = ap (λ z. z.place) (same_token ts at i.token p.token i.stands p.stands) ∙ p.is in
    record { token = i.token; stands = i.stands; whole = ap whole_type i.is; means = ap (type_of_word i.token) i.is ∙ ap (λ z. Some (base.Named z i.token.place)) a ∙ ap (λ z. Some (base.Named name z)) b }

pub no_word_at : (ts : List Lexeme) (at : ℕ) (k : Terminal) → IsAt ts at k → whole_type k ≡ None → NoWordAt ts at
no_word_at ts at k i e = record { token = i.token; stands = i.stands; none = ap whole_type i.is ∙ e }

pub same_width : (ts : List Lexeme) (at : ℕ) (a b : Terminal) → IsAt ts at a → IsAt ts at b → width_of b ≡ None → width_of a ≡ None
same_width ts at a b i j e = ap width_of (same_terminal ts at a b i j) ∙ e
