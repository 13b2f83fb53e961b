-- Tokens tell the name that a typedef declares.
use Rattle.std.proofs.Common.{◌≡◌, ℕ, Bool, true, false, ◌&&◌, if◌then◌else◌, not, List, [], ◌∷◌, ◌++◌, Option, Some, None, refl, ap, ◌∙◌, append_assoc}
use Rattle.cl_ast.specs.declared.expression.Qual.{Qual}
use Rattle.cl_grammar.specs.declared.lexeme.Lexeme.{Lexeme}
use Rattle.cl_grammar.specs.declared.names.TypeName.{TypeName}
use Rattle.cl_grammar.specs.declared.terminal.Terminal.{Terminal}
use Rattle.cl_grammar.specs.declared.terminal.Terminal.TheVariants as t
use Rattle.cl_grammar.specs.Terminals.{qualifier_of, pointer_qualifier_of, whole_type, sign_of, width_of, takes_int}
use Rattle.cl_grammar.specs.Lexemes.{is_name}
use Rattle.cl_grammar.specs.Expressions.{IsA, AreQualifiers, ArePointerQualifiers, IsStar, star, MayBeStar, IsWidth, word, with_int, IsInteger, plain, with_sign, sign, IsSpec, spec, IsBase, type_word, integer, struct_name, named_struct, struct, AreLengths, IsDeclor, declor}
use Rattle.cl_grammar.specs.Expressions as is
use Rattle.cl_grammar.specs.Statements.{IsExternal, is_none, AreWords, MayBeStatic, IsWord}
use Rattle.cl_grammar.specs.Statements as said
use Rattle.cl_plain.proofs.Reading.{first_is}
use Rattle.cl_plain.proofs.ReadSteps.{skip, if_true, if_false, first_apart}
use Rattle.cl_plain.proofs.ReadExternals.{is_typedef}
use Rattle.cl_plain.proofs.Balanced.{bracket_of, past, past_close, members_balanced}
use Rattle.cl_plain.proofs.ReadWords.{spec_names_vector, spec_vector}
use Rattle.cl_plain.proofs.ReadMarks.{is_open_bracket, is_open_brace, is_star}

abbrev pub is_struct : Terminal → Bool
is_struct t.Struct = true
is_struct _ = false

abbrev pub some_qual : Option Qual → Bool
some_qual None = false
some_qual (Some q) = true

-- a word of a type that is not a struct
abbrev pub is_type_word : Terminal → Bool
is_type_word (t.TypeName vector) = true
is_type_word t.Const = true
is_type_word t.Volatile = true
is_type_word (t.Space s) = true
is_type_word t.Void = true
is_type_word t.Bool = true
is_type_word t.Signed = true
is_type_word t.Unsigned = true
is_type_word t.Char = true
is_type_word t.Short = true
is_type_word t.Int = true
is_type_word t.Long = true
is_type_word (t.UnsignedInt bits) = true
is_type_word (t.Vector bits signed n) = true
is_type_word (t.Sized signed) = true
is_type_word _ = false

-- ---- what is skipped

abbrev pub skip_words : List Lexeme → List Lexeme
skip_words [] = []
skip_words (l ∷ ls) = if is_type_word l.terminal then skip_words ls else l ∷ ls

abbrev pub skip_pointer : List Lexeme → List Lexeme
skip_pointer [] = []
skip_pointer (l ∷ ls) = if some_qual (pointer_qualifier_of l.terminal) then skip_pointer ls else l ∷ ls

abbrev pub skip_members : List Lexeme → List Lexeme
skip_members ls = if first_is is_open_brace ls then past 1 (skip ls) else ls

abbrev pub skip_tag : List Lexeme → List Lexeme
skip_tag ls = if first_is is_name ls then skip ls else ls

abbrev pub skip_struct : List Lexeme → List Lexeme
skip_struct ls = if first_is is_struct ls then skip_words (skip_members (skip_tag (skip ls))) else ls

abbrev pub skip_spec : List Lexeme → List Lexeme
skip_spec ls = skip_struct (skip_words ls)

-- ---- what a typedef declares

abbrev pub declares : Bool → Bool → List Lexeme → List TypeName
declares vector pointer [] = []
declares vector pointer (n ∷ ls) = record { name = n.text; vector = vector && (not pointer && not (first_is is_open_bracket ls)) } ∷ []

abbrev pub declares_behind : Bool → List Lexeme → List TypeName
declares_behind vector ls = if first_is is_star ls then declares vector true (skip_pointer (skip ls)) else declares vector false ls

abbrev pub told : List Lexeme → List TypeName
told ls = if first_is is_typedef ls then declares_behind (spec_names_vector (skip ls)) (skip_spec (skip ls)) else []

-- ---- words are skipped

skip_word : (l : Lexeme) (ls : List Lexeme) → is_type_word l.terminal ≡ true → skip_words (l ∷ ls) ≡ skip_words ls
skip_word l ls e = if_true _ e

qualifier_word : (l : Terminal) (q : Qual) → qualifier_of l ≡ Some q → is_type_word l ≡ true
qualifier_word t.Const q e = refl
qualifier_word t.Volatile q e = refl
qualifier_word (t.Space s) q e = refl
qualifier_word _ q e = absurd (cc)

whole_word : (l : Terminal) (b : Bool) → whole_type l ≡ Some b → is_type_word l ≡ true
whole_word t.Void b e = refl
whole_word t.Bool b e = refl
whole_word (t.UnsignedInt bits) b e = refl
whole_word (t.Vector bits signed n) b e = refl
whole_word (t.Sized signed) b e = refl
whole_word (t.TypeName vector) b e = refl
whole_word _ b e = absurd (cc)

sign_word : (l : Terminal) (b : Bool) → sign_of l ≡ Some b → is_type_word l ≡ true
sign_word t.Signed b e = refl
sign_word t.Unsigned b e = refl
sign_word _ b e = absurd (cc)

width_word : (l : Terminal) (n : ℕ) → width_of l ≡ Some n → is_type_word l ≡ true
width_word t.Char n e = refl
width_word t.Short n e = refl
width_word t.Int n e = refl
width_word t.Long n e = refl
width_word _ n e = absurd (cc)

takes_word : (l : Terminal) → takes_int l ≡ true → is_type_word l ≡ true
takes_word t.Short e = refl
takes_word t.Long e = refl
takes_word _ e = absurd (cc)

skip_qualifiers : (u : List Lexeme) → AreQualifiers u → (r : List Lexeme) → skip_words (u ++ r) ≡ skip_words r
skip_qualifiers [] h r = refl
skip_qualifiers (l ∷ u) h r = skip_word l (u ++ r) (qualifier_word l.terminal h.0.0 h.0.1) ∙ skip_qualifiers u h.1 r

skip_width : (u : List Lexeme) → IsWidth u → (r : List Lexeme) → skip_words (u ++ r) ≡ skip_words r
skip_width _ (word w bits h) r = skip_word w r (width_word w.terminal bits h)
skip_width _ (with_int w i h hi) r = skip_word w (i ∷ r) (takes_word w.terminal h) ∙ skip_word i r (ap is_type_word hi)

skip_integer : (u : List Lexeme) → IsInteger u → (r : List Lexeme) → skip_words (u ++ r) ≡ skip_words r
skip_integer _ (plain u h) r = skip_width u h r
skip_integer _ (with_sign s b u h k) r = skip_word s (u ++ r) (sign_word s.terminal b h) ∙ skip_width u k r
skip_integer _ (sign s b h) r = skip_word s r (sign_word s.terminal b h)

-- a star or a name stands behind the words of a type
abbrev pub is_behind : Terminal → Bool
is_behind t.Star = true
is_behind t.Name = true
is_behind _ = false

behind_no_word : (l : Terminal) → is_behind l ≡ true → is_type_word l ≡ false
behind_no_word t.Star e = refl
behind_no_word t.Name e = refl
behind_no_word _ e = absurd (cc)

behind_no_struct : (l : Terminal) → is_behind l ≡ true → is_struct l ≡ false
behind_no_struct t.Star e = refl
behind_no_struct t.Name e = refl
behind_no_struct _ e = absurd (cc)

stays : (r : List Lexeme) → first_is is_behind r ≡ true → skip_words r ≡ r
stays [] e = refl
stays (l ∷ r) e = if_false _ (behind_no_word l.terminal e)

no_struct : (r : List Lexeme) → first_is is_behind r ≡ true → skip_struct r ≡ r
no_struct [] e = refl
no_struct (l ∷ r) e = if_false _ (behind_no_struct l.terminal e)

-- words, and what is behind them
only_words : (r : List Lexeme) → first_is is_behind r ≡ true → skip_struct (skip_words r) ≡ r
only_words r e = ap skip_struct (stays r e) ∙ no_struct r e

abbrev struct_rest : List Lexeme → List Lexeme
struct_rest ls = skip_words (skip_members (skip_tag ls))

behind_no_brace : (l : Terminal) → is_type_word l ≡ true → is_open_brace l ≡ false
behind_no_brace t.OpenBrace e = absurd (cc)
behind_no_brace _ e = refl

at_struct : (s : Lexeme) (ls : List Lexeme) → IsA t.Struct s → skip_struct (skip_words (s ∷ ls)) ≡ struct_rest ls
at_struct s ls h = ap skip_struct (if_false _ (ap is_type_word h)) ∙ if_true _ (ap is_struct h)

-- a `{`, members and a `}`
members_past : (o c : Lexeme) (u : List Lexeme) (count : ℕ) (r : List Lexeme) → IsA t.OpenBrace o → is.AreMembers count u → IsA t.CloseBrace c → skip_members (o ∷ ((u ++ c ∷ []) ++ r)) ≡ r
members_past o c u count r ho h hc = if_true _ (ap is_open_brace ho) ∙ (ap (past 1) (append_assoc u (c ∷ []) r) ∙ ((members_balanced count u h).on 0 (c ∷ r) ∙ past_close 0 c r (ap bracket_of hc)))

no_members : (w r : List Lexeme) → AreQualifiers w → first_is is_behind r ≡ true → skip_members (w ++ r) ≡ w ++ r
no_members [] r h e = if_false _ (behind_brace r e)
  where
    brace : (l : Terminal) → is_behind l ≡ true → is_open_brace l ≡ false
    brace t.Star e = refl
    brace t.Name e = refl
    brace _ e = absurd (cc)

    behind_brace : (r : List Lexeme) → first_is is_behind r ≡ true → first_is is_open_brace r ≡ false
    behind_brace [] e = refl
    behind_brace (l ∷ r) e = brace l.terminal e
no_members (l ∷ w) r h e = if_false _ (behind_no_brace l.terminal (qualifier_word l.terminal h.0.0 h.0.1))

after_words : (w r : List Lexeme) → AreQualifiers w → first_is is_behind r ≡ true → skip_words (w ++ r) ≡ r
after_words w r h e = skip_qualifiers w h r ∙ stays r e

skip_base : (vector : Bool) (v : List Lexeme) → IsBase vector v → (w r : List Lexeme) → AreQualifiers w → first_is is_behind r ≡ true → skip_struct (skip_words (v ++ (w ++ r))) ≡ r
skip_base _ _ (type_word vector l h) w r q e = ap skip_struct (skip_word l (w ++ r) (whole_word l.terminal vector h) ∙ skip_qualifiers w q r) ∙ only_words r e
skip_base _ _ (integer v h) w r q e = ap skip_struct (skip_integer v h (w ++ r) ∙ skip_qualifiers w q r) ∙ only_words r e
skip_base _ _ (struct_name s n hs hn) w r q e = at_struct s (n ∷ (w ++ r)) hs ∙ (ap (λ z. skip_words (skip_members z)) (if_true _ (ap is_name hn)) ∙ (ap skip_words (no_members w r q e) ∙ after_words w r q e))
skip_base _ _ (named_struct s n o c u count hs hn ho hu le hc) w r q e =
    at_struct s (n ∷ o ∷ ((u ++ c ∷ []) ++ (w ++ r))) hs
    ∙ (ap (λ z. skip_words (skip_members z)) (if_true _ (ap is_name hn)) ∙ (ap skip_words (members_past o c u count (w ++ r) ho hu hc) ∙ after_words w r q e))
skip_base _ _ (struct s o c u count hs ho hu le hc) w r q e =
    at_struct s (o ∷ ((u ++ c ∷ []) ++ (w ++ r))) hs
    ∙ (ap (λ z. skip_words (skip_members z)) (if_false _ (ap is_name ho)) ∙ (ap skip_words (members_past o c u count (w ++ r) ho hu hc) ∙ after_words w r q e))

spec_skipped : (vector : Bool) (u : List Lexeme) → IsSpec vector u → (r : List Lexeme) → first_is is_behind r ≡ true → skip_spec (u ++ r) ≡ r
spec_skipped _ _ (spec vector u v w a b c) r e =
    ap skip_spec (append_assoc u (v ++ w) r ∙ ap (λ z. u ++ z) (append_assoc v w r)) ∙ (ap skip_struct (skip_qualifiers u a (v ++ (w ++ r))) ∙ skip_base vector v b w r c e)

-- ---- the name

pointer_skipped : (u : List Lexeme) → ArePointerQualifiers u → (n : Lexeme) (r : List Lexeme) → IsA t.Name n → skip_pointer (u ++ n ∷ r) ≡ n ∷ r
pointer_skipped [] h n r hn = if_false _ (ap (λ z. some_qual (pointer_qualifier_of z)) hn)
pointer_skipped (l ∷ u) h n r hn = if_true _ (ap some_qual h.0.1) ∙ pointer_skipped u h.1 n r hn

lengths_told : (w : List Lexeme) → AreLengths w → (s : Lexeme) (r : List Lexeme) → IsA t.Semicolon s → not (first_is is_open_bracket (w ++ s ∷ r)) ≡ is_none w
lengths_told _ is.no_length s r hs = ap (λ z. not (is_open_bracket z)) hs
lengths_told _ (is.missing_length o c v ho hc h) s r hs = ap (λ z. not (is_open_bracket z)) ho
lengths_told _ (is.length_given o c u v ho hu hc h) s r hs = ap (λ z. not (is_open_bracket z)) ho

name_told : (vector : Bool) (v w : List Lexeme) (n s : Lexeme) (r : List Lexeme) → MayBeStar v → IsA t.Name n → AreLengths w → IsA t.Semicolon s
    → declares_behind vector (v ++ n ∷ (w ++ s ∷ r)) ≡ record { name = n.text; vector = vector && (is_none v && is_none w) } ∷ []
name_told vector _ w n s r is.MayBeStar.none hn hw hs = if_false _ (ap is_star hn) ∙ ap (λ z. record { name = n.text; vector = vector && z } ∷ []) (lengths_told w hw s r hs)
name_told vector _ w n s r (is.MayBeStar.some _ (star k v hk hv)) hn hw hs = if_true _ (ap is_star hk) ∙ ap (declares vector true) (pointer_skipped v hv n (w ++ s ∷ r) hn)

star_behind : (v : List Lexeme) (n : Lexeme) (r : List Lexeme) → MayBeStar v → IsA t.Name n → first_is is_behind (v ++ n ∷ r) ≡ true
star_behind _ n r is.MayBeStar.none hn = ap is_behind hn
star_behind _ n r (is.MayBeStar.some _ (star k v hk hv)) hn = ap is_behind hk

-- ---- other externals

word_no_typedef : (u : List Lexeme) → IsWord u → (r : List Lexeme) → first_is is_typedef (u ++ r) ≡ false
word_no_typedef _ (said.kernel w h) r = ap is_typedef h
word_no_typedef _ (said.inline w h) r = ap is_typedef h
word_no_typedef _ (said.static w h) r = ap is_typedef h
word_no_typedef _ (said.vector_hint a o p n q c d e u ha ho hp hn hq hu hc hd he) r = ap is_typedef ha
word_no_typedef _ (said.size_alone a o p n d e ha ho hp hn hs hd he) r = ap is_typedef ha
word_no_typedef _ (said.size a o p n q c d e u ha ho hp hn hs hq hu hc hd he) r = ap is_typedef ha

words_no_typedef : (u : List Lexeme) → AreWords u → (r : List Lexeme) → first_is is_typedef r ≡ false → first_is is_typedef (u ++ r) ≡ false
words_no_typedef _ said.AreWords.none r e = e
words_no_typedef _ (said.AreWords.more u v h k) r e = first_apart is_typedef u v r (word_no_typedef u h (v ++ r))

static_no_typedef : (u : List Lexeme) → MayBeStatic u → (r : List Lexeme) → first_is is_typedef r ≡ false → first_is is_typedef (u ++ r) ≡ false
static_no_typedef _ said.MayBeStatic.none r e = e
static_no_typedef _ (said.MayBeStatic.static w h) r e = ap is_typedef h

word_typedef : (l : Terminal) → is_type_word l ≡ true → is_typedef l ≡ false
word_typedef t.Typedef e = absurd (cc)
word_typedef _ e = refl

base_no_typedef : (vector : Bool) (v : List Lexeme) → IsBase vector v → (r : List Lexeme) → first_is is_typedef (v ++ r) ≡ false
base_no_typedef _ _ (type_word vector l h) r = word_typedef l.terminal (whole_word l.terminal vector h)
base_no_typedef _ _ (integer _ (plain _ (word w bits h))) r = word_typedef w.terminal (width_word w.terminal bits h)
base_no_typedef _ _ (integer _ (plain _ (with_int w i h hi))) r = word_typedef w.terminal (takes_word w.terminal h)
base_no_typedef _ _ (integer _ (with_sign s b u h k)) r = word_typedef s.terminal (sign_word s.terminal b h)
base_no_typedef _ _ (integer _ (sign s b h)) r = word_typedef s.terminal (sign_word s.terminal b h)
base_no_typedef _ _ (struct_name s n hs hn) r = ap is_typedef hs
base_no_typedef _ _ (named_struct s n o c u count hs hn ho hu le hc) r = ap is_typedef hs
base_no_typedef _ _ (struct s o c u count hs ho hu le hc) r = ap is_typedef hs

spec_no_typedef : (vector : Bool) (u : List Lexeme) → IsSpec vector u → (r : List Lexeme) → first_is is_typedef (u ++ r) ≡ false
spec_no_typedef _ _ (spec vector [] v w a b c) r = first_apart is_typedef v w r (base_no_typedef vector v b (w ++ r))
spec_no_typedef _ _ (spec vector (l ∷ u) v w a b c) r = word_typedef l.terminal (qualifier_word l.terminal a.0.0 a.0.1)

-- ---- what an external declares

pub declared_told : (declared : List TypeName) (u : List Lexeme) → IsExternal declared u → (r : List Lexeme) → told (u ++ r) ≡ declared
declared_told _ _ (said.typedef vector h n s u v w hh hu hv hn hw hs) r =
    let whole : (u ++ (v ++ n ∷ (w ++ s ∷ []))) ++ r ≡ u ++ (v ++ n ∷ (w ++ s ∷ r)) = append_assoc u (v ++ n ∷ (w ++ s ∷ [])) r ∙ (ap (λ z. u ++ z) (append_assoc v (n ∷ (w ++ s ∷ [])) r) ∙ ap (λ z. u ++ (v ++ n ∷ z)) (append_assoc w (s ∷ []) r)) in
    if_true _ (ap is_typedef hh)
    ∙ (ap (λ z. declares_behind (spec_names_vector z) (skip_spec z)) whole
    ∙ (ap (λ z. declares_behind z (skip_spec (u ++ (v ++ n ∷ (w ++ s ∷ r))))) (spec_vector vector u hu (v ++ n ∷ (w ++ s ∷ r)))
    ∙ (ap (declares_behind vector) (spec_skipped vector u hu (v ++ n ∷ (w ++ s ∷ r)) (star_behind v n (w ++ s ∷ r) hv hn)) ∙ name_told vector v w n s r hv hn hw hs)))
declared_told _ _ (said.types vector s u hu hs) r = if_false _ (first_apart is_typedef u (s ∷ []) r (spec_no_typedef vector u hu (s ∷ r)))
declared_told _ _ (said.constants vector s u v w hu hv hw hs) r =
    if_false _ (first_apart is_typedef u (v ++ (w ++ s ∷ [])) r (static_no_typedef u hu ((v ++ (w ++ s ∷ [])) ++ r) (first_apart is_typedef v (w ++ s ∷ []) r (spec_no_typedef vector v hv ((w ++ s ∷ []) ++ r)))))
declared_told _ _ (said.declared vector named n o c s u v w hu hv hn ho hw hc hs) r =
    let b = n ∷ o ∷ (w ++ c ∷ s ∷ []) in
    if_false _ (first_apart is_typedef u (v ++ b) r (words_no_typedef u hu ((v ++ b) ++ r) (first_apart is_typedef v b r (spec_no_typedef vector v hv (b ++ r)))))
declared_told _ _ (said.defined vector n o c u v w x hu hv hn ho hw hc hx) r =
    let b = n ∷ o ∷ (w ++ c ∷ x) in
    if_false _ (first_apart is_typedef u (v ++ b) r (words_no_typedef u hu ((v ++ b) ++ r) (first_apart is_typedef v b r (spec_no_typedef vector v hv (b ++ r)))))
