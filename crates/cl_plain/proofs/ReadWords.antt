-- The words of types that a reader skips and looks at.
use Rattle.std.proofs.Common.{◌≡◌, Bool, true, false, List, [], ◌∷◌, ◌++◌, Option, Some, None, refl, ap, ◌∙◌, append_assoc}
use Rattle.cl_ast.specs.declared.expression.Qual.{Qual}
use Rattle.cl_grammar.specs.declared.lexeme.Lexeme.{Lexeme}
use Rattle.cl_grammar.specs.declared.terminal.Terminal.{Terminal}
use Rattle.cl_grammar.specs.declared.terminal.Terminal.TheVariants as t
use Rattle.cl_grammar.specs.Terminals.{qualifier_of, pointer_qualifier_of, whole_type}
use Rattle.cl_grammar.specs.Expressions.{IsA, AreQualifiers, IsStar, star, IsWidth, word, with_int, IsInteger, plain, with_sign, sign, IsSpec, spec, IsBase, type_word, integer, struct_name, named_struct, struct, IsTypeTerm, plain_type, pointer_type, is_open}
use Rattle.cl_grammar.specs.ExpressionTrees.{Qualify, StarOf}
use Rattle.cl_grammar.specs.ExpressionTrees as tree
use Rattle.cl_plain.proofs.Reading.{first_is, begins_type, is_star_end}
use Rattle.cl_plain.proofs.ReadMarks.{first, first_more, first_none, first_excludes, close_no_qualifier, close_no_star, is_star, is_close_paren, begins_base, whole_type_begins, sign_begins, sign_not_whole, width_begins, width_not_whole, takes_int_begins, takes_int_not_whole, no_star, no_pointer_qualifier, no_qualifier_before}
use Rattle.cl_plain.proofs.Readers.{quals, quals_at, star_step, star_by, opens_type, names_vector, vector_at, vector_by}

-- ---- qualifiers

no_quals : (of : Terminal → Option Qual) (r : List Lexeme) → first of r ≡ None → quals of r ≡ ([], r)
unfolding quals quals_at
no_quals of [] e = refl
no_quals of (l ∷ ls) e = ap (λ z. quals_at z (l ∷ ls) (quals of ls)) e

one_qual : (of : Terminal → Option Qual) (l : Lexeme) (q : Qual) (ls : List Lexeme) (qs : List Qual) (r : List Lexeme) → of l.terminal ≡ Some q → quals of ls ≡ (qs, r) → quals of (l ∷ ls) ≡ (q ∷ qs, r)
unfolding quals quals_at
one_qual of l q ls qs r e h = (λ i. quals_at (e i) (l ∷ ls) (h i))

pub quals_are : (of : Terminal → Option Qual) (u : List Lexeme) (qs : List Qual) (r : List Lexeme) → Qualify of u qs → first of r ≡ None → quals of (u ++ r) ≡ (qs, r)
quals_are of [] [] r h e = no_quals of r e
quals_are of [] (q ∷ qs) r h e = absurd h
quals_are of (l ∷ ls) [] r h e = absurd h
quals_are of (l ∷ ls) (q ∷ qs) r h e = one_qual of l q (ls ++ r) qs r h.0 (quals_are of ls qs r h.1 e)

-- the tokens behind qualifiers
past_quals : (u r : List Lexeme) → AreQualifiers u → first qualifier_of r ≡ None → (quals qualifier_of (u ++ r)).1 ≡ r
past_quals [] r h e = ap (λ z. z.1) (no_quals qualifier_of r e)
past_quals (l ∷ ls) r h e = ap (λ z. z.1) (one_qual qualifier_of l h.0.0 (ls ++ r) (quals qualifier_of (ls ++ r)).0 (quals qualifier_of (ls ++ r)).1 h.0.1 refl) ∙ past_quals ls r h.1 e

pub star_is : (u : List Lexeme) (s : Option (List Qual)) (r : List Lexeme) → StarOf u s → first_is is_star_end r ≡ true → star_step (u ++ r) ≡ Some (s, r)
star_is _ _ r tree.none e = ap (λ z. star_by z r) (no_star r e)
star_is _ _ r (tree.some s u qs h k) e =
    ap (λ z. star_by (is_star z) (s ∷ (u ++ r))) h ∙ ap (λ z. Some (Some z.0, z.1)) (quals_are pointer_qualifier_of u qs r k (no_pointer_qualifier r e))

-- ---- a `(` and a type

pub opens : (o : Lexeme) (ls : List Lexeme) → IsA t.OpenParen o → first_is begins_type ls ≡ true → opens_type (o ∷ ls) ≡ true
unfolding opens_type
opens o ls h e = rw h e

pub opens_none : (o : Lexeme) (ls : List Lexeme) → IsA t.OpenParen o → first_is begins_type ls ≡ false → opens_type (o ∷ ls) ≡ false
unfolding opens_type
opens_none o ls h e = rw h e

pub opens_not : (o : Lexeme) (ls : List Lexeme) → is_open o.terminal ≡ false → opens_type (o ∷ ls) ≡ false
unfolding opens_type
opens_not o ls e = rw e refl

-- ---- whether a type names a vector

-- tokens that begin with a base that is no word for a vector
record Other (v : List Lexeme) : Type 0 where
  begins : first_is begins_base v ≡ true
  tells : (r : List Lexeme) → vector_at (v ++ r) ≡ false
  none : (r : List Lexeme) → first whole_type (v ++ r) ≡ None

width_other : (u : List Lexeme) → IsWidth u → Other u
width_other _ (word w bits h) = record { begins = width_begins bits w.terminal h; tells = λ r. rw (width_not_whole bits w.terminal h) refl; none = λ r. width_not_whole bits w.terminal h }
width_other _ (with_int w i h k) = record { begins = takes_int_begins w.terminal h; tells = λ r. rw (takes_int_not_whole w.terminal h) refl; none = λ r. takes_int_not_whole w.terminal h }

integer_other : (u : List Lexeme) → IsInteger u → Other u
integer_other _ (plain u h) = width_other u h
integer_other _ (with_sign s signed u h k) = record { begins = sign_begins signed s.terminal h; tells = λ r. rw (sign_not_whole signed s.terminal h) refl; none = λ r. sign_not_whole signed s.terminal h }
integer_other _ (sign s signed h) = record { begins = sign_begins signed s.terminal h; tells = λ r. rw (sign_not_whole signed s.terminal h) refl; none = λ r. sign_not_whole signed s.terminal h }

struct_other : (s : Lexeme) (v : List Lexeme) → IsA t.Struct s → Other (s ∷ v)
struct_other s v h = record { begins = ap begins_base h; tells = λ r. rw h refl; none = λ r. ap whole_type h }

-- skipping the qualifiers before a base
vector_of_base : (u v r : List Lexeme) → AreQualifiers u → first_is begins_base v ≡ true → names_vector (u ++ (v ++ r)) ≡ vector_at (v ++ r)
unfolding names_vector
vector_of_base u v r h e = ap vector_at (past_quals u (v ++ r) h (no_qualifier_before (v ++ r) (first_more begins_base v r e)))

base_tells : (vector : Bool) (u v w r : List Lexeme) → AreQualifiers u → IsBase vector v → AreQualifiers w → first qualifier_of r ≡ None
    → names_vector (u ++ (v ++ (w ++ r))) ≡ vector_by (Some vector) r
base_tells _ u _ w r h (type_word vector l k) q e = vector_of_base u (l ∷ []) (w ++ r) h (whole_type_begins vector l.terminal k) ∙ (λ i. vector_by (k i) (past_quals w r q e i))
base_tells _ u _ w r h (integer v k) q e = let o = integer_other v k in vector_of_base u v (w ++ r) h o.begins ∙ o.tells (w ++ r)
base_tells _ u _ w r h (struct_name s n h0 h1) q e = let o = struct_other s (n ∷ []) h0 in vector_of_base u (s ∷ n ∷ []) (w ++ r) h o.begins ∙ o.tells (w ++ r)
base_tells _ u _ w r h (named_struct s n b c v count h0 h1 h2 h3 h4 h5) q e = let o = struct_other s (n ∷ b ∷ (v ++ c ∷ [])) h0 in vector_of_base u (s ∷ n ∷ b ∷ (v ++ c ∷ [])) (w ++ r) h o.begins ∙ o.tells (w ++ r)
base_tells _ u _ w r h (struct s b c v count h0 h1 h2 h3 h4) q e = let o = struct_other s (b ∷ (v ++ c ∷ [])) h0 in vector_of_base u (s ∷ b ∷ (v ++ c ∷ [])) (w ++ r) h o.begins ∙ o.tells (w ++ r)

spec_tells : (vector : Bool) (u r : List Lexeme) → IsSpec vector u → first qualifier_of r ≡ None → names_vector (u ++ r) ≡ vector_by (Some vector) r
spec_tells _ _ r (spec vector u v w h k q) e = ap names_vector (append_assoc u (v ++ w) r ∙ ap (λ z. u ++ z) (append_assoc v w r)) ∙ base_tells vector u v w r h k q e

told_plain : (vector : Bool) (r : List Lexeme) → first_is is_star r ≡ false → vector_by (Some vector) r ≡ vector
told_plain true r e = rw e refl
told_plain false r e = refl

told_star : (vector : Bool) (r : List Lexeme) → first_is is_star r ≡ true → vector_by (Some vector) r ≡ false
told_star true r e = rw e refl
told_star false r e = refl

close_qualifies_none : (r : List Lexeme) → first_is is_close_paren r ≡ true → first qualifier_of r ≡ None
close_qualifies_none = first_none is_close_paren qualifier_of close_no_qualifier

close_is_no_star : (r : List Lexeme) → first_is is_close_paren r ≡ true → first_is is_star r ≡ false
close_is_no_star = first_excludes is_close_paren is_star close_no_star

pub term_tells : (vector : Bool) (u r : List Lexeme) → IsTypeTerm vector u → first_is is_close_paren r ≡ true → names_vector (u ++ r) ≡ vector
term_tells _ _ r (plain_type vector u h) e = spec_tells vector u r h (close_qualifies_none r e) ∙ told_plain vector r (close_is_no_star r e)
term_tells _ _ r (pointer_type vector u v h k) e = pointer_tells vector u v r h k
  where
    pointer_tells : (vector : Bool) (u v r : List Lexeme) → IsSpec vector u → IsStar v → names_vector ((u ++ v) ++ r) ≡ false
    pointer_tells vector u _ r h (star s v k q) = ap names_vector (append_assoc u (s ∷ v) r) ∙ spec_tells vector u (s ∷ (v ++ r)) h (ap qualifier_of k) ∙ told_star vector (s ∷ (v ++ r)) (ap is_star k)

-- ---- whether the words of a type name a vector, whatever stands behind them

abbrev is_vector : Option Bool → Bool
is_vector None = false
is_vector (Some vector) = vector

pub spec_names_vector : List Lexeme → Bool
spec_names_vector ls = is_vector (first whole_type (quals qualifier_of ls).1)

base_names : (vector : Bool) (u v r : List Lexeme) → AreQualifiers u → IsBase vector v → spec_names_vector (u ++ (v ++ r)) ≡ vector
unfolding spec_names_vector
base_names _ u _ r h (type_word vector l k) = ap (λ z. is_vector (first whole_type z)) (past_quals u (l ∷ r) h (no_qualifier_before (l ∷ r) (whole_type_begins vector l.terminal k))) ∙ ap is_vector k
base_names _ u _ r h (integer v k) = let o = integer_other v k in ap (λ z. is_vector (first whole_type z)) (past_quals u (v ++ r) h (no_qualifier_before (v ++ r) (first_more begins_base v r o.begins))) ∙ ap is_vector (o.none r)
base_names _ u _ r h (struct_name s n h0 h1) = let o = struct_other s (n ∷ []) h0 in ap (λ z. is_vector (first whole_type z)) (past_quals u (s ∷ n ∷ r) h (no_qualifier_before (s ∷ n ∷ r) o.begins)) ∙ ap is_vector (o.none r)
base_names _ u _ r h (named_struct s n b c v count h0 h1 h2 h3 h4 h5) =
    let w = n ∷ b ∷ (v ++ c ∷ []) in let o = struct_other s w h0 in ap (λ z. is_vector (first whole_type z)) (past_quals u (s ∷ (w ++ r)) h (no_qualifier_before (s ∷ (w ++ r)) o.begins)) ∙ ap is_vector (o.none r)
base_names _ u _ r h (struct s b c v count h0 h1 h2 h3 h4) =
    let w = b ∷ (v ++ c ∷ []) in let o = struct_other s w h0 in ap (λ z. is_vector (first whole_type z)) (past_quals u (s ∷ (w ++ r)) h (no_qualifier_before (s ∷ (w ++ r)) o.begins)) ∙ ap is_vector (o.none r)

-- no condition on what stands behind
pub spec_vector : (vector : Bool) (u : List Lexeme) → IsSpec vector u → (r : List Lexeme) → spec_names_vector (u ++ r) ≡ vector
spec_vector _ _ (spec vector u v w h k q) r = ap spec_names_vector (append_assoc u (v ++ w) r ∙ ap (λ z. u ++ z) (append_assoc v w r)) ∙ base_names vector u v (w ++ r) h k
