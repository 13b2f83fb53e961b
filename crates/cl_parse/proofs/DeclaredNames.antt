-- What tokens declare, by their first token.
use Rattle.std.proofs.Common.{◌≡◌, ℕ, List, [], ◌∷◌, ◌++◌, Bool, true, refl, sym, ap, ◌∙◌, subst, append_assoc}
use Rattle.std.specs.Prelude.{◌&&◌}
use Rattle.cl_grammar.specs.declared.lexeme.Lexeme.{Lexeme}
use Rattle.cl_grammar.specs.declared.names.TypeName.{TypeName}
use Rattle.cl_grammar.specs.declared.terminal.Terminal.{Terminal}
use Rattle.cl_grammar.specs.declared.terminal.Terminal.TheVariants as t
use Rattle.cl_grammar.specs.Expressions.{IsA, IsSpec, MayBeStar, AreLengths}
use Rattle.cl_grammar.specs.Statements as st
use Rattle.cl_grammar.specs.Statements.{IsExternal, IsWord, AreWords, MayBeStatic, is_none}
use Rattle.cl_grammar.proofs.TerminalKinds.{kind, has, excluded_middle}
use Rattle.cl_grammar.proofs.ExpressionStarts.{type_kinds, any_spec_begins}

-- ---- behind a first token that is no `typedef`

pub only_typedefs : (d : List TypeName) (u : List Lexeme) (l : Lexeme) (v : List Lexeme) → IsExternal d u → u ≡ l ∷ v → (IsA t.Typedef l → ⊥) → d ≡ []
only_typedefs _ _ l v (st.typedef vector h n s u w z a b c f g i) e other =
    let q : h ∷ (u ++ (w ++ n ∷ (z ++ s ∷ []))) ≡ l ∷ v = e in
    let same : l ≡ h = cc in
    absurd (other (ap (λ y. y.terminal) same ∙ a))
only_typedefs _ _ l v (st.types vector s u a b) e other = refl
only_typedefs _ _ l v (st.constants vector s u w z a b c f) e other = refl
only_typedefs _ _ l v (st.declared vector named n o c s u w z a b f g h i j) e other = refl
only_typedefs _ _ l v (st.defined vector n o c u w z y a b f g h i j) e other = refl

-- ---- behind a `typedef`

not_typedef : (k : Terminal) (m l : Lexeme) (w v : List Lexeme) → m ∷ w ≡ l ∷ v → IsA k m → IsA t.Typedef l → (k ≡ t.Typedef → ⊥) → ⊥
not_typedef k m l w v e a h other = let same : m ≡ l = cc in other (sym a ∙ ap (λ y. y.terminal) same ∙ h)

type_first : (vector : Bool) (u w : List Lexeme) (l : Lexeme) (v : List Lexeme) → IsSpec vector u → u ++ w ≡ l ∷ v → IsA t.Typedef l → ⊥
type_first vector u w l v a e h =
    let b = any_spec_begins vector u a in
    let q : b.first ∷ (b.rest ++ w) ≡ l ∷ v = sym (ap (λ z. z ++ w) b.is) ∙ e in
    let same : b.first ≡ l = cc in
    excluded_middle (has type_kinds (kind t.Typedef)) (subst (λ z. has type_kinds (kind z) ≡ true) (ap (λ y. y.terminal) same ∙ h) b.fits) refl

word_first : (u w : List Lexeme) (l : Lexeme) (v : List Lexeme) → IsWord u → u ++ w ≡ l ∷ v → IsA t.Typedef l → ⊥
word_first _ w l v (st.kernel k a) e h = not_typedef t.Kernel k l w v e a h (λ f. cc)
word_first _ w l v (st.inline k a) e h = not_typedef t.Inline k l w v e a h (λ f. cc)
word_first _ w l v (st.static k a) e h = not_typedef t.Static k l w v e a h (λ f. cc)
word_first _ w l v (st.vector_hint k o p n q c i j u a b f g m r x y z) e h = not_typedef t.Attribute k l (o ∷ p ∷ n ∷ q ∷ ((u ++ c ∷ i ∷ j ∷ []) ++ w)) v e a h (λ f. cc)
word_first _ w l v (st.size_alone k o p n i j a b f g m x y) e h = not_typedef t.Attribute k l (o ∷ p ∷ n ∷ i ∷ j ∷ w) v e a h (λ f. cc)
word_first _ w l v (st.size k o p n q c i j u a b f g m r s x y z) e h = not_typedef t.Attribute k l (o ∷ p ∷ n ∷ q ∷ ((u ++ c ∷ i ∷ j ∷ []) ++ w)) v e a h (λ f. cc)

words_first : (vector : Bool) (u w y : List Lexeme) (l : Lexeme) (v : List Lexeme) → AreWords u → IsSpec vector w → u ++ (w ++ y) ≡ l ∷ v → IsA t.Typedef l → ⊥
words_first vector _ w y l v st.none b e h = type_first vector w y l v b e h
words_first vector _ w y l v (st.more u z a c) b e h = word_first u (z ++ (w ++ y)) l v a (sym (append_assoc u z (w ++ y)) ∙ e) h

static_first : (vector : Bool) (u w y : List Lexeme) (l : Lexeme) (v : List Lexeme) → MayBeStatic u → IsSpec vector w → u ++ (w ++ y) ≡ l ∷ v → IsA t.Typedef l → ⊥
static_first vector _ w y l v st.none b e h = type_first vector w y l v b e h
static_first vector _ w y l v (st.static k a) b e h = not_typedef t.Static k l (w ++ y) v e a h (λ f. cc)

-- one name, and whether it stands for a vector type
abbrev pub one_name : List ℕ → Bool → List TypeName
one_name text vector = record { name = text; vector = vector } ∷ []

-- what stands behind a `typedef` that declares names
pub record IsTypedef (d : List TypeName) (v : List Lexeme) : Type 0 where
  pub vector : Bool
  pub name : Lexeme
  pub end : Lexeme
  pub type : List Lexeme
  pub star : List Lexeme
  pub lengths : List Lexeme
  pub is_type : IsSpec vector type
  pub is_star : MayBeStar star
  pub is_name : IsA t.Name name
  pub are_lengths : AreLengths lengths
  pub declares : d ≡ one_name name.text (vector && (is_none star && is_none lengths))
  pub split : v ≡ type ++ (star ++ name ∷ (lengths ++ end ∷ []))

pub behind_typedef : (d : List TypeName) (u : List Lexeme) (l : Lexeme) (v : List Lexeme) → IsExternal d u → u ≡ l ∷ v → IsA t.Typedef l → IsTypedef d v
behind_typedef _ _ l v (st.typedef vector h n s u w z a b c f g i) e k =
    let q : h ∷ (u ++ (w ++ n ∷ (z ++ s ∷ []))) ≡ l ∷ v = e in
    record {
      vector = vector;
      name = n;
      end = s;
      type = u;
      star = w;
      lengths = z;
      is_type = b;
      is_star = c;
      is_name = f;
      are_lengths = g;
      declares = refl;
      split = let same : v ≡ u ++ (w ++ n ∷ (z ++ s ∷ [])) = cc in same;
    }
behind_typedef _ _ l v (st.types vector s u a b) e k = absurd (type_first vector u (s ∷ []) l v a e k)
behind_typedef _ _ l v (st.constants vector s u w z a b c f) e k = absurd (static_first vector u w (z ++ s ∷ []) l v a b e k)
behind_typedef _ _ l v (st.declared vector named n o c s u w z a b f g h i j) e k = absurd (words_first vector u w (n ∷ o ∷ (z ++ c ∷ s ∷ [])) l v a b e k)
behind_typedef _ _ l v (st.defined vector n o c u w z y a b f g h i j) e k = absurd (words_first vector u w (n ∷ o ∷ (z ++ c ∷ y)) l v a b e k)
