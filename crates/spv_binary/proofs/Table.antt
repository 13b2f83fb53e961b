-- The shapes of the code are what the rows of the grammar say.
use Rattle.std.proofs.Common.{◌≡◌, ℕ, ◌≤◌, ◌<◌, ◌==◌, Bool, true, false, cond, List, [], ◌∷◌, ◌++◌, length, map, drop, find, Option, None, Some, refl, sym, ap, subst, ◌∙◌, append_assoc, inl, inr}
use Rattle.std.specs.Prelude.{◌⊎◌, option_map, unwrap_or, slice_get, nat_le, nat_lt, if◌then◌else◌}
use Rattle.std.specs.List.{list_all}
use Rattle.std.proofs.lemmas.Bool.{eqb-true, leb-true, ltb-true, and_parts, false≢true}
use Rattle.spv_module.specs.declared.op.TheConstants as op
use Rattle.spv_module.specs.declared.forms.Form.{Form}
use Rattle.spv_module.specs.Grammar.{Kind, AnId, AnyWord, OneOf, AText, Rest, End, MaybeWord, AnyWords, AnyIds, AnyPairs, ADecoration, Row, Decoration, table, row_of, is_row, kinds_of, form_of_row, form_of, last_of, decorations, is_decoration}
use Rattle.spv_binary.specs.declared.shape.Shape.{Shape}
use Rattle.spv_binary.specs.declared.shape.Tail.{Tail}
use Rattle.spv_binary.specs.declared.shape.Tail.TheVariants as tail
use Rattle.spv_binary.specs.declared.shape.TheConstants.{LITERALS}
use Rattle.spv_binary.specs.Faults.{width, behind, each_word, decoration_numbers, literal_kinds, rest_kinds, operand_kinds}
use Rattle.spv_binary.specs.Kinds.{fixed_kinds, tail_kinds, shape_kinds, shape_of_form, tail_at, decoration_of, literals, is_literals, row_tail, set_at, HasShape}

-- ---- what is found in a list

picked : {X : Type 0} (b : Bool) (y x : X) (o : Option X) → cond b (Some y) o ≡ Some x → ((b ≡ true) × (y ≡ x)) ⊎ (o ≡ Some x)
picked true y x o e = inl (refl, cc)
picked false y x o e = inr e

module _ {X : Type 0} (q : X → Bool) where
  found_passes : (xs : List X) (x : X) → find q xs ≡ Some x → q x ≡ true
  found_passes [] x e = absurd (cc)
  found_passes (y ∷ ys) x e = elim (picked (q y) y x (find q ys) e) [ inl h ↦ ap q (sym h.1) ∙ h.0 | inr h ↦ found_passes ys x h ]

  found_has : (p : X → Bool) (xs : List X) (x : X) → list_all p xs ≡ true → find q xs ≡ Some x → p x ≡ true
  found_has p [] x h e = absurd (cc)
  found_has p (y ∷ ys) x h e =
      let parts = and_parts (p y) (list_all p ys) h in
      elim (picked (q y) y x (find q ys) e) [ inl g ↦ ap p (sym g.1) ∙ parts.0 | inr g ↦ found_has p ys x parts.1 g ]

  found_same : {Y : Type 0} (f g : X → Y) (xs : List X) (x : X) → map f xs ≡ map g xs → find q xs ≡ Some x → f x ≡ g x
  found_same f g [] x h e = absurd (cc)
  found_same f g (y ∷ ys) x h e =
      let first : f y ≡ g y = cc in
      let others : map f ys ≡ map g ys = cc in
      elim (picked (q y) y x (find q ys) e) [ inl w ↦ ap f (sym w.1) ∙ first ∙ ap g w.1 | inr w ↦ found_same f g ys x others w ]

-- ---- operands that always stand

abbrev decoration_kinds : Rest → List Kind
decoration_kinds ADecoration = OneOf decoration_numbers ∷ []
decoration_kinds _ = []

abbrev row_shape : Row → Shape
row_shape r = shape_of_form r.opcode [] (form_of_row r)

abbrev row_code : Row → List Kind
row_code r = fixed_kinds (row_shape r)

abbrev row_kinds : Row → List Kind
row_kinds r = kinds_of r ++ decoration_kinds r.rest

all_fixed : map row_code table ≡ map row_kinds table
unfolding set_at
all_fixed = refl

abbrev has_count : Row → Bool
has_count r = nat_le (row_shape r).count 8

all_counts : list_all has_count table ≡ true
unfolding set_at
all_counts = refl

abbrev is_small : Row → Bool
is_small r = nat_lt r.opcode 65536

all_small : list_all is_small table ≡ true
all_small = refl

abbrev is_long : Row → Bool
is_long r = length (row_shape r).kinds == 8

all_long : list_all is_long table ≡ true
all_long = refl

opcode_is : (n : ℕ) (r : Row) → row_of n ≡ Some r → r.opcode ≡ n
unfolding row_of
opcode_is n r e = eqb-true r.opcode n (found_passes (is_row n) table r e)

pub opcode_small : (n : ℕ) (r : Row) → row_of n ≡ Some r → n < 65536
unfolding row_of
opcode_small n r e = subst (λ m. m < 65536) (opcode_is n r e) (ltb-true _ _ (found_has (is_row n) is_small table r all_small e))

fixed_same : (n : ℕ) (r : Row) → row_of n ≡ Some r → row_code r ≡ row_kinds r
unfolding row_of
fixed_same n r e = found_same (is_row n) row_code row_kinds table r all_fixed e

count_small : (n : ℕ) (r : Row) → row_of n ≡ Some r → (row_shape r).count ≤ 8
unfolding row_of
count_small n r e = leb-true _ _ (found_has (is_row n) has_count table r all_counts e)

kinds_long : (n : ℕ) (r : Row) → row_of n ≡ Some r → length (row_shape r).kinds ≡ 8
unfolding row_of
kinds_long n r e = eqb-true _ _ (found_has (is_row n) is_long table r all_long e)

-- ---- literals of decorations

abbrev Numbered : Type 0
Numbered = ℕ × (List ℕ → List Kind)

abbrev kinds_at : ℕ → List Numbered → List ℕ → List Kind
kinds_at n [] ws = each_word ws
kinds_at n (p ∷ ps) ws = cond (p.0 == n) (p.1 ws) (kinds_at n ps ws)

abbrev of_code : ℕ × Tail → Numbered
of_code row = (row.0, λ ws. tail_kinds row.1 ws)

abbrev of_decoration : Decoration → Numbered
of_decoration d = (d.number, λ ws. d.literals)

same_literals : map of_code LITERALS ≡ map of_decoration decorations
same_literals = refl

code_kinds : (n : ℕ) (rows : List (ℕ × Tail)) (ws : List ℕ) → tail_kinds (unwrap_or (option_map row_tail (find (is_literals n) rows)) tail.Words) ws ≡ kinds_at n (map of_code rows) ws
code_kinds n [] ws = refl
code_kinds n (row ∷ rows) ws =
    elim (row.0 == n) as (λ b. tail_kinds (unwrap_or (option_map row_tail (cond b (Some row) (find (is_literals n) rows))) tail.Words) ws ≡ cond b (tail_kinds row.1 ws) (kinds_at n (map of_code rows) ws)) [ true ↦ refl | false ↦ code_kinds n rows ws ]

decoration_literals : (n : ℕ) (ds : List Decoration) (ws : List ℕ) → literal_kinds (find (is_decoration n) ds) ws ≡ kinds_at n (map of_decoration ds) ws
decoration_literals n [] ws = refl
decoration_literals n (d ∷ ds) ws =
    elim (d.number == n) as (λ b. literal_kinds (cond b (Some d) (find (is_decoration n) ds)) ws ≡ cond b d.literals (kinds_at n (map of_decoration ds) ws)) [ true ↦ refl | false ↦ decoration_literals n ds ws ]

literals_same : (n : ℕ) (ws : List ℕ) → tail_kinds (literals n) ws ≡ literal_kinds (find (is_decoration n) decorations) ws
unfolding literals
literals_same n ws = code_kinds n LITERALS ws ∙ ap (λ ps. kinds_at n ps ws) same_literals ∙ sym (decoration_literals n decorations ws)

-- ---- what may follow

maybe_word : (ws : List ℕ) → tail_kinds tail.MaybeWord ws ≡ rest_kinds MaybeWord ws
maybe_word [] = refl
maybe_word (w ∷ ws) = refl

behind-append : (ks ms : List Kind) (ws : List ℕ) → behind (ks ++ ms) ws ≡ behind ms (behind ks ws)
behind-append [] ms ws = refl
behind-append (k ∷ ks) ms ws = behind-append ks ms (drop (width k ws) ws)

-- only the two decorations have one, behind an id, or an id and a word
abbrev is_one_id : List Kind → Bool
is_one_id (AnId ∷ []) = true
is_one_id _ = false

abbrev is_id_word : List Kind → Bool
is_id_word (AnId ∷ AnyWord ∷ []) = true
is_id_word _ = false

one_id : (ks : List Kind) → is_one_id ks ≡ true → ks ≡ AnId ∷ []
one_id [] e = absurd (false≢true e)
one_id (AnId ∷ []) e = refl
one_id (AnId ∷ k ∷ ks) e = absurd (false≢true e)
one_id (AnyWord ∷ ks) e = absurd (false≢true e)
one_id (OneOf ns ∷ ks) e = absurd (false≢true e)
one_id (AText ∷ ks) e = absurd (false≢true e)

id_word : (ks : List Kind) → is_id_word ks ≡ true → ks ≡ AnId ∷ AnyWord ∷ []
id_word [] e = absurd (false≢true e)
id_word (AnId ∷ []) e = absurd (false≢true e)
id_word (AnId ∷ AnId ∷ ks) e = absurd (false≢true e)
id_word (AnId ∷ AnyWord ∷ []) e = refl
id_word (AnId ∷ AnyWord ∷ k ∷ ks) e = absurd (false≢true e)
id_word (AnId ∷ OneOf ns ∷ ks) e = absurd (false≢true e)
id_word (AnId ∷ AText ∷ ks) e = absurd (false≢true e)
id_word (AnyWord ∷ ks) e = absurd (false≢true e)
id_word (OneOf ns ∷ ks) e = absurd (false≢true e)
id_word (AText ∷ ks) e = absurd (false≢true e)

abbrev no_other : Bool → Bool → Bool
no_other false false = true
no_other _ _ = false

-- b and c tell whether it is the first or the second of the decorations
abbrev is_fit : Bool → Bool → List Kind → Rest → Bool
is_fit true c ks ADecoration = is_one_id ks
is_fit false true ks ADecoration = is_id_word ks
is_fit false false ks ADecoration = false
is_fit b c ks _ = no_other b c

abbrev is_decorated : Row → Bool
is_decorated r = is_fit (r.opcode == op.DECORATE) (r.opcode == op.MEMBER_DECORATE) (kinds_of r) r.rest

all_decorated : list_all is_decorated table ≡ true
all_decorated = refl

decorated : (n : ℕ) (r : Row) → row_of n ≡ Some r → is_decorated r ≡ true
unfolding row_of
decorated n r e = found_has (is_row n) is_decorated table r all_decorated e

abbrev decoration_by : Bool → Bool → List ℕ → Option ℕ
decoration_by b c ws = if b then slice_get ws 1 else (if c then slice_get ws 2 else None)

abbrev Follows : Bool → Bool → List Kind → Rest → List ℕ → Type 0
Follows b c ks rest ws = decoration_kinds rest ++ tail_kinds (tail_at (decoration_by b c ws) (last_of rest)) (behind (decoration_kinds rest) (behind ks ws)) ≡ rest_kinds rest (behind ks ws)

follows_id : (c : Bool) (ws : List ℕ) → Follows true c (AnId ∷ []) ADecoration ws
follows_id c [] = refl
follows_id c (v ∷ []) = refl
follows_id c (v ∷ w ∷ ws) = ap (λ ks. OneOf decoration_numbers ∷ ks) (literals_same w ws)

follows_id_word : (ws : List ℕ) → Follows false true (AnId ∷ AnyWord ∷ []) ADecoration ws
follows_id_word [] = refl
follows_id_word (u ∷ []) = refl
follows_id_word (u ∷ v ∷ []) = refl
follows_id_word (u ∷ v ∷ w ∷ ws) = ap (λ ks. OneOf decoration_numbers ∷ ks) (literals_same w ws)

follows : (b c : Bool) (ks : List Kind) (rest : Rest) (ws : List ℕ) → is_fit b c ks rest ≡ true → Follows b c ks rest ws
follows true c ks ADecoration ws e = subst (λ js. Follows true c js ADecoration ws) (sym (one_id ks e)) (follows_id c ws)
follows false true ks ADecoration ws e = subst (λ js. Follows false true js ADecoration ws) (sym (id_word ks e)) (follows_id_word ws)
follows false false ks ADecoration ws e = absurd (false≢true e)
follows true true ks End ws e = absurd (false≢true e)
follows true true ks MaybeWord ws e = absurd (false≢true e)
follows true true ks AnyWords ws e = absurd (false≢true e)
follows true true ks AnyIds ws e = absurd (false≢true e)
follows true true ks AnyPairs ws e = absurd (false≢true e)
follows true false ks End ws e = absurd (false≢true e)
follows true false ks MaybeWord ws e = absurd (false≢true e)
follows true false ks AnyWords ws e = absurd (false≢true e)
follows true false ks AnyIds ws e = absurd (false≢true e)
follows true false ks AnyPairs ws e = absurd (false≢true e)
follows false true ks End ws e = absurd (false≢true e)
follows false true ks MaybeWord ws e = absurd (false≢true e)
follows false true ks AnyWords ws e = absurd (false≢true e)
follows false true ks AnyIds ws e = absurd (false≢true e)
follows false true ks AnyPairs ws e = absurd (false≢true e)
follows false false ks End ws e = refl
follows false false ks MaybeWord ws e = maybe_word (behind ks ws)
follows false false ks AnyWords ws e = refl
follows false false ks AnyIds ws e = refl
follows false false ks AnyPairs ws e = refl

-- ---- the whole

abbrev joined : Shape → List Kind → List ℕ → List Kind
joined s ks ws = ks ++ tail_kinds s.tail (behind ks ws)

row_kinds_same : (r : Row) (ws : List ℕ) → row_code r ≡ row_kinds r → is_decorated r ≡ true → shape_kinds (shape_of_form r.opcode ws (form_of_row r)) ws ≡ operand_kinds r ws
unfolding decoration_of
row_kinds_same r ws same fit =
    let s = shape_of_form r.opcode ws (form_of_row r) in
    let b = r.opcode == op.DECORATE in
    let c = r.opcode == op.MEMBER_DECORATE in
    ap (λ ks. joined s ks ws) same
    ∙ append_assoc (kinds_of r) (decoration_kinds r.rest) (tail_kinds s.tail (behind (row_kinds r) ws))
    ∙ ap (λ vs. kinds_of r ++ (decoration_kinds r.rest ++ tail_kinds s.tail vs)) (behind-append (kinds_of r) (decoration_kinds r.rest) ws)
    ∙ ap (λ ks. kinds_of r ++ ks) (follows b c (kinds_of r) r.rest ws fit)

shape_by : (n : ℕ) (ws : List ℕ) (f : Form) (o : Option Row) → row_of n ≡ o → option_map form_of_row o ≡ Some f → HasShape (row_of n) ws (shape_of_form n ws f)
shape_by n ws f None e g = absurd (cc)
shape_by n ws f (Some r) e g =
    let is = opcode_is n r e in
    let form : form_of_row r ≡ f = cc in
    let whole : HasShape (row_of n) ws (shape_of_form r.opcode ws (form_of_row r)) = record { row = r; is = e; count = count_small n r e; long = kinds_long n r e; kinds = row_kinds_same r ws (fixed_same n r e) (decorated n r e) } in
    subst (λ m. HasShape (row_of n) ws (shape_of_form m ws f)) is (subst (λ h. HasShape (row_of n) ws (shape_of_form r.opcode ws h)) form whole)

pub shape_found : (n : ℕ) (ws : List ℕ) (f : Form) (s : Shape) → s ≡ shape_of_form n ws f → Some f ≡ form_of n → HasShape (row_of n) ws s
shape_found n ws f s is e = subst (HasShape (row_of n) ws) (sym is) (shape_by n ws f (row_of n) refl (sym e))

no_row : (o : Option Row) → option_map form_of_row o ≡ None → o ≡ None
no_row None e = refl
no_row (Some r) e = absurd (cc)

pub no_shape : (n : ℕ) → None ≡ form_of n → row_of n ≡ None
no_shape n e = no_row (row_of n) (sym e)

pub ruleset shapes = (shape_found, no_shape)
