-- The kinds that the words of operands call for are the kinds that the grammar wants of the operands.
use Rattle.std.proofs.Common.{◌≡◌, ℕ, ◌==◌, Bool, true, false, cond, List, [], ◌∷◌, ◌++◌, map, find, Option, None, Some, refl, sym, ap, ◌∙◌, inl, inr}
use Rattle.std.specs.Prelude.{◌&&◌, ◌||◌}
use Rattle.std.specs.List.{flat_map}
use Rattle.std.proofs.lemmas.Bool.{cases_Bool, and_left}
use Rattle.spv_module.specs.declared.module.Operand.{Operand}
use Rattle.spv_module.specs.declared.module.Operand.TheVariants.{Id, Word, Str}
use Rattle.spv_module.specs.Grammar.{Kind, AnId, AnyWord, OneOf, Rest, End, MaybeWord, AnyWords, AnyIds, AnyPairs, ADecoration, Row, Decoration, is_kind, are_kinds, is_among, decorations, is_decoration, all_words, all_ids, all_pairs, are_literals, fits_rest, fits, kinds_of}
use Rattle.spv_module.specs.Words.{operand_words, string_words}
use Rattle.spv_binary.specs.Faults.{behind, each_word, each_id, each_pair, decoration_number, decoration_numbers, literal_kinds, rest_kinds, operand_kinds}
use Rattle.spv_binary.proofs.Operands.{AreOperands, AreOperands-others, HasWords}
use Rattle.spv_binary.proofs.OperandLists.{operands-some, behind_first}

abbrev words : List Operand → List ℕ
words os = flat_map operand_words os

-- ---- words, ids and pairs

-- where words stand, the first kind is that of a word or an id
word_first : (ws : List ℕ) → HasWords ws → (ks : List Kind) × (each_word ws ≡ AnyWord ∷ ks)
word_first ws h = (each_word h.others, ap each_word h.is)

id_first : (ws : List ℕ) → HasWords ws → (ks : List Kind) × (each_id ws ≡ AnId ∷ ks)
id_first ws h = (each_id h.others, ap each_id h.is)

pair_cons : (w : ℕ) (ws : List ℕ) → (ks : List Kind) × (each_pair (w ∷ ws) ≡ AnyWord ∷ AnId ∷ ks)
pair_cons w [] = ([], refl)
pair_cons w (v ∷ ws) = (each_pair ws, refl)

pair_first : (ws : List ℕ) → HasWords ws → (ks : List Kind) × (each_pair ws ≡ AnyWord ∷ AnId ∷ ks)
pair_first ws h = let p = pair_cons h.first h.others in (p.0, ap each_pair h.is ∙ p.1)

-- an operand of another kind than the first
other_first : (k : Kind) (all : List Kind) (o : Operand) (os : List Operand) → (ks : List Kind) × (all ≡ k ∷ ks) → is_kind k o ≡ false → are_kinds all (o ∷ os) ≡ false
other_first k all o os p e = ap (λ js. are_kinds js (o ∷ os)) p.1 ∙ and_left (is_kind k o) (are_kinds p.0 os) e

words_same : (os : List Operand) → are_kinds (each_word (words os)) os ≡ all_words os
words_same [] = refl
words_same (Word n ∷ os) = words_same os
words_same (Id n ∷ os) = refl
words_same (Str s ∷ os) = other_first AnyWord (each_word (words (Str s ∷ os))) (Str s) os (word_first (words (Str s ∷ os)) (operands-some (Str s) os)) refl

ids_same : (os : List Operand) → are_kinds (each_id (words os)) os ≡ all_ids os
ids_same [] = refl
ids_same (Id n ∷ os) = ids_same os
ids_same (Word n ∷ os) = refl
ids_same (Str s ∷ os) = other_first AnId (each_id (words (Str s ∷ os))) (Str s) os (id_first (words (Str s ∷ os)) (operands-some (Str s) os)) refl

no_pair : (o : Operand) (os : List Operand) → is_kind AnyWord o ≡ false → are_kinds (each_pair (words (o ∷ os))) (o ∷ os) ≡ false
no_pair o os e = let p = pair_first (words (o ∷ os)) (operands-some o os) in other_first AnyWord (each_pair (words (o ∷ os))) o os (AnId ∷ p.0, p.1) e

pairs_same : (os : List Operand) → are_kinds (each_pair (words os)) os ≡ all_pairs os
pairs_same [] = refl
pairs_same (Word n ∷ []) = refl
pairs_same (Id n ∷ []) = refl
pairs_same (Str s ∷ []) = no_pair (Str s) [] refl
pairs_same (Word n ∷ Id m ∷ os) = pairs_same os
pairs_same (Word n ∷ Word m ∷ os) = refl
pairs_same (Word n ∷ Str s ∷ os) = ap (λ ks. are_kinds ks (Word n ∷ Str s ∷ os)) (pair_cons n (string_words s ++ words os)).1
pairs_same (Id n ∷ p ∷ os) = no_pair (Id n) (p ∷ os) refl
pairs_same (Str s ∷ p ∷ os) = no_pair (Str s) (p ∷ os) refl

-- ---- decorations

is_there : Option Decoration → Bool
is_there None = false
is_there (Some d) = true

among_found : (n : ℕ) (ds : List Decoration) → is_among (map decoration_number ds) n ≡ is_there (find (is_decoration n) ds)
unfolding is_there
among_found n [] = refl
among_found n (d ∷ ds) = elim (d.number == n) as (λ b. (b || is_among (map decoration_number ds) n) ≡ is_there (cond b (Some d) (find (is_decoration n) ds))) [ true ↦ refl | false ↦ among_found n ds ]

literals_same : (o : Option Decoration) (ws : List ℕ) (os : List Operand) → (is_there o && are_kinds (literal_kinds o ws) os) ≡ are_literals o os
unfolding is_there
literals_same None ws os = refl
literals_same (Some d) ws os = refl

decoration_first : (ws : List ℕ) → HasWords ws → (ks : List Kind) × (rest_kinds ADecoration ws ≡ OneOf decoration_numbers ∷ ks)
decoration_first ws h = (literal_kinds (find (is_decoration h.first) decorations) h.others, ap (rest_kinds ADecoration) h.is)

maybe_first : (ws : List ℕ) → HasWords ws → rest_kinds MaybeWord ws ≡ AnyWord ∷ []
maybe_first ws h = ap (rest_kinds MaybeWord) h.is

rest_same : (r : Rest) (os : List Operand) → are_kinds (rest_kinds r (words os)) os ≡ fits_rest r os
rest_same End os = refl
rest_same MaybeWord [] = refl
rest_same MaybeWord (o ∷ os) = ap (λ ks. are_kinds ks (o ∷ os)) (maybe_first (words (o ∷ os)) (operands-some o os))
rest_same AnyWords os = words_same os
rest_same AnyIds os = ids_same os
rest_same AnyPairs os = pairs_same os
rest_same ADecoration [] = refl
rest_same ADecoration (Word n ∷ os) = ap (λ (b : Bool). b && are_kinds (literal_kinds (find (is_decoration n) decorations) (words os)) os) (among_found n decorations) ∙ literals_same (find (is_decoration n) decorations) (words os) os
rest_same ADecoration (Id n ∷ os) = refl
rest_same ADecoration (Str s ∷ os) = other_first (OneOf decoration_numbers) (rest_kinds ADecoration (words (Str s ∷ os))) (Str s) os (decoration_first (words (Str s ∷ os)) (operands-some (Str s) os)) refl

-- ---- the whole

kinds_same : (bound : ℕ) (ks : List Kind) (r : Rest) (os : List Operand) → AreOperands bound os → are_kinds (ks ++ rest_kinds r (behind ks (words os))) os ≡ fits ks r os
kinds_same bound [] r os h = rest_same r os
kinds_same bound (k ∷ ks) r [] h = refl
kinds_same bound (k ∷ ks) r (o ∷ os) h =
    elim (cases_Bool (is_kind k o)) [
      | inl e ↦ ap (λ ws. is_kind k o && are_kinds (ks ++ rest_kinds r (behind ks ws)) os) (behind_first bound k o os e h) ∙ ap (λ (b : Bool). is_kind k o && b) (kinds_same bound ks r os (AreOperands-others bound o os h))
      | inr e ↦ and_left (is_kind k o) _ e ∙ sym (and_left (is_kind k o) (fits ks r os) e)
    ]

pub form_same : (bound : ℕ) (r : Row) (os : List Operand) → AreOperands bound os → are_kinds (operand_kinds r (words os)) os ≡ fits (kinds_of r) r.rest os
form_same bound r os h = kinds_same bound (kinds_of r) r.rest os h
