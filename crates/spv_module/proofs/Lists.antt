-- Operands that are as many as a list is long: their form, and what they hold.
use Rattle.std.proofs.Common.{◌≡◌, ℕ, true, List, [], ◌∷◌, map, refl, ap}
use Rattle.std.specs.List.{flat_map}
use Rattle.spv_module.specs.declared.module.Operand.{Operand}
use Rattle.spv_module.specs.declared.module.Operand.TheVariants.{Id, Word}
use Rattle.spv_module.specs.Grammar.{all_ids, all_words, all_pairs}
use Rattle.spv_module.specs.Words.{operand_words, operand_ids, operand_numbers, operand_texts}

-- ---- ids

pub all_ids-map : (ns : List ℕ) → all_ids (map Id ns) ≡ true
all_ids-map [] = refl
all_ids-map (n ∷ ns) = all_ids-map ns

pub words-map_Id : (ns : List ℕ) → flat_map operand_words (map Id ns) ≡ ns
words-map_Id [] = refl
words-map_Id (n ∷ ns) = ap (λ ms. n ∷ ms) (words-map_Id ns)

pub ids-map_Id : (ns : List ℕ) → flat_map operand_ids (map Id ns) ≡ ns
ids-map_Id [] = refl
ids-map_Id (n ∷ ns) = ap (λ ms. n ∷ ms) (ids-map_Id ns)

pub numbers-map_Id : (ns : List ℕ) → flat_map operand_numbers (map Id ns) ≡ []
numbers-map_Id [] = refl
numbers-map_Id (n ∷ ns) = numbers-map_Id ns

pub texts-map_Id : (ns : List ℕ) → flat_map operand_texts (map Id ns) ≡ []
texts-map_Id [] = refl
texts-map_Id (n ∷ ns) = texts-map_Id ns

-- ---- literal words

pub all_words-map : (ns : List ℕ) → all_words (map Word ns) ≡ true
all_words-map [] = refl
all_words-map (n ∷ ns) = all_words-map ns

pub words-map_Word : (ns : List ℕ) → flat_map operand_words (map Word ns) ≡ ns
words-map_Word [] = refl
words-map_Word (n ∷ ns) = ap (λ ms. n ∷ ms) (words-map_Word ns)

pub ids-map_Word : (ns : List ℕ) → flat_map operand_ids (map Word ns) ≡ []
ids-map_Word [] = refl
ids-map_Word (n ∷ ns) = ids-map_Word ns

pub numbers-map_Word : (ns : List ℕ) → flat_map operand_numbers (map Word ns) ≡ ns
numbers-map_Word [] = refl
numbers-map_Word (n ∷ ns) = ap (λ ms. n ∷ ms) (numbers-map_Word ns)

pub texts-map_Word : (ns : List ℕ) → flat_map operand_texts (map Word ns) ≡ []
texts-map_Word [] = refl
texts-map_Word (n ∷ ns) = texts-map_Word ns

-- ---- the cases of a switch

-- a literal word and the id of a target
abbrev pub pair_of : ℕ × ℕ → List Operand
pair_of p = Word p.0 ∷ Id p.1 ∷ []

pub all_pairs-flat_map : (ps : List (ℕ × ℕ)) → all_pairs (flat_map pair_of ps) ≡ true
all_pairs-flat_map [] = refl
all_pairs-flat_map (p ∷ ps) = all_pairs-flat_map ps
