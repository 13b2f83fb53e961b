-- Operands by their kinds: how many words they take.
use Rattle.std.proofs.Common.{◌≡◌, ℕ, ◌%◌, ◌<◌, ◌≤◌, true, false, List, [], ◌∷◌, ◌++◌, length, map, drop, zero, suc, Option, None, Some, refl, sym, ap, ◌∙◌, arith}
use Rattle.std.specs.Prelude.{if◌then◌else◌, ◌==◌, nat_le}
use Rattle.std.proofs.lemmas.Bool.{eqb-true}
use Rattle.std.proofs.lemmas.Bool.Decides.{nat_tests}
use Rattle.spv_module.specs.Grammar.{Kind, AnId, AnyWord, OneOf, AText}
use Rattle.spv_binary.specs.declared.kind.Kind.{Kind as CodeKind}
use Rattle.spv_binary.specs.declared.shape.Shape.{Shape}
use Rattle.spv_binary.specs.declared.shape.Tail.{Tail}
use Rattle.spv_binary.specs.declared.shape.Tail.TheVariants as tail
use Rattle.spv_binary.specs.Faults.{has_zero, string_len, width, behind, each_word, each_id, each_pair, fills}
use Rattle.spv_binary.specs.Kinds.{kind_of, behind_all, tail_fits, tail_kinds, fixed_kinds, shape_kinds}

-- ---- tests

pub not_zero : (n : ℕ) → (suc n == 0) ≡ true → ⊥
not_zero n e = let h : suc n ≡ 0 = eqb-true _ _ e in omega arith

more_than_none : (n : ℕ) → false ≡ (suc n == 0)
more_than_none n = grind (arith, nat_tests)

more_than_one : (n : ℕ) → false ≡ (suc (suc n) == 1)
more_than_one n = grind (arith, nat_tests)

over_one : (n : ℕ) → false ≡ nat_le (suc (suc n)) 1
over_one n = grind (arith, nat_tests)

-- ---- the width of an operand

len-bounds : (w : ℕ) (ws : List ℕ) → (1 ≤ string_len (w ∷ ws)) × (string_len (w ∷ ws) ≤ suc (length ws))
len-bounds w [] = elim (has_zero w) as (λ b. (1 ≤ (if b then 1 else 1)) × ((if b then 1 else 1) ≤ 1)) [ true ↦ (omega arith, omega arith) | false ↦ (omega arith, omega arith) ]
len-bounds w (v ∷ ws) =
    let h = len-bounds v ws in
    elim (has_zero w) as (λ b. (1 ≤ (if b then 1 else suc (string_len (v ∷ ws)))) × ((if b then 1 else suc (string_len (v ∷ ws))) ≤ suc (suc (length ws)))) [ true ↦ (omega arith, omega arith) | false ↦ (omega arith, omega (arith, h.1)) ]

pub width-bounds : (k : Kind) (w : ℕ) (ws : List ℕ) → (1 ≤ width k (w ∷ ws)) × (width k (w ∷ ws) ≤ suc (length ws))
width-bounds AnId w ws = (omega arith, omega arith)
width-bounds AnyWord w ws = (omega arith, omega arith)
width-bounds (OneOf ns) w ws = (omega arith, omega arith)
width-bounds AText w ws = len-bounds w ws

pub width_within : (k : Kind) (ws : List ℕ) → (length ws == 0) ≡ false → width k ws ≤ length ws
width_within k [] h = absurd (cc)
width_within k (w ∷ ws) h = (width-bounds k w ws).1

-- ---- words behind operands

pub too_few : (kinds : List CodeKind) (i : ℕ) (rest : List ℕ) (all : Option (List ℕ)) → i < length kinds → (length rest == 0) ≡ true → behind_all (map kind_of (drop i kinds)) rest ≡ all → None ≡ all
too_few [] i rest all h e so_far = absurd (omega arith)
too_few (k ∷ ks) zero [] all h e so_far = so_far
too_few (k ∷ ks) zero (w ∷ ws) all h e so_far = absurd (not_zero (length ws) e)
too_few (k ∷ ks) (suc i) rest all h e so_far = too_few ks i rest all (omega arith) e so_far

pub ruleset behind_steps = (width_within, too_few)

-- ---- whether operands take words

pub fills-behind : (ks ms : List Kind) (ws rest : List ℕ) → Some rest ≡ behind_all ks ws → (behind ks ws ≡ rest) × (fills (ks ++ ms) ws ≡ fills ms rest)
fills-behind [] ms ws rest e = let same : ws ≡ rest = cc in (same, ap (fills ms) same)
fills-behind (k ∷ ks) ms [] rest e = absurd cc
fills-behind (k ∷ ks) ms (w ∷ ws) rest e = fills-behind ks ms (drop (width k (w ∷ ws)) (w ∷ ws)) rest e

pub fills-too_few : (ks ms : List Kind) (ws : List ℕ) → None ≡ behind_all ks ws → fills (ks ++ ms) ws ≡ false
fills-too_few [] ms ws e = absurd cc
fills-too_few (k ∷ ks) ms [] e = refl
fills-too_few (k ∷ ks) ms (w ∷ ws) e = fills-too_few ks ms (drop (width k (w ∷ ws)) (w ∷ ws)) e

fills-each_word : (ws : List ℕ) → fills (each_word ws) ws ≡ true
fills-each_word [] = refl
fills-each_word (w ∷ ws) = fills-each_word ws

fills-each_id : (ws : List ℕ) → fills (each_id ws) ws ≡ true
fills-each_id [] = refl
fills-each_id (w ∷ ws) = fills-each_id ws

fills-each_pair : (ws : List ℕ) → fills (each_pair ws) ws ≡ (length ws % 2 == 0)
fills-each_pair [] = refl
fills-each_pair (w ∷ []) = refl
fills-each_pair (w ∷ v ∷ ws) = let same : suc (suc (length ws)) % 2 ≡ length ws % 2 = omega arith in fills-each_pair ws ∙ ap (λ n. n == 0) (sym same)

pub fills-tail : (t : Tail) (ws : List ℕ) → fills (tail_kinds t ws) ws ≡ tail_fits t (length ws)
fills-tail tail.Nothing [] = refl
fills-tail tail.Nothing (w ∷ ws) = more_than_none (length ws)
fills-tail tail.MaybeWord [] = refl
fills-tail tail.MaybeWord (w ∷ []) = refl
fills-tail tail.MaybeWord (w ∷ v ∷ ws) = over_one (length ws)
fills-tail tail.OneWord [] = refl
fills-tail tail.OneWord (w ∷ []) = refl
fills-tail tail.OneWord (w ∷ v ∷ ws) = more_than_one (length ws)
fills-tail (tail.OneOf s) [] = refl
fills-tail (tail.OneOf s) (w ∷ []) = refl
fills-tail (tail.OneOf s) (w ∷ v ∷ ws) = more_than_one (length ws)
fills-tail tail.Words ws = fills-each_word ws
fills-tail tail.Ids ws = fills-each_id ws
fills-tail tail.Pairs ws = fills-each_pair ws

pub shape_fits : (s : Shape) (ws rest : List ℕ) → Some rest ≡ behind_all (fixed_kinds s) ws → fills (shape_kinds s ws) ws ≡ tail_fits s.tail (length rest)
shape_fits s ws rest e =
    let h = fills-behind (fixed_kinds s) (tail_kinds s.tail (behind (fixed_kinds s) ws)) ws rest e in
    h.1 ∙ ap (λ vs. fills (tail_kinds s.tail vs) rest) h.0 ∙ fills-tail s.tail rest

pub shape_misfits : (s : Shape) (ws : List ℕ) → None ≡ behind_all (fixed_kinds s) ws → fills (shape_kinds s ws) ws ≡ false
shape_misfits s ws e = fills-too_few (fixed_kinds s) (tail_kinds s.tail (behind (fixed_kinds s) ws)) ws e

pub ruleset fits_steps = (shape_fits, shape_misfits)
