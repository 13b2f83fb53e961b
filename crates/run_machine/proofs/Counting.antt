-- Numbers of cells, as far as 64 bits hold them.
use Rattle.std.proofs.Common.{◌≡◌, ℕ, zero, suc, ◌+◌, ◌-◌, ◌*◌, ◌<◌, ◌≤◌, ◌⊎◌, inl, inr, Bool, true, false, max, List, [], ◌∷◌, refl, sym, ap, ◌∙◌, length, get_or, take, drop, arith}
use Rattle.std.proofs.lemmas.Bool.{cases_lt}
use Rattle.std.proofs.lemmas.List.{take_all}
use Rattle.spv_module.specs.declared.module.Inst.{Inst}
use Rattle.spv_module.specs.Instructions.{Said, said, definition_in}
use Rattle.spv_meaning.specs.Cells.{scalars_by, scalars_within, greatest_block, result_cells, is_label}
use Rattle.run_machine.specs.Capped.{capped}

-- ---- sums

pub sum_begun : (n total : ℕ) → n ≡ total → capped (0 + n) ≡ capped total
sum_begun n total e = ap capped (let f : 0 + n ≡ total = omega (arith, e) in f)

pub sum_more : (s x rest total r new : ℕ) → r ≡ capped x → new ≡ capped (s + r) → capped (s + (x + rest)) ≡ total → capped (new + rest) ≡ total
sum_more s x rest total r new e f g = omega (arith, e, f, g)

pub sum_all : (s total : ℕ) → s ≤ 18446744073709551615 → capped (s + 0) ≡ capped total → s ≡ capped total
sum_all s total h e = omega (arith, h, e)

pub sum_capped : (a b x y : ℕ) → a ≡ capped x → b ≡ capped y → capped (a + b) ≡ capped (x + y)
sum_capped a b x y e f = omega (arith, e, f)

pub capped_low : (r x : ℕ) → r ≡ capped x → r ≤ 18446744073709551615
capped_low r x e = omega (arith, e)

-- ---- products

mul_grown : (n c : ℕ) → c ≤ suc n * c
mul_grown n c = let h : suc n * c ≡ n * c + c = omega arith in omega (arith, h)

product_by : (n c : ℕ) → ((18446744073709551615 < c) ⊎ (c ≤ 18446744073709551615)) → capped (n * capped c) ≡ capped (n * c)
product_by n c (inr low) = let e : capped c ≡ c = omega (arith, low) in ap (λ k. capped (n * k)) e
product_by zero c (inl high) = ap capped (let e : 0 * capped c ≡ 0 * c = omega arith in e)
product_by (suc n) c (inl high) =
    let e : capped c ≡ 18446744073709551615 = omega (arith, high) in
    let a = mul_grown n 18446744073709551615 in
    let b = mul_grown n c in
    ap (λ k. capped (suc n * k)) e ∙ (let f : capped (suc n * 18446744073709551615) ≡ capped (suc n * c) = omega (arith, a, b, high) in f)

pub product_capped : (n c r : ℕ) → r ≡ capped c → capped (n * r) ≡ capped (n * c)
product_capped n c r e = ap (λ k. capped (n * k)) e ∙ product_by n c (cases_lt 18446744073709551615 c)

-- ---- types

pub within_none : (depth : ℕ) (body : List Inst) (t : ℕ) → depth ≡ 0 → scalars_within depth body t ≡ 0
within_none zero body t e = refl
within_none (suc depth) body t e = absurd (omega (arith, e))

pub within_step : (depth : ℕ) (body : List Inst) (t : ℕ) → (depth ≡ 0 → ⊥) → scalars_within depth body t ≡ scalars_by (scalars_within (depth - 1) body) (definition_in body t)
within_step zero body t h = absurd (h refl)
within_step (suc depth) body t h = ap (λ d. scalars_by (scalars_within d body) (definition_in body t)) (let e : depth ≡ suc depth - 1 = omega arith in e)

-- ---- blocks

abbrev Alike : List Inst → List Inst → Type 0
Alike body is = (m n : ℕ) → capped m ≡ capped n → capped (greatest_block body m is) ≡ capped (greatest_block body n is)

alike_by : (body : List Inst) (i : Inst) (is : List Inst) (b : Bool) → is_label (said i) ≡ b → Alike body is → Alike body (i ∷ is)
alike_by body i is true e h m n f = rw e (let g : capped (max m (greatest_block body 0 is)) ≡ capped (max n (greatest_block body 0 is)) = omega (arith, f) in g)
alike_by body i is false e h m n f = rw e (h (m + result_cells body (said i)) (n + result_cells body (said i)) (omega (arith, f)))

blocks_alike : (body is : List Inst) → Alike body is
blocks_alike body [] m n e = e
blocks_alike body (i ∷ is) m n e = alike_by body i is (is_label (said i)) refl (blocks_alike body is) m n e

pub block_label : (body : List Inst) (best made total new : ℕ) (i : Inst) (is : List Inst) → is_label (said i) ≡ true → new ≡ max best made → capped (max best (greatest_block body made (i ∷ is))) ≡ total → capped (max new (greatest_block body 0 is)) ≡ total
block_label body best made total new i is e f g = let h : capped (max best (max made (greatest_block body 0 is))) ≡ total = rw e at g in omega (arith, f, h)

block_more : (body : List Inst) (best made total r new : ℕ) (i : Inst) (is : List Inst) → is_label (said i) ≡ false → r ≡ capped (result_cells body (said i)) → new ≡ capped (made + r) → capped (max best (greatest_block body made (i ∷ is))) ≡ total → capped (max best (greatest_block body new is)) ≡ total
block_more body best made total r new i is e f g h =
    let a : capped (max best (greatest_block body (made + result_cells body (said i)) is)) ≡ total = rw e at h in
    let b = blocks_alike body is new (made + result_cells body (said i)) (omega (arith, f, g)) in
    omega (arith, a, b)

pub block_step : (body : List Inst) (best made total r new : ℕ) (x : Said) (item : Inst) (rest : List Inst) → 1 ≤ length rest → item ≡ get_or rest 0 item → x ≡ said item → is_label x ≡ false → r ≡ capped (result_cells body x) → new ≡ capped (made + r) → capped (max best (greatest_block body made rest)) ≡ total → capped (max best (greatest_block body new (take (length rest - 1) (drop 1 rest)))) ≡ total
block_step body best made total r new x item [] low same e f g h k = absurd (omega (arith, low))
block_step body best made total r new x item (i ∷ is) low same e f g h k =
    let q : x ≡ said i = e ∙ ap said same in
    let t : take (length (i ∷ is) - 1) is ≡ is = take_all _ is (omega arith) in
    rw t (block_more body best made total r new i is (sym (ap is_label q) ∙ f) (g ∙ ap (λ y. capped (result_cells body y)) q) h k)

pub block_all : (best made : ℕ) (total r : ℕ) → best ≤ 18446744073709551615 → made ≤ 18446744073709551615 → r ≡ max best made → capped (max best made) ≡ capped total → r ≡ capped total
block_all best made total r h k e f = omega (arith, h, k, e, f)

pub ruleset products = (product_capped)

pub ruleset counting = (sum_all, within_none, within_step)

pub ruleset blocks = (block_all)

pub ruleset sums = (sum_capped, product_capped)

-- ---- the limit

pub limit_kept : (need cells : ℕ) → need ≡ capped cells → (16777216 < need → ⊥) → cells ≤ 16777216
limit_kept need cells e h = omega (arith, e, h)

pub limit_passed : (need cells : ℕ) → need ≡ capped cells → 16777216 < need → 16777216 < cells
limit_passed need cells e h = omega (arith, e, h)

pub ruleset limits = (limit_kept, limit_passed)
