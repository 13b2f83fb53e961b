-- Steps of items, and their sums.
use Rattle.std.proofs.Common.{◌≡◌, ℕ, zero, suc, ◌+◌, ◌*◌, ◌<◌, ◌≤◌, inl, inr, List, [], ◌∷◌, ◌++◌, refl, sym, ap, ◌∙◌, arith}
use Rattle.std.proofs.lemmas.Bool.{cases_eq}
use Rattle.clv_steps.specs.Machines.{after}
use Rattle.clv_steps.proofs.Append.{paid_append}
use Rattle.clv_worlds.specs.Worlds.{with_item, Program, item_steps, steps_of}
use Rattle.clv_worlds.proofs.Picks.{pick_same, pick_other}

-- at first none are made
pub no_steps : {S E F : Type 0} (p : Program S E F) (n : ℕ) → 0 ≡ steps_of p n (λ i. [])
no_steps p zero = refl
no_steps p (suc n) = let e = no_steps p n in omega (arith, e)

module _ {S E F : Type 0} (p : Program S E F) (i : ℕ) (h : List ℕ) (hs : ℕ → List ℕ) where
  -- another history of one item changes the sum by its own steps alone
  sum_above : (n : ℕ) → n ≤ i → steps_of p n (with_item i h hs) ≡ steps_of p n hs
  sum_above zero le = refl
  sum_above (suc n) le =
      let a = sum_above n (omega (arith, le)) in
      let b : item_steps p n (with_item i h hs n) ≡ item_steps p n (hs n) = ap (item_steps p n) (pick_other i n h (hs n) (λ e. omega (arith, e, le))) in
      omega (arith, a, b)

  pub sum_below : (n : ℕ) → i < n → steps_of p n (with_item i h hs) + item_steps p i (hs i) ≡ steps_of p n hs + item_steps p i h
  sum_below zero lt = absurd (omega (arith, lt))
  sum_below (suc n) lt = elim (cases_eq i n) [
    | inl e ↦ (
        let a = sum_above n (omega (arith, e)) in
        let b : item_steps p n (with_item i h hs n) ≡ item_steps p i h = ap (λ k. item_steps p k (with_item i h hs k)) (sym e) ∙ ap (item_steps p i) (pick_same i h (hs i)) in
        let d : item_steps p i (hs i) ≡ item_steps p n (hs n) = ap (λ k. item_steps p k (hs k)) e in
        omega (arith, a, b, d))
    | inr other ↦ (
        let a = sum_below n (omega (arith, lt, other)) in
        let b : item_steps p n (with_item i h hs n) ≡ item_steps p n (hs n) = ap (item_steps p n) (pick_other i n h (hs n) other) in
        omega (arith, a, b))
  ]

-- one more move of an item adds what it weighs
pub one_more : {S E F : Type 0} (p : Program S E F) (i x n : ℕ) (hs : ℕ → List ℕ) → i < n → steps_of p n (with_item i (hs i ++ x ∷ []) hs) ≡ steps_of p n hs + p.weight (after (p.machine i) (hs i) (p.start i))
one_more p i x n hs lt =
    let a = sum_below p i (hs i ++ x ∷ []) hs n lt in
    let b = paid_append (p.machine i) p.weight (hs i) (x ∷ []) (p.start i) in
    omega (arith, a, b)

-- what holds of each item's steps holds of their sums
pub sums : {S T E D F G : Type 0} (a : Program S E F) (b : Program T D G) (worth n : ℕ) (gs hs : ℕ → List ℕ) → ((i : ℕ) → i < n → item_steps b i (hs i) ≤ worth * item_steps a i (gs i)) → steps_of b n hs ≤ worth * steps_of a n gs
sums a b worth zero gs hs each = omega arith
sums a b worth (suc n) gs hs each =
    let rest = sums a b worth n gs hs (λ i low. each i (omega (arith, low))) in
    let last = each n (omega arith) in
    omega (arith, rest, last)
