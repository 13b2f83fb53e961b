-- The first place of a list that passes a test.
use Rattle.std.proofs.Common.{◌≡◌, ℕ, suc, ◌+◌, ◌≤◌, Bool, true, false, not, ◌||◌, cond, eqb, ltb, Option, Some, None, unwrap_or, List, [], ◌∷◌, ◌++◌, length, refl, sym, ap, ◌∙◌, eq-eqb, add-zero, inl, inr, arith}
use Rattle.std.specs.List.{list_any, position_or_len}
use Rattle.std.proofs.lemmas.Bool.{ltb-false}
use Rattle.std.proofs.lemmas.Bool.Decides.{eqb_tells}
use Rattle.std.proofs.lemmas.List.Folds.{position_or_len_push}
use Rattle.std.proofs.lemmas.List.Sums.{prefix_len-le-length}

chosen_place : (p n : ℕ) (b : Bool) → (b ≡ false → p ≡ n) → unwrap_or (cond b (Some p) None) n ≡ p
chosen_place p n true _ = refl
chosen_place p n false past = sym (past refl)

-- an index that was found, or the length
pub place_found : {A : Type 0} (test : A → Bool) (xs : List A) (r : Option ℕ) (n : ℕ) → n ≡ length xs → r ≡ cond (ltb (position_or_len test xs) (length xs)) (Some (position_or_len test xs)) None → unwrap_or r n ≡ position_or_len test xs
place_found test xs r n e found =
    let p = position_or_len test xs in
    let within = prefix_len-le-length (λ x. not (test x)) xs in
    let past : ltb p (length xs) ≡ false → p ≡ length xs = λ q. (let over : length xs ≤ p = ltb-false p (length xs) q in omega (arith, over, within)) in
    ap (λ o. unwrap_or o n) found ∙ ap (λ k. unwrap_or (cond (ltb p (length xs)) (Some p) None) k) e ∙ chosen_place p (length xs) (ltb p (length xs)) past

none_here : (b : Bool) (n m : ℕ) (r : Bool) → (n ≡ m → r ≡ false) → cond (not b) (1 + n) 0 ≡ suc m → (b || r) ≡ false
none_here true n m r none h = absurd (omega arith)
none_here false n m r none h = none (omega arith)

some_here : (b : Bool) (n m : ℕ) (r : Bool) → ((n ≡ m → ⊥) → r ≡ true) → (cond (not b) (1 + n) 0 ≡ suc m → ⊥) → (b || r) ≡ true
some_here true n m r some h = refl
some_here false n m r some h = some (λ e. h (omega arith))

-- the length is the place of what isn't there
pub none_passes : {A : Type 0} (test : A → Bool) (xs : List A) → position_or_len test xs ≡ length xs → list_any test xs ≡ false
none_passes test [] h = refl
none_passes test (x ∷ xs) h = none_here (test x) (position_or_len test xs) (length xs) (list_any test xs) (none_passes test xs) h

pub some_passes : {A : Type 0} (test : A → Bool) (xs : List A) → (position_or_len test xs ≡ length xs → ⊥) → list_any test xs ≡ true
some_passes test [] h = absurd (h refl)
some_passes test (x ∷ xs) h = some_here (test x) (position_or_len test xs) (length xs) (list_any test xs) (some_passes test xs) h

pub place_of_new : {A : Type 0} (test : A → Bool) (xs : List A) (x : A) → test x ≡ true → position_or_len test xs ≡ length xs → position_or_len test (xs ++ x ∷ []) ≡ length xs
place_of_new test xs x passes none =
    let pushed = position_or_len_push test xs x in
    let same : eqb (position_or_len test xs) (length xs) ≡ true = eq-eqb _ _ none in
    pushed ∙ rw (same, passes) (add-zero (length xs))

none_place : (b : Bool) (n m : ℕ) (r : Bool) → (r ≡ false → n ≡ m) → (b || r) ≡ false → cond (not b) (1 + n) 0 ≡ suc m
none_place true n m r place h = cc
none_place false n m r place h = let e = place h in omega arith

pub place_of_none : {A : Type 0} (test : A → Bool) (xs : List A) → list_any test xs ≡ false → position_or_len test xs ≡ length xs
place_of_none test [] h = refl
place_of_none test (x ∷ xs) h = none_place (test x) (position_or_len test xs) (length xs) (list_any test xs) (place_of_none test xs) h

other_number : (a b : ℕ) → (a ≡ b → ⊥) → eqb a b ≡ false
other_number a b h = elim (eqb_tells a b) [ inl p ↦ absurd (h p.1) | inr p ↦ p.0 ]

-- what is there keeps its place
pub place_kept : {A : Type 0} (test : A → Bool) (xs : List A) (x : A) → list_any test xs ≡ true → position_or_len test (xs ++ x ∷ []) ≡ position_or_len test xs
place_kept test xs x some =
    let other : eqb (position_or_len test xs) (length xs) ≡ false = other_number _ _ (λ e. (let none = none_passes test xs e in let both : true ≡ false = sym some ∙ none in cc)) in
    position_or_len_push test xs x ∙ rw other refl
