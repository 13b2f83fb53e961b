-- One of two, by numbers; and lists with a common front.
use Rattle.std.proofs.Common.{◌≡◌, ℕ, zero, suc, inl, inr, List, [], ◌∷◌, ◌++◌, refl, sym, ap, ◌∙◌, subst}
use Rattle.std.proofs.lemmas.Bool.{cases_eq}
use Rattle.clv_worlds.specs.Worlds.{pick}

pub pick_same : {A : Type 0} (i : ℕ) (x y : A) → pick i i x y ≡ x
pick_same zero x y = refl
pick_same (suc i) x y = pick_same i x y

pub pick_other : {A : Type 0} (i j : ℕ) (x y : A) → (i ≡ j → ⊥) → pick i j x y ≡ y
pick_other zero zero x y h = absurd (h refl)
pick_other zero (suc j) x y h = refl
pick_other (suc i) zero x y h = refl
pick_other (suc i) (suc j) x y h = pick_other i j x y (λ e. h (ap suc e))

pick_equal : {A : Type 0} (i j : ℕ) (x y : A) → i ≡ j → pick i j x y ≡ x
pick_equal i j x y e = ap (λ k. pick i k x y) (sym e) ∙ pick_same i x y

-- what holds of either holds of the one that is picked
pub pick_either : {A : Type 0} (P : A → Type 0) (i j : ℕ) (x y : A) → (i ≡ j → P x) → ((i ≡ j → ⊥) → P y) → P (pick i j x y)
pick_either P i j x y here there = elim (cases_eq i j) [
  | inl e ↦ subst P (sym (pick_equal i j x y e)) (here e)
  | inr other ↦ subst P (sym (pick_other i j x y other)) (there other)
]

-- the same of two picked side by side
pub pick_pairs : {A B : Type 0} (P : A → B → Type 0) (i j : ℕ) (x y : A) (z w : B) → (i ≡ j → P x z) → ((i ≡ j → ⊥) → P y w) → P (pick i j x y) (pick i j z w)
pick_pairs P i j x y z w here there = elim (cases_eq i j) [
  | inl e ↦ subst (λ a. P a (pick i j z w)) (sym (pick_equal i j x y e)) (subst (P x) (sym (pick_equal i j z w e)) (here e))
  | inr other ↦ subst (λ a. P a (pick i j z w)) (sym (pick_other i j x y other)) (subst (P y) (sym (pick_other i j z w other)) (there other))
]

-- the list is empty behind a list of the same length
pub none_behind : {A : Type 0} (xs ys zs : List A) → xs ≡ xs ++ (ys ++ zs) → ys ≡ []
none_behind [] [] zs e = refl
none_behind [] (y ∷ ys) zs e = cc
none_behind (x ∷ xs) ys zs e = none_behind xs ys zs (let f : x ∷ xs ≡ x ∷ (xs ++ (ys ++ zs)) = e in cc)

pub front_behind : {A : Type 0} (xs ys zs : List A) → xs ++ ys ≡ xs ++ zs → ys ≡ zs
front_behind [] ys zs e = e
front_behind (x ∷ xs) ys zs e = front_behind xs ys zs (let f : x ∷ (xs ++ ys) ≡ x ∷ (xs ++ zs) = e in cc)
