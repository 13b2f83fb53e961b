-- A loop that takes the items of a list and puts out what each comes to.
use Rattle.std.proofs.Common.{◌≡◌, ℕ, ◌+◌, List, [], ◌∷◌, ◌++◌, length, map, refl, sym, ap, ◌∙◌, arith, append_assoc}
use Rattle.std.proofs.lemmas.List.{append-nil}

-- what came out so far, and what the items that are left come to
pub record IsMapped {A B : Type 0} (f : A → B) (whole left : List A) (count : ℕ) (all : List B) : Type 0 where
  pub comes : all ++ map f left ≡ map f whole
  pub counted : count ≡ length left

pub mapped_start : {A B : Type 0} (f : A → B) (whole inside left : List A) (count n : ℕ) (all : List B) → left ≡ inside → inside ≡ whole → count ≡ n → n ≡ length inside → all ≡ [] → IsMapped f whole left count all
mapped_start f whole inside left count n all e w m l none = record {
  comes = ap (λ z. z ++ map f left) none ∙ ap (map f) (e ∙ w);
  counted = m ∙ l ∙ ap length (sym e);
}

pub mapped_more : {A B : Type 0} (f : A → B) (whole left rest : List A) (count n : ℕ) (all more : List B) (x : A) (y : B) → IsMapped f whole left count all → left ≡ x ∷ rest → n + 1 ≡ count → y ≡ f x → more ≡ all ++ y ∷ [] → IsMapped f whole rest n more
mapped_more f whole left rest count n all more x y h e m is put = record {
  comes = ap (λ z. z ++ map f rest) (put ∙ ap (λ z. all ++ z ∷ []) is) ∙ append_assoc all (f x ∷ []) (map f rest) ∙ ap (λ z. all ++ map f z) (sym e) ∙ h.comes;
  counted = let c = h.counted in omega (arith, c, m, ap length e);
}

none_left : {A : Type 0} (xs : List A) → 0 ≡ length xs → xs ≡ []
none_left [] e = refl
none_left (x ∷ xs) e = absurd (omega arith)

pub mapped_all : {A B : Type 0} (f : A → B) (whole left : List A) (count : ℕ) (all : List B) → IsMapped f whole left count all → count ≡ 0 → all ≡ map f whole
mapped_all f whole left count all h done = sym (append-nil all) ∙ ap (λ z. all ++ map f z) (sym (none_left left (sym done ∙ h.counted))) ∙ h.comes
