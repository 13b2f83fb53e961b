-- A loop over a list: what is left makes the whole.
use Rattle.std.proofs.Common.{◌≡◌, ℕ, zero, suc, ◌+◌, ◌<◌, ◌≤◌, List, [], ◌∷◌, ◌++◌, length, drop, get_or, refl, sym, ap, ◌∙◌, subst, arith, append_assoc, add-one}
use Rattle.std.proofs.lemmas.List.{append-nil}
use Rattle.std.proofs.Math.Seq.{drop-cons}
use Rattle.clv_place.specs.declared.stop.Offence.{Offence}
use Rattle.cl_types.specs.declared.types.ClType.{ClType}
use Rattle.cl_types.specs.Table.{IsTable}
use Rattle.cl_builtins.proofs.Growth.{grown_twice}
use Rattle.cl_make.specs.Ready.{From, Grows}
use Rattle.cl_make.proofs.Growing.{grows_twice, grows_itself}

pub dropped : {A : Type 0} (xs : List A) (i : ℕ) (x : A) → i < length xs → x ≡ get_or xs i x → drop i xs ≡ x ∷ drop (i + 1) xs
dropped xs i x low is = drop-cons xs i x low ∙ sym (ap (λ z. z ∷ drop (suc i) xs) is) ∙ ap (λ n. x ∷ drop n xs) (sym (add-one i))

pub dropped_all : {A : Type 0} (xs : List A) (i : ℕ) → length xs ≤ i → drop i xs ≡ []
dropped_all [] zero h = refl
dropped_all [] (suc i) h = refl
dropped_all (x ∷ xs) zero h = absurd (omega arith)
dropped_all (x ∷ xs) (suc i) h = dropped_all xs i (omega arith)

-- The state from which the rest goes on, and what came out so far. `Goes` says what a list comes to, `Stops` its first offence.
pub record SoFar {S A B : Type 0} (Goes : List ClType → S → List A → S → List B → Type 0) (Stops : List ClType → S → List A → Offence → Type 0) (first now : List ClType) (start : S) (xs : List A) (i : ℕ) (here : S) (ys : List B) : Type 0 where
  pub goes : From now (λ more. (after : S) (us : List B) → Goes more here (drop i xs) after us → Goes more start xs after (ys ++ us))
  pub stops : From now (λ more. (o : Offence) → Stops more here (drop i xs) o → Stops more start xs o)
  pub grown : Grows first now

module _ {S A B : Type 0} (Goes : List ClType → S → List A → S → List B → Type 0) (Stops : List ClType → S → List A → Offence → Type 0) where
  pub so_far_start : (cs : List ClType) (start : S) (xs : List A) (ys : List B) → ys ≡ [] → IsTable cs → SoFar Goes Stops cs cs start xs 0 start ys
  so_far_start cs start xs ys none b = record {
    goes = λ more m after us h. subst (λ z. Goes more start xs after (z ++ us)) (sym none) h;
    stops = λ more m o h. h;
    grown = grows_itself cs b;
  }

  module _ (first now new : List ClType) (start here : S) (xs : List A) (i : ℕ) (ys : List B) (x : A) (h : SoFar Goes Stops first now start xs i here ys) (low : i < length xs) (is : x ≡ get_or xs i x) (g : Grows now new) where
    pub so_far_next : (there : S) (zs all : List B) → all ≡ ys ++ zs
        → From new (λ more. (after : S) (us : List B) → Goes more there (drop (i + 1) xs) after us → Goes more here (x ∷ drop (i + 1) xs) after (zs ++ us))
        → From new (λ more. (o : Offence) → Stops more there (drop (i + 1) xs) o → Stops more here (x ∷ drop (i + 1) xs) o)
        → SoFar Goes Stops first new start xs (i + 1) there all
    so_far_next there zs all added goes stops = record {
      goes = λ more m after us rest.
          subst (Goes more start xs after) (sym (append_assoc ys zs us) ∙ ap (λ z. z ++ us) (sym added))
          (h.goes more (grown_twice now new more g.grown m) after (zs ++ us)
          (subst (λ z. Goes more here z after (zs ++ us)) (sym (dropped xs i x low is)) (goes more m after us rest)));
      stops = λ more m o rest. h.stops more (grown_twice now new more g.grown m) o
          (subst (λ z. Stops more here z o) (sym (dropped xs i x low is)) (stops more m o rest));
      grown = grows_twice first now new h.grown g;
    }

    pub so_far_stop : (o : Offence) → From new (λ more. Stops more here (x ∷ drop (i + 1) xs) o) → From new (λ more. Stops more start xs o)
    so_far_stop o stops = λ more m. h.stops more (grown_twice now new more g.grown m) o (subst (λ z. Stops more here z o) (sym (dropped xs i x low is)) (stops more m))

  pub so_far_end : (first now : List ClType) (start here : S) (xs : List A) (i : ℕ) (ys : List B) → SoFar Goes Stops first now start xs i here ys → length xs ≤ i → From now (λ more. Goes more here [] here []) → From now (λ more. Goes more start xs here ys)
  so_far_end first now start here xs i ys h done nil = λ more m. subst (Goes more start xs here) (append-nil ys) (h.goes more m here [] (subst (λ z. Goes more here z here []) (sym (dropped_all xs i done)) (nil more m)))
