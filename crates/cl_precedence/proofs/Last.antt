-- The last of what waits.
use Rattle.std.proofs.Common.{◌≡◌, ℕ, suc, ◌+◌, ◌-◌, ◌≤◌, ◌<◌, List, [], ◌∷◌, ◌++◌, length, take, length-append, length-take, refl, sym, ap, ◌∙◌, subst, arith}
use Rattle.std.specs.Prelude.{Option, Some, None, slice_get, MatchOption}
use Rattle.std.specs.Option.{option_to_list}
use Rattle.cl_precedence.specs.Waiting.{LeavesLoose, TakesLast}
use Rattle.cl_precedence.proofs.Standing.{same_last, no_last}

last_is : {A : Type 0} (xs : List A) (x : A) → slice_get xs (length xs - 1) ≡ Some x → (front : List A) × (xs ≡ front ++ x ∷ [])
last_is [] x e = absurd (cc)
last_is (a ∷ []) x e = ([], (let h : Some a ≡ Some x = e in cc))
last_is (a ∷ b ∷ ys) x e =
    let n : length (a ∷ b ∷ ys) - 1 ≡ suc (length (b ∷ ys) - 1) = omega arith in
    let h : slice_get (b ∷ ys) (length (b ∷ ys) - 1) ≡ Some x = subst (λ z. slice_get (a ∷ b ∷ ys) z ≡ Some x) n e in
    let r = last_is (b ∷ ys) x h in
    (a ∷ r.0, ap (λ z. a ∷ z) r.1)

pub last_read : {A : Type 0} (xs ys : List A) (o : Option A) → o ≡ slice_get xs (length xs - 1) → xs ≡ ys → slice_get ys (length ys - 1) ≡ o
last_read xs ys o e f = subst (λ z. slice_get z (length z - 1) ≡ o) f (sym e)

pub last_smaller : {Op Node : Type 0} (level : Op → ℕ) (old new : List (Node × Op)) (left : Node) (op : Op) (l : ℕ) → TakesLast level old new left op l → length new < length old
last_smaller level old new left op l k = omega (arith, ap length k.taken, length-append new ((left, op) ∷ []))

pub last_loose : {Op Node : Type 0} (level : Op → ℕ) (old : List (Node × Op)) (last : Node × Op) (l : ℕ) → slice_get old (length old - 1) ≡ Some last → level last.1 < l → LeavesLoose level old old l
last_loose level old last l e lt =
    let r = last_is old last e in
    record {
      same = refl;
      loose = record {
        loose = λ front x is.
            let both = same_last r.0 front last x (sym r.1 ∙ is) in
            subst (λ z. level z < l) (ap (λ z. z.1) both.1) lt;
      };
    }

empty_is : {A : Type 0} (xs : List A) → slice_get xs (length xs - 1) ≡ None → xs ≡ []
empty_is [] e = refl
empty_is (a ∷ []) e = absurd (let h : Some a ≡ None = e in cc)
empty_is (a ∷ b ∷ ys) e =
    let n : length (a ∷ b ∷ ys) - 1 ≡ suc (length (b ∷ ys) - 1) = omega arith in
    let h : slice_get (b ∷ ys) (length (b ∷ ys) - 1) ≡ None = subst (λ z. slice_get (a ∷ b ∷ ys) z ≡ None) n e in
    let r : b ∷ ys ≡ [] = empty_is (b ∷ ys) h in
    absurd (cc)

pub none_loose : {Op Node : Type 0} (level : Op → ℕ) (old : List (Node × Op)) (l : ℕ) → slice_get old (length old - 1) ≡ None → LeavesLoose level old old l
none_loose level old l e =
    let is = empty_is old e in
    record { same = refl; loose = record { loose = λ front x h. absurd (no_last front x (sym is ∙ h)) } }

pub last_taken : {Op Node : Type 0} (level : Op → ℕ) (old new : List (Node × Op)) (last : Node × Op) (popped : Option (Node × Op)) (l : ℕ)
    → slice_get old (length old - 1) ≡ Some last → l ≤ level last.1 → old ≡ new ++ option_to_list popped → length new + length (option_to_list popped) ≡ length old → new ≡ take (length old - 1) old
    → MatchOption popped (LeavesLoose level old new l) (λ x. TakesLast level old new x.0 x.1 l)
last_taken level old new last None l e le items len rest =
    let r = last_is old last e in
    absurd (omega (arith, ap length r.1, length-append r.0 (last ∷ []), ap length rest, length-take (length old - 1) old))
last_taken level old new last (Some x) l e le items len rest =
    let r = last_is old last e in
    let both = same_last r.0 new last x (sym r.1 ∙ items) in
    record { taken = items; binds = subst (λ z. l ≤ level z) (ap (λ z. z.1) both.1) le }
