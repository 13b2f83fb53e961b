-- Choices by a test, and what stands in a list.
use Rattle.std.proofs.Common.{◌≡◌, ℕ, zero, suc, ◌<◌, Bool, true, false, List, [], ◌∷◌, ◌++◌, length, Option, Some, None, slice_get, get_or, option_copied, Bor, refl, sym, ap, true≢false, arith}
use Rattle.std.specs.Prelude.{if◌then◌else◌, is_some, nat_lt, IfSome}
use Rattle.std.proofs.lemmas.Bool.{ltb-true, ltb-false}
use Rattle.std.proofs.lemmas.Option.{slice_get_past, slice_get_read}

pub both : {A : Type 0} (b : Bool) (x y v w : A) → x ≡ v → y ≡ w → (if b then x else y) ≡ (if b then v else w)
both true x y v w e f = e
both false x y v w e f = f

-- the choice by a test whose answer is known
pub chosen : {A : Type 0} (b c : Bool) (x y : A) → b ≡ c → (if b then x else y) ≡ (if c then x else y)
chosen b c x y e = ap (λ d. if d then x else y) e

pub not_some : {A : Type 0} (o : Option A) → is_some o ≡ false → o ≡ None
not_some None e = refl
not_some (Some x) e = absurd (true≢false e)

pub get_left : {A : Type 0} (xs ys : List A) (i : ℕ) → i < length xs → slice_get (xs ++ ys) i ≡ slice_get xs i
get_left [] ys i h = absurd (omega arith)
get_left (a ∷ xs) ys zero h = refl
get_left (a ∷ xs) ys (suc i) h = get_left xs ys i (omega arith)

pub get_last : {A : Type 0} (xs : List A) (x : A) → slice_get (xs ++ x ∷ []) (length xs) ≡ Some x
get_last [] x = refl
get_last (a ∷ xs) x = get_last xs x

-- what a slice's `get` answers
pub looked_up : {A : Type 0} (xs : List A) (i : ℕ) (r : Option (Bor A)) → is_some r ≡ nat_lt i (length xs) → IfSome r (λ x. x.now ≡ get_or xs i x.now) → option_copied r ≡ slice_get xs i
looked_up xs i None e h = sym (slice_get_past xs i (ltb-false i (length xs) (sym e)))
looked_up xs i (Some x) e h = sym (slice_get_read xs (length xs) i x.now refl (ltb-true i (length xs) (sym e)) h)
