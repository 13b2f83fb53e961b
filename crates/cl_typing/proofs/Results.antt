-- Results that a call hands on.
use Rattle.std.proofs.Common.{◌≡◌, Option, Some, None, Result, Ok, Err, refl, sym, ap, ◌∙◌, subst}
use Rattle.std.specs.Prelude.{IfOk, IfErr, OnOk, IsErrAnd}
use Rattle.std.proofs.lemmas.Result.{err_from_is_err_and}
use Rattle.clv_place.specs.declared.stop.Stop.{Stop}

pub stop_exit : {A : Type 0} (r : Result A Stop) (e : Stop) (P : Stop → Type 0) → IsErrAnd r (λ x. x ≡ e) → P e → IfErr r P
stop_exit r e P is h = let p = err_from_is_err_and r is in subst (λ z. IfErr z P) (sym (p.1 ∙ ap Err p.2)) h

pub no_ok : {A : Type 0} (r : Result A Stop) (e : Stop) (P : A → Type 0) → IsErrAnd r (λ x. x ≡ e) → IfOk r P
no_ok r e P is = let p = err_from_is_err_and r is in subst (λ z. IfOk z P) (sym (p.1 ∙ ap Err p.2)) tt

pub if_ok : {A B : Type 0} (r : Result A B) (P Q : A → Type 0) → ((a : A) → P a → Q a) → IfOk r P → IfOk r Q
if_ok (Ok a) P Q f h = f a h
if_ok (Err e) P Q f h = tt

pub if_err : {A B : Type 0} (r : Result A B) (P Q : B → Type 0) → ((e : B) → P e → Q e) → IfErr r P → IfErr r Q
if_err (Ok a) P Q f h = tt
if_err (Err e) P Q f h = f e h

pub on_ok : {A B : Type 0} (r : Result A B) (P Q : Type 0) → (P → Q) → OnOk r P → OnOk r Q
on_ok (Ok a) P Q f h = f h
on_ok (Err e) P Q f h = tt

pub none_of_not : {A : Type 0} (o : Option A) → ((x : A) → o ≡ Some x → ⊥) → o ≡ None
none_of_not None h = refl
none_of_not (Some x) h = absurd (h x refl)
