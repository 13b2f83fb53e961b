-- Values that variables are set to.
use Rattle.std.proofs.Common.{◌≡◌, ℕ, suc, zero, ◌≤◌, List, [], ◌∷◌, length, map, take, Option, Some, None, slice_get, refl, ap, ◌∙◌, take_all}
use Rattle.cl_types.specs.declared.types.ClType.{ClType}
use Rattle.cl_types.specs.declared.types.TypeId.{TypeId}
use Rattle.cl_common.specs.Types.{slots_at}
use Rattle.cl_meaning.specs.Values.{Name, Pointer, Scalar, Pattern, Points, patterns_in}
use Rattle.cl_meaning.specs.States.{Memory, with_bytes, with_pointer, with_scalars, with_value}
use Rattle.cl_meaning.specs.Places.{lone_pointer}
use Rattle.cl_meaning.specs.Views.{bytes_by}

pub set_pointer : (cs : List ClType) (name : Name) (ty : TypeId) (v : List Scalar) (p : Pointer) (m : Memory) → lone_pointer v ≡ Some p → with_value cs name ty v m ≡ with_pointer name (Some p) m
set_pointer cs name ty [] p m e = cc
set_pointer cs name ty (Pattern n ∷ []) p m e = cc
set_pointer cs name ty (Points q ∷ []) p m e = ap (λ z. with_pointer name z m) e
set_pointer cs name ty (Pattern n ∷ y ∷ ys) p m e = cc
set_pointer cs name ty (Points q ∷ y ∷ ys) p m e = cc

pub set_scalars : (cs : List ClType) (name : Name) (ty : TypeId) (v : List Scalar) (m : Memory) → lone_pointer v ≡ None → with_value cs name ty v m ≡ with_bytes name (with_scalars (slots_at cs ty) (patterns_in v) (m.bytes name)) m
set_scalars cs name ty [] m e = refl
set_scalars cs name ty (Pattern n ∷ []) m e = refl
set_scalars cs name ty (Points q ∷ []) m e = cc
set_scalars cs name ty (Pattern n ∷ y ∷ ys) m e = refl
set_scalars cs name ty (Points q ∷ y ∷ ys) m e = refl

-- the bytes of a text are all set
text_byte : (text : List ℕ) (k : ℕ) → bytes_by (map Some text) k ≡ slice_get text k
text_byte [] k = refl
text_byte (b ∷ text) zero = refl
text_byte (b ∷ text) (suc k) = text_byte text k

pub text_bytes : (bs : List (Option ℕ)) (text : List ℕ) (k : ℕ) → bs ≡ map Some (take k text) → length text ≤ k → bytes_by bs ≡ slice_get text
text_bytes bs text k e h = ap bytes_by (e ∙ ap (map Some) (take_all k text h)) ∙ (λ t j. text_byte text j t)
