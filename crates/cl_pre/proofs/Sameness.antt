-- Two lists item by item.
use Rattle.std.proofs.Common.{◌≡◌, ◌≢◌, ℕ, zero, suc, ◌+◌, ◌<◌, ◌≤◌, Bool, true, false, List, [], ◌∷◌, length, drop, get_or, refl, sym, ap, ap₂, ◌∙◌, arith, add-one, drop-cons}
use Rattle.std.specs.Prelude.{if◌then◌else◌, bytes_eq}
use Rattle.cl_lexer.specs.declared.token.Token.{Token}
use Rattle.cl_macro.specs.Names.{Name}
use Rattle.cl_pre.specs.Definitions.{same_kind, same_kinds, same_names}

false_kind : (b : Bool) (x : Bool) → x ≡ false → (if b then x else false) ≡ false
false_kind true x e = e
false_kind false x e = refl

kinds_apart : (a b : List Token) → length a ≢ length b → same_kinds a b ≡ false
kinds_apart [] [] h = absurd (h refl)
kinds_apart [] (y ∷ ys) h = refl
kinds_apart (x ∷ xs) [] h = refl
kinds_apart (x ∷ xs) (y ∷ ys) h = false_kind (same_kind x.kind y.kind) _ (kinds_apart xs ys (λ e. h (ap suc e)))

names_apart : (a b : List Name) → length a ≢ length b → same_names a b ≡ false
names_apart [] [] h = absurd (h refl)
names_apart [] (y ∷ ys) h = refl
names_apart (x ∷ xs) [] h = refl
names_apart (x ∷ xs) (y ∷ ys) h = false_kind (bytes_eq x y) _ (names_apart xs ys (λ e. h (ap suc e)))

pub kinds_differ : (a b : List Token) → length a ≢ length b → false ≡ same_kinds a b
kinds_differ a b h = sym (kinds_apart a b h)

pub names_differ : (a b : List Name) → length a ≢ length b → false ≡ same_names a b
names_differ a b h = sym (names_apart a b h)

pub ruleset samenesses = (kinds_differ, names_differ)
