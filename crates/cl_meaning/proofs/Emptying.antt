-- Objects of which nothing is set any more, one after another.
use Rattle.std.proofs.Common.{◌≡◌, ℕ, suc, zero, ◌+◌, ◌≤◌, Bool, true, false, true≢false, if◌then◌else◌, List, [], ◌∷◌, length, set, Some, None, slice_get, refl, sym, ap, ◌∙◌, subst, arith}
use Rattle.cl_common.specs.Bytes.{no_bytes}
use Rattle.cl_common.specs.Events.{same_nodes}
use Rattle.cl_tree.specs.declared.event.NodeId.{NodeId}
use Rattle.cl_meaning.specs.Values.{Name, same_name}
use Rattle.cl_meaning.specs.States.{without_own}
use Rattle.cl_meaning.specs.declared.memory.Private.{Private}
use Rattle.cl_meaning.specs.Views.{bytes_by, bytes_in, pointers_in}
use Rattle.cl_meaning.proofs.Privates.{memory_of}
use Rattle.cl_meaning.proofs.Replacing.{name_same}

-- nothing of the object is set, if these calls lead to it
pub record IsEmptied (calls : List NodeId) (o : Private) : Type 0 where
  pub bytes : same_nodes o.name.calls calls ≡ true → o.bytes.items ≡ []
  pub pointer : same_nodes o.name.calls calls ≡ true → o.pointer ≡ None

-- the first so many are so
abbrev pub AreEmptied : List NodeId → ℕ → List Private → Type 0
AreEmptied calls zero os = Unit
AreEmptied calls (suc k) [] = Unit
AreEmptied calls (suc k) (o ∷ os) = IsEmptied calls o × AreEmptied calls k os

set_emptied : (calls : List NodeId) (os : List Private) (k : ℕ) (x : Private) → AreEmptied calls k os → IsEmptied calls x → AreEmptied calls (suc k) (set os k x)
set_emptied calls [] k x e f = tt
set_emptied calls (o ∷ os) zero x e f = (f, tt)
set_emptied calls (o ∷ os) (suc k) x e f = (e.0, set_emptied calls os k x e.1 f)

pub one_emptied : (calls : List NodeId) (os : List Private) (k j : ℕ) (x : Private) → AreEmptied calls k os → IsEmptied calls x → j ≡ k + 1 → AreEmptied calls j (set os k x)
one_emptied calls os k j x e f h =
    let next : suc k ≡ j = omega (arith, h) in
    subst (λ (z : ℕ). AreEmptied calls z (set os k x)) next (set_emptied calls os k x e f)

kept_emptied : (calls : List NodeId) (os : List Private) (k : ℕ) (o : Private) → AreEmptied calls k os → slice_get os k ≡ Some o → IsEmptied calls o → AreEmptied calls (suc k) os
kept_emptied calls [] k o e s f = tt
kept_emptied calls (p ∷ os) zero o e s f = let h : o ≡ p = cc in (subst (IsEmptied calls) h f, tt)
kept_emptied calls (p ∷ os) (suc k) o e s f = (e.0, kept_emptied calls os k o e.1 s f)

pub one_kept : (calls : List NodeId) (os : List Private) (k j : ℕ) (o : Private) → AreEmptied calls k os → slice_get os k ≡ Some o → same_nodes o.name.calls calls ≡ false → j ≡ k + 1 → AreEmptied calls j os
one_kept calls os k j o e s f h =
    let next : suc k ≡ j = omega (arith, h) in
    subst (λ (z : ℕ). AreEmptied calls z os) next (kept_emptied calls os k o e s (record { bytes = λ g. absurd (true≢false (sym g ∙ f)); pointer = λ g. absurd (true≢false (sym g ∙ f)) }))

-- ---- what isn't of these calls stays

false_by : (b : Bool) → (b ≡ true → ⊥) → b ≡ false
false_by true f = absurd (f refl)
false_by false f = refl

elsewhere : (calls : List NodeId) (n m : Name) → same_nodes n.calls calls ≡ true → same_nodes m.calls calls ≡ false → same_name n m ≡ false
elsewhere calls n m f g = false_by (same_name n m) (λ h. true≢false (sym f ∙ ap (λ (z : Name). same_nodes z.calls calls) (name_same n m h) ∙ g))

other_bytes : (calls : List NodeId) (os : List Private) (k : ℕ) (o x : Private) (m : Name) → slice_get os k ≡ Some o → x.name ≡ o.name → same_nodes o.name.calls calls ≡ true → same_nodes m.calls calls ≡ false → bytes_in (set os k x) m ≡ bytes_in os m
other_bytes calls [] k o x m s f h g = refl
other_bytes calls (p ∷ os) zero o x m s f h g =
    let same : o ≡ p = cc in
    ap (λ z. if same_name z m then bytes_by x.bytes.items else bytes_in os m) f
    ∙ ap (λ b. if b then bytes_by x.bytes.items else bytes_in os m) (elsewhere calls o.name m h g)
    ∙ sym (ap (λ b. if b then bytes_by p.bytes.items else bytes_in os m) (ap (λ (z : Private). same_name z.name m) (sym same) ∙ elsewhere calls o.name m h g))
other_bytes calls (p ∷ os) (suc k) o x m s f h g = ap (λ z. if same_name p.name m then bytes_by p.bytes.items else z) (other_bytes calls os k o x m s f h g)

other_pointers : (calls : List NodeId) (os : List Private) (k : ℕ) (o x : Private) (m : Name) → slice_get os k ≡ Some o → x.name ≡ o.name → same_nodes o.name.calls calls ≡ true → same_nodes m.calls calls ≡ false → pointers_in (set os k x) m ≡ pointers_in os m
other_pointers calls [] k o x m s f h g = refl
other_pointers calls (p ∷ os) zero o x m s f h g =
    let same : o ≡ p = cc in
    ap (λ z. if same_name z m then x.pointer else pointers_in os m) f
    ∙ ap (λ b. if b then x.pointer else pointers_in os m) (elsewhere calls o.name m h g)
    ∙ sym (ap (λ b. if b then p.pointer else pointers_in os m) (ap (λ (z : Private). same_name z.name m) (sym same) ∙ elsewhere calls o.name m h g))
other_pointers calls (p ∷ os) (suc k) o x m s f h g = ap (λ z. if same_name p.name m then p.pointer else z) (other_pointers calls os k o x m s f h g)

own_by : {X : Type 0} (b : Bool) (x y z : X) → (b ≡ false → x ≡ y) → (if b then z else x) ≡ (if b then z else y)
own_by true x y z f = refl
own_by false x y z f = f refl

pub others_kept : (calls : List NodeId) (os : List Private) (k : ℕ) (o x : Private) → slice_get os k ≡ Some o → x.name ≡ o.name → same_nodes o.name.calls calls ≡ true → without_own calls (memory_of (set os k x)) ≡ without_own calls (memory_of os)
others_kept calls os k o x s f h = λ t. record {
  bytes = λ m. own_by (same_nodes m.calls calls) (bytes_in (set os k x) m) (bytes_in os m) no_bytes (other_bytes calls os k o x m s f h) t;
  pointers = λ m. own_by (same_nodes m.calls calls) (pointers_in (set os k x) m) (pointers_in os m) None (other_pointers calls os k o x m s f h) t;
}

-- ---- where all are emptied

either : {X : Type 0} (b : Bool) (x y z : X) → (b ≡ true → x ≡ z) → y ≡ z → (if b then x else y) ≡ z
either true x y z f g = f refl
either false x y z f g = g

led_here : (calls : List NodeId) (o : Private) (m : Name) → same_nodes m.calls calls ≡ true → same_name o.name m ≡ true → same_nodes o.name.calls calls ≡ true
led_here calls o m h e = ap (λ (z : Name). same_nodes z.calls calls) (name_same o.name m e) ∙ h

emptied_bytes : (calls : List NodeId) (os : List Private) (k : ℕ) (m : Name) → AreEmptied calls k os → length os ≤ k → same_nodes m.calls calls ≡ true → bytes_in os m ≡ no_bytes
emptied_bytes calls [] k m e l h = refl
emptied_bytes calls (o ∷ os) zero m e l h = absurd (omega (arith, l))
emptied_bytes calls (o ∷ os) (suc k) m e l h =
    either (same_name o.name m) (bytes_by o.bytes.items) (bytes_in os m) no_bytes (λ g. ap bytes_by (e.0.bytes (led_here calls o m h g))) (emptied_bytes calls os k m e.1 (omega (arith, l)) h)

emptied_pointers : (calls : List NodeId) (os : List Private) (k : ℕ) (m : Name) → AreEmptied calls k os → length os ≤ k → same_nodes m.calls calls ≡ true → pointers_in os m ≡ None
emptied_pointers calls [] k m e l h = refl
emptied_pointers calls (o ∷ os) zero m e l h = absurd (omega (arith, l))
emptied_pointers calls (o ∷ os) (suc k) m e l h =
    either (same_name o.name m) o.pointer (pointers_in os m) None (λ g. e.0.pointer (led_here calls o m h g)) (emptied_pointers calls os k m e.1 (omega (arith, l)) h)

none_by : {X : Type 0} (b : Bool) (x y : X) → (b ≡ true → y ≡ x) → y ≡ (if b then x else y)
none_by true x y f = f refl
none_by false x y f = refl

pub all_emptied : (calls : List NodeId) (os : List Private) (k : ℕ) → AreEmptied calls k os → length os ≤ k → memory_of os ≡ without_own calls (memory_of os)
all_emptied calls os k e l = λ t. record {
  bytes = λ m. none_by (same_nodes m.calls calls) no_bytes (bytes_in os m) (emptied_bytes calls os k m e l) t;
  pointers = λ m. none_by (same_nodes m.calls calls) None (pointers_in os m) (emptied_pointers calls os k m e l) t;
}
