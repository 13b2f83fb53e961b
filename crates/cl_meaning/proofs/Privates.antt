-- Private objects by their names.
use Rattle.std.proofs.Common.{◌≡◌, ℕ, suc, zero, ◌+◌, ◌<◌, ◌%◌, ◌/◌, Bool, true, false, nat_eq, ◌&&◌, if◌then◌else◌, List, [], ◌∷◌, ◌++◌, length, Option, Some, None, slice_get, refl, sym, ap, ◌∙◌, arith}
use Rattle.cl_common.specs.Bytes.{Bytes, with_byte, with_number}
use Rattle.cl_builtins.specs.Kinds.{alike}
use Rattle.cl_common.specs.Events.{same_node, same_nodes}
use Rattle.cl_tree.specs.declared.event.NodeId.{NodeId}
use Rattle.cl_meaning.specs.Values.{Name, same_name, Pointer}
use Rattle.cl_meaning.specs.States.{Memory}
use Rattle.cl_meaning.specs.declared.memory.Private.{Private}
use Rattle.cl_meaning.specs.Places.{place_in}
use Rattle.cl_meaning.specs.Views.{bytes_by, bytes_in, pointers_in, object_in}

at_place_by : (b : Bool) (o : Private) (os : List Private) (n : Name) → slice_get os (place_in os n) ≡ object_in os n → slice_get (o ∷ os) (if b then 0 else suc (place_in os n)) ≡ (if b then Some o else object_in os n)
at_place_by true o os n e = refl
at_place_by false o os n e = e

at_first : (os : List Private) (n : Name) → slice_get os (place_in os n) ≡ object_in os n
at_first [] n = refl
at_first (o ∷ os) n = at_place_by (same_name o.name n) o os n (at_first os n)

pub at_place : (os : List Private) (n : Name) (i : ℕ) → i ≡ place_in os n → slice_get os i ≡ object_in os n
at_place os n i e = ap (slice_get os) e ∙ at_first os n

abbrev pub pointer_of : Option Private → Option Pointer
pointer_of None = None
pointer_of (Some o) = o.pointer

pointer_by : (b : Bool) (o : Private) (os : List Private) (n : Name) → pointers_in os n ≡ pointer_of (object_in os n) → (if b then o.pointer else pointers_in os n) ≡ pointer_of (if b then Some o else object_in os n)
pointer_by true o os n e = refl
pointer_by false o os n e = e

pub pointer_found : (os : List Private) (n : Name) → pointers_in os n ≡ pointer_of (object_in os n)
pointer_found [] n = refl
pointer_found (o ∷ os) n = pointer_by (same_name o.name n) o os n (pointer_found os n)

pub pointer_there : (os : List Private) (n : Name) (o : Private) → object_in os n ≡ Some o → pointers_in os n ≡ o.pointer
pointer_there os n o e = pointer_found os n ∙ ap pointer_of e

pub no_pointer_there : (os : List Private) (n : Name) → object_in os n ≡ None → pointers_in os n ≡ None
no_pointer_there os n e = pointer_found os n ∙ ap pointer_of e

-- an object of which nothing is set changes nothing
same_if : {X : Type 0} (b : Bool) (x y : X) → x ≡ y → (if b then x else y) ≡ y
same_if true x y e = e
same_if false x y e = refl

added_bytes : (os : List Private) (o : Private) (m : Name) → o.bytes.items ≡ [] → bytes_in (os ++ o ∷ []) m ≡ bytes_in os m
added_bytes [] o m e = same_if (same_name o.name m) (bytes_by o.bytes.items) (bytes_by []) (ap bytes_by e)
added_bytes (p ∷ os) o m e = ap (λ z. if same_name p.name m then bytes_by p.bytes.items else z) (added_bytes os o m e)

added_pointers : (os : List Private) (o : Private) (m : Name) → o.pointer ≡ None → pointers_in (os ++ o ∷ []) m ≡ pointers_in os m
added_pointers [] o m e = same_if (same_name o.name m) o.pointer None e
added_pointers (p ∷ os) o m e = ap (λ z. if same_name p.name m then p.pointer else z) (added_pointers os o m e)

abbrev pub memory_of : List Private → Memory
memory_of os = record { bytes = bytes_in os; pointers = pointers_in os }

pub added : (os new : List Private) (o : Private) → new ≡ os ++ o ∷ [] → o.bytes.items ≡ [] → o.pointer ≡ None → ◌≡◌ {A = Memory} (record { bytes = bytes_in new; pointers = pointers_in new }) (record { bytes = bytes_in os; pointers = pointers_in os })
added os new o e b p = ap memory_of e ∙ (λ t. record { bytes = λ m. added_bytes os o m b t; pointers = λ m. added_pointers os o m p t })

-- bytes at different places
swapped_at : (i j a b : ℕ) (bs : Bytes) (x : ℕ) → i < j → with_byte j a (with_byte i b bs) x ≡ with_byte i b (with_byte j a bs) x
swapped_at i j a b bs x h = grind arith

swapped : (i j a b : ℕ) (bs : Bytes) → i < j → with_byte j a (with_byte i b bs) ≡ with_byte i b (with_byte j a bs)
swapped i j a b bs h = λ t x. swapped_at i j a b bs x h t

pub low_first : (i j c m b : ℕ) (bs : Bytes) → i < j → with_number j c m (with_byte i b bs) ≡ with_byte i b (with_number j c m bs)
low_first i j zero m b bs h = refl
low_first i j (suc c) m b bs h = ap (with_byte j (m % 256)) (low_first i (suc j) c (m / 256) b bs (omega (arith, h))) ∙ swapped i j (m % 256) b (with_number (suc j) c (m / 256) bs) h

next_place : (at j : ℕ) → j ≡ at + 1 → j ≡ suc at
next_place at j f = omega (arith, f)

pub next_byte : (at j c d n : ℕ) (bs : Bytes) → j ≡ at + 1 → d ≡ suc c → with_number j c (n / 256) (with_byte at (n % 256) bs) ≡ with_number at d n bs
next_byte at j c d n bs f e =
    low_first at j c (n / 256) (n % 256) bs (omega (arith, f))
    ∙ ap (λ i. with_byte at (n % 256) (with_number i c (n / 256) bs)) (next_place at j f)
    ∙ ap (λ k. with_number at k n bs) (sym e)

-- a name is the same as itself, so that an added object is the first of its name
and_true : (a b : Bool) → a ≡ true → b ≡ true → (a && b) ≡ true
and_true true b e f = f
and_true false b e f = e

nat_self : (n : ℕ) → nat_eq n n ≡ true
nat_self n = grind arith

alike_self : (b : Bool) → alike b b ≡ true
alike_self true = refl
alike_self false = refl

nodes_self : (ns : List NodeId) → same_nodes ns ns ≡ true
nodes_self [] = refl
nodes_self (n ∷ ns) = and_true (same_node n n) (same_nodes ns ns) (and_true (nat_eq n.function n.function) (nat_eq n.node n.node) (nat_self n.function) (nat_self n.node)) (nodes_self ns)

pub name_self : (n : Name) → same_name n n ≡ true
name_self n = and_true (nat_eq n.number n.number && alike n.is_param n.is_param) (same_nodes n.calls n.calls) (and_true (nat_eq n.number n.number) (alike n.is_param n.is_param) (nat_self n.number) (alike_self n.is_param)) (nodes_self n.calls)

first_by : (b : Bool) (x y l : ℕ) → (if b then 0 else suc x) ≡ suc l → (x ≡ l → y ≡ l) → (if b then 0 else suc y) ≡ suc l
first_by true x y l e f = absurd (omega (arith, e))
first_by false x y l e f = ap suc (f (omega (arith, e)))

first_added : (os : List Private) (o : Private) (n : Name) → same_name o.name n ≡ true → place_in os n ≡ length os → place_in (os ++ o ∷ []) n ≡ length os
first_added [] o n s e = ap (λ b. if b then 0 else 1) s
first_added (p ∷ os) o n s e = first_by (same_name p.name n) (place_in os n) (place_in (os ++ o ∷ []) n) (length os) e (first_added os o n s)

pub added_first : (os new : List Private) (o : Private) (n : Name) (i : ℕ) → new ≡ os ++ o ∷ [] → o.name ≡ n → i ≡ place_in os n → i ≡ length os → i ≡ place_in new n
added_first os new o n i e m p l = l ∙ sym (ap (λ z. place_in z n) e ∙ first_added os o n (ap (λ z. same_name z n) m ∙ name_self n) (sym p ∙ l))
