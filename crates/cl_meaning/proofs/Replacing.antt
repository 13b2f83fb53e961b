-- What memory is where one object takes the place of another.
use Rattle.std.proofs.Common.{◌≡◌, ℕ, suc, zero, ◌<◌, ◌≤◌, Bool, true, false, nat_eq, ◌&&◌, if◌then◌else◌, List, [], ◌∷◌, length, get_or, set, Option, Some, None, slice_get, refl, sym, ap, ◌∙◌, arith}
use Rattle.std.proofs.lemmas.Option.{slice_get_past, slice_get_read}
use Rattle.cl_common.specs.Bytes.{Bytes, no_bytes}
use Rattle.cl_builtins.specs.Kinds.{alike}
use Rattle.cl_common.specs.Events.{same_node, same_nodes}
use Rattle.cl_tree.specs.declared.event.NodeId.{NodeId}
use Rattle.cl_meaning.specs.Values.{Name, same_name, Pointer}
use Rattle.cl_meaning.specs.States.{Memory, with_bytes, with_pointer, without}
use Rattle.cl_meaning.specs.declared.memory.Private.{Private}
use Rattle.cl_meaning.specs.Places.{place_in}
use Rattle.cl_meaning.specs.Views.{bytes_by, bytes_in, pointers_in, object_in}
use Rattle.cl_meaning.proofs.Privates.{at_place, pointer_of, pointer_found, memory_of, name_self}

-- ---- names that are the same are one name

and_left : (a b : Bool) → (a && b) ≡ true → a ≡ true
and_left true b e = refl
and_left false b e = e

and_right : (a b : Bool) → (a && b) ≡ true → b ≡ true
and_right true b e = e
and_right false b e = cc

nat_same : (a b : ℕ) → nat_eq a b ≡ true → a ≡ b
nat_same a b e = grind (arith, e)

alike_same : (a b : Bool) → alike a b ≡ true → a ≡ b
alike_same true true e = refl
alike_same true false e = cc
alike_same false true e = cc
alike_same false false e = refl

node_same : (m n : NodeId) → same_node m n ≡ true → m ≡ n
node_same m n e = λ t. record {
  function = nat_same m.function n.function (and_left (nat_eq m.function n.function) (nat_eq m.node n.node) e) t;
  node = nat_same m.node n.node (and_right (nat_eq m.function n.function) (nat_eq m.node n.node) e) t;
}

nodes_same : (ms ns : List NodeId) → same_nodes ms ns ≡ true → ms ≡ ns
nodes_same [] [] e = refl
nodes_same [] (n ∷ ns) e = cc
nodes_same (m ∷ ms) [] e = cc
nodes_same (m ∷ ms) (n ∷ ns) e =
    ap (λ z. z ∷ ms) (node_same m n (and_left (same_node m n) (same_nodes ms ns) e))
    ∙ ap (λ z. n ∷ z) (nodes_same ms ns (and_right (same_node m n) (same_nodes ms ns) e))

plain_same : (a b : Name) → same_name a b ≡ true → (nat_eq a.number b.number && alike a.is_param b.is_param) ≡ true
plain_same a b e = and_left (nat_eq a.number b.number && alike a.is_param b.is_param) (same_nodes a.calls b.calls) e

pub name_same : (a b : Name) → same_name a b ≡ true → a ≡ b
name_same a b e = λ t. record {
  calls = nodes_same a.calls b.calls (and_right (nat_eq a.number b.number && alike a.is_param b.is_param) (same_nodes a.calls b.calls) e) t;
  is_param = alike_same a.is_param b.is_param (and_right (nat_eq a.number b.number) (alike a.is_param b.is_param) (plain_same a b e)) t;
  number = nat_same a.number b.number (and_left (nat_eq a.number b.number) (alike a.is_param b.is_param) (plain_same a b e)) t;
}

flip_true : (a b : Name) → same_name a b ≡ true → same_name b a ≡ true
flip_true a b e = ap (λ z. same_name z a) (sym (name_same a b e)) ∙ name_self a

both_ways : (p q : Bool) → (p ≡ true → q ≡ true) → (q ≡ true → p ≡ true) → p ≡ q
both_ways true q f g = sym (f refl)
both_ways false true f g = g refl
both_ways false false f g = refl

flip : (a b : Name) → same_name a b ≡ same_name b a
flip a b = both_ways (same_name a b) (same_name b a) (flip_true a b) (flip_true b a)

-- ---- the object of a name

if_of : {X Y : Type 0} (f : X → Y) (b : Bool) (x y : X) → f (if b then x else y) ≡ (if b then f x else f y)
if_of f true x y = refl
if_of f false x y = refl

head_by : {X : Type 0} (b c : Bool) (x y z : X) → (b ≡ false → c ≡ false) → (if b then x else z) ≡ (if b then x else (if c then y else z))
head_by true c x y z f = refl
head_by false c x y z f = ap (λ d. if d then y else z) (sym (f refl))

tail_by : {X : Type 0} (a b : Bool) (x y z : X) → (a ≡ true → b ≡ false) → (if a then x else (if b then y else z)) ≡ (if b then y else (if a then x else z))
tail_by true b x y z f = ap (λ d. if d then y else x) (sym (f refl))
tail_by false b x y z f = refl

replaced_head : (o x : Private) (os : List Private) (n m : Name) → same_name o.name n ≡ true → x.name ≡ n → object_in (x ∷ os) m ≡ (if same_name m n then Some x else object_in (o ∷ os) m)
replaced_head o x os n m s f =
    ap (λ z. if same_name z m then Some x else object_in os m) f
    ∙ ap (λ b. if b then Some x else object_in os m) (flip n m)
    ∙ head_by (same_name m n) (same_name o.name m) (Some x) (Some o) (object_in os m) (λ h. ap (λ z. same_name z m) (name_same o.name n s) ∙ flip n m ∙ h)

replaced_tail : (o x : Private) (os new : List Private) (n m : Name) → same_name o.name n ≡ false → object_in new m ≡ (if same_name m n then Some x else object_in os m) → object_in (o ∷ new) m ≡ (if same_name m n then Some x else object_in (o ∷ os) m)
replaced_tail o x os new n m s e =
    ap (λ z. if same_name o.name m then Some o else z) e
    ∙ tail_by (same_name o.name m) (same_name m n) (Some o) (Some x) (object_in os m) (λ h. ap (λ z. same_name z n) (sym (name_same o.name m h)) ∙ s)

zero_first : (b : Bool) (k : ℕ) → 0 ≡ (if b then 0 else suc k) → b ≡ true
zero_first true k e = refl
zero_first false k e = absurd (omega (arith, e))

later : (b : Bool) (i k : ℕ) → suc i ≡ (if b then 0 else suc k) → (b ≡ false) × (i ≡ k)
later true i k e = absurd (omega (arith, e))
later false i k e = (refl, omega (arith, e))

object_replaced : (os : List Private) (i : ℕ) (x : Private) (n m : Name) → i ≡ place_in os n → i < length os → x.name ≡ n → object_in (set os i x) m ≡ (if same_name m n then Some x else object_in os m)
object_replaced [] i x n m e h f = absurd (omega (arith, h))
object_replaced (o ∷ os) zero x n m e h f = replaced_head o x os n m (zero_first (same_name o.name n) (place_in os n) e) f
object_replaced (o ∷ os) (suc i) x n m e h f =
    replaced_tail o x os (set os i x) n m (later (same_name o.name n) i (place_in os n) e).0 (object_replaced os i x n m (later (same_name o.name n) i (place_in os n) e).1 (omega (arith, h)) f)

named_by : (b : Bool) (p o : Private) (q : Option Private) (n : Name) → (if b then Some p else q) ≡ Some o → (b ≡ true → p.name ≡ n) → (q ≡ Some o → o.name ≡ n) → o.name ≡ n
named_by true p o q n e f g = let h : p ≡ o = cc in ap (λ z. z.name) (sym h) ∙ f refl
named_by false p o q n e f g = g e

named : (os : List Private) (n : Name) (o : Private) → object_in os n ≡ Some o → o.name ≡ n
named [] n o e = cc
named (p ∷ os) n o e = named_by (same_name p.name n) p o (object_in os n) n e (name_same p.name n) (named os n o)

-- ---- its bytes and pointer

abbrev bytes_of : Option Private → Bytes
bytes_of None = bytes_by []
bytes_of (Some o) = bytes_by o.bytes.items

bytes_found_by : (b : Bool) (o : Private) (os : List Private) (n : Name) → bytes_in os n ≡ bytes_of (object_in os n) → (if b then bytes_by o.bytes.items else bytes_in os n) ≡ bytes_of (if b then Some o else object_in os n)
bytes_found_by true o os n e = refl
bytes_found_by false o os n e = e

bytes_found : (os : List Private) (n : Name) → bytes_in os n ≡ bytes_of (object_in os n)
bytes_found [] n = refl
bytes_found (o ∷ os) n = bytes_found_by (same_name o.name n) o os n (bytes_found os n)

bytes_replaced : (os : List Private) (i : ℕ) (x : Private) (n m : Name) → i ≡ place_in os n → i < length os → x.name ≡ n → bytes_in (set os i x) m ≡ (if same_name m n then bytes_by x.bytes.items else bytes_in os m)
bytes_replaced os i x n m e h f =
    bytes_found (set os i x) m
    ∙ ap bytes_of (object_replaced os i x n m e h f)
    ∙ if_of bytes_of (same_name m n) (Some x) (object_in os m)
    ∙ ap (λ z. if same_name m n then bytes_by x.bytes.items else z) (sym (bytes_found os m))

pointers_replaced : (os : List Private) (i : ℕ) (x : Private) (n m : Name) → i ≡ place_in os n → i < length os → x.name ≡ n → pointers_in (set os i x) m ≡ (if same_name m n then x.pointer else pointers_in os m)
pointers_replaced os i x n m e h f =
    pointer_found (set os i x) m
    ∙ ap pointer_of (object_replaced os i x n m e h f)
    ∙ if_of pointer_of (same_name m n) (Some x) (object_in os m)
    ∙ ap (λ z. if same_name m n then x.pointer else z) (sym (pointer_found os m))

-- what stays as it was at this name stays as it was
kept_by : {X : Type 0} (b : Bool) (x y : X) → (b ≡ true → x ≡ y) → (if b then x else y) ≡ y
kept_by true x y f = f refl
kept_by false x y f = refl

-- what is read of an object
pub bytes_stand : (os : List Private) (n : Name) (o : Private) → object_in os n ≡ Some o → bytes_in os n ≡ bytes_by o.bytes.items
bytes_stand os n o e = bytes_found os n ∙ ap bytes_of e

pub no_bytes_stand : (os : List Private) (n : Name) → object_in os n ≡ None → bytes_in os n ≡ bytes_by []
no_bytes_stand os n e = bytes_found os n ∙ ap bytes_of e

-- ---- memory

-- the object that stands at the place of a name has this name
standing : (os : List Private) (i : ℕ) (o : Private) (n : Name) → i ≡ place_in os n → slice_get os i ≡ Some o → object_in os n ≡ Some o
standing os i o n e s = sym (at_place os n i e) ∙ s

bytes_there : (os : List Private) (i : ℕ) (o : Private) (n m : Name) → i ≡ place_in os n → slice_get os i ≡ Some o → same_name m n ≡ true → bytes_by o.bytes.items ≡ bytes_in os m
bytes_there os i o n m e s h = sym (ap (bytes_in os) (name_same m n h) ∙ bytes_found os n ∙ ap bytes_of (standing os i o n e s))

pointer_here : (os : List Private) (i : ℕ) (o : Private) (n m : Name) → i ≡ place_in os n → slice_get os i ≡ Some o → same_name m n ≡ true → o.pointer ≡ pointers_in os m
pointer_here os i o n m e s h = sym (ap (pointers_in os) (name_same m n h) ∙ pointer_found os n ∙ ap pointer_of (standing os i o n e s))

-- the pointer in an object is set
pub pointed : (os : List Private) (i : ℕ) (o x : Private) (n : Name) (p : Option Pointer) (before : Memory) → memory_of os ≡ before → i ≡ place_in os n → i < length os → o ≡ get_or os i o → x.name ≡ o.name → x.bytes.items ≡ o.bytes.items → x.pointer ≡ p → memory_of (set os i x) ≡ with_pointer n p before
pointed os i o x n p before k e h r f b q =
    let s : slice_get os i ≡ Some o = slice_get_read os (length os) i o refl h r in
    let named_so : x.name ≡ n = f ∙ named os n o (standing os i o n e s) in
    let changed : memory_of (set os i x) ≡ with_pointer n p (memory_of os) = λ t. record {
      bytes = λ m. (bytes_replaced os i x n m e h named_so ∙ kept_by (same_name m n) (bytes_by x.bytes.items) (bytes_in os m) (λ z. ap bytes_by b ∙ bytes_there os i o n m e s z)) t;
      pointers = λ m. (pointers_replaced os i x n m e h named_so ∙ ap (λ z. if same_name m n then z else pointers_in os m) q) t;
    } in
    changed ∙ ap (with_pointer n p) k

-- its bytes are changed
pub written : (os : List Private) (i : ℕ) (o x : Private) (n : Name) (change : Bytes → Bytes) (before : Memory) → memory_of os ≡ before → i ≡ place_in os n → i < length os → o ≡ get_or os i o → x.name ≡ o.name → x.pointer ≡ o.pointer → bytes_by x.bytes.items ≡ change (bytes_by o.bytes.items) → memory_of (set os i x) ≡ with_bytes n (change (before.bytes n)) before
written os i o x n change before k e h r f q b =
    let s : slice_get os i ≡ Some o = slice_get_read os (length os) i o refl h r in
    let named_so : x.name ≡ n = f ∙ named os n o (standing os i o n e s) in
    let changed : memory_of (set os i x) ≡ with_bytes n (change (bytes_in os n)) (memory_of os) = λ t. record {
      bytes = λ m. (bytes_replaced os i x n m e h named_so ∙ ap (λ z. if same_name m n then z else bytes_in os m) (b ∙ ap change (bytes_there os i o n n e s (name_self n)))) t;
      pointers = λ m. (pointers_replaced os i x n m e h named_so ∙ kept_by (same_name m n) x.pointer (pointers_in os m) (λ z. q ∙ pointer_here os i o n m e s z)) t;
    } in
    changed ∙ ap (λ (z : Memory). with_bytes n (change (z.bytes n)) z) k

-- nothing of it is set any more
pub cleared : (os : List Private) (i : ℕ) (o x : Private) (n : Name) → i ≡ place_in os n → i < length os → o ≡ get_or os i o → x.name ≡ o.name → x.bytes.items ≡ [] → x.pointer ≡ None → memory_of (set os i x) ≡ without n (memory_of os)
cleared os i o x n e h r f b q =
    let s : slice_get os i ≡ Some o = slice_get_read os (length os) i o refl h r in
    let named_so : x.name ≡ n = f ∙ named os n o (standing os i o n e s) in
    λ t. record {
      bytes = λ m. (bytes_replaced os i x n m e h named_so ∙ ap (λ z. if same_name m n then bytes_by z else bytes_in os m) b) t;
      pointers = λ m. (pointers_replaced os i x n m e h named_so ∙ ap (λ z. if same_name m n then z else pointers_in os m) q) t;
    }

unset_by : {X : Type 0} (b : Bool) (x y : X) → (b ≡ true → y ≡ x) → y ≡ (if b then x else y)
unset_by true x y f = f refl
unset_by false x y f = refl

absent_bytes : (os : List Private) (n m : Name) → object_in os n ≡ None → same_name m n ≡ true → bytes_in os m ≡ no_bytes
absent_bytes os n m e h = ap (bytes_in os) (name_same m n h) ∙ bytes_found os n ∙ ap bytes_of e

absent_pointer : (os : List Private) (n m : Name) → object_in os n ≡ None → same_name m n ≡ true → pointers_in os m ≡ None
absent_pointer os n m e h = ap (pointers_in os) (name_same m n h) ∙ pointer_found os n ∙ ap pointer_of e

-- nothing was set of what isn't there
pub absent : (os : List Private) (i : ℕ) (n : Name) → i ≡ place_in os n → length os ≤ i → memory_of os ≡ without n (memory_of os)
absent os i n e h =
    let none : object_in os n ≡ None = sym (at_place os n i e) ∙ slice_get_past os i h in
    λ t. record {
      bytes = λ m. unset_by (same_name m n) no_bytes (bytes_in os m) (absent_bytes os n m none) t;
      pointers = λ m. unset_by (same_name m n) None (pointers_in os m) (absent_pointer os n m none) t;
    }
