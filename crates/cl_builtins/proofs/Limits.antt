-- Integers, vectors of them and pointers are within the limits of a table.
use Rattle.std.proofs.Common.{◌≡◌, ℕ, ◌*◌, ◌/◌, ◌≤◌, List, [], refl, sym, subst, arith, lit≤, Bool, true, false, ◌||◌, true≢false}
use Rattle.std.specs.Prelude.{nat_eq}
use Rattle.std.proofs.Math.Nat.{mul-le-mul_left}
use Rattle.std.proofs.lemmas.Bool.{eqb-true}
use Rattle.cl_types.specs.declared.stop.TypeStop.{TypeStop}
use Rattle.cl_types.specs.declared.stop.TypeStop.TheVariants.{TooLarge, TooDeep}
use Rattle.cl_types.specs.declared.types.ClType.{ClType}
use Rattle.cl_types.specs.declared.types.ClType.TheVariants as ty
use Rattle.cl_types.specs.Layout.{TypeTree, Void, Scalar, Vector, Array, Struct, room_of, is_width, is_count, IsScalar}
use Rattle.cl_types.specs.Table.{IsBuilt, AreBuilt, IsWithin, IsOver, tree_from, trees, tree_of}
use Rattle.cl_types.proofs.Rows.{integer_scalar}
use Rattle.cl_builtins.specs.Found.{IsSimple}

width_low : (bits : ℕ) → is_width bits ≡ true → bits / 8 ≤ 8
width_low bits h = by (nat_eq bits 8) (nat_eq bits 16) (nat_eq bits 32) (nat_eq bits 64) refl refl refl refl h
  where
    by : (a b c d : Bool) → nat_eq bits 8 ≡ a → nat_eq bits 16 ≡ b → nat_eq bits 32 ≡ c → nat_eq bits 64 ≡ d → (a || b || c || d) ≡ true → bits / 8 ≤ 8
    by true b c d p q r s h = subst (λ z. z / 8 ≤ 8) (sym (eqb-true bits 8 p)) (lit≤ tt)
    by false true c d p q r s h = subst (λ z. z / 8 ≤ 8) (sym (eqb-true bits 16 q)) (lit≤ tt)
    by false false true d p q r s h = subst (λ z. z / 8 ≤ 8) (sym (eqb-true bits 32 r)) (lit≤ tt)
    by false false false true p q r s h = subst (λ z. z / 8 ≤ 8) (sym (eqb-true bits 64 s)) (lit≤ tt)
    by false false false false p q r s h = absurd (true≢false (sym h))

count_low : (n : ℕ) → is_count n ≡ true → room_of n ≤ 16
count_low n h = by (nat_eq n 2) (nat_eq n 3) (nat_eq n 4) (nat_eq n 8) (nat_eq n 16) refl refl refl refl refl h
  where
    by : (a b c d e : Bool) → nat_eq n 2 ≡ a → nat_eq n 3 ≡ b → nat_eq n 4 ≡ c → nat_eq n 8 ≡ d → nat_eq n 16 ≡ e → (a || b || c || d || e) ≡ true → room_of n ≤ 16
    by true b c d e p q r s t h = subst (λ z. room_of z ≤ 16) (sym (eqb-true n 2 p)) (lit≤ tt)
    by false true c d e p q r s t h = subst (λ z. room_of z ≤ 16) (sym (eqb-true n 3 q)) (lit≤ tt)
    by false false true d e p q r s t h = subst (λ z. room_of z ≤ 16) (sym (eqb-true n 4 r)) (lit≤ tt)
    by false false false true e p q r s t h = subst (λ z. room_of z ≤ 16) (sym (eqb-true n 8 s)) (lit≤ tt)
    by false false false false true p q r s t h = subst (λ z. room_of z ≤ 16) (sym (eqb-true n 16 t)) (lit≤ tt)
    by false false false false false p q r s t h = absurd (true≢false (sym h))

product_low : (a b : ℕ) → a ≤ 16 → b ≤ 8 → a * b ≤ 65536
product_low a b h g = omega (arith, mul-le-mul_left a g)

scalar_within : (bits : ℕ) → is_width bits ≡ true → IsWithin (Scalar bits)
scalar_within bits h = let l = width_low bits h in record { size = omega arith; depth = lit≤ tt }

vector_within : (t : TypeTree) (n : ℕ) → IsScalar t → is_count n ≡ true → IsWithin (Vector t n)
vector_within (Scalar bits) n h g = record { size = product_low (room_of n) (bits / 8) (count_low n g) (width_low bits h); depth = lit≤ tt }
vector_within Void n h g = absurd h
vector_within (Vector t m) n h g = absurd h
vector_within (Array t m) n h g = absurd h
vector_within (Struct ts) n h g = absurd h

simple_within : (cs : List ClType) (c : ClType) → AreBuilt [] cs → IsBuilt cs c → IsSimple c → IsWithin (tree_from (trees cs) c)
simple_within cs ty.Void b h f = record { size = lit≤ tt; depth = lit≤ tt }
simple_within cs ty.Bool b h f = scalar_within 8 refl
simple_within cs (ty.Int bits signed) b h f = scalar_within bits h
simple_within cs (ty.Vector elem n) b h f = vector_within (tree_of cs elem.0) n (integer_scalar cs elem.0 b h.0) h.1
simple_within cs (ty.Array elem n) b h f = absurd f
simple_within cs (ty.Struct name members) b h f = absurd f
simple_within cs (ty.Pointer space to readonly restricted) b h f = absurd f

-- so a table refuses them for neither limit
module _ (cs : List ClType) (c : ClType) (s : TypeStop) (b : AreBuilt [] cs) (h : IsBuilt cs c) (f : IsSimple c) (o : IsOver (tree_from (trees cs) c) s) where
  pub not_large : s ≡ TooLarge → ⊥
  not_large e = let w = simple_within cs c b h f in let l = subst (IsOver (tree_from (trees cs) c)) e o in omega (arith, w.size, l)

  pub not_deep : s ≡ TooDeep → ⊥
  not_deep e = let w = simple_within cs c b h f in let l = subst (IsOver (tree_from (trees cs) c)) e o in omega (arith, w.depth, l.1)
