-- How a value is read part by part.
use Rattle.std.proofs.Common.{◌≡◌, ◌≤◌, ◌<◌, ◌+◌, ◌*◌, ◌/◌, ◌∙◌, ℕ, zero, suc, true, ◌&&◌, List, [], ◌∷◌, ◌++◌, length, Option, Some, refl, ap, sym, subst, arith, append_assoc, eq-eqb, nat_le, nat_eq}
use Rattle.std.proofs.lemmas.Bool.{and_from, le-leb}
use Rattle.std.proofs.lemmas.List.{append-nil}
use Rattle.std.proofs.Math.Nat.{suc-mul}
use Rattle.clv_num.specs.declared.Bits.{Bits}
use Rattle.spv_module.specs.declared.module.Inst.{Inst}
use Rattle.spv_module.specs.declared.module.Operand.{Operand}
use Rattle.spv_module.specs.Instructions.{ids}
use Rattle.spv_value.specs.declared.value.Value.TheVariants as variant
use Rattle.spv_value.specs.declared.value.Value.TheOpen.{Scalar}
use Rattle.spv_value.specs.declared.value.Value.TheViews.{roll-Value}
use Rattle.spv_value.specs.declared.value.Value.TheFolds.{fold-roll-Value}
use Rattle.spv_value.specs.Views.{number_at, width_in, Reading, scalar_stands, elements_stand, members_stand, value_step, stands, fits_within}

-- What is left of the elements completes them all.
pub record ElementsLeft (element size count at left place : ℕ) (seen : List Reading) : Type 0 where
  pub completes : (fs : List Reading) → elements_stand element size left place fs ≡ true → elements_stand element size count at (seen ++ fs) ≡ true

-- What is left of the members completes them all.
pub record MembersLeft (body : List Inst) (struct at n : ℕ) (members rest : List ℕ) (seen : List Reading) : Type 0 where
  pub completes : (fs : List Reading) → members_stand body struct at n rest fs ≡ true → members_stand body struct at 0 members (seen ++ fs) ≡ true

pub elements_begin : (element size count at : ℕ) → ElementsLeft element size count at count at []
elements_begin element size count at = record { completes = λ fs h. h }

pub members_begin : (body : List Inst) (struct at : ℕ) (members : List ℕ) → MembersLeft body struct at 0 members members []
members_begin body struct at members = record { completes = λ fs h. h }

stands_scalar : (body : List Inst) (bytes : List ℕ) (b : Bits) → stands body bytes (variant.Scalar (Some b)) ≡ value_step body bytes (Scalar (Some b))
unfolding roll-Value denote.Hole.Carrier.roll
stands_scalar body bytes b = fold-roll-Value Reading (value_step body bytes) (Scalar (Some b))

pub elements_end : (element size count at left place : ℕ) (seen : List Reading) → left ≤ 0 → ElementsLeft element size count at left place seen → elements_stand element size count at seen ≡ true
elements_end element size count at zero place seen h r = subst (λ fs. elements_stand element size count at fs ≡ true) (append-nil seen) (r.completes [] refl)
elements_end element size count at (suc left) place seen h r = absurd (omega (arith, h))

elements_on : (element size count at left place : ℕ) (seen all : List Reading) (f : Reading) → all ≡ seen ++ f ∷ [] → f element place ≡ true → ElementsLeft element size count at (suc left) place seen → ElementsLeft element size count at left (place + size) all
elements_on element size count at left place seen all f e s r = record {
  completes = λ fs g. subst (λ xs. elements_stand element size count at (xs ++ fs) ≡ true) (sym e)
      (subst (λ xs. elements_stand element size count at xs ≡ true) (sym (append_assoc seen (f ∷ []) fs)) (r.completes (f ∷ fs) (and_from (f element place) (elements_stand element size left (place + size) fs) s g)));
}

pub elements_more : (element size count at left next place step : ℕ) (seen all : List Reading) (f : Reading) → suc left ≡ next → step ≡ size → all ≡ seen ++ f ∷ [] → f element place ≡ true → ElementsLeft element size count at next place seen → ElementsLeft element size count at left (place + step) all
elements_more element size count at left next place step seen all f h k e s r =
    subst (λ n. ElementsLeft element size count at left (place + n) all) (sym k) (elements_on element size count at left place seen all f e s (subst (λ n. ElementsLeft element size count at n place seen) (sym h) r))

pub inside_more : (place size step left next end : ℕ) → suc left ≡ next → step ≡ size → place + next * size ≤ end → place + step + left * size ≤ end
inside_more place size step left next end h k f = omega (arith, k, subst (λ n. place + n * size ≤ end) (sym h) f, suc-mul left size)

pub members_end : (body : List Inst) (struct at n : ℕ) (members : List ℕ) (seen : List Reading) → MembersLeft body struct at n members [] seen → members_stand body struct at 0 members seen ≡ true
members_end body struct at n members seen r = subst (λ fs. members_stand body struct at 0 members fs ≡ true) (append-nil seen) (r.completes [] refl)

pub members_over : (body : List Inst) (struct at n : ℕ) (members : List ℕ) (rest : List Operand) (seen : List Reading) → length rest < 1 → MembersLeft body struct at n members (ids rest) seen → members_stand body struct at 0 members seen ≡ true
members_over body struct at n members [] seen h r = members_end body struct at n members seen r
members_over body struct at n members (o ∷ os) seen h r = absurd (omega (arith, h))

scalar_there : (bytes : List ℕ) (x : Option ℕ) (at w : ℕ) (b : Bits) → x ≡ Some w → at + w / 8 ≤ length bytes → b.width ≡ w → b.value ≡ number_at bytes at (w / 8) → scalar_stands bytes x b at ≡ true
scalar_there bytes x at w b e i p q = subst (λ y. scalar_stands bytes y b at ≡ true) (sym e)
    (and_from (nat_le (at + w / 8) (length bytes) && nat_eq b.width w) (nat_eq b.value (number_at bytes at (w / 8))) (and_from (nat_le (at + w / 8) (length bytes)) (nat_eq b.width w) (le-leb _ _ i) (eq-eqb _ _ p)) (eq-eqb _ _ q))

pub scalar_reads : (body : List Inst) (bytes : List ℕ) (t at w : ℕ) (b : Bits) → width_in body t ≡ Some w → at + w / 8 ≤ length bytes → b.width ≡ w → b.value ≡ number_at bytes at (w / 8) → stands body bytes (variant.Scalar (Some b)) t at ≡ true
scalar_reads body bytes t at w b e i p q = ap (λ f. f t at) (stands_scalar body bytes b) ∙ scalar_there bytes (width_in body t) at w b e i p q

pub fits_body : (body other : List Inst) (depth t at end : ℕ) → other ≡ body → fits_within depth body t at end ≡ true → fits_within depth other t at end ≡ true
fits_body body other depth t at end e f = subst (λ b. fits_within depth b t at end ≡ true) (sym e) f

pub ruleset view_steps = (elements_begin, members_begin)
