-- The length that a typed expression says.
use Rattle.std.proofs.Common.{◌≡◌, ℕ, zero, suc, ◌<◌, Bool, true, false, if◌then◌else◌, List, Option, Some, None, refl, sym, ap, ◌∙◌, subst, arith, true≢false}
use Rattle.std.specs.Prelude.{nat_eq, ◌||◌}
use Rattle.clv_place.specs.declared.place.Place.{Place}
use Rattle.clv_place.specs.declared.stop.Stop.TheVariants.{Out}
use Rattle.cl_types.specs.declared.types.ClType.{ClType}
use Rattle.cl_types.specs.Table.{IsTable}
use Rattle.cl_tree.specs.declared.shape.Shape.{Shape}
use Rattle.cl_tree.specs.declared.expression.TNode.TheViews.{out-TExpr}
use Rattle.cl_tree.specs.Constants.{constancy_of, divides, number_in, is_negative, positive_in, known_of}
use Rattle.cl_tree.specs.Shapes.{shape_of}
use Rattle.cl_words.specs.declared.naming.Length.{Length}
use Rattle.cl_words.specs.Words.{length_from}
use Rattle.cl_make.specs.declared.typed.Typed.{Typed}
use Rattle.cl_make.specs.Ready.{IsReady}
use Rattle.cl_make.proofs.Stays.{constancy_stays, positive_stays}
use Rattle.cl_make.proofs.Trees.{root_is, ready_stable}
use Rattle.cl_type_expr.specs.Offences.{at}
use Rattle.cl_type_expr.specs.Typing.{IsPositive, IsLengthOf, LengthOfStops}

not_zero : (n : ℕ) → nat_eq n 0 ≡ false → 0 < n
not_zero zero e = absurd (true≢false e)
not_zero (suc n) e = omega arith

length_positive : (s : Shape) (n : Option ℕ) → IsPositive (length_from (positive_in s n))
length_positive s None = tt
length_positive s (Some n) = by (nat_eq n 0) (is_negative s n) refl
  where
    by : (none negative : Bool) → nat_eq n 0 ≡ none → IsPositive (length_from (if none || negative then None else Some n))
    by true negative e = tt
    by false true e = tt
    by false false e = not_zero n e

-- a type's shape is that of the tree's root
pub length_of_ok : (cs : List ClType) (r : Typed) (s : Shape) (l : Length) → IsTable cs → IsReady cs r → s ≡ shape_of cs (out-TExpr r.tree).ty → divides (constancy_of cs r.tree) ≡ None → l ≡ length_from (positive_in s (number_in s (constancy_of cs r.tree))) → IsLengthOf cs r.tree l
length_of_ok cs r s l b h shape whole is =
    let root : s ≡ shape_of cs (known_of r.tree cs).ty = shape ∙ ap (shape_of cs) (sym (root_is r.tree cs)) in
    record {
      whole = λ more m. ap divides (constancy_stays cs more r.tree m h.steady) ∙ whole;
      is = λ more m. is ∙ ap (λ z. length_from (positive_in z (number_in z (constancy_of cs r.tree)))) root ∙ sym (ap length_from (positive_stays cs more r.tree b m (ready_stable cs r h)));
      positive = subst IsPositive (sym is) (length_positive s (number_in s (constancy_of cs r.tree)));
    }

pub length_of_out : (cs : List ClType) (r : Typed) (p : Place) → IsReady cs r → divides (constancy_of cs r.tree) ≡ Some p → LengthOfStops cs r.tree (Out (at 334 p))
length_of_out cs r p h e = (refl, λ more m. ap divides (constancy_stays cs more r.tree m h.steady) ∙ e)
