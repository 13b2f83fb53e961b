-- What types are by other numbers: the same, with the numbers of which they are made changed.
use Rattle.std.proofs.Common.{◌≡◌, ℕ, List, map, refl, sym, ap, ◌∙◌, Bool, true, false, not, ◌&&◌, ◌||◌, if◌then◌else◌, true≢false, nat_eq, Option, Some, None, slice_get}
use Rattle.std.specs.Prelude.{is_some}
use Rattle.std.specs.Option.{option_map}
use Rattle.std.proofs.lemmas.Bool.{eqb-true, eq-eqb}
use Rattle.cl_types.specs.declared.space.Space.{Space}
use Rattle.cl_types.specs.declared.types.ClType.{ClType}
use Rattle.cl_types.specs.declared.types.ClType.TheVariants as ty
use Rattle.cl_types.specs.declared.types.TypeId.{TypeId}
use Rattle.cl_builtins.specs.declared.kind.Gentype.{Gentype}
use Rattle.cl_builtins.specs.Kinds.{integer_in}
use Rattle.cl_tree.specs.declared.shape.Shape.{Shape}
use Rattle.cl_tree.specs.declared.shape.Shape.TheVariants as shape
use Rattle.cl_tree.specs.Shapes.{vector_shape, holds_elements, shape_in, shape_of, same_type, same_space, is_void, is_bool, is_array, is_struct, is_pointer, is_number, is_vector, is_steppable, arithmetic, rank, takes_value, converts, members_in, members_of}
use Rattle.cl_rules.specs.declared.rule.Operand.{Operand}
use Rattle.cl_rules.specs.declared.rule.Target.{Target}
use Rattle.cl_rules.specs.Operands.{pointer_from, seen, is_nested, to_array, same_target, common, adds_const, integer_of, type_of, is_arithmetic, no_value, no_pointer}
use Rattle.cl_renaming.specs.Renaming.{type_id, member, cl_type, shape_as, operand_as, target_as, TellsApart, IsRenaming}

-- ---- the types of a table

module _ (cs ds : List ClType) (r : ℕ → ℕ) (e : IsRenaming cs ds r) where
  pub found_as : (i : ℕ) → slice_get ds (r i) ≡ option_map (cl_type r) (slice_get cs i)
  found_as i = by (slice_get cs i) refl
    where
      by : (o : Option ClType) → slice_get cs i ≡ o → slice_get ds (r i) ≡ option_map (cl_type r) o
      by None f = e.lacks i f
      by (Some c) f = e.has i c f

integer_as : (r : ℕ → ℕ) (o : Option ClType) → integer_in (option_map (cl_type r) o) ≡ integer_in o
integer_as r None = refl
integer_as r (Some (ty.Int bits signed)) = refl
integer_as r (Some _) = refl

elements_as : (r : ℕ → ℕ) (o : Option ClType) → holds_elements (option_map (cl_type r) o) ≡ holds_elements o
elements_as r None = refl
elements_as r (Some (ty.Array elem len)) = refl
elements_as r (Some _) = refl

vector_as : (r : ℕ → ℕ) (n : ℕ) (o : Option Gentype) → vector_shape n o ≡ shape_as r (vector_shape n o)
vector_as r n None = refl
vector_as r n (Some g) = refl

members_as : (r : ℕ → ℕ) (o : Option ClType) → members_in (option_map (cl_type r) o) ≡ map (member r) (members_in o)
members_as r None = refl
members_as r (Some (ty.Struct name members)) = refl
members_as r (Some _) = refl

module _ (cs ds : List ClType) (r : ℕ → ℕ) (e : IsRenaming cs ds r) where
  pub integer_found : (i : ℕ) → integer_in (slice_get ds (r i)) ≡ integer_in (slice_get cs i)
  integer_found i = ap integer_in (found_as cs ds r e i) ∙ integer_as r (slice_get cs i)

  pub shape_in_as : (o : Option ClType) → shape_in ds (option_map (cl_type r) o) ≡ shape_as r (shape_in cs o)
  shape_in_as None = refl
  shape_in_as (Some ty.Void) = refl
  shape_in_as (Some ty.Bool) = refl
  shape_in_as (Some (ty.Int bits signed)) = refl
  shape_in_as (Some (ty.Vector elem n)) = ap (vector_shape n) (integer_found elem.0) ∙ vector_as r n (integer_in (slice_get cs elem.0))
  shape_in_as (Some (ty.Array elem len)) = ap (shape.Array (type_id r elem) len) (ap holds_elements (found_as cs ds r e elem.0) ∙ elements_as r (slice_get cs elem.0))
  shape_in_as (Some (ty.Struct name members)) = refl
  shape_in_as (Some (ty.Pointer space to readonly restricted)) = refl

  pub shape_of_as : (t : TypeId) → shape_of ds (type_id r t) ≡ shape_as r (shape_of cs t)
  shape_of_as t = ap (shape_in ds) (found_as cs ds r e t.0) ∙ shape_in_as (slice_get cs t.0)

  pub members_of_as : (t : TypeId) → members_of ds (type_id r t) ≡ map (member r) (members_of cs t)
  members_of_as t = ap members_in (found_as cs ds r e t.0) ∙ members_as r (slice_get cs t.0)

-- ---- kinds of types

module _ (r : ℕ → ℕ) where
  pub is_void_as : (s : Shape) → is_void (shape_as r s) ≡ is_void s
  is_void_as shape.Void = refl
  is_void_as _ = refl

  pub is_bool_as : (s : Shape) → is_bool (shape_as r s) ≡ is_bool s
  is_bool_as shape.Bool = refl
  is_bool_as _ = refl

  pub is_array_as : (s : Shape) → is_array (shape_as r s) ≡ is_array s
  is_array_as (shape.Array elem len nested) = refl
  is_array_as _ = refl

  pub is_struct_as : (s : Shape) → is_struct (shape_as r s) ≡ is_struct s
  is_struct_as shape.Struct = refl
  is_struct_as _ = refl

  pub is_pointer_as : (s : Shape) → is_pointer (shape_as r s) ≡ is_pointer s
  is_pointer_as (shape.Pointer space to readonly restricted) = refl
  is_pointer_as _ = refl

  pub is_number_as : (s : Shape) → is_number (shape_as r s) ≡ is_number s
  is_number_as (shape.Integers t) = refl
  is_number_as _ = refl

  pub is_vector_as : (s : Shape) → is_vector (shape_as r s) ≡ is_vector s
  is_vector_as (shape.Integers t) = refl
  is_vector_as _ = refl

  pub is_steppable_as : (s : Shape) → is_steppable (shape_as r s) ≡ is_steppable s
  is_steppable_as (shape.Integers t) = refl
  is_steppable_as _ = refl

  pub arithmetic_as : (s : Shape) → arithmetic (shape_as r s) ≡ arithmetic s
  arithmetic_as (shape.Integers t) = refl
  arithmetic_as _ = refl

  pub rank_as : (s : Shape) → rank (shape_as r s) ≡ rank s
  rank_as (shape.Integers t) = refl
  rank_as _ = refl

  pub takes_value_as : (s : Shape) → takes_value (shape_as r s) ≡ takes_value s
  takes_value_as shape.Void = refl
  takes_value_as _ = refl

  pub type_of_as : (s : Shape) → type_of (shape_as r s) ≡ type_of s
  type_of_as s = ap integer_of (arithmetic_as s)

  pub is_arithmetic_as : (s : Shape) → is_arithmetic (shape_as r s) ≡ is_arithmetic s
  is_arithmetic_as s = ap is_some (arithmetic_as s)

  pub is_nested_as : (s : Shape) → is_nested (shape_as r s) ≡ is_nested s
  is_nested_as (shape.Array elem len nested) = refl
  is_nested_as _ = refl

  -- ---- what operands stand for

  pub pointer_from_as : (lies : Option Space) (readonly : Bool) (s : Shape) → pointer_from lies readonly (shape_as r s) ≡ shape_as r (pointer_from lies readonly s)
  pointer_from_as None readonly s = refl
  pointer_from_as (Some z) readonly (shape.Array elem len nested) = refl
  pointer_from_as (Some z) readonly _ = refl

  pub seen_as : (o : Operand) → seen (operand_as r o) ≡ shape_as r (seen o)
  seen_as o = pointer_from_as o.facts.lies o.readonly o.shape

  pub to_array_as : (o : Operand) → to_array (operand_as r o) ≡ to_array o
  to_array_as o = ap (λ b. is_some o.facts.lies && b) (is_nested_as o.shape)

  pub common_as : (p q : Shape) → common (shape_as r p) (shape_as r q) ≡ shape_as r (common p q)
  common_as (shape.Pointer s to ro re) (shape.Pointer s2 to2 ro2 re2) = refl
  common_as (shape.Pointer s to ro re) _ = refl
  common_as _ q = refl

  -- whether an operand stands for a pointer
  pub is_seen_as : (o : Operand) → is_pointer (seen (operand_as r o)) ≡ is_pointer (seen o)
  is_seen_as o = ap is_pointer (seen_as o) ∙ is_pointer_as (seen o)

-- ---- types that are compared

module _ (r : ℕ → ℕ) (d : TellsApart r) where
  pub same_as : (a b : TypeId) → same_type (type_id r a) (type_id r b) ≡ same_type a b
  same_as a b = by (nat_eq (r a.0) (r b.0)) (nat_eq a.0 b.0) refl refl
    where
      by : (x y : Bool) → nat_eq (r a.0) (r b.0) ≡ x → nat_eq a.0 b.0 ≡ y → nat_eq (r a.0) (r b.0) ≡ nat_eq a.0 b.0
      by true true e f = e ∙ sym f
      by true false e f = absurd (true≢false (sym (eq-eqb a.0 b.0 (d a.0 b.0 (eqb-true (r a.0) (r b.0) e))) ∙ f))
      by false true e f = absurd (true≢false (sym (eq-eqb (r a.0) (r b.0) (ap r (eqb-true a.0 b.0 f))) ∙ e))
      by false false e f = e ∙ sym f

  pub converts_as : (from : Shape) (own : TypeId) (to : Shape) (wanted : TypeId) → converts (shape_as r from) (type_id r own) (shape_as r to) (type_id r wanted) ≡ converts from own to wanted
  converts_as from own to wanted = λ i. (is_number_as r from i && (is_number_as r to i || is_vector_as r to i)) || (takes_value_as r from i && same_as own wanted i)

  pub same_target_as : (p q : Shape) → same_target (shape_as r p) (shape_as r q) ≡ same_target p q
  same_target_as (shape.Pointer s to ro re) (shape.Pointer s2 to2 ro2 re2) = ap (λ b. same_space s s2 && b) (same_as to to2)
  same_target_as (shape.Pointer s to ro re) _ = refl
  same_target_as _ q = refl

  pub adds_const_as : (p q : Shape) → adds_const (shape_as r p) (shape_as r q) ≡ adds_const p q
  adds_const_as (shape.Pointer s to ro re) (shape.Pointer s2 to2 ro2 re2) = ap (λ b. same_space s s2 && b && (ro2 || not ro)) (same_as to to2)
  adds_const_as (shape.Pointer s to ro re) _ = refl
  adds_const_as _ q = refl

  pub same_seen_as : (a b : Operand) → same_target (seen (operand_as r a)) (seen (operand_as r b)) ≡ same_target (seen a) (seen b)
  same_seen_as a b = (λ i. same_target (seen_as r a i) (seen_as r b i)) ∙ same_target_as (seen a) (seen b)

  pub no_value_as : (o : Operand) (t : Target) → no_value (operand_as r o) (target_as r t) ≡ no_value o t
  no_value_as o t = λ i. if is_pointer_as r t.shape i then not (is_seen_as r o i) else not (converts_as o.shape o.facts.ty t.shape t.ty i)

  pub no_pointer_as : (o : Operand) (t : Target) → no_pointer (operand_as r o) (target_as r t) ≡ no_pointer o t
  no_pointer_as o t = λ i. is_pointer_as r t.shape i && is_seen_as r o i && not (((λ j. adds_const (seen_as r o j) (shape_as r t.shape)) ∙ adds_const_as (seen o) t.shape) i)
