-- What words and declared names say by other numbers of types: the same, by those numbers.
use Rattle.std.proofs.Common.{◌≡◌, ℕ, List, [], ◌∷◌, map, refl, sym, ap, ◌∙◌, nat_eq, Bool, ◌&&◌, ◌||◌, Option, Some, None}
use Rattle.std.specs.Prelude.{bytes_eq, not, is_some}
use Rattle.std.specs.Option.{option_map}
use Rattle.cl_types.specs.declared.types.ClType.{ClType}
use Rattle.cl_types.specs.declared.types.Member.{Member}
use Rattle.cl_types.specs.declared.types.TypeId.{TypeId}
use Rattle.cl_types.specs.declared.space.Space.{Space}
use Rattle.cl_types.specs.Layout.{Struct, is_width, is_count}
use Rattle.cl_types.specs.Table.{AreBuilt}
use Rattle.cl_builtins.specs.Kinds.{int}
use Rattle.cl_ast.specs.declared.expression.Qual.{Qual}
use Rattle.cl_ast.specs.declared.expression.Qual.TheVariants as qual
use Rattle.cl_ast.specs.declared.expression.Base.{Base}
use Rattle.cl_ast.specs.declared.expression.Base.TheVariants as base
use Rattle.cl_tree.specs.declared.shape.Shape.{Shape}
use Rattle.cl_tree.specs.declared.shape.Shape.TheVariants as shape
use Rattle.cl_rules.specs.declared.rule.Qualified.{Qualified}
use Rattle.cl_rules.specs.declared.rule.Target.{Target}
use Rattle.cl_rules.specs.declared.rule.Want.{Want}
use Rattle.cl_rules.specs.declared.rule.Want.TheVariants as want
use Rattle.cl_words.specs.declared.naming.Length.{Length}
use Rattle.cl_words.specs.declared.naming.Sketch.{Sketch}
use Rattle.cl_words.specs.Words.{integers, word_shape, has_const, has_restrict, with_space_at, with_qual, qualify, plain, named_type, sketch, layout_of, some_wrong, has_lengths, is_no_element, no_declared_type, is_declared_array, is_declared, numbers, array_tree, is_large, is_deep, limits, declared_tree, declared_limits_at, declared_limits, has_member, member_tests_at, member_tests, is_empty, struct_tests}
use Rattle.cl_rules.specs.Calls.{pointer_to}
use Rattle.cl_make.specs.Wanted.{target}
use Rattle.cl_renaming.specs.Renaming.{type_id, member, shape_as, want_as, target_as, qualified_as, sketch_as, IsRenaming}
use Rattle.cl_renaming.proofs.Shapes.{is_void_as, is_bool_as, is_array_as, is_pointer_as, shape_of_as}
use Rattle.cl_renaming.proofs.Operators.{by_if}
use Rattle.cl_renaming.proofs.Calls.{is_no_pointee_as}
use Rattle.cl_renaming.proofs.Layouts.{tree_of_as, trees_at_as}

module _ (r : ℕ → ℕ) where
  -- ---- words

  integers_plain : (bits : ℕ) (signed : Bool) (n : ℕ) → shape_as r (integers bits signed n) ≡ integers bits signed n
  integers_plain bits signed n = sym (by_if (shape_as r) (is_width bits && (nat_eq n 1 || is_count n)) (shape.Integers (record { bits = bits; signed = signed; count = n })) (shape.Integers int))

  -- a word names a type without numbers
  pub word_plain : (b : Base) → option_map (shape_as r) (word_shape b) ≡ word_shape b
  word_plain base.Void = refl
  word_plain base.Bool = refl
  word_plain (base.Int bits signed) = ap Some (integers_plain bits signed 1)
  word_plain (base.Vector bits signed n) = ap Some (integers_plain bits signed n)
  word_plain (base.Sized signed) = ap Some (integers_plain 32 signed 1)
  word_plain _ = refl

  with_space_as : (s : Space) (q : Qualified) (o : Option Space) → with_space_at s (qualified_as r q) o ≡ qualified_as r (with_space_at s q o)
  with_space_as s q None = refl
  with_space_as s q (Some own) = refl

  with_qual_as : (k : Qual) (q : Qualified) → with_qual k (qualified_as r q) ≡ qualified_as r (with_qual k q)
  with_qual_as qual.Const q = refl
  with_qual_as qual.Volatile q = refl
  with_qual_as qual.Restrict q = refl
  with_qual_as (qual.Space s) q = with_space_as s q q.space

  pub qualify_as : (ks : List Qual) (q : Qualified) → qualify ks (qualified_as r q) ≡ qualified_as r (qualify ks q)
  qualify_as [] q = refl
  qualify_as (k ∷ ks) q = ap (qualify ks) (with_qual_as k q) ∙ qualify_as ks (with_qual k q)

  pub plain_as : (t : Target) (sized : Bool) → plain (target_as r t) sized ≡ qualified_as r (plain t sized)
  plain_as t sized = refl

  pub named_type_as : (t : Target) (readonly : Bool) (s : Space) → named_type (target_as r t) readonly s ≡ qualified_as r (named_type t readonly s)
  named_type_as t readonly s = refl

  -- ---- declared names

  pub sketch_of_as : (q : Qualified) (star : Option (List Qual)) (ls : List Length) → sketch (qualified_as r q) star ls ≡ sketch_as r (sketch q star ls)
  sketch_of_as q None ls = refl
  sketch_of_as q (Some qs) ls = λ i.
      record {
        of = want.Of (shape_as r (pointer_to q (has_restrict qs)));
        shape = shape_as r (pointer_to q (has_restrict qs));
        no_type = is_no_pointee_as r q.shape i;
        lengths = ls;
        space = None;
        clash = q.clash;
        readonly = has_const qs;
      }

  pub is_no_element_as : (s : Shape) → is_no_element (shape_as r s) ≡ is_no_element s
  is_no_element_as s = λ i. is_void_as r s i || is_bool_as r s i || is_pointer_as r s i

  pub no_declared_type_as : (k : Sketch) → no_declared_type (sketch_as r k) ≡ no_declared_type k
  no_declared_type_as k = ap (λ b. k.no_type || (has_lengths k.lengths && b)) (is_no_element_as k.shape)

  pub is_declared_array_as : (k : Sketch) → is_declared_array (sketch_as r k) ≡ is_declared_array k
  is_declared_array_as k = ap (λ b. has_lengths k.lengths || b) (is_array_as r k.shape)

  pub is_declared_as : (kind : Shape → Bool) (k : Sketch) → kind (shape_as r k.shape) ≡ kind k.shape → is_declared kind (sketch_as r k) ≡ is_declared kind k
  is_declared_as kind k e = ap (λ b. not (has_lengths k.lengths) && b) e

  -- ---- members

  pub has_member_as : (name : List ℕ) (ms : List Member) → has_member name (map (member r) ms) ≡ has_member name ms
  has_member_as name [] = refl
  has_member_as name (m ∷ ms) = ap (λ b. bytes_eq name m.name || b) (has_member_as name ms)

  is_empty_as : (ms : List Member) → is_empty (map (member r) ms) ≡ is_empty ms
  is_empty_as [] = refl
  is_empty_as (m ∷ ms) = refl

  member_tests_at_as : (k : Sketch) (repeated large deep : Bool) → member_tests_at (sketch_as r k) repeated large deep ≡ member_tests_at k repeated large deep
  member_tests_at_as k repeated large deep = λ i.
      (302, repeated) ∷ (303, no_declared_type_as k i || is_declared_as is_no_element k (is_no_element_as k.shape) i) ∷ (304, some_wrong k.lengths)
      ∷ (326, k.clash || is_some k.space) ∷ (501, large) ∷ (502, deep) ∷ []

-- ---- what hangs on a table

pub target_of_as : (cs ds : List ClType) (r : ℕ → ℕ) → IsRenaming cs ds r → (t : TypeId) → target ds (type_id r t) ≡ target_as r (target cs t)
target_of_as cs ds r e t = λ i. record { ty = type_id r t; shape = shape_of_as cs ds r e t i }

module _ (cs ds : List ClType) (r : ℕ → ℕ) (b : AreBuilt [] cs) (g : AreBuilt [] ds) (e : IsRenaming cs ds r) where
  pub layout_of_as : (w : Want) → layout_of ds (want_as r w) ≡ layout_of cs w
  layout_of_as (want.Type t) = tree_of_as cs ds r b g e t.0
  layout_of_as want.Own = refl
  layout_of_as (want.Of s) = refl

  pub declared_tree_as : (k : Sketch) (first : ℕ) → declared_tree ds (sketch_as r k) first ≡ declared_tree cs k first
  declared_tree_as k first = ap (λ t. array_tree t (numbers first k.lengths)) (layout_of_as k.of)

  pub declared_limits_at_as : (k : Sketch) (first : ℕ) → declared_limits_at ds (sketch_as r k) first ≡ declared_limits_at cs k first
  declared_limits_at_as k first = ap limits (declared_tree_as k first)

  pub declared_limits_as : (k : Sketch) → declared_limits ds (sketch_as r k) ≡ declared_limits cs k
  declared_limits_as k = declared_limits_at_as k 1

  pub member_tests_as : (k : Sketch) (repeated : Bool) → member_tests ds (sketch_as r k) repeated ≡ member_tests cs k repeated
  member_tests_as k repeated =
      ap (λ t. member_tests_at (sketch_as r k) repeated (is_large t) (is_deep t)) (declared_tree_as k 1)
      ∙ member_tests_at_as r k repeated (is_large (declared_tree cs k 1)) (is_deep (declared_tree cs k 1))

  pub struct_tests_as : (ms : List Member) (repeated : Bool) → struct_tests ds (map (member r) ms) repeated ≡ struct_tests cs ms repeated
  struct_tests_as ms repeated = λ i. (302, repeated) ∷ (303, is_empty_as r ms i) ∷ limits (Struct (trees_at_as cs ds r b g e ms i))
