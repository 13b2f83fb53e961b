-- The rules of calls, casts, vector literals and `sizeof` say of operands and types by other numbers what they say of these, by those numbers.
use Rattle.std.proofs.Common.{◌≡◌, ℕ, ◌+◌, List, [], ◌∷◌, map, refl, ap, ◌∙◌, nat_eq, Bool, true, false, not, ◌&&◌, ◌||◌, if◌then◌else◌, Option, Some, None}
use Rattle.std.proofs.lemmas.List.{length-map}
use Rattle.cl_types.specs.declared.types.TypeId.{TypeId}
use Rattle.cl_types.specs.declared.space.Space.{Space}
use Rattle.cl_builtins.specs.declared.kind.Gentype.{Gentype}
use Rattle.cl_builtins.specs.Kinds.{is_same, element_of}
use Rattle.cl_tree.specs.declared.shape.Shape.{Shape}
use Rattle.cl_tree.specs.declared.shape.Shape.TheVariants as shape
use Rattle.cl_rules.specs.declared.rule.Operand.{Operand}
use Rattle.cl_rules.specs.declared.rule.Target.{Target}
use Rattle.cl_rules.specs.declared.rule.Want.TheVariants as want
use Rattle.cl_rules.specs.declared.rule.Head.TheVariants as head
use Rattle.cl_rules.specs.declared.rule.Qualified.{Qualified}
use Rattle.cl_scope.specs.declared.scope.Signature.{Signature}
use Rattle.cl_rules.specs.Operands.{value, seen, type_of}
use Rattle.cl_rules.specs.Operators.{space_or_private}
use Rattle.cl_rules.specs.Calls.{some_no_value, some_no_pointer, wants_of, call_of, is_no_pointee, no_space, in_space, cast_pointer, no_cast, alike_spaces, other_space, cast_value, cast_rule, part_want, is_part, part_count, part_wants, some_no_part, parts_count, is_single, vector, literal, no_size, size_tests}
use Rattle.cl_renaming.specs.Renaming.{type_id, shape_as, want_as, operand_as, judged_as, target_as, qualified_as, signature_as, TellsApart}
use Rattle.cl_renaming.proofs.Shapes.{is_void_as, is_bool_as, is_array_as, is_pointer_as, is_number_as, is_vector_as, type_of_as, seen_as, is_seen_as, converts_as, no_value_as, no_pointer_as}
use Rattle.cl_renaming.proofs.Operators.{if_as, unless_as}

-- ---- calls of functions

pub wants_of_as : (r : ℕ → ℕ) (ts : List TypeId) → wants_of (map (type_id r) ts) ≡ map (want_as r) (wants_of ts)
wants_of_as r [] = refl
wants_of_as r (t ∷ ts) = ap (λ ws. want.Type (type_id r t) ∷ ws) (wants_of_as r ts)

module _ (r : ℕ → ℕ) (d : TellsApart r) where
  pub some_no_value_as : (os : List Operand) (ts : List Target) → some_no_value (map (operand_as r) os) (map (target_as r) ts) ≡ some_no_value os ts
  some_no_value_as [] ts = refl
  some_no_value_as (o ∷ os) [] = refl
  some_no_value_as (o ∷ os) (t ∷ ts) = λ i. no_value_as r d o t i || some_no_value_as os ts i

  pub some_no_pointer_as : (os : List Operand) (ts : List Target) → some_no_pointer (map (operand_as r) os) (map (target_as r) ts) ≡ some_no_pointer os ts
  some_no_pointer_as [] ts = refl
  some_no_pointer_as (o ∷ os) [] = refl
  some_no_pointer_as (o ∷ os) (t ∷ ts) = λ i. no_pointer_as r d o t i || some_no_pointer_as os ts i

  pub call_of_as : (os : List Operand) (ts : List Target) (f : Signature) → call_of (map (operand_as r) os) (map (target_as r) ts) (signature_as r f) ≡ judged_as r (call_of os ts f)
  call_of_as os ts f =
      unless_as r _ _ _ _
      (λ i.
      (311, some_no_value_as os ts i) ∷ (315, not (nat_eq (length-map os (operand_as r) i) (length-map ts (target_as r) i))) ∷ (316, f.kernel) ∷ (317, not f.body)
      ∷ (333, some_no_pointer_as os ts i) ∷ [])
      (λ i. value (wants_of_as r f.params i) (head.Call f.number) (want.Type (type_id r f.result)))

-- ---- casts

module _ (r : ℕ → ℕ) where
  pub is_no_pointee_as : (s : Shape) → is_no_pointee (shape_as r s) ≡ is_no_pointee s
  is_no_pointee_as s = λ i. is_void_as r s i || is_bool_as r s i || is_array_as r s i || is_pointer_as r s i

  in_space_as : (s : Space) (p : Shape) → in_space s (shape_as r p) ≡ in_space s p
  in_space_as s (shape.Pointer s2 to readonly restricted) = refl
  in_space_as s _ = refl

  in_seen_as : (s : Space) (o : Operand) → in_space s (seen (operand_as r o)) ≡ in_space s (seen o)
  in_seen_as s o = ap (in_space s) (seen_as r o) ∙ in_space_as s (seen o)

  alike_spaces_as : (p : Shape) (o : Operand) → alike_spaces (shape_as r p) (seen (operand_as r o)) ≡ alike_spaces p (seen o)
  alike_spaces_as (shape.Pointer s to ro re) o = in_seen_as s o
  alike_spaces_as _ o = refl

  cast_pointer_as : (q : Qualified) (restricted : Bool) (o : Operand) → cast_pointer (qualified_as r q) restricted (operand_as r o) ≡ judged_as r (cast_pointer q restricted o)
  cast_pointer_as q restricted o =
      unless_as r _ _ _ _
      (λ i.
      (303, is_no_pointee_as q.shape i) ∷ (311, not (is_seen_as r o i)) ∷ (326, no_space q true)
      ∷ (333, is_seen_as r o i && not (in_seen_as (space_or_private q.space) o i)) ∷ [])
      refl

  other_space_as : (q : Qualified) (o : Operand) → other_space (qualified_as r q) (operand_as r o) ≡ other_space q o
  other_space_as q o = λ i. is_pointer_as r q.shape i && is_seen_as r o i && not (alike_spaces_as q.shape o i)

module _ (r : ℕ → ℕ) (d : TellsApart r) where
  no_cast_as : (q : Qualified) (o : Operand) → no_cast (qualified_as r q) (operand_as r o) ≡ no_cast q o
  no_cast_as q o = λ i. if is_pointer_as r q.shape i then not (is_seen_as r o i) else not (converts_as r d o.shape o.facts.ty q.shape q.ty i)

  cast_value_as : (q : Qualified) (o : Operand) → cast_value (qualified_as r q) (operand_as r o) ≡ judged_as r (cast_value q o)
  cast_value_as q o =
      unless_as r _ _ _ _
      (λ i. (303, is_void_as r q.shape i || is_array_as r q.shape i) ∷ (311, no_cast_as q o i) ∷ (326, no_space q false) ∷ (333, other_space_as r q o i) ∷ [])
      refl

  pub cast_rule_as : (q : Qualified) (star : Option Bool) (os : List Operand) → cast_rule (qualified_as r q) star (map (operand_as r) os) ≡ judged_as r (cast_rule q star os)
  cast_rule_as q None [] = refl
  cast_rule_as q None (o ∷ []) = cast_value_as q o
  cast_rule_as q None (o ∷ p ∷ os) = refl
  cast_rule_as q (Some restricted) [] = refl
  cast_rule_as q (Some restricted) (o ∷ []) = cast_pointer_as r q restricted o
  cast_rule_as q (Some restricted) (o ∷ p ∷ os) = refl

-- ---- vector literals

module _ (r : ℕ → ℕ) where
  part_want_as : (t : Gentype) (s : Shape) → part_want t (shape_as r s) ≡ want_as r (part_want t s)
  part_want_as t s = if_as (want_as r) _ _ _ _ _ _ (is_number_as r s) refl refl

  part_wants_as : (t : Gentype) (os : List Operand) → part_wants t (map (operand_as r) os) ≡ map (want_as r) (part_wants t os)
  part_wants_as t [] = refl
  part_wants_as t (o ∷ os) = λ i. part_want_as t o.shape i ∷ part_wants_as t os i

  is_part_as : (t : Gentype) (s : Shape) → is_part t (shape_as r s) ≡ is_part t s
  is_part_as t s = λ i. is_number_as r s i || (is_vector_as r s i && is_same (element_of t) (element_of (type_of_as r s i)))

  part_count_as : (s : Shape) → part_count (shape_as r s) ≡ part_count s
  part_count_as s = λ i. if is_vector_as r s i then (type_of_as r s i).count else 1

  some_no_part_as : (t : Gentype) (os : List Operand) → some_no_part t (map (operand_as r) os) ≡ some_no_part t os
  some_no_part_as t [] = refl
  some_no_part_as t (o ∷ os) = λ i. not (is_part_as t o.shape i) || some_no_part_as t os i

  parts_count_as : (os : List Operand) → parts_count (map (operand_as r) os) ≡ parts_count os
  parts_count_as [] = refl
  parts_count_as (o ∷ os) = λ i. part_count_as o.shape i + parts_count_as os i

  is_single_as : (os : List Operand) → is_single (map (operand_as r) os) ≡ is_single os
  is_single_as [] = refl
  is_single_as (o ∷ []) = is_number_as r o.shape
  is_single_as (o ∷ p ∷ os) = refl

  vector_as : (q : Qualified) (os : List Operand) → vector (qualified_as r q) (map (operand_as r) os) ≡ judged_as r (vector q os)
  vector_as q os =
      unless_as r _ _ _ _
      (λ i.
      (303, not (is_vector_as r q.shape i)) ∷ (311, ((λ j. some_no_part (type_of_as r q.shape j) (map (operand_as r) os)) ∙ some_no_part_as (type_of q.shape) os) i)
      ∷ (326, no_space q false) ∷ (331, not (nat_eq (parts_count_as os i) (type_of_as r q.shape i).count) && not (is_single_as os i)) ∷ [])
      (λ i. value (((λ j. part_wants (type_of_as r q.shape j) (map (operand_as r) os)) ∙ part_wants_as (type_of q.shape) os) i) head.Vector (want.Type (type_id r q.ty)))

  pub literal_as : (q : Qualified) (star : Option Bool) (os : List Operand) → literal (qualified_as r q) star (map (operand_as r) os) ≡ judged_as r (literal q star os)
  literal_as q (Some restricted) os = refl
  literal_as q None os = vector_as q os

  -- ---- `sizeof`

  pub no_size_as : (o : Operand) → no_size (operand_as r o) ≡ no_size o
  no_size_as o = λ i. is_void_as r o.shape i || not o.complete

  pub size_tests_as : (q : Qualified) (star : Option Bool) → size_tests (qualified_as r q) star ≡ size_tests q star
  size_tests_as q None = λ i. (303, is_void_as r q.shape i) ∷ (326, no_space q false) ∷ []
  size_tests_as q (Some restricted) = λ i. (303, is_no_pointee_as r q.shape i) ∷ (326, no_space q true) ∷ []
