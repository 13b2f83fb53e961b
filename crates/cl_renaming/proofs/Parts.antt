-- The rules of `?:`, `[]`, the comma, members and components say of operands by other numbers of types what they say of these, by those numbers.
use Rattle.std.proofs.Common.{◌≡◌, ℕ, suc, List, [], ◌∷◌, map, refl, ap, ◌∙◌, Bool, true, not, ◌&&◌, ◌||◌, if◌then◌else◌, Option, Some, None}
use Rattle.std.specs.Prelude.{is_some}
use Rattle.std.specs.Option.{option_map}
use Rattle.cl_types.specs.declared.types.Member.{Member}
use Rattle.cl_types.specs.declared.types.TypeId.{TypeId}
use Rattle.cl_builtins.specs.declared.kind.Gentype.{Gentype}
use Rattle.cl_tree.specs.declared.shape.Shape.{Shape}
use Rattle.cl_tree.specs.declared.shape.Shape.TheVariants as shape
use Rattle.cl_rules.specs.declared.rule.Operand.{Operand}
use Rattle.cl_rules.specs.declared.rule.Want.{Want}
use Rattle.cl_rules.specs.declared.rule.Want.TheVariants as want
use Rattle.cl_rules.specs.declared.rule.Head.TheVariants as head
use Rattle.cl_rules.specs.declared.rule.Judged.TheVariants.{Makes}
use Rattle.cl_rules.specs.declared.rule.Meeting.{Meeting}
use Rattle.cl_rules.specs.Operands.{value, type_of}
use Rattle.cl_rules.specs.Operators.{meet, meets}
use Rattle.cl_rules.specs.Parts.{chosen_tests, choice, two_pointers, chosen_pointers, chosen_alike, chosen_numbers, chosen, at_index, indexed, comma_at, last_want, comma_wants, last_of, comma, repeats, selection, selected, member_from, member_at, member as member_rule}
use Rattle.cl_renaming.specs.Renaming.{type_id, member, shape_as, want_as, operand_as, judged_as, TellsApart}
use Rattle.cl_renaming.proofs.Shapes.{is_void_as, is_array_as, is_struct_as, is_number_as, is_vector_as, type_of_as, seen_as, to_array_as, is_seen_as, same_as}
use Rattle.cl_renaming.proofs.Operators.{if_as, unless_as, meet_as, pointers_meet_as, common_seen_as}

-- ---- `?:`

module _ (r : ℕ → ℕ) where
  chosen_tests_as : (test : Operand) (ts : List (ℕ × Bool)) → chosen_tests (operand_as r test) ts ≡ chosen_tests test ts
  chosen_tests_as test [] = λ i. (318, not (is_number_as r test.shape i)) ∷ []
  chosen_tests_as test (t ∷ ts) = ap (λ z. t ∷ z) (chosen_tests_as test ts)

  chosen_alike_as : (test a : Operand) → chosen_alike (operand_as r test) (operand_as r a) ≡ judged_as r (chosen_alike test a)
  chosen_alike_as test a = unless_as r _ _ _ _ (chosen_tests_as test []) refl

  chosen_numbers_as : (test : Operand) (m : Meeting) → chosen_numbers (operand_as r test) m ≡ judged_as r (chosen_numbers test m)
  chosen_numbers_as test m = unless_as r _ _ _ _ (chosen_tests_as test (meets m)) refl

module _ (r : ℕ → ℕ) (d : TellsApart r) where
  two_pointers_as : (a b : Operand) → two_pointers (operand_as r a) (operand_as r b) ≡ two_pointers a b
  two_pointers_as a b = λ i. if is_seen_as r a i && is_seen_as r b i then pointers_meet_as r d a b i else (308, true) ∷ []

  chosen_pointers_as : (test a b : Operand) → chosen_pointers (operand_as r test) (operand_as r a) (operand_as r b) ≡ judged_as r (chosen_pointers test a b)
  chosen_pointers_as test a b =
      unless_as r _ _ _ _
      (ap (chosen_tests (operand_as r test)) (two_pointers_as a b) ∙ chosen_tests_as r test (two_pointers a b))
      (λ i. choice (want.Of (common_seen_as r d a b i)))

  pub chosen_as : (test a b : Operand) → chosen (operand_as r test) (operand_as r a) (operand_as r b) ≡ judged_as r (chosen test a b)
  chosen_as test a b =
      if_as (judged_as r) _ _ _ _ _ _ (λ i. is_seen_as r a i || is_seen_as r b i)
      (chosen_pointers_as test a b)
      (if_as (judged_as r) _ _ _ _ _ _ (λ i. (is_struct_as r a.shape i || is_void_as r a.shape i) && same_as r d a.facts.ty b.facts.ty i)
      (chosen_alike_as r test a)
      (ap (chosen_numbers (operand_as r test)) (meet_as r a.shape b.shape) ∙ chosen_numbers_as r test (meet a.shape b.shape)))

module _ (r : ℕ → ℕ) where
  -- ---- `[]`

  at_index_as : (p : Operand) (s n : Shape) → at_index (operand_as r p) (shape_as r s) (shape_as r n) ≡ judged_as r (at_index p s n)
  at_index_as p (shape.Pointer s to readonly restricted) n = unless_as r _ _ _ _ (λ i. (308, not (is_number_as r n i)) ∷ []) refl
  at_index_as p (shape.Array elem len nested) n = unless_as r _ _ _ _ (λ i. (308, not (is_number_as r n i)) ∷ []) refl
  at_index_as p _ n = refl

  pub indexed_as : (p i : Operand) → indexed (operand_as r p) (operand_as r i) ≡ option_map (judged_as r) (indexed p i)
  indexed_as p i = if_as (option_map (judged_as r)) _ _ _ _ _ _ (is_vector_as r p.shape) refl (ap Some (at_index_as p p.shape i.shape))

  -- ---- the comma

  comma_at_as : (vs ws : List Want) (o : Operand) → vs ≡ map (want_as r) ws → comma_at vs (operand_as r o) ≡ judged_as r (comma_at ws o)
  comma_at_as vs ws o e =
      if_as (judged_as r) _ _ _ _ _ _ (λ i. is_array_as r o.shape i && is_some o.facts.lies)
      (unless_as r _ _ _ _ (λ i. (303, to_array_as r o i) ∷ []) (λ i. value (e i) head.Comma (want.Of (seen_as r o i))))
      (λ i. Makes (value (e i) head.Comma (want.Type (type_id r o.facts.ty))))

  last_want_as : (o : Operand) → last_want (operand_as r o) ≡ want_as r (last_want o)
  last_want_as o = if_as (want_as r) _ _ _ _ _ _ (λ i. is_array_as r o.shape i && is_some o.facts.lies) (ap want.Of (seen_as r o)) refl

  comma_wants_as : (o : Operand) (os : List Operand) → comma_wants (operand_as r o) (map (operand_as r) os) ≡ map (want_as r) (comma_wants o os)
  comma_wants_as o [] = ap (λ w. w ∷ []) (last_want_as o)
  comma_wants_as o (p ∷ os) = ap (λ ws. want.Own ∷ ws) (comma_wants_as p os)

  last_of_as : (o : Operand) (os : List Operand) → last_of (operand_as r o) (map (operand_as r) os) ≡ operand_as r (last_of o os)
  last_of_as o [] = refl
  last_of_as o (p ∷ os) = last_of_as p os

  pub comma_as : (os : List Operand) → comma (map (operand_as r) os) ≡ option_map (judged_as r) (comma os)
  comma_as [] = refl
  comma_as (o ∷ os) =
      ap Some
      (ap (comma_at (comma_wants (operand_as r o) (map (operand_as r) os))) (last_of_as o os) ∙ comma_at_as _ (comma_wants o os) (last_of o os) (comma_wants_as o os))

  -- ---- members and components

  pub selected_as : (left : Bool) (o : Operand) (t : Gentype) (at : Option (List ℕ)) → selected left (operand_as r o) t at ≡ judged_as r (selected left o t at)
  selected_as left o t None = refl
  selected_as left o t (Some at) = unless_as r ((307, left && repeats at) ∷ []) _ _ _ refl refl

module _ (r : ℕ → ℕ) where
  -- a member's number and its type
  abbrev pub place_as : ℕ × TypeId → ℕ × TypeId
  place_as m = (m.0, type_id r m.1)

  pub member_from_as : (k : ℕ) (name : List ℕ) (ms : List Member) → member_from k name (map (member r) ms) ≡ option_map place_as (member_from k name ms)
  member_from_as k name [] = refl
  member_from_as k name (m ∷ ms) = if_as (option_map place_as) _ _ _ _ _ _ refl refl (member_from_as (suc k) name ms)

  member_at_as : (o : Operand) (m : Option (ℕ × TypeId)) → member_at (operand_as r o) (option_map place_as m) ≡ judged_as r (member_at o m)
  member_at_as o None = refl
  member_at_as o (Some m) = refl

  pub member_as : (left : Bool) (ms : List Member) (name : List ℕ) (o : Operand) → member_rule left (map (member r) ms) name (operand_as r o) ≡ judged_as r (member_rule left ms name o)
  member_as left ms name o =
      if_as (judged_as r) _ _ _ _ _ _ (is_vector_as r o.shape)
      (ap (λ t. selected left (operand_as r o) t (selection t.count name)) (type_of_as r o.shape) ∙ selected_as r left o (type_of o.shape) (selection (type_of o.shape).count name))
      (ap (member_at (operand_as r o)) (member_from_as 0 name ms) ∙ member_at_as o (member_from 0 name ms))
