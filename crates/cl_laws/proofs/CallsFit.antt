-- What the rules of calls, casts and vector literals make is typed by the operands.
use Rattle.std.proofs.Common.{◌≡◌, ℕ, ◌+◌, List, [], ◌∷◌, length, map, refl, sym, ap, ◌∙◌, subst, arith, Bool, true, false, not, ◌&&◌, ◌||◌, true≢false, nat_eq, if◌then◌else◌, inl, inr, Option, Some, None, slice_get, All}
use Rattle.std.specs.Cmp.{first_so, second_so}
use Rattle.std.proofs.lemmas.Bool.{and_from, and_cases, cond-true, cond-false, eqb-true, eq-eqb, not-false, or_left, or_right, or_parts}
use Rattle.std.proofs.lemmas.List.Elements.{All-head, All-tail}
use Rattle.cl_types.specs.declared.types.TypeId.{TypeId}
use Rattle.cl_builtins.specs.declared.kind.Gentype.{Gentype}
use Rattle.cl_builtins.specs.Kinds.{is_same, element_of}
use Rattle.cl_tree.specs.declared.expression.Facts.{Facts}
use Rattle.cl_tree.specs.declared.shape.Shape.{Shape}
use Rattle.cl_tree.specs.declared.shape.Shape.TheVariants as shape
use Rattle.cl_tree.specs.Facts.{Lists, shape_at, converts_to, is_of, count_of, counts, all_of, makes_vector}
use Rattle.cl_tree.specs.Facts as tree
use Rattle.cl_tree.specs.Shapes.{shape_of, same_type, same_space, is_void, is_array, is_pointer, is_number, is_vector, converts}
use Rattle.cl_rules.specs.declared.rule.Head.TheVariants as head
use Rattle.cl_rules.specs.declared.rule.Judged.TheVariants.{Makes}
use Rattle.cl_rules.specs.declared.rule.Made.{Made}
use Rattle.cl_rules.specs.declared.rule.Operand.{Operand}
use Rattle.cl_rules.specs.declared.rule.Qualified.{Qualified}
use Rattle.cl_rules.specs.declared.rule.Want.{Want}
use Rattle.cl_rules.specs.declared.rule.Want.TheVariants as want
use Rattle.cl_rules.specs.Operands.{value, integers, seen, adds_const, type_of, no_value, no_pointer}
use Rattle.cl_rules.specs.Operators.{space_or_private}
use Rattle.cl_rules.specs.Calls.{some_no_value, some_no_pointer, wants_of, call_of, is_no_pointee, pointer_to, no_space, in_space, cast_pointer, no_cast, alike_spaces, other_space, cast_value, cast_rule, is_part, part_count, want_of, part_wants, some_no_part, parts_count, is_single, vector, literal}
use Rattle.cl_scope.specs.declared.scope.Signature.{Signature}
use Rattle.cl_make.specs.Ready.{IsReadyOperand, IsReadyType}
use Rattle.cl_make.specs.Wanted.{target, IsWanted}
use Rattle.cl_laws.specs.Fitting.{IsAfter, AreAfter, IsConvertible, AreConvertible, none_converts, more_convert, RuleFits}
use Rattle.cl_laws.proofs.SameTypes.{shape_wanted, number_wanted}
use Rattle.cl_laws.proofs.Fitted.{by_test, test_kept, tests_kept, kept_when, Fits, fits_made, fits_unless, after_own, after_wanted, same_types, into_other, number_converts}
use Rattle.cl_laws.proofs.IntegersFit.{same_itself, vector_is, vector_count}
use Rattle.cl_laws.proofs.Opening.{facts_of, shape_here, after_first, after_none, own_fits_one, alike_converts}

-- ---- words on tests

-- of two words that are not both true, and one that is
not_both : (x y : Bool) → x ≡ true → (x && not y) ≡ false → y ≡ true
not_both true true e h = refl
not_both true false e h = absurd (true≢false h)
not_both false y e h = absurd (true≢false (sym e))

-- ---- what shapes say

number_single : (s : Shape) → is_number s ≡ true → is_vector s ≡ false
number_single shape.Bool e = refl
number_single (shape.Integers t) e = ap not e
number_single s e = absurd (true≢false (sym e))

-- a pointer with `const` added points into the same address space
adds_alike : (p q : Shape) → adds_const p q ≡ true → alike_spaces q p ≡ true
adds_alike (shape.Pointer s to ro re) (shape.Pointer z to2 ro2 re2) e =
    into_other z s (first_so (same_space s z) (same_type to to2) (first_so (same_space s z && same_type to to2) (ro2 || not ro) e))
adds_alike p q e = absurd (true≢false (sym e))

-- a part of a vector of these is a vector where it is no number
vector_part : (t : Gentype) (s : Shape) → is_number s ≡ false → is_part t s ≡ true → (is_vector s && is_same (element_of t) (element_of (type_of s))) ≡ true
vector_part t s n h = sym (ap (λ x. x || (is_vector s && is_same (element_of t) (element_of (type_of s)))) n) ∙ h

module _ (l : Lists) where
  -- ---- arguments

  -- an operand of which no rule says that it doesn't convert
  pub target_converts : (o : Operand) (t : TypeId) (p : Shape) → IsReadyOperand l.types o → no_value o (record { ty = t; shape = p }) ≡ false → no_pointer o (record { ty = t; shape = p }) ≡ false → converts_to l o.facts t p ≡ true
  target_converts o t (shape.Pointer s to ro re) r h k =
      let p : Shape = shape.Pointer s to ro re in
      let points = not-false (is_pointer (seen o)) h in
      alike_converts l o p t r points (adds_alike (seen o) p (not_both (is_pointer (seen o)) (adds_const (seen o) p) points k))
  target_converts o t p r h k = shape_here l.types (λ s. converts s o.facts.ty p t ≡ true) o r (not-false (converts o.shape o.facts.ty p t) h)

  type_convertible : (t : TypeId) (f : Facts) → converts_to l f t (shape_of l.types t) ≡ true → IsConvertible l (want.Type t) f
  type_convertible t f h = λ ty w n. subst (λ z. converts_to l f z (shape_of l.types z) ≡ true) (sym (number_wanted l.types t ty w)) h

  arguments_convert : (os : List Operand) (ts : List TypeId) → All (IsReadyOperand l.types) os → length os ≡ length (map (target l.types) ts) → some_no_value os (map (target l.types) ts) ≡ false → some_no_pointer os (map (target l.types) ts) ≡ false → AreConvertible l (wants_of ts) (map facts_of os)
  arguments_convert [] [] r e h k = none_converts
  arguments_convert [] (t ∷ ts) r e h k = absurd (omega arith)
  arguments_convert (o ∷ os) [] r e h k = absurd (omega arith)
  arguments_convert (o ∷ os) (t ∷ ts) r e h k =
      let us = map (target l.types) ts in
      let values = or_parts (no_value o (target l.types t)) (some_no_value os us) h in
      let pointers = or_parts (no_pointer o (target l.types t)) (some_no_pointer os us) k in
      more_convert (want.Type t) (wants_of ts) o.facts (map facts_of os) (type_convertible t o.facts (target_converts o t (shape_of l.types t) (All-head (IsReadyOperand l.types) o os r) values.0 pointers.0))
      (arguments_convert os ts (All-tail (IsReadyOperand l.types) o os r) (omega arith) values.1 pointers.1)

  -- arguments behind their conversions have the types of the parameters
  arguments_after : (ts : List TypeId) (fs gs : List Facts) → AreAfter l (wants_of ts) fs gs → tree.same_types ts gs ≡ true
  arguments_after [] [] gs a = ap (tree.same_types []) (after_none l gs a)
  arguments_after [] (f ∷ fs) gs a = elim a [ ]
  arguments_after (t ∷ ts) [] gs a = elim a [ ]
  arguments_after (t ∷ ts) (f ∷ fs) gs a =
      let x = after_first l (want.Type t) (wants_of ts) f fs gs a in
      let g = x.0 in
      let is = number_wanted l.types t g.ty (after_wanted l (want.Type t) f g tt x.3) in
      ap (tree.same_types (t ∷ ts)) x.2 ∙ and_from (same_type t g.ty) (tree.same_types ts x.1) (same_types t g.ty (sym is)) (arguments_after ts fs x.1 x.4)

  -- ---- calls

  pub call_fits : (os : List Operand) (f : Signature) (m : Made) → All (IsReadyOperand l.types) os → slice_get l.functions f.number ≡ Some (record { params = f.params; result = f.result; kernel = f.kernel }) → call_of os (map (target l.types) f.params) f ≡ Makes m → RuleFits l m (map facts_of os)
  call_fits os f m r there e =
      let ts = map (target l.types) f.params in
      let fs = map facts_of os in
      let pointers : List (ℕ × Bool) = (333, some_no_pointer os ts) ∷ [] in
      let bodies : List (ℕ × Bool) = (317, not f.body) ∷ pointers in
      let kernels : List (ℕ × Bool) = (316, f.kernel) ∷ bodies in
      let lengths : List (ℕ × Bool) = (315, not (nat_eq (length os) (length ts))) ∷ kernels in
      fits_made l fs (call_of os ts f) m e (fits_unless l fs ((311, some_no_value os ts) ∷ lengths) (value (wants_of f.params) (head.Call f.number) (want.Type f.result)) (λ h.
      let first = tests_kept (311, some_no_value os ts) lengths h in
      let second = tests_kept (315, not (nat_eq (length os) (length ts))) kernels first in
      let third = tests_kept (316, f.kernel) bodies second in
      let fourth = tests_kept (317, not f.body) pointers third in
      let same = eqb-true (length os) (length ts) (not-false (nat_eq (length os) (length ts)) (test_kept (315, not (nat_eq (length os) (length ts))) kernels first)) in
      record {
        converts = arguments_convert os f.params r same (test_kept (311, some_no_value os ts) lengths h) (test_kept (333, some_no_pointer os ts) [] fourth);
        gives = λ gs ty after w.
            let result = same_types ty f.result (number_wanted l.types f.result ty w) in
            let tests = and_from (not f.kernel && same_type ty f.result) (tree.same_types f.params gs) (and_from (not f.kernel) (same_type ty f.result) (ap not (test_kept (316, f.kernel) bodies second)) result) (arguments_after f.params fs gs after) in
            ap (λ c. tree.called l ty c gs) there ∙ kept_when (not f.kernel && same_type ty f.result && tree.same_types f.params gs) (tree.value ty) tests;
      }))

  -- ---- casts

  -- an operand that converts to the type of a node
  cast_gives : (o : Operand) (w : Want) → ((ty : TypeId) → IsWanted l.types w ty → converts_to l o.facts ty (shape_of l.types ty) ≡ true) → RuleFits l (value (want.Own ∷ []) head.Convert w) (o.facts ∷ [])
  cast_gives o w h = own_fits_one l (value (want.Own ∷ []) head.Convert w) o.facts refl (λ ty k. kept_when (converts_to l o.facts ty (shape_of l.types ty)) (tree.value ty) (h ty k))

  cast_pointer_fits : (q : Qualified) (restricted : Bool) (o : Operand) → IsReadyOperand l.types o → Fits l (o.facts ∷ []) (cast_pointer q restricted o)
  cast_pointer_fits q restricted o r =
      let s = space_or_private q.space in
      let pointer = is_pointer (seen o) in
      let last : List (ℕ × Bool) = (333, pointer && not (in_space s (seen o))) ∷ [] in
      let third : List (ℕ × Bool) = (326, no_space q true) ∷ last in
      let second : List (ℕ × Bool) = (311, not pointer) ∷ third in
      fits_unless l (o.facts ∷ []) ((303, is_no_pointee q.shape) ∷ second) (value (want.Own ∷ []) head.Convert (want.Of (pointer_to q restricted))) (λ h.
      let h2 = tests_kept (303, is_no_pointee q.shape) second h in
      let h3 = tests_kept (311, not pointer) third h2 in
      let h4 = tests_kept (326, no_space q true) last h3 in
      let points = not-false pointer (test_kept (311, not pointer) third h2) in
      let inside = not_both pointer (in_space s (seen o)) points (test_kept (333, pointer && not (in_space s (seen o))) [] h4) in
      cast_gives o (want.Of (pointer_to q restricted)) (λ ty w. subst (λ z. converts_to l o.facts ty z ≡ true) (sym (shape_wanted l.types (pointer_to q restricted) ty w)) (alike_converts l o (pointer_to q restricted) ty r points inside)))

  -- what a cast by value converts to
  cast_converts : (o : Operand) (t : TypeId) (p : Shape) → IsReadyOperand l.types o → (if is_pointer p then not (is_pointer (seen o)) else not (converts o.shape o.facts.ty p t)) ≡ false → (is_pointer p && is_pointer (seen o) && not (alike_spaces p (seen o))) ≡ false → converts_to l o.facts t p ≡ true
  cast_converts o t (shape.Pointer s to ro re) r h k =
      let p : Shape = shape.Pointer s to ro re in
      let points = not-false (is_pointer (seen o)) h in
      alike_converts l o p t r points (not_both (is_pointer (seen o)) (alike_spaces p (seen o)) points k)
  cast_converts o t p r h k = shape_here l.types (λ s. converts s o.facts.ty p t ≡ true) o r (not-false (converts o.shape o.facts.ty p t) h)

  cast_value_fits : (q : Qualified) (o : Operand) → IsReadyType l.types q → IsReadyOperand l.types o → Fits l (o.facts ∷ []) (cast_value q o)
  cast_value_fits q o t r =
      let whole = is_void q.shape || is_array q.shape in
      let last : List (ℕ × Bool) = (333, other_space q o) ∷ [] in
      let third : List (ℕ × Bool) = (326, no_space q false) ∷ last in
      let second : List (ℕ × Bool) = (311, no_cast q o) ∷ third in
      fits_unless l (o.facts ∷ []) ((303, whole) ∷ second) (value (want.Own ∷ []) head.Convert (want.Type q.ty)) (λ h.
      let h2 = tests_kept (303, whole) second h in
      let h3 = tests_kept (311, no_cast q o) third h2 in
      let h4 = tests_kept (326, no_space q false) last h3 in
      let inside = cast_converts o q.ty q.shape r (test_kept (311, no_cast q o) third h2) (test_kept (333, other_space q o) [] h4) in
      let shaped = subst (λ s. converts_to l o.facts q.ty s ≡ true) t.shape inside in
      cast_gives o (want.Type q.ty) (λ ty w. subst (λ z. converts_to l o.facts z (shape_of l.types z) ≡ true) (sym (number_wanted l.types q.ty ty w)) shaped))

  cast_rule_fits : (q : Qualified) (star : Option Bool) (os : List Operand) → IsReadyType l.types q → All (IsReadyOperand l.types) os → Fits l (map facts_of os) (cast_rule q star os)
  cast_rule_fits q None [] t r = tt
  cast_rule_fits q None (o ∷ []) t r = cast_value_fits q o t (All-head (IsReadyOperand l.types) o [] r)
  cast_rule_fits q None (o ∷ p ∷ os) t r = tt
  cast_rule_fits q (Some restricted) [] t r = tt
  cast_rule_fits q (Some restricted) (o ∷ []) t r = cast_pointer_fits q restricted o (All-head (IsReadyOperand l.types) o [] r)
  cast_rule_fits q (Some restricted) (o ∷ p ∷ os) t r = tt

  pub cast_fits : (q : Qualified) (star : Option Bool) (os : List Operand) (m : Made) → IsReadyType l.types q → All (IsReadyOperand l.types) os → cast_rule q star os ≡ Makes m → RuleFits l m (map facts_of os)
  cast_fits q star os m t r e = fits_made l (map facts_of os) (cast_rule q star os) m e (cast_rule_fits q star os t r)

  -- ---- vector literals

  parts_convert : (t : Gentype) (os : List Operand) → All (IsReadyOperand l.types) os → AreConvertible l (part_wants t os) (map facts_of os)
  parts_convert t [] r = none_converts
  parts_convert t (o ∷ os) r =
      let ready = All-head (IsReadyOperand l.types) o os r in
      more_convert (want_of t o) (part_wants t os) o.facts (map facts_of os)
      (by_test (λ w. IsConvertible l w o.facts) (is_number o.shape) (integers (element_of t)) want.Own
      (λ e ty w n. number_converts l o.facts (element_of t) ty (shape_here l.types (λ s. is_number s ≡ true) o ready e) (shape_wanted l.types (shape.Integers (element_of t)) ty w)) (λ e. tt)) (parts_convert t os (All-tail (IsReadyOperand l.types) o os r))

  -- a part of a vector of these, by its shape behind its conversion
  abbrev IsPartOf : Gentype → ℕ → Shape → Type 0
  IsPartOf t n s = (is_of t s ≡ true) × (count_of s ≡ n)

  part_after : (t : Gentype) (o : Operand) (g : Facts) → IsReadyOperand l.types o → is_part t o.shape ≡ true → IsAfter l (want_of t o) o.facts g → IsPartOf t (part_count o.shape) (shape_at l g)
  part_after t o g r h =
      by_test (λ w. IsAfter l w o.facts g → IsPartOf t (part_count o.shape) (shape_at l g)) (is_number o.shape) (integers (element_of t)) want.Own
      (λ e a.
      let is = shape_wanted l.types (shape.Integers (element_of t)) g.ty (after_wanted l (integers (element_of t)) o.facts g tt a) in
      let one = cond-false (is_vector o.shape) (type_of o.shape).count 1 (number_single o.shape e) in
      subst (IsPartOf t (part_count o.shape)) (sym is) (same_itself (element_of t), sym one))
      (λ e a.
      let both = vector_part t o.shape e h in
      let many = first_so (is_vector o.shape) (is_same (element_of t) (element_of (type_of o.shape))) both in
      let same = second_so (is_vector o.shape) (is_same (element_of t) (element_of (type_of o.shape))) both in
      let all = cond-true (is_vector o.shape) (type_of o.shape).count 1 many in
      let is : shape_at l g ≡ shape.Integers (type_of o.shape) = ap (shape_at l) (sym (after_own l o.facts g a)) ∙ sym r.shape ∙ vector_is o.shape many in
      subst (IsPartOf t (part_count o.shape)) (sym is) (same, sym all))

  parts_after : (t : Gentype) (os : List Operand) (gs : List Facts) → All (IsReadyOperand l.types) os → some_no_part t os ≡ false → AreAfter l (part_wants t os) (map facts_of os) gs → (all_of l t gs ≡ true) × (counts l gs ≡ parts_count os)
  parts_after t [] gs r h a = subst (λ zs. (all_of l t zs ≡ true) × (counts l zs ≡ 0)) (sym (after_none l gs a)) (refl, refl)
  parts_after t (o ∷ os) gs r h a =
      let x = after_first l (want_of t o) (part_wants t os) o.facts (map facts_of os) gs a in
      let g = x.0 in
      let rest = or_parts (not (is_part t o.shape)) (some_no_part t os) h in
      let here = part_after t o g (All-head (IsReadyOperand l.types) o os r) (not-false (is_part t o.shape) rest.0) x.3 in
      let behind = parts_after t os x.1 (All-tail (IsReadyOperand l.types) o os r) rest.1 x.4 in
      subst (λ zs. (all_of l t zs ≡ true) × (counts l zs ≡ part_count o.shape + parts_count os)) (sym x.2)
      (and_from (is_of t (shape_at l g)) (all_of l t x.1) here.0 behind.0, (λ i. here.1 i + behind.1 i))

  single_counts : (os : List Operand) → is_single os ≡ true → parts_count os ≡ 1
  single_counts [] e = absurd (true≢false (sym e))
  single_counts (o ∷ []) e = let one = cond-false (is_vector o.shape) (type_of o.shape).count 1 (number_single o.shape e) in omega arith
  single_counts (o ∷ p ∷ os) e = absurd (true≢false (sym e))

  -- as many components as the vector has, or one for all
  enough : (n k : ℕ) (os : List Operand) → n ≡ parts_count os → (not (nat_eq (parts_count os) k) && not (is_single os)) ≡ false → (nat_eq n k || nat_eq n 1) ≡ true
  enough n k os e h =
      elim (and_cases (not (nat_eq (parts_count os) k)) (not (is_single os)) h) [
        | inl f ↦ or_left (nat_eq n k) (nat_eq n 1) (ap (λ z. nat_eq z k) e ∙ not-false (nat_eq (parts_count os) k) f)
        | inr f ↦ or_right (nat_eq n k) (nat_eq n 1) (eq-eqb n 1 (e ∙ single_counts os (not-false (is_single os) f)))
      ]

  vector_fits : (q : Qualified) (os : List Operand) → IsReadyType l.types q → All (IsReadyOperand l.types) os → Fits l (map facts_of os) (vector q os)
  vector_fits q os ready r =
      let t = type_of q.shape in
      let fs = map facts_of os in
      let few = not (nat_eq (parts_count os) t.count) && not (is_single os) in
      let last : List (ℕ × Bool) = (331, few) ∷ [] in
      let third : List (ℕ × Bool) = (326, no_space q false) ∷ last in
      let second : List (ℕ × Bool) = (311, some_no_part t os) ∷ third in
      fits_unless l fs ((303, not (is_vector q.shape)) ∷ second) (value (part_wants t os) head.Vector (want.Type q.ty)) (λ h.
      let h2 = tests_kept (303, not (is_vector q.shape)) second h in
      let h3 = tests_kept (311, some_no_part t os) third h2 in
      let h4 = tests_kept (326, no_space q false) last h3 in
      let many = not-false (is_vector q.shape) (test_kept (303, not (is_vector q.shape)) second h) in
      record {
        converts = parts_convert t os r;
        gives = λ gs ty after w.
            let parts = parts_after t os gs r (test_kept (311, some_no_part t os) third h2) after in
            let sum = enough (counts l gs) t.count os parts.1 (test_kept (331, few) [] h4) in
            let is : shape_of l.types ty ≡ shape.Integers t = ap (shape_of l.types) (number_wanted l.types q.ty ty w) ∙ sym ready.shape ∙ vector_is q.shape many in
            let count = nat_eq (counts l gs) t.count || nat_eq (counts l gs) 1 in
            let fits : makes_vector l gs (shape.Integers t) ≡ true = and_from (not (nat_eq t.count 1) && all_of l t gs) count (and_from (not (nat_eq t.count 1)) (all_of l t gs) (ap not (vector_count q.shape many)) parts.0) sum in
            kept_when (makes_vector l gs (shape_of l.types ty)) (tree.value ty) (ap (makes_vector l gs) is ∙ fits);
      })

  pub literal_fits : (q : Qualified) (star : Option Bool) (os : List Operand) (m : Made) → IsReadyType l.types q → All (IsReadyOperand l.types) os → literal q star os ≡ Makes m → RuleFits l m (map facts_of os)
  literal_fits q star os m ready r e = fits_made l (map facts_of os) (literal q star os) m e (by star)
    where
      by : (s : Option Bool) → Fits l (map facts_of os) (literal q s os)
      by None = vector_fits q os ready r
      by (Some restricted) = tt
