-- What the rules of `?:`, `[]`, the comma, members and components make is typed by the operands.
use Rattle.std.proofs.Common.{◌≡◌, ℕ, suc, ◌+◌, ◌<◌, ◌≤◌, List, [], ◌∷◌, length, map, refl, sym, ap, ◌∙◌, subst, arith, Bool, true, false, not, ◌&&◌, ◌||◌, if◌then◌else◌, true≢false, nat_eq, nat_lt, inl, inr, Option, Some, None, is_some, bytes_eq, codes, slice_get, All}
use Rattle.std.specs.Cmp.{first_so, second_so}
use Rattle.std.proofs.lemmas.Bool.{and_from, cond-true, cond-false, eqb-true, eq-eqb, lt-ltb, not-false, or_cases}
use Rattle.std.proofs.lemmas.List.Elements.{All-head, All-tail}
use Rattle.cl_types.specs.declared.space.Space.{Space}
use Rattle.cl_types.specs.declared.types.ClType.{ClType}
use Rattle.cl_types.specs.declared.types.Member.{Member}
use Rattle.cl_types.specs.declared.types.TypeId.{TypeId}
use Rattle.cl_types.specs.Layout.{is_width, is_count}
use Rattle.cl_types.specs.Table.{IsTable}
use Rattle.cl_builtins.specs.declared.kind.Gentype.{Gentype}
use Rattle.cl_builtins.specs.Kinds.{is_gentype, is_same, element_of}
use Rattle.cl_tree.specs.declared.expression.Facts.{Facts}
use Rattle.cl_tree.specs.declared.shape.Shape.{Shape}
use Rattle.cl_tree.specs.declared.shape.Shape.TheVariants as shape
use Rattle.cl_tree.specs.Facts.{Lists, shape_at, points_into, are_below, selects}
use Rattle.cl_tree.specs.Facts as tree
use Rattle.cl_tree.specs.Shapes.{shape_of, same_type, is_array, is_struct, is_pointer, is_number, is_vector, members_of}
use Rattle.cl_rules.specs.declared.rule.Head.TheVariants as head
use Rattle.cl_rules.specs.declared.rule.Judged.TheVariants.{Makes}
use Rattle.cl_rules.specs.declared.rule.Made.{Made}
use Rattle.cl_rules.specs.declared.rule.Meeting.{Meeting}
use Rattle.cl_rules.specs.declared.rule.Meeting.TheVariants.{Meet, Unlike, Outranked}
use Rattle.cl_rules.specs.declared.rule.Operand.{Operand}
use Rattle.cl_rules.specs.declared.rule.Want.{Want}
use Rattle.cl_rules.specs.declared.rule.Want.TheVariants as want
use Rattle.cl_rules.specs.Operands.{first_broken, unless, value, place, part, component, integers, pointer_from, seen, to_array, same_target, common, type_of}
use Rattle.cl_rules.specs.Operators.{meet, meets, own_types, pointers_meet}
use Rattle.cl_rules.specs.Parts.{chosen_tests, choice, is_plain, two_pointers, chosen_pointers, chosen_alike, chosen_numbers, chosen, at_index, indexed, comma_at, last_want, comma_wants, last_of, comma, half_of, half, is_half, is_few, within, spelled, selection, repeats, selected, member_from, member_at, member}
use Rattle.cl_make.specs.Ready.{IsReadyOperand}
use Rattle.cl_make.specs.Wanted.{IsWanted}
use Rattle.cl_make.proofs.Growing.{FitsTable, known_fits}
use Rattle.cl_laws.specs.Fitting.{IsAfter, AreAfter, more, IsConvertible, AreConvertible, none_converts, more_convert, RuleFits}
use Rattle.cl_laws.proofs.SameTypes.{shape_wanted, number_wanted}
use Rattle.cl_laws.proofs.Fitted.{by_test, test_kept, tests_kept, kept_when, Fits, FitsIf, fits_made, fits_made_if, fits_unless, NotOwn, after_own, after_wanted, after_two, same_types, one_type_wanted, Becomes, integers_convertible, pointer_convertible, seen_leads, common_leads_first, common_leads_second}
use Rattle.cl_laws.proofs.IntegersFit.{same_itself, vector_is, vector_count, Joins, meet_joins}
use Rattle.cl_laws.proofs.Opening.{facts_of, shape_here, after_first, after_none, own_fits_one, own_fits_two}

-- ---- tests

all_four : (a b c d : Bool) → a ≡ true → b ≡ true → c ≡ true → d ≡ true → (a && b && c && d) ≡ true
all_four a b c d h k m n = and_from (a && b && c) d (and_from (a && b) c (and_from a b h k) m) n

some_none : {A : Type 0} {x : A} → Some x ≡ None → ⊥
some_none e = true≢false (ap is_some e)

-- the test of the condition stands behind the others
chosen_kept : (test : Operand) (ts : List (ℕ × Bool)) → first_broken (chosen_tests test ts) ≡ None → first_broken ts ≡ None
chosen_kept test [] e = refl
chosen_kept test (t ∷ ts) e =
    ap (λ x. if x then Some t.0 else first_broken ts) (test_kept t (chosen_tests test ts) e) ∙ chosen_kept test ts (tests_kept t (chosen_tests test ts) e)

chosen_number : (test : Operand) (ts : List (ℕ × Bool)) → first_broken (chosen_tests test ts) ≡ None → is_number test.shape ≡ true
chosen_number test [] e = not-false (is_number test.shape) (test_kept (318, not (is_number test.shape)) [] e)
chosen_number test (t ∷ ts) e = chosen_number test ts (tests_kept t (chosen_tests test ts) e)

-- arms of which one is a pointer are two pointers to one type
record PointersMeet (p q : Shape) : Type 0 where
  first : is_pointer p ≡ true
  second : is_pointer q ≡ true
  target : same_target p q ≡ true

pointers_kept : (a c : Operand) → first_broken (two_pointers a c) ≡ None → PointersMeet (seen a) (seen c)
pointers_kept a c =
    let p = seen a in
    let q = seen c in
    let arrays : ℕ × Bool = (303, to_array a || to_array c) in
    let targets : ℕ × Bool = (308, not (same_target p q)) in
    by_test (λ ts. first_broken ts ≡ None → PointersMeet p q) (is_pointer p && is_pointer q) (pointers_meet a c) ((308, true) ∷ [])
    (λ h e. record { first = first_so (is_pointer p) (is_pointer q) h; second = second_so (is_pointer p) (is_pointer q) h; target = not-false (same_target p q) (test_kept targets [] (tests_kept arrays (targets ∷ []) e)) })
    (λ h e. absurd (some_none e))

-- ---- what shapes say

pointer_plain : (s : Shape) → is_pointer s ≡ true → is_struct s ≡ false
pointer_plain (shape.Pointer s to ro re) e = refl
pointer_plain s e = absurd (true≢false (sym e))

pointer_whole : (s : Shape) → is_pointer s ≡ true → is_array s ≡ false
pointer_whole (shape.Pointer s to ro re) e = refl
pointer_whole s e = absurd (true≢false (sym e))

plain_whole : (s : Shape) → is_plain s ≡ true → is_array s ≡ false
plain_whole shape.Void e = refl
plain_whole shape.Struct e = refl
plain_whole s e = absurd (true≢false (sym e))

common_pointer : (p q : Shape) → is_pointer p ≡ true → same_target p q ≡ true → is_pointer (common p q) ≡ true
common_pointer (shape.Pointer s to ro re) (shape.Pointer s2 to2 ro2 re2) h e = refl
common_pointer p q h e = absurd (true≢false (sym e))

-- an array that is a place stands for a pointer
array_seen : (lies : Option Space) (readonly : Bool) (s : Shape) → (is_array s && is_some lies) ≡ true → is_pointer (pointer_from lies readonly s) ≡ true
array_seen (Some s) readonly (shape.Array elem len nested) e = refl
array_seen None readonly s e = absurd (true≢false (sym (second_so (is_array s) false e)))
array_seen lies readonly s e = absurd (true≢false (sym e))

-- ---- what is wanted of both arms of a condition

-- it is one type of the table, which is no array
record IsSettled (cs : List ClType) (w : Want) : Type 0 where
  asks : NotOwn w
  one : (t u : TypeId) → IsWanted cs w t → IsWanted cs w u → same_type t u ≡ true
  whole : (t : TypeId) → IsWanted cs w t → is_array (shape_of cs t) ≡ false

settled_type : (cs : List ClType) (t : TypeId) → is_array (shape_of cs t) ≡ false → IsSettled cs (want.Type t)
settled_type cs t n = record {
  asks = tt;
  one = λ u v h k. same_types u v (number_wanted cs t u h ∙ sym (number_wanted cs t v k));
  whole = λ u h. ap (λ z. is_array (shape_of cs z)) (number_wanted cs t u h) ∙ n;
}

settled_shape : (l : Lists) (s : Shape) → IsTable l.types → is_struct s ≡ false → is_array s ≡ false → IsSettled l.types (want.Of s)
settled_shape l s b p n = record {
  asks = tt;
  one = λ u v h k. one_type_wanted l s u v b p h k;
  whole = λ u h. ap is_array (shape_wanted l.types s u h) ∙ n;
}

after_three : (l : Lists) (u v w : Want) (f g h : Facts) (gs : List Facts) (P : List Facts → Type 0) → AreAfter l (u ∷ v ∷ w ∷ []) (f ∷ g ∷ h ∷ []) gs → ((x y z : Facts) → IsAfter l u f x → IsAfter l v g y → IsAfter l w h z → P (x ∷ y ∷ z ∷ [])) → P gs
after_three l u v w f g h gs P (more u0 us f0 x fs xs a r) k = after_two l v w g h xs (λ zs. P (x ∷ zs)) r (λ y z c d. k x y z a c d)

-- ---- members

abbrev IsMemberAt : ℕ → List Member → Option (ℕ × TypeId) → Type 0
IsMemberAt k ms None = Unit {0}
IsMemberAt k ms (Some m) = (j : ℕ) × (x : Member) × (m.0 ≡ k + j) × (slice_get ms j ≡ Some x) × (x.ty ≡ m.1)

one_behind : (k : ℕ) (m : Member) (ms : List Member) (o : Option (ℕ × TypeId)) → IsMemberAt (suc k) ms o → IsMemberAt k (m ∷ ms) o
one_behind k m ms None h = tt
one_behind k m ms (Some f) h = let e = h.2 in (suc h.0, h.1, omega arith, h.3, h.4)

is_member : (k : ℕ) (name : List ℕ) (ms : List Member) → IsMemberAt k ms (member_from k name ms)
is_member k name [] = tt
is_member k name (m ∷ ms) =
    by_test (IsMemberAt k (m ∷ ms)) (bytes_eq name m.name) (Some (k, m.ty)) (member_from (suc k) name ms) (λ e. (0, m, omega arith, refl, refl))
    (λ e. one_behind k m ms (member_from (suc k) name ms) (is_member (suc k) name ms))

-- ---- components

abbrev BelowIf : ℕ → Option (List ℕ) → Type 0
BelowIf n None = Unit {0}
BelowIf n (Some at) = are_below n at ≡ true

within_below : (n : ℕ) (o : Option (List ℕ)) → BelowIf n (within n o)
within_below n None = tt
within_below n (Some at) = by_test (BelowIf n) (is_few (length at) && are_below n at) (Some at) None (λ e. second_so (is_few (length at)) (are_below n at) e) (λ e. tt)

-- a vector has two components, three, or four and more
count_four : (n : ℕ) → is_count n ≡ true → nat_eq n 2 ≡ false → nat_eq n 3 ≡ false → 4 ≤ n
count_four n h f g =
    elim (or_cases (nat_eq n 2 || nat_eq n 3 || nat_eq n 4 || nat_eq n 8) (nat_eq n 16) h) [
      | inr e ↦ (let x = eqb-true n 16 e in omega arith)
      | inl h1 ↦ elim (or_cases (nat_eq n 2 || nat_eq n 3 || nat_eq n 4) (nat_eq n 8) h1) [
        | inr e ↦ (let x = eqb-true n 8 e in omega arith)
        | inl h2 ↦ elim (or_cases (nat_eq n 2 || nat_eq n 3) (nat_eq n 4) h2) [
          | inr e ↦ (let x = eqb-true n 4 e in omega arith)
          | inl h3 ↦ elim (or_cases (nat_eq n 2) (nat_eq n 3) h3) [
            | inr e ↦ absurd (true≢false (sym e ∙ g))
            | inl e ↦ absurd (true≢false (sym e ∙ f))
          ]
        ]
      ]
    ]

half_of_below : (n x y z : ℕ) → is_count n ≡ true → nat_eq n 3 ≡ false → x < 2 → y < 4 → z < 4 → are_below n (half_of n x y z) ≡ true
half_of_below n x y z h k i j m =
    by_test (λ at. are_below n at ≡ true) (nat_eq n 2) (x ∷ []) (y ∷ z ∷ [])
    (λ e. let two = eqb-true n 2 e in and_from (nat_lt x n) true (lt-ltb x n (omega arith)) refl)
    (λ e. let four = count_four n h e k in and_from (nat_lt y n) (nat_lt z n && true) (lt-ltb y n (omega arith)) (and_from (nat_lt z n) true (lt-ltb z n (omega arith)) refl))

half_below : (n : ℕ) (name : List ℕ) → is_count n ≡ true → nat_eq n 3 ≡ false → BelowIf n (half n name)
half_below n name h k =
    by_test (BelowIf n) (bytes_eq name (codes "lo")) (Some (half_of n 0 0 1)) _ (λ e. half_of_below n 0 0 1 h k (omega arith) (omega arith) (omega arith))
    (λ e. by_test (BelowIf n) (bytes_eq name (codes "hi")) (Some (half_of n 1 2 3)) _ (λ e2. half_of_below n 1 2 3 h k (omega arith) (omega arith) (omega arith))
    (λ e2. by_test (BelowIf n) (bytes_eq name (codes "even")) (Some (half_of n 0 0 2)) _ (λ e3. half_of_below n 0 0 2 h k (omega arith) (omega arith) (omega arith))
    (λ e3. by_test (BelowIf n) (bytes_eq name (codes "odd")) (Some (half_of n 1 1 3)) None (λ e4. half_of_below n 1 1 3 h k (omega arith) (omega arith) (omega arith)) (λ e4. tt))))

selection_below : (n : ℕ) (name : List ℕ) → is_count n ≡ true → BelowIf n (selection n name)
selection_below n name h =
    by_test (BelowIf n) (is_half name) (if nat_eq n 3 then None else half n name) (within n (spelled name))
    (λ e. by_test (BelowIf n) (nat_eq n 3) None (half n name) (λ e2. tt) (λ e2. half_below n name h e2)) (λ e. within_below n (spelled name))

module _ (l : Lists) (b : IsTable l.types) where
  number_here : (o : Operand) → IsReadyOperand l.types o → is_number o.shape ≡ true → is_number (shape_at l o.facts) ≡ true
  number_here o r h = shape_here l.types (λ s. is_number s ≡ true) o r h

  -- ---- the condition

  choice_is : (test a c x y z : Facts) (w : Want) (ty : TypeId) → IsSettled l.types w → is_number (shape_at l test) ≡ true → IsWanted l.types w ty → IsAfter l want.Own test x → IsAfter l w a y → IsAfter l w c z → tree.chosen l ty (x ∷ y ∷ z ∷ []) ≡ Some (tree.value ty)
  choice_is test a c x y z w ty s h k f g i =
      let first = after_wanted l w a y s.asks g in
      let second = after_wanted l w c z s.asks i in
      let number = ap (λ v. is_number (shape_at l v)) (sym (after_own l test x f)) ∙ h in
      kept_when (is_number (shape_at l x) && same_type y.ty z.ty && same_type ty y.ty && not (is_array (shape_at l y))) (tree.value ty)
      (all_four (is_number (shape_at l x)) (same_type y.ty z.ty) (same_type ty y.ty) (not (is_array (shape_at l y))) number (s.one y.ty z.ty first second) (s.one ty y.ty k first) (ap not (s.whole y.ty first)))

  choice_fits : (test : Operand) (ts : List (ℕ × Bool)) (a c : Facts) (w : Want) → IsReadyOperand l.types test → first_broken (chosen_tests test ts) ≡ None → IsSettled l.types w → IsConvertible l w a → IsConvertible l w c → RuleFits l (choice w) (test.facts ∷ a ∷ c ∷ [])
  choice_fits test ts a c w r e s h k =
      let f = test.facts in
      record {
        converts = more_convert want.Own (w ∷ w ∷ []) f (a ∷ c ∷ []) tt (more_convert w (w ∷ []) a (c ∷ []) h (more_convert w [] c [] k none_converts));
        gives = λ gs ty after is. after_three l want.Own w w f a c gs (λ zs. tree.chosen l ty zs ≡ Some (tree.value ty)) after (λ x y z i j m. choice_is f a c x y z w ty s (number_here test r (chosen_number test ts e)) is i j m);
      }

  chosen_pointers_fit : (test a c : Operand) → IsReadyOperand l.types test → IsReadyOperand l.types a → IsReadyOperand l.types c → Fits l (test.facts ∷ a.facts ∷ c.facts ∷ []) (chosen_pointers test a c)
  chosen_pointers_fit test a c q r s =
      let p = common (seen a) (seen c) in
      let ts = two_pointers a c in
      fits_unless l (test.facts ∷ a.facts ∷ c.facts ∷ []) (chosen_tests test ts) (choice (want.Of p)) (λ e.
      let m = pointers_kept a c (chosen_kept test ts e) in
      let pointer = common_pointer (seen a) (seen c) m.first m.target in
      let first = common_leads_first (seen a) (seen c) (points_into (shape_at l a.facts) a.facts.lies) m.target (seen_leads l a r m.first) in
      let second = common_leads_second (seen a) (seen c) (points_into (shape_at l c.facts) c.facts.lies) m.target (seen_leads l c s m.second) in
      choice_fits test ts a.facts c.facts (want.Of p) q e (settled_shape l p b (pointer_plain p pointer) (pointer_whole p pointer)) (pointer_convertible l a.facts p first) (pointer_convertible l c.facts p second))

  chosen_alike_fit : (test a c : Operand) → IsReadyOperand l.types test → IsReadyOperand l.types a → (is_plain a.shape && same_type a.facts.ty c.facts.ty) ≡ true → Fits l (test.facts ∷ a.facts ∷ c.facts ∷ []) (chosen_alike test a)
  chosen_alike_fit test a c q r h =
      let own = a.facts.ty in
      let other = c.facts.ty in
      let same = eqb-true own.0 other.0 (second_so (is_plain a.shape) (same_type own other) h) in
      let one : own ≡ other = (λ i. record { 0 = same i }) in
      let whole = shape_here l.types (λ z. is_array z ≡ false) a r (plain_whole a.shape (first_so (is_plain a.shape) (same_type own other) h)) in
      fits_unless l (test.facts ∷ a.facts ∷ c.facts ∷ []) (chosen_tests test []) (choice (want.Type own)) (λ e.
      choice_fits test [] a.facts c.facts (want.Type own) q e (settled_type l.types own whole) (λ ty w n. absurd (n (sym (number_wanted l.types own ty w))))
      (λ ty w n. absurd (n (sym one ∙ sym (number_wanted l.types own ty w)))))

  chosen_numbers_fit : (test a c : Operand) (m : Meeting) → IsReadyOperand l.types test → IsReadyOperand l.types a → IsReadyOperand l.types c → Joins a.shape c.shape m → Fits l (test.facts ∷ a.facts ∷ c.facts ∷ []) (chosen_numbers test m)
  chosen_numbers_fit test a c Unlike q r s h = tt
  chosen_numbers_fit test a c Outranked q r s h = tt
  chosen_numbers_fit test a c (Meet t) q r s h =
      fits_unless l (test.facts ∷ a.facts ∷ c.facts ∷ []) (chosen_tests test (meets (Meet t))) (choice (integers t)) (λ e.
      choice_fits test (meets (Meet t)) a.facts c.facts (integers t) q e (settled_shape l (shape.Integers t) b refl refl)
      (integers_convertible l a.facts t b r.known (shape_here l.types (Becomes t) a r h.0)) (integers_convertible l c.facts t b s.known (shape_here l.types (Becomes t) c s h.1)))

  pub chosen_fits : (test a c : Operand) (m : Made) → IsReadyOperand l.types test → IsReadyOperand l.types a → IsReadyOperand l.types c → chosen test a c ≡ Makes m → RuleFits l m (test.facts ∷ a.facts ∷ c.facts ∷ [])
  chosen_fits test a c m q r s e =
      let fs : List Facts = test.facts ∷ a.facts ∷ c.facts ∷ [] in
      let numbers = chosen_numbers test (meet a.shape c.shape) in
      let alike = is_plain a.shape && same_type a.facts.ty c.facts.ty in
      fits_made l fs (chosen test a c) m e (by_test (Fits l fs) (is_pointer (seen a) || is_pointer (seen c)) (chosen_pointers test a c) (if alike then chosen_alike test a else numbers)
      (λ h. chosen_pointers_fit test a c q r s) (λ h. by_test (Fits l fs) alike (chosen_alike test a) numbers (λ k. chosen_alike_fit test a c q r k)
      (λ k. chosen_numbers_fit test a c (meet a.shape c.shape) q r s (meet_joins a.shape c.shape))))

  -- ---- elements

  -- what is behind a pointer or in an array, by an index that is a number
  index_is : (p : Facts) (i : Operand) (s : Shape) (t ty : TypeId) (f : Facts) → IsReadyOperand l.types i → first_broken ((308, not (is_number i.shape)) ∷ []) ≡ None → shape_at l p ≡ s → tree.dereferenced ty p s ≡ tree.when (same_type ty t) f → IsWanted l.types (want.Type t) ty → tree.indexed l ty (p ∷ i.facts ∷ []) ≡ Some f
  index_is p i s t ty f r h e d w =
      let number = number_here i r (not-false (is_number i.shape) (test_kept (308, not (is_number i.shape)) [] h)) in
      cond-true (is_number (shape_at l i.facts)) (tree.dereferenced ty p (shape_at l p)) None number ∙ ap (tree.dereferenced ty p) e ∙ d
      ∙ kept_when (same_type ty t) f (same_types ty t (number_wanted l.types t ty w))

  at_fits : (p i : Operand) (s : Shape) → IsReadyOperand l.types i → shape_at l p.facts ≡ s → Fits l (p.facts ∷ i.facts ∷ []) (at_index p s i.shape)
  at_fits p i (shape.Array elem len nested) r e =
      let m = part own_types head.Index (want.Type elem) p in
      fits_unless l (p.facts ∷ i.facts ∷ []) ((308, not (is_number i.shape)) ∷ []) m
      (λ h. own_fits_two l m p.facts i.facts refl (λ ty w. index_is p.facts i (shape.Array elem len nested) elem ty (tree.part ty p.facts) r h e refl w))
  at_fits p i (shape.Pointer s to ro re) r e =
      let m = place own_types head.Index (want.Type to) s ro in
      fits_unless l (p.facts ∷ i.facts ∷ []) ((308, not (is_number i.shape)) ∷ []) m
      (λ h. own_fits_two l m p.facts i.facts refl (λ ty w. index_is p.facts i (shape.Pointer s to ro re) to ty (tree.place ty s) r h e refl w))
  at_fits p i s r e = tt

  pub indexed_fits : (p i : Operand) (m : Made) → IsReadyOperand l.types p → IsReadyOperand l.types i → indexed p i ≡ Some (Makes m) → RuleFits l m (p.facts ∷ i.facts ∷ [])
  indexed_fits p i m r s e =
      let fs : List Facts = p.facts ∷ i.facts ∷ [] in
      fits_made_if l fs (indexed p i) m e (by_test (FitsIf l fs) (is_vector p.shape) None (Some (at_index p p.shape i.shape)) (λ h. tt) (λ h. at_fits p i p.shape s (sym r.shape)))

  -- ---- the comma

  last_ready : (o : Operand) (os : List Operand) → All (IsReadyOperand l.types) (o ∷ os) → IsReadyOperand l.types (last_of o os)
  last_ready o [] h = All-head (IsReadyOperand l.types) o [] h
  last_ready o (p ∷ ps) h = last_ready p ps (All-tail (IsReadyOperand l.types) o (p ∷ ps) h)

  comma_converts : (o : Operand) (os : List Operand) → IsConvertible l (last_want (last_of o os)) (last_of o os).facts → AreConvertible l (comma_wants o os) (map facts_of (o ∷ os))
  comma_converts o [] h = more_convert (last_want o) [] o.facts [] h none_converts
  comma_converts o (p ∷ ps) h = more_convert want.Own (comma_wants p ps) o.facts (map facts_of (p ∷ ps)) tt (comma_converts p ps h)

  -- the last operand behind its conversion
  comma_after : (o : Operand) (os : List Operand) (gs : List Facts) → AreAfter l (comma_wants o os) (map facts_of (o ∷ os)) gs → (g : Facts) × (rest : List Facts) × (gs ≡ g ∷ rest) × IsAfter l (last_want (last_of o os)) (last_of o os).facts (tree.last_of g rest)
  comma_after o [] gs a =
      let x = after_first l (last_want o) [] o.facts [] gs a in
      (x.0, [], x.2 ∙ ap (λ z. x.0 ∷ z) (after_none l x.1 x.4), x.3)
  comma_after o (p ∷ ps) gs a =
      let x = after_first l want.Own (comma_wants p ps) o.facts (map facts_of (p ∷ ps)) gs a in
      let y = comma_after p ps x.1 x.4 in
      (x.0, y.0 ∷ y.1, x.2 ∙ ap (λ z. x.0 ∷ z) y.2, y.3)

  -- the comma gives the type of its last operand
  comma_gives : (o : Operand) (os : List Operand) (w v : Want) → last_want (last_of o os) ≡ v → IsConvertible l v (last_of o os).facts → ((g : Facts) (ty : TypeId) → IsAfter l v (last_of o os).facts g → IsWanted l.types w ty → same_type ty g.ty ≡ true) → RuleFits l (value (comma_wants o os) head.Comma w) (map facts_of (o ∷ os))
  comma_gives o os w v e h k =
      let f = (last_of o os).facts in
      record {
        converts = comma_converts o os (subst (λ x. IsConvertible l x f) (sym e) h);
        gives = λ gs ty after wanted.
            let x = comma_after o os gs after in
            let g = tree.last_of x.0 x.1 in
            ap (tree.comma l ty) x.2 ∙ kept_when (same_type ty g.ty) (tree.value ty) (k g ty (subst (λ z. IsAfter l z f g) e x.3) wanted);
      }

  comma_at_fits : (o : Operand) (os : List Operand) → IsReadyOperand l.types (last_of o os) → Fits l (map facts_of (o ∷ os)) (comma_at (comma_wants o os) (last_of o os))
  comma_at_fits o os r =
      let z = last_of o os in
      let fs = map facts_of (o ∷ os) in
      let p = seen z in
      let own = z.facts.ty in
      let stands = is_array z.shape && is_some z.facts.lies in
      let pointed = value (comma_wants o os) head.Comma (want.Of p) in
      by_test (Fits l fs) stands (unless ((303, to_array z) ∷ []) pointed) (Makes (value (comma_wants o os) head.Comma (want.Type own)))
      (λ e.
      let pointer = array_seen z.facts.lies z.readonly z.shape e in
      fits_unless l fs ((303, to_array z) ∷ []) pointed (λ h.
      comma_gives o os (want.Of p) (want.Of p) (cond-true stands (want.Of p) want.Own e) (pointer_convertible l z.facts p (seen_leads l z r pointer))
      (λ g ty after wanted. one_type_wanted l p ty g.ty b (pointer_plain p pointer) wanted (after_wanted l (want.Of p) z.facts g tt after))))
      (λ e. comma_gives o os (want.Type own) want.Own (cond-false stands (want.Of p) want.Own e) tt
      (λ g ty after wanted. same_types ty g.ty (number_wanted l.types own ty wanted ∙ ap (λ f. f.ty) (after_own l z.facts g after))))

  pub comma_fits : (os : List Operand) (m : Made) → All (IsReadyOperand l.types) os → comma os ≡ Some (Makes m) → RuleFits l m (map facts_of os)
  comma_fits [] m r e = absurd (some_none (sym e))
  comma_fits (o ∷ os) m r e = fits_made_if l (map facts_of (o ∷ os)) (comma (o ∷ os)) m e (comma_at_fits o os (last_ready o os r))

  -- ---- members and components

  member_at_fits : (o : Operand) (found : Option (ℕ × TypeId)) → IsMemberAt 0 (members_of l.types o.facts.ty) found → Fits l (o.facts ∷ []) (member_at o found)
  member_at_fits o None h = tt
  member_at_fits o (Some m) h =
      let f = o.facts in
      let ms = members_of l.types f.ty in
      let x = h.1 in
      let number : m.0 ≡ h.0 = (let e = h.2 in omega arith) in
      let is : slice_get ms m.0 ≡ Some x = ap (slice_get ms) number ∙ h.3 in
      own_fits_one l (part (want.Own ∷ []) (head.Member m.0) (want.Type m.1) o) f refl
      (λ ty w. ap (tree.member_of ty f) is ∙ kept_when (same_type ty x.ty) (tree.part ty f) (same_types ty x.ty (number_wanted l.types m.1 ty w ∙ sym h.4)))

  -- components of a vector
  components_fit : (at : List ℕ) (o : Operand) (t : Gentype) → shape_at l o.facts ≡ shape.Integers t → nat_eq t.count 1 ≡ false → are_below t.count at ≡ true → RuleFits l (component (head.Components at) (integers (record t { count = length at })) o) (o.facts ∷ [])
  components_fit at o t e n h =
      let to : Gentype = record t { count = length at } in
      let fine : selects at (shape.Integers t) (shape.Integers to) ≡ true = all_four (not (nat_eq t.count 1)) (is_same (element_of t) (element_of to)) (nat_eq to.count (length at)) (are_below t.count at) (ap not n) (same_itself (element_of t)) (eq-eqb (length at) (length at) refl) h in
      own_fits_one l (component (head.Components at) (integers to) o) o.facts refl
      (λ ty w. let f = shape_wanted l.types (shape.Integers to) ty w in
      kept_when (selects at (shape_at l o.facts) (shape_of l.types ty)) (tree.component ty o.facts) ((λ i. selects at (e i) (f i)) ∙ fine))

  selected_fits : (left : Bool) (o : Operand) (t : Gentype) (at : Option (List ℕ)) → shape_at l o.facts ≡ shape.Integers t → nat_eq t.count 1 ≡ false → BelowIf t.count at → Fits l (o.facts ∷ []) (selected left o t at)
  selected_fits left o t None e n h = tt
  selected_fits left o t (Some at) e n h = fits_unless l (o.facts ∷ []) ((307, left && repeats at) ∷ []) (component (head.Components at) (integers (record t { count = length at })) o) (λ k. components_fit at o t e n h)

  vector_here : (o : Operand) → IsReadyOperand l.types o → is_vector o.shape ≡ true → shape_at l o.facts ≡ shape.Integers (type_of o.shape)
  vector_here o r h = sym r.shape ∙ vector_is o.shape h

  vector_counts : (o : Operand) → IsReadyOperand l.types o → is_vector o.shape ≡ true → is_count (type_of o.shape).count ≡ true
  vector_counts o r h =
      let t = type_of o.shape in
      let fine : is_gentype t ≡ true = subst (FitsTable l.types) (vector_here o r h) (known_fits l.types o.facts.ty b r.known) in
      ap (λ x. x || is_count t.count) (sym (vector_count o.shape h)) ∙ second_so (is_width t.bits) (nat_eq t.count 1 || is_count t.count) fine

  pub member_fits : (left : Bool) (name : List ℕ) (o : Operand) (m : Made) → IsReadyOperand l.types o → member left (members_of l.types o.facts.ty) name o ≡ Makes m → RuleFits l m (o.facts ∷ [])
  member_fits left name o m r e =
      let t = type_of o.shape in
      let ms = members_of l.types o.facts.ty in
      let at = selection t.count name in
      fits_made l (o.facts ∷ []) (member left ms name o) m e (by_test (Fits l (o.facts ∷ [])) (is_vector o.shape) (selected left o t at) (member_at o (member_from 0 name ms))
      (λ h. selected_fits left o t at (vector_here o r h) (vector_count o.shape h) (selection_below t.count name (vector_counts o r h))) (λ h. member_at_fits o (member_from 0 name ms) (is_member 0 name ms)))

  -- a component by its number
  pub component_fits : (k : ℕ) (o : Operand) → IsReadyOperand l.types o → is_vector o.shape ≡ true → k < (type_of o.shape).count → RuleFits l (component (head.Components (k ∷ [])) (integers (element_of (type_of o.shape))) o) (o.facts ∷ [])
  component_fits k o r h low =
      let n = (type_of o.shape).count in
      components_fit (k ∷ []) o (type_of o.shape) (vector_here o r h) (vector_count o.shape h) (and_from (nat_lt k n) true (lt-ltb k n low) refl)
