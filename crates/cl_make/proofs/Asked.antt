-- What a rule makes of operands of a table can be made: it asks of each for a type that the table has or can take.
use Rattle.std.proofs.Common.{◌≡◌, ℕ, zero, suc, ◌<◌, ◌≤◌, List, [], ◌∷◌, length, map, refl, sym, ap, ◌∙◌, subst, arith, Bool, true, false, not, ◌&&◌, ◌||◌, if◌then◌else◌, true≢false, nat_eq, nat_lt, nat_le, Option, Some, None, is_some, bytes_eq, codes, All, ltb-true, leb-true}
use Rattle.std.specs.Cmp.{first_so, second_so}
use Rattle.std.proofs.lemmas.Bool.{and_from, eqb-true}
use Rattle.std.proofs.lemmas.List.Elements.{All-head, All-tail, All-weaker, All-map}
use Rattle.cl_types.specs.declared.space.Space.{Space}
use Rattle.cl_types.specs.declared.operator.UnOp.{UnOp}
use Rattle.cl_types.specs.declared.operator.UnOp.TheVariants as un
use Rattle.cl_types.specs.declared.operator.BinOp.{BinOp}
use Rattle.cl_types.specs.declared.operator.BinOp.TheVariants as bin
use Rattle.cl_types.specs.declared.types.ClType.{ClType}
use Rattle.cl_types.specs.declared.types.Member.{Member}
use Rattle.cl_types.specs.declared.types.TypeId.{TypeId}
use Rattle.cl_types.specs.Layout.{is_width, is_count}
use Rattle.cl_types.specs.Table.{IsTable}
use Rattle.cl_builtins.specs.declared.kind.Gentype.{Gentype}
use Rattle.cl_builtins.specs.Found.{IsKnown, AreKnown}
use Rattle.cl_builtins.specs.Kinds.{int, is_gentype, is_same, element_of, usual, greater}
use Rattle.cl_builtins.specs.Kinds as kinds
use Rattle.cl_tree.specs.declared.expression.Facts.{Facts}
use Rattle.cl_tree.specs.declared.shape.Shape.{Shape}
use Rattle.cl_tree.specs.declared.shape.Shape.TheVariants as shape
use Rattle.cl_tree.specs.Shapes.{shape_of, is_void, is_bool, is_array, is_pointer, is_number, is_vector, is_steppable, same_type, promoted, rank, relation_type, members_of}
use Rattle.cl_tree.specs.Facts.{has_address, are_below}
use Rattle.cl_tree.specs.Units.{is_object, is_pointee}
use Rattle.cl_rules.specs.declared.rule.Amount.TheVariants.{Wanted, NoAmount, TooWide}
use Rattle.cl_rules.specs.declared.rule.Changing.{Changing}
use Rattle.cl_rules.specs.declared.rule.Head.{Head}
use Rattle.cl_rules.specs.declared.rule.Head.TheVariants as head
use Rattle.cl_rules.specs.declared.rule.Judged.{Judged}
use Rattle.cl_rules.specs.declared.rule.Judged.TheVariants.{Broken, Makes}
use Rattle.cl_rules.specs.declared.rule.Made.{Made}
use Rattle.cl_rules.specs.declared.rule.Meeting.{Meeting}
use Rattle.cl_rules.specs.declared.rule.Meeting.TheVariants.{Meet, Unlike, Outranked}
use Rattle.cl_rules.specs.declared.rule.Operand.{Operand}
use Rattle.cl_rules.specs.declared.rule.Qualified.{Qualified}
use Rattle.cl_rules.specs.declared.rule.Target.{Target}
use Rattle.cl_rules.specs.declared.rule.Want.{Want}
use Rattle.cl_rules.specs.declared.rule.Want.TheVariants as want
use Rattle.cl_rules.specs.Operands.{first_broken, unless_at, unless, value, place, part, component, integers, pointer_from, seen, is_nested, to_array, same_target, common, type_of, is_arithmetic, no_value, no_pointer, type_at}
use Rattle.cl_rules.specs.Operators.{signed, negated, dereferenced, space_or_private, addressed, is_fixed, stepped, unary, beside, alike_vectors, meet, met, meets, both, own_types, calculated, pointers_meet, apart, compared, related, joined, amount_beside, amount, is_none, outranks, amount_wanted, shifted, moved, added, subtracted, binary, assigned, changing, fits, unfit, meets_back, shifts_back, adds_back, subtracts_back, changes, assignment}
use Rattle.cl_rules.specs.Parts.{chosen_tests, choice, two_pointers, chosen_pointers, chosen_alike, chosen_numbers, is_plain, chosen, at_index, indexed, comma_at, last_want, comma_wants, last_of, comma, half_of, half, is_half, is_few, within, spelled, selection, repeats, selected, member_from, member_at, member}
use Rattle.cl_rules.specs.Calls.{some_no_value, some_no_pointer, wants_of, call_of, is_no_pointee, pointer_to, no_space, in_space, cast_pointer, no_cast, other_space, cast_value, cast_rule, part_wants, some_no_part, parts_count, is_single, literal}
use Rattle.cl_scope.specs.declared.scope.Signature.{Signature}
use Rattle.cl_make.specs.declared.typed.Typed.{Typed}
use Rattle.cl_make.specs.Ready.{IsReadyOperand, IsReady, AreReady, IsReadyType, operand_in}
use Rattle.cl_make.specs.Wanted.{IsAskableShape, IsAskable, AreAskable, IsGivable, IsAsked}
use Rattle.cl_make.proofs.Growing.{MembersKnown, FitsTable, known_fits, known_members}

-- ---- tests

not_true : (b : Bool) → not b ≡ true → b ≡ false
not_true true h = absurd (true≢false (sym h))
not_true false h = refl

not_false : (b : Bool) → not b ≡ false → b ≡ true
not_false true h = refl
not_false false h = absurd (true≢false h)

or_first : (a b : Bool) → (a || b) ≡ false → a ≡ false
or_first true b h = absurd (true≢false h)
or_first false b h = refl

or_second : (a b : Bool) → (a || b) ≡ false → b ≡ false
or_second true b h = absurd (true≢false h)
or_second false b h = h

by_test : {A : Type 0} (P : A → Type 0) (b : Bool) (x y : A) → (b ≡ true → P x) → (b ≡ false → P y) → P (if b then x else y)
by_test P true x y f g = f refl
by_test P false x y f g = g refl

-- the first of tests that are all kept, and the others
some_none : {A : Type 0} {x : A} → Some x ≡ None → ⊥
some_none e = true≢false (ap is_some e)

test_kept : (t : ℕ × Bool) (ts : List (ℕ × Bool)) → first_broken (t ∷ ts) ≡ None → t.1 ≡ false
test_kept t ts h = by t.1 h
  where
    by : (b : Bool) → (if b then Some t.0 else first_broken ts) ≡ None → b ≡ false
    by true e = absurd (some_none e)
    by false e = refl

tests_kept : (t : ℕ × Bool) (ts : List (ℕ × Bool)) → first_broken (t ∷ ts) ≡ None → first_broken ts ≡ None
tests_kept t ts h = by t.1 h
  where
    by : (b : Bool) → (if b then Some t.0 else first_broken ts) ≡ None → first_broken ts ≡ None
    by true e = absurd (some_none e)
    by false e = e

-- ---- integer types that a table can have

fine_type : (cs : List ClType) (s : Shape) → FitsTable cs s → is_gentype (type_of s) ≡ true
fine_type cs shape.Void h = refl
fine_type cs shape.Bool h = refl
fine_type cs (shape.Integers t) h = h
fine_type cs (shape.Array elem len nested) h = refl
fine_type cs shape.Struct h = refl
fine_type cs (shape.Pointer space to readonly restricted) h = refl

abbrev IsFine : Gentype → Type 0
IsFine t = is_gentype t ≡ true

fine_promoted : (t : Gentype) → IsFine t → IsFine (promoted t)
fine_promoted t h = by_test IsFine (nat_eq t.count 1 && nat_lt t.bits 32) int t (λ e. refl) (λ e. h)

fine_scalar : (t : Gentype) → IsFine t → IsFine (kinds.promoted t)
fine_scalar t h = by_test IsFine (nat_lt t.bits 32) int t (λ e. refl) (λ e. h)

fine_greater : (a b : Gentype) → IsFine a → IsFine b → IsFine (greater a b)
fine_greater a b h k =
    by_test IsFine (nat_lt a.bits b.bits) b (if nat_lt b.bits a.bits then a else if a.signed then b else a) (λ e. k)
    (λ e. by_test IsFine (nat_lt b.bits a.bits) a (if a.signed then b else a) (λ f. h) (λ f. by_test IsFine a.signed b a (λ i. k) (λ i. h)))

fine_usual : (a b : Gentype) → IsFine a → IsFine b → IsFine (usual a b)
fine_usual a b h k = fine_greater (kinds.promoted a) (kinds.promoted b) (fine_scalar a h) (fine_scalar b k)

fine_relation : (t : Gentype) → IsFine t → IsFine (relation_type t)
fine_relation t h = by_test IsFine (nat_eq t.count 1) int (record t { signed = true }) (λ e. refl) (λ e. h)

fine_count : (t : Gentype) (n : ℕ) → IsFine t → (nat_eq n 1 || is_count n) ≡ true → IsFine (record t { count = n })
fine_count t n h k = and_from (is_width t.bits) (nat_eq n 1 || is_count n) (first_so (is_width t.bits) (nat_eq t.count 1 || is_count t.count) h) k

fine_element : (t : Gentype) → IsFine t → IsFine (element_of t)
fine_element t h = fine_count t 1 h refl

abbrev MeetsFine : Meeting → Type 0
MeetsFine (Meet t) = IsFine t
MeetsFine Unlike = Unit {0}
MeetsFine Outranked = Unit {0}

fine_met : (m : Meeting) → MeetsFine m → IsFine (met m)
fine_met (Meet t) h = h
fine_met Unlike h = refl
fine_met Outranked h = refl

fine_beside : (t : Gentype) (s : Shape) → IsFine t → MeetsFine (beside t s)
fine_beside t s h = by_test MeetsFine (nat_lt t.bits (rank s)) Outranked (Meet t) (λ e. tt) (λ e. h)

fine_alike : (t x : Gentype) → IsFine t → MeetsFine (alike_vectors t x)
fine_alike t x h = by_test MeetsFine (is_same t x) (Meet t) Unlike (λ e. h) (λ e. tt)

-- ---- pointers

pointee : (s : Shape) → is_void s ≡ false → is_bool s ≡ false → is_array s ≡ false → is_pointer s ≡ false → is_pointee s ≡ true
pointee shape.Void v b a p = absurd (true≢false v)
pointee shape.Bool v b a p = absurd (true≢false b)
pointee (shape.Integers t) v b a p = refl
pointee (shape.Array elem len nested) v b a p = absurd (true≢false a)
pointee shape.Struct v b a p = refl
pointee (shape.Pointer space to readonly restricted) v b a p = absurd (true≢false p)

addressed_pointee : (f : Facts) (s : Shape) → has_address f s ≡ true → is_pointee s ≡ true
addressed_pointee f s h =
    let lies = is_some f.lies && not f.component in
    let a = first_so (lies && not (is_void s) && not (is_bool s) && not (is_array s)) (not (is_pointer s)) h in
    let b = first_so (lies && not (is_void s) && not (is_bool s)) (not (is_array s)) a in
    let c = first_so (lies && not (is_void s)) (not (is_bool s)) b in
    pointee s (not_true (is_void s) (second_so lies (not (is_void s)) c)) (not_true (is_bool s) (second_so (lies && not (is_void s)) (not (is_bool s)) b))
    (not_true (is_array s) (second_so (lies && not (is_void s) && not (is_bool s)) (not (is_array s)) a)) (not_true (is_pointer s) (second_so (lies && not (is_void s) && not (is_bool s) && not (is_array s)) (not (is_pointer s)) h))

named_pointee : (s : Shape) → is_no_pointee s ≡ false → is_pointee s ≡ true
named_pointee s h =
    let a = or_first (is_void s || is_bool s || is_array s) (is_pointer s) h in
    let b = or_first (is_void s || is_bool s) (is_array s) a in
    pointee s (or_first (is_void s) (is_bool s) b) (or_second (is_void s) (is_bool s) b) (or_second (is_void s || is_bool s) (is_array s) a) (or_second (is_void s || is_bool s || is_array s) (is_pointer s) h)

-- an element that is no array itself
element_pointee : (s : Shape) → is_object s ≡ true → is_array s ≡ false → is_pointee s ≡ true
element_pointee s h k = and_from (is_object s) (not (is_array s)) h (ap not k)

common_askable : (cs : List ClType) (p q : Shape) → same_target p q ≡ true → IsAskableShape cs p → IsAskableShape cs (common p q)
common_askable cs (shape.Pointer s to ro re) (shape.Pointer s2 to2 ro2 re2) e h = h
common_askable cs (shape.Pointer s to ro re) shape.Void e h = h
common_askable cs (shape.Pointer s to ro re) shape.Bool e h = h
common_askable cs (shape.Pointer s to ro re) (shape.Integers t) e h = h
common_askable cs (shape.Pointer s to ro re) (shape.Array elem len nested) e h = h
common_askable cs (shape.Pointer s to ro re) shape.Struct e h = h
common_askable cs shape.Void q e h = h
common_askable cs shape.Bool q e h = h
common_askable cs (shape.Integers t) q e h = h
common_askable cs (shape.Array elem len nested) q e h = h
common_askable cs shape.Struct q e h = h

-- ---- what rules make

-- where it is made, it can be made of so many operands
abbrev pub Asked : List ClType → ℕ → Judged → Type 0
Asked cs n (Broken code) = Unit {0}
Asked cs n (Makes m) = IsAsked cs m n

abbrev pub AskedIf : List ClType → ℕ → Option Judged → Type 0
AskedIf cs n None = Unit {0}
AskedIf cs n (Some j) = Asked cs n j

pub asked_made : (cs : List ClType) (n : ℕ) (j : Judged) (m : Made) → j ≡ Makes m → Asked cs n j → IsAsked cs m n
asked_made cs n j m e h = subst (Asked cs n) e h

pub asked_made_if : (cs : List ClType) (n : ℕ) (j : Option Judged) (m : Made) → j ≡ Some (Makes m) → AskedIf cs n j → IsAsked cs m n
asked_made_if cs n j m e h = subst (AskedIf cs n) e h

asked_unless : (cs : List ClType) (n : ℕ) (tests : List (ℕ × Bool)) (made : Made) → (first_broken tests ≡ None → IsAsked cs made n) → Asked cs n (unless tests made)
asked_unless cs n tests made h = by (first_broken tests) h
  where
    by : (o : Option ℕ) → (o ≡ None → IsAsked cs made n) → Asked cs n (unless_at o made)
    by None f = f refl
    by (Some code) f = tt

-- the test of the condition stands behind the others
kept_first : (t : ℕ × Bool) (ts : List (ℕ × Bool)) → t.1 ≡ false → first_broken ts ≡ None → first_broken (t ∷ ts) ≡ None
kept_first t ts h k = ap (λ x. if x then Some t.0 else first_broken ts) h ∙ k

chosen_kept : (test : Operand) (ts : List (ℕ × Bool)) → first_broken (chosen_tests test ts) ≡ None → first_broken ts ≡ None
chosen_kept test [] e = refl
chosen_kept test (t ∷ ts) e = kept_first t ts (test_kept t (chosen_tests test ts) e) (chosen_kept test ts (tests_kept t (chosen_tests test ts) e))

array_seen : (lies : Option Space) (readonly : Bool) (s : Shape) → (is_array s && is_some lies) ≡ true → is_pointer (pointer_from lies readonly s) ≡ true
array_seen lies readonly shape.Void e = absurd (true≢false (sym e))
array_seen lies readonly shape.Bool e = absurd (true≢false (sym e))
array_seen lies readonly (shape.Integers t) e = absurd (true≢false (sym e))
array_seen None readonly (shape.Array elem len nested) e = absurd (true≢false (sym e))
array_seen (Some s) readonly (shape.Array elem len nested) e = refl
array_seen lies readonly shape.Struct e = absurd (true≢false (sym e))
array_seen lies readonly (shape.Pointer space to ro re) e = absurd (true≢false (sym e))

comma_length : (o : Operand) (os : List Operand) → length (comma_wants o os) ≡ suc (length os)
comma_length o [] = refl
comma_length o (p ∷ ps) = ap suc (comma_length p ps)

wants_length : (ts : List TypeId) → length (wants_of ts) ≡ length ts
wants_length [] = refl
wants_length (t ∷ ts) = ap suc (wants_length ts)

parts_length : (t : Gentype) (os : List Operand) → length (part_wants t os) ≡ length os
parts_length t [] = refl
parts_length t (o ∷ os) = ap suc (parts_length t os)

-- as many components as a type can have
abbrev Counts : List ℕ → Type 0
Counts at = (nat_eq (length at) 1 || is_count (length at)) ≡ true

abbrev CountsIf : Option (List ℕ) → Type 0
CountsIf None = Unit {0}
CountsIf (Some at) = Counts at

few_count : (k : ℕ) → 0 < k → k ≤ 4 → (nat_eq k 1 || is_count k) ≡ true
few_count zero l h = absurd (omega arith)
few_count (suc zero) l h = refl
few_count (suc (suc zero)) l h = refl
few_count (suc (suc (suc zero))) l h = refl
few_count (suc (suc (suc (suc zero)))) l h = refl
few_count (suc (suc (suc (suc (suc k))))) l h = absurd (omega arith)

within_counts : (n : ℕ) (o : Option (List ℕ)) → CountsIf (within n o)
within_counts n None = tt
within_counts n (Some at) = by_test CountsIf (is_few (length at) && are_below n at) (Some at) None (λ e.
    let f = first_so (is_few (length at)) (are_below n at) e in
    few_count (length at) (ltb-true 0 (length at) (first_so (nat_lt 0 (length at)) (nat_le (length at) 4) f)) (leb-true (length at) 4 (second_so (nat_lt 0 (length at)) (nat_le (length at) 4) f))) (λ e. tt)

half_of_counts : (n x y z : ℕ) → Counts (half_of n x y z)
half_of_counts n x y z = by_test Counts (nat_eq n 2) (x ∷ []) (y ∷ z ∷ []) (λ e. refl) (λ e. refl)

half_counts : (n : ℕ) (name : List ℕ) → CountsIf (half n name)
half_counts n name =
    by_test CountsIf (bytes_eq name (codes "lo")) (Some (half_of n 0 0 1)) _ (λ e. half_of_counts n 0 0 1)
    (λ e. by_test CountsIf (bytes_eq name (codes "hi")) (Some (half_of n 1 2 3)) _ (λ e2. half_of_counts n 1 2 3)
    (λ e2. by_test CountsIf (bytes_eq name (codes "even")) (Some (half_of n 0 0 2)) _ (λ e3. half_of_counts n 0 0 2)
    (λ e3. by_test CountsIf (bytes_eq name (codes "odd")) (Some (half_of n 1 1 3)) None (λ e4. half_of_counts n 1 1 3) (λ e4. tt))))

selection_counts : (n : ℕ) (name : List ℕ) → CountsIf (selection n name)
selection_counts n name =
    by_test CountsIf (is_half name) (if nat_eq n 3 then None else half n name) (within n (spelled name)) (λ e. by_test CountsIf (nat_eq n 3) None (half n name) (λ e2. tt) (λ e2. half_counts n name))
    (λ e. within_counts n (spelled name))

-- what is wanted of the value of a compound assignment
abbrev Back : List ClType → Changing → Type 0
Back cs c = IsAskable cs c.wanted

abbrev KnownIf : List ClType → Option (ℕ × TypeId) → Type 0
KnownIf cs None = Unit {0}
KnownIf cs (Some m) = IsKnown cs m.1

module _ (cs : List ClType) (b : IsTable cs) where
  operand_fits : (o : Operand) → IsReadyOperand cs o → FitsTable cs o.shape
  operand_fits o r = subst (FitsTable cs) (sym r.shape) (known_fits cs o.facts.ty b r.known)

  operand_fine : (o : Operand) → IsReadyOperand cs o → IsFine (type_of o.shape)
  operand_fine o r = fine_type cs o.shape (operand_fits o r)

  -- a pointer that an operand is or stands for
  seen_from : (lies : Option Space) (readonly : Bool) (s : Shape) → FitsTable cs s → is_pointer (pointer_from lies readonly s) ≡ true → (is_some lies && is_nested s) ≡ false → IsAskableShape cs (pointer_from lies readonly s)
  seen_from None readonly shape.Void h p e = absurd (true≢false (sym p))
  seen_from None readonly shape.Bool h p e = absurd (true≢false (sym p))
  seen_from None readonly (shape.Integers t) h p e = absurd (true≢false (sym p))
  seen_from None readonly (shape.Array elem len nested) h p e = absurd (true≢false (sym p))
  seen_from None readonly shape.Struct h p e = absurd (true≢false (sym p))
  seen_from None readonly (shape.Pointer space to ro re) h p e = h
  seen_from (Some s) readonly shape.Void h p e = absurd (true≢false (sym p))
  seen_from (Some s) readonly shape.Bool h p e = absurd (true≢false (sym p))
  seen_from (Some s) readonly (shape.Integers t) h p e = absurd (true≢false (sym p))
  seen_from (Some s) readonly (shape.Array elem len nested) h p e = (h.0, λ a. element_pointee (shape_of cs elem) (h.1 a) (sym h.2 ∙ e))
  seen_from (Some s) readonly shape.Struct h p e = absurd (true≢false (sym p))
  seen_from (Some s) readonly (shape.Pointer space to ro re) h p e = h

  pub seen_askable : (o : Operand) → IsReadyOperand cs o → is_pointer (seen o) ≡ true → to_array o ≡ false → IsAskableShape cs (seen o)
  seen_askable o r p e = seen_from o.facts.lies o.readonly o.shape (operand_fits o r) p e

  -- ---- operators on one operand

  signed_asked : (op : UnOp) (o : Operand) → IsReadyOperand cs o → Asked cs 1 (signed op o)
  signed_asked op o r = asked_unless cs 1 ((308, not (is_arithmetic o.shape)) ∷ []) (value (integers (promoted (type_of o.shape)) ∷ []) (head.Unary op) (integers (promoted (type_of o.shape)))) (λ e. let f = fine_promoted (type_of o.shape) (operand_fine o r) in record { wants = (f, tt); gives = f; each = refl })

  negated_asked : (o : Operand) → Asked cs 1 (negated o)
  negated_asked o = asked_unless cs 1 ((308, not (is_number o.shape)) ∷ []) (value (want.Own ∷ []) (head.Unary un.LogicalNot) (integers int)) (λ e. record { wants = (tt, tt); gives = refl; each = refl })

  reached_asked : (o : Operand) (s : Shape) → FitsTable cs s → Asked cs 1 (dereferenced o s)
  reached_asked o shape.Void h = tt
  reached_asked o shape.Bool h = tt
  reached_asked o (shape.Integers t) h = tt
  reached_asked o (shape.Array elem len nested) h = record { wants = (tt, tt); gives = h.0; each = refl }
  reached_asked o shape.Struct h = tt
  reached_asked o (shape.Pointer space to readonly restricted) h = record { wants = (tt, tt); gives = h.0; each = refl }

  pub dereferenced_asked : (o : Operand) → IsReadyOperand cs o → Asked cs 1 (dereferenced o o.shape)
  dereferenced_asked o r = reached_asked o o.shape (operand_fits o r)

  addressed_asked : (o : Operand) → IsReadyOperand cs o → Asked cs 1 (addressed o)
  addressed_asked o r = asked_unless cs 1 ((312, not (has_address o.facts o.shape)) ∷ []) (value (want.Own ∷ []) (head.Unary un.Address) (want.Of (shape.Pointer (space_or_private o.facts.lies) o.facts.ty o.readonly false))) (λ e. record {
    wants = (tt, tt);
    gives = (r.known, λ a. subst (λ s. is_pointee s ≡ true) r.shape (addressed_pointee o.facts o.shape (not_false (has_address o.facts o.shape) (test_kept (312, not (has_address o.facts o.shape)) [] e))));
    each = refl;
  })

  stepped_asked : (op : UnOp) (o : Operand) → IsReadyOperand cs o → Asked cs 1 (stepped op o)
  stepped_asked op o r = asked_unless cs 1 ((308, not (is_steppable o.shape)) ∷ (310, is_fixed o) ∷ []) (value (want.Own ∷ []) (head.Unary op) (want.Type o.facts.ty)) (λ e. record { wants = (tt, tt); gives = r.known; each = refl })

  pub unary_asked : (op : UnOp) (o : Operand) → IsReadyOperand cs o → AskedIf cs 1 (unary op o)
  unary_asked un.Plus o r = signed_asked un.Plus o r
  unary_asked un.Minus o r = signed_asked un.Minus o r
  unary_asked un.Not o r = signed_asked un.Not o r
  unary_asked un.LogicalNot o r = negated_asked o
  unary_asked un.Deref o r = dereferenced_asked o r
  unary_asked un.Address o r = addressed_asked o r
  unary_asked un.PreInc o r = stepped_asked un.PreInc o r
  unary_asked un.PreDec o r = stepped_asked un.PreDec o r
  unary_asked un.PostInc o r = stepped_asked un.PostInc o r
  unary_asked un.PostDec o r = stepped_asked un.PostDec o r
  unary_asked un.Sizeof o r = tt

  -- ---- operators between two operands

  meet_fine : (x y : Shape) → FitsTable cs x → FitsTable cs y → MeetsFine (meet x y)
  meet_fine x y h k =
      let f = fine_type cs x h in
      let g = fine_type cs y k in
      by_test MeetsFine (is_number x && is_number y) (Meet (usual (type_of x) (type_of y))) _ (λ e. fine_usual (type_of x) (type_of y) f g)
      (λ e. by_test MeetsFine (is_vector x && is_vector y) (alike_vectors (type_of x) (type_of y)) _ (λ e2. fine_alike (type_of x) (type_of y) f)
      (λ e2. by_test MeetsFine (is_vector x && is_number y) (beside (type_of x) y) _ (λ e3. fine_beside (type_of x) y f)
      (λ e3. by_test MeetsFine (is_number x && is_vector y) (beside (type_of y) x) Unlike (λ e4. fine_beside (type_of y) x g) (λ e4. tt))))

  operands_meet : (x y : Operand) → IsReadyOperand cs x → IsReadyOperand cs y → MeetsFine (meet x.shape y.shape)
  operands_meet x y r s = meet_fine x.shape y.shape (operand_fits x r) (operand_fits y s)

  calculated_asked : (op : BinOp) (m : Meeting) → MeetsFine m → Asked cs 2 (calculated op m)
  calculated_asked op m h = asked_unless cs 2 (meets m) (value (both (integers (met m))) (head.Binary op) (integers (met m))) (λ e. let f = fine_met m h in record { wants = (f, (f, tt)); gives = f; each = refl })

  compared_asked : (op : BinOp) (m : Meeting) → MeetsFine m → Asked cs 2 (compared op m)
  compared_asked op m h = asked_unless cs 2 (meets m) (value (both (integers (met m))) (head.Binary op) (integers (relation_type (met m)))) (λ e. let f = fine_met m h in record { wants = (f, (f, tt)); gives = fine_relation (met m) f; each = refl })

  -- two pointers that meet are of a type that can be asked for
  meeting_askable : (x y : Operand) → IsReadyOperand cs x → is_pointer (seen x) ≡ true → first_broken (pointers_meet x y) ≡ None → IsAskableShape cs (common (seen x) (seen y))
  meeting_askable x y r p e =
      let rest : List (ℕ × Bool) = (308, not (same_target (seen x) (seen y))) ∷ [] in
      let arrays = test_kept (303, to_array x || to_array y) rest e in
      let alike = test_kept (308, not (same_target (seen x) (seen y))) [] (tests_kept (303, to_array x || to_array y) rest e) in
      common_askable cs (seen x) (seen y) (not_false (same_target (seen x) (seen y)) alike) (seen_askable x r p (or_first (to_array x) (to_array y) arrays))

  apart_asked : (op : BinOp) (x y : Operand) → IsReadyOperand cs x → is_pointer (seen x) ≡ true → Asked cs 2 (apart op x y)
  apart_asked op x y r p = asked_unless cs 2 (pointers_meet x y) (value (both (want.Of (common (seen x) (seen y)))) (head.Binary op) (integers int)) (λ e. let f = meeting_askable x y r p e in record { wants = (f, (f, tt)); gives = refl; each = refl })

  related_asked : (op : BinOp) (x y : Operand) → IsReadyOperand cs x → IsReadyOperand cs y → Asked cs 2 (related op x y)
  related_asked op x y r s =
      by_test (Asked cs 2) (is_pointer (seen x) && is_pointer (seen y)) (apart op x y) (compared op (meet x.shape y.shape))
      (λ e. apart_asked op x y r (first_so (is_pointer (seen x)) (is_pointer (seen y)) e)) (λ e. compared_asked op (meet x.shape y.shape) (operands_meet x y r s))

  joined_asked : (op : BinOp) (x y : Operand) → Asked cs 2 (joined op x y)
  joined_asked op x y = asked_unless cs 2 ((308, not (is_number x.shape && is_number y.shape)) ∷ []) (value own_types (head.Binary op) (integers int)) (λ e. record { wants = (tt, (tt, tt)); gives = refl; each = refl })

  beside_askable : (t : Gentype) (s : Shape) → IsFine t → IsAskable cs (amount_wanted (amount_beside t s))
  beside_askable t s h = by_test (λ a. IsAskable cs (amount_wanted a)) (nat_lt t.bits (rank s)) TooWide (Wanted (integers t)) (λ e. tt) (λ e. h)

  amount_askable : (x y : Shape) → FitsTable cs x → FitsTable cs y → IsAskable cs (amount_wanted (amount x y))
  amount_askable x y h k =
      by_test (λ a. IsAskable cs (amount_wanted a)) (is_number x && is_number y) (Wanted (integers (promoted (type_of y)))) _ (λ e. fine_promoted (type_of y) (fine_type cs y k))
      (λ e. by_test (λ a. IsAskable cs (amount_wanted a)) (is_vector x && is_vector y) (if nat_eq (type_of x).count (type_of y).count then Wanted want.Own else NoAmount) _
      (λ e2. by_test (λ a. IsAskable cs (amount_wanted a)) (nat_eq (type_of x).count (type_of y).count) (Wanted want.Own) NoAmount (λ e3. tt) (λ e3. tt))
      (λ e2. by_test (λ a. IsAskable cs (amount_wanted a)) (is_vector x && is_number y) (amount_beside (type_of x) y) NoAmount (λ e3. beside_askable (type_of x) y (fine_type cs x h)) (λ e3. tt)))

  shifted_asked : (op : BinOp) (x y : Shape) → FitsTable cs x → FitsTable cs y → Asked cs 2 (shifted op x y)
  shifted_asked op x y h k = asked_unless cs 2 ((308, is_none (amount x y)) ∷ (309, outranks (amount x y)) ∷ []) (value (integers (promoted (type_of x)) ∷ amount_wanted (amount x y) ∷ []) (head.Binary op) (integers (promoted (type_of x)))) (λ e. let f = fine_promoted (type_of x) (fine_type cs x h) in record { wants = (f, (amount_askable x y h k, tt)); gives = f; each = refl })

  moved_asked : (op : BinOp) (o : Operand) (first second : Want) → IsReadyOperand cs o → is_pointer (seen o) ≡ true → (IsAskableShape cs (seen o) → IsAskable cs first) → (IsAskableShape cs (seen o) → IsAskable cs second) → Asked cs 2 (moved op o (first ∷ second ∷ []))
  moved_asked op o first second r p f g = asked_unless cs 2 ((303, to_array o) ∷ []) (value (first ∷ second ∷ []) (head.Binary op) (want.Of (seen o))) (λ e. let s = seen_askable o r p (test_kept (303, to_array o) [] e) in record { wants = (f s, (g s, tt)); gives = s; each = refl })

  added_asked : (x y : Operand) → IsReadyOperand cs x → IsReadyOperand cs y → Asked cs 2 (added x y)
  added_asked x y r s =
      by_test (Asked cs 2) (is_pointer (seen x) && is_number y.shape) (moved bin.Add x (want.Of (seen x) ∷ want.Own ∷ []))
      (if is_number x.shape && is_pointer (seen y) then moved bin.Add y (want.Own ∷ want.Of (seen y) ∷ []) else calculated bin.Add (meet x.shape y.shape))
      (λ e. moved_asked bin.Add x (want.Of (seen x)) want.Own r (first_so (is_pointer (seen x)) (is_number y.shape) e) (λ f. f) (λ f. tt))
      (λ e. by_test (Asked cs 2) (is_number x.shape && is_pointer (seen y)) (moved bin.Add y (want.Own ∷ want.Of (seen y) ∷ [])) (calculated bin.Add (meet x.shape y.shape))
      (λ e2. moved_asked bin.Add y want.Own (want.Of (seen y)) s (second_so (is_number x.shape) (is_pointer (seen y)) e2) (λ f. tt) (λ f. f))
      (λ e2. calculated_asked bin.Add (meet x.shape y.shape) (operands_meet x y r s)))

  subtracted_asked : (x y : Operand) → IsReadyOperand cs x → IsReadyOperand cs y → Asked cs 2 (subtracted x y)
  subtracted_asked x y r s =
      by_test (Asked cs 2) (is_pointer (seen x) && is_number y.shape) (moved bin.Sub x (want.Of (seen x) ∷ want.Own ∷ []))
      (if is_pointer (seen x) && is_pointer (seen y) then apart bin.Sub x y else calculated bin.Sub (meet x.shape y.shape))
      (λ e. moved_asked bin.Sub x (want.Of (seen x)) want.Own r (first_so (is_pointer (seen x)) (is_number y.shape) e) (λ f. f) (λ f. tt))
      (λ e. by_test (Asked cs 2) (is_pointer (seen x) && is_pointer (seen y)) (apart bin.Sub x y) (calculated bin.Sub (meet x.shape y.shape))
      (λ e2. apart_asked bin.Sub x y r (first_so (is_pointer (seen x)) (is_pointer (seen y)) e2))
      (λ e2. calculated_asked bin.Sub (meet x.shape y.shape) (operands_meet x y r s)))

  pub binary_asked : (op : BinOp) (x y : Operand) → IsReadyOperand cs x → IsReadyOperand cs y → Asked cs 2 (binary op x y)
  binary_asked bin.Add x y r s = added_asked x y r s
  binary_asked bin.Sub x y r s = subtracted_asked x y r s
  binary_asked bin.Shl x y r s = shifted_asked bin.Shl x.shape y.shape (operand_fits x r) (operand_fits y s)
  binary_asked bin.Shr x y r s = shifted_asked bin.Shr x.shape y.shape (operand_fits x r) (operand_fits y s)
  binary_asked bin.Less x y r s = related_asked bin.Less x y r s
  binary_asked bin.Greater x y r s = related_asked bin.Greater x y r s
  binary_asked bin.LessEqual x y r s = related_asked bin.LessEqual x y r s
  binary_asked bin.GreaterEqual x y r s = related_asked bin.GreaterEqual x y r s
  binary_asked bin.Equal x y r s = related_asked bin.Equal x y r s
  binary_asked bin.NotEqual x y r s = related_asked bin.NotEqual x y r s
  binary_asked bin.LogicalAnd x y r s = joined_asked bin.LogicalAnd x y
  binary_asked bin.LogicalOr x y r s = joined_asked bin.LogicalOr x y
  binary_asked bin.Mul x y r s = calculated_asked bin.Mul (meet x.shape y.shape) (operands_meet x y r s)
  binary_asked bin.Div x y r s = calculated_asked bin.Div (meet x.shape y.shape) (operands_meet x y r s)
  binary_asked bin.Rem x y r s = calculated_asked bin.Rem (meet x.shape y.shape) (operands_meet x y r s)
  binary_asked bin.And x y r s = calculated_asked bin.And (meet x.shape y.shape) (operands_meet x y r s)
  binary_asked bin.Xor x y r s = calculated_asked bin.Xor (meet x.shape y.shape) (operands_meet x y r s)
  binary_asked bin.Or x y r s = calculated_asked bin.Or (meet x.shape y.shape) (operands_meet x y r s)

  -- ---- assignments

  assigned_asked : (p v : Operand) → IsReadyOperand cs p → Asked cs 2 (assigned p v)
  assigned_asked p v r = asked_unless cs 2 ((310, is_fixed p) ∷ (311, no_value v (type_at p)) ∷ (333, no_pointer v (type_at p)) ∷ []) (value (want.Own ∷ want.Type p.facts.ty ∷ []) (head.Assign None) (want.Type p.facts.ty)) (λ e. record { wants = (tt, (r.known, tt)); gives = r.known; each = refl })

  changing_asked : (op : BinOp) (p : Operand) (c : Changing) → IsReadyOperand cs p → IsAskable cs c.wanted → Asked cs 2 (changing op p c)
  changing_asked op p c r h = asked_unless cs 2 ((303, c.to_arrays) ∷ (308, c.no_type) ∷ (309, c.outranked) ∷ (310, is_fixed p) ∷ (311, c.no_way_back) ∷ []) (value (want.Own ∷ c.wanted ∷ []) (head.Assign (Some op)) (want.Type p.facts.ty)) (λ e. record { wants = (tt, (h, tt)); gives = r.known; each = refl })

  calculates_askable : (p v : Operand) → IsReadyOperand cs p → IsReadyOperand cs v → Back cs (meets_back p.shape (meet p.shape v.shape))
  calculates_askable p v r s = fine_met (meet p.shape v.shape) (operands_meet p v r s)

  adds_askable : (p v : Operand) → IsReadyOperand cs p → IsReadyOperand cs v → Back cs (adds_back p v)
  adds_askable p v r s =
      by_test (Back cs) (is_pointer p.shape) (if is_number v.shape then fits want.Own else unfit)
      (if is_number p.shape && is_pointer (seen v) then record (fits want.Own) { to_arrays = to_array v; no_way_back = true } else meets_back p.shape (meet p.shape v.shape))
      (λ e. by_test (Back cs) (is_number v.shape) (fits want.Own) unfit (λ e2. tt) (λ e2. tt))
      (λ e. by_test (Back cs) (is_number p.shape && is_pointer (seen v)) (record (fits want.Own) { to_arrays = to_array v; no_way_back = true }) (meets_back p.shape (meet p.shape v.shape)) (λ e2. tt)
      (λ e2. calculates_askable p v r s))

  subtracts_askable : (p v : Operand) → IsReadyOperand cs p → IsReadyOperand cs v → Back cs (subtracts_back p v)
  subtracts_askable p v r s =
      by_test (Back cs) (is_pointer p.shape) (if is_number v.shape then fits want.Own else if is_pointer (seen v) then record { no_type = not (same_target p.shape (seen v)); to_arrays = to_array v; outranked = false; no_way_back = true; wanted = want.Own } else unfit) (meets_back p.shape (meet p.shape v.shape))
      (λ e. by_test (Back cs) (is_number v.shape) (fits want.Own) (if is_pointer (seen v) then record { no_type = not (same_target p.shape (seen v)); to_arrays = to_array v; outranked = false; no_way_back = true; wanted = want.Own } else unfit) (λ e2. tt)
      (λ e2. by_test (Back cs) (is_pointer (seen v)) (record { no_type = not (same_target p.shape (seen v)); to_arrays = to_array v; outranked = false; no_way_back = true; wanted = want.Own }) unfit (λ e3. tt) (λ e3. tt)))
      (λ e. calculates_askable p v r s)

  shifts_askable : (p v : Operand) → IsReadyOperand cs p → IsReadyOperand cs v → Back cs (shifts_back p.shape v.shape)
  shifts_askable p v r s = amount_askable p.shape v.shape (operand_fits p r) (operand_fits v s)

  changes_askable : (op : BinOp) (p v : Operand) → IsReadyOperand cs p → IsReadyOperand cs v → Back cs (changes op p v)
  changes_askable bin.Add p v r s = adds_askable p v r s
  changes_askable bin.Sub p v r s = subtracts_askable p v r s
  changes_askable bin.Shl p v r s = shifts_askable p v r s
  changes_askable bin.Shr p v r s = shifts_askable p v r s
  changes_askable bin.Mul p v r s = calculates_askable p v r s
  changes_askable bin.Div p v r s = calculates_askable p v r s
  changes_askable bin.Rem p v r s = calculates_askable p v r s
  changes_askable bin.And p v r s = calculates_askable p v r s
  changes_askable bin.Xor p v r s = calculates_askable p v r s
  changes_askable bin.Or p v r s = calculates_askable p v r s
  changes_askable bin.Less p v r s = tt
  changes_askable bin.Greater p v r s = tt
  changes_askable bin.LessEqual p v r s = tt
  changes_askable bin.GreaterEqual p v r s = tt
  changes_askable bin.Equal p v r s = tt
  changes_askable bin.NotEqual p v r s = tt
  changes_askable bin.LogicalAnd p v r s = tt
  changes_askable bin.LogicalOr p v r s = tt

  pub assignment_asked : (op : Option BinOp) (p v : Operand) → IsReadyOperand cs p → IsReadyOperand cs v → Asked cs 2 (assignment op p v)
  assignment_asked None p v r s = assigned_asked p v r
  assignment_asked (Some op) p v r s = changing_asked op p (changes op p v) r (changes_askable op p v r s)

  -- ---- the other operators

  choice_asked : (w : Want) → IsAskable cs w → IsGivable cs w → IsAsked cs (choice w) 3
  choice_asked w h g = record { wants = (tt, (h, (h, tt))); gives = g; each = refl }

  pointers_askable : (x y : Operand) → IsReadyOperand cs x → first_broken (two_pointers x y) ≡ None → IsAskableShape cs (common (seen x) (seen y))
  pointers_askable x y r =
      by_test (λ ts. first_broken ts ≡ None → IsAskableShape cs (common (seen x) (seen y))) (is_pointer (seen x) && is_pointer (seen y)) (pointers_meet x y) ((308, true) ∷ [])
      (λ p e. meeting_askable x y r (first_so (is_pointer (seen x)) (is_pointer (seen y)) p) e) (λ p e. absurd (some_none e))

  chosen_pointers_asked : (test x y : Operand) → IsReadyOperand cs x → Asked cs 3 (chosen_pointers test x y)
  chosen_pointers_asked test x y r = asked_unless cs 3 (chosen_tests test (two_pointers x y)) (choice (want.Of (common (seen x) (seen y)))) (λ e. let f = pointers_askable x y r (chosen_kept test (two_pointers x y) e) in choice_asked (want.Of (common (seen x) (seen y))) f f)

  chosen_alike_asked : (test x : Operand) → IsReadyOperand cs x → Asked cs 3 (chosen_alike test x)
  chosen_alike_asked test x r = asked_unless cs 3 (chosen_tests test []) (choice (want.Type x.facts.ty)) (λ e. choice_asked (want.Type x.facts.ty) r.known r.known)

  chosen_numbers_asked : (test : Operand) (m : Meeting) → MeetsFine m → Asked cs 3 (chosen_numbers test m)
  chosen_numbers_asked test m h = asked_unless cs 3 (chosen_tests test (meets m)) (choice (integers (met m))) (λ e. let f = fine_met m h in choice_asked (integers (met m)) f f)

  pub chosen_asked : (test x y : Operand) → IsReadyOperand cs x → IsReadyOperand cs y → Asked cs 3 (chosen test x y)
  chosen_asked test x y r s =
      by_test (Asked cs 3) (is_pointer (seen x) || is_pointer (seen y)) (chosen_pointers test x y)
      (if is_plain x.shape && same_type x.facts.ty y.facts.ty then chosen_alike test x else chosen_numbers test (meet x.shape y.shape)) (λ e. chosen_pointers_asked test x y r)
      (λ e. by_test (Asked cs 3) (is_plain x.shape && same_type x.facts.ty y.facts.ty) (chosen_alike test x) (chosen_numbers test (meet x.shape y.shape)) (λ e2. chosen_alike_asked test x r)
      (λ e2. chosen_numbers_asked test (meet x.shape y.shape) (operands_meet x y r s)))

  at_asked : (p : Operand) (s n : Shape) → FitsTable cs s → Asked cs 2 (at_index p s n)
  at_asked p shape.Void n h = tt
  at_asked p shape.Bool n h = tt
  at_asked p (shape.Integers t) n h = tt
  at_asked p (shape.Array elem len nested) n h = asked_unless cs 2 ((308, not (is_number n)) ∷ []) (part own_types head.Index (want.Type elem) p) (λ e. record { wants = (tt, (tt, tt)); gives = h.0; each = refl })
  at_asked p shape.Struct n h = tt
  at_asked p (shape.Pointer space to readonly restricted) n h = asked_unless cs 2 ((308, not (is_number n)) ∷ []) (place own_types head.Index (want.Type to) space readonly) (λ e. record { wants = (tt, (tt, tt)); gives = h.0; each = refl })

  pub indexed_asked : (p i : Operand) → IsReadyOperand cs p → AskedIf cs 2 (indexed p i)
  indexed_asked p i r = by_test (AskedIf cs 2) (is_vector p.shape) None (Some (at_index p p.shape i.shape)) (λ e. tt) (λ e. at_asked p p.shape i.shape (operand_fits p r))

  -- a component by its number
  pub element_asked : (at : List ℕ) (o : Operand) → IsReadyOperand cs o → IsAsked cs (component (head.Components at) (integers (element_of (type_of o.shape))) o) 1
  element_asked at o r = record { wants = (tt, tt); gives = fine_element (type_of o.shape) (operand_fine o r); each = refl }

  last_ready : (o : Operand) (os : List Operand) → All (IsReadyOperand cs) (o ∷ os) → IsReadyOperand cs (last_of o os)
  last_ready o [] h = All-head (IsReadyOperand cs) o [] h
  last_ready o (p ∷ ps) h = last_ready p ps (All-tail (IsReadyOperand cs) o (p ∷ ps) h)

  comma_askable : (o : Operand) (os : List Operand) → IsAskable cs (last_want (last_of o os)) → AreAskable cs (comma_wants o os)
  comma_askable o [] h = (h, tt)
  comma_askable o (p ∷ ps) h = (tt, comma_askable p ps h)

  comma_at_asked : (wants : List Want) (n : ℕ) (o : Operand) → IsReadyOperand cs o → length wants ≡ n → (IsAskable cs (last_want o) → AreAskable cs wants) → Asked cs n (comma_at wants o)
  comma_at_asked wants n o r l h =
      by_test (Asked cs n) (is_array o.shape && is_some o.facts.lies) (unless ((303, to_array o) ∷ []) (value wants head.Comma (want.Of (seen o)))) (Makes (value wants head.Comma (want.Type o.facts.ty)))
      (λ e. asked_unless cs n ((303, to_array o) ∷ []) (value wants head.Comma (want.Of (seen o))) (λ k.
      let f = seen_askable o r (array_seen o.facts.lies o.readonly o.shape e) (test_kept (303, to_array o) [] k) in
      record { wants = h (by_test (IsAskable cs) (is_array o.shape && is_some o.facts.lies) (want.Of (seen o)) want.Own (λ a. f) (λ a. tt)); gives = f; each = l }))
      (λ e. record { wants = h (by_test (IsAskable cs) (is_array o.shape && is_some o.facts.lies) (want.Of (seen o)) want.Own (λ a. absurd (true≢false (sym a ∙ e))) (λ a. tt)); gives = r.known; each = l })

  pub comma_asked : (os : List Operand) → All (IsReadyOperand cs) os → AskedIf cs (length os) (comma os)
  comma_asked [] h = tt
  comma_asked (o ∷ os) h = comma_at_asked (comma_wants o os) (suc (length os)) (last_of o os) (last_ready o os h) (comma_length o os) (comma_askable o os)

  -- ---- members and components

  member_known : (k : ℕ) (name : List ℕ) (ms : List Member) → MembersKnown cs ms → KnownIf cs (member_from k name ms)
  member_known k name [] h = tt
  member_known k name (m ∷ ms) h = by_test (KnownIf cs) (bytes_eq name m.name) (Some (k, m.ty)) (member_from (suc k) name ms) (λ e. h.0) (λ e. member_known (suc k) name ms h.1)

  member_at_asked : (o : Operand) (found : Option (ℕ × TypeId)) → KnownIf cs found → Asked cs 1 (member_at o found)
  member_at_asked o None h = tt
  member_at_asked o (Some m) h = record { wants = (tt, tt); gives = h; each = refl }

  selected_asked : (left : Bool) (o : Operand) (t : Gentype) (at : Option (List ℕ)) → IsFine t → CountsIf at → Asked cs 1 (selected left o t at)
  selected_asked left o t None h k = tt
  selected_asked left o t (Some at) h k = asked_unless cs 1 ((307, left && repeats at) ∷ []) (component (head.Components at) (integers (record t { count = length at })) o) (λ e. record { wants = (tt, tt); gives = fine_count t (length at) h k; each = refl })

  pub member_asked : (left : Bool) (name : List ℕ) (o : Operand) → IsReadyOperand cs o → Asked cs 1 (member left (members_of cs o.facts.ty) name o)
  member_asked left name o r =
      by_test (Asked cs 1) (is_vector o.shape) (selected left o (type_of o.shape) (selection (type_of o.shape).count name)) (member_at o (member_from 0 name (members_of cs o.facts.ty)))
      (λ e. selected_asked left o (type_of o.shape) (selection (type_of o.shape).count name) (operand_fine o r) (selection_counts (type_of o.shape).count name))
      (λ e. member_at_asked o (member_from 0 name (members_of cs o.facts.ty)) (member_known 0 name (members_of cs o.facts.ty) (known_members cs o.facts.ty b r.known)))

  -- ---- calls, casts and literals

  known_askable : (ts : List TypeId) → AreKnown cs ts → AreAskable cs (wants_of ts)
  known_askable [] h = tt
  known_askable (t ∷ ts) h = (All-head (IsKnown cs) t ts h, known_askable ts (All-tail (IsKnown cs) t ts h))

  -- of arguments of these types
  pub arguments_asked : (ts : List TypeId) (result : TypeId) (h : Head) (n : ℕ) → AreKnown cs ts → IsKnown cs result → length ts ≡ n → IsAsked cs (value (wants_of ts) h (want.Type result)) n
  arguments_asked ts result h n k r l = record { wants = known_askable ts k; gives = r; each = wants_length ts ∙ l }

  pub call_asked : (os : List Operand) (ts : List Target) (f : Signature) → AreKnown cs f.params → IsKnown cs f.result → length ts ≡ length f.params → Asked cs (length os) (call_of os ts f)
  call_asked os ts f k r l =
      let others : List (ℕ × Bool) = (316, f.kernel) ∷ (317, not f.body) ∷ (333, some_no_pointer os ts) ∷ [] in
      let behind : List (ℕ × Bool) = (315, not (nat_eq (length os) (length ts))) ∷ others in
      asked_unless cs (length os) ((311, some_no_value os ts) ∷ behind) (value (wants_of f.params) (head.Call f.number) (want.Type f.result)) (λ e.
      let rest = tests_kept (311, some_no_value os ts) behind e in
      let same = not_false (nat_eq (length os) (length ts)) (test_kept (315, not (nat_eq (length os) (length ts))) others rest) in
      arguments_asked f.params f.result (head.Call f.number) (length os) k r (sym (eqb-true (length os) (length ts) same ∙ l)))

  -- a pointer to a type that may be pointed to
  pub pointer_askable : (q : Qualified) (restricted : Bool) → IsReadyType cs q → is_no_pointee q.shape ≡ false → IsAskableShape cs (pointer_to q restricted)
  pointer_askable q restricted r e = (r.known, λ a. subst (λ s. is_pointee s ≡ true) r.shape (named_pointee q.shape e))

  cast_pointer_asked : (q : Qualified) (restricted : Bool) (o : Operand) → IsReadyType cs q → Asked cs 1 (cast_pointer q restricted o)
  cast_pointer_asked q restricted o r =
      let rest : List (ℕ × Bool) = (311, not (is_pointer (seen o))) ∷ (326, no_space q true) ∷ (333, is_pointer (seen o) && not (in_space (space_or_private q.space) (seen o))) ∷ [] in
      asked_unless cs 1 ((303, is_no_pointee q.shape) ∷ rest) (value (want.Own ∷ []) head.Convert (want.Of (pointer_to q restricted)))
      (λ e. record { wants = (tt, tt); gives = pointer_askable q restricted r (test_kept (303, is_no_pointee q.shape) rest e); each = refl })

  cast_value_asked : (q : Qualified) (o : Operand) → IsReadyType cs q → Asked cs 1 (cast_value q o)
  cast_value_asked q o r = asked_unless cs 1 ((303, is_void q.shape || is_array q.shape) ∷ (311, no_cast q o) ∷ (326, no_space q false) ∷ (333, other_space q o) ∷ []) (value (want.Own ∷ []) head.Convert (want.Type q.ty)) (λ e. record { wants = (tt, tt); gives = r.known; each = refl })

  pub cast_asked : (q : Qualified) (star : Option Bool) (os : List Operand) → IsReadyType cs q → Asked cs (length os) (cast_rule q star os)
  cast_asked q None [] r = tt
  cast_asked q None (o ∷ []) r = cast_value_asked q o r
  cast_asked q None (o ∷ p ∷ os) r = tt
  cast_asked q (Some restricted) [] r = tt
  cast_asked q (Some restricted) (o ∷ []) r = cast_pointer_asked q restricted o r
  cast_asked q (Some restricted) (o ∷ p ∷ os) r = tt

  parts_askable : (t : Gentype) (os : List Operand) → IsFine t → AreAskable cs (part_wants t os)
  parts_askable t [] h = tt
  parts_askable t (o ∷ os) h = (by_test (IsAskable cs) (is_number o.shape) (integers (element_of t)) want.Own (λ e. fine_element t h) (λ e. tt), parts_askable t os h)

  pub literal_asked : (q : Qualified) (star : Option Bool) (os : List Operand) → IsReadyType cs q → Asked cs (length os) (literal q star os)
  literal_asked q None os r = asked_unless cs (length os)
      ((303, not (is_vector q.shape)) ∷ (311, some_no_part (type_of q.shape) os) ∷ (326, no_space q false) ∷ (331, not (nat_eq (parts_count os) (type_of q.shape).count) && not (is_single os)) ∷ [])
      (value (part_wants (type_of q.shape) os) head.Vector (want.Type q.ty)) (λ e. record {
        wants = parts_askable (type_of q.shape) os (fine_type cs q.shape (subst (FitsTable cs) (sym r.shape) (known_fits cs q.ty b r.known)));
        gives = r.known;
        each = parts_length (type_of q.shape) os;
      })
  literal_asked q (Some restricted) os r = tt

-- operands of typed expressions
pub operands_ready : (cs : List ClType) (rs : List Typed) → AreReady cs rs → All (IsReadyOperand cs) (map operand_in rs)
operands_ready cs rs h = All-map (IsReadyOperand cs) operand_in rs (All-weaker (IsReady cs) (λ r. IsReadyOperand cs r.operand) (λ r i. i.operand) rs h)
