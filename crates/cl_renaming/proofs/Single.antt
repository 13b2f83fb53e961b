-- Each rule asks for types that a table has once: for no struct by its shape.
use Rattle.std.proofs.Common.{◌≡◌, ℕ, List, [], ◌∷◌, length, refl, sym, ap, subst, nat_eq, nat_lt, Bool, true, false, true≢false, not, ◌&&◌, ◌||◌, if◌then◌else◌, Option, Some, None}
use Rattle.std.specs.Prelude.{is_some}
use Rattle.std.specs.Cmp.{first_so, second_so}
use Rattle.cl_types.specs.declared.types.Member.{Member}
use Rattle.cl_types.specs.declared.types.TypeId.{TypeId}
use Rattle.cl_types.specs.declared.space.Space.{Space}
use Rattle.cl_types.specs.declared.operator.UnOp.{UnOp}
use Rattle.cl_types.specs.declared.operator.UnOp.TheVariants as un
use Rattle.cl_types.specs.declared.operator.BinOp.{BinOp}
use Rattle.cl_types.specs.declared.operator.BinOp.TheVariants as bin
use Rattle.cl_builtins.specs.declared.kind.Gentype.{Gentype}
use Rattle.cl_builtins.specs.Kinds.{int, element_of}
use Rattle.cl_tree.specs.Facts.{has_address}
use Rattle.cl_tree.specs.declared.shape.Shape.{Shape}
use Rattle.cl_tree.specs.declared.shape.Shape.TheVariants as shape
use Rattle.cl_tree.specs.Shapes.{is_void, is_struct, is_array, is_pointer, is_number, is_vector, is_steppable, same_type, promoted, rank, relation_type}
use Rattle.cl_rules.specs.declared.rule.Operand.{Operand}
use Rattle.cl_rules.specs.declared.rule.Target.{Target}
use Rattle.cl_rules.specs.declared.rule.Want.{Want}
use Rattle.cl_rules.specs.declared.rule.Want.TheVariants as want
use Rattle.cl_rules.specs.declared.rule.Head.{Head}
use Rattle.cl_rules.specs.declared.rule.Head.TheVariants as head
use Rattle.cl_rules.specs.declared.rule.Made.{Made}
use Rattle.cl_rules.specs.declared.rule.Judged.{Judged}
use Rattle.cl_rules.specs.declared.rule.Judged.TheVariants.{Broken, Makes}
use Rattle.cl_rules.specs.declared.rule.Meeting.{Meeting}
use Rattle.cl_rules.specs.declared.rule.Amount.TheVariants.{Wanted, NoAmount, TooWide}
use Rattle.cl_rules.specs.declared.rule.Changing.{Changing}
use Rattle.cl_rules.specs.declared.rule.Qualified.{Qualified}
use Rattle.cl_scope.specs.declared.scope.Signature.{Signature}
use Rattle.cl_rules.specs.Operands.{first_broken, unless_at, unless, value, place, part, component, integers, pointer_from, seen, to_array, same_target, common, type_of, is_arithmetic, no_value, no_pointer, type_at}
use Rattle.cl_rules.specs.Operators.{signed, dereferenced, space_or_private, is_fixed, stepped, unary, meet, met, meets, both, own_types, calculated, pointers_meet, apart, compared, related, joined, amount_beside, amount, is_none, outranks, amount_wanted, shifted, moved, added, subtracted, binary, fits, unfit, meets_back, adds_back, subtracts_back, changes, assignment}
use Rattle.cl_rules.specs.Parts.{chosen_tests, choice, two_pointers, is_plain, chosen_pointers, chosen_alike, chosen_numbers, chosen, at_index, indexed, comma_at, last_want, comma_wants, last_of, comma, repeats, selection, selected, member_from, member_at, member}
use Rattle.cl_rules.specs.Calls.{some_no_value, some_no_pointer, wants_of, call_of, is_no_pointee, pointer_to, no_space, in_space, cast_pointer, no_cast, other_space, cast_value, cast_rule, part_wants, some_no_part, parts_count, is_single, literal}
use Rattle.cl_renaming.specs.Renaming.{IsOneType, AreOneType, AsksOneType}

-- ---- what is asked where a rule makes something

abbrev pub Asks : Judged → Type 0
Asks (Broken code) = Unit {0}
Asks (Makes m) = AsksOneType m

abbrev pub AsksIf : Option Judged → Type 0
AsksIf None = Unit {0}
AsksIf (Some j) = Asks j

pub asks_made : (j : Judged) (m : Made) → j ≡ Makes m → Asks j → AsksOneType m
asks_made j m e h = subst Asks e h

pub asks_made_if : (o : Option Judged) (m : Made) → o ≡ Some (Makes m) → AsksIf o → AsksOneType m
asks_made_if o m e h = subst AsksIf e h

some_none : {A : Type 0} {x : A} → Some x ≡ None → ⊥
some_none e = true≢false (ap is_some e)

kept_asks : (ts : List (ℕ × Bool)) (m : Made) → (first_broken ts ≡ None → AsksOneType m) → Asks (unless ts m)
kept_asks ts m h = by (first_broken ts) h
  where
    by : (o : Option ℕ) → (o ≡ None → AsksOneType m) → Asks (unless_at o m)
    by None f = f refl
    by (Some code) f = tt

unless_asks : (ts : List (ℕ × Bool)) (m : Made) → AsksOneType m → Asks (unless ts m)
unless_asks ts m h = kept_asks ts m (λ e. h)

pub by_test : {A : Type 0} (P : A → Type 0) (b : Bool) (x y : A) → (b ≡ true → P x) → (b ≡ false → P y) → P (if b then x else y)
by_test P true x y f g = f refl
by_test P false x y f g = g refl

-- ---- pointers

pointer_one : (s : Shape) → is_pointer s ≡ true → is_struct s ≡ false
pointer_one (shape.Pointer space to readonly restricted) h = refl
pointer_one shape.Void h = refl
pointer_one shape.Bool h = refl
pointer_one (shape.Integers t) h = refl
pointer_one (shape.Array elem len nested) h = refl
pointer_one shape.Struct h = absurd (true≢false (sym h))

common_one : (p q : Shape) → is_pointer p ≡ true → is_struct (common p q) ≡ false
common_one (shape.Pointer s to ro re) (shape.Pointer s2 to2 ro2 re2) h = refl
common_one (shape.Pointer s to ro re) _ h = refl
common_one shape.Void q h = refl
common_one shape.Bool q h = refl
common_one (shape.Integers t) q h = refl
common_one (shape.Array elem len nested) q h = refl
common_one shape.Struct q h = absurd (true≢false (sym h))

array_one : (lies : Option Space) (readonly : Bool) (s : Shape) → is_array s && is_some lies ≡ true → is_struct (pointer_from lies readonly s) ≡ false
array_one None readonly (shape.Array elem len nested) h = refl
array_one (Some z) readonly (shape.Array elem len nested) h = refl
array_one lies readonly _ h = absurd (true≢false (sym h))

-- ---- operators

signed_asks : (op : UnOp) (o : Operand) → Asks (signed op o)
signed_asks op o = unless_asks ((308, not (is_arithmetic o.shape)) ∷ []) (value (integers (promoted (type_of o.shape)) ∷ []) (head.Unary op) (integers (promoted (type_of o.shape)))) (record { wants = (refl, tt); gives = refl })

pub dereferenced_asks : (o : Operand) (s : Shape) → Asks (dereferenced o s)
dereferenced_asks o (shape.Pointer s to readonly restricted) = record { wants = (tt, tt); gives = tt }
dereferenced_asks o (shape.Array elem len nested) = record { wants = (tt, tt); gives = tt }
dereferenced_asks o _ = tt

stepped_asks : (op : UnOp) (o : Operand) → Asks (stepped op o)
stepped_asks op o = unless_asks ((308, not (is_steppable o.shape)) ∷ (310, is_fixed o) ∷ []) (value (want.Own ∷ []) (head.Unary op) (want.Type o.facts.ty)) (record { wants = (tt, tt); gives = tt })

pub unary_asks : (op : UnOp) (o : Operand) → AsksIf (unary op o)
unary_asks un.Plus o = signed_asks un.Plus o
unary_asks un.Minus o = signed_asks un.Minus o
unary_asks un.Not o = signed_asks un.Not o
unary_asks un.LogicalNot o = unless_asks ((308, not (is_number o.shape)) ∷ []) (value (want.Own ∷ []) (head.Unary un.LogicalNot) (integers int)) (record { wants = (tt, tt); gives = refl })
unary_asks un.Deref o = dereferenced_asks o o.shape
unary_asks un.Address o =
    unless_asks ((312, not (has_address o.facts o.shape)) ∷ [])
    (value (want.Own ∷ []) (head.Unary un.Address) (want.Of (shape.Pointer (space_or_private o.facts.lies) o.facts.ty o.readonly false))) (record { wants = (tt, tt); gives = refl })
unary_asks un.PreInc o = stepped_asks un.PreInc o
unary_asks un.PreDec o = stepped_asks un.PreDec o
unary_asks un.PostInc o = stepped_asks un.PostInc o
unary_asks un.PostDec o = stepped_asks un.PostDec o
unary_asks un.Sizeof o = tt

calculated_asks : (op : BinOp) (m : Meeting) → Asks (calculated op m)
calculated_asks op m = unless_asks (meets m) (value (both (integers (met m))) (head.Binary op) (integers (met m))) (record { wants = (refl, (refl, tt)); gives = refl })

compared_asks : (op : BinOp) (m : Meeting) → Asks (compared op m)
compared_asks op m = unless_asks (meets m) (value (both (integers (met m))) (head.Binary op) (integers (relation_type (met m)))) (record { wants = (refl, (refl, tt)); gives = refl })

apart_asks : (op : BinOp) (a b : Operand) → is_pointer (seen a) && is_pointer (seen b) ≡ true → Asks (apart op a b)
apart_asks op a b h =
    let k = common_one (seen a) (seen b) (first_so (is_pointer (seen a)) (is_pointer (seen b)) h) in
    unless_asks (pointers_meet a b) (value (both (want.Of (common (seen a) (seen b)))) (head.Binary op) (integers int)) (record { wants = (k, (k, tt)); gives = refl })

related_asks : (op : BinOp) (a b : Operand) → Asks (related op a b)
related_asks op a b =
    by_test Asks (is_pointer (seen a) && is_pointer (seen b)) (apart op a b) (compared op (meet a.shape b.shape)) (λ h. apart_asks op a b h) (λ h. compared_asks op (meet a.shape b.shape))

joined_asks : (op : BinOp) (a b : Operand) → Asks (joined op a b)
joined_asks op a b = unless_asks ((308, not (is_number a.shape && is_number b.shape)) ∷ []) (value own_types (head.Binary op) (integers int)) (record { wants = (tt, (tt, tt)); gives = refl })

amount_one : (a b : Shape) → IsOneType (amount_wanted (amount a b))
amount_one a b =
    by_test (λ m. IsOneType (amount_wanted m)) (is_number a && is_number b) (Wanted (integers (promoted (type_of b)))) _ (λ h. refl)
    (λ h. by_test (λ m. IsOneType (amount_wanted m)) (is_vector a && is_vector b) _ _
    (λ h. by_test (λ m. IsOneType (amount_wanted m)) (nat_eq (type_of a).count (type_of b).count) (Wanted want.Own) NoAmount (λ h. tt) (λ h. tt))
    (λ h. by_test (λ m. IsOneType (amount_wanted m)) (is_vector a && is_number b) (amount_beside (type_of a) b) NoAmount
    (λ h. by_test (λ m. IsOneType (amount_wanted m)) (nat_lt (type_of a).bits (rank b)) TooWide (Wanted (integers (type_of a))) (λ h. tt) (λ h. refl))
    (λ h. tt)))

shifted_asks : (op : BinOp) (a b : Shape) → Asks (shifted op a b)
shifted_asks op a b =
    unless_asks ((308, is_none (amount a b)) ∷ (309, outranks (amount a b)) ∷ [])
    (value (integers (promoted (type_of a)) ∷ amount_wanted (amount a b) ∷ []) (head.Binary op) (integers (promoted (type_of a))))
    (record { wants = (refl, (amount_one a b, tt)); gives = refl })

moved_asks : (op : BinOp) (o : Operand) (ws : List Want) → is_pointer (seen o) ≡ true → AreOneType ws → Asks (moved op o ws)
moved_asks op o ws h n = unless_asks ((303, to_array o) ∷ []) (value ws (head.Binary op) (want.Of (seen o))) (record { wants = n; gives = pointer_one (seen o) h })

added_asks : (a b : Operand) → Asks (added a b)
added_asks a b =
    by_test Asks (is_pointer (seen a) && is_number b.shape) (moved bin.Add a (want.Of (seen a) ∷ want.Own ∷ [])) _
    (λ h. let k = first_so (is_pointer (seen a)) (is_number b.shape) h in moved_asks bin.Add a (want.Of (seen a) ∷ want.Own ∷ []) k (pointer_one (seen a) k, (tt, tt)))
    (λ h. by_test Asks (is_number a.shape && is_pointer (seen b)) (moved bin.Add b (want.Own ∷ want.Of (seen b) ∷ [])) _
    (λ h. let k = second_so (is_number a.shape) (is_pointer (seen b)) h in moved_asks bin.Add b (want.Own ∷ want.Of (seen b) ∷ []) k (tt, (pointer_one (seen b) k, tt)))
    (λ h. calculated_asks bin.Add (meet a.shape b.shape)))

subtracted_asks : (a b : Operand) → Asks (subtracted a b)
subtracted_asks a b =
    by_test Asks (is_pointer (seen a) && is_number b.shape) (moved bin.Sub a (want.Of (seen a) ∷ want.Own ∷ [])) _
    (λ h. let k = first_so (is_pointer (seen a)) (is_number b.shape) h in moved_asks bin.Sub a (want.Of (seen a) ∷ want.Own ∷ []) k (pointer_one (seen a) k, (tt, tt)))
    (λ h. by_test Asks (is_pointer (seen a) && is_pointer (seen b)) (apart bin.Sub a b) _
    (λ h. apart_asks bin.Sub a b h)
    (λ h. calculated_asks bin.Sub (meet a.shape b.shape)))

pub binary_asks : (op : BinOp) (a b : Operand) → Asks (binary op a b)
binary_asks bin.Add a b = added_asks a b
binary_asks bin.Sub a b = subtracted_asks a b
binary_asks bin.Shl a b = shifted_asks bin.Shl a.shape b.shape
binary_asks bin.Shr a b = shifted_asks bin.Shr a.shape b.shape
binary_asks bin.Less a b = related_asks bin.Less a b
binary_asks bin.Greater a b = related_asks bin.Greater a b
binary_asks bin.LessEqual a b = related_asks bin.LessEqual a b
binary_asks bin.GreaterEqual a b = related_asks bin.GreaterEqual a b
binary_asks bin.Equal a b = related_asks bin.Equal a b
binary_asks bin.NotEqual a b = related_asks bin.NotEqual a b
binary_asks bin.LogicalAnd a b = joined_asks bin.LogicalAnd a b
binary_asks bin.LogicalOr a b = joined_asks bin.LogicalOr a b
binary_asks bin.Mul a b = calculated_asks bin.Mul (meet a.shape b.shape)
binary_asks bin.Div a b = calculated_asks bin.Div (meet a.shape b.shape)
binary_asks bin.Rem a b = calculated_asks bin.Rem (meet a.shape b.shape)
binary_asks bin.And a b = calculated_asks bin.And (meet a.shape b.shape)
binary_asks bin.Xor a b = calculated_asks bin.Xor (meet a.shape b.shape)
binary_asks bin.Or a b = calculated_asks bin.Or (meet a.shape b.shape)

-- ---- assignments

abbrev Changes : Changing → Type 0
Changes c = IsOneType c.wanted

adds_one : (p v : Operand) → Changes (adds_back p v)
adds_one p v =
    by_test Changes (is_pointer p.shape) _ _
    (λ h. by_test Changes (is_number v.shape) (fits want.Own) unfit (λ h. tt) (λ h. tt))
    (λ h. by_test Changes (is_number p.shape && is_pointer (seen v)) (record (fits want.Own) { to_arrays = to_array v; no_way_back = true }) (meets_back p.shape (meet p.shape v.shape)) (λ h. tt) (λ h. refl))

subtracts_one : (p v : Operand) → Changes (subtracts_back p v)
subtracts_one p v =
    by_test Changes (is_pointer p.shape) _ (meets_back p.shape (meet p.shape v.shape))
    (λ h. by_test Changes (is_number v.shape) (fits want.Own) _ (λ h. tt)
    (λ h. by_test Changes (is_pointer (seen v)) (record { no_type = not (same_target p.shape (seen v)); to_arrays = to_array v; outranked = false; no_way_back = true; wanted = want.Own }) unfit (λ h. tt) (λ h. tt)))
    (λ h. refl)

changes_one : (op : BinOp) (p v : Operand) → Changes (changes op p v)
changes_one bin.Add p v = adds_one p v
changes_one bin.Sub p v = subtracts_one p v
changes_one bin.Shl p v = amount_one p.shape v.shape
changes_one bin.Shr p v = amount_one p.shape v.shape
changes_one bin.Mul p v = refl
changes_one bin.Div p v = refl
changes_one bin.Rem p v = refl
changes_one bin.And p v = refl
changes_one bin.Xor p v = refl
changes_one bin.Or p v = refl
changes_one _ p v = tt

pub assignment_asks : (op : Option BinOp) (p v : Operand) → Asks (assignment op p v)
assignment_asks None p v =
    unless_asks ((310, is_fixed p) ∷ (311, no_value v (type_at p)) ∷ (333, no_pointer v (type_at p)) ∷ [])
    (value (want.Own ∷ want.Type p.facts.ty ∷ []) (head.Assign None) (want.Type p.facts.ty)) (record { wants = (tt, (tt, tt)); gives = tt })
assignment_asks (Some op) p v =
    let c = changes op p v in
    unless_asks ((303, c.to_arrays) ∷ (308, c.no_type) ∷ (309, c.outranked) ∷ (310, is_fixed p) ∷ (311, c.no_way_back) ∷ [])
    (value (want.Own ∷ c.wanted ∷ []) (head.Assign (Some op)) (want.Type p.facts.ty)) (record { wants = (tt, (changes_one op p v, tt)); gives = tt })

-- ---- `?:`, `[]`, the comma, members

test_arms : (test : Operand) (ts : List (ℕ × Bool)) → first_broken (chosen_tests test ts) ≡ None → first_broken ts ≡ None
test_arms test [] e = refl
test_arms test (t ∷ ts) e = by t.1 e (λ f. test_arms test ts f)
  where
    by : (b : Bool) → (if b then Some t.0 else first_broken (chosen_tests test ts)) ≡ None → (first_broken (chosen_tests test ts) ≡ None → first_broken ts ≡ None) → (if b then Some t.0 else first_broken ts) ≡ None
    by true f g = absurd (some_none f)
    by false f g = g f

both_pointers : (a b : Operand) → first_broken (two_pointers a b) ≡ None → is_pointer (seen a) ≡ true
both_pointers a b e = by (is_pointer (seen a) && is_pointer (seen b)) refl e
  where
    by : (c : Bool) → is_pointer (seen a) && is_pointer (seen b) ≡ c → first_broken (if c then pointers_meet a b else (308, true) ∷ []) ≡ None → is_pointer (seen a) ≡ true
    by true h f = first_so (is_pointer (seen a)) (is_pointer (seen b)) h
    by false h f = absurd (some_none f)

chosen_pointers_asks : (test a b : Operand) → Asks (chosen_pointers test a b)
chosen_pointers_asks test a b =
    kept_asks (chosen_tests test (two_pointers a b)) (choice (want.Of (common (seen a) (seen b))))
    (λ e. let k = common_one (seen a) (seen b) (both_pointers a b (test_arms test (two_pointers a b) e)) in record { wants = (tt, (k, (k, tt))); gives = k })

pub chosen_asks : (test a b : Operand) → Asks (chosen test a b)
chosen_asks test a b =
    by_test Asks (is_pointer (seen a) || is_pointer (seen b)) (chosen_pointers test a b) _
    (λ h. chosen_pointers_asks test a b)
    (λ h. by_test Asks (is_plain a.shape && same_type a.facts.ty b.facts.ty) (chosen_alike test a) (chosen_numbers test (meet a.shape b.shape))
    (λ h. unless_asks (chosen_tests test []) (choice (want.Type a.facts.ty)) (record { wants = (tt, (tt, (tt, tt))); gives = tt }))
    (λ h. unless_asks (chosen_tests test (meets (meet a.shape b.shape))) (choice (integers (met (meet a.shape b.shape)))) (record { wants = (tt, (refl, (refl, tt))); gives = refl })))

at_index_asks : (p : Operand) (s n : Shape) → Asks (at_index p s n)
at_index_asks p (shape.Pointer s to readonly restricted) n = unless_asks ((308, not (is_number n)) ∷ []) (place own_types head.Index (want.Type to) s readonly) (record { wants = (tt, (tt, tt)); gives = tt })
at_index_asks p (shape.Array elem len nested) n = unless_asks ((308, not (is_number n)) ∷ []) (part own_types head.Index (want.Type elem) p) (record { wants = (tt, (tt, tt)); gives = tt })
at_index_asks p _ n = tt

pub indexed_asks : (p i : Operand) → AsksIf (indexed p i)
indexed_asks p i = by_test AsksIf (is_vector p.shape) None (Some (at_index p p.shape i.shape)) (λ h. tt) (λ h. at_index_asks p p.shape i.shape)

last_one : (o : Operand) → IsOneType (last_want o)
last_one o = by_test IsOneType (is_array o.shape && is_some o.facts.lies) (want.Of (seen o)) want.Own (λ h. array_one o.facts.lies o.readonly o.shape h) (λ h. tt)

comma_wants_one : (o : Operand) (os : List Operand) → AreOneType (comma_wants o os)
comma_wants_one o [] = (last_one o, tt)
comma_wants_one o (p ∷ os) = (tt, comma_wants_one p os)

comma_at_asks : (ws : List Want) (o : Operand) → AreOneType ws → Asks (comma_at ws o)
comma_at_asks ws o n =
    by_test Asks (is_array o.shape && is_some o.facts.lies) _ (Makes (value ws head.Comma (want.Type o.facts.ty)))
    (λ h. unless_asks ((303, to_array o) ∷ []) (value ws head.Comma (want.Of (seen o))) (record { wants = n; gives = array_one o.facts.lies o.readonly o.shape h }))
    (λ h. record { wants = n; gives = tt })

pub comma_asks : (os : List Operand) → AsksIf (comma os)
comma_asks [] = tt
comma_asks (o ∷ os) = comma_at_asks (comma_wants o os) (last_of o os) (comma_wants_one o os)

pub component_asks : (h : Head) (t : Gentype) (o : Operand) → AsksOneType (component h (integers t) o)
component_asks h t o = record { wants = (tt, tt); gives = refl }

selected_asks : (left : Bool) (o : Operand) (t : Gentype) (at : Option (List ℕ)) → Asks (selected left o t at)
selected_asks left o t None = tt
selected_asks left o t (Some at) = unless_asks ((307, left && repeats at) ∷ []) (component (head.Components at) (integers (record t { count = length at })) o) (record { wants = (tt, tt); gives = refl })

member_at_asks : (o : Operand) (m : Option (ℕ × TypeId)) → Asks (member_at o m)
member_at_asks o None = tt
member_at_asks o (Some m) = record { wants = (tt, tt); gives = tt }

pub member_asks : (left : Bool) (ms : List Member) (name : List ℕ) (o : Operand) → Asks (member left ms name o)
member_asks left ms name o =
    by_test Asks (is_vector o.shape) (selected left o (type_of o.shape) (selection (type_of o.shape).count name)) (member_at o (member_from 0 name ms))
    (λ h. selected_asks left o (type_of o.shape) (selection (type_of o.shape).count name))
    (λ h. member_at_asks o (member_from 0 name ms))

-- ---- calls, casts and vector literals

pub numbers_one : (ts : List TypeId) → AreOneType (wants_of ts)
numbers_one [] = tt
numbers_one (t ∷ ts) = (tt, numbers_one ts)

pub call_asks : (os : List Operand) (ts : List Target) (f : Signature) → Asks (call_of os ts f)
call_asks os ts f =
    unless_asks ((311, some_no_value os ts) ∷ (315, not (nat_eq (length os) (length ts))) ∷ (316, f.kernel) ∷ (317, not f.body) ∷ (333, some_no_pointer os ts) ∷ [])
    (value (wants_of f.params) (head.Call f.number) (want.Type f.result)) (record { wants = numbers_one f.params; gives = tt })

cast_value_asks : (q : Qualified) (o : Operand) → Asks (cast_value q o)
cast_value_asks q o =
    unless_asks ((303, is_void q.shape || is_array q.shape) ∷ (311, no_cast q o) ∷ (326, no_space q false) ∷ (333, other_space q o) ∷ [])
    (value (want.Own ∷ []) head.Convert (want.Type q.ty)) (record { wants = (tt, tt); gives = tt })

cast_pointer_asks : (q : Qualified) (restricted : Bool) (o : Operand) → Asks (cast_pointer q restricted o)
cast_pointer_asks q restricted o =
    unless_asks ((303, is_no_pointee q.shape) ∷ (311, not (is_pointer (seen o))) ∷ (326, no_space q true) ∷ (333, is_pointer (seen o) && not (in_space (space_or_private q.space) (seen o))) ∷ [])
    (value (want.Own ∷ []) head.Convert (want.Of (pointer_to q restricted))) (record { wants = (tt, tt); gives = refl })

pub cast_asks : (q : Qualified) (star : Option Bool) (os : List Operand) → Asks (cast_rule q star os)
cast_asks q None [] = tt
cast_asks q None (o ∷ []) = cast_value_asks q o
cast_asks q None (o ∷ p ∷ os) = tt
cast_asks q (Some restricted) [] = tt
cast_asks q (Some restricted) (o ∷ []) = cast_pointer_asks q restricted o
cast_asks q (Some restricted) (o ∷ p ∷ os) = tt

parts_one : (t : Gentype) (os : List Operand) → AreOneType (part_wants t os)
parts_one t [] = tt
parts_one t (o ∷ os) = (by_test IsOneType (is_number o.shape) (integers (element_of t)) want.Own (λ h. refl) (λ h. tt), parts_one t os)

pub literal_asks : (q : Qualified) (star : Option Bool) (os : List Operand) → Asks (literal q star os)
literal_asks q (Some restricted) os = tt
literal_asks q None os =
    unless_asks
    ((303, not (is_vector q.shape)) ∷ (311, some_no_part (type_of q.shape) os) ∷ (326, no_space q false)
    ∷ (331, not (nat_eq (parts_count os) (type_of q.shape).count) && not (is_single os)) ∷ [])
    (value (part_wants (type_of q.shape) os) head.Vector (want.Type q.ty)) (record { wants = parts_one (type_of q.shape) os; gives = tt })
