-- The integer types that operators make of their operands' types: they are promoted, and both operands convert to them.
use Rattle.std.proofs.Common.{◌≡◌, refl, sym, ap, ◌∙◌, subst, Bool, true, false, not, ◌&&◌, if◌then◌else◌, true≢false, nat_eq, nat_lt, inl, inr}
use Rattle.std.specs.Cmp.{first_so, second_so}
use Rattle.std.proofs.lemmas.Bool.{and_from, and_left, and_right, eqb-true, eq-eqb, not-true}
use Rattle.cl_builtins.specs.declared.kind.Gentype.{Gentype}
use Rattle.cl_builtins.specs.Kinds.{int, alike, is_same, greater, usual}
use Rattle.cl_builtins.specs.Kinds as kinds
use Rattle.cl_tree.specs.declared.shape.Shape.{Shape}
use Rattle.cl_tree.specs.declared.shape.Shape.TheVariants as shape
use Rattle.cl_tree.specs.Facts.{is_promoted, takes_right}
use Rattle.cl_tree.specs.Shapes.{is_number, is_vector, promoted, rank}
use Rattle.cl_rules.specs.declared.rule.Meeting.{Meeting}
use Rattle.cl_rules.specs.declared.rule.Meeting.TheVariants.{Meet, Unlike, Outranked}
use Rattle.cl_rules.specs.Operands.{type_of, is_arithmetic}
use Rattle.cl_rules.specs.Operators.{beside, alike_vectors, meet}
use Rattle.cl_laws.proofs.Fitted.{by_test, Becomes}

-- ---- integer types that are the same

alike_itself : (b : Bool) → alike b b ≡ true
alike_itself true = refl
alike_itself false = refl

alike_same : (a b : Bool) → alike a b ≡ true → a ≡ b
alike_same true true h = refl
alike_same true false h = absurd (true≢false (sym h))
alike_same false true h = absurd (true≢false (sym h))
alike_same false false h = refl

pub same_itself : (t : Gentype) → is_same t t ≡ true
same_itself t = and_from (nat_eq t.bits t.bits && alike t.signed t.signed) (nat_eq t.count t.count) (and_from (nat_eq t.bits t.bits) (alike t.signed t.signed) (eq-eqb t.bits t.bits refl) (alike_itself t.signed)) (eq-eqb t.count t.count refl)

pub same_is_one : (t x : Gentype) → is_same t x ≡ true → t ≡ x
same_is_one t x h =
    let front = first_so (nat_eq t.bits x.bits && alike t.signed x.signed) (nat_eq t.count x.count) h in
    let bits = eqb-true t.bits x.bits (first_so (nat_eq t.bits x.bits) (alike t.signed x.signed) front) in
    let signed = alike_same t.signed x.signed (second_so (nat_eq t.bits x.bits) (alike t.signed x.signed) front) in
    let count = eqb-true t.count x.count (second_so (nat_eq t.bits x.bits && alike t.signed x.signed) (nat_eq t.count x.count) h) in
    λ i. record { bits = bits i; signed = signed i; count = count i }

-- ---- kinds of shapes

pub vector_is : (s : Shape) → is_vector s ≡ true → s ≡ shape.Integers (type_of s)
vector_is (shape.Integers t) h = refl
vector_is s h = absurd (true≢false (sym h))

pub vector_count : (s : Shape) → is_vector s ≡ true → nat_eq (type_of s).count 1 ≡ false
vector_count (shape.Integers t) h = not-true (nat_eq t.count 1) h
vector_count s h = absurd (true≢false (sym h))

pub number_count : (s : Shape) → is_number s ≡ true → nat_eq (type_of s).count 1 ≡ true
number_count shape.Bool h = refl
number_count (shape.Integers t) h = h
number_count s h = absurd (true≢false (sym h))

pub becomes_arithmetic : (t : Gentype) (s : Shape) → Becomes t s → is_arithmetic s ≡ true
becomes_arithmetic t s (inr e) = subst (λ z. is_arithmetic z ≡ true) (sym e) refl
becomes_arithmetic t shape.Bool (inl h) = refl
becomes_arithmetic t (shape.Integers x) (inl h) = refl
becomes_arithmetic t s (inl h) = absurd (true≢false (sym h))

-- ---- promoted types

unpromoted : (t : Gentype) → (nat_eq t.count 1 && nat_lt t.bits 32) ≡ false → promoted t ≡ t
unpromoted t e = ap (λ c. if c then int else t) e

stays_promoted : (t : Gentype) → promoted t ≡ t → is_promoted (shape.Integers t) ≡ true
stays_promoted t e = ap (is_same t) e ∙ same_itself t

pub promoted_promoted : (t : Gentype) → is_promoted (shape.Integers (promoted t)) ≡ true
promoted_promoted t = by_test (λ x. is_promoted (shape.Integers x) ≡ true) (nat_eq t.count 1 && nat_lt t.bits 32) int t (λ e. refl) (λ e. stays_promoted t (unpromoted t e))

pub many_unpromoted : (t : Gentype) → nat_eq t.count 1 ≡ false → promoted t ≡ t
many_unpromoted t e = unpromoted t (and_left (nat_eq t.count 1) (nat_lt t.bits 32) e)

pub many_promoted : (t : Gentype) → nat_eq t.count 1 ≡ false → is_promoted (shape.Integers t) ≡ true
many_promoted t e = stays_promoted t (many_unpromoted t e)

abbrev IsOne : Gentype → Type 0
IsOne t = nat_eq t.count 1 ≡ true

pub one_promoted : (t : Gentype) → IsOne t → IsOne (promoted t)
one_promoted t h = by_test IsOne (nat_eq t.count 1 && nat_lt t.bits 32) int t (λ e. refl) (λ e. h)

-- an arithmetic operand converts to its promoted type
pub becomes_promoted : (s : Shape) → is_arithmetic s ≡ true → Becomes (promoted (type_of s)) s
becomes_promoted shape.Bool h = inl refl
becomes_promoted (shape.Integers t) h = by (nat_eq t.count 1) refl
  where
    by : (b : Bool) → b ≡ nat_eq t.count 1 → Becomes (promoted t) (shape.Integers t)
    by true e = inl (sym e)
    by false e = inr (ap shape.Integers (sym (many_unpromoted t (sym e))))
becomes_promoted s h = absurd (true≢false (sym h))

-- ---- the usual conversions

abbrev IsWide : Gentype → Type 0
IsWide t = nat_lt t.bits 32 ≡ false

-- what holds of both promoted types holds of the one that they give
of_greater : (P : Gentype → Type 0) (a b : Gentype) → P a → P b → P (greater a b)
of_greater P a b h k =
    by_test P (nat_lt a.bits b.bits) b (if nat_lt b.bits a.bits then a else if a.signed then b else a) (λ e. k)
    (λ e. by_test P (nat_lt b.bits a.bits) a (if a.signed then b else a) (λ f. h) (λ f. by_test P a.signed b a (λ i. k) (λ i. h)))

wide_scalar : (t : Gentype) → IsWide (kinds.promoted t)
wide_scalar t = by_test IsWide (nat_lt t.bits 32) int t (λ e. refl) (λ e. e)

one_scalar : (t : Gentype) → IsOne t → IsOne (kinds.promoted t)
one_scalar t h = by_test IsOne (nat_lt t.bits 32) int t (λ e. refl) (λ e. h)

wide_usual : (a b : Gentype) → IsWide (usual a b)
wide_usual a b = of_greater IsWide (kinds.promoted a) (kinds.promoted b) (wide_scalar a) (wide_scalar b)

pub one_usual : (a b : Gentype) → IsOne a → IsOne b → IsOne (usual a b)
one_usual a b h k = of_greater IsOne (kinds.promoted a) (kinds.promoted b) (one_scalar a h) (one_scalar b k)

pub usual_promoted : (a b : Gentype) → is_promoted (shape.Integers (usual a b)) ≡ true
usual_promoted a b = stays_promoted (usual a b) (unpromoted (usual a b) (and_right (nat_eq (usual a b).count 1) (nat_lt (usual a b).bits 32) (wide_usual a b)))

greater_itself : (a : Gentype) → greater a a ≡ a
greater_itself a =
    by_test (λ x. x ≡ a) (nat_lt a.bits a.bits) a (if nat_lt a.bits a.bits then a else if a.signed then a else a) (λ e. refl)
    (λ e. by_test (λ x. x ≡ a) (nat_lt a.bits a.bits) a (if a.signed then a else a) (λ f. refl) (λ f. by_test (λ x. x ≡ a) a.signed a a (λ i. refl) (λ i. refl)))

greater_again : (a b : Gentype) → greater a (greater a b) ≡ greater a b
greater_again a b =
    by_test (λ x. greater a x ≡ x) (nat_lt a.bits b.bits) b (if nat_lt b.bits a.bits then a else if a.signed then b else a)
    (λ e. ap (λ c. if c then b else if nat_lt b.bits a.bits then a else if a.signed then b else a) e)
    (λ e. by_test (λ x. greater a x ≡ x) (nat_lt b.bits a.bits) a (if a.signed then b else a) (λ f. greater_itself a)
    (λ f. by_test (λ x. greater a x ≡ x) a.signed b a (λ i. λ j. if e j then b else if f j then a else if i j then b else a) (λ i. greater_itself a)))

pub usual_again : (a b : Gentype) → usual a (usual a b) ≡ usual a b
usual_again a b =
    ap (greater (kinds.promoted a)) (ap (λ c. if c then int else usual a b) (wide_usual a b)) ∙ greater_again (kinds.promoted a) (kinds.promoted b)

-- ---- the type of two operands together

-- both operands have it or convert to it, and it is promoted
abbrev pub Joins : Shape → Shape → Meeting → Type 0
Joins x y (Meet t) = Becomes t x × Becomes t y × (is_promoted (shape.Integers t) ≡ true)
Joins x y Unlike = Unit {0}
Joins x y Outranked = Unit {0}

vector_joins : (x : Shape) → is_vector x ≡ true → is_promoted (shape.Integers (type_of x)) ≡ true
vector_joins x h = many_promoted (type_of x) (vector_count x h)

alike_joins : (x y : Shape) → is_vector x ≡ true → is_vector y ≡ true → Joins x y (alike_vectors (type_of x) (type_of y))
alike_joins x y h k =
    by_test (Joins x y) (is_same (type_of x) (type_of y)) (Meet (type_of x)) Unlike
    (λ e. (inr (vector_is x h), inr (vector_is y k ∙ ap shape.Integers (sym (same_is_one (type_of x) (type_of y) e))), vector_joins x h)) (λ e. tt)

first_joins : (x y : Shape) → is_vector x ≡ true → is_number y ≡ true → Joins x y (beside (type_of x) y)
first_joins x y h k = by_test (Joins x y) (nat_lt (type_of x).bits (rank y)) Outranked (Meet (type_of x)) (λ e. tt) (λ e. (inr (vector_is x h), inl k, vector_joins x h))

second_joins : (x y : Shape) → is_number x ≡ true → is_vector y ≡ true → Joins x y (beside (type_of y) x)
second_joins x y h k = by_test (Joins x y) (nat_lt (type_of y).bits (rank x)) Outranked (Meet (type_of y)) (λ e. tt) (λ e. (inl h, inr (vector_is y k), vector_joins y k))

-- a property of what two operands meet in, by the rules for it
by_meeting : (P : Meeting → Type 0) (x y : Shape) → (is_number x ≡ true → is_number y ≡ true → P (Meet (usual (type_of x) (type_of y)))) → (is_vector x ≡ true → is_vector y ≡ true → P (alike_vectors (type_of x) (type_of y))) → (is_vector x ≡ true → is_number y ≡ true → P (beside (type_of x) y)) → (is_number x ≡ true → is_vector y ≡ true → P (beside (type_of y) x)) → P Unlike → P (meet x y)
by_meeting P x y nn vv vn nv u =
    by_test P (is_number x && is_number y) (Meet (usual (type_of x) (type_of y))) _ (λ e. nn (first_so (is_number x) (is_number y) e) (second_so (is_number x) (is_number y) e))
    (λ e. by_test P (is_vector x && is_vector y) (alike_vectors (type_of x) (type_of y)) _ (λ e2. vv (first_so (is_vector x) (is_vector y) e2) (second_so (is_vector x) (is_vector y) e2))
    (λ e2. by_test P (is_vector x && is_number y) (beside (type_of x) y) _ (λ e3. vn (first_so (is_vector x) (is_number y) e3) (second_so (is_vector x) (is_number y) e3))
    (λ e3. by_test P (is_number x && is_vector y) (beside (type_of y) x) Unlike (λ e4. nv (first_so (is_number x) (is_vector y) e4) (second_so (is_number x) (is_vector y) e4)) (λ e4. u))))

pub meet_joins : (x y : Shape) → Joins x y (meet x y)
meet_joins x y =
    by_meeting (Joins x y) x y (λ h k. (inl h, inl k, usual_promoted (type_of x) (type_of y))) (alike_joins x y) (first_joins x y) (second_joins x y) tt

-- ---- the type of a compound assignment's operands together

-- where it converts back to the place's type, it is that of the value
abbrev pub Returns : Shape → Meeting → Type 0
Returns x (Meet t) = (is_number x && not (nat_eq t.count 1)) ≡ false → takes_right x (shape.Integers t) ≡ true
Returns x Unlike = Unit {0}
Returns x Outranked = Unit {0}

usual_right : (a b : Gentype) → IsOne a → IsOne b → (nat_eq (usual a b).count 1 && is_same (usual a b) (usual a (usual a b))) ≡ true
usual_right a b h k =
    and_from (nat_eq (usual a b).count 1) (is_same (usual a b) (usual a (usual a b))) (one_usual a b h k) (ap (is_same (usual a b)) (usual_again a b) ∙ same_itself (usual a b))

number_right : (x : Shape) (b : Gentype) → is_number x ≡ true → IsOne b → takes_right x (shape.Integers (usual (type_of x) b)) ≡ true
number_right shape.Bool b h k = usual_right int b refl k
number_right (shape.Integers t) b h k =
    ap (λ c. if c then nat_eq (usual t b).count 1 && is_same (usual t b) (usual t (usual t b)) else is_same t (usual t b)) h ∙ usual_right t b h k
number_right x b h k = absurd (true≢false (sym h))

vector_right : (x : Shape) → is_vector x ≡ true → takes_right x (shape.Integers (type_of x)) ≡ true
vector_right (shape.Integers t) h = ap (λ c. if c then nat_eq t.count 1 && is_same t (usual t t) else is_same t t) (not-true (nat_eq t.count 1) h) ∙ same_itself t
vector_right x h = absurd (true≢false (sym h))

no_vector_returns : (x y : Shape) → is_number x ≡ true → is_vector y ≡ true → Returns x (beside (type_of y) x)
no_vector_returns x y h k =
    by_test (Returns x) (nat_lt (type_of y).bits (rank x)) Outranked (Meet (type_of y)) (λ e. tt)
    (λ e f. absurd (true≢false (sym (and_from (is_number x) (not (nat_eq (type_of y).count 1)) h (ap not (vector_count y k))) ∙ f)))

pub meet_returns : (x y : Shape) → Returns x (meet x y)
meet_returns x y =
    by_meeting (Returns x) x y (λ h k e. number_right x (type_of y) h (number_count y k))
    (λ h k. by_test (Returns x) (is_same (type_of x) (type_of y)) (Meet (type_of x)) Unlike (λ e f. vector_right x h) (λ e. tt))
    (λ h k. by_test (Returns x) (nat_lt (type_of x).bits (rank y)) Outranked (Meet (type_of x)) (λ e. tt) (λ e f. vector_right x h)) (no_vector_returns x y) tt
