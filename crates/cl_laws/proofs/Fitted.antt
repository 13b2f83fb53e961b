-- What rules make, taken apart: tests that are kept, operands behind their conversions, and which operands convert.
use Rattle.std.proofs.Common.{◌≡◌, ℕ, List, [], ◌∷◌, refl, sym, ap, ◌∙◌, subst, Bool, true, false, not, ◌&&◌, ◌||◌, if◌then◌else◌, true≢false, nat_eq, ◌⊎◌, inl, inr, Option, Some, None, is_some}
use Rattle.std.specs.Cmp.{first_so, second_so}
use Rattle.std.proofs.lemmas.Bool.{and_from, or_left, eqb-true, eq-eqb}
use Rattle.cl_types.specs.declared.space.Space.{Space}
use Rattle.cl_types.specs.declared.types.TypeId.{TypeId}
use Rattle.cl_types.specs.Same.{space_number}
use Rattle.cl_types.specs.Table.{IsTable}
use Rattle.cl_builtins.specs.declared.kind.Gentype.{Gentype}
use Rattle.cl_builtins.specs.Found.{IsKnown}
use Rattle.cl_tree.specs.declared.shape.Shape.{Shape}
use Rattle.cl_tree.specs.declared.shape.Shape.TheVariants as shape
use Rattle.cl_tree.specs.declared.expression.Facts.{Facts}
use Rattle.cl_tree.specs.Facts.{Lists, when, shape_at, points_into, is_into, converts_to, is_plain_pointer}
use Rattle.cl_tree.specs.Shapes.{shape_of, same_type, same_space, is_pointer, is_number, is_array, is_struct, takes_value}
use Rattle.cl_tree.specs.Units.{is_object, are_allowed}
use Rattle.cl_rules.specs.declared.rule.Judged.{Judged}
use Rattle.cl_rules.specs.declared.rule.Judged.TheVariants.{Broken, Makes}
use Rattle.cl_rules.specs.declared.rule.Made.{Made}
use Rattle.cl_rules.specs.declared.rule.Operand.{Operand}
use Rattle.cl_rules.specs.declared.rule.Want.{Want}
use Rattle.cl_rules.specs.declared.rule.Want.TheVariants as want
use Rattle.cl_rules.specs.Operands.{first_broken, unless_at, unless, integers, pointer_from, seen, to_array, same_target, common}
use Rattle.cl_make.specs.Ready.{IsReadyOperand}
use Rattle.cl_make.specs.Wanted.{IsWanted, by_number, by_shape, IsAskableShape}
use Rattle.cl_make.proofs.Asked.{seen_askable}
use Rattle.cl_laws.specs.Fitting.{node_facts, IsAfter, unasked, fitting, changed, AreAfter, none, more, IsConvertible, AreConvertible, none_converts, more_convert, RuleFits}
use Rattle.cl_laws.proofs.SameTypes.{same_wanted, shape_wanted}

-- ---- tests

pub by_test : {A : Type 0} (P : A → Type 0) (b : Bool) (x y : A) → (b ≡ true → P x) → (b ≡ false → P y) → P (if b then x else y)
by_test P true x y f g = f refl
by_test P false x y f g = g refl

some_none : {A : Type 0} {x : A} → Some x ≡ None → ⊥
some_none e = true≢false (ap is_some e)

-- the first of tests that are all kept, and the others
pub test_kept : (t : ℕ × Bool) (ts : List (ℕ × Bool)) → first_broken (t ∷ ts) ≡ None → t.1 ≡ false
test_kept t ts h = by t.1 h
  where
    by : (b : Bool) → (if b then Some t.0 else first_broken ts) ≡ None → b ≡ false
    by true e = absurd (some_none e)
    by false e = refl

pub tests_kept : (t : ℕ × Bool) (ts : List (ℕ × Bool)) → first_broken (t ∷ ts) ≡ None → first_broken ts ≡ None
tests_kept t ts h = by t.1 h
  where
    by : (b : Bool) → (if b then Some t.0 else first_broken ts) ≡ None → first_broken ts ≡ None
    by true e = absurd (some_none e)
    by false e = e

pub kept_when : {A : Type 0} (b : Bool) (x : A) → b ≡ true → when b x ≡ Some x
kept_when b x h = ap (λ c. when c x) h

excluded : (b : Bool) → (b || not b) ≡ true
excluded true = refl
excluded false = refl

-- ---- what a rule makes fits, where it makes something

abbrev pub Fits : Lists → List Facts → Judged → Type 0
Fits l fs (Broken code) = Unit {0}
Fits l fs (Makes m) = RuleFits l m fs

abbrev pub FitsIf : Lists → List Facts → Option Judged → Type 0
FitsIf l fs None = Unit {0}
FitsIf l fs (Some j) = Fits l fs j

pub fits_made : (l : Lists) (fs : List Facts) (j : Judged) (m : Made) → j ≡ Makes m → Fits l fs j → RuleFits l m fs
fits_made l fs j m e h = subst (Fits l fs) e h

pub fits_made_if : (l : Lists) (fs : List Facts) (j : Option Judged) (m : Made) → j ≡ Some (Makes m) → FitsIf l fs j → RuleFits l m fs
fits_made_if l fs j m e h = subst (FitsIf l fs) e h

pub fits_unless : (l : Lists) (fs : List Facts) (tests : List (ℕ × Bool)) (made : Made) → (first_broken tests ≡ None → RuleFits l made fs) → Fits l fs (unless tests made)
fits_unless l fs tests made h = by (first_broken tests) h
  where
    by : (o : Option ℕ) → (o ≡ None → RuleFits l made fs) → Fits l fs (unless_at o made)
    by None f = f refl
    by (Some code) f = tt

-- ---- operands behind their conversions

abbrev pub NotOwn : Want → Type 0
NotOwn want.Own = ⊥
NotOwn (want.Type t) = Unit {0}
NotOwn (want.Of s) = Unit {0}

wanted_not_own : (l : Lists) (w : Want) (t : TypeId) → IsWanted l.types w t → NotOwn w
wanted_not_own l w t (by_number u k) = tt
wanted_not_own l w t (by_shape s u k e) = tt

pub after_own : (l : Lists) (f g : Facts) → IsAfter l want.Own f g → f ≡ g
after_own l f g (unasked x) = refl
after_own l f g (fitting w x h) = absurd (wanted_not_own l want.Own x.ty h)
after_own l f g (changed w x ty h) = absurd (wanted_not_own l want.Own ty h)

pub after_wanted : (l : Lists) (w : Want) (f g : Facts) → NotOwn w → IsAfter l w f g → IsWanted l.types w g.ty
after_wanted l w f g n (unasked x) = absurd n
after_wanted l w f g n (fitting v x h) = h
after_wanted l w f g n (changed v x ty h) = h

after_none : (l : Lists) (gs : List Facts) (P : List Facts → Type 0) → AreAfter l [] [] gs → P [] → P gs
after_none l gs P none h = h

pub after_one : (l : Lists) (w : Want) (f : Facts) (gs : List Facts) (P : List Facts → Type 0) → AreAfter l (w ∷ []) (f ∷ []) gs → ((x : Facts) → IsAfter l w f x → P (x ∷ [])) → P gs
after_one l w f gs P (more v vs g x hs xs a r) h = after_none l xs (λ zs. P (x ∷ zs)) r (h x a)

pub after_two : (l : Lists) (v w : Want) (f g : Facts) (gs : List Facts) (P : List Facts → Type 0) → AreAfter l (v ∷ w ∷ []) (f ∷ g ∷ []) gs → ((x y : Facts) → IsAfter l v f x → IsAfter l w g y → P (x ∷ y ∷ [])) → P gs
after_two l v w f g gs P (more u us i x hs xs a r) h = after_one l w g xs (λ zs. P (x ∷ zs)) r (λ y c. h x y a c)

-- ---- nodes over one operand, and over two

-- what a node of this rule is
abbrev pub made_facts : Made → TypeId → Facts
made_facts m ty = record { ty = ty; lies = m.lies; component = m.component }

pub fits_one : (l : Lists) (m : Made) (w : Want) (f : Facts) → m.wants ≡ w ∷ [] → IsConvertible l w f → ((x : Facts) (ty : TypeId) → IsAfter l w f x → IsWanted l.types m.gives ty → node_facts m.head l ty (x ∷ []) ≡ Some (made_facts m ty)) → RuleFits l m (f ∷ [])
fits_one l m w f e c g = record {
  converts = subst (λ ws. AreConvertible l ws (f ∷ [])) (sym e) (more_convert w [] f [] c none_converts);
  gives = λ gs ty a k. after_one l w f gs (λ zs. node_facts m.head l ty zs ≡ Some (made_facts m ty)) (subst (λ ws. AreAfter l ws (f ∷ []) gs) e a) (λ x i. g x ty i k);
}

pub fits_two : (l : Lists) (m : Made) (v w : Want) (f g : Facts) → m.wants ≡ v ∷ w ∷ [] → IsConvertible l v f → IsConvertible l w g → ((x y : Facts) (ty : TypeId) → IsAfter l v f x → IsAfter l w g y → IsWanted l.types m.gives ty → node_facts m.head l ty (x ∷ y ∷ []) ≡ Some (made_facts m ty)) → RuleFits l m (f ∷ g ∷ [])
fits_two l m v w f g e c d h = record {
  converts = subst (λ ws. AreConvertible l ws (f ∷ g ∷ [])) (sym e) (more_convert v (w ∷ []) f (g ∷ []) c (more_convert w [] g [] d none_converts));
  gives = λ gs ty a k. after_two l v w f g gs (λ zs. node_facts m.head l ty zs ≡ Some (made_facts m ty)) (subst (λ ws. AreAfter l ws (f ∷ g ∷ []) gs) e a) (λ x y i j. h x y ty i j k);
}

-- ---- types and address spaces that are one

pub same_types : (t u : TypeId) → t ≡ u → same_type t u ≡ true
same_types t u e = subst (λ x. same_type t x ≡ true) e (eq-eqb t.0 t.0 refl)

pub one_type_wanted : (l : Lists) (s : Shape) (t u : TypeId) → IsTable l.types → is_struct s ≡ false → IsWanted l.types (want.Of s) t → IsWanted l.types (want.Of s) u → same_type t u ≡ true
one_type_wanted l s t u b n x y = same_types t u (same_wanted l.types s t u b n x y)

pub into_itself : (s : Space) → is_into s (Some s) ≡ true
into_itself s = eq-eqb (space_number s) (space_number s) refl

pub into_same : (s z : Space) (o : Option Space) → same_space s z ≡ true → is_into z o ≡ true → is_into s o ≡ true
into_same s z None e h = h
into_same s z (Some x) e h = ap (λ n. nat_eq n (space_number x)) (eqb-true (space_number s) (space_number z) e) ∙ h

pub into_other : (s z : Space) → same_space z s ≡ true → is_into s (Some z) ≡ true
into_other s z e = eq-eqb (space_number s) (space_number z) (sym (eqb-true (space_number z) (space_number s) e))

-- ---- conversions to integers

-- a number, or this type already
abbrev pub Becomes : Gentype → Shape → Type 0
Becomes t s = (is_number s ≡ true) ⊎ (s ≡ shape.Integers t)

pub number_converts : (l : Lists) (f : Facts) (t : Gentype) (ty : TypeId) → is_number (shape_at l f) ≡ true → shape_of l.types ty ≡ shape.Integers t → converts_to l f ty (shape_of l.types ty) ≡ true
number_converts l f t ty n e =
    let to = excluded (nat_eq t.count 1) in
    subst (λ s. converts_to l f ty s ≡ true) (sym e)
    (or_left (is_number (shape_at l f) && (nat_eq t.count 1 || not (nat_eq t.count 1))) (takes_value (shape_at l f) && same_type f.ty ty) (and_from (is_number (shape_at l f)) (nat_eq t.count 1 || not (nat_eq t.count 1)) n to))

pub integers_convertible : (l : Lists) (f : Facts) (t : Gentype) → IsTable l.types → IsKnown l.types f.ty → Becomes t (shape_at l f) → IsConvertible l (integers t) f
integers_convertible l f t b k (inl n) = λ ty w ne. number_converts l f t ty n (shape_wanted l.types (shape.Integers t) ty w)
integers_convertible l f t b k (inr e) = λ ty w ne. absurd (ne (same_wanted l.types (shape.Integers t) f.ty ty b refl (by_shape (shape.Integers t) f.ty k e) w))

-- ---- conversions to pointers

-- what points into this address space converts to this pointer
abbrev pub leads : Shape → Option Space → Bool
leads (shape.Pointer s to readonly restricted) lies = is_into s lies
leads _ lies = false

leading_converts : (l : Lists) (f : Facts) (p : Shape) (ty : TypeId) → leads p (points_into (shape_at l f) f.lies) ≡ true → converts_to l f ty p ≡ true
leading_converts l f (shape.Pointer s to readonly restricted) ty h = h
leading_converts l f p ty h = absurd (true≢false (sym h))

pub pointer_convertible : (l : Lists) (f : Facts) (p : Shape) → leads p (points_into (shape_at l f) f.lies) ≡ true → IsConvertible l (want.Of p) f
pointer_convertible l f p h = λ ty w ne. subst (λ s. converts_to l f ty s ≡ true) (sym (shape_wanted l.types p ty w)) (leading_converts l f p ty h)

from_leads : (lies : Option Space) (readonly : Bool) (s : Shape) → is_pointer (pointer_from lies readonly s) ≡ true → leads (pointer_from lies readonly s) (points_into s lies) ≡ true
from_leads None readonly (shape.Pointer z to ro re) h = into_itself z
from_leads (Some y) readonly (shape.Pointer z to ro re) h = into_itself z
from_leads (Some y) readonly (shape.Array elem len nested) h = into_itself y
from_leads None readonly (shape.Array elem len nested) h = absurd (true≢false (sym h))
from_leads None readonly shape.Void h = absurd (true≢false (sym h))
from_leads None readonly shape.Bool h = absurd (true≢false (sym h))
from_leads None readonly (shape.Integers t) h = absurd (true≢false (sym h))
from_leads None readonly shape.Struct h = absurd (true≢false (sym h))
from_leads (Some y) readonly shape.Void h = absurd (true≢false (sym h))
from_leads (Some y) readonly shape.Bool h = absurd (true≢false (sym h))
from_leads (Some y) readonly (shape.Integers t) h = absurd (true≢false (sym h))
from_leads (Some y) readonly shape.Struct h = absurd (true≢false (sym h))

-- an operand that is or stands for a pointer converts to that
pub seen_leads : (l : Lists) (o : Operand) → IsReadyOperand l.types o → is_pointer (seen o) ≡ true → leads (seen o) (points_into (shape_at l o.facts) o.facts.lies) ≡ true
seen_leads l o r p = subst (λ s. leads (seen o) (points_into s o.facts.lies) ≡ true) r.shape (from_leads o.facts.lies o.readonly o.shape p)

pub common_leads_first : (p q : Shape) (lies : Option Space) → same_target p q ≡ true → leads p lies ≡ true → leads (common p q) lies ≡ true
common_leads_first (shape.Pointer s to ro re) (shape.Pointer s2 to2 ro2 re2) lies e h = h
common_leads_first p q lies e h = absurd (true≢false (sym e))

pub common_leads_second : (p q : Shape) (lies : Option Space) → same_target p q ≡ true → leads q lies ≡ true → leads (common p q) lies ≡ true
common_leads_second (shape.Pointer s to ro re) (shape.Pointer s2 to2 ro2 re2) lies e h = into_same s s2 lies (first_so (same_space s s2) (same_type to to2) e) h
common_leads_second p q lies e h = absurd (true≢false (sym e))

-- ---- pointers to no arrays

plain_askable : (l : Lists) (s : Shape) → are_allowed l.types l.types ≡ true → is_pointer s ≡ true → IsAskableShape l.types s → is_plain_pointer l s ≡ true
plain_askable l (shape.Pointer s to readonly restricted) a p h = second_so (is_object (shape_of l.types to)) (not (is_array (shape_of l.types to))) (h.1 a)
plain_askable l s a p h = absurd (true≢false (sym p))

pub seen_plain : (l : Lists) (o : Operand) → IsTable l.types → are_allowed l.types l.types ≡ true → IsReadyOperand l.types o → is_pointer (seen o) ≡ true → to_array o ≡ false → is_plain_pointer l (seen o) ≡ true
seen_plain l o b a r p e = plain_askable l (seen o) a p (seen_askable l.types b o r p e)

pub common_plain : (l : Lists) (p q : Shape) → same_target p q ≡ true → is_plain_pointer l p ≡ true → is_plain_pointer l (common p q) ≡ true
common_plain l (shape.Pointer s to ro re) (shape.Pointer s2 to2 ro2 re2) e h = h
common_plain l p q e h = absurd (true≢false (sym e))

pub plain_no_struct : (l : Lists) (p : Shape) → is_plain_pointer l p ≡ true → is_struct p ≡ false
plain_no_struct l (shape.Pointer s to readonly restricted) h = refl
plain_no_struct l p h = absurd (true≢false (sym h))
