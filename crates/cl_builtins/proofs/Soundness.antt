-- The types of a form are types that the table of its arguments can have.
use Rattle.std.proofs.Common.{◌≡◌, ℕ, zero, suc, ◌*◌, List, [], ◌∷◌, length, replicate, refl, sym, ap, subst, Bool, true, false, ◌&&◌, ◌||◌, cond, Some, None, Option, fold, true≢false}
use Rattle.std.specs.Prelude.{is_some, nat_eq, nat_lt, not}
use Rattle.std.specs.Cmp.{first_so, second_so}
use Rattle.std.specs.List.{list_all}
use Rattle.cl_types.specs.declared.types.ClType.{ClType}
use Rattle.cl_types.specs.Layout.{is_width, is_count}
use Rattle.std.proofs.lemmas.Bool.{eqb-true}
use Rattle.cl_builtins.specs.declared.kind.Gentype.{Gentype}
use Rattle.cl_builtins.specs.declared.kind.Kind.{Kind}
use Rattle.cl_builtins.specs.declared.kind.Kind.TheVariants as kind
use Rattle.cl_builtins.specs.declared.form.Form.{Form}
use Rattle.cl_builtins.specs.declared.name.Rule.{Rule}
use Rattle.cl_builtins.specs.declared.name.Rule.TheVariants as rule
use Rattle.cl_builtins.specs.Kinds.{int, uint, unsigned_of, promoted, greater, usual, is_gentype, is_scalar, converts}
use Rattle.cl_builtins.specs.Forms.{these, only, operand, is_operand, usual_with, usual_of, common_at, common, type_of, of_type, alike_form, unsigned_form, narrow_form, has_limits, limited, one_number, doubled, upsampled, upsample, selected, selection, converted, reads_as, reread, tested, vector_of, loaded, is_constant, stored, is_shared, atomic, form_of}
use Rattle.cl_builtins.specs.Tables.{IsOfTable, EachOfTable, AreOfTable}
use Rattle.cl_builtins.proofs.Naming.{is_sound}

none_some : {A : Type 0} {x : A} → None ≡ Some x → ⊥
none_some e = true≢false (sym (ap is_some e))

some_same : {A : Type 0} (x y : A) → Some x ≡ Some y → x ≡ y
some_same x y e = cc

-- ---- integer types

abbrev Fine : Gentype → Type 0
Fine t = is_gentype t ≡ true

promoted_fine : (t : Gentype) → Fine t → Fine (promoted t)
promoted_fine t h = by (nat_lt t.bits 32)
  where
    by : (b : Bool) → Fine (cond b int t)
    by true = refl
    by false = h

greater_fine : (a b : Gentype) → Fine a → Fine b → Fine (greater a b)
greater_fine a b h g = by (nat_lt a.bits b.bits) (nat_lt b.bits a.bits) a.signed
  where
    by : (x y z : Bool) → Fine (cond x b (cond y a (cond z b a)))
    by true y z = g
    by false true z = h
    by false false true = g
    by false false false = h

usual_fine : (a b : Gentype) → Fine a → Fine b → Fine (usual a b)
usual_fine a b h g = greater_fine (promoted a) (promoted b) (promoted_fine a h) (promoted_fine b g)

with_fine : (cs : List ClType) (t : Gentype) (k : Kind) → Fine t → IsOfTable cs k → Fine (usual_with t k)
with_fine cs t kind.Void h g = h
with_fine cs t kind.Bool h g = usual_fine t int h refl
with_fine cs t (kind.Integers x) h g = usual_fine t x h g
with_fine cs t (kind.Pointer own space readonly to) h g = h
with_fine cs t (kind.Other own) h g = h

fold_fine : (cs : List ClType) (t : Gentype) (ks : List Kind) → Fine t → EachOfTable cs ks → Fine (fold usual_with t ks)
fold_fine cs t [] h g = h
fold_fine cs t (k ∷ ks) h g = fold_fine cs (usual_with t k) ks (with_fine cs t k h g.0) g.1

operand_fine : (cs : List ClType) (k : Kind) (t : Gentype) → IsOfTable cs k → operand k ≡ Some t → Fine t
operand_fine cs kind.Void t h e = absurd (none_some e)
operand_fine cs kind.Bool t h e = subst Fine (some_same int t e) refl
operand_fine cs (kind.Integers x) t h e = subst Fine (some_same x t e) h
operand_fine cs (kind.Pointer own space readonly to) t h e = absurd (none_some e)
operand_fine cs (kind.Other own) t h e = absurd (none_some e)

at_fine : (cs : List ClType) (o : Option Gentype) (ks : List Kind) (t : Gentype) → ((x : Gentype) → o ≡ Some x → Fine x) → EachOfTable cs ks → common_at o ks ≡ Some t → Fine t
at_fine cs None ks t f h e = absurd (none_some e)
at_fine cs (Some x) ks t f h e = by (list_all (is_operand x) ks) (list_all is_scalar ks) e
  where
    by : (a b : Bool) → cond a (Some x) (cond b (Some (usual_of ks)) None) ≡ Some t → Fine t
    by true b e = subst Fine (some_same x t e) (f x refl)
    by false true e = subst Fine (some_same (usual_of ks) t e) (fold_fine cs int ks refl h)
    by false false e = absurd (none_some e)

common_fine : (cs : List ClType) (ks : List Kind) (t : Gentype) → EachOfTable cs ks → common ks ≡ Some t → Fine t
common_fine cs [] t h e = absurd (none_some e)
common_fine cs (k ∷ ks) t h e = at_fine cs (operand k) (k ∷ ks) t (λ x f. operand_fine cs k x h.0 f) h e

type_fine : (cs : List ClType) (n : ℕ) (ks : List Kind) (t : Gentype) → EachOfTable cs ks → type_of n ks ≡ Some t → Fine t
type_fine cs n ks t h e = by (nat_eq (length ks) n) e
  where
    by : (b : Bool) → cond b (common ks) None ≡ Some t → Fine t
    by true e = common_fine cs ks t h e
    by false e = absurd (none_some e)

both : (a b : Bool) → a ≡ true → b ≡ true → (a && b) ≡ true
both a b h g = (λ i. h i && g i)

true_or : (a b : Bool) → b ≡ true → (a || b) ≡ true
true_or true b h = refl
true_or false b h = h

counted_fine : (t : Gentype) (n : ℕ) → Fine t → is_count n ≡ true → Fine (record t { count = n })
counted_fine t n h c = both (is_width t.bits) (nat_eq n 1 || is_count n) (first_so (is_width t.bits) (nat_eq t.count 1 || is_count t.count) h) (true_or (nat_eq n 1) (is_count n) c)

-- twice a width below 64 is one
doubled_width : (bits : ℕ) → is_width bits ≡ true → nat_lt bits 64 ≡ true → is_width (2 * bits) ≡ true
doubled_width bits h l = by (nat_eq bits 8) (nat_eq bits 16) (nat_eq bits 32) (nat_eq bits 64) refl refl refl refl h
  where
    by : (a b c d : Bool) → nat_eq bits 8 ≡ a → nat_eq bits 16 ≡ b → nat_eq bits 32 ≡ c → nat_eq bits 64 ≡ d → (a || b || c || d) ≡ true → is_width (2 * bits) ≡ true
    by true b c d p q r s h = subst (λ z. is_width (2 * z) ≡ true) (sym (eqb-true bits 8 p)) refl
    by false true c d p q r s h = subst (λ z. is_width (2 * z) ≡ true) (sym (eqb-true bits 16 q)) refl
    by false false true d p q r s h = subst (λ z. is_width (2 * z) ≡ true) (sym (eqb-true bits 32 r)) refl
    by false false false true p q r s h = absurd (true≢false (sym (subst (λ z. nat_lt z 64 ≡ true) (eqb-true bits 64 s) l)))
    by false false false false p q r s h = absurd (true≢false (sym h))

doubled_fine : (t : Gentype) → Fine t → nat_lt t.bits 64 ≡ true → Fine (doubled t)
doubled_fine t h l = both (is_width (2 * t.bits)) (nat_eq t.count 1 || is_count t.count) (doubled_width t.bits (first_so (is_width t.bits) (nat_eq t.count 1 || is_count t.count) h) l) (second_so (is_width t.bits) (nat_eq t.count 1 || is_count t.count) h)

-- ---- forms

-- the answer, where it is one
abbrev Sound : List ClType → Option Form → Type 0
Sound cs None = Unit {0}
Sound cs (Some f) = AreOfTable cs f

only_sound : (cs : List ClType) (b : Bool) (f : Form) → (b ≡ true → AreOfTable cs f) → Sound cs (only b f)
only_sound cs true f h = h refl
only_sound cs false f h = tt

copies : (cs : List ClType) (n : ℕ) (t : Gentype) → Fine t → EachOfTable cs (replicate n (kind.Integers t))
copies cs zero t h = tt
copies cs (suc n) t h = (h, copies cs n t h)

of_type_sound : (cs : List ClType) (n : ℕ) (t gives : Gentype) → Fine t → Fine gives → AreOfTable cs (of_type n t gives)
of_type_sound cs n t gives h g = (copies cs n t h, g)

alike_sound : (cs : List ClType) (n : ℕ) (o : Option Gentype) → ((t : Gentype) → o ≡ Some t → Fine t) → Sound cs (alike_form n o)
alike_sound cs n None f = tt
alike_sound cs n (Some t) f = of_type_sound cs n t t (f t refl) (f t refl)

unsigned_sound : (cs : List ClType) (n : ℕ) (o : Option Gentype) → ((t : Gentype) → o ≡ Some t → Fine t) → Sound cs (unsigned_form n o)
unsigned_sound cs n None f = tt
unsigned_sound cs n (Some t) f = of_type_sound cs n t (unsigned_of t) (f t refl) (f t refl)

narrow_sound : (cs : List ClType) (n : ℕ) (o : Option Gentype) → ((t : Gentype) → o ≡ Some t → Fine t) → Sound cs (narrow_form n o)
narrow_sound cs n None f = tt
narrow_sound cs n (Some t) f = only_sound cs (nat_eq t.bits 32) (of_type n t t) (λ _. of_type_sound cs n t t (f t refl) (f t refl))

limited_sound : (cs : List ClType) (n : ℕ) (ks : List Kind) → EachOfTable cs ks → Sound cs (limited n ks)
limited_sound cs n (kind.Integers t ∷ ks) h = by (has_limits n t ks)
  where
    by : (b : Bool) → Sound cs (cond b (Some (these (kind.Integers t ∷ ks) (kind.Integers t))) (alike_form n (type_of n (kind.Integers t ∷ ks))))
    by true = (h, h.0)
    by false = alike_sound cs n (type_of n (kind.Integers t ∷ ks)) (λ x e. type_fine cs n (kind.Integers t ∷ ks) x h e)
limited_sound cs n [] h = alike_sound cs n (type_of n []) (λ x e. type_fine cs n [] x h e)
limited_sound cs n (kind.Void ∷ ks) h = alike_sound cs n (type_of n (kind.Void ∷ ks)) (λ x e. type_fine cs n (kind.Void ∷ ks) x h e)
limited_sound cs n (kind.Bool ∷ ks) h = alike_sound cs n (type_of n (kind.Bool ∷ ks)) (λ x e. type_fine cs n (kind.Bool ∷ ks) x h e)
limited_sound cs n (kind.Pointer own space readonly to ∷ ks) h = alike_sound cs n (type_of n (kind.Pointer own space readonly to ∷ ks)) (λ x e. type_fine cs n (kind.Pointer own space readonly to ∷ ks) x h e)
limited_sound cs n (kind.Other own ∷ ks) h = alike_sound cs n (type_of n (kind.Other own ∷ ks)) (λ x e. type_fine cs n (kind.Other own ∷ ks) x h e)

number_sound : (cs : List ClType) (ks : List Kind) (gives : Kind) → IsOfTable cs gives → Sound cs (one_number ks gives)
number_sound cs (d ∷ []) gives h = only_sound cs (converts uint d) (these (kind.Integers uint ∷ []) gives) (λ _. ((refl, tt), h))
number_sound cs _ gives h = tt

upsampled_sound : (cs : List ClType) (o : Option Gentype) (low : Kind) → ((t : Gentype) → o ≡ Some t → Fine t) → Sound cs (upsampled o low)
upsampled_sound cs None low f = tt
upsampled_sound cs (Some t) low f =
    only_sound cs (nat_lt t.bits 64 && converts (unsigned_of t) low) (these (kind.Integers t ∷ kind.Integers (unsigned_of t) ∷ []) (kind.Integers (doubled t)))
    (λ e. ((f t refl, (f t refl, tt)), doubled_fine t (f t refl) (first_so (nat_lt t.bits 64) (converts (unsigned_of t) low) e)))

upsample_sound : (cs : List ClType) (ks : List Kind) → EachOfTable cs ks → Sound cs (upsample ks)
upsample_sound cs (high ∷ low ∷ []) h = upsampled_sound cs (operand high) low (λ x e. operand_fine cs high x h.0 e)
upsample_sound cs _ h = tt

selected_sound : (cs : List ClType) (o : Option Gentype) (by : Gentype) → ((t : Gentype) → o ≡ Some t → Fine t) → Fine by → Sound cs (selected o by)
selected_sound cs None by f g = tt
selected_sound cs (Some t) by f g =
    only_sound cs (nat_eq by.bits t.bits && nat_eq by.count t.count) (these (kind.Integers t ∷ kind.Integers t ∷ kind.Integers by ∷ []) (kind.Integers t))
    (λ _. ((f t refl, (f t refl, (g, tt))), f t refl))

selection_sound : (cs : List ClType) (ks : List Kind) → EachOfTable cs ks → Sound cs (selection ks)
selection_sound cs (a ∷ b ∷ kind.Integers by ∷ []) h = selected_sound cs (common (a ∷ b ∷ [])) by (λ x e. common_fine cs (a ∷ b ∷ []) x (h.0, (h.1.0, tt)) e) h.1.1.0
selection_sound cs _ h = tt

converted_sound : (cs : List ClType) (to : Gentype) (ks : List Kind) → Fine to → EachOfTable cs ks → Sound cs (converted to ks)
converted_sound cs to (kind.Integers t ∷ []) g h = only_sound cs (nat_eq t.count to.count) (these (kind.Integers t ∷ []) (kind.Integers to)) (λ _. (h, g))
converted_sound cs to _ g h = tt

reread_sound : (cs : List ClType) (to : Gentype) (ks : List Kind) → Fine to → EachOfTable cs ks → Sound cs (reread to ks)
reread_sound cs to (kind.Integers t ∷ []) g h = only_sound cs (reads_as t to) (these (kind.Integers t ∷ []) (kind.Integers to)) (λ _. (h, g))
reread_sound cs to _ g h = tt

tested_sound : (cs : List ClType) (ks : List Kind) → EachOfTable cs ks → Sound cs (tested ks)
tested_sound cs (kind.Integers t ∷ []) h = only_sound cs t.signed (these (kind.Integers t ∷ []) (kind.Integers int)) (λ _. (h, refl))
tested_sound cs _ h = tt

vector_fine : (cs : List ClType) (to : Gentype) (n : ℕ) → Fine to → is_count n ≡ true → IsOfTable cs (vector_of to n)
vector_fine cs to n h c = counted_fine to n h c

loaded_sound : (cs : List ClType) (n : ℕ) (ks : List Kind) → is_count n ≡ true → EachOfTable cs ks → Sound cs (loaded n ks)
loaded_sound cs n (at ∷ kind.Pointer own space readonly to ∷ []) c h =
    only_sound cs (converts uint at) (these (kind.Integers uint ∷ kind.Pointer own space readonly to ∷ []) (vector_of to n))
    (λ _. ((refl, (h.1.0, tt)), vector_fine cs to n h.1.0.1 c))
loaded_sound cs n _ c h = tt

stored_sound : (cs : List ClType) (n : ℕ) (ks : List Kind) → is_count n ≡ true → EachOfTable cs ks → Sound cs (stored n ks)
stored_sound cs n (v ∷ at ∷ kind.Pointer own space readonly to ∷ []) c h =
    only_sound cs (not readonly && not (is_constant space) && converts (record to { count = n }) v && converts uint at) (these (vector_of to n ∷ kind.Integers uint ∷ kind.Pointer own space readonly to ∷ []) kind.Void)
    (λ _. ((vector_fine cs to n h.1.1.0.1 c, (refl, (h.1.1.0, tt))), tt))
stored_sound cs n _ c h = tt

atomic_sound : (cs : List ClType) (n : ℕ) (ks : List Kind) → EachOfTable cs ks → Sound cs (atomic n ks)
atomic_sound cs n (kind.Pointer own space readonly to ∷ ks) h =
    only_sound cs (is_shared space && not readonly && nat_eq to.bits 32 && nat_eq (length ks) n && list_all (converts to) ks) (these (kind.Pointer own space readonly to ∷ replicate n (kind.Integers to)) (kind.Integers to))
    (λ _. ((h.0, copies cs n to h.0.1), h.0.1))
atomic_sound cs n _ h = tt

form_sound : (cs : List ClType) (r : Rule) (ks : List Kind) → is_sound r ≡ true → EachOfTable cs ks → Sound cs (form_of r ks)
form_sound cs rule.Nothing [] s h = (tt, refl)
form_sound cs rule.Nothing (k ∷ ks) s h = tt
form_sound cs rule.Dimension ks s h = number_sound cs ks (kind.Integers uint) refl
form_sound cs rule.Fence ks s h = number_sound cs ks kind.Void tt
form_sound cs (rule.Alike n) ks s h = alike_sound cs n (type_of n ks) (λ t e. type_fine cs n ks t h e)
form_sound cs (rule.Unsigned n) ks s h = unsigned_sound cs n (type_of n ks) (λ t e. type_fine cs n ks t h e)
form_sound cs (rule.Narrow n) ks s h = narrow_sound cs n (type_of n ks) (λ t e. type_fine cs n ks t h e)
form_sound cs (rule.Limited n) ks s h = limited_sound cs n ks h
form_sound cs rule.Upsample ks s h = upsample_sound cs ks h
form_sound cs (rule.Convert to) ks s h = converted_sound cs to ks s h
form_sound cs (rule.Reread to) ks s h = reread_sound cs to ks s h
form_sound cs rule.Select ks s h = selection_sound cs ks h
form_sound cs rule.Test ks s h = tested_sound cs ks h
form_sound cs (rule.Load n) ks s h = loaded_sound cs n ks s h
form_sound cs (rule.Store n) ks s h = stored_sound cs n ks s h
form_sound cs (rule.Atomic n) ks s h = atomic_sound cs n ks h

-- a form of a rule of the table has types that the table can have
pub form_of_table : (cs : List ClType) (r : Rule) (ks : List Kind) (f : Form) → is_sound r ≡ true → EachOfTable cs ks → Some f ≡ form_of r ks → AreOfTable cs f
form_of_table cs r ks f s h e = subst (Sound cs) (sym e) (form_sound cs r ks s h)
