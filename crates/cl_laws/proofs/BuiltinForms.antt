-- The form of a call asks of each argument for a type to which it converts, and is the form of arguments that have these types.
use Rattle.std.proofs.Common.{◌≡◌, ℕ, zero, suc, ◌<◌, List, [], ◌∷◌, ◌++◌, length, replicate, refl, sym, ap, ◌∙◌, subst, arith, Bool, true, false, ◌&&◌, ◌||◌, cond, Some, None, Option, true≢false}
use Rattle.std.specs.Prelude.{nat_eq, nat_lt, not, bytes_eq, codes}
use Rattle.std.specs.Cmp.{first_so, second_so}
use Rattle.std.specs.List.{list_all}
use Rattle.std.proofs.lemmas.Bool.{and_from, eqb-true, eq-eqb}
use Rattle.cl_types.specs.declared.builtin.Builtin.TheVariants as b
use Rattle.cl_builtins.specs.declared.kind.Gentype.{Gentype}
use Rattle.cl_builtins.specs.declared.kind.Kind.{Kind}
use Rattle.cl_builtins.specs.declared.kind.Kind.TheVariants as kind
use Rattle.cl_builtins.specs.declared.form.Form.{Form}
use Rattle.cl_builtins.specs.declared.name.Rule.{Rule}
use Rattle.cl_builtins.specs.declared.name.Rule.TheVariants as rule
use Rattle.cl_builtins.specs.Kinds.{int, uint, alike, is_same, unsigned_of, element_of, is_scalar, is_type, converts}
use Rattle.cl_builtins.specs.Forms.{these, only, operand, is_operand, usual_of, common_at, common, type_of, of_type, alike_form, unsigned_form, narrow_form, has_limits, limited, one_number, doubled, upsampled, upsample, selected, selection, converted, reads_as, reread, tested, vector_of, loaded, is_constant, stored, is_shared, atomic, form_of}
use Rattle.cl_builtins.specs.Found.{named_by}
use Rattle.cl_builtins.specs.Names.{Entry, lookup, before, behind, beside, types, work_items, arithmetic, bitwise, relations, vectors, fences, atomics, plain, convert_to, read_as, conversions, rereadings, entries}
use Rattle.cl_tree.specs.BuiltinCalls.{same_kind, same_kinds, fits_form, fits_call}
use Rattle.cl_make.proofs.Growing.{none_some, some_same}

true_or : (a b : Bool) → b ≡ true → (a || b) ≡ true
true_or true b h = refl
true_or false b h = h

-- ---- what is the same

pub same_number : (n : ℕ) → nat_eq n n ≡ true
same_number n = eq-eqb n n refl

pub alike_itself : (a : Bool) → alike a a ≡ true
alike_itself true = refl
alike_itself false = refl

pub same_itself : (t : Gentype) → is_same t t ≡ true
same_itself t = and_from (nat_eq t.bits t.bits && alike t.signed t.signed) (nat_eq t.count t.count) (and_from (nat_eq t.bits t.bits) (alike t.signed t.signed) (same_number t.bits) (alike_itself t.signed)) (same_number t.count)

alike_same : (a c : Bool) → alike a c ≡ true → a ≡ c
alike_same true true h = refl
alike_same true false h = sym h
alike_same false true h = h
alike_same false false h = refl

pub same_integers : (t x : Gentype) → is_same t x ≡ true → t ≡ x
same_integers t x h =
    let components = first_so (nat_eq t.bits x.bits && alike t.signed x.signed) (nat_eq t.count x.count) h in
    let b = eqb-true t.bits x.bits (first_so (nat_eq t.bits x.bits) (alike t.signed x.signed) components) in
    let s = alike_same t.signed x.signed (second_so (nat_eq t.bits x.bits) (alike t.signed x.signed) components) in
    let c = eqb-true t.count x.count (second_so (nat_eq t.bits x.bits && alike t.signed x.signed) (nat_eq t.count x.count) h) in
    (λ i. record { bits = b i; signed = s i; count = c i })

kind_itself : (k : Kind) → same_kind k k ≡ true
kind_itself kind.Void = refl
kind_itself kind.Bool = refl
kind_itself (kind.Integers t) = same_itself t
kind_itself (kind.Pointer own space readonly to) = same_number own.0
kind_itself (kind.Other own) = same_number own.0

kinds_themselves : (ks : List Kind) → same_kinds ks ks ≡ true
kinds_themselves [] = refl
kinds_themselves (k ∷ ks) = and_from (same_kind k k) (same_kinds ks ks) (kind_itself k) (kinds_themselves ks)

own_form : (f : Form) (o : Option Form) → o ≡ Some f → fits_form f.params f.result o ≡ true
own_form f o e = subst (λ z. fits_form f.params f.result z ≡ true) (sym e) (and_from (same_kinds f.params f.params) (same_kind f.result f.result) (kinds_themselves f.params) (kind_itself f.result))

-- ---- what stands for what

-- an argument converts to integers, and is the pointer that is asked for
abbrev pub IsTaken : Kind → Kind → Type 0
IsTaken k (kind.Integers t) = converts t k ≡ true
IsTaken k (kind.Pointer own space readonly to) = k ≡ kind.Pointer own space readonly to
IsTaken k _ = ⊥

abbrev pub AreTaken : List Kind → List Kind → Type 0
AreTaken [] [] = Unit {0}
AreTaken (k ∷ ks) (p ∷ ps) = IsTaken k p × AreTaken ks ps
AreTaken [] (p ∷ ps) = ⊥
AreTaken (k ∷ ks) [] = ⊥

own_converts : (t : Gentype) → converts t (kind.Integers t) ≡ true
own_converts t = true_or (nat_eq t.count 1) (is_same t t) (same_itself t)

scalar_converts : (t : Gentype) (k : Kind) → is_scalar k ≡ true → converts t k ≡ true
scalar_converts t k h = ap (λ z. z || is_type t k) h

operand_converts : (t : Gentype) (k : Kind) → is_operand t k ≡ true → converts t k ≡ true
operand_converts t kind.Void h = absurd (true≢false (sym h))
operand_converts t kind.Bool h = refl
operand_converts t (kind.Integers x) h = true_or (nat_eq x.count 1) (is_same t x) h
operand_converts t (kind.Pointer own space readonly to) h = absurd (true≢false (sym h))
operand_converts t (kind.Other own) h = absurd (true≢false (sym h))

operand_taken : (k : Kind) (t : Gentype) → operand k ≡ Some t → converts t k ≡ true
operand_taken kind.Void t e = absurd (none_some e)
operand_taken kind.Bool t e = refl
operand_taken (kind.Integers x) t e = subst (λ z. converts z (kind.Integers x) ≡ true) (some_same x t e) (own_converts x)
operand_taken (kind.Pointer own space readonly to) t e = absurd (none_some e)
operand_taken (kind.Other own) t e = absurd (none_some e)

component_taken : (t : Gentype) (k : Kind) → is_type t k ≡ true → IsTaken k k
component_taken t kind.Void h = absurd (true≢false (sym h))
component_taken t kind.Bool h = absurd (true≢false (sym h))
component_taken t (kind.Integers x) h = own_converts x
component_taken t (kind.Pointer own space readonly to) h = absurd (true≢false (sym h))
component_taken t (kind.Other own) h = absurd (true≢false (sym h))

components_taken : (t : Gentype) (ks : List Kind) → list_all (is_type t) ks ≡ true → AreTaken ks ks
components_taken t [] h = tt
components_taken t (k ∷ ks) h = (component_taken t k (first_so (is_type t k) (list_all (is_type t) ks) h), components_taken t ks (second_so (is_type t k) (list_all (is_type t) ks) h))

all_weaker : (p q : Kind → Bool) → ((k : Kind) → p k ≡ true → q k ≡ true) → (ks : List Kind) → list_all p ks ≡ true → list_all q ks ≡ true
all_weaker p q f [] h = refl
all_weaker p q f (k ∷ ks) h = and_from (q k) (list_all q ks) (f k (first_so (p k) (list_all p ks) h)) (all_weaker p q f ks (second_so (p k) (list_all p ks) h))

-- ---- arguments of one type

at_converts : (o : Option Gentype) (ks : List Kind) (t : Gentype) → common_at o ks ≡ Some t → list_all (converts t) ks ≡ true
at_converts None ks t e = absurd (none_some e)
at_converts (Some x) ks t e = by (list_all (is_operand x) ks) refl (list_all is_scalar ks) refl e
  where
    by : (a : Bool) → list_all (is_operand x) ks ≡ a → (c : Bool) → list_all is_scalar ks ≡ c → cond a (Some x) (cond c (Some (usual_of ks)) None) ≡ Some t → list_all (converts t) ks ≡ true
    by true h c g e = subst (λ z. list_all (converts z) ks ≡ true) (some_same x t e) (all_weaker (is_operand x) (converts x) (operand_converts x) ks h)
    by false h true g e = all_weaker is_scalar (converts t) (scalar_converts t) ks g
    by false h false g e = absurd (none_some e)

common_converts : (ks : List Kind) (t : Gentype) → common ks ≡ Some t → list_all (converts t) ks ≡ true
common_converts [] t e = absurd (none_some e)
common_converts (k ∷ ks) t e = at_converts (operand k) (k ∷ ks) t e

record IsOfType (n : ℕ) (ks : List Kind) (t : Gentype) : Type 0 where
  counted : length ks ≡ n
  common_type : common ks ≡ Some t

of_one_type : (n : ℕ) (ks : List Kind) (t : Gentype) → type_of n ks ≡ Some t → IsOfType n ks t
of_one_type n ks t e = by (nat_eq (length ks) n) refl e
  where
    by : (a : Bool) → nat_eq (length ks) n ≡ a → cond a (common ks) None ≡ Some t → IsOfType n ks t
    by true h e = record { counted = eqb-true (length ks) n h; common_type = e }
    by false h e = absurd (none_some e)

some_kinds : (ks : List Kind) (t : Gentype) → common ks ≡ Some t → 0 < length ks
some_kinds [] t e = absurd (none_some e)
some_kinds (k ∷ ks) t e = omega arith

copies_length : (n : ℕ) (k : Kind) → length (replicate n k) ≡ n
copies_length zero k = refl
copies_length (suc n) k = ap suc (copies_length n k)

all_copies : (p : Kind → Bool) (k : Kind) (n : ℕ) → p k ≡ true → list_all p (replicate n k) ≡ true
all_copies p k zero h = refl
all_copies p k (suc n) h = and_from (p k) (list_all p (replicate n k)) h (all_copies p k n h)

common_copies : (m : ℕ) (t : Gentype) → common (replicate (suc m) (kind.Integers t)) ≡ Some t
common_copies m t =
    let ks = kind.Integers t ∷ replicate m (kind.Integers t) in
    ap (λ z. cond z (Some t) (cond (list_all is_scalar ks) (Some (usual_of ks)) None)) (all_copies (is_operand t) (kind.Integers t) (suc m) (same_itself t))

type_copies : (n : ℕ) (t : Gentype) → 0 < n → type_of n (replicate n (kind.Integers t)) ≡ Some t
type_copies zero t h = absurd (omega arith)
type_copies (suc m) t h =
    let ks = replicate (suc m) (kind.Integers t) in
    ap (λ z. cond z (common ks) None) (eq-eqb (length ks) (suc m) (copies_length (suc m) (kind.Integers t))) ∙ common_copies m t

copies_taken : (n : ℕ) (ks : List Kind) (t : Gentype) → length ks ≡ n → list_all (converts t) ks ≡ true → AreTaken ks (replicate n (kind.Integers t))
copies_taken zero [] t l h = tt
copies_taken zero (k ∷ ks) t l h = absurd (omega arith)
copies_taken (suc n) [] t l h = absurd (omega arith)
copies_taken (suc n) (k ∷ ks) t l h = (first_so (converts t k) (list_all (converts t) ks) h, copies_taken n ks t (omega arith) (second_so (converts t k) (list_all (converts t) ks) h))

-- so many copies of a type stand for arguments that have it together
module _ (n : ℕ) (ks : List Kind) (t : Gentype) (e : type_of n ks ≡ Some t) where
  type_again : type_of n (replicate n (kind.Integers t)) ≡ Some t
  type_again = let h = of_one_type n ks t e in let l = some_kinds ks t h.common_type in let c = h.counted in type_copies n t (omega arith)

  type_taken : AreTaken ks (replicate n (kind.Integers t))
  type_taken = let h = of_one_type n ks t e in copies_taken n ks t h.counted (common_converts ks t h.common_type)

  some_copies : 0 < n
  some_copies = let h = of_one_type n ks t e in let l = some_kinds ks t h.common_type in let c = h.counted in omega arith

-- ---- forms

-- a form is that of its own parameters, which the arguments convert to
abbrev Suits : (List Kind → Option Form) → List Kind → Option Form → Type 0
Suits form ks None = Unit {0}
Suits form ks (Some f) = (form f.params ≡ Some f) × AreTaken ks f.params

only_suits : (form : List Kind → Option Form) (ks : List Kind) (a : Bool) (f : Form) → (a ≡ true → (form f.params ≡ Some f) × AreTaken ks f.params) → Suits form ks (only a f)
only_suits form ks true f h = h refl
only_suits form ks false f h = tt

alike_suits : (n : ℕ) (ks : List Kind) (o : Option Gentype) → type_of n ks ≡ o → Suits (λ xs. alike_form n (type_of n xs)) ks (alike_form n o)
alike_suits n ks None e = tt
alike_suits n ks (Some t) e = (ap (alike_form n) (type_again n ks t e), type_taken n ks t e)

unsigned_suits : (n : ℕ) (ks : List Kind) (o : Option Gentype) → type_of n ks ≡ o → Suits (λ xs. unsigned_form n (type_of n xs)) ks (unsigned_form n o)
unsigned_suits n ks None e = tt
unsigned_suits n ks (Some t) e = (ap (unsigned_form n) (type_again n ks t e), type_taken n ks t e)

narrow_suits : (n : ℕ) (ks : List Kind) (o : Option Gentype) → type_of n ks ≡ o → Suits (λ xs. narrow_form n (type_of n xs)) ks (narrow_form n o)
narrow_suits n ks None e = tt
narrow_suits n ks (Some t) e =
    only_suits (λ xs. narrow_form n (type_of n xs)) ks (nat_eq t.bits 32) (of_type n t t)
    (λ h. (ap (narrow_form n) (type_again n ks t e) ∙ ap (λ z. only z (of_type n t t)) h, type_taken n ks t e))

-- where all have one type, it is no matter that some could be limits
limited_copies : (n : ℕ) (t : Gentype) → 0 < n → limited n (replicate n (kind.Integers t)) ≡ Some (of_type n t t)
limited_copies zero t h = absurd (omega arith)
limited_copies (suc m) t h = by (has_limits (suc m) t (replicate m (kind.Integers t)))
  where
    by : (a : Bool) → cond a (Some (these (kind.Integers t ∷ replicate m (kind.Integers t)) (kind.Integers t))) (alike_form (suc m) (type_of (suc m) (kind.Integers t ∷ replicate m (kind.Integers t)))) ≡ Some (of_type (suc m) t t)
    by true = refl
    by false = ap (alike_form (suc m)) (type_copies (suc m) t h)

limited_alike : (n : ℕ) (ks : List Kind) (o : Option Gentype) → type_of n ks ≡ o → Suits (limited n) ks (alike_form n o)
limited_alike n ks None e = tt
limited_alike n ks (Some t) e = (limited_copies n t (some_copies n ks t e), type_taken n ks t e)

limits_taken : (n : ℕ) (t : Gentype) (ks : List Kind) → has_limits n t ks ≡ true → AreTaken ks ks
limits_taken n t ks h =
    components_taken (element_of t) ks
    (second_so (not (nat_eq t.count 1) && nat_eq (suc (length ks)) n) (list_all (is_type (element_of t)) ks) h)

limited_suits : (n : ℕ) (ks : List Kind) → Suits (limited n) ks (limited n ks)
limited_suits n (kind.Integers t ∷ ks) = by (has_limits n t ks) refl
  where
    by : (a : Bool) → has_limits n t ks ≡ a → Suits (limited n) (kind.Integers t ∷ ks) (cond a (Some (these (kind.Integers t ∷ ks) (kind.Integers t))) (alike_form n (type_of n (kind.Integers t ∷ ks))))
    by true h = (ap (λ z. cond z (Some (these (kind.Integers t ∷ ks) (kind.Integers t))) (alike_form n (type_of n (kind.Integers t ∷ ks)))) h, (own_converts t, limits_taken n t ks h))
    by false h = limited_alike n (kind.Integers t ∷ ks) (type_of n (kind.Integers t ∷ ks)) refl
limited_suits n [] = limited_alike n [] (type_of n []) refl
limited_suits n (kind.Void ∷ ks) = limited_alike n (kind.Void ∷ ks) (type_of n (kind.Void ∷ ks)) refl
limited_suits n (kind.Bool ∷ ks) = limited_alike n (kind.Bool ∷ ks) (type_of n (kind.Bool ∷ ks)) refl
limited_suits n (kind.Pointer own space readonly to ∷ ks) = limited_alike n (kind.Pointer own space readonly to ∷ ks) (type_of n (kind.Pointer own space readonly to ∷ ks)) refl
limited_suits n (kind.Other own ∷ ks) = limited_alike n (kind.Other own ∷ ks) (type_of n (kind.Other own ∷ ks)) refl

number_suits : (ks : List Kind) (gives : Kind) → Suits (λ xs. one_number xs gives) ks (one_number ks gives)
number_suits (d ∷ []) gives = only_suits (λ xs. one_number xs gives) (d ∷ []) (converts uint d) (these (kind.Integers uint ∷ []) gives) (λ h. (refl, (h, tt)))
number_suits _ gives = tt

upsampled_suits : (high low : Kind) (o : Option Gentype) → operand high ≡ o → Suits upsample (high ∷ low ∷ []) (upsampled o low)
upsampled_suits high low None e = tt
upsampled_suits high low (Some t) e =
    let form = these (kind.Integers t ∷ kind.Integers (unsigned_of t) ∷ []) (kind.Integers (doubled t)) in
    only_suits upsample (high ∷ low ∷ []) (nat_lt t.bits 64 && converts (unsigned_of t) low) form
    (λ h. (
      ap (λ z. only z form) (and_from (nat_lt t.bits 64) (converts (unsigned_of t) (kind.Integers (unsigned_of t))) (first_so (nat_lt t.bits 64) (converts (unsigned_of t) low) h) (own_converts (unsigned_of t))),
      (operand_taken high t e, (second_so (nat_lt t.bits 64) (converts (unsigned_of t) low) h, tt)),
    ))

upsample_suits : (ks : List Kind) → Suits upsample ks (upsample ks)
upsample_suits (high ∷ low ∷ []) = upsampled_suits high low (operand high) refl
upsample_suits _ = tt

selected_suits : (x y : Kind) (by : Gentype) (o : Option Gentype) → common (x ∷ y ∷ []) ≡ o → Suits selection (x ∷ y ∷ kind.Integers by ∷ []) (selected o by)
selected_suits x y by None e = tt
selected_suits x y by (Some t) e =
    let form = these (kind.Integers t ∷ kind.Integers t ∷ kind.Integers by ∷ []) (kind.Integers t) in
    let both = common_converts (x ∷ y ∷ []) t e in
    only_suits selection (x ∷ y ∷ kind.Integers by ∷ []) (nat_eq by.bits t.bits && nat_eq by.count t.count) form
    (λ h. (
      ap (λ z. selected z by) (common_copies 1 t) ∙ ap (λ z. only z form) h,
      (first_so (converts t x) (converts t y && true) both, (first_so (converts t y) true (second_so (converts t x) (converts t y && true) both), (own_converts by, tt))),
    ))

selection_suits : (ks : List Kind) → Suits selection ks (selection ks)
selection_suits (x ∷ y ∷ kind.Integers by ∷ []) = selected_suits x y by (common (x ∷ y ∷ [])) refl
selection_suits _ = tt

converted_suits : (to : Gentype) (ks : List Kind) → Suits (converted to) ks (converted to ks)
converted_suits to (kind.Integers t ∷ []) =
    let form = these (kind.Integers t ∷ []) (kind.Integers to) in
    only_suits (converted to) (kind.Integers t ∷ []) (nat_eq t.count to.count) form (λ h. (ap (λ z. only z form) h, (own_converts t, tt)))
converted_suits to _ = tt

reread_suits : (to : Gentype) (ks : List Kind) → Suits (reread to) ks (reread to ks)
reread_suits to (kind.Integers t ∷ []) =
    let form = these (kind.Integers t ∷ []) (kind.Integers to) in
    only_suits (reread to) (kind.Integers t ∷ []) (reads_as t to) form (λ h. (ap (λ z. only z form) h, (own_converts t, tt)))
reread_suits to _ = tt

tested_suits : (ks : List Kind) → Suits tested ks (tested ks)
tested_suits (kind.Integers t ∷ []) =
    let form = these (kind.Integers t ∷ []) (kind.Integers int) in
    only_suits tested (kind.Integers t ∷ []) t.signed form (λ h. (ap (λ z. only z form) h, (own_converts t, tt)))
tested_suits _ = tt

loaded_suits : (n : ℕ) (ks : List Kind) → Suits (loaded n) ks (loaded n ks)
loaded_suits n (at ∷ kind.Pointer own space readonly to ∷ []) =
    only_suits (loaded n) (at ∷ kind.Pointer own space readonly to ∷ []) (converts uint at) (these (kind.Integers uint ∷ kind.Pointer own space readonly to ∷ []) (vector_of to n)) (λ h. (refl, (h, (refl, tt))))
loaded_suits n _ = tt

stored_suits : (n : ℕ) (ks : List Kind) → Suits (stored n) ks (stored n ks)
stored_suits n (v ∷ at ∷ kind.Pointer own space readonly to ∷ []) =
    let form = these (vector_of to n ∷ kind.Integers uint ∷ kind.Pointer own space readonly to ∷ []) kind.Void in
    let all : Gentype = record to { count = n } in
    let writable = not readonly && not (is_constant space) in
    only_suits (stored n) (v ∷ at ∷ kind.Pointer own space readonly to ∷ []) (writable && converts all v && converts uint at) form
    (λ h.
    let value = first_so (writable && converts all v) (converts uint at) h in (
      ap (λ z. only z form)
          (and_from (writable && converts all (vector_of to n)) (converts uint (kind.Integers uint)) (and_from writable (converts all (vector_of to n)) (first_so writable (converts all v) value) (own_converts all)) refl),
      (second_so writable (converts all v) value, (second_so (writable && converts all v) (converts uint at) h, (refl, tt))),
    ))
stored_suits n _ = tt

atomic_suits : (n : ℕ) (ks : List Kind) → Suits (atomic n) ks (atomic n ks)
atomic_suits n (kind.Pointer own space readonly to ∷ ks) =
    let form = these (kind.Pointer own space readonly to ∷ replicate n (kind.Integers to)) (kind.Integers to) in
    let copies = replicate n (kind.Integers to) in
    let place = is_shared space && not readonly && nat_eq to.bits 32 in
    only_suits (atomic n) (kind.Pointer own space readonly to ∷ ks) (place && nat_eq (length ks) n && list_all (converts to) ks) form
    (λ h.
    let counted = first_so (place && nat_eq (length ks) n) (list_all (converts to) ks) h in (
      ap (λ z. only z form)
          (and_from (place && nat_eq (length copies) n) (list_all (converts to) copies)
          (and_from place (nat_eq (length copies) n) (first_so place (nat_eq (length ks) n) counted) (eq-eqb (length copies) n (copies_length n (kind.Integers to))))
          (all_copies (converts to) (kind.Integers to) n (own_converts to))),
      (refl, copies_taken n ks to (eqb-true (length ks) n (second_so place (nat_eq (length ks) n) counted)) (second_so (place && nat_eq (length ks) n) (list_all (converts to) ks) h)),
    ))
atomic_suits n _ = tt

suits : (r : Rule) (ks : List Kind) → Suits (form_of r) ks (form_of r ks)
suits rule.Nothing [] = (refl, tt)
suits rule.Nothing (k ∷ ks) = tt
suits rule.Dimension ks = number_suits ks (kind.Integers uint)
suits rule.Fence ks = number_suits ks kind.Void
suits (rule.Alike n) ks = alike_suits n ks (type_of n ks) refl
suits (rule.Unsigned n) ks = unsigned_suits n ks (type_of n ks) refl
suits (rule.Narrow n) ks = narrow_suits n ks (type_of n ks) refl
suits (rule.Limited n) ks = limited_suits n ks
suits rule.Upsample ks = upsample_suits ks
suits (rule.Convert to) ks = converted_suits to ks
suits (rule.Reread to) ks = reread_suits to ks
suits rule.Select ks = selection_suits ks
suits rule.Test ks = tested_suits ks
suits (rule.Load n) ks = loaded_suits n ks
suits (rule.Store n) ks = stored_suits n ks
suits (rule.Atomic n) ks = atomic_suits n ks

form_again : (r : Rule) (ks : List Kind) (f : Form) → form_of r ks ≡ Some f → form_of r f.params ≡ Some f
form_again r ks f e = (subst (Suits (form_of r) ks) e (suits r ks)).0

pub form_takes : (r : Rule) (ks : List Kind) (f : Form) → form_of r ks ≡ Some f → AreTaken ks f.params
form_takes r ks f e = (subst (Suits (form_of r) ks) e (suits r ks)).1

-- ---- calls by name

-- a call that is found by an entry fits the form that is found
abbrev IsFitting : Entry → Type 0
IsFitting e = (ks : List Kind) (f : Form) → form_of e.1 ks ≡ Some f → fits_call (named_by e.0 f.result) f.params f.result ≡ true

by_rule : (r : Rule) (ks : List Kind) (f : Form) → form_of r ks ≡ Some f → fits_form f.params f.result (form_of r f.params) ≡ true
by_rule r ks f e = own_form f (form_of r f.params) (form_again r ks f e)

select_named : (k : Kind) (ps : List Kind) → fits_form ps k (form_of rule.Select ps) ≡ true → fits_call (named_by (b.Select false) k) ps k ≡ true
select_named kind.Void ps h = h
select_named kind.Bool ps h = h
select_named (kind.Integers t) ps h = and_from (alike (not (nat_eq t.count 1)) (not (nat_eq t.count 1))) (fits_form ps (kind.Integers t) (form_of rule.Select ps)) (alike_itself (not (nat_eq t.count 1))) h
select_named (kind.Pointer own space readonly to) ps h = h
select_named (kind.Other own) ps h = h

select_fits : IsFitting (b.Select false, rule.Select)
select_fits = λ ks f e. select_named f.result f.params (by_rule rule.Select ks f e)

abbrev Gives : Kind → Option Form → Type 0
Gives k None = Unit {0}
Gives k (Some f) = f.result ≡ k

only_gives : (a : Bool) (f : Form) → Gives f.result (only a f)
only_gives true f = refl
only_gives false f = tt

converted_gives : (to : Gentype) (ks : List Kind) → Gives (kind.Integers to) (converted to ks)
converted_gives to (kind.Integers t ∷ []) = only_gives (nat_eq t.count to.count) (these (kind.Integers t ∷ []) (kind.Integers to))
converted_gives to _ = tt

reread_gives : (to : Gentype) (ks : List Kind) → Gives (kind.Integers to) (reread to ks)
reread_gives to (kind.Integers t ∷ []) = only_gives (reads_as t to) (these (kind.Integers t ∷ []) (kind.Integers to))
reread_gives to _ = tt

convert_fits : (sat : Bool) (to : Gentype) → IsFitting (convert_to sat to)
convert_fits sat to = λ ks f e.
    let r : f.result ≡ kind.Integers to = subst (Gives (kind.Integers to)) e (converted_gives to ks) in
    subst (λ k. fits_call (b.Convert to.bits to.signed sat) f.params k ≡ true) (sym r)
    (and_from (nat_eq to.bits to.bits && alike to.signed to.signed) (fits_form f.params (kind.Integers to) (form_of (rule.Convert to) f.params))
    (and_from (nat_eq to.bits to.bits) (alike to.signed to.signed) (same_number to.bits) (alike_itself to.signed))
    (subst (λ k. fits_form f.params k (form_of (rule.Convert to) f.params) ≡ true) r (by_rule (rule.Convert to) ks f e)))

read_fits : (to : Gentype) → IsFitting (read_as to)
read_fits to = λ ks f e.
    let r : f.result ≡ kind.Integers to = subst (Gives (kind.Integers to)) e (reread_gives to ks) in
    subst (λ k. fits_call b.As f.params k ≡ true) (sym r) (subst (λ k. fits_form f.params k (form_of (rule.Reread to) f.params) ≡ true) r (by_rule (rule.Reread to) ks f e))

-- ---- what holds beside each name of a table

abbrev EachBeside : {A : Type 0} → (A → Type 0) → List (List ℕ × A) → Type 0
EachBeside P [] = Unit {0}
EachBeside P (e ∷ es) = P e.1 × EachBeside P es

each_append : {A : Type 0} (P : A → Type 0) (es fs : List (List ℕ × A)) → EachBeside P es → EachBeside P fs → EachBeside P (es ++ fs)
each_append P [] fs h g = g
each_append P (e ∷ es) fs h g = (h.0, each_append P es fs h.1 g)

each_before : {A : Type 0} (P : A → Type 0) (word : List ℕ) (es : List (List ℕ × A)) → EachBeside P es → EachBeside P (before word es)
each_before P word [] h = tt
each_before P word (e ∷ es) h = (h.0, each_before P word es h.1)

each_behind : {A B : Type 0} (P : B → Type 0) (word : List ℕ) (f : A → B) (es : List (List ℕ × A)) → ((x : A) → P (f x)) → EachBeside P (behind word f es)
each_behind P word f [] h = tt
each_behind P word f (e ∷ es) h = (h e.1, each_behind P word f es h)

each_beside : {A B : Type 0} (P : B → Type 0) (f : A → B) (es : List (List ℕ × A)) → ((x : A) → P (f x)) → EachBeside P (beside f es)
each_beside P f [] h = tt
each_beside P f (e ∷ es) h = (h e.1, each_beside P f es h)

each_found : {A : Type 0} (P : A → Type 0) (es : List (List ℕ × A)) (name : List ℕ) (x : A) → EachBeside P es → lookup es name ≡ Some x → P x
each_found P [] name x h e = absurd (none_some e)
each_found P (f ∷ es) name x h e = by (bytes_eq name f.0) e (each_found P es name x h.1)
  where
    by : (a : Bool) → cond a (Some f.1) (lookup es name) ≡ Some x → (lookup es name ≡ Some x → P x) → P x
    by true e later = subst P (some_same f.1 x e) h.0
    by false e later = later e

work_items_fit : EachBeside IsFitting work_items
unfolding work_items
work_items_fit = (by_rule rule.Nothing, (by_rule rule.Dimension, (by_rule rule.Dimension, (by_rule rule.Dimension, (by_rule rule.Dimension, (by_rule rule.Dimension, (by_rule rule.Dimension, (by_rule rule.Dimension, tt))))))))

arithmetic_fits : EachBeside IsFitting arithmetic
unfolding arithmetic
arithmetic_fits = (by_rule (rule.Unsigned 1), (by_rule (rule.Unsigned 2), (by_rule (rule.Alike 2), (by_rule (rule.Alike 2), (by_rule (rule.Alike 3), (by_rule (rule.Alike 2), (by_rule (rule.Alike 2), (by_rule (rule.Limited 2), (by_rule (rule.Limited 2), (by_rule (rule.Limited 3), tt))))))))))

bitwise_fits : EachBeside IsFitting bitwise
unfolding bitwise
bitwise_fits = (by_rule (rule.Alike 1), (by_rule (rule.Alike 1), (by_rule (rule.Alike 2), (by_rule (rule.Alike 3), (by_rule (rule.Narrow 2), (by_rule (rule.Narrow 3), (by_rule (rule.Alike 2), (by_rule rule.Upsample, tt))))))))

relations_fit : EachBeside IsFitting relations
unfolding relations
relations_fit = (by_rule rule.Test, (by_rule rule.Test, (select_fits, tt)))

vectors_fit : EachBeside IsFitting vectors
unfolding vectors
vectors_fit = (by_rule (rule.Load 2), (by_rule (rule.Load 3), (by_rule (rule.Load 4), (by_rule (rule.Store 2), (by_rule (rule.Store 3), (by_rule (rule.Store 4), tt))))))

fences_fit : EachBeside IsFitting fences
unfolding fences
fences_fit = (by_rule rule.Fence, (by_rule rule.Fence, (by_rule rule.Fence, (by_rule rule.Fence, tt))))

atomics_fit : EachBeside IsFitting atomics
unfolding atomics
atomics_fit = (by_rule (rule.Atomic 1), (by_rule (rule.Atomic 1), (by_rule (rule.Atomic 1), (by_rule (rule.Atomic 1), (by_rule (rule.Atomic 1), (by_rule (rule.Atomic 1), (by_rule (rule.Atomic 1), (by_rule (rule.Atomic 1), (by_rule (rule.Atomic 0), (by_rule (rule.Atomic 0), (by_rule (rule.Atomic 2), tt)))))))))))

plain_fits : EachBeside IsFitting plain
unfolding plain
plain_fits =
    each_append IsFitting work_items _ work_items_fit (each_append IsFitting arithmetic _ arithmetic_fits (each_append IsFitting bitwise _ bitwise_fits
    (each_append IsFitting relations _ relations_fit (each_append IsFitting vectors _ vectors_fit (each_append IsFitting fences atomics fences_fit atomics_fit)))))

conversions_fit : EachBeside IsFitting conversions
unfolding conversions
conversions_fit = each_append IsFitting (beside (convert_to false) types) _ (each_beside IsFitting (convert_to false) types (convert_fits false)) (each_behind IsFitting _ (convert_to true) types (convert_fits true))

rereadings_fit : EachBeside IsFitting rereadings
unfolding rereadings
rereadings_fit = each_beside IsFitting read_as types read_fits

entries_fit : EachBeside IsFitting entries
unfolding entries
entries_fit =
    each_append IsFitting plain _ plain_fits
    (each_append IsFitting (before (codes "convert_") conversions) _ (each_before IsFitting (codes "convert_") conversions conversions_fit) (each_before IsFitting (codes "as_") rereadings rereadings_fit))

pub named_call_fits : (name : List ℕ) (e : Entry) (ks : List Kind) (f : Form) → lookup entries name ≡ Some e → form_of e.1 ks ≡ Some f → fits_call (named_by e.0 f.result) f.params f.result ≡ true
named_call_fits name e ks f h = each_found IsFitting entries name e entries_fit h ks f
