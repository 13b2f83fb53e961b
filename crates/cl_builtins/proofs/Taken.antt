-- A built-in function that has a value of one component takes numbers of the widths of the parameters with which the table has it.
use Rattle.std.proofs.Common.{◌≡◌, ℕ, zero, suc, ◌<◌, List, [], ◌∷◌, map, length, replicate, refl, sym, ap, ◌∙◌, subst, arith, Bool, true, false, ◌&&◌, cond, Option, Some, None, true≢false, nat_eq, eq-eqb}
use Rattle.std.specs.Prelude.{nat_lt, not, is_some}
use Rattle.std.specs.Cmp.{first_so, second_so}
use Rattle.std.specs.List.{list_all}
use Rattle.std.proofs.lemmas.Bool.{eqb-true}
use Rattle.std.proofs.lemmas.List.{length-map, length-replicate}
use Rattle.clv_num.specs.Numbers.{is_width}
use Rattle.cl_types.specs.declared.builtin.Builtin.{Builtin}
use Rattle.cl_types.specs.declared.builtin.Builtin.TheVariants as builtin
use Rattle.cl_builtins.specs.declared.kind.Gentype.{Gentype}
use Rattle.cl_builtins.specs.declared.kind.Kind.{Kind}
use Rattle.cl_builtins.specs.declared.kind.Kind.TheVariants as kind
use Rattle.cl_builtins.specs.declared.form.Form.{Form}
use Rattle.cl_builtins.specs.declared.name.Rule.{Rule}
use Rattle.cl_builtins.specs.declared.name.Rule.TheVariants as rule
use Rattle.cl_builtins.specs.Kinds.{alike, is_type, element_of, unsigned_of, converts}
use Rattle.cl_builtins.specs.Forms.{these, only, operand, common, type_of, of_type, alike_form, unsigned_form, narrow_form, has_limits, limited, upsampled, upsample, selected, selection, converted, form_of}
use Rattle.cl_builtins.specs.Names.{Entry, lookup, scalars, with_count, types, work_items, arithmetic, bitwise, relations, vectors, fences, atomics, plain, conversions, rereadings, entries}
use Rattle.cl_builtins.specs.Found.{named_by}
use Rattle.cl_builtins.specs.Values.{count_of, takes_width, takes_widths}
use Rattle.cl_builtins.proofs.Lookups.{all_beside, lookup_all}

-- how many bits the components of a type have
abbrev pub bits_in : Kind → ℕ
bits_in (kind.Integers t) = t.bits
bits_in _ = 0

abbrev pub Takes : Builtin → Form → Type 0
Takes b f = takes_widths b (map bits_in f.params) ≡ true

none_some : {A : Type 0} {x : A} → None ≡ Some x → ⊥
none_some e = true≢false (sym (ap is_some e))

some_same : {A : Type 0} (x y : A) → Some x ≡ Some y → x ≡ y
some_same x y e = cc

both : (a b : Bool) → a ≡ true → b ≡ true → (a && b) ≡ true
both a b h g = (λ i. h i && g i)

-- ---- arguments of one width

taken : (b : Builtin) (w : ℕ) (ws : List ℕ) → suc (length ws) ≡ count_of b → list_all (nat_eq w) ws ≡ true → takes_width b w ≡ true → takes_widths b (w ∷ ws) ≡ true
taken b w ws n same fits =
    both (nat_eq (suc (length ws)) (count_of b) && list_all (nat_eq w) ws) (takes_width b w) (both (nat_eq (suc (length ws)) (count_of b)) (list_all (nat_eq w) ws) (eq-eqb _ _ n) same) fits

all_same : (m : ℕ) (t : Gentype) → list_all (nat_eq t.bits) (map bits_in (replicate m (kind.Integers t))) ≡ true
all_same zero t = refl
all_same (suc m) t = both (nat_eq t.bits t.bits) (list_all (nat_eq t.bits) (map bits_in (replicate m (kind.Integers t)))) (eq-eqb _ _ refl) (all_same m t)

so_many : (m : ℕ) (t : Gentype) → length (map bits_in (replicate m (kind.Integers t))) ≡ m
so_many m t = length-map (replicate m (kind.Integers t)) bits_in ∙ length-replicate m (kind.Integers t)

replicated : (b : Builtin) (n : ℕ) (t : Gentype) → 0 < count_of b → n ≡ count_of b → takes_width b t.bits ≡ true → takes_widths b (map bits_in (replicate n (kind.Integers t))) ≡ true
replicated b zero t some e fits = absurd (omega (arith, e, some))
replicated b (suc m) t some e fits = taken b t.bits (map bits_in (replicate m (kind.Integers t))) (ap suc (so_many m t) ∙ e) (all_same m t) fits

limits_same : (t : Gentype) (ks : List Kind) → list_all (is_type (element_of t)) ks ≡ true → list_all (nat_eq t.bits) (map bits_in ks) ≡ true
limits_same t [] h = refl
limits_same t (k ∷ ks) h =
    both (nat_eq t.bits (bits_in k)) (list_all (nat_eq t.bits) (map bits_in ks)) (one k (first_so (is_type (element_of t) k) (list_all (is_type (element_of t)) ks) h))
    (limits_same t ks (second_so (is_type (element_of t) k) (list_all (is_type (element_of t)) ks) h))
  where
    one : (k : Kind) → is_type (element_of t) k ≡ true → nat_eq t.bits (bits_in k) ≡ true
    one kind.Void h = absurd (true≢false (sym h))
    one kind.Bool h = absurd (true≢false (sym h))
    one (kind.Integers x) h = first_so (nat_eq t.bits x.bits) (alike t.signed x.signed) (first_so (nat_eq t.bits x.bits && alike t.signed x.signed) (nat_eq 1 x.count) h)
    one (kind.Pointer own space readonly to) h = absurd (true≢false (sym h))
    one (kind.Other own) h = absurd (true≢false (sym h))

-- ---- functions and their rules

-- it takes each width
abbrev takes_each : Builtin → Bool
takes_each builtin.Mul24 = false
takes_each builtin.Mad24 = false
takes_each builtin.Upsample = false
takes_each (builtin.Convert bits signed sat) = is_width bits
takes_each _ = true

abbrev is_upsample : Builtin → Bool
is_upsample builtin.Upsample = true
is_upsample _ = false

-- a rule gives a function as many arguments as it takes, and of widths that it takes
abbrev suits : Builtin → Rule → Bool
suits b (rule.Alike n) = nat_eq n (count_of b) && takes_each b
suits b (rule.Unsigned n) = nat_eq n (count_of b) && takes_each b
suits b (rule.Limited n) = nat_eq n (count_of b) && takes_each b
suits b (rule.Narrow n) = nat_eq n (count_of b) && takes_width b 32
suits b rule.Upsample = is_upsample b
suits b (rule.Convert to) = nat_eq 1 (count_of b) && takes_each b
suits b rule.Select = nat_eq 3 (count_of b) && takes_each b
suits b _ = nat_eq (count_of b) 0

abbrev suits_entry : Entry → Bool
suits_entry e = suits e.0 e.1

entries_suit : all_beside suits_entry entries ≡ true
unfolding entries plain work_items arithmetic bitwise relations vectors fences atomics conversions rereadings types with_count scalars
entries_suit = refl

each : (b : Builtin) (w : ℕ) → takes_each b ≡ true → takes_width b w ≡ true
each builtin.Mul24 w h = absurd (true≢false (sym h))
each builtin.Mad24 w h = absurd (true≢false (sym h))
each builtin.Upsample w h = absurd (true≢false (sym h))
each (builtin.Convert bits signed sat) w h = h
each _ w h = refl

upsample_taken : (b : Builtin) (w : ℕ) → is_upsample b ≡ true → nat_lt w 64 ≡ true → takes_widths b (w ∷ w ∷ []) ≡ true
upsample_taken builtin.Upsample w h l = taken builtin.Upsample w (w ∷ []) refl (both (nat_eq w w) true (eq-eqb _ _ refl) refl) l
upsample_taken _ w h l = absurd (true≢false (sym h))

-- `select` takes the same on scalars and on vectors
named_takes : (b : Builtin) (k : Kind) (ws : List ℕ) → takes_widths (named_by b k) ws ≡ takes_widths b ws
named_takes (builtin.Select vector) (kind.Integers t) [] = refl
named_takes (builtin.Select vector) (kind.Integers t) (w ∷ ws) = refl
named_takes _ k ws = refl

-- ---- forms

some_is : (g f : Form) (b : Builtin) → Some g ≡ Some f → Takes b g → Takes b f
some_is g f b e h = subst (Takes b) (some_same g f e) h

only_is : (x : Bool) (g f : Form) (b : Builtin) → only x g ≡ Some f → (x ≡ true → Takes b g) → Takes b f
only_is true g f b e h = some_is g f b e (h refl)
only_is false g f b e h = absurd (none_some e)

module _ (b : Builtin) (some : 0 < count_of b) (f : Form) where
  count_is : (n : ℕ) (x : Bool) → (nat_eq n (count_of b) && x) ≡ true → n ≡ count_of b
  count_is n x h = eqb-true n (count_of b) (first_so (nat_eq n (count_of b)) x h)

  of_same : (n : ℕ) (t gives : Gentype) → (nat_eq n (count_of b) && takes_each b) ≡ true → Some (of_type n t gives) ≡ Some f → Takes b f
  of_same n t gives h e = some_is (of_type n t gives) f b e (replicated b n t some (count_is n (takes_each b) h) (each b t.bits (second_so (nat_eq n (count_of b)) (takes_each b) h)))

  alike_takes : (n : ℕ) (o : Option Gentype) → (nat_eq n (count_of b) && takes_each b) ≡ true → alike_form n o ≡ Some f → Takes b f
  alike_takes n None h e = absurd (none_some e)
  alike_takes n (Some t) h e = of_same n t t h e

  unsigned_takes : (n : ℕ) (o : Option Gentype) → (nat_eq n (count_of b) && takes_each b) ≡ true → unsigned_form n o ≡ Some f → Takes b f
  unsigned_takes n None h e = absurd (none_some e)
  unsigned_takes n (Some t) h e = of_same n t (unsigned_of t) h e

  narrow_takes : (n : ℕ) (o : Option Gentype) → (nat_eq n (count_of b) && takes_width b 32) ≡ true → narrow_form n o ≡ Some f → Takes b f
  narrow_takes n None h e = absurd (none_some e)
  narrow_takes n (Some t) h e = only_is (nat_eq t.bits 32) (of_type n t t) f b e (λ w. replicated b n t some (count_is n (takes_width b 32) h)
      (subst (λ v. takes_width b v ≡ true) (sym (eqb-true t.bits 32 w)) (second_so (nat_eq n (count_of b)) (takes_width b 32) h)))

  limited_takes : (n : ℕ) (ks : List Kind) → (nat_eq n (count_of b) && takes_each b) ≡ true → limited n ks ≡ Some f → Takes b f
  limited_takes n [] h e = alike_takes n (type_of n []) h e
  limited_takes n (kind.Void ∷ ks) h e = alike_takes n (type_of n (kind.Void ∷ ks)) h e
  limited_takes n (kind.Bool ∷ ks) h e = alike_takes n (type_of n (kind.Bool ∷ ks)) h e
  limited_takes n (kind.Pointer own space readonly to ∷ ks) h e = alike_takes n (type_of n (kind.Pointer own space readonly to ∷ ks)) h e
  limited_takes n (kind.Other own ∷ ks) h e = alike_takes n (type_of n (kind.Other own ∷ ks)) h e
  limited_takes n (kind.Integers t ∷ ks) h e = by (has_limits n t ks) refl e
    where
      by : (x : Bool) → has_limits n t ks ≡ x → cond x (Some (these (kind.Integers t ∷ ks) (kind.Integers t))) (alike_form n (type_of n (kind.Integers t ∷ ks))) ≡ Some f → Takes b f
      by true l e =
          let front = first_so (not (nat_eq t.count 1) && nat_eq (suc (length ks)) n) (list_all (is_type (element_of t)) ks) l in
          let counted = eqb-true (suc (length ks)) n (second_so (not (nat_eq t.count 1)) (nat_eq (suc (length ks)) n) front) in
          some_is (these (kind.Integers t ∷ ks) (kind.Integers t)) f b e (taken b t.bits (map bits_in ks) (ap suc (length-map ks bits_in) ∙ counted ∙ count_is n (takes_each b) h)
          (limits_same t ks (second_so (not (nat_eq t.count 1) && nat_eq (suc (length ks)) n) (list_all (is_type (element_of t)) ks) l))
          (each b t.bits (second_so (nat_eq n (count_of b)) (takes_each b) h)))
      by false l e = alike_takes n (type_of n (kind.Integers t ∷ ks)) h e

  upsampled_takes : (o : Option Gentype) (low : Kind) → is_upsample b ≡ true → upsampled o low ≡ Some f → Takes b f
  upsampled_takes None low h e = absurd (none_some e)
  upsampled_takes (Some t) low h e = only_is (nat_lt t.bits 64 && converts (unsigned_of t) low) _ f b e (λ l. upsample_taken b t.bits h (first_so (nat_lt t.bits 64) (converts (unsigned_of t) low) l))

  upsample_takes : (ks : List Kind) → is_upsample b ≡ true → upsample ks ≡ Some f → Takes b f
  upsample_takes [] h e = absurd (none_some e)
  upsample_takes (high ∷ []) h e = absurd (none_some e)
  upsample_takes (high ∷ low ∷ []) h e = upsampled_takes (operand high) low h e
  upsample_takes (high ∷ low ∷ k ∷ ks) h e = absurd (none_some e)

  converted_takes : (to : Gentype) (ks : List Kind) → (nat_eq 1 (count_of b) && takes_each b) ≡ true → converted to ks ≡ Some f → Takes b f
  converted_takes to [] h e = absurd (none_some e)
  converted_takes to (kind.Void ∷ ks) h e = absurd (none_some e)
  converted_takes to (kind.Bool ∷ ks) h e = absurd (none_some e)
  converted_takes to (kind.Pointer own space readonly x ∷ ks) h e = absurd (none_some e)
  converted_takes to (kind.Other own ∷ ks) h e = absurd (none_some e)
  converted_takes to (kind.Integers t ∷ k ∷ ks) h e = absurd (none_some e)
  converted_takes to (kind.Integers t ∷ []) h e = only_is (nat_eq t.count to.count) _ f b e (λ l. taken b t.bits [] (count_is 1 (takes_each b) h) refl (each b t.bits (second_so (nat_eq 1 (count_of b)) (takes_each b) h)))

  selected_takes : (o : Option Gentype) (by : Gentype) → (nat_eq 3 (count_of b) && takes_each b) ≡ true → selected o by ≡ Some f → Takes b f
  selected_takes None by h e = absurd (none_some e)
  selected_takes (Some t) by h e = only_is (nat_eq by.bits t.bits && nat_eq by.count t.count) _ f b e (λ l.
      let same = eqb-true by.bits t.bits (first_so (nat_eq by.bits t.bits) (nat_eq by.count t.count) l) in
      taken b t.bits (t.bits ∷ by.bits ∷ []) (count_is 3 (takes_each b) h)
      (both (nat_eq t.bits t.bits) (nat_eq t.bits by.bits && true) (eq-eqb _ _ refl) (both (nat_eq t.bits by.bits) true (eq-eqb _ _ (sym same)) refl))
      (each b t.bits (second_so (nat_eq 3 (count_of b)) (takes_each b) h)))

  selection_takes : (ks : List Kind) → (nat_eq 3 (count_of b) && takes_each b) ≡ true → selection ks ≡ Some f → Takes b f
  selection_takes [] h e = absurd (none_some e)
  selection_takes (x ∷ []) h e = absurd (none_some e)
  selection_takes (x ∷ y ∷ []) h e = absurd (none_some e)
  selection_takes (x ∷ y ∷ kind.Void ∷ ks) h e = absurd (none_some e)
  selection_takes (x ∷ y ∷ kind.Bool ∷ ks) h e = absurd (none_some e)
  selection_takes (x ∷ y ∷ kind.Pointer own space readonly to ∷ ks) h e = absurd (none_some e)
  selection_takes (x ∷ y ∷ kind.Other own ∷ ks) h e = absurd (none_some e)
  selection_takes (x ∷ y ∷ kind.Integers by ∷ []) h e = selected_takes (common (x ∷ y ∷ [])) by h e
  selection_takes (x ∷ y ∷ kind.Integers by ∷ k ∷ ks) h e = absurd (none_some e)

  none : nat_eq (count_of b) 0 ≡ true → Takes b f
  none h = absurd (omega (arith, some, eqb-true (count_of b) 0 h))

  rule_takes : (r : Rule) (ks : List Kind) → suits b r ≡ true → form_of r ks ≡ Some f → Takes b f
  rule_takes (rule.Alike n) ks h e = alike_takes n (type_of n ks) h e
  rule_takes (rule.Unsigned n) ks h e = unsigned_takes n (type_of n ks) h e
  rule_takes (rule.Limited n) ks h e = limited_takes n ks h e
  rule_takes (rule.Narrow n) ks h e = narrow_takes n (type_of n ks) h e
  rule_takes rule.Upsample ks h e = upsample_takes ks h e
  rule_takes (rule.Convert to) ks h e = converted_takes to ks h e
  rule_takes rule.Select ks h e = selection_takes ks h e
  rule_takes rule.Nothing ks h e = none h
  rule_takes rule.Dimension ks h e = none h
  rule_takes rule.Fence ks h e = none h
  rule_takes (rule.Reread to) ks h e = none h
  rule_takes rule.Test ks h e = none h
  rule_takes (rule.Load n) ks h e = none h
  rule_takes (rule.Store n) ks h e = none h
  rule_takes (rule.Atomic n) ks h e = none h

-- what the table has for a name and arguments takes numbers of the widths of its parameters
pub params_taken : (name : List ℕ) (entry : Entry) (ks : List Kind) (f : Form) → lookup entries name ≡ Some entry → form_of entry.1 ks ≡ Some f
    → 0 < count_of entry.0 → takes_widths (named_by entry.0 f.result) (map bits_in f.params) ≡ true
params_taken name entry ks f found fits some =
    named_takes entry.0 f.result (map bits_in f.params) ∙ rule_takes entry.0 some f entry.1 ks (lookup_all suits_entry entries name entry entries_suit found) fits
