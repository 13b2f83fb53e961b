-- A form of a built-in function has as many parameters as there are arguments.
use Rattle.std.proofs.Common.{◌≡◌, ℕ, zero, suc, List, [], ◌∷◌, length, replicate, refl, sym, ap, ◌∙◌, subst, Bool, true, false, ◌&&◌, if◌then◌else◌, Some, None, Option}
use Rattle.std.specs.Prelude.{nat_eq, not}
use Rattle.std.specs.Cmp.{first_so, second_so}
use Rattle.std.specs.List.{AllZip, list_all}
use Rattle.std.proofs.lemmas.Bool.{eqb-true}
use Rattle.cl_types.specs.declared.types.ClType.{ClType}
use Rattle.cl_types.specs.declared.types.TypeId.{TypeId}
use Rattle.cl_builtins.specs.declared.kind.Gentype.{Gentype}
use Rattle.cl_builtins.specs.declared.kind.Kind.{Kind}
use Rattle.cl_builtins.specs.declared.kind.Kind.TheVariants as kind
use Rattle.cl_builtins.specs.declared.form.Form.{Form}
use Rattle.cl_builtins.specs.declared.name.Rule.{Rule}
use Rattle.cl_builtins.specs.declared.name.Rule.TheVariants as rule
use Rattle.cl_builtins.specs.Found.{IsKnown, AreKnown, HasKind}
use Rattle.cl_builtins.specs.Kinds.{uint, converts}
use Rattle.cl_builtins.specs.Forms.{these, only, operand, common, type_of, of_type, alike_form, unsigned_form, narrow_form, has_limits, limited, one_number, upsampled, upsample, selected, selection, converted, reread, tested, loaded, stored, is_shared, atomic, form_of}
use Rattle.std.proofs.lemmas.List.Elements.{All-cons, All-nil}

-- the form, where it is one, has so many parameters
abbrev Counted : ℕ → Option Form → Type 0
Counted n None = Unit {0}
Counted n (Some f) = length f.params ≡ n

only_counted : (n : ℕ) (b : Bool) (f : Form) → (b ≡ true → length f.params ≡ n) → Counted n (only b f)
only_counted n true f h = h refl
only_counted n false f h = tt

copies : (n : ℕ) (k : Kind) → length (replicate n k) ≡ n
copies zero k = refl
copies (suc n) k = ap suc (copies n k)

alike_counted : (n : ℕ) (o : Option Gentype) → Counted n (alike_form n o)
alike_counted n None = tt
alike_counted n (Some t) = copies n (kind.Integers t)

unsigned_counted : (n : ℕ) (o : Option Gentype) → Counted n (unsigned_form n o)
unsigned_counted n None = tt
unsigned_counted n (Some t) = copies n (kind.Integers t)

narrow_counted : (n : ℕ) (o : Option Gentype) → Counted n (narrow_form n o)
narrow_counted n None = tt
narrow_counted n (Some t) = only_counted n (nat_eq t.bits 32) (of_type n t t) (λ h. copies n (kind.Integers t))

-- a form of arguments that have a type together
typed_counted : (form : Option Gentype → Option Form) (n : ℕ) (ks : List Kind) → ((o : Option Gentype) → Counted n (form o)) → Counted (length ks) (form None) → Counted (length ks) (form (type_of n ks))
typed_counted form n ks each none = by (nat_eq (length ks) n) refl
  where
    by : (b : Bool) → nat_eq (length ks) n ≡ b → Counted (length ks) (form (if b then common ks else None))
    by true e = subst (λ m. Counted m (form (common ks))) (sym (eqb-true (length ks) n e)) (each (common ks))
    by false e = none

alike_typed : (n : ℕ) (ks : List Kind) → Counted (length ks) (alike_form n (type_of n ks))
alike_typed n ks = typed_counted (alike_form n) n ks (alike_counted n) tt

limited_counted : (n : ℕ) (ks : List Kind) → Counted (length ks) (limited n ks)
limited_counted n [] = alike_typed n []
limited_counted n (kind.Integers t ∷ ks) = by (has_limits n t ks)
  where
    by : (b : Bool) → Counted (suc (length ks)) (if b then Some (these (kind.Integers t ∷ ks) (kind.Integers t)) else alike_form n (type_of n (kind.Integers t ∷ ks)))
    by true = refl
    by false = alike_typed n (kind.Integers t ∷ ks)
limited_counted n (kind.Void ∷ ks) = alike_typed n (kind.Void ∷ ks)
limited_counted n (kind.Bool ∷ ks) = alike_typed n (kind.Bool ∷ ks)
limited_counted n (kind.Pointer own space readonly to ∷ ks) = alike_typed n (kind.Pointer own space readonly to ∷ ks)
limited_counted n (kind.Other own ∷ ks) = alike_typed n (kind.Other own ∷ ks)

one_counted : (ks : List Kind) (gives : Kind) → Counted (length ks) (one_number ks gives)
one_counted [] gives = tt
one_counted (d ∷ []) gives = only_counted 1 (converts uint d) (these (kind.Integers uint ∷ []) gives) (λ h. refl)
one_counted (d ∷ e ∷ ks) gives = tt

upsampled_counted : (o : Option Gentype) (low : Kind) → Counted 2 (upsampled o low)
upsampled_counted None low = tt
upsampled_counted (Some t) low = only_counted 2 _ _ (λ h. refl)

upsample_counted : (ks : List Kind) → Counted (length ks) (upsample ks)
upsample_counted [] = tt
upsample_counted (high ∷ []) = tt
upsample_counted (high ∷ low ∷ []) = upsampled_counted (operand high) low
upsample_counted (high ∷ low ∷ k ∷ ks) = tt

selected_counted : (o : Option Gentype) (by : Gentype) → Counted 3 (selected o by)
selected_counted None by = tt
selected_counted (Some t) by = only_counted 3 _ _ (λ h. refl)

selection_counted : (ks : List Kind) → Counted (length ks) (selection ks)
selection_counted [] = tt
selection_counted (a ∷ []) = tt
selection_counted (a ∷ b ∷ []) = tt
selection_counted (a ∷ b ∷ kind.Integers by ∷ []) = selected_counted (common (a ∷ b ∷ [])) by
selection_counted (a ∷ b ∷ kind.Void ∷ []) = tt
selection_counted (a ∷ b ∷ kind.Bool ∷ []) = tt
selection_counted (a ∷ b ∷ kind.Pointer own space readonly to ∷ []) = tt
selection_counted (a ∷ b ∷ kind.Other own ∷ []) = tt
selection_counted (a ∷ b ∷ kind.Integers by ∷ k ∷ ks) = tt
selection_counted (a ∷ b ∷ kind.Void ∷ k ∷ ks) = tt
selection_counted (a ∷ b ∷ kind.Bool ∷ k ∷ ks) = tt
selection_counted (a ∷ b ∷ kind.Pointer own space readonly to ∷ k ∷ ks) = tt
selection_counted (a ∷ b ∷ kind.Other own ∷ k ∷ ks) = tt

converted_counted : (to : Gentype) (ks : List Kind) → Counted (length ks) (converted to ks)
converted_counted to [] = tt
converted_counted to (kind.Integers t ∷ []) = only_counted 1 _ _ (λ h. refl)
converted_counted to (kind.Integers t ∷ k ∷ ks) = tt
converted_counted to (kind.Void ∷ ks) = tt
converted_counted to (kind.Bool ∷ ks) = tt
converted_counted to (kind.Pointer own space readonly by ∷ ks) = tt
converted_counted to (kind.Other own ∷ ks) = tt

reread_counted : (to : Gentype) (ks : List Kind) → Counted (length ks) (reread to ks)
reread_counted to [] = tt
reread_counted to (kind.Integers t ∷ []) = only_counted 1 _ _ (λ h. refl)
reread_counted to (kind.Integers t ∷ k ∷ ks) = tt
reread_counted to (kind.Void ∷ ks) = tt
reread_counted to (kind.Bool ∷ ks) = tt
reread_counted to (kind.Pointer own space readonly by ∷ ks) = tt
reread_counted to (kind.Other own ∷ ks) = tt

tested_counted : (ks : List Kind) → Counted (length ks) (tested ks)
tested_counted [] = tt
tested_counted (kind.Integers t ∷ []) = only_counted 1 _ _ (λ h. refl)
tested_counted (kind.Integers t ∷ k ∷ ks) = tt
tested_counted (kind.Void ∷ ks) = tt
tested_counted (kind.Bool ∷ ks) = tt
tested_counted (kind.Pointer own space readonly by ∷ ks) = tt
tested_counted (kind.Other own ∷ ks) = tt

loaded_counted : (n : ℕ) (ks : List Kind) → Counted (length ks) (loaded n ks)
loaded_counted n [] = tt
loaded_counted n (at ∷ []) = tt
loaded_counted n (at ∷ kind.Pointer own s readonly to ∷ []) = only_counted 2 _ _ (λ h. refl)
loaded_counted n (at ∷ kind.Pointer own s readonly to ∷ k ∷ ks) = tt
loaded_counted n (at ∷ kind.Void ∷ ks) = tt
loaded_counted n (at ∷ kind.Bool ∷ ks) = tt
loaded_counted n (at ∷ kind.Integers t ∷ ks) = tt
loaded_counted n (at ∷ kind.Other own ∷ ks) = tt

stored_counted : (n : ℕ) (ks : List Kind) → Counted (length ks) (stored n ks)
stored_counted n [] = tt
stored_counted n (v ∷ []) = tt
stored_counted n (v ∷ at ∷ []) = tt
stored_counted n (v ∷ at ∷ kind.Pointer own s readonly to ∷ []) = only_counted 3 _ _ (λ h. refl)
stored_counted n (v ∷ at ∷ kind.Pointer own s readonly to ∷ k ∷ ks) = tt
stored_counted n (v ∷ at ∷ kind.Void ∷ ks) = tt
stored_counted n (v ∷ at ∷ kind.Bool ∷ ks) = tt
stored_counted n (v ∷ at ∷ kind.Integers t ∷ ks) = tt
stored_counted n (v ∷ at ∷ kind.Other own ∷ ks) = tt

atomic_counted : (n : ℕ) (ks : List Kind) → Counted (length ks) (atomic n ks)
atomic_counted n [] = tt
atomic_counted n (kind.Pointer own s readonly to ∷ ks) = only_counted (suc (length ks)) _ _ (λ h.
    let before = first_so (is_shared s && not readonly && nat_eq to.bits 32 && nat_eq (length ks) n) (list_all (converts to) ks) h in
    ap suc (copies n (kind.Integers to) ∙ sym (eqb-true (length ks) n (second_so (is_shared s && not readonly && nat_eq to.bits 32) (nat_eq (length ks) n) before))))
atomic_counted n (kind.Void ∷ ks) = tt
atomic_counted n (kind.Bool ∷ ks) = tt
atomic_counted n (kind.Integers t ∷ ks) = tt
atomic_counted n (kind.Other own ∷ ks) = tt

form_counted : (r : Rule) (ks : List Kind) → Counted (length ks) (form_of r ks)
form_counted rule.Nothing [] = refl
form_counted rule.Nothing (k ∷ ks) = tt
form_counted rule.Dimension ks = one_counted ks (kind.Integers uint)
form_counted rule.Fence ks = one_counted ks kind.Void
form_counted (rule.Alike n) ks = alike_typed n ks
form_counted (rule.Unsigned n) ks = typed_counted (unsigned_form n) n ks (unsigned_counted n) tt
form_counted (rule.Narrow n) ks = typed_counted (narrow_form n) n ks (narrow_counted n) tt
form_counted (rule.Limited n) ks = limited_counted n ks
form_counted rule.Upsample ks = upsample_counted ks
form_counted (rule.Convert to) ks = converted_counted to ks
form_counted (rule.Reread to) ks = reread_counted to ks
form_counted rule.Select ks = selection_counted ks
form_counted rule.Test ks = tested_counted ks
form_counted (rule.Load n) ks = loaded_counted n ks
form_counted (rule.Store n) ks = stored_counted n ks
form_counted (rule.Atomic n) ks = atomic_counted n ks

pub form_counts : (r : Rule) (ks : List Kind) (f : Form) → form_of r ks ≡ Some f → length f.params ≡ length ks
form_counts r ks f e = subst (Counted (length ks)) e (form_counted r ks)

pub zip_length : (cs : List ClType) (ks : List Kind) (ts : List TypeId) → AllZip (HasKind cs) ks ts → length ts ≡ length ks
zip_length cs [] [] h = refl
zip_length cs [] (t ∷ ts) h = absurd h
zip_length cs (k ∷ ks) [] h = absurd h
zip_length cs (k ∷ ks) (t ∷ ts) h = ap suc (zip_length cs ks ts h.1)

pub zip_known : (cs : List ClType) (ks : List Kind) (ts : List TypeId) → AllZip (HasKind cs) ks ts → AreKnown cs ts
zip_known cs [] [] h = All-nil (IsKnown cs)
zip_known cs [] (t ∷ ts) h = absurd h
zip_known cs (k ∷ ks) [] h = absurd h
zip_known cs (k ∷ ks) (t ∷ ts) h = All-cons (IsKnown cs) t ts h.0.known (zip_known cs ks ts h.1)
