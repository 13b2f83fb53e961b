-- What arguments of built-in functions are by other numbers of types, and which forms take them.
use Rattle.std.proofs.Common.{◌≡◌, ℕ, zero, suc, List, [], ◌∷◌, map, refl, ap, ◌∙◌, nat_eq, nat_lt, Bool, not, ◌&&◌, ◌||◌, if◌then◌else◌, Option, Some, None, slice_get}
use Rattle.std.specs.Prelude.{replicate, fold}
use Rattle.std.specs.Option.{option_map}
use Rattle.std.specs.List.{list_all}
use Rattle.std.proofs.lemmas.List.{length-map}
use Rattle.cl_types.specs.declared.types.ClType.{ClType}
use Rattle.cl_types.specs.declared.types.ClType.TheVariants as ty
use Rattle.cl_types.specs.declared.types.TypeId.{TypeId}
use Rattle.cl_types.specs.declared.space.Space.{Space}
use Rattle.cl_builtins.specs.declared.kind.Gentype.{Gentype}
use Rattle.cl_builtins.specs.declared.kind.Kind.{Kind}
use Rattle.cl_builtins.specs.declared.kind.Kind.TheVariants as kind
use Rattle.cl_builtins.specs.declared.form.Form.{Form}
use Rattle.cl_builtins.specs.declared.name.Rule.{Rule}
use Rattle.cl_builtins.specs.declared.name.Rule.TheVariants as rule
use Rattle.cl_builtins.specs.Kinds.{int, uint, element_of, unsigned_of, vector_in, pointer_in, kind_in, kind_of, is_scalar, is_type, converts}
use Rattle.cl_builtins.specs.Forms.{these, only, operand as stands_for, is_operand, usual_with, common_at, common, type_of, of_type, alike_form, unsigned_form, narrow_form, limited, one_number, upsampled, upsample, selected, selection, converted, reads_as, reread, tested, loaded, is_constant, stored, is_shared, atomic, form_of}
use Rattle.cl_renaming.specs.Renaming.{type_id, cl_type, kind_as, form_as, IsRenaming}
use Rattle.cl_renaming.proofs.Shapes.{found_as, integer_found}
use Rattle.cl_renaming.proofs.Operators.{if_as}

-- ---- kinds of types

module _ (r : ℕ → ℕ) where
  vector_in_as : (t : TypeId) (n : ℕ) (o : Option Gentype) → vector_in (type_id r t) n o ≡ kind_as r (vector_in t n o)
  vector_in_as t n None = refl
  vector_in_as t n (Some g) = refl

  pointer_in_as : (t : TypeId) (space : Space) (readonly : Bool) (o : Option Gentype) → pointer_in (type_id r t) space readonly o ≡ kind_as r (pointer_in t space readonly o)
  pointer_in_as t space readonly None = refl
  pointer_in_as t space readonly (Some g) = refl

module _ (cs ds : List ClType) (r : ℕ → ℕ) (e : IsRenaming cs ds r) where
  kind_in_as : (t : TypeId) (o : Option ClType) → kind_in ds (type_id r t) (option_map (cl_type r) o) ≡ kind_as r (kind_in cs t o)
  kind_in_as t None = refl
  kind_in_as t (Some ty.Void) = refl
  kind_in_as t (Some ty.Bool) = refl
  kind_in_as t (Some (ty.Int bits signed)) = refl
  kind_in_as t (Some (ty.Vector elem n)) = ap (vector_in (type_id r t) n) (integer_found cs ds r e elem.0) ∙ vector_in_as r t n _
  kind_in_as t (Some (ty.Array elem len)) = refl
  kind_in_as t (Some (ty.Struct name members)) = refl
  kind_in_as t (Some (ty.Pointer space to readonly restricted)) = ap (pointer_in (type_id r t) space readonly) (integer_found cs ds r e to.0) ∙ pointer_in_as r t space readonly _

  pub kind_of_as : (t : TypeId) → kind_of ds (type_id r t) ≡ kind_as r (kind_of cs t)
  kind_of_as t = ap (kind_in ds (type_id r t)) (found_as cs ds r e t.0) ∙ kind_in_as t (slice_get cs t.0)

  pub kinds_of_as : (ts : List TypeId) → map (kind_of ds) (map (type_id r) ts) ≡ map (kind_as r) (map (kind_of cs) ts)
  kinds_of_as [] = refl
  kinds_of_as (t ∷ ts) = λ i. kind_of_as t i ∷ kinds_of_as ts i

-- ---- forms

module _ (r : ℕ → ℕ) where
  stands_as : (k : Kind) → stands_for (kind_as r k) ≡ stands_for k
  stands_as kind.Bool = refl
  stands_as _ = refl

  is_scalar_as : (k : Kind) → is_scalar (kind_as r k) ≡ is_scalar k
  is_scalar_as kind.Bool = refl
  is_scalar_as _ = refl

  is_type_as : (t : Gentype) (k : Kind) → is_type t (kind_as r k) ≡ is_type t k
  is_type_as t (kind.Integers x) = refl
  is_type_as t _ = refl

  converts_kind : (t : Gentype) (k : Kind) → converts t (kind_as r k) ≡ converts t k
  converts_kind t k = λ i. is_scalar_as k i || is_type_as t k i

  is_operand_as : (t : Gentype) (k : Kind) → is_operand t (kind_as r k) ≡ is_operand t k
  is_operand_as t kind.Bool = refl
  is_operand_as t _ = refl

  usual_with_as : (t : Gentype) (k : Kind) → usual_with t (kind_as r k) ≡ usual_with t k
  usual_with_as t kind.Bool = refl
  usual_with_as t _ = refl

  all_as : (p : Kind → Bool) → ((k : Kind) → p (kind_as r k) ≡ p k) → (ks : List Kind) → list_all p (map (kind_as r) ks) ≡ list_all p ks
  all_as p e [] = refl
  all_as p e (k ∷ ks) = λ i. e k i && all_as p e ks i

  usual_from_as : (t : Gentype) (ks : List Kind) → fold usual_with t (map (kind_as r) ks) ≡ fold usual_with t ks
  usual_from_as t [] = refl
  usual_from_as t (k ∷ ks) = ap (λ z. fold usual_with z (map (kind_as r) ks)) (usual_with_as t k) ∙ usual_from_as (usual_with t k) ks

  common_at_as : (o : Option Gentype) (ks : List Kind) → common_at o (map (kind_as r) ks) ≡ common_at o ks
  common_at_as None ks = refl
  common_at_as (Some t) ks = λ i. if all_as (is_operand t) (is_operand_as t) ks i then Some t else if all_as is_scalar is_scalar_as ks i then Some (usual_from_as int ks i) else None

  common_as : (ks : List Kind) → common (map (kind_as r) ks) ≡ common ks
  common_as [] = refl
  common_as (k ∷ ks) = ap (λ o. common_at o (map (kind_as r) (k ∷ ks))) (stands_as k) ∙ common_at_as (stands_for k) (k ∷ ks)

  together_as : (n : ℕ) (ks : List Kind) → type_of n (map (kind_as r) ks) ≡ type_of n ks
  together_as n ks = λ i. if nat_eq (length-map ks (kind_as r) i) n then common_as ks i else None

  only_as : (b c : Bool) (f g : Form) → b ≡ c → f ≡ form_as r g → only b f ≡ option_map (form_as r) (only c g)
  only_as b c f g e h = if_as (option_map (form_as r)) b c (Some f) None (Some g) None e (ap Some h) refl

  copies_plain : (n : ℕ) (t : Gentype) → replicate n (kind.Integers t) ≡ map (kind_as r) (replicate n (kind.Integers t))
  copies_plain zero t = refl
  copies_plain (suc n) t = ap (λ ks. kind.Integers t ∷ ks) (copies_plain n t)

  of_type_as : (n : ℕ) (t gives : Gentype) → of_type n t gives ≡ form_as r (of_type n t gives)
  of_type_as n t gives = λ i. these (copies_plain n t i) (kind.Integers gives)

  alike_form_as : (n : ℕ) (o : Option Gentype) → alike_form n o ≡ option_map (form_as r) (alike_form n o)
  alike_form_as n None = refl
  alike_form_as n (Some t) = ap Some (of_type_as n t t)

  unsigned_form_as : (n : ℕ) (o : Option Gentype) → unsigned_form n o ≡ option_map (form_as r) (unsigned_form n o)
  unsigned_form_as n None = refl
  unsigned_form_as n (Some t) = ap Some (of_type_as n t (unsigned_of t))

  narrow_form_as : (n : ℕ) (o : Option Gentype) → narrow_form n o ≡ option_map (form_as r) (narrow_form n o)
  narrow_form_as n None = refl
  narrow_form_as n (Some t) = only_as _ _ _ _ refl (of_type_as n t t)

  alike_as : (n : ℕ) (ks : List Kind) → alike_form n (type_of n (map (kind_as r) ks)) ≡ option_map (form_as r) (alike_form n (type_of n ks))
  alike_as n ks = ap (alike_form n) (together_as n ks) ∙ alike_form_as n (type_of n ks)

  limited_as : (n : ℕ) (ks : List Kind) → limited n (map (kind_as r) ks) ≡ option_map (form_as r) (limited n ks)
  limited_as n (kind.Integers t ∷ ks) =
      if_as (option_map (form_as r)) _ _ _ _ _ _
      (λ i. not (nat_eq t.count 1) && nat_eq (suc (length-map ks (kind_as r) i)) n && all_as (is_type (element_of t)) (is_type_as (element_of t)) ks i)
      refl
      (alike_as n (kind.Integers t ∷ ks))
  limited_as n ks = alike_as n ks

  one_number_as : (ks : List Kind) (gives : Kind) → one_number (map (kind_as r) ks) (kind_as r gives) ≡ option_map (form_as r) (one_number ks gives)
  one_number_as [] gives = refl
  one_number_as (d ∷ []) gives = only_as _ _ _ _ (converts_kind uint d) refl
  one_number_as (d ∷ k ∷ ks) gives = refl

  upsampled_as : (o : Option Gentype) (low : Kind) → upsampled o (kind_as r low) ≡ option_map (form_as r) (upsampled o low)
  upsampled_as None low = refl
  upsampled_as (Some t) low = only_as _ _ _ _ (λ i. nat_lt t.bits 64 && converts_kind (unsigned_of t) low i) refl

  upsample_as : (ks : List Kind) → upsample (map (kind_as r) ks) ≡ option_map (form_as r) (upsample ks)
  upsample_as (high ∷ low ∷ []) = ap (λ o. upsampled o (kind_as r low)) (stands_as high) ∙ upsampled_as (stands_for high) low
  upsample_as _ = refl

  selected_form : (o : Option Gentype) (by : Gentype) → selected o by ≡ option_map (form_as r) (selected o by)
  selected_form None by = refl
  selected_form (Some t) by = only_as _ _ _ _ refl refl

  selection_as : (ks : List Kind) → selection (map (kind_as r) ks) ≡ option_map (form_as r) (selection ks)
  selection_as (a ∷ b ∷ kind.Integers by ∷ []) = ap (λ o. selected o by) (common_as (a ∷ b ∷ [])) ∙ selected_form (common (a ∷ b ∷ [])) by
  selection_as _ = refl

  converted_as : (to : Gentype) (ks : List Kind) → converted to (map (kind_as r) ks) ≡ option_map (form_as r) (converted to ks)
  converted_as to (kind.Integers t ∷ []) = only_as (nat_eq t.count to.count) _ _ (these (kind.Integers t ∷ []) (kind.Integers to)) refl refl
  converted_as to _ = refl

  reread_as : (to : Gentype) (ks : List Kind) → reread to (map (kind_as r) ks) ≡ option_map (form_as r) (reread to ks)
  reread_as to (kind.Integers t ∷ []) = only_as (reads_as t to) _ _ (these (kind.Integers t ∷ []) (kind.Integers to)) refl refl
  reread_as to _ = refl

  tested_as : (ks : List Kind) → tested (map (kind_as r) ks) ≡ option_map (form_as r) (tested ks)
  tested_as (kind.Integers t ∷ []) = only_as t.signed _ _ (these (kind.Integers t ∷ []) (kind.Integers int)) refl refl
  tested_as _ = refl

  loaded_as : (n : ℕ) (ks : List Kind) → loaded n (map (kind_as r) ks) ≡ option_map (form_as r) (loaded n ks)
  loaded_as n (at ∷ kind.Pointer own s readonly to ∷ []) = only_as _ _ _ _ (converts_kind uint at) refl
  loaded_as n _ = refl

  stored_as : (n : ℕ) (ks : List Kind) → stored n (map (kind_as r) ks) ≡ option_map (form_as r) (stored n ks)
  stored_as n (v ∷ at ∷ kind.Pointer own s readonly to ∷ []) =
      only_as _ _ _ _ (λ i. not readonly && not (is_constant s) && converts_kind (record to { count = n }) v i && converts_kind uint at i) refl
  stored_as n _ = refl

  atomic_as : (n : ℕ) (ks : List Kind) → atomic n (map (kind_as r) ks) ≡ option_map (form_as r) (atomic n ks)
  atomic_as n (kind.Pointer own s readonly to ∷ ks) =
      only_as _ _ _ _
      (λ i. is_shared s && not readonly && nat_eq to.bits 32 && nat_eq (length-map ks (kind_as r) i) n && all_as (converts to) (converts_kind to) ks i)
      (λ i. these (kind.Pointer (type_id r own) s readonly to ∷ copies_plain n to i) (kind.Integers to))
  atomic_as n _ = refl

  pub form_of_as : (f : Rule) (ks : List Kind) → form_of f (map (kind_as r) ks) ≡ option_map (form_as r) (form_of f ks)
  form_of_as rule.Nothing [] = refl
  form_of_as rule.Nothing (k ∷ ks) = refl
  form_of_as rule.Dimension ks = one_number_as ks (kind.Integers uint)
  form_of_as rule.Fence ks = one_number_as ks kind.Void
  form_of_as (rule.Alike n) ks = alike_as n ks
  form_of_as (rule.Unsigned n) ks = ap (unsigned_form n) (together_as n ks) ∙ unsigned_form_as n (type_of n ks)
  form_of_as (rule.Narrow n) ks = ap (narrow_form n) (together_as n ks) ∙ narrow_form_as n (type_of n ks)
  form_of_as (rule.Limited n) ks = limited_as n ks
  form_of_as rule.Upsample ks = upsample_as ks
  form_of_as (rule.Convert to) ks = converted_as to ks
  form_of_as (rule.Reread to) ks = reread_as to ks
  form_of_as rule.Select ks = selection_as ks
  form_of_as rule.Test ks = tested_as ks
  form_of_as (rule.Load n) ks = loaded_as n ks
  form_of_as (rule.Store n) ks = stored_as n ks
  form_of_as (rule.Atomic n) ks = atomic_as n ks
