-- The call of a built-in function that a name means is typed by its arguments, each converted to its parameter's type.
use Rattle.std.proofs.Common.{◌≡◌, ℕ, List, [], ◌∷◌, map, refl, sym, ap, ◌∙◌, subst, Bool, true, false, ◌&&◌, ◌||◌, if◌then◌else◌, Some, None, Option, true≢false}
use Rattle.std.specs.Prelude.{◌≢◌, not, slice_get}
use Rattle.std.specs.Cmp.{first_so, second_so}
use Rattle.std.specs.List.{All, AllZip}
use Rattle.std.proofs.lemmas.List.Elements.{All-head, All-tail}
use Rattle.cl_types.specs.declared.space.Space.{Space}
use Rattle.cl_types.specs.declared.types.ClType.{ClType}
use Rattle.cl_types.specs.declared.types.ClType.TheVariants as ty
use Rattle.cl_types.specs.declared.types.TypeId.{TypeId}
use Rattle.cl_types.specs.Table.{IsTable}
use Rattle.cl_builtins.specs.declared.call.Found.{Found}
use Rattle.cl_builtins.specs.declared.kind.Gentype.{Gentype}
use Rattle.cl_builtins.specs.declared.kind.Kind.{Kind}
use Rattle.cl_builtins.specs.declared.kind.Kind.TheVariants as kind
use Rattle.cl_builtins.specs.Found.{IsKnown, HasKind, Means}
use Rattle.cl_builtins.specs.Kinds.{integer_in, vector_in, pointer_in, kind_in, kind_of, is_scalar}
use Rattle.cl_builtins.specs.Kinds as kinds
use Rattle.cl_tree.specs.BuiltinCalls.{fits_call}
use Rattle.cl_tree.specs.declared.expression.Facts.{Facts}
use Rattle.cl_tree.specs.declared.shape.Shape.TheVariants as shape
use Rattle.cl_tree.specs.Facts.{Lists, when, value, converts_to, kind_at}
use Rattle.cl_tree.specs.Shapes.{vector_shape, shape_in, shape_of, is_array, is_pointer, is_number}
use Rattle.cl_rules.specs.declared.rule.Head.TheVariants as head
use Rattle.cl_rules.specs.declared.rule.Operand.{Operand}
use Rattle.cl_rules.specs.declared.rule.Want.{Want}
use Rattle.cl_rules.specs.declared.rule.Want.TheVariants as want
use Rattle.cl_rules.specs.Calls.{wants_of}
use Rattle.cl_rules.specs.Operands as operands
use Rattle.cl_rules.specs.Operands.{pointer_from, seen, to_array}
use Rattle.cl_make.specs.Ready.{IsReadyOperand}
use Rattle.cl_make.specs.Wanted.{IsWanted, by_number, by_shape}
use Rattle.cl_laws.specs.Fitting.{IsAfter, unasked, fitting, changed, AreAfter, none, more, AreConvertible, none_converts, more_convert, RuleFits}
use Rattle.cl_laws.proofs.BuiltinForms.{same_integers, IsTaken, AreTaken, form_takes, named_call_fits}
use Rattle.cl_laws.proofs.Fitted.{number_converts, pointer_convertible, seen_leads}
use Rattle.cl_laws.proofs.Opening.{facts_of as facts_in}
use Rattle.cl_laws.proofs.SameTypes.{same_number, number_wanted, shape_wanted}

false_true : {A : Type 0} → false ≡ true → A
false_true e = absurd (true≢false (sym e))

-- ---- types that are wanted, by their numbers

-- it is the type that is asked for by its number
abbrev HasType : Want → TypeId → Type 0
HasType (want.Type u) t = t ≡ u
HasType _ t = Unit {0}

has_type : (cs : List ClType) (w : Want) (t : TypeId) → IsWanted cs w t → HasType w t
has_type cs w t (by_number u k) = refl
has_type cs w t (by_shape s u k e) = tt

-- ---- kinds and shapes

integers_same : (t x : Gentype) → kind.Integers t ≡ kind.Integers x → t ≡ x
integers_same t x e = cc

other_integers : (t : TypeId) (x : Gentype) → kind.Other t ≡ kind.Integers x → ⊥
other_integers t x e = cc

pointer_integers : (own : TypeId) (s : Space) (readonly : Bool) (to x : Gentype) → kind.Pointer own s readonly to ≡ kind.Integers x → ⊥
pointer_integers own s readonly to x e = cc

void_integers : (x : Gentype) → kind.Void ≡ kind.Integers x → ⊥
void_integers x e = cc

bool_integers : (x : Gentype) → kind.Bool ≡ kind.Integers x → ⊥
bool_integers x e = cc

vector_kind_shape : (t : TypeId) (n : ℕ) (o : Option Gentype) (g : Gentype) → vector_in t n o ≡ kind.Integers g → vector_shape n o ≡ shape.Integers g
vector_kind_shape t n None g e = absurd (other_integers t g e)
vector_kind_shape t n (Some x) g e = ap shape.Integers (integers_same (record x { count = n }) g e)

pointer_kind_shape : (t : TypeId) (s : Space) (readonly : Bool) (o : Option Gentype) (g : Gentype) → pointer_in t s readonly o ≡ kind.Integers g → ⊥
pointer_kind_shape t s readonly None g e = other_integers t g e
pointer_kind_shape t s readonly (Some x) g e = pointer_integers t s readonly x g e

kind_shape_in : (cs : List ClType) (t : TypeId) (o : Option ClType) (g : Gentype) → kind_in cs t o ≡ kind.Integers g → shape_in cs o ≡ shape.Integers g
kind_shape_in cs t None g e = absurd (other_integers t g e)
kind_shape_in cs t (Some ty.Void) g e = absurd (void_integers g e)
kind_shape_in cs t (Some ty.Bool) g e = absurd (bool_integers g e)
kind_shape_in cs t (Some (ty.Int bits signed)) g e = ap shape.Integers (integers_same (record { bits = bits; signed = signed; count = 1 }) g e)
kind_shape_in cs t (Some (ty.Vector elem n)) g e = vector_kind_shape t n (integer_in (slice_get cs elem.0)) g e
kind_shape_in cs t (Some (ty.Array elem n)) g e = absurd (other_integers t g e)
kind_shape_in cs t (Some (ty.Struct name ms)) g e = absurd (other_integers t g e)
kind_shape_in cs t (Some (ty.Pointer s to readonly restricted)) g e = absurd (pointer_kind_shape t s readonly (integer_in (slice_get cs to.0)) g e)

kind_shape : (cs : List ClType) (t : TypeId) (g : Gentype) → kind_of cs t ≡ kind.Integers g → shape_of cs t ≡ shape.Integers g
kind_shape cs t g e = kind_shape_in cs t (slice_get cs t.0) g e

vector_scalar : (t : TypeId) (n : ℕ) (o : Option Gentype) → is_scalar (vector_in t n o) ≡ true → is_number (vector_shape n o) ≡ true
vector_scalar t n None h = h
vector_scalar t n (Some x) h = h

pointer_scalar : {A : Type 0} (t : TypeId) (s : Space) (readonly : Bool) (o : Option Gentype) → is_scalar (pointer_in t s readonly o) ≡ true → A
pointer_scalar t s readonly None h = false_true h
pointer_scalar t s readonly (Some x) h = false_true h

scalar_in : (cs : List ClType) (t : TypeId) (o : Option ClType) → is_scalar (kind_in cs t o) ≡ true → is_number (shape_in cs o) ≡ true
scalar_in cs t None h = h
scalar_in cs t (Some ty.Void) h = h
scalar_in cs t (Some ty.Bool) h = refl
scalar_in cs t (Some (ty.Int bits signed)) h = refl
scalar_in cs t (Some (ty.Vector elem n)) h = vector_scalar t n (integer_in (slice_get cs elem.0)) h
scalar_in cs t (Some (ty.Array elem n)) h = h
scalar_in cs t (Some (ty.Struct name ms)) h = h
scalar_in cs t (Some (ty.Pointer s to readonly restricted)) h = pointer_scalar t s readonly (integer_in (slice_get cs to.0)) h

scalar_number : (cs : List ClType) (t : TypeId) → is_scalar (kind_of cs t) ≡ true → is_number (shape_of cs t) ≡ true
scalar_number cs t h = scalar_in cs t (slice_get cs t.0) h

-- what a pointer is to the built-in functions has the pointer's own number
pointer_own : (a c : TypeId) (s s2 : Space) (readonly readonly2 : Bool) (to to2 : Gentype) → kind.Pointer a s readonly to ≡ kind.Pointer c s2 readonly2 to2 → a ≡ c
pointer_own a c s s2 readonly readonly2 to to2 e = cc

vector_pointer : (t : TypeId) (n : ℕ) (o : Option Gentype) (own : TypeId) (s : Space) (readonly : Bool) (to : Gentype) → vector_in t n o ≡ kind.Pointer own s readonly to → ⊥
vector_pointer t n None own s readonly to e = cc
vector_pointer t n (Some x) own s readonly to e = cc

own_pointer_in : (t : TypeId) (s2 : Space) (readonly2 : Bool) (o : Option Gentype) (own : TypeId) (s : Space) (readonly : Bool) (to : Gentype) → pointer_in t s2 readonly2 o ≡ kind.Pointer own s readonly to → t ≡ own
own_pointer_in t s2 readonly2 None own s readonly to e = cc
own_pointer_in t s2 readonly2 (Some x) own s readonly to e = pointer_own t own s2 s readonly2 readonly x to e

own_in : (cs : List ClType) (t : TypeId) (o : Option ClType) (own : TypeId) (s : Space) (readonly : Bool) (to : Gentype) → kind_in cs t o ≡ kind.Pointer own s readonly to → t ≡ own
own_in cs t None own s readonly to e = cc
own_in cs t (Some ty.Void) own s readonly to e = cc
own_in cs t (Some ty.Bool) own s readonly to e = cc
own_in cs t (Some (ty.Int bits signed)) own s readonly to e = cc
own_in cs t (Some (ty.Vector elem n)) own s readonly to e = absurd (vector_pointer t n (integer_in (slice_get cs elem.0)) own s readonly to e)
own_in cs t (Some (ty.Array elem n)) own s readonly to e = cc
own_in cs t (Some (ty.Struct name ms)) own s readonly to e = cc
own_in cs t (Some (ty.Pointer s2 to2 readonly2 restricted)) own s readonly to e = own_pointer_in t s2 readonly2 (integer_in (slice_get cs to2.0)) own s readonly to e

own_number : (cs : List ClType) (t own : TypeId) (s : Space) (readonly : Bool) (to : Gentype) → kind_of cs t ≡ kind.Pointer own s readonly to → t ≡ own
own_number cs t own s readonly to e = own_in cs t (slice_get cs t.0) own s readonly to e

-- a pointer's type converts to no integers
pointer_no_scalar : (cs : List ClType) (t : TypeId) (o : Option ClType) (g : Gentype) → is_pointer (shape_in cs o) ≡ true → kinds.converts g (kind_in cs t o) ≡ false
pointer_no_scalar cs t None g h = false_true h
pointer_no_scalar cs t (Some ty.Void) g h = false_true h
pointer_no_scalar cs t (Some ty.Bool) g h = false_true h
pointer_no_scalar cs t (Some (ty.Int bits signed)) g h = false_true h
pointer_no_scalar cs t (Some (ty.Vector elem n)) g h = by (integer_in (slice_get cs elem.0)) h
  where
    by : (o : Option Gentype) → is_pointer (vector_shape n o) ≡ true → kinds.converts g (vector_in t n o) ≡ false
    by None h = false_true h
    by (Some x) h = false_true h
pointer_no_scalar cs t (Some (ty.Array elem n)) g h = false_true h
pointer_no_scalar cs t (Some (ty.Struct name ms)) g h = false_true h
pointer_no_scalar cs t (Some (ty.Pointer s to readonly restricted)) g h = by (integer_in (slice_get cs to.0))
  where
    by : (o : Option Gentype) → kinds.converts g (pointer_in t s readonly o) ≡ false
    by None = refl
    by (Some x) = refl

-- ---- an argument and its parameter

-- what an argument stands for: an array for a pointer, but for an array of arrays
abbrev pub decays : Operand → Bool
decays o = is_array o.shape && is_pointer (seen o) && not (to_array o)

abbrev pub stands_for : Operand → Want
stands_for o = if decays o then want.Of (seen o) else want.Type o.facts.ty

abbrev pub StandFor : List ClType → List Operand → List TypeId → Type 0
StandFor cs [] [] = Unit {0}
StandFor cs (o ∷ os) (t ∷ ts) = IsWanted cs (stands_for o) t × StandFor cs os ts
StandFor cs [] (t ∷ ts) = ⊥
StandFor cs (o ∷ os) [] = ⊥

either : (a c : Bool) → (a || c) ≡ true → a ≡ false → c ≡ true
either true c h n = false_true (sym n)
either false c h n = h

is_kind : (g : Gentype) (k : Kind) → kinds.is_type g k ≡ true → k ≡ kind.Integers g
is_kind g kind.Void h = false_true h
is_kind g kind.Bool h = false_true h
is_kind g (kind.Integers x) h = ap kind.Integers (sym (same_integers g x h))
is_kind g (kind.Pointer own s readonly to) h = false_true h
is_kind g (kind.Other own) h = false_true h

module _ (l : Lists) (b : IsTable l.types) where
  -- an argument that has its own type converts to integers
  own_integers : (f : Facts) (p : TypeId) (g : Gentype) → IsKnown l.types f.ty → kinds.converts g (kind_of l.types f.ty) ≡ true → HasKind l.types (kind.Integers g) p → f.ty ≢ p → converts_to l f p (shape_of l.types p) ≡ true
  own_integers f p g known h k n = by (is_scalar (kind_of l.types f.ty)) refl
    where
      other : is_scalar (kind_of l.types f.ty) ≡ false → f.ty ≡ p
      other s =
          let e = is_kind g (kind_of l.types f.ty) (either (is_scalar (kind_of l.types f.ty)) (kinds.is_type g (kind_of l.types f.ty)) h s) in
          same_number l.types b (shape.Integers g) f.ty p refl known k.known (kind_shape l.types f.ty g e) (kind_shape l.types p g k.is)

      by : (a : Bool) → is_scalar (kind_of l.types f.ty) ≡ a → converts_to l f p (shape_of l.types p) ≡ true
      by true s = number_converts l f g p (scalar_number l.types f.ty s) (kind_shape l.types p g k.is)
      by false s = absurd (n (other s))

  -- the type of an argument that stands for itself, and that of an array that stands for a pointer
  module _ (o : Operand) (t : TypeId) (r : IsReadyOperand l.types o) (w : IsWanted l.types (stands_for o) t) where
    itself : decays o ≡ false → t ≡ o.facts.ty
    itself e = number_wanted l.types o.facts.ty t (subst (λ z. IsWanted l.types (if z then want.Of (seen o) else want.Type o.facts.ty) t) e w)

    as_pointer : decays o ≡ true → IsWanted l.types (want.Of (seen o)) t
    as_pointer e = subst (λ z. IsWanted l.types (if z then want.Of (seen o) else want.Type o.facts.ty) t) e w

    is_seen : decays o ≡ true → is_pointer (seen o) ≡ true
    is_seen e = second_so (is_array o.shape) (is_pointer (seen o)) (first_so (is_array o.shape && is_pointer (seen o)) (not (to_array o)) e)

    integers_converts : (p : TypeId) (g : Gentype) → kinds.converts g (kind_of l.types t) ≡ true → HasKind l.types (kind.Integers g) p → o.facts.ty ≢ p → converts_to l o.facts p (shape_of l.types p) ≡ true
    integers_converts p g h k n = by (decays o) refl
      where
        by : (a : Bool) → decays o ≡ a → converts_to l o.facts p (shape_of l.types p) ≡ true
        by true e = false_true (sym (pointer_no_scalar l.types t (slice_get l.types t.0) g (ap is_pointer (shape_wanted l.types (seen o) t (as_pointer e)) ∙ is_seen e)) ∙ h)
        by false e = own_integers o.facts p g r.known (ap (λ z. kinds.converts g (kind_of l.types z)) (sym (itself e)) ∙ h) k n

    pointer_converts : (p own : TypeId) (s : Space) (readonly : Bool) (to : Gentype) → kind_of l.types t ≡ kind.Pointer own s readonly to → HasKind l.types (kind.Pointer own s readonly to) p → o.facts.ty ≢ p → converts_to l o.facts p (shape_of l.types p) ≡ true
    pointer_converts p own s readonly to h k n = by (decays o) refl
      where
        same : t ≡ p
        same = own_number l.types t own s readonly to h ∙ sym (own_number l.types p own s readonly to k.is)

        by : (a : Bool) → decays o ≡ a → converts_to l o.facts p (shape_of l.types p) ≡ true
        by true e = pointer_convertible l o.facts (seen o) (seen_leads l o r (is_seen e)) p (subst (IsWanted l.types (want.Of (seen o))) same (as_pointer e)) n
        by false e = absurd (n (sym (itself e) ∙ same))

    argument_converts : (k : Kind) (p : TypeId) → IsTaken (kind_of l.types t) k → HasKind l.types k p → o.facts.ty ≢ p → converts_to l o.facts p (shape_of l.types p) ≡ true
    argument_converts (kind.Integers g) p h i n = integers_converts p g h i n
    argument_converts (kind.Pointer own s readonly to) p h i n = pointer_converts p own s readonly to h i n
    argument_converts kind.Void p h i n = absurd h
    argument_converts kind.Bool p h i n = absurd h
    argument_converts (kind.Other own) p h i n = absurd h

  argument_convertible : (o : Operand) (t : TypeId) (k : Kind) (p u : TypeId) → IsReadyOperand l.types o → IsWanted l.types (stands_for o) t → IsTaken (kind_of l.types t) k → HasKind l.types k p → IsWanted l.types (want.Type p) u → o.facts.ty ≢ u → converts_to l o.facts u (shape_of l.types u) ≡ true
  argument_convertible o t k p u r w h i v n =
      let e = number_wanted l.types p u v in
      subst (λ z. converts_to l o.facts z (shape_of l.types z) ≡ true) (sym e) (argument_converts o t r w k p h i (λ f. n (f ∙ sym e)))

  arguments_convert : (os : List Operand) (ts : List TypeId) (ks : List Kind) (ps : List TypeId) → All (IsReadyOperand l.types) os → StandFor l.types os ts → AreTaken (map (kind_of l.types) ts) ks → AllZip (HasKind l.types) ks ps → AreConvertible l (wants_of ps) (map facts_in os)
  arguments_convert [] [] [] [] r w h z = none_converts
  arguments_convert [] [] [] (p ∷ ps) r w h z = absurd z
  arguments_convert [] [] (k ∷ ks) ps r w h z = absurd h
  arguments_convert [] (t ∷ ts) ks ps r w h z = absurd w
  arguments_convert (o ∷ os) [] ks ps r w h z = absurd w
  arguments_convert (o ∷ os) (t ∷ ts) [] ps r w h z = absurd h
  arguments_convert (o ∷ os) (t ∷ ts) (k ∷ ks) [] r w h z = absurd z
  arguments_convert (o ∷ os) (t ∷ ts) (k ∷ ks) (p ∷ ps) r w h z =
      more_convert (want.Type p) (wants_of ps) o.facts (map facts_in os)
      (λ u v n. argument_convertible o t k p u (All-head (IsReadyOperand l.types) o os r) w.0 h.0 z.0 v n)
      (arguments_convert os ts ks ps (All-tail (IsReadyOperand l.types) o os r) w.1 h.1 z.1)

-- ---- what the arguments are behind their conversions

abbrev HaveTypes : List Want → List Facts → Type 0
HaveTypes [] [] = Unit {0}
HaveTypes (w ∷ ws) (g ∷ gs) = HasType w g.ty × HaveTypes ws gs
HaveTypes [] (g ∷ gs) = ⊥
HaveTypes (w ∷ ws) [] = ⊥

after_has : (l : Lists) (w : Want) (f g : Facts) → IsAfter l w f g → HasType w g.ty
after_has l w f g (unasked x) = tt
after_has l w f g (fitting x y h) = has_type l.types x y.ty h
after_has l w f g (changed x y t h) = has_type l.types x t h

after_have : (l : Lists) (ws : List Want) (fs gs : List Facts) → AreAfter l ws fs gs → HaveTypes ws gs
after_have l ws fs gs none = tt
after_have l ws fs gs (more w vs f g xs ys h r) = (after_has l w f g h, after_have l vs xs ys r)

kinds_after : (l : Lists) (ps : List TypeId) (gs : List Facts) → HaveTypes (wants_of ps) gs → map (kind_at l) gs ≡ map (kind_of l.types) ps
kinds_after l [] [] h = refl
kinds_after l [] (g ∷ gs) h = absurd h
kinds_after l (p ∷ ps) [] h = absurd h
kinds_after l (p ∷ ps) (g ∷ gs) h = λ i. kind_of l.types (h.0 i) ∷ kinds_after l ps gs h.1 i

kinds_found : (cs : List ClType) (ks : List Kind) (ps : List TypeId) → AllZip (HasKind cs) ks ps → map (kind_of cs) ps ≡ ks
kinds_found cs [] [] z = refl
kinds_found cs [] (p ∷ ps) z = absurd z
kinds_found cs (k ∷ ks) [] z = absurd z
kinds_found cs (k ∷ ks) (p ∷ ps) z = λ i. z.0.is i ∷ kinds_found cs ks ps z.1 i

-- ---- the call

-- what a name means fits its form
pub found_fits : (name : List ℕ) (old : List ClType) (ts : List TypeId) (cs : List ClType) (found : Found) → Means name old ts cs found → fits_call found.builtin (map (kind_of cs) found.params) (kind_of cs found.result) ≡ true
found_fits name old ts cs found m =
    (λ i. fits_call (m.is.builtin i) (kinds_found cs m.form.params found.params m.is.params i) (m.is.result.is i)) ∙
    named_call_fits name m.entry (map (kind_of old) ts) m.form m.named m.fits

pub built_in_fits : (l : Lists) (name : List ℕ) (os : List Operand) (ts : List TypeId) (found : Found) → IsTable l.types → All (IsReadyOperand l.types) os → StandFor l.types os ts → Means name l.types ts l.types found
    → RuleFits l (operands.value (wants_of found.params) (head.Builtin found.builtin) (want.Type found.result)) (map facts_in os)
built_in_fits l name os ts found b r w m = record {
  converts = arguments_convert l b os ts m.form.params found.params r w (form_takes m.entry.1 (map (kind_of l.types) ts) m.form m.fits) m.is.params;
  gives = λ gs t after h.
      let e = number_wanted l.types found.result t h in
      ap (λ z. when z (value t))
      ((λ i. fits_call found.builtin (kinds_after l found.params gs (after_have l (wants_of found.params) (map facts_in os) gs after) i) (kind_of l.types (e i))) ∙
      found_fits name l.types ts l.types found m);
}
