-- The trees of a table's types where a type has no size, or a struct has no such member, and the scalars of all types.
use Rattle.std.proofs.Common.{◌≡◌, ◌⊎◌, inl, inr, ℕ, zero, suc, ◌+◌, ◌<◌, ◌≤◌, Bool, false, true≢false, Option, Some, None, List, [], ◌∷◌, ◌++◌, length, slice_get, refl, sym, ap, ◌∙◌, subst, arith}
use Rattle.std.proofs.lemmas.List.{length-append}
use Rattle.std.proofs.lemmas.Bool.{cases_lt}
use Rattle.cl_types.specs.declared.types.ClType.{ClType}
use Rattle.cl_types.specs.declared.types.ClType.TheVariants as ty
use Rattle.cl_types.specs.declared.types.Member.{Member}
use Rattle.cl_types.specs.declared.scalars.Scalar.{Scalar as Slot}
use Rattle.cl_types.specs.Layout.{TypeTree, Void, size_of, offset_of, offset_in, scalars_of, up, align_of}
use Rattle.cl_types.specs.Table.{tree_at, trees_at, tree_from, trees_after, trees, tree_of, is_sized, member_count}
use Rattle.cl_types.proofs.Rows.{tree_left, tree_last, trees_length}
use Rattle.cl_meaning.specs.Slots.{AreSlots}

tree_past : (ts : List TypeTree) (i : ℕ) → length ts ≤ i → tree_at ts i ≡ Void
tree_past [] i h = refl
tree_past (t ∷ ts) zero h = absurd (omega arith)
tree_past (t ∷ ts) (suc i) h = tree_past ts i (omega arith)

get_past : {A : Type 0} (xs : List A) (i : ℕ) → slice_get xs i ≡ None → length xs ≤ i
get_past [] i e = omega arith
get_past (x ∷ xs) zero e = absurd (cc)
get_past (x ∷ xs) (suc i) e = let h : length xs ≤ i = get_past xs i e in omega arith

past : (cs : List ClType) (t : ℕ) → length cs ≤ t → tree_of cs t ≡ Void
past cs t h = tree_past (trees cs) t (omega (arith, trees_length cs))

keeps : (ts : List TypeTree) (cs : List ClType) (i : ℕ) → i < length ts → tree_at (trees_after ts cs) i ≡ tree_at ts i
keeps ts [] i h = refl
keeps ts (c ∷ cs) i h = keeps (ts ++ tree_from ts c ∷ []) cs i (omega (arith, length-append ts (tree_from ts c ∷ []))) ∙ tree_left ts (tree_from ts c ∷ []) i h

-- a type's tree is made of some trees
made_after : (ts : List TypeTree) (cs : List ClType) (i : ℕ) (c : ClType) → slice_get cs i ≡ Some c → (us : List TypeTree) × (tree_at (trees_after ts cs) (length ts + i) ≡ tree_from us c)
made_after ts [] i c e = absurd (cc)
made_after ts (d ∷ cs) zero c e =
    let same : d ≡ c = cc in
    (ts, ap (tree_at (trees_after (ts ++ tree_from ts d ∷ []) cs)) (omega arith) ∙ keeps (ts ++ tree_from ts d ∷ []) cs (length ts) (omega (arith, length-append ts (tree_from ts d ∷ []))) ∙ tree_last ts (tree_from ts d) ∙ ap (tree_from ts) same)
made_after ts (d ∷ cs) (suc i) c e =
    let w = made_after (ts ++ tree_from ts d ∷ []) cs i c e in
    (w.0, ap (tree_at (trees_after (ts ++ tree_from ts d ∷ []) cs)) (omega (arith, length-append ts (tree_from ts d ∷ []))) ∙ w.1)

made : (cs : List ClType) (i : ℕ) (c : ClType) → slice_get cs i ≡ Some c → (us : List TypeTree) × (tree_of cs i ≡ tree_from us c)
made cs i c e = let w = made_after [] cs i c e in (w.0, ap (tree_at (trees cs)) (omega arith) ∙ w.1)

unsized : (cs : List ClType) (t : ℕ) → is_sized (slice_get cs t) ≡ false → tree_of cs t ≡ Void
unsized cs t f = by (slice_get cs t) refl f
  where
    by : (o : Option ClType) → slice_get cs t ≡ o → is_sized o ≡ false → tree_of cs t ≡ Void
    by None e h = past cs t (get_past cs t e)
    by (Some ty.Void) e h = (made cs t ty.Void e).1
    by (Some ty.Bool) e h = absurd (true≢false h)
    by (Some (ty.Int bits signed)) e h = absurd (true≢false h)
    by (Some (ty.Vector elem n)) e h = absurd (true≢false h)
    by (Some (ty.Array elem len)) e h = absurd (true≢false h)
    by (Some (ty.Struct name members)) e h = absurd (true≢false h)
    by (Some (ty.Pointer space to readonly restricted)) e h = absurd (true≢false h)

pub no_size : (cs : List ClType) (t : ℕ) (r : Bool) → r ≡ is_sized (slice_get cs t) → r ≡ false → 0 ≡ size_of (tree_of cs t)
no_size cs t r is h = sym (ap size_of (unsized cs t (sym is ∙ h)))

pub no_scalars : (cs : List ClType) (t : ℕ) (r : Bool) (slots : List Slot) → r ≡ is_sized (slice_get cs t) → r ≡ false → slots ≡ [] → slots ≡ scalars_of (tree_of cs t)
no_scalars cs t r slots is h e = e ∙ sym (ap scalars_of (unsized cs t (sym is ∙ h)))

pub no_slots : (cs : List ClType) (slots : List (List Slot)) (t : ℕ) → AreSlots cs slots → length slots ≤ t → [] ≡ scalars_of (tree_of cs t)
no_slots cs slots t are h = sym (ap scalars_of (past cs t (omega (arith, are.0))))

no_member : (us : List TypeTree) (ms : List Member) (at k : ℕ) → length ms ≤ k → offset_in (trees_at us ms) at k ≡ 0
no_member us [] at k h = refl
no_member us (m ∷ ms) at zero h = absurd (omega arith)
no_member us (m ∷ ms) at (suc k) h = no_member us ms (up (align_of (tree_at us m.ty.0)) at + size_of (tree_at us m.ty.0)) k (omega arith)

pub no_offset : (cs : List ClType) (t k n : ℕ) → n ≡ member_count (slice_get cs t) → n ≤ k → 0 ≡ offset_of (tree_of cs t) k
no_offset cs t k n is h = by (slice_get cs t) refl (subst (λ z. z ≤ k) is h)
  where
    of : (c : ClType) (us : List TypeTree) → member_count (Some c) ≤ k → offset_of (tree_from us c) k ≡ 0
    of ty.Void us g = refl
    of ty.Bool us g = refl
    of (ty.Int bits signed) us g = refl
    of (ty.Vector elem m) us g = refl
    of (ty.Array elem len) us g = refl
    of (ty.Struct name members) us g = no_member us members 0 k g
    of (ty.Pointer space to readonly restricted) us g = refl

    by : (o : Option ClType) → slice_get cs t ≡ o → member_count o ≤ k → 0 ≡ offset_of (tree_of cs t) k
    by None e g = sym (ap (λ z. offset_of z k) (past cs t (get_past cs t e)))
    by (Some c) e g = let w = made cs t c e in sym (ap (λ z. offset_of z k) w.1 ∙ of c w.0 g)

pub record SlotsTo (cs : List ClType) (n : ℕ) (slots : List (List Slot)) : Type 0 where
  pub many : length slots ≡ n
  pub each : (t : ℕ) → t < n → slice_get slots t ≡ Some (scalars_of (tree_of cs t))

pub slots_begin : (cs : List ClType) → SlotsTo cs 0 []
slots_begin cs = record { many = refl; each = λ t h. absurd (omega arith) }

get_front : {A : Type 0} (xs : List A) (x : A) (t : ℕ) → t < length xs → slice_get (xs ++ x ∷ []) t ≡ slice_get xs t
get_front [] x t h = absurd (omega arith)
get_front (y ∷ xs) x zero h = refl
get_front (y ∷ xs) x (suc t) h = get_front xs x t (omega arith)

get_last : {A : Type 0} (xs : List A) (x : A) (t : ℕ) → length xs ≡ t → slice_get (xs ++ x ∷ []) t ≡ Some x
get_last [] x zero h = refl
get_last [] x (suc t) h = absurd (omega arith)
get_last (y ∷ xs) x zero h = absurd (omega arith)
get_last (y ∷ xs) x (suc t) h = get_last xs x t (omega arith)

pub slots_more : (cs : List ClType) (n : ℕ) (slots new : List (List Slot)) (s : List Slot) → SlotsTo cs n slots → new ≡ slots ++ s ∷ [] → s ≡ scalars_of (tree_of cs n) → SlotsTo cs (n + 1) new
slots_more cs n slots new s to e is = record {
  many = ap length e ∙ length-append slots (s ∷ []) ∙ omega (arith, to.many);
  each = λ t h. ap (λ z. slice_get z t) e ∙ by t (cases_lt t n) h;
}
  where
    by : (t : ℕ) → (t < n) ⊎ (n ≤ t) → t < n + 1 → slice_get (slots ++ s ∷ []) t ≡ Some (scalars_of (tree_of cs t))
    by t (inl g) h = get_front slots s t (omega (arith, to.many)) ∙ to.each t g
    by t (inr g) h = let at : n ≡ t = omega arith in get_last slots s t (omega (arith, to.many)) ∙ ap Some (is ∙ ap (λ z. scalars_of (tree_of cs z)) at)

pub slots_all : (cs : List ClType) (n : ℕ) (slots : List (List Slot)) → SlotsTo cs n slots → n ≤ length cs → length cs ≤ n → AreSlots cs slots
slots_all cs n slots to h g = (omega (arith, to.many), λ t i. to.each t (omega arith))

pub ruleset unsized_types = (no_size, no_scalars, no_slots, no_offset)

pub ruleset all_slots = (slots_begin, slots_more, slots_all)
