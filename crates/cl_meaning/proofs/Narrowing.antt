-- The scalars of a table's types have at most 64 bits.
use Rattle.std.proofs.Common.{◌≡◌, inl, inr, ℕ, zero, suc, ◌≤◌, Option, Some, None, List, [], ◌∷◌, length, slice_get, refl, sym, ap, subst, arith, Contains}
use Rattle.std.proofs.lemmas.Bool.{cases_lt}
use Rattle.std.proofs.lemmas.Option.{slice_get_within, get_or_from_slice_get}
use Rattle.cl_types.specs.declared.types.ClType.{ClType}
use Rattle.cl_types.specs.declared.types.TypeId.{TypeId}
use Rattle.cl_types.specs.declared.scalars.Scalar.{Scalar as Slot}
use Rattle.cl_types.specs.Layout.{TypeTree, Void, Scalar, scalars_of, IsSound}
use Rattle.cl_types.specs.Table.{IsTable, tree_at, trees, tree_of}
use Rattle.cl_types.proofs.Places.{Width, byte, half, word, long, width_is, place_sound, scalars_are_places}
use Rattle.cl_types.proofs.Rows.{trees_length, types_are_sound}
use Rattle.cl_common.specs.Types.{slots_at}
use Rattle.cl_meaning.specs.Effects.{bits_in, part_by, part_in}

width_low : (bits : ℕ) → Width bits → bits ≤ 64
width_low _ byte = omega arith
width_low _ half = omega arith
width_low _ word = omega arith
width_low _ long = omega arith

slot_low : (t : TypeTree) (s : Slot) → IsSound t → Contains (scalars_of t) s → s.bits ≤ 64
slot_low t s h there = width_low s.bits (width_is s.bits (place_sound t s.path s.offset (Scalar s.bits) h (scalars_are_places t s there)))

tree_past : (ts : List TypeTree) (i : ℕ) → length ts ≤ i → tree_at ts i ≡ Void
tree_past [] i h = refl
tree_past (t ∷ ts) zero h = absurd (omega arith)
tree_past (t ∷ ts) (suc i) h = tree_past ts i (omega arith)

tree_sound : (cs : List ClType) (t : ℕ) → IsTable cs → IsSound (tree_of cs t)
tree_sound cs t h = elim (cases_lt t (length cs)) [
  | inl low ↦ types_are_sound cs t h low
  | inr high ↦ subst IsSound (sym (tree_past (trees cs) t (omega (arith, trees_length cs)))) tt
]

slot_at_low : (cs : List ClType) (ty : TypeId) (k : ℕ) (s : Slot) → IsTable cs → slice_get (slots_at cs ty) k ≡ Some s → s.bits ≤ 64
slot_at_low cs ty k s h e = slot_low (tree_of cs ty.0) s (tree_sound cs ty.0 h) (k, slice_get_within (slots_at cs ty) k s e, get_or_from_slice_get (slots_at cs ty) k s s e)

pub narrow_part : (cs : List ClType) (ty : TypeId) (at : Option (List ℕ)) (k : ℕ) → IsTable cs → (part_in cs ty at k).bits ≤ 64
narrow_part cs ty None k h = by (slice_get (slots_at cs ty) k) refl
  where
    by : (o : Option Slot) → slice_get (slots_at cs ty) k ≡ o → (part_by o).bits ≤ 64
    by None e = omega arith
    by (Some s) e = slot_at_low cs ty k s h e
narrow_part cs ty (Some at) k h = by (slots_at cs ty) refl
  where
    by : (slots : List Slot) → slots_at cs ty ≡ slots → bits_in slots ≤ 64
    by [] e = omega arith
    by (s ∷ ss) e = slot_at_low cs ty 0 s h (ap (λ z. slice_get z 0) e)
