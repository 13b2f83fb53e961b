-- Where the definitions have the parts of `struct { char c; int3 v; short s; }`: c at 0, v at 16 and s at 32, of 48 bytes.
use Rattle.std.proofs.Common.{◌≡◌, ℕ, ◌&&◌, true, false, List, [], ◌∷◌, Some, None, refl, sym, subst}
use Rattle.spv_module.specs.declared.module.Inst.{Inst}
use Rattle.std.specs.Prelude.{if◌then◌else◌}
use Rattle.spv_value.specs.Sample.{sample}
use Rattle.spv_value.specs.Views.{Reading, number_at, width_in, offset_in, elements_stand, members_stand, fits_within, covers_within}

widths : width_in sample 1 ∷ width_in sample 2 ∷ width_in sample 3 ∷ width_in sample 4 ∷ [] ≡ Some 8 ∷ Some 32 ∷ Some 16 ∷ None ∷ []
widths = refl

offsets : offset_in sample 5 0 ∷ offset_in sample 5 1 ∷ offset_in sample 5 2 ∷ offset_in sample 5 3 ∷ [] ≡ Some 0 ∷ Some 16 ∷ Some 32 ∷ None ∷ []
offsets = refl

lowest_first : number_at (9 ∷ 1 ∷ 2 ∷ 3 ∷ 4 ∷ []) 1 4 ≡ 67305985
lowest_first = refl

-- the parts of a struct at 100, and of its vector at 16
module _ (c v s : Reading) where
  struct_parts : members_stand sample 5 100 0 (1 ∷ 4 ∷ 3 ∷ []) (c ∷ v ∷ s ∷ []) ≡ (c 1 100 && (v 4 116 && (s 3 132 && true)))
  struct_parts = refl

  vector_parts : elements_stand 2 4 3 16 (c ∷ v ∷ s ∷ []) ≡ (c 2 16 && (v 2 20 && (s 2 24 && true)))
  vector_parts = refl

  too_few : members_stand sample 5 0 0 (1 ∷ 4 ∷ 3 ∷ []) (c ∷ []) ≡ (c 1 0 && false)
  too_few = refl

-- the last scalar ends at 34; an array has no layout, and nothing in no depth
layouts : fits_within 18 sample 5 0 48 ∷ fits_within 18 sample 5 0 34 ∷ fits_within 18 sample 5 0 33 ∷ fits_within 18 sample 6 0 48 ∷ fits_within 1 sample 5 0 48 ∷ [] ≡ true ∷ true ∷ false ∷ false ∷ false ∷ []
layouts = refl

abbrev covered_below : ℕ → List ℕ → List ℕ
covered_below t [] = []
covered_below t (k ∷ ks) = if covers_within 18 sample t 0 k then k ∷ covered_below t ks else covered_below t ks

-- padding is not covered
covered : covered_below 5 (0 ∷ 1 ∷ 15 ∷ 16 ∷ 19 ∷ 20 ∷ 27 ∷ 28 ∷ 31 ∷ 32 ∷ 33 ∷ 34 ∷ 47 ∷ []) ≡ 0 ∷ 16 ∷ 19 ∷ 20 ∷ 27 ∷ 32 ∷ 33 ∷ []
covered = refl

pub sample_layout : (body : List Inst) (n : ℕ) → body ≡ sample → n ≡ 48 → fits_within 18 body 5 0 n ≡ true
sample_layout body n e h = subst (λ b. fits_within 18 b 5 0 n ≡ true) (sym e) (subst (λ m. fits_within 18 sample 5 0 m ≡ true) (sym h) refl)
