-- The scalars of a type, one after another.
use Rattle.std.proofs.Common.{◌≡◌, ◌≤◌, ◌<◌, ◌+◌, ◌*◌, ◌/◌, ◌∙◌, ℕ, zero, suc, List, [], ◌∷◌, ◌++◌, length, Some, None, ap, sym, arith, append_assoc}
use Rattle.std.proofs.lemmas.List.{append-nil, map-append}
use Rattle.spv_module.specs.declared.module.Inst.{Inst}
use Rattle.spv_module.specs.declared.module.Operand.{Operand}
use Rattle.spv_module.specs.Instructions.{ids}
use Rattle.vk_bind.specs.declared.elements.Scalar.{Scalar}
use Rattle.vk_bind.specs.Answers.{scalar_of, scalars_of}
use Rattle.vk_bind.specs.Elements.{Laid, offset_in, scalars_from, member_laid, members_laid}

-- what was found, and what is left, are the whole
abbrev pub Completes : List Scalar → List (ℕ × ℕ) → List (ℕ × ℕ) → Type 0
Completes found rest whole = scalars_of found ++ rest ≡ whole

pub scalars_more : (found more : List Scalar) (width left next place step : ℕ) (whole : List (ℕ × ℕ)) → suc left ≡ next → step ≡ width / 8 → more ≡ found ++ (record { offset = place; bits = width }) ∷ [] → Completes found (scalars_from width next place) whole → Completes more (scalars_from width left (place + step)) whole
scalars_more found more width left next place step whole one size push h =
    let s : Scalar = record { offset = place; bits = width } in
    ap (λ k. scalars_of more ++ scalars_from width left (place + k)) size
    ∙ ap (λ m. scalars_of m ++ scalars_from width left (place + width / 8)) push
    ∙ ap (λ f. f ++ scalars_from width left (place + width / 8)) (map-append scalar_of found (s ∷ []))
    ∙ append_assoc (scalars_of found) (scalar_of s ∷ []) (scalars_from width left (place + width / 8))
    ∙ ap (λ k. scalars_of found ++ scalars_from width k place) one
    ∙ h

pub room_left : (place step left next width end : ℕ) → suc left ≡ next → step ≡ width / 8 → width < 4294967296 → place + next * 536870912 ≤ end → place + step + left * 536870912 ≤ end
room_left place step left next width end one size low h = omega (arith, one, size, low, h)

pub scalars_end : (found : List Scalar) (width left place : ℕ) (whole : List (ℕ × ℕ)) → left ≤ 0 → Completes found (scalars_from width left place) whole → scalars_of found ≡ whole
scalars_end found width zero place whole none h = sym (append-nil (scalars_of found)) ∙ h
scalars_end found width (suc left) place whole none h = absurd (omega (arith, none))

pub members_more : (body : List Inst) (inner : Laid) (struct at n m id offset : ℕ) (behind : List ℕ) (found more : List Scalar) (whole : List (ℕ × ℕ)) → Some offset ≡ offset_in body struct n → scalars_of more ≡ scalars_of found ++ inner id (at + offset) → m ≡ n + 1 → Completes found (members_laid body inner struct at n (id ∷ behind)) whole → Completes more (members_laid body inner struct at m behind) whole
members_more body inner struct at n m id offset behind found more whole there add next h =
    ap (λ k. scalars_of more ++ members_laid body inner struct at k behind) next
    ∙ ap (λ f. f ++ members_laid body inner struct at (n + 1) behind) add
    ∙ append_assoc (scalars_of found) (inner id (at + offset)) (members_laid body inner struct at (n + 1) behind)
    ∙ ap (λ o. scalars_of found ++ (member_laid inner o id at ++ members_laid body inner struct at (n + 1) behind)) there
    ∙ h

pub members_skip : (body : List Inst) (inner : Laid) (struct at n m id : ℕ) (behind : List ℕ) (found : List Scalar) (whole : List (ℕ × ℕ)) → None ≡ offset_in body struct n → m ≡ n + 1 → Completes found (members_laid body inner struct at n (id ∷ behind)) whole → Completes found (members_laid body inner struct at m behind) whole
members_skip body inner struct at n m id behind found whole none next h =
    ap (λ k. scalars_of found ++ members_laid body inner struct at k behind) next
    ∙ ap (λ o. scalars_of found ++ (member_laid inner o id at ++ members_laid body inner struct at (n + 1) behind)) none
    ∙ h

pub members_end : (body : List Inst) (inner : Laid) (struct at n : ℕ) (rest : List Operand) (found : List Scalar) (whole : List (ℕ × ℕ)) → length rest < 1 → Completes found (members_laid body inner struct at n (ids rest)) whole → scalars_of found ≡ whole
members_end body inner struct at n [] found whole none h = sym (append-nil (scalars_of found)) ∙ h
members_end body inner struct at n (o ∷ os) found whole none h = absurd (omega (arith, none))
