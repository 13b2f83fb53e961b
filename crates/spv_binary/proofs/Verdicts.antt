-- Each file spells a module or breaks a rule, and so has one answer.
use Rattle.std.proofs.Common.{◌≡◌, ℕ, ◌+◌, ◌%◌, ◌≤◌, ◌<◌, ◌==◌, ◌⊎◌, false, List, [], ◌∷◌, ◌++◌, length, drop, zero, suc, Result, Ok, Err, refl, sym, ap, subst, ◌∙◌, arith, inl, inr}
use Rattle.std.specs.List.{AllByRecursion}
use Rattle.std.proofs.lemmas.Bool.{cases_lt}
use Rattle.std.proofs.lemmas.Bool.Decides.{nat_tests}
use Rattle.std.proofs.lemmas.List.{length-drop}
use Rattle.spv_module.specs.declared.module.Module.{Module}
use Rattle.spv_module.specs.declared.module.Inst.{Inst}
use Rattle.spv_module.specs.declared.module.TheConstants.{MAX_BYTES}
use Rattle.spv_module.specs.Words.{IsWord, Spells}
use Rattle.spv_binary.specs.declared.stop.ReadStop.{ReadStop}
use Rattle.spv_binary.specs.declared.stop.ReadStop.TheVariants as stops
use Rattle.spv_binary.specs.Faults.{Fault, fault, count_of, words_of, Broken, IsFirst}
use Rattle.spv_binary.specs.Reading.{inst_at, header_at, IsBody, IsBodyFault}
use Rattle.spv_binary.specs.RoundTrip.{AreBytes, SpelledOrBroken, AnsweredOnce}
use Rattle.spv_binary.proofs.Bodies.{IsReadingBody, IsReadingBody-start, reading_more, first_in_body, body_count, body_ends}
use Rattle.spv_binary.proofs.Files.{long_fault, header_fault, inst_fault, ragged_fault, module_found, Spells-clean, Spells-unique}
use Rattle.spv_binary.proofs.OperandLists.{words-drop}
use Rattle.spv_binary.proofs.Orders.{words_of-fit}

result_cases : {A B : Type 0} (r : Result A B) → ((x : A) × (r ≡ Ok x)) ⊎ ((e : B) × (r ≡ Err e))
result_cases (Ok x) = inl (x, refl)
result_cases (Err e) = inr (e, refl)

-- ---- instructions

abbrev BodyVerdict : ℕ → List ℕ → Type 0
BodyVerdict bound words = ((body : List Inst) × IsBody bound words body) ⊎ ((f : Fault) × IsBodyFault bound words f)

not_empty : (first : ℕ) (others : List ℕ) → (length (first ∷ others) == 0) ≡ false
not_empty first others = grind (arith, nat_tests)

verdict_from : (fuel bound : ℕ) (words : List ℕ) (body : List Inst) (at : ℕ) (rest : List ℕ) → length rest ≤ fuel → IsReadingBody bound words body at rest → BodyVerdict bound words
verdict_from fuel bound words body at [] small p = inl (body, body_ends bound words body at [] p refl)
verdict_from zero bound words body at (first ∷ others) small p = absurd (omega arith)
verdict_from (suc fuel) bound words body at (first ∷ others) small p =
    elim (result_cases (inst_at bound at (first ∷ others))) [
      | inl read ↦
          let n = count_of first in
          let h = body_count bound words body at (first ∷ others) read.0 n p (not_empty first others) read.1 refl in
          verdict_from fuel bound words (body ++ read.0 ∷ []) (at + n) (drop n (first ∷ others)) (omega (arith, length-drop n (first ∷ others), h.0, h.1)) (reading_more bound words body at first others read.0 p read.1)
      | inr bad ↦ inr (bad.0, first_in_body bound words body at (first ∷ others) bad.0 p (not_empty first others) bad.1)
    ]

body_verdict : (bound : ℕ) (words : List ℕ) → AllByRecursion IsWord words → BodyVerdict bound words
body_verdict bound words fit = verdict_from (length words) bound words [] 5 words (omega arith) (IsReadingBody-start bound words fit)

-- ---- files

abbrev Verdict : List ℕ → Type 0
Verdict bytes = ((m : Module) × Spells m bytes) ⊎ ((f : Fault) × IsFirst (Broken bytes) f)

whole_or_not : (n : ℕ) → (n ≡ 0) ⊎ (n ≡ 0 → ⊥)
whole_or_not zero = inl refl
whole_or_not (suc n) = inr (λ e. absurd (omega arith))

end_verdict : (bytes : List ℕ) (g b : ℕ) (body : List Inst) → AreBytes bytes → length bytes ≤ MAX_BYTES → header_at (words_of bytes) ≡ Ok (g, b) → IsBody b (drop 5 (words_of bytes)) body → Verdict bytes
end_verdict bytes g b body fit small e read =
    elim (whole_or_not (length bytes % 4)) [
      | inl whole ↦ inl (_, module_found bytes g b body fit small e read whole)
      | inr odd ↦ inr (_, ragged_fault bytes g b body small e read odd)
    ]

small_verdict : (bytes : List ℕ) → AreBytes bytes → length bytes ≤ MAX_BYTES → Verdict bytes
small_verdict bytes fit small =
    let ws = words_of bytes in
    elim (result_cases (header_at ws)) [
      | inl h ↦
          elim (body_verdict h.0.1 (drop 5 ws) (words-drop 5 ws (words_of-fit bytes fit))) [
            | inl read ↦ end_verdict bytes h.0.0 h.0.1 read.0 fit small h.1 read.1
            | inr bad ↦ inr (bad.0, inst_fault bytes h.0.0 h.0.1 bad.0 small h.1 bad.1)
          ]
      | inr bad ↦ inr (bad.0, header_fault bytes bad.0 small bad.1)
    ]

pub spelled_or_broken : SpelledOrBroken
spelled_or_broken bytes fit =
    elim (cases_lt MAX_BYTES (length bytes)) [
      | inl long ↦ inr (_, long_fault bytes long)
      | inr small ↦ small_verdict bytes fit small
    ]

-- ---- answers

abbrev stopped : ReadStop → Result Module ReadStop
stopped s = Err s

-- of two first faults each is at no later word, and there has no greater number
same_fault : (bytes : List ℕ) (n w m v : ℕ) → IsFirst (Broken bytes) (fault n w) → IsFirst (Broken bytes) (fault m v) → stopped (stops.Fault n w) ≡ stopped (stops.Fault m v)
same_fault bytes n w m v p q =
    let a = p.earliest (fault m v) q.fault in
    let b = q.earliest (fault n w) p.fault in
    let word : w ≡ v = omega arith in
    let c = p.least (fault m v) q.fault (sym word) in
    let d = q.least (fault n w) p.fault word in
    let number : n ≡ m = omega arith in
    ap (λ k. stopped (stops.Fault k w)) number ∙ ap (λ k. stopped (stops.Fault m k)) word

pub answered_once : AnsweredOnce
answered_once bytes (Err stops.NoMemory) s p q = inl refl
answered_once bytes (Ok m) (Err stops.NoMemory) p q = inr (inl refl)
answered_once bytes (Err (stops.Fault n w)) (Err stops.NoMemory) p q = inr (inl refl)
answered_once bytes (Ok m) (Ok n) p q = inr (inr (ap Ok (Spells-unique m n bytes p.0 q.0)))
answered_once bytes (Ok m) (Err (stops.Fault n w)) p q = absurd (Spells-clean m bytes (fault n w) p.0 q.1.fault)
answered_once bytes (Err (stops.Fault n w)) (Ok m) p q = absurd (Spells-clean m bytes (fault n w) q.0 p.1.fault)
answered_once bytes (Err (stops.Fault n w)) (Err (stops.Fault m v)) p q = inr (inr (same_fault bytes n w m v p.1 q.1))
