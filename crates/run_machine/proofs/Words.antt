-- Words of instructions.
use Rattle.std.proofs.Common.{◌≡◌, ℕ, zero, suc, ◌+◌, ◌≤◌, List, [], ◌∷◌, sym, ap, ◌∙◌, length, take, arith}
use Rattle.std.specs.List.{flat_map}
use Rattle.std.proofs.lemmas.List.{length-append, take_all}
use Rattle.spv_module.specs.declared.module.Inst.{Inst}
use Rattle.spv_module.specs.Words.{inst_words}
use Rattle.spv_module.specs.Interface.{word_at}

fewer : (body : List Inst) (place : ℕ) → length (flat_map inst_words (take place body)) ≤ length (flat_map inst_words body)
fewer [] zero = omega arith
fewer [] (suc place) = omega arith
fewer (i ∷ is) zero = omega arith
fewer (i ∷ is) (suc place) =
    let e = length-append (inst_words i) (flat_map inst_words (take place is)) in
    let f = length-append (inst_words i) (flat_map inst_words is) in
    let h = fewer is place in
    omega (arith, e, f, h)

pub words_within : (body : List Inst) (place : ℕ) → word_at body place ≤ word_at body (length body)
words_within body place =
    let e : length (flat_map inst_words (take (length body) body)) ≡ length (flat_map inst_words body) = ap (λ b. length (flat_map inst_words b)) (take_all (length body) body (omega arith)) in
    let h = fewer body place in
    omega (arith, e, h)

pub words_past : (body : List Inst) (place : ℕ) → length body ≤ place → word_at body (length body) ≡ word_at body place
words_past body place h = ap (λ b. 5 + length (flat_map inst_words b)) (take_all (length body) body (omega arith) ∙ sym (take_all place body h))

pub ruleset trapping = (words_within, words_past)
