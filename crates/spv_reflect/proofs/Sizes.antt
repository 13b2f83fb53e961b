-- The first word of an instruction of a module has an index of 32 bits.
use Rattle.std.proofs.Common.{◌≡◌, ℕ, ◌+◌, ◌^◌, ◌<◌, List, length, take, drop, sym, ap, ◌∙◌, arith, length-append}
use Rattle.std.proofs.lemmas.List.{take-append-drop}
use Rattle.std.proofs.lemmas.List.Concat.{flat_map-append}
use Rattle.spv_module.proofs.Lengths.{length-string_words}
use Rattle.spv_module.specs.declared.module.Module.{Module}
use Rattle.spv_module.specs.declared.module.Inst.{Inst}
use Rattle.spv_module.specs.Interface.{word_at}
use Rattle.spv_module.specs.Words.{inst_words, body_words, module_words}

parted : (body : List Inst) (place : ℕ) → length (body_words body) ≡ length (body_words (take place body)) + length (body_words (drop place body))
parted body place =
    ap (λ b. length (body_words b)) (sym (take-append-drop place body))
    ∙ ap length (flat_map-append inst_words (take place body) (drop place body))
    ∙ length-append (body_words (take place body)) (body_words (drop place body))

pub small_word : (m : Module) (place : ℕ) → length (module_words m) < 2 ^ 32 → word_at m.body place < 2 ^ 32
small_word m place h = omega (arith, parted m.body place, h)

-- how long the words of the strings are that tests write
pub ruleset string_lengths = (length-string_words)
