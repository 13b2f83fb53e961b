-- A number past those of the marks.
use Rattle.std.proofs.Common.{◌≡◌, ℕ, ◌≤◌, [], refl, sym, ap, ◌∙◌, arith}
use Rattle.std.specs.Prelude.{unwrap_or, length}
use Rattle.std.proofs.lemmas.List.{get_or_past}
use Rattle.cl_lexer.specs.Marks.{marks}
use Rattle.cl_grammar.specs.declared.terminal.Terminal.TheVariants as t
use Rattle.cl_grammar.specs.Words.{meaning_among}
use Rattle.cl_grammar.specs.Lexemes.{mark_meanings, terminal_of_mark}

marks_count : length marks ≡ 46
unfolding marks
marks_count = refl

nothing_means_stray : unwrap_or (meaning_among mark_meanings []) t.Stray ≡ t.Stray
unfolding mark_meanings
nothing_means_stray = refl

pub no_mark : (n : ℕ) → 46 ≤ n → t.Stray ≡ terminal_of_mark n
unfolding terminal_of_mark
no_mark n past = sym (ap (λ m. unwrap_or (meaning_among mark_meanings m) t.Stray) (get_or_past marks n [] (omega (arith, marks_count, past))) ∙ nothing_means_stray)
