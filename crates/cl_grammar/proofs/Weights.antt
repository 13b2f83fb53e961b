-- The first token that is over, one token later.
use Rattle.std.proofs.Common.{◌≡◌, ℕ, zero, suc, ◌+◌, ◌<◌, ◌≤◌, Bool, true, false, Some, None, List, [], ◌∷◌, length, get_or, drop, refl, sym, ap, ◌∙◌, arith, add-one, drop-cons}
use Rattle.std.specs.Prelude.{if◌then◌else◌, nat_lt, slice_get, sum}
use Rattle.std.proofs.lemmas.List.{drop_all}
use Rattle.cl_grammar.specs.declared.lexeme.Lexeme.{Lexeme}
use Rattle.cl_grammar.specs.Weights.{raised, bracketed, parted, counters_behind, first_over_from, first_over, begins_else, is_else}

pub record SoLight (lexemes : List Lexeme) (at : ℕ) (counters : List ℕ) : Type 0 where
  pub goes_on : first_over_from at counters (drop at lexemes) ≡ first_over lexemes
  pub light : sum counters ≤ 256

pub so_light_begins : (lexemes : List Lexeme) → SoLight lexemes 0 (0 ∷ [])
unfolding first_over
so_light_begins lexemes = record { goes_on = refl; light = omega arith }

pub so_light_ends : (lexemes : List Lexeme) (at : ℕ) (counters : List ℕ) → length lexemes ≤ at → SoLight lexemes at counters → None ≡ first_over lexemes
so_light_ends lexemes at counters past so = sym (ap (first_over_from at counters) (drop_all at lexemes past)) ∙ so.goes_on

first_rest : (lexemes : List Lexeme) (at : ℕ) (l : Lexeme) → at < length lexemes → l ≡ get_or lexemes at l → drop at lexemes ≡ l ∷ drop (at + 1) lexemes
first_rest lexemes at l within is = drop-cons lexemes at l within ∙ ap (λ k. k ∷ drop (suc at) lexemes) (sym is) ∙ ap (λ n. l ∷ drop n lexemes) (sym (add-one at))

over_step : (at : ℕ) (counters : List ℕ) (l : Lexeme) (ls : List Lexeme) (b : Bool) → nat_lt 256 (sum (raised l.terminal counters)) ≡ b → (first_over_from at counters (l ∷ ls)) ≡ (if b then Some at else first_over_from (at + 1) (counters_behind l.terminal ls counters) ls)
over_step at counters l ls b e = ap (λ b. if b then Some at else first_over_from (at + 1) (counters_behind l.terminal ls counters) ls) e

pub over_here : (lexemes : List Lexeme) (at : ℕ) (counters new : List ℕ) (l : Lexeme) → at < length lexemes → l ≡ get_or lexemes at l → SoLight lexemes at counters → new ≡ raised l.terminal counters → 256 < sum new → Some at ≡ first_over lexemes
over_here lexemes at counters new l within is so raises over =
    let test : nat_lt 256 (sum (raised l.terminal counters)) ≡ true = rw (← raises) (grind (arith, over)) in
    sym (over_step at counters l (drop (at + 1) lexemes) true test) ∙ ap (first_over_from at counters) (sym (first_rest lexemes at l within is)) ∙ so.goes_on

pub over_later : (lexemes : List Lexeme) (at : ℕ) (counters new after : List ℕ) (l : Lexeme) → at < length lexemes → l ≡ get_or lexemes at l → SoLight lexemes at counters → new ≡ raised l.terminal counters → sum new ≤ 256 → after ≡ parted l.terminal (drop (at + 1) lexemes) (bracketed l.terminal new) → sum after ≤ 256 → SoLight lexemes (at + 1) after
over_later lexemes at counters new after l within is so raises under next light =
    let test : nat_lt 256 (sum (raised l.terminal counters)) ≡ false = rw (← raises) (grind (arith, under)) in
    let step : first_over_from at counters (l ∷ drop (at + 1) lexemes) ≡ first_over_from (at + 1) (counters_behind l.terminal (drop (at + 1) lexemes) counters) (drop (at + 1) lexemes) = over_step at counters l (drop (at + 1) lexemes) false test in
    let is_next : after ≡ counters_behind l.terminal (drop (at + 1) lexemes) counters = next ∙ ap (λ n. parted l.terminal (drop (at + 1) lexemes) (bracketed l.terminal n)) raises in
    record { goes_on = ap (λ n. first_over_from (at + 1) n (drop (at + 1) lexemes)) is_next ∙ sym step ∙ ap (first_over_from at counters) (sym (first_rest lexemes at l within is)) ∙ so.goes_on; light = light }

-- ---- whether `else` stands at an index

pub else_none : (lexemes : List Lexeme) (at : ℕ) → slice_get lexemes at ≡ None → false ≡ begins_else (drop at lexemes)
else_none [] at e = ap begins_else (sym (drop_all at [] (omega arith)))
else_none (l ∷ ls) zero e = absurd (cc e)
else_none (l ∷ ls) (suc n) e = else_none ls n e

pub else_some : (lexemes : List Lexeme) (at : ℕ) (l : Lexeme) → slice_get lexemes at ≡ Some l → is_else l.terminal ≡ begins_else (drop at lexemes)
else_some [] at l e = absurd (cc e)
else_some (k ∷ ls) zero l e = let same : k ≡ l = cc in ap (λ l. is_else l.terminal) (sym same)
else_some (k ∷ ls) (suc n) l e = else_some ls n l e

pub ruleset weight_steps = (so_light_begins, so_light_ends, over_here, over_later)

pub ruleset else_steps = (else_none, else_some)
