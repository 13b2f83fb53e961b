-- A line's start, one byte later.
use Rattle.std.proofs.Common.{◌≡◌, ◌≢◌, ◌==◌, ℕ, ◌+◌, ◌<◌, ◌≤◌, List, length, take, get_or, ap, ◌∙◌, arith}
use Rattle.std.specs.Prelude.{count_by}
use Rattle.std.proofs.lemmas.List.Sums.{count_by_more_yes, count_by_more_no}
use Rattle.std.proofs.lemmas.Grind.{common_steps}
use borrow.Author.Count.{below_more}
use Rattle.clv_place.specs.Places.{IsLineStart}

pub start_here : (text : List ℕ) (i : ℕ) → get_or text i 0 ≡ 10 → IsLineStart text (i + 1) (i + 1)
start_here text i e = record {
  within = omega arith;
  after = λ k h. let same : k ≡ i = omega arith in ap (λ n. get_or text n 0) same ∙ e;
  inside = λ k low high. absurd (omega arith);
}

pub start_same : (text : List ℕ) (i start : ℕ) → get_or text i 0 ≢ 10 → IsLineStart text i start → IsLineStart text (i + 1) start
start_same text i start other h = record {
  within = let w = h.within in omega arith;
  after = h.after;
  inside = λ k low high. below_more (λ n. start ≤ n → get_or text n 0 ≢ 10) i (λ n lower at_least. h.inside n at_least lower) (λ _. other) k high low;
}

pub line_more_yes : (text : List ℕ) (i : ℕ) → i < length text → get_or text i 0 ≡ 10 → count_by (λ b. b == 10) (take (i + 1) text) ≡ count_by (λ b. b == 10) (take i text) + 1
line_more_yes text i within e = count_by_more_yes (λ b. b == 10) text i 0 within (ap (λ b. b == 10) e)

pub line_more_no : (text : List ℕ) (i : ℕ) → i < length text → get_or text i 0 ≢ 10 → count_by (λ b. b == 10) (take (i + 1) text) ≡ count_by (λ b. b == 10) (take i text)
line_more_no text i within e = count_by_more_no (λ b. b == 10) text i 0 within (grind (arith, common_steps))

pub ruleset line_steps = (start_here, start_same, line_more_yes, line_more_no)
