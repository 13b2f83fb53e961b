-- The end of a comment, one byte later.
use Rattle.std.proofs.Common.{◌≡◌, ℕ, suc, ◌+◌, ◌<◌, ◌≤◌, Bool, true, false, Option, Some, None, List, ◌∷◌, length, drop, get_or, refl, sym, ap, ◌∙◌, arith, add-one, drop-cons, get_or-drop}
use Rattle.std.specs.Prelude.{option_map, ◌&&◌, ◌==◌}
use Rattle.std.proofs.lemmas.List.{drop_all}
use Rattle.cl_lexer.specs.Fronts.{comment_end}

option_map_add : (at : ℕ) (o : Option ℕ) → option_map (λ n. at + n) (option_map suc o) ≡ option_map (λ n. at + 1 + n) o
option_map_add at None = refl
option_map_add at (Some n) = ap Some (omega arith)

option_map_none : (o : Option ℕ) → option_map (λ n. 0 + n) o ≡ o
option_map_none None = refl
option_map_none (Some n) = ap Some (omega arith)

pub split_at : (text : List ℕ) (at : ℕ) → at < length text → drop at text ≡ get_or text at 0 ∷ drop (at + 1) text
split_at text at within = drop-cons text at 0 within ∙ ap (λ k. get_or text at 0 ∷ drop k text) (sym (add-one at))

end_here : (b c : ℕ) (bs : List ℕ) → get_or bs 0 0 ≡ c → ((b == 42) && (c == 47)) ≡ true → comment_end (b ∷ bs) ≡ Some 2
end_here b c bs next e = rw (next, e) refl

end_later : (b c : ℕ) (bs : List ℕ) → get_or bs 0 0 ≡ c → ((b == 42) && (c == 47)) ≡ false → comment_end (b ∷ bs) ≡ option_map suc (comment_end bs)
end_later b c bs next e = rw (next, e) refl

next_byte : (text : List ℕ) (at : ℕ) → get_or (drop (at + 1) text) 0 0 ≡ get_or text (at + 1) 0
next_byte text at = let same : at + 1 + 0 ≡ at + 1 = omega arith in get_or-drop (at + 1) text 0 0 ∙ ap (λ k. get_or text k 0) same

pub comment_start : (text : List ℕ) → option_map (λ n. 0 + n) (comment_end (drop 0 text)) ≡ comment_end text
comment_start text = option_map_none (comment_end text)

pub comment_more : (text : List ℕ) (at : ℕ) (t : Bool) → at < length text → t ≡ ((get_or text at 0 == 42) && (get_or text (at + 1) 0 == 47)) → t ≡ false → option_map (λ n. at + n) (comment_end (drop at text)) ≡ comment_end text → option_map (λ n. at + 1 + n) (comment_end (drop (at + 1) text)) ≡ comment_end text
comment_more text at t within is other so_far =
    let later = end_later (get_or text at 0) (get_or text (at + 1) 0) (drop (at + 1) text) (next_byte text at) (sym is ∙ other) in
    sym (option_map_add at (comment_end (drop (at + 1) text))) ∙ ap (option_map (λ n. at + n)) (sym later ∙ ap comment_end (sym (split_at text at within))) ∙ so_far

pub comment_here : (text : List ℕ) (at : ℕ) (t : Bool) → at < length text → t ≡ ((get_or text at 0 == 42) && (get_or text (at + 1) 0 == 47)) → t ≡ true → option_map (λ n. at + n) (comment_end (drop at text)) ≡ comment_end text → Some (at + 2) ≡ comment_end text
comment_here text at t within is here so_far =
    let ends = end_here (get_or text at 0) (get_or text (at + 1) 0) (drop (at + 1) text) (next_byte text at) (sym is ∙ here) in
    sym (ap (option_map (λ n. at + n)) (ap comment_end (split_at text at within) ∙ ends)) ∙ so_far

pub comment_none : (text : List ℕ) (at : ℕ) → length text ≤ at → option_map (λ n. at + n) (comment_end (drop at text)) ≡ comment_end text → None ≡ comment_end text
comment_none text at past so_far = sym (ap (λ bs. option_map (λ n. at + n) (comment_end bs)) (drop_all at text past)) ∙ so_far

pub ruleset comments = (comment_start, comment_more, comment_here, comment_none)
