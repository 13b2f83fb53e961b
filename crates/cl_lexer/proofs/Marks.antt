-- The number of a mark, one mark later.
use Rattle.std.proofs.Common.{◌≡◌, ℕ, ◌+◌, ◌<◌, ◌≤◌, Bool, true, false, Some, None, List, [], ◌∷◌, length, drop, get_or, refl, sym, ap, ◌∙◌, arith, add-one, drop-cons}
use Rattle.std.specs.Prelude.{bytes_eq, if◌then◌else◌}
use Rattle.std.proofs.lemmas.List.{drop_all}
use Rattle.std.specs.List.{list_all}
use Rattle.std.proofs.lemmas.Bool.{both_ways}
use Rattle.std.proofs.lemmas.Slice.Eq.{bytes_eq-Decides}
use Rattle.cl_lexer.proofs.Advances.{both_left, both_right}
use Rattle.cl_lexer.specs.Marks.{may_be_mark, marks, number_among, mark_number}

pub marks_count : length marks ≡ 46
unfolding marks
marks_count = refl

split_marks : (n : ℕ) → n < 46 → drop n marks ≡ get_or marks n [] ∷ drop (n + 1) marks
split_marks n h = drop-cons marks n [] (omega (arith, marks_count, h)) ∙ ap (λ k. get_or marks n [] ∷ drop k marks) (sym (add-one n))

pub mark_later : (n : ℕ) (word mark : List ℕ) (t : Bool) → n < 46 → mark ≡ get_or marks n [] → t ≡ bytes_eq mark word → t ≡ false → number_among n (drop n marks) word ≡ mark_number word → number_among (n + 1) (drop (n + 1) marks) word ≡ mark_number word
mark_later n word mark t within is test other so_far =
    let skip : number_among n (get_or marks n [] ∷ drop (n + 1) marks) word ≡ number_among (n + 1) (drop (n + 1) marks) word = ap (λ b. if b then Some n else number_among (n + 1) (drop (n + 1) marks) word) (ap (λ m. bytes_eq m word) (sym is) ∙ sym test ∙ other) in
    sym skip ∙ ap (λ ms. number_among n ms word) (sym (split_marks n within)) ∙ so_far

pub mark_here : (n : ℕ) (word mark : List ℕ) (t : Bool) → n < 46 → mark ≡ get_or marks n [] → t ≡ bytes_eq mark word → t ≡ true → number_among n (drop n marks) word ≡ mark_number word → Some n ≡ mark_number word
mark_here n word mark t within is test same so_far =
    let take : number_among n (get_or marks n [] ∷ drop (n + 1) marks) word ≡ Some n = ap (λ b. if b then Some n else number_among (n + 1) (drop (n + 1) marks) word) (ap (λ m. bytes_eq m word) (sym is) ∙ sym test ∙ same) in
    sym take ∙ ap (λ ms. number_among n ms word) (sym (split_marks n within)) ∙ so_far

pub mark_none : (n : ℕ) (word : List ℕ) → 46 ≤ n → number_among n (drop n marks) word ≡ mark_number word → None ≡ mark_number word
mark_none n word past so_far = sym (ap (λ ms. number_among n ms word) (drop_all n marks (omega (arith, marks_count, past)))) ∙ so_far

pub mark_first : (word : List ℕ) → number_among 0 (drop 0 marks) word ≡ mark_number word
mark_first word = refl

none_step : (n : ℕ) (m : List ℕ) (ms : List (List ℕ)) (word : List ℕ) (t : Bool) → bytes_eq m word ≡ t → list_all may_be_mark (m ∷ ms) ≡ true → may_be_mark word ≡ false → (list_all may_be_mark ms ≡ true → may_be_mark word ≡ false → number_among (n + 1) ms word ≡ None) → (if t then Some n else number_among (n + 1) ms word) ≡ None
none_step n m ms word true e each other later = absurd (both_ways (may_be_mark word) other (ap may_be_mark (sym ((bytes_eq-Decides m word).0 e)) ∙ both_left (may_be_mark m) (list_all may_be_mark ms) each))
none_step n m ms word false e each other later = later (both_right (may_be_mark m) (list_all may_be_mark ms) each) other

none_among : (n : ℕ) (ms : List (List ℕ)) (word : List ℕ) → list_all may_be_mark ms ≡ true → may_be_mark word ≡ false → number_among n ms word ≡ None
none_among n [] word each other = refl
none_among n (m ∷ ms) word each other = none_step n m ms word (bytes_eq m word) refl each other (none_among (n + 1) ms word)

marks_may_be : list_all may_be_mark marks ≡ true
unfolding marks
marks_may_be = refl

pub mark_not : (word : List ℕ) (t : Bool) → t ≡ may_be_mark word → t ≡ false → None ≡ mark_number word
mark_not word t is other = sym (none_among 0 marks word marks_may_be (sym is ∙ other))

pub ruleset mark_steps = (mark_not, mark_first, mark_later, mark_here, mark_none)
