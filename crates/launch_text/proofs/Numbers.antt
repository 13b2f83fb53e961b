-- The number that decimal digits write, one digit later.
use Rattle.std.proofs.Common.{◌≡◌, ℕ, ◌+◌, ◌-◌, ◌*◌, ◌<◌, ◌≤◌, Bool, true, false, ◌&&◌, leb, Some, None, cond, List, length, take, get_or, refl, sym, ap, ◌∙◌, arith}
use Rattle.std.specs.Char.{is_ascii_digit}
use Rattle.std.specs.Int.{IsInRange}
use Rattle.std.specs.List.{list_all}
use Rattle.std.specs.Str.Parse.{digits_value}
use Rattle.std.proofs.lemmas.Bool.{le-leb, lt-leb}
use Rattle.std.proofs.lemmas.Int.Digits.{digits_value_more}
use Rattle.std.proofs.lemmas.List.{take_all}
use Rattle.std.proofs.lemmas.List.Folds.{list_all_more, list_all_at}
use Rattle.std.proofs.lemmas.Str.{digit_value_digit}
use Rattle.std.proofs.lemmas.Str.Parse.{digits_value-take-le}
use Rattle.launch_text.specs.Said.{number_of}

-- the first digits of a word write this number
pub record WritesSoFar (word : List ℕ) (count n : ℕ) : Type 0 where
  pub digits : list_all is_ascii_digit (take count word) ≡ true
  pub value : digits_value 10 (take count word) ≡ n

pub writes_none : (word : List ℕ) → WritesSoFar word 0 0
writes_none word = record { digits = refl; value = refl }

both : (a b : Bool) → a ≡ true → b ≡ true → (a && b) ≡ true
both true true p q = refl
both true false p q = q
both false b p q = p

value_more : (word : List ℕ) (i n : ℕ) → i < length word → IsInRange 48 57 (get_or word i 0) → WritesSoFar word i n → digits_value 10 (take (i + 1) word) ≡ n * 10 + (get_or word i 0 - 48)
value_more word i n within digit h =
    let more = digits_value_more 10 word i within in
    let one = digit_value_digit (get_or word i 0) digit in
    let so_far = h.value in
    omega (arith, more, one, so_far)

pub writes_more : (word : List ℕ) (i n m : ℕ) → i < length word → is_ascii_digit (get_or word i 0) ≡ true → IsInRange 48 57 (get_or word i 0) → WritesSoFar word i n → m ≡ n * 10 + (get_or word i 0 - 48) → WritesSoFar word (i + 1) m
writes_more word i n m within test digit h e = record {
  digits = list_all_more is_ascii_digit word i 0 within ∙ both _ _ h.digits test;
  value = value_more word i n within digit h ∙ sym e;
}

chosen_yes : (b : Bool) (v most n : ℕ) → b ≡ true → v ≡ n → n ≤ most → Some n ≡ cond (b && leb v most) (Some v) None
chosen_yes b v most n p q small =
    let test : leb v most ≡ true = le-leb v most (omega (arith, q)) in
    rw (p, test) (ap Some (sym q))

chosen_no : (b : Bool) (v most : ℕ) → b ≡ false → None ≡ cond (b && leb v most) (Some v) None
chosen_no b v most p = rw p refl

chosen_large : (b : Bool) (v most : ℕ) → most < v → None ≡ cond (b && leb v most) (Some v) None
chosen_large true v most large = rw (lt-leb v most large) refl
chosen_large false v most large = refl

pub number_all : (word : List ℕ) (i n most : ℕ) → length word ≤ i → WritesSoFar word i n → n ≤ most → Some n ≡ number_of most word
number_all word i n most past h small =
    let all = take_all i word past in
    chosen_yes (list_all is_ascii_digit word) (digits_value 10 word) most n (rw all at h.digits) (rw all at h.value) small

pub number_other : (word : List ℕ) (i most : ℕ) → i < length word → is_ascii_digit (get_or word i 0) ≡ false → None ≡ number_of most word
number_other word i most within other = chosen_no (list_all is_ascii_digit word) (digits_value 10 word) most (list_all_at is_ascii_digit word i 0 within other)

pub number_too_large : (word : List ℕ) (i n m most : ℕ) → i < length word → IsInRange 48 57 (get_or word i 0) → WritesSoFar word i n → m ≡ n * 10 + (get_or word i 0 - 48) → most < m → None ≡ number_of most word
number_too_large word i n m most within digit h e large =
    let more = value_more word i n within digit h in
    let less = digits_value-take-le 10 word (i + 1) (omega arith) in
    chosen_large (list_all is_ascii_digit word) (digits_value 10 word) most (omega (arith, more, less, e))

pub ruleset numbers = (writes_none, writes_more, number_all, number_other, number_too_large)
