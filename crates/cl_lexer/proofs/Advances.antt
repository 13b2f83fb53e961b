-- What stands first takes a byte or more, and no more than there are.
use Rattle.std.proofs.Common.{◌≡◌, ℕ, zero, suc, ◌+◌, ◌-◌, ◌*◌, ◌<◌, ◌≤◌, Bool, true, false, Option, Some, None, List, [], ◌∷◌, length, take, drop, get_or, refl, sym, ap, ◌∙◌, subst, inl, inr, arith, length-take, length-drop, eqb-true, ltb-true}
use Rattle.std.specs.Prelude.{take_while, if◌then◌else◌, option_map, ◌||◌, ◌&&◌, ◌==◌, not, nat_lt, bytes_eq}
use Rattle.std.specs.List.{list_all}
use Rattle.std.specs.Option.{option_or}
use Rattle.std.proofs.lemmas.Bool.{cases_lt}
use Rattle.std.specs.Char.{is_ascii_digit}
use Rattle.std.proofs.lemmas.Grind.{common_steps}
use Rattle.std.proofs.lemmas.List.{get_or_past}
use Rattle.std.proofs.lemmas.List.Sums.{take_while-cons}
use Rattle.std.proofs.lemmas.Slice.Eq.{bytes_eq-Decides}
use Rattle.cl_lexer.specs.declared.token.TokenKind.{TokenKind}
use Rattle.cl_lexer.specs.declared.token.TokenKind.TheVariants as kind
use Rattle.cl_lexer.specs.declared.character.Spelled.{Spelled}
use Rattle.cl_lexer.specs.declared.number.Number.{Number}
use Rattle.cl_lexer.specs.declared.front.Front.{Front}
use Rattle.cl_lexer.specs.declared.front.Front.TheVariants as stands
use Rattle.cl_lexer.specs.declared.front.Stage.{Stage}
use Rattle.cl_lexer.specs.declared.front.Stage.TheVariants.{Beginning, Hash, Message, Inside}
use Rattle.cl_lexer.specs.Bytes.{is_letter, is_word, is_number_part, is_separator, is_on_line}
use Rattle.cl_lexer.specs.Characters.{character_of, spelled_of, closed}
use Rattle.cl_lexer.specs.Fronts.{line_of, number_front, character_front, comment_end, comment_front, mark_front, slash_front, front_in, front_of, stage_after}
use Rattle.cl_lexer.specs.Marks.{marks, number_among, mark_number, mark_of, mark_length}
use Rattle.cl_lexer.specs.Numbers.{number_of}

abbrev Advances : Front → ℕ → Type 0
Advances stands.End len = Unit {0}
Advances stands.LineEnd len = 0 < len
Advances (stands.Apart n) len = (0 < n) × (n ≤ len)
Advances (stands.Begins k n) len = (0 < n) × (n ≤ len)
Advances (stands.Bad code) len = Unit {0}

chosen : (P : Front → Type 0) (b : Bool) (x y : Front) → (b ≡ true → P x) → (b ≡ false → P y) → P (if b then x else y)
chosen P true x y f g = f refl
chosen P false x y f g = g refl

length-prefix : (p : ℕ → Bool) (xs : List ℕ) → length (take_while p xs) ≤ length xs
length-prefix p [] = omega arith
length-prefix p (x ∷ xs) = grind (arith, common_steps, length-prefix p xs, take_while-cons p x xs)

some_prefix : (p : ℕ → Bool) (x : ℕ) (xs : List ℕ) → p x ≡ true → 0 < length (take_while p (x ∷ xs))
some_prefix p x xs e = rw (take_while-cons p x xs, e) (omega arith)

number_advances : (n len : ℕ) (o : Option Number) → 0 < n → n ≤ len → Advances (number_front n o) len
number_advances n len (Some number) h k = (h, k)
number_advances n len None h k = tt

pub both_left : (a b : Bool) → (a && b) ≡ true → a ≡ true
both_left true b e = refl
both_left false b e = e

pub both_right : (a b : Bool) → (a && b) ≡ true → b ≡ true
both_right true b e = e
both_right false b e = absurd (cc e)

-- a byte other than 0 stands in the text
byte_within : (text : List ℕ) (n c : ℕ) → 0 < c → get_or text n 0 ≡ c → n < length text
byte_within text n c some e = elim (cases_lt n (length text)) [ inl within ↦ within | inr past ↦ absurd (omega (arith, some, e, get_or_past text n 0 past)) ]

closed_within : (text : List ℕ) (s t : Spelled) (b : Bool) → (get_or text s.length 0 == 39) ≡ b → (if b then Some s else None) ≡ Some t → t.length < length text
closed_within text s t true e f =
    let same : s ≡ t = cc f in
    subst (λ u. u.length < length text) same (byte_within text s.length 39 (omega arith) (eqb-true (get_or text s.length 0) 39 e))
closed_within text s t false e f = absurd (cc f)

pub character_within : (text : List ℕ) (o : Option Spelled) (t : Spelled) → closed text o ≡ Some t → t.length < length text
character_within text (Some s) t e = closed_within text s t (get_or text s.length 0 == 39) refl e
character_within text None t e = absurd (cc e)

character_advances : (text : List ℕ) (len : ℕ) (o : Option Spelled) → character_of text ≡ o → length text + 1 ≡ len → Advances (character_front o) len
character_advances text len (Some s) e f = let within = character_within text (spelled_of text) s e in (omega arith, omega (arith, within, f))
character_advances text len None e f = tt

abbrev IsEnd : ℕ → Option ℕ → Type 0
IsEnd len (Some n) = (2 ≤ n) × (n ≤ len)
IsEnd len None = Unit {0}

end_suc : (len : ℕ) (o : Option ℕ) → IsEnd len o → IsEnd (suc len) (option_map suc o)
end_suc len (Some n) h = (omega (arith, h.0), omega (arith, h.1))
end_suc len None h = tt

end_chosen : (len : ℕ) (t : Bool) (x y : Option ℕ) → (t ≡ true → IsEnd len x) → IsEnd len y → IsEnd len (if t then x else y)
end_chosen len true x y f h = f refl
end_chosen len false x y f h = h

comment_within : (text : List ℕ) → IsEnd (length text) (comment_end text)
comment_within [] = tt
comment_within (b ∷ bs) =
    end_chosen (length (b ∷ bs)) ((b == 42) && (get_or bs 0 0 == 47)) (Some 2) (option_map suc (comment_end bs))
    (λ e. let some = byte_within bs 0 47 (omega arith) (eqb-true (get_or bs 0 0) 47 (both_right (b == 42) (get_or bs 0 0 == 47) e)) in (omega arith, omega (arith, some)))
    (end_suc (length bs) (comment_end bs) (comment_within bs))

comment_advances : (len rest : ℕ) (o : Option ℕ) → IsEnd rest o → rest ≡ len - 2 → Advances (comment_front o) len
comment_advances len rest (Some n) h e = (omega arith, omega (arith, h.0, h.1, e))
comment_advances len rest None h e = tt

abbrev NumberIs : ℕ → ℕ → List (List ℕ) → List ℕ → Type 0
NumberIs k n ms word = (k ≤ n) × (n < k + length ms) × (get_or ms (n - k) [] ≡ word)

number_step : (k n : ℕ) (m : List ℕ) (ms : List (List ℕ)) (word : List ℕ) (t : Bool) → bytes_eq m word ≡ t → (if t then Some k else number_among (k + 1) ms word) ≡ Some n → (number_among (k + 1) ms word ≡ Some n → NumberIs (k + 1) n ms word) → NumberIs k n (m ∷ ms) word
number_step k n m ms word true t e later =
    let same : k ≡ n = cc e in
    let here : n - k ≡ 0 = omega (arith, same) in
    (omega (arith, same), omega (arith, same), ap (λ i. get_or (m ∷ ms) i []) here ∙ (bytes_eq-Decides m word).0 t)
number_step k n m ms word false t e later =
    let h = later e in
    let low = h.0 in
    let next : n - k ≡ suc (n - (k + 1)) = omega (arith, low) in
    (omega (arith, low), omega (arith, h.1), ap (λ i. get_or (m ∷ ms) i []) next ∙ h.2)

number_is : (k n : ℕ) (ms : List (List ℕ)) (word : List ℕ) → number_among k ms word ≡ Some n → NumberIs k n ms word
number_is k n [] word e = absurd (cc e)
number_is k n (m ∷ ms) word e = number_step k n m ms word (bytes_eq m word) refl e (number_is (k + 1) n ms word)

abbrev is_some_word : List ℕ → Bool
is_some_word word = nat_lt 0 (length word)

some_word_at : (ms : List (List ℕ)) (n : ℕ) → list_all is_some_word ms ≡ true → n < length ms → 0 < length (get_or ms n [])
some_word_at [] n e h = absurd (omega (arith, h))
some_word_at (m ∷ ms) zero e h = ltb-true 0 (length m) (both_left (is_some_word m) (list_all is_some_word ms) e)
some_word_at (m ∷ ms) (suc n) e h = some_word_at ms n (both_right (is_some_word m) (list_all is_some_word ms) e) (omega (arith, h))

marks_are_words : list_all is_some_word marks ≡ true
unfolding marks
marks_are_words = refl

mark_is : (n : ℕ) (word : List ℕ) → mark_number word ≡ Some n → (0 < mark_length n) × (mark_length n ≡ length word)
mark_is n word e =
    let h = number_is 0 n marks word e in
    let within : n < length marks = omega (arith, h.1) in
    let same : n ≡ n - 0 = omega arith in
    (some_word_at marks n marks_are_words within, ap (λ i. length (get_or marks i [])) same ∙ ap length h.2)

mark_from : (k n : ℕ) (text : List ℕ) → mark_number (take k text) ≡ Some n → (0 < mark_length n) × (mark_length n ≤ length text)
mark_from k n text e = let h = mark_is n (take k text) e in let len = length-take k text in (h.0, omega (arith, h.1, len))

either_mark : (n : ℕ) (P : Type 0) (a b : Option ℕ) → option_or a b ≡ Some n → (a ≡ Some n → P) → (b ≡ Some n → P) → P
either_mark n P (Some m) b e f g = f e
either_mark n P None b e f g = g e

mark_advances : (text : List ℕ) (o : Option ℕ) → mark_of text ≡ o → Advances (mark_front o) (length text)
mark_advances text (Some n) e =
    let P = (0 < mark_length n) × (mark_length n ≤ length text) in
    either_mark n P (mark_number (take 3 text)) (option_or (mark_number (take 2 text)) (mark_number (take 1 text))) e (mark_from 3 n text)
    (λ f. either_mark n P (mark_number (take 2 text)) (mark_number (take 1 text)) f (mark_from 2 n text) (mark_from 1 n text))
mark_advances text None e = tt

slash_advances : (b : ℕ) (bs : List ℕ) (c : ℕ) → b ≡ 47 → Advances (slash_front c (b ∷ bs)) (length (b ∷ bs))
slash_advances b bs c e =
    let text = b ∷ bs in
    let len = length (b ∷ bs) in
    let P = λ (f : Front). Advances f len in
    chosen P (c == 47) _ _ (λ _. (some_prefix is_on_line b bs (ap (λ x. not (x == 10)) e), length-prefix is_on_line text))
    (λ _. chosen P (c == 42) _ _ (λ _. comment_advances len (length (drop 2 text)) (comment_end (drop 2 text)) (comment_within (drop 2 text)) (length-drop 2 text))
    (λ _. mark_advances text (mark_of text) refl))

front_advances : (text : List ℕ) → Advances (front_in text) (length text)
front_advances [] = tt
front_advances (b ∷ bs) =
    let text = b ∷ bs in
    let len = length (b ∷ bs) in
    let P = λ (f : Front). Advances f len in
    chosen P (b == 10) _ _ (λ _. omega arith)
    (λ _. chosen P (is_separator b) _ _ (λ _. (omega arith, omega arith))
    (λ _. chosen P (is_letter b) _ _ (λ e. (some_prefix is_word b bs (ap (λ t. t || is_ascii_digit b) e), length-prefix is_word text))
    (λ l. chosen P (is_ascii_digit b) _ _ (λ d. number_advances _ len (number_of (take_while is_number_part text)) (some_prefix is_number_part b bs (ap (λ t. (t || is_ascii_digit b) || (b == 46)) l ∙ ap (λ t. t || (b == 46)) d)) (length-prefix is_number_part text))
    (λ _. chosen P (b == 39) _ _ (λ _. character_advances bs len (character_of bs) refl (omega arith))
    (λ _. chosen P (b == 47) _ _ (λ e. slash_advances b bs (get_or text 1 0) (eqb-true b 47 e))
    (λ _. mark_advances text (mark_of text) refl))))))

-- a message is a token more
unfoldable pub pending : Stage → ℕ
pending Beginning = 0
pending Hash = 0
pending Message = 1
pending Inside = 0

pending_small : (stage : Stage) → pending stage ≤ 1
unfolding pending
pending_small Beginning = omega arith
pending_small Hash = omega arith
pending_small Message = omega arith
pending_small Inside = omega arith

pub line_end_within : (stage : Stage) (text : List ℕ) → front_of stage text ≡ stands.LineEnd → 0 < length text
unfolding front_of
line_end_within Beginning text e = subst (λ f. Advances f (length text)) e (front_advances text)
line_end_within Hash text e = subst (λ f. Advances f (length text)) e (front_advances text)
line_end_within Message text e = absurd (cc e)
line_end_within Inside text e = subst (λ f. Advances f (length text)) e (front_advances text)

pub parted_within : (stage : Stage) (text : List ℕ) (n : ℕ) → front_of stage text ≡ stands.Apart n → (0 < n) × (n ≤ length text)
unfolding front_of
parted_within Beginning text n e = subst (λ f. Advances f (length text)) e (front_advances text)
parted_within Hash text n e = subst (λ f. Advances f (length text)) e (front_advances text)
parted_within Message text n e = absurd (cc e)
parted_within Inside text n e = subst (λ f. Advances f (length text)) e (front_advances text)

abbrev Shortens : ℕ → ℕ → ℕ → ℕ → Type 0
Shortens len n before after = (n ≤ len) × (2 * (len - n) + after < 2 * len + before)

token_shortens : (len n before after : ℕ) → (0 < n) × (n ≤ len) → after ≤ 1 → Shortens len n before after
token_shortens len n before after h small = let some = h.0 in let within = h.1 in (within, omega (arith, some, within, small))

pub taken_within : (stage : Stage) (text : List ℕ) (k : TokenKind) (n : ℕ) → front_of stage text ≡ stands.Begins k n → Shortens (length text) n (pending stage) (pending (stage_after stage k))
unfolding front_of pending
taken_within Beginning text k n e = token_shortens (length text) n 0 _ (subst (λ f. Advances f (length text)) e (front_advances text)) (pending_small (stage_after Beginning k))
taken_within Hash text k n e = token_shortens (length text) n 0 _ (subst (λ f. Advances f (length text)) e (front_advances text)) (pending_small (stage_after Hash k))
taken_within Message text k n e =
    let is_kind : kind.Rest (line_of text) ≡ k = cc e in
    let is_length : length (line_of text) ≡ n = cc e in
    let upto = length-prefix is_on_line text in
    let none : pending (stage_after Message k) ≡ 0 = ap (λ x. pending (stage_after Message x)) (sym is_kind) in
    let within : n ≤ length text = omega (arith, is_length, upto) in
    (within, omega (arith, within, none))
taken_within Inside text k n e = token_shortens (length text) n 0 _ (subst (λ f. Advances f (length text)) e (front_advances text)) (pending_small (stage_after Inside k))
