-- What holds of each launch that a text gives: each line says only what fits, and what the lines have said stays a launch.
use Rattle.std.proofs.Common.{◌≡◌, ◌⊎◌, inl, inr, ℕ, zero, suc, ◌+◌, ◌-◌, ◌^◌, ◌<◌, ◌≤◌, Bool, true, false, not, ◌||◌, ◌&&◌, cond, eqb, leb, List, [], ◌∷◌, ◌++◌, length, Option, Some, None, is_some, unwrap_or, Result, Ok, Err, refl, sym, ap, ◌∙◌, subst, arith, slice_get, Contains, length-append}
use Rattle.std.specs.Prelude.{All}
use Rattle.std.specs.List.{list_any, list_all, onto_first, position_or_len}
use Rattle.std.specs.Str.{bytes_eq}
use Rattle.std.specs.Result.{IfOk}
use Rattle.std.specs.Char.{is_ascii_digit}
use Rattle.std.specs.Str.Lines.{strip_carriage_return}
use Rattle.std.specs.Str.Parse.{digits_value}
use Rattle.std.proofs.lemmas.Bool.{leb-true, eqb-true, eqb-false}
use Rattle.std.proofs.lemmas.List.Elements.{All-nil, All-head, All-tail, All-push, Contains-push, Contains-append_left, Contains-push_cases}
use Rattle.std.proofs.lemmas.List.Sums.{prefix_len-le-length}
use Rattle.hex.specs.Hex.{decode_of}
use Rattle.hex.specs.declared.error.FromHexError.{FromHexError}
use Rattle.launch_text.specs.declared.draft.Draft.{Draft}
use Rattle.launch_text.specs.declared.draft.LocalLine.{LocalLine}
use Rattle.launch_text.specs.declared.launch.ArgKind.TheVariants as kind
use Rattle.launch_text.specs.declared.launch.ArgLine.{ArgLine}
use Rattle.launch_text.specs.declared.launch.Launch.{Launch}
use Rattle.launch_text.specs.declared.launch.LaunchStop.{LaunchStop}
use Rattle.launch_text.specs.declared.launch.Schedule.{Schedule}
use Rattle.launch_text.specs.declared.launch.Schedule.TheVariants.{Robin}
use Rattle.launch_text.specs.declared.said.Given.{Given}
use Rattle.launch_text.specs.declared.said.Given.TheVariants as given
use Rattle.launch_text.specs.declared.said.Grid.{Grid}
use Rattle.launch_text.specs.declared.said.Said.{Said}
use Rattle.launch_text.specs.declared.said.Said.TheVariants as said
use Rattle.launch_text.specs.Drafts.{has_ordinal, files_with, taken, finished}
use Rattle.launch_text.specs.LaunchText.{Fault, with_file, kind_of, is_given, once, said_after, at_line, all_said, launch_said, launch_of}
use Rattle.launch_text.specs.Lines.{lines_of, words_of}
use Rattle.launch_text.specs.Readable.{IsSchedule, IsCount, AreDistinct, IsName, IsReadable, IsGiven}
use Rattle.launch_text.specs.Rules.{AreSizes}
use Rattle.launch_text.specs.WorkItems.{sizes_of}
use Rattle.launch_text.specs.Said.{number_of, number32_of, grid_of, sizes_said, global_said, local_said, kernel_said, buffer_given, local_given, plain_given, given_said, argument_said, robin_given, seed_given, turns_said, schedule_said, steps_given, steps_said, is_text, words_said, line_said}
use Rattle.launch_text.proofs.Drafts.{draft_of, taken_is, drafted_is}
use Rattle.launch_text.proofs.Files.{same_name, few_files}
use Rattle.launch_text.proofs.Names.{names_utf8, words_are_names}
use Rattle.launch_text.proofs.Places.{none_passes, place_of_new, place_of_none}

-- ---- what one line says fits

pub record IsGrid (g : Grid) : Type 0 where
  pub some : 1 ≤ g.dims
  pub few : g.dims ≤ 3
  pub sizes : AreSizes g.dims (sizes_of g.sizes)

abbrev pub IsFit : Said → Type 0
IsFit (said.Kernel name) = IsName name
IsFit (said.Global grid) = IsGrid grid
IsFit (said.Local grid) = IsGrid grid
IsFit (said.Argument n (given.Buffer file)) = IsName file
IsFit (said.Schedule schedule) = IsSchedule schedule
IsFit (said.Steps count) = IsCount count
IsFit _ = Unit {0}

abbrev Fits : Result Said ℕ → Type 0
Fits (Ok s) = IsFit s
Fits (Err rule) = Unit {0}

abbrev FitsGrid : Result Grid ℕ → Type 0
FitsGrid (Ok grid) = IsGrid grid
FitsGrid (Err rule) = Unit {0}

abbrev IsUpTo : ℕ → Option ℕ → Type 0
IsUpTo most (Some n) = n ≤ most
IsUpTo most None = Unit {0}

-- the same, from which its answer can be read off
record Answer (r : Result Said ℕ) : Type 0 where
  fits : Fits r

either : (b : Bool) (x y : Result Said ℕ) → Answer x → Answer y → Answer (cond b x y)
either true x y h k = h
either false x y h k = k

if_so : (b : Bool) (x y : Result Said ℕ) → (b ≡ true → Answer x) → Answer y → Answer (cond b x y)
if_so true x y h k = h refl
if_so false x y h k = k

answer : {r : Result Said ℕ} → Fits r → Answer r
answer h = record { fits = h }

up_to_if : (a b : Bool) (v most : ℕ) → (b ≡ true → v ≤ most) → IsUpTo most (cond (a && b) (Some v) None)
up_to_if true true v most h = h refl
up_to_if true false v most h = tt
up_to_if false b v most h = tt

up_to : (most : ℕ) (word : List ℕ) → IsUpTo most (number_of most word)
up_to most word = up_to_if (list_all is_ascii_digit word) (leb (digits_value 10 word) most) (digits_value 10 word) most (leb-true _ _)

abbrev word_max : ℕ
word_max = 2 ^ 32 - 1

some_if : (n : ℕ) → eqb n 0 ≡ false → 1 ≤ n
some_if zero h = absurd (eqb-false 0 0 h refl)
some_if (suc n) h = omega arith

grid_if : (dims x y z : ℕ) (a b c : Bool) → 1 ≤ dims → dims ≤ 3 → x ≤ word_max → y ≤ word_max → z ≤ word_max → (dims ≤ 1 → y ≡ 1) → (dims ≤ 2 → z ≡ 1) → (a ≡ false → 1 ≤ x) → (b ≡ false → 1 ≤ y) → (c ≡ false → 1 ≤ z) → FitsGrid (cond ((a || b) || c) (Err 6) (Ok (record { dims = dims; sizes = x ∷ y ∷ z ∷ [] })))
grid_if dims x y z true b c some few p q r two three f g h = tt
grid_if dims x y z false true c some few p q r two three f g h = tt
grid_if dims x y z false false true some few p q r two three f g h = tt
grid_if dims x y z false false false some few p q r two three f g h = record {
  some = some;
  few = few;
  sizes = record {
    x = record { some = f refl; word = omega (arith, p); unused = λ none. absurd (omega (arith, none, some)) };
    y = record { some = g refl; word = omega (arith, q); unused = two };
    z = record { some = h refl; word = omega (arith, r); unused = three };
  };
}

one_of : (n : ℕ) → Some n ≡ Some 1 → n ≡ 1
one_of n h = cc

grid_fits : (dims : ℕ) (x y z : Option ℕ) → 1 ≤ dims → dims ≤ 3 → IsUpTo word_max x → IsUpTo word_max y → IsUpTo word_max z → (dims ≤ 1 → y ≡ Some 1) → (dims ≤ 2 → z ≡ Some 1) → FitsGrid (grid_of dims x y z)
grid_fits dims (Some x) (Some y) (Some z) some few p q r two three = grid_if dims x y z (eqb x 0) (eqb y 0) (eqb z 0) some few p q r (λ h. one_of y (two h)) (λ h. one_of z (three h)) (some_if x) (some_if y) (some_if z)
grid_fits dims (Some x) (Some y) None some few p q r two three = tt
grid_fits dims (Some x) None z some few p q r two three = tt
grid_fits dims None y z some few p q r two three = tt

sizes_fit : (words : List (List ℕ)) → FitsGrid (sizes_said words)
sizes_fit [] = tt
sizes_fit (x ∷ []) = grid_fits 1 (number32_of x) (Some 1) (Some 1) (omega arith) (omega arith) (up_to word_max x) (omega arith) (omega arith) (λ h. refl) (λ h. refl)
sizes_fit (x ∷ y ∷ []) = grid_fits 2 (number32_of x) (number32_of y) (Some 1) (omega arith) (omega arith) (up_to word_max x) (up_to word_max y) (omega arith) (λ h. absurd (omega (arith, h))) (λ h. refl)
sizes_fit (x ∷ y ∷ z ∷ []) = grid_fits 3 (number32_of x) (number32_of y) (number32_of z) (omega arith) (omega arith) (up_to word_max x) (up_to word_max y) (up_to word_max z) (λ h. absurd (omega (arith, h))) (λ h. absurd (omega (arith, h)))
sizes_fit (x ∷ y ∷ z ∷ w ∷ words) = tt

global_fits : (r : Result Grid ℕ) → FitsGrid r → Fits (global_said r)
global_fits (Ok grid) h = h
global_fits (Err rule) h = tt

local_fits : (r : Result Grid ℕ) → FitsGrid r → Fits (local_said r)
local_fits (Ok grid) h = h
local_fits (Err rule) h = tt

kernel_fits : (words : List (List ℕ)) → All IsName words → Fits (kernel_said words)
kernel_fits [] h = tt
kernel_fits (name ∷ []) h = All-head IsName name [] h
kernel_fits (name ∷ word ∷ words) h = tt

buffer_fits : (n : Option ℕ) (file : List ℕ) → IsName file → Fits (buffer_given n file)
buffer_fits None file h = tt
buffer_fits (Some n) file h = h

bytes_if : (b : Bool) (n bytes : ℕ) → Fits (cond b (Err 6) (Ok (said.Argument n (given.Local bytes))))
bytes_if true n bytes = tt
bytes_if false n bytes = tt

bytes_fit : (n bytes : Option ℕ) → Fits (local_given n bytes)
bytes_fit None bytes = tt
bytes_fit (Some n) None = tt
bytes_fit (Some n) (Some bytes) = bytes_if (eqb bytes 0) n bytes

plain_fits : (n : Option ℕ) (bytes : Result (List ℕ) FromHexError) → Fits (plain_given n bytes)
plain_fits None bytes = tt
plain_fits (Some n) (Ok bytes) = tt
plain_fits (Some n) (Err e) = tt

given_answers : (n : Option ℕ) (kind value : List ℕ) → IsName value → Answer (given_said n kind value)
given_answers n kind value h = either _ _ _ (answer (buffer_fits n value h)) (either _ _ _ (answer (bytes_fit n (number32_of value))) (either _ _ _ (answer (plain_fits n (decode_of value))) (answer {r = Err 3} tt)))

argument_fits : (words : List (List ℕ)) → All IsName words → Fits (argument_said words)
argument_fits [] h = tt
argument_fits (n ∷ []) h = tt
argument_fits (n ∷ kind ∷ []) h = tt
argument_fits (n ∷ kind ∷ value ∷ []) h = (given_answers (number32_of n) kind value (All-head IsName value [] (All-tail IsName kind (value ∷ []) (All-tail IsName n (kind ∷ value ∷ []) h)))).fits
argument_fits (n ∷ kind ∷ value ∷ word ∷ words) h = tt

count_if : (b : Bool) (n : ℕ) → (b ≡ false → IsCount n) → Fits (cond b (Err 6) (Ok (said.Steps n)))
count_if true n h = tt
count_if false n h = h refl

count_fits : (count : Option ℕ) → IsUpTo (10 ^ 12) count → Fits (steps_given count)
count_fits None h = tt
count_fits (Some n) h = count_if (eqb n 0) n (λ e. record { some = some_if n e; few = h })

steps_fit : (words : List (List ℕ)) → Fits (steps_said words)
steps_fit [] = tt
steps_fit (count ∷ []) = count_fits (number_of (10 ^ 12) count) (up_to (10 ^ 12) count)
steps_fit (count ∷ word ∷ words) = tt

turn_if : (b : Bool) (n : ℕ) → (b ≡ false → 1 ≤ n) → Fits (cond b (Err 6) (Ok (said.Schedule (Robin n))))
turn_if true n h = tt
turn_if false n h = h refl

turn_fits : (turn : Option ℕ) → Fits (robin_given turn)
turn_fits None = tt
turn_fits (Some n) = turn_if (eqb n 0) n (some_if n)

seed_fits : (seed : Option ℕ) → Fits (seed_given seed)
seed_fits None = tt
seed_fits (Some n) = tt

turns_answer : (kind value : List ℕ) → Answer (turns_said kind value)
turns_answer kind value = either _ _ _ (answer (turn_fits (number32_of value))) (either _ _ _ (answer (seed_fits (number_of (2 ^ 64 - 1) value))) (answer {r = Err 3} tt))

schedule_fits : (words : List (List ℕ)) → Fits (schedule_said words)
schedule_fits [] = tt
schedule_fits (kind ∷ []) = tt
schedule_fits (kind ∷ value ∷ []) = (turns_answer kind value).fits
schedule_fits (kind ∷ value ∷ word ∷ words) = tt

words_answer : (words : List (List ℕ)) → All IsName words → Answer (words_said words)
words_answer [] h = answer tt
words_answer (first ∷ rest) h = either _ _ _ (answer {r = Ok said.Nothing} tt) (either _ _ _ (answer (kernel_fits rest (All-tail IsName first rest h))) (either _ _ _ (answer (global_fits (sizes_said rest) (sizes_fit rest))) (either _ _ _ (answer (local_fits (sizes_said rest) (sizes_fit rest))) (either _ _ _ (answer (argument_fits rest (All-tail IsName first rest h))) (either _ _ _ (answer (schedule_fits rest)) (either _ _ _ (answer (steps_fit rest)) (answer {r = Err 2} tt)))))))

line_answer : (line : List ℕ) → Answer (line_said line)
line_answer line =
    let content = strip_carriage_return line in
    if_so (list_all is_text content) (words_said (words_of content)) (Err 1) (λ e. words_answer (words_of content) (words_are_names content e)) (answer {r = Err 1} tt)

line_fits : (line : List ℕ) → Fits (line_said line)
line_fits line = (line_answer line).fits

-- ---- what lists hold, one item later

none_some : {A : Type 0} (a : A) → None ≡ Some a → ⊥
none_some a h = cc

get_push : {A : Type 0} (xs : List A) (x : A) (m : ℕ) (a : A) → slice_get (xs ++ x ∷ []) m ≡ Some a → (slice_get xs m ≡ Some a) ⊎ ((m ≡ length xs) × (x ≡ a))
get_push [] x zero a h = inr (refl, (let e : x ≡ a = cc in e))
get_push [] x (suc m) a h = absurd (none_some a h)
get_push (y ∷ xs) x zero a h = inl h
get_push (y ∷ xs) x (suc m) a h = elim (get_push xs x m a h) [ inl p ↦ inl p | inr p ↦ inr ((let e = p.0 in omega (arith, e)), p.1) ]

left_false : (a b : Bool) → (a || b) ≡ false → a ≡ false
left_false true b h = h
left_false false b h = refl

right_false : (a b : Bool) → (a || b) ≡ false → b ≡ false
right_false true b h = cc
right_false false b h = h

none_at : {A : Type 0} (test : A → Bool) (xs : List A) (m : ℕ) (a : A) → list_any test xs ≡ false → slice_get xs m ≡ Some a → test a ≡ false
none_at test [] m a none h = absurd (none_some a h)
none_at test (x ∷ xs) zero a none h = let e : x ≡ a = cc in ap test (sym e) ∙ left_false (test x) (list_any test xs) none
none_at test (x ∷ xs) (suc m) a none h = none_at test xs m a (right_false (test x) (list_any test xs) none) h

abbrev AreOnce : List ArgLine → Type 0
AreOnce xs = (m n : ℕ) (a b : ArgLine) → slice_get xs m ≡ Some a → slice_get xs n ≡ Some b → a.ordinal ≡ b.ordinal → m ≡ n

other_ordinal : (xs : List ArgLine) (x a : ArgLine) (m : ℕ) → list_any (has_ordinal x.ordinal) xs ≡ false → slice_get xs m ≡ Some a → a.ordinal ≡ x.ordinal → ⊥
other_ordinal xs x a m none h e = eqb-false a.ordinal x.ordinal (none_at (has_ordinal x.ordinal) xs m a none h) e

once_more : (xs : List ArgLine) (x : ArgLine) → list_any (has_ordinal x.ordinal) xs ≡ false → AreOnce xs → AreOnce (xs ++ x ∷ [])
once_more xs x none old m n a b g h e = elim (get_push xs x m a g) [
  | inl p ↦ elim (get_push xs x n b h) [
    | inl q ↦ old m n a b p q e
    | inr q ↦ absurd (other_ordinal xs x a m none p (e ∙ ap (λ y. y.ordinal) (sym q.1)))
  ]
  | inr p ↦ elim (get_push xs x n b h) [
    | inl q ↦ absurd (other_ordinal xs x b n none q (sym e ∙ ap (λ y. y.ordinal) (sym p.1)))
    | inr q ↦ p.0 ∙ sym q.0
  ]
]

other_name : (xs : List (List ℕ)) (x a : List ℕ) (m : ℕ) → list_any (bytes_eq x) xs ≡ false → slice_get xs m ≡ Some a → x ≡ a → ⊥
other_name xs x a m none h e =
    let told = none_at (bytes_eq x) xs m a none h in
    let same : bytes_eq x a ≡ true = ap (bytes_eq x) (sym e) ∙ same_name x in
    let both : true ≡ false = sym same ∙ told in
    cc

distinct_pushed : (xs : List (List ℕ)) (x : List ℕ) → list_any (bytes_eq x) xs ≡ false → AreDistinct xs → AreDistinct (xs ++ x ∷ [])
distinct_pushed xs x none old m n a g h = elim (get_push xs x m a g) [
  | inl p ↦ elim (get_push xs x n a h) [
    | inl q ↦ old m n a p q
    | inr q ↦ absurd (other_name xs x a m none p q.1)
  ]
  | inr p ↦ elim (get_push xs x n a h) [
    | inl q ↦ absurd (other_name xs x a n none q p.1)
    | inr q ↦ p.0 ∙ sym q.0
  ]
]

distinct_if : (xs : List (List ℕ)) (x : List ℕ) (b : Bool) → list_any (bytes_eq x) xs ≡ b → AreDistinct xs → AreDistinct (cond b xs (xs ++ x ∷ []))
distinct_if xs x true e old = old
distinct_if xs x false e old = distinct_pushed xs x e old

distinct_more : (xs : List (List ℕ)) (g : Given) → AreDistinct xs → AreDistinct (files_with xs g)
distinct_more xs (given.Buffer file) old = distinct_if xs file (list_any (bytes_eq file) xs) refl old
distinct_more xs (given.Local bytes) old = old
distinct_more xs (given.Plain bytes) old = old

named_if : (xs : List (List ℕ)) (x : List ℕ) (b : Bool) → IsName x → All IsName xs → All IsName (cond b xs (xs ++ x ∷ []))
named_if xs x true h old = old
named_if xs x false h old = All-push IsName xs x old h

named_more : (xs : List (List ℕ)) (n : ℕ) (g : Given) → IsFit (said.Argument n g) → All IsName xs → All IsName (files_with xs g)
named_more xs n (given.Buffer file) h old = named_if xs file (list_any (bytes_eq file) xs) h old
named_more xs n (given.Local bytes) h old = old
named_more xs n (given.Plain bytes) h old = old

-- ---- each buffer that is given has a name

abbrev AreThere : List ArgLine → ℕ → Type 0
AreThere xs count = (ordinal file : ℕ) → Contains xs (record { ordinal = ordinal; kind = kind.Buffer file }) → file < count

below : (a b : ℕ) → a ≤ b → (a ≡ b → ⊥) → a < b
below a b h apart = omega arith

place_if : (xs : List (List ℕ)) (x : List ℕ) (b : Bool) → list_any (bytes_eq x) xs ≡ b → position_or_len (bytes_eq x) (cond b xs (xs ++ x ∷ [])) < length (cond b xs (xs ++ x ∷ []))
place_if xs x true e =
    let apart : position_or_len (bytes_eq x) xs ≡ length xs → ⊥ = λ same. (let none = none_passes (bytes_eq x) xs same in let both : true ≡ false = sym e ∙ none in cc) in
    below _ _ (prefix_len-le-length (λ y. not (bytes_eq x y)) xs) apart
place_if xs x false e =
    let at = place_of_new (bytes_eq x) xs x (same_name x) (place_of_none (bytes_eq x) xs e) in
    omega (arith, at, length-append xs (x ∷ []))

more_if : (xs : List (List ℕ)) (x : List ℕ) (b : Bool) → length xs ≤ length (cond b xs (xs ++ x ∷ []))
more_if xs x true = omega arith
more_if xs x false = omega (arith, length-append xs (x ∷ []))

more_files : (xs : List (List ℕ)) (g : Given) → length xs ≤ length (files_with xs g)
more_files xs (given.Buffer file) = more_if xs file (list_any (bytes_eq file) xs)
more_files xs (given.Local bytes) = omega arith
more_files xs (given.Plain bytes) = omega arith

new_there : (files : List (List ℕ)) (g : Given) (file : ℕ) → kind_of (files_with files g) g ≡ kind.Buffer file → file < length (files_with files g)
new_there files (given.Buffer name) file e =
    let at : position_or_len (bytes_eq name) (with_file files name) ≡ file = cc in
    let within = place_if files name (list_any (bytes_eq name) files) refl in
    omega (arith, at, within)
new_there files (given.Local bytes) file e = absurd (let never : ⊥ = cc in never)
new_there files (given.Plain bytes) file e = absurd (let never : ⊥ = cc in never)

there_more : (xs : List ArgLine) (files : List (List ℕ)) (n : ℕ) (g : Given) → AreThere xs (length files) → AreThere (xs ++ record { ordinal = n; kind = kind_of (files_with files g) g } ∷ []) (length (files_with files g))
there_more xs files n g old ordinal file c = elim (Contains-push_cases xs (record { ordinal = n; kind = kind_of (files_with files g) g }) (record { ordinal = ordinal; kind = kind.Buffer file }) c) [
  | inl p ↦ (let h = old ordinal file p in let m = more_files files g in omega (arith, h, m))
  | inr p ↦ new_there files g file (ap (λ (a : ArgLine). a.kind) p)
]

-- ---- each name is of a buffer that is given

abbrev AreGiven : List ArgLine → ℕ → Type 0
AreGiven xs count = (file : ℕ) → file < count → IsGiven xs file

below_or_last : (a n : ℕ) → a < n + 1 → (a < n) ⊎ (a ≡ n)
below_or_last zero zero h = inr refl
below_or_last zero (suc n) h = inl (omega arith)
below_or_last (suc a) zero h = absurd (omega (arith, h))
below_or_last (suc a) (suc n) h = elim (below_or_last a n (omega (arith, h))) [ inl p ↦ inl (omega (arith, p)) | inr e ↦ inr (ap suc e) ]

given_still : (xs : List ArgLine) (a : ArgLine) (count : ℕ) → AreGiven xs count → AreGiven (xs ++ a ∷ []) count
given_still xs a count old file low = let g = old file low in (g.0, Contains-append_left xs (a ∷ []) _ g.1)

given_if : (xs : List ArgLine) (files : List (List ℕ)) (n : ℕ) (name : List ℕ) (b : Bool) → list_any (bytes_eq name) files ≡ b → AreGiven xs (length files) → AreGiven (xs ++ record { ordinal = n; kind = kind.Buffer (position_or_len (bytes_eq name) (cond b files (files ++ name ∷ []))) } ∷ []) (length (cond b files (files ++ name ∷ [])))
given_if xs files n name true e old file low = given_still xs _ (length files) old file low
given_if xs files n name false e old file low =
    let at = position_or_len (bytes_eq name) (files ++ name ∷ []) in
    let added : ArgLine = record { ordinal = n; kind = kind.Buffer at } in
    let last : at ≡ length files = place_of_new (bytes_eq name) files name (same_name name) (place_of_none (bytes_eq name) files e) in
    elim (below_or_last file (length files) (omega (arith, low, length-append files (name ∷ [])))) [
      | inl p ↦ given_still xs added (length files) old file p
      | inr q ↦ (n, subst (λ f. Contains (xs ++ added ∷ []) (record { ordinal = n; kind = kind.Buffer f })) (last ∙ sym q) (Contains-push xs added))
    ]

given_more : (xs : List ArgLine) (files : List (List ℕ)) (n : ℕ) (g : Given) → AreGiven xs (length files) → AreGiven (xs ++ record { ordinal = n; kind = kind_of (files_with files g) g } ∷ []) (length (files_with files g))
given_more xs files n (given.Buffer file) old = given_if xs files n file (list_any (bytes_eq file) files) refl old
given_more xs files n (given.Local bytes) old = given_still xs _ (length files) old
given_more xs files n (given.Plain bytes) old = given_still xs _ (length files) old

-- ---- what the lines have said is a launch so far

pub record IsSound (d : Draft) : Type 0 where
  pub kernel : (name : List ℕ) → d.kernel ≡ Some name → IsName name
  pub global : (g : Grid) → d.global ≡ Some g → IsGrid g
  pub local : (l : LocalLine) → d.local ≡ Some l → IsGrid l.grid
  pub schedule : (s : Schedule) → d.schedule ≡ Some s → IsSchedule s
  pub steps : (n : ℕ) → d.steps ≡ Some n → IsCount n
  pub once : AreOnce d.args
  pub there : AreThere d.args (length d.files)
  pub given : AreGiven d.args (length d.files)
  pub files : AreDistinct d.files
  pub named : All IsName d.files

none_there : (a : ArgLine) → Contains [] a → ⊥
none_there a c = let h = c.1 in omega (arith, h)

sound_first : IsSound (draft_of [])
sound_first = record {
  kernel = λ name h. absurd (none_some name h);
  global = λ g h. absurd (none_some g h);
  local = λ l h. absurd (none_some l h);
  schedule = λ s h. absurd (none_some s h);
  steps = λ n h. absurd (none_some n h);
  once = λ m n a b g h e. absurd (none_some a g);
  there = λ ordinal file c. absurd (none_there _ c);
  given = λ file low. absurd (let below : file < 0 = low in omega (arith, below));
  files = λ m n name g h. absurd (none_some name g);
  named = All-nil IsName;
}

put_fits : {A : Type 0} (P : A → Type 0) (x y : A) → P x → Some x ≡ Some y → P y
put_fits P x y h e = (let s : x ≡ y = cc in subst P s h)

sound_if : (b : Bool) (d e : Draft) → (b ≡ false → IsSound d) → cond {A = Result Draft ℕ} b (Err 7) (Ok d) ≡ Ok e → IsSound e
sound_if true d e h k = absurd (let never : ⊥ = cc in never)
sound_if false d e h k = (let s : d ≡ e = cc in subst IsSound s (h refl))

sound_taken : (d e : Draft) (line : ℕ) (s : Said) → IsSound d → IsFit s → taken d line s ≡ Ok e → IsSound e
sound_taken d e line said.Nothing h fit k = (let s : d ≡ e = cc in subst IsSound s h)
sound_taken d e line (said.Kernel name) h fit k = sound_if (is_some d.kernel) _ e (λ p. record { kernel = λ n q. put_fits IsName name n fit q; global = h.global; local = h.local; schedule = h.schedule; steps = h.steps; once = h.once; there = h.there; given = h.given; files = h.files; named = h.named }) k
sound_taken d e line (said.Global grid) h fit k = sound_if (is_some d.global) _ e (λ p. record { kernel = h.kernel; global = λ g q. put_fits IsGrid grid g fit q; local = h.local; schedule = h.schedule; steps = h.steps; once = h.once; there = h.there; given = h.given; files = h.files; named = h.named }) k
sound_taken d e line (said.Local grid) h fit k = sound_if (is_some d.local) _ e (λ p. record { kernel = h.kernel; global = h.global; local = λ l q. put_fits (λ (l : LocalLine). IsGrid l.grid) _ l fit q; schedule = h.schedule; steps = h.steps; once = h.once; there = h.there; given = h.given; files = h.files; named = h.named }) k
sound_taken d e line (said.Argument n g) h fit k = sound_if (list_any (has_ordinal n) d.args) _ e (λ p. record {
  kernel = h.kernel;
  global = h.global;
  local = h.local;
  schedule = h.schedule;
  steps = h.steps;
  once = once_more d.args (record { ordinal = n; kind = kind_of (files_with d.files g) g }) p h.once;
  there = there_more d.args d.files n g h.there;
  given = given_more d.args d.files n g h.given;
  files = distinct_more d.files g h.files;
  named = named_more d.files n g fit h.named;
}) k
sound_taken d e line (said.Schedule schedule) h fit k = sound_if (is_some d.schedule) _ e (λ p. record { kernel = h.kernel; global = h.global; local = h.local; schedule = λ s q. put_fits IsSchedule schedule s fit q; steps = h.steps; once = h.once; there = h.there; given = h.given; files = h.files; named = h.named }) k
sound_taken d e line (said.Steps count) h fit k = sound_if (is_some d.steps) _ e (λ p. record { kernel = h.kernel; global = h.global; local = h.local; schedule = h.schedule; steps = λ n q. put_fits IsCount count n fit q; once = h.once; there = h.there; given = h.given; files = h.files; named = h.named }) k

-- ---- all lines

once_if : (before : List Said) (t s : Said) (b : Bool) → is_given before t ≡ b → cond {A = Result Said ℕ} b (Err 7) (Ok t) ≡ Ok s → (t ≡ s) × (is_given before s ≡ false)
once_if before t s true e h = absurd (let never : ⊥ = cc in never)
once_if before t s false e h = (let same : t ≡ s = cc in (same, ap (is_given before) (sym same) ∙ e))

once_ok : (before : List Said) (v : Result Said ℕ) (s : Said) → once before v ≡ Ok s → (v ≡ Ok s) × (is_given before s ≡ false)
once_ok before (Ok t) s h = let p = once_if before t s (is_given before t) refl h in (ap Ok p.0, p.1)
once_ok before (Err rule) s h = absurd (let never : ⊥ = cc in never)

sound_next : (before : List Said) (line : List ℕ) (s : Said) → IsSound (draft_of before) → said_after before line ≡ Ok s → IsSound (draft_of (before ++ s ∷ []))
sound_next before line s h e =
    let p = once_ok before (line_said line) s e in
    let fit : IsFit s = subst Fits p.0 (line_fits line) in
    sound_taken (draft_of before) (draft_of (before ++ s ∷ [])) (length before + 1) s h fit (taken_is before s ∙ ap (λ b. cond b (Err 7) (Ok (draft_of (before ++ s ∷ [])))) p.1)

sound_at : (before all : List Said) (line : List ℕ) (lines : List (List ℕ)) (v : Result Said ℕ) → ((s : Said) → IsSound (draft_of (before ++ s ∷ [])) → all_said (before ++ s ∷ []) lines ≡ Ok all → IsSound (draft_of all)) → IsSound (draft_of before) → said_after before line ≡ v → at_line (length before + 1) v (λ s. all_said (before ++ s ∷ []) lines) ≡ Ok all → IsSound (draft_of all)
sound_at before all line lines (Ok s) rest h e k = rest s (sound_next before line s h e) k
sound_at before all line lines (Err rule) rest h e k = absurd (let never : ⊥ = cc in never)

sound_lines : (before all : List Said) (lines : List (List ℕ)) → IsSound (draft_of before) → all_said before lines ≡ Ok all → IsSound (draft_of all)
sound_lines before all [] h e = (let same : before ≡ all = cc in subst (λ s. IsSound (draft_of s)) same h)
sound_lines before all (line ∷ lines) h e = sound_at before all line lines (said_after before line) (λ s. sound_lines (before ++ s ∷ []) all lines) h refl e

-- ---- the launch

schedule_or : (o : Option Schedule) → ((s : Schedule) → o ≡ Some s → IsSchedule s) → IsSchedule (unwrap_or o (Robin 1))
schedule_or None h = omega arith
schedule_or (Some s) h = h s refl

steps_or : (o : Option ℕ) → ((n : ℕ) → o ≡ Some n → IsCount n) → IsCount (unwrap_or o 100000000)
steps_or None h = record { some = omega arith; few = omega arith }
steps_or (Some n) h = h n refl

readable_if : (d : Draft) (l : Launch) (f : Fault) (kernel : List ℕ) (g : Grid) (o : LocalLine) (b : Bool) → eqb g.dims o.grid.dims ≡ b → d.kernel ≡ Some kernel → d.global ≡ Some g → d.local ≡ Some o → IsSound d → length d.files < 2 ^ 32 → cond {A = Result Launch Fault} b (Ok (record { kernel = kernel; dims = g.dims; global = g.sizes; local = o.grid.sizes; files = d.files; args = d.args; schedule = unwrap_or d.schedule (Robin 1); steps = unwrap_or d.steps 100000000 })) (Err f) ≡ Ok l → IsReadable l
readable_if d l f kernel g o false test is_kernel is_global is_local h few e = absurd (let never : ⊥ = cc in never)
readable_if d l f kernel g o true test is_kernel is_global is_local h few e =
    let made : Launch = record { kernel = kernel; dims = g.dims; global = g.sizes; local = o.grid.sizes; files = d.files; args = d.args; schedule = unwrap_or d.schedule (Robin 1); steps = unwrap_or d.steps 100000000 } in
    let same : made ≡ l = cc in
    let global = h.global g is_global in
    let local = h.local o is_local in
    subst IsReadable same (record {
      launch = λ buffers count. record {
        some = global.some;
        few = global.few;
        global = global.sizes;
        local = subst (λ n. AreSizes n (sizes_of o.grid.sizes)) (sym (eqb-true g.dims o.grid.dims test)) local.sizes;
        once = h.once;
        buffers = λ ordinal file c. (let there = h.there ordinal file c in omega (arith, there, count));
      };
      kernel = h.kernel kernel is_kernel;
      files = h.files;
      named = h.named;
      names = names_utf8 d.files h.named;
      few = few;
      given = h.given;
      schedule = schedule_or d.schedule h.schedule;
      steps = steps_or d.steps h.steps;
    })

readable_by : (d : Draft) (count : ℕ) (l : Launch) (kernel : Option (List ℕ)) (g : Option Grid) (o : Option LocalLine) → d.kernel ≡ kernel → d.global ≡ g → d.local ≡ o → IsSound d → length d.files < 2 ^ 32 → finished d count kernel g o ≡ Ok l → IsReadable l
readable_by d count l (Some kernel) (Some g) (Some o) is_kernel is_global is_local h few e = readable_if d l _ kernel g o (eqb g.dims o.grid.dims) refl is_kernel is_global is_local h few e
readable_by d count l (Some kernel) (Some g) None is_kernel is_global is_local h few e = absurd (let never : ⊥ = cc in never)
readable_by d count l (Some kernel) None o is_kernel is_global is_local h few e = absurd (let never : ⊥ = cc in never)
readable_by d count l None g o is_kernel is_global is_local h few e = absurd (let never : ⊥ = cc in never)

readable_from : (v : Result (List Said) Fault) (l : Launch) → ((lines : List Said) → v ≡ Ok lines → IsSound (draft_of lines)) → ((lines : List Said) → v ≡ Ok lines → length lines ≤ 65536) → launch_said v ≡ Ok l → IsReadable l
readable_from (Ok lines) l h small e = (let d = draft_of lines in readable_by d (length lines) l d.kernel d.global d.local refl refl refl (h lines refl) (let few = few_files lines in let count = small lines refl in omega (arith, few, count)) (drafted_is lines ∙ e))
readable_from (Err fault) l h small e = absurd (let never : ⊥ = cc in never)

chosen_ok : (b : Bool) (v : Result Launch Fault) (f : Fault) (l : Launch) → cond b v (Err f) ≡ Ok l → v ≡ Ok l
chosen_ok true v f l e = e
chosen_ok false v f l e = absurd (let never : ⊥ = cc in never)

chosen_small : (b : Bool) (v : Result Launch Fault) (f : Fault) (l : Launch) → cond b v (Err f) ≡ Ok l → b ≡ true
chosen_small true v f l e = refl
chosen_small false v f l e = absurd (let never : ⊥ = cc in never)

-- ---- there are no more lines than bytes

joined : (b : ℕ) (lines : List (List ℕ)) → length (onto_first b lines) ≤ length lines + 1
joined b [] = omega arith
joined b (line ∷ lines) = omega arith

one_more : (b : ℕ) (lines : List (List ℕ)) (count : ℕ) (t : Bool) → length lines ≤ count → length (cond t ([] ∷ lines) (onto_first b lines)) ≤ count + 1
one_more b lines count true h = omega (arith, h)
one_more b lines count false h = let more = joined b lines in omega (arith, h, more)

few_lines : (text : List ℕ) → length (lines_of text) ≤ length text
few_lines [] = omega arith
few_lines (b ∷ bs) = let h = one_more b (lines_of bs) (length bs) (eqb b 10) (few_lines bs) in omega (arith, h)

counted_at : (before all : List Said) (lines : List (List ℕ)) (v : Result Said ℕ) → ((s : Said) → all_said (before ++ s ∷ []) lines ≡ Ok all → length all ≡ length (before ++ s ∷ []) + length lines) → at_line (length before + 1) v (λ s. all_said (before ++ s ∷ []) lines) ≡ Ok all → length all ≡ length before + (length lines + 1)
counted_at before all lines (Ok s) rest e = let h = rest s e in let pushed = length-append before (s ∷ []) in omega (arith, h, pushed)
counted_at before all lines (Err rule) rest e = absurd (let never : ⊥ = cc in never)

counted_lines : (before all : List Said) (lines : List (List ℕ)) → all_said before lines ≡ Ok all → length all ≡ length before + length lines
counted_lines before all [] e = (let same : before ≡ all = cc in let count = ap (λ (s : List Said). length s) same in omega (arith, count))
counted_lines before all (line ∷ lines) e = let h = counted_at before all lines (said_after before line) (λ s. counted_lines (before ++ s ∷ []) all lines) e in omega (arith, h)

few_said : (text : List ℕ) (lines : List Said) → length text ≤ 65536 → all_said [] (lines_of text) ≡ Ok lines → length lines ≤ 65536
few_said text lines small e = let count = counted_lines [] lines (lines_of text) e in let few = few_lines text in omega (arith, count, few, small)

pub readable : (text : List ℕ) (l : Launch) → launch_of text ≡ Ok l → IsReadable l
unfolding launch_of
readable text l e =
    let small = leb-true (length text) 65536 (chosen_small (leb (length text) 65536) _ _ l e) in
    readable_from (all_said [] (lines_of text)) l (λ lines. sound_lines [] lines (lines_of text) sound_first) (λ lines. few_said text lines small) (chosen_ok (leb (length text) 65536) _ _ l e)

-- of what a call answers
pub readable_answer : (text : List ℕ) (r : Result Launch LaunchStop) → IfOk r (λ launch. launch_of text ≡ Ok launch) → IfOk r IsReadable
readable_answer text (Ok l) h = readable text l h
readable_answer text (Err stop) h = tt
