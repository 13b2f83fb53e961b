-- The names of files, each once.
use Rattle.std.proofs.Common.{◌≡◌, ℕ, suc, ◌+◌, ◌≤◌, Bool, true, false, cond, List, [], ◌∷◌, ◌++◌, length, Option, Some, None, fold, refl, sym, ap, ◌∙◌, length-append, append-nil, arith}
use Rattle.std.specs.List.{filter_map, cons_option, list_any, position_or_len}
use Rattle.std.specs.Str.{bytes_eq}
use Rattle.std.proofs.lemmas.List.Elements.{filter_map-append}
use Rattle.std.proofs.lemmas.List.Folds.{list_any-append}
use Rattle.std.proofs.lemmas.List.Sums.{fold-append}
use Rattle.std.proofs.lemmas.Slice.Eq.{bytes_eq-Decides}
use Rattle.launch_text.specs.declared.draft.Draft.{Draft}
use Rattle.launch_text.specs.declared.launch.ArgKind.TheVariants as kind
use Rattle.launch_text.specs.declared.said.Given.{Given}
use Rattle.launch_text.specs.declared.said.Given.TheVariants as given
use Rattle.launch_text.specs.declared.said.Said.{Said}
use Rattle.launch_text.specs.declared.said.Said.TheVariants as said
use Rattle.launch_text.specs.Drafts.{files_with}
use Rattle.launch_text.specs.LaunchText.{file_of, with_file, files_of, kind_of, argument_of, arguments_of}
use Rattle.launch_text.proofs.Places.{none_passes, some_passes, place_of_new, place_kept}

pub same_name : (name : List ℕ) → bytes_eq name name ≡ true
same_name name = (bytes_eq-Decides name name).1 refl

pub new_file : (files pushed : List (List ℕ)) (name : List ℕ) (index count : ℕ) → index ≡ position_or_len (bytes_eq name) files → index ≡ count → count ≡ length files → pushed ≡ files ++ name ∷ [] → pushed ≡ with_file files name
new_file files pushed name index count place e f push = push ∙ sym (rw (none_passes (bytes_eq name) files (sym place ∙ e ∙ f)) refl)

pub old_file : (files : List (List ℕ)) (name : List ℕ) (index count : ℕ) → index ≡ position_or_len (bytes_eq name) files → (index ≡ count → ⊥) → count ≡ length files → files ≡ with_file files name
old_file files name index count place e f = sym (rw (some_passes (bytes_eq name) files (λ g. e (place ∙ g ∙ sym f))) refl)

pub new_place : (files pushed : List (List ℕ)) (name : List ℕ) (index count : ℕ) → index ≡ position_or_len (bytes_eq name) files → index ≡ count → count ≡ length files → pushed ≡ files ++ name ∷ [] → index ≡ position_or_len (bytes_eq name) pushed
new_place files pushed name index count place e f push = e ∙ f ∙ sym (place_of_new (bytes_eq name) files name (same_name name) (sym place ∙ e ∙ f)) ∙ ap (position_or_len (bytes_eq name)) (sym push)

-- the same of what keeps them
pub files_are : (old new : Draft) (files more : List (List ℕ)) → new ≡ record old { files = files } → files ≡ more → new ≡ record old { files = more }
files_are old new files more is e = is ∙ ap (λ f. record old { files = f }) e

-- ---- a file stays where it is

kept_by : (test : List ℕ → Bool) (files : List (List ℕ)) (g : List ℕ) (b : Bool) → list_any test files ≡ true → list_any test (cond b files (files ++ g ∷ [])) ≡ true
kept_by test files g true h = h
kept_by test files g false h = list_any-append test files (g ∷ []) ∙ rw h refl

kept_file : (files : List (List ℕ)) (f g : List ℕ) → list_any (bytes_eq f) files ≡ true → list_any (bytes_eq f) (with_file files g) ≡ true
kept_file files f g h = kept_by (bytes_eq f) files g (list_any (bytes_eq g) files) h

added_by : (files : List (List ℕ)) (f : List ℕ) (b : Bool) → list_any (bytes_eq f) files ≡ b → list_any (bytes_eq f) (cond b files (files ++ f ∷ [])) ≡ true
added_by files f true h = h
added_by files f false h = list_any-append (bytes_eq f) files (f ∷ []) ∙ rw (h, same_name f) refl

added_file : (files : List (List ℕ)) (f : List ℕ) → list_any (bytes_eq f) (with_file files f) ≡ true
added_file files f = added_by files f (list_any (bytes_eq f) files) refl

kept_files : (files : List (List ℕ)) (f : List ℕ) (names : List (List ℕ)) → list_any (bytes_eq f) files ≡ true → list_any (bytes_eq f) (fold with_file files names) ≡ true
kept_files files f [] h = h
kept_files files f (g ∷ names) h = kept_files (with_file files g) f names (kept_file files f g h)

abbrev HasFile : List (List ℕ) → Option (List ℕ) → Type 0
HasFile files None = Unit {0}
HasFile files (Some f) = list_any (bytes_eq f) files ≡ true

abbrev HasFiles : List (List ℕ) → List Said → Type 0
HasFiles files [] = Unit {0}
HasFiles files (s ∷ lines) = HasFile files (file_of s) × HasFiles files lines

has_files_at : (files : List (List ℕ)) (o : Option (List ℕ)) (lines : List Said) → ((others : List (List ℕ)) → HasFiles (fold with_file others (filter_map file_of lines)) lines) → HasFile (fold with_file files (cons_option o (filter_map file_of lines))) o × HasFiles (fold with_file files (cons_option o (filter_map file_of lines))) lines
has_files_at files None lines rest = (tt, rest files)
has_files_at files (Some f) lines rest = (kept_files (with_file files f) f (filter_map file_of lines) (added_file files f), rest (with_file files f))

has_files : (files : List (List ℕ)) (lines : List Said) → HasFiles (fold with_file files (filter_map file_of lines)) lines
has_files files [] = tt
has_files files (s ∷ lines) = has_files_at files (file_of s) lines (λ others. has_files others lines)

place_by : (test : List ℕ → Bool) (files : List (List ℕ)) (g : List ℕ) (b : Bool) → list_any test files ≡ true → position_or_len test (cond b files (files ++ g ∷ [])) ≡ position_or_len test files
place_by test files g true h = refl
place_by test files g false h = place_kept test files g h

argument_stable : (files : List (List ℕ)) (g : List ℕ) (s : Said) → HasFile files (file_of s) → argument_of (with_file files g) s ≡ argument_of files s
argument_stable files g (said.Argument n (given.Buffer f)) h = ap (λ k. Some (record { ordinal = n; kind = kind.Buffer k })) (place_by (bytes_eq f) files g (list_any (bytes_eq g) files) h)
argument_stable files g (said.Argument n (given.Local bytes)) h = refl
argument_stable files g (said.Argument n (given.Plain bytes)) h = refl
argument_stable files g _ h = refl

arguments_stable : (files : List (List ℕ)) (g : List ℕ) (lines : List Said) → HasFiles files lines → filter_map (argument_of (with_file files g)) lines ≡ filter_map (argument_of files) lines
arguments_stable files g [] h = refl
arguments_stable files g (s ∷ lines) h = ap (λ o. cons_option o (filter_map (argument_of (with_file files g)) lines)) (argument_stable files g s h.0) ∙ ap (cons_option (argument_of files s)) (arguments_stable files g lines h.1)

-- ---- one line later

files_more : (lines : List Said) (s : Said) → files_of (lines ++ s ∷ []) ≡ fold with_file (files_of lines) (cons_option (file_of s) [])
files_more lines s = ap (fold with_file []) (filter_map-append file_of lines (s ∷ [])) ∙ fold-append with_file [] (filter_map file_of lines) (cons_option (file_of s) [])

pub files_same : (lines : List Said) (s : Said) → file_of s ≡ None → files_of (lines ++ s ∷ []) ≡ files_of lines
files_same lines s none = files_more lines s ∙ ap (λ o. fold with_file (files_of lines) (cons_option o [])) none

pub files_given : (lines : List Said) (n : ℕ) (g : Given) → files_of (lines ++ said.Argument n g ∷ []) ≡ files_with (files_of lines) g
files_given lines n (given.Buffer f) = files_more lines (said.Argument n (given.Buffer f))
files_given lines n (given.Local bytes) = files_more lines (said.Argument n (given.Local bytes))
files_given lines n (given.Plain bytes) = files_more lines (said.Argument n (given.Plain bytes))

given_stable : (lines : List Said) (g : Given) → filter_map (argument_of (files_with (files_of lines) g)) lines ≡ arguments_of lines
given_stable lines (given.Buffer f) = arguments_stable (files_of lines) f lines (has_files [] lines)
given_stable lines (given.Local bytes) = refl
given_stable lines (given.Plain bytes) = refl

pub arguments_same : (lines : List Said) (s : Said) → file_of s ≡ None → ((files : List (List ℕ)) → argument_of files s ≡ None) → arguments_of (lines ++ s ∷ []) ≡ arguments_of lines
arguments_same lines s no_file no_argument =
    ap (λ files. filter_map (argument_of files) (lines ++ s ∷ [])) (files_same lines s no_file) ∙ filter_map-append (argument_of (files_of lines)) lines (s ∷ []) ∙ ap (λ o. arguments_of lines ++ cons_option o []) (no_argument (files_of lines)) ∙ append-nil (arguments_of lines)

pub arguments_given : (lines : List Said) (n : ℕ) (g : Given) → arguments_of (lines ++ said.Argument n g ∷ []) ≡ arguments_of lines ++ record { ordinal = n; kind = kind_of (files_with (files_of lines) g) g } ∷ []
arguments_given lines n g =
    ap (λ files. filter_map (argument_of files) (lines ++ said.Argument n g ∷ [])) (files_given lines n g) ∙ filter_map-append (argument_of (files_with (files_of lines) g)) lines (said.Argument n g ∷ []) ∙ ap (λ arguments. arguments ++ record { ordinal = n; kind = kind_of (files_with (files_of lines) g) g } ∷ []) (given_stable lines g)

-- ---- there are no more files than lines

more_files : (files : List (List ℕ)) (f : List ℕ) (b : Bool) → length (cond b files (files ++ f ∷ [])) ≤ length files + 1
more_files files f true = omega arith
more_files files f false = omega (arith, length-append files (f ∷ []))

few_files_at : (files : List (List ℕ)) (o : Option (List ℕ)) (lines : List Said) → ((others : List (List ℕ)) → length (fold with_file others (filter_map file_of lines)) ≤ length others + length lines) → length (fold with_file files (cons_option o (filter_map file_of lines))) ≤ length files + suc (length lines)
few_files_at files None lines rest = let h = rest files in omega arith
few_files_at files (Some f) lines rest =
    let h = rest (with_file files f) in
    let one = more_files files f (list_any (bytes_eq f) files) in
    omega (arith, h, one)

few_files_after : (files : List (List ℕ)) (lines : List Said) → length (fold with_file files (filter_map file_of lines)) ≤ length files + length lines
few_files_after files [] = omega arith
few_files_after files (s ∷ lines) = few_files_at files (file_of s) lines (λ others. few_files_after others lines)

pub few_files : (lines : List Said) → length (files_of lines) ≤ length lines
few_files lines = let h = few_files_after [] lines in omega arith
