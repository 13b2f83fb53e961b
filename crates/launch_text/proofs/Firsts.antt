-- What the lines say of one thing, one line later.
use Rattle.std.proofs.Common.{◌≡◌, ℕ, ◌+◌, Bool, true, false, ◌||◌, cond, eqb, List, [], ◌∷◌, ◌++◌, length, Option, Some, None, is_some, refl, ap, ◌∙◌}
use Rattle.std.specs.List.{filter_map, list_any}
use Rattle.std.specs.Option.{option_or}
use Rattle.launch_text.specs.declared.draft.LocalLine.{LocalLine}
use Rattle.launch_text.specs.declared.said.Grid.{Grid}
use Rattle.launch_text.specs.declared.said.Said.{Said}
use Rattle.launch_text.specs.declared.said.Said.TheVariants as said
use Rattle.launch_text.specs.Drafts.{has_ordinal}
use Rattle.launch_text.specs.LaunchText.{first_of, local_of, given_to, argument_of, is_local, local_line}
use Rattle.launch_text.proofs.Places.{place_of_new, place_of_none, place_kept}

pub first_of_same : {A : Type 0} (what : Said → Option A) (lines : List Said) (s : Said) → what s ≡ None → first_of what (lines ++ s ∷ []) ≡ first_of what lines
first_of_same what [] s e = ap (λ o. option_or o None) e
first_of_same what (x ∷ lines) s e = ap (option_or (what x)) (first_of_same what lines s e)

or_nothing : {A : Type 0} (o : Option A) → option_or o None ≡ o
or_nothing None = refl
or_nothing (Some x) = refl

second_none : {A : Type 0} (o p : Option A) → option_or o p ≡ None → p ≡ None
second_none None p e = e
second_none (Some x) p e = cc

first_none : {A : Type 0} (o p : Option A) → option_or o p ≡ None → o ≡ None
first_none None p e = refl
first_none (Some x) p e = cc

pub first_of_new : {A : Type 0} (what : Said → Option A) (lines : List Said) (s : Said) → first_of what lines ≡ None → first_of what (lines ++ s ∷ []) ≡ what s
first_of_new what [] s e = or_nothing (what s)
first_of_new what (x ∷ lines) s e = ap (λ o. option_or o (first_of what (lines ++ s ∷ []))) (first_none (what x) (first_of what lines) e) ∙ first_of_new what lines s (second_none (what x) (first_of what lines) e)

some_or : {A : Type 0} (o p : Option A) (b : Bool) → b ≡ is_some p → (is_some o || b) ≡ is_some (option_or o p)
some_or None p b e = e
some_or (Some x) p b e = refl

-- ---- the local sizes and their line

any_local : (lines : List Said) → list_any is_local lines ≡ is_some (first_of local_of lines)
any_local [] = refl
any_local (s ∷ lines) = some_or (local_of s) (first_of local_of lines) (list_any is_local lines) (any_local lines)

abbrev pub located : ℕ → Option Grid → Option LocalLine
located line (Some grid) = Some (record { grid = grid; line = line })
located line None = None

pub some_located : (line : ℕ) (o : Option Grid) → is_some (located line o) ≡ is_some o
some_located line None = refl
some_located line (Some grid) = refl

located_kept : (lines : List Said) (s : Said) (o : Option Grid) → first_of local_of lines ≡ o → located (local_line (lines ++ s ∷ [])) o ≡ located (local_line lines) o
located_kept lines s None e = refl
located_kept lines s (Some grid) e = ap (λ n. Some (record { grid = grid; line = n + 1 })) (place_kept is_local lines s (any_local lines ∙ ap is_some e))

abbrev pub local_in : List Said → Option LocalLine
local_in lines = located (local_line lines) (first_of local_of lines)

pub local_same : (lines : List Said) (s : Said) → local_of s ≡ None → local_in (lines ++ s ∷ []) ≡ local_in lines
local_same lines s e = ap (located (local_line (lines ++ s ∷ []))) (first_of_same local_of lines s e) ∙ located_kept lines s (first_of local_of lines) refl

pub local_new : (lines : List Said) (grid : Grid) → first_of local_of lines ≡ None → local_in (lines ++ said.Local grid ∷ []) ≡ Some (record { grid = grid; line = length lines + 1 })
local_new lines grid none =
    let place = place_of_none is_local lines (any_local lines ∙ ap is_some none) in
    ap (located (local_line (lines ++ said.Local grid ∷ []))) (first_of_new local_of lines (said.Local grid) none) ∙ ap (λ n. Some (record { grid = grid; line = n + 1 })) (place_of_new is_local lines (said.Local grid) refl place)

-- ---- arguments

ordinal_at : {A : Type 0} (b : Bool) (g : A) (p : Option A) (r : Bool) → r ≡ is_some p → (b || r) ≡ is_some (option_or (cond b (Some g) None) p)
ordinal_at true g p r e = refl
ordinal_at false g p r e = e

pub any_ordinal : (n : ℕ) (files : List (List ℕ)) (lines : List Said) → list_any (has_ordinal n) (filter_map (argument_of files) lines) ≡ is_some (first_of (given_to n) lines)
any_ordinal n files [] = refl
any_ordinal n files (said.Argument m g ∷ lines) = ordinal_at (eqb m n) g (first_of (given_to n) lines) (list_any (has_ordinal n) (filter_map (argument_of files) lines)) (any_ordinal n files lines)
any_ordinal n files (_ ∷ lines) = any_ordinal n files lines
