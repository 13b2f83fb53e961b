-- A number is found among the entries of a map, and a new one goes last.
use Rattle.std.proofs.Common.{◌≡◌, ℕ, nat_eq, Bool, true, false, ◌||◌, Option, Some, None, List, [], ◌∷◌, ◌++◌, refl, ap, ◌∙◌, true≢false}
use Rattle.std.specs.Prelude.{if◌then◌else◌, is_some}
use Rattle.std.specs.Map.{lookup}
use Rattle.std.proofs.lemmas.List.{map-append}
use Rattle.indexmap.specs.IndexMap.{IndexMap, get, insert_entry}
use Rattle.indexmap.proofs.CallerLemmas.{insert_entry-new}
use Rattle.cl_typing.specs.Statements.{is_among}
use Rattle.cl_typing.specs.Values.{numbers_in}

found_first : (b r : Bool) (t : Unit {0}) (rest : Option (Unit {0})) → is_some rest ≡ r → is_some (if b then Some t else rest) ≡ (b || r)
found_first true r t rest h = refl
found_first false r t rest h = h

pub number_found : (n : ℕ) (entries : List (ℕ × Unit {0})) → is_some (lookup (λ k. nat_eq n k) entries) ≡ is_among n (numbers_in entries)
number_found n [] = refl
number_found n (e ∷ es) = found_first (nat_eq n e.0) (is_among n (numbers_in es)) e.1 (lookup (λ k. nat_eq n k) es) (number_found n es)

none_of : (o : Option (Unit {0})) → is_some o ≡ false → o ≡ None
none_of None h = refl
none_of (Some t) h = absurd (true≢false h)

pub number_added : {S : Type 0} (old : IndexMap ℕ (Unit {0}) S) (n : ℕ) → is_among n (numbers_in old.entries) ≡ false → numbers_in (insert_entry nat_eq old.entries n tt) ≡ numbers_in old.entries ++ n ∷ []
number_added old n none =
    let absent : get nat_eq old n ≡ None = none_of (lookup (λ k. nat_eq n k) old.entries) (number_found n old.entries ∙ none) in
    ap numbers_in (insert_entry-new nat_eq old n tt absent) ∙ map-append (λ e. e.0) old.entries ((n, tt) ∷ [])

pub ruleset numbers = (number_found)
