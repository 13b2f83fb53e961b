-- A name is found among the entries of a map, and a new one goes last.
use Rattle.std.proofs.Common.{◌≡◌, ℕ, Bool, Some, None, List, [], ◌∷◌, ◌++◌, refl, ap, ◌∙◌}
use Rattle.std.specs.Prelude.{bytes_eq, if◌then◌else◌}
use Rattle.std.specs.Global.{Vec}
use Rattle.std.specs.Map.{lookup}
use Rattle.std.proofs.lemmas.List.{map-append}
use Rattle.indexmap.specs.IndexMap.{IndexMap, get, insert_entry}
use Rattle.indexmap.proofs.CallerLemmas.{insert_entry-new}
use Rattle.cl_grammar.specs.Lexemes.{vector_of}
use Rattle.cl_grammar.specs.Names.{name_of, names_of}

abbrev pub same : Vec ℕ → Vec ℕ → Bool
same a b = bytes_eq a.items b.items

pub name_found : (name : List ℕ) (entries : List (Vec ℕ × Bool)) → lookup (λ k. bytes_eq name k.items) entries ≡ vector_of (names_of entries) name
name_found name [] = refl
name_found name (e ∷ es) = ap (λ r. if bytes_eq name e.0.items then Some e.1 else r) (name_found name es)

pub name_added : {S : Type 0} (old : IndexMap (Vec ℕ) Bool S) (key : Vec ℕ) (name : List ℕ) (vector : Bool) → key.items ≡ name → vector_of (names_of old.entries) name ≡ None → names_of (insert_entry same old.entries key vector) ≡ names_of old.entries ++ record { name = name; vector = vector } ∷ []
name_added old key name vector is none =
    let absent : get same old key ≡ None = ap (λ n. lookup (λ k. bytes_eq n k.items) old.entries) is ∙ name_found name old.entries ∙ none in
    ap names_of (insert_entry-new same old key vector absent) ∙ map-append name_of old.entries ((key, vector) ∷ []) ∙ ap (λ n. names_of old.entries ++ record { name = n; vector = vector } ∷ []) is
