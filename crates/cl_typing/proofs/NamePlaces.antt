-- A name is found among the entries of a map, and a new one goes last.
use Rattle.std.specs.Global.{Vec}
use Rattle.std.specs.Prelude.{bytes_eq, if◌then◌else◌, is_some}
use Rattle.std.specs.List.{position}
use Rattle.std.specs.Map.{lookup, keys_of}
use Rattle.std.proofs.Common.{◌≡◌, ℕ, suc, ◌+◌, ◌<◌, ◌≤◌, ltb, cond, not, Bool, true, false, true≢false, Option, Some, None, List, [], ◌∷◌, ◌++◌, length, refl, sym, ap, ◌∙◌, subst, arith, ◌⊎◌, inl, inr}
use Rattle.std.specs.List.{position_or_len}
use Rattle.std.proofs.lemmas.Bool.{lt-ltb, le-ltb, cases_lt}
use Rattle.std.proofs.lemmas.List.{map-append}
use Rattle.indexmap.specs.IndexMap.{IndexMap, get, get_by, index_of_by, insert_entry}
use Rattle.indexmap.proofs.CallerLemmas.{insert_entry-new}
use Rattle.cl_typing.specs.Positions.{one_later, position_of, and_name, names_in}

abbrev pub is_key : List ℕ → Vec ℕ → Bool
is_key name key = bytes_eq name key.items

abbrev pub same_key : Vec ℕ → Vec ℕ → Bool
same_key a b = bytes_eq a.items b.items

-- ---- where a name stands

one_plus : (n : ℕ) → 1 + n ≡ suc n
one_plus n = omega arith

below_by : (n len : ℕ) → (n < len) ⊎ (len ≤ n) → ltb (1 + n) (suc len) ≡ ltb n len
below_by n len (inl h) = lt-ltb (1 + n) (suc len) (omega arith) ∙ sym (lt-ltb n len h)
below_by n len (inr h) = le-ltb (1 + n) (suc len) (omega arith) ∙ sym (le-ltb n len h)

lift : (b : Bool) (n : ℕ) → cond b (Some (1 + n)) None ≡ one_later (cond b (Some n) None)
lift true n = ap Some (one_plus n)
lift false n = refl

step : (b : Bool) (n len : ℕ) (r : Option ℕ) → cond (ltb n len) (Some n) None ≡ r → cond (ltb (cond (not b) (1 + n) 0) (suc len)) (Some (cond (not b) (1 + n) 0)) None ≡ (if b then Some 0 else one_later r)
step true n len r h = ap (λ t. cond t (Some 0) None) (lt-ltb 0 (suc len) (omega arith))
step false n len r h = ap (λ t. cond t (Some (1 + n)) None) (below_by n len (cases_lt n len)) ∙ lift (ltb n len) n ∙ ap one_later h

name_at : (name : List ℕ) (es : List (Vec ℕ × Unit {0})) → position (is_key name) (keys_of es) ≡ position_of name (names_in es)
name_at name [] = refl
name_at name (e ∷ es) = step (bytes_eq name e.0.items) (position_or_len (is_key name) (keys_of es)) (length (keys_of es)) (position_of name (names_in es)) (name_at name es)

pub name_place : {S : Type 0} (m : IndexMap (Vec ℕ) (Unit {0}) S) (name : List ℕ) → index_of_by (is_key name) m ≡ position_of name (names_in m.entries)
name_place m name = name_at name m.entries

-- ---- whether it stands there

later_some : (o : Option ℕ) → is_some (one_later o) ≡ is_some o
later_some None = refl
later_some (Some n) = refl

found_by : (b : Bool) (t : Unit {0}) (rest : Option (Unit {0})) (r : Option ℕ) → is_some rest ≡ is_some r → is_some (if b then Some t else rest) ≡ is_some (if b then Some 0 else one_later r)
found_by true t rest r h = refl
found_by false t rest r h = h ∙ sym (later_some r)

pub name_found : (name : List ℕ) (es : List (Vec ℕ × Unit {0})) → is_some (lookup (is_key name) es) ≡ is_some (position_of name (names_in es))
name_found name [] = refl
name_found name (e ∷ es) = found_by (bytes_eq name e.0.items) e.1 (lookup (is_key name) es) (position_of name (names_in es)) (name_found name es)

-- ---- a name behind the others

stands_by : (b : Bool) (name : List ℕ) (names : List (List ℕ)) → b ≡ true → names ≡ (if b then names else names ++ name ∷ [])
stands_by true name names h = refl
stands_by false name names h = absurd (true≢false (sym h))

added_by : (b : Bool) (name : List ℕ) (names : List (List ℕ)) → b ≡ false → names ++ name ∷ [] ≡ (if b then names else names ++ name ∷ [])
added_by true name names h = absurd (true≢false h)
added_by false name names h = refl

pub name_stands : {S : Type 0} (m : IndexMap (Vec ℕ) (Unit {0}) S) (name : List ℕ) → is_some (get_by (is_key name) m) ≡ true → names_in m.entries ≡ and_name name (names_in m.entries)
name_stands m name h = stands_by (is_some (position_of name (names_in m.entries))) name (names_in m.entries) (sym (name_found name m.entries) ∙ h)

none_of : (o : Option (Unit {0})) → is_some o ≡ false → o ≡ None
none_of None h = refl
none_of (Some t) h = absurd (true≢false h)

pub name_added : {S : Type 0} (old new : IndexMap (Vec ℕ) (Unit {0}) S) (key : Vec ℕ) (name : List ℕ) → key.items ≡ name → is_some (get_by (is_key name) old) ≡ false → new.entries ≡ insert_entry same_key old.entries key tt → names_in new.entries ≡ and_name name (names_in old.entries)
name_added old new key name is none put =
    let absent : get same_key old key ≡ None = none_of (get_by (is_key key.items) old) (subst (λ n. is_some (get_by (is_key n) old) ≡ false) (sym is) none) in
    ap names_in (put ∙ insert_entry-new same_key old key tt absent) ∙ map-append (λ e. e.0.items) old.entries ((key, tt) ∷ [])
    ∙ ap (λ n. names_in old.entries ++ n ∷ []) is ∙ added_by (is_some (position_of name (names_in old.entries))) name (names_in old.entries) (sym (name_found name old.entries) ∙ none)
