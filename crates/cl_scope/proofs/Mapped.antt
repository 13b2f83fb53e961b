-- What a map finds after a change at one name.
use Rattle.std.proofs.Common.{◌≡◌, ℕ, Bool, true, false, Option, Some, None, List, refl, sym, ap, ◌∙◌, subst}
use Rattle.std.specs.Prelude.{bytes_eq, if◌then◌else◌, is_some}
use Rattle.std.specs.Global.{Vec}
use Rattle.std.specs.Map.{lookup, KeepsOthers}
use Rattle.std.specs.Cmp.Lexicographic.{nat_list_eq_equiv}
use Rattle.std.proofs.lemmas.Slice.Eq.{bytes_eq-Decides}
use Rattle.indexmap.specs.IndexMap.{IndexMap, get_by, UpdatesBy}
use Rattle.cl_scope.specs.Places.{is_key, joined}
use Rattle.cl_scope.proofs.Choice.{not_some}

abbrev same_key : Vec ℕ → Vec ℕ → Bool
same_key a b = bytes_eq a.items b.items

apart : (n m : List ℕ) (k : Vec ℕ) → bytes_eq n m ≡ false → is_key n k ≡ true → is_key m k ≡ false
apart n m k other same = nat_list_eq_equiv.symm m k.items ∙ sym (nat_list_eq_equiv.congr n k.items m same) ∙ other

others : {V : Type 0} (n m : List ℕ) (old new : List (Vec ℕ × V)) → KeepsOthers same_key (is_key n) old new → bytes_eq n m ≡ false → lookup (is_key m) new ≡ lookup (is_key m) old
unfolding KeepsOthers
others n m old new keeps other = keeps (is_key m) (λ x y. nat_list_eq_equiv.congr m x.items y.items) (λ k. apart n m k other)

module _ {V S : Type 0} (old new : IndexMap (Vec ℕ) V S) (n m : List ℕ) (w : Option V) (u : UpdatesBy same_key (is_key n) old new w) where
  by_test : (b : Bool) → bytes_eq m n ≡ b → get_by (is_key m) new ≡ (if b then w else get_by (is_key m) old)
  by_test true is = subst (λ l. get_by (is_key l) new ≡ w) (sym ((bytes_eq-Decides m n).0 is)) u.1
  by_test false is = others n m old.entries new.entries u.3 (nat_list_eq_equiv.symm n m ∙ is)

  updated : get_by (is_key m) new ≡ (if bytes_eq m n then w else get_by (is_key m) old)
  updated = by_test (bytes_eq m n) refl

joined_choice : (b : Bool) (place : Option ℕ) (o : Option (Option ℕ)) → joined (if b then Some place else o) ≡ (if b then place else joined o)
joined_choice true place o = refl
joined_choice false place o = refl

-- the name stands at the new place, and each other one where it stood
pub moved : {S : Type 0} (old new : IndexMap (Vec ℕ) (Option ℕ) S) (name other : List ℕ) (place : Option ℕ) → UpdatesBy same_key (is_key name) old new (Some place) → joined (get_by (is_key other) new) ≡ (if bytes_eq other name then place else joined (get_by (is_key other) old))
moved old new name other place u = ap joined (updated old new name other (Some place) u) ∙ joined_choice (bytes_eq other name) place (get_by (is_key other) old)

-- a name that had no room gets it, and stands nowhere, as before
pub room_made : {S : Type 0} (old new : IndexMap (Vec ℕ) (Option ℕ) S) (name other : List ℕ) → is_some (get_by (is_key name) old) ≡ false → UpdatesBy same_key (is_key name) old new (Some None) → joined (get_by (is_key other) new) ≡ joined (get_by (is_key other) old)
room_made old new name other none u = moved old new name other None u ∙ by (bytes_eq other name) refl
  where
    by : (b : Bool) → bytes_eq other name ≡ b → (if b then None else joined (get_by (is_key other) old)) ≡ joined (get_by (is_key other) old)
    by true is = sym (ap joined (not_some (get_by (is_key other) old) (subst (λ l. is_some (get_by (is_key l) old) ≡ false) (sym ((bytes_eq-Decides other name).0 is)) none)))
    by false is = refl

-- the same, for a key whose bytes are the name's
pub key_added : {S : Type 0} (old new : IndexMap (Vec ℕ) (Option ℕ) S) (key : Vec ℕ) (name other : List ℕ) → key.items ≡ name → is_some (get_by (is_key name) old) ≡ false → UpdatesBy same_key (same_key key) old new (Some None) → joined (get_by (is_key other) new) ≡ joined (get_by (is_key other) old)
key_added old new key name other is none u = room_made old new name other none (subst (λ n. UpdatesBy same_key (is_key n) old new (Some None)) is u)
