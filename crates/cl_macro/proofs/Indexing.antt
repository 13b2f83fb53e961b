-- A map of last entries, one entry later.
use Rattle.std.proofs.Common.{◌≡◌, ℕ, ◌+◌, Bool, true, false, Option, Some, None, List, [], ◌∷◌, ◌++◌, length, refl, sym, ap, ◌∙◌, subst, ⊎_elim, arith}
use Rattle.std.specs.Prelude.{bytes_eq, if◌then◌else◌, cond}
use Rattle.std.specs.Global.{Vec}
use Rattle.std.specs.declared.hash.FoldHasher.{FoldHasher}
use Rattle.std.specs.declared.hash.BuildHasherDefault.{BuildHasherDefault}
use Rattle.std.specs.HashMap.{get_by, HashMap, UpdatesBy, IsEmpty}
use Rattle.std.specs.Map.{lookup, IsKeyTest, AreApart, KeepsOthers}
use Rattle.std.specs.Cmp.Lexicographic.{nat_list_eq_equiv}
use Rattle.std.proofs.lemmas.Bool.{cases_Bool, cond-true, cond-false}
use Rattle.std.proofs.lemmas.Slice.Eq.{bytes_eq-Decides}
use Rattle.cl_macro.specs.declared.macros.Entry.{Entry}
use Rattle.cl_macro.specs.Indexed.{IsIndexed}
use Rattle.cl_macro.specs.Names.{Name}
use Rattle.cl_macro.specs.Tables.{latest_from, latest}

abbrev Key : Type 0
Key = Vec ℕ

abbrev Map : Type 0
Map = HashMap Key ℕ (BuildHasherDefault FoldHasher)

-- the test by which a name is looked up
abbrev is_key : Name → Key → Bool
is_key n k = bytes_eq n k.items

apart : (n m : Name) (k : Key) → bytes_eq n m ≡ false → is_key n k ≡ true → is_key m k ≡ false
apart n m k other same = nat_list_eq_equiv.symm m k.items ∙ sym (nat_list_eq_equiv.congr n k.items m same) ∙ other

others : (n m : Name) (old new : List (Key × ℕ)) → KeepsOthers (λ x y. bytes_eq x.items y.items) (is_key n) old new → bytes_eq n m ≡ false → lookup (is_key m) new ≡ lookup (is_key m) old
unfolding KeepsOthers
others n m old new keeps other = keeps (is_key m) (λ x y. nat_list_eq_equiv.congr m x.items y.items) (λ k. apart n m k other)

here : (old new : Map) (n m : Name) (w : Option ℕ) → UpdatesBy (λ x y. bytes_eq x.items y.items) (is_key n) old new w → bytes_eq n m ≡ true → get_by (is_key m) new ≡ w
here old new n m w u same = subst (λ l. get_by (is_key l) new ≡ w) ((bytes_eq-Decides n m).0 same) u.1

found : (es : List Entry) (e : Entry) (at : ℕ) (before : Option ℕ) (n : Name) → latest_from at before n (es ++ e ∷ []) ≡ (if bytes_eq e.name n then Some (at + length es) else latest_from at before n es)
found [] e at before n = ap (λ k. if bytes_eq e.name n then Some k else before) (omega arith)
found (x ∷ es) e at before n = found es e (at + 1) (if bytes_eq x.name n then Some at else before) n ∙ ap (λ k. if bytes_eq e.name n then Some k else latest_from (at + 1) (if bytes_eq x.name n then Some at else before) n es) (omega arith)

by_name : (es : List Entry) (e : Entry) (old new : Map) (n : Name) (b : Bool) → bytes_eq e.name n ≡ b → IsIndexed es old → UpdatesBy (λ x y. bytes_eq x.items y.items) (is_key e.name) old new (Some (length es)) → get_by (is_key n) new ≡ (if b then Some (0 + length es) else latest_from 0 None n es)
unfolding latest
by_name es e old new n true is h u = here old new e.name n (Some (length es)) u is ∙ ap (λ k. Some k) (omega arith)
by_name es e old new n false is h u = others e.name n old.entries new.entries u.3 is ∙ h.each n

more : (es : List Entry) (e : Entry) (old new : Map) → IsIndexed es old → UpdatesBy (λ x y. bytes_eq x.items y.items) (is_key e.name) old new (Some (length es)) → IsIndexed (es ++ e ∷ []) new
unfolding latest
more es e old new h u = record { each = λ n. by_name es e old new n (bytes_eq e.name n) refl h u ∙ sym (found es e 0 None n) }

pub indexed_more : (es now : List Entry) (e : Entry) (old new : Map) (k : Key) (i : ℕ) → IsIndexed es old → now ≡ es ++ e ∷ [] → k.items ≡ e.name → i ≡ length es → UpdatesBy (λ x y. bytes_eq x.items y.items) (λ y. bytes_eq k.items y.items) old new (Some i) → IsIndexed now new
indexed_more es now e old new k i h is key at u = subst (λ l. IsIndexed l new) (sym is) (more es e old new h (subst (λ n. UpdatesBy (λ x y. bytes_eq x.items y.items) (is_key n) old new (Some (length es))) key (subst (λ j. UpdatesBy (λ x y. bytes_eq x.items y.items) (λ y. bytes_eq k.items y.items) old new (Some j)) at u)))

pub indexed_none : (es : List Entry) (map : Map) → es ≡ [] → IsEmpty map → IsIndexed es map
unfolding latest
indexed_none es map is empty = record { each = λ n. ap (lookup (is_key n)) empty ∙ ap (latest_from 0 None n) (sym is) }

pub ruleset indexings = (indexed_none)
