-- A member is found among the entries of a map, and a new one goes last.
use Rattle.std.proofs.Common.{◌≡◌, ℕ, zero, suc, ◌+◌, ◌<◌, Bool, true, false, ◌||◌, Option, Some, None, List, [], ◌∷◌, ◌++◌, length, take, get_or, slice_get, refl, sym, ap, ◌∙◌, subst, true≢false}
use Rattle.std.specs.Prelude.{bytes_eq, if◌then◌else◌, is_some}
use Rattle.std.specs.Global.{Vec}
use Rattle.std.specs.Map.{lookup}
use Rattle.std.proofs.lemmas.List.{map-append, length-map, take_more}
use Rattle.std.proofs.lemmas.Option.{slice_get_within}
use Rattle.indexmap.specs.IndexMap.{IndexMap, get, insert_entry}
use Rattle.indexmap.proofs.CallerLemmas.{insert_entry-new}
use Rattle.cl_types.specs.declared.types.Member.{Member}
use Rattle.cl_types.specs.declared.types.TypeId.{TypeId}
use Rattle.cl_words.specs.Words.{has_member}
use Rattle.cl_make.proofs.Growing.{none_some, some_same}
use Rattle.cl_type_expr.specs.Members.{member_of_entry, members_of_entries}

abbrev pub same : Vec ℕ → Vec ℕ → Bool
same a b = bytes_eq a.items b.items

found_first : (b r : Bool) (t : TypeId) (rest : Option TypeId) → is_some rest ≡ r → is_some (if b then Some t else rest) ≡ (b || r)
found_first true r t rest h = refl
found_first false r t rest h = h

pub member_found : (name : List ℕ) (entries : List (Vec ℕ × TypeId)) → is_some (lookup (λ k. bytes_eq name k.items) entries) ≡ has_member name (members_of_entries entries)
member_found name [] = refl
member_found name (e ∷ es) = found_first (bytes_eq name e.0.items) (has_member name (members_of_entries es)) e.1 (lookup (λ k. bytes_eq name k.items) es) (member_found name es)

none_of : (o : Option TypeId) → is_some o ≡ false → o ≡ None
none_of None h = refl
none_of (Some t) h = absurd (true≢false h)

pub member_added : {S : Type 0} (old : IndexMap (Vec ℕ) TypeId S) (key : Vec ℕ) (name : List ℕ) (ty : TypeId) → key.items ≡ name → has_member name (members_of_entries old.entries) ≡ false → members_of_entries (insert_entry same old.entries key ty) ≡ members_of_entries old.entries ++ record { name = name; ty = ty } ∷ []
member_added old key name ty is none =
    let absent : get same old key ≡ None = ap (λ n. lookup (λ k. bytes_eq n k.items) old.entries) is ∙ none_of (lookup (λ k. bytes_eq name k.items) old.entries) (member_found name old.entries ∙ none) in
    ap members_of_entries (insert_entry-new same old key ty absent) ∙ map-append member_of_entry old.entries ((key, ty) ∷ []) ∙ ap (λ n. members_of_entries old.entries ++ record { name = n; ty = ty } ∷ []) is

-- ---- the entries in their order

got : (entries : List (Vec ℕ × TypeId)) (i : ℕ) (e : Vec ℕ × TypeId) (d : Member) → slice_get entries i ≡ Some e → get_or (members_of_entries entries) i d ≡ member_of_entry e
got [] i e d h = absurd (none_some h)
got (x ∷ xs) zero e d h = ap member_of_entry (some_same x e h)
got (x ∷ xs) (suc i) e d h = got xs i e d h

pub list_more : (entries : List (Vec ℕ × TypeId)) (view before all : List Member) (i : ℕ) (key : Vec ℕ) (ty : TypeId) (name : List ℕ) → members_of_entries entries ≡ view → Some (key, ty) ≡ slice_get entries i → name ≡ key.items → before ≡ take i view → all ≡ before ++ record { name = name; ty = ty } ∷ [] → all ≡ take (i + 1) view
list_more entries view before all i key ty name viewed found named taken push =
    let h : slice_get entries i ≡ Some (key, ty) = sym found in
    let low : i < length (members_of_entries entries) = subst (λ n. i < n) (sym (length-map entries member_of_entry)) (slice_get_within entries i (key, ty) h) in
    push ∙ ap (λ z. z ++ record { name = name; ty = ty } ∷ []) taken ∙ ap (λ n. take i view ++ record { name = n; ty = ty } ∷ []) named
    ∙ ap (λ z. take i z ++ member_of_entry (key, ty) ∷ []) (sym viewed)
    ∙ ap (λ m. take i (members_of_entries entries) ++ m ∷ []) (sym (got entries i (key, ty) (member_of_entry (key, ty)) h))
    ∙ sym (take_more (members_of_entries entries) i (member_of_entry (key, ty)) low) ∙ ap (take (i + 1)) viewed
