-- The names of the predefined macros, one later.
use Rattle.std.proofs.Common.{◌≡◌, ℕ, suc, ◌+◌, ◌<◌, ◌≤◌, Bool, true, false, List, [], ◌∷◌, ◌++◌, length, drop, get_or, refl, sym, ap, ◌∙◌, arith, add-one, drop-cons}
use Rattle.std.specs.Prelude.{bytes_eq, if◌then◌else◌}
use Rattle.std.proofs.lemmas.List.{drop_all}
use Rattle.cl_macro.specs.declared.macros.Entry.{Entry}
use Rattle.cl_macro.specs.Names.{Name, has}
use Rattle.cl_pre.specs.Predefined.{names, is_predefined, entry_at, first_of, predefined}

names_count : length names ≡ 25
unfolding names
names_count = refl

split_names : (n : ℕ) → n < 25 → drop n names ≡ get_or names n [] ∷ drop (n + 1) names
split_names n h = drop-cons names n [] (omega (arith, names_count, h)) ∙ ap (λ k. get_or names n [] ∷ drop k names) (sym (add-one n))

pub name_later : (n : ℕ) (word name : Name) (t : Bool) → n < 25 → name ≡ get_or names n [] → t ≡ bytes_eq name word → t ≡ false → has word (drop n names) ≡ has word names → has word (drop (n + 1) names) ≡ has word names
name_later n word name t below is test other so_far =
    let skip : has word (get_or names n [] ∷ drop (n + 1) names) ≡ has word (drop (n + 1) names) = ap (λ b. if b then true else has word (drop (n + 1) names)) (ap (λ m. bytes_eq m word) (sym is) ∙ sym test ∙ other) in
    sym skip ∙ ap (has word) (sym (split_names n below)) ∙ so_far

pub name_here : (n : ℕ) (word name : Name) (t : Bool) → n < 25 → name ≡ get_or names n [] → t ≡ bytes_eq name word → t ≡ true → has word (drop n names) ≡ has word names → true ≡ has word names
name_here n word name t below is test same so_far =
    let take : has word (get_or names n [] ∷ drop (n + 1) names) ≡ true = ap (λ b. if b then true else has word (drop (n + 1) names)) (ap (λ m. bytes_eq m word) (sym is) ∙ sym test ∙ same) in
    sym take ∙ ap (has word) (sym (split_names n below)) ∙ so_far

pub name_none : (n : ℕ) (word : Name) → 25 ≤ n → has word (drop n names) ≡ has word names → false ≡ has word names
name_none n word past so_far = sym (ap (has word) (drop_all n names (omega (arith, names_count, past)))) ∙ so_far

pub name_first : (word : Name) → has word (drop 0 names) ≡ has word names
name_first word = refl

pub entry_more : (n : ℕ) (old now : List Entry) (e : Entry) → old ≡ first_of n → e ≡ entry_at n → now ≡ old ++ e ∷ [] → now ≡ first_of (n + 1)
entry_more n old now e is same more = more ∙ ap (λ l. l ++ e ∷ []) is ∙ ap (λ x. first_of n ++ x ∷ []) same ∙ ap first_of (sym (add-one n))

pub ruleset limit_steps = (name_later, name_here, name_none, name_first, entry_more)
