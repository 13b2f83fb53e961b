-- Values joined one after another.
use Rattle.std.proofs.Common.{◌≡◌, ℕ, suc, ◌+◌, ◌<◌, ◌≤◌, List, [], ◌∷◌, ◌++◌, length, get_or, drop, refl, sym, ap, ◌∙◌, add-one, drop-cons, append_assoc}
use Rattle.std.proofs.lemmas.List.{drop_all, append-nil}
use Rattle.cl_tree.specs.Constants.{joined}

first_of : {A : Type 0} (xs : List A) (at : ℕ) (x d : A) → at < length xs → x ≡ get_or xs at d → drop at xs ≡ x ∷ drop (at + 1) xs
first_of xs at x d h e = drop-cons xs at d h ∙ ap (λ z. z ∷ drop (suc at) xs) (sym e) ∙ ap (λ n. x ∷ drop n xs) (sym (add-one at))

pub joined_begin : (vs : List (List ℕ)) → [] ++ joined (drop 0 vs) ≡ joined vs
joined_begin vs = refl

pub joined_more : (vs : List (List ℕ)) (at : ℕ) (v ns ms : List ℕ) → ns ++ joined (drop at vs) ≡ joined vs → at < length vs → v ≡ get_or vs at v → ms ≡ ns ++ v → ms ++ joined (drop (at + 1) vs) ≡ joined vs
joined_more vs at v ns ms go h e made =
    ap (λ z. z ++ joined (drop (at + 1) vs)) made ∙ append_assoc ns v (joined (drop (at + 1) vs))
    ∙ sym (ap (λ z. ns ++ joined z) (first_of vs at v v h e)) ∙ go

pub joined_end : (vs : List (List ℕ)) (at : ℕ) (ns : List ℕ) → ns ++ joined (drop at vs) ≡ joined vs → length vs ≤ at → ns ≡ joined vs
joined_end vs at ns go h = sym (append-nil ns) ∙ sym (ap (λ z. ns ++ joined z) (drop_all at vs h)) ∙ go

pub ruleset joining = (joined_begin, joined_more, joined_end)
