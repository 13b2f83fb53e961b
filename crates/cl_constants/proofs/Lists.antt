-- Lists that loops make.
use Rattle.std.proofs.Common.{◌≡◌, ℕ, zero, suc, ◌+◌, ◌<◌, ◌≤◌, Some, None, Option, List, [], ◌∷◌, ◌++◌, length, get_or, drop, refl, sym, ap, ◌∙◌, arith, add-one, drop-cons, append_assoc}
use Rattle.std.proofs.lemmas.List.{drop_all, append-nil}
use Rattle.cl_types.specs.declared.operator.BinOp.{BinOp}
use Rattle.cl_builtins.specs.declared.kind.Gentype.{Gentype}
use Rattle.cl_tree.specs.Constants.{with, number_by, components_of, joined}

abbrev pub with_front : List ℕ → Option (List ℕ) → Option (List ℕ)
with_front ns None = None
with_front ns (Some ms) = Some (ns ++ ms)

pub record ComponentsGo (op : BinOp) (t : Gentype) (xs ys : List ℕ) (at : ℕ) (ns : List ℕ) : Type 0 where
  pub rest : with_front ns (components_of op t (drop at xs) (drop at ys)) ≡ components_of op t xs ys

pub components_begin : (op : BinOp) (t : Gentype) (xs ys : List ℕ) → ComponentsGo op t xs ys 0 []
components_begin op t xs ys = record { rest = by (components_of op t xs ys) }
  where
    by : (r : Option (List ℕ)) → with_front [] r ≡ r
    by None = refl
    by (Some ns) = refl

first_of : {A : Type 0} (xs : List A) (at : ℕ) (x d : A) → at < length xs → x ≡ get_or xs at d → drop at xs ≡ x ∷ drop (at + 1) xs
first_of xs at x d h e = drop-cons xs at d h ∙ ap (λ z. z ∷ drop (suc at) xs) (sym e) ∙ ap (λ n. x ∷ drop n xs) (sym (add-one at))

opened : (op : BinOp) (t : Gentype) (xs ys : List ℕ) (at : ℕ) (o : Option ℕ) → at < length xs → at < length ys → o ≡ number_by op t (get_or xs at 0) (get_or ys at 0) → components_of op t (drop at xs) (drop at ys) ≡ with o (components_of op t (drop (at + 1) xs) (drop (at + 1) ys))
opened op t xs ys at o h g e =
    ap (λ z. components_of op t z (drop at ys)) (first_of xs at (get_or xs at 0) 0 h refl)
    ∙ ap (λ z. components_of op t (get_or xs at 0 ∷ drop (at + 1) xs) z) (first_of ys at (get_or ys at 0) 0 g refl)
    ∙ ap (λ z. with z (components_of op t (drop (at + 1) xs) (drop (at + 1) ys))) (sym e)

front_more : (ns : List ℕ) (n : ℕ) (r : Option (List ℕ)) → with_front (ns ++ n ∷ []) r ≡ with_front ns (with (Some n) r)
front_more ns n None = refl
front_more ns n (Some ms) = ap Some (append_assoc ns (n ∷ []) ms)

pub components_more : (op : BinOp) (t : Gentype) (xs ys : List ℕ) (at : ℕ) (ns ms : List ℕ) (n : ℕ) → ComponentsGo op t xs ys at ns → at < length xs → at < length ys → Some n ≡ number_by op t (get_or xs at 0) (get_or ys at 0) → ms ≡ ns ++ n ∷ [] → ComponentsGo op t xs ys (at + 1) ms
components_more op t xs ys at ns ms n go h g e made = record {
  rest = ap (λ z. with_front z (components_of op t (drop (at + 1) xs) (drop (at + 1) ys))) made
      ∙ front_more ns n (components_of op t (drop (at + 1) xs) (drop (at + 1) ys))
      ∙ sym (ap (with_front ns) (opened op t xs ys at (Some n) h g e)) ∙ go.rest;
}

pub components_stop : (op : BinOp) (t : Gentype) (xs ys : List ℕ) (at : ℕ) (ns : List ℕ) → ComponentsGo op t xs ys at ns → at < length xs → at < length ys → None ≡ number_by op t (get_or xs at 0) (get_or ys at 0) → None ≡ components_of op t xs ys
components_stop op t xs ys at ns go h g e = sym (ap (with_front ns) (opened op t xs ys at None h g e)) ∙ go.rest

ended : (op : BinOp) (t : Gentype) (xs ys : List ℕ) → components_of op t xs [] ≡ Some []
ended op t [] ys = refl
ended op t (x ∷ xs) ys = refl

pub components_end_left : (op : BinOp) (t : Gentype) (xs ys : List ℕ) (at : ℕ) (ns : List ℕ) → ComponentsGo op t xs ys at ns → length xs ≤ at → Some ns ≡ components_of op t xs ys
components_end_left op t xs ys at ns go h =
    ap Some (sym (append-nil ns)) ∙ sym (ap (λ z. with_front ns (components_of op t z (drop at ys))) (drop_all at xs h)) ∙ go.rest

pub components_end_right : (op : BinOp) (t : Gentype) (xs ys : List ℕ) (at : ℕ) (ns : List ℕ) → ComponentsGo op t xs ys at ns → length ys ≤ at → Some ns ≡ components_of op t xs ys
components_end_right op t xs ys at ns go h =
    ap Some (sym (append-nil ns)) ∙ sym (ap (with_front ns) (ended op t (drop at xs) ys)) ∙ sym (ap (λ z. with_front ns (components_of op t (drop at xs) z)) (drop_all at ys h)) ∙ go.rest

pub joined_begin : (vs : List (List ℕ)) → [] ++ joined (drop 0 vs) ≡ joined vs
joined_begin vs = refl

pub joined_more : (vs : List (List ℕ)) (at : ℕ) (v ns ms : List ℕ) → ns ++ joined (drop at vs) ≡ joined vs → at < length vs → v ≡ get_or vs at v → ms ≡ ns ++ v → ms ++ joined (drop (at + 1) vs) ≡ joined vs
joined_more vs at v ns ms go h e made =
    ap (λ z. z ++ joined (drop (at + 1) vs)) made ∙ append_assoc ns v (joined (drop (at + 1) vs))
    ∙ sym (ap (λ z. ns ++ joined z) (first_of vs at v v h e)) ∙ go

pub joined_end : (vs : List (List ℕ)) (at : ℕ) (ns : List ℕ) → ns ++ joined (drop at vs) ≡ joined vs → length vs ≤ at → ns ≡ joined vs
joined_end vs at ns go h = sym (append-nil ns) ∙ sym (ap (λ z. ns ++ joined z) (drop_all at vs h)) ∙ go

pub ruleset components = (components_begin, components_more, components_stop, components_end_left, components_end_right)

pub ruleset joining = (joined_begin, joined_more, joined_end)
