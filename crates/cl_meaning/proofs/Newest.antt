-- Stacks: the list of the items, the newest first, is the reverse of the one in memory.
use Rattle.std.proofs.Common.{◌≡◌, ℕ, ◌-◌, min, List, [], ◌∷◌, ◌++◌, length, take, drop, reverse, sym, ap, ◌∙◌, arith}
use Rattle.std.proofs.lemmas.List.{append_assoc, reverse-append, reverse-reverse, length-reverse, length-drop, take-append-drop, take_at, drop_at, take_rest, take_min, drop_min}

-- what is left where the newest are dropped
pub kept : {X : Type 0} (xs : List X) (n m : ℕ) → m ≡ length xs - n → reverse (take m xs) ≡ drop n (reverse xs)
kept xs n m e =
    sym (drop_at (reverse (drop m xs)) (reverse (take m xs)) (min n (length (reverse xs))) (omega (arith, e, length-reverse (drop m xs), length-drop m xs, length-reverse xs)))
    ∙ ap (drop (min n (length (reverse xs)))) (sym (reverse-append (take m xs) (drop m xs)) ∙ ap reverse (take-append-drop m xs))
    ∙ drop_min n (reverse xs)

-- the newest, the newest last
pub newest_of : {X : Type 0} (xs : List X) (n m : ℕ) → m ≡ length xs - n → take (length xs - m) (drop m xs) ≡ reverse (take n (reverse xs))
newest_of xs n m e =
    take_rest xs m
    ∙ sym (reverse-reverse (drop m xs))
    ∙ ap reverse (
    sym (take_at (reverse (drop m xs)) (reverse (take m xs)) (min n (length (reverse xs))) (omega (arith, e, length-reverse (drop m xs), length-drop m xs, length-reverse xs)))
    ∙ ap (take (min n (length (reverse xs)))) (sym (reverse-append (take m xs) (drop m xs)) ∙ ap reverse (take-append-drop m xs))
    ∙ take_min n (reverse xs))

-- the last item of what is to be added goes on top
pub on_top : {X : Type 0} (old new : List X) (x : X) (st so_far : List X) → old ≡ new ++ x ∷ [] → so_far ≡ st ++ x ∷ [] → new ++ reverse so_far ≡ old ++ reverse st
on_top old new x st so_far e made =
    ap (λ z. new ++ reverse z) made ∙ ap (λ z. new ++ z) (reverse-append st (x ∷ [])) ∙ sym (append_assoc new (x ∷ []) (reverse st)) ∙ ap (λ z. z ++ reverse st) (sym e)
