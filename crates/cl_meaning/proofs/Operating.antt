-- What operations make of the newest entries.
use Rattle.std.proofs.Common.{◌≡◌, ℕ, suc, ◌+◌, ◌-◌, ◌<◌, ◌≤◌, List, [], ◌∷◌, ◌++◌, map, reverse, refl, sym, ap, ◌∙◌, arith, append_assoc, add-one}
use Rattle.std.proofs.lemmas.List.{append-nil, map_push, reverse-append}
use Rattle.std.specs.Prelude.{Bool, Some, None, if◌then◌else◌, Result, Ok, Err, IfOk}
use Rattle.cl_types.specs.declared.types.ClType.{ClType}
use Rattle.cl_common.specs.Operators.{each_from}
use Rattle.cl_meaning.specs.Values.{Entry}
use Rattle.cl_meaning.specs.Operations.{Operation, operated}

pub map_reversed : {X Y : Type 0} (f : X → Y) (xs : List X) → map f (reverse xs) ≡ reverse (map f xs)
map_reversed f [] = refl
map_reversed f (x ∷ xs) =
    ap (map f) (reverse-append (x ∷ []) xs)
    ∙ map_push f (reverse xs) x
    ∙ ap (λ z. z ++ f x ∷ []) (map_reversed f xs)
    ∙ sym (reverse-append (f x ∷ []) (map f xs))

-- ---- the numbers below n: what is left makes the whole

pub record NumbersTo (n k : ℕ) (made : List ℕ) : Type 0 where
  pub rest : made ++ each_from (λ i. i) k (n - k) ≡ each_from (λ i. i) 0 n

pub numbers_begin : (n : ℕ) → NumbersTo n 0 []
numbers_begin n =
    let e : n - 0 ≡ n = omega arith in
    record { rest = ap (each_from (λ i. i) 0) e }

pub numbers_more : (n k : ℕ) (made new : List ℕ) → NumbersTo n k made → k < n → new ≡ made ++ k ∷ [] → NumbersTo n (k + 1) new
numbers_more n k made new to h e = record {
  rest =
      let less : n - k ≡ suc (n - (k + 1)) = omega arith in
      ap (λ z. z ++ each_from (λ i. i) (k + 1) (n - (k + 1))) e
      ∙ append_assoc made (k ∷ []) (each_from (λ i. i) (k + 1) (n - (k + 1)))
      ∙ ap (λ z. made ++ k ∷ each_from (λ i. i) z (n - (k + 1))) (add-one k)
      ∙ sym (ap (λ z. made ++ each_from (λ i. i) k z) less)
      ∙ to.rest;
}

pub numbers_end : (n k : ℕ) (made : List ℕ) → NumbersTo n k made → n ≤ k → made ≡ each_from (λ i. i) 0 n
numbers_end n k made to h =
    let e : n - k ≡ 0 = omega arith in
    sym (append-nil made) ∙ sym (ap (λ z. made ++ each_from (λ i. i) k z) e) ∙ to.rest

pub ruleset first = (numbers_begin, numbers_more, numbers_end)

-- ---- what holds for each table of types, at one of them

pub at_types : {E : Type 0} (op done : Operation) (old new : List Entry) (r : Result Bool E) (cs : List ClType) → op ≡ done → IfOk r (λ defined. (ts : List ClType) → operated ts done old ≡ (if defined then Some new else None)) → IfOk r (λ defined. operated cs op old ≡ (if defined then Some new else None))
at_types op done old new (Ok defined) cs e h = ap (λ z. operated cs z old) e ∙ h cs
at_types op done old new (Err error) cs e h = h
